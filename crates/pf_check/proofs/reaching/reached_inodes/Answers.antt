use Rattle.std.proofs.Common.{◌≡◌, ◌≤◌, ◌<◌, ◌+◌, ◌∙◌, [], ap, sym, subst, get_or, length, List, ℕ, arith}
use Rattle.std.proofs.lemmas.List.{get_or_default}
use Rattle.pf_tree_tables.specs.declared.tables.DirectoryEntry.{DirectoryEntry}
use Rattle.pf_tree_tables.specs.Tables.{names_in}
use Rattle.pf_check.specs.Walks.{Front, front_of, is_seen, front_reaches, reach_all}
use Rattle.pf_check.proofs.Fronts.{IsFront, Begins, begins, next_front, next_root, end_seen}
use Rattle.pf_check.proofs.reaching.reached_inodes.Goals as goal

pub loop-number-init : goal.loop-number-init
loop-number-init c =
    let t = c.args.tables.now in
    let is : front_of c.reach.new.seen.items c.reach.new.queue.items ≡ front_reaches (front_of c.in_ok-seen.seen.items []) 0 =
    c.in_ok-reach.ensures.front ∙ ap (λ (queue : List ℕ). front_reaches (front_of c.in_ok-seen.seen.items queue) 0) c.new-queue.ensures.items in
    let b : Begins t (front_of c.reach.new.seen.items c.reach.new.queue.items) =
    subst (λ (f : Front). Begins t f) (sym is) (begins t c.in_ok-seen.seen.items c.in_ok-seen.ensures) in
    record { front = b.front; root = b.root }

pub loop-number-preserved : goal.loop-number-preserved
loop-number-preserved c =
    let t = c.args.tables.now in
    let f = front_of c.loop-number.seen.items c.loop-number.queue.items in
    let d = c.index-directory.result.now in
    let n = c.loop-number.number in
    let within : n < length c.loop-number.queue.items = omega arith in
    let is : d ≡ get_or c.loop-number.queue.items n 0 = c.index-directory.ensures ∙ get_or_default c.loop-number.queue.items n d 0 within in
    let few : (k : ℕ) (x : DirectoryEntry) → k < length (names_in t.entries d) → (get_or (names_in t.entries d) k x).inode < 65536 =
    subst (λ (rows : List DirectoryEntry). (k : ℕ) (x : DirectoryEntry) → k < length rows → (get_or rows k x).inode < 65536) c.names_in.ensures c.in_ok-reach_all.ensures.low in
    let same : front_of c.reach_all.new.seen.items c.reach_all.new.queue.items ≡ reach_all f (names_in t.entries d) =
    c.in_ok-reach_all.ensures.front ∙ ap (reach_all f) c.names_in.ensures in
    let distinct = c.numbers-number-end.ensures.raw.names d in
    record {
      front = subst (λ (g : Front). IsFront t g (n + 1)) (sym same) (next_front t f n d distinct c.loop-number.invariant.front within is few);
      root = ap (λ (g : Front). is_seen g.seen 0) same ∙ next_root t f n d distinct c.loop-number.invariant.front within is few c.loop-number.invariant.root;
    }

pub returns-then-passed-len : goal.returns-then-passed-len
returns-then-passed-len c =
    let over : length c.loop-number.queue.items ≤ c.loop-number.number = omega arith in
    end_seen c.args.tables.now (front_of c.loop-number.seen.items c.loop-number.queue.items) c.loop-number.number c.loop-number.invariant.front over c.loop-number.invariant.root

pub returns : goal.returns
returns c =
    let balance = c.loop-number.invariant.front.balance in
    let over : length c.loop-number.queue.items ≤ c.loop-number.number = omega (arith, balance) in
    end_seen c.args.tables.now (front_of c.loop-number.seen.items c.loop-number.queue.items) c.loop-number.number c.loop-number.invariant.front over c.loop-number.invariant.root
