-- Where the settlings of chunks begin and go on.
use Rattle.std.proofs.Common.{◌≡◌, inl, inr, ℕ, ◌+◌, ◌-◌, ◌<◌, ◌≤◌, true, false, IsTrue, List, length, find, Option, Some, None, IfSome, is_some, slice_get, slice_set, arith, refl, sym, ap, subst, ◌∙◌}
use Rattle.std.specs.List.{range_with_len}
use Rattle.std.proofs.lemmas.Bool.{cases_lt, false≢true}
use Rattle.std.proofs.lemmas.Option.{none-some, same_Some, slice_get_within}
use Rattle.pf_entry.proofs.Lists.{set_cases, set_there}
use Rattle.pf_mount_host.specs.pf_group_network.proofs.Lists.{set_elsewhere, set_length, something_there}
use Rattle.pf_protocol.specs.Groups.{Group}
use Rattle.pf_mount_host.specs.pf_group.specs.GroupIs.{GroupIs, state_of}
use Rattle.pf_mount_host.specs.pf_group.specs.Packets.{IsFirstLeft, is_left_in, least_from}
use Rattle.pf_mount_host.specs.pf_group.proofs.Leasts.{least_is}
use Rattle.pf_mount_host.specs.pf_group.proofs.PassedPackets.{least_found}
use Rattle.pf_mount_host.specs.pf_chunk.specs.Views.{ChunkIs, ChunkIsReady}
use Rattle.pf_mount_host.specs.pf_world_moments.specs.Steps.{AreReady}
use Rattle.pf_mount_host.specs.pf_world_moments.proofs.PortDrives.{one_by_one}
use Rattle.pf_world_hosts.specs.Nexts.{AllBegin, AllMoveUp, AreQuietBelow, SettlingBegins, IsNextChunk, MovesUp}
use Rattle.pf_world_hosts.proofs.SameChunks.{AreSame}

-- where a settling goes on is no part of what stands between two events
ready_with : (c : ChunkIs) (n : ℕ) → ChunkIsReady c → ChunkIsReady (record c { next = n })
ready_with c n ready = record {
  claims = ready.claims;
  applied = ready.applied;
  kept = ready.kept;
  few = ready.few;
  first_sent = ready.first_sent;
  none_left = ready.none_left;
}

before : (old new : List ChunkIs) → length new ≡ length old → (k : ℕ) (is : ChunkIs) → slice_get new k ≡ Some is → (was : ChunkIs) × (slice_get old k ≡ Some was)
before old new count k is at = something_there old k (subst (λ n. k < n) count (slice_get_within new k is at))

-- a settling begins
pub begin_same : (old new : List ChunkIs) → AllBegin old new → AreSame old new
begin_same old new b = record {
  count = b.count;
  each = λ k was is at to.
      let same = (b.each k was is at to).same in
      record { group = ap (λ (c : ChunkIs). c.group) same; waiting = ap (λ (c : ChunkIs). c.waiting) same; ports = ap (λ (c : ChunkIs). c.ports) same };
}

pub begin_ready : (old new : List ChunkIs) → AllBegin old new → AreReady old → AreReady new
begin_ready old new b ready k is at =
    let was = before old new b.count k is at in
    let begins = b.each k was.0 is was.1 at in
    (ap (λ (c : ChunkIs). c.group.number) begins.same ∙ (ready k was.0 was.1).0, begins.ready)

-- it moves up
moves_nowhere : (c : ChunkIs) → MovesUp c c
moves_nowhere c = record { same = refl; above = omega arith; sent = λ tells low. low; none = λ tells j low high. absurd (omega (arith, low, high)) }

moves_on : (a b c : ChunkIs) → MovesUp a b → MovesUp b c → MovesUp a c
moves_on a b c first second =
    let group : b.group ≡ a.group = ap (λ (x : ChunkIs). x.group) first.same in
    let told : IsTrue a.group.told → IsTrue b.group.told = subst (λ (g : GroupIs). IsTrue g.told) (sym group) in record {
      same = second.same ∙ ap (λ (x : ChunkIs). record x { next = c.next }) first.same;
      above = omega (arith, first.above, second.above);
      sent = λ tells low. subst (λ (g : GroupIs). c.next ≤ length (state_of g).packets) group
          (second.sent (told tells) (subst (λ (g : GroupIs). b.next ≤ length (state_of g).packets) (sym group) (first.sent tells low)));
      none = λ tells j low high. elim (cases_lt j b.next) [
        | inl under ↦ first.none tells j low under
        | inr from ↦ subst (λ (g : GroupIs). is_left_in (state_of g) j ≡ false) group (second.none (told tells) j from high)
      ];
    }

all_move_on : (a b c : List ChunkIs) → AllMoveUp a b → AllMoveUp b c → AllMoveUp a c
all_move_on a b c first second = record {
  count = second.count ∙ first.count;
  each = λ k x z at to.
      let y = before b c second.count k z to in
      moves_on x y.0 z (first.each k x y.0 at y.1) (second.each k y.0 z y.1 to);
}

pub move_same : (old new : List ChunkIs) → AllMoveUp old new → AreSame old new
move_same old new m = record {
  count = m.count;
  each = λ k was is at to.
      let same = (m.each k was is at to).same in
      record { group = ap (λ (c : ChunkIs). c.group) same; waiting = ap (λ (c : ChunkIs). c.waiting) same; ports = ap (λ (c : ChunkIs). c.ports) same };
}

pub move_ready : (old new : List ChunkIs) → AllMoveUp old new → AreReady old → AreReady new
move_ready old new m ready k is at =
    let was = before old new m.count k is at in
    let same = (m.each k was.0 is was.1 at).same in
    (ap (λ (c : ChunkIs). c.group.number) same ∙ (ready k was.0 was.1).0, subst ChunkIsReady (sym same) (ready_with was.0 is.next (ready k was.0 was.1).1))

-- no packet is left from the first one on that is left
quiet_from : (g : Group) (first k : ℕ) → IsFirstLeft g first k → None ≡ least_from first g → least_from k g ≡ None
quiet_from g first k is none = elim (cases_lt k (length g.packets)) [
  | inl low ↦ absurd (none-some k (none ∙ sym (least_is g first k is low)))
  | inr high ↦
      let over : length g.packets - k ≡ 0 = omega (arith, high) in
      ap (λ n. find (is_left_in g) (range_with_len k n)) over
]

-- The chunks are looked through

pub record LooksBelow (place : ℕ) (old now : List ChunkIs) : Type 0 where
  pub moved : AllMoveUp old now
  pub quiet : AreQuietBelow place now

module _ (place : ℕ) (old now : List ChunkIs) (so_far : LooksBelow place old now) (c is : ChunkIs) (there : slice_get now place ≡ Some c)
    (same : is ≡ record c { next = is.next }) (above : c.next ≤ is.next) (first : IsTrue c.group.told → IsFirstLeft (state_of c.group) c.next is.next) where
  moves : MovesUp c is
  moves = record { same = same; above = above; sent = λ tells. (first tells).sent; none = λ tells. (first tells).none }

  pub all_moved : AllMoveUp old (slice_set now place is)
  all_moved = all_move_on old now (slice_set now place is) so_far.moved
      (record { count = set_length now place is; each = one_by_one 0 place now c is there MovesUp moves moves_nowhere })

  -- no packet of this one is left
  pub looks_on : (r : Option ℕ) → (IsTrue c.group.told → r ≡ least_from c.next (state_of c.group)) → is_some r ≡ false → LooksBelow (place + 1) old (slice_set now place is)
  looks_on (Some k) least none = absurd (false≢true (sym none))
  looks_on None least none = record {
    moved = all_moved;
    quiet = λ k d low at. elim (set_cases now place is k d at) [
      | inl here ↦ subst (λ (x : ChunkIs). IsTrue x.group.told → least_from x.next (state_of x.group) ≡ None) here.1
          (subst (λ (x : ChunkIs). IsTrue x.group.told → least_from x.next (state_of x.group) ≡ None) (sym same)
          (λ tells. quiet_from (state_of c.group) c.next is.next (first tells) (least tells)))
      | inr other ↦ so_far.quiet k d (omega (arith, low, other.0)) other.1
    ];
  }

  -- one is
  pub found_next : (r : Option ℕ) → (IsTrue c.group.told → r ≡ least_from c.next (state_of c.group)) → IfSome r (λ k. is.next ≡ k) → IfSome r (λ k. k < 65536) → is_some r ≡ true → IsNextChunk place (slice_set now place is)
  found_next None least found few some = absurd (false≢true some)
  found_next (Some k) least found few some =
      let g = state_of c.group in
      let low : place < length now = slice_get_within now place c there in
      let last : (d : ChunkIs) → slice_get (slice_set now place is) place ≡ Some d → is ≡ d = λ d at. same_Some is d (sym (set_there now place c is there) ∙ at) in
      record {
        inside = omega (arith, low, set_length now place is);
        low = λ d at. subst (λ (x : ChunkIs). x.next < 65536) (last d at) (subst (λ n. n < 65536) (sym found) few);
        least = λ d at. subst (λ (x : ChunkIs). IsTrue x.group.told → least_from x.next (state_of x.group) ≡ Some x.next) (last d at)
            (subst (λ (x : ChunkIs). IsTrue x.group.told → least_from is.next (state_of x.group) ≡ Some is.next) (sym same) (λ tells.
            let it = least_found g c.next k (sym (least tells)) in
            let at_k : least_from k g ≡ Some k = sym (least_is g k k (record { above = omega arith; sent = λ low. low; none = λ j low high. absurd (omega (arith, low, high)); here = λ low. it.passes }) it.under) in
            subst (λ n. least_from n g ≡ Some n) (sym found) at_k));
        below = λ j d under at. so_far.quiet j d under (sym (set_elsewhere now place j is (λ e. omega (arith, under, e))) ∙ at);
      }

-- The settlings of the first chunks began

pub record BeginBelow (place : ℕ) (old now : List ChunkIs) : Type 0 where
  pub count : length now ≡ length old
  pub begun : (k : ℕ) (was is : ChunkIs) → k < place → slice_get old k ≡ Some was → slice_get now k ≡ Some is → SettlingBegins was is
  pub others : (k : ℕ) → place ≤ k → slice_get now k ≡ slice_get old k

pub none_begun : (chunks : List ChunkIs) → BeginBelow 0 chunks chunks
none_begun chunks = record { count = refl; begun = λ k was is low at to. absurd (omega (arith, low)); others = λ k high. refl }

pub one_begun : (place : ℕ) (old now : List ChunkIs) (c is : ChunkIs) → BeginBelow place old now → slice_get now place ≡ Some c → SettlingBegins c is → BeginBelow (place + 1) old (slice_set now place is)
one_begun place old now c is b there begins = record {
  count = set_length now place is ∙ b.count;
  begun = λ k was x low at to. elim (set_cases now place is k x to) [
    | inl here ↦
        let same : c ≡ was = same_Some c was (sym there ∙ b.others place (omega arith) ∙ ap (slice_get old) (sym here.0) ∙ at) in
        subst (λ (y : ChunkIs). SettlingBegins y x) same (subst (SettlingBegins c) here.1 begins)
    | inr other ↦ b.begun k was x (omega (arith, low, other.0)) at other.1
  ];
  others = λ k high. set_elsewhere now place k is (λ e. omega (arith, high, e)) ∙ b.others k (omega (arith, high));
}

pub all_begun : (place : ℕ) (old now : List ChunkIs) → BeginBelow place old now → length now ≤ place → AllBegin old now
all_begun place old now b high = record {
  count = b.count;
  each = λ k was is at to. let low = slice_get_within now k is to in b.begun k was is (omega (arith, low, high)) at to;
}
