-- Registers stay registers where turns of nobody are left out. So what mounts handed on is nothing to the registers of their journal.
use Rattle.std.proofs.Common.{◌≡◌, ◌⊎◌, ℕ, zero, suc, ◌<◌, ◌≤◌, ◌==◌, if◌then◌else◌, inl, inr, List, [], ◌∷◌, take, Some, None, slice_get, arith, refl, sym, ap, ◌∙◌}
use Rattle.std.proofs.lemmas.Bool.{cases_lt}
use Rattle.std.proofs.lemmas.Option.{none-some, same_Some}
use Rattle.pf_entry.specs.Lists.{Every}
use Rattle.pf_entry.proofs.Cases.{by_test}
use Rattle.pf_entry.proofs.Lists.{every_get}
use Rattle.pf_paxos.specs.declared.block.Block.{Block}
use Rattle.pf_paxos.specs.Blocks.{zero_block}
use Rattle.pf_paxos.specs.Registers.{AreRegisters, Ask, AskIsAnswered, Reply, Turn, block_after, block_from, member}
use Rattle.pf_paxos.specs.Runs.{idle_turn}

-- the second list is the first one, but for some turns of nobody
pub data Thins : List Turn → List Turn → Type 0 where
  Ends : Thins [] []
  Keeps : (x : Turn) (xs ys : List Turn) → Thins xs ys → Thins (x ∷ xs) (x ∷ ys)
  Drops : (x : Turn) (xs ys : List Turn) → x ≡ idle_turn → Thins xs ys → Thins (x ∷ xs) ys

-- the moment of the first list at which stands what the second one has at this moment
up : (xs ys : List Turn) → Thins xs ys → ℕ → ℕ
up _ _ Ends i = i
up _ _ (Keeps x xs ys t) zero = zero
up _ _ (Keeps x xs ys t) (suc i) = suc (up xs ys t i)
up _ _ (Drops x xs ys idle t) i = suc (up xs ys t i)

-- how many turns of the second list stand before this moment of the first one
down : (xs ys : List Turn) → Thins xs ys → ℕ → ℕ
down _ _ Ends i = i
down _ _ (Keeps x xs ys t) zero = zero
down _ _ (Keeps x xs ys t) (suc i) = suc (down xs ys t i)
down _ _ (Drops x xs ys idle t) zero = zero
down _ _ (Drops x xs ys idle t) (suc i) = down xs ys t i

down_zero : (xs ys : List Turn) (t : Thins xs ys) → down xs ys t 0 ≡ 0
unfolding down
down_zero _ _ Ends = refl
down_zero _ _ (Keeps x xs ys t) = refl
down_zero _ _ (Drops x xs ys idle t) = refl

up_rises : (xs ys : List Turn) (t : Thins xs ys) (i j : ℕ) → i < j → up xs ys t i < up xs ys t j
unfolding up
up_rises _ _ Ends i j less = less
up_rises _ _ (Keeps x xs ys t) i zero less = absurd (omega (arith, less))
up_rises _ _ (Keeps x xs ys t) zero (suc j) less = omega arith
up_rises _ _ (Keeps x xs ys t) (suc i) (suc j) less = let rest = up_rises xs ys t i j (omega (arith, less)) in omega (arith, rest)
up_rises _ _ (Drops x xs ys idle t) i j less = let rest = up_rises xs ys t i j less in omega (arith, rest)

down_up : (xs ys : List Turn) (t : Thins xs ys) (i : ℕ) → down xs ys t (up xs ys t i) ≡ i
unfolding up down
down_up _ _ Ends i = refl
down_up _ _ (Keeps x xs ys t) zero = refl
down_up _ _ (Keeps x xs ys t) (suc i) = ap suc (down_up xs ys t i)
down_up _ _ (Drops x xs ys idle t) i = down_up xs ys t i

down_after : (xs ys : List Turn) (t : Thins xs ys) (i : ℕ) → down xs ys t (suc (up xs ys t i)) ≡ suc i
unfolding up down
down_after _ _ Ends i = refl
down_after _ _ (Keeps x xs ys t) zero = ap suc (down_zero xs ys t)
down_after _ _ (Keeps x xs ys t) (suc i) = ap suc (down_after xs ys t i)
down_after _ _ (Drops x xs ys idle t) i = down_after xs ys t i

down_rises : (xs ys : List Turn) (t : Thins xs ys) (i j : ℕ) → i ≤ j → down xs ys t i ≤ down xs ys t j
unfolding down
down_rises _ _ Ends i j le = le
down_rises _ _ (Keeps x xs ys t) zero j le = omega arith
down_rises _ _ (Keeps x xs ys t) (suc i) zero le = absurd (omega (arith, le))
down_rises _ _ (Keeps x xs ys t) (suc i) (suc j) le = let rest = down_rises xs ys t i j (omega (arith, le)) in omega (arith, rest)
down_rises _ _ (Drops x xs ys idle t) zero j le = omega arith
down_rises _ _ (Drops x xs ys idle t) (suc i) zero le = absurd (omega (arith, le))
down_rises _ _ (Drops x xs ys idle t) (suc i) (suc j) le = down_rises xs ys t i j (omega (arith, le))

get_up : (xs ys : List Turn) (t : Thins xs ys) (i : ℕ) (y : Turn) → slice_get ys i ≡ Some y → slice_get xs (up xs ys t i) ≡ Some y
unfolding up
get_up _ _ Ends i y at = at
get_up _ _ (Keeps x xs ys t) zero y at = at
get_up _ _ (Keeps x xs ys t) (suc i) y at = get_up xs ys t i y at
get_up _ _ (Drops x xs ys idle t) i y at = get_up xs ys t i y at

-- a turn of the first list is nobody's, or stands in the second
abbrev IsKept : (xs ys : List Turn) → Thins xs ys → (k : ℕ) → Turn → Type 0
IsKept xs ys t k y = (y ≡ idle_turn) ⊎ ((slice_get ys (down xs ys t k) ≡ Some y) × (up xs ys t (down xs ys t k) ≡ k))

kept : (xs ys : List Turn) (t : Thins xs ys) (k : ℕ) (y : Turn) → slice_get xs k ≡ Some y → IsKept xs ys t k y
unfolding up down
kept _ _ Ends k y at = absurd (none-some y at)
kept _ _ (Keeps x xs ys t) zero y at = inr (at, refl)
kept _ _ (Keeps x xs ys t) (suc k) y at = elim (kept xs ys t k y at) [
  | inl idle ↦ inl idle
  | inr there ↦ inr (there.0, ap suc there.1)
]
kept _ _ (Drops x xs ys idle t) zero y at = inl (sym (same_Some x y at) ∙ idle)
kept _ _ (Drops x xs ys idle t) (suc k) y at = elim (kept xs ys t k y at) [
  | inl nobody ↦ inl nobody
  | inr there ↦ inr (there.0, ap suc there.1)
]

idle_leaves : (client : ℕ) (block : Block) → block_after client block idle_turn ≡ block
idle_leaves client block = by_test (16 == client) (λ b. (if b then block else block) ≡ block) (λ _. refl) (λ _. refl)

blocks_same : (xs ys : List Turn) (t : Thins xs ys) (client : ℕ) (block : Block) (s : ℕ) → block_from client block (take s xs) ≡ block_from client block (take (down xs ys t s) ys)
unfolding down
blocks_same _ _ Ends client block zero = refl
blocks_same _ _ Ends client block (suc s) = refl
blocks_same _ _ (Keeps x xs ys t) client block zero = refl
blocks_same _ _ (Keeps x xs ys t) client block (suc s) = blocks_same xs ys t client (block_after client block x) s
blocks_same _ _ (Drops x xs ys idle t) client block zero = refl
blocks_same _ _ (Drops x xs ys idle t) client block (suc s) =
    ap (λ b. block_from client b (take s xs)) (ap (block_after client block) idle ∙ idle_leaves client block) ∙ blocks_same xs ys t client block s

-- nobody asks
abbrev pub IsSomebody : Turn → Type 0
IsSomebody turn = turn.client ≡ 16 → turn.ask ≡ None

module _ (xs ys : List Turn) (t : Thins xs ys) (somebody : Every IsSomebody ys) where
  up_le : (i j : ℕ) → i ≤ j → up xs ys t i ≤ up xs ys t j
  up_le i j le = elim (cases_lt i j) [
    | inl less ↦ let rises = up_rises xs ys t i j less in omega (arith, rises)
    | inr not_less ↦ let same : i ≡ j = omega (arith, le, not_less) in let one = ap (up xs ys t) same in omega (arith, one)
  ]

  lifted : (client asked answered : ℕ) (ask : Ask) (reply : Reply) → AskIsAnswered ys client asked answered ask reply → AskIsAnswered xs client (up xs ys t asked) (up xs ys t answered) ask reply
  lifted client asked answered ask reply is = record {
    turn = is.turn;
    at = get_up xs ys t asked is.turn is.at;
    its = is.its;
    asks = is.asks;
    next = is.next;
    at_next = get_up xs ys t answered is.next is.at_next;
    its_next = is.its_next;
    gives = is.gives;
    later = up_rises xs ys t asked answered is.later;
    no_other = λ k other above below at same. elim (kept xs ys t k other at) [
      | inl idle ↦
          let nobody : is.turn.client ≡ 16 = is.its ∙ sym same ∙ ap (λ (x : Turn). x.client) idle in
          none-some ask (sym (every_get IsSomebody ys asked is.turn somebody is.at nobody) ∙ is.asks)
      | inr there ↦
          let n = down xs ys t k in
          let after = down_rises xs ys t (suc (up xs ys t asked)) k (omega (arith, above)) in
          let first = down_after xs ys t asked in
          let before : n < answered = elim (cases_lt n answered) [
            | inl sooner ↦ sooner
            | inr not_sooner ↦
                let high = up_le answered n (omega (arith, not_sooner)) in absurd (omega (arith, high, there.1, below))
          ] in
          is.no_other n other (omega (arith, after, first)) before there.0 same
    ];
  }

  pub thinned : AreRegisters xs → AreRegisters ys
  thinned are = record {
    seen = λ answered client. down xs ys t (are.seen (up xs ys t answered) client);
    whole = λ client half asked answered blocks read. are.whole client half (up xs ys t asked) (up xs ys t answered) blocks (lifted client asked answered _ _ read);
    gives = λ client half asked answered place blocks read low.
        are.gives client half (up xs ys t asked) (up xs ys t answered) place blocks (lifted client asked answered _ _ read) low
        ∙ ap (λ b. Some b) (blocks_same xs ys t (member half place) zero_block (are.seen (up xs ys t answered) (member half place)));
    not_late = λ client half asked answered place blocks read low.
        let late = are.not_late client half (up xs ys t asked) (up xs ys t answered) place blocks (lifted client asked answered _ _ read) low in
        let least = down_rises xs ys t (are.seen (up xs ys t answered) (member half place)) (up xs ys t answered) late in
        let same = down_up xs ys t answered in omega (arith, least, same);
    fresh = λ client half asked answered place blocks read low w done block written earlier.
        let less = are.fresh client half (up xs ys t asked) (up xs ys t answered) place blocks (lifted client asked answered _ _ read) low (up xs ys t w) (up xs ys t done) block (lifted (member half place) w done _ _ written) (up_le done asked earlier) in
        let after = down_rises xs ys t (suc (up xs ys t w)) (are.seen (up xs ys t answered) (member half place)) (omega (arith, less)) in
        let first = down_after xs ys t w in omega (arith, after, first);
    rising = λ client half asked answered place blocks read low other from to given its earlier.
        down_rises xs ys t (are.seen (up xs ys t to) (member half place)) (are.seen (up xs ys t answered) (member half place))
        (are.rising client half (up xs ys t asked) (up xs ys t answered) place blocks (lifted client asked answered _ _ read) low other (up xs ys t from) (up xs ys t to) given (lifted other from to _ _ its) (up_le to asked earlier));
  }
