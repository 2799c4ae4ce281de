-- The blocks of a position are registers where those of each half are.
use Rattle.std.proofs.Common.{◌≡◌, ◌≢◌, ℕ, zero, suc, ◌/◌, ◌<◌, ◌≤◌, ◌⊎◌, inl, inr, ◌==◌, Bool, true, false, cond, List, [], ◌∷◌, length, take, Option, Some, None, slice_get, arith, refl, sym, ap, subst, ◌∙◌}
use Rattle.std.proofs.lemmas.Bool.{cond-false, cond-true, eq-eqb, eqb-true, ne_eqb}
use Rattle.std.proofs.lemmas.Option.{none-some, same_Some}
use Rattle.pf_paxos.specs.declared.block.Block.{Block}
use Rattle.pf_paxos.specs.Blocks.{zero_block}
use Rattle.pf_paxos.specs.Registers.{AreRegisters, Ask, AsksRead, AsksWrite, Gives, ClientHasRead, HasWritten, AskIsAnswered, Reply, Turn, Written, asked_or, block_after, block_before, block_from, member}
use Rattle.pf_paxos.specs.Runs.{idle_turn}
use Rattle.pf_law_halves.specs.Halves.{AreBeside, AreOfHalf, IsAskOfHalf, IsEither, IsOfHalves}

-- a turn that is not of a block's half leaves the block
if_asked : (b : Bool) (block : Block) (ask : Option Ask) (client half : ℕ) → client / 8 ≢ half → (b ≡ true → IsAskOfHalf half client ask) → cond b (asked_or block ask) block ≡ block
if_asked false block ask client half other is = refl
if_asked true block None client half other is = refl
if_asked true block (Some (AsksRead k)) client half other is = refl
if_asked true block (Some (AsksWrite b)) client half other is = absurd (other (is refl).0)

stays : (client half : ℕ) (block : Block) (t : Turn) → client / 8 ≢ half → IsAskOfHalf half t.client t.ask → block_after client block t ≡ block
stays client half block t other is =
    if_asked (t.client == client) block t.ask client half other (λ same. subst (λ k. IsAskOfHalf half k t.ask) (eqb-true t.client client same) is)

idle_stays : (client : ℕ) (block : Block) → block_after client block idle_turn ≡ block
idle_stays client block = by (16 == client)
  where
    by : (b : Bool) → cond b block block ≡ block
    by true = refl
    by false = refl

-- a block of the low half
low_after : (client : ℕ) (block : Block) (t l h : Turn) → client / 8 ≡ 0 → IsAskOfHalf 1 h.client h.ask → IsEither t l h → block_after client block t ≡ block_after client block l
low_after client block t l h low is (inl its) = ap (block_after client block) (sym its.0)
low_after client block t l h low is (inr its) =
    stays client 1 block t (λ e. absurd (omega (arith, e, low))) (subst (λ (x : Turn). IsAskOfHalf 1 x.client x.ask) its.1 is)
    ∙ sym (idle_stays client block) ∙ ap (block_after client block) (sym its.0)

high_after : (client : ℕ) (block : Block) (t l h : Turn) → client / 8 ≡ 1 → IsAskOfHalf 0 l.client l.ask → IsEither t l h → block_after client block t ≡ block_after client block h
high_after client block t l h high is (inr its) = ap (block_after client block) (sym its.1)
high_after client block t l h high is (inl its) =
    stays client 0 block t (λ e. absurd (omega (arith, e, high))) (subst (λ (x : Turn). IsAskOfHalf 0 x.client x.ask) its.0 is)
    ∙ sym (idle_stays client block) ∙ ap (block_after client block) (sym its.1)

low_from : (client : ℕ) → client / 8 ≡ 0 → (t : ℕ) (block : Block) (whole low high : List Turn) → AreOfHalf 1 high → AreBeside whole low high → block_from client block (take t whole) ≡ block_from client block (take t low)
low_from client is zero block whole low high of_high beside = refl
low_from client is (suc t) block [] [] [] of_high beside = refl
low_from client is (suc t) block [] [] (h ∷ hs) of_high beside = absurd beside
low_from client is (suc t) block [] (l ∷ ls) highs of_high beside = absurd beside
low_from client is (suc t) block (x ∷ xs) [] highs of_high beside = absurd beside
low_from client is (suc t) block (x ∷ xs) (l ∷ ls) [] of_high beside = absurd beside
low_from client is (suc t) block (x ∷ xs) (l ∷ ls) (h ∷ hs) of_high beside =
    ap (λ (b : Block). block_from client b (take t xs)) (low_after client block x l h is of_high.0 beside.0)
    ∙ low_from client is t (block_after client block l) xs ls hs of_high.1 beside.1

high_from : (client : ℕ) → client / 8 ≡ 1 → (t : ℕ) (block : Block) (whole low high : List Turn) → AreOfHalf 0 low → AreBeside whole low high → block_from client block (take t whole) ≡ block_from client block (take t high)
high_from client is zero block whole low high of_low beside = refl
high_from client is (suc t) block [] [] [] of_low beside = refl
high_from client is (suc t) block [] [] (h ∷ hs) of_low beside = absurd beside
high_from client is (suc t) block [] (l ∷ ls) highs of_low beside = absurd beside
high_from client is (suc t) block (x ∷ xs) [] highs of_low beside = absurd beside
high_from client is (suc t) block (x ∷ xs) (l ∷ ls) [] of_low beside = absurd beside
high_from client is (suc t) block (x ∷ xs) (l ∷ ls) (h ∷ hs) of_low beside =
    ap (λ (b : Block). block_from client b (take t xs)) (high_after client block x l h is of_low.0 beside.0)
    ∙ high_from client is t (block_after client block h) xs ls hs of_low.1 beside.1

-- By moments

abbrev EitherAt : (whole low high : List Turn) → (k : ℕ) → Turn → Type 0
EitherAt whole low high k turn = ((slice_get low k ≡ Some turn) × (slice_get high k ≡ Some idle_turn)) ⊎ ((slice_get low k ≡ Some idle_turn) × (slice_get high k ≡ Some turn))

either_now : (t l h turn : Turn) → IsEither t l h → t ≡ turn → ((Some l ≡ Some turn) × (Some h ≡ Some idle_turn)) ⊎ ((Some l ≡ Some idle_turn) × (Some h ≡ Some turn))
either_now t l h turn (inl its) same = inl (ap (λ x. Some x) (its.0 ∙ same), ap (λ x. Some x) its.1)
either_now t l h turn (inr its) same = inr (ap (λ x. Some x) its.0, ap (λ x. Some x) (its.1 ∙ same))

either_at : (whole low high : List Turn) → AreBeside whole low high → (k : ℕ) (turn : Turn) → slice_get whole k ≡ Some turn → EitherAt whole low high k turn
either_at [] low high beside k turn at = absurd (none-some turn at)
either_at (x ∷ xs) [] high beside k turn at = absurd beside
either_at (x ∷ xs) (l ∷ ls) [] beside k turn at = absurd beside
either_at (x ∷ xs) (l ∷ ls) (h ∷ hs) beside zero turn at = either_now x l h turn beside.0 (same_Some x turn at)
either_at (x ∷ xs) (l ∷ ls) (h ∷ hs) beside (suc k) turn at = either_at xs ls hs beside.1 k turn at

-- and what stands in one half stands so in the whole, or is nobody's
whole_at : (whole low high : List Turn) → AreBeside whole low high → (k : ℕ) (l h : Turn) → slice_get low k ≡ Some l → slice_get high k ≡ Some h → (turn : Turn) × (slice_get whole k ≡ Some turn) × IsEither turn l h
whole_at [] [] [] beside k l h at_low at_high = absurd (none-some l at_low)
whole_at [] [] (y ∷ ys) beside k l h at_low at_high = absurd beside
whole_at [] (y ∷ ys) high beside k l h at_low at_high = absurd beside
whole_at (x ∷ xs) [] high beside k l h at_low at_high = absurd beside
whole_at (x ∷ xs) (y ∷ ys) [] beside k l h at_low at_high = absurd beside
whole_at (x ∷ xs) (y ∷ ys) (z ∷ zs) beside zero l h at_low at_high =
    (x, refl, subst (λ (a : Turn). IsEither x a h) (same_Some y l at_low) (subst (λ (a : Turn). IsEither x y a) (same_Some z h at_high) beside.0))
whole_at (x ∷ xs) (y ∷ ys) (z ∷ zs) beside (suc k) l h at_low at_high = whole_at xs ys zs beside.1 k l h at_low at_high

as_long_low : (whole low high : List Turn) → AreBeside whole low high → (k : ℕ) (h : Turn) → slice_get high k ≡ Some h → (l : Turn) × (slice_get low k ≡ Some l)
as_long_low [] [] [] beside k h at = absurd (none-some h at)
as_long_low [] [] (y ∷ ys) beside k h at = absurd beside
as_long_low [] (y ∷ ys) high beside k h at = absurd beside
as_long_low (x ∷ xs) [] high beside k h at = absurd beside
as_long_low (x ∷ xs) (y ∷ ys) [] beside k h at = absurd beside
as_long_low (x ∷ xs) (y ∷ ys) (z ∷ zs) beside zero h at = (y, refl)
as_long_low (x ∷ xs) (y ∷ ys) (z ∷ zs) beside (suc k) h at = as_long_low xs ys zs beside.1 k h at

as_long_high : (whole low high : List Turn) → AreBeside whole low high → (k : ℕ) (l : Turn) → slice_get low k ≡ Some l → (h : Turn) × (slice_get high k ≡ Some h)
as_long_high [] [] [] beside k l at = absurd (none-some l at)
as_long_high [] [] (y ∷ ys) beside k l at = absurd beside
as_long_high [] (y ∷ ys) high beside k l at = absurd beside
as_long_high (x ∷ xs) [] high beside k l at = absurd beside
as_long_high (x ∷ xs) (y ∷ ys) [] beside k l at = absurd beside
as_long_high (x ∷ xs) (y ∷ ys) (z ∷ zs) beside zero l at = (z, refl)
as_long_high (x ∷ xs) (y ∷ ys) (z ∷ zs) beside (suc k) l at = as_long_high xs ys zs beside.1 k l at

of_half_at : (half : ℕ) (turns : List Turn) → AreOfHalf half turns → (k : ℕ) (turn : Turn) → slice_get turns k ≡ Some turn → IsAskOfHalf half turn.client turn.ask
of_half_at half [] are k turn at = absurd (none-some turn at)
of_half_at half (t ∷ ts) are zero turn at = subst (λ (x : Turn). IsAskOfHalf half x.client x.ask) (same_Some t turn at) are.0
of_half_at half (t ∷ ts) are (suc k) turn at = of_half_at half ts are.1 k turn at

not_idle : (client : ℕ) (ask : Ask) (half : ℕ) → IsAskOfHalf half client (Some ask) → client ≢ 16
not_idle client (AsksWrite block) half is = is.1
not_idle client (AsksRead other) half is = is.1

one_half : (client : ℕ) (ask : Ask) (half other : ℕ) → IsAskOfHalf half client (Some ask) → IsAskOfHalf other client (Some ask) → half ≡ other
one_half client (AsksWrite block) half other is its = sym is.0 ∙ its.0
one_half client (AsksRead k) half other is its = sym is.0 ∙ its.0

module _ (whole low high : List Turn) (is : IsOfHalves whole low high) where
  -- the ask is of a half
  ask_is : (client asked answered : ℕ) (ask : Ask) (reply : Reply) (a : AskIsAnswered whole client asked answered ask reply)
      → (slice_get low asked ≡ Some a.turn × IsAskOfHalf 0 client (Some ask)) ⊎ (slice_get high asked ≡ Some a.turn × IsAskOfHalf 1 client (Some ask))
  ask_is client asked answered ask reply a = elim (either_at whole low high is.beside asked a.turn a.at) [
    | inl its ↦ inl (its.0, subst (λ k. IsAskOfHalf 0 k (Some ask)) a.its (subst (IsAskOfHalf 0 a.turn.client) a.asks (of_half_at 0 low is.of_low asked a.turn its.0)))
    | inr its ↦ inr (its.1, subst (λ k. IsAskOfHalf 1 k (Some ask)) a.its (subst (IsAskOfHalf 1 a.turn.client) a.asks (of_half_at 1 high is.of_high asked a.turn its.1)))
  ]

  -- who reads is somebody
  reader : (client half asked answered : ℕ) (blocks : List Block) → ClientHasRead whole client half asked answered blocks → client ≢ 16
  reader client half asked answered blocks r = elim (ask_is client asked answered (AsksRead half) (Gives blocks) r) [
    | inl its ↦ its.1.1
    | inr its ↦ its.1.1
  ]

  -- of a client who is somebody, what is there in between in one half is there in the whole
  none_low : (client asked answered : ℕ) → client ≢ 16 → ((k : ℕ) (other : Turn) → asked < k → k < answered → slice_get whole k ≡ Some other → other.client ≢ client)
      → (k : ℕ) (other : Turn) → asked < k → k < answered → slice_get low k ≡ Some other → other.client ≢ client
  none_low client asked answered some none k other after before at =
      let h = as_long_high whole low high is.beside k other at in
      let w = whole_at whole low high is.beside k other h.0 at h.1 in
      elim w.2 [
        | inl its ↦ subst (λ (x : Turn). x.client ≢ client) (sym its.0) (none k w.0 after before w.1)
        | inr its ↦ λ same. some (sym same ∙ ap (λ (x : Turn). x.client) its.0)
      ]

  none_high : (client asked answered : ℕ) → client ≢ 16 → ((k : ℕ) (other : Turn) → asked < k → k < answered → slice_get whole k ≡ Some other → other.client ≢ client)
      → (k : ℕ) (other : Turn) → asked < k → k < answered → slice_get high k ≡ Some other → other.client ≢ client
  none_high client asked answered some none k other after before at =
      let l = as_long_low whole low high is.beside k other at in
      let w = whole_at whole low high is.beside k l.0 other l.1 at in
      elim w.2 [
        | inr its ↦ subst (λ (x : Turn). x.client ≢ client) (sym its.1) (none k w.0 after before w.1)
        | inl its ↦ λ same. some (sym same ∙ ap (λ (x : Turn). x.client) its.1)
      ]

  answered_low : (client asked answered : ℕ) (ask : Ask) (reply : Reply) → AskIsAnswered whole client asked answered ask reply → IsAskOfHalf 0 client (Some ask) → AskIsAnswered low client asked answered ask reply
  answered_low client asked answered ask reply a of = record {
    turn = a.turn;
    at = elim (ask_is client asked answered ask reply a) [
      | inl its ↦ its.0
      | inr its ↦ absurd (omega (arith, one_half client ask 0 1 of its.1))
    ];
    its = a.its;
    asks = a.asks;
    next = a.next;
    at_next = is.answered 0 client asked answered ask reply (omega arith) of a;
    its_next = a.its_next;
    gives = a.gives;
    later = a.later;
    no_other = none_low client asked answered (not_idle client ask 0 of) a.no_other;
  }

  answered_high : (client asked answered : ℕ) (ask : Ask) (reply : Reply) → AskIsAnswered whole client asked answered ask reply → IsAskOfHalf 1 client (Some ask) → AskIsAnswered high client asked answered ask reply
  answered_high client asked answered ask reply a of = record {
    turn = a.turn;
    at = elim (ask_is client asked answered ask reply a) [
      | inr its ↦ its.0
      | inl its ↦ absurd (omega (arith, one_half client ask 1 0 of its.1))
    ];
    its = a.its;
    asks = a.asks;
    next = a.next;
    at_next = is.answered 1 client asked answered ask reply (omega arith) of a;
    its_next = a.its_next;
    gives = a.gives;
    later = a.later;
    no_other = none_high client asked answered (not_idle client ask 1 of) a.no_other;
  }

  -- Each half is registers

  module _ (lows : AreRegisters low) (highs : AreRegisters high) where
    seen_of : ℕ → ℕ → ℕ
    seen_of m block = cond (block / 8 == 0) (lows.seen m block) (highs.seen m block)

    seen_low : (m place : ℕ) → place < 8 → seen_of m (member 0 place) ≡ lows.seen m (member 0 place)
    unfolding seen_of
    seen_low m place inside = cond-true (member 0 place / 8 == 0) _ _ (eq-eqb (member 0 place / 8) 0 (omega (arith, inside)))

    seen_high : (m place : ℕ) → place < 8 → seen_of m (member 1 place) ≡ highs.seen m (member 1 place)
    unfolding seen_of
    seen_high m place inside = cond-false (member 1 place / 8 == 0) _ _ (ne_eqb (member 1 place / 8) 0 (λ e. absurd (omega (arith, e, inside))))

    before_low : (t place : ℕ) → place < 8 → block_before whole (member 0 place) t ≡ block_before low (member 0 place) t
    before_low t place inside = low_from (member 0 place) (omega (arith, inside)) t zero_block whole low high is.of_high is.beside

    before_high : (t place : ℕ) → place < 8 → block_before whole (member 1 place) t ≡ block_before high (member 1 place) t
    before_high t place inside = high_from (member 1 place) (omega (arith, inside)) t zero_block whole low high is.of_low is.beside

    -- what registers say of a read of a half
    record IsRegisterRead (half client asked answered : ℕ) (blocks : List Block) : Type 0 where
      eight : length blocks ≡ 8
      gives : (place : ℕ) → place < 8 → slice_get blocks place ≡ Some (block_before whole (member half place) (seen_of answered (member half place)))
      not_late : (place : ℕ) → place < 8 → seen_of answered (member half place) ≤ answered
      fresh : (place : ℕ) → place < 8 → (w done : ℕ) (block : Block) → HasWritten whole (member half place) w done block → done ≤ asked → w < seen_of answered (member half place)
      rising : (place : ℕ) → place < 8 → (other from to : ℕ) (given : List Block) → ClientHasRead whole other half from to given → to ≤ asked → seen_of to (member half place) ≤ seen_of answered (member half place)

    low_read : (client asked answered : ℕ) (blocks : List Block) → ClientHasRead whole client 0 asked answered blocks → IsAskOfHalf 0 client (Some (AsksRead 0)) → IsRegisterRead 0 client asked answered blocks
    low_read client asked answered blocks r of =
        let its = answered_low client asked answered (AsksRead 0) (Gives blocks) r of in record {
          eight = lows.whole client 0 asked answered blocks its;
          gives = λ place inside.
              lows.gives client 0 asked answered place blocks its inside
              ∙ ap (λ (b : Block). Some b) (sym (before_low (lows.seen answered (member 0 place)) place inside) ∙ ap (block_before whole (member 0 place)) (sym (seen_low answered place inside)));
          not_late = λ place inside. subst (λ k. k ≤ answered) (sym (seen_low answered place inside)) (lows.not_late client 0 asked answered place blocks its inside);
          fresh = λ place inside w done block wrote first.
              subst (λ k. w < k) (sym (seen_low answered place inside))
              (lows.fresh client 0 asked answered place blocks its inside w done block (answered_low (member 0 place) w done (AsksWrite block) Written wrote (omega (arith, inside), λ e. absurd (omega (arith, e, inside)))) first);
          rising = λ place inside other from to given earlier first.
              subst (λ k. k ≤ seen_of answered (member 0 place)) (sym (seen_low to place inside))
              (subst (λ k. lows.seen to (member 0 place) ≤ k) (sym (seen_low answered place inside))
              (lows.rising client 0 asked answered place blocks its inside other from to given (answered_low other from to (AsksRead 0) (Gives given) earlier (refl, reader other 0 from to given earlier)) first));
        }

    high_read : (client asked answered : ℕ) (blocks : List Block) → ClientHasRead whole client 1 asked answered blocks → IsAskOfHalf 1 client (Some (AsksRead 1)) → IsRegisterRead 1 client asked answered blocks
    high_read client asked answered blocks r of =
        let its = answered_high client asked answered (AsksRead 1) (Gives blocks) r of in record {
          eight = highs.whole client 1 asked answered blocks its;
          gives = λ place inside.
              highs.gives client 1 asked answered place blocks its inside
              ∙ ap (λ (b : Block). Some b) (sym (before_high (highs.seen answered (member 1 place)) place inside) ∙ ap (block_before whole (member 1 place)) (sym (seen_high answered place inside)));
          not_late = λ place inside. subst (λ k. k ≤ answered) (sym (seen_high answered place inside)) (highs.not_late client 1 asked answered place blocks its inside);
          fresh = λ place inside w done block wrote first.
              subst (λ k. w < k) (sym (seen_high answered place inside))
              (highs.fresh client 1 asked answered place blocks its inside w done block (answered_high (member 1 place) w done (AsksWrite block) Written wrote (omega (arith, inside), λ e. absurd (omega (arith, e, inside)))) first);
          rising = λ place inside other from to given earlier first.
              subst (λ k. k ≤ seen_of answered (member 1 place)) (sym (seen_high to place inside))
              (subst (λ k. highs.seen to (member 1 place) ≤ k) (sym (seen_high answered place inside))
              (highs.rising client 1 asked answered place blocks its inside other from to given (answered_high other from to (AsksRead 1) (Gives given) earlier (refl, reader other 1 from to given earlier)) first));
        }

    read_is : (client half asked answered : ℕ) (blocks : List Block) → ClientHasRead whole client half asked answered blocks → IsRegisterRead half client asked answered blocks
    read_is client half asked answered blocks r = elim (ask_is client asked answered (AsksRead half) (Gives blocks) r) [
      | inl its ↦ by_low half its.1.0 r its.1.1
      | inr its ↦ by_high half its.1.0 r its.1.1
    ]
      where
        by_low : (k : ℕ) → k ≡ 0 → ClientHasRead whole client k asked answered blocks → client ≢ 16 → IsRegisterRead k client asked answered blocks
        by_low k same read some = subst (λ n. ClientHasRead whole client n asked answered blocks → IsRegisterRead n client asked answered blocks) (sym same) (λ its. low_read client asked answered blocks its (refl, some)) read

        by_high : (k : ℕ) → k ≡ 1 → ClientHasRead whole client k asked answered blocks → client ≢ 16 → IsRegisterRead k client asked answered blocks
        by_high k same read some = subst (λ n. ClientHasRead whole client n asked answered blocks → IsRegisterRead n client asked answered blocks) (sym same) (λ its. high_read client asked answered blocks its (refl, some)) read

    registers : AreRegisters whole
    registers = record {
      seen = seen_of;
      whole = λ client half asked answered blocks r. (read_is client half asked answered blocks r).eight;
      gives = λ client half asked answered place blocks r inside. (read_is client half asked answered blocks r).gives place inside;
      not_late = λ client half asked answered place blocks r inside. (read_is client half asked answered blocks r).not_late place inside;
      fresh = λ client half asked answered place blocks r inside w done block wrote first. (read_is client half asked answered blocks r).fresh place inside w done block wrote first;
      rising = λ client half asked answered place blocks r inside other from to given earlier first. (read_is client half asked answered blocks r).rising place inside other from to given earlier first;
    }

pub halves_registers : (whole low high : List Turn) → IsOfHalves whole low high → AreRegisters low → AreRegisters high → AreRegisters whole
halves_registers whole low high is lows highs = registers whole low high is lows highs
