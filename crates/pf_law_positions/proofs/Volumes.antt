-- Where positions lie, and what their asks are.
use Rattle.std.proofs.Common.{◌≡◌, ℕ, zero, suc, ◌+◌, ◌-◌, ◌*◌, ◌/◌, ◌%◌, ◌<◌, ◌≤◌, inl, inr, true, false, ◌&&◌, List, [], ◌∷◌, length, Option, Some, None, nat_le, nat_lt, slice_get, arith, refl, sym, ap, subst, ◌∙◌}
use Rattle.std.proofs.lemmas.Bool.{cases_lt, le-leb, lt-ltb, and_from, and_left, and_right, cond-true, cond-false, eq-eqb, ne_eqb}
use Rattle.std.proofs.lemmas.Nat.{mod-mul-add}
use Rattle.pf_entry.specs.Ops.{Sector, writes}
use Rattle.pf_protocol.specs.LastWriters.{bytes_for}
use Rattle.pf_law_registers.specs.Orders.{given}
use Rattle.pf_paxos.specs.declared.block.Block.{Block}
use Rattle.pf_paxos.specs.Registers.{AsksRead, AsksWrite, Turn, AreRegisters, ClientHasRead}
use Rattle.pf_paxos.specs.Journals.{ProposerDoing, new_proposer_journal, proposer_journal_before, proposer_event_at, proposer_events_at, turns_at, AreAllRegisters}
use Rattle.pf_paxos.proofs.Moments.{turn_at, turn_past}
use Rattle.pf_paxos.proofs.JournalPositions.{position_run, position_event, position_past}
use Rattle.pf_law_registers.proofs.Lists.{something_there, length_mapped}
use Rattle.std.specs.Option.{option_map}
use Rattle.std.proofs.lemmas.Option.{same_Some, none-some, slice_get-map, slice_get_within, slice_get_past}
use Rattle.pf_paxos.specs.Runs.{ProposerEvent, idle_turn, proposers_opening, proposer_turn, turns_of}
use Rattle.pf_paxos.specs.Deciding.{Decides}
use Rattle.pf_paxos.proofs.RegisterAgreement.{one_decision}
use Rattle.pf_law_positions.specs.Deeds.{Puts, Gets, Groups, Deed}
use Rattle.pf_law_positions.specs.Homes.{PositionHome, chunk_of_block, sector_of, is_half, ask_in, turn_in, turns_in}
use Rattle.pf_law_positions.specs.Hosted.{IsHosted}
use Rattle.pf_law_positions.specs.Volumes.{home_of_position, IsSameJournal, IsHostedJournal}
use Rattle.pf_law_positions.specs.Asked.{block_op, half_range, HalvesAreApart}
use Rattle.pf_law_positions.proofs.DeedTurns.{asks_own}
use Rattle.pf_law_positions.proofs.CopiedBlocks.{registers}

same_lists : {X : Type 0} → (xs ys : List X) → ((k : ℕ) → slice_get xs k ≡ slice_get ys k) → xs ≡ ys
same_lists [] [] same = refl
same_lists [] (y ∷ ys) same = absurd (none-some y (same 0))
same_lists (x ∷ xs) [] same = absurd (none-some x (sym (same 0)))
same_lists (x ∷ xs) (y ∷ ys) same =
    let rest = same_lists xs ys (λ k. same (suc k)) in
    let head = same_Some x y (same 0) in
    ap (λ z. z ∷ xs) head ∙ ap (λ zs. y ∷ zs) rest

module _ (read : Sector → Block) (sectors count : ℕ) (deeds : List Deed) (doings : List ProposerDoing) (is : IsSameJournal read sectors count deeds doings) (position : ℕ) (low : position < count) where
  turn_there : (k : ℕ) (doing : ProposerDoing) → slice_get doings k ≡ Some doing → slice_get (turns_at position doings) k ≡ slice_get (turns_in read (home_of_position sectors position) deeds) k
  turn_there k doing at =
      let d = something_there deeds k (omega (arith, is.as_many, slice_get_within doings k doing at)) in
      turn_at proposers_opening k (proposer_events_at position doings) (proposer_event_at position (proposer_journal_before doings k) doing) (position_event position k new_proposer_journal doings doing at)
      ∙ ap (λ ps. Some (proposer_turn ps (proposer_event_at position (proposer_journal_before doings k) doing))) (position_run position k new_proposer_journal doings)
      ∙ ap (λ t. Some t) (is.same position k doing d.0 low at d.1)
      ∙ sym (slice_get-map (λ deed. turn_in read (home_of_position sectors position) deed) deeds k ∙ ap (option_map (λ deed. turn_in read (home_of_position sectors position) deed)) d.1)

  none_there : (k : ℕ) → slice_get doings k ≡ None → slice_get (turns_at position doings) k ≡ slice_get (turns_in read (home_of_position sectors position) deeds) k
  none_there k at =
      turn_past proposers_opening k (proposer_events_at position doings) (position_past position k new_proposer_journal doings at)
      ∙ sym (slice_get_past (turns_in read (home_of_position sectors position) deeds) k (omega (arith, length_mapped (λ deed. turn_in read (home_of_position sectors position) deed) deeds, is.as_many, past)))
    where
      past : length doings ≤ k
      past = elim (cases_lt k (length doings)) [
        | inr reached ↦ reached
        | inl before ↦ let d = something_there doings k before in absurd (none-some d.0 (sym at ∙ d.1))
      ]

  pub told : turns_at position doings ≡ turns_in read (home_of_position sectors position) deeds
  told = same_lists (turns_at position doings) (turns_in read (home_of_position sectors position) deeds) each
    where
      each : (k : ℕ) → slice_get (turns_at position doings) k ≡ slice_get (turns_in read (home_of_position sectors position) deeds) k
      each k = by (slice_get doings k) refl
        where
          by : (o : Option ProposerDoing) → slice_get doings k ≡ o → slice_get (turns_at position doings) k ≡ slice_get (turns_in read (home_of_position sectors position) deeds) k
          by None at = none_there k at
          by (Some doing) at = turn_there k doing at

pub turns_told : (read : Sector → Block) (sectors count : ℕ) (deeds : List Deed) (doings : List ProposerDoing) → IsSameJournal read sectors count deeds doings → (position : ℕ) → position < count → turns_at position doings ≡ turns_in read (home_of_position sectors position) deeds
turns_told read sectors count deeds doings is position low = told read sectors count deeds doings is position low

-- past the last position all turns are nobody's
module _ (read : Sector → Block) (sectors count : ℕ) (deeds : List Deed) (doings : List ProposerDoing) (is : IsSameJournal read sectors count deeds doings) (position : ℕ) (past : count ≤ position) where
  idle_there : (k : ℕ) (doing : ProposerDoing) → slice_get doings k ≡ Some doing → slice_get (turns_at position doings) k ≡ Some idle_turn
  idle_there k doing at =
      turn_at proposers_opening k (proposer_events_at position doings) (proposer_event_at position (proposer_journal_before doings k) doing) (position_event position k new_proposer_journal doings doing at)
      ∙ ap (λ ps. Some (proposer_turn ps (proposer_event_at position (proposer_journal_before doings k) doing))) (position_run position k new_proposer_journal doings)
      ∙ ap (λ t. Some t) (is.none position k doing past at)

  all_idle : (k : ℕ) (turn : Turn) → slice_get (turns_at position doings) k ≡ Some turn → turn ≡ idle_turn
  all_idle k turn at = by (slice_get doings k) refl
    where
      by : (o : Option ProposerDoing) → slice_get doings k ≡ o → turn ≡ idle_turn
      by None none = absurd (none-some turn (sym (turn_past proposers_opening k (proposer_events_at position doings) (position_past position k new_proposer_journal doings none)) ∙ at))
      by (Some doing) there = sym (same_Some idle_turn turn (sym (idle_there k doing there) ∙ at))

-- who is never asked nor answered is a register
module _ (history : List Turn) (idle : (k : ℕ) (turn : Turn) → slice_get history k ≡ Some turn → turn ≡ idle_turn) where
  no_read : (client half asked answered : ℕ) (blocks : List Block) → ClientHasRead history client half asked answered blocks → ⊥
  no_read client half asked answered blocks r = none-some (AsksRead half) (sym (ap (λ (t : Turn). t.ask) (idle asked r.turn r.at)) ∙ r.asks)

  idle_registers : AreRegisters history
  idle_registers = record {
    seen = λ moment client. 0;
    whole = λ client half asked answered blocks r. absurd (no_read client half asked answered blocks r);
    gives = λ client half asked answered place blocks r. absurd (no_read client half asked answered blocks r);
    not_late = λ client half asked answered place blocks r. absurd (no_read client half asked answered blocks r);
    fresh = λ client half asked answered place blocks r. absurd (no_read client half asked answered blocks r);
    rising = λ client half asked answered place blocks r. absurd (no_read client half asked answered blocks r);
  }

pub journal : (groups : Groups) (read : Sector → Block) (sectors count : ℕ) (deeds : List Deed) (doings : List ProposerDoing) → IsHostedJournal groups read sectors count deeds doings → AreAllRegisters doings
journal groups read sectors count deeds doings j position = elim (cases_lt position count) [
  | inl low ↦ subst AreRegisters (sym (told read sectors count deeds doings j.same position low)) (registers groups read (home_of_position sectors position) deeds (j.hosted position low))
  | inr past ↦ idle_registers (turns_at position doings) (all_idle read sectors count deeds doings j.same position past)
]

-- eights in eights
eights : (n k : ℕ) → 0 < k → (8 * n) % (8 * k) ≡ 8 * (n % k)
eights n k some =
    let parts : n ≡ k * (n / k) + n % k = omega (arith, some) in
    let less : n % k < k = omega (arith, some) in
    let whole : 8 * n ≡ (n / k) * (8 * k) + 8 * (n % k) = grind (arith, parts) in
    ap (λ m. m % (8 * k)) whole ∙ mod-mul-add (n / k) (8 * k) (8 * (n % k)) (omega (arith, less))

pub inside : (sectors blocks position half : ℕ) → sectors ≡ 8 * blocks → 0 < blocks → (home_of_position sectors position).first half + 8 ≤ sectors
inside sectors blocks position half is some =
    let e : (8 * (1 + 2 * position + half)) % sectors ≡ 8 * ((1 + 2 * position + half) % blocks) = ap (λ s. (8 * (1 + 2 * position + half)) % s) is ∙ eights (1 + 2 * position + half) blocks some in
    let less : (1 + 2 * position + half) % blocks < blocks = omega (arith, some) in
    omega (arith, e, less, is)

-- one after the other leaves another rest
next_rest : (n k : ℕ) → 1 < k → n % k ≡ (n + 1) % k → ⊥
next_rest n k many same =
    let parts : n ≡ k * (n / k) + n % k = omega (arith, many) in
    let less : n % k < k = omega (arith, many) in
    elim (cases_lt (n % k + 1) k) [
      | inl below ↦
          let whole : n + 1 ≡ (n / k) * k + (n % k + 1) = grind (arith, parts) in
          let next = ap (λ m. m % k) whole ∙ mod-mul-add (n / k) k (n % k + 1) below in
          omega (arith, next, same)
      | inr reached ↦
          let last : n % k + 1 ≡ k = omega (arith, less, reached) in
          let whole : n + 1 ≡ (n / k + 1) * k + 0 = grind (arith, parts, last) in
          let next = ap (λ m. m % k) whole ∙ mod-mul-add (n / k + 1) k 0 (omega (arith, many)) in
          omega (arith, next, same, last, many)
    ]

pub apart : (sectors blocks position : ℕ) → sectors ≡ 8 * blocks → 1 < blocks → HalvesAreApart (home_of_position sectors position)
apart sectors blocks position is many = inr (λ same.
    let some : 0 < blocks = omega (arith, many) in
    let low = ap (λ s. (8 * (1 + 2 * position + 0)) % s) is ∙ eights (1 + 2 * position + 0) blocks some in
    let high = ap (λ s. (8 * (1 + 2 * position + 1)) % s) is ∙ eights (1 + 2 * position + 1) blocks some in
    let plus : 1 + 2 * position + 0 + 1 ≡ 1 + 2 * position + 1 = omega arith in
    next_rest (1 + 2 * position + 0) blocks many (omega (arith, low, high, same, ap (λ m. m % blocks) plus)))

sub-self : (n : ℕ) → n - n ≡ 0
sub-self n = omega arith

given_block : (spell : Block → Sector) (home : PositionHome) (client : ℕ) (block : Block) → given (block_op spell home client block) (sector_of home client) ≡ Some (spell block)
unfolding given writes bytes_for
given_block spell home client block =
    cond-true (nat_le (sector_of home client) (sector_of home client) && nat_lt (sector_of home client) (sector_of home client + 1)) (slice_get (spell block ∷ []) (sector_of home client - sector_of home client)) None (and_from _ _ (le-leb (sector_of home client) (sector_of home client) (omega arith)) (lt-ltb (sector_of home client) (sector_of home client + 1) (omega arith)))
    ∙ ap (slice_get (spell block ∷ [])) (sub-self (sector_of home client))

pub spelled : (read : Sector → Block) (spell : Block → Sector) (home : PositionHome) (client : ℕ) (block : Block) → client < 16 → read (spell block) ≡ block → ask_in read home client (Puts (chunk_of_block home client) (block_op spell home client block)) ≡ Some (AsksWrite block)
spelled read spell home client block low same = asks_own read home client (block_op spell home client block) (spell block) low (given_block spell home client block) ∙ ap (λ b. Some (AsksWrite b)) same

its_half : (home : PositionHome) (half : ℕ) → is_half home half (home.chunk half) (half_range home half) ≡ true
its_half home half = and_from _ _ (eq-eqb (home.chunk half) (home.chunk half) refl) (and_from _ _ (eq-eqb (home.first half) (home.first half) refl) refl)

-- half 1 is not where half 0 is
not_first : (home : PositionHome) → HalvesAreApart home → is_half home 0 (home.chunk 1) (half_range home 1) ≡ false
not_first home (inl chunks) = and_left _ _ (ne_eqb (home.chunk 1) (home.chunk 0) (λ e. chunks (sym e)))
not_first home (inr firsts) = and_right _ _ (and_left _ _ (ne_eqb (home.first 1) (home.first 0) (λ e. firsts (sym e))))

pub halves : (read : Sector → Block) (home : PositionHome) (client half : ℕ) → half < 2 → HalvesAreApart home → ask_in read home client (Gets (home.chunk half) (half_range home half)) ≡ Some (AsksRead half)
halves read home client zero low apart = cond-true _ _ _ (its_half home 0)
halves read home client (suc zero) low apart = cond-false _ _ _ (not_first home apart) ∙ cond-true _ _ _ (its_half home 1)
halves read home client (suc (suc half)) low apart = absurd (omega (arith, low))

pub one_value : (groups : Groups) (read : Sector → Block) (home : PositionHome) (deeds : List Deed) (events : List ProposerEvent) → IsHosted groups read home deeds → turns_of events ≡ turns_in read home deeds → (a b : ℕ) (v w : List ℕ) → Decides (turns_in read home deeds) a v → Decides (turns_in read home deeds) b w → v ≡ w
one_value groups read home deeds events hosted same a b v w one two =
    one_decision events (subst AreRegisters (sym same) (registers groups read home deeds hosted)) a b v w (subst (λ turns. Decides turns a v) (sym same) one) (subst (λ turns. Decides turns b w) (sym same) two)
