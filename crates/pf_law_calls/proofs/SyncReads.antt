-- What a sync's reads are in the history of a position: asked since a moment, and answered with no nonzero bal.
use Rattle.std.proofs.Common.{◌≡◌, ◌≢◌, ℕ, zero, suc, ◌<◌, ◌≤◌, ◌==◌, Bool, true, false, ◌||◌, nat_lt, if◌then◌else◌, List, [], ◌∷◌, length, take, Some, None, slice_get, arith, refl, sym, ap, subst, ◌∙◌}
use Rattle.std.proofs.lemmas.Bool.{cond-true, eq-eqb, false≢true, le-ltb, cond-false, ltb-false, ltb-true}
use Rattle.std.proofs.lemmas.Option.{none-some, same_Some}
use Rattle.pf_entry.proofs.Cases.{by_test}
use Rattle.pf_paxos.specs.declared.block.Block.{Block}
use Rattle.pf_paxos.specs.declared.parts.AnchorNext.{AnchorNext}
use Rattle.pf_paxos.specs.declared.parts.AnchorNext.TheVariants.{Write, Read, Idle}
use Rattle.pf_paxos.specs.declared.parts.AnchorAsk.{AnchorAsk}
use Rattle.pf_paxos.specs.declared.parts.AnchorAsk.TheVariants.{Nothing, OwnBlock, Half}
use Rattle.pf_paxos.specs.BallotRuns.{Act, Asks, At, BallotCall, Calls, BallotEvent, GetsRead, IsWritten, Mounts, Otherwise, Starts, move_at, move_in, no_turn, ballots_opening, run_ballots, anchor_turn_answered, turn_asking, ballot_turn, turn_of_move}
use Rattle.pf_paxos.specs.Ballots.{BallotIs, next_at_anchor}
use Rattle.pf_paxos.specs.Parts.{part_at}
use Rattle.pf_paxos.specs.Quorums.{AnchorTurn, turn_on, turns_on}
use Rattle.pf_paxos.specs.Registers.{AsksRead, Gives, Turn}
use Rattle.pf_paxos.specs.Runs.{idle_turn}
use Rattle.pf_paxos.specs.Syncs.{FindsNoBal}
use Rattle.pf_paxos.proofs.ClientAsks.{HasAsked, answered_now, asked_now, still_asked}
use Rattle.pf_paxos.proofs.BallotMoments.{turn_at}
use Rattle.pf_law_lists.specs.Journals.{Acts, Ballots, Doing, Looks, event_at, position_of}
use Rattle.pf_law_lists.proofs.JournalPositions.{Case, before, events, past, position_event, start}
use Rattle.pf_mount_errands.specs.Blocks.{has_bal}

pub neither : (a b : Bool) → (a || b) ≡ false → (a ≡ false) × (b ≡ false)
neither true b is = absurd (false≢true (sym is))
neither false b is = (refl, is)

no_bal : (blocks : List Block) → has_bal blocks ≡ false → (place : ℕ) (b : Block) → slice_get blocks place ≡ Some b → b.bal ≡ 0
no_bal [] none place b at = absurd (none-some b at)
no_bal (x ∷ blocks) none zero b at =
    let least = ltb-false 0 x.bal (neither (nat_lt 0 x.bal) (has_bal blocks) none).0 in
    let same = ap (λ (y : Block). y.bal) (same_Some x b at) in
    omega (arith, least, same)
no_bal (x ∷ blocks) none (suc place) b at = no_bal blocks (neither (nat_lt 0 x.bal) (has_bal blocks) none).1 place b at

-- Turns of the mounts' own calls

on_low : (a : ℕ) (x : AnchorTurn) → x.turn.client ≤ 16 → (turn_on a x).client ≤ 16
on_low a x low = by_test (x.anchor == a) (λ b. (if b then x.turn else idle_turn).client ≤ 16) (λ _. low) (λ _. omega arith)

module _ (k : ℕ) (low : k < 16) where
  asks_low : (a : ℕ) (n : AnchorNext) → (turn_asking k a n).turn.client ≤ 16
  asks_low a (Write b) = omega (arith, low)
  asks_low a (Read half) = omega (arith, low)
  asks_low a Idle = omega arith

  at_low : (a : ℕ) (p : BallotIs) (act : Act) (asked : AnchorAsk) → (turn_of_move (move_at k a p act asked)).turn.client ≤ 16
  at_low a p Asks asked = asks_low a (next_at_anchor p a)
  at_low a p IsWritten OwnBlock = omega (arith, low)
  at_low a p IsWritten (Half half) = omega arith
  at_low a p IsWritten Nothing = omega arith
  at_low a p (GetsRead blocks) OwnBlock = omega arith
  at_low a p (GetsRead blocks) (Half half) = omega (arith, low)
  at_low a p (GetsRead blocks) Nothing = omega arith

  in_low : (p : BallotIs) (call : BallotCall) → (turn_of_move (move_in k p call)).turn.client ≤ 16
  in_low p (Starts above input) = omega arith
  in_low p (At a act) =
      by_test (nat_lt a (length p.parts)) (λ b. (turn_of_move (if b then move_at k a p act (part_at p.parts a).asked else None)).turn.client ≤ 16) (λ _. at_low a p act (part_at p.parts a).asked) (λ _. omega arith)

call_low : (ps : Mounts) (k : ℕ) (call : BallotCall) → (ballot_turn ps (Calls k call)).turn.client ≤ 16
call_low ps k call =
    by_test (nat_lt k 16) (λ b. (turn_of_move (if b then move_in k (ps k) call else None)).turn.client ≤ 16) (λ low. in_low k (ltb-true k 16 low) (ps k) call) (λ _. omega arith)

-- an event that is a call, or nothing
called_low : (b : Bool) (ps : Mounts) (k : ℕ) (call : BallotCall) → (ballot_turn ps (if b then Calls k call else Otherwise no_turn)).turn.client ≤ 16
called_low true ps k call = call_low ps k call
called_low false ps k call = omega arith

module _ (c : Case) (from client : ℕ) (above : 16 < client) where
  abbrev pub turns_in : (position anchor : ℕ) → List Turn
  turns_in q a = turns_on a (past c q)

  -- what a doing is at an anchor is not of the client
  abbrev pub IsApart : (anchor : ℕ) → Doing → Type 0
  IsApart a (Looks q turn) = (turn_on a turn).client ≢ client
  IsApart a d = Unit {0}

  abbrev runs : (q t : ℕ) → Mounts
  runs q t = run_ballots (ballots_opening c.anchors c.quorum) (take t (events c q))

  turn_then : (q a t : ℕ) (d : Doing) → slice_get c.doings t ≡ Some d → slice_get (turns_in q a) t ≡ Some (turn_on a (ballot_turn (runs q t) (event_at q (before c t) d)))
  turn_then q a t d at = turn_at a (ballots_opening c.anchors c.quorum) t (events c q) (event_at q (before c t) d) (position_event q t (start c) c.doings d at)

  of_low : (a : ℕ) (x : AnchorTurn) → x.turn.client ≤ 16 → (turn_on a x).client ≢ client
  of_low a x low same = let le = on_low a x low in absurd (omega (arith, above, le, same))

  event_apart : (q a t : ℕ) (d : Doing) → IsApart a d → (turn_on a (ballot_turn (runs q t) (event_at q (before c t) d))).client ≢ client
  event_apart q a t (Ballots k over input) apart = of_low a (ballot_turn (runs q t) (event_at q (before c t) (Ballots k over input))) (called_low (q == position_of (before c t) k) (runs q t) k (Starts over input))
  event_apart q a t (Acts k p b act) apart = of_low a (ballot_turn (runs q t) (event_at q (before c t) (Acts k p b act))) (called_low (q == p) (runs q t) k (At b act))
  event_apart q a t (Looks p turn) apart =
      by_test (q == p) (λ b. (turn_on a (ballot_turn (runs q t) (if b then Otherwise turn else Otherwise no_turn))).client ≢ client)
      (λ _.
      by_test (nat_lt turn.turn.client 16) (λ b. (turn_on a (if b then no_turn else turn)).client ≢ client) (λ _. of_low a no_turn (omega arith)) (λ _. apart))
      (λ _. of_low a no_turn (omega arith))

  quiet : (q a t : ℕ) (d : Doing) → slice_get c.doings t ≡ Some d → IsApart a d → (x : Turn) → slice_get (turns_in q a) t ≡ Some x → x.client ≢ client
  quiet q a t d at apart x there = subst (λ (y : Turn). y.client ≢ client) (same_Some _ _ (sym (turn_then q a t d at) ∙ there)) (event_apart q a t d apart)

  -- a turn of the client
  turn_there : (q a t : ℕ) (x : Turn) → x.client ≡ client → slice_get c.doings t ≡ Some (Looks q (record { anchor = a; turn = x })) → slice_get (turns_in q a) t ≡ Some x
  turn_there q a t x its at =
      let turn : AnchorTurn = record { anchor = a; turn = x } in
      turn_then q a t (Looks q turn) at
      ∙ ap (λ (e : BallotEvent). Some (turn_on a (ballot_turn (runs q t) e))) (cond-true (q == q) (Otherwise turn) (Otherwise no_turn) (eq-eqb q q refl))
      ∙ ap (λ (y : AnchorTurn). Some (turn_on a y)) (cond-false (nat_lt x.client 16) no_turn turn (le-ltb x.client 16 (omega (arith, its, above))))
      ∙ ap (λ (y : Turn). Some y) (cond-true (a == a) x idle_turn (eq-eqb a a refl))

  -- a half whose read is pending was asked since
  pub record IsAskedSince (q a t half : ℕ) : Type 0 where
    pub asked : HasAsked (turns_in q a) client t (AsksRead half)
    pub since : from ≤ asked.last

  pub since_still : (q a t half : ℕ) (d : Doing) → slice_get c.doings t ≡ Some d → IsApart a d → IsAskedSince q a t half → IsAskedSince q a (suc t) half
  unfolding still_asked
  since_still q a t half d at apart is = record { asked = still_asked (turns_in q a) client t (quiet q a t d at apart) (AsksRead half) is.asked; since = is.since }

  pub since_asked : (q a t half : ℕ) → slice_get c.doings t ≡ Some (Looks q (turn_asking client a (Read half))) → from ≤ t → IsAskedSince q a (suc t) half
  unfolding asked_now
  since_asked q a t half at late = record {
    asked = asked_now (turns_in q a) client t (record { client = client; reply = None; ask = Some (AsksRead half) }) (AsksRead half) (turn_there q a t _ refl at) refl refl;
    since = late;
  }

  pub quiet_answer : (q a t half : ℕ) (blocks : List Block) → slice_get c.doings t ≡ Some (Looks q (anchor_turn_answered client a (Gives blocks))) → IsAskedSince q a t half → has_bal blocks ≡ false → FindsNoBal (turns_in q a) half from
  quiet_answer q a t half blocks at is none = record {
    client = client;
    asked = is.asked.last;
    answered = t;
    blocks = blocks;
    read = answered_now (turns_in q a) client t (record { client = client; reply = Some (Gives blocks); ask = None }) (AsksRead half) (Gives blocks) is.asked (turn_there q a t _ refl at) refl refl;
    after = is.since;
    none = no_bal blocks none;
  }
