-- What doings are at an anchor, in one position of the journal.
use Rattle.std.proofs.Common.{◌≡◌, ◌≢◌, ℕ, ◌≤◌, ◌⊎◌, inl, inr, ◌==◌, Bool, true, false, cond, nat_lt, List, length, Option, Some, None, arith, refl, sym, ap, ◌∙◌}
use Rattle.std.proofs.lemmas.Bool.{cond-false, eqb-true, le-ltb, ne_eqb}
use Rattle.pf_base.specs.declared.asks.Reply.{Reply}
use Rattle.pf_entry.proofs.Cases.{by_test}
use Rattle.pf_paxos.specs.Registers.{Turn}
use Rattle.pf_paxos.specs.Runs.{idle_turn}
use Rattle.pf_paxos.specs.declared.parts.AnchorNext.{AnchorNext}
use Rattle.pf_paxos.specs.declared.parts.AnchorNext.TheVariants.{Write, Read, Idle}
use Rattle.pf_paxos.specs.declared.parts.AnchorAsk.{AnchorAsk}
use Rattle.pf_paxos.specs.declared.parts.AnchorAsk.TheVariants.{Nothing, OwnBlock, Half}
use Rattle.pf_paxos.specs.Parts.{part_at}
use Rattle.pf_paxos.specs.Ballots.{BallotIs, next_at_anchor}
use Rattle.pf_paxos.specs.Quorums.{AnchorTurn, turn_on}
use Rattle.pf_paxos.specs.BallotRuns.{Act, Asks as AsksNext, At, Calls, GetsRead, IsWritten, Mounts, Otherwise, Starts, move_at, move_in, no_turn, anchor_turn_answered, turn_asking, ballot_turn, turn_of_move}
use Rattle.pf_journal.specs.declared.layouts.Layout.{Layout}
use Rattle.pf_journal.specs.Layouts.{layout_of}
use Rattle.pf_law_lists.specs.Journals.{Acts, Ballots as BeginsBallot, Doing, BallotJournal, Looks, event_at, position_of}
use Rattle.pf_mount.specs.declared.work.MountWork.{MountWork}
use Rattle.pf_mount.specs.declared.work.MountWork.TheVariants.{Ballots}
use Rattle.pf_mount.specs.Mounts.{MountIs}
use Rattle.pf_law_calls.specs.Doings.{act_of, asks_for, began, began_in, hears_for, looker, mbal_at, no_doing, reply_of}
use Rattle.pf_law_calls.specs.Lives.{OfBallot, OfSync, Waiting}

-- Turns at one anchor

pub idle_on : (a : ℕ) → turn_on a no_turn ≡ idle_turn
idle_on a = by (0 == a)
  where
    by : (b : Bool) → cond b idle_turn idle_turn ≡ idle_turn
    by true = refl
    by false = refl

-- of an anchor, or nobody's
abbrev IsAt : (anchor : ℕ) → AnchorTurn → Type 0
IsAt anchor t = (t.anchor ≡ anchor) ⊎ (t ≡ no_turn)

at_other : (a anchor : ℕ) (t : AnchorTurn) → anchor ≢ a → IsAt anchor t → turn_on a t ≡ idle_turn
at_other a anchor t apart (inl at) = cond-false (t.anchor == a) t.turn idle_turn (ne_eqb t.anchor a (λ e. apart (sym at ∙ e)))
at_other a anchor t apart (inr none) = ap (turn_on a) none ∙ idle_on a

asking_at : (client anchor : ℕ) (next : AnchorNext) → IsAt anchor (turn_asking client anchor next)
asking_at client anchor (Write block) = inl refl
asking_at client anchor (Read half) = inl refl
asking_at client anchor Idle = inr refl

move_is_at : (n anchor : ℕ) (p : BallotIs) (act : Act) (asked : AnchorAsk) → IsAt anchor (turn_of_move (move_at n anchor p act asked))
move_is_at n anchor p AsksNext asked = asking_at n anchor (next_at_anchor p anchor)
move_is_at n anchor p IsWritten OwnBlock = inl refl
move_is_at n anchor p IsWritten (Half half) = inr refl
move_is_at n anchor p IsWritten Nothing = inr refl
move_is_at n anchor p (GetsRead blocks) (Half half) = inl refl
move_is_at n anchor p (GetsRead blocks) OwnBlock = inr refl
move_is_at n anchor p (GetsRead blocks) Nothing = inr refl

call_is_at : (n anchor : ℕ) (ps : Mounts) (act : Act) → IsAt anchor (ballot_turn ps (Calls n (At anchor act)))
call_is_at n anchor ps act = by (nat_lt n 16) (nat_lt anchor (length (ps n).parts))
  where
    by : (b c : Bool) → IsAt anchor (turn_of_move (cond b (cond c (move_at n anchor (ps n) act (part_at (ps n).parts anchor).asked) None) None))
    by true true = move_is_at n anchor (ps n) act (part_at (ps n).parts anchor).asked
    by true false = inr refl
    by false c = inr refl

-- Doings

module _ (j : BallotJournal) (a q : ℕ) where
  abbrev pub turn_at : Doing → Turn
  turn_at d = turn_on a (ballot_turn (j.mounts q) (event_at q j d))

  pub nothing_is : (its : Layout) → turn_at (no_doing its) ≡ idle_turn
  nothing_is its = by (q == (layout_of its).positions)
    where
      by : (b : Bool) → turn_on a (ballot_turn (j.mounts q) (cond b (Otherwise no_turn) (Otherwise no_turn))) ≡ idle_turn
      by true = idle_on a
      by false = idle_on a

  ballot_is : (n above : ℕ) (input : Option (List ℕ)) → turn_at (BeginsBallot n above input) ≡ idle_turn
  ballot_is n above input = by (q == position_of j n)
    where
      called : (c : Bool) → turn_on a (turn_of_move (cond c (move_in n (j.mounts q n) (Starts above input)) None)) ≡ idle_turn
      called true = idle_on a
      called false = idle_on a

      by : (b : Bool) → turn_on a (ballot_turn (j.mounts q) (cond b (Calls n (Starts above input)) (Otherwise no_turn))) ≡ idle_turn
      by true = called (nat_lt n 16)
      by false = idle_on a

  -- in the position that it is of
  pub acts_is : (n u anchor : ℕ) (act : Act) → turn_at (Acts n u anchor act) ≡ cond (q == u) (turn_on a (ballot_turn (j.mounts u) (Calls n (At anchor act)))) idle_turn
  acts_is n u anchor act =
      by_test (q == u) (λ b. turn_on a (ballot_turn (j.mounts q) (cond b (Calls n (At anchor act)) (Otherwise no_turn))) ≡ cond b (turn_on a (ballot_turn (j.mounts u) (Calls n (At anchor act)))) idle_turn)
      (λ same. ap (λ k. turn_on a (ballot_turn (j.mounts k) (Calls n (At anchor act)))) (eqb-true q u same))
      (λ other. idle_on a)

  pub looks_is : (u : ℕ) (t : AnchorTurn) → 16 ≤ t.turn.client → turn_at (Looks u t) ≡ cond (q == u) (turn_on a t) idle_turn
  looks_is u t past =
      by_test (q == u) (λ b. turn_on a (ballot_turn (j.mounts q) (cond b (Otherwise t) (Otherwise no_turn))) ≡ cond b (turn_on a t) idle_turn)
      (λ same. ap (turn_on a) (cond-false (nat_lt t.turn.client 16) no_turn t (le-ltb t.turn.client 16 past)))
      (λ other. idle_on a)

  -- no ballot that begins asks anything yet
  pub began_is : (before after : MountIs) → turn_at (began before after) ≡ idle_turn
  began_is before after = by after.task.work
    where
      begins : (b : Bool) (n seen : ℕ) (input : Option (List ℕ)) → turn_at (cond b (BeginsBallot n seen input) (no_doing before.position.layout)) ≡ idle_turn
      begins true n seen input = ballot_is n seen input
      begins false n seen input = nothing_is before.position.layout

      by : (work : MountWork) → turn_at (began_in before.position.layout work before.files.mount (mbal_at before after.upto) after.position.ballot.own.mbal after.position.rivals.seen) ≡ idle_turn
      by (Ballots input) = begins (nat_lt (mbal_at before after.upto) after.position.ballot.own.mbal) before.files.mount after.position.rivals.seen input
      by work = nothing_is before.position.layout

  -- What is asked and answered at another anchor is nothing at this one

  if_other : (b : Bool) (t : AnchorTurn) (anchor : ℕ) → anchor ≢ a → IsAt anchor t → cond b (turn_on a t) idle_turn ≡ idle_turn
  if_other true t anchor apart at = at_other a anchor t apart at
  if_other false t anchor apart at = refl

  acts_elsewhere : (n u anchor : ℕ) (act : Act) → anchor ≢ a → turn_at (Acts n u anchor act) ≡ idle_turn
  acts_elsewhere n u anchor act apart = acts_is n u anchor act ∙ if_other (q == u) (ballot_turn (j.mounts u) (Calls n (At anchor act))) anchor apart (call_is_at n anchor (j.mounts u) act)

  looks_elsewhere : (u anchor : ℕ) (t : AnchorTurn) → anchor ≢ a → 16 ≤ t.turn.client → IsAt anchor t → turn_at (Looks u t) ≡ idle_turn
  looks_elsewhere u anchor t apart past at = looks_is u t past ∙ if_other (q == u) t anchor apart at

  module _ (its : Layout) (n anchor : ℕ) (apart : anchor ≢ a) where
    asks_elsewhere : (w : Option Waiting) → turn_at (asks_for its n anchor w) ≡ idle_turn
    asks_elsewhere (Some (OfBallot u)) = acts_elsewhere n u anchor AsksNext apart
    asks_elsewhere (Some (OfSync u half)) = looks_elsewhere u anchor (turn_asking (looker n) anchor (Read half)) apart (omega arith) (inl refl)
    asks_elsewhere w = nothing_is its

    pub asks_now_elsewhere : (b : Bool) (w : Option Waiting) → turn_at (cond b (asks_for its n anchor w) (no_doing its)) ≡ idle_turn
    asks_now_elsewhere true w = asks_elsewhere w
    asks_now_elsewhere false w = nothing_is its

    pub hears_elsewhere : (reply : Reply) (w : Option Waiting) → turn_at (hears_for its n anchor reply w) ≡ idle_turn
    hears_elsewhere reply (Some (OfBallot u)) = acts_elsewhere n u anchor (act_of reply) apart
    hears_elsewhere reply (Some (OfSync u half)) = looks_elsewhere u anchor (anchor_turn_answered (looker n) anchor (reply_of reply)) apart (omega arith) (inl refl)
    hears_elsewhere reply w = nothing_is its
