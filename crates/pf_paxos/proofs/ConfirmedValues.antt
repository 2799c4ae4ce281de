-- What a proposer tells as decided is decided: what was written and read in phase 2.
use Rattle.std.proofs.Common.{◌≡◌, ℕ, zero, suc, ◌<◌, ◌≤◌, ◌≢◌, inl, inr, cond, List, Some, None, slice_get, arith, refl, sym, ap, subst, ◌∙◌}
use Rattle.std.proofs.lemmas.Bool.{cases_Bool, cond-true, cond-false, ltb-false}
use Rattle.std.proofs.lemmas.Option.{same_Some}
use Rattle.pf_paxos.specs.declared.block.Block.{Block}
use Rattle.pf_paxos.specs.declared.proposer.Next.{Next}
use Rattle.pf_paxos.specs.declared.proposer.Next.TheVariants.{Read, Decided}
use Rattle.pf_paxos.specs.declared.proposer.ProposerPhase.{ProposerPhase}
use Rattle.pf_paxos.specs.declared.proposer.ProposerPhase.TheVariants.{Idle, Claiming, GatheringLow, GatheringHigh, Proposing, ConfirmingLow, ConfirmingHigh}
use Rattle.pf_paxos.specs.Blocks.{IsBallot, greatest_mbal, best_of}
use Rattle.pf_paxos.specs.Proposers.{ProposerIs, ProposerOutcome, started, claimed, proposer_proposed, proposer_aborted, is_outrun, proposal_of}
use Rattle.pf_paxos.specs.Registers.{AsksWrite, AsksRead, Written, Gives, Turn, HasWritten}
use Rattle.pf_paxos.specs.Runs.{ProposerCall, Starts, IsWritten, IsRead, ProposerEvent, Move, move_in, turn_of_move, turns_of}
use Rattle.pf_paxos.specs.Deciding.{FindsNoneAbove, IsDecided}
use Rattle.pf_paxos.proofs.Moments.{state, Changes, changes}
use Rattle.pf_paxos.proofs.ProposerMoves.{IsFirst, gone_low, gone_high, mbal_low}
use Rattle.pf_paxos.proofs.Steady.{IsSteady, is_at}
use Rattle.pf_paxos.proofs.ClientAsks.{HasAsked, HasWroteBefore, still_asked, asked_now, answered_now}

-- phase 2 runs
abbrev IsSecond : ProposerPhase → Type 0
IsSecond Proposing = Unit {0}
IsSecond ConfirmingLow = Unit {0}
IsSecond ConfirmingHigh = Unit {0}
IsSecond _ = ⊥

abbrev pub went_low : ProposerIs → ProposerOutcome
went_low p = record { proposer = record p { phase = ConfirmingHigh }; next = Read 1 }

abbrev pub went_high : ProposerIs → ProposerOutcome
went_high p = record { proposer = record p { phase = Idle }; next = Decided p.own.value }

-- no value is decided by it
abbrev IsOpen : Next → Type 0
IsOpen (Decided v) = ⊥
IsOpen _ = Unit {0}

data IsStep (p : ProposerIs) : Move → Type 0 where
  Proposes : p.phase ≡ GatheringHigh → (blocks : List Block) → IsStep p (record { reply = Some (Gives blocks); outcome = gone_high p blocks })
  IsProposed : p.phase ≡ Proposing → IsStep p (record { reply = Some Written; outcome = proposer_proposed p })
  ConfirmsLow : p.phase ≡ ConfirmingLow → (blocks : List Block) → greatest_mbal blocks ≤ p.own.mbal → IsStep p (record { reply = Some (Gives blocks); outcome = went_low p })
  ConfirmsHigh : p.phase ≡ ConfirmingHigh → (blocks : List Block) → greatest_mbal blocks ≤ p.own.mbal → IsStep p (record { reply = Some (Gives blocks); outcome = went_high p })
  Else : (move : Move) → (IsSecond move.outcome.proposer.phase → ⊥) → IsOpen move.outcome.next → IsStep p move

by_answer : (p : ProposerIs) (blocks : List Block) (on : ProposerOutcome) (move : Move) → record { reply = Some (Gives blocks); outcome = cond (is_outrun p blocks) (proposer_aborted p blocks) on } ≡ move → (greatest_mbal blocks ≤ p.own.mbal → IsStep p (record { reply = Some (Gives blocks); outcome = on })) → IsStep p move
by_answer p blocks on move is goes =
    elim (cases_Bool (is_outrun p blocks)) [
      | inl outrun ↦ subst (IsStep p) (ap (λ o. record { reply = Some (Gives blocks); outcome = o }) (sym (cond-true (is_outrun p blocks) (proposer_aborted p blocks) on outrun)) ∙ is) (Else (record { reply = Some (Gives blocks); outcome = proposer_aborted p blocks }) (λ x. x) tt)
      | inr first ↦ subst (IsStep p) (ap (λ o. record { reply = Some (Gives blocks); outcome = o }) (sym (cond-false (is_outrun p blocks) (proposer_aborted p blocks) on first)) ∙ is) (goes (ltb-false p.own.mbal (greatest_mbal blocks) first))
    ]

is_step : (p : ProposerIs) (phase : ProposerPhase) (call : ProposerCall) (move : Move) → p.phase ≡ phase → move_in phase p call ≡ Some move → IsStep p move
is_step p Idle (Starts above input) move at is = subst (IsStep p) (same_Some _ _ is) (Else (record { reply = None; outcome = started p above input }) (λ x. x) tt)
is_step p Claiming IsWritten move at is = subst (IsStep p) (same_Some _ _ is) (Else (record { reply = Some Written; outcome = claimed p }) (λ x. x) tt)
is_step p GatheringLow (IsRead blocks) move at is = by_answer p blocks (gone_low p blocks) move (same_Some _ _ is) (λ low. Else (record { reply = Some (Gives blocks); outcome = gone_low p blocks }) (λ x. x) tt)
is_step p GatheringHigh (IsRead blocks) move at is = by_answer p blocks (gone_high p blocks) move (same_Some _ _ is) (λ low. Proposes at blocks)
is_step p Proposing IsWritten move at is = subst (IsStep p) (same_Some _ _ is) (IsProposed at)
is_step p ConfirmingLow (IsRead blocks) move at is = by_answer p blocks (went_low p) move (same_Some _ _ is) (λ low. ConfirmsLow at blocks low)
is_step p ConfirmingHigh (IsRead blocks) move at is = by_answer p blocks (went_high p) move (same_Some _ _ is) (λ low. ConfirmsHigh at blocks low)
is_step p phase call move at is = absurd (grind (arith, is))

module _ (es : List ProposerEvent) where
  record InProposal (m t : ℕ) (p : ProposerIs) : Type 0 where
    whole : p.own.bal ≡ p.own.mbal
    ballot : IsBallot m p.own.mbal
    asked : HasAsked (turns_of es) m t (AsksWrite p.own)

  -- phase 2's write was answered
  record HasProposed (m t : ℕ) (p : ProposerIs) : Type 0 where
    whole : p.own.bal ≡ p.own.mbal
    ballot : IsBallot m p.own.mbal
    asked : ℕ
    answered : ℕ
    wrote : HasWritten (turns_of es) m asked answered p.own

  record InLow (m t : ℕ) (p : ProposerIs) : Type 0 where
    proposal : HasProposed m t p
    asked : HasAsked (turns_of es) m t (AsksRead 0)
    after : proposal.answered ≤ asked.last

  record InHigh (m t : ℕ) (p : ProposerIs) : Type 0 where
    proposal : HasProposed m t p
    low : FindsNoneAbove (turns_of es) m 0 proposal.answered p.own.mbal
    low_before : low.answered ≤ t
    asked : HasAsked (turns_of es) m t (AsksRead 1)
    after : proposal.answered ≤ asked.last

  -- what was done in phase 2 so far
  abbrev Done : ProposerPhase → (m t : ℕ) → ProposerIs → Type 0
  Done Proposing m t p = InProposal m t p
  Done ConfirmingLow m t p = InLow m t p
  Done ConfirmingHigh m t p = InHigh m t p
  Done _ m t p = Unit {0}

  not_done : (phase : ProposerPhase) (m t : ℕ) (p : ProposerIs) → (IsSecond phase → ⊥) → Done phase m t p
  not_done Proposing m t p ends = absurd (ends tt)
  not_done ConfirmingLow m t p ends = absurd (ends tt)
  not_done ConfirmingHigh m t p ends = absurd (ends tt)
  not_done Idle m t p ends = tt
  not_done Claiming m t p ends = tt
  not_done GatheringLow m t p ends = tt
  not_done GatheringHigh m t p ends = tt

  still_proposed : (m t : ℕ) (p : ProposerIs) → HasProposed m t p → HasProposed m (suc t) p
  still_proposed m t p x = record { whole = x.whole; ballot = x.ballot; asked = x.asked; answered = x.answered; wrote = x.wrote }

  still_done : (m t : ℕ) (quiet : (x : Turn) → slice_get (turns_of es) t ≡ Some x → x.client ≢ m) (phase : ProposerPhase) (p : ProposerIs) → Done phase m t p → Done phase m (suc t) p
  unfolding still_proposed still_asked
  still_done m t quiet Proposing p x = record { whole = x.whole; ballot = x.ballot; asked = still_asked (turns_of es) m t quiet _ x.asked }
  still_done m t quiet ConfirmingLow p x = record { proposal = still_proposed m t p x.proposal; asked = still_asked (turns_of es) m t quiet _ x.asked; after = x.after }
  still_done m t quiet ConfirmingHigh p x = record { proposal = still_proposed m t p x.proposal; low = x.low; low_before = omega (arith, x.low_before); asked = still_asked (turns_of es) m t quiet _ x.asked; after = x.after }
  still_done m t quiet Idle p x = tt
  still_done m t quiet Claiming p x = tt
  still_done m t quiet GatheringLow p x = tt
  still_done m t quiet GatheringHigh p x = tt

  module _ (m t : ℕ) (p : ProposerIs) (steady : IsSteady m p) (done : Done p.phase m t p) where
    done_in : (phase : ProposerPhase) → p.phase ≡ phase → Done phase m t p
    done_in phase is = subst (λ ph. Done ph m t p) is done

    after_low : p.phase ≡ ConfirmingLow → (blocks : List Block) → greatest_mbal blocks ≤ p.own.mbal → slice_get (turns_of es) t ≡ Some (record { client = m; reply = Some (Gives blocks); ask = Some (AsksRead 1) }) → InHigh m (suc t) (went_low p).proposer
    unfolding asked_now
    after_low is blocks none now =
        let x : InLow m t p = done_in ConfirmingLow is in
        record {
          proposal = record { whole = x.proposal.whole; ballot = x.proposal.ballot; asked = x.proposal.asked; answered = x.proposal.answered; wrote = x.proposal.wrote };
          low = record { asked = x.asked.last; answered = t; blocks = blocks; read = answered_now (turns_of es) m t _ (AsksRead 0) (Gives blocks) x.asked now refl refl; after = x.after; none_above = λ k b at. omega (arith, mbal_low blocks k b at, none) };
          low_before = omega arith;
          asked = asked_now (turns_of es) m t _ (AsksRead 1) now refl refl;
          after = omega (arith, x.after, x.asked.earlier);
        }

    after_write : p.phase ≡ Proposing → slice_get (turns_of es) t ≡ Some (record { client = m; reply = Some Written; ask = Some (AsksRead 0) }) → InLow m (suc t) (proposer_proposed p).proposer
    unfolding asked_now
    after_write is now =
        let x : InProposal m t p = done_in Proposing is in
        record {
          proposal = record { whole = x.whole; ballot = x.ballot; asked = x.asked.last; answered = t; wrote = answered_now (turns_of es) m t _ (AsksWrite p.own) Written x.asked now refl refl };
          asked = asked_now (turns_of es) m t _ (AsksRead 0) now refl refl;
          after = omega arith;
        }

    done_next : (move : Move) → slice_get (turns_of es) t ≡ Some (turn_of_move m (Some move)) → IsStep p move → Done move.outcome.proposer.phase m (suc t) move.outcome.proposer
    done_next _ now (Proposes is blocks) =
        let less = steady.first (subst IsFirst (sym is) tt) in
        record { whole = refl; ballot = steady.claims (omega (arith, less)); asked = asked_now (turns_of es) m t _ (AsksWrite (proposal_of p (best_of p.best blocks))) now refl refl }
    done_next _ now (IsProposed is) = after_write is now
    done_next _ now (ConfirmsLow is blocks none) = after_low is blocks none now
    done_next _ now (ConfirmsHigh is blocks none) = tt
    done_next move now (Else _ ends undecided) = not_done move.outcome.proposer.phase m (suc t) move.outcome.proposer ends

    decided_by : (move : Move) (v : List ℕ) → slice_get (turns_of es) t ≡ Some (turn_of_move m (Some move)) → m < 16 → IsStep p move → move.outcome.next ≡ Decided v → IsDecided (turns_of es) t v
    decided_by _ v now is_mount (ConfirmsHigh is blocks none) decides =
        let x : InHigh m t p = done_in ConfirmingHigh is in
        let value : p.own.value ≡ v = cc in
        let own : p.own ≡ record { mbal = p.own.mbal; bal = p.own.mbal; value = v } = ap (λ n. record { mbal = p.own.mbal; bal = n; value = p.own.value }) x.proposal.whole ∙ ap (λ w. record { mbal = p.own.mbal; bal = p.own.mbal; value = w }) value in
        record {
          ballot = p.own.mbal;
          decides = record {
            mount = m;
            is_mount = is_mount;
            is_ballot = x.proposal.ballot;
            asked = x.proposal.asked;
            answered = x.proposal.answered;
            wrote = subst (HasWritten (turns_of es) m x.proposal.asked x.proposal.answered) own x.proposal.wrote;
            low = x.low;
            high = record { asked = x.asked.last; answered = t; blocks = blocks; read = answered_now (turns_of es) m t _ (AsksRead 1) (Gives blocks) x.asked now refl refl; after = x.after; none_above = λ k b at. omega (arith, mbal_low blocks k b at, none) };
          };
          low_by = x.low_before;
          high_by = omega arith;
        }
    decided_by _ v now is_mount (Proposes is blocks) decides = absurd (subst IsOpen decides tt)
    decided_by _ v now is_mount (IsProposed is) decides = absurd (subst IsOpen decides tt)
    decided_by _ v now is_mount (ConfirmsLow is blocks none) decides = absurd (subst IsOpen decides tt)
    decided_by move v now is_mount (Else _ ends undecided) decides = absurd (subst IsOpen decides undecided)

  done_then : (m t : ℕ) → m < 16 → Done (state es m t).phase m t (state es m t) → Changes es m t → Done (state es m (suc t)).phase m (suc t) (state es m (suc t))
  done_then m t is_mount done (inl s) = subst (λ p. Done p.phase m (suc t) p) (sym s.same) (still_done m t s.not_its (state es m t).phase (state es m t) done)
  done_then m t is_mount done (inr mv) =
      subst (λ p. Done p.phase m (suc t) p) (sym mv.becomes)
      (done_next m t (state es m t) (is_at es m t is_mount).steady done mv.move mv.turn (is_step (state es m t) (state es m t).phase mv.call mv.move refl mv.is))

  done_at : (m t : ℕ) → m < 16 → Done (state es m t).phase m t (state es m t)
  done_at m zero is_mount = tt
  done_at m (suc t) is_mount = done_then m t is_mount (done_at m t is_mount) (changes es m t is_mount)

  -- where a proposer's move tells a value as decided, some ballot decides it
  pub told_decided : (m t : ℕ) (move : Move) (call : ProposerCall) (v : List ℕ) → m < 16 → slice_get (turns_of es) t ≡ Some (turn_of_move m (Some move)) → move_in (state es m t).phase (state es m t) call ≡ Some move → move.outcome.next ≡ Decided v → IsDecided (turns_of es) t v
  told_decided m t move call v is_mount now is decides =
      decided_by m t (state es m t) (is_at es m t is_mount).steady (done_at m t is_mount) move v now is_mount (is_step (state es m t) (state es m t).phase call move refl is) decides

  -- while phase 2 reads, its write was answered
  pub wrote_second_low : (m t : ℕ) → m < 16 → (state es m t).phase ≡ ConfirmingLow → HasWroteBefore (turns_of es) m t (state es m t).own.mbal
  wrote_second_low m t is_mount is =
      let x : InLow m t (state es m t) = subst (λ ph. Done ph m t (state es m t)) is (done_at m t is_mount) in
      record { asked = x.proposal.asked; answered = x.proposal.answered; block = (state es m t).own; wrote = x.proposal.wrote; is = refl; before = omega (arith, x.after, x.asked.earlier) }

  pub wrote_second_high : (m t : ℕ) → m < 16 → (state es m t).phase ≡ ConfirmingHigh → HasWroteBefore (turns_of es) m t (state es m t).own.mbal
  wrote_second_high m t is_mount is =
      let x : InHigh m t (state es m t) = subst (λ ph. Done ph m t (state es m t)) is (done_at m t is_mount) in
      record { asked = x.proposal.asked; answered = x.proposal.answered; block = (state es m t).own; wrote = x.proposal.wrote; is = refl; before = omega (arith, x.after, x.asked.earlier) }
