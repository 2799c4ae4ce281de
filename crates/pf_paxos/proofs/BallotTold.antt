-- What a mount tells as decided is decided, over any memory.
use Rattle.std.proofs.Common.{◌≡◌, ℕ, suc, ◌<◌, ◌≤◌, Bool, true, false, cond, nat_lt, List, length, take, Some, None, slice_get, arith, refl, ap, subst, ◌∙◌}
use Rattle.std.proofs.lemmas.Bool.{ltb-true}
use Rattle.std.proofs.lemmas.List.{length-set}
use Rattle.pf_paxos.specs.declared.block.Block.{Block}
use Rattle.pf_paxos.specs.Blocks.{IsBallot}
use Rattle.pf_paxos.specs.Registers.{HasWritten, Gives}
use Rattle.pf_paxos.specs.Deciding.{Decides}
use Rattle.pf_paxos.specs.declared.parts.AnchorAsk.TheVariants.{Half}
use Rattle.pf_paxos.specs.declared.ballot.BallotStep.TheVariants.{Decided}
use Rattle.pf_paxos.specs.Parts.{part_at}
use Rattle.pf_paxos.specs.Ballots.{BallotIs, BallotOutcome, is_phase_over}
use Rattle.pf_paxos.specs.Quorums.{turn_on, IsDecidedOver}
use Rattle.pf_paxos.specs.BallotRuns.{BallotCall, BallotEvent, Calls, Move, move_in, ballot_move, ballots_opening, run_ballots, turn_of_move, anchor_turn_answered, anchor_history}
use Rattle.pf_paxos.proofs.BallotMoments.{Run, past, before, state, turn_at}
use Rattle.pf_paxos.proofs.BallotSteps.{advanced_at, IsReading, Late, Aborts, Goes, Proposes, Lacks, Decides as DecidesNow, IsStep, ByStart, ByAsk, ByWritten, ByRead, is_step}
use Rattle.pf_paxos.proofs.BallotSteady.{Stance, steady_at, over_at}
use Rattle.pf_paxos.proofs.BallotParts.{AllDone}
use Rattle.pf_paxos.proofs.BallotKept.{turns, all_at, all_advanced}
use Rattle.pf_paxos.proofs.BallotPicks.{over_quorum, part_done}

same_value : {v w : List ℕ} → Decided v ≡ Decided w → v ≡ w
same_value e = cc

module _ (es : Run) (m t : ℕ) (lm : m < 16) where
  abbrev p : BallotIs
  p = state es m t

  -- its ballot decides at the anchor, and the reads were answered by now
  record IsShown (b : ℕ) (v : List ℕ) : Type 0 where
    decides : Decides (turns es b) p.own.mbal v
    low : decides.low.answered ≤ t
    high : decides.high.answered ≤ t

  decides_at : (b best : ℕ) (v : List ℕ) → p.own.value ≡ v → (p.own.bal ≡ p.own.mbal) × IsBallot m p.own.mbal → AllDone (turns es b) m (suc t) p.own best → IsShown b v
  decides_at b best v value stance x =
      let is : p.own ≡ record { mbal = p.own.mbal; bal = p.own.mbal; value = v } = ap (λ n. record { mbal = p.own.mbal; bal = n; value = p.own.value }) stance.0 ∙ ap (λ w. record { mbal = p.own.mbal; bal = p.own.mbal; value = w }) value in
      record {
        decides = record {
          mount = m;
          is_mount = lm;
          is_ballot = stance.1;
          asked = x.wrote.asked;
          answered = x.wrote.answered;
          wrote = subst (HasWritten (turns es b) m x.wrote.asked x.wrote.answered) is x.wrote.wrote;
          low = record { asked = x.low.asked; answered = x.low.answered; blocks = x.low.blocks; read = x.low.read; after = x.low.after; none_above = x.low.none_above };
          high = record { asked = x.high.asked; answered = x.high.answered; blocks = x.high.blocks; read = x.high.read; after = x.high.after; none_above = x.high.none_above };
        };
        low = omega (arith, x.low.before);
        high = omega (arith, x.high.before);
      }

  told_read : (a : ℕ) → a < length p.parts → (half : ℕ) → (part_at p.parts a).asked ≡ Half half → (blocks : List Block) → ((b : ℕ) → slice_get (turns es b) t ≡ Some (turn_on b (anchor_turn_answered m a (Gives blocks)))) → (o : BallotOutcome) → IsReading p a blocks o → (v : List ℕ) → o.step ≡ Decided v → IsDecidedOver es.anchors es.quorum (past es) t v
  told_read a la half is blocks now o (Late _) v told = absurd (grind (arith, told))
  told_read a la half is blocks now o (Aborts _) v told = absurd (grind (arith, told))
  told_read a la half is blocks now o (Goes _ _) v told = absurd (grind (arith, told))
  told_read a la half is blocks now o (Proposes _ _ _ _) v told = absurd (grind (arith, told))
  told_read a la half is blocks now o (Lacks _) v told = absurd (grind (arith, told))
  told_read a la half is blocks now o (DecidesNow on_time none ends second) v told =
      let parts = (advanced_at p a blocks).parts in
      let over = over_at es m t lm in
      let done = over_quorum es.anchors es.quorum parts (length-set p.parts a _ ∙ over.count) (subst (λ k. is_phase_over k parts ≡ true) over.quorum ends) in
      let k = all_advanced es m t lm p (all_at es m t lm) a la half is blocks on_time none now in
      let stance : (p.own.bal ≡ p.own.mbal) × IsBallot m p.own.mbal = subst (λ ph. Stance ph m p.own) second (steady_at es m t lm).stance in
      let shown : (place b : ℕ) → slice_get done.all.used place ≡ Some b → IsShown b v = λ place b at. decides_at b (part_at parts b).best.bal v (same_value told) stance (part_done es m b (suc t) p.own (part_at parts b) (done.done b (record { place = place; at = at })) (k b)) in
      record {
        ballot = p.own.mbal;
        decides = record { used = done.all.used; is_quorum = done.all.is; each = λ place b at. (shown place b at).decides };
        low_by = λ place b at. (shown place b at).low;
        high_by = λ place b at. (shown place b at).high;
      }

  told_step : (move : Move) → IsStep m p move → ((b : ℕ) → slice_get (turns es b) t ≡ Some (turn_on b move.turn)) → (v : List ℕ) → move.step ≡ Decided v → IsDecidedOver es.anchors es.quorum (past es) t v
  told_step move (ByStart above input) now v told = absurd (grind (arith, told))
  told_step move (ByAsk a la) now v told = absurd (grind (arith, told))
  told_step move (ByWritten a la is) now v told = absurd (grind (arith, told))
  told_step move (ByRead a la half is blocks o reading) now v told = told_read a la half is blocks now o reading v told

told_in : (es : Run) (t m : ℕ) (call : BallotCall) (move : Move) (v : List ℕ) → slice_get es.events t ≡ Some (Calls m call) → ballot_move (before es t) (Calls m call) ≡ Some move → move.step ≡ Decided v → IsDecidedOver es.anchors es.quorum (past es) t v
told_in es t m call move v at is tells = by (nat_lt m 16) refl is
  where
    now : (b : ℕ) → slice_get (turns es b) t ≡ Some (turn_on b move.turn)
    now b = turn_at b (ballots_opening es.anchors es.quorum) t es.events (Calls m call) at ∙ ap (λ o. Some (turn_on b (turn_of_move o))) is

    by : (c : Bool) → nat_lt m 16 ≡ c → cond c (move_in m (state es m t) call) None ≡ Some move → IsDecidedOver es.anchors es.quorum (past es) t v
    by true low same = told_step es m t (ltb-true m 16 low) move (is_step m (state es m t) call move same) now v tells
    by false high same = absurd (grind (arith, same))

pub told : (anchors quorum : ℕ) (events : List BallotEvent) (t m : ℕ) (call : BallotCall) (move : Move) (v : List ℕ) → slice_get events t ≡ Some (Calls m call) → ballot_move (run_ballots (ballots_opening anchors quorum) (take t events)) (Calls m call) ≡ Some move → move.step ≡ Decided v → IsDecidedOver anchors quorum (anchor_history anchors quorum events) t v
told anchors quorum events = told_in (record { anchors = anchors; quorum = quorum; events = events })
