-- What the parts of a mount say of what was asked and answered at the anchors. This holds over any memory.
use Rattle.std.proofs.Common.{◌≡◌, ℕ, zero, suc, ◌<◌, ◌≤◌, ◌≢◌, inl, inr, Bool, true, false, cond, ◌==◌, List, length, Some, None, slice_get, arith, refl, sym, ap, subst, ◌∙◌}
use Rattle.std.proofs.lemmas.Bool.{cases_eq, cond-true, cond-false, eq-eqb, ne_eqb}
use Rattle.std.proofs.lemmas.List.{get_or-set_same, get_or-set_other}
use Rattle.std.proofs.lemmas.Option.{same_Some}
use Rattle.pf_paxos.specs.declared.block.Block.{Block}
use Rattle.pf_paxos.specs.Blocks.{greatest_mbal, best_of, zero_block}
use Rattle.pf_paxos.specs.Registers.{Written, Gives, Turn}
use Rattle.pf_paxos.specs.Runs.{idle_turn}
use Rattle.pf_paxos.specs.declared.parts.AnchorAsk.TheVariants.{Nothing, OwnBlock, Half}
use Rattle.pf_paxos.specs.declared.parts.AnchorNext.{AnchorNext}
use Rattle.pf_paxos.specs.declared.parts.AnchorNext.TheVariants.{Write, Read, Idle}
use Rattle.pf_paxos.specs.declared.ballot.Phase.{Phase}
use Rattle.pf_paxos.specs.declared.ballot.Phase.TheVariants.{Resting, Claiming, Proposing}
use Rattle.pf_paxos.specs.declared.parts.Part.{Part}
use Rattle.pf_paxos.specs.Parts.{fresh, no_part, part_at, with_part, phase_begun, renewed, next_where, part_takes, part_written, part_freed, part_advanced}
use Rattle.pf_paxos.specs.Ballots.{BallotIs, BallotOutcome, next_at_anchor, next_in_phase}
use Rattle.pf_paxos.specs.Quorums.{turn_on, turns_on}
use Rattle.pf_paxos.specs.BallotRuns.{Move, no_turn, turn_asking, anchor_turn_answered}
use Rattle.pf_paxos.proofs.BallotMoments.{Run, past, state, IsQuiet, Changes, changes}
use Rattle.pf_paxos.proofs.BallotSteps.{freed_at, advanced_at, IsReading, Late, Aborts, Goes, Proposes, Lacks, Decides as DecidesNow, IsStep, ByStart, ByAsk, ByWritten, ByRead, is_step}
use Rattle.pf_paxos.proofs.BallotForms.{at_all, at_new}
use Rattle.pf_paxos.proofs.BallotParts.{Kept, kept_still, kept_write, kept_read, kept_freed, kept_written, kept_advanced}

-- a turn of a client at another anchor is nothing here
elsewhere : (a b : ℕ) (x : Turn) → a ≢ b → turn_on b (record { anchor = a; turn = x }) ≡ idle_turn
elsewhere a b x apart = cond-false (a == b) x idle_turn (ne_eqb a b apart)

pub here_turn : (a : ℕ) (x : Turn) → turn_on a (record { anchor = a; turn = x }) ≡ x
here_turn a x = cond-true (a == a) x idle_turn (eq-eqb a a refl)

-- what is true of each part stays so where it is true of the part that is changed
pub one_changed : (P : ℕ → Part → Type 0) (parts : List Part) (a : ℕ) → a < length parts → (part : Part) → P a part → ((b : ℕ) → a ≢ b → P b (part_at parts b)) → (b : ℕ) → P b (part_at (with_part parts a part) b)
one_changed P parts a la part new others b =
    elim (cases_eq a b) [
      | inl same ↦ subst (λ k. P k (part_at (with_part parts a part) k)) same (subst (P a) (sym (get_or-set_same parts a part no_part la)) new)
      | inr apart ↦ subst (P b) (sym (get_or-set_other parts a b part no_part (λ e. absurd (apart (sym e))))) (others b apart)
    ]

module _ (es : Run) where
  abbrev pub turns : ℕ → List Turn
  turns a = turns_on a (past es)

  pub record PartKept (m a t : ℕ) (mine : Block) (part : Part) : Type 0 where
    pub kept : Kept (turns a) m part.is_late part.stage part.asked t mine part.best.bal

  abbrev pub AllKept : (m t : ℕ) → BallotIs → Type 0
  AllKept m t p = (a : ℕ) → PartKept m a t p.own (part_at p.parts a)

  part_still : (m a t : ℕ) (mine : Block) (part : Part) → IsQuiet es m a t → PartKept m a t mine part → PartKept m a (suc t) mine part
  part_still m a t mine part quiet k = record { kept = kept_still (turns a) m t quiet mine part.best.bal part.is_late part.stage part.asked k.kept }

  -- a phase begins
  all_begun : (m t : ℕ) (parts : List Part) (mine : Block) (a : ℕ) → PartKept m a t mine (part_at (renewed parts mine) a)
  all_begun m t parts mine a = at_all (λ part. PartKept m a t mine part) (phase_begun mine) parts a (λ _. record { kept = tt }) (record { kept = tt })

  idle_quiet : (m a t : ℕ) → m < 16 → slice_get (turns a) t ≡ Some idle_turn → IsQuiet es m a t
  idle_quiet m a t lm now x at its = absurd (omega (arith, lm, its, ap (λ (y : Turn). y.client) (same_Some _ _ (sym now ∙ at))))

  -- one part changes
  one_kept : (m t : ℕ) → m < 16 → (p : BallotIs) → AllKept m t p → (a : ℕ) → a < length p.parts → (x : Turn) → ((b : ℕ) → slice_get (turns b) t ≡ Some (turn_on b (record { anchor = a; turn = x }))) → (part : Part) → PartKept m a (suc t) p.own part → (b : ℕ) → PartKept m b (suc t) p.own (part_at (with_part p.parts a part) b)
  one_kept m t lm p all a la x now part new =
      one_changed (λ b part. PartKept m b (suc t) p.own part) p.parts a la part new
      (λ b apart. part_still m b t p.own (part_at p.parts b) (idle_quiet m b t lm (now b ∙ ap (λ (y : Turn). Some y) (elsewhere a b x apart))) (all b))

  all_still : (m t : ℕ) (p : BallotIs) → ((a : ℕ) → IsQuiet es m a t) → AllKept m t p → AllKept m (suc t) p
  all_still m t p quiet all a = part_still m a t p.own (part_at p.parts a) (quiet a) (all a)

  in_next : (ph : Phase) (part : Part) (mine : Block) (n : AnchorNext) → (n ≡ Idle → ⊥) → next_in_phase ph part mine ≡ n → next_where part.asked part.stage mine ≡ n
  in_next Resting part mine n some is = absurd (some (sym is))
  in_next Claiming part mine n some is = is
  in_next Proposing part mine n some is = is

  module _ (m t : ℕ) (lm : m < 16) (p : BallotIs) (all : AllKept m t p) where
    after_ask : (a : ℕ) → a < length p.parts → (n : AnchorNext) → next_at_anchor p a ≡ n → ((b : ℕ) → slice_get (turns b) t ≡ Some (turn_on b (turn_asking m a n))) → (b : ℕ) → PartKept m b (suc t) p.own (part_at (with_part p.parts a (part_takes (part_at p.parts a) n)) b)
    after_ask a la (Write c) is now =
        one_kept m t lm p all a la _ now (part_takes (part_at p.parts a) (Write c)) (record { kept = kept_write (turns a) m t p.own c (part_at p.parts a).best.bal (now a ∙ ap (λ (y : Turn). Some y) (here_turn a _)) (part_at p.parts a).is_late (part_at p.parts a).stage (part_at p.parts a).asked (in_next p.phase (part_at p.parts a) p.own (Write c) (λ e. absurd (grind (arith, e))) is) (all a).kept })
    after_ask a la (Read half) is now =
        one_kept m t lm p all a la _ now (part_takes (part_at p.parts a) (Read half)) (record { kept = kept_read (turns a) m t p.own half (part_at p.parts a).best.bal (now a ∙ ap (λ (y : Turn). Some y) (here_turn a _)) (part_at p.parts a).is_late (part_at p.parts a).stage (part_at p.parts a).asked (in_next p.phase (part_at p.parts a) p.own (Read half) (λ e. absurd (grind (arith, e))) is) (all a).kept })
    after_ask a la Idle is now = one_kept m t lm p all a la idle_turn (λ b. now b ∙ ap (λ (y : Turn). Some y) (quiet_both b)) (part_at p.parts a) (part_still m a t p.own (part_at p.parts a) (idle_quiet m a t lm (now a ∙ ap (λ (y : Turn). Some y) (quiet_there a))) (all a))
      where
        quiet_there : (b : ℕ) → turn_on b no_turn ≡ idle_turn
        quiet_there b = by (0 == b)
          where
            by : (c : Bool) → cond c idle_turn idle_turn ≡ idle_turn
            by true = refl
            by false = refl

        quiet_both : (b : ℕ) → turn_on b no_turn ≡ turn_on b (record { anchor = a; turn = idle_turn })
        quiet_both b = quiet_there b ∙ sym (by (a == b))
          where
            by : (c : Bool) → cond c idle_turn idle_turn ≡ idle_turn
            by true = refl
            by false = refl

    written_part : (a : ℕ) (part : Part) → part.asked ≡ OwnBlock → PartKept m a t p.own part → slice_get (turns a) t ≡ Some (record { client = m; reply = Some Written; ask = None }) → PartKept m a (suc t) p.own (part_written part)
    written_part a part is k now = record {
      kept = subst (λ n. let q = part_written (record { stage = part.stage; asked = n; is_late = part.is_late; best = part.best }) in Kept (turns a) m q.is_late q.stage q.asked (suc t) p.own q.best.bal) (sym is) (kept_written (turns a) m t p.own part.best now part.is_late part.stage (subst (λ n. Kept (turns a) m part.is_late part.stage n t p.own part.best.bal) is k.kept));
    }

    freed_part : (a : ℕ) (part : Part) → part.is_late ≡ true → PartKept m a t p.own part → PartKept m a (suc t) p.own (part_freed part)
    freed_part a part late k = record {
      kept = subst (λ l. Kept (turns a) m l part.stage Nothing (suc t) p.own part.best.bal) (sym late) (kept_freed (turns a) m t p.own part.best.bal part.stage part.asked (subst (λ l. Kept (turns a) m l part.stage part.asked t p.own part.best.bal) late k.kept));
    }

    module _ (a : ℕ) (la : a < length p.parts) (half : ℕ) (is : (part_at p.parts a).asked ≡ Half half) (blocks : List Block) (on_time : (part_at p.parts a).is_late ≡ false) where
      pub kept_in_time : Kept (turns a) m false (part_at p.parts a).stage (Half half) t p.own (part_at p.parts a).best.bal
      kept_in_time = subst (λ n. Kept (turns a) m false (part_at p.parts a).stage n t p.own (part_at p.parts a).best.bal) is (subst (λ l. Kept (turns a) m l (part_at p.parts a).stage (part_at p.parts a).asked t p.own (part_at p.parts a).best.bal) on_time (all a).kept)

      module _ (none : greatest_mbal blocks ≤ p.own.mbal) (now : (b : ℕ) → slice_get (turns b) t ≡ Some (turn_on b (anchor_turn_answered m a (Gives blocks)))) where
        advanced_part : PartKept m a (suc t) p.own (part_advanced (part_at p.parts a) blocks)
        advanced_part = record {
          kept = subst (λ l. Kept (turns a) m l (part_advanced (part_at p.parts a) blocks).stage Nothing (suc t) p.own (best_of (part_at p.parts a).best blocks).bal) (sym on_time) (kept_advanced (turns a) m t p.own (part_at p.parts a).best blocks (now a ∙ ap (λ (y : Turn). Some y) (here_turn a _)) none half (part_at p.parts a).stage kept_in_time);
        }

        pub all_advanced : (b : ℕ) → PartKept m b (suc t) p.own (part_at (advanced_at p a blocks).parts b)
        all_advanced = one_kept m t lm p all a la _ now (part_advanced (part_at p.parts a) blocks) advanced_part

    after_read : (a : ℕ) → a < length p.parts → (half : ℕ) → (part_at p.parts a).asked ≡ Half half → (blocks : List Block) → (o : BallotOutcome) → IsReading p a blocks o → ((b : ℕ) → slice_get (turns b) t ≡ Some (turn_on b (anchor_turn_answered m a (Gives blocks)))) → AllKept m (suc t) o.ballot
    after_read a la half is blocks o (Late late) now = one_kept m t lm p all a la _ now (part_freed (part_at p.parts a)) (freed_part a (part_at p.parts a) late (all a))
    after_read a la half is blocks o (Aborts on_time) now = λ b. all_begun m (suc t) (freed_at p a).parts p.own b
    after_read a la half is blocks o (Goes on_time none) now = all_advanced a la half is blocks on_time none now
    after_read a la half is blocks o (Proposes on_time none over first) now = λ b. all_begun m (suc t) (advanced_at p a blocks).parts o.ballot.own b
    after_read a la half is blocks o (Lacks on_time) now = λ b. all_begun m (suc t) (advanced_at p a blocks).parts p.own b
    after_read a la half is blocks o (DecidesNow on_time none over second) now = λ b. all_begun m (suc t) (advanced_at p a blocks).parts p.own b

    all_next : (move : Move) → IsStep m p move → ((b : ℕ) → slice_get (turns b) t ≡ Some (turn_on b move.turn)) → AllKept m (suc t) move.ballot
    all_next move (ByStart above input) now = λ b. all_begun m (suc t) p.parts move.ballot.own b
    all_next move (ByAsk a la) now = after_ask a la (next_at_anchor p a) refl now
    all_next move (ByWritten a la is) now = one_kept m t lm p all a la _ now (part_written (part_at p.parts a)) (written_part a (part_at p.parts a) is (all a) (now a ∙ ap (λ (y : Turn). Some y) (here_turn a _)))
    all_next move (ByRead a la half is blocks o reading) now = after_read a la half is blocks o reading now

  all_then : (m t : ℕ) → m < 16 → AllKept m t (state es m t) → Changes es m t → AllKept m (suc t) (state es m (suc t))
  all_then m t lm all (inl stays) = subst (AllKept m (suc t)) (sym stays.same) (all_still m t (state es m t) stays.quiet all)
  all_then m t lm all (inr mv) = subst (AllKept m (suc t)) (sym mv.becomes) (all_next m t lm (state es m t) all mv.move (is_step m (state es m t) mv.call mv.move mv.is) mv.turn)

  pub all_at : (m t : ℕ) → m < 16 → AllKept m t (state es m t)
  all_at m zero lm = λ a. at_new (λ part. PartKept m a 0 zero_block part) es.anchors (fresh zero_block) a (record { kept = tt }) (record { kept = tt })
  all_at m (suc t) lm = all_then m t lm (all_at m t lm) (changes es m t lm)
