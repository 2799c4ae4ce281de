-- The best block of each part is a mount's own block of some moment before, where the blocks of each anchor are registers.
use Rattle.std.proofs.Common.{◌≡◌, ℕ, zero, suc, ◌<◌, ◌≤◌, inl, inr, Bool, true, false, cond, List, length, Some, None, slice_get, arith, refl, sym, ap, subst, ◌∙◌}
use Rattle.std.proofs.lemmas.Option.{same_Some, slice_get_within}
use Rattle.pf_paxos.specs.declared.block.Block.{Block}
use Rattle.pf_paxos.specs.Blocks.{greatest_mbal, best_of, zero_block}
use Rattle.pf_paxos.specs.Registers.{AsksRead, Gives, Turn, ClientHasRead, member}
use Rattle.pf_paxos.proofs.ProposerMoves.{mbal_low, best_is}
use Rattle.pf_paxos.proofs.ClientAsks.{answered_now}
use Rattle.pf_paxos.specs.declared.parts.AnchorAsk.TheVariants.{Half}
use Rattle.pf_paxos.specs.declared.parts.AnchorNext.{AnchorNext}
use Rattle.pf_paxos.specs.declared.parts.AnchorNext.TheVariants.{Write, Read, Idle}
use Rattle.pf_paxos.specs.declared.parts.Stage.{Stage}
use Rattle.pf_paxos.specs.declared.parts.Stage.TheVariants.{Writes, ReadsLow, ReadsHigh, Done}
use Rattle.pf_paxos.specs.declared.parts.Part.{Part}
use Rattle.pf_paxos.specs.Parts.{fresh, part_at, with_part, phase_begun, renewed, part_takes, part_written, part_freed, part_advanced}
use Rattle.pf_paxos.specs.Ballots.{BallotIs, BallotOutcome, next_at_anchor}
use Rattle.pf_paxos.specs.Quorums.{turn_on, AreAllRegisters}
use Rattle.pf_paxos.specs.BallotRuns.{Move, anchor_turn_answered}
use Rattle.pf_paxos.proofs.BallotMoments.{Run, past, state, Changes, changes}
use Rattle.pf_paxos.proofs.BallotSteps.{freed_at, advanced_at, IsReading, Late, Aborts, Goes, Proposes, Lacks, Decides as DecidesNow, IsStep, ByStart, ByAsk, ByWritten, ByRead, is_step}
use Rattle.pf_paxos.proofs.BallotSteady.{own, steady_at, lags_at, IsOver, over_at}
use Rattle.pf_paxos.proofs.BallotForms.{at_all, at_new}
use Rattle.pf_paxos.proofs.BallotParts.{Kept}
use Rattle.pf_paxos.proofs.BallotKept.{turns, here_turn, one_changed, AllKept, all_at, kept_in_time}

takes_best : (part : Part) (n : AnchorNext) → (part_takes part n).best ≡ part.best
takes_best part (Write b) = refl
takes_best part (Read half) = refl
takes_best part Idle = refl

written_best : (part : Part) → (part_written part).best ≡ part.best
written_best part = by part.is_late
  where
    by : (late : Bool) → (cond late (part_freed part) (record (part_freed part) { stage = ReadsLow })).best ≡ part.best
    by true = refl
    by false = refl

module _ (es : Run) where
  -- the bal and the value are those of a mount's own block of some moment before
  pub record IsSeen (before : ℕ) (b : Block) : Type 0 where
    pub mount : ℕ
    pub is_mount : mount < 16
    pub at : ℕ
    pub earlier : at ≤ before
    pub bal : b.bal ≡ (own es mount at).bal
    pub value : b.value ≡ (own es mount at).value

  -- and the bal is not above this one
  pub record SeenLow (before most : ℕ) (b : Block) : Type 0 where
    pub seen : IsSeen before b
    pub low : b.bal ≤ most

  abbrev pub AllSeen : (t : ℕ) → BallotIs → Type 0
  AllSeen t p = (a : ℕ) → SeenLow t p.own.mbal (part_at p.parts a).best

  later : (t most : ℕ) (b : Block) → SeenLow t most b → SeenLow (suc t) most b
  later t most b s = record { seen = record { mount = s.seen.mount; is_mount = s.seen.is_mount; at = s.seen.at; earlier = omega (arith, s.seen.earlier); bal = s.seen.bal; value = s.seen.value }; low = s.low }

  -- where there is no anchor
  zero_seen : (t most : ℕ) → SeenLow t most zero_block
  zero_seen t most = record { seen = record { mount = 0; is_mount = omega arith; at = 0; earlier = omega arith; bal = refl; value = refl }; low = omega arith }

  -- a phase begins
  all_begun : (m t : ℕ) → m < 16 → (parts : List Part) (mine : Block) → own es m t ≡ mine → mine.bal ≤ mine.mbal → (a : ℕ) → SeenLow t mine.mbal (part_at (renewed parts mine) a).best
  all_begun m t lm parts mine is low a = at_all (λ part. SeenLow t mine.mbal part.best) (phase_begun mine) parts a (λ _. mine_seen) (zero_seen t mine.mbal)
    where
      mine_seen : SeenLow t mine.mbal mine
      mine_seen = record {
        seen = record { mount = m; is_mount = lm; at = t; earlier = omega arith; bal = ap (λ (b : Block). b.bal) (sym is); value = ap (λ (b : Block). b.value) (sym is) };
        low = low;
      }

  module _ (m t : ℕ) (lm : m < 16) (p : BallotIs) (all : AllSeen t p) where
    -- one part changes
    one_seen : (a : ℕ) → a < length p.parts → (part : Part) → SeenLow (suc t) p.own.mbal part.best → (b : ℕ) → SeenLow (suc t) p.own.mbal (part_at (with_part p.parts a part) b).best
    one_seen a la part new = one_changed (λ b part. SeenLow (suc t) p.own.mbal part.best) p.parts a la part new (λ b apart. later t p.own.mbal (part_at p.parts b).best (all b))

    -- its best block stays
    same_seen : (a : ℕ) → a < length p.parts → (part : Part) → part.best ≡ (part_at p.parts a).best → (b : ℕ) → SeenLow (suc t) p.own.mbal (part_at (with_part p.parts a part) b).best
    same_seen a la part same = one_seen a la part (subst (SeenLow (suc t) p.own.mbal) (sym same) (later t p.own.mbal (part_at p.parts a).best (all a)))

    module _ (registers : AreAllRegisters es.anchors (past es)) (kept : AllKept es m t p) (over : IsOver es p) where
      -- a block that was read at an anchor is that of some mount, as it was before
      read_block : (a half asked k : ℕ) (blocks : List Block) (r : Block) → a < length p.parts → half < 2 → ClientHasRead (turns es a) m half asked t blocks → slice_get blocks k ≡ Some r → SeenLow t r.mbal r
      read_block a half asked k blocks r la low read at =
          let g = registers a (subst (λ k. a < k) over.count la) in
          let inside : k < 8 = omega (arith, slice_get_within blocks k r at, g.whole m half asked t blocks read) in
          let is_mount : member half k < 16 = omega (arith, inside, low) in
          let l = lags_at es a (member half k) (g.seen t (member half k)) is_mount in
          let same : r ≡ own es (member half k) l.at = same_Some _ _ (sym at ∙ g.gives m half asked t k blocks read inside) ∙ l.is in
          record {
            seen = record { mount = member half k; is_mount = is_mount; at = l.at; earlier = omega (arith, l.earlier, g.not_late m half asked t k blocks read inside); bal = ap (λ (b : Block). b.bal) same; value = ap (λ (b : Block). b.value) same };
            low = subst (λ (b : Block). b.bal ≤ b.mbal) (sym same) (steady_at es (member half k) l.at is_mount).low;
          }

      record ReadNow (a half : ℕ) (blocks : List Block) : Type 0 where
        asked : ℕ
        read : ClientHasRead (turns es a) m half asked t blocks
        low : half < 2

      read_now : (a half : ℕ) (blocks : List Block) (mine : Block) (best : ℕ) → slice_get (turns es a) t ≡ Some (record { client = m; reply = Some (Gives blocks); ask = None }) → (stage : Stage) → Kept (turns es a) m false stage (Half half) t mine best → ReadNow a half blocks
      read_now a half blocks mine best now Writes x = absurd x
      read_now a half blocks mine best now ReadsLow x = record { asked = x.asked.last; read = answered_now (turns es a) m t _ (AsksRead half) (Gives blocks) x.asked now refl refl; low = omega (arith, x.is) }
      read_now a half blocks mine best now ReadsHigh x = record { asked = x.asked.last; read = answered_now (turns es a) m t _ (AsksRead half) (Gives blocks) x.asked now refl refl; low = omega (arith, x.is) }
      read_now a half blocks mine best now Done x = absurd x

      module _ (a : ℕ) (la : a < length p.parts) (half : ℕ) (is : (part_at p.parts a).asked ≡ Half half) (blocks : List Block) (on_time : (part_at p.parts a).is_late ≡ false) (none : greatest_mbal blocks ≤ p.own.mbal) (now : (b : ℕ) → slice_get (turns es b) t ≡ Some (turn_on b (anchor_turn_answered m a (Gives blocks)))) where
        best_seen : SeenLow t p.own.mbal (best_of (part_at p.parts a).best blocks)
        best_seen =
            let r = read_now a half blocks p.own (part_at p.parts a).best.bal (now a ∙ ap (λ (y : Turn). Some y) (here_turn a _)) (part_at p.parts a).stage (kept_in_time es m t lm p kept a la half is blocks on_time) in
            elim (best_is (part_at p.parts a).best blocks).one [
              | inl same ↦ subst (SeenLow t p.own.mbal) (sym same) (all a)
              | inr there ↦
                  let one = read_block a half r.asked there.0 blocks (best_of (part_at p.parts a).best blocks) la r.low r.read there.1 in
                  record { seen = one.seen; low = omega (arith, one.low, mbal_low blocks there.0 (best_of (part_at p.parts a).best blocks) there.1, none) }
            ]

        -- also now, before the mount's own next block
        pub all_seen : (b : ℕ) → SeenLow t p.own.mbal (part_at (advanced_at p a blocks).parts b).best
        all_seen = one_changed (λ b part. SeenLow t p.own.mbal part.best) p.parts a la (part_advanced (part_at p.parts a) blocks) best_seen (λ b apart. all b)

      after_read : (a : ℕ) → a < length p.parts → (half : ℕ) → (part_at p.parts a).asked ≡ Half half → (blocks : List Block) → (o : BallotOutcome) → IsReading p a blocks o → ((b : ℕ) → slice_get (turns es b) t ≡ Some (turn_on b (anchor_turn_answered m a (Gives blocks)))) → own es m (suc t) ≡ o.ballot.own → o.ballot.own.bal ≤ o.ballot.own.mbal → AllSeen (suc t) o.ballot
      after_read a la half is blocks o (Late late) now mine low = same_seen a la (part_freed (part_at p.parts a)) refl
      after_read a la half is blocks o (Aborts on_time) now mine low = λ b. all_begun m (suc t) lm (freed_at p a).parts p.own mine low b
      after_read a la half is blocks o (Goes on_time none) now mine low = λ b. later t p.own.mbal _ (all_seen a la half is blocks on_time none now b)
      after_read a la half is blocks o (Proposes on_time none over first) now mine low = λ b. all_begun m (suc t) lm (advanced_at p a blocks).parts o.ballot.own mine low b
      after_read a la half is blocks o (Lacks on_time) now mine low = λ b. all_begun m (suc t) lm (advanced_at p a blocks).parts p.own mine low b
      after_read a la half is blocks o (DecidesNow on_time none over second) now mine low = λ b. all_begun m (suc t) lm (advanced_at p a blocks).parts p.own mine low b

      all_next : (move : Move) → IsStep m p move → ((b : ℕ) → slice_get (turns es b) t ≡ Some (turn_on b move.turn)) → own es m (suc t) ≡ move.ballot.own → move.ballot.own.bal ≤ move.ballot.own.mbal → AllSeen (suc t) move.ballot
      all_next move (ByStart above input) now mine low = λ b. all_begun m (suc t) lm p.parts move.ballot.own mine low b
      all_next move (ByAsk a la) now mine low = same_seen a la (part_takes (part_at p.parts a) (next_at_anchor p a)) (takes_best (part_at p.parts a) (next_at_anchor p a))
      all_next move (ByWritten a la is) now mine low = same_seen a la (part_written (part_at p.parts a)) (written_best (part_at p.parts a))
      all_next move (ByRead a la half is blocks o reading) now mine low = after_read a la half is blocks o reading now mine low

  module _ (registers : AreAllRegisters es.anchors (past es)) where
    seen_then : (m t : ℕ) → m < 16 → AllSeen t (state es m t) → Changes es m t → AllSeen (suc t) (state es m (suc t))
    seen_then m t lm all (inl stays) = subst (AllSeen (suc t)) (sym stays.same) (λ a. later t (state es m t).own.mbal (part_at (state es m t).parts a).best (all a))
    seen_then m t lm all (inr mv) =
        let steady = steady_at es m (suc t) lm in
        subst (AllSeen (suc t)) (sym mv.becomes)
        (all_next m t lm (state es m t) all registers (all_at es m t lm) (over_at es m t lm) mv.move (is_step m (state es m t) mv.call mv.move mv.is) mv.turn (ap (λ (q : BallotIs). q.own) mv.becomes) (subst (λ (q : BallotIs). q.own.bal ≤ q.own.mbal) mv.becomes steady.low))

    pub seen_at : (m t : ℕ) → m < 16 → AllSeen t (state es m t)
    seen_at m zero lm = λ a. at_new (λ part. SeenLow 0 0 part.best) es.anchors (fresh zero_block) a (zero_seen 0 0) (zero_seen 0 0)
    seen_at m (suc t) lm = seen_then m t lm (seen_at m t lm) (changes es m t lm)
