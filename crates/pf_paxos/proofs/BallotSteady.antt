-- What a mount has at each moment, that its own block only grows, and that the block at each anchor is an own block of before.
use Rattle.std.proofs.Common.{◌≡◌, ℕ, zero, suc, ◌<◌, ◌≤◌, inl, inr, Bool, true, false, cond, ◌==◌, max, List, length, Option, Some, None, slice_get, arith, refl, sym, ap, subst, ◌∙◌, eq-or-lt_of_le}
use Rattle.std.proofs.lemmas.List.{length-set, length-map, length-replicate}
use Rattle.pf_paxos.specs.declared.block.Block.{Block}
use Rattle.pf_paxos.specs.Blocks.{IsBallot, ballot_after, zero_block}
use Rattle.pf_paxos.specs.Registers.{Turn, block_before, block_after}
use Rattle.pf_paxos.specs.Runs.{idle_turn}
use Rattle.pf_paxos.proofs.ProposerAgreement.{Grows, grows_not, grows_both, AreSound}
use Rattle.pf_paxos.proofs.Moments.{block_next, block_past, own_block, other_block}
use Rattle.pf_paxos.proofs.Steady.{next_ballot}
use Rattle.pf_paxos.specs.declared.parts.AnchorAsk.{AnchorAsk}
use Rattle.pf_paxos.specs.declared.parts.AnchorAsk.TheVariants.{Nothing, OwnBlock, Half}
use Rattle.pf_paxos.specs.declared.parts.AnchorNext.{AnchorNext}
use Rattle.pf_paxos.specs.declared.parts.AnchorNext.TheVariants.{Write, Read, Idle}
use Rattle.pf_paxos.specs.declared.ballot.Phase.{Phase}
use Rattle.pf_paxos.specs.declared.ballot.Phase.TheVariants.{Resting, Claiming, Proposing}
use Rattle.pf_paxos.specs.declared.parts.Stage.{Stage}
use Rattle.pf_paxos.specs.declared.parts.Stage.TheVariants.{Writes, ReadsLow, ReadsHigh, Done}
use Rattle.pf_paxos.specs.declared.parts.Part.{Part}
use Rattle.pf_paxos.specs.Parts.{part_at, phase_begun, renewed, fresh, next_where}
use Rattle.pf_paxos.specs.Ballots.{BallotIs, BallotOutcome, ballot_claim, next_at_anchor, next_in_phase}
use Rattle.pf_paxos.specs.Quorums.{AnchorTurn, turn_on, turns_on}
use Rattle.pf_paxos.specs.BallotRuns.{Move, turn_asking}
use Rattle.pf_paxos.proofs.BallotMoments.{Run, past, state, IsQuiet, Changes, changes}
use Rattle.pf_paxos.proofs.BallotSteps.{IsReading, Late, Aborts, Goes, Proposes, Lacks, Decides, IsStep, ByStart, ByAsk, ByWritten, ByRead, is_step}

abbrev pub Stance : Phase → (m : ℕ) → Block → Type 0
Stance Resting m own = Unit {0}
Stance Claiming m own = own.bal < own.mbal
Stance Proposing m own = (own.bal ≡ own.mbal) × IsBallot m own.mbal

pub record IsSteady (m : ℕ) (p : BallotIs) : Type 0 where
  pub mount : p.mount ≡ m
  pub low : p.own.bal ≤ p.own.mbal
  pub claims : 0 < p.own.mbal → IsBallot m p.own.mbal
  pub takes : 0 < p.own.bal → IsBallot m p.own.bal
  pub stance : Stance p.phase m p.own

pub record Went (m : ℕ) (p q : BallotIs) : Type 0 where
  pub steady : IsSteady m q
  pub grows : Grows p.own q.own

module _ (m : ℕ) (is_mount : m < 16) (p : BallotIs) (s : IsSteady m p) where
  -- the own block and the phase stay
  kept : (q : BallotIs) → q.mount ≡ p.mount → q.own ≡ p.own → q.phase ≡ p.phase → Went m p q
  kept q mount own phase = record {
    steady = record {
      mount = mount ∙ s.mount;
      low = subst (λ (b : Block). b.bal ≤ b.mbal) (sym own) s.low;
      claims = subst (λ (b : Block). 0 < b.mbal → IsBallot m b.mbal) (sym own) s.claims;
      takes = subst (λ (b : Block). 0 < b.bal → IsBallot m b.bal) (sym own) s.takes;
      stance = subst (λ ph. Stance ph m q.own) (sym phase) (subst (λ b. Stance p.phase m b) (sym own) s.stance);
    };
    grows = subst (Grows p.own) (sym own) (grows_not p.own);
  }

  -- the ballot ends
  rested : (q : BallotIs) → q.mount ≡ p.mount → q.own ≡ p.own → q.phase ≡ Resting → Went m p q
  rested q mount own phase = record {
    steady = record {
      mount = mount ∙ s.mount;
      low = subst (λ (b : Block). b.bal ≤ b.mbal) (sym own) s.low;
      claims = subst (λ (b : Block). 0 < b.mbal → IsBallot m b.mbal) (sym own) s.claims;
      takes = subst (λ (b : Block). 0 < b.bal → IsBallot m b.bal) (sym own) s.takes;
      stance = subst (λ ph. Stance ph m q.own) (sym phase) tt;
    };
    grows = subst (Grows p.own) (sym own) (grows_not p.own);
  }

  starts : (above : ℕ) → IsBallot m (ballot_claim p above).mbal × (p.own.mbal < (ballot_claim p above).mbal)
  starts above =
      let n = next_ballot m (max above p.own.mbal) is_mount in
      let is : ballot_after m (max above p.own.mbal) ≡ (ballot_claim p above).mbal = ap (λ k. ballot_after k (max above p.own.mbal)) (sym s.mount) in
      (subst (IsBallot m) is n.0, omega (arith, n.1, is))

  pub first_less : p.phase ≡ Claiming → p.own.bal < p.own.mbal
  first_less is = subst (λ ph. Stance ph m p.own) is s.stance

  after_read : (a : ℕ) (blocks : List Block) (o : BallotOutcome) → IsReading p a blocks o → Went m p o.ballot
  after_read a blocks o (Late _) = kept o.ballot refl refl refl
  after_read a blocks o (Aborts _) = rested o.ballot refl refl refl
  after_read a blocks o (Goes _ _) = kept o.ballot refl refl refl
  after_read a blocks o (Proposes _ _ _ is) =
      let less = first_less is in
      let ballot = s.claims (omega (arith, less)) in
      record { steady = record { mount = s.mount; low = omega arith; claims = λ _. ballot; takes = λ _. ballot; stance = (refl, ballot) }; grows = record { mbal = omega arith; bal = inl less } }
  after_read a blocks o (Lacks _) = rested o.ballot refl refl refl
  after_read a blocks o (Decides _ _ _ _) = rested o.ballot refl refl refl

  pub went : (move : Move) → IsStep m p move → Went m p move.ballot
  went move (ByStart above input) =
      let n = starts above in
      record { steady = record { mount = s.mount; low = omega (arith, n.1, s.low); claims = λ _. n.0; takes = s.takes; stance = omega (arith, n.1, s.low) }; grows = record { mbal = omega (arith, n.1); bal = inr (refl, refl) } }
  went move (ByAsk a low) = kept move.ballot refl refl refl
  went move (ByWritten a low is) = kept move.ballot refl refl refl
  went move (ByRead a low half is blocks o reading) = after_read a blocks o reading

module _ (es : Run) where
  -- a mount's own block before a moment
  abbrev pub own : (mount moment : ℕ) → Block
  own m t = (state es m t).own

  steady_next : (m t : ℕ) → m < 16 → IsSteady m (state es m t) → Changes es m t → Went m (state es m t) (state es m (suc t))
  steady_next m t lm s (inl stays) = subst (Went m (state es m t)) (sym stays.same) (record { steady = s; grows = grows_not (own m t) })
  steady_next m t lm s (inr mv) = subst (Went m (state es m t)) (sym mv.becomes) (went m lm (state es m t) s mv.move (is_step m (state es m t) mv.call mv.move mv.is))

  pub steady_at : (m t : ℕ) → m < 16 → IsSteady m (state es m t)
  steady_at m zero lm = record { mount = refl; low = omega arith; claims = λ x. absurd (omega (arith, x)); takes = λ x. absurd (omega (arith, x)); stance = tt }
  steady_at m (suc t) lm = (steady_next m t lm (steady_at m t lm) (changes es m t lm)).steady

  pub own_grows : (m s t : ℕ) → m < 16 → s ≤ t → Grows (own m s) (own m t)
  own_grows m s zero lm le = let same : s ≡ 0 = omega (arith, le) in subst (λ k. Grows (own m s) (own m k)) same (grows_not (own m s))
  own_grows m s (suc t) lm le =
      elim (eq-or-lt_of_le le) [
        | inl same ↦ subst (λ k. Grows (own m s) (own m k)) same (grows_not (own m s))
        | inr less ↦ grows_both _ _ _ (own_grows m s t lm (omega (arith, less))) (steady_next m t lm (steady_at m t lm) (changes es m t lm)).grows
      ]

  pub own_sound : AreSound own
  own_sound = record { grows = own_grows; ballots = λ m t lm some. (steady_at m t lm).takes some }

  -- the block at an anchor
  abbrev pub there : (a m t : ℕ) → Block
  there a m t = block_before (turns_on a (past es)) m t

  -- it is the own block of some moment before
  pub record Lags (a m t : ℕ) : Type 0 where
    pub at : ℕ
    pub earlier : at ≤ t
    pub is : there a m t ≡ own m at

  pub record LagsOn (a m t : ℕ) (before : Block) : Type 0 where
    pub lags : Lags a m t
    pub grows : Grows before (there a m t)

  -- the block after a turn in which the mount asks for no write, or for that of its own block
  lags_same : (a m t : ℕ) → Lags a m t → there a m (suc t) ≡ there a m t → LagsOn a m (suc t) (there a m t)
  lags_same a m t l same = record { lags = record { at = l.at; earlier = omega (arith, l.earlier); is = same ∙ l.is }; grows = subst (Grows (there a m t)) (sym same) (grows_not (there a m t)) }

  lags_new : (a m t : ℕ) → m < 16 → Lags a m t → there a m (suc t) ≡ own m t → LagsOn a m (suc t) (there a m t)
  lags_new a m t lm l new = record { lags = record { at = t; earlier = omega arith; is = new }; grows = subst (λ b. Grows b (there a m (suc t))) (sym l.is) (subst (Grows (own m l.at)) (sym new) (own_grows m l.at t lm l.earlier)) }

  lags_quiet : (a m t : ℕ) → Lags a m t → IsQuiet es m a t → LagsOn a m (suc t) (there a m t)
  lags_quiet a m t l quiet = lags_same a m t l (by (slice_get (turns_on a (past es)) t) refl)
    where
      by : (o : Option Turn) → slice_get (turns_on a (past es)) t ≡ o → there a m (suc t) ≡ there a m t
      by None at = block_past m t zero_block (turns_on a (past es)) at
      by (Some x) at = block_next m t zero_block (turns_on a (past es)) x at ∙ other_block m (there a m t) x (quiet x at)

  -- what a turn leaves
  data Leaves (m : ℕ) (mine : Block) (x : Turn) : Type 0 where
    Old : ((b : Block) → block_after m b x ≡ b) → Leaves m mine x
    New : ((b : Block) → block_after m b x ≡ mine) → Leaves m mine x

  idle_leaves : (m : ℕ) (mine : Block) → m < 16 → Leaves m mine idle_turn
  idle_leaves m mine lm = Old (λ b. other_block m b idle_turn (λ e. absurd (omega (arith, e, lm))))

  next_leaves : (m : ℕ) (p : BallotIs) (a : ℕ) → m < 16 → (n : AnchorNext) → next_at_anchor p a ≡ n → Leaves m p.own (turn_asking m a n).turn
  next_leaves m p a lm (Write b) is = New (λ c. own_block m c (turn_asking m a (Write b)).turn refl ∙ written_is p.phase (part_at p.parts a).asked (part_at p.parts a).stage is)
    where
      staged : (stage : Stage) → next_where Nothing stage p.own ≡ Write b → b ≡ p.own
      staged Writes same = cc
      staged ReadsLow same = absurd (grind (arith, same))
      staged ReadsHigh same = absurd (grind (arith, same))
      staged Done same = absurd (grind (arith, same))

      waits : (asked : AnchorAsk) (stage : Stage) → next_where asked stage p.own ≡ Write b → b ≡ p.own
      waits Nothing stage same = staged stage same
      waits OwnBlock stage same = absurd (grind (arith, same))
      waits (Half h) stage same = absurd (grind (arith, same))

      written_is : (ph : Phase) (asked : AnchorAsk) (stage : Stage) → next_in_phase ph (record { stage = stage; asked = asked; is_late = (part_at p.parts a).is_late; best = (part_at p.parts a).best }) p.own ≡ Write b → b ≡ p.own
      written_is Resting asked stage same = absurd (grind (arith, same))
      written_is Claiming asked stage same = waits asked stage same
      written_is Proposing asked stage same = waits asked stage same
  next_leaves m p a lm (Read h) is = Old (λ c. own_block m c (turn_asking m a (Read h)).turn refl)
  next_leaves m p a lm Idle is = idle_leaves m p.own lm

  step_leaves : (m : ℕ) (p : BallotIs) → m < 16 → (move : Move) → IsStep m p move → Leaves m p.own move.turn.turn
  step_leaves m p lm move (ByStart above input) = idle_leaves m p.own lm
  step_leaves m p lm move (ByAsk a low) = next_leaves m p a lm (next_at_anchor p a) refl
  step_leaves m p lm move (ByWritten a low is) = Old (λ c. own_block m c move.turn.turn refl)
  step_leaves m p lm move (ByRead a low half is blocks o reading) = Old (λ c. own_block m c move.turn.turn refl)

  turn_leaves : (m a : ℕ) (mine : Block) (x : AnchorTurn) → m < 16 → Leaves m mine x.turn → Leaves m mine (turn_on a x)
  turn_leaves m a mine x lm l = by (x.anchor == a)
    where
      by : (b : Bool) → Leaves m mine (cond b x.turn idle_turn)
      by true = l
      by false = idle_leaves m mine lm

  lags_next : (a m t : ℕ) → m < 16 → Lags a m t → Changes es m t → LagsOn a m (suc t) (there a m t)
  lags_next a m t lm l (inl stays) = lags_quiet a m t l (stays.quiet a)
  lags_next a m t lm l (inr mv) = by (turn_leaves m a (own m t) mv.move.turn lm (step_leaves m (state es m t) lm mv.move (is_step m (state es m t) mv.call mv.move mv.is)))
    where
      now : there a m (suc t) ≡ block_after m (there a m t) (turn_on a mv.move.turn)
      now = block_next m t zero_block (turns_on a (past es)) (turn_on a mv.move.turn) (mv.turn a)

      by : Leaves m (own m t) (turn_on a mv.move.turn) → LagsOn a m (suc t) (there a m t)
      by (Old is) = lags_same a m t l (now ∙ is (there a m t))
      by (New is) = lags_new a m t lm l (now ∙ is (there a m t))

  pub lags_at : (a m t : ℕ) → m < 16 → Lags a m t
  lags_at a m zero lm = record { at = 0; earlier = omega arith; is = refl }
  lags_at a m (suc t) lm = (lags_next a m t lm (lags_at a m t lm) (changes es m t lm)).lags

  pub there_grows : (a m s t : ℕ) → m < 16 → s ≤ t → Grows (there a m s) (there a m t)
  there_grows a m s zero lm le = let same : s ≡ 0 = omega (arith, le) in subst (λ k. Grows (there a m s) (there a m k)) same (grows_not (there a m s))
  there_grows a m s (suc t) lm le =
      elim (eq-or-lt_of_le le) [
        | inl same ↦ subst (λ k. Grows (there a m s) (there a m k)) same (grows_not (there a m s))
        | inr less ↦ grows_both _ _ _ (there_grows a m s t lm (omega (arith, less))) (lags_next a m t lm (lags_at a m t lm) (changes es m t lm)).grows
      ]

-- the quorum and the count of the parts stay
pub record Same (p q : BallotIs) : Type 0 where
  pub quorum : q.quorum ≡ p.quorum
  pub count : length q.parts ≡ length p.parts

same_begun : (p : BallotIs) (parts : List Part) (own : Block) → length parts ≡ length p.parts → length (renewed parts own) ≡ length p.parts
same_begun p parts own is = length-map parts (phase_begun own) ∙ is

same_read : (p : BallotIs) (a : ℕ) (blocks : List Block) (o : BallotOutcome) → IsReading p a blocks o → Same p o.ballot
same_read p a blocks o (Late _) = record { quorum = refl; count = length-set p.parts a _ }
same_read p a blocks o (Aborts _) = record { quorum = refl; count = same_begun p _ _ (length-set p.parts a _) }
same_read p a blocks o (Goes _ _) = record { quorum = refl; count = length-set p.parts a _ }
same_read p a blocks o (Proposes _ _ _ _) = record { quorum = refl; count = same_begun p _ _ (length-set p.parts a _) }
same_read p a blocks o (Lacks _) = record { quorum = refl; count = same_begun p _ _ (length-set p.parts a _) }
same_read p a blocks o (Decides _ _ _ _) = record { quorum = refl; count = same_begun p _ _ (length-set p.parts a _) }

same_step : (m : ℕ) (p : BallotIs) (move : Move) → IsStep m p move → Same p move.ballot
same_step m p move (ByStart above input) = record { quorum = refl; count = same_begun p p.parts _ refl }
same_step m p move (ByAsk a low) = record { quorum = refl; count = length-set p.parts a _ }
same_step m p move (ByWritten a low is) = record { quorum = refl; count = length-set p.parts a _ }
same_step m p move (ByRead a low half is blocks o reading) = same_read p a blocks o reading

-- they are those of the history
pub record IsOver (es : Run) (p : BallotIs) : Type 0 where
  pub quorum : p.quorum ≡ es.quorum
  pub count : length p.parts ≡ es.anchors

over_next : (es : Run) (m t : ℕ) → IsOver es (state es m t) → Changes es m t → IsOver es (state es m (suc t))
over_next es m t over (inl stays) = subst (IsOver es) (sym stays.same) over
over_next es m t over (inr mv) =
    let same = same_step m (state es m t) mv.move (is_step m (state es m t) mv.call mv.move mv.is) in
    subst (IsOver es) (sym mv.becomes) (record { quorum = same.quorum ∙ over.quorum; count = same.count ∙ over.count })

pub over_at : (es : Run) (m t : ℕ) → m < 16 → IsOver es (state es m t)
over_at es m zero lm = record { quorum = refl; count = length-replicate es.anchors (fresh zero_block) }
over_at es m (suc t) lm = over_next es m t (over_at es m t lm) (changes es m t lm)
