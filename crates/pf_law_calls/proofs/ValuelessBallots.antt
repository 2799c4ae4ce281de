-- A ballot that ends without a value has read a quorum of the anchors since it began, and has found no nonzero bal.
use Rattle.std.proofs.Common.{◌≡◌, ◌⊎◌, inl, inr, ℕ, zero, suc, ◌<◌, ◌≤◌, ◌==◌, nat_lt, max, true, false, if◌then◌else◌, List, length, Option, Some, None, slice_get, arith, refl, sym, ap, subst, ◌∙◌, eq-or-lt_of_le}
use Rattle.std.proofs.lemmas.Bool.{cases_lt, eqb-true, ltb-false}
use Rattle.std.proofs.lemmas.List.{length-set}
use Rattle.pf_entry.proofs.Cases.{by_test}
use Rattle.pf_paxos.specs.declared.block.Block.{Block}
use Rattle.pf_paxos.specs.declared.ballot.BallotStep.TheVariants.{Abort, Go, NoValue}
use Rattle.pf_paxos.specs.declared.ballot.Phase.{Phase}
use Rattle.pf_paxos.specs.declared.ballot.Phase.TheVariants.{Claiming, Proposing, Resting}
use Rattle.pf_paxos.specs.declared.parts.AnchorAsk.TheVariants.{Half}
use Rattle.pf_paxos.specs.Blocks.{ballot_after, greatest_mbal}
use Rattle.pf_paxos.specs.BallotRuns.{Move, anchor_turn_answered}
use Rattle.pf_paxos.specs.Ballots.{BallotIs, BallotOutcome, chosen, ballot_claim, ballot_ended, is_phase_over, passed, phase_ended, ballot_proposed, read_at, read_in_time}
use Rattle.pf_paxos.specs.Parts.{best_done, part_freed, part_at, with_part}
use Rattle.pf_paxos.specs.Quorums.{FindsNothingOver, turn_on}
use Rattle.pf_paxos.specs.Registers.{Gives}
use Rattle.pf_paxos.specs.Syncs.{FindsNothing}
use Rattle.pf_paxos.proofs.BallotKept.{AllKept, all_advanced, all_at, turns}
use Rattle.pf_paxos.proofs.BallotMoments.{Changes, Run, changes, past, state}
use Rattle.pf_paxos.proofs.BallotParts.{AllDone}
use Rattle.pf_paxos.proofs.BallotPicks.{best_done_is, over_quorum, part_done}
use Rattle.pf_paxos.proofs.BallotSteady.{IsOver, IsSteady, lags_at, over_at, own, own_grows, steady_at}
use Rattle.pf_paxos.proofs.BallotSteps.{Aborts, ByAsk, ByRead, ByStart, ByWritten, Decides, Goes, IsReading, IsStep, Lacks, Late, Proposes, advanced_at, is_step}
use Rattle.pf_paxos.proofs.CrossingPhases.{written_block}
use Rattle.pf_paxos.proofs.Steady.{next_ballot}

-- Since no ballot of the mount ran, its mbal has grown where one runs

module _ (k m : ℕ) (lm : m < 16) where
  abbrev Since : BallotIs → Type 0
  Since p = (p.phase ≡ Resting) ⊎ (k < p.own.mbal)

  read_since : (p : BallotIs) (a : ℕ) (blocks : List Block) (o : BallotOutcome) → IsReading p a blocks o → Since p → Since o.ballot
  read_since p a blocks o (Late _) since = since
  read_since p a blocks o (Aborts _) since = inl refl
  read_since p a blocks o (Goes _ _) since = since
  read_since p a blocks o (Proposes _ _ _ claims) (inl rests) = absurd (cc)
  read_since p a blocks o (Proposes _ _ _ claims) (inr less) = inr less
  read_since p a blocks o (Lacks _) since = inl refl
  read_since p a blocks o (Decides _ _ _ _) since = inl refl

  step_since : (p : BallotIs) → IsSteady m p → k ≤ p.own.mbal → (move : Move) → IsStep m p move → Since p → Since move.ballot
  step_since p steady low move (ByStart above input) since =
      let n = (next_ballot m (max above p.own.mbal) lm).1 in
      let is : ballot_after m (max above p.own.mbal) ≡ (ballot_claim p above).mbal = ap (λ i. ballot_after i (max above p.own.mbal)) (sym steady.mount) in
      inr (omega (arith, n, is, low))
  step_since p steady low move (ByAsk a _) since = since
  step_since p steady low move (ByWritten a _ _) since = since
  step_since p steady low move (ByRead a _ half is blocks o reading) since = read_since p a blocks o reading since

-- A read that ends a ballot without a value

pub record LacksNow (p : BallotIs) (a : ℕ) (blocks : List Block) : Type 0 where
  on_time : (part_at p.parts a).is_late ≡ false
  none : greatest_mbal blocks ≤ p.own.mbal
  over : is_phase_over p.quorum (advanced_at p a blocks).parts ≡ true
  claims : p.phase ≡ Claiming
  bal : (best_done (advanced_at p a blocks).parts p.own).bal ≡ 0

module _ (p : BallotIs) (a : ℕ) (blocks : List Block) where
  abbrev q : BallotIs
  q = advanced_at p a blocks

  abbrev best : Block
  best = best_done q.parts p.own

  module _ (on_time : (part_at p.parts a).is_late ≡ false) (none : greatest_mbal blocks ≤ p.own.mbal) (over : is_phase_over p.quorum q.parts ≡ true) where
    by_choice : p.phase ≡ Claiming → (input : Option (List ℕ)) → (chosen input q best).step ≡ NoValue → LacksNow p a blocks
    by_choice claims (Some value) is = absurd (grind (arith, is))
    by_choice claims None is =
        by_test (best.bal == 0) (λ b. (if b then ballot_ended q NoValue else ballot_proposed q best).step ≡ NoValue → LacksNow p a blocks)
        (λ zero is. record { on_time = on_time; none = none; over = over; claims = claims; bal = eqb-true best.bal 0 zero }) (λ _ is. absurd (grind (arith, is)))
        is

    by_phase : (phase : Phase) → p.phase ≡ phase → (phase_ended phase q).step ≡ NoValue → LacksNow p a blocks
    by_phase Resting at is = absurd (grind (arith, is))
    by_phase Proposing at is = absurd (grind (arith, is))
    by_phase Claiming at is = by_choice at p.input is

  pub lacks_now : (read_at p a blocks).step ≡ NoValue → LacksNow p a blocks
  lacks_now =
      by_test (part_at p.parts a).is_late
      (λ b. (let o : BallotOutcome = if b then record { ballot = record p { parts = with_part p.parts a (part_freed (part_at p.parts a)) }; step = Go } else read_in_time p a blocks in o.step) ≡ NoValue → LacksNow p a blocks)
      (λ _ is. absurd (grind (arith, is)))
      (λ on_time.
      by_test (nat_lt p.own.mbal (greatest_mbal blocks))
      (λ b. (if b then ballot_ended (record p { parts = with_part p.parts a (part_freed (part_at p.parts a)) }) (Abort (greatest_mbal blocks)) else passed q).step ≡ NoValue → LacksNow p a blocks)
      (λ _ is. absurd (grind (arith, is)))
      (λ none.
      by_test (is_phase_over p.quorum q.parts) (λ b. (let o : BallotOutcome = if b then phase_ended p.phase q else record { ballot = q; step = Go } in o.step) ≡ NoValue → LacksNow p a blocks)
      (λ over is. by_phase on_time (ltb-false p.own.mbal (greatest_mbal blocks) none) over p.phase refl is) (λ _ is. absurd (grind (arith, is)))))

module _ (es : Run) (m : ℕ) (lm : m < 16) (from : ℕ) (rests : (state es m from).phase ≡ Resting) where
  abbrev k : ℕ
  k = (own es m from).mbal

  since_then : (t : ℕ) → k ≤ (own es m t).mbal → Since k m lm (state es m t) → Changes es m t → Since k m lm (state es m (suc t))
  since_then t low since (inl stays) = subst (Since k m lm) (sym stays.same) since
  since_then t low since (inr mv) =
      subst (Since k m lm) (sym mv.becomes) (step_since k m lm (state es m t) (steady_at es m t lm) low mv.move (is_step m (state es m t) mv.call mv.move mv.is) since)

  since_at : (t : ℕ) → from ≤ t → Since k m lm (state es m t)
  since_at zero le = let same : from ≡ 0 = omega (arith, le) in subst (λ i. Since k m lm (state es m i)) same (inl rests)
  since_at (suc t) le =
      elim (eq-or-lt_of_le le) [
        | inl same ↦ subst (λ i. Since k m lm (state es m i)) same (inl rests)
        | inr less ↦
            let before : from ≤ t = omega (arith, less) in
            since_then t (own_grows es m from t lm before).mbal (since_at t before) (changes es m t lm)
      ]

  module _ (t : ℕ) (late : from ≤ t) (p : BallotIs) (there : state es m t ≡ p) (a : ℕ) (la : a < length p.parts) (half : ℕ) (is : (part_at p.parts a).asked ≡ Half half) (blocks : List Block)
      (now : (b : ℕ) → slice_get (turns es b) t ≡ Some (turn_on b (anchor_turn_answered m a (Gives blocks)))) (lacks : LacksNow p a blocks) where
    kept : AllKept es m t p
    kept = subst (AllKept es m t) there (all_at es m t lm)

    over : IsOver es p
    over = subst (IsOver es) there (over_at es m t lm)

    grown : k < p.own.mbal
    grown = elim (subst (Since k m lm) there (since_at t late)) [
      | inl at ↦ let claims = lacks.claims in absurd (cc)
      | inr less ↦ less
    ]

    -- what it wrote it asked since
    wrote_since : (b best : ℕ) (d : AllDone (turns es b) m (suc t) p.own best) → from ≤ d.wrote.asked
    wrote_since b best d = elim (cases_lt d.wrote.asked from) [
      | inr not_before ↦ not_before
      | inl before ↦
          let l = lags_at es b m (suc d.wrote.asked) lm in
          let mine = ap (λ (x : Block). x.mbal) (sym (written_block (turns es b) m d.wrote.asked d.wrote.answered p.own d.wrote.wrote) ∙ l.is) in
          let earlier = l.earlier in
          let low = (own_grows es m l.at from lm (omega (arith, earlier, before))).mbal in
          absurd (omega (arith, mine, low, grown))
    ]

    finds_there : (b : ℕ) → (part_at (advanced_at p a blocks).parts b).best.bal ≤ 0 → AllDone (turns es b) m (suc t) p.own (part_at (advanced_at p a blocks).parts b).best.bal → FindsNothing (turns es b) from
    finds_there b low d =
        let since = wrote_since b _ d in
        let answered = d.wrote.wrote.later in
        let low_after = d.low.after in
        let high_after = d.high.after in record {
          low = record { client = m; asked = d.low.asked; answered = d.low.answered; blocks = d.low.blocks; read = d.low.read; after = omega (arith, since, answered, low_after); none = λ i x at. let most = d.low.not_above i x at in omega (arith, most, low) };
          high = record { client = m; asked = d.high.asked; answered = d.high.answered; blocks = d.high.blocks; read = d.high.read; after = omega (arith, since, answered, high_after); none = λ i x at. let most = d.high.not_above i x at in omega (arith, most, low) };
        }

    pub lacking_finds : FindsNothingOver es.anchors es.quorum (past es) from
    lacking_finds =
        let parts = (advanced_at p a blocks).parts in
        let done = over_quorum es.anchors es.quorum parts (length-set p.parts a _ ∙ over.count) (subst (λ n. is_phase_over n parts ≡ true) over.quorum lacks.over) in record {
          used = done.all.used;
          is_quorum = done.all.is;
          each = λ place b at.
              let stage = done.done b (record { place = place; at = at }) in
              let covers = (best_done_is parts p.own).covers b stage in
              let bal = lacks.bal in
              finds_there b (omega (arith, covers, bal)) (part_done es m b (suc t) p.own (part_at parts b) stage (all_advanced es m t lm p kept a la half is blocks lacks.on_time lacks.none now b));
        }
