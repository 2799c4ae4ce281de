-- A ballot over one anchor makes the steps of a proposer.
use Rattle.std.proofs.Common.{◌≡◌, ℕ, ◌<◌, ◌≤◌, ◌⊎◌, inl, inr, Bool, true, false, cond, ◌==◌, nat_lt, List, [], ◌∷◌, Option, Some, None, arith, refl, sym, ap, subst, ◌∙◌, zero, suc, slice_get, slice_index_or}
use Rattle.std.proofs.lemmas.Bool.{cond-true, cond-false, lt-ltb, le-ltb, ltb-true, ltb-false, eq-eqb, eqb-true}
use Rattle.std.proofs.lemmas.Option.{same_Some, none-some, slice_get-get_or}
use Rattle.pf_paxos.specs.declared.block.Block.{Block}
use Rattle.pf_paxos.specs.Blocks.{greatest_mbal, best_of}
use Rattle.pf_paxos.specs.declared.proposer.ProposerPhase.{ProposerPhase as Place}
use Rattle.pf_paxos.specs.declared.proposer.ProposerPhase.TheVariants.{Idle as NoBallot, GatheringLow, GatheringHigh, Proposing as ProposalWrites, ConfirmingLow, ConfirmingHigh}
use Rattle.pf_paxos.specs.declared.proposer.Next.TheVariants.{Write as AsksWrite, Read as AsksRead, Decided as IsDecided}
use Rattle.pf_paxos.specs.Proposers.{ProposerIs, IsWriting, IsReadingHalf, new_proposer, written_in, proposer_read, ProposerOutcome as Made}
use Rattle.pf_paxos.specs.Proposers as proposers
use Rattle.pf_paxos.specs.declared.parts.AnchorAsk.TheVariants.{Nothing, OwnBlock, Half}
use Rattle.pf_paxos.specs.declared.parts.Stage.{Stage}
use Rattle.pf_paxos.specs.declared.parts.Stage.TheVariants.{Writes, ReadsLow, ReadsHigh, Done}
use Rattle.pf_paxos.specs.declared.parts.Part.{Part}
use Rattle.pf_paxos.specs.declared.ballot.BallotStep.TheVariants.{Go, Abort, NoValue}
use Rattle.pf_paxos.specs.declared.ballot.Phase.{Phase}
use Rattle.pf_paxos.specs.declared.ballot.Phase.TheVariants.{Resting, Claiming, Proposing}
use Rattle.pf_paxos.specs.Parts.{part_at, fresh, part_freed, part_advanced}
use Rattle.pf_paxos.specs.Ballots.{BallotIs, new_ballot, started, written_at, read_at, ballot_ended, ballot_proposed, chosen, passed}
use Rattle.pf_paxos.specs.Deciding.{Decides}
use Rattle.pf_paxos.specs.Quorums.{AnchorTurn, DecidesOver, turns_on}
use Rattle.pf_paxos.specs.OneAnchor.{IsBest, PartStands, Rests, Claims, GathersLow, GathersHigh, Proposes, ConfirmsLow, ConfirmsHigh, beside, BallotFollows, Matches, LacksValue, EndsWithNoValue}

pub begins : (mount : ℕ) (own : Block) → BallotFollows (new_ballot 1 1 mount own) (new_proposer mount own)
begins mount own = record { phase = Resting; part = fresh own; is = refl; stands = Rests own own own Writes true }

-- what is true of a ballot beside a proposer is true of each that follows one
by_beside : (P : BallotIs → ProposerIs → Type 0) → ((mount : ℕ) (own best : Block) (input : Option (List ℕ)) (place : Place) (phase : Phase) (part : Part) → PartStands place phase best part own → P (beside (record { mount = mount; own = own; best = best; input = input; phase = place }) phase part) (record { mount = mount; own = own; best = best; input = input; phase = place })) → (b : BallotIs) (p : ProposerIs) → BallotFollows b p → P b p
by_beside P each b p f = subst (λ q. P q p) (sym f.is) (each p.mount p.own p.best p.input p.phase f.phase f.part f.stands)

pub writes : (b : BallotIs) (p : ProposerIs) → BallotFollows b p → IsWriting p.phase → (part_at b.parts 0).asked ≡ OwnBlock
writes = by_beside (λ b p. IsWriting p.phase → (part_at b.parts 0).asked ≡ OwnBlock) (λ mount own best input place phase part stands. at place phase best part own stands)
  where
    at : (place : Place) (phase : Phase) (best : Block) (part : Part) (own : Block) → PartStands place phase best part own → IsWriting place → part.asked ≡ OwnBlock
    at _ _ _ _ _ (Rests best own other stage late) is = absurd is
    at _ _ _ _ _ (Claims best own top) is = refl
    at _ _ _ _ _ (GathersLow best own top) is = absurd is
    at _ _ _ _ _ (GathersHigh best own top) is = absurd is
    at _ _ _ _ _ (Proposes best own other) is = refl
    at _ _ _ _ _ (ConfirmsLow best own other) is = absurd is
    at _ _ _ _ _ (ConfirmsHigh best own other) is = absurd is

pub reads : (b : BallotIs) (p : ProposerIs) (half : ℕ) → BallotFollows b p → IsReadingHalf p.phase half → (part_at b.parts 0).asked ≡ Half half
reads b p half f = by_beside (λ b p. IsReadingHalf p.phase half → (part_at b.parts 0).asked ≡ Half half) (λ mount own best input place phase part stands. at place phase best part own stands) b p f
  where
    at : (place : Place) (phase : Phase) (best : Block) (part : Part) (own : Block) → PartStands place phase best part own → IsReadingHalf place half → part.asked ≡ Half half
    at _ _ _ _ _ (Rests best own other stage late) is = absurd is
    at _ _ _ _ _ (Claims best own top) is = absurd is
    at _ _ _ _ _ (GathersLow best own top) is = ap Half (sym is)
    at _ _ _ _ _ (GathersHigh best own top) is = ap Half (sym is)
    at _ _ _ _ _ (Proposes best own other) is = absurd is
    at _ _ _ _ _ (ConfirmsLow best own other) is = ap Half (sym is)
    at _ _ _ _ _ (ConfirmsHigh best own other) is = ap Half (sym is)

pub start : (b : BallotIs) (p : ProposerIs) (above : ℕ) (input : Option (List ℕ)) → BallotFollows b p → p.phase ≡ NoBallot → Matches (record { ballot = started b above input; step = Go }) (proposers.started p above input)
start b p above wanted f = by_beside (λ b p. p.phase ≡ NoBallot → Matches (record { ballot = started b above wanted; step = Go }) (proposers.started p above wanted)) at b p f
  where
    at : (mount : ℕ) (own best : Block) (input : Option (List ℕ)) (place : Place) (phase : Phase) (part : Part) → PartStands place phase best part own → place ≡ NoBallot → Matches (record { ballot = started (beside (record { mount = mount; own = own; best = best; input = input; phase = place }) phase part) above wanted; step = Go }) (proposers.started (record { mount = mount; own = own; best = best; input = input; phase = place }) above wanted)
    at mount _ _ input _ _ _ (Rests best own other stage late) is = record { follows = record { phase = Claiming; part = _; is = refl; stands = Claims _ _ (inl refl) }; tells = refl }
    at mount _ _ input _ _ _ (Claims best own top) is = absurd (grind (arith, is))
    at mount _ _ input _ _ _ (GathersLow best own top) is = absurd (grind (arith, is))
    at mount _ _ input _ _ _ (GathersHigh best own top) is = absurd (grind (arith, is))
    at mount _ _ input _ _ _ (Proposes best own other) is = absurd (grind (arith, is))
    at mount _ _ input _ _ _ (ConfirmsLow best own other) is = absurd (grind (arith, is))
    at mount _ _ input _ _ _ (ConfirmsHigh best own other) is = absurd (grind (arith, is))

pub written : (b : BallotIs) (p : ProposerIs) → BallotFollows b p → IsWriting p.phase → Matches (record { ballot = written_at b 0; step = Go }) (written_in p.phase p)
written b p f = by_beside (λ b p. IsWriting p.phase → Matches (record { ballot = written_at b 0; step = Go }) (written_in p.phase p)) at b p f
  where
    at : (mount : ℕ) (own best : Block) (input : Option (List ℕ)) (place : Place) (phase : Phase) (part : Part) → PartStands place phase best part own → IsWriting place → Matches (record { ballot = written_at (beside (record { mount = mount; own = own; best = best; input = input; phase = place }) phase part) 0; step = Go }) (written_in place (record { mount = mount; own = own; best = best; input = input; phase = place }))
    at mount _ _ input _ _ _ (Rests best own other stage late) is = absurd is
    at mount _ _ input _ _ _ (Claims best own top) is = record { follows = record { phase = Claiming; part = _; is = refl; stands = GathersLow best own top }; tells = refl }
    at mount _ _ input _ _ _ (GathersLow best own top) is = absurd is
    at mount _ _ input _ _ _ (GathersHigh best own top) is = absurd is
    at mount _ _ input _ _ _ (Proposes best own other) is = record { follows = record { phase = Proposing; part = _; is = refl; stands = ConfirmsLow best own other }; tells = refl }
    at mount _ _ input _ _ _ (ConfirmsLow best own other) is = absurd is
    at mount _ _ input _ _ _ (ConfirmsHigh best own other) is = absurd is

-- the best block is kept, or one with a greater bal comes
best_grows : (best : Block) (blocks : List Block) → (best_of best blocks ≡ best) ⊎ (best.bal < (best_of best blocks).bal)
best_grows best [] = inl refl
best_grows best (b ∷ bs) = by (nat_lt best.bal b.bal) refl (best_grows best bs) (best_grows b bs)
  where
    by : (x : Bool) → nat_lt best.bal b.bal ≡ x → (best_of best bs ≡ best) ⊎ (best.bal < (best_of best bs).bal) → (best_of b bs ≡ b) ⊎ (b.bal < (best_of b bs).bal) → (best_of (cond x b best) bs ≡ best) ⊎ (best.bal < (best_of (cond x b best) bs).bal)
    by true less stays (inl same) = inr (let l = ltb-true best.bal b.bal less in omega (arith, l, ap (λ (c : Block). c.bal) same))
    by true less stays (inr more) = inr (let l = ltb-true best.bal b.bal less in omega (arith, l, more))
    by false less stays taken = stays

best_stays : (own best : Block) (blocks : List Block) → IsBest own best → IsBest own (best_of best blocks)
best_stays own best blocks (inl same) = elim (best_grows best blocks) [
  | inl kept ↦ inl (kept ∙ same)
  | inr more ↦ inr (omega (arith, more, ap (λ (c : Block). c.bal) same))
]
best_stays own best blocks (inr less) = elim (best_grows best blocks) [
  | inl kept ↦ inr (omega (arith, less, ap (λ (c : Block). c.bal) kept))
  | inr more ↦ inr (omega (arith, less, more))
]

-- phase 2 takes it, also where the own block has the greatest bal
best_taken : (own best : Block) → IsBest own best → cond (nat_lt own.bal best.bal) best own ≡ best
best_taken own best (inl same) = cond-false (nat_lt own.bal best.bal) best own (le-ltb own.bal best.bal (omega (arith, ap (λ (c : Block). c.bal) same))) ∙ sym same
best_taken own best (inr less) = cond-true (nat_lt own.bal best.bal) best own (lt-ltb own.bal best.bal less)

module _ (mount : ℕ) (own best : Block) (input : Option (List ℕ)) (blocks : List Block) where
  abbrev at_place : Place → ProposerIs
  at_place place = record { mount = mount; own = own; best = best; input = input; phase = place }

  -- a ballot ends
  aborts : (place : Place) (phase : Phase) (part : Part) → Matches (ballot_ended (record (beside (at_place place) phase part) { parts = part_freed part ∷ [] }) (Abort (greatest_mbal blocks))) (proposers.proposer_aborted (at_place place) blocks)
  aborts place phase part = record { follows = record { phase = Resting; part = _; is = refl; stands = Rests best own own Writes true }; tells = refl }

  -- a part that reads a half
  abbrev reading : Stage → (half : ℕ) → (there : Block) → Part
  reading stage half there = record { stage = stage; asked = Half half; is_late = false; best = there }

  abbrev read_best : Block
  read_best = best_of best blocks

  -- the part, once the high half is read
  abbrev read_part : Part
  read_part = record { stage = Done; asked = Nothing; is_late = false; best = read_best }

  -- what the proposer's reads make of it
  abbrev read_low : Made
  read_low = record { proposer = record (at_place GatheringLow) { best = read_best; phase = GatheringHigh }; next = AsksRead 1 }

  abbrev claimed : Made
  claimed = record { proposer = record (at_place GatheringHigh) { own = proposers.proposal_of (at_place GatheringHigh) read_best; best = read_best; phase = ProposalWrites }; next = AsksWrite (proposers.proposal_of (at_place GatheringHigh) read_best) }

  abbrev read_again : Made
  read_again = record { proposer = record (at_place ConfirmingLow) { phase = ConfirmingHigh }; next = AsksRead 1 }

  abbrev decided : Made
  decided = record { proposer = record (at_place ConfirmingHigh) { phase = NoBallot }; next = IsDecided own.value }

  -- phase 2 begins
  proposes : Matches (ballot_proposed (beside (at_place GatheringHigh) Claiming read_part) read_best) claimed
  proposes = record { follows = record { phase = Proposing; part = _; is = refl; stands = Proposes read_best _ _ }; tells = refl }

  chooses : (chosen_input : Option (List ℕ)) → input ≡ chosen_input → (LacksValue (at_place GatheringHigh) blocks → ⊥) → greatest_mbal blocks ≤ own.mbal → Matches (chosen chosen_input (beside (at_place GatheringHigh) Claiming read_part) read_best) claimed
  chooses (Some v) is finds low = proposes
  chooses None is finds low = by (read_best.bal == 0) refl
    where
      by : (b : Bool) → (read_best.bal == 0) ≡ b → Matches (cond b (ballot_ended (beside (at_place GatheringHigh) Claiming read_part) NoValue) (ballot_proposed (beside (at_place GatheringHigh) Claiming read_part) read_best)) claimed
      by true none = absurd (finds (record { last = refl; input = is; none = eqb-true read_best.bal 0 none; on_time = low }))
      by false some = proposes

  -- an answered read ends the ballot or goes on, as in the proposer
  outrun_or : (place : Place) (phase : Phase) (part : Part) (made : Made) → (greatest_mbal blocks ≤ own.mbal → Matches (passed (record (beside (at_place place) phase part) { parts = part_advanced part blocks ∷ [] })) made) → (b : Bool) → nat_lt own.mbal (greatest_mbal blocks) ≡ b → Matches (cond b (ballot_ended (record (beside (at_place place) phase part) { parts = part_freed part ∷ [] }) (Abort (greatest_mbal blocks))) (passed (record (beside (at_place place) phase part) { parts = part_advanced part blocks ∷ [] }))) (cond b (proposers.proposer_aborted (at_place place) blocks) made)
  outrun_or place phase part made goes true is = aborts place phase part
  outrun_or place phase part made goes false is = goes (ltb-false own.mbal (greatest_mbal blocks) is)

  ends_first : IsBest own best → (LacksValue (at_place GatheringHigh) blocks → ⊥) → greatest_mbal blocks ≤ own.mbal → Matches (chosen input (beside (at_place GatheringHigh) Claiming read_part) (cond (nat_lt own.bal read_best.bal) read_best own)) claimed
  ends_first top finds low = subst (λ b. Matches (chosen input (beside (at_place GatheringHigh) Claiming read_part) b) claimed) (sym (best_taken own read_best (best_stays own best blocks top))) (chooses input refl finds low)

  read_one : (half : ℕ) (place : Place) (phase : Phase) (part : Part) → PartStands place phase best part own → IsReadingHalf place half → (LacksValue (at_place place) blocks → ⊥) → Matches (read_at (beside (at_place place) phase part) 0 blocks) (proposer_read place (at_place place) blocks)
  read_one half _ _ _ (Rests _ _ other stage late) is finds = absurd is
  read_one half _ _ _ (Claims _ _ top) is finds = absurd is
  read_one half _ _ _ (Proposes _ _ other) is finds = absurd is
  read_one half _ _ _ (GathersLow _ _ top) is finds = outrun_or GatheringLow Claiming (reading ReadsLow 0 best) read_low (λ low. record { follows = record { phase = Claiming; part = reading ReadsHigh 1 read_best; is = refl; stands = GathersHigh read_best own (best_stays own best blocks top) }; tells = refl }) (nat_lt own.mbal (greatest_mbal blocks)) refl
  read_one half _ _ _ (GathersHigh _ _ top) is finds = outrun_or GatheringHigh Claiming (reading ReadsHigh 1 best) claimed (λ low. ends_first top finds low) (nat_lt own.mbal (greatest_mbal blocks)) refl
  read_one half _ _ _ (ConfirmsLow _ _ other) is finds = outrun_or ConfirmingLow Proposing (reading ReadsLow 0 other) read_again (λ low. record { follows = record { phase = Proposing; part = reading ReadsHigh 1 (best_of other blocks); is = refl; stands = ConfirmsHigh best own (best_of other blocks) }; tells = refl }) (nat_lt own.mbal (greatest_mbal blocks)) refl
  read_one half _ _ _ (ConfirmsHigh _ _ other) is finds = outrun_or ConfirmingHigh Proposing (reading ReadsHigh 1 other) decided (λ low. record { follows = record { phase = Resting; part = fresh own; is = refl; stands = Rests best own own Writes true }; tells = refl }) (nat_lt own.mbal (greatest_mbal blocks)) refl

  -- phase 1 ends, and there is no value
  no_value : (b : Bool) → b ≡ true → EndsWithNoValue (cond b (ballot_ended (beside (at_place GatheringHigh) Claiming read_part) NoValue) (ballot_proposed (beside (at_place GatheringHigh) Claiming read_part) read_best))
  no_value true is = record { step = refl; rests = refl }
  no_value false is = absurd (grind (arith, is))

  no_choice : (i : Option (List ℕ)) → i ≡ None → (read_best.bal == 0) ≡ true → EndsWithNoValue (chosen i (beside (at_place GatheringHigh) Claiming read_part) read_best)
  no_choice None is none = no_value (read_best.bal == 0) none
  no_choice (Some v) is none = absurd (grind (arith, is))

  lacks_one : (place : Place) (phase : Phase) (part : Part) → PartStands place phase best part own → LacksValue (at_place place) blocks → EndsWithNoValue (read_at (beside (at_place place) phase part) 0 blocks)
  lacks_one _ _ _ (GathersHigh _ _ top) lacks = by (nat_lt own.mbal (greatest_mbal blocks)) (le-ltb own.mbal (greatest_mbal blocks) lacks.on_time)
    where
      none : EndsWithNoValue (chosen input (beside (at_place GatheringHigh) Claiming read_part) read_best)
      none = no_choice input lacks.input (eq-eqb read_best.bal 0 lacks.none)

      ends : EndsWithNoValue (chosen input (beside (at_place GatheringHigh) Claiming read_part) (cond (nat_lt own.bal read_best.bal) read_best own))
      ends = subst (λ b. EndsWithNoValue (chosen input (beside (at_place GatheringHigh) Claiming read_part) b)) (sym (best_taken own read_best (best_stays own best blocks top))) none

      by : (b : Bool) → b ≡ false → EndsWithNoValue (cond b (ballot_ended (record (beside (at_place GatheringHigh) Claiming (reading ReadsHigh 1 best)) { parts = part_freed (reading ReadsHigh 1 best) ∷ [] }) (Abort (greatest_mbal blocks))) (chosen input (beside (at_place GatheringHigh) Claiming read_part) (cond (nat_lt own.bal read_best.bal) read_best own)))
      by true is = absurd (grind (arith, is))
      by false is = ends
  lacks_one _ _ _ (Rests _ _ other stage late) lacks = absurd (grind (arith, lacks.last))
  lacks_one _ _ _ (Claims _ _ top) lacks = absurd (grind (arith, lacks.last))
  lacks_one _ _ _ (GathersLow _ _ top) lacks = absurd (grind (arith, lacks.last))
  lacks_one _ _ _ (Proposes _ _ other) lacks = absurd (grind (arith, lacks.last))
  lacks_one _ _ _ (ConfirmsLow _ _ other) lacks = absurd (grind (arith, lacks.last))
  lacks_one _ _ _ (ConfirmsHigh _ _ other) lacks = absurd (grind (arith, lacks.last))

pub read : (b : BallotIs) (p : ProposerIs) (half : ℕ) (blocks : List Block) → BallotFollows b p → IsReadingHalf p.phase half → (LacksValue p blocks → ⊥) → Matches (read_at b 0 blocks) (proposer_read p.phase p blocks)
read b p half blocks f = by_beside (λ b p. IsReadingHalf p.phase half → (LacksValue p blocks → ⊥) → Matches (read_at b 0 blocks) (proposer_read p.phase p blocks)) (λ mount own best input place phase part stands. read_one mount own best input blocks half place phase part stands) b p f

pub lacks : (b : BallotIs) (p : ProposerIs) (blocks : List Block) → BallotFollows b p → LacksValue p blocks → EndsWithNoValue (read_at b 0 blocks)
lacks b p blocks f = by_beside (λ b p. LacksValue p blocks → EndsWithNoValue (read_at b 0 blocks)) (λ mount own best input place phase part stands. lacks_one mount own best input blocks place phase part stands) b p f

-- one anchor is the one quorum
pub over_one : (history : List AnchorTurn) (ballot : ℕ) (value : List ℕ) → DecidesOver 1 1 history ballot value → Decides (turns_on 0 history) ballot value
over_one history ballot value d =
    let a : ℕ = slice_index_or d.used 0 0 in
    let at : slice_get d.used 0 ≡ Some a = slice_get-get_or d.used 0 0 (omega (arith, d.is_quorum.many)) in
    let first : a ≡ 0 = let low = d.is_quorum.low 0 a at in omega (arith, low) in
    subst (λ k. Decides (turns_on k history) ballot value) first (d.each 0 a at)

only_zero : (place a : ℕ) → slice_get (0 ∷ []) place ≡ Some a → (place ≡ 0) × (a ≡ 0)
only_zero zero a at = (refl, sym (same_Some 0 a at))
only_zero (suc n) a at = absurd (none-some a at)

pub its_one : (history : List AnchorTurn) (ballot : ℕ) (value : List ℕ) → Decides (turns_on 0 history) ballot value → DecidesOver 1 1 history ballot value
its_one history ballot value d = record {
  used = 0 ∷ [];
  is_quorum = record {
    apart = λ place other a at there. let x = only_zero place a at in let y = only_zero other a there in omega (arith, x.0, y.0);
    many = omega arith;
    low = λ place a at. let x = only_zero place a at in omega (arith, x.1);
  };
  each = λ place a at. subst (λ k. Decides (turns_on k history) ballot value) (sym (only_zero place a at).1) d;
}
