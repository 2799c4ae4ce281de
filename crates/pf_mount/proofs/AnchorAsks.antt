-- What is asked at an anchor stays so while a ballot begins or ends and while another anchor is asked or answered.
use Rattle.std.proofs.Common.{◌≡◌, ◌≢◌, ℕ, zero, suc, Bool, true, false, nat_lt, ◌==◌, if◌then◌else◌, List, [], ◌∷◌, Option, Some, None, refl, ap, ◌∙◌}
use Rattle.std.proofs.lemmas.List.{get_or-set_other}
use Rattle.pf_paxos.specs.declared.block.Block.{Block}
use Rattle.pf_paxos.specs.Blocks.{greatest_mbal}
use Rattle.pf_paxos.specs.declared.ballot.BallotStep.{BallotStep}
use Rattle.pf_paxos.specs.declared.ballot.BallotStep.TheVariants.{Go, Abort, NoValue, Decided}
use Rattle.pf_paxos.specs.declared.parts.Part.{Part}
use Rattle.pf_paxos.specs.declared.ballot.Phase.{Phase}
use Rattle.pf_paxos.specs.declared.ballot.Phase.TheVariants.{Resting, Claiming, Proposing}
use Rattle.pf_paxos.specs.Parts.{no_part, part_advanced, best_done, part_freed, part_at, renewed, part_takes, with_part, part_written}
use Rattle.pf_paxos.specs.Ballots.{BallotIs, BallotOutcome, asked_next, chosen, ballot_claim, ballot_ended, is_phase_over, next_at_anchor, passed, phase_ended, proposal_of, ballot_proposed, read_at, read_in_time, started, written_at}
use Rattle.pf_mount_errands.specs.Positions.{PositionIs, having_read, having_seen}

pub begun_asked : (own : Block) (parts : List Part) (q : ℕ) → (part_at (renewed parts own) q).asked ≡ (part_at parts q).asked
begun_asked own [] q = refl
begun_asked own (part ∷ parts) zero = refl
begun_asked own (part ∷ parts) (suc q) = begun_asked own parts q

module _ (q : ℕ) where
  -- at this anchor the same is asked
  abbrev pub AskedAs : BallotIs → BallotIs → Type 0
  AskedAs p r = (part_at r.parts q).asked ≡ (part_at p.parts q).asked

  renewed_asked : (parts : List Part) (own : Block) → (part_at (renewed parts own) q).asked ≡ (part_at parts q).asked
  renewed_asked parts own = begun_asked own parts q

  pub started_asked : (p : BallotIs) (above : ℕ) (input : Option (List ℕ)) → AskedAs p (started p above input)
  started_asked p above input = renewed_asked p.parts (ballot_claim p above)

  ended_asked : (p : BallotIs) (step : BallotStep) → AskedAs p (ballot_ended p step).ballot
  ended_asked p step = renewed_asked p.parts p.own

  proposed_asked : (p : BallotIs) (best : Block) → AskedAs p (ballot_proposed p best).ballot
  proposed_asked p best = renewed_asked p.parts (proposal_of p best)

  chosen_asked : (input : Option (List ℕ)) (p : BallotIs) (best : Block) → AskedAs p (chosen input p best).ballot
  chosen_asked (Some input) p best = proposed_asked p best
  chosen_asked None p best = by (best.bal == 0)
    where
      by : (b : Bool) → (let o : BallotOutcome = if b then ballot_ended p NoValue else ballot_proposed p best in AskedAs p o.ballot)
      by true = ended_asked p NoValue
      by false = proposed_asked p best

  phase_asked : (phase : Phase) (p : BallotIs) → AskedAs p (phase_ended phase p).ballot
  phase_asked Claiming p = chosen_asked p.input p (best_done p.parts p.own)
  phase_asked Proposing p = ended_asked p (Decided p.own.value)
  phase_asked Resting p = refl

  passed_asked : (p : BallotIs) → AskedAs p (passed p).ballot
  passed_asked p = by (is_phase_over p.quorum p.parts)
    where
      by : (b : Bool) → (let o : BallotOutcome = if b then phase_ended p.phase p else record { ballot = p; step = Go } in AskedAs p o.ballot)
      by true = phase_asked p.phase p
      by false = refl

  module _ (a : ℕ) (apart : q ≢ a) where
    with_asked : (p : BallotIs) (part : Part) → AskedAs p (record p { parts = with_part p.parts a part })
    with_asked p part = ap (λ (x : Part). x.asked) (get_or-set_other p.parts a q part no_part apart)

    pub next_asked : (p : BallotIs) → AskedAs p (asked_next p a)
    next_asked p = with_asked p (part_takes (part_at p.parts a) (next_at_anchor p a))

    pub written_asked : (p : BallotIs) → AskedAs p (written_at p a)
    written_asked p = with_asked p (part_written (part_at p.parts a))

    in_time_asked : (p : BallotIs) (blocks : List Block) → AskedAs p (read_in_time p a blocks).ballot
    in_time_asked p blocks = by (nat_lt p.own.mbal (greatest_mbal blocks))
      where
        by : (b : Bool) → (let o : BallotOutcome = if b then ballot_ended (record p { parts = with_part p.parts a (part_freed (part_at p.parts a)) }) (Abort (greatest_mbal blocks)) else passed (record p { parts = with_part p.parts a (part_advanced (part_at p.parts a) blocks) }) in AskedAs p o.ballot)
        by true = ended_asked (record p { parts = with_part p.parts a (part_freed (part_at p.parts a)) }) (Abort (greatest_mbal blocks)) ∙ with_asked p (part_freed (part_at p.parts a))
        by false = passed_asked (record p { parts = with_part p.parts a (part_advanced (part_at p.parts a) blocks) }) ∙ with_asked p (part_advanced (part_at p.parts a) blocks)

    read_asked : (p : BallotIs) (blocks : List Block) → AskedAs p (read_at p a blocks).ballot
    read_asked p blocks = by (part_at p.parts a).is_late
      where
        by : (b : Bool) → (let o : BallotOutcome = if b then record { ballot = record p { parts = with_part p.parts a (part_freed (part_at p.parts a)) }; step = Go } else read_in_time p a blocks in AskedAs p o.ballot)
        by true = with_asked p (part_freed (part_at p.parts a))
        by false = in_time_asked p blocks

    pub having_read_asked : (p : PositionIs) (blocks : List Block) → AskedAs p.ballot (having_read p a blocks).ballot
    having_read_asked p blocks = by (part_at p.ballot.parts a).is_late
      where
        by : (b : Bool) → (let after : PositionIs = record p { ballot = (read_at p.ballot a blocks).ballot } in let r : PositionIs = if b then after else having_seen after blocks in AskedAs p.ballot r.ballot)
        by true = read_asked p.ballot blocks
        by false = read_asked p.ballot blocks
