-- What an answer leaves of a ballot.
use Rattle.std.proofs.Common.{◌≡◌, ℕ, zero, suc, Bool, true, false, if◌then◌else◌, List, [], ◌∷◌, None, refl, ◌∙◌}
use Rattle.pf_paxos.specs.declared.block.Block.{Block}
use Rattle.pf_paxos.specs.declared.parts.AnchorAsk.TheVariants.{Nothing}
use Rattle.pf_paxos.specs.declared.ballot.BallotStep.{BallotStep}
use Rattle.pf_paxos.specs.declared.ballot.BallotStep.TheVariants.{Go}
use Rattle.pf_paxos.specs.declared.parts.Part.{Part}
use Rattle.pf_paxos.specs.declared.ballot.Phase.{Phase}
use Rattle.pf_paxos.specs.declared.ballot.Phase.TheVariants.{Resting}
use Rattle.pf_paxos.specs.declared.parts.Stage.TheVariants.{ReadsLow}
use Rattle.pf_paxos.specs.Parts.{part_advanced, part_freed, part_at, best_done, renewed, with_part, part_written}
use Rattle.pf_paxos.specs.Ballots.{BallotIs, BallotOutcome, proposal_of, read_at, written_at}
use Rattle.pf_paxos.proofs.BallotSteps.{Aborts, Decides, Goes, IsReading, Lacks, Late, Proposes, advanced_at, freed_at, is_reading}
use Rattle.pf_mount_errands.specs.Positions.{PositionIs, having_read, having_seen}
use Rattle.pf_mount.proofs.AnchorAsks.{begun_asked}
use Rattle.pf_law_calls.specs.Lives.{value_in}

-- a ballot that does not go on is over
abbrev pub EndsAs : BallotStep → Phase → Type 0
EndsAs Go phase = Unit {0}
EndsAs step phase = phase ≡ Resting

-- the own mbal stays and the anchor has no pending ask; and where no ballot ran, none runs and nothing is decided
pub record AfterReading (p : BallotIs) (a : ℕ) (o : BallotOutcome) : Type 0 where
  pub ends : EndsAs o.step o.ballot.phase
  pub rests : p.phase ≡ Resting → o.ballot.phase ≡ Resting
  pub nothing : p.phase ≡ Resting → value_in o.step ≡ None
  pub mbal : o.ballot.own.mbal ≡ p.own.mbal
  pub idle : (part_at o.ballot.parts a).asked ≡ Nothing

-- a part is put at an anchor, or where there is none
put_idle : (parts : List Part) (a : ℕ) (part : Part) → part.asked ≡ Nothing → (part_at (with_part parts a part) a).asked ≡ Nothing
put_idle [] a part idle = refl
put_idle (x ∷ parts) zero part idle = idle
put_idle (x ∷ parts) (suc a) part idle = put_idle parts a part idle

module _ (p : BallotIs) (a : ℕ) where
  renewed_idle : (parts : List Part) (own : Block) → (part_at parts a).asked ≡ Nothing → (part_at (renewed parts own) a).asked ≡ Nothing
  renewed_idle parts own is = begun_asked own parts a ∙ is

  freed_idle : (part_at (freed_at p a).parts a).asked ≡ Nothing
  freed_idle = put_idle p.parts a (part_freed (part_at p.parts a)) refl

  module _ (blocks : List Block) where
    advanced_idle : (part_at (advanced_at p a blocks).parts a).asked ≡ Nothing
    advanced_idle = put_idle p.parts a (part_advanced (part_at p.parts a) blocks) refl

    after_reading : (o : BallotOutcome) → IsReading p a blocks o → AfterReading p a o
    after_reading o (Late _) = record { ends = tt; rests = λ r. r; nothing = λ r. refl; mbal = refl; idle = freed_idle }
    after_reading o (Aborts _) = record { ends = refl; rests = λ r. refl; nothing = λ r. refl; mbal = refl; idle = renewed_idle (freed_at p a).parts p.own freed_idle }
    after_reading o (Goes _ _) = record { ends = tt; rests = λ r. r; nothing = λ r. refl; mbal = refl; idle = advanced_idle }
    after_reading o (Proposes _ _ _ claims) = record {
      ends = tt;
      rests = λ r. absurd (cc);
      nothing = λ r. refl;
      mbal = refl;
      idle = renewed_idle (advanced_at p a blocks).parts (proposal_of p (best_done (advanced_at p a blocks).parts p.own)) advanced_idle;
    }
    after_reading o (Lacks _) = record { ends = refl; rests = λ r. refl; nothing = λ r. refl; mbal = refl; idle = renewed_idle (advanced_at p a blocks).parts p.own advanced_idle }
    after_reading o (Decides _ _ _ proposes) = record {
      ends = refl;
      rests = λ r. refl;
      nothing = λ r. absurd (cc);
      mbal = refl;
      idle = renewed_idle (advanced_at p a blocks).parts p.own advanced_idle;
    }

    pub read_leaves : AfterReading p a (read_at p a blocks)
    read_leaves = after_reading (read_at p a blocks) (is_reading p a blocks)

  pub written_idle : (part_at (written_at p a).parts a).asked ≡ Nothing
  written_idle = put_idle p.parts a (part_written (part_at p.parts a)) (by (part_at p.parts a).is_late)
    where
      by : (b : Bool) → (let x : Part = if b then part_freed (part_at p.parts a) else record (part_freed (part_at p.parts a)) { stage = ReadsLow } in x.asked) ≡ Nothing
      by true = refl
      by false = refl

-- what was seen does not matter to the ballots
pub read_anchors : (p : PositionIs) (a : ℕ) (blocks : List Block) → (having_read p a blocks).ballot ≡ (read_at p.ballot a blocks).ballot
read_anchors p a blocks = by (part_at p.ballot.parts a).is_late
  where
    by : (b : Bool) → (let after : PositionIs = record p { ballot = (read_at p.ballot a blocks).ballot } in let r : PositionIs = if b then after else having_seen after blocks in r.ballot) ≡ (read_at p.ballot a blocks).ballot
    by true = refl
    by false = refl
