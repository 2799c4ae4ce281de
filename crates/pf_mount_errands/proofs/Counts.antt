-- A ballot stays over as many anchors.
use Rattle.std.proofs.Common.{◌≡◌, ℕ, List, length, Option, refl, ◌∙◌}
use Rattle.std.proofs.lemmas.List.{length-map, length-set}
use Rattle.pf_paxos.specs.declared.block.Block.{Block}
use Rattle.pf_paxos.specs.declared.parts.Part.{Part}
use Rattle.pf_paxos.specs.Parts.{phase_begun, renewed}
use Rattle.pf_paxos.specs.Ballots.{BallotIs, BallotOutcome, read_at, started}
use Rattle.pf_paxos.specs.BallotRuns.{Move}
use Rattle.pf_paxos.proofs.BallotSteps.{Aborts, ByAsk, ByRead, ByStart, ByWritten, Decides, Goes, IsReading, IsStep, Lacks, Late, Proposes, is_reading}

renewed_count : (p : BallotIs) (parts : List Part) (own : Block) → length parts ≡ length p.parts → length (renewed parts own) ≡ length p.parts
renewed_count p parts own is = length-map parts (phase_begun own) ∙ is

pub started_count : (p : BallotIs) (above : ℕ) (input : Option (List ℕ)) → length (started p above input).parts ≡ length p.parts
started_count p above input = renewed_count p p.parts _ refl

reading_count : (p : BallotIs) (a : ℕ) (blocks : List Block) (o : BallotOutcome) → IsReading p a blocks o → length o.ballot.parts ≡ length p.parts
reading_count p a blocks o (Late _) = length-set p.parts a _
reading_count p a blocks o (Aborts _) = renewed_count p _ _ (length-set p.parts a _)
reading_count p a blocks o (Goes _ _) = length-set p.parts a _
reading_count p a blocks o (Proposes _ _ _ _) = renewed_count p _ _ (length-set p.parts a _)
reading_count p a blocks o (Lacks _) = renewed_count p _ _ (length-set p.parts a _)
reading_count p a blocks o (Decides _ _ _ _) = renewed_count p _ _ (length-set p.parts a _)

pub read_count : (p : BallotIs) (a : ℕ) (blocks : List Block) → length (read_at p a blocks).ballot.parts ≡ length p.parts
read_count p a blocks = reading_count p a blocks (read_at p a blocks) (is_reading p a blocks)

-- by each step of its mount
pub step_count : (m : ℕ) (p : BallotIs) (move : Move) → IsStep m p move → length move.ballot.parts ≡ length p.parts
step_count m p move (ByStart above input) = started_count p above input
step_count m p move (ByAsk a low) = length-set p.parts a _
step_count m p move (ByWritten a low is) = length-set p.parts a _
step_count m p move (ByRead a low half is blocks o reading) = reading_count p a blocks o reading
