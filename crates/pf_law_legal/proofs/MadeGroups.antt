-- A group that is made for a new volume, or for a chunk that moves, is legal, and no claim is open; and a group that is so is lawful.
use Rattle.std.proofs.Common.{◌≡◌, ℕ, true, List, refl}
use Rattle.pf_script.specs.Lines.{is_volume}
use Rattle.pf_protocol.specs.Answers.{IsSetup}
use Rattle.pf_world.specs.pf_group.specs.Making.{setup_with}
use Rattle.pf_world.specs.pf_group.proofs.Sound.{sound}
use Rattle.pf_world.specs.pf_group_rounds.specs.Halts.{Halt}
use Rattle.pf_world.specs.pf_group_rounds.specs.Chunks.{Chunk, made_chunk}
use Rattle.pf_world.specs.Headline.{IsLawful}
use Rattle.pf_world.proofs.Begun.{volume_setup}
use Rattle.pf_law_legal.proofs.Rounds.{IsIdle}

-- the numbers of a volume are those of its groups, whatever servers could not be formatted
pub setup_is : (chunks sectors names format : ℕ) (failed : List ℕ) → is_volume chunks sectors names format ≡ true → IsSetup (setup_with sectors names format failed)
setup_is chunks sectors names format failed is =
    let good = volume_setup chunks sectors names format is in
    record { few_names = good.few_names; some_sectors = good.some_sectors; few_sectors = good.few_sectors; blocks = good.blocks; format = good.format; window = good.window }

pub made_idle : (halts : List Halt) (sectors names format number : ℕ) → ((failed : List ℕ) → IsSetup (setup_with sectors names format failed)) → IsIdle (made_chunk halts sectors names format number)
made_idle halts sectors names format number setup = record {
  standing = record { stands = refl; legal = record { is_setup = setup _; legal = tt } };
  claims = record { claims = refl; apart = tt };
}

pub idle_lawful : (c : Chunk) → IsIdle c → IsLawful c
idle_lawful c is = record { stands = is.standing.stands; legal = is.standing.legal; sound = sound c.setup c.history }
