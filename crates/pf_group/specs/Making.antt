-- How a group is made.
use Rattle.std.specs.Prelude.{◌≡◌, ℕ, Bool, true, List, [], ◌∷◌}
use Rattle.pf_entry.specs.Lists.{Every}
use Rattle.pf_entry.specs.Tables.{ascends}
use Rattle.pf_protocol.specs.declared.answers.Answer.{Answer}
use Rattle.pf_protocol.specs.declared.answers.Answer.TheVariants.{Done, Refused}
use Rattle.pf_protocol.specs.declared.answers.Refusal.TheVariants.{Halted}
use Rattle.pf_protocol.specs.Servers.{Setup}
use Rattle.pf_group.specs.declared.six.Six.{Six}
use Rattle.pf_group.specs.GroupIs.{GroupIs}
use Rattle.pf_group.specs.Halves.{AreLater, HasRisen}

-- what a group is made with, and the servers whose disks could not be formatted
abbrev pub setup_with : (sectors names format : ℕ) → (failed : List ℕ) → Setup
setup_with sectors names format failed = record { names = names; window = 4096; chunk = sectors; format = format; failed = failed }

-- how often each disk has failed, server by server
abbrev pub six_faults : {D : Type 0} → (D → ℕ) → Six D → List (ℕ × ℕ)
six_faults faults disks = (faults disks.s0h0, faults disks.s0h1) ∷ (faults disks.s1h0, faults disks.s1h1) ∷ (faults disks.s2h0, faults disks.s2h1) ∷ []

-- the making is halted where some server could not be formatted
abbrev pub making_answer : List ℕ → Answer
making_answer [] = Done
making_answer (i ∷ is) = Refused Halted

-- a new group, whose servers could be formatted but for those of which a disk failed
pub record GroupIsMade (number sectors names format : ℕ) (told : Bool) (before : List (ℕ × ℕ)) (g : GroupIs) (answer : Answer) : Type 0 where
  pub failed : List ℕ
  pub is : g ≡ record {
    number = number;
    told = told;
    setup = setup_with sectors names format failed;
    history = [];
    taken = [];
    faults = g.faults;
    time = g.time;
  }
  pub once : ascends failed ≡ true
  pub cause : Every (λ i. HasRisen i before g.faults) failed
  pub later : AreLater before g.faults
  pub answered : answer ≡ making_answer failed
