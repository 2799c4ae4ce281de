-- What one look of a seat tells of a server, and which answer it takes.
use Rattle.std.specs.Prelude.{◌≡◌, ℕ, IsTrue, List, length, Option, Result, Ok, Err}
use Rattle.pf_turn.specs.declared.log.Stamped.{Stamped}
use Rattle.pf_base.specs.declared.errors.NoMemory.{NoMemory}
use Rattle.pf_entry.specs.Ops.{Sector}
use Rattle.pf_protocol.specs.Servers.{Server}
use Rattle.pf_shared.specs.pf_group.specs.declared.errors.Down.{Down}
use Rattle.pf_shared.specs.pf_group.specs.Readers.{IsDown, OfRunning}
use Rattle.pf_shared.specs.pf_group.specs.GroupIs.{GroupIs}
use Rattle.pf_shared.specs.declared.moment.SeatMoment.{SeatMoment}
use Rattle.pf_shared.specs.declared.moment.SeatMoment.TheVariants.{Look}
use Rattle.pf_shared.specs.Calls.{Adds, Finds}
use Rattle.pf_shared.specs.Looks.{HandsOut, Looks, read_handed_out}
use Rattle.pf_shared.specs.Moments.{handed_out}
use Rattle.pf_shared.specs.Since.{state_by_now}
use Rattle.pf_live_looks.specs.declared.errors.LookFault.{LookFault}
use Rattle.pf_live_looks.specs.declared.errors.LookFault.TheVariants as faults

-- what is told of server i is so of its state where the look stands, or it does not run there; where memory ran out there is no look
abbrev pub LooksAt : {A : Type 0} → (root : GroupIs) (n : ℕ) (alone : Type 0) (seen : List (Stamped SeatMoment)) (i : ℕ)
    → Result A LookFault → (A → Server → Type 0) → (new : List (Stamped SeatMoment)) → Type 0
LooksAt root n alone seen i (Ok told) P new = Looks root n alone seen (λ g. OfRunning g i (P told)) new
LooksAt root n alone seen i (Err faults.Down) P new = Looks root n alone seen (λ g. IsDown g i) new
LooksAt root n alone seen i (Err faults.NoMemory) P new = Finds n alone seen new

-- what a look tells where a server may not run, and memory may run out
abbrev pub look_told : {A : Type 0} → Result (Result A Down) NoMemory → Result A LookFault
look_told (Ok (Ok told)) = Ok told
look_told (Ok (Err down)) = Err faults.Down
look_told (Err e) = Err faults.NoMemory

-- the seat added one look, with the number of the read whose answer it took
pub record SeatTakesRead (root : GroupIs) (n : ℕ) (alone : Type 0) (seen : List (Stamped SeatMoment)) (number : ℕ) (answer : Option (List Sector))
    (new : List (Stamped SeatMoment)) : Type 0 where
  pub adds : Adds n alone seen (Look (read_handed_out number answer)) new
  pub numbered : IsTrue root.told → length (handed_out root.taken adds.found) ≡ (state_by_now root adds.found).reads
  pub handed : HandsOut root.told (state_by_now root adds.found) (handed_out root.taken adds.found) number answer
