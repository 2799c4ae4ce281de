-- How a restart ends in memory.
use Rattle.std.specs.Prelude.{◌≡◌, ℕ, ◌+◌, Bool, false, not, ◌&&◌, ◌==◌, Result, Ok, Err}
use Rattle.pf_base.specs.declared.errors.NoMemory.{NoMemory}
use Rattle.pf_protocol.specs.declared.answers.Answer.{Answer}
use Rattle.pf_protocol.specs.declared.answers.Answer.TheVariants.{Done, Refused}
use Rattle.pf_protocol.specs.declared.answers.Refusal.TheVariants.{Halted, NotOurs as IsNotOurs}
use Rattle.pf_server_memory.specs.declared.running.Running.{Running}
use Rattle.pf_server_restart.specs.declared.faults.RestartFault.{RestartFault}
use Rattle.pf_server_restart.specs.declared.faults.RestartFault.TheVariants.{NoMemory as WantsMemory, ReadHalted, SaveHalted, NotOurs}
use Rattle.pf_server_restart.specs.declared.reading.HalfReading.{HalfReading}
use Rattle.pf_server.specs.declared.state.Doubt.{Doubt}
use Rattle.pf_server.specs.declared.state.Doubt.TheVariants.{Settled, Open, Read}
use Rattle.pf_server.specs.declared.state.State.{State}
use Rattle.pf_server.specs.declared.state.State.TheVariants.{Runs, Stopped, Unformatted}
use Rattle.pf_server.specs.Ending.{quieted}

-- the life that a server was in last, and what is known of its last step
abbrev pub IsLastLife : State → (life : ℕ) → Doubt → Type 0
IsLastLife (Runs me) life doubt = (life ≡ me.life) × (doubt ≡ Settled)
IsLastLife (Stopped its known) life doubt = (life ≡ its) × (doubt ≡ known)
IsLastLife Unformatted life doubt = ⊥

-- whether the record of the last step was read
abbrev pub last_found : Doubt → HalfReading → Bool
last_found Settled r = false
last_found (Open bytes generation) r = not (r.used == bytes && r.generation == generation)
last_found (Read found) r = found

-- what is known of the last step after that
abbrev pub doubt_after : Doubt → HalfReading → Doubt
doubt_after Settled r = Settled
doubt_after (Open bytes generation) r = Read (last_found (Open bytes generation) r)
doubt_after (Read found) r = Read found

-- a running server is stopped where its disks hold no state of it
abbrev pub stopped_by : (life : ℕ) → Doubt → State → State
stopped_by life doubt (Runs me) = Stopped (life + 1) doubt
stopped_by life doubt (Stopped its known) = Stopped its known
stopped_by life doubt Unformatted = Unformatted

-- what a restart makes of the server, and what it answers
abbrev pub Restarts : (life : ℕ) → Doubt → State → State → Result (Running × HalfReading) RestartFault → Result (Answer × Bool) NoMemory → Type 0
Restarts life doubt state state' (Ok (me, r)) result = (result ≡ Ok (Done, last_found doubt r)) × (state' ≡ Runs (quieted me))
Restarts life doubt state state' (Err WantsMemory) result = (result ≡ Err (record {})) × (state' ≡ state)
Restarts life doubt state state' (Err ReadHalted) result = (result ≡ Ok (Refused Halted, false)) × (state' ≡ Stopped (life + 1) doubt)
Restarts life doubt state state' (Err (SaveHalted r)) result = (result ≡ Ok (Refused Halted, last_found doubt r))
    × (state' ≡ Stopped (life + 1) (doubt_after doubt r))
Restarts life doubt state state' (Err NotOurs) result = (result ≡ Ok (Refused IsNotOurs, false)) × (state' ≡ stopped_by life doubt state)
