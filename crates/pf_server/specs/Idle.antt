-- A server that has nothing to claim.
use Rattle.std.specs.Prelude.{◌≡◌, ℕ, Bool, true, false, Option, Some, None, Result, Ok, Err}
use Rattle.pf_base.specs.declared.errors.NoMemory.{NoMemory}
use Rattle.pf_entry.specs.Records.{Durable}
use Rattle.pf_entry.specs.declared.ops.Job.{Job}
use Rattle.pf_protocol.specs.Saving.{claimable}
use Rattle.pf_server_memory.specs.declared.running.Running.{Running}
use Rattle.pf_server_memory.specs.Standing.{server_of, IsCached}
use Rattle.pf_server.specs.declared.state.State.{State}
use Rattle.pf_server.specs.declared.state.State.TheVariants.{Runs}

-- where the server runs, no slot can be claimed
abbrev pub HasNoJob : State → Type 0
HasNoJob state = (me : Running) → state ≡ Runs me → (d : Durable) → IsCached d me → claimable 4096 (server_of d me) ≡ None

-- whether a claim found no slot
abbrev pub found_none : Result (Option Job) NoMemory → Bool
found_none (Ok None) = true
found_none (Ok (Some job)) = false
found_none (Err e) = false
