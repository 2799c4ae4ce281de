-- Jobs that are claimed.
use Rattle.std.proofs.Common.{◌≡◌, ℕ, Some, None, Option, Result, Ok, Err, IfOk, OnErr, sym, ap, subst, ◌∙◌}
use Rattle.pf_base.specs.declared.errors.NoMemory.{NoMemory}
use Rattle.pf_entry.specs.Records.{Durable}
use Rattle.pf_entry.specs.declared.ops.Job.{Job}
use Rattle.pf_protocol.specs.Leading.{op_at}
use Rattle.pf_protocol.specs.Saving.{claimable, claimed}
use Rattle.pf_protocol.specs.Servers.{Server}
use Rattle.pf_server_store.specs.Stores.{StoreModel}
use Rattle.pf_server_apply.specs.Claims.{IsClaimAnswer as ClaimsHere}
use Rattle.pf_server_memory.specs.declared.running.Running.{Running}
use Rattle.pf_server_memory.specs.Standing.{server_of, IsCached}
use Rattle.pf_server_memory.specs.Turns.{IsAfter}
use Rattle.pf_server_restart.specs.declared.seat.Seat.{Seat}
use Rattle.pf_server.specs.declared.state.State.TheVariants.{Runs}
use Rattle.pf_server.specs.Conditions.{IsRunning}
use Rattle.pf_server.specs.Ending.{quieted}
use Rattle.pf_server.specs.Turns.{Claims, IsAsBefore}
use Rattle.pf_server.proofs.ServerStands.{quieted_runs, stands_then}

-- the job of a server's slot
abbrev job_of : Server → ℕ → Job
job_of s slot = record { server = s.number; life = s.life; slot = slot; op = op_at s.durable.log slot }

module _ {S : Type 0} (model : StoreModel S) (seat : Seat) (store : S) (me new : Running) (s : Server) (runs : IsRunning model seat store me s) where
  then_runs : (z : Server) → IsAfter s.durable me new z → IsRunning model seat store new z
  then_runs z after = stands_then model seat store s.durable me new z runs.stands runs.setup after

  then_quiet : (z : Server) → IsRunning model seat store new z → IsAsBefore model seat store (Runs (quieted new)) z
  then_quiet z runs = quieted_runs model seat store new z runs

  its_job : (job : Job) → (let its : Job = record { server = me.number; life = me.life; slot = job.slot; op = op_at s.durable.log job.slot } in job ≡ its) → job ≡ job_of s job.slot
  unfolding server_of
  its_job job is = is ∙ ap (λ z. job_of z job.slot) runs.is

  pub claims_by : (r : Result (Option Job) NoMemory) → IfOk r (λ c. (d : Durable) → IsCached d me → ClaimsHere d me new c) → OnErr r ((d : Durable) → IsCached d me → IsAfter d me new (server_of d me))
      → Claims model seat store (Runs (quieted new)) s r
  claims_by (Ok None) ok err =
      let none = ok s.durable runs.stands.cached in
      (ap (claimable 4096) (sym runs.is) ∙ none.0, then_quiet s (subst (λ m. IsRunning model seat store m s) (sym none.1) runs))
  claims_by (Ok (Some job)) ok err =
      let its = ok s.durable runs.stands.cached in
      let z = claimed s job.slot in
      let quiet = then_quiet z (then_runs z (subst (λ x. IsAfter s.durable me new (claimed x job.slot)) runs.is its.after)) in
      record {
        least = ap (claimable 4096) (sym runs.is) ∙ its.least;
        job_is = its_job job its.job_is;
        meets = quiet.meets;
        none = quiet.none;
      }
  claims_by (Err e) ok err = then_quiet s (then_runs s (subst (IsAfter s.durable me new) runs.is (err s.durable runs.stands.cached)))
