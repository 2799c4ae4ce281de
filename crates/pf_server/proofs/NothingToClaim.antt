-- A server that has nothing to claim.
use Rattle.std.proofs.Common.{◌≡◌, true, Option, Some, None, Result, Ok, Err, IfOk, refl, sym, ap, subst, ◌∙◌}
use Rattle.std.proofs.lemmas.Bool.{false≢true}
use Rattle.pf_base.specs.declared.errors.NoMemory.{NoMemory}
use Rattle.pf_entry.specs.Records.{Durable}
use Rattle.pf_entry.specs.declared.ops.Job.{Job}
use Rattle.pf_server_apply.specs.Claims.{IsClaimAnswer as ClaimsHere}
use Rattle.pf_protocol.specs.Saving.{claimable}
use Rattle.pf_protocol.specs.Servers.{Server}
use Rattle.pf_server_store.specs.Stores.{StoreModel}
use Rattle.pf_server_memory.specs.declared.running.Running.{Running}
use Rattle.pf_server_memory.specs.Standing.{server_of, IsCached}
use Rattle.pf_server_restart.specs.declared.seat.Seat.{Seat}
use Rattle.pf_server.specs.declared.state.State.TheVariants.{Runs}
use Rattle.pf_server.specs.Conditions.{IsRunning}
use Rattle.pf_server.specs.Ending.{quieted}
use Rattle.pf_server.specs.Idle.{HasNoJob, found_none}
use Rattle.pf_server.specs.Turns.{Claims}
use Rattle.pf_server.proofs.ServerStands.{quieted_runs, same_rooms}

-- nothing can be claimed in this memory
abbrev NoneIn : Running → Type 0
NoneIn me = (d : Durable) → IsCached d me → claimable 4096 (server_of d me) ≡ None

-- answers that nobody took do not matter for it
none_quieted : (me : Running) → NoneIn me → NoneIn (quieted me)
unfolding server_of
none_quieted me none d cached = none d (same_rooms d (quieted me) me.replies refl cached)

none_runs : (me : Running) → NoneIn me → HasNoJob (Runs me)
none_runs me none next is d cached = let same : me ≡ next = cc in subst NoneIn same none d cached

pub still_none : (me : Running) → HasNoJob (Runs me) → HasNoJob (Runs (quieted me))
still_none me none = none_runs (quieted me) (none_quieted me (none me refl))

-- a claim that found nothing leaves nothing
pub none_left : (me new : Running) (r : Result (Option Job) NoMemory) → (d : Durable) → IsCached d me → IfOk r (λ c. (e : Durable) → IsCached e me → ClaimsHere e me new c) → found_none r ≡ true → HasNoJob (Runs (quieted new))
none_left me new (Ok None) d cached ok is =
    let same : new ≡ me = (ok d cached).1 in
    none_runs (quieted new) (none_quieted new (subst NoneIn (sym same) (λ e here. (ok e here).0)))
none_left me new (Ok (Some job)) d cached ok is = absurd (false≢true is)
none_left me new (Err e) d cached ok is = absurd (false≢true is)

module _ {S : Type 0} (model : StoreModel S) (seat : Seat) (store : S) (me : Running) (s : Server) (runs : IsRunning model seat store me s) where
  -- so does a claim that does not look
  pub claims_none : HasNoJob (Runs me) → Claims model seat store (Runs (quieted me)) s (Ok None)
  claims_none none = (ap (claimable 4096) (sym runs.is) ∙ none me refl s.durable runs.stands.cached, quieted_runs model seat store me s runs)
