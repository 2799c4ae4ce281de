-- The claim of a job at one server.
use Rattle.std.specs.Prelude.{◌≡◌, ℕ, Option, Some, None, Result, Ok, Err, slice_get, slice_set}
use Rattle.pf_base.specs.declared.errors.NoMemory.{NoMemory}
use Rattle.pf_entry.specs.declared.ops.Job.{Job}
use Rattle.pf_server_store.specs.Stores.{StoreModel}
use Rattle.pf_protocol.specs.Servers.{Setup, Server as ServerIs, Running as RunningIs}
use Rattle.pf_protocol.specs.Leading.{op_at}
use Rattle.pf_protocol.specs.Saving.{claimable, claimed}
use Rattle.pf_protocol.specs.Groups.{Group, least_claim}
use Rattle.pf_group_network.specs.declared.network.Network.{Network}
use Rattle.pf_group_network.specs.Showing.{Shows}

module _ {S : Type 0} (model : StoreModel S) where
  -- the job of the least slot that server i can claim, which is in hand then
  pub record IsClaimedAt (setup : Setup) (g : Group) (i : ℕ) (new : Network S) (job : Job) : Type 0 where
    pub s : ServerIs
    pub runs : slice_get g.servers i ≡ Some (RunningIs s)
    pub least : claimable setup.window s ≡ Some job.slot
    pub job_is : job ≡ record { server = i; life = s.life; slot = job.slot; op = op_at s.durable.log job.slot }
    pub shows : Shows model setup new (record g { servers = slice_set g.servers i (RunningIs (claimed s job.slot)) })

  abbrev pub ClaimsAt : Setup → Group → (i : ℕ) → Network S → Result (Option Job) NoMemory → Type 0
  ClaimsAt setup g i new (Ok (Some job)) = IsClaimedAt setup g i new job
  ClaimsAt setup g i new (Ok None) = (least_claim setup.window (slice_get g.servers i) ≡ None) × Shows model setup new g
  ClaimsAt setup g i new (Err e) = Shows model setup new g
