-- Jobs that are claimed.
use Rattle.std.specs.Prelude.{◌≡◌, ℕ, Bool, true, not, ◌&&◌, length, Option, Some, None}
use Rattle.std.specs.FinMap
use Rattle.pf_entry.specs.Maps.{Map}
use Rattle.pf_entry.specs.Sets
use Rattle.pf_entry.specs.Applying.{is_free}
use Rattle.pf_entry.specs.Records.{Durable}
use Rattle.pf_entry.specs.declared.entries.Entry.{Entry}
use Rattle.pf_entry.specs.declared.ops.Job.{Job}
use Rattle.pf_protocol.specs.Leading.{op_at}
use Rattle.pf_protocol.specs.Saving.{claimable, claimed, is_claimable}
use Rattle.pf_server_memory.specs.declared.running.Running.{Running}
use Rattle.pf_server_memory.specs.Standing.{server_of, IsCached}
use Rattle.pf_server_apply.specs.declared.claims.ClaimPlan.{ClaimPlan}
use Rattle.pf_server_apply.specs.Jobs.{HasRoomForMark}
use Rattle.pf_server_memory.specs.Turns.{IsAfter}

-- whether the slot can be claimed
unfoldable pub can_claim : Durable → Running → ℕ → Bool
can_claim d me slot = is_claimable (server_of d me) (FinMap.get d.log slot) slot

-- whether the slot can be claimed, from what is in memory
abbrev pub can_claim_here : Running → Entry → Bool
can_claim_here me e =
    Sets.contains me.log.committed e.slot && not (Sets.contains me.applied.slots e.slot) && not (FinMap.contains_key me.in_hand e.slot)
    && is_free (Sets.contains me.applied.slots) e

-- the entry of a slot that can be claimed
pub record EntryIsReady (me : Running) (slot : ℕ) (e : Entry) : Type 0 where
  pub in_slot : e.slot ≡ slot
  pub held : FinMap.get me.log.entries slot ≡ Some e
  pub can : (d : Durable) → IsCached d me → can_claim d me slot ≡ true

-- the entry of the least slot that can be claimed
pub record IsLeastClaim (me : Running) (e : Entry) : Type 0 where
  pub held : FinMap.get me.log.entries e.slot ≡ Some e
  pub least : (d : Durable) → IsCached d me → claimable 4096 (server_of d me) ≡ Some e.slot

-- the job of a slot
abbrev pub job_at : Durable → Running → ℕ → Job
job_at d me slot = record { server = me.number; life = me.life; slot = slot; op = op_at d.log slot }

-- the job of the least slot that can be claimed, and what stays with the server
pub record IsClaimPlan (d : Durable) (me : Running) (plan : ClaimPlan) : Type 0 where
  pub least : claimable 4096 (server_of d me) ≡ Some plan.job.slot
  pub job_is : plan.job ≡ job_at d me plan.job.slot
  pub kept : plan.kept ≡ op_at d.log plan.job.slot
  pub room : HasRoomForMark plan.kept plan.room (length me.sectors)

abbrev pub PlansClaim : Durable → Running → Option ClaimPlan → Type 0
PlansClaim d me None = claimable 4096 (server_of d me) ≡ None
PlansClaim d me (Some plan) = IsClaimPlan d me plan

abbrev pub with_room : Map ℕ → ℕ → Option ℕ → Map ℕ
with_room rooms slot None = rooms
with_room rooms slot (Some room) = FinMap.insert rooms slot room

-- the job of the least slot that can be claimed, which is in hand then
pub record IsClaim (d : Durable) (me new : Running) (job : Job) : Type 0 where
  pub least : claimable 4096 (server_of d me) ≡ Some job.slot
  pub job_is : job ≡ job_at d me job.slot
  pub after : IsAfter d me new (claimed (server_of d me) job.slot)

abbrev pub IsClaimAnswer : Durable → Running → Running → Option Job → Type 0
IsClaimAnswer d me new None = (claimable 4096 (server_of d me) ≡ None) × (new ≡ me)
IsClaimAnswer d me new (Some job) = IsClaim d me new job
