use Rattle.std.proofs.Common.{◌≡◌, ℕ, ◌<◌, ◌≤◌, false}
use Rattle.pf_entry.specs.Records.{Durable}
use Rattle.pf_entry.specs.Sets as set
use Rattle.pf_server_memory.specs.Standing.{IsCached}
use Rattle.pf_server_apply.specs.Claims.{can_claim}
use Rattle.pf_server_apply.proofs.NameBounds.{left_upto}
use Rattle.pf_server_apply.proofs.claims.least_claimable.Given as goal

pub record NoneUpto (base names below passed : ℕ) (can : ℕ → Type 0) (left : ℕ) : Type 0 where
  pub above : base ≤ below
  pub none : (q : ℕ) → base < q → q ≤ below → can q
  pub few : passed ≤ names
  pub count : passed ≤ left

abbrev pub invariant-loop-below : goal.invariant-loop-below
invariant-loop-below l = NoneUpto l.me.log.base l.me.names l.below l.passed (λ q. (d : Durable) → IsCached d l.me → can_claim d l.me q ≡ false) (left_upto (set.contains l.me.applied.slots) l.below)
