-- What the hosts of a live line write.
use Rattle.std.specs.Prelude.{◌≡◌, ℕ, zero, suc, ◌+◌, ◌%◌, ◌<◌, ◌≤◌, List, [], ◌∷◌, ◌++◌, Some, length, replicate, slice_get}
use Rattle.pf_entry.specs.declared.ops.Op.{Op}
use Rattle.pf_entry.specs.declared.ops.Op.TheVariants.{Write}
use Rattle.pf_rings.specs.Passes.{IsHostOf, IsServerOf, put_by, taken_by}
use Rattle.pf_rings.specs.declared.view.Request.{Request}
use Rattle.pf_live_seats.specs.declared.plan.LinePlan.{LinePlan}
use Rattle.pf_live_seats.specs.declared.hosting.HostSeat.{HostSeat}
use Rattle.pf_live_seats.specs.declared.line.HostRings.{HostRings}

abbrev pub byte_of : (h : ℕ) → ℕ
byte_of h = 65 + h

-- write j of host h: one sector, filled with the host's byte
abbrev pub request_of : (sectors h j : ℕ) → Request
request_of sectors h j = record { host = h; number = j; range = record { first = (h + j) % sectors; count = 1 }; byte = byte_of h }

abbrev pub op_of_request : Request → Op
op_of_request request = Write request.range (replicate 512 request.byte ∷ [])

-- what is written for any request: its sectors, each filled with its byte
abbrev pub write_for : Request → Op
write_for request = Write request.range (replicate request.range.count (replicate 512 request.byte))

-- the first n of them, in order
abbrev pub first_requests : (sectors h n : ℕ) → List Request
first_requests sectors h zero = []
first_requests sectors h (suc n) = first_requests sectors h n ++ request_of sectors h n ∷ []

-- A host put its first `next` requests into its ring, and no others. Of all, or all but the last, it was told that they are acknowledged
pub record IsHost (plan : LinePlan) (rings : HostRings) (a : HostSeat) : Type 0 where
  pub pass : IsHostOf rings.requests a.pass
  pub answers : IsServerOf rings.answers a.answers
  pub host : a.host < plan.hosts
  pub put : put_by a.pass ≡ first_requests plan.sectors a.host a.next
  pub within : a.next ≤ plan.writes
  pub told : length (taken_by a.answers) ≡ a.acked
  pub before : a.acked ≤ a.next
  pub once : a.next ≤ a.acked + 1

-- its rings are those of its number
pub record IsHostIn (plan : LinePlan) (rings : List HostRings) (a : HostSeat) : Type 0 where
  pub pair : HostRings
  pub there : slice_get rings a.host ≡ Some pair
  pub is : IsHost plan pair a

-- it put one request more, once it had taken as many answers as it had put requests
abbrev pub PutsOnce : HostSeat → HostSeat → Type 0
PutsOnce old new = (new.next ≡ old.next + 1) × (length (taken_by new.answers) ≡ old.next)
