-- The list of a live line: what each of its seats does.
use Rattle.std.specs.Prelude.{◌≡◌, ℕ, ◌+◌, ◌-◌, ◌%◌, zero, suc, Bool, true, false, if◌then◌else◌, length, None, sum_by}
use Rattle.pf_turn.specs.Own.{AllOfSeats}
use Rattle.pf_protocol.specs.declared.events.Event.{Event}
use Rattle.pf_shared.specs.pf_group.specs.Applied.{applies_done}
use Rattle.pf_shared.specs.pf_group.specs.GroupIs.{GroupIs, state_of}
use Rattle.pf_shared.specs.declared.moment.SeatMoment.{SeatMoment}
use Rattle.pf_shared.specs.declared.moment.SeatMoment.TheVariants.{Happened, Look}
use Rattle.pf_shared.specs.Since.{state_by_now}
use Rattle.pf_live_seats.specs.declared.plan.LinePlan.{LinePlan}
use Rattle.pf_live_seats.specs.Deliveries.{IsNextDelivery, LiveTrace}
use Rattle.pf_live_seats.specs.Roles.{is_applying}
use Rattle.pf_live_seats.specs.Submissions.{IsNextWrite}

pub data SeatRole : Type 0 where
  Submitting : SeatRole
  Delivering : SeatRole
  Applying : SeatRole

-- seat 0 is the caller's. Each time the threads begin there is one seat that submits, one that delivers, and one for each that applies
abbrev pub role_at : (place : ℕ) → SeatRole
role_at zero = Submitting
role_at (suc zero) = Delivering
role_at (suc (suc place)) = Applying

abbrev pub role_of_seat : (workers seat : ℕ) → SeatRole
role_of_seat workers zero = Submitting
role_of_seat workers (suc n) = role_at (n % (workers + 2))

-- the event, after the list
abbrev pub DoesAs : SeatRole → LinePlan → GroupIs → LiveTrace → Event → Type 0
DoesAs Submitting plan root list event = IsNextWrite plan root list event
DoesAs Delivering plan root list event = IsNextDelivery root.told plan.turns (state_by_now root list) list event
DoesAs Applying plan root list event = is_applying event ≡ true

abbrev pub SeatDoes : LinePlan → GroupIs → (seat : ℕ) → LiveTrace → SeatMoment → Type 0
SeatDoes plan root seat list (Happened h) = DoesAs (role_of_seat plan.workers seat) plan root list h.event
SeatDoes plan root seat list (Look read) = read ≡ None

-- each entry is a step or a look by one of the line's seats
abbrev pub IsLive : LinePlan → GroupIs → LiveTrace → Type 0
IsLive plan root list = AllOfSeats (SeatDoes plan root) list

-- what was acknowledged in the line, and what was applied on a server
abbrev pub acked_in_line : GroupIs → LiveTrace → ℕ
acked_in_line root list = length (state_by_now root list).acked - length (state_of root).acked

abbrev pub applies_at : (server : ℕ) → SeatMoment → Bool
applies_at server (Happened h) = applies_done server h.event h.answer
applies_at server (Look read) = false

abbrev pub applied_in_line : (server : ℕ) → LiveTrace → ℕ
applied_in_line server list = sum_by (λ e. if applies_at server e.what then 1 else 0) list
