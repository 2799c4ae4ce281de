-- How a live line ends: one definition over its list and the state after it.
use Rattle.std.specs.Prelude.{◌≡◌, ◌⊎◌, ℕ, ◌<◌, ◌∷◌, ◌++◌, length, Some, None}
use Rattle.pf_protocol.specs.declared.answers.Answer.TheVariants.{Refused}
use Rattle.pf_protocol.specs.declared.answers.Refusal.{Refusal}
use Rattle.pf_protocol.specs.declared.events.Event.TheVariants.{Submit}
use Rattle.pf_shared.specs.pf_group_network.specs.Shown.{IsLeader}
use Rattle.pf_shared.specs.pf_group.specs.GroupIs.{GroupIs}
use Rattle.pf_shared.specs.declared.moment.SeatMoment.TheVariants.{Happened}
use Rattle.pf_shared.specs.Moments.{entry}
use Rattle.pf_shared.specs.Since.{state_by_now}
use Rattle.pf_live_seats.specs.declared.plan.LinePlan.{LinePlan}
use Rattle.pf_base.specs.declared.live_end.LiveEnd.{LiveEnd}
use Rattle.pf_base.specs.declared.live_end.LiveEnd.TheVariants.{Done, Stalled, TurnsSpent}
use Rattle.pf_live_seats.specs.Deliveries.{LiveTrace, deliveries, least_left_in_line}
use Rattle.pf_live_seats.specs.Submissions.{acked_of_host, slots_of_host}
use Rattle.pf_live_seats.specs.Writes.{op_of_request, request_of}

-- the server refused write j of the host, and nothing was delivered since
pub record IsRefused (plan : LinePlan) (root : GroupIs) (list : LiveTrace) (h j server : ℕ) : Type 0 where
  pub before : LiveTrace
  pub seat : ℕ
  pub refusal : Refusal
  pub after : LiveTrace
  pub there : before ++ entry seat (Happened (record { event = Submit server (op_of_request (request_of plan.sectors h j)); answer = Refused refusal })) ∷ after
      ≡ list
  pub number : length (slots_of_host root h before) ≡ j
  pub since : deliveries after ≡ 0

-- the serving leader of the greatest term did
pub record WasRefused (plan : LinePlan) (root : GroupIs) (list : LiveTrace) (h j : ℕ) : Type 0 where
  pub server : ℕ
  pub term : ℕ
  pub leads : IsLeader (state_by_now root list) (Some (term, server))
  pub refused : IsRefused plan root list h j server

-- the host's first write that is not acknowledged got a slot, or no server serves, or it was refused
abbrev pub WaitsInVain : LinePlan → GroupIs → LiveTrace → (h : ℕ) → Type 0
WaitsInVain plan root list h = (acked_of_host root h list < length (slots_of_host root h list))
    ⊎ (IsLeader (state_by_now root list) None ⊎ WasRefused plan root list h (acked_of_host root h list))

-- a write of the host is not acknowledged
abbrev pub HostIsOpen : LinePlan → GroupIs → LiveTrace → (h : ℕ) → Type 0
HostIsOpen plan root list h = (h < plan.hosts) × (acked_of_host root h list < plan.writes)

abbrev pub NoneIsLeft : GroupIs → LiveTrace → Type 0
NoneIsLeft root list = least_left_in_line (state_by_now root list) list ≡ None

abbrev pub HasEnd : LinePlan → GroupIs → LiveTrace → LiveEnd → Type 0
HasEnd plan root list Done = ((h : ℕ) → h < plan.hosts → acked_of_host root h list ≡ plan.writes) × NoneIsLeft root list
HasEnd plan root list Stalled = NoneIsLeft root list × ((h : ℕ) × HostIsOpen plan root list h)
    × ((h : ℕ) → HostIsOpen plan root list h → WaitsInVain plan root list h)
HasEnd plan root list TurnsSpent = (deliveries list ≡ plan.turns) × ((k : ℕ) × (least_left_in_line (state_by_now root list) list ≡ Some k))
