-- Submissions of a live line, and the slots that the writes of its hosts got.
use Rattle.std.specs.Prelude.{◌≡◌, ℕ, ◌<◌, Bool, true, false, IsTrue, ◌==◌, if◌then◌else◌, List, [], ◌∷◌, ◌++◌, length, Option, Some, slice_get, slice_index_or, sum_by}
use Rattle.pf_entry.specs.Lists.{Every}
use Rattle.pf_entry.specs.declared.ops.Op.TheVariants.{Write}
use Rattle.pf_protocol.specs.Servers.{Condition, Running}
use Rattle.pf_protocol.specs.Groups.{Acked, Group}
use Rattle.pf_protocol.specs.declared.answers.Answer.{Answer}
use Rattle.pf_protocol.specs.declared.answers.Answer.TheVariants.{Slot}
use Rattle.pf_protocol.specs.declared.events.Event.{Event}
use Rattle.pf_protocol.specs.declared.events.Event.TheVariants.{Submit}
use Rattle.pf_shared.specs.pf_group.specs.GroupIs.{GroupIs}
use Rattle.pf_shared.specs.declared.moment.SeatMoment.{SeatMoment}
use Rattle.pf_shared.specs.declared.moment.SeatMoment.TheVariants.{Happened, Look}
use Rattle.pf_shared.specs.Since.{state_by_now}
use Rattle.pf_shared.specs.pf_group_network.specs.Shown.{is_acked}
use Rattle.pf_live_seats.specs.declared.plan.LinePlan.{LinePlan}
use Rattle.pf_live_seats.specs.Deliveries.{LiveTrace}
use Rattle.pf_live_seats.specs.Writes.{byte_of, op_of_request, request_of}

-- a write is known by its byte as one of the host's
abbrev pub is_write_of : (h : ℕ) → Event → Bool
is_write_of h (Submit server (Write range payload)) = slice_index_or (slice_index_or payload 0 []) 0 0 == byte_of h
is_write_of h event = false

abbrev pub slot_at : Option Condition → (slot : ℕ) → List Acked
slot_at (Some (Running s)) slot = record { term = s.durable.term; slot = slot } ∷ []
slot_at condition slot = []

-- the slot that a submission got, in the term that its server had
abbrev pub slot_got : Group → Event → Answer → List Acked
slot_got g (Submit server op) (Slot slot) = slot_at (slice_get g.servers server) slot
slot_got g event answer = []

abbrev pub slot_with : Group → (h : ℕ) → SeatMoment → List Acked
slot_with g h (Happened x) = if is_write_of h x.event then slot_got g x.event x.answer else []
slot_with g h (Look read) = []

-- what the entries of a list give, each by what stands before it
abbrev pub gathered : {A : Type 0} → (LiveTrace → SeatMoment → List A) → (before list : LiveTrace) → List A
gathered f before [] = []
gathered f before (e ∷ es) = f before e.what ++ gathered f (before ++ e ∷ []) es

-- the slots that the writes of host h got, in order
abbrev pub slots_of_host : GroupIs → (h : ℕ) → LiveTrace → List Acked
slots_of_host root h list = gathered (λ before what. slot_with (state_by_now root before) h what) [] list

-- A submission of a write of host h is of its next one, the one that has as many before it as its writes have got slots
abbrev pub number_with : (h next : ℕ) → SeatMoment → List ℕ
number_with h next (Happened x) = if is_write_of h x.event then next ∷ [] else []
number_with h next (Look read) = []

-- the numbers of the writes of host h that are submitted, in order, one for each submission
abbrev pub write_numbers : GroupIs → (h : ℕ) → LiveTrace → List ℕ
write_numbers root h list = gathered (λ before what. number_with h (length (slots_of_host root h before)) what) [] list

abbrev pub is_told : Group → Acked → Bool
is_told g a = is_acked g a.term a.slot

-- how many writes of the host were acknowledged
abbrev pub acked_of_host : GroupIs → (h : ℕ) → LiveTrace → ℕ
acked_of_host root h list = sum_by (λ a. if is_told (state_by_now root list) a then 1 else 0) (slots_of_host root h list)

-- A write of a host is submitted. Where the disks tell their content, it is its next one, and each slot that its writes got was acknowledged. So
-- one that was refused or halted comes again
pub record IsNextWrite (plan : LinePlan) (root : GroupIs) (list : LiveTrace) (event : Event) : Type 0 where
  pub h : ℕ
  pub low : h < plan.hosts
  pub number : ℕ
  pub few : number < plan.writes
  pub server : ℕ
  pub is : event ≡ Submit server (op_of_request (request_of plan.sectors h number))
  pub next : IsTrue root.told → number ≡ length (slots_of_host root h list)
  pub acked : IsTrue root.told → Every (λ a. is_told (state_by_now root list) a ≡ true) (slots_of_host root h list)
