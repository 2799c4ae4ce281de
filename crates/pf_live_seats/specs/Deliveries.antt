-- Deliveries of a live line, and the packets that are left.
use Rattle.std.specs.Prelude.{◌≡◌, ℕ, ◌<◌, Bool, true, false, IsTrue, not, ◌&&◌, ◌==◌, if◌then◌else◌, List, find, length, Option, Some, sum_by}
use Rattle.std.specs.List.{list_any, range_with_len}
use Rattle.pf_turn.specs.declared.log.Stamped.{Stamped}
use Rattle.pf_protocol.specs.Groups.{Group}
use Rattle.pf_protocol.specs.declared.events.Event.{Event}
use Rattle.pf_protocol.specs.declared.events.Event.TheVariants.{Deliver}
use Rattle.pf_shared.specs.pf_group.specs.Packets.{is_left_in, is_refused_for_room}
use Rattle.pf_shared.specs.declared.moment.SeatMoment.{SeatMoment}
use Rattle.pf_shared.specs.declared.moment.SeatMoment.TheVariants.{Happened, Look}

abbrev pub LiveTrace : Type 0
LiveTrace = List (Stamped SeatMoment)

abbrev pub is_delivery_event : Event → Bool
is_delivery_event (Deliver k) = true
is_delivery_event event = false

abbrev pub is_delivery_of : ℕ → Event → Bool
is_delivery_of k (Deliver j) = j == k
is_delivery_of k event = false

-- a delivery that was refused for want of room passes its packet over
abbrev pub passes_over : ℕ → SeatMoment → Bool
passes_over k (Happened h) = is_delivery_of k h.event && is_refused_for_room h.answer
passes_over k (Look read) = false

abbrev pub is_passed : ℕ → LiveTrace → Bool
is_passed k list = list_any (λ (e : Stamped SeatMoment). passes_over k e.what) list

-- and does not count
abbrev pub delivers : SeatMoment → Bool
delivers (Happened h) = is_delivery_event h.event && not (is_refused_for_room h.answer)
delivers (Look read) = false

abbrev pub deliveries : LiveTrace → ℕ
deliveries list = sum_by (λ (e : Stamped SeatMoment). if delivers e.what then 1 else 0) list

-- the least packet that is left in the group and was not passed over in the list
abbrev pub least_left_in_line : Group → LiveTrace → Option ℕ
least_left_in_line g list = find (λ k. is_left_in g k && not (is_passed k list)) (range_with_len 0 (length g.packets))

-- A packet is delivered, after fewer than so many deliveries in the list: the least one left, where the disks tell their content
pub record IsNextDelivery (told : Bool) (turns : ℕ) (g : Group) (list : LiveTrace) (event : Event) : Type 0 where
  pub k : ℕ
  pub is : event ≡ Deliver k
  pub least : IsTrue told → least_left_in_line g list ≡ Some k
  pub few : deliveries list < turns
