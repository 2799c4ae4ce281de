-- What one turn does to the group behind it.
use Rattle.std.specs.Prelude.{◌≡◌, ℕ, Bool, List, [], ◌∷◌, ◌++◌, Option, None, Some}
use Rattle.pf_turn.specs.declared.log.Stamped.{Stamped}
use Rattle.pf_disk.specs.declared.disk.Disk.{Ghosts}
use Rattle.pf_base.specs.declared.filled.Filled.{Filled}
use Rattle.pf_entry.specs.declared.ops.Op.{Op}
use Rattle.pf_server_apply.specs.Jobs.{IsFilledFor}
use Rattle.pf_protocol.specs.declared.answers.Answer.{Answer}
use Rattle.pf_protocol.specs.declared.events.Event.{Event}
use Rattle.pf_group_rounds.specs.pf_group.specs.declared.event.GroupEvent.{GroupEvent}
use Rattle.pf_group_rounds.specs.pf_group.specs.Events.{rule_event}
use Rattle.pf_group_rounds.specs.pf_group.specs.GroupIs.{GroupIs}
use Rattle.pf_shared.specs.declared.moment.SeatMoment.{SeatMoment}
use Rattle.pf_shared.specs.declared.moment.SeatMoment.TheVariants.{Happened, Look}
use Rattle.pf_shared.specs.declared.behind.Behind.{Behind}
use Rattle.pf_shared.specs.Answering.{EventIsAnswered}
use Rattle.pf_shared.specs.Moments.{entry}
use Rattle.pf_shared.specs.Since.{happened_since}
use Rattle.pf_shared.specs.Woven.{woven}
use Rattle.pf_shared.specs.Hands.{key, hand, hand_of}

-- the seat has the job in hand, and the sectors are those of its op
pub record BringsBack (seat : ℕ) (list : List (Stamped SeatMoment)) (filled : Filled) : Type 0 where
  pub op : Op
  pub in_hand : hand_of (key filled.server filled.life filled.slot) None list ≡ Some (hand seat op)
  pub brought : IsFilledFor op filled

module _ {D : Type 0} {disk : Ghosts D} where
  abbrev pub list_of : Behind D disk → List (Stamped SeatMoment)
  list_of b = woven b.turns.items (happened_since b.start b.group)

  abbrev pub group_in : Behind D disk → GroupIs
  group_in b = b.group

  -- the group as it was before its first turn
  abbrev pub start_of : Behind D disk → GroupIs
  start_of b = b.start

  -- the event was answered, and is one more entry of this seat
  pub record Acts (seat : ℕ) (event : Event) (answer : Answer) (old new : Behind D disk) : Type 0 where
    pub listed : list_of new ≡ list_of old ++ entry seat (Happened (record { event = event; answer = answer })) ∷ []
    pub answered : EventIsAnswered old.group.told old.group.setup old.group.taken old.group.history event answer
    pub root : new.start ≡ old.start

  pub record ActsAs (seat : ℕ) (event : GroupEvent) (answer : Answer) (old new : Behind D disk) : Type 0 where
    pub found : Bool
    pub acts : Acts seat (rule_event event found) answer old new

  -- nothing that the list tells changed
  pub record Stays (old new : Behind D disk) : Type 0 where
    pub listed : list_of new ≡ list_of old
    pub root : new.start ≡ old.start

  -- nothing happened to the group, and one more entry of this seat is a look
  pub record HasLooked (seat : ℕ) (read : Option ℕ) (old new : Behind D disk) : Type 0 where
    pub listed : list_of new ≡ list_of old ++ entry seat (Look read) ∷ []
    pub root : new.start ≡ old.start
