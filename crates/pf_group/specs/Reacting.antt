-- What comes of one event of a network.
use Rattle.std.specs.Prelude.{◌≡◌, ◌⊎◌, ℕ, Bool, Option, Some, None, Result, Ok, Err}
use Rattle.pf_base.specs.declared.errors.NoMemory.{NoMemory}
use Rattle.pf_protocol.specs.declared.answers.Answer.{Answer}
use Rattle.pf_protocol.specs.declared.events.Event.{Event}
use Rattle.pf_protocol.specs.declared.events.Event.TheVariants.{Restart}
use Rattle.pf_protocol.specs.declared.events.Happening.{Happening}
use Rattle.pf_protocol.specs.Servers.{Setup}
use Rattle.pf_server_store.specs.Stores.{StoreModel}
use Rattle.pf_group_network.specs.Pasts.{GroupPast}
use Rattle.pf_protocol.specs.Groups.{Group}
use Rattle.pf_group_network.specs.declared.network.Network.{Network}
use Rattle.pf_group_network.specs.Going.{HasBegunSomehow, HasGone, HasKept, HasStayed, IsHonestAt, IsReached, IsToldAt}
use Rattle.pf_group.specs.declared.event.GroupEvent.{GroupEvent}
use Rattle.pf_group.specs.declared.event.GroupEvent.TheVariants as asked
use Rattle.pf_group.specs.Events.{GroupMayAsk, rule_event}

-- the server whose disks an event may touch although there was no memory for it
abbrev pub own_of : GroupEvent → Option ℕ
own_of (asked.Restart server) = Some server
own_of event = None

-- the disks of a server that begins again tell their content, and it is in a condition that no restart refuses
abbrev pub RestartIsTold : {S : Type 0} → (S → Bool) → Setup → Group → Network S → GroupEvent → Type 0
RestartIsTold told setup g network (asked.Restart server) = IsToldAt told network server × IsHonestAt setup g server
RestartIsTold told setup g network event = Unit {0}

-- the event with its answer, or there was no memory for it
abbrev pub happened_as : Event → Result Answer NoMemory → Result Happening NoMemory
happened_as event (Ok answer) = Ok (record { event = event; answer = answer })
happened_as event (Err e) = Err e

module _ {S : Type 0} (model : StoreModel S) where
  -- a past led to the network, and the event may be asked for after it
  abbrev pub MayReact : Network S → GroupEvent → Type 0
  MayReact network event = (setup : Setup) × ((past : GroupPast) × IsReached model setup past network × GroupMayAsk past.claims event)

  -- the event was answered
  pub record Answers (setup : Setup) (g : Group) (event : Event) (old new : Network S) (r : Happening) : Type 0 where
    pub event_is : r.event ≡ event
    pub gone : HasGone model setup g event old new r.answer

  -- or there was no memory for it
  abbrev pub Comes : Setup → Group → Event → (old new : Network S) → Result Happening NoMemory → Type 0
  Comes setup g event old new (Ok r) = Answers setup g event old new r
  Comes setup g event old new (Err e) = HasStayed model setup g None old new

  abbrev pub Reacts : Setup → Group → GroupEvent → (old new : Network S) → Result Happening NoMemory → Type 0
  Reacts setup g event old new (Ok r) = (found : Bool) × Answers setup g (rule_event event found) old new r
  Reacts setup g event old new (Err e) = HasStayed model setup g (own_of event) old new

  -- a restart tells whether it found the record of a step that was cut off
  abbrev pub ComesBack : Setup → Group → (i : ℕ) → (old new : Network S) → Result Happening NoMemory → Type 0
  ComesBack setup g i old new (Ok r) = (found : Bool) × Answers setup g (Restart i found) old new r
  ComesBack setup g i old new (Err e) = HasStayed model setup g (Some i) old new

  -- over any disks: whatever state that fits it began from, or was cut off over
  pub record HasAnsweredSomehow (setup : Setup) (g : Group) (i : ℕ) (old new : Network S) (r : Happening) : Type 0 where
    pub found : Bool
    pub event_is : r.event ≡ Restart i found
    pub begun : HasBegunSomehow model setup g i old new r.answer

  abbrev pub ComesBackSomehow : Setup → Group → (i : ℕ) → (old new : Network S) → Result Happening NoMemory → Type 0
  ComesBackSomehow setup g i old new (Ok r) = HasAnsweredSomehow setup g i old new r
  ComesBackSomehow setup g i old new (Err e) = HasKept model setup g i old new

  -- it came to what the rules say, or it is a restart, which came to something
  abbrev pub ReactsSomehow : Setup → Group → GroupEvent → (old new : Network S) → Result Happening NoMemory → Type 0
  ReactsSomehow setup g event old new r = Reacts setup g event old new r ⊎ ((i : ℕ) × (event ≡ asked.Restart i) × ComesBackSomehow setup g i old new r)
