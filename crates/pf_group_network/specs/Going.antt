-- One event of a network.
use Rattle.std.specs.Prelude.{◌≡◌, ◌≢◌, ◌⊎◌, ℕ, suc, ◌≤◌, Bool, true, false, Option, Some, None, IfSome, IsTrue, Result, Ok, Err, slice_get, slice_set}
use Rattle.std.specs.Option.{option_map}
use Rattle.pf_base.specs.declared.errors.NoMemory.{NoMemory}
use Rattle.pf_base.specs.declared.filled.Filled.{Filled}
use Rattle.pf_entry.specs.declared.ops.Op.{Op}
use Rattle.pf_server_store.specs.Stores.{StoreModel}
use Rattle.pf_server_apply.specs.Jobs.{IsFilledFor}
use Rattle.pf_entry.specs.Records.{Durable}
use Rattle.pf_protocol.specs.declared.answers.Answer.{Answer}
use Rattle.pf_protocol.specs.declared.answers.Answer.TheVariants.{Done, Refused}
use Rattle.pf_protocol.specs.declared.answers.Refusal.TheVariants.{Halted, NotOurs}
use Rattle.pf_protocol.specs.declared.events.Event.{Event}
use Rattle.pf_protocol.specs.declared.events.Event.TheVariants.{Submit, Fetch, Deliver, Lose, Elect, Resend, Stop, Restart, Claim, Finish, GiveBack, Checkpoint}
use Rattle.pf_protocol.specs.Servers.{Setup, Condition, Running as RunningIs, Stopped as StoppedIs}
use Rattle.pf_protocol.specs.Saving.{restarted}
use Rattle.pf_protocol.specs.Kept.{MayHold}
use Rattle.pf_protocol.specs.Groups.{CutOff, Group, Sent, ending, happens, restart, stopped}
use Rattle.pf_protocol.specs.Answers.{IsAnswer}
use Rattle.pf_group_network.specs.Pasts.{GroupPast, PastIsShort, IsViablePast}
use Rattle.pf_server_restart.specs.Beginning.{ServerHasBegun, setup_of_seat}
use Rattle.pf_server.specs.Conditions.{IsHonest}
use Rattle.pf_server.specs.Turns.{IsSavedOf, next_life}
use Rattle.pf_server.specs.declared.server.Server.{Server}
use Rattle.pf_group_network.specs.declared.network.Network.{Network}
use Rattle.pf_group_network.specs.Readings.{taken_after}
use Rattle.pf_group_network.specs.Showing.{Shows, seat_of, taken_of}

-- the server that a packet is for
abbrev pub receiver : Option Sent → Option ℕ
receiver (Some sent) = Some sent.packet.to
receiver None = None

-- the server at which the event takes place
abbrev pub acts_at : Group → Event → Option ℕ
acts_at g (Submit i op) = Some i
acts_at g (Fetch i range) = Some i
acts_at g (Deliver k) = receiver (slice_get g.packets k)
acts_at g (Lose k) = None
acts_at g (Elect i) = Some i
acts_at g (Resend i) = Some i
acts_at g (Stop i) = Some i
acts_at g (Restart i found) = Some i
acts_at g Claim = None
acts_at g (Finish i life slot) = Some i
acts_at g (GiveBack i life slot) = Some i
acts_at g (Checkpoint i) = Some i

-- the event touches no disk: nothing is stored by it, and nothing read
abbrev pub is_quiet_event : Event → Bool
is_quiet_event (Lose k) = true
is_quiet_event (Stop i) = true
is_quiet_event Claim = true
is_quiet_event (Finish i life slot) = true
is_quiet_event (GiveBack i life slot) = true
is_quiet_event event = false

module _ {S : Type 0} where
  abbrev pub store_at : Network S → ℕ → Option S
  store_at network i = option_map (λ (server : Server S). server.store) (slice_get network.servers.items i)

  -- the disks of every server but this one are as they were
  abbrev pub KeepsOthers : Option ℕ → (old new : Network S) → Type 0
  KeepsOthers own old new = (i : ℕ) → own ≢ Some i → store_at new i ≡ store_at old i

  -- the disks of every server are as they were
  abbrev pub KeepsStores : (old new : Network S) → Type 0
  KeepsStores old new = (i : ℕ) → store_at new i ≡ store_at old i

  -- the disks of a server tell their content exactly where they did
  abbrev pub KeepsTelling : (S → Bool) → (old new : Network S) → Type 0
  KeepsTelling told old new = (i : ℕ) → option_map told (store_at new i) ≡ option_map told (store_at old i)

-- server i has disks that tell their content
abbrev pub IsToldAt : {S : Type 0} → (S → Bool) → Network S → ℕ → Type 0
IsToldAt told network i = IfSome (slice_get network.servers.items i) (λ server. IsTrue (told server.store))

-- and is in a condition that no restart refuses
abbrev pub IsHonestAt : Setup → Group → ℕ → Type 0
IsHonestAt setup g i = IfSome (slice_get g.servers i) (IsHonest (seat_of setup i))

module _ {S : Type 0} (rose : S → S → Type 0) where
  -- a disk of server i failed
  pub record HasFault (i : ℕ) (old new : Network S) : Type 0 where
    pub before : Server S
    pub after : Server S
    pub was : slice_get old.servers.items i ≡ Some before
    pub is : slice_get new.servers.items i ≡ Some after
    pub risen : rose before.store after.store

-- a state that server i may hold in one of two groups, perhaps saved anew
pub record StateIsHeld (before after : Group) (i : ℕ) (x : Durable) : Type 0 where
  pub state : Durable
  pub held : MayHold before i state ⊎ MayHold after i state
  pub is : IsSavedOf state x

module _ {S : Type 0} (was : S → S → Durable → Durable → Type 0) (before after : Group) where
  -- a crash at any moment left server i in such a state
  pub record Passes (i : ℕ) (old new : S) : Type 0 where
    pub x : Durable
    pub y : Durable
    pub first : StateIsHeld before after i x
    pub second : StateIsHeld before after i y
    pub left : was old new x y

  -- the disks of server i were not touched, or so; a restart may touch them twice
  pub record WasTouched (i : ℕ) (old new : S) : Type 0 where
    pub between : S
    pub first : (between ≡ old) ⊎ Passes i old between
    pub second : (new ≡ between) ⊎ Passes i between new

  -- those of this server of a network
  abbrev pub Touches : Option ℕ → (old new : Network S) → Type 0
  Touches own old new = (i : ℕ) (server next : Server S) → own ≡ Some i → slice_get old.servers.items i ≡ Some server
      → slice_get new.servers.items i ≡ Some next → WasTouched i server.store next.store

module _ {S : Type 0} (model : StoreModel S) where
  -- the network stands for the group that a viable past led to
  pub record IsReached (setup : Setup) (past : GroupPast) (network : Network S) : Type 0 where
    pub viable : IsViablePast setup past
    pub short : PastIsShort past
    pub shows : Shows model setup network past.group

  -- some such past led to it
  abbrev pub HasPast : Network S → Type 0
  HasPast network = (setup : Setup) × ((past : GroupPast) × IsReached setup past network)

  -- so did a past that leads on from this one, of the same open claims
  pub record LeadsOn (setup : Setup) (past : GroupPast) (network : Network S) : Type 0 where
    pub later : GroupPast
    pub reached : IsReached setup later network
    pub claims : later.claims ≡ past.claims
    pub top : later.top ≡ past.top
    pub least : past.count ≤ later.count
    pub most : later.count ≤ suc past.count

  -- The event was answered as the rules say, and the network stands for the group after it. A step is cut off only where a disk of
  -- its own server failed; a crash inside it leaves what its server may hold before it or after it; no other server's disks are
  -- touched, nor are its own by a quiet event; none tells less or more of its content, and no answer of a read is handed out.
  pub record HasGone (setup : Setup) (g : Group) (event : Event) (old new : Network S) (answer : Answer) : Type 0 where
    pub answered : IsAnswer setup g event answer
    pub shows : Shows model setup new (happens setup g event (ending answer))
    pub cause : answer ≡ Refused Halted → (i : ℕ) × (acts_at g event ≡ Some i) × HasFault model.rose i old new
    pub crash : Touches model.was g (happens setup g event (ending answer)) (acts_at g event) old new
    pub others : KeepsOthers (acts_at g event) old new
    pub quiet : is_quiet_event event ≡ true → KeepsStores old new
    pub tells : KeepsTelling model.told old new
    pub taken : taken_of new ≡ taken_after (taken_of old) answer

  -- or there was no memory for it: the network stands for the same group, and the disks of every server but this one are as they were
  pub record HasStayed (setup : Setup) (g : Group) (own : Option ℕ) (old new : Network S) : Type 0 where
    pub shows : Shows model setup new g
    pub crash : Touches model.was g g own old new
    pub others : KeepsOthers own old new
    pub tells : KeepsTelling model.told old new
    pub taken : taken_of new ≡ taken_of old

  abbrev pub Goes : Setup → Group → Event → (old new : Network S) → Result Answer NoMemory → Type 0
  Goes setup g event old new (Ok answer) = HasGone setup g event old new answer
  Goes setup g event old new (Err e) = HasStayed setup g None old new

  -- so it went from whatever group such a past had led to
  abbrev pub HasGoneBy : Event → (old new : Network S) → Answer → Type 0
  HasGoneBy event old new answer = (setup : Setup) (past : GroupPast) → IsReached setup past old → HasGone setup past.group event old new answer

  abbrev pub GoesBy : Event → (old new : Network S) → Result Answer NoMemory → Type 0
  GoesBy event old new result = (setup : Setup) (past : GroupPast) → IsReached setup past old → Goes setup past.group event old new result

  -- a restart tells whether it found the record of a step that was cut off. Where there is no memory for it, its own server's disks
  -- may have been read
  abbrev pub GoesBack : Setup → Group → (i : ℕ) → (old new : Network S) → Result (Answer × Bool) NoMemory → Type 0
  GoesBack setup g i old new (Ok (answer, found)) = HasGone setup g (Restart i found) old new answer
  GoesBack setup g i old new (Err e) = HasStayed setup g (Some i) old new

  -- server i stands so in its next life, over some state that fits, whatever it is
  pub record IsOver (setup : Setup) (g : Group) (i : ℕ) (new : Network S) (stands : (life : ℕ) → Durable → Condition) : Type 0 where
    pub c : Condition
    pub there : slice_get g.servers i ≡ Some c
    pub life : ℕ
    pub next : suc life ≡ next_life c
    pub d : Durable
    pub fits : ServerHasBegun (setup_of_seat (seat_of setup i)) d
    pub shows : Shows model setup new (record g { servers = slice_set g.servers i (stands (next_life c) d) })

  -- Over any disks: begun over such a state, or cut off over one or as it read, or stopped where the disks hold no state of it.
  abbrev pub ShowsSomehow : Setup → Group → (i : ℕ) → (new : Network S) → Answer → Type 0
  ShowsSomehow setup g i new Done = IsOver setup g i new (λ life d. RunningIs (restarted i life d))
  ShowsSomehow setup g i new (Refused Halted) = IsOver setup g i new (λ life d. StoppedIs life d d)
      ⊎ Shows model setup new (restart CutOff g i false (slice_get g.servers i))
  ShowsSomehow setup g i new answer = (answer ≡ Refused NotOurs) × Shows model setup new (stopped g i (slice_get g.servers i))

  -- no other server's disks are touched
  pub record HasBegunSomehow (setup : Setup) (g : Group) (i : ℕ) (old new : Network S) (answer : Answer) : Type 0 where
    pub shows : ShowsSomehow setup g i new answer
    pub cause : answer ≡ Refused Halted → HasFault model.rose i old new
    pub others : KeepsOthers (Some i) old new
    pub tells : KeepsTelling model.told old new
    pub taken : taken_of new ≡ taken_of old

  -- or there was no memory for it
  pub record HasKept (setup : Setup) (g : Group) (i : ℕ) (old new : Network S) : Type 0 where
    pub shows : Shows model setup new g
    pub others : KeepsOthers (Some i) old new
    pub tells : KeepsTelling model.told old new
    pub taken : taken_of new ≡ taken_of old

  abbrev pub GoesSomehow : Setup → Group → (i : ℕ) → (old new : Network S) → Result (Answer × Bool) NoMemory → Type 0
  GoesSomehow setup g i old new (Ok (answer, found)) = HasBegunSomehow setup g i old new answer
  GoesSomehow setup g i old new (Err e) = HasKept setup g i old new

  -- an open claim of such a past comes back done, with the sectors of its op
  pub record IsBroughtBack (setup : Setup) (past : GroupPast) (network : Network S) (filled : Filled) : Type 0 where
    pub reached : IsReached setup past network
    pub op : Op
    pub k : ℕ
    pub claim : slice_get past.claims k ≡ Some (record { server = filled.server; life = filled.life; slot = filled.slot; op = op })
    pub brought : IsFilledFor op filled
