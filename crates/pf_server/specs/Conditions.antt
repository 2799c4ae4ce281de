-- A server's memory and disks, as the rules see them.
use Rattle.std.specs.Prelude.{◌≡◌, ◌⊎◌, ℕ, suc, ◌<◌, ◌≤◌, ◌^◌, Bool, true, false, cond, List, [], length, Some}
use Rattle.std.specs.FinMap
use Rattle.pf_base.specs.Sizes.{half_bytes}
use Rattle.pf_base.specs.declared.filled.Filled.{Filled}
use Rattle.pf_entry.specs.Lists.{Every}
use Rattle.pf_entry.specs.Ops.{Sector}
use Rattle.pf_entry.specs.Records.{Durable}
use Rattle.pf_entry.specs.declared.entries.Entry.{Entry}
use Rattle.pf_entry.specs.declared.ops.Op.{Op}
use Rattle.pf_entry.specs.declared.packets.Packet.{Packet}
use Rattle.pf_protocol.specs.Servers.{Leader, Merging as MergingIs, Serving as ServingIs, Server, Condition, Running as RunningIs, Stopped as StoppedIs, Unformatted as UnformattedIs}
use Rattle.pf_protocol.specs.Fitting.{DurableFits, PacketFits, ServerFits}
use Rattle.pf_protocol.specs.Asked.{AreBelow, Asks}
use Rattle.pf_server_store.specs.Stores.{StoreModel}
use Rattle.pf_server_memory.specs.Bounds.{far}
use Rattle.pf_server_memory.specs.declared.running.Running.{Running}
use Rattle.pf_server_memory.specs.Standing.{server_of, setup_of, Stands}
use Rattle.pf_protocol.specs.Answers.{has_stored}
use Rattle.pf_protocol.specs.Saving.{renewed}
use Rattle.pf_server_apply.specs.Jobs.{IsFilledFor}
use Rattle.pf_server_restart.specs.Beginning.{setup_of_seat, IsSeat}
use Rattle.pf_server_restart.specs.declared.seat.Seat.{Seat}
use Rattle.pf_server.specs.declared.state.Doubt.{Doubt}
use Rattle.pf_server.specs.declared.state.Doubt.TheVariants.{Settled, Open, Read}
use Rattle.pf_server.specs.declared.state.State.{State}
use Rattle.pf_server.specs.declared.state.State.TheVariants.{Runs, Stopped, Unformatted}

-- a half has the volume's format or the second, and has room for the state
pub record IsInHalf (seat : Seat) (d : Durable) : Type 0 where
  pub format : (d.format ≡ 2) ⊎ (d.format ≡ seat.format)
  pub within : d.used ≤ half_bytes

module _ {S : Type 0} (model : StoreModel S) where
  -- the server runs, and is this one to the rules
  pub record IsRunning (seat : Seat) (store : S) (me : Running) (s : Server) : Type 0 where
    pub stands : Stands model s.durable store me
    pub is : server_of s.durable me ≡ s
    pub setup : setup_of me ≡ setup_of_seat seat

  -- a state is there, perhaps saved anew
  pub record HasOne (d : Durable) (store : S) : Type 0 where
    pub x : Durable
    pub y : Durable
    pub has : model.holds store x y
    pub first : (x ≡ d) ⊎ (x ≡ renewed d)
    pub second : (y ≡ d) ⊎ (y ≡ renewed d)

  -- the step's record is there or not, and the half tells which
  pub record HasEither (bytes generation : ℕ) (before after : Durable) (store : S) : Type 0 where
    pub x : Durable
    pub y : Durable
    pub has : model.holds store x y
    pub first : (x ≡ before) ⊎ (x ≡ after)
    pub second : (y ≡ before) ⊎ (y ≡ after)
    pub used_is : before.used ≡ bytes
    pub generation_is : before.generation ≡ generation
    pub apart : has_stored before after ≡ true

  abbrev pub Leaves : Doubt → (before after : Durable) → S → Type 0
  Leaves Settled before after store = (before ≡ after) × HasOne before store
  Leaves (Open bytes generation) before after store = HasEither bytes generation before after store
  Leaves (Read found) before after store = HasOne (cond found after before) store

  -- a stopped server's records are those from before its last step, or those with it
  pub record IsStopped (seat : Seat) (life : ℕ) (doubt : Doubt) (there : ℕ) (before after : Durable) (store : S) : Type 0 where
    pub life_is : life ≡ there
    pub left : Leaves doubt before after store
    pub first : IsInHalf seat before
    pub second : IsInHalf seat after

  -- memory and disks stand for this condition
  abbrev pub Meets : Seat → S → State → Condition → Type 0
  Meets seat store (Runs me) (RunningIs s) = IsRunning seat store me s
  Meets seat store (Stopped life doubt) (StoppedIs there before after) = IsStopped seat life doubt there before after store
  Meets seat store Unformatted UnformattedIs = Unit {0}
  Meets seat store _ _ = ⊥

abbrev pub state_runs : State → Bool
state_runs (Runs me) = true
state_runs _ = false

-- the answers of reads that nobody took yet
abbrev pub untaken_answers : State → List (ℕ × List Sector)
untaken_answers (Runs me) = me.replies.answers
untaken_answers _ = []

-- each has 1 to 8 sectors
abbrev pub AreSized : List (ℕ × List Sector) → Type 0
AreSized answers = Every (λ a. (1 ≤ length a.1) × (length a.1 ≤ 8)) answers

-- what every group knows of its running servers
pub record ServerIsSound (seat : Seat) (s : Server) : Type 0 where
  pub number : s.number ≡ seat.number
  pub n : ℕ
  pub t : ℕ
  pub low : suc (suc n) < far
  pub t_low : t < far
  pub fits : ServerFits (setup_of_seat seat) n t s
  pub few : FinMap.len s.durable.starts ≤ 130
  pub next : ℕ
  pub asks : Asks seat.sectors next s
  -- what a leader holds above its checkpoint and below its next slot is of its term
  pub own : (l : Leader) → (s.role ≡ MergingIs l) ⊎ (s.role ≡ ServingIs l) → (slot : ℕ) (e : Entry) → s.durable.base < slot → slot < l.next
      → FinMap.get s.durable.log slot ≡ Some e → e.term ≡ s.durable.term

-- of the states on the disks of its stopped ones
pub record StoppedIsFit (seat : Seat) (d : Durable) : Type 0 where
  pub n : ℕ
  pub t : ℕ
  pub low : suc (suc n) < 2 ^ 63
  pub t_low : t < 2 ^ 63
  pub fits : DurableFits (setup_of_seat seat) n t d
  pub few : FinMap.len d.starts ≤ 65

-- and of their conditions
abbrev pub IsKnown : Seat → Condition → Type 0
IsKnown seat (RunningIs s) = ServerIsSound seat s
IsKnown seat (StoppedIs life before after) = life < far
IsKnown seat UnformattedIs = Unit {0}

-- no restart refuses the states of this condition. Every group knows so of its servers whose disks tell their content
abbrev pub IsHonest : Seat → Condition → Type 0
IsHonest seat (RunningIs s) = StoppedIsFit seat s.durable
IsHonest seat (StoppedIs life before after) = StoppedIsFit seat before × StoppedIsFit seat after
IsHonest seat UnformattedIs = Unit {0}

-- memory and disks stand for a condition that a group knows of
pub record ServerIsInOrder {S : Type 0} (model : StoreModel S) (seat : Seat) (store : S) (state : State) : Type 0 where
  pub made : IsSeat seat
  pub condition : Condition
  pub meets : Meets model seat store state condition
  pub known : IsKnown seat condition

-- a job of the server's life is in hand, and comes back with its sectors
abbrev pub BringsBack : Condition → Filled → Type 0
BringsBack (RunningIs s) filled = filled.life ≡ s.life → (op : Op) × (FinMap.get s.in_hand filled.slot ≡ Some op) × IsFilledFor op filled
BringsBack _ filled = Unit {0}

-- a read of this number would be the last
abbrev pub IsNextRead : Condition → (number : ℕ) → Type 0
IsNextRead (RunningIs s) number = AreBelow number s.reads
IsNextRead _ number = Unit {0}

-- what every group knows of its packets
pub record IsFor (seat : Seat) (p : Packet) : Type 0 where
  pub n : ℕ
  pub t : ℕ
  pub low : n < far
  pub t_low : t < far
  pub fits : PacketFits (setup_of_seat seat) n t p
  pub to : p.to ≡ seat.number
