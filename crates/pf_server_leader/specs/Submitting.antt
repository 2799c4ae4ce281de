-- What a leader proposes, and which refusal of a submission comes first.
use Rattle.std.specs.Prelude.{◌≡◌, ℕ, ◌+◌, ◌-◌, ◌≤◌, not, ◌&&◌, true, false, List, length, map, Option, Some, None, Result, Ok, Err, ◌==◌, nat_lt}
use Rattle.std.specs.List.{filter, range_with_len}
use Rattle.pf_base.specs.Span.{fits_in}
use Rattle.pf_entry.specs.Ops.{range_of}
use Rattle.pf_entry.specs.Maps.{Map}
use Rattle.pf_entry.specs.declared.ops.Op.{Op}
use Rattle.pf_entry.specs.declared.entries.Entry.{Entry}
use Rattle.pf_entry.specs.declared.entries.Named.{Named}
use Rattle.pf_entry.specs.declared.packets.Body.TheVariants.{Accept}
use Rattle.pf_holes.specs.HoleLogs.{Holes}
use Rattle.pf_protocol.specs.Servers.{Setup, Leader, Server}
use Rattle.pf_protocol.specs.Outcomes.{Outcome, to_others}
use Rattle.pf_protocol.specs.Leading.{op_at, new_entry, submitted, on_submit, acknowledged}
use Rattle.pf_protocol.specs.Answers.{refuse, is_mark, is_serving, window_full}
use Rattle.pf_protocol.specs.declared.answers.Answer.TheVariants.{Slot as SlotIs}
use Rattle.pf_protocol.specs.declared.answers.Refusal.{Refusal}
use Rattle.pf_protocol.specs.declared.answers.Refusal.TheVariants.{OldFormat, BadRange, NotLeader, WindowFull}
use Rattle.pf_server_memory.specs.Bounds.{far}
use Rattle.pf_server_memory.specs.declared.faults.StepFault.{StepFault}
use Rattle.pf_server_memory.specs.declared.faults.StepFault.TheVariants.{NoMemory, Refused, Halted}
use Rattle.pf_server_memory.specs.declared.running.Leader.{Leader as LeaderHere}
use Rattle.pf_server_memory.specs.declared.running.Role.{Role as RoleHere}
use Rattle.pf_server_memory.specs.declared.running.Role.TheVariants.{Serving as ServingHere}
use Rattle.pf_server_memory.specs.declared.running.Running.{Running}
use Rattle.pf_server_memory.specs.Outgoing.{Outgoing}
use Rattle.pf_server_memory.specs.Standing.{server_of, setup_of, state_in_memory, leader_in_memory, room_refusal}

-- the refusals that the op, the role and the window give, and else what comes after them
unfoldable pub refused_first : Setup → Server → Op → Option Refusal → Option Refusal
refused_first setup s op rest =
    refuse (is_mark op && setup.format == 1) OldFormat
    (refuse (not (fits_in (range_of op) setup.chunk)) BadRange
    (refuse (not (is_serving s.role)) NotLeader
    (refuse (window_full setup s s.role) WindowFull rest)))

-- the packets have to fit last, and the record
unfoldable pub submit_refusal : Setup → Outgoing → Op → Server → Option Refusal
submit_refusal setup out op s = refused_first setup s op (room_refusal out (on_submit setup s op s.role))

abbrev pub range_named_at : Map Entry → ℕ → Named
range_named_at log slot = record { slot = slot; range = range_of (op_at log slot) }

-- the slots before next that an entry names
abbrev pub look_in : Holes → (names next : ℕ) → List Named
look_in log names next =
    map (range_named_at log.entries) (filter (nat_lt log.base) (range_with_len (next - names) (next - (next - names))))

-- nothing but room refuses the op
pub record MayPropose (me : Running) (op : Op) (leader : LeaderHere) : Type 0 where
  pub marks : (is_mark op && me.format == 1) ≡ false
  pub fits : fits_in (range_of op) (length me.sectors) ≡ true
  pub serves : me.role ≡ ServingHere leader
  pub within : leader.next ≤ me.log.base + 4096

-- the entry is the leader's next
pub record IsSubmitPlan (me : Running) (op : Op) (e : Entry) : Type 0 where
  pub leader : LeaderHere
  pub may : MayPropose me op leader
  pub is : e ≡ new_entry me.names (server_of (state_in_memory me) me) (leader_in_memory leader) op

abbrev pub PlansEntry : Running → Op → Result Entry StepFault → Type 0
PlansEntry me op (Ok e) = IsSubmitPlan me op e
PlansEntry me op (Err NoMemory) = Unit {0}
PlansEntry me op (Err (Refused refusal)) = (rest : Option Refusal) → refused_first (setup_of me) (server_of (state_in_memory me) me) op rest ≡ Some refusal
PlansEntry me op (Err Halted) = ⊥

-- the rule of an entry that is a leader's next
abbrev pub entry_proposed : Server → Leader → Entry → Outcome
entry_proposed s l e = record { server = submitted s l e; packets = to_others s (Accept e); answer = SlotIs e.slot; acked = None }

-- a leader that has begun its next slot
pub record IsNextLeader (number : ℕ) (l next : LeaderHere) : Type 0 where
  pub is : next ≡ record l { next = l.next + 1; acks = next.acks }
  pub base : next.acks.base ≡ l.acks.base
  pub count : next.acks.count ≡ l.acks.count + 1
  pub acks : next.acks.acks ≡ acknowledged l.acks.acks number (l.acks.base + l.acks.count + 1)

-- a serving leader has room for its next slot
abbrev pub LeaderHasRoom : RoleHere → Type 0
LeaderHasRoom role = (l : LeaderHere) → role ≡ ServingHere l → 1 ≤ l.acks.spare

abbrev pub LeaderIsLow : RoleHere → Type 0
LeaderIsLow role = (l : LeaderHere) → role ≡ ServingHere l → l.next ≤ far

abbrev pub SlotHasBegun : ℕ → RoleHere → RoleHere → Type 0
SlotHasBegun number before after = (l : LeaderHere) → before ≡ ServingHere l → (next : LeaderHere) × (after ≡ ServingHere next) × IsNextLeader number l next

-- only more room
pub record IsRoomierLeader (l more : LeaderHere) : Type 0 where
  pub is : more ≡ record l { acks = more.acks }
  pub base : more.acks.base ≡ l.acks.base
  pub count : more.acks.count ≡ l.acks.count
  pub acks : more.acks.acks ≡ l.acks.acks

abbrev pub IsRoomierRole : RoleHere → RoleHere → Type 0
IsRoomierRole before after = (l : LeaderHere) → before ≡ ServingHere l → (more : LeaderHere) × (after ≡ ServingHere more) × IsRoomierLeader l more

pub record IsRoomier (me near : Running) : Type 0 where
  pub is : near ≡ record me { starts = near.starts; role = near.role }
  pub starts : near.starts.starts ≡ me.starts.starts
  pub role : IsRoomierRole me.role near.role
