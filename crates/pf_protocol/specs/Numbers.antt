-- The numbers of refusals.
use Rattle.std.specs.Prelude.{ℕ}
use Rattle.pf_protocol.specs.declared.answers.Refusal.{Refusal}
use Rattle.pf_protocol.specs.declared.answers.Refusal.TheVariants.{BadRange, WindowFull, LogFull, NotOurs, NotLeader, Down, Halted, NoPacket, LostPacket, PacketsFull, ElectionsFull, NoneFree, Stale, OldFormat}

abbrev pub refusal_number : Refusal → ℕ
refusal_number BadRange = 10
refusal_number WindowFull = 30
refusal_number LogFull = 41
refusal_number NotOurs = 42
refusal_number NotLeader = 50
refusal_number Down = 51
refusal_number Halted = 52
refusal_number NoPacket = 53
refusal_number LostPacket = 54
refusal_number PacketsFull = 55
refusal_number ElectionsFull = 56
refusal_number NoneFree = 60
refusal_number (Stale life) = 61
refusal_number OldFormat = 97
