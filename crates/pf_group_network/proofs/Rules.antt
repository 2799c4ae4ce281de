-- What the rules of a turn have in common.
use Rattle.std.proofs.Common.{◌≡◌, ℕ, ◌<◌, ◌≤◌, false, List, [], Option, Some, None, nat_lt, arith, sym, ap}
use Rattle.pf_entry.proofs.Lists.{every_more}
use Rattle.pf_protocol.specs.declared.answers.Answer.{Answer}
use Rattle.pf_protocol.specs.declared.answers.Answer.TheVariants.{Done, Slot, Term, Read as ReadIs, Base, Job, Refused}
use Rattle.pf_protocol.specs.declared.answers.Refusal.{Refusal}
use Rattle.pf_protocol.specs.declared.answers.Refusal.TheVariants.{PacketsFull, LogFull}
use Rattle.pf_protocol.specs.Servers.{Setup, Read}
use Rattle.pf_protocol.specs.Outcomes.{Outcome}
use Rattle.pf_protocol.specs.Asked.{AreBelow}
use Rattle.pf_protocol.specs.Groups.{Group, reads_after}
use Rattle.pf_protocol.specs.Answers.{half_size, packets_full, refuse, room_refusal}
use Rattle.pf_protocol.proofs.ForRows.{IsSilent, refuse_none}
use Rattle.pf_server_restart.specs.Beginning.{setup_of_seat}
use Rattle.pf_group_network.specs.Showing.{seat_of}
use Rattle.pf_group_network.specs.Turned.{LeavesAll}

pub leaves_all : (o : Option Refusal) → IsSilent o → LeavesAll o
leaves_all None is = tt
leaves_all (Some refusal) is = is

-- where there is room, the packets fit
pub packets_fit : (g : Group) (o : Outcome) → room_refusal g o ≡ None → packets_full g o.packets ≡ false
unfolding room_refusal half_size
packets_fit g o none = (refuse_none (packets_full g o.packets) PacketsFull (refuse (nat_lt 67108864 o.server.durable.used) LogFull None) none).0

reads_grow : (reads : ℕ) (answer : Answer) → reads ≤ reads_after reads answer
reads_grow reads Done = omega arith
reads_grow reads (Slot slot) = omega arith
reads_grow reads (Term term) = omega arith
reads_grow reads (ReadIs number) = omega arith
reads_grow reads (Base base) = omega arith
reads_grow reads (Job job) = omega arith
reads_grow reads (Refused refusal) = omega arith

-- below the next number before the event, and so after it
pub below_after : (reads : ℕ) (answer : Answer) (rs : List Read) → AreBelow reads rs → AreBelow (reads_after reads answer) rs
below_after reads answer rs below = every_more (λ r. r.number < reads) (λ r. r.number < reads_after reads answer) (λ r low. omega (arith, low, reads_grow reads answer)) rs below

-- a definition that does not look at the servers which could not be formatted
pub same_setup : {X : Type 0} → (f : Setup → X) (setup : Setup) (i : ℕ) → setup.window ≡ 4096 → f (setup_of_seat (seat_of setup i)) ≡ f (record setup { failed = [] })
same_setup f setup i window = ap (λ (w : ℕ). f (record setup { window = w; failed = [] })) (sym window)
