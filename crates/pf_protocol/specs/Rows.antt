-- One event at one running server: which rule it is.
use Rattle.std.specs.Prelude.{ℕ, Bool, not, ◌&&◌, List, filter}
use Rattle.std.specs.List.{list_all}
use Rattle.pf_entry.specs.Sets
use Rattle.pf_entry.specs.declared.packets.Packet.{Packet}
use Rattle.pf_entry.specs.declared.packets.Body.{Body}
use Rattle.pf_entry.specs.declared.packets.Body.TheVariants.{RequestVote, Vote, Accept, Ack, Nack, Commit, Probe, ProbeOk, Image}
use Rattle.pf_protocol.specs.Servers.{Setup, Server, Read, has_applied}
use Rattle.pf_protocol.specs.Outcomes.{Outcome}
use Rattle.pf_protocol.specs.Leading.{on_vote, on_ack, on_probe_ok}
use Rattle.pf_protocol.specs.Following.{on_request_vote, on_accept, on_nack, on_commit, on_probe, on_image}

unfoldable pub on_message : Setup → Server → (from term : ℕ) → Body → Outcome
on_message setup s from term (RequestVote base) = on_request_vote s from term base
on_message setup s from term (Vote vote) = on_vote s term vote s.role
on_message setup s from term (Accept e) = on_accept setup s from e
on_message setup s from term (Ack slot upto_there) = on_ack s from term slot upto_there s.role
on_message setup s from term Nack = on_nack s term
on_message setup s from term (Commit slot) = on_commit s term slot
on_message setup s from term (Probe number) = on_probe s from term number
on_message setup s from term (ProbeOk number upto_there) = on_probe_ok s from term number upto_there s.role
on_message setup s from term (Image base applied sectors) = on_image s from term base applied sectors

unfoldable pub on_packet : Setup → Server → Packet → Outcome
on_packet setup s p = on_message setup s p.from p.term p.body

-- a read is answered as the step ends in which it is confirmed and all that it waits for is applied
abbrev pub is_ready : Server → Read → Bool
is_ready s r = r.confirmed && list_all (has_applied s) (Sets.items r.waits_for)

abbrev pub ready_reads : Server → List Read
ready_reads s = filter (is_ready s) s.reads

unfoldable pub settled : Server → Server
settled s = record s { reads = filter (λ r. not (is_ready s r)) s.reads }
