-- How many bytes entries, packets and records take when they are spelled.
use Rattle.std.specs.Prelude.{ℕ, ◌+◌, ◌*◌, List, length, sum_by}
use Rattle.std.specs.FinMap
use Rattle.pf_entry.specs.Maps.{Map, Numbers}
use Rattle.pf_entry.specs.Sets
use Rattle.pf_entry.specs.declared.ops.Op.{Op}
use Rattle.pf_entry.specs.declared.ops.Op.TheVariants.{Write, Noop, Mark}
use Rattle.pf_entry.specs.declared.entries.Entry.{Entry}
use Rattle.pf_entry.specs.declared.entries.VoteLog.{VoteLog}
use Rattle.pf_entry.specs.declared.packets.Packet.{Packet}
use Rattle.pf_entry.specs.declared.packets.Body.{Body}
use Rattle.pf_entry.specs.declared.packets.Body.TheVariants.{RequestVote, Vote, Accept, Ack, Nack, Commit, Probe, ProbeOk, Image}
use Rattle.pf_entry.specs.declared.records.Record.{Record}
use Rattle.pf_entry.specs.declared.records.Record.TheVariants.{Image as ImageRecord, Term as TermRecord, Entry as EntryRecord, Merged as MergedRecord}

-- a tag; a write has its range and its sectors too
abbrev pub op_size : Op → ℕ
op_size (Write range payload) = 6 + 512 * length payload
op_size Noop = 1
op_size Mark = 1

-- slot, term, first and the count of named slots, each of which has its slot, first sector and count
abbrev pub entry_size : Entry → ℕ
entry_size e = 25 + 13 * length e.look + op_size e.op

-- a count, and the entries
abbrev pub entries_size : List Entry → ℕ
entries_size es = 4 + sum_by entry_size es

abbrev pub log_size : Map Entry → ℕ
log_size log = entries_size (FinMap.values log)

abbrev pub starts_size : Map ℕ → ℕ
starts_size starts = 2 + 16 * FinMap.len starts

abbrev pub slots_size : Numbers → ℕ
slots_size slots = 4 + 8 * Sets.len slots

abbrev pub sectors_size : List (List ℕ) → ℕ
sectors_size sectors = 4 + 512 * length sectors

abbrev pub vote_size : VoteLog → ℕ
vote_size v = 8 + starts_size v.starts + log_size v.log

abbrev pub message_size : Body → ℕ
message_size (RequestVote base) = 8
message_size (Vote v) = vote_size v
message_size (Accept e) = entry_size e
message_size (Ack slot upto) = 16
message_size Nack = 0
message_size (Commit slot) = 8
message_size (Probe number) = 8
message_size (ProbeOk number upto) = 16
message_size (Image base applied sectors) = 8 + slots_size applied + sectors_size sectors

-- kind, sender, receiver and term stand before the message
unfoldable pub packet_size : Packet → ℕ
packet_size p = 11 + message_size p.body

abbrev pub payload_size : Record → ℕ
payload_size (ImageRecord generation term vote applied sectors) = 16 + vote_size vote + slots_size applied + sectors_size sectors
payload_size (TermRecord term) = 8
payload_size (EntryRecord e) = entry_size e
payload_size (MergedRecord term first es) = 16 + entries_size es

-- kind, length, payload, and the gate of the next record
unfoldable pub body_size : Record → ℕ
body_size r = 6 + payload_size r

-- the head of a half and its first gate
abbrev pub empty_half : ℕ
empty_half = 9
