-- Reads that are answered.
use Rattle.std.specs.Prelude.{ℕ, ◌+◌, List, slice_range}
use Rattle.pf_entry.specs.Ops.{Sector}
use Rattle.pf_election.specs.declared.probes.ProbedRead.{ProbedRead as ReadHere}
use Rattle.pf_protocol.specs.Servers.{Read, Server}
use Rattle.pf_protocol.specs.Groups.{answer_of}

-- the answer of a read: its number, and the bytes of its range
abbrev pub read_answered : Server → Read → ℕ × List Sector
read_answered s r = (let a = answer_of s r in (a.number, a.bytes))

-- the answer of a read, from the sectors
abbrev pub read_reply : List Sector → ReadHere → ℕ × List Sector
read_reply sectors r = (r.number, slice_range sectors r.range.first (r.range.first + r.range.count))
