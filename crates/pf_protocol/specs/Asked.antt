-- Reads that wait, as a server needs them.
use Rattle.std.specs.Prelude.{◌≡◌, ℕ, ◌<◌, true, List, map}
use Rattle.pf_base.specs.Span.{fits_in, IsWritable}
use Rattle.pf_entry.specs.Lists.{Every}
use Rattle.pf_entry.specs.Sets
use Rattle.pf_entry.specs.Tables.{ascends}
use Rattle.pf_protocol.specs.Servers.{Read, Server}

-- of 1 to 8 sectors of the chunk, and it waits for slots of a log
pub record IsReadAsked (chunk : ℕ) (r : Read) : Type 0 where
  pub range : IsWritable r.range.first r.range.count
  pub fits : fits_in r.range chunk ≡ true
  pub slots : (slot : ℕ) → Sets.contains r.waits_for slot ≡ true → 0 < slot

-- each has a greater number than those before it
pub record AreAsked (chunk : ℕ) (reads : List Read) : Type 0 where
  pub ascending : ascends (map (λ r. r.number) reads) ≡ true
  pub each : Every (IsReadAsked chunk) reads

-- the number of the next read is above theirs
abbrev pub AreBelow : (next : ℕ) → List Read → Type 0
AreBelow next reads = Every (λ r. r.number < next) reads

-- the reads of a server whose group gives its next read this number
pub record Asks (chunk next : ℕ) (s : Server) : Type 0 where
  pub asked : AreAsked chunk s.reads
  pub below : AreBelow next s.reads
