-- Entries, votes and records as bytes. Each number stands with its highest byte first.
use Rattle.std.specs.Prelude.{ℕ, List, [], ◌∷◌, ◌++◌, length}
use Rattle.std.specs.Int.{Width, w16, w32, w64, to_be_bytes}
use Rattle.std.specs.List.{flat_map}
use Rattle.std.specs.FinMap
use Rattle.pf_base.specs.Span.{Span}
use Rattle.pf_entry.specs.Maps.{Map, Numbers}
use Rattle.pf_entry.specs.Sets
use Rattle.pf_entry.specs.Sizes.{payload_size}
use Rattle.pf_entry.specs.declared.ops.Op.{Op}
use Rattle.pf_entry.specs.declared.ops.Op.TheVariants.{Write, Noop, Mark}
use Rattle.pf_entry.specs.declared.entries.Named.{Named}
use Rattle.pf_entry.specs.declared.entries.Entry.{Entry}
use Rattle.pf_entry.specs.declared.entries.VoteLog.{VoteLog}
use Rattle.pf_entry.specs.declared.records.Record.{Record}
use Rattle.pf_entry.specs.declared.records.Record.TheVariants.{Image as ImageRecord, Term as TermRecord, Entry as EntryRecord, Merged as MergedRecord}

-- a number in as many bytes as its width says
unfoldable pub number : Width → ℕ → List ℕ
number w n = to_be_bytes w n

abbrev pub byte : ℕ → List ℕ
byte n = n ∷ []

-- its first sector and its count
unfoldable pub range_bytes : Span → List ℕ
range_bytes span = number w32 span.first ++ byte span.count

unfoldable pub name_bytes : Named → List ℕ
name_bytes n = number w64 n.slot ++ range_bytes n.range

-- the sectors of a write, one after the other
abbrev pub sectors_in_row : List (List ℕ) → List ℕ
sectors_in_row sectors = flat_map (λ sector. sector) sectors

-- a tag; a write has its range and its sectors too
unfoldable pub op_bytes : Op → List ℕ
op_bytes (Write range payload) = byte 1 ++ (range_bytes range ++ sectors_in_row payload)
op_bytes Noop = byte 0
op_bytes Mark = byte 2

unfoldable pub entry_bytes : Entry → List ℕ
entry_bytes e =
    number w64 e.slot ++ (number w64 e.term ++ (number w64 e.first ++ (byte (length e.look) ++ (flat_map name_bytes e.look ++ op_bytes e.op))))

-- a count, and the entries
unfoldable pub entries_bytes : List Entry → List ℕ
entries_bytes es = number w32 (length es) ++ flat_map entry_bytes es

abbrev pub log_bytes : Map Entry → List ℕ
log_bytes log = entries_bytes (FinMap.values log)

unfoldable pub start_bytes : ℕ × ℕ → List ℕ
start_bytes row = number w64 row.0 ++ number w64 row.1

unfoldable pub starts_bytes : Map ℕ → List ℕ
starts_bytes starts = number w16 (FinMap.len starts) ++ flat_map start_bytes (FinMap.entries starts)

unfoldable pub slots_bytes : Numbers → List ℕ
slots_bytes slots = number w32 (Sets.len slots) ++ flat_map (number w64) (Sets.items slots)

unfoldable pub sectors_bytes : List (List ℕ) → List ℕ
sectors_bytes sectors = number w32 (length sectors) ++ sectors_in_row sectors

unfoldable pub vote_bytes : VoteLog → List ℕ
vote_bytes v = number w64 v.base ++ (starts_bytes v.starts ++ log_bytes v.log)

abbrev pub record_kind : Record → ℕ
record_kind (ImageRecord generation term vote applied sectors) = 1
record_kind (TermRecord term) = 2
record_kind (EntryRecord e) = 3
record_kind (MergedRecord term first es) = 4

unfoldable pub payload_bytes : Record → List ℕ
payload_bytes (ImageRecord generation term vote applied sectors) =
    number w64 generation ++ (number w64 term ++ (number w64 vote.base
    ++ (starts_bytes vote.starts ++ (slots_bytes applied ++ (log_bytes vote.log ++ sectors_bytes sectors)))))
payload_bytes (TermRecord term) = number w64 term
payload_bytes (EntryRecord e) = entry_bytes e
payload_bytes (MergedRecord term first es) = number w64 term ++ (number w64 first ++ entries_bytes es)

-- kind, length, payload, and the closed gate of the next record
unfoldable pub body_bytes : Record → List ℕ
body_bytes r = byte (record_kind r) ++ (number w32 (payload_size r) ++ (payload_bytes r ++ byte 0))
