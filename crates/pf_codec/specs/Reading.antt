-- Entries, votes and records at the front of bytes.
use Rattle.std.specs.Prelude.{ℕ, zero, suc, ◌-◌, ◌%◌, Bool, true, ◌&&◌, ◌||◌, not, ◌==◌, nat_lt, nat_le, List, length, map, Option, Some, None, if◌then◌else◌}
use Rattle.std.specs.Int.{w16, w32, w64}
use Rattle.std.specs.List.{list_all}
use Rattle.pf_base.specs.Span.{Span, is_span, is_whole}
use Rattle.pf_entry.specs.Maps.{Map, Numbers}
use Rattle.pf_entry.specs.Sets
use Rattle.pf_entry.specs.Tables.{ascends}
use Rattle.pf_entry.specs.Canonical.{Bounds}
use Rattle.pf_entry.specs.StartMaps.{terms_in, starts_of}
use Rattle.pf_entry.specs.EntryMaps.{slots_in, log_of}
use Rattle.pf_entry.specs.declared.ops.Op.{Op}
use Rattle.pf_entry.specs.declared.ops.Op.TheVariants.{Write, Noop, Mark}
use Rattle.pf_entry.specs.declared.entries.Named.{Named}
use Rattle.pf_entry.specs.declared.entries.Entry.{Entry}
use Rattle.pf_entry.specs.declared.entries.VoteLog.{VoteLog}
use Rattle.pf_entry.specs.declared.tables.Start.{Start}
use Rattle.pf_entry.specs.declared.records.Record.{Record}
use Rattle.pf_entry.specs.declared.records.Record.TheVariants.{Image as ImageRecord, Term as TermRecord, Entry as EntryRecord, Merged as MergedRecord}
use Rattle.pf_codec.specs.Parsers.{Parser, and_then, ◌>>=◌, checked, byte_at, bytes_at, number_at, row_at}

unfoldable pub range_at : Parser Span
range_at = do
  first ← number_at w32
  count ← byte_at
  checked (is_span (record { first = first; count = count })) (record { first = first; count = count })

unfoldable pub name_at : Parser Named
name_at = do
  slot ← number_at w64
  range ← range_at
  checked true (record { slot = slot; range = range })

unfoldable pub sector_at : Parser (List ℕ)
sector_at = bytes_at 512

-- a range of 1 to 8 sectors, and as many sectors
unfoldable pub sectors_of : Span → Parser Op
sectors_of range = do
  payload ← row_at sector_at range.count
  checked true (Write range payload)

unfoldable pub write_at : Parser Op
write_at = do
  range ← range_at
  if nat_lt 0 range.count && nat_le range.count 8 then sectors_of range else λ bytes. None

unfoldable pub op_tagged : ℕ → Parser Op
op_tagged zero = checked true Noop
op_tagged (suc zero) = write_at
op_tagged (suc (suc zero)) = checked true Mark
op_tagged (suc (suc (suc tag))) = λ bytes. None

unfoldable pub op_at : Parser Op
op_at = do
  tag ← byte_at
  op_tagged tag

-- whether a format has room for the op
abbrev pub allows : Bounds → Op → Bool
allows bounds (Write range payload) = true
allows bounds Noop = true
allows bounds Mark = bounds.marks == 1

-- whether an entry of this slot may name the range there
abbrev pub may_name : Bool → ℕ → Named → Bool
may_name has_marks slot n = nat_lt n.slot slot && (not (is_whole n.range) || has_marks)

unfoldable pub are_names : Bounds → ℕ → List Named → Bool
are_names bounds slot look = ascends (map (λ n. n.slot) look) && list_all (may_name (bounds.marks == 1) slot) look

unfoldable pub is_entry : Bounds → Entry → Bool
is_entry bounds e =
    nat_le 1 e.slot && nat_le 1 e.term && nat_le 1 e.first && nat_le (length e.look) bounds.names
    && (nat_le e.first e.slot || length e.look == 0) && allows bounds e.op && are_names bounds e.slot e.look

unfoldable pub entry_at : Bounds → Parser Entry
entry_at bounds = do
  slot ← number_at w64
  term ← number_at w64
  first ← number_at w64
  count ← byte_at
  look ← row_at name_at count
  op ← op_at
  checked (is_entry bounds (record { slot = slot; term = term; first = first; look = look; op = op }))
      (record { slot = slot; term = term; first = first; look = look; op = op })

unfoldable pub entries_at : Bounds → Parser (List Entry)
entries_at bounds = do
  count ← number_at w32
  row_at (entry_at bounds) count

-- whether a slot lies above the checkpoint, within the window
abbrev pub is_slot_within : ℕ → ℕ → ℕ → Bool
is_slot_within base window slot = nat_lt base slot && nat_le (slot - base) window

unfoldable pub is_log : Bounds → ℕ → List Entry → Bool
is_log bounds base rows = ascends (slots_in rows) && list_all (λ e. is_slot_within base bounds.window e.slot) rows

unfoldable pub log_at : Bounds → ℕ → Parser (Map Entry)
log_at bounds base = do
  rows ← entries_at bounds
  checked (is_log bounds base rows) (log_of rows)

unfoldable pub start_at : Parser Start
start_at = do
  term ← number_at w64
  first ← number_at w64
  checked true (record { term = term; first = first })

unfoldable pub starts_at : Parser (Map ℕ)
starts_at = do
  count ← number_at w16
  rows ← row_at start_at count
  checked (ascends (terms_in rows)) (starts_of rows)

unfoldable pub vote_at : Bounds → Parser VoteLog
vote_at bounds = do
  base ← number_at w64
  starts ← starts_at
  log ← log_at bounds base
  checked true (record { base = base; starts = starts; log = log })

-- slots above a checkpoint
unfoldable pub slots_at : ℕ → Parser Numbers
slots_at base = do
  count ← number_at w32
  slots ← row_at (number_at w64) count
  checked (ascends slots && list_all (nat_lt base) slots) (Sets.from_items slots)

-- how many sectors a chunk has
abbrev pub is_chunk : ℕ → Bool
is_chunk count = nat_le 16 count && nat_le count 4096 && count % 8 == 0

unfoldable pub sectors_at : Parser (List (List ℕ))
sectors_at = do
  count ← number_at w32
  if is_chunk count then row_at sector_at count else λ bytes. None

unfoldable pub image_at : Bounds → Parser Record
image_at bounds = do
  generation ← number_at w64
  term ← number_at w64
  base ← number_at w64
  starts ← starts_at
  applied ← slots_at base
  log ← log_at bounds base
  sectors ← sectors_at
  checked true (ImageRecord generation term (record { base = base; starts = starts; log = log }) applied sectors)

unfoldable pub term_at : Parser Record
term_at = do
  term ← number_at w64
  checked true (TermRecord term)

unfoldable pub entry_record_at : Bounds → Parser Record
entry_record_at bounds = do
  e ← entry_at bounds
  checked true (EntryRecord e)

unfoldable pub merged_at : Bounds → Parser Record
merged_at bounds = do
  term ← number_at w64
  first ← number_at w64
  es ← entries_at bounds
  checked true (MergedRecord term first es)

unfoldable pub payload_at : Bounds → ℕ → Parser Record
payload_at bounds kind =
    if kind == 1 then image_at bounds
    else if kind == 2 then term_at
    else if kind == 3 then entry_record_at bounds
    else if kind == 4 then merged_at bounds
    else λ bytes. None

-- a record that is the whole of a payload
unfoldable pub record_in : Bounds → ℕ → List ℕ → Option Record
record_in bounds kind payload =
    and_then (payload_at bounds kind payload) (λ r. if length r.1 == 0 then Some r.0 else None)
