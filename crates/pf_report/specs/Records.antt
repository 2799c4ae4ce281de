-- The texts of a server's records.
use Rattle.std.specs.Prelude.{ℕ, List, ◌++◌, codes, length}
use Rattle.pf_entry.specs.declared.records.Record.{Record}
use Rattle.pf_entry.specs.declared.records.Record.TheVariants.{Image, Term, Entry, Merged}
use Rattle.pf_report.specs.Texts.{with_line_feed, slot_text, spaced}

-- an image tells its generation, its term and its checkpoint; merged entries their term, their first new slot and their count
abbrev pub record_text : Record → List ℕ
record_text (Image generation term vote applied sectors) = codes "image" ++ spaced generation ++ spaced term ++ spaced vote.base
record_text (Term term) = codes "term" ++ spaced term
record_text (Entry entry) = codes "entry " ++ slot_text entry.slot entry.term entry.op
record_text (Merged term first entries) = codes "merged" ++ spaced term ++ spaced first ++ spaced (length entries)

-- the line of a record
abbrev pub record_line : Record → List ℕ
record_line written = with_line_feed (record_text written)
