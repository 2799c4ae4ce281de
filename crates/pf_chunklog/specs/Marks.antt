-- The records of a file, by where they stand in its bytes.
use Rattle.std.specs.Prelude.{ℕ, ◌≤◌, List, map, slice_range}
use Rattle.pf_chunklog.specs.Records.{Raw}
use Rattle.pf_chunklog.specs.declared.records.Mark.{Mark}

abbrev pub raw_at : List ℕ → Mark → Raw
raw_at file mark = (mark.kind, slice_range file mark.from mark.to)

abbrev pub raws_at : List ℕ → List Mark → List Raw
raws_at file marks = map (raw_at file) marks

-- a range of so many bytes
abbrev pub MarkIsWithin : ℕ → Mark → Type 0
MarkIsWithin size mark = (mark.from ≤ mark.to) × (mark.to ≤ size)
