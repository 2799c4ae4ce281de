use Rattle.std.proofs.Common.{◌≡◌, ◌++◌, ℕ, List, length}
use Rattle.std.specs.List.{All}
use Rattle.pf_chunklog.specs.Records.{RecordIsSized, blocks}
use Rattle.pf_chunklog.specs.Marks.{MarkIsWithin, raws_at}
use Rattle.pf_chunklog.proofs.reading.split_records.Given as goal

abbrev pub invariant-loop-kind : goal.invariant-loop-kind
invariant-loop-kind l = record {
  front : (front : List ℕ) × (l.file ≡ front ++ l.left);
  split : l.rest ≡ blocks (raws_at l.file l.marks.items) ++ l.left;
  inside : All (MarkIsWithin (length l.file)) l.marks.items;
  sized : All RecordIsSized (raws_at l.file l.marks.items);
}

abbrev pub decreases-loop-kind : goal.decreases-loop-kind
decreases-loop-kind l = length l.left
