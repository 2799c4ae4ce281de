use Rattle.std.proofs.Common.{ℕ, ◌<◌, ◌≤◌, ◌-◌, length, get_or, take}
use Rattle.std.specs.List.{AllZip}
use Rattle.pf_chunklog.specs.Records.{Raw}
use Rattle.pf_image.specs.Recovery.{KindIsInPlace, SpellsRecord}
use Rattle.pf_image.proofs.recovery.read_recoverable.Given as goal

abbrev pub invariant-loop-kind : goal.invariant-loop-kind
invariant-loop-kind l = record {
  within : length l.records.items ≤ length l.raws;
  spelled : AllZip (SpellsRecord l.format) (take (length l.records.items) l.raws) l.records.items;
  placed : (k : ℕ) (d : Raw) → k < length l.records.items → KindIsInPlace k (get_or l.raws k d).0;
}

abbrev pub decreases-loop-kind : goal.decreases-loop-kind
decreases-loop-kind l = length l.raws - length l.records.items
