use Rattle.std.proofs.Common.{◌≡◌, drop, map}
use Rattle.pf_entry.specs.Tables.{ascends}
use Rattle.pf_codec.proofs.Rows.{ascends_after}
use Rattle.pf_codec.proofs.keys.ascend.Given as goal

abbrev pub invariant-loop-row : goal.invariant-loop-row
invariant-loop-row g l = ascends_after l.last (map g.K.Keyed.key (drop l.row-index l.rows)) ≡ ascends (map g.K.Keyed.key l.rows)
