use Rattle.std.proofs.Common.{◌≡◌, drop, map}
use Rattle.pf_entry.specs.Tables.{ascends}
use Rattle.pf_codec.proofs.Rows.{ascends_after}
use Rattle.pf_server_restart.proofs.fitting.ascend.Given as goal

abbrev pub invariant-loop-named : goal.invariant-loop-named
invariant-loop-named l = ascends_after l.last (map (λ m. m.slot) (drop l.named-index l.look)) ≡ ascends (map (λ m. m.slot) l.look)
