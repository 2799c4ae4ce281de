use Rattle.std.proofs.Common.{◌≡◌, ◌++◌, take}
use Rattle.std.specs.List.{flat_map}
use Rattle.pf_text.specs.Kept.{KeepsText}
use Rattle.pf_report.specs.Texts.{spaced}
use Rattle.pf_report.proofs.lines.put_all_spaced.Given as goal

abbrev pub invariant-loop-n : goal.invariant-loop-n
invariant-loop-n l = record {
  text : l.out.items ≡ l.fn.out.items ++ flat_map spaced (take l.n-index l.numbers);
  kept : KeepsText l.fn.out.items l.out.items;
}
