use Rattle.std.proofs.Common.{◌≡◌, ◌++◌}
use Rattle.pf_gen.specs.Draws.{number}
use Rattle.pf_gen.specs.Generated.{drawn_lines, first_line}
use Rattle.pf_gen.proofs.generator.script.Given as goal

abbrev pub invariant-loop-made : goal.invariant-loop-made
invariant-loop-made l = record {
  drawn : l.drawn ≡ number l.fn.number l.made;
  text : l.out.items ≡ first_line ++ drawn_lines l.fn.number l.made;
}
