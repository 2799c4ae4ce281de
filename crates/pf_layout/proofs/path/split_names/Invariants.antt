use Rattle.std.proofs.Common.{◌≡◌, ◌++◌, length}
use Rattle.std.specs.List.{AllByRecursion}
use Rattle.pf_layout.specs.Paths.{IsName}
use Rattle.pf_tree.specs.Paths.{names_bytes}
use Rattle.pf_layout.proofs.path.split_names.Given as goal

abbrev pub invariant-loop-rest : goal.invariant-loop-rest
invariant-loop-rest l = record {
  names : AllByRecursion IsName l.names.items;
  spelled : l.rest ++ names_bytes l.names.items ≡ l.word;
}

abbrev pub decreases-loop-rest : goal.decreases-loop-rest
decreases-loop-rest l = length l.rest
