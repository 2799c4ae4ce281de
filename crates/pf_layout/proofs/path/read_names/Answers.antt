use Rattle.std.proofs.Common.{◌≢◌, [], sym, ◌∙◌, arith}
use Rattle.std.proofs.lemmas.Bool.{eqb-true, false≢true}
use Rattle.pf_tree.specs.Paths.{path_bytes}
use Rattle.pf_layout.proofs.PathLaws.{same_names}
use Rattle.pf_layout.proofs.path.read_names.Goals as goal
use Rattle.pf_layout.proofs.path.read_names.Goals.{then-is_empty-via-then-is_empty, then-is_empty-via-else-is_empty+then-len-gt-MOST_NAMES}

pub returns-then-is_empty-clause-bad_name : goal.returns-then-is_empty-clause-bad_name
returns-then-is_empty-clause-bad_name c = λ bad path is spelled.
    let other : c.args.word.now ≢ path_bytes [] = λ e. false≢true (sym c.if-is_slash.false ∙ c.is_slash.ensures.1 e) in
    let found = c.in_ok-names.ensures.names in
    let count = same_names c.in_ok-names.names.items path c.args.word.now found.0 found.1 other is spelled in
    elim c.then-is_empty.branch [
      | then-is_empty-via-then-is_empty w ↦ let none = eqb-true _ 0 (sym w.if-is_empty.ensures) in omega (arith, count, none)
      | then-is_empty-via-else-is_empty+then-len-gt-MOST_NAMES w ↦ omega (arith, count, w.len.ensures, w.if-len-gt-MOST_NAMES.true)
    ]
