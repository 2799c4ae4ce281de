use Rattle.std.proofs.Common.{◌≡◌, ap, sym, subst, ◌∙◌}
use Rattle.std.specs.Option.{option_copied}
use Rattle.std.specs.Result.{IfOk}
use Rattle.pf_entry.specs.Merging.{higher, left_of}
use Rattle.pf_merge.proofs.MergeResults.{op_of_some, op_of_none}
use Rattle.pf_merge.proofs.merging.op_at.Goals as goal

pub returns-in-Some : goal.returns-in-Some
returns-in-Some c =
    let base = c.args.base in
    let is = c.higher.ensures ∙ ap (λ o. higher o (option_copied c.left-theirs.result)) c.left-mine.ensures
    ∙ ap (higher (left_of base c.args.own.now c.args.other.now c.args.slot (option_copied c.args.own_entry))) c.left-theirs.ensures in
    let taken = sym is ∙ ap option_copied c.in-Some.is in
    subst (λ x. IfOk c.try_clone.result (λ op. op ≡ x)) (op_of_some _ c.in-Some.entry.now taken) c.try_clone.ensures

pub returns-in-None : goal.returns-in-None
returns-in-None c =
    let base = c.args.base in
    let is = c.higher.ensures ∙ ap (λ o. higher o (option_copied c.left-theirs.result)) c.left-mine.ensures
    ∙ ap (higher (left_of base c.args.own.now c.args.other.now c.args.slot (option_copied c.args.own_entry))) c.left-theirs.ensures in
    op_of_none _ (sym is ∙ ap option_copied c.in-None.is)
