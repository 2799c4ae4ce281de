use Rattle.std.proofs.Common.{◌≡◌, true, List, drop, is_some, length, sym, ap, subst, ◌∙◌, rules}
use Rattle.std.specs.List.{list_all}
use Rattle.pf_group_copy.specs.declared.work.CopyWork.{CopyWork}
use Rattle.pf_group_copy.specs.Works.{AreBrought}
use Rattle.pf_group_rounds.specs.Open.{AreFilled, jobs_of}
use Rattle.pf_group_rounds.proofs.CopiedJobs.{brought_filled, brought_jobs, taken_front}
use Rattle.pf_group_rounds.proofs.applying.copy_all.Goals as goal

pub returns-then-are_filled-clause-jobs : goal.returns-then-are_filled-clause-jobs
returns-then-are_filled-clause-jobs g c =
    let ws = c.args.works.now.items in let vs = c.bring_all.new.works in
    let is : c.as_mut_slice.result.now ≡ ws = search rules in
    let len : c.args.works.now.len ≡ length vs = search rules in
    ap jobs_of (taken_front c.args.works.now.len vs (drop (length vs) ws) len) ∙ brought_jobs ws vs (subst (λ (l : List CopyWork). AreBrought l vs) is c.bring_all.ensures)

pub returns-then-are_filled-clause-filled : goal.returns-then-are_filled-clause-filled
returns-then-are_filled-clause-filled g c =
    let ws = c.args.works.now.items in let vs = c.bring_all.new.works in
    let is : c.as_mut_slice.result.now ≡ ws = search rules in
    let len : c.args.works.now.len ≡ length vs = search rules in
    let front = taken_front c.args.works.now.len vs (drop (length vs) ws) len in
    let some = sym c.are_filled.ensures ∙ c.if-are_filled.true in
    let all = subst (λ (l : List CopyWork). list_all (λ w. is_some w.filled) l ≡ true) (c.as_slice.ensures.value ∙ front) some in
    subst AreFilled (sym front) (brought_filled ws vs (subst (λ (l : List CopyWork). AreBrought l vs) is c.bring_all.ensures) all)

pub returns-else-are_filled-clause-jobs : goal.returns-else-are_filled-clause-jobs
returns-else-are_filled-clause-jobs g c =
    let ws = c.args.works.now.items in let vs = c.bring_all.new.works in
    let is : c.as_mut_slice.result.now ≡ ws = search rules in
    let len : c.args.works.now.len ≡ length vs = search rules in
    ap jobs_of (taken_front c.args.works.now.len vs (drop (length vs) ws) len) ∙ brought_jobs ws vs (subst (λ (l : List CopyWork). AreBrought l vs) is c.bring_all.ensures)
