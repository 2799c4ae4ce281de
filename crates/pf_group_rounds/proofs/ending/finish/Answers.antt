use Rattle.std.proofs.Common.{◌∙◌, [], sym, subst}
use Rattle.std.proofs.lemmas.Option.{same_Some}
use Rattle.pf_group.specs.Events.{Brings}
use Rattle.pf_protocol.specs.Answers.{claims_of}
use Rattle.pf_group_copy.specs.Filling.{filled_of}
use Rattle.pf_group_rounds.proofs.ClaimLists.{brings}
use Rattle.pf_group_rounds.proofs.RoundSteps.{finished_job}
use Rattle.pf_group_rounds.proofs.ending.finish.Goals as goal

pub step-requires : goal.step-requires
step-requires g c =
    let job = c.args.work.job in let history = c.args.group.now.history in
    let is = same_Some c.in-Some.filled (filled_of job) (sym c.in-Some.is ∙ c.requires.filled) in
    subst (Brings (claims_of [] history)) (sym is) (brings history job c.requires.hand)

pub returns : goal.returns
returns g c =
    let job = c.args.work.job in
    let is = same_Some c.in-Some.filled (filled_of job) (sym c.in-Some.is ∙ c.requires.filled) in
    finished_job c.args.group.now c.step.new.self c.in-Some.filled c.in-Ok.field-0 job is c.in-Ok.ensures.went
