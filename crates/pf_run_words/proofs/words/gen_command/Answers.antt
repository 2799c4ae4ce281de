use Rattle.std.proofs.Common.{◌≡◌, ◌∙◌, ap, ap₂, codes, ◌||◌}
use Rattle.std.proofs.lemmas.Result.{IfOk-weaker}
use Rattle.clap.specs.Words.{App, app_of, new_app, with_rule}
use Rattle.pf_run_words.specs.Words.{number_rule}
use Rattle.pf_run_words.proofs.words.gen_command.Goals as goal

pub returns-clause-shape : goal.returns-clause-shape
returns-clause-shape c =
    let first_is : app_of c.in_ok-arg.field-0 ≡ with_rule (new_app (codes "gen")) number_rule =
    c.in_ok-arg.ensures.shape c.number_place.ensures.global ∙ ap₂ with_rule c.new.ensures.app c.number_place.ensures.rule in
    IfOk-weaker c.arg-2.result _ _ (λ made h. ap (λ (a : App). a.top) (h.shape c.workers_option.ensures.global ∙ ap₂ with_rule first_is c.workers_option.ensures.rule)) c.arg-2.ensures

pub returns-clause-local : goal.returns-clause-local
returns-clause-local c =
    IfOk-weaker c.arg-2.result _ _ (λ made h. h.globals ∙ ap₂ ◌||◌ (c.in_ok-arg.ensures.globals ∙ ap₂ ◌||◌ c.new.ensures.local c.number_place.ensures.global) c.workers_option.ensures.global) c.arg-2.ensures
