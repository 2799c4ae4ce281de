use Rattle.std.proofs.Common.{◌≡◌, ◌∙◌, ap, ap₂, codes, ◌||◌}
use Rattle.std.proofs.lemmas.Result.{IfOk-weaker}
use Rattle.clap.specs.Words.{App, app_of, new_app, with_rule}
use Rattle.pf_run_words.specs.Words.{dir_rule, group_rule}
use Rattle.pf_run_words.proofs.words.log_command.Goals as goal

pub returns-clause-shape : goal.returns-clause-shape
returns-clause-shape c =
    let dir_is : app_of c.in_ok-arg.field-0 ≡ with_rule (new_app (codes "log")) dir_rule =
    c.in_ok-arg.ensures.shape c.dir_option.ensures.global ∙ ap₂ with_rule c.new.ensures.app c.dir_option.ensures.rule in
    let group_is : app_of c.in_ok-arg-2.field-0 ≡ with_rule (with_rule (new_app (codes "log")) dir_rule) group_rule =
    c.in_ok-arg-2.ensures.shape c.group_place.ensures.global ∙ ap₂ with_rule dir_is c.group_place.ensures.rule in
    IfOk-weaker c.arg-3.result _ _ (λ made h. ap (λ (a : App). a.top) (h.shape c.server_place.ensures.global ∙ ap₂ with_rule group_is c.server_place.ensures.rule)) c.arg-3.ensures

pub returns-clause-local : goal.returns-clause-local
returns-clause-local c =
    let dir_local = c.in_ok-arg.ensures.globals ∙ ap₂ ◌||◌ c.new.ensures.local c.dir_option.ensures.global in
    let group_local = c.in_ok-arg-2.ensures.globals ∙ ap₂ ◌||◌ dir_local c.group_place.ensures.global in
    IfOk-weaker c.arg-3.result _ _ (λ made h. h.globals ∙ ap₂ ◌||◌ group_local c.server_place.ensures.global) c.arg-3.ensures
