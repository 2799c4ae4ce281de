use Rattle.std.proofs.Common.{◌≡◌, ◌∙◌, ap, ap₂}
use Rattle.std.proofs.lemmas.Result.{IfOk-weaker}
use Rattle.clap.specs.Words.{App, app_of, with_subcommand}
use Rattle.pf_run_words.specs.Words.{bare_program, check_shape, gen_shape, run_shape}
use Rattle.pf_run_words.proofs.words.command.Goals as goal

pub returns : goal.returns
returns c =
    let one_is : app_of c.in_ok-subcommand.field-0 ≡ with_subcommand bare_program run_shape =
    c.in_ok-subcommand.ensures.shape c.in_ok-run_command.ensures.local ∙ ap₂ with_subcommand c.bare_command.ensures c.in_ok-run_command.ensures.shape in
    let two_is : app_of c.in_ok-subcommand-2.field-0 ≡ with_subcommand (with_subcommand bare_program run_shape) gen_shape =
    c.in_ok-subcommand-2.ensures.shape c.in_ok-gen_command.ensures.local ∙ ap₂ with_subcommand one_is c.in_ok-gen_command.ensures.shape in
    let three_is : app_of c.in_ok-subcommand-3.field-0 ≡ with_subcommand (with_subcommand (with_subcommand bare_program run_shape) gen_shape) check_shape =
    c.in_ok-subcommand-3.ensures.shape c.new.ensures.local ∙ ap₂ with_subcommand two_is (ap (λ (a : App). a.top) c.new.ensures.app) in
    IfOk-weaker c.subcommand-4.result _ _ (λ made h. h.shape c.in_ok-log_command.ensures.local ∙ ap₂ with_subcommand three_is c.in_ok-log_command.ensures.shape) c.subcommand-4.ensures
