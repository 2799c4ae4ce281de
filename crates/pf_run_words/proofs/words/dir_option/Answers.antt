use Rattle.std.proofs.Common.{◌∙◌, ap, Some, codes}
use Rattle.clap.specs.Words.{Rule, rule_of}
use Rattle.pf_run_words.proofs.words.dir_option.Goals as goal

pub returns-clause-rule : goal.returns-clause-rule
returns-clause-rule c = ap rule_of c.long.ensures ∙ ap (λ (r : Rule). record r { long = Some (codes "dir") }) c.new.ensures.rule
