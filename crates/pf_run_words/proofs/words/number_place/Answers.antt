use Rattle.std.proofs.Common.{◌≡◌, ◌∙◌, ap, ap₂, true, Some, codes, Option}
use Rattle.clap.specs.Words.{Rule, new_rule, rule_of}
use Rattle.clap.specs.declared.builder.value_parser.ValueParser.{ValueParser}
use Rattle.clap.specs.declared.builder.value_parser.ValueParser.TheVariants as parsers
use Rattle.pf_run_words.proofs.words.number_place.Goals as goal

pub returns-clause-rule : goal.returns-clause-rule
returns-clause-rule c =
    let given = c.value_parser-2.ensures.given in
    let parser : c.value_parser-2.result.value_parser ≡ Some (parsers.Unsigned 0 18446744073709551615) = given.1 ∙ ap Some (given.2 ∙ c.value_parser.ensures) in
    let required_is : rule_of c.required.result ≡ record (new_rule (codes "N")) { required = true } =
    ap rule_of c.required.ensures ∙ ap (λ (r : Rule). record r { required = true }) c.new.ensures.rule in
    ap rule_of c.value_parser-2.ensures.others ∙ ap₂ (λ (r : Rule) (p : Option ValueParser). record r { parser = p }) required_is parser
