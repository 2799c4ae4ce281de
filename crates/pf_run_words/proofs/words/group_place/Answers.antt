use Rattle.std.proofs.Common.{◌≡◌, ◌∙◌, ap, ap₂, ℤ, true, Some, pos, codes, Option}
use Rattle.std.specs.Int.{int_max, int_min}
use Rattle.clap.specs.Values.{signed_between}
use Rattle.clap.specs.Words.{Rule, new_rule, rule_of}
use Rattle.clap.specs.declared.builder.value_parser.ValueParser.{ValueParser}
use Rattle.clap.specs.declared.builder.value_parser.ValueParser.TheVariants as parsers
use Rattle.pf_run_words.proofs.words.group_place.Goals as goal

pub returns-clause-rule : goal.returns-clause-rule
returns-clause-rule c =
    let given = c.value_parser-2.ensures.given in
    let made : c.range.result ≡ parsers.Signed (pos 0) (pos 7) = (rw c.value_parser.ensures at c.range.ensures)
    ∙ ap₂ (λ (a b : ℤ). signed_between (int_max (pos 0) a) (int_min (pos 255) b)) c.new-2.ensures.start c.new-2.ensures.end in
    let parser : c.value_parser-2.result.value_parser ≡ Some (parsers.Signed (pos 0) (pos 7)) = given.1 ∙ ap Some (given.2 ∙ made) in
    let required_is : rule_of c.required.result ≡ record (new_rule (codes "G")) { required = true } =
    ap rule_of c.required.ensures ∙ ap (λ (r : Rule). record r { required = true }) c.new.ensures.rule in
    ap rule_of c.value_parser-2.ensures.others ∙ ap₂ (λ (r : Rule) (p : Option ValueParser). record r { parser = p }) required_is parser
