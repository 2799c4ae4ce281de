use Rattle.std.proofs.Common.{◌≡◌, ◌∙◌, ap, ap₂, ℤ, [], ◌∷◌, Some, pos, codes, Option}
use Rattle.clap.specs.Words.{Rule, new_rule, rule_of}
use Rattle.std.specs.Int.{int_max, int_min}
use Rattle.clap.specs.Values.{signed_between}
use Rattle.clap.specs.declared.builder.value_parser.ValueParser.{ValueParser}
use Rattle.clap.specs.declared.builder.value_parser.ValueParser.TheVariants as parsers
use Rattle.pf_run_words.proofs.words.workers_option.Goals as goal

abbrev with_long : Rule
with_long = record (new_rule (codes "workers")) { long = Some (codes "workers") }

pub returns-clause-rule : goal.returns-clause-rule
returns-clause-rule c =
    let given = c.value_parser-2.ensures.given in
    let made : c.range.result ≡ parsers.Signed (pos 1) (pos 8) = (rw c.value_parser.ensures at c.range.ensures)
    ∙ ap₂ (λ (a b : ℤ). signed_between (int_max (pos 0) a) (int_min (pos 4294967295) b)) c.new-2.ensures.start c.new-2.ensures.end in
    let parser : c.value_parser-2.result.value_parser ≡ Some (parsers.Signed (pos 1) (pos 8)) = given.1 ∙ ap Some (given.2 ∙ made) in
    let long_is : rule_of c.long.result ≡ with_long = ap rule_of c.long.ensures ∙ ap (λ (r : Rule). record r { long = Some (codes "workers") }) c.new.ensures.rule in
    let default_is : rule_of c.default_value.result ≡ record with_long { defaults = codes "2" ∷ [] } =
    ap rule_of c.default_value.ensures ∙ ap (λ (r : Rule). record r { defaults = codes "2" ∷ [] }) long_is in
    ap rule_of c.value_parser-2.ensures.others ∙ ap₂ (λ (r : Rule) (p : Option ValueParser). record r { parser = p }) default_is parser
