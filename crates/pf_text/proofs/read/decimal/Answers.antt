use Rattle.std.proofs.Common.{◌≡◌, ◌<◌, length, sym, ◌∙◌, arith}
use Rattle.std.proofs.lemmas.Bool.Decides.{nat_tests}
use Rattle.pf_text.proofs.Decimals.{no_word, no_digit, too_large, read_all}
use Rattle.pf_text.proofs.read.decimal.Goals as goal

pub returns-then-is_empty : goal.returns-then-is_empty
returns-then-is_empty c = sym (no_word c.args.word.now (grind (arith, nat_tests, c.if-is_empty.true, c.is_empty.ensures)))

pub returns-then-not-is_ascii_digit : goal.returns-then-not-is_ascii_digit
returns-then-not-is_ascii_digit c =
    let some : 0 < length c.loop-rest.rest.now = omega (arith, c.in-len1-up.len_at_least) in
    sym (no_digit c.args.word.now c.loop-rest.rest.now c.loop-rest.value c.loop-rest.invariant.read some (sym c.is_ascii_digit.ensures.value ∙ c.if-not-is_ascii_digit.true))

pub returns-in_default-with_digit : goal.returns-in_default-with_digit
returns-in_default-with_digit c =
    let some : 0 < length c.loop-rest.rest.now = omega (arith, c.in-len1-up.len_at_least) in
    sym (too_large c.args.word.now c.loop-rest.rest.now c.loop-rest.value c.loop-rest.invariant.read some (sym c.is_ascii_digit.ensures.value ∙ c.if-not-is_ascii_digit.false) c.in_default-with_digit.ensures.value)

pub returns : goal.returns
returns c =
    let none : length c.loop-rest.rest.now ≡ 0 = omega (arith, c.in_default.len_below) in
    let some : 0 < length c.args.word.now = grind (arith, nat_tests, c.if-is_empty.false, c.is_empty.ensures) in
    sym (read_all c.args.word.now c.loop-rest.rest.now c.loop-rest.value c.loop-rest.invariant.read none some c.loop-rest.invariant.fits)
