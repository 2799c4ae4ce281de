use Rattle.std.proofs.Common.{◌≡◌, ◌∙◌, arith, Some, None, cond, false, map, take, ap, sym}
use Rattle.pf_text.specs.Words.{words_of, trimmed}
use Rattle.pf_script.specs.Forms.{form_of}
use Rattle.pf_script.specs.Lines.{is_silent}
use Rattle.pf_script.proofs.Counts.{in_first}
use Rattle.pf_script.proofs.reader.form_in.Goals as goal

pub returns-then-silent : goal.returns-then-silent
returns-then-silent c =
    let words = map (λ word. word.now) c.as_slice.result.now in
    let first : words ≡ take 8 (words_of (trimmed c.args.line.now)) = grind (arith, c.as_slice.ensures.value, c.first_words-words.ensures, c.trim.ensures) in
    sym (ap (λ b. cond b None (Some (form_of words))) (sym c.silent.ensures ∙ c.if-silent.true)) ∙ in_first (trimmed c.args.line.now) words first

pub returns : goal.returns
returns c =
    let words = map (λ word. word.now) c.as_slice-2.result.now in
    let first : words ≡ take 8 (words_of (trimmed c.args.line.now)) = grind (arith, c.as_slice-2.ensures.value, c.first_words-words.ensures, c.trim.ensures) in
    let other : is_silent words ≡ false = grind (arith, c.as_slice.ensures.value, c.as_slice-2.ensures.value, c.silent.ensures, c.if-silent.false) in
    ap Some c.read_form.ensures ∙ sym (ap (λ b. cond b None (Some (form_of words))) other) ∙ in_first (trimmed c.args.line.now) words first
