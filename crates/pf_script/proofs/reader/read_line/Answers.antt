use Rattle.std.proofs.Common.{◌≡◌, ℕ, Bool, true, false, cond, nat_lt, List, length, Option, Some, None, Result, Ok, Err, ap, sym, subst, ◌∙◌, arith}
use Rattle.std.proofs.lemmas.Bool.Decides.{nat_tests}
use Rattle.pf_text.specs.Words.{words_of, trimmed}
use Rattle.pf_script.specs.declared.command.LineFault.{LineFault}
use Rattle.pf_script.specs.declared.command.LineFault.TheVariants.{LineTooLong}
use Rattle.pf_script.specs.declared.form.Form.{Form}
use Rattle.pf_script.specs.declared.named.NamedVolume.{NamedVolume}
use Rattle.pf_script.specs.Forms.{form_of, ◌>>=◌}
use Rattle.pf_script.specs.LineForms.{form_in, said_by}
use Rattle.pf_script.specs.Lines.{LineGives, command_of, is_silent, said_by_line}
use Rattle.pf_script.proofs.reader.read_line.Goals as goal

of_form : (volume : Option NamedVolume) (silent : Bool) (read : Result Form LineFault) (form : Form) → cond silent None (Some read) ≡ Some (Ok form) → said_by volume form ≡ cond silent (Ok None) (read >>= said_by volume)
of_form volume true read form is = absurd (cc)
of_form volume false (Ok found) form is = let same : form ≡ found = cc in ap (said_by volume) same
of_form volume false (Err fault) form is = absurd (cc)

-- a short line says what its form does
of_line : (volume : Option NamedVolume) (line : List ℕ) (form : Form) → nat_lt 1024 (length line) ≡ false → form_in (words_of (trimmed line)) ≡ Some (Ok form) → said_by volume form ≡ said_by_line volume line
of_line volume line form short is =
    let words = words_of (trimmed line) in
    of_form volume (is_silent words) (form_of words) form is ∙ sym (ap (λ long. cond long (Err LineTooLong) (command_of volume words)) short)

pub returns : goal.returns
returns c =
    let line = c.args.line.now in
    let short : nat_lt 1024 (length line) ≡ false = grind (arith, nat_tests, c.if-line-gt-LINE_BYTES.false) in
    let is : form_in (words_of (trimmed line)) ≡ Some (Ok c.in_ok-form.field-0) = sym c.in-Some.ensures ∙ ap Some c.in_ok-form.was in
    subst (λ said. LineGives said c.placed_line.result) (of_line c.args.volume line c.in_ok-form.field-0 short is) c.placed_line.ensures
