use Rattle.std.proofs.Common.{◌≡◌, ◌∙◌, ap, sym, true, true≢false, map, string_bytes}
use Rattle.clap.specs.Simple.{App, is_simple, subcommand_of}
use Rattle.clap.specs.Faults.{fault_of, is_simple_and_free}
use Rattle.clap.specs.Takes.{takes}
use Rattle.pf_run_words.specs.Words.{command}
use Rattle.pf_run_words.proofs.WordLaws.{accepted, command_is_simple, unaccepted}
use Rattle.pf_run_words.proofs.words.parsed.Goals as goal

pub returns-in-Ok : goal.returns-in-Ok
returns-in-Ok c =
    let words = map string_bytes c.args.words.now in
    let made = c.in_ok-command.ensures in
    let good = accepted words (sym (ap (λ (a : App). fault_of a words) made) ∙ c.in-Ok.ensures.kinds (ap is_simple_and_free made ∙ command_is_simple)) in
    (good, (c.in-Ok.ensures.matches (ap is_simple made)).1 ∙ ap (λ (a : App). subcommand_of a words) made)

pub returns : goal.returns
returns c =
    let words = map string_bytes c.args.words.now in
    let made = c.in_ok-command.ensures in
    let never : takes command words ≡ true → ⊥ = λ t.
    let kind = c.kind.ensures ∙ c.in-Err.ensures.passes (ap (λ (a : App). takes a words) made ∙ t) in
    let same : c.eq.result ≡ true = rw kind at c.eq.ensures in
    true≢false (sym same ∙ c.if-eq.false) in
    unaccepted words never
