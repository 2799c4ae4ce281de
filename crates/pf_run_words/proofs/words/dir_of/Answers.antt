use Rattle.std.proofs.Common.{◌∙◌, ap, sym, subst, map, string_bytes, codes, Some}
use Rattle.std.specs.Prelude.{option_and_then, option_map}
use Rattle.clap.specs.Matches.{found_of}
use Rattle.clap.specs.Walk.{first_of, rows_of}
use Rattle.clap.proofs.WalkLemmas.{first_value-rows}
use Rattle.pf_run_words.specs.Tasks.{HasParsed}
use Rattle.pf_run_words.proofs.WordLaws.{dir_none, dir_read}
use Rattle.pf_run_words.proofs.words.dir_of.Goals as goal

pub returns-in_default : goal.returns-in_default
returns-in_default c = let words = map string_bytes c.args.words.now in sym (dir_none words (subst (HasParsed words) c.in_default.is c.in_ok-found.ensures))

pub returns-in_default-subcommand : goal.returns-in_default-subcommand
returns-in_default-subcommand c =
    let words = map string_bytes c.args.words.now in
    let rows = option_map (λ p. rows_of (found_of p.1.now)) c.subcommand.result in
    let all = dir_read words c.in-Some.matches rows (subst (HasParsed words) c.in-Some.is c.in_ok-found.ensures) c.subcommand.ensures.rows in
    ap (λ met. option_and_then (first_of (codes "dir")) (option_map (λ p. rows_of (found_of p.1.now)) met)) (sym c.in_default-subcommand.is) ∙ all

pub returns-in-Some-get_str : goal.returns-in-Some-get_str
returns-in-Some-get_str c =
    let words = map string_bytes c.args.words.now in
    let rows = option_map (λ p. rows_of (found_of p.1.now)) c.subcommand.result in
    let all = dir_read words c.in-Some.matches rows (subst (HasParsed words) c.in-Some.is c.in_ok-found.ensures) c.subcommand.ensures.rows in
    let met = ap (λ met. option_and_then (first_of (codes "dir")) (option_map (λ p. rows_of (found_of p.1.now)) met)) (sym c.in-Some-subcommand.is) ∙ all in
    ap Some c.in_ok-folder-in-Some-get_str.ensures.ok ∙ ap (option_map (λ s. s.now)) (sym c.in-Some-get_str.is) ∙ c.get_str.ensures ∙ first_value-rows (found_of c.in-Some-subcommand.met.1.now) (codes "dir") ∙ met

pub returns : goal.returns
returns c =
    let words = map string_bytes c.args.words.now in
    let rows = option_map (λ p. rows_of (found_of p.1.now)) c.subcommand.result in
    let all = dir_read words c.in-Some.matches rows (subst (HasParsed words) c.in-Some.is c.in_ok-found.ensures) c.subcommand.ensures.rows in
    let met = ap (λ met. option_and_then (first_of (codes "dir")) (option_map (λ p. rows_of (found_of p.1.now)) met)) (sym c.in-Some-subcommand.is) ∙ all in
    ap (option_map (λ s. s.now)) (sym c.in-None.is) ∙ c.get_str.ensures ∙ first_value-rows (found_of c.in-Some-subcommand.met.1.now) (codes "dir") ∙ met
