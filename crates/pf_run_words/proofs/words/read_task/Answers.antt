use Rattle.std.proofs.Common.{◌∙◌, ◌≤◌, ap, ap₂, sym, subst, refl, map, string_bytes, Some}
use Rattle.std.proofs.lemmas.Option.{same_Some}
use Rattle.std.specs.Str.Parse.{ParsesUnsigned, ExplainsUnsignedError, HasUnsignedDigitsIfOk}
use Rattle.clap.specs.Matches.{found_of}
use Rattle.pf_run_words.specs.Tasks.{HasParsed}
use Rattle.pf_run_words.specs.declared.words.Task.TheVariants as tasks
use Rattle.pf_run_words.proofs.WordLaws.{check_read, gen_read, has_one, log_read, means_none, run_read}
use Rattle.pf_run_words.proofs.words.read_task.Goals as goal
use Rattle.pf_run_words.proofs.words.read_task.Goals.{in_default-2-via-in-Some+in_default, in_default-2-via-in_default, in_default-3-via-in-Some+in_default, in_default-3-via-in_default}

pub returns-in_default-clause-told : goal.returns-in_default-clause-told
returns-in_default-clause-told c = let words = map string_bytes c.args.words.now in means_none words (subst (HasParsed words) c.in_default.is c.in_ok-found.ensures)

pub returns-in-Some-subcommand_matches-clause-told : goal.returns-in-Some-subcommand_matches-clause-told
returns-in-Some-subcommand_matches-clause-told c =
    let words = map string_bytes c.args.words.now in
    let (good, is) = subst (HasParsed words) c.in-Some.is c.in_ok-found.ensures in
    let read = run_read (λ bs r. ParsesUnsigned 32 10 bs r × ExplainsUnsignedError 10 bs r × HasUnsignedDigitsIfOk bs r) (λ u x g. g.0) words c.in-Some.matches (found_of c.in-Some-subcommand_matches.met.now) good is c.in-Some-subcommand_matches.ensures.rows c.get_one.result (c.in-Some-subcommand_matches.ensures.found.0 refl) c.get_one.ensures.value in
    ap (λ k. Some (tasks.Run k)) (same_Some c.in-Some-get_one.workers read.0 (sym c.in-Some-get_one.is ∙ read.1)) ∙ read.2

pub returns-in-Some-subcommand_matches-clause-bound : goal.returns-in-Some-subcommand_matches-clause-bound
returns-in-Some-subcommand_matches-clause-bound c =
    let words = map string_bytes c.args.words.now in
    let (good, is) = subst (HasParsed words) c.in-Some.is c.in_ok-found.ensures in
    let read = run_read (λ bs r. ParsesUnsigned 32 10 bs r × ExplainsUnsignedError 10 bs r × HasUnsignedDigitsIfOk bs r) (λ u x g. g.0) words c.in-Some.matches (found_of c.in-Some-subcommand_matches.met.now) good is c.in-Some-subcommand_matches.ensures.rows c.get_one.result (c.in-Some-subcommand_matches.ensures.found.0 refl) c.get_one.ensures.value in
    subst (λ k. (1 ≤ k) × (k ≤ 8)) (same_Some read.0 c.in-Some-get_one.workers (sym read.1 ∙ c.in-Some-get_one.is)) (read.3, read.4)

pub returns-in_default-get_one-clause-told : goal.returns-in_default-get_one-clause-told
returns-in_default-get_one-clause-told c =
    let words = map string_bytes c.args.words.now in
    let (good, is) = subst (HasParsed words) c.in-Some.is c.in_ok-found.ensures in
    let read = run_read (λ bs r. ParsesUnsigned 32 10 bs r × ExplainsUnsignedError 10 bs r × HasUnsignedDigitsIfOk bs r) (λ u x g. g.0) words c.in-Some.matches (found_of c.in-Some-subcommand_matches.met.now) good is c.in-Some-subcommand_matches.ensures.rows c.get_one.result (c.in-Some-subcommand_matches.ensures.found.0 refl) c.get_one.ensures.value in
    let some = sym c.in_default-get_one.is ∙ read.1 in
    absurd (cc)

pub returns-in-Some-subcommand_matches-2-clause-told : goal.returns-in-Some-subcommand_matches-2-clause-told
returns-in-Some-subcommand_matches-2-clause-told c =
    let words = map string_bytes c.args.words.now in
    let (good, is) = subst (HasParsed words) c.in-Some.is c.in_ok-found.ensures in
    let met = c.in-Some-subcommand_matches-2 in
    let read = gen_read (λ bs r. ParsesUnsigned 32 10 bs r × ExplainsUnsignedError 10 bs r × HasUnsignedDigitsIfOk bs r) (λ u x g. g.0) words c.in-Some.matches (found_of met.met.now) good is met.ensures.rows (λ bs r. ParsesUnsigned 64 10 bs r × ExplainsUnsignedError 10 bs r × HasUnsignedDigitsIfOk bs r) (λ u x g. g.0) c.get_one-in-Some-subcommand_matches-2.result c.get_one-in-Some-subcommand_matches-2-2.result (met.ensures.found.0 refl) c.get_one-in-Some-subcommand_matches-2.ensures.value c.get_one-in-Some-subcommand_matches-2-2.ensures.value in
    let both = c.in-Some-Some in
    ap₂ (λ k n. Some (tasks.Gen k n)) (same_Some both.number read.0 (sym both.is-0 ∙ read.2)) (same_Some both.workers read.1 (sym both.is-1 ∙ read.3)) ∙ read.4

pub returns-in-Some-subcommand_matches-2-clause-bound : goal.returns-in-Some-subcommand_matches-2-clause-bound
returns-in-Some-subcommand_matches-2-clause-bound c =
    let words = map string_bytes c.args.words.now in
    let (good, is) = subst (HasParsed words) c.in-Some.is c.in_ok-found.ensures in
    let met = c.in-Some-subcommand_matches-2 in
    let read = gen_read (λ bs r. ParsesUnsigned 32 10 bs r × ExplainsUnsignedError 10 bs r × HasUnsignedDigitsIfOk bs r) (λ u x g. g.0) words c.in-Some.matches (found_of met.met.now) good is met.ensures.rows (λ bs r. ParsesUnsigned 64 10 bs r × ExplainsUnsignedError 10 bs r × HasUnsignedDigitsIfOk bs r) (λ u x g. g.0) c.get_one-in-Some-subcommand_matches-2.result c.get_one-in-Some-subcommand_matches-2-2.result (met.ensures.found.0 refl) c.get_one-in-Some-subcommand_matches-2.ensures.value c.get_one-in-Some-subcommand_matches-2-2.ensures.value in
    let both = c.in-Some-Some in
    subst (λ k. (1 ≤ k) × (k ≤ 8)) (same_Some read.1 both.workers (sym read.3 ∙ both.is-1)) (read.5, read.6)

pub returns-in_default-2-clause-told : goal.returns-in_default-2-clause-told
returns-in_default-2-clause-told c =
    let words = map string_bytes c.args.words.now in
    let (good, is) = subst (HasParsed words) c.in-Some.is c.in_ok-found.ensures in
    let met = c.in-Some-subcommand_matches-2 in
    let read = gen_read (λ bs r. ParsesUnsigned 32 10 bs r × ExplainsUnsignedError 10 bs r × HasUnsignedDigitsIfOk bs r) (λ u x g. g.0) words c.in-Some.matches (found_of met.met.now) good is met.ensures.rows (λ bs r. ParsesUnsigned 64 10 bs r × ExplainsUnsignedError 10 bs r × HasUnsignedDigitsIfOk bs r) (λ u x g. g.0) c.get_one-in-Some-subcommand_matches-2.result c.get_one-in-Some-subcommand_matches-2-2.result (met.ensures.found.0 refl) c.get_one-in-Some-subcommand_matches-2.ensures.value c.get_one-in-Some-subcommand_matches-2-2.ensures.value in
    elim c.in_default-2.branch [
      | in_default-2-via-in-Some+in_default w ↦ let some = sym w.in_default-2.is-1 ∙ read.3 in absurd (cc)
      | in_default-2-via-in_default w ↦ let some = sym w.in_default-2.is-0 ∙ read.2 in absurd (cc)
    ]

pub returns-in-Some-subcommand_matches-3-clause-told : goal.returns-in-Some-subcommand_matches-3-clause-told
returns-in-Some-subcommand_matches-3-clause-told c =
    let words = map string_bytes c.args.words.now in
    let (good, is) = subst (HasParsed words) c.in-Some.is c.in_ok-found.ensures in
    let met = c.in-Some-subcommand_matches-3 in
    let read = log_read (λ bs r. ParsesUnsigned 8 10 bs r × ExplainsUnsignedError 10 bs r × HasUnsignedDigitsIfOk bs r) (λ u x g. g.0) words c.in-Some.matches (found_of met.met.now) good is met.ensures.rows c.get_one-in-Some-subcommand_matches-3.result c.get_one-in-Some-subcommand_matches-3-2.result (met.ensures.found.0 refl) c.get_one-in-Some-subcommand_matches-3.ensures.value c.get_one-in-Some-subcommand_matches-3-2.ensures.value in
    let both = c.in-Some-Some-2 in
    ap₂ (λ k n. Some (tasks.Log k n)) (same_Some both.group read.0 (sym both.is-0 ∙ read.2)) (same_Some both.server read.1 (sym both.is-1 ∙ read.3)) ∙ read.4

pub returns-in-Some-subcommand_matches-3-clause-bound : goal.returns-in-Some-subcommand_matches-3-clause-bound
returns-in-Some-subcommand_matches-3-clause-bound c =
    let words = map string_bytes c.args.words.now in
    let (good, is) = subst (HasParsed words) c.in-Some.is c.in_ok-found.ensures in
    let met = c.in-Some-subcommand_matches-3 in
    let read = log_read (λ bs r. ParsesUnsigned 8 10 bs r × ExplainsUnsignedError 10 bs r × HasUnsignedDigitsIfOk bs r) (λ u x g. g.0) words c.in-Some.matches (found_of met.met.now) good is met.ensures.rows c.get_one-in-Some-subcommand_matches-3.result c.get_one-in-Some-subcommand_matches-3-2.result (met.ensures.found.0 refl) c.get_one-in-Some-subcommand_matches-3.ensures.value c.get_one-in-Some-subcommand_matches-3-2.ensures.value in
    let both = c.in-Some-Some-2 in (
      subst (λ k. k ≤ 7) (same_Some read.0 both.group (sym read.2 ∙ both.is-0)) read.5,
      subst (λ k. k ≤ 2) (same_Some read.1 both.server (sym read.3 ∙ both.is-1)) read.6,
    )

pub returns-in_default-3-clause-told : goal.returns-in_default-3-clause-told
returns-in_default-3-clause-told c =
    let words = map string_bytes c.args.words.now in
    let (good, is) = subst (HasParsed words) c.in-Some.is c.in_ok-found.ensures in
    let met = c.in-Some-subcommand_matches-3 in
    let read = log_read (λ bs r. ParsesUnsigned 8 10 bs r × ExplainsUnsignedError 10 bs r × HasUnsignedDigitsIfOk bs r) (λ u x g. g.0) words c.in-Some.matches (found_of met.met.now) good is met.ensures.rows c.get_one-in-Some-subcommand_matches-3.result c.get_one-in-Some-subcommand_matches-3-2.result (met.ensures.found.0 refl) c.get_one-in-Some-subcommand_matches-3.ensures.value c.get_one-in-Some-subcommand_matches-3-2.ensures.value in
    elim c.in_default-3.branch [
      | in_default-3-via-in-Some+in_default w ↦ let some = sym w.in_default-3.is-1 ∙ read.3 in absurd (cc)
      | in_default-3-via-in_default w ↦ let some = sym w.in_default-3.is-0 ∙ read.2 in absurd (cc)
    ]

pub returns-in-Some-subcommand_matches-4-clause-told : goal.returns-in-Some-subcommand_matches-4-clause-told
returns-in-Some-subcommand_matches-4-clause-told c =
    let words = map string_bytes c.args.words.now in
    let (good, is) = subst (HasParsed words) c.in-Some.is c.in_ok-found.ensures in
    check_read words c.in-Some.matches good is (c.in-Some-subcommand_matches-4.ensures.found.0 refl)

pub returns-clause-told : goal.returns-clause-told
returns-clause-told c =
    let words = map string_bytes c.args.words.now in
    let (good, is) = subst (HasParsed words) c.in-Some.is c.in_ok-found.ensures in
    absurd (has_one words c.in-Some.matches good is (λ name. let some = c.in_default-subcommand_matches.ensures.found.1 name in absurd (cc)) (λ name. let some = c.in_default-subcommand_matches-2.ensures.found.1 name in absurd (cc)) (λ name. let some = c.in-None.ensures.found.1 name in absurd (cc)) (λ name. let some = c.in_default-subcommand_matches-3.ensures.found.1 name in absurd (cc)))
