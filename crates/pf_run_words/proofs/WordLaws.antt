-- What the words of the command line say.
use Rattle.std.proofs.Common.{◌≡◌, ℕ, zero, suc, ◌+◌, ◌^◌, ◌≤◌, ◌<◌, pos, Bool, true, false, ◌&&◌, cond, List, [], ◌∷◌, Option, Some, None, is_some, option_map, Result, Ok, Err, refl, sym, ap, ◌∙◌, arith, true≢false, codes}
use Rattle.std.specs.Prelude.{Box, if◌then◌else◌, option_and_then}
use Rattle.std.specs.Box.{box_value}
use Rattle.std.specs.Option.{option_map_or}
use Rattle.std.specs.Str.{bytes_eq}
use Rattle.std.specs.Str.Parse.{ParsesUnsigned, digits_value, without_leading_plus}
use Rattle.clap.specs.Lexer.{without_minus}
use Rattle.clap.specs.Matches.{ReadsOne, one_text, subcommand_name_of}
use Rattle.clap.specs.Walk.{Row, Rule, Text, answers_to, first_of, nothing_held, one_of, rows_after, rows_of, settled, stop_after, walk, with_default}
use Rattle.clap.specs.Simple.{Shape, built, entered, filled, names_of, rows_at, subcommand_of, subcommand_rows, subcommand_rows_of, with_index, is_simple}
use Rattle.clap.specs.Takes.{entered_passes, is_given, level_passes, takes}
use Rattle.clap.specs.ValueTests.{accepts as fits}
use Rattle.clap.specs.Faults.{fault_of, is_simple_and_free}
use Rattle.clap.proofs.OnLiterals.{clap_on_literals}
use Rattle.clap.proofs.CallerReads.{signed_reads}
use Rattle.clap.proofs.ValueTestLemmas.{accepts-Accepts}
use Rattle.clap.proofs.WalkLemmas.{both, one_text-rows}
use Rattle.clap.specs.declared.builder.value_parser.ValueParser.TheVariants as parsers
use Rattle.clap.specs.declared.parser.matches.ArgMatches.{ArgMatches}
use Rattle.clap.specs.declared.parser.matches.ArgMatches.TheViews.{out-ArgMatches, out-SubCommand}
use Rattle.clap.specs.declared.parser.matches.Found.{Found}
use Rattle.clap.specs.declared.parser.matches.SubCommand.{SubCommand}
use Rattle.pf_run_words.specs.declared.words.Task.{Task}
use Rattle.pf_run_words.specs.declared.words.Task.TheVariants as tasks
use Rattle.pf_entry.proofs.Cases.{by_test}
use Rattle.pf_entry.specs.Lists.{Every}
use Rattle.pf_run_words.specs.Words.{command, dir_rule, group_rule, is_accepted, number_rule, server_rule, workers_rule}
use Rattle.pf_run_words.specs.Tasks.{HasParsed, dir_at, dir_of, number_given, task_at, task_of}
use Rattle.pf_run_words.proofs.Faultless.{taken}
use Rattle.pf_run_words.proofs.Rows.{HasOne, IsSet, defaulted, given_row, leaf, level_fit, one_fits}

pub command_is_simple : is_simple_and_free command ≡ true
command_is_simple = refl

-- words without a fault are accepted
pub accepted : (words : List Text) → fault_of command words ≡ [] → is_accepted words ≡ true
unfolding is_accepted
accepted words none = taken command words refl refl refl none

-- ---- the subcommands

abbrev pub dir_here : Rule
dir_here = filled dir_rule

abbrev pub workers_here : Rule
workers_here = filled workers_rule

abbrev pub number_here : Rule
number_here = with_index 1 (filled number_rule)

abbrev pub run_rules : List Rule
run_rules = dir_here ∷ workers_here ∷ []

abbrev pub gen_rules : List Rule
gen_rules = number_here ∷ workers_here ∷ []

abbrev pub group_here : Rule
group_here = with_index 1 (filled group_rule)

abbrev pub server_here : Rule
server_here = with_index 2 (filled server_rule)

abbrev pub log_rules : List Rule
log_rules = dir_here ∷ group_here ∷ server_here ∷ []

run_set : Every (IsSet run_rules) run_rules
run_set = (record { found = refl; action = refl; least = refl; most = refl; defaults = omega arith }, (record { found = refl; action = refl; least = refl; most = refl; defaults = omega arith }, tt))

gen_set : Every (IsSet gen_rules) gen_rules
gen_set = (record { found = refl; action = refl; least = refl; most = refl; defaults = omega arith }, (record { found = refl; action = refl; least = refl; most = refl; defaults = omega arith }, tt))

log_set : Every (IsSet log_rules) log_rules
log_set = (record { found = refl; action = refl; least = refl; most = refl; defaults = omega arith }, (record { found = refl; action = refl; least = refl; most = refl; defaults = omega arith }, (record { found = refl; action = refl; least = refl; most = refl; defaults = omega arith }, tt)))

-- `run` was met
pub record IsRun (met : Option (Text × List Row)) : Type 0 where
  pub rows : List Row
  pub met_is : met ≡ Some (codes "run", rows)
  pub workers : HasOne rows workers_here

-- `gen` was met
pub record IsGen (met : Option (Text × List Row)) : Type 0 where
  pub rows : List Row
  pub met_is : met ≡ Some (codes "gen", rows)
  pub number : HasOne rows number_here
  pub workers : HasOne rows workers_here

-- `check` was met
pub record IsCheck (met : Option (Text × List Row)) : Type 0 where
  pub rows : List Row
  pub met_is : met ≡ Some (codes "check", rows)

-- `log` was met
pub record IsLog (met : Option (Text × List Row)) : Type 0 where
  pub rows : List Row
  pub met_is : met ≡ Some (codes "log", rows)
  pub group : HasOne rows group_here
  pub server : HasOne rows server_here

-- one of the subcommands was met
pub data IsMet (met : Option (Text × List Row)) : Type 0 where
  AsRun : IsRun met → IsMet met
  AsGen : IsGen met → IsMet met
  AsCheck : IsCheck met → IsMet met
  AsLog : IsLog met → IsMet met

run_good : (words : List Text) → level_passes (leaf (codes "run") run_rules) [] nothing_held words false ≡ true → HasOne (rows_after run_rules [] words) workers_here
run_good words e =
    let fit = level_fit (codes "run") run_rules run_set words e in
    one_fits run_rules workers_here (rows_after run_rules [] words) run_set.1.0 fit.0 (defaulted workers_here (codes "2") (with_default (settled run_rules (walk run_rules [] nothing_held words).held).rows dir_here) refl)

gen_good : (words : List Text) → level_passes (leaf (codes "gen") gen_rules) [] nothing_held words false ≡ true → HasOne (rows_after gen_rules [] words) number_here × HasOne (rows_after gen_rules [] words) workers_here
gen_good words e =
    let rows = rows_after gen_rules [] words in
    let fit = level_fit (codes "gen") gen_rules gen_set words e in
    let given : is_given (codes "N") rows ≡ true = (both (is_given (codes "N") rows) true fit.1).0 in (
      one_fits gen_rules number_here rows gen_set.0 fit.0 (given_row (codes "N") rows given),
      one_fits gen_rules workers_here rows gen_set.1.0 fit.0 (defaulted workers_here (codes "2") (with_default (settled gen_rules (walk gen_rules [] nothing_held words).held).rows number_here) refl),
    )

log_good : (words : List Text) → level_passes (leaf (codes "log") log_rules) [] nothing_held words false ≡ true → HasOne (rows_after log_rules [] words) group_here × HasOne (rows_after log_rules [] words) server_here
log_good words e =
    let rows = rows_after log_rules [] words in
    let fit = level_fit (codes "log") log_rules log_set words e in
    let given = both (is_given (codes "G") rows) (is_given (codes "I") rows && true) fit.1 in
    let given_server : is_given (codes "I") rows ≡ true = (both (is_given (codes "I") rows) true given.1).0 in (
      one_fits log_rules group_here rows log_set.1.0 fit.0 (given_row (codes "G") rows given.0),
      one_fits log_rules server_here rows log_set.1.1.0 fit.0 (given_row (codes "I") rows given_server),
    )

abbrev pub met_of : Option Shape → List Text → Option (Text × List Row)
met_of found words = option_map (λ s. rows_at s words) found

abbrev pub passes_at : Option Shape → List Text → Bool
passes_at found words = option_map_or (λ s. level_passes s [] nothing_held words false) found true

abbrev pub called : (run gen check log : Bool) → Option Shape
called run gen check log =
    cond run (Some (leaf (codes "run") run_rules)) (cond gen (Some (leaf (codes "gen") gen_rules)) (cond check (Some (leaf (codes "check") [])) (cond log (Some (leaf (codes "log") log_rules)) None)))

by_name : (b c d l : Bool) (words : List Text) → is_some (met_of (called b c d l) words) ≡ true → passes_at (called b c d l) words ≡ true → IsMet (met_of (called b c d l) words)
by_name true c d l words some e = AsRun (record { rows = rows_after run_rules [] words; met_is = refl; workers = run_good words e })
by_name false true d l words some e = AsGen (record { rows = rows_after gen_rules [] words; met_is = refl; number = (gen_good words e).0; workers = (gen_good words e).1 })
by_name false false true l words some e = AsCheck (record { rows = rows_after [] [] words; met_is = refl })
by_name false false false true words some e = AsLog (record { rows = rows_after log_rules [] words; met_is = refl; group = (log_good words e).0; server = (log_good words e).1 })
by_name false false false false words some e = absurd (true≢false (sym some))

entered_good : (stop : Option (Text × List Text)) → is_some (entered (built command) stop) ≡ true → entered_passes (built command) stop ≡ true → IsMet (entered (built command) stop)
entered_good None some e = absurd (true≢false (sym some))
entered_good (Some p) some e = by_name (answers_to p.0 (codes "run", [])) (answers_to p.0 (codes "gen", [])) (answers_to p.0 (codes "check", [])) (answers_to p.0 (codes "log", [])) p.1 some e

pub third : (a b c d : Bool) → (a && (b && (c && d))) ≡ true → c ≡ true
third a b c d e = (both c d (both b (c && d) (both a (b && (c && d)) e).1).1).0

met_good : (words : List Text) → takes command words ≡ true → IsMet (subcommand_of command words)
met_good words e =
    let b = built command in
    let stop = stop_after b.top.rules (names_of b) words in
    let parts = both (entered_passes b stop) (level_passes b.top (names_of b) nothing_held words (is_some (entered b stop))) (both (is_simple command) _ e).1 in
    let met = third _ _ (is_some (entered b stop)) _ parts.1 in
    entered_good stop met parts.0

-- words that are accepted have one of these, since a subcommand is required
pub met_of_words : (words : List Text) → is_accepted words ≡ true → IsMet (subcommand_of command words)
unfolding is_accepted
met_of_words words e = met_good words e

-- ---- what they mean

abbrev number : Text → ℕ
number text = digits_value 10 (without_leading_plus text)

pub accepted_task : (words : List Text) (met : Option (Text × List Row)) → is_accepted words ≡ true → subcommand_of command words ≡ met → task_of words ≡ option_and_then task_at met
unfolding task_of
accepted_task words met good is = ap (λ (b : Bool). if b then option_and_then task_at (subcommand_of command words) else None) good ∙ ap (option_and_then task_at) is

run_task : (words : List Text) → is_accepted words ≡ true → (run : IsRun (subcommand_of command words)) → task_of words ≡ Some (tasks.Run (number (without_minus run.workers.text)))
run_task words good run =
    accepted_task words (Some (codes "run", run.rows)) good run.met_is
    ∙ ap (λ (o : Option Text). option_and_then (λ workers. Some (tasks.Run workers)) (option_map number o)) run.workers.one

gen_task : (words : List Text) → is_accepted words ≡ true → (gen : IsGen (subcommand_of command words)) → task_of words ≡ Some (tasks.Gen (number gen.number.text) (number (without_minus gen.workers.text)))
gen_task words good gen =
    accepted_task words (Some (codes "gen", gen.rows)) good gen.met_is
    ∙ ap (λ (o : Option Text). option_and_then (λ workers. option_map (λ n. tasks.Gen n workers) (number_given (codes "N") gen.rows)) (option_map number o)) gen.workers.one
    ∙ ap (λ (o : Option Text). option_map (λ n. tasks.Gen n (number (without_minus gen.workers.text))) (option_map number o)) gen.number.one

check_task : (words : List Text) → is_accepted words ≡ true → IsCheck (subcommand_of command words) → task_of words ≡ Some tasks.Check
check_task words good check = accepted_task words (Some (codes "check", check.rows)) good check.met_is

log_task : (words : List Text) → is_accepted words ≡ true → (log : IsLog (subcommand_of command words)) → task_of words ≡ Some (tasks.Log (number (without_minus log.group.text)) (number (without_minus log.server.text)))
log_task words good log =
    accepted_task words (Some (codes "log", log.rows)) good log.met_is
    ∙ ap (λ (o : Option Text). option_and_then (λ group. option_map (λ server. tasks.Log group server) (number_given (codes "I") log.rows)) (option_map number o)) log.group.one
    ∙ ap (λ (o : Option Text). option_map (λ server. tasks.Log (number (without_minus log.group.text)) server) (option_map number o)) log.server.one

-- other words mean nothing
none_of : (words : List Text) (b : Bool) → is_accepted words ≡ b → (b ≡ true → ⊥) → None ≡ task_of words
unfolding task_of
none_of words true is never = absurd (never refl)
none_of words false is never = sym (ap (λ (b : Bool). if b then option_and_then task_at (subcommand_of command words) else None) is)

pub means_none : (words : List Text) → is_accepted words ≡ false → None ≡ task_of words
means_none words not = none_of words false not (λ e. true≢false (sym e))

pub unaccepted : (words : List Text) → (takes command words ≡ true → ⊥) → is_accepted words ≡ false
unfolding is_accepted
unaccepted words never = by_test (is_accepted words) (λ b. b ≡ false) (λ is. absurd (never is)) (λ _. refl)

some_means : (words : List Text) (b : Bool) (task : Task) → is_accepted words ≡ b → Some task ≡ task_of words → b ≡ true
some_means words true task is some = refl
some_means words false task is some = let none = none_of words false is (λ e. true≢false (sym e)) in absurd (cc)

-- words that mean something are accepted
pub accepts : (words : List Text) (task : Task) → Some task ≡ task_of words → is_accepted words ≡ true
accepts words task some = some_means words (is_accepted words) task refl some

accepted_some : (words : List Text) → is_accepted words ≡ true → (task : Task) × (task_of words ≡ Some task)
accepted_some words good = elim (met_of_words words good) [
  | AsRun run ↦ (tasks.Run (number (without_minus run.workers.text)), run_task words good run)
  | AsGen gen ↦ (tasks.Gen (number gen.number.text) (number (without_minus gen.workers.text)), gen_task words good gen)
  | AsCheck check ↦ (tasks.Check, check_task words good check)
  | AsLog log ↦ (tasks.Log (number (without_minus log.group.text)) (number (without_minus log.server.text)), log_task words good log)
]

none_means : (words : List Text) (b : Bool) → is_accepted words ≡ b → None ≡ task_of words → b ≡ false
none_means words false is none = refl
none_means words true is none = let (task, some) = accepted_some words is in absurd (cc)

-- and words that mean nothing are not
pub accepts_not : (words : List Text) → None ≡ task_of words → is_accepted words ≡ false
accepts_not words none = none_means words (is_accepted words) refl none

-- ---- what a parse reads of them

module _ {Z : Type 0} where
  name_of : (o : Option (Box SubCommand Z)) → option_map (λ b. (out-SubCommand (box_value b)).name.now) o ≡ option_map (λ p. p.0) (subcommand_rows o)
  name_of None = refl
  name_of (Some b) = refl

named : (words : List Text) (m : ArgMatches) (met : Option (Text × List Row)) → subcommand_rows_of m ≡ subcommand_of command words → subcommand_of command words ≡ met → subcommand_name_of m ≡ option_map (λ p. p.0) met
named words m met is met_is = name_of (out-ArgMatches m).subcommand ∙ ap (option_map (λ p. p.0)) (is ∙ met_is)

abbrev is_called : Text → Option Text → Bool
is_called name o = option_map_or (λ n. bytes_eq n name) o false

not_both : (o : Option Text) (name other : Text) → is_called name (Some name) ≡ true → is_called name (Some other) ≡ false → o ≡ Some name → o ≡ Some other → ⊥
not_both o name other itself apart is also = true≢false (sym itself ∙ sym (ap (is_called name) is) ∙ ap (is_called name) also ∙ apart)

-- a parse that met one of them
pub has_run : (words : List Text) (m : ArgMatches) → is_accepted words ≡ true → subcommand_rows_of m ≡ subcommand_of command words → subcommand_name_of m ≡ Some (codes "run") → IsRun (subcommand_of command words)
has_run words m good is name = elim (met_of_words words good) [
  | AsRun run ↦ run
  | AsGen gen ↦ absurd (not_both (subcommand_name_of m) (codes "run") (codes "gen") refl refl name (named words m (Some (codes "gen", gen.rows)) is gen.met_is))
  | AsCheck check ↦ absurd (not_both (subcommand_name_of m) (codes "run") (codes "check") refl refl name (named words m (Some (codes "check", check.rows)) is check.met_is))
  | AsLog log ↦ absurd (not_both (subcommand_name_of m) (codes "run") (codes "log") refl refl name (named words m (Some (codes "log", log.rows)) is log.met_is))
]

pub has_gen : (words : List Text) (m : ArgMatches) → is_accepted words ≡ true → subcommand_rows_of m ≡ subcommand_of command words → subcommand_name_of m ≡ Some (codes "gen") → IsGen (subcommand_of command words)
has_gen words m good is name = elim (met_of_words words good) [
  | AsRun run ↦ absurd (not_both (subcommand_name_of m) (codes "gen") (codes "run") refl refl name (named words m (Some (codes "run", run.rows)) is run.met_is))
  | AsGen gen ↦ gen
  | AsCheck check ↦ absurd (not_both (subcommand_name_of m) (codes "gen") (codes "check") refl refl name (named words m (Some (codes "check", check.rows)) is check.met_is))
  | AsLog log ↦ absurd (not_both (subcommand_name_of m) (codes "gen") (codes "log") refl refl name (named words m (Some (codes "log", log.rows)) is log.met_is))
]

pub check_read : (words : List Text) (m : ArgMatches) → is_accepted words ≡ true → subcommand_rows_of m ≡ subcommand_of command words → subcommand_name_of m ≡ Some (codes "check") → Some tasks.Check ≡ task_of words
check_read words m good is name = elim (met_of_words words good) [
  | AsRun run ↦ absurd (not_both (subcommand_name_of m) (codes "check") (codes "run") refl refl name (named words m (Some (codes "run", run.rows)) is run.met_is))
  | AsGen gen ↦ absurd (not_both (subcommand_name_of m) (codes "check") (codes "gen") refl refl name (named words m (Some (codes "gen", gen.rows)) is gen.met_is))
  | AsCheck check ↦ sym (check_task words good check)
  | AsLog log ↦ absurd (not_both (subcommand_name_of m) (codes "check") (codes "log") refl refl name (named words m (Some (codes "log", log.rows)) is log.met_is))
]

pub has_log : (words : List Text) (m : ArgMatches) → is_accepted words ≡ true → subcommand_rows_of m ≡ subcommand_of command words → subcommand_name_of m ≡ Some (codes "log") → IsLog (subcommand_of command words)
has_log words m good is name = elim (met_of_words words good) [
  | AsRun run ↦ absurd (not_both (subcommand_name_of m) (codes "log") (codes "run") refl refl name (named words m (Some (codes "run", run.rows)) is run.met_is))
  | AsGen gen ↦ absurd (not_both (subcommand_name_of m) (codes "log") (codes "gen") refl refl name (named words m (Some (codes "gen", gen.rows)) is gen.met_is))
  | AsCheck check ↦ absurd (not_both (subcommand_name_of m) (codes "log") (codes "check") refl refl name (named words m (Some (codes "check", check.rows)) is check.met_is))
  | AsLog log ↦ log
]

pub has_one : (words : List Text) (m : ArgMatches) → is_accepted words ≡ true → subcommand_rows_of m ≡ subcommand_of command words
    → (subcommand_name_of m ≡ Some (codes "run") → ⊥) → (subcommand_name_of m ≡ Some (codes "gen") → ⊥) → (subcommand_name_of m ≡ Some (codes "check") → ⊥) → (subcommand_name_of m ≡ Some (codes "log") → ⊥) → ⊥
has_one words m good is not_run not_gen not_check not_log = elim (met_of_words words good) [
  | AsRun run ↦ not_run (named words m (Some (codes "run", run.rows)) is run.met_is)
  | AsGen gen ↦ not_gen (named words m (Some (codes "gen", gen.rows)) is gen.met_is)
  | AsCheck check ↦ not_check (named words m (Some (codes "check", check.rows)) is check.met_is)
  | AsLog log ↦ not_log (named words m (Some (codes "log", log.rows)) is log.met_is)
]

-- the rows of a parse are those of the subcommand
rows_met : (words : List Text) (m : ArgMatches) (f : Found) (name : Text) (rows : List Row) → subcommand_rows_of m ≡ subcommand_of command words → subcommand_of command words ≡ Some (name, rows)
    → option_map (λ p. p.1) (subcommand_rows (out-ArgMatches m).subcommand) ≡ Some (rows_of f) → rows_of f ≡ rows
rows_met words m f name rows is met_is found =
    let met : option_map (λ p. p.1) (subcommand_rows (out-ArgMatches m).subcommand) ≡ Some rows = ap (option_map (λ p. p.1)) (is ∙ met_is) in
    cc (met, found)

-- what a number is read from
module _ {E : Type 0} (G : List ℕ → Result ℕ E → Type 0) where
  exact : (bits : ℕ) → ((u : List ℕ) (x : Result ℕ E) → G u x → ParsesUnsigned bits 10 u x) → (text : Text) (r : Option ℕ) (n : ℕ) → ReadsOne G text r → r ≡ Some n → r ≡ Some (number text)
  exact bits only text (Some v) n read is = ap Some (only text (Ok v) read).1
  exact bits only text None n read is = absurd (cc)

  -- the workers that are read of rows
  pub workers_read : ((u : List ℕ) (x : Result ℕ E) → G u x → ParsesUnsigned 32 10 u x) → (rows : List Row) (f : Found) (r : Option ℕ) (one : HasOne rows workers_here) → rows_of f ≡ rows
      → ((text : Text) → one_text f (codes "workers") ≡ Some text → ReadsOne G text r) → (n : ℕ) × (r ≡ Some n) × (n ≡ number (without_minus one.text)) × (1 ≤ n) × (n ≤ 8)
  workers_read only rows f r one same reads =
      let read : ReadsOne G (without_minus one.text) r = reads (without_minus one.text) (one_text-rows f (codes "workers") ∙ ap (one_of (codes "workers")) same ∙ one.one) in
      let (n, is_n, low, high) = signed_reads E G 32 1 8 one.text r read only (omega arith) (accepts-Accepts false (parsers.Signed (pos 1) (pos 8)) one.text one.good) in
      let value = exact 32 only (without_minus one.text) r n read is_n in
      (n, is_n, cc (value, is_n), low, high)

  -- a number that a place reads
  pub place_read : ((u : List ℕ) (x : Result ℕ E) → G u x → ParsesUnsigned 8 10 u x) → (id text : Text) (last : ℕ) → last < 2 ^ 8 → fits false (parsers.Signed (pos 0) (pos last)) text ≡ true → (rows : List Row) (f : Found) (r : Option ℕ) → one_of id rows ≡ Some (without_minus text)
      → rows_of f ≡ rows → ((text : Text) → one_text f id ≡ Some text → ReadsOne G text r) → (n : ℕ) × (r ≡ Some n) × (n ≡ number (without_minus text)) × (n ≤ last)
  place_read only id text last small good rows f r one same reads =
      let read : ReadsOne G (without_minus text) r = reads (without_minus text) (one_text-rows f id ∙ ap (one_of id) same ∙ one) in
      let (n, is_n, low, high) = signed_reads E G 8 0 last text r read only small (accepts-Accepts false (parsers.Signed (pos 0) (pos last)) text good) in
      let value = exact 8 only (without_minus text) r n read is_n in
      (n, is_n, cc (value, is_n), high)

  unsigned : ((u : List ℕ) (x : Result ℕ E) → G u x → ParsesUnsigned 64 10 u x) → (text : Text) (r : Option ℕ) → ReadsOne G text r → fits false (parsers.Unsigned 0 18446744073709551615) text ≡ true → r ≡ Some (number text)
  unsigned only text (Some v) read good = ap Some (only text (Ok v) read).1
  unsigned only text None read good =
      let fits = accepts-Accepts false (parsers.Unsigned 0 18446744073709551615) text good in
      absurd (only text (Err read.0) read.1 (fits.0, fits.1))

  -- and the number
  pub number_read : ((u : List ℕ) (x : Result ℕ E) → G u x → ParsesUnsigned 64 10 u x) → (rows : List Row) (f : Found) (r : Option ℕ) (one : HasOne rows number_here) → rows_of f ≡ rows
      → ((text : Text) → one_text f (codes "N") ≡ Some text → ReadsOne G text r) → r ≡ Some (number one.text)
  number_read only rows f r one same reads =
      unsigned only one.text r (reads one.text (one_text-rows f (codes "N") ∙ ap (one_of (codes "N")) same ∙ one.one)) one.good

module _ {E : Type 0} (G : List ℕ → Result ℕ E → Type 0) (only : (u : List ℕ) (x : Result ℕ E) → G u x → ParsesUnsigned 32 10 u x) (words : List Text) (m : ArgMatches) (f : Found) (good : is_accepted words ≡ true) (is : subcommand_rows_of m ≡ subcommand_of command words)
    (found : option_map (λ p. p.1) (subcommand_rows (out-ArgMatches m).subcommand) ≡ Some (rows_of f)) where
  -- a parse that met `run` reads its workers
  pub run_read : (r : Option ℕ) → subcommand_name_of m ≡ Some (codes "run") → ((text : Text) → one_text f (codes "workers") ≡ Some text → ReadsOne G text r)
      → (n : ℕ) × (r ≡ Some n) × (Some (tasks.Run n) ≡ task_of words) × (1 ≤ n) × (n ≤ 8)
  run_read r name reads =
      let run = has_run words m good is name in
      let (n, is_n, value, low, high) = workers_read G only run.rows f r run.workers (rows_met words m f (codes "run") run.rows is run.met_is found) reads in
      (n, is_n, ap (λ k. Some (tasks.Run k)) value ∙ sym (run_task words good run), low, high)

  -- and one that met `gen` its number too
  pub gen_read : {F : Type 0} (H : List ℕ → Result ℕ F → Type 0) → ((u : List ℕ) (x : Result ℕ F) → H u x → ParsesUnsigned 64 10 u x) → (q r : Option ℕ) → subcommand_name_of m ≡ Some (codes "gen")
      → ((text : Text) → one_text f (codes "N") ≡ Some text → ReadsOne H text q) → ((text : Text) → one_text f (codes "workers") ≡ Some text → ReadsOne G text r)
      → (k : ℕ) × (n : ℕ) × (q ≡ Some k) × (r ≡ Some n) × (Some (tasks.Gen k n) ≡ task_of words) × (1 ≤ n) × (n ≤ 8)
  gen_read H only_64 q r name reads_number reads =
      let gen = has_gen words m good is name in
      let same = rows_met words m f (codes "gen") gen.rows is gen.met_is found in
      let (n, is_n, value, low, high) = workers_read G only gen.rows f r gen.workers same reads in
      (number gen.number.text, n, number_read H only_64 gen.rows f q gen.number same reads_number, is_n, ap (λ k. Some (tasks.Gen (number gen.number.text) k)) value ∙ sym (gen_task words good gen), low, high)

-- one that met `log` reads its group and its server
pub log_read : {E : Type 0} (G : List ℕ → Result ℕ E → Type 0) → ((u : List ℕ) (x : Result ℕ E) → G u x → ParsesUnsigned 8 10 u x) → (words : List Text) (m : ArgMatches) (f : Found) → is_accepted words ≡ true → subcommand_rows_of m ≡ subcommand_of command words
    → option_map (λ p. p.1) (subcommand_rows (out-ArgMatches m).subcommand) ≡ Some (rows_of f) → (q r : Option ℕ) → subcommand_name_of m ≡ Some (codes "log")
    → ((text : Text) → one_text f (codes "G") ≡ Some text → ReadsOne G text q) → ((text : Text) → one_text f (codes "I") ≡ Some text → ReadsOne G text r)
    → (k : ℕ) × (n : ℕ) × (q ≡ Some k) × (r ≡ Some n) × (Some (tasks.Log k n) ≡ task_of words) × (k ≤ 7) × (n ≤ 2)
log_read G only words m f good is found q r name reads_group reads_server =
    let log = has_log words m good is name in
    let same = rows_met words m f (codes "log") log.rows is log.met_is found in
    let (k, is_k, group, low) = place_read G only (codes "G") log.group.text 7 (omega arith) log.group.good log.rows f q log.group.one same reads_group in
    let (n, is_n, server, small) = place_read G only (codes "I") log.server.text 2 (omega arith) log.server.good log.rows f r log.server.one same reads_server in
    (k, n, is_k, is_n, ap (λ g. Some (tasks.Log g n)) group ∙ ap (λ i. Some (tasks.Log (number (without_minus log.group.text)) i)) server ∙ sym (log_task words good log), low, small)

-- ---- the folder

-- that of accepted words
pub accepted_dir : (words : List Text) → is_accepted words ≡ true → dir_of words ≡ option_and_then dir_at (subcommand_of command words)
unfolding dir_of
accepted_dir words good = ap (λ (b : Bool). if b then option_and_then dir_at (subcommand_of command words) else None) good

-- others have none
pub dir_none : (words : List Text) → is_accepted words ≡ false → dir_of words ≡ None
unfolding dir_of
dir_none words bad = ap (λ (b : Bool). if b then option_and_then dir_at (subcommand_of command words) else None) bad

by_rows : (met : Option (Text × List Row)) → option_and_then dir_at met ≡ option_and_then (first_of (codes "dir")) (option_map (λ p. p.1) met)
by_rows None = refl
by_rows (Some met) = refl

-- it is read of the rows of a parse
pub dir_read : (words : List Text) (m : ArgMatches) (rows : Option (List Row)) → HasParsed words (Some m) → rows ≡ option_map (λ p. p.1) (subcommand_rows (out-ArgMatches m).subcommand)
    → option_and_then (first_of (codes "dir")) rows ≡ dir_of words
dir_read words m rows (good, is) read =
    ap (option_and_then (first_of (codes "dir"))) (read ∙ ap (option_map (λ p. p.1)) is) ∙ sym (by_rows (subcommand_of command words)) ∙ sym (accepted_dir words good)

-- ---- what was accepted before there was `gen`

-- `run --workers W`, with one digit
abbrev with_digit : ℕ → List Text
with_digit digit = codes "run" ∷ codes "--workers" ∷ (digit ∷ []) ∷ []

-- `run` alone means two
pub run_alone : task_of (codes "run" ∷ []) ≡ Some (tasks.Run 2)
unfolding task_of is_accepted clap_on_literals
run_alone = refl

-- and `run --workers W` means W, from 1 to 8
pub run_with_digit : (n : ℕ) → n < 8 → task_of (with_digit (49 + n)) ≡ Some (tasks.Run (1 + n))
unfolding task_of is_accepted clap_on_literals
run_with_digit zero low = refl
run_with_digit (suc zero) low = refl
run_with_digit (suc (suc zero)) low = refl
run_with_digit (suc (suc (suc zero))) low = refl
run_with_digit (suc (suc (suc (suc zero)))) low = refl
run_with_digit (suc (suc (suc (suc (suc zero))))) low = refl
run_with_digit (suc (suc (suc (suc (suc (suc zero)))))) low = refl
run_with_digit (suc (suc (suc (suc (suc (suc (suc zero))))))) low = refl
run_with_digit (suc (suc (suc (suc (suc (suc (suc (suc n)))))))) low = absurd (omega arith)
