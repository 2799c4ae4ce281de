-- Words that are taken without `log`, or without `--dir`, are taken with it, and mean the same.
use Rattle.std.proofs.Common.{◌≡◌, ℕ, Bool, true, false, ◌&&◌, ◌||◌, cond, List, [], ◌∷◌, Option, Some, None, is_some, option_map, refl, sym, ap, ap₂, subst, ◌∙◌, true≢false, codes}
use Rattle.std.specs.Prelude.{if◌then◌else◌, find, fold, option_and_then}
use Rattle.std.specs.Str.{bytes_eq}
use Rattle.std.proofs.lemmas.Slice.Eq.{bytes_eq-Decides}
use Rattle.clap.specs.Walk.{Held, Names, Rule, Step, Text, Waiting, Walk, after_step, answers_to, finished, idle, nothing_held, option, positional, stop_after, subcommand_met, subcommand_or_other, value, walk_from, walked, walked_from}
use Rattle.clap.specs.Simple.{Shape, built, entered, is_simple, subcommand_of}
use Rattle.clap.specs.Takes.{default_passes, entered_passes, is_valid, level_passes, other_passes, settle_passes, step_passes, takes, turn_passes, walk_passes}
use Rattle.clap.proofs.OnLiterals.{clap_on_literals}
use Rattle.clap.proofs.WalkLemmas.{both}
use Rattle.std.specs.List.{list_all}
use Rattle.std.specs.Option.{option_map_or}
use Rattle.pf_entry.proofs.Cases.{by_test}
use Rattle.pf_entry.specs.Lists.{Every}
use Rattle.pf_run_words.specs.Words.{command, is_accepted, without_dir, without_log}
use Rattle.pf_run_words.specs.Tasks.{KeepsTask, dir_at, task_at}
use Rattle.pf_run_words.proofs.NewOption.{IsOlder, level_more as more_of_level}
use Rattle.pf_run_words.proofs.Rows.{leaf}
use Rattle.pf_run_words.proofs.WordLaws.{accepted_dir, accepted_task, called, gen_rules, group_here, met_of, passes_at, server_here, third, workers_here}

abbrev names_before : Names
names_before = (codes "run", []) ∷ (codes "gen", []) ∷ (codes "check", []) ∷ []

abbrev names_now : Names
names_now = (codes "run", []) ∷ (codes "gen", []) ∷ (codes "check", []) ∷ (codes "log", []) ∷ []

-- the program itself has no argument
abbrev top : Shape
top = (built without_dir).top

find_more : (word : Text) → bytes_eq (codes "log") word ≡ false → find (answers_to word) names_now ≡ find (answers_to word) names_before
find_more word other =
    ap (λ (b : Bool). cond (answers_to word (codes "run", [])) (Some (codes "run", [])) (cond (answers_to word (codes "gen", [])) (Some (codes "gen", [])) (cond (answers_to word (codes "check", [])) (Some (codes "check", [])) (cond (b || false) (Some (codes "log", [])) None)))) other

-- ---- one word

-- a word by the subcommand that it names
abbrev met_by : Option Text → Bool → Waiting → ℕ → Text → Held → Held × Step
met_by o is_trailing waiting position word h = if is_trailing then (h, value) else subcommand_or_other [] o waiting position word h

abbrev passes_by : Option Text → Bool → Waiting → ℕ → Text → Held → Bool
passes_by o is_trailing waiting position word h =
    (is_trailing || other_passes top o word h) && step_passes top position (met_by o is_trailing waiting position word h).0 (met_by o is_trailing waiting position word h).1

-- `log` would be a value, and the program takes none
never : (is_trailing : Bool) (position : ℕ) (h : Held) → passes_by (subcommand_met names_before idle (codes "log")) is_trailing idle position (codes "log") h ≡ true → ⊥
unfolding clap_on_literals
never true position h e = true≢false (sym e)
never false position h e = true≢false (sym e)

same_met : (is_trailing : Bool) (waiting : Waiting) (position : ℕ) (word : Text) (h : Held) → passes_by (subcommand_met names_before waiting word) is_trailing waiting position word h ≡ true
    → subcommand_met names_now waiting word ≡ subcommand_met names_before waiting word
same_met is_trailing (option id) position word h e = refl
same_met is_trailing positional position word h e = refl
same_met is_trailing idle position word h e =
    by_test (bytes_eq (codes "log") word) (λ _. subcommand_met names_now idle word ≡ subcommand_met names_before idle word)
    (λ same. absurd (never is_trailing position h (subst (λ w. passes_by (subcommand_met names_before idle w) is_trailing idle position w h ≡ true) (sym ((bytes_eq-Decides (codes "log") word).0 same)) e)))
    (λ other. ap (option_map (λ s. s.0)) (find_more word other))

turn_more : (stopped : Option (Text × List Text)) (w : Walk) (word : Text) → (is_some stopped || passes_by (subcommand_met names_before w.waiting word) w.is_trailing w.waiting w.position word w.held) ≡ true
    → ((is_some stopped || passes_by (subcommand_met names_now w.waiting word) w.is_trailing w.waiting w.position word w.held) ≡ true) × (walked_from [] names_now stopped w word ≡ walked_from [] names_before stopped w word)
turn_more (Some p) w word e = (refl, refl)
turn_more None w word e =
    let same = same_met w.is_trailing w.waiting w.position word w.held e in (
      subst (λ o. passes_by o w.is_trailing w.waiting w.position word w.held ≡ true) (sym same) e,
      ap (λ o. after_step [] word w (met_by o w.is_trailing w.waiting w.position word w.held).0 (met_by o w.is_trailing w.waiting w.position word w.held).1) same,
    )

-- ---- all words

walk_more : (w : Walk) (words : List Text) → walk_passes top names_before w words ≡ true → (walk_passes top names_now w words ≡ true) × (fold (walked [] names_now) w words ≡ fold (walked [] names_before) w words)
unfolding walk_passes walked
walk_more w [] e = (refl, refl)
walk_more w (word ∷ words) e =
    let parts = both (turn_passes top names_before w word) (walk_passes top names_before (walked [] names_before w word) words) e in
    let turn = turn_more w.stopped w word parts.0 in
    let more = walk_more (walked [] names_before w word) words parts.1 in (
      ap₂ ◌&&◌ turn.0 (subst (λ v. walk_passes top names_now v words ≡ true) (sym turn.1) more.0),
      subst (λ v. fold (walked [] names_now) v words ≡ fold (walked [] names_before) (walked [] names_before w word) words) (sym turn.1) more.1,
    )

abbrev ends_well : Bool → Walk → Bool
ends_well met w = settle_passes [] top.args_override_self w.held && (list_all default_passes [] && is_valid top (finished [] w.held) met)

level_more : (words : List Text) (met : Bool) → level_passes top names_before nothing_held words met ≡ true → (level_passes top names_now nothing_held words met ≡ true) × (stop_after [] names_now words ≡ stop_after [] names_before words)
level_more words met e =
    let parts = both (walk_passes top names_before (walk_from nothing_held) words) (ends_well met (fold (walked [] names_before) (walk_from nothing_held) words)) e in
    let more = walk_more (walk_from nothing_held) words parts.0 in
    (ap₂ ◌&&◌ more.0 (subst (λ w. ends_well met w ≡ true) (sym more.1) parts.1), ap (λ (w : Walk). w.stopped) more.1)

-- ---- the subcommand that is met

-- before there was `--dir`
abbrev old_run : List Rule
old_run = workers_here ∷ []

abbrev old_log : List Rule
old_log = group_here ∷ server_here ∷ []

abbrev called_before : (run gen check log : Bool) → Option Shape
called_before run gen check log =
    cond run (Some (leaf (codes "run") old_run)) (cond gen (Some (leaf (codes "gen") gen_rules)) (cond check (Some (leaf (codes "check") [])) (cond log (Some (leaf (codes "log") old_log)) None)))

named_more : (r g c l : Bool) (words : List Text) → is_some (met_of (called_before r g c false) words) ≡ true → called_before r g c l ≡ called_before r g c false
named_more true g c l words some = refl
named_more false true c l words some = refl
named_more false false true l words some = refl
named_more false false false l words some = absurd (true≢false (sym some))

entered_more : (stop : Option (Text × List Text)) → is_some (entered (built without_log) stop) ≡ true
    → (entered (built without_dir) stop ≡ entered (built without_log) stop) × (entered_passes (built without_dir) stop ≡ entered_passes (built without_log) stop)
entered_more None some = (refl, refl)
entered_more (Some p) some =
    let same = named_more (answers_to p.0 (codes "run", [])) (answers_to p.0 (codes "gen", [])) (answers_to p.0 (codes "check", [])) (answers_to p.0 (codes "log", [])) p.1 some in
    (ap (λ (s : Option Shape). met_of s p.1) same, ap (λ (s : Option Shape). option_map_or (λ t. level_passes t [] nothing_held p.1 false) s true) same)

with_log : (words : List Text) → takes without_log words ≡ true → (takes without_dir words ≡ true) × (subcommand_of without_dir words ≡ subcommand_of without_log words)
with_log words e =
    let stop = stop_after [] names_before words in
    let met = entered (built without_log) stop in
    let parts = both (entered_passes (built without_log) stop) (level_passes top names_before nothing_held words (is_some met)) (both (is_simple without_log) _ e).1 in
    let some : is_some met ≡ true = third _ _ (is_some met) _ parts.1 in
    let level = level_more words (is_some met) parts.1 in
    let same = entered_more stop some in (
      subst (λ s. (entered_passes (built without_dir) s && level_passes top names_now nothing_held words (is_some (entered (built without_dir) s))) ≡ true) (sym level.1)
          (ap₂ ◌&&◌ (same.1 ∙ parts.0) (subst (λ m. level_passes top names_now nothing_held words (is_some m) ≡ true) (sym same.0) level.0)),
      ap (entered (built without_dir)) level.1 ∙ same.0,
    )

-- ---- `--dir`

run_older : Every IsOlder old_run
run_older = (record { action = refl; other = refl; apart = refl }, tt)

gen_older : Every IsOlder gen_rules
gen_older = (record { action = refl; other = refl; apart = refl }, (record { action = refl; other = refl; apart = refl }, tt))

log_older : Every IsOlder old_log
log_older = (record { action = refl; other = refl; apart = refl }, (record { action = refl; other = refl; apart = refl }, tt))

called_more : (r g c l : Bool) (words : List Text) → passes_at (called_before r g c l) words ≡ true
    → (passes_at (called r g c l) words ≡ true) × (met_of (called r g c l) words ≡ met_of (called_before r g c l) words) × (option_and_then dir_at (met_of (called_before r g c l) words) ≡ None)
called_more true g c l words e = let run = more_of_level (codes "run") old_run run_older refl words e in (run.0, ap (λ rows. Some (codes "run", rows)) run.1, run.2)
called_more false true c l words e = (e, refl, (more_of_level (codes "gen") gen_rules gen_older refl words e).2)
called_more false false true l words e = (e, refl, (more_of_level (codes "check") [] tt refl words e).2)
called_more false false false true words e = let log = more_of_level (codes "log") old_log log_older refl words e in (log.0, ap (λ rows. Some (codes "log", rows)) log.1, log.2)
called_more false false false false words e = (refl, refl, refl)

entered_with_dir : (stop : Option (Text × List Text)) → entered_passes (built without_dir) stop ≡ true
    → (entered_passes (built command) stop ≡ true) × (entered (built command) stop ≡ entered (built without_dir) stop) × (option_and_then dir_at (entered (built without_dir) stop) ≡ None)
entered_with_dir None e = (refl, refl, refl)
entered_with_dir (Some p) e =
    called_more (answers_to p.0 (codes "run", [])) (answers_to p.0 (codes "gen", [])) (answers_to p.0 (codes "check", [])) (answers_to p.0 (codes "log", [])) p.1 e

with_dir : (words : List Text) → takes without_dir words ≡ true
    → (takes command words ≡ true) × (subcommand_of command words ≡ subcommand_of without_dir words) × (option_and_then dir_at (subcommand_of without_dir words) ≡ None)
with_dir words e =
    let stop = stop_after [] names_now words in
    let met = entered (built without_dir) stop in
    let parts = both (entered_passes (built without_dir) stop) (level_passes top names_now nothing_held words (is_some met)) (both (is_simple without_dir) _ e).1 in
    let same = entered_with_dir stop parts.0 in (
      ap₂ ◌&&◌ same.0 (subst (λ m. level_passes top names_now nothing_held words (is_some m) ≡ true) (sym same.1) parts.1),
      same.1,
      same.2,
    )

pub means_the_same : (words : List Text) → KeepsTask words
unfolding is_accepted
means_the_same words = (
  λ e.
      let log = with_log words e in
      let dir = with_dir words log.0 in
      (dir.0, accepted_task words (subcommand_of command words) dir.0 refl ∙ ap (option_and_then task_at) (dir.1 ∙ log.1), accepted_dir words dir.0 ∙ ap (option_and_then dir_at) dir.1 ∙ dir.2),
  λ e. let dir = with_dir words e in (dir.0, accepted_task words (subcommand_of command words) dir.0 refl ∙ ap (option_and_then task_at) dir.1, accepted_dir words dir.0 ∙ ap (option_and_then dir_at) dir.1 ∙ dir.2),
)
