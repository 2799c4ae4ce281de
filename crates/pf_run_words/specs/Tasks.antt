-- What the words of the command line ask for.
use Rattle.std.specs.Prelude.{ℕ, ◌≡◌, ◌≤◌, true, false, if◌then◌else◌, List, Option, Some, None, option_and_then, option_map, codes}
use Rattle.std.specs.Str.{bytes_eq}
use Rattle.std.specs.Str.Parse.{digits_value, without_leading_plus}
use Rattle.clap.specs.Words.{App, Row, Text, first_of, one_of, subcommand_of, subcommand_rows_of, takes}
use Rattle.clap.specs.declared.parser.matches.ArgMatches.{ArgMatches}
use Rattle.pf_run_words.specs.declared.words.Task.{Task}
use Rattle.pf_run_words.specs.declared.words.Task.TheVariants as tasks
use Rattle.pf_run_words.specs.Words.{command, is_accepted, without_dir, without_log}

-- the number that is given to an argument, or stands for it
abbrev pub number_given : Text → List Row → Option ℕ
number_given id rows = option_map (λ text. digits_value 10 (without_leading_plus text)) (one_of id rows)

-- `gen`, or else `run`, with the numbers of its arguments
abbrev pub worked_task_at : Text × List Row → Option Task
worked_task_at met = option_and_then (λ workers.
    if bytes_eq met.0 (codes "gen") then option_map (λ number. tasks.Gen number workers) (number_given (codes "N") met.1)
    else Some (tasks.Run workers)) (number_given (codes "workers") met.1)

-- `log`, with its group and its server
abbrev pub log_task_at : List Row → Option Task
log_task_at rows = option_and_then (λ group. option_map (λ server. tasks.Log group server) (number_given (codes "I") rows)) (number_given (codes "G") rows)

-- `check`, or `log`, or else one of those two
abbrev pub task_at : Text × List Row → Option Task
task_at met = if bytes_eq met.0 (codes "check") then Some tasks.Check else if bytes_eq met.0 (codes "log") then log_task_at met.1 else worked_task_at met

-- where the words are accepted
unfoldable pub task_of : List Text → Option Task
task_of words = if is_accepted words then option_and_then task_at (subcommand_of command words) else None

-- the value of `--dir`, where it is given
abbrev pub dir_at : Text × List Row → Option Text
dir_at met = first_of (codes "dir") met.1

-- where the words are accepted
unfoldable pub dir_of : List Text → Option Text
dir_of words = if is_accepted words then option_and_then dir_at (subcommand_of command words) else None

-- what a parse found: the subcommand of the words, where they are accepted, and else nothing
abbrev pub HasParsed : List Text → Option ArgMatches → Type 0
HasParsed words (Some found) = (is_accepted words ≡ true) × (subcommand_rows_of found ≡ subcommand_of command words)
HasParsed words None = is_accepted words ≡ false

-- words that an older command takes are accepted, ask for the same, and name no folder
abbrev pub KeepsWords : App → List Text → Type 0
KeepsWords older words =
    takes older words ≡ true → (is_accepted words ≡ true) × (task_of words ≡ option_and_then task_at (subcommand_of older words)) × (dir_of words ≡ None)

-- so do those of the command without `log`, and without `--dir`
abbrev pub KeepsTask : List Text → Type 0
KeepsTask words = KeepsWords without_log words × KeepsWords without_dir words

-- sectors are copied on 1 to 8 threads; there are 8 groups, each of 3 servers
abbrev pub IsInRange : Task → Type 0
IsInRange (tasks.Run workers) = (1 ≤ workers) × (workers ≤ 8)
IsInRange (tasks.Gen number workers) = (1 ≤ workers) × (workers ≤ 8)
IsInRange tasks.Check = Unit {0}
IsInRange (tasks.Log group server) = (group ≤ 7) × (server ≤ 2)

-- this holds where the script of the source is to be run
abbrev pub IfRun : Option Task → Type 0 → Type 0
IfRun (Some (tasks.Run workers)) P = P
IfRun task P = Unit {0}

-- and this where that of a number is
abbrev pub IfGen : Option Task → (ℕ → Type 0) → Type 0
IfGen (Some (tasks.Gen number workers)) P = P number
IfGen task P = Unit {0}

-- and this where the list of the source is to be checked
abbrev pub IfCheck : Option Task → Type 0 → Type 0
IfCheck (Some tasks.Check) P = P
IfCheck task P = Unit {0}

-- and this where the records of a server are to be listed
abbrev pub IfLog : Option Task → ((group server : ℕ) → Type 0) → Type 0
IfLog (Some (tasks.Log group server)) P = P group server
IfLog task P = Unit {0}
