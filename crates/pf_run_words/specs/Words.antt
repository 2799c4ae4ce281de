-- The words of the command line.
use Rattle.std.specs.Prelude.{pos, Bool, true, List, [], ◌∷◌, Some, codes}
use Rattle.clap.specs.Words.{App, Rule, Shape, Text, new_app, new_rule, takes, with_rule, with_subcommand}
use Rattle.clap.specs.declared.builder.value_parser.ValueParser.TheVariants as parsers

-- `--workers W`: one whole number from 1 to 8, which is 2 where it is not given
abbrev pub workers_rule : Rule
workers_rule = record (new_rule (codes "workers")) {
  long = Some (codes "workers");
  defaults = codes "2" ∷ [];
  parser = Some (parsers.Signed (pos 1) (pos 8));
}

-- `--dir PATH`: one value, whatever it is
abbrev pub dir_rule : Rule
dir_rule = record (new_rule (codes "dir")) { long = Some (codes "dir") }

-- `N`: one whole number below 2^64, which has to come
abbrev pub number_rule : Rule
number_rule = record (new_rule (codes "N")) {
  parser = Some (parsers.Unsigned 0 18446744073709551615);
  required = true;
}

-- `G` and `I`: whole numbers from 0 to 7 and from 0 to 2, which have to come
abbrev pub group_rule : Rule
group_rule = record (new_rule (codes "G")) {
  parser = Some (parsers.Signed (pos 0) (pos 7));
  required = true;
}

abbrev pub server_rule : Rule
server_rule = record (new_rule (codes "I")) {
  parser = Some (parsers.Signed (pos 0) (pos 2));
  required = true;
}

abbrev pub run_shape : Shape
run_shape = (with_rule (with_rule (new_app (codes "run")) dir_rule) workers_rule).top

abbrev pub gen_shape : Shape
gen_shape = (with_rule (with_rule (new_app (codes "gen")) number_rule) workers_rule).top

abbrev pub check_shape : Shape
check_shape = (new_app (codes "check")).top

abbrev pub log_shape : Shape
log_shape = (with_rule (with_rule (with_rule (new_app (codes "log")) dir_rule) group_rule) server_rule).top

-- the program's name, which is no word; one of its subcommands has to come, and it has no help
abbrev pub bare_program : App
bare_program = record {
  top = record (new_app (codes "polarfs")).top {
    no_binary_name = true;
    disable_help_flag = true;
    disable_help_subcommand = true;
    subcommand_required = true;
  };
  subs = [];
}

abbrev pub command : App
command = with_subcommand (with_subcommand (with_subcommand (with_subcommand bare_program run_shape) gen_shape) check_shape) log_shape

-- the command before there was `--dir`
abbrev pub run_without_dir : Shape
run_without_dir = (with_rule (new_app (codes "run")) workers_rule).top

abbrev pub log_without_dir : Shape
log_without_dir = (with_rule (with_rule (new_app (codes "log")) group_rule) server_rule).top

-- and before there was `log`
abbrev pub without_log : App
without_log = with_subcommand (with_subcommand (with_subcommand bare_program run_without_dir) gen_shape) check_shape

abbrev pub without_dir : App
without_dir = with_subcommand without_log log_without_dir

-- the words are those that clap takes of this command
unfoldable pub is_accepted : List Text → Bool
is_accepted words = takes command words
