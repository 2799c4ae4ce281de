-- The form of a line, and what a line of a form says.
use Rattle.std.specs.Prelude.{ℕ, List, Option, Some, None, Result, Ok, if◌then◌else◌}
use Rattle.pf_script.specs.declared.command.Command.{Command}
use Rattle.pf_script.specs.declared.command.LineFault.{LineFault}
use Rattle.pf_script.specs.declared.form.Form.{Form}
use Rattle.pf_script.specs.declared.named.NamedVolume.{NamedVolume}
use Rattle.pf_script.specs.Forms.{form_of, ◌>>=◌}
use Rattle.pf_script.specs.Lines.{is_silent, placed}

-- the form of a line with these words, if it does something
abbrev pub form_in : List (List ℕ) → Option (Result Form LineFault)
form_in words = if is_silent words then None else Some (form_of words)

-- what a line of this form says
abbrev pub said_by : Option NamedVolume → Form → Result (Option Command) LineFault
said_by volume form = placed volume form >>= λ command. Ok (Some command)
