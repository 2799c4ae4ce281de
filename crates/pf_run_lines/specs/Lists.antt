-- Which transactions a list has, or which of its lines is refused.
use Rattle.std.specs.Prelude.{ℕ, List, [], ◌∷◌, Option, Some, None, Result, Ok, Err}
use Rattle.pf_tree_tables.specs.declared.changes.Txn.{Txn}
use Rattle.pf_check.specs.HexLines.{txn_in_hex}
use Rattle.pf_script.specs.declared.command.LineFault.{LineFault}
use Rattle.pf_script.specs.declared.command.LineFault.TheVariants.{BadWord}
use Rattle.pf_text.specs.Words.{trimmed}
use Rattle.pf_run_lines.specs.LineScans.{Judged, LineRules, judged}

-- a line that spells no transaction is refused
abbrev pub txn_spelled : Option Txn → Result (Option Txn) LineFault
txn_spelled None = Err BadWord
txn_spelled (Some txn) = Ok (Some txn)

-- an empty line does nothing
abbrev pub digits_say : List ℕ → Result (Option Txn) LineFault
digits_say [] = Ok None
digits_say (digit ∷ digits) = txn_spelled (txn_in_hex (digit ∷ digits))

-- the lines of a list: what one says is the same wherever it stands
abbrev pub list_rules : LineRules (Unit {0}) Txn
list_rules = record {
  says = λ number known line. digits_say (trimmed line);
  next = λ known said. tt;
  end = λ known. Ok tt;
}

-- a whole list
abbrev pub list_of : List ℕ → Judged Txn
list_of bytes = judged list_rules tt bytes
