-- Calls whose transactions have a spelling.
use Rattle.std.specs.Prelude.{[], ◌∷◌}
use Rattle.pf_entry.specs.Lists.{Every}
use Rattle.pf_tree_tables.specs.Names.{Path}
use Rattle.pf_tree.specs.Calls.{FileCall}
use Rattle.pf_tree.specs.Standing.{IsCall}
use Rattle.pf_txn.specs.Fields.{IsByte}
use Rattle.pf_txn.specs.Spelling.{IsShortCall, NamesAre}

-- the last name of a path, as calls have it, is one of bytes
abbrev pub HasByteName : Path → Type 0
HasByteName [] = Unit {0}
HasByteName (n ∷ p) = Every IsByte n

abbrev pub IsByteCall : FileCall → Type 0
IsByteCall call = NamesAre HasByteName call

-- its last names are short and of bytes, and it does not remove `/`
pub record CanBeSpelled (call : FileCall) : Type 0 where
  pub short : IsShortCall call
  pub bytes : IsByteCall call
  pub place : IsCall call
