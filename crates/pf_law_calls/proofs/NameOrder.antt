-- The names of each directory stand in the order of their bytes, whatever was decided.
use Rattle.std.proofs.Common.{ℕ, ◌/◌, List, [], ◌∷◌, Option, Some, None}
use Rattle.pf_volume.specs.Volumes.{Extent, size_of}
use Rattle.pf_tree_tables.specs.declared.changes.Txn.{Txn}
use Rattle.pf_tree_tables.specs.Tables.{Tables, new_tables}
use Rattle.pf_txn.specs.Reading.{txn_in}
use Rattle.pf_file_calls.specs.Calls.{value_applied}
use Rattle.pf_law_plans.proofs.NameOrder.{AllRise, applied_rises, new_rise}
use Rattle.pf_law_calls.specs.Lives.{after_values, tables_from}

value_rises : (t : Tables) (txn : Option Txn) → AllRise t.entries → AllRise (value_applied t txn).entries
value_rises t None all = all
value_rises t (Some txn) all = applied_rises t txn.changes all

values_rise : (t : Tables) (values : List (List ℕ)) → AllRise t.entries → AllRise (after_values t values).entries
values_rise t [] all = all
values_rise t (value ∷ values) all = values_rise (value_applied t (txn_in value)) values (value_rises t (txn_in value) all)

pub tables_rise : (v : Extent) (values : List (List ℕ)) → AllRise (tables_from v values).entries
tables_rise v values = values_rise (new_tables (size_of v / 8)) values new_rise
