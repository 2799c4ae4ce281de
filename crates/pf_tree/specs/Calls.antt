-- Calls with their paths read.
use Rattle.pf_base.specs.declared.calls.Call.{Call}
use Rattle.pf_tree_tables.specs.Names.{Path}

abbrev pub FileCall : Type 0
FileCall = Call Path
