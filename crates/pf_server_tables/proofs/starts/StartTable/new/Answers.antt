use Rattle.std.proofs.Common.{ap}
use Rattle.pf_entry.specs.StartMaps.{starts_of}
use Rattle.pf_server_tables.proofs.starts.StartTable.new.Goals as goal

pub returns : goal.returns
unfolding starts_of
returns c = ap starts_of c.new.ensures.items
