use Rattle.std.proofs.Common.{ap}
use Rattle.pf_server_tables.specs.FewTables.{few_of}
use Rattle.pf_server_tables.proofs.few.Few.new.Goals as goal

pub returns : goal.returns
returns g c = ap few_of c.new.ensures.items
