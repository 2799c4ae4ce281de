use Rattle.std.proofs.Common.{◌↔◌, drop}
use Rattle.pf_entry.specs.Lists.{Every}
use Rattle.pf_protocol.specs.Fitting.{NameFits}
use Rattle.pf_server_restart.specs.Beginning.{setup_of_seat}
use Rattle.pf_server_restart.proofs.fitting.are_names.Given as goal

abbrev pub invariant-loop-named : goal.invariant-loop-named
invariant-loop-named l = record {
  rest : Every (NameFits (setup_of_seat l.seat) l.slot) (drop l.named-index l.look) ↔ Every (NameFits (setup_of_seat l.seat) l.slot) l.look;
}
