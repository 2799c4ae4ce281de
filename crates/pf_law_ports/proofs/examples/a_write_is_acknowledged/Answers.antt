use Rattle.pf_law_ports.proofs.WorkedPorts.{driven, told}
use Rattle.pf_law_ports.proofs.examples.a_write_is_acknowledged.Goals as goal

pub returns : goal.returns
returns c = record {
  legal = c.slots_are_committed_out_of_order.ensures.legal;
  driven = driven;
  replies = λ first second. told first second (c.slots_are_committed_out_of_order.ensures.shows first second);
}
