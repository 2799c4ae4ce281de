use Rattle.pf_protocol.specs.Groups.{ending}
use Rattle.pf_protocol.proofs.ElectedLeaders.{terms_after}
use Rattle.pf_protocol.proofs.ViableGroups.{viable_opening, viable_goes, viable_begins, viable_packets, viable_starts}
use Rattle.pf_protocol.proofs.viable.groups_stay_viable.Goals as goal

pub returns : goal.returns
returns c = record {
  opening = viable_opening;
  goes = λ setup is top n terms claims g v h legal. (terms_after g terms h.event (ending h.answer), viable_goes setup is top n terms claims g v h legal);
  begins = viable_begins;
  packets = viable_packets;
  starts = viable_starts;
}
