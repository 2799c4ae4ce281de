use Rattle.pf_protocol.proofs.Legal.{legal_fits}
use Rattle.pf_protocol.proofs.MapSizes.{legal_packets, legal_starts}
use Rattle.pf_protocol.proofs.kept.legal_histories_fit.Goals as goal

pub returns : goal.returns
returns c = record { fits = legal_fits; packets = legal_packets; starts = legal_starts }
