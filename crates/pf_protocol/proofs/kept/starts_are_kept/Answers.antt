use Rattle.pf_protocol.proofs.Facts.{start_is_kept}
use Rattle.pf_protocol.proofs.kept.starts_are_kept.Goals as goal

pub returns : goal.returns
returns c = start_is_kept
