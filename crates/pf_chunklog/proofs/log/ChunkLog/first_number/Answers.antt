use Rattle.std.proofs.Common.{◌≡◌, List, ℕ, ap, ◌∙◌}
use Rattle.pf_chunklog.specs.Records.{first_number}
use Rattle.pf_chunklog.proofs.Steps.{told, if_some}
use Rattle.pf_chunklog.proofs.Parts.{same_first}
use Rattle.pf_chunklog.proofs.log.ChunkLog.first_number.Goals as goal

pub returns-clause-number : goal.returns-clause-number
returns-clause-number g c = if_some (g.D.Disk.seen c.args.self.now.disk) (λ file. c.first_number-number.result ≡ first_number file) (λ file is.
    c.first_number-number.ensures ∙ ap (λ (l : List ℕ). first_number l) c.deref.ensures.value
    ∙ same_first file c.in_ok-front.front.items (told _ file _ (c.sync.ensures.seen ∙ is) c.in_ok-front.ensures.bytes) (told _ file _ (c.sync.ensures.seen ∙ is) c.in_ok-front.ensures.enough))
