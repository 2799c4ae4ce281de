use Rattle.std.proofs.Common.{◌≡◌, ℕ, List, ap, ◌∙◌, subst, sym}
use Rattle.pf_chunklog.specs.Records.{Raw, HalfHolds}
use Rattle.pf_chunklog.proofs.Steps.{told, if_some}
use Rattle.pf_chunklog.proofs.log.ChunkLog.open.Goals as goal

pub returns-in-Ok-clause-only_records : goal.returns-in-Ok-clause-only_records
returns-in-Ok-clause-only_records g c = if_some (g.D.Disk.seen c.args.disk) (λ file. (others : List Raw) → HalfHolds c.args.head others file → others ≡ c.in-Ok.records) (λ file is others held.
    told (g.D.Disk.seen c.new-log.result.disk) file _ (ap g.D.Disk.seen c.new-log.ensures.disk ∙ is) c.in-Ok.ensures.only_records others (subst (λ (h : List ℕ). HalfHolds h others file) (sym c.new-log.ensures.head) held))
