use Rattle.std.proofs.Common.{◌≡◌, ℕ, List, subst, sym, ◌∙◌}
use Rattle.pf_chunklog.specs.Records.{Raw, HalfHolds}
use Rattle.pf_chunklog.proofs.Parts.{has_head, the_only_head}
use Rattle.pf_chunklog.proofs.Steps.{told, if_some, other_err}
use Rattle.pf_chunklog.proofs.log.ChunkLog.reload.Goals as goal

pub returns-in-Ok-clause-only_records : goal.returns-in-Ok-clause-only_records
returns-in-Ok-clause-only_records g c = if_some (g.D.Disk.seen c.args.self.now.disk) (λ file. (others : List Raw) → HalfHolds c.args.self.now.head others file → others ≡ c.resume.result) (λ file is others held.
    let same : c.in-Ok.opened.head ≡ c.args.self.now.head = the_only_head c.args.self.now.head c.in-Ok.opened.head c.in-Ok.ensures.listed in
    told _ file _ is c.in-Ok.ensures.only_records others (subst (λ (h : List ℕ). HalfHolds h others file) (sym same) held) ∙ sym c.resume.ensures.records)

pub returns-in-Err-clause-not_ours : goal.returns-in-Err-clause-not_ours
returns-in-Err-clause-not_ours g c = if_some (g.D.Disk.seen c.args.self.now.disk) _ (λ file is not_ours ours. told _ file _ is c.in-Err.ensures.not_ours (other_err _ _ not_ours) c.args.self.now.head (has_head c.args.self.now.head) ours)
