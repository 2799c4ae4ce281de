use Rattle.std.proofs.Common.{◌≡◌, ℕ, List, IfSome, sym, subst, ap, ◌∙◌}
use Rattle.pf_chunklog.specs.Records.{Raw}
use Rattle.pf_chunklog.proofs.Steps.{told, if_some}
use Rattle.pf_image.specs.Halves.{of_half}
use Rattle.pf_image.specs.Recovery.{Finds, IsRecoverable}
use Rattle.pf_image.proofs.Files.{err_of}
use Rattle.pf_image.proofs.pair.Pair.load.Goals as goal

pub returns-in-Ok-clause-only_records : goal.returns-in-Ok-clause-only_records
returns-in-Ok-clause-only_records g c = if_some (g.D.Disk.seen c.args.a) (λ first. IfSome (g.D.Disk.seen c.args.b) (λ second. (others : List Raw) → Finds c.args.head first second others → others ≡ c.in-Ok.read.raws)) (λ first is_first. if_some (g.D.Disk.seen c.args.b) (λ second. (others : List Raw) → Finds c.args.head first second others → others ≡ c.in-Ok.read.raws) (λ second is_second others found.
    told _ second _ (ap g.D.Disk.seen c.unread-pair.ensures.one ∙ is_second) (told _ first _ (ap g.D.Disk.seen c.unread-pair.ensures.zero ∙ is_first) c.in-Ok.ensures.only_records) others (subst (λ (h : List ℕ). Finds h first second others) (sym c.unread-pair.ensures.head) found)))

pub returns-in-Err-clause-not_ours : goal.returns-in-Err-clause-not_ours
returns-in-Err-clause-not_ours g c = if_some (g.D.Disk.seen c.args.a) _ (λ first is_first. if_some (g.D.Disk.seen c.args.b) _ (λ second is_second not_ours half records found.
    told _ second _ (ap g.D.Disk.seen c.unread-pair.ensures.one ∙ is_second) (told _ first _ (ap g.D.Disk.seen c.unread-pair.ensures.zero ∙ is_first) c.in-Err.ensures.not_ours) (err_of _ _ not_ours) half records (subst (λ (h : List ℕ). IsRecoverable h half (of_half half first second) records) (sym c.unread-pair.ensures.head) found)))
