use Rattle.std.proofs.Common.{◌⊎◌, List, ℕ, IfSome, ap, subst, ◌∙◌, sym}
use Rattle.pf_chunklog.proofs.Steps.{if_some}
use Rattle.pf_disk_store.specs.Kept.{FindsState}
use Rattle.pf_disk_store.proofs.Pairs.{found_now, left_now}
use Rattle.pf_disk_store.proofs.kept.Kept.into_disks.Goals as goal

pub returns-clause-left : goal.returns-clause-left
returns-clause-left g c = λ before after kept tells_it a b left_a left_b.
    left_now g.D.Disk.seen g.D.Disk.may_leave c.args.self.pair before after kept tells_it a b (subst (λ disk. g.D.Disk.may_leave disk a) c.into_disks.ensures.zero left_a) (subst (λ disk. g.D.Disk.may_leave disk b) c.into_disks.ensures.one left_b)

pub returns-clause-seen : goal.returns-clause-seen
returns-clause-seen g c = λ before after kept tells_it.
    if_some (g.D.Disk.seen c.into_disks.result.0) (λ (a : List ℕ). IfSome (g.D.Disk.seen c.into_disks.result.1) (λ (b : List ℕ). FindsState c.args.self.pair.head a b before ⊎ FindsState c.args.self.pair.head a b after)) (λ a is_a.
    if_some (g.D.Disk.seen c.into_disks.result.1) (λ (b : List ℕ). FindsState c.args.self.pair.head a b before ⊎ FindsState c.args.self.pair.head a b after) (λ b is_b.
    found_now g.D.Disk.seen g.D.Disk.may_leave g.met.D.Disk.among c.args.self.pair before after kept tells_it a b (ap g.D.Disk.seen (sym c.into_disks.ensures.zero) ∙ is_a) (ap g.D.Disk.seen (sym c.into_disks.ensures.one) ∙ is_b)))
