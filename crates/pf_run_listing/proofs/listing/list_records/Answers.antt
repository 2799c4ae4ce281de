use Rattle.std.proofs.Common.{◌⊎◌, inl, inr, ℕ, List, IfOk, IfSome, ap, subst, sym, ◌∙◌}
use Rattle.pf_disk.specs.Causes.{Rose}
use Rattle.pf_chunklog.proofs.Steps.{if_some, told}
use Rattle.pf_image.specs.Recovery.{FindsIn}
use Rattle.pf_run_listing.specs.Listing.{AreRecords, HasNone, ListedTells, listed_head}
use Rattle.pf_run_listing.proofs.FoundPairs.{said_so, tells_of}
use Rattle.pf_run_listing.proofs.listing.list_records.Goals as goal

pub returns-clause-told : goal.returns-clause-told
returns-clause-told g c =
    let seen = g.D.Disk.seen in
    let faults = g.D.Disk.faults in
    let a = c.args.a in
    let b = c.args.b in
    let head = listed_head c.args.group c.args.server in
    let failed = Rose (faults a) (faults c.into_disks-a.result.0) ⊎ Rose (faults b) (faults c.into_disks-a.result.1) in
    said_so c.found_lines-found.result c.said-listed.result (λ listed. IfSome (seen a) (λ zero. IfSome (seen b) (λ one. ListedTells (FindsIn head zero one) (HasNone head zero one) failed listed))) c.said-listed.ensures
    (λ listed is. if_some (seen a) (λ zero. IfSome (seen b) (λ one. ListedTells (FindsIn head zero one) (HasNone head zero one) failed listed)) (λ zero is_a. if_some (seen b) (λ one. ListedTells (FindsIn head zero one) (HasNone head zero one) failed listed) (λ one is_b.
    let told_a = ap seen c.unread-pair.ensures.zero ∙ is_a in
    let told_b = ap seen c.unread-pair.ensures.one ∙ is_b in
    let found = c.found_lines-found.result in
    let pair = c.unread-pair.result in
    tells_of (FindsIn head zero one) (HasNone head zero one) failed found listed is
    (subst (λ (h : List ℕ). IfOk found (λ t. AreRecords (FindsIn h zero one) t.items)) c.unread-pair.ensures.head
    (told (seen pair.one.disk) one (λ o. IfOk found (λ t. AreRecords (FindsIn pair.head zero o) t.items)) told_b (told (seen pair.zero.disk) zero (λ z. IfSome (seen pair.one.disk) (λ o. IfOk found (λ t. AreRecords (FindsIn pair.head z o) t.items))) told_a c.found_lines-found.ensures.found)))
    (λ err. subst (λ (h : List ℕ). HasNone h zero one) c.unread-pair.ensures.head (told (seen pair.one.disk) one _ told_b (told (seen pair.zero.disk) zero _ told_a c.found_lines-found.ensures.none) err))
    (λ err. elim (c.found_lines-found.ensures.failed err) [
      | inl rose ↦ inl (subst (λ (n : ℕ). Rose n (faults c.into_disks-a.result.0)) (ap faults c.unread-pair.ensures.zero) (subst (λ (n : ℕ). Rose (faults pair.zero.disk) n) (ap faults (sym c.into_disks-a.ensures.zero)) rose))
      | inr rose ↦ inr (subst (λ (n : ℕ). Rose n (faults c.into_disks-a.result.1)) (ap faults c.unread-pair.ensures.one) (subst (λ (n : ℕ). Rose (faults pair.one.disk) n) (ap faults (sym c.into_disks-a.ensures.one)) rose))
    ]))))
