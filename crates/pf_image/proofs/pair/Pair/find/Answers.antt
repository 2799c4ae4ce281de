use Rattle.std.proofs.Common.{ℕ, List, IfSome, ap, subst, ◌∙◌, is_some}
use Rattle.pf_chunklog.proofs.Steps.{if_some, told}
use Rattle.pf_image.specs.Halves.{of_half, other}
use Rattle.pf_image.specs.Found.{HalfIsFound}
use Rattle.pf_image.specs.Recovery.{IsOlder, generation}
use Rattle.pf_image.proofs.LoadedHalves.{both_lost, first_found, is_lost, lost_older}
use Rattle.pf_image.proofs.pair.Pair.find.Goals as goal

pub returns-in-Some-clause-older : goal.returns-in-Some-clause-older
returns-in-Some-clause-older g c =
    let seen = g.D.Disk.seen in
    let old = c.args.self.now in
    let mid = c.newer.new.self in
    let half = c.in_ok-half.half in
    let found = c.in-Some.found in
    let P = λ (zero one : List ℕ). IsOlder old.head (other half) (of_half (other half) zero one) (generation found.opened.records) in
    if_some (seen old.zero.disk) (λ zero. IfSome (seen old.one.disk) (λ one. P zero one)) (λ zero is_zero. if_some (seen old.one.disk) (λ one. P zero one) (λ one is_one.
    first_found seen g.D.Disk.may_leave old.head half mid.zero mid.one (of_half half c.read.new.self.zero c.read.new.self.one).disk found zero one (c.newer.ensures.zero.same ∙ is_zero) (c.newer.ensures.one.same ∙ is_one)
    (subst (λ (h : List ℕ). HalfIsFound seen g.D.Disk.may_leave h half (of_half half mid.zero mid.one).disk (of_half half c.read.new.self.zero c.read.new.self.one).disk found) c.newer.ensures.still.head (told c.in_ok-mine.mine found _ c.in-Some.is c.in_ok-mine.ensures.some))
    (told _ one _ is_one (told _ zero _ is_zero c.in_ok-half.ensures.behind))))

pub returns-in-Some-theirs-clause-older : goal.returns-in-Some-theirs-clause-older
returns-in-Some-theirs-clause-older g c =
    let seen = g.D.Disk.seen in
    let old = c.args.self.now in
    let mid = c.newer.new.self in
    let half = c.in_ok-half.half in
    let spare = c.other-spare.result in
    let found = c.in-Some-theirs.found in
    let P = λ (zero one : List ℕ). IsOlder old.head (other spare) (of_half (other spare) zero one) (generation found.opened.records) in
    if_some (seen old.zero.disk) (λ zero. IfSome (seen old.one.disk) (λ one. P zero one)) (λ zero is_zero. if_some (seen old.one.disk) (λ one. P zero one) (λ one is_one.
    lost_older old.head zero one half spare (generation found.opened.records) c.other-spare.ensures
    (is_lost seen old.head mid.head half mid.zero mid.one zero one c.in_ok-mine.mine c.newer.ensures.still.head (c.newer.ensures.zero.same ∙ is_zero) (c.newer.ensures.one.same ∙ is_one) (ap (λ o. is_some o) c.in_default.is) c.in_ok-mine.ensures.none)))

pub returns-in-None-clause-none : goal.returns-in-None-clause-none
returns-in-None-clause-none g c =
    let seen = g.D.Disk.seen in
    let old = c.args.self.now in
    let mid = c.newer.new.self in
    let last = c.read.new.self in
    let half = c.in_ok-half.half in
    let spare = c.other-spare.result in
    if_some (seen old.zero.disk) _ (λ zero is_zero. if_some (seen old.one.disk) _ (λ one is_one _.
    both_lost old.head zero one half spare c.other-spare.ensures
    (is_lost seen old.head mid.head half mid.zero mid.one zero one c.in_ok-mine.mine c.newer.ensures.still.head (c.newer.ensures.zero.same ∙ is_zero) (c.newer.ensures.one.same ∙ is_one) (ap (λ o. is_some o) c.in_default.is) c.in_ok-mine.ensures.none)
    (is_lost seen old.head last.head spare last.zero last.one zero one c.in_ok-theirs.theirs (c.read.ensures.still.head ∙ c.newer.ensures.still.head) (c.read.ensures.zero.same ∙ c.newer.ensures.zero.same ∙ is_zero)
    (c.read.ensures.one.same ∙ c.newer.ensures.one.same ∙ is_one) (ap (λ o. is_some o) c.in-None.is) c.in_ok-theirs.ensures.none)))
