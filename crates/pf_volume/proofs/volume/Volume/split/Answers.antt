use Rattle.std.proofs.Common.{rules, ◌≡◌, ◌∙◌, ap, subst, ℕ, ◌<◌, ◌+◌}
use Rattle.pf_volume.specs.Volumes.{place_of, size_of}
use Rattle.pf_volume.proofs.RunSectors.{one_more_below, one_more_place}
use Rattle.pf_volume.proofs.volume.Volume.split.Goals as goal

pub loop-k-preserved : goal.loop-k-preserved
loop-k-preserved c =
    let e : c.in-Some.sector ≡ c.args.first + c.loop-k.k = search rules in
    let below : ℕ → Type 0 = λ n. n < size_of c.args.self.now in
    let here = c.in_ok-place.ensures in (
      c.in_ok-push.ensures.items ∙ one_more_place c.args.self.now c.args.first c.loop-k.k c.loop-k.places.items c.in_ok-place.place c.loop-k.invariant.0 (here.1 ∙ ap (place_of c.args.self.now) e),
      one_more_below c.args.first c.loop-k.k (size_of c.args.self.now) c.loop-k.invariant.1 (subst below e here.0),
    )
