use Rattle.std.proofs.Common.{◌%◌, ◌<◌, subst, ◌∙◌}
use Rattle.pf_holes.proofs.Found.{put_at}
use Rattle.pf_holes.proofs.ring.SlotRing.put.Goals as goal

pub returns : goal.returns
returns g c =
    put_at c.reach.new.places.items c.args.self.now c.args.slot c.args.value (c.reach.ensures.same ∙ c.self.view_is) c.reach.ensures.ring
    (subst (λ n. c.args.slot % 4096 < n) c.reach.new.places.ok.0 c.reach.ensures.made) c.requires
