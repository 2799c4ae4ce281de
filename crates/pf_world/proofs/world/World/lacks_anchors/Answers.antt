use Rattle.std.proofs.Common.{sym, ap, subst, ◌∙◌}
use Rattle.pf_volume.specs.Volumes.{IsVolume}
use Rattle.pf_world.specs.Views.{WorldOn}
use Rattle.pf_world.specs.Lines.{lacks_anchors}
use Rattle.pf_world.proofs.AnchorLines.{lacks_is}
use Rattle.pf_world.proofs.world.World.lacks_anchors.Goals as goal

pub returns : goal.returns
returns g c =
    let same = ap (λ (o : WorldOn g.row.D.Denot). o.world.fleet.volume) c.self.view_is in
    let volume = subst IsVolume (sym same) c.requires.world.is_fleet.are_hosts.volume in
    lacks_is c.has_anchors.result c.self.inside.fleet.volume volume c.has_anchors.ensures ∙ ap lacks_anchors same
