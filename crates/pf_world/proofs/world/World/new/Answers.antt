use Rattle.std.proofs.Common.{◌≡◌, ◌+◌, [], reverse, length, length-append, arith, sym, ap, subst, ◌∙◌}
use Rattle.std.specs.List.{flat_map}
use Rattle.std.proofs.lemmas.List.{reverse-reverse}
use Rattle.pf_protocol.specs.Answers.{IsSetup}
use Rattle.pf_live_session.specs.pf_group.specs.Making.{setup_with}
use Rattle.pf_world_hosts.specs.Steps.{FleetIs}
use Rattle.pf_move.specs.Routes.{AreFirst}
use Rattle.pf_volume.specs.Volumes.{Extent}
use Rattle.pf_world.specs.Views.{WorldIs, WorldOn}
use Rattle.pf_world.specs.Disks.{six_list}
use Rattle.pf_world.proofs.Sixes.{length_sixes}
use Rattle.pf_world.proofs.Begun.{Begun, all_made, all_new, are_begun, begun_low, begun_more, begun_none, begun_rest, begun_spare, volume_extent, volume_setup}
use Rattle.pf_world.proofs.world.World.new.Goals as goal

pub new-requires-2 : goal.new-requires-2
new-requires-2 g c = volume_extent c.args.chunks c.args.sectors c.args.names c.args.format c.requires.volume

pub loop-number-init : goal.loop-number-init
loop-number-init g c = record {
  begun = begun_none g.D.Disk.faults g.D.Disk.tells c.args.disks.items (reverse c.reverse.new.self.items) c.args.sectors c.args.names c.args.format c.new.result.items c.new-3.result c.new.ensures.items
      (ap reverse c.reverse.ensures.items ∙ reverse-reverse c.args.disks.items) (ap (λ (f : FleetIs). f.layout) c.new-3.ensures.new) (ap (λ (f : FleetIs). f.hosts) c.new-3.ensures.new) (ap (λ (f : FleetIs). f.calls) c.new-3.ensures.new) (ap (λ (f : FleetIs). f.mover) c.new-3.ensures.new);
  extent = ap (λ (f : FleetIs). f.volume) c.new-3.ensures.new ∙ c.new-2.ensures;
  routes = subst (λ (v : Extent). AreFirst v.chunks c.new-3.result.routes) c.new-2.ensures c.new-3.ensures.routes;
}

pub add-requires-clause-setup : goal.add-requires-clause-setup
add-requires-clause-setup g c =
    let b = c.loop-number.invariant.begun in
    subst (λ n. IsSetup (setup_with n c.loop-number.world.world.names c.loop-number.world.world.format [])) (sym b.sectors_are)
    (subst (λ n. IsSetup (setup_with c.args.sectors n c.loop-number.world.world.format [])) (sym b.names_are)
    (subst (λ n. IsSetup (setup_with c.args.sectors c.args.names n [])) (sym b.format_is)
    (volume_setup c.args.chunks c.args.sectors c.args.names c.args.format c.requires.volume)))

pub add-requires-clause-disks : goal.add-requires-clause-disks
add-requires-clause-disks g c =
    let b = c.loop-number.invariant.begun in
    omega (arith, c.requires.disks, c.loop-number-test.true, ap length b.given, length-append (flat_map six_list b.sixes) c.loop-number.world.spare, length_sixes b.sixes, b.many)

pub returns-in-Err-clause-back : goal.returns-in-Err-clause-back
returns-in-Err-clause-back g c =
    let b : Begun g.D.Disk.faults g.D.Disk.tells c.args.disks.items c.args.sectors c.args.names c.args.format c.loop-number.number c.add.new.self c.loop-number.answer =
    subst (λ (w : WorldOn g.row.D.Denot). Begun g.D.Disk.faults g.D.Disk.tells c.args.disks.items c.args.sectors c.args.names c.args.format c.loop-number.number w c.loop-number.answer) (sym c.in-Err.ensures.err) c.loop-number.invariant.begun in (
      c.add.new.self.world.chunks,
      are_begun g.D.Disk.faults g.D.Disk.tells c.args.disks.items c.loop-number.number c.args.sectors c.args.names c.args.format c.add.new.self c.loop-number.answer b c.args.chunks (omega (arith, c.loop-number-test.true)),
      c.close.ensures c.args.disks.items
          (begun_rest g.D.Disk.faults g.D.Disk.tells c.args.disks.items c.loop-number.number c.args.sectors c.args.names c.args.format c.add.new.self c.loop-number.answer b)
          (begun_low g.D.Disk.faults g.D.Disk.tells c.args.disks.items c.loop-number.number c.args.sectors c.args.names c.args.format c.add.new.self c.loop-number.answer b),
    )

pub loop-number-preserved : goal.loop-number-preserved
loop-number-preserved g c = record {
  begun = subst (Begun g.D.Disk.faults g.D.Disk.tells c.args.disks.items c.args.sectors c.args.names c.args.format (c.loop-number.number + 1) c.add.new.self) (sym c.unless_done-answer.ensures)
      (begun_more g.D.Disk.faults g.D.Disk.tells c.args.disks.items c.args.sectors c.args.names c.args.format c.loop-number.number c.loop-number.world c.add.new.self c.loop-number.answer c.in-Ok.made c.loop-number.invariant.begun c.in-Ok.ensures.added);
  extent = ap (λ (w : WorldIs). w.fleet.volume) c.in-Ok.ensures.added.world ∙ c.loop-number.invariant.extent;
  routes = subst (AreFirst c.args.chunks) (sym (ap (λ (w : WorldIs). w.fleet.routes) c.in-Ok.ensures.added.world)) c.loop-number.invariant.routes;
}

pub returns-clause-made : goal.returns-clause-made
returns-clause-made g c =
    let all : c.loop-number.number ≡ c.args.chunks = omega (arith, c.loop-number-test.false, c.loop-number.auto.number-end) in
    let b = subst (λ n. Begun g.D.Disk.faults g.D.Disk.tells c.args.disks.items c.args.sectors c.args.names c.args.format n c.loop-number.world c.loop-number.answer) all c.loop-number.invariant.begun in
    all_made g.D.Disk.faults g.D.Disk.tells c.args.disks.items c.args.chunks c.args.sectors c.args.names c.args.format c.loop-number.world c.loop-number.answer b c.requires.volume c.loop-number.invariant.extent c.loop-number.invariant.routes

pub returns-clause-fresh : goal.returns-clause-fresh
returns-clause-fresh g c = all_new g.D.Disk.faults g.D.Disk.tells c.args.disks.items c.loop-number.number c.args.sectors c.args.names c.args.format c.loop-number.world c.loop-number.answer c.loop-number.invariant.begun

pub returns-clause-spare : goal.returns-clause-spare
returns-clause-spare g c =
    let all : c.loop-number.number ≡ c.args.chunks = omega (arith, c.loop-number-test.false, c.loop-number.auto.number-end) in
    let b = subst (λ n. Begun g.D.Disk.faults g.D.Disk.tells c.args.disks.items c.args.sectors c.args.names c.args.format n c.loop-number.world c.loop-number.answer) all c.loop-number.invariant.begun in
    sym (begun_spare g.D.Disk.faults g.D.Disk.tells c.args.disks.items c.args.chunks c.args.sectors c.args.names c.args.format c.loop-number.world c.loop-number.answer b)
