use Rattle.std.proofs.Common.{◌≡◌, ◌+◌, ◌<◌, [], List, length, reverse, slice_get, refl, sym, ap, subst, ◌∙◌, arith}
use Rattle.pf_live_session.specs.pf_chunk.specs.Runs.{ChunkRun}
use Rattle.pf_live_session.specs.pf_chunk.specs.Views.{ChunkIs}
use Rattle.pf_world_hosts.specs.Moves as moves
use Rattle.pf_world.specs.Making.{HasBegunMove, HasMade}
use Rattle.pf_world.specs.Views.{IsWorld, WorldOn}
use Rattle.pf_world.proofs.VolumeEvents.{chunks_ready}
use Rattle.pf_world.proofs.MoveLines.{begun_world}
use Rattle.pf_world.proofs.world.World.begin_move.Goals as goal

pub begin_move-requires-clause-ready : goal.begin_move-requires-clause-ready
begin_move-requires-clause-ready g c =
    let same : c.reserve.new.self.items ≡ c.args.self.now.world.chunks = c.reserve.ensures.items ∙ ap (λ (v : WorldOn g.row.D.Denot). v.world.chunks) c.self.view_is in
    λ k x at. chunks_ready c.args.self.now.world c.requires.world k x (ap (λ (cs : List ChunkIs). slice_get cs k) (sym same) ∙ at)

pub begin_move-requires-clause-new : goal.begin_move-requires-clause-new
begin_move-requires-clause-new g c = (c.in_ok-group.ensures.made.ready, ap (λ (r : ChunkRun). r.ports) (c.in_ok-group.ensures.made.run []))

pub returns-clause-begun : goal.returns-clause-begun
returns-clause-begun g c =
    let w = c.self.inside in
    let group = c.in_ok-group.group in
    let old : WorldOn g.row.D.Denot = record { world = record { sectors = w.sectors; names = w.names; format = w.format; chunks = w.chunks.items; fleet = w.fleet; moves = w.moves; kind = w.kind; passes = w.passes }; spare = reverse w.spare.items } in
    let now : WorldOn g.row.D.Denot = record { world = record { sectors = w.sectors; names = w.names; format = w.format; chunks = c.begin_move.new.chunks.items; fleet = c.begin_move.new.self; moves = w.moves; kind = w.kind; passes = w.passes }; spare = reverse c.make.new.spare.items } in
    let number : c.len-number.result ≡ length w.chunks.items = omega (arith, c.len-number.ensures, w.chunks.ok.0) in
    let made = subst (λ n. HasMade g.D.Disk.faults g.D.Disk.tells n w.sectors w.names w.format (reverse w.spare.items) group c.in_ok-group.field-0-1 (reverse c.make.new.spare.items)) number c.in_ok-group.ensures.made in
    let begun = subst (λ (cs : List ChunkIs). moves.HasBegunMove c.args.chunk group cs w.fleet c.begin_move.new.chunks.items c.begin_move.new.self) c.reserve.ensures.items c.begin_move.ensures in
    let world : IsWorld old.world = subst (λ (v : WorldOn g.row.D.Denot). IsWorld v.world) (sym c.self.view_is) c.requires.world in
    let fits : length w.chunks.items < w.fleet.volume.chunks + w.moves = subst (λ (v : WorldOn g.row.D.Denot). length v.world.chunks < v.world.fleet.volume.chunks + v.world.moves) (sym c.self.view_is) c.requires.moves in
    let few : length w.chunks.items < 8 = subst (λ (v : WorldOn g.row.D.Denot). length v.world.chunks < 8) (sym c.self.view_is) c.requires.few in
    subst (λ (v : WorldOn g.row.D.Denot). HasBegunMove g.D.Disk.faults g.D.Disk.tells c.args.chunk v c.len-number.result now) c.self.view_is (record {
      number_is = number;
      is_world = begun_world old.world c.args.chunk group g.D.Disk.tells _ c.in_ok-group.field-0-1 world made.made c.begin_move.new.chunks.items c.begin_move.new.self begun fits few;
      group = group;
      answer = c.in_ok-group.field-0-1;
      made = made;
      begun = begun;
      others = refl;
    })
