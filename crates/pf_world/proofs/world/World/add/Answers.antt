use Rattle.std.proofs.Common.{◌≡◌, [], ◌∷◌, ◌++◌, List, length, reverse, sym, ap, subst, ◌∙◌}
use Rattle.pf_live_session.specs.pf_chunk.specs.Views.{ChunkIs}
use Rattle.pf_world.specs.Views.{WorldIs, WorldOn}
use Rattle.pf_world.specs.Making.{HasAdded, HasMade}
use Rattle.pf_world.proofs.world.World.add.Goals as goal

pub returns-clause-added : goal.returns-clause-added
returns-clause-added g c =
    let w = c.self.inside in
    let chunk = c.in_ok-chunk.chunk in
    let items : c.push_reserved.new.self.items ≡ w.chunks.items ++ chunk ∷ [] = c.push_reserved.ensures.items ∙ ap (λ (cs : List ChunkIs). cs ++ chunk ∷ []) c.reserve.ensures.items in
    let number : c.args.number ≡ length w.chunks.items = c.requires.number ∙ ap (λ (v : WorldOn g.row.D.Denot). length v.world.chunks) (sym c.self.view_is) in
    let with_chunks : List ChunkIs → WorldIs = λ cs. record { sectors = w.sectors; names = w.names; format = w.format; chunks = cs; fleet = w.fleet; moves = w.moves; kind = w.kind; passes = w.passes } in
    let now : WorldOn g.row.D.Denot = record { world = with_chunks c.push_reserved.new.self.items; spare = reverse c.make.new.spare.items } in
    subst (λ (v : WorldOn g.row.D.Denot). HasAdded g.D.Disk.faults g.D.Disk.tells v c.in_ok-chunk.answer now) c.self.view_is (record {
      chunk = chunk;
      made = subst (λ n. HasMade g.D.Disk.faults g.D.Disk.tells n w.sectors w.names w.format (reverse w.spare.items) chunk c.in_ok-chunk.answer (reverse c.make.new.spare.items)) number c.in_ok-chunk.ensures.made;
      world = ap with_chunks items;
    })
