use Rattle.std.proofs.Common.{◌≡◌, Bool, IsTrue, List, Some, slice_get, arith, sym, subst, rules}
use Rattle.std.proofs.lemmas.Option.{slice_get_within}
use Rattle.pf_live_session.specs.pf_chunk.specs.Views.{ChunkIs}
use Rattle.pf_live_session.specs.pf_group.specs.Crashing.{AllLeaveAtCrash}
use Rattle.pf_world.specs.Headline.{IsLawfulGroup}
use Rattle.pf_world.proofs.Lawful.{one_more}
use Rattle.pf_world.proofs.world.World.laws.Goals as goal

pub loop-chunk-init : goal.loop-chunk-init
loop-chunk-init g c = record {
  lawful = λ k x lt there. absurd (omega (arith, lt));
  crash = λ tells k x lt there. absurd (omega (arith, lt));
}

pub loop-chunk-preserved : goal.loop-chunk-preserved
loop-chunk-preserved g c = record {
  lawful = one_more IsLawfulGroup c.deref-chunk-items.result.now c.loop-chunk.chunk-index c.chunk-item.result c.chunk-item.is c.loop-chunk-test.true (record { legal = c.laws.ensures.legal; sound = c.laws.ensures.sound }) c.loop-chunk.invariant.lawful;
  crash = λ tells. one_more (AllLeaveAtCrash g.D.Disk.seen g.D.Disk.moment g.D.Disk.left_since g.D.Disk.tells_moments) c.deref-chunk-items.result.now c.loop-chunk.chunk-index c.chunk-item.result c.chunk-item.is c.loop-chunk-test.true (c.laws.ensures.crash (subst (λ (b : Bool). IsTrue b) (sym c.laws.ensures.told) tells)) (c.loop-chunk.invariant.crash tells);
}

pub returns-clause-sound : goal.returns-clause-sound
returns-clause-sound g c k x there =
    let here = subst (λ (l : List ChunkIs). slice_get l k ≡ Some x) (search rules) there in
    c.loop-chunk.invariant.lawful k x (omega (arith, slice_get_within c.deref-chunk-items.result.now k x here, c.loop-chunk-test.false)) here

pub returns-clause-crash : goal.returns-clause-crash
returns-clause-crash g c tells k x there =
    let here = subst (λ (l : List ChunkIs). slice_get l k ≡ Some x) (search rules) there in
    c.loop-chunk.invariant.crash tells k x (omega (arith, slice_get_within c.deref-chunk-items.result.now k x here, c.loop-chunk-test.false)) here
