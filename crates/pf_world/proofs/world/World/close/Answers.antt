use Rattle.std.proofs.Common.{◌≡◌, ◌*◌, ◌≤◌, Bool, IsTrue, List, length, drop, arith, sym, subst}
use Rattle.pf_world.specs.Views.{WorldOn}
use Rattle.pf_world.specs.Disks.{AreLeft}
use Rattle.pf_world.proofs.Sixes.{all_closed, closed_more, none_closed}
use Rattle.pf_world.proofs.world.World.close.Goals as goal

pub loop-chunk-init : goal.loop-chunk-init
loop-chunk-init g c = record {
  room = omega (arith, c.self.invariant, c.self.inside.chunks.ok.0);
  closing = none_closed g.D.Disk.seen g.D.Disk.may_leave g.D.Disk.faults g.D.Disk.moment g.D.Disk.left_since g.D.Disk.tells g.D.Disk.tells_moments c.self.inside.chunks.items c.self.inside.spare.items;
}

pub loop-chunk-preserved : goal.loop-chunk-preserved
loop-chunk-preserved g c =
    let six = c.into_disks.result in
    let e = c.into_disks.ensures in
    let told = c.laws.ensures.told in
    let tells = subst (λ (b : Bool). IsTrue b) (sym told) in
    record {
      room = omega (arith, c.loop-chunk.invariant.room, c.put_six.ensures.len, c.put_six.ensures.capacity, c.in-Some.ensures.cases, c.in-Some.ensures.capacity);
      closing = closed_more g.D.Disk.seen g.D.Disk.may_leave g.D.Disk.faults g.D.Disk.moment g.D.Disk.left_since g.D.Disk.tells g.D.Disk.tells_moments c.self.inside.chunks.items c.self.inside.spare.items c.loop-chunk.chunks.items c.pop.new.self.items c.loop-chunk.disks.items c.put_six.new.disks.items c.in-Some.chunk six
          c.loop-chunk.invariant.closing c.in-Some.ensures.items c.put_six.ensures.put (record {
            told = told;
            left_0 = λ t. e.left_0 (tells t);
            left_1 = λ t. e.left_1 (tells t);
            left_2 = λ t. e.left_2 (tells t);
            seen_0 = λ t. e.seen_0 (tells t);
            seen_1 = λ t. e.seen_1 (tells t);
            seen_2 = λ t. e.seen_2 (tells t);
            crash_0 = λ t. e.crash_0 (tells t);
            crash_1 = λ t. e.crash_1 (tells t);
            crash_2 = λ t. e.crash_2 (tells t);
            counts = e.faults;
          });
    }

pub returns : goal.returns
returns g c =
    let Left = λ (v : WorldOn g.row.D.Denot). (before : List g.row.D.Denot) → drop (6 * length v.world.chunks) before ≡ v.spare → 6 * length v.world.chunks ≤ length before → AreLeft g.D.Disk.seen g.D.Disk.may_leave g.D.Disk.faults g.D.Disk.moment g.D.Disk.left_since g.D.Disk.tells g.D.Disk.tells_moments v.world.chunks before c.reverse.new.self.items in
    subst Left c.self.view_is (λ before others enough.
    subst (λ ds. AreLeft g.D.Disk.seen g.D.Disk.may_leave g.D.Disk.faults g.D.Disk.moment g.D.Disk.left_since g.D.Disk.tells g.D.Disk.tells_moments c.self.inside.chunks.items before ds) (sym c.reverse.ensures.items)
    (all_closed g.D.Disk.seen g.D.Disk.may_leave g.D.Disk.faults g.D.Disk.moment g.D.Disk.left_since g.D.Disk.tells g.D.Disk.tells_moments c.self.inside.chunks.items c.self.inside.spare.items c.loop-chunk.chunks.items c.loop-chunk.disks.items before c.loop-chunk.invariant.closing (omega (arith, c.in_default.ensures.cases.0, c.loop-chunk.chunks.ok.0)) others enough))
