use Rattle.std.proofs.Common.{◌+◌, arith, refl, subst}
use Rattle.std.proofs.lemmas.Bool.{false≢true}
use Rattle.pf_server_restart.specs.Beginning.{setup_of_seat}
use Rattle.pf_server_restart.specs.Testing.{AreInPlace}
use Rattle.pf_server_restart.proofs.StateTests.{all_sound, refuted, sound_none, sound_there, sound_to, within_here}
use Rattle.pf_server_restart.proofs.fitting.is_log.Goals as goal

pub loop-passed-init : goal.loop-passed-init
loop-passed-init c = record {
  here = c.base-base.ensures.base;
  passed = sound_none (setup_of_seat c.args.seat.now) c.base-base.result c.args.log.now.entries (within_here c.args.log.now.base c.base-base.result c.args.log.now.entries c.base-base.ensures.base c.base-base.ensures.within);
}

pub returns-then-not-is_sound_at : goal.returns-then-not-is_sound_at
returns-then-not-is_sound_at c = (
  λ passes. absurd (false≢true passes),
  λ all. absurd (refuted c.is_sound_at.ensures c.if-not-is_sound_at.true (sound_there (setup_of_seat c.args.seat.now) c.args.log.now.base (c.base-base.result + c.loop-passed.passed + 1) c.args.log.now.entries all)),
)

pub loop-passed-preserved : goal.loop-passed-preserved
loop-passed-preserved c = record {
  here = c.base-base.ensures.base;
  passed = sound_to (setup_of_seat c.args.seat.now) c.base-base.result c.args.log.now.entries (within_here c.args.log.now.base c.base-base.result c.args.log.now.entries c.base-base.ensures.base c.base-base.ensures.within)
      c.loop-passed.passed c.loop-passed.invariant.passed (c.is_sound_at.ensures.0 c.if-not-is_sound_at.false);
}

pub returns : goal.returns
returns c = (
  λ _. subst (λ base. AreInPlace (setup_of_seat c.args.seat.now) base c.args.log.now.entries) c.base-base.ensures.base
      (all_sound (setup_of_seat c.args.seat.now) c.base-base.result c.args.log.now.entries (within_here c.args.log.now.base c.base-base.result c.args.log.now.entries c.base-base.ensures.base c.base-base.ensures.within)
      (λ slot e le at. c.loop-passed.invariant.passed slot e (omega (arith, le, c.loop-passed-test.false)) at)),
  λ _. refl,
)
