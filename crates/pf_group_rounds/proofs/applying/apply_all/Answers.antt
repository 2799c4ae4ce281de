use Rattle.std.proofs.Common.{◌≡◌, ◌≤◌, ◌+◌, ◌-◌, ℕ, suc, subst, arith}
use Rattle.std.specs.Prelude.{IsTrue}
use Rattle.pf_protocol.specs.Answers.{IsLegal}
use Rattle.pf_group.specs.GroupIs.{GroupIs}
use Rattle.pf_group_rounds.proofs.HistoryParts.{adds_goes, adds_refl, adds_trans, goes_on, grown}
use Rattle.pf_group_rounds.specs.Adding.{Adds}
use Rattle.pf_group_rounds.proofs.Begun.{begun}
use Rattle.pf_group_rounds.proofs.Bound.{few_jobs}
use Rattle.pf_group_rounds.proofs.Closures.{legal_closed}
use Rattle.pf_group_rounds.proofs.RunRounds.{RoundsSoFar, last_round, more_rounds, no_rounds}
use Rattle.pf_group_rounds.proofs.applying.apply_all.Goals as goal

pub loop-init : goal.loop-init
loop-init g c = record { adds = adds_refl c.args.group.now; none = c.requires.none; some = omega arith; few = omega arith; run = no_rounds c.args.group.now }

pub returns-in_default-clause-grown : goal.returns-in_default-clause-grown
returns-in_default-clause-grown g c =
    let old = c.args.group.now in let new = c.round.new.group in
    grown old new (goes_on old c.loop.group new _ _ c.loop.invariant.adds c.round.ensures.goes)

pub returns-in_default-clause-begun : goal.returns-in_default-clause-begun
returns-in_default-clause-begun g c =
    let old = c.args.group.now in let now = c.loop.group in let new = c.round.new.group in let i = c.loop.invariant in
    begun old now new (12289 - c.loop.counter) (adds_goes old now _ _ i.adds) i.run c.in_default.ensures.returned c.laws.ensures.legal i.none c.round.ensures.none

pub returns-then-done-eq0-clause-grown : goal.returns-then-done-eq0-clause-grown
returns-then-done-eq0-clause-grown g c =
    let old = c.args.group.now in let new = c.round.new.group in
    grown old new (goes_on old c.loop.group new _ _ c.loop.invariant.adds c.round.ensures.goes)

pub returns-then-done-eq0-clause-run : goal.returns-then-done-eq0-clause-run
returns-then-done-eq0-clause-run g c =
    let old = c.args.group.now in let now = c.loop.group in
    let left : 12289 - c.loop.counter ≡ suc (12288 - c.loop.counter) = omega arith in
    last_round old now c.round.new.group (12288 - c.loop.counter) c.in-Ok.done c.if-done-eq0.true c.in-Ok.ensures.run c.round.ensures.goes (subst (RoundsSoFar old now) left c.loop.invariant.run)

pub returns-then-done-eq0-clause-applied : goal.returns-then-done-eq0-clause-applied
returns-then-done-eq0-clause-applied g c told = c.in-Ok.ensures.applied c.if-done-eq0.true told

pub returns-then-done-eq0-clause-closed : goal.returns-then-done-eq0-clause-closed
returns-then-done-eq0-clause-closed g c told i s runs =
    let new = c.round.new.group in
    legal_closed new.setup new.history i s (c.laws-then-done-eq0.ensures.legal told) c.round.ensures.none (c.in-Ok.ensures.applied c.if-done-eq0.true told) runs

pub returns-then-done-eq0-clause-adds : goal.returns-then-done-eq0-clause-adds
returns-then-done-eq0-clause-adds g c =
    let old = c.args.group.now in let now = c.loop.group in let new = c.round.new.group in let done = c.in-Ok.done in
    let both = adds_trans old now new c.loop.count c.loop.count done done c.loop.invariant.adds c.in-Ok.ensures.adds in
    let none : c.loop.count + done ≡ c.loop.count = omega (arith, c.if-done-eq0.true) in
    subst (λ n. Adds old new n n) none both

pub loop-preserved : goal.loop-preserved
loop-preserved g c =
    let old = c.args.group.now in let now = c.loop.group in let new = c.round.new.group in let i = c.loop.invariant in let done = c.in-Ok.done in
    let left : 12289 - c.loop.counter ≡ suc (12289 - (c.loop.counter + 1)) = omega arith in
    record {
      adds = adds_trans old now new c.loop.count c.loop.count done done i.adds c.in-Ok.ensures.adds;
      none = c.round.ensures.none;
      some = omega (arith, i.some, c.if-done-eq0.false);
      few = omega (arith, i.few, c.in-Ok.ensures.few);
      run = more_rounds old now new (12289 - (c.loop.counter + 1)) done c.if-done-eq0.false c.in-Ok.ensures.run c.round.ensures.goes (subst (RoundsSoFar old now) left i.run);
    }

-- so many jobs do not stand in a legal history
too_many : (old new : GroupIs) (count : ℕ) → Adds old new count count → 12289 ≤ count → (IsTrue new.told → IsLegal new.setup new.history) → IsTrue new.told → ⊥
too_many old new count adds many legal told =
    let is = subst (λ (g : GroupIs). IsLegal g.setup g.history) adds.recorded (legal told) in
    omega (arith, few_jobs old.setup old.history adds.more is.is_setup.window is adds.round, adds.jobs, many)

pub returns-clause-grown : goal.returns-clause-grown
returns-clause-grown g c = grown c.args.group.now c.loop.group (adds_goes c.args.group.now c.loop.group _ _ c.loop.invariant.adds)

pub returns-clause-run : goal.returns-clause-run
returns-clause-run g c halts tells = absurd (too_many c.args.group.now c.loop.group c.loop.count c.loop.invariant.adds (omega (arith, c.loop.invariant.some)) c.laws-2.ensures.legal tells.told)

pub returns-clause-applied : goal.returns-clause-applied
returns-clause-applied g c told = absurd (too_many c.args.group.now c.loop.group c.loop.count c.loop.invariant.adds (omega (arith, c.loop.invariant.some)) c.laws-2.ensures.legal told)

pub returns-clause-closed : goal.returns-clause-closed
returns-clause-closed g c told i s runs = absurd (too_many c.args.group.now c.loop.group c.loop.count c.loop.invariant.adds (omega (arith, c.loop.invariant.some)) c.laws-2.ensures.legal told)
