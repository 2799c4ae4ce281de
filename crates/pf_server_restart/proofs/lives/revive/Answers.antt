use Rattle.std.proofs.Common.{◌<◌, ◌^◌, ◌∙◌, Some, subst, sym}
use Rattle.std.proofs.lemmas.Bool.{false≢true}
use Rattle.pf_server_restart.specs.Beginning.{MayBegin, setup_of_seat}
use Rattle.pf_server_restart.specs.Recovering.{Recovers}
use Rattle.pf_server_restart.specs.Reviving.{IsRevived}
use Rattle.pf_server_restart.specs.Testing.{StatePasses}
use Rattle.pf_server_restart.proofs.StateTests.{fit_window, may_window}
use Rattle.pf_server_restart.proofs.lives.revive.Goals as goal

pub recover-requires : goal.recover-requires
recover-requires c = c.requires.stands.1.image

pub returns-in_default-clause-ours : goal.returns-in_default-clause-ours
returns-in_default-clause-ours c = λ _ d stands may. subst (Recovers c.args.found) c.in_default.is c.in_ok-tables.ensures d stands (may_window c.args.seat.now d may)

pub returns-in_default-clause-unfit : goal.returns-in_default-clause-unfit
returns-in_default-clause-unfit c = λ _ d stands fit. subst (Recovers c.args.found) c.in_default.is c.in_ok-tables.ensures d stands (fit_window (setup_of_seat c.args.seat.now) d fit)

pub returns-then-not-branch-clause-unfit : goal.returns-then-not-branch-clause-unfit
returns-then-not-branch-clause-unfit c = λ _ d stands fit.
    let read : Recovers c.args.found (Some c.in-Some.tables) = subst (Recovers c.args.found) c.in-Some.is c.in_ok-tables.ensures in
    c.in_ok-fits.ensures.unfit c.if-not-branch.true (subst (StatePasses (setup_of_seat c.args.seat.now)) (sym (read d stands).state) fit)

pub begin-requires-clause-unmarked : goal.begin-requires-clause-unmarked
begin-requires-clause-unmarked c = let read : Recovers c.args.found (Some c.in-Some.tables) = subst (Recovers c.args.found) c.in-Some.is c.in_ok-tables.ensures in (read c.requires.stands.0 c.requires.stands.1).unmarked

pub returns-clause-begun : goal.returns-clause-begun
returns-clause-begun c = λ d stands.
    let read : Recovers c.args.found (Some c.in-Some.tables) = subst (Recovers c.args.found) c.in-Some.is c.in_ok-tables.ensures in
    let state = (read d stands).state in
    subst (λ x. IsRevived x c.in_ok-begin.field-0 c.args.seat.now c.args.life × (x.generation < 2 ^ 63)) state (c.in_ok-begin.ensures, (c.in_ok-fits.ensures.fits c.if-not-branch.false).1)

pub returns-then-not-branch-clause-ours : goal.returns-then-not-branch-clause-ours
returns-then-not-branch-clause-ours c = λ _ d stands may.
    let read : Recovers c.args.found (Some c.in-Some.tables) = subst (Recovers c.args.found) c.in-Some.is c.in_ok-tables.ensures in
    absurd (false≢true (sym c.if-not-branch.true ∙ c.in_ok-fits.ensures.ours (subst (MayBegin (setup_of_seat c.args.seat.now)) (sym (read d stands).state) may)))
