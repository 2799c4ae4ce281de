use Rattle.std.proofs.Common.{refl, subst}
use Rattle.pf_protocol.specs.declared.events.Event.TheVariants.{Claim}
use Rattle.pf_shared.specs.Calls.{JobIsTaken, OnJob, SeatSteps}
use Rattle.pf_shared.specs.Seats.{IsAlone, number_of, root_in, seen_by}
use Rattle.pf_live_seats.proofs.Hands.{finds_nothing, still, takes_job}
use Rattle.pf_live_seats.proofs.applying.Applier.claim.Goals as goal

pub returns-in-Job-clause-job : goal.returns-in-Job-clause-job
returns-in-Job-clause-job g c = let a = c.args.self.now in let group = c.args.line.now.group in let e = c.claim.ensures in let n = number_of a.seat in let k = c.in-Ok.ensures in
    let taken = subst (λ x. OnJob x (JobIsTaken n (seen_by a.seat) (seen_by c.claim.new.seat))) c.in-Job.is k.taken in
    takes_job group n a _ refl e.seat.1.0 e.seat.0 (IsAlone a.seat) (root_in group) c.in-Job.job c.requires.is
    (subst (λ x. SeatSteps (root_in group) n (IsAlone a.seat) (seen_by a.seat) Claim x (seen_by c.claim.new.seat)) c.in-Job.is k.step) taken.in_hand c.requires.on refl

pub returns-in_default-clause-none : goal.returns-in_default-clause-none
returns-in_default-clause-none g c = let a = c.args.self.now in let group = c.args.line.now.group in let e = c.claim.ensures in
    finds_nothing group (number_of a.seat) a _ refl e.seat.1.0 e.seat.0 (IsAlone a.seat) (root_in group) c.in-Ok.answer c.requires.is c.in-Ok.ensures.step c.in_default.not-Job c.requires.on refl

pub returns-in-Err-clause-err : goal.returns-in-Err-clause-err
returns-in-Err-clause-err g c = let a = c.args.self.now in let group = c.args.line.now.group in let e = c.claim.ensures in
    still group (number_of a.seat) a _ refl e.seat.1.0 e.seat.0 (IsAlone a.seat) c.requires.is c.in-Err.ensures.err c.requires.on refl
