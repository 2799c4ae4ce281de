use Rattle.std.proofs.Common.{refl, subst, sym}
use Rattle.pf_protocol.specs.declared.answers.Answer.TheVariants.{Done}
use Rattle.pf_protocol.specs.declared.events.Event.TheVariants.{Finish}
use Rattle.pf_shared.specs.Calls.{SeatSteps}
use Rattle.pf_shared.specs.Seats.{IsAlone, number_of, root_in, seen_by}
use Rattle.pf_live_seats.specs.Workers.{Holds}
use Rattle.pf_live_seats.proofs.Hands.{ends_job, has_claimed, returns_job}
use Rattle.pf_live_seats.proofs.applying.Applier.bring.Goals as goal

pub finish-requires-clause-claimed : goal.finish-requires-clause-claimed
finish-requires-clause-claimed g c = let a = c.args.self.now in has_claimed (number_of a.seat) (seen_by a.seat) c.args.job c.in-Ok.filled c.in-Ok.ensures.filled c.requires.in_hand

pub give_up-requires : goal.give_up-requires
give_up-requires g c = let a = c.args.self.now in let group = c.args.line.now.group in let e = c.drop_job.ensures in
    returns_job group (number_of a.seat) a _ refl e.seat.1.0 e.seat.0 (IsAlone a.seat) (root_in group) c.in-Err.job Done (subst (λ j. Holds group j a) (sym c.in-Err.ensures.back) c.requires) e.step c.requires.on refl

pub returns-in-Ok-clause-is : goal.returns-in-Ok-clause-is
returns-in-Ok-clause-is g c = let a = c.args.self.now in let group = c.args.line.now.group in let e = c.finish.ensures in
    ends_job group (number_of a.seat) a _ refl e.seat.1.0 e.seat.0 (IsAlone a.seat) (root_in group) c.args.job c.finish.result c.requires
    (subst (λ f. SeatSteps (root_in group) (number_of a.seat) (IsAlone a.seat) (seen_by a.seat) (Finish f.server f.life f.slot) c.finish.result (seen_by c.finish.new.seat)) c.in-Ok.ensures.filled e.step) c.requires.on refl
