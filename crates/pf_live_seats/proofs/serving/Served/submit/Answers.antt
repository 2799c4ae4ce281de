use Rattle.std.proofs.Common.{inr, IfOk, ap, subst}
use Rattle.pf_shared.specs.Seats.{IsAlone, number_of, seen_by}
use Rattle.pf_live_seats.specs.Submitters.{RequestIsHanded}
use Rattle.pf_live_seats.proofs.SubmitterTurns.{handed_leader, handed_turn}
use Rattle.pf_live_seats.proofs.serving.Served.submit.Goals as goal

pub returns-in_err-_told-clause-turn : goal.returns-in_err-_told-clause-turn
returns-in_err-_told-clause-turn g c = let s = c.args.seat.now in let e = c.hand-handed.ensures in
    handed_turn (number_of s) (IsAlone s) (seen_by s) (seen_by c.hand-handed.new.seat) c.hint-server.new.pass c.hint-server.result.1 c.args.request (ap (λ p. p.1) c.hint-server.ensures.seen.1) c.hand-handed.result e.handed e.err

pub returns-clause-turn : goal.returns-clause-turn
returns-clause-turn g c = let s = c.args.seat.now in let e = c.hand-handed.ensures in
    handed_turn (number_of s) (IsAlone s) (seen_by s) (seen_by c.hand-handed.new.seat) c.hint-server.new.pass c.hint-server.result.1 c.args.request (ap (λ p. p.1) c.hint-server.ensures.seen.1) c.hand-handed.result e.handed e.err

pub returns-clause-handed : goal.returns-clause-handed
returns-clause-handed g c = let s = c.args.seat.now in let new = seen_by c.hand-handed.new.seat in let server = c.hint-server.result.1 in
    inr (
      c.in_ok-_told._told,
      handed_leader (number_of s) (IsAlone s) (seen_by s) new c.hint-server.new.pass server c.args.request (ap (λ p. p.1) c.hint-server.ensures.seen.1) c.in_ok-_told._told
          (subst (λ r. IfOk r (λ told. RequestIsHanded (number_of s) (IsAlone s) (seen_by s) server c.args.request told new)) c.in_ok-_told.was c.hand-handed.ensures.handed),
    )
