use Rattle.std.proofs.Common.{◌≡◌, None, arith, sym, ap, ◌∙◌, subst}
use Rattle.pf_turn.specs.Lists.{entries_of}
use Rattle.pf_live_seats.specs.pf_shared.specs.Hands.{hand_of}
use Rattle.pf_live_seats.specs.pf_shared.specs.Seats.{number_of, root_in, seen_by, splits_of}
use Rattle.pf_live_seats.specs.Roles.{HasRunOut}
use Rattle.pf_live_line.proofs.SeatKnowledge.{knows_applier}
use Rattle.pf_live_line.proofs.taking.take_applier.Goals as goal

pub take_in-requires-clause-known : goal.take_in-requires-clause-known
take_in-requires-clause-known g c = let a = c.end.new.self in let e = c.end.ensures in let line = c.args.line.now in let begun = c.args.begun.now.value in let r = c.requires.number in
    knows_applier line.plan (root_in line.group) (seen_by begun) (splits_of begun) (seen_by c.args.submitted.now.value) (number_of a.seat) (seen_by a.seat) (omega (arith, e.same.0, r.0)) (omega (arith, e.same.0, r.1)) e.is.steps

pub returns-clause-free : goal.returns-clause-free
returns-clause-free g c k = let e = c.end.ensures in subst (λ m. hand_of k None (entries_of m (seen_by c.take_in.new.first)) ≡ None) e.same.0 (ap (hand_of k None) c.take_in.ensures.brought ∙ e.is.free k)

pub returns-clause-last : goal.returns-clause-last
returns-clause-last g c none = let a = c.end.new.self in let e = c.end.ensures in let first = c.take_in.new.first in
    subst (λ m. HasRunOut m (entries_of m (seen_by first))) e.same.0
    (subst (HasRunOut (number_of a.seat)) (sym c.take_in.ensures.brought) (record { last = e.is.ended e.ended none; kept = e.is.kept none }))
