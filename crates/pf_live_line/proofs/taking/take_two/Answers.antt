use Rattle.std.proofs.Common.{◌≡◌, ◌-◌, arith, refl, ap, subst}
use Rattle.pf_turn.specs.Own.{EachOf}
use Rattle.pf_live_seats.specs.pf_shared.specs.Seats.{number_of, root_in, seen_by, splits_of}
use Rattle.pf_live_seats.specs.Switches.{Delivers}
use Rattle.pf_live_line.specs.Joining.{IsJoining}
use Rattle.pf_live_line.specs.Runs.{IsSince}
use Rattle.pf_live_line.proofs.SeatKnowledge.{after_two, joins_none, knows_submitter, knows_switch}
use Rattle.pf_live_line.proofs.taking.take_two.Goals as goal

pub take_in-requires-clause-joining : goal.take_in-requires-clause-joining
take_in-requires-clause-joining g c = let line = c.args.line.now in let begun = c.args.begun.now.value in let r = c.requires in let s = c.args.submitter in
    let low : splits_of begun ≡ number_of s.seat - 1 = omega (arith, r.submitter.number) in
    subst (λ m. IsJoining line.group line.plan begun c.of-submitted.result.value m c.args.first.now) low
    (joins_none line.group line.plan begun c.of-submitted.result.value c.args.first.now r.begun r.seat r.counts.0 r.counts.1 r.counts.2 r.seen)

pub take_in-requires-clause-known : goal.take_in-requires-clause-known
take_in-requires-clause-known g c = let line = c.args.line.now in let begun = c.args.begun.now.value in let s = c.args.submitter in let k = splits_of begun in
    subst (λ l. EachOf (number_of s.seat) (IsSince line.plan (root_in line.group) (seen_by begun) k (seen_by c.of-submitted.result.value) (number_of s.seat)) l) (ap seen_by c.of-submitted.ensures)
    (knows_submitter line.plan (root_in line.group) (seen_by begun) k (seen_by c.of-submitted.result.value) (number_of s.seat) c.requires.submitter.number)

pub take_in-requires-2-clause-known : goal.take_in-requires-2-clause-known
take_in-requires-2-clause-known g c = let line = c.args.line.now in let begun = c.args.begun.now.value in let t = c.args.switch in let q = c.requires.switch in
    knows_switch line.plan (root_in line.group) (seen_by begun) (splits_of begun) (seen_by c.of-submitted.result.value) (number_of t.seat) (seen_by t.seat) q.number
    (subst (λ l. EachOf (number_of t.seat) (Delivers line.plan.turns (root_in line.group) l (number_of t.seat)) (seen_by t.seat)) q.since q.is.did.steps)

pub returns-clause-taken : goal.returns-clause-taken
returns-clause-taken g c = let line = c.args.line.now in let begun = c.args.begun.now.value in let e = c.take_in.ensures in let f = c.take_in-2.ensures in
    after_two line.group line.cell line.plan line.rings.items begun c.args.submitter c.args.switch c.requires.submitter c.requires.switch _ c.take_in.new.first c.take_in-2.new.first c.of-submitted.ensures refl refl refl refl refl e.begins.1 e.brought f.joining f.begins.0 f.begins.1 f.others f.brought
