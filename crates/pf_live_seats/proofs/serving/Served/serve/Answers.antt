use Rattle.std.proofs.Common.{◌≡◌, inl, IfOk, refl, sym, subst, ◌⊎◌}
use Rattle.pf_rings.specs.Passes.{IsHostOf, IsServerOf}
use Rattle.pf_shared.specs.Seats.{IsAlone, number_of, root_in, seen_by}
use Rattle.pf_rings.specs.declared.view.Request.{Request}
use Rattle.pf_live_seats.specs.Submitters.{IsHandedToLeader}
use Rattle.pf_live_seats.proofs.serving.Served.serve.Goals as goal

pub returns-in-Settled-clause-serves : goal.returns-in-Settled-clause-serves
returns-in-Settled-clause-serves g c = c.take_next.ensures.serves (root_in c.args.line.now.group) (number_of c.args.seat.now) (seen_by c.args.seat.now)

pub returns-in-Asked-clause-is : goal.returns-in-Asked-clause-is
returns-in-Asked-clause-is g c = let i = c.requires.is in let e = c.submit.ensures in
    record { pair = i.pair; there = i.there; is = record { pass = subst (IsServerOf i.pair.requests) (sym e.passes.0) i.is.pass; answers = subst (IsHostOf i.pair.answers) (sym e.passes.1) i.is.answers; counted = e.counted } }

pub returns-in-Settled-clause-handed : goal.returns-in-Settled-clause-handed
returns-in-Settled-clause-handed g c request asked = let is = c.in-Settled.is in cc

pub returns-in-Settled-clause-turn : goal.returns-in-Settled-clause-turn
returns-in-Settled-clause-turn g c = inl (inl refl)

pub returns-in-Asked-clause-handed : goal.returns-in-Asked-clause-handed
returns-in-Asked-clause-handed g c request asked = let s = c.args.seat.now in let is = c.in-Asked.is in let same : c.in-Asked.request ≡ request = cc in
    subst (λ (r : Request). (c.args.moves ≡ c.args.self.now.moves) ⊎ IfOk c.submit.result (λ placed. IsHandedToLeader (number_of s) (IsAlone s) (seen_by s) c.submit.new.leaders r (seen_by c.submit.new.seat))) same c.submit.ensures.handed

pub returns-in-Placed-clause-handed : goal.returns-in-Placed-clause-handed
returns-in-Placed-clause-handed g c request asked = let is = c.in-Placed.is in cc

pub returns-in-Placed-clause-turn : goal.returns-in-Placed-clause-turn
returns-in-Placed-clause-turn g c = inl c.look.ensures.looks
