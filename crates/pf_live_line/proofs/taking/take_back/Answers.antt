use Rattle.std.proofs.Common.{◌≡◌, ◌+◌, ◌-◌, ◌∷◌, vec_capacity, arith, refl, sym, ap, ◌∙◌, subst}
use Rattle.pf_turn.proofs.Lists.{begins_refl}
use Rattle.pf_live_seats.specs.pf_shared.specs.Seats.{seen_by, splits_of}
use Rattle.pf_live_line.specs.Joining.{IsJoining}
use Rattle.pf_live_line.specs.Mustered.{AreHosts}
use Rattle.pf_live_line.proofs.SeatKnowledge.{TakesBack, all_back, applies_now, has_room, takes_apply, takes_host}
use Rattle.pf_live_line.proofs.taking.take_back.Goals as goal

pub loop-worker-init : goal.loop-worker-init
loop-worker-init g c = let line = c.args.line.now in let begun = c.args.begun.now.value in let r = c.requires in record {
  h = 0;
  n = splits_of begun + 3;
  counted = r.rest;
  back = subst (AreHosts line.plan line.rings.items 0 0) (sym r.room.0) refl;
  joining = let shifted : splits_of begun + 2 ≡ (splits_of begun + 3) - 1 = omega arith in subst (λ m. IsJoining line.group line.plan begun c.args.submitted.now.value m c.args.first.now) shifted r.joining;
  low = omega arith;
  on = begins_refl (seen_by c.args.first.now);
  same = λ m under. refl;
  free = λ m above under. absurd (omega arith);
  lasts = λ none m above under. absurd (omega arith);
  fits = r.room.1;
}

pub push_reserved-requires : goal.push_reserved-requires
push_reserved-requires g c = let line = c.args.line.now in let begun = c.args.begun.now.value in let l = c.loop-worker in let sub = c.args.submitted.now.value in let mid = c.args.first.now in
    let fits = has_room line.group line.cell line.plan line.rings.items begun sub mid l.first c.in-Host.host c.pop_front.new.self.items l.hosts.items (vec_capacity l.hosts) l.wants
    (subst (λ r. TakesBack line.group line.cell line.plan line.rings.items begun sub mid l.first r l.hosts.items (vec_capacity l.hosts) l.wants) (c.in-Some.ensures.items ∙ ap (λ w. w ∷ c.pop_front.new.self.items) c.in-Host.is) l.invariant) in omega (arith, fits, l.hosts.ok.0)

pub loop-worker-preserved-in-Host : goal.loop-worker-preserved-in-Host
loop-worker-preserved-in-Host g c = let line = c.args.line.now in let begun = c.args.begun.now.value in let l = c.loop-worker in let sub = c.args.submitted.now.value in let mid = c.args.first.now in
    subst (λ n. TakesBack line.group line.cell line.plan line.rings.items begun sub mid l.first c.pop_front.new.self.items c.push_reserved.new.self.items n l.wants) (sym c.push_reserved.ensures.capacity)
    (subst (λ hs. TakesBack line.group line.cell line.plan line.rings.items begun sub mid l.first c.pop_front.new.self.items hs (vec_capacity l.hosts) l.wants) (sym c.push_reserved.ensures.items)
    (takes_host line.group line.cell line.plan line.rings.items begun sub mid l.first c.in-Host.host c.pop_front.new.self.items l.hosts.items (vec_capacity l.hosts) l.wants
    (subst (λ r. TakesBack line.group line.cell line.plan line.rings.items begun sub mid l.first r l.hosts.items (vec_capacity l.hosts) l.wants) (c.in-Some.ensures.items ∙ ap (λ w. w ∷ c.pop_front.new.self.items) c.in-Host.is) l.invariant)))

pub take_applier-wants-requires-clause-number : goal.take_applier-wants-requires-clause-number
take_applier-wants-requires-clause-number g c = let line = c.args.line.now in let begun = c.args.begun.now.value in let l = c.loop-worker in let sub = c.args.submitted.now.value in let mid = c.args.first.now in
    let now = applies_now line.group line.cell line.plan line.rings.items begun sub mid l.first c.in-Apply.applier c.pop_front.new.self.items l.hosts.items (vec_capacity l.hosts) l.wants
    (subst (λ r. TakesBack line.group line.cell line.plan line.rings.items begun sub mid l.first r l.hosts.items (vec_capacity l.hosts) l.wants) (c.in-Some.ensures.items ∙ ap (λ w. w ∷ c.pop_front.new.self.items) c.in-Apply.is) l.invariant) in (now.2, now.3)

pub take_applier-wants-requires-clause-joining : goal.take_applier-wants-requires-clause-joining
take_applier-wants-requires-clause-joining g c = let line = c.args.line.now in let begun = c.args.begun.now.value in let l = c.loop-worker in let sub = c.args.submitted.now.value in let mid = c.args.first.now in
    let now = applies_now line.group line.cell line.plan line.rings.items begun sub mid l.first c.in-Apply.applier c.pop_front.new.self.items l.hosts.items (vec_capacity l.hosts) l.wants
    (subst (λ r. TakesBack line.group line.cell line.plan line.rings.items begun sub mid l.first r l.hosts.items (vec_capacity l.hosts) l.wants) (c.in-Some.ensures.items ∙ ap (λ w. w ∷ c.pop_front.new.self.items) c.in-Apply.is) l.invariant) in now.1

pub loop-worker-preserved : goal.loop-worker-preserved
loop-worker-preserved g c = let line = c.args.line.now in let begun = c.args.begun.now.value in let l = c.loop-worker in let sub = c.args.submitted.now.value in let mid = c.args.first.now in let e = c.take_applier-wants.ensures in
    takes_apply line.group line.cell line.plan line.rings.items begun sub mid l.first c.take_applier-wants.new.first c.in-Apply.applier c.pop_front.new.self.items l.hosts.items (vec_capacity l.hosts) l.wants c.take_applier-wants.result
    (subst (λ r. TakesBack line.group line.cell line.plan line.rings.items begun sub mid l.first r l.hosts.items (vec_capacity l.hosts) l.wants) (c.in-Some.ensures.items ∙ ap (λ w. w ∷ c.pop_front.new.self.items) c.in-Apply.is) l.invariant)
    e.joining e.begins e.others e.free e.last

pub returns-clause-lasts : goal.returns-clause-lasts
returns-clause-lasts g c = let line = c.args.line.now in let l = c.loop-worker in
    all_back line.group line.cell line.plan line.rings.items c.args.begun.now.value c.args.submitted.now.value c.args.first.now l.first l.rest.items l.hosts.items (vec_capacity l.hosts) l.wants l.invariant (c.in_default.ensures.items ∙ c.pop_front.ensures.rest)
