use Rattle.std.proofs.Common.{◌≡◌, arith, sym, ap, ◌∙◌, subst}
use Rattle.pf_live_seats.specs.pf_shared.specs.Seats.{root_in, seen_by, splits_of}
use Rattle.pf_live_seats.specs.Submitters.{AllStand}
use Rattle.pf_live_line.specs.Crews.{HasMade}
use Rattle.pf_live_line.proofs.WorkersMustered.{new_submitter, new_switch, two_mustered}
use Rattle.pf_live_line.proofs.PassesMet.{met_hosts, met_served}
use Rattle.pf_live_line.proofs.mustering.muster.Goals as goal

pub muster_hosts-workers-requires-clause-workers : goal.muster_hosts-workers-requires-clause-workers
muster_hosts-workers-requires-clause-workers g c = let line = c.args.line.now in let begun = c.args.begun.now.value in let crew = c.args.crew in let is = c.requires.crew in let e = c.split-seat.ensures in let f = c.split-seat-2.ensures in
    let same : splits_of begun ≡ splits_of crew.seat = ap splits_of c.requires.begun in
    two_mustered line.group line.cell line.plan line.rings.items begun _ _ c.args.workers.items c.push_reserved.new.self.items c.push_reserved-2.new.self.items c.requires.room.0 c.push_reserved.ensures.items c.push_reserved-2.ensures.items
    (record {
      is = new_submitter line.group line.cell line.plan line.rings.items _ e.given.0 e.none_made c.of.ensures is.leaders (met_served line.plan line.rings.items line.plan.hosts 0 crew.hosts.items crew.served.items is.met)
          (λ told. subst (λ l. AllStand (root_in line.group) l crew.served.items) (sym e.seen.1) (is.stand told));
      number = omega (arith, e.given.1, same);
      since = ap seen_by c.of.ensures ∙ (e.seen.1 ∙ ap seen_by (sym c.requires.begun));
    })
    (record {
      is = new_switch line.group line.cell line.plan line.rings.items _ f.given.0 f.none_made c.of-2.ensures (subst (λ l. HasMade line.plan.turns (root_in line.group) l crew.next crew.made) (sym (f.seen.1 ∙ e.seen.0)) is.made) is.first;
      number = omega (arith, f.given.1, e.counts.0, same);
      since = ap seen_by c.of-2.ensures ∙ (f.seen.1 ∙ (e.seen.0 ∙ ap seen_by (sym c.requires.begun)));
    })

pub muster_hosts-workers-requires-clause-hosts : goal.muster_hosts-workers-requires-clause-hosts
muster_hosts-workers-requires-clause-hosts g c = let line = c.args.line.now in let crew = c.args.crew in met_hosts line.plan line.rings.items line.plan.hosts 0 crew.hosts.items crew.served.items c.requires.crew.met
