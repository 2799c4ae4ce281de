use Rattle.std.proofs.Common.{◌≡◌, ◌+◌, [], rules, arith, refl, sym, ◌∙◌, subst}
use Rattle.pf_live_seats.specs.pf_shared.specs.Seats.{splits_of}
use Rattle.pf_live_line.specs.Mustered.{AreHosts, AreMustered}
use Rattle.pf_live_line.proofs.WorkersMustered.{hosts_count, mustered_host}
use Rattle.pf_live_line.proofs.mustering.muster_hosts.Goals as goal

pub loop-host-init : goal.loop-host-init
loop-host-init g c = (
  0,
  subst (AreHosts c.args.line.now.plan c.args.line.now.rings.items c.args.line.now.plan.hosts 0) (sym c.from_vec-rest.ensures.items) c.requires.hosts,
  c.requires.workers,
  omega arith,
  refl,
)

pub push_reserved-requires : goal.push_reserved-requires
push_reserved-requires g c = let was = c.loop-host.invariant in let line = c.args.line.now in
    let hosts = subst (AreHosts line.plan line.rings.items line.plan.hosts was.0) c.in-Some.ensures.items was.1 in
    let count = hosts_count line.plan line.rings.items line.plan.hosts (was.0 + 1) c.pop_front.new.self.items hosts.2 in
    omega (arith, was.3, was.4, c.requires.room, count)

pub loop-host-preserved : goal.loop-host-preserved
loop-host-preserved g c = let was = c.loop-host.invariant in let line = c.args.line.now in let begun = c.args._begun.now.value in let host = c.in-Some.host in
    let hosts = subst (AreHosts line.plan line.rings.items line.plan.hosts was.0) c.in-Some.ensures.items was.1 in (
      was.0 + 1,
      hosts.2,
      subst (AreMustered line.group line.cell line.plan line.rings.items begun (was.0 + 1) (splits_of begun + 3)) (sym c.push_reserved.ensures.items)
          (mustered_host line.group line.cell line.plan line.rings.items begun was.0 (splits_of begun + 3) c.loop-host.workers.items host was.2 hosts.0 hosts.1),
      omega (arith, was.3, c.push_reserved.ensures.len),
      c.push_reserved.ensures.capacity ∙ was.4,
    )

pub returns-clause-workers : goal.returns-clause-workers
returns-clause-workers g c = let was = c.loop-host.invariant in let line = c.args.line.now in let begun = c.args._begun.now.value in
    let none_left : c.loop-host.rest.items ≡ [] = search rules in
    let all : was.0 ≡ line.plan.hosts = subst (AreHosts line.plan line.rings.items line.plan.hosts was.0) none_left was.1 in
    subst (λ h. AreMustered line.group line.cell line.plan line.rings.items begun h (splits_of begun + 3) c.loop-host.workers.items) all was.2

pub returns-clause-room : goal.returns-clause-room
returns-clause-room g c = let was = c.loop-host.invariant in let line = c.args.line.now in
    let none_left : c.loop-host.rest.items ≡ [] = search rules in
    let all : was.0 ≡ line.plan.hosts = subst (AreHosts line.plan line.rings.items line.plan.hosts was.0) none_left was.1 in
    (omega (arith, was.3, all), was.4)
