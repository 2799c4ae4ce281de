use Rattle.std.proofs.Common.{◌≡◌, ◌+◌, [], ◌∷◌, ◌++◌, append_assoc, append-nil, rules, arith, sym, ap, ◌∙◌, subst}
use Rattle.pf_live_crew.specs.Places.{Pairs}
use Rattle.pf_live_crew.proofs.ListPairs.{pair_snoc}
use Rattle.pf_live_line.specs.Meeting.{AreMet, IsMet, IsSameServed}
use Rattle.pf_live_line.specs.Mustered.{AreHosts, HostsAreServed}
use Rattle.pf_live_line.proofs.WorkersMustered.{served_none}
use Rattle.pf_live_line.proofs.PassesMet.{met_snoc}
use Rattle.pf_live_line.proofs.meeting.meet_all.Goals as goal

pub loop-host-preserved : goal.loop-host-preserved
loop-host-preserved g c = let was = c.loop-host.invariant in let plan = c.args.line.now.plan in let rings = c.args.line.now.rings.items in let l = c.loop-host in let one = c.in-Some-pop_front.one in let p = c.push_reserved.ensures in let q = c.push_reserved-in-Some.ensures in
    let hosts = subst (AreHosts plan rings plan.hosts was.0) c.in-Some.ensures.items was.1 in
    let served = subst (HostsAreServed plan rings plan.hosts was.0) c.in-Some-pop_front.ensures.items was.2 in
    let met : IsMet plan rings was.0 c.meet-host.result.0 c.meet-host.result.1 = subst (λ m. IsMet plan rings m c.meet-host.result.0 c.meet-host.result.1) hosts.0 c.meet-host.ensures.met in (
      was.0 + 1,
      hosts.2,
      served.1,
      subst (λ hs. AreMet plan rings (was.0 + 1) 0 hs c.push_reserved-in-Some.new.self.items) (sym p.items) (subst (λ ss. AreMet plan rings (was.0 + 1) 0 (l.host_room.items ++ c.meet-host.result.0 ∷ []) ss) (sym q.items)
          (met_snoc plan rings was.0 0 l.host_room.items l.served_room.items c.meet-host.result.0 c.meet-host.result.1 was.3 met)),
      (
        was.4.0 ++ one ∷ [],
        append_assoc was.4.0 (one ∷ []) c.pop_front-in-Some.new.self.items ∙ (ap (λ ss. was.4.0 ++ ss) (sym c.in-Some-pop_front.ensures.items) ∙ was.4.1),
        subst (Pairs IsSameServed (was.4.0 ++ one ∷ [])) (sym q.items) (pair_snoc IsSameServed was.4.0 l.served_room.items one c.meet-host.result.1 was.4.2 c.meet-host.ensures.same),
      ),
      omega (arith, was.5, p.len),
      omega (arith, was.6, q.len),
      omega (arith, was.7, p.capacity),
      omega (arith, was.8, q.capacity),
    )

pub returns-clause-same : goal.returns-clause-same
returns-clause-same g c = let was = c.loop-host.invariant in let plan = c.args.line.now.plan in let rings = c.args.line.now.rings.items in let l = c.loop-host in
    let none_left : l.hosts.items ≡ [] = search rules in
    let all : was.0 ≡ plan.hosts = subst (AreHosts plan rings plan.hosts was.0) none_left was.1 in
    let none_served : l.served.items ≡ [] = served_none plan rings plan.hosts was.0 l.served.items was.2 all in
    subst (λ ss. Pairs IsSameServed ss l.served_room.items) (sym (append-nil was.4.0) ∙ (ap (λ ss. was.4.0 ++ ss) (sym none_served) ∙ (was.4.1 ∙ c.from_vec-served.ensures.items))) was.4.2
