use Rattle.std.proofs.Common.{◌≡◌, ◌≢◌, Option, None, false, IsTrue, sym, subst, true≢false, ◌∙◌}
use Rattle.pf_live_seats.specs.pf_group_network.specs.Shown.{IsLeader}
use Rattle.pf_live_seats.specs.pf_shared.specs.Seats.{root_in, seen_by}
use Rattle.pf_base.specs.declared.live_end.LiveEnd.{LiveEnd}
use Rattle.pf_live_seats.specs.Deliveries.{LiveTrace}
use Rattle.pf_live_line.specs.Judging.{AreRefused, HasNewLeader, IsJudged}
use Rattle.pf_live_line.proofs.HandedRequests.{judged_between, judged_looked, judged_trans, leads_new, published_on, refused_leads, submitted_on}
use Rattle.pf_live_line.proofs.JudgedEnds.{none_there}
use Rattle.pf_live_line.proofs.FirstSeatEntries.{looked_trans, unchanged_trans}
use Rattle.pf_live_line.proofs.Rounds.{told_any, told_so}
use Rattle.pf_live_line.proofs.crew.Crew.judge.Goals as goal

pub judge_hosts-requires-clause-none : goal.judge_hosts-requires-clause-none
judge_hosts-requires-clause-none g c told = c.in_ok-least_left.ensures.left told ∙ none_there _ (sym c.is_some.ensures ∙ c.if-is_some.false)

pub judge_hosts-requires-clause-leader : goal.judge_hosts-requires-clause-leader
judge_hosts-requires-clause-leader g c told = subst (λ g. IsLeader g c.in_ok-leader.leader) (sym c.least_left.ensures.looked.unchanged.state) (c.in_ok-leader.ensures.leader told)

-- the server that refused the requests is the one that leads still
pub judge_hosts-requires-clause-refused : goal.judge_hosts-requires-clause-refused
judge_hosts-requires-clause-refused g c so = let line = c.args.line.now in let root = root_in line.group in let d = c.hand_all.new.self in let e = c.publish.new.self in let f = c.least_left.new.self in let p = c.publish.ensures.looked in let q = c.least_left.ensures.looked in
    subst (λ v. AreRefused line.plan root (seen_by f.seat) v.items) (sym (q.served ∙ p.served)) (refused_leads line.plan root (seen_by d.seat) (seen_by f.seat) d.served.items c.in_ok-leader.leader c.taker-server.result
    (unchanged_trans root (seen_by d.seat) (seen_by e.seat) (seen_by f.seat) p.unchanged q.unchanged) (λ told. subst (λ g. IsLeader g c.in_ok-leader.leader) (sym q.unchanged.state) (c.in_ok-leader.ensures.leader told))
    (c.leads.ensures.0 so) c.in_ok-hand_all.ensures.refused)

pub returns-in_err-hand_all-clause-judged : goal.returns-in_err-hand_all-clause-judged
returns-in_err-hand_all-clause-judged g c = let line = c.args.line.now in let a = c.args.self.now in let b = c.leader.new.self in let d = c.hand_all.new.self in
    judged_trans line.group line.cell line.plan line.rings.items a b d (judged_looked line.group line.cell line.plan line.rings.items a b c.leader.ensures.looked) c.hand_all.ensures.judged

pub returns-in_err-leader-clause-judged : goal.returns-in_err-leader-clause-judged
returns-in_err-leader-clause-judged g c = let line = c.args.line.now in
    judged_between line.group line.cell line.plan line.rings.items c.args.self.now c.leader.new.self c.hand_all.new.self c.publish.new.self c.leader.ensures.looked c.hand_all.ensures.judged c.publish.ensures.looked

pub returns-in_err-least_left-clause-judged : goal.returns-in_err-least_left-clause-judged
returns-in_err-least_left-clause-judged g c = let line = c.args.line.now in let d = c.hand_all.new.self in let e = c.publish.new.self in let f = c.least_left.new.self in
    judged_between line.group line.cell line.plan line.rings.items c.args.self.now c.leader.new.self d f c.leader.ensures.looked c.hand_all.ensures.judged (looked_trans line.group line.cell line.plan line.rings.items d e f c.publish.ensures.looked c.least_left.ensures.looked)

pub returns-clause-judged : goal.returns-clause-judged
returns-clause-judged g c = let line = c.args.line.now in let d = c.hand_all.new.self in let e = c.publish.new.self in let f = c.least_left.new.self in let h = c.judge_hosts.new.self in
    judged_between line.group line.cell line.plan line.rings.items c.args.self.now c.leader.new.self d h c.leader.ensures.looked c.hand_all.ensures.judged (looked_trans line.group line.cell line.plan line.rings.items d f h (looked_trans line.group line.cell line.plan line.rings.items d e f c.publish.ensures.looked c.least_left.ensures.looked) c.judge_hosts.ensures.looked)

pub returns-then-self-line-clause-judged : goal.returns-then-self-line-clause-judged
returns-then-self-line-clause-judged g c = let line = c.args.line.now in let d = c.hand_all.new.self in let e = c.publish.new.self in let f = c.least_left.new.self in
    judged_between line.group line.cell line.plan line.rings.items c.args.self.now c.leader.new.self d f c.leader.ensures.looked c.hand_all.ensures.judged (looked_trans line.group line.cell line.plan line.rings.items d e f c.publish.ensures.looked c.least_left.ensures.looked)

pub returns-then-self-line-clause-published : goal.returns-then-self-line-clause-published
returns-then-self-line-clause-published g c = let e = c.publish.new.self in let f = c.least_left.new.self in published_on (root_in c.args.line.now.group) (seen_by e.seat) (seen_by f.seat) e.first f.first c.least_left.ensures.looked.unchanged c.least_left.ensures.first c.in_ok-leader.ensures.published

pub returns-then-is_some-clause-judged : goal.returns-then-is_some-clause-judged
returns-then-is_some-clause-judged g c = let line = c.args.line.now in let d = c.hand_all.new.self in let e = c.publish.new.self in let f = c.least_left.new.self in
    judged_between line.group line.cell line.plan line.rings.items c.args.self.now c.leader.new.self d f c.leader.ensures.looked c.hand_all.ensures.judged (looked_trans line.group line.cell line.plan line.rings.items d e f c.publish.ensures.looked c.least_left.ensures.looked)

pub returns-then-is_some-clause-published : goal.returns-then-is_some-clause-published
returns-then-is_some-clause-published g c = let e = c.publish.new.self in let f = c.least_left.new.self in published_on (root_in c.args.line.now.group) (seen_by e.seat) (seen_by f.seat) e.first f.first c.least_left.ensures.looked.unchanged c.least_left.ensures.first c.in_ok-leader.ensures.published

pub returns-clause-published : goal.returns-clause-published
returns-clause-published g c = let root = root_in c.args.line.now.group in let e = c.publish.new.self in let f = c.least_left.new.self in let h = c.judge_hosts.new.self in let p = c.least_left.ensures in let q = c.judge_hosts.ensures in
    told_any c.judge_hosts.result (published_on root (seen_by e.seat) (seen_by h.seat) e.first h.first (unchanged_trans root (seen_by e.seat) (seen_by f.seat) (seen_by h.seat) p.looked.unchanged q.looked.unchanged) (q.first ∙ p.first) c.in_ok-leader.ensures.published)

pub returns-then-self-line-clause-submitted : goal.returns-then-self-line-clause-submitted
returns-then-self-line-clause-submitted g c = let line = c.args.line.now in let d = c.hand_all.new.self in let e = c.publish.new.self in let f = c.least_left.new.self in
    submitted_on line.group line.cell line.plan line.rings.items d f (looked_trans line.group line.cell line.plan line.rings.items d e f c.publish.ensures.looked c.least_left.ensures.looked) c.in_ok-hand_all.ensures.submitted

pub returns-then-is_some-clause-submitted : goal.returns-then-is_some-clause-submitted
returns-then-is_some-clause-submitted g c = let line = c.args.line.now in let d = c.hand_all.new.self in let e = c.publish.new.self in let f = c.least_left.new.self in
    submitted_on line.group line.cell line.plan line.rings.items d f (looked_trans line.group line.cell line.plan line.rings.items d e f c.publish.ensures.looked c.least_left.ensures.looked) c.in_ok-hand_all.ensures.submitted

pub returns-clause-submitted : goal.returns-clause-submitted
returns-clause-submitted g c = let line = c.args.line.now in let d = c.hand_all.new.self in let e = c.publish.new.self in let f = c.least_left.new.self in let h = c.judge_hosts.new.self in
    told_any c.judge_hosts.result (submitted_on line.group line.cell line.plan line.rings.items d h (looked_trans line.group line.cell line.plan line.rings.items d f h (looked_trans line.group line.cell line.plan line.rings.items d e f c.publish.ensures.looked c.least_left.ensures.looked) c.judge_hosts.ensures.looked) c.in_ok-hand_all.ensures.submitted)

pub returns-clause-end : goal.returns-clause-end
returns-clause-end g c = let line = c.args.line.now in let root = root_in line.group in let a = c.args.self.now in let b = c.leader.new.self in let e = c.publish.new.self in let f = c.least_left.new.self in let h = c.judge_hosts.new.self in
    told_so c.judge_hosts.result (λ (o : Option LiveEnd). IsTrue root.told → (before : LiveTrace) → (c.leads.result ≡ false → c.in_ok-leader.leader ≢ None → HasNewLeader root before (seen_by h.seat)) → IsJudged line.plan root before (seen_by h.seat) o)
    (λ o. IsTrue root.told → IsJudged line.plan root (seen_by a.seat) (seen_by h.seat) o)
    (λ o judged told. judged told (seen_by a.seat) (λ no some.
    leads_new root (seen_by a.seat) (seen_by b.seat) (seen_by e.seat) (seen_by h.seat) c.in_ok-found.found c.in_ok-leader.leader c.taker-server.result c.leader.ensures.looked.unchanged.state
    (c.judge_hosts.ensures.looked.unchanged.state ∙ c.least_left.ensures.looked.unchanged.state) (c.in_ok-found.ensures.leader told) c.taker-server.ensures.served (c.in_ok-leader.ensures.leader told) some
    (λ is. true≢false (sym (c.leads.ensures.1 is) ∙ no)))) c.judge_hosts.ensures.end
