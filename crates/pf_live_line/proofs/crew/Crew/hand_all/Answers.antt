use Rattle.std.proofs.Common.{arith}
use Rattle.pf_live_line.proofs.HandedRequests.{judged_refl, judged_trans, refused_more, submitted_more}
use Rattle.pf_live_line.proofs.crew.Crew.hand_all.Goals as goal

pub loop-host-init : goal.loop-host-init
loop-host-init g c = let line = c.args.line.now in (judged_refl line.group line.cell line.plan line.rings.items c.args.self.now c.requires.crew, λ told h under. absurd (omega arith), λ h under. absurd (omega arith))

pub loop-host-preserved : goal.loop-host-preserved
loop-host-preserved g c = let line = c.args.line.now in let l = c.loop-host in let was = l.invariant in let new = c.hand.new.self in let e = c.hand.ensures in (
  judged_trans line.group line.cell line.plan line.rings.items c.args.self.now l.self new was.0 e.judged,
  λ told h under. refused_more line.group line.cell line.plan line.rings.items l.self new c.args.server l.host e.judged e.others (c.in_ok-hand.ensures.refused told) (was.1 told) h under,
  λ h under. submitted_more line.group line.cell line.plan line.rings.items l.self new l.host e.judged.begins e.others c.in_ok-hand.ensures.submitted was.2 h under,
)

pub returns-in_err-hand-clause-judged : goal.returns-in_err-hand-clause-judged
returns-in_err-hand-clause-judged g c = let line = c.args.line.now in let l = c.loop-host in judged_trans line.group line.cell line.plan line.rings.items c.args.self.now l.self c.hand.new.self l.invariant.0 c.hand.ensures.judged

pub returns-clause-submitted : goal.returns-clause-submitted
returns-clause-submitted g c h low = c.loop-host.invariant.2 h (omega (arith, low, c.loop-host-test.false))

pub returns-clause-refused : goal.returns-clause-refused
returns-clause-refused g c told h low = c.loop-host.invariant.1 told h (omega (arith, low, c.loop-host-test.false))
