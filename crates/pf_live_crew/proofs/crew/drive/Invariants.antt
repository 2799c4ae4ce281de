use Rattle.pf_live_crew.proofs.crew.drive.Given as goal

abbrev pub invariant-loop : goal.invariant-loop
invariant-loop g l = g.T.Works.fits l.context l.worker × g.T.Works.goes l.context l.initial.worker l.worker
