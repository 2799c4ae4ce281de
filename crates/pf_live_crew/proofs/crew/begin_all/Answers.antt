use Rattle.std.proofs.Common.{◌≡◌, ◌∙◌, ◌∷◌, ◌++◌, [], append_assoc, ap, subst, sym, rules}
use Rattle.pf_live_crew.specs.Places.{Each, IsPlace}
use Rattle.pf_live_crew.proofs.ListPairs.{pair_snoc}
use Rattle.pf_live_crew.proofs.crew.begin_all.Goals as goal

pub loop-worker-preserved : goal.loop-worker-preserved
loop-worker-preserved g c = let was = c.loop-worker.invariant in let worker = c.in-Some.worker in let rest = c.pop_front.new.self.items in
    let first : c.loop-worker.workers.items ≡ worker ∷ rest = c.in-Some.ensures.items in
    let fits : Each (g.T.Works.fits c.args.context.now) (worker ∷ rest) = subst (Each (g.T.Works.fits c.args.context.now)) first was.0 in
    let begun = was.3.0 in (
      fits.1,
      search rules,
      search rules,
      (
        begun ++ worker ∷ [],
        append_assoc begun (worker ∷ []) rest ∙ (ap (λ l. begun ++ l) (sym first) ∙ was.3.1),
        subst (λ l. Rattle.pf_live_crew.specs.Places.Pairs (IsPlace g.T.Works c.args.context.now) (begun ++ worker ∷ []) l) (sym c.push_reserved.ensures.items)
            (pair_snoc (IsPlace g.T.Works c.args.context.now) begun c.loop-worker.places.items worker c.begin.result was.3.2 c.begin.ensures),
      ),
    )
