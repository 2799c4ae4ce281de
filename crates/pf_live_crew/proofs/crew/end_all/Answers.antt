use Rattle.std.proofs.Common.{◌≡◌, [], subst, sym, rules}
use Rattle.pf_live_crew.specs.Places.{Became, IsPlace}
use Rattle.pf_live_crew.specs.declared.crew.Place.TheVariants.{There}
use Rattle.pf_live_crew.proofs.ListPairs.{Divides, all_done, one_more}
use Rattle.pf_live_crew.proofs.crew.end_all.Goals as goal

pub loop-place-preserved-in-There : goal.loop-place-preserved-in-There
loop-place-preserved-in-There g c = let w = g.T.Works in let h = c.in-There.handle in let r = c.join.result in (
  search rules,
  λ c' xs was. subst (λ l. Divides (IsPlace w c') (Became w c') xs l c.pop_front.new.self.items) (sym c.push_reserved.ensures.items)
      (one_more (IsPlace w c') (Became w c') xs c.loop-place.done.items c.in-Some.place c.pop_front.new.self.items r
      (λ x p. let q : IsPlace w c' x (There h) = subst (IsPlace w c' x) c.in-There.is p in
      subst (λ k. Became w k x r) q.0 (subst (λ y. Became w h.promise.context.value y r) q.1 c.join.ensures))
      (subst (λ l. Divides (IsPlace w c') (Became w c') xs c.loop-place.done.items l) c.in-Some.ensures.items (c.loop-place.invariant.1 c' xs was))),
)

pub loop-place-preserved : goal.loop-place-preserved
loop-place-preserved g c = let w = g.T.Works in let r = c.in-Here.worker in (
  search rules,
  λ c' xs was. subst (λ l. Divides (IsPlace w c') (Became w c') xs l c.pop_front.new.self.items) (sym c.push_reserved-in-Here.ensures.items)
      (one_more (IsPlace w c') (Became w c') xs c.loop-place.done.items c.in-Some.place c.pop_front.new.self.items r
      (λ x p. subst (IsPlace w c' x) c.in-Here.is p)
      (subst (λ l. Divides (IsPlace w c') (Became w c') xs c.loop-place.done.items l) c.in-Some.ensures.items (c.loop-place.invariant.1 c' xs was))),
)

pub returns : goal.returns
returns g c c' xs was = let w = g.T.Works in let none_left : c.loop-place.rest.items ≡ [] = search rules in
    all_done (IsPlace w c') (Became w c') xs c.loop-place.done.items
    (subst (λ l. Divides (IsPlace w c') (Became w c') xs c.loop-place.done.items l) none_left (c.loop-place.invariant.1 c' xs (subst (λ l. Rattle.pf_live_crew.specs.Places.ArePlaces w c' xs l) (sym c.from_vec-rest.ensures.items) was)))
