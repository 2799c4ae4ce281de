use Rattle.std.proofs.Common.{◌++◌, ◌∷◌, [], List, Bool, IsTrue, false, refl, sym, subst, ◌∙◌}
use Rattle.pf_election.specs.declared.probes.ProbedRead.{ProbedRead}
use Rattle.pf_election.specs.Reads.{AreKept}
use Rattle.pf_election.proofs.ConfirmedCounts.{kept_more}
use Rattle.pf_election.proofs.probes.Probes.ask.Goals as goal
use Rattle.pf_election.proofs.probes.Probes.ask.Goals.{then-self, else-self}

no_truth : IsTrue false → ⊥
no_truth is = cc

pub invariant_of-self-2 : goal.invariant_of-self-2
invariant_of-self-2 c =
    let inside = c.self.inside in
    let reads = inside.reads.items in
    let r : ProbedRead = record { number = c.args.number; range = c.args.range; named = c.args.named; confirmed = false } in
    let more = λ (last : Bool). kept_more reads r inside.confirmed inside.in_order last c.self.invariant refl in
    subst (λ (xs : List ProbedRead). AreKept xs inside.confirmed c.if-self.in_order) (sym c.in_ok-push_back.ensures.items)
    (elim c.if-self.branch [
      | then-self w ↦
          subst (AreKept (reads ++ r ∷ []) inside.confirmed) (sym w.in_order-is)
          (more w.is_above_all-in_order.result (λ _. w.if-self.true)
          w.is_above_all-in_order.ensures)
      | else-self w ↦ subst (AreKept (reads ++ r ∷ []) inside.confirmed) (sym w.in_order-is) (more inside.in_order (λ is. is) (λ is. absurd (no_truth (sym w.if-self.false ∙ is))))
    ])
