use Rattle.std.proofs.Common.{List, ap, subst, sym, ◌∙◌}
use Rattle.pf_chunk_waiting.specs.declared.places.ReadPlace.{ReadPlace}
use Rattle.pf_chunk_waiting.specs.Waiters.{WaitingAre}
use Rattle.pf_chunk_waiting.specs.Places.{AreKept, those_waiting}
use Rattle.pf_chunk_waiting.proofs.ChosenReads.{kept_swept}
use Rattle.pf_chunk_waiting.proofs.ReadPlaces.{swept}
use Rattle.pf_chunk_waiting.proofs.reads.WaitingReads.reserve.Goals as goal

pub invariant_of-self : goal.invariant_of-self
invariant_of-self c =
    subst (λ (ps : List ReadPlace). AreKept ps c.self.inside.terms c.self.inside.in_terms) (sym (c.reserve.ensures.items ∙ c.sweep.ensures.waiting))
    (kept_swept c.self.inside.terms c.self.inside.places.items c.self.inside.in_terms c.self.invariant)

pub invariant_of-self-in_err-reserve : goal.invariant_of-self-in_err-reserve
invariant_of-self-in_err-reserve c =
    subst (λ (ps : List ReadPlace). AreKept ps c.self.inside.terms c.self.inside.in_terms) (sym (c.reserve.ensures.items ∙ c.sweep.ensures.waiting))
    (kept_swept c.self.inside.terms c.self.inside.places.items c.self.inside.in_terms c.self.invariant)

pub returns-in_err-reserve-clause-items : goal.returns-in_err-reserve-clause-items
returns-in_err-reserve-clause-items c =
    ap those_waiting (c.reserve.ensures.items ∙ c.sweep.ensures.waiting) ∙ swept c.self.inside.places.items ∙ ap (λ (w : WaitingAre). w.items) c.self.view_is

pub returns-in_ok-reserve-clause-items : goal.returns-in_ok-reserve-clause-items
returns-in_ok-reserve-clause-items c =
    ap those_waiting (c.reserve.ensures.items ∙ c.sweep.ensures.waiting) ∙ swept c.self.inside.places.items ∙ ap (λ (w : WaitingAre). w.items) c.self.view_is
