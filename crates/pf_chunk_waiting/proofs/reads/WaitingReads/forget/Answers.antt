use Rattle.std.proofs.Common.{◌≡◌, true, List, ap, subst, ◌∙◌}
use Rattle.pf_entry.specs.Tables.{ascends}
use Rattle.pf_chunk_waiting.specs.declared.places.ReadPlace.{ReadPlace}
use Rattle.pf_chunk_waiting.specs.Waiters.{HaveNot, WaitingAre, waiting_numbers, without_read}
use Rattle.pf_chunk_waiting.specs.Places.{place_numbers, those_waiting}
use Rattle.pf_chunk_waiting.proofs.ChosenReads.{kept_without, none_left_out}
use Rattle.pf_chunk_waiting.proofs.reads.WaitingReads.forget.Goals as goal

pub returns-in_default : goal.returns-in_default
returns-in_default c =
    none_left_out c.args.self.now.items c.args.number
    (subst (λ (w : WaitingAre). HaveNot w.items c.args.number) c.self.view_is (subst (λ (ps : List ReadPlace). HaveNot (those_waiting ps) c.args.number) c.deref.ensures.value c.in_default.ensures.none))

pub invariant_of-self : goal.invariant_of-self
invariant_of-self c =
    let ps = c.self.inside.places.items in
    let up : ascends (place_numbers ps) ≡ true = c.self.invariant.ordered (ap (λ (w : WaitingAre). ascends (waiting_numbers w.items)) c.self.view_is ∙ c.requires) in
    kept_without c.self.inside.terms ps c.leave.new.places.items c.self.inside.in_terms c.args.number c.self.invariant up c.leave.ensures.waiting c.leave.ensures.numbers

pub returns : goal.returns
returns c = c.leave.ensures.waiting ∙ ap (λ (w : WaitingAre). without_read c.args.number w.items) c.self.view_is
