use Rattle.std.proofs.Common.{◌==◌, Some, ap, ◌∙◌}
use Rattle.std.specs.List.{find}
use Rattle.std.proofs.lemmas.Option.{get_or_from_slice_get}
use Rattle.pf_chunk_waiting.specs.declared.waiting.Waiting.{Waiting}
use Rattle.pf_chunk_waiting.specs.declared.places.ReadPlace.{ReadPlace}
use Rattle.pf_chunk_waiting.specs.Places.{those_waiting}
use Rattle.pf_chunk_waiting.proofs.ReadPlaces.{is_found, none_found}
use Rattle.pf_chunk_waiting.proofs.places.read_of.Goals as goal

pub returns-in_err-place : goal.returns-in_err-place
returns-in_err-place c = c.from_residual.ensures ∙ none_found (those_waiting c.args.places.now) c.args.number c.in_err-place.ensures.none

pub returns : goal.returns
returns c =
    let at = c.in_ok-place.ensures.some in
    let ps = c.args.places.now in
    ap (λ (p : ReadPlace). Some p.read) (get_or_from_slice_get ps c.in_ok-place.place at.place _ at.there)
    ∙ is_found ps c.requires c.in_ok-place.place at.place at.there at.waits
    ∙ ap (λ n. find (λ (w : Waiting). w.number == n) (those_waiting ps)) at.is
