use Rattle.std.proofs.Common.{◌≡◌, ap, ◌∙◌, false, slice_set}
use Rattle.std.proofs.lemmas.Option.{get_or_from_slice_get}
use Rattle.pf_chunk_waiting.specs.declared.places.ReadPlace.{ReadPlace}
use Rattle.pf_chunk_waiting.specs.Waiters.{without_read}
use Rattle.pf_chunk_waiting.specs.Places.{place_numbers, those_waiting}
use Rattle.pf_chunk_waiting.proofs.ReadPlaces.{left_out, same_numbers_in}
use Rattle.pf_chunk_waiting.proofs.places.leave.Goals as goal

pub returns-clause-waiting : goal.returns-clause-waiting
returns-clause-waiting c =
    let ps = c.args.places.now.items in
    let at = c.requires.place in
    let is : c.index_mut.result.now ≡ at.place = c.index_mut.ensures.value ∙ get_or_from_slice_get ps c.args.place at.place c.index_mut.result.now at.there in
    ap (λ (p : ReadPlace). those_waiting (slice_set ps c.args.place (record p { waits = false }))) is
    ∙ left_out ps c.requires.ascending c.args.place at.place at.there at.waits ∙ ap (λ n. without_read n (those_waiting ps)) at.is

pub returns-clause-numbers : goal.returns-clause-numbers
returns-clause-numbers c =
    let ps = c.args.places.now.items in
    let at = c.requires.place in
    let is : c.index_mut.result.now ≡ at.place = c.index_mut.ensures.value ∙ get_or_from_slice_get ps c.args.place at.place c.index_mut.result.now at.there in
    ap (λ (p : ReadPlace). place_numbers (slice_set ps c.args.place (record p { waits = false }))) is ∙ same_numbers_in ps c.args.place at.place at.there
