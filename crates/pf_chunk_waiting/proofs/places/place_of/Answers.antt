use Rattle.std.proofs.Common.{rules, ◌≢◌, ℕ, Result, IfErr, false, get_or, sym, subst}
use Rattle.std.proofs.lemmas.Cmp.{ranked}
use Rattle.std.proofs.lemmas.List.Sorted.{answers_always}
use Rattle.std.proofs.lemmas.Option.{slice_get-get_or}
use Rattle.pf_entry.specs.Lists.{Every}
use Rattle.pf_chunk_waiting.specs.declared.places.ReadPlace.{ReadPlace}
use Rattle.pf_chunk_waiting.specs.Waiters.{HaveNot}
use Rattle.pf_chunk_waiting.specs.Places.{those_waiting}
use Rattle.pf_chunk_waiting.proofs.ReadPlaces.{none_waits, waits_no_more}
use Rattle.pf_chunk_waiting.proofs.NumberSearches.{not_found}
use Rattle.pf_chunk_waiting.proofs.places.place_of.Goals as goal

abbrev nobody : ReadPlace
nobody = record { read = record { number = 0; server = 0; term = 0 }; waits = false }

pub returns-in_default-clause-none : goal.returns-in_default-clause-none
returns-in_default-clause-none c =
    let number = λ (p : ReadPlace). p.read.number in
    let ps = c.args.places.now in
    let found = c.binary_search_by_key.ensures.position number (answers_always _ _ _ (λ f a r g called. search rules)) in
    let apart : IfErr c.binary_search_by_key.result (λ _. Every (λ (p : ReadPlace). number p ≢ c.args.number) ps) = not_found number ps c.requires c.args.number nobody c.binary_search_by_key.result found in
    none_waits ps c.args.number (subst (λ (r : Result ℕ ℕ). IfErr r (λ _. Every (λ (p : ReadPlace). number p ≢ c.args.number) ps)) c.in_default.is apart)

pub returns-then-places-place-clause-some : goal.returns-then-places-place-clause-some
returns-then-places-place-clause-some c =
    let found = c.in-Ok.ensures.position (λ (p : ReadPlace). p.read.number) (answers_always _ _ _ (λ f a r g called. search rules)) in
    record {
      place = get_or c.args.places.now c.in-Ok.place nobody;
      there = slice_get-get_or c.args.places.now c.in-Ok.place nobody c.in-Ok.ensures.bound;
      waits = c.if-places-place.true;
      is = ranked _ c.args.number _ (sym (found nobody));
    }

pub returns-else-places-place-clause-none : goal.returns-else-places-place-clause-none
returns-else-places-place-clause-none c =
    let ps = c.args.places.now in
    let found = c.in-Ok.ensures.position (λ (p : ReadPlace). p.read.number) (answers_always _ _ _ (λ f a r g called. search rules)) in
    subst (HaveNot (those_waiting ps)) (ranked _ c.args.number _ (sym (found nobody)))
    (waits_no_more ps c.requires c.in-Ok.place (get_or ps c.in-Ok.place nobody) (slice_get-get_or ps c.in-Ok.place nobody c.in-Ok.ensures.bound) c.if-places-place.false)
