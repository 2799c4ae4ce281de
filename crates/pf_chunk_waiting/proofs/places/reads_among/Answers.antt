use Rattle.std.proofs.Common.{rules, arith, ◌≡◌, ◌∙◌, ◌==◌, ℕ, List, [], ◌∷◌, filter, length, refl, sym, ap}
use Rattle.std.proofs.lemmas.Bool.{eqb-true}
use Rattle.std.specs.List.{filter_map, find}
use Rattle.pf_chunk_waiting.specs.declared.waiting.Waiting.{Waiting}
use Rattle.pf_chunk_waiting.specs.Waiters.{has}
use Rattle.pf_chunk_waiting.specs.Places.{those_waiting}
use Rattle.pf_chunk_waiting.proofs.Filters.{passed_found}
use Rattle.pf_chunk_waiting.proofs.ReadPlaces.{those_ascend}
use Rattle.pf_chunk_waiting.proofs.places.reads_among.Goals as goal

-- none has one of no numbers
none_has : (numbers : List ℕ) (ws : List Waiting) → 0 ≡ length numbers → filter (λ (w : Waiting). has numbers w.number) ws ≡ []
none_has [] [] none = refl
none_has [] (w ∷ ws) none = none_has [] ws none
none_has (n ∷ ns) ws none = absurd (omega arith)

pub returns-then-is_empty : goal.returns-then-is_empty
returns-then-is_empty c = c.new.ensures.items ∙ sym (none_has c.args.numbers.now (those_waiting c.args.places.now) (sym (eqb-true (length c.args.numbers.now) 0 (sym c.is_empty.ensures ∙ c.if-is_empty.true))))

pub returns : goal.returns
returns c =
    let waiting = those_waiting c.args.places.now in
    let number = λ (w : Waiting). w.number in
    let taken : c.in_ok-reads.reads.items ≡ filter_map (λ n. find (λ (w : Waiting). w.number == n) waiting) c.in_ok-among.among.items = search rules in
    taken
    ∙ ap (filter_map (λ n. find (λ (w : Waiting). w.number == n) waiting)) c.in_ok-among.ensures
    ∙ passed_found number (has c.args.numbers.now) waiting (those_ascend c.args.places.now c.requires)
