-- Reads that are chosen, and those that are left.
use Rattle.std.proofs.Common.{◌≡◌, ◌≢◌, ℕ, Bool, true, false, cond, not, ◌==◌, List, [], ◌∷◌, Option, refl, ap, ◌∙◌}
use Rattle.std.specs.List.{filter}
use Rattle.std.proofs.lemmas.Bool.{and_parts, and_from, ne_eqb, true≢false}
use Rattle.pf_entry.specs.Lists.{Every}
use Rattle.pf_entry.specs.Tables.{ascends}
use Rattle.pf_entry.proofs.Cases.{by_test}
use Rattle.pf_entry.proofs.Lists.{every_more, every_of_all}
use Rattle.pf_chunk_waiting.specs.declared.waiting.Waiting.{Waiting}
use Rattle.pf_chunk_waiting.specs.declared.places.ReadPlace.{ReadPlace}
use Rattle.pf_chunk_waiting.specs.Waiters.{AreChosen, HaveNot, are_in_terms, has, is_in_term, is_quiet_read, without_read}
use Rattle.pf_chunk_waiting.specs.Places.{AreKept, place_numbers, those_waiting}
use Rattle.pf_chunk_waiting.proofs.Filters.{filter_all}
use Rattle.pf_chunk_waiting.proofs.ReadPlaces.{swept, swept_ordered}

module _ (terms : List (Option ℕ)) where
  fewer_in_terms : (test : Waiting → Bool) (ws : List Waiting) → are_in_terms terms ws ≡ true → are_in_terms terms (filter test ws) ≡ true
  fewer_in_terms test [] is = refl
  fewer_in_terms test (w ∷ ws) is =
      let parts = and_parts (is_in_term terms w) (are_in_terms terms ws) is in
      by_test (test w) (λ c. are_in_terms terms (cond c (w ∷ filter test ws) (filter test ws)) ≡ true)
      (λ _. and_from _ _ parts.0 (fewer_in_terms test ws parts.1)) (λ _. fewer_in_terms test ws parts.1)

  others_quiet : (numbers : List ℕ) (ws : List Waiting) → are_in_terms terms ws ≡ true → Every (λ w. has numbers w.number ≡ false → is_quiet_read terms numbers w ≡ true) ws
  others_quiet numbers [] is = tt
  others_quiet numbers (w ∷ ws) is =
      let parts = and_parts (is_in_term terms w) (are_in_terms terms ws) is in
      (λ lacks. and_from _ _ parts.0 (ap not lacks), others_quiet numbers ws parts.1)

  pub chosen_by_number : (numbers : List ℕ) (ws chosen : List Waiting) → are_in_terms terms ws ≡ true → chosen ≡ filter (λ w. has numbers w.number) ws → AreChosen terms numbers ws chosen
  chosen_by_number numbers ws chosen is are = record { test = λ w. has numbers w.number; are = are; others = others_quiet numbers ws is }

  pub all_chosen : (numbers : List ℕ) (ws chosen : List Waiting) → chosen ≡ ws → AreChosen terms numbers ws chosen
  all_chosen numbers ws chosen are = record {
    test = λ w. true;
    are = are ∙ filter_all (λ w. true) ws (every_of_all (λ w. true ≡ true) ws (λ w. refl));
    others = every_of_all (λ w. true ≡ false → is_quiet_read terms numbers w ≡ true) ws (λ w never. absurd (true≢false never));
  }

  pub kept_without : (ps after : List ReadPlace) (in_terms : Bool) (number : ℕ) → AreKept ps terms in_terms → ascends (place_numbers ps) ≡ true
      → those_waiting after ≡ without_read number (those_waiting ps) → place_numbers after ≡ place_numbers ps → AreKept after terms in_terms
  kept_without ps after in_terms number kept up left same = record {
    ordered = λ _. ap ascends same ∙ up;
    each_in_term = λ is. ap (are_in_terms terms) left ∙ fewer_in_terms (λ w. not (w.number == number)) (those_waiting ps) (kept.each_in_term is);
  }

  pub kept_swept : (ps : List ReadPlace) (in_terms : Bool) → AreKept ps terms in_terms → AreKept (filter (λ p. p.waits) ps) terms in_terms
  kept_swept ps in_terms kept = record { ordered = swept_ordered ps; each_in_term = λ is. ap (are_in_terms terms) (swept ps) ∙ kept.each_in_term is }

pub none_left_out : (ws : List Waiting) (number : ℕ) → HaveNot ws number → ws ≡ without_read number ws
none_left_out ws number none =
    filter_all (λ w. not (w.number == number)) ws (every_more (λ w. w.number ≢ number) (λ w. not (w.number == number) ≡ true) (λ w apart. ap not (ne_eqb w.number number apart)) ws none)
