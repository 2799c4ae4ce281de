-- Reads in their places, and those of them that wait.
use Rattle.std.proofs.Common.{◌≡◌, ◌≢◌, ℕ, zero, suc, ◌<◌, ◌-◌, Bool, true, false, cond, not, ◌||◌, ◌==◌, List, [], ◌∷◌, ◌++◌, length, map, Option, Some, None, is_some, slice_get, slice_set, arith, refl, sym, ap, ◌∙◌}
use Rattle.std.specs.List.{filter, find}
use Rattle.std.specs.Prelude.{IfNone, IfSome}
use Rattle.std.proofs.lemmas.Bool.{cond-true, cond-false, eq-eqb, ne_eqb, true≢false}
use Rattle.std.proofs.lemmas.List.{map-append}
use Rattle.std.proofs.lemmas.List.Elements.{filter-append}
use Rattle.std.proofs.lemmas.Option.{none-some, same_Some}
use Rattle.pf_entry.specs.Lists.{Every}
use Rattle.pf_entry.specs.Tables.{ascends}
use Rattle.pf_entry.proofs.Ascents.{rest_ascends}
use Rattle.pf_entry.proofs.Cases.{by_test}
use Rattle.pf_entry.proofs.Lists.{every_append, every_filter, every_get, every_map, every_more}
use Rattle.pf_chunk_waiting.specs.declared.waiting.Waiting.{Waiting}
use Rattle.pf_chunk_waiting.specs.declared.places.ReadPlace.{ReadPlace}
use Rattle.pf_chunk_waiting.specs.Waiters.{HaveNot, has, waiting_numbers, without_read}
use Rattle.pf_chunk_waiting.specs.Places.{AreOrdered, IsPlaceOfRead, place_numbers, those_waiting}
use Rattle.pf_chunk_waiting.proofs.Filters.{above_first, every_place, fewer_ascend, filter_all}
use Rattle.pf_chunk_waiting.proofs.NumberSearches.{all_below, front_ascends, last_greatest, others_apart}

abbrev waits : ReadPlace → Bool
waits p = p.waits

abbrev number_in : ReadPlace → ℕ
number_in p = p.read.number

their_numbers : (ps : List ReadPlace) → place_numbers ps ≡ waiting_numbers (map (λ p. p.read) ps)
their_numbers [] = refl
their_numbers (p ∷ ps) = ap (λ ns. p.read.number ∷ ns) (their_numbers ps)

pub those_ascend : (ps : List ReadPlace) → ascends (place_numbers ps) ≡ true → ascends (waiting_numbers (those_waiting ps)) ≡ true
those_ascend ps up = ap ascends (sym (their_numbers (filter waits ps))) ∙ fewer_ascend number_in waits ps up

-- what holds of each that waits
pub every_waiting : (P : Waiting → Type 0) (ps : List ReadPlace) → Every (λ p. p.waits ≡ true → P p.read) ps → Every P (those_waiting ps)
every_waiting P ps each = every_map P (λ (p : ReadPlace). p.read) (filter waits ps) (every_filter (λ (p : ReadPlace). P p.read) waits ps each)

-- one more that waits
pub one_more : (ps : List ReadPlace) (p : ReadPlace) → p.waits ≡ true → those_waiting (ps ++ p ∷ []) ≡ those_waiting ps ++ p.read ∷ []
one_more ps p is =
    ap (map (λ (p : ReadPlace). p.read)) (filter-append waits ps (p ∷ []) ∙ ap (λ rest. filter waits ps ++ rest) (cond-true p.waits _ _ is))
    ∙ map-append (λ (p : ReadPlace). p.read) (filter waits ps) (p ∷ [])

-- those that wait no more were dropped
pub swept : (ps : List ReadPlace) → those_waiting (filter waits ps) ≡ those_waiting ps
swept ps = ap (map (λ (p : ReadPlace). p.read)) (sym (filter_all waits (filter waits ps) (every_filter (λ (p : ReadPlace). p.waits ≡ true) waits ps (every_place (λ (p : ReadPlace). p.waits ≡ true → p.waits ≡ true) ps (λ k p at is. is)))))

all_waiting : (ps : List ReadPlace) → Every (λ p. p.waits ≡ true) ps → AreOrdered ps
all_waiting ps each up = ap ascends (their_numbers ps ∙ ap (λ rest. waiting_numbers (map (λ (p : ReadPlace). p.read) rest)) (filter_all waits ps each)) ∙ up

pub swept_ordered : (ps : List ReadPlace) → AreOrdered (filter waits ps)
swept_ordered ps = all_waiting (filter waits ps) (every_filter (λ (p : ReadPlace). p.waits ≡ true) waits ps (every_place (λ (p : ReadPlace). p.waits ≡ true → p.waits ≡ true) ps (λ k p at is. is)))

pub swept_then : (ps : List ReadPlace) (p : ReadPlace) → p.waits ≡ true → AreOrdered (filter waits ps ++ p ∷ [])
swept_then ps p is = all_waiting (filter waits ps ++ p ∷ []) (every_append (λ (p : ReadPlace). p.waits ≡ true) (filter waits ps) (p ∷ [])
    (every_filter (λ (p : ReadPlace). p.waits ≡ true) waits ps (every_place (λ (p : ReadPlace). p.waits ≡ true → p.waits ≡ true) ps (λ k p at is. is))) (is, tt))

-- one more above the last
pub more_ordered : (ps : List ReadPlace) (p : ReadPlace) → p.waits ≡ true → AreOrdered ps → (last : ReadPlace) → slice_get ps (length ps - 1) ≡ Some last → last.read.number < p.read.number → AreOrdered (ps ++ p ∷ [])
more_ordered ps p is ordered last at low up =
    let parted = ap waiting_numbers (one_more ps p is) ∙ map-append (λ (w : Waiting). w.number) (those_waiting ps) (p.read ∷ []) in
    let up_before = ordered (front_ascends (waiting_numbers (those_waiting ps)) p.read.number (ap ascends (sym parted) ∙ up)) in
    ap ascends (map-append number_in ps (p ∷ []))
    ∙ last_greatest (place_numbers ps) p.read.number up_before (every_map (λ n. n < p.read.number) number_in ps (all_below number_in ps up_before p.read.number last at low))

-- the read in a place waits no more
pub same_numbers_in : (ps : List ReadPlace) (k : ℕ) (p : ReadPlace) → slice_get ps k ≡ Some p → place_numbers (slice_set ps k (record p { waits = false })) ≡ place_numbers ps
same_numbers_in [] k p at = refl
same_numbers_in (q ∷ qs) zero p at = ap (λ n. n ∷ place_numbers qs) (ap number_in (sym (same_Some q p at)))
same_numbers_in (q ∷ qs) (suc k) p at = ap (λ ns. q.read.number ∷ ns) (same_numbers_in qs k p at)

pub left_out : (ps : List ReadPlace) → ascends (place_numbers ps) ≡ true → (k : ℕ) (p : ReadPlace) → slice_get ps k ≡ Some p → p.waits ≡ true
    → those_waiting (slice_set ps k (record p { waits = false })) ≡ without_read p.read.number (those_waiting ps)
left_out [] up k p at is = refl
left_out (q ∷ qs) up zero p at is =
    let same : q ≡ p = same_Some q p at in
    let n = p.read.number in
    let apart : Every (λ (w : Waiting). not (w.number == n) ≡ true) (those_waiting qs) = every_waiting (λ w. not (w.number == n) ≡ true) qs
    (every_more (λ (r : ReadPlace). q.read.number < r.read.number) (λ (r : ReadPlace). r.waits ≡ true → not (r.read.number == n) ≡ true)
    (λ r above _. ap not (ne_eqb r.read.number n (λ e. omega (arith, above, e, ap number_in same)))) qs (above_first number_in q.read.number qs up)) in
    filter_all (λ (w : Waiting). not (w.number == n)) (those_waiting qs) apart
    ∙ sym (cond-false (not (q.read.number == n)) _ _ (ap not (eq-eqb q.read.number n (ap number_in same))))
    ∙ ap (λ c. without_read n (map (λ (r : ReadPlace). r.read) (cond c (q ∷ filter waits qs) (filter waits qs)))) (sym (ap waits same ∙ is))
left_out (q ∷ qs) up (suc k) p at is =
    let n = p.read.number in
    let above : q.read.number < n = every_get (λ (r : ReadPlace). q.read.number < r.read.number) qs k p (above_first number_in q.read.number qs up) at in
    let rest = left_out qs (rest_ascends q.read.number (place_numbers qs) up) k p at is in
    let after = slice_set qs k (record p { waits = false }) in
    by_test q.waits (λ c. map (λ (r : ReadPlace). r.read) (cond c (q ∷ filter waits after) (filter waits after)) ≡ without_read n (map (λ (r : ReadPlace). r.read) (cond c (q ∷ filter waits qs) (filter waits qs))))
    (λ _. ap (λ ws. q.read ∷ ws) rest ∙ sym (cond-true (not (q.read.number == n)) _ _ (ap not (ne_eqb q.read.number n (λ e. omega (arith, above, e))))))
    (λ _. rest)

-- the search found a place whose read waits no more, or none
pub none_waits : (ps : List ReadPlace) (n : ℕ) → Every (λ p. p.read.number ≢ n) ps → HaveNot (those_waiting ps) n
none_waits ps n apart = every_waiting (λ w. w.number ≢ n) ps (every_more (λ (p : ReadPlace). p.read.number ≢ n) (λ (p : ReadPlace). p.waits ≡ true → p.read.number ≢ n) (λ p is _. is) ps apart)

pub waits_no_more : (ps : List ReadPlace) → ascends (place_numbers ps) ≡ true → (k : ℕ) (p : ReadPlace) → slice_get ps k ≡ Some p → p.waits ≡ false → HaveNot (those_waiting ps) p.read.number
waits_no_more ps up k p at not_waiting = every_waiting (λ w. w.number ≢ p.read.number) ps
    (every_place (λ (q : ReadPlace). q.waits ≡ true → q.read.number ≢ p.read.number) ps (λ j q there is same.
    true≢false (sym is ∙ ap waits (others_apart number_in ps up k p at j q there same) ∙ not_waiting)))

-- the read that is found by its number
pub is_found : (ps : List ReadPlace) → ascends (place_numbers ps) ≡ true → (k : ℕ) (p : ReadPlace) → slice_get ps k ≡ Some p → p.waits ≡ true → Some p.read ≡ find (λ w. w.number == p.read.number) (those_waiting ps)
is_found [] up k p at is = absurd (none-some p at)
is_found (q ∷ qs) up zero p at is =
    let same : q ≡ p = same_Some q p at in
    let n = p.read.number in
    ap (λ (r : ReadPlace). Some r.read) (sym same)
    ∙ sym (cond-true (q.read.number == n) (Some q.read) (find (λ w. w.number == n) (those_waiting qs)) (eq-eqb q.read.number n (ap number_in same)))
    ∙ ap (λ c. find (λ w. w.number == n) (map (λ (r : ReadPlace). r.read) (cond c (q ∷ filter waits qs) (filter waits qs)))) (sym (ap waits same ∙ is))
is_found (q ∷ qs) up (suc k) p at is =
    let n = p.read.number in
    let above : q.read.number < n = every_get (λ (r : ReadPlace). q.read.number < r.read.number) qs k p (above_first number_in q.read.number qs up) at in
    let rest = is_found qs (rest_ascends q.read.number (place_numbers qs) up) k p at is in
    by_test q.waits (λ c. Some p.read ≡ find (λ w. w.number == n) (map (λ (r : ReadPlace). r.read) (cond c (q ∷ filter waits qs) (filter waits qs))))
    (λ _. rest ∙ sym (cond-false (q.read.number == n) _ _ (ne_eqb q.read.number n (λ e. omega (arith, above, e)))))
    (λ _. rest)

pub none_found : (ws : List Waiting) (n : ℕ) → HaveNot ws n → None ≡ find (λ w. w.number == n) ws
none_found [] n apart = refl
none_found (w ∷ ws) n apart = none_found ws n apart.1 ∙ sym (cond-false (w.number == n) _ _ (ne_eqb w.number n apart.0))

-- whether one of them has the number
none_has : (ws : List Waiting) (n : ℕ) → HaveNot ws n → false ≡ has (waiting_numbers ws) n
none_has [] n apart = refl
none_has (w ∷ ws) n apart = none_has ws n apart.1 ∙ ap (λ c. c || has (waiting_numbers ws) n) (sym (ne_eqb w.number n apart.0))

one_has : (ws : List Waiting) (n : ℕ) (w : Waiting) → Some w ≡ find (λ v. v.number == n) ws → true ≡ has (waiting_numbers ws) n
one_has [] n w at = absurd (none-some w (sym at))
one_has (v ∷ ws) n w at =
    by_test (v.number == n) (λ c. Some w ≡ cond c (Some v) (find (λ u. u.number == n) ws) → true ≡ (c || has (waiting_numbers ws) n)) (λ _ _. refl) (λ _ later. one_has ws n w later) at

pub has_so : (ps : List ReadPlace) → ascends (place_numbers ps) ≡ true → (n : ℕ) (o : Option ℕ) → IfSome o (IsPlaceOfRead ps n) → IfNone o (HaveNot (those_waiting ps) n) → is_some o ≡ has (waiting_numbers (those_waiting ps)) n
has_so ps up n None there none = none_has (those_waiting ps) n none
has_so ps up n (Some k) there none =
    one_has (those_waiting ps) n there.place.read (is_found ps up k there.place there.there there.waits ∙ ap (λ m. find (λ (w : Waiting). w.number == m) (those_waiting ps)) there.is)
