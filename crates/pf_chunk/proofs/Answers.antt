-- The answers to one read: none, or one that stays.
use Rattle.std.proofs.Common.{◌≡◌, ◌≢◌, ℕ, zero, suc, List, [], ◌∷◌, map, ◌==◌, Some, slice_get, arith, refl, sym, ap, subst, ◌∙◌}
use Rattle.std.specs.List.{filter}
use Rattle.std.proofs.lemmas.Bool.{cond-true, cond-false, eq-eqb, ne_eqb}
use Rattle.std.proofs.lemmas.Option.{same_Some}
use Rattle.pf_entry.specs.Lists.{Every}
use Rattle.pf_entry.proofs.Lists.{every_get}
use Rattle.pf_protocol.specs.Groups.{Answered, Group}
use Rattle.pf_chunk.specs.Waiting.{IsAnsweredIn, ReadsWaitOnce, answers_of_read}
use Rattle.pf_chunk_waiting.proofs.Filters.{every_place}
use Rattle.pf_chunk.proofs.Members.{AreApart}
use Rattle.pf_chunk.proofs.Once.{answers_apart}

abbrev numbered : ℕ → List Answered → List Answered
numbered n xs = filter (λ a. a.number == n) xs

none_numbered : (n : ℕ) (xs : List Answered) → Every (λ a. a.number ≢ n) xs → numbered n xs ≡ []
none_numbered n [] each = refl
none_numbered n (x ∷ xs) each = cond-false (x.number == n) _ _ (ne_eqb x.number n each.0) ∙ none_numbered n xs each.1

others_apart : (n : ℕ) (xs : List Answered) → Every (λ m. m ≢ n) (map (λ a. a.number) xs) → Every (λ a. a.number ≢ n) xs
others_apart n [] each = tt
others_apart n (x ∷ xs) each = (each.0, others_apart n xs each.1)

one_numbered : (xs : List Answered) → AreApart (map (λ a. a.number) xs) → (k : ℕ) (a : Answered) → slice_get xs k ≡ Some a → numbered a.number xs ≡ a ∷ []
one_numbered [] apart k a at = absurd (grind (arith, at))
one_numbered (x ∷ xs) apart zero a at =
    let same = same_Some x a at in
    cond-true (x.number == a.number) _ _ (eq-eqb x.number a.number (ap (λ y. y.number) same))
    ∙ ap (λ ys. x ∷ ys) (none_numbered a.number xs (subst (λ y. Every (λ z. z.number ≢ y.number) xs) same (others_apart x.number xs apart.0)))
    ∙ ap (λ y. y ∷ []) same
one_numbered (x ∷ xs) apart (suc k) a at =
    cond-false (x.number == a.number) _ _ (ne_eqb x.number a.number (λ same. every_get (λ y. y.number ≢ x.number) xs k a (others_apart x.number xs apart.0) at (sym same)))
    ∙ one_numbered xs apart.1 k a at

-- a read that was not answered has none
pub no_answers : (g : Group) (n : ℕ) → (IsAnsweredIn g n → ⊥) → answers_of_read g n ≡ []
no_answers g n none = none_numbered n g.answered (every_place (λ a. a.number ≢ n) g.answered (λ k a at same. none (record { place = k; answer = a; there = at; numbered = same })))

-- one that was answered has that answer alone
pub its_answer : (g : Group) → ReadsWaitOnce g → (k : ℕ) (a : Answered) → slice_get g.answered k ≡ Some a → answers_of_read g a.number ≡ a ∷ []
its_answer g w k a at = one_numbered g.answered (answers_apart g w) k a at
