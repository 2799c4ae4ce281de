-- The halts of several groups tell of each.
use Rattle.std.proofs.Common.{◌≡◌, ℕ, zero, suc, ◌+◌, ◌<◌, ◌==◌, true, false, List, [], ◌∷◌, ◌++◌, flat_map, Some, slice_get, arith, refl, sym, ap, ◌∙◌}
use Rattle.std.specs.Prelude.{IsTrue}
use Rattle.std.proofs.lemmas.Bool.{eq-eqb, ne_eqb}
use Rattle.std.proofs.lemmas.List.{append-nil}
use Rattle.std.proofs.lemmas.List.Elements.{filter-append}
use Rattle.std.proofs.lemmas.Option.{none-some, same_Some}
use Rattle.pf_entry.specs.Lists.{Every}
use Rattle.pf_entry.proofs.Lists.{every_append, every_more}
use Rattle.pf_protocol.specs.Answers.{IsLegal}
use Rattle.pf_protocol.specs.Groups.{opening}
use Rattle.pf_group.specs.GroupIs.{GroupIs}
use Rattle.pf_group_rounds.specs.Agreeing.{TellsOfGroup}
use Rattle.pf_group_rounds.specs.Telling.{halts_of_group, of_group}
use Rattle.pf_group_rounds.proofs.Filters.{filter_all, filter_none}
use Rattle.pf_group_rounds.proofs.HaltPlaces.{made, placed}
use Rattle.pf_group_rounds.proofs.HaltsTold.{tells_among}

-- the halts of a group have its number
numbered : (g : GroupIs) → Every (λ h. h.group ≡ g.number) (halts_of_group g)
numbered g = every_append (λ h. h.group ≡ g.number) _ _ (made g.number g.setup (λ h. h.group ≡ g.number) (λ server. refl) g.setup.failed) (placed g.number g.setup (λ h. h.group ≡ g.number) 0 (λ n server found le. refl) g.history (opening g.setup))

own_all : (g : GroupIs) (k : ℕ) → g.number ≡ k → of_group (halts_of_group g) k ≡ halts_of_group g
own_all g k is = filter_all (λ h. h.group == k) (halts_of_group g) (every_more (λ h. h.group ≡ g.number) (λ h. (h.group == k) ≡ true) (λ h its. eq-eqb h.group k (its ∙ is)) (halts_of_group g) (numbered g))

own_none : (g : GroupIs) (k : ℕ) → (g.number ≡ k → ⊥) → of_group (halts_of_group g) k ≡ []
own_none g k apart = filter_none (λ h. h.group == k) (halts_of_group g) (every_more (λ h. h.group ≡ g.number) (λ h. (h.group == k) ≡ false) (λ h its. ne_eqb h.group k (λ e. apart (sym its ∙ e))) (halts_of_group g) (numbered g))

-- groups that are numbered from n on
abbrev AreNumbered : ℕ → List GroupIs → Type 0
AreNumbered n gs = (k : ℕ) (g : GroupIs) → slice_get gs k ≡ Some g → g.number ≡ n + k

rest_numbered : (n : ℕ) (g : GroupIs) (gs : List GroupIs) → AreNumbered n (g ∷ gs) → AreNumbered (suc n) gs
rest_numbered n g gs all k x at = all (suc k) x at ∙ omega arith

none_below : (n k : ℕ) → k < n → (gs : List GroupIs) → AreNumbered n gs → of_group (flat_map halts_of_group gs) k ≡ []
none_below n k low [] all = refl
none_below n k low (g ∷ gs) all =
    filter-append (λ h. h.group == k) (halts_of_group g) (flat_map halts_of_group gs)
    ∙ ap (λ xs. xs ++ of_group (flat_map halts_of_group gs) k) (own_none g k (λ e. let first = all 0 g refl in omega (arith, e, first, low)))
    ∙ none_below (suc n) k (omega arith) gs (rest_numbered n g gs all)

own_halts : (n : ℕ) (gs : List GroupIs) → AreNumbered n gs → (k : ℕ) (g : GroupIs) → slice_get gs k ≡ Some g → of_group (flat_map halts_of_group gs) (n + k) ≡ halts_of_group g
own_halts n [] all k g at = absurd (none-some g at)
own_halts n (x ∷ xs) all zero g at =
    filter-append (λ h. h.group == (n + 0)) (halts_of_group x) (flat_map halts_of_group xs)
    ∙ ap (λ rest. of_group (halts_of_group x) (n + 0) ++ rest) (none_below (suc n) (n + 0) (omega arith) xs (rest_numbered n x xs all))
    ∙ append-nil _
    ∙ own_all x (n + 0) (all 0 x refl)
    ∙ ap halts_of_group (same_Some x g at)
own_halts n (x ∷ xs) all (suc k) g at =
    let later : suc n + k ≡ n + suc k = omega arith in
    filter-append (λ h. h.group == (n + suc k)) (halts_of_group x) (flat_map halts_of_group xs)
    ∙ ap (λ rest. rest ++ of_group (flat_map halts_of_group xs) (n + suc k)) (own_none x (n + suc k) (λ e. let first = all 0 x refl in omega (arith, e, first)))
    ∙ ap (of_group (flat_map halts_of_group xs)) (sym later)
    ∙ own_halts (suc n) xs (rest_numbered n x xs all) k g at

-- groups that are numbered by their places, whose disks tell their content, each with a legal history, and made with three servers
pub tells_of_all : (gs : List GroupIs) → ((k : ℕ) (g : GroupIs) → slice_get gs k ≡ Some g → (g.number ≡ k) × IsTrue g.told × Every (λ i. i < 3) g.setup.failed × IsLegal g.setup g.history) → (k : ℕ) (g : GroupIs) → slice_get gs k ≡ Some g → TellsOfGroup (flat_map halts_of_group gs) g
tells_of_all gs all k g at =
    let number : g.number ≡ 0 + k = (all k g at).0 ∙ omega arith in
    tells_among (flat_map halts_of_group gs) g (ap (of_group (flat_map halts_of_group gs)) number ∙ own_halts 0 gs (λ j x there. (all j x there).0 ∙ omega arith) k g at) (all k g at).1 (all k g at).2 (all k g at).3
