-- What look-ups in the tables find.
use Rattle.std.proofs.Common.{◌≡◌, ℕ, zero, suc, ◌+◌, ◌-◌, ◌<◌, ◌≤◌, Bool, true, false, cond, not, ◌&&◌, ◌==◌, List, [], ◌∷◌, ◌++◌, length, take, get_or, Option, Some, None, is_some, refl, sym, ap, ◌∙◌, arith, append_assoc, le_of_lt, le_of_eq}
use Rattle.std.specs.List.{filter, range_with_len, position_or_len}
use Rattle.std.specs.Option.{is_none, option_cmp}
use Rattle.std.specs.Ordering.{MatchOrdering, is_eq, nat_cmp, ordering_then}
use Rattle.std.specs.declared.cmp.Ordering.{Ordering}
use Rattle.std.specs.declared.cmp.Ordering.TheVariants.{Less, Equal, Greater}
use Rattle.std.proofs.lemmas.Bool.{cond-true, cond-false, not_from_false, not_from_true, eq-eqb, ne_eqb}
use Rattle.std.proofs.lemmas.Cmp.{ranked}
use Rattle.std.proofs.lemmas.List.{append-nil}
use Rattle.std.proofs.lemmas.List.FromFn.{map-range_with_len_more}
use Rattle.std.proofs.lemmas.List.Sums.{position_or_len_is}
use Rattle.pf_tree_tables.specs.declared.tables.Tag.{Tag}
use Rattle.pf_tree_tables.specs.Places.{IsLeastFrom, IsNoneFrom}
use Rattle.pf_tree_tables.specs.Tables.{block_of, blocks_of, is_tag, tag_at, untagged_from, unused}

pub blocks_more : (tags : List (Option Tag)) (i k : ℕ) → blocks_of tags i (k + 1) ≡ blocks_of tags i k ++ block_of tags i k ∷ []
blocks_more tags i k = map-range_with_len_more (block_of tags i) 0 k k (omega arith)

pub first_place : {X : Type 0} → (p : Option X → Bool) (xs : List (Option X)) (i : ℕ) → i < length xs → ((k : ℕ) → k < i → p (get_or xs k None) ≡ false) → p (get_or xs i None) ≡ true → i ≡ position_or_len p xs
first_place p xs i low before here = sym (position_or_len_is p xs i None (le_of_lt low) before (λ l. here))

pub no_place : {X : Type 0} → (p : Option X → Bool) (xs : List (Option X)) (i : ℕ) → length xs ≤ i → ((k : ℕ) → k < i → p (get_or xs k None) ≡ false) → length xs ≡ position_or_len p xs
no_place p xs i past before =
    sym (position_or_len_is p xs (length xs) None (le_of_eq refl) (λ k low. before k (omega arith)) (λ l. absurd (omega arith)))

-- the tests by which values are looked for
is_free : {T : Type 0} (R : T → T → Ordering) (x : Option T) → is_eq (option_cmp R x None) ≡ is_none x
is_free R None = refl
is_free R (Some x) = refl

same_numbers : (a b : ℕ) → is_eq (nat_cmp a b) ≡ (a == b)
same_numbers a b = by (nat_cmp a b) (ranked a b (nat_cmp a b) refl)
  where
    by : (o : Ordering) → MatchOrdering o (a < b) (a ≡ b) (b < a) → is_eq o ≡ (a == b)
    by Less m = sym (ne_eqb a b (λ e. omega (arith, m, e)))
    by Equal m = sym (eq-eqb a b m)
    by Greater m = sym (ne_eqb a b (λ e. omega (arith, m, e)))

both_equal : (o p : Ordering) → is_eq (ordering_then o p) ≡ (is_eq o && is_eq p)
both_equal Less p = refl
both_equal Equal p = refl
both_equal Greater p = refl

has_tag : (R : Tag → Tag → Ordering) → ((a b : Tag) → R a b ≡ ordering_then (nat_cmp a.inode b.inode) (nat_cmp a.index b.index)) → (i k : ℕ) (x : Option Tag) → is_eq (option_cmp R x (Some (record { inode = i; index = k }))) ≡ is_tag i k x
has_tag R is i k None = refl
has_tag R is i k (Some t) =
    ap is_eq (is t (record { inode = i; index = k })) ∙ both_equal (nat_cmp t.inode i) (nat_cmp t.index k)
    ∙ ap (λ (b : Bool). b && is_eq (nat_cmp t.index k)) (same_numbers t.inode i) ∙ ap (λ (b : Bool). (t.inode == i) && b) (same_numbers t.index k)

least_place : {T : Type 0} (p q : Option T → Bool) → ((x : Option T) → q x ≡ p x) → (xs : List (Option T)) (n : ℕ) → IsLeastFrom q xs 0 n → n ≡ position_or_len p xs
least_place p q same xs n least =
    first_place p xs n least.within (λ k low. sym (same (get_or xs k None)) ∙ least.before k None (omega arith) low) (sym (same (get_or xs n None)) ∙ least.passes None)

none_place : {T : Type 0} (p q : Option T → Bool) → ((x : Option T) → q x ≡ p x) → (xs : List (Option T)) → IsNoneFrom q xs 0 → length xs ≡ position_or_len p xs
none_place p q same xs none =
    no_place p xs (length xs) (le_of_eq refl) (λ k low. sym (same (get_or xs k None)) ∙ none k None (omega arith) low)

pub least_free_is : {T : Type 0} (R : T → T → Ordering) (xs : List (Option T)) (n : ℕ) → IsLeastFrom (λ x. is_eq (option_cmp R x None)) xs 0 n → n ≡ position_or_len is_none xs
least_free_is R xs n least = least_place is_none (λ x. is_eq (option_cmp R x None)) (is_free R) xs n least

pub none_free : {T : Type 0} (R : T → T → Ordering) (xs : List (Option T)) → IsNoneFrom (λ x. is_eq (option_cmp R x None)) xs 0 → length xs ≡ position_or_len is_none xs
none_free R xs none = none_place is_none (λ x. is_eq (option_cmp R x None)) (is_free R) xs none

pub block_found : (R : Tag → Tag → Ordering) → ((a b : Tag) → R a b ≡ ordering_then (nat_cmp a.inode b.inode) (nat_cmp a.index b.index)) → (tags : List (Option Tag)) (i k n : ℕ) → IsLeastFrom (λ x. is_eq (option_cmp R x (Some (record { inode = i; index = k })))) tags 0 n → n ≡ block_of tags i k
block_found R is tags i k n least = least_place (is_tag i k) (λ x. is_eq (option_cmp R x (Some (record { inode = i; index = k })))) (has_tag R is i k) tags n least

pub no_block : (R : Tag → Tag → Ordering) → ((a b : Tag) → R a b ≡ ordering_then (nat_cmp a.inode b.inode) (nat_cmp a.index b.index)) → (tags : List (Option Tag)) (i k : ℕ) → IsNoneFrom (λ x. is_eq (option_cmp R x (Some (record { inode = i; index = k })))) tags 0 → length tags ≡ block_of tags i k
no_block R is tags i k none = none_place (is_tag i k) (λ x. is_eq (option_cmp R x (Some (record { inode = i; index = k })))) (has_tag R is i k) tags none

-- numbers that are not in use
unused_step : (first n : ℕ) (in_use : ℕ → Bool) → first < n → unused first n in_use ≡ cond (not (in_use first)) (first ∷ unused (first + 1) n in_use) (unused (first + 1) n in_use)
unused_step first n in_use low =
    let e : n - first ≡ suc (n - (first + 1)) = omega (arith, low) in
    ap (λ m. filter (λ b. not (in_use b)) (range_with_len first m)) e

unused_on : (d first b n : ℕ) (in_use : ℕ → Bool) → first + d ≡ b → b < n → ((k : ℕ) → first ≤ k → k < b → in_use k ≡ true) → in_use b ≡ false → unused first n in_use ≡ b ∷ unused (b + 1) n in_use
unused_on zero first b n in_use e low used free =
    let same : first ≡ b = omega (arith, e) in
    ap (λ k. unused k n in_use) same ∙ unused_step b n in_use low ∙ cond-true _ _ _ (not_from_false _ free)
unused_on (suc d) first b n in_use e low used free =
    unused_step first n in_use (omega (arith, e, low)) ∙ cond-false _ _ _ (not_from_true _ (used first (omega arith) (omega (arith, e))))
    ∙ unused_on d (first + 1) b n in_use (omega (arith, e)) low (λ k high. used k (omega (arith, high))) free

all_used : (m first : ℕ) (in_use : ℕ → Bool) → ((k : ℕ) → first ≤ k → k < first + m → in_use k ≡ true) → filter (λ b. not (in_use b)) (range_with_len first m) ≡ []
all_used zero first in_use used = refl
all_used (suc m) first in_use used =
    cond-false _ _ _ (not_from_true _ (used first (omega arith) (omega arith))) ∙ all_used m (first + 1) in_use (λ k low high. used k (omega (arith, low)) (omega (arith, high)))

is_none_used : (x : Option Tag) → is_none x ≡ true → is_some x ≡ false
is_none_used None e = refl
is_none_used (Some t) e = cc

not_none_used : (x : Option Tag) → is_none x ≡ false → is_some x ≡ true
not_none_used None e = cc
not_none_used (Some t) e = refl

-- the next free block
pub free_next : (R : Tag → Tag → Ordering) (tags : List (Option Tag)) (first b : ℕ) → IsLeastFrom (λ x. is_eq (option_cmp R x None)) tags first b → untagged_from first tags ≡ b ∷ untagged_from (b + 1) tags
free_next R tags first b least =
    let low = least.low in
    unused_on (b - first) first b (length tags) (λ k. is_some (tag_at tags k)) (omega (arith, low)) least.within
    (λ k high short. not_none_used (tag_at tags k) (sym (is_free R (tag_at tags k)) ∙ least.before k None high short))
    (is_none_used (tag_at tags b) (sym (is_free R (tag_at tags b)) ∙ least.passes None))

pub free_end : (R : Tag → Tag → Ordering) (tags : List (Option Tag)) (first : ℕ) → IsNoneFrom (λ x. is_eq (option_cmp R x None)) tags first → untagged_from first tags ≡ []
free_end R tags first none =
    all_used (length tags - first) first (λ k. is_some (tag_at tags k))
    (λ k low high. not_none_used (tag_at tags k) (sym (is_free R (tag_at tags k)) ∙ none k None low (omega (arith, low, high))))

-- one more is taken
pub taken_next : (n k : ℕ) (done left rest : List ℕ) (b : ℕ) → k < n → left ≡ b ∷ rest → (done ++ b ∷ []) ++ take (n - (k + 1)) rest ≡ done ++ take (n - k) left
taken_next n k done left rest b low is =
    let e : n - k ≡ suc (n - (k + 1)) = omega (arith, low) in
    append_assoc done (b ∷ []) (take (n - (k + 1)) rest) ∙ sym (ap (λ (m : ℕ). done ++ take m left) e ∙ ap (λ (xs : List ℕ). done ++ take (suc (n - (k + 1))) xs) is)

pub taken_end : (n : ℕ) (done left : List ℕ) → left ≡ [] → done ++ take n left ≡ done
taken_end n done left is = ap (λ (xs : List ℕ). done ++ take n xs) is ∙ ap (λ (xs : List ℕ). done ++ xs) (nil_take n) ∙ append-nil done
  where
    nil_take : (n : ℕ) → ◌≡◌ {A = List ℕ} (take n []) []
    nil_take zero = refl
    nil_take (suc n) = refl
