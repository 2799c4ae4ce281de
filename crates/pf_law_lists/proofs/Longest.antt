-- The longest list of a mount at the end is a transaction list.
use Rattle.std.proofs.Common.{◌≡◌, ℕ, zero, suc, ◌<◌, ◌≤◌, ◌⊎◌, inl, inr, cond, nat_lt, List, [], length, Some, slice_get, slice_index_or, arith, sym, ap, subst}
use Rattle.std.proofs.lemmas.Bool.{cases_lt, cases_eq, cond-true, cond-false, lt-ltb, le-ltb}
use Rattle.std.proofs.lemmas.Option.{none-some, slice_get-get_or}
use Rattle.pf_law_lists.specs.Journals.{IsTransactionList}
use Rattle.pf_law_lists.proofs.JournalPositions.{lists_decided, Case, at_end, Decided}
use Rattle.pf_law_lists.proofs.ListGrowth.{end_longer, end_list, high_empty}
use Rattle.pf_law_lists.proofs.OneList.{stood_there}

module _ (ds : Case) where
  -- at the end
  abbrev final : ℕ → List (List ℕ)
  final m = (at_end ds).list m

  -- of the first mounts
  longest : ℕ → List (List ℕ)
  longest zero = []
  longest (suc n) = cond (nat_lt (length (longest n)) (length (final n))) (final n) (longest n)

  record IsLongest (n : ℕ) (list : List (List ℕ)) : Type 0 where
    decided : (k : ℕ) (v : List ℕ) → slice_get list k ≡ Some v → Decided ds k v
    longer : (m : ℕ) → m < n → length (final m) ≤ length list

  of_final : (m k : ℕ) (v : List ℕ) → slice_get (final m) k ≡ Some v → Decided ds k v
  of_final m k v at =
      let d = lists_decided ds m (length ds.doings) k v (subst (λ (l : List (List ℕ)). slice_get l k ≡ Some v) (sym (end_list ds m)) at) in
      record { ballot = d.2.ballot; decides = d.2.decides }

  longest_is : (n : ℕ) → IsLongest n (longest n)
  unfolding longest
  longest_is zero = record { decided = λ k v at. absurd (none-some v at); longer = λ m less. absurd (omega (arith, less)) }
  longest_is (suc n) = more (longest n) (longest_is n) (cases_lt (length (longest n)) (length (final n)))
    where
      more : (list : List (List ℕ)) → IsLongest n list → (length list < length (final n)) ⊎ (length (final n) ≤ length list) → IsLongest (suc n) (cond (nat_lt (length list) (length (final n))) (final n) list)
      more list is (inl less) = subst (IsLongest (suc n)) (sym (cond-true (nat_lt (length list) (length (final n))) (final n) list (lt-ltb (length list) (length (final n)) less))) (record {
        decided = of_final n;
        longer = λ m below. elim (cases_eq m n) [
          | inl same ↦ subst (λ i. length (final i) ≤ length (final n)) (sym same) (omega arith)
          | inr apart ↦ omega (arith, is.longer m (omega (arith, below, apart)), less)
        ];
      })
      more list is (inr not_less) = subst (IsLongest (suc n)) (sym (cond-false (nat_lt (length list) (length (final n))) (final n) list (le-ltb (length list) (length (final n)) not_less))) (record {
        decided = is.decided;
        longer = λ m below. elim (cases_eq m n) [
          | inl same ↦ subst (λ i. length (final i) ≤ length list) (sym same) not_less
          | inr apart ↦ is.longer m (omega (arith, below, apart))
        ];
      })

  -- of all mounts, since those from 16 on have nothing
  longer_than : (m : ℕ) → length (final m) ≤ length (longest 16)
  longer_than m =
      elim (cases_lt m 16) [
        | inl low ↦ (longest_is 16).longer m low
        | inr high ↦ omega (arith, ap (λ (l : List (List ℕ)). length l) (high_empty ds m high))
      ]

  -- a position is decided only where a mount stood, and no mount stands above the end of the longest list
  not_past : 0 < ds.quorum → (k : ℕ) (v : List ℕ) → length (longest 16) < k → Decided ds k v → ⊥
  not_past some k v past x =
      let a : ℕ = slice_index_or x.decides.used 0 0 in
      let d = x.decides.each 0 a (slice_get-get_or x.decides.used 0 0 (omega (arith, some, x.decides.is_quorum.many))) in
      omega (arith, stood_there ds k a x.ballot v d, end_longer ds d.mount d.asked, longer_than d.mount, past)

  pub transaction_list : 0 < ds.quorum → (list : List (List ℕ)) × IsTransactionList ds.anchors ds.quorum ds.doings list
  transaction_list some = (longest 16, record { decided = (longest_is 16).decided; longest = longer_than; ends = not_past some })
