-- Each call keeps the rule of a leader cell.
use Rattle.std.proofs.Common.{◌≡◌, ◌≢◌, ℕ, zero, suc, ◌≤◌, ◌<◌, Bool, true, false, true≢false, List, [], ◌∷◌, ◌++◌, set, sym, refl, ap, ◌∙◌, subst, ⊎_elim, le_refl, le_trans, append-nil, append_assoc, arith}
use mathlib.Core.Option.{some, some-injective, some-ne-none}
use lib.ListN.{get_elem?}
use Rattle.crossbeam_utils.specs.Register.{Turns, Forks}
use Rattle.atomic_table.proofs.Lists.{at_set, at_snoc, set_again}
use Rattle.pf_leadercell.specs.declared.view.LeaderView.{LeaderView}
use Rattle.pf_leadercell.specs.Published.{Pair, Begins, last_or, last_of, AllUpTo, pass_view, PassFits, Kept, Hints, Publishes}

pub last_snoc : (d : Pair) (xs : List Pair) (x : Pair) → last_or d (xs ++ x ∷ []) ≡ x
last_snoc d [] x = refl
last_snoc d (y ∷ ys) x = last_snoc y ys x

up_to_mono : (s t : ℕ) (xs : List Pair) → s ≤ t → AllUpTo s xs → AllUpTo t xs
up_to_mono s t [] h a = tt
up_to_mono s t (x ∷ xs) h a = (le_trans a.0 h, up_to_mono s t xs h a.1)

up_to_snoc : (t : ℕ) (xs : List Pair) (x : Pair) → AllUpTo t xs → x.0 ≤ t → AllUpTo t (xs ++ x ∷ [])
up_to_snoc t [] x a h = (h, tt)
up_to_snoc t (y ∷ ys) x a h = (a.0, up_to_snoc t ys x a.1 h)

begins_refl : (xs : List Pair) → Begins xs xs
begins_refl xs = ([], append-nil xs)

begins_more : (xs ys zs : List Pair) → Begins xs ys → Begins xs (ys ++ zs)
begins_more xs ys zs p = (p.0 ++ zs, sym (append_assoc xs p.0 zs) ∙ ap (λ l. l ++ zs) p.1)

each_set : (F : ℕ → LeaderView → Type 0) (views : List LeaderView) (i : ℕ) (w : LeaderView) → F i w → ((j : ℕ) (u : LeaderView) → j ≢ i → get_elem? views j ≡ some u → F j u)
    → (j : ℕ) (u : LeaderView) → get_elem? (set views i w) j ≡ some u → F j u
each_set F views i w mine others j u e = ⊎_elim (λ (x : (j ≡ i) × (w ≡ u)). subst (λ (y : ℕ × LeaderView). F y.0 y.1) (λ k. (sym x.0 k, x.1 k)) mine)
    (λ (x : (j ≢ i) × (get_elem? views j ≡ some u)). others j u x.0 x.1) (at_set views i j w u e)

pub starts : Kept (1 ∷ 0 ∷ []) (pass_view true ((1, 0) ∷ []) ∷ [])
starts = (0, (1, 0) ∷ [], refl, (le_refl 1, tt), omega arith, only)
  where
    only : (j : ℕ) (v : LeaderView) → get_elem? (pass_view true ((1, 0) ∷ []) ∷ []) j ≡ some v → PassFits 0 ((1, 0) ∷ []) j v
    only zero v e = subst (PassFits 0 ((1, 0) ∷ []) 0) (some-injective (pass_view true ((1, 0) ∷ [])) v e) (begins_refl ((1, 0) ∷ []), λ _. (refl, refl))
    only (suc j) v e = absurd (some-ne-none v (sym e))

pub hints : (j : ℕ) (v : LeaderView) → Turns Kept j v (λ x. x) Hints
hints j v x views h at = let one = h.0 in let log = h.1 in let mine = h.5 j v at in (
  pass_view v.first log,
  (one, log, h.2, h.3, h.4, each_set (PassFits one log) views j (pass_view v.first log) (begins_refl log, λ f. ((mine.1 f).0, refl)) (λ i u _ e. h.5 i u e)),
  (refl, mine.0, h.2, h.3, λ f. sym (mine.1 f).1, h.4),
)

pub publishes : (j : ℕ) (v : LeaderView) (a b t s : ℕ) → v.first ≡ true → last_of v.seen ≡ (a, b) → a ≤ t → s < 3 → Turns Kept j v (λ _. t ∷ s ∷ []) Publishes
publishes j v a b t s first last up low x views h at = let one = h.0 in let mine = h.5 j v at in let is = mine.1 first in let log' = v.seen ++ (t, s) ∷ [] in let w : LeaderView = pass_view v.first log' in
    let stands : Rattle.std.proofs.Common.slice_index x 0 ≡ a = ap (λ (p : Pair). p.0) (sym h.2 ∙ (ap last_of (sym is.1) ∙ last)) in (
      w,
      (
        one,
        log',
        last_snoc (0, 0) v.seen (t, s),
        up_to_snoc t v.seen (t, s) (up_to_mono (Rattle.std.proofs.Common.slice_index x 0) t v.seen (subst (λ n. n ≤ t) (sym stands) up) (subst (AllUpTo (Rattle.std.proofs.Common.slice_index x 0)) (sym is.1) h.3)) (le_refl t),
        low,
        each_set (PassFits one log') views j w (begins_refl log', λ _. (is.0, refl))
            (λ i u other e. let theirs = h.5 i u e in (begins_more u.seen v.seen ((t, s) ∷ []) (subst (Begins u.seen) (sym is.1) theirs.0), λ f. absurd (other ((theirs.1 f).0 ∙ sym is.0)))),
      ),
      refl,
    )

pub forks : (j : ℕ) (v : LeaderView) → Forks Kept j v v (pass_view false v.seen)
forks j v x views h at = let one = h.0 in let log = h.1 in (
  one,
  log,
  h.2,
  h.3,
  h.4,
  λ i u e. ⊎_elim (λ was. h.5 i u (subst (λ l. get_elem? l i ≡ some u) (set_again views j v at) was))
      (λ (same : pass_view false v.seen ≡ u). subst (PassFits one log i) same ((h.5 j v at).0, λ f. absurd (true≢false (sym f)))) (at_snoc (set views j v) (pass_view false v.seen) u i e),
)
