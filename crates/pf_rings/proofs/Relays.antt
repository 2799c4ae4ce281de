-- Each move keeps the rule of a ring.
use Rattle.std.proofs.Common.{◌≡◌, ◌≢◌, ◌⊎◌, inl, inr, ℕ, zero, suc, ◌≤◌, true, false, true≢false, List, [], ◌∷◌, ◌++◌, length, length-append, set, sym, refl, ap, ◌∙◌, subst, ⊎_elim, append_assoc, append-nil, arith}
use mathlib.Core.Option.{some, some-injective, some-ne-none}
use lib.ListN.{get_elem?}
use Rattle.crossbeam_queue.specs.Fifo.{Pushes, Pops, Forks, Merges, Learns}
use Rattle.atomic_table.proofs.Lists.{at_set, at_snoc}
use Rattle.pf_rings.specs.declared.view.Request.{Request}
use Rattle.pf_rings.specs.declared.view.RingView.{RingView}
use Rattle.pf_rings.specs.Relayed.{relay_view, Begins, RelayFits, HasPut, RingHasTaken, Relayed, Meets}

abbrev Rs : Type 0
Rs = List Request

at_end : (l : List RingView) (a b : RingView) (j : ℕ) → get_elem? l j ≢ some b → get_elem? (l ++ a ∷ []) j ≡ some b → j ≡ length l
at_end [] a b zero n e = refl
at_end [] a b (suc j) n e = absurd (some-ne-none b (sym e))
at_end (x ∷ xs) a b zero n e = absurd (n e)
at_end (x ∷ xs) a b (suc j) n e = ap suc (at_end xs a b j n e)

begins_refl : (xs : Rs) → Begins xs xs
begins_refl xs = ([], append-nil xs)

begins_more : (xs ys zs : Rs) → Begins xs ys → Begins xs (ys ++ zs)
begins_more xs ys zs p = (p.0 ++ zs, sym (append_assoc xs p.0 zs) ∙ ap (λ l. l ++ zs) p.1)

-- of two beginnings of one list one begins the other
pub begins_either : (xs ys zs : Rs) → Begins xs zs → Begins ys zs → Begins xs ys ⊎ Begins ys xs
begins_either [] ys zs p q = inl (ys, refl)
begins_either (x ∷ xs) [] zs p q = inr (x ∷ xs, refl)
begins_either (x ∷ xs) (y ∷ ys) [] (r, e) q = absurd (cc e)
begins_either (x ∷ xs) (y ∷ ys) (z ∷ zs) (r, e) (r', e') =
    let first : x ≡ z = cc e in
    let second : y ≡ z = cc e' in
    let rest : xs ++ r ≡ zs = cc e in
    let rest' : ys ++ r' ≡ zs = cc e' in
    elim (begins_either xs ys zs (r, rest) (r', rest')) [
      | inl b ↦ inl (b.0, λ i. (first ∙ sym second) i ∷ b.1 i)
      | inr b ↦ inr (b.0, λ i. (second ∙ sym first) i ∷ b.1 i)
    ]

-- of two lists, of which one begins the other, the one that is not longer does
pub longest_begins : (xs ys : Rs) → Begins xs ys ⊎ Begins ys xs → length xs ≤ length ys → Begins xs ys
longest_begins xs ys (inl b) le = b
longest_begins xs ys (inr ([], e)) le = ([], append-nil xs ∙ sym e ∙ append-nil ys)
longest_begins xs ys (inr (z ∷ zs, e)) le = let n = length-append ys (z ∷ zs) in let m = ap length e in absurd (omega arith)

abbrev Each : (ℕ → RingView → Type 0) → List RingView → Type 0
Each F views = (j : ℕ) (v : RingView) → get_elem? views j ≡ some v → F j v

each_set : (F : ℕ → RingView → Type 0) (views : List RingView) (i : ℕ) (w : RingView) → F i w → ((j : ℕ) (u : RingView) → j ≢ i → get_elem? views j ≡ some u → F j u) → Each F (set views i w)
each_set F views i w mine others j u e = ⊎_elim (λ (x : (j ≡ i) × (w ≡ u)). subst (λ (y : ℕ × RingView). F y.0 y.1) (λ k. (sym x.0 k, x.1 k)) mine)
    (λ (x : (j ≢ i) × (get_elem? views j ≡ some u)). others j u x.0 x.1) (at_set views i j w u e)

pub starts : Relayed [] (relay_view true true [] [] ∷ [])
starts = (0, 0, [], [], refl, omega arith, only)
  where
    only : Each (RelayFits 0 0 [] []) (relay_view true true [] [] ∷ [])
    only zero v e = subst (RelayFits 0 0 [] [] 0) (some-injective (relay_view true true [] []) v e) ((λ _. (refl, refl, begins_refl [])), λ _. (refl, refl, begins_refl []))
    only (suc j) v e = absurd (some-ne-none v (sym e))

pub puts : (n j : ℕ) (v : RingView) (x : Request) → n ≡ 8 → v.puts ≡ true → Pushes Relayed n j v x (HasPut v x)
puts n j v x eight may items views room h at = let w : RingView = relay_view v.puts v.takes (v.sent ++ x ∷ []) v.got in let mine = h.6 j v at in let sent : Rs = h.2 ++ x ∷ [] in let own = mine.0 may in (
  w,
  (
    h.0,
    h.1,
    sent,
    h.3,
    ap (λ l. l ++ x ∷ []) h.4 ∙ append_assoc h.3 items (x ∷ []),
    let longer = length-append items (x ∷ []) in omega arith,
    each_set (RelayFits h.0 h.1 sent h.3) views j w
        ((λ _. (own.0, ap (λ l. l ++ x ∷ []) own.1, own.2)), λ t. let m = mine.1 t in (m.0, m.1, subst (λ l. Begins l sent) (sym (ap (λ l. l ++ x ∷ []) own.1)) (begins_refl sent)))
        (λ i u other e. let theirs = h.6 i u e in ((λ p. absurd (other ((theirs.0 p).0 ∙ sym own.0))), λ t. let m = theirs.1 t in (m.0, m.1, begins_more u.sent h.2 (x ∷ []) m.2))),
  ),
  refl,
)

pub takes_one : (j : ℕ) (v : RingView) → v.takes ≡ true → Pops Relayed j v (RingHasTaken v)
takes_one j v may x items views h at = let w : RingView = relay_view v.puts v.takes v.sent (v.got ++ x ∷ []) in let mine = h.6 j v at in let got : Rs = h.3 ++ x ∷ [] in let own = mine.1 may in (
  w,
  (
    h.0,
    h.1,
    h.2,
    got,
    h.4 ∙ sym (append_assoc h.3 (x ∷ []) items),
    let few : length (x ∷ items) ≤ 8 = h.5 in omega arith,
    each_set (RelayFits h.0 h.1 h.2 got) views j w
        ((λ p. let m = mine.0 p in (m.0, m.1, subst (λ l. Begins l got) (sym (ap (λ l. l ++ x ∷ []) own.1)) (begins_refl got))), λ _. (own.0, ap (λ l. l ++ x ∷ []) own.1, own.2))
        (λ i u other e. let theirs = h.6 i u e in ((λ p. let m = theirs.0 p in (m.0, m.1, begins_more u.got h.3 (x ∷ []) m.2)), λ t. absurd (other ((theirs.1 t).0 ∙ sym own.0)))),
  ),
  (refl, begins_either v.sent (v.got ++ x ∷ []) h.2 own.2 (items, append_assoc v.got (x ∷ []) items ∙ ap (λ l. l ++ x ∷ items) own.1 ∙ sym h.4)),
)

pub forks : (j : ℕ) (v : RingView) → v.puts ≡ true → v.takes ≡ true → Forks Relayed j v (relay_view true false v.sent v.got) (relay_view false true v.sent v.got)
forks j v a b items views h at = let l : RingView = relay_view true false v.sent v.got in let r : RingView = relay_view false true v.sent v.got in let mine = h.6 j v at in let vs : List RingView = set views j l in let p = mine.0 a in let t = mine.1 b in
    let Old : ℕ → RingView → Type 0 = λ i u. (u.puts ≡ true → (i ≡ h.0) × (u.sent ≡ h.2) × Begins u.got h.3) × (u.takes ≢ true) in
    let old : Each Old vs = each_set Old views j l ((λ _. p), λ e. true≢false (sym e)) (λ i u other e. let theirs = h.6 i u e in (theirs.0, λ e'. other ((theirs.1 e').0 ∙ sym t.0))) in (
      h.0,
      length vs,
      h.2,
      h.3,
      h.4,
      h.5,
      λ i u e. ⊎_elim (λ x. ((old i u x).0, λ e'. absurd ((old i u x).1 e')))
          (λ (is : r ≡ u). (
            (λ e'. absurd (true≢false (sym (ap (λ (y : RingView). y.puts) is ∙ e')))),
            λ e'. (at_end vs r u i (λ x. (old i u x).1 e') e, ap (λ (y : RingView). y.got) (sym is) ∙ t.1, subst (λ k. Begins k h.2) (ap (λ (y : RingView). y.sent) is) t.2),
          )) (at_snoc vs r u i e),
    )

pub merges : (j : ℕ) (v : RingView) (other : ℕ) (u : RingView) → v.puts ≡ true → u.takes ≡ true → Merges Relayed j v other u (relay_view true true v.sent u.got) (relay_view false false [] [])
merges j v other u a b items views h at apart there = let both : RingView = relay_view true true v.sent u.got in let mine = (h.6 j v at).0 a in let vs : List RingView = set views j both in
    let was : get_elem? views other ≡ some u = ⊎_elim (λ x. absurd (apart x.0)) (λ x. x.1) (at_set views j other both u there) in let theirs = (h.6 other u was).1 b in
    let F : ℕ → RingView → Type 0 = RelayFits h.0 j h.2 h.3 in
    let Now : ℕ → RingView → Type 0 = λ i y. i ≢ other → F i y in
    let now : Each Now vs = each_set Now views j both
    (λ _. ((λ _. (mine.0, mine.1, subst (λ l. Begins l h.3) (sym theirs.1) (begins_refl h.3))), λ _. (refl, theirs.1, subst (λ l. Begins l h.2) (sym mine.1) (begins_refl h.2))))
    (λ i y _ e two. let k = h.6 i y e in (k.0, λ t. absurd (two ((k.1 t).0 ∙ sym theirs.0)))) in
    (h.0, j, h.2, h.3, h.4, h.5, each_set F vs other (relay_view false false [] []) ((λ p. absurd (true≢false (sym p))), λ p. absurd (true≢false (sym p))) (λ i y two e. now i y e two))

-- nothing is asked of the content
pub untold : (j : ℕ) (v : RingView) → Learns Relayed j v (λ _. Unit {0})
untold j v items views h at = tt

pub meets : (j : ℕ) (v : RingView) → v.puts ≡ true → v.takes ≡ true → Learns Relayed j v (Meets v)
meets j v a b items views h at = let p = (h.6 j v at).0 a in let t = (h.6 j v at).1 b in (p.1 ∙ (h.4 ∙ ap (λ l. l ++ items) (sym t.1)), h.5)
