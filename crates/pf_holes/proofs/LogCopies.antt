-- The entries of a log up to a slot, as a list.
use Rattle.std.proofs.Common.{◌≡◌, ℕ, ◌+◌, ◌<◌, ◌≤◌, ◌≢◌, inl, inr, true, cond, List, [], ◌∷◌, ◌++◌, Option, Some, None, is_some, nat_le, ◌==◌, arith, refl, sym, ap, subst, ◌∙◌}
use Rattle.std.specs.Ordering.{nat_cmp}
use Rattle.std.specs.Cmp.{nat_cmp_total}
use Rattle.std.specs.FinMap
use Rattle.std.specs.FinMap.{get-empty, get-insert, get-from_entries, from_entries_push, same_map, nat_cmp-IsAntisymmetric}
use Rattle.std.proofs.lemmas.Bool.{and_parts, and_from, lt-ltb, cases_eq}
use Rattle.std.proofs.lemmas.Bool.Decides.{nat_tests}
use Rattle.std.proofs.lemmas.List.{map-append}
use Rattle.pf_entry.specs.declared.entries.Entry.{Entry}
use Rattle.pf_entry.specs.Maps.{Map}
use Rattle.pf_entry.specs.Tables.{ascends, ascends_from}
use Rattle.pf_entry.specs.EntryMaps.{slots_in, entry_rows, log_of}
use Rattle.pf_holes.specs.Windows.{SlotsAreWithin}
use Rattle.pf_holes.proofs.Found.{same_number}

-- every number of the list is at most this one
abbrev pub AreUpto : ℕ → List ℕ → Type 0
AreUpto n [] = Unit {0}
AreUpto n (m ∷ ms) = (m ≤ n) × AreUpto n ms

pub record IsCopied (entries : Map Entry) (slot : ℕ) (rows : List Entry) : Type 0 where
  pub log : (q : ℕ) → FinMap.get (log_of rows) q ≡ cond (nat_le q slot) (FinMap.get entries q) None
  pub ascending : ascends (slots_in rows) ≡ true
  pub upto : AreUpto slot (slots_in rows)

ascends_from_push : (n m slot : ℕ) (ns : List ℕ) → ascends_from n ns ≡ true → n < m → AreUpto slot ns → slot < m → ascends_from n (ns ++ m ∷ []) ≡ true
ascends_from_push n m slot [] is lt low high = and_from _ _ (lt-ltb n m lt) refl
ascends_from_push n m slot (k ∷ ks) is lt low high =
    let h = and_parts _ _ is in
    and_from _ _ h.0 (ascends_from_push k m slot ks h.1 (omega (arith, low.0)) low.1 high)

ascends_push : (m slot : ℕ) (ns : List ℕ) → ascends ns ≡ true → AreUpto slot ns → slot < m → ascends (ns ++ m ∷ []) ≡ true
ascends_push m slot [] is low high = refl
ascends_push m slot (n ∷ ns) is low high = ascends_from_push n m slot ns is (omega (arith, low.0)) low.1 high

upto_more : (slot m : ℕ) (ns : List ℕ) → AreUpto slot ns → slot ≤ m → AreUpto m ns
upto_more slot m [] low le = tt
upto_more slot m (n ∷ ns) low le = (omega (arith, low.0), upto_more slot m ns low.1 le)

upto_push : (slot m : ℕ) (ns : List ℕ) → AreUpto slot ns → slot ≤ m → AreUpto m (ns ++ m ∷ [])
upto_push slot m [] low le = (omega arith, tt)
upto_push slot m (n ∷ ns) low le = (omega (arith, low.0), upto_push slot m ns low.1 le)

log_of_none : log_of [] ≡ FinMap.empty
unfolding log_of
log_of_none = refl

log_of_push : (rows : List Entry) (e : Entry) → FinMap.get (log_of rows) e.slot ≡ None → log_of (rows ++ e ∷ []) ≡ FinMap.insert (log_of rows) e.slot e
unfolding log_of
log_of_push rows e none =
    ap FinMap.from_entries (map-append (λ (x : Entry). (x.slot, x)) rows (e ∷ []))
    ∙ from_entries_push nat_cmp_total nat_cmp-IsAntisymmetric (entry_rows rows) e.slot e (sym (get-from_entries nat_cmp_total (entry_rows rows) e.slot) ∙ none)

-- nothing is held up to the base
pub copied_none : (entries : Map Entry) (base : ℕ) (rows : List Entry) → SlotsAreWithin base entries → rows ≡ [] → IsCopied entries base rows
copied_none entries base rows within none = subst (IsCopied entries base) (sym none) (record {
  log = λ q. ap (λ m. FinMap.get m q) log_of_none ∙ get-empty nat_cmp q ∙ nothing q (FinMap.get entries q) (within q);
  ascending = refl;
  upto = tt;
})
  where
    nothing : (q : ℕ) (o : Option Entry) → (is_some o ≡ true → (base < q) × (q ≤ base + 4096)) → None ≡ cond (nat_le q base) o None
    nothing q None within = grind (arith, nat_tests)
    nothing q (Some e) within = let h = within refl in grind (arith, nat_tests)

-- a slot without an entry adds nothing
pub copied_hole : (entries : Map Entry) (slot : ℕ) (rows : List Entry) → IsCopied entries slot rows → FinMap.get entries (slot + 1) ≡ None → IsCopied entries (slot + 1) rows
copied_hole entries slot rows copied none = record {
  log = λ q. copied.log q ∙ hole q (FinMap.get entries q) (λ e. ap (FinMap.get entries) e ∙ none);
  ascending = copied.ascending;
  upto = upto_more slot (slot + 1) (slots_in rows) copied.upto (omega arith);
}
  where
    hole : (q : ℕ) (o : Option Entry) → (q ≡ slot + 1 → o ≡ None) → cond (nat_le q slot) o None ≡ cond (nat_le q (slot + 1)) o None
    hole q None none = grind (arith, nat_tests)
    hole q (Some e) none = grind (arith, nat_tests)

-- the entry of the next slot goes to the end
pub copied_more : (entries : Map Entry) (slot : ℕ) (rows now : List Entry) (e : Entry) → IsCopied entries slot rows → FinMap.get entries (slot + 1) ≡ Some e → e.slot ≡ slot + 1 → now ≡ rows ++ e ∷ [] → IsCopied entries (slot + 1) now
copied_more entries slot rows now e copied held own pushed = subst (IsCopied entries (slot + 1)) (sym pushed) (record {
  log = λ q.
      ap (λ m. FinMap.get m q) (log_of_push rows e (copied.log e.slot ∙ past e.slot (FinMap.get entries e.slot) own))
      ∙ get-insert nat_cmp_total (log_of rows) e.slot e q
      ∙ ap (λ b. cond b (Some e) (FinMap.get (log_of rows) q)) (same_number q e.slot ∙ ap (λ n. q == n) own)
      ∙ ap (cond (q == slot + 1) (Some e)) (copied.log q)
      ∙ more q (FinMap.get entries q) (λ same. ap (FinMap.get entries) same ∙ held);
  ascending = ap ascends (slots_push rows e) ∙ ascends_push e.slot slot (slots_in rows) copied.ascending copied.upto (omega (arith, own));
  upto = subst (AreUpto (slot + 1)) (sym (slots_push rows e)) (subst (λ n. AreUpto (slot + 1) (slots_in rows ++ n ∷ [])) (sym own) (upto_push slot (slot + 1) (slots_in rows) copied.upto (omega arith)));
})
  where
    slots_push : (rows : List Entry) (e : Entry) → slots_in (rows ++ e ∷ []) ≡ slots_in rows ++ e.slot ∷ []
    slots_push rows e = map-append (λ (x : Entry). x.slot) rows (e ∷ [])

    past : (q : ℕ) (o : Option Entry) → q ≡ slot + 1 → cond (nat_le q slot) o None ≡ None
    past q o is = grind (arith, nat_tests)

    here : (q : ℕ) (o : Option Entry) → q ≡ slot + 1 → o ≡ Some e → cond (q == slot + 1) (Some e) (cond (nat_le q slot) o None) ≡ cond (nat_le q (slot + 1)) o None
    here q o same is = grind (arith, nat_tests)

    elsewhere : (q : ℕ) (o : Option Entry) → q ≢ slot + 1 → cond (q == slot + 1) (Some e) (cond (nat_le q slot) o None) ≡ cond (nat_le q (slot + 1)) o None
    elsewhere q o apart = grind (arith, nat_tests)

    more : (q : ℕ) (o : Option Entry) → (q ≡ slot + 1 → o ≡ Some e) → cond (q == slot + 1) (Some e) (cond (nat_le q slot) o None) ≡ cond (nat_le q (slot + 1)) o None
    more q o held = elim (cases_eq q (slot + 1)) [ inl same ↦ here q o same (held same) | inr apart ↦ elsewhere q o apart ]

-- past the last slot there is nothing more
pub copied_all : (entries : Map Entry) (slot last : ℕ) (rows : List Entry) → IsCopied entries slot rows → last ≤ slot → ((q : ℕ) → FinMap.contains_key entries q ≡ true → q ≤ last) → log_of rows ≡ entries
copied_all entries slot last rows copied past upto = same_map nat_cmp_total nat_cmp-IsAntisymmetric _ _ (λ q. copied.log q ∙ all q (FinMap.get entries q) (upto q))
  where
    all : (q : ℕ) (o : Option Entry) → (is_some o ≡ true → q ≤ last) → cond (nat_le q slot) o None ≡ o
    all q None low = grind (arith, nat_tests)
    all q (Some e) low = let h = low refl in grind (arith, nat_tests)
