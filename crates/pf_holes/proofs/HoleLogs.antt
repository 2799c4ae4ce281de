-- What a change leaves held.
use Rattle.std.proofs.Common.{◌≡◌, ℕ, ◌+◌, ◌<◌, ◌≤◌, ◌⊎◌, inl, inr, max, Bool, true, false, cond, ◌||◌, ◌&&◌, Option, Some, None, is_some, nat_lt, ◌==◌, arith, refl, sym, ap, ◌∙◌}
use Rattle.std.specs.Ordering.{nat_cmp, eq_by_cmp}
use Rattle.std.specs.Cmp.{nat_cmp_total}
use Rattle.std.specs.FinMap
use Rattle.std.specs.FinMap.{get-empty, get-insert}
use Rattle.std.proofs.lemmas.Bool.{false≢true, or_cases, eqb-true, ltb-true, lt-ltb, and_from}
use Rattle.std.proofs.lemmas.Option.{none-some}
use Rattle.pf_entry.specs.declared.entries.Entry.{Entry}
use Rattle.pf_entry.specs.Maps.{Map, Numbers}
use Rattle.pf_entry.proofs.Maps.{insert_cases}
use Rattle.pf_entry.specs.Records.{has_term}
use Rattle.pf_holes.specs.Windows.{SlotsAreWithin, IsNear}
use Rattle.pf_holes.specs.HoleLogs.{LogIsHeld}
use Rattle.pf_holes.proofs.Found.{same_number}
use Rattle.pf_holes.proofs.TrimmedSlots.{get_above}

stays : (a b : Bool) → b ≡ true → (a || b) ≡ true
stays true b there = refl
stays false b there = there

both : (a b : Bool) → (a && b) ≡ true → (a ≡ true) × (b ≡ true)
both true true is = (refl, refl)
both true false is = absurd (false≢true is)
both false b is = absurd (false≢true is)

module _ {V : Type 0} where
  some_or : (b : Bool) (v : V) (o : Option V) → is_some (cond b (Some v) o) ≡ (b || is_some o)
  some_or true v o = refl
  some_or false v o = refl

  or_none : (b : Bool) (o : Option V) → is_some (cond b o None) ≡ (b && is_some o)
  or_none true o = refl
  or_none false o = refl

  contains_key-insert : (m : Map V) (k : ℕ) (v : V) (q : ℕ) → FinMap.contains_key (FinMap.insert m k v) q ≡ ((q == k) || FinMap.contains_key m q)
  contains_key-insert m k v q =
      ap is_some (get-insert nat_cmp_total m k v q) ∙ some_or (eq_by_cmp nat_cmp q k) v (FinMap.get m q) ∙ ap (λ b. b || FinMap.contains_key m q) (same_number q k)

  -- a key after an insert is the one inserted, or was there
  pub key_cases : (m : Map V) (k : ℕ) (v : V) (q : ℕ) → FinMap.contains_key (FinMap.insert m k v) q ≡ true → (q ≡ k) ⊎ (FinMap.contains_key m q ≡ true)
  key_cases m k v q has =
      elim (or_cases (q == k) (FinMap.contains_key m q) (sym (contains_key-insert m k v q) ∙ has)) [
        | inl same ↦ inl (eqb-true q k same)
        | inr there ↦ inr there
      ]

  pub key_stays : (m : Map V) (k : ℕ) (v : V) (q : ℕ) → FinMap.contains_key m q ≡ true → FinMap.contains_key (FinMap.insert m k v) q ≡ true
  key_stays m k v q there = contains_key-insert m k v q ∙ stays (q == k) (FinMap.contains_key m q) there

  pub contains_key-above : (m : Map V) (base q : ℕ) → FinMap.contains_key (FinMap.retain_keys m (nat_lt base)) q ≡ (nat_lt base q && FinMap.contains_key m q)
  contains_key-above m base q = ap is_some (get_above m base q) ∙ or_none (nat_lt base q) (FinMap.get m q)

  -- a key above a base was there
  pub key_above : (m : Map V) (base q : ℕ) → FinMap.contains_key (FinMap.retain_keys m (nat_lt base)) q ≡ true → (base < q) × (FinMap.contains_key m q ≡ true)
  key_above m base q has =
      let h = both (nat_lt base q) (FinMap.contains_key m q) (sym (contains_key-above m base q) ∙ has) in
      (ltb-true base q h.0, h.1)

  pub no_key : (m : Map V) (q : ℕ) → m ≡ FinMap.empty → FinMap.contains_key m q ≡ true → ⊥
  no_key m q none has = false≢true (sym (ap is_some (ap (λ n. FinMap.get n q) none ∙ get-empty nat_cmp q)) ∙ has)

pub held_new : (entries : Map Entry) (committed : Numbers) → entries ≡ FinMap.empty → committed ≡ FinMap.empty → LogIsHeld 0 0 entries committed
held_new entries committed e m = record {
  within = λ q has. absurd (no_key entries q e has);
  upto = λ q has. absurd (no_key entries q e has);
  keyed = λ q x is. absurd (no_key entries q e (ap is_some is));
  held = λ q has. absurd (no_key committed q m has);
}

pub held_put : (base last slot : ℕ) (entries : Map Entry) (committed : Numbers) (entry : Entry) → LogIsHeld base last entries committed → base < slot → slot ≤ base + 4096 → entry.slot ≡ slot → LogIsHeld base (max last slot) (FinMap.insert entries slot entry) committed
held_put base last slot entries committed entry held low high own = record {
  within = λ q has. elim (key_cases entries slot entry q has) [ inl same ↦ (omega arith, omega arith) | inr there ↦ held.within q there ];
  upto = λ q has. elim (key_cases entries slot entry q has) [ inl same ↦ omega arith | inr there ↦ omega (arith, held.upto q there) ];
  keyed = λ q x is. elim (insert_cases entries slot entry q x is) [ inl same ↦ ap (λ y. y.slot) (sym same.1) ∙ own ∙ sym same.0 | inr there ↦ held.keyed q x there.1 ];
  held = λ q has. key_stays entries slot entry q (held.held q has);
}

pub held_trim : (base last above : ℕ) (entries : Map Entry) (committed : Numbers) → LogIsHeld base last entries committed → base ≤ above → LogIsHeld above last (FinMap.retain_keys entries (nat_lt above)) (FinMap.retain_keys committed (nat_lt above))
held_trim base last above entries committed held up = record {
  within = λ q has. let h = key_above entries above q has in let w = held.within q h.1 in (h.0, omega (arith, w.1));
  upto = λ q has. held.upto q (key_above entries above q has).1;
  keyed = λ q x is. held.keyed q x (kept_value (nat_lt above q) (FinMap.get entries q) x (sym (get_above entries above q) ∙ is));
  held = λ q has. let h = key_above committed above q has in contains_key-above entries above q ∙ kept (nat_lt above q) (FinMap.contains_key entries q) (lt-ltb above q h.0) (held.held q h.1);
}
  where
    kept_value : (b : Bool) (o : Option Entry) (x : Entry) → cond b o None ≡ Some x → o ≡ Some x
    kept_value true o x is = is
    kept_value false o x is = absurd (none-some x is)

    kept : (a b : Bool) → a ≡ true → b ≡ true → (a && b) ≡ true
    kept a b p r = and_from a b p r

term_held : (term : ℕ) (o : Option Entry) → has_term term o ≡ true → is_some o ≡ true
term_held term None is = absurd (false≢true is)
term_held term (Some e) is = refl

pub held_commit : (base last slot term : ℕ) (entries : Map Entry) (committed : Numbers) → LogIsHeld base last entries committed → has_term term (FinMap.get entries slot) ≡ true → LogIsHeld base last entries (FinMap.insert committed slot tt)
held_commit base last slot term entries committed held has = record {
  within = held.within;
  upto = held.upto;
  keyed = held.keyed;
  held = λ q is. elim (key_cases committed slot tt q is) [ inl same ↦ ap (FinMap.contains_key entries) same ∙ term_held term (FinMap.get entries slot) has | inr there ↦ held.held q there ];
}

-- committed slots lie in the window, as what they hold does
pub committed_within : (base last : ℕ) (entries : Map Entry) (committed : Numbers) → LogIsHeld base last entries committed → SlotsAreWithin base committed
committed_within base last entries committed held q has = held.within q (held.held q has)

pub near_within : {V : Type 0} (base slot : ℕ) (m : Map V) → SlotsAreWithin base m → base < slot → slot ≤ base + 4096 → IsNear m slot
near_within base slot m within low high q has = let w = within q has in (omega (arith, w.0, w.1), omega (arith, w.0, w.1))
