-- An entry is not free where a slot below all that it names is not applied.
use Rattle.std.proofs.Common.{◌≡◌, ℕ, ◌<◌, ◌≤◌, true, false, not, ◌&&◌, ◌==◌, List, [], ◌∷◌, Option, Some, None, is_some, slice_get, map, nat_lt, arith, refl, sym, ap, subst}
use Rattle.std.specs.FinMap
use Rattle.std.proofs.lemmas.Bool.{and_parts, false≢true, ltb-true, ne_eqb, or_from}
use Rattle.pf_base.specs.Span.{Span, overlaps}
use Rattle.pf_entry.specs.Applying.{passes}
use Rattle.pf_entry.specs.Tables.{ascends, ascends_from}
use Rattle.pf_entry.specs.declared.entries.Entry.{Entry}
use Rattle.pf_entry.specs.declared.entries.Named.{Named}
use Rattle.pf_server_memory.specs.declared.running.Running.{Running}
use Rattle.pf_server_memory.specs.Standing.{server_of, setup_of, IsBounded}

module _ (p : ℕ) (range : Span) where
  past_from : (n : ℕ) (look : List Named) → p ≤ n → ascends_from n (map (λ m. m.slot) look) ≡ true → passes look p range ≡ false
  past_from n [] low is = refl
  past_from n (m ∷ ms) low is =
      let parts = and_parts (nat_lt n m.slot) (ascends_from m.slot (map (λ k. k.slot) ms)) is in
      let above : n < m.slot = ltb-true n m.slot parts.0 in
      or_from _ _ (ap (λ b. b && not (overlaps m.range range)) (ne_eqb m.slot p (λ same. omega (arith, above, low, same)))) (past_from m.slot ms (omega (arith, above, low)) parts.1)

  past_first : (m : Named) (ms : List Named) → p < m.slot → ascends (map (λ k. k.slot) (m ∷ ms)) ≡ true → passes (m ∷ ms) p range ≡ false
  past_first m ms low is =
      or_from _ _ (ap (λ b. b && not (overlaps m.range range)) (ne_eqb m.slot p (λ same. omega (arith, low, same)))) (past_from m.slot ms (omega (arith, low)) is)

  -- the first slot of the list, if it has one, is past this one
  abbrev IsPast : Option Named → Type 0
  IsPast None = Unit {0}
  IsPast (Some m) = p < m.slot

  pub past_option : (first : Option Named) (look : List Named) → slice_get look 0 ≡ first → ascends (map (λ k. k.slot) look) ≡ true → IsPast first → passes look p range ≡ false
  past_option first [] at is past = refl
  past_option None (m ∷ ms) at is past = absurd (false≢true (sym (ap is_some at)))
  past_option (Some n) (m ∷ ms) at is past = let same : m ≡ n = cc in past_first m ms (subst (λ k. p < k.slot) (sym same) past) is

-- the list of an entry of the log ascends
pub entry_ascends : (me : Running) → IsBounded me → (slot : ℕ) (e : Entry) → FinMap.get me.log.entries slot ≡ Some e → ascends (map (λ n. n.slot) e.look) ≡ true
unfolding server_of setup_of
entry_ascends me bounded slot e held = (bounded.fits.durable.vote.log slot e held).fits.ascending
