-- Past more slots that are not applied than an entry names, nothing can be claimed.
use Rattle.std.proofs.Common.{◌≡◌, ◌≢◌, ℕ, zero, suc, ◌+◌, ◌<◌, ◌≤◌, inl, inr, Bool, true, false, cond, not, ◌&&◌, ◌||◌, ◌==◌, List, [], ◌∷◌, length, Option, Some, None, nat_le, arith, refl, sym, ap, ◌∙◌, add-one}
use Rattle.std.specs.FinMap
use Rattle.std.proofs.lemmas.Bool.{cases_Bool, cases_eq, false≢true, ne_eqb}
use Rattle.std.proofs.lemmas.Bool.Decides.{nat_tests}
use Rattle.pf_base.specs.Span.{Span}
use Rattle.pf_entry.specs.Sets
use Rattle.pf_entry.specs.Applying.{passes}
use Rattle.pf_entry.specs.Ops.{range_of}
use Rattle.pf_entry.specs.Records.{Durable}
use Rattle.pf_entry.specs.declared.entries.Entry.{Entry}
use Rattle.pf_entry.specs.declared.entries.Named.{Named}
use Rattle.pf_holes.proofs.FreeTests.{free_at}
use Rattle.pf_protocol.specs.Servers.{has_applied}
use Rattle.pf_protocol.specs.Saving.{is_claimable}
use Rattle.pf_server_memory.specs.declared.running.Running.{Running}
use Rattle.pf_server_memory.specs.Standing.{server_of, setup_of, IsBounded, IsCached}
use Rattle.pf_server_apply.specs.Claims.{can_claim}
use Rattle.pf_server_apply.proofs.LeastClaims.{applied_test, le_of, lt_of}

-- how many of the slots from 1 to n are not done
pub left_upto : (ℕ → Bool) → ℕ → ℕ
left_upto done zero = 0
left_upto done (suc n) = cond (done (suc n)) (left_upto done n) (suc (left_upto done n))

left_suc : (done : ℕ → Bool) (n : ℕ) (b : Bool) → done (suc n) ≡ b → left_upto done (suc n) ≡ cond b (left_upto done n) (suc (left_upto done n))
unfolding left_upto
left_suc done n b is = ap (λ c. cond c (left_upto done n) (suc (left_upto done n))) is

left_grows : (done : ℕ → Bool) (n : ℕ) (b : Bool) → done (suc n) ≡ b → left_upto done n ≤ left_upto done (suc n)
left_grows done n true is = omega (arith, left_suc done n true is)
left_grows done n false is = omega (arith, left_suc done n false is)

pub left_kept : (done : ℕ → Bool) (n : ℕ) → left_upto done n ≤ left_upto done (n + 1)
left_kept done n = rw add-one (left_grows done n (done (suc n)) refl)

pub left_one : (done : ℕ → Bool) (n : ℕ) → done (n + 1) ≡ false → left_upto done (n + 1) ≡ left_upto done n + 1
left_one done n is = ap (left_upto done) (add-one n) ∙ left_suc done n false (ap done (sym (add-one n)) ∙ is) ∙ sym (add-one (left_upto done n))

pub left_more : (done : ℕ → Bool) (a b : ℕ) → a ≤ b → left_upto done a ≤ left_upto done b
left_more done a zero low = let same : a ≡ 0 = omega (arith, low) in rw same (omega arith)
left_more done a (suc b) low =
    elim (cases_eq a (suc b)) [
      | inl same ↦ rw same (omega arith)
      | inr apart ↦ let before : left_upto done a ≤ left_upto done b = left_more done a b (omega (arith, low, apart)) in omega (arith, before, left_grows done b (done (suc b)) refl)
    ]

-- one slot more that is done
abbrev with_one : (ℕ → Bool) → ℕ → ℕ → Bool
with_one done x p = (p == x) || done p

one_apart : (done : ℕ → Bool) (x p : ℕ) → p ≢ x → with_one done x p ≡ done p
one_apart done x p apart = ap (λ b. b || done p) (ne_eqb p x apart)

left_below : (done : ℕ → Bool) (x n : ℕ) → n < x → left_upto (with_one done x) n ≡ left_upto done n
unfolding left_upto
left_below done x zero low = refl
left_below done x (suc n) low =
    left_suc (with_one done x) n (done (suc n)) (one_apart done x (suc n) (omega (arith, low)))
    ∙ ap (λ k. cond (done (suc n)) k (suc k)) (left_below done x n (omega (arith, low)))

left_at : (done : ℕ → Bool) (x n : ℕ) (b : Bool) → done (suc n) ≡ b → suc n ≢ x → left_upto done n ≤ left_upto (with_one done x) n + 1 → left_upto done (suc n) ≤ left_upto (with_one done x) (suc n) + 1
left_at done x n true is apart before = omega (arith, before, left_suc done n true is, left_suc (with_one done x) n true (one_apart done x (suc n) apart ∙ is))
left_at done x n false is apart before = omega (arith, before, left_suc done n false is, left_suc (with_one done x) n false (one_apart done x (suc n) apart ∙ is))

left_most : (done : ℕ → Bool) (n : ℕ) (b : Bool) → done (suc n) ≡ b → left_upto done (suc n) ≤ left_upto done n + 1
left_most done n true is = omega (arith, left_suc done n true is)
left_most done n false is = omega (arith, left_suc done n false is)

left_zero : (done : ℕ → Bool) → left_upto done 0 ≡ 0
unfolding left_upto
left_zero done = refl

left_fewer : (done : ℕ → Bool) (x n : ℕ) → left_upto done n ≤ left_upto (with_one done x) n + 1
left_fewer done x zero = omega (arith, left_zero done)
left_fewer done x (suc n) =
    elim (cases_eq (suc n) x) [
      | inl same ↦
          omega (arith, left_most done n (done (suc n)) refl, left_below done x n (omega (arith, same)), left_grows (with_one done x) n (with_one done x (suc n)) refl)
      | inr apart ↦ left_at done x n (done (suc n)) refl apart (left_fewer done x n)
    ]

all_done : (done : ℕ → Bool) (n : ℕ) → ((p : ℕ) → 0 < p → p ≤ n → done p ≡ true) → left_upto done n ≡ 0
all_done done zero all = left_zero done
all_done done (suc n) all = left_suc done n true (all (suc n) (omega arith) (omega arith)) ∙ all_done done n (λ p low high. all p low (omega (arith, high)))

done_if : (b : Bool) → (b ≡ false → false ≡ true) → b ≡ true
done_if true or = refl
done_if false or = or refl

-- a list names no more slots than it is long
named_few : (look : List Named) (range : Span) (done : ℕ → Bool) (n : ℕ) → ((p : ℕ) → 0 < p → p ≤ n → done p ≡ false → passes look p range ≡ true) → left_upto done n ≤ length look
named_few [] range done n each = omega (arith, all_done done n (λ p low high. done_if (done p) (each p low high)))
named_few (m ∷ ms) range done n each =
    let rest : left_upto (with_one done m.slot) n ≤ length ms = named_few ms range (with_one done m.slot) n (λ p low high absent. other p (each p low high) absent) in
    omega (arith, rest, left_fewer done m.slot n)
  where
    other : (p : ℕ) → (done p ≡ false → passes (m ∷ ms) p range ≡ true) → with_one done m.slot p ≡ false → passes ms p range ≡ true
    other p from absent = grind (arith, nat_tests)

-- along the slots
module _ (can : ℕ → Bool) where
  pub none_upto : (base below : ℕ) → ((q : ℕ) → base < q → q ≤ below → can q ≡ false) → can (below + 1) ≡ false → (q : ℕ) → base < q → q ≤ below + 1 → can q ≡ false
  none_upto base below none here q low high =
      elim (cases_eq q (below + 1)) [
        | inl same ↦ ap can same ∙ here
        | inr apart ↦ none q low (omega (arith, high, apart))
      ]

  pub none_above : (base after : ℕ) → ((q : ℕ) → base < q → q ≤ after → can q ≡ false) → ((q : ℕ) → after < q → can q ≡ false) → (q : ℕ) → base < q → can q ≡ false
  none_above base after none past q low =
      elim (cases_Bool (nat_le q after)) [
        | inl is ↦ none q low (le_of q after is)
        | inr is ↦ past q (lt_of q after is)
      ]

  pub absent_past : (last q : ℕ) → ((k : ℕ) → can k ≡ true → k ≤ last) → last < q → can q ≡ false
  absent_past last q held past =
      elim (cases_Bool (can q)) [
        | inl is ↦ absurd (omega (arith, held q is, past))
        | inr is ↦ is
      ]

module _ (d : Durable) (me : Running) (cached : IsCached d me) (bounded : IsBounded me) (k q : ℕ) (many : me.names < left_upto (Sets.contains me.applied.slots) k) (past : k < q) where
  last_of : (a b c f : Bool) → (a && not b && not c && f) ≡ true → f ≡ true
  last_of true false false f is = is
  last_of true false true f is = absurd (false≢true is)
  last_of true true c f is = absurd (false≢true is)
  last_of false b c f is = absurd (false≢true is)

  passed_if : (b x : Bool) → b ≡ false → (b || x) ≡ true → x ≡ true
  passed_if true x absent is = absurd (false≢true (sym absent))
  passed_if false x absent is = is

  not_free : (e : Entry) → e.slot ≡ q → length e.look ≤ me.names → (b : Bool) → is_claimable (server_of d me) (Some e) q ≡ b → b ≡ false
  not_free e same few false is = refl
  not_free e same few true is =
      let free = last_of _ _ _ _ is in
      let count : left_upto (Sets.contains me.applied.slots) k ≤ length e.look =
      named_few e.look (range_of e.op) (Sets.contains me.applied.slots) k (λ p low high absent.
      passed_if _ _ (applied_test d me p cached low ∙ absent) (free_at (has_applied (server_of d me)) e free p low (omega (arith, high, past, same)))) in
      absurd (omega (arith, many, count, few))

  by_entry : (o : Option Entry) → FinMap.get d.log q ≡ o → is_claimable (server_of d me) o q ≡ false
  unfolding server_of setup_of
  by_entry None is = refl
  by_entry (Some e) is =
      let stands = bounded.fits.durable.vote.log q e (ap (λ m. FinMap.get m q) cached.log ∙ is) in
      not_free e stands.in_slot stands.fits.few (is_claimable (server_of d me) (Some e) q) refl

  pub none_past : can_claim d me q ≡ false
  unfolding can_claim server_of
  none_past = by_entry (FinMap.get d.log q) refl
