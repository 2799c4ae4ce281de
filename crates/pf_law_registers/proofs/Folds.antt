-- What ops leave in a sector.
use Rattle.std.proofs.Common.{◌≡◌, ℕ, zero, suc, ◌+◌, ◌-◌, ◌<◌, ◌≤◌, inl, inr, Bool, true, List, [], ◌∷◌, Option, Some, None, slice_get, slice_index_or, slice_range, drop, arith, refl, sym, ap, ◌∙◌}
use Rattle.std.proofs.lemmas.Bool.{cases_Bool, cases_lt, cond-true, cond-false, or_right, and_from, le-leb, lt-ltb, false≢true}
use Rattle.std.proofs.lemmas.Option.{same_Some, none-some}
use Rattle.pf_base.specs.Span.{Span, is_in, is_whole, overlaps}
use Rattle.pf_base.proofs.Spans.{shares}
use Rattle.pf_entry.specs.declared.ops.Op.{Op}
use Rattle.pf_entry.specs.declared.ops.Op.TheVariants.{Write, Noop, Mark}
use Rattle.pf_entry.specs.Ops.{Sector, range_of, writes, written}
use Rattle.pf_entry.specs.Applying.{after_op, fold_to}
use Rattle.pf_protocol.specs.LastWriters.{bytes_for}
use Rattle.pf_law_registers.specs.Orders.{given}
use Rattle.pf_law_registers.proofs.Lists.{taken_get, dropped_there}

found_there : (xs : List Sector) (k : ℕ) (x old : Sector) → slice_get xs k ≡ Some x → slice_index_or xs k old ≡ x
found_there [] k x old is = absurd (none-some x is)
found_there (y ∷ ys) zero x old is = same_Some y x is
found_there (y ∷ ys) (suc k) x old is = found_there ys k x old is

not_there : (xs : List Sector) (k : ℕ) (old : Sector) → slice_get xs k ≡ None → slice_index_or xs k old ≡ old
not_there [] k old is = refl
not_there (y ∷ ys) zero old is = absurd (none-some y (sym is))
not_there (y ∷ ys) (suc k) old is = not_there ys k old is

wrote : (op : Op) (x : ℕ) (its old : Sector) → bytes_for op x ≡ Some its → written op x old ≡ its
unfolding bytes_for written
wrote (Write range payload) x its old is = found_there payload (x - range.first) its old is
wrote Noop x its old is = absurd (none-some its is)
wrote Mark x its old is = absurd (none-some its is)

wrote_nothing : (op : Op) (x : ℕ) (old : Sector) → bytes_for op x ≡ None → written op x old ≡ old
unfolding bytes_for written
wrote_nothing (Write range payload) x old is = not_there payload (x - range.first) old is
wrote_nothing Noop x old is = refl
wrote_nothing Mark x old is = refl

given_parts : (op : Op) (x : ℕ) (bytes : Sector) → given op x ≡ Some bytes → (writes op x ≡ true) × (bytes_for op x ≡ Some bytes)
unfolding given
given_parts op x bytes is =
    elim (cases_Bool (writes op x)) [
      | inl does ↦ (does, sym (cond-true (writes op x) (bytes_for op x) None does) ∙ is)
      | inr doesnt ↦ absurd (none-some bytes (sym (cond-false (writes op x) (bytes_for op x) None doesnt) ∙ is))
    ]

after_given : (op : Op) (x : ℕ) (bytes old : Sector) → given op x ≡ Some bytes → after_op (Some op) x old ≡ bytes
after_given op x bytes old is =
    let p = given_parts op x bytes is in
    cond-true (writes op x) _ _ p.0 ∙ wrote op x bytes old p.1

after_idle : (op : Op) (x : ℕ) (old : Sector) → given op x ≡ None → after_op (Some op) x old ≡ old
unfolding given
after_idle op x old is =
    elim (cases_Bool (writes op x)) [
      | inl does ↦ cond-true (writes op x) _ _ does ∙ wrote_nothing op x old (sym (cond-true (writes op x) (bytes_for op x) None does) ∙ is)
      | inr doesnt ↦ cond-false (writes op x) _ _ doesnt
    ]

pub noop_gives : (x : ℕ) → given Noop x ≡ None
unfolding given bytes_for writes
noop_gives x = refl

writes_in : (op : Op) (x : ℕ) → writes op x ≡ true → is_in (range_of op) x ≡ true
unfolding writes range_of
writes_in (Write range payload) x is = is
writes_in Noop x is = absurd (false≢true is)
writes_in Mark x is = absurd (false≢true is)

pub given_in : (op : Op) (x : ℕ) (bytes : Sector) → given op x ≡ Some bytes → is_in (range_of op) x ≡ true
given_in op x bytes is = writes_in op x (given_parts op x bytes is).0

-- the sector lies in both
pub meet : (a b : Span) (x : ℕ) → is_in a x ≡ true → is_in b x ≡ true → overlaps a b ≡ true
meet a b x in_a in_b = (shares a b).1 (x, in_a, in_b)

-- an op that gives the sector nothing
abbrev pub Idle : (ℕ → Option Op) → (x slot : ℕ) → Type 0
Idle ops x slot = (op : Op) → ops slot ≡ Some op → given op x ≡ None

after_none : (o : Option Op) (x : ℕ) (old : Sector) → ((op : Op) → o ≡ Some op → given op x ≡ None) → after_op o x old ≡ old
after_none None x old idle = refl
after_none (Some op) x old idle = after_idle op x old (idle op refl)

module _ (ops : ℕ → Option Op) (done : ℕ → Bool) (x : ℕ) (zeros : Sector) where
  at_last : (m n : ℕ) → n ≡ m → fold_to ops done x zeros n ≡ fold_to ops done x zeros m
  at_last m n same = ap (fold_to ops done x zeros) same

  one_more : (n : ℕ) → (done (suc n) ≡ true → Idle ops x (suc n)) → fold_to ops done x zeros (suc n) ≡ fold_to ops done x zeros n
  one_more n idle =
      elim (cases_Bool (done (suc n))) [
        | inl did ↦ cond-true (done (suc n)) _ _ did ∙ after_none (ops (suc n)) x (fold_to ops done x zeros n) (idle did)
        | inr not_did ↦ cond-false (done (suc n)) _ _ not_did
      ]

  -- slots that give nothing change nothing
  pub fold_idle : (m : ℕ) → ((a : ℕ) → m < a → done a ≡ true → Idle ops x a) → (n : ℕ) → m ≤ n → fold_to ops done x zeros n ≡ fold_to ops done x zeros m
  fold_idle m idle zero le = at_last m zero (omega (arith, le))
  fold_idle m idle (suc n) le =
      elim (cases_lt m (suc n)) [
        | inl low ↦ one_more n (idle (suc n) low) ∙ fold_idle m idle n (omega (arith, low))
        | inr high ↦ at_last m (suc n) (omega (arith, high, le))
      ]

  given_last : (slot : ℕ) (op : Op) (bytes : Sector) → 0 < slot → done slot ≡ true → ops slot ≡ Some op → given op x ≡ Some bytes → fold_to ops done x zeros slot ≡ bytes
  given_last zero op bytes above did is gives = absurd (omega (arith, above))
  given_last (suc k) op bytes above did is gives =
      cond-true (done (suc k)) _ _ did ∙ ap (λ o. after_op o x (fold_to ops done x zeros k)) is ∙ after_given op x bytes (fold_to ops done x zeros k) gives

  -- the last slot that gives something settles it
  pub fold_last : (slot n : ℕ) (op : Op) (bytes : Sector) → 0 < slot → slot ≤ n → done slot ≡ true → ops slot ≡ Some op → given op x ≡ Some bytes → ((a : ℕ) → slot < a → done a ≡ true → Idle ops x a) → fold_to ops done x zeros n ≡ bytes
  fold_last slot n op bytes above low did is gives idle = fold_idle slot idle n low ∙ given_last slot op bytes above did is gives

-- the sectors of a range
pub range_get : {X : Type 0} → (xs : List X) (i n k : ℕ) (x : X) → slice_get (slice_range xs i (i + n)) k ≡ Some x → (k < n) × (slice_get xs (i + k) ≡ Some x)
range_get xs i n k x is =
    let e : (i + n) - i ≡ n = omega arith in
    let p = taken_get ((i + n) - i) (drop i xs) k x is in
    (omega (arith, p.0, e), sym (dropped_there i xs k) ∙ p.1)

pub in_range : (span : Span) (k : ℕ) → k < span.count → is_in span (span.first + k) ≡ true
in_range span k lt = or_right (is_whole span) _ (and_from _ _ (le-leb span.first (span.first + k) (omega arith)) (lt-ltb (span.first + k) (span.first + span.count) (omega arith)))
