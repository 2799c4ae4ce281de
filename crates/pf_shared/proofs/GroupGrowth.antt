-- The group behind the turn has grown since its first turn.
use Rattle.std.proofs.Common.{◌⊎◌, inl, inr, ℕ, ◌+◌, ◌-◌, ◌^◌, ◌≤◌, ◌<◌, List, arith, ap}
use Rattle.std.proofs.Math.Logic.{∥∥₁_elim, ∥∥₁_map}
use Rattle.std.proofs.Props.{props}
use Rattle.std.proofs.lemmas.Bool.Decides.{leb_tells}
use Rattle.pf_disk.specs.declared.disk.Disk.{Ghosts}
use Rattle.pf_group_rounds.specs.Growing.{ArePaid, HasGrown, IsLastCount, IsPaid, halts_in}
use Rattle.pf_shared.specs.declared.behind.Behind.{Behind}
use Rattle.pf_shared.specs.Since.{happened_since}

-- where neither count stands at its last value, there were faults enough
not_short : (n m : ℕ) (x y : ℕ × ℕ) → y.0 + y.1 + n < x.0 + x.1 + m → y.0 < 2 ^ 64 - 1 → y.1 < 2 ^ 64 - 1 → IsPaid n m x y → ⊥
not_short n m x y short zero one paid = elim paid.enough [
  | inl enough ↦ omega (arith, short, enough)
  | inr last ↦ elim last [ inl top ↦ omega (arith, zero, top) | inr top ↦ omega (arith, one, top) ]
]

-- the numbers tell which case holds
enough_had : (n m : ℕ) (x y : ℕ × ℕ) → ∥ IsPaid n m x y ∥₁ → (x.0 + x.1 + m ≤ y.0 + y.1 + n) ⊎ (IsLastCount y.0 ⊎ IsLastCount y.1)
enough_had n m x y paid = elim (leb_tells (x.0 + x.1 + m) (y.0 + y.1 + n)) [
  | inl enough ↦ inl enough.1
  | inr short ↦ elim (leb_tells (2 ^ 64 - 1) y.0) [
    | inl zero ↦ inr (inl zero.1)
    | inr zero ↦ elim (leb_tells (2 ^ 64 - 1) y.1) [
      | inl one ↦ inr (inr one.1)
      | inr one ↦ absurd (∥∥₁_elim paid (hlevel props) (not_short n m x y short.1 zero.1 one.1))
    ]
  ]
]

paid_had : (n m : ℕ) (x y : ℕ × ℕ) → ∥ IsPaid n m x y ∥₁ → IsPaid n m x y
paid_had n m x y paid = record {
  zero = ∥∥₁_elim paid (hlevel props) (λ p. p.zero);
  one = ∥∥₁_elim paid (hlevel props) (λ p. p.one);
  enough = enough_had n m x y paid;
}

are_paid_had : (n m : ℕ → ℕ) (was is : List (ℕ × ℕ)) → ∥ ArePaid n m was is ∥₁ → ArePaid n m was is
are_paid_had n m was is paid = record {
  servers = ∥∥₁_elim paid (hlevel props) (λ p. p.servers);
  each = λ i x y before now. paid_had (n i) (m i) x y (∥∥₁_map paid (λ p. p.each i x y before now));
}

module _ {D : Type 0} {disk : Ghosts D} (b : Behind D disk) where
  pub has_grown : HasGrown b.start b.group
  has_grown = record {
    number = ap (λ r. r.number) b.same_root;
    setup = ap (λ r. r.setup) b.same_root;
    told = b.same_told;
    later = record { rest = happened_since b.start b.group; whole = b.begun };
    paid = λ told. are_paid_had (halts_in b.start) (halts_in b.group) b.start.faults b.group.faults (b.paid told);
    by = b.by;
  }
