-- The writes of a sector can be listed in the order of their slots.
use Rattle.std.proofs.Common.{◌≡◌, ℕ, zero, suc, ◌+◌, ◌<◌, ◌≤◌, ◌⊎◌, inl, inr, List, [], ◌∷◌, Option, Some, None, slice_get, arith, refl, sym, ap, subst, ◌∙◌}
use Rattle.std.proofs.lemmas.Bool.{cases_eq}
use Rattle.std.proofs.lemmas.Option.{same_Some, none-some}
use Rattle.pf_entry.specs.Ops.{Sector}
use Rattle.pf_entry.specs.declared.ops.Op.{Op}
use Rattle.pf_protocol.specs.Servers.{Setup}
use Rattle.pf_protocol.specs.Histories.{History, IsChosen}
use Rattle.pf_protocol.proofs.ForPorts.{one_chosen_op, decide_slot, last_slot}
use Rattle.pf_law_registers.specs.Orders.{Member, given, IsWriteMember, IsOrder}

pub some_or_none : {X : Type 0} → (o : Option X) → ((x : X) × (o ≡ Some x)) ⊎ (o ≡ None)
some_or_none None = inr refl
some_or_none (Some x) = inl (x, refl)

member : ℕ → Sector → Member
member slot bytes = record { slot = slot; bytes = bytes }

pub same_member : (a b : Member) → a.slot ≡ b.slot → a.bytes ≡ b.bytes → a ≡ b
unfolding member
same_member a b slots bytes = ap (λ slot. member slot a.bytes) slots ∙ ap (member b.slot) bytes

module _ (setup : Setup) (history : History) (x : ℕ) where
  pub chosen_at : (slot other term : ℕ) (op : Op) → slot ≡ other → IsChosen setup history slot term op → IsChosen setup history other term op
  chosen_at slot other term op same c = subst (λ s. IsChosen setup history s term op) same c

  -- a slot has one write
  pub same_write : (a b : Member) → a.slot ≡ b.slot → IsWriteMember setup history x a → IsWriteMember setup history x b → a ≡ b
  same_write a b slots v w =
      let op : v.op ≡ w.op = one_chosen_op setup history b.slot v.term w.term v.op w.op (chosen_at a.slot b.slot v.term v.op slots v.chosen) w.chosen in
      same_member a b slots (same_Some a.bytes b.bytes (sym v.gives ∙ ap (λ o. given o x) op ∙ w.gives))

  abbrev WritesAt : ℕ → Type 0
  WritesAt slot = (m : Member) × (m.slot ≡ slot) × IsWriteMember setup history x m

  abbrev NoneAt : ℕ → Type 0
  NoneAt slot = (m : Member) → m.slot ≡ slot → IsWriteMember setup history x m → ⊥

  of_op : (slot term : ℕ) (op : Op) → IsChosen setup history slot term op → WritesAt slot ⊎ NoneAt slot
  of_op slot term op c =
      elim (some_or_none (given op x)) [
        | inl some ↦ inl (record { slot = slot; bytes = some.0 }, refl, record { term = term; op = op; chosen = c; gives = some.1 })
        | inr none ↦ inr (λ m is w.
            let same : w.op ≡ op = one_chosen_op setup history slot w.term term w.op op (chosen_at m.slot slot w.term w.op is w.chosen) c in
            none-some m.bytes (sym none ∙ ap (λ o. given o x) (sym same) ∙ w.gives))
      ]

  at_slot : (slot : ℕ) → WritesAt slot ⊎ NoneAt slot
  at_slot slot =
      elim (decide_slot setup history slot) [
        | inl c ↦ of_op slot c.0 c.1.0 c.1.1
        | inr none ↦ inr (λ m is w. none (w.term, (w.op, chosen_at m.slot slot w.term w.op is w.chosen)))
      ]

  -- the writes of so many slots from this one on
  record IsPart (low n : ℕ) (ms : List Member) : Type 0 where
    ascends : (j k : ℕ) (a b : Member) → slice_get ms j ≡ Some a → slice_get ms k ≡ Some b → j < k → a.slot < b.slot
    each : (place : ℕ) (m : Member) → slice_get ms place ≡ Some m → IsWriteMember setup history x m × (low ≤ m.slot)
    all : (m : Member) → IsWriteMember setup history x m → low ≤ m.slot → m.slot < low + n → (place : ℕ) × (slice_get ms place ≡ Some m)

  module _ (low n : ℕ) (first : Member) (is : first.slot ≡ low) (w : IsWriteMember setup history x first) (ms : List Member) (p : IsPart (suc low) n ms) where
    more_ascends : (j k : ℕ) (a b : Member) → slice_get (first ∷ ms) j ≡ Some a → slice_get (first ∷ ms) k ≡ Some b → j < k → a.slot < b.slot
    more_ascends zero zero a b at there less = absurd (omega arith)
    more_ascends zero (suc k) a b at there less = let above = (p.each k b there).1 in omega (arith, ap (λ m. m.slot) (same_Some first a at), is)
    more_ascends (suc j) zero a b at there less = absurd (omega arith)
    more_ascends (suc j) (suc k) a b at there less = p.ascends j k a b at there (omega arith)

    more_each : (place : ℕ) (m : Member) → slice_get (first ∷ ms) place ≡ Some m → IsWriteMember setup history x m × (low ≤ m.slot)
    more_each zero m at = let same = same_Some first m at in (subst (IsWriteMember setup history x) same w, omega (arith, ap (λ m. m.slot) same, is))
    more_each (suc k) m at = let rest = p.each k m at in (rest.0, omega (arith, rest.1))

    more_all : (m : Member) → IsWriteMember setup history x m → low ≤ m.slot → m.slot < low + suc n → (place : ℕ) × (slice_get (first ∷ ms) place ≡ Some m)
    more_all m v reaches below =
        elim (cases_eq m.slot low) [
          | inl here ↦ (0, ap Some (same_write first m (is ∙ sym here) w v))
          | inr apart ↦ let rest = p.all m v (omega (arith, reaches, apart)) (omega (arith, below)) in (suc rest.0, rest.1)
        ]

  none_here : (low n : ℕ) → NoneAt low → (ms : List Member) → IsPart (suc low) n ms → IsPart low (suc n) ms
  none_here low n none ms p = record {
    ascends = p.ascends;
    each = λ place m at. let rest = p.each place m at in (rest.0, omega (arith, rest.1));
    all = λ m v reaches below. elim (cases_eq m.slot low) [
      | inl here ↦ absurd (none m here v)
      | inr apart ↦ p.all m v (omega (arith, reaches, apart)) (omega (arith, below))
    ];
  }

  part : (n low : ℕ) → (ms : List Member) × IsPart low n ms
  part zero low = (
    [],
    record {
      ascends = λ j k a b at there less. absurd (none-some a at);
      each = λ place m at. absurd (none-some m at);
      all = λ m v reaches below. absurd (omega (arith, reaches, below));
    },
  )
  part (suc n) low =
      let rest = part n (suc low) in
      elim (at_slot low) [
        | inl m ↦ (m.0 ∷ rest.0, record { ascends = more_ascends low n m.0 m.1 m.2 rest.0 rest.1; each = more_each low n m.0 m.1 m.2 rest.0 rest.1; all = more_all low n m.0 m.1 m.2 rest.0 rest.1 })
        | inr none ↦ (rest.0, none_here low n none rest.0 rest.1)
      ]

  pub order_there : (order : List Member) × IsOrder setup history x order
  order_there =
      let n = last_slot setup history in
      let p = part n.0 0 in (
        p.0,
        record {
          ascends = p.1.ascends;
          each = λ place m at. (p.1.each place m at).0;
          all = λ m w. p.1.all m w (omega arith) (omega (arith, n.1 m.slot w.term w.op w.chosen));
        },
      )
