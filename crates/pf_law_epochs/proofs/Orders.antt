-- The parts of the order of a sector: of each epoch the writes between the mover's into its group and the first one that was not moved on.
use Rattle.std.proofs.Common.{◌≡◌, ℕ, zero, suc, ◌+◌, ◌-◌, ◌<◌, ◌≤◌, inl, inr, List, length, take, drop, Some, slice_get, true, arith, refl, sym, ap, subst, ◌∙◌}
use Rattle.std.proofs.lemmas.Bool.{cases_lt}
use Rattle.std.proofs.lemmas.List.{map-append, length-append}
use Rattle.std.proofs.lemmas.Option.{same_Some, slice_get_within}
use Rattle.pf_entry.specs.Ops.{Sector, zero_sector}
use Rattle.pf_protocol.specs.Groups.{Answered}
use Rattle.pf_protocol.specs.Fresh.{shows_slot}
use Rattle.pf_protocol.specs.Ports.{ComesFrom}
use Rattle.pf_law_registers.specs.Registers.{left_by_writes}
use Rattle.pf_law_registers.specs.Orders.{Member, values_of}
use Rattle.pf_law_registers.specs.Firsts.{ComeFirst}
use Rattle.pf_law_registers.proofs.Lists.{length_mapped, left_in_first, left_in_second}
use Rattle.pf_law_registers.proofs.Firsts.{firsts_come}
use Rattle.pf_law_registers.proofs.MovedSectors.{shows_made}
use Rattle.pf_law_epochs.specs.Orders.{IsMovers, IsRoutedWrite, IsPart, order_of_sector, members_before}
use Rattle.pf_law_epochs.proofs.Lists.{left_in_part, part_length, inside_list, inside_part, map_taken, map_dropped}
use Rattle.pf_law_epochs.proofs.EpochCarries.{Place, x, moves, setup, history, mover, last, reg, was_moved, mover_rule, is_first, last_reader, last_later, Later, start, is_move, made_bytes}

module _ (c : Place) where
  abbrev order : ℕ → List Member
  order e = (reg c e).order

  abbrev values : ℕ → List Sector
  values e = values_of (reg c e).order

  -- so many first ones are the mover's
  record Made (e : ℕ) : Type 0 where
    count : ℕ
    come : e ≤ moves c → ComeFirst (setup c e) (history c e) (reg c e).order (mover c e) count

  made_at : (e : ℕ) → Made e
  made_at e = elim (cases_lt (moves c) e) [
    | inl past ↦ record { count = 0; come = λ le. absurd (omega (arith, past, le)) }
    | inr within ↦
        let f = firsts_come (setup c e) (history c e) (x c) (reg c e).order (mover c e) (reg c e).is_order (mover_rule c e within) (is_first c e within) in
        record { count = f.0; come = λ le. f.1 }
  ]

  pub made : ℕ → ℕ
  made e = (made_at e).count

  pub come : (e : ℕ) → e ≤ moves c → ComeFirst (setup c e) (history c e) (reg c e).order (mover c e) (made e)
  unfolding made
  come e le = (made_at e).come le

  -- so many first ones were moved on: all that the mover's last read shows
  record Kept (e : ℕ) : Type 0 where
    count : ℕ
    ended : e < moves c → count ≡ (reg c e).shown (last c e)
    present : moves c ≤ e → count ≡ length (reg c e).order

  kept_at : (e : ℕ) → Kept e
  kept_at e = elim (cases_lt e (moves c)) [
    | inl ended ↦ record { count = (reg c e).shown (last c e); ended = λ lt. refl; present = λ le. absurd (omega (arith, ended, le)) }
    | inr present ↦ record { count = length (reg c e).order; ended = λ lt. absurd (omega (arith, present, lt)); present = λ le. refl }
  ]

  pub kept : ℕ → ℕ
  kept e = (kept_at e).count

  pub kept_ended : (e : ℕ) → e < moves c → kept e ≡ (reg c e).shown (last c e)
  unfolding kept
  kept_ended e lt = (kept_at e).ended lt

  pub kept_present : (e : ℕ) → moves c ≤ e → kept e ≡ length (reg c e).order
  unfolding kept
  kept_present e le = (kept_at e).present le

  pub shown_within : (e : ℕ) (answer : Answered) → (reg c e).shown answer ≤ length (reg c e).order
  shown_within e answer = omega (arith, (reg c e).is_register.within answer, length_mapped (λ (m : Member). m.bytes) (reg c e).order)

  pub kept_within : (e : ℕ) → kept e ≤ length (reg c e).order
  kept_within e = elim (cases_lt e (moves c)) [
    | inl ended ↦ omega (arith, kept_ended e ended, shown_within e (last c e))
    | inr present ↦ omega (arith, kept_present e present)
  ]

  -- a read after the move shows all that the mover wrote
  pub shows_carried : (e : ℕ) (answer : Answered) → e ≤ moves c → Later c e answer → made e ≤ (reg c e).shown answer
  shows_carried e answer le later =
      let s = start c e le in
      shows_made (setup c e) (history c e) (x c) (reg c e) (mover c e) s.0 (is_move c e s.0 le s.1) (made e) (come e le) (record { answer = answer; is_later = later }) (made e) refl

  pub made_kept : (e : ℕ) → e ≤ moves c → made e ≤ kept e
  made_kept e le = elim (cases_lt e (moves c)) [
    | inl ended ↦ omega (arith, kept_ended e ended, shows_carried e (last c e) le (last_later c e ended))
    | inr present ↦ omega (arith, kept_present e present, (come e le).within)
  ]

  pub part : ℕ → List Member
  part e = drop (made e) (take (kept e) (reg c e).order)

  pub length_of_part : (e : ℕ) → length (part e) ≡ kept e - made e
  unfolding part
  length_of_part e = part_length (reg c e).order (made e) (kept e) (kept_within e)

  pub record Inside (e k : ℕ) (m : Member) : Type 0 where
    pub below : made e + k < kept e
    pub at : slice_get (reg c e).order (made e + k) ≡ Some m

  pub in_order : (e k : ℕ) (m : Member) → slice_get (part e) k ≡ Some m → Inside e k m
  unfolding part
  in_order e k m at = let i = inside_list (reg c e).order (made e) (kept e) k m at in record { below = i.below; at = i.at }

  pub in_part : (e place : ℕ) (m : Member) → made e ≤ place → place < kept e → slice_get (reg c e).order place ≡ Some m → slice_get (part e) (place - made e) ≡ Some m
  unfolding part
  in_part e place m low lt at = inside_part (reg c e).order (made e) (kept e) place m low lt at

  -- what the mover's last read shows
  last_shows : (e place : ℕ) (m : Member) → (lt : e < moves c) → slice_get (reg c e).order place ≡ Some m → ((place < (reg c e).shown (last c e)) → (shows_slot (last c e) m.slot ≡ true)) × ((shows_slot (last c e) m.slot ≡ true) → (place < (reg c e).shown (last c e)))
  last_shows e place m lt at = let d = (reg c e).had_applied (was_moved c e lt).k (last c e) place m (was_moved c e lt).answered at in (d.0, d.1)

  pub is_part : (e : ℕ) → e ≤ moves c → IsPart c.groups c.chunk (x c) e (last c e) (part e)
  is_part e le = record { ascends = ascends; each = each; all = all }
    where
      ascends : (j k : ℕ) (a b : Member) → slice_get (part e) j ≡ Some a → slice_get (part e) k ≡ Some b → j < k → a.slot < b.slot
      ascends j k a b at there lt =
          (reg c e).is_order.ascends (made e + j) (made e + k) a b (in_order e j a at).at (in_order e k b there).at (omega (arith, lt))

      each : (place : ℕ) (m : Member) → slice_get (part e) place ≡ Some m → IsRoutedWrite c.groups c.chunk (x c) e (last c e) m
      each place m at =
          let i = in_order e place m at in
          record {
            is_write = (reg c e).is_order.each (made e + place) m i.at;
            not_movers = λ (is : IsMovers c.groups c.chunk e m.slot). (come e le).none_later (made e + place) is.k is.submission (omega arith) is.there (record { member = m; there = i.at; comes = is.comes });
            was_moved = λ lt. (last_shows e (made e + place) m lt i.at).0 (omega (arith, i.below, kept_ended e lt));
          }

      not_made : (m : Member) (place : ℕ) → slice_get (reg c e).order place ≡ Some m → (IsMovers c.groups c.chunk e m.slot → ⊥) → made e ≤ place
      not_made m place at none = elim (cases_lt place (made e)) [
        | inr reaches ↦ reaches
        | inl below ↦
            let f = (come e le).first place below in
            let same : f.3.member.slot ≡ m.slot = ap (λ (m : Member). m.slot) (same_Some f.3.member m (sym f.3.there ∙ at)) in
            absurd (none (record { k = f.0; submission = f.1; there = f.2; comes = subst (λ slot. ComesFrom (setup c e) (history c e) slot f.1) same f.3.comes }))
      ]

      was_kept : (m : Member) (place : ℕ) → slice_get (reg c e).order place ≡ Some m → (e < moves c → shows_slot (last c e) m.slot ≡ true) → place < kept e
      was_kept m place at was = elim (cases_lt e (moves c)) [
        | inl ended ↦ omega (arith, (last_shows e place m ended at).1 (was ended), kept_ended e ended)
        | inr present ↦ omega (arith, slice_get_within (reg c e).order place m at, kept_present e present)
      ]

      all : (m : Member) → IsRoutedWrite c.groups c.chunk (x c) e (last c e) m → (place : ℕ) × (slice_get (part e) place ≡ Some m)
      all m w =
          let found = (reg c e).is_order.all m w.is_write in
          (found.0 - made e, in_part e found.0 m (not_made m found.0 found.1 w.not_movers) (was_kept m found.0 found.1 w.was_moved) found.1)

  -- so many members stand up to an epoch
  pub length_of_order : (e : ℕ) → length (order_of_sector part e) ≡ members_before part e + length (part e)
  length_of_order zero = omega arith
  length_of_order (suc e) = omega (arith, length-append (order_of_sector part e) (part (suc e)), length_of_order e)

  pub first_rises : (e n : ℕ) → e ≤ n → members_before part e ≤ members_before part n
  first_rises e zero le = let same : e ≡ 0 = omega (arith, le) in omega (arith, ap (members_before part) same)
  first_rises e (suc n) le = elim (cases_lt e (suc n)) [
    | inl before ↦ omega (arith, first_rises e n (omega (arith, before)))
    | inr not_before ↦ let same : e ≡ suc n = omega (arith, le, not_before) in omega (arith, ap (members_before part) same)
  ]

  pub ends_rise : (e n : ℕ) → e ≤ n → members_before part e + length (part e) ≤ members_before part n + length (part n)
  ends_rise e n le = elim (cases_lt e n) [
    | inl before ↦ omega (arith, first_rises (suc e) n before)
    | inr not_before ↦ let same : e ≡ n = omega (arith, le, not_before) in omega (arith, ap (λ e. members_before part e + length (part e)) same)
  ]

  -- the epoch of a member
  pub record Stands (n place : ℕ) : Type 0 where
    pub epoch : ℕ
    pub low : epoch ≤ n
    pub nth : ℕ
    pub below : nth < length (part epoch)
    pub is_place : place ≡ members_before part epoch + nth

  pub stands : (n place : ℕ) → place < members_before part n + length (part n) → Stands n place
  stands zero place lt = record { epoch = 0; low = omega arith; nth = place; below = omega (arith, lt); is_place = omega arith }
  stands (suc n) place lt = elim (cases_lt place (members_before part n + length (part n))) [
    | inl before ↦ let s = stands n place before in record { epoch = s.epoch; low = omega (arith, s.low); nth = s.nth; below = s.below; is_place = s.is_place }
    | inr not_before ↦ record { epoch = suc n; low = omega arith; nth = place - members_before part (suc n); below = omega (arith, lt, not_before); is_place = omega (arith, not_before) }
  ]

  abbrev pub bytes_in : ℕ → List Sector
  bytes_in n = values_of (order_of_sector part n)

  values_of_part : (e : ℕ) → values_of (part e) ≡ drop (made e) (take (kept e) (values e))
  unfolding part
  values_of_part e = map_dropped (λ (m : Member). m.bytes) (made e) (take (kept e) (reg c e).order) ∙ ap (drop (made e)) (map_taken (λ (m : Member). m.bytes) (kept e) (reg c e).order)

  pub bytes_length : (e : ℕ) → length (bytes_in e) ≡ members_before part e + length (part e)
  bytes_length e = length_mapped (λ (m : Member). m.bytes) (order_of_sector part e) ∙ length_of_order e

  kept_length : (e : ℕ) → kept e ≤ length (values e)
  kept_length e = omega (arith, kept_within e, length_mapped (λ (m : Member). m.bytes) (reg c e).order)

  -- what a part leaves over what was carried into its group
  from_part : (e n : ℕ) → made e ≤ n → n ≤ kept e → left_by_writes (left_by_writes zero_sector (values e) (made e)) (values_of (part e)) (n - made e) ≡ left_by_writes zero_sector (values e) n
  from_part e n low high =
      ap (λ vs. left_by_writes (left_by_writes zero_sector (values e) (made e)) vs (n - made e)) (values_of_part e)
      ∙ left_in_part zero_sector (values e) (made e) (kept e) n low high (kept_length e)

  -- so many first ones of the order leave what so many of the epoch's group leave
  pub left_up_to : (e n : ℕ) → e ≤ moves c → made e ≤ n → n ≤ kept e → left_by_writes zero_sector (bytes_in e) (members_before part e + (n - made e)) ≡ left_by_writes zero_sector (values e) n
  left_up_to zero n le low high =
      let none = made_bytes c zero zero_sector le refl (made zero) (come zero le) (made zero) refl in
      let e : 0 + (n - made zero) ≡ n - made zero = omega arith in
      ap (left_by_writes zero_sector (bytes_in zero)) e
      ∙ ap (λ s. left_by_writes s (values_of (part zero)) (n - made zero)) (sym none)
      ∙ from_part zero n low high
  left_up_to (suc e) n le low high =
      let lt : e < moves c = omega (arith, le) in
      let r = last_reader c e lt in
      let before = left_up_to e (kept e) (omega (arith, le)) (made_kept e (omega (arith, le))) (omega arith) in
      let whole : members_before part e + (kept e - made e) ≡ length (bytes_in e) = omega (arith, bytes_length e, length_of_part e) in
      let carried : left_by_writes zero_sector (bytes_in e) (length (bytes_in e)) ≡ left_by_writes zero_sector (values (suc e)) (made (suc e)) =
      ap (left_by_writes zero_sector (bytes_in e)) (sym whole) ∙ before
      ∙ ap (left_by_writes zero_sector (values e)) (kept_ended e lt)
      ∙ sym ((reg c e).is_register.gives (last c e) r.bytes r.gives)
      ∙ sym (made_bytes c (suc e) r.bytes le r.gives (made (suc e)) (come (suc e) le) (made (suc e)) refl) in
      let place : members_before part (suc e) + (n - made (suc e)) ≡ length (bytes_in e) + (n - made (suc e)) = omega (arith, bytes_length e) in
      ap (left_by_writes zero_sector (bytes_in (suc e))) place
      ∙ ap (λ vs. left_by_writes zero_sector vs (length (bytes_in e) + (n - made (suc e)))) (map-append (λ (m : Member). m.bytes) (order_of_sector part e) (part (suc e)))
      ∙ left_in_second zero_sector (bytes_in e) (values_of (part (suc e))) (n - made (suc e))
      ∙ ap (λ s. left_by_writes s (values_of (part (suc e))) (n - made (suc e))) carried
      ∙ from_part (suc e) n low high

  -- later epochs leave that as it is
  goes_on : (e n k : ℕ) → e ≤ n → k ≤ members_before part e + length (part e) → left_by_writes zero_sector (bytes_in n) k ≡ left_by_writes zero_sector (bytes_in e) k
  goes_on e zero k le low = let same : 0 ≡ e = omega (arith, le) in ap (λ n. left_by_writes zero_sector (bytes_in n) k) same
  goes_on e (suc n) k le low = elim (cases_lt e (suc n)) [
    | inr not_before ↦ let same : suc n ≡ e = omega (arith, le, not_before) in ap (λ n. left_by_writes zero_sector (bytes_in n) k) same
    | inl before ↦
        ap (λ vs. left_by_writes zero_sector vs k) (map-append (λ (m : Member). m.bytes) (order_of_sector part n) (part (suc n)))
        ∙ left_in_first zero_sector (bytes_in n) (values_of (part (suc n))) k (omega (arith, bytes_length n, low, first_rises (suc e) (suc n) (omega (arith, before)), length_of_part n))
        ∙ goes_on e n k (omega (arith, before)) low
  ]

  pub left_at_last : (e n : ℕ) → e ≤ moves c → made e ≤ n → n ≤ kept e → left_by_writes zero_sector (bytes_in (moves c)) (members_before part e + (n - made e)) ≡ left_by_writes zero_sector (values e) n
  left_at_last e n le low high = goes_on e (moves c) (members_before part e + (n - made e)) le (omega (arith, length_of_part e, low, high)) ∙ left_up_to e n le low high
