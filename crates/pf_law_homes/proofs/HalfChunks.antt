-- What is asked of the chunk of a half is an ask of this half only where it is asked for it.
use Rattle.std.proofs.Common.{◌≡◌, ◌≢◌, ℕ, zero, suc, ◌+◌, ◌/◌, ◌%◌, ◌<◌, ◌≤◌, ◌⊎◌, inl, inr, ◌==◌, Bool, true, false, cond, ◌&&◌, nat_le, nat_lt, List, Some, None, arith, refl, sym, ap, ap₂, subst, ◌∙◌}
use Rattle.std.proofs.lemmas.Bool.{and_left, and_parts, and_right, cases_eq, cond-false, cond-true, eq-eqb, eqb-true, leb-true, ltb-true, ne_eqb, or_cases}
use Rattle.pf_base.specs.Span.{Span, is_in, is_whole}
use Rattle.pf_entry.specs.Ops.{Sector, writes as writes_at}
use Rattle.pf_entry.specs.declared.ops.Op.{Op}
use Rattle.pf_entry.specs.declared.ops.Op.TheVariants as ops
use Rattle.pf_law_registers.specs.Orders.{given}
use Rattle.pf_paxos.specs.Registers.{AsksRead}
use Rattle.pf_law_positions.specs.Deeds.{Gets, Puts}
use Rattle.pf_law_positions.specs.Homes.{PositionHome, ask_in, asks_write, is_half}
use Rattle.pf_journal.specs.Sectors.{block_in}
use Rattle.pf_law_homes.specs.Chunks.{only_half}

not_true : (b : Bool) → (b ≡ true → ⊥) → b ≡ false
not_true true never = absurd (never refl)
not_true false never = refl

pub given_none : (range : Span) (payload : List Sector) (x : ℕ) → is_in range x ≡ false → given (ops.Write range payload) x ≡ None
unfolding given writes_at
given_none range payload x never = cond-false _ _ _ never

-- a range of up to eight sectors from another sector on
pub not_within : (range : Span) (x : ℕ) → range.count ≤ 8 → (range.first ≤ x → x < range.first + range.count → ⊥) → is_in range x ≡ false
not_within range x few never = not_true _ (λ is. by (or_cases (is_whole range) (nat_le range.first x && nat_lt x (range.first + range.count)) is))
  where
    by : (is_whole range ≡ true) ⊎ ((nat_le range.first x && nat_lt x (range.first + range.count)) ≡ true) → ⊥
    by (inl whole) = let count : range.count ≡ 255 = eqb-true range.count 255 whole in absurd (omega (arith, few, count))
    by (inr within) =
        let p = and_parts (nat_le range.first x) (nat_lt x (range.first + range.count)) within in
        never (leb-true range.first x p.0) (ltb-true x (range.first + range.count) p.1)

module _ (home : PositionHome) (half : ℕ) (low : half < 2) (client : ℕ) where
  abbrev c : ℕ
  c = home.chunk half

  -- Reads

  half_here : (range : Span) → is_half (only_half home half) half c range ≡ (range.first == home.first half && range.count == 8)
  half_here range =
      ap₂ (λ chunk first. c == chunk && (range.first == first && range.count == 8)) (cond-true (half == half) c (suc c) (eq-eqb half half refl)) (cond-true (half == half) (home.first half) 0 (eq-eqb half half refl))
      ∙ ap (λ b. b && (range.first == home.first half && range.count == 8)) (eq-eqb c c refl)

  half_elsewhere : (other : ℕ) (range : Span) → other ≢ half → is_half (only_half home half) other c range ≡ false
  half_elsewhere other range apart =
      ap (λ chunk. c == chunk && (range.first == (only_half home half).first other && range.count == 8)) (cond-false (other == half) c (suc c) (ne_eqb other half apart))
      ∙ and_left (c == suc c) _ (ne_eqb c (suc c) (λ e. absurd (omega (arith, e))))

  pub reads_only : (range : Span) → ask_in block_in (only_half home half) client (Gets c range) ≡ cond (range.first == home.first half && range.count == 8) (Some (AsksRead half)) None
  reads_only range = by half low refl
    where
      by : (k : ℕ) → k < 2 → k ≡ half → ask_in block_in (only_half home half) client (Gets c range) ≡ cond (range.first == home.first half && range.count == 8) (Some (AsksRead half)) None
      by zero lt is =
          ap₂ (λ b d. cond b (Some (AsksRead 0)) (cond d (Some (AsksRead 1)) None))
          (subst (λ k. is_half (only_half home half) k c range ≡ (range.first == home.first half && range.count == 8)) (sym is) (half_here range))
          (half_elsewhere 1 range (λ e. absurd (omega (arith, e, is))))
          ∙ ap (λ k. cond (range.first == home.first half && range.count == 8) (Some (AsksRead k)) None) is
      by (suc zero) lt is =
          ap₂ (λ b d. cond b (Some (AsksRead 0)) (cond d (Some (AsksRead 1)) None))
          (half_elsewhere 0 range (λ e. absurd (omega (arith, e, is))))
          (subst (λ k. is_half (only_half home half) k c range ≡ (range.first == home.first half && range.count == 8)) (sym is) (half_here range))
          ∙ ap (λ k. cond (range.first == home.first half && range.count == 8) (Some (AsksRead k)) None) is
      by (suc (suc k)) lt is = absurd (omega (arith, lt))

  -- Writes

  pub writes_only : (op : Op) → ask_in block_in (only_half home half) client (Puts c op) ≡ cond (nat_lt client 16 && client / 8 == half) (asks_write block_in (given op (home.first half + client % 8))) None
  writes_only op = elim (cases_eq (client / 8) half) [
    | inl same ↦
        ap₂ (λ chunk first. cond (nat_lt client 16 && c == chunk) (asks_write block_in (given op (first + client % 8))) None)
        (cond-true (client / 8 == half) c (suc c) (eq-eqb (client / 8) half same))
        (cond-true (client / 8 == half) (home.first half) 0 (eq-eqb (client / 8) half same))
        ∙ ap (λ b. cond (nat_lt client 16 && b) (asks_write block_in (given op (home.first half + client % 8))) None) (eq-eqb c c refl ∙ sym (eq-eqb (client / 8) half same))
    | inr apart ↦
        cond-false _ _ _ (and_right (nat_lt client 16) _ (ap (λ chunk. c == chunk) (cond-false (client / 8 == half) c (suc c) (ne_eqb (client / 8) half apart)) ∙ ne_eqb c (suc c) (λ e. absurd (omega (arith, e)))))
        ∙ sym (cond-false _ _ _ (and_right (nat_lt client 16) _ (ne_eqb (client / 8) half apart)))
  ]
