-- Calls in the order of a list, and what is in one block as time goes on: where each that writes it does so while no other does, and in this order.
use Rattle.std.proofs.Common.{◌≡◌, inl, inr, ℕ, suc, ◌+◌, ◌<◌, ◌≤◌, List, [], ◌∷◌, ◌++◌, length, Some, slice_get, arith, refl, sym, subst, ◌∙◌}
use Rattle.std.proofs.lemmas.Bool.{cases_eq, cases_lt}
use Rattle.std.proofs.lemmas.List.Sums.{fold-append}
use Rattle.pf_entry.specs.Ops.{Sector}
use Rattle.pf_law_plans.specs.Exchanges.{Exchange}
use Rattle.pf_law_contents.specs.Going.{Went, exchanges_of}
use Rattle.pf_law_contents.specs.Stored.{Stored, TellStored, stored_after, stored_by}

pub tell_parts : (xs ys : List Exchange) (s : Stored) → TellStored s (xs ++ ys) → TellStored s xs × TellStored (stored_after s xs) ys
tell_parts [] ys s tells = (tt, tells)
tell_parts (e ∷ xs) ys s tells = let rest = tell_parts xs ys (stored_by s e.0) tells.1 in ((tells.0, rest.0), rest.1)

-- of a block of a chunk, what is in it at each time, and at which times calls of which rank in the list write it
module _ (chunk first : ℕ) (is_in : ℕ → List Sector) (IsWrite : (time rank : ℕ) → Type 0) where
  -- The call of this rank leaves the block as it is, in the list and in time. Or it writes it from one time on up to another, behind all of lower rank and
  -- before all of higher rank, and leaves in it in the list what is in it then
  pub data Effect (rank : ℕ) (came : List Exchange) : Type 0 where
    Leaves : ((s : Stored) → stored_after s came chunk first ≡ s chunk first) → ((time : ℕ) → IsWrite time rank → ⊥) → Effect rank came
    Puts : (began ended : ℕ) → began ≤ ended → ((time : ℕ) → IsWrite time rank → (began ≤ time) × (time < ended)) → ((time other : ℕ) → other < rank → IsWrite time other → time < began)
        → ((time other : ℕ) → rank < other → IsWrite time other → ended ≤ time)
        → ((s : Stored) → s chunk first ≡ is_in began → TellStored s came → stored_after s came chunk first ≡ is_in ended) → Effect rank came

  -- what is in it stays while none writes
  abbrev pub Stays : Type 0
  Stays = (from to : ℕ) → from ≤ to → ((time rank : ℕ) → from ≤ time → time < to → IsWrite time rank → ⊥) → is_in from ≡ is_in to

  -- so far in the list what is stored is what is in it at a time up to which all that was written is of these calls, and after which none
  pub record IsAt (rank time : ℕ) (s : Stored) : Type 0 where
    pub is : s chunk first ≡ is_in time
    pub before : (write other : ℕ) → IsWrite write other → write < time → other < rank
    pub after : (write other : ℕ) → IsWrite write other → time ≤ write → rank ≤ other

  module _ (stays : Stays) where
    -- two times between which none writes
    same_at : (from to : ℕ) → ((time rank : ℕ) → from ≤ time → time < to → IsWrite time rank → ⊥) → ((time rank : ℕ) → to ≤ time → time < from → IsWrite time rank → ⊥) → is_in from ≡ is_in to
    same_at from to none other = elim (cases_lt from to) [
      | inl below ↦ stays from to (omega (arith, below)) none
      | inr past ↦ sym (stays to from past other)
    ]

    one_call : (rank time : ℕ) (s : Stored) (came : List Exchange) → IsAt rank time s → Effect rank came → TellStored s came → (now : ℕ) × IsAt (suc rank) now (stored_after s came)
    one_call rank time s came at (Leaves leaves none) tells = (
      time,
      record {
        is = leaves s ∙ at.is;
        before = λ write other w low. (let below = at.before write other w low in omega (arith, below));
        after = λ write other w high. (let above = at.after write other w high in elim (cases_eq rank other) [
          | inl here ↦ absurd (none write (subst (λ k. IsWrite write k) (sym here) w))
          | inr apart ↦ omega (arith, above, apart)
        ]);
      },
    )
    one_call rank time s came at (Puts began ended grows within lower higher leaves) tells =
        let same : is_in time ≡ is_in began =
        same_at time began
        (λ write other from to w.
        let above = at.after write other w from in
        elim (cases_eq rank other) [
          | inl here ↦ let its = within write (subst (λ k. IsWrite write k) (sym here) w) in absurd (let low = its.0 in omega (arith, low, to))
          | inr apart ↦ let its = higher write other (omega (arith, above, apart)) w in absurd (omega (arith, its, to, grows))
        ])
        (λ write other from to w. let below = at.before write other w to in let its = lower write other below w in absurd (omega (arith, its, from))) in (
          ended,
          record {
            is = leaves s (at.is ∙ same) tells;
            before = λ write other w low. elim (cases_lt rank other) [
              | inl above ↦ let its = higher write other above w in absurd (omega (arith, its, low))
              | inr not_above ↦ omega (arith, not_above)
            ];
            after = λ write other w high. elim (cases_lt rank other) [
              | inl above ↦ above
              | inr not_above ↦ elim (cases_eq rank other) [
                | inl here ↦ let its = within write (subst (λ k. IsWrite write k) (sym here) w) in absurd (let low = its.1 in omega (arith, low, high))
                | inr apart ↦ let its = lower write other (omega (arith, not_above, apart)) w in absurd (omega (arith, its, high, grows))
              ]
            ];
          },
        )

    all_calls : (wents : List Went) (rank time : ℕ) (s : Stored) → IsAt rank time s → ((k : ℕ) (went : Went) → slice_get wents k ≡ Some went → Effect (rank + k) went.came) → TellStored s (exchanges_of wents)
        → (now : ℕ) × IsAt (rank + length wents) now (stored_after s (exchanges_of wents))
    all_calls [] rank time s at each tells = (time, subst (λ k. IsAt k time s) (let same : rank ≡ rank + 0 = omega arith in same) at)
    all_calls (went ∷ wents) rank time s at each tells =
        let parts = tell_parts went.came (exchanges_of wents) s tells in
        let one = one_call rank time s went.came at (subst (λ k. Effect k went.came) (let same : rank + 0 ≡ rank = omega arith in same) (each 0 went refl)) parts.0 in
        let rest =
        all_calls wents (suc rank) one.0 (stored_after s went.came) one.1
        (λ k its is. subst (λ n. Effect n its.came) (let same : rank + suc k ≡ suc rank + k = omega arith in same) (each (suc k) its is)) parts.1 in (
          rest.0,
          subst (λ (now : Stored). IsAt (rank + suc (length wents)) rest.0 now) (sym (fold-append _ s went.came (exchanges_of wents)))
              (subst (λ n. IsAt n rest.0 (stored_after (stored_after s went.came) (exchanges_of wents))) (let same : suc rank + length wents ≡ rank + suc (length wents) = omega arith in same) rest.1),
        )

    -- after all calls what is stored is what is in it at any time by which all that is written was
    pub left_by_all : (wents : List Went) (s : Stored) (end : ℕ) → s chunk first ≡ is_in 0 → ((time rank : ℕ) → IsWrite time rank → (rank < length wents) × (time < end)) → ((k : ℕ) (went : Went) → slice_get wents k ≡ Some went → Effect k went.came)
        → TellStored s (exchanges_of wents) → stored_after s (exchanges_of wents) chunk first ≡ is_in end
    left_by_all wents s end new all each tells =
        let last =
        all_calls wents 0 0 s (record { is = new; before = λ write other w low. absurd (omega (arith, low)); after = λ write other w high. omega arith })
        (λ k went is. subst (λ n. Effect n went.came) (let same : k ≡ 0 + k = omega arith in same) (each k went is)) tells in
        let at = last.1 in
        at.is
        ∙ same_at last.0 end (λ write other from to w. let above = at.after write other w from in let low = (all write other w).0 in absurd (omega (arith, above, low)))
        (λ write other from to w. let low = (all write other w).1 in absurd (omega (arith, low, from)))
