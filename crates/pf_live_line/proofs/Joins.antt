-- The numbers of the seats that were taken in.
use Rattle.std.proofs.Common.{◌≡◌, ℕ, zero, suc, ◌-◌, ◌<◌, List, ◌∷◌, arith, ap, ◌∙◌, subst}
use Rattle.pf_turn.specs.Lists.{Every, SameOf, entries_of}
use Rattle.pf_turn.specs.Own.{down_from}
use Rattle.pf_turn.proofs.Own.{down_has}
use Rattle.pf_live_seats.specs.pf_shared.specs.declared.moment.SeatMoment.{SeatMoment}
use Rattle.pf_live_seats.specs.Deliveries.{LiveTrace}

-- the next number comes before those below it
pub joined_gone : (n : ℕ) (gone : List ℕ) → 0 < n → gone ≡ down_from (n - 1) → n ∷ gone ≡ down_from n
joined_gone zero gone low is = absurd (omega arith)
joined_gone (suc m) gone low is = let one : suc m - 1 ≡ m = omega arith in ap (λ l. suc m ∷ l) (is ∙ ap down_from one)

-- entries of those that were taken in before stay
pub joined_others : (n : ℕ) (gone : List ℕ) → 0 < n → gone ≡ down_from (n - 1) → (new old : LiveTrace) → entries_of 0 new ≡ entries_of 0 old → Every (SameOf new old) gone → (m : ℕ) → m < n → entries_of m new ≡ entries_of m old
joined_others n gone low is new old own same zero under = own
joined_others n gone low is new old own same (suc m) under = let P : ℕ → LiveTrace → SeatMoment → Type 0 = λ k l what. ⊥ in down_has P (SameOf new old) (n - 1) (suc m) (subst (Every (SameOf new old)) is same) (omega arith) (omega arith)
