-- Entries of a list, each after what stands before it.
use Rattle.std.proofs.Common.{◌≡◌, ℕ, ◌+◌, ◌<◌, ◌≤◌, [], ◌∷◌, ◌++◌, length, length-append, append_assoc, append-nil, arith, refl, sym, ap, ◌∙◌, subst}
use Rattle.pf_entry.specs.Lists.{Every}
use Rattle.pf_turn.specs.declared.log.Stamped.{Stamped}
use Rattle.pf_turn.specs.Lists.{Begins}
use Rattle.pf_turn.specs.Own.{AllAfter, EachAfter}
use Rattle.pf_turn.proofs.Lists.{begins_trans}
use Rattle.pf_live_seats.specs.pf_shared.specs.declared.moment.SeatMoment.{SeatMoment}
use Rattle.pf_live_seats.specs.pf_shared.specs.Moments.{entry}
use Rattle.pf_live_seats.specs.Deliveries.{LiveTrace}

-- the entries of one seat
module _ (n : ℕ) where
  pub each_map : (P Q : LiveTrace → SeatMoment → Type 0) → ((b : LiveTrace) (e : SeatMoment) → P b e → Q b e) → (before list : LiveTrace) → EachAfter n P before list → EachAfter n Q before list
  each_map P Q f before [] h = tt
  each_map P Q f before (e ∷ es) h = (λ is. f before e.what (h.0 is), each_map P Q f (before ++ e ∷ []) es h.1)

  -- each stands in the list
  pub each_within : (l : ℕ) (before list : LiveTrace) → length before + length list ≤ l → EachAfter n (λ b e. length b < l) before list
  each_within l before [] fits = tt
  each_within l before (e ∷ es) fits = (λ is. omega arith, each_within l (before ++ e ∷ []) es (omega (arith, length-append before (e ∷ []))))

  -- what stands before it and it begin the list
  pub each_own : (all before list : LiveTrace) → before ++ list ≡ all → EachAfter n (λ b e. Begins (b ++ entry n e ∷ []) all) before list
  each_own all before [] is = tt
  each_own all before (e ∷ es) is = (λ same. (es, append_assoc before (entry n e.what ∷ []) es ∙ (ap (λ m. before ++ entry m e.what ∷ es) (sym same) ∙ is)), each_own all (before ++ e ∷ []) es (append_assoc before (e ∷ []) es ∙ is))

  each_there : (P : LiveTrace → SeatMoment → Type 0) (b xs rest : LiveTrace) (e : Stamped SeatMoment) → EachAfter n P b (xs ++ e ∷ rest) → e.seat ≡ n → P (b ++ xs) e.what
  each_there P b [] rest e h is = subst (λ l. P l e.what) (sym (append-nil b)) (h.0 is)
  each_there P b (x ∷ xs) rest e h is = subst (λ l. P l e.what) (append_assoc b (x ∷ []) xs) (each_there P (b ++ x ∷ []) xs rest e h.1 is)

  -- one entry of them
  pub each_at : (P : LiveTrace → SeatMoment → Type 0) (all before : LiveTrace) (what : SeatMoment) → EachAfter n P [] all → Begins (before ++ entry n what ∷ []) all → P before what
  each_at P all before what h p = each_there P [] before p.0 (entry n what) (subst (EachAfter n P []) (sym p.1 ∙ append_assoc before (entry n what ∷ []) p.0) h) refl

-- all entries
module _ (P : ℕ → LiveTrace → SeatMoment → Type 0) where
  pub all_rest : (b xs ys : LiveTrace) → AllAfter P b (xs ++ ys) → AllAfter P (b ++ xs) ys
  all_rest b [] ys h = subst (λ l. AllAfter P l ys) (sym (append-nil b)) h
  all_rest b (x ∷ xs) ys h = subst (λ l. AllAfter P l ys) (append_assoc b (x ∷ []) xs) (all_rest (b ++ x ∷ []) xs ys h.1)

  pub all_join : (b xs ys : LiveTrace) → AllAfter P b xs → AllAfter P (b ++ xs) ys → AllAfter P b (xs ++ ys)
  all_join b [] ys h k = subst (λ l. AllAfter P l ys) (append-nil b) k
  all_join b (x ∷ xs) ys h k = (h.0, all_join (b ++ x ∷ []) xs ys h.1 (subst (λ l. AllAfter P l ys) (sym (append_assoc b (x ∷ []) xs)) k))

  pub all_map : (Q : ℕ → LiveTrace → SeatMoment → Type 0) (base : LiveTrace) → ((n : ℕ) (b : LiveTrace) (e : SeatMoment) → Begins base b → P n b e → Q n b e) → (b list : LiveTrace) → Begins base b → AllAfter P b list → AllAfter Q b list
  all_map Q base f b [] on h = tt
  all_map Q base f b (e ∷ es) on h = (f e.seat b e.what on h.0, all_map Q base f (b ++ e ∷ []) es (begins_trans base b (b ++ e ∷ []) on (e ∷ [], refl)) h.1)

  pub every_of : (Q : Stamped SeatMoment → Type 0) → ((e : Stamped SeatMoment) (b : LiveTrace) → P e.seat b e.what → Q e) → (b list : LiveTrace) → AllAfter P b list → Every Q list
  every_of Q f b [] h = tt
  every_of Q f b (e ∷ es) h = (f e b h.0, every_of Q f (b ++ e ∷ []) es h.1)
