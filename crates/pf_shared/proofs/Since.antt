-- The history since the first turn grows with the whole one.
use Rattle.std.proofs.Common.{◌≡◌, List, [], ◌∷◌, ◌++◌, sym, refl, ap, ◌∙◌, append_assoc}
use Rattle.pf_protocol.specs.declared.events.Happening.{Happening}
use Rattle.pf_protocol.specs.Histories.{History}
use Rattle.pf_protocol.specs.Answers.{Claimed, claims_after, claims_of}
use Rattle.pf_group_rounds.specs.pf_group.specs.GroupIs.{GroupIs}
use Rattle.pf_shared.specs.Since.{rest_after, happened_since}

module _ {A : Type 0} where
  pub rest_of_all : (xs ys : List A) → rest_after xs (xs ++ ys) ≡ ys
  rest_of_all [] ys = refl
  rest_of_all (x ∷ xs) ys = rest_of_all xs ys

  pub nothing_since : (xs : List A) → rest_after xs xs ≡ []
  nothing_since [] = refl
  nothing_since (x ∷ xs) = nothing_since xs

pub claims-append : (claims : List Claimed) (xs ys : History) → claims_of claims (xs ++ ys) ≡ claims_of (claims_of claims xs) ys
claims-append claims [] ys = refl
claims-append claims (x ∷ xs) ys = claims-append (claims_after claims x.event x.answer) xs ys

module _ (start now : GroupIs) (begun : start.history ++ happened_since start now ≡ now.history) where
  pub since_more : (next : GroupIs) (h : Happening) → next.history ≡ now.history ++ h ∷ [] → happened_since start next ≡ happened_since start now ++ h ∷ []
  since_more next h longer = ap (rest_after start.history) (longer ∙ (ap (λ l. l ++ h ∷ []) (sym begun) ∙ append_assoc start.history (happened_since start now) (h ∷ []))) ∙ rest_of_all start.history (happened_since start now ++ h ∷ [])

  pub begun_more : (next : GroupIs) (h : Happening) → next.history ≡ now.history ++ h ∷ [] → start.history ++ happened_since start next ≡ next.history
  begun_more next h longer = ap (λ l. start.history ++ l) (since_more next h longer) ∙ (sym (append_assoc start.history (happened_since start now) (h ∷ [])) ∙ (ap (λ l. l ++ h ∷ []) begun ∙ sym longer))

  pub since_same : (next : GroupIs) → next.history ≡ now.history → happened_since start next ≡ happened_since start now
  since_same next same = ap (rest_after start.history) same

  pub begun_same : (next : GroupIs) → next.history ≡ now.history → start.history ++ happened_since start next ≡ next.history
  begun_same next same = ap (λ l. start.history ++ l) (since_same next same) ∙ (begun ∙ sym same)

  -- the open claims are those of what happened since, where none was open
  pub claims_since : claims_of [] start.history ≡ [] → claims_of [] now.history ≡ claims_of [] (happened_since start now)
  claims_since none_open = ap (claims_of []) (sym begun) ∙ (claims-append [] start.history (happened_since start now) ∙ ap (λ c. claims_of c (happened_since start now)) none_open)
