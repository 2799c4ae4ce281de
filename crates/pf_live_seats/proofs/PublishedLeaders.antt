-- The leader that a look found is published.
use Rattle.std.proofs.Common.{◌≡◌, ◌⊎◌, inl, inr, ℕ, ◌<◌, ◌≤◌, Bool, true, false, nat_lt, ltb-true, List, [], ◌∷◌, ◌++◌, None, Some, IsTrue, refl, sym, ap, ◌∙◌, subst}
use Rattle.std.proofs.lemmas.Bool.{ltb-false}
use Rattle.pf_protocol.specs.Groups.{Group}
use Rattle.pf_shared.specs.pf_group.specs.GroupIs.{GroupIs}
use Rattle.pf_shared.specs.pf_group_network.specs.Shown.{IsLeader}
use Rattle.pf_shared.specs.declared.moment.SeatMoment.TheVariants.{Look}
use Rattle.pf_shared.specs.Looks.{Looks}
use Rattle.pf_shared.specs.Moments.{entry}
use Rattle.pf_shared.specs.Since.{state_by_now}
use Rattle.pf_leadercell.specs.Passes as cells
use Rattle.pf_leadercell.specs.Published.{Pair, last_of, last_or}
use Rattle.pf_leadercell.specs.declared.cell.LeaderPass.{LeaderPass}
use Rattle.pf_live_seats.specs.Deliveries.{LiveTrace}
use Rattle.pf_live_seats.specs.Switches.{HasPublished}
use Rattle.pf_live_seats.proofs.Happenings.{state_more}

last_is : (d : Pair) (xs : List Pair) (x : Pair) → last_or d (xs ++ x ∷ []) ≡ x
last_is d [] x = refl
last_is d (y ∷ ys) x = last_is y ys x

-- what a look showed is so of the list as the seat has seen it
pub shown_now : (root : GroupIs) (n : ℕ) (alone : Type 0) (seen new : LiveTrace) (P : Group → Type 0) → Looks root n alone seen P new → IsTrue root.told → P (state_by_now root new)
shown_now root n alone seen new P look told = subst P (state_more root look.adds.found (entry n (Look None) ∷ []) new (sym look.adds.listed)) (look.shown told)

module _ (root : GroupIs) (list : LiveTrace) where
  pub found_none : (pass : LeaderPass) → (IsTrue root.told → IsLeader (state_by_now root list) None) → HasPublished root list pass
  found_none pass none = record { leader = None; leads = none; last = tt }

  pub published_one : (before after : LeaderPass) (term server : ℕ) → (IsTrue root.told → IsLeader (state_by_now root list) (Some (term, server))) → ((last_of (cells.seen_by before)).0 ≤ term → cells.seen_by after ≡ cells.seen_by before ++ (term, server) ∷ [])
      → (term < (last_of (cells.seen_by before)).0 → cells.seen_by after ≡ cells.seen_by before) → HasPublished root list after
  published_one before after term server leads published lower = record { leader = Some (term, server); leads = leads; last = by (nat_lt term (last_of (cells.seen_by before)).0) refl }
    where
      by : (b : Bool) → nat_lt term (last_of (cells.seen_by before)).0 ≡ b → (last_of (cells.seen_by after) ≡ (term, server)) ⊎ (term < (last_of (cells.seen_by after)).0)
      by false above = inl (ap last_of (published (ltb-false term (last_of (cells.seen_by before)).0 above)) ∙ last_is (0, 0) (cells.seen_by before) (term, server))
      by true below = inr (subst (λ p. term < (last_of p).0) (sym (lower (ltb-true term (last_of (cells.seen_by before)).0 below))) (ltb-true term (last_of (cells.seen_by before)).0 below))
