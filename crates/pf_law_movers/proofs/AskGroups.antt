-- The group that has the asks for a chunk, by what was told, and what of a group stays.
use Rattle.std.proofs.Common.{◌≡◌, ◌≢◌, ℕ, zero, suc, ◌<◌, inl, inr, if◌then◌else◌, List, [], ◌∷◌, ◌++◌, length, Option, Some, None, slice_get, arith, refl, sym, ap, subst, ◌∙◌, lt-ltb, length-append}
use Rattle.std.specs.List.{flat_map}
use Rattle.std.proofs.lemmas.Bool.{cases_eq, ne_eqb}
use Rattle.std.proofs.lemmas.List.{append_assoc}
use Rattle.std.proofs.lemmas.Option.{none-some, same_Some}
use Rattle.pf_entry.specs.Lists.{Every}
use Rattle.pf_law_movers.specs.pf_world_moments.specs.Moments.{Moment, Carries, Hands, Moves, Writes, Acts}
use Rattle.pf_law_movers.specs.Epochs.{group_of_epoch, groups_in_turn, groups_moved_to}
use Rattle.pf_law_movers.specs.Pasts.{is_some_of}
use Rattle.pf_law_movers.proofs.ChunkEpochs.{AreBegun, begun_until, group_stays, groups_on, next_group}
use Rattle.pf_law_movers.proofs.Lives.{its_own, not_its_own}
use Rattle.pf_law_movers.proofs.ListPlaces.{by_ends, get_either}
use Rattle.pf_law_movers.proofs.PortTraces.{asks_of, asks_on, has_after, IsElsewhere}

module _ (count : ℕ) where
  -- a group that a chunk had is made anew for no move
  pub none_anew : (told more : List Moment) → AreBegun count (told ++ more) → (chunk epoch group : ℕ) → chunk < count → group_of_epoch told chunk epoch ≡ Some group → Every (IsElsewhere group) more
  none_anew told [] begun chunk epoch group small at = tt
  none_anew told (x ∷ more) begun chunk epoch group small at =
      let next : AreBegun count ((told ++ x ∷ []) ++ more) = subst (AreBegun count) (sym (append_assoc told (x ∷ []) more)) begun in
      (here x (begun_until count (told ++ x ∷ []) more next), none_anew (told ++ x ∷ []) more next chunk epoch group small (group_stays told (x ∷ []) chunk epoch group at))
    where
      here : (y : Moment) → AreBegun count (told ++ y ∷ []) → IsElsewhere group y
      here (Moves c to) its = λ same. (its.begins told [] c to refl).fresh chunk epoch small (at ∙ ap (λ i. Some i) (sym same))
      here (Writes text) its = tt
      here (Acts who act) its = tt
      here (Hands m k place) its = tt
      here (Carries c heard next) its = tt

  -- the last group of a chunk has its asks
  abbrev HasAsks : List Moment → Type 0
  HasAsks told = (chunk epoch group : ℕ) → chunk < count → group_of_epoch told chunk epoch ≡ Some group → length (groups_in_turn told chunk) ≡ suc epoch → asks_of count told group ≡ Some chunk

  -- nothing moves
  still_asks : (told : List Moment) (x : Moment) → ((chunk : ℕ) → flat_map (groups_moved_to chunk) (x ∷ []) ≡ []) → ((group : ℕ) (of : Option ℕ) → has_after group of x ≡ of) → HasAsks told → HasAsks (told ++ x ∷ [])
  still_asks told x none still so_far chunk epoch group small at last =
      let same : groups_in_turn (told ++ x ∷ []) chunk ≡ groups_in_turn told chunk ++ [] = groups_on told (x ∷ []) chunk ∙ ap (λ gs. groups_in_turn told chunk ++ gs) (none chunk) in
      let long = ap length same ∙ length-append (groups_in_turn told chunk) [] in
      let old : group_of_epoch told chunk epoch ≡ Some group = elim (get_either (groups_in_turn told chunk) [] epoch group (ap (λ gs. slice_get gs epoch) (sym same) ∙ at)) [
        | inl first ↦ first
        | inr second ↦ absurd (none-some group second.1)
      ] in
      asks_on count told (x ∷ []) group ∙ still group (asks_of count told group) ∙ so_far chunk epoch group small old (omega (arith, long, last))

  moves_asks : (told : List Moment) (c to : ℕ) → AreBegun count (told ++ Moves c to ∷ []) → HasAsks told → HasAsks (told ++ Moves c to ∷ [])
  moves_asks told c to begun so_far chunk epoch group small at last = elim (cases_eq c chunk) [
    | inl same ↦
        let grown : groups_in_turn (told ++ Moves c to ∷ []) chunk ≡ groups_in_turn told chunk ++ (to ∷ []) = groups_on told (Moves c to ∷ []) chunk ∙ ap (λ gs. groups_in_turn told chunk ++ (gs ++ [])) (its_own c chunk (to ∷ []) [] same) in
        let long = ap length grown ∙ length-append (groups_in_turn told chunk) (to ∷ []) in
        let place : epoch ≡ length (groups_in_turn told chunk) = omega (arith, long, last) in
        let new : group_of_epoch (told ++ Moves c to ∷ []) chunk epoch ≡ Some to = subst (λ i. group_of_epoch (told ++ Moves i to ∷ []) chunk epoch ≡ Some to) (sym same) (ap (group_of_epoch (told ++ Moves chunk to ∷ []) chunk) place ∙ next_group told chunk to) in
        let is : to ≡ group = same_Some to group (sym new ∙ at) in
        asks_on count told (Moves c to ∷ []) group ∙ its_own to group (Some c) (if is_some_of (asks_of count told group) c then None else asks_of count told group) is ∙ ap (λ i. Some i) same
    | inr other ↦
        let kept : groups_in_turn (told ++ Moves c to ∷ []) chunk ≡ groups_in_turn told chunk ++ [] = groups_on told (Moves c to ∷ []) chunk ∙ ap (λ gs. groups_in_turn told chunk ++ (gs ++ [])) (not_its_own c chunk (to ∷ []) [] other) in
        let long = ap length kept ∙ length-append (groups_in_turn told chunk) [] in
        let old : group_of_epoch told chunk epoch ≡ Some group = elim (get_either (groups_in_turn told chunk) [] epoch group (ap (λ gs. slice_get gs epoch) (sym kept) ∙ at)) [
          | inl first ↦ first
          | inr second ↦ absurd (none-some group second.1)
        ] in
        let apart : to ≢ group = λ same. (begun.begins told [] c to refl).fresh chunk epoch small (old ∙ ap (λ i. Some i) (sym same)) in
        let has = so_far chunk epoch group small old (omega (arith, long, last)) in
        asks_on count told (Moves c to ∷ []) group
        ∙ not_its_own to group (Some c) (if is_some_of (asks_of count told group) c then None else asks_of count told group) apart
        ∙ ap (λ o. if is_some_of o c then None else o) has
        ∙ ap (λ b. if b then None else Some chunk) (ne_eqb chunk c (λ same. other (sym same)))
  ]

  asks_more : (told : List Moment) (x : Moment) → AreBegun count (told ++ x ∷ []) → HasAsks told → HasAsks (told ++ x ∷ [])
  asks_more told (Moves c to) begun so_far = moves_asks told c to begun so_far
  asks_more told (Writes text) begun so_far = still_asks told (Writes text) (λ chunk. refl) (λ group of. refl) so_far
  asks_more told (Acts who act) begun so_far = still_asks told (Acts who act) (λ chunk. refl) (λ group of. refl) so_far
  asks_more told (Hands m k place) begun so_far = still_asks told (Hands m k place) (λ chunk. refl) (λ group of. refl) so_far
  asks_more told (Carries c heard next) begun so_far = still_asks told (Carries c heard next) (λ chunk. refl) (λ group of. refl) so_far

  first_asks : HasAsks []
  first_asks chunk zero group small at last =
      let same : chunk ≡ group = same_Some chunk group at in
      subst (λ g. asks_of count [] g ≡ Some chunk) same (ap (λ b. if b then Some chunk else None) (lt-ltb chunk count small))
  first_asks chunk (suc epoch) group small at last = absurd (none-some group at)

  pub has_asks : (told : List Moment) → AreBegun count told → HasAsks told
  has_asks = by_ends (λ (all : List Moment). AreBegun count all → HasAsks all) (λ _. first_asks)
      (λ all x so_far begun. asks_more all x begun (so_far (begun_until count all (x ∷ []) begun)))
