-- The disks of servers.
use Rattle.std.proofs.Common.{◌≡◌, ◌≢◌, ℕ, Bool, inl, inr, List, Option, Some, slice_get, slice_set, sym, ap, ◌∙◌}
use Rattle.std.proofs.lemmas.Bool.{cases_eq}
use Rattle.std.proofs.lemmas.Option.{slice_get_within}
use Rattle.std.specs.Option.{option_map}
use Rattle.pf_server.specs.declared.server.Server.{Server}
use Rattle.pf_group_network.specs.declared.network.Network.{Network}
use Rattle.pf_group_network.specs.Going.{KeepsOthers, KeepsStores, KeepsTelling}
use Rattle.pf_group_network.proofs.Lists.{set_elsewhere, set_there}

module _ {S : Type 0} where
  abbrev its_store : Server S → S
  its_store server = server.store

  module _ (old new : Network S) (i : ℕ) (next : Server S) (now : new.servers.items ≡ slice_set old.servers.items i next) where
    elsewhere : (j : ℕ) → j ≢ i → option_map its_store (slice_get new.servers.items j) ≡ option_map its_store (slice_get old.servers.items j)
    elsewhere j apart = ap (λ (xs : List (Server S)). option_map its_store (slice_get xs j)) now ∙ ap (option_map its_store) (set_elsewhere old.servers.items i j next apart)

    -- only server i changed
    pub others_kept : KeepsOthers (Some i) old new
    others_kept j apart = elsewhere j (λ same. apart (ap Some (sym same)))

    -- it changed, but not its disks
    pub stores_kept : (me : Server S) → slice_get old.servers.items i ≡ Some me → next.store ≡ me.store → KeepsStores old new
    stores_kept me here same j = elim (cases_eq j i) [
      | inl is ↦
          ap (λ (k : ℕ). option_map its_store (slice_get new.servers.items k)) is ∙ ap (λ (xs : List (Server S)). option_map its_store (slice_get xs i)) now
          ∙ ap (option_map its_store) (set_there old.servers.items i next (slice_get_within old.servers.items i me here)) ∙ ap Some same
          ∙ sym (ap (option_map its_store) here) ∙ ap (λ (k : ℕ). option_map its_store (slice_get old.servers.items k)) (sym is)
      | inr apart ↦ elsewhere j apart
    ]

    -- its disks changed, but not whether they tell their content
    pub telling_kept : (told : S → Bool) (me : Server S) → slice_get old.servers.items i ≡ Some me → told next.store ≡ told me.store → KeepsTelling told old new
    telling_kept told me here same j = elim (cases_eq j i) [
      | inl is ↦
          ap (λ (k : ℕ). option_map told (option_map its_store (slice_get new.servers.items k))) is ∙ ap (λ (xs : List (Server S)). option_map told (option_map its_store (slice_get xs i))) now
          ∙ ap (λ (o : Option (Server S)). option_map told (option_map its_store o)) (set_there old.servers.items i next (slice_get_within old.servers.items i me here)) ∙ ap Some same
          ∙ sym (ap (λ (o : Option (Server S)). option_map told (option_map its_store o)) here) ∙ ap (λ (k : ℕ). option_map told (option_map its_store (slice_get old.servers.items k))) (sym is)
      | inr apart ↦ ap (option_map told) (elsewhere j apart)
    ]
