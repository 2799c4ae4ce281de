-- The servers of a network.
use Rattle.std.proofs.Common.{◌≡◌, ℕ, ◌<◌, inl, inr, List, length, Some, slice_get, slice_set, sym, ap, subst, ◌∙◌}
use Rattle.std.proofs.lemmas.Option.{same_Some, slice_get_within}
use Rattle.pf_entry.proofs.Lists.{set_cases}
use Rattle.pf_protocol.specs.Servers.{Setup, Condition}
use Rattle.pf_server_store.specs.Stores.{StoreModel}
use Rattle.pf_server.specs.declared.server.Server.{Server}
use Rattle.pf_group_network.specs.Showing.{AreMembers, IsMember}
use Rattle.pf_group_network.proofs.Lists.{set_elsewhere, set_same, set_there}

module _ {S : Type 0} (model : StoreModel S) (setup : Setup) (servers : List (Server S)) (conditions : List Condition) (members : AreMembers model setup servers conditions) where
  -- the server in a place is in the condition in that place
  pub member_at : (i : ℕ) (me : Server S) (c : Condition) → slice_get servers i ≡ Some me → slice_get conditions i ≡ Some c → IsMember model setup i me c
  member_at i me c here there =
      let m = members i me here in
      subst (IsMember model setup i me) (same_Some m.0 c (sym m.1 ∙ there)) m.2

  -- one is in another condition
  pub member_set : (i : ℕ) (me : Server S) (c : Condition) → i < length conditions → IsMember model setup i me c → AreMembers model setup (slice_set servers i me) (slice_set conditions i c)
  member_set i me c lt is j other at =
      elim (set_cases servers i me j other at) [
        | inl here ↦ (c, ap (slice_get (slice_set conditions i c)) here.0 ∙ set_there conditions i c lt, moved j other here)
        | inr there ↦ (let m = members j other there.1 in (m.0, set_elsewhere conditions i j c there.0 ∙ m.1, m.2))
      ]
    where
      moved : (j : ℕ) (other : Server S) → (j ≡ i) × (me ≡ other) → IsMember model setup j other c
      moved j other same = subst (λ k. IsMember model setup k other c) (sym same.0) (subst (λ x. IsMember model setup i x c) same.1 is)

  -- one has changed, but is in the same condition
  pub member_stays : (i : ℕ) (me : Server S) (c : Condition) → slice_get conditions i ≡ Some c → IsMember model setup i me c → AreMembers model setup (slice_set servers i me) conditions
  member_stays i me c there is =
      subst (AreMembers model setup (slice_set servers i me)) (set_same conditions i c there) (member_set i me c (slice_get_within conditions i c there) is)
