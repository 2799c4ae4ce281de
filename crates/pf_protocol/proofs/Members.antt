-- The servers of a group: which there are, and what one that leads holds of its own term.
use Rattle.std.proofs.Common.{◌≡◌, ℕ, ◌<◌, ◌⊎◌, inl, inr, Some, slice_get, sym, subst, ◌∙◌}
use Rattle.std.specs.FinMap
use Rattle.std.proofs.lemmas.Option.{same_Some}
use Rattle.pf_entry.specs.declared.entries.Entry.{Entry}
use Rattle.pf_protocol.specs.Servers.{Setup, Leader, Merging, Serving, Server, Condition, Running}
use Rattle.pf_protocol.specs.Histories.{History, replay, RunsAs}
use Rattle.pf_protocol.proofs.ChosenKnown.{LeaderKnows, RoleKnows}
use Rattle.pf_protocol.proofs.Follows.{IsLeader, RoleIs}
use Rattle.pf_protocol.proofs.Rows.{own_entry}
use Rattle.pf_protocol.proofs.Histories.{told}

module _ (setup : Setup) (history : History) where
  pub is_member : (i : ℕ) (c : Condition) → slice_get (replay setup history).servers i ≡ Some c → i < 3
  is_member i c at = ((told setup history).follows.servers i c at).0

  pub its_number : (i : ℕ) (s : Server) → RunsAs (replay setup history) i s → s.number ≡ i
  its_number i s at = ((told setup history).follows.servers i (Running s) at).1.number

  -- what a leader holds above its checkpoint and below its next slot is its own
  pub own_entries : (i : ℕ) (s : Server) (l : Leader) → RunsAs (replay setup history) i s → (s.role ≡ Merging l) ⊎ (s.role ≡ Serving l) → (slot : ℕ) (e : Entry) → s.durable.base < slot → slot < l.next → FinMap.get s.durable.log slot ≡ Some e → e.term ≡ s.durable.term
  own_entries i s l at role slot e low high held =
      let z = told setup history in
      let b = z.ballots in
      let h = z.follows.servers i (Running s) at in
      let lead : IsLeader b.ballot b.next i s.durable l × LeaderKnows b i s.durable.term l = elim role [
        | inl is ↦ (subst (RoleIs b.vote b.ballot b.next i s.durable) is h.1.role, subst (RoleKnows b i s.durable.term) is h.1.knows.role)
        | inr is ↦ (subst (RoleIs b.vote b.ballot b.next i s.durable) is h.1.role, (subst (RoleKnows b i s.durable.term) is h.1.knows.role).0)
      ] in
      let y = own_entry b z.sound z.served i h.0 s h.1 l lead.0 lead.1 slot low high in
      let same : y.0 ≡ e = same_Some y.0 e (sym y.1 ∙ held) in
      subst (λ x. x.term ≡ s.durable.term) same (z.sound.made slot s.durable.term y.0 y.2).in_term
