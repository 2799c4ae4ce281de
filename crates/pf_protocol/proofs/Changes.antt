-- What may happen to the ballots.
use Rattle.std.specs.Prelude.{◌≡◌, ℕ, suc, ◌<◌, ◌≤◌, ◌≢◌, ◌⊎◌, true, cond, ◌||◌, ◌&&◌, ◌==◌, nat_lt, Option, Some, None}
use Rattle.std.specs.FinMap
use Rattle.pf_entry.specs.declared.entries.Entry.{Entry}
use Rattle.pf_entry.specs.Records.{Durable, holds}
use Rattle.pf_entry.specs.Merging.{merged_entry}
use Rattle.pf_protocol.proofs.Ballots.{Cast, Ballot, first_of, Ballots, HasFrom, IsStart}

abbrev pub put : {X : Type 0} → (ℕ → X) → ℕ → X → ℕ → X
put f i x j = cond (j == i) x (f j)

-- a server's disk has gone on to a later state
abbrev pub grown : Ballots → ℕ → Durable → Ballots
grown b i after = record b {
  disk = put b.disk i after;
  accepted = put b.accepted i (λ s t. b.accepted i s t || holds after s t);
}

-- an entry that the disk did not have
pub record IsNews (proposal : ℕ → ℕ → Option Entry) (before after : Durable) (slot : ℕ) (e : Entry) : Type 0 where
  pub not_old : before.term ≤ e.term
  pub not_above : e.term ≤ after.term
  pub is : proposal slot e.term ≡ Some e
  pub started : FinMap.get after.starts e.term ≡ Some e.first

-- how a disk may go on
pub record Grows (proposal : ℕ → ℕ → Option Entry) (ballot : ℕ → Option Ballot) (before after : Durable) : Type 0 where
  pub term : before.term ≤ after.term
  pub base : before.base ≤ after.base
  pub news : (s : ℕ) (e : Entry) → FinMap.get after.log s ≡ Some e → (FinMap.get before.log s ≡ Some e) ⊎ IsNews proposal before after s e
  pub keeps : (s : ℕ) (e : Entry) → FinMap.get before.log s ≡ Some e → (after.base < s) ⊎ (after.base ≡ before.base) → HasFrom after.log s e.term
  pub starts : (t first : ℕ) → FinMap.get before.starts t ≡ Some first → (other : ℕ) × (FinMap.get after.starts t ≡ Some other)
  pub true_starts : (t first : ℕ) → FinMap.get after.starts t ≡ Some first → (FinMap.get before.starts t ≡ Some first) ⊎ ((t ≤ after.term) × IsStart ballot t first)

-- a server votes
abbrev pub voted : Ballots → ℕ → (term : ℕ) → Cast → Ballots
voted b i term v = record b { vote = put b.vote i (put (b.vote i) term (Some v)) }

-- a leader merges: its proposals are there, though no disk has one
abbrev pub merged_proposal : (ℕ → ℕ → Option Entry) → (term : ℕ) → Ballot → ℕ → ℕ → Option Entry
merged_proposal proposal term m slot t =
    cond (t == term)
    (cond (nat_lt m.base slot && nat_lt slot (first_of m)) (Some (merged_entry term m.base m.own m.theirs slot)) None)
    (proposal slot t)

abbrev pub merged : Ballots → (term : ℕ) → Ballot → Ballots
merged b term m = record b {
  ballot = put b.ballot term (Some m);
  next = put b.next term (first_of m);
  proposal = merged_proposal b.proposal term m;
}

-- a leader proposes in its next slot
abbrev pub proposed : Ballots → (term : ℕ) → Entry → Ballots
proposed b term e = record b {
  next = put b.next term (suc e.slot);
  proposal = put b.proposal e.slot (put (b.proposal e.slot) term (Some e));
}

-- what one server's steps leave as it was
pub record Extends (i : ℕ) (before after : Ballots) : Type 0 where
  pub proposals : (s t : ℕ) (e : Entry) → before.proposal s t ≡ Some e → after.proposal s t ≡ Some e
  pub ballots : (t : ℕ) (m : Ballot) → before.ballot t ≡ Some m → after.ballot t ≡ Some m
  pub votes : (j t : ℕ) (v : Cast) → before.vote j t ≡ Some v → after.vote j t ≡ Some v
  pub accepted : (j s t : ℕ) → before.accepted j s t ≡ true → after.accepted j s t ≡ true
  pub other_disks : (j : ℕ) → j ≢ i → after.disk j ≡ before.disk j
  pub new_ballots : (t : ℕ) (m : Ballot) → after.ballot t ≡ Some m → (before.ballot t ≡ Some m) ⊎ (m.leader ≡ i)
  pub nexts : (t : ℕ) (m : Ballot) → before.ballot t ≡ Some m → m.leader ≢ i → after.next t ≡ before.next t
