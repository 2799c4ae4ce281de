-- What may happen to the ballots takes nothing away.
use Rattle.std.proofs.Common.{◌≡◌, ℕ, suc, ◌⊎◌, inl, inr, true, cond, Some, None, ◌||◌, ◌==◌, refl, sym, ap, subst, ◌∙◌}
use Rattle.std.proofs.lemmas.Bool.{or_left, or_cases, cond-false, ne_eqb, eqb-true}
use Rattle.std.proofs.lemmas.Option.{same_Some}
use Rattle.pf_entry.specs.declared.entries.Entry.{Entry}
use Rattle.pf_entry.specs.Records.{Durable, holds}
use Rattle.pf_protocol.proofs.Ballots.{Cast, Ballot, Ballots, Sound}
use Rattle.pf_protocol.proofs.Changes.{grown, voted, merged, proposed, Extends}
use Rattle.pf_entry.proofs.Cases.{by_test}
use Rattle.pf_protocol.proofs.BallotsKept.{put_cases, vote_stays, ballot_stays, proposal_stays, proposals_stay}

pub extends_self : (i : ℕ) (b : Ballots) → Extends i b b
extends_self i b = record {
  proposals = λ s t e is. is;
  ballots = λ t m is. is;
  votes = λ j t v is. is;
  accepted = λ j s t is. is;
  other_disks = λ j apart. refl;
  new_ballots = λ t m is. inl is;
  nexts = λ t m is apart. refl;
}

pub extends_both : (i : ℕ) (a b c : Ballots) → Extends i a b → Extends i b c → Extends i a c
extends_both i a b c x y = record {
  proposals = λ s t e is. y.proposals s t e (x.proposals s t e is);
  ballots = λ t m is. y.ballots t m (x.ballots t m is);
  votes = λ j t v is. y.votes j t v (x.votes j t v is);
  accepted = λ j s t is. y.accepted j s t (x.accepted j s t is);
  other_disks = λ j apart. y.other_disks j apart ∙ x.other_disks j apart;
  new_ballots = λ t m is. elim (y.new_ballots t m is) [ inl old ↦ x.new_ballots t m old | inr new ↦ inr new ];
  nexts = λ t m is apart. y.nexts t m (x.ballots t m is) apart ∙ x.nexts t m is apart;
}

pub extends_grown : (b : Ballots) (i : ℕ) (after : Durable) → Extends i b (grown b i after)
extends_grown b i after = record {
  proposals = λ s t e is. is;
  ballots = λ t m is. is;
  votes = λ j t v is. is;
  accepted = λ j s t. by_test (j == i)
      (λ c. b.accepted j s t ≡ true → cond c (λ s t. b.accepted i s t || holds after s t) (b.accepted j) s t ≡ true)
      (λ same is. or_left _ _ (subst (λ k. b.accepted k s t ≡ true) (eqb-true j i same) is)) (λ _ is. is);
  other_disks = λ j apart. cond-false _ _ _ (ne_eqb j i apart);
  new_ballots = λ t m is. inl is;
  nexts = λ t m is apart. refl;
}

pub extends_voted : (b : Ballots) (sound : Sound b) (i term : ℕ) (v : Cast) → b.vote i term ≡ None → Extends i b (voted b i term v)
extends_voted b sound i term v none = record {
  proposals = λ s t e is. is;
  ballots = λ t m is. is;
  votes = vote_stays b i term v none;
  accepted = λ j s t is. is;
  other_disks = λ j apart. refl;
  new_ballots = λ t m is. inl is;
  nexts = λ t m is apart. refl;
}

pub extends_merged : (b : Ballots) (sound : Sound b) (i term : ℕ) (m : Ballot) → m.leader ≡ i → b.ballot term ≡ None → Extends i b (merged b term m)
extends_merged b sound i term m leads none = record {
  proposals = proposal_stays b sound term m none;
  ballots = λ t x is. (ballot_stays b term m none t x is).1;
  votes = λ j t v is. is;
  accepted = λ j s t is. is;
  other_disks = λ j apart. refl;
  new_ballots = λ t x is. elim (put_cases b.ballot term (Some m) t) [
    | inl here ↦ inr (ap (λ y. y.leader) (sym (same_Some m x (sym here.1 ∙ is))) ∙ leads)
    | inr there ↦ inl (sym there.1 ∙ is)
  ];
  nexts = λ t x is apart. cond-false _ _ _ (ne_eqb t term (ballot_stays b term m none t x is).0);
}

pub extends_proposed : (b : Ballots) (sound : Sound b) (i term : ℕ) (m : Ballot) (e : Entry) → m.leader ≡ i → b.ballot term ≡ Some m → e.slot ≡ b.next term → Extends i b (proposed b term e)
extends_proposed b sound i term m e leads is_merge in_slot = record {
  proposals = proposals_stay b sound term e in_slot;
  ballots = λ t x is. is;
  votes = λ j t v is. is;
  accepted = λ j s t is. is;
  other_disks = λ j apart. refl;
  new_ballots = λ t x is. inl is;
  nexts = λ t x is apart. elim (put_cases b.next term (suc e.slot) t) [
    | inl here ↦ absurd (apart (ap (λ y. y.leader) (same_Some x m (sym is ∙ ap b.ballot here.0 ∙ is_merge)) ∙ leads))
    | inr there ↦ there.1
  ];
}

-- what is accepted after a growth was, or is on the disk
pub grown_accepted : (b : Ballots) (i : ℕ) (after : Durable) (j slot term : ℕ) → (grown b i after).accepted j slot term ≡ true → (b.accepted j slot term ≡ true) ⊎ ((j ≡ i) × (holds after slot term ≡ true))
grown_accepted b i after j slot term =
    by_test (j == i) (λ c. cond c (λ s t. b.accepted i s t || holds after s t) (b.accepted j) slot term ≡ true → (b.accepted j slot term ≡ true) ⊎ ((j ≡ i) × (holds after slot term ≡ true)))
    (λ same is. elim (or_cases _ _ is) [
      | inl old ↦ inl (ap (λ k. b.accepted k slot term) (eqb-true j i same) ∙ old)
      | inr new ↦ inr (eqb-true j i same, new)
    ])
    (λ _ is. inl is)
