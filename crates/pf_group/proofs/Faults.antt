-- The counts of the disks of a group.
use Rattle.std.proofs.Common.{◌≡◌, ◌≢◌, ◌⊎◌, inl, inr, ℕ, suc, ◌≤◌, ◌<◌, Bool, List, [], ◌∷◌, length, Option, Some, None, option_map, slice_get, arith, refl, sym, ap, subst, ◌∙◌}
use Rattle.std.proofs.lemmas.Bool.{cases_eq}
use Rattle.std.proofs.lemmas.List.{length-map}
use Rattle.std.proofs.lemmas.Option.{none-some, same_Some, slice_get-map, slice_get_within}
use Rattle.pf_disk.specs.Crashes.{Images}
use Rattle.pf_entry.specs.Records.{Durable}
use Rattle.pf_protocol.specs.Groups.{Group}
use Rattle.pf_protocol.specs.Servers.{Setup}
use Rattle.pf_disk_store.specs.declared.kept.Kept.{Kept}
use Rattle.pf_disk_store.specs.Faults.{faults_of}
use Rattle.pf_group_network.specs.pf_server.specs.declared.server.Server.{Server}
use Rattle.pf_group_network.specs.declared.network.Network.{Network}
use Rattle.pf_group_network.specs.Going.{KeepsOthers, HasFault, Passes, Touches, WasTouched, store_at}
use Rattle.pf_group_network.specs.Showing.{Shows}
use Rattle.pf_group_network.proofs.Lists.{something_there}
use Rattle.pf_server_format.specs.Opening.{head_of}
use Rattle.pf_disk_store.specs.Model.{kept_model}
use Rattle.pf_group.specs.Halves.{AreLater, HasRisen, all_counts, rose_in, was_in}
use Rattle.pf_group.specs.Inside.{HaveHeads}

-- lists with the same elements
pub same_gets : {X : Type 0} → (xs ys : List X) → ((k : ℕ) → slice_get xs k ≡ slice_get ys k) → xs ≡ ys
same_gets [] [] same = refl
same_gets [] (y ∷ ys) same = absurd (none-some y (same 0))
same_gets (x ∷ xs) [] same = absurd (none-some x (sym (same 0)))
same_gets (x ∷ xs) (y ∷ ys) same = ap (λ z. z ∷ xs) (same_Some x y (same 0)) ∙ ap (λ zs. y ∷ zs) (same_gets xs ys (λ k. same (suc k)))

-- counts that are the same
pub later_same : (counts : List (ℕ × ℕ)) → AreLater counts counts
later_same counts = record { servers = refl; each = λ i was is was_there is_there. subst (λ (p : ℕ × ℕ). (was.0 ≤ p.0) × (was.1 ≤ p.1)) (same_Some was is (sym was_there ∙ is_there)) (omega arith, omega arith) }

-- an event takes place at this server, or does not
pub at_own : (own : Option ℕ) (i : ℕ) → (own ≡ Some i) ⊎ (own ≢ Some i)
at_own None i = inr (none-some i)
at_own (Some j) i = elim (cases_eq j i) [ inl is ↦ inl (ap Some is) | inr apart ↦ inr (λ same. apart (same_Some j i same)) ]

pub some_mapped : {X Y : Type 0} → (f : X → Y) (o : Option X) (y : Y) → option_map f o ≡ Some y → (x : X) × (o ≡ Some x) × (f x ≡ y)
some_mapped f None y is = absurd (none-some y is)
some_mapped f (Some x) y is = (x, refl, same_Some (f x) y is)

module _ {D : Type 0} (faults : D → ℕ) where
  -- the counts of one server are those of its store
  counts_at : (network : Network (Kept D)) (i : ℕ) → slice_get (all_counts faults network) i ≡ option_map (faults_of faults) (store_at network i)
  counts_at network i = slice_get-map (λ (s : Server (Kept D)). faults_of faults s.store) network.servers.items i ∙ both (slice_get network.servers.items i)
    where
      both : (o : Option (Server (Kept D))) → option_map (λ (s : Server (Kept D)). faults_of faults s.store) o ≡ option_map (faults_of faults) (option_map (λ (s : Server (Kept D)). s.store) o)
      both None = refl
      both (Some s) = refl

  pub faults_at : (network : Network (Kept D)) (i : ℕ) (server : Server (Kept D)) → slice_get network.servers.items i ≡ Some server → slice_get (all_counts faults network) i ≡ Some (faults_of faults server.store)
  faults_at network i server there = slice_get-map (λ (s : Server (Kept D)). faults_of faults s.store) network.servers.items i ∙ ap (option_map (λ (s : Server (Kept D)). faults_of faults s.store)) there

  -- a store whose count rose
  pub has_risen : (old new : Network (Kept D)) (i : ℕ) → HasFault (rose_in faults) i old new → HasRisen i (all_counts faults old) (all_counts faults new)
  has_risen old new i fault = record {
    was = faults_of faults fault.before.store;
    is = faults_of faults fault.after.store;
    then_is = faults_at old i fault.before fault.was;
    now_is = faults_at new i fault.after fault.is;
    risen = fault.risen;
  }

  -- the counts of stores that were not touched
  pub others_same : (own : Option ℕ) (old new : Network (Kept D)) → KeepsOthers own old new → (j : ℕ) → own ≢ Some j → slice_get (all_counts faults new) j ≡ slice_get (all_counts faults old) j
  others_same own old new keeps j apart = counts_at new j ∙ ap (option_map (faults_of faults)) (keeps j apart) ∙ sym (counts_at old j)

  pub all_same : (old new : Network (Kept D)) → KeepsOthers None old new → all_counts faults new ≡ all_counts faults old
  all_same old new keeps = same_gets _ _ (λ k. others_same None old new keeps k (λ is. none-some k is))

  -- a restart looks for the same head, and no count fell
  record GoesOn (old new : Kept D) : Type 0 where
    head : new.pair.head ≡ old.pair.head
    half_0 : faults old.pair.zero.disk ≤ faults new.pair.zero.disk
    half_1 : faults old.pair.one.disk ≤ faults new.pair.one.disk

  stays : (old new : Kept D) → new ≡ old → GoesOn old new
  stays old new is = subst (GoesOn old) (sym is) (record { head = refl; half_0 = omega arith; half_1 = omega arith })

module _ {D : Type 0} (seen : D → Option (List ℕ)) (may_leave : D → Images) (faults moment : D → ℕ) (left_since : D → ℕ → Images) (tells_moments : Bool) (before after : Group) where
  abbrev Was : Kept D → Kept D → Durable → Durable → Type 0
  Was = was_in seen faults moment left_since tells_moments

  passed : (i : ℕ) (old new : Kept D) → (new ≡ old) ⊎ Passes Was before after i old new → GoesOn faults old new
  passed i old new went = elim went [
    | inl same ↦ stays faults old new same
    | inr passes ↦ record { head = passes.left.head; half_0 = passes.left.later.zero; half_1 = passes.left.later.one }
  ]

  touched : (i : ℕ) (old new : Kept D) → WasTouched Was before after i old new → GoesOn faults old new
  touched i old new was =
      let first = passed i old was.between was.first in
      let second = passed i was.between new was.second in
      record { head = second.head ∙ first.head; half_0 = omega (arith, first.half_0, second.half_0); half_1 = omega (arith, first.half_1, second.half_1) }

  module _ (setup : Setup) (own : Option ℕ) (old new : Network (Kept D)) (shown : Shows (kept_model seen may_leave faults moment left_since tells_moments) setup old before) (shows : Shows (kept_model seen may_leave faults moment left_since tells_moments) setup new after) (crash : Touches Was before after own old new) (others : KeepsOthers own old new) where
    goes_on : (i : ℕ) (server next : Server (Kept D)) → slice_get old.servers.items i ≡ Some server → slice_get new.servers.items i ≡ Some next → GoesOn faults server.store next.store
    goes_on i server next there now = elim (at_own own i) [
      | inl is ↦ touched i server.store next.store (crash i server next is there now)
      | inr apart ↦ stays faults server.store next.store (same_Some next.store server.store (sym (ap (option_map (λ (s : Server (Kept D)). s.store)) now) ∙ others i apart ∙ ap (option_map (λ (s : Server (Kept D)). s.store)) there))
    ]

    -- no count fell
    pub all_later : AreLater (all_counts faults old) (all_counts faults new)
    all_later = record {
      servers = length-map new.servers.items counts ∙ shows.three ∙ sym (length-map old.servers.items counts ∙ shown.three);
      each = λ i was is was_there is_there.
          let a = some_mapped counts (slice_get old.servers.items i) was (sym (slice_get-map counts old.servers.items i) ∙ was_there) in
          let b = some_mapped counts (slice_get new.servers.items i) is (sym (slice_get-map counts new.servers.items i) ∙ is_there) in
          let went = goes_on i a.0 b.0 a.1 b.1 in
          subst (λ (p : ℕ × ℕ). (p.0 ≤ is.0) × (p.1 ≤ is.1)) a.2 (subst (λ (p : ℕ × ℕ). ((counts a.0).0 ≤ p.0) × ((counts a.0).1 ≤ p.1)) b.2 (went.half_0, went.half_1));
    }
      where
        counts : Server (Kept D) → ℕ × ℕ
        counts server = faults_of faults server.store

    -- each server still has its own head
    pub heads_kept : (number : ℕ) → HaveHeads number old → HaveHeads number new
    heads_kept number heads i next now =
        let within : i < length old.servers.items = omega (arith, slice_get_within new.servers.items i next now, shown.three, shows.three) in
        let there = something_there old.servers.items i within in
        (goes_on i there.0 next there.1 now).head ∙ heads i there.0 there.1
        ∙ ap (head_of number) ((shown.members i there.0 there.1).2.seat ∙ sym (shows.members i next now).2.seat)
