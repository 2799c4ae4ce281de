-- A new group stands for the opening state.
use Rattle.std.proofs.Common.{◌≡◌, ℕ, zero, suc, ◌≤◌, ◌⊎◌, inl, inr, Bool, true, false, ◌==◌, if◌then◌else◌, List, [], ◌∷◌, ◌++◌, length, Some, slice_get, vec_capacity, arith, refl, sym, ap, subst, ◌∙◌}
use Rattle.std.specs.List.{list_any}
use Rattle.std.proofs.lemmas.Bool.{false≢true}
use Rattle.std.proofs.lemmas.Option.{same_Some}
use Rattle.pf_entry.specs.Lists.{Every}
use Rattle.pf_entry.specs.Tables.{ascends}
use Rattle.pf_entry.proofs.Lists.{every_append}
use Rattle.pf_protocol.specs.declared.answers.Answer.{Answer}
use Rattle.pf_protocol.specs.declared.answers.Answer.TheVariants.{Done, Refused}
use Rattle.pf_protocol.specs.declared.answers.Refusal.TheVariants.{Halted}
use Rattle.pf_protocol.specs.Servers.{Setup, Running as RunningIs, Unformatted as UnformattedIs}
use Rattle.pf_protocol.specs.Groups.{opening, unless_failed}
use Rattle.pf_server_store.specs.Stores.{StoreModel}
use Rattle.pf_server_restart.specs.declared.seat.Seat.{Seat}
use Rattle.pf_group_network.specs.pf_server.specs.declared.server.Server.{Server}
use Rattle.pf_group_network.specs.pf_server.specs.declared.state.State.TheVariants.{Unformatted}
use Rattle.pf_group_network.specs.pf_server.specs.Conditions.{Meets}
use Rattle.pf_disk_store.specs.declared.kept.Kept.{Kept}
use Rattle.pf_server_format.specs.Opening.{head_of, opening_server, seat_in}
use Rattle.pf_server_format.specs.Rooms.{ServerPlace}
use Rattle.pf_server_format.proofs.OpeningState.{opening_at}
use Rattle.pf_group_network.specs.declared.network.Network.{Network}
use Rattle.pf_group_network.specs.Showing.{AreMembers, AreReadings, IsMember, Shows, seat_of}
use Rattle.pf_group.specs.Halves.{AreLater}
use Rattle.pf_group.specs.Inside.{HaveHeads}
use Rattle.pf_group.specs.Rooms.{halted_of, picked, place_at}

-- the servers whose making was halted
abbrev pub all_picked : (a b c : Bool) → List ℕ
all_picked a b c = (([] ++ picked a 0) ++ picked b 1) ++ picked c 2

pub picked_0 : (a b c : Bool) → list_any (λ j. j == 0) (all_picked a b c) ≡ a
picked_0 true true true = refl
picked_0 true true false = refl
picked_0 true false true = refl
picked_0 true false false = refl
picked_0 false true true = refl
picked_0 false true false = refl
picked_0 false false true = refl
picked_0 false false false = refl

pub picked_1 : (a b c : Bool) → list_any (λ j. j == 1) (all_picked a b c) ≡ b
picked_1 true true true = refl
picked_1 true true false = refl
picked_1 true false true = refl
picked_1 true false false = refl
picked_1 false true true = refl
picked_1 false true false = refl
picked_1 false false true = refl
picked_1 false false false = refl

pub picked_2 : (a b c : Bool) → list_any (λ j. j == 2) (all_picked a b c) ≡ c
picked_2 true true true = refl
picked_2 true true false = refl
picked_2 true false true = refl
picked_2 true false false = refl
picked_2 false true true = refl
picked_2 false true false = refl
picked_2 false false true = refl
picked_2 false false false = refl

pub picks_ascend : (a b c : Bool) → ascends (all_picked a b c) ≡ true
picks_ascend true true true = refl
picks_ascend true true false = refl
picks_ascend true false true = refl
picks_ascend true false false = refl
picks_ascend false true true = refl
picks_ascend false true false = refl
picks_ascend false false true = refl
picks_ascend false false false = refl

one_picked : (P : ℕ → Type 0) (b : Bool) (i : ℕ) → (b ≡ true → P i) → Every P (picked b i)
one_picked P true i has = (has refl, tt)
one_picked P false i has = tt

pub every_picked : (P : ℕ → Type 0) (a b c : Bool) → (a ≡ true → P 0) → (b ≡ true → P 1) → (c ≡ true → P 2) → Every P (all_picked a b c)
every_picked P a b c p q r = every_append P ([] ++ picked a 0 ++ picked b 1) (picked c 2) (every_append P ([] ++ picked a 0) (picked b 1) (one_picked P a 0 p) (one_picked P b 1 q)) (one_picked P c 2 r)

module _ {S : Type 0} (model : StoreModel S) (setup : Setup) where
  -- a server that was opened, or whose disks failed, is as it is in the opening state
  pub opened_member : (i : ℕ) (server : Server S) (answer : Answer) → list_any (λ j. j == i) setup.failed ≡ halted_of answer → (answer ≡ Done) ⊎ (answer ≡ Refused Halted)
      → (answer ≡ Done → Meets model server.seat server.store server.state (RunningIs (opening_server setup i))) → (answer ≡ Refused Halted → server.state ≡ Unformatted) → server.seat ≡ seat_of setup i
      → IsMember model setup i server (unless_failed setup i (opening_server setup i))
  opened_member i server answer failed outcome opened halted seat = elim outcome [
    | inl done ↦ subst (IsMember model setup i server) (sym (ap (λ b. if b then UnformattedIs else RunningIs (opening_server setup i)) (failed ∙ ap halted_of done)))
        (record { seat = seat; meets = opened done })
    | inr stopped ↦ subst (IsMember model setup i server) (sym (ap (λ b. if b then UnformattedIs else RunningIs (opening_server setup i)) (failed ∙ ap halted_of stopped)))
        (record { seat = seat; meets = subst (λ s. Meets model server.seat server.store s UnformattedIs) (sym (halted stopped)) tt })
  ]

  pub opened_members : (zero one two : Server S) → IsMember model setup 0 zero (unless_failed setup 0 (opening_server setup 0)) → IsMember model setup 1 one (unless_failed setup 1 (opening_server setup 1)) → IsMember model setup 2 two (unless_failed setup 2 (opening_server setup 2))
      → AreMembers model setup (zero ∷ one ∷ two ∷ []) (opening setup).servers
  opened_members z o t first second third = members
    where
      members : AreMembers model setup (z ∷ o ∷ t ∷ []) (opening setup).servers
      members zero server at = (unless_failed setup 0 (opening_server setup 0), opening_at setup 0 (omega arith), subst (λ (s : Server S). IsMember model setup 0 s (unless_failed setup 0 (opening_server setup 0))) (same_Some z server at) first)
      members (suc zero) server at = (unless_failed setup 1 (opening_server setup 1), opening_at setup 1 (omega arith), subst (λ (s : Server S). IsMember model setup 1 s (unless_failed setup 1 (opening_server setup 1))) (same_Some o server at) second)
      members (suc (suc zero)) server at = (unless_failed setup 2 (opening_server setup 2), opening_at setup 2 (omega arith), subst (λ (s : Server S). IsMember model setup 2 s (unless_failed setup 2 (opening_server setup 2))) (same_Some t server at) third)
      members (suc (suc (suc i))) server at = absurd (grind (arith, at))

  pub shows_opening : (network : Network S) (zero one two : Server S) → network.servers.items ≡ zero ∷ one ∷ two ∷ [] → AreMembers model setup (zero ∷ one ∷ two ∷ []) (opening setup).servers
      → network.packets.items ≡ [] → 65536 ≤ vec_capacity network.packets → network.byte_room ≡ 134217728 → network.acked.list.items ≡ [] → network.readings.items ≡ [] → network.elections ≡ 0 → Shows model setup network (opening setup)
  unfolding opening
  shows_opening network z o t servers members packets places bytes acked readings elections = record {
    three = ap length servers;
    members = subst (λ xs. AreMembers model setup xs (opening setup).servers) (sym servers) members;
    traffic = record {
      packets = packets;
      places = places;
      room = omega (arith, bytes);
      acked = acked;
      elections = elections;
      readings = subst (AreReadings []) (sym readings) none_there;
    };
    reads = ap length readings;
  }
    where
      none_there : AreReadings [] []
      none_there number reading at = absurd (grind (arith, at))

  -- a server that was made in its place
  pub opened_there : (i : ℕ) (place : ServerPlace) → place.seat ≡ seat_of setup i → (server : Server S) (answer : Answer) → list_any (λ j. j == i) setup.failed ≡ halted_of answer → (answer ≡ Done) ⊎ (answer ≡ Refused Halted)
      → (answer ≡ Done → (made : Setup) → place.seat ≡ seat_in made place.seat.number → Meets model server.seat server.store server.state (RunningIs (opening_server made place.seat.number))) → (answer ≡ Refused Halted → server.state ≡ Unformatted) → server.seat ≡ place.seat
      → IsMember model setup i server (unless_failed setup i (opening_server setup i))
  opened_there i place is server answer failed outcome opened halted seat =
      opened_member i server answer failed outcome (λ done. subst (λ n. Meets model server.seat server.store server.state (RunningIs (opening_server setup n))) (ap (λ (s : Seat). s.number) is)
      (opened done setup (subst (λ (s : Seat). s ≡ seat_in setup s.number) (sym is) refl))) halted (seat ∙ is)

pub was_halted : (answer : Answer) → (answer ≡ Done) ⊎ (answer ≡ Refused Halted) → halted_of answer ≡ true → answer ≡ Refused Halted
was_halted answer outcome is = elim outcome [ inl done ↦ absurd (false≢true (sym (ap halted_of done) ∙ is)) | inr halted ↦ halted ]

-- the counts of three servers are later where those of each are
pub three_later : (a b c x y z : ℕ × ℕ) → (a.0 ≤ x.0) × (a.1 ≤ x.1) → (b.0 ≤ y.0) × (b.1 ≤ y.1) → (c.0 ≤ z.0) × (c.1 ≤ z.1) → AreLater (a ∷ b ∷ c ∷ []) (x ∷ y ∷ z ∷ [])
three_later a b c x y z first second third = record { servers = refl; each = each }
  where
    as_given : (a x was is : ℕ × ℕ) → Some a ≡ Some was → Some x ≡ Some is → (a.0 ≤ x.0) × (a.1 ≤ x.1) → (was.0 ≤ is.0) × (was.1 ≤ is.1)
    as_given a x was is was_there is_there le = subst (λ p. (was.0 ≤ p.0) × (was.1 ≤ p.1)) (same_Some x is is_there) (subst (λ p. (p.0 ≤ x.0) × (p.1 ≤ x.1)) (same_Some a was was_there) le)

    each : (i : ℕ) (was is : ℕ × ℕ) → slice_get (a ∷ b ∷ c ∷ []) i ≡ Some was → slice_get (x ∷ y ∷ z ∷ []) i ≡ Some is → (was.0 ≤ is.0) × (was.1 ≤ is.1)
    each zero was is was_there is_there = as_given a x was is was_there is_there first
    each (suc zero) was is was_there is_there = as_given b y was is was_there is_there second
    each (suc (suc zero)) was is was_there is_there = as_given c z was is was_there is_there third
    each (suc (suc (suc i))) was is was_there is_there = absurd (grind (arith, was_there))

-- a server that was opened in its place has its own head
pub own_head : (number sectors names format i : ℕ) (place : ServerPlace) → place ≡ place_at number sectors names format i → (seat : Seat) (head : List ℕ) → seat ≡ place.seat → head ≡ head_of place.group place.seat → head ≡ head_of number seat
own_head number sectors names format i place is seat head seat_is head_is = head_is ∙ ap (λ (p : ServerPlace). head_of p.group place.seat) is ∙ ap (head_of number) (sym seat_is)

-- three servers, of which each has its own
pub three_heads : {D : Type 0} → (number : ℕ) (network : Network (Kept D)) (zero one two : Server (Kept D)) → network.servers.items ≡ zero ∷ one ∷ two ∷ [] → zero.store.pair.head ≡ head_of number zero.seat → one.store.pair.head ≡ head_of number one.seat
    → two.store.pair.head ≡ head_of number two.seat → HaveHeads number network
three_heads {D = D} number network a b c servers first second third = λ i server at. each i server (sym (ap (λ xs. slice_get xs i) servers) ∙ at)
  where
    each : (i : ℕ) (server : Server (Kept D)) → slice_get (a ∷ b ∷ c ∷ []) i ≡ Some server → server.store.pair.head ≡ head_of number server.seat
    each zero server at = subst (λ (s : Server (Kept D)). s.store.pair.head ≡ head_of number s.seat) (same_Some a server at) first
    each (suc zero) server at = subst (λ (s : Server (Kept D)). s.store.pair.head ≡ head_of number s.seat) (same_Some b server at) second
    each (suc (suc zero)) server at = subst (λ (s : Server (Kept D)). s.store.pair.head ≡ head_of number s.seat) (same_Some c server at) third
    each (suc (suc (suc i))) server at = absurd (grind (arith, at))
