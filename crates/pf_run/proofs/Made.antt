-- On which disks the groups of a world were made.
use Rattle.std.proofs.Common.{◌≡◌, ◌⊎◌, inl, inr, ℕ, zero, suc, ◌+◌, ◌*◌, ◌-◌, ◌<◌, ◌≤◌, IsTrue, List, [], ◌∷◌, ◌++◌, length, take, drop, Some, flat_map, slice_get, arith, refl, sym, ap, subst, ◌∙◌, append_assoc, length-append, length-drop}
use Rattle.std.proofs.lemmas.Grind.{flat_map-append}
use Rattle.std.proofs.lemmas.List.{length-take-le, take-append-drop, take-append-le, take_all}
use Rattle.std.proofs.lemmas.Option.{slice_get_cases, slice_get_within}
use Rattle.pf_entry.specs.Lists.{Every}
use Rattle.pf_group_network.proofs.Lists.{at_front, something_there}
use Rattle.pf_protocol.specs.Servers.{Setup}
use Rattle.pf_group.specs.declared.six.Six.{Six}
use Rattle.pf_group.specs.Making.{six_faults}
use Rattle.pf_group_rounds.specs.Growing.{HasGrown}
use Rattle.pf_group_rounds.proofs.FaultCounts.{since_grown}
use Rattle.pf_chunk.specs.Views.{ChunkIs}
use Rattle.pf_world.specs.Disks.{six_list}
use Rattle.pf_world.specs.Making.{AreMadeOn, AreNew, HasMadeMore, IsMadeOn}
use Rattle.pf_world.specs.Steps.{WorldGoesOn}
use Rattle.pf_world.specs.Views.{WorldIs, WorldOn}
use Rattle.pf_world.proofs.Sixes.{drop_sixes, length_sixes}

-- a place in two lists
place_cases : {X : Type 0} → (xs ys : List X) (k : ℕ) (x : X) → slice_get (xs ++ ys) k ≡ Some x → (slice_get xs k ≡ Some x) ⊎ ((j : ℕ) × (k ≡ length xs + j) × (slice_get ys j ≡ Some x))
place_cases [] ys k x at = inr (k, omega arith, at)
place_cases (y ∷ xs) ys zero x at = inl at
place_cases (y ∷ xs) ys (suc k) x at = elim (place_cases xs ys k x at) [
  | inl first ↦ inl first
  | inr later ↦ inr (later.0, omega (arith, later.1), later.2)
]

past_front : {X : Type 0} → (xs ys : List X) (j : ℕ) (x : X) → slice_get ys j ≡ Some x → slice_get (xs ++ ys) (length xs + j) ≡ Some x
past_front [] ys j x at = let same : 0 + j ≡ j = omega arith in ap (slice_get ys) same ∙ at
past_front (y ∷ xs) ys j x at = let same : suc (length xs) + j ≡ suc (length xs + j) = omega arith in ap (slice_get (y ∷ (xs ++ ys))) same ∙ past_front xs ys j x at

module _ {D : Type 0} (faults : D → ℕ) where
  -- more happened to the group
  made_grown : (six : Six D) (old new : ChunkIs) → HasGrown old.group new.group → IsMadeOn faults six old → IsMadeOn faults six new
  made_grown six old new grown made = record {
    paid = λ told. let was = subst IsTrue grown.told told in since_grown (six_faults faults six) old.group new.group was (made.paid was) grown;
    few = subst (λ (setup : Setup). Every (λ i. i < 3) setup.failed) (sym grown.setup) made.few;
  }

  pub none_more : (on : WorldOn D) → HasMadeMore faults on on
  none_more on = record { sixes = []; given = refl; count = omega arith; each = λ k six c there. absurd (omega (arith, slice_get_within [] k six there)); numbers = λ k c past there. absurd (omega (arith, past, slice_get_within on.world.chunks k c there)) }

  -- lines one after another
  pub more_after : (a b c : WorldOn D) → HasMadeMore faults a b → HasMadeMore faults b c → WorldGoesOn b.world c.world → HasMadeMore faults a c
  more_after a b c first second grown = record {
    sixes = first.sixes ++ second.sixes;
    given =
        first.given ∙ ap (λ ds. flat_map six_list first.sixes ++ ds) second.given
        ∙ sym (append_assoc (flat_map six_list first.sixes) (flat_map six_list second.sixes) c.spare)
        ∙ ap (λ ds. ds ++ c.spare) (sym (flat_map-append six_list first.sixes second.sixes));
    count = omega (arith, first.count, second.count, length-append first.sixes second.sixes);
    each = λ k six new at there. elim (place_cases first.sixes second.sixes k six at) [
      | inl early ↦
          let low = slice_get_within first.sixes k six early in
          let was = something_there b.world.chunks (length a.world.chunks + k) (omega (arith, low, first.count)) in
          made_grown six was.0 new (grown.grown (length a.world.chunks + k) was.0 new was.1 there) (first.each k six was.0 early was.1)
      | inr late ↦
          let here : length b.world.chunks + late.0 ≡ length a.world.chunks + k = omega (arith, late.1, first.count) in
          second.each late.0 six new late.2 (ap (slice_get c.world.chunks) here ∙ there)
    ];
    numbers = λ k new past there. elim (slice_get_cases b.world.chunks k).1 [
      | inl early ↦ (grown.grown k early.0 new early.2 there).number ∙ first.numbers k early.0 past early.2
      | inr late ↦ second.numbers k new late.0 there
    ];
  }

  -- there were disks for all
  pub have_enough : (disks : List D) (old new : WorldOn D) → 6 * length old.world.chunks ≤ length disks → old.spare ≡ drop (6 * length old.world.chunks) disks → HasMadeMore faults old new → 6 * length new.world.chunks ≤ length disks
  have_enough disks old new enough spare more =
      omega (arith, enough, more.count, ap length spare, length-drop (6 * length old.world.chunks) disks, ap length more.given, length-append (flat_map six_list more.sixes) new.spare, length_sixes more.sixes)

  -- new groups
  pub new_made : (disks : List D) (w : WorldIs) → AreNew faults disks w → AreMadeOn faults disks w.chunks
  new_made disks w fresh = record {
    sixes = fresh.sixes;
    given = fresh.given;
    each = λ k c there. let new = fresh.each k c there in (new.six, new.there, record { paid = λ told. new.paid; few = new.few });
  }

  -- how many disks they have
  sixes_of : (disks : List D) (made : List ChunkIs) → 6 * length made ≤ length disks → (all : AreMadeOn faults disks made) → length all.sixes ≡ length made
  sixes_of disks made enough all = omega (arith, ap length all.given, length-take-le (6 * length made) disks enough, length_sixes all.sixes)

  module _ (disks : List D) (old new : WorldOn D) (enough : 6 * length old.world.chunks ≤ length disks) (made : AreMadeOn faults disks old.world.chunks) (spare : old.spare ≡ drop (6 * length old.world.chunks) disks) (more : HasMadeMore faults old new) where
    disks_are : flat_map six_list (made.sixes ++ more.sixes) ++ new.spare ≡ disks
    disks_are =
        ap (λ ds. ds ++ new.spare) (flat_map-append six_list made.sixes more.sixes) ∙ append_assoc (flat_map six_list made.sixes) (flat_map six_list more.sixes) new.spare
        ∙ ap (λ ds. flat_map six_list made.sixes ++ ds) (sym more.given ∙ spare)
        ∙ ap (λ ds. ds ++ drop (6 * length old.world.chunks) disks) (sym made.given)
        ∙ take-append-drop (6 * length old.world.chunks) disks

    count : length new.world.chunks ≡ length (made.sixes ++ more.sixes)
    count = omega (arith, more.count, sixes_of disks old.world.chunks enough made, length-append made.sixes more.sixes)

    -- the disks that no group has
    pub still_spare : drop (6 * length new.world.chunks) disks ≡ new.spare
    still_spare =
        ap (drop (6 * length new.world.chunks)) (sym disks_are)
        ∙ drop_sixes (made.sixes ++ more.sixes) new.spare (length new.world.chunks) count

    pub more_made : WorldGoesOn old.world new.world → AreMadeOn faults disks new.world.chunks
    more_made grown = record {
      sixes = made.sixes ++ more.sixes;
      given =
          let all = flat_map six_list (made.sixes ++ more.sixes) in
          ap (take (6 * length new.world.chunks)) (sym disks_are)
          ∙ take-append-le (6 * length new.world.chunks) all new.spare (omega (arith, count, length_sixes (made.sixes ++ more.sixes)))
          ∙ take_all (6 * length new.world.chunks) all (omega (arith, count, length_sixes (made.sixes ++ more.sixes)));
      each = λ k c there. elim (slice_get_cases old.world.chunks k).1 [
        | inl first ↦
            let was = made.each k first.0 first.2 in
            (was.0, at_front made.sixes more.sixes k was.0 was.1, made_grown was.0 first.0 c (grown.grown k first.0 c first.2 there) was.2)
        | inr past ↦
            let low = slice_get_within new.world.chunks k c there in
            let j = k - length old.world.chunks in
            let six = something_there more.sixes j (omega (arith, low, past.0, more.count)) in
            let here : length old.world.chunks + j ≡ k = omega (arith, past.0) in
            let place : length made.sixes + j ≡ k = omega (arith, past.0, sixes_of disks old.world.chunks enough made) in
            (six.0, ap (slice_get (made.sixes ++ more.sixes)) (sym place) ∙ past_front made.sixes more.sixes j six.0 six.1, more.each j six.0 c six.1 (ap (slice_get new.world.chunks) here ∙ there))
      ];
    }

    pub numbered : WorldGoesOn old.world new.world → ((k : ℕ) (c : ChunkIs) → slice_get old.world.chunks k ≡ Some c → c.group.number ≡ k) → (k : ℕ) (c : ChunkIs) → slice_get new.world.chunks k ≡ Some c → c.group.number ≡ k
    numbered grown numbers k c there = elim (slice_get_cases old.world.chunks k).1 [
      | inl first ↦ (grown.grown k first.0 c first.2 there).number ∙ numbers k first.0 first.2
      | inr past ↦ more.numbers k c past.0 there
    ]
