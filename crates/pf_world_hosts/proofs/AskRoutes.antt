-- Which groups have the asks for chunks, when one begins to move and when it has moved.
use Rattle.std.proofs.Common.{◌≡◌, ◌≢◌, ◌⊎◌, ℕ, ◌+◌, ◌<◌, ◌≤◌, if◌then◌else◌, IfSome, List, length, Option, Some, None, slice_get, inl, inr, refl, sym, ap, subst, ◌∙◌, arith}
use Rattle.std.proofs.lemmas.Bool.{cases_eq, eq-eqb, ne_eqb}
use Rattle.std.proofs.lemmas.Option.{same_Some}
use Rattle.std.specs.Option.{option_map}
use Rattle.pf_entry.proofs.Lists.{set_there}
use Rattle.pf_mount_host.specs.pf_group_network.proofs.Lists.{set_elsewhere, set_length, something_there}
use Rattle.pf_move.specs.declared.routes.Moving.{Moving}
use Rattle.pf_move.specs.declared.routes.Route.{Route}
use Rattle.pf_move.specs.Routes.{AreRouted, Between, RoutesIs, between, between_in, group_routed, home_in, home_of_chunk, risen, routes_switched, switched_in, switched_to}

-- The chunk has moved: it is where it was

switched_one : (routes : List Route) (moving : Moving) (was : Route) → slice_get routes moving.chunk ≡ Some was → (chunk : ℕ)
    → group_routed (switched_to routes moving (Some was)) chunk ≡ home_in routes (Some moving) chunk
switched_one routes moving was there chunk = elim (cases_eq moving.chunk chunk) [
  | inl same ↦
      ap (λ c. group_routed (switched_to routes moving (Some was)) c) (sym same)
      ∙ ap (option_map (λ (r : Route). r.group)) (set_there routes moving.chunk was (record { group = moving.to; epoch = risen was.epoch }) there)
      ∙ ap (λ b. if b then Some moving.to else group_routed routes chunk) (sym (eq-eqb moving.chunk chunk same))
  | inr other ↦
      ap (option_map (λ (r : Route). r.group)) (set_elsewhere routes moving.chunk chunk (record { group = moving.to; epoch = risen was.epoch }) (λ e. other (sym e)))
      ∙ ap (λ b. if b then Some moving.to else group_routed routes chunk) (sym (ne_eqb moving.chunk chunk other))
]

home_in_switched : (r : RoutesIs) (moving : Option Moving) → r.moving ≡ moving → IfSome moving (λ m. m.chunk < length r.routes) → (chunk : ℕ) → home_of_chunk (switched_in r moving) chunk ≡ home_in r.routes moving chunk
home_in_switched r None none low chunk = ap (λ (m : Option Moving). home_in r.routes m chunk) none
home_in_switched r (Some moving) some low chunk =
    let was = something_there r.routes moving.chunk low in
    ap (λ (o : Option Route). group_routed (switched_to r.routes moving o) chunk) was.1 ∙ switched_one r.routes moving was.0 was.1 chunk

pub home_switched : (r : RoutesIs) → IfSome r.moving (λ m. m.chunk < length r.routes) → (chunk : ℕ) → home_of_chunk (routes_switched r) chunk ≡ home_of_chunk r chunk
home_switched r low chunk = home_in_switched r r.moving refl low chunk

switched_length : (routes : List Route) (moving : Moving) (was : Option Route) → length (switched_to routes moving was) ≡ length routes
switched_length routes moving None = refl
switched_length routes moving (Some was) = set_length routes moving.chunk (record { group = moving.to; epoch = risen was.epoch })

count_switched : (r : RoutesIs) (moving : Option Moving) → length (switched_in r moving).routes ≡ length r.routes
count_switched r None = refl
count_switched r (Some moving) = switched_length r.routes moving (slice_get r.routes moving.chunk)

pub length_switched : (r : RoutesIs) → length (routes_switched r).routes ≡ length r.routes
length_switched r = count_switched r r.moving

none_in : (r : RoutesIs) (moving : Option Moving) → r.moving ≡ moving → (switched_in r moving).moving ≡ None
none_in r None none = none
none_in r (Some moving) some = refl

-- and no chunk is moving
pub none_moving : (r : RoutesIs) → (routes_switched r).moving ≡ None
none_moving r = none_in r r.moving refl

pub routed_switched : (groups : ℕ) (r : RoutesIs) → AreRouted groups r → AreRouted groups (routes_switched r)
routed_switched groups r is =
    let home = home_switched r is.moving in
    let none = none_moving r in
    let after = λ (m : Option Moving). between_in (routes_switched r).routes m in record {
      chunks = subst (λ n. n ≤ 8) (sym (length_switched r)) is.chunks;
      within = λ chunk group at. is.within chunk group (sym (home chunk) ∙ at);
      apart = λ chunk other group at to. is.apart chunk other group (sym (home chunk) ∙ at) (sym (home other) ∙ to);
      moving = subst (λ (m : Option Moving). IfSome m (λ moving. moving.chunk < length (routes_switched r).routes)) (sym none) tt;
      old = subst (λ (m : Option Moving). IfSome (after m) (λ b. (b.from < groups) × (b.from < b.to))) (sym none) tt;
      old_alone = λ chunk. subst (λ (m : Option Moving). IfSome (after m) (λ b. home_of_chunk (routes_switched r) chunk ≡ Some b.from → ⊥)) (sym none) tt;
    }

-- the chunk that is moving has its asks at its new group
pub home_of_moving : (r : RoutesIs) (moving : Moving) → r.moving ≡ Some moving → home_of_chunk r moving.chunk ≡ Some moving.to
home_of_moving r moving at =
    ap (λ (m : Option Moving). home_in r.routes m moving.chunk) at
    ∙ ap (λ b. if b then Some moving.to else group_routed r.routes moving.chunk) (eq-eqb moving.chunk moving.chunk refl)

-- A chunk begins to move

abbrev pub moving_to : RoutesIs → (chunk to : ℕ) → RoutesIs
moving_to r chunk to = record r { moving = Some (record { chunk = chunk; to = to }) }

module _ (r : RoutesIs) (none : r.moving ≡ None) (chunk to : ℕ) where
  -- no chunk was moving: each was at home where it was served
  pub served_at_home : (c : ℕ) → home_of_chunk r c ≡ group_routed r.routes c
  served_at_home c = ap (λ (m : Option Moving). home_in r.routes m c) none

  -- it has a new home
  pub home_moved : home_of_chunk (moving_to r chunk to) chunk ≡ Some to
  home_moved = ap (λ b. if b then Some to else group_routed r.routes chunk) (eq-eqb chunk chunk refl)

  -- and the others their old ones
  pub home_stays : (c : ℕ) → c ≢ chunk → home_of_chunk (moving_to r chunk to) c ≡ home_of_chunk r c
  home_stays c other = ap (λ b. if b then Some to else group_routed r.routes c) (ne_eqb chunk c (λ e. other (sym e))) ∙ sym (served_at_home c)

  module _ (home : ℕ) (at_home : home_of_chunk r chunk ≡ Some home) where
    pub between_groups : between (moving_to r chunk to) ≡ Some (record { from = home; to = to })
    between_groups = ap (option_map (λ group. record { from = group; to = to })) (sym (served_at_home chunk) ∙ at_home)

    -- the new group has the next number
    module _ (low : chunk < length r.routes) (is : AreRouted to r) where
      home_cases : (c group : ℕ) → home_of_chunk (moving_to r chunk to) c ≡ Some group → ((c ≡ chunk) × (group ≡ to)) ⊎ ((c ≢ chunk) × (home_of_chunk r c ≡ Some group))
      home_cases c group at = elim (cases_eq c chunk) [
        | inl same ↦ inl (same, sym (same_Some to group (sym home_moved ∙ ap (home_of_chunk (moving_to r chunk to)) (sym same) ∙ at)))
        | inr other ↦ inr (other, sym (home_stays c other) ∙ at)
      ]

      within_more : (c group : ℕ) → home_of_chunk (moving_to r chunk to) c ≡ Some group → group < to + 1
      within_more c group at = elim (home_cases c group at) [
        | inl it ↦ omega (arith, it.1)
        | inr other ↦ omega (arith, is.within c group other.1)
      ]

      apart_still : (c d group : ℕ) → home_of_chunk (moving_to r chunk to) c ≡ Some group → home_of_chunk (moving_to r chunk to) d ≡ Some group → c ≡ d
      apart_still c d group at to_it = elim (home_cases c group at) [
        | inl it ↦ elim (home_cases d group to_it) [
          | inl same ↦ it.0 ∙ sym same.0
          | inr other ↦ absurd (omega (arith, it.1, is.within d group other.1))
        ]
        | inr it ↦ elim (home_cases d group to_it) [
          | inl same ↦ absurd (omega (arith, same.1, is.within c group it.1))
          | inr other ↦ is.apart c d group it.1 other.1
        ]
      ]

      -- no chunk has its asks at the old group any more
      alone : (c : ℕ) → home_of_chunk (moving_to r chunk to) c ≡ Some home → ⊥
      alone c at = elim (home_cases c home at) [
        | inl it ↦ absurd (omega (arith, it.1, is.within chunk home at_home))
        | inr other ↦ other.0 (is.apart c chunk home other.1 at_home)
      ]

      pub routed_begun : AreRouted (to + 1) (moving_to r chunk to)
      routed_begun =
          let under : home < to = is.within chunk home at_home in record {
            chunks = is.chunks;
            within = within_more;
            apart = apart_still;
            moving = low;
            old = subst (λ (b : Option Between). IfSome b (λ b. (b.from < to + 1) × (b.from < b.to))) (sym between_groups) (omega (arith, under), under);
            old_alone = λ c. subst (λ (b : Option Between). IfSome b (λ b. home_of_chunk (moving_to r chunk to) c ≡ Some b.from → ⊥)) (sym between_groups) (alone c);
          }
