-- The routes of a new volume.
use Rattle.std.proofs.Common.{◌≡◌, ℕ, zero, suc, ◌+◌, ◌<◌, if◌then◌else◌, nat_lt, lt-ltb, List, [], ◌∷◌, length, map, Option, Some, None, slice_get, arith, refl, sym, ap, subst, ◌∙◌}
use Rattle.std.specs.List.{range_with_len}
use Rattle.std.specs.Option.{option_map}
use Rattle.std.proofs.lemmas.Bool.{ltb-true}
use Rattle.std.proofs.lemmas.List.{length-map}
use Rattle.std.proofs.lemmas.List.FromFn.{length-range_with_len}
use Rattle.std.proofs.lemmas.Option.{none-some, same_Some, slice_get_within}
use Rattle.pf_entry.proofs.Cases.{by_test}
use Rattle.pf_law_movers.specs.pf_group_network.proofs.Lists.{something_there}
use Rattle.pf_move.specs.declared.routes.Route.{Route}
use Rattle.pf_move.specs.Routes.{RoutesIs}
use Rattle.pf_world.specs.pf_group_rounds.specs.Chunks.{made_chunk}
use Rattle.pf_world.specs.pf_group_rounds.specs.Halts.{Halt}
use Rattle.pf_world.specs.pf_chunk.specs.Runs.{ChunkRun, new_run}
use Rattle.pf_world.specs.pf_live_session.specs.Sessions.{Session}
use Rattle.pf_world.specs.Worlds.{first_routes, volume_made}
use Rattle.pf_law_movers.specs.Pasts.{first_chunk}
use Rattle.pf_law_movers.proofs.ToldRoutes.{AreRoutes, IsHome}

-- each chunk is served by the group of its own number
module _ (count : ℕ) where
  abbrev first_of : ℕ → Route
  first_of k = record { group = k; epoch = 0 }

  abbrev firsts : RoutesIs
  firsts = first_routes count

  counted : length firsts.routes ≡ count
  counted = length-map (range_with_len 0 count) first_of ∙ length-range_with_len 0 count

  first_route : (n first k : ℕ) (route : Route) → slice_get (map first_of (range_with_len first n)) k ≡ Some route → first_of (first + k) ≡ route
  first_route zero first k route is = absurd (none-some route is)
  first_route (suc n) first zero route is = let same : first + 0 ≡ first = omega arith in ap first_of same ∙ same_Some (first_of first) route is
  first_route (suc n) first (suc k) route is = let same : first + suc k ≡ first + 1 + k = omega arith in ap first_of same ∙ first_route n (first + 1) k route is

  own : (chunk : ℕ) (route : Route) → slice_get firsts.routes chunk ≡ Some route → (route.group ≡ chunk) × (chunk < count)
  own chunk route there =
      let low = slice_get_within firsts.routes chunk route there in
      let same : 0 + chunk ≡ chunk = omega arith in
      (ap (λ (x : Route). x.group) (sym (first_route count 0 chunk route there)) ∙ same, omega (arith, low, counted))

  first_has : (k chunk : ℕ) → first_chunk count k ≡ Some chunk → (k ≡ chunk) × (k < count)
  first_has k chunk is = by_test (nat_lt k count) (λ b. nat_lt k count ≡ b → (if b then Some k else None) ≡ Some chunk → (k ≡ chunk) × (k < count))
      (λ _ low same. (same_Some k chunk same, ltb-true k count low)) (λ _ _ none. absurd (none-some chunk none)) refl is

  has_first : (k : ℕ) → k < count → first_chunk count k ≡ Some k
  has_first k low = ap (λ b. if b then Some k else None) (lt-ltb k count low)

  first_home : (chunk : ℕ) (o : Option Route) → slice_get firsts.routes chunk ≡ o → IsHome (first_chunk count) chunk (option_map (λ (x : Route). x.group) o)
  first_home chunk None none = λ j has.
      let is = first_has j chunk has in
      let there = something_there firsts.routes chunk (let low : chunk < count = subst (λ i. i < count) is.0 is.1 in omega (arith, low, counted)) in
      absurd (none-some there.0 (sym none ∙ there.1))
  first_home chunk (Some route) there =
      let is = own chunk route there in record {
        here = ap (first_chunk count) is.0 ∙ has_first chunk is.1;
        alone = λ j has. (first_has j chunk has).0 ∙ sym is.0;
      }

  first_group : (chunk k : ℕ) (o : Option Route) → slice_get firsts.routes chunk ≡ o → option_map (λ (x : Route). x.group) o ≡ Some k → k < count
  first_group chunk k None there is = absurd (none-some k is)
  first_group chunk k (Some route) there is = let its = own chunk route there in subst (λ i. i < count) (sym its.0 ∙ same_Some route.group k is) its.1

  only_first : (chunk epoch group : ℕ) → slice_get (chunk ∷ []) epoch ≡ Some group → group ≡ chunk
  only_first chunk zero group is = sym (same_Some chunk group is)
  only_first chunk (suc epoch) group is = absurd (none-some group is)

  all_first : AreRoutes count count firsts []
  all_first = record {
    count_is = counted;
    made = omega arith;
    homes = λ chunk. first_home chunk (slice_get firsts.routes chunk) refl;
    within = λ chunk k home. first_group chunk k (slice_get firsts.routes chunk) refl home;
    served = λ chunk route there. let is = own chunk route there in (ap (λ i. Some i) (sym is.0), subst (λ i. i < count) (sym is.0) is.1);
    turns = λ chunk low. refl;
    to = λ moving none. absurd (none-some moving none);
    fresh = λ chunk epoch group low at. subst (λ i. i < count) (sym (only_first chunk epoch group at)) low;
  }

pub new_routes : (halts : List Halt) (sessions : List Session) (chunks sectors names format : ℕ) → let v = (volume_made halts sessions chunks sectors names format).volume in AreRoutes chunks (length v.chunks) v.routes []
new_routes halts sessions chunks sectors names format =
    let f : ℕ → ChunkRun = λ k. new_run (made_chunk halts sectors names format k) in
    subst (λ n. AreRoutes chunks n (first_routes chunks) []) (sym (length-map (range_with_len 0 chunks) f ∙ length-range_with_len 0 chunks)) (all_first chunks)
