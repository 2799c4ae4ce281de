-- A new volume.
use Rattle.std.proofs.Common.{◌≡◌, ℕ, zero, suc, ◌<◌, List, [], Some, slice_get, replicate, arith, refl, sym, ap, ◌∙◌}
use Rattle.std.proofs.lemmas.Option.{none-some, same_Some}
use Rattle.pf_asks.specs.Ports.{new_port}
use Rattle.pf_law_runs.specs.pf_group_network.proofs.Lists.{something_there}
use Rattle.pf_law_runs.specs.pf_law_service.specs.Services.{Service, service_opening}
use Rattle.pf_law_runs.specs.pf_law_service.specs.Served.{Opens}
use Rattle.pf_law_runs.specs.pf_world.specs.pf_group_rounds.specs.Chunks.{made_chunk}
use Rattle.pf_law_runs.specs.pf_world.specs.pf_group_rounds.specs.Halts.{Halt}
use Rattle.pf_law_runs.specs.pf_world.specs.pf_chunk.specs.Runs.{ChunkRun, most_ports, mover_port, new_run}
use Rattle.pf_law_runs.specs.pf_world.specs.pf_world_moments.specs.Moments.{Hands}
use Rattle.pf_law_runs.specs.pf_world.specs.pf_world_hosts.specs.Volumes.{VolumeRun}
use Rattle.pf_law_runs.specs.pf_world.specs.Worlds.{volume_made}
use Rattle.pf_law_runs.specs.pf_world.specs.pf_live_session.specs.Sessions.{Session}
use Rattle.pf_law_runs.specs.pf_law_movers.specs.Epochs.{group_of_epoch}
use Rattle.pf_law_runs.proofs.GroupPlaces.{made_there}
use Rattle.pf_law_runs.proofs.ChunkSizes.{new_chunks}
use Rattle.pf_law_mounts.proofs.Known.{IsKnown, IsServing}

new_at : (n m : ℕ) → m < n → slice_get (replicate n new_port) m ≡ Some new_port
new_at zero m low = absurd (omega (arith, low))
new_at (suc n) zero low = refl
new_at (suc n) (suc m) low = new_at n m (omega (arith, low))

-- the group of a chunk that has not moved
only_one : (chunk epoch k : ℕ) → group_of_epoch [] chunk epoch ≡ Some k → (epoch ≡ 0) × (chunk ≡ k)
only_one chunk zero k at = (refl, same_Some chunk k at)
only_one chunk (suc epoch) k at = absurd (none-some k at)

module _ (halts : List Halt) (sessions : List Session) (chunks sectors names format : ℕ) where
  abbrev v : VolumeRun
  v = (volume_made halts sessions chunks sectors names format).volume

  abbrev new_group_of : ℕ → ChunkRun
  new_group_of k = new_run (made_chunk halts sectors names format k)

  abbrev opened : ℕ → Service
  opened k = service_opening (new_group_of k).group.setup []

  there : (k : ℕ) → k < chunks → slice_get v.chunks k ≡ Some (new_group_of k)
  there k small =
      let many = (new_chunks halts sessions chunks sectors names format).made in
      let some = something_there v.chunks k (omega (arith, small, many)) in
      some.1 ∙ ap (λ (c : ChunkRun). Some c) (sym (made_there halts sessions chunks sectors names format k some.0 some.1))

  new_serving : (chunk : ℕ) → chunk < chunks → IsServing v.chunks [] chunk (opened chunk) []
  new_serving chunk small = record {
    turns = refl;
    epochs = refl;
    groups = λ epoch low.
        let first : epoch ≡ 0 = omega (arith, low) in
        record { k = chunk; at = ap (group_of_epoch [] chunk) first; c = new_group_of chunk; there = there chunk small; setup = refl; history = refl; stands = refl };
    ports = λ m k c low at is.
        let one = only_one chunk 0 k at in
        let its : new_group_of chunk ≡ c = same_Some (new_group_of chunk) c (sym (there chunk small) ∙ ap (slice_get v.chunks) one.1 ∙ is) in
        ap (λ (x : ChunkRun). slice_get x.ports m) (sym its) ∙ new_at most_ports m (omega (arith, low));
    handed = λ q m k place epoch at. absurd (none-some (Hands m k place) at);
    left = λ q k place epoch at. absurd (none-some (Hands mover_port k place) at);
    since = λ k epoch low. absurd (omega (arith, low));
  }

  pub new_known : IsKnown 0 v []
  new_known = record {
    happenings = [];
    service = opened;
    deeds = λ chunk. [];
    few = omega arith;
    room = λ some. absurd (omega (arith, some));
    anchors = λ three. absurd (cc);
    none_yet = λ none. refl;
    told_are = refl;
    causes = tt;
    spelled = tt;
    few_calls = λ m. omega arith;
    apart = λ chunk other epoch by k small low one two.
        let first = only_one chunk epoch k one in
        let second = only_one other by k two in
        (first.1 ∙ sym second.1, first.0 ∙ sym second.0);
    served = λ chunk small. Opens (new_group_of chunk).group.setup [];
    same = λ chunk small. refl;
    serving_so = new_serving;
    host_so = λ m host at. absurd (none-some host at);
    fresh = λ m late. refl;
    unasked = λ m chunk late small. refl;
    unowed = λ m port late. refl;
    answered = λ legal. record { can_be = tt; served = tt };
  }
