-- A chunk begins to move to a new group, in a run.
use Rattle.std.proofs.Common.{◌≡◌, ◌≢◌, ℕ, zero, suc, pred, ◌<◌, ◌≤◌, ◌==◌, if◌then◌else◌, inl, inr, Bool, true, false, List, [], ◌∷◌, ◌++◌, length, take, drop, Option, Some, None, slice_get, slice_set, map, arith, refl, sym, ap, subst, ◌∙◌, append-nil, take-append-drop}
use Rattle.std.specs.List.{flat_map}
use Rattle.std.proofs.lemmas.Bool.{cases_eq, eqb-true, eqb-false}
use Rattle.std.proofs.lemmas.List.{append_assoc, length-append, take-append-le}
use Rattle.std.proofs.lemmas.Option.{same_Some, slice_get_within}
use Rattle.pf_entry.proofs.Cases.{by_test}
use Rattle.pf_entry.proofs.Lists.{set_there}
use Rattle.pf_asks.specs.Ports.{rehomed}
use Rattle.pf_law_positions.specs.Deeds.{Deed}
use Rattle.pf_volume.specs.Volumes.{Extent}
use Rattle.pf_protocol.specs.Answers.{IsLegal}
use Rattle.pf_protocol.specs.Histories.{History, replay}
use Rattle.pf_protocol.specs.Servers.{Setup}
use Rattle.pf_law_runs.specs.pf_group_network.proofs.Lists.{at_end, at_front, set_elsewhere, set_length}
use Rattle.pf_move.specs.Movers.{MoverIs, MoverStep, new_mover, step}
use Rattle.pf_move.specs.Routes.{RoutesIs, home_of_chunk}
use Rattle.pf_law_runs.specs.pf_law_service.specs.Services.{Service, but, service_moved, epoch_of_now}
use Rattle.pf_law_runs.specs.pf_law_service.specs.Served.{ChunkIsServed, Moves as ItMoves}
use Rattle.pf_law_runs.specs.pf_law_service.proofs.Places.{but_each, but_here, but_off, map_get}
use Rattle.pf_law_runs.specs.pf_world.specs.pf_group_rounds.specs.Chunks.{Chunk}
use Rattle.pf_law_runs.specs.pf_world.specs.pf_group_rounds.specs.Halts.{Halt}
use Rattle.pf_law_runs.specs.pf_world.specs.pf_chunk.specs.Runs.{ChunkRun, left_by_ports, mover_port, taking_ports}
use Rattle.pf_law_runs.specs.pf_world.specs.pf_world_moments.specs.Hosts.{event_count}
use Rattle.pf_law_runs.specs.pf_world.specs.pf_world_moments.specs.Moments.{Hands, Moment, Moves}
use Rattle.pf_law_runs.specs.pf_world.specs.pf_world_hosts.specs.Volumes.{Hosts, VolumeRun, carries_on, moved_from, moves_from}
use Rattle.pf_law_runs.specs.pf_world.specs.pf_world_hosts.specs.Volumes as volumes
use Rattle.pf_law_runs.specs.pf_law_movers.specs.Epochs.{epoch_of, group_of_epoch, groups_in_turn, groups_moved_to}
use Rattle.pf_law_runs.specs.pf_law_movers.specs.Handing.{reach_at}
use Rattle.pf_law_runs.specs.pf_law_movers.proofs.ChunkEpochs.{AreBegun, IsBegun, begun_until, epoch_on, group_stays, groups_on, next_group, same_home}
use Rattle.pf_law_runs.specs.pf_law_movers.proofs.Lives.{its_own, not_its_own}
use Rattle.pf_law_runs.proofs.GroupPlaces.{with_both}
use Rattle.pf_law_runs.specs.pf_law_movers.proofs.ListPlaces.{get_either}
use Rattle.pf_law_runs.proofs.RoutesTold.{Routed, RoutedOf, all_begun, new_is, source_of}
use Rattle.pf_law_runs.proofs.ScriptRuns.{new_group}
use Rattle.pf_law_runs.proofs.KeptThroughout.{HoldsOf}
use Rattle.pf_law_runs.proofs.Within.{AreLow, Within}
use Rattle.pf_law_mounts.proofs.MoverSteps.{KnownSo, carries_so, no_hands, same_extent}
use Rattle.pf_law_mounts.proofs.Grown.{AreLate, IsToldAt, Stays, begun_on, known_with, serving_later, serving_told, stays_itself}
use Rattle.pf_law_mounts.proofs.Homes.{home_last, moving_late}
use Rattle.pf_law_mounts.proofs.Known.{IsGroupOf, IsKnown, IsServing}
use Rattle.pf_law_mounts.proofs.MomentTells.{told_idly}

above_pred : (n : ℕ) → 0 < n → n ≡ pred n → ⊥
above_pred zero low same = omega (arith, low)
above_pred (suc n) low same = omega (arith, same)

abbrev moved_at : (own chunk : ℕ) → Setup → History → Service → Service
moved_at own chunk setup history s = if own == chunk then service_moved s setup history else s

stays_moved : (s : Service) (setup : Setup) (history : History) → Stays s (service_moved s setup history)
stays_moved s setup history = record {
  owed = λ m. refl;
  asks = λ m. refl;
  legal = λ legal epoch low.
      let apart : epoch ≡ suc s.epoch → ⊥ = λ same. omega (arith, low, same) in
      subst (λ (x : Setup). IsLegal x (s.history epoch)) (but_off s.setup (suc s.epoch) setup epoch apart)
      (subst (IsLegal (but s.setup (suc s.epoch) setup epoch)) (but_off s.history (suc s.epoch) history epoch apart) (legal epoch (omega (arith, low))));
}

module _ (v : VolumeRun) (told : List Moment) (chunk h : ℕ) (source new : ChunkRun) (there : slice_get v.chunks h ≡ Some source) (home : home_of_chunk v.routes chunk ≡ Some h) (routed : RoutedOf v told) (low : AreLow v.chunks told)
    (stands : new.group.state ≡ replay new.group.setup new.group.history) where
  abbrev n : ℕ
  n = length v.chunks

  abbrev count : ℕ
  count = v.extent.chunks

  abbrev more : List Moment
  more = Moves chunk n ∷ []

  abbrev all : List Moment
  all = told ++ more

  abbrev both : List ChunkRun
  both = with_both v.chunks h source new

  no_more : (q m k place : ℕ) → slice_get more q ≡ Some (Hands m k place) → ⊥
  no_more q m k place at = no_hands (Moves chunk n) (λ i j p is. absurd (cc)) q m k place at

  -- Groups

  old_there : (j : ℕ) (x : ChunkRun) → slice_get v.chunks j ≡ Some x → (z : ChunkRun) × (slice_get both j ≡ Some z) × (z.group ≡ x.group)
  old_there j x at = elim (cases_eq j h) [
    | inl here ↦
        let its : source ≡ x = same_Some source x (sym there ∙ ap (slice_get v.chunks) (sym here) ∙ at) in (
          left_by_ports source,
          at_front (slice_set v.chunks h (left_by_ports source)) (taking_ports source new ∷ []) j (left_by_ports source) (ap (slice_get (slice_set v.chunks h (left_by_ports source))) here ∙ set_there v.chunks h source (left_by_ports source) there),
          ap (λ (y : ChunkRun). y.group) its,
        )
    | inr apart ↦ (x, at_front (slice_set v.chunks h (left_by_ports source)) (taking_ports source new ∷ []) j x (set_elsewhere v.chunks h j (left_by_ports source) apart ∙ at), refl)
  ]

  last_there : slice_get both n ≡ Some (taking_ports source new)
  last_there =
      let left = slice_set v.chunks h (left_by_ports source) in
      ap (slice_get both) (sym (set_length v.chunks h (left_by_ports source))) ∙ at_end left (taking_ports source new)

  none_there : slice_get v.chunks n ≡ None
  none_there = by (slice_get v.chunks n) refl
    where
      by : (o : Option ChunkRun) → slice_get v.chunks n ≡ o → slice_get v.chunks n ≡ None
      by None at = at
      by (Some c) at = let within = slice_get_within v.chunks n c at in absurd (omega (arith, within))

  -- nothing was handed to the new one
  none_handed : (q m place : ℕ) → slice_get told q ≡ Some (Hands m n place) → ⊥
  none_handed q m place at =
      let most = low n q (Hands m n place) at in
      let reach : reach_at n (take q told) (Hands m n place) ≡ suc place = its_own n n (suc place) 0 refl in
      let none : event_count (slice_get v.chunks n) ≡ 0 = ap event_count none_there in
      omega (arith, most, reach, none)

  module _ (begun : AreBegun count all) where
    abbrev its_move : IsBegun count told chunk n
    its_move = begun.begins told [] chunk n refl

    -- Its chunk

    module _ (s : Service) (ds : List Deed) (is : IsServing v.chunks told chunk s ds) (served : ChunkIsServed chunk s ds) where
      last_is : s.epoch ≡ epoch_of told chunk
      last_is = let groups = (its_move.rests chunk its_move.small).groups in let turns = is.turns in omega (arith, groups, turns)

      pub steady : s.moving ≡ false
      steady = by s.moving refl is.epochs
        where
          by : (b : Bool) → s.moving ≡ b → epoch_of told chunk ≡ (if b then pred s.epoch else s.epoch) → s.moving ≡ false
          by true moves epochs = absurd (above_pred s.epoch (moving_late chunk s ds served moves) (last_is ∙ epochs))
          by false moves epochs = moves

      serves_last : epoch_of_now s ≡ s.epoch
      serves_last = sym is.epochs ∙ sym last_is

      at_new : group_of_epoch all chunk (suc s.epoch) ≡ Some n
      at_new = ap (group_of_epoch all chunk) (sym is.turns) ∙ next_group told chunk n

      old_group : (epoch k : ℕ) → epoch ≤ s.epoch → group_of_epoch all chunk epoch ≡ Some k → group_of_epoch told chunk epoch ≡ Some k
      old_group epoch k within at =
          let g = is.groups epoch within in
          g.at ∙ ap (λ i. Some i) (same_Some g.k k (sym (group_stays told more chunk epoch g.k g.at) ∙ at))

      abbrev t : Service
      t = service_moved s new.group.setup new.group.history

      group_now : (epoch : ℕ) → epoch ≡ suc s.epoch → IsGroupOf both all chunk t epoch
      group_now epoch here = subst (IsGroupOf both all chunk t) (sym here) (record {
        k = n;
        at = at_new;
        c = taking_ports source new;
        there = last_there;
        setup = sym (but_here s.setup (suc s.epoch) new.group.setup (suc s.epoch) refl);
        history = sym (but_here s.history (suc s.epoch) new.group.history (suc s.epoch) refl);
        stands = stands;
      })

      group_before : (epoch : ℕ) → epoch ≤ s.epoch → IsGroupOf both all chunk t epoch
      group_before epoch within =
          let g = is.groups epoch within in
          let o = old_there g.k g.c g.there in
          let apart : epoch ≡ suc s.epoch → ⊥ = λ same. omega (arith, within, same) in record {
            k = g.k;
            at = group_stays told more chunk epoch g.k g.at;
            c = o.0;
            there = o.1;
            setup = ap (λ (x : Chunk). x.setup) o.2 ∙ g.setup ∙ sym (but_off s.setup (suc s.epoch) new.group.setup epoch apart);
            history = ap (λ (x : Chunk). x.history) o.2 ∙ g.history ∙ sym (but_off s.history (suc s.epoch) new.group.history epoch apart);
            stands = subst (λ (x : Chunk). x.state ≡ replay x.setup x.history) (sym o.2) g.stands;
          }

      -- the ports of mounts go there
      port_now : (m : ℕ) → m < mover_port → slice_get (map rehomed source.ports) m ≡ Some (rehomed (s.port m))
      port_now m small = map_get rehomed source.ports m (s.port m) (is.ports m h source small (home_last count n v.routes told routed.routes v.chunks chunk s ds is h home) there)

      groups_before : (q : ℕ) → length (groups_in_turn (take q told) chunk) ≤ length (groups_in_turn told chunk)
      groups_before q =
          let whole = ap (λ (x : List Moment). length (groups_in_turn x chunk)) (take-append-drop q told) in
          let parts = ap length (groups_on (take q told) (drop q told) chunk) in
          let sum = length-append (groups_in_turn (take q told) chunk) (flat_map (groups_moved_to chunk) (drop q told)) in
          omega (arith, whole, parts, sum)

      pub serving_moved : IsServing both all chunk t ds
      serving_moved = record {
        turns = let longer = ap length (groups_on told more chunk ∙ ap (λ gs. groups_in_turn told chunk ++ (gs ++ [])) (its_own chunk chunk (n ∷ []) [] refl)) in let sum = length-append (groups_in_turn told chunk) (n ∷ []) in let turns = is.turns in omega (arith, longer, sum, turns);
        epochs = let both_epochs = epoch_on told more chunk in omega (arith, both_epochs, last_is);
        groups = λ epoch within. elim (cases_eq epoch (suc s.epoch)) [ inl here ↦ group_now epoch here | inr apart ↦ group_before epoch (omega (arith, within, apart)) ];
        ports = λ m k c small at at_k.
            let one : n ≡ k = same_Some n k (sym at_new ∙ at) in
            let its : taking_ports source new ≡ c = same_Some (taking_ports source new) c (sym last_there ∙ ap (slice_get both) one ∙ at_k) in
            ap (λ (x : ChunkRun). slice_get x.ports m) (sym its) ∙ port_now m small;
        handed = λ q m k place epoch at small within group. elim (get_either told more q (Hands m k place) at) [
          | inl old ↦ elim (cases_eq epoch (suc s.epoch)) [
            | inl here ↦
                let one : n ≡ k = same_Some n k (sym at_new ∙ ap (group_of_epoch all chunk) (sym here) ∙ group) in
                absurd (none_handed q m place (old ∙ ap (λ i. Some (Hands m i place)) (sym one)))
            | inr apart ↦ let le : epoch ≤ s.epoch = omega (arith, within, apart) in is.handed q m k place epoch old small le (old_group epoch k le group)
          ]
          | inr now ↦ absurd (no_more now.0 m k place now.1)
        ];
        left = λ q k place epoch at less group after. elim (get_either told more q (Hands mover_port k place) at) [
          | inl old ↦
              let within = slice_get_within told q (Hands mover_port k place) old in
              let part : take q all ≡ take q told = take-append-le q told more (omega (arith, within)) in
              let late : suc epoch < length (groups_in_turn (take q told) chunk) = subst (λ (x : List Moment). suc epoch < length (groups_in_turn x chunk)) part after in
              but_each (λ i. i ≤ place) s.left s.epoch (length (s.history s.epoch)) epoch
              (λ here. let most = groups_before q in let turns = is.turns in absurd (omega (arith, late, most, turns, here)))
              (λ apart. is.left q k place epoch old (omega (arith, less, apart)) (old_group epoch k (omega (arith, less)) group) late)
          | inr now ↦ absurd (no_more now.0 mover_port k place now.1)
        ];
        since = λ k epoch within group.
            begun_on told more chunk k (suc epoch) (s.since (suc epoch))
            (is.since k epoch (omega (arith, within, serves_last)) (old_group (suc epoch) k (omega (arith, within)) group));
      }

    -- Another one

    other_told : (other : ℕ) → chunk ≢ other → IsToldAt told more other
    other_told other apart = record {
      groups =
          groups_on told more other ∙ ap (λ gs. groups_in_turn told other ++ (gs ++ [])) (not_its_own chunk other (n ∷ []) [] apart) ∙ append-nil (groups_in_turn told other);
      epochs = let both_epochs = epoch_on told more other in omega (arith, both_epochs);
      mounts = λ q m k place at small. no_more q m k place at;
    }

    none_late : (other : ℕ) (s : Service) → AreLate told more other s
    none_late other s q k place epoch at less group = absurd (no_more q mover_port k place at)

    -- the group that is left is none of its
    other_serving : (its : ℕ) → group_of_epoch all chunk its ≡ Some h → (other : ℕ) → other < count → chunk ≢ other → (s : Service) (ds : List Deed) → IsServing v.chunks told other s ds → IsServing both all other s ds
    other_serving its at other small apart s ds is =
        serving_later v.chunks both all other s ds (serving_told told more other (other_told other apart) v.chunks s ds (none_late other s) is) s.history
        (λ epoch j x within at_j run is_history.
        let away : j ≢ h = λ here. apart (same_home count all begun chunk other its epoch h its_move.small small at (at_j ∙ ap (λ i. Some i) here)).0 in record {
          now = x;
          there = at_front (slice_set v.chunks h (left_by_ports source)) (taking_ports source new ∷ []) j x (set_elsewhere v.chunks h j (left_by_ports source) away ∙ run);
          setup = refl;
          history = is_history;
          stands = λ stands. stands;
          ports = λ m small. refl;
        })

    pub known_moved : {calls : ℕ} → (r : RoutesIs) (mover : Option MoverIs) → IsKnown calls v told → IsKnown calls (record v { chunks = both; routes = r; mover = mover }) all
    known_moved r mover is =
        let own = is.service chunk in
        let own_is = is.serving_so chunk its_move.small in
        let own_at : group_of_epoch all chunk own.epoch ≡ Some h = group_stays told more chunk own.epoch h (home_last count n v.routes told routed.routes v.chunks chunk own (is.deeds chunk) own_is h home) in
        known_with v told all is both r mover (λ other. moved_at chunk other new.group.setup new.group.history (is.service other)) (told_idly told more (tt, tt))
        (λ one other epoch by k small less at at_other. same_home count all begun one other epoch by k small less at at_other)
        (λ other small. by_test (chunk == other) (λ b. ChunkIsServed other (if b then service_moved (is.service other) new.group.setup new.group.history else is.service other) (is.deeds other))
        (λ same.
        let here = eqb-true chunk other same in
        ItMoves (is.service other) (is.deeds other) new.group.setup new.group.history
        (subst (λ c. (is.service c).moving ≡ false) here (steady own (is.deeds chunk) own_is (is.served chunk its_move.small))) (is.served other small))
        (λ _. is.served other small))
        (λ other small. by_test (chunk == other) (λ b. IsServing both all other (if b then service_moved (is.service other) new.group.setup new.group.history else is.service other) (is.deeds other))
        (λ same.
        subst (λ c. IsServing both all c (service_moved (is.service c) new.group.setup new.group.history) (is.deeds c)) (eqb-true chunk other same)
        (serving_moved own (is.deeds chunk) own_is (is.served chunk its_move.small)))
        (λ apart. other_serving own.epoch own_at other small (eqb-false chunk other apart) (is.service other) (is.deeds other) (is.serving_so other small)))
        (λ other small. by_test (chunk == other) (λ b. Stays (is.service other) (if b then service_moved (is.service other) new.group.setup new.group.history else is.service other))
        (λ _. stays_moved (is.service other) new.group.setup new.group.history) (λ _. stays_itself (is.service other)))

-- and the mover asks

module _ (halts : List Halt) where
  pub moves_so : {calls : ℕ} → (v : VolumeRun) (told : List Moment) (names format chunk : ℕ) (o : Option ℕ) → home_of_chunk v.routes chunk ≡ o → let t = moves_from chunk o (new_group halts v names format) v in
      HoldsOf Routed t.volume (told ++ t.told) → HoldsOf Within t.volume (told ++ t.told) → KnownSo calls v told → KnownSo calls t.volume (told ++ t.told)
  moves_so {calls} v told names format chunk None at routed within is = subst (KnownSo calls v) (sym (append-nil told)) is
  moves_so {calls} v told names format chunk (Some h) at routed within is =
      let new = new_group halts v names format in
      let s : MoverStep = step (new_mover chunk _) None in
      let y : Moment = Moves chunk (length v.chunks) in
      let all : List Moment = told ++ y ∷ [] in
      let w : VolumeRun = moved_from v chunk h new in
      let t : volumes.VolumeTold = carries_on w None s in
      let source = source_of v told is.routed.is chunk h at in
      let both_told = append_assoc told (y ∷ []) t.told in
      let routed_all : HoldsOf Routed t.volume (all ++ t.told) = subst (HoldsOf Routed t.volume) (sym both_told) routed in
      let within_all : HoldsOf Within t.volume (all ++ t.told) = subst (HoldsOf Within t.volume) (sym both_told) within in
      subst (KnownSo calls t.volume) both_told (carries_so halts w all s.mover None s.next routed_all within_all (
      let begun : AreBegun v.extent.chunks all = begun_until v.extent.chunks all t.told (subst (λ (e : Extent). AreBegun e.chunks (all ++ t.told)) (same_extent halts w s.mover None s.next) (all_begun t.volume.extent.chunks (all ++ t.told) routed_all.each)) in
      subst (λ (chunks : List ChunkRun). IsKnown calls (record w { chunks = chunks }) all) (sym (new_is v told is.routed.is chunk h at new))
      (known_moved v told chunk h source.0 new source.1 at is.routed.is is.within.low refl begun w.routes w.mover is.known)))
