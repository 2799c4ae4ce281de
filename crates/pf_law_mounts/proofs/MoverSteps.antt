-- The mover of a chunk goes on, in a run.
use Rattle.std.proofs.Common.{◌≡◌, ◌≢◌, ℕ, zero, suc, pred, cond, ◌+◌, ◌<◌, ◌≤◌, ◌==◌, if◌then◌else◌, inl, inr, Bool, true, false, List, [], ◌∷◌, ◌++◌, length, take, Option, Some, None, slice_get, slice_set, arith, refl, sym, ap, subst, ◌∙◌, append-nil}
use Rattle.std.specs.Option.{option_map}
use Rattle.std.proofs.Math.Seq.{take-length}
use Rattle.std.proofs.lemmas.Bool.{eq-eqb, eqb-true, eqb-false, ne_eqb}
use Rattle.std.proofs.lemmas.List.{append_assoc, take-append-le}
use Rattle.std.proofs.lemmas.Option.{none-some, same_Some, slice_get_within}
use Rattle.pf_volume.specs.Volumes.{Extent}
use Rattle.pf_base.specs.declared.asks.Ask.{Ask}
use Rattle.pf_base.specs.declared.asks.Ask.TheVariants as asks
use Rattle.pf_base.specs.declared.asks.Reply.{Reply}
use Rattle.pf_entry.specs.Lists.{Every}
use Rattle.pf_entry.proofs.Cases.{by_test}
use Rattle.pf_asks.specs.Ports.{PortIs}
use Rattle.pf_law_positions.specs.Deeds.{Deed}
use Rattle.pf_move.specs.declared.mover.MoveNext.{MoveNext}
use Rattle.pf_move.specs.declared.mover.MoveNext.TheVariants.{Read, Switch, Write}
use Rattle.pf_move.specs.Movers.{MoverIs, MoverStep, step}
use Rattle.pf_move.specs.Routes.{Between, RoutesIs, between, routes_switched as switched_routes}
use Rattle.pf_law_runs.specs.pf_law_service.specs.Services.{Service, epoch_of_now, service_switched}
use Rattle.pf_law_runs.specs.pf_law_service.specs.Served.{ChunkIsServed, Switches}
use Rattle.pf_law_runs.specs.pf_law_service.proofs.Places.{but_each}
use Rattle.pf_law_runs.specs.pf_world.specs.pf_group_rounds.specs.Halts.{Halt}
use Rattle.pf_law_runs.specs.pf_world.specs.pf_chunk.specs.Driving.{Driven, port_asked, asked_at, driven}
use Rattle.pf_law_runs.specs.pf_world.specs.pf_chunk.specs.Runs.{ChunkRun, mover_port}
use Rattle.pf_law_runs.specs.pf_world.specs.pf_world_moments.specs.Hosts.{Drove, drove, drove_of, event_count, handed_moments, put_at, run_after, with_run}
use Rattle.pf_law_runs.specs.pf_world.specs.pf_world_moments.specs.Moments.{Carries, Hands, Heard, Moment, Writes}
use Rattle.pf_law_runs.specs.pf_world.specs.pf_world_hosts.specs.Volumes.{Hosts, VolumeRun, carries, carries_on, mover_group, mover_steps}
use Rattle.pf_law_runs.specs.pf_world.specs.pf_world_hosts.specs.Volumes as volumes
use Rattle.pf_law_runs.specs.pf_law_movers.specs.Epochs.{epoch_of, group_of_epoch, groups_in_turn}
use Rattle.pf_law_runs.specs.pf_law_movers.specs.Handing.{reached}
use Rattle.pf_law_runs.specs.pf_law_movers.specs.Movers.{IsOnTheMove}
use Rattle.pf_law_runs.specs.pf_law_movers.proofs.ChunkEpochs.{AreBegun, begun_until, epoch_on, groups_on, same_home}
use Rattle.pf_law_runs.specs.pf_law_movers.proofs.HistoryGrowth.{Grows, grows_refl}
use Rattle.pf_law_runs.specs.pf_law_movers.proofs.Handovers.{IsHandedIf, driven_hands}
use Rattle.pf_law_runs.proofs.MoverStepParts.{hauled_so}
use Rattle.pf_law_runs.specs.pf_law_movers.proofs.ListPlaces.{get_either}
use Rattle.pf_law_runs.specs.pf_law_movers.proofs.PortSteps.{drives_step}
use Rattle.pf_law_runs.specs.pf_law_movers.proofs.Ports.{put_elsewhere}
use Rattle.pf_law_runs.specs.pf_law_movers.proofs.GroupsToldUpTo.{reached_low}
use Rattle.pf_law_runs.proofs.RoutesTold.{Routed, all_begun, answers_routed, drives_routed}
use Rattle.pf_law_runs.specs.pf_law_movers.proofs.ToldRoutes.{IsAsk, ask_change, same_epoch, same_groups, still_groups}
use Rattle.pf_law_runs.proofs.KeptThroughout.{HoldsOf}
use Rattle.pf_law_runs.proofs.Within.{AreLow, Within, answers_within, drives_within}
use Rattle.pf_law_mounts.proofs.Grown.{AreLate, IsToldAt, Stays, begun_on, left_within, known_grown, known_told, known_with, serving_told, stays_itself}
use Rattle.pf_law_mounts.proofs.Known.{HasBegun, IsKnown, IsServing}
use Rattle.pf_law_mounts.proofs.MomentTells.{IsIdle, as_told, told_idly}

-- What is told hands nothing on

pub no_hands : (y : Moment) → ((m k place : ℕ) → y ≡ Hands m k place → ⊥) → (q m k place : ℕ) → slice_get (y ∷ []) q ≡ Some (Hands m k place) → ⊥
no_hands y none zero m k place at = none m k place (same_Some y (Hands m k place) at)
no_hands y none (suc q) m k place at = none-some (Hands m k place) at

-- what the mover handed on
one_hand : (k n q m j place : ℕ) → slice_get (Hands mover_port k n ∷ []) q ≡ Some (Hands m j place) → (m ≡ mover_port) × (j ≡ k) × (place ≡ n)
one_hand k n zero m j place at =
    let is : Hands mover_port k n ≡ Hands m j place = same_Some (Hands mover_port k n) (Hands m j place) at in
    let mount : m ≡ mover_port = cc in
    let group : j ≡ k = cc in
    let where_it_is : place ≡ n = cc in
    (mount, group, where_it_is)
one_hand k n (suc q) m j place at = absurd (none-some (Hands m j place) at)

-- a line of text
pub line_told : (told : List Moment) (text : List ℕ) (chunk : ℕ) → IsToldAt told (Writes text ∷ []) chunk
line_told told text chunk =
    let same = still_groups told (Writes text ∷ []) chunk (tt, tt) in record {
      groups = same.0;
      epochs = same.1;
      mounts = λ q m k place at small. no_hands (Writes text) (λ n j p is. absurd (cc)) q m k place at;
    }

pub line_late : (told : List Moment) (text : List ℕ) (chunk : ℕ) (s : Service) → AreLate told (Writes text ∷ []) chunk s
line_late told text chunk s q k place epoch at less group = absurd (no_hands (Writes text) (λ n j p is. absurd (cc)) q mover_port k place at)

pub known_line : {calls : ℕ} → (v : VolumeRun) (told : List Moment) (text : List ℕ) → IsKnown calls v told → IsKnown calls v (told ++ Writes text ∷ [])
known_line v told text is = known_told told (Writes text ∷ []) (line_told told text) v is (tt, tt) (λ chunk small. line_late told text chunk (is.service chunk))

-- Others have the routes and the mover
pub known_same : {calls : ℕ} → (v : VolumeRun) (told : List Moment) (r : RoutesIs) (mover : Option MoverIs) → IsKnown calls v told → IsKnown calls (record v { routes = r; mover = mover }) told
known_same v told r mover is = known_with v told told is v.chunks r mover is.service (as_told told) is.apart is.served is.serving_so (λ chunk small. stays_itself (is.service chunk))

-- An ask of the mover is put into its port

asked_grows : (c : ChunkRun) (m : ℕ) (ask : Ask) (port : Option PortIs) → Grows c.group (asked_at c m ask port).group
asked_grows c m ask None = grows_refl c.group
asked_grows c m ask (Some p) = grows_refl c.group

module _ {calls : ℕ} (v : VolumeRun) (told : List Moment) (begun : AreBegun v.extent.chunks told) (mover : Option MoverIs) (ask : Ask) (is : IsKnown calls v told) where
  known_put : (group : Option ℕ) → IsKnown calls (record v { chunks = put_at v.chunks group mover_port ask; mover = mover }) told
  known_put None = known_same v told v.routes mover is
  known_put (Some g) = by (slice_get v.chunks g) refl
    where
      by : (o : Option ChunkRun) → slice_get v.chunks g ≡ o → IsKnown calls (record v { chunks = with_run v.chunks g (run_after o (λ c. port_asked c mover_port ask)); mover = mover }) told
      by None there = known_same v told v.routes mover is
      by (Some c) there =
          known_grown v told begun g c (port_asked c mover_port ask) there (asked_grows c mover_port ask (slice_get c.ports mover_port))
          (λ m small. put_elsewhere mover_port ask m c (slice_get c.ports mover_port) (λ same. omega (arith, small, same))) v.routes mover is

-- It asks

asks_told : (told : List Moment) (c : ℕ) (heard : Option Heard) (next : MoveNext) → IsAsk next → (chunk : ℕ) → IsToldAt told (Carries c heard next ∷ []) chunk
asks_told told c heard next asks_so chunk =
    let y : Moment = Carries c heard next in
    let none = ask_change chunk c heard next asks_so in record {
      groups = same_groups told y chunk none;
      epochs = same_epoch told y chunk none;
      mounts = λ q m k place at small. no_hands y (λ n j p is. absurd (cc)) q m k place at;
    }

asks_late : (told : List Moment) (c : ℕ) (heard : Option Heard) (next : MoveNext) (chunk : ℕ) (s : Service) → AreLate told (Carries c heard next ∷ []) chunk s
asks_late told c heard next chunk s q k place epoch at less group = absurd (no_hands (Carries c heard next) (λ n j p is. absurd (cc)) q mover_port k place at)

known_asks : {calls : ℕ} → (v : VolumeRun) (told : List Moment) (c : ℕ) (heard : Option Heard) (next : MoveNext) → IsAsk next → IsKnown calls v told → IsKnown calls v (told ++ Carries c heard next ∷ [])
known_asks v told c heard next asks_so is =
    known_told told (Carries c heard next ∷ []) (asks_told told c heard next asks_so) v is (tt, tt) (λ chunk small. asks_late told c heard next chunk (is.service chunk))

-- The chunk is served by its new group from here on

abbrev switched_at : (own chunk : ℕ) → Service → Service
switched_at own chunk s = if own == chunk then service_switched s else s

module _ (v : VolumeRun) (told : List Moment) (own : ℕ) (heard : Option Heard) (text : List ℕ) where
  abbrev more : List Moment
  more = Carries own heard Switch ∷ Writes text ∷ []

  abbrev all : List Moment
  all = told ++ more

  no_more : (q m k place : ℕ) → slice_get more q ≡ Some (Hands m k place) → ⊥
  no_more zero m k place at = let is : Carries own heard Switch ≡ Hands m k place = same_Some (Carries own heard Switch) (Hands m k place) at in absurd (cc)
  no_more (suc q) m k place at = no_hands (Writes text) (λ n j p is. absurd (cc)) q m k place at

  groups_same : (chunk : ℕ) → groups_in_turn all chunk ≡ groups_in_turn told chunk
  groups_same chunk = groups_on told more chunk ∙ append-nil (groups_in_turn told chunk)

  own_epoch : (chunk : ℕ) → own ≡ chunk → epoch_of more chunk ≡ 1
  own_epoch chunk same = ap (λ b. 0 + cond b 1 0 + 0) (eq-eqb own chunk same)

  other_epoch : (chunk : ℕ) → own ≢ chunk → epoch_of more chunk ≡ 0
  other_epoch chunk apart = ap (λ b. 0 + cond b 1 0 + 0) (ne_eqb own chunk apart)

  -- the same groups stand in the same epochs
  group_same : (chunk epoch : ℕ) → group_of_epoch all chunk epoch ≡ group_of_epoch told chunk epoch
  group_same chunk epoch = ap (λ gs. slice_get gs epoch) (groups_same chunk)

  other_told : (chunk : ℕ) → own ≢ chunk → IsToldAt told more chunk
  other_told chunk apart = record {
    groups = groups_same chunk;
    epochs = let both = epoch_on told more chunk in let none = other_epoch chunk apart in omega (arith, both, none);
    mounts = λ q m k place at small. no_more q m k place at;
  }

  none_late : (chunk : ℕ) (s : Service) → AreLate told more chunk s
  none_late chunk s q k place epoch at less group = absurd (no_more q mover_port k place at)

  module _ (moves : IsOnTheMove v.extent.chunks told own) (low : AreLow v.chunks all) (s : Service) (ds : List Deed) (is : IsServing v.chunks told own s ds) where
    last_is : s.epoch ≡ suc (epoch_of told own)
    last_is = let groups = moves.groups in let turns = is.turns in omega (arith, groups, turns)

    is_moving : s.moving ≡ true
    is_moving = by s.moving refl is.epochs
      where
        by : (b : Bool) → s.moving ≡ b → epoch_of told own ≡ (if b then pred s.epoch else s.epoch) → s.moving ≡ true
        by true same epochs = same
        by false same epochs = absurd (omega (arith, epochs, last_is))

    -- all that was told of the new group has happened
    begins_now : (k : ℕ) → group_of_epoch all own s.epoch ≡ Some k → HasBegun all own k s.epoch (length (s.history s.epoch))
    begins_now k at =
        let whole : take (length all) all ≡ all = take-length all in
        let g = is.groups s.epoch (omega arith) in
        let its : g.k ≡ k = same_Some g.k k (sym g.at ∙ sym (group_same own s.epoch) ∙ at) in
        let count : event_count (slice_get v.chunks k) ≡ length (s.history s.epoch) = ap (λ i. event_count (slice_get v.chunks i)) (sym its) ∙ ap event_count g.there ∙ ap length g.history in
        let reach : reached k all ≤ event_count (slice_get v.chunks k) = reached_low k (event_count (slice_get v.chunks k)) all (low k) in record {
          q = length all;
          low = omega arith;
          serves = subst (λ (part : List Moment). s.epoch ≤ epoch_of part own) (sym whole) (let both = epoch_on told more own in let one = own_epoch own refl in omega (arith, both, one, last_is));
          reached = subst (λ (part : List Moment). reached k part ≤ length (s.history s.epoch)) (sym whole) (omega (arith, reach, count));
        }

    serving_switched : IsServing v.chunks all own (service_switched s) ds
    serving_switched = record {
      turns = ap length (groups_same own) ∙ is.turns;
      epochs = let both = epoch_on told more own in let one = own_epoch own refl in omega (arith, both, one, last_is);
      groups = λ epoch within.
          let g = is.groups epoch within in
          record { k = g.k; at = group_same own epoch ∙ g.at; c = g.c; there = g.there; setup = g.setup; history = g.history; stands = g.stands };
      ports = λ m k c small at there. is.ports m k c small (sym (group_same own s.epoch) ∙ at) there;
      handed = λ q m k place epoch at small within group. elim (get_either told more q (Hands m k place) at) [
        | inl old ↦ is.handed q m k place epoch old small within (sym (group_same own epoch) ∙ group)
        | inr now ↦ absurd (no_more now.0 m k place now.1)
      ];
      left = λ q k place epoch at less group after. elim (get_either told more q (Hands mover_port k place) at) [
        | inl old ↦
            let within = slice_get_within told q (Hands mover_port k place) old in
            let part : take q all ≡ take q told = take-append-le q told more (omega (arith, within)) in
            is.left q k place epoch old less (sym (group_same own epoch) ∙ group) (subst (λ (x : List Moment). suc epoch < length (groups_in_turn x own)) part after)
        | inr now ↦ absurd (no_more now.0 mover_port k place now.1)
      ];
      since = λ k epoch within group.
          but_each (HasBegun all own k (suc epoch)) s.since s.epoch (length (s.history s.epoch)) (suc epoch)
          (λ here. subst (λ e. HasBegun all own k e (length (s.history s.epoch))) (sym here) (begins_now k (ap (group_of_epoch all own) (sym here) ∙ group)))
          (λ apart.
          let before : suc epoch ≤ epoch_of_now s = let at = is.epochs in omega (arith, within, apart, last_is, at) in
          begun_on told more own k (suc epoch) (s.since (suc epoch)) (is.since k epoch before (sym (group_same own (suc epoch)) ∙ group)));
    }

  known_switched : {calls : ℕ} → (r : RoutesIs) (mover : Option MoverIs) → IsOnTheMove v.extent.chunks told own → AreLow v.chunks all → AreBegun v.extent.chunks all → IsKnown calls v told → IsKnown calls (record v { routes = r; mover = mover }) all
  known_switched r mover moves low begun is =
      known_with v told all is v.chunks r mover (λ chunk. switched_at own chunk (is.service chunk)) (told_idly told more (tt, (tt, tt)))
      (λ chunk other epoch by k small less one two. same_home v.extent.chunks all begun chunk other epoch by k small less one two)
      (λ chunk small.
      by_test (own == chunk) (λ b. ChunkIsServed chunk (if b then service_switched (is.service chunk) else is.service chunk) (is.deeds chunk))
      (λ same.
      let here = eqb-true own chunk same in
      Switches (is.service chunk) (is.deeds chunk)
      (subst (λ c. (is.service c).moving ≡ true) here (is_moving moves low (is.service own) (is.deeds own) (is.serving_so own moves.small))) (is.served chunk small))
      (λ _. is.served chunk small))
      (λ chunk small.
      by_test (own == chunk) (λ b. IsServing v.chunks all chunk (if b then service_switched (is.service chunk) else is.service chunk) (is.deeds chunk))
      (λ same.
      subst (λ c. IsServing v.chunks all c (service_switched (is.service c)) (is.deeds c)) (eqb-true own chunk same) (serving_switched moves low (is.service own) (is.deeds own) (is.serving_so own moves.small)))
      (λ apart. serving_told told more chunk (other_told chunk (eqb-false own chunk apart)) v.chunks (is.service chunk) (is.deeds chunk) (none_late chunk (is.service chunk)) (is.serving_so chunk small)))
      (λ chunk small. by_test (own == chunk) (λ b. Stays (is.service chunk) (if b then service_switched (is.service chunk) else is.service chunk))
      (λ _. record { owed = λ m. refl; asks = λ m. refl; legal = λ legal. legal }) (λ _. stays_itself (is.service chunk)))

-- What comes of what the mover wants done

module _ (v : VolumeRun) (told : List Moment) (mover : MoverIs) (heard : Option Heard) where
  pub known_carries : {calls : ℕ} → (next : MoveNext) → let t = carries v mover heard next in AreBegun v.extent.chunks (told ++ t.told) → AreLow t.volume.chunks (told ++ t.told) → IsKnown calls v told → IsKnown calls t.volume (told ++ t.told)
  known_carries (Read span) begun low is =
      known_put v (told ++ Carries mover.chunk heard (Read span) ∷ []) begun (Some mover) (asks.Read mover.chunk span) (known_asks v told mover.chunk heard (Read span) tt is)
      (option_map (λ (b : Between). b.from) (between v.routes))
  known_carries (Write span sectors) begun low is =
      known_put v (told ++ Carries mover.chunk heard (Write span sectors) ∷ []) begun (Some mover) (asks.Write mover.chunk span sectors) (known_asks v told mover.chunk heard (Write span sectors) tt is)
      (option_map (λ (b : Between). b.to) (between v.routes))
  known_carries Switch begun low is =
      known_switched v told mover.chunk heard _ (switched_routes v.routes) None (begun.carries told (Writes _ ∷ []) mover.chunk heard Switch refl) low begun is

-- All that is known of a run

pub record KnownSo (calls : ℕ) (v : VolumeRun) (told : List Moment) : Type 0 where
  pub routed : HoldsOf Routed v told
  pub within : HoldsOf Within v told
  pub known : IsKnown calls v told

module _ (halts : List Halt) where
  module _ {calls : ℕ} (v : VolumeRun) (told : List Moment) (k : ℕ) (c : ChunkRun) (there : slice_get v.chunks k ≡ Some c) (is : IsKnown calls v told) where
    abbrev d : Driven
    d = driven halts c mover_port

    handed_told : (o : Option ℕ) (chunk : ℕ) → IsToldAt told (handed_moments mover_port k o) chunk
    handed_told None chunk =
        let same = still_groups told [] chunk tt in
        record { groups = same.0; epochs = same.1; mounts = λ q m j place at small. none-some (Hands m j place) at }
    handed_told (Some n) chunk =
        let same = still_groups told (Hands mover_port k n ∷ []) chunk (tt, tt) in record {
          groups = same.0;
          epochs = same.1;
          mounts = λ q m j place at small. let its = one_hand k n q m j place at in omega (arith, its.0, small);
        }

    handed_idle : (o : Option ℕ) → Every IsIdle (handed_moments mover_port k o)
    handed_idle None = tt
    handed_idle (Some n) = (tt, tt)

    -- it came behind all of the group's history
    handed_late : (o : Option ℕ) → IsHandedIf mover_port c d o → (chunk : ℕ) → chunk < v.extent.chunks → AreLate told (handed_moments mover_port k o) chunk (is.service chunk)
    handed_late None h chunk small q j place epoch at less group = absurd (none-some (Hands mover_port j place) at)
    handed_late (Some n) h chunk small q j place epoch at less group =
        let its = one_hand k n q mover_port j place at in
        let s : Service = is.service chunk in
        let g = (is.serving_so chunk small).groups epoch (omega (arith, less)) in
        let here : g.k ≡ k = same_Some g.k k (sym g.at ∙ group ∙ ap (λ i. Some i) its.1) in
        let run : g.c ≡ c = same_Some g.c c (sym g.there ∙ ap (slice_get v.chunks) here ∙ there) in
        let count : length c.group.history ≡ length (s.history epoch) = ap (λ (x : ChunkRun). length x.group.history) (sym run) ∙ ap length g.history in
        let left = left_within chunk s (is.deeds chunk) (is.served chunk small) epoch less in
        omega (arith, count, left, its.2, h.at)

    known_drives : AreBegun v.extent.chunks (told ++ handed_moments mover_port k d.place) → IsKnown calls (record v { chunks = slice_set v.chunks k d.chunk }) (told ++ (handed_moments mover_port k d.place ++ Writes d.text ∷ []))
    known_drives begun =
        let step_so = drives_step c mover_port halts in
        let w : VolumeRun = record v { chunks = slice_set v.chunks k d.chunk } in
        let first : IsKnown calls v (told ++ handed_moments mover_port k d.place) = known_told told (handed_moments mover_port k d.place) (handed_told d.place) v is (handed_idle d.place) (handed_late d.place (driven_hands halts c mover_port)) in
        subst (λ (x : List Moment). IsKnown calls w x) (append_assoc told (handed_moments mover_port k d.place) (Writes d.text ∷ []))
        (known_line w (told ++ handed_moments mover_port k d.place) d.text
        (known_grown v (told ++ handed_moments mover_port k d.place) begun k c d.chunk there step_so.grows (λ m small. step_so.others m (λ same. omega (arith, small, same))) v.routes v.mover first))

  -- its port takes a step
  drives_known : {calls : ℕ} → (v : VolumeRun) (told : List Moment) (k : ℕ) (o : Option ChunkRun) → slice_get v.chunks k ≡ o → let d : Drove = drove_of halts v.chunks mover_port k o in
      AreBegun v.extent.chunks (told ++ d.told) → IsKnown calls v told → IsKnown calls (record v { chunks = d.chunks }) (told ++ d.told)
  drives_known {calls} v told k None there begun is = subst (λ (x : List Moment). IsKnown calls v x) (sym (append-nil told)) is
  drives_known v told k (Some c) there begun is =
      let d : Driven = driven halts c mover_port in
      known_drives v told k c there is
      (begun_until v.extent.chunks (told ++ handed_moments mover_port k d.place) (Writes d.text ∷ []) (subst (AreBegun v.extent.chunks) (sym (append_assoc told (handed_moments mover_port k d.place) (Writes d.text ∷ []))) begun))

  drives_so : {calls : ℕ} → (v : VolumeRun) (told : List Moment) (k : ℕ) → mover_group v ≡ Some k → KnownSo calls v told → KnownSo calls (record v { chunks = (drove halts v.chunks mover_port k).chunks }) (told ++ (drove halts v.chunks mover_port k).told)
  drives_so v told k group is =
      let routed = drives_routed halts v told k is.routed in
      let d : Drove = drove halts v.chunks mover_port k in record {
        routed = routed;
        within = drives_within halts v told k group is.within;
        known = drives_known v told k (slice_get v.chunks k) refl (all_begun v.extent.chunks (told ++ d.told) routed.each) is.known;
      }

  pub same_extent : (v : VolumeRun) (mover : MoverIs) (heard : Option Heard) (next : MoveNext) → (carries v mover heard next).volume.extent ≡ v.extent
  same_extent v mover heard (Read span) = refl
  same_extent v mover heard (Write span sectors) = refl
  same_extent v mover heard Switch = refl

  -- what the mover wants is done
  pub carries_so : {calls : ℕ} → (v : VolumeRun) (told : List Moment) (mover : MoverIs) (heard : Option Heard) (next : MoveNext) → let t = carries v mover heard next in
      HoldsOf Routed t.volume (told ++ t.told) → HoldsOf Within t.volume (told ++ t.told) → IsKnown calls v told → KnownSo calls t.volume (told ++ t.told)
  carries_so {calls} v told mover heard next routed within is =
      let t = carries v mover heard next in record {
        routed = routed;
        within = within;
        known = known_carries v told mover heard next (subst (λ (e : Extent). AreBegun e.chunks (told ++ t.told)) (same_extent v mover heard next) (all_begun t.volume.extent.chunks (told ++ t.told) routed.each)) within.low is;
      }

  answers_so : {calls : ℕ} → (v : VolumeRun) (told : List Moment) (k : ℕ) (old : MoverIs) (reply : Reply) → mover_group v ≡ Some k → v.mover ≡ Some old → (drove halts v.chunks mover_port k).reply ≡ Some reply → KnownSo calls v told
      → let d : Drove = drove halts v.chunks mover_port k in let t : volumes.VolumeTold = carries_on (record v { chunks = d.chunks }) (Some (record { reply = reply; by = event_count (slice_get d.chunks k) })) (step old (Some reply)) in KnownSo calls t.volume ((told ++ d.told) ++ t.told)
  answers_so v told k old reply group there replied is =
      let d : Drove = drove halts v.chunks mover_port k in
      let heard : Heard = record { reply = reply; by = event_count (slice_get d.chunks k) } in
      let s : MoverStep = step old (Some reply) in
      let on = drives_so v told k group is in
      carries_so (record v { chunks = d.chunks }) (told ++ d.told) s.mover (Some heard) s.next (answers_routed halts (record v { chunks = d.chunks }) (told ++ d.told) old heard there on.routed) (answers_within halts v told k old reply group there replied is.within) on.known

  -- the mover's step
  pub carried_so : {calls : ℕ} → (v : VolumeRun) (told : List Moment) → KnownSo calls v told → KnownSo calls (mover_steps halts v).volume (told ++ (mover_steps halts v).told)
  carried_so {calls} v told is = hauled_so halts (KnownSo calls) drives_so answers_so v told is
