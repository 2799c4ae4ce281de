-- A chunk begins to move: its ports go to a new group.
use Rattle.std.proofs.Common.{◌≡◌, ◌≢◌, ◌⊎◌, ℕ, zero, suc, ◌+◌, ◌*◌, ◌/◌, ◌<◌, cond, List, [], ◌∷◌, ◌++◌, length, map, replicate, Option, Some, None, slice_get, slice_set, inl, inr, refl, sym, ap, subst, ◌∙◌, length-append, arith}
use Rattle.std.specs.Option.{option_map}
use Rattle.std.proofs.lemmas.Bool.{cases_eq, ne_eqb}
use Rattle.std.proofs.lemmas.List.{length-map, map-append}
use Rattle.std.proofs.lemmas.Option.{none-some, same_Some, slice_get-map, slice_get_within}
use Rattle.pf_base.specs.Span.{Span}
use Rattle.pf_base.specs.declared.asks.Ask.TheVariants as asks
use Rattle.pf_entry.proofs.Lists.{set_cases, set_there}
use Rattle.pf_mount_host.specs.pf_group_network.proofs.Lists.{at_end, at_front, end_cases, set_elsewhere, set_length, set_mapped}
use Rattle.pf_asks.specs.Ports.{PortIs, new_port, rehomed}
use Rattle.pf_mount_host.specs.pf_group_rounds.specs.Halts.{Halt}
use Rattle.pf_move.specs.declared.mover.MoverAsk.TheVariants.{Reading}
use Rattle.pf_move.specs.declared.mover.MoveNext.TheVariants.{Read, Switch}
use Rattle.pf_move.specs.declared.routes.Moving.{Moving}
use Rattle.pf_move.specs.Movers.{MoverIs, MoverStep, new_mover, piece, step}
use Rattle.pf_move.specs.Routes.{AreRouted, Between, RoutesIs, between, home_of_chunk}
use Rattle.pf_mount_host.specs.pf_chunk.specs.Driving.{port_asked}
use Rattle.pf_mount_host.specs.pf_chunk.specs.Runs.{ChunkRun, mover_port, new_ports}
use Rattle.pf_mount_host.specs.pf_chunk.specs.Views.{ChunkIs, ChunkIsReady, run_of}
use Rattle.pf_mount_host.specs.pf_world_moments.specs.Moments.{Carries, Moves}
use Rattle.pf_mount_host.specs.pf_world_moments.specs.Parts.{AreQuiet}
use Rattle.pf_mount_host.specs.pf_world_moments.specs.Steps.{AreReady, chunk_runs}
use Rattle.pf_mount_host.specs.pf_world_moments.proofs.Groups.{run_there}
use Rattle.pf_mount_host.specs.Hosts.{HostIs, pending_at}
use Rattle.pf_mount_host.specs.Steps.{IsAnchoredHostOf, IsAskingAt}
use Rattle.pf_world_hosts.specs.Moves.{HasBegunMove}
use Rattle.pf_world_hosts.specs.Steps.{AreHostsOf, FleetIs, HasMover, IsFleetOf, volume_stands_at}
use Rattle.pf_world_hosts.specs.Volumes.{VolumeTold, VolumeRun, after_telling, carries_on, mover_puts, chunk_moves, moves_from, with_new}
use Rattle.pf_world_hosts.proofs.AskRoutes.{between_groups, home_moved, home_stays, moving_to, routed_begun}
use Rattle.pf_world_hosts.proofs.MoverWishes.{fleet_moving, hosts_put, mover_put, ready_put, run_put, stepped_so}

-- new ports are quiet
same_in : {X : Type 0} → (n : ℕ) (x : X) (k : ℕ) (y : X) → slice_get (replicate n x) k ≡ Some y → x ≡ y
same_in zero x k y at = absurd (none-some y at)
same_in (suc n) x zero y at = same_Some x y at
same_in (suc n) x (suc k) y at = same_in n x k y at

new_quiet : (n : ℕ) (port : PortIs) → slice_get new_ports n ≡ Some port → port.ask ≡ None
new_quiet n port at = sym (ap (λ (p : PortIs). p.ask) (same_in 17 new_port n port at))

-- a port that was rehomed has the ask that it had
rehomed_from : (ports : List PortIs) (n : ℕ) (port : PortIs) → slice_get (map rehomed ports) n ≡ Some port → (was : PortIs) × (slice_get ports n ≡ Some was) × (port.ask ≡ was.ask)
rehomed_from ports n port at = by (slice_get ports n) refl (sym (slice_get-map rehomed ports n) ∙ at) where
  by : (o : Option PortIs) → slice_get ports n ≡ o → option_map rehomed o ≡ Some port → (was : PortIs) × (slice_get ports n ≡ Some was) × (port.ask ≡ was.ask)
  by None its none = absurd (none-some port none)
  by (Some was) its some = (was, its, sym (ap (λ (p : PortIs). p.ask) (same_Some (rehomed was) port some)))

-- a quiet volume, whose mover is none
pub none_quiet : (chunks : List ChunkIs) (f : FleetIs) → IsFleetOf chunks f → f.routes.moving ≡ None → AreQuiet mover_port chunks
none_quiet chunks f is none = by (between f.routes) f.mover (subst (λ (m : Option Moving). HasMover chunks f.volume.sectors m (between f.routes) f.mover) none is.mover) where
  by : (b : Option Between) (mover : Option MoverIs) → HasMover chunks f.volume.sectors None b mover → AreQuiet mover_port chunks
  by None None quiet = quiet
  by (Some b) None quiet = quiet
  by None (Some mover) has = absurd has
  by (Some b) (Some mover) has = absurd has

-- the mover reads first
pub first_reads : (chunk pieces : ℕ) → 0 < pieces → step (new_mover chunk pieces) None ≡ record { next = Read (piece 0); mover = record (new_mover chunk pieces) { asked = Some Reading } }
first_reads chunk pieces some = ap (λ b. cond b (record { next = Switch; mover = record (new_mover chunk pieces) { asked = None } }) (record { next = Read (piece 0); mover = record (new_mover chunk pieces) { asked = Some Reading } })) (ne_eqb 0 pieces (λ e. absurd (omega (arith, e, some))))

-- Behind the groups stands a new one, into which the ports of group home went
module _ (old : List ChunkIs) (home : ℕ) (from group : ChunkIs) (there : slice_get old home ≡ Some from) where
  abbrev pub left : ChunkIs
  left = record from { ports = new_ports }

  abbrev pub taken : ChunkIs
  taken = record group { ports = map rehomed from.ports }

  abbrev pub mid : List ChunkIs
  mid = slice_set old home left ++ taken ∷ []

  low : home < length old
  low = slice_get_within old home from there

  mid_count : length mid ≡ length old + 1
  mid_count = length-append (slice_set old home left) (taken ∷ []) ∙ ap (λ n. n + 1) (set_length old home left)

  left_there : slice_get mid home ≡ Some left
  left_there = at_front (slice_set old home left) (taken ∷ []) home left (set_there old home from left there)

  taken_there : slice_get mid (length old) ≡ Some taken
  taken_there = ap (slice_get mid) (sym (set_length old home left)) ∙ at_end (slice_set old home left) taken

  others_there : (j : ℕ) (c : ChunkIs) → j ≢ home → slice_get old j ≡ Some c → slice_get mid j ≡ Some c
  others_there j c other at = at_front (slice_set old home left) (taken ∷ []) j c (set_elsewhere old home j left other ∙ at)

  mid_cases : (j : ℕ) (c : ChunkIs) → slice_get mid j ≡ Some c → ((j ≡ length old) × (taken ≡ c)) ⊎ (((j ≡ home) × (left ≡ c)) ⊎ ((j ≢ home) × (slice_get old j ≡ Some c)))
  mid_cases j c at = elim (end_cases (slice_set old home left) taken j c at) [
    | inl front ↦ inr (elim (set_cases old home left j c front) [
      | inl here ↦ inl here
      | inr other ↦ inr other
    ])
    | inr end ↦ inl (end.0 ∙ set_length old home left, end.1)
  ]

  -- quiet ports are quiet still
  quiet_mid : (n : ℕ) → AreQuiet n old → AreQuiet n mid
  quiet_mid n quiet j c at port its = elim (mid_cases j c at) [
    | inl end ↦
        let was = rehomed_from from.ports n port (ap (λ (x : ChunkIs). slice_get x.ports n) end.1 ∙ its) in
        was.2 ∙ quiet home from there was.0 was.1
    | inr front ↦ elim front [
      | inl here ↦ new_quiet n port (ap (λ (x : ChunkIs). slice_get x.ports n) here.1 ∙ its)
      | inr other ↦ quiet j c other.1 port its
    ]
  ]

  ready_mid : AreReady old → group.group.number ≡ length old → ChunkIsReady left → ChunkIsReady taken → AreReady mid
  ready_mid ready number left_ready taken_ready j c at = elim (mid_cases j c at) [
    | inl end ↦ subst (λ (x : ChunkIs). (x.group.number ≡ j) × ChunkIsReady x) end.1 (number ∙ sym end.0, taken_ready)
    | inr front ↦ elim front [
      | inl here ↦ subst (λ (x : ChunkIs). (x.group.number ≡ j) × ChunkIsReady x) here.1 ((ready home from there).0 ∙ sym here.0, left_ready)
      | inr other ↦ ready j c other.1
    ]
  ]

  -- as a run has them
  runs_mid : (halts : List Halt) → with_new (chunk_runs halts old) home (slice_get (chunk_runs halts old) home) (run_of halts group) ≡ chunk_runs halts mid
  runs_mid halts =
      ap (λ (o : Option ChunkRun). with_new (chunk_runs halts old) home o (run_of halts group)) (run_there halts old home from there)
      ∙ ap (λ (cs : List ChunkRun). cs ++ run_of halts taken ∷ []) (set_mapped (run_of halts) old home left)
      ∙ sym (map-append (run_of halts) (slice_set old home left) (taken ∷ []))

  -- The chunk whose asks group home had has its asks at the new one
  module _ (r : RoutesIs) (none : r.moving ≡ None) (chunk : ℕ) (at_home : home_of_chunk r chunk ≡ Some home) (is : AreRouted (length old) r) where
    abbrev after : RoutesIs
    after = moving_to r chunk (length old)

    home_after : (c : ℕ) → c ≢ chunk → home_of_chunk after c ≡ home_of_chunk r c
    home_after c other = home_stays r none chunk (length old) c other

    its_home : home_of_chunk after chunk ≡ Some (length old)
    its_home = home_moved r none chunk (length old)

    module _ (host : HostIs) (is_host : IsAnchoredHostOf r old host) where
      asking_mid : (port c : ℕ) → IsAskingAt r old host.mount port c → IsAskingAt after mid host.mount port c
      asking_mid port c at = elim (cases_eq c chunk) [
        | inl same ↦
            let k_home : at.k ≡ home = same_Some at.k home (sym at.home ∙ ap (home_of_chunk r) same ∙ at_home) in
            let c_from : at.c ≡ from = same_Some at.c from (sym at.there ∙ ap (slice_get old) k_home ∙ there) in
            let its = subst (λ (x : ChunkIs). slice_get x.ports host.mount.files.mount ≡ Some at.its) c_from at.its_there in record {
              k = length old;
              home = ap (home_of_chunk after) same ∙ its_home;
              c = taken;
              there = taken_there;
              its = rehomed at.its;
              its_there = slice_get-map rehomed from.ports host.mount.files.mount ∙ ap (option_map rehomed) its;
              ask = at.ask;
              pending = at.pending;
              of_chunk = at.of_chunk;
              awaits = at.awaits;
            }
        | inr other ↦ record {
          k = at.k;
          home = home_after c other ∙ at.home;
          c = at.c;
          there = others_there at.k at.c (λ e. other (is.apart c chunk home (at.home ∙ ap (λ (n : ℕ). Some n) e) at_home)) at.there;
          its = at.its;
          its_there = at.its_there;
          ask = at.ask;
          pending = at.pending;
          of_chunk = at.of_chunk;
          awaits = at.awaits;
        }
      ]

      -- where a chunk's asks went before
      asked_home : (c : ℕ) → home_of_chunk r c ≡ Some home → home_of_chunk after c ≡ Some (length old)
      asked_home c at = ap (home_of_chunk after) (is.apart c chunk home at at_home) ∙ its_home

      asked_there : (c j : ℕ) → j ≢ home → home_of_chunk r c ≡ Some j → home_of_chunk after c ≡ Some j
      asked_there c j other at = home_after c (λ e. other (same_Some j home (sym at ∙ ap (home_of_chunk r) e ∙ at_home))) ∙ at

      pub host_mid : IsAnchoredHostOf after mid host
      host_mid = record {
        volume = is_host.volume;
        ports = is_host.ports;
        asking = λ port c at. asking_mid port c (is_host.asking port c at);
        apart = is_host.apart;
        quiet = quiet;
      } where
        quiet : (j : ℕ) (c : ChunkIs) → ((port d : ℕ) → pending_at host port ≡ Some d → home_of_chunk after d ≢ Some j) → slice_get mid j ≡ Some c → (port : PortIs) → slice_get c.ports host.mount.files.mount ≡ Some port → port.ask ≡ None
        quiet j c other at port its = elim (mid_cases j c at) [
          | inl end ↦
              let was = rehomed_from from.ports host.mount.files.mount port (ap (λ (x : ChunkIs). slice_get x.ports host.mount.files.mount) end.1 ∙ its) in
              was.2 ∙ is_host.quiet home from (λ p d pends e. other p d pends (asked_home d e ∙ ap (λ (n : ℕ). Some n) (sym end.0))) there was.0 was.1
          | inr front ↦ elim front [
            | inl here ↦ new_quiet host.mount.files.mount port (ap (λ (x : ChunkIs). slice_get x.ports host.mount.files.mount) here.1 ∙ its)
            | inr elsewhere ↦ is_host.quiet j c (λ p d pends e. other p d pends (asked_there d j elsewhere.0 e)) elsewhere.1 port its
          ]
        ]

-- The chunk begins to move
module _ (old : List ChunkIs) (f : FleetIs) (is_fleet : IsFleetOf old f) (ready : AreReady old) (none : f.routes.moving ≡ None) (few : length old < 8) (chunk : ℕ) (chunk_low : chunk < length f.routes.routes)
    (home : ℕ) (at_home : home_of_chunk f.routes chunk ≡ Some home) (from group : ChunkIs) (there : slice_get old home ≡ Some from) (number : group.group.number ≡ length old)
    (left_ready : ChunkIsReady (record from { ports = new_ports })) (taken_ready : ChunkIsReady (record group { ports = map rehomed from.ports })) where
  abbrev pub middle : List ChunkIs
  middle = mid old home from group there

  abbrev pub routes_then : RoutesIs
  routes_then = moving_to f.routes chunk (length old)

  abbrev pub fleet_then : MoverIs → FleetIs
  fleet_then m = record f { routes = routes_then; mover = Some m }

  pub middle_ready : AreReady middle
  middle_ready = ready_mid old home from group there ready number left_ready taken_ready

  pub middle_quiet : AreQuiet mover_port middle
  middle_quiet = quiet_mid old home from group there mover_port (none_quiet old f is_fleet none)

  pub home_there : slice_get middle home ≡ Some (record from { ports = new_ports })
  home_there = left_there old home from group there

  hosts_middle : (m : MoverIs) → AreHostsOf middle (fleet_then m)
  hosts_middle m =
      let is = is_fleet.are_hosts in
      let count = mid_count old home from group there in record {
        volume = is.volume;
        groups = omega (arith, count, few);
        count = is.count;
        routed = subst (λ n. AreRouted n routes_then) (sym count) (routed_begun f.routes none chunk (length old) home at_home chunk_low is.routed);
        few = is.few;
        anchors = is.anchors;
        room = is.room;
        each = λ n host at. let it = is.each n host at in record { number = it.number; volume = it.volume; is_host = host_mid old home from group there f.routes none chunk at_home is.routed host it.is_host; calls = it.calls };
        free = λ n high under. quiet_mid old home from group there n (is.free n high under);
      }

  -- and the mover asks to read
  module _ (m : MoverIs) (span : Span) (steps : record { next = Read span; mover = m } ≡ step (new_mover chunk (f.volume.sectors / 8)) None) (going : m.done < m.pieces) (reads : m.asked ≡ Some Reading) (pieces : 8 * m.pieces ≡ f.volume.sectors)
      (is : ChunkIs) (run : (halts : List Halt) → run_of halts is ≡ port_asked (run_of halts (record from { ports = new_ports })) mover_port (asks.Read chunk span)) (same : is ≡ record from { ports = is.ports }) (is_ready : ChunkIsReady is) where
    abbrev new : List ChunkIs
    new = slice_set middle home is

    so : (span ≡ piece m.done) × (m.chunk ≡ chunk) × (m.pieces ≡ f.volume.sectors / 8)
    so = stepped_so (new_mover chunk (f.volume.sectors / 8)) None (Read span) m steps

    count_new : length new ≡ suc (length old)
    count_new = set_length middle home is ∙ mid_count old home from group there ∙ omega arith

    begun_fleet : IsFleetOf new (fleet_then m)
    begun_fleet =
        let moving : Moving = record { chunk = chunk; to = length old } in
        let b : Between = record { from = home; to = length old } in
        fleet_moving new (fleet_then m) moving b m refl (between_groups f.routes none chunk (length old) home at_home) refl
        (hosts_put middle home (record from { ports = new_ports }) is home_there (asks.Read chunk span) middle_ready middle_quiet run same is_ready (fleet_then m) (hosts_middle m))
        (mover_put middle home (record from { ports = new_ports }) is home_there (asks.Read chunk span) middle_ready middle_quiet run same is_ready f.volume.sectors moving b m Reading refl (sym so.1, so.0) so.1 pieces going reads)

    new_elsewhere : (j : ℕ) (c : ChunkIs) → j ≢ home → slice_get old j ≡ Some c → slice_get new j ≡ Some c
    new_elsewhere j c other at = set_elsewhere middle home j is other ∙ others_there old home from group there j c other at

    begun_run : (halts : List Halt) → chunk_moves chunk (run_of halts group) (volume_stands_at halts old f) ≡ record { volume = volume_stands_at halts new (fleet_then m); told = Moves chunk (length old) ∷ Carries chunk None (Read span) ∷ [] }
    begun_run halts =
        let v : VolumeRun = volume_stands_at halts old f in
        let last : length v.chunks ≡ length old = length-map old (run_of halts) in
        let begins : List ChunkRun → ℕ → MoverStep → VolumeTold = λ cs n s. after_telling (Moves chunk n ∷ []) (carries_on (record v { chunks = cs; routes = moving_to f.routes chunk n }) None s) in
        let puts : List ChunkRun → ℕ → VolumeTold = λ cs k. record { volume = record v { chunks = cs; routes = routes_then; mover = Some m }; told = Moves chunk (length old) ∷ Carries k None (Read span) ∷ [] } in
        let w : VolumeRun = record v { chunks = chunk_runs halts middle; routes = routes_then } in
        ap (λ (o : Option ℕ). moves_from chunk o (run_of halts group) v) at_home
        ∙ ap (λ (cs : List ChunkRun). begins cs (length v.chunks) (step (new_mover chunk (f.volume.sectors / 8)) None)) (runs_mid old home from group there halts)
        ∙ ap (λ n. begins (chunk_runs halts middle) n (step (new_mover chunk (f.volume.sectors / 8)) None)) last
        ∙ ap (begins (chunk_runs halts middle) (length old)) (sym steps)
        ∙ ap (λ (o : Option Between). puts (mover_puts w (option_map (λ (b : Between). b.from) o) (asks.Read m.chunk span)) m.chunk) (between_groups f.routes none chunk (length old) home at_home)
        ∙ ap (λ k. puts (mover_puts w (Some home) (asks.Read k span)) k) so.1
        ∙ ap (λ (cs : List ChunkRun). puts cs chunk) (run_put middle home (record from { ports = new_ports }) is home_there (asks.Read chunk span) middle_ready middle_quiet run same is_ready halts)

    pub has_begun : HasBegunMove chunk group old f new (fleet_then m)
    has_begun = record {
      ready = ready_put middle home (record from { ports = new_ports }) is home_there (asks.Read chunk span) middle_ready middle_quiet run same is_ready;
      is_fleet = begun_fleet;
      count = count_new;
      groups = λ j was now at to. elim (cases_eq j home) [
        | inl here ↦
            let was_from : was ≡ from = same_Some was from (sym at ∙ ap (slice_get old) here ∙ there) in
            let now_is : now ≡ is = same_Some now is (sym to ∙ ap (slice_get new) here ∙ set_there middle home (record from { ports = new_ports }) is home_there) in
            subst (λ (x : ChunkIs). now ≡ record x { ports = now.ports }) (sym was_from) (subst (λ (x : ChunkIs). x ≡ record from { ports = x.ports }) (sym now_is) same)
        | inr other ↦ subst (λ (x : ChunkIs). x ≡ record was { ports = x.ports }) (same_Some was now (sym (new_elsewhere j was other at) ∙ to)) refl
      ];
      last = λ now at.
          let not_home : length old ≢ home = λ e. absurd (omega (arith, e, low old home from group there)) in
          let at_last = set_elsewhere middle home (length old) is not_home ∙ taken_there old home from group there in
          subst (λ (x : ChunkIs). x ≡ record group { ports = x.ports }) (same_Some (taken old home from group there) now (sym at_last ∙ at)) refl;
      hosts = (refl, refl, refl, refl);
      told = Moves chunk (length old) ∷ Carries chunk None (Read span) ∷ [];
      silent = refl;
      run = λ halts tells. begun_run halts;
    }
