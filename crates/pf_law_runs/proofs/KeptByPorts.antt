-- What is kept by the steps of ports, and by what is said, is kept by the steps of hosts.
use Rattle.std.proofs.Common.{◌≡◌, ℕ, zero, suc, ◌<◌, ◌==◌, if◌then◌else◌, List, [], ◌∷◌, ◌++◌, length, Option, Some, None, slice_get, slice_set, refl, sym, ap, subst, ◌∙◌, append-nil, ◌≢◌}
use Rattle.std.proofs.lemmas.List.{append_assoc}
use Rattle.pf_base.specs.Asks.{chunk_of}
use Rattle.pf_base.specs.declared.asks.Ask.{Ask}
use Rattle.pf_base.specs.declared.asks.Reply.{Reply}
use Rattle.pf_entry.specs.Lists.{Every}
use Rattle.pf_entry.proofs.Cases.{by_test}
use Rattle.pf_tree.specs.Calls.{FileCall}
use Rattle.pf_move.specs.Routes.{RoutesIs, home_of_chunk}
use Rattle.pf_mount.specs.declared.work.MountNext.{MountNext}
use Rattle.pf_mount.specs.declared.work.MountNext.TheVariants.{Done, Failed, Ready}
use Rattle.pf_mount_errands.specs.Positions.{anchors_of}
use Rattle.pf_mount.specs.Mounts.{MountIs, mount_answered, mount_asked as having_asked, asked_anchor, asked_data, starting}
use Rattle.pf_mount.specs.Nexts.{next_ask, ports_of}
use Rattle.pf_world.specs.pf_group_rounds.specs.Halts.{Halt}
use Rattle.pf_world.specs.pf_chunk.specs.Driving.{Driven, port_heard, led}
use Rattle.pf_world.specs.pf_chunk.specs.Runs.{ChunkRun, mover_port}
use Rattle.pf_world.specs.pf_world_moments.specs.Hosts.{pending_call, handed_moments, put_at, Drove, drove_as}
use Rattle.pf_world.specs.pf_world_moments.specs.Moments.{Acts, Asks, Calls, Moment, Takes, Carries, Hands, Moves as MovesTo, Writes}
use Rattle.pf_world.specs.pf_mount_host.specs.Hosts.{HostIs, Stepped, asks, asks_all, asks_on, call_begun, call_ended, host_followed, group_asked_at, hands_ask, hands_at, hands_of, hears, hears_all, hears_at, hears_of, in_turn, mount_number, puts_if, host_quietly, stepped, takes_if}
use Rattle.pf_world.specs.declared.kind.Kind.{Kind}
use Rattle.pf_law_movers.proofs.PortSteps.{hears_step, leads_step, IsPortStep}
use Rattle.pf_world.specs.declared.kind.Kind.TheVariants.{Raw}
use Rattle.pf_law_movers.proofs.HistoryGrowth.{Grows}
use Rattle.pf_law_movers.proofs.WriteEvents.{AddsNoWrite}

-- what a host does, or a line
abbrev pub IsSaid : Moment → Type 0
IsSaid (Hands m k place) = ⊥
IsSaid (MovesTo chunk to) = ⊥
IsSaid (Carries chunk port_heard next) = ⊥
IsSaid moment = Unit {0}

-- A property of groups and of what was told is kept in a run of this kind where something is said, where something happens to a group, which is no
-- write but in a raw run, and where an ask is put into the port of a mount or this takes a step
pub record IsKeptByPorts (kind : Option Kind) (P : List ChunkRun → List Moment → Type 0) : Type 0 where
  pub telling : (chunks : List ChunkRun) (told : List Moment) (y : Moment) → IsSaid y → P chunks told → P chunks (told ++ y ∷ [])
  pub growing : (chunks : List ChunkRun) (told : List Moment) (k : ℕ) (c d : ChunkRun) → slice_get chunks k ≡ Some c → d.ports ≡ c.ports → Grows c.group d.group → (kind ≢ Some Raw → AddsNoWrite c.group.history d.group.history) → P chunks told
      → P (slice_set chunks d.group.number d) told
  pub putting : (chunks : List ChunkRun) (told : List Moment) (group : Option ℕ) (m : ℕ) (ask : Ask) → m < mover_port → P chunks told → P (put_at chunks group m ask) told
  pub stepping : (chunks : List ChunkRun) (told : List Moment) (k : ℕ) (c : ChunkRun) (m : ℕ) (d : Driven) → m < mover_port → slice_get chunks k ≡ Some c → IsPortStep m c d → P chunks told → P (slice_set chunks k d.chunk) (told ++ handed_moments m k d.place)

-- Steps of hosts

ended_said : (m : ℕ) (call : Option FileCall) (next : Option MountNext) → Every IsSaid (call_ended m call next)
ended_said m call None = tt
ended_said m call (Some Ready) = (tt, tt)
ended_said m call (Some (Done answer)) = (tt, (tt, tt))
ended_said m call (Some Failed) = tt

-- a mount that asks keeps its number
asks_as : (mount : MountIs) (port : ℕ) → (having_asked mount port).files.mount ≡ mount.files.mount
asks_as mount port = by_test (port == anchors_of mount.position) (λ b. (if b then asked_data mount else asked_anchor mount port).files.mount ≡ mount.files.mount) (λ _. refl) (λ _. refl)

module _ (kind : Option Kind) (P : List ChunkRun → List Moment → Type 0) (kept : IsKeptByPorts kind P) where
  pub all_said : (chunks : List ChunkRun) (told more : List Moment) → Every IsSaid more → P chunks told → P chunks (told ++ more)
  all_said chunks told [] said is = subst (P chunks) (sym (append-nil told)) is
  all_said chunks told (y ∷ more) said is = subst (P chunks) (append_assoc told (y ∷ []) more) (all_said chunks (told ++ y ∷ []) more said.1 (kept.telling chunks told y said.0 is))

  -- the port of a mount takes a step, and its lines are told
  pub step_kept : (chunks : List ChunkRun) (told : List Moment) (k : ℕ) (c : ChunkRun) (m : ℕ) (d : Driven) → m < mover_port → slice_get chunks k ≡ Some c → IsPortStep m c d → P chunks told
      → let x : Drove = drove_as chunks m k d in P x.chunks (told ++ x.told)
  step_kept chunks told k c m d low there step is =
      subst (P (slice_set chunks k d.chunk)) (append_assoc told (handed_moments m k d.place) (Writes d.text ∷ []))
      (kept.telling (slice_set chunks k d.chunk) (told ++ handed_moments m k d.place) (Writes d.text) tt (kept.stepping chunks told k c m d low there step is))

  -- it is kept, and the mount has a number below that of the mover's port
  abbrev pub IsKeptLow : List Moment → Stepped → Type 0
  IsKeptLow told s = P s.chunks (told ++ s.told) × (mount_number s.host.mount < mover_port)

  -- by this step of any such host
  abbrev Keeps : (List ChunkRun → HostIs → Stepped) → Type 0
  Keeps step = (chunks : List ChunkRun) (told : List Moment) (host : HostIs) → mount_number host.mount < mover_port → P chunks told → IsKeptLow told (step chunks host)

  follow_kept : (told : List Moment) (s : Stepped) (next : List ChunkRun → HostIs → Stepped) → IsKeptLow told s → Keeps next → IsKeptLow told (host_followed s next)
  follow_kept told s next is more =
      let after : Stepped = next s.chunks s.host in
      let both = more s.chunks (told ++ s.told) s.host is.1 is.0 in
      (subst (P after.chunks) (append_assoc told s.told after.told) both.0, both.1)

  idle_kept : (chunks : List ChunkRun) (told : List Moment) (host : HostIs) → mount_number host.mount < mover_port → P chunks told → IsKeptLow told (host_quietly chunks host)
  idle_kept chunks told host low is = (all_said chunks told [] tt is, low)

  in_turn_kept : (count : ℕ) (step : (port : ℕ) → List ChunkRun → HostIs → Stepped) → ((port : ℕ) → Keeps (step port)) → Keeps (in_turn count step)
  in_turn_kept zero step each chunks told host low is = idle_kept chunks told host low is
  in_turn_kept (suc port) step each chunks told host low is = follow_kept told (in_turn port step chunks host) (step port) (in_turn_kept port step each chunks told host low is) (each port)

  -- Answers

  heard_kept : (chunks : List ChunkRun) (told : List Moment) (k : ℕ) (c : ChunkRun) (m : ℕ) → m < mover_port → slice_get chunks k ≡ Some c → P chunks told → P (slice_set chunks k (port_heard c m).chunk) told
  heard_kept chunks told k c m low there is =
      let d : Driven = port_heard c m in
      let step = hears_step c m in
      subst (P (slice_set chunks k d.chunk)) (ap (λ place. told ++ handed_moments m k place) step.1 ∙ append-nil told) (kept.stepping chunks told k c m d low there step.0 is)

  takes_kept : (chunks : List ChunkRun) (told : List Moment) (host : HostIs) (port by : ℕ) (reply : Option Reply) → mount_number host.mount < mover_port → P chunks told → IsKeptLow told (takes_if chunks host port by reply)
  takes_kept chunks told host port by None low is = idle_kept chunks told host low is
  takes_kept chunks told host port by (Some reply) low is =
      let m = mount_number host.mount in
      let call = pending_call host.mount.files.pending in
      let next = (mount_answered host.mount port reply).next in
      (all_said chunks told (Acts m (Takes port (record { reply = reply; by = by })) ∷ call_ended m call next) (tt, ended_said m call next) is, low)

  module _ (r : RoutesIs) where
    hears_kept : (port : ℕ) → Keeps (hears r port)
    hears_kept port chunks told host low is = by (group_asked_at r host port)
      where
        at : (k : ℕ) (o : Option ChunkRun) → slice_get chunks k ≡ o → IsKeptLow told (hears_of chunks host port k o)
        at k None there = idle_kept chunks told host low is
        at k (Some c) there =
            let m = mount_number host.mount in
            let d : Driven = port_heard c m in
            takes_kept (slice_set chunks k d.chunk) told host port (length d.chunk.group.history) d.reply low (heard_kept chunks told k c m low there is)

        by : (group : Option ℕ) → IsKeptLow told (hears_at chunks host port group)
        by None = idle_kept chunks told host low is
        by (Some k) = at k (slice_get chunks k) refl

    hears_all_kept : Keeps (hears_all r)
    hears_all_kept chunks told host low is = in_turn_kept (ports_of host.mount) (hears r) hears_kept chunks told host low is

    -- Asks

    puts_kept : (port : ℕ) (chunks : List ChunkRun) (told : List Moment) (host : HostIs) (ask : Option Ask) → mount_number host.mount < mover_port → P chunks told → IsKeptLow told (puts_if r port chunks host ask)
    puts_kept port chunks told host None low is = idle_kept chunks told host low is
    puts_kept port chunks told host (Some ask) low is =
        let group = home_of_chunk r (chunk_of ask) in
        (all_said (put_at chunks group (mount_number host.mount) ask) told (Acts (mount_number host.mount) (Asks port ask) ∷ []) (tt, tt) (kept.putting chunks told group (mount_number host.mount) ask low is), subst (λ n. n < mover_port) (sym (asks_as host.mount port)) low)

    asks_kept : (port : ℕ) → Keeps (asks r port)
    asks_kept port chunks told host low is = puts_kept port chunks told host (next_ask host.mount host.at port) low is

    module _ (halts : List Halt) where
      hands_kept : (port : ℕ) → Keeps (hands_ask halts r port)
      hands_kept port chunks told host low is = by (group_asked_at r host port)
        where
          at : (k : ℕ) (o : Option ChunkRun) → slice_get chunks k ≡ o → IsKeptLow told (hands_of halts chunks host k o)
          at k None there = idle_kept chunks told host low is
          at k (Some c) there = let m = mount_number host.mount in (step_kept chunks told k c m (led halts c m) low there (leads_step c m halts) is, low)

          by : (group : Option ℕ) → IsKeptLow told (hands_at halts chunks host group)
          by None = idle_kept chunks told host low is
          by (Some k) = at k (slice_get chunks k) refl

      asks_on_kept : (port : ℕ) → Keeps (asks_on halts r port)
      asks_on_kept port chunks told host low is = follow_kept told (asks r port chunks host) (hands_ask halts r port) (asks_kept port chunks told host low is) (hands_kept port)

      asks_all_kept : Keeps (asks_all halts r)
      asks_all_kept chunks told host low is = in_turn_kept (ports_of host.mount) (asks_on halts r) asks_on_kept chunks told host low is

      pub stepped_kept : (chunks : List ChunkRun) (told : List Moment) (host : HostIs) → mount_number host.mount < mover_port → P chunks told → IsKeptLow told (stepped halts r chunks host)
      unfolding stepped
      stepped_kept chunks told host low is = follow_kept told (hears_all r chunks host) (asks_all halts r) (hears_all_kept chunks told host low is) asks_all_kept

  -- a call begins
  pub begun_kept : (chunks : List ChunkRun) (told : List Moment) (host : HostIs) (call : FileCall) → mount_number host.mount < mover_port → P chunks told → IsKeptLow told (call_begun chunks host call)
  begun_kept chunks told host call low is =
      let m = mount_number host.mount in
      let next = (starting host.mount call).next in
      (all_said chunks told (Acts m (Calls call) ∷ call_ended m (Some call) next) (tt, ended_said m (Some call) next) is, low)
