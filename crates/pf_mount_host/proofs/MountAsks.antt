-- What the mount asks at a port goes into its group.
use Rattle.std.proofs.Common.{◌≡◌, ◌≢◌, ◌⊎◌, ℕ, ◌<◌, Bool, true, false, ◌==◌, if◌then◌else◌, List, [], ◌∷◌, length, Option, Some, None, slice_get, slice_set, inl, inr, refl, sym, ap, subst, ◌∙◌, append-nil}
use Rattle.std.specs.Prelude.{not, ◌&&◌}
use Rattle.std.proofs.lemmas.Bool.{false≢true}
use Rattle.std.proofs.lemmas.Option.{none-some, same_Some}
use Rattle.pf_base.specs.declared.asks.Ask.{Ask}
use Rattle.pf_base.specs.Asks.{chunk_of}
use Rattle.pf_entry.proofs.Lists.{set_cases, set_there}
use Rattle.pf_world_moments.specs.pf_group_network.proofs.Lists.{set_elsewhere, set_length, set_mapped, something_there}
use Rattle.pf_asks.specs.Ports.{PortIs}
use Rattle.pf_journal.specs.Layouts.{layout_of}
use Rattle.pf_mount.specs.Mounts.{MountIs, ask_at, mount_asked as having_asked, asked_anchor, asked_data}
use Rattle.pf_mount.specs.Nexts.{going, having_put, is_busy, is_data_ask, may_go, next_ask}
use Rattle.pf_mount.specs.Standing.{Awaits, AwaitsStill}
use Rattle.pf_world_moments.specs.pf_group_rounds.specs.Growing.{HasGrown}
use Rattle.pf_world_moments.specs.pf_group_rounds.specs.Halts.{Halt}
use Rattle.pf_world_moments.specs.pf_group_rounds.proofs.GroupGrowth.{grown_refl}
use Rattle.pf_world_moments.specs.pf_chunk.specs.Driving.{port_asked, asked_at}
use Rattle.pf_world_moments.specs.pf_chunk.specs.Runs.{ChunkRun}
use Rattle.pf_world_moments.specs.pf_chunk.specs.Views.{ChunkIs, ChunkIsReady, run_of}
use Rattle.pf_world_moments.specs.pf_group.specs.GroupIs.{GroupIs, state_of}
use Rattle.pf_world_moments.specs.pf_group.specs.Packets.{NoneComesBack}
use Rattle.pf_move.specs.Routes.{RoutesIs, home_of_chunk}
use Rattle.pf_world_moments.specs.Moments.{Acts, Asks, Moment}
use Rattle.pf_world_moments.specs.Hosts.{put_at, run_after, with_run}
use Rattle.pf_world_moments.specs.Steps.{ChunkGoes, chunk_runs}
use Rattle.pf_world_moments.proofs.PortDrives.{ready_one}
use Rattle.pf_world_moments.proofs.Groups.{left_refl, run_there}
use Rattle.pf_world_moments.proofs.PortSteps.{gone_refl}
use Rattle.pf_mount_host.specs.Hosts.{HostIs, Stepped, asks, mount_number, pending_at, puts, puts_if}
use Rattle.pf_mount_host.specs.Steps.{AreReadyFor, HasDone, IsAnchoredHostOf, IsAskingAt}
use Rattle.pf_mount_host.proofs.GroupPorts.{gone_one}
use Rattle.pf_mount_host.proofs.PendingAsks.{at_place, found_so, pends_there}

-- What is handed out keeps the mount's number, its volume and its calls

kept_by : (b : Bool) (m x y : MountIs) → x.files ≡ m.files → y.files ≡ m.files → (if b then x else y).files ≡ m.files
kept_by true m x y of_x of_y = of_x
kept_by false m x y of_x of_y = of_y

pub files_stay : (m : MountIs) (port : ℕ) → (having_asked m port).files ≡ m.files
files_stay m port = kept_by (port == length (layout_of m.position.layout).anchors) m (asked_data m) (asked_anchor m port) refl refl

-- What a port asks

-- what goes is what the mount has to ask, for a chunk of which no ask is pending
went : (b : Bool) (ask its : Ask) → ◌≡◌ {A = Option Ask} (if b then Some ask else None) (Some its) → (b ≡ true) × (ask ≡ its)
went true ask its is = (refl, same_Some ask its is)
went false ask its is = absurd (none-some its is)

free_when : (a busy : Bool) → (a && not busy) ≡ true → busy ≡ false
free_when true true is = absurd (false≢true is)
free_when true false is = refl
free_when false busy is = absurd (false≢true is)

goes_so : (m : MountIs) (busy : List (Option ℕ)) (port : ℕ) (its : Ask) (ask : Option Ask) → going m busy port ask ≡ Some its → (ask ≡ Some its) × (is_busy busy (chunk_of its) ≡ false)
goes_so m busy port its None is = absurd (none-some its is)
goes_so m busy port its (Some ask) is =
    let w = went (may_go m busy port ask) ask its is in (
      ap (λ (a : Ask). Some a) w.1,
      ap (λ (a : Ask). is_busy busy (chunk_of a)) (sym w.1) ∙ free_when (if port == length (layout_of m.position.layout).anchors then is_data_ask m ask else true) (is_busy busy (chunk_of ask)) w.0,
    )

-- nothing is to be asked there
pub nothing_asked : (routes : RoutesIs) (chunks : List ChunkIs) (host next : HostIs) (port : ℕ) → AreReadyFor routes chunks host → next_ask host.mount host.at port ≡ None → next ≡ host
    → (text : List ℕ) → HasDone (λ halts r cs h. asks r port cs h) routes chunks text host chunks text next
nothing_asked routes chunks host next port ready none same text = subst (HasDone (λ halts r cs h. asks r port cs h) routes chunks text host chunks text) (sym same) (record {
  ready = ready.ready;
  gone = gone_refl (mount_number host.mount) chunks;
  is_host = ready.is_host;
  number = refl;
  layout = refl;
  volume = refl;
  calls = refl;
  told = [];
  put = sym (append-nil text);
  run = λ halts tells. ap (puts_if routes port (chunk_runs halts chunks) host) none;
})

-- what is known of a port at which this is asked
pub record Looks (host : HostIs) (port : ℕ) (ask : Ask) : Type 0 where
  pub low : port < 4
  pub is : next_ask host.mount host.at port ≡ Some ask
  pub still : (other : ℕ) → other ≢ port → AwaitsStill host.mount (having_asked host.mount port) other
  pub silent : (its : Ask) → Awaits host.mount port (Some its) → ask_at host.mount port ≡ None
  pub layout : (having_asked host.mount port).position.layout ≡ host.mount.position.layout

-- as the code has it
pub nothing_there : (port : ℕ) (host inside : HostIs) (m : MountIs) (ask : Option Ask) → inside ≡ host → m ≡ having_put inside.mount port ask → ask ≡ None → ◌≡◌ {A = HostIs} (record { mount = m; at = inside.at }) host
nothing_there port host inside m ask is put none = ap (λ (x : MountIs). record { mount = x; at = inside.at }) (put ∙ ap (having_put inside.mount port) none) ∙ is

pub asked_there : (port at : ℕ) (host inside : HostIs) (m : MountIs) (ask : Ask) → inside ≡ host → m ≡ having_asked inside.mount port → at ≡ chunk_of ask
    → ◌≡◌ {A = HostIs} (record { mount = m; at = slice_set inside.at port (Some at) }) (record { mount = having_asked host.mount port; at = slice_set host.at port (Some (chunk_of ask)) })
asked_there port at host inside m ask is asks_it at_is =
    ap (λ (x : MountIs). record { mount = x; at = slice_set inside.at port (Some at) }) asks_it
    ∙ ap (λ (h : HostIs). record { mount = having_asked h.mount port; at = slice_set h.at port (Some at) }) is
    ∙ ap (λ (n : ℕ). record { mount = having_asked host.mount port; at = slice_set host.at port (Some n) }) at_is

module _ (routes : RoutesIs) (chunks : List ChunkIs) (host : HostIs) (port : ℕ) (ask : Ask) (ready : AreReadyFor routes chunks host) (l : Looks host port ask) where
  abbrev chunk : ℕ
  chunk = chunk_of ask

  -- the mount asks it, and no port asks for its chunk
  goes_there : (ask_at host.mount port ≡ Some ask) × (is_busy host.at chunk ≡ false)
  goes_there = goes_so host.mount host.at port ask (ask_at host.mount port) l.is

  none_for : (p : ℕ) → pending_at host p ≡ Some chunk → ⊥
  none_for p at = false≢true (sym goes_there.1 ∙ found_so host p chunk at)

  -- nothing is pending at the port itself
  none_here : (its : ℕ) → pending_at host port ≡ Some its → ⊥
  none_here its at = let w = ready.is_host.asking port its at in none-some ask (sym (l.silent w.ask w.awaits) ∙ goes_there.0)

  apart_from : (p its : ℕ) → pending_at host p ≡ Some its → p ≢ port
  apart_from p its at same = none_here its (ap (pending_at host) (sym same) ∙ at)

  number_stays : mount_number (having_asked host.mount port) ≡ mount_number host.mount
  number_stays = ap (λ f. f.mount) (files_stay host.mount port)

  -- it asks this, of a group that has the asks for the chunk
  module _ (k : ℕ) (c new : ChunkIs) (there : slice_get chunks k ≡ Some c) (home : home_of_chunk routes chunk ≡ Some k) where
    -- the port of the mount there is free
    pub port_free : (its : PortIs) → slice_get c.ports (mount_number host.mount) ≡ Some its → its.ask ≡ None
    port_free its its_there = ready.is_host.quiet k c (λ p other at at_home. none_for p (at ∙ ap (λ (n : ℕ). Some n) (ready.routed.apart other chunk k at_home home))) there its its_there

    module _ (its : PortIs) (its_there : slice_get c.ports (mount_number host.mount) ≡ Some its) (same : new ≡ record c { ports = new.ports }) (run : (halts : List Halt) → run_of halts new ≡ port_asked (run_of halts c) (mount_number host.mount) ask)
        (is_ready : ChunkIsReady new) (awaits : Awaits (having_asked host.mount port) port (Some ask)) (next : HostIs) (next_is : next ≡ record { mount = having_asked host.mount port; at = slice_set host.at port (Some chunk) }) where
      put_is : new.ports ≡ slice_set c.ports (mount_number host.mount) (record its { ask = Some ask; sent = None })
      put_is = ap (λ (x : ChunkRun). x.ports) (run []) ∙ ap (λ (p : Option PortIs). (asked_at (run_of [] c) (mount_number host.mount) ask p).ports) its_there

      now_there : slice_get new.ports (mount_number host.mount) ≡ Some (record its { ask = Some ask; sent = None })
      now_there = ap (λ (ports : List PortIs). slice_get ports (mount_number host.mount)) put_is ∙ set_there c.ports (mount_number host.mount) its (record its { ask = Some ask; sent = None }) its_there

      goes : ChunkGoes (mount_number host.mount) c new
      goes =
          let group = ap (λ (x : ChunkIs). x.group) same in record {
            grown = subst (HasGrown c.group) (sym group) (grown_refl c.group);
            left = subst (λ (g : GroupIs). NoneComesBack (state_of c.group) (state_of g)) (sym group) (left_refl c.group);
            first = ap (λ (x : ChunkIs). x.first_left) same;
            next = ap (λ (x : ChunkIs). x.next) same;
            others = λ n other. ap (λ (ports : List PortIs). slice_get ports n) put_is ∙ set_elsewhere c.ports (mount_number host.mount) n (record its { ask = Some ask; sent = None }) other;
          }

      number_is : mount_number next.mount ≡ mount_number host.mount
      number_is = ap (λ (h : HostIs). mount_number h.mount) next_is ∙ number_stays

      mount_is : next.mount ≡ having_asked host.mount port
      mount_is = ap (λ (h : HostIs). h.mount) next_is

      -- what pends now is this, or it was pending elsewhere
      abbrev Pended : (p its_chunk : ℕ) → Type 0
      Pended p its_chunk = ((p ≡ port) × (its_chunk ≡ chunk)) ⊎ ((p ≢ port) × (pending_at host p ≡ Some its_chunk))

      pended : (p its_chunk : ℕ) → pending_at next p ≡ Some its_chunk → Pended p its_chunk
      pended p its_chunk at = elim (set_cases host.at port (Some chunk) p (Some its_chunk) (ap (λ (h : HostIs). slice_get h.at p) (sym next_is) ∙ at_place next p its_chunk at)) [
        | inl here ↦ inl (here.0, sym (same_Some chunk its_chunk here.1))
        | inr other ↦ inr (other.0, pends_there host p its_chunk other.1)
      ]

      pends_on : (p its_chunk : ℕ) → pending_at host p ≡ Some its_chunk → pending_at next p ≡ Some its_chunk
      pends_on p its_chunk at =
          pends_there next p its_chunk (ap (λ (h : HostIs). slice_get h.at p) next_is ∙ set_elsewhere host.at port p (Some chunk) (apart_from p its_chunk at) ∙ at_place host p its_chunk at)

      pends_now : (at : Option ℕ) → slice_get host.at port ≡ Some at → pending_at next port ≡ Some chunk
      pends_now at was = pends_there next port chunk (ap (λ (h : HostIs). slice_get h.at port) next_is ∙ set_there host.at port at (Some chunk) was)

      asking_now : (p its_chunk : ℕ) → p ≡ port → its_chunk ≡ chunk → IsAskingAt routes (slice_set chunks k new) next.mount p its_chunk
      asking_now p its_chunk here is = record {
        k = k;
        home = ap (home_of_chunk routes) is ∙ home;
        c = new;
        there = set_there chunks k c new there;
        its = record its { ask = Some ask; sent = None };
        its_there = ap (slice_get new.ports) number_is ∙ now_there;
        ask = ask;
        pending = refl;
        of_chunk = sym is;
        awaits = subst (λ (m : MountIs). Awaits m p (Some ask)) (sym mount_is) (subst (λ q. Awaits (having_asked host.mount port) q (Some ask)) (sym here) awaits);
      }

      asking_still : (p its_chunk : ℕ) → p ≢ port → pending_at host p ≡ Some its_chunk → IsAskingAt routes (slice_set chunks k new) next.mount p its_chunk
      asking_still p its_chunk apart at =
          let w = ready.is_host.asking p its_chunk at in
          let other : w.k ≢ k = λ here.
          none_for p (at ∙ ap (λ (n : ℕ). Some n) (ready.routed.apart its_chunk chunk k (w.home ∙ ap (λ (i : ℕ). Some i) here) home)) in record {
            k = w.k;
            home = w.home;
            c = w.c;
            there = set_elsewhere chunks k w.k new other ∙ w.there;
            its = w.its;
            its_there = ap (slice_get w.c.ports) number_is ∙ w.its_there;
            ask = w.ask;
            pending = w.pending;
            of_chunk = w.of_chunk;
            awaits = subst (λ (m : MountIs). Awaits m p (Some w.ask)) (sym mount_is) (l.still p apart (Some w.ask) w.awaits);
          }

      asking : (p its_chunk : ℕ) → Pended p its_chunk → IsAskingAt routes (slice_set chunks k new) next.mount p its_chunk
      asking p its_chunk (inl here) = asking_now p its_chunk here.0 here.1
      asking p its_chunk (inr was) = asking_still p its_chunk was.0 was.1

      apart_now : (p other its_chunk : ℕ) → Pended p its_chunk → Pended other its_chunk → p ≡ other
      apart_now p other its_chunk (inl here) (inl there_too) = here.0 ∙ sym there_too.0
      apart_now p other its_chunk (inl here) (inr was) = absurd (none_for other (was.1 ∙ ap (λ (n : ℕ). Some n) here.1))
      apart_now p other its_chunk (inr was) (inl here) = absurd (none_for p (was.1 ∙ ap (λ (n : ℕ). Some n) here.1))
      apart_now p other its_chunk (inr was) (inr was_too) = ready.is_host.apart p other its_chunk was.1 was_too.1

      in_place : (at : Option ℕ) × (slice_get host.at port ≡ Some at)
      in_place = something_there host.at port (subst (λ n. port < n) (sym ready.is_host.ports) l.low)

      quiet_now : (j : ℕ) (x : ChunkIs) → ((p its_chunk : ℕ) → pending_at next p ≡ Some its_chunk → home_of_chunk routes its_chunk ≢ Some j) → slice_get (slice_set chunks k new) j ≡ Some x
          → (p : PortIs) → slice_get x.ports (mount_number next.mount) ≡ Some p → p.ask ≡ None
      quiet_now j x none to p p_there = elim (set_cases chunks k new j x to) [
        | inl here ↦ absurd (none port chunk (pends_now in_place.0 in_place.1) (home ∙ ap (λ (i : ℕ). Some i) (sym here.0)))
        | inr other ↦ ready.is_host.quiet j x (λ q its_chunk at. none q its_chunk (pends_on q its_chunk at)) other.1 p (ap (slice_get x.ports) (sym number_is) ∙ p_there)
      ]

      asks_on : IsAnchoredHostOf routes (slice_set chunks k new) next
      asks_on = record {
        volume = ap (λ (h : HostIs). h.mount.files.volume.chunks) next_is ∙ ap (λ f. f.volume.chunks) (files_stay host.mount port) ∙ ready.is_host.volume;
        ports = ap (λ (h : HostIs). length h.at) next_is ∙ set_length host.at port (Some chunk) ∙ ready.is_host.ports;
        asking = λ p its_chunk at. asking p its_chunk (pended p its_chunk at);
        apart = λ p other its_chunk at other_at. apart_now p other its_chunk (pended p its_chunk at) (pended other its_chunk other_at);
        quiet = quiet_now;
      }

      run_puts : (halts : List Halt) → puts routes port (chunk_runs halts chunks) host ask ≡ record { chunks = chunk_runs halts (slice_set chunks k new); host = next; told = Acts (mount_number host.mount) (Asks port ask) ∷ [] }
      run_puts halts =
          let told : List Moment = Acts (mount_number host.mount) (Asks port ask) ∷ [] in
          ap (λ (h : HostIs). let s : Stepped = record { chunks = put_at (chunk_runs halts chunks) (home_of_chunk routes chunk) (mount_number host.mount) ask; host = h; told = told } in s) (sym next_is)
          ∙ ap (λ (cs : List ChunkRun). let s : Stepped = record { chunks = cs; host = next; told = told } in s)
          (ap (λ (group : Option ℕ). put_at (chunk_runs halts chunks) group (mount_number host.mount) ask) home
          ∙ ap (λ (x : Option ChunkRun). with_run (chunk_runs halts chunks) k (run_after x (λ y. port_asked y (mount_number host.mount) ask))) (run_there halts chunks k c there)
          ∙ ap (λ (x : ChunkRun). slice_set (chunk_runs halts chunks) k x) (sym (run halts))
          ∙ set_mapped (run_of halts) chunks k new)

      pub was_asked : (text : List ℕ) → HasDone (λ halts r cs h. asks r port cs h) routes chunks text host (slice_set chunks k new) text next
      was_asked text = record {
        ready = ready_one (mount_number host.mount) k chunks c new there ready.ready (ap (λ (x : ChunkIs). x.group.number) same) is_ready;
        gone = gone_one (mount_number host.mount) k chunks c new there goes;
        is_host = asks_on;
        number = number_is;
        layout = ap (λ (h : HostIs). h.mount.position.layout) next_is ∙ l.layout;
        volume = ap (λ (h : HostIs). h.mount.files.volume) next_is ∙ ap (λ f. f.volume) (files_stay host.mount port);
        calls = ap (λ (h : HostIs). h.mount.files.calls) next_is ∙ ap (λ f. f.calls) (files_stay host.mount port);
        told = Acts (mount_number host.mount) (Asks port ask) ∷ [];
        put = sym (append-nil text);
        run = λ halts tells. ap (puts_if routes port (chunk_runs halts chunks) host) l.is ∙ run_puts halts;
      }
