-- A host asks what its mount asks at one of its ports next.
use Rattle.std.proofs.Common.{◌≡◌, ◌≢◌, ℕ, ◌<◌, ◌≤◌, inl, inr, ◌*◌, Bool, true, false, not, ◌==◌, if◌then◌else◌, List, [], ◌∷◌, ◌++◌, length, Option, Some, None, slice_get, slice_set, arith, refl, sym, ap, subst, ◌∙◌}
use Rattle.std.proofs.lemmas.Bool.{and_parts, cases_eq, cases_lt, false≢true, leb-true}
use Rattle.std.proofs.lemmas.List.{append_assoc}
use Rattle.std.proofs.lemmas.Option.{same_Some, slice_get_within}
use Rattle.pf_base.specs.Asks.{chunk_of}
use Rattle.pf_base.specs.declared.asks.Ask.{Ask}
use Rattle.pf_entry.proofs.Cases.{by_test}
use Rattle.pf_law_runs.specs.pf_group_network.proofs.Lists.{set_elsewhere, set_length, set_there}
use Rattle.pf_volume.specs.Volumes.{Extent, IsVolume}
use Rattle.pf_law_positions.specs.Deeds.{Deed, Takes}
use Rattle.pf_law_positions.specs.PortDeeds.{no_deed, port_ask}
use Rattle.pf_asks.specs.Ports.{PortIs}
use Rattle.pf_law_runs.specs.pf_law_service.specs.Services.{Service, service_asked, but}
use Rattle.pf_law_runs.specs.pf_law_service.specs.Served.{Asks, IsClientOfAsk, ChunkIsServed, Passes}
use Rattle.pf_journal.specs.Layouts.{LayoutIs, layout_of}
use Rattle.pf_mount.specs.declared.work.MountWork.{MountWork}
use Rattle.pf_mount.specs.declared.work.MountWork.TheVariants.{Ballots}
use Rattle.pf_mount.specs.Mounts.{MountIs, anchor_hands, ask_at, mount_asked as having_asked, asked_anchor, asked_data, stand_of}
use Rattle.pf_mount_errands.specs.Positions.{anchors_of}
use Rattle.pf_mount.specs.Nexts.{first_of_ask, going, is_busy, is_data_ask, may_go}
use Rattle.pf_mount.specs.Standing.{Awaits}
use Rattle.pf_mount.proofs.AwaitedAnswers.{handed_awaits}
use Rattle.pf_law_calls.specs.Lives.{Asks as AsksInput, Life, MountTold, lives}
use Rattle.pf_law_events.specs.Events.{MountsAreServed, Brings, Happening, IsDataBehind, IsSpelledIn, client_of, goes, matter_at, owed_now, owed_to, mounts_told}
use Rattle.pf_law_homes.specs.Ports.{IsBehindJournal, Matter, PortOwed, deed_of, pending_after}
use Rattle.pf_law_calls.proofs.CallWords.{are_short}
use Rattle.pf_move.specs.Routes.{home_of_chunk}
use Rattle.pf_law_runs.specs.pf_world.specs.pf_chunk.specs.Asks.{ask_reply}
use Rattle.pf_law_runs.specs.pf_world.specs.pf_chunk.specs.Driving.{port_asked, asked_at, with_port}
use Rattle.pf_law_runs.specs.pf_world.specs.pf_chunk.specs.Runs.{ChunkRun, mover_port}
use Rattle.pf_law_runs.specs.pf_world.specs.pf_world_moments.specs.Hosts.{put_at, run_after, with_run}
use Rattle.pf_law_runs.specs.pf_world.specs.pf_world_moments.specs.Moments.{Acts, Asks as AsksAct, Moment}
use Rattle.pf_law_runs.specs.pf_world.specs.pf_mount_host.specs.Hosts.{HostIs, Stepped, asks, mount_number, pending_at, puts, puts_if}
use Rattle.pf_law_runs.specs.pf_world.specs.pf_mount_host.proofs.PendingAsks.{found_so}
use Rattle.pf_law_runs.specs.pf_world.specs.pf_world_hosts.specs.Volumes.{VolumeRun}
use Rattle.pf_law_runs.specs.pf_law_movers.proofs.Lives.{its_own, not_its_own}
use Rattle.pf_law_runs.specs.pf_law_movers.proofs.ToldRoutes.{served_home}
use Rattle.pf_law_mounts.proofs.Ends.{answered_comes, begins_comes, deed_there, life_comes, other_life, other_owed, owed_comes, pending_here, pending_there, spelled_comes}
use Rattle.pf_law_mounts.proofs.AnchorClients.{client_is, anchors_are}
use Rattle.pf_law_mounts.proofs.HostReplies.{act_hands_nothing, nothing_handed}
use Rattle.pf_law_mounts.proofs.Homes.{home_small, home_there}
use Rattle.pf_law_mounts.proofs.HostMounts.{asked_pends, host_asks, none_owed}
use Rattle.pf_law_mounts.proofs.Middle.{AreSilent, AreSpelled, IsHome, Middle, home_is, routes_on, silent_elsewhere, stays, there_is}
use Rattle.pf_law_mounts.proofs.Nexts.{IsBy, KnownWith, idle_served, its_host, number_low, known_idly, known_op}
use Rattle.pf_law_mounts.proofs.Known.{IsAskedAt, IsHostOf, deeds_by, owed_of, ports_in}
use Rattle.pf_law_mounts.proofs.ServiceGrowth.{IsNoHanding, IsOp, but_other, but_same}
use Rattle.pf_law_mounts.proofs.ServiceSteps.{any_answer}
use Rattle.pf_law_mounts.proofs.MomentTells.{Tells}
use Rattle.pf_law_mounts.proofs.WaitingAsks.{IsAwaited, by_itself, data_taken, few_awaited, first_below}

not_so : (b : Bool) → not b ≡ true → b ≡ false
not_so true is = absurd (false≢true is)
not_so false is = refl

module _ (calls : ℕ) (v : VolumeRun) (m : ℕ) (inside : m < length v.hosts) (volume : IsVolume v.extent) (spelled : AreSpelled) where
  module _ (chunks : List ChunkRun) (host : HostIs) (told : List Moment) (port : ℕ) (low_port : port < ports_in v.layout) (low high : ℕ) (mid : Middle calls v m inside chunks host told low high) where
    abbrev known : KnownWith calls v m inside chunks host told
    known = mid.known

    abbrev CameTo : Stepped → Type 0
    CameTo s = Middle calls v m inside s.chunks s.host (told ++ s.told) low high

    abbrev owed : ℕ → Option PortOwed
    owed = owed_of v.layout v.extent known.happenings m

    abbrev life : Life
    life = lives v.layout v.extent (mounts_told known.happenings) m

    abbrev its : IsHostOf v.layout v.extent known.service owed life m host
    its = its_host calls v m inside chunks host told known

    number : m < 16
    number = number_low calls v m inside chunks host told known

    abbrev l : LayoutIs
    l = layout_of v.layout

    abbrev input : MountTold
    input = record { mount = m; input = AsksInput port }

    abbrev x : Happening
    x = Brings input 0 0 any_answer

    by_it : IsBy v.layout v.extent known.happenings m x 0
    by_it = record { life = λ n apart. other_life v.layout v.extent known.happenings input 0 0 any_answer n apart; owed = λ n other apart. other_owed v.layout v.extent known.happenings input 0 0 any_answer n other apart; spelled = spelled_comes v.layout v.extent known.happenings input 0 0 any_answer tt; begins = begins_comes v.layout v.extent known.happenings input 0 0 any_answer }

    abbrev now_hs : List Happening
    now_hs = known.happenings ++ x ∷ []

    spelled_in : (work : MountWork) → IsSpelledIn work life.mount.position.ballot.own
    spelled_in (Ballots ballot) = spelled v.layout v.extent (mounts_told known.happenings) m volume (are_short (mounts_told known.happenings) known.spelled)
    spelled_in work = tt

    its_anchors : anchors_of host.mount.position ≡ length l.anchors
    its_anchors = anchors_are v.layout host.mount its.laid.lies

    last_port : port ≤ anchors_of host.mount.position
    last_port = omega (arith, low_port, its_anchors)

    -- what goes out is by this client, and for this
    abbrev client : ℕ
    client = client_of m host.mount.task.work

    abbrev matter : Matter
    matter = matter_at host.mount port

    -- Nothing goes out

    still : Middle calls v m inside chunks host (told ++ []) low high
    still = stays calls v m inside chunks host told known mid.routes [] low high tt tt nothing_handed mid.silent

    -- An ask goes out, of a chunk for which no port asks

    module _ (ask : Ask) (asks_it : ask_at host.mount port ≡ Some ask) (free : is_busy host.at (chunk_of ask) ≡ false) (is_client : IsClientOfAsk m client ask) (behind : port ≡ length l.anchors → IsBehindJournal l v.extent ask)
        (awaits : Awaits (having_asked host.mount port) port (Some ask)) where
      abbrev c0 : ℕ
      c0 = chunk_of ask

      abbrev next : HostIs
      next = record { mount = having_asked host.mount port; at = slice_set host.at port (Some c0) }

      abbrev owes : PortOwed
      owes = record { client = client; ask = ask; matter = matter }

      out : owed_now life.mount port ≡ Some owes
      out =
          ap (λ (a : MountIs). owed_now a port) (sym its.mount) ∙ ap (λ n. owed_to (client_of n host.mount.task.work) matter (ask_at host.mount port)) its.number
          ∙ ap (owed_to client matter) asks_it

      -- what is pending then
      now_owes : owed_of v.layout v.extent now_hs m port ≡ Some owes
      now_owes = owed_comes v.layout v.extent known.happenings input 0 0 any_answer port ∙ ap (λ (o : Option PortOwed). pending_after (owed_of v.layout v.extent known.happenings) (goes m port o) m port) out ∙ pending_here (owed_of v.layout v.extent known.happenings) m port (Some owes)

      others_owe : (other : ℕ) → other ≢ port → owed_of v.layout v.extent now_hs m other ≡ owed other
      others_owe other apart =
          owed_comes v.layout v.extent known.happenings input 0 0 any_answer other ∙ ap (λ (o : Option PortOwed). pending_after (owed_of v.layout v.extent known.happenings) (goes m port o) m other) out
          ∙ pending_there (owed_of v.layout v.extent known.happenings) m port other (Some owes) apart

      newly : (o : PortOwed) → owed_of v.layout v.extent now_hs m port ≡ Some o → Awaits (having_asked host.mount port) port (Some o.ask)
      newly o is = subst (λ (y : PortOwed). Awaits (having_asked host.mount port) port (Some y.ask)) (same_Some owes o (sym now_owes ∙ is)) awaits

      -- the deeds at each chunk
      abbrev deed : Deed
      deed = Takes client None (Some (port_ask ask))

      out_deeds : (one : ℕ) → ◌≡◌ {A = List Deed} ((if c0 == one then deed else no_deed) ∷ no_deed ∷ []) (deeds_by v.layout v.extent known.happenings x one)
      out_deeds one = ap (λ (o : Option PortOwed). deed_of one (owed_of v.layout v.extent known.happenings) (goes m port o) ∷ no_deed ∷ []) (sym out)

      answered_so : MountsAreServed v.layout v.extent known.happenings → MountsAreServed v.layout v.extent now_hs
      answered_so are =
          answered_comes v.layout v.extent known.happenings input 0 0 any_answer are
          (record { number = number; takes = subst (λ (a : MountIs). port ≤ anchors_of a.position) its.mount last_port })
          (record {
            free = λ _. none_owed v.layout v.extent known.service owed life m host its port ask asks_it;
            spelled = spelled_in life.mount.task.work;
            behind = subst (IsDataBehind v.layout v.extent port) (sym asks_it ∙ ap (λ (a : MountIs). ask_at a port) its.mount) behind;
          })

      abbrev went : List Moment
      went = Acts (mount_number host.mount) (AsksAct port ask) ∷ []

      went_nothing : IsNoHanding went
      went_nothing = act_hands_nothing (mount_number host.mount) (AsksAct port ask) [] nothing_handed

      went_tells : Tells v.layout v.extent told x went
      went_tells = record { inputs = ap (λ n. record { mount = n; input = AsksInput port } ∷ []) its.number; causes = (tt, tt) }

      none_for : (other : ℕ) → pending_at host other ≡ Some c0 → ⊥
      none_for other at = false≢true (sym free ∙ found_so host other c0 at)

      -- outside the volume it waits for ever
      module _ (outside : v.extent.chunks ≤ c0) where
        idle_deeds_same : (one : ℕ) → one < v.extent.chunks → ◌≡◌ {A = List Deed} (no_deed ∷ no_deed ∷ []) (deeds_by v.layout v.extent known.happenings x one)
        idle_deeds_same one small = ap (λ (y : Deed). y ∷ no_deed ∷ []) (sym (not_its_own c0 one deed no_deed (λ same. omega (arith, same, small, outside)))) ∙ out_deeds one

        asks_outside : Middle calls v m inside chunks next (told ++ went) low high
        asks_outside = record {
          known = known_idly calls v m inside chunks host told known x 0 by_it calls (omega arith) next went (tt, tt) went_tells went_nothing
              (host_asks v.layout v.extent known.service owed life m host its port low_port (owed_of v.layout v.extent now_hs m) (lives v.layout v.extent (mounts_told now_hs) m) (life_comes v.layout v.extent known.happenings input 0 0 any_answer) ask asks_it c0 free others_owe newly
              known.service (λ chunk small apart. refl) (λ small. absurd (omega (arith, small, outside))))
              idle_deeds_same (λ legal are. answered_so are);
          routes = routes_on calls v m inside chunks chunks told went refl (tt, tt) mid.routes;
          silent = λ other one g y q above below at serves there_it at_it. elim (asked_pends host (having_asked host.mount port) port c0 other one at) [
            | inl here ↦
                let small = home_small v.extent.chunks (length chunks) v.routes told mid.routes one g (served_home v.routes one g serves) in absurd (omega (arith, small, outside, here.1))
            | inr was ↦ mid.silent other one g y q above below was.1 serves there_it at_it
          ];
        }

      -- into the group that has its chunk's asks
      module _ (small : c0 < v.extent.chunks) (k : ℕ) (home : home_of_chunk v.routes c0 ≡ Some k) (c : ChunkRun) (there : slice_get chunks k ≡ Some c) where
        abbrev s : Service
        s = known.service c0

        h : IsHome calls v m inside chunks host told known mid.routes c0 k c
        h = home_is calls v m inside chunks host told known mid.routes c0 k c small home there

        abbrev p : PortIs
        p = s.port m

        abbrev q : PortIs
        q = record p { ask = Some ask; sent = None }

        abbrev d : ChunkRun
        d = with_port c m q

        abbrev t : Service
        t = service_asked s m client (length (known.deeds c0)) ask

        op : IsOp m c d s t
        op = record {
          follows = record { epoch = refl; moving = refl; setup = λ epoch. refl; left = λ epoch. refl; since = λ epoch. refl };
          histories = λ epoch apart. refl;
          history = h.history;
          setup = refl;
          stands = h.stands;
          its = set_there c.ports m q (slice_get_within c.ports m p h.its) ∙ ap (λ (y : PortIs). Some y) (sym (but_same s.port m q));
          others = λ n apart. set_elsewhere c.ports m n q apart;
          ports = λ n apart. but_other s.port m n q apart;
          owed = λ n apart. but_other s.owed m n (Some (record { client = client; moment = length (known.deeds c0); ask = ask })) apart;
          legal = λ legal. legal;
        }

        abbrev own : List Deed
        own = deed ∷ no_deed ∷ []

        served : ChunkIsServed c0 t (known.deeds c0 ++ own)
        served =
            let ds = known.deeds c0 in
            subst (ChunkIsServed c0 t) (append_assoc ds (deed ∷ []) (no_deed ∷ []))
            (Passes t (ds ++ deed ∷ []) (Asks s ds m client ask is_client refl (its.quiet c0 small (λ other. none_for other)) (known.served c0 small)))

        asked_here : IsAskedAt (but known.service c0 t) (owed_of v.layout v.extent now_hs m) m port c0
        asked_here =
            let same = but_same known.service c0 t in record {
              owes = record { client = client; moment = length (known.deeds c0); ask = ask };
              matter = matter;
              is = ap (λ (y : Service). y.owed m) same ∙ but_same s.owed m (Some (record { client = client; moment = length (known.deeds c0); ask = ask }));
              pending = ap (λ (y : Service). (y.port m).ask) same ∙ ap (λ (y : PortIs). y.ask) (but_same s.port m q);
              same = now_owes;
              of = refl;
            }

        same_deeds : (one : ℕ) → one < v.extent.chunks → (if one == c0 then own else (no_deed ∷ no_deed ∷ [])) ≡ deeds_by v.layout v.extent known.happenings x one
        same_deeds one small_one = deed_there c0 c0 one deed (no_deed ∷ []) refl ∙ out_deeds one

        silent_now : AreSilent calls v m inside (slice_set chunks k d) next low high
        silent_now other one g y z above below at serves there_it at_it = elim (asked_pends host (having_asked host.mount port) port c0 other one at) [
          | inl here ↦
              let group : g ≡ k = same_Some g k (sym (served_home v.routes one g serves) ∙ ap (home_of_chunk v.routes) here.1 ∙ home) in
              let run : y ≡ d = same_Some y d (sym there_it ∙ ap (slice_get (slice_set chunks k d)) group ∙ set_there chunks k d (slice_get_within chunks k c there)) in
              let one_port : z ≡ q = same_Some z q (sym at_it ∙ ap (λ (r : ChunkRun). slice_get r.ports m) run ∙ set_there c.ports m q (slice_get_within c.ports m p h.its)) in
              ap (λ (r : PortIs). ask_reply y.group.state r.sent r.last) one_port
          | inr was ↦
              silent_elsewhere calls v m inside chunks host told known mid.routes next c0 k d low high home mid.silent other one g y z above below (λ same. none_for other (was.1 ∙ ap (λ n. Some n) same)) was.1 serves there_it at_it
        ]

        asks_inside : Middle calls v m inside (slice_set chunks k d) next (told ++ went) low high
        asks_inside = record {
          known = known_op calls v m inside chunks host told known c0 small k c d there t op h.at x by_it next went (tt, tt) went_tells (λ j g place at. went_nothing j mover_port g place at) own (no_deed ∷ no_deed ∷ [])
              (λ j n g place at. absurd (went_nothing j n g place at)) (λ j n g place epoch at. absurd (went_nothing j n g place at)) served
              (λ one small_one. idle_served calls v m inside chunks host told known one (known.service one) (known.deeds one) (known.served one small_one))
              (host_asks v.layout v.extent known.service owed life m host its port low_port (owed_of v.layout v.extent now_hs m) (lives v.layout v.extent (mounts_told now_hs) m) (life_comes v.layout v.extent known.happenings input 0 0 any_answer) ask asks_it c0 free others_owe newly
              (but known.service c0 t) (λ chunk small_one apart. but_other known.service c0 chunk t apart) (λ _. asked_here))
              same_deeds (λ legal are. answered_so are);
          routes = routes_on calls v m inside chunks (slice_set chunks k d) told went (set_length chunks k d) (tt, tt) mid.routes;
          silent = silent_now;
        }

        -- as it is put there
        put_is : put_at chunks (home_of_chunk v.routes c0) (mount_number host.mount) ask ≡ slice_set chunks k d
        put_is =
            ap (λ g. put_at chunks g (mount_number host.mount) ask) home ∙ ap (λ n. put_at chunks (Some k) n ask) its.number
            ∙ ap (λ o. with_run chunks k (run_after o (λ y. port_asked y m ask))) there ∙ ap (λ o. slice_set chunks k (asked_at c m ask o)) h.its

        puts_inside : CameTo (puts v.routes port chunks host ask)
        puts_inside = subst (λ (cs : List ChunkRun). Middle calls v m inside cs next (told ++ went) low high) (sym put_is) asks_inside

      puts_outside : v.extent.chunks ≤ c0 → CameTo (puts v.routes port chunks host ask)
      puts_outside outside =
          subst (λ (cs : List ChunkRun). Middle calls v m inside cs next (told ++ went) low high) (sym (none_put (home_of_chunk v.routes c0) refl)) (asks_outside outside)
        where
          none_put : (o : Option ℕ) → home_of_chunk v.routes c0 ≡ o → put_at chunks o (mount_number host.mount) ask ≡ chunks
          none_put None home = refl
          none_put (Some k) home = let small = home_small v.extent.chunks (length chunks) v.routes told mid.routes c0 k home in absurd (omega (arith, small, outside))

      puts_it : CameTo (puts v.routes port chunks host ask)
      puts_it = elim (cases_lt c0 v.extent.chunks) [
        | inl small ↦
            let home = home_there v.extent.chunks (length chunks) v.routes told mid.routes c0 small in
            let run = there_is calls v m inside chunks host told known mid.routes c0 home.0 small home.1 in
            puts_inside small home.0 home.1 run.0 run.1
        | inr outside ↦ puts_outside (omega (arith, outside))
      ]

    -- By its port

    module _ (ask : Ask) (asks_it : ask_at host.mount port ≡ Some ask) (may : may_go host.mount host.at port ask ≡ true) where
      allowed : ((if port == anchors_of host.mount.position then is_data_ask host.mount ask else true) ≡ true) × (not (is_busy host.at (chunk_of ask)) ≡ true)
      allowed = and_parts (if port == anchors_of host.mount.position then is_data_ask host.mount ask else true) (not (is_busy host.at (chunk_of ask))) may

      free : is_busy host.at (chunk_of ask) ≡ false
      free = not_so (is_busy host.at (chunk_of ask)) allowed.1

      -- file data lie behind the journal
      module _ (last : port ≡ length l.anchors) where
        at_data : port ≡ anchors_of host.mount.position
        at_data = last ∙ sym its_anchors

        waiting : host.mount.task.ask ≡ Some ask
        waiting = sym (its_own port (anchors_of host.mount.position) host.mount.task.ask (anchor_hands (stand_of host.mount) host.mount.task.work port).ask at_data) ∙ asks_it

        awaited : IsAwaited host.mount.files.volume host.mount.task.work (Some ask)
        awaited = subst (IsAwaited host.mount.files.volume host.mount.task.work) waiting its.waits

        behind : IsBehindJournal l v.extent ask
        behind =
            let its_data : is_data_ask host.mount ask ≡ true = sym (its_own port (anchors_of host.mount.position) (is_data_ask host.mount ask) true at_data) ∙ allowed.0 in
            let least = leb-true (8 * host.mount.files.first) (first_of_ask host.mount.files.volume ask) its_data in
            let some = volume.some_sectors in record {
              behind = subst (λ (e : Extent). 8 * l.first ≤ first_of_ask e ask) its.volume (subst (λ n. 8 * n ≤ first_of_ask host.mount.files.volume ask) its.first least);
              few = few_awaited host.mount.files.volume host.mount.task.work ask awaited;
              room = first_below v.extent host.mount.task.work ask (subst (λ (e : Extent). IsAwaited e host.mount.task.work (Some ask)) its.volume awaited) (omega (arith, some));
            }

        data_client : IsClientOfAsk m client ask
        data_client = record { small = number; is = inl (by_itself host.mount.files.volume host.mount.task.work ask m awaited) }

        data_awaits : Awaits (having_asked host.mount port) port (Some ask)
        data_awaits =
            let mount_is : having_asked host.mount port ≡ asked_data host.mount = its_own port (anchors_of host.mount.position) (asked_data host.mount) (asked_anchor host.mount port) at_data in
            subst (λ (a : MountIs). Awaits a port (Some ask)) (sym mount_is)
            (λ reply answers. record {
              port_low = last_port;
              anchor = λ less. absurd (omega (arith, less, at_data));
              data_port = λ _. data_taken host.mount.files.volume host.mount.task.work ask awaited reply answers;
            })

        goes_data : CameTo (puts v.routes port chunks host ask)
        goes_data = puts_it ask asks_it free data_client (λ _. behind) data_awaits

      module _ (less : port < length l.anchors) where
        anchor_low : port < anchors_of host.mount.position
        anchor_low = omega (arith, less, its_anchors)

        anchor_client : IsClientOfAsk m client ask
        anchor_client = subst (λ n. IsClientOfAsk n (client_of n host.mount.task.work) ask) its.number (client_is host.mount port anchor_low ask asks_it (subst (λ n. n < 16) (sym its.number) number))

        anchor_awaits : Awaits (having_asked host.mount port) port (Some ask)
        anchor_awaits =
            let apart : port ≢ anchors_of host.mount.position = λ same. omega (arith, less, same, its_anchors) in
            let mount_is : having_asked host.mount port ≡ asked_anchor host.mount port = not_its_own port (anchors_of host.mount.position) (asked_data host.mount) (asked_anchor host.mount port) apart in
            let hands = anchor_hands (stand_of host.mount) host.mount.task.work port in
            let out : ask_at host.mount port ≡ hands.ask = not_its_own port (anchors_of host.mount.position) host.mount.task.ask hands.ask apart in
            subst (λ (a : MountIs). Awaits a port (Some ask)) (sym mount_is)
            (subst (Awaits (asked_anchor host.mount port) port) (sym out ∙ asks_it) (handed_awaits host.mount port (stand_of host.mount) anchor_low host.mount.task.work hands its.laid.over refl))

        goes_to_anchor : CameTo (puts v.routes port chunks host ask)
        goes_to_anchor = puts_it ask asks_it free anchor_client (λ last. absurd (omega (arith, less, last))) anchor_awaits

      goes_out : CameTo (puts v.routes port chunks host ask)
      goes_out = elim (cases_eq port (length l.anchors)) [ inl last ↦ goes_data last | inr apart ↦ goes_to_anchor (omega (arith, low_port, apart)) ]

    pub asks_middle : CameTo (asks v.routes port chunks host)
    asks_middle = by (ask_at host.mount port) refl
      where
        by : (o : Option Ask) → ask_at host.mount port ≡ o → CameTo (puts_if v.routes port chunks host (going host.mount host.at port o))
        by None none = still
        by (Some ask) asks_it =
            by_test (may_go host.mount host.at port ask) (λ b. CameTo (puts_if v.routes port chunks host (if b then Some ask else None))) (λ may. goes_out ask asks_it may) (λ _. still)
