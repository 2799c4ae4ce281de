-- A host hands on what pends at one of its ports.
use Rattle.std.proofs.Common.{◌≡◌, ◌≢◌, ℕ, zero, suc, ◌<◌, ◌≤◌, inl, inr, true, ◌==◌, if◌then◌else◌, List, [], ◌∷◌, ◌++◌, length, Option, Some, None, slice_get, slice_set, arith, refl, sym, ap, subst, ◌∙◌}
use Rattle.std.specs.Option.{option_and_then}
use Rattle.std.proofs.lemmas.Bool.{cases_eq}
use Rattle.std.proofs.lemmas.Option.{same_Some, slice_get_within}
use Rattle.pf_base.specs.Asks.{chunk_of}
use Rattle.pf_base.specs.declared.asks.Ask.{Ask}
use Rattle.pf_entry.proofs.Cases.{by_test}
use Rattle.pf_law_runs.specs.pf_group_network.proofs.Lists.{at_end, set_elsewhere, set_length, set_same, set_there}
use Rattle.pf_protocol.specs.declared.answers.Answer.{Answer}
use Rattle.pf_protocol.specs.declared.events.Event.{Event}
use Rattle.pf_protocol.specs.Answers.{IsLegal}
use Rattle.pf_protocol.specs.Histories.{History}
use Rattle.pf_protocol.proofs.ForMoments.{legal_before}
use Rattle.pf_law_positions.specs.Deeds.{Deed, Submits}
use Rattle.pf_law_positions.specs.PortDeeds.{no_deed}
use Rattle.pf_asks.specs.Ports.{PortIs, goes_to}
use Rattle.pf_law_runs.specs.pf_law_ports.specs.Calls.{PortPast}
use Rattle.pf_law_runs.specs.pf_law_service.specs.Services.{Service, but, service_grown, service_stepped as port_stepped}
use Rattle.pf_law_runs.specs.pf_law_service.specs.Served.{AreLegal, Grows, Hands, ChunkIsServed, Passes, PortSteps, hands_deed}
use Rattle.pf_law_calls.specs.Lives.{lives}
use Rattle.pf_law_events.specs.Events.{HandsOn, Happening, mounts_told}
use Rattle.pf_law_homes.specs.Ports.{PortOwed, deed_handed}
use Rattle.pf_move.specs.Routes.{group_serving}
use Rattle.pf_law_runs.specs.pf_world.specs.pf_group_rounds.specs.Halts.{Halt}
use Rattle.pf_law_runs.specs.pf_world.specs.pf_group_rounds.specs.Chunks.{after, event_answered}
use Rattle.pf_law_runs.specs.pf_world.specs.pf_chunk.specs.Asks.{serving_leader, ask_reply}
use Rattle.pf_law_runs.specs.pf_world.specs.pf_chunk.specs.Driving.{Driven, event_of_ask, handed_to, idle, led, led_at, led_for, led_to, with_port}
use Rattle.pf_law_runs.specs.pf_world.specs.pf_chunk.specs.Runs.{ChunkRun, mover_port}
use Rattle.pf_law_runs.specs.pf_world.specs.pf_world_moments.specs.Hosts.{drove_as}
use Rattle.pf_law_runs.specs.pf_world.specs.pf_world_moments.specs.Moments.{Hands as HandsMoment, Moment, Writes}
use Rattle.pf_law_runs.specs.pf_world.specs.pf_mount_host.specs.Hosts.{HostIs, Stepped, hands_ask, hands_at, hands_of, mount_number, pending_at}
use Rattle.pf_law_runs.specs.pf_world.specs.pf_world_hosts.specs.Volumes.{VolumeRun}
use Rattle.pf_law_runs.specs.pf_law_movers.specs.Epochs.{group_of_epoch}
use Rattle.pf_law_runs.specs.pf_law_movers.proofs.HistoryGrowth.{Grows as GroupGrows, after_grows, after_history, followed_grows, followed_ports, grows_on}
use Rattle.pf_law_runs.specs.pf_law_movers.proofs.ToldRoutes.{served_home}
use Rattle.pf_law_mounts.proofs.Ends.{answered_hands, begins_hands, deed_there, lives_same, owed_same, spelled_hands}
use Rattle.pf_law_mounts.proofs.HostReplies.{line_hands_nothing, nothing_handed}
use Rattle.pf_law_mounts.proofs.HostMounts.{host_still}
use Rattle.pf_law_mounts.proofs.Middle.{AreSilent, IsInto, Middle, into, routes_on, silent_elsewhere, stays}
use Rattle.pf_law_mounts.proofs.Nexts.{IsBy, KnownWith, its_host, number_low, known_op}
use Rattle.pf_law_mounts.proofs.Known.{IsHandedBy, IsHostOf, deeds_by, owed_of, ports_in}
use Rattle.pf_law_mounts.proofs.ServiceGrowth.{IsNoMovers, IsOp, but_other, but_same}
use Rattle.pf_law_mounts.proofs.ServiceSteps.{handed_once, handed_steps, past_after, port_after}

-- What a moment says that was handed on

abbrev mount_in : Moment → ℕ
mount_in (HandsMoment m k place) = m
mount_in moment = 0

abbrev group_in : Moment → ℕ
group_in (HandsMoment m k place) = k
group_in moment = 0

abbrev place_in : Moment → ℕ
place_in (HandsMoment m k place) = place
place_in moment = 0

same_moment : (m k place n g at : ℕ) → HandsMoment m k place ≡ HandsMoment n g at → (m ≡ n) × (k ≡ g) × (place ≡ at)
same_moment m k place n g at same = (ap mount_in same, ap group_in same, ap place_in same)

abbrev one_handed : (m k place : ℕ) → List ℕ → List Moment
one_handed m k place text = HandsMoment m k place ∷ Writes text ∷ []

-- it is this one alone
only_it : (m k place : ℕ) (text : List ℕ) (j n g at : ℕ) → slice_get (one_handed m k place text) j ≡ Some (HandsMoment n g at) → (m ≡ n) × (k ≡ g) × (place ≡ at)
only_it m k place text zero n g at is = same_moment m k place n g at (same_Some (HandsMoment m k place) (HandsMoment n g at) is)
only_it m k place text (suc j) n g at is = absurd (line_hands_nothing text j n g at is)

module _ (calls : ℕ) (v : VolumeRun) (m : ℕ) (inside : m < length v.hosts) (halts : List Halt) where
  module _ (chunks : List ChunkRun) (host : HostIs) (told : List Moment) (port : ℕ) (low : port < ports_in v.layout) (high : ℕ) (below : port < high) (mid : Middle calls v m inside chunks host told port high) where
    abbrev known : KnownWith calls v m inside chunks host told
    known = mid.known

    abbrev CameTo : Stepped → Type 0
    CameTo s = Middle calls v m inside s.chunks s.host (told ++ s.told) (suc port) high

    fewer : AreSilent calls v m inside chunks host (suc port) high
    fewer other chunk k c p above = mid.silent other chunk k c p (omega (arith, above))

    quiet : Middle calls v m inside chunks host (told ++ []) (suc port) high
    quiet = stays calls v m inside chunks host told known mid.routes [] (suc port) high tt tt nothing_handed fewer

    -- the port's ask goes to a group
    module _ (chunk : ℕ) (pend : pending_at host port ≡ Some chunk) (k : ℕ) (serves : group_serving v.routes chunk ≡ Some k) (c : ChunkRun) (there : slice_get chunks k ≡ Some c) where
      i : IsInto calls v m inside chunks host told known mid.routes port chunk k c
      i = into calls v m inside chunks host told known mid.routes port chunk k c pend serves there

      abbrev s : Service
      s = known.service chunk

      abbrev p : PortIs
      p = s.port m

      abbrev ask : Ask
      ask = i.asked.owes.ask

      abbrev owed : ℕ → Option PortOwed
      owed = owed_of v.layout v.extent known.happenings m

      abbrev its : IsHostOf v.layout v.extent known.service owed (lives v.layout v.extent (mounts_told known.happenings) m) m host
      its = its_host calls v m inside chunks host told known

      number : m < 16
      number = number_low calls v m inside chunks host told known

      untold : ask_reply c.group.state p.sent p.last ≡ None
      untold = mid.silent port chunk k c p (omega arith) below pend serves there i.its

      led_is : led halts c (mount_number host.mount) ≡ led_to halts c m p ask (serving_leader c.group.state)
      led_is = ap (led halts c) its.number ∙ ap (led_at halts c m) i.its ∙ ap (led_for halts c m p) i.asked.pending

      -- to this server
      module _ (term server : ℕ) (leads : serving_leader c.group.state ≡ Some (term, server)) (goes : goes_to p.sent p.last term ≡ true) where
        abbrev past : PortPast
        past = past_after s m number c i.setup i.history i.stands i.steady i.asked.owes i.asked.is i.asked.pending halts term server leads goes untold ask

        abbrev q : PortIs
        q = port_after s m number c i.setup i.history i.stands i.steady i.asked.owes i.asked.is i.asked.pending halts term server leads goes untold ask

        steps : PortSteps s m i.asked.owes None past q
        steps = handed_steps s m number c i.setup i.history i.stands i.steady i.asked.owes i.asked.is i.asked.pending halts term server leads goes untold

        abbrev event : Event
        event = event_of_ask ask server

        abbrev answer : Answer
        answer = event_answered halts c.group event

        -- the group with that event, and with what followed on it
        abbrev mid_run : ChunkRun
        mid_run = with_port (record c { group = after halts c.group event }) m q

        abbrev driven : Driven
        driven = handed_to halts c m p event term

        abbrev d : ChunkRun
        d = driven.chunk

        grows : GroupGrows c.group d.group
        grows = grows_on c.group (after halts c.group event) d.group (after_grows halts c.group event) (followed_grows halts mid_run answer)

        abbrev rest : History
        rest = (followed_grows halts mid_run answer).later.rest

        abbrev first : Service
        first = port_stepped s m past q

        abbrev t : Service
        t = service_grown first s.epoch rest

        history_first : first.history s.epoch ≡ past.history
        history_first = but_same s.history s.epoch past.history

        history_now : d.group.history ≡ t.history s.epoch
        history_now =
            sym (followed_grows halts mid_run answer).later.whole
            ∙ ap (λ (h : History). h ++ rest) (after_history halts c.group event ∙ sym history_first)
            ∙ sym (but_same first.history s.epoch (first.history s.epoch ++ rest))

        history_else : (epoch : ℕ) → epoch ≢ s.epoch → t.history epoch ≡ s.history epoch
        history_else epoch apart = but_other first.history s.epoch epoch (first.history s.epoch ++ rest) apart ∙ but_other s.history s.epoch epoch past.history apart

        ports_are : d.ports ≡ slice_set c.ports m q
        ports_are = followed_ports halts mid_run answer

        legal_then : AreLegal t → AreLegal s
        legal_then legal epoch under = elim (cases_eq epoch s.epoch) [
          | inl same ↦
              let now : IsLegal (s.setup s.epoch) d.group.history = subst (IsLegal (s.setup s.epoch)) (sym history_now) (legal s.epoch (omega arith)) in
              subst (λ x. IsLegal (s.setup x) (s.history x)) (sym same) (subst (IsLegal (s.setup s.epoch)) i.history (legal_before (s.setup s.epoch) c.group.history d.group.history grows.later now))
          | inr apart ↦ subst (IsLegal (s.setup epoch)) (history_else epoch apart) (legal epoch under)
        ]

        op : IsOp m c d s t
        op = record {
          follows = record { epoch = refl; moving = refl; setup = λ epoch. refl; left = λ epoch. refl; since = λ epoch. refl };
          histories = history_else;
          history = history_now;
          setup = grows.setup;
          stands = grows.stands i.stands;
          its = ap (λ (ps : List PortIs). slice_get ps m) ports_are ∙ set_there c.ports m q (slice_get_within c.ports m p i.its) ∙ ap (λ (z : PortIs). Some z) (sym (but_same s.port m q));
          others = λ n apart. ap (λ (ps : List PortIs). slice_get ps n) ports_are ∙ set_elsewhere c.ports m n q apart;
          ports = λ n apart. but_other s.port m n q apart;
          owed = λ n apart. refl;
          legal = legal_then;
        }

        abbrev place : ℕ
        place = length (s.history s.epoch)

        abbrev x : Happening
        x = HandsOn m port s.epoch place

        abbrev now_hs : List Happening
        now_hs = known.happenings ++ x ∷ []

        by_it : IsBy v.layout v.extent known.happenings m x 0
        by_it = record { life = λ n apart. lives_same v.layout v.extent known.happenings m port s.epoch place n; owed = λ n other apart. owed_same v.layout v.extent known.happenings m port s.epoch place n other; spelled = spelled_hands v.layout v.extent known.happenings m port s.epoch place; begins = begins_hands v.layout v.extent known.happenings m port s.epoch place }

        abbrev deed : Deed
        deed = hands_deed chunk s i.asked.owes

        abbrev own : List Deed
        own = deed ∷ []

        abbrev text : List ℕ
        text = driven.text

        abbrev more : List Moment
        more = one_handed (mount_number host.mount) k (length c.group.history) text

        served : ChunkIsServed chunk t (known.deeds chunk ++ own)
        served =
            let ds = known.deeds chunk in
            Grows first (ds ++ own) s.epoch rest
            (Hands s ds m i.asked.owes past q steps (handed_once s m number c i.setup i.history i.stands i.steady i.asked.owes i.asked.is i.asked.pending halts term server leads goes untold) (known.served chunk i.small))

        port_ask : (one : ℕ) → ((but known.service chunk t one).port m).ask ≡ ((known.service one).port m).ask
        port_ask one = elim (cases_eq one chunk) [
          | inl same ↦
              subst (λ j. ((but known.service chunk t j).port m).ask ≡ ((known.service j).port m).ask) (sym same)
              (ap (λ (y : Service). (y.port m).ask) (but_same known.service chunk t) ∙ ap (λ (z : PortIs). z.ask) (but_same s.port m q))
          | inr apart ↦ ap (λ (y : Service). (y.port m).ask) (but_other known.service chunk one t apart)
        ]

        port_owed : (one : ℕ) → (but known.service chunk t one).owed m ≡ (known.service one).owed m
        port_owed one = elim (cases_eq one chunk) [
          | inl same ↦ subst (λ j. (but known.service chunk t j).owed m ≡ (known.service j).owed m) (sym same) (ap (λ (y : Service). y.owed m) (but_same known.service chunk t))
          | inr apart ↦ ap (λ (y : Service). y.owed m) (but_other known.service chunk one t apart)
        ]

        host_now : IsHostOf v.layout v.extent (but known.service chunk t) (owed_of v.layout v.extent now_hs m) (lives v.layout v.extent (mounts_told now_hs) m) m host
        host_now =
            host_still v.layout v.extent known.service owed (lives v.layout v.extent (mounts_told known.happenings) m) m host its (but known.service chunk t) (owed_of v.layout v.extent now_hs m)
            (λ other. owed_same v.layout v.extent known.happenings m port s.epoch place m other) port_ask port_owed (lives v.layout v.extent (mounts_told now_hs) m) (lives_same v.layout v.extent known.happenings m port s.epoch place m)

        same_deeds : (one : ℕ) → one < v.extent.chunks → (if one == chunk then own else (no_deed ∷ [])) ≡ deeds_by v.layout v.extent known.happenings x one
        same_deeds one small =
            deed_there chunk (chunk_of ask) one deed [] i.asked.of
            ∙ ap (λ n. (if chunk_of ask == one then Submits i.asked.owes.client n s.epoch place else no_deed) ∷ []) (sym i.asked.of)
            ∙ ap (λ (o : Option PortOwed). deed_handed one s.epoch place o ∷ []) (sym i.asked.same)

        -- what was told is this deed
        told_so : (j n g at epoch : ℕ) → slice_get more j ≡ Some (HandsMoment n g at) → n < mover_port → epoch ≤ s.epoch → group_of_epoch told chunk epoch ≡ Some g → IsHandedBy chunk epoch at (known.deeds chunk ++ own)
        told_so j n g at epoch is small_n under group =
            let it = only_it (mount_number host.mount) k (length c.group.history) text j n g at is in
            let same_epoch : epoch ≡ s.epoch = (known.apart chunk chunk epoch s.epoch k i.small i.small (group ∙ ap (λ z. Some z) (sym it.1)) i.at).1 in
            let same_place : at ≡ place = sym it.2 ∙ ap length i.history in record {
              moment = length (known.deeds chunk);
              client = i.asked.owes.client;
              at = at_end (known.deeds chunk) deed ∙ ap (λ z. Some (Submits i.asked.owes.client chunk z place)) (sym same_epoch) ∙ ap (λ z. Some (Submits i.asked.owes.client chunk epoch z)) (sym same_place);
            }

        no_movers : IsNoMovers more
        no_movers j g at is =
            let it = only_it (mount_number host.mount) k (length c.group.history) text j mover_port g at is in omega (arith, it.0, its.number, number)

        came : Middle calls v m inside (slice_set chunks k d) host (told ++ more) (suc port) high
        came = record {
          known = known_op calls v m inside chunks host told known chunk i.small k c d there t op i.at x by_it host more (tt, (tt, tt)) (record { inputs = refl; causes = (tt, (tt, tt)) }) no_movers own (no_deed ∷ [])
              (λ j n g at is. sym (only_it (mount_number host.mount) k (length c.group.history) text j n g at is).1)
              told_so served
              (λ one small. Passes (known.service one) (known.deeds one) (known.served one small))
              host_now same_deeds (λ legal are. answered_hands v.layout v.extent known.happenings m port s.epoch place are);
          routes = routes_on calls v m inside chunks (slice_set chunks k d) told more (set_length chunks k d) (tt, (tt, tt)) mid.routes;
          silent = λ other one g y z above under at serves_it there_it at_it.
              let apart : one ≢ chunk = λ same.
              let here = its.one other port chunk (at ∙ ap (λ w. Some w) same) pend in omega (arith, above, here) in
              silent_elsewhere calls v m inside chunks host told known mid.routes host chunk k d port high (served_home v.routes chunk k serves) mid.silent other one g y z (omega (arith, above)) under apart at serves_it there_it at_it;
        }

      abbrev Told : Driven → Stepped
      Told x = let w = drove_as chunks (mount_number host.mount) k x in record { chunks = w.chunks; host = host; told = w.told }

      idly : CameTo (Told (idle c))
      idly = subst (λ (cs : List ChunkRun). Middle calls v m inside cs host (told ++ Writes [] ∷ []) (suc port) high) (sym (set_same chunks k c there))
          (stays calls v m inside chunks host told known mid.routes (Writes [] ∷ []) (suc port) high (tt, tt) (tt, tt) (line_hands_nothing []) fewer)

      by_leader : (leader : Option (ℕ × ℕ)) → serving_leader c.group.state ≡ leader → CameTo (Told (led_to halts c m p ask leader))
      by_leader None leads = idly
      by_leader (Some (term, server)) leads =
          by_test (goes_to p.sent p.last term) (λ b. CameTo (Told (if b then handed_to halts c m p (event_of_ask ask server) term else idle c))) (λ goes. came term server leads goes) (λ _. idly)

      hands_it : CameTo (hands_of halts chunks host k (Some c))
      hands_it = subst (λ (x : Driven). CameTo (Told x)) (sym led_is) (by_leader (serving_leader c.group.state) refl)

    pub hands_middle : CameTo (hands_ask halts v.routes port chunks host)
    hands_middle = by (pending_at host port) refl
      where
        at_run : (chunk : ℕ) → pending_at host port ≡ Some chunk → (k : ℕ) → group_serving v.routes chunk ≡ Some k → (o : Option ChunkRun) → slice_get chunks k ≡ o → CameTo (hands_of halts chunks host k o)
        at_run chunk pend k serves None there = quiet
        at_run chunk pend k serves (Some c) there = hands_it chunk pend k serves c there

        at_group : (chunk : ℕ) → pending_at host port ≡ Some chunk → (group : Option ℕ) → group_serving v.routes chunk ≡ group → CameTo (hands_at halts chunks host group)
        at_group chunk pend None serves = quiet
        at_group chunk pend (Some k) serves = at_run chunk pend k serves (slice_get chunks k) refl

        by : (at : Option ℕ) → pending_at host port ≡ at → CameTo (hands_at halts chunks host (option_and_then (group_serving v.routes) at))
        by None none = quiet
        by (Some chunk) pend = at_group chunk pend (group_serving v.routes chunk) refl
