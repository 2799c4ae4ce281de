-- A host hears what one of its ports was answered.
use Rattle.std.proofs.Common.{◌≡◌, ◌≢◌, ℕ, zero, suc, ◌<◌, inl, inr, ◌==◌, if◌then◌else◌, List, [], ◌∷◌, ◌++◌, length, Option, Some, None, slice_get, slice_set, arith, refl, sym, ap, subst, ◌∙◌}
use Rattle.std.specs.Option.{option_and_then}
use Rattle.std.proofs.lemmas.Bool.{cases_eq}
use Rattle.std.proofs.lemmas.List.{append_assoc}
use Rattle.std.proofs.lemmas.Option.{none-some, same_Some, slice_get_within}
use Rattle.pf_base.specs.Asks.{Answers as AnswersAsk, chunk_of}
use Rattle.pf_base.specs.Span.{Span}
use Rattle.pf_base.specs.declared.asks.Ask.{Ask}
use Rattle.pf_base.specs.declared.asks.Ask.TheVariants.{Read, Write}
use Rattle.pf_base.specs.declared.asks.Reply.{Reply}
use Rattle.pf_base.specs.declared.asks.Reply.TheVariants.{Bytes, Written}
use Rattle.pf_entry.specs.Lists.{Every}
use Rattle.pf_tree.specs.Calls.{FileCall}
use Rattle.pf_law_runs.specs.pf_group_network.proofs.Lists.{set_elsewhere, set_length, set_same, set_there}
use Rattle.pf_protocol.specs.Answers.{IsLegal}
use Rattle.pf_protocol.specs.Groups.{Answered}
use Rattle.pf_law_positions.specs.Deeds.{Deed}
use Rattle.pf_law_positions.specs.PortDeeds.{no_deed}
use Rattle.pf_asks.specs.Ports.{PortIs, ask_answered as answered_port}
use Rattle.pf_law_runs.specs.pf_law_service.specs.Services as services
use Rattle.pf_law_runs.specs.pf_law_service.specs.Services.{Service, but, past_of, service_stepped as port_stepped}
use Rattle.pf_law_runs.specs.pf_law_service.specs.Served.{AreLegal, Hears, IsAskAnsweredBy, ChunkIsServed, Passes, PortSteps, group_by_now, hears_deed}
use Rattle.pf_mount.specs.declared.work.MountNext.{MountNext}
use Rattle.pf_mount.specs.declared.work.MountNext.TheVariants.{Done, Failed, Ready}
use Rattle.pf_mount.specs.Mounts.{MountIs, mount_answered}
use Rattle.pf_mount.specs.Standing.{AnswersPort}
use Rattle.pf_law_calls.specs.Lives.{Hears as HearsInput, MountTold, lives}
use Rattle.pf_law_events.specs.Events.{MountsAreServed, Brings, Happening, mounts_told}
use Rattle.pf_law_homes.specs.Ports.{IsAnswerOf, IsReplyTo, PortOwed, deed_answered}
use Rattle.pf_move.specs.Routes.{group_serving}
use Rattle.pf_law_runs.specs.pf_world.specs.pf_chunk.specs.Asks.{ask_reply}
use Rattle.pf_law_runs.specs.pf_world.specs.pf_chunk.specs.Driving.{Driven, port_heard, heard_at, heard_for, heard_if, with_port}
use Rattle.pf_law_runs.specs.pf_world.specs.pf_chunk.specs.Runs.{ChunkRun, mover_port}
use Rattle.pf_law_runs.specs.pf_world.specs.pf_world_moments.specs.Hosts.{pending_call, ended_line}
use Rattle.pf_law_runs.specs.pf_world.specs.pf_world_moments.specs.Moments.{Acts, Answers, Hands as HandsMoment, HostAct, Moment, Takes, Writes}
use Rattle.pf_law_runs.specs.pf_world.specs.pf_mount_host.specs.Hosts.{HostIs, Stepped, call_ended, hears, hears_as, hears_at, hears_of, mount_number, pending_at}
use Rattle.pf_law_runs.specs.pf_world.specs.pf_world_hosts.specs.Volumes.{VolumeRun}
use Rattle.pf_law_runs.specs.pf_law_movers.proofs.ToldRoutes.{IsStill, served_home}
use Rattle.pf_law_mounts.proofs.Causes.{act_inputs, ended_causes}
use Rattle.pf_law_mounts.proofs.Ends.{answered_comes, begins_comes, deed_there, life_comes, other_life, other_owed, owed_comes, pending_here, pending_there, spelled_comes}
use Rattle.pf_law_mounts.proofs.HostMounts.{heard_pends, host_hears}
use Rattle.pf_law_mounts.proofs.Middle.{AreAnswers, IsInto, Middle, into, routes_on, silent_elsewhere, silent_more, stays}
use Rattle.pf_law_mounts.proofs.Nexts.{IsBy, KnownWith, idle_served, its_host, its_mount, number_low, known_op}
use Rattle.pf_law_mounts.proofs.Known.{IsHostOf, deeds_by, owed_of, ports_in}
use Rattle.pf_law_mounts.proofs.ServiceGrowth.{IsNoHanding, IsOp, but_other, but_same}
use Rattle.pf_law_mounts.proofs.ServiceSteps.{IsLookedUp, heard_steps, heard_up}
use Rattle.pf_law_mounts.proofs.MomentTells.{Tells}

-- What is told as a call ends

pub ended_still : (m : ℕ) (call : Option FileCall) (next : Option MountNext) → Every IsStill (call_ended m call next)
ended_still m call None = tt
ended_still m call (Some Ready) = (tt, tt)
ended_still m call (Some (Done answer)) = (tt, (tt, tt))
ended_still m call (Some Failed) = tt

no_line : (text : List ℕ) (n k place : ℕ) → Writes text ≡ HandsMoment n k place → ⊥
no_line text n k place same = cc

pub line_hands_nothing : (text : List ℕ) → IsNoHanding (Writes text ∷ [])
line_hands_nothing text zero n k place at = no_line text n k place (same_Some (Writes text) (HandsMoment n k place) at)
line_hands_nothing text (suc j) n k place at = none-some (HandsMoment n k place) at

no_act : (who : ℕ) (act : HostAct) (n k place : ℕ) → Acts who act ≡ HandsMoment n k place → ⊥
no_act who act n k place same = cc

pub act_hands_nothing : (who : ℕ) (act : HostAct) (more : List Moment) → IsNoHanding more → IsNoHanding (Acts who act ∷ more)
act_hands_nothing who act more none zero n k place at = no_act who act n k place (same_Some (Acts who act) (HandsMoment n k place) at)
act_hands_nothing who act more none (suc j) n k place at = none j n k place at

pub ended_hands_nothing : (m : ℕ) (call : Option FileCall) (next : Option MountNext) → IsNoHanding (call_ended m call next)
ended_hands_nothing m call None j n k place at = none-some (HandsMoment n k place) at
ended_hands_nothing m call (Some Ready) j n k place at = line_hands_nothing _ j n k place at
ended_hands_nothing m call (Some (Done answer)) j n k place at = act_hands_nothing m (Answers answer) (Writes (ended_line m call answer) ∷ []) (line_hands_nothing (ended_line m call answer)) j n k place at
ended_hands_nothing m call (Some Failed) j n k place at = none-some (HandsMoment n k place) at

pub nothing_handed : IsNoHanding []
nothing_handed j n k place at = none-some (HandsMoment n k place) at

-- bytes are those of the answer
answer_of : (sent : _) (g : _) (answer : Answered) (ask : Ask) (reply : Reply) → IsAskAnsweredBy sent g reply answer → ((its : ℕ) (span : Span) → ask ≡ Read its span → answer.range ≡ span) → IsAnswerOf ask reply answer
answer_of sent g answer (Read chunk span) (Bytes sectors) is range = (range chunk span refl, is.gives)
answer_of sent g answer (Read chunk span) Written is range = tt
answer_of sent g answer (Write chunk span its) Written is range = tt
answer_of sent g answer (Write chunk span its) (Bytes sectors) is range = tt

module _ (calls : ℕ) (v : VolumeRun) (m : ℕ) (inside : m < length v.hosts) (laws : AreAnswers) where
  module _ (chunks : List ChunkRun) (host : HostIs) (told : List Moment) (port : ℕ) (low : port < ports_in v.layout) (mid : Middle calls v m inside chunks host told 0 port) where
    abbrev known : KnownWith calls v m inside chunks host told
    known = mid.known

    abbrev CameTo : Stepped → Type 0
    CameTo s = Middle calls v m inside s.chunks s.host (told ++ s.told) 0 (suc port)

    -- nothing is answered
    quiet : ((chunk k : ℕ) (c : ChunkRun) (p : PortIs) → pending_at host port ≡ Some chunk → group_serving v.routes chunk ≡ Some k → slice_get chunks k ≡ Some c → slice_get c.ports m ≡ Some p → ask_reply c.group.state p.sent p.last ≡ None)
        → Middle calls v m inside chunks host (told ++ []) 0 (suc port)
    quiet its = stays calls v m inside chunks host told known mid.routes [] 0 (suc port) tt tt nothing_handed (silent_more calls v m inside chunks host told known mid.routes port mid.silent its)

    -- the port's ask goes to a group
    module _ (chunk : ℕ) (pend : pending_at host port ≡ Some chunk) (k : ℕ) (serves : group_serving v.routes chunk ≡ Some k) (c : ChunkRun) (there : slice_get chunks k ≡ Some c) where
      i : IsInto calls v m inside chunks host told known mid.routes port chunk k c
      i = into calls v m inside chunks host told known mid.routes port chunk k c pend serves there

      abbrev s : Service
      s = known.service chunk

      abbrev p : PortIs
      p = s.port m

      abbrev its : IsHostOf v.layout v.extent known.service (owed_of v.layout v.extent known.happenings m) (lives v.layout v.extent (mounts_told known.happenings) m) m host
      its = its_host calls v m inside chunks host told known

      number : m < 16
      number = number_low calls v m inside chunks host told known

      heard_is : port_heard c (mount_number host.mount) ≡ heard_if c m p (ask_reply c.group.state p.sent p.last)
      heard_is = ap (port_heard c) its.number ∙ ap (heard_at c m) i.its ∙ ap (heard_for c m p) i.asked.pending

      -- it was answered
      module _ (reply : Reply) (replied : ask_reply c.group.state p.sent p.last ≡ Some reply) where
        abbrev owes : services.Owed
        owes = i.asked.owes

        steps : PortSteps s m owes (Some reply) (past_of s m) (answered_port p)
        steps = heard_steps s m number c i.setup i.history i.stands i.steady owes i.asked.is i.asked.pending reply replied

        up : IsLookedUp p.sent (group_by_now s) reply
        up = heard_up s m number c i.setup i.history i.stands i.steady owes i.asked.is i.asked.pending reply replied

        abbrev next : HostIs
        next = record { mount = (mount_answered host.mount port reply).mount; at = slice_set host.at port None }

        abbrev d : ChunkRun
        d = with_port c m (answered_port p)

        abbrev t : Service
        t = port_stepped s m (past_of s m) (answered_port p)

        abbrev by : ℕ
        by = length (s.history s.epoch)

        abbrev input : MountTold
        input = record { mount = m; input = HearsInput port reply }

        abbrev x : Happening
        x = Brings input s.epoch by up.answer

        abbrev ends : List Moment
        ends = call_ended (mount_number host.mount) (pending_call host.mount.files.pending) (mount_answered host.mount port reply).next

        abbrev it : HostAct
        it = Takes port (record { reply = reply; by = length c.group.history })

        abbrev more : List Moment
        more = Acts (mount_number host.mount) it ∷ ends

        more_still : Every IsStill more
        more_still = (tt, ended_still (mount_number host.mount) (pending_call host.mount.files.pending) (mount_answered host.mount port reply).next)

        more_nothing : IsNoHanding more
        more_nothing = act_hands_nothing (mount_number host.mount) it ends (ended_hands_nothing (mount_number host.mount) (pending_call host.mount.files.pending) (mount_answered host.mount port reply).next)

        tells : Tells v.layout v.extent told x more
        tells =
            let who = mount_number host.mount in
            let call = pending_call host.mount.files.pending in
            let next = (mount_answered host.mount port reply).next in record {
              inputs = act_inputs v.layout v.extent told who it (HearsInput port reply) refl call next ∙ ap (λ n. record { mount = n; input = HearsInput port reply } ∷ []) its.number;
              causes =
                  let same = its_mount calls v m inside chunks host told known in
                  (tt, ended_causes v.layout v.extent told who it (HearsInput port reply) refl call (ap (λ (a : MountIs). pending_call a.files.pending) same) next (ap (λ (a : MountIs). (mount_answered a port reply).next) same));
            }

        history_same : (epoch : ℕ) → t.history epoch ≡ s.history epoch
        history_same epoch = elim (cases_eq epoch s.epoch) [
          | inl same ↦ ap t.history same ∙ but_same s.history s.epoch (s.history s.epoch) ∙ ap s.history (sym same)
          | inr apart ↦ but_other s.history s.epoch epoch (s.history s.epoch) apart
        ]

        op : IsOp m c d s t
        op = record {
          follows = record { epoch = refl; moving = refl; setup = λ epoch. refl; left = λ epoch. refl; since = λ epoch. refl };
          histories = λ epoch apart. history_same epoch;
          history = i.history ∙ sym (history_same s.epoch);
          setup = refl;
          stands = i.stands;
          its = set_there c.ports m (answered_port p) (slice_get_within c.ports m p i.its) ∙ ap (λ (q : PortIs). Some q) (sym (but_same s.port m (answered_port p)));
          others = λ n apart. set_elsewhere c.ports m n (answered_port p) apart;
          ports = λ n apart. but_other s.port m n (answered_port p) apart;
          owed = λ n apart. refl;
          legal = λ legal epoch low. subst (IsLegal (s.setup epoch)) (history_same epoch) (legal epoch low);
        }

        by_it : IsBy v.layout v.extent known.happenings m x 0
        by_it = record {
          life = λ n apart. other_life v.layout v.extent known.happenings input s.epoch by up.answer n apart;
          owed = λ n other apart. other_owed v.layout v.extent known.happenings input s.epoch by up.answer n other apart;
          spelled = spelled_comes v.layout v.extent known.happenings input s.epoch by up.answer tt;
          begins = begins_comes v.layout v.extent known.happenings input s.epoch by up.answer;
        }

        abbrev own : List Deed
        own = hears_deed s owes up.answer reply ∷ no_deed ∷ []

        served : ChunkIsServed chunk t (known.deeds chunk ++ own)
        served =
            let ds = known.deeds chunk in
            let deed = hears_deed s owes up.answer reply in
            subst (ChunkIsServed chunk t) (append_assoc ds (deed ∷ []) (no_deed ∷ []))
            (Passes t (ds ++ deed ∷ []) (Hears s ds m owes reply up.answer (answered_port p) steps up.is (known.served chunk i.small)))

        host_now : IsHostOf v.layout v.extent (but known.service chunk t) (owed_of v.layout v.extent (known.happenings ++ x ∷ []) m) (lives v.layout v.extent (mounts_told (known.happenings ++ x ∷ [])) m) m next
        host_now =
            host_hears v.layout v.extent known.service (owed_of v.layout v.extent known.happenings m) (lives v.layout v.extent (mounts_told known.happenings) m) m host its port chunk pend t
            (ap (λ (q : PortIs). q.ask) (but_same s.port m (answered_port p))) reply
            (owed_of v.layout v.extent (known.happenings ++ x ∷ []) m) (owed_comes v.layout v.extent known.happenings input s.epoch by up.answer port ∙ pending_here (owed_of v.layout v.extent known.happenings) m port None)
            (λ other apart. owed_comes v.layout v.extent known.happenings input s.epoch by up.answer other ∙ pending_there (owed_of v.layout v.extent known.happenings) m port other None apart)
            (lives v.layout v.extent (mounts_told (known.happenings ++ x ∷ [])) m) (life_comes v.layout v.extent known.happenings input s.epoch by up.answer)

        -- it is the deed of what came
        same_deeds : (one : ℕ) → one < v.extent.chunks → (if one == chunk then own else (no_deed ∷ no_deed ∷ [])) ≡ deeds_by v.layout v.extent known.happenings x one
        same_deeds one small =
            deed_there chunk (chunk_of owes.ask) one (hears_deed s owes up.answer reply) (no_deed ∷ []) i.asked.of
            ∙ ap (λ (o : Option PortOwed). deed_answered one s.epoch by up.answer o reply ∷ no_deed ∷ []) (sym i.asked.same)

        answered_so : AreLegal s → MountsAreServed v.layout v.extent known.happenings → MountsAreServed v.layout v.extent (known.happenings ++ x ∷ [])
        answered_so legal are =
            let kind : AnswersAsk owes.ask reply = laws.kind chunk m s (known.deeds chunk) owes reply (answered_port p) (known.served chunk i.small) legal steps in
            let range = λ (one : ℕ) (span : Span). laws.range chunk m one span s (known.deeds chunk) owes reply up.answer (answered_port p) (known.served chunk i.small) legal steps up.is in
            answered_comes v.layout v.extent known.happenings input s.epoch by up.answer are
            (record { number = number; takes = subst (λ (a : MountIs). AnswersPort a port reply) its.mount (its.awaits port _ i.asked.same reply kind) })
            (subst (λ (o : Option PortOwed). IsReplyTo o reply up.answer) (sym i.asked.same) (kind, answer_of p.sent (group_by_now s) up.answer owes.ask reply up.is range))

        came : Middle calls v m inside (slice_set chunks k d) next (told ++ more) 0 (suc port)
        came = record {
          known = known_op calls v m inside chunks host told known chunk i.small k c d there t op i.at x by_it next more more_still tells
              (λ j g place at. more_nothing j mover_port g place at)
              own (no_deed ∷ no_deed ∷ [])
              (λ j n g place at. absurd (more_nothing j n g place at))
              (λ j n g place epoch at. absurd (more_nothing j n g place at))
              served
              (λ one small. idle_served calls v m inside chunks host told known one (known.service one) (known.deeds one) (known.served one small))
              host_now same_deeds answered_so;
          routes = routes_on calls v m inside chunks (slice_set chunks k d) told more (set_length chunks k d) more_still mid.routes;
          silent = λ other one g y q above below at serves_it there_it at_it.
              let was = heard_pends host (mount_answered host.mount port reply).mount port other one at in
              let apart : one ≢ chunk = λ same. was.0 (its.one other port chunk (was.1 ∙ ap (λ n. Some n) same) pend) in
              silent_elsewhere calls v m inside chunks host told known mid.routes next chunk k d 0 port (served_home v.routes chunk k serves) mid.silent other one g y q above (let other_port = was.0 in omega (arith, below, other_port)) apart was.1 serves_it there_it at_it;
        }

      by_reply : (reply : Option Reply) → ask_reply c.group.state p.sent p.last ≡ reply → CameTo (hears_as chunks host port k (heard_if c m p reply))
      by_reply None none =
          subst (λ (cs : List ChunkRun). Middle calls v m inside cs host (told ++ []) 0 (suc port)) (sym (set_same chunks k c there))
          (quiet (λ one g y q at serves_it there_it at_it.
          let same_chunk = same_Some one chunk (sym at ∙ pend) in
          let same_group = same_Some g k (sym serves_it ∙ ap (group_serving v.routes) same_chunk ∙ serves) in
          let same_run = same_Some y c (sym there_it ∙ ap (slice_get chunks) same_group ∙ there) in
          let same_port = same_Some q p (sym at_it ∙ ap (λ (z : ChunkRun). slice_get z.ports m) same_run ∙ i.its) in
          ap (λ (z : ChunkRun). ask_reply z.group.state q.sent q.last) same_run ∙ ap (λ (z : PortIs). ask_reply c.group.state z.sent z.last) same_port ∙ none))
      by_reply (Some reply) replied = came reply replied

      hears_it : CameTo (hears_as chunks host port k (port_heard c (mount_number host.mount)))
      hears_it = subst (λ (d : Driven). CameTo (hears_as chunks host port k d)) (sym heard_is) (by_reply (ask_reply c.group.state p.sent p.last) refl)

    pub hears_middle : CameTo (hears v.routes port chunks host)
    hears_middle = by (pending_at host port) refl
      where
        at_run : (chunk : ℕ) → pending_at host port ≡ Some chunk → (k : ℕ) → group_serving v.routes chunk ≡ Some k → (o : Option ChunkRun) → slice_get chunks k ≡ o → CameTo (hears_of chunks host port k o)
        at_run chunk pend k serves None there = quiet (λ one g y q at serves_it there_it at_it. absurd (none-some y (sym there ∙ ap (slice_get chunks) (sym (same_Some g k (sym serves_it ∙ ap (group_serving v.routes) (same_Some one chunk (sym at ∙ pend)) ∙ serves))) ∙ there_it)))
        at_run chunk pend k serves (Some c) there = hears_it chunk pend k serves c there

        at_group : (chunk : ℕ) → pending_at host port ≡ Some chunk → (group : Option ℕ) → group_serving v.routes chunk ≡ group → CameTo (hears_at chunks host port group)
        at_group chunk pend None serves = quiet (λ one g y q at serves_it there_it at_it. absurd (none-some g (sym serves ∙ ap (group_serving v.routes) (sym (same_Some one chunk (sym at ∙ pend))) ∙ serves_it)))
        at_group chunk pend (Some k) serves = at_run chunk pend k serves (slice_get chunks k) refl

        by : (at : Option ℕ) → pending_at host port ≡ at → CameTo (hears_at chunks host port (option_and_then (group_serving v.routes) at))
        by None none = quiet (λ one g y q at serves_it there_it at_it. absurd (none-some one (sym none ∙ at)))
        by (Some chunk) pend = at_group chunk pend (group_serving v.routes chunk) refl
