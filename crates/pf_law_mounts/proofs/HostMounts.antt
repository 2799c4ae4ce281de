-- A host stays the mount of its life as it hears, asks and hands on, and while others do.
use Rattle.std.proofs.Common.{◌≡◌, ◌≢◌, ◌⊎◌, ℕ, ◌<◌, ◌≤◌, inl, inr, false, Option, Some, None, slice_set, arith, refl, sym, ap, subst, ◌∙◌}
use Rattle.pf_journal.specs.declared.layouts.Layout.{Layout}
use Rattle.std.proofs.lemmas.Bool.{cases_eq, false≢true}
use Rattle.std.proofs.lemmas.Option.{none-some, same_Some}
use Rattle.pf_base.specs.declared.asks.Ask.{Ask}
use Rattle.pf_base.specs.declared.asks.Reply.{Reply}
use Rattle.pf_entry.proofs.Lists.{set_cases, set_there}
use Rattle.pf_law_runs.specs.pf_group_network.proofs.Lists.{set_elsewhere, set_length, something_there}
use Rattle.pf_tree.specs.Calls.{FileCall}
use Rattle.pf_volume.specs.Volumes.{Extent}
use Rattle.pf_law_runs.specs.pf_law_service.specs.Services.{Service, but}
use Rattle.pf_mount_errands.specs.Positions.{anchors_of}
use Rattle.pf_mount.specs.declared.work.MountWork.TheVariants.{Rests}
use Rattle.pf_mount.specs.Mounts.{MountIs, mount_answered, ask_at, mount_asked as having_asked, starting}
use Rattle.pf_mount.specs.Nexts.{is_busy}
use Rattle.pf_mount.specs.Standing.{Awaits, AwaitsStill}
use Rattle.pf_mount.proofs.AwaitedStays.{answered_awaits, asked_awaits, awaiting_is_silent, starting_awaits}
use Rattle.pf_law_calls.specs.Lives.{Asks, Begins, Hears, Life, lives_on}
use Rattle.pf_law_homes.specs.Ports.{PortOwed}
use Rattle.pf_law_calls.proofs.Layouts.{few_anchors, input_lies}
use Rattle.pf_law_runs.specs.pf_world.specs.pf_mount_host.specs.Hosts.{HostIs, mount_number, pending_at}
use Rattle.pf_law_runs.specs.pf_world.specs.pf_mount_host.proofs.MountAsks.{files_stay}
use Rattle.pf_law_runs.specs.pf_world.specs.pf_mount_host.proofs.PendingAsks.{at_place, found_so, pends_there}
use Rattle.pf_law_mounts.proofs.AnchorClients.{anchors_are}
use Rattle.pf_law_mounts.proofs.Known.{IsAskedAt, IsHostOf, ports_in}
use Rattle.pf_law_mounts.proofs.ServiceGrowth.{but_other, but_same}
use Rattle.pf_law_mounts.proofs.WaitingAsks.{awaited_after}

-- Ports and their chunks

-- what pends once a port was answered, and once it asked
pub heard_pends : (host : HostIs) (mount : MountIs) (port other chunk : ℕ) → pending_at (record { mount = mount; at = slice_set host.at port None }) other ≡ Some chunk → (other ≢ port) × (pending_at host other ≡ Some chunk)
heard_pends host mount port other chunk there = elim (set_cases host.at port None other (Some chunk) (at_place (record { mount = mount; at = slice_set host.at port None }) other chunk there)) [
  | inl here ↦ absurd (none-some chunk here.1)
  | inr away ↦ (away.0, pends_there host other chunk away.1)
]

pub asked_pends : (host : HostIs) (mount : MountIs) (port c0 other chunk : ℕ) → pending_at (record { mount = mount; at = slice_set host.at port (Some c0) }) other ≡ Some chunk
    → ((other ≡ port) × (chunk ≡ c0)) ⊎ ((other ≢ port) × (pending_at host other ≡ Some chunk))
asked_pends host mount port c0 other chunk there = elim (set_cases host.at port (Some c0) other (Some chunk) (at_place (record { mount = mount; at = slice_set host.at port (Some c0) }) other chunk there)) [
  | inl here ↦ inl (here.0, sym (same_Some c0 chunk here.1))
  | inr away ↦ inr (away.0, pends_there host other chunk away.1)
]

module _ (layout : Layout) (e : Extent) (service : ℕ → Service) (owed : ℕ → Option PortOwed) (life : Life) (m : ℕ) (host : HostIs) (is : IsHostOf layout e service owed life m host) where
  -- so many ports it has
  last_port : {port : ℕ} → port < ports_in layout → port ≤ anchors_of host.mount.position
  last_port {port} low = omega (arith, low, anchors_are layout host.mount is.laid.lies)

  -- a port with an answer to come asks nothing
  pub none_owed : (port : ℕ) (ask : Ask) → ask_at host.mount port ≡ Some ask → owed port ≡ None
  none_owed port ask asks_it = by (owed port) refl
    where
      by : (o : Option PortOwed) → owed port ≡ o → o ≡ None
      by None owes = refl
      by (Some o) owes = absurd (none-some ask (sym (awaiting_is_silent host.mount port o.ask (is.awaits port o owes)) ∙ asks_it))

  -- Others do something

  module _ (now : ℕ → Service) (its : ℕ → Option PortOwed) (same_owed : (port : ℕ) → its port ≡ owed port) (port_ask : (chunk : ℕ) → ((now chunk).port m).ask ≡ ((service chunk).port m).ask) (port_owed : (chunk : ℕ) → (now chunk).owed m ≡ (service chunk).owed m)
      (new : Life) (same_life : new ≡ life) where
    pub host_still : IsHostOf layout e now its new m host
    host_still = record {
      number = is.number;
      volume = is.volume;
      laid = is.laid;
      first = is.first;
      waits = is.waits;
      mount = is.mount ∙ ap (λ (l : Life). l.mount) (sym same_life);
      four = is.four;
      low = is.low;
      one = is.one;
      awaits = λ port its_owed owes. is.awaits port its_owed (sym (same_owed port) ∙ owes);
      asks = λ port chunk small at.
          let a = is.asks port chunk small at in
          record { owes = a.owes; matter = a.matter; is = port_owed chunk ∙ a.is; pending = port_ask chunk ∙ a.pending; same = same_owed port ∙ a.same; of = a.of };
      quiet = λ chunk small none. port_ask chunk ∙ is.quiet chunk small none;
    }

  -- what is asked at a chunk is asked there still, where the service of that chunk and what the port owes are as they were
  asked_still : (now : ℕ → Service) (its : ℕ → Option PortOwed) (port chunk : ℕ) → now chunk ≡ service chunk → its port ≡ owed port → IsAskedAt service owed m port chunk → IsAskedAt now its m port chunk
  asked_still now its port chunk same same_owed a = record {
    owes = a.owes;
    matter = a.matter;
    is = ap (λ (s : Service). s.owed m) same ∙ a.is;
    pending = ap (λ (s : Service). (s.port m).ask) same ∙ a.pending;
    same = same_owed ∙ a.same;
    of = a.of;
  }

  -- and awaited still
  awaited_still : (its : ℕ → Option PortOwed) (mount : MountIs) (port : ℕ) → its port ≡ owed port → AwaitsStill host.mount mount port → (o : PortOwed) → its port ≡ Some o → Awaits mount port (Some o.ask)
  awaited_still its mount port same_owed awaits o owes = awaits (Some o.ask) (is.awaits port o (sym same_owed ∙ owes))

  -- A call begins

  module _ (call : FileCall) (rests : host.mount.task.work ≡ Rests) (its : ℕ → Option PortOwed) (same_owed : (port : ℕ) → its port ≡ owed port) (new : Life) (life_on : new ≡ lives_on life (Begins call)) where
    pub host_begins : IsHostOf layout e service its new m (record host { mount = (starting host.mount call).mount })
    host_begins = record {
      number = is.number;
      volume = is.volume;
      laid = input_lies layout host.mount (Begins call) is.laid;
      first = is.first;
      waits = awaited_after host.mount (Begins call) is.waits;
      mount = ap (λ (x : MountIs). (starting x call).mount) is.mount ∙ ap (λ (l : Life). l.mount) (sym life_on);
      four = is.four;
      low = is.low;
      one = is.one;
      awaits = λ port. awaited_still its (starting host.mount call).mount port (same_owed port) (starting_awaits host.mount call port rests);
      asks = λ port chunk small at. asked_still service its port chunk refl (same_owed port) (is.asks port chunk small at);
      quiet = is.quiet;
    }

  -- A port hears

  module _ (port c0 : ℕ) (at : pending_at host port ≡ Some c0) (t : Service) (free : (t.port m).ask ≡ None) (reply : Reply) (its : ℕ → Option PortOwed) (empty : its port ≡ None) (same_owed : (other : ℕ) → other ≢ port → its other ≡ owed other) (new : Life) (life_on : new ≡ lives_on life (Hears port reply)) where
    abbrev pub heard_host : HostIs
    heard_host = record { mount = (mount_answered host.mount port reply).mount; at = slice_set host.at port None }

    pends_still : (other chunk : ℕ) → pending_at heard_host other ≡ Some chunk → (other ≢ port) × (pending_at host other ≡ Some chunk)
    pends_still = heard_pends host (mount_answered host.mount port reply).mount port

    pends_on : (other chunk : ℕ) → other ≢ port → pending_at host other ≡ Some chunk → pending_at heard_host other ≡ Some chunk
    pends_on other chunk apart there = pends_there heard_host other chunk (set_elsewhere host.at port other None apart ∙ at_place host other chunk there)

    hears_low : port ≤ anchors_of host.mount.position
    hears_low = last_port (is.low port c0 at)

    another : (other chunk : ℕ) → other ≢ port → pending_at host other ≡ Some chunk → chunk ≢ c0
    another other chunk apart there same = apart (is.one other port c0 (there ∙ ap (λ n. Some n) same) at)

    pub host_hears : IsHostOf layout e (but service c0 t) its new m heard_host
    host_hears = record {
      number = is.number;
      volume = is.volume;
      laid = input_lies layout host.mount (Hears port reply) is.laid;
      first = is.first;
      waits = awaited_after host.mount (Hears port reply) is.waits;
      mount = ap (λ (x : MountIs). (mount_answered x port reply).mount) is.mount ∙ ap (λ (l : Life). l.mount) (sym life_on);
      four = set_length host.at port None ∙ is.four;
      low = λ other chunk there. is.low other chunk (pends_still other chunk there).1;
      one = λ other third chunk at_other at_third. is.one other third chunk (pends_still other chunk at_other).1 (pends_still third chunk at_third).1;
      awaits = λ other o owes. elim (cases_eq other port) [
        | inl same ↦ absurd (none-some o (sym empty ∙ ap its (sym same) ∙ owes))
        | inr apart ↦ awaited_still its (mount_answered host.mount port reply).mount other (same_owed other apart) (answered_awaits host.mount port other reply hears_low apart) o owes
      ];
      asks = λ other chunk small there.
          let was = pends_still other chunk there in
          asked_still (but service c0 t) its other chunk (but_other service c0 chunk t (another other chunk was.0 was.1)) (same_owed other was.0) (is.asks other chunk small was.1);
      quiet = λ chunk small none. elim (cases_eq chunk c0) [
        | inl same ↦ subst (λ i. ((but service c0 t i).port m).ask ≡ None) (sym same) (ap (λ (s : Service). (s.port m).ask) (but_same service c0 t) ∙ free)
        | inr apart ↦
            ap (λ (s : Service). (s.port m).ask) (but_other service c0 chunk t apart)
            ∙ is.quiet chunk small (λ other there. elim (cases_eq other port) [
              | inl here ↦ apart (same_Some chunk c0 (sym there ∙ ap (pending_at host) here ∙ at))
              | inr away ↦ none other (pends_on other chunk away there)
            ])
      ];
    }

  -- A port asks

  module _ (port : ℕ) (low : port < ports_in layout) (its : ℕ → Option PortOwed) (new : Life) (life_on : new ≡ lives_on life (Asks port)) where
    low_port : port ≤ anchors_of host.mount.position
    low_port = last_port low

    asking_mount : having_asked host.mount port ≡ new.mount
    asking_mount = ap (λ (x : MountIs). having_asked x port) is.mount ∙ ap (λ (l : Life). l.mount) (sym life_on)

    number_stays : mount_number (having_asked host.mount port) ≡ m
    number_stays = ap (λ f. f.mount) (files_stay host.mount port) ∙ is.number

    volume_stays : (having_asked host.mount port).files.volume ≡ e
    volume_stays = ap (λ f. f.volume) (files_stay host.mount port) ∙ is.volume

    none_here : (ask : Ask) → ask_at host.mount port ≡ Some ask → (chunk : ℕ) → chunk < e.chunks → pending_at host port ≡ Some chunk → ⊥
    none_here ask asks_it chunk small at = none-some _ (sym (none_owed port ask asks_it) ∙ (is.asks port chunk small at).same)

    -- this, of a chunk for which no port asks
    module _ (ask : Ask) (asks_it : ask_at host.mount port ≡ Some ask) (c0 : ℕ) (free : is_busy host.at c0 ≡ false) (same_owed : (other : ℕ) → other ≢ port → its other ≡ owed other) (newly : (o : PortOwed) → its port ≡ Some o → Awaits (having_asked host.mount port) port (Some o.ask))
        (now : ℕ → Service) (elsewhere : (chunk : ℕ) → chunk < e.chunks → chunk ≢ c0 → now chunk ≡ service chunk) (here : c0 < e.chunks → IsAskedAt now its m port c0) where
      abbrev pub asked_host : HostIs
      asked_host = record { mount = having_asked host.mount port; at = slice_set host.at port (Some c0) }

      none_for : (other : ℕ) → pending_at host other ≡ Some c0 → ⊥
      none_for other there = false≢true (sym free ∙ found_so host other c0 there)

      pended : (other chunk : ℕ) → pending_at asked_host other ≡ Some chunk → ((other ≡ port) × (chunk ≡ c0)) ⊎ ((other ≢ port) × (pending_at host other ≡ Some chunk))
      pended = asked_pends host (having_asked host.mount port) port c0

      pends_now : pending_at asked_host port ≡ Some c0
      pends_now =
          let place = something_there host.at port (omega (arith, low, is.four, few_anchors layout)) in pends_there asked_host port c0 (set_there host.at port place.0 (Some c0) place.1)

      asked_on : (other chunk : ℕ) → other ≢ port → pending_at host other ≡ Some chunk → pending_at asked_host other ≡ Some chunk
      asked_on other chunk apart there = pends_there asked_host other chunk (set_elsewhere host.at port other (Some c0) apart ∙ at_place host other chunk there)

      pub host_asks : IsHostOf layout e now its new m asked_host
      host_asks = record {
        number = number_stays;
        volume = volume_stays;
        laid = input_lies layout host.mount (Asks port) is.laid;
        first = ap (λ f. f.first) (files_stay host.mount port) ∙ is.first;
        waits = awaited_after host.mount (Asks port) is.waits;
        mount = asking_mount;
        four = set_length host.at port (Some c0) ∙ is.four;
        low = λ other chunk there. elim (pended other chunk there) [
          | inl same ↦ subst (λ p. p < ports_in layout) (sym same.0) low
          | inr was ↦ is.low other chunk was.1
        ];
        one = λ other third chunk at_other at_third. elim (pended other chunk at_other) [
          | inl same ↦ elim (pended third chunk at_third) [
            | inl also ↦ same.0 ∙ sym also.0
            | inr was ↦ absurd (none_for third (was.1 ∙ ap (λ n. Some n) same.1))
          ]
          | inr was ↦ elim (pended third chunk at_third) [
            | inl same ↦ absurd (none_for other (was.1 ∙ ap (λ n. Some n) same.1))
            | inr also ↦ is.one other third chunk was.1 also.1
          ]
        ];
        awaits = λ other o owes. elim (cases_eq other port) [
          | inl same ↦ subst (λ p. Awaits (having_asked host.mount port) p (Some o.ask)) (sym same) (newly o (ap its (sym same) ∙ owes))
          | inr apart ↦ awaited_still its (having_asked host.mount port) other (same_owed other apart) (asked_awaits host.mount port other low_port apart) o owes
        ];
        asks = λ other chunk small there. elim (pended other chunk there) [
          | inl same ↦
              subst (λ p. IsAskedAt now its m p chunk) (sym same.0) (subst (IsAskedAt now its m port) (sym same.1) (here (subst (λ n. n < e.chunks) same.1 small)))
          | inr was ↦ asked_still now its other chunk (elsewhere chunk small (λ one. none_for other (was.1 ∙ ap (λ n. Some n) one))) (same_owed other was.0) (is.asks other chunk small was.1)
        ];
        quiet = λ chunk small none.
            ap (λ (s : Service). (s.port m).ask) (elsewhere chunk small (λ same. none port (pends_now ∙ ap (λ n. Some n) (sym same))))
            ∙ is.quiet chunk small (λ other there. elim (cases_eq other port) [
              | inl at_it ↦ none_here ask asks_it chunk small (ap (pending_at host) (sym at_it) ∙ there)
              | inr apart ↦ none other (asked_on other chunk apart there)
            ]);
      }
