-- A port of a host over a layout is looked at, and its reply is taken.
use Rattle.pf_world_moments.specs.pf_chunk.specs.Driving.{port_heard}
use Rattle.std.proofs.Common.{◌≡◌, ◌≢◌, ℕ, List, [], ◌∷◌, ◌++◌, length, Option, Some, None, slice_get, slice_set, inl, inr, refl, sym, ap, subst, ◌∙◌, append-nil}
use Rattle.std.specs.Prelude.{IfSome}
use Rattle.std.specs.Option.{option_map}
use Rattle.std.proofs.lemmas.Option.{none-some, same_Some}
use Rattle.pf_base.specs.declared.asks.Ask.{Ask}
use Rattle.pf_base.specs.declared.asks.Reply.{Reply}
use Rattle.pf_base.specs.Asks.{Answers as AnswersAsk}
use Rattle.pf_base.specs.declared.calls.CallName.{CallName}
use Rattle.pf_base.specs.CallNames.{call_name_of}
use Rattle.pf_entry.proofs.Lists.{set_cases, set_there}
use Rattle.pf_world_moments.specs.pf_group_network.proofs.Lists.{set_elsewhere, set_length, set_mapped}
use Rattle.pf_asks.specs.Ports.{PortIs}
use Rattle.pf_file_calls.specs.declared.calls.Pending.{Pending}
use Rattle.pf_tree.specs.Calls.{FileCall}
use Rattle.pf_mount.specs.declared.work.MountNext.{MountNext}
use Rattle.pf_mount.specs.declared.work.MountNext.TheVariants.{Ready, Done, Failed}
use Rattle.pf_mount.specs.Mounts.{MountIs, MountOutcome, mount_answered}
use Rattle.pf_mount.specs.Standing.{AnswersPort, AwaitsStill}
use Rattle.pf_world_moments.specs.pf_group_rounds.specs.Halts.{Halt}
use Rattle.pf_world_moments.specs.pf_group_rounds.proofs.Told.{told_length}
use Rattle.pf_world_moments.specs.pf_chunk.specs.Views.{ChunkIs, run_of}
use Rattle.pf_move.specs.Routes.{RoutesIs, home_of_chunk}
use Rattle.pf_world_moments.specs.Moments.{Acts, Takes, moments_text}
use Rattle.pf_world_moments.specs.Hosts.{pending_call}
use Rattle.pf_world_moments.specs.Parts.{name_in}
use Rattle.pf_world_moments.specs.Steps.{TellsAll, chunk_runs}
use Rattle.pf_world_moments.proofs.MountOutcomes.{ended_is}
use Rattle.pf_world_moments.proofs.Groups.{run_there}
use Rattle.pf_world_moments.proofs.HistoryGrowth.{Lengthens, lengthens_refl}
use Rattle.pf_world_moments.proofs.PortSteps.{gone_grown, gone_refl}
use Rattle.pf_mount_host.specs.Hosts.{HostIs, Stepped, call_ended, group_asked_at, hears, hears_as, hears_at, hears_of, mount_number, pending_at, takes_if}
use Rattle.pf_mount_host.specs.Parts.{HasHeardAt, HasMet, MountHasTaken, GroupStep, next_text}
use Rattle.pf_mount_host.specs.Steps.{AreReadyFor, HasDone, HasNotDone, IsAnchoredHostOf, IsAskingAt, HostPart}
use Rattle.pf_mount_host.proofs.GroupHistories.{hears_lengthens}
use Rattle.pf_mount_host.proofs.Parts.{all_stand, none_done}
use Rattle.pf_mount_host.proofs.PendingAsks.{AsksHere, asks_elsewhere, asks_here, at_place, pends_there, same_or}

-- The lines of what ended

pub ended_text : (mount : ℕ) (call : Option FileCall) (name : Option CallName) (next : Option MountNext) → option_map call_name_of call ≡ name → moments_text (call_ended mount call next) ≡ next_text mount name next
ended_text mount call name None is = refl
ended_text mount call name (Some Ready) is = append-nil _
ended_text mount call name (Some (Done answer)) is = append-nil _ ∙ ended_is mount answer call name is
ended_text mount call name (Some Failed) is = refl

named : (pending : Option Pending) → option_map call_name_of (pending_call pending) ≡ name_in pending
named None = refl
named (Some p) = refl

-- the mount took the reply
pub has_taken : (port : ℕ) (reply : Reply) (before after : List ℕ) (host : HostIs) (m : MountIs) (next : Option MountNext) → ◌≡◌ {A = MountOutcome} (record { mount = m; next = next }) (mount_answered host.mount port reply)
    → after ≡ before ++ next_text (mount_number host.mount) (name_in host.mount.files.pending) next → MountHasTaken port reply before host after (record { mount = m; at = slice_set host.at port None })
has_taken port reply before after host m next is put =
    let call = pending_call host.mount.files.pending in record {
      told = λ by. Acts (mount_number host.mount) (Takes port (record { reply = reply; by = by })) ∷ call_ended (mount_number host.mount) call next;
      put = λ by. put ∙ ap (λ text. before ++ text) (sym (ended_text (mount_number host.mount) call (name_in host.mount.files.pending) next (named host.mount.files.pending)));
      run = λ by chunks.
          ap (λ (o : MountOutcome). record {
            chunks = chunks;
            host = record { mount = o.mount; at = slice_set host.at port None };
            told = Acts (mount_number host.mount) (Takes port (record { reply = reply; by = by })) ∷ call_ended (mount_number host.mount) call o.next;
          }) (sym is);
    }

-- as the code has it
pub took : (port : ℕ) (reply : Reply) (before after : List ℕ) (host inside : HostIs) (m : MountIs) (next : Option MountNext) (n : ℕ) (name : Option CallName) → inside ≡ host → n ≡ mount_number inside.mount → name ≡ name_in inside.mount.files.pending
    → ◌≡◌ {A = MountOutcome} (record { mount = m; next = next }) (mount_answered inside.mount port reply) → after ≡ before ++ next_text n name next → MountHasTaken port reply before host after (record { mount = m; at = slice_set inside.at port None })
took port reply before after host inside m next n name is number name_is step put =
    subst (λ (h : HostIs). MountHasTaken port reply before h after (record { mount = m; at = slice_set inside.at port None })) is
    (has_taken port reply before after inside m next step
    (put ∙ ap (λ (k : ℕ). before ++ next_text k name next) number ∙ ap (λ (x : Option CallName). before ++ next_text (mount_number inside.mount) x next) name_is))

-- Whatever a port's step was that gave no reply, it waits on
pub waits_on : (step : GroupStep) (routes : RoutesIs) (old new : List ChunkIs) (host : HostIs) (port k : ℕ) (before after : List ℕ) → IsAnchoredHostOf routes old host → group_asked_at routes host port ≡ Some k
    → HasMet step (mount_number host.mount) k old before None after new → IsAnchoredHostOf routes new host
waits_on step routes old new host port k before after is_host group d = record {
  volume = is_host.volume;
  ports = is_host.ports;
  asking = asking;
  apart = is_host.apart;
  quiet = λ j c none there. elim (set_cases old k d.is j c (ap (λ (cs : List ChunkIs). slice_get cs j) (sym d.one) ∙ there)) [
    | inl same ↦ absurd (none port a.chunk a.at (a.home ∙ ap (λ (i : ℕ). Some i) (sym same.0)))
    | inr other ↦ is_host.quiet j c none other.1
  ];
} where
  a : AsksHere routes old host port k
  a = asks_here routes old host port k is_host group

  asking : (p chunk : ℕ) → pending_at host p ≡ Some chunk → IsAskingAt routes new host.mount p chunk
  asking p chunk at =
      let w = is_host.asking p chunk at in elim (same_or w.k k) [
        | inl same ↦
            let was_c = same_Some d.was w.c (sym d.there ∙ ap (slice_get old) (sym same) ∙ w.there) in
            let its = subst (λ (x : ChunkIs). slice_get x.ports (mount_number host.mount) ≡ Some w.its) (sym was_c) w.its_there in record {
              k = k;
              home = w.home ∙ ap (λ (i : ℕ). Some i) same;
              c = d.is;
              there = ap (λ (cs : List ChunkIs). slice_get cs k) d.one ∙ set_there old k d.was d.is d.there;
              its = d.port.port;
              its_there = ap (λ (ports : List PortIs). slice_get ports (mount_number host.mount)) d.port.ports ∙ set_there d.was.ports (mount_number host.mount) w.its d.port.port its;
              ask = w.ask;
              pending = d.port.asks w.its its ∙ w.pending;
              of_chunk = w.of_chunk;
              awaits = w.awaits;
            }
        | inr other ↦ record {
          k = w.k;
          home = w.home;
          c = w.c;
          there = ap (λ (cs : List ChunkIs). slice_get cs w.k) d.one ∙ set_elsewhere old k w.k d.is other ∙ w.there;
          its = w.its;
          its_there = w.its_there;
          ask = w.ask;
          pending = w.pending;
          of_chunk = w.of_chunk;
          awaits = w.awaits;
        }
      ]

abbrev hearing : (port : ℕ) → HostPart
hearing port halts routes chunks host = hears routes port chunks host

-- nothing is pending there, or its chunk is moving
pub hears_nothing : (routes : RoutesIs) (chunks : List ChunkIs) (host : HostIs) (port : ℕ) (out : List ℕ) → AreReadyFor routes chunks host → group_asked_at routes host port ≡ None
    → HasDone (λ halts r cs h. hears r port cs h) routes chunks out host chunks out host
hears_nothing routes chunks host port out ready none = record {
  ready = ready.ready;
  gone = gone_refl (mount_number host.mount) chunks;
  is_host = ready.is_host;
  number = refl;
  layout = refl;
  volume = refl;
  calls = refl;
  told = [];
  put = sym (append-nil out);
  run = λ halts tells. ap (hears_at (chunk_runs halts chunks) host port) none;
}

-- its group did not hear for want of memory
pub not_heard : (routes : RoutesIs) (old new : List ChunkIs) (host : HostIs) (port : ℕ) → new ≡ old → HasNotDone (λ halts r cs h. hears r port cs h) routes old host new
not_heard routes old new host port same = none_done (hearing port) routes old new host (λ halts r cs h. hears_lengthens r port cs h) same

module _ (routes : RoutesIs) (old new : List ChunkIs) (host : HostIs) (port k : ℕ) (ready : AreReadyFor routes old host) (group : group_asked_at routes host port ≡ Some k) where
  -- what a run hears
  module _ (reply : Option Reply) (d : HasHeardAt (mount_number host.mount) k old reply new) where
    run_heard : (halts : List Halt) → TellsAll halts new → hears routes port (chunk_runs halts old) host ≡ takes_if (chunk_runs halts new) host port (length d.is.group.history) reply
    run_heard halts tells =
        ap (hears_at (chunk_runs halts old) host port) group
        ∙ ap (hears_of (chunk_runs halts old) host port k) (run_there halts old k d.was d.there)
        ∙ ap (hears_as (chunk_runs halts old) host port k) (d.run halts tells)
        ∙ ap (λ n. takes_if (slice_set (chunk_runs halts old) k (run_of halts d.is)) host port n reply) (told_length halts d.is.group.number 0 d.is.group.history)
        ∙ ap (λ cs. takes_if cs host port (length d.is.group.history) reply) (set_mapped (run_of halts) old k d.is ∙ ap (chunk_runs halts) (sym d.one))

  -- it was not answered
  pub hears_no_reply : (out : List ℕ) → HasHeardAt (mount_number host.mount) k old None new → HasDone (λ halts r cs h. hears r port cs h) routes old out host new out host
  hears_no_reply out d = record {
    ready = d.ready;
    gone = d.gone;
    is_host = waits_on (λ halts c. port_heard c (mount_number host.mount)) routes old new host port k [] [] ready.is_host group d;
    number = refl;
    layout = refl;
    volume = refl;
    calls = refl;
    told = [];
    put = sym (append-nil out);
    run = λ halts tells. run_heard None d halts tells;
  }

  module _ (reply : Reply) (d : HasHeardAt (mount_number host.mount) k old (Some reply) new) where
    -- the mount did not take it for want of memory
    pub not_taken : HasNotDone (λ halts r cs h. hears r port cs h) routes old host new
    not_taken = record {
      grown = gone_grown (mount_number host.mount) old new d.gone;
      begun = λ halts tells.
          all_stand halts old new (hears routes port (chunk_runs halts old) host).chunks tells (gone_grown (mount_number host.mount) old new d.gone)
          (subst (λ (s : Stepped). Lengthens (chunk_runs halts new) s.chunks) (sym (run_heard (Some reply) d halts tells)) (lengthens_refl (chunk_runs halts new)));
    }

    a : AsksHere routes old host port k
    a = asks_here routes old host port k ready.is_host group

    -- it did
    module _ (before after : List ℕ) (next : HostIs) (t : MountHasTaken port reply before host after next)
        (stays : (other : ℕ) → other ≢ port → AwaitsStill host.mount (mount_answered host.mount port reply).mount other) (kept : (mount_answered host.mount port reply).mount.position.layout ≡ host.mount.position.layout) where
      next_is : next ≡ record { mount = (mount_answered host.mount port reply).mount; at = slice_set host.at port None }
      next_is = ap (λ (s : Stepped). s.host) (sym (t.run 0 []))

      mount_is : next.mount ≡ (mount_answered host.mount port reply).mount
      mount_is = ap (λ (h : HostIs). h.mount) next_is

      number_is : mount_number next.mount ≡ mount_number host.mount
      number_is = ap (λ (h : HostIs). mount_number h.mount) next_is

      -- what pends still pended at another port
      pended : (p chunk : ℕ) → pending_at next p ≡ Some chunk → (p ≢ port) × (pending_at host p ≡ Some chunk)
      pended p chunk at = elim (set_cases host.at port None p (Some chunk) (ap (λ (h : HostIs). slice_get h.at p) (sym next_is) ∙ at_place next p chunk at)) [
        | inl same ↦ absurd (none-some chunk same.1)
        | inr other ↦ (other.0, pends_there host p chunk other.1)
      ]

      pends_on : (p chunk : ℕ) → p ≢ port → pending_at host p ≡ Some chunk → pending_at next p ≡ Some chunk
      pends_on p chunk other at =
          pends_there next p chunk (ap (λ (h : HostIs). slice_get h.at p) next_is ∙ set_elsewhere host.at port p None other ∙ at_place host p chunk at)

      asking_on : (p chunk : ℕ) → pending_at next p ≡ Some chunk → IsAskingAt routes new next.mount p chunk
      asking_on p chunk at =
          let was = pended p chunk at in
          let w = ready.is_host.asking p chunk was.1 in
          let other : w.k ≢ k = λ same.
          asks_elsewhere (length old) routes old host port p a.chunk chunk k ready.routed ready.is_host (λ e. was.0 (sym e)) a.at was.1 a.home (w.home ∙ ap (λ (i : ℕ). Some i) same) in record {
            k = w.k;
            home = w.home;
            c = w.c;
            there = ap (λ (cs : List ChunkIs). slice_get cs w.k) d.one ∙ set_elsewhere old k w.k d.is other ∙ w.there;
            its = w.its;
            its_there = ap (slice_get w.c.ports) number_is ∙ w.its_there;
            ask = w.ask;
            pending = w.pending;
            of_chunk = w.of_chunk;
            awaits = subst (λ (m : MountIs). AwaitsStill host.mount m p) (sym mount_is) (stays p was.0) (Some w.ask) w.awaits;
          }

      -- its own port has nothing to ask any more
      quiet_there : (c : ChunkIs) (its : PortIs) → d.is ≡ c → slice_get c.ports (mount_number next.mount) ≡ Some its → its.ask ≡ None
      quiet_there c its same there =
          let was_c = same_Some d.was a.c (sym d.there ∙ a.there) in
          let had = subst (λ (x : ChunkIs). slice_get x.ports (mount_number host.mount) ≡ Some a.its) (sym was_c) a.its_there in
          let now : slice_get d.is.ports (mount_number host.mount) ≡ Some d.port.port = ap (λ (ports : List PortIs). slice_get ports (mount_number host.mount)) d.port.ports ∙ set_there d.was.ports (mount_number host.mount) a.its d.port.port had in
          let is_port = same_Some d.port.port its (sym now ∙ ap (λ (x : ChunkIs). slice_get x.ports (mount_number host.mount)) same ∙ ap (slice_get c.ports) (sym number_is) ∙ there) in
          ap (λ (p : PortIs). p.ask) (sym is_port) ∙ d.port.asks a.its had

      quiet_on : (j : ℕ) (c : ChunkIs) → ((p chunk : ℕ) → pending_at next p ≡ Some chunk → home_of_chunk routes chunk ≢ Some j) → slice_get new j ≡ Some c → (its : PortIs) → slice_get c.ports (mount_number next.mount) ≡ Some its → its.ask ≡ None
      quiet_on j c none there its its_there = elim (set_cases old k d.is j c (ap (λ (cs : List ChunkIs). slice_get cs j) (sym d.one) ∙ there)) [
        | inl same ↦ quiet_there c its same.1 its_there
        | inr other ↦ ready.is_host.quiet j c (λ p chunk at home. elsewhere p chunk other.0 at home) other.1 its (ap (slice_get c.ports) (sym number_is) ∙ its_there)
      ] where
        elsewhere : (p chunk : ℕ) → j ≢ k → pending_at host p ≡ Some chunk → home_of_chunk routes chunk ≡ Some j → ⊥
        elsewhere p chunk apart at home = elim (same_or p port) [
          | inl same ↦
              let its_chunk = same_Some a.chunk chunk (sym a.at ∙ ap (pending_at host) (sym same) ∙ at) in
              apart (same_Some j k (sym home ∙ ap (home_of_chunk routes) (sym its_chunk) ∙ a.home))
          | inr other ↦ none p chunk (pends_on p chunk other at) home
        ]

      takes_on : IsAnchoredHostOf routes new next
      takes_on = record {
        volume = ap (λ (h : HostIs). h.mount.files.volume.chunks) next_is ∙ ready.is_host.volume;
        ports = ap (λ (h : HostIs). length h.at) next_is ∙ set_length host.at port None ∙ ready.is_host.ports;
        asking = asking_on;
        apart = λ p other chunk at other_at. ready.is_host.apart p other chunk (pended p chunk at).1 (pended other chunk other_at).1;
        quiet = quiet_on;
      }

      pub hears_reply : HasDone (λ halts r cs h. hears r port cs h) routes old before host new after next
      hears_reply = record {
        ready = d.ready;
        gone = d.gone;
        is_host = takes_on;
        number = number_is;
        layout = ap (λ (h : HostIs). h.mount.position.layout) next_is ∙ kept;
        volume = ap (λ (h : HostIs). h.mount.files.volume) next_is;
        calls = ap (λ (h : HostIs). h.mount.files.calls) next_is;
        told = t.told (length d.is.group.history);
        put = t.put (length d.is.group.history);
        run = λ halts tells. run_heard (Some reply) d halts tells ∙ t.run (length d.is.group.history) (chunk_runs halts new);
      }

-- the reply that was given answers the ask that is pending at the port
pub reply_answers : (routes : RoutesIs) (chunks : List ChunkIs) (host : HostIs) (port k mount : ℕ) (given : Option Reply) (reply : Reply) → IsAnchoredHostOf routes chunks host → group_asked_at routes host port ≡ Some k → mount ≡ mount_number host.mount
    → IfSome given (λ r. (c : ChunkIs) (its : PortIs) (ask : Ask) → slice_get chunks k ≡ Some c → slice_get c.ports mount ≡ Some its → its.ask ≡ Some ask → AnswersAsk ask r)
    → given ≡ Some reply → AnswersPort host.mount port reply
reply_answers routes chunks host port k mount given reply is_host group number answers is =
    let a = asks_here routes chunks host port k is_host group in
    let its = subst
    (λ (o : Option Reply). IfSome o (λ r. (c : ChunkIs) (its : PortIs) (ask : Ask) → slice_get chunks k ≡ Some c → slice_get c.ports mount ≡ Some its → its.ask ≡ Some ask → AnswersAsk ask r)) is answers in
    a.awaits reply (its a.c a.its a.ask a.there (ap (slice_get a.c.ports) number ∙ a.its_there) a.pending)
