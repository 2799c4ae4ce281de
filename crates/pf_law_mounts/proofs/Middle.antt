-- What is known in the middle of a step of a host.
use Rattle.std.proofs.Common.{◌≡◌, ◌≢◌, ℕ, suc, ◌<◌, ◌≤◌, inl, inr, false, List, ◌++◌, length, Some, None, slice_get, slice_set, arith, refl, sym, ap, subst, ◌∙◌}
use Rattle.pf_journal.specs.declared.layouts.Layout.{Layout}
use Rattle.std.proofs.lemmas.Bool.{cases_eq}
use Rattle.std.proofs.lemmas.Option.{same_Some}
use Rattle.pf_base.specs.Asks.{Answers}
use Rattle.pf_base.specs.Span.{Span}
use Rattle.pf_base.specs.declared.asks.Ask.TheVariants.{Read as ReadAsk}
use Rattle.pf_base.specs.declared.asks.Reply.{Reply}
use Rattle.pf_entry.specs.Lists.{Every}
use Rattle.pf_law_runs.specs.pf_group_network.proofs.Lists.{set_elsewhere}
use Rattle.pf_protocol.specs.Groups.{Answered}
use Rattle.pf_protocol.specs.Histories.{replay}
use Rattle.pf_volume.specs.Volumes.{Extent, IsVolume}
use Rattle.pf_law_positions.specs.Deeds.{Deed}
use Rattle.pf_journal.specs.Sectors.{HasSpelling}
use Rattle.pf_asks.specs.Ports.{PortIs}
use Rattle.pf_law_runs.specs.pf_law_service.specs.Services.{Owed as ServiceOwed, Service, past_of}
use Rattle.pf_law_runs.specs.pf_law_service.specs.Served.{AreLegal, IsAskAnsweredBy, ChunkIsServed, PortSteps, group_by_now}
use Rattle.pf_law_calls.specs.Lives.{AreShort, MountTold, lives}
use Rattle.pf_move.specs.Routes.{home_of_chunk, group_serving}
use Rattle.pf_law_runs.specs.pf_world.specs.pf_chunk.specs.Asks.{ask_reply}
use Rattle.pf_law_runs.specs.pf_world.specs.pf_chunk.specs.Runs.{ChunkRun}
use Rattle.pf_law_runs.specs.pf_world.specs.pf_world_moments.specs.Moments.{Moment}
use Rattle.pf_law_runs.specs.pf_world.specs.pf_mount_host.specs.Hosts.{HostIs, pending_at}
use Rattle.pf_law_runs.specs.pf_world.specs.pf_world_hosts.specs.Volumes.{VolumeRun}
use Rattle.pf_law_runs.specs.pf_law_movers.specs.Epochs.{group_of_epoch}
use Rattle.pf_law_runs.specs.pf_law_movers.proofs.ToldRoutes.{AreRoutes, IsStill, served_home, served_is, still_routes}
use Rattle.pf_law_mounts.proofs.Homes.{home_last, homes_apart, steady}
use Rattle.pf_law_mounts.proofs.Nexts.{KnownWith, its_host, number_low, known_still}
use Rattle.pf_law_mounts.proofs.Known.{IsAskedAt, owed_of}
use Rattle.pf_law_mounts.proofs.ServiceGrowth.{IsNoHanding}
use Rattle.pf_law_mounts.proofs.MomentTells.{IsIdle}

-- The laws of pf_law_service and pf_law_calls on which this rests

-- a reply is one to the ask that pended, and bytes are those of the range that was asked
pub record AreAnswers : Type 0 where
  pub kind : (chunk mount : ℕ) (s : Service) (ds : List Deed) (owed : ServiceOwed) (reply : Reply) (next : PortIs) → ChunkIsServed chunk s ds → AreLegal s → PortSteps s mount owed (Some reply) (past_of s mount) next → Answers owed.ask reply
  pub range : (chunk mount its : ℕ) (span : Span) (s : Service) (ds : List Deed) (owed : ServiceOwed) (reply : Reply) (answer : Answered) (next : PortIs) → ChunkIsServed chunk s ds → AreLegal s → PortSteps s mount owed (Some reply) (past_of s mount) next → IsAskAnsweredBy (s.port mount).sent (group_by_now s) reply answer
      → owed.ask ≡ ReadAsk its span → answer.range ≡ span

-- what a ballot writes has a spelling
abbrev pub AreSpelled : Type 0
AreSpelled = (layout : Layout) (v : Extent) (told : List MountTold) (m : ℕ) → IsVolume v → AreShort told → HasSpelling (lives layout v told m).mount.position.ballot.own

module _ (calls : ℕ) (v : VolumeRun) (m : ℕ) (inside : m < length v.hosts) where
  -- at these ports of the host nothing is answered that it has not heard
  abbrev pub AreSilent : List ChunkRun → HostIs → (low high : ℕ) → Type 0
  AreSilent chunks host low high =
      (port chunk k : ℕ) (c : ChunkRun) (p : PortIs) → low ≤ port → port < high → pending_at host port ≡ Some chunk → group_serving v.routes chunk ≡ Some k → slice_get chunks k ≡ Some c → slice_get c.ports m ≡ Some p → ask_reply c.group.state p.sent p.last ≡ None

  pub record Middle (chunks : List ChunkRun) (host : HostIs) (told : List Moment) (low high : ℕ) : Type 0 where
    pub known : KnownWith calls v m inside chunks host told
    pub routes : AreRoutes v.extent.chunks (length chunks) v.routes told
    pub silent : AreSilent chunks host low high

  -- more is told, of as many groups
  pub routes_on : (chunks new : List ChunkRun) (told more : List Moment) → length new ≡ length chunks → Every IsStill more → AreRoutes v.extent.chunks (length chunks) v.routes told → AreRoutes v.extent.chunks (length new) v.routes (told ++ more)
  routes_on chunks new told more same still are = subst (λ n. AreRoutes v.extent.chunks n v.routes (told ++ more)) (sym same) (still_routes v.extent.chunks (length chunks) v.routes told more still are)

  module _ (chunks : List ChunkRun) (host : HostIs) (told : List Moment) (known : KnownWith calls v m inside chunks host told) (routes : AreRoutes v.extent.chunks (length chunks) v.routes told) where
    abbrev count : ℕ
    count = v.extent.chunks

    -- one more port is silent
    pub silent_more : (port : ℕ) → AreSilent chunks host 0 port
        → ((chunk k : ℕ) (c : ChunkRun) (p : PortIs) → pending_at host port ≡ Some chunk → group_serving v.routes chunk ≡ Some k → slice_get chunks k ≡ Some c → slice_get c.ports m ≡ Some p → ask_reply c.group.state p.sent p.last ≡ None)
        → AreSilent chunks host 0 (suc port)
    silent_more port before its other chunk k c p low less pend serves there at = elim (cases_eq other port) [
      | inl same ↦ its chunk k c p (ap (pending_at host) (sym same) ∙ pend) serves there at
      | inr apart ↦ before other chunk k c p low (omega (arith, less, apart)) pend serves there at
    ]

    -- a port with a pending ask of a chunk that is served
    pub record IsInto (port chunk k : ℕ) (c : ChunkRun) : Type 0 where
      pub small : chunk < v.extent.chunks
      pub at : group_of_epoch told chunk (known.service chunk).epoch ≡ Some k
      pub setup : c.group.setup ≡ (known.service chunk).setup (known.service chunk).epoch
      pub history : c.group.history ≡ (known.service chunk).history (known.service chunk).epoch
      pub stands : c.group.state ≡ replay c.group.setup c.group.history
      pub its : slice_get c.ports m ≡ Some ((known.service chunk).port m)
      pub steady : (known.service chunk).moving ≡ false
      pub asked : IsAskedAt known.service (owed_of v.layout v.extent known.happenings m) m port chunk

    -- the group that has a chunk's asks
    pub record IsHome (chunk k : ℕ) (c : ChunkRun) : Type 0 where
      pub at : group_of_epoch told chunk (known.service chunk).epoch ≡ Some k
      pub setup : c.group.setup ≡ (known.service chunk).setup (known.service chunk).epoch
      pub history : c.group.history ≡ (known.service chunk).history (known.service chunk).epoch
      pub stands : c.group.state ≡ replay c.group.setup c.group.history
      pub its : slice_get c.ports m ≡ Some ((known.service chunk).port m)

    pub home_is : (chunk k : ℕ) (c : ChunkRun) → chunk < v.extent.chunks → home_of_chunk v.routes chunk ≡ Some k → slice_get chunks k ≡ Some c → IsHome chunk k c
    home_is chunk k c small home there =
        let s = known.service chunk in
        let serving = known.serving_so chunk small in
        let at = home_last count (length chunks) v.routes told routes chunks chunk s (known.deeds chunk) serving k home in
        let g = serving.groups s.epoch (omega arith) in
        let one = same_Some g.k k (sym g.at ∙ at) in
        let same : g.c ≡ c = same_Some g.c c (sym g.there ∙ ap (slice_get chunks) one ∙ there) in
        let low = number_low calls v m inside chunks host told known in record {
          at = at;
          setup = ap (λ (x : ChunkRun). x.group.setup) (sym same) ∙ g.setup;
          history = ap (λ (x : ChunkRun). x.group.history) (sym same) ∙ g.history;
          stands = subst (λ (x : ChunkRun). x.group.state ≡ replay x.group.setup x.group.history) same g.stands;
          its = serving.ports m k c (omega (arith, low)) at there;
        }

    pub into : (port chunk k : ℕ) (c : ChunkRun) → pending_at host port ≡ Some chunk → group_serving v.routes chunk ≡ Some k → slice_get chunks k ≡ Some c → IsInto port chunk k c
    into port chunk k c pend serves there =
        let small : chunk < count = (served_is count (length chunks) v.routes told routes chunk k serves).rests.small in
        let s = known.service chunk in
        let h = home_is chunk k c small (served_home v.routes chunk k serves) there in record {
          small = small;
          at = h.at;
          setup = h.setup;
          history = h.history;
          stands = h.stands;
          its = h.its;
          steady = steady count (length chunks) v.routes told routes chunks chunk s (known.deeds chunk) (known.serving_so chunk small) k serves (known.served chunk small);
          asked = (its_host calls v m inside chunks host told known).asks port chunk small pend;
        }

    -- a group of the chunk is there
    pub there_is : (chunk k : ℕ) → chunk < v.extent.chunks → home_of_chunk v.routes chunk ≡ Some k → (c : ChunkRun) × (slice_get chunks k ≡ Some c)
    there_is chunk k small home =
        let s = known.service chunk in
        let serving = known.serving_so chunk small in
        let at = home_last count (length chunks) v.routes told routes chunks chunk s (known.deeds chunk) serving k home in
        let g = serving.groups s.epoch (omega arith) in
        (g.c, ap (slice_get chunks) (sym (same_Some g.k k (sym g.at ∙ at))) ∙ g.there)

    -- a step into one group leaves the ports into others silent
    pub silent_elsewhere : (next : HostIs) (c0 k : ℕ) (d : ChunkRun) (low high : ℕ) → home_of_chunk v.routes c0 ≡ Some k → AreSilent chunks host low high
        → (port chunk its : ℕ) (c : ChunkRun) (p : PortIs) → low ≤ port → port < high → chunk ≢ c0 → pending_at host port ≡ Some chunk → group_serving v.routes chunk ≡ Some its → slice_get (slice_set chunks k d) its ≡ Some c → slice_get c.ports m ≡ Some p → ask_reply c.group.state p.sent p.last ≡ None
    silent_elsewhere next c0 k d low high home before port chunk its c p above below apart pend serves there at =
        let away : its ≢ k = λ same. apart (homes_apart count (length chunks) v.routes told routes chunk c0 k (served_home v.routes chunk its serves ∙ ap (λ i. Some i) same) home) in
        before port chunk its c p above below pend serves (sym (set_elsewhere chunks k its d away) ∙ there) at

    -- nothing happens
    pub stays : (more : List Moment) (low high : ℕ) → Every IsStill more → Every IsIdle more → IsNoHanding more → AreSilent chunks host low high → Middle chunks host (told ++ more) low high
    stays more low high still idle none silent = record {
      known = known_still calls v m inside chunks host told known more still idle none;
      routes = routes_on chunks chunks told more refl still routes;
      silent = silent;
    }
