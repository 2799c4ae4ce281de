-- A step of a host over a layout: its ports, each in turn.
use Rattle.std.proofs.Common.{◌≡◌, ℕ, zero, suc, ◌+◌, ◌<◌, ◌≤◌, List, [], length, inl, inr, refl, sym, ap, subst, ◌∙◌, append-nil, arith}
use Rattle.pf_journal.specs.Layouts.{layout_of}
use Rattle.pf_mount.specs.Nexts.{ports_of}
use Rattle.pf_world_moments.specs.pf_group_rounds.specs.Halts.{Halt}
use Rattle.pf_world_moments.specs.pf_chunk.specs.Runs.{ChunkRun}
use Rattle.pf_world_moments.specs.Steps.{chunk_runs}
use Rattle.pf_world_moments.proofs.PortSteps.{gone_refl}
use Rattle.pf_world_moments.specs.pf_chunk.specs.Views.{ChunkIs}
use Rattle.pf_move.specs.Routes.{RoutesIs}
use Rattle.pf_mount_host.specs.Hosts.{HostIs, asks, asks_on, hands_ask, hears, hears_all, asks_all, in_turn, mount_number, stepped}
use Rattle.pf_mount_host.specs.Steps.{AreReadyFor, HasDone, HasNotDone, HasNotStepped, HostHasStepped, HostPart}
use Rattle.pf_mount_host.proofs.GroupHistories.{asks_all_lengthen, asks_lengthens, asks_on_lengthens, hands_lengthens, hears_lengthens}
use Rattle.pf_mount_host.proofs.Parts.{IsLonger, not_then, ready_on, then_not, went_on}
use Rattle.pf_mount_host.proofs.PendingAsks.{same_or}

-- Each port in turn

abbrev pub turns : (count : ℕ) → ((port : ℕ) → HostPart) → HostPart
turns count p halts routes chunks host = in_turn count (λ port. p port halts routes) chunks host

module _ (p : (port : ℕ) → HostPart) (longer : (port : ℕ) → IsLonger (p port)) (r : RoutesIs) (a : List ChunkIs) (x : List ℕ) (f : HostIs) where
  -- none yet
  pub no_turn : AreReadyFor r a f → HasDone (turns 0 p) r a x f a x f
  no_turn ready = record {
    ready = ready.ready;
    gone = gone_refl (mount_number f.mount) a;
    is_host = ready.is_host;
    number = refl;
    layout = refl;
    volume = refl;
    calls = refl;
    told = [];
    put = sym (append-nil x);
    run = λ halts tells. refl;
  }

  -- for one of them there was no memory: the others only add to histories
  not_turned : (c : List ChunkIs) (so_far count : ℕ) → so_far ≤ count → HasNotDone (turns so_far p) r a f c → HasNotDone (turns count p) r a f c
  not_turned c so_far zero low failed =
      let none : so_far ≡ 0 = omega (arith, low) in
      subst (λ n. HasNotDone (turns n p) r a f c) none failed
  not_turned c so_far (suc port) low failed = elim (same_or so_far (suc port)) [
    | inl same ↦ subst (λ n. HasNotDone (turns n p) r a f c) same failed
    | inr other ↦ not_then (turns port p) r a c f (p port) (not_turned c so_far port (omega (arith, low, other)) failed) (longer port)
  ]

  module _ (port : ℕ) (b : List ChunkIs) (y : List ℕ) (g : HostIs) (so_far : HasDone (turns port p) r a x f b y g) where
    pub turn_ready : AreReadyFor r a f → AreReadyFor r b g
    turn_ready ready = ready_on (turns port p) r a b x y f g ready so_far

    -- it has as many ports
    pub same_ports : ports_of g.mount ≡ ports_of f.mount
    same_ports = ap (λ layout. suc (length (layout_of layout).anchors)) so_far.layout

    pub next_turn : (c : List ChunkIs) (z : List ℕ) (h : HostIs) → HasDone (p port) r b y g c z h → HasDone (turns (port + 1) p) r a x f c z h
    next_turn c z h more =
        let one_more : suc port ≡ port + 1 = omega arith in
        subst (λ n. HasDone (turns n p) r a x f c z h) one_more (went_on (turns port p) r a b f x y g so_far (p port) c z h more)

    pub stopped_there : (c : List ChunkIs) (count : ℕ) → port < count → HasNotDone (p port) r b g c → HasNotDone (turns count p) r a f c
    stopped_there c count low failed = not_turned c (suc port) count (omega (arith, low)) (then_not (turns port p) r a b f x y g so_far (p port) c failed)

-- a part that does the same of this host
at_host : (p q : HostPart) (r : RoutesIs) (a : List ChunkIs) (x : List ℕ) (f : HostIs) → ((halts : List Halt) (chunks : List ChunkRun) → q halts r chunks f ≡ p halts r chunks f)
    → (b : List ChunkIs) (y : List ℕ) (g : HostIs) → HasDone p r a x f b y g → HasDone q r a x f b y g
at_host p q r a x f same b y g done = record {
  ready = done.ready;
  gone = done.gone;
  is_host = done.is_host;
  number = done.number;
  layout = done.layout;
  volume = done.volume;
  calls = done.calls;
  told = done.told;
  put = done.put;
  run = λ halts tells. same halts (chunk_runs halts a) ∙ done.run halts tells;
}

-- What ports do

abbrev pub hearing : (port : ℕ) → HostPart
hearing port halts routes chunks host = hears routes port chunks host

abbrev pub asking : (port : ℕ) → HostPart
asking port halts routes chunks host = asks_on halts routes port chunks host

abbrev pub looking : (port : ℕ) → HostPart
looking port halts routes chunks host = asks routes port chunks host

abbrev pub handing : (port : ℕ) → HostPart
handing port halts routes chunks host = hands_ask halts routes port chunks host

pub hearing_longer : (port : ℕ) → IsLonger (hearing port)
hearing_longer port halts routes chunks host = hears_lengthens routes port chunks host

pub asking_longer : (port : ℕ) → IsLonger (asking port)
asking_longer port halts routes chunks host = asks_on_lengthens halts routes port chunks host

pub looking_longer : (port : ℕ) → IsLonger (looking port)
looking_longer port halts routes chunks host = asks_lengthens routes port chunks host

pub handing_longer : (port : ℕ) → IsLonger (handing port)
handing_longer port halts routes chunks host = hands_lengthens halts routes port chunks host

-- All of its ports

abbrev hears_every : HostPart
hears_every halts routes chunks host = hears_all routes chunks host

module _ (r : RoutesIs) (a : List ChunkIs) (x : List ℕ) (f : HostIs) where
  module _ (b : List ChunkIs) (y : List ℕ) (g : HostIs) (port : ℕ) (all : port ≡ ports_of f.mount) where
    pub all_heard : HasDone (turns port hearing) r a x f b y g → HasDone (λ halts routes chunks host. hears_all routes chunks host) r a x f b y g
    all_heard done = at_host (turns (ports_of f.mount) hearing) hears_every r a x f (λ halts chunks. refl) b y g (subst (λ n. HasDone (turns n hearing) r a x f b y g) all done)

    pub all_asked : HasDone (turns port asking) r a x f b y g → HasDone asks_all r a x f b y g
    all_asked done = at_host (turns (ports_of f.mount) asking) asks_all r a x f (λ halts chunks. refl) b y g (subst (λ n. HasDone (turns n asking) r a x f b y g) all done)

  pub not_all_heard : (c : List ChunkIs) → HasNotDone (turns (ports_of f.mount) hearing) r a f c → HasNotDone (λ halts routes chunks host. hears_all routes chunks host) r a f c
  not_all_heard c failed = record { grown = failed.grown; begun = failed.begun }

  pub not_all_asked : (c : List ChunkIs) → HasNotDone (turns (ports_of f.mount) asking) r a f c → HasNotDone asks_all r a f c
  not_all_asked c failed = record { grown = failed.grown; begun = failed.begun }

-- The step

module _ (r : RoutesIs) (a : List ChunkIs) (x : List ℕ) (f : HostIs) where
  pub not_stepped : (b : List ChunkIs) → HasNotDone (λ halts routes chunks host. hears_all routes chunks host) r a f b → HasNotStepped r a f b
  unfolding stepped
  not_stepped b failed = not_then hears_every r a b f asks_all failed asks_all_lengthen

  module _ (b : List ChunkIs) (y : List ℕ) (g : HostIs) (first : HasDone (λ halts routes chunks host. hears_all routes chunks host) r a x f b y g) where
    pub has_stepped : (c : List ChunkIs) (z : List ℕ) (h : HostIs) → HasDone asks_all r b y g c z h → HostHasStepped r a x f c z h
    unfolding stepped
    has_stepped c z h second = went_on hears_every r a b f x y g first asks_all c z h second

    pub not_asked : (c : List ChunkIs) → HasNotDone asks_all r b g c → HasNotStepped r a f c
    unfolding stepped
    not_asked c failed = then_not hears_every r a b f x y g first asks_all c failed
