-- What others than hosts do to a group of a run, and what is told of it, leave what is known of the run.
use Rattle.std.proofs.Common.{◌≡◌, ◌≢◌, ℕ, suc, ◌<◌, ◌≤◌, ◌==◌, if◌then◌else◌, inl, inr, List, ◌++◌, length, take, Option, Some, None, slice_get, slice_set, arith, refl, sym, ap, subst, ◌∙◌, length-append}
use Rattle.std.proofs.lemmas.Bool.{eqb-true, eqb-false}
use Rattle.std.proofs.lemmas.List.{take-append-le}
use Rattle.std.proofs.lemmas.Option.{none-some, same_Some, slice_get_within}
use Rattle.pf_journal.specs.declared.layouts.Layout.{Layout}
use Rattle.pf_entry.specs.Lists.{Every}
use Rattle.pf_entry.proofs.Cases.{by_test}
use Rattle.pf_entry.proofs.Lists.{set_there}
use Rattle.pf_protocol.specs.Histories.{History, replay}
use Rattle.pf_protocol.proofs.ForMoments.{legal_before}
use Rattle.pf_law_positions.specs.Deeds.{Deed}
use Rattle.pf_law_runs.specs.pf_group_network.proofs.Lists.{set_elsewhere}
use Rattle.pf_move.specs.Movers.{MoverIs}
use Rattle.pf_move.specs.Routes.{RoutesIs}
use Rattle.pf_law_runs.specs.pf_law_service.specs.Services.{Service, but, service_grown}
use Rattle.pf_law_runs.specs.pf_law_service.specs.Served.{AreLegal, Asks, Grows as IsGrown, Hands as HandsAsk, Hears, ChunkIsServed, Moves, Opens, Passes, Switches}
use Rattle.pf_law_runs.specs.pf_law_service.proofs.Places.{but_each, but_grows, but_off, prefix_long}
use Rattle.pf_law_homes.specs.Ports.{PortOwed}
use Rattle.pf_law_calls.specs.Lives.{Life}
use Rattle.pf_volume.specs.Volumes.{Extent}
use Rattle.pf_law_runs.specs.pf_world.specs.pf_chunk.specs.Runs.{ChunkRun, mover_port}
use Rattle.pf_law_runs.specs.pf_world.specs.pf_world_moments.specs.Moments.{Hands, Moment}
use Rattle.pf_law_runs.specs.pf_world.specs.pf_mount_host.specs.Hosts.{HostIs}
use Rattle.pf_law_runs.specs.pf_world.specs.pf_world_hosts.specs.Volumes.{VolumeRun}
use Rattle.pf_law_runs.specs.pf_law_movers.specs.Epochs.{GroupHome, epoch_of, group_of_epoch, groups_in_turn, home_of_group}
use Rattle.pf_law_runs.specs.pf_law_movers.specs.Handing.{reached}
use Rattle.pf_law_runs.specs.pf_law_movers.proofs.ChunkEpochs.{AreBegun, group_home, home_group}
use Rattle.pf_law_runs.specs.pf_law_movers.proofs.HistoryGrowth.{Grows}
use Rattle.pf_law_runs.specs.pf_law_movers.proofs.ListPlaces.{get_either}
use Rattle.pf_law_mounts.proofs.Known.{AreApart, HasBegun, IsHostOf, IsKnown, IsServing}
use Rattle.pf_law_mounts.proofs.MomentTells.{IsAsTold, IsIdle, as_told, told_idly}

-- A service goes on while its clients' ports stay

-- the same was asked last, and pends, and where it is legal now it was
pub record Stays (s t : Service) : Type 0 where
  pub owed : (m : ℕ) → t.owed m ≡ s.owed m
  pub asks : (m : ℕ) → (t.port m).ask ≡ (s.port m).ask
  pub legal : AreLegal t → AreLegal s

pub stays_itself : (s : Service) → Stays s s
stays_itself s = record { owed = λ m. refl; asks = λ m. refl; legal = λ legal. legal }

module _ (layout : Layout) (e : Extent) (service its : ℕ → Service) (stays : (chunk : ℕ) → chunk < e.chunks → Stays (service chunk) (its chunk)) where
  pub host_stays : (owed : (port : ℕ) → Option PortOwed) (life : Life) (m : ℕ) (host : HostIs) → IsHostOf layout e service owed life m host → IsHostOf layout e its owed life m host
  host_stays owed life m host is = record {
    number = is.number;
    volume = is.volume;
    laid = is.laid;
    first = is.first;
    waits = is.waits;
    mount = is.mount;
    four = is.four;
    low = is.low;
    one = is.one;
    awaits = is.awaits;
    asks = λ port chunk small at.
        let was = is.asks port chunk small at in
        let so = stays chunk small in
        record { owes = was.owes; matter = was.matter; is = so.owed m ∙ was.is; pending = so.asks m ∙ was.pending; same = was.same; of = was.of };
    quiet = λ chunk small none. (stays chunk small).asks m ∙ is.quiet chunk small none;
  }

-- of a run with other groups, routes and mover, of which more was told
pub known_with : {calls : ℕ} → (v : VolumeRun) (told all : List Moment) (is : IsKnown calls v told) (chunks : List ChunkRun) (r : RoutesIs) (mover : Option MoverIs) (service : ℕ → Service) → IsAsTold told all → AreApart v.extent.chunks all
    → ((chunk : ℕ) → chunk < v.extent.chunks → ChunkIsServed chunk (service chunk) (is.deeds chunk)) → ((chunk : ℕ) → chunk < v.extent.chunks → IsServing chunks all chunk (service chunk) (is.deeds chunk))
    → ((chunk : ℕ) → chunk < v.extent.chunks → Stays (is.service chunk) (service chunk)) → IsKnown calls (record v { chunks = chunks; routes = r; mover = mover }) all
known_with v told all is chunks r mover service same apart served serving_so stays = record {
  happenings = is.happenings;
  service = service;
  deeds = is.deeds;
  few = is.few;
  room = is.room;
  anchors = is.anchors;
  none_yet = is.none_yet;
  told_are = is.told_are ∙ sym same.inputs;
  causes = same.causes _ v.extent is.causes;
  spelled = is.spelled;
  few_calls = is.few_calls;
  apart = apart;
  served = served;
  same = is.same;
  serving_so = serving_so;
  host_so = λ m host at. host_stays _ v.extent is.service service stays _ _ m host (is.host_so m host at);
  fresh = is.fresh;
  unasked = λ m chunk late small. (stays chunk small).asks m ∙ is.unasked m chunk late small;
  unowed = is.unowed;
  answered = λ legal. is.answered (λ chunk small. (stays chunk small).legal (legal chunk small));
}

-- More is told

-- the chunk does not move or switch by it, and no port of a mount hands anything on
pub record IsToldAt (told more : List Moment) (chunk : ℕ) : Type 0 where
  pub groups : groups_in_turn (told ++ more) chunk ≡ groups_in_turn told chunk
  pub epochs : epoch_of (told ++ more) chunk ≡ epoch_of told chunk
  pub mounts : (q m k place : ℕ) → slice_get more q ≡ Some (Hands m k place) → m < mover_port → ⊥

-- what the mover handed on to a group that the asks had left came after that
abbrev pub AreLate : List Moment → List Moment → (chunk : ℕ) → Service → Type 0
AreLate told more chunk s = (q k place epoch : ℕ) → slice_get more q ≡ Some (Hands mover_port k place) → epoch < s.epoch → group_of_epoch told chunk epoch ≡ Some k → s.left epoch ≤ place

pub begun_on : (told more : List Moment) (chunk k epoch since : ℕ) → HasBegun told chunk k epoch since → HasBegun (told ++ more) chunk k epoch since
begun_on told more chunk k epoch since b =
    let same : take b.q (told ++ more) ≡ take b.q told = take-append-le b.q told more b.low in record {
      q = b.q;
      low = let low = b.low in omega (arith, low, length-append told more);
      serves = subst (λ (part : List Moment). epoch ≤ epoch_of part chunk) (sym same) b.serves;
      reached = subst (λ (part : List Moment). reached k part ≤ since) (sym same) b.reached;
    }

module _ (told more : List Moment) (chunk : ℕ) (on : IsToldAt told more chunk) where
  pub same_group : (epoch : ℕ) → group_of_epoch (told ++ more) chunk epoch ≡ group_of_epoch told chunk epoch
  same_group epoch = ap (λ gs. slice_get gs epoch) on.groups

  pub serving_told : (chunks : List ChunkRun) (s : Service) (ds : List Deed) → AreLate told more chunk s → IsServing chunks told chunk s ds → IsServing chunks (told ++ more) chunk s ds
  serving_told chunks s ds late is = record {
    turns = ap length on.groups ∙ is.turns;
    epochs = on.epochs ∙ is.epochs;
    groups = λ epoch low.
        let g = is.groups epoch low in
        record { k = g.k; at = same_group epoch ∙ g.at; c = g.c; there = g.there; setup = g.setup; history = g.history; stands = g.stands };
    ports = λ m k c small at there. is.ports m k c small (sym (same_group s.epoch) ∙ at) there;
    handed = λ q m k place epoch at small low group. elim (get_either told more q (Hands m k place) at) [
      | inl old ↦ is.handed q m k place epoch old small low (sym (same_group epoch) ∙ group)
      | inr now ↦ absurd (on.mounts now.0 m k place now.1 small)
    ];
    left = λ q k place epoch at less group after. elim (get_either told more q (Hands mover_port k place) at) [
      | inl old ↦
          let within = slice_get_within told q (Hands mover_port k place) old in
          let part : take q (told ++ more) ≡ take q told = take-append-le q told more (omega (arith, within)) in
          is.left q k place epoch old less (sym (same_group epoch) ∙ group) (subst (λ (x : List Moment). suc epoch < length (groups_in_turn x chunk)) part after)
      | inr now ↦ late now.0 k place epoch now.1 less (sym (same_group epoch) ∙ group)
    ];
    since = λ k epoch low group. begun_on told more chunk k (suc epoch) (s.since (suc epoch)) (is.since k epoch low (sym (same_group (suc epoch)) ∙ group));
  }

-- so it is at every chunk
module _ (told more : List Moment) (on : (chunk : ℕ) → IsToldAt told more chunk) where
  pub apart_on : (count : ℕ) → AreApart count told → AreApart count (told ++ more)
  apart_on count are chunk other epoch by k small low one two =
      are chunk other epoch by k small low (sym (same_group told more chunk (on chunk) epoch) ∙ one) (sym (same_group told more other (on other) by) ∙ two)

  pub known_told : {calls : ℕ} → (v : VolumeRun) (is : IsKnown calls v told) → Every IsIdle more → ((chunk : ℕ) → chunk < v.extent.chunks → AreLate told more chunk (is.service chunk)) → IsKnown calls v (told ++ more)
  known_told v is idle late =
      known_with v told (told ++ more) is v.chunks v.routes v.mover is.service (told_idly told more idle) (apart_on v.extent.chunks is.apart) is.served
      (λ chunk small. serving_told told more chunk (on chunk) v.chunks (is.service chunk) (is.deeds chunk) (late chunk small) (is.serving_so chunk small)) (λ chunk small. stays_itself (is.service chunk))

-- Groups go on

-- the group now, with this history, and the same ports of mounts
pub record IsLater (new : List ChunkRun) (k : ℕ) (c : ChunkRun) (h : History) : Type 0 where
  pub now : ChunkRun
  pub there : slice_get new k ≡ Some now
  pub setup : now.group.setup ≡ c.group.setup
  pub history : now.group.history ≡ h
  pub stands : c.group.state ≡ replay c.group.setup c.group.history → now.group.state ≡ replay now.group.setup now.group.history
  pub ports : (m : ℕ) → m < mover_port → slice_get now.ports m ≡ slice_get c.ports m

module _ (chunks new : List ChunkRun) (told : List Moment) (chunk : ℕ) (s : Service) (ds : List Deed) (is : IsServing chunks told chunk s ds) (h : ℕ → History)
    (later : (epoch k : ℕ) (c : ChunkRun) → epoch ≤ s.epoch → group_of_epoch told chunk epoch ≡ Some k → slice_get chunks k ≡ Some c → c.group.history ≡ s.history epoch → IsLater new k c (h epoch)) where
  pub serving_later : IsServing new told chunk (record s { history = h }) ds
  serving_later = record {
    turns = is.turns;
    epochs = is.epochs;
    groups = λ epoch low.
        let g = is.groups epoch low in
        let l = later epoch g.k g.c low g.at g.there g.history in
        record { k = g.k; at = g.at; c = l.now; there = l.there; setup = l.setup ∙ g.setup; history = l.history; stands = l.stands g.stands };
    ports = λ m k x small at there.
        let g = is.groups s.epoch (omega arith) in
        let l = later s.epoch g.k g.c (omega arith) g.at g.there g.history in
        let one : g.k ≡ k = same_Some g.k k (sym g.at ∙ at) in
        let its : x ≡ l.now = same_Some x l.now (sym there ∙ ap (slice_get new) (sym one) ∙ l.there) in
        ap (λ (y : ChunkRun). slice_get y.ports m) its ∙ l.ports m small ∙ is.ports m g.k g.c small g.at g.there;
    handed = is.handed;
    left = is.left;
    since = is.since;
  }

-- what the asks left behind was there
pub left_within : (chunk : ℕ) (s : Service) (ds : List Deed) → ChunkIsServed chunk s ds → (epoch : ℕ) → epoch < s.epoch → s.left epoch ≤ length (s.history epoch)
left_within chunk _ _ (Opens setup history) epoch low = absurd (omega (arith, low))
left_within chunk _ _ (IsGrown s ds its more is) epoch low =
    let was = left_within chunk s ds is epoch low in
    let more_now = prefix_long (s.history epoch) (but s.history its (s.history its ++ more) epoch) (but_grows s.history its (s.history its ++ more) epoch (record { rest = more; whole = refl })) in
    omega (arith, was, more_now)
left_within chunk _ _ (Passes s ds is) epoch low = left_within chunk s ds is epoch low
left_within chunk _ _ (Asks s ds mount client ask its of none is) epoch low = left_within chunk s ds is epoch low
left_within chunk _ _ (HandsAsk s ds mount owed new next steps one is) epoch low =
    subst (λ (x : History). s.left epoch ≤ length x) (sym (but_off s.history s.epoch new.history epoch (λ same. omega (arith, low, same)))) (left_within chunk s ds is epoch low)
left_within chunk _ _ (Hears s ds mount owed reply answer next steps answers is) epoch low =
    subst (λ (x : History). s.left epoch ≤ length x) (sym (but_off s.history s.epoch (s.history s.epoch) epoch (λ same. omega (arith, low, same)))) (left_within chunk s ds is epoch low)
left_within chunk _ _ (Moves s ds setup history steady is) epoch low =
    subst (λ (x : History). but s.left s.epoch (length (s.history s.epoch)) epoch ≤ length x) (sym (but_off s.history (suc s.epoch) history epoch (λ same. omega (arith, low, same))))
    (but_each (λ n. n ≤ length (s.history epoch)) s.left s.epoch (length (s.history s.epoch)) epoch
    (λ same. let is_same = ap (λ i. length (s.history i)) same in omega (arith, is_same)) (λ other. left_within chunk s ds is epoch (omega (arith, low, other))))
left_within chunk _ _ (Switches s ds moving is) epoch low = left_within chunk s ds is epoch low

-- in the group that has this home more happened
abbrev pub grown_at : Option GroupHome → History → (chunk : ℕ) → Service → Service
grown_at None more chunk s = s
grown_at (Some home) more chunk s = if home.chunk == chunk then service_grown s home.epoch more else s

pub served_grown : (o : Option GroupHome) (more : History) (chunk : ℕ) (s : Service) (ds : List Deed) → ChunkIsServed chunk s ds → ChunkIsServed chunk (grown_at o more chunk s) ds
served_grown None more chunk s ds is = is
served_grown (Some home) more chunk s ds is = by_test (home.chunk == chunk) (λ b. ChunkIsServed chunk (if b then service_grown s home.epoch more else s) ds) (λ _. IsGrown s ds home.epoch more is) (λ _. is)

pub stays_grown : (o : Option GroupHome) (more : History) (chunk : ℕ) (s : Service) → Stays s (grown_at o more chunk s)
stays_grown None more chunk s = stays_itself s
stays_grown (Some home) more chunk s = by_test (home.chunk == chunk) (λ b. Stays s (if b then service_grown s home.epoch more else s))
    (λ _. record {
      owed = λ m. refl;
      asks = λ m. refl;
      legal = λ legal epoch low.
          legal_before (s.setup epoch) (s.history epoch) (but s.history home.epoch (s.history home.epoch ++ more) epoch)
          (but_grows s.history home.epoch (s.history home.epoch ++ more) epoch (record { rest = more; whole = refl })) (legal epoch low);
    })
    (λ _. stays_itself s)

module _ (chunks : List ChunkRun) (k : ℕ) (c d : ChunkRun) (there : slice_get chunks k ≡ Some c) (grows : Grows c.group d.group) (ports : (m : ℕ) → m < mover_port → slice_get d.ports m ≡ slice_get c.ports m) where
  abbrev new : List ChunkRun
  new = slice_set chunks k d

  other_later : (j : ℕ) (x : ChunkRun) → j ≢ k → slice_get chunks j ≡ Some x → (h : History) → x.group.history ≡ h → IsLater new j x h
  other_later j x apart at h is = record { now = x; there = set_elsewhere chunks k j d apart ∙ at; setup = refl; history = is; stands = λ stands. stands; ports = λ m small. refl }

  its_later : (j : ℕ) (x : ChunkRun) → j ≡ k → slice_get chunks j ≡ Some x → (h : History) → x.group.history ≡ h → IsLater new j x (h ++ grows.later.rest)
  its_later j x here at h is =
      let its : c ≡ x = same_Some c x (sym there ∙ ap (slice_get chunks) (sym here) ∙ at) in record {
        now = d;
        there = ap (slice_get new) here ∙ set_there chunks k c d there;
        setup = grows.setup ∙ ap (λ (y : ChunkRun). y.group.setup) its;
        history = sym grows.later.whole ∙ ap (λ (y : History). y ++ grows.later.rest) (ap (λ (y : ChunkRun). y.group.history) its ∙ is);
        stands = λ stands. grows.stands (subst (λ (y : ChunkRun). y.group.state ≡ replay y.group.setup y.group.history) (sym its) stands);
        ports = λ m small. ports m small ∙ ap (λ (y : ChunkRun). slice_get y.ports m) its;
      }

  module _ (count : ℕ) (told : List Moment) (begun : AreBegun count told) (chunk : ℕ) (small : chunk < count) (s : Service) (ds : List Deed) (is : IsServing chunks told chunk s ds) where
    home_is : (epoch : ℕ) → group_of_epoch told chunk epoch ≡ Some k → home_of_group count told k ≡ Some (record { chunk = chunk; epoch = epoch })
    home_is epoch at = group_home count told begun chunk epoch k small at

    -- it is none of this chunk's
    elsewhere : ((epoch : ℕ) → group_of_epoch told chunk epoch ≡ Some k → ⊥) → IsServing new told chunk s ds
    elsewhere none =
        serving_later chunks new told chunk s ds is s.history
        (λ epoch j x low at its h. other_later j x (λ here. none epoch (at ∙ ap (λ i. Some i) here)) its (s.history epoch) h)

    here_grown : (home : GroupHome) → home_of_group count told k ≡ Some home → home.chunk ≡ chunk → IsServing new told chunk (service_grown s home.epoch grows.later.rest) ds
    here_grown home its same =
        let now = s.history home.epoch ++ grows.later.rest in
        serving_later chunks new told chunk s ds is (but s.history home.epoch now)
        (λ epoch j x low at its_run h.
        but_each (IsLater new j x) s.history home.epoch now epoch
        (λ here.
        let of : group_of_epoch told chunk home.epoch ≡ Some k = subst (λ i. group_of_epoch told i home.epoch ≡ Some k) same (home_group count told begun k home its).1 in
        let own : j ≡ k = same_Some j k (sym at ∙ ap (group_of_epoch told chunk) here ∙ of) in
        its_later j x own its_run (s.history home.epoch) (h ∙ ap s.history here))
        (λ apart. other_later j x
        (λ here. apart (ap (λ (i : GroupHome). i.epoch) (same_Some (record { chunk = chunk; epoch = epoch }) home (sym (home_is epoch (at ∙ ap (λ i. Some i) here)) ∙ its)))) its_run (s.history epoch) h))

    pub serving_grown : (o : Option GroupHome) → home_of_group count told k ≡ o → IsServing new told chunk (grown_at o grows.later.rest chunk s) ds
    serving_grown None none = elsewhere (λ epoch at. none-some (record { chunk = chunk; epoch = epoch }) (sym none ∙ home_is epoch at))
    serving_grown (Some home) its =
        by_test (home.chunk == chunk) (λ b. IsServing new told chunk (if b then service_grown s home.epoch grows.later.rest else s) ds)
        (λ same. here_grown home its (eqb-true home.chunk chunk same))
        (λ apart. elsewhere (λ epoch at.
        eqb-false home.chunk chunk apart (ap (λ (i : GroupHome). i.chunk) (same_Some home (record { chunk = chunk; epoch = epoch }) (sym its ∙ home_is epoch at)))))

-- of the run
pub known_grown : {calls : ℕ} → (v : VolumeRun) (told : List Moment) → AreBegun v.extent.chunks told → (k : ℕ) (c d : ChunkRun) → slice_get v.chunks k ≡ Some c → Grows c.group d.group
    → ((m : ℕ) → m < mover_port → slice_get d.ports m ≡ slice_get c.ports m) → (r : RoutesIs) (mover : Option MoverIs) → IsKnown calls v told → IsKnown calls (record v { chunks = slice_set v.chunks k d; routes = r; mover = mover }) told
known_grown v told begun k c d there grows ports r mover is =
    let home = home_of_group v.extent.chunks told k in
    let more = grows.later.rest in
    known_with v told told is (slice_set v.chunks k d) r mover (λ chunk. grown_at home more chunk (is.service chunk)) (as_told told) is.apart
    (λ chunk small. served_grown home more chunk (is.service chunk) (is.deeds chunk) (is.served chunk small))
    (λ chunk small. serving_grown v.chunks k c d there grows ports v.extent.chunks told begun chunk small (is.service chunk) (is.deeds chunk) (is.serving_so chunk small) home refl)
    (λ chunk small. stays_grown home more chunk (is.service chunk))
