-- A chunk's service goes on as its groups and the ports into them do.
use Rattle.std.proofs.Common.{◌≡◌, ◌≢◌, ℕ, suc, pred, ◌<◌, ◌≤◌, inl, inr, Bool, if◌then◌else◌, List, ◌++◌, length, take, Some, slice_get, slice_set, arith, refl, sym, ap, subst, ◌∙◌, length-append}
use Rattle.std.proofs.lemmas.Bool.{cases_eq}
use Rattle.std.proofs.lemmas.List.{take-append-le}
use Rattle.std.proofs.lemmas.Option.{same_Some, slice_get_within}
use Rattle.pf_entry.specs.Lists.{Every}
use Rattle.pf_entry.proofs.Lists.{set_there}
use Rattle.pf_protocol.specs.Histories.{replay}
use Rattle.pf_asks.specs.Ports.{PortIs}
use Rattle.pf_law_runs.specs.pf_group_network.proofs.Lists.{at_front, set_elsewhere}
use Rattle.pf_law_positions.specs.Deeds.{Deed}
use Rattle.pf_law_runs.specs.pf_law_service.specs.Services.{Service, but, epoch_of_now}
use Rattle.pf_law_runs.specs.pf_law_service.specs.Served.{AreLegal}
use Rattle.pf_law_runs.specs.pf_world.specs.pf_chunk.specs.Runs.{ChunkRun, mover_port}
use Rattle.pf_law_runs.specs.pf_world.specs.pf_world_moments.specs.Moments.{Hands, Moment}
use Rattle.pf_law_runs.specs.pf_law_movers.specs.Epochs.{epoch_of, group_of_epoch, groups_in_turn}
use Rattle.pf_law_runs.specs.pf_law_movers.specs.Handing.{reached}
use Rattle.pf_law_runs.specs.pf_law_movers.proofs.Lives.{its_own, not_its_own}
use Rattle.pf_law_runs.specs.pf_law_movers.proofs.ListPlaces.{get_either}
use Rattle.pf_law_runs.specs.pf_law_movers.proofs.ToldRoutes.{IsStill, still_groups}
use Rattle.pf_law_mounts.proofs.Known.{AreApart, HasBegun, IsGroupOf, IsHandedBy, IsServing}

-- All but one

pub but_same : {A : Type 0} → (f : ℕ → A) (one : ℕ) (x : A) → but f one x one ≡ x
but_same f one x = its_own one one x (f one) refl

pub but_other : {A : Type 0} → (f : ℕ → A) (one k : ℕ) (x : A) → k ≢ one → but f one x k ≡ f k
but_other f one k x apart = not_its_own k one x (f k) apart

-- What is told is still

-- no port of the mover hands on
abbrev pub IsNoMovers : List Moment → Type 0
IsNoMovers more = (j k place : ℕ) → slice_get more j ≡ Some (Hands mover_port k place) → ⊥

-- the same groups in the same epochs
pub group_still : (told more : List Moment) (chunk epoch : ℕ) → Every IsStill more → group_of_epoch (told ++ more) chunk epoch ≡ group_of_epoch told chunk epoch
group_still told more chunk epoch still = ap (λ gs. slice_get gs epoch) (still_groups told more chunk still).0

pub apart_still : (count : ℕ) (told more : List Moment) → Every IsStill more → AreApart count told → AreApart count (told ++ more)
apart_still count told more still are chunk other epoch by k small low one two =
    are chunk other epoch by k small low (sym (group_still told more chunk epoch still) ∙ one) (sym (group_still told more other by still) ∙ two)

-- it has the same epoch
pub record Follows (s t : Service) : Type 0 where
  pub epoch : t.epoch ≡ s.epoch
  pub moving : t.moving ≡ s.moving
  pub setup : (epoch : ℕ) → t.setup epoch ≡ s.setup epoch
  pub left : (epoch : ℕ) → t.left epoch ≡ s.left epoch
  pub since : (epoch : ℕ) → t.since epoch ≡ s.since epoch

pub follows_itself : (s : Service) → Follows s s
follows_itself s = record { epoch = refl; moving = refl; setup = λ epoch. refl; left = λ epoch. refl; since = λ epoch. refl }

follows_serving : (s t : Service) → Follows s t → epoch_of_now t ≡ epoch_of_now s
follows_serving s t f = ap (λ (b : Bool). if b then pred t.epoch else t.epoch) f.moving ∙ ap (λ n. if s.moving then pred n else n) f.epoch

module _ (chunks new : List ChunkRun) (told more : List Moment) (still : Every IsStill more) (no_movers : IsNoMovers more) (chunk : ℕ) (s t : Service) (f : Follows s t) (ds rest : List Deed) (is : IsServing chunks told chunk s ds) where
  handed_more : (epoch place : ℕ) → IsHandedBy chunk epoch place ds → IsHandedBy chunk epoch place (ds ++ rest)
  handed_more epoch place h = record { moment = h.moment; client = h.client; at = at_front ds rest h.moment _ h.at }

  begun_more : (k epoch since : ℕ) → HasBegun told chunk k epoch since → HasBegun (told ++ more) chunk k epoch since
  begun_more k epoch since b =
      let same : take b.q (told ++ more) ≡ take b.q told = take-append-le b.q told more b.low in record {
        q = b.q;
        low = let low = b.low in omega (arith, low, length-append told more);
        serves = subst (λ (part : List Moment). epoch ≤ epoch_of part chunk) (sym same) b.serves;
        reached = subst (λ (part : List Moment). reached k part ≤ since) (sym same) b.reached;
      }

  -- by its groups and ports, and what was handed on now
  pub serving_next : ((epoch : ℕ) → epoch ≤ s.epoch → IsGroupOf new told chunk t epoch)
      → ((m k : ℕ) (c : ChunkRun) → m < mover_port → group_of_epoch told chunk s.epoch ≡ Some k → slice_get new k ≡ Some c → slice_get c.ports m ≡ Some (t.port m))
      → ((j m k place epoch : ℕ) → slice_get more j ≡ Some (Hands m k place) → m < mover_port → epoch ≤ s.epoch → group_of_epoch told chunk epoch ≡ Some k → IsHandedBy chunk epoch place (ds ++ rest))
      → IsServing new (told ++ more) chunk t (ds ++ rest)
  serving_next groups ports news =
      let same = still_groups told more chunk still in record {
        turns = ap length same.0 ∙ is.turns ∙ ap suc (sym f.epoch);
        epochs = same.1 ∙ is.epochs ∙ sym (follows_serving s t f);
        groups = λ epoch low.
            let g = groups epoch (omega (arith, low, f.epoch)) in
            record { k = g.k; at = group_still told more chunk epoch still ∙ g.at; c = g.c; there = g.there; setup = g.setup; history = g.history; stands = g.stands };
        ports = λ m k c small at there.
            ports m k c small (ap (group_of_epoch told chunk) (sym f.epoch) ∙ sym (group_still told more chunk t.epoch still) ∙ at) there;
        handed = λ q m k place epoch at small low group.
            let le : epoch ≤ s.epoch = omega (arith, low, f.epoch) in
            let was : group_of_epoch told chunk epoch ≡ Some k = sym (group_still told more chunk epoch still) ∙ group in
            elim (get_either told more q (Hands m k place) at) [
              | inl old ↦ handed_more epoch place (is.handed q m k place epoch old small le was)
              | inr now ↦ news now.0 m k place epoch now.1 small le was
            ];
        left = λ q k place epoch at less group late. elim (get_either told more q (Hands mover_port k place) at) [
          | inl old ↦
              let within = slice_get_within told q (Hands mover_port k place) old in
              let part : take q (told ++ more) ≡ take q told = take-append-le q told more (omega (arith, within)) in
              subst (λ n. n ≤ place) (sym (f.left epoch))
              (is.left q k place epoch old (omega (arith, less, f.epoch)) (sym (group_still told more chunk epoch still) ∙ group) (subst (λ (x : List Moment). suc epoch < length (groups_in_turn x chunk)) part late))
          | inr now ↦ absurd (no_movers now.0 k place now.1)
        ];
        since = λ k epoch low group.
            subst (HasBegun (told ++ more) chunk k (suc epoch)) (sym (f.since (suc epoch)))
            (begun_more k (suc epoch) (s.since (suc epoch)) (is.since k epoch (subst (λ n. suc epoch ≤ n) (follows_serving s t f) low) (sym (group_still told more chunk (suc epoch) still) ∙ group)));
      }

-- nothing is handed on
abbrev pub IsNoHanding : List Moment → Type 0
IsNoHanding more = (j m k place : ℕ) → slice_get more j ≡ Some (Hands m k place) → ⊥

pub serving_still : (chunks : List ChunkRun) (told more : List Moment) → Every IsStill more → IsNoHanding more → (chunk : ℕ) (s : Service) (ds rest : List Deed) → IsServing chunks told chunk s ds → IsServing chunks (told ++ more) chunk s (ds ++ rest)
serving_still chunks told more still none chunk s ds rest is =
    serving_next chunks chunks told more still (λ j k place. none j mover_port k place) chunk s s (follows_itself s) ds rest is
    (λ epoch low. is.groups epoch low) is.ports (λ j m k place epoch at. absurd (none j m k place at))

-- One group goes on

-- What a step of mount m's port does to the group that has the asks, and to the service: no other port is different
pub record IsOp (m : ℕ) (c d : ChunkRun) (s t : Service) : Type 0 where
  pub follows : Follows s t
  pub histories : (epoch : ℕ) → epoch ≢ s.epoch → t.history epoch ≡ s.history epoch
  pub history : d.group.history ≡ t.history s.epoch
  pub setup : d.group.setup ≡ c.group.setup
  pub stands : d.group.state ≡ replay d.group.setup d.group.history
  pub its : slice_get d.ports m ≡ Some (t.port m)
  pub others : (n : ℕ) → n ≢ m → slice_get d.ports n ≡ slice_get c.ports n
  pub ports : (n : ℕ) → n ≢ m → t.port n ≡ s.port n
  pub owed : (n : ℕ) → n ≢ m → t.owed n ≡ s.owed n
  pub legal : AreLegal t → AreLegal s

module _ (count : ℕ) (chunks : List ChunkRun) (told more : List Moment) (still : Every IsStill more) (no_movers : IsNoMovers more) (apart : AreApart count told) (k : ℕ) (c d : ChunkRun) (there : slice_get chunks k ≡ Some c) where
  abbrev new : List ChunkRun
  new = slice_set chunks k d

  -- at its chunk
  module _ (chunk : ℕ) (small : chunk < count) (m : ℕ) (s t : Service) (o : IsOp m c d s t) (ds rest : List Deed) (is : IsServing chunks told chunk s ds) (at : group_of_epoch told chunk s.epoch ≡ Some k) where
    group_now : (epoch : ℕ) → epoch ≡ s.epoch → IsGroupOf new told chunk t epoch
    group_now epoch same =
        let g = is.groups s.epoch (omega arith) in
        let one : g.k ≡ k = same_Some g.k k (sym g.at ∙ at) in
        let its : g.c ≡ c = same_Some g.c c (sym g.there ∙ ap (slice_get chunks) one ∙ there) in
        subst (IsGroupOf new told chunk t) (sym same) (record {
          k = k;
          at = at;
          c = d;
          there = set_there chunks k c d there;
          setup = o.setup ∙ ap (λ (x : ChunkRun). x.group.setup) (sym its) ∙ g.setup ∙ sym (o.follows.setup s.epoch);
          history = o.history;
          stands = o.stands;
        })

    group_before : (epoch : ℕ) → epoch ≤ s.epoch → epoch ≢ s.epoch → IsGroupOf new told chunk t epoch
    group_before epoch low other =
        let g = is.groups epoch low in
        let away : g.k ≢ k = λ here. other (apart chunk chunk epoch s.epoch k small small (g.at ∙ ap (λ i. Some i) here) at).1 in record {
          k = g.k;
          at = g.at;
          c = g.c;
          there = set_elsewhere chunks k g.k d away ∙ g.there;
          setup = g.setup ∙ sym (o.follows.setup epoch);
          history = g.history ∙ sym (o.histories epoch other);
          stands = g.stands;
        }

    port_now : (n : ℕ) → n < mover_port → slice_get d.ports n ≡ Some (t.port n)
    port_now n low = elim (cases_eq n m) [
      | inl same ↦ subst (λ i. slice_get d.ports i ≡ Some (t.port i)) (sym same) o.its
      | inr other ↦ o.others n other ∙ is.ports n k c low at there ∙ ap (λ (p : PortIs). Some p) (sym (o.ports n other))
    ]

    pub serving_here : ((j n g place epoch : ℕ) → slice_get more j ≡ Some (Hands n g place) → n < mover_port → epoch ≤ s.epoch → group_of_epoch told chunk epoch ≡ Some g → IsHandedBy chunk epoch place (ds ++ rest))
        → IsServing new (told ++ more) chunk t (ds ++ rest)
    serving_here news =
        serving_next chunks new told more still no_movers chunk s t o.follows ds rest is
        (λ epoch low. elim (cases_eq epoch s.epoch) [ inl same ↦ group_now epoch same | inr other ↦ group_before epoch low other ])
        (λ n g x low group here.
        let one : g ≡ k = same_Some g k (sym group ∙ at) in
        let its : x ≡ d = same_Some x d (sym here ∙ ap (slice_get new) one ∙ set_there chunks k c d there) in
        ap (λ (y : ChunkRun). slice_get y.ports n) its ∙ port_now n low)
        news

  -- and at any other
  pub serving_elsewhere : (own chunk its : ℕ) → own < count → chunk < count → chunk ≢ own → group_of_epoch told own its ≡ Some k → (s : Service) (ds rest : List Deed) → IsServing chunks told chunk s ds
      → ((j n g place : ℕ) → slice_get more j ≡ Some (Hands n g place) → g ≡ k) → IsServing new (told ++ more) chunk s (ds ++ rest)
  serving_elsewhere own chunk its low small other at s ds rest is news =
      let away : (epoch g : ℕ) → group_of_epoch told chunk epoch ≡ Some g → g ≢ k = λ epoch g group here. other (apart chunk own epoch its k small low (group ∙ ap (λ i. Some i) here) at).0 in
      serving_next chunks new told more still no_movers chunk s s (follows_itself s) ds rest is
      (λ epoch less.
      let g = is.groups epoch less in
      record { k = g.k; at = g.at; c = g.c; there = set_elsewhere chunks k g.k d (away epoch g.k g.at) ∙ g.there; setup = g.setup; history = g.history; stands = g.stands })
      (λ n g x less group here. is.ports n g x less group (sym (set_elsewhere chunks k g d (away s.epoch g group)) ∙ here))
      (λ j n g place epoch now less below group. absurd (away epoch g group (news j n g place now)))
