-- What a run told of is so: asks were handed on by events of groups, and the mover heard what groups answered.
use Rattle.std.proofs.Common.{◌≡◌, ℕ, suc, ◌==◌, ◌<◌, ◌≤◌, inl, inr, if◌then◌else◌, List, [], ◌∷◌, ◌++◌, length, Option, Some, None, slice_get, slice_set, take, arith, refl, sym, ap, subst, ◌∙◌}
use Rattle.std.proofs.lemmas.Bool.{cases_eq, eqb-true}
use Rattle.std.proofs.lemmas.List.{append_assoc, length-append, take-append-le}
use Rattle.std.proofs.lemmas.Option.{same_Some, slice_get_within}
use Rattle.std.proofs.Math.Seq.{take-length}
use Rattle.pf_base.specs.declared.asks.Ask.{Ask}
use Rattle.pf_base.specs.declared.asks.Reply.{Reply}
use Rattle.pf_entry.specs.Lists.{Every}
use Rattle.pf_entry.proofs.Cases.{by_test}
use Rattle.pf_entry.proofs.Lists.{set_there}
use Rattle.pf_protocol.specs.declared.events.Happening.{Happening}
use Rattle.pf_protocol.specs.Answers.{IsLegal}
use Rattle.pf_protocol.specs.Histories.{History}
use Rattle.pf_protocol.specs.Servers.{Setup}
use Rattle.pf_protocol.proofs.ForMoments.{legal_before}
use Rattle.pf_asks.specs.Ports.{PortIs}
use Rattle.pf_law_movers.specs.pf_group_network.proofs.Lists.{at_front, set_elsewhere}
use Rattle.pf_law_movers.specs.pf_law_ports.specs.Replies.{IsReplied}
use Rattle.pf_law_movers.specs.pf_group_rounds.specs.Halts.{Halt}
use Rattle.pf_law_movers.specs.pf_group_rounds.specs.Chunks.{Chunk}
use Rattle.pf_law_movers.specs.pf_chunk.specs.Driving.{port_asked, asked_at, driven, event_of_ask}
use Rattle.pf_law_movers.specs.pf_chunk.specs.Runs.{ChunkRun, mover_port}
use Rattle.pf_law_movers.specs.pf_world_moments.specs.Moments.{Carries, Hands, Heard, Moment, Moves as MovesTo, Writes, Acts}
use Rattle.pf_law_movers.specs.pf_world_moments.specs.Hosts.{Drove, drove_as, event_count, handed_moments, put_at, run_after, with_run}
use Rattle.pf_law_movers.specs.Carrying.{group_asked}
use Rattle.pf_law_movers.specs.Handing.{by_of_carry, reach_at, reached}
use Rattle.pf_law_movers.specs.Movers.{BeginsMove, IsCarriedBack, IsCarriedOn, IsOnTheMove, role_of_reply}
use Rattle.pf_law_movers.specs.Pasts.{is_some_of, mover_trace, past_in}
use Rattle.pf_law_movers.proofs.Each.{AreEach, all_more, one_more}
use Rattle.pf_law_movers.proofs.HistoryGrowth.{Grows, grows_on, grows_refl}
use Rattle.pf_law_movers.proofs.Handovers.{IsHandedAt, IsHandedIf, driven_hands}
use Rattle.pf_law_movers.proofs.GroupsToldUpTo.{reached_low}
use Rattle.pf_law_movers.proofs.GroupReplies.{Replies, driven_grows}
use Rattle.pf_law_movers.proofs.PortTraces.{is_of}

abbrev pub IsBackIf : (count : ℕ) → List ChunkRun → (before : List Moment) → (chunk : ℕ) → Option Heard → Type 0
IsBackIf count chunks before chunk None = Unit {0}
IsBackIf count chunks before chunk (Some heard) = IsCarriedBack count chunks before chunk heard

-- An ask was handed on by an event of the group, behind all that was told of its history before; by the mover's port, what the mover asked
pub record IsHandedSo (count : ℕ) (chunks : List ChunkRun) (before : List Moment) (m k place : ℕ) : Type 0 where
  pub of_mover : mover_port ≤ m → (m ≡ mover_port) × IsCarriedOn count chunks before k place
  pub behind : reached k before ≤ place
  pub group : ChunkRun
  pub there : slice_get chunks k ≡ Some group
  pub within : place < length group.group.history

-- Each moment is so, after what was told before: hand-overs are as above, a chunk begins to move to a new group while all are at rest, and the
-- mover's calls are of the chunk that is on the move
abbrev pub IsSo : (count : ℕ) → List ChunkRun → (before : List Moment) → Moment → Type 0
IsSo count chunks before (Hands m k place) = IsHandedSo count chunks before m k place
IsSo count chunks before (Carries chunk heard next) = IsOnTheMove count before chunk × IsBackIf count chunks before chunk heard
IsSo count chunks before (MovesTo chunk to) = BeginsMove count chunks before chunk to
IsSo count chunks before moment = Unit {0}

abbrev pub AllSo : (count : ℕ) → List Moment → List ChunkRun → Type 0
AllSo count told chunks = AreEach (IsSo count chunks) told

-- a moment of which nothing is said
abbrev pub IsPlain : Moment → Type 0
IsPlain (Hands m k place) = ⊥
IsPlain (Carries chunk heard next) = ⊥
IsPlain (MovesTo chunk to) = ⊥
IsPlain moment = Unit {0}

plain_so : (count : ℕ) (chunks : List ChunkRun) (before : List Moment) (y : Moment) → IsPlain y → IsSo count chunks before y
plain_so count chunks before (Hands m k place) plain = absurd plain
plain_so count chunks before (Writes text) plain = tt
plain_so count chunks before (Acts who act) plain = tt
plain_so count chunks before (MovesTo chunk to) plain = absurd plain
plain_so count chunks before (Carries chunk heard next) plain = absurd plain

pub all_plain : (count : ℕ) (chunks : List ChunkRun) (told more : List Moment) → AllSo count told chunks → Every IsPlain more → AllSo count (told ++ more) chunks
all_plain count chunks told more are plain = all_more (IsSo count chunks) IsPlain (plain_so count chunks) told more are plain

-- Chunks grow

pub record GrowsTo (c : ChunkRun) (k : ℕ) (new : List ChunkRun) : Type 0 where
  pub now : ChunkRun
  pub there : slice_get new k ≡ Some now
  pub grows : Grows c.group now.group

abbrev pub AllGrow : (old new : List ChunkRun) → Type 0
AllGrow old new = (k : ℕ) (c : ChunkRun) → slice_get old k ≡ Some c → GrowsTo c k new

pub grow_refl : (chunks : List ChunkRun) → AllGrow chunks chunks
grow_refl chunks k c there = record { now = c; there = there; grows = grows_refl c.group }

pub grow_set : (chunks : List ChunkRun) (k : ℕ) (c d : ChunkRun) → slice_get chunks k ≡ Some c → Grows c.group d.group → AllGrow chunks (slice_set chunks k d)
grow_set chunks k c d there grows j x at = elim (cases_eq j k) [
  | inl same ↦
      let c_is : c ≡ x = same_Some c x (sym there ∙ ap (slice_get chunks) (sym same) ∙ at) in record {
        now = d;
        there = ap (slice_get (slice_set chunks k d)) same ∙ set_there chunks k c d there;
        grows = subst (λ (y : ChunkRun). Grows y.group d.group) c_is grows;
      }
  | inr apart ↦ record { now = x; there = set_elsewhere chunks k j d apart ∙ at; grows = grows_refl x.group }
]

-- one group more
pub grow_more : (chunks : List ChunkRun) (d : ChunkRun) → AllGrow chunks (chunks ++ d ∷ [])
grow_more chunks d k c there = record { now = c; there = at_front chunks (d ∷ []) k c there; grows = grows_refl c.group }

pub grow_on : (old mid new : List ChunkRun) → AllGrow old mid → AllGrow mid new → AllGrow old new
grow_on old mid new first second k c there =
    let one = first k c there in
    let other = second k one.now one.there in
    record { now = other.now; there = other.there; grows = grows_on c.group one.now.group other.now.group one.grows other.grows }

module _ (count : ℕ) (old new : List ChunkRun) (grow : AllGrow old new) where
  -- the beginning of a history, and what is legal
  module _ (k : ℕ) (c : ChunkRun) (there : slice_get old k ≡ Some c) (by : ℕ) (within : by ≤ length c.group.history) where
    abbrev to : GrowsTo c k new
    to = grow k c there

    front : take by to.now.group.history ≡ take by c.group.history
    front = let later = to.grows.later in ap (take by) (sym later.whole) ∙ take-append-le by c.group.history later.rest within

    longer : by ≤ length to.now.group.history
    longer = let later = to.grows.later in omega (arith, within, length-append c.group.history later.rest, ap length later.whole)

    legal_was : IsLegal to.now.group.setup to.now.group.history → IsLegal c.group.setup c.group.history
    legal_was legal = legal_before c.group.setup c.group.history to.now.group.history to.grows.later (subst (λ (setup : Setup). IsLegal setup to.now.group.history) to.grows.setup legal)

  back_grown : (before : List Moment) (chunk : ℕ) (heard : Heard) → IsCarriedBack count old before chunk heard → IsCarriedBack count new before chunk heard
  back_grown before chunk heard h =
      let x = to h.number h.group h.there heard.by h.within in
      let role = role_of_reply heard.reply in record {
        ask = h.ask;
        pending = h.pending;
        number = h.number;
        of = h.of;
        since = h.since;
        group = x.now;
        there = x.there;
        within = longer h.number h.group h.there heard.by h.within;
        replied = λ legal.
            subst (λ (setup : Setup). IsReplied setup (past_in (take heard.by x.now.group.history) (mover_trace (take heard.by x.now.group.history) h.number role count before)) h.ask heard.reply) (sym x.grows.setup)
            (subst (λ (part : History). IsReplied h.group.group.setup (past_in part (mover_trace part h.number role count before)) h.ask heard.reply) (sym (front h.number h.group h.there heard.by h.within))
            (h.replied (legal_was h.number h.group h.there heard.by h.within legal)));
      }

  -- so does what was handed on
  event_grown : (k place : ℕ) (c : ChunkRun) (x : Happening) (there : slice_get old k ≡ Some c) → slice_get c.group.history place ≡ Some x → slice_get (grow k c there).now.group.history place ≡ Some x
  event_grown k place c x there at =
      let later = (grow k c there).grows.later in
      ap (λ (history : History). slice_get history place) (sym later.whole) ∙ at_front c.group.history later.rest place x at

  carried_grown : (before : List Moment) (k place : ℕ) → IsCarriedOn count old before k place → IsCarriedOn count new before k place
  carried_grown before k place h = record {
    chunk = h.chunk;
    moving = h.moving;
    ask = h.ask;
    pending = h.pending;
    of = h.of;
    group = (grow k h.group h.there).now;
    there = (grow k h.group h.there).there;
    server = h.server;
    answer = h.answer;
    is = event_grown k place h.group (record { event = event_of_ask h.ask h.server; answer = h.answer }) h.there h.is;
  }

  back_if : (before : List Moment) (chunk : ℕ) (heard : Option Heard) → IsBackIf count old before chunk heard → IsBackIf count new before chunk heard
  back_if before chunk None is = tt
  back_if before chunk (Some heard) is = back_grown before chunk heard is

  moment_grown : (before : List Moment) (y : Moment) → IsSo count old before y → IsSo count new before y
  moment_grown before (Hands m k place) h =
      let x = grow k h.group h.there in
      let later = x.grows.later in record {
        of_mover = λ high. let was = h.of_mover high in (was.0, carried_grown before k place was.1);
        behind = h.behind;
        group = x.now;
        there = x.there;
        within = omega (arith, h.within, length-append h.group.group.history later.rest, ap length later.whole);
      }
  moment_grown before (Writes text) is = tt
  moment_grown before (Acts who act) is = tt
  moment_grown before (MovesTo chunk to_group) is =
      let x = grow to_group is.group is.there in record { small = is.small; rests = is.rests; behind = is.behind; fresh = is.fresh; group = x.now; there = x.there }
  moment_grown before (Carries chunk heard next) is = (is.0, back_if before chunk heard is.1)

pub all_grown : (count : ℕ) (told : List Moment) (old new : List ChunkRun) → AllGrow old new → AllSo count told old → AllSo count told new
all_grown count told old new grow are place y at = moment_grown count old new grow (take place told) y (are place y at)

-- How far is told of a history

module _ (count : ℕ) (told : List Moment) (chunks : List ChunkRun) (k : ℕ) (n : ℕ) (none_there : (g : ℕ) (c : ChunkRun) → g ≡ k → slice_get chunks g ≡ Some c → length c.group.history ≤ n) where
  back_reach : (before : List Moment) (chunk : ℕ) (heard : Heard) → IsCarriedBack count chunks before chunk heard → by_of_carry k before chunk heard ≤ n
  back_reach before chunk heard is =
      let o = group_asked before chunk heard.reply in
      by_test (is_some_of o k) (λ b. is_some_of o k ≡ b → (if b then heard.by else 0) ≤ n)
      (λ _ at. let most = none_there is.number is.group (same_Some is.number k (sym is.of ∙ is_of o k at)) is.there in omega (arith, most, is.within)) (λ _ _. omega arith) refl

  moment_reach : (before : List Moment) (y : Moment) → IsSo count chunks before y → reach_at k before y ≤ n
  moment_reach before (Hands m g place) is =
      by_test (g == k) (λ b. (if b then suc place else 0) ≤ n) (λ same. let most = none_there g is.group (eqb-true g k same) is.there in omega (arith, most, is.within)) (λ apart. omega arith)
  moment_reach before (Writes text) is = omega arith
  moment_reach before (Acts who act) is = omega arith
  moment_reach before (MovesTo its to) is = omega arith
  moment_reach before (Carries chunk (Some heard) next) is = back_reach before chunk heard is.1
  moment_reach before (Carries chunk None next) is = omega arith

  each_low : AllSo count told chunks → AreEach (λ before y. reach_at k before y ≤ n) told
  each_low are place y at = moment_reach (take place told) y (are place y at)

  low_from : AllSo count told chunks → reached k told ≤ n
  low_from are = reached_low k n told (each_low are)

module _ (count : ℕ) (told : List Moment) (chunks : List ChunkRun) (k : ℕ) (c : ChunkRun) (there : slice_get chunks k ≡ Some c) where
  its_length : (g : ℕ) (d : ChunkRun) → g ≡ k → slice_get chunks g ≡ Some d → length d.group.history ≤ length c.group.history
  its_length g d same at = let is : d ≡ c = same_Some d c (sym at ∙ ap (slice_get chunks) same ∙ there) in omega (arith, ap (λ (x : ChunkRun). length x.group.history) is)

  -- no further than it goes
  pub told_low : AllSo count told chunks → reached k told ≤ length c.group.history
  told_low are = low_from count told chunks k (length c.group.history) its_length are

-- A port's step

module _ (halts : List Halt) (count : ℕ) (told : List Moment) (chunks : List ChunkRun) (are : AllSo count told chunks) (m k : ℕ) where
  module _ (c : ChunkRun) (there : slice_get chunks k ≡ Some c) where
    abbrev d : Drove
    d = drove_as chunks m k (driven halts c m)

    pub grown : AllSo count told d.chunks
    grown = all_grown count told chunks d.chunks (grow_set chunks k c (driven halts c m).chunk there (driven_grows halts c m)) are

    pub now_there : slice_get d.chunks k ≡ Some (driven halts c m).chunk
    now_there = set_there chunks k c (driven halts c m).chunk there

    -- an ask was handed on
    abbrev pub Hands_so : Type 0
    Hands_so = (place : ℕ) → IsHandedAt m c (driven halts c m) place → IsHandedSo count d.chunks told m k place

    told_on : Hands_so → (place : Option ℕ) (text : List ℕ) → IsHandedIf m c (driven halts c m) place → AllSo count (told ++ (handed_moments m k place ++ Writes text ∷ [])) d.chunks
    told_on so None text hands = all_plain count d.chunks told (Writes text ∷ []) grown (tt, tt)
    told_on so (Some place) text hands =
        subst (λ (all : List Moment). AllSo count all d.chunks) (append_assoc told (Hands m k place ∷ []) (Writes text ∷ []))
        (all_plain count d.chunks (told ++ Hands m k place ∷ []) (Writes text ∷ []) (one_more (IsSo count d.chunks) told (Hands m k place) grown (so place hands)) (tt, tt))

    pub drove_said : Hands_so → AllSo count (told ++ d.told) d.chunks
    drove_said so = told_on so (driven halts c m).place (driven halts c m).text (driven_hands halts c m)

    pub behind_all : (place : ℕ) → IsHandedAt m c (driven halts c m) place → reached k told ≤ place
    behind_all place h = let low = told_low count told chunks k c there are in omega (arith, low, h.at)

    pub event_within : (place : ℕ) → IsHandedAt m c (driven halts c m) place → place < length (driven halts c m).chunk.group.history
    event_within place h = slice_get_within (driven halts c m).chunk.group.history place (record { event = event_of_ask h.ask h.server; answer = h.answer }) h.is

    -- what is told of a step that gives a reply
    module _ (reply : Reply) (r : Replies halts c m (driven halts c m) reply) where
      abbrev pub heard : Heard
      heard = record { reply = reply; by = event_count (slice_get d.chunks k) }

      pub by_is : heard.by ≡ length (driven halts c m).chunk.group.history
      by_is = ap event_count now_there

      pub told_is : told ++ d.told ≡ told ++ Writes (driven halts c m).text ∷ []
      told_is = ap (λ place. told ++ (handed_moments m k place ++ Writes (driven halts c m).text ∷ [])) r.place

      pub taken : take heard.by (driven halts c m).chunk.group.history ≡ c.group.history
      taken = ap (λ n. take n (driven halts c m).chunk.group.history) by_is ∙ take-length (driven halts c m).chunk.group.history ∙ ap (λ (g : Chunk). g.history) r.still

      pub reached_by : reached k (told ++ d.told) ≤ heard.by
      reached_by =
          let text = (driven halts c m).text in
          let said : AllSo count (told ++ Writes text ∷ []) d.chunks = all_plain count d.chunks told (Writes text ∷ []) grown (tt, tt) in
          let low = told_low count (told ++ Writes text ∷ []) d.chunks k (driven halts c m).chunk now_there said in
          subst (λ (all : List Moment). reached k all ≤ heard.by) (sym told_is) (omega (arith, low, by_is))

-- An ask is put into a port

asked_grow : (chunks : List ChunkRun) (m k : ℕ) (ask : Ask) (o : Option ChunkRun) → slice_get chunks k ≡ o → AllGrow chunks (with_run chunks k (run_after o (λ c. port_asked c m ask)))
asked_grow chunks m k ask None there = grow_refl chunks
asked_grow chunks m k ask (Some c) there = grow_set chunks k c (port_asked c m ask) there (by (slice_get c.ports m))
  where
    by : (p : Option PortIs) → Grows c.group (asked_at c m ask p).group
    by None = grows_refl c.group
    by (Some p) = grows_refl c.group

pub put_grow : (chunks : List ChunkRun) (group : Option ℕ) (m : ℕ) (ask : Ask) → AllGrow chunks (put_at chunks group m ask)
put_grow chunks None m ask = grow_refl chunks
put_grow chunks (Some g) m ask = asked_grow chunks m g ask (slice_get chunks g) refl
