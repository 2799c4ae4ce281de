-- In the run of every script it is known what came to the mounts, and how the chunks were served.
use Rattle.std.proofs.Common.{◌≡◌, ℕ, suc, ◌/◌, ◌<◌, Bool, nat_lt, true, false, ◌||◌, List, [], ◌∷◌, ◌++◌, length, Option, Some, None, slice_get, slice_set, arith, refl, sym, ap, subst, ◌∙◌}
use Rattle.std.proofs.lemmas.Bool.{ltb-false, false≢true}
use Rattle.std.proofs.lemmas.List.{append_assoc}
use Rattle.std.proofs.lemmas.Option.{none-some}
use Rattle.pf_protocol.specs.declared.events.Event.TheVariants.{Submit}
use Rattle.pf_law_runs.specs.pf_group_network.proofs.Lists.{set_length}
use Rattle.pf_volume.specs.Volumes.{Extent, IsVolume}
use Rattle.pf_move.specs.Movers.{MoverStep, new_mover, step}
use Rattle.pf_move.specs.Routes.{home_of_chunk}
use Rattle.pf_journal.specs.declared.layouts.Layout.{Layout}
use Rattle.pf_journal.specs.declared.layouts.Layout.TheVariants.{Three}
use Rattle.pf_journal.specs.Layouts.{VolumeHasRoom}
use Rattle.pf_law_events.specs.Events.{Happening, port_events, mounts_told}
use Rattle.pf_law_homes.specs.Ports.{deeds_on}
use Rattle.pf_law_plans.proofs.Words.{words_spelled}
use Rattle.pf_law_runs.specs.pf_world.specs.pf_group_rounds.specs.Halts.{Halt}
use Rattle.pf_law_runs.specs.pf_world.specs.pf_chunk.specs.Asking.{fetched}
use Rattle.pf_law_runs.specs.pf_world.specs.pf_chunk.specs.Happenings.{happened}
use Rattle.pf_law_runs.specs.pf_world.specs.pf_chunk.specs.Lending.{all_happened}
use Rattle.pf_law_runs.specs.pf_world.specs.pf_chunk.specs.Runs.{ChunkRun}
use Rattle.pf_law_runs.specs.pf_world.specs.pf_world_moments.specs.Moments.{Acts, Answers, Moment}
use Rattle.pf_law_runs.specs.pf_world.specs.pf_world_moments.proofs.Words.{call_spelled}
use Rattle.pf_law_runs.specs.pf_world.specs.pf_mount_host.specs.Hosts.{HostIs}
use Rattle.pf_law_runs.specs.pf_world.specs.pf_world_hosts.specs.Volumes.{Hosts, VolumeRun, anchors, host_at, moved_from, mover_steps, moves_from, with_chunk}
use Rattle.pf_law_runs.specs.pf_world.specs.Lines.{lacks_anchors}
use Rattle.pf_law_runs.specs.pf_world.specs.Reports.{world_run}
use Rattle.pf_law_runs.specs.pf_world.specs.Worlds.{volume_made}
use Rattle.pf_law_runs.specs.pf_world.specs.declared.kind.Kind.{Kind}
use Rattle.pf_law_runs.specs.pf_world.specs.declared.kind.Kind.TheVariants.{Mounted, Raw}
use Rattle.pf_law_runs.specs.pf_world.specs.pf_live_session.specs.Sessions.{Session}
use Rattle.pf_law_runs.specs.pf_world.specs.declared.line.Line.{Line}
use Rattle.pf_law_runs.specs.Scripts.{IsScript}
use Rattle.pf_law_runs.specs.pf_law_movers.proofs.HistoryGrowth.{Grows, all_grow, all_ports, fetched_grows, happened_grows}
use Rattle.pf_law_runs.proofs.MoverStepParts.{hauled, mover_same}
use Rattle.pf_law_runs.specs.pf_law_movers.proofs.Ports.{fetched_ports, happened_ports}
use Rattle.pf_law_runs.proofs.RoutesTold.{Routed, all_begun, all_routed, new_routed}
use Rattle.pf_law_runs.proofs.LineCounts.{IsKeptCounted, new_group, running_counted}
use Rattle.pf_law_runs.proofs.ScriptRuns.{IsKeptThrough}
use Rattle.pf_law_runs.proofs.KeptThroughout as throughout
use Rattle.pf_law_runs.proofs.KeptThroughout.{IsLow, IsThrough, no_hosts}
use Rattle.pf_law_runs.proofs.Within.{Within, all_within, new_within}
use Rattle.pf_law_mounts.specs.Told.{inputs_in}
use Rattle.pf_law_mounts.proofs.MoverSteps.{KnownSo, carried_so, known_line, same_extent}
use Rattle.pf_law_mounts.proofs.Causes.{HasCause, HaveCauses, inputs_on}
use Rattle.pf_law_mounts.proofs.HostLives.{known_beginning, known_killing, known_mounting}
use Rattle.pf_law_mounts.proofs.Grown.{known_grown}
use Rattle.pf_law_mounts.proofs.Middle.{AreAnswers, AreSpelled}
use Rattle.pf_law_mounts.proofs.MoveBegins.{moves_so}
use Rattle.pf_law_mounts.proofs.NewVolumes.{new_known}
use Rattle.pf_law_mounts.proofs.Known.{IsKnown}
use Rattle.pf_law_mounts.proofs.Steps.{known_stepping}

-- What is known of every run of so many lines: what came to its mounts, and how its chunks were served. There are mounts only where the run began
-- with one
pub record IsSoFar (lines : ℕ) (kind : Option Kind) (v : VolumeRun) (told : List Moment) : Type 0 where
  pub routed : IsThrough (λ kind. Routed) kind v told
  pub within : IsThrough (λ kind. Within) kind v told
  pub mounted : 0 < length v.hosts → kind ≡ Some Mounted
  pub known : IsVolume v.extent → IsKnown lines v told

-- The journal comes to lie on anchors

either_false : (a b : Bool) → (a || b) ≡ false → (a ≡ false) × (b ≡ false)
either_false false b none = (refl, none)
either_false true b none = absurd (false≢true (sym none))

has_anchors : (e : Extent) → IsVolume e → lacks_anchors e ≡ false → VolumeHasRoom Three e
has_anchors e volume room =
    let parts = either_false (nat_lt e.chunks 4) (nat_lt e.sectors 4096) room in
    let many = ltb-false e.sectors 4096 parts.1 in
    let few = volume.few_sectors in
    record { chunks = ltb-false e.chunks 4 parts.0; sectors = omega (arith, many, few) }

none_before : {X : Type 0} → (xs ys : List X) → xs ++ ys ≡ [] → xs ≡ []
none_before [] ys same = refl
none_before (x ∷ xs) ys same = absurd (cc)

none_at : (hosts : Hosts) (m : ℕ) (host : HostIs) → length hosts ≡ 0 → host_at hosts m ≡ Some host → ⊥
none_at [] m host none at = none-some host at
none_at (x ∷ hosts) m host none at = omega (arith, none)

none_last : {X : Type 0} → (xs : List X) (x : X) → [] ≡ xs ++ x ∷ [] → ⊥
none_last [] x same = absurd (cc)
none_last (y ∷ ys) x same = absurd (cc)

-- where nothing came, nothing was answered
other_causes : (layout new : Layout) (e : Extent) (before told : List Moment) → inputs_in (before ++ told) ≡ [] → HaveCauses layout e before told → HaveCauses new e before told
other_causes layout new e before [] none causes = tt
other_causes layout new e before (y ∷ told) none causes =
    let rest : inputs_in ((before ++ y ∷ []) ++ told) ≡ [] = ap inputs_in (append_assoc before (y ∷ []) told) ∙ none in
    (cause y causes.0, other_causes layout new e (before ++ y ∷ []) told rest causes.1)
  where
    cause : (x : Moment) → HasCause layout e before x told → HasCause new e before x told
    cause (Acts m (Answers answer)) c = absurd (none_last (inputs_in c.earlier) _ (sym (none_before (inputs_in before) (inputs_in (y ∷ told)) (sym (inputs_on before (y ∷ told)) ∙ none)) ∙ c.last))
    cause x c = tt

-- nothing came yet
known_anchors : {calls : ℕ} → (v : VolumeRun) (told : List Moment) → VolumeHasRoom Three v.extent → length v.hosts ≡ 0 → IsKnown calls v told → IsKnown calls (anchors v) told
known_anchors {calls} v told has none is =
    let nothing : is.happenings ≡ [] = is.none_yet none in record {
      happenings = [];
      service = is.service;
      deeds = is.deeds;
      few = is.few;
      room = λ some. has;
      anchors = λ three. has;
      none_yet = λ _. refl;
      told_are = ap mounts_told (sym nothing) ∙ is.told_are;
      causes = other_causes v.layout Three v.extent [] told (sym (ap mounts_told (sym nothing) ∙ is.told_are)) is.causes;
      spelled = tt;
      few_calls = λ m. omega arith;
      apart = is.apart;
      served = is.served;
      same = λ chunk small. is.same chunk small ∙ ap (λ (hs : List Happening). deeds_on (port_events v.layout v.extent hs) chunk) nothing;
      serving_so = is.serving_so;
      host_so = λ m host at. absurd (none_at v.hosts m host none at);
      fresh = λ m late. refl;
      unasked = is.unasked;
      unowed = λ m port late. refl;
      answered = λ legal. record { can_be = tt; served = tt };
    }

-- One line more

known_more : {calls : ℕ} → (v : VolumeRun) (told : List Moment) → IsKnown calls v told → IsKnown (suc calls) v told
known_more v told is = record {
  happenings = is.happenings;
  service = is.service;
  deeds = is.deeds;
  few = is.few;
  room = is.room;
  anchors = is.anchors;
  none_yet = is.none_yet;
  told_are = is.told_are;
  causes = is.causes;
  spelled = is.spelled;
  few_calls = λ m. let few = is.few_calls m in omega (arith, few);
  apart = is.apart;
  served = is.served;
  same = is.same;
  serving_so = is.serving_so;
  host_so = is.host_so;
  fresh = is.fresh;
  unasked = is.unasked;
  unowed = is.unowed;
  answered = is.answered;
}

module _ (laws : AreAnswers) (spelled : AreSpelled) (halts : List Halt) where
  abbrev routed_kept : IsKeptThrough halts (throughout.Through halts (λ kind. Routed) (all_routed halts))
  routed_kept = throughout.kept halts (λ kind. Routed) (all_routed halts)

  abbrev within_kept : IsKeptThrough halts (throughout.Through halts (λ kind. Within) (all_within halts))
  within_kept = throughout.kept halts (λ kind. Within) (all_within halts)

  -- all of it
  so_far : {lines : ℕ} → (kind : Option Kind) (v : VolumeRun) (told : List Moment) → IsSoFar lines kind v told → IsVolume v.extent → KnownSo lines v told
  so_far kind v told is volume = record { routed = is.routed.holds; within = is.within.holds; known = is.known volume }

  -- something happened to a group
  event_known : {lines : ℕ} → (kind : Option Kind) (v : VolumeRun) (told : List Moment) (k : ℕ) (c d : ChunkRun) → slice_get v.chunks k ≡ Some c → d.ports ≡ c.ports → Grows c.group d.group → IsSoFar lines kind v told → IsVolume v.extent → IsKnown lines (with_chunk v d) told
  event_known kind v told k c d at ports grows is volume =
      let number = grows.number ∙ (is.within.holds.placed k c at).number in
      known_grown v told (all_begun v.extent.chunks told is.routed.holds.each) d.group.number c d (ap (slice_get v.chunks) number ∙ at) grows (λ m small. ap (λ ps. slice_get ps m) ports) v.routes v.mover (is.known volume)

  -- the same extent
  mover_extent : (v : VolumeRun) → (mover_steps halts v).volume.extent ≡ v.extent
  mover_extent v =
      hauled halts (λ w told. w.extent ≡ v.extent) (λ w told k at same. same)
      (λ w told old heard there same. let s : MoverStep = step old (Some heard.reply) in same_extent halts w s.mover (Some heard) s.next ∙ same) v [] refl

  moves_extent : (v : VolumeRun) (names format chunk : ℕ) (o : Option ℕ) → (moves_from chunk o (new_group halts v names format) v).volume.extent ≡ v.extent
  moves_extent v names format chunk None = refl
  moves_extent v names format chunk (Some h) = let s : MoverStep = step (new_mover chunk (v.extent.sectors / 8)) None in same_extent halts (moved_from v chunk h (new_group halts v names format)) s.mover None s.next

  -- as many hosts as before
  some_before : (hosts : Hosts) (m : ℕ) (host : Option HostIs) → 0 < length (slice_set hosts m host) → 0 < length hosts
  some_before hosts m host some = subst (λ n. 0 < n) (set_length hosts m host) some

  pub kept : IsKeptCounted halts IsSoFar
  kept = record {
    more = λ n kind v told is. record { routed = is.routed; within = is.within; mounted = is.mounted; known = λ volume. known_more v told (is.known volume) };
    deciding = λ n kind v told is. record {
      routed = routed_kept.deciding kind v told is.routed;
      within = within_kept.deciding kind v told is.within;
      mounted = λ some. absurd (none-some Mounted (is.mounted some));
      known = is.known;
    };
    writing = λ n kind v told text is. record {
      routed = routed_kept.writing kind v told text is.routed;
      within = within_kept.writing kind v told text is.within;
      mounted = is.mounted;
      known = λ volume. known_line v told text (is.known volume);
    };
    happening = λ n kind v told k c event at never is. record {
      routed = routed_kept.happening kind v told k c event at never is.routed;
      within = within_kept.happening kind v told k c event at never is.within;
      mounted = is.mounted;
      known = event_known kind v told k c (happened halts c event).chunk at (happened_ports halts c event) (happened_grows halts c event) is;
    };
    submitting = λ n v told k c server op at is. record {
      routed = routed_kept.submitting v told k c server op at is.routed;
      within = within_kept.submitting v told k c server op at is.within;
      mounted = is.mounted;
      known = event_known (Some Raw) v told k c (happened halts c (Submit server op)).chunk at (happened_ports halts c (Submit server op)) (happened_grows halts c (Submit server op)) is;
    };
    threading = λ n v told k c its at is. record {
      routed = routed_kept.threading v told k c its at is.routed;
      within = within_kept.threading v told k c its at is.within;
      mounted = is.mounted;
      known = event_known (Some Raw) v told k c (all_happened halts its c).chunk at (all_ports halts c its) (all_grow halts c its) is;
    };
    reading = λ n kind v told k c server range at is. record {
      routed = routed_kept.reading kind v told k c server range at is.routed;
      within = within_kept.reading kind v told k c server range at is.within;
      mounted = is.mounted;
      known = event_known kind v told k c (fetched halts server range c).chunk at (fetched_ports halts server range c) (fetched_grows halts c server range) is;
    };
    stepping = λ n kind v told m host at is. record {
      routed = routed_kept.stepping kind v told m host at is.routed;
      within = within_kept.stepping kind v told m host at is.within;
      mounted = λ some. is.mounted (some_before v.hosts m _ some);
      known = λ volume. known_stepping laws spelled halts v told m host volume at is.routed.holds.is.routes (is.known volume);
    };
    carrying = λ n kind v told is. record {
      routed = routed_kept.carrying kind v told is.routed;
      within = within_kept.carrying kind v told is.within;
      mounted = λ some. is.mounted (subst (λ (hosts : Hosts). 0 < length hosts) (mover_same halts v).1 some);
      known = λ volume. (carried_so halts v told (so_far kind v told is (subst IsVolume (mover_extent v) volume))).known;
    };
    moving = λ n v told names format chunk free few is.
        let routed = routed_kept.moving v told names format chunk free few is.routed in
        let within = within_kept.moving v told names format chunk free few is.within in record {
          routed = routed;
          within = within;
          mounted = λ some. refl;
          known = λ volume.
              (moves_so halts v told names format chunk (home_of_chunk v.routes chunk) refl routed.holds within.holds (so_far (Some Mounted) v told is (subst IsVolume (moves_extent v names format chunk (home_of_chunk v.routes chunk)) volume))).known;
        };
    mounting = λ n v told large few is. record {
      routed = routed_kept.mounting v told large few is.routed;
      within = within_kept.mounting v told large few is.within;
      mounted = λ some. refl;
      known = λ volume. known_mounting v told large few (is.known volume);
    };
    beginning = λ n kind v told m host words call at rest said is. record {
      routed = routed_kept.beginning kind v told m host words call at rest said is.routed;
      within = within_kept.beginning kind v told m host words call at rest said is.within;
      mounted = λ some. is.mounted (some_before v.hosts m _ some);
      known = λ volume. known_beginning v told m host call (words_spelled words call (call_spelled words call said)) at rest (is.known volume);
    };
    killing = λ n kind v told m host at is. record {
      routed = routed_kept.killing kind v told m host at is.routed;
      within = within_kept.killing kind v told m host at is.within;
      mounted = λ some. is.mounted (some_before v.hosts m None some);
      known = λ volume. known_killing v told m (is.known volume);
    };
    anchoring = λ n kind v told plain none room is. record {
      routed = routed_kept.anchoring kind v told plain none room is.routed;
      within = within_kept.anchoring kind v told plain none room is.within;
      mounted = is.mounted;
      known = λ volume. known_anchors v told (has_anchors v.extent volume room) none (is.known volume);
    };
  }

  -- of a new volume, where no line was run
  pub first_known : (sessions : List Session) (chunks sectors names format : ℕ) → IsSoFar 0 None (volume_made halts sessions chunks sectors names format).volume []
  first_known sessions chunks sectors names format = record {
    routed = record { holds = new_routed halts sessions chunks sectors names format; low = no_hosts IsLow };
    within = record { holds = new_within halts sessions chunks sectors names format; low = no_hosts IsLow };
    mounted = λ some. absurd (omega (arith, some));
    known = λ volume. new_known halts sessions chunks sectors names format;
  }

  pub run_known : (sessions : List Session) (lines : List Line) → IsScript lines → let run = world_run halts sessions lines in IsSoFar (length lines) run.world.kind run.world.volume run.told
  run_known sessions lines script = running_counted halts IsSoFar kept first_known sessions lines script
