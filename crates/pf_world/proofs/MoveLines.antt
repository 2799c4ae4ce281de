-- A line that moves a chunk.
use Rattle.std.proofs.Common.{◌≡◌, ℕ, ◌+◌, ◌<◌, ◌⊎◌, ◌/◌, nat_le, Bool, true, false, if◌then◌else◌, IsTrue, List, [], ◌∷◌, ◌++◌, length, Option, Some, None, slice_get, slice_set, inl, inr, refl, sym, ap, subst, ◌∙◌, arith}
use Rattle.std.specs.Option.{is_some}
use Rattle.std.proofs.lemmas.Bool.{cases_lt, false≢true}
use Rattle.std.proofs.lemmas.Bool.Decides.{nat_tests}
use Rattle.std.proofs.lemmas.Grind.{flat_map-append}
use Rattle.std.proofs.lemmas.List.{append_assoc, append-nil, length-map}
use Rattle.std.proofs.lemmas.Option.{none-some, same_Some, slice_get_within}
use Rattle.pf_entry.specs.Lists.{Every}
use Rattle.pf_entry.proofs.Lists.{every_more}
use Rattle.pf_live_session.specs.pf_group_network.proofs.Lists.{at_front, something_there}
use Rattle.pf_protocol.specs.declared.answers.Answer.{Answer}
use Rattle.pf_script.specs.Lines.{is_volume}
use Rattle.pf_volume.specs.Volumes.{Extent}
use Rattle.pf_script.specs.declared.command.Command.TheVariants as commands
use Rattle.pf_move.specs.declared.routes.Moving.{Moving}
use Rattle.pf_live_session.specs.pf_group.specs.declared.six.Six.{Six}
use Rattle.pf_live_session.specs.pf_group.specs.GroupIs.{GroupIs}
use Rattle.pf_live_session.specs.pf_group.specs.Halves.{HasRisen}
use Rattle.pf_live_session.specs.pf_group.specs.Making as groups
use Rattle.pf_move.specs.Movers.{MoverStep, new_mover, step}
use Rattle.pf_move.specs.Routes.{home_of_chunk}
use Rattle.pf_report.specs.declared.refusals.LineRefusal.{LineRefusal}
use Rattle.pf_report.specs.declared.refusals.LineRefusal.TheVariants as refusals
use Rattle.pf_report.specs.Moves.{moving_text}
use Rattle.pf_report.specs.Refusals.{line_refusal_text}
use Rattle.pf_report.specs.Texts.{report_line}
use Rattle.pf_live_session.specs.pf_group_rounds.specs.Agreeing.{TellsOfGroup, chunk_standing}
use Rattle.pf_live_session.specs.pf_group_rounds.specs.Begun.{GroupHasBegun}
use Rattle.pf_live_session.specs.pf_group_rounds.specs.Chunks.{made_chunk}
use Rattle.pf_live_session.specs.pf_group_rounds.specs.Growing.{HasGrown}
use Rattle.pf_live_session.specs.pf_group_rounds.specs.Halts.{Halt}
use Rattle.pf_live_session.specs.pf_group_rounds.proofs.RunHistories.{Extends, extends_on, extends_refl}
use Rattle.pf_live_session.specs.pf_group_rounds.proofs.GroupGrowth.{grown_refl}
use Rattle.pf_live_session.specs.pf_group_rounds.proofs.FaultCounts.{made_paid, since_grown}
use Rattle.pf_live_session.specs.pf_chunk.specs.Runs.{ChunkRun, left_by_ports, new_run, taking_ports}
use Rattle.pf_live_session.specs.pf_chunk.specs.Views.{ChunkIs, run_of}
use Rattle.pf_world_hosts.specs.pf_world_moments.specs.Moments.{Writes, lines_in, moments_text}
use Rattle.pf_world_hosts.specs.pf_world_moments.specs.Steps.{HaveBegun, HaveGrown, TellsAll, chunk_runs}
use Rattle.pf_world_hosts.specs.pf_world_moments.proofs.Groups.{all_begun, run_there}
use Rattle.pf_world_hosts.specs.pf_world_moments.proofs.HistoryGrowth.{lengthens_one}
use Rattle.pf_world_hosts.specs.Moves as moves
use Rattle.pf_world_hosts.specs.Steps.{AreSameHosts, FleetIs, FleetHasGone, FleetHasStopped, IsFleetOf, FleetPart}
use Rattle.pf_world_hosts.specs.Steps as fleets
use Rattle.pf_world_hosts.specs.Volumes.{VolumeTold, VolumeRun, all_step, volume_followed, volume_quietly, with_new}
use Rattle.pf_world_hosts.specs.Volumes as volumes
use Rattle.pf_world_hosts.proofs.ChunkGrowth.{all_lengthen, carries_lengthens, tells_before}
use Rattle.pf_world.specs.Worlds as worlds
use Rattle.pf_world.specs.Worlds.{World, line_ended, line_stepped}
use Rattle.pf_world.specs.Lines.{begins_move, is_of_mounts, line_told, made_group}
use Rattle.pf_world.specs.Views.{IsChunkOf, IsWorld, WorldIs, WorldOn, world_stands_at}
use Rattle.pf_world.specs.Making.{HasMadeMore, IsMadeOn}
use Rattle.pf_world.specs.Disks.{six_list}
use Rattle.pf_world.specs.Steps.{WorldGoesOn, LineHasFailed, HasRun}
use Rattle.pf_world.proofs.Begun.{made_is}
use Rattle.pf_world.proofs.LineFailures.{have_all_begun}
use Rattle.pf_world.proofs.VolumeEvents.{becomes, still_world}
use Rattle.pf_world.proofs.Others.{line_other, told_with}

-- one `move` line more
abbrev pub raised : WorldIs → WorldIs
raised w = record w { moves = w.moves + 1 }

pub raised_world : (w : WorldIs) → IsWorld w → IsWorld (raised w)
raised_world w world = record {
  volume = world.volume;
  each = λ k c there. let its = world.each k c there in record { number = its.number; failed = its.failed; setup = its.setup; ready = its.ready };
  is_fleet = world.is_fleet;
  sectors_are = world.sectors_are;
  made = world.made;
  few = omega (arith, world.few);
}

-- a world with a new group, to which a chunk begins to move
pub begun_world : (old : WorldIs) (chunk : ℕ) (group : ChunkIs) (told : Bool) (before : List (ℕ × ℕ)) (answer : Answer) → IsWorld old → groups.GroupIsMade (length old.chunks) old.sectors old.names old.format told before group.group answer → (mid : List ChunkIs) (fleet : FleetIs)
    → moves.HasBegunMove chunk group old.chunks old.fleet mid fleet → length old.chunks < old.fleet.volume.chunks + old.moves → length old.chunks < 8 → IsWorld (record old { chunks = mid; fleet = fleet })
begun_world old chunk group told before answer world made mid fleet begun fits few =
    let volume : fleet.volume ≡ old.fleet.volume = begun.hosts.3 in record {
      volume = ap (λ (v : Extent). is_volume v.chunks old.sectors old.names old.format) volume ∙ world.volume;
      each = each;
      is_fleet = begun.is_fleet;
      sectors_are = ap (λ (v : Extent). v.sectors) volume ∙ world.sectors_are;
      made = omega (arith, ap (λ (v : Extent). v.chunks) volume, begun.count, world.made);
      few = omega (arith, ap (λ (v : Extent). v.chunks) volume, begun.count, fits, few);
    }
  where
    each : (k : ℕ) (c : ChunkIs) → slice_get mid k ≡ Some c → IsChunkOf (record old { chunks = mid; fleet = fleet }) k c
    each k c at = elim (cases_lt k (length old.chunks)) [
      | inl low ↦
          let was = something_there old.chunks k low in
          let group_is : c.group ≡ was.0.group = ap (λ (x : ChunkIs). x.group) (begun.groups k was.0 c was.1 at) in
          let its = world.each k was.0 was.1 in
          record { number = (begun.ready k c at).0; failed = its.failed; setup = ap (λ (g : GroupIs). g.setup) group_is ∙ its.setup; ready = (begun.ready k c at).1 }
      | inr high ↦
          let here : k ≡ length old.chunks = omega (arith, high, begun.count, slice_get_within mid k c at) in
          let group_is : c.group ≡ group.group = ap (λ (x : ChunkIs). x.group) (begun.last c (ap (slice_get mid) (sym here) ∙ at)) in
          record { number = (begun.ready k c at).0; failed = made.failed; setup = ap (λ (g : GroupIs). g.setup) (group_is ∙ made.is); ready = (begun.ready k c at).1 }
    ]

-- all that was to happen did
pub went_stopped : (part : FleetPart) (old chunks : List ChunkIs) (fleet next : FleetIs) (before after : List ℕ) → FleetHasGone part old fleet before chunks next after → FleetHasStopped part old fleet chunks
went_stopped part old chunks fleet next before after went = record {
  grown = went.grown;
  begun = λ halts tells. subst (λ (t : VolumeTold). HaveBegun halts old t.volume.chunks chunks) (sym (went.run halts tells)) (have_all_begun halts old chunks went.grown tells);
}

-- What keeps a chunk from moving
abbrev pub keeps : (moving full : Bool) → Option LineRefusal
keeps moving full = if moving then Some refusals.Moving else if full then Some refusals.NoSpare else None

pub kept_back : (moving full : Bool) (refusal : LineRefusal) → keeps moving full ≡ Some refusal → ((moving ≡ true) × (refusals.Moving ≡ refusal)) ⊎ ((moving ≡ false) × (full ≡ true) × (refusals.NoSpare ≡ refusal))
kept_back true full refusal is = inl (refl, same_Some refusals.Moving refusal is)
kept_back false true refusal is = inr (refl, refl, same_Some refusals.NoSpare refusal is)
kept_back false false refusal is = absurd (none-some refusal is)

pub none_keeps : (moving full : Bool) → keeps moving full ≡ None → (moving ≡ false) × (full ≡ false)
none_keeps true full is = absurd (none-some refusals.Moving (sym is))
none_keeps false true is = absurd (none-some refusals.NoSpare (sym is))
none_keeps false false is = (refl, refl)

pub none_moving : (moving : Option Moving) → is_some moving ≡ false → moving ≡ None
none_moving None none = refl
none_moving (Some m) none = absurd (false≢true (sym none))

pub few_groups : (n : ℕ) → nat_le 8 n ≡ false → n < 8
few_groups n few = grind (arith, nat_tests)

-- What a move does only adds to histories

moves_from_extends : (chunk : ℕ) (home : Option ℕ) (new : ChunkRun) (v : VolumeRun) (k : ℕ) (r : ChunkRun) → slice_get v.chunks k ≡ Some r → (s : ChunkRun) × (slice_get (volumes.moves_from chunk home new v).volume.chunks k ≡ Some s) × Extends r.group s.group
moves_from_extends chunk None new v k r at = (r, at, extends_refl r.group)
moves_from_extends chunk (Some h) new v k r at =
    let w : VolumeRun = volumes.moved_from v chunk h new in
    let s : MoverStep = step (new_mover chunk (v.extent.sectors / 8)) None in
    let first = stood (slice_get v.chunks h) refl in
    let longer = carries_lengthens w s.mover None s.next in
    let last = something_there (volumes.carries w s.mover None s.next).volume.chunks k (subst (λ n. k < n) (sym longer.count) (slice_get_within w.chunks k first.0 first.1)) in
    (last.0, last.1, extends_on r.group first.0.group last.0.group first.2 (longer.each k first.0 last.0 first.1 last.1))
  where
    stood : (from : Option ChunkRun) → slice_get v.chunks h ≡ from → (s : ChunkRun) × (slice_get (with_new v.chunks h from new) k ≡ Some s) × Extends r.group s.group
    stood None there = (r, at, extends_refl r.group)
    stood (Some from) there =
        let left : ChunkRun = left_by_ports from in
        let longer = lengthens_one v.chunks h from left there (extends_refl from.group) in
        let mid = something_there (slice_set v.chunks h left) k (subst (λ n. k < n) (sym longer.count) (slice_get_within v.chunks k r at)) in
        (mid.0, at_front (slice_set v.chunks h left) (taking_ports from new ∷ []) k mid.0 mid.1, longer.each k r mid.0 at mid.1)

moves_extends : (chunk : ℕ) (new : ChunkRun) (v : VolumeRun) (k : ℕ) (r : ChunkRun) → slice_get v.chunks k ≡ Some r → (s : ChunkRun) × (slice_get (volumes.chunk_moves chunk new v).volume.chunks k ≡ Some s) × Extends r.group s.group
moves_extends chunk new v k r at = moves_from_extends chunk (home_of_chunk v.routes chunk) new v k r at

module _ (old : WorldIs) (number chunk : ℕ) where
  abbrev line : List Halt → worlds.WorldTold
  line halts = line_told halts (world_stands_at halts [] old) number (commands.Move chunk)

  -- No chunk begins to move
  module _ (part : FleetPart) (chunks : List ChunkIs) (fleet : FleetIs) where
    abbrev pub stays : WorldIs
    stays = raised (becomes old chunks fleet old.kind)

    stays_on : HaveGrown old.chunks chunks → WorldGoesOn old stays
    stays_on grown = record { sectors = refl; names = refl; format = refl; at_least = omega (arith, grown.count); grown = grown.each }

    pub stays_runs : IsWorld old → (before middle after text : List ℕ) → FleetHasGone part old.chunks old.fleet before chunks fleet middle → after ≡ middle ++ report_line number text → fleet.volume ≡ old.fleet.volume → fleet.calls ≡ old.fleet.calls
        → ((halts : List Halt) → line halts ≡ line_ended (world_stands_at halts [] old) number (part halts (fleets.volume_stands_at halts old.chunks old.fleet)) text) → HasRun old number (commands.Move chunk) before after stays
    stays_runs world before middle after text went put volume calls is = record {
      told = went.told ++ Writes (report_line number text) ∷ [];
      put = put ∙ ap (λ xs. xs ++ report_line number text) went.put ∙ append_assoc before (moments_text went.told) (report_line number text) ∙ ap (λ xs. before ++ xs) (sym (flat_map-append lines_in went.told (Writes (report_line number text) ∷ []) ∙ ap (λ xs. moments_text went.told ++ xs) (append-nil (report_line number text))));
      runs = record {
        is_world = raised_world (becomes old chunks fleet old.kind) (still_world old chunks fleet old.kind world went.ready went.is_fleet went.grown volume);
        goes_on = stays_on went.grown;
        groups = (omega (arith, went.grown.count), omega (arith, went.grown.count));
        volume = volume;
        calls = omega (arith, calls);
        moves = omega arith;
        sessions = [];
        takes = refl;
        run = λ halts rest tells.
            line_other halts rest (world_stands_at halts [] old) number (commands.Move chunk) refl
            ∙ ap (told_with halts rest) (is halts ∙ ap (λ t. line_ended (world_stands_at halts [] old) number t text) (went.run halts tells));
        ends = λ halts rest tells made. tt;
        keeps = refl;
      };
    }

    pub stays_fails : FleetHasStopped part old.chunks old.fleet chunks → ((halts : List Halt) → (line halts).world.volume.chunks ≡ (part halts (fleets.volume_stands_at halts old.chunks old.fleet)).volume.chunks) → LineHasFailed old number (commands.Move chunk) stays
    stays_fails s is = record {
      goes_on = stays_on s.grown;
      groups = (omega (arith, s.grown.count), omega (arith, s.grown.count));
      passes = refl;
      stopped = record {
        begun = λ halts tells k x y run at to there. (s.begun halts tells).each k x y run at to (ap (λ (cs : List ChunkRun). slice_get cs k) (sym (is halts)) ∙ there);
        new_one = λ c at. absurd (omega (arith, slice_get_within chunks (length old.chunks) c at, s.grown.count));
      };
    }

  -- in a run that no mount began
  pub raw_line : is_of_mounts old.kind ≡ false → (halts : List Halt) → line halts ≡ line_ended (world_stands_at halts [] old) number (volume_quietly (fleets.volume_stands_at halts old.chunks old.fleet)) (line_refusal_text refusals.Raw)
  raw_line raw halts = ap (λ b. if b then begins_move halts (world_stands_at halts [] old) number chunk else line_ended (world_stands_at halts [] old) number (volume_quietly (fleets.volume_stands_at halts old.chunks old.fleet)) (line_refusal_text refusals.Raw)) raw

  module _ (mounted : is_of_mounts old.kind ≡ true) (halts : List Halt) where
    abbrev w : World
    w = world_stands_at halts [] old

    abbrev waits : LineRefusal → worlds.WorldTold
    waits refusal = line_stepped halts w number (volume_quietly w.volume) (line_refusal_text refusal)

    abbrev goes : worlds.WorldTold
    goes = line_stepped halts w number (volumes.chunk_moves chunk (made_group halts w) w.volume) (moving_text (length w.volume.chunks))

    mounts_line : line halts ≡ (if is_some old.fleet.routes.moving then waits refusals.Moving else if nat_le 8 (length w.volume.chunks) then waits refusals.NoSpare else goes)
    mounts_line = ap (λ b. if b then begins_move halts w number chunk else line_ended w number (volume_quietly w.volume) (line_refusal_text refusals.Raw)) mounted

    -- while a chunk is moving
    pub moving_line : is_some old.fleet.routes.moving ≡ true → line halts ≡ waits refusals.Moving
    moving_line moving = mounts_line ∙ ap (λ b. if b then waits refusals.Moving else if nat_le 8 (length w.volume.chunks) then waits refusals.NoSpare else goes) moving

    module _ (none : is_some old.fleet.routes.moving ≡ false) where
      at_rest : line halts ≡ (if nat_le 8 (length w.volume.chunks) then waits refusals.NoSpare else goes)
      at_rest = mounts_line ∙ ap (λ b. if b then waits refusals.Moving else if nat_le 8 (length w.volume.chunks) then waits refusals.NoSpare else goes) none

      -- where there are eight groups
      pub full_line : nat_le 8 (length old.chunks) ≡ true → line halts ≡ waits refusals.NoSpare
      full_line full = at_rest ∙ ap (λ b. if b then waits refusals.NoSpare else goes) (ap (nat_le 8) (length-map old.chunks (run_of halts)) ∙ full)

      pub goes_line : nat_le 8 (length old.chunks) ≡ false → line halts ≡ goes
      goes_line few = at_rest ∙ ap (λ b. if b then waits refusals.NoSpare else goes) (ap (nat_le 8) (length-map old.chunks (run_of halts)) ∙ few)

    -- what keeps it from moving
    pub refused_line : (refusal : LineRefusal) → keeps (is_some old.fleet.routes.moving) (nat_le 8 (length old.chunks)) ≡ Some refusal → line halts ≡ waits refusal
    refused_line refusal is = elim (kept_back (is_some old.fleet.routes.moving) (nat_le 8 (length old.chunks)) refusal is) [
      | inl moving ↦ moving_line moving.0 ∙ ap waits moving.1
      | inr full ↦ full_line full.0 full.1 ∙ ap waits full.2
    ]

  -- There was no memory to begin
  pub unbegun_fails : is_of_mounts old.kind ≡ true → is_some old.fleet.routes.moving ≡ false → nat_le 8 (length old.chunks) ≡ false → LineHasFailed old number (commands.Move chunk) (raised old)
  unbegun_fails mounted none few = record {
    goes_on = record { sectors = refl; names = refl; format = refl; at_least = omega arith; grown = λ k was is at to. subst (λ (c : ChunkIs). HasGrown was.group c.group) (same_Some was is (sym at ∙ to)) (grown_refl was.group) };
    groups = (omega arith, omega arith);
    passes = refl;
    stopped = record {
      begun = λ halts tells k was is run at to there.
          let w = world_stands_at halts [] old in
          let first = moves_extends chunk (made_group halts w) w.volume k (run_of halts was) (run_there halts old.chunks k was at) in
          let v = (volumes.chunk_moves chunk (made_group halts w) w.volume).volume in
          let later : slice_get (all_step halts v).volume.chunks k ≡ Some run = ap (λ (t : worlds.WorldTold). slice_get t.world.volume.chunks k) (sym (goes_line mounted halts none few)) ∙ there in
          let ext = extends_on (run_of halts was).group first.0.group run.group first.2 ((all_lengthen halts v).each k first.0 run first.1 later) in
          let is_was = same_Some is was (sym to ∙ at) in
          subst (λ (c : ChunkIs). GroupHasBegun halts was.group run.group c.group) (sym is_was) (all_begun halts was.group was.group run.group (tells k was at) (grown_refl was.group) ext);
      new_one = λ c at. absurd (omega (arith, slice_get_within old.chunks (length old.chunks) c at));
    };
  }

  -- The chunk begins to move to a group that was made for it
  module _ (mounted : is_of_mounts old.kind ≡ true) (none : is_some old.fleet.routes.moving ≡ false) (few : nat_le 8 (length old.chunks) ≡ false) (sectors : old.fleet.volume.sectors ≡ old.sectors)
      (group : ChunkIs) (told : Bool) (before_faults : List (ℕ × ℕ)) (answer : Answer) (made : groups.GroupIsMade (length old.chunks) old.sectors old.names old.format told before_faults group.group answer)
      (new : (halts : List Halt) → run_of halts group ≡ new_run (chunk_standing halts group.group)) (mid : List ChunkIs) (fleet : FleetIs) (begun : moves.HasBegunMove chunk group old.chunks old.fleet mid fleet) where
    -- the new group behind the others
    last_there : (is : ChunkIs) × (slice_get mid (length old.chunks) ≡ Some is)
    last_there = something_there mid (length old.chunks) (omega (arith, begun.count))

    last_group : last_there.0.group ≡ group.group
    last_group = ap (λ (c : ChunkIs). c.group) (begun.last last_there.0 last_there.1)

    group_is : (halts : List Halt) → TellsAll halts mid → made_group halts (world_stands_at halts [] old) ≡ run_of halts group
    group_is halts tells =
        let tells_group : TellsOfGroup halts group.group = subst (TellsOfGroup halts) last_group (tells (length old.chunks) last_there.0 last_there.1) in
        ap (λ n. new_run (made_chunk halts n old.names old.format (length (chunk_runs halts old.chunks)))) sectors
        ∙ ap (λ n. new_run (made_chunk halts old.sectors old.names old.format n)) (length-map old.chunks (run_of halts))
        ∙ ap new_run (made_is halts old.sectors old.names old.format (length old.chunks) told before_faults group.group answer made tells_group)
        ∙ sym (new halts)

    begins_line : (halts : List Halt) → TellsAll halts mid → line halts
        ≡ line_ended (world_stands_at halts [] old) number (volumes.after_telling begun.told (all_step halts (fleets.volume_stands_at halts mid fleet))) (moving_text (length old.chunks))
    begins_line halts tells =
        let v = fleets.volume_stands_at halts old.chunks old.fleet in
        goes_line mounted halts none few
        ∙ ap (λ n. line_stepped halts (world_stands_at halts [] old) number (volumes.chunk_moves chunk (made_group halts (world_stands_at halts [] old)) v) (moving_text n)) (length-map old.chunks (run_of halts))
        ∙ ap (λ (c : ChunkRun). line_stepped halts (world_stands_at halts [] old) number (volumes.chunk_moves chunk c v) (moving_text (length old.chunks))) (group_is halts tells)
        ∙ ap (λ (t : VolumeTold). line_stepped halts (world_stands_at halts [] old) number t (moving_text (length old.chunks))) (begun.run halts tells)

    -- more happened to the new group
    pub last_grown : (chunks : List ChunkIs) → HaveGrown mid chunks → (c : ChunkIs) → slice_get chunks (length old.chunks) ≡ Some c → HasGrown group.group c.group
    last_grown chunks grown c at = subst (λ (g : GroupIs). HasGrown g c.group) last_group (grown.each (length old.chunks) last_there.0 c last_there.1 at)

    -- a group that was there
    kept : (k : ℕ) (was : ChunkIs) → slice_get old.chunks k ≡ Some was → (is : ChunkIs) × (slice_get mid k ≡ Some is) × (is.group ≡ was.group)
    kept k was at =
        let is = something_there mid k (omega (arith, begun.count, slice_get_within old.chunks k was at)) in
        (is.0, is.1, ap (λ (c : ChunkIs). c.group) (begun.groups k was is.0 at is.1))

    module _ (chunks : List ChunkIs) (next : FleetIs) where
      abbrev pub moves_to : WorldIs
      moves_to = record old { chunks = chunks; fleet = next; moves = old.moves + 1 }

      moved_on : HaveGrown mid chunks → WorldGoesOn old moves_to
      moved_on grown = record {
        sectors = refl;
        names = refl;
        format = refl;
        at_least = omega (arith, grown.count, begun.count);
        grown = λ k was is at to. let it = kept k was at in subst (λ (g : GroupIs). HasGrown g is.group) it.2 (grown.each k it.0 is it.1 to);
      }

      pub moved_runs : IsWorld (record old { chunks = mid; fleet = fleet; moves = old.moves + 1 }) → (before middle after : List ℕ) → FleetHasGone all_step mid fleet before chunks next middle → AreSameHosts fleet next → (put_number : ℕ) → put_number ≡ length old.chunks
          → after ≡ middle ++ report_line number (moving_text put_number) → HasRun old number (commands.Move chunk) before after moves_to
      moved_runs world before middle after went same put_number number_is put = record {
        told = (begun.told ++ went.told) ++ Writes text ∷ [];
        put = put ∙ ap (λ n. middle ++ report_line number (moving_text n)) number_is ∙ ap (λ xs. xs ++ text) went.put ∙ append_assoc before (moments_text went.told) text ∙ ap (λ xs. before ++ xs) (sym all_text);
        runs = record {
          is_world = still_world (record old { chunks = mid; fleet = fleet; moves = old.moves + 1 }) chunks next old.kind world went.ready went.is_fleet went.grown same.volume;
          goes_on = moved_on went.grown;
          groups = (omega (arith, went.grown.count, begun.count), omega (arith, went.grown.count, begun.count));
          volume = same.volume ∙ begun.hosts.3;
          calls = omega (arith, same.calls, begun.hosts.2);
          moves = omega arith;
          sessions = [];
          takes = refl;
          run = λ halts rest tells.
              line_other halts rest (world_stands_at halts [] old) number (commands.Move chunk) refl
              ∙ ap (told_with halts rest) (begins_line halts (tells_before halts mid chunks went.grown tells)
              ∙ ap (λ (t : VolumeTold). line_ended (world_stands_at halts [] old) number (volumes.after_telling begun.told t) (moving_text (length old.chunks))) (went.run halts tells));
          ends = λ halts rest tells made. tt;
          keeps = refl;
        };
      } where
        text : List ℕ
        text = report_line number (moving_text (length old.chunks))

        all_text : moments_text ((begun.told ++ went.told) ++ Writes text ∷ []) ≡ moments_text went.told ++ text
        all_text =
            flat_map-append lines_in (begun.told ++ went.told) (Writes text ∷ [])
            ∙ ap (λ xs. xs ++ (text ++ [])) (flat_map-append lines_in begun.told went.told ∙ ap (λ xs. xs ++ moments_text went.told) begun.silent)
            ∙ ap (λ xs. moments_text went.told ++ xs) (append-nil text)

      -- there was no memory for the steps of the hosts and of the mover
      pub moved_fails : FleetHasStopped all_step mid fleet chunks → LineHasFailed old number (commands.Move chunk) moves_to
      moved_fails s = record {
        goes_on = moved_on s.grown;
        groups = (omega (arith, s.grown.count, begun.count), omega (arith, s.grown.count, begun.count));
        passes = refl;
        stopped = record {
          begun = λ halts tells k was is run at to there.
              let it = kept k was at in
              subst (λ (g : GroupIs). GroupHasBegun halts g run.group is.group) it.2 ((s.begun halts tells).each k it.0 is run it.1 to (would halts tells k run there));
          new_one = λ is at. (
            group.group,
            ap (λ (g : GroupIs). g.history) made.is,
            λ halts tells run there. subst (λ (g : GroupIs). GroupHasBegun halts g run.group is.group) last_group ((s.begun halts tells).each (length old.chunks) last_there.0 is run last_there.1 at (would halts tells (length old.chunks) run there)),
          );
        };
      } where
        would : (halts : List Halt) → TellsAll halts chunks → (k : ℕ) (run : ChunkRun) → slice_get (line halts).world.volume.chunks k ≡ Some run → slice_get (all_step halts (fleets.volume_stands_at halts mid fleet)).volume.chunks k ≡ Some run
        would halts tells k run there = ap (λ (t : worlds.WorldTold). slice_get t.world.volume.chunks k) (sym (begins_line halts (tells_before halts mid chunks s.grown tells))) ∙ there

      -- for the line's own text
      pub moved_silent : (before after : List ℕ) → FleetHasGone all_step mid fleet before chunks next after → LineHasFailed old number (commands.Move chunk) moves_to
      moved_silent before after went = moved_fails (went_stopped all_step mid chunks fleet next before after went)

-- How many groups were made

module _ {D : Type 0} (faults : D → ℕ) (old new : WorldOn D) where
  pub none_more : new.spare ≡ old.spare → length new.world.chunks ≡ length old.world.chunks → HasMadeMore faults old new
  none_more spare count = record {
    sixes = [];
    given = sym spare;
    count = omega (arith, count);
    numbers = λ k c high at. absurd (omega (arith, high, count, slice_get_within new.world.chunks k c at));
    each = λ k six c none at. absurd (none-some six none);
  }

  -- one on these six disks, to which more happened since
  pub one_more : (six : Six D) (told : Bool) (answer : Answer) (group : GroupIs) → old.spare ≡ six_list six ++ new.spare → length new.world.chunks ≡ length old.world.chunks + 1
      → groups.GroupIsMade (length old.world.chunks) old.world.sectors old.world.names old.world.format told (groups.six_faults faults six) group answer
      → ((c : ChunkIs) → slice_get new.world.chunks (length old.world.chunks) ≡ Some c → HasGrown group c.group) → HasMadeMore faults old new
  one_more six told answer group given count made grown = record {
    sixes = six ∷ [];
    given = given ∙ ap (λ ds. ds ++ new.spare) (sym (append-nil (six_list six)));
    count = count;
    numbers = λ k c high at.
        let here : k ≡ length old.world.chunks = omega (arith, high, count, slice_get_within new.world.chunks k c at) in
        (grown c (ap (slice_get new.world.chunks) (sym here) ∙ at)).number ∙ ap (λ (g : GroupIs). g.number) made.is ∙ sym here;
    each = λ k this c there at.
        let first : k < 1 = slice_get_within (six ∷ []) k this there in
        let zero : k ≡ 0 = omega (arith, first) in
        let is_six : six ≡ this = same_Some six this (ap (slice_get (six ∷ [])) (sym zero) ∙ there) in
        let place : length old.world.chunks + k ≡ length old.world.chunks = omega (arith, zero) in
        subst (λ (x : Six D). IsMadeOn faults x c) is_six (its c (ap (slice_get new.world.chunks) (sym place) ∙ at));
  } where
    its : (c : ChunkIs) → slice_get new.world.chunks (length old.world.chunks) ≡ Some c → IsMadeOn faults six c
    its c at =
        let g = grown c at in
        let failed : c.group.setup.failed ≡ made.failed = ap (λ s. s.failed) g.setup ∙ ap (λ (x : GroupIs). x.setup.failed) made.is in record {
          paid = λ tells. since_grown (groups.six_faults faults six) group c.group (subst (λ b. IsTrue b) g.told tells) (made_paid (length old.world.chunks) old.world.sectors old.world.names old.world.format told (groups.six_faults faults six) group answer made) g;
          few = subst (Every (λ i. i < 3)) (sym failed) (every_more (λ i. HasRisen i (groups.six_faults faults six) group.faults) (λ i. i < 3) (λ i risen. slice_get_within (groups.six_faults faults six) i risen.was risen.then_is) made.failed made.cause);
        }
