-- How a volume is made, chunk by chunk.
use Rattle.std.proofs.Common.{IfSome, Option, ◌≡◌, ◌⊎◌, inl, inr, ℕ, suc, replicate, zero, ◌+◌, ◌*◌, ◌/◌, ◌%◌, ◌==◌, nat_le, ◌<◌, ◌≤◌, Bool, true, false, ◌&&◌, ◌||◌, List, [], ◌∷◌, ◌++◌, None, Some, drop, take, length, map, slice_get, refl, sym, ap, subst, ◌∙◌, arith}
use Rattle.std.specs.List.{flat_map, range_with_len}
use Rattle.std.specs.Option.{option_map}
use Rattle.std.proofs.lemmas.Bool.Decides.{nat_tests}
use Rattle.std.proofs.lemmas.List.{append_assoc, append-nil, length-append, take-append-le}
use Rattle.std.proofs.lemmas.Option.{none-some, same_Some, slice_get_within}
use Rattle.std.proofs.lemmas.Grind.{flat_map-append}
use Rattle.std.proofs.Math.Seq.{take-length}
use Rattle.pf_entry.specs.Lists.{Every}
use Rattle.pf_journal.specs.declared.layouts.Layout.TheVariants.{Plain, Three}
use Rattle.pf_entry.proofs.Lists.{every_more}
use Rattle.pf_script.specs.Lines.{is_volume}
use Rattle.pf_protocol.specs.Answers.{IsSetup}
use Rattle.pf_protocol.specs.declared.answers.Answer.{Answer}
use Rattle.pf_protocol.specs.declared.answers.Answer.TheVariants.{Done}
use Rattle.pf_live_session.specs.pf_group_network.proofs.Lists.{at_end, at_front, end_cases}
use Rattle.pf_live_session.specs.pf_group.specs.declared.six.Six.{Six}
use Rattle.pf_live_session.specs.pf_group.specs.Halves.{HasRisen}
use Rattle.pf_live_session.specs.pf_group.specs.GroupIs.{GroupIs}
use Rattle.pf_live_session.specs.pf_group.specs.Making as groups
use Rattle.pf_live_session.specs.pf_group.specs.Making.{making_answer, setup_with}
use Rattle.pf_live_session.specs.pf_group_rounds.specs.Halts.{Halt, failed_by}
use Rattle.pf_live_session.specs.pf_group_rounds.specs.Chunks.{made_chunk}
use Rattle.pf_live_session.specs.pf_group_rounds.specs.Agreeing.{TellsOfGroup, chunk_standing}
use Rattle.pf_live_session.specs.pf_group_rounds.proofs.FaultCounts.{made_paid}
use Rattle.pf_live_session.specs.pf_chunk.specs.Views.{ChunkIs, ChunkIsReady, run_of}
use Rattle.pf_asks.specs.Ports.{PortIs, new_port}
use Rattle.pf_live_session.specs.pf_chunk.specs.Runs.{ChunkRun, most_ports, mover_port, new_run}
use Rattle.pf_world_hosts.specs.pf_world_moments.specs.Parts.{AreQuiet}
use Rattle.pf_move.specs.declared.routes.Route.{Route}
use Rattle.pf_move.specs.Routes.{AreFirst, AreRouted, RoutesIs, between, between_in, home_in, home_of_chunk}
use Rattle.pf_volume.specs.Volumes.{Extent, IsVolume}
use Rattle.pf_world_hosts.specs.Steps.{FleetIs, HasMover, IsFleetOf}
use Rattle.pf_world_hosts.specs.Volumes.{host_at}
use Rattle.pf_live_session.specs.Sessions.{Session}
use Rattle.pf_world.specs.Worlds.{first_routes, volume_made, new_volume}
use Rattle.pf_world.specs.Views.{IsChunkOf, WorldIs, WorldOn, world_stands_at}
use Rattle.pf_world.specs.Disks.{six_list}
use Rattle.pf_world.specs.Making.{AreBegun, AreNew, HasAdded, IsNew, unless_done}
use Rattle.pf_world.specs.Steps.{VolumeIsMade}
use Rattle.pf_world.proofs.Sixes.{drop_sixes, length_sixes}

-- the numbers of a volume are those of its groups
eights : (n : ℕ) → n % 8 ≡ 0 → n ≡ 8 * (n / 8)
eights n even = omega (arith, even)

by_format : (two : Bool) (format names : ℕ) → (format == 2) ≡ two → (two || ((format == 1) && nat_le names 2)) ≡ true → ((format ≡ 1) × (names ≤ 2)) ⊎ (format ≡ 2)
by_format true format names is either = inr (grind (arith, nat_tests))
by_format false format names is either = inl (grind (arith, nat_tests), grind (arith, nat_tests))

pub volume_setup : (chunks sectors names format : ℕ) → is_volume chunks sectors names format ≡ true → IsSetup (setup_with sectors names format [])
volume_setup chunks sectors names format is = record {
  few_names = grind (arith, nat_tests);
  some_sectors = grind (arith, nat_tests);
  few_sectors = grind (arith, nat_tests);
  blocks = (sectors / 8, eights sectors (grind (arith, nat_tests)));
  format = by_format (format == 2) format names refl (grind (arith, nat_tests));
  window = refl;
}

pub some_chunks : (chunks sectors names format : ℕ) → is_volume chunks sectors names format ≡ true → chunks ≤ 8
some_chunks chunks sectors names format is = grind (arith, nat_tests)

-- one chunk more is halted, or is made as the answer says
pub answered_more : (xs failed : List ℕ) (answer other : Answer) → answer ≡ making_answer xs → other ≡ making_answer failed → unless_done answer other ≡ making_answer (xs ++ failed)
answered_more xs [] answer other was new = ap (unless_done answer) new ∙ was ∙ ap making_answer (sym (append-nil xs))
answered_more [] (i ∷ is) answer other was new = ap (unless_done answer) new
answered_more (x ∷ xs) (i ∷ is) answer other was new = ap (unless_done answer) new

-- a list that tells of a new group makes it
pub made_is : (halts : List Halt) (sectors names format k : ℕ) (told : Bool) (before : List (ℕ × ℕ)) (g : GroupIs) (answer : Answer) → groups.GroupIsMade k sectors names format told before g answer → TellsOfGroup halts g → made_chunk halts sectors names format k ≡ chunk_standing halts g
made_is halts sectors names format k told before g answer is tells =
    let number : g.number ≡ k = ap (λ (v : GroupIs). v.number) is.is in
    let setup : g.setup ≡ setup_with sectors names format is.failed = ap (λ (v : GroupIs). v.setup) is.is in
    let failed : failed_by halts k ≡ is.failed = ap (failed_by halts) (sym number) ∙ tells.making ∙ ap (λ s. s.failed) setup in
    let new : List ℕ → GroupIs = λ fs. record { number = k; told = told; setup = setup_with sectors names format fs; history = []; taken = []; faults = g.faults; time = g.time } in
    ap (λ fs. chunk_standing halts (new fs)) failed ∙ ap (chunk_standing halts) (sym is.is)

mapped : (halts : List Halt) (f : ℕ → ChunkRun) (first : ℕ) (cs : List ChunkIs) → ((k : ℕ) (c : ChunkIs) → slice_get cs k ≡ Some c → f (first + k) ≡ run_of halts c) → map f (range_with_len first (length cs)) ≡ map (run_of halts) cs
mapped halts f first [] each = refl
mapped halts f first (c ∷ cs) each =
    let here : f first ≡ run_of halts c = ap f (omega arith) ∙ each 0 c refl in
    let later = mapped halts f (first + 1) cs (λ k d there. ap f (omega arith) ∙ each (suc k) d there) in
    cc

-- the servers of all these chunks that could not be formatted
abbrev failed_in : List ChunkIs → List ℕ
failed_in cs = flat_map (λ c. c.group.setup.failed) cs

failed_more : (cs : List ChunkIs) (c : ChunkIs) → failed_in (cs ++ c ∷ []) ≡ failed_in cs ++ c.group.setup.failed
failed_more [] c = append-nil c.group.setup.failed
failed_more (d ∷ cs) c = ap (λ fs. d.group.setup.failed ++ fs) (failed_more cs c) ∙ sym (append_assoc d.group.setup.failed (failed_in cs) c.group.setup.failed)

-- a volume has the form that its sectors are counted by
pub volume_extent : (chunks sectors names format : ℕ) → is_volume chunks sectors names format ≡ true → IsVolume (record { chunks = chunks; sectors = sectors })
volume_extent chunks sectors names format is = record {
  some_chunks = grind (arith, nat_tests);
  few_chunks = grind (arith, nat_tests);
  some_sectors = grind (arith, nat_tests);
  few_sectors = grind (arith, nat_tests);
  blocks = (sectors / 8, eights sectors (grind (arith, nat_tests)));
}

replicate_get : {X : Type 0} (n : ℕ) (x : X) (k : ℕ) (y : X) → slice_get (replicate n x) k ≡ Some y → y ≡ x
replicate_get zero x k y there = absurd (none-some y there)
replicate_get (suc n) x zero y there = sym (same_Some x y there)
replicate_get (suc n) x (suc k) y there = replicate_get n x k y there

-- a new chunk has nothing to ask
new_quiet : (c : ChunkIs) → ((halts : List Halt) → run_of halts c ≡ new_run (chunk_standing halts c.group)) → (m : ℕ) (port : PortIs) → slice_get c.ports m ≡ Some port → port.ask ≡ None
new_quiet c new m port there =
    let ports : c.ports ≡ replicate most_ports new_port = ap (λ (r : ChunkRun). r.ports) (new []) in
    ap (λ (p : PortIs). p.ask) (replicate_get most_ports new_port m port (ap (λ ps. slice_get ps m) (sym ports) ∙ there))

-- Routes of a new volume

firsts : (n : ℕ) (rs : List Route) → ((k : ℕ) → k < length rs → slice_get rs k ≡ Some (record { group = n + k; epoch = 0 })) → rs ≡ map (λ k. record { group = k; epoch = 0 }) (range_with_len n (length rs))
firsts n [] own = refl
firsts n (r ∷ rs) own =
    let new : ℕ → Route = λ g. record { group = g; epoch = 0 } in
    let here : r ≡ new n = same_Some r (new n) (own 0 (omega arith) ∙ ap (λ g. Some (new g)) (omega arith)) in
    let later = firsts (n + 1) rs (λ k low. own (suc k) (omega (arith, low)) ∙ ap (λ g. Some (new g)) (omega arith)) in
    cc

pub first_is : (chunks : ℕ) (r : RoutesIs) → AreFirst chunks r → r ≡ first_routes chunks
first_is chunks r first =
    let new : ℕ → Route = λ g. record { group = g; epoch = 0 } in
    let rs : r.routes ≡ (first_routes chunks).routes = firsts 0 r.routes (λ k low. first.own k (omega (arith, low, first.count)) ∙ ap (λ g. Some (new g)) (omega arith)) ∙ ap (λ n. (first_routes n).routes) first.count in
    ap (λ (l : List Route). let x : RoutesIs = record { routes = l; moving = r.moving } in x) rs ∙ ap (λ m. let x : RoutesIs = record { routes = (first_routes chunks).routes; moving = m } in x) first.none

found_at : (o : Option Route) (g : ℕ) → option_map (λ (r : Route). r.group) o ≡ Some g → (route : Route) × (o ≡ Some route) × (route.group ≡ g)
found_at None g is = absurd (none-some g is)
found_at (Some route) g is = (route, refl, same_Some route.group g is)

-- each chunk is at home in the group of its own number
at_first : (chunks : ℕ) (r : RoutesIs) → AreFirst chunks r → (chunk group : ℕ) → home_of_chunk r chunk ≡ Some group → (group ≡ chunk) × (chunk < chunks)
at_first chunks r first chunk group home =
    let there = found_at (slice_get r.routes chunk) group (sym (ap (λ m. home_in r.routes m chunk) first.none) ∙ home) in
    let low : chunk < chunks = omega (arith, slice_get_within r.routes chunk there.0 there.1, first.count) in
    let own = same_Some there.0 (record { group = chunk; epoch = 0 }) (sym there.1 ∙ first.own chunk low) in
    (sym there.2 ∙ ap (λ (x : Route). x.group) own, low)

first_routed : (chunks : ℕ) (r : RoutesIs) → AreFirst chunks r → chunks ≤ 8 → AreRouted chunks r
first_routed chunks r first few =
    let none : between r ≡ None = ap (between_in r.routes) first.none in
    record {
      chunks = omega (arith, first.count, few);
      within = λ chunk group home. let at = at_first chunks r first chunk group home in omega (arith, at.0, at.1);
      apart = λ chunk other group one two. sym (at_first chunks r first chunk group one).0 ∙ (at_first chunks r first other group two).0;
      moving = subst (λ m. IfSome m (λ moving. moving.chunk < length r.routes)) (sym first.none) tt;
      old = subst (λ b. IfSome b (λ x. (x.from < chunks) × (x.from < x.to))) (sym none) tt;
      old_alone = λ chunk. subst (λ b. IfSome b (λ x. home_of_chunk r chunk ≡ Some x.from → ⊥)) (sym none) tt;
    }

-- no host yet, and no mover
no_hosts : (chunks : List ChunkIs) (fleet : FleetIs) → fleet.layout ≡ Plain → fleet.hosts ≡ [] → fleet.mover ≡ None → IsVolume fleet.volume → fleet.volume.chunks ≡ length chunks → AreFirst (length chunks) fleet.routes
    → ((k : ℕ) (c : ChunkIs) → slice_get chunks k ≡ Some c → (halts : List Halt) → run_of halts c ≡ new_run (chunk_standing halts c.group)) → IsFleetOf chunks fleet
no_hosts chunks fleet plain none no_mover volume count first new =
    let quiet : (m : ℕ) → AreQuiet m chunks = λ m k c there port its. new_quiet c (new k c there) m port its in
    let few : length chunks ≤ 8 = omega (arith, count, volume.few_chunks) in
    record {
      are_hosts = record {
        volume = volume;
        groups = few;
        count = count ∙ sym first.count;
        routed = first_routed (length chunks) fleet.routes first few;
        few = omega (arith, ap length none);
        anchors = λ three. let no : Plain ≡ Three = sym plain ∙ three in absurd (cc);
        room = λ some. absurd (some (ap length none));
        each = λ m host there. absurd (none-some host (sym (ap (λ hs. host_at hs m) none) ∙ there));
        free = λ m above below. quiet m;
      };
      mover = subst (λ o. HasMover chunks fleet.volume.sectors fleet.routes.moving (between fleet.routes) o) (sym no_mover)
          (subst (λ m. HasMover chunks fleet.volume.sectors m (between fleet.routes) None) (sym first.none) (quiet mover_port));
    }

new_stands : (halts : List Halt) (sessions : List Session) (chunks sectors names format : ℕ) (w : WorldIs) (runs : List ChunkRun) → w.fleet.volume ≡ record { chunks = chunks; sectors = sectors } → w.fleet.layout ≡ Plain → w.fleet.hosts ≡ [] → w.fleet.routes ≡ first_routes chunks → w.fleet.mover ≡ None
    → w.names ≡ names → w.format ≡ format → w.kind ≡ None → runs ≡ map (run_of halts) w.chunks
    → record { volume = new_volume (record { chunks = chunks; sectors = sectors }) runs; names = names; format = format; kind = None; sessions = sessions } ≡ world_stands_at halts sessions w
new_stands halts sessions chunks sectors names format w runs extent plain hosts routes mover names_are format_is kind same = cc

module _ {D : Type 0} (faults : D → ℕ) (told : Bool) where
  -- chunk k was made on its six disks
  pub record IsMadeOn (sectors names format : ℕ) (sixes : List (Six D)) (k : ℕ) (c : ChunkIs) : Type 0 where
    pub six : Six D
    pub there : slice_get sixes k ≡ Some six
    pub answer : Answer
    pub made : groups.GroupIsMade k sectors names format told (groups.six_faults faults six) c.group answer
    pub ready : ChunkIsReady c
    pub run : (halts : List Halt) → run_of halts c ≡ new_run (chunk_standing halts c.group)

  -- the first chunks are made
  pub record Begun (disks : List D) (sectors names format number : ℕ) (w : WorldOn D) (answer : Answer) : Type 0 where
    pub sectors_are : w.world.sectors ≡ sectors
    pub names_are : w.world.names ≡ names
    pub format_is : w.world.format ≡ format
    pub count : length w.world.chunks ≡ number
    pub layout_is : w.world.fleet.layout ≡ Plain
    pub hosts_are : w.world.fleet.hosts ≡ []
    pub calls_are : w.world.fleet.calls ≡ 0
    pub mover_is : w.world.fleet.mover ≡ None
    pub moves_are : w.world.moves ≡ 0
    pub kind_is : w.world.kind ≡ None
    pub passes_are : w.world.passes ≡ None
    pub sixes : List (Six D)
    pub many : length sixes ≡ number
    pub given : disks ≡ flat_map six_list sixes ++ w.spare
    pub each : (k : ℕ) (c : ChunkIs) → slice_get w.world.chunks k ≡ Some c → IsMadeOn sectors names format sixes k c
    pub answered : answer ≡ making_answer (failed_in w.world.chunks)

  pub begun_none : (disks spare : List D) (sectors names format : ℕ) (chunks : List ChunkIs) (fleet : FleetIs) → chunks ≡ [] → spare ≡ disks → fleet.layout ≡ Plain → fleet.hosts ≡ [] → fleet.calls ≡ 0 → fleet.mover ≡ None
      → Begun disks sectors names format 0 (record { world = record { sectors = sectors; names = names; format = format; chunks = chunks; fleet = fleet; moves = 0; kind = None; passes = None }; spare = spare }) Done
  begun_none disks spare sectors names format chunks fleet none all plain hosts calls mover = record {
    sectors_are = refl;
    names_are = refl;
    format_is = refl;
    count = ap length none;
    layout_is = plain;
    hosts_are = hosts;
    calls_are = calls;
    mover_is = mover;
    moves_are = refl;
    kind_is = refl;
    passes_are = refl;
    sixes = [];
    many = refl;
    given = sym all;
    each = λ k c there. let no : None ≡ Some c = sym (ap (λ (cs : List ChunkIs). slice_get cs k) none) ∙ there in absurd (cc);
    answered = sym (ap (λ (cs : List ChunkIs). making_answer (failed_in cs)) none);
  }

  -- one more
  pub begun_more : (disks : List D) (sectors names format number : ℕ) (old new : WorldOn D) (answer other : Answer) → Begun disks sectors names format number old answer → HasAdded faults told old other new → Begun disks sectors names format (number + 1) new (unless_done answer other)
  begun_more disks sectors names format number old new answer other b a =
      let chunks : new.world.chunks ≡ old.world.chunks ++ a.chunk ∷ [] = ap (λ (w : WorldIs). w.chunks) a.world in
      let failed : a.chunk.group.setup.failed ≡ a.made.made.failed = ap (λ (v : GroupIs). v.setup.failed) a.made.made.is in
      let Made = λ (n s m f : ℕ). groups.GroupIsMade n s m f told (groups.six_faults faults a.made.six) a.chunk.group other in
      let made_0 : Made number old.world.sectors old.world.names old.world.format = subst (λ n. Made n old.world.sectors old.world.names old.world.format) b.count a.made.made in
      let made_1 : Made number sectors old.world.names old.world.format = subst (λ n. Made number n old.world.names old.world.format) b.sectors_are made_0 in
      let made_2 : Made number sectors names old.world.format = subst (λ n. Made number sectors n old.world.format) b.names_are made_1 in
      let made_3 : Made number sectors names format = subst (λ n. Made number sectors names n) b.format_is made_2 in
      let Each = λ (cs : List ChunkIs). (k : ℕ) (c : ChunkIs) → slice_get cs k ≡ Some c → IsMadeOn sectors names format (b.sixes ++ a.made.six ∷ []) k c in
      record {
        sectors_are = ap (λ (w : WorldIs). w.sectors) a.world ∙ b.sectors_are;
        names_are = ap (λ (w : WorldIs). w.names) a.world ∙ b.names_are;
        format_is = ap (λ (w : WorldIs). w.format) a.world ∙ b.format_is;
        count = ap length chunks ∙ length-append old.world.chunks (a.chunk ∷ []) ∙ ap (λ n. n + 1) b.count;
        layout_is = ap (λ (w : WorldIs). w.fleet.layout) a.world ∙ b.layout_is;
        hosts_are = ap (λ (w : WorldIs). w.fleet.hosts) a.world ∙ b.hosts_are;
        calls_are = ap (λ (w : WorldIs). w.fleet.calls) a.world ∙ b.calls_are;
        mover_is = ap (λ (w : WorldIs). w.fleet.mover) a.world ∙ b.mover_is;
        moves_are = ap (λ (w : WorldIs). w.moves) a.world ∙ b.moves_are;
        kind_is = ap (λ (w : WorldIs). w.kind) a.world ∙ b.kind_is;
        passes_are = ap (λ (w : WorldIs). w.passes) a.world ∙ b.passes_are;
        sixes = b.sixes ++ a.made.six ∷ [];
        many = length-append b.sixes (a.made.six ∷ []) ∙ ap (λ n. n + 1) b.many;
        given = b.given ∙ ap (λ ds. flat_map six_list b.sixes ++ ds) a.made.given ∙ sym (append_assoc (flat_map six_list b.sixes) (six_list a.made.six) new.spare)
            ∙ ap (λ ds. ds ++ new.spare) (sym (flat_map-append six_list b.sixes (a.made.six ∷ [])));
        each = subst Each (sym chunks) (λ k c there. elim (end_cases old.world.chunks a.chunk k c there) [
          | inl before ↦ kept k c (b.each k c before)
          | inr last ↦ added k c (last.0 ∙ b.count) last.1 made_3
        ]);
        answered = answered_more (failed_in old.world.chunks) a.made.made.failed answer other b.answered a.made.made.answered
            ∙ ap making_answer (ap (λ fs. failed_in old.world.chunks ++ fs) (sym failed) ∙ sym (failed_more old.world.chunks a.chunk) ∙ ap failed_in (sym chunks));
      } where
        kept : (k : ℕ) (c : ChunkIs) → IsMadeOn sectors names format b.sixes k c → IsMadeOn sectors names format (b.sixes ++ a.made.six ∷ []) k c
        kept k c was = record { six = was.six; there = at_front b.sixes (a.made.six ∷ []) k was.six was.there; answer = was.answer; made = was.made; ready = was.ready; run = was.run }

        added : (k : ℕ) (c : ChunkIs) → k ≡ number → a.chunk ≡ c → groups.GroupIsMade number sectors names format told (groups.six_faults faults a.made.six) a.chunk.group other → IsMadeOn sectors names format (b.sixes ++ a.made.six ∷ []) k c
        added k c is same volume_made =
            let last : slice_get (b.sixes ++ a.made.six ∷ []) k ≡ Some a.made.six = ap (λ n. slice_get (b.sixes ++ a.made.six ∷ []) n) (is ∙ sym b.many) ∙ at_end b.sixes a.made.six in
            let new_made = subst (λ n. groups.GroupIsMade n sectors names format told (groups.six_faults faults a.made.six) a.chunk.group other) (sym is) volume_made in
            subst (λ (d : ChunkIs). IsMadeOn sectors names format (b.sixes ++ a.made.six ∷ []) k d) same (record { six = a.made.six; there = last; answer = other; made = new_made; ready = a.made.ready; run = a.made.run })

  module _ (disks : List D) (chunks sectors names format : ℕ) (w : WorldOn D) (answer : Answer) (b : Begun disks sectors names format chunks w answer) where
    -- the disks that no chunk has yet
    pub begun_spare : drop (6 * chunks) disks ≡ w.spare
    begun_spare = ap (λ ds. drop (6 * chunks) ds) b.given ∙ drop_sixes b.sixes w.spare chunks (sym b.many)

    pub begun_rest : drop (6 * length w.world.chunks) disks ≡ w.spare
    begun_rest = ap (λ n. drop (6 * n) disks) b.count ∙ begun_spare

    pub begun_low : 6 * length w.world.chunks ≤ length disks
    begun_low = omega (arith, b.count, b.many, length_sixes b.sixes, ap length b.given, length-append (flat_map six_list b.sixes) w.spare)

    chunk_made : (k : ℕ) (c : ChunkIs) → IsMadeOn sectors names format b.sixes k c → IsChunkOf w.world k c
    chunk_made k c m = record {
      number = ap (λ (v : GroupIs). v.number) m.made.is;
      failed = m.made.failed;
      setup = ap (λ (v : GroupIs). v.setup) m.made.is ∙ ap (λ s. setup_with s names format m.made.failed) (sym b.sectors_are) ∙ ap (λ n. setup_with w.world.sectors n format m.made.failed) (sym b.names_are) ∙ ap (λ f. setup_with w.world.sectors w.world.names f m.made.failed) (sym b.format_is);
      ready = m.ready;
    }

    -- all are made
    pub all_made : is_volume chunks sectors names format ≡ true → w.world.fleet.volume ≡ record { chunks = chunks; sectors = sectors } → AreFirst chunks w.world.fleet.routes → VolumeIsMade chunks sectors names format w.world answer
    all_made volume extent first = record {
      is_world = record {
        volume = ap (λ (v : Extent). is_volume v.chunks w.world.sectors w.world.names w.world.format) extent ∙ ap (λ s. is_volume chunks s w.world.names w.world.format) b.sectors_are ∙ ap (λ n. is_volume chunks sectors n w.world.format) b.names_are ∙ ap (is_volume chunks sectors names) b.format_is ∙ volume;
        each = λ k c there. chunk_made k c (b.each k c there);
        is_fleet = no_hosts w.world.chunks w.world.fleet b.layout_is b.hosts_are b.mover_is (subst IsVolume (sym extent) (volume_extent chunks sectors names format volume)) (ap (λ (v : Extent). v.chunks) extent ∙ sym b.count) (subst (λ n. AreFirst n w.world.fleet.routes) (sym b.count) first) (λ k c there. (b.each k c there).run);
        sectors_are = ap (λ (v : Extent). v.sectors) extent ∙ sym b.sectors_are;
        made = omega (arith, ap (λ (v : Extent). v.chunks) extent, b.count);
        few =
            let low : length w.world.chunks ≤ 8 = omega (arith, b.count, some_chunks chunks sectors names format volume) in
            let all : length w.world.chunks ≤ w.world.fleet.volume.chunks + w.world.moves = omega (arith, ap (λ (v : Extent). v.chunks) extent, b.count) in
            grind (arith, low, all);
      };
      count = (b.count, ap (λ (v : Extent). v.chunks) extent);
      numbers = (b.sectors_are, b.names_are, b.format_is);
      calls = b.calls_are;
      moves = b.moves_are;
      passes = b.passes_are;
      run = λ halts sessions tells. new_stands halts sessions chunks sectors names format w.world (map (λ k. new_run (made_chunk halts sectors names format k)) (range_with_len 0 chunks)) extent b.layout_is b.hosts_are (first_is chunks w.world.fleet.routes first) b.mover_is b.names_are b.format_is b.kind_is (
          ap (λ n. map (λ k. new_run (made_chunk halts sectors names format k)) (range_with_len 0 n)) (sym b.count)
          ∙ mapped halts (λ k. new_run (made_chunk halts sectors names format k)) 0 w.world.chunks (λ k c there.
          let m = b.each k c there in
          ap (λ n. new_run (made_chunk halts sectors names format n)) (omega arith) ∙ ap new_run (made_is halts sectors names format k told (groups.six_faults faults m.six) c.group m.answer m.made (tells k c there)) ∙ sym (m.run halts)));
      answered = b.answered;
    }

    new_chunk : (k : ℕ) (c : ChunkIs) → IsMadeOn sectors names format b.sixes k c → IsNew faults b.sixes k c
    new_chunk k c m =
        let failed : c.group.setup.failed ≡ m.made.failed = ap (λ (v : GroupIs). v.setup.failed) m.made.is in
        record {
          six = m.six;
          there = m.there;
          history = ap (λ (v : GroupIs). v.history) m.made.is;
          paid = made_paid k sectors names format told (groups.six_faults faults m.six) c.group m.answer m.made;
          few = subst (Every (λ i. i < 3)) (sym failed) (every_more (λ i. HasRisen i (groups.six_faults faults m.six) c.group.faults) (λ i. i < 3) (λ i risen. slice_get_within (groups.six_faults faults m.six) i risen.was risen.then_is) m.made.failed m.made.cause);
        }

    pub all_new : AreNew faults disks w.world
    all_new =
        let many : 6 * length w.world.chunks ≡ length (flat_map six_list b.sixes) = omega (arith, b.count, b.many, length_sixes b.sixes) in
        record {
          sixes = b.sixes;
          given = ap (λ ds. take (6 * length w.world.chunks) ds) b.given ∙ ap (λ n. take n (flat_map six_list b.sixes ++ w.spare)) many
              ∙ take-append-le (length (flat_map six_list b.sixes)) (flat_map six_list b.sixes) w.spare (omega arith) ∙ take-length (flat_map six_list b.sixes);
          each = λ k c there. new_chunk k c (b.each k c there);
        }

    -- the first of so many
    pub are_begun : (all : ℕ) → chunks ≤ all → AreBegun faults all sectors names format disks w.world.chunks
    are_begun all few = record {
      few = omega (arith, b.count, few);
      sixes = all_new.sixes;
      given = all_new.given;
      each = all_new.each;
      numbers = λ k c there.
          let m = b.each k c there in (
            ap (λ (v : GroupIs). v.number) m.made.is,
            ap (λ (v : GroupIs). v.setup) m.made.is ∙ ap (λ (v : GroupIs). setup_with sectors names format v.setup.failed) (sym m.made.is),
          );
    }
