-- In every run each group has as many events as were told of, or more.
use Rattle.std.proofs.Common.{◌≡◌, ℕ, suc, ◌/◌, ◌≤◌, ◌==◌, if◌then◌else◌, inl, inr, List, [], ◌∷◌, ◌++◌, length, Option, Some, None, slice_get, slice_set, arith, refl, sym, ap, subst, ◌∙◌, append-nil}
use Rattle.std.specs.Option.{option_map}
use Rattle.std.proofs.lemmas.Bool.{eqb-true}
use Rattle.std.proofs.lemmas.List.{append_assoc}
use Rattle.std.proofs.lemmas.Option.{none-some, same_Some}
use Rattle.pf_base.specs.declared.asks.Ask.{Ask}
use Rattle.pf_base.specs.declared.asks.Ask.TheVariants as asks
use Rattle.pf_base.specs.declared.asks.Reply.{Reply}
use Rattle.pf_base.specs.declared.asks.Reply.TheVariants.{Bytes, Written}
use Rattle.pf_entry.proofs.Cases.{by_test}
use Rattle.pf_entry.proofs.Lists.{set_there}
use Rattle.pf_law_movers.specs.pf_group_network.proofs.Lists.{set_length}
use Rattle.pf_law_movers.specs.pf_law_service.proofs.Places.{prefix_long}
use Rattle.pf_asks.specs.Ports.{PortIs}
use Rattle.pf_volume.specs.Volumes.{Extent}
use Rattle.pf_move.specs.declared.mover.MoverAsk.{MoverAsk}
use Rattle.pf_move.specs.declared.mover.MoverAsk.TheVariants.{Reading, Writing}
use Rattle.pf_move.specs.declared.mover.MoveNext.{MoveNext}
use Rattle.pf_move.specs.declared.mover.MoveNext.TheVariants.{Read, Switch, Write}
use Rattle.pf_move.specs.declared.routes.Moving.{Moving}
use Rattle.pf_move.specs.declared.routes.Route.{Route}
use Rattle.pf_move.specs.Movers.{MoverIs, MoverStep, new_mover, step}
use Rattle.pf_move.specs.Routes.{Between, RoutesIs, between, between_in, home_of_chunk}
use Rattle.pf_report.specs.Moves.{moved_text}
use Rattle.pf_report.specs.Texts.{event_line}
use Rattle.pf_world.specs.pf_group_rounds.specs.Halts.{Halt}
use Rattle.pf_world.specs.pf_chunk.specs.Driving.{Driven, driven}
use Rattle.pf_world.specs.pf_chunk.specs.Runs.{ChunkRun, left_by_ports, most_ports, mover_port, taking_ports}
use Rattle.pf_world.specs.pf_world_moments.specs.Moments.{Carries, Hands, Heard, Moment, Moves as MovesTo, Writes, Acts}
use Rattle.pf_world.specs.pf_world_moments.specs.Hosts.{Drove, drove, drove_of, event_count, handed_moments, put_at}
use Rattle.pf_world.specs.pf_world_hosts.specs.Volumes.{VolumeRun, asked_group, asks_in, carries, carries_on, moved_from, mover_group, moves_from}
use Rattle.pf_world.specs.pf_world_hosts.specs.Volumes as volumes
use Rattle.pf_world.specs.declared.kind.Kind.{Kind}
use Rattle.pf_world.specs.pf_live_session.specs.Sessions.{Session}
use Rattle.pf_world.specs.declared.line.Line.{Line}
use Rattle.pf_world.specs.Reports.{world_run}
use Rattle.pf_world.specs.Worlds.{volume_made}
use Rattle.pf_law_movers.specs.Carrying.{group_asked}
use Rattle.pf_law_movers.specs.Handing.{reach_at, reached}
use Rattle.pf_law_movers.specs.Movers.{role_of_reply}
use Rattle.pf_law_movers.specs.Pasts.{is_some_of}
use Rattle.pf_law_runs.specs.Scripts.{IsScript}
use Rattle.pf_law_runs.proofs.MoverStepsTold.{asked_by, step_asks}
use Rattle.pf_law_movers.proofs.Each.{AreEach, none_told, one_more}
use Rattle.pf_law_runs.proofs.MoverStepParts.{hauled_so, step_chunk}
use Rattle.pf_law_movers.proofs.ToldHearings.{AllGrow, grow_more, grow_on, grow_set, put_grow}
use Rattle.pf_law_movers.proofs.HistoryGrowth.{grows_refl}
use Rattle.pf_law_runs.proofs.GroupPlaces.{came_from, made_there, new_placed, new_port_asks, placed_on, placed_ports, placed_there, rehomed_at, with_both}
use Rattle.pf_law_runs.proofs.KeptByPorts.{IsKeptByPorts, IsSaid}
use Rattle.pf_law_movers.proofs.PortSteps.{IsPortStep, drives_step}
use Rattle.pf_law_movers.proofs.Ports.{ArePlaced, drives_at, put_counts}
use Rattle.pf_law_movers.proofs.GroupsToldUpTo.{reached_low}
use Rattle.pf_law_runs.proofs.RoutesTold.{IsRouted, RoutedOf, began_routed, carries_routed, chunk_moving, handed_still, new_is, none_moving, same_routed, said_still, source_of, still_routed}
use Rattle.pf_law_movers.proofs.ToldRoutes.{old_one}
use Rattle.pf_law_runs.proofs.ScriptRuns.{new_group}
use Rattle.pf_law_runs.proofs.FirstRoutes.{new_routes}
use Rattle.pf_law_runs.proofs.KeptThroughout.{HoldsOf, IsKeptByParts, throughout}
use Rattle.pf_law_movers.proofs.PortTraces.{is_of}
use Rattle.pf_law_runs.proofs.MoverPending.{AreFree, AreWanted, carries_wanted, free_of, hauled_free, hauled_role, hauls_wanted, put_apart, role_asked, same_ports, wanted_still}

-- What was told of a group's history

-- a moment tells of no more than there is
abbrev pub IsLow : List ChunkRun → (k : ℕ) → (before : List Moment) → Moment → Type 0
IsLow chunks k before y = reach_at k before y ≤ event_count (slice_get chunks k)

abbrev pub AreLow : List ChunkRun → List Moment → Type 0
AreLow chunks told = (k : ℕ) → AreEach (IsLow chunks k) told

said_low : (chunks : List ChunkRun) (k : ℕ) (before : List Moment) (y : Moment) → IsSaid y → IsLow chunks k before y
said_low chunks k before (Writes text) said = omega arith
said_low chunks k before (Acts who act) said = omega arith
said_low chunks k before (Hands m g place) said = absurd said
said_low chunks k before (MovesTo chunk to) said = absurd said
said_low chunks k before (Carries chunk heard next) said = absurd said

one_low : (chunks : List ChunkRun) (told : List Moment) (y : Moment) → AreLow chunks told → ((k : ℕ) → IsLow chunks k told y) → AreLow chunks (told ++ y ∷ [])
one_low chunks told y are new k = one_more (IsLow chunks k) told y (are k) (new k)

line_low : (chunks : List ChunkRun) (told : List Moment) (text : List ℕ) → AreLow chunks told → AreLow chunks (told ++ Writes text ∷ [])
line_low chunks told text are = one_low chunks told (Writes text) are (λ k. said_low chunks k told (Writes text) tt)

none_low : (chunks : List ChunkRun) (told : List Moment) → AreLow chunks told → AreLow chunks (told ++ [])
none_low chunks told are = subst (AreLow chunks) (sym (append-nil told)) are

-- groups only grow
events_grow : (old new : List ChunkRun) → AllGrow old new → (k : ℕ) → event_count (slice_get old k) ≤ event_count (slice_get new k)
events_grow old new grow k = by (slice_get old k) refl
  where
    by : (o : Option ChunkRun) → slice_get old k ≡ o → event_count o ≤ event_count (slice_get new k)
    by None there = omega arith
    by (Some c) there =
        let to = grow k c there in
        let more = prefix_long c.group.history to.now.group.history to.grows.later in
        subst (λ o. length c.group.history ≤ event_count o) (sym to.there) more

low_grown : (old new : List ChunkRun) (told : List Moment) → AllGrow old new → AreLow old told → AreLow new told
low_grown old new told grow are k place y at = let was = are k place y at in let more = events_grow old new grow k in omega (arith, was, more)

-- A step of a port

module _ (chunks : List ChunkRun) (told : List Moment) (are : AreLow chunks told) (m k : ℕ) (c : ChunkRun) (d : Driven) (there : slice_get chunks k ≡ Some c) (s : IsPortStep m c d) where
  abbrev new : List ChunkRun
  new = slice_set chunks k d.chunk

  hands_low : (place : ℕ) → d.place ≡ Some place → (j : ℕ) → IsLow new j told (Hands m k place)
  hands_low place is j =
      by_test (k == j) (λ b. (if b then suc place else 0) ≤ event_count (slice_get new j))
      (λ same. subst (λ o. suc place ≤ event_count o) (sym (ap (slice_get new) (sym (eqb-true k j same)) ∙ set_there chunks k c d.chunk there)) (let low = s.hands place is in omega (arith, low)))
      (λ _. omega arith)

  step_low : AreLow new (told ++ handed_moments m k d.place)
  step_low = by d.place refl
    where
      grown : AreLow new told
      grown = low_grown chunks new told (grow_set chunks k c d.chunk there s.grows) are

      by : (o : Option ℕ) → d.place ≡ o → AreLow new (told ++ handed_moments m k o)
      by None is = none_low new told grown
      by (Some place) is = one_low new told (Hands m k place) grown (hands_low place is)

-- What is kept

pub record AreWithin (count : ℕ) (r : RoutesIs) (mover : Option MoverIs) (chunks : List ChunkRun) (told : List Moment) : Type 0 where
  pub placed : ArePlaced chunks
  pub routed : IsRouted count r mover chunks told
  pub wanted : AreWanted r mover chunks
  pub low : AreLow chunks told

abbrev pub Within : Extent → RoutesIs → Option MoverIs → List ChunkRun → List Moment → Type 0
Within e r mover chunks told = AreWithin e.chunks r mover chunks told

within_ports : (kind : Option Kind) (count : ℕ) (r : RoutesIs) (mover : Option MoverIs) → IsKeptByPorts kind (AreWithin count r mover)
within_ports kind count r mover = record {
  telling = λ chunks told y said is. record {
    placed = is.placed;
    routed = still_routed count r mover chunks chunks told (y ∷ []) refl (said_still y said, tt) is.routed;
    wanted = is.wanted;
    low = one_low chunks told y is.low (λ k. said_low chunks k told y said);
  };
  growing = λ chunks told k c d at ports grows adds is.
      let n = d.group.number in
      let there : slice_get chunks n ≡ Some c = ap (slice_get chunks) (grows.number ∙ (is.placed k c at).number) ∙ at in record {
        placed = (placed_ports kind).growing chunks told k c d at ports grows adds is.placed;
        routed = same_routed count r mover chunks (slice_set chunks n d) told (set_length chunks n d) is.routed;
        wanted = wanted_still r mover chunks (slice_set chunks n d) (same_ports mover_port chunks n c d there (ap (λ ps. slice_get ps mover_port) ports)) is.wanted;
        low = low_grown chunks (slice_set chunks n d) told (grow_set chunks n c d there grows) is.low;
      };
  putting = λ chunks told group m ask small is.
      let new = put_at chunks group m ask in record {
        placed = (placed_ports kind).putting chunks told group m ask small is.placed;
        routed = same_routed count r mover chunks new told (put_counts m ask chunks group) is.routed;
        wanted = wanted_still r mover chunks new (put_apart mover_port m ask (λ same. omega (arith, small, same)) chunks group) is.wanted;
        low = low_grown chunks new told (put_grow chunks group m ask) is.low;
      };
  stepping = λ chunks told k c m d small at s is.
      let new = slice_set chunks k d.chunk in record {
        placed = (placed_ports kind).stepping chunks told k c m d small at s is.placed;
        routed = still_routed count r mover chunks new told (handed_moments m k d.place) (set_length chunks k d.chunk) (handed_still m k d.place) is.routed;
        wanted = wanted_still r mover chunks new (same_ports mover_port chunks k c d.chunk at (s.others mover_port (λ same. omega (arith, small, same)))) is.wanted;
        low = step_low chunks told is.low m k c d at s;
      };
}

-- The mover goes on

module _ (v : VolumeRun) (told : List Moment) (is : HoldsOf Within v told) (free : AreFree v.chunks) (old mover : MoverIs) (its : v.mover ≡ Some old) (same : mover.chunk ≡ old.chunk) (heard : Option Heard)
    (new : (next : MoveNext) (k : ℕ) → IsLow v.chunks k told (Carries mover.chunk heard next)) where
  asks_low : (next : MoveNext) (group : Option ℕ) (ask : Ask) → AreLow (put_at v.chunks group mover_port ask) (told ++ Carries mover.chunk heard next ∷ [])
  asks_low next group ask = low_grown v.chunks (put_at v.chunks group mover_port ask) (told ++ Carries mover.chunk heard next ∷ []) (put_grow v.chunks group mover_port ask) (one_low v.chunks told (Carries mover.chunk heard next) is.low (new next))

  carries_low : (next : MoveNext) → AreLow (carries v mover heard next).volume.chunks (told ++ (carries v mover heard next).told)
  carries_low (Read span) = asks_low (Read span) (option_map (λ (b : Between). b.from) (between v.routes)) (asks.Read mover.chunk span)
  carries_low (Write span sectors) = asks_low (Write span sectors) (option_map (λ (b : Between). b.to) (between v.routes)) (asks.Write mover.chunk span sectors)
  carries_low Switch =
      let y : Moment = Carries mover.chunk heard Switch in
      let text = event_line (moved_text mover.chunk) in
      subst (AreLow v.chunks) (append_assoc told (y ∷ []) (Writes text ∷ [])) (line_low v.chunks (told ++ y ∷ []) text (one_low v.chunks told y is.low (new Switch)))

  carries_within : (next : MoveNext) → mover.asked ≡ asked_by next → HoldsOf Within (carries v mover heard next).volume (told ++ (carries v mover heard next).told)
  carries_within next asked = record {
    placed = placed_on v mover heard next is.placed;
    routed = carries_routed v told is.routed old mover its same heard next;
    wanted = carries_wanted v mover heard next free asked;
    low = carries_low next;
  }

-- a reply is of the group that the mover asked
module _ (v : VolumeRun) (told : List Moment) (is : RoutedOf v told) (old : MoverIs) (its : v.mover ≡ Some old) where
  abbrev moving_is : (its : Moving) × (v.routes.moving ≡ Some its) × (old.chunk ≡ its.chunk)
  moving_is = chunk_moving v told is old its

  abbrev moving : Moving
  moving = moving_is.0

  route : (route : Route) × (slice_get v.routes.routes moving.chunk ≡ Some route)
  route = old_one v.extent.chunks (length v.chunks) v.routes told is.routes moving moving_is.1

  abbrev two : Between
  two = record { from = route.0.group; to = moving.to }

  between_is : between v.routes ≡ Some two
  between_is =
      ap (between_in v.routes.routes) moving_is.1
      ∙ ap (λ o. option_map (λ (g : ℕ). let b : Between = record { from = g; to = moving.to } in b) (option_map (λ (x : Route). x.group) o)) route.1

  group_is : (k : ℕ) → mover_group v ≡ Some k → (role : MoverAsk) → role_asked v.mover ≡ Some role → asked_group two role ≡ k
  group_is k group role asked = same_Some (asked_group two role) k (sym (ap (asks_in (between v.routes)) asked ∙ ap (λ b. asks_in b (Some role)) between_is) ∙ group)

  asked_at : (k : ℕ) → mover_group v ≡ Some k → (reply : Reply) → role_asked v.mover ≡ Some (role_of_reply reply) → group_asked told moving.chunk reply ≡ Some k
  asked_at k group (Bytes sectors) asked = (is.routes.served moving.chunk route.0 route.1).0 ∙ ap (λ g. Some g) (group_is k group Reading asked)
  asked_at k group Written asked = (is.routes.to moving moving_is.1).1 ∙ ap (λ g. Some g) (group_is k group Writing asked)

  asked_is : (chunk : ℕ) → chunk ≡ old.chunk → (k : ℕ) → mover_group v ≡ Some k → (reply : Reply) → role_asked v.mover ≡ Some (role_of_reply reply) → group_asked told chunk reply ≡ Some k
  asked_is chunk same k group reply asked = ap (λ c. group_asked told c reply) (same ∙ moving_is.2) ∙ asked_at k group reply asked

-- whose history had come so far when the mover heard it
heard_low : (chunks : List ChunkRun) (told : List Moment) (chunk : ℕ) (heard : Heard) (k : ℕ) → group_asked told chunk heard.reply ≡ Some k → heard.by ≡ event_count (slice_get chunks k) → (next : MoveNext) (j : ℕ) → IsLow chunks j told (Carries chunk (Some heard) next)
heard_low chunks told chunk heard k of by_is next j =
    let o = group_asked told chunk heard.reply in
    by_test (is_some_of o j) (λ b. is_some_of o j ≡ b → (if b then heard.by else 0) ≤ event_count (slice_get chunks j))
    (λ _ at. subst (λ i. heard.by ≤ event_count (slice_get chunks i)) (same_Some k j (sym of ∙ is_of o j at)) (omega (arith, by_is))) (λ _ _. omega arith) refl

-- A chunk begins to move

module _ (chunks : List ChunkRun) (h : ℕ) (source new : ChunkRun) (there : slice_get chunks h ≡ Some source) where
  pub grow_both : AllGrow chunks (with_both chunks h source new)
  grow_both =
      let left = slice_set chunks h (left_by_ports source) in
      grow_on chunks left (with_both chunks h source new) (grow_set chunks h source (left_by_ports source) there (grows_refl source.group)) (grow_more left (taking_ports source new))

  free_both : AreFree chunks → AreFree (with_both chunks h source new)
  free_both free k port ask p pending = elim (came_from chunks h source new k p.group p.there) [
    | inl here ↦ none-some ask (sym (new_port_asks most_ports mover_port port (ap (λ (x : ChunkRun). slice_get x.ports mover_port) here.1 ∙ p.its)) ∙ pending)
    | inr more ↦ elim more [
      | inl old ↦ free k port ask (record { group = p.group; there = old.1; its = p.its }) pending
      | inr last ↦
          let was = rehomed_at source.ports mover_port port (ap (λ (x : ChunkRun). slice_get x.ports mover_port) last.1 ∙ p.its) in
          free h was.0 ask (record { group = source; there = there; its = was.1 }) (ap (λ (q : PortIs). q.ask) (sym was.2) ∙ pending)
    ]
  ]

-- no chunk is moving, and the mover asks nothing
no_role : (o : Option MoverAsk) → asks_in None o ≡ None
no_role None = refl
no_role (Some role) = refl

rests_free : (r : RoutesIs) (mover : Option MoverIs) (chunks : List ChunkRun) → r.moving ≡ None → AreWanted r mover chunks → AreFree chunks
rests_free r mover chunks rests are = free_of r mover chunks (ap (λ o. asks_in (between_in r.routes o) (role_asked mover)) rests ∙ no_role (role_asked mover)) are

-- Runs

module _ (halts : List Halt) where
  drove_low : (chunks : List ChunkRun) (told : List Moment) (m k : ℕ) (o : Option ChunkRun) → slice_get chunks k ≡ o → AreLow chunks told → AreLow (drove_of halts chunks m k o).chunks (told ++ (drove_of halts chunks m k o).told)
  drove_low chunks told m k None there are = none_low chunks told are
  drove_low chunks told m k (Some c) there are =
      let d : Driven = driven halts c m in
      subst (AreLow (slice_set chunks k d.chunk)) (append_assoc told (handed_moments m k d.place) (Writes d.text ∷ []))
      (line_low (slice_set chunks k d.chunk) (told ++ handed_moments m k d.place) d.text (step_low chunks told are m k c d there (drives_step c m halts)))

  -- the mover's port takes a step
  pub drives_within : (v : VolumeRun) (told : List Moment) (k : ℕ) → mover_group v ≡ Some k → HoldsOf Within v told → HoldsOf Within (record v { chunks = (drove halts v.chunks mover_port k).chunks }) (told ++ (drove halts v.chunks mover_port k).told)
  drives_within v told k group is =
      let d : Drove = drove halts v.chunks mover_port k in
      let drives = drives_at halts v.chunks mover_port k in record {
        placed = drives.placed is.placed;
        routed = still_routed v.extent.chunks v.routes v.mover v.chunks d.chunks told d.told drives.count drives.still is.routed;
        wanted = hauls_wanted halts v.routes v.mover v.chunks is.wanted k;
        low = drove_low v.chunks told mover_port k (slice_get v.chunks k) refl is.low;
      }

  -- and is answered
  pub answers_within : (v : VolumeRun) (told : List Moment) (k : ℕ) (old : MoverIs) (reply : Reply) → mover_group v ≡ Some k → v.mover ≡ Some old → (drove halts v.chunks mover_port k).reply ≡ Some reply → HoldsOf Within v told
      → let d : Drove = drove halts v.chunks mover_port k in let t : volumes.VolumeTold = carries_on (record v { chunks = d.chunks }) (Some (record { reply = reply; by = event_count (slice_get d.chunks k) })) (step old (Some reply)) in HoldsOf Within t.volume ((told ++ d.told) ++ t.told)
  answers_within v told k old reply group there replied is =
      let d : Drove = drove halts v.chunks mover_port k in
      let w : VolumeRun = record v { chunks = d.chunks } in
      let all = told ++ d.told in
      let heard : Heard = record { reply = reply; by = event_count (slice_get d.chunks k) } in
      let s : MoverStep = step old (Some reply) in
      let same = step_chunk old (Some reply) in
      let on = drives_within v told k group is in
      let of = asked_is w all on.routed old there s.mover.chunk same k group reply (hauled_role halts v.routes v.mover v.chunks is.wanted k reply replied) in
      carries_within w all on (hauled_free halts v.routes v.mover v.chunks is.wanted k group reply replied) old s.mover there same (Some heard) (heard_low d.chunks all s.mover.chunk heard k of refl) s.next (step_asks old (Some reply))

  moves_within : (v : VolumeRun) (told : List Moment) (names format chunk : ℕ) (o : Option ℕ) → v.routes.moving ≡ None → home_of_chunk v.routes chunk ≡ o → HoldsOf Within v told
      → let t : volumes.VolumeTold = moves_from chunk o (new_group halts v names format) v in HoldsOf Within t.volume (told ++ t.told)
  moves_within v told names format chunk None rests at is = subst (HoldsOf Within v) (sym (append-nil told)) is
  moves_within v told names format chunk (Some h) rests at is =
      let new = new_group halts v names format in
      let source = source_of v told is.routed chunk h at in
      let both : List ChunkRun = with_both v.chunks h source.0 new in
      let grow = grow_both v.chunks h source.0 new source.1 in
      let free = free_both v.chunks h source.0 new source.1 (rests_free v.routes v.mover v.chunks rests is.wanted) in
      let m : MoverIs = new_mover chunk (v.extent.sectors / 8) in
      let s : MoverStep = step m None in
      let moving : Moving = record { chunk = chunk; to = length v.chunks } in
      let w : List ChunkRun → VolumeRun = λ chunks. record v { chunks = chunks; routes = record v.routes { moving = Some moving }; mover = Some m } in
      let y : Moment = MovesTo chunk (length v.chunks) in
      let first : HoldsOf Within (w both) (told ++ y ∷ []) = record {
        placed = placed_there v.chunks h source.0 new source.1 refl is.placed;
        routed = began_routed v told is.routed chunk h at rests new m refl;
        wanted = λ k port ask p pending. absurd (free k port ask p pending);
        low = one_low both told y (low_grown v.chunks both told grow is.low) (λ k. omega arith);
      } in
      let done = carries_within (w both) (told ++ y ∷ []) first free m s.mover refl (step_chunk m None) None (λ next k. omega arith) s.next (step_asks m None) in
      let t : volumes.VolumeTold = carries_on (moved_from v chunk h new) None s in
      subst (HoldsOf Within t.volume) (append_assoc told (y ∷ []) t.told)
      (subst (λ (chunks : List ChunkRun). let x : volumes.VolumeTold = carries_on (w chunks) None s in HoldsOf Within x.volume ((told ++ y ∷ []) ++ x.told)) (sym (new_is v told is.routed chunk h at new)) done)

  pub all_within : IsKeptByParts halts (λ kind. Within)
  all_within = record {
    deciding = λ kind e r mover chunks told is. is;
    ports = λ kind e r mover. within_ports kind e.chunks r mover;
    carrying = λ kind v told is. hauled_so halts (HoldsOf Within) drives_within answers_within v told is;
    moving = λ v told names format chunk free is. moves_within v told names format chunk (home_of_chunk v.routes chunk) (none_moving v.routes.moving free) refl is;
  }

  pub new_within : (sessions : List Session) (chunks sectors names format : ℕ) → HoldsOf Within (volume_made halts sessions chunks sectors names format).volume []
  new_within sessions chunks sectors names format = record {
    placed = new_placed halts sessions chunks sectors names format;
    routed = record { routes = new_routes halts sessions chunks sectors names format; pair = tt };
    wanted = λ k port ask p pending.
        let is = made_there halts sessions chunks sectors names format k p.group p.there in
        absurd (none-some ask (sym (new_port_asks most_ports mover_port port (ap (λ (x : ChunkRun). slice_get x.ports mover_port) is ∙ p.its)) ∙ pending));
    low = λ k. none_told (IsLow (volume_made halts sessions chunks sectors names format).volume.chunks k);
  }

  -- no history is told of further than it goes
  pub reached_all : (sessions : List Session) (lines : List Line) → IsScript lines → (k : ℕ) (c : ChunkRun) → slice_get (world_run halts sessions lines).world.volume.chunks k ≡ Some c
      → reached k (world_run halts sessions lines).told ≤ length c.group.history
  reached_all sessions lines script k c there =
      let run = world_run halts sessions lines in
      let is = throughout halts (λ kind. Within) all_within new_within sessions lines script in
      subst (λ o. reached k run.told ≤ event_count o) there
      (reached_low k (event_count (slice_get run.world.volume.chunks k)) run.told (is.low k))
