-- A step of the mover keeps what is known of a run.
use Rattle.std.proofs.Common.{◌≡◌, ℕ, List, [], ◌∷◌, ◌++◌, length, Option, Some, None, slice_get, refl, sym, ap, subst, ◌∙◌, append-nil}
use Rattle.std.specs.Option.{option_and_then, option_map}
use Rattle.std.proofs.lemmas.List.{append_assoc}
use Rattle.std.proofs.lemmas.Option.{none-some, same_Some}
use Rattle.pf_base.specs.Asks.{chunk_of}
use Rattle.pf_base.specs.declared.asks.Ask.{Ask}
use Rattle.pf_base.specs.declared.asks.Ask.TheVariants as asks
use Rattle.pf_base.specs.declared.asks.Reply.{Reply}
use Rattle.pf_move.specs.declared.mover.MoverAsk.{MoverAsk}
use Rattle.pf_move.specs.declared.mover.MoverAsk.TheVariants.{Reading, Writing}
use Rattle.pf_move.specs.declared.mover.MoveNext.{MoveNext}
use Rattle.pf_move.specs.declared.mover.MoveNext.TheVariants.{Read, Switch, Write}
use Rattle.pf_move.specs.declared.routes.Moving.{Moving}
use Rattle.pf_move.specs.Movers.{MoverIs, MoverStep, step}
use Rattle.pf_move.specs.Routes.{Between, RoutesIs, between, between_in, routes_switched}
use Rattle.pf_report.specs.Moves.{moved_text}
use Rattle.pf_report.specs.Texts.{event_line}
use Rattle.pf_world.specs.pf_group_rounds.specs.Halts.{Halt}
use Rattle.pf_world.specs.pf_chunk.specs.Runs.{ChunkRun, mover_port}
use Rattle.pf_world.specs.pf_world_moments.specs.Hosts.{Drove, drove, event_count, put_at}
use Rattle.pf_world.specs.pf_world_moments.specs.Moments.{Carries, Heard, Moment, Writes}
use Rattle.pf_world.specs.pf_world_hosts.specs.Volumes.{VolumeRun, asked_group, asks_in, carries, mover_group, mover_hands, mover_hands_to, mover_hears_in, mover_replied, mover_steps, mover_steps_at}
use Rattle.pf_world.specs.pf_world_hosts.specs.Volumes as volumes
use Rattle.pf_law_movers.specs.Movers.{ask_to_carry, role_of_ask}
use Rattle.pf_law_runs.proofs.MoverStepsTold.{Bears, IsBearing, IsFree, ask_bears, ask_so, asked_by, back_then, between_is, drove_so, free_then, group_for, none_bears, step_asks, switch_so}
use Rattle.pf_law_runs.proofs.MoverStepParts.{step_chunk}
use Rattle.pf_law_movers.proofs.ToldHearings.{IsBackIf}
use Rattle.pf_law_runs.proofs.MoverPortsKept.{AreSo}
use Rattle.pf_law_runs.proofs.GroupPlaces.{placed_on}
use Rattle.pf_law_movers.proofs.Ports.{ArePlaced, IsUnsent, drives_at, put_unsent}
use Rattle.pf_law_runs.proofs.RoutesTold.{IsPair, IsRouted, RoutedOf, carries_routed, paired, still_routed}
use Rattle.pf_law_movers.proofs.ToldRoutes.{switched_is}

-- what is known of a volume's parts in a run: the routes are as they were told, groups stand at their numbers, and the mover's ports and moments are so
pub record AreBorne (count : ℕ) (r : RoutesIs) (mover : Option MoverIs) (chunks : List ChunkRun) (told : List Moment) : Type 0 where
  pub routed : IsRouted count r mover chunks told
  pub placed : ArePlaced chunks
  pub so : AreSo count told chunks
  pub bears : IsBearing count told chunks r r.moving mover

abbrev pub IsBorne : VolumeRun → List Moment → Type 0
IsBorne v told = AreBorne v.extent.chunks v.routes v.mover v.chunks told

-- the mover's pending ask was not handed on yet
abbrev pub IsUnsentIn : VolumeRun → Type 0
IsUnsentIn v = (k : ℕ) → mover_group v ≡ Some k → IsUnsent mover_port k v.chunks

-- The mover goes on

module _ (v : VolumeRun) (told : List Moment) (routed : RoutedOf v told) (placed : ArePlaced v.chunks) (so : AreSo v.extent.chunks told v.chunks) (moving : Moving) (moves : v.routes.moving ≡ Some moving)
    (f : IsFree v.extent.chunks told v.chunks v.routes moving) (old mover : MoverIs) (was : v.mover ≡ Some old) (same : mover.chunk ≡ old.chunk) (heard : Option Heard) (back : IsBackIf v.extent.chunks v.chunks told moving.chunk heard) where
  abbrev count : ℕ
  count = v.extent.chunks

  its : mover.chunk ≡ moving.chunk
  its = let pair = paired v.routes.moving old (subst (IsPair v.routes.moving) was routed.pair) in same ∙ pair.2 ∙ ap (λ (x : Moving). x.chunk) (same_Some pair.0 moving (sym pair.1 ∙ moves))

  groups : between v.routes ≡ Some (record { from = f.from; to = moving.to })
  groups = between_is count v told routed.routes so moving moves f mover its heard back

  -- the group that it asks next
  group_asked : (role : MoverAsk) → mover.asked ≡ Some role → asks_in (between v.routes) mover.asked ≡ Some (group_for f.from moving.to role)
  group_asked Reading asked = ap (asks_in (between v.routes)) asked ∙ ap (λ b. asks_in b (Some Reading)) groups
  group_asked Writing asked = ap (asks_in (between v.routes)) asked ∙ ap (λ b. asks_in b (Some Writing)) groups

  module _ (next : MoveNext) (role : MoverAsk) (asked : mover.asked ≡ Some role) (asks_so : asked_by next ≡ Some role) (ask : Ask) (of : chunk_of ask ≡ moving.chunk) (of_role : role_of_ask ask ≡ role) (to_carry : ask_to_carry moving.chunk next ≡ Some ask)
      (group : Option ℕ) (group_is : group ≡ Some (group_for f.from moving.to role)) (routed_so : IsRouted count v.routes (Some mover) (put_at v.chunks group mover_port ask) (told ++ Carries mover.chunk heard next ∷ [])) (placed_so : ArePlaced (put_at v.chunks group mover_port ask)) where
    abbrev asking : VolumeRun
    asking = record v { chunks = put_at v.chunks group mover_port ask; mover = Some mover }

    abbrev all : List Moment
    all = told ++ Carries mover.chunk heard next ∷ []

    asks_borne : IsBorne asking all × IsUnsentIn asking
    asks_borne = (
      record {
        routed = routed_so;
        placed = placed_so;
        so = subst (λ o. AreSo count all (put_at v.chunks o mover_port ask)) (sym group_is) (ask_so count v told routed.routes so moving moves f mover its heard back next role asks_so ask of of_role to_carry);
        bears = subst (λ m. IsBearing count all (put_at v.chunks group mover_port ask) v.routes m (Some mover)) (sym moves)
            (subst (λ o. Bears count all (put_at v.chunks o mover_port ask) v.routes moving mover) (sym group_is) (ask_bears count v told routed.routes so moving moves f mover its heard back next role asks_so ask of of_role to_carry asked));
      },
      λ k here. put_unsent mover_port ask v.chunks group k (group_is ∙ sym (group_asked role asked) ∙ here),
    )

  pub went : (next : MoveNext) → mover.asked ≡ asked_by next → let t : volumes.VolumeTold = carries v mover heard next in IsBorne t.volume (told ++ t.told) × IsUnsentIn t.volume
  went (Read span) asked =
      asks_borne (Read span) Reading asked refl (asks.Read mover.chunk span) its refl (ap (λ c. Some (asks.Read c span)) (sym its)) (option_map (λ (b : Between). b.from) (between v.routes)) (ap (option_map (λ (b : Between). b.from)) groups)
      (carries_routed v told routed old mover was same heard (Read span)) (placed_on v mover heard (Read span) placed)
  went (Write span sectors) asked =
      asks_borne (Write span sectors) Writing asked refl (asks.Write mover.chunk span sectors) its refl (ap (λ c. Some (asks.Write c span sectors)) (sym its)) (option_map (λ (b : Between). b.to) (between v.routes)) (ap (option_map (λ (b : Between). b.to)) groups)
      (carries_routed v told routed old mover was same heard (Write span sectors)) (placed_on v mover heard (Write span sectors) placed)
  went Switch asked =
      let text = event_line (moved_text mover.chunk) in
      let all = told ++ Carries mover.chunk heard Switch ∷ Writes text ∷ [] in
      let is = switched_is count (length v.chunks) v.routes told routed.routes moving moves in (
        record {
          routed = carries_routed v told routed old mover was same heard Switch;
          placed = placed_on v mover heard Switch placed;
          so = switch_so count v told routed.routes so moving moves f mover its heard back text;
          bears = subst (λ (r : RoutesIs). IsBearing count all v.chunks r r.moving None) (sym is) f.free;
        },
        λ k here. absurd (none-some k (sym (none_asked (between (routes_switched v.routes))) ∙ here)),
      )
    where
      none_asked : (b : Option Between) → asks_in b None ≡ None
      none_asked None = refl
      none_asked (Some b) = refl

-- Its steps

-- what it asks, where it asks something
pub record InUse (v : VolumeRun) (told : List Moment) (k : ℕ) : Type 0 where
  pub moving : Moving
  pub moves : v.routes.moving ≡ Some moving
  pub mover : MoverIs
  pub is : v.mover ≡ Some mover
  pub b : Bears v.extent.chunks told v.chunks v.routes moving mover
  pub group : k ≡ group_for b.from moving.to (role_of_ask b.ask)

in_use : (v : VolumeRun) (told : List Moment) (k : ℕ) → IsBorne v told → mover_group v ≡ Some k → InUse v told k
in_use v told k is group = by v.routes.moving v.mover refl refl is.bears
  where
    asks_none : (b : Option Between) → asks_in b None ≡ None
    asks_none None = refl
    asks_none (Some b) = refl

    its_group : (b : Between) (role : MoverAsk) → asked_group b role ≡ group_for b.from b.to role
    its_group b Reading = refl
    its_group b Writing = refl

    by : (moving : Option Moving) (mover : Option MoverIs) → v.routes.moving ≡ moving → v.mover ≡ mover → IsBearing v.extent.chunks told v.chunks v.routes moving mover → InUse v told k
    by None None moves here bears = absurd (none-some k (sym (asks_none (between v.routes)) ∙ ap (λ o. asks_in (between v.routes) (option_and_then (λ (m : MoverIs). m.asked) o)) (sym here) ∙ group))
    by None (Some mover) moves here bears = absurd bears
    by (Some moving) None moves here bears = absurd bears
    by (Some moving) (Some mover) moves here b = record {
      moving = moving;
      moves = moves;
      mover = mover;
      is = here;
      b = b;
      group =
          let two : Between = record { from = b.from; to = moving.to } in
          let between_two : between v.routes ≡ Some two = ap (between_in v.routes.routes) moves ∙ ap (option_map (λ (g : ℕ). let x : Between = record { from = g; to = moving.to } in x)) b.from_is in
          sym (same_Some (asked_group two (role_of_ask b.ask)) k
          (sym (ap (λ o. asks_in (between v.routes) (option_and_then (λ (m : MoverIs). m.asked) o)) here ∙ ap (asks_in (between v.routes)) b.asked ∙ ap (λ o. asks_in o (Some (role_of_ask b.ask))) between_two) ∙ group))
          ∙ its_group two (role_of_ask b.ask);
    }

module _ (halts : List Halt) where
  abbrev Comes : List Moment → volumes.VolumeTold → Type 0
  Comes told t = IsBorne t.volume (told ++ t.told)

  nothing : (v : VolumeRun) (told : List Moment) → IsBorne v told → IsBorne v (told ++ [])
  nothing v told is = subst (IsBorne v) (sym (append-nil told)) is

  behind_all : (v : VolumeRun) (told more last : List Moment) → IsBorne v ((told ++ more) ++ last) → IsBorne v (told ++ (more ++ last))
  behind_all v told more last is = subst (IsBorne v) (append_assoc told more last) is

  module _ (v : VolumeRun) (told : List Moment) (is : IsBorne v told) (k : ℕ) (group : mover_group v ≡ Some k) where
    abbrev d : Drove
    d = drove halts v.chunks mover_port k

    abbrev w : VolumeRun
    w = record v { chunks = d.chunks }

    use_it : InUse v told k
    use_it = in_use v told k is group

    so_driven : AreSo v.extent.chunks (told ++ d.told) d.chunks
    so_driven = subst (λ j. let x : Drove = drove halts v.chunks mover_port j in AreSo v.extent.chunks (told ++ x.told) x.chunks) (sym use_it.group)
        (drove_so halts v.extent.chunks (length v.chunks) v.routes told is.routed.routes v.chunks is.so use_it.moving use_it.moves use_it.mover use_it.b)

    routed_then : RoutedOf w (told ++ d.told)
    routed_then = let drives = drives_at halts v.chunks mover_port k in still_routed v.extent.chunks v.routes v.mover v.chunks d.chunks told d.told drives.count drives.still is.routed

    placed_then : ArePlaced d.chunks
    placed_then = (drives_at halts v.chunks mover_port k).placed is.placed

    -- nothing was answered
    settles : d.reply ≡ None → IsBorne w (told ++ d.told)
    settles none = record {
      routed = routed_then;
      placed = placed_then;
      so = so_driven;
      bears = subst (λ m. IsBearing v.extent.chunks (told ++ d.told) d.chunks v.routes m v.mover) (sym use_it.moves) (subst (IsBearing v.extent.chunks (told ++ d.told) d.chunks v.routes (Some use_it.moving)) (sym use_it.is) (by k use_it.group none));
    }
      where
        by : (j : ℕ) → j ≡ group_for use_it.b.from use_it.moving.to (role_of_ask use_it.b.ask) → (drove halts v.chunks mover_port j).reply ≡ None
            → let x : Drove = drove halts v.chunks mover_port j in Bears v.extent.chunks (told ++ x.told) x.chunks v.routes use_it.moving use_it.mover
        by j same = subst (λ i. (drove halts v.chunks mover_port i).reply ≡ None → let x : Drove = drove halts v.chunks mover_port i in Bears v.extent.chunks (told ++ x.told) x.chunks v.routes use_it.moving use_it.mover) (sym same)
            (none_bears halts v.extent.chunks (length v.chunks) v.routes told is.routed.routes v.chunks is.so use_it.moving use_it.moves use_it.mover use_it.b)

    -- the ask was answered, and the mover goes on
    goes_on : (reply : Reply) → d.reply ≡ Some reply → let heard : Heard = record { reply = reply; by = event_count (slice_get d.chunks k) } in let t : volumes.VolumeTold = mover_hears_in w heard v.mover in IsBorne t.volume ((told ++ d.told) ++ t.told) × IsUnsentIn t.volume
    goes_on reply same =
        let heard : Heard = record { reply = reply; by = event_count (slice_get d.chunks k) } in
        let s : MoverStep = step use_it.mover (Some reply) in
        let both = by k use_it.group reply same in
        subst (λ o. let t : volumes.VolumeTold = mover_hears_in w heard o in IsBorne t.volume ((told ++ d.told) ++ t.told) × IsUnsentIn t.volume) (sym use_it.is)
        (went w (told ++ d.told) routed_then placed_then so_driven use_it.moving use_it.moves both.0 use_it.mover s.mover use_it.is (step_chunk use_it.mover (Some reply)) (Some heard) both.1 s.next (step_asks use_it.mover (Some reply)))
      where
        Both : ℕ → Type 0
        Both j =
            let x : Drove = drove halts v.chunks mover_port j in
            (reply : Reply) → x.reply ≡ Some reply
            → IsFree v.extent.chunks (told ++ x.told) x.chunks v.routes use_it.moving × IsBackIf v.extent.chunks x.chunks (told ++ x.told) use_it.moving.chunk (Some (record { reply = reply; by = event_count (slice_get x.chunks j) }))

        by : (j : ℕ) → j ≡ group_for use_it.b.from use_it.moving.to (role_of_ask use_it.b.ask) → Both j
        by j its = subst Both (sym its) (λ r r_is. (
          free_then halts v.extent.chunks (length v.chunks) v.routes told is.routed.routes v.chunks is.so use_it.moving use_it.moves use_it.mover use_it.b r r_is,
          back_then halts v.extent.chunks (length v.chunks) v.routes told is.routed.routes v.chunks is.so use_it.moving use_it.moves use_it.mover use_it.b r r_is,
        ))

  -- what it asks is handed on
  hands_to : (group : Option ℕ) (v : VolumeRun) (told : List Moment) → mover_group v ≡ group → IsBorne v told → IsUnsentIn v → Comes told (mover_hands_to halts group v)
  hands_to None v told same is unsent = nothing v told is
  hands_to (Some k) v told same is unsent = settles v told is k same ((drives_at halts v.chunks mover_port k).unsent (unsent k same))

  pub hands_on_so : (v : VolumeRun) (told : List Moment) → IsBorne v told → IsUnsentIn v → Comes told (mover_hands halts v)
  hands_on_so v told is unsent = hands_to (mover_group v) v told refl is unsent

  replies : (v : VolumeRun) (told : List Moment) (is : IsBorne v told) (k : ℕ) (group : mover_group v ≡ Some k) (reply : Option Reply) → (drove halts v.chunks mover_port k).reply ≡ reply → Comes told (mover_replied halts v k (drove halts v.chunks mover_port k) reply)
  replies v told is k group None same = settles v told is k group same
  replies v told is k group (Some reply) same =
      let its : Drove = drove halts v.chunks mover_port k in
      let heard : Heard = record { reply = reply; by = event_count (slice_get its.chunks k) } in
      let t : volumes.VolumeTold = mover_hears_in (record v { chunks = its.chunks }) heard v.mover in
      let last : volumes.VolumeTold = mover_hands halts t.volume in
      let on = goes_on v told is k group reply same in
      behind_all last.volume told its.told (t.told ++ last.told)
      (behind_all last.volume (told ++ its.told) t.told last.told (hands_on_so t.volume ((told ++ its.told) ++ t.told) on.0 on.1))

  steps : (group : Option ℕ) (v : VolumeRun) (told : List Moment) → mover_group v ≡ group → IsBorne v told → Comes told (mover_steps_at halts group v)
  steps None v told same is = nothing v told is
  steps (Some k) v told same is = replies v told is k same (drove halts v.chunks mover_port k).reply refl

  pub mover_so : (v : VolumeRun) (told : List Moment) → IsBorne v told → Comes told (mover_steps halts v)
  unfolding mover_steps
  mover_so v told is = steps (mover_group v) v told refl is
