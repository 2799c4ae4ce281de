-- A step of the mover of a chunk, part by part.
use Rattle.std.proofs.Common.{◌≡◌, ◌≢◌, ℕ, ◌<◌, ◌*◌, IfSome, IsSome, List, ◌++◌, length, Option, Some, None, slice_get, inl, inr, refl, sym, ap, subst, ◌∙◌, append-nil, append_assoc, arith}
use Rattle.std.specs.Option.{option_and_then}
use Rattle.std.proofs.lemmas.Option.{none-some, same_Some}
use Rattle.pf_base.specs.declared.asks.Ask.{Ask}
use Rattle.pf_base.specs.declared.asks.Ask.TheVariants as asks
use Rattle.pf_base.specs.declared.asks.Reply.{Reply}
use Rattle.pf_base.specs.declared.asks.Reply.TheVariants.{Written, Bytes}
use Rattle.pf_base.specs.Asks.{Answers}
use Rattle.pf_base.specs.Span.{Span}
use Rattle.pf_entry.proofs.Lists.{set_cases, set_there}
use Rattle.pf_mount_host.specs.pf_group_network.proofs.Lists.{set_elsewhere}
use Rattle.pf_asks.specs.Ports.{PortIs}
use Rattle.pf_mount_host.specs.pf_group_rounds.specs.Halts.{Halt}
use Rattle.pf_mount_host.specs.pf_group_rounds.proofs.Told.{told_length}
use Rattle.pf_move.specs.declared.mover.MoverAsk.{MoverAsk}
use Rattle.pf_move.specs.declared.mover.MoverAsk.TheVariants.{Reading, Writing}
use Rattle.pf_move.specs.declared.routes.Moving.{Moving}
use Rattle.pf_move.specs.Movers.{ReplyFits, MoverIs}
use Rattle.pf_move.specs.Routes.{Between, between}
use Rattle.pf_mount_host.specs.pf_chunk.specs.Runs.{ChunkRun, mover_port}
use Rattle.pf_mount_host.specs.pf_chunk.specs.Views.{ChunkIs}
use Rattle.pf_mount_host.specs.pf_world_moments.specs.Moments.{Heard, Moment, moments_text}
use Rattle.pf_mount_host.specs.pf_world_moments.specs.Hosts.{Drove, drove, event_count}
use Rattle.pf_mount_host.specs.pf_world_moments.specs.Parts.{AreQuiet, HasDrove, HasNotDrove, PortIsPending}
use Rattle.pf_mount_host.specs.pf_world_moments.specs.Steps.{AreReady, HaveBegun, HaveGone, TellsAll, chunk_runs}
use Rattle.pf_mount_host.specs.pf_world_moments.proofs.Groups.{run_there}
use Rattle.pf_mount_host.specs.pf_world_moments.proofs.HistoryGrowth.{lengthens_refl}
use Rattle.pf_mount_host.specs.pf_world_moments.proofs.PortSteps.{gone_grown, gone_tells, gone_trans, put_gone, told_both}
use Rattle.pf_world_hosts.specs.Moves.{HasTakenUp, on_reply}
use Rattle.pf_world_hosts.specs.Steps.{AllStay, AreHostsOf, AwaitsAt, FleetIs, FleetHasGone, HasMover, FleetHasStopped, IsMoverAsk, IsFleetOf, IsMoverOf, volume_stands_at}
use Rattle.pf_world_hosts.specs.Volumes.{VolumeTold, VolumeRun, after_telling, asked_group, asks_in, volume_followed, mover_hands, mover_hands_to, mover_hears_in, mover_replied, mover_steps, mover_steps_at}
use Rattle.pf_world_hosts.proofs.ChunkGrowth.{all_stand, begun_through, gone_stays, grown_refl_all, grown_trans_all, replied_lengthens, tells_before}
use Rattle.pf_world_hosts.proofs.HostGroups.{hosts_stay}
use Rattle.pf_world_hosts.proofs.Parts.{nothing_went}
use Rattle.pf_world_hosts.proofs.Ports.{gone_ports}

-- the group to which the mover's ask goes
abbrev pub group_in : FleetIs → Option ℕ
group_in f = asks_in (between f.routes) (option_and_then (λ (m : MoverIs). m.asked) f.mover)

-- a mover that asks a group
pub record AsksAt (chunks : List ChunkIs) (f : FleetIs) (k : ℕ) : Type 0 where
  pub mover : MoverIs
  pub is : f.mover ≡ Some mover
  pub moving : Moving
  pub at : f.routes.moving ≡ Some moving
  pub b : Between
  pub between_is : between f.routes ≡ Some b
  pub of : IsMoverOf chunks f.volume.sectors moving b mover
  pub group : k ≡ asked_group b of.asked

pub asks_at : (chunks : List ChunkIs) (f : FleetIs) (k : ℕ) → IsFleetOf chunks f → group_in f ≡ Some k → AsksAt chunks f k
asks_at chunks f k is_fleet asks = by f.routes.moving (between f.routes) f.mover refl refl refl is_fleet.mover asks where
  by : (moving : Option Moving) (b : Option Between) (mover : Option MoverIs) → f.routes.moving ≡ moving → between f.routes ≡ b → f.mover ≡ mover
      → HasMover chunks f.volume.sectors moving b mover → asks_in b (option_and_then (λ (m : MoverIs). m.asked) mover) ≡ Some k → AsksAt chunks f k
  by (Some moving) (Some b) (Some mover) at between_is is of asks = record {
    mover = mover;
    is = is;
    moving = moving;
    at = at;
    b = b;
    between_is = between_is;
    of = of;
    group = same_Some k (asked_group b of.asked) (sym asks ∙ ap (asks_in (Some b)) of.asks);
  }
  by (Some moving) (Some b) None at between_is is of asks = absurd of
  by (Some moving) None (Some mover) at between_is is of asks = absurd of
  by (Some moving) None None at between_is is of asks = absurd of
  by None (Some b) (Some mover) at between_is is of asks = absurd of
  by None (Some b) None at between_is is of asks = absurd (none-some k asks)
  by None None (Some mover) at between_is is of asks = absurd of
  by None None None at between_is is of asks = absurd (none-some k asks)

-- its ask is in its port there
module _ (chunks : List ChunkIs) (f : FleetIs) (k : ℕ) (a : AsksAt chunks f k) where
  abbrev pub waits_at : AwaitsAt chunks a.mover a.of.asked k
  waits_at = subst (λ n. AwaitsAt chunks a.mover a.of.asked n) (sym a.group) a.of.awaits

  abbrev pub mover_pending : PortIsPending mover_port k chunks
  mover_pending = waits_at.pends

-- an answer of its ask fits
pub answer_fits : (mover : MoverIs) (asked : MoverAsk) (ask : Ask) (reply : Reply) → IsMoverAsk mover asked ask → Answers ask reply → ReplyFits (Some asked) (Some reply)
answer_fits mover Reading (asks.Read chunk span) (Bytes sectors) of_kind answers = answers ∙ ap (λ (s : Span). s.count) of_kind.1
answer_fits mover Reading (asks.Read chunk span) Written of_kind answers = absurd answers
answer_fits mover Reading (asks.Write chunk span sectors) reply of_kind answers = absurd of_kind
answer_fits mover Writing (asks.Write chunk span sectors) Written of_kind answers = tt
answer_fits mover Writing (asks.Write chunk span sectors) (Bytes bytes) of_kind answers = absurd answers
answer_fits mover Writing (asks.Read chunk span) reply of_kind answers = absurd of_kind

-- the hosts are not touched
pub hosts_after : (old new : List ChunkIs) (f : FleetIs) → HaveGone mover_port old new → AreHostsOf old f → AreHostsOf new f
hosts_after old new f gone is = hosts_stay old new f f gone.count (λ n low. gone_ports mover_port n old new gone (λ e. absurd (omega (arith, e, low)))) (refl, refl, refl, refl, refl) is

module _ (old new : List ChunkIs) (f : FleetIs) (k : ℕ) (is_fleet : IsFleetOf old f) (asks : group_in f ≡ Some k) (before after : List ℕ) where
  abbrev a : AsksAt old f k
  a = asks_at old f k is_fleet asks

  abbrev w : PortIsPending mover_port k old
  w = mover_pending old f k a

  module _ (reply : Option Reply) (d : HasDrove mover_port k old before reply after new) where
    there_new : slice_get new k ≡ Some d.is
    there_new = ap (λ (cs : List ChunkIs). slice_get cs k) d.one ∙ set_there old k d.was d.is d.there

    its_was : slice_get d.was.ports mover_port ≡ Some w.port
    its_was = subst (λ (x : ChunkIs). slice_get x.ports mover_port ≡ Some w.port) (sym (same_Some d.was w.chunk (sym d.there ∙ w.there))) w.its

    its_now : slice_get d.is.ports mover_port ≡ Some d.port.port
    its_now = ap (λ (ports : List PortIs). slice_get ports mover_port) d.port.ports ∙ set_there d.was.ports mover_port w.port d.port.port its_was

    elsewhere_quiet : (j : ℕ) (c : ChunkIs) → j ≢ k → slice_get new j ≡ Some c → (port : PortIs) → slice_get c.ports mover_port ≡ Some port → port.ask ≡ None
    elsewhere_quiet j c other there port its =
        a.of.quiet j c (λ e. other (e ∙ sym a.group)) (sym (set_elsewhere old k j d.is other) ∙ ap (λ (cs : List ChunkIs). slice_get cs j) (sym d.one) ∙ there) port its

  -- nothing was answered: it waits on
  module _ (d : HasDrove mover_port k old before None after new) where
    pub fleet_waits : IsFleetOf new f
    fleet_waits = record {
      are_hosts = hosts_after old new f d.gone is_fleet.are_hosts;
      mover = subst (λ (moving : Option Moving). HasMover new f.volume.sectors moving (between f.routes) f.mover) (sym a.at)
          (subst (λ (b : Option Between). HasMover new f.volume.sectors (Some a.moving) b f.mover) (sym a.between_is)
          (subst (λ (m : Option MoverIs). HasMover new f.volume.sectors (Some a.moving) (Some a.b) m) (sym a.is) its));
    } where
      its : IsMoverOf new f.volume.sectors a.moving a.b a.mover
      its = record {
        chunk = a.of.chunk;
        pieces = a.of.pieces;
        going = a.of.going;
        asked = a.of.asked;
        asks = a.of.asks;
        awaits = subst (λ n. AwaitsAt new a.mover a.of.asked n) a.group (record {
          pends = record { chunk = d.is; there = there_new None d; port = d.port.port; its = its_now None d; ask = w.ask; pending = d.port.asks w.port (its_was None d) ∙ w.pending };
          of_kind = (waits_at old f k a).of_kind;
        });
        quiet = λ j c other there port at. elsewhere_quiet None d j c (λ e. other (e ∙ a.group)) there port at;
      }

    pub mover_waited : FleetHasGone mover_steps old f before new f after
    unfolding mover_steps
    mover_waited = record {
      ready = d.ready;
      is_fleet = fleet_waits;
      grown = gone_grown mover_port old new d.gone;
      told = d.told;
      put = d.put;
      run = λ halts tells.
          ap (λ (group : Option ℕ). mover_steps_at halts group (volume_stands_at halts old f)) asks
          ∙ ap (λ (it : Drove). mover_replied halts (volume_stands_at halts old f) k it it.reply) (d.run halts tells);
    }

  -- there was no memory
  pub mover_not_drove : HasNotDrove mover_port k old new → FleetHasStopped mover_steps old f new
  unfolding mover_steps
  mover_not_drove n = record {
    grown = n.grown;
    begun = λ halts tells.
        let v : VolumeRun = volume_stands_at halts old f in
        let it : Drove = drove halts v.chunks mover_port k in
        subst (λ (t : VolumeTold). HaveBegun halts old t.volume.chunks new) (sym (ap (λ (group : Option ℕ). mover_steps_at halts group v) asks))
        (begun_through halts old old new it.chunks (mover_replied halts v k it it.reply).volume.chunks (grown_refl_all old) (n.begun halts tells) (replied_lengthens halts v k it it.reply));
  }

-- there is nothing to do
pub mover_rests : (chunks : List ChunkIs) (f : FleetIs) (out : List ℕ) → AreReady chunks → IsFleetOf chunks f → group_in f ≡ None → FleetHasGone mover_steps chunks f out chunks f out
unfolding mover_steps
mover_rests chunks f out ready is_fleet none = nothing_went mover_steps chunks f out ready is_fleet (λ halts. ap (λ (group : Option ℕ). mover_steps_at halts group (volume_stands_at halts chunks f)) none)

-- Its ask was answered
module _ (old mid : List ChunkIs) (f : FleetIs) (k : ℕ) (is_fleet : IsFleetOf old f) (asks : group_in f ≡ Some k) (reply : Reply) (before middle : List ℕ) (d : HasDrove mover_port k old before (Some reply) middle mid) where
  abbrev its : AsksAt old f k
  its = asks_at old f k is_fleet asks

  pub quiet_then : AreQuiet mover_port mid
  quiet_then j c there port at = elim (set_cases old k d.is j c (ap (λ (cs : List ChunkIs). slice_get cs j) (sym d.one) ∙ there)) [
    | inl here ↦
        let now = its_now old mid f k is_fleet asks before middle (Some reply) d in
        let same = same_Some d.port.port port (sym now ∙ ap (λ (x : ChunkIs). slice_get x.ports mover_port) here.1 ∙ at) in
        ap (λ (p : PortIs). p.ask) (sym same) ∙ d.port.asks (mover_pending old f k its).port (its_was old mid f k is_fleet asks before middle (Some reply) d)
    | inr other ↦ elsewhere_quiet old mid f k is_fleet asks before middle (Some reply) d j c other.0 there port at
  ]

  pub hosts_then : AreHostsOf mid f
  hosts_then = hosts_after old mid f d.gone is_fleet.are_hosts

  -- and fits what the mover asked
  pub fits_then : ((c : ChunkIs) (port : PortIs) (ask : Ask) → slice_get old k ≡ Some c → slice_get c.ports mover_port ≡ Some port → port.ask ≡ Some ask → Answers ask reply) → IfSome f.mover (λ m. ReplyFits m.asked (Some reply))
  fits_then answers =
      let at = waits_at old f k its in
      subst (λ (o : Option MoverIs). IfSome o (λ m. ReplyFits m.asked (Some reply))) (sym its.is)
      (subst (λ (o : Option MoverAsk). ReplyFits o (Some reply)) (sym its.of.asks) (answer_fits its.mover its.of.asked at.pends.ask reply at.of_kind (answers at.pends.chunk at.pends.port at.pends.ask at.pends.there at.pends.its at.pends.pending)))

  pub mover_then : IsSome f.mover
  mover_then = subst (λ (o : Option MoverIs). IsSome o) (sym its.is) refl

  pub moving_then : IsSome f.routes.moving
  moving_then = subst (λ (o : Option Moving). IsSome o) (sym its.at) refl

  pub chunk_then : IfSome f.routes.moving (λ moving. IfSome f.mover (λ m. moving.chunk ≡ m.chunk))
  chunk_then =
      subst (λ (o : Option Moving). IfSome o (λ moving. IfSome f.mover (λ m. moving.chunk ≡ m.chunk))) (sym its.at)
      (subst (λ (o : Option MoverIs). IfSome o (λ m. its.moving.chunk ≡ m.chunk)) (sym its.is) (sym its.of.chunk))

  pub pieces_then : IfSome f.mover (λ m. (m.done < m.pieces) × (8 * m.pieces ≡ f.volume.sectors))
  pieces_then = subst (λ (o : Option MoverIs). IfSome o (λ m. (m.done < m.pieces) × (8 * m.pieces ≡ f.volume.sectors))) (sym its.is) (its.of.going, its.of.pieces)

  abbrev heard : Heard
  heard = record { reply = reply; by = length d.is.group.history }

  -- the reply was not heard
  pub mover_not_heard : FleetHasStopped mover_steps old f mid
  unfolding mover_steps
  mover_not_heard = record {
    grown = gone_grown mover_port old mid d.gone;
    begun = λ halts tells.
        let v : VolumeRun = volume_stands_at halts old f in
        let now : Drove = record { chunks = chunk_runs halts mid; reply = Some reply; told = d.told } in
        subst (λ (t : VolumeTold). HaveBegun halts old t.volume.chunks mid)
        (sym (ap (λ (group : Option ℕ). mover_steps_at halts group v) asks ∙ ap (λ (it : Drove). mover_replied halts v k it it.reply) (d.run halts tells)))
        (begun_through halts old mid mid (chunk_runs halts mid) (mover_replied halts v k now (Some reply)).volume.chunks (gone_grown mover_port old mid d.gone) (all_stand halts mid tells) (replied_lengthens halts v k now (Some reply)));
  }

  module _ (new : List ChunkIs) (g : FleetIs) (after : List ℕ) (t : HasTakenUp (on_reply its.mover reply) mid f middle new g after) where
    gone_then : HaveGone mover_port mid new
    gone_then = put_gone mover_port mid new t.ports

    pub gone_so_far : HaveGone mover_port old new
    gone_so_far = gone_trans mover_port old mid new d.gone gone_then

    abbrev told_so_far : List Moment
    told_so_far = d.told ++ t.told (Some heard)

    put_so_far : after ≡ before ++ moments_text told_so_far
    put_so_far =
        t.put (Some heard) ∙ ap (λ text. text ++ moments_text (t.told (Some heard))) d.put ∙ append_assoc before (moments_text d.told) (moments_text (t.told (Some heard)))
        ∙ ap (λ text. before ++ text) (sym (told_both d.told (t.told (Some heard))))

    -- a run comes so far
    run_so_far : (halts : List Halt) → TellsAll halts new
        → mover_steps halts (volume_stands_at halts old f) ≡ after_telling d.told (after_telling (t.told (Some heard)) (mover_hands halts (volume_stands_at halts new g)))
    unfolding mover_steps
    run_so_far halts tells =
        let v : VolumeRun = volume_stands_at halts old f in
        let w : VolumeRun = volume_stands_at halts mid f in
        let told_mid = gone_tells halts mover_port mid new gone_then tells in
        let there_mid = there_new old mid f k is_fleet asks before middle (Some reply) d in
        let events : event_count (slice_get (chunk_runs halts mid) k) ≡ length d.is.group.history = ap event_count (run_there halts mid k d.is there_mid) ∙ told_length halts d.is.group.number 0 d.is.group.history in
        ap (λ (group : Option ℕ). mover_steps_at halts group v) asks
        ∙ ap (λ (it : Drove). mover_replied halts v k it it.reply) (d.run halts told_mid)
        ∙ ap (λ by. after_telling d.told (volume_followed (mover_hears_in w (record { reply = reply; by = by }) f.mover) (mover_hands halts))) events
        ∙ ap (λ (mover : Option MoverIs). after_telling d.told (volume_followed (mover_hears_in w heard mover) (mover_hands halts))) its.is
        ∙ ap (λ (it : VolumeTold). after_telling d.told (volume_followed it (mover_hands halts))) (t.run halts (Some heard))

    -- it wants nothing more
    pub mover_ended : group_in g ≡ None → FleetHasGone mover_steps old f before new g after
    mover_ended none = record {
      ready = t.ready;
      is_fleet = t.is_fleet;
      grown = gone_grown mover_port old new gone_so_far;
      told = told_so_far;
      put = put_so_far;
      run = λ halts tells.
          run_so_far halts tells
          ∙ ap (λ (group : Option ℕ). after_telling d.told (after_telling (t.told (Some heard)) (mover_hands_to halts group (volume_stands_at halts new g)))) none
          ∙ ap (λ (told : List Moment). record { volume = volume_stands_at halts new g; told = d.told ++ told }) (append-nil (t.told (Some heard)));
    }

    -- its next ask is handed on
    module _ (j : ℕ) (next_at : group_in g ≡ Some j) where
      next_waits : PortIsPending mover_port j new
      next_waits = mover_pending new g j (asks_at new g j t.is_fleet next_at)

      module _ (last : List ChunkIs) (answer : Option Reply) (end : List ℕ) (e : HasDrove mover_port j new after answer end last) where
        -- nothing was answered before it was handed on
        not_answered : answer ≡ None
        not_answered =
            let same = same_Some e.was next_waits.chunk (sym e.there ∙ next_waits.there) in
            e.port.unsent next_waits.port (subst (λ (x : ChunkIs). slice_get x.ports mover_port ≡ Some next_waits.port) (sym same) next_waits.its)
            (t.unsent j next_at next_waits.chunk next_waits.port next_waits.there next_waits.its)

        handed : HasDrove mover_port j new after None end last
        handed = subst (λ (o : Option Reply). HasDrove mover_port j new after o end last) not_answered e

        pub mover_went_on : FleetHasGone mover_steps old f before last g end
        mover_went_on = record {
          ready = e.ready;
          is_fleet = fleet_waits new last g j t.is_fleet next_at after end handed;
          grown = gone_grown mover_port old last (gone_trans mover_port old new last gone_so_far e.gone);
          told = d.told ++ (t.told (Some heard) ++ handed.told);
          put =
              handed.put ∙ ap (λ text. text ++ moments_text handed.told) put_so_far ∙ append_assoc before (moments_text told_so_far) (moments_text handed.told)
              ∙ ap (λ text. before ++ text) (sym (told_both told_so_far handed.told) ∙ ap moments_text (append_assoc d.told (t.told (Some heard)) handed.told));
          run = λ halts tells.
              run_so_far halts (gone_tells halts mover_port new last e.gone tells)
              ∙ ap (λ (group : Option ℕ). after_telling d.told (after_telling (t.told (Some heard)) (mover_hands_to halts group (volume_stands_at halts new g)))) next_at
              ∙ ap (λ (it : Drove). after_telling d.told (after_telling (t.told (Some heard)) (record { volume = record (volume_stands_at halts new g) { chunks = it.chunks }; told = it.told }))) (handed.run halts tells);
        }

        pub went_on_stays : AllStay old last
        went_on_stays = gone_stays mover_port old last (gone_trans mover_port old new last gone_so_far e.gone)

      -- there was no memory to hand it on
      pub mover_not_handed : (last : List ChunkIs) → HasNotDrove mover_port j new last → FleetHasStopped mover_steps old f last
      mover_not_handed last n = record {
        grown = grown_trans_all old new last (gone_grown mover_port old new gone_so_far) n.grown;
        begun = λ halts tells.
            let would : List ChunkRun = (drove halts (chunk_runs halts new) mover_port j).chunks in
            subst (λ (t : VolumeTold). HaveBegun halts old t.volume.chunks last)
            (sym (run_so_far halts (tells_before halts new last n.grown tells)
            ∙ ap (λ (group : Option ℕ). after_telling d.told (after_telling (t.told (Some heard)) (mover_hands_to halts group (volume_stands_at halts new g)))) next_at))
            (begun_through halts old new last would would (gone_grown mover_port old new gone_so_far) (n.begun halts tells) (lengthens_refl would));
      }
