-- A write that the mover's port handed on to a group is one of those that were carried into its epoch.
use Rattle.std.proofs.Common.{◌≡◌, ◌⊎◌, ℕ, suc, ◌<◌, inl, inr, List, [], ◌∷◌, ◌++◌, length, map, take, Some, slice_get, arith, refl, sym, ap, subst, ◌∙◌, unwrap_or, append-nil}
use Rattle.std.proofs.lemmas.Bool.{cases_lt}
use Rattle.std.proofs.lemmas.Option.{same_Some}
use Rattle.pf_base.specs.Span.{Span}
use Rattle.pf_base.specs.declared.asks.Ask.{Ask}
use Rattle.pf_base.specs.declared.asks.Ask.TheVariants as asks
use Rattle.pf_entry.specs.Lists.{Every}
use Rattle.pf_entry.specs.Ops.{Sector}
use Rattle.pf_entry.specs.declared.ops.Op.{Op}
use Rattle.pf_entry.specs.declared.ops.Op.TheVariants.{Write}
use Rattle.pf_protocol.specs.declared.answers.Answer.{Answer}
use Rattle.pf_protocol.specs.declared.events.Event.TheVariants as events
use Rattle.pf_protocol.specs.declared.events.Happening.{Happening}
use Rattle.pf_protocol.specs.Ports.{Submission}
use Rattle.pf_law_registers.specs.Firsts.{IsPorts}
use Rattle.pf_law_positions.specs.Deeds.{Groups}
use Rattle.pf_law_positions.specs.Moves.{mover_into}
use Rattle.pf_move.specs.declared.mover.MoverAsk.TheVariants.{Writing}
use Rattle.pf_move.specs.Turns.{MoverTurn}
use Rattle.pf_volume.specs.Volumes.{Extent}
use Rattle.pf_law_movers.specs.pf_chunk.specs.Driving.{event_of_ask}
use Rattle.pf_law_movers.specs.pf_chunk.specs.Runs.{ChunkRun, mover_port}
use Rattle.pf_law_movers.specs.pf_world_moments.specs.Moments.{Hands, Moment}
use Rattle.pf_law_movers.specs.pf_law_service.proofs.Places.{map_get}
use Rattle.pf_law_movers.specs.Carrying.{moves_of}
use Rattle.pf_law_movers.specs.Epochs.{epoch_of, group_of_epoch}
use Rattle.pf_law_movers.specs.Handing.{AreMountsAlone}
use Rattle.pf_law_movers.specs.Hosted.{among_copies, history_of_run}
use Rattle.pf_law_movers.specs.Movers.{AreMoves, group_of_role, role_of_ask}
use Rattle.pf_law_movers.specs.Pasts.{mover_trace}
use Rattle.pf_law_movers.proofs.AskGroups.{none_anew}
use Rattle.pf_law_movers.proofs.MoverHandovers.{among_carried}
use Rattle.pf_law_movers.proofs.ChunkEpochs.{AreBegun, begun_until, group_stays, same_home}
use Rattle.pf_law_movers.proofs.OfMoves.{AreGroupsOf, begun_first, whole_by}
use Rattle.pf_law_movers.proofs.RunningMoves.{under_way}
use Rattle.pf_law_movers.proofs.PortTraces.{IsElsewhere}

-- only a write is submitted
pub writes_in : (ask : Ask) (server its : ℕ) (op : Op) → event_of_ask ask server ≡ events.Submit its op → role_of_ask ask ≡ Writing
writes_in (asks.Write chunk span sectors) server its op is = refl
writes_in (asks.Read chunk span) server its op is = absurd (cc)

module _ (v : Extent) (chunks : List ChunkRun) (told before after : List Moment) (moves : AreMoves v chunks told) (part : told ≡ before ++ after) (upto : ℕ → ℕ) (groups : Groups) (are : AreGroupsOf v chunks before upto groups)
    (chunk epoch k : ℕ) (c : ChunkRun) (small : chunk < v.chunks) (at : group_of_epoch before chunk epoch ≡ Some k) (there : slice_get chunks k ≡ Some c)
    (place server : ℕ) (op : Op) (answer : Answer) (is : slice_get c.group.history place ≡ Some (record { event = events.Submit server op; answer = answer })) (first rest : List Moment) (same : before ≡ first ++ Hands mover_port k place ∷ rest) where
  abbrev hands : Moment
  hands = Hands mover_port k place

  begun : AreBegun v.chunks before
  begun = begun_first v chunks told moves before after part

  begun_on : AreBegun v.chunks (first ++ hands ∷ rest)
  begun_on = subst (AreBegun v.chunks) same begun

  pub into_moved : IsPorts (mover_into groups chunk epoch) (take place c.group.history) server op answer
  into_moved =
      let h = (moves.on first (rest ++ after) mover_port k place (whole_by v chunks told moves before after part first hands rest same) (omega arith)).1 in
      let c_is : h.group ≡ c = same_Some h.group c (sym h.there ∙ there) in
      let event : event_of_ask h.ask h.server ≡ events.Submit server op =
      ap (λ (x : Happening). x.event) (same_Some (record { event = event_of_ask h.ask h.server; answer = h.answer }) (record { event = events.Submit server op; answer = answer }) (sym h.is ∙ ap (λ (d : ChunkRun). slice_get d.group.history place) c_is ∙ is)) in
      let writes_it = writes_in h.ask h.server server op event in
      let e = epoch_of first h.chunk in
      let group : group_of_epoch first h.chunk (suc e) ≡ Some k = subst (λ role. group_of_role first h.chunk role ≡ Some k) writes_it h.of in
      let group_on : group_of_epoch before h.chunk (suc e) ≡ Some k = ap (λ (b : List Moment). group_of_epoch b h.chunk (suc e)) same ∙ group_stays first (hands ∷ rest) h.chunk (suc e) k group in
      let home = same_home v.chunks before begun h.chunk chunk (suc e) epoch k h.moving.small small group_on at in
      let goes = under_way v.chunks first (begun_until v.chunks first (hands ∷ rest) begun_on) h.chunk h.moving in
      let in_use = (goes.new c.group.history k group).role_is in
      let away : Every (IsElsewhere k) (hands ∷ rest) = none_anew v.chunks first (hands ∷ rest) begun_on h.chunk (suc e) k h.moving.small group in
      let t = mover_trace c.group.history k Writing v.chunks first in
      let made : Submission = record { write = t.asks; before = take place c.group.history; server = server; op = op; answer = answer } in
      let nth = length t.writes in
      let among : slice_get (mover_trace c.group.history k Writing v.chunks before).writes nth ≡ Some made =
      ap (λ (b : List Moment). slice_get (mover_trace c.group.history k Writing v.chunks b).writes nth) same ∙ among_carried c.group.history k v.chunks first rest place server op answer is in_use away.1 in
      let turns : List MoverTurn = unwrap_or (slice_get (moves_of before chunk) e) [] in
      let copied = among_copies turns in
      let at_next : group_of_epoch before chunk (suc e) ≡ Some k = ap (group_of_epoch before chunk) home.1 ∙ at in
      let carried_there : groups.moved chunk e ≡ map copied (mover_trace c.group.history k Writing v.chunks before).writes =
      are.moved chunk e k at_next ∙ ap (λ o. map copied (mover_trace (history_of_run o) k Writing v.chunks before).writes) there in
      subst (λ i. IsPorts (mover_into groups chunk i) (take place c.group.history) server op answer) home.1 (record {
        k = nth;
        submission = copied made;
        there = ap (λ (l : List Submission). slice_get l nth) carried_there ∙ map_get copied (mover_trace c.group.history k Writing v.chunks before).writes nth made among;
        at_moment = refl;
        to = refl;
        has_op = refl;
        has_answer = refl;
      })

-- so it is of all that a run told
pub carried_write : (v : Extent) (chunks : List ChunkRun) (told : List Moment) → AreMoves v chunks told → (upto : ℕ → ℕ) (groups : Groups) → AreGroupsOf v chunks told upto groups
    → (chunk epoch k : ℕ) (c : ChunkRun) → chunk < v.chunks → group_of_epoch told chunk epoch ≡ Some k → slice_get chunks k ≡ Some c
    → (place server : ℕ) (op : Op) (answer : Answer) → slice_get c.group.history place ≡ Some (record { event = events.Submit server op; answer = answer }) → (first rest : List Moment) → told ≡ first ++ Hands mover_port k place ∷ rest
    → IsPorts (mover_into groups chunk epoch) (take place c.group.history) server op answer
carried_write v chunks told moves upto groups are chunk epoch k c small at there place server op answer is first rest same =
    into_moved v chunks told told [] moves (sym (append-nil told)) upto groups are chunk epoch k c small at there place server op answer is first rest same

-- Where each write was handed on by a port, it was by the mover's, and is one of these, or by that of a mount
pub mover_or_mount : (v : Extent) (chunks : List ChunkRun) (told : List Moment) → AreMoves v chunks told → AreMountsAlone chunks told → (upto : ℕ → ℕ) (groups : Groups) → AreGroupsOf v chunks told upto groups
    → (chunk epoch k : ℕ) (c : ChunkRun) → chunk < v.chunks → group_of_epoch told chunk epoch ≡ Some k → slice_get chunks k ≡ Some c
    → (place server : ℕ) (range : Span) (sectors : List Sector) (answer : Answer) → slice_get c.group.history place ≡ Some (record { event = events.Submit server (Write range sectors); answer = answer })
    → IsPorts (mover_into groups chunk epoch) (take place c.group.history) server (Write range sectors) answer ⊎ ((before : List Moment) × (m : ℕ) × (after : List Moment) × (m < mover_port) × (told ≡ before ++ Hands m k place ∷ after))
mover_or_mount v chunks told moves alone upto groups are chunk epoch k c small at there place server range sectors answer is =
    let h = alone k place server c range sectors answer there is in
    elim (cases_lt h.1 mover_port) [
      | inl few ↦ inr (h.0, h.1, h.2, few, h.3)
      | inr many ↦
          let same : told ≡ h.0 ++ Hands mover_port k place ∷ h.2 = h.3 ∙ ap (λ m. h.0 ++ Hands m k place ∷ h.2) (moves.on h.0 h.2 h.1 k place h.3 many).0 in
          inl (carried_write v chunks told moves upto groups are chunk epoch k c small at there place server (Write range sectors) answer is h.0 h.2 same)
    ]
