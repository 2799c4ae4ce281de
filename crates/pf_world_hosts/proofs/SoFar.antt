-- How far a settling of a volume is.
use Rattle.std.proofs.Common.{◌≡◌, ◌≢◌, inl, inr, ℕ, suc, ◌+◌, ◌<◌, ◌≤◌, IsTrue, true, false, List, [], ◌∷◌, ◌++◌, length, get_or, Some, slice_get, slice_set, append-nil, append_assoc, arith, sym, ap, subst, ◌∙◌}
use Rattle.std.proofs.lemmas.Bool.{cases_eq}
use Rattle.std.proofs.lemmas.Option.{slice_get-get_or, slice_get_within}
use Rattle.pf_entry.proofs.Lists.{set_there}
use Rattle.pf_mount_host.specs.pf_group_network.proofs.Lists.{set_elsewhere, something_there}
use Rattle.pf_protocol.specs.Answers.{most_packets}
use Rattle.pf_mount_host.specs.pf_group.specs.GroupIs.{state_of}
use Rattle.pf_mount_host.specs.pf_group.specs.Packets.{is_left_in, is_refused_for_room}
use Rattle.pf_mount_host.specs.pf_group.proofs.PassedPackets.{least_found}
use Rattle.pf_mount_host.specs.pf_group_rounds.specs.Halts.{Halt}
use Rattle.pf_mount_host.specs.pf_chunk.specs.declared.settling.Try.{Try}
use Rattle.pf_mount_host.specs.pf_chunk.specs.Happenings.{Happened}
use Rattle.pf_mount_host.specs.pf_chunk.specs.Settling.{SettlingHasTried}
use Rattle.pf_mount_host.specs.pf_chunk.specs.Views.{ChunkIs, run_of}
use Rattle.pf_mount_host.specs.pf_world_moments.specs.Moments.{moments_text}
use Rattle.pf_mount_host.specs.pf_world_moments.specs.Steps.{AreReady, TellsAll}
use Rattle.pf_mount_host.specs.pf_world_moments.proofs.PortSteps.{told_both}
use Rattle.pf_world_hosts.specs.Nexts.{AllBegin, AllMoveUp, IsNextChunk}
use Rattle.pf_world_hosts.specs.Settling.{PacketName, settling_goes_on, having_told, settle_to, tried}
use Rattle.pf_world_hosts.specs.Steps.{AllStay, AreSameHosts, FleetIs, FleetHasGone, IsFleetOf, volume_stands_at}
use Rattle.pf_world_hosts.specs.Tries.{AreUpTo, IsUpTo, SettlingStands, room}
use Rattle.pf_world_hosts.specs.Volumes.{VolumeTold, all_step}
use Rattle.pf_world_hosts.proofs.Events.{event_and_steps, event_then_steps}
use Rattle.pf_world_hosts.proofs.ChunkGrowth.{all_told, grown_trans_all, tells_before, told_before}
use Rattle.pf_world_hosts.proofs.Places.{begin_ready, begin_same, move_ready, move_same}
use Rattle.pf_world_hosts.proofs.Rooms.{room_few, room_less, room_one}
use Rattle.pf_world_hosts.proofs.SameChunks.{same_fleet, same_grown, same_stands}
use Rattle.pf_world_hosts.proofs.Rows.{same_refl, same_trans}
use Rattle.pf_world_hosts.proofs.Tries.{delivery, none_passed, told_on, try_is, up_to_later, up_to_more, up_to_moved, up_to_other}

-- it begins
pub begins : (limit : ℕ) (old : List ChunkIs) (fleet : FleetIs) (out : List ℕ) (now : List ChunkIs) → AreReady old → IsFleetOf old fleet → AllBegin old now → SettlingStands limit old fleet out limit out now fleet
begins limit old fleet out now ready is_fleet b =
    let same = begin_same old now b in
    let grown = same_grown old now same in
    let are_ready = begin_ready old now b ready in
    let few : length now ≤ 8 = omega (arith, is_fleet.are_hosts.groups, b.count) in
    record {
      ready = are_ready;
      is_fleet = same_fleet old now same fleet is_fleet;
      same = same_refl fleet;
      grown = grown;
      told = [];
      put = sym (append-nil out);
      tries = 0;
      few = omega (arith, room_few now 8 few);
      passed = [];
      up_to = λ k c at told. begun k c at ((are_ready k c at).1.first_sent told) ((are_ready k c at).1.none_left told);
      run = λ halts tells more.
          let none : 0 + more ≡ more = omega arith in
          ap (λ n. settle_to n halts limit [] (volume_stands_at halts old fleet)) none ∙ ap (settle_to more halts limit []) (sym (same_stands old now same halts fleet));
    }
  where
    begun : (k : ℕ) (c : ChunkIs) → slice_get now k ≡ Some c → c.first_left ≤ length (state_of c.group).packets → ((j : ℕ) → j < c.first_left → is_left_in (state_of c.group) j ≡ false) → IsUpTo [] c
    begun k c at sent none =
        let was = something_there old k (subst (λ n. k < n) b.count (slice_get_within now k c at)) in
        let first : c.first_left ≡ c.next = ap (λ (x : ChunkIs). x.first_left) (b.each k was.0 c was.1 at).same in
        none_passed c (subst (λ n. n ≤ length (state_of c.group).packets) first sent) (λ j low. none j (subst (λ n. j < n) (sym first) low))

module _ (limit : ℕ) (old : List ChunkIs) (fleet : FleetIs) (before : List ℕ) (left : ℕ) (out : List ℕ) (head : List ChunkIs) (next : FleetIs) (so_far : SettlingStands limit old fleet before left out head next)
    (now : List ChunkIs) (m : AllMoveUp head now) where
  -- the next packet was looked for
  pub room_moved : room now ≤ room head
  room_moved = room_less head now m.count (λ k was is at to. (m.each k was is at to).above)

  abbrev pub moved : SettlingStands limit old fleet before left out now next
  moved =
      let same = move_same head now m in
      let grown = same_grown head now same in
      record {
        ready = move_ready head now m so_far.ready;
        is_fleet = same_fleet head now same next so_far.is_fleet;
        same = so_far.same;
        grown = grown_trans_all old head now so_far.grown grown;
        told = so_far.told;
        put = so_far.put;
        tries = so_far.tries;
        few = omega (arith, so_far.few, room_moved);
        passed = so_far.passed;
        up_to = λ k c at told.
            let was = something_there head k (subst (λ n. k < n) m.count (slice_get_within now k c at)) in
            let moves = m.each k was.0 c was.1 at in
            let tells = subst (λ (x : ChunkIs). IsTrue x.group.told) moves.same told in
            up_to_moved so_far.passed was.0 c tells (so_far.up_to k was.0 was.1 tells) moves;
        run = λ halts tells more.
            so_far.run halts (tells_before halts head now grown tells) more
            ∙ ap (λ v. having_told so_far.told (settle_to more halts left so_far.passed v)) (sym (same_stands head now same halts next));
      }

-- the next packet was found, in this chunk
pub record HasNext (limit : ℕ) (old : List ChunkIs) (fleet : FleetIs) (before : List ℕ) (left : ℕ) (out : List ℕ) (now : List ChunkIs) (mid : FleetIs) (place : ℕ) (c : ChunkIs) : Type 0 where
  pub so_far : SettlingStands limit old fleet before left out now mid
  pub there : slice_get now place ≡ Some c
  pub next : IsNextChunk place now

pub found : (limit : ℕ) (old : List ChunkIs) (fleet : FleetIs) (before : List ℕ) (left : ℕ) (out : List ℕ) (head : List ChunkIs) (mid : FleetIs) → SettlingStands limit old fleet before left out head mid
    → (now : List ChunkIs) → AllMoveUp head now → (place : ℕ) (d : ChunkIs) → IsNextChunk place now → HasNext limit old fleet before left out now mid place (get_or now place d)
found limit old fleet before left out head mid so_far now m place d next = record {
  so_far = moved limit old fleet before left out head mid so_far now m;
  there = slice_get-get_or now place d next.inside;
  next = next;
}

-- one try, and the steps of the hosts and of the mover
module _ (limit : ℕ) (old : List ChunkIs) (fleet : FleetIs) (before : List ℕ) (left : ℕ) (out : List ℕ) (now : List ChunkIs) (mid : FleetIs) (place : ℕ) (c : ChunkIs) (has : HasNext limit old fleet before (suc left) out now mid place c)
    (which : Try) (middle : List ℕ) (is : ChunkIs) (t : SettlingHasTried c out which middle is) (low : c.next < most_packets)
    (new : List ChunkIs) (last : FleetIs) (after : List ℕ) (steps : FleetHasGone all_step (slice_set now place is) mid middle new last after) (same : AreSameHosts mid last) (stay : AllStay (slice_set now place is) new) where
  pub went : FleetHasGone (event_and_steps (delivery c) c) now mid out new last after
  went = event_then_steps (delivery c) place now c is mid has.there has.so_far.ready has.so_far.is_fleet out middle t.answer t.went new last after steps

  pub answered : (halts : List Halt) → TellsAll halts new → (delivery c halts (run_of halts c)).answer ≡ t.answer
  answered halts tells = ap (λ (h : Happened). h.answer) (t.went.run halts (tells_before halts (slice_set now place is) new steps.grown tells place is (set_there now place c is has.there)))

  abbrev name : PacketName
  name = record { chunk = c.group.number; packet = c.next }

  pub try_runs : (halts : List Halt) → TellsAll halts new → (m : ℕ) → settle_to (suc m) halts (suc left) has.so_far.passed (volume_stands_at halts now mid) ≡ having_told went.told (settling_goes_on (is_refused_for_room t.answer) name left has.so_far.passed (volume_stands_at halts new last) (settle_to m halts))
  try_runs halts tells m =
      try_is halts has.so_far.passed now has.so_far.up_to (all_told halts now (tells_before halts now new went.grown tells)) mid place c has.there has.next left m
      ∙ ap (λ (told : VolumeTold). tried told (is_refused_for_room (delivery c halts (run_of halts c)).answer) name left has.so_far.passed (settle_to m halts)) (went.run halts tells)
      ∙ ap (λ answer. having_told went.told (settling_goes_on (is_refused_for_room answer) name left has.so_far.passed (volume_stands_at halts new last) (settle_to m halts))) (answered halts tells)

  pub put_all : after ≡ before ++ moments_text (has.so_far.told ++ went.told)
  put_all =
      went.put ∙ ap (λ text. text ++ moments_text went.told) has.so_far.put ∙ append_assoc before (moments_text has.so_far.told) (moments_text went.told)
      ∙ ap (λ text. before ++ text) (sym (told_both has.so_far.told went.told))

  room_stays : room new ≤ room (slice_set now place is)
  room_stays = room_less (slice_set now place is) new steps.grown.count (λ k was x at to. let next = (stay k was x at to).next in omega (arith, next))

  -- where the settling of a chunk goes on
  next_here : (x : ChunkIs) → slice_get new place ≡ Some x → x.next ≡ is.next
  next_here x at = (stay place is x (set_there now place c is has.there) at).next

  next_elsewhere : (k : ℕ) (was x : ChunkIs) → k ≢ place → slice_get now k ≡ Some was → slice_get new k ≡ Some x → x.next ≡ was.next
  next_elsewhere k was x other at to = (stay k was x (set_elsewhere now place k is other ∙ at) to).next

  module _ (more : List PacketName) (here : (x : ChunkIs) → slice_get new place ≡ Some x → IsTrue c.group.told → IsUpTo more x) (elsewhere : (k : ℕ) (was x : ChunkIs) → k ≢ place → slice_get now k ≡ Some was → slice_get new k ≡ Some x → IsTrue was.group.told → IsUpTo more x) where
    each_up_to : AreUpTo more new
    each_up_to k x at told = elim (cases_eq k place) [
      | inl it ↦
          let here_at : slice_get new place ≡ Some x = subst (λ j. slice_get new j ≡ Some x) it at in
          here x here_at (told_before c.group x.group (went.grown.each place c x has.there here_at) told)
      | inr other ↦
          let was = something_there now k (subst (λ n. k < n) went.grown.count (slice_get_within new k x at)) in
          elsewhere k was.0 x other was.1 at (told_before was.0.group x.group (went.grown.each k was.0 x was.1 at) told)
    ]

  -- the packet was passed over
  pub room_passed : is.next ≡ c.next + 1 → room new + 1 ≤ room now
  room_passed further = omega (arith, room_stays, room_one now place c is has.there, further, low)

  pub up_to_passed : is.next ≡ c.next + 1 → AreUpTo (name ∷ has.so_far.passed) new
  up_to_passed further =
      each_up_to (name ∷ has.so_far.passed)
      (λ x at told. up_to_more has.so_far.passed c x (has.so_far.up_to place c has.there told) (went.grown.each place c x has.there at)
      (least_found (state_of c.group) c.next c.next (has.next.least c has.there told)).under (next_here x at ∙ further))
      (λ k was x other at to told. up_to_other has.so_far.passed was x (has.so_far.up_to k was at told) (went.grown.each k was x at to) name
      (λ e. other (sym (has.so_far.ready k was at).0 ∙ sym e ∙ (has.so_far.ready place c has.there).0)) (next_elsewhere k was x other at to))

  abbrev pub passed_one : is_refused_for_room t.answer ≡ true → is.next ≡ c.next + 1 → SettlingStands limit old fleet before (suc left) after new last
  passed_one over further = record {
    ready = went.ready;
    is_fleet = went.is_fleet;
    same = same_trans fleet mid last has.so_far.same same;
    grown = grown_trans_all old now new has.so_far.grown went.grown;
    told = has.so_far.told ++ went.told;
    put = put_all;
    tries = has.so_far.tries + 1;
    few = omega (arith, has.so_far.few, room_passed further);
    passed = name ∷ has.so_far.passed;
    up_to = up_to_passed further;
    run = λ halts tells m.
        let more : (has.so_far.tries + 1) + m ≡ has.so_far.tries + suc m = omega arith in
        ap (λ n. settle_to n halts limit [] (volume_stands_at halts old fleet)) more
        ∙ has.so_far.run halts (tells_before halts now new went.grown tells) (suc m)
        ∙ ap (having_told has.so_far.told) (try_runs halts tells m ∙ ap (λ b. having_told went.told (settling_goes_on b name left has.so_far.passed (volume_stands_at halts new last) (settle_to m halts))) over)
        ∙ told_on has.so_far.told went.told (settle_to m halts (suc left) (name ∷ has.so_far.passed) (volume_stands_at halts new last));
  }

  -- it was delivered
  pub room_delivered : is.next ≡ c.next → room new ≤ room now
  room_delivered still = omega (arith, room_stays, room_one now place c is has.there, still)

  pub up_to_delivered : is.next ≡ c.next → AreUpTo has.so_far.passed new
  up_to_delivered still =
      each_up_to has.so_far.passed
      (λ x at told. up_to_later has.so_far.passed c x (has.so_far.up_to place c has.there told) (went.grown.each place c x has.there at) (next_here x at ∙ still))
      (λ k was x other at to told. up_to_later has.so_far.passed was x (has.so_far.up_to k was at told) (went.grown.each k was x at to) (next_elsewhere k was x other at to))

  abbrev pub delivered_one : is_refused_for_room t.answer ≡ false → is.next ≡ c.next → SettlingStands limit old fleet before left after new last
  delivered_one not_over still = record {
    ready = went.ready;
    is_fleet = went.is_fleet;
    same = same_trans fleet mid last has.so_far.same same;
    grown = grown_trans_all old now new has.so_far.grown went.grown;
    told = has.so_far.told ++ went.told;
    put = put_all;
    tries = has.so_far.tries + 1;
    few = omega (arith, has.so_far.few, room_delivered still);
    passed = has.so_far.passed;
    up_to = up_to_delivered still;
    run = λ halts tells m.
        let more : (has.so_far.tries + 1) + m ≡ has.so_far.tries + suc m = omega arith in
        ap (λ n. settle_to n halts limit [] (volume_stands_at halts old fleet)) more
        ∙ has.so_far.run halts (tells_before halts now new went.grown tells) (suc m)
        ∙ ap (having_told has.so_far.told) (try_runs halts tells m ∙ ap (λ b. having_told went.told (settling_goes_on b name left has.so_far.passed (volume_stands_at halts new last) (settle_to m halts))) not_over)
        ∙ told_on has.so_far.told went.told (settle_to m halts left has.so_far.passed (volume_stands_at halts new last));
  }
