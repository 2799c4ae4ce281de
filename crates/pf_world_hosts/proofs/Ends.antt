-- How a settling of a volume ends.
use Rattle.std.proofs.Common.{◌≡◌, ℕ, suc, ◌+◌, ◌-◌, ◌*◌, Bool, true, false, List, [], length, Some, append-nil, arith, refl, sym, ap, subst, ◌∙◌}
use Rattle.pf_protocol.specs.Answers.{most_packets}
use Rattle.pf_mount_host.specs.pf_group.specs.Packets.{is_refused_for_room}
use Rattle.pf_mount_host.specs.pf_group_rounds.specs.Halts.{Halt}
use Rattle.pf_mount_host.specs.pf_chunk.specs.Views.{ChunkIs, run_of}
use Rattle.pf_mount_host.specs.pf_world_moments.specs.Moments.{Moment}
use Rattle.pf_mount_host.specs.pf_world_moments.specs.Steps.{HaveBegun, TellsAll, chunk_runs}
use Rattle.pf_world_hosts.specs.Nexts.{AreQuietBelow}
use Rattle.pf_world_hosts.specs.Settled.{HasNotSettled, HasSettled, trying}
use Rattle.pf_world_hosts.specs.Settling.{SettlingHasEnded, IsEnd, PacketName, Settled, ends, enough_tries, settling_goes_on, having_told, next_packet, settle_next, settle_to, settled}
use Rattle.pf_world_hosts.specs.Steps.{FleetIs, FleetHasStopped, volume_stands_at}
use Rattle.pf_world_hosts.specs.Tries.{SettlingStands}
use Rattle.pf_world_hosts.specs.Volumes.{VolumeRun}
use Rattle.pf_world_hosts.proofs.Events.{event_and_steps}
use Rattle.pf_world_hosts.proofs.ChunkGrowth.{all_told, tells_before}
use Rattle.pf_world_hosts.proofs.SoFar.{HasNext}
use Rattle.pf_world_hosts.proofs.Tries.{delivery, next_there, none_next, settle_suc, try_is}

pub settled_is : (halts : List Halt) (limit : ℕ) (v : VolumeRun) → settled halts limit v ≡ settle_to (enough_tries limit) halts limit [] v
unfolding settled
settled_is halts limit v = refl

module _ (limit : ℕ) (old : List ChunkIs) (fleet : FleetIs) (before : List ℕ) (left : ℕ) (out : List ℕ) (now : List ChunkIs) (next : FleetIs) (so_far : SettlingStands limit old fleet before left out now next) where
  -- one try more is enough
  module _ (stopped : Bool) (ending : (halts : List Halt) → TellsAll halts now → (m : ℕ) → settle_to (suc m) halts left so_far.passed (volume_stands_at halts now next) ≡ ends stopped left so_far.passed (volume_stands_at halts now next))
      (end : (halts : List Halt) → TellsAll halts now → IsEnd stopped left (next_packet so_far.passed (chunk_runs halts now))) where
    whole : (halts : List Halt) → TellsAll halts now → settled halts limit (volume_stands_at halts old fleet) ≡ record { volume = volume_stands_at halts now next; told = so_far.told; stopped = stopped; spare = left; passed = so_far.passed }
    whole halts tells =
        let m = (limit + 8 * most_packets) - so_far.tries in
        let count : enough_tries limit ≡ so_far.tries + suc m = omega (arith, so_far.few) in
        settled_is halts limit (volume_stands_at halts old fleet)
        ∙ ap (λ n. settle_to n halts limit [] (volume_stands_at halts old fleet)) count
        ∙ so_far.run halts tells (suc m)
        ∙ ap (having_told so_far.told) (ending halts tells m)
        ∙ ap (λ (told : List Moment). record (ends stopped left so_far.passed (volume_stands_at halts now next)) { told = told }) (append-nil so_far.told)

    ended : HasSettled limit old fleet before stopped now next out
    ended = record {
      went = record {
        ready = so_far.ready;
        is_fleet = so_far.is_fleet;
        grown = so_far.grown;
        told = so_far.told;
        put = so_far.put;
        run = λ halts tells. ap (λ (s : Settled). record { volume = s.volume; told = s.told }) (whole halts tells);
      };
      same = so_far.same;
      answered = λ halts tells. ap (λ (s : Settled). s.stopped) (whole halts tells);
      ends = λ halts tells. subst SettlingHasEnded (sym (whole halts tells)) (end halts tells);
    }

  -- no packet is left
  pub all_quiet : AreQuietBelow (length now) now → HasSettled limit old fleet before false now next out
  all_quiet quiet =
      let none : (halts : List Halt) → TellsAll halts now → next_packet so_far.passed (chunk_runs halts now) ≡ _ = λ halts tells. none_next halts so_far.passed now so_far.up_to (all_told halts now tells) next quiet in
      ended false
      (λ halts tells m. settle_suc m halts left so_far.passed (volume_stands_at halts now next) ∙ ap (λ o. settle_next halts o (settle_to m halts) left so_far.passed (volume_stands_at halts now next)) (none halts tells))
      (λ halts tells. subst (IsEnd false left) (sym (none halts tells)) tt)

-- a packet is left, and no delivery
pub all_made : (limit : ℕ) (old : List ChunkIs) (fleet : FleetIs) (before : List ℕ) (out : List ℕ) (now : List ChunkIs) (mid : FleetIs) (place : ℕ) (c : ChunkIs) → HasNext limit old fleet before 0 out now mid place c → HasSettled limit old fleet before true now mid out
all_made limit old fleet before out now mid place c has =
    let s = has.so_far in
    let it : (halts : List Halt) → TellsAll halts now → next_packet s.passed (chunk_runs halts now) ≡ Some (record { chunk = run_of halts c; packet = c.next }) = λ halts tells. next_there halts s.passed now s.up_to (all_told halts now tells) mid place c has.there has.next in
    ended limit old fleet before 0 out now mid s true
    (λ halts tells m. settle_suc m halts 0 s.passed (volume_stands_at halts now mid) ∙ ap (λ o. settle_next halts o (settle_to m halts) 0 s.passed (volume_stands_at halts now mid)) (it halts tells))
    (λ halts tells. subst (IsEnd true 0) (sym (it halts tells)) refl)

-- nothing follows on the only try
pub goes_nowhere : (halts : List Halt) (over : Bool) (name : PacketName) (left : ℕ) (passed : List PacketName) (v : VolumeRun) → (settling_goes_on over name left passed v (settle_to 0 halts)).volume ≡ v
unfolding settle_to
goes_nowhere halts true name left passed v = refl
goes_nowhere halts false name left passed v = refl

-- there was no memory for one more try
pub not_settled : (limit : ℕ) (old : List ChunkIs) (fleet : FleetIs) (before : List ℕ) (left : ℕ) (out : List ℕ) (now : List ChunkIs) (mid : FleetIs) (place : ℕ) (c : ChunkIs) → HasNext limit old fleet before (suc left) out now mid place c
    → (new : List ChunkIs) → FleetHasStopped (event_and_steps (delivery c) c) now mid new → HasNotSettled limit old fleet new
not_settled limit old fleet before left out now mid place c has new f = record {
  tries = has.so_far.tries;
  few = omega (arith, has.so_far.few);
  left = suc left;
  passed = has.so_far.passed;
  told = has.so_far.told;
  mid = now;
  mid_fleet = mid;
  grown = has.so_far.grown;
  run = has.so_far.run;
  stopped = record {
    grown = f.grown;
    begun = λ halts tells. subst (λ (v : VolumeRun). HaveBegun halts now v.chunks new) (sym (comes_to halts (tells_before halts now new f.grown tells))) (f.begun halts tells);
  };
} where
  comes_to : (halts : List Halt) → TellsAll halts now → (trying (suc left) has.so_far.passed halts (volume_stands_at halts now mid)).volume ≡ (event_and_steps (delivery c) c halts (volume_stands_at halts now mid)).volume
  comes_to halts tells =
      ap (λ (s : Settled). s.volume) (try_is halts has.so_far.passed now has.so_far.up_to (all_told halts now tells) mid place c has.there has.next left 0)
      ∙ goes_nowhere halts (is_refused_for_room (delivery c halts (run_of halts c)).answer) (record { chunk = c.group.number; packet = c.next }) left has.so_far.passed (event_and_steps (delivery c) c halts (volume_stands_at halts now mid)).volume
