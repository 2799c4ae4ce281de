-- Tries of a settling, in the run and in the chunks.
use Rattle.std.proofs.Common.{◌≡◌, ◌≢◌, inl, inr, ℕ, zero, suc, ◌+◌, ◌<◌, ◌≤◌, Bool, true, false, IsTrue, ◌&&◌, ◌||◌, ◌==◌, List, [], ◌∷◌, ◌++◌, length, Some, None, slice_get, append_assoc, arith, refl, sym, ap, subst, ◌∙◌}
use Rattle.std.proofs.lemmas.Bool.{cases_lt, eq-eqb, ne_eqb, false≢true}
use Rattle.std.proofs.lemmas.Option.{none-some, same_Some}
use Rattle.pf_protocol.specs.declared.events.Event.TheVariants.{Deliver}
use Rattle.pf_protocol.specs.Groups.{Group}
use Rattle.pf_mount_host.specs.pf_group.specs.GroupIs.{state_of}
use Rattle.pf_mount_host.specs.pf_group.specs.Packets.{IsPassedUpTo, is_left_in, is_refused_for_room, least_from}
use Rattle.pf_mount_host.specs.pf_group.proofs.PassedPackets.{least_is, one_more_passed, passed_later}
use Rattle.pf_mount_host.specs.pf_group_rounds.specs.Growing.{HasGrown}
use Rattle.pf_mount_host.specs.pf_group_rounds.specs.Halts.{Halt}
use Rattle.pf_mount_host.specs.pf_chunk.specs.Happenings.{happened}
use Rattle.pf_mount_host.specs.pf_chunk.specs.Steps.{ChunkEvent}
use Rattle.pf_mount_host.specs.pf_chunk.specs.Views.{ChunkIs, run_of}
use Rattle.pf_mount_host.specs.pf_world_moments.specs.Moments.{Moment}
use Rattle.pf_mount_host.specs.pf_world_moments.specs.Steps.{chunk_runs}
use Rattle.pf_world_hosts.specs.Nexts.{AreQuietBelow, IsNextChunk, MovesUp}
use Rattle.pf_world_hosts.specs.Settling.{PacketName, Settled, having_told, is_among, least_left_of_chunk, next_in_chunk, next_packet, settle_next, settle_to, tried}
use Rattle.pf_world_hosts.specs.Steps.{FleetIs, volume_stands_at}
use Rattle.pf_world_hosts.specs.Tries.{AreUpTo, IsUpTo}
use Rattle.pf_world_hosts.specs.Volumes.{VolumeRun, volume_happens}
use Rattle.pf_world_hosts.proofs.ChunkGrowth.{AreTold, grown_left, only_sent}

pub settle_suc : (m : ℕ) (halts : List Halt) (limit : ℕ) (passed : List PacketName) (v : VolumeRun) → settle_to (suc m) halts limit passed v ≡ settle_next halts (next_packet passed v.chunks) (settle_to m halts) limit passed v
unfolding settle_to
settle_suc m halts limit passed v = refl

pub told_on : (a b : List Moment) (s : Settled) → having_told a (having_told b s) ≡ having_told (a ++ b) s
told_on a b s = ap (λ (told : List Moment). record s { told = told }) (sym (append_assoc a b s.told))

-- Where the settling of a chunk stands, past these packets

-- no packet was passed over, and none below is left
pub none_passed : (c : ChunkIs) → c.next ≤ length (state_of c.group).packets → ((k : ℕ) → k < c.next → is_left_in (state_of c.group) k ≡ false) → IsUpTo [] c
none_passed c sent none = record {
  over = record { below = λ k is. absurd (false≢true is); all = λ k low left. absurd (false≢true (sym (none k low) ∙ left)) };
  sent = sent;
}

-- it moves up
pub up_to_moved : (passed : List PacketName) (was is : ChunkIs) → IsTrue was.group.told → IsUpTo passed was → MovesUp was is → IsUpTo passed is
up_to_moved passed was is told up m = subst (IsUpTo passed) (sym m.same) (record {
  over = record {
    below = λ j among. omega (arith, m.above, up.over.below j among);
    all = λ j low left. elim (cases_lt j was.next) [
      | inl under ↦ up.over.all j under left
      | inr from ↦ absurd (false≢true (sym (m.none told j from low) ∙ left))
    ];
  };
  sent = m.sent told up.sent;
})

over_is : (g : Group) (next : ℕ) (p q : ℕ → Bool) → ((k : ℕ) → q k ≡ p k) → IsPassedUpTo g p next → IsPassedUpTo g q next
over_is g next p q same are = record { below = λ k is. are.below k (sym (same k) ∙ is); all = λ k low left. same k ∙ are.all k low left }

module _ (passed : List PacketName) (c d : ChunkIs) (up : IsUpTo passed c) (grown : HasGrown c.group d.group) where
  over_later : IsPassedUpTo (state_of d.group) (is_among passed d.group.number) c.next
  over_later = subst (λ n. IsPassedUpTo (state_of d.group) (is_among passed n) c.next) (sym grown.number)
      (passed_later (state_of c.group) (is_among passed c.group.number) c.next up.over (state_of d.group) (grown_left c.group d.group grown) up.sent)

  -- more happened
  pub up_to_later : d.next ≡ c.next → IsUpTo passed d
  up_to_later next = record {
    over = subst (IsPassedUpTo (state_of d.group) (is_among passed d.group.number)) (sym next) over_later;
    sent = omega (arith, next, up.sent, (only_sent c.group d.group grown).longer);
  }

  -- and a packet of another chunk was passed over
  pub up_to_other : (name : PacketName) → name.chunk ≢ c.group.number → d.next ≡ c.next → IsUpTo (name ∷ passed) d
  up_to_other name other next = record {
    over = over_is (state_of d.group) d.next (is_among passed d.group.number) (is_among (name ∷ passed) d.group.number)
        (λ k. ap (λ b. (b && (name.packet == k)) || is_among passed d.group.number k) (ne_eqb name.chunk d.group.number (λ e. other (e ∙ grown.number)))) (up_to_later next).over;
    sent = (up_to_later next).sent;
  }

  -- and its own next packet was
  pub up_to_more : c.next < length (state_of c.group).packets → d.next ≡ c.next + 1 → IsUpTo (record { chunk = c.group.number; packet = c.next } ∷ passed) d
  up_to_more low next = record {
    over = subst (IsPassedUpTo (state_of d.group) (is_among more d.group.number)) (sym next)
        (one_more_passed (state_of d.group) (is_among passed d.group.number) c.next over_later (is_among more d.group.number)
        (λ k. ap (λ b. (b && (c.next == k)) || is_among passed d.group.number k) (eq-eqb c.group.number d.group.number (sym grown.number)) ∙ swapped (c.next == k) (is_among passed d.group.number k)));
    sent = omega (arith, next, low, (only_sent c.group d.group grown).longer);
  } where
    more : List PacketName
    more = record { chunk = c.group.number; packet = c.next } ∷ passed

    swapped : (a b : Bool) → (a || b) ≡ (b || a)
    swapped true true = refl
    swapped true false = refl
    swapped false true = refl
    swapped false false = refl

-- The next packet of the run

next_found : (halts : List Halt) (passed : List PacketName) (cs : List ChunkIs) (place : ℕ) (c : ChunkIs) (packet : ℕ) → slice_get cs place ≡ Some c → ((k : ℕ) (d : ChunkIs) → k < place → slice_get cs k ≡ Some d → least_left_of_chunk passed (run_of halts d) ≡ None) → least_left_of_chunk passed (run_of halts c) ≡ Some packet
    → next_packet passed (chunk_runs halts cs) ≡ Some (record { chunk = run_of halts c; packet = packet })
next_found halts passed [] place c packet there quiet least = absurd (none-some c there)
next_found halts passed (x ∷ xs) zero c packet there quiet least =
    ap (λ (y : ChunkIs). next_in_chunk (run_of halts y) (least_left_of_chunk passed (run_of halts y)) (next_packet passed (chunk_runs halts xs))) (same_Some x c there)
    ∙ ap (λ o. next_in_chunk (run_of halts c) o (next_packet passed (chunk_runs halts xs))) least
next_found halts passed (x ∷ xs) (suc place) c packet there quiet least =
    ap (λ o. next_in_chunk (run_of halts x) o (next_packet passed (chunk_runs halts xs))) (quiet 0 x (omega arith) refl)
    ∙ next_found halts passed xs place c packet there (λ k d low at. quiet (suc k) d (omega (arith, low)) at) least

none_found : (halts : List Halt) (passed : List PacketName) (cs : List ChunkIs) → ((k : ℕ) (d : ChunkIs) → k < length cs → slice_get cs k ≡ Some d → least_left_of_chunk passed (run_of halts d) ≡ None) → next_packet passed (chunk_runs halts cs) ≡ None
none_found halts passed [] quiet = refl
none_found halts passed (x ∷ xs) quiet =
    ap (λ o. next_in_chunk (run_of halts x) o (next_packet passed (chunk_runs halts xs))) (quiet 0 x (omega arith) refl)
    ∙ none_found halts passed xs (λ k d low at. quiet (suc k) d (omega (arith, low)) at)

-- the least packet of a chunk in the run is the one at which its settling goes on
least_there : (halts : List Halt) (passed : List PacketName) (c : ChunkIs) → IsUpTo passed c → least_left_of_chunk passed (run_of halts c) ≡ least_from c.next (state_of c.group)
least_there halts passed c up = least_is (state_of c.group) (is_among passed c.group.number) c.next up.over

-- the delivery of the next packet of a chunk
abbrev pub delivery : ChunkIs → ChunkEvent
delivery c halts d = happened halts d (Deliver c.next)

module _ (halts : List Halt) (passed : List PacketName) (chunks : List ChunkIs) (up : AreUpTo passed chunks) (told : AreTold chunks) (f : FleetIs) where
  -- no packet is left
  pub none_next : AreQuietBelow (length chunks) chunks → next_packet passed (chunk_runs halts chunks) ≡ None
  none_next quiet = none_found halts passed chunks (λ k d low at. least_there halts passed d (up k d at (told k d at)) ∙ quiet k d low at (told k d at))

  module _ (place : ℕ) (c : ChunkIs) (there : slice_get chunks place ≡ Some c) (next : IsNextChunk place chunks) where
    pub next_there : next_packet passed (chunk_runs halts chunks) ≡ Some (record { chunk = run_of halts c; packet = c.next })
    next_there = next_found halts passed chunks place c c.next there
        (λ k d low at. least_there halts passed d (up k d at (told k d at)) ∙ next.below k d low at (told k d at))
        (least_there halts passed c (up place c there (told place c there)) ∙ next.least c there (told place c there))

    -- one try
    pub try_is : (left m : ℕ) → settle_to (suc m) halts (suc left) passed (volume_stands_at halts chunks f)
        ≡ tried (volume_happens halts (volume_stands_at halts chunks f) (delivery c halts (run_of halts c))) (is_refused_for_room (delivery c halts (run_of halts c)).answer) (record { chunk = c.group.number; packet = c.next }) left passed (settle_to m halts)
    try_is left m =
        settle_suc m halts (suc left) passed (volume_stands_at halts chunks f)
        ∙ ap (λ o. settle_next halts o (settle_to m halts) (suc left) passed (volume_stands_at halts chunks f)) next_there
