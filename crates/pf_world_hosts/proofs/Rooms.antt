-- How many packets settlings may pass over still.
use Rattle.std.proofs.Common.{◌≡◌, ℕ, zero, suc, ◌+◌, ◌-◌, ◌*◌, ◌≤◌, List, [], ◌∷◌, length, Some, slice_get, slice_set, arith, refl, ap}
use Rattle.std.proofs.Math.Nat.{suc-mul}
use Rattle.std.proofs.lemmas.Option.{none-some, same_Some}
use Rattle.pf_protocol.specs.Answers.{most_packets}
use Rattle.pf_mount_host.specs.pf_chunk.specs.Views.{ChunkIs}
use Rattle.pf_world_hosts.specs.Tries.{room}

pub room_few : (cs : List ChunkIs) (n : ℕ) → length cs ≤ n → room cs ≤ n * most_packets
room_few [] n low = omega arith
room_few (c ∷ cs) zero low = absurd (omega arith)
room_few (c ∷ cs) (suc n) low = omega (arith, room_few cs n (omega arith), suc-mul n most_packets)

-- it is less where they stand further up
pub room_less : (old new : List ChunkIs) → length new ≡ length old → ((k : ℕ) (was is : ChunkIs) → slice_get old k ≡ Some was → slice_get new k ≡ Some is → was.next ≤ is.next) → room new ≤ room old
room_less [] [] count up = omega arith
room_less [] (y ∷ ys) count up = absurd (omega arith)
room_less (x ∷ xs) [] count up = absurd (omega arith)
room_less (x ∷ xs) (y ∷ ys) count up =
    let here : x.next ≤ y.next = up 0 x y refl refl in
    let rest = room_less xs ys (omega arith) (λ k was is at to. up (suc k) was is at to) in
    omega arith

-- where one moved
pub room_one : (cs : List ChunkIs) (k : ℕ) (c d : ChunkIs) → slice_get cs k ≡ Some c → room (slice_set cs k d) + (most_packets - c.next) ≡ room cs + (most_packets - d.next)
room_one [] k c d at = absurd (none-some c at)
room_one (x ∷ xs) zero c d at =
    let same : x.next ≡ c.next = ap (λ (y : ChunkIs). y.next) (same_Some x c at) in
    omega arith
room_one (x ∷ xs) (suc k) c d at =
    let rest = room_one xs k c d at in
    omega arith
