use Rattle.std.proofs.Common.{◌≡◌, ◌+◌, ◌<◌, map, ℕ}
use Rattle.std.specs.List.{range_with_len}
use Rattle.pf_volume.specs.Volumes.{place_of, size_of}
use Rattle.pf_volume.proofs.volume.Volume.split.Given as goal

abbrev pub invariant-loop-k : goal.invariant-loop-k
invariant-loop-k l = (l.places.items ≡ map (place_of l.self) (range_with_len l.first l.k)) × ((j : ℕ) → j < l.k → l.first + j < size_of l.self)
