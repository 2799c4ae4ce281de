use Rattle.std.proofs.Common.{◌≡◌, ◌++◌, ℕ, List, Contains, take}
use Rattle.pf_chunklog.proofs.reading.behind_head.Given as goal

abbrev pub invariant-loop-head : goal.invariant-loop-head
invariant-loop-head l = (head rest : List ℕ) → Contains (take l.head-index l.heads) head → l.bytes ≡ head ++ rest → ⊥
