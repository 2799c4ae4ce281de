use Rattle.std.proofs.Common.{◌≡◌, map, take}
use Rattle.pf_chunk.proofs.showing.slots_of.Given as goal

abbrev pub invariant-loop-one : goal.invariant-loop-one
invariant-loop-one l = l.slots.items ≡ map (λ a. a.slot) (take l.one-index l.acked)
