-- Finite maps from numbers, as std has them.
use Rattle.std.specs.Ordering.{nat_cmp}
use Rattle.std.specs.FinMap.{FinMap}

-- from slots, or from terms
abbrev pub Map : Type 0 → Type 0
Map X = FinMap nat_cmp X

-- a set of slots, or of servers
abbrev pub Numbers : Type 0
Numbers = Map (Unit {0})
