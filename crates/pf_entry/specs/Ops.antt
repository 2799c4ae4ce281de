-- What one slot does to a chunk.
use Rattle.std.specs.Prelude.{ℕ, ◌-◌, Bool, false, List, replicate, slice_index_or}
use Rattle.pf_base.specs.Span.{Span, is_in, empty_span, whole_span}
use Rattle.pf_entry.specs.declared.ops.Op.{Op}
use Rattle.pf_entry.specs.declared.ops.Op.TheVariants.{Write, Noop, Mark}

-- the bytes of a sector
abbrev pub Sector : Type 0
Sector = List ℕ

unfoldable pub zero_sector : Sector
zero_sector = replicate 512 0

-- the sectors by which the op is ordered against others
unfoldable pub range_of : Op → Span
range_of (Write range payload) = range
range_of Noop = empty_span
range_of Mark = whole_span

-- whether the op writes the sector
unfoldable pub writes : Op → ℕ → Bool
writes (Write range payload) x = is_in range x
writes Noop x = false
writes Mark x = false

-- what it writes there
unfoldable pub written : Op → ℕ → Sector → Sector
written (Write range payload) x old = slice_index_or payload (x - range.first) old
written Noop x old = old
written Mark x old = old
