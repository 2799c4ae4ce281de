-- How often the disks of a store have failed.
use Rattle.std.specs.Prelude.{ℕ}
use Rattle.pf_disk_store.specs.declared.kept.Kept.{Kept}

-- the counts of half 0 and of half 1
abbrev pub faults_of : {D : Type 0} → (D → ℕ) → Kept D → ℕ × ℕ
faults_of faults kept = (faults kept.pair.zero.disk, faults kept.pair.one.disk)
