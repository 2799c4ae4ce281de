-- What the fields of a scan stand for.
use Rattle.std.specs.Prelude.{◌≡◌, ℕ, ◌+◌, ◌-◌, ◌*◌, length, Result, Ok, Err, Vec}
use Rattle.std.specs.declared.alloc.Global.{Global}
use Rattle.pf_run_lines.specs.declared.scan.Scan.{Scan}
use Rattle.pf_run_lines.specs.declared.scan.Stop.{Stop}
use Rattle.pf_run_lines.specs.declared.scan.Stop.TheVariants as stops
use Rattle.pf_run_lines.specs.LineScans.{Scanned, Open, Refused, Judged}

module _ {S I : Type 0} where
  abbrev pub scanned : {g : _} → Scan S I g → Scanned S I
  scanned s = Open s.items.items s.number s.reader s.begun.items

  -- what was answered is what comes next, unless memory ran out
  abbrev pub Told : Result (Unit {0}) Stop → Scanned S I → Scanned S I → Type 0
  Told (Ok done) next now = next ≡ now
  Told (Err stops.NoMemory) next now = Unit {0}
  Told (Err (stops.Refused line fault)) next now = next ≡ Refused line fault
  Told (Err stops.Failed) next now = ⊥

  -- how many bytes more a text may have at most before a line of it is refused
  abbrev pub room : {g : _} → Scan S I g → ℕ
  room s = (100001 - s.number) * 1025 + (1024 - length s.begun.items)

-- the judgement that was answered
abbrev pub ScanEnds : {I : Type 0} → Result (Vec I Global) Stop → Judged I → Type 0
ScanEnds (Ok items) judged = judged ≡ Ok items.items
ScanEnds (Err stops.NoMemory) judged = Unit {0}
ScanEnds (Err (stops.Refused line fault)) judged = judged ≡ Err (line, fault)
ScanEnds (Err stops.Failed) judged = ⊥
