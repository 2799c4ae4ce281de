-- What was read of the lines of a source.
use Rattle.std.specs.Prelude.{◌≡◌, ◌≤◌, ◌⊎◌, ℕ, List, ◌++◌, length, Option, IfSome, Ok, Err}
use Rattle.std.specs.Io.KnownBytes.{Consumes, IsAtEnd}
use Rattle.pf_script.specs.declared.command.LineFault.{LineFault}
use Rattle.pf_run_lines.specs.declared.scan.Stop.{Stop}
use Rattle.pf_run_lines.specs.declared.scan.Stop.TheVariants as stops
use Rattle.pf_run_lines.specs.LineScans.{ScanIsOpen, LineRules, Scanned, Refused, judged, scan}

-- the text of a source, where it tells its bytes
abbrev pub IsSource : Option (List ℕ) → List ℕ → Type 0
IsSource left text = IfSome left (λ bytes. text ≡ bytes)

module _ {S I : Type 0} (rules : LineRules S I) (start : S) where
  -- the text was read to its end, and is accepted with these lines
  pub record IsText (left rest : Option (List ℕ)) (items : List I) : Type 0 where
    pub text : List ℕ
    pub source : IsSource left text
    pub accepted : judged rules start text ≡ Ok items
    pub whole : IsAtEnd rest

  -- a line of the text is refused
  pub record IsRefused (left : Option (List ℕ)) (line : ℕ) (fault : LineFault) : Type 0 where
    pub text : List ℕ
    pub source : IsSource left text
    pub refused : judged rules start text ≡ Err (line, fault)

  -- some bytes of the text were read, and this is their scan
  pub record IsRead (left rest : Option (List ℕ)) (scanned : Scanned S I) : Type 0 where
    pub bytes : List ℕ
    pub taken : Consumes left rest bytes
    pub scan_is : scan rules start bytes ≡ scanned

  -- some bytes of the text were read, and no refused line was whole in them
  pub record IsUndecided (left rest : Option (List ℕ)) : Type 0 where
    pub bytes : List ℕ
    pub taken : Consumes left rest bytes
    pub undecided : ScanIsOpen (scan rules start bytes)

  -- the refused line is whole in these bytes; or they are the whole text, which is refused as it ends
  abbrev pub RefusedIn : (rest : Option (List ℕ)) → (bytes : List ℕ) → (line : ℕ) → (fault : LineFault) → Type 0
  RefusedIn rest bytes line fault =
      (scan rules start bytes ≡ Refused line fault) ⊎ (IsAtEnd rest × ScanIsOpen (scan rules start bytes) × (judged rules start bytes ≡ Err (line, fault)))

  -- The bytes that were read when a line was refused: no refused line was whole before the last piece, of at most 4,096 bytes, and nothing
  -- was read behind that piece.
  pub record IsReadUpto (left rest : Option (List ℕ)) (line : ℕ) (fault : LineFault) : Type 0 where
    pub earlier : List ℕ
    pub last : List ℕ
    pub taken : Consumes left rest (earlier ++ last)
    pub short : length last ≤ 4096
    pub undecided : ScanIsOpen (scan rules start earlier)
    pub refused : RefusedIn rest (earlier ++ last) line fault

-- what is told of a refused line, and of a fault
abbrev pub StopSays : Stop → (ℕ → LineFault → Type 0) → Type 0 → Type 0
StopSays stops.NoMemory refused failed = Unit {0}
StopSays (stops.Refused line fault) refused failed = refused line fault
StopSays stops.Failed refused failed = failed
