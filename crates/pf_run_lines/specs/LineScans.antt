-- The lines of a text, cut at its line feeds: what they say, or which of them is refused.
use Rattle.std.specs.Prelude.{ℕ, ◌+◌, ◌==◌, nat_lt, Bool, ◌&&◌, ◌||◌, if◌then◌else◌, List, [], ◌∷◌, ◌++◌, length, Option, Some, None, Result, Ok, Err}
use Rattle.std.specs.List.{slice_split}
use Rattle.pf_script.specs.declared.command.LineFault.{LineFault}
use Rattle.pf_script.specs.declared.command.LineFault.TheVariants.{LineTooLong, TooManyLines}

-- what a line of this number says of itself, where this is known of those before it; what is known behind a line that said this; and
-- whether the text may end there
pub record LineRules (S I : Type 0) : Type 0 where
  pub says : ℕ → S → List ℕ → Result (Option I) LineFault
  pub next : S → Option I → S
  pub end : S → Result (Unit {0}) LineFault

-- a part of a text: what its lines said, the number of the line that has begun, what is known by then, and the bytes of that line; or its
-- first refused line
pub data Scanned (S I : Type 0) : Type 0 where
  Open : (items : List I) (number : ℕ) (state : S) (begun : List ℕ) → Scanned S I
  Refused : (line : ℕ) (fault : LineFault) → Scanned S I

abbrev pub is_feed : ℕ → Bool
is_feed byte = byte == 10

-- whether a line that has begun is refused already: a line is whole at its 1,025th byte, and line 100,001 at its first
abbrev pub is_line_over : ℕ → List ℕ → Bool
is_line_over number begun = (nat_lt 100000 number && nat_lt 0 (length begun)) || nat_lt 1024 (length begun)

-- why: the number of the line comes first
abbrev pub over_fault : ℕ → LineFault
over_fault number = if nat_lt 100000 number then TooManyLines else LineTooLong

-- what the lines of a whole text said, or the number of its first refused line and why
abbrev pub Judged : (I : Type 0) → Type 0
Judged I = Result (List I) (ℕ × LineFault)

-- a part of a text in which no refused line is whole
abbrev pub ScanIsOpen : {S I : Type 0} → Scanned S I → Type 0
ScanIsOpen (Open items number state begun) = Unit {0}
ScanIsOpen (Refused line fault) = ⊥

abbrev pub said_list : {I : Type 0} → Option I → List I
said_list None = []
said_list (Some item) = item ∷ []

-- what a line said, in front of what follows
abbrev pub onto : {S I : Type 0} → Option I → Scanned S I → Scanned S I
onto None rest = rest
onto (Some item) (Open items next state begun) = Open (item ∷ items) next state begun
onto (Some item) (Refused line fault) = Refused line fault

abbrev pub went : {S I : Type 0} → ℕ → Result (Option I) LineFault → Scanned S I → Scanned S I
went number (Err fault) rest = Refused number fault
went number (Ok said) rest = onto said rest

abbrev pub begun_with : {S I : Type 0} → ℕ → S → List ℕ → Scanned S I
begun_with number state begun = if is_line_over number begun then Refused number (over_fault number) else Open [] number state begun

module _ {S I : Type 0} (rules : LineRules S I) where
  -- what a whole line says: there are at most 100,000, of at most 1,024 bytes
  abbrev pub read_line : ℕ → S → List ℕ → Result (Option I) LineFault
  read_line number state line =
      if nat_lt 100000 number then Err TooManyLines
      else if nat_lt 1024 (length line) then Err LineTooLong
      else rules.says number state line

  abbrev pub after : S → Result (Option I) LineFault → S
  after state (Ok said) = rules.next state said
  after state (Err fault) = state

  -- the lines from one on: all but the last are whole
  abbrev pub scan_from : ℕ → S → List ℕ → List (List ℕ) → Scanned S I
  scan_from number state line [] = begun_with number state line
  scan_from number state line (next ∷ rest) =
      went number (read_line number state line) (scan_from (number + 1) (after state (read_line number state line)) next rest)

  abbrev pub scan_pieces : S → List (List ℕ) → Scanned S I
  scan_pieces start [] = Open [] 1 start []
  scan_pieces start (line ∷ rest) = scan_from 1 start line rest

  -- a part of a text, cut at its line feeds
  unfoldable pub scan : S → List ℕ → Scanned S I
  scan start bytes = scan_pieces start (slice_split is_feed bytes)

  -- a text that may not end is refused at the line after its last
  abbrev pub ended_as : List I → ℕ → Result (Unit {0}) LineFault → Judged I
  ended_as items number (Ok may) = Ok items
  ended_as items number (Err fault) = Err (number, fault)

  abbrev pub ended : List I → ℕ → S → Judged I
  ended items number state = ended_as items number (rules.end state)

  -- the last line, which has no line feed
  abbrev pub last_line : List I → ℕ → S → Result (Option I) LineFault → Judged I
  last_line items number state (Err fault) = Err (number, fault)
  last_line items number state (Ok said) = ended (items ++ said_list said) (number + 1) (rules.next state said)

  abbrev pub close : Scanned S I → Judged I
  close (Refused line fault) = Err (line, fault)
  close (Open items number state []) = ended items number state
  close (Open items number state (byte ∷ bytes)) = last_line items number state (read_line number state (byte ∷ bytes))

  -- a whole text
  abbrev pub judged : S → List ℕ → Judged I
  judged start bytes = close (scan start bytes)

  -- a line that a line feed ends
  abbrev pub fed_line : List I → ℕ → S → Result (Option I) LineFault → Scanned S I
  fed_line items number state (Err fault) = Refused number fault
  fed_line items number state (Ok said) = Open (items ++ said_list said) (number + 1) (rules.next state said) []

  -- one byte more
  abbrev pub fed : Scanned S I → ℕ → Scanned S I
  fed (Refused line fault) byte = Refused line fault
  fed (Open items number state begun) byte =
      if is_feed byte then fed_line items number state (read_line number state begun)
      else if is_line_over number (begun ++ byte ∷ []) then Refused number (over_fault number)
      else Open items number state (begun ++ byte ∷ [])

  abbrev pub fed_all : Scanned S I → List ℕ → Scanned S I
  fed_all scanned [] = scanned
  fed_all scanned (byte ∷ bytes) = fed_all (fed scanned byte) bytes
