-- The texts of refusals, by their numbers.
use Rattle.std.specs.Prelude.{ℕ, ◌==◌, if◌then◌else◌, List, [], ◌∷◌, Option, Some, None, codes, unwrap_or}
use Rattle.pf_report.specs.declared.refusals.LineRefusal.{LineRefusal}
use Rattle.pf_report.specs.declared.refusals.LineRefusal.TheVariants.{MountsFull, SmallVolume, Mounted, Raw, NoMount, NoAnchors, TooLate, NoSpare, Moving, NoGroup}

abbrev pub line_refusal_number : LineRefusal → ℕ
line_refusal_number MountsFull = 92
line_refusal_number SmallVolume = 93
line_refusal_number Mounted = 94
line_refusal_number Raw = 95
line_refusal_number NoMount = 96
line_refusal_number NoAnchors = 98
line_refusal_number TooLate = 99
line_refusal_number NoSpare = 100
line_refusal_number Moving = 101
line_refusal_number NoGroup = 102

-- each refusal that a report tells of: its number, and its text
abbrev pub refusal_texts : List (ℕ × List ℕ)
refusal_texts =
    (10, codes "bad range")
    ∷ (30, codes "window full")
    ∷ (41, codes "log full")
    ∷ (42, codes "not ours")
    ∷ (50, codes "not leader")
    ∷ (51, codes "down")
    ∷ (52, codes "halted")
    ∷ (53, codes "no packet")
    ∷ (54, codes "lost packet")
    ∷ (55, codes "packets full")
    ∷ (56, codes "elections full")
    ∷ (80, codes "bad name")
    ∷ (81, codes "bad super")
    ∷ (82, codes "no entry")
    ∷ (83, codes "exists")
    ∷ (84, codes "not dir")
    ∷ (85, codes "is dir")
    ∷ (86, codes "not empty")
    ∷ (87, codes "no space")
    ∷ (88, codes "too large")
    ∷ (89, codes "into itself")
    ∷ (90, codes "journal full")
    ∷ (91, codes "call pending")
    ∷ (line_refusal_number MountsFull, codes "mounts full")
    ∷ (line_refusal_number SmallVolume, codes "small volume")
    ∷ (line_refusal_number Mounted, codes "mounted")
    ∷ (line_refusal_number Raw, codes "raw")
    ∷ (line_refusal_number NoMount, codes "no mount")
    ∷ (97, codes "old format")
    ∷ (line_refusal_number NoAnchors, codes "no anchors")
    ∷ (line_refusal_number TooLate, codes "too late")
    ∷ (line_refusal_number NoSpare, codes "no spare")
    ∷ (line_refusal_number Moving, codes "moving")
    ∷ (line_refusal_number NoGroup, codes "no group")
    ∷ []

-- the text of a number in such a table
abbrev pub text_in : List (ℕ × List ℕ) → ℕ → Option (List ℕ)
text_in [] number = None
text_in (row ∷ rows) number = if number == row.0 then Some row.1 else text_in rows number

-- the text of a refusal, where it has one
abbrev pub refusal_text : ℕ → Option (List ℕ)
refusal_text number = text_in refusal_texts number

-- the text of the refusal of a line
abbrev pub line_refusal_text : LineRefusal → List ℕ
line_refusal_text refusal = unwrap_or (refusal_text (line_refusal_number refusal)) []
