-- Calls of a mover that follow each other, and what they come to.
use Rattle.std.specs.Prelude.{◌≡◌, ℕ, zero, suc, ◌+◌, ◌<◌, ◌≤◌, ◌↔◌, ◌||◌, Bool, true, false, cond, List, [], ◌∷◌, length, Option, Some}
use Rattle.pf_base.specs.Span.{Span}
use Rattle.pf_base.specs.declared.asks.Reply.{Reply}
use Rattle.pf_base.specs.declared.asks.Reply.TheVariants.{Written, Bytes}
use Rattle.pf_move.specs.declared.mover.MoveNext.{MoveNext}
use Rattle.pf_move.specs.declared.mover.MoveNext.TheVariants.{Read, Write, Switch}
use Rattle.pf_move.specs.Movers.{ReplyFits, MoverIs, is_zero, piece, step}

-- a call of the mover
pub record MoverTurn : Type 0 where
  pub reply : Option Reply  -- the one that it took out
  pub next : MoveNext  -- what it wants done

-- calls that the mover's conditions allow
abbrev pub Turns : (old : MoverIs) → List MoverTurn → (new : MoverIs) → Type 0
Turns old [] new = new ≡ old
Turns old (turn ∷ turns) new =
    (old.done < old.pieces) × ReplyFits old.asked turn.reply
    × (mid : MoverIs) × (step old turn.reply ≡ record { next = turn.next; mover = mid }) × Turns mid turns new

-- what a reply gave, if it is that of a read
abbrev pub given_by : Option Reply → List (List (List ℕ)) → List (List (List ℕ))
given_by (Some (Bytes sectors)) rest = sectors ∷ rest
given_by _ rest = rest

-- what each read gave, in order
abbrev pub pieces_given : List MoverTurn → List (List (List ℕ))
pieces_given [] = []
pieces_given (turn ∷ turns) = given_by turn.reply (pieces_given turns)

abbrev pub answers_in : Option Reply → ℕ
answers_in (Some Written) = 1
answers_in _ = 0

-- how many writes were answered
abbrev pub answers : List MoverTurn → ℕ
answers [] = 0
answers (turn ∷ turns) = answers_in turn.reply + answers turns

pub record Copy : Type 0 where
  pub span : Span
  pub sectors : List (List ℕ)

abbrev pub copies_after : MoveNext → List Copy → List Copy
copies_after (Write span sectors) rest = record { span = span; sectors = sectors } ∷ rest
copies_after _ rest = rest

-- each write that was asked, in order
abbrev pub pieces_written : List MoverTurn → List Copy
pieces_written [] = []
pieces_written (turn ∷ turns) = copies_after turn.next (pieces_written turns)

abbrev pub read_by : MoveNext → List Span → List Span
read_by (Read span) rest = span ∷ rest
read_by _ rest = rest

-- each range that was asked to be read, in order
abbrev pub read : List MoverTurn → List Span
read [] = []
read (turn ∷ turns) = read_by turn.next (read turns)

abbrev pub is_switch : MoveNext → Bool
is_switch Switch = true
is_switch _ = false

-- whether the chunk was switched
abbrev pub is_switched : List MoverTurn → Bool
is_switched [] = false
is_switched (turn ∷ turns) = is_switch turn.next || is_switched turns

-- the sectors of so many pieces, from this one on
abbrev pub pieces : (first count : ℕ) → List Span
pieces first zero = []
pieces first (suc count) = piece first ∷ pieces (first + 1) count

-- what was given of the pieces from this one on, but for those that are all zeros
abbrev pub copies : (first : ℕ) → List (List (List ℕ)) → List Copy
copies first [] = []
copies first (sectors ∷ rest) =
    cond (is_zero sectors) (copies (first + 1) rest) (record { span = piece first; sectors = sectors } ∷ copies (first + 1) rest)

-- The pieces are read in order. What is written are those that are not all zeros, each once, with the bytes that its read gave. The
-- chunk is switched exactly where every piece was read and every write was answered.
pub record IsCopied (count : ℕ) (turns : List MoverTurn) : Type 0 where
  pub reads : (n : ℕ) × (n ≤ count) × (read turns ≡ pieces 0 n)
  pub writes : pieces_written turns ≡ copies 0 (pieces_given turns)
  pub few : length (pieces_given turns) ≤ count
  pub switch : (is_switched turns ≡ true) ↔ ((length (pieces_given turns) ≡ count) × (answers turns ≡ length (pieces_written turns)))
