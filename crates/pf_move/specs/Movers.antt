-- How a chunk is copied, a piece of eight sectors after the other.
use Rattle.std.specs.Prelude.{◌≡◌, ℕ, ◌+◌, ◌*◌, ◌<◌, ◌==◌, Bool, cond, List, length, Option, Some, None}
use Rattle.std.specs.List.{list_all}
use Rattle.pf_base.specs.Span.{Span, IsWritable}
use Rattle.pf_base.specs.declared.asks.Reply.{Reply}
use Rattle.pf_base.specs.declared.asks.Reply.TheVariants.{Written, Bytes}
use Rattle.pf_move.specs.declared.mover.MoverAsk.{MoverAsk}
use Rattle.pf_move.specs.declared.mover.MoverAsk.TheVariants.{Reading, Writing}
use Rattle.pf_move.specs.declared.mover.MoveNext.{MoveNext}
use Rattle.pf_move.specs.declared.mover.MoveNext.TheVariants.{Read, Write, Switch}

pub record MoverIs : Type 0 where
  pub chunk : ℕ
  pub pieces : ℕ  -- of the chunk
  pub done : ℕ  -- the first so many were read, and written unless they are all zeros
  pub asked : Option MoverAsk  -- the ask whose reply is waited for, of the next piece

abbrev pub new_mover : (chunk pieces : ℕ) → MoverIs
new_mover chunk pieces = record { chunk = chunk; pieces = pieces; done = 0; asked = None }

-- the sectors of a piece
abbrev pub piece : ℕ → Span
piece index = record { first = 8 * index; count = 8 }

abbrev pub is_zero_sector : List ℕ → Bool
is_zero_sector sector = list_all (λ byte. byte == 0) sector

-- whether all bytes of these sectors are zeros
abbrev pub is_zero : List (List ℕ) → Bool
is_zero sectors = list_all is_zero_sector sectors

-- there is a reply exactly where there was an ask, and it has its kind and its count of sectors
abbrev pub ReplyFits : Option MoverAsk → Option Reply → Type 0
ReplyFits None None = Unit {0}
ReplyFits (Some Reading) (Some (Bytes sectors)) = length sectors ≡ 8
ReplyFits (Some Writing) (Some Written) = Unit {0}
ReplyFits asked reply = ⊥

-- what the mover wants done, and how it stands after it
pub record MoverStep : Type 0 where
  pub next : MoveNext
  pub mover : MoverIs

-- the next piece is read, and after the last one the chunk switches
abbrev pub reads_on : MoverIs → MoverStep
reads_on m =
    cond (m.done == m.pieces)
    (record { next = Switch; mover = record m { asked = None } })
    (record { next = Read (piece m.done); mover = record m { asked = Some Reading } })

-- what was read is written, unless it is all zeros
abbrev pub step : MoverIs → Option Reply → MoverStep
step m None = reads_on m
step m (Some Written) = reads_on (record m { done = m.done + 1 })
step m (Some (Bytes sectors)) =
    cond (is_zero sectors)
    (reads_on (record m { done = m.done + 1 }))
    (record { next = Write (piece m.done) sectors; mover = record m { asked = Some Writing } })

-- what is to be written after a reply
abbrev pub to_write : Option Reply → Option (List (List ℕ))
to_write (Some (Bytes sectors)) = cond (is_zero sectors) None (Some sectors)
to_write _ = None

-- an ask is one that a group takes, and its reply is waited for; after the last the mover is done
abbrev pub AsksFor : MoveNext → (new : MoverIs) → Type 0
AsksFor (Read span) new = IsWritable span.first span.count × (new.done < new.pieces) × (new.asked ≡ Some Reading)
AsksFor (Write span sectors) new = IsWritable span.first span.count × (length sectors ≡ span.count) × (new.done < new.pieces) × (new.asked ≡ Some Writing)
AsksFor Switch new = (new.done ≡ new.pieces) × (new.asked ≡ None)
