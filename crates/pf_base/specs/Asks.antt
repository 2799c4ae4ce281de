-- What a client asks of a chunk, and what it is answered.
use Rattle.std.specs.Prelude.{◌≡◌, ℕ, length}
use Rattle.pf_base.specs.declared.asks.Ask.{Ask}
use Rattle.pf_base.specs.declared.asks.Ask.TheVariants.{Write, Read}
use Rattle.pf_base.specs.declared.asks.Reply.{Reply}
use Rattle.pf_base.specs.declared.asks.Reply.TheVariants.{Written, Bytes}
use Rattle.pf_base.specs.Span.{Span, IsWritable}

abbrev pub chunk_of : Ask → ℕ
chunk_of (Write chunk span sectors) = chunk
chunk_of (Read chunk span) = chunk

-- the range of its sectors
abbrev pub span_of : Ask → Span
span_of (Write chunk span sectors) = span
span_of (Read chunk span) = span

-- a range that a write or a read may name, and as many sectors as it has
abbrev pub IsValid : Ask → Type 0
IsValid (Write chunk span sectors) = IsWritable span.first span.count × (length sectors ≡ span.count)
IsValid (Read chunk span) = IsWritable span.first span.count

-- the reply is of the ask's kind, and has as many sectors
abbrev pub Answers : Ask → Reply → Type 0
Answers (Write chunk span sectors) Written = Unit {0}
Answers (Read chunk span) (Bytes sectors) = length sectors ≡ span.count
Answers ask reply = ⊥
