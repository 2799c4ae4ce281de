-- The values that words spell, one after another.
use Rattle.std.specs.Prelude.{ℕ, List, Option, Some, None, Result, Ok, Err}
use Rattle.pf_text.specs.Numbers.{decimal_number, hex_number}
use Rattle.pf_script.specs.declared.command.LineFault.{LineFault}
use Rattle.pf_script.specs.declared.command.LineFault.TheVariants.{BadNumber}

infixl 10 ◌>>=◌
abbrev pub ◌>>=◌ : {A B : Type 0} → Result A LineFault → (A → Result B LineFault) → Result B LineFault
(Ok x) >>= f = f x
(Err e) >>= f = Err e

-- a value that a word spells
abbrev pub value_spelled : Option ℕ → Result ℕ LineFault
value_spelled (Some value) = Ok value
value_spelled None = Err BadNumber

abbrev pub number_value : List ℕ → Result ℕ LineFault
number_value word = value_spelled (decimal_number word)

abbrev pub byte_value : List ℕ → Result ℕ LineFault
byte_value word = value_spelled (hex_number word)
