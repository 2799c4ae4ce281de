-- Reading from the front of bytes.
use Rattle.std.specs.Prelude.{◌≡◌, ℕ, zero, suc, ◌<◌, Bool, List, [], ◌∷◌, ◌++◌, length, take, drop, Option, Some, None, Result, Ok, Err, nat_lt, slice_index, if◌then◌else◌}
use Rattle.std.specs.Int.{Width, byte_len, from_be_bytes}
use Rattle.pf_codec.specs.declared.faults.ReadFault.{ReadFault}
use Rattle.pf_codec.specs.declared.faults.ReadFault.TheVariants.{NoMemory, Malformed}

-- a value and the bytes after it, or nothing
abbrev pub Parser : Type 0 → Type 0
Parser X = List ℕ → Option (X × List ℕ)

abbrev pub and_then : {A B : Type 0} → Option A → (A → Option B) → Option B
and_then None f = None
and_then (Some x) f = f x

unfoldable pub followed_by : {A B : Type 0} → Parser A → (A → Parser B) → Parser B
followed_by first next bytes = and_then (first bytes) (λ a. next a.0 a.1)

infixl 10 ◌>>=◌
abbrev pub ◌>>=◌ : {A B : Type 0} → Parser A → (A → Parser B) → Parser B
first >>= next = followed_by first next

-- the value, if it passes a test
unfoldable pub checked : {X : Type 0} → Bool → X → Parser X
checked passes x bytes = if passes then Some (x, bytes) else None

unfoldable pub byte_at : Parser ℕ
byte_at [] = None
byte_at (b ∷ rest) = Some (b, rest)

-- so many bytes
unfoldable pub bytes_at : ℕ → Parser (List ℕ)
bytes_at n bytes = if nat_lt (length bytes) n then None else Some (take n bytes, drop n bytes)

unfoldable pub number_at : Width → Parser ℕ
number_at w bytes = if nat_lt (length bytes) (byte_len w) then None else Some (from_be_bytes w (take (byte_len w) bytes), drop (byte_len w) bytes)

-- so many values, one after the other
unfoldable pub row_at : {X : Type 0} → Parser X → ℕ → Parser (List X)
row_at p zero bytes = Some ([], bytes)
row_at p (suc n) bytes = and_then (p bytes) (λ x. and_then (row_at p n x.1) (λ xs. Some (x.0 ∷ xs.0, xs.1)))

-- What a function returned, seen by view, with the bytes that it left, is what a parser gives, unless memory ran out.
abbrev pub Fails : {Y : Type 0} → ReadFault → Option Y → Type 0
Fails NoMemory read = Unit {0}
Fails Malformed read = read ≡ None

abbrev pub ParserGives : {X Y : Type 0} → (X → Y) → Result X ReadFault → List ℕ → Option (Y × List ℕ) → Type 0
ParserGives view (Ok x) rest read = read ≡ Some (view x, rest)
ParserGives view (Err e) rest read = Fails e read

-- What a function returned, seen by view, is what a parser of all bytes gives, unless memory ran out.
abbrev pub GivesAll : {X Y : Type 0} → (X → Y) → Result X ReadFault → Option Y → Type 0
GivesAll view (Ok x) read = read ≡ Some (view x)
GivesAll view (Err e) read = Fails e read

abbrev pub AreBytes : List ℕ → Type 0
AreBytes bytes = (i : ℕ) → slice_index bytes i < 256

-- a parser finds what has a spelling and is spelled at the front of bytes, and nothing else
pub record IsExact {X : Type 0} (HasSpelling : X → Type 0) (spelling : X → List ℕ) (p : Parser X) : Type 0 where
  pub found : (bytes : List ℕ) (x : X) (rest : List ℕ) → AreBytes bytes → p bytes ≡ Some (x, rest) → HasSpelling x × (bytes ≡ spelling x ++ rest)
  pub again : (x : X) (rest : List ℕ) → HasSpelling x → p (spelling x ++ rest) ≡ Some (x, rest)
