-- A number that is read digit by digit.
use Rattle.std.proofs.Common.{◌≡◌, ℕ, ◌+◌, ◌*◌, ◌-◌, ◌<◌, ◌≤◌, ◌^◌, get_or, true, false, List, [], ◌∷◌, length, Some, None, refl, ◌∙◌, arith}
use Rattle.std.proofs.lemmas.Bool.{lt-ltb}
use Rattle.std.proofs.lemmas.Bool.Decides.{nat_tests}
use Rattle.std.proofs.lemmas.Grind.{common_steps}
use Rattle.std.specs.Char.{digit_value, is_ascii_digit}
use Rattle.std.specs.List.{list_all}
use Rattle.std.specs.Str.Parse.{digits_value, digits_value_after}
use Rattle.pf_text.specs.Numbers.{decimal_number}

-- of a word was read so much that these bytes are left, and its digits so far have this value
pub record IsRead (word rest : List ℕ) (value : ℕ) : Type 0 where
  pub digits : list_all is_ascii_digit word ≡ list_all is_ascii_digit rest
  pub worth : digits_value 10 word ≡ digits_value_after 10 value rest

digit_worth : (byte : ℕ) → is_ascii_digit byte ≡ true → digit_value byte ≡ byte - 48
digit_worth byte digit = grind (arith, nat_tests)

grows : (n : ℕ) (ds : List ℕ) → n ≤ digits_value_after 10 n ds
grows n [] = omega arith
grows n (c ∷ cs) = omega (arith, grows (n * 10 + digit_value c) cs)

pub no_word : (word : List ℕ) → length word ≡ 0 → decimal_number word ≡ None
unfolding decimal_number
no_word word empty = grind (arith, nat_tests, common_steps)

other_digit : (word : List ℕ) → list_all is_ascii_digit word ≡ false → decimal_number word ≡ None
unfolding decimal_number
other_digit word some = grind (arith, nat_tests, common_steps)

over : (word : List ℕ) → 2 ^ 64 ≤ digits_value 10 word → decimal_number word ≡ None
unfolding decimal_number
over word large = grind (arith, nat_tests, common_steps)

first_other : (rest : List ℕ) → 0 < length rest → is_ascii_digit (get_or rest 0 0) ≡ false → list_all is_ascii_digit rest ≡ false
first_other [] some other = absurd (omega (arith, some))
first_other (byte ∷ rest) some other = rw other refl

first_worth : (rest : List ℕ) (value : ℕ) → 0 < length rest → is_ascii_digit (get_or rest 0 0) ≡ true → value * 10 + (get_or rest 0 0 - 48) ≤ digits_value_after 10 value rest
first_worth [] value some digit = absurd (omega (arith, some))
first_worth (byte ∷ rest) value some digit = omega (arith, digit_worth byte digit, grows (value * 10 + digit_value byte) rest)

-- what stops at the first of these bytes
module _ (word rest : List ℕ) (value : ℕ) (read : IsRead word rest value) where
  pub no_digit : 0 < length rest → is_ascii_digit (get_or rest 0 0) ≡ false → decimal_number word ≡ None
  no_digit some other = other_digit word (read.digits ∙ first_other rest some other)

  pub too_large : 0 < length rest → is_ascii_digit (get_or rest 0 0) ≡ true → 2 ^ 64 ≤ value * 10 + (get_or rest 0 0 - 48) → decimal_number word ≡ None
  too_large some digit large = over word (omega (arith, large, read.worth, first_worth rest value some digit))

pub read_all : (word rest : List ℕ) (value : ℕ) → IsRead word rest value → length rest ≡ 0 → 0 < length word → value < 2 ^ 64 → decimal_number word ≡ Some value
unfolding decimal_number
read_all word (byte ∷ rest) value read none some low = absurd (omega (arith, none))
read_all word [] value read none some low =
    rw (lt-ltb 0 (length word) some, read.digits, read.worth, lt-ltb value (2 ^ 64) low) refl
