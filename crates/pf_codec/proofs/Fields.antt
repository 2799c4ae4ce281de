-- What stands at the front of bytes, whether it lies in one piece or not.
use Rattle.std.proofs.Common.{◌≡◌, ◌↔◌, ℕ, zero, suc, ◌<◌, ◌≤◌, Bool, true, false, cond, List, [], ◌∷◌, ◌++◌, length, take, drop, Some, None, refl, sym, ap, subst, ◌∙◌, inl, inr, arith, length-append}
use Rattle.std.specs.Int.{Width, byte_len, from_be_bytes}
use Rattle.std.proofs.lemmas.Bool.{cases_lt, lt-ltb, le-ltb, cond-true, cond-false}
use Rattle.std.proofs.lemmas.List.{nil_from_length, take_all, take-append-le, drop-append-le}
use Rattle.std.proofs.lemmas.Option.{none-some}
use Rattle.pf_codec.specs.declared.faults.ReadFault.{ReadFault}
use Rattle.pf_codec.specs.declared.faults.ReadFault.TheVariants.{NoMemory, Malformed}
use Rattle.pf_codec.specs.Parsers.{and_then, byte_at, bytes_at, number_at, row_at, Fails}
use Rattle.pf_codec.proofs.Exact.{guard_ok}

-- ---- a byte

pub byte_ahead : (b : ℕ) (bytes rest tail all : List ℕ) → bytes ++ tail ≡ all → bytes ≡ b ∷ rest → byte_at all ≡ Some (b, rest ++ tail)
unfolding byte_at
byte_ahead b bytes rest tail all is first = ap byte_at (sym is ∙ ap (λ xs. xs ++ tail) first)

pub no_byte : (bytes tail all : List ℕ) → bytes ++ tail ≡ all → length bytes ≡ 0 → (bytes ≡ [] → tail ≡ []) → byte_at all ≡ None
unfolding byte_at
no_byte bytes tail all is none behind = let empty = nil_from_length bytes none in ap byte_at (sym is ∙ (λ i. empty i ++ behind empty i))

pub ended : (bytes tail all : List ℕ) → bytes ++ tail ≡ all → (bytes ≡ [] → tail ≡ []) → (bytes ≡ []) ↔ (all ≡ [])
ended bytes tail all is behind = (
  λ empty. sym is ∙ (λ i. empty i ++ behind empty i),
  λ empty. nil_from_length bytes (omega (arith, ap length (is ∙ empty), length-append bytes tail)),
)

-- ---- so many bytes

bytes_front : (n : ℕ) (bytes : List ℕ) → n ≤ length bytes → bytes_at n bytes ≡ Some (take n bytes, drop n bytes)
unfolding bytes_at
bytes_front n bytes h = cond-false _ _ _ (le-ltb (length bytes) n h)

bytes_missing : (n : ℕ) (bytes : List ℕ) → length bytes < n → bytes_at n bytes ≡ None
unfolding bytes_at
bytes_missing n bytes h = cond-true _ _ _ (lt-ltb (length bytes) n h)

pub bytes_ahead : (n : ℕ) (front tail all : List ℕ) → front ++ tail ≡ all → n ≤ length front → bytes_at n all ≡ Some (take n front, drop n front ++ tail)
bytes_ahead n front tail all is h =
    ap (bytes_at n) (sym is) ∙ bytes_front n (front ++ tail) (omega (arith, h, length-append front tail))
    ∙ (λ i. Some (take-append-le n front tail h i, drop-append-le n front tail h i))

grown : (n b : ℕ) (bytes : List ℕ) → and_then (bytes_at n bytes) (λ xs. Some (b ∷ xs.0, xs.1)) ≡ bytes_at (suc n) (b ∷ bytes)
grown n b bytes =
    elim (cases_lt (length bytes) n) [
      | inl lt ↦ ap (λ r. and_then r (λ (xs : List ℕ × List ℕ). Some (b ∷ xs.0, xs.1))) (bytes_missing n bytes lt) ∙ sym (bytes_missing (suc n) (b ∷ bytes) (omega (arith, lt)))
      | inr le ↦ ap (λ r. and_then r (λ (xs : List ℕ × List ℕ). Some (b ∷ xs.0, xs.1))) (bytes_front n bytes le) ∙ sym (bytes_front (suc n) (b ∷ bytes) (omega (arith, le)))
    ]

-- one after the other
row_of_bytes : (n : ℕ) (bytes : List ℕ) → row_at byte_at n bytes ≡ bytes_at n bytes
unfolding row_at byte_at
row_of_bytes zero bytes = sym (bytes_front zero bytes (omega arith))
row_of_bytes (suc n) [] = sym (bytes_missing (suc n) [] (omega arith))
row_of_bytes (suc n) (b ∷ bytes) = ap (λ r. and_then r (λ xs. Some (b ∷ xs.0, xs.1))) (row_of_bytes n bytes) ∙ grown n b bytes

pub field_read : (n k : ℕ) (bytes field rest : List ℕ) → length field ≡ n → n ≤ k → row_at byte_at n bytes ≡ Some (take k field, rest) → bytes_at n bytes ≡ Some (field, rest)
field_read n k bytes field rest len le e = sym (row_of_bytes n bytes) ∙ e ∙ ap (λ xs. Some (xs, rest)) (take_all k field (omega (arith, len, le)))

pub no_field : (n : ℕ) (bytes : List ℕ) (e : ReadFault) → Fails e (row_at byte_at n bytes) → Fails e (bytes_at n bytes)
no_field n bytes e fails = subst (Fails e) (row_of_bytes n bytes) fails

-- ---- numbers

pub number_read : (w : Width) (bytes field rest : List ℕ) → bytes_at (byte_len w) bytes ≡ Some (field, rest) → number_at w bytes ≡ Some (from_be_bytes w field, rest)
unfolding bytes_at number_at
number_read w bytes field rest e =
    let g = guard_ok _ (take (byte_len w) bytes, drop (byte_len w) bytes) (field, rest) e in
    cond-false _ _ _ g.0 ∙ (λ i. Some (from_be_bytes w (g.1 i).0, (g.1 i).1))

guard_none : {A : Type 0} (b : Bool) (x : A) → cond b None (Some x) ≡ None → b ≡ true
guard_none true x e = refl
guard_none false x e = absurd (none-some x (sym e))

pub no_number : (w : Width) (bytes : List ℕ) (e : ReadFault) → Fails e (bytes_at (byte_len w) bytes) → Fails e (number_at w bytes)
unfolding bytes_at number_at
no_number w bytes NoMemory fails = tt
no_number w bytes Malformed fails = cond-true _ _ _ (guard_none _ (take (byte_len w) bytes, drop (byte_len w) bytes) fails)
