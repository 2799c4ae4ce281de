-- Parsers that are exact, from their parts.
use Rattle.std.proofs.Common.{◌≡◌, ℕ, zero, suc, ◌+◌, ◌<◌, ◌≤◌, ◌^◌, Bool, true, false, cond, List, [], ◌∷◌, ◌++◌, length, take, drop, Option, Some, None, refl, sym, ap, subst, ◌∙◌, append_assoc, arith, length-append, length-take, inl, inr}
use Rattle.std.specs.Int.{Width, w16, w32, w64, byte_len, from_be_bytes, to_be_bytes}
use Rattle.std.specs.List.{flat_map}
use Rattle.std.proofs.lemmas.Bool.{cases_lt, ltb-false, le-ltb, cond-true, cond-false}
use Rattle.std.proofs.lemmas.List.{append-nil, take_at, drop_at, take-append-drop, get_or-append-add, get_or-take, get_or_past}
use Rattle.std.proofs.lemmas.Nat.{be_bytes_2, be_bytes_4, be_bytes_8, from_be_bytes-to_be_bytes_2, from_be_bytes-to_be_bytes_4, from_be_bytes-to_be_bytes_8}
use Rattle.std.proofs.lemmas.Option.{cond_some, none-some, same_Some, some_pair_parts}
use Rattle.pf_entry.specs.Lists.{Every}
use Rattle.pf_codec.specs.Parsers.{Parser, and_then, followed_by, checked, byte_at, bytes_at, number_at, row_at, AreBytes, IsExact}
use Rattle.pf_codec.specs.Spelling.{number, byte}
use Rattle.pf_codec.specs.Reading.{sector_at}

-- the value of a step that found one
pub bind_ok : {A B : Type 0} (r : Option A) (f : A → Option B) (y : B) → and_then r f ≡ Some y → (x : A) × (r ≡ Some x) × (f x ≡ Some y)
bind_ok (Some x) f y e = (x, refl, e)
bind_ok None f y e = absurd (none-some y e)

pub rest_bytes : (front rest : List ℕ) → AreBytes (front ++ rest) → AreBytes rest
rest_bytes front rest h i = subst (λ n. n < 256) (get_or-append-add front rest i 0) (h (length front + i))

pub respelled : {X : Type 0} {C : X → Type 0} {s : X → List ℕ} {p : Parser X} → IsExact C s p → (t : X → List ℕ) → ((x : X) → C x → s x ≡ t x) → IsExact C t p
respelled {p = p} exact t same = record {
  found = λ bytes x rest ok e. let f = exact.found bytes x rest ok e in (f.0, f.1 ∙ ap (λ b. b ++ rest) (same x f.0));
  again = λ x rest c. ap (λ b. p (b ++ rest)) (sym (same x c)) ∙ exact.again x rest c;
}

pub renamed : {X : Type 0} {C : X → Type 0} {s : X → List ℕ} {p : Parser X} → IsExact C s p → (D : X → Type 0) → ((x : X) → C x → D x) → ((x : X) → D x → C x) → IsExact D s p
renamed exact D to from = record {
  found = λ bytes x rest ok e. let f = exact.found bytes x rest ok e in (to x f.0, f.1);
  again = λ x rest d. exact.again x rest (from x d);
}

-- no spelling begins with another one, and no two values have the same
pub same_spelled : {X : Type 0} {C : X → Type 0} {s : X → List ℕ} {p : Parser X} → IsExact C s p → (x y : X) (r q : List ℕ) → C x → C y → s x ++ r ≡ s y ++ q → (x ≡ y) × (r ≡ q)
same_spelled {p = p} exact x y r q cx cy e = some_pair_parts x y r q (sym (exact.again x r cx) ∙ ap p e ∙ exact.again y q cy)

-- a part, and then the rest, which may depend on it
pub then_exact : {A X : Type 0} {CA : A → Type 0} {sA : A → List ℕ} {pA : Parser A} → IsExact CA sA pA
    → (C : X → Type 0) (key : X → A) (tail : X → List ℕ) (next : A → Parser X)
    → ((x : X) → C x → CA (key x))
    → ((a : A) → CA a → IsExact (λ x. C x × (key x ≡ a)) tail (next a))
    → IsExact C (λ x. sA (key x) ++ tail x) (followed_by pA next)
unfolding followed_by
then_exact {sA = sA} {pA = pA} first C key tail next fits rest = record {
  found = λ bytes x left ok e.
      let a = bind_ok (pA bytes) (λ a. next a.0 a.1) (x, left) e in
      let f = first.found bytes a.0.0 a.0.1 ok a.1 in
      let g = (rest a.0.0 f.0).found a.0.1 x left (rest_bytes (sA a.0.0) a.0.1 (subst AreBytes f.1 ok)) a.2 in
      (g.0.0, f.1 ∙ ap (λ b. sA a.0.0 ++ b) g.1 ∙ ap (λ k. sA k ++ (tail x ++ left)) (sym g.0.1) ∙ sym (append_assoc (sA (key x)) (tail x) left));
  again = λ x left c.
      ap (λ b. and_then (pA b) (λ a. next a.0 a.1)) (append_assoc (sA (key x)) (tail x) left)
      ∙ ap (λ r. and_then r (λ a. next a.0 a.1)) (first.again (key x) (tail x ++ left) (fits x c))
      ∙ (rest (key x) (fits x c)).again x left (c, refl);
}

-- the last part
pub last_exact : {A X : Type 0} {CA : A → Type 0} {sA : A → List ℕ} {pA : Parser A} → IsExact CA sA pA
    → (C : X → Type 0) (key : X → A) (next : A → Parser X)
    → ((x : X) → C x → CA (key x))
    → ((a : A) → CA a → IsExact (λ x. C x × (key x ≡ a)) (λ x. []) (next a))
    → IsExact C (λ x. sA (key x)) (followed_by pA next)
last_exact {sA = sA} first C key next fits rest = respelled (then_exact first C key (λ x. []) next fits rest) (λ x. sA (key x)) (λ x c. append-nil (sA (key x)))

-- a value that is there when all its parts are, if it passes a test
pub checked_exact : {X : Type 0} (C : X → Type 0) (t : X → Bool) (x0 : X) → ((x : X) → C x → x0 ≡ x) → ((x : X) → C x → t x ≡ true) → (t x0 ≡ true → C x0) → IsExact C (λ x. []) (checked (t x0) x0)
unfolding checked
checked_exact C t x0 same passes is = record {
  found = λ bytes x rest ok e.
      let p = cond_some (t x0) (x0, bytes) (x, rest) e in
      (subst C (ap (λ q. q.0) p.1) (is p.0), ap (λ q. q.1) p.1);
  again = λ x rest c. cond-true (t x0) _ _ (ap t (same x c) ∙ passes x c) ∙ ap (λ y. Some (y, rest)) (same x c);
}

-- the same, where the test is not one on the value
pub tested_exact : {X : Type 0} (C : X → Type 0) (passes : Bool) (x0 : X) → ((x : X) → C x → (x0 ≡ x) × (passes ≡ true)) → (passes ≡ true → C x0) → IsExact C (λ x. []) (checked passes x0)
unfolding checked
tested_exact C passes x0 same is = record {
  found = λ bytes x rest ok e.
      let p = cond_some passes (x0, bytes) (x, rest) e in
      (subst C (ap (λ q. q.0) p.1) (is p.0), ap (λ q. q.1) p.1);
  again = λ x rest c. let q = same x c in cond-true passes _ _ q.1 ∙ ap (λ y. Some (y, rest)) q.0;
}

pub nothing_exact : {X : Type 0} (C : X → Type 0) (s : X → List ℕ) → ((x : X) → C x → ⊥) → IsExact C s (λ bytes. None)
nothing_exact C s never = record {
  found = λ bytes x rest ok e. absurd (none-some (x, rest) e);
  again = λ x rest c. absurd (never x c);
}

pub chosen_exact : {X : Type 0} (C : X → Type 0) (s : X → List ℕ) (b : Bool) (p q : Parser X) → (b ≡ true → IsExact C s p) → (b ≡ false → IsExact C s q) → IsExact C s (cond b p q)
chosen_exact C s true p q first second = first refl
chosen_exact C s false p q first second = second refl

-- ---- values in a row

module _ {X : Type 0} {C : X → Type 0} {s : X → List ℕ} {p : Parser X} (exact : IsExact C s p) where
  row_found : (n : ℕ) (bytes : List ℕ) (xs : List X) (rest : List ℕ) → AreBytes bytes → row_at p n bytes ≡ Some (xs, rest) → ((length xs ≡ n) × Every C xs) × (bytes ≡ flat_map s xs ++ rest)
  unfolding row_at
  row_found zero bytes xs rest ok e =
      let parts = some_pair_parts [] xs bytes rest e in
      subst (λ ys. ((length ys ≡ 0) × Every C ys) × (bytes ≡ flat_map s ys ++ rest)) parts.0 ((refl, tt), parts.1)
  row_found (suc n) bytes xs rest ok e =
      let a = bind_ok (p bytes) (λ x. and_then (row_at p n x.1) (λ ys. Some (x.0 ∷ ys.0, ys.1))) (xs, rest) e in
      let b = bind_ok (row_at p n a.0.1) (λ ys. Some (a.0.0 ∷ ys.0, ys.1)) (xs, rest) a.2 in
      let f = exact.found bytes a.0.0 a.0.1 ok a.1 in
      let g = row_found n a.0.1 b.0.0 b.0.1 (rest_bytes (s a.0.0) a.0.1 (subst AreBytes f.1 ok)) b.1 in
      let parts = some_pair_parts (a.0.0 ∷ b.0.0) xs b.0.1 rest b.2 in
      let whole : bytes ≡ flat_map s (a.0.0 ∷ b.0.0) ++ b.0.1 = f.1 ∙ ap (λ bs. s a.0.0 ++ bs) g.1 ∙ sym (append_assoc (s a.0.0) (flat_map s b.0.0) b.0.1) in
      subst (λ ys. ((length ys ≡ suc n) × Every C ys) × (bytes ≡ flat_map s ys ++ rest)) parts.0 ((ap suc g.0.0, (f.0, g.0.1)), whole ∙ ap (λ r. flat_map s (a.0.0 ∷ b.0.0) ++ r) parts.1)

  row_again : (xs : List X) (rest : List ℕ) → Every C xs → row_at p (length xs) (flat_map s xs ++ rest) ≡ Some (xs, rest)
  unfolding row_at
  row_again [] rest c = refl
  row_again (x ∷ xs) rest c =
      ap (λ b. and_then (p b) (λ y. and_then (row_at p (length xs) y.1) (λ ys. Some (y.0 ∷ ys.0, ys.1)))) (append_assoc (s x) (flat_map s xs) rest)
      ∙ ap (λ r. and_then r (λ y. and_then (row_at p (length xs) y.1) (λ ys. Some (y.0 ∷ ys.0, ys.1)))) (exact.again x (flat_map s xs ++ rest) c.0)
      ∙ ap (λ r. and_then r (λ ys. Some (x ∷ ys.0, ys.1))) (row_again xs rest c.1)

  pub row_exact : (n : ℕ) → IsExact (λ xs. (length xs ≡ n) × Every C xs) (flat_map s) (row_at p n)
  row_exact n = record {
    found = λ bytes xs rest ok e. row_found n bytes xs rest ok e;
    again = λ xs rest c. subst (λ m. row_at p m (flat_map s xs ++ rest) ≡ Some (xs, rest)) c.0 (row_again xs rest c.1);
  }

-- ---- bytes and numbers

byte_found : (bytes : List ℕ) (n : ℕ) (rest : List ℕ) → byte_at bytes ≡ Some (n, rest) → Unit {0} × (bytes ≡ byte n ++ rest)
unfolding byte_at
byte_found [] n rest e = absurd (none-some (n, rest) e)
byte_found (b ∷ bytes) n rest e = let parts = some_pair_parts b n bytes rest e in (tt, ap (λ c. c ∷ bytes) parts.0 ∙ ap (λ bs. n ∷ bs) parts.1)

pub byte_exact : IsExact (λ n. Unit {0}) byte byte_at
unfolding byte_at
byte_exact = record { found = λ bytes n rest ok e. byte_found bytes n rest e; again = λ n rest c. refl }

take_bytes : (n : ℕ) (bytes : List ℕ) → AreBytes bytes → AreBytes (take n bytes)
take_bytes n bytes h i =
    elim (cases_lt i n) [
      | inl lt ↦ subst (λ m. m < 256) (sym (get_or-take n bytes i 0 lt)) (h i)
      | inr le ↦ subst (λ m. m < 256) (sym (get_or_past (take n bytes) i 0 (omega (arith, length-take n bytes)))) (omega arith)
    ]

pub guard_ok : {A : Type 0} (b : Bool) (x y : A) → cond b None (Some x) ≡ Some y → (b ≡ false) × (x ≡ y)
guard_ok true x y e = absurd (none-some y e)
guard_ok false x y e = (refl, same_Some x y e)

sector_found : (bytes x rest : List ℕ) → sector_at bytes ≡ Some (x, rest) → (length x ≡ 512) × (bytes ≡ x ++ rest)
unfolding sector_at bytes_at
sector_found bytes x rest e =
    let g = guard_ok _ (take 512 bytes, drop 512 bytes) (x, rest) e in
    let long : 512 ≤ length bytes = ltb-false _ _ g.0 in
    let x_is : take 512 bytes ≡ x = ap (λ q. q.0) g.1 in
    let rest_is : drop 512 bytes ≡ rest = ap (λ q. q.1) g.1 in
    (ap length (sym x_is) ∙ omega (arith, length-take 512 bytes), sym (take-append-drop 512 bytes) ∙ ap (λ b. b ++ drop 512 bytes) x_is ∙ ap (λ b. x ++ b) rest_is)

sector_again : (x rest : List ℕ) → length x ≡ 512 → sector_at (x ++ rest) ≡ Some (x, rest)
unfolding sector_at bytes_at
sector_again x rest is =
    cond-false _ _ _ (le-ltb (length (x ++ rest)) 512 (omega (arith, length-append x rest, is)))
    ∙ ap (λ b. Some (b, drop 512 (x ++ rest))) (take_at x rest 512 is) ∙ ap (λ b. Some (x, b)) (drop_at x rest 512 is)

pub sector_exact : IsExact (λ sector. length sector ≡ 512) (λ sector. sector) sector_at
sector_exact = record { found = λ bytes x rest ok e. sector_found bytes x rest e; again = λ x rest c. sector_again x rest c }

record IsWide (w : Width) (limit : ℕ) : Type 0 where
  len : (n : ℕ) → length (to_be_bytes w n) ≡ byte_len w
  back : (bytes : List ℕ) → length bytes ≡ byte_len w → AreBytes bytes → to_be_bytes w (from_be_bytes w bytes) ≡ bytes
  again : (n : ℕ) → n < limit → from_be_bytes w (to_be_bytes w n) ≡ n
  below : (bytes : List ℕ) → AreBytes bytes → from_be_bytes w bytes < limit

wide16 : IsWide w16 (2 ^ 16)
wide16 = record { len = λ n. refl; back = λ bytes len ok. be_bytes_2 bytes _ len ok refl; again = λ n lt. from_be_bytes-to_be_bytes_2 n lt; below = λ bytes ok. omega (arith, ok 0, ok 1) }

wide32 : IsWide w32 (2 ^ 32)
wide32 = record { len = λ n. refl; back = λ bytes len ok. be_bytes_4 bytes _ len ok refl; again = λ n lt. from_be_bytes-to_be_bytes_4 n lt; below = λ bytes ok. omega (arith, ok 0, ok 1, ok 2, ok 3) }

wide64 : IsWide w64 (2 ^ 64)
wide64 = record {
  len = λ n. refl;
  back = λ bytes len ok. be_bytes_8 bytes _ len ok refl;
  again = λ n lt. from_be_bytes-to_be_bytes_8 n lt;
  below = λ bytes ok. omega (arith, ok 0, ok 1, ok 2, ok 3, ok 4, ok 5, ok 6, ok 7);
}

number_found : (w : Width) (limit : ℕ) (wide : IsWide w limit) (bytes : List ℕ) (n : ℕ) (rest : List ℕ) → AreBytes bytes → number_at w bytes ≡ Some (n, rest) → (n < limit) × (bytes ≡ number w n ++ rest)
unfolding number_at number
number_found w limit wide bytes n rest ok e =
    let g = guard_ok _ (from_be_bytes w (take (byte_len w) bytes), drop (byte_len w) bytes) (n, rest) e in
    let long : byte_len w ≤ length bytes = ltb-false _ _ g.0 in
    let n_is : from_be_bytes w (take (byte_len w) bytes) ≡ n = ap (λ q. q.0) g.1 in
    let rest_is : drop (byte_len w) bytes ≡ rest = ap (λ q. q.1) g.1 in
    let front_ok = take_bytes (byte_len w) bytes ok in
    let front : to_be_bytes w n ≡ take (byte_len w) bytes = ap (to_be_bytes w) (sym n_is) ∙ wide.back (take (byte_len w) bytes) (omega (arith, length-take (byte_len w) bytes)) front_ok in
    (subst (λ m. m < limit) n_is (wide.below (take (byte_len w) bytes) front_ok), sym (take-append-drop (byte_len w) bytes) ∙ ap (λ b. b ++ drop (byte_len w) bytes) (sym front) ∙ ap (λ b. to_be_bytes w n ++ b) rest_is)

number_again : (w : Width) (limit : ℕ) (wide : IsWide w limit) (n : ℕ) (rest : List ℕ) → n < limit → number_at w (number w n ++ rest) ≡ Some (n, rest)
unfolding number_at number
number_again w limit wide n rest lt =
    let len = wide.len n in
    let long : byte_len w ≤ length (to_be_bytes w n ++ rest) = omega (arith, length-append (to_be_bytes w n) rest) in
    cond-false _ _ _ (le-ltb (length (to_be_bytes w n ++ rest)) (byte_len w) long)
    ∙ ap (λ b. Some (from_be_bytes w b, drop (byte_len w) (to_be_bytes w n ++ rest))) (take_at (to_be_bytes w n) rest (byte_len w) len)
    ∙ ap (λ b. Some (from_be_bytes w (to_be_bytes w n), b)) (drop_at (to_be_bytes w n) rest (byte_len w) len)
    ∙ ap (λ m. Some (m, rest)) (wide.again n lt)

number_exact : (w : Width) (limit : ℕ) → IsWide w limit → IsExact (λ n. n < limit) (number w) (number_at w)
number_exact w limit wide = record { found = λ bytes n rest ok e. number_found w limit wide bytes n rest ok e; again = λ n rest lt. number_again w limit wide n rest lt }

pub u16_exact : IsExact (λ n. n < 2 ^ 16) (number w16) (number_at w16)
u16_exact = number_exact w16 (2 ^ 16) wide16

pub u32_exact : IsExact (λ n. n < 2 ^ 32) (number w32) (number_at w32)
u32_exact = number_exact w32 (2 ^ 32) wide32

pub u64_exact : IsExact (λ n. n < 2 ^ 64) (number w64) (number_at w64)
u64_exact = number_exact w64 (2 ^ 64) wide64
