-- Where two ranges meet.
use Rattle.std.proofs.Common.{◌≡◌, ℕ, ◌↔◌, true, cond, max, IsTrue, arith}
use Rattle.std.proofs.lemmas.Bool.Decides.{nat_tests}
use Rattle.pf_base.specs.Span.{Span, Overlap, overlaps, is_in, is_whole}

-- a sector that two ranges share, where the test says that there is one
abbrev met : Span → Span → ℕ
met a b = cond (is_whole a) b.first (cond (is_whole b) a.first (max a.first b.first))

in_one : (a b : Span) → overlaps a b ≡ true → is_in a (met a b) ≡ true
in_one a b h = grind (arith, nat_tests)

in_other : (a b : Span) → overlaps a b ≡ true → is_in b (met a b) ≡ true
in_other a b h = grind (arith, nat_tests)

tested : (a b : Span) (x : ℕ) → is_in a x ≡ true → is_in b x ≡ true → overlaps a b ≡ true
tested a b x p q = grind (arith, nat_tests)

-- the test is whether a sector lies in both
pub shares : (a b : Span) → IsTrue (overlaps a b) ↔ Overlap a b
shares a b = (λ h. (met a b, in_one a b h, in_other a b h), λ (x, p, q). tested a b x p q)
