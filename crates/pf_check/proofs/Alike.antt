-- Two right verdicts on the same tables are the same one.
use Rattle.std.proofs.Common.{◌≡◌, ℕ, ◌<◌, inl, inr, ap, ap₂, sym, subst, ◌∙◌, arith}
use Rattle.std.proofs.lemmas.Bool.{cases_lt}
use Rattle.pf_check.specs.declared.judging.Verdict.{Verdict}
use Rattle.pf_check.specs.declared.judging.Verdict.TheVariants.{Clean, Broken}
use Rattle.pf_check.specs.Raw.{RawTables}
use Rattle.pf_check.specs.Kinds.{IsLeastShown}
use Rattle.pf_check.specs.Verdicts.{IsRight}
use Rattle.pf_check.proofs.Volumes.{none_shown, paths_counted}

in_order : (a b : ℕ) → (a < b → ⊥) → (b < a → ⊥) → a ≡ b
in_order a b less more = elim (cases_lt a b) [ inl low ↦ absurd (less low) | inr high ↦ elim (cases_lt b a) [ inl low ↦ absurd (more low) | inr low ↦ omega arith ] ]

same_kind : (t : RawTables) (k l n m : ℕ) → IsRight t (Broken k n) → IsRight t (Broken l m) → k ≡ l
same_kind t k l n m one other = in_order k l (λ low. other.0 k n low one.1.shows) (λ low. one.0 l m low other.1.shows)

same_number : (t : RawTables) (k n m : ℕ) → IsLeastShown k t n → IsLeastShown k t m → n ≡ m
same_number t k n m one other = in_order n m (λ low. other.before n low one.shows) (λ low. one.before m low other.shows)

pub alike : (t : RawTables) (one other : Verdict) → IsRight t one → IsRight t other → one ≡ other
alike t (Clean p) (Clean q) one other = ap Clean (one.2 ∙ sym (paths_counted t one.0 one.1) ∙ paths_counted t other.0 other.1 ∙ sym other.2)
alike t (Clean p) (Broken l m) one other = absurd (none_shown t one.0 one.1 l m other.1.shows)
alike t (Broken k n) (Clean q) one other = absurd (none_shown t other.0 other.1 k n one.1.shows)
alike t (Broken k n) (Broken l m) one other =
    let kinds = same_kind t k l n m one other in
    ap₂ Broken kinds (same_number t l n m (subst (λ (j : ℕ). IsLeastShown j t n) kinds one.1) other.1)
