-- Two runs of calls, one after the other.
use Rattle.std.proofs.Common.{◌⊎◌, inl, inr, ⊎_elim, ℕ, arith}
use Rattle.pf_disk.specs.Crashes.{Images}
use Rattle.pf_chunklog.specs.Logs.{LeavesOnly}

pub runs_on : {D : Type 0} (moment : D → ℕ) (left_since : D → ℕ → Images) (old mid new : D) (P Q : Images) → LeavesOnly moment left_since old mid P → LeavesOnly moment left_since mid new Q
    → LeavesOnly moment left_since old new (λ c. P c ⊎ Q c)
runs_on moment left_since old mid new P Q first second = record {
  later = omega (arith, first.later, second.later);
  each = λ c left. ⊎_elim (λ before. inl (first.each c before)) (λ then. inr then) (second.before (moment old) c first.later left);
  before = λ t c le left. elim (second.before t c (omega (arith, le, first.later)) left) [
    | inl earlier ↦ ⊎_elim (λ before. inl before) (λ then. inr (inl then)) (first.before t c le earlier)
    | inr then ↦ inr (inr then)
  ];
}
