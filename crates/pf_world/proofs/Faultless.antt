-- Where no disk failed, the report is a function of the lines alone.
use Rattle.std.proofs.Common.{◌≡◌, ℕ, ◌+◌, ◌*◌, ◌-◌, ◌^◌, ◌<◌, ◌≤◌, ◌&&◌, ◌==◌, Bool, true, false, cond, List, [], ◌∷◌, append-nil, refl, sym, ap, subst, ◌∙◌, inl, inr, arith}
use Rattle.std.specs.List.{fold}
use Rattle.std.proofs.lemmas.Bool.{eq-eqb}
use Rattle.std.proofs.lemmas.Bool.{false≢true}
use Rattle.pf_live_session.specs.pf_group_rounds.specs.Halts.{Halt}
use Rattle.pf_live_session.specs.pf_group_rounds.specs.Telling.{halt_count}
use Rattle.pf_world.specs.declared.line.Line.{Line}
use Rattle.pf_world.specs.Reports.{report_of}
use Rattle.pf_world.specs.Views.{WorldIs}
use Rattle.pf_world.specs.Headline.{AreCaused, AreFaultless, AreHalts, FailedTimes, IsCaused, RunsTo}

count_grows : (p : Halt → Bool) (n : ℕ) (hs : List Halt) → n ≤ fold (λ m x. m + cond (p x) 1 0) n hs
count_grows p n [] = omega arith
count_grows p n (x ∷ hs) = omega (arith, count_grows p (n + cond (p x) 1 0) hs)

both_same : (a b : Bool) → a ≡ true → b ≡ true → 1 ≤ 0 + cond (a && b) 1 0
both_same true true at bt = omega arith
both_same true false at bt = absurd (false≢true bt)
both_same false b at bt = absurd (false≢true at)

counts_itself : (h : Halt) (hs : List Halt) → 1 ≤ halt_count (h ∷ hs) h.group h.server
counts_itself h hs =
    let first = both_same (h.group == h.group) (h.server == h.server) (eq-eqb h.group h.group refl) (eq-eqb h.server h.server refl) in
    let more = count_grows (λ x. x.group == h.group && x.server == h.server) (0 + cond (h.group == h.group && h.server == h.server) 1 0) hs in
    omega (arith, first, more)

none_failed : (n : ℕ) (was is : ℕ × ℕ) → 1 ≤ n → FailedTimes n was is → is.0 ≡ was.0 → is.1 ≡ was.1 → was.0 < 2 ^ 64 - 1 → was.1 < 2 ^ 64 - 1 → ⊥
none_failed n was is some (inl failed) zero one low0 low1 = omega (arith, some, zero, one, failed)
none_failed n was is some (inr (inl last)) zero one low0 low1 = omega (arith, zero, last, low0)
none_failed n was is some (inr (inr last)) zero one low0 low1 = omega (arith, one, last, low1)

module _ {D : Type 0} (faults : D → ℕ) (before after : List D) (faultless : AreFaultless faults before after) where
  not_caused : (halts : List Halt) (k i : ℕ) → 1 ≤ halt_count halts k i → IsCaused faults halts before after k i → ⊥
  not_caused halts k i some c =
      let was : ℕ × ℕ = (faults c.had.zero, faults c.had.one) in
      let is : ℕ × ℕ = (faults c.have.zero, faults c.have.one) in
      let failed = subst (λ x. FailedTimes (halt_count halts k i) x is) c.had.counts_are (subst (λ x. FailedTimes (halt_count halts k i) c.was x) c.have.counts_are c.failed) in
      let zero = faultless (6 * k + 2 * i) c.had.zero c.have.zero c.had.zero_is c.have.zero_is in
      let one = faultless (6 * k + 2 * i + 1) c.had.one c.have.one c.had.one_is c.have.one_is in
      none_failed (halt_count halts k i) was is some failed zero.0 one.0 zero.1 one.1

  pub no_halts : (halts : List Halt) → AreCaused faults halts before after → halts ≡ []
  no_halts [] caused = refl
  no_halts (h ∷ hs) caused = absurd (not_caused (h ∷ hs) h.group h.server (counts_itself h hs) caused.0)

  -- the text is that of the run without halts
  pub report_is : (lines : List Line) (text : List ℕ) (w : WorldIs) (halts : List Halt) (run : RunsTo lines text w) → AreHalts faults halts before after w → text ≡ report_of [] run.sessions lines
  report_is lines text w halts run told =
      sym (run.run halts [] told.tells).report ∙ ap (λ ss. report_of halts ss lines) (append-nil run.sessions) ∙ ap (λ hs. report_of hs run.sessions lines) (no_halts halts told.causes)
