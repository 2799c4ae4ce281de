-- Where each submission of a port that followed its rule met a leader, the terms of these leaders rise.
use Rattle.std.proofs.Common.{◌≡◌, ℕ, ◌<◌, ◌≤◌, inl, inr, List, Option, Some, None, slice_get, arith, sym, ap, ◌∙◌}
use Rattle.std.proofs.lemmas.Bool.{cases_lt}
use Rattle.pf_protocol.specs.Servers.{Setup}
use Rattle.pf_protocol.specs.Groups.{Whole, ending}
use Rattle.pf_protocol.specs.Histories.{History, replay}
use Rattle.pf_protocol.specs.Ports.{Submission, IsTarget, FollowsRule}
use Rattle.pf_law_ports.specs.Rising.{TermsAreRising}
use Rattle.pf_law_ports.proofs.PortRules.{term_in}

-- the term of the server to which the submission went, 0 where there is none
abbrev term_of : Setup → Option Submission → ℕ
term_of setup (Some a) = term_in (slice_get (replay setup a.before).servers a.server)
term_of setup None = 0

module _ (setup : Setup) (history : History) (port : List Submission) (rule : FollowsRule setup history port)
    (target : (k : ℕ) (a : Submission) → slice_get port k ≡ Some a → IsTarget setup a) where
  abbrev term : ℕ → ℕ
  term k = term_of setup (slice_get port k)

  in_term : (k : ℕ) (a : Submission) → slice_get port k ≡ Some a → (x : IsTarget setup a) → x.server.durable.term ≡ term k
  in_term k a at x = sym (ap (term_of setup) at ∙ ap term_in x.runs)

  no_lower : (j k : ℕ) (a b : Submission) → slice_get port j ≡ Some a → slice_get port k ≡ Some b → j < k → term j ≤ term k
  no_lower j k a b at there lt =
      let x = target j a at in
      let y = target k b there in
      omega (arith, rule.no_lower j k a b at there lt x y, in_term j a at x, in_term k b there y)

  again : (j k : ℕ) (a b : Submission) → slice_get port j ≡ Some a → slice_get port k ≡ Some b → j < k → a.write ≡ b.write → ending a.answer ≡ Whole → term j < term k
  again j k a b at there lt same whole =
      let x = target j a at in
      let y = target k b there in
      elim (cases_lt (term j) (term k)) [
        | inl less ↦ less
        | inr not_less ↦ absurd (rule.again j k a b at there lt same x y (omega (arith, not_less, no_lower j k a b at there lt, in_term j a at x, in_term k b there y)) whole)
      ]

  pub rising : TermsAreRising setup port
  rising = record { target = target; term = term; in_term = in_term; no_lower = no_lower; again = again }
