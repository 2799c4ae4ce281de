-- In a legal history each chosen op that writes a sector has 512 bytes for it.
use Rattle.std.proofs.Common.{◌≡◌, ℕ, ◌+◌, ◌-◌, ◌<◌, ◌≤◌, inl, inr, true, false, List, [], ◌∷◌, ◌++◌, length, arith, refl, sym, ap, subst, ◌∙◌}
use Rattle.std.proofs.lemmas.Bool.Decides.{nat_tests}
use Rattle.std.proofs.lemmas.Bool.{cond-true, false≢true}
use Rattle.std.proofs.lemmas.List.{append_assoc}
use Rattle.pf_base.specs.Span.{Span, is_in}
use Rattle.pf_entry.specs.Ops.{writes}
use Rattle.pf_entry.proofs.Lists.{every_get}
use Rattle.pf_entry.specs.declared.ops.Op.{Op}
use Rattle.pf_entry.specs.declared.ops.Op.TheVariants.{Write, Noop, Mark}
use Rattle.pf_protocol.specs.LastWriters.{bytes_for}
use Rattle.pf_protocol.specs.declared.answers.Answer.{Answer}
use Rattle.pf_protocol.specs.declared.events.Event.TheVariants.{Submit}
use Rattle.pf_protocol.specs.Servers.{Setup}
use Rattle.pf_protocol.specs.Groups.{Group, ending, happens, opening}
use Rattle.pf_protocol.specs.Histories.{History, IsChosen}
use Rattle.pf_protocol.specs.Answers.{Claimed, IsSubmitted, IsLegalFrom, IsLegal, claims_after}
use Rattle.pf_protocol.specs.Ports.{submitting}
use Rattle.pf_protocol.proofs.ForHistories.{source_of}
use Rattle.pf_protocol.proofs.ForPorts.{origin_proposal, origin_op, copy_op, submitted}
use Rattle.pf_law_registers.specs.Orders.{given, IsWholeSector}
use Rattle.pf_law_registers.proofs.Lists.{something_there}

submitted_at : (setup : Setup) (g : Group) (claims : List Claimed) (before : History) (i : ℕ) (op : Op) (answer : Answer) (rest : History) → IsLegalFrom setup g claims (before ++ record { event = Submit i op; answer = answer } ∷ rest) → IsSubmitted op
submitted_at setup g claims [] i op answer rest is = is.0.asked.1
submitted_at setup g claims (x ∷ xs) i op answer rest is = submitted_at setup (happens setup g x.event (ending x.answer)) (claims_after claims x.event x.answer) xs i op answer rest is.1

inside : (range : Span) (x : ℕ) → range.count ≤ 8 → is_in range x ≡ true → (range.first ≤ x) × (x < range.first + range.count)
inside range x few is = (grind (arith, nat_tests, few, is), grind (arith, nat_tests, few, is))

noop_writes : (x : ℕ) → writes Noop x ≡ false
unfolding writes
noop_writes x = refl

whole_op : (op : Op) (x : ℕ) → IsSubmitted op → writes op x ≡ true → IsWholeSector op x
unfolding given bytes_for writes
whole_op (Write range payload) x is does =
    let p = inside range x is.0.few does in
    let found = something_there payload (x - range.first) (omega (arith, p.0, p.1, is.1)) in
    record { bytes = found.0; gives = cond-true _ _ _ does ∙ found.1; full = every_get (λ bytes. length bytes ≡ 512) payload (x - range.first) found.0 is.2 found.1 }
whole_op Noop x is does = absurd is
whole_op Mark x is does = absurd (false≢true does)

pub whole_write : (setup : Setup) (history : History) (slot term : ℕ) (op : Op) (x : ℕ) → IsLegal setup history → IsChosen setup history slot term op → writes op x ≡ true → IsWholeSector op x
whole_write setup history slot term op x legal c does =
    elim (source_of setup history c.entry c.proposed) [
      | inl o ↦
          let p = origin_proposal setup history c.entry o.origin o.is in
          let s = submitted setup history o.origin p.1 p.3 in
          let same : s.submission.op ≡ op = sym (copy_op setup s.submission o.origin s.copy) ∙ origin_op setup history c.entry o.origin o.is ∙ c.has_op in
          whole_op op x
          (subst IsSubmitted same (submitted_at setup (opening setup) [] s.submission.before s.submission.server s.submission.op s.submission.answer s.made.rest
          (subst (IsLegalFrom setup (opening setup) []) (sym (sym (append_assoc s.submission.before (submitting s.submission ∷ []) s.made.rest) ∙ s.made.whole)) legal.legal)))
          does
      | inr noop ↦ absurd (false≢true (sym (noop_writes x) ∙ ap (λ o. writes o x) (sym noop ∙ c.has_op) ∙ does))
    ]
