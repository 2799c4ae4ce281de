-- In a legal history a submission that was answered with a slot has its place once this slot is acknowledged.
use Rattle.std.proofs.Common.{◌≡◌, ℕ, [], ◌∷◌, ◌++◌, sym, ap, subst, ◌∙◌}
use Rattle.pf_protocol.specs.declared.answers.Answer.TheVariants.{Slot as SlotIs}
use Rattle.pf_protocol.specs.Servers.{Setup}
use Rattle.pf_protocol.specs.Groups.{ending}
use Rattle.pf_protocol.specs.Histories.{History, IsPrefix}
use Rattle.pf_protocol.specs.Answers.{IsLegal}
use Rattle.pf_protocol.specs.Ports.{Submission, submitting, IsTarget, SubmissionIsAnswered, ComesFrom}
use Rattle.pf_protocol.proofs.ForPorts.{same_next_of, given_slot, acknowledged_copy}
use Rattle.pf_law_registers.specs.Sectors.{SubmissionIsPlaced}
use Rattle.pf_law_registers.proofs.AnswersKept.{acked_stays}

same_slot : (a b : ℕ) → SlotIs a ≡ SlotIs b → a ≡ b
same_slot a b e = cc

pub placed : (setup : Setup) (history now : History) (a : Submission) (slot : ℕ) → IsLegal setup history → IsPrefix (a.before ++ submitting a ∷ []) history → IsPrefix now history → a.answer ≡ SlotIs slot → SubmissionIsAnswered setup now a → SubmissionIsPlaced setup history now slot a
placed setup history now a slot legal made p answer told =
    let t = given_slot setup history a legal made (ap ending answer) in
    let x : IsTarget setup a = record { server = t.server; leader = t.leader; runs = t.runs; serves = t.serves } in
    let next : told.target.leader.next ≡ slot = same_next_of setup a told.target x ∙ sym (same_slot slot t.leader.next (sym answer ∙ t.gives)) in
    let later : SubmissionIsAnswered setup history a = record { target = told.target; took_place = told.took_place; k = told.k; acked = told.acked; at = acked_stays setup now history told.k told.acked p told.at; in_term = told.in_term; in_slot = told.in_slot } in
    record {
      k = told.k;
      acked = told.acked;
      was_acked = told.at;
      in_slot = told.in_slot ∙ next;
      comes = subst (λ k. ComesFrom setup history k a) (sym told.in_slot) (acknowledged_copy setup history a legal made later);
    }
