use Rattle.std.proofs.Common.{◌≡◌, ◌≢◌, List, ℕ, ◌==◌, Some, sym, ap, ◌∙◌}
use Rattle.std.proofs.lemmas.Bool.{cond-false, ne_eqb}
use Rattle.pf_txn.specs.Spelling.{spell_txn}
use Rattle.pf_file_calls.specs.declared.answers.CallAnswer.TheVariants.{Refused}
use Rattle.pf_file_calls.specs.declared.answers.CallFault.TheVariants.{JournalFull}
use Rattle.pf_journal.specs.declared.layouts.Layout.{Layout}
use Rattle.pf_journal.specs.Layouts.{layout_of}
use Rattle.pf_mount_errands.specs.Positions.{journal_of}
use Rattle.pf_mount.specs.Mounts.{ballots, done}
use Rattle.pf_mount.proofs.plans.proposes.Goals as goal

pub returns : goal.returns
returns c =
    let s = c.args.stand in
    let count : c.positions.result ≡ (journal_of s.position).positions = c.positions.ensures.count ∙ ap (λ (l : Layout). (layout_of l).positions) c.layout.ensures.layout in
    let left : s.upto ≢ (journal_of s.position).positions = λ e. c.if-stand-positions.false (e ∙ sym count) in
    c.ballots.ensures
    ∙ ap (λ (value : List ℕ). ballots s (Some value)) c.in-Some.ensures.value
    ∙ sym (cond-false (s.upto == (journal_of s.position).positions) (done s (Refused JournalFull)) (ballots s (Some (spell_txn c.args.txn.now))) (ne_eqb s.upto (journal_of s.position).positions left))
