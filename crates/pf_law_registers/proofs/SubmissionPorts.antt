-- The port that made a submission.
use Rattle.std.proofs.Common.{◌≡◌, ℕ, List, [], ◌∷◌, ◌++◌, Some, slice_get, sym, ap, subst, ◌∙◌}
use Rattle.pf_entry.specs.declared.ops.Op.{Op}
use Rattle.pf_entry.specs.declared.entries.Entry.{Entry}
use Rattle.pf_protocol.specs.declared.answers.Answer.{Answer}
use Rattle.pf_protocol.specs.Servers.{Setup}
use Rattle.pf_protocol.specs.Histories.{History, IsPrefix}
use Rattle.pf_protocol.specs.Ports.{Submission, submitting, IsCopy, ComesFrom, WasSubmitted}
use Rattle.pf_law_registers.specs.Firsts.{IsPorts}

submission_of : ℕ → History → ℕ → Op → Answer → Submission
submission_of write before server op answer = record { write = write; before = before; server = server; op = op; answer = answer }

-- the same submission, with the port's number of the write
named : (a b : Submission) → b.before ≡ a.before → b.server ≡ a.server → b.op ≡ a.op → b.answer ≡ a.answer → record a { write = b.write } ≡ b
unfolding submission_of
named a b before server op answer =
    ap (λ h. submission_of b.write h a.server a.op a.answer) (sym before)
    ∙ ap (λ i. submission_of b.write b.before i a.op a.answer) (sym server)
    ∙ ap (λ o. submission_of b.write b.before b.server o a.answer) (sym op)
    ∙ ap (submission_of b.write b.before b.server b.op) (sym answer)

copy_named : (setup : Setup) (a : Submission) (e : Entry) (write : ℕ) → IsCopy setup a e → IsCopy setup (record a { write = write }) e
copy_named setup a e write c = record {
  target = record { server = c.target.server; leader = c.target.leader; runs = c.target.runs; serves = c.target.serves };
  took_place = c.took_place;
  is = c.is;
}

comes_named : (setup : Setup) (now : History) (slot : ℕ) (a : Submission) (write : ℕ) → ComesFrom setup now slot a → ComesFrom setup now slot (record a { write = write })
comes_named setup now slot a write c = record { term = c.term; op = c.op; chosen = c.chosen; origin = c.origin; comes = c.comes; copy = copy_named setup a c.origin write c.copy }

-- a submission of the port from which the slot's op comes
pub record Written (setup : Setup) (port : List Submission) (now : History) (slot : ℕ) (op : Op) : Type 0 where
  pub k : ℕ
  pub submission : Submission
  pub there : slice_get port k ≡ Some submission
  pub made : IsPrefix (submission.before ++ submitting submission ∷ []) now
  pub comes : ComesFrom setup now slot submission
  pub same_op : submission.op ≡ op

pub ports_own : (setup : Setup) (port : List Submission) (now : History) (slot : ℕ) (op : Op) (s : WasSubmitted setup now slot op) → IsPorts port s.submission.before s.submission.server s.submission.op s.submission.answer → Written setup port now slot op
ports_own setup port now slot op s q =
    let same = named s.submission q.submission q.at_moment q.to q.has_op q.has_answer in
    record {
      k = q.k;
      submission = q.submission;
      there = q.there;
      made = subst (λ (z : Submission). IsPrefix (z.before ++ submitting z ∷ []) now) same s.made;
      comes = subst (ComesFrom setup now slot) same (comes_named setup now slot s.submission q.submission.write s.comes);
      same_op = q.has_op ∙ s.same_op;
    }
