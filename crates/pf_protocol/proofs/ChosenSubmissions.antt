-- Each chosen write was submitted.
use Rattle.std.proofs.Common.{◌≡◌, ℕ, ◌≢◌, inl, inr, [], ◌∷◌, ◌++◌, Some, arith, refl, sym, ap, ◌∙◌}
use Rattle.pf_entry.specs.declared.ops.Op.{Op}
use Rattle.pf_entry.specs.declared.ops.Op.TheVariants.{Noop}
use Rattle.pf_entry.specs.declared.entries.Entry.{Entry}
use Rattle.pf_entry.specs.declared.entries.VoteLog.{VoteLog}
use Rattle.pf_entry.specs.Entries.{EntryIsNew}
use Rattle.pf_entry.specs.Merging.{taken, merged_op, op_or_noop, merged_entry}
use Rattle.pf_protocol.specs.declared.answers.Answer.{Answer}
use Rattle.pf_protocol.specs.declared.events.Event.{Event}
use Rattle.pf_protocol.specs.Servers.{Setup, Leader, Server}
use Rattle.pf_protocol.specs.Leading.{new_entry}
use Rattle.pf_protocol.specs.Groups.{TookPlace, ending}
use Rattle.pf_protocol.specs.Histories.{History, IsPrefix, replay, RunsAs, Makes, BySubmit, ByMerge, IsProposal, IsChosen, HasOrigin, Itself, Through}
use Rattle.pf_protocol.specs.Ports.{Submission, submitting, IsCopy, ComesFrom, WasSubmitted}
use Rattle.pf_protocol.proofs.Origins.{source_of, origin_after}
use Rattle.pf_protocol.proofs.Snapshots.{chosen_after}
use Rattle.pf_protocol.proofs.Ports.{origin_proposal}

taken_op : (term base : ℕ) (own other : VoteLog) (slot : ℕ) (from : Entry) → taken base own other slot ≡ Some from → (merged_entry term base own other slot).op ≡ from.op
unfolding merged_entry merged_op op_or_noop
taken_op term base own other slot from is = ap op_or_noop is

new_op : (names : ℕ) (s : Server) (l : Leader) (op : Op) → (new_entry names s l op).op ≡ op
unfolding new_entry
new_op names s l op = refl

-- a merge hands the op on
pub origin_op : (setup : Setup) (history : History) (e origin : Entry) → HasOrigin setup history e origin → origin.op ≡ e.op
origin_op setup history _ _ (Itself e is new) = refl
origin_op setup history _ _ (Through e from origin is k rest) =
    origin_op setup history from origin rest
    ∙ sym (ap (λ z. z.op) k.is_merged ∙ taken_op k.server.durable.term k.server.durable.base k.own k.other e.slot from k.is_taken)

pub copy_op : (setup : Setup) (a : Submission) (e : Entry) → IsCopy setup a e → e.op ≡ a.op
copy_op setup a e copy = ap (λ z. z.op) copy.is ∙ new_op setup.names copy.target.server copy.target.leader a.op

-- the op that is chosen is that of the submission
pub comes_op : (setup : Setup) (history : History) (slot : ℕ) (a : Submission) (c : ComesFrom setup history slot a) → c.op ≡ a.op
comes_op setup history slot a c = sym c.chosen.has_op ∙ sym (origin_op setup history c.chosen.entry c.origin c.comes) ∙ copy_op setup a c.origin c.copy

pub comes_after : (setup : Setup) (earlier history : History) → IsPrefix earlier history → (slot : ℕ) (a : Submission) → ComesFrom setup earlier slot a → ComesFrom setup history slot a
unfolding chosen_after
comes_after setup earlier history p slot a c = record {
  term = c.term;
  op = c.op;
  chosen = chosen_after setup earlier history p slot c.term c.op c.chosen;
  origin = c.origin;
  comes = origin_after setup earlier history p c.chosen.entry c.origin c.comes;
  copy = c.copy;
}

-- a submission that was made by now, of which the entry is the copy
pub record Submitted (setup : Setup) (now : History) (e : Entry) : Type 0 where
  pub submission : Submission
  pub made : IsPrefix (submission.before ++ submitting submission ∷ []) now
  pub copy : IsCopy setup submission e

by_makes : (setup : Setup) (now earlier : History) (i : ℕ) (s : Server) (event : Event) (answer : Answer) (e : Entry) → TookPlace (ending answer) → IsPrefix (earlier ++ record { event = event; answer = answer } ∷ []) now → RunsAs (replay setup earlier) i s → Makes setup (replay setup earlier) i s event e → EntryIsNew e → Submitted setup now e
unfolding merged_entry
by_makes setup now earlier i s _ answer _ done p runs (BySubmit op l role) new = record {
  submission = record { write = 0; before = earlier; server = i; op = op; answer = answer };
  made = p;
  copy = record { target = record { server = s; leader = l; runs = runs; serves = role }; took_place = done; is = refl };
}
by_makes setup now earlier i s _ answer _ done p runs (ByMerge k sent own other slot merge above below) new = absurd (omega (arith, below, new))

pub submitted : (setup : Setup) (now : History) (e : Entry) → IsProposal setup now e → EntryIsNew e → Submitted setup now e
submitted setup now e p new = by_makes setup now p.made.earlier p.leader p.made.server p.made.making.event p.made.making.answer e p.made.done p.made.is_earlier p.made.runs p.made.makes new

pub was_submitted : (setup : Setup) (history : History) (slot term : ℕ) (op : Op) → IsChosen setup history slot term op → op ≢ Noop → WasSubmitted setup history slot op
was_submitted setup history slot term op c not_noop =
    elim (source_of setup history c.entry c.proposed) [
      | inl o ↦
          let p = origin_proposal setup history c.entry o.origin o.is in
          let s = submitted setup history o.origin p.1 p.3 in
          record {
            submission = s.submission;
            made = s.made;
            comes = record { term = term; op = op; chosen = c; origin = o.origin; comes = o.is; copy = s.copy };
            same_op = sym (copy_op setup s.submission o.origin s.copy) ∙ origin_op setup history c.entry o.origin o.is ∙ c.has_op;
          }
      | inr noop ↦ absurd (not_noop (sym c.has_op ∙ noop))
    ]
