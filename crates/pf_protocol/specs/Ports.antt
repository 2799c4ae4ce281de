-- Ports: each hands its writes to a group one after another.
use Rattle.std.specs.Prelude.{◌≡◌, ℕ, ◌<◌, ◌≤◌, ◌≢◌, List, [], ◌∷◌, ◌++◌, Some, slice_get}
use Rattle.pf_entry.specs.declared.ops.Op.{Op}
use Rattle.pf_entry.specs.declared.entries.Entry.{Entry}
use Rattle.pf_protocol.specs.declared.answers.Answer.{Answer}
use Rattle.pf_protocol.specs.declared.events.Event.TheVariants.{Submit}
use Rattle.pf_protocol.specs.declared.events.Happening.{Happening}
use Rattle.pf_protocol.specs.Servers.{Setup, Leader, Serving, Server}
use Rattle.pf_protocol.specs.Leading.{new_entry}
use Rattle.pf_protocol.specs.Groups.{Acked, Whole, TookPlace, ending}
use Rattle.pf_protocol.specs.Histories.{History, IsPrefix, replay, RunsAs, IsChosen, HasOrigin}

-- a port hands a write to a server, perhaps once more
pub record Submission : Type 0 where
  pub write : ℕ  -- the port's writes have numbers that ascend, in the order in which they are asked
  pub before : History  -- of the group
  pub server : ℕ
  pub op : Op
  pub answer : Answer

abbrev pub submitting : Submission → Happening
submitting a = record { event = Submit a.server a.op; answer = a.answer }

-- the server serves as a leader
pub record IsTarget (setup : Setup) (a : Submission) : Type 0 where
  pub server : Server
  pub leader : Leader
  pub runs : RunsAs (replay setup a.before) a.server server
  pub serves : server.role ≡ Serving leader

-- the entry that the leader made of it. A submission that was cut off counts as well: its record may be found
pub record IsCopy (setup : Setup) (a : Submission) (e : Entry) : Type 0 where
  pub target : IsTarget setup a
  pub took_place : TookPlace (ending a.answer)
  pub is : e ≡ new_entry setup.names target.server target.leader a.op

-- it took place, and the slot that it was given was acknowledged by now
pub record SubmissionIsAnswered (setup : Setup) (now : History) (a : Submission) : Type 0 where
  pub target : IsTarget setup a
  pub took_place : TookPlace (ending a.answer)
  pub k : ℕ
  pub acked : Acked
  pub at : slice_get (replay setup now).acked k ≡ Some acked
  pub in_term : acked.term ≡ target.server.durable.term
  pub in_slot : acked.slot ≡ target.leader.next

-- the last submission of the write was acknowledged by now
pub record WriteHasEnded (setup : Setup) (port : List Submission) (now : History) (write : ℕ) : Type 0 where
  pub m : ℕ
  pub final : Submission
  pub at : slice_get port m ≡ Some final
  pub same : final.write ≡ write
  pub no_later : (k : ℕ) (b : Submission) → slice_get port k ≡ Some b → b.write ≡ write → k ≤ m
  pub answered : SubmissionIsAnswered setup now final

-- the rule of a port: its submissions follow each other, of one write after another; none goes to a leader of a lower term than the
-- last; a write goes to a leader of the same term again only where it was refused or cut off there; and the next write waits until the
-- last submission of the one before was acknowledged
pub record FollowsRule (setup : Setup) (history : History) (port : List Submission) : Type 0 where
  pub happened : (k : ℕ) (a : Submission) → slice_get port k ≡ Some a → IsPrefix (a.before ++ submitting a ∷ []) history
  pub in_order : (j k : ℕ) (a b : Submission) → slice_get port j ≡ Some a → slice_get port k ≡ Some b → j < k
      → IsPrefix (a.before ++ submitting a ∷ []) b.before
  pub ascends : (j k : ℕ) (a b : Submission) → slice_get port j ≡ Some a → slice_get port k ≡ Some b → j < k → a.write ≤ b.write
  pub no_lower : (j k : ℕ) (a b : Submission) → slice_get port j ≡ Some a → slice_get port k ≡ Some b → j < k → (x : IsTarget setup a) (y : IsTarget setup b)
      → x.server.durable.term ≤ y.server.durable.term
  pub again : (j k : ℕ) (a b : Submission) → slice_get port j ≡ Some a → slice_get port k ≡ Some b → j < k → a.write ≡ b.write
      → (x : IsTarget setup a) (y : IsTarget setup b) → x.server.durable.term ≡ y.server.durable.term → ending a.answer ≢ Whole
  pub waits : (j k : ℕ) (a b : Submission) → slice_get port j ≡ Some a → slice_get port k ≡ Some b → a.write < b.write
      → WriteHasEnded setup port b.before a.write

-- the op that is chosen comes from this submission
pub record ComesFrom (setup : Setup) (history : History) (slot : ℕ) (a : Submission) : Type 0 where
  pub term : ℕ
  pub op : Op
  pub chosen : IsChosen setup history slot term op
  pub origin : Entry
  pub comes : HasOrigin setup history chosen.entry origin
  pub copy : IsCopy setup a origin

-- the op that is chosen is that of a submission, and comes from it
pub record WasSubmitted (setup : Setup) (history : History) (slot : ℕ) (op : Op) : Type 0 where
  pub submission : Submission
  pub made : IsPrefix (submission.before ++ submitting submission ∷ []) history
  pub comes : ComesFrom setup history slot submission
  pub same_op : submission.op ≡ op

-- each copy of a write of the port is chosen below each copy of a write that the port asked later
abbrev pub IsOrdered : Setup → History → List Submission → Type 0
IsOrdered setup history port = (j k : ℕ) (a b : Submission) (first second : ℕ) → slice_get port j ≡ Some a → slice_get port k ≡ Some b → a.write < b.write
    → ComesFrom setup history first a → ComesFrom setup history second b → first < second

-- where a write of the port was acknowledged before another port handed on a write of its own, each copy of the first is chosen below each
-- of the second
abbrev pub IsOrderedBetween : Setup → History → List Submission → Type 0
IsOrderedBetween setup history port = (j : ℕ) (a b : Submission) (first second : ℕ) → slice_get port j ≡ Some a
    → IsPrefix (b.before ++ submitting b ∷ []) history → WriteHasEnded setup port b.before a.write → ComesFrom setup history first a
    → ComesFrom setup history second b → first < second
