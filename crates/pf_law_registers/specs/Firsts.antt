-- A port whose writes of a sector come first: all of them were acknowledged before any other writer began.
use Rattle.std.specs.Prelude.{◌≡◌, ℕ, ◌<◌, ◌≤◌, ◌⊎◌, List, [], ◌∷◌, ◌++◌, Some, length, slice_get}
use Rattle.pf_entry.specs.Ops.{Sector}
use Rattle.pf_entry.specs.declared.ops.Op.{Op}
use Rattle.pf_protocol.specs.declared.answers.Answer.{Answer}
use Rattle.pf_protocol.specs.declared.events.Event.TheVariants.{Submit}
use Rattle.pf_protocol.specs.Servers.{Setup}
use Rattle.pf_protocol.specs.Groups.{TookPlace, ending}
use Rattle.pf_protocol.specs.Histories.{History, IsPrefix}
use Rattle.pf_protocol.specs.Ports.{Submission, WriteHasEnded}
use Rattle.pf_law_registers.specs.Orders.{Member, given}
use Rattle.pf_law_registers.specs.Sectors.{IsCopyAt}

-- the port made this submission
pub record IsPorts (port : List Submission) (before : History) (server : ℕ) (op : Op) (answer : Answer) : Type 0 where
  pub k : ℕ
  pub submission : Submission
  pub there : slice_get port k ≡ Some submission
  pub at_moment : submission.before ≡ before
  pub to : submission.server ≡ server
  pub has_op : submission.op ≡ op
  pub has_answer : submission.answer ≡ answer

-- each submission that writes the sector and took place is such a one
abbrev pub EachWriter : History → (x : ℕ) → ((before : History) (server : ℕ) → Op → Answer → Type 0) → Type 0
EachWriter history x IsSuch =
    (before : History) (server : ℕ) (op : Op) (answer : Answer) (bytes : Sector)
    → IsPrefix (before ++ record { event = Submit server op; answer = answer } ∷ []) history
    → TookPlace (ending answer)
    → given op x ≡ Some bytes
    → IsSuch before server op answer

-- each is the port's, or was made after each of the port's writes of the sector was acknowledged
abbrev pub IsFirstAcked : Setup → History → List Submission → (x : ℕ) → Type 0
IsFirstAcked setup history port x = EachWriter history x (λ before server op answer. IsPorts port before server op answer
    ⊎ ((k : ℕ) (a : Submission) (its : Sector) → slice_get port k ≡ Some a → given a.op x ≡ Some its → WriteHasEnded setup port before a.write))

-- so many first places are those of the port's copies
pub record ComeFirst (setup : Setup) (history : History) (order : List Member) (port : List Submission) (made : ℕ) : Type 0 where
  pub within : made ≤ length order
  pub first : (place : ℕ) → place < made → (k : ℕ) × (a : Submission) × (slice_get port k ≡ Some a) × IsCopyAt setup history order place a
  pub none_later : (place k : ℕ) (a : Submission) → made ≤ place → slice_get port k ≡ Some a → IsCopyAt setup history order place a → ⊥
