-- The leaders to which a port hands its writes.
use Rattle.std.specs.Prelude.{◌≡◌, ℕ, ◌<◌, ◌≤◌, List, Some, slice_get}
use Rattle.pf_protocol.specs.Servers.{Setup}
use Rattle.pf_protocol.specs.Groups.{Whole, ending}
use Rattle.pf_protocol.specs.Ports.{Submission, IsTarget}

-- Each submission went to a server that served as a leader then, and each place of the list has its term. None went to a lower term than
-- one before it, and one of the same write as one that was answered whole went to a higher one
pub record TermsAreRising (setup : Setup) (writes : List Submission) : Type 0 where
  pub target : (k : ℕ) (a : Submission) → slice_get writes k ≡ Some a → IsTarget setup a
  pub term : ℕ → ℕ
  pub in_term : (k : ℕ) (a : Submission) → slice_get writes k ≡ Some a → (x : IsTarget setup a) → x.server.durable.term ≡ term k
  pub no_lower : (j k : ℕ) (a b : Submission) → slice_get writes j ≡ Some a → slice_get writes k ≡ Some b → j < k → term j ≤ term k
  pub again : (j k : ℕ) (a b : Submission) → slice_get writes j ≡ Some a → slice_get writes k ≡ Some b → j < k → a.write ≡ b.write → ending a.answer ≡ Whole
      → term j < term k
