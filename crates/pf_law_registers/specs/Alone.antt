-- A sector that one port alone writes.
use Rattle.std.specs.Prelude.{◌≡◌, ℕ, List, [], ◌∷◌, ◌++◌, Option, Some, slice_get}
use Rattle.pf_entry.specs.Ops.{Sector}
use Rattle.pf_entry.specs.declared.ops.Op.{Op}
use Rattle.pf_protocol.specs.Servers.{Setup}
use Rattle.pf_protocol.specs.Groups.{Acked, Answered}
use Rattle.pf_protocol.specs.Histories.{History, IsPrefix, replay}
use Rattle.pf_protocol.specs.Ports.{Submission, submitting, ComesFrom}
use Rattle.pf_law_registers.specs.Registers.{IsOwnRegister}
use Rattle.pf_law_registers.specs.Orders.{given}
use Rattle.pf_law_registers.specs.Firsts.{EachWriter, IsPorts}
use Rattle.pf_law_registers.specs.Sectors.{ReadGives, IsTakenUp, IsAnsweredBefore}

-- a submission of the port, of this write, made by now
pub record IsSubmissionOf (port : List Submission) (now : History) (write : ℕ) (op : Op) : Type 0 where
  pub k : ℕ
  pub submission : Submission
  pub there : slice_get port k ≡ Some submission
  pub is_write : submission.write ≡ write
  pub has_op : submission.op ≡ op
  pub made : IsPrefix (submission.before ++ submitting submission ∷ []) now

-- each submission that writes the sector and took place is one of the port's
abbrev pub IsAlone : Setup → History → List Submission → (x : ℕ) → Type 0
IsAlone setup history port x = EachWriter history x (IsPorts port)

-- a copy of this write of the port was acknowledged before this read was taken up
pub record IsWriteAckedBefore (setup : Setup) (history : History) (port : List Submission) (x write : ℕ) (read : Answered) : Type 0 where
  pub k : ℕ
  pub submission : Submission
  pub there : slice_get port k ≡ Some submission
  pub is_write : submission.write ≡ write
  pub its_bytes : Sector
  pub writes_it : given submission.op x ≡ Some its_bytes
  pub taken : IsTakenUp setup history x read
  pub n : ℕ
  pub acked : Acked
  pub was_acked : slice_get (replay setup taken.before).acked n ≡ Some acked
  pub comes : ComesFrom setup history acked.slot submission

-- this write of the port gives the sector these bytes
abbrev pub HasBytes : History → List Submission → (x write : ℕ) → Sector → Type 0
HasBytes history port x write bytes = (op : Op) × IsSubmissionOf port history write op × (given op x ≡ Some bytes)

-- at each moment at which the read is answered, the port had asked the write
abbrev pub IsWriteAskedBefore : Setup → History → List Submission → (write : ℕ) → Answered → Type 0
IsWriteAskedBefore setup history port write read = (now : History) (k : ℕ) → IsPrefix now history → slice_get (replay setup now).answered k ≡ Some read
    → (op : Op) × IsSubmissionOf port now write op

-- the write of the port that each read shows
pub record OwnRegister (setup : Setup) (history : History) (port : List Submission) (x : ℕ) : Type 0 where
  pub shown : Answered → Option ℕ
  pub is_register : IsOwnRegister (HasBytes history port x) shown (ReadGives setup history x) (IsAnsweredBefore setup history x)
      (IsWriteAckedBefore setup history port x) (IsWriteAskedBefore setup history port)
