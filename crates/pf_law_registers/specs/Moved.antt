-- A sector that was moved to a group: a port wrote there what a read gave before, and was the first to write.
use Rattle.std.specs.Prelude.{◌≡◌, ℕ, ◌≤◌, ◌⊎◌, List, [], ◌∷◌, ◌++◌, Option, Some, slice_get}
use Rattle.pf_entry.specs.Ops.{Sector, zero_sector}
use Rattle.pf_entry.specs.declared.ops.Op.{Op}
use Rattle.pf_protocol.specs.declared.answers.Answer.{Answer}
use Rattle.pf_protocol.specs.declared.events.Event.TheVariants.{Submit}
use Rattle.pf_protocol.specs.Servers.{Setup}
use Rattle.pf_protocol.specs.Groups.{Answered, TookPlace, ending}
use Rattle.pf_protocol.specs.Histories.{History, IsPrefix}
use Rattle.pf_protocol.specs.Ports.{Submission, WriteHasEnded, FollowsRule, ComesFrom}
use Rattle.pf_law_registers.specs.Registers.{IsRegister, IsOwnRegister}
use Rattle.pf_law_registers.specs.Orders.{given, values_of}
use Rattle.pf_law_registers.specs.Sectors.{ReadGives, IsTakenUp, IsAnsweredBefore, IsAckedBefore, IsAskedBefore, SectorRegister, IsCopyAt}
use Rattle.pf_law_registers.specs.Firsts.{IsPorts, IsFirstAcked, ComeFirst}
use Rattle.pf_law_registers.specs.Alone.{IsAlone, IsWriteAckedBefore, HasBytes, IsWriteAskedBefore}
use Rattle.pf_law_registers.specs.Joined.{Earlier, EitherRead, joined_values, joined_shown, GiveJoined, AreAnsweredJoined, ArePlacedJoined, AreWritesJoined}

-- the last submission of this write of the port was acknowledged before this read was taken up, and what is chosen in the acknowledged
-- slot comes from it and writes the sector
pub record IsWriteEndedBefore (setup : Setup) (history : History) (port : List Submission) (x write : ℕ) (read : Answered) : Type 0 where
  pub taken : IsTakenUp setup history x read
  pub ended : WriteHasEnded setup port taken.before write
  pub its_bytes : Sector
  pub writes_it : given ended.final.op x ≡ Some its_bytes
  pub comes : ComesFrom setup history ended.answered.acked.slot ended.final

-- the port into the new group wrote these bytes and was the first to write the sector there; it wrote nothing only where they are zeros
pub record IsMove (setup : Setup) (history : History) (x : ℕ) (new : SectorRegister setup history x) (port : List Submission) (bytes : Sector) : Type 0 where
  pub rule : FollowsRule setup history port
  pub first : IsFirstAcked setup history port x
  pub same : (k : ℕ) (a : Submission) (its : Sector) → slice_get port k ≡ Some a → given a.op x ≡ Some its → its ≡ bytes
  pub made : (bytes ≡ zero_sector) ⊎ ((place : ℕ) × (k : ℕ) × (a : Submission) × (slice_get port k ≡ Some a) × IsCopyAt setup history new.order place a)

-- a read in the new group that was taken up after each of the port's writes of the sector was acknowledged
pub record LaterRead (setup : Setup) (history : History) (port : List Submission) (x : ℕ) : Type 0 where
  pub answer : Answered
  pub is_later : (k : ℕ) (a : Submission) (its : Sector) → slice_get port k ≡ Some a → given a.op x ≡ Some its
      → IsWriteEndedBefore setup history port x a.write answer

-- Some register, of which the last read tells what is moved, and the sector of the new group are one register: of the reads that were answered
-- before the last one was taken up, and of the new group's after the move. The list has the old writes that the last read shows, and
-- then the new ones without the port's. The old register may be one that was moved before
abbrev pub IsMovedRegister : {R : Type 0} → (values : List Sector) (shown : R → ℕ) (Give : R → Sector → Type 0) (AnsweredBefore : R → R → Type 0)
    (AckedBefore AskedBefore : ℕ → R → Type 0) (last : R) (setup : Setup) (history : History) (x : ℕ) (new : SectorRegister setup history x)
    (port : List Submission) (made : ℕ) → Type 0
IsMovedRegister values shown Give AnsweredBefore AckedBefore AskedBefore last setup history x new port made =
    IsRegister (joined_values (shown last) made values (values_of new.order))
    (joined_shown (shown last) made (λ (a : Earlier AnsweredBefore last). shown a.read) (λ (b : LaterRead setup history port x). new.shown b.answer))
    (GiveJoined (λ (a : Earlier AnsweredBefore last). Give a.read) (λ (b : LaterRead setup history port x). ReadGives setup history x b.answer))
    (AreAnsweredJoined (λ (a b : Earlier AnsweredBefore last). AnsweredBefore a.read b.read)
    (λ (a b : LaterRead setup history port x). IsAnsweredBefore setup history x a.answer b.answer))
    (ArePlacedJoined (shown last) made (λ place (a : Earlier AnsweredBefore last). AckedBefore place a.read)
    (λ place (b : LaterRead setup history port x). IsAckedBefore setup history x new.order place b.answer))
    (ArePlacedJoined (shown last) made (λ place (a : Earlier AnsweredBefore last). AskedBefore place a.read)
    (λ place (b : LaterRead setup history port x). IsAskedBefore setup history new.order place b.answer))

-- the sector of one group, moved to another
pub record MovedRegister (old_setup : Setup) (old_history : History) (new_setup : Setup) (new_history : History) (x : ℕ)
    (old : SectorRegister old_setup old_history x) (new : SectorRegister new_setup new_history x) (port : List Submission) (last : Answered) : Type 0 where
  pub made : ℕ
  pub come_first : ComeFirst new_setup new_history new.order port made
  pub is_register : IsMovedRegister (values_of old.order) old.shown (ReadGives old_setup old_history x) (IsAnsweredBefore old_setup old_history x)
      (IsAckedBefore old_setup old_history x old.order) (IsAskedBefore old_setup old_history old.order) last new_setup new_history x new port made

-- One writes the sector alone: by a port into the old group, where nobody else writes it, and by a port into the new one, where beside it the
-- move's port alone writes the sector, and each write of which begins after those of the move's port were acknowledged and has no lower
-- number than any into the old group
pub record IsOneWriter (old_setup : Setup) (old_history : History) (new_setup : Setup) (new_history : History) (x : ℕ)
    (mover old_port new_port : List Submission) : Type 0 where
  pub old_rule : FollowsRule old_setup old_history old_port
  pub old_alone : IsAlone old_setup old_history old_port x
  pub new_rule : FollowsRule new_setup new_history new_port
  pub new_alone :
      (before : History) (server : ℕ) (op : Op) (answer : Answer) (bytes : Sector)
      → IsPrefix (before ++ record { event = Submit server op; answer = answer } ∷ []) new_history
      → TookPlace (ending answer)
      → given op x ≡ Some bytes
      → IsPorts mover before server op answer ⊎ IsPorts new_port before server op answer
  pub after_move : (i k : ℕ) (a b : Submission) (its other : Sector) → slice_get mover i ≡ Some a → given a.op x ≡ Some its → slice_get new_port k ≡ Some b
      → given b.op x ≡ Some other → WriteHasEnded new_setup mover b.before a.write
  pub goes_on : (i k : ℕ) (a b : Submission) → slice_get old_port i ≡ Some a → slice_get new_port k ≡ Some b → a.write ≤ b.write

-- The moved register is one that one alone writes. For a read after the move a write into the old group counts as acknowledged where it was
-- before the move's read was taken up, and as asked where it was before that read was answered
pub record MovedOwnRegister (old_setup : Setup) (old_history : History) (new_setup : Setup) (new_history : History) (x : ℕ)
    (mover old_port new_port : List Submission) (last : Answered) : Type 0 where
  pub shown : EitherRead (Earlier (IsAnsweredBefore old_setup old_history x) last) (LaterRead new_setup new_history mover x) → Option ℕ
  pub is_register : IsOwnRegister (λ write bytes. HasBytes old_history old_port x write bytes ⊎ HasBytes new_history new_port x write bytes) shown
      (GiveJoined (λ (a : Earlier (IsAnsweredBefore old_setup old_history x) last). ReadGives old_setup old_history x a.read)
      (λ (b : LaterRead new_setup new_history mover x). ReadGives new_setup new_history x b.answer))
      (AreAnsweredJoined (λ (a b : Earlier (IsAnsweredBefore old_setup old_history x) last). IsAnsweredBefore old_setup old_history x a.read b.read)
      (λ (a b : LaterRead new_setup new_history mover x). IsAnsweredBefore new_setup new_history x a.answer b.answer))
      (AreWritesJoined (λ write (a : Earlier (IsAnsweredBefore old_setup old_history x) last). IsWriteAckedBefore old_setup old_history old_port x write a.read)
      (λ write. IsWriteAckedBefore old_setup old_history old_port x write last)
      (λ write (b : LaterRead new_setup new_history mover x). IsWriteAckedBefore new_setup new_history new_port x write b.answer))
      (AreWritesJoined (λ write (a : Earlier (IsAnsweredBefore old_setup old_history x) last). IsWriteAskedBefore old_setup old_history old_port write a.read)
      (λ write. IsWriteAskedBefore old_setup old_history old_port write last)
      (λ write (b : LaterRead new_setup new_history mover x). IsWriteAskedBefore new_setup new_history new_port write b.answer))
