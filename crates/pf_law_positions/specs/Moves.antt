-- How a chunk was moved from one group to the next.
use Rattle.std.specs.Prelude.{◌≡◌, ℕ, zero, suc, ◌+◌, ◌<◌, ◌≤◌, ◌⊎◌, List, [], take, Some, slice_get}
use Rattle.pf_entry.specs.Ops.{Sector, zero_sector}
use Rattle.pf_protocol.specs.declared.answers.Answer.TheVariants.{Slot, Read}
use Rattle.pf_protocol.specs.declared.events.Event.TheVariants.{Fetch}
use Rattle.pf_protocol.specs.Servers.{Setup}
use Rattle.pf_protocol.specs.Groups.{Answered}
use Rattle.pf_protocol.specs.Histories.{History, replay}
use Rattle.pf_protocol.specs.Ports.{Submission, IsTarget, FollowsRule}
use Rattle.pf_law_registers.specs.Orders.{given}
use Rattle.pf_law_positions.specs.Deeds.{Groups, Deed, Submits, BringsBy}

-- what the move's port wrote into the epoch's group: nothing into the first one
abbrev pub mover_into : Groups → (chunk epoch : ℕ) → List Submission
mover_into groups chunk zero = []
mover_into groups chunk (suc epoch) = groups.moved chunk epoch

-- the last submission of the write was answered with a slot, which the leader of its term acknowledged by now, and it writes the sector
pub record WasWritten (setup : Setup) (port : List Submission) (now : History) (x write : ℕ) : Type 0 where
  pub m : ℕ
  pub final : Submission
  pub at : slice_get port m ≡ Some final
  pub same : final.write ≡ write
  pub is_last : (k : ℕ) (a : Submission) → slice_get port k ≡ Some a → a.write ≡ write → k ≤ m
  pub slot : ℕ
  pub took_slot : final.answer ≡ Slot slot
  pub term : ℕ
  pub in_term : (target : IsTarget setup final) → target.server.durable.term ≡ term
  pub n : ℕ
  pub acked : slice_get (replay setup now).acked n ≡ Some (record { term = term; slot = slot })
  pub bytes : Sector
  pub gives : given final.op x ≡ Some bytes

-- all that the move's port wrote of these eight sectors into the epoch's group was acknowledged when so many of its events had happened
abbrev pub WereWritten : Groups → (chunk first epoch by : ℕ) → Type 0
WereWritten groups chunk first epoch by =
    (k nth : ℕ) (a : Submission) (its : Sector)
    → slice_get (mover_into groups chunk epoch) k ≡ Some a
    → nth < 8
    → given a.op (first + nth) ≡ Some its
    → WasWritten (groups.setup chunk epoch) (mover_into groups chunk epoch) (take by (groups.history chunk epoch)) (first + nth) a.write

-- Eight sectors of the chunk were moved from this epoch's group into the next one. The last read of the old group was taken up after the
-- move before it had ended, and after all that clients were ever answered by that group. What it gave was written into the new group,
-- where it is not zeros, and nothing else, and clients handed nothing to the new group until that was acknowledged
pub record ChunkIsMoved (groups : Groups) (deeds : List Deed) (chunk first epoch : ℕ) (last : Answered) : Type 0 where
  pub k : ℕ
  pub answered : slice_get (replay (groups.setup chunk epoch) (groups.history chunk epoch)).answered k ≡ Some last
  pub from : last.range.first ≡ first
  pub eight : last.range.count ≡ 8
  pub place : ℕ
  pub server : ℕ
  pub taken : slice_get (groups.history chunk epoch) place ≡ Some (record { event = Fetch server last.range; answer = Read last.number })
  pub after_move : WereWritten groups chunk first epoch place
  pub after_answers : (moment by : ℕ) (deed : Deed) → slice_get deeds moment ≡ Some deed → BringsBy chunk epoch by deed → by ≤ place
  pub rule : FollowsRule (groups.setup chunk (suc epoch)) (groups.history chunk (suc epoch)) (groups.moved chunk epoch)
  pub same : (k nth : ℕ) (a : Submission) (its : Sector) → slice_get (groups.moved chunk epoch) k ≡ Some a → nth < 8 → given a.op (first + nth) ≡ Some its
      → slice_get last.bytes nth ≡ Some its
  pub all : (nth : ℕ) (bytes : Sector) → nth < 8 → slice_get last.bytes nth ≡ Some bytes
      → (bytes ≡ zero_sector) ⊎ ((write : ℕ) × WasWritten (groups.setup chunk (suc epoch)) (groups.moved chunk epoch) (groups.history chunk (suc epoch))
      (first + nth) write)
  pub clients_wait : (moment client by : ℕ) → slice_get deeds moment ≡ Some (Submits client chunk (suc epoch) by)
      → WereWritten groups chunk first (suc epoch) by
