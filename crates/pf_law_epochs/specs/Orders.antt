-- The writes of a sector through the epochs of its chunk, in one order.
use Rattle.std.specs.Prelude.{◌≡◌, ℕ, zero, suc, ◌+◌, ◌<◌, true, List, ◌++◌, length, Some, slice_get}
use Rattle.pf_protocol.specs.Fresh.{shows_slot}
use Rattle.pf_protocol.specs.Groups.{Answered}
use Rattle.pf_protocol.specs.Ports.{Submission, ComesFrom}
use Rattle.pf_law_registers.specs.Orders.{Member, IsWriteMember}
use Rattle.pf_law_positions.specs.Deeds.{Groups}
use Rattle.pf_law_positions.specs.Moves.{mover_into}

-- what is chosen in this slot of the epoch's group comes from the mover
pub record IsMovers (groups : Groups) (chunk epoch slot : ℕ) : Type 0 where
  pub k : ℕ
  pub submission : Submission
  pub there : slice_get (mover_into groups chunk epoch) k ≡ Some submission
  pub comes : ComesFrom (groups.setup chunk epoch) (groups.history chunk epoch) slot submission

-- A write of the sector that is chosen in the epoch's group, and is not the mover's own. Of an ended epoch the server had applied it that
-- answered the mover's last read
pub record IsRoutedWrite (groups : Groups) (chunk x epoch : ℕ) (last : Answered) (m : Member) : Type 0 where
  pub is_write : IsWriteMember (groups.setup chunk epoch) (groups.history chunk epoch) x m
  pub not_movers : IsMovers groups chunk epoch m.slot → ⊥
  pub was_moved : epoch < groups.moves chunk → shows_slot last m.slot ≡ true

-- all of them, in the order of their slots
pub record IsPart (groups : Groups) (chunk x epoch : ℕ) (last : Answered) (part : List Member) : Type 0 where
  pub ascends : (j k : ℕ) (a b : Member) → slice_get part j ≡ Some a → slice_get part k ≡ Some b → j < k → a.slot < b.slot
  pub each : (place : ℕ) (m : Member) → slice_get part place ≡ Some m → IsRoutedWrite groups chunk x epoch last m
  pub all : (m : Member) → IsRoutedWrite groups chunk x epoch last m → (place : ℕ) × (slice_get part place ≡ Some m)

-- The order of a sector up to an epoch: the writes of the ended epochs in turn, and after them those of this one
abbrev pub order_of_sector : (parts : ℕ → List Member) → (epoch : ℕ) → List Member
order_of_sector parts zero = parts zero
order_of_sector parts (suc epoch) = order_of_sector parts epoch ++ parts (suc epoch)

-- so many members stand before those of this epoch
abbrev pub members_before : (parts : ℕ → List Member) → (epoch : ℕ) → ℕ
members_before parts zero = 0
members_before parts (suc epoch) = members_before parts epoch + length (parts epoch)

-- the member at this place of the order is this one of the epoch's
pub record IsMemberAt (parts : ℕ → List Member) (epoch place : ℕ) (m : Member) : Type 0 where
  pub nth : ℕ
  pub is_place : place ≡ members_before parts epoch + nth
  pub at : slice_get (parts epoch) nth ≡ Some m
