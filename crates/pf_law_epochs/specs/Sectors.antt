-- A sector of a chunk that moves, as one register.
use Rattle.std.specs.Prelude.{◌≡◌, ℕ, ◌<◌, ◌≤◌, ◌↔◌, ◌⊎◌, true, List, length, Option, Some, slice_get}
use Rattle.pf_entry.specs.Ops.{Sector}
use Rattle.pf_entry.specs.declared.ops.Op.{Op}
use Rattle.pf_protocol.specs.Fresh.{shows_slot}
use Rattle.pf_protocol.specs.Groups.{Answered}
use Rattle.pf_protocol.specs.Ports.{Submission, ComesFrom}
use Rattle.pf_law_registers.specs.Orders.{Member, given, values_of}
use Rattle.pf_law_registers.specs.Registers.{IsRegister}
use Rattle.pf_law_registers.specs.Sectors.{ReadGives}
use Rattle.pf_law_positions.specs.Deeds.{PortAsk, Put, Got, Deed, Takes, Submits, Groups, WasPut, WasGot}
use Rattle.pf_law_epochs.specs.Orders.{IsPart, order_of_sector, IsMemberAt}

-- a client's read of the chunk, which covers the sector: the deed that brought its answer, from the group of some epoch
pub record RoutedRead (groups : Groups) (deeds : List Deed) (chunk x : ℕ) : Type 0 where
  pub client : ℕ
  pub answered : ℕ
  pub epoch : ℕ
  pub by : ℕ
  pub read : Answered
  pub next : Option PortAsk
  pub at : slice_get deeds answered ≡ Some (Takes client (Some (Got chunk epoch by read)) next)
  pub got : WasGot groups deeds chunk epoch client answered by read
  pub covers : (bytes : Sector) × ReadGives (groups.setup chunk epoch) (groups.history chunk epoch) x read bytes

abbrev pub GivesRouted : (groups : Groups) (deeds : List Deed) (chunk x : ℕ) → RoutedRead groups deeds chunk x → Sector → Type 0
GivesRouted groups deeds chunk x r bytes = ReadGives (groups.setup chunk r.epoch) (groups.history chunk r.epoch) x r.read bytes

-- a read was answered before this one was asked, in whichever epochs. (A turn brings an answer before it asks)
abbrev pub IsReadBefore : (groups : Groups) (deeds : List Deed) (chunk x : ℕ) → (r later : RoutedRead groups deeds chunk x) → Type 0
IsReadBefore groups deeds chunk x r later = r.answered ≤ later.got.asked

-- the member at this place is a copy of this write of the client: it comes from one of its submissions, in the epoch's group
pub record IsCopyOf (groups : Groups) (chunk : ℕ) (parts : ℕ → List Member) (place epoch client write : ℕ) : Type 0 where
  pub k : ℕ
  pub submission : Submission
  pub there : slice_get (groups.writes chunk epoch client) k ≡ Some submission
  pub is_write : submission.write ≡ write
  pub member : Member
  pub is_at : IsMemberAt parts epoch place member
  pub comes : ComesFrom (groups.setup chunk epoch) (groups.history chunk epoch) member.slot submission

-- a deed answered this write, which gives the sector something, from the group of some epoch
pub record SectorIsWritten (groups : Groups) (deeds : List Deed) (chunk x client write answered : ℕ) : Type 0 where
  pub epoch : ℕ
  pub by : ℕ
  pub op : Op
  pub next : Option PortAsk
  pub at : slice_get deeds answered ≡ Some (Takes client (Some (Put chunk epoch by op)) next)
  pub put : WasPut groups deeds chunk epoch client answered by op
  pub is_write : put.asked ≡ write
  pub bytes : Sector
  pub gives : given op x ≡ Some bytes

-- the member is a copy, in any epoch, of a write that was answered before the read was asked
pub record IsWrittenBefore (groups : Groups) (deeds : List Deed) (chunk x : ℕ) (parts : ℕ → List Member) (place : ℕ)
    (r : RoutedRead groups deeds chunk x) : Type 0 where
  pub client : ℕ
  pub write : ℕ
  pub answered : ℕ
  pub written : SectorIsWritten groups deeds chunk x client write answered
  pub before : answered ≤ r.got.asked
  pub epoch : ℕ
  pub reached : epoch ≤ groups.moves chunk
  pub copy : IsCopyOf groups chunk parts place epoch client write

-- the member is a copy of a write that a client handed to a server before the read was answered
pub record IsHandedBefore (groups : Groups) (deeds : List Deed) (chunk x : ℕ) (parts : ℕ → List Member) (place : ℕ) (r : RoutedRead groups deeds chunk x) : Type
    0 where
  pub client : ℕ
  pub write : ℕ
  pub epoch : ℕ
  pub copy : IsCopyOf groups chunk parts place epoch client write
  pub moment : ℕ
  pub at : slice_get deeds moment ≡ Some (Submits client chunk epoch (length copy.submission.before))
  pub before : moment < r.answered

-- the answering group holds the member: of an earlier epoch all, of its own what the answering server had applied
abbrev pub GroupHoldsMember : (groups : Groups) (deeds : List Deed) (chunk x : ℕ) → RoutedRead groups deeds chunk x → (epoch : ℕ) → Member → Type 0
GroupHoldsMember groups deeds chunk x r epoch m = (epoch < r.epoch) ⊎ ((epoch ≡ r.epoch) × (shows_slot r.read m.slot ≡ true))

-- The sector has one order through the epochs, and is a register over it: each routed read is fresh. It shows the members that its group
-- holds, which come first in the order, and gives the bytes of the last, zeros if there is none. It shows each copy of a write that was
-- answered to its client before the read was asked, and whatever a read showed that was answered before, in whichever epochs. The copies
-- of a client's writes stand in the order in which it asked them; and where a write was answered before another one was asked, by whomever
-- of clients, each copy of the first stands before each of the second
pub record RoutedSector (groups : Groups) (deeds : List Deed) (chunk x : ℕ) (last : ℕ → Answered) : Type 0 where
  pub parts : ℕ → List Member
  pub are_parts : (epoch : ℕ) → epoch ≤ groups.moves chunk → IsPart groups chunk x epoch (last epoch) (parts epoch)
  pub shown : RoutedRead groups deeds chunk x → ℕ
  pub is_register : IsRegister (values_of (order_of_sector parts (groups.moves chunk))) shown (GivesRouted groups deeds chunk x)
      (IsReadBefore groups deeds chunk x) (IsWrittenBefore groups deeds chunk x parts) (IsHandedBefore groups deeds chunk x parts)
  pub holds : (r : RoutedRead groups deeds chunk x) (epoch place : ℕ) (m : Member) → epoch ≤ groups.moves chunk → IsMemberAt parts epoch place m
      → (place < shown r) ↔ GroupHoldsMember groups deeds chunk x r epoch m
  pub has_place : (client write answered : ℕ) (w : SectorIsWritten groups deeds chunk x client write answered)
      → (place : ℕ) × IsCopyOf groups chunk parts place w.epoch client write
  pub in_order : (client one other first second a b : ℕ) → one ≤ groups.moves chunk → other ≤ groups.moves chunk → first ≤ second
      → IsCopyOf groups chunk parts first one client a → IsCopyOf groups chunk parts second other client b → a ≤ b
  pub between : (client write answered other later one two first second : ℕ) → SectorIsWritten groups deeds chunk x client write answered → answered ≤ later
      → one ≤ groups.moves chunk → two ≤ groups.moves chunk → IsCopyOf groups chunk parts first one client write
      → IsCopyOf groups chunk parts second two other later → first < second
