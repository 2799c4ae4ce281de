-- Writes of a sector, or of eight, that are asked in turn: each is answered before the next one is asked.
use Rattle.std.specs.Prelude.{◌≡◌, ℕ, ◌+◌, ◌<◌, ◌≤◌, ◌&&◌, ◌==◌, if◌then◌else◌, List, length, replicate, Option, Some, None, slice_get, unwrap_or}
use Rattle.std.specs.List.{fold}
use Rattle.pf_base.specs.Span.{Span}
use Rattle.pf_entry.specs.Ops.{Sector, zero_sector}
use Rattle.pf_entry.specs.declared.ops.Op.{Op}
use Rattle.pf_entry.specs.declared.ops.Op.TheVariants.{Write}
use Rattle.pf_law_registers.specs.Orders.{given}
use Rattle.pf_law_positions.specs.Deeds.{PortAsk, PortReply, Puts, Deed, Takes, DeedIsPending}

-- in its turn at this moment a client asks a write that gives the sector these bytes
pub record AsksBytes (deeds : List Deed) (chunk x client asked : ℕ) (bytes : Sector) : Type 0 where
  pub reply : Option PortReply
  pub op : Op
  pub at : slice_get deeds asked ≡ Some (Takes client reply (Some (Puts chunk op)))
  pub gives : given op x ≡ Some bytes

-- what the client asked then was answered no later than at that moment: it had its next turn
pub record IsTurnAnsweredBy (deeds : List Deed) (client asked moment : ℕ) : Type 0 where
  pub turn : ℕ
  pub by_then : turn ≤ moment
  pub ask : PortAsk
  pub pending : DeedIsPending deeds client asked turn ask
  pub reply : Option PortReply
  pub next : Option PortAsk
  pub at : slice_get deeds turn ≡ Some (Takes client reply next)

-- Of the writes of the sector, by whomever they were asked: each that was asked before a read was answered had been answered when the read
-- was asked, and when the next one was asked
pub record AreInTurn (deeds : List Deed) (chunk x asked answered : ℕ) : Type 0 where
  pub before : (client write : ℕ) (bytes : Sector) → write < answered → AsksBytes deeds chunk x client write bytes → IsTurnAnsweredBy deeds client write asked
  pub apart : (client write other later : ℕ) (bytes its : Sector) → write < later → later < answered → AsksBytes deeds chunk x client write bytes
      → AsksBytes deeds chunk x other later its → IsTurnAnsweredBy deeds client write later

-- what is in the sector once the deed's write is
abbrev pub asked_over : (chunk x : ℕ) → (old : Sector) → Deed → Sector
asked_over chunk x old (Takes client reply (Some (Puts to op))) = if to == chunk then unwrap_or (given op x) old else old
asked_over chunk x old deed = old

-- the bytes of the last write of the sector that was asked, zeros if there is none
abbrev pub last_asked : (chunk x : ℕ) → List Deed → Sector
last_asked chunk x deeds = fold (asked_over chunk x) zero_sector deeds

-- Eight sectors

abbrev pub eight_from : (first : ℕ) → Span
eight_from first = record { first = first; count = 8 }

-- the sectors of a write of exactly these eight
abbrev pub eight_in : (first : ℕ) → Op → Option (List Sector)
eight_in first (Write span sectors) = if (span.first == first) && (span.count == 8) && (length sectors == 8) then Some sectors else None
eight_in first op = None

-- whatever asks a write of one of these eight sectors asks one of exactly them
abbrev pub AreWhole : (deeds : List Deed) (chunk first : ℕ) → Type 0
AreWhole deeds chunk first =
    (client asked nth : ℕ) (bytes : Sector)
    → nth < 8
    → (a : AsksBytes deeds chunk (first + nth) client asked bytes)
    → (sectors : List Sector) × (eight_in first a.op ≡ Some sectors)

-- what is in the eight sectors once the deed's write is
abbrev pub put_over : (chunk first : ℕ) → (old : List Sector) → Deed → List Sector
put_over chunk first old (Takes client reply (Some (Puts to op))) = if to == chunk then unwrap_or (eight_in first op) old else old
put_over chunk first old deed = old

-- the sectors of the last write of the eight that was asked, zeros if there is none
abbrev pub last_put : (chunk first : ℕ) → List Deed → List Sector
last_put chunk first deeds = fold (put_over chunk first) (replicate 8 zero_sector) deeds

-- of each of the eight sectors
abbrev pub AreEightInTurn : (deeds : List Deed) (chunk first asked answered : ℕ) → Type 0
AreEightInTurn deeds chunk first asked answered = (nth : ℕ) → nth < 8 → AreInTurn deeds chunk (first + nth) asked answered
