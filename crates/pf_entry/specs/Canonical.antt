-- Which entries, packets and records have a spelling.
use Rattle.std.specs.Prelude.{◌≡◌, ◌≢◌, ℕ, ◌+◌, ◌*◌, ◌<◌, ◌≤◌, ◌^◌, true, List, [], Some, length, map, cond, ◌==◌}
use Rattle.std.specs.FinMap
use Rattle.pf_base.specs.Span.{is_span, is_whole, IsWritable}
use Rattle.pf_entry.specs.Maps.{Numbers}
use Rattle.pf_entry.specs.Sets
use Rattle.pf_entry.specs.Lists.{Every}
use Rattle.pf_entry.specs.Tables.{ascends}
use Rattle.pf_entry.specs.declared.ops.Op.{Op}
use Rattle.pf_entry.specs.declared.ops.Op.TheVariants.{Write, Noop, Mark}
use Rattle.pf_entry.specs.declared.entries.Named.{Named}
use Rattle.pf_entry.specs.declared.entries.Entry.{Entry}
use Rattle.pf_entry.specs.declared.entries.VoteLog.{VoteLog}
use Rattle.pf_entry.specs.declared.packets.Packet.{Packet}
use Rattle.pf_entry.specs.declared.packets.Body.{Body}
use Rattle.pf_entry.specs.declared.packets.Body.TheVariants.{Vote, Accept, Image}
use Rattle.pf_entry.specs.declared.records.Record.{Record}
use Rattle.pf_entry.specs.declared.records.Record.TheVariants.{Image as ImageRecord, Term as TermRecord, Entry as EntryRecord, Merged as MergedRecord}
use Rattle.pf_entry.specs.Sizes.{payload_size}

-- what a format has room for
pub record Bounds : Type 0 where
  pub names : ℕ  -- in a look-behind list
  pub window : ℕ  -- slots above a checkpoint in a log
  pub marks : ℕ  -- 1 where there may be marks, and names of the whole chunk

-- a write has as many sectors as its range, 1 to 8 below 4,096
abbrev pub IsCanonicalOp : Bounds → Op → Type 0
IsCanonicalOp bounds (Write range payload) = IsWritable range.first range.count × (length payload ≡ range.count) × Every (λ bytes. length bytes ≡ 512) payload
IsCanonicalOp bounds Noop = Unit {0}
IsCanonicalOp bounds Mark = bounds.marks ≡ 1

pub record IsCanonicalName (bounds : Bounds) (slot : ℕ) (n : Named) : Type 0 where
  pub below : n.slot < slot
  pub range : is_span n.range ≡ true
  pub marks : is_whole n.range ≡ true → bounds.marks ≡ 1

pub record IsCanonicalEntry (bounds : Bounds) (e : Entry) : Type 0 where
  pub slot : 1 ≤ e.slot
  pub term : 1 ≤ e.term
  pub first : 1 ≤ e.first
  pub few : length e.look ≤ bounds.names
  pub ascending : ascends (map (λ n. n.slot) e.look) ≡ true
  pub named : Every (IsCanonicalName bounds e.slot) e.look
  pub merged : e.slot < e.first → e.look ≡ []
  pub op : IsCanonicalOp bounds e.op

-- each entry stands under its slot, above the checkpoint and within the window
pub record IsCanonicalIn (bounds : Bounds) (base slot : ℕ) (e : Entry) : Type 0 where
  pub canonical : IsCanonicalEntry bounds e
  pub in_slot : e.slot ≡ slot
  pub is_above : base < slot
  pub within : slot ≤ base + bounds.window

pub record IsCanonicalVote (bounds : Bounds) (v : VoteLog) : Type 0 where
  pub starts : FinMap.len v.starts < 2 ^ 16
  pub entries : (slot : ℕ) (e : Entry) → FinMap.get v.log slot ≡ Some e → IsCanonicalIn bounds v.base slot e

pub record IsCanonicalImage (base : ℕ) (applied : Numbers) (sectors : List (List ℕ)) : Type 0 where
  pub above : (slot : ℕ) → Sets.contains applied slot ≡ true → base < slot
  pub few : Sets.len applied < 2 ^ 32
  pub some : 16 ≤ length sectors
  pub fits : length sectors ≤ 4096
  pub eighths : (k : ℕ) × (length sectors ≡ 8 * k)
  pub bytes : Every (λ bytes. length bytes ≡ 512) sectors

-- the bounds of packets and of format 2
unfoldable pub second_format : Bounds
second_format = record { names = 16; window = 4096; marks = 1 }

unfoldable pub first_format : Bounds
first_format = record { names = 2; window = 512; marks = 0 }

abbrev pub IsCanonicalMessage : (term : ℕ) → Body → Type 0
IsCanonicalMessage term (Vote v) = IsCanonicalVote second_format v
IsCanonicalMessage term (Accept e) = IsCanonicalEntry second_format e × (e.term ≡ term)
IsCanonicalMessage term (Image base applied sectors) = IsCanonicalImage base applied sectors
IsCanonicalMessage term _ = Unit {0}

pub record IsCanonicalPacket (p : Packet) : Type 0 where
  pub from : p.from < 3
  pub to : p.to < 3
  pub apart : p.from ≢ p.to
  pub term : 1 ≤ p.term
  pub message : IsCanonicalMessage p.term p.body

abbrev pub IsCanonicalFor : Bounds → Record → Type 0
IsCanonicalFor bounds (ImageRecord generation term vote applied sectors) = IsCanonicalVote bounds vote × IsCanonicalImage vote.base applied sectors
IsCanonicalFor bounds (TermRecord term) = Unit {0}
IsCanonicalFor bounds (EntryRecord e) = IsCanonicalEntry bounds e
IsCanonicalFor bounds (MergedRecord term first es) = Every (IsCanonicalEntry bounds) es

-- a record that is written in format 1 or 2
pub record IsCanonicalRecord (format : ℕ) (r : Record) : Type 0 where
  pub fields : IsCanonicalFor (cond (format == 1) first_format second_format) r
  pub short : payload_size r < 2 ^ 32
