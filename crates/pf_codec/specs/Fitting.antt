-- Which numbers fit the types of the code: a definition speaks of numbers of any size, and two of them that differ by 2^64 have one spelling.
use Rattle.std.specs.Prelude.{◌≡◌, ℕ, ◌*◌, ◌<◌, ◌≤◌, ◌^◌, true, List, length}
use Rattle.std.specs.FinMap
use Rattle.pf_entry.specs.Maps.{Map, Numbers}
use Rattle.pf_entry.specs.Sets
use Rattle.pf_entry.specs.Lists.{Every}
use Rattle.pf_entry.specs.Canonical.{Bounds, IsCanonicalEntry, IsCanonicalVote, IsCanonicalFor}
use Rattle.pf_entry.specs.declared.entries.Entry.{Entry}
use Rattle.pf_entry.specs.declared.entries.VoteLog.{VoteLog}
use Rattle.pf_entry.specs.declared.records.Record.{Record}
use Rattle.pf_entry.specs.declared.records.Record.TheVariants.{Image as ImageRecord, Term as TermRecord, Entry as EntryRecord, Merged as MergedRecord}

abbrev pub IsWord : ℕ → Type 0
IsWord n = n < 2 ^ 64

pub record EntryFitsWords (e : Entry) : Type 0 where
  pub slot : IsWord e.slot
  pub term : IsWord e.term
  pub first : IsWord e.first
  pub look : Every (λ n. IsWord n.slot) e.look

abbrev pub StartsFit : Map ℕ → Type 0
StartsFit starts = Every (λ row. IsWord row.0 × IsWord row.1) (FinMap.entries starts)

pub record VoteFitsWords (v : VoteLog) : Type 0 where
  pub base : IsWord v.base
  pub starts : StartsFit v.starts
  pub log : Every EntryFitsWords (FinMap.values v.log)

abbrev pub SlotsFitWords : Numbers → Type 0
SlotsFitWords slots = Every IsWord (Sets.items slots)

abbrev pub RecordFits : Record → Type 0
RecordFits (ImageRecord generation term vote applied sectors) = IsWord generation × IsWord term × VoteFitsWords vote × SlotsFitWords applied
RecordFits (TermRecord term) = IsWord term
RecordFits (EntryRecord e) = EntryFitsWords e
RecordFits (MergedRecord term first es) = IsWord term × IsWord first × Every EntryFitsWords es

-- what has a spelling within these bounds
abbrev pub IsEntry : Bounds → Entry → Type 0
IsEntry bounds e = EntryFitsWords e × IsCanonicalEntry bounds e

abbrev pub IsVote : Bounds → VoteLog → Type 0
IsVote bounds v = VoteFitsWords v × IsCanonicalVote bounds v

-- applied slots above a checkpoint
pub record AreApplied (base : ℕ) (slots : Numbers) : Type 0 where
  pub fit : SlotsFitWords slots
  pub few : Sets.len slots < 2 ^ 32
  pub above : (slot : ℕ) → Sets.contains slots slot ≡ true → base < slot

-- the sectors of a chunk
pub record IsChunk (sectors : List (List ℕ)) : Type 0 where
  pub some : 16 ≤ length sectors
  pub fits : length sectors ≤ 4096
  pub eighths : (k : ℕ) × (length sectors ≡ 8 * k)
  pub bytes : Every (λ bytes. length bytes ≡ 512) sectors

abbrev pub IsRecord : Bounds → Record → Type 0
IsRecord bounds r = RecordFits r × IsCanonicalFor bounds r
