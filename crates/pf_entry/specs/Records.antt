-- What outlives a crash: the records of a server's disks, and the state that they stand for.
use Rattle.std.specs.Prelude.{ℕ, ◌+◌, Bool, false, List, [], ◌∷◌, Option, Some, None, nat_lt, ◌==◌}
use Rattle.std.specs.FinMap
use Rattle.pf_entry.specs.Maps.{Map, Numbers}
use Rattle.pf_entry.specs.Ops.{Sector}
use Rattle.pf_entry.specs.Sizes.{body_size, empty_half}
use Rattle.pf_entry.specs.declared.entries.Entry.{Entry}
use Rattle.pf_entry.specs.declared.entries.VoteLog.{VoteLog}
pub use Rattle.pf_entry.specs.declared.records.Record.{Record}
use Rattle.pf_entry.specs.declared.records.Record.TheVariants.{Image as ImageRecord, Term as TermRecord, Entry as EntryRecord, Merged as MergedRecord}

-- the durable state. Slots up to base count as applied
pub record Durable : Type 0 where
  pub format : ℕ  -- of the current half, 1 or 2
  pub used : ℕ  -- the bytes of the current half
  pub generation : ℕ
  pub term : ℕ
  pub base : ℕ
  pub starts : Map ℕ
  pub log : Map Entry
  pub saved : Numbers  -- the slots above base that were applied when the image was saved
  pub sectors : List Sector  -- the sectors then

unfoldable pub put_entry : Map Entry → Entry → Map Entry
put_entry log e = FinMap.insert log e.slot e

unfoldable pub put_entries : Map Entry → List Entry → Map Entry
put_entries log [] = log
put_entries log (e ∷ es) = put_entries (put_entry log e) es

-- the log above a checkpoint
unfoldable pub above : ℕ → Map Entry → Map Entry
above base log = FinMap.retain_keys log (nat_lt base)

unfoldable pub add_start : Map ℕ → (term first : ℕ) → Map ℕ
add_start starts term first = FinMap.insert starts term first

-- a merge of no slot adds no start
unfoldable pub add_merged_start : Map ℕ → (term first : ℕ) → List Entry → Map ℕ
add_merged_start starts term first [] = starts
add_merged_start starts term first (e ∷ es) = add_start starts term first

abbrev pub vote_of : Durable → VoteLog
vote_of d = record { base = d.base; starts = d.starts; log = d.log }

-- the state as a record. A half begins with one
abbrev pub image_of : Durable → Record
image_of d = ImageRecord d.generation d.term (vote_of d) d.saved d.sectors

-- the state after one more record. An image begins a new half, in format 2
unfoldable pub stored : Durable → Record → Durable
stored d (ImageRecord generation term vote applied sectors) = record {
  format = 2;
  used = empty_half + body_size (ImageRecord generation term vote applied sectors);
  generation = generation;
  term = term;
  base = vote.base;
  starts = vote.starts;
  log = vote.log;
  saved = applied;
  sectors = sectors;
}
stored d (TermRecord term) = record d { used = d.used + body_size (TermRecord term); term = term }
stored d (EntryRecord e) = record d {
  used = d.used + body_size (EntryRecord e);
  term = e.term;
  starts = add_start d.starts e.term e.first;
  log = put_entry d.log e;
}
stored d (MergedRecord term first es) = record d {
  used = d.used + body_size (MergedRecord term first es);
  term = term;
  starts = add_merged_start d.starts term first es;
  log = put_entries d.log es;
}

-- what the records of a half stand for, after its image
abbrev pub recovered : Durable → List Record → Durable
recovered d [] = d
recovered d (r ∷ rs) = recovered (stored d r) rs

-- whether the log has an entry of this slot and term
abbrev pub has_term : ℕ → Option Entry → Bool
has_term term None = false
has_term term (Some e) = e.term == term

unfoldable pub holds : Durable → (slot term : ℕ) → Bool
holds d slot term = has_term term (FinMap.get d.log slot)
