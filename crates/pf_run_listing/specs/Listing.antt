-- What is listed of a server's two disks.
use Rattle.std.specs.Prelude.{ℕ, ◌≡◌, ◌⊎◌, List, [], ◌∷◌, ◌++◌, Result, Ok, Err, Vec, IsErr, codes}
use Rattle.std.specs.List.{AllZip, flat_map}
use Rattle.std.specs.declared.alloc.Global.{Global}
use Rattle.pf_base.specs.declared.errors.NoMemory.{NoMemory as OutOfMemory}
use Rattle.pf_entry.specs.declared.records.Record.{Record}
use Rattle.pf_chunklog.specs.Records.{Raw}
use Rattle.pf_chunklog.specs.declared.errors.OpenFault.{OpenFault}
use Rattle.pf_chunklog.specs.declared.errors.OpenFault.TheVariants.{NoMemory, DiskFault, NotOurs}
use Rattle.pf_image.specs.Halves.{of_half}
use Rattle.pf_image.specs.Recovery.{Content, IsRecoverable, SpellsRecord}
use Rattle.pf_image.specs.declared.halves.Half.{Half}
use Rattle.pf_report.specs.Records.{record_line}
use Rattle.pf_report.specs.Texts.{with_line_feed}
use Rattle.pf_run_listing.specs.declared.listing.ListingOutcome.{ListingOutcome}
use Rattle.pf_run_listing.specs.declared.listing.ListingOutcome.TheVariants as says

-- what the halves of a server begin with: the magic, a format, which does not count here, the group and the server
abbrev pub listed_head : (group server : ℕ) → List ℕ
listed_head group server = codes "PFCL" ++ 2 ∷ group ∷ server ∷ []

-- a line for each record, in order
abbrev pub records_text : List Record → List ℕ
records_text records = flat_map record_line records

abbrev pub not_ours_line : List ℕ
not_ours_line = with_line_feed (codes "not ours")

abbrev pub disk_fault_line : List ℕ
disk_fault_line = with_line_feed (codes "disk fault")

-- what is written of what is listed
abbrev pub listed_text : ListingOutcome → List ℕ
listed_text (says.Records text) = text.items
listed_text says.NotOurs = not_ours_line
listed_text says.DiskFault = disk_fault_line

-- What is said of the text of the records that were found, or of why there is none: memory is wanted only where it was wanted in finding.
abbrev pub IsSaid : (found : Result (Vec ℕ Global) OpenFault) → (said : Result ListingOutcome OutOfMemory) → Type 0
IsSaid (Ok text) said = said ≡ Ok (says.Records text)
IsSaid (Err NoMemory) said = IsErr said
IsSaid (Err NotOurs) said = said ≡ Ok says.NotOurs
IsSaid (Err DiskFault) said = said ≡ Ok says.DiskFault

-- the text of the records that stand in a half of this format
pub record TellsRecords (content : Content) (text : List ℕ) : Type 0 where
  pub records : List Record
  pub spelled : AllZip (SpellsRecord content.0) content.1 records
  pub text_is : text ≡ records_text records

-- the text of records that were found
pub record AreRecords (IsFound : Content → Type 0) (text : List ℕ) : Type 0 where
  pub content : Content
  pub found : IsFound content
  pub told : TellsRecords content text

-- neither of the two files is that of a recoverable half
abbrev pub HasNone : (head zero one : List ℕ) → Type 0
HasNone head zero one = (half : Half) (records : List Raw) → IsRecoverable head half (of_half half zero one) records → ⊥

-- The text of the records that were found; that there are none; or that a disk failed.
abbrev pub IsListing : (IsFound : Content → Type 0) → (none failed : Type 0) → List ℕ → Type 0
IsListing IsFound none failed text =
    AreRecords IsFound text ⊎ ((none × (text ≡ not_ours_line)) ⊎ (failed × (text ≡ disk_fault_line)))

-- what is listed: records that were found; that there are none; or that a disk failed
abbrev pub ListedTells : (IsFound : Content → Type 0) → (none failed : Type 0) → ListingOutcome → Type 0
ListedTells IsFound none failed (says.Records text) = AreRecords IsFound text.items
ListedTells IsFound none failed says.NotOurs = none
ListedTells IsFound none failed says.DiskFault = failed
