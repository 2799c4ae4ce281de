-- Records as a store keeps them.
use Rattle.std.specs.Prelude.{◌≡◌, ◌⊎◌, ℕ, suc, Bool, true, false, List, [], ◌∷◌}
use Rattle.std.specs.FinMap
use Rattle.pf_entry.specs.Sets
use Rattle.pf_entry.specs.Lists.{Every}
use Rattle.pf_entry.specs.Canonical.{IsCanonicalRecord}
use Rattle.pf_entry.specs.Records.{Durable, stored, recovered}
use Rattle.pf_entry.specs.declared.records.Record.{Record}
use Rattle.pf_entry.specs.declared.records.Record.TheVariants.{Image}
use Rattle.pf_codec.specs.Spelling.{body_bytes}
use Rattle.pf_codec.specs.Fitting.{RecordFits}
use Rattle.pf_server_store.specs.declared.found.Found.{Found}

-- an image begins a half, and stands nowhere else
abbrev pub is_image : Record → Bool
is_image (Image generation term vote applied sectors) = true
is_image _ = false

-- these bytes add the record to a half of this format
pub record IsSpelledAs (format : ℕ) (r : Record) (body : List ℕ) : Type 0 where
  pub canonical : IsCanonicalRecord format r
  pub fits : RecordFits r
  pub added : is_image r ≡ false
  pub is : body ≡ body_bytes r

abbrev pub IsNextImage : ℕ → Record → Type 0
IsNextImage generation (Image its term vote applied sectors) = its ≡ suc generation
IsNextImage generation _ = ⊥

-- these bytes are an image of the next generation
pub record IsImageOf (d : Durable) (r : Record) (body : List ℕ) : Type 0 where
  pub canonical : IsCanonicalRecord 2 r
  pub fits : RecordFits r
  pub next : IsNextImage d.generation r
  pub is : body ≡ body_bytes r

-- nothing is in a state but what an image puts there
abbrev pub blank : Durable
blank = record { format = 2; used = 0; generation = 0; term = 0; base = 0; starts = FinMap.empty; log = FinMap.empty; saved = Sets.empty; sectors = [] }

-- what the records of a half stand for: an image, and the others after it
abbrev pub state_of_records : (format : ℕ) → List Record → Durable
state_of_records format [] = blank
state_of_records format (image ∷ rest) = recovered (record (stored blank image) { format = format }) rest

abbrev pub BeginsWithImage : List Record → Type 0
BeginsWithImage [] = ⊥
BeginsWithImage (image ∷ rest) = (is_image image ≡ true) × Every (λ r. is_image r ≡ false) rest

pub record RecordsStandFor (found : Found) (d : Durable) : Type 0 where
  pub format : (found.format ≡ 1) ⊎ (found.format ≡ 2)
  pub image : BeginsWithImage found.records.items
  pub state : state_of_records found.format found.records.items ≡ d
  pub used : found.used ≡ d.used

-- what is known of the stores of a type
pub record StoreModel (S : Type 0) : Type 1 where
  -- a restart would find the first state, or the second
  pub holds : S → Durable → Durable → Type 0
  -- whether both disks tell their content
  pub told : S → Bool
  -- the used bytes of the current half, and its format
  pub used : S → ℕ
  pub format : S → ℕ
  -- a count of faults of one of the disks rose from the first to the second
  pub rose : S → S → Type 0
  -- from the first to the second no count of faults fell, the store is found by the same head, and a crash at any moment left the first
  -- state, or the second
  pub was : S → S → Durable → Durable → Type 0
  -- what it becomes where it goes on from what the last `find` found
  pub resumed : S → S

-- a store that was only read: it has what it had, and its current half is the same
pub record StandsStill {S : Type 0} (model : StoreModel S) (old new : S) : Type 0 where
  pub holds_same : (before after : Durable) → model.holds old before after → model.holds new before after
  pub used_same : model.used new ≡ model.used old
  pub format_same : model.format new ≡ model.format old
