-- What a restart finds in the files of the two halves.
use Rattle.std.specs.Prelude.{ℕ, ◌+◌, ◌≡◌, ◌≢◌, ◌⊎◌, ◌<◌, ◌≤◌, ◌↔◌, List, [], ◌∷◌, slice_index, unwrap_or}
use Rattle.std.specs.Int.{w64}
use Rattle.std.specs.List.{All}
use Rattle.pf_base.specs.Numbers.{number_at}
use Rattle.pf_chunklog.specs.Records.{Raw, HalfHolds}
use Rattle.pf_entry.specs.Canonical.{IsCanonicalRecord}
use Rattle.pf_entry.specs.declared.records.Record.{Record}
use Rattle.pf_codec.specs.Fitting.{RecordFits}
use Rattle.pf_codec.specs.Spelling.{record_kind, payload_bytes}
use Rattle.pf_image.specs.Halves.{half_head, of_half, other}
use Rattle.pf_image.specs.declared.halves.Half.{Half}
use Rattle.pf_image.specs.declared.halves.Half.TheVariants.{Zero, One}

-- a kind and a payload are those of this record in this format
pub record SpellsRecord (format : ℕ) (raw : Raw) (r : Record) : Type 0 where
  pub fits : RecordFits r
  pub canonical : IsCanonicalRecord format r
  pub kind : record_kind r ≡ raw.0
  pub payload : payload_bytes r ≡ raw.1

abbrev pub IsSpelled : ℕ → Raw → Type 0
IsSpelled format raw = (r : Record) × SpellsRecord format raw r

-- the kind of an image is 1
abbrev pub IsImageKind : ℕ → Raw → Type 0
IsImageKind format raw = (raw.0 ≡ 1) × IsSpelled format raw

-- a term, an entry, or merged entries
abbrev pub IsChange : ℕ → Raw → Type 0
IsChange format raw = (raw.0 ≢ 1) × IsSpelled format raw

-- the records of a recoverable half: an image first and nowhere else, and each is spelled as its format wants
abbrev pub AreRecoverable : ℕ → List Raw → Type 0
AreRecoverable format [] = ⊥
AreRecoverable format (image ∷ changes) = IsImageKind format image × All (IsChange format) changes

-- an image stands first and nowhere else
abbrev pub KindIsInPlace : (place kind : ℕ) → Type 0
KindIsInPlace place kind = (place ≡ 0) ↔ (kind ≡ 1)

-- the generation of an image, the number in the first eight bytes of its payload
abbrev pub generation_in : Raw → ℕ
generation_in raw = unwrap_or (number_at w64 raw.1 0) 0

-- the generation of a half
abbrev pub generation : List Raw → ℕ
generation [] = 0
generation (image ∷ changes) = generation_in image

abbrev pub IsFormat : ℕ → Type 0
IsFormat format = (format ≡ 1) ⊎ (format ≡ 2)

-- the head of a half in one of the two formats
pub record IsHead (head whole : List ℕ) (half : Half) : Type 0 where
  pub known : IsFormat (slice_index whole 4)
  pub is : whole ≡ half_head head (slice_index whole 4) half

-- the file of a half that is recoverable and holds these records
pub record IsRecoverable (head : List ℕ) (half : Half) (file : List ℕ) (records : List Raw) : Type 0 where
  pub format : ℕ
  pub known : IsFormat format
  pub held : HalfHolds (half_head head format half) records file
  pub recoverable : AreRecoverable format records

-- The generation of a half is behind that of the other half, which is the current one: half 0 is current where they are equal.
abbrev pub HalfIsBehind : Half → (generation current : ℕ) → Type 0
HalfIsBehind Zero generation current = generation < current
HalfIsBehind One generation current = generation ≤ current

-- whatever a file of a half holds is behind this generation of the other half
abbrev pub IsOlder : List ℕ → Half → List ℕ → ℕ → Type 0
IsOlder head half file current = (records : List Raw) → IsRecoverable head half file records → HalfIsBehind half (generation records) current

-- a restart takes this half, whose file is the first, and finds these records
pub record RestartTakes (head : List ℕ) (half : Half) (file spare : List ℕ) (records : List Raw) : Type 0 where
  pub recoverable : IsRecoverable head half file records
  pub older : IsOlder head (other half) spare (generation records)

-- a restart finds these records in the files of half 0 and half 1
abbrev pub Finds : List ℕ → List ℕ → List ℕ → List Raw → Type 0
Finds head zero one records = (half : Half) × RestartTakes head half (of_half half zero one) (of_half (other half) zero one) records

-- a format, and the records of a half in it
abbrev pub Content : Type 0
Content = ℕ × List Raw

-- a restart finds these records, in a half of this format
pub record FindsIn (head zero one : List ℕ) (content : Content) : Type 0 where
  pub found : Finds head zero one content.1
  pub format_is : found.1.recoverable.format ≡ content.0

-- the image of the next generation, in format 2
pub record IsLaterImage (records : List Raw) (raw : Raw) : Type 0 where
  pub image : IsImageKind 2 raw
  pub next : generation_in raw ≡ generation records + 1
