-- The logs of a current half and of a spare one.
use Rattle.std.proofs.Common.{◌≡◌, ◌⊎◌, inl, inr, ℕ, ◌+◌, Option, Some, None, IfSome, List, [], ◌∷◌, ◌++◌, length, true, is_some, slice_index, refl, sym, ◌∙◌, ap, subst}
use Rattle.pf_disk.specs.Crashes.{Images, KeepsImages}
use Rattle.pf_chunklog.specs.Records.{Raw, HalfHolds, blocks}
use Rattle.pf_chunklog.specs.Logs.{BeforeOrAfter, LogIsAtRest}
use Rattle.pf_chunklog.specs.declared.log.ChunkLog.{ChunkLog}
use Rattle.pf_chunklog.proofs.Steps.{told, was_told}
use Rattle.std.proofs.lemmas.Bool.{false≢true}
use Rattle.pf_image.specs.Halves.{half_head, other}
use Rattle.pf_image.specs.Recovery.{AreRecoverable, Content, IsChange, IsFormat, IsLaterImage, IsOlder, IsRecoverable, RestartTakes, generation}
use Rattle.pf_image.specs.Current.{IsBegun, IsCurrent}
use Rattle.pf_image.specs.declared.halves.Half.{Half}
use Rattle.pf_image.proofs.Files.{begun_older, generation_more, image_alone, recoverable_more, then_older}

-- a restart takes this half, and finds this content
pub record TakesIn (head : List ℕ) (half : Half) (file spare : List ℕ) (content : Content) : Type 0 where
  pub taken : RestartTakes head half file spare content.1
  pub format_is : taken.recoverable.format ≡ content.0

module _ {D : Type 0} (seen : D → Option (List ℕ)) (may_leave : D → Images) (head : List ℕ) (half : Half) (current spare : ChunkLog D) (records : List Raw) (whole : IsCurrent seen may_leave head half current spare records) where
  -- each file that a crash leaves of the current half
  abbrev pub recoverable : (file : List ℕ) → HalfHolds current.head records file → IsRecoverable head half file records
  recoverable file held = record {
    format = slice_index current.head 4;
    known = whole.known;
    held = subst (λ (h : List ℕ). HalfHolds h records file) whole.head_is held;
    recoverable = whole.recoverable;
  }

  pub holds : (file : List ℕ) → may_leave current.disk file → HalfHolds current.head records file
  holds file left = subst (λ (f : List ℕ). HalfHolds current.head records f) (sym (whole.rest.durable file left)) whole.rest.held

  pub takes : (file other_file : List ℕ) → may_leave current.disk file → may_leave spare.disk other_file → TakesIn head half file other_file (slice_index current.head 4, records)
  takes file other_file left spare_left = record { taken = record { recoverable = recoverable file (holds file left); older = whole.older other_file spare_left }; format_is = refl }

  module _ (raw : Raw) (format : ℕ) (format_is : slice_index current.head 4 ≡ format) where
    abbrev grown : IsChange (slice_index current.head 4) raw → (file : List ℕ) → HalfHolds current.head (records ++ raw ∷ []) file → IsRecoverable head half file (records ++ raw ∷ [])
    grown change file held = record {
      format = slice_index current.head 4;
      known = whole.known;
      held = subst (λ (h : List ℕ). HalfHolds h (records ++ raw ∷ []) file) whole.head_is held;
      recoverable = recoverable_more (slice_index current.head 4) records raw whole.recoverable change;
    }

    -- what a crash inside an append leaves
    pub in_append : IsChange (slice_index current.head 4) raw → (file other_file : List ℕ) → BeforeOrAfter current.head records raw file → may_leave spare.disk other_file
        → TakesIn head half file other_file (format, records) ⊎ TakesIn head half file other_file (format, records ++ raw ∷ [])
    in_append change file other_file (inl held) spare_left = inl (record { taken = record { recoverable = recoverable file held; older = whole.older other_file spare_left }; format_is = format_is })
    in_append change file other_file (inr held) spare_left = inr (record {
      taken = record {
        recoverable = grown change file held;
        older = subst (λ (n : ℕ). IsOlder head (other half) other_file n) (sym (generation_more (slice_index current.head 4) records raw whole.recoverable)) (whole.older other_file spare_left);
      };
      format_is = format_is;
    })

    -- after an append
    pub appended : (new : ChunkLog D) → IsChange (slice_index current.head 4) raw → new.head ≡ current.head → is_some (seen new.disk) ≡ is_some (seen current.disk)
        → IfSome (seen new.disk) (LogIsAtRest new.head new.used (may_leave new.disk) (records ++ raw ∷ [])) → IsCurrent seen may_leave head half new spare (records ++ raw ∷ [])
    appended new change same told_same rest =
        let now = was_told (seen new.disk) (seen current.disk) whole.file (sym told_same) whole.is_seen in
        record {
          file = now.0;
          is_seen = now.1;
          rest = told (seen new.disk) now.0 (LogIsAtRest new.head new.used (may_leave new.disk) (records ++ raw ∷ [])) now.1 rest;
          head_is = same ∙ whole.head_is ∙ ap (λ (h : List ℕ). half_head head (slice_index h 4) half) (sym same);
          known = subst (λ (h : List ℕ). IsFormat (slice_index h 4)) (sym same) whole.known;
          recoverable = subst (λ (h : List ℕ). AreRecoverable (slice_index h 4) (records ++ raw ∷ [])) (sym same) (recoverable_more (slice_index current.head 4) records raw whole.recoverable change);
          told = whole.told;
          older = λ c left. subst (λ (n : ℕ). IsOlder head (other half) c n) (sym (generation_more (slice_index current.head 4) records raw whole.recoverable)) (whole.older c left);
        }

    -- what a crash inside a save leaves: the old half is taken, or the other half holds the image alone, and the old half is older
    pub record IsSaved (file other_file : List ℕ) : Type 0 where
      pub taken : IsRecoverable head (other half) other_file (raw ∷ [])
      pub second : taken.format ≡ 2
      pub older : IsOlder head half file (generation (raw ∷ []))

    pub saved_file : (file : List ℕ) → IsLaterImage records raw → may_leave current.disk file → IsOlder head half file (generation (raw ∷ []))
    saved_file file next left = then_older head half file records raw (recoverable file (holds file left)) next

    pub in_save : IsLaterImage records raw → (file other_file : List ℕ) → may_leave current.disk file → IsBegun (may_leave spare.disk) (half_head head 2 (other half)) raw other_file
        → TakesIn head half file other_file (format, records) ⊎ IsSaved file other_file
    in_save next file other_file left begun =
        elim (begun_older head (other half) (may_leave spare.disk) raw (generation records) other_file whole.older begun) [
          | inl older ↦ inl (record { taken = record { recoverable = recoverable file (holds file left); older = older }; format_is = format_is })
          | inr held ↦ inr (record { taken = image_alone head (other half) other_file raw 2 (inr refl) next.image held; second = refl; older = saved_file file next left })
        ]

  -- after calls that wrote nothing
  pub only_read : (new_current new_spare : ChunkLog D) → new_current.head ≡ current.head → new_current.used ≡ current.used → seen new_current.disk ≡ seen current.disk
      → KeepsImages (may_leave current.disk) (may_leave new_current.disk) → seen new_spare.disk ≡ seen spare.disk → KeepsImages (may_leave spare.disk) (may_leave new_spare.disk)
      → IsCurrent seen may_leave head half new_current new_spare records
  only_read new_current new_spare same_head same_used same keeps spare_same spare_keeps = record {
    file = whole.file;
    is_seen = same ∙ whole.is_seen;
    rest = record {
      held = subst (λ (h : List ℕ). HalfHolds h records whole.file) (sym same_head) whole.rest.held;
      size = same_used ∙ whole.rest.size ∙ ap (λ (h : List ℕ). length h + length (blocks records) + 1) (sym same_head);
      durable = λ c left. whole.rest.durable c (keeps c left);
    };
    head_is = same_head ∙ whole.head_is ∙ ap (λ (h : List ℕ). half_head head (slice_index h 4) half) (sym same_head);
    known = subst (λ (h : List ℕ). IsFormat (slice_index h 4)) (sym same_head) whole.known;
    recoverable = subst (λ (h : List ℕ). AreRecoverable (slice_index h 4) records) (sym same_head) whole.recoverable;
    told = ap (λ (o : Option (List ℕ)). is_some o) spare_same ∙ whole.told;
    older = λ c left. whole.older c (spare_keeps c left);
  }

pub told_file : {X : Type 0} (o : Option X) → is_some o ≡ true → (x : X) × (o ≡ Some x)
told_file (Some x) told_it = (x, refl)
told_file {X = X} None told_it = absurd (false≢true told_it)

-- a half that was begun with an image is current, where the other half is older
pub begun : {D : Type 0} (seen : D → Option (List ℕ)) (may_leave : D → Images) (head : List ℕ) (half : Half) (new spare : ChunkLog D) (raw : Raw) (format : ℕ) (written : List ℕ) → IsFormat format
    → AreRecoverable format (raw ∷ []) → written ≡ half_head head format half → new.head ≡ written → is_some (seen new.disk) ≡ true → is_some (seen spare.disk) ≡ true
    → IfSome (seen new.disk) (LogIsAtRest written new.used (may_leave new.disk) (raw ∷ [])) → ((c : List ℕ) → may_leave spare.disk c → IsOlder head (other half) c (generation (raw ∷ [])))
    → IsCurrent seen may_leave head half new spare (raw ∷ [])
begun seen may_leave head half new spare raw format written known image written_is is_written told_new told_spare rest older =
    let now = told_file (seen new.disk) told_new in
    let whole : new.head ≡ half_head head format half = is_written ∙ written_is in
    let fifth : slice_index new.head 4 ≡ format = ap (λ (h : List ℕ). slice_index h 4) whole in
    record {
      file = now.0;
      is_seen = now.1;
      rest = subst (λ (h : List ℕ). LogIsAtRest h new.used (may_leave new.disk) (raw ∷ []) now.0) (sym is_written) (told (seen new.disk) now.0 (LogIsAtRest written new.used (may_leave new.disk) (raw ∷ [])) now.1 rest);
      head_is = whole ∙ ap (λ (f : ℕ). half_head head f half) (sym fifth);
      known = subst IsFormat (sym fifth) known;
      recoverable = subst (λ (f : ℕ). AreRecoverable f (raw ∷ [])) (sym fifth) image;
      told = told_spare;
      older = older;
    }
