-- What a crash may leave after one call more, by what it might have left before.
use Rattle.std.proofs.Common.{◌≡◌, ◌⊎◌, inl, inr, ℕ, zero, suc, ◌<◌, ◌≤◌, min, max, Bool, true, false, ◌&&◌, ◌||◌, nat_le, nat_lt, List, [], ◌∷◌, ◌++◌, length, take, drop, get_or, subst, refl, sym, ◌∙◌, ap, arith}
use Rattle.std.specs.Prelude.{if◌then◌else◌}
use Rattle.std.proofs.lemmas.List.{ext_get_or}
use Rattle.std.proofs.lemmas.List.Folds.{list_any-append}
use Rattle.std.proofs.lemmas.Bool.Decides.{nat_tests, leb_tells}
use Rattle.pf_disk.specs.declared.tape.TapeRecord.{TapeRecord}
use Rattle.pf_disk.specs.declared.tape.TapeRecord.TheVariants.{Write, Cut as CutCall, Sync, FailedWrite, FailedCut}
use Rattle.pf_disk.specs.Crashes.{Torn, Cut, ImagesFollow}
use Rattle.pf_disk.specs.Files.{overwritten, file_resized, end_of_write}
use Rattle.pf_disk.specs.Recorded.{State, IsCrashImage, is_touched, settled, loosened, after_write, after_cut, after_failed_write, after_failed_cut, replayed}
use Rattle.pf_disk.proofs.Writes.{length-overwritten, length-resized, kept_by_write, kept_by_cut}

-- whether a range holds the place
abbrev within : ℕ → ℕ → ℕ → Bool
within from to k = nat_le from k && nat_lt k to

untouched : (ranges : List (ℕ × ℕ)) (from to k : ℕ) → is_touched (ranges ++ (from, to) ∷ []) k ≡ false → (is_touched ranges k ≡ false) × (within from to k ≡ false)
untouched ranges from to k none = apart (is_touched ranges k) (within from to k) (sym (list_any-append (λ (range : ℕ × ℕ). nat_le range.0 k && nat_lt k range.1) ranges ((from, to) ∷ [])) ∙ none)
  where
    apart : (a b : Bool) → (a || (b || false)) ≡ false → (a ≡ false) × (b ≡ false)
    apart false false is = (refl, refl)
    apart false true is = absurd (cc is)
    apart true b is = absurd (cc is)

touched_more : (ranges : List (ℕ × ℕ)) (from to k : ℕ) → is_touched ranges k ≡ false → within from to k ≡ false → is_touched (ranges ++ (from, to) ∷ []) k ≡ false
touched_more ranges from to k none out =
    list_any-append (λ (range : ℕ × ℕ). nat_le range.0 k && nat_lt k range.1) ranges ((from, to) ∷ []) ∙ (λ i. none i || (out i || false))

outside : (from to k : ℕ) → within from to k ≡ false → (k < from) ⊎ (to ≤ k)
outside from to k out = elim (leb_tells from k) [
  | inl reaches ↦ elim (leb_tells to k) [ inl past ↦ inr past.1 | inr short ↦ absurd (grind (arith, nat_tests)) ]
  | inr before ↦ inl before.1
]

out_of : (from to k : ℕ) → (k < from) ⊎ (to ≤ k) → within from to k ≡ false
out_of from to k (inl before) = grind (arith, nat_tests)
out_of from to k (inr after) = grind (arith, nat_tests)

-- after a sync there is one image
pub only_file : (file c : List ℕ) → IsCrashImage (settled file) c → c ≡ file
only_file file c image = ext_get_or 0 c file (omega (arith, image.no_shorter, image.no_longer)) (λ k lt. image.same k lt (omega (arith, lt, image.no_longer)) refl)

pub file_of_settled : (file : List ℕ) → IsCrashImage (settled file) file
file_of_settled file = record { no_shorter = omega arith; no_longer = omega arith; same = λ k lt lt' none. refl }

loose_image : (s : State) (low from to : ℕ) (c : List ℕ) → IsCrashImage s c → IsCrashImage (loosened s low from to) c
loose_image s low from to c image = record {
  no_shorter = omega (arith, image.no_shorter);
  no_longer = omega (arith, image.no_longer);
  same = λ k lt lt' none. image.same k lt lt' (untouched s.touched from to k none).0;
}

write_image : (s : State) (at : ℕ) (bytes : List ℕ) → IsCrashImage s s.file → IsCrashImage (after_write s at bytes) (overwritten s.file at bytes)
write_image s at bytes image = record {
  no_shorter = omega (arith, image.no_shorter, size);
  no_longer = omega (arith, image.no_longer, size);
  same = λ k lt lt' none.
      let apart = untouched s.touched (min (length s.file) at) (end_of_write at (length bytes)) k none in
      elim (outside (min (length s.file) at) (end_of_write at (length bytes)) k apart.1) [
        | inl before ↦ kept_by_write s.file at bytes k (omega (arith, before)) (inl (omega (arith, before))) ∙ image.same k (omega (arith, before)) lt' apart.0
        | inr after ↦ kept_by_write s.file at bytes k (omega (arith, after, lt, size)) (inr after) ∙ image.same k (omega (arith, after, lt, size)) lt' apart.0
      ];
}
  where
    size : length (overwritten s.file at bytes) ≡ max (length s.file) (end_of_write at (length bytes))
    size = length-overwritten s.file at bytes

cut_image : (s : State) (len : ℕ) → IsCrashImage s s.file → IsCrashImage (after_cut s len) (file_resized s.file len)
cut_image s len image = record {
  no_shorter = omega (arith, image.no_shorter, length-resized s.file len);
  no_longer = omega (arith, image.no_longer, length-resized s.file len);
  same = λ k lt lt' none.
      let apart = untouched s.touched (length s.file) len k none in
      elim (outside (length s.file) len k apart.1) [
        | inl before ↦ kept_by_cut s.file len k before (omega (arith, lt, length-resized s.file len)) ∙ image.same k before lt' apart.0
        | inr after ↦ absurd (omega (arith, after, lt, length-resized s.file len))
      ];
}

-- what a read gives is an image
pub file_image : (s : State) (records : List TapeRecord) (written : List ℕ) → IsCrashImage s s.file → IsCrashImage (replayed s records written) (replayed s records written).file
file_image s [] written image = image
file_image s (Write at count ∷ records) written image = file_image (after_write s at (take count written)) records (drop count written) (write_image s at (take count written) image)
file_image s (CutCall len ∷ records) written image = file_image (after_cut s len) records written (cut_image s len image)
file_image s (Sync ∷ records) written image = file_image (settled s.file) records written (file_of_settled s.file)
file_image s (FailedWrite at count ∷ records) written image = file_image (after_failed_write s at count) records written (loose_image s s.least (min (length s.file) at) (end_of_write at count) s.file image)
file_image s (FailedCut len ∷ records) written image = file_image (after_failed_cut s len) records written (loose_image s len (length s.file) len s.file image)

pub image_of : (base : List ℕ) (records : List TapeRecord) (written file : List ℕ) → (replayed (settled base) records written).file ≡ file → IsCrashImage (replayed (settled base) records written) file
image_of base records written file reads =
    subst (λ (l : List ℕ). IsCrashImage (replayed (settled base) records written) l) reads (file_image (settled base) records written (file_of_settled base))

-- a list by its elements
chosen : (ℕ → ℕ) → ℕ → List ℕ
chosen f zero = []
chosen f (suc n) = f 0 ∷ chosen (λ k. f (suc k)) n

length-chosen : (f : ℕ → ℕ) (n : ℕ) → length (chosen f n) ≡ n
unfolding chosen
length-chosen f zero = refl
length-chosen f (suc n) = ap suc (length-chosen (λ k. f (suc k)) n)

get_or-chosen : (f : ℕ → ℕ) (n k : ℕ) → k < n → get_or (chosen f n) k 0 ≡ f k
unfolding chosen
get_or-chosen f zero k lt = absurd (omega arith)
get_or-chosen f (suc n) zero lt = refl
get_or-chosen f (suc n) (suc k) lt = get_or-chosen (λ j. f (suc j)) n k (omega arith)

-- an image from before a write or a cut that a crash cut short to this one
pub record Before (s : State) (from to : ℕ) (c : List ℕ) : Type 0 where
  pub old : List ℕ
  pub image : IsCrashImage s old
  pub size : length old ≡ max s.least (min (length c) s.greatest)
  pub same : (k : ℕ) → k < length old → k < length c → (k < from) ⊎ (to ≤ k) → get_or c k 0 ≡ get_or old k 0

-- its bytes: the synced ones in the range and past the end, the others as they are
abbrev old_byte : List ℕ → ℕ → ℕ → List ℕ → ℕ → ℕ
old_byte synced from to c k = if within from to k || nat_le (length c) k then get_or synced k 0 else get_or c k 0

as_new : (synced : List ℕ) (from to : ℕ) (c : List ℕ) (k : ℕ) → k < length c → (k < from) ⊎ (to ≤ k) → old_byte synced from to c k ≡ get_or c k 0
as_new synced from to c k lt out =
    let short : nat_le (length c) k ≡ false = grind (arith, nat_tests) in
    λ i. if out_of from to k out i || short i then get_or synced k 0 else get_or c k 0

as_synced : (s : State) (low from to : ℕ) (c : List ℕ) → IsCrashImage (loosened s low from to) c → (k : ℕ) → k < length s.synced → is_touched s.touched k ≡ false → old_byte s.synced from to c k ≡ get_or s.synced k 0
as_synced s low from to c image k lt none = by_test (within from to k) (nat_le (length c) k) refl refl
  where
    by_test : (a b : Bool) → within from to k ≡ a → nat_le (length c) k ≡ b → (if a || b then get_or s.synced k 0 else get_or c k 0) ≡ get_or s.synced k 0
    by_test true b is is' = refl
    by_test false true is is' = refl
    by_test false false is is' = image.same k (grind (arith, nat_tests)) lt (touched_more s.touched from to k none is)

pub before : (s : State) (low from to : ℕ) (c : List ℕ) → s.least ≤ s.greatest → IsCrashImage (loosened s low from to) c → Before s from to c
before s low from to c ends image =
    let size = max s.least (min (length c) s.greatest) in
    let long : length (chosen (old_byte s.synced from to c) size) ≡ size = length-chosen (old_byte s.synced from to c) size in
    record {
      old = chosen (old_byte s.synced from to c) size;
      image = record {
        no_shorter = omega (arith, long);
        no_longer = omega (arith, long, ends);
        same = λ k lt lt' none. get_or-chosen (old_byte s.synced from to c) size k (omega (arith, lt, long)) ∙ as_synced s low from to c image k lt' none;
      };
      size = long;
      same = λ k lt lt' out. sym (get_or-chosen (old_byte s.synced from to c) size k (omega (arith, lt, long)) ∙ as_new s.synced from to c k lt' out);
    }

-- what the calls of a disk may leave
pub write_follows : (s : State) (at count : ℕ) → IsCrashImage s s.file → ImagesFollow (Torn (min (length s.file) at) (end_of_write at count)) (IsCrashImage s) (IsCrashImage (after_failed_write s at count))
write_follows s at count image c left =
    let b = before s s.least (min (length s.file) at) (end_of_write at count) c (omega (arith, image.no_shorter, image.no_longer)) left in (
      b.old,
      b.image,
      record {
        no_shorter = omega (arith, b.size, left.no_shorter, image.no_shorter, image.no_longer);
        no_longer = omega (arith, b.size, left.no_longer);
        same = λ k lt out. b.same k lt (omega (arith, lt, b.size, left.no_shorter, image.no_shorter, image.no_longer)) out;
      },
    )

pub cut_follows : (s : State) (len : ℕ) → IsCrashImage s s.file → ImagesFollow (Cut (length s.file) len) (IsCrashImage s) (IsCrashImage (after_failed_cut s len))
cut_follows s len image c left =
    let b = before s len (length s.file) len c (omega (arith, image.no_shorter, image.no_longer)) left in (
      b.old,
      b.image,
      record {
        no_shorter = omega (arith, b.size, left.no_shorter, image.no_shorter, image.no_longer);
        no_longer = omega (arith, b.size, left.no_longer, image.no_shorter, image.no_longer);
        same = b.same;
      },
    )

-- the end and the bytes of an image do not depend on what is read
pub of_written : (s : State) (at : ℕ) (bytes c : List ℕ) → IsCrashImage (after_write s at bytes) c → IsCrashImage (after_failed_write s at (length bytes)) c
of_written s at bytes c image = record { no_shorter = image.no_shorter; no_longer = image.no_longer; same = image.same }

pub of_cut : (s : State) (len : ℕ) (c : List ℕ) → IsCrashImage (after_cut s len) c → IsCrashImage (after_failed_cut s len) c
of_cut s len c image = record { no_shorter = image.no_shorter; no_longer = image.no_longer; same = image.same }

-- a call that does nothing
pub torn_none : (from to : ℕ) (old : List ℕ → Type 0) → ImagesFollow (Torn from to) old old
torn_none from to old c left = (c, left, record { no_shorter = omega arith; no_longer = omega arith; same = λ k lt out. refl })

pub cut_none : (end len : ℕ) (old : List ℕ → Type 0) → ImagesFollow (Cut end len) old old
cut_none end len old c left = (c, left, record { no_shorter = omega arith; no_longer = omega arith; same = λ k lt lt' out. refl })

-- a sync keeps one of the images
pub settled_keeps : (s : State) (file c : List ℕ) → IsCrashImage s file → IsCrashImage (settled file) c → IsCrashImage s c
settled_keeps s file c image left = subst (λ (l : List ℕ). IsCrashImage s l) (sym (only_file file c left)) image

-- other bytes where something was written
pub scrambled_image : (s : State) (file new : List ℕ) → IsCrashImage s file → length new ≡ length file → ((k : ℕ) → is_touched s.touched k ≡ false → get_or new k 0 ≡ get_or file k 0) → IsCrashImage s new
scrambled_image s file new image size keeps = record {
  no_shorter = omega (arith, size, image.no_shorter);
  no_longer = omega (arith, size, image.no_longer);
  same = λ k lt lt' none. keeps k none ∙ image.same k (omega (arith, lt, size)) lt' none;
}
