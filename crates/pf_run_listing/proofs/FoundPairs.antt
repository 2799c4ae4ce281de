-- What a pair found, as its two files tell it.
use Rattle.std.proofs.Common.{◌≡◌, inl, inr, ℕ, ◌+◌, ◌≤◌, ◌<◌, List, Option, Some, IfSome, Vec, Result, Ok, Err, IfOk, if◌then◌else◌, slice_get, slice_index_or, slice_set, length, refl, ap, subst, sym, ◌∙◌, true≢false}
use Rattle.std.specs.List.{insert, remove}
use Rattle.std.specs.Result.{IsErrOf, IsOk, is_ok}
use Rattle.std.specs.declared.alloc.Global.{Global}
use Rattle.pf_base.specs.declared.errors.NoMemory.{NoMemory as OutOfMemory}
use Rattle.pf_disk.specs.Crashes.{Images}
use Rattle.pf_chunklog.specs.Records.{Raw}
use Rattle.pf_chunklog.specs.Logs.{IsOnlyRead}
use Rattle.pf_chunklog.specs.declared.errors.OpenFault.{OpenFault}
use Rattle.pf_chunklog.specs.declared.errors.OpenFault.TheVariants.{NoMemory, DiskFault, NotOurs}
use Rattle.pf_chunklog.proofs.Steps.{if_some, told}
use Rattle.pf_image.specs.Recovery.{Content, FindsIn}
use Rattle.pf_image.specs.Pairs.{PairIsWhole, format_of}
use Rattle.pf_image.specs.declared.pair.Pair.{Pair}
use Rattle.pf_disk_store.proofs.Pairs.{whole_found}
use Rattle.pf_run_listing.specs.Disks.{AreRead, HasFailed, HasListed, HasTold, first_disk_of}
use Rattle.pf_run_listing.specs.Listing.{AreRecords, HasNone, IsListing, IsSaid, ListedTells, TellsRecords, listed_head, listed_text}
use Rattle.pf_run_listing.specs.declared.listing.ListingOutcome.{ListingOutcome}
use Rattle.pf_run_listing.specs.declared.listing.ListingOutcome.TheVariants as says
use Rattle.pf_run_listing.proofs.Places.{put_back, taken_first, taken_second}

module _ {D : Type 0} (seen : D → Option (List ℕ)) (may_leave : D → Images) (among : (disk : D) → IfSome (seen disk) (may_leave disk)) (old new : Pair D) (same_head : new.head ≡ old.head)
    (zero : IsOnlyRead seen may_leave old.zero.disk new.zero.disk) (one : IsOnlyRead seen may_leave old.one.disk new.one.disk) where
  -- the records that were found, and their text
  pub found_records : (records : List Raw) (text : List ℕ) → IfSome (seen old.zero.disk) (λ _. IfSome (seen old.one.disk) (λ _. PairIsWhole seen may_leave new records)) → TellsRecords (format_of new, records) text
      → IfSome (seen old.zero.disk) (λ a. IfSome (seen old.one.disk) (λ b. AreRecords (FindsIn old.head a b) text))
  found_records records text wholes tells =
      if_some (seen old.zero.disk) (λ a. IfSome (seen old.one.disk) (λ b. AreRecords (FindsIn old.head a b) text)) (λ a is_a. if_some (seen old.one.disk) (λ b. AreRecords (FindsIn old.head a b) text) (λ b is_b.
      let whole = told (seen old.one.disk) b (λ _. PairIsWhole seen may_leave new records) is_b (told (seen old.zero.disk) a (λ _. IfSome (seen old.one.disk) (λ _. PairIsWhole seen may_leave new records)) is_a wholes) in
      let left_a = told (seen new.zero.disk) a (may_leave new.zero.disk) (zero.same ∙ is_a) (among new.zero.disk) in
      let left_b = told (seen new.one.disk) b (may_leave new.one.disk) (one.same ∙ is_b) (among new.one.disk) in
      record {
        content = (format_of new, records);
        found = subst (λ (h : List ℕ). FindsIn h a b (format_of new, records)) same_head (whole_found seen may_leave new records whole a b left_a left_b);
        told = tells;
      }))

-- what holds of all that can be said holds of what is said
pub said_so : (found : Result (Vec ℕ Global) OpenFault) (said : Result ListingOutcome OutOfMemory) (P : ListingOutcome → Type 0) → IsSaid found said → ((listed : ListingOutcome) → IsSaid found (Ok listed) → P listed) → IfOk said P
said_so found (Ok listed) P is all = all listed is
said_so found (Err e) P is all = tt

-- what is said of what was found
pub tells_of : (IsFound : Content → Type 0) (none failed : Type 0) (found : Result (Vec ℕ Global) OpenFault) (listed : ListingOutcome) → IsSaid found (Ok listed) → IfOk found (λ t. AreRecords IsFound t.items)
    → (IsErrOf found NotOurs → none) → (IsErrOf found DiskFault → failed) → ListedTells IsFound none failed listed
tells_of IsFound none failed (Ok t) listed is records none_there fails = let same : says.Records t ≡ listed = (cc) in subst (ListedTells IsFound none failed) same records
tells_of IsFound none failed (Err NoMemory) listed is records none_there fails = absurd (cc)
tells_of IsFound none failed (Err NotOurs) listed is records none_there fails = let same : says.NotOurs ≡ listed = (cc) in subst (ListedTells IsFound none failed) same (none_there refl)
tells_of IsFound none failed (Err DiskFault) listed is records none_there fails = let same : says.DiskFault ≡ listed = (cc) in subst (ListedTells IsFound none failed) same (fails refl)

-- and its text
pub told_text : (IsFound : Content → Type 0) (none failed : Type 0) (listed : ListingOutcome) → ListedTells IsFound none failed listed → IsListing IsFound none failed (listed_text listed)
told_text IsFound none failed (says.Records text) tells = inl tells
told_text IsFound none failed says.NotOurs tells = inr (inl (tells, refl))
told_text IsFound none failed says.DiskFault tells = inr (inr (tells, refl))

-- the vector after an insertion that was done
pub put_in : {X T E : Type 0} (r : Result T E) (xs ys zs : X) → IsOk r → xs ≡ (if is_ok r then ys else zs) → xs ≡ ys
put_in (Ok x) xs ys zs ok is = is
put_in (Err e) xs ys zs ok is = absurd (true≢false (sym ok))

module _ {D : Type 0} (seen : D → Option (List ℕ)) (may_leave : D → Images) (faults : D → ℕ) (group server : ℕ) where
  -- two disks were taken out, read and put back
  abbrev pub were_read : (before one_less two_less one_back after : List D) (p : ℕ) (zero one zero_now one_now : D) → p ≡ first_disk_of group server → p + 1 < length before → zero ≡ slice_index_or before p zero → one_less ≡ remove before p
      → one ≡ slice_index_or one_less p one → two_less ≡ remove one_less p → one_back ≡ insert two_less p one_now → after ≡ insert one_back p zero_now
      → IsOnlyRead seen may_leave zero zero_now → IsOnlyRead seen may_leave one one_now → faults zero ≤ faults zero_now → faults one ≤ faults one_now → AreRead seen may_leave faults group server before after
  were_read before one_less two_less one_back after p zero one zero_now one_now place low first less second lesser back whole zero_read one_read zero_later one_later = record {
    zero = zero;
    one = one;
    zero_now = zero_now;
    one_now = one_now;
    zero_is = subst (λ (k : ℕ). slice_get before k ≡ Some zero) place (taken_first before p zero low first);
    one_is = subst (λ (k : ℕ). slice_get before (k + 1) ≡ Some one) place (taken_second before p one low (subst (λ (l : List D). one ≡ slice_index_or l p one) less second));
    after_is = subst (λ (k : ℕ). after ≡ slice_set (slice_set before k zero_now) (k + 1) one_now) place
        (whole ∙ ap (λ (l : List D). insert l p zero_now) (back ∙ ap (λ (l : List D). insert l p one_now) (lesser ∙ ap (λ (l : List D). remove l p) less)) ∙ put_back before p zero_now one_now low);
    zero_read = zero_read;
    one_read = one_read;
    zero_later = zero_later;
    one_later = one_later;
  }

  pub was_told : (before after : List D) (read : AreRead seen may_leave faults group server before after) (r : Result ListingOutcome OutOfMemory)
      → IfOk r (λ listed. IfSome (seen read.zero) (λ a. IfSome (seen read.one) (λ b. ListedTells (FindsIn (listed_head group server) a b) (HasNone (listed_head group server) a b) (HasFailed seen may_leave faults group server read) listed)))
      → IfOk r (λ listed. HasTold seen may_leave faults group server before after listed)
  was_told before after read (Ok listed) is = record { read = read; told = is }
  was_told before after read (Err e) is = tt

  listed_so : (before after : List D) (listed : ListingOutcome) → HasTold seen may_leave faults group server before after listed → HasListed seen may_leave faults group server before after (listed_text listed)
  listed_so before after listed has =
      let failed = HasFailed seen may_leave faults group server has.read in
      let head = listed_head group server in
      record {
        read = has.read;
        text_is = if_some (seen has.read.zero) (λ a. IfSome (seen has.read.one) (λ b. IsListing (FindsIn head a b) (HasNone head a b) failed (listed_text listed))) (λ a is_a. if_some (seen has.read.one) (λ b. IsListing (FindsIn head a b) (HasNone head a b) failed (listed_text listed)) (λ b is_b.
            told_text (FindsIn head a b) (HasNone head a b) failed listed
            (told (seen has.read.one) b (λ y. ListedTells (FindsIn head a y) (HasNone head a y) failed listed) is_b (told (seen has.read.zero) a (λ x. IfSome (seen has.read.one) (λ y. ListedTells (FindsIn head x y) (HasNone head x y) failed listed)) is_a has.told))));
      }

  pub was_listed : (before after : List D) (r : Result ListingOutcome OutOfMemory) → IfOk r (λ listed. HasTold seen may_leave faults group server before after listed) → IfOk r (λ listed. HasListed seen may_leave faults group server before after (listed_text listed))
  was_listed before after (Ok listed) has = listed_so before after listed has
  was_listed before after (Err e) has = tt
