-- The two disks of a server among those of many.
use Rattle.std.specs.Prelude.{ℕ, ◌≡◌, ◌⊎◌, ◌+◌, ◌*◌, ◌≤◌, List, Option, Some, IfSome, slice_get, slice_set}
use Rattle.pf_disk.specs.Causes.{Rose}
use Rattle.pf_disk.specs.Crashes.{Images}
use Rattle.pf_chunklog.specs.Logs.{IsOnlyRead}
use Rattle.pf_image.specs.Recovery.{FindsIn}
use Rattle.pf_run_listing.specs.Listing.{HasNone, IsListing, ListedTells, listed_head}
use Rattle.pf_run_listing.specs.declared.listing.ListingOutcome.{ListingOutcome}

-- disk 6g + 2i + h of a list is half h of server i of group g
abbrev pub first_disk_of : (group server : ℕ) → ℕ
first_disk_of group server = 6 * group + 2 * server

module _ {D : Type 0} (seen : D → Option (List ℕ)) (may_leave : D → Images) (faults : D → ℕ) (group server : ℕ) where
  -- The two disks of a server were read, and each may have failed at that. They and all others stand where they stood.
  pub record AreRead (before after : List D) : Type 0 where
    pub zero : D
    pub one : D
    pub zero_now : D
    pub one_now : D
    pub zero_is : slice_get before (first_disk_of group server) ≡ Some zero
    pub one_is : slice_get before (first_disk_of group server + 1) ≡ Some one
    pub after_is : after ≡ slice_set (slice_set before (first_disk_of group server) zero_now) (first_disk_of group server + 1) one_now
    pub zero_read : IsOnlyRead seen may_leave zero zero_now
    pub one_read : IsOnlyRead seen may_leave one one_now
    pub zero_later : faults zero ≤ faults zero_now
    pub one_later : faults one ≤ faults one_now

  -- a count of faults of one of the two disks rose
  abbrev pub HasFailed : {before after : List D} → AreRead before after → Type 0
  HasFailed read = Rose (faults read.zero) (faults read.zero_now) ⊎ Rose (faults read.one) (faults read.one_now)

  -- the text lists what the two disks told
  pub record HasListed (before after : List D) (text : List ℕ) : Type 0 where
    pub read : AreRead before after
    pub text_is : IfSome (seen read.zero) (λ a. IfSome (seen read.one)
        (λ b. IsListing (FindsIn (listed_head group server) a b) (HasNone (listed_head group server) a b) (HasFailed read) text))

  -- what is listed is what the two disks told
  pub record HasTold (before after : List D) (listed : ListingOutcome) : Type 0 where
    pub read : AreRead before after
    pub told : IfSome (seen read.zero) (λ a. IfSome (seen read.one) (λ b. ListedTells (FindsIn (listed_head group server) a b)
        (HasNone (listed_head group server) a b) (HasFailed read) listed))
