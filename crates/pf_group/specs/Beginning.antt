-- Where the last step of a group began that may have touched disks.
use Rattle.std.specs.Prelude.{◌≡◌, Bool, true, false}
use Rattle.pf_protocol.specs.Histories.{History}
use Rattle.pf_disk_store.specs.declared.kept.Kept.{Kept}
use Rattle.pf_group_network.specs.declared.network.Network.{Network}
use Rattle.pf_group.specs.declared.began.Began.{Began}

module _ {D : Type 0} where
  -- with these servers, after this history
  pub record IsBegun (network : Network (Kept D)) (history : History) (began : Began D) : Type 0 where
    pub network_is : began.network.value ≡ network
    pub history_is : began.happenings.value ≡ history

  -- there, where disks may have been touched since
  abbrev pub IsBegunIf : (may_touch : Bool) → Network (Kept D) → History → (old new : Began D) → Type 0
  IsBegunIf true network history old new = IsBegun network history new
  IsBegunIf false network history old new = new ≡ old
