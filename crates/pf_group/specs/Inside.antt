-- What a group's fields stand for.
use Rattle.std.specs.Prelude.{◌≡◌, ℕ, Bool, IsTrue, Option, List, Some, length, slice_get}
use Rattle.pf_disk.specs.Crashes.{Images}
use Rattle.pf_protocol.specs.Servers.{Setup}
use Rattle.pf_protocol.specs.Groups.{Group}
use Rattle.pf_group_network.specs.Going.{WasTouched}
use Rattle.pf_disk_store.specs.Model.{kept_model}
use Rattle.pf_group.specs.declared.group.Group.TheInside.{Inside}
use Rattle.pf_group.specs.GroupIs.{GroupIs, IsLastStep}
use Rattle.pf_protocol.specs.Histories.{History, replay}
use Rattle.pf_disk_store.specs.declared.kept.Kept.{Kept}
use Rattle.pf_group_network.specs.declared.network.Network.{Network}
use Rattle.pf_group_network.specs.Showing.{taken_of}
use Rattle.pf_group.specs.Making.{setup_with}
use Rattle.pf_group.specs.Halves.{all_counts, told_in, was_in}
use Rattle.pf_group.specs.Pasts.{PastIsSound}
use Rattle.pf_group.specs.Standing.{AllTell, NetworkStandsFor}
use Rattle.pf_server_format.specs.Opening.{head_of}
use Rattle.pf_group_network.specs.pf_server.specs.declared.server.Server.{Server}

module _ {D : Type 0} where
  -- a group with this history and these servers, whose last step that may have touched disks began with those
  abbrev pub group_of : (told : Bool) → (faults moment : D → ℕ) → (number : ℕ) → Setup → (earlier : History) (began : Network (Kept D)) → History
      → Network (Kept D) → GroupIs
  group_of told faults moment number setup earlier began history network = record {
    number = number;
    told = told;
    setup = setup;
    history = history;
    taken = taken_of network;
    faults = all_counts faults network;
    time = record { now = all_counts moment network; began = all_counts moment began; earlier = earlier };
  }

  abbrev pub setup_in : Inside D → Setup
  setup_in g = setup_with g.sectors g.names g.format g.failed.items

  abbrev pub group_in : (told : Bool) → (faults moment : D → ℕ) → Inside D → GroupIs
  group_in told faults moment g = group_of told faults moment g.number (setup_in g) g.began.happenings.value g.began.network.value g.past.happenings g.network

  -- a restart looks for each server's own head
  abbrev pub HaveHeads : (number : ℕ) → Network (Kept D) → Type 0
  HaveHeads number network = (i : ℕ) (server : Server (Kept D)) → slice_get network.servers.items i ≡ Some server
      → server.store.pair.head ≡ head_of number server.seat

  module _ (seen : D → Option (List ℕ)) (faults moment : D → ℕ) (left_since : D → ℕ → Images) (tells_moments : Bool) where
    -- A step that began with these servers, whose disks told their content, led to those: a crash inside it left of each what it may hold
    -- before it or after it
    pub record IsSince (before after : Group) (began network : Network (Kept D)) : Type 0 where
      pub three : length began.servers.items ≡ 3
      pub told : AllTell (told_in seen) began
      pub touched : (i : ℕ) (server next : Server (Kept D)) → slice_get began.servers.items i ≡ Some server → slice_get network.servers.items i ≡ Some next
          → WasTouched (was_in seen faults moment left_since tells_moments) before after i server.store next.store

  -- The servers stand for what the history led to. Where their disks tell their content, that is the state after it, and it is known what a
  -- crash leaves.
  pub record IsGroup (seen : D → Option (List ℕ)) (may_leave : D → Images) (faults moment : D → ℕ) (left_since : D → ℕ → Images) (tells tells_moments : Bool)
      (g : Inside D) : Type 0 where
    pub stands : NetworkStandsFor (kept_model seen may_leave faults moment left_since tells_moments) tells (setup_in g) g.past.happenings g.network
    pub heads : IsTrue tells → HaveHeads g.number g.network
    pub past : PastIsSound g.past
    pub after : History
    pub last : IsLastStep g.began.happenings.value after g.past.happenings
    pub since : IsTrue tells → IsSince seen faults moment left_since tells_moments (replay (setup_in g) g.began.happenings.value) (replay (setup_in g) after)
        g.began.network.value g.network
