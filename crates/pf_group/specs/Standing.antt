-- What the network of a group stands for.
use Rattle.std.specs.Prelude.{◌≡◌, ℕ, ◌+◌, ◌≤◌, ◌^◌, Bool, IsTrue, [], length, Some, slice_get}
use Rattle.pf_protocol.specs.Servers.{Setup}
use Rattle.pf_protocol.specs.Histories.{History, replay}
use Rattle.pf_protocol.specs.Answers.{IsLegal, claims_of}
use Rattle.pf_server_store.specs.Stores.{StoreModel}
use Rattle.pf_group_network.specs.pf_server.specs.declared.server.Server.{Server}
use Rattle.pf_group_network.specs.declared.network.Network.{Network}
use Rattle.pf_group_network.specs.Going.{IsReached}
use Rattle.pf_group_network.specs.Pasts.{CoversRestarts, GroupPast}

-- the past's group is the replay of the history, which is legal
pub record IsReplay (setup : Setup) (history : History) (past : GroupPast) : Type 0 where
  pub same : past.group ≡ replay setup history
  pub legal : IsLegal setup history

-- the disks of each server tell their content
abbrev pub AllTell : {S : Type 0} → (S → Bool) → Network S → Type 0
AllTell {S = S} told network = (i : ℕ) (server : Server S) → slice_get network.servers.items i ≡ Some server → IsTrue (told server.store)

-- It stands for the group of some past, whose open claims are those of the history. Where disks of its type tell their content, that group is
-- the replay of the history; where they do not, restarts may have begun from any state that fits.
pub record NetworkStandsFor {S : Type 0} (model : StoreModel S) (tells : Bool) (setup : Setup) (history : History) (network : Network S) : Type 0 where
  pub past : GroupPast
  pub reached : IsReached model setup past network
  pub covers : CoversRestarts past
  pub most : past.count ≤ 2 ^ 63 + 4096 + length history
  pub claims : past.claims ≡ claims_of [] history
  pub replays : IsTrue tells → IsReplay setup history past
