-- What a network shows of its group.
use Rattle.std.specs.List.{list_any}
use Rattle.std.specs.Prelude.{◌≡◌, ◌≢◌, ℕ, ◌<◌, ◌≤◌, ◌==◌, ◌&&◌, Bool, true, false, List, Option, Some, None, nat_lt, if◌then◌else◌, slice_get, slice_set}
use Rattle.pf_entry.specs.Lists.{Every}
use Rattle.pf_entry.specs.Ops.{Sector}
use Rattle.pf_protocol.specs.Servers.{Setup, Leader, Serving, Server as ServerIs}
use Rattle.pf_protocol.specs.Groups.{Group}
use Rattle.pf_protocol.specs.Histories.{RunsAs}
use Rattle.pf_server_store.specs.Stores.{StoreModel}
use Rattle.pf_server_memory.specs.declared.running.Role.{Role}
use Rattle.pf_server_memory.specs.declared.running.Role.TheVariants.{Serving as ServingHere}
use Rattle.pf_server_memory.specs.declared.running.Running.{Running}
use Rattle.pf_server_memory.specs.Standing.{server_of, IsCached}
use Rattle.pf_server.specs.declared.server.Server.{Server}
use Rattle.pf_server.specs.declared.state.State.{State}
use Rattle.pf_server.specs.declared.state.State.TheVariants.{Runs as RunsHere}
use Rattle.pf_group_network.specs.declared.network.Network.{Network}
use Rattle.pf_group_network.specs.Showing.{HasAnswer, Shows}
use Rattle.pf_group_network.specs.Unread.{IsNumberAmong}

-- the network stands for some group
abbrev pub NetworkIsShown : {S : Type 0} → StoreModel S → Network S → Type 0
NetworkIsShown model network = (setup : Setup) × ((g : Group) × Shows model setup network g)

-- the slot was acknowledged in this term
abbrev pub is_acked : Group → (term slot : ℕ) → Bool
is_acked g term slot = list_any (λ a. a.term == term && a.slot == slot) g.acked

-- memory stands for this server
pub record IsMemoryOf (me : Running) (s : ServerIs) : Type 0 where
  pub server_is : server_of s.durable me ≡ s
  pub cached : IsCached s.durable me

-- server i runs, and this is its memory
pub record IsRunningAt (g : Group) (i : ℕ) (me : Running) : Type 0 where
  pub s : ServerIs
  pub runs : RunsAs g i s
  pub memory : IsMemoryOf me s

-- server i does not run
abbrev pub Idles : Group → (i : ℕ) → Type 0
Idles g i = (s : ServerIs) → RunsAs g i s → ⊥

-- server i, of the three, runs and serves in this term
pub record ServesInTerm (g : Group) (i term : ℕ) : Type 0 where
  pub low : i < 3
  pub s : ServerIs
  pub leader : Leader
  pub runs : RunsAs g i s
  pub serves : s.role ≡ Serving leader
  pub in_term : s.durable.term ≡ term

-- the greatest term in which a server serves, and one that serves in it
abbrev pub IsLeader : Group → Option (ℕ × ℕ) → Type 0
IsLeader g None = (i term : ℕ) → ServesInTerm g i term → ⊥
IsLeader g (Some (term, i)) = ServesInTerm g i term × ((j other : ℕ) → ServesInTerm g j other → other ≤ term)

-- a read's answer was handed out and had not been, or it was handed out before, or there is none
abbrev pub TakesRead : Group → (number : ℕ) → (taken taken' : List Bool) → Option (List Sector) → Type 0
TakesRead g number taken taken' (Some bytes) = (slice_get taken number ≡ Some false) × HasAnswer g.answered number bytes
    × (taken' ≡ slice_set taken number true)
TakesRead g number taken taken' None = (slice_get taken number ≡ Some false → Every (λ a. a.number ≢ number) g.answered) × (taken' ≡ taken)

-- each read that was answered, and whose answer was not handed out, is among these
abbrev pub ListsUnread : Group → (taken : List Bool) → (numbers : List ℕ) → Type 0
ListsUnread g taken numbers = (number : ℕ) (bytes : List Sector) → slice_get taken number ≡ Some false → HasAnswer g.answered number bytes
    → IsNumberAmong numbers number

-- in memory

abbrev pub served_in : (term number : ℕ) → Role → Option (ℕ × ℕ)
served_in term number (ServingHere leader) = Some (term, number)
served_in term number _ = None

abbrev pub served_of : (number : ℕ) → State → Option (ℕ × ℕ)
served_of number (RunsHere me) = served_in me.term number me.role
served_of number _ = None

-- the term in which a server serves, and its number
abbrev pub served_by : {S : Type 0} → Server S → Option (ℕ × ℕ)
served_by server = served_of server.seat.number server.state

-- the one of the greater term
abbrev pub later_of : Option (ℕ × ℕ) → Option (ℕ × ℕ) → Option (ℕ × ℕ)
later_of None second = second
later_of (Some first) None = Some first
later_of (Some first) (Some second) = if nat_lt first.0 second.0 then Some second else Some first
