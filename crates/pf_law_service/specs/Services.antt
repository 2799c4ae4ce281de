-- A chunk's service: the groups that served it, one after another, and the ports of mounts, which go with it from group to group.
use Rattle.std.specs.Prelude.{ℕ, suc, pred, ◌==◌, Bool, true, false, if◌then◌else◌, nat_lt, List, [], ◌++◌, length, map, Option, Some, None}
use Rattle.pf_base.specs.declared.asks.Ask.{Ask}
use Rattle.pf_protocol.specs.Histories.{History}
use Rattle.pf_protocol.specs.Ports.{Submission}
use Rattle.pf_protocol.specs.Servers.{Setup}
use Rattle.pf_asks.specs.Ports.{PortIs, new_port, rehomed}
use Rattle.pf_law_positions.specs.Deeds.{Groups}
use Rattle.pf_law_ports.specs.Calls.{Fetching, PortPast}

-- what a mount's port was asked last: by which client, and at which moment among the deeds
pub record Owed : Type 0 where
  pub client : ℕ
  pub moment : ℕ
  pub ask : Ask

-- The group of the last epoch has the asks for the chunk. While the chunk is moving there, it does not serve it yet
pub record Service : Type 0 where
  pub epoch : ℕ  -- the last one
  pub moving : Bool
  pub setup : (epoch : ℕ) → Setup
  pub history : (epoch : ℕ) → History
  pub left : (epoch : ℕ) → ℕ  -- how many events the group had as the asks left it
  pub since : (epoch : ℕ) → ℕ  -- how many it had as it began to serve
  pub port : (mount : ℕ) → PortIs  -- into the group that has the asks
  pub owed : (mount : ℕ) → Option Owed
  pub writes : (epoch mount : ℕ) → List Submission  -- what the mount's port handed to the group. An ask has the number behind its moment
  pub reads : (epoch mount : ℕ) → List Fetching

-- this, but for one
abbrev pub but : {A : Type 0} → (ℕ → A) → (one : ℕ) → A → ℕ → A
but f one a k = if k == one then a else f k

-- the group of epoch 0, before anything was asked
abbrev pub service_opening : Setup → History → Service
service_opening setup history = record {
  epoch = 0;
  moving = false;
  setup = λ epoch. setup;
  history = λ epoch. history;
  left = λ epoch. 0;
  since = λ epoch. 0;
  port = λ mount. new_port;
  owed = λ mount. None;
  writes = λ epoch mount. [];
  reads = λ epoch mount. [];
}

-- more happened in the group of an epoch
abbrev pub service_grown : Service → (epoch : ℕ) → History → Service
service_grown s epoch more = record s { history = but s.history epoch (s.history epoch ++ more) }

-- an ask is put into a mount's port, at a moment
abbrev pub service_asked : Service → (mount client moment : ℕ) → Ask → Service
service_asked s mount client moment ask = record s {
  port = but s.port mount (let p : PortIs = s.port mount in record p { ask = Some ask; sent = None });
  owed = but s.owed mount (Some (record { client = client; moment = moment; ask = ask }));
}

-- the number of the ask that a port has, 0 where it never had one
abbrev pub last_ask_number : Option Owed → ℕ
last_ask_number None = 0
last_ask_number (Some owed) = suc owed.moment

-- what a mount's port did to the group that has the asks
abbrev pub past_of : Service → (mount : ℕ) → PortPast
past_of s mount = record { history = s.history s.epoch; asks = last_ask_number (s.owed mount); writes = s.writes s.epoch mount; reads = s.reads s.epoch mount }

-- after a step of the port
abbrev pub service_stepped : Service → (mount : ℕ) → PortPast → PortIs → Service
service_stepped s mount past port = record s {
  history = but s.history s.epoch past.history;
  port = but s.port mount port;
  writes = but s.writes s.epoch (but (s.writes s.epoch) mount past.writes);
  reads = but s.reads s.epoch (but (s.reads s.epoch) mount past.reads);
}

-- the asks go to a new group, where their ports begin anew
abbrev pub service_moved : Service → Setup → History → Service
service_moved s setup history = record s {
  epoch = suc s.epoch;
  moving = true;
  setup = but s.setup (suc s.epoch) setup;
  history = but s.history (suc s.epoch) history;
  left = but s.left s.epoch (length (s.history s.epoch));
  port = λ mount. rehomed (s.port mount);
}

-- and it serves the chunk from here on
abbrev pub service_switched : Service → Service
service_switched s = record s { moving = false; since = but s.since s.epoch (length (s.history s.epoch)) }

-- the epoch whose group serves the chunk
abbrev pub epoch_of_now : Service → ℕ
epoch_of_now s = if s.moving then pred s.epoch else s.epoch

-- a write has for its number the moment of its ask
abbrev pub by_moment : Submission → Submission
by_moment a = record a { write = pred a.write }

-- Mounts have the numbers 0 to 15, and so have the clients that write. Other clients' reads go through the ports of mounts
abbrev pub writes_of : Service → (epoch client : ℕ) → List Submission
writes_of s epoch client = if nat_lt client 16 then map by_moment (s.writes epoch client) else []

-- its groups, with what movers handed to them
abbrev pub groups_of : Service → (moved : (chunk epoch : ℕ) → List Submission) → Groups
groups_of s moved = record {
  moves = λ chunk. epoch_of_now s;
  setup = λ chunk epoch. s.setup epoch;
  history = λ chunk epoch. s.history epoch;
  writes = λ chunk epoch client. writes_of s epoch client;
  moved = moved;
}
