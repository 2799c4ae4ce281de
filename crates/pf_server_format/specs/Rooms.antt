-- The memory of a server that is to be made.
use Rattle.std.specs.Prelude.{◌≡◌, ℕ, []}
use Rattle.pf_protocol.specs.Groups.{opening_disk}
use Rattle.pf_server_memory.specs.declared.running.Running.{Running}
use Rattle.pf_server_memory.specs.Standing.{server_of, setup_of, IsCached}
use Rattle.pf_server_restart.specs.Beginning.{IsSeat, setup_of_seat}
use Rattle.pf_server_restart.specs.declared.seat.Seat.{Seat}
use Rattle.pf_server_format.specs.Opening.{opening_server}

-- the server that it is for: its group, and what it is made with
pub record ServerPlace : Type 0 where
  pub group : ℕ
  pub seat : Seat

-- memory stands for the server of the opening state, and no answers of reads wait
pub record MemoryIsFresh (seat : Seat) (me : Running) : Type 0 where
  pub cached : IsCached (opening_disk (setup_of_seat seat)) me
  pub is : server_of (opening_disk (setup_of_seat seat)) me ≡ opening_server (setup_of_seat seat) seat.number
  pub setup : setup_of me ≡ setup_of_seat seat
  pub quiet : me.replies.answers ≡ []

-- and the seat is one of a group
pub record IsRoom (seat : Seat) (me : Running) : Type 0 where
  pub made : IsSeat seat
  pub fresh : MemoryIsFresh seat me
