-- A server in memory, over the state that was read.
use Rattle.std.specs.Prelude.{◌≡◌, ◌≢◌, ℕ, suc, ◌<◌, ◌^◌, List, Option, Some, None}
use Rattle.pf_entry.specs.Records.{Durable, image_of}
use Rattle.pf_codec.specs.Spelling.{body_bytes}
use Rattle.pf_protocol.specs.Saving.{restarted}
use Rattle.pf_server_memory.specs.declared.running.Running.{Running}
use Rattle.pf_server_memory.specs.Standing.{server_of, setup_of, IsCached}
use Rattle.pf_server_restart.specs.Beginning.{ServerHasBegun, IsSeat, setup_of_seat}
use Rattle.pf_server_restart.specs.declared.seat.Seat.{Seat}

-- memory begins this life over this state
pub record IsRevived (d : Durable) (me : Running) (seat : Seat) (life : ℕ) : Type 0 where
  pub cached : IsCached d me
  pub is : server_of d me ≡ restarted seat.number life d
  pub setup : setup_of me ≡ setup_of_seat seat
  pub begun : ServerHasBegun (setup_of_seat seat) d

-- for what a server may be made with
pub record Lives (d : Durable) (me : Running) : Type 0 where
  pub seat : Seat
  pub life : ℕ
  pub made : IsSeat seat
  pub revived : IsRevived d me seat life
  pub early : d.generation < 2 ^ 63

-- the state under the next generation
abbrev pub anew : Durable → Durable
anew d = record d { generation = suc d.generation }

-- the body of the image with which a half of the first format is saved anew, and none for one of the second
abbrev pub IsImageFor : Running → (format : ℕ) → Option (List ℕ) → Type 0
IsImageFor me format None = format ≢ 1
IsImageFor me format (Some body) = (format ≡ 1) × ((d : Durable) → Lives d me → body ≡ body_bytes (image_of (anew d)))
