-- How a server of a new group begins.
use Rattle.std.specs.Prelude.{ℕ, zero, suc, List, [], ◌∷◌, ◌++◌, codes}
use Rattle.std.specs.FinMap
use Rattle.pf_entry.specs.Records.{image_of}
use Rattle.pf_codec.specs.Spelling.{body_bytes}
use Rattle.pf_protocol.specs.Servers.{Setup, Role, Follower, Serving, Server}
use Rattle.pf_protocol.specs.Saving.{restarted}
use Rattle.pf_protocol.specs.Groups.{opening_disk, first_leader}
use Rattle.pf_server_restart.specs.declared.seat.Seat.{Seat}

-- what a server of a group is made with
abbrev pub seat_in : Setup → ℕ → Seat
seat_in setup i = record { number = i; sectors = setup.chunk; names = setup.names; format = setup.format }

-- what the halves of a server begin with: the magic, the format of the volume, the group and the server
abbrev pub head_of : (group : ℕ) → Seat → List ℕ
head_of group seat = codes "PFCL" ++ seat.format ∷ group ∷ seat.number ∷ []

-- the servers of the opening state: server 0 serves in term 1, and the others follow
abbrev pub opening_server : Setup → ℕ → Server
opening_server setup zero = first_leader setup
opening_server setup (suc i) = restarted (suc i) 0 (opening_disk setup)

-- the body of the record with which the halves of its servers begin
abbrev pub first_body : Setup → List ℕ
first_body setup = body_bytes (image_of (opening_disk setup))

abbrev pub opening_role : ℕ → Role
opening_role zero = Serving (record { first = 1; next = 1; b0 = 0; acks = FinMap.empty; known = FinMap.empty })
opening_role (suc i) = Follower
