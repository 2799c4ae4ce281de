-- Deeds at the worked history in which a deposed leader answers no read: mount 0 writes its block of position 0, and is answered.
use Rattle.std.specs.Prelude.{◌*◌, ◌==◌, if◌then◌else◌, List, [], ◌∷◌, Some, None}
use Rattle.pf_entry.specs.Ops.{Sector}
use Rattle.pf_protocol.specs.Shown.{small_group, write_at}
use Rattle.pf_protocol.specs.StaleReads.{stale_read}
use Rattle.pf_law_registers.specs.Worked.{one_port, its_read}
use Rattle.pf_paxos.specs.declared.block.Block.{Block}
use Rattle.pf_paxos.specs.Registers.{AsksWrite, Written, Turn}
use Rattle.pf_paxos.specs.Runs.{idle_turn}
use Rattle.pf_law_positions.specs.Deeds.{Puts, Gets, Put, Got, Deed, Takes, Submits, Groups}
use Rattle.pf_law_positions.specs.Homes.{PositionHome}

-- both halves lie in chunk 0, one behind the other
abbrev pub its_home : PositionHome
its_home = record { chunk = λ half. 0; first = λ half. 8 * half }

-- the group of each chunk has this history, and client 0 wrote into it once
abbrev pub its_groups : (first : Sector) → Groups
its_groups first = record {
  moves = λ chunk. 0;
  setup = λ chunk epoch. small_group;
  history = λ chunk epoch. stale_read first;
  writes = λ chunk epoch client. if client == 0 then one_port first else [];
  moved = λ chunk epoch. [];
}

-- its write is event 3, and then its read of sector 0 is event 13
abbrev pub its_deeds : (first : Sector) → List Deed
its_deeds first =
    Takes 0 None (Some (Puts 0 (write_at 0 first)))
    ∷ Submits 0 0 0 3
    ∷ Takes 0 (Some (Put 0 0 13 (write_at 0 first))) (Some (Gets 0 (record { first = 0; count = 1 })))
    ∷ Submits 0 0 0 13
    ∷ Takes 0 (Some (Got 0 0 16 (its_read first))) None
    ∷ []

-- in the position it asked the write, and was answered. A read of one sector is nothing here
abbrev pub its_turns : Block → List Turn
its_turns block =
    record { client = 0; reply = None; ask = Some (AsksWrite block) }
    ∷ idle_turn
    ∷ record { client = 0; reply = Some Written; ask = None }
    ∷ idle_turn
    ∷ idle_turn
    ∷ []
