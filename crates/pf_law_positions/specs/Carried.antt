-- Deeds over a move: a half of zeros was moved to another group, and there a client reads it.
use Rattle.std.specs.Prelude.{List, [], ◌∷◌, replicate, Some, None}
use Rattle.pf_base.specs.Span.{Span}
use Rattle.pf_entry.specs.Sets
use Rattle.pf_entry.specs.Ops.{zero_sector}
use Rattle.pf_protocol.specs.declared.answers.Answer.TheVariants.{Done, Read as ReadIs}
use Rattle.pf_protocol.specs.declared.events.Event.TheVariants.{Deliver, Fetch}
use Rattle.pf_protocol.specs.Groups.{Answered}
use Rattle.pf_protocol.specs.Histories.{History}
use Rattle.pf_protocol.specs.Shown.{small_group, so}
use Rattle.pf_paxos.specs.declared.block.Block.{Block}
use Rattle.pf_paxos.specs.Registers.{AsksRead, Gives, Turn}
use Rattle.pf_paxos.specs.Runs.{idle_turn}
use Rattle.pf_law_positions.specs.Deeds.{Gets, Got, Deed, Takes, Submits, Groups}
use Rattle.pf_law_positions.specs.Homes.{PositionHome}

abbrev pub eight : Span
eight = record { first = 0; count = 8 }

-- server 0 takes up a read of eight sectors, hears of server 1, and answers
abbrev pub zero_read : History
zero_read = so (Fetch 0 eight) (ReadIs 0) ∷ so (Deliver 0) Done ∷ so (Deliver 2) Done ∷ []

abbrev pub zero_answer : Answered
zero_answer = record { number = 0; server = 0; term = 1; range = eight; base = 0; applied = Sets.empty; bytes = replicate 8 zero_sector }

-- the halves lie in two chunks
abbrev pub two_chunks : PositionHome
two_chunks = record { chunk = λ half. half; first = λ half. 0 }

-- each chunk was moved once, and the group of each epoch has this history: in epoch 0 the read is the mover's, and in epoch 1 a client's
abbrev pub moved_groups : Groups
moved_groups = record {
  moves = λ chunk. 1;
  setup = λ chunk epoch. small_group;
  history = λ chunk epoch. zero_read;
  writes = λ chunk epoch client. [];
  moved = λ chunk epoch. [];
}

abbrev pub moved_deeds : List Deed
moved_deeds = Takes 3 None (Some (Gets 0 eight)) ∷ Submits 3 0 1 0 ∷ Takes 3 (Some (Got 0 1 3 zero_answer)) None ∷ []

-- client 3 reads half 0
abbrev pub moved_turns : Block → List Turn
moved_turns block =
    record { client = 3; reply = None; ask = Some (AsksRead 0) }
    ∷ idle_turn
    ∷ record { client = 3; reply = Some (Gives (replicate 8 block)); ask = None }
    ∷ []
