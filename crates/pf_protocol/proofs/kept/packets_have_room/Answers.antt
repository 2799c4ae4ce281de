use Rattle.pf_protocol.proofs.Room.{legal_room}
use Rattle.pf_protocol.proofs.kept.packets_have_room.Goals as goal

pub returns : goal.returns
returns c = record { count = λ setup history is. (legal_room setup history is).count; bytes = λ setup history is. (legal_room setup history is).bytes }
