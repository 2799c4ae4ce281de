use Rattle.pf_wire.proofs.PacketSizes.{packet_len}
use Rattle.pf_wire.proofs.laws.packets_have_their_sizes.Goals as goal

pub returns : goal.returns
returns c = λ p is. packet_len p is
