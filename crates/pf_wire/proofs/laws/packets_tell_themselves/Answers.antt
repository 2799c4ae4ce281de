use Rattle.pf_wire.proofs.WireLaws.{packets_tell}
use Rattle.pf_wire.proofs.laws.packets_tell_themselves.Goals as goal

pub returns-clause-packet_is : goal.returns-clause-packet_is
returns-clause-packet_is c = λ p q x y fits_p fits_q is_p is_q e. (packets_tell p q x y (fits_p, is_p) (fits_q, is_q) e).0

pub returns-clause-rest_is : goal.returns-clause-rest_is
returns-clause-rest_is c = λ p q x y fits_p fits_q is_p is_q e. (packets_tell p q x y (fits_p, is_p) (fits_q, is_q) e).1
