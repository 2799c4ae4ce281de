-- The writes of an epoch in the order of a sector are one list.
use Rattle.std.proofs.Common.{◌≡◌, ℕ, List}
use Rattle.pf_protocol.specs.Groups.{Answered}
use Rattle.pf_law_registers.specs.Orders.{Member}
use Rattle.pf_law_registers.proofs.Later.{one_list}
use Rattle.pf_law_positions.specs.Deeds.{Groups}
use Rattle.pf_law_epochs.specs.Orders.{IsPart}

pub one_part : (groups : Groups) (chunk x epoch : ℕ) (last : Answered) (a b : List Member) → IsPart groups chunk x epoch last a → IsPart groups chunk x epoch last b → a ≡ b
one_part groups chunk x epoch last a b is it =
    one_list a b is.ascends it.ascends (λ m at. it.all m (is.each at.0 m at.1)) (λ m at. is.all m (it.each at.0 m at.1))
