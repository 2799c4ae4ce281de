use Rattle.std.proofs.Common.{◌<◌, length, sym, ap, subst, ◌∙◌}
use Rattle.std.specs.Prelude.{IfOk, ◌≡◌, slice_set}
use Rattle.pf_wire.proofs.ReaddressedPackets.{has_receiver, receiver_set}
use Rattle.pf_wire.proofs.writing.readdressed.Goals as goal

pub with_byte-requires : goal.with_byte-requires
with_byte-requires c = subst (λ bytes. 2 < length bytes) (sym c.requires.1) (has_receiver c.requires.0)

pub returns : goal.returns
returns c = λ p is.
    subst (λ bytes. IfOk c.with_byte.result (λ copy. copy ≡ bytes)) (ap (λ bytes. slice_set bytes 2 c.args.to) is ∙ receiver_set p c.args.to) c.with_byte.ensures
