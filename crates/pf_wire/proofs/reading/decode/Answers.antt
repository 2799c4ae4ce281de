use Rattle.std.proofs.Common.{ap, sym, subst, ◌∙◌}
use Rattle.std.proofs.lemmas.Option.{none-some, same_Some}
use Rattle.pf_codec.specs.Parsers.{Fails}
use Rattle.pf_wire.specs.Reading.{packet_in}
use Rattle.pf_wire.proofs.WireLaws.{packet_found, packet_again}
use Rattle.pf_wire.proofs.reading.decode.Goals as goal

pub returns-in-Ok-clause-canonical : goal.returns-in-Ok-clause-canonical
returns-in-Ok-clause-canonical c = (packet_found c.args.bytes.now c.in-Ok.packet c.read_whole.ensures.bytes c.in-Ok.ensures.gives).0

pub returns-in-Ok-clause-spelled : goal.returns-in-Ok-clause-spelled
returns-in-Ok-clause-spelled c = (packet_found c.args.bytes.now c.in-Ok.packet c.read_whole.ensures.bytes c.in-Ok.ensures.gives).1

pub returns-in-Ok-clause-fits : goal.returns-in-Ok-clause-fits
returns-in-Ok-clause-fits c = (packet_found c.args.bytes.now c.in-Ok.packet c.read_whole.ensures.bytes c.in-Ok.ensures.gives).2

pub returns-in-Ok-clause-only : goal.returns-in-Ok-clause-only
returns-in-Ok-clause-only c = λ p fits canonical spelled. same_Some c.in-Ok.packet p (sym c.in-Ok.ensures.gives ∙ ap packet_in (sym spelled) ∙ packet_again p fits canonical)

pub returns-in-Err-Malformed-clause-bad_packet : goal.returns-in-Err-Malformed-clause-bad_packet
returns-in-Err-Malformed-clause-bad_packet c = λ bad p fits canonical spelled.
    none-some p
    (sym (subst (λ f. Fails f (packet_in c.args.bytes.now)) c.in-Err-Malformed.field-0-is c.in-Err-Malformed.ensures.gives) ∙ ap packet_in (sym spelled) ∙ packet_again p fits canonical)
