use Rattle.std.proofs.Common.{[], ◌∷◌, ◌∙◌}
use Rattle.std.specs.Option.{option_copied}
use Rattle.pf_codec.proofs.Among.{among_behind}
use Rattle.pf_codec.proofs.Fields.{byte_ahead, no_byte}
use Rattle.pf_codec.proofs.reader.ByteReader.u8.Goals as goal

pub returns-in_default : goal.returns-in_default
returns-in_default c = no_byte c.next_bytes.result.0.now _ c.args.self.now (c.next_bytes.ensures.same ∙ c.self.view_is) c.in_default.ensures.cases c.next_bytes.ensures.none

pub returns : goal.returns
returns c =
    byte_ahead c.in-Some.byte.now c.next_bytes.result.0.now c.in-Some.rest.now _ c.args.self.now (c.next_bytes.ensures.same ∙ c.self.view_is) c.in-Some.ensures.cases.0

pub invariant_of-self : goal.invariant_of-self
invariant_of-self c =
    among_behind (c.in-Some.byte.now ∷ []) c.in-Some.rest.now c.next_bytes.result.0.now (option_copied c.next_bytes.result.2) c.self.inside.end c.in-Some.ensures.cases.0
    (c.next_bytes.ensures.among c.self.inside.end c.self.invariant)
