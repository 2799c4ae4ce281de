use Rattle.std.proofs.lemmas.Result.{IfOk-weaker}
use Rattle.pf_chunk.specs.Driving.{HasHeard, PortDrove}
use Rattle.pf_chunk.proofs.Driven.{IsHeard}
use Rattle.pf_chunk.proofs.PortReplies.{is_heard}
use Rattle.pf_chunk.proofs.chunk.ChunkGroup.hear.Goals as goal

pub returns-clause-went : goal.returns-clause-went
returns-clause-went g c =
    let old = c.args.self.now in
    let new = c.hand_on.new.self in
    let m = c.args.mount in
    IfOk-weaker c.hand_on.result (λ reply. IsHeard m old reply new) (λ reply. HasHeard m old reply new) (λ reply h. h.went)
    (is_heard m old new c.hand_on.result c.requires.ready c.laws.ensures.legal c.hand_on.ensures.went)

pub returns-clause-port : goal.returns-clause-port
returns-clause-port g c =
    let old = c.args.self.now in
    let new = c.hand_on.new.self in
    let m = c.args.mount in
    IfOk-weaker c.hand_on.result (λ reply. IsHeard m old reply new) (λ reply. PortDrove m reply old new) (λ reply h. h.port)
    (is_heard m old new c.hand_on.result c.requires.ready c.laws.ensures.legal c.hand_on.ensures.went)
