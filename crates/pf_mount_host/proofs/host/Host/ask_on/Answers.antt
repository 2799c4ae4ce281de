use Rattle.std.proofs.Common.{[], suc, length, ap, arith}
use Rattle.pf_journal.specs.Layouts.{layout_of}
use Rattle.std.proofs.lemmas.Result.{on_err_weaker, on_ok_weaker}
use Rattle.pf_world_moments.specs.pf_group.proofs.NextEvents.{on_err}
use Rattle.pf_mount_host.proofs.Parts.{none_done, not_then, ready_on, then_not, went_on}
use Rattle.pf_mount_host.proofs.Steps.{handing, handing_longer, looking, looking_longer}
use Rattle.pf_mount_host.proofs.host.Host.ask_on.Goals as goal

pub returns-in_err-ask-clause-err : goal.returns-in_err-ask-clause-err
returns-in_err-ask-clause-err g c =
    let port = c.args.port in
    let routes = c.args.routes.now in
    let old = c.args.chunks.now in
    let new = c.ask.new.chunks in
    let host = c.args.self.now in
    on_err c.from_residual.result _
    (not_then (looking port) routes old new host (handing port) (none_done (looking port) routes old new host (looking_longer port) c.in_err-ask.ensures.err) (handing_longer port))

pub hand-requires-clause-port : goal.hand-requires-clause-port
hand-requires-clause-port g c κs within =
    let same = ap (λ layout. suc (length (layout_of layout).anchors)) (c.in_ok-ask.ensures.went []).layout in
    omega (arith, c.requires.port, same)

pub hand-requires-clause-ready : goal.hand-requires-clause-ready
hand-requires-clause-ready g c κs within =
    ready_on (looking c.args.port) c.args.routes.now c.args.chunks.now c.ask.new.chunks [] [] c.args.self.now c.ask.new.self c.requires.ready (c.in_ok-ask.ensures.went [])

pub returns-clause-went : goal.returns-clause-went
returns-clause-went g c =
    let port = c.args.port in
    let out = c.args.out.now.items in
    on_ok_weaker c.hand.result
    (went_on (looking port) c.args.routes.now c.args.chunks.now c.ask.new.chunks c.args.self.now out out c.ask.new.self (c.in_ok-ask.ensures.went out) (handing port) c.hand.new.chunks c.hand.new.out.items c.ask.new.self)
    c.hand.ensures.went

pub returns-clause-err : goal.returns-clause-err
returns-clause-err g c =
    let port = c.args.port in
    let out = c.args.out.now.items in
    on_err_weaker c.hand.result
    (then_not (looking port) c.args.routes.now c.args.chunks.now c.ask.new.chunks c.args.self.now out out c.ask.new.self (c.in_ok-ask.ensures.went out) (handing port) c.hand.new.chunks)
    c.hand.ensures.err
