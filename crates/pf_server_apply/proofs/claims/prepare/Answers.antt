use Rattle.std.proofs.Common.{◌∙◌, sym}
use Rattle.pf_server_apply.proofs.LeastClaims.{op_held}
use Rattle.pf_server_apply.proofs.claims.prepare.Goals as goal

pub returns : goal.returns
returns c = λ d cached.
    let held = op_held d c.args.me.now cached c.in-Some.entry.now.slot c.in-Some.entry.now c.in-Some.ensures.held in
    let op = c.in_ok-op.ensures ∙ sym held in
    record {
      least = c.in-Some.ensures.least d cached;
      job_is = λ i. record { server = c.args.me.now.number; life = c.args.me.now.life; slot = c.in-Some.entry.now.slot; op = op i };
      kept = c.in_ok-kept.ensures ∙ sym held;
      room = c.in_ok-room.ensures;
    }
