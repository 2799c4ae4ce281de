use Rattle.std.proofs.Common.{ℕ, [], ◌∷◌, map, sym, ap, subst}
use Rattle.std.proofs.lemmas.Result.{err_from_is_err_and}
use Rattle.pf_server_memory.specs.Outgoing.{Sends}
use Rattle.pf_server_memory.specs.Packets.{packet}
use Rattle.pf_server_memory.proofs.SentPackets.{last_sent, sends_less, sends_more}
use Rattle.pf_server_memory.proofs.sending.send_to_others.Goals as goal

pub send-requires : goal.send-requires
send-requires c = c.requires.canonical c.others_of-first.result.0 c.others_of-first.ensures.first.0 c.others_of-first.ensures.first.1

pub returns-in_err-send : goal.returns-in_err-send
returns-in_err-send c =
    let all = ap (map (λ (i : ℕ). packet c.args.me i c.args.term c.args.body)) c.others_of-first.ensures.both in
    subst (λ ps. Sends c.args.out.now c.send.new.out ps c.from_residual.result) (sym all)
    (sends_less _ _ _ (packet c.args.me c.others_of-first.result.0 c.args.term c.args.body ∷ []) _ c.send.result _ c.in_err-send.field-0.0 c.send.ensures c.in_err-send.was (err_from_is_err_and c.from_residual.result c.from_residual.ensures.1))

pub push_again-requires : goal.push_again-requires
push_again-requires c =
    let first = packet c.args.me c.others_of-first.result.0 c.args.term c.args.body in
    (first, last_sent c.args.out.now c.send.new.out first c.in_ok-send.ensures.1, c.requires.canonical c.others_of-first.result.1 c.others_of-first.ensures.second.0 c.others_of-first.ensures.second.1)

pub returns : goal.returns
returns c =
    let first = packet c.args.me c.others_of-first.result.0 c.args.term c.args.body in
    let again = c.push_again.ensures first (last_sent c.args.out.now c.send.new.out first c.in_ok-send.ensures.1) (c.requires.canonical c.others_of-first.result.1 c.others_of-first.ensures.second.0 c.others_of-first.ensures.second.1) in
    let all = ap (map (λ (i : ℕ). packet c.args.me i c.args.term c.args.body)) c.others_of-first.ensures.both in
    subst (λ ps. Sends c.args.out.now c.push_again.new.self ps c.push_again.result) (sym all)
    (sends_more _ _ _ (first ∷ []) _ c.send.result _ c.in_ok-send.field-0 c.send.ensures c.in_ok-send.was again)
