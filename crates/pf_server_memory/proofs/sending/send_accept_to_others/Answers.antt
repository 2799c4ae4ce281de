use Rattle.std.proofs.Common.{ℕ, [], ◌∷◌, map, sym, ap, subst}
use Rattle.std.proofs.lemmas.Result.{err_from_is_err_and}
use Rattle.pf_entry.specs.declared.packets.Body.TheVariants.{Accept}
use Rattle.pf_server_memory.specs.Outgoing.{Sends}
use Rattle.pf_server_memory.specs.Packets.{packet}
use Rattle.pf_server_memory.proofs.SentPackets.{last_sent, sends_less, sends_more}
use Rattle.pf_server_memory.proofs.sending.send_accept_to_others.Goals as goal

pub push_accept-requires : goal.push_accept-requires
push_accept-requires c = c.requires.canonical c.others_of-first.result.0 c.others_of-first.ensures.first.0 c.others_of-first.ensures.first.1

pub returns-in_err-push_accept : goal.returns-in_err-push_accept
returns-in_err-push_accept c =
    let all = ap (map (λ (i : ℕ). packet c.args.me i c.args.term (Accept c.args.entry.now))) c.others_of-first.ensures.both in
    subst (λ ps. Sends c.args.out.now c.push_accept.new.self ps c.from_residual.result) (sym all)
    (sends_less _ _ _ (packet c.args.me c.others_of-first.result.0 c.args.term (Accept c.args.entry.now) ∷ []) _ c.push_accept.result _ c.in_err-push_accept.field-0.0 c.push_accept.ensures c.in_err-push_accept.was (err_from_is_err_and c.from_residual.result c.from_residual.ensures.1))

pub push_again-requires : goal.push_again-requires
push_again-requires c =
    let first = packet c.args.me c.others_of-first.result.0 c.args.term (Accept c.args.entry.now) in
    (first, last_sent c.args.out.now c.push_accept.new.self first c.in_ok-push_accept.ensures.1, c.requires.canonical c.others_of-first.result.1 c.others_of-first.ensures.second.0 c.others_of-first.ensures.second.1)

pub returns : goal.returns
returns c =
    let first = packet c.args.me c.others_of-first.result.0 c.args.term (Accept c.args.entry.now) in
    let again = c.push_again.ensures first (last_sent c.args.out.now c.push_accept.new.self first c.in_ok-push_accept.ensures.1) (c.requires.canonical c.others_of-first.result.1 c.others_of-first.ensures.second.0 c.others_of-first.ensures.second.1) in
    let all = ap (map (λ (i : ℕ). packet c.args.me i c.args.term (Accept c.args.entry.now))) c.others_of-first.ensures.both in
    subst (λ ps. Sends c.args.out.now c.push_again.new.self ps c.push_again.result) (sym all)
    (sends_more _ _ _ (first ∷ []) _ c.push_accept.result _ c.in_ok-push_accept.field-0 c.push_accept.ensures c.in_ok-push_accept.was again)
