use Rattle.std.proofs.Common.{◌∙◌, sym, ap, map-id}
use Rattle.std.proofs.lemmas.Iterator.Adapters.{YieldsList-from_vec}
use Rattle.std.proofs.lemmas.Iterator.Consumers.{YieldsList-turn, YieldsList-end}
use Rattle.pf_server_restart.proofs.RecordReads.{none_put, one_put, next_placed, with_entries}
use Rattle.pf_server_restart.proofs.recovery.put_all.Goals as goal

pub loop-entry-init : goal.loop-entry-init
loop-entry-init c = record { put = none_put c.args.log.now }

pub put-requires-clause-above : goal.put-requires-clause-above
put-requires-clause-above c =
    let from = c.into_iter-entry-iterator.ensures.into_iter_gives in
    let turn = YieldsList-turn (YieldsList-from_vec {s = c.into_iter-entry-iterator.result} c.args.entries.items from.0 (from.1 ∙ c.args.entries.ok.0)) c.loop-entry.yielded c.loop-entry.entry-iterator c.loop-entry.yielded_by c.next.result c.next.new.self c.in-Some.entry c.in-Some.is c.next.ensures.steps in
    (next_placed c.args.log.now c.loop-entry.log c.loop-entry.yielded c.args.entries.items c.in-Some.entry c.loop-entry.invariant.put c.requires turn).0

pub put-requires-clause-room : goal.put-requires-clause-room
put-requires-clause-room c =
    let from = c.into_iter-entry-iterator.ensures.into_iter_gives in
    let turn = YieldsList-turn (YieldsList-from_vec {s = c.into_iter-entry-iterator.result} c.args.entries.items from.0 (from.1 ∙ c.args.entries.ok.0)) c.loop-entry.yielded c.loop-entry.entry-iterator c.loop-entry.yielded_by c.next.result c.next.new.self c.in-Some.entry c.in-Some.is c.next.ensures.steps in
    (next_placed c.args.log.now c.loop-entry.log c.loop-entry.yielded c.args.entries.items c.in-Some.entry c.loop-entry.invariant.put c.requires turn).1

pub loop-entry-preserved : goal.loop-entry-preserved
loop-entry-preserved c = record { put = one_put c.args.log.now c.loop-entry.log c.put.new.self c.loop-entry.yielded c.in-Some.entry c.loop-entry.invariant.put c.put.ensures }

pub returns : goal.returns
returns c =
    let from = c.into_iter-entry-iterator.ensures.into_iter_gives in
    let all = YieldsList-end (YieldsList-from_vec {s = c.into_iter-entry-iterator.result} c.args.entries.items from.0 (from.1 ∙ c.args.entries.ok.0)) c.loop-entry.yielded c.loop-entry.entry-iterator c.loop-entry.yielded_by c.next.result c.next.new.self c.in-None.is c.next.ensures.steps in
    c.loop-entry.invariant.put ∙ ap (with_entries c.args.log.now) (sym (map-id c.loop-entry.yielded) ∙ all.0)
