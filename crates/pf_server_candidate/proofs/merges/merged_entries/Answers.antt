use Rattle.std.proofs.Common.{◌+◌, ◌∙◌, length, sym, ap, arith, subst}
use Rattle.std.proofs.lemmas.List.{length_push}
use Rattle.std.proofs.lemmas.Iterator.Adapters.{YieldsList-from_vec}
use Rattle.std.proofs.lemmas.Iterator.Consumers.{YieldsList-turn, YieldsList-end}
use Rattle.pf_server_candidate.proofs.Made.{IsMade, one_made, slot_fits, all_made}
use Rattle.pf_server_candidate.proofs.merges.merged_entries.Goals as goal

pub overflow_add-slot : goal.overflow_add-slot
overflow_add-slot c =
    let from = c.into_iter-op-iterator.ensures.into_iter_gives in
    let turn = YieldsList-turn (YieldsList-from_vec {s = c.into_iter-op-iterator.result} c.in_ok-first.field-0.ops (from.0 ∙ c.into_vec-ops.ensures) (from.1 ∙ c.into_vec-ops.result.ok.0 ∙ ap length c.into_vec-ops.ensures)) c.loop-op.yielded c.loop-op.op-iterator c.loop-op.yielded_by c.next.result c.next.new.self c.in-Some.op c.in-Some.is c.next.ensures.steps in
    let low = slot_fits c.args.term c.args.base c.args.own.now c.args.vote.now c.in_ok-first.field-0.ops c.in_ok-first.field-0.first c.in_ok-first.ensures.first c.in_ok-first.ensures.ops (length c.loop-op.yielded) c.loop-op.slot c.loop-op.entries.items c.loop-op.invariant.made turn.0 in
    omega (arith, low, c.requires.first, c.in_ok-first.ensures.first)

pub loop-op-preserved : goal.loop-op-preserved
loop-op-preserved c =
    let from = c.into_iter-op-iterator.ensures.into_iter_gives in
    let turn = YieldsList-turn (YieldsList-from_vec {s = c.into_iter-op-iterator.result} c.in_ok-first.field-0.ops (from.0 ∙ c.into_vec-ops.ensures) (from.1 ∙ c.into_vec-ops.result.ok.0 ∙ ap length c.into_vec-ops.ensures)) c.loop-op.yielded c.loop-op.op-iterator c.loop-op.yielded_by c.next.result c.next.new.self c.in-Some.op c.in-Some.is c.next.ensures.steps in
    record {
      made = subst (λ n. IsMade c.args.term c.args.base c.args.own.now c.args.vote.now n (c.loop-op.slot + 1) c.push.new.self.items) (sym (length_push c.loop-op.yielded c.in-Some.op))
          (one_made c.args.term c.args.base c.args.own.now c.args.vote.now c.in_ok-first.field-0.ops c.in_ok-first.field-0.first c.in_ok-first.ensures.first c.in_ok-first.ensures.ops (length c.loop-op.yielded) c.loop-op.slot c.loop-op.entries.items c.push.new.self.items
          c.none-look.result c.in-Some.op c.loop-op.invariant.made turn.0 turn.1 c.none-look.ensures c.in_ok-push.ensures.items);
    }

pub returns-clause-entries : goal.returns-clause-entries
returns-clause-entries c =
    let from = c.into_iter-op-iterator.ensures.into_iter_gives in
    let all = YieldsList-end (YieldsList-from_vec {s = c.into_iter-op-iterator.result} c.in_ok-first.field-0.ops (from.0 ∙ c.into_vec-ops.ensures) (from.1 ∙ c.into_vec-ops.result.ok.0 ∙ ap length c.into_vec-ops.ensures)) c.loop-op.yielded c.loop-op.op-iterator c.loop-op.yielded_by c.next.result c.next.new.self c.in-None.is c.next.ensures.steps in
    all_made c.args.term c.args.base c.args.own.now c.args.vote.now c.in_ok-first.field-0.ops c.in_ok-first.field-0.first c.in_ok-first.ensures.first c.in_ok-first.ensures.ops (length c.loop-op.yielded) c.loop-op.slot c.loop-op.entries.items c.loop-op.invariant.made all.1
