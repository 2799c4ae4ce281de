use Rattle.std.proofs.Common.{◌&&◌, ◌∙◌, not, ap, sym}
use Rattle.pf_base.specs.Span.{overlaps}
use Rattle.pf_entry.specs.Ops.{range_of}
use Rattle.pf_protocol.specs.Leading.{op_at}
use Rattle.pf_server_apply.proofs.TakenReads.{no_overlap, op_there}
use Rattle.pf_server_apply.proofs.fetches.is_waited_for.Goals as goal

pub returns-in-Some : goal.returns-in-Some
returns-in-Some c =
    let me = c.args.me.now in
    let slot = c.args.slot in
    let marked = sym (sym c.is_committed.ensures.committed ∙ c.if-not-is_committed.false) in
    let left = sym (sym c.has.ensures ∙ c.if-has.false) in
    c.overlaps.ensures.test ∙ ap (λ r. overlaps r c.args.range.now) (c.range.ensures ∙ ap range_of (sym (op_there me slot c.in-Some.entry.now c.in-Some.ensures.entry)))
    ∙ (λ i. marked i && (not (left i) && overlaps (range_of (op_at me.log.entries slot)) c.args.range.now))

pub returns-in-None : goal.returns-in-None
returns-in-None c =
    let me = c.args.me.now in
    let slot = c.args.slot in
    let marked = sym (sym c.is_committed.ensures.committed ∙ c.if-not-is_committed.false) in
    let left = sym (sym c.has.ensures ∙ c.if-has.false) in
    sym (no_overlap me slot c.args.range.now c.in-None.ensures.entry)
    ∙ (λ i. marked i && (not (left i) && overlaps (range_of (op_at me.log.entries slot)) c.args.range.now))
