use Rattle.std.proofs.Common.{◌+◌, Some, sym, ap, subst, arith, ◌∙◌}
use Rattle.pf_entry.specs.Records.{above}
use Rattle.pf_holes.proofs.LogCopies.{IsCopied, copied_none, copied_hole, copied_more, copied_all}
use Rattle.pf_server_memory.proofs.Aboves.{above_next, above_within, above_held, above_upto}
use Rattle.pf_server_memory.proofs.copies.copied_above.Goals as goal
use Rattle.pf_server_memory.proofs.copies.copied_above.Goals.{in-Some+in_ok-try_clone+in_ok-push, in_default}

pub loop-slot-init : goal.loop-slot-init
loop-slot-init c =
    copied_none (above c.args.base c.args.log.now.entries) c.args.base c.in_ok-rows.rows.items
    (above_within c.args.log.now.entries c.args.log.now.base c.args.base c.requires.reached c.base.ensures.within) c.in_ok-rows.ensures.items

pub loop-slot-preserved : goal.loop-slot-preserved
loop-slot-preserved c =
    let log = above_next c.args.log.now.entries c.args.base c.loop-slot.slot c.loop-slot.auto.slot in
    elim c.match-get.branch [
      | in-Some+in_ok-try_clone+in_ok-push w ↦
          copied_more (above c.args.base c.args.log.now.entries) c.loop-slot.slot c.loop-slot.rows.items c.match-get.rows.items w.in_ok-try_clone.field-0 c.loop-slot.invariant
          (log ∙ w.in-Some.ensures.entry ∙ ap Some (sym w.in_ok-try_clone.ensures)) (ap (λ e. e.slot) w.in_ok-try_clone.ensures ∙ w.in-Some.ensures.own_slot)
          (ap (λ v. v.items) w.rows-is ∙ w.in_ok-push.ensures.items)
      | in_default w ↦
          subst (λ v. IsCopied (above c.args.base c.args.log.now.entries) (c.loop-slot.slot + 1) v.items) (sym w.rows-is)
          (copied_hole (above c.args.base c.args.log.now.entries) c.loop-slot.slot c.loop-slot.rows.items c.loop-slot.invariant (log ∙ w.in_default.ensures.entry))
    ]

pub returns : goal.returns
returns c =
    c.new.ensures
    ∙ copied_all (above c.args.base c.args.log.now.entries) c.loop-slot.slot c.min-end.result c.loop-slot.rows.items c.loop-slot.invariant c.loop-slot-test.false
    (λ q has.
    let held = c.last.ensures q (above_held c.args.log.now.entries c.args.base q has) in
    let low = above_upto c.args.log.now.entries c.args.log.now.base c.args.base q c.base.ensures.within has in
    omega (arith, held, low, c.min-end.ensures, c.base.ensures.base))
