use Rattle.std.proofs.Common.{◌+◌, Some, sym, ap, subst, ◌∙◌}
use Rattle.std.specs.FinMap as map
use Rattle.pf_holes.specs.Windows.{SlotsAreWithin}
use Rattle.pf_holes.proofs.LogCopies.{IsCopied, copied_none, copied_hole, copied_more, copied_all}
use Rattle.pf_holes.proofs.log.HoleLog.copied.Goals as goal
use Rattle.pf_holes.proofs.log.HoleLog.copied.Goals.{in-Some+in_ok-try_clone+in_ok-push, in_default}

pub loop-slot-init : goal.loop-slot-init
loop-slot-init c =
    copied_none c.args.self.now.entries c.self.inside.base c.in_ok-rows.rows.items
    (subst (λ m. SlotsAreWithin c.self.inside.base m) (ap (λ h. h.entries) c.self.view_is) c.self.invariant.within) c.in_ok-rows.ensures.items

pub loop-slot-preserved : goal.loop-slot-preserved
loop-slot-preserved c =
    let log = ap (λ h. map.get h.entries (c.loop-slot.slot + 1)) (sym c.self.view_is) in
    elim c.match-get.branch [
      | in-Some+in_ok-try_clone+in_ok-push w ↦
          let held = w.in-Some.ensures ∙ ap Some (sym w.in_ok-try_clone.ensures) in
          copied_more c.args.self.now.entries c.loop-slot.slot c.loop-slot.rows.items c.match-get.rows.items w.in_ok-try_clone.field-0 c.loop-slot.invariant
          (log ∙ held) (c.self.invariant.keyed (c.loop-slot.slot + 1) w.in_ok-try_clone.field-0 held)
          (ap (λ v. v.items) w.rows-is ∙ w.in_ok-push.ensures.items)
      | in_default w ↦
          subst (λ v. IsCopied c.args.self.now.entries (c.loop-slot.slot + 1) v.items) (sym w.rows-is)
          (copied_hole c.args.self.now.entries c.loop-slot.slot c.loop-slot.rows.items c.loop-slot.invariant (log ∙ w.in_default.ensures))
    ]

pub returns : goal.returns
returns c =
    c.new.ensures
    ∙ copied_all c.args.self.now.entries c.loop-slot.slot c.self.inside.last c.loop-slot.rows.items c.loop-slot.invariant c.loop-slot-test.false
    (λ q has. c.self.invariant.upto q (ap (λ h. map.contains_key h.entries q) c.self.view_is ∙ has))
