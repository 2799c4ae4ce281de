use Rattle.std.proofs.Common.{◌≡◌, ℕ, ◌-◌, ◌++◌, [], ◌∷◌, map, nat_lt, arith, sym, ap, ◌∙◌}
use Rattle.std.specs.List.{filter, range_with_len}
use Rattle.pf_base.specs.Span.{Span}
use Rattle.pf_entry.specs.declared.entries.Named.{Named}
use Rattle.pf_server_leader.specs.Submitting.{range_named_at}
use Rattle.pf_server_leader.proofs.Looks.{looks_more, looks_same}
use Rattle.pf_server_leader.proofs.plans.name_above.Goals as goal
use Rattle.pf_server_leader.proofs.plans.name_above.Goals.{then-base-slot+in_ok-push, else-base-slot}

with_range : ℕ → Span → Named
with_range slot range = record { slot = slot; range = range }

pub loop-slot-preserved : goal.loop-slot-preserved
unfolding with_range
loop-slot-preserved c = elim c.if-base-slot.branch [
  | then-base-slot+in_ok-push w ↦
      let more : c.if-base-slot.look ≡ c.loop-slot.look ++ range_named_at c.args.log.now.entries c.loop-slot.slot ∷ [] =
      w.look-is ∙ w.in_ok-push.ensures ∙ ap (λ r. c.loop-slot.look ++ with_range c.loop-slot.slot r ∷ []) w.range_at-range.ensures in
      record {
        within = omega (arith, c.loop-slot.invariant.within);
        so_far = more ∙ ap (λ xs. xs ++ range_named_at c.args.log.now.entries c.loop-slot.slot ∷ []) c.loop-slot.invariant.so_far ∙ sym (looks_more _ _ _ _ c.loop-slot.invariant.within w.if-base-slot.true);
      }
  | else-base-slot w ↦ record {
    within = omega (arith, c.loop-slot.invariant.within);
    so_far = w.look-is ∙ c.loop-slot.invariant.so_far ∙ sym (looks_same _ _ _ _ c.loop-slot.invariant.within w.if-base-slot.false);
  }
]

pub returns : goal.returns
returns c =
    let last : c.loop-slot.slot - c.args.from ≡ c.args.next - c.args.from = omega (arith, c.loop-slot.auto.slot-end c.requires, c.loop-slot-test.false) in
    c.loop-slot.invariant.so_far ∙ ap (λ n. map (range_named_at c.args.log.now.entries) (filter (nat_lt c.args.base) (range_with_len c.args.from n))) last
