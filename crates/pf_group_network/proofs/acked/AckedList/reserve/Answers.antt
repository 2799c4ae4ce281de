use Rattle.std.proofs.Common.{◌∙◌, ap, sym}
use Rattle.std.specs.List.{list_any}
use Rattle.pf_group_network.specs.AckedSlots.{is_acked_at}
use Rattle.pf_group_network.proofs.acked.AckedList.reserve.Goals as goal

pub invariant_of-self-2 : goal.invariant_of-self-2
invariant_of-self-2 c = record {
  found = λ term slot.
      c.reserve-2.ensures.keys.2 (term, slot) ∙ (c.args.self.now.found term slot ∙ ap (list_any (is_acked_at term slot)) (sym c.reserve.ensures.items));
}
