use Rattle.std.proofs.Common.{◌∷◌, [], ◌∙◌, ap, sym}
use Rattle.std.specs.List.{list_any}
use Rattle.pf_group_network.specs.AckedSlots.{is_acked_at}
use Rattle.pf_group_network.proofs.AckedSets.{last_too, of_ok, pushed}
use Rattle.pf_group_network.proofs.acked.AckedList.push.Goals as goal

pub invariant_of-self : goal.invariant_of-self
invariant_of-self c =
    let has = of_ok c.insert.result (c.insert.ensures.succeeds c.requires.1) c.insert.ensures.updates in
    let items = pushed c.push.result c.args.self.now.list.items (c.args.acked ∷ []) c.push.new.self.items (c.push.ensures.succeeds c.requires.0) c.push.ensures.items in
    record { found = λ term slot. has.0 (term, slot) ∙ (last_too term slot c.args.self.now.list.items c.args.acked _ (c.args.self.now.found term slot) ∙ ap (list_any (is_acked_at term slot)) (sym items)) }
