use Rattle.std.proofs.Common.{◌∷◌, ◌++◌, [], arith, sym, ap, subst, ◌∙◌}
use Rattle.std.specs.Prelude.{vec_capacity, vec_len}
use Rattle.pf_group_network.specs.declared.kept.Reading.TheVariants.{Waiting}
use Rattle.pf_group_network.specs.Unread.{AreListed, ReadingsAre}
use Rattle.pf_group_network.proofs.Unread.{waits_more}
use Rattle.pf_group_network.proofs.reads.ReadTable.push.Goals as goal

pub invariant_of-self : goal.invariant_of-self
invariant_of-self c =
    let i = c.self.inside in
    let free = ap (λ (r : ReadingsAre). r.free) c.self.view_is in
    subst (λ items. AreListed items i.unread.items (vec_len i.unread) (vec_capacity i.unread)) (sym c.put.ensures.items)
    (waits_more i.list.items i.unread.items (vec_len i.unread) (vec_capacity i.unread) c.self.invariant (vec_capacity i.unread) (omega (arith, c.requires.answer, free)))

pub returns : goal.returns
returns c = c.put.ensures.items ∙ ap (λ (r : ReadingsAre). r.items ++ Waiting ∷ []) c.self.view_is
