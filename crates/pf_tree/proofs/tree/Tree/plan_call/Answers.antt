use Rattle.std.proofs.Common.{subst}
use Rattle.pf_tree.specs.Held.{Held, data_of}
use Rattle.pf_tree.specs.Faults.{PlansTo}
use Rattle.pf_tree.specs.Plans.{changes, tables_sight}
use Rattle.pf_tree.specs.Trees.{refusal}
use Rattle.pf_tree.proofs.tree.Tree.plan_call.Goals as goal

pub returns : goal.returns
returns c =
    let P : Held → Type 0 = λ h.
    PlansTo (refusal (tables_sight (data_of h.first h.tables) h.tables) c.args.call.now) (changes (data_of h.first h.tables) h.tables c.args.call.now) c.plan_all.result in
    subst P c.self.view_is c.plan_all.ensures
