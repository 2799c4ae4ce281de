use Rattle.std.proofs.Common.{[], ◌∷◌, ap}
use Rattle.pf_paxos.specs.declared.parts.Part.{Part}
use Rattle.pf_paxos.proofs.BallotForms.{new_padded}
use Rattle.pf_paxos.proofs.parts.Parts.new.Goals as goal

pub invariant_of-result : goal.invariant_of-result
invariant_of-result c = new_padded c.args.count c.args.part _ c.fill.new.parts c.requires (ap (λ (part : Part). part ∷ part ∷ part ∷ []) c.no_part-field.ensures) c.fill.ensures
