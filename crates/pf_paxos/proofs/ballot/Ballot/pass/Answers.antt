use Rattle.std.proofs.Common.{List, length, sym, subst}
use Rattle.pf_paxos.specs.declared.parts.Part.{Part}
use Rattle.pf_paxos.specs.BallotStanding.{AreBests, IsQuorum}
use Rattle.pf_paxos.proofs.BallotForms.{bests_renewed, quorum_renewed}
use Rattle.pf_paxos.proofs.ballot.Ballot.pass.Goals as goal

pub invariant_of-self : goal.invariant_of-self
invariant_of-self c = record {
  mount = c.self.invariant.mount;
  own = c.self.invariant.own;
  quorum = subst (λ (parts : List Part). IsQuorum (length parts) c.self.inside.quorum) (sym c.renew.ensures) (quorum_renewed c.self.inside.quorum c.self.inside.parts c.self.inside.own c.self.invariant.quorum);
  bests = subst AreBests (sym c.renew.ensures) (bests_renewed c.self.inside.parts c.self.inside.own c.self.invariant.own);
  input = c.self.invariant.input;
  ballot = λ rests. absurd rests;
}
