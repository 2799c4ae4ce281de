use Rattle.std.proofs.Common.{◌≡◌, ◌<◌, None, List, length, arith, sym, subst}
use Rattle.pf_paxos.specs.declared.block.Block.{Block}
use Rattle.pf_paxos.specs.declared.parts.Part.{Part}
use Rattle.pf_paxos.specs.Blocks.{IsBlock}
use Rattle.pf_paxos.proofs.Forms as forms
use Rattle.pf_paxos.specs.Ballots.{BallotIs}
use Rattle.pf_paxos.specs.BallotStanding.{AreBests, IsQuorum}
use Rattle.pf_paxos.proofs.BallotForms.{best_block, bests_renewed, quorum_renewed}
use Rattle.pf_paxos.proofs.ballot.Ballot.choose.Goals as goal
use Rattle.pf_paxos.proofs.ballot.Ballot.choose.Goals.{else-best-eq0-via-then-best-eq0+else-is_none, else-best-eq0-via-else-best-eq0}

pub invariant_of-self : goal.invariant_of-self
invariant_of-self c = record {
  mount = c.self.invariant.mount;
  own = c.self.invariant.own;
  quorum = subst (λ (parts : List Part). IsQuorum (length parts) c.self.inside.quorum) (sym c.renew.ensures) (quorum_renewed c.self.inside.quorum c.self.inside.parts c.self.inside.own c.self.invariant.quorum);
  bests = subst AreBests (sym c.renew.ensures) (bests_renewed c.self.inside.parts c.self.inside.own c.self.invariant.own);
  input = c.self.invariant.input;
  ballot = λ rests. absurd rests;
}

pub invariant_of-self-2 : goal.invariant_of-self-2
invariant_of-self-2 c =
    let some : 0 < c.self.inside.own.mbal = subst (λ (p : BallotIs). 0 < p.own.mbal) (sym c.self.view_is) c.requires in
    let best : IsBlock c.best-best.result = subst IsBlock (sym c.best-best.ensures) (best_block c.self.inside.parts c.self.inside.own c.self.invariant.bests c.self.invariant.own) in
    let finds : c.self.inside.input ≡ None → 0 < c.best-best.result.bal = λ none. elim c.else-best-eq0.branch [
      | else-best-eq0-via-then-best-eq0+else-is_none w ↦ absurd (grind (arith, none, w.if-is_none, w.is_none))
      | else-best-eq0-via-else-best-eq0 w ↦ omega (arith, w.if-best-eq0)
    ] in
    let own : IsBlock c.proposal-self-inside.result = subst IsBlock (sym c.proposal-self-inside.ensures) (forms.proposal_block c.self.inside.own.mbal c.best-best.result c.self.inside.input some c.self.invariant.own.mbal_low best c.self.invariant.input finds) in
    record {
      mount = c.self.invariant.mount;
      own = own;
      quorum = subst (λ (parts : List Part). IsQuorum (length parts) c.self.inside.quorum) (sym c.renew-2.ensures) (quorum_renewed c.self.inside.quorum c.self.inside.parts c.proposal-self-inside.result c.self.invariant.quorum);
      bests = subst AreBests (sym c.renew-2.ensures) (bests_renewed c.self.inside.parts c.proposal-self-inside.result own);
      input = c.self.invariant.input;
      ballot = λ _. subst (λ (b : Block). 0 < b.mbal) (sym c.proposal-self-inside.ensures) some;
    }
