use Rattle.std.proofs.Common.{◌≡◌, ◌<◌, ◌^◌, max, List, length, arith, sym, ap, subst, ◌∙◌}
use Rattle.pf_paxos.specs.declared.block.Block.{Block}
use Rattle.pf_paxos.specs.declared.parts.Part.{Part}
use Rattle.pf_paxos.specs.Blocks.{IsBlock, ballot_after}
use Rattle.pf_paxos.specs.Ballots.{BallotIs}
use Rattle.pf_paxos.specs.BallotStanding.{AreBests, IsQuorum}
use Rattle.pf_paxos.proofs.Steady.{next_ballot}
use Rattle.pf_paxos.proofs.BallotForms.{bests_renewed, quorum_renewed}
use Rattle.pf_paxos.proofs.ballot.Ballot.start.Goals as goal

pub invariant_of-self : goal.invariant_of-self
invariant_of-self c =
    let own : Block = record { mbal = c.ballot_above-self-inside.result; bal = c.self.inside.own.bal; value = c.self.inside.own.value } in
    let is : own.mbal ≡ ballot_after c.self.inside.mount (max c.args.above c.self.inside.own.mbal) = c.ballot_above-self-inside.ensures ∙ ap (ballot_after c.self.inside.mount) c.max-above.ensures in
    let room : ballot_after c.self.inside.mount (max c.args.above c.self.inside.own.mbal) < 2 ^ 62 = subst (λ (p : BallotIs). ballot_after p.mount (max c.args.above p.own.mbal) < 2 ^ 62) (sym c.self.view_is) c.requires.room in
    let next = next_ballot c.self.inside.mount (max c.args.above c.self.inside.own.mbal) c.self.invariant.mount in
    let form : IsBlock own = record { no_value = c.self.invariant.own.no_value; has_value = c.self.invariant.own.has_value; mbal_low = subst (λ n. n < 2 ^ 62) (sym is) room; bal_low = c.self.invariant.own.bal_low } in
    record {
      mount = c.self.invariant.mount;
      own = form;
      quorum = subst (λ (parts : List Part). IsQuorum (length parts) c.self.inside.quorum) (sym c.renew.ensures) (quorum_renewed c.self.inside.quorum c.self.inside.parts own c.self.invariant.quorum);
      bests = subst AreBests (sym c.renew.ensures) (bests_renewed c.self.inside.parts own form);
      input = c.requires.input;
      ballot = λ _. omega (arith, is, next.1);
    }
