use Rattle.std.proofs.Common.{◌<◌, List, length, sym, subst}
use Rattle.pf_paxos.specs.Blocks.{IsBlock, greatest_mbal}
use Rattle.pf_paxos.specs.Standing.{IsOutrunBy}
use Rattle.pf_paxos.proofs.Forms as forms
use Rattle.pf_paxos.specs.declared.parts.Part.{Part}
use Rattle.pf_paxos.specs.Ballots.{BallotIs}
use Rattle.pf_paxos.specs.BallotStanding.{AreBests, IsQuorum}
use Rattle.pf_paxos.proofs.BallotForms.{bests_with, bests_renewed, quorum_with, quorum_renewed, not_aborted}
use Rattle.pf_paxos.proofs.ballot.Ballot.on_read.Goals as goal

pub invariant_of-self-then-self-greatest : goal.invariant_of-self-then-self-greatest
invariant_of-self-then-self-greatest c =
    let parts = c.put-then-self-greatest.new.self in
    let quorum : IsQuorum (length parts) c.self.inside.quorum = subst (λ (ps : List Part). IsQuorum (length ps) c.self.inside.quorum) (sym c.put-then-self-greatest.ensures) (quorum_with c.self.inside.quorum c.self.inside.parts c.args.anchor c.freed-free.result c.self.invariant.quorum) in
    record {
      mount = c.self.invariant.mount;
      own = c.self.invariant.own;
      quorum = subst (λ (ps : List Part). IsQuorum (length ps) c.self.inside.quorum) (sym c.renew.ensures) (quorum_renewed c.self.inside.quorum parts c.self.inside.own quorum);
      bests = subst AreBests (sym c.renew.ensures) (bests_renewed parts c.self.inside.own c.self.invariant.own);
      input = c.self.invariant.input;
      ballot = λ rests. absurd rests;
    }

pub returns-then-self-greatest-clause-abort : goal.returns-then-self-greatest-clause-abort
returns-then-self-greatest-clause-abort c =
    let outrun : c.self.inside.own.mbal < greatest_mbal c.args.blocks.now = subst (λ n. c.self.inside.own.mbal < n) c.greatest_of-greatest.ensures.value c.if-self-greatest.true in
    let shown : IsOutrunBy c.self.inside.own.mbal c.args.blocks.now c.greatest_of-greatest.result = subst (IsOutrunBy c.self.inside.own.mbal c.args.blocks.now) (sym c.greatest_of-greatest.ensures.value) (forms.outrun_by c.self.inside.own.mbal c.args.blocks.now outrun) in
    subst (λ (p : BallotIs). IsOutrunBy p.own.mbal c.args.blocks.now c.greatest_of-greatest.result) c.self.view_is shown

pub invariant_of-self-2 : goal.invariant_of-self-2
invariant_of-self-2 c =
    let best : IsBlock c.get-part.result.best = subst (λ (x : Part). IsBlock x.best) (sym c.get-part.ensures) (c.self.invariant.bests c.args.anchor) in
    let new : IsBlock c.advanced-part.result.best = subst (λ (x : Part). IsBlock x.best) (sym c.advanced-part.ensures) (forms.best_block c.get-part.result.best c.args.blocks.now best c.requires.forms) in
    record {
      mount = c.self.invariant.mount;
      own = c.self.invariant.own;
      quorum = subst (λ (ps : List Part). IsQuorum (length ps) c.self.inside.quorum) (sym c.put-2.ensures) (quorum_with c.self.inside.quorum c.self.inside.parts c.args.anchor c.advanced-part.result c.self.invariant.quorum);
      bests = subst AreBests (sym c.put-2.ensures) (bests_with c.self.inside.parts c.args.anchor c.advanced-part.result c.self.invariant.bests new);
      input = c.self.invariant.input;
      ballot = c.self.invariant.ballot;
    }

pub returns-clause-abort : goal.returns-clause-abort
returns-clause-abort c = not_aborted c.args.self.now.own.mbal c.args.blocks.now c.pass.result c.pass.ensures.open
