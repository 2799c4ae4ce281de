use Rattle.std.proofs.Common.{Ok}
use Rattle.pf_script.proofs.Ranges.{given, few_after}
use Rattle.pf_script.proofs.reader.Reader.line.Goals as goal

pub invariant_of-self : goal.invariant_of-self
invariant_of-self c =
    let suits = given c.self.inside.named c.args.line.now (Ok c.in_ok-command.command) c.self.invariant c.in_ok-command.ensures in
    rw c.named_after-self-inside.ensures (few_after _ c.in_ok-command.command c.self.invariant suits.somewhere)

pub returns-clause-ranges : goal.returns-clause-ranges
returns-clause-ranges c = (given c.self.inside.named c.args.line.now (Ok c.in_ok-command.command) c.self.invariant c.in_ok-command.ensures).somewhere

pub returns-clause-fits : goal.returns-clause-fits
returns-clause-fits c = rw c.named_after-self-inside.ensures (given c.self.inside.named c.args.line.now (Ok c.in_ok-command.command) c.self.invariant c.in_ok-command.ensures).here
