use Rattle.std.proofs.Common.{arith, length, sym, ap, subst}
use Rattle.pf_election.specs.Reads.{IsReadAt}
use Rattle.pf_election.proofs.probes.Probes.at.Goals as goal

pub index-requires : goal.index-requires
index-requires c = omega (arith, c.requires, ap length c.self.view_is, c.self.inside.reads.ok.0)

pub returns : goal.returns
returns c = subst (λ reads. IsReadAt reads c.args.place c.index.result.now) c.self.view_is (sym c.index.ensures)
