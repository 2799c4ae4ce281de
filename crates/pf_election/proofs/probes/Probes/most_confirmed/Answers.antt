use Rattle.std.proofs.Common.{◌≤◌, List, map, arith, subst}
use Rattle.pf_election.specs.declared.probes.ProbedRead.{ProbedRead}
use Rattle.pf_election.specs.Reads.{confirm_by_number, confirmed_in}
use Rattle.pf_election.proofs.ConfirmedReads.{all_at_most, one_more}
use Rattle.pf_election.proofs.ConfirmedCounts.{few_confirmed}
use Rattle.pf_election.proofs.probes.Probes.most_confirmed.Goals as goal

pub overflow_add-self-inside : goal.overflow_add-self-inside
overflow_add-self-inside c = omega (arith, few_confirmed c.self.inside.reads.items, c.self.invariant.counted, c.self.inside.reads.ok.0, c.self.inside.reads.small)

pub returns-then-self : goal.returns-then-self
returns-then-self c number =
    let reads = c.self.inside.reads.items in
    subst (λ (rs : List ProbedRead). confirmed_in (map (confirm_by_number number) rs) ≤ c.min.result) c.self.view_is
    (omega (arith, one_more number reads (c.self.invariant.order c.if-self.true), all_at_most number reads, c.self.invariant.counted, c.len-all.ensures, c.min.ensures, c.self.inside.reads.ok.0))

pub returns : goal.returns
returns c number =
    let reads = c.self.inside.reads.items in
    subst (λ (rs : List ProbedRead). confirmed_in (map (confirm_by_number number) rs) ≤ c.len-all.result) c.self.view_is
    (omega (arith, all_at_most number reads, c.len-all.ensures, c.self.inside.reads.ok.0))
