use Rattle.pf_election.specs.Reads.{confirm_by_number}
use Rattle.pf_election.proofs.ConfirmedReads.{IsChanged}
use Rattle.pf_election.proofs.probes.Probes.confirm_each.Given as goal

abbrev pub invariant-loop-place : goal.invariant-loop-place
invariant-loop-place l = IsChanged (confirm_by_number l.number) l.initial.self-inside.reads.items l.self-inside.reads.items l.place l.self-inside.confirmed l.self-inside.in_order
