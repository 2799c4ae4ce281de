use Rattle.std.proofs.Common.{refl}
use Rattle.std.proofs.lemmas.Bool.{false≢true}
use Rattle.pf_protocol.specs.Fitting.{NameFits}
use Rattle.pf_server_restart.specs.Beginning.{setup_of_seat}
use Rattle.pf_server_restart.proofs.StateTests.{each_after, refuted, rest_each, split_each}
use Rattle.pf_server_restart.proofs.fitting.are_names.Goals as goal

pub loop-named-init : goal.loop-named-init
loop-named-init c = record { rest = (λ each. each, λ each. each) }

pub returns-then-not-is_name : goal.returns-then-not-is_name
returns-then-not-is_name c = (
  λ passes. absurd (false≢true passes),
  λ each. absurd (refuted c.is_name.ensures c.if-not-is_name.true (split_each (NameFits (setup_of_seat c.args.seat.now) c.args.slot) c.args.look.now c.loop-named.named-index c.named-item.result c.loop-named-test.true c.named-item.is (c.loop-named.invariant.rest.1 each)).0),
)

pub loop-named-preserved : goal.loop-named-preserved
loop-named-preserved c = record {
  rest = rest_each (NameFits (setup_of_seat c.args.seat.now) c.args.slot) c.args.look.now c.loop-named.named-index c.named-item.result c.loop-named-test.true c.named-item.is (c.is_name.ensures.0 c.if-not-is_name.false) c.loop-named.invariant.rest;
}

pub returns : goal.returns
returns c = (λ _. c.loop-named.invariant.rest.0 (each_after (NameFits (setup_of_seat c.args.seat.now) c.args.slot) c.args.look.now c.loop-named.named-index c.loop-named-test.false), λ _. refl)
