use Rattle.pf_server_restart.specs.Recovering.{state_in}
use Rattle.pf_server_restart.proofs.StateTests.{all_judged, not_content, refuted}
use Rattle.pf_server_restart.proofs.fitting.fits.Goals as goal

pub returns-then-not-is_content : goal.returns-then-not-is_content
returns-then-not-is_content c = not_content c.args.seat.now (state_in c.args.tables.now) (refuted c.is_content.ensures c.if-not-is_content.true)

pub returns : goal.returns
returns c =
    all_judged c.args.seat.now (state_in c.args.tables.now) c.are_starts.result (c.are_numbers.ensures.0 c.if-not-are_numbers.false) (c.is_content.ensures.0 c.if-not-is_content.false) c.are_starts.ensures
