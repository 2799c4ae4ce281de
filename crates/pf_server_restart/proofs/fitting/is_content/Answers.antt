use Rattle.std.proofs.Common.{subst}
use Rattle.pf_server_restart.specs.Testing.{AreApplied}
use Rattle.pf_server_restart.proofs.fitting.is_content.Goals as goal

pub returns : goal.returns
returns c = (
  λ passes. record {
    log = c.is_log.ensures.0 c.if-not-is_log.false;
    saved = subst (λ base. AreApplied base c.args.tables.now.applied) c.base.ensures.base (c.are_applied.ensures.0 c.if-not-are_applied.false);
    sectors = c.are_chunk.ensures.0 passes;
  },
  λ content. c.are_chunk.ensures.1 content.sectors,
)
