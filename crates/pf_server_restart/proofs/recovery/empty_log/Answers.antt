use Rattle.pf_server_restart.proofs.RecordReads.{none_trimmed}
use Rattle.pf_server_restart.proofs.recovery.empty_log.Goals as goal

pub returns : goal.returns
returns c = none_trimmed c.in_ok-log.log c.trim.new.self c.args.base c.in_ok-log.ensures c.trim.ensures
