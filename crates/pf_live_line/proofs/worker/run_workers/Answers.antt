use denote.Param.Send.{sendable}
use Rattle.pf_live_line.proofs.SendableParts.{line_sync, worker_send}
use Rattle.pf_live_line.proofs.worker.run_workers.Goals as goal

pub run_all-requires-send-T : goal.run_all-requires-send-T
run_all-requires-send-T g c κs within = let s = worker_send _ g.D.Disk c.type_bounds.send-D in search sendable depth 30

pub run_all-requires-sync-C : goal.run_all-requires-sync-C
run_all-requires-sync-C g c κs within = let s = line_sync _ _ g.D.Disk c.type_bounds.send-D c.type_bounds.sync-G in search sendable depth 30
