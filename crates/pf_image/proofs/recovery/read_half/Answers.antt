use Rattle.pf_chunklog.proofs.Steps.{if_some, told}
use Rattle.pf_image.proofs.Files.{err_of, is_listed}
use Rattle.pf_image.proofs.recovery.read_half.Goals as goal

pub returns-in-Err-NotOurs-clause-none : goal.returns-in-Err-NotOurs-clause-none
returns-in-Err-NotOurs-clause-none g c = if_some (g.D.Disk.seen c.args.log.now.disk) _ (λ file is _ records found.
    told _ file _ is c.in-Err-NotOurs.ensures.not_ours (err_of _ _ c.in-Err-NotOurs.field-0-is) _ (is_listed c.args.head.now c.head-first.result c.head-second.result c.args.half found.format c.head-first.ensures c.head-second.ensures found.known) (records, found.held))
