use Rattle.std.proofs.Common.{List, IsNone}
use Rattle.pf_chunklog.specs.Records.{Raw}
use Rattle.pf_chunklog.proofs.Steps.{if_some, told}
use Rattle.pf_image.specs.Found.{HalfIsFound}
use Rattle.pf_image.specs.Recovery.{IsRecoverable}
use Rattle.pf_image.proofs.LoadedHalves.{found_of, none_found}
use Rattle.pf_image.proofs.recovery.find_half.Goals as goal

pub returns-clause-some : goal.returns-clause-some
returns-clause-some g c = if_some c.in_ok-found.found (HalfIsFound g.D.Disk.seen g.D.Disk.may_leave c.args.head.now c.args.half c.args.log.now.disk c.read_half.new.log.disk) (λ found is.
    let sound = told c.in_ok-found.found found _ is c.in_ok-found.ensures.some in
    found_of g.D.Disk.seen g.D.Disk.may_leave c.args.head.now c.args.half c.args.log.now.disk c.read_half.new.log.disk c.in_ok-read.read found sound.0 sound.1 c.in_ok-read.ensures.some c.in_ok-read.ensures.listed c.in_ok-read.ensures.size)

pub returns-clause-none : goal.returns-clause-none
returns-clause-none g c = if_some (g.D.Disk.seen c.args.log.now.disk) (λ file. IsNone c.in_ok-found.found → (records : List Raw) → IsRecoverable c.args.head.now c.args.half file records → ⊥) (λ file is none records found.
    none_found c.args.head.now c.args.half file (g.D.Disk.may_leave c.read_half.new.log.disk) c.in_ok-read.read (told _ file _ is c.in_ok-read.ensures.some) c.in_ok-read.ensures.listed (told _ file _ is c.in_ok-read.ensures.none)
    (c.in_ok-found.ensures.none none) records found)
