use Rattle.std.proofs.Common.{◌≡◌, List, ℕ, ◌++◌, IfSome, subst}
use Rattle.pf_report.specs.Texts.{answer_text, report_line}
use Rattle.pf_run.proofs.VolumeMaking.{not_opened, opened, untold}
use Rattle.pf_run_lines.proofs.WriteFaults.{done_of}
use Rattle.pf_run.proofs.lines.open.Goals as goal

pub returns-then-is_err-clause-back : goal.returns-then-is_err-clause-back
returns-then-is_err-clause-back g c =
    let v = c.in-Volume in
    untold g.D.Disk.seen g.D.Disk.may_leave g.D.Disk.faults g.D.Disk.moment g.D.Disk.left_since g.D.Disk.tells g.D.Disk.tells_moments c.args.line.now v.chunks v.sectors v.names v.format v.is c.requires.volume c.in-Ok.answer c.in-Ok.world c.args.disks.items c.close.result.items
    c.in-Ok.ensures.made c.in-Ok.ensures.fresh c.in-Ok.ensures.spare c.requires.disks c.close.ensures

pub returns-else-is_err-clause-opened : goal.returns-else-is_err-clause-opened
returns-else-is_err-clause-opened g c =
    let v = c.in-Volume in
    let out = c.put_answer.new.out.items in
    let says = λ (before : List ℕ). IfSome (answer_text c.in-Ok.answer) (λ text. out ≡ before ++ report_line c.args.line.now.number text) in
    opened g.D.Disk.seen g.D.Disk.may_leave g.D.Disk.faults g.D.Disk.moment g.D.Disk.left_since g.D.Disk.tells g.D.Disk.tells_moments c.args.line.now v.chunks v.sectors v.names v.format v.is c.requires.volume out c.in-Ok.answer c.args.disks.items c.in-Ok.world
    c.in-Ok.ensures.made c.in-Ok.ensures.sound c.in-Ok.ensures.fresh c.in-Ok.ensures.spare
    (subst says c.new-text.ensures.items (done_of c.put_answer.result (says c.new-text.result.items) c.if-is_err.ensures.value c.put_answer.ensures.ok))

pub returns-in-Err-clause-back : goal.returns-in-Err-clause-back
returns-in-Err-clause-back g c =
    let v = c.in-Volume in
    not_opened g.D.Disk.seen g.D.Disk.may_leave g.D.Disk.faults g.D.Disk.moment g.D.Disk.left_since g.D.Disk.tells g.D.Disk.tells_moments c.args.line.now v.chunks v.sectors v.names v.format v.is c.requires.volume c.args.disks.items c.in-Err.disks.items c.in-Err.ensures.back
