use Rattle.std.proofs.Common.{◌∙◌, sym}
use Rattle.pf_entry.specs.Records.{stored}
use Rattle.pf_image.specs.Pairs.{format_of}
use Rattle.pf_disk_store.proofs.States.{change_body, change_differs, is_change, raw_of}
use Rattle.pf_disk_store.proofs.Pairs.{append_leaves, appended, has_one, in_doubt, kept_in, tells_as}
use Rattle.pf_disk_store.proofs.kept.KeptStore.append.Goals as goal

pub append-requires-clause-body : goal.append-requires-clause-body
append-requires-clause-body g c = (raw_of c.requires.record.0, change_body (format_of c.args.self.now.pair) c.requires.record.0 c.args.body.now c.requires.record.1)

pub returns-in-Ok-clause-ok : goal.returns-in-Ok-clause-ok
returns-in-Ok-clause-ok g c = λ d r kept is.
    let format = format_of c.args.self.now.pair in
    kept_in g.D.Disk.seen g.D.Disk.may_leave c.append.new.self (stored d r) c.in-Ok.ensures.ready (λ tells_it.
    let told_it = sym (tells_as g.D.Disk.seen g.D.Disk.may_leave c.args.self.now.pair c.append.new.self c.append.ensures.told_zero c.append.ensures.told_one) ∙ tells_it in
    appended g.D.Disk.seen g.D.Disk.may_leave c.args.self.now.pair c.append.new.self d r c.args.body.now c.append.ensures.format (has_one g.D.Disk.seen g.D.Disk.may_leave c.args.self.now.pair d kept told_it) is
    (λ records whole. c.in-Ok.ensures.acknowledged (raw_of r) records (change_body format r c.args.body.now is) (is_change format r c.args.body.now is) whole))

pub returns-in-Ok-clause-any_moment : goal.returns-in-Ok-clause-any_moment
returns-in-Ok-clause-any_moment g c = λ d r kept is. record {
  head = c.append.ensures.head;
  later = c.append.ensures.later;
  left = λ tells_moments tells_it.
      let format = format_of c.args.self.now.pair in
      append_leaves g.D.Disk.seen g.D.Disk.may_leave c.args.self.now.pair d r c.args.body.now c.args.self.now.pair.head (g.D.Disk.left_since c.append.new.self.zero.disk (g.D.Disk.moment c.args.self.now.pair.zero.disk)) (g.D.Disk.left_since c.append.new.self.one.disk (g.D.Disk.moment c.args.self.now.pair.one.disk))
      (has_one g.D.Disk.seen g.D.Disk.may_leave c.args.self.now.pair d kept tells_it) is (λ records whole. c.append.ensures.any_moment tells_moments (raw_of r) records (change_body format r c.args.body.now is) (is_change format r c.args.body.now is) whole);
}

pub returns-in-Err-DiskFault-clause-any_moment : goal.returns-in-Err-DiskFault-clause-any_moment
returns-in-Err-DiskFault-clause-any_moment g c = λ d r kept is. record {
  head = c.append.ensures.head;
  later = c.append.ensures.later;
  left = λ tells_moments tells_it.
      let format = format_of c.args.self.now.pair in
      append_leaves g.D.Disk.seen g.D.Disk.may_leave c.args.self.now.pair d r c.args.body.now c.args.self.now.pair.head (g.D.Disk.left_since c.append.new.self.zero.disk (g.D.Disk.moment c.args.self.now.pair.zero.disk)) (g.D.Disk.left_since c.append.new.self.one.disk (g.D.Disk.moment c.args.self.now.pair.one.disk))
      (has_one g.D.Disk.seen g.D.Disk.may_leave c.args.self.now.pair d kept tells_it) is (λ records whole. c.append.ensures.any_moment tells_moments (raw_of r) records (change_body format r c.args.body.now is) (is_change format r c.args.body.now is) whole);
}

pub returns-in-Err-DiskFault-clause-err : goal.returns-in-Err-DiskFault-clause-err
returns-in-Err-DiskFault-clause-err g c = λ d r kept is.
    let format = format_of c.args.self.now.pair in
    in_doubt g.D.Disk.seen g.D.Disk.may_leave c.append.new.self d (stored d r) (change_differs format r c.args.body.now d is) (λ tells_it.
    let told_it = sym (tells_as g.D.Disk.seen g.D.Disk.may_leave c.args.self.now.pair c.append.new.self c.append.ensures.told_zero c.append.ensures.told_one) ∙ tells_it in
    append_leaves g.D.Disk.seen g.D.Disk.may_leave c.args.self.now.pair d r c.args.body.now c.append.new.self.head (g.D.Disk.may_leave c.append.new.self.zero.disk) (g.D.Disk.may_leave c.append.new.self.one.disk)
    (has_one g.D.Disk.seen g.D.Disk.may_leave c.args.self.now.pair d kept told_it) is (λ records whole. c.append.ensures.doubt (raw_of r) records (change_body format r c.args.body.now is) (is_change format r c.args.body.now is) whole))
