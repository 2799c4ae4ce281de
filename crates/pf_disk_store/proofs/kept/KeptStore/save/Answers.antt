use Rattle.std.proofs.Common.{◌∙◌, sym}
use Rattle.pf_entry.specs.Records.{stored}
use Rattle.pf_disk_store.proofs.States.{image_body, image_differs, raw_of}
use Rattle.pf_disk_store.proofs.Pairs.{has_one, in_doubt, kept_in, save_leaves, saved, tells_as}
use Rattle.pf_disk_store.proofs.kept.KeptStore.save.Goals as goal

pub save-requires-clause-body : goal.save-requires-clause-body
save-requires-clause-body g c =
    let image = c.requires.whole.2 in
    (raw_of image.0, image_body c.requires.whole.0 image.0 c.args.body.now image.1)

pub returns-in-Ok-clause-ok : goal.returns-in-Ok-clause-ok
returns-in-Ok-clause-ok g c = λ d r kept is.
    kept_in g.D.Disk.seen g.D.Disk.may_leave c.save.new.self (stored d r) c.in-Ok.ensures.ready (λ tells_it.
    let told_it = sym (tells_as g.D.Disk.seen g.D.Disk.may_leave c.args.self.now.pair c.save.new.self c.save.ensures.told_zero c.save.ensures.told_one) ∙ tells_it in
    saved g.D.Disk.seen g.D.Disk.may_leave c.args.self.now.pair c.save.new.self d r c.args.body.now c.in-Ok.ensures.format (has_one g.D.Disk.seen g.D.Disk.may_leave c.args.self.now.pair d kept told_it) is
    (λ records next whole. c.in-Ok.ensures.saved (raw_of r) records (image_body d r c.args.body.now is) next whole))

pub returns-in-Ok-clause-any_moment : goal.returns-in-Ok-clause-any_moment
returns-in-Ok-clause-any_moment g c = λ d r kept is. record {
  head = c.save.ensures.head;
  later = c.save.ensures.later;
  left = λ tells_moments tells_it.
      save_leaves g.D.Disk.seen g.D.Disk.may_leave c.args.self.now.pair d r c.args.body.now c.args.self.now.pair.head (g.D.Disk.left_since c.save.new.self.zero.disk (g.D.Disk.moment c.args.self.now.pair.zero.disk)) (g.D.Disk.left_since c.save.new.self.one.disk (g.D.Disk.moment c.args.self.now.pair.one.disk))
      (has_one g.D.Disk.seen g.D.Disk.may_leave c.args.self.now.pair d kept tells_it) is (λ records next whole. c.save.ensures.any_moment tells_moments (raw_of r) records (image_body d r c.args.body.now is) next whole);
}

pub returns-in-Err-clause-any_moment : goal.returns-in-Err-clause-any_moment
returns-in-Err-clause-any_moment g c = λ d r kept is. record {
  head = c.save.ensures.head;
  later = c.save.ensures.later;
  left = λ tells_moments tells_it.
      save_leaves g.D.Disk.seen g.D.Disk.may_leave c.args.self.now.pair d r c.args.body.now c.args.self.now.pair.head (g.D.Disk.left_since c.save.new.self.zero.disk (g.D.Disk.moment c.args.self.now.pair.zero.disk)) (g.D.Disk.left_since c.save.new.self.one.disk (g.D.Disk.moment c.args.self.now.pair.one.disk))
      (has_one g.D.Disk.seen g.D.Disk.may_leave c.args.self.now.pair d kept tells_it) is (λ records next whole. c.save.ensures.any_moment tells_moments (raw_of r) records (image_body d r c.args.body.now is) next whole);
}

pub returns-in-Err-clause-err : goal.returns-in-Err-clause-err
returns-in-Err-clause-err g c = λ d r kept is.
    in_doubt g.D.Disk.seen g.D.Disk.may_leave c.save.new.self d (stored d r) (image_differs d r c.args.body.now is) (λ tells_it.
    let told_it = sym (tells_as g.D.Disk.seen g.D.Disk.may_leave c.args.self.now.pair c.save.new.self c.save.ensures.told_zero c.save.ensures.told_one) ∙ tells_it in
    save_leaves g.D.Disk.seen g.D.Disk.may_leave c.args.self.now.pair d r c.args.body.now c.save.new.self.head (g.D.Disk.may_leave c.save.new.self.zero.disk) (g.D.Disk.may_leave c.save.new.self.one.disk)
    (has_one g.D.Disk.seen g.D.Disk.may_leave c.args.self.now.pair d kept told_it) is (λ records next whole. c.save.ensures.doubt (raw_of r) records (image_body d r c.args.body.now is) next whole))
