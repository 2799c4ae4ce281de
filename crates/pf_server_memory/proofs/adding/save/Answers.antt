use Rattle.std.proofs.Common.{◌+◌, refl, arith}
use Rattle.std.proofs.lemmas.Result.{err_from_is_err_and}
use Rattle.pf_entry.specs.Sizes.{body_size, empty_half}
use Rattle.pf_server_memory.proofs.StoredRecords.{image_len, image_moves, is_in_doubt}
use Rattle.pf_server_memory.proofs.adding.save.Goals as goal

pub returns-then-body-gt-ROOM : goal.returns-then-body-gt-ROOM
returns-then-body-gt-ROOM g c = λ d r whole is. record {
  is = refl;
  beyond = omega (arith, c.if-body-gt-ROOM.true, image_len d r c.args.body.now is);
  same = refl;
}

pub returns-in_err-save : goal.returns-in_err-save
returns-in_err-save g c = λ d r whole is.
    is_in_doubt g.S.Store.model d r (empty_half + body_size r) 2 c.args.store.now c.save.new.self c.from_residual.result
    (err_from_is_err_and c.from_residual.result c.from_residual.ensures.1)
    (record {
      fits = omega (arith, c.if-body-gt-ROOM.false, image_len d r c.args.body.now is);
      moved = image_moves d r c.args.body.now is;
      either = c.in_err-save.ensures.err d r whole is;
      told_same = c.save.ensures.told;
      crash = c.save.ensures.any_moment d r whole is;
      cause = c.in_err-save.ensures.cause;
    })

pub returns : goal.returns
returns g c = λ d r whole is. record {
  fits = omega (arith, c.if-body-gt-ROOM.false, image_len d r c.args.body.now is);
  recorded = c.in_ok-save.ensures.ok d r whole is;
  used_is = omega (arith, c.in_ok-save.ensures.used, image_len d r c.args.body.now is);
  format_is = c.in_ok-save.ensures.format;
  told_same = c.save.ensures.told;
  crash = c.save.ensures.any_moment d r whole is;
}
