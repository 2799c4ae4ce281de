use Rattle.std.proofs.Common.{◌≡◌, ◌+◌, length, refl, arith}
use Rattle.std.proofs.lemmas.Bool.{false≢true}
use Rattle.std.proofs.lemmas.Result.{err_from_is_err_and}
use Rattle.pf_entry.specs.Sizes.{body_size}
use Rattle.pf_server_memory.proofs.StoredRecords.{added_moves, spelled_len, past, up_to, is_in_doubt}
use Rattle.pf_server_memory.proofs.adding.add_body.Goals as goal

pub returns-then-not-has_room : goal.returns-then-not-has_room
returns-then-not-has_room g c = λ d r whole used_is spelled. record {
  is = refl;
  beyond = past (g.S.Store.model.used c.args.store.now) d.used (length c.args.body.now) (body_size r) (λ fits. false≢true (c.if-not-has_room.ensures.1 fits)) used_is
      (spelled_len (g.S.Store.model.format c.args.store.now) r c.args.body.now spelled);
  same = refl;
}

pub returns-in_err-append : goal.returns-in_err-append
returns-in_err-append g c = λ d r whole used_is spelled.
    let size : length c.args.body.now ≡ body_size r = spelled_len (g.S.Store.model.format c.args.store.now) r c.args.body.now spelled in
    is_in_doubt g.S.Store.model d r (d.used + body_size r) (g.S.Store.model.format c.args.store.now) c.args.store.now c.append.new.self c.from_residual.result
    (err_from_is_err_and c.from_residual.result c.from_residual.ensures.1)
    (record {
      fits = up_to (g.S.Store.model.used c.args.store.now) d.used (length c.args.body.now) (body_size r) (c.if-not-has_room.ensures.0 refl) used_is size;
      moved = added_moves d r spelled.added;
      either = c.in_err-append.ensures.err d r whole spelled;
      told_same = c.append.ensures.told;
      crash = c.append.ensures.any_moment d r whole spelled;
      cause = c.in_err-append.ensures.cause;
    })

pub returns : goal.returns
returns g c = λ d r whole used_is spelled.
    let size : length c.args.body.now ≡ body_size r = spelled_len (g.S.Store.model.format c.args.store.now) r c.args.body.now spelled in
    record {
      fits = up_to (g.S.Store.model.used c.args.store.now) d.used (length c.args.body.now) (body_size r) (c.if-not-has_room.ensures.0 refl) used_is size;
      recorded = c.in_ok-append.ensures.ok d r whole spelled;
      used_is = omega (arith, c.in_ok-append.ensures.used, used_is, size);
      format_is = c.in_ok-append.ensures.format;
      told_same = c.append.ensures.told;
      crash = c.append.ensures.any_moment d r whole spelled;
    }
