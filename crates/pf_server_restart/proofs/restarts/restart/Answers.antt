use Rattle.std.proofs.Common.{◌∙◌, ap, subst, sym}
use Rattle.std.specs.Option.{option_map}
use Rattle.std.proofs.lemmas.Result.{err_from_is_err_and}
use Rattle.pf_protocol.specs.Saving.{renewed}
use Rattle.pf_server_restart.specs.Beginning.{setup_of_seat}
use Rattle.pf_server_restart.specs.Reviving.{IsImageFor, Lives}
use Rattle.pf_server_restart.specs.declared.faults.RestartFault.TheVariants.{NotOurs, SaveHalted}
use Rattle.pf_server_restart.specs.declared.reading.HalfReading.{HalfReading}
use Rattle.pf_server_restart.proofs.NextImages.{begun_so}
use Rattle.pf_server_restart.proofs.RestartedStores.{begun_anew, found_format, may_either, passed_on, read_so}
use Rattle.pf_server_restart.proofs.restarts.restart.Goals as goal

pub revive-requires-clause-stands : goal.revive-requires-clause-stands
revive-requires-clause-stands g c = let w = c.in_ok-found.ensures.whole in (w.0, w.1)

pub returns-in_err-me-clause-ours : goal.returns-in_err-me-clause-ours
returns-in_err-me-clause-ours g c = λ told before after has first second is.
    let f = c.in_ok-found.ensures.found told before after has in
    let came = passed_on c.from_residual-in_err-me.result NotOurs c.in_err-me.field-0.0 (err_from_is_err_and c.from_residual-in_err-me.result c.from_residual-in_err-me.ensures.1) is in
    c.in_err-me.ensures.ours came f.0 f.2 (may_either (setup_of_seat c.args.seat.now) before after f.0 f.1 first second)

pub returns-in_err-me-clause-unfit : goal.returns-in_err-me-clause-unfit
returns-in_err-me-clause-unfit g c = λ is told before after has.
    let f = c.in_ok-found.ensures.found told before after has in
    let came = passed_on c.from_residual-in_err-me.result NotOurs c.in_err-me.field-0.0 (err_from_is_err_and c.from_residual-in_err-me.result c.from_residual-in_err-me.ensures.1) is in
    record { d = f.0; either = f.1; there = f.3; unfit = c.in_err-me.ensures.unfit came f.0 f.2 }

pub image_for-requires : goal.image_for-requires
image_for-requires g c =
    let w = c.in_ok-found.ensures.whole in
    let both = c.in_ok-me.ensures.begun w.0 w.1 in
    (w.0, record { seat = c.args.seat.now; life = c.args.life; made = c.requires.seat; revived = both.0; early = both.1 })

pub renew-requires-clause-lives : goal.renew-requires-clause-lives
renew-requires-clause-lives g c =
    let w = c.in_ok-found.ensures.whole in
    let both = c.in_ok-me.ensures.begun w.0 w.1 in
    (w.0, subst (λ s. g.S.Store.model.holds s w.0 w.0) (sym c.resume.ensures.resumed) w.2, record { seat = c.args.seat.now; life = c.args.life; made = c.requires.seat; revived = both.0; early = both.1 })

pub renew-requires-clause-image : goal.renew-requires-clause-image
renew-requires-clause-image g c = subst (λ f. IsImageFor c.in_ok-me.me f (option_map (λ body. body.items) c.in_ok-image.image)) (sym (ap g.S.Store.model.format c.resume.ensures.resumed ∙ c.in_ok-found.ensures.state.1)) c.in_ok-image.ensures

pub returns-in_err-renew-clause-unsaved : goal.returns-in_err-renew-clause-unsaved
returns-in_err-renew-clause-unsaved g c = λ reading halted told before after has.
    let f = c.in_ok-found.ensures.found told before after has in
    let came = passed_on c.from_residual-in_err-renew.result (SaveHalted reading) c.in_err-renew.field-0.0 (err_from_is_err_and c.from_residual-in_err-renew.result c.from_residual-in_err-renew.ensures.1) halted in
    let both = c.in_ok-me.ensures.begun f.0 f.2 in
    let lives : Lives f.0 c.in_ok-me.me = record { seat = c.args.seat.now; life = c.args.life; made = c.requires.seat; revived = both.0; early = both.1 } in
    let there = subst (λ s. g.S.Store.model.holds s f.0 f.0) (sym c.resume.ensures.resumed) f.3 in
    let same = read_so reading _ c.in_err-renew.field-0.0 c.in_err-renew.ensures.fault came in (
      f.0,
      f.1,
      record { used = ap (λ (r : HalfReading). r.used) same ∙ f.2.used; generation = ap (λ (r : HalfReading). r.generation) same ∙ both.0.cached.generation },
      c.in_err-renew.ensures.halted f.0 there lives (ap g.S.Store.model.format c.resume.ensures.resumed ∙ c.in_ok-found.ensures.state.1 ∙ found_format c.in_ok-found.found f.0 f.2),
    )

pub returns-in_err-renew-clause-unsaved_any : goal.returns-in_err-renew-clause-unsaved_any
returns-in_err-renew-clause-unsaved_any g c = λ reading halted.
    let w = c.in_ok-found.ensures.whole in
    let both = c.in_ok-me.ensures.begun w.0 w.1 in
    let lives : Lives w.0 c.in_ok-me.me = record { seat = c.args.seat.now; life = c.args.life; made = c.requires.seat; revived = both.0; early = both.1 } in
    let there = subst (λ s. g.S.Store.model.holds s w.0 w.0) (sym c.resume.ensures.resumed) w.2 in
    (w.0, both.0.begun, c.in_err-renew.ensures.halted w.0 there lives (ap g.S.Store.model.format c.resume.ensures.resumed ∙ c.in_ok-found.ensures.state.1 ∙ found_format c.in_ok-found.found w.0 w.1))

pub returns-in_err-renew-clause-any_moment : goal.returns-in_err-renew-clause-any_moment
returns-in_err-renew-clause-any_moment g c = λ told before after has.
    let f = c.in_ok-found.ensures.found told before after has in
    let both = c.in_ok-me.ensures.begun f.0 f.2 in
    let lives : Lives f.0 c.in_ok-me.me = record { seat = c.args.seat.now; life = c.args.life; made = c.requires.seat; revived = both.0; early = both.1 } in
    let there = subst (λ s. g.S.Store.model.holds s f.0 f.0) (sym c.resume.ensures.resumed) f.3 in
    begun_anew g.S.Store.model.was before after f.0 c.args.store.now c.resume.new.self c.renew.new.store (c.resume.ensures.any_moment c.args.store.now before after (c.find.ensures.any_moment before after has)) f.1
    (c.renew.ensures.any_moment f.0 there lives (ap g.S.Store.model.format c.resume.ensures.resumed ∙ c.in_ok-found.ensures.state.1 ∙ found_format c.in_ok-found.found f.0 f.2))

pub returns-clause-begun : goal.returns-clause-begun
returns-clause-begun g c =
    let w = c.in_ok-found.ensures.whole in
    let state = c.in_ok-found.ensures.state in
    let both = c.in_ok-me.ensures.begun w.0 w.1 in
    let there = subst (λ s. g.S.Store.model.holds s w.0 w.0) (sym c.resume.ensures.resumed) w.2 in (
      renewed w.0,
      c.in_ok-renew.ensures.saved w.0 c.args.seat.now c.args.life c.requires.seat
          (begun_so g.S.Store.model w.0 c.resume.new.self c.in_ok-me.me c.args.seat.now c.args.life both.0 there (ap g.S.Store.model.used c.resume.ensures.resumed ∙ state.0 ∙ w.1.used) (ap g.S.Store.model.format c.resume.ensures.resumed ∙ state.1 ∙ found_format c.in_ok-found.found w.0 w.1)),
    )

pub returns-clause-found : goal.returns-clause-found
returns-clause-found g c = λ told before after has.
    let f = c.in_ok-found.ensures.found told before after has in
    let state = c.in_ok-found.ensures.state in
    let both = c.in_ok-me.ensures.begun f.0 f.2 in
    let there = subst (λ s. g.S.Store.model.holds s f.0 f.0) (sym c.resume.ensures.resumed) f.3 in (
      f.0,
      f.1,
      record { used = f.2.used; generation = both.0.cached.generation },
      c.in_ok-renew.ensures.saved f.0 c.args.seat.now c.args.life c.requires.seat
          (begun_so g.S.Store.model f.0 c.resume.new.self c.in_ok-me.me c.args.seat.now c.args.life both.0 there (ap g.S.Store.model.used c.resume.ensures.resumed ∙ state.0 ∙ f.2.used) (ap g.S.Store.model.format c.resume.ensures.resumed ∙ state.1 ∙ found_format c.in_ok-found.found f.0 f.2)),
    )

pub returns-clause-any_moment : goal.returns-clause-any_moment
returns-clause-any_moment g c = λ told before after has.
    let f = c.in_ok-found.ensures.found told before after has in
    let both = c.in_ok-me.ensures.begun f.0 f.2 in
    let lives : Lives f.0 c.in_ok-me.me = record { seat = c.args.seat.now; life = c.args.life; made = c.requires.seat; revived = both.0; early = both.1 } in
    let there = subst (λ s. g.S.Store.model.holds s f.0 f.0) (sym c.resume.ensures.resumed) f.3 in
    begun_anew g.S.Store.model.was before after f.0 c.args.store.now c.resume.new.self c.renew.new.store (c.resume.ensures.any_moment c.args.store.now before after (c.find.ensures.any_moment before after has)) f.1
    (c.renew.ensures.any_moment f.0 there lives (ap g.S.Store.model.format c.resume.ensures.resumed ∙ c.in_ok-found.ensures.state.1 ∙ found_format c.in_ok-found.found f.0 f.2))
