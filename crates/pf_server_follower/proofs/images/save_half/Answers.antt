use Rattle.std.proofs.Common.{refl}
use Rattle.std.proofs.lemmas.Result.{err_from_is_err_and}
use Rattle.pf_entry.specs.Records.{image_of}
use Rattle.pf_protocol.specs.Outcomes.{nothing}
use Rattle.pf_protocol.specs.declared.answers.Answer.TheVariants.{Done}
use Rattle.pf_server_memory.proofs.StepEnds.{saved_then, unsaved}
use Rattle.pf_server_memory.proofs.Images.{generation_low, life_low}
use Rattle.pf_server_follower.proofs.SavedHalves.{begun_followed, is_image_of, record_of, taken, taken_saved}
use Rattle.pf_server_follower.proofs.images.save_half.Goals as goal

pub save-requires : goal.save-requires
save-requires g c =
    let d = c.requires.stands.0 in
    let cached = c.requires.stands.1.cached in
    let r = image_of (record_of d c.args.me.now c.args.term c.args.base c.args.half cached c.requires.half) in
    record { whole = (d, c.requires.stands.1.recorded, (r, is_image_of d c.args.me.now c.args.term c.args.base c.args.half cached c.requires.half c.deref.result.now c.deref.ensures.value)) }

pub returns-in_err-save : goal.returns-in_err-save
returns-in_err-save g c = λ d out stands fresh.
    let me = c.args.me.now in
    let r = image_of (record_of d me c.args.term c.args.base c.args.half stands.cached c.requires.half) in
    let body = is_image_of d me c.args.term c.args.base c.args.half stands.cached c.requires.half c.deref.result.now c.deref.ensures.value in
    unsaved g.S.Store.model d c.args.store.now c.save.new.store me out
    (nothing (taken d me c.args.term c.args.base c.args.half)) r stands (taken_saved d me c.args.term c.args.base c.args.half stands.cached c.requires.half)
    c.in_err-save.field-0.0 c.save.result c.from_residual.result (c.save.ensures d r stands.recorded body) c.in_err-save.was (err_from_is_err_and c.from_residual.result c.from_residual.ensures.1)

pub begin-requires-clause-life : goal.begin-requires-clause-life
begin-requires-clause-life g c = life_low c.args.me.now c.requires.bounded

pub begin-requires-clause-generation : goal.begin-requires-clause-generation
begin-requires-clause-generation g c = generation_low c.args.me.now c.requires.bounded

pub returns : goal.returns
returns g c = λ d out stands fresh.
    let me = c.args.me.now in
    let r = image_of (record_of d me c.args.term c.args.base c.args.half stands.cached c.requires.half) in
    let body = is_image_of d me c.args.term c.args.base c.args.half stands.cached c.requires.half c.deref.result.now c.deref.ensures.value in
    saved_then g.S.Store.model d c.args.store.now c.save.new.store me out
    (nothing (taken d me c.args.term c.args.base c.args.half)) r stands (taken_saved d me c.args.term c.args.base c.args.half stands.cached c.requires.half)
    c.begin.new.me Done (c.in_ok-save.ensures d r stands.recorded body) (begun_followed d me c.args.term c.args.base c.args.half stands.cached c.requires.half c.begin.new.me c.begin.ensures) refl fresh
