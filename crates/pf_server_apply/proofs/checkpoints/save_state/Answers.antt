use Rattle.std.proofs.Common.{◌∙◌, Ok, ap, refl, sym}
use Rattle.std.proofs.lemmas.Result.{err_from_is_err_and}
use Rattle.pf_entry.specs.Records.{image_of}
use Rattle.pf_protocol.specs.Outcomes.{only_answers}
use Rattle.pf_protocol.specs.declared.answers.Answer.TheVariants.{Base as BaseIs}
use Rattle.pf_server_memory.proofs.StepEnds.{reworded, saved_then, unsaved}
use Rattle.pf_server_memory.proofs.Images.{generation_low}
use Rattle.pf_server_apply.specs.Saving.{state_saved_at}
use Rattle.pf_server_apply.proofs.SavedCheckpoints.{is_image_of, passed_followed, saved, saved_is, trimmed_is}
use Rattle.pf_server_apply.proofs.checkpoints.save_state.Goals as goal

pub save-requires : goal.save-requires
save-requires g c =
    let d = c.requires.stands.0 in
    let me = c.args.me.now in
    record {
      whole = (
        d,
        c.requires.stands.1.recorded,
        (image_of (state_saved_at me c.args.base), is_image_of d me c.args.base c.requires.stands.1.cached c.requires.stands.2 c.requires.bounded c.requires.small c.deref.result.now (c.deref.ensures.value ∙ c.in_ok-body.ensures)),
      );
    }

pub returns-in_err-save : goal.returns-in_err-save
returns-in_err-save g c = λ d out stands fresh is.
    let me = c.args.me.now in
    let base = c.args.base in
    let r = image_of (state_saved_at me base) in
    let body = is_image_of d me base stands.cached is c.requires.bounded c.requires.small c.deref.result.now (c.deref.ensures.value ∙ c.in_ok-body.ensures) in
    reworded g.S.Store.model d c.args.store.now c.save.new.store me me out out _ _ c.from_residual-in_err-save.result
    (ap (λ s. only_answers s (BaseIs base)) (sym (trimmed_is d me base stands.cached is)))
    (unsaved g.S.Store.model d c.args.store.now c.save.new.store me out (only_answers (saved d me base stands.cached is) (BaseIs base)) r stands (saved_is d me base stands.cached is)
    c.in_err-save.field-0.0 c.save.result c.from_residual-in_err-save.result (c.save.ensures d r stands.recorded body) c.in_err-save.was
    (err_from_is_err_and c.from_residual-in_err-save.result c.from_residual-in_err-save.ensures.1))

pub pass-requires-clause-generation : goal.pass-requires-clause-generation
pass-requires-clause-generation g c = generation_low c.args.me.now c.requires.bounded

pub returns : goal.returns
returns g c = λ d out stands fresh is.
    let me = c.args.me.now in
    let base = c.args.base in
    let r = image_of (state_saved_at me base) in
    let body = is_image_of d me base stands.cached is c.requires.bounded c.requires.small c.deref.result.now (c.deref.ensures.value ∙ c.in_ok-body.ensures) in
    reworded g.S.Store.model d c.args.store.now c.save.new.store me c.pass.new.me out out _ _ (Ok (BaseIs base))
    (ap (λ s. only_answers s (BaseIs base)) (sym (trimmed_is d me base stands.cached is)))
    (saved_then g.S.Store.model d c.args.store.now c.save.new.store me out (only_answers (saved d me base stands.cached is) (BaseIs base)) r stands (saved_is d me base stands.cached is)
    c.pass.new.me (BaseIs base) (c.in_ok-save.ensures d r stands.recorded body) (passed_followed d me base stands.cached is c.pass.new.me c.pass.ensures) refl fresh)
