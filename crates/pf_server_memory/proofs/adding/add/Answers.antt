use Rattle.std.proofs.Common.{sym, subst, ◌∙◌}
use Rattle.pf_server_store.specs.Stores.{IsSpelledAs}
use Rattle.pf_server_memory.proofs.StoredRecords.{in_second}
use Rattle.pf_server_memory.proofs.adding.add.Goals as goal

pub spell_record-requires : goal.spell_record-requires
spell_record-requires g c = in_second (g.S.Store.model.format c.args.store.now) c.args.rec.now c.requires.spelled.canonical

pub add_body-requires-clause-spelled : goal.add_body-requires-clause-spelled
add_body-requires-clause-spelled g c =
    (c.args.rec.now, subst (IsSpelledAs (g.S.Store.model.format c.args.store.now) (c.args.rec.now)) (sym (c.deref.ensures.value ∙ c.in_ok-body.ensures)) c.requires.spelled)

pub returns : goal.returns
returns g c = λ d whole used_is.
    c.add_body.ensures d (c.args.rec.now) whole used_is
    (subst (IsSpelledAs (g.S.Store.model.format c.args.store.now) (c.args.rec.now)) (sym (c.deref.ensures.value ∙ c.in_ok-body.ensures)) c.requires.spelled)
