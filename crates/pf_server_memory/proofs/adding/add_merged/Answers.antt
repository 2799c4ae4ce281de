use Rattle.std.proofs.Common.{sym, subst, ◌∙◌}
use Rattle.pf_entry.specs.declared.records.Record.TheVariants.{Merged as MergedRecord}
use Rattle.pf_server_store.specs.Stores.{IsSpelledAs}
use Rattle.pf_server_memory.proofs.StoredRecords.{in_second}
use Rattle.pf_server_memory.proofs.adding.add_merged.Goals as goal

pub spell_merged-requires : goal.spell_merged-requires
spell_merged-requires g c = in_second (g.S.Store.model.format c.args.store.now) (MergedRecord c.args.term c.args.first c.args.entries.now) c.requires.spelled.canonical

pub add_body-requires-clause-spelled : goal.add_body-requires-clause-spelled
add_body-requires-clause-spelled g c =
    (MergedRecord c.args.term c.args.first c.args.entries.now, subst (IsSpelledAs (g.S.Store.model.format c.args.store.now) (MergedRecord c.args.term c.args.first c.args.entries.now)) (sym (c.deref.ensures.value ∙ c.in_ok-body.ensures)) c.requires.spelled)

pub returns : goal.returns
returns g c = λ d whole used_is.
    c.add_body.ensures d (MergedRecord c.args.term c.args.first c.args.entries.now) whole used_is
    (subst (IsSpelledAs (g.S.Store.model.format c.args.store.now) (MergedRecord c.args.term c.args.first c.args.entries.now)) (sym (c.deref.ensures.value ∙ c.in_ok-body.ensures)) c.requires.spelled)
