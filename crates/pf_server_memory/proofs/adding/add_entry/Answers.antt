use Rattle.std.proofs.Common.{◌≡◌, sym, subst, ◌∙◌}
use Rattle.pf_entry.specs.Records.{Durable}
use Rattle.pf_entry.specs.declared.records.Record.TheVariants.{Entry as EntryRecord}
use Rattle.pf_codec.specs.Spelling.{body_bytes}
use Rattle.pf_server_store.specs.Stores.{IsSpelledAs}
use Rattle.pf_server_memory.specs.Storing.{Stores}
use Rattle.pf_server_memory.proofs.StoredRecords.{in_second}
use Rattle.pf_server_memory.proofs.adding.add_entry.Goals as goal

pub spell_entry-requires : goal.spell_entry-requires
spell_entry-requires g c = (in_second (g.S.Store.model.format c.args.store.now) (EntryRecord c.args.entry.now) c.requires.spelled.canonical).fields

pub add_body-added-requires-clause-whole : goal.add_body-added-requires-clause-whole
add_body-added-requires-clause-whole g c = subst (λ s. (d : Durable) × g.S.Store.model.holds s d d) (sym c.lend.ensures) c.requires.whole

pub add_body-added-requires-clause-spelled : goal.add_body-added-requires-clause-spelled
add_body-added-requires-clause-spelled g c = (
  EntryRecord c.args.entry.now,
  subst (IsSpelledAs (g.S.Store.model.format c.lend.new.self) (EntryRecord c.args.entry.now)) (sym (c.deref.ensures.value ∙ c.in_ok-body.ensures))
      (subst (λ s. IsSpelledAs (g.S.Store.model.format s) (EntryRecord c.args.entry.now) (body_bytes (EntryRecord c.args.entry.now))) (sym c.lend.ensures) c.requires.spelled),
)

pub returns : goal.returns
returns g c = λ d whole used_is.
    let rec = EntryRecord c.args.entry.now in
    let spelled = subst (IsSpelledAs (g.S.Store.model.format c.lend.new.self) rec) (sym (c.deref.ensures.value ∙ c.in_ok-body.ensures))
    (subst (λ s. IsSpelledAs (g.S.Store.model.format s) rec (body_bytes rec)) (sym c.lend.ensures) c.requires.spelled) in
    let stored = c.add_body-added.ensures d rec (subst (λ s. g.S.Store.model.holds s d d) (sym c.lend.ensures) whole) (subst (λ s. g.S.Store.model.used s ≡ d.used) (sym c.lend.ensures) used_is) spelled in
    subst (λ s. Stores g.S.Store.model d rec c.args.store.now s c.add_body-added.result) (sym c.keep.ensures)
    (subst (λ s. Stores g.S.Store.model d rec s c.add_body-added.new.store c.add_body-added.result) c.lend.ensures stored)
