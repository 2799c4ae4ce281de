use Rattle.std.proofs.Common.{Ok, List, refl, sym, subst}
use Rattle.std.proofs.lemmas.Result.{err_from_is_err_and}
use Rattle.pf_entry.specs.declared.entries.Entry.{Entry}
use Rattle.pf_entry.specs.declared.records.Record.TheVariants.{Merged as MergedRecord}
use Rattle.pf_codec.specs.Spelling.{body_bytes}
use Rattle.pf_server_store.specs.Stores.{IsSpelledAs}
use Rattle.pf_protocol.specs.declared.answers.Answer.TheVariants.{Done}
use Rattle.pf_server_memory.specs.Standing.{server_of}
use Rattle.pf_server_memory.specs.Storing.{Stores}
use Rattle.pf_server_memory.proofs.StepEnds.{unstored, stored_then}
use Rattle.pf_server_candidate.specs.Merging.{merge_of, won}
use Rattle.pf_server_candidate.proofs.VoteRules.{merge_added, merge_followed}
use Rattle.pf_server_candidate.proofs.votes.store_merge.Goals as goal

pub add_merged-requires-clause-spelled : goal.add_merged-requires-clause-spelled
add_merged-requires-clause-spelled g c =
    let merge = λ (es : List Entry). MergedRecord c.args.me.now.term c.args.takeover.first es in
    subst (λ es. IsSpelledAs (g.S.Store.model.format c.args.store.now) (merge es) (body_bytes (merge es))) (sym c.deref.ensures.value) c.requires.ready.spelled

pub returns-in_err-add_merged : goal.returns-in_err-add_merged
returns-in_err-add_merged g c = λ own vote took d out stands fresh.
    let me = c.args.me.now in
    let merge = λ (es : List Entry). MergedRecord me.term c.args.takeover.first es in
    unstored g.S.Store.model d c.args.store.now c.add_merged.new.store me out
    (won (server_of d me) own vote) (merge_of me c.args.takeover) stands (merge_added d me stands.cached own vote c.args.takeover took)
    c.in_err-add_merged.field-0.0 c.add_merged.result c.from_residual.result
    (subst (λ es. Stores g.S.Store.model d (merge es) c.args.store.now c.add_merged.new.store c.add_merged.result) c.deref.ensures.value (c.add_merged.ensures d stands.recorded stands.used_is))
    c.in_err-add_merged.was (err_from_is_err_and c.from_residual.result c.from_residual.ensures.1)

pub returns : goal.returns
returns g c = λ own vote took d out stands fresh.
    let me = c.args.me.now in
    let merge = λ (es : List Entry). MergedRecord me.term c.args.takeover.first es in
    stored_then g.S.Store.model d c.args.store.now c.add_merged.new.store me out
    (won (server_of d me) own vote) (merge_of me c.args.takeover) stands (merge_added d me stands.cached own vote c.args.takeover took)
    c.lead.new.me Done
    (subst (λ es. Stores g.S.Store.model d (merge es) c.args.store.now c.add_merged.new.store (Ok c.in_ok-add_merged.field-0)) c.deref.ensures.value (c.in_ok-add_merged.ensures d stands.recorded stands.used_is))
    (merge_followed d me stands.cached own vote c.args.takeover took c.lead.new.me c.lead.ensures.starts c.lead.ensures.others) refl fresh
