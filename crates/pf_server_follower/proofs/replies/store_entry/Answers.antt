use Rattle.std.proofs.Common.{refl}
use Rattle.std.proofs.lemmas.Result.{err_from_is_err_and}
use Rattle.pf_entry.specs.declared.records.Record.TheVariants.{Entry as EntryRecord}
use Rattle.pf_protocol.specs.Outcomes.{nothing}
use Rattle.pf_protocol.specs.Following.{accepted}
use Rattle.pf_protocol.specs.declared.answers.Answer.TheVariants.{Done}
use Rattle.pf_server_memory.specs.Standing.{server_of}
use Rattle.pf_server_memory.proofs.StepEnds.{unstored, stored_then}
use Rattle.pf_server_follower.proofs.HigherTerms.{kept_added, kept_followed}
use Rattle.pf_server_follower.proofs.replies.store_entry.Goals as goal

pub returns-in_err-add_entry : goal.returns-in_err-add_entry
returns-in_err-add_entry g c = λ d out stands fresh.
    unstored g.S.Store.model d c.args.store.now c.add_entry.new.store c.args.me.now out
    (nothing (accepted (server_of d c.args.me.now) c.args.entry)) (EntryRecord c.args.entry) stands (kept_added d c.args.me.now c.args.entry)
    c.in_err-add_entry.field-0.0 c.add_entry.result c.from_residual.result
    (c.add_entry.ensures d stands.recorded stands.used_is)
    c.in_err-add_entry.was (err_from_is_err_and c.from_residual.result c.from_residual.ensures.1)

pub returns : goal.returns
returns g c = λ d out stands fresh.
    stored_then g.S.Store.model d c.args.store.now c.add_entry.new.store c.args.me.now out
    (nothing (accepted (server_of d c.args.me.now) c.args.entry)) (EntryRecord c.args.entry) stands (kept_added d c.args.me.now c.args.entry)
    c.keep.new.me Done (c.in_ok-add_entry.ensures d stands.recorded stands.used_is) (kept_followed d c.args.me.now c.keep.new.me c.args.entry c.keep.new.me.starts stands.cached c.keep.ensures.starts c.keep.ensures.others) refl fresh
