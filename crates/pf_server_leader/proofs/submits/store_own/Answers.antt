use Rattle.std.proofs.Common.{refl}
use Rattle.std.proofs.lemmas.Result.{err_from_is_err_and}
use Rattle.pf_entry.specs.declared.records.Record.TheVariants.{Entry as EntryRecord}
use Rattle.pf_protocol.specs.declared.answers.Answer.TheVariants.{Slot as SlotIs}
use Rattle.pf_server_memory.specs.Standing.{server_of, leader_in_memory}
use Rattle.pf_server_leader.specs.Submitting.{entry_proposed}
use Rattle.pf_server_memory.proofs.StepEnds.{unstored, stored_then}
use Rattle.pf_server_leader.proofs.Proposals.{own_added, own_followed}
use Rattle.pf_server_leader.proofs.submits.store_own.Goals as goal

pub returns-in_err-add_entry : goal.returns-in_err-add_entry
returns-in_err-add_entry g c = λ l serves slot d out stands fresh.
    unstored g.S.Store.model d c.args.store.now c.add_entry.new.store c.args.me.now out
    (entry_proposed (server_of d c.args.me.now) (leader_in_memory l) c.args.entry) (EntryRecord c.args.entry) stands (own_added d c.args.me.now (leader_in_memory l) c.args.entry)
    c.in_err-add_entry.field-0.0 c.add_entry.result c.from_residual.result
    (c.add_entry.ensures d stands.recorded stands.used_is)
    c.in_err-add_entry.was (err_from_is_err_and c.from_residual.result c.from_residual.ensures.1)

pub returns : goal.returns
returns g c = λ l serves slot d out stands fresh.
    stored_then g.S.Store.model d c.args.store.now c.add_entry.new.store c.args.me.now out
    (entry_proposed (server_of d c.args.me.now) (leader_in_memory l) c.args.entry) (EntryRecord c.args.entry) stands (own_added d c.args.me.now (leader_in_memory l) c.args.entry)
    c.keep.new.me (SlotIs c.args.entry.slot) (c.in_ok-add_entry.ensures d stands.recorded stands.used_is)
    (own_followed d c.args.me.now c.keep.new.me c.args.entry c.keep.new.me.starts c.keep.new.me.role l stands.cached serves c.keep.ensures.role c.requires.term c.keep.ensures.starts c.keep.ensures.others)
    refl fresh
