use Rattle.std.proofs.Common.{refl}
use Rattle.std.proofs.lemmas.Result.{err_from_is_err_and}
use Rattle.pf_entry.specs.declared.records.Record.TheVariants.{Term as TermRecord}
use Rattle.pf_server_memory.specs.Standing.{server_of}
use Rattle.pf_server_leader.specs.Electing.{elected}
use Rattle.pf_server_memory.proofs.StepEnds.{unstored, stored_then}
use Rattle.pf_server_leader.proofs.Candidacies.{stood_added, stood_followed}
use Rattle.pf_server_leader.proofs.elections.stand.Goals as goal

pub returns-in_err-add : goal.returns-in_err-add
returns-in_err-add g c = λ d out stands fresh.
    unstored g.S.Store.model d c.args.store.now c.add.new.store c.args.me.now out
    (elected (server_of d c.args.me.now) c.args.term) (TermRecord c.args.term) stands (stood_added d c.args.me.now c.args.term)
    c.in_err-add.field-0.0 c.add.result c.from_residual.result (c.add.ensures d stands.recorded stands.used_is) c.in_err-add.was (err_from_is_err_and c.from_residual.result c.from_residual.ensures.1)

pub returns : goal.returns
returns g c = λ d out stands fresh.
    stored_then g.S.Store.model d c.args.store.now c.add.new.store c.args.me.now out
    (elected (server_of d c.args.me.now) c.args.term) (TermRecord c.args.term) stands (stood_added d c.args.me.now c.args.term)
    c.run.new.me _ (c.in_ok-add.ensures d stands.recorded stands.used_is)
    (stood_followed d c.args.me.now c.run.new.me c.args.term c.args.vote stands.cached c.requires.vote c.run.ensures) refl fresh
