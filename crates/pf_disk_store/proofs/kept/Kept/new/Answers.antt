use Rattle.std.proofs.Common.{◌∙◌, [], ◌∷◌, ℕ, subst, sym, slice_index, is_some}
use Rattle.std.proofs.lemmas.Bool.{and_parts}
use Rattle.pf_chunklog.proofs.Steps.{told}
use Rattle.pf_server_store.specs.Stores.{state_of_records}
use Rattle.pf_image.proofs.Logs as logs
use Rattle.pf_image.specs.declared.pair.Pair.{Pair}
use Rattle.pf_disk_store.specs.Kept.{IsKept, IsStateIn}
use Rattle.pf_disk_store.proofs.States.{first_body, first_state, raw_of}
use Rattle.pf_disk_store.proofs.Pairs.{kept_in}
use Rattle.pf_disk_store.proofs.kept.Kept.new.Goals as goal

pub new-requires-clause-body : goal.new-requires-clause-body
new-requires-clause-body g c = (raw_of c.requires.first.0, first_body (slice_index c.args.head 4) c.requires.first.0 c.args.first.now c.requires.first.1)

pub returns-in-Ok-clause-holds : goal.returns-in-Ok-clause-holds
returns-in-Ok-clause-holds g c = λ r is.
    let format = slice_index c.args.head 4 in
    let d = state_of_records format (r ∷ []) in
    subst (λ (pair : Pair g.row.D.Denot). IsKept g.D.Disk.seen g.D.Disk.may_leave pair d d) (sym c.over.ensures)
    (kept_in g.D.Disk.seen g.D.Disk.may_leave c.in-Ok.pair (state_of_records format (r ∷ [])) c.in-Ok.ensures.ready (λ tells_it.
    let both = and_parts (is_some (g.D.Disk.seen c.in-Ok.pair.zero.disk)) (is_some (g.D.Disk.seen c.in-Ok.pair.one.disk)) tells_it in
    let first = logs.told_file (g.D.Disk.seen c.args.a) (sym c.in-Ok.ensures.told.0 ∙ both.0) in
    let second = logs.told_file (g.D.Disk.seen c.args.b) (sym c.in-Ok.ensures.told.1 ∙ both.1) in
    let state = first_state format r c.args.first.now is in
    record {
      records = raw_of r ∷ [];
      whole = told _ second.0 _ second.1 (told _ first.0 _ first.1 (c.in-Ok.ensures.made (raw_of r) (first_body format r c.args.first.now is) is.known state.recoverable));
      state = subst (λ (f : ℕ). IsStateIn (f, raw_of r ∷ []) (state_of_records format (r ∷ []))) (sym c.in-Ok.ensures.format) state;
    }))
