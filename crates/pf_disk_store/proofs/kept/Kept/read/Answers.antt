use Rattle.std.proofs.Common.{◌≡◌, ◌∙◌, Vec, sym, subst, is_some}
use Rattle.std.specs.List.{AllZip}
use Rattle.std.specs.declared.alloc.Global.{Global}
use Rattle.pf_entry.specs.declared.records.Record.{Record}
use Rattle.pf_image.specs.Recovery.{SpellsRecord}
use Rattle.std.proofs.lemmas.Bool.{and_parts}
use Rattle.pf_chunklog.proofs.Steps.{told}
use Rattle.pf_server_store.specs.Stores.{state_of_records}
use Rattle.pf_image.specs.Pairs.{format_of}
use Rattle.pf_image.proofs.Files.{err_of}
use Rattle.pf_image.proofs.Logs as logs
use Rattle.pf_disk_store.specs.Kept.{IsReread}
use Rattle.pf_disk_store.proofs.States.{read_state, stands_for}
use Rattle.pf_disk_store.proofs.Pairs.{has_state, kept_in, one_recovers, one_settled, read_leaves, whole_now}
use Rattle.pf_disk_store.proofs.kept.Kept.read.Goals as goal

pub returns-in-Ok-clause-any_moment : goal.returns-in-Ok-clause-any_moment
returns-in-Ok-clause-any_moment g c = λ before after kept. record {
  head = c.reload.ensures.head;
  later = c.reload.ensures.later;
  left = λ tells_moments tells_it.
      let times = c.reload.ensures.any_moment tells_moments in
      read_leaves g.D.Disk.seen g.D.Disk.may_leave g.D.Disk.moment g.D.Disk.left_since c.args.self.now.pair c.reload.new.self before after kept tells_it times.0 times.1;
}

pub returns-in-Err-clause-any_moment : goal.returns-in-Err-clause-any_moment
returns-in-Err-clause-any_moment g c = λ before after kept. record {
  head = c.reload.ensures.head;
  later = c.reload.ensures.later;
  left = λ tells_moments tells_it.
      let times = c.reload.ensures.any_moment tells_moments in
      read_leaves g.D.Disk.seen g.D.Disk.may_leave g.D.Disk.moment g.D.Disk.left_since c.args.self.now.pair c.reload.new.self before after kept tells_it times.0 times.1;
}

pub returns-in-Err-clause-ours : goal.returns-in-Err-clause-ours
returns-in-Err-clause-ours g c = λ before after kept tells_it is.
    let pair = c.args.self.now.pair in
    let both = and_parts (is_some (g.D.Disk.seen pair.zero.disk)) (is_some (g.D.Disk.seen pair.one.disk)) tells_it in
    let a = logs.told_file (g.D.Disk.seen pair.zero.disk) both.0 in
    let b = logs.told_file (g.D.Disk.seen pair.one.disk) both.1 in
    let found = one_recovers g.D.Disk.seen g.D.Disk.may_leave g.met.D.Disk.among pair before after kept tells_it a.0 b.0 a.1 b.1 in
    let fault : c.named.result ≡ _ = cc is in
    told _ b.0 _ b.1 (told _ a.0 _ a.1 c.in-Err.ensures.not_ours) (err_of _ _ (c.named.ensures.ours fault)) found.0 found.1 found.2

pub returns-in-Ok-clause-found : goal.returns-in-Ok-clause-found
returns-in-Ok-clause-found g c = λ tells_it before after kept.
    let old = c.args.self.now.pair in
    let new = c.reload.new.self in
    let spelled : AllZip (SpellsRecord (format_of new)) c.in-Ok.read.raws c.found_in.result.records.items = subst (λ (rs : Vec Record Global). AllZip (SpellsRecord (format_of new)) c.in-Ok.read.raws rs.items) (sym c.found_in.ensures.records) c.in-Ok.ensures.spelled in
    let read : IsReread g.D.Disk.seen g.D.Disk.may_leave old new = record { head = c.reload.ensures.head; on_zero = c.reload.ensures.zero; on_one = c.reload.ensures.one } in
    let settled = one_settled g.D.Disk.seen g.D.Disk.may_leave g.met.D.Disk.among old new c.in-Ok.read.raws read c.in-Ok.ensures.whole before after kept tells_it in (
      settled.0,
      settled.1,
      stands_for c.found_in.result (format_of new) c.in-Ok.read.raws settled.0 c.in-Ok.ensures.known c.found_in.ensures.format (c.found_in.ensures.used ∙ c.in-Ok.ensures.used.0) spelled settled.2.state,
      kept_in g.D.Disk.seen g.D.Disk.may_leave new settled.0 c.in-Ok.ensures.ready (λ _. has_state g.D.Disk.seen g.D.Disk.may_leave new c.in-Ok.read.raws settled.0 settled.2),
    )

pub returns-in-Ok-clause-whole : goal.returns-in-Ok-clause-whole
returns-in-Ok-clause-whole g c =
    let old = c.args.self.now.pair in
    let new = c.reload.new.self in
    let spelled : AllZip (SpellsRecord (format_of new)) c.in-Ok.read.raws c.found_in.result.records.items = subst (λ (rs : Vec Record Global). AllZip (SpellsRecord (format_of new)) c.in-Ok.read.raws rs.items) (sym c.found_in.ensures.records) c.in-Ok.ensures.spelled in
    let read : IsReread g.D.Disk.seen g.D.Disk.may_leave old new = record { head = c.reload.ensures.head; on_zero = c.reload.ensures.zero; on_one = c.reload.ensures.one } in
    let d = state_of_records (format_of new) c.found_in.result.records.items in
    let state = read_state (format_of new) c.in-Ok.read.raws c.found_in.result.records.items c.in-Ok.ensures.recoverable spelled in (
      d,
      stands_for c.found_in.result (format_of new) c.in-Ok.read.raws d c.in-Ok.ensures.known c.found_in.ensures.format (c.found_in.ensures.used ∙ c.in-Ok.ensures.used.0) spelled state,
      kept_in g.D.Disk.seen g.D.Disk.may_leave new d c.in-Ok.ensures.ready (λ tells_it. has_state g.D.Disk.seen g.D.Disk.may_leave new c.in-Ok.read.raws d (record {
        whole = whole_now g.D.Disk.seen g.D.Disk.may_leave g.met.D.Disk.among old new c.in-Ok.read.raws read c.in-Ok.ensures.whole tells_it;
        state = state;
      })),
    )
