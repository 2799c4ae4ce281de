use Rattle.std.proofs.Common.{◌+◌, List, ap, subst, sym, ◌∙◌}
use Rattle.std.proofs.lemmas.List.{take_all}
use Rattle.std.proofs.lemmas.Option.{slice_get-get_or}
use Rattle.pf_group_rounds.specs.pf_group.specs.GroupIs.{state_of}
use Rattle.pf_chunk_waiting.specs.declared.waiting.Waiting.{Waiting}
use Rattle.pf_chunk_waiting.specs.Waiters.{WaitingAre}
use Rattle.pf_chunk.specs.Steps.{AreGoneThrough, ReadsAreTold}
use Rattle.pf_chunk.specs.Views.{IsListed}
use Rattle.pf_chunk.proofs.Told.{AreGone, all_through, all_told, left_ascend, next_pends, next_serves, none_gone, one_goes, one_stays, then_taken}
use Rattle.pf_chunk.proofs.UnansweredReads.{each_untouched}
use Rattle.pf_chunk.proofs.telling.tell_reads.Goals as goal
use Rattle.pf_chunk.proofs.telling.tell_reads.Goals.{then-not-branch, else-not-branch}

pub loop-one-init : goal.loop-one-init
loop-one-init g c = none_gone c.args.number c.args.group.now c.args.waiting.now.items c.deref-one-items.result.now c.args.out.now.items c.requires.pending

pub tell_read-requires-clause-server : goal.tell_read-requires-clause-server
tell_read-requires-clause-server g c =
    let l = c.loop-one in
    let picked = c.in_ok-reads.ensures in
    let listed : IsListed c.args.group.now.taken c.args.waiting.now.items = record { ascending = c.requires.ascending; servers = c.requires.servers; pending = c.requires.pending } in
    next_serves c.args.number c.args.group.now c.args.waiting.now.items c.deref-one-items.result.now c.args.out.now.items picked.test (c.deref-one-items.ensures.value ∙ picked.are) listed
    l.one-index l.group l.waiting.items l.out.items l.invariant _ (slice_get-get_or c.deref-one-items.result.now l.one-index _ c.loop-one-test.true)

pub tell_read-requires-clause-pending : goal.tell_read-requires-clause-pending
tell_read-requires-clause-pending g c =
    let l = c.loop-one in
    let picked = c.in_ok-reads.ensures in
    let listed : IsListed c.args.group.now.taken c.args.waiting.now.items = record { ascending = c.requires.ascending; servers = c.requires.servers; pending = c.requires.pending } in
    next_pends c.args.number c.args.group.now c.args.waiting.now.items c.deref-one-items.result.now c.args.out.now.items picked.test (c.deref-one-items.ensures.value ∙ picked.are) listed
    l.one-index l.group l.waiting.items l.out.items l.invariant _ (slice_get-get_or c.deref-one-items.result.now l.one-index _ c.loop-one-test.true)

pub returns-in_err-tell_read-clause-same : goal.returns-in_err-tell_read-clause-same
returns-in_err-tell_read-clause-same g c = then_taken c.args.group.now c.loop-one.group c.tell_read.new.group c.loop-one.invariant.same c.tell_read.ensures.same

pub forget-requires : goal.forget-requires
forget-requires g c =
    let l = c.loop-one in
    let picked = c.in_ok-reads.ensures in
    let listed : IsListed c.args.group.now.taken c.args.waiting.now.items = record { ascending = c.requires.ascending; servers = c.requires.servers; pending = c.requires.pending } in
    left_ascend c.args.number c.args.group.now c.args.waiting.now.items c.deref-one-items.result.now c.args.out.now.items picked.test (c.deref-one-items.ensures.value ∙ picked.are) listed
    l.one-index l.group l.waiting.items l.out.items l.invariant

pub loop-one-preserved : goal.loop-one-preserved
loop-one-preserved g c =
    let l = c.loop-one in
    let first = c.args.group.now in
    let ws = c.args.waiting.now.items in
    let before = c.args.out.now.items in
    let chosen = c.deref-one-items.result.now in
    let at = slice_get-get_or chosen l.one-index _ c.loop-one-test.true in
    let after = c.tell_read.new.group in
    let put = c.tell_read.new.out.items in
    let e = c.in_ok-tell_read.ensures in
    let Any : List Waiting → Type 0 = λ items. AreGone c.args.number first ws chosen before (l.one-index + 1) after items put in
    elim c.if-not-branch.branch [
      | then-not-branch w ↦
          subst Any (sym (ap (λ (v : WaitingAre). v.items) w.waiting-is ∙ w.forget.ensures))
          (one_goes c.args.number first ws chosen before l.one-index l.group l.waiting.items l.out.items l.invariant _ at after e.same e.others e.taken put e.put.0 e.put.1 e.told _ e.kept w.if-not-branch.true)
      | else-not-branch w ↦
          subst Any (sym (ap (λ (v : WaitingAre). v.items) w.waiting-is))
          (one_stays c.args.number first ws chosen before l.one-index l.group l.waiting.items l.out.items l.invariant _ at after e.same e.others e.taken put e.put.0 e.put.1 e.told _ e.kept w.if-not-branch.false (e.still w.if-not-branch.false))
    ]

pub returns-clause-through : goal.returns-clause-through
returns-clause-through g c =
    let l = c.loop-one in
    let first = c.args.group.now in
    let ws = c.args.waiting.now.items in
    let chosen = c.deref-one-items.result.now in
    let picked = c.in_ok-reads.ensures in
    let listed : IsListed first.taken ws = record { ascending = c.requires.ascending; servers = c.requires.servers; pending = c.requires.pending } in
    subst (λ (w : WaitingAre). AreGoneThrough first.taken ws l.group.taken w.items) (sym c.note_terms.ensures)
    (all_through c.args.number first ws chosen c.args.out.now.items picked.test (c.deref-one-items.ensures.value ∙ picked.are) listed
    l.one-index l.group l.waiting.items l.out.items l.invariant (take_all l.one-index chosen c.loop-one-test.false))

pub returns-clause-told : goal.returns-clause-told
returns-clause-told g c =
    let l = c.loop-one in
    let first = c.args.group.now in
    let ws = c.args.waiting.now.items in
    let chosen = c.deref-one-items.result.now in
    let picked = c.in_ok-reads.ensures in
    let listed : IsListed first.taken ws = record { ascending = c.requires.ascending; servers = c.requires.servers; pending = c.requires.pending } in (
      l.invariant.text,
      l.invariant.put,
      λ told.
          subst (λ (w : WaitingAre). ReadsAreTold c.args.number (state_of first) first.taken ws l.group.taken w.items l.invariant.text) (sym c.note_terms.ensures)
          (all_told c.args.number first ws chosen c.args.out.now.items picked.test (c.deref-one-items.ensures.value ∙ picked.are) listed
          l.one-index l.group l.waiting.items l.out.items l.invariant (take_all l.one-index chosen c.loop-one-test.false) told
          (each_untouched c.args.number first c.terms_of-terms.result c.unread.result.now (c.terms_of-terms.ensures told) (c.unread.ensures told) ws c.requires.pending picked.test picked.others)),
    )

pub returns-clause-same : goal.returns-clause-same
returns-clause-same g c = c.loop-one.invariant.same
