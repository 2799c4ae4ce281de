use Rattle.std.proofs.Common.{rules, ◌≡◌, ◌+◌, ◌<◌, length, slice_set, arith, sym, ap, subst, ◌∙◌}
use Rattle.std.specs.List.{insert, remove}
use Rattle.std.specs.FinMap as finite
use Rattle.std.proofs.lemmas.Bool.{cond-true}
use Rattle.std.proofs.lemmas.List.Sorted.{answers_always}
use Rattle.pf_protocol.specs.Saving.{four_greatest}
use Rattle.pf_server_tables.specs.SnapshotTables.{snapshots_of, AreFew}
use Rattle.pf_server_tables.proofs.MarkTables.{mark_of, in_place, in_gap, few_after, kept_after, few_of_five, four_of_five}
use Rattle.pf_server_tables.proofs.snapshots.Snapshots.keep.Goals as goal

pub invariant_of-self : goal.invariant_of-self
invariant_of-self c =
    let rows = c.self.inside.rows.items in
    let found = c.in-Ok.ensures.position mark_of (answers_always _ _ _ (λ f a r g called. search rules)) in
    let put = in_place c.deref.result.now rows c.deref.ensures.value c.args.mark c.in-Ok.place c.args.sectors c.index_mut.result.now c.self.invariant.ascending c.in-Ok.ensures.bound found c.index_mut.ensures.value in
    few_after c.self.inside.rows.cap rows c.args.mark c.args.sectors 0 (slice_set rows c.in-Ok.place (c.index_mut.result.now.0, c.args.sectors)) put (omega (arith, c.self.invariant.few)) c.self.invariant.room

pub returns-in-Ok : goal.returns-in-Ok
returns-in-Ok c =
    let rows = c.self.inside.rows.items in
    let found = c.in-Ok.ensures.position mark_of (answers_always _ _ _ (λ f a r g called. search rules)) in
    let put = in_place c.deref.result.now rows c.deref.ensures.value c.args.mark c.in-Ok.place c.args.sectors c.index_mut.result.now c.self.invariant.ascending c.in-Ok.ensures.bound found c.index_mut.ensures.value in
    kept_after rows c.args.mark c.args.sectors 0 (slice_set rows c.in-Ok.place (c.index_mut.result.now.0, c.args.sectors)) put (omega (arith, c.self.invariant.few))
    ∙ ap (λ m. four_greatest (finite.insert m c.args.mark c.args.sectors)) c.self.view_is

pub invariant_of-self-then-len-gt4 : goal.invariant_of-self-then-len-gt4
invariant_of-self-then-len-gt4 c =
    let rows = c.self.inside.rows.items in
    let found = c.in-Err.ensures.position mark_of (answers_always _ _ _ (λ f a r g called. search rules)) in
    let put = in_gap c.deref.result.now rows c.deref.ensures.value c.args.mark c.in-Err.place c.args.sectors c.self.invariant.ascending c.in-Err.ensures.bound found in
    let room : c.self.inside.rows.len < c.self.inside.rows.cap = omega (arith, c.deref.ensures.len, ap length c.deref.ensures.value, c.self.invariant.few, c.self.invariant.room) in
    let items : c.insert.new.self.items ≡ insert rows c.in-Err.place (c.args.mark, c.args.sectors) = c.insert.ensures.items ∙ cond-true _ _ _ (c.insert.ensures.succeeds room) in
    let left : c.remove.new.self.items ≡ remove (insert rows c.in-Err.place (c.args.mark, c.args.sectors)) 0 = c.remove.ensures.items ∙ ap (λ xs. remove xs 0) items in
    subst (AreFew c.remove.new.self.cap) (sym left)
    (few_of_five c.remove.new.self.cap rows c.args.mark c.args.sectors (insert rows c.in-Err.place (c.args.mark, c.args.sectors)) put c.self.invariant.few (omega (arith, c.self.invariant.room, c.insert.ensures.capacity, c.remove.ensures.capacity)))

pub returns-then-len-gt4 : goal.returns-then-len-gt4
returns-then-len-gt4 c =
    let rows = c.self.inside.rows.items in
    let found = c.in-Err.ensures.position mark_of (answers_always _ _ _ (λ f a r g called. search rules)) in
    let put = in_gap c.deref.result.now rows c.deref.ensures.value c.args.mark c.in-Err.place c.args.sectors c.self.invariant.ascending c.in-Err.ensures.bound found in
    let same_len : length rows ≡ c.self.inside.rows.len = ap length (sym c.deref.ensures.value) ∙ c.deref.ensures.len in
    let room : c.self.inside.rows.len < c.self.inside.rows.cap = omega (arith, same_len, c.self.invariant.few, c.self.invariant.room) in
    let items : c.insert.new.self.items ≡ insert rows c.in-Err.place (c.args.mark, c.args.sectors) = c.insert.ensures.items ∙ cond-true _ _ _ (c.insert.ensures.succeeds room) in
    let grown : c.insert.new.self.len ≡ c.self.inside.rows.len + 1 = c.insert.ensures.len ∙ cond-true _ _ _ (c.insert.ensures.succeeds room) in
    let left : c.remove.new.self.items ≡ remove (insert rows c.in-Err.place (c.args.mark, c.args.sectors)) 0 = c.remove.ensures.items ∙ ap (λ xs. remove xs 0) items in
    ap snapshots_of left
    ∙ four_of_five rows c.args.mark c.args.sectors (insert rows c.in-Err.place (c.args.mark, c.args.sectors)) put (omega (arith, same_len, grown, c.len.ensures, c.if-len-gt4.true))
    ∙ ap (λ m. four_greatest (finite.insert m c.args.mark c.args.sectors)) c.self.view_is

pub invariant_of-self-else-len-gt4 : goal.invariant_of-self-else-len-gt4
invariant_of-self-else-len-gt4 c =
    let rows = c.self.inside.rows.items in
    let found = c.in-Err.ensures.position mark_of (answers_always _ _ _ (λ f a r g called. search rules)) in
    let put = in_gap c.deref.result.now rows c.deref.ensures.value c.args.mark c.in-Err.place c.args.sectors c.self.invariant.ascending c.in-Err.ensures.bound found in
    let same_len : length rows ≡ c.self.inside.rows.len = ap length (sym c.deref.ensures.value) ∙ c.deref.ensures.len in
    let room : c.self.inside.rows.len < c.self.inside.rows.cap = omega (arith, same_len, c.self.invariant.few, c.self.invariant.room) in
    let items : c.insert.new.self.items ≡ insert rows c.in-Err.place (c.args.mark, c.args.sectors) = c.insert.ensures.items ∙ cond-true _ _ _ (c.insert.ensures.succeeds room) in
    let grown : c.insert.new.self.len ≡ c.self.inside.rows.len + 1 = c.insert.ensures.len ∙ cond-true _ _ _ (c.insert.ensures.succeeds room) in
    subst (AreFew c.insert.new.self.cap) (sym items)
    (few_after c.insert.new.self.cap rows c.args.mark c.args.sectors 1 (insert rows c.in-Err.place (c.args.mark, c.args.sectors)) put (omega (arith, same_len, grown, c.len.ensures, c.if-len-gt4.false)) (omega (arith, c.self.invariant.room, c.insert.ensures.capacity)))

pub returns-else-len-gt4 : goal.returns-else-len-gt4
returns-else-len-gt4 c =
    let rows = c.self.inside.rows.items in
    let found = c.in-Err.ensures.position mark_of (answers_always _ _ _ (λ f a r g called. search rules)) in
    let put = in_gap c.deref.result.now rows c.deref.ensures.value c.args.mark c.in-Err.place c.args.sectors c.self.invariant.ascending c.in-Err.ensures.bound found in
    let same_len : length rows ≡ c.self.inside.rows.len = ap length (sym c.deref.ensures.value) ∙ c.deref.ensures.len in
    let room : c.self.inside.rows.len < c.self.inside.rows.cap = omega (arith, same_len, c.self.invariant.few, c.self.invariant.room) in
    let items : c.insert.new.self.items ≡ insert rows c.in-Err.place (c.args.mark, c.args.sectors) = c.insert.ensures.items ∙ cond-true _ _ _ (c.insert.ensures.succeeds room) in
    let grown : c.insert.new.self.len ≡ c.self.inside.rows.len + 1 = c.insert.ensures.len ∙ cond-true _ _ _ (c.insert.ensures.succeeds room) in
    ap snapshots_of items
    ∙ kept_after rows c.args.mark c.args.sectors 1 (insert rows c.in-Err.place (c.args.mark, c.args.sectors)) put (omega (arith, same_len, grown, c.len.ensures, c.if-len-gt4.false))
    ∙ ap (λ m. four_greatest (finite.insert m c.args.mark c.args.sectors)) c.self.view_is
