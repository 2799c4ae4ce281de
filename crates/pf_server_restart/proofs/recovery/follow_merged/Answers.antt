use Rattle.std.proofs.Common.{◌≡◌, ◌∙◌, ap, subst, sym}
use Rattle.pf_entry.specs.Records.{add_merged_start}
use Rattle.pf_server_restart.specs.Recovering.{state_in}
use Rattle.pf_server_restart.proofs.RecordReads.{merged_followed, merged_placed, moved_places, unplaced, with_entries}
use Rattle.pf_server_restart.proofs.recovery.follow_merged.Goals as goal

pub returns-then-not-have_places : goal.returns-then-not-have_places
returns-then-not-have_places c = λ window.
    unplaced c.have_places.result c.if-not-have_places.true c.have_places.ensures.1
    (moved_places c.args.tables.now.log.base c.base.result c.args.entries c.deref.result.now (sym c.base.ensures.base) (sym (c.deref.ensures.value ∙ c.into_vec-entries.ensures)) (merged_placed (state_in c.args.tables.now) c.args.term c.args.first c.args.entries window))

pub put_all-requires : goal.put_all-requires
put_all-requires c = moved_places c.base.result c.args.tables.now.log.base c.deref.result.now c.into_vec-entries.result.items c.base.ensures.base c.deref.ensures.value (c.have_places.ensures.0 c.if-not-have_places.false)

pub returns : goal.returns
returns c = merged_followed c.args.tables.now c.args.term c.args.first c.args.entries c.add_merged_start.new.starts c.put_all.new.log
    (subst (λ es. c.add_merged_start.new.starts.starts ≡ add_merged_start c.args.tables.now.starts.starts c.args.term c.args.first es) (c.deref-2.ensures.value ∙ c.into_vec-entries.ensures) c.in_ok-add_merged_start.ensures)
    (c.put_all.ensures ∙ ap (with_entries c.args.tables.now.log) c.into_vec-entries.ensures)
