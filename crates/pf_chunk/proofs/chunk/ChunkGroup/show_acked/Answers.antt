use Rattle.std.proofs.Common.{◌≡◌, ◌++◌, ap, map, subst, ◌∙◌}
use Rattle.std.proofs.lemmas.Result.{on_ok_weaker}
use Rattle.pf_report.specs.Texts.{acked_text, report_line}
use Rattle.pf_group_rounds.specs.pf_group.specs.GroupIs.{state_of}
use Rattle.pf_chunk.specs.Showing.{LineIsShown, acked_shown}
use Rattle.pf_chunk.specs.Views.{ChunkIs}
use Rattle.pf_chunk.proofs.Lines.{same_slots, shown_so}
use Rattle.pf_chunk.proofs.chunk.ChunkGroup.show_acked.Goals as goal

pub returns-clause-ok : goal.returns-clause-ok
returns-clause-ok g c =
    let after = c.put_acked.new.out.items in
    let before = c.args.out.now.items in
    on_ok_weaker c.put_acked.result (λ (put : after ≡ before ++ report_line c.args.line (acked_text c.deref.result.now)).
    subst (λ (v : ChunkIs). LineIsShown v.group.told c.args.line (acked_shown (state_of v.group)) before after) c.self.view_is
    (shown_so c.self.inside.group.told c.args.line (acked_text c.deref.result.now) (acked_shown (state_of c.self.inside.group)) before after put
    (λ told. ap acked_text (c.deref.ensures.value ∙ c.in_ok-slots.ensures ∙ ap (map (λ a. a.slot)) (c.acked.ensures told) ∙ same_slots (state_of c.self.inside.group).acked)))) c.put_acked.ensures.ok
