use Rattle.std.proofs.Common.{◌≡◌, ◌++◌, OnOk, subst}
use Rattle.std.specs.FinMap
use Rattle.std.proofs.lemmas.Result.{on_ok_weaker}
use Rattle.pf_report.specs.Texts.{report_line}
use Rattle.pf_group_rounds.specs.pf_group.specs.GroupIs.{state_of}
use Rattle.pf_chunk.specs.Showing.{LineIsShown, mark_shown, snapshot_shown, text_of_server}
use Rattle.pf_chunk.specs.Views.{ChunkIs}
use Rattle.pf_chunk.proofs.Lines.{mark_is, mark_put, shown_so}
use Rattle.pf_chunk.proofs.chunk.ChunkGroup.show_mark.Goals as goal

pub returns-in-Ok-clause-ok : goal.returns-in-Ok-clause-ok
returns-in-Ok-clause-ok g c =
    let after = c.put_mark.new.out.items in
    let before = c.args.out.now.items in
    let me = c.in-Ok.me.now in
    let text = snapshot_shown c.args.slot (FinMap.get me.snapshots c.args.slot) in
    on_ok_weaker c.put_mark.result (λ (put : after ≡ before ++ report_line c.args.line text).
    subst (λ (v : ChunkIs). LineIsShown v.group.told c.args.line (text_of_server (state_of v.group) c.args.server (mark_shown c.args.slot)) before after) c.self.view_is
    (shown_so c.self.inside.group.told c.args.line text (text_of_server (state_of c.self.inside.group) c.args.server (mark_shown c.args.slot)) before after put
    (λ told. mark_is (state_of c.self.inside.group) c.args.server me (c.in-Ok.ensures told) c.args.slot))) (mark_put c.get.result (FinMap.get me.snapshots c.args.slot) c.args.slot (λ text. OnOk c.put_mark.result (after ≡ before ++ report_line c.args.line text)) c.get.ensures c.put_mark.ensures.none c.put_mark.ensures.kept)
