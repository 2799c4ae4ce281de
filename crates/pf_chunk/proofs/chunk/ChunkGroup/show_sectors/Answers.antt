use Rattle.std.proofs.Common.{◌≡◌, ◌++◌, subst}
use Rattle.std.proofs.lemmas.Result.{on_ok_weaker}
use Rattle.pf_report.specs.Texts.{sectors_text, report_line}
use Rattle.pf_group_rounds.specs.pf_group.specs.GroupIs.{state_of}
use Rattle.pf_chunk.specs.Showing.{LineIsShown, sectors_shown, text_of_server}
use Rattle.pf_chunk.specs.Views.{ChunkIs}
use Rattle.pf_chunk.proofs.Lines.{sectors_are, shown_so}
use Rattle.pf_chunk.proofs.chunk.ChunkGroup.show_sectors.Goals as goal

pub returns-in-Ok-clause-ok : goal.returns-in-Ok-clause-ok
returns-in-Ok-clause-ok g c =
    let after = c.put_sectors.new.out.items in
    let before = c.args.out.now.items in
    let me = c.in-Ok.me.now in
    let text = sectors_text me.sectors in
    on_ok_weaker c.put_sectors.result (λ (put : after ≡ before ++ report_line c.args.line text).
    subst (λ (v : ChunkIs). LineIsShown v.group.told c.args.line (text_of_server (state_of v.group) c.args.server sectors_shown) before after) c.self.view_is
    (shown_so c.self.inside.group.told c.args.line text (text_of_server (state_of c.self.inside.group) c.args.server sectors_shown) before after put
    (λ told. sectors_are (state_of c.self.inside.group) c.args.server me (c.in-Ok.ensures told)))) c.put_sectors.ensures.ok
