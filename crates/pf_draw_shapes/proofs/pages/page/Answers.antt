use Rattle.std.proofs.Common.{ℕ, List, ◌++◌, codes, ap, ◌∙◌}
use Rattle.std.specs.List.{flat_map}
use Rattle.pf_draw_shapes.specs.Pages.{frame_svg}
use Rattle.pf_draw_shapes.specs.Shapes.{shape_svg}
use Rattle.pf_draw_shapes.specs.declared.pages.TheConstants.{FIXED}
use Rattle.pf_draw_shapes.proofs.pages.page.Goals as goal

pub returns : goal.returns
returns c =
    let frame = frame_svg c.args.width c.args.height in
    let shapes = flat_map shape_svg c.args.shapes.now in
    let end = codes "</svg>" in
    c.in_ok-put_text-2.ensures.ok
    ∙ ap (λ (l : List ℕ). l ++ end)
    (c.in_ok-put_shapes.ensures
    ∙ ap (λ (l : List ℕ). l ++ shapes)
    (c.in_ok-put_text.ensures.ok
    ∙ ap (λ (l : List ℕ). l ++ FIXED.now)
    (c.in_ok-put_frame.ensures ∙ ap (λ (l : List ℕ). l ++ frame) c.new-out.ensures.items)))
