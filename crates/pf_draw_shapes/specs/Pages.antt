-- A picture as one document.
use Rattle.std.specs.Prelude.{ℕ, List, [], ◌++◌, codes}
use Rattle.std.specs.List.{flat_map}
use Rattle.pf_draw_shapes.specs.Shapes.{shape_svg, two_decimals}
use Rattle.pf_draw_shapes.specs.declared.shapes.Shape.{Shape}
use Rattle.pf_draw_shapes.specs.declared.pages.TheConstants.{FIXED}

-- the begin of a document of so many pixels
abbrev pub frame_svg : (width height : ℕ) → List ℕ
frame_svg width height =
    two_decimals (codes "<svg xmlns='http://www.w3.org/2000/svg' role='img' width='") width (codes "' height='") height (codes "' viewBox='0 0 ")
    ++ two_decimals [] width (codes " ") height (codes "'>\n")

-- its begin, what each picture has, and the shapes in their order
abbrev pub page_svg : (width height : ℕ) → List Shape → List ℕ
page_svg width height shapes = frame_svg width height ++ FIXED.now ++ flat_map shape_svg shapes ++ codes "</svg>"
