use Rattle.std.proofs.Common.{◌≡◌, ◌++◌, take}
use Rattle.std.specs.List.{flat_map}
use Rattle.pf_draw_shapes.specs.Shapes.{shape_svg}
use Rattle.pf_draw_shapes.proofs.pages.put_shapes.Given as goal

abbrev pub invariant-loop-shape : goal.invariant-loop-shape
invariant-loop-shape l = l.out.items ≡ l.fn.out.items ++ flat_map shape_svg (take l.shape-index l.shapes)
