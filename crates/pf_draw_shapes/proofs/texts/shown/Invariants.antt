use Rattle.std.proofs.Common.{◌≡◌, take}
use Rattle.pf_draw_shapes.specs.Texts.{shown_text}
use Rattle.pf_draw_shapes.proofs.texts.shown.Given as goal

abbrev pub invariant-loop-byte : goal.invariant-loop-byte
invariant-loop-byte l = l.out.items ≡ shown_text (take l.byte-index l.bytes)
