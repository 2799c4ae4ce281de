use Rattle.std.proofs.Common.{◌≡◌, ◌++◌, take}
use Rattle.pf_draw_shapes.specs.Texts.{xml_text}
use Rattle.pf_draw_shapes.proofs.texts.put_xml.Given as goal

abbrev pub invariant-loop-byte : goal.invariant-loop-byte
invariant-loop-byte l = l.out.items ≡ l.fn.out.items ++ xml_text (take l.byte-index l.text)
