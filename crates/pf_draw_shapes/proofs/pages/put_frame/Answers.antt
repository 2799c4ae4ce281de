use Rattle.std.proofs.lemmas.Result.{on_ok_weaker}
use Rattle.pf_draw_shapes.proofs.Puts.{both_put}
use Rattle.pf_draw_shapes.proofs.pages.put_frame.Goals as goal

pub returns : goal.returns
returns c =
    on_ok_weaker c.put_two-2.result
    (λ put. both_put c.args.out.now.items c.put_two.new.out.items c.put_two-2.new.out.items _ _ c.in_ok-put_two.ensures put)
    c.put_two-2.ensures
