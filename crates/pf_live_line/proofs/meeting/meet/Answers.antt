use Rattle.std.proofs.Common.{◌≡◌, ◌++◌, Some, length, slice_get, refl, sym, subst, ap, ◌∙◌}
use Rattle.pf_turn.specs.Lists.{Begins}
use Rattle.pf_rings.specs.Passes.{put_by, taken_by}
use Rattle.pf_live_seats.specs.Submitters.{AreAnswered}
use Rattle.pf_live_seats.specs.Writes.{first_requests}
use Rattle.pf_live_seats.proofs.Pairs.{pair_at}
use Rattle.pf_live_line.proofs.PassesMet.{firsts_taken}
use Rattle.pf_live_line.proofs.meeting.meet.Goals as goal

pub returns-clause-met : goal.returns-clause-met
returns-clause-met g c = let plan = c.args.line.now.plan in let rings = c.args.line.now.rings.items in let a = c.args.host in let s = c.args.served in let pair = c.in-Some.rings.now in let e = c.meet-pass.ensures in let f = c.meet-told.ensures in
    let there : slice_get rings a.host ≡ Some pair = pair_at rings c.deref.result.now a.host pair c.deref.ensures.value c.in-Some.ensures.lookup.0 c.in-Some.ensures.lookup.1 in
    let h = c.requires.host.is in let t = c.requires.served.is.counted in
    let order : Begins (taken_by s.pass) (put_by a.pass) = e.order in let answers : Begins (taken_by a.answers) (put_by s.answers) = f.order in record {
      number = refl;
      host = record { pair = pair; there = there; is = record { pass = e.passes.0; answers = f.passes.1; host = h.host; put = e.host.0 ∙ h.put; within = h.within; told = ap length f.server.1 ∙ h.told; before = h.before; once = h.once } };
      served = record {
        pair = pair;
        there = there;
        is = record {
          pass = e.passes.1;
          answers = f.passes.0;
          counted = record { count = ap length e.server.1 ∙ t.count; few = t.few; answered = subst (λ l. AreAnswered l (taken_by c.meet-pass.result.1) s.standing) (sym f.host.0) (subst (λ l. AreAnswered (put_by s.answers) l s.standing) (sym e.server.1) t.answered) };
        };
      };
      order = (order.0, ap (λ l. l ++ order.0) e.server.1 ∙ (order.1 ∙ sym e.host.0));
      fed = e.server.1 ∙ (firsts_taken plan.sectors a.host a.next (taken_by s.pass) (order.0, order.1 ∙ h.put) ∙ ap (first_requests plan.sectors a.host) t.count);
      answers = (answers.0, ap (λ l. l ++ answers.0) f.server.1 ∙ (answers.1 ∙ sym f.host.0));
    }
