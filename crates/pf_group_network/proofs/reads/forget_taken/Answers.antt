use Rattle.std.proofs.Common.{sym, subst, ◌∙◌, arith}
use Rattle.pf_group_network.specs.Unread.{IsNumberAmong}
use Rattle.pf_group_network.proofs.Unread.{among_fewer, is_other}
use Rattle.pf_group_network.proofs.reads.forget_taken.Goals as goal

pub loop-number-preserved : goal.loop-number-preserved
loop-number-preserved c =
    let l = c.loop-number in
    record {
      among = λ n bytes at is. among_fewer c.pop.new.self.items c.in-Some.number n (is_other c.args.list.now c.in-Some.number n bytes (sym c.has_answer_at.ensures ∙ c.if-has_answer_at.false) at)
          (subst (λ xs. IsNumberAmong xs n) c.in-Some.ensures.items (l.invariant.among n bytes at is));
      len = omega (arith, l.invariant.len, c.in-Some.ensures.len);
      capacity = omega (arith, l.invariant.capacity, c.pop.ensures.capacity);
    }
