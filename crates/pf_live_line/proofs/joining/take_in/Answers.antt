use Rattle.std.proofs.Common.{arith, sym, ◌∙◌, subst}
use Rattle.pf_turn.specs.Own.{AreKnown}
use Rattle.pf_turn.proofs.Lists.{begins_trans}
use Rattle.pf_turn.proofs.Own.{each_longer, known_more}
use Rattle.pf_live_seats.specs.pf_shared.specs.Seats.{gone_of, number_of, root_in, seen_by, splits_of}
use Rattle.pf_live_line.specs.Runs.{IsSince}
use Rattle.pf_live_line.proofs.Joins.{joined_others, joined_gone}
use Rattle.pf_live_line.proofs.joining.take_in.Goals as goal

pub returns-clause-joining : goal.returns-clause-joining
returns-clause-joining g c = let e = c.join.ensures in let j = c.requires.joining in let old = c.args.first.now in let new = c.join.new.seat in let seat = c.args.seat in let n = number_of seat in
    let P = IsSince c.args._plan.now (root_in c.args.group.now) (seen_by c.args._begun.now.value) (splits_of c.args._begun.now.value) (seen_by c.args._submitted.now.value) in record {
      seat = e.seat;
      splits = e.counts.0 ∙ j.splits;
      gone = e.counts.2 ∙ joined_gone n (gone_of old) c.requires.seat.1 j.gone;
      out = let s = e.counts.0 in let o = e.counts.1 in let was = j.out in let low = c.requires.seat.1 in omega arith;
      since = begins_trans (seen_by c.args._begun.now.value) (seen_by old) (seen_by new) j.since e.seen.1;
      known = subst (λ l. AreKnown P l (seen_by new)) (sym e.counts.2) (known_more P n (gone_of old) (seen_by old) (seen_by seat) (seen_by new) j.known e.seen.1 e.gone c.requires.known e.seen.2 e.brought);
      own = each_longer 0 (P 0) (seen_by old) (seen_by new) e.seen.1 e.own j.own;
      strangers = e.strangers;
    }

pub returns-clause-others : goal.returns-clause-others
returns-clause-others g c n low = let e = c.join.ensures in let j = c.requires.joining in let old = c.args.first.now in
    joined_others (number_of c.args.seat) (gone_of old) c.requires.seat.1 j.gone (seen_by c.join.new.seat) (seen_by old) e.own e.gone n low
