use Rattle.std.proofs.Common.{◌∙◌}
use Rattle.pf_shared.specs.Behinds.{list_of}
use Rattle.pf_shared.specs.Calls.{Finds}
use Rattle.pf_shared.specs.Looks.{read_handed_out}
use Rattle.pf_shared.specs.Seats.{IsAlone, number_of, root_in, seen_by}
use Rattle.pf_shared.proofs.LookEntries.{grew_looked}
use Rattle.pf_live_looks.proofs.LooksTold.{take_err, take_ok}
use Rattle.pf_live_looks.proofs.looks.take_read.Goals as goal

pub end-requires-clause-grew : goal.end-requires-clause-grew
end-requires-clause-grew g c = let t = c.begin-turn.ensures in
    grew_looked _ c.number-stamp.result c.number-stamp.ensures _ c.begin-turn.result.value c.take_read-answer.new.self t.seen.0 c.take_read-answer.result (read_handed_out c.args.number) c.take_read-answer.ensures.ok c.take_read-answer.ensures.err

pub returns-clause-look : goal.returns-clause-look
returns-clause-look g c = let t = c.begin-turn.ensures in let s = c.args.seat.now in let b = c.begin-turn.result.value in let n = number_of s in
    let finds : Finds n (IsAlone s) (seen_by s) (list_of b) = record { begins = t.seen.1; own = t.own; exact = λ a. t.alone a.0 a.1 } in
    let e = c.take_read-answer.ensures in
    take_ok (root_in c.args.shared.now) n c.number-stamp.result (c.number-stamp.ensures ∙ t.seat.1.0) (IsAlone s) (seen_by s) b t.root finds (seen_by c.end.new.seat) c.args.number c.take_read-answer.result c.take_read-answer.new.self c.end.ensures.seen e.ok e.handed e.numbered

pub returns-clause-err : goal.returns-clause-err
returns-clause-err g c = let t = c.begin-turn.ensures in let s = c.args.seat.now in let b = c.begin-turn.result.value in let n = number_of s in
    let finds : Finds n (IsAlone s) (seen_by s) (list_of b) = record { begins = t.seen.1; own = t.own; exact = λ a. t.alone a.0 a.1 } in
    take_err (root_in c.args.shared.now) n c.number-stamp.result (c.number-stamp.ensures ∙ t.seat.1.0) (IsAlone s) (seen_by s) b t.root finds (seen_by c.end.new.seat) c.take_read-answer.result c.take_read-answer.new.self c.end.ensures.seen c.take_read-answer.ensures.err
