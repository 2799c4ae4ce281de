use Rattle.std.proofs.Common.{◌<◌, length, sym, subst, ◌∙◌, arith, Err}
use Rattle.std.proofs.lemmas.Bool.Decides.{nat_tests}
use Rattle.pf_run_lines.specs.LineScans.{read_line}
use Rattle.pf_run_lines.specs.ScanView.{scanned, ScanEnds}
use Rattle.pf_run_lines.proofs.TextPieces.{close_begun, ends_told, line_ended}
use Rattle.pf_run_lines.proofs.scan.Scan.end.Goals as goal

pub returns-in-Err : goal.returns-in-Err
returns-in-Err g c =
    let s = c.args.self in
    let rules = g.R.LineReader.rules in
    let read = read_line rules s.number s.reader s.begun.items in
    let some : 0 < length s.begun.items = grind (arith, nat_tests, c.if-is_empty.false, c.is_empty.ensures) in
    subst (λ j. ScanEnds (Err c.in-Err.stop) j) (sym (close_begun rules s.items.items s.number s.reader s.begun.items some))
    (ends_told rules c.in-Err.stop s.items.items s.number s.reader read (scanned c.end_line.new.self) c.in-Err.ensures.told)

pub returns : goal.returns
returns g c =
    let s = c.args.self in
    let now = c.end_line.new.self in
    let rules = g.R.LineReader.rules in
    let read = read_line rules s.number s.reader s.begun.items in
    let some : 0 < length s.begun.items = grind (arith, nat_tests, c.if-is_empty.false, c.is_empty.ensures) in
    subst (λ j. ScanEnds c.finish-2.result j)
    (sym (close_begun rules s.items.items s.number s.reader s.begun.items some
    ∙ line_ended rules s.items.items s.number s.reader read now.items.items now.number now.reader now.begun.items c.in_default.ensures.told))
    c.finish-2.ensures
