use Rattle.std.proofs.Common.{◌≡◌, length, sym, subst, arith}
use Rattle.std.proofs.lemmas.Bool.Decides.{nat_tests}
use Rattle.std.proofs.lemmas.List.{nil_from_length}
use Rattle.pf_run_lines.specs.LineScans.{fed, fed_all}
use Rattle.pf_run_lines.specs.ScanView.{scanned, Told}
use Rattle.pf_run_lines.proofs.Pieces.{whole_line, feed_stops}
use Rattle.pf_run_lines.proofs.scan.Scan.take_line.Goals as goal

pub read_line-requires : goal.read_line-requires
read_line-requires g c =
    let empty : length c.args.self.now.begun.items ≡ 0 = grind (arith, nat_tests, c.if-is_empty.true, c.is_empty.ensures) in
    nil_from_length _ empty

pub returns-then-is_empty-clause-told : goal.returns-then-is_empty-clause-told
returns-then-is_empty-clause-told g c =
    let s = c.args.self.now in
    let empty : length s.begun.items ≡ 0 = grind (arith, nat_tests, c.if-is_empty.true, c.is_empty.ensures) in
    subst (λ next. Told c.read_line.result next (scanned c.read_line.new.self))
    (sym (whole_line g.R.LineReader.rules s.items.items s.number s.reader s.begun.items c.args.bytes.now c.requires (nil_from_length _ empty))) c.read_line.ensures.told

pub returns-in-Err-clause-told : goal.returns-in-Err-clause-told
returns-in-Err-clause-told g c =
    feed_stops g.R.LineReader.rules c.in-Err.stop (fed_all g.R.LineReader.rules (scanned c.args.self.now) c.args.bytes.now) (scanned c.grow.new.self) c.in-Err.ensures.told

pub returns-clause-told : goal.returns-clause-told
returns-clause-told g c =
    subst (λ s. Told c.end_line.result (fed g.R.LineReader.rules s 10) (scanned c.end_line.new.self)) (sym c.in_default.ensures.told) c.end_line.ensures.told
