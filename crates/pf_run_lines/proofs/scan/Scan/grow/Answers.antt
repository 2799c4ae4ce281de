use Rattle.std.proofs.Common.{◌≡◌, ◌+◌, ◌<◌, ◌≤◌, ◌++◌, length, ap, sym, ◌∙◌, arith, rules}
use Rattle.std.proofs.lemmas.Bool.Decides.{nat_tests}
use Rattle.pf_run_lines.specs.LineScans.{Open}
use Rattle.pf_run_lines.proofs.Pieces.{piece_fits, piece_too_late, piece_too_long}
use Rattle.pf_run_lines.proofs.scan.Scan.grow.Goals as goal

pub returns-then-self-gt-LINES-clause-told : goal.returns-then-self-gt-LINES-clause-told
returns-then-self-gt-LINES-clause-told g c =
    let s = c.args.self.now in
    let many : 100000 < s.number = grind (arith, nat_tests, c.if-self-gt-LINES.true) in
    let empty : length s.begun.items ≡ 0 = grind (arith, many, s.started) in
    let some : 0 < length c.args.bytes.now = grind (arith, nat_tests, c.if-is_empty.false, c.is_empty.ensures) in
    piece_too_late g.R.LineReader.rules s.items.items s.number s.reader s.begun.items c.args.bytes.now c.requires many empty some

pub returns-then-bytes-len-clause-told : goal.returns-then-bytes-len-clause-told
returns-then-bytes-len-clause-told g c =
    let s = c.args.self.now in
    let few : s.number ≤ 100000 = grind (arith, nat_tests, c.if-self-gt-LINES.false) in
    let long : 1024 < length s.begun.items + length c.args.bytes.now = grind (arith, nat_tests, c.if-bytes-len.true, s.short) in
    piece_too_long g.R.LineReader.rules s.items.items s.number s.reader s.begun.items c.args.bytes.now c.requires few s.short long

pub returns-clause-told : goal.returns-clause-told
returns-clause-told g c =
    let s = c.args.self.now in
    let few : s.number ≤ 100000 = grind (arith, nat_tests, c.if-self-gt-LINES.false) in
    let short : length s.begun.items + length c.args.bytes.now ≤ 1024 = grind (arith, nat_tests, c.if-bytes-len.false, s.short) in
    let more : c.extend_from_slice.new.self.items ≡ s.begun.items ++ c.args.bytes.now = search rules in
    piece_fits g.R.LineReader.rules s.items.items s.number s.reader s.begun.items c.args.bytes.now c.requires few short
    ∙ ap (Open s.items.items s.number s.reader) (sym more)
