use Rattle.std.proofs.Common.{◌≡◌, ◌≤◌, arith, length, take}
use Rattle.std.proofs.lemmas.List.{length-take-le}
use Rattle.pf_io.specs.Causes.{Rose}
use Rattle.pf_run_lines.specs.Runs.{IsUndecided}
use Rattle.pf_run_lines.specs.ScanView.{scanned}
use Rattle.pf_run_lines.proofs.TextPieces.{read_start, read_more, read_none, refused_text, ended_result, accepted_result, refused_at_end, refused_in_piece, undecided}
use Rattle.pf_run_lines.proofs.scan.read_lines.Goals as goal

pub loop-count-init : goal.loop-count-init
loop-count-init g c = record {
  read = read_start g.R.LineReader.rules c.args.reader (g.S.Source.left c.args.source.now) (scanned c.new-scan.result) c.new-scan.ensures;
  later = omega arith;
}

pub returns-then-count-eq0-clause-stopped : goal.returns-then-count-eq0-clause-stopped
returns-then-count-eq0-clause-stopped g c =
    let left = g.S.Source.left in
    let none : c.in-Ok.count ≡ 0 = c.if-count-eq0.true in
    let read = read_none g.R.LineReader.rules c.args.reader (left c.args.source.now) (left c.loop-count.source) (left c.read.new.self) (scanned c.loop-count.scan) c.read.new.buf c.in-Ok.count none
    c.loop-count.invariant.read c.in-Ok.ensures.bytes.0 in
    let end = c.in-Ok.ensures.bytes.1 none (omega (arith, c.read.auto.buf)) in
    ended_result g.R.LineReader.rules c.args.reader c.end.result (left c.args.source.now) (left c.read.new.self) (scanned c.loop-count.scan) (Rose (g.S.Source.faults c.args.source.now) (g.S.Source.faults c.read.new.self) × IsUndecided g.R.LineReader.rules c.args.reader (left c.args.source.now) (left c.read.new.self)) read end c.end.ensures

pub returns-then-count-eq0-clause-accepted : goal.returns-then-count-eq0-clause-accepted
returns-then-count-eq0-clause-accepted g c =
    let left = g.S.Source.left in
    let none : c.in-Ok.count ≡ 0 = c.if-count-eq0.true in
    let read = read_none g.R.LineReader.rules c.args.reader (left c.args.source.now) (left c.loop-count.source) (left c.read.new.self) (scanned c.loop-count.scan) c.read.new.buf c.in-Ok.count none
    c.loop-count.invariant.read c.in-Ok.ensures.bytes.0 in
    let end = c.in-Ok.ensures.bytes.1 none (omega (arith, c.read.auto.buf)) in
    accepted_result g.R.LineReader.rules c.args.reader c.end.result (left c.args.source.now) (left c.read.new.self) (scanned c.loop-count.scan) read end c.end.ensures

pub returns-in-Err-clause-stopped : goal.returns-in-Err-clause-stopped
returns-in-Err-clause-stopped g c =
    let left = g.S.Source.left in
    refused_text g.R.LineReader.rules c.args.reader c.in-Err.stop (left c.args.source.now) (left c.loop-count.source) (left c.read.new.self) (scanned c.loop-count.scan) (scanned c.feed.new.self) (take c.in-Ok.count c.read.new.buf)
    (Rose (g.S.Source.faults c.args.source.now) (g.S.Source.faults c.read.new.self) × IsUndecided g.R.LineReader.rules c.args.reader (left c.args.source.now) (left c.read.new.self)) c.loop-count.invariant.read c.in-Ok.ensures.bytes.0 c.in-Err.ensures.told

pub loop-count-preserved : goal.loop-count-preserved
loop-count-preserved g c =
    let left = g.S.Source.left in
    record {
      read = read_more g.R.LineReader.rules c.args.reader (left c.args.source.now) (left c.loop-count.source) (left c.read.new.self) (scanned c.loop-count.scan) (scanned c.feed.new.self) (take c.in-Ok.count c.read.new.buf)
          c.loop-count.invariant.read c.in-Ok.ensures.bytes.0 c.in_default-feed.ensures.told;
      later = omega (arith, c.loop-count.invariant.later, c.read.ensures.cause.later);
    }

pub returns-in_default-clause-stopped : goal.returns-in_default-clause-stopped
returns-in_default-clause-stopped g c =
    let left = g.S.Source.left in
    let s = c.loop-count.scan in (
      omega (arith, c.in_default.ensures.cause.failed, c.loop-count.invariant.later),
      undecided g.R.LineReader.rules c.args.reader (left c.args.source.now) (left c.loop-count.source) (left c.read.new.self) s.items.items s.number s.reader s.begun.items c.loop-count.invariant.read c.in_default.ensures.bytes,
    )

pub returns-then-count-eq0-clause-piece : goal.returns-then-count-eq0-clause-piece
returns-then-count-eq0-clause-piece g c =
    let left = g.S.Source.left in
    let s = c.loop-count.scan in
    let none : c.in-Ok.count ≡ 0 = c.if-count-eq0.true in
    let read = read_none g.R.LineReader.rules c.args.reader (left c.args.source.now) (left c.loop-count.source) (left c.read.new.self) (scanned s) c.read.new.buf c.in-Ok.count none c.loop-count.invariant.read c.in-Ok.ensures.bytes.0 in
    let end = c.in-Ok.ensures.bytes.1 none (omega (arith, c.read.auto.buf)) in
    refused_at_end g.R.LineReader.rules c.args.reader c.end.result (left c.args.source.now) (left c.read.new.self) s.items.items s.number s.reader s.begun.items read end c.end.ensures

pub returns-in-Err-clause-piece : goal.returns-in-Err-clause-piece
returns-in-Err-clause-piece g c =
    let left = g.S.Source.left in
    let s = c.loop-count.scan in
    let piece = take c.in-Ok.count c.read.new.buf in
    let short : length piece ≤ 4096 = omega (arith, length-take-le c.in-Ok.count c.read.new.buf c.in-Ok.ensures.bound, c.in-Ok.ensures.bound, c.read.auto.buf) in
    refused_in_piece g.R.LineReader.rules c.args.reader c.in-Err.stop (left c.args.source.now) (left c.loop-count.source) (left c.read.new.self) s.items.items s.number s.reader s.begun.items (scanned c.feed.new.self) piece
    c.loop-count.invariant.read c.in-Ok.ensures.bytes.0 short c.in-Err.ensures.told
