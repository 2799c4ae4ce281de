use Rattle.std.proofs.Common.{◌≡◌, ◌+◌, ◌-◌, take, drop, length, sym, ap, subst, ◌∙◌, Err, arith, length-drop}
use Rattle.std.proofs.lemmas.List.{length-take-le, take_all}
use Rattle.pf_run_lines.specs.LineScans.{fed_all}
use Rattle.pf_run_lines.specs.ScanView.{scanned, Told, room}
use Rattle.pf_run_lines.proofs.Pieces.{all_other, front_other, found_within, line_fed, line_stops, room_left}
use Rattle.pf_run_lines.proofs.scan.Scan.feed.Goals as goal

pub take_line-requires : goal.take_line-requires
take_line-requires g c = front_other c.loop-count.rest.now c.in-Some.count (sym c.in-Some.ensures)

pub grow-requires : goal.grow-requires
grow-requires g c = all_other c.loop-count.rest.now (sym c.in_default.ensures)

pub returns-in-Err-clause-told : goal.returns-in-Err-clause-told
returns-in-Err-clause-told g c =
    let now = scanned c.take_line.new.self in
    subst (λ s. Told (Err c.in-Err.stop) s now) (sym c.loop-count.invariant.told)
    (line_stops g.R.LineReader.rules c.in-Err.stop (scanned c.loop-count.self) c.loop-count.rest.now c.in-Some.count now (sym c.in-Some.ensures) c.in-Err.ensures.told)

pub loop-count-preserved : goal.loop-count-preserved
loop-count-preserved g c =
    let rest = c.loop-count.rest.now in
    let i = c.in-Some.count in
    let found = sym c.in-Some.ensures in
    let whole = found_within rest i found in
    let left : take (length rest - (i + 1)) (drop (i + 1) rest) ≡ drop (i + 1) rest = take_all (length rest - (i + 1)) (drop (i + 1) rest) (omega (arith, length-drop (i + 1) rest)) in
    record {
      told = c.loop-count.invariant.told ∙ line_fed g.R.LineReader.rules (scanned c.loop-count.self) rest i found
          ∙ ap (λ s. fed_all g.R.LineReader.rules s (drop (i + 1) rest)) c.in_default-take_line.ensures.told ∙ ap (fed_all g.R.LineReader.rules (scanned c.take_line.new.self)) (sym left);
      room = room_left (room c.args.self.now) (room c.loop-count.self) (room c.take_line.new.self) (length c.args.bytes.now) (length rest)
          (length (take (length rest - (i + 1)) (drop (i + 1) rest))) (length (take i rest)) i
          c.loop-count.invariant.room c.in_default-take_line.ensures.room (length-take-le i rest (omega (arith, whole)))
          (omega (arith, whole, ap length left, length-drop (i + 1) rest));
    }
