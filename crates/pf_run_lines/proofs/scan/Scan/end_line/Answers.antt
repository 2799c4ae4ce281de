use Rattle.std.proofs.Common.{◌≡◌, List, ℕ, [], Result, sym, subst, ◌∙◌}
use Rattle.pf_run_lines.specs.declared.scan.Stop.{Stop}
use Rattle.pf_run_lines.specs.LineScans.{Scanned, Open, fed_line, read_line}
use Rattle.pf_run_lines.specs.ScanView.{Told}
use Rattle.pf_run_lines.proofs.scan.Scan.end_line.Goals as goal

-- what was read is the line, and none has begun behind it, before it is cleared and after
told_of : {S I : Type 0} (r : Result (Unit {0}) Stop) (next now : List ℕ → Scanned S I) (read line begun cleared : List ℕ) → read ≡ line → begun ≡ [] → cleared ≡ [] → Told r (next read) (now begun) → Told r (next line) (now cleared)
told_of r next now read line begun cleared is none empty told = subst (λ l. Told r (next l) (now cleared)) is (subst (λ l. Told r (next read) (now l)) (none ∙ sym empty) told)

pub returns-clause-told : goal.returns-clause-told
returns-clause-told g c =
    let rules = g.R.LineReader.rules in
    let s = c.args.self.now in
    let now = c.read_line-ended.new.self in
    let is : c.deref.result.now ≡ s.begun.items = cc in
    told_of c.read_line-ended.result (λ line. fed_line rules s.items.items s.number s.reader (read_line rules s.number s.reader line)) (Open now.items.items now.number now.reader)
    c.deref.result.now s.begun.items now.begun.items c.clear.new.self.items is c.read_line-ended.ensures.stays c.clear.ensures.items c.read_line-ended.ensures.told
