use Rattle.std.proofs.Common.{◌≡◌, IsTrue}
use Rattle.pf_live_seats.specs.pf_shared.specs.Seats.{root_in, seen_by}
use Rattle.pf_live_line.specs.Judging.{HasLooked}
use Rattle.pf_live_line.proofs.JudgedEnds.{SoFar}
use Rattle.pf_live_line.proofs.crew.Crew.judge_hosts.Given as goal

abbrev pub invariant-loop-host : goal.invariant-loop-host
invariant-loop-host g l = HasLooked l.line.group l.line.cell l.line.plan l.line.rings.items l.initial.self l.self × (IsTrue (root_in l.line.group).told → SoFar l.line.plan (root_in l.line.group) (seen_by l.self.seat) l.leader l.waits l.host) × (l.self.first ≡ l.initial.self.first)
