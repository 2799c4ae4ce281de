use Rattle.std.proofs.Common.{ℕ, ◌<◌, IsTrue}
use Rattle.pf_live_seats.specs.pf_shared.specs.Seats.{root_in, seen_by}
use Rattle.pf_live_line.specs.Judging.{AreSubmitted, HasJudged, RequestIsRefusedBy}
use Rattle.pf_live_line.proofs.crew.Crew.hand_all.Given as goal

abbrev pub invariant-loop-host : goal.invariant-loop-host
invariant-loop-host g l = HasJudged l.line.group l.line.cell l.line.plan l.line.rings.items l.initial.self l.self × (IsTrue (root_in l.line.group).told → (h : ℕ) → h < l.host → RequestIsRefusedBy l.line.plan (root_in l.line.group) (seen_by l.self.seat) l.server l.self.served.items h)
    × ((h : ℕ) → h < l.host → AreSubmitted (root_in l.line.group) (seen_by l.self.seat) l.self.served.items h)
