-- What became of a line by some runs of its threads.
use Rattle.std.specs.Prelude.{◌≡◌, ℕ, zero, suc, ◌+◌, ◌*◌, IsTrue, List}
use Rattle.pf_turn.specs.Lists.{Begins}
use Rattle.pf_disk.specs.declared.disk.Disk.{Ghosts}
use Rattle.pf_leadercell.specs.declared.cell.LeaderCell.{LeaderCell}
use Rattle.pf_live_seats.specs.pf_shared.specs.declared.parts.SharedGroup.{SharedGroup}
use Rattle.pf_live_seats.specs.pf_shared.specs.Seats.{root_in, seen_by, splits_of}
use Rattle.pf_base.specs.declared.live_end.LiveEnd.{LiveEnd}
use Rattle.pf_live_seats.specs.declared.line.HostRings.{HostRings}
use Rattle.pf_live_seats.specs.declared.plan.LinePlan.{LinePlan}
use Rattle.pf_live_seats.specs.Deliveries.{LiveTrace}
use Rattle.pf_live_line.specs.declared.crew.Crew.{Crew}
use Rattle.pf_live_line.specs.Crews.{AllEnded, IsCrew}
use Rattle.pf_live_seats.specs.Ends.{HasEnd}
use Rattle.pf_live_line.specs.Judging.{AllSubmitted, IsPublished, MayGoOn}

module _ {D : Type 0} {disk : Ghosts D} where
  -- some whole runs of the threads, so many
  pub record HasRunOn (group : SharedGroup D disk) (cell : LeaderCell) (plan : LinePlan) (rings : List HostRings) (a : Crew D disk) (runs : ℕ)
      (b : Crew D disk) : Type 0 where
    pub is : IsCrew group cell plan rings b
    pub begins : Begins (seen_by a.seat) (seen_by b.seat)
    pub seats : splits_of b.seat ≡ splits_of a.seat + runs * (plan.workers + 2)
    pub ended : AllEnded plan a.seat → AllEnded plan b.seat

  -- a whole run of the threads, after which the line was judged, and can go on, where the disks tell their content
  pub record HasGoneOn (group : SharedGroup D disk) (cell : LeaderCell) (plan : LinePlan) (rings : List HostRings) (a b : Crew D disk) : Type 0 where
    pub ran : HasRunOn group cell plan rings a 1 b
    pub on : IsTrue (root_in group).told → (before : LiveTrace) × Begins (seen_by a.seat) before × MayGoOn plan (root_in group) before (seen_by b.seat)

  -- so many of them
  abbrev pub HaveGoneOn : SharedGroup D disk → LeaderCell → LinePlan → List HostRings → (runs : ℕ) → (a b : Crew D disk) → Type 0
  HaveGoneOn group cell plan rings zero a b = b ≡ a
  HaveGoneOn group cell plan rings (suc runs) a b = (mid : Crew D disk) × HaveGoneOn group cell plan rings runs a mid × HasGoneOn group cell plan rings mid b

  -- The list went on as that of a line, by one run at least, and after each but the last it could go on. Where the disks tell their content, it has
  -- come to the end that is told, the term of the leader, if one serves, was published, or a greater one, and each write that was taken is submitted
  pub record HasRun (group : SharedGroup D disk) (cell : LeaderCell) (plan : LinePlan) (rings : List HostRings) (a b : Crew D disk) (told : LiveEnd) : Type 0
    where
      pub more : ℕ
      pub ran : HasRunOn group cell plan rings a (more + 1) b
      pub gone : (mid : Crew D disk) × HaveGoneOn group cell plan rings more a mid × HasRunOn group cell plan rings mid 1 b
      pub end : IsTrue (root_in group).told → HasEnd plan (root_in group) (seen_by b.seat) told
      pub published : IsPublished (root_in group) (seen_by b.seat) b.first
      pub submitted : AllSubmitted plan (root_in group) (seen_by b.seat) b.served.items
