-- The first seat, while it takes in the seats of a run.
use Rattle.std.specs.Prelude.{◌≡◌, ℕ, ◌+◌, ◌<◌, []}
use Rattle.pf_turn.specs.Lists.{Begins, entries_of}
use Rattle.pf_turn.specs.Own.{AreKnown, EachOf, down_from}
use Rattle.pf_disk.specs.declared.disk.Disk.{Ghosts}
use Rattle.pf_live_seats.specs.pf_shared.specs.declared.parts.GroupSeat.{GroupSeat}
use Rattle.pf_live_seats.specs.pf_shared.specs.declared.parts.SharedGroup.{SharedGroup}
use Rattle.pf_live_seats.specs.pf_shared.specs.Seats.{IsFirst, IsSeatOf, gone_of, out_of, root_in, seen_by, splits_of}
use Rattle.pf_live_seats.specs.declared.plan.LinePlan.{LinePlan}
use Rattle.pf_live_line.specs.Runs.{IsSince}

module _ {D : Type 0} {disk : Ghosts D} where
  -- It took in the seats with the numbers up to j. The run began when it was as in `begun`, and `submitted` is the seat that submitted
  pub record IsJoining (group : SharedGroup D disk) (plan : LinePlan) (begun submitted : GroupSeat D disk) (j : ℕ) (first : GroupSeat D disk) : Type 0 where
    pub seat : IsSeatOf group first × IsFirst first
    pub splits : splits_of first ≡ splits_of begun + plan.workers + 2
    pub gone : gone_of first ≡ down_from j
    pub out : out_of first + j ≡ splits_of first
    pub since : Begins (seen_by begun) (seen_by first)
    pub known : AreKnown (IsSince plan (root_in group) (seen_by begun) (splits_of begun) (seen_by submitted)) (gone_of first) (seen_by first)
    pub own : EachOf 0 (IsSince plan (root_in group) (seen_by begun) (splits_of begun) (seen_by submitted) 0) (seen_by first)
    pub strangers : (n : ℕ) → splits_of first < n → entries_of n (seen_by first) ≡ []
