-- The workers of a run, in a list.
use Rattle.std.specs.Prelude.{◌≡◌, ℕ, ◌+◌, List, [], ◌∷◌}
use Rattle.pf_disk.specs.declared.disk.Disk.{Ghosts}
use Rattle.pf_leadercell.specs.declared.cell.LeaderCell.{LeaderCell}
use Rattle.pf_live_seats.specs.pf_shared.specs.declared.parts.GroupSeat.{GroupSeat}
use Rattle.pf_live_seats.specs.pf_shared.specs.declared.parts.SharedGroup.{SharedGroup}
use Rattle.pf_live_seats.specs.pf_shared.specs.Seats.{number_of, seen_by, splits_of}
use Rattle.pf_live_seats.specs.declared.hosting.HostSeat.{HostSeat}
use Rattle.pf_live_seats.specs.declared.line.HostRings.{HostRings}
use Rattle.pf_live_seats.specs.declared.plan.LinePlan.{LinePlan}
use Rattle.pf_live_seats.specs.declared.serving.Served.{Served}
use Rattle.pf_live_seats.specs.declared.submitting.Submitter.{Submitter}
use Rattle.pf_live_seats.specs.declared.switching.Switch.{Switch}
use Rattle.pf_live_line.specs.declared.worker.Worker.{Worker}
use Rattle.pf_live_line.specs.declared.worker.Worker.TheVariants as any
use Rattle.pf_live_seats.specs.Submitters.{IsServedIn, IsSubmitter}
use Rattle.pf_live_seats.specs.Switches.{IsSwitch}
use Rattle.pf_live_seats.specs.Workers.{IsApplier}
use Rattle.pf_live_seats.specs.Writes.{IsHostIn}

-- hosts with the numbers from h on, and below `end`
abbrev pub AreHosts : (plan : LinePlan) (rings : List HostRings) (end h : ℕ) → List HostSeat → Type 0
AreHosts plan rings end h [] = h ≡ end
AreHosts plan rings end h (a ∷ xs) = (a.host ≡ h) × IsHostIn plan rings a × AreHosts plan rings end (h + 1) xs

-- and what the worker that submits knows of them
abbrev pub HostsAreServed : (plan : LinePlan) (rings : List HostRings) (end h : ℕ) → List Served → Type 0
HostsAreServed plan rings end h [] = h ≡ end
HostsAreServed plan rings end h (a ∷ xs) = IsServedIn plan rings h a × HostsAreServed plan rings end (h + 1) xs

module _ {D : Type 0} {disk : Ghosts D} (group : SharedGroup D disk) (cell : LeaderCell) (plan : LinePlan) (rings : List HostRings) where
  -- hosts with the numbers from h on, and seats that apply with the numbers from n on, in any order
  abbrev pub AreCounted : (hosts_end seats_end h n : ℕ) → List (Worker D disk) → Type 0
  AreCounted hosts_end seats_end h n [] = (h ≡ hosts_end) × (n ≡ seats_end)
  AreCounted hosts_end seats_end h n (any.Host a ∷ xs) = (a.host ≡ h) × IsHostIn plan rings a × AreCounted hosts_end seats_end (h + 1) n xs
  AreCounted hosts_end seats_end h n (any.Apply a ∷ xs) = (number_of a.seat ≡ n) × IsApplier group a × AreCounted hosts_end seats_end h (n + 1) xs
  AreCounted hosts_end seats_end h n (a ∷ xs) = ⊥

  pub record IsSubmitting (begun : GroupSeat D disk) (a : Submitter D disk) : Type 0 where
    pub is : IsSubmitter group cell plan rings a
    pub number : number_of a.seat ≡ splits_of begun + 1
    pub since : seen_by a.begun.value ≡ seen_by begun

  pub record IsDelivering (begun : GroupSeat D disk) (a : Switch D disk) : Type 0 where
    pub is : IsSwitch group cell plan.turns a
    pub number : number_of a.seat ≡ splits_of begun + 2
    pub since : seen_by a.begun.value ≡ seen_by begun

  -- the workers of a run that began when the first seat was as in `begun`: the one that submits, the switch, hosts and those that apply
  abbrev pub AreMustered : (begun : GroupSeat D disk) (hosts_end seats_end : ℕ) → List (Worker D disk) → Type 0
  AreMustered begun hosts_end seats_end (any.Submit s ∷ (any.Switch t ∷ xs)) =
      IsSubmitting begun s × IsDelivering begun t × AreCounted hosts_end seats_end 0 (splits_of begun + 3) xs
  AreMustered begun hosts_end seats_end xs = ⊥
