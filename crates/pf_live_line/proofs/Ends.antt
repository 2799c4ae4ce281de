-- A line that can go on has no end.
use Rattle.std.proofs.Common.{◌≡◌, ℕ, ◌<◌, inl, inr, arith}
use Rattle.pf_live_seats.specs.pf_group.specs.GroupIs.{GroupIs}
use Rattle.pf_base.specs.declared.live_end.LiveEnd.{LiveEnd}
use Rattle.pf_base.specs.declared.live_end.LiveEnd.TheVariants.{Done, Stalled, TurnsSpent}
use Rattle.pf_live_seats.specs.declared.plan.LinePlan.{LinePlan}
use Rattle.pf_live_seats.specs.Deliveries.{LiveTrace}
use Rattle.pf_live_seats.specs.Ends.{HasEnd, WaitsInVain}
use Rattle.pf_live_seats.proofs.Ends.{none_left}
use Rattle.pf_live_line.specs.Judging.{CanBeHanded, HasNewLeader, MayGoOn}

module _ (plan : LinePlan) (root : GroupIs) (before list : LiveTrace) (same : HasNewLeader root before list → ⊥) where
  not_in_vain : (h : ℕ) → CanBeHanded plan root before list h → WaitsInVain plan root list h → ⊥
  not_in_vain h can (inl low) = let all = can.no_slot in omega (arith, low, all)
  not_in_vain h can (inr (inl none)) = none can.leader.1 can.leader.0 can.leads.0
  not_in_vain h can (inr (inr refused)) = elim can.fresh [
    | inl new ↦ same new
    | inr other ↦ other refused
  ]

  pub no_end : MayGoOn plan root before list → (e : LiveEnd) → HasEnd plan root list e → ⊥
  no_end (inl left) Done e = none_left plan root list left.0 e.1 left.1
  no_end (inl left) Stalled e = none_left plan root list left.0 e.0 left.1
  no_end (inl left) TurnsSpent e = let few = left.2 in let spent = e.0 in omega (arith, few, spent)
  no_end (inr idle) Done e = let o = idle.2.open_still in let all = e.0 idle.1 o.0 in let less = o.1 in omega (arith, all, less)
  no_end (inr idle) Stalled e = not_in_vain idle.1 idle.2 (e.2 idle.1 idle.2.open_still)
  no_end (inr idle) TurnsSpent e = none_left plan root list e.1.0 idle.0 e.1.1
