-- The three ends of a line.
use Rattle.std.proofs.Common.{◌≡◌, ℕ, ◌<◌, Some, arith, refl}
use Rattle.pf_shared.specs.pf_group.specs.GroupIs.{GroupIs}
use Rattle.pf_base.specs.declared.live_end.LiveEnd.{LiveEnd}
use Rattle.pf_base.specs.declared.live_end.LiveEnd.TheVariants.{Done, Stalled, TurnsSpent}
use Rattle.pf_shared.specs.Since.{state_by_now}
use Rattle.pf_live_seats.specs.declared.plan.LinePlan.{LinePlan}
use Rattle.pf_live_seats.specs.Deliveries.{LiveTrace, least_left_in_line}
use Rattle.pf_live_seats.specs.Ends.{HasEnd, HostIsOpen, NoneIsLeft}
use Rattle.pf_live_seats.specs.Submissions.{acked_of_host}

module _ (plan : LinePlan) (root : GroupIs) (list : LiveTrace) where
  pub done_open : ((h : ℕ) → h < plan.hosts → acked_of_host root h list ≡ plan.writes) → (h : ℕ) × HostIsOpen plan root list h → ⊥
  done_open all one = let is = all one.0 one.1.0 in let low = one.1.1 in omega arith

  pub none_left : (k : ℕ) → NoneIsLeft root list → least_left_in_line (state_by_now root list) list ≡ Some k → ⊥
  none_left k none some = cc

  -- at most one holds
  pub one_end : (d e : LiveEnd) → HasEnd plan root list d → HasEnd plan root list e → d ≡ e
  one_end Done Done a b = refl
  one_end Done Stalled a b = absurd (done_open a.0 b.1)
  one_end Done TurnsSpent a b = absurd (none_left b.1.0 a.1 b.1.1)
  one_end Stalled Done a b = absurd (done_open b.0 a.1)
  one_end Stalled Stalled a b = refl
  one_end Stalled TurnsSpent a b = absurd (none_left b.1.0 a.0 b.1.1)
  one_end TurnsSpent Done a b = absurd (none_left a.1.0 b.1 a.1.1)
  one_end TurnsSpent Stalled a b = absurd (none_left a.1.0 b.0 a.1.1)
  one_end TurnsSpent TurnsSpent a b = refl
