-- Some runs of the threads, one after the other.
use Rattle.std.proofs.Common.{◌≡◌, ℕ, ◌+◌, ◌*◌, List, Result, Ok, Err, IfOk, arith, ap, ◌∙◌}
use Rattle.pf_base.specs.declared.errors.NoMemory.{NoMemory}
use Rattle.pf_turn.proofs.Lists.{begins_refl, begins_trans}
use Rattle.pf_disk.specs.declared.disk.Disk.{Ghosts}
use Rattle.pf_leadercell.specs.declared.cell.LeaderCell.{LeaderCell}
use Rattle.pf_live_seats.specs.pf_shared.specs.declared.parts.SharedGroup.{SharedGroup}
use Rattle.pf_live_seats.specs.pf_shared.specs.Seats.{seen_by, splits_of}
use Rattle.pf_turn.specs.Lists.{Begins}
use Rattle.pf_live_seats.specs.declared.line.HostRings.{HostRings}
use Rattle.pf_live_seats.specs.declared.plan.LinePlan.{LinePlan}
use Rattle.pf_live_line.specs.declared.crew.Crew.{Crew}
use Rattle.pf_live_line.specs.Crews.{AllEnded, IsCrew}
use Rattle.pf_live_line.specs.Judging.{HasJudged}
use Rattle.pf_live_line.specs.Rounds.{HasRunOn}

times_one : (c : ℕ) → 1 * c ≡ c
times_one c = Rattle.std.proofs.Math.Nat.one-mul c

one_more : (r c : ℕ) → (r + 1) * c ≡ r * c + c
one_more r c = ap (λ x. x * c) (Rattle.std.proofs.Common.add-one r) ∙ Rattle.std.proofs.Math.Nat.suc-mul r c

pub told_any : {A X : Type 0} → (r : Result A NoMemory) → X → IfOk r (λ t. X)
told_any (Ok t) x = x
told_any (Err e) x = tt

pub told_so : {A : Type 0} → (r : Result A NoMemory) (P Q : A → Type 0) → ((x : A) → P x → Q x) → IfOk r P → IfOk r Q
told_so (Ok t) P Q on p = on t p
told_so (Err e) P Q on p = tt

module _ {D : Type 0} {disk : Ghosts D} (group : SharedGroup D disk) (cell : LeaderCell) (plan : LinePlan) (rings : List HostRings) where
  -- one run, and what came after it
  pub ran_once : (a b c : Crew D disk) → Begins (seen_by a.seat) (seen_by b.seat) → splits_of b.seat ≡ splits_of a.seat + plan.workers + 2 → (AllEnded plan a.seat → AllEnded plan b.seat) → HasJudged group cell plan rings b c → HasRunOn group cell plan rings a 1 c
  ran_once a b c begins seats ended judged = record {
    is = judged.is;
    begins = begins_trans (seen_by a.seat) (seen_by b.seat) (seen_by c.seat) begins judged.begins;
    seats = let o = times_one (plan.workers + 2) in let j = judged.seats in omega (arith, seats, o, j);
    ended = λ e. judged.ended (ended e);
  }

  pub ran_none : (a : Crew D disk) → IsCrew group cell plan rings a → HasRunOn group cell plan rings a 0 a
  ran_none a is = record { is = is; begins = begins_refl (seen_by a.seat); seats = let z = Rattle.std.proofs.Math.Nat.zero-mul (plan.workers + 2) in omega (arith, z); ended = λ e. e }

  pub ran_more : (a b c : Crew D disk) (runs : ℕ) → HasRunOn group cell plan rings a runs b → HasRunOn group cell plan rings b 1 c → HasRunOn group cell plan rings a (runs + 1) c
  ran_more a b c runs p q = record {
    is = q.is;
    begins = begins_trans (seen_by a.seat) (seen_by b.seat) (seen_by c.seat) p.begins q.begins;
    seats = let o = times_one (plan.workers + 2) in let m = one_more runs (plan.workers + 2) in let s = p.seats in let t = q.seats in omega (arith, s, t, o, m);
    ended = λ e. q.ended (p.ended e);
  }
