-- A line that has come to its end.
use Rattle.std.proofs.Common.{◌≡◌, ◌↔◌, ℕ, zero, suc, ◌-◌, ◌<◌, IsTrue, List, [], ◌∷◌, Contains, Some, slice_get, length, append-nil, inl, inr, arith, refl, sym, ap, ◌∙◌, subst}
use Rattle.pf_disk.specs.declared.disk.Disk.{Ghosts}
use Rattle.pf_protocol.specs.Answers.{claims_of}
use Rattle.pf_protocol.specs.Histories.{RunsAs}
use Rattle.pf_protocol.specs.Servers.{Server}
use Rattle.pf_live_line.specs.pf_group.specs.Applied.{applied_on_each}
use Rattle.pf_live_line.specs.pf_group.specs.GroupIs.{GroupIs, state_of}
use Rattle.pf_leadercell.specs.Passes as cells
use Rattle.pf_leadercell.specs.declared.cell.LeaderCell.{LeaderCell}
use Rattle.pf_live_line.specs.pf_group_rounds.specs.Adding.{Adds}
use Rattle.pf_live_line.specs.pf_group_rounds.specs.Agreeing.{TellsOfGroup, chunk_standing}
use Rattle.pf_live_line.specs.pf_group_rounds.specs.Begun.{GroupHasBegun}
use Rattle.pf_live_line.specs.pf_group_rounds.specs.Closed.{IsClosed}
use Rattle.pf_live_line.specs.pf_group_rounds.specs.Growing.{HasGrown}
use Rattle.pf_live_line.specs.pf_group_rounds.specs.Halts.{Halt}
use Rattle.pf_live_line.specs.pf_group_rounds.specs.Rounds.{IsApplied, applied}
use Rattle.pf_live_line.specs.pf_group_rounds.proofs.GroupGrowth.{grown_refl}
use Rattle.pf_live_line.specs.pf_shared.specs.declared.parts.GroupSeat.{GroupSeat}
use Rattle.pf_live_line.specs.pf_shared.specs.declared.parts.SharedGroup.{SharedGroup}
use Rattle.pf_live_line.specs.pf_shared.specs.Moments.{handed_out}
use Rattle.pf_live_line.specs.pf_shared.specs.Seats.{root_in, seen_by, splits_of}
use Rattle.pf_live_line.specs.pf_shared.specs.Since.{whole_history}
use Rattle.pf_base.specs.declared.live_end.LiveEnd.{LiveEnd}
use Rattle.pf_live_line.specs.pf_live_seats.specs.declared.line.HostRings.{HostRings}
use Rattle.pf_live_line.specs.pf_live_seats.specs.declared.plan.LinePlan.{LinePlan}
use Rattle.pf_live_line.specs.pf_live_seats.specs.declared.serving.Served.{Served}
use Rattle.pf_live_line.specs.pf_live_seats.specs.Submissions.{write_numbers}
use Rattle.pf_live_line.specs.pf_live_seats.proofs.Stands.{stands_within}
use Rattle.pf_live_line.specs.pf_live_seats.proofs.Submissions.{every_at}
use Rattle.pf_live_line.specs.declared.crew.Crew.{Crew}
use Rattle.pf_live_line.specs.Crews.{AllEnded, IsCrew}
use Rattle.pf_live_line.specs.Judging.{IsPublished}
use Rattle.pf_live_line.specs.Meeting.{AreMet}
use Rattle.pf_live_line.specs.Rounds.{HasRun}
use Rattle.pf_live_line.proofs.JudgedEnds.{met_count}
use Rattle.pf_live_session.specs.declared.session.Lived.{Lived}
use Rattle.pf_live_session.specs.declared.totals.Totals.{Totals}
use Rattle.pf_live_session.specs.GroupSessions.{HasApplied, HasList, HasLived, LineHasStopped, IsRunOut}
use Rattle.pf_live_session.specs.Totals.{AreTotals, happened_since}

below : {A : Type 0} → (xs : List A) (i : ℕ) (x : A) → slice_get xs i ≡ Some x → i < length xs
below [] i x there = absurd cc
below (y ∷ ys) zero x there = omega arith
below (y ∷ ys) (suc i) x there = let rest = below ys i x there in omega (arith, rest)

module _ {D : Type 0} {disk : Ghosts D} (plan : LinePlan) where
  none_ended : (seat : GroupSeat D disk) → splits_of seat ≡ 0 → AllEnded plan seat
  none_ended seat none zero low role = absurd cc
  none_ended seat none (suc n) low role = absurd (omega (arith, low, none))

  module _ (group : SharedGroup D disk) (cell : LeaderCell) (rings : List HostRings) (b : Crew D disk) (is : IsCrew group cell plan rings b) where
    -- the group as it is closed
    pub listed : (new : GroupIs) → new.history ≡ whole_history (root_in group) (seen_by b.seat) → HasGrown (root_in group) new → new.taken ≡ handed_out (root_in group).taken (seen_by b.seat) → claims_of [] new.history ≡ [] → HasList plan (root_in group) (seen_by b.seat) new
    listed new history grown taken none = record { history = history; grown = grown; taken = taken; none = none; live = is.seat.live }

    -- the list, once the runs are over
    pub run_out : (a : Crew D disk) (end : LiveEnd) → splits_of a.seat ≡ 0 → HasRun group cell plan rings a b end → IsRunOut plan (seen_by b.seat)
    run_out a end none run = record {
      seats = splits_of b.seat;
      runs = (run.more, let s = run.ran.seats in omega (arith, s, none));
      strangers = is.seat.strangers;
      ended = run.ran.ended (none_ended a.seat none);
    }

    -- the writes that were taken are those that the list submits
    submitted : (a : Crew D disk) (end : LiveEnd) → HasRun group cell plan rings a b end → IsTrue (root_in group).told → (h : ℕ) (s : Served) → slice_get b.served.items h ≡ Some s → (j : ℕ) → (j < s.taken) ↔ Contains (write_numbers (root_in group) h (seen_by b.seat)) j
    submitted a end run told h s there j = let low : h < plan.hosts = let all = met_count plan rings plan.hosts 0 b.hosts.items b.served.items is.met in let under = below b.served.items h s there in omega (arith, all, under) in
        (run.submitted h low told s there j, every_at s.taken (write_numbers (root_in group) h (seen_by b.seat)) (stands_within (root_in group) h (seen_by b.seat) s.taken s.standing (is.stand told h s there)) j)

    pub lived : (a : Crew D disk) (then new : GroupIs) (it : Lived) → splits_of a.seat ≡ 0 → HasRun group cell plan rings a b it.end → HasList plan (root_in group) (seen_by b.seat) then → AreMet plan it.passes.rings.items plan.hosts 0 it.passes.hosts.items it.passes.served.items
        → cells.IsPassOf it.passes.cell it.passes.first × cells.IsFirstPass it.passes.first → it.passes.first ≡ b.first → it.passes.served ≡ b.served → HasApplied then new → AreTotals (root_in group) new it.totals → HasLived plan (root_in group) it new
    lived a then new it none run list met first same served done totals = record {
      list = seen_by b.seat;
      then = then;
      listed = list;
      out = run_out a it.end none run;
      end = run.end;
      kept = record {
        met = met;
        submitted = λ told h s there. submitted a it.end run told h s (ap (λ v. slice_get v.items h) (sym served) ∙ there);
        first = first;
        published = subst (IsPublished (root_in group) (seen_by b.seat)) (sym same) run.published;
      };
      applied_then = done;
      totals = totals;
    }

    -- there was no memory to go on
    pub stopped_there : (then : GroupIs) → HasList plan (root_in group) (seen_by b.seat) then → LineHasStopped plan (root_in group) then
    stopped_there then list = record { list = seen_by b.seat; then = then; listed = list; grown = grown_refl then; part = inl refl }

    pub stopped_begun : (then new : GroupIs) → HasList plan (root_in group) (seen_by b.seat) then → HasGrown then new → ((halts : List Halt) → TellsOfGroup halts new → GroupHasBegun halts then (applied halts (chunk_standing halts then)) new) → LineHasStopped plan (root_in group) new
    stopped_begun then new list grown begun = record { list = seen_by b.seat; then = then; listed = list; grown = grown; part = inr begun }

-- nor to begin
pub stopped_none : (plan : LinePlan) (g : GroupIs) → claims_of [] g.history ≡ [] → LineHasStopped plan g g
stopped_none plan g none = record {
  list = [];
  then = g;
  listed = record { history = sym (append-nil g.history); grown = grown_refl g; taken = refl; none = none; live = tt };
  grown = grown_refl g;
  part = inl refl;
}

-- what is free was applied, and nothing else happened
pub has_applied : (old new : GroupIs) (count : ℕ) → HasGrown old new → new.taken ≡ old.taken → claims_of [] new.history ≡ [] → ((halts : List Halt) → TellsOfGroup halts new → applied halts (chunk_standing halts old) ≡ chunk_standing halts new) → (IsTrue new.told → IsApplied new.setup (state_of new)) → Adds old new count count
    → (IsTrue new.told → (i : ℕ) (s : Server) → RunsAs (state_of new) i s → IsClosed s) → HasApplied old new
has_applied old new count grown taken none run all adds closed = record { grown = grown; taken = taken; none = none; run = run; applied_all = all; count = count; adds = adds; closed = closed }

-- the totals, by what the counts were
pub are_totals : (old new : GroupIs) (totals : Totals) (acked : ℕ) → HasGrown old new → (IsTrue old.told → acked ≡ length (state_of old).acked) → (IsTrue new.told → totals.acked ≡ length (state_of new).acked - acked)
    → totals.applied ≡ applied_on_each (happened_since old new) → AreTotals old new totals
are_totals old new totals acked grown was now applied = record {
  acked = λ told. now (subst IsTrue (sym grown.told) told) ∙ ap (λ n. length (state_of new).acked - n) (was told);
  applied = applied;
}
