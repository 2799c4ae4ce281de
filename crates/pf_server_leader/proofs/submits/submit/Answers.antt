use Rattle.std.proofs.Common.{◌<◌, ◌≤◌, ◌+◌, sym, ap, subst, ◌∙◌}
use Rattle.std.proofs.lemmas.Result.{err_from_is_err_and}
use Rattle.pf_protocol.specs.Leading.{on_submit}
use Rattle.pf_server_memory.specs.Standing.{server_of, setup_of, leader_in_memory, room_refusal}
use Rattle.pf_server_leader.specs.Submitting.{entry_proposed}
use Rattle.pf_server_memory.proofs.StepEnds.{short_of_memory, with_more_room, renamed}
use Rattle.pf_server_memory.proofs.Steps.{half_of}
use Rattle.pf_server_leader.proofs.Proposals.{near_serves, near_leader, roomy_server, roomy_setup, roomy_after, roomy_stands}
use Rattle.pf_server_leader.proofs.ProposalSpellings.{few_sectors, near_canonical, near_term, near_base, near_low, proposed_near, plan_slot, plan_term, plan_above, plan_window, plan_low, plan_canonical, plan_spelled, plan_outcome, plan_refusal, unplanned}
use Rattle.pf_server_leader.proofs.submits.submit.Goals as goal

pub plan-requires : goal.plan-requires
plan-requires g c = few_sectors c.args.me.now c.requires.bounded

pub returns-in_err-entry : goal.returns-in_err-entry
returns-in_err-entry g c = record {
  step = λ d stands.
      unplanned g.S.Store.model d c.args.store.now c.args.me.now c.args.out.now stands c.args.op (on_submit (setup_of c.args.me.now) (server_of d c.args.me.now) c.args.op (server_of d c.args.me.now).role)
      c.in_err-entry.field-0.0 c.plan.result c.from_residual.result c.plan.ensures c.in_err-entry.was (err_from_is_err_and c.from_residual.result c.from_residual.ensures.1);
}

pub returns-in_err-reserve : goal.returns-in_err-reserve
returns-in_err-reserve g c = record {
  step = λ d stands.
      let p = c.in_ok-entry.ensures in
      short_of_memory g.S.Store.model d c.args.store.now c.args.me.now c.reserve.new.me stands c.args.out.now c.args.out.now _ _ c.from_residual-in_err-reserve.result
      (err_from_is_err_and c.from_residual-in_err-reserve.result c.from_residual-in_err-reserve.ensures.1)
      (roomy_after c.args.me.now c.reserve.new.me c.reserve.ensures.same p.leader p.may.serves d stands.cached);
}

pub propose-requires-clause-stands : goal.propose-requires-clause-stands
propose-requires-clause-stands g c =
    let p = c.in_ok-entry.ensures in
    (c.requires.stands.0, roomy_stands c.args.me.now c.reserve.new.me c.reserve.ensures.same p.leader p.may.serves g.S.Store.model c.requires.stands.0 c.args.store.now c.requires.stands.1)

pub propose-requires-clause-canonical : goal.propose-requires-clause-canonical
propose-requires-clause-canonical g c =
    near_canonical c.args.me.now c.reserve.new.me c.reserve.ensures.same c.in_ok-entry.entry
    (plan_canonical c.args.me.now c.requires.bounded c.args.op c.requires.op c.in_ok-entry.entry c.in_ok-entry.ensures c.requires.stands.0 c.requires.stands.1.cached)

pub propose-requires-clause-spelled : goal.propose-requires-clause-spelled
propose-requires-clause-spelled g c =
    plan_spelled c.args.me.now c.requires.bounded c.args.op c.requires.op c.in_ok-entry.entry c.in_ok-entry.ensures c.requires.stands.0 c.requires.stands.1.cached (g.S.Store.model.format c.args.store.now)
    (half_of g.S.Store.model c.requires.stands.0 c.args.store.now c.args.me.now c.requires.stands.1)

pub propose-requires-clause-term : goal.propose-requires-clause-term
propose-requires-clause-term g c =
    near_term c.args.me.now c.reserve.new.me c.reserve.ensures.same c.in_ok-entry.entry (plan_term c.args.me.now c.requires.bounded c.args.op c.requires.op c.in_ok-entry.entry c.in_ok-entry.ensures)

pub propose-requires-clause-above : goal.propose-requires-clause-above
propose-requires-clause-above g c =
    subst (λ base. base < c.in_ok-entry.entry.slot) (sym (near_base c.args.me.now c.reserve.new.me c.reserve.ensures.same c.in_ok-entry.entry))
    (plan_above c.args.me.now c.requires.bounded c.args.op c.requires.op c.in_ok-entry.entry c.in_ok-entry.ensures)

pub propose-requires-clause-window : goal.propose-requires-clause-window
propose-requires-clause-window g c =
    subst (λ base. c.in_ok-entry.entry.slot ≤ base + 4096) (sym (near_base c.args.me.now c.reserve.new.me c.reserve.ensures.same c.in_ok-entry.entry))
    (plan_window c.args.me.now c.requires.bounded c.args.op c.requires.op c.in_ok-entry.entry c.in_ok-entry.ensures)

pub propose-requires-clause-low : goal.propose-requires-clause-low
propose-requires-clause-low g c =
    let p = c.in_ok-entry.ensures in
    near_low c.args.me.now c.reserve.new.me c.reserve.ensures.same c.in_ok-entry.entry p.leader p.may.serves (plan_low c.args.me.now c.requires.bounded c.args.op c.requires.op c.in_ok-entry.entry p)

pub returns : goal.returns
returns g c = record {
  step = λ d stands.
      let me = c.args.me.now in
      let near = c.reserve.new.me in
      let e = c.in_ok-entry.entry in
      let p = c.in_ok-entry.ensures in
      let roomier = c.reserve.ensures.same in
      let more = near_serves me near roomier p.leader p.may.serves in
      let server = roomy_server me near roomier p.leader p.may.serves d in
      let leader = near_leader me near roomier p.leader p.may.serves in
      let own = entry_proposed (server_of d me) (leader_in_memory p.leader) e in
      let same = proposed_near (server_of d near) (server_of d me) (leader_in_memory more.0) (leader_in_memory p.leader) e server leader in
      let slot = plan_slot me c.requires.bounded c.args.op c.requires.op e p ∙ sym more.2 in
      renamed g.S.Store.model d c.args.store.now c.propose.new.store me c.propose.new.me c.args.out.now c.propose.new.out
      _ _ own (on_submit (setup_of me) (server_of d me) c.args.op (server_of d me).role) c.propose.result
      (plan_refusal me c.args.op e p d stands.cached c.args.out.now) (plan_outcome me c.args.op e p d stands.cached)
      (renamed g.S.Store.model d c.args.store.now c.propose.new.store me c.propose.new.me c.args.out.now c.propose.new.out
      _ _ (entry_proposed (server_of d near) (leader_in_memory more.0) e) own c.propose.result (ap (room_refusal c.args.out.now) same) same
      (with_more_room g.S.Store.model d c.args.store.now c.propose.new.store me near c.propose.new.me c.args.out.now c.propose.new.out server
      (roomy_setup me near roomier p.leader p.may.serves) (entry_proposed (server_of d near) (leader_in_memory more.0) e) c.propose.result
      (c.propose.ensures more.0 more.1 slot d (roomy_stands me near roomier p.leader p.may.serves g.S.Store.model d c.args.store.now stands))));
}
