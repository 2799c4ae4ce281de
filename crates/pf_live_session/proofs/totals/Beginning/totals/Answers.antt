use Rattle.std.proofs.Common.{◌-◌, length, ap, ◌∙◌}
use Rattle.std.proofs.lemmas.List.{length-map}
use Rattle.pf_live_line.specs.pf_group_network.specs.Showing.{acked_entry}
use Rattle.pf_live_line.specs.pf_group.specs.GroupIs.{state_of}
use Rattle.pf_live_line.specs.pf_group.proofs.AppliedJobs.{each_since}
use Rattle.pf_live_session.proofs.GroupSessions.{are_totals}
use Rattle.pf_live_session.proofs.totals.Beginning.totals.Goals as goal

pub returns : goal.returns
returns g c old began grown =
    are_totals old c.args.group.now _ c.args.self.now.acked grown began.acked
    (λ told. c.saturating_sub.ensures ∙ ap (λ xs. length xs - c.args.self.now.acked) (c.acked.ensures told) ∙ ap (λ n. n - c.args.self.now.acked) (length-map (state_of c.args.group.now).acked acked_entry))
    (each_since old.history c.args.group.now.history c.args.self.now.applied c.applied_on_each-applied.result grown.later began.applied c.applied_on_each-applied.ensures _ _ _ c.saturating_sub-2.ensures c.saturating_sub-3.ensures c.saturating_sub-4.ensures)
