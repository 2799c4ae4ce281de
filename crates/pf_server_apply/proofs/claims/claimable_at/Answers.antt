use Rattle.std.proofs.Common.{◌∙◌, sym}
use Rattle.pf_server_apply.proofs.LeastClaims.{held_test, not_held}
use Rattle.pf_server_apply.proofs.FinishedJobs.{none_matches}
use Rattle.pf_server_apply.proofs.StoppedEntries.{entry_ascends}
use Rattle.pf_server_apply.proofs.claims.claimable_at.Goals as goal

pub returns-in_err-entry : goal.returns-in_err-entry
returns-in_err-entry c = none_matches _ _ _ c.from_residual.ensures (λ d cached. not_held d c.args.me.now cached c.args.slot c.in_err-entry.ensures.entry)

pub returns-then-not-is_claimable : goal.returns-then-not-is_claimable
returns-then-not-is_claimable c = λ d cached. held_test d c.args.me.now cached c.args.slot c.in_ok-entry.entry.now c.requires.some c.in_ok-entry.ensures.own_slot c.in_ok-entry.ensures.entry ∙ sym c.if-not-is_claimable.ensures

pub returns : goal.returns
returns c = record {
  in_slot = c.in_ok-entry.ensures.own_slot;
  held = c.in_ok-entry.ensures.entry;
  can = λ d cached. held_test d c.args.me.now cached c.args.slot c.in_ok-entry.entry.now c.requires.some c.in_ok-entry.ensures.own_slot c.in_ok-entry.ensures.entry ∙ sym c.if-not-is_claimable.ensures;
}

pub is_claimable-requires-clause-ascending : goal.is_claimable-requires-clause-ascending
is_claimable-requires-clause-ascending c = entry_ascends c.args.me.now c.requires.bounded c.args.slot c.in_ok-entry.entry.now c.in_ok-entry.ensures.entry
