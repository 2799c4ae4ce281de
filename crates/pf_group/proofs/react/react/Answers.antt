use Rattle.std.proofs.Common.{Ok, inl, inr, refl, subst}
use Rattle.pf_entry.specs.declared.ops.Op.TheVariants.{Mark, Write}
use Rattle.pf_protocol.specs.declared.events.Event.TheVariants.{Checkpoint, Claim, Deliver, Elect, Fetch, Finish, Lose, Resend, Stop, Submit}
use Rattle.pf_group.specs.Events.{GroupMayAsk}
use Rattle.pf_group.specs.Reacting.{RestartIsTold}
use Rattle.pf_group.proofs.CallOutcomes.{reacts_as, reacts_back, reacts_so}
use Rattle.pf_group.proofs.NextEvents.{brings_low}
use Rattle.pf_group.proofs.react.react.Goals as goal

pub finish-requires-clause-server : goal.finish-requires-clause-server
finish-requires-clause-server g c =
    let q = c.requires in
    brings_low q.1.0.claims q.1.1.viable.group.low c.in-Finish.filled (subst (GroupMayAsk q.1.0.claims) c.in-Finish.is q.1.2)

pub returns-in-Submit-clause-step : goal.returns-in-Submit-clause-step
returns-in-Submit-clause-step g c setup past reached told = reacts_as g.S.Store.model setup past.group c.args.network.now c.submit.new.network c.args.event _ c.in-Submit.is (Submit c.in-Submit.server (Write c.in-Submit.range c.in-Submit.payload)) (λ found. refl) refl c.submit.result (c.submit.ensures setup past reached)

pub returns-in-Submit-clause-somehow : goal.returns-in-Submit-clause-somehow
returns-in-Submit-clause-somehow g c setup past reached = inl (reacts_as g.S.Store.model setup past.group c.args.network.now c.submit.new.network c.args.event _ c.in-Submit.is (Submit c.in-Submit.server (Write c.in-Submit.range c.in-Submit.payload)) (λ found. refl) refl c.submit.result (c.submit.ensures setup past reached))

pub returns-in-Mark-clause-step : goal.returns-in-Mark-clause-step
returns-in-Mark-clause-step g c setup past reached told = reacts_as g.S.Store.model setup past.group c.args.network.now c.submit-in-Mark.new.network c.args.event _ c.in-Mark.is (Submit c.in-Mark.server Mark) (λ found. refl) refl c.submit-in-Mark.result (c.submit-in-Mark.ensures setup past reached)

pub returns-in-Mark-clause-somehow : goal.returns-in-Mark-clause-somehow
returns-in-Mark-clause-somehow g c setup past reached = inl (reacts_as g.S.Store.model setup past.group c.args.network.now c.submit-in-Mark.new.network c.args.event _ c.in-Mark.is (Submit c.in-Mark.server Mark) (λ found. refl) refl c.submit-in-Mark.result (c.submit-in-Mark.ensures setup past reached))

pub returns-in-Fetch-clause-step : goal.returns-in-Fetch-clause-step
returns-in-Fetch-clause-step g c setup past reached told = reacts_so g.S.Store.model setup past.group c.args.network.now c.fetch.new.self c.args.event _ c.in-Fetch.is (Fetch c.in-Fetch.server c.in-Fetch.range) (λ found. refl) refl c.fetch.result (c.fetch.ensures setup past reached) c.happened.result c.happened.ensures

pub returns-in-Fetch-clause-somehow : goal.returns-in-Fetch-clause-somehow
returns-in-Fetch-clause-somehow g c setup past reached = inl (reacts_so g.S.Store.model setup past.group c.args.network.now c.fetch.new.self c.args.event _ c.in-Fetch.is (Fetch c.in-Fetch.server c.in-Fetch.range) (λ found. refl) refl c.fetch.result (c.fetch.ensures setup past reached) c.happened.result c.happened.ensures)

pub returns-in-Deliver-clause-step : goal.returns-in-Deliver-clause-step
returns-in-Deliver-clause-step g c setup past reached told = reacts_so g.S.Store.model setup past.group c.args.network.now c.deliver.new.self c.args.event _ c.in-Deliver.is (Deliver c.in-Deliver.k) (λ found. refl) refl c.deliver.result (c.deliver.ensures setup past reached) c.happened-in-Deliver.result c.happened-in-Deliver.ensures

pub returns-in-Deliver-clause-somehow : goal.returns-in-Deliver-clause-somehow
returns-in-Deliver-clause-somehow g c setup past reached = inl (reacts_so g.S.Store.model setup past.group c.args.network.now c.deliver.new.self c.args.event _ c.in-Deliver.is (Deliver c.in-Deliver.k) (λ found. refl) refl c.deliver.result (c.deliver.ensures setup past reached) c.happened-in-Deliver.result c.happened-in-Deliver.ensures)

pub returns-in-Lose-clause-step : goal.returns-in-Lose-clause-step
returns-in-Lose-clause-step g c setup past reached told = reacts_so g.S.Store.model setup past.group c.args.network.now c.lose.new.self c.args.event _ c.in-Lose.is (Lose c.in-Lose.k) (λ found. refl) refl (Ok c.lose.result) (c.lose.ensures setup past reached) c.happened-in-Lose.result c.happened-in-Lose.ensures

pub returns-in-Lose-clause-somehow : goal.returns-in-Lose-clause-somehow
returns-in-Lose-clause-somehow g c setup past reached = inl (reacts_so g.S.Store.model setup past.group c.args.network.now c.lose.new.self c.args.event _ c.in-Lose.is (Lose c.in-Lose.k) (λ found. refl) refl (Ok c.lose.result) (c.lose.ensures setup past reached) c.happened-in-Lose.result c.happened-in-Lose.ensures)

pub returns-in-Elect-clause-step : goal.returns-in-Elect-clause-step
returns-in-Elect-clause-step g c setup past reached told = reacts_so g.S.Store.model setup past.group c.args.network.now c.elect.new.self c.args.event _ c.in-Elect.is (Elect c.in-Elect.server) (λ found. refl) refl c.elect.result (c.elect.ensures setup past reached) c.happened-in-Elect.result c.happened-in-Elect.ensures

pub returns-in-Elect-clause-somehow : goal.returns-in-Elect-clause-somehow
returns-in-Elect-clause-somehow g c setup past reached = inl (reacts_so g.S.Store.model setup past.group c.args.network.now c.elect.new.self c.args.event _ c.in-Elect.is (Elect c.in-Elect.server) (λ found. refl) refl c.elect.result (c.elect.ensures setup past reached) c.happened-in-Elect.result c.happened-in-Elect.ensures)

pub returns-in-Resend-clause-step : goal.returns-in-Resend-clause-step
returns-in-Resend-clause-step g c setup past reached told = reacts_so g.S.Store.model setup past.group c.args.network.now c.resend.new.self c.args.event _ c.in-Resend.is (Resend c.in-Resend.server) (λ found. refl) refl c.resend.result (c.resend.ensures setup past reached) c.happened-in-Resend.result c.happened-in-Resend.ensures

pub returns-in-Resend-clause-somehow : goal.returns-in-Resend-clause-somehow
returns-in-Resend-clause-somehow g c setup past reached = inl (reacts_so g.S.Store.model setup past.group c.args.network.now c.resend.new.self c.args.event _ c.in-Resend.is (Resend c.in-Resend.server) (λ found. refl) refl c.resend.result (c.resend.ensures setup past reached) c.happened-in-Resend.result c.happened-in-Resend.ensures)

pub returns-in-Stop-clause-step : goal.returns-in-Stop-clause-step
returns-in-Stop-clause-step g c setup past reached told = reacts_so g.S.Store.model setup past.group c.args.network.now c.stop.new.self c.args.event _ c.in-Stop.is (Stop c.in-Stop.server) (λ found. refl) refl (Ok c.stop.result) (c.stop.ensures setup past reached) c.happened-in-Stop.result c.happened-in-Stop.ensures

pub returns-in-Stop-clause-somehow : goal.returns-in-Stop-clause-somehow
returns-in-Stop-clause-somehow g c setup past reached = inl (reacts_so g.S.Store.model setup past.group c.args.network.now c.stop.new.self c.args.event _ c.in-Stop.is (Stop c.in-Stop.server) (λ found. refl) refl (Ok c.stop.result) (c.stop.ensures setup past reached) c.happened-in-Stop.result c.happened-in-Stop.ensures)

pub returns-in-Restart-clause-step : goal.returns-in-Restart-clause-step
returns-in-Restart-clause-step g c setup past reached told =
    let so = subst (RestartIsTold g.S.Store.model.told setup past.group c.args.network.now) c.in-Restart.is told in
    reacts_back g.S.Store.model setup past.group c.args.network.now c.restart.new.network c.args.event c.in-Restart.server c.in-Restart.is c.restart.result (c.restart.ensures.told setup past reached so.0 so.1)

pub returns-in-Restart-clause-somehow : goal.returns-in-Restart-clause-somehow
returns-in-Restart-clause-somehow g c setup past reached = inr (c.in-Restart.server, c.in-Restart.is, c.restart.ensures.somehow setup past reached)

pub returns-in-Claim-clause-step : goal.returns-in-Claim-clause-step
returns-in-Claim-clause-step g c setup past reached told = reacts_so g.S.Store.model setup past.group c.args.network.now c.claim.new.self c.args.event _ c.in-Claim.is Claim (λ found. refl) refl c.claim.result (c.claim.ensures setup past reached) c.happened-in-Claim.result c.happened-in-Claim.ensures

pub returns-in-Claim-clause-somehow : goal.returns-in-Claim-clause-somehow
returns-in-Claim-clause-somehow g c setup past reached = inl (reacts_so g.S.Store.model setup past.group c.args.network.now c.claim.new.self c.args.event _ c.in-Claim.is Claim (λ found. refl) refl c.claim.result (c.claim.ensures setup past reached) c.happened-in-Claim.result c.happened-in-Claim.ensures)

pub returns-in-Finish-clause-step : goal.returns-in-Finish-clause-step
returns-in-Finish-clause-step g c setup past reached told = reacts_so g.S.Store.model setup past.group c.args.network.now c.finish.new.self c.args.event _ c.in-Finish.is (Finish c.in-Finish.filled.server c.in-Finish.filled.life c.in-Finish.filled.slot) (λ found. refl) refl (Ok c.finish.result) (c.finish.ensures setup past reached) c.happened-in-Finish.result c.happened-in-Finish.ensures

pub returns-in-Finish-clause-somehow : goal.returns-in-Finish-clause-somehow
returns-in-Finish-clause-somehow g c setup past reached = inl (reacts_so g.S.Store.model setup past.group c.args.network.now c.finish.new.self c.args.event _ c.in-Finish.is (Finish c.in-Finish.filled.server c.in-Finish.filled.life c.in-Finish.filled.slot) (λ found. refl) refl (Ok c.finish.result) (c.finish.ensures setup past reached) c.happened-in-Finish.result c.happened-in-Finish.ensures)

pub returns-in-Checkpoint-clause-step : goal.returns-in-Checkpoint-clause-step
returns-in-Checkpoint-clause-step g c setup past reached told = reacts_so g.S.Store.model setup past.group c.args.network.now c.checkpoint.new.self c.args.event _ c.in-Checkpoint.is (Checkpoint c.in-Checkpoint.server) (λ found. refl) refl c.checkpoint.result (c.checkpoint.ensures setup past reached) c.happened-in-Checkpoint.result c.happened-in-Checkpoint.ensures

pub returns-in-Checkpoint-clause-somehow : goal.returns-in-Checkpoint-clause-somehow
returns-in-Checkpoint-clause-somehow g c setup past reached = inl (reacts_so g.S.Store.model setup past.group c.args.network.now c.checkpoint.new.self c.args.event _ c.in-Checkpoint.is (Checkpoint c.in-Checkpoint.server) (λ found. refl) refl c.checkpoint.result (c.checkpoint.ensures setup past reached) c.happened-in-Checkpoint.result c.happened-in-Checkpoint.ensures)
