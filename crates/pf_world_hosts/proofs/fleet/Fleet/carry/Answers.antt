use Rattle.std.proofs.Common.{◌≡◌, IfSome, Some, Option, slice_get, sym, subst, ◌∙◌}
use Rattle.pf_base.specs.declared.asks.Ask.{Ask}
use Rattle.pf_base.specs.declared.asks.Reply.{Reply}
use Rattle.pf_base.specs.Asks.{Answers}
use Rattle.pf_asks.specs.Ports.{PortIs}
use Rattle.pf_mount_host.specs.pf_chunk.specs.Views.{ChunkIs}
use Rattle.pf_mount_host.specs.pf_group.proofs.NextEvents.{on_err}
use Rattle.pf_move.specs.Movers.{MoverIs}
use Rattle.pf_mount_host.specs.pf_world_moments.specs.Parts.{HasDrove}
use Rattle.pf_world_hosts.specs.Moves.{HasTakenUp, on_reply}
use Rattle.pf_world_hosts.specs.Steps.{FleetIs, FleetHasStopped}
use Rattle.pf_world_hosts.specs.Volumes.{mover_steps}
use Rattle.pf_world_hosts.proofs.ChunkGrowth.{gone_stays}
use Rattle.pf_world_hosts.proofs.MoverParts.{asks_at, chunk_then, fits_then, gone_so_far, group_in, hosts_then, mover_ended, mover_not_drove, mover_not_handed, mover_not_heard, mover_pending, mover_rests, mover_then, mover_waited, mover_went_on, moving_then, pieces_then, quiet_then, went_on_stays}
use Rattle.pf_world_hosts.proofs.fleet.Fleet.carry.Goals as goal

pub returns-in_default-clause-went : goal.returns-in_default-clause-went
returns-in_default-clause-went g c =
    mover_rests c.args.chunks.now c.args.self.now c.args.out.now.items c.requires.ready c.requires.fleet (sym c.mover_group.ensures ∙ c.in_default.is)

pub drive_at-requires-clause-pending : goal.drive_at-requires-clause-pending
drive_at-requires-clause-pending g c κs within =
    let f : FleetIs = c.args.self.now in let old = c.args.chunks.now in
    let k = c.in-Some.group in let at : group_in f ≡ Some k = sym c.mover_group.ensures ∙ c.in-Some.is in
    mover_pending old f k (asks_at old f k c.requires.fleet at)

pub returns-in_err-reply-clause-err : goal.returns-in_err-reply-clause-err
returns-in_err-reply-clause-err g c =
    let f : FleetIs = c.args.self.now in let old = c.args.chunks.now in let before = c.args.out.now.items in
    let k = c.in-Some.group in let at : group_in f ≡ Some k = sym c.mover_group.ensures ∙ c.in-Some.is in
    let mid = c.drive_at.new.chunks in let middle = c.drive_at.new.out.items in
    on_err c.from_residual.result _ (mover_not_drove old mid f k c.requires.fleet at before middle c.in_err-reply.ensures.err)

pub returns-in_default-2-clause-went : goal.returns-in_default-2-clause-went
returns-in_default-2-clause-went g c =
    let f : FleetIs = c.args.self.now in let old = c.args.chunks.now in let before = c.args.out.now.items in
    let k = c.in-Some.group in let at : group_in f ≡ Some k = sym c.mover_group.ensures ∙ c.in-Some.is in
    let mid = c.drive_at.new.chunks in let middle = c.drive_at.new.out.items in
    let d = subst (λ (it : Option Reply). HasDrove 16 k old before it middle mid) c.in_default-2.is c.in_ok-reply.ensures.went in
    mover_waited old mid f k c.requires.fleet at before middle d

pub returns-in_default-2-clause-stay : goal.returns-in_default-2-clause-stay
returns-in_default-2-clause-stay g c =
    let f : FleetIs = c.args.self.now in let old = c.args.chunks.now in let before = c.args.out.now.items in
    let k = c.in-Some.group in let at : group_in f ≡ Some k = sym c.mover_group.ensures ∙ c.in-Some.is in
    let mid = c.drive_at.new.chunks in let middle = c.drive_at.new.out.items in
    let d = subst (λ (it : Option Reply). HasDrove 16 k old before it middle mid) c.in_default-2.is c.in_ok-reply.ensures.went in
    gone_stays 16 old mid d.gone

pub hear-requires-clause-hosts : goal.hear-requires-clause-hosts
hear-requires-clause-hosts g c =
    let f : FleetIs = c.args.self.now in let old = c.args.chunks.now in let before = c.args.out.now.items in
    let k = c.in-Some.group in let at : group_in f ≡ Some k = sym c.mover_group.ensures ∙ c.in-Some.is in
    let mid = c.drive_at.new.chunks in let middle = c.drive_at.new.out.items in
    let r = c.in-Some-2.reply in let d = subst (λ (it : Option Reply). HasDrove 16 k old before it middle mid) c.in-Some-2.is c.in_ok-reply.ensures.went in
    hosts_then old mid f k c.requires.fleet at r before middle d

pub hear-requires-clause-mover : goal.hear-requires-clause-mover
hear-requires-clause-mover g c =
    let f : FleetIs = c.args.self.now in let old = c.args.chunks.now in let before = c.args.out.now.items in
    let k = c.in-Some.group in let at : group_in f ≡ Some k = sym c.mover_group.ensures ∙ c.in-Some.is in
    let mid = c.drive_at.new.chunks in let middle = c.drive_at.new.out.items in
    let r = c.in-Some-2.reply in let d = subst (λ (it : Option Reply). HasDrove 16 k old before it middle mid) c.in-Some-2.is c.in_ok-reply.ensures.went in
    mover_then old mid f k c.requires.fleet at r before middle d

pub hear-requires-clause-moving : goal.hear-requires-clause-moving
hear-requires-clause-moving g c =
    let f : FleetIs = c.args.self.now in let old = c.args.chunks.now in let before = c.args.out.now.items in
    let k = c.in-Some.group in let at : group_in f ≡ Some k = sym c.mover_group.ensures ∙ c.in-Some.is in
    let mid = c.drive_at.new.chunks in let middle = c.drive_at.new.out.items in
    let r = c.in-Some-2.reply in let d = subst (λ (it : Option Reply). HasDrove 16 k old before it middle mid) c.in-Some-2.is c.in_ok-reply.ensures.went in
    moving_then old mid f k c.requires.fleet at r before middle d

pub hear-requires-clause-chunk : goal.hear-requires-clause-chunk
hear-requires-clause-chunk g c =
    let f : FleetIs = c.args.self.now in let old = c.args.chunks.now in let before = c.args.out.now.items in
    let k = c.in-Some.group in let at : group_in f ≡ Some k = sym c.mover_group.ensures ∙ c.in-Some.is in
    let mid = c.drive_at.new.chunks in let middle = c.drive_at.new.out.items in
    let r = c.in-Some-2.reply in let d = subst (λ (it : Option Reply). HasDrove 16 k old before it middle mid) c.in-Some-2.is c.in_ok-reply.ensures.went in
    chunk_then old mid f k c.requires.fleet at r before middle d

pub hear-requires-clause-pieces : goal.hear-requires-clause-pieces
hear-requires-clause-pieces g c =
    let f : FleetIs = c.args.self.now in let old = c.args.chunks.now in let before = c.args.out.now.items in
    let k = c.in-Some.group in let at : group_in f ≡ Some k = sym c.mover_group.ensures ∙ c.in-Some.is in
    let mid = c.drive_at.new.chunks in let middle = c.drive_at.new.out.items in
    let r = c.in-Some-2.reply in let d = subst (λ (it : Option Reply). HasDrove 16 k old before it middle mid) c.in-Some-2.is c.in_ok-reply.ensures.went in
    pieces_then old mid f k c.requires.fleet at r before middle d

pub hear-requires-clause-quiet : goal.hear-requires-clause-quiet
hear-requires-clause-quiet g c =
    let f : FleetIs = c.args.self.now in let old = c.args.chunks.now in let before = c.args.out.now.items in
    let k = c.in-Some.group in let at : group_in f ≡ Some k = sym c.mover_group.ensures ∙ c.in-Some.is in
    let mid = c.drive_at.new.chunks in let middle = c.drive_at.new.out.items in
    let r = c.in-Some-2.reply in let d = subst (λ (it : Option Reply). HasDrove 16 k old before it middle mid) c.in-Some-2.is c.in_ok-reply.ensures.went in
    quiet_then old mid f k c.requires.fleet at r before middle d

pub hear-requires-clause-fits : goal.hear-requires-clause-fits
hear-requires-clause-fits g c =
    let f : FleetIs = c.args.self.now in let old = c.args.chunks.now in let before = c.args.out.now.items in
    let k = c.in-Some.group in let at : group_in f ≡ Some k = sym c.mover_group.ensures ∙ c.in-Some.is in
    let mid = c.drive_at.new.chunks in let middle = c.drive_at.new.out.items in
    let r = c.in-Some-2.reply in let d = subst (λ (it : Option Reply). HasDrove 16 k old before it middle mid) c.in-Some-2.is c.in_ok-reply.ensures.went in
    fits_then old mid f k c.requires.fleet at r before middle d (subst (λ (it : Option Reply). IfSome it (λ reply. (x : ChunkIs) (port : PortIs) (ask : Ask) → slice_get old k ≡ Some x → slice_get x.ports 16 ≡ Some port → port.ask ≡ Some ask → Answers ask reply)) c.in-Some-2.is c.in_ok-reply.ensures.answers)

pub returns-in_err-hear-clause-err : goal.returns-in_err-hear-clause-err
returns-in_err-hear-clause-err g c =
    let f : FleetIs = c.args.self.now in let old = c.args.chunks.now in let before = c.args.out.now.items in
    let k = c.in-Some.group in let at : group_in f ≡ Some k = sym c.mover_group.ensures ∙ c.in-Some.is in
    let mid = c.drive_at.new.chunks in let middle = c.drive_at.new.out.items in
    let r = c.in-Some-2.reply in let d = subst (λ (it : Option Reply). HasDrove 16 k old before it middle mid) c.in-Some-2.is c.in_ok-reply.ensures.went in
    on_err c.from_residual-in_err-hear.result _ (subst (FleetHasStopped mover_steps old f) (sym c.in_err-hear.ensures.err) (mover_not_heard old mid f k c.requires.fleet at r before middle d))

pub returns-in_default-mover_group-clause-went : goal.returns-in_default-mover_group-clause-went
returns-in_default-mover_group-clause-went g c =
    let f : FleetIs = c.args.self.now in let old = c.args.chunks.now in let before = c.args.out.now.items in
    let k = c.in-Some.group in let at : group_in f ≡ Some k = sym c.mover_group.ensures ∙ c.in-Some.is in
    let mid = c.drive_at.new.chunks in let middle = c.drive_at.new.out.items in
    let r = c.in-Some-2.reply in let d = subst (λ (it : Option Reply). HasDrove 16 k old before it middle mid) c.in-Some-2.is c.in_ok-reply.ensures.went in
    let new = c.hear.new.chunks in let next = c.hear.new.self in let after = c.hear.new.out.items in
    let a = asks_at old f k c.requires.fleet at in
    let t = subst (λ (o : Option MoverIs). IfSome o (λ (m : MoverIs). HasTakenUp (on_reply m r) mid f middle new next after)) a.is c.in_ok-hear.ensures.heard in
    mover_ended old mid f k c.requires.fleet at r before middle d new next after t (sym c.mover_group-2.ensures ∙ c.in_default-mover_group.is)

pub returns-in_default-mover_group-clause-same : goal.returns-in_default-mover_group-clause-same
returns-in_default-mover_group-clause-same g c =
    let f : FleetIs = c.args.self.now in let old = c.args.chunks.now in let before = c.args.out.now.items in
    let k = c.in-Some.group in let at : group_in f ≡ Some k = sym c.mover_group.ensures ∙ c.in-Some.is in
    let mid = c.drive_at.new.chunks in let middle = c.drive_at.new.out.items in
    let r = c.in-Some-2.reply in let d = subst (λ (it : Option Reply). HasDrove 16 k old before it middle mid) c.in-Some-2.is c.in_ok-reply.ensures.went in
    let new = c.hear.new.chunks in let next = c.hear.new.self in let after = c.hear.new.out.items in
    let a = asks_at old f k c.requires.fleet at in
    let t = subst (λ (o : Option MoverIs). IfSome o (λ (m : MoverIs). HasTakenUp (on_reply m r) mid f middle new next after)) a.is c.in_ok-hear.ensures.heard in
    t.same

pub returns-in_default-mover_group-clause-stay : goal.returns-in_default-mover_group-clause-stay
returns-in_default-mover_group-clause-stay g c =
    let f : FleetIs = c.args.self.now in let old = c.args.chunks.now in let before = c.args.out.now.items in
    let k = c.in-Some.group in let at : group_in f ≡ Some k = sym c.mover_group.ensures ∙ c.in-Some.is in
    let mid = c.drive_at.new.chunks in let middle = c.drive_at.new.out.items in
    let r = c.in-Some-2.reply in let d = subst (λ (it : Option Reply). HasDrove 16 k old before it middle mid) c.in-Some-2.is c.in_ok-reply.ensures.went in
    let new = c.hear.new.chunks in let next = c.hear.new.self in let after = c.hear.new.out.items in
    let a = asks_at old f k c.requires.fleet at in
    let t = subst (λ (o : Option MoverIs). IfSome o (λ (m : MoverIs). HasTakenUp (on_reply m r) mid f middle new next after)) a.is c.in_ok-hear.ensures.heard in
    gone_stays 16 old new (gone_so_far old mid f k c.requires.fleet at r before middle d new next after t)

pub drive_at-requires-2-clause-ready : goal.drive_at-requires-2-clause-ready
drive_at-requires-2-clause-ready g c κs within =
    let f : FleetIs = c.args.self.now in let old = c.args.chunks.now in let before = c.args.out.now.items in
    let k = c.in-Some.group in let at : group_in f ≡ Some k = sym c.mover_group.ensures ∙ c.in-Some.is in
    let mid = c.drive_at.new.chunks in let middle = c.drive_at.new.out.items in
    let r = c.in-Some-2.reply in let d = subst (λ (it : Option Reply). HasDrove 16 k old before it middle mid) c.in-Some-2.is c.in_ok-reply.ensures.went in
    let new = c.hear.new.chunks in let next = c.hear.new.self in let after = c.hear.new.out.items in
    let a = asks_at old f k c.requires.fleet at in
    let t = subst (λ (o : Option MoverIs). IfSome o (λ (m : MoverIs). HasTakenUp (on_reply m r) mid f middle new next after)) a.is c.in_ok-hear.ensures.heard in
    t.ready

pub drive_at-requires-2-clause-pending : goal.drive_at-requires-2-clause-pending
drive_at-requires-2-clause-pending g c κs within =
    let f : FleetIs = c.args.self.now in let old = c.args.chunks.now in let before = c.args.out.now.items in
    let k = c.in-Some.group in let at : group_in f ≡ Some k = sym c.mover_group.ensures ∙ c.in-Some.is in
    let mid = c.drive_at.new.chunks in let middle = c.drive_at.new.out.items in
    let r = c.in-Some-2.reply in let d = subst (λ (it : Option Reply). HasDrove 16 k old before it middle mid) c.in-Some-2.is c.in_ok-reply.ensures.went in
    let new = c.hear.new.chunks in let next = c.hear.new.self in let after = c.hear.new.out.items in
    let a = asks_at old f k c.requires.fleet at in
    let t = subst (λ (o : Option MoverIs). IfSome o (λ (m : MoverIs). HasTakenUp (on_reply m r) mid f middle new next after)) a.is c.in_ok-hear.ensures.heard in
    let j = c.in-Some-mover_group.group in let next_at : group_in next ≡ Some j = sym c.mover_group-2.ensures ∙ c.in-Some-mover_group.is in
    mover_pending new next j (asks_at new next j t.is_fleet next_at)

pub returns-in_err-_reply-clause-err : goal.returns-in_err-_reply-clause-err
returns-in_err-_reply-clause-err g c =
    let f : FleetIs = c.args.self.now in let old = c.args.chunks.now in let before = c.args.out.now.items in
    let k = c.in-Some.group in let at : group_in f ≡ Some k = sym c.mover_group.ensures ∙ c.in-Some.is in
    let mid = c.drive_at.new.chunks in let middle = c.drive_at.new.out.items in
    let r = c.in-Some-2.reply in let d = subst (λ (it : Option Reply). HasDrove 16 k old before it middle mid) c.in-Some-2.is c.in_ok-reply.ensures.went in
    let new = c.hear.new.chunks in let next = c.hear.new.self in let after = c.hear.new.out.items in
    let a = asks_at old f k c.requires.fleet at in
    let t = subst (λ (o : Option MoverIs). IfSome o (λ (m : MoverIs). HasTakenUp (on_reply m r) mid f middle new next after)) a.is c.in_ok-hear.ensures.heard in
    let j = c.in-Some-mover_group.group in let next_at : group_in next ≡ Some j = sym c.mover_group-2.ensures ∙ c.in-Some-mover_group.is in
    on_err c.from_residual-in_err-_reply.result _ (mover_not_handed old mid f k c.requires.fleet at r before middle d new next after t j next_at c.drive_at-2.new.chunks c.in_err-_reply.ensures.err)

pub returns-clause-went : goal.returns-clause-went
returns-clause-went g c =
    let f : FleetIs = c.args.self.now in let old = c.args.chunks.now in let before = c.args.out.now.items in
    let k = c.in-Some.group in let at : group_in f ≡ Some k = sym c.mover_group.ensures ∙ c.in-Some.is in
    let mid = c.drive_at.new.chunks in let middle = c.drive_at.new.out.items in
    let r = c.in-Some-2.reply in let d = subst (λ (it : Option Reply). HasDrove 16 k old before it middle mid) c.in-Some-2.is c.in_ok-reply.ensures.went in
    let new = c.hear.new.chunks in let next = c.hear.new.self in let after = c.hear.new.out.items in
    let a = asks_at old f k c.requires.fleet at in
    let t = subst (λ (o : Option MoverIs). IfSome o (λ (m : MoverIs). HasTakenUp (on_reply m r) mid f middle new next after)) a.is c.in_ok-hear.ensures.heard in
    let j = c.in-Some-mover_group.group in let next_at : group_in next ≡ Some j = sym c.mover_group-2.ensures ∙ c.in-Some-mover_group.is in
    let last = c.drive_at-2.new.chunks in let end = c.drive_at-2.new.out.items in
    mover_went_on old mid f k c.requires.fleet at r before middle d new next after t j next_at last c.in_ok-_reply._reply end c.in_ok-_reply.ensures.went

pub returns-clause-same : goal.returns-clause-same
returns-clause-same g c =
    let f : FleetIs = c.args.self.now in let old = c.args.chunks.now in let before = c.args.out.now.items in
    let k = c.in-Some.group in let at : group_in f ≡ Some k = sym c.mover_group.ensures ∙ c.in-Some.is in
    let mid = c.drive_at.new.chunks in let middle = c.drive_at.new.out.items in
    let r = c.in-Some-2.reply in let d = subst (λ (it : Option Reply). HasDrove 16 k old before it middle mid) c.in-Some-2.is c.in_ok-reply.ensures.went in
    let new = c.hear.new.chunks in let next = c.hear.new.self in let after = c.hear.new.out.items in
    let a = asks_at old f k c.requires.fleet at in
    let t = subst (λ (o : Option MoverIs). IfSome o (λ (m : MoverIs). HasTakenUp (on_reply m r) mid f middle new next after)) a.is c.in_ok-hear.ensures.heard in
    t.same

pub returns-clause-stay : goal.returns-clause-stay
returns-clause-stay g c =
    let f : FleetIs = c.args.self.now in let old = c.args.chunks.now in let before = c.args.out.now.items in
    let k = c.in-Some.group in let at : group_in f ≡ Some k = sym c.mover_group.ensures ∙ c.in-Some.is in
    let mid = c.drive_at.new.chunks in let middle = c.drive_at.new.out.items in
    let r = c.in-Some-2.reply in let d = subst (λ (it : Option Reply). HasDrove 16 k old before it middle mid) c.in-Some-2.is c.in_ok-reply.ensures.went in
    let new = c.hear.new.chunks in let next = c.hear.new.self in let after = c.hear.new.out.items in
    let a = asks_at old f k c.requires.fleet at in
    let t = subst (λ (o : Option MoverIs). IfSome o (λ (m : MoverIs). HasTakenUp (on_reply m r) mid f middle new next after)) a.is c.in_ok-hear.ensures.heard in
    let j = c.in-Some-mover_group.group in let next_at : group_in next ≡ Some j = sym c.mover_group-2.ensures ∙ c.in-Some-mover_group.is in
    let last = c.drive_at-2.new.chunks in let end = c.drive_at-2.new.out.items in
    went_on_stays old mid f k c.requires.fleet at r before middle d new next after t j next_at last c.in_ok-_reply._reply end c.in_ok-_reply.ensures.went
