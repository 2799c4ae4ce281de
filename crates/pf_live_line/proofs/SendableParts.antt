-- What may cross threads.
use denote.RattleType.{RattleType}
use denote.Enum.Declared as enums
use denote.Param.Send.{IsSend, IsSync, enum_send, recorded_send, recorded_sync, sendable, struct_send, struct_sync, view_send}
use denote.Struct.Declared.{shape}
use Rattle.pf_disk.specs.declared.disk.Disk.{Ghosts}
use Rattle.pf_live_seats.specs.pf_group.specs.contracts.group.Group as Group
use Rattle.pf_live_seats.specs.pf_group.specs.contracts.group.Group.TheInside as Inside
use Rattle.pf_live_seats.specs.pf_shared.specs.contracts.moment.SeatMoment as Moment
use Rattle.pf_live_seats.specs.pf_shared.specs.contracts.start.SharedStart as Start
use Rattle.pf_live_seats.specs.pf_shared.specs.contracts.behind.Behind as Behind
use Rattle.pf_live_seats.specs.pf_shared.specs.contracts.parts.GroupSeat as GroupSeat
use Rattle.pf_live_seats.specs.pf_shared.specs.contracts.parts.SharedGroup as SharedGroup
use Rattle.pf_live_seats.specs.contracts.applying.Applier as Applier
use Rattle.pf_live_seats.specs.contracts.line.LiveLine as LiveLine
use Rattle.pf_live_seats.specs.contracts.submitting.Submitter as Submitter
use Rattle.pf_live_seats.specs.contracts.switching.Switch as Switch
use Rattle.pf_live_line.specs.contracts.worker.Worker as Worker
use Rattle.pf_live_seats.proofs.hosting.HostSeat.TheSendSync as host
use Rattle.pf_live_seats.proofs.line.HostRings.TheSendSync as rings
use Rattle.pf_live_seats.proofs.line.Bells.TheSendSync as bells
use Rattle.pf_live_seats.proofs.serving.Served.TheSendSync as served
use Rattle.pf_leadercell.proofs.cell.LeaderPass.TheSendSync as pass
use Rattle.std.proofs.sync.atomic.AtomicU64.TheSendSync as word
use Rattle.pf_turn.proofs.parts.TurnSeat.TheSendSync as seat
use Rattle.pf_turn.proofs.parts.TurnLock.TheSendSync as lock
use Rattle.pf_turn.proofs.log.Stamped.TheSendSync as stamped
use Rattle.pf_live_seats.specs.pf_group_network.proofs.network.Network.TheSendSync as network
use Rattle.pf_disk_store.proofs.kept.Kept.TheSendSync as kept
use Rattle.pf_live_seats.specs.pf_shared.proofs.moment.Did.TheSendSync as did
use Rattle.pf_leadercell.proofs.cell.LeaderCell.TheSendSync as cell
use Rattle.pf_live_seats.proofs.plan.LinePlan.TheSendSync as plan
use Rattle.std.proofs.vec.Vec.TheSendSync as vec
use Rattle.std.proofs.alloc.Global.TheSendSync as heap
use Rattle.std.proofs.Crossing.{frees}

pub group_send : (D : RattleType) (g : Ghosts D.Denot) → IsSend D → IsSend (Group.the_row D g)
group_send D g d = view_send _ _ _ _ _ (recorded_send _ _ _ (Inside.the_type D g).to_one (struct_send (shape (Inside.the_type D g)) (search sendable, (search sendable, (search sendable, (search sendable, (search (sendable, vec.the_send, heap.the_send, frees) depth 30, (network.the_field_send _ (kept.the_send D d), (search sendable depth 30, (search sendable depth 30, tt))))))))))

pub start_send : (D : RattleType) (g : Ghosts D.Denot) → IsSend D → IsSend (Start.the_row D g)
start_send D g d = search sendable depth 30

pub behind_send : (D : RattleType) (g : Ghosts D.Denot) → IsSend D → IsSend (Group.the_row D g) → IsSend (Start.the_row D g) → IsSend (Behind.the_row D g)
behind_send D g d s t = recorded_send _ _ _ (Behind.the_type D g).to_one (struct_send (shape (Behind.the_type D g)) (s, (t, ((let e = stamped.the_send _ did.the_send in search (sendable, vec.the_send, heap.the_send, frees) depth 30), (search sendable depth 30, (search sendable depth 30, tt))))))

pub seat_send : (D : RattleType) (g : Ghosts D.Denot) → IsSend D → IsSend (GroupSeat.the_field D g).row
seat_send D g d = let b = behind_send D g d (group_send D g d) (start_send D g d) in struct_send (shape (GroupSeat.the_type D g)) (seat.the_field_send Moment.the_row (Start.the_row D g) (Behind.the_row D g) b, tt)

pub applier_send : (D : RattleType) (g : Ghosts D.Denot) → IsSend D → IsSend (Applier.the_field D g).row
applier_send D g d = let s = seat_send D g d in struct_send (shape (Applier.the_type D g)) (s, (search sendable, (search sendable, (search sendable, (search sendable, tt)))))

pub switch_send : (D : RattleType) (g : Ghosts D.Denot) → IsSend D → IsSend (Switch.the_field D g).row
switch_send D g d = let s = seat_send D g d in struct_send (shape (Switch.the_type D g))
    (s, (search sendable depth 30, (pass.the_field_send, (search sendable, (search sendable, (search sendable, (search sendable, (search sendable, (search sendable, tt)))))))))

pub submitter_send : (D : RattleType) (g : Ghosts D.Denot) → IsSend D → IsSend (Submitter.the_field D g).row
submitter_send D g d = let s = seat_send D g d in struct_send (shape (Submitter.the_type D g))
    (s, (search sendable depth 30, (pass.the_field_send, (search (sendable, vec.the_send, served.the_send, heap.the_send, frees) depth 30, (search sendable, (search sendable, (search sendable, tt)))))))

pub worker_send : (D : RattleType) (g : Ghosts D.Denot) → IsSend D → IsSend (Worker.the_row D g)
worker_send D g d = recorded_send _ _ _ (Worker.the_type D g).to_one (enum_send (enums.shape (Worker.the_type D g))
    ((host.the_field_send, tt), ((submitter_send D g d, tt), ((switch_send D g d, tt), ((applier_send D g d, tt), tt)))))

pub shared_sync : (D : RattleType) (g : Ghosts D.Denot) → IsSend D → IsSync (SharedGroup.the_field D g).row
shared_sync D g d = let b = behind_send D g d (group_send D g d) (start_send D g d) in struct_sync (shape (SharedGroup.the_type D g)) (lock.the_field_sync Moment.the_row (Start.the_row D g) (Behind.the_row D g) _ b, tt)

pub line_sync : (D G : RattleType) (g : Ghosts D.Denot) → IsSend D → IsSync G → IsSync (LiveLine.the_row D G g)
line_sync D G g d y = let s = shared_sync D g d in
    recorded_sync _ _ _ (LiveLine.the_type D G g).to_one (struct_sync (shape (LiveLine.the_type D G g)) (s, (y, (search (sendable, heap.the_field_sync), (cell.the_field_sync, (plan.the_field_sync, (search (sendable, vec.the_sync, rings.the_sync, heap.the_sync) depth 30, (bells.the_field_sync, (search (sendable, word.the_sync), (search (sendable, word.the_sync), (search (sendable, word.the_sync), tt)))))))))))
