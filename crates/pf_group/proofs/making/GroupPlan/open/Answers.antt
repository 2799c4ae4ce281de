use Rattle.std.proofs.Common.{◌≡◌, ℕ, List, inl, [], ◌∷◌, ◌++◌, ◌==◌, map, slice_get, refl, sym, append-nil, ap, subst, ◌∙◌}
use Rattle.std.specs.List.{list_any}
use Rattle.pf_entry.specs.Lists.{Every}
use Rattle.pf_entry.specs.Tables.{ascends}
use Rattle.pf_disk_store.specs.declared.kept.Kept.{Kept}
use Rattle.pf_disk_store.specs.Faults.{faults_of}
use Rattle.pf_server_format.specs.Opening.{first_body}
use Rattle.pf_server_format.specs.Rooms.{ServerPlace}
use Rattle.pf_protocol.specs.Groups.{opening}
use Rattle.pf_server_restart.specs.Beginning.{setup_of_seat}
use Rattle.pf_protocol.specs.Histories.{replay}
use Rattle.pf_protocol.specs.Servers.{Setup}
use Rattle.pf_group_network.specs.pf_server.specs.declared.server.Server.{Server}
use Rattle.pf_group_network.specs.declared.network.Network.{Network}
use Rattle.pf_group_network.specs.Readings.{is_taken}
use Rattle.pf_disk_store.specs.Model.{kept_model}
use Rattle.pf_group.specs.GroupIs.{GroupIs, Times}
use Rattle.pf_group.specs.Halves.{AreLater, HasRisen}
use Rattle.pf_group.specs.Making.{making_answer, setup_with, six_faults}
use Rattle.pf_group.specs.Rooms.{halted_of, picked, place_at}
use Rattle.pf_group.proofs.Made.{every_picked, opened_members, opened_there, own_head, picked_0, picked_1, picked_2, picks_ascend, shows_opening, three_heads, three_later, was_halted}
use Rattle.pf_group.proofs.NetworkStands.{stands_opening}
use Rattle.pf_group.proofs.Since.{since_now, tell_all}
use Rattle.pf_group.proofs.making.GroupPlan.open.Goals as goal

-- the first record of the server at this place
first_at : (number sectors names format i : ℕ) (place : ServerPlace) (image bytes : List ℕ) → place ≡ place_at number sectors names format i → image ≡ first_body (setup_with sectors names format []) → bytes ≡ image
    → bytes ≡ first_body (setup_of_seat place.seat)
first_at number sectors names format i place image bytes is spelled same = same ∙ spelled ∙ ap (λ (p : ServerPlace). first_body (setup_of_seat p.seat)) (sym is)

pub open-zero-requires : goal.open-zero-requires
open-zero-requires g c = let p = c.args.self in first_at p.number p.sectors p.names p.format 0 p.zero p.image.items _ c.requires.plan.zero c.requires.plan.image c.deref.ensures.value

pub open-one-requires : goal.open-one-requires
open-one-requires g c = let p = c.args.self in first_at p.number p.sectors p.names p.format 1 p.one p.image.items _ c.requires.plan.one c.requires.plan.image c.deref-2.ensures.value

pub open-two-requires : goal.open-two-requires
open-two-requires g c = let p = c.args.self in first_at p.number p.sectors p.names p.format 2 p.two p.image.items _ c.requires.plan.two c.requires.plan.image c.deref-3.ensures.value

pub invariant_of-group : goal.invariant_of-group
invariant_of-group g c =
    let p = c.args.self in
    let failed = c.note-3.ensures.items ∙ ap (λ l. l ++ picked (halted_of c.open-two.result.1) 2) (c.note-2.ensures.items ∙ ap (λ l. l ++ picked (halted_of c.open-one.result.1) 1) (c.note.ensures.items ∙ ap (λ l. l ++ picked (halted_of c.open-zero.result.1) 0) c.requires.plan.failed)) in
    let servers = c.put-3.ensures.items ∙ ap (λ l. l ++ c.open-two.result.0 ∷ []) (c.put-2.ensures.items ∙ ap (λ l. l ++ c.open-one.result.0 ∷ []) (c.put.ensures.items ∙ ap (λ l. l ++ c.open-zero.result.0 ∷ []) c.requires.plan.network.servers)) in
    let setup : Setup = setup_with p.sectors p.names p.format c.note-3.new.failed.items in
    let network : Network (Kept g.row.D.Denot) = record { servers = c.put-3.new.list; packets = p.network.packets; byte_room = p.network.byte_room; acked = p.network.acked; readings = p.network.readings; elections = p.network.elections } in
    let e = c.requires.plan.network in
    let shows =
    shows_opening (kept_model g.D.Disk.seen g.D.Disk.may_leave g.D.Disk.faults g.D.Disk.moment g.D.Disk.left_since g.D.Disk.tells_moments) setup network c.open-zero.result.0 c.open-one.result.0 c.open-two.result.0 servers
    (opened_members (kept_model g.D.Disk.seen g.D.Disk.may_leave g.D.Disk.faults g.D.Disk.moment g.D.Disk.left_since g.D.Disk.tells_moments) setup c.open-zero.result.0 c.open-one.result.0 c.open-two.result.0
    (opened_there (kept_model g.D.Disk.seen g.D.Disk.may_leave g.D.Disk.faults g.D.Disk.moment g.D.Disk.left_since g.D.Disk.tells_moments) setup 0 p.zero (ap (λ (q : ServerPlace). q.seat) c.requires.plan.zero) c.open-zero.result.0 c.open-zero.result.1
    (ap (list_any (λ j. j == 0)) failed ∙ picked_0 (halted_of c.open-zero.result.1) (halted_of c.open-one.result.1) (halted_of c.open-two.result.1)) c.open-zero.ensures.outcome c.open-zero.ensures.opened c.open-zero.ensures.halted c.open-zero.ensures.seat)
    (opened_there (kept_model g.D.Disk.seen g.D.Disk.may_leave g.D.Disk.faults g.D.Disk.moment g.D.Disk.left_since g.D.Disk.tells_moments) setup 1 p.one (ap (λ (q : ServerPlace). q.seat) c.requires.plan.one) c.open-one.result.0 c.open-one.result.1
    (ap (list_any (λ j. j == 1)) failed ∙ picked_1 (halted_of c.open-zero.result.1) (halted_of c.open-one.result.1) (halted_of c.open-two.result.1)) c.open-one.ensures.outcome c.open-one.ensures.opened c.open-one.ensures.halted c.open-one.ensures.seat)
    (opened_there (kept_model g.D.Disk.seen g.D.Disk.may_leave g.D.Disk.faults g.D.Disk.moment g.D.Disk.left_since g.D.Disk.tells_moments) setup 2 p.two (ap (λ (q : ServerPlace). q.seat) c.requires.plan.two) c.open-two.result.0 c.open-two.result.1
    (ap (list_any (λ j. j == 2)) failed ∙ picked_2 (halted_of c.open-zero.result.1) (halted_of c.open-one.result.1) (halted_of c.open-two.result.1)) c.open-two.ensures.outcome c.open-two.ensures.opened c.open-two.ensures.halted c.open-two.ensures.seat))
    e.packets e.places e.bytes e.acked e.readings e.elections in
    record {
      stands = stands_opening (kept_model g.D.Disk.seen g.D.Disk.may_leave g.D.Disk.faults g.D.Disk.moment g.D.Disk.left_since g.D.Disk.tells_moments) g.D.Disk.tells setup p.past.happenings network c.requires.setup c.requires.plan.history shows;
      heads = λ tell. three_heads p.number network c.open-zero.result.0 c.open-one.result.0 c.open-two.result.0 servers
          (own_head p.number p.sectors p.names p.format 0 p.zero c.requires.plan.zero c.open-zero.result.0.seat c.open-zero.result.0.store.pair.head c.open-zero.ensures.seat c.open-zero.ensures.head)
          (own_head p.number p.sectors p.names p.format 1 p.one c.requires.plan.one c.open-one.result.0.seat c.open-one.result.0.store.pair.head c.open-one.ensures.seat c.open-one.ensures.head)
          (own_head p.number p.sectors p.names p.format 2 p.two c.requires.plan.two c.open-two.result.0.seat c.open-two.result.0.store.pair.head c.open-two.ensures.seat c.open-two.ensures.head);
      past = c.requires.plan.past;
      after = p.past.happenings;
      last = record { step = inl (sym c.now-began.ensures.history_is); since = []; quiet = tt; whole = sym (append-nil p.past.happenings) };
      since = λ tell. since_now g.D.Disk.seen g.D.Disk.may_leave g.D.Disk.faults g.D.Disk.moment g.D.Disk.left_since g.D.Disk.tells g.D.Disk.tells_moments setup (opening setup) (replay setup c.now-began.result.happenings.value) (replay setup p.past.happenings) c.now-began.result.network.value network c.now-began.ensures.network_is shows (tell_all g.D.Disk.seen g.D.Disk.may_leave g.D.Disk.faults g.D.Disk.moment g.D.Disk.left_since g.D.Disk.tells g.D.Disk.tells_moments g.met.D.Disk.told tell network);
    }

pub returns : goal.returns
returns g c =
    let p = c.args.self in
    let failed = c.note-3.ensures.items ∙ ap (λ l. l ++ picked (halted_of c.open-two.result.1) 2) (c.note-2.ensures.items ∙ ap (λ l. l ++ picked (halted_of c.open-one.result.1) 1) (c.note.ensures.items ∙ ap (λ l. l ++ picked (halted_of c.open-zero.result.1) 0) c.requires.plan.failed)) in
    let servers = c.put-3.ensures.items ∙ ap (λ l. l ++ c.open-two.result.0 ∷ []) (c.put-2.ensures.items ∙ ap (λ l. l ++ c.open-one.result.0 ∷ []) (c.put.ensures.items ∙ ap (λ l. l ++ c.open-zero.result.0 ∷ []) c.requires.plan.network.servers)) in
    let counts = λ (s : Server (Kept g.row.D.Denot)). faults_of g.D.Disk.faults s.store in
    let now = map counts c.put-3.new.list.items in
    let moments = λ (s : Server (Kept g.row.D.Denot)). faults_of g.D.Disk.moment s.store in
    let time : Times = record { now = map moments c.put-3.new.list.items; began = map moments c.now-began.result.network.value.servers.items; earlier = c.now-began.result.happenings.value } in
    let Risen = λ (i : ℕ). HasRisen i (six_faults g.D.Disk.faults c.args.disks) now in
    record {
      failed = c.note-3.new.failed.items;
      is = ap (λ h. let v : GroupIs = record { number = p.number; told = g.D.Disk.tells; setup = setup_with p.sectors p.names p.format c.note-3.new.failed.items; history = h; taken = map is_taken p.network.readings.items; faults = now; time = time } in v) c.requires.plan.history
          ∙ ap (λ r. let v : GroupIs = record { number = p.number; told = g.D.Disk.tells; setup = setup_with p.sectors p.names p.format c.note-3.new.failed.items; history = []; taken = map is_taken r; faults = now; time = time } in v) c.requires.plan.network.readings;
      once = ap ascends failed ∙ picks_ascend (halted_of c.open-zero.result.1) (halted_of c.open-one.result.1) (halted_of c.open-two.result.1);
      cause = subst (Every Risen) (sym failed) (every_picked Risen (halted_of c.open-zero.result.1) (halted_of c.open-one.result.1) (halted_of c.open-two.result.1)
          (λ is. record {
            was = (g.D.Disk.faults c.args.disks.s0h0, g.D.Disk.faults c.args.disks.s0h1);
            is = faults_of g.D.Disk.faults c.open-zero.result.0.store;
            then_is = refl;
            now_is = ap (λ xs. slice_get (map counts xs) 0) servers;
            risen = c.open-zero.ensures.failed (was_halted c.open-zero.result.1 c.open-zero.ensures.outcome is);
          })
          (λ is. record {
            was = (g.D.Disk.faults c.args.disks.s1h0, g.D.Disk.faults c.args.disks.s1h1);
            is = faults_of g.D.Disk.faults c.open-one.result.0.store;
            then_is = refl;
            now_is = ap (λ xs. slice_get (map counts xs) 1) servers;
            risen = c.open-one.ensures.failed (was_halted c.open-one.result.1 c.open-one.ensures.outcome is);
          })
          (λ is. record {
            was = (g.D.Disk.faults c.args.disks.s2h0, g.D.Disk.faults c.args.disks.s2h1);
            is = faults_of g.D.Disk.faults c.open-two.result.0.store;
            then_is = refl;
            now_is = ap (λ xs. slice_get (map counts xs) 2) servers;
            risen = c.open-two.ensures.failed (was_halted c.open-two.result.1 c.open-two.ensures.outcome is);
          }));
      later = subst (AreLater (six_faults g.D.Disk.faults c.args.disks)) (sym (ap (map counts) servers)) (three_later _ _ _ (counts c.open-zero.result.0) (counts c.open-one.result.0) (counts c.open-two.result.0) c.open-zero.ensures.later c.open-one.ensures.later c.open-two.ensures.later);
      answered = c.making_answer-answer.ensures ∙ ap making_answer c.deref-4.ensures.value;
    }
