use Rattle.std.proofs.Common.{◌≡◌, ◌<◌, Some, length, slice_get, slice_set, arith, refl, sym, ap, subst, ◌∙◌}
use Rattle.std.specs.Option.{option_and_then}
use Rattle.std.proofs.lemmas.Option.{slice_get_read}
use Rattle.pf_base.specs.declared.asks.Ask.{Ask}
use Rattle.pf_asks.specs.Ports.{PortIs, new_port}
use Rattle.pf_chunk.specs.Driving.{Heeds, range_read}
use Rattle.pf_chunk.specs.Views.{ChunkIs}
use Rattle.pf_chunk.proofs.PortBorrows.{answers_it, hands_on, inside, inside_still, is_counted, kind_of, left_alone, pending, silent_then}
use Rattle.pf_chunk.proofs.chunk.ChunkGroup.hand_on.Goals as goal

pub take_step-requires : goal.take_step-requires
take_step-requires g c =
    let now = c.args.self.now in
    let m = c.args.mount in
    let p = c.replace-port.result in
    let low : m < length now.ports = omega (arith, c.requires.mount, c.requires.ready.kept.ports_fit.count) in
    let read = slice_get_read c.self.inside.ports.items (length c.self.inside.ports.items) m c.index_mut.result.now refl (subst (λ (v : ChunkIs). c.args.mount < length v.ports) (sym c.self.view_is) low) c.index_mut.ensures.value in
    let there : slice_get now.ports m ≡ Some p = ap (λ (v : ChunkIs). slice_get v.ports m) (sym c.self.view_is) ∙ read ∙ ap Some (sym c.replace-port.ensures.value) in
    let start : ChunkIs = record { group = c.self.inside.group; waiting = c.self.inside.waiting.items; first_left = c.self.inside.first_left; next = c.self.inside.next; ports = slice_set c.self.inside.ports.items m c.replace-port.new.dest } in
    let start_is : start ≡ record now { ports = slice_set now.ports m new_port } =
    ap (λ (q : PortIs). let x : ChunkIs = record start { ports = slice_set c.self.inside.ports.items m q } in x) (c.replace-port.ensures.after ∙ c.new.ensures)
    ∙ ap (λ (v : ChunkIs). let x : ChunkIs = record v { ports = slice_set v.ports m new_port } in x) c.self.view_is in
    record { pending = pending m now p there start start_is c.requires.pending }

pub heed-reply-requires-clause-none : goal.heed-reply-requires-clause-none
heed-reply-requires-clause-none g c is =
    let now = c.args.self.now in
    let m = c.args.mount in
    let p = c.replace-port.result in
    let low : m < length now.ports = omega (arith, c.requires.mount, c.requires.ready.kept.ports_fit.count) in
    let read = slice_get_read c.self.inside.ports.items (length c.self.inside.ports.items) m c.index_mut.result.now refl (subst (λ (v : ChunkIs). c.args.mount < length v.ports) (sym c.self.view_is) low) c.index_mut.ensures.value in
    let there : slice_get now.ports m ≡ Some p = ap (λ (v : ChunkIs). slice_get v.ports m) (sym c.self.view_is) ∙ read ∙ ap Some (sym c.replace-port.ensures.value) in
    let start : ChunkIs = record { group = c.self.inside.group; waiting = c.self.inside.waiting.items; first_left = c.self.inside.first_left; next = c.self.inside.next; ports = slice_set c.self.inside.ports.items m c.replace-port.new.dest } in
    let start_is : start ≡ record now { ports = slice_set now.ports m new_port } =
    ap (λ (q : PortIs). let x : ChunkIs = record start { ports = slice_set c.self.inside.ports.items m q } in x) (c.replace-port.ensures.after ∙ c.new.ensures)
    ∙ ap (λ (v : ChunkIs). let x : ChunkIs = record v { ports = slice_set v.ports m new_port } in x) c.self.view_is in
    silent_then m now p there start start_is c.take_step.new.desk c.take_step.new.port c.args.step c.in-Ok.reply c.in-Ok.ensures.stepped c.requires.pending is

pub index_mut-requires-in-Err : goal.index_mut-requires-in-Err
index_mut-requires-in-Err g c =
    let now = c.args.self.now in
    let m = c.args.mount in
    let p = c.replace-port.result in
    let low : m < length now.ports = omega (arith, c.requires.mount, c.requires.ready.kept.ports_fit.count) in
    let read = slice_get_read c.self.inside.ports.items (length c.self.inside.ports.items) m c.index_mut.result.now refl (subst (λ (v : ChunkIs). c.args.mount < length v.ports) (sym c.self.view_is) low) c.index_mut.ensures.value in
    let there : slice_get now.ports m ≡ Some p = ap (λ (v : ChunkIs). slice_get v.ports m) (sym c.self.view_is) ∙ read ∙ ap Some (sym c.replace-port.ensures.value) in
    let start : ChunkIs = record { group = c.self.inside.group; waiting = c.self.inside.waiting.items; first_left = c.self.inside.first_left; next = c.self.inside.next; ports = slice_set c.self.inside.ports.items m c.replace-port.new.dest } in
    let start_is : start ≡ record now { ports = slice_set now.ports m new_port } =
    ap (λ (q : PortIs). let x : ChunkIs = record start { ports = slice_set c.self.inside.ports.items m q } in x) (c.replace-port.ensures.after ∙ c.new.ensures)
    ∙ ap (λ (v : ChunkIs). let x : ChunkIs = record v { ports = slice_set v.ports m new_port } in x) c.self.view_is in
    let low_there : m < length c.take_step.new.desk.ports = inside_still m now p there start start_is c.take_step.new.desk c.take_step.new.port c.in-Err.ensures.err.0 c.in-Err.ensures.err.1 low in
    let here : m < length c.self-2.inside.ports.items = subst (λ (v : ChunkIs). c.args.mount < length v.ports) (sym c.self-2.view_is) low_there in
    omega (arith, here, c.self-2.inside.ports.ok.0)

pub returns-in-Err-clause-err : goal.returns-in-Err-clause-err
returns-in-Err-clause-err g c =
    let now = c.args.self.now in
    let m = c.args.mount in
    let p = c.replace-port.result in
    let low : m < length now.ports = omega (arith, c.requires.mount, c.requires.ready.kept.ports_fit.count) in
    let read = slice_get_read c.self.inside.ports.items (length c.self.inside.ports.items) m c.index_mut.result.now refl (subst (λ (v : ChunkIs). c.args.mount < length v.ports) (sym c.self.view_is) low) c.index_mut.ensures.value in
    let there : slice_get now.ports m ≡ Some p = ap (λ (v : ChunkIs). slice_get v.ports m) (sym c.self.view_is) ∙ read ∙ ap Some (sym c.replace-port.ensures.value) in
    let start : ChunkIs = record { group = c.self.inside.group; waiting = c.self.inside.waiting.items; first_left = c.self.inside.first_left; next = c.self.inside.next; ports = slice_set c.self.inside.ports.items m c.replace-port.new.dest } in
    let start_is : start ≡ record now { ports = slice_set now.ports m new_port } =
    ap (λ (q : PortIs). let x : ChunkIs = record start { ports = slice_set c.self.inside.ports.items m q } in x) (c.replace-port.ensures.after ∙ c.new.ensures)
    ∙ ap (λ (v : ChunkIs). let x : ChunkIs = record v { ports = slice_set v.ports m new_port } in x) c.self.view_is in
    let final : ChunkIs = record { group = c.self-2.inside.group; waiting = c.self-2.inside.waiting.items; first_left = c.self-2.inside.first_left; next = c.self-2.inside.next; ports = slice_set c.self-2.inside.ports.items m c.take_step.new.port } in
    let final_is : final ≡ record c.take_step.new.desk { ports = slice_set c.take_step.new.desk.ports m c.take_step.new.port } = ap (λ (v : ChunkIs). let x : ChunkIs = record v { ports = slice_set v.ports m c.take_step.new.port } in x) c.self-2.view_is in
    left_alone m now p there start start_is c.take_step.new.desk c.take_step.new.port c.in-Err.ensures.err.0 c.in-Err.ensures.err.1 final final_is

pub index_mut-requires-2 : goal.index_mut-requires-2
index_mut-requires-2 g c =
    let now = c.args.self.now in
    let m = c.args.mount in
    let p = c.replace-port.result in
    let low : m < length now.ports = omega (arith, c.requires.mount, c.requires.ready.kept.ports_fit.count) in
    let read = slice_get_read c.self.inside.ports.items (length c.self.inside.ports.items) m c.index_mut.result.now refl (subst (λ (v : ChunkIs). c.args.mount < length v.ports) (sym c.self.view_is) low) c.index_mut.ensures.value in
    let there : slice_get now.ports m ≡ Some p = ap (λ (v : ChunkIs). slice_get v.ports m) (sym c.self.view_is) ∙ read ∙ ap Some (sym c.replace-port.ensures.value) in
    let start : ChunkIs = record { group = c.self.inside.group; waiting = c.self.inside.waiting.items; first_left = c.self.inside.first_left; next = c.self.inside.next; ports = slice_set c.self.inside.ports.items m c.replace-port.new.dest } in
    let start_is : start ≡ record now { ports = slice_set now.ports m new_port } =
    ap (λ (q : PortIs). let x : ChunkIs = record start { ports = slice_set c.self.inside.ports.items m q } in x) (c.replace-port.ensures.after ∙ c.new.ensures)
    ∙ ap (λ (v : ChunkIs). let x : ChunkIs = record v { ports = slice_set v.ports m new_port } in x) c.self.view_is in
    let low_there : m < length c.take_step.new.desk.ports = inside m now p there start start_is c.take_step.new.desk c.take_step.new.port c.args.step c.in-Ok.reply c.in-Ok.ensures.stepped c.requires.pending low in
    let here : m < length c.self-2.inside.ports.items = subst (λ (v : ChunkIs). c.args.mount < length v.ports) (sym c.self-2.view_is) low_there in
    omega (arith, here, c.self-2.inside.ports.ok.0)

pub returns-clause-went : goal.returns-clause-went
returns-clause-went g c =
    let now = c.args.self.now in
    let m = c.args.mount in
    let p = c.replace-port.result in
    let low : m < length now.ports = omega (arith, c.requires.mount, c.requires.ready.kept.ports_fit.count) in
    let read = slice_get_read c.self.inside.ports.items (length c.self.inside.ports.items) m c.index_mut.result.now refl (subst (λ (v : ChunkIs). c.args.mount < length v.ports) (sym c.self.view_is) low) c.index_mut.ensures.value in
    let there : slice_get now.ports m ≡ Some p = ap (λ (v : ChunkIs). slice_get v.ports m) (sym c.self.view_is) ∙ read ∙ ap Some (sym c.replace-port.ensures.value) in
    let start : ChunkIs = record { group = c.self.inside.group; waiting = c.self.inside.waiting.items; first_left = c.self.inside.first_left; next = c.self.inside.next; ports = slice_set c.self.inside.ports.items m c.replace-port.new.dest } in
    let start_is : start ≡ record now { ports = slice_set now.ports m new_port } =
    ap (λ (q : PortIs). let x : ChunkIs = record start { ports = slice_set c.self.inside.ports.items m q } in x) (c.replace-port.ensures.after ∙ c.new.ensures)
    ∙ ap (λ (v : ChunkIs). let x : ChunkIs = record v { ports = slice_set v.ports m new_port } in x) c.self.view_is in
    let final : ChunkIs = record { group = c.self-2.inside.group; waiting = c.self-2.inside.waiting.items; first_left = c.self-2.inside.first_left; next = c.self-2.inside.next; ports = slice_set c.self-2.inside.ports.items m c.heed-reply.new.port } in
    let final_is : final ≡ record c.take_step.new.desk { ports = slice_set c.take_step.new.desk.ports m c.heed-reply.new.port } = ap (λ (v : ChunkIs). let x : ChunkIs = record v { ports = slice_set v.ports m c.heed-reply.new.port } in x) c.self-2.view_is in
    let heeds : (ask : Ask) → p.ask ≡ Some ask → Heeds ask c.in-Ok.reply c.take_step.new.port c.heed-reply.result c.heed-reply.new.port =
    λ ask its. c.heed-reply.ensures ask (c.pending_read-read.ensures.read ∙ ap (option_and_then range_read) its) (kind_of p c.in-Ok.reply ask its c.in-Ok.ensures.kind) in
    hands_on m now p there start start_is c.take_step.new.desk c.take_step.new.port c.args.step c.in-Ok.reply c.in-Ok.ensures.stepped c.requires.pending c.heed-reply.new.port c.heed-reply.result final final_is
    (λ told. c.in-Ok.ensures.whole (is_counted m now p there start start_is c.requires.ready told)) heeds

pub returns-clause-answers : goal.returns-clause-answers
returns-clause-answers g c =
    let now = c.args.self.now in
    let m = c.args.mount in
    let p = c.replace-port.result in
    let low : m < length now.ports = omega (arith, c.requires.mount, c.requires.ready.kept.ports_fit.count) in
    let read = slice_get_read c.self.inside.ports.items (length c.self.inside.ports.items) m c.index_mut.result.now refl (subst (λ (v : ChunkIs). c.args.mount < length v.ports) (sym c.self.view_is) low) c.index_mut.ensures.value in
    let there : slice_get now.ports m ≡ Some p = ap (λ (v : ChunkIs). slice_get v.ports m) (sym c.self.view_is) ∙ read ∙ ap Some (sym c.replace-port.ensures.value) in
    let start : ChunkIs = record { group = c.self.inside.group; waiting = c.self.inside.waiting.items; first_left = c.self.inside.first_left; next = c.self.inside.next; ports = slice_set c.self.inside.ports.items m c.replace-port.new.dest } in
    let start_is : start ≡ record now { ports = slice_set now.ports m new_port } =
    ap (λ (q : PortIs). let x : ChunkIs = record start { ports = slice_set c.self.inside.ports.items m q } in x) (c.replace-port.ensures.after ∙ c.new.ensures)
    ∙ ap (λ (v : ChunkIs). let x : ChunkIs = record v { ports = slice_set v.ports m new_port } in x) c.self.view_is in
    let heeds : (ask : Ask) → p.ask ≡ Some ask → Heeds ask c.in-Ok.reply c.take_step.new.port c.heed-reply.result c.heed-reply.new.port =
    λ ask its. c.heed-reply.ensures ask (c.pending_read-read.ensures.read ∙ ap (option_and_then range_read) its) (kind_of p c.in-Ok.reply ask its c.in-Ok.ensures.kind) in
    answers_it m now p there start start_is c.in-Ok.reply c.take_step.new.port c.heed-reply.result c.heed-reply.new.port heeds
