use Rattle.std.proofs.Common.{◌+◌, ◌<◌, length, arith, refl}
use Rattle.std.proofs.lemmas.Option.{slice_get_read}
use Rattle.std.specs.Vec.{with_item}
use Rattle.pf_live_seats.proofs.Submitters.{submitter_on}
use Rattle.pf_live_seats.proofs.submitting.Submitter.serve.Goals as goal

pub serve-requires-clause-is : goal.serve-requires-clause-is
serve-requires-clause-is g c = let a = c.args.self.now in let low : a.next < length a.served.items = omega arith in
    c.requires.is.each a.next c.index_mut.result.now (slice_get_read a.served.items (length a.served.items) a.next c.index_mut.result.now refl low c.index_mut.ensures.value)

pub returns-in_err-went-clause-is : goal.returns-in_err-went-clause-is
returns-in_err-went-clause-is g c = let a = c.args.self.now in let line = c.args.line.now in let e = c.serve.ensures in let low : a.next < length a.served.items = omega arith in
    submitter_on line.group line.cell line.plan line.rings.items a (record a { seat = c.serve.new.seat; pass = c.serve.new.leaders; served = with_item a.served a.next c.serve.new.self; next = a.next + 1 }) c.requires.is a.next c.index_mut.result.now c.serve.new.self
    (slice_get_read a.served.items (length a.served.items) a.next c.index_mut.result.now refl low c.index_mut.ensures.value) e.seat.0 e.seat.1.0 refl e.leaders refl e.is e.serves

pub returns-then-went-clause-is : goal.returns-then-went-clause-is
returns-then-went-clause-is g c = let a = c.args.self.now in let line = c.args.line.now in let e = c.serve.ensures in let low : a.next < length a.served.items = omega arith in
    submitter_on line.group line.cell line.plan line.rings.items a (record a { seat = c.serve.new.seat; pass = c.serve.new.leaders; served = with_item a.served a.next c.serve.new.self; next = a.next + 1 }) c.requires.is a.next c.index_mut.result.now c.serve.new.self
    (slice_get_read a.served.items (length a.served.items) a.next c.index_mut.result.now refl low c.index_mut.ensures.value) e.seat.0 e.seat.1.0 refl e.leaders refl e.is e.serves

pub returns-else-went-clause-is : goal.returns-else-went-clause-is
returns-else-went-clause-is g c = let a = c.args.self.now in let line = c.args.line.now in let e = c.serve.ensures in let low : a.next < length a.served.items = omega arith in
    submitter_on line.group line.cell line.plan line.rings.items a (record a { seat = c.serve.new.seat; pass = c.serve.new.leaders; served = with_item a.served a.next c.serve.new.self; next = a.next + 1 }) c.requires.is a.next c.index_mut.result.now c.serve.new.self
    (slice_get_read a.served.items (length a.served.items) a.next c.index_mut.result.now refl low c.index_mut.ensures.value) e.seat.0 e.seat.1.0 refl e.leaders refl e.is e.serves
