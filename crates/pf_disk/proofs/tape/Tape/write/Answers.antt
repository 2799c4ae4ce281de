use Rattle.std.proofs.Common.{◌≡◌, ◌+◌, ◌++◌, [], ◌∷◌, ℕ, List, length, length-append, min, take, sym, ◌∙◌, ap, arith}
use Rattle.std.proofs.lemmas.List.{length_push, take_all}
use Rattle.pf_disk.specs.declared.tape.TapeRecord.TheVariants.{Write}
use Rattle.pf_disk.specs.Files.{end_of_write, overwritten}
use Rattle.pf_disk.specs.Recorded.{State, replayed, settled, count_written, after_write}
use Rattle.pf_disk.specs.Tapes.{state_of_tape}
use Rattle.pf_disk.proofs.Images.{image_of}
use Rattle.pf_disk.proofs.Replays.{added, count_more}
use Rattle.pf_disk.proofs.Rooms.{write_told}
use Rattle.pf_disk.proofs.Writes.{if_ok, length-overwritten}
use Rattle.pf_disk.proofs.tape.Tape.write.Goals as goal

pub invariant_of-self : goal.invariant_of-self
invariant_of-self c =
    let t = c.args.self.now in
    let room = write_told t c.args.at (length c.args.bytes.now) c.requires in
    let ok = c.push-2.ensures.succeeds (omega (arith, room.place, t.room_of_records)) in
    let noted : c.push-2.new.self.items ≡ t.records.items ++ Write c.args.at (length c.args.bytes.now) ∷ [] = if_ok _ _ _ _ ok c.push-2.ensures.items in
    let ok_bytes = c.extend_from_slice.ensures.succeeds (omega (arith, room.spends, t.room_of_written)) in
    let kept : c.extend_from_slice.new.self.items ≡ t.written.items ++ c.args.bytes.now = if_ok _ _ _ _ ok_bytes c.extend_from_slice.ensures.items in
    let all : take (length c.args.bytes.now) c.args.bytes.now ≡ c.args.bytes.now = take_all (length c.args.bytes.now) c.args.bytes.now (omega arith) in
    let ok_mark = c.push.ensures.succeeds (omega (arith, room.place, t.ranges, t.room_of_touched)) in
    let marked : c.push.new.self.items ≡ t.touched.items ++ (c.min-from.result, c.end_of-to.result) ∷ [] = if_ok _ _ _ _ ok_mark c.push.ensures.items in
    let is = added t.base.items t.records.items c.push-2.new.self.items t.written.items c.extend_from_slice.new.self.items (Write c.args.at (length c.args.bytes.now)) c.args.bytes.now (omega (arith, t.counts, t.written.ok)) noted kept in
    let is_from : min (length t.bytes.items) c.args.at ≡ c.min-from.result = omega (arith, t.bytes.ok, c.len.ensures, c.min-from.ensures) in
    let is_to : end_of_write c.args.at (length c.args.bytes.now) ≡ c.end_of-to.result = sym (c.end_of-to.ensures) in
    let more : length c.push-2.new.self.items ≡ length t.records.items + 1 = ap length noted ∙ length_push t.records.items (Write c.args.at (length c.args.bytes.now)) in
    let more_marks : length c.push.new.self.items ≡ length t.touched.items + 1 = ap length marked ∙ length_push t.touched.items (c.min-from.result, c.end_of-to.result) in
    let reads : (replayed (settled t.base.items) c.push-2.new.self.items c.extend_from_slice.new.self.items).file ≡ c.overwrite.new.file.items = ap (λ (s : State). s.file) is ∙ (λ i. overwritten (t.reads i) c.args.at (all i)) ∙ sym c.overwrite.ensures.written in
    record {
      reads = reads;
      image = image_of t.base.items c.push-2.new.self.items c.extend_from_slice.new.self.items c.overwrite.new.file.items reads;
      marks = ap (λ (s : State). s.touched) is ∙ (λ i. (replayed (settled t.base.items) t.records.items t.written.items).touched ++ (min (length (replayed (settled t.base.items) t.records.items t.written.items).file) c.args.at, end_of_write c.args.at (length (all i))) ∷ []) ∙ (λ i. t.marks i ++ (min (length (t.reads i)) c.args.at, end_of_write c.args.at (length c.args.bytes.now)) ∷ []) ∙ (λ i. t.touched.items ++ (is_from i, is_to i) ∷ []) ∙ sym marked;
      ranges = omega (arith, t.ranges, more, more_marks, c.push.new.self.ok, c.push-2.new.self.ok, t.touched.ok, t.records.ok);
      used = omega (arith, room.place, more, c.push-2.new.self.ok, t.records.ok);
      room_of_records = omega (arith, t.room_of_records, c.push-2.ensures.capacity);
      room_of_touched = omega (arith, t.room_of_touched, c.push.ensures.capacity);
      room_of_base = t.room_of_base;
      counts = omega (arith, ap count_written noted, count_more t.records.items (Write c.args.at (length c.args.bytes.now)), t.counts, ap length kept, length-append t.written.items c.args.bytes.now, t.written.ok, c.extend_from_slice.new.self.ok);
      filled = omega (arith, room.ends, t.filled, t.bytes.ok, ap length c.overwrite.ensures.written, length-overwritten t.bytes.items c.args.at c.args.bytes.now, c.overwrite.new.file.ok);
      spent = omega (arith, room.spends, ap length kept, length-append t.written.items c.args.bytes.now, t.written.ok, c.extend_from_slice.new.self.ok);
      room_of_bytes = omega (arith, t.room_of_bytes, c.overwrite.ensures.capacity);
      room_of_written = omega (arith, t.room_of_written, c.extend_from_slice.ensures.capacity);
    }

pub returns-clause-state : goal.returns-clause-state
returns-clause-state c =
    let t = c.args.self.now in
    let room = write_told t c.args.at (length c.args.bytes.now) c.requires in
    let ok = c.push-2.ensures.succeeds (omega (arith, room.place, t.room_of_records)) in
    let noted : c.push-2.new.self.items ≡ t.records.items ++ Write c.args.at (length c.args.bytes.now) ∷ [] = if_ok _ _ _ _ ok c.push-2.ensures.items in
    let ok_bytes = c.extend_from_slice.ensures.succeeds (omega (arith, room.spends, t.room_of_written)) in
    let kept : c.extend_from_slice.new.self.items ≡ t.written.items ++ c.args.bytes.now = if_ok _ _ _ _ ok_bytes c.extend_from_slice.ensures.items in
    let all : take (length c.args.bytes.now) c.args.bytes.now ≡ c.args.bytes.now = take_all (length c.args.bytes.now) c.args.bytes.now (omega arith) in
    let is = added t.base.items t.records.items c.push-2.new.self.items t.written.items c.extend_from_slice.new.self.items (Write c.args.at (length c.args.bytes.now)) c.args.bytes.now (omega (arith, t.counts, t.written.ok)) noted kept in
    is ∙ ap (λ (l : List ℕ). after_write (state_of_tape t) c.args.at l) all
