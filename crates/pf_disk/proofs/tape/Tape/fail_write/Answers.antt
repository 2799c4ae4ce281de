use Rattle.std.proofs.Common.{◌≡◌, ◌+◌, ◌++◌, [], ◌∷◌, length, min, sym, ◌∙◌, ap, arith}
use Rattle.std.proofs.lemmas.List.{append-nil, length_push}
use Rattle.pf_disk.specs.declared.tape.TapeRecord.TheVariants.{FailedWrite}
use Rattle.pf_disk.specs.Files.{end_of_write}
use Rattle.pf_disk.specs.Recorded.{State, replayed, settled, count_written}
use Rattle.pf_disk.proofs.Images.{image_of}
use Rattle.pf_disk.proofs.Replays.{added, count_more}
use Rattle.pf_disk.proofs.Rooms.{write_told}
use Rattle.pf_disk.proofs.Writes.{if_ok}
use Rattle.pf_disk.proofs.tape.Tape.fail_write.Goals as goal

pub invariant_of-self : goal.invariant_of-self
invariant_of-self c =
    let t = c.args.self.now in
    let room = write_told t c.args.at c.args.count c.requires in
    let ok = c.push-2.ensures.succeeds (omega (arith, room.place, t.room_of_records)) in
    let noted : c.push-2.new.self.items ≡ t.records.items ++ FailedWrite c.args.at c.args.count ∷ [] = if_ok _ _ _ _ ok c.push-2.ensures.items in
    let ok_mark = c.push.ensures.succeeds (omega (arith, room.place, t.ranges, t.room_of_touched)) in
    let marked : c.push.new.self.items ≡ t.touched.items ++ (c.min-from.result, c.end_of-to.result) ∷ [] = if_ok _ _ _ _ ok_mark c.push.ensures.items in
    let is = added t.base.items t.records.items c.push-2.new.self.items t.written.items t.written.items (FailedWrite c.args.at c.args.count) [] (omega (arith, t.counts, t.written.ok)) noted (sym (append-nil t.written.items)) in
    let is_from : min (length t.bytes.items) c.args.at ≡ c.min-from.result = omega (arith, t.bytes.ok, c.len.ensures, c.min-from.ensures) in
    let is_to : end_of_write c.args.at c.args.count ≡ c.end_of-to.result = sym c.end_of-to.ensures in
    let more : length c.push-2.new.self.items ≡ length t.records.items + 1 = ap length noted ∙ length_push t.records.items (FailedWrite c.args.at c.args.count) in
    let more_marks : length c.push.new.self.items ≡ length t.touched.items + 1 = ap length marked ∙ length_push t.touched.items (c.min-from.result, c.end_of-to.result) in
    let reads : (replayed (settled t.base.items) c.push-2.new.self.items t.written.items).file ≡ t.bytes.items = ap (λ (s : State). s.file) is ∙ t.reads in
    record {
      reads = reads;
      image = image_of t.base.items c.push-2.new.self.items t.written.items t.bytes.items reads;
      marks = ap (λ (s : State). s.touched) is ∙ (λ i. t.marks i ++ (min (length (t.reads i)) c.args.at, end_of_write c.args.at c.args.count) ∷ []) ∙ (λ i. t.touched.items ++ (is_from i, is_to i) ∷ []) ∙ sym marked;
      ranges = omega (arith, t.ranges, more, more_marks, c.push.new.self.ok, c.push-2.new.self.ok, t.touched.ok, t.records.ok);
      used = omega (arith, room.place, more, c.push-2.new.self.ok, t.records.ok);
      room_of_records = omega (arith, t.room_of_records, c.push-2.ensures.capacity);
      room_of_touched = omega (arith, t.room_of_touched, c.push.ensures.capacity);
      room_of_base = t.room_of_base;
      counts = omega (arith, ap count_written noted, count_more t.records.items (FailedWrite c.args.at c.args.count), t.counts);
      filled = t.filled;
      spent = t.spent;
      room_of_bytes = t.room_of_bytes;
      room_of_written = t.room_of_written;
    }

pub returns-clause-state : goal.returns-clause-state
returns-clause-state c =
    let t = c.args.self.now in
    let room = write_told t c.args.at c.args.count c.requires in
    let ok = c.push-2.ensures.succeeds (omega (arith, room.place, t.room_of_records)) in
    let noted : c.push-2.new.self.items ≡ t.records.items ++ FailedWrite c.args.at c.args.count ∷ [] = if_ok _ _ _ _ ok c.push-2.ensures.items in
    let is = added t.base.items t.records.items c.push-2.new.self.items t.written.items t.written.items (FailedWrite c.args.at c.args.count) [] (omega (arith, t.counts, t.written.ok)) noted (sym (append-nil t.written.items)) in
    is
