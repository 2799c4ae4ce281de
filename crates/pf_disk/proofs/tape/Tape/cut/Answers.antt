use Rattle.std.proofs.Common.{◌≡◌, ◌+◌, ◌++◌, [], ◌∷◌, ℕ, List, length, refl, sym, ◌∙◌, ap, arith}
use Rattle.std.proofs.lemmas.List.{append-nil, length_push}
use Rattle.pf_disk.specs.declared.tape.TapeRecord.TheVariants.{Cut}
use Rattle.pf_disk.specs.Files.{file_resized}
use Rattle.pf_disk.specs.Recorded.{State, replayed, settled, count_written}
use Rattle.pf_disk.proofs.Images.{image_of}
use Rattle.pf_disk.proofs.Replays.{added, count_more}
use Rattle.pf_disk.proofs.Rooms.{cut_told}
use Rattle.pf_disk.proofs.Writes.{if_ok, length-resized}
use Rattle.pf_disk.proofs.tape.Tape.cut.Goals as goal

pub invariant_of-self : goal.invariant_of-self
invariant_of-self c =
    let t = c.args.self.now in
    let room = cut_told t c.args.len c.requires in
    let ok = c.push-2.ensures.succeeds (omega (arith, room.place, t.room_of_records)) in
    let noted : c.push-2.new.self.items ≡ t.records.items ++ Cut c.args.len ∷ [] = if_ok _ _ _ _ ok c.push-2.ensures.items in
    let ok_mark = c.push.ensures.succeeds (omega (arith, room.place, t.ranges, t.room_of_touched)) in
    let marked : c.push.new.self.items ≡ t.touched.items ++ (c.len.result, c.args.len) ∷ [] = if_ok _ _ _ _ ok_mark c.push.ensures.items in
    let is = added t.base.items t.records.items c.push-2.new.self.items t.written.items t.written.items (Cut c.args.len) [] (omega (arith, t.counts, t.written.ok)) noted (sym (append-nil t.written.items)) in
    let is_from : (length t.bytes.items) ≡ c.len.result = omega (arith, t.bytes.ok, c.len.ensures) in
    let is_to : c.args.len ≡ c.args.len = refl in
    let more : length c.push-2.new.self.items ≡ length t.records.items + 1 = ap length noted ∙ length_push t.records.items (Cut c.args.len) in
    let more_marks : length c.push.new.self.items ≡ length t.touched.items + 1 = ap length marked ∙ length_push t.touched.items (c.len.result, c.args.len) in
    let reads : (replayed (settled t.base.items) c.push-2.new.self.items t.written.items).file ≡ c.resize.new.file.items = ap (λ (s : State). s.file) is ∙ ap (λ (l : List ℕ). file_resized l c.args.len) t.reads ∙ sym c.resize.ensures.resized in
    record {
      reads = reads;
      image = image_of t.base.items c.push-2.new.self.items t.written.items c.resize.new.file.items reads;
      marks = ap (λ (s : State). s.touched) is ∙ (λ i. t.marks i ++ ((length (t.reads i)), c.args.len) ∷ []) ∙ (λ i. t.touched.items ++ (is_from i, is_to i) ∷ []) ∙ sym marked;
      ranges = omega (arith, t.ranges, more, more_marks, c.push.new.self.ok, c.push-2.new.self.ok, t.touched.ok, t.records.ok);
      used = omega (arith, room.place, more, c.push-2.new.self.ok, t.records.ok);
      room_of_records = omega (arith, t.room_of_records, c.push-2.ensures.capacity);
      room_of_touched = omega (arith, t.room_of_touched, c.push.ensures.capacity);
      room_of_base = t.room_of_base;
      counts = omega (arith, ap count_written noted, count_more t.records.items (Cut c.args.len), t.counts);
      filled = omega (arith, room.ends, ap length c.resize.ensures.resized, length-resized t.bytes.items c.args.len, c.resize.new.file.ok);
      spent = t.spent;
      room_of_bytes = omega (arith, t.room_of_bytes, c.resize.ensures.capacity);
      room_of_written = t.room_of_written;
    }

pub returns-clause-state : goal.returns-clause-state
returns-clause-state c =
    let t = c.args.self.now in
    let room = cut_told t c.args.len c.requires in
    let ok = c.push-2.ensures.succeeds (omega (arith, room.place, t.room_of_records)) in
    let noted : c.push-2.new.self.items ≡ t.records.items ++ Cut c.args.len ∷ [] = if_ok _ _ _ _ ok c.push-2.ensures.items in
    let is = added t.base.items t.records.items c.push-2.new.self.items t.written.items t.written.items (Cut c.args.len) [] (omega (arith, t.counts, t.written.ok)) noted (sym (append-nil t.written.items)) in
    is
