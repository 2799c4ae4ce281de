use Rattle.std.proofs.Common.{◌≡◌, ◌+◌, ◌++◌, [], ◌∷◌, length, sym, ◌∙◌, ap, arith}
use Rattle.std.proofs.lemmas.List.{append-nil, length_push}
use Rattle.pf_disk.specs.declared.tape.TapeRecord.TheVariants.{Sync}
use Rattle.pf_disk.specs.Recorded.{State, replayed, settled, count_written}
use Rattle.pf_disk.proofs.Images.{image_of}
use Rattle.pf_disk.proofs.Replays.{added, count_more}
use Rattle.pf_disk.proofs.Rooms.{place_told}
use Rattle.pf_disk.proofs.Writes.{if_ok}
use Rattle.pf_disk.proofs.tape.Tape.sync.Goals as goal

pub invariant_of-self : goal.invariant_of-self
invariant_of-self c =
    let t = c.args.self.now in
    let place = place_told t c.requires in
    let ok = c.push.ensures.succeeds (omega (arith, place, t.room_of_records)) in
    let noted : c.push.new.self.items ≡ t.records.items ++ Sync ∷ [] = if_ok _ _ _ _ ok c.push.ensures.items in
    let is = added t.base.items t.records.items c.push.new.self.items t.written.items t.written.items Sync [] (omega (arith, t.counts, t.written.ok)) noted (sym (append-nil t.written.items)) in
    let more : length c.push.new.self.items ≡ length t.records.items + 1 = ap length noted ∙ length_push t.records.items Sync in
    let reads : (replayed (settled t.base.items) c.push.new.self.items t.written.items).file ≡ t.bytes.items = ap (λ (s : State). s.file) is ∙ t.reads in
    record {
      reads = reads;
      image = image_of t.base.items c.push.new.self.items t.written.items t.bytes.items reads;
      marks = ap (λ (s : State). s.touched) is ∙ sym c.clear.ensures.items;
      counts = omega (arith, ap count_written noted, count_more t.records.items Sync, t.counts);
      ranges = omega (arith, c.clear.ensures.len);
      used = omega (arith, place, more, c.push.new.self.ok, t.records.ok);
      filled = t.filled;
      spent = t.spent;
      room_of_bytes = t.room_of_bytes;
      room_of_base = t.room_of_base;
      room_of_written = t.room_of_written;
      room_of_records = omega (arith, t.room_of_records, c.push.ensures.capacity);
      room_of_touched = omega (arith, t.room_of_touched, c.clear.ensures.capacity);
    }

pub returns-clause-state : goal.returns-clause-state
returns-clause-state c =
    let t = c.args.self.now in
    let place = place_told t c.requires in
    let ok = c.push.ensures.succeeds (omega (arith, place, t.room_of_records)) in
    let noted : c.push.new.self.items ≡ t.records.items ++ Sync ∷ [] = if_ok _ _ _ _ ok c.push.ensures.items in
    added t.base.items t.records.items c.push.new.self.items t.written.items t.written.items Sync [] (omega (arith, t.counts, t.written.ok)) noted (sym (append-nil t.written.items))
