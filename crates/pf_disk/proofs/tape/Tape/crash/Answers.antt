use Rattle.std.proofs.Common.{◌≡◌, ◌++◌, ℕ, List, length, take, drop, get_or, sym, ◌∙◌, ap, subst, arith}
use Rattle.std.proofs.lemmas.List.{take_at}
use Rattle.pf_disk.specs.declared.tape.TapeRecord.{TapeRecord}
use Rattle.pf_disk.specs.Recorded.{IsCrashImage, is_touched, replayed, settled, count_written}
use Rattle.pf_disk.specs.Scrambles.{scrambled}
use Rattle.pf_disk.specs.Tapes.{state_of_tape}
use Rattle.pf_disk.proofs.Images.{image_of, scrambled_image}
use Rattle.pf_disk.proofs.CrashBytes.{kept}
use Rattle.pf_disk.proofs.Writes.{if_ok}
use Rattle.pf_disk.proofs.tape.Tape.crash.Goals as goal

pub returns-clause-image : goal.returns-clause-image
returns-clause-image c =
    let t = c.args.self.now in
    let bytes = c.scramble.new.bytes in
    let size : length bytes ≡ t.bytes.len = omega (arith, c.scramble.auto.bytes, ap length c.deref_mut.ensures.value, t.bytes.ok) in
    let back : take t.bytes.len (bytes ++ drop (length bytes) t.bytes.items) ≡ bytes = take_at bytes (drop (length bytes) t.bytes.items) t.bytes.len size in
    subst (λ (l : List ℕ). IsCrashImage (state_of_tape t) l) (sym back)
    (scrambled_image (state_of_tape t) t.bytes.items bytes t.image (omega (arith, size, t.bytes.ok))
    (λ k none. ap (λ (l : List ℕ). get_or l k 0) c.scramble.ensures ∙ kept c.deref.result.now c.args.seed c.deref_mut.result.now k (ap (λ r. is_touched r k) (c.deref.ensures.value ∙ sym t.marks) ∙ none)
    ∙ ap (λ (l : List ℕ). get_or l k 0) c.deref_mut.ensures.value))

pub returns-clause-bytes : goal.returns-clause-bytes
returns-clause-bytes c =
    let t = c.args.self.now in
    let bytes = c.scramble.new.bytes in
    let size : length bytes ≡ t.bytes.len = omega (arith, c.scramble.auto.bytes, ap length c.deref_mut.ensures.value, t.bytes.ok) in
    let back : take t.bytes.len (bytes ++ drop (length bytes) t.bytes.items) ≡ bytes = take_at bytes (drop (length bytes) t.bytes.items) t.bytes.len size in
    back ∙ c.scramble.ensures ∙ (λ i. scrambled ((c.deref.ensures.value ∙ sym t.marks) i) 0 c.args.seed ((c.deref_mut.ensures.value ∙ sym t.reads) i))

pub invariant_of-self : goal.invariant_of-self
invariant_of-self c =
    let t = c.args.self.now in
    let bytes = c.scramble.new.bytes in
    let size : length bytes ≡ t.bytes.len = omega (arith, c.scramble.auto.bytes, ap length c.deref_mut.ensures.value, t.bytes.ok) in
    let file = take t.bytes.len (bytes ++ drop (length bytes) t.bytes.items) in
    let back : file ≡ bytes = take_at bytes (drop (length bytes) t.bytes.items) t.bytes.len size in
    let ok = c.extend_from_slice.ensures.succeeds (omega (arith, c.clear.ensures.len, c.clear.ensures.capacity, ap length (c.deref-2.ensures.value ∙ back), size, t.filled, t.room_of_base)) in
    let based : c.extend_from_slice.new.self.items ≡ file = if_ok _ _ _ _ ok c.extend_from_slice.ensures.items ∙ ap (λ (l : List ℕ). l ++ c.deref-2.result.now) c.clear.ensures.items ∙ c.deref-2.ensures.value in
    let reads : (replayed (settled c.extend_from_slice.new.self.items) c.clear-3.new.self.items c.clear-2.new.self.items).file ≡ file =
    ap (λ (rs : List TapeRecord). (replayed (settled c.extend_from_slice.new.self.items) rs c.clear-2.new.self.items).file) c.clear-3.ensures.items ∙ based in
    record {
      reads = reads;
      image = image_of c.extend_from_slice.new.self.items c.clear-3.new.self.items c.clear-2.new.self.items file reads;
      marks = ap (λ (rs : List TapeRecord). (replayed (settled c.extend_from_slice.new.self.items) rs c.clear-2.new.self.items).touched) c.clear-3.ensures.items ∙ sym c.clear-4.ensures.items;
      counts = ap count_written c.clear-3.ensures.items ∙ sym c.clear-2.ensures.len;
      ranges = omega (arith, c.clear-4.ensures.len);
      filled = t.filled;
      spent = omega (arith, c.clear-2.ensures.len);
      used = omega (arith, c.clear-3.ensures.len);
      room_of_bytes = t.room_of_bytes;
      room_of_base = omega (arith, t.room_of_base, c.clear.ensures.capacity, c.extend_from_slice.ensures.capacity);
      room_of_written = omega (arith, t.room_of_written, c.clear-2.ensures.capacity);
      room_of_records = omega (arith, t.room_of_records, c.clear-3.ensures.capacity);
      room_of_touched = omega (arith, t.room_of_touched, c.clear-4.ensures.capacity);
    }

pub returns-clause-state : goal.returns-clause-state
returns-clause-state c =
    let t = c.args.self.now in
    let bytes = c.scramble.new.bytes in
    let size : length bytes ≡ t.bytes.len = omega (arith, c.scramble.auto.bytes, ap length c.deref_mut.ensures.value, t.bytes.ok) in
    let file = take t.bytes.len (bytes ++ drop (length bytes) t.bytes.items) in
    let back : file ≡ bytes = take_at bytes (drop (length bytes) t.bytes.items) t.bytes.len size in
    let ok = c.extend_from_slice.ensures.succeeds (omega (arith, c.clear.ensures.len, c.clear.ensures.capacity, ap length (c.deref-2.ensures.value ∙ back), size, t.filled, t.room_of_base)) in
    let based : c.extend_from_slice.new.self.items ≡ file = if_ok _ _ _ _ ok c.extend_from_slice.ensures.items ∙ ap (λ (l : List ℕ). l ++ c.deref-2.result.now) c.clear.ensures.items ∙ c.deref-2.ensures.value in
    ap (λ (rs : List TapeRecord). replayed (settled c.extend_from_slice.new.self.items) rs c.clear-2.new.self.items) c.clear-3.ensures.items ∙ ap settled based
