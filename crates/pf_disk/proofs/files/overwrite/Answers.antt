use Rattle.std.proofs.Common.{◌≡◌, ◌+◌, ◌-◌, ◌<◌, ◌++◌, ℕ, List, length, length-drop, length-take, take, drop, arith, ap, sym, ◌∙◌, min, IsOk}
use Rattle.std.proofs.lemmas.Bool.Decides.{nat_tests}
use Rattle.std.proofs.lemmas.List.{take_rest}
use Rattle.pf_disk.specs.Files.{end_of_write}
use Rattle.pf_disk.proofs.Writes.{if_ok, written_back, overwritten_is, length-grown}
use Rattle.pf_disk.proofs.files.overwrite.Goals as goal

pub returns-clause-written : goal.returns-clause-written
returns-clause-written c =
    let n = length c.args.bytes.now in
    let over = c.min-over.result in
    let some : 0 < n = grind (arith, nat_tests) in
    let so : over ≡ min n (length c.grow.new.file.items - c.args.at) = omega (arith, c.min-over.ensures, c.len.ensures, c.grow.new.file.ok) in
    let reaches : end_of_write c.args.at n ≡ c.args.at + n = grind (arith, nat_tests) in
    let rest : take (n - over) (drop over c.args.bytes.now) ≡ drop over c.args.bytes.now = take_rest c.args.bytes.now over in
    let size = length-grown c.args.file.now.items c.args.at in
    let ok : IsOk c.extend_from_slice.result = c.extend_from_slice.ensures.succeeds (rw rest (omega (arith, length-drop over c.args.bytes.now, so, reaches, c.requires.room, c.grow.ensures.capacity, c.grow.new.file.ok, c.grow.new.file.small, ap length c.grow.ensures.grown, size))) in
    let h = overwritten_is c.args.file.now.items c.grow.new.file.items c.args.bytes.now c.args.at over some c.grow.ensures.grown so in
    let front : length (take over c.args.bytes.now) ≡ over = omega (arith, length-take over c.args.bytes.now, so) in
    let back = written_back c.grow.new.file.items c.deref_mut.result.now c.copy_from_slice.new.self (take over c.args.bytes.now) c.args.at (c.args.at + over - c.args.at) over c.grow.new.file.len
    c.deref_mut.ensures.value (omega arith) c.copy_from_slice.ensures.after (sym c.grow.new.file.ok.0) (omega (arith, so, c.grow.new.file.ok, ap length c.grow.ensures.grown, size)) front in
    if_ok _ _ _ _ ok c.extend_from_slice.ensures.items ∙ rw rest (ap (λ (l : List ℕ). l ++ drop over c.args.bytes.now) back) ∙ h
