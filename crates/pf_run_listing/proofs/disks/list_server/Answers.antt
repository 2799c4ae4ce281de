use Rattle.std.proofs.Common.{◌≡◌, ◌<◌, ◌+◌, ◌*◌, ℕ, ap₂, arith, length, vec_len, vec_capacity, subst, sym}
use Rattle.std.specs.List.{insert}
use Rattle.pf_run_listing.specs.Disks.{first_disk_of}
use Rattle.pf_run_listing.proofs.FoundPairs.{put_in, was_listed, was_told, were_read}
use Rattle.pf_run_listing.proofs.disks.list_server.Goals as goal

-- it is read of below, so it has to unfold
abbrev read_of : goal.returns-clause-read
read_of g c =
    let before = c.args.disks.now.items in
    let p : ℕ = 6 * c.from.result + 2 * c.from-2.result in
    let place : p ≡ first_disk_of c.args.group c.args.server = ap₂ (λ (a b : ℕ). 6 * a + 2 * b) c.from.ensures c.from-2.ensures in
    let low : p + 1 < length before = subst (λ (k : ℕ). k + 1 < length before) (sym place) c.requires in
    let one_now = c.list_records-zero.result.1 in
    let zero_now = c.list_records-zero.result.0 in
    let room : vec_len c.remove-one.new.self < vec_capacity c.remove-one.new.self = omega (arith, c.args.disks.now.ok, c.remove-zero.ensures.len, c.remove-zero.ensures.capacity, c.remove-one.ensures.len, c.remove-one.ensures.capacity) in
    let back = put_in c.insert.result c.insert.new.self.items (insert c.remove-one.new.self.items p one_now) c.remove-one.new.self.items (c.insert.ensures.succeeds room) c.insert.ensures.items in
    let count : vec_len c.insert.new.self ≡ vec_len c.remove-one.new.self + 1 = put_in c.insert.result _ _ _ (c.insert.ensures.succeeds room) c.insert.ensures.len in
    let more_room : vec_len c.insert.new.self < vec_capacity c.insert.new.self = omega (arith, count, c.insert.ensures.capacity, c.args.disks.now.ok, c.remove-zero.ensures.len, c.remove-zero.ensures.capacity, c.remove-one.ensures.len, c.remove-one.ensures.capacity) in
    let whole = put_in c.insert-2.result c.insert-2.new.self.items (insert c.insert.new.self.items p zero_now) c.insert.new.self.items (c.insert-2.ensures.succeeds more_room) c.insert-2.ensures.items in
    were_read g.D.Disk.seen g.D.Disk.may_leave g.D.Disk.faults c.args.group c.args.server before c.remove-zero.new.self.items c.remove-one.new.self.items c.insert.new.self.items c.insert-2.new.self.items p
    c.remove-zero.result c.remove-one.result zero_now one_now place low c.remove-zero.ensures.value c.remove-zero.ensures.items c.remove-one.ensures.value c.remove-one.ensures.items back whole
    c.list_records-zero.ensures.zero c.list_records-zero.ensures.one c.list_records-zero.ensures.later_zero c.list_records-zero.ensures.later_one

pub returns-clause-read : goal.returns-clause-read
returns-clause-read = read_of

told_of : goal.returns-clause-told
told_of g c =
    was_told g.D.Disk.seen g.D.Disk.may_leave g.D.Disk.faults c.args.group c.args.server c.args.disks.now.items c.insert-2.new.self.items (read_of g c) c.list_records-zero.result.2 c.list_records-zero.ensures.told

pub returns-clause-told : goal.returns-clause-told
returns-clause-told = told_of

pub returns-clause-listed : goal.returns-clause-listed
returns-clause-listed g c = was_listed g.D.Disk.seen g.D.Disk.may_leave g.D.Disk.faults c.args.group c.args.server c.args.disks.now.items c.insert-2.new.self.items c.list_records-zero.result.2 (told_of g c)
