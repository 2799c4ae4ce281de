use Rattle.std.proofs.Common.{◌+◌, ◌≤◌, length, take}
use Rattle.pf_base.proofs.ZeroFields.{reads, extended}
use Rattle.pf_base.proofs.value.Value.extend.Goals as goal

pub invariant_of-self : goal.invariant_of-self
invariant_of-self c =
    let room : length (take c.self.inside.len c.self.inside.bytes) + length c.args.bytes.now ≤ 400 = rw c.self.view_is c.requires in
    extended c.self.inside.bytes c.args.bytes.now c.put_bytes.new.out c.self.inside.len c.self.invariant room c.put_bytes.ensures

pub returns : goal.returns
returns c = rw (← c.self.view_is) (reads c.self.inside.bytes c.args.bytes.now c.put_bytes.new.out c.self.inside.len c.self.invariant c.put_bytes.ensures)
