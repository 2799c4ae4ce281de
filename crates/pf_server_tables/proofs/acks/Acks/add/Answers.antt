use Rattle.std.proofs.Common.{◌≡◌, ◌+◌, ◌-◌, ◌<◌, ◌≤◌, length, get_or, arith, ap, ◌∙◌}
use Rattle.pf_protocol.specs.Leading.{acknowledged}
use Rattle.pf_server_tables.proofs.AckRows.{added}
use Rattle.pf_server_tables.proofs.acks.Acks.add.Goals as goal

pub returns-clause-acks : goal.returns-clause-acks
returns-clause-acks c =
    let rows = c.self.inside.rows.items in
    let base = c.self.inside.base in
    let row = c.index_mut.result.now in
    let low : base < c.args.slot = omega (arith, c.requires.above, ap (λ t. t.base) c.self.view_is) in
    let high : c.args.slot ≤ base + length rows = omega (arith, c.requires.begun, ap (λ t. t.base) c.self.view_is, ap (λ t. t.count) c.self.view_is) in
    let triple : length (get_or rows (c.args.slot - base - 1) row) ≡ 3 = c.self.invariant (c.args.slot - base - 1) row (omega arith) in
    let within : c.args.server < length row = omega (arith, triple, ap length c.index_mut.ensures.value, c.requires.server) in
    added base c.args.server c.args.slot rows row low high c.index_mut.ensures.value within
    ∙ ap (λ t. acknowledged t.acks c.args.server c.args.slot) c.self.view_is
