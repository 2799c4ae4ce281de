use Rattle.std.proofs.Common.{rules, ◌≡◌, length, ap, sym, ◌∙◌}
use Rattle.std.specs.FinMap as finite
use Rattle.pf_server_tables.proofs.StartTables.{len-starts_of}
use Rattle.pf_server_tables.proofs.starts.StartTable.len.Goals as goal

pub returns : goal.returns
returns c =
    let count : c.len.result ≡ length c.self.inside.rows.items = search rules in
    count ∙ sym (len-starts_of c.self.inside.rows.items c.self.invariant) ∙ ap (λ t. finite.len t.starts) c.self.view_is
