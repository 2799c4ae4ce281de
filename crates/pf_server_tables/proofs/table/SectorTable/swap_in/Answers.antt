use Rattle.std.proofs.Common.{rules, ◌≡◌, ◌+◌, ◌-◌, ◌++◌, ◌≤◌, length, slice_range, take, drop, arith, ap, ◌∙◌}
use Rattle.pf_server_tables.specs.Thin.{thin}
use Rattle.pf_server_tables.proofs.Thin.{changed, taken}
use Rattle.pf_server_tables.proofs.table.SectorTable.swap_in.Goals as goal

pub returns-clause-table : goal.returns-clause-table
returns-clause-table c =
    let written = c.self.inside.written.items in
    let count = c.self.inside.count in
    let first = c.place_of-first.result in
    let part = c.into_vec-sectors.result.items in
    let end = first + length part in
    let low : end ≤ count = omega (arith, c.place_of-first.ensures.low, c.len.ensures) in
    let part_is : part ≡ c.args.filled.now.sectors = search rules in
    let reached : c.reach.new.sectors.items ≡ thin written end = search rules in
    ap (λ xs. thin xs count) (c.exchange.ensures.items ∙ (λ i. take first (reached i) ++ part ++ drop end (reached i)))
    ∙ changed written end count c.self.invariant.within low first part (omega arith)
    ∙ (λ i. take (c.place_of-first.ensures.first i) (c.self.view_is i) ++ part_is i ++ drop (c.place_of-first.ensures.first i + length (part_is i)) (c.self.view_is i))

pub returns-clause-filled : goal.returns-clause-filled
returns-clause-filled c =
    let written = c.self.inside.written.items in
    let count = c.self.inside.count in
    let first = c.place_of-first.result in
    let part = c.into_vec-sectors.result.items in
    let end = first + length part in
    let low : end ≤ count = omega (arith, c.place_of-first.ensures.low, c.len.ensures) in
    let part_is : part ≡ c.args.filled.now.sectors = search rules in
    let reached : c.reach.new.sectors.items ≡ thin written end = search rules in
    ap (λ xs. record c.args.filled.now { sectors = xs })
    (c.new-2.ensures ∙ c.exchange.ensures.others ∙ ap (λ xs. slice_range xs first end) reached
    ∙ taken written end count c.self.invariant.within low first (end - first) (omega arith)
    ∙ (λ i. slice_range (c.self.view_is i) (c.place_of-first.ensures.first i) (c.place_of-first.ensures.first i + length (part_is i))))
