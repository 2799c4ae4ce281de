use Rattle.std.proofs.Common.{◌≡◌, ◌+◌, ◌-◌, ◌≤◌, length, slice_range, take, drop, arith, ap, sym, ◌∙◌}
use Rattle.pf_server_tables.specs.Thin.{thin}
use Rattle.pf_server_tables.proofs.Thin.{part_is, thin_length}
use Rattle.pf_server_tables.proofs.table.SectorTable.fill.Goals as goal

pub returns : goal.returns
returns c =
    let written = c.self.inside.written.items in
    let first = c.first-first.result in
    let n = c.count-count.result in
    let long : length c.args.self.now ≡ c.self.inside.count = ap length (sym c.self.view_is) ∙ thin_length written c.self.inside.count c.self.invariant.within in
    let low : first + n ≤ c.self.inside.count = omega (arith, long, c.requires.fits, c.first-first.ensures, c.count-count.ensures) in
    c.new.ensures ∙ c.reach.ensures.items
    ∙ ap (λ xs. thin xs n) (c.fill-sectors.ensures.items ∙ c.between.ensures ∙ ap (λ xs. take (first + n - first) (drop first xs)) c.deref.ensures.value)
    ∙ part_is written c.self.inside.count first (first + n - first) n c.self.invariant.within (omega arith) low
    ∙ ap (λ xs. slice_range xs first (first + n)) c.self.view_is
    ∙ (λ i. slice_range c.args.self.now (c.first-first.ensures i) (c.first-first.ensures i + c.count-count.ensures i))
