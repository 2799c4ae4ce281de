use Rattle.std.proofs.Common.{ℕ, suc, ◌+◌, List, ◌++◌, sym, ap, ◌∙◌}
use Rattle.pf_base.specs.declared.asks.Reply.TheVariants.{Bytes}
use Rattle.pf_file_calls.specs.declared.moving.DataMoving.{DataMoving}
use Rattle.pf_file_calls.specs.Blocks.{bytes_of}
use Rattle.pf_file_calls.specs.Moving.{block_at, gathers, moves_on, stores}
use Rattle.pf_file_calls.proofs.Steps.{ok_along, gathers_more}
use Rattle.pf_file_calls.proofs.moving.takes.Goals as goal

pub returns-in_ok-bytes-in-Fetches : goal.returns-in_ok-bytes-in-Fetches
returns-in_ok-bytes-in-Fetches c =
    let v = c.args.volume.now in
    let t = c.args.tree.now.tables in
    let f = c.in-Fetches.fill in
    let index = c.in-Fetches.index in
    let sectors = c.args.sectors.now in
    ok_along c.stores.result
    (stores v c.block_at-block.result f index c.deref-in-Fetches.result.now)
    (moves_on v t c.args.moving.now (Bytes sectors))
    (
    ap (λ (block : ℕ). stores v block f index c.deref-in-Fetches.result.now) c.block_at-block.ensures.block
    ∙ ap (λ (bytes : List ℕ). stores v (block_at t f.inode index) f index bytes)
    (c.deref-in-Fetches.ensures.value ∙ c.in_ok-bytes-in-Fetches.ensures.bytes ∙ ap (λ (none : List ℕ). none ++ bytes_of c.as_slice.result.now) (c.deref.ensures.value ∙ c.new-none.ensures.items) ∙ ap bytes_of c.as_slice.ensures)
    ∙ ap (λ (m : DataMoving). moves_on v t m (Bytes sectors)) (sym c.in-Fetches.is)
    )
    c.stores.ensures

pub returns-in_ok-all-in-Gathers : goal.returns-in_ok-all-in-Gathers
returns-in_ok-all-in-Gathers c =
    let v = c.args.volume.now in
    let t = c.args.tree.now.tables in
    let g = c.in-Gathers in
    let sectors = c.args.sectors.now in
    ok_along c.gathers.result
    (gathers v t g.inode g.offset g.to (g.index + 1) c.in_ok-all-in-Gathers.all.items)
    (moves_on v t c.args.moving.now (Bytes sectors))
    (
    gathers_more v t g.inode g.offset g.to g.index c.in_ok-all-in-Gathers.all.items ∙ ap (λ (bytes : List ℕ). gathers v t g.inode g.offset g.to (suc g.index) bytes)
    (c.in_ok-all-in-Gathers.ensures.bytes ∙ ap (λ (bytes : List ℕ). bytes ++ bytes_of c.as_slice-in-Gathers-2.result.now) c.as_slice-in-Gathers.ensures ∙ ap (λ (s : List (List ℕ)). g.bytes ++ bytes_of s) c.as_slice-in-Gathers-2.ensures)
    ∙ ap (λ (m : DataMoving). moves_on v t m (Bytes sectors)) (sym g.is)
    )
    c.gathers.ensures
