use Rattle.std.proofs.Common.{◌≡◌, ◌∙◌, ap, sym, List, ℕ, length, true, arith, [], le_of_lt}
use Rattle.std.specs.Str.{bytes_eq}
use Rattle.std.proofs.lemmas.List.Sums.{position_or_len_is}
use Rattle.pf_tree_tables.specs.declared.tables.DirectoryEntry.{DirectoryEntry}
use Rattle.pf_check.proofs.rows.place_of.Goals as goal

pub returns-then-eq : goal.returns-then-eq
returns-then-eq c =
    let row = c.index-rows-index.result in
    let name = c.args.name.now in
    let is : bytes_eq row.name name ≡ true =
    ap (λ (n : List ℕ). bytes_eq n name) (ap (λ (r : DirectoryEntry). r.name) c.index-rows-index.is ∙ sym c.as_slice.ensures) ∙ sym c.eq.ensures ∙ c.if-eq.true in
    sym (position_or_len_is (λ (r : DirectoryEntry). bytes_eq r.name name) c.args.rows.now c.loop-index.index row (le_of_lt c.loop-index-test.true) (λ k low. c.loop-index.invariant k row low)
    (λ low. ap (λ (r : DirectoryEntry). bytes_eq r.name name) (sym c.index-rows-index.is) ∙ is))

pub returns : goal.returns
returns c =
    sym (position_or_len_is (λ (r : DirectoryEntry). bytes_eq r.name c.args.name.now) c.args.rows.now (length c.args.rows.now) none (omega arith)
    (λ k low. c.loop-index.invariant k none (omega (arith, low))) (λ low. absurd (omega (arith, low))))
  where
    none : DirectoryEntry
    none = record { inode = 0; name = [] }
