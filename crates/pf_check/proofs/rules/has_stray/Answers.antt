use Rattle.std.proofs.Common.{◌≡◌, ◌∙◌, ap, sym, subst, get_or, length, List, ℕ, Some, arith}
use Rattle.std.proofs.lemmas.Bool.{false≢true}
use Rattle.pf_tree_tables.specs.declared.tables.DirectoryEntry.{DirectoryEntry}
use Rattle.pf_tree_tables.specs.Names.{Name}
use Rattle.pf_tree_tables.specs.Tables.{entry_at, entry_found, names_in}
use Rattle.pf_check.specs.Kinds.{EntryIsSound}
use Rattle.pf_check.proofs.Namings.{row_stands, row_of}
use Rattle.pf_check.proofs.rules.has_stray.Goals as goal

pub returns-then-not-is_sound : goal.returns-then-not-is_sound
returns-then-not-is_sound c =
    let row = c.row-item.result in
    let rows = names_in c.args.tables.now.entries c.args.directory in
    let is : row ≡ get_or rows c.loop-row.row-index row = c.row-item.is ∙ ap (λ (xs : List DirectoryEntry). get_or xs c.loop-row.row-index row) c.names_in-row-items.ensures in
    let len = ap length c.names_in-row-items.ensures in
    let stands : entry_at c.args.tables.now.entries c.args.directory row.name ≡ Some row.inode =
    subst (λ (x : DirectoryEntry). entry_found rows x.name ≡ Some x.inode) (sym is) (row_stands rows c.loop-row.row-index row (c.requires.names c.args.directory) (omega (arith, len))) in
    record { name = row.name; inode = row.inode; stands = stands; stray = λ s. false≢true (sym c.if-not-is_sound.true ∙ c.is_sound.ensures.1 s) }

pub returns : goal.returns
returns c = λ n i e.
    let t = c.args.tables.now in
    let d = c.args.directory in
    let rows = names_in t.entries d in
    let r = row_of rows n i e in
    let x : DirectoryEntry = record { inode = i; name = n } in
    let len = ap length c.names_in-row-items.ensures in
    let w = r.within in
    let s : EntryIsSound t d (get_or rows r.place x).name (get_or rows r.place x).inode =
    subst (λ (xs : List DirectoryEntry). EntryIsSound t d (get_or xs r.place x).name (get_or xs r.place x).inode) c.names_in-row-items.ensures (c.loop-row.invariant r.place x (omega (arith, len, w))) in
    subst (λ (m : Name). EntryIsSound t d m i) (r.name x) (subst (λ (j : ℕ). EntryIsSound t d (get_or rows r.place x).name j) (r.inode x) s)
