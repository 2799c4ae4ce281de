use Rattle.std.proofs.Common.{subst, sym}
use Rattle.pf_tree_tables.specs.Tables.{Entries, TablesAreHeld}
use Rattle.pf_tree_tables.specs.Shelves.{tables_of}
use Rattle.pf_tree_tables.proofs.Whole.{applied_held}
use Rattle.pf_tree_tables.proofs.file_tables.FileTables.apply.Goals as goal

pub invariant_of-self-2 : goal.invariant_of-self-2
invariant_of-self-2 c =
    let with_room : TablesAreHeld (tables_of c.self.inside.inodes c.make_room.new.directories.items c.self.inside.tags) =
    subst (λ (entries : Entries). TablesAreHeld (record { inodes = c.self.inside.inodes; entries = entries; tags = c.self.inside.tags })) (sym c.in_ok-make_room.ensures.lists) c.self.invariant in
    subst TablesAreHeld (sym c.carry_out.ensures) (applied_held _ c.in_ok-changes.changes.items with_room)
