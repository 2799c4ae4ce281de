use Rattle.std.proofs.Common.{◌∙◌, sym, subst, ◌<◌, length, [], arith}
use Rattle.std.proofs.lemmas.List.{get_or_default}
use Rattle.pf_check.specs.Raw.{AreDistinct}
use Rattle.pf_check.proofs.MadeTables.{raw_of_lists, set_rows_raw}
use Rattle.pf_check.proofs.tables.Tables.add_entry.Goals as goal

pub invariant_of-self : goal.invariant_of-self
invariant_of-self c =
    let low : c.args.directory < length c.self.inside.directories.items = let n = c.self.invariant.entries in let f = c.ranges.directory.fits in omega (arith, n, f) in
    set_rows_raw (raw_of_lists c.self.inside.inodes.items c.self.inside.directories.items c.self.inside.tags.items) c.args.directory c.put.new.self c.self.invariant
    (c.put.ensures.distinct (subst AreDistinct (get_or_default c.self.inside.directories.items c.args.directory [] c.index_mut.result.now low ∙ sym c.index_mut.ensures.value) (c.self.invariant.names c.args.directory)))
