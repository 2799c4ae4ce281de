use Rattle.std.proofs.Common.{◌<◌, ◌∙◌, sym, ap, length, arith}
use Rattle.std.proofs.lemmas.List.{length_push}
use Rattle.pf_tree_tables.specs.Tables.{Tables, after_change}
use Rattle.pf_tree_tables.specs.Shelves.{tables_of}
use Rattle.pf_tree_tables.proofs.Shelves.{applied_push}
use Rattle.pf_tree_tables.proofs.edits.carry_out.Goals as goal

pub loop-change-preserved : goal.loop-change-preserved
loop-change-preserved c = (
  tt,
  tt,
  c.change_one.ensures.tables ∙ ap (λ (t : Tables). after_change t c.in-Some.change) c.loop-change.invariant.2
      ∙ sym (applied_push (tables_of c.args.inodes.now c.args.directories.now.items c.args.tags.now) c.loop-change.yielded c.in-Some.change),
  c.change_one.ensures.count ∙ c.loop-change.invariant.3,
  λ d low any.
      let n = c.change_one.ensures.count in
      let r = c.change_one.ensures.room d in
      let l : d < length c.loop-change.directories.items = omega (arith, n, low) in
      let i = c.loop-change.invariant.4 d l any in
      let k = length_push c.loop-change.yielded c.in-Some.change in
      omega (arith, r, i, k),
)
