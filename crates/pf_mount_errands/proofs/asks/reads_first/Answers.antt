use Rattle.std.proofs.Common.{ℕ, sym, subst, arith}
use Rattle.pf_file_calls.specs.Blocks.{FitsIn}
use Rattle.pf_journal.specs.Layouts.{layout_of}
use Rattle.pf_mount_errands.proofs.AskChunks.{fits_one, has_place}
use Rattle.pf_mount_errands.proofs.asks.reads_first.Goals as goal

pub place_on-requires : goal.place_on-requires
place_on-requires c =
    let has = c.rooms_have_layouts.ensures c.args.layout c.args.volume.now c.laws.ensures.form c.requires.volume in
    has_place (layout_of c.args.layout) c.args.volume.now c.laws.ensures.form has c.args.anchor c.args.position c.requires.anchor c.requires.position 0 (omega arith)

pub reads-requires : goal.reads-requires
reads-requires c =
    let P : ℕ → Type 0 = λ n. FitsIn c.args.volume.now n 1 in
    let has = c.rooms_have_layouts.ensures c.args.layout c.args.volume.now c.laws.ensures.form c.requires.volume in
    subst P (sym c.place_on.ensures) (fits_one (layout_of c.args.layout) c.args.volume.now c.laws.ensures.form has c.args.anchor c.args.position c.requires.anchor c.requires.position 0 (omega arith))
