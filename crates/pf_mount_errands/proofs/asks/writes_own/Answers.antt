use Rattle.std.proofs.Common.{◌≡◌, ℕ, ◌<◌, [], ◌∷◌, sym, subst}
use Rattle.std.proofs.lemmas.Result.{IfOk-weaker}
use Rattle.pf_volume.specs.Volumes.{size_of}
use Rattle.pf_journal.specs.Layouts.{layout_of}
use Rattle.pf_mount_errands.specs.Places.{writes_own}
use Rattle.pf_base.specs.declared.asks.Ask.{Ask}
use Rattle.pf_file_calls.specs.Blocks.{AskIsInside, data_writes}
use Rattle.pf_mount_errands.proofs.AskChunks.{has_place, low_place}
use Rattle.pf_mount_errands.proofs.asks.writes_own.Goals as goal

pub place_on-requires : goal.place_on-requires
place_on-requires c =
    let has = c.rooms_have_layouts.ensures c.args.layout c.args.volume.now c.laws.ensures.form c.requires.volume in
    has_place (layout_of c.args.layout) c.args.volume.now c.laws.ensures.form has c.args.anchor c.args.position c.requires.anchor c.requires.position c.args.mount c.requires.mount

pub writes_one-requires : goal.writes_one-requires
writes_one-requires c =
    let P : ℕ → Type 0 = λ n. n < size_of c.args.volume.now in
    let has = c.rooms_have_layouts.ensures c.args.layout c.args.volume.now c.laws.ensures.form c.requires.volume in
    subst P (sym c.place_on.ensures) (low_place (layout_of c.args.layout) c.args.volume.now c.laws.ensures.form has c.args.anchor c.args.position c.requires.anchor c.requires.position c.args.mount c.requires.mount)

pub returns-clause-inside : goal.returns-clause-inside
returns-clause-inside c =
    let v = c.args.volume.now in
    let at = c.place_on.ensures in
    let bytes = c.spell_block-sector.ensures.bytes in
    let there = c.journals_are_asked_inside.ensures.own c.args.layout v c.args.anchor c.args.position c.args.mount c.args.block.now c.laws.ensures.form c.requires.volume c.requires.anchor c.requires.position c.requires.mount in
    IfOk-weaker c.writes_one.result (λ (ask : Ask). ask ≡ data_writes v c.place_on.result (c.spell_block-sector.result ∷ [])) (AskIsInside v)
    (λ ask is. let same : writes_own (layout_of c.args.layout) v c.args.anchor c.args.position c.args.mount c.args.block.now ≡ ask = (cc) in subst (AskIsInside v) same there)
    c.writes_one.ensures
