use Rattle.std.proofs.Common.{◌≡◌, ◌∙◌, ap, sym, subst, inl, inr, true, get_or, ℕ, Some, None, is_some, arith}
use Rattle.std.proofs.lemmas.Bool.{cases_eq}
use Rattle.pf_check.specs.declared.tables.RawInode.TheVariants.{File}
use Rattle.pf_check.specs.Raw.{inode_in}
use Rattle.pf_check.specs.Kinds.{InodeIsSized, TagIsUsed}
use Rattle.pf_check.specs.Walks.{first_in, tag_of}
use Rattle.pf_check.proofs.KindRules.{blocks_few, tagged_by}
use Rattle.pf_check.proofs.rules.has_gap.Goals as goal

pub loop-index-preserved : goal.loop-index-preserved
loop-index-preserved c = λ k low.
    let t = c.args.tables.now in
    let i = c.args.inode in
    let size = c.in-Some-File.size in
    let index = c.loop-index.index in
    let file : inode_in t i ≡ Some (File size) = sym c.inode.ensures ∙ c.in-Some-File.is ∙ ap Some c.in-Some-File.field-0-is in
    let few = blocks_few size (subst InodeIsSized file (c.requires.sizes i)) in
    let low_inode = c.requires.low i (ap is_some file) in
    let is : is_some (first_in c.args.firsts.now i index) ≡ true = ap (λ (p : ℕ). is_some (get_or c.args.firsts.now p None)) (sym c.place_of-place.ensures) ∙ c.if-is_none.ensures in
    elim (cases_eq k index) [
      | inl same ↦ subst (λ (j : ℕ). TagIsUsed t (tag_of i j)) (sym same) (tagged_by t (tag_of i index) 65536 _ (first_in c.args.firsts.now i index) (c.requires.firsts.each i index (omega (arith, low_inode)) (omega (arith, few))) is)
      | inr apart ↦ c.loop-index.invariant k (omega (arith, low, apart))
    ]
