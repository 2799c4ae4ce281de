-- The tags of a file whose size changes.
use Rattle.std.proofs.Common.{◌≡◌, ◌≢◌, ℕ, ◌+◌, ◌-◌, ◌<◌, ◌≤◌, min, ◌⊎◌, inl, inr, true, false, List, ◌++◌, length, take, drop, get_or, Option, Some, None, sym, ap, ◌∙◌, subst, arith}
use Rattle.std.proofs.lemmas.Bool.{cases_Bool, false≢true, cases_eq, cases_lt, false_from_ne_true}
use Rattle.std.proofs.lemmas.Option.{none-some, same_Some}
use Rattle.std.proofs.lemmas.List.{length-take, length-drop, length-append, get_or-take, get_or-drop, get_or_append_left, get_or-append_right}
use Rattle.pf_tree_tables.specs.declared.tables.Inode.{Inode}
use Rattle.pf_tree_tables.specs.declared.tables.Inode.TheVariants.{File as OfFile, Directory}
use Rattle.pf_tree_tables.specs.declared.tables.Tag.{Tag}
use Rattle.pf_tree.specs.Trees.{block_count}
use Rattle.pf_tree_tables.specs.Tables.{tag_at, blocks_of}
use Rattle.pf_tree.specs.Standing.{IndexesAreTagged}
use Rattle.pf_tree.proofs.Members.{has, member, has_at, Distinct}
use Rattle.pf_tree.proofs.Tags.{tag, length_blocks, get_block, block_is, tag_in_list, Retagged, free_all, give_all, freed_in, freed_out, given_in, given_out, length_freed}

same_index : (t u : Tag) → ◌≡◌ {A = Option Tag} (Some t) (Some u) → t.index ≡ u.index
same_index t u e = ap (λ x. x.index) (same_Some t u e)

same_inode : (t u : Tag) → ◌≡◌ {A = Option Tag} (Some t) (Some u) → t.inode ≡ u.inode
same_inode t u e = ap (λ x. x.inode) (same_Some t u e)

abbrev pub size_of : Inode → ℕ
size_of (OfFile z) = z
size_of Directory = 0

module _ (inodes : ℕ → Option Inode) (tags : List (Option Tag)) (tagged : IndexesAreTagged inodes tags) (i size : ℕ) (file : inodes i ≡ Some (OfFile size)) (want : ℕ) (fresh : List ℕ) (as_many : length fresh ≡ want - block_count size) (distinct : Distinct fresh) (within : (b : ℕ) → has fresh b ≡ true → b < length tags) (free : (b : ℕ) → has fresh b ≡ true → tag_at tags b ≡ None) where
  abbrev old : List ℕ
  old = blocks_of tags i (block_count size)

  abbrev blocks : List ℕ
  blocks = take want old ++ fresh

  abbrev tags1 : List (Option Tag)
  tags1 = free_all tags (drop want old)

  abbrev tags2 : List (Option Tag)
  tags2 = give_all tags1 i (block_count size) fresh

  length_old : length old ≡ block_count size
  length_old = length_blocks tags i (block_count size)

  length_kept : length (take want old) ≡ min want (block_count size)
  length_kept = length-take want old ∙ ap (min want) length_old

  pub length_sized : length blocks ≡ want
  length_sized = length-append (take want old) fresh ∙ (let k = length_kept in omega (arith, k, as_many))

  kept_at : (k : ℕ) → k < want → k < block_count size → get_or blocks k 0 ≡ get_or old k 0
  kept_at k low there =
      get_or_append_left (take want old) fresh 0 k (let z = length_kept in omega (arith, z, low, there)) ∙ get_or-take want old k 0 low

  new_at : (j : ℕ) → j < length fresh → get_or blocks (block_count size + j) 0 ≡ get_or fresh j 0
  new_at j low =
      let z = length_kept in
      get_or-append_right (take want old) fresh (block_count size) (block_count size + j) 0 (z ∙ (omega (arith, as_many, low))) (omega arith)
      ∙ ap (λ k. get_or fresh k 0) (omega arith)

  old_tag : (k : ℕ) → k < block_count size → tag_at tags (get_or old k 0) ≡ Some (tag i k)
  old_tag k low = tag_in_list inodes tags tagged i size k file low

  -- a block that is taken away has a tag of this file, of an index past the new ones
  dropped_tag : (b : ℕ) → has (drop want old) b ≡ true → (k : ℕ) × (want ≤ k) × (tag_at tags b ≡ Some (tag i k))
  dropped_tag b e =
      let m = member (drop want old) b e in
      let l = length-drop want old in
      let lo = length_old in
      let w = m.within in (
        want + m.index,
        omega arith,
        ap (tag_at tags) (sym m.is ∙ get_or-drop want old m.index 0) ∙ old_tag (want + m.index) (omega (arith, l, lo, w)),
      )

  not_fresh : (b : ℕ) (t : Tag) → tag_at tags b ≡ Some t → has fresh b ≡ false
  not_fresh b t e = false_from_ne_true _ (λ h. none-some t (sym (free b h) ∙ e))

  through : (b : ℕ) (t : Tag) → tag_at tags b ≡ Some t → has (drop want old) b ≡ false → tag_at tags2 b ≡ Some t
  through b t e stays = given_out tags1 i (block_count size) fresh b (not_fresh b t e) ∙ freed_out tags (drop want old) b stays ∙ e

  length_tags1 : length tags1 ≡ length tags
  length_tags1 = length_freed tags (drop want old)

  fresh_tag : (j : ℕ) → j < length fresh → tag_at tags2 (get_or fresh j 0) ≡ Some (tag i (block_count size + j))
  fresh_tag j low = given_in tags1 i (block_count size) fresh j distinct (λ b e. subst (λ n. b < n) (sym length_tags1) (within b e)) low

  mine : (k : ℕ) → k < length blocks → tag_at tags2 (get_or blocks k 0) ≡ Some (tag i k)
  mine k low =
      let l = length_sized in
      elim (cases_lt k (block_count size)) [
        | inl there ↦
            let low2 : k < want = omega (arith, l, low) in
            ap (tag_at tags2) (kept_at k low2 there)
            ∙ through (get_or old k 0) (tag i k) (old_tag k there)
            (false_from_ne_true _ (λ e. let x = dropped_tag (get_or old k 0) e in
            let same = same_index (tag i k) (tag i x.0) (sym (old_tag k there) ∙ x.2) in
            let far = x.1 in absurd (omega (arith, same, far, low2))))
        | inr past ↦
            let j : ℕ = k - block_count size in
            let eq : block_count size + j ≡ k = omega arith in
            let low2 : j < length fresh = omega (arith, l, low, as_many, past) in
            ap (λ n. tag_at tags2 (get_or blocks n 0)) (sym eq) ∙ ap (tag_at tags2) (new_at j low2) ∙ fresh_tag j low2 ∙ ap (λ n. Some (tag i n)) eq
      ]

  cases_of : (b : ℕ) (t : Tag) → tag_at tags2 b ≡ Some t → ((t.inode ≡ i) × (t.index < length blocks) × (b ≡ get_or blocks t.index 0)) ⊎ ((t.inode ≢ i) × (tag_at tags b ≡ Some t))
  cases_of b t e =
      elim (cases_Bool (has fresh b)) [
        | inl new ↦
            let m = member fresh b new in
            let w = m.within in
            let tagged2 : tag_at tags2 b ≡ Some (tag i (block_count size + m.index)) = ap (tag_at tags2) (sym m.is) ∙ fresh_tag m.index w in
            let ix : t.index ≡ block_count size + m.index = same_index t (tag i (block_count size + m.index)) (sym e ∙ tagged2) in
            let l = length_sized in
            inl (
              same_inode t (tag i (block_count size + m.index)) (sym e ∙ tagged2),
              omega (arith, l, as_many, ix, w),
              sym (ap (λ n. get_or blocks n 0) ix ∙ new_at m.index w ∙ m.is),
            )
        | inr not_new ↦
            let e1 : tag_at tags1 b ≡ Some t = sym (given_out tags1 i (block_count size) fresh b not_new) ∙ e in
            elim (cases_Bool (has (drop want old) b)) [
              | inl dropped ↦ absurd (none-some t (sym (freed_in tags (drop want old) b dropped) ∙ e1))
              | inr stays ↦
                  let e0 : tag_at tags b ≡ Some t = sym (freed_out tags (drop want old) b stays) ∙ e1 in
                  elim (cases_eq t.inode i) [
                    | inr other ↦ inr (other, e0)
                    | inl same ↦
                        let f = tagged.of_file b t e0 in
                        let z : f.0 ≡ size = ap size_of (same_Some (OfFile f.0) (OfFile size) (sym f.1 ∙ ap inodes same ∙ file)) in
                        let low : t.index < block_count size = subst (λ n. t.index < block_count n) z f.2 in
                        let here : get_or old t.index 0 ≡ b =
                        get_block tags i (block_count size) t.index 0 low
                        ∙ block_is inodes tags tagged i t.index b (e0 ∙ ap (λ n. Some (tag n t.index)) same) in
                        let low2 : t.index < want =
                        elim (cases_lt t.index want) [
                          | inl lower ↦ lower
                          | inr higher ↦
                              let l = length-drop want old in
                              let lo = length_old in
                              let at_b : get_or (drop want old) (t.index - want) 0 ≡ b =
                              get_or-drop want old (t.index - want) 0 ∙ ap (λ n. get_or old n 0) (omega (arith, higher)) ∙ here in
                              absurd (false≢true (sym stays ∙ ap (has (drop want old)) (sym at_b) ∙ has_at (drop want old) (t.index - want) (omega (arith, l, lo, low, higher))))
                        ] in
                        let l = length_sized in
                        inl (same, omega (arith, l, low2), sym (kept_at t.index low2 low ∙ here))
                  ]
            ]
      ]

  pub resized : Retagged tags tags2 i blocks
  resized = record {
    mine = mine;
    cases = cases_of;
    others = λ b t other e. through b t e (false_from_ne_true _ (λ h. let x = dropped_tag b h in
        other (same_inode t (tag i x.0) (sym e ∙ x.2))));
  }
