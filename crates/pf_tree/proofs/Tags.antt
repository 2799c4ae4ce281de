-- Tags, and the blocks of files.
use Rattle.std.proofs.Common.{◌≡◌, ◌≢◌, ℕ, zero, suc, ◌+◌, ◌<◌, ◌≤◌, ◌⊎◌, inl, inr, true, false, ◌&&◌, ◌==◌, nat_lt, List, [], ◌∷◌, length, get_or, set, Option, Some, None, refl, sym, ap, ◌∙◌, subst, arith, le_of_lt}
use Rattle.std.proofs.lemmas.Bool.{cond-true, cond-false, false≢true, and_parts, and_from, or_parts, eqb-true, eqb-false, eq-eqb, ne_eqb, cases_eq, cases_lt, false_from_ne_true, lt-ltb, or_cases, or_right}
use Rattle.std.proofs.lemmas.Option.{none-some}
use Rattle.std.proofs.lemmas.List.{get_or_past, get_or-set_same, get_or-set_other, set_past, length-set, same_lists, get_or_default}
use Rattle.std.proofs.lemmas.List.Sums.{position_or_len_is}
use Rattle.std.proofs.lemmas.List.FromFn.{length-map-range_with_len, get_or-map-range_with_len}
use Rattle.pf_tree_tables.specs.declared.tables.Inode.{Inode}
use Rattle.pf_tree_tables.specs.declared.tables.Inode.TheVariants.{File as OfFile}
use Rattle.pf_tree_tables.specs.declared.tables.Tag.{Tag}
use Rattle.pf_tree.specs.Trees.{block_count}
use Rattle.pf_tree_tables.specs.Tables.{Tables, tag_at, is_tag, block_of, blocks_of, applied, tag_with}
use Rattle.pf_tree.specs.Plans.{blocks_freed, blocks_given}
use Rattle.pf_tree.specs.Standing.{IndexesAreTagged}
use Rattle.pf_tree.proofs.Members.{has, has_at, Distinct, same_map}

abbrev pub tag : ℕ → ℕ → Tag
tag i k = record { inode = i; index = k }

pub is_tag_parts : (i k : ℕ) (o : Option Tag) → is_tag i k o ≡ true → o ≡ Some (tag i k)
is_tag_parts i k None e = absurd (false≢true e)
is_tag_parts i k (Some t) e =
    let p = and_parts _ _ e in
    ap (λ x. Some (tag x t.index)) (eqb-true t.inode i p.0) ∙ ap (λ x. Some (tag i x)) (eqb-true t.index k p.1)

pub is_tag_from : (i k : ℕ) (o : Option Tag) → o ≡ Some (tag i k) → is_tag i k o ≡ true
is_tag_from i k o e = ap (is_tag i k) e ∙ and_from _ _ (eq-eqb i i refl) (eq-eqb k k refl)

pub tagged_within : (tags : List (Option Tag)) (b : ℕ) (t : Tag) → tag_at tags b ≡ Some t → b < length tags
tagged_within tags b t e =
    elim (cases_lt b (length tags)) [
      | inl low ↦ low
      | inr past ↦ absurd (none-some t (sym (get_or_past tags b None past) ∙ e))
    ]

-- the one block with a tag
pub block_of_is : (tags : List (Option Tag)) (i k b : ℕ) → ((c : ℕ) → tag_at tags c ≡ Some (tag i k) → c ≡ b) → tag_at tags b ≡ Some (tag i k) → block_of tags i k ≡ b
block_of_is tags i k b once e =
    position_or_len_is (is_tag i k) tags b None (le_of_lt (tagged_within tags b (tag i k) e))
    (λ c low. false_from_ne_true _ (λ h. let same = once c (is_tag_parts i k (tag_at tags c) h) in absurd (omega arith)))
    (λ low. is_tag_from i k (tag_at tags b) e)

pub length_blocks : (tags : List (Option Tag)) (i n : ℕ) → length (blocks_of tags i n) ≡ n
length_blocks tags i n = length-map-range_with_len (block_of tags i) 0 n

pub get_block : (tags : List (Option Tag)) (i n k d : ℕ) → k < n → get_or (blocks_of tags i n) k d ≡ block_of tags i k
get_block tags i n k d low = get_or-map-range_with_len (block_of tags i) 0 n k k d low (omega arith)

module _ (inodes : ℕ → Option Inode) (tags : List (Option Tag)) (tagged : IndexesAreTagged inodes tags) where
  pub block_is : (i k b : ℕ) → tag_at tags b ≡ Some (tag i k) → block_of tags i k ≡ b
  block_is i k b e = block_of_is tags i k b (λ c h. tagged.once c b (tag i k) h e) e

  -- the block of an index has its tag
  pub tag_of_block : (i size k : ℕ) → inodes i ≡ Some (OfFile size) → k < block_count size → tag_at tags (block_of tags i k) ≡ Some (tag i k)
  tag_of_block i size k file low = let t = tagged.there i size k file low in ap (tag_at tags) (block_is i k t.0 t.1) ∙ t.1

  pub tag_in_list : (i size k : ℕ) → inodes i ≡ Some (OfFile size) → k < block_count size → tag_at tags (get_or (blocks_of tags i (block_count size)) k 0) ≡ Some (tag i k)
  tag_in_list i size k file low = ap (tag_at tags) (get_block tags i (block_count size) k 0 low) ∙ tag_of_block i size k file low

-- tags of which those of one inode are now those of a list of blocks, and the others stay
pub record Retagged (tags tags2 : List (Option Tag)) (i : ℕ) (blocks : List ℕ) : Type 0 where
  pub mine : (k : ℕ) → k < length blocks → tag_at tags2 (get_or blocks k 0) ≡ Some (tag i k)
  pub cases : (b : ℕ) (t : Tag) → tag_at tags2 b ≡ Some t → ((t.inode ≡ i) × (t.index < length blocks) × (b ≡ get_or blocks t.index 0)) ⊎ ((t.inode ≢ i) × (tag_at tags b ≡ Some t))
  pub others : (b : ℕ) (t : Tag) → t.inode ≢ i → tag_at tags b ≡ Some t → tag_at tags2 b ≡ Some t

module _ (inodes inodes2 : ℕ → Option Inode) (tags tags2 : List (Option Tag)) (tagged : IndexesAreTagged inodes tags) (i : ℕ) (blocks : List ℕ) (re : Retagged tags tags2 i blocks) where
  once2 : (b c : ℕ) (t : Tag) → tag_at tags2 b ≡ Some t → tag_at tags2 c ≡ Some t → b ≡ c
  once2 b c t e f =
      elim (re.cases b t e) [
        | inl mine ↦ elim (re.cases c t f) [
          | inl mine2 ↦ mine.2 ∙ sym mine2.2
          | inr other ↦ absurd (other.0 mine.0)
        ]
        | inr other ↦ elim (re.cases c t f) [
          | inl mine2 ↦ absurd (other.0 mine2.0)
          | inr other2 ↦ tagged.once b c t other.1 other2.1
        ]
      ]

  pub retagged : ((j : ℕ) → j ≢ i → inodes2 j ≡ inodes j) → ((k : ℕ) → k < length blocks → (size : ℕ) × (inodes2 i ≡ Some (OfFile size)) × (k < block_count size)) → ((size : ℕ) → inodes2 i ≡ Some (OfFile size) → block_count size ≤ length blocks) → IndexesAreTagged inodes2 tags2
  retagged same file count = record {
    of_file = λ b t e. elim (re.cases b t e) [
      | inl mine ↦ let f = file t.index mine.1 in (f.0, ap inodes2 mine.0 ∙ f.1, f.2)
      | inr other ↦ let f = tagged.of_file b t other.1 in (f.0, same t.inode other.0 ∙ f.1, f.2)
    ];
    once = once2;
    there = λ j size k is low. elim (cases_eq j i) [
      | inl mine ↦
          let c = count size (ap inodes2 (sym mine) ∙ is) in
          (get_or blocks k 0, re.mine k (omega arith) ∙ ap (λ x. Some (tag x k)) (sym mine))
      | inr other ↦
          let t = tagged.there j size k (sym (same j other) ∙ is) low in
          (t.0, re.others t.0 (tag j k) other t.1)
    ];
  }

  -- the blocks of other files stay
  pub blocks_stay : (j size : ℕ) → j ≢ i → inodes j ≡ Some (OfFile size) → blocks_of tags2 j (block_count size) ≡ blocks_of tags j (block_count size)
  blocks_stay j size other is =
      same_map (block_of tags2 j) (block_of tags j) (block_count size)
      (λ k low. let t = tagged.there j size k is low in
      let e : tag_at tags2 t.0 ≡ Some (tag j k) = re.others t.0 (tag j k) other t.1 in
      block_of_is tags2 j k t.0 (λ c h. once2 c t.0 (tag j k) h e) e ∙ sym (block_is inodes tags tagged j k t.0 t.1))

  pub blocks_are : blocks_of tags2 i (length blocks) ≡ blocks
  blocks_are =
      same_lists _ _ (length_blocks tags2 i (length blocks))
      (λ k d low.
      let low2 : k < length blocks = subst (λ n. k < n) (length_blocks tags2 i (length blocks)) low in
      let e : tag_at tags2 (get_or blocks k 0) ≡ Some (tag i k) = re.mine k low2 in
      get_block tags2 i (length blocks) k d low2
      ∙ block_of_is tags2 i k (get_or blocks k 0) (λ c h. once2 c (get_or blocks k 0) (tag i k) h e) e
      ∙ get_or_default blocks k 0 d low2)

-- where no tag is of the inode, it has no blocks
pub untouched : (tags : List (Option Tag)) (i : ℕ) → ((b : ℕ) (t : Tag) → tag_at tags b ≡ Some t → t.inode ≢ i) → Retagged tags tags i []
untouched tags i never = record {
  mine = λ k low. absurd (omega arith);
  cases = λ b t e. inr (never b t e, e);
  others = λ b t other e. e;
}

-- what lists of tag changes do
abbrev pub free_all : List (Option Tag) → List ℕ → List (Option Tag)
free_all tags [] = tags
free_all tags (b ∷ bs) = free_all (set tags b None) bs

abbrev pub give_all : List (Option Tag) → (i k : ℕ) → List ℕ → List (Option Tag)
give_all tags i k [] = tags
give_all tags i k (b ∷ bs) = give_all (set tags b (Some (tag i k))) i (suc k) bs

pub applied_freed : (tables : Tables) (bs : List ℕ) → applied tables (blocks_freed bs) ≡ record tables { tags = free_all tables.tags bs }
applied_freed tables [] = refl
applied_freed tables (b ∷ bs) = applied_freed (record tables { tags = set tables.tags b None }) bs

give_one : (tables : Tables) (i k b : ℕ) → length tables.inodes ≡ 1024 → i < 1024 → k < 48 → tag_with tables i k tables.tags b ≡ set tables.tags b (Some (tag i k))
give_one tables i k b places low few =
    cond-false (i == 65535) _ _ (ne_eqb i 65535 (λ e. omega arith))
    ∙ cond-true (nat_lt i (length tables.inodes) && nat_lt k 48) _ _ (and_from _ _ (lt-ltb i (length tables.inodes) (omega arith)) (lt-ltb k 48 few))

pub applied_given : (tables : Tables) (i k : ℕ) (bs : List ℕ) → length tables.inodes ≡ 1024 → i < 1024 → k + length bs ≤ 48 → applied tables (blocks_given i k bs) ≡ record tables { tags = give_all tables.tags i k bs }
applied_given tables i k [] places low few = refl
applied_given tables i k (b ∷ bs) places low few =
    ap (λ (ts : List (Option Tag)). applied (record tables { tags = ts }) (blocks_given i (suc k) bs)) (give_one tables i k b places low (omega arith))
    ∙ applied_given (record tables { tags = set tables.tags b (Some (tag i k)) }) i (suc k) bs places low (omega arith)

set_none : (tags : List (Option Tag)) (b : ℕ) → tag_at (set tags b None) b ≡ None
set_none tags b =
    elim (cases_lt b (length tags)) [
      | inl low ↦ get_or-set_same tags b None None low
      | inr past ↦ ap (λ ts. tag_at ts b) (set_past tags b None past) ∙ get_or_past tags b None past
    ]

pub freed_stays : (tags : List (Option Tag)) (bs : List ℕ) (b : ℕ) → tag_at tags b ≡ None → tag_at (free_all tags bs) b ≡ None
freed_stays tags [] b e = e
freed_stays tags (c ∷ bs) b e =
    freed_stays (set tags c None) bs b (elim (cases_eq b c) [
      | inl same ↦ ap (tag_at (set tags c None)) same ∙ set_none tags c
      | inr apart ↦ get_or-set_other tags c b None None apart ∙ e
    ])

pub freed_in : (tags : List (Option Tag)) (bs : List ℕ) (b : ℕ) → has bs b ≡ true → tag_at (free_all tags bs) b ≡ None
freed_in tags [] b e = absurd (false≢true e)
freed_in tags (c ∷ bs) b e =
    elim (or_cases _ _ e) [
      | inl here ↦ freed_stays (set tags c None) bs b (ap (tag_at (set tags c None)) (eqb-true b c here) ∙ set_none tags c)
      | inr there ↦ freed_in (set tags c None) bs b there
    ]

pub freed_out : (tags : List (Option Tag)) (bs : List ℕ) (b : ℕ) → has bs b ≡ false → tag_at (free_all tags bs) b ≡ tag_at tags b
freed_out tags [] b e = refl
freed_out tags (c ∷ bs) b e =
    let p = or_parts (b == c) (has bs b) e in
    freed_out (set tags c None) bs b p.1 ∙ get_or-set_other tags c b None None (eqb-false b c p.0)

pub given_out : (tags : List (Option Tag)) (i k : ℕ) (bs : List ℕ) (b : ℕ) → has bs b ≡ false → tag_at (give_all tags i k bs) b ≡ tag_at tags b
given_out tags i k [] b e = refl
given_out tags i k (c ∷ bs) b e =
    let p = or_parts (b == c) (has bs b) e in
    given_out (set tags c (Some (tag i k))) i (suc k) bs b p.1 ∙ get_or-set_other tags c b (Some (tag i k)) None (eqb-false b c p.0)

pub given_in : (tags : List (Option Tag)) (i k : ℕ) (bs : List ℕ) (j : ℕ) → Distinct bs → ((b : ℕ) → has bs b ≡ true → b < length tags) → j < length bs → tag_at (give_all tags i k bs) (get_or bs j 0) ≡ Some (tag i (k + j))
given_in tags i k [] j d within low = absurd (omega arith)
given_in tags i k (c ∷ bs) zero d within low =
    given_out (set tags c (Some (tag i k))) i (suc k) bs c d.0
    ∙ get_or-set_same tags c (Some (tag i k)) None (within c (has_at (c ∷ bs) 0 low))
    ∙ ap (λ x. Some (tag i x)) (omega arith)
given_in tags i k (c ∷ bs) (suc j) d within low =
    given_in (set tags c (Some (tag i k))) i (suc k) bs j d.1
    (λ b e. subst (λ n. b < n) (sym (length-set tags c (Some (tag i k)))) (within b (or_right _ _ e)))
    (omega arith)
    ∙ ap (λ x. Some (tag i x)) (omega arith)

pub length_freed : (tags : List (Option Tag)) (bs : List ℕ) → length (free_all tags bs) ≡ length tags
length_freed tags [] = refl
length_freed tags (b ∷ bs) = length_freed (set tags b None) bs ∙ length-set tags b None

pub length_given : (tags : List (Option Tag)) (i k : ℕ) (bs : List ℕ) → length (give_all tags i k bs) ≡ length tags
length_given tags i k [] = refl
length_given tags i k (b ∷ bs) = length_given (set tags b (Some (tag i k))) i (suc k) bs ∙ length-set tags b (Some (tag i k))
