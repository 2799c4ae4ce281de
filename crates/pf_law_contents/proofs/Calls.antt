-- Each call leaves its contents.
use Rattle.std.proofs.Common.{◌≡◌, ◌≢◌, ◌⊎◌, inl, inr, ℕ, zero, suc, ◌+◌, ◌-◌, ◌<◌, ◌≤◌, ◌==◌, Bool, true, false, ◌/◌, ◌%◌, max, map, nat_lt, if◌then◌else◌, List, [], ◌∷◌, ◌++◌, length, take, get_or, unwrap_or, is_some, Option, Some, None, arith, refl, sym, ap, subst, ◌∙◌}
use Rattle.std.specs.List.{range_with_len}
use Rattle.std.specs.Option.{option_and_then}
use Rattle.std.proofs.lemmas.Bool.{cases_Bool, cases_eq, cases_lt, cond-true, cond-false, eq-eqb, ne_eqb, eqb-true, false≢true, true≢false, lt-ltb, ltb-true, ltb-false}
use Rattle.std.proofs.lemmas.List.{get_or_append_left, get_or-take, length-take-le}
use Rattle.std.proofs.lemmas.Option.{none-some}
use Rattle.pf_volume.specs.Volumes.{Extent}
use Rattle.pf_tree_tables.specs.Names.{Path}
use Rattle.pf_tree_tables.specs.Tables.{Tables, walk}
use Rattle.pf_tree.specs.Paths.{below}
use Rattle.pf_tree.specs.Plans.{found, node_of}
use Rattle.pf_tree.specs.Standing.{TablesStandFor}
use Rattle.pf_tree.specs.Trees.{Data, Node, Dir, File, Tree, at, block_count, blocks_at, file_refusal, has_rest, is_dir, path_moved, place_refusal, node_put, refusal, tree_resized, size_at, sized, sized_blocks, tree_sight, unlisted, walk_refusal, when, with_moved, without_path, written_size}
use Rattle.pf_tree.specs.Calls.{FileCall}
use Rattle.pf_base.specs.declared.calls.Call.TheVariants.{Mkdir, Create, Write, Read, Truncate, Rename, Unlink, Rmdir, Stat, List as Lists}
use Rattle.pf_tree.proofs.Law.{first_none, walk_reaches, when_none}
use Rattle.pf_tree.proofs.RenamedTrees.{IsClear, at_moved, back, cases_option, moved_apart, moved_below}
use Rattle.pf_tree.proofs.Paths.{cases_path, is_same_false, is_same_true}
use Rattle.pf_tree.proofs.Sights.{node_from, node_in_some}
use Rattle.pf_tree.proofs.Trees.{at_put, replaced_other, replaced_same, without_other, without_same}
use Rattle.pf_tree.proofs.Walks.{walk_clear, walk_in_use}
use Rattle.pf_file_calls.specs.Calls.{file_of_call}
use Rattle.pf_file_calls.specs.Filling.{end_of_fill, first_of_fill, is_place_within, read_end}
use Rattle.pf_file_calls.specs.Moving.{fills, data_moves}
use Rattle.pf_file_calls.specs.declared.answers.CallAnswer.{CallAnswer}
use Rattle.pf_file_calls.specs.declared.answers.CallAnswer.TheVariants.{Fine, Bytes as BytesRead}
use Rattle.pf_file_calls.specs.declared.filling.Fill.{Fill}
use Rattle.pf_file_calls.specs.declared.moving.Moved.TheVariants.{Ends}
use Rattle.pf_law_plans.specs.Exchanges.{Exchange}
use Rattle.pf_law_plans.specs.Numbered.{tree_with}
use Rattle.pf_law_contents.specs.Contents.{Contents, bytes_between, contents_with}
use Rattle.pf_law_contents.specs.Going.{IsReadOf}
use Rattle.pf_law_contents.specs.Stored.{AreHeld, GoesSo, Stored, TellStored, block_bytes, stored_after}
use Rattle.pf_law_contents.proofs.Files.{blocks_length, file_there, its_block}
use Rattle.pf_law_contents.proofs.FilledBlocks.{chosen, file_filled}
use Rattle.pf_law_contents.proofs.GatheredBytes.{file_read}
use Rattle.pf_law_contents.proofs.ContentsAfterCalls.{ArePut, HasGrown, IsEmpty, WasThere, apart, held_filled, held_on, not_within}

-- nothing is asked where the call ends at once
nothing_asked : (v : Extent) (t : Tables) (is answer : CallAnswer) (came : List Exchange) → GoesSo v t (Ends is) came answer → came ≡ []
nothing_asked v t is answer [] goes = refl
nothing_asked v t is answer (e ∷ came) goes = absurd goes

no_dir : (size : ℕ) (blocks : List ℕ) → ◌≡◌ {A = Option Node} (Some Dir) (Some (File size blocks)) → ⊥
no_dir size blocks is = true≢false (ap is_dir is)

-- a file is there that is not refused
is_a_file : (o : Option Node) → is_some o ≡ true → is_dir o ≡ false → (size : ℕ) × (blocks : List ℕ) × (o ≡ Some (File size blocks))
is_a_file None some file = absurd (false≢true some)
is_a_file (Some Dir) some file = absurd (true≢false file)
is_a_file (Some (File size blocks)) some file = (size, blocks, refl)

module _ (d : Data) (t : Tables) (tree : Tree) (stands : TablesStandFor d t tree) where
  root_there : is_some (at tree []) ≡ true
  root_there = let node = node_in_some t.tags 0 _ (ap is_some stands.names.root) in ap is_some (stands.nodes [] ∙ node.1)

  pub file_at : (p : Path) → file_refusal (at tree) p ≡ None → (size : ℕ) × (blocks : List ℕ) × (at tree p ≡ Some (File size blocks))
  file_at p fine =
      let parts = first_none (walk_refusal (at tree) p) _ fine in
      is_a_file (at tree p) (walk_reaches (at tree) p root_there parts.0) (when_none 85 _ parts.1)

  -- nothing is at the new place of a rename, nor below it
  is_free : (to : Path) → place_refusal (at tree) to ≡ None → is_some (at tree to) ≡ false
  is_free [] fine = absurd (none-some 83 (sym fine))
  is_free (n ∷ p) fine =
      let a = first_none (walk_refusal (at tree) p) _ fine in
      let b = first_none (when 84 _) _ a.1 in
      when_none 83 _ b.1

  no_walk : (to : Path) → is_some (at tree to) ≡ false → walk t.entries to ≡ None
  no_walk to none = elim (cases_option (walk t.entries to)) [
    | inr is ↦ is
    | inl (i, leads) ↦
        let used = walk_in_use _ t.entries stands.names to i leads in
        let node = node_in_some t.tags i _ used in
        absurd (true≢false (sym (ap is_some (stands.nodes to ∙ node_from t to i leads ∙ node.1)) ∙ none))
  ]

  pub is_clear : (to : Path) → place_refusal (at tree) to ≡ None → IsClear tree to
  is_clear to fine y = stands.nodes (y ++ to) ∙ ap (option_and_then (node_of t)) (walk_clear t.entries to y (no_walk to (is_free to fine)))

-- A file of another size

all_taken : (n : ℕ) (xs : List ℕ) → length xs ≤ n → take n xs ≡ xs
all_taken zero [] le = refl
all_taken zero (x ∷ xs) le = absurd (omega (arith, le))
all_taken (suc n) [] le = refl
all_taken (suc n) (x ∷ xs) le = ap (λ ys. x ∷ ys) (all_taken n xs (omega (arith, le)))

in_taken : (n : ℕ) (xs : List ℕ) (k : ℕ) → k < n → k < length xs → k < length (take n xs)
in_taken n xs k low inside = elim (cases_lt (length xs) n) [
  | inl short ↦ subst (λ (ys : List ℕ). k < length ys) (sym (all_taken n xs (omega (arith, short)))) inside
  | inr long ↦ let e = length-take-le n xs (omega (arith, long)) in omega (arith, low, e)
]

pub record IsSized (tree after : Tree) (p : Path) (size to : ℕ) (old : List ℕ) : Type 0 where
  pub blocks : List ℕ
  pub is : at after p ≡ Some (File to blocks)
  pub same : (k : ℕ) → k < block_count size → k < block_count to → get_or blocks k 0 ≡ get_or old k 0
  pub others : (q : Path) → q ≢ p → at after q ≡ at tree q

pub sized_so : (d : Data) (t : Tables) (tree : Tree) (stands : TablesStandFor d t tree) (p : Path) (size to : ℕ) (old : List ℕ) → at tree p ≡ Some (File size old) → IsSized tree (unwrap_or (sized d tree p to) tree) p size to old
sized_so d t tree stands p size to old there = elim (cases_eq to (size_at (at tree p))) [
  | inl same ↦
      let stays : sized d tree p to ≡ None = cond-true _ _ _ (eq-eqb to (size_at (at tree p)) same) in
      let one : to ≡ size = same ∙ ap size_at there in
      subst (λ (o : Option Tree). IsSized tree (unwrap_or o tree) p size to old) (sym stays)
      (record { blocks = old; is = there ∙ ap (λ n. Some (File n old)) (sym one); same = λ k low below. refl; others = λ q other. refl })
  | inr changes ↦
      let grows : sized d tree p to ≡ Some (tree_resized d tree p to) = cond-false _ _ _ (ne_eqb to (size_at (at tree p)) changes) in
      let blocks : List ℕ = sized_blocks (blocks_at (at tree p)) (unlisted d tree) (block_count (size_at (at tree p))) (block_count to) in
      let blocks_are : blocks_at (at tree p) ≡ old = ap blocks_at there in
      let long = blocks_length d t tree stands p size old (file_there d t tree stands p size old there) in
      subst (λ (o : Option Tree). IsSized tree (unwrap_or o tree) p size to old) (sym grows)
      (record {
        blocks = sized_blocks (blocks_at (at tree p)) (unlisted d tree) (block_count (size_at (at tree p))) (block_count to);
        is = replaced_same tree p _ (ap is_some there);
        same = λ k low below. kept k low below blocks_are long;
        others = λ q other. replaced_other tree p _ q other;
      })
]
  where
    kept : (k : ℕ) → k < block_count size → k < block_count to → blocks_at (at tree p) ≡ old → length old ≡ block_count size → get_or (sized_blocks (blocks_at (at tree p)) (unlisted d tree) (block_count (size_at (at tree p))) (block_count to)) k 0 ≡ get_or old k 0
    kept k low below are long =
        let all = ap length are ∙ long in
        get_or_append_left (take (block_count to) (blocks_at (at tree p))) _ 0 k (in_taken (block_count to) (blocks_at (at tree p)) k below (omega (arith, low, all)))
        ∙ get_or-take (block_count to) (blocks_at (at tree p)) k 0 below
        ∙ ap (λ bs. get_or bs k 0) are

-- Reads

pub read_gives : (v : Extent) (d : Data) (t : Tables) (tree : Tree) (s : Stored) (c : Contents) → TablesStandFor d t tree → AreHeld v s tree c → (p : Path) (size : ℕ) (blocks : List ℕ) → at tree p ≡ Some (File size blocks) → (offset count : ℕ) (came : List Exchange) (answer : CallAnswer) → TellStored s came
    → GoesSo v t (data_moves v t size (Read p offset count)) came answer → (answer ≡ BytesRead (bytes_between c p offset (read_end size offset count))) × (stored_after s came ≡ s)
read_gives v d t tree s c stands held p size blocks there offset count came answer tells goes =
    chosen v t came answer (nat_lt offset (read_end size offset count)) _ (Ends (BytesRead [])) goes
    (λ some rest. file_read v t (found t p) offset (read_end size offset count) (ltb-true offset (read_end size offset count) some) (c p) s came answer held.whole
    (λ place low.
    let inside : place < size = omega (arith, low) in
    ap (λ b. get_or (block_bytes v s b) (place % 4096) 0) (sym (its_block d t tree stands p size blocks (file_there d t tree stands p size blocks there) (place / 4096) (omega (arith, inside))))
    ∙ held.bytes p size blocks there place inside)
    tells rest)
    (λ none rest. empty came (ltb-false offset (read_end size offset count) none) rest)
  where
    empty : (came : List Exchange) → read_end size offset count ≤ offset → GoesSo v t (Ends (BytesRead [])) came answer → (answer ≡ BytesRead (bytes_between c p offset (read_end size offset count))) × (stored_after s came ≡ s)
    empty [] past rest =
        let no_bytes : read_end size offset count - offset ≡ 0 = omega (arith, past) in
        (sym rest ∙ ap (λ n. BytesRead (map (c p) (range_with_len offset n))) (sym no_bytes), refl)
    empty (e ∷ came) past rest = absurd rest

pub read_so : (v : Extent) (d : Data) (t : Tables) (tree : Tree) (s : Stored) (c : Contents) → TablesStandFor d t tree → AreHeld v s tree c → (p : Path) (size : ℕ) (blocks : List ℕ) → at tree p ≡ Some (File size blocks) → (offset count : ℕ) (came : List Exchange) (answer : CallAnswer) → TellStored s came
    → GoesSo v t (data_moves v t size (Read p offset count)) came answer → IsReadOf tree c p offset count answer × (stored_after s came ≡ s)
read_so v d t tree s c stands held p size blocks there offset count came answer tells goes =
    let r = read_gives v d t tree s c stands held p size blocks there offset count came answer tells goes in
    (r.0 ∙ ap (λ n. BytesRead (bytes_between c p offset (read_end n offset count))) (sym (ap size_at there)), r.1)

-- Calls

module _ (v : Extent) (some : 0 < v.sectors) (d : Data) (before t : Tables) (tree : Tree) (s : Stored) (c : Contents) (stood : TablesStandFor d before tree) (held : AreHeld v s tree c) (came : List Exchange) (answer : CallAnswer) (tells : TellStored s came) where
  -- a file that is as it was
  itself : (now : Contents) (q : Path) (size : ℕ) (blocks : List ℕ) → at tree q ≡ Some (File size blocks) → ((place : ℕ) → c q place ≡ now q place) → WasThere tree c now q size blocks
  itself now q size blocks there same = record {
    p = q;
    its = size;
    old = blocks;
    there = there;
    low = omega arith;
    same = λ k low. refl;
    bytes = λ place low. same place;
    past = λ place high. sym (same place) ∙ held.past q size blocks there place high;
  }

  -- no data are written
  stays : (is : CallAnswer) → GoesSo v t (Ends is) came answer → (after : Tree) (now : Contents) → ((q : Path) (size : ℕ) (blocks : List ℕ) → at after q ≡ Some (File size blocks) → WasThere tree c now q size blocks ⊎ IsEmpty now q size) → AreHeld v (stored_after s came) after now
  stays is goes after now each = subst (λ (es : List Exchange). AreHeld v (stored_after s es) after now) (sym (nothing_asked v t is answer came goes)) (held_on v s tree after c now held each)

  kept_made : (p : Path) (is : CallAnswer) → GoesSo v t (Ends is) came answer → AreHeld v (stored_after s came) (node_put tree p Dir) c
  kept_made p is goes = stays is goes (node_put tree p Dir) c (λ q size blocks there. elim (cases_path q p) [
    | inl same ↦ absurd (no_dir size blocks (sym (at_put tree p Dir q ∙ cond-true _ _ _ (is_same_true q p same)) ∙ there))
    | inr other ↦ inl (itself c q size blocks (sym (at_put tree p Dir q ∙ cond-false _ _ _ (is_same_false q p other)) ∙ there) (λ place. refl))
  ])

  kept_created : (p : Path) (is : CallAnswer) → GoesSo v t (Ends is) came answer → AreHeld v (stored_after s came) (node_put tree p (File 0 [])) (contents_with (Create p) c)
  kept_created p is goes = stays is goes (node_put tree p (File 0 [])) (contents_with (Create p) c) (λ q size blocks there. elim (cases_path q p) [
    | inl same ↦ inr (record {
      none = sym (ap size_at (sym (at_put tree p (File 0 []) q ∙ cond-true _ _ _ (is_same_true q p same)) ∙ there));
      zeros = λ place. cond-true _ _ _ (is_same_true p q (sym same));
    })
    | inr other ↦ inl (itself (contents_with (Create p) c) q size blocks (sym (at_put tree p (File 0 []) q ∙ cond-false _ _ _ (is_same_false q p other)) ∙ there) (λ place. sym (cond-false _ _ _ (is_same_false p q (λ same. other (sym same))))))
  ])

  kept_without : (p : Path) (is : CallAnswer) → GoesSo v t (Ends is) came answer → AreHeld v (stored_after s came) (without_path tree p) c
  kept_without p is goes = stays is goes (without_path tree p) c (λ q size blocks there. elim (cases_path q p) [
    | inl same ↦ absurd (none-some (File size blocks) (sym (without_same tree p) ∙ ap (at (without_path tree p)) (sym same) ∙ there))
    | inr other ↦ inl (itself c q size blocks (sym (without_other tree p q other) ∙ there) (λ place. refl))
  ])

  kept_same : (is : CallAnswer) → GoesSo v t (Ends is) came answer → AreHeld v (stored_after s came) tree c
  kept_same is goes = stays is goes tree c (λ q size blocks there. inl (itself c q size blocks there (λ place. refl)))

  kept_moved : (from to : Path) (is : CallAnswer) → place_refusal (at tree) to ≡ None → GoesSo v t (Ends is) came answer → AreHeld v (stored_after s came) (with_moved tree from to) (contents_with (Rename from to) c)
  kept_moved from to is free goes = stays is goes (with_moved tree from to) (contents_with (Rename from to) c) (λ q size blocks there.
      let looked = at_moved tree from to q (is_clear d before tree stood to free) in
      elim (cases_option (below to q)) [
        | inl (x, new) ↦ inl (of_new q size blocks x new (sym (looked ∙ ap (λ o. back (at tree) from o (below from q) q) new) ∙ there))
        | inr not_new ↦ elim (cases_option (below from q)) [
          | inl (y, old) ↦ absurd (none-some (File size blocks) (sym (looked ∙ ap (λ o. back (at tree) from o (below from q) q) not_new ∙ ap (λ o. back (at tree) from None o q) old) ∙ there))
          | inr not_old ↦ inl (itself (contents_with (Rename from to) c) q size blocks (sym (looked ∙ ap (λ o. back (at tree) from o (below from q) q) not_new ∙ ap (λ o. back (at tree) from None o q) not_old) ∙ there) (λ place. ap (λ r. c r place) (sym (moved_apart to from q not_new))))
        ]
      ])
    where
      of_new : (q : Path) (size : ℕ) (blocks : List ℕ) (x : Path) → below to q ≡ Some x → at tree (x ++ from) ≡ Some (File size blocks) → WasThere tree c (contents_with (Rename from to) c) q size blocks
      of_new q size blocks x new there =
          let same : (place : ℕ) → c (x ++ from) place ≡ c (path_moved to from q) place = λ place. ap (λ r. c r place) (sym (moved_below to from q x new)) in
          record {
            p = x ++ from;
            its = size;
            old = blocks;
            there = there;
            low = omega arith;
            same = λ k low. refl;
            bytes = λ place low. same place;
            past = λ place high. sym (same place) ∙ held.past (x ++ from) size blocks there place high;
          }

  -- a fill of a file, which grows to a size or has it
  kept_filled : (after : Tree) (now : Contents) → TablesStandFor d t after → (p : Path) (size to : ℕ) (old : List ℕ) → at tree p ≡ Some (File size old) → IsSized tree after p size to old → size ≤ to → (f : Fill) → f.inode ≡ found t p → f.size ≡ size → f.start + f.count ≤ to
      → ((place : ℕ) → place < to → (place < size) ⊎ (place < f.start + f.count)) → ArePut c now p f to → GoesSo v t (fills v t f (first_of_fill f)) came answer → AreHeld v (stored_after s came) after now
  kept_filled after now stands p size to old there sized up f inode from ends reach node_put goes =
      let grown : HasGrown tree after p size to old sized.blocks = record { was = there; is = sized.is; up = up; same = λ k low. sized.same k low (omega (arith, low, up)); others = sized.others } in
      let alone = λ (k : ℕ) (other : ℕ) (low : k < end_of_fill f) (below : other < end_of_fill f) (from_first : first_of_fill f ≤ k) (from_too : first_of_fill f ≤ other) (same : _). apart v d t tree after stands c now p size to old sized.blocks grown f inode from ends reach node_put k other low below same in
      let filled = (file_filled v t f some alone s came answer held.whole tells goes).1 in
      held_filled v d t tree after stands c now p size to old sized.blocks grown f inode from ends reach node_put s (stored_after s came) held filled.whole filled.each filled.others

  -- a file is cut, or stays
  kept_part : (after : Tree) (now : Contents) (p : Path) (size to : ℕ) (old : List ℕ) → at tree p ≡ Some (File size old) → IsSized tree after p size to old → to ≤ size → ((place : ℕ) → place < to → c p place ≡ now p place) → ((place : ℕ) → to ≤ place → now p place ≡ 0)
      → ((q : Path) → q ≢ p → (place : ℕ) → c q place ≡ now q place) → (is : CallAnswer) → GoesSo v t (Ends is) came answer → AreHeld v (stored_after s came) after now
  kept_part after now p size to old there sized down low_bytes past others is goes = stays is goes after now (λ q its_size its_blocks is_there. elim (cases_path q p) [
    | inr other ↦ inl (itself now q its_size its_blocks (sym (sized.others q other) ∙ is_there) (others q other))
    | inl same ↦ inl (of_it q its_size its_blocks same (sym is_there ∙ ap (at after) same ∙ sized.is))
  ])
    where
      of_it : (q : Path) (its_size : ℕ) (its_blocks : List ℕ) → q ≡ p → ◌≡◌ {A = Option Node} (Some (File its_size its_blocks)) (Some (File to sized.blocks)) → WasThere tree c now q its_size its_blocks
      of_it q its_size its_blocks same one =
          let size_is : its_size ≡ to = ap size_at one in
          let blocks_are : its_blocks ≡ sized.blocks = ap blocks_at one in
          record {
            p = p;
            its = size;
            old = old;
            there = there;
            low = omega (arith, size_is, down);
            same = λ k low. ap (λ bs. get_or bs k 0) blocks_are ∙ sized.same k (omega (arith, low, size_is, down)) (omega (arith, low, size_is));
            bytes = λ place low. low_bytes place (omega (arith, low, size_is)) ∙ ap (λ r. now r place) (sym same);
            past = λ place high. ap (λ r. now r place) same ∙ past place (omega (arith, high, size_is));
          }

  -- a write's bytes
  abbrev put_bytes : (p : Path) (offset byte count : ℕ) → Contents
  put_bytes p offset byte count = contents_with (Write p offset byte count) c

  put_here : (p : Path) (offset byte count place : ℕ) → put_bytes p offset byte count p place ≡ (if is_place_within offset count place then byte else c p place)
  put_here p offset byte count place = cond-true _ _ _ (is_same_true p p refl)

  put_elsewhere : (p : Path) (offset byte count : ℕ) (q : Path) → q ≢ p → (place : ℕ) → put_bytes p offset byte count q place ≡ c q place
  put_elsewhere p offset byte count q other place = cond-false _ _ _ (is_same_false p q (λ same. other (sym same)))

  beside : (p : Path) (offset byte count place : ℕ) → (offset ≤ place → place < offset + count → ⊥) → put_bytes p offset byte count p place ≡ c p place
  beside p offset byte count place none = put_here p offset byte count place ∙ ap (λ (b : Bool). if b then byte else c p place) (not_within offset count place none)

  kept_written : (p : Path) (offset byte count : ℕ) → file_refusal (at tree) p ≡ None → TablesStandFor d t (tree_with d tree (Some (Write p offset byte count)))
      → GoesSo v t (data_moves v t (size_at (at tree p)) (Write p offset byte count)) came answer → AreHeld v (stored_after s came) (tree_with d tree (Some (Write p offset byte count))) (put_bytes p offset byte count)
  kept_written p offset byte count fine stands goes =
      let file = file_at d before tree stood p fine in
      let size = file.0 in
      let size_is : size_at (at tree p) ≡ file.0 = ap size_at file.2 in
      let to : ℕ = written_size (size_at (at tree p)) offset count in
      let sized = sized_so d before tree stood p file.0 (written_size (size_at (at tree p)) offset count) file.1 file.2 in
      let after : Tree = tree_with d tree (Some (Write p offset byte count)) in
      let f : Fill = record { inode = found t p; size = size_at (at tree p); start = offset; byte = byte; count = count } in
      chosen v t came answer (count == 0) (Ends Fine) (fills v t f (first_of_fill f)) goes
      (λ none rest.
      let no_bytes : count ≡ 0 = eqb-true count 0 none in
      let same : written_size (size_at (at tree p)) offset count ≡ size_at (at tree p) = cond-true _ _ _ none in
      kept_part (tree_with d tree (Some (Write p offset byte count))) (put_bytes p offset byte count) p file.0 (written_size (size_at (at tree p)) offset count) file.1 file.2 sized (omega (arith, same, size_is))
      (λ place low. sym (beside p offset byte count place (λ from below. omega (arith, from, below, no_bytes))))
      (λ place high. beside p offset byte count place (λ from below. omega (arith, from, below, no_bytes)) ∙ held.past p file.0 file.1 file.2 place (omega (arith, high, same, size_is)))
      (λ q other place. sym (put_elsewhere p offset byte count q other place)) Fine rest)
      (λ some_bytes rest.
      let grown : written_size (size_at (at tree p)) offset count ≡ max (size_at (at tree p)) (offset + count) = cond-false _ _ _ some_bytes in
      kept_filled (tree_with d tree (Some (Write p offset byte count))) (put_bytes p offset byte count) stands p file.0 (written_size (size_at (at tree p)) offset count) file.1 file.2 sized (omega (arith, grown, size_is)) f refl size_is (omega (arith, grown))
      (λ place low. reach place (omega (arith, low, grown, size_is)))
      (record {
        bytes = λ place low. put_here p offset byte count place;
        past = λ place high. beside p offset byte count place (λ from below. omega (arith, below, high, grown)) ∙ held.past p file.0 file.1 file.2 place (omega (arith, high, grown, size_is));
        others = λ q other place. put_elsewhere p offset byte count q other place;
      }) rest)
    where
      reach : {a b : ℕ} → (place : ℕ) → place < max a b → (place < a) ⊎ (place < b)
      reach {a} {b} place low = elim (cases_lt place a) [
        | inl is ↦ inl is
        | inr not ↦ inr (omega (arith, low, not))
      ]

  -- a truncate's bytes
  abbrev cut_bytes : (p : Path) (to : ℕ) → Contents
  cut_bytes p to = contents_with (Truncate p to) c

  cut_here : (p : Path) (to place : ℕ) → cut_bytes p to p place ≡ (if nat_lt place to then c p place else 0)
  cut_here p to place = cond-true _ _ _ (is_same_true p p refl)

  cut_low : (p : Path) (to place : ℕ) → place < to → cut_bytes p to p place ≡ c p place
  cut_low p to place low = cut_here p to place ∙ ap (λ (b : Bool). if b then c p place else 0) (lt-ltb place to low)

  cut_past : (p : Path) (to place : ℕ) → to ≤ place → cut_bytes p to p place ≡ 0
  cut_past p to place past = cut_here p to place ∙ (elim (cases_Bool (nat_lt place to)) [
    | inl low ↦ let l = ltb-true place to low in absurd (omega (arith, l, past))
    | inr is ↦ ap (λ (b : Bool). if b then c p place else 0) is
  ])

  cut_elsewhere : (p : Path) (to : ℕ) (q : Path) → q ≢ p → (place : ℕ) → cut_bytes p to q place ≡ c q place
  cut_elsewhere p to q other place = cond-false _ _ _ (is_same_false p q (λ same. other (sym same)))

  kept_truncated : (p : Path) (to : ℕ) → file_refusal (at tree) p ≡ None → TablesStandFor d t (tree_with d tree (Some (Truncate p to))) → GoesSo v t (data_moves v t (size_at (at tree p)) (Truncate p to)) came answer
      → AreHeld v (stored_after s came) (tree_with d tree (Some (Truncate p to))) (cut_bytes p to)
  kept_truncated p to fine stands goes =
      let file = file_at d before tree stood p fine in
      let size_is : size_at (at tree p) ≡ file.0 = ap size_at file.2 in
      let sized = sized_so d before tree stood p file.0 to file.1 file.2 in
      let f : Fill = record { inode = found t p; size = size_at (at tree p); start = to; byte = 0; count = 0 } in
      chosen v t came answer (nat_lt (size_at (at tree p)) to) (fills v t f (first_of_fill f)) (Ends Fine) goes
      (λ grows rest.
      let up = ltb-true (size_at (at tree p)) to grows in
      kept_filled (tree_with d tree (Some (Truncate p to))) (cut_bytes p to) stands p file.0 to file.1 file.2 sized (omega (arith, up, size_is)) f refl size_is (omega arith)
      (λ place low. inr (omega (arith, low)))
      (record {
        bytes = λ place low. cut_low p to place low ∙ sym (ap (λ (b : Bool). if b then 0 else c p place) (not_within to 0 place (λ from below. omega (arith, from, below))));
        past = λ place high. cut_past p to place high;
        others = λ q other place. cut_elsewhere p to q other place;
      }) rest)
      (λ down rest.
      let low_size = ltb-false (size_at (at tree p)) to down in
      kept_part (tree_with d tree (Some (Truncate p to))) (cut_bytes p to) p file.0 to file.1 file.2 sized (omega (arith, low_size, size_is))
      (λ place low. sym (cut_low p to place low)) (cut_past p to) (λ q other place. sym (cut_elsewhere p to q other place)) Fine rest)

  pub kept : (call : FileCall) → refusal (tree_sight d tree) call ≡ None → TablesStandFor d t (tree_with d tree (Some call)) → GoesSo v t (data_moves v t (size_at (at tree (file_of_call call))) call) came answer
      → AreHeld v (stored_after s came) (tree_with d tree (Some call)) (contents_with call c)
  kept (Mkdir p) fine stands goes = kept_made p Fine goes
  kept (Create p) fine stands goes = kept_created p Fine goes
  kept (Unlink p) fine stands goes = kept_without p Fine goes
  kept (Rmdir p) fine stands goes = kept_without p Fine goes
  kept (Stat p) fine stands goes = kept_same _ goes
  kept (Lists p) fine stands goes = kept_same _ goes
  kept (Rename from to) fine stands goes =
      let a = first_none (walk_refusal (at tree) from) _ fine in
      let b = first_none (when 89 (has_rest (below from to))) _ a.1 in
      kept_moved from to Fine b.1 goes
  kept (Write p offset byte count) fine stands goes = kept_written p offset byte count (first_none (file_refusal (at tree) p) _ fine).0 stands goes
  kept (Truncate p to) fine stands goes = kept_truncated p to (first_none (file_refusal (at tree) p) _ fine).0 stands goes
  kept (Read p offset count) fine stands goes =
      let file = file_at d before tree stood p fine in
      let size_is : size_at (at tree p) ≡ file.0 = ap size_at file.2 in
      let same = (read_gives v d t tree s c stands held p file.0 file.1 file.2 offset count came answer tells (subst (λ n. GoesSo v t (data_moves v t n (Read p offset count)) came answer) size_is goes)).1 in
      subst (λ (x : Stored). AreHeld v x tree c) (sym same) held
