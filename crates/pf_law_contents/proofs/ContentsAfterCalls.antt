-- What is in files after a call, and where it is stored.
use Rattle.std.proofs.Common.{◌≡◌, ◌≢◌, ◌⊎◌, inl, inr, ℕ, zero, suc, ◌+◌, ◌-◌, ◌*◌, ◌/◌, ◌%◌, ◌<◌, ◌≤◌, Bool, true, false, if◌then◌else◌, replicate, List, [], ◌∷◌, length, get_or, Some, arith, sym, ap, ◌∙◌}
use Rattle.std.proofs.lemmas.Bool.Decides.{nat_tests}
use Rattle.std.proofs.lemmas.Bool.{cases_Bool, cases_lt, true≢false}
use Rattle.pf_volume.specs.Volumes.{Extent}
use Rattle.pf_tree_tables.specs.Names.{Path}
use Rattle.pf_tree_tables.specs.Tables.{Tables}
use Rattle.pf_tree.specs.Plans.{found}
use Rattle.pf_tree.specs.Standing.{TablesStandFor}
use Rattle.pf_tree.specs.Trees.{Data, File, Tree, at, block_count, blocks_at, size_at}
use Rattle.pf_tree.proofs.Paths.{cases_path}
use Rattle.pf_file_calls.specs.Filling.{end_of_fill, filled_block, filled_byte, filled_from, first_of_fill, is_new, is_place_within}
use Rattle.pf_file_calls.specs.Moving.{block_at}
use Rattle.pf_file_calls.specs.declared.filling.Fill.{Fill}
use Rattle.pf_law_contents.specs.Contents.{Contents}
use Rattle.pf_law_contents.specs.Stored.{AreHeld, Stored, block_bytes, byte_at}
use Rattle.pf_law_contents.proofs.Files.{IsFile, file_there, its_block, one_index}

-- Where no data are written, the files of a tree are those of another one, or parts of them, or empty

pub record WasThere (tree : Tree) (c now : Contents) (q : Path) (size : ℕ) (blocks : List ℕ) : Type 0 where
  pub p : Path
  pub its : ℕ
  pub old : List ℕ
  pub there : at tree p ≡ Some (File its old)
  pub low : size ≤ its
  pub same : (k : ℕ) → k < block_count size → get_or blocks k 0 ≡ get_or old k 0
  pub bytes : (place : ℕ) → place < size → c p place ≡ now q place
  pub past : (place : ℕ) → size ≤ place → now q place ≡ 0

pub record IsEmpty (now : Contents) (q : Path) (size : ℕ) : Type 0 where
  pub none : size ≡ 0
  pub zeros : (place : ℕ) → now q place ≡ 0

pub held_on : (v : Extent) (s : Stored) (tree after : Tree) (c now : Contents) → AreHeld v s tree c → ((q : Path) (size : ℕ) (blocks : List ℕ) → at after q ≡ Some (File size blocks) → WasThere tree c now q size blocks ⊎ IsEmpty now q size) → AreHeld v s after now
held_on v s tree after c now held each = record {
  whole = held.whole;
  bytes = λ q size blocks is place low. elim (each q size blocks is) [
    | inl was ↦
        ap (λ b. get_or (block_bytes v s b) (place % 4096) 0) (was.same (place / 4096) (omega (arith, low)))
        ∙ held.bytes was.p was.its was.old was.there place (let up = was.low in omega (arith, low, up))
        ∙ was.bytes place low
    | inr empty ↦ let none = empty.none in absurd (omega (arith, low, none))
  ];
  past = λ q size blocks is place high. elim (each q size blocks is) [
    | inl was ↦ was.past place high
    | inr empty ↦ empty.zeros place
  ];
}

-- One byte

within_parts : (first count place : ℕ) → is_place_within first count place ≡ true → (first ≤ place) × (place < first + count)
within_parts first count place is = (grind (arith, nat_tests, is), grind (arith, nat_tests, is))

within_from : (first count place : ℕ) → first ≤ place → place < first + count → is_place_within first count place ≡ true
within_from first count place low high = grind (arith, nat_tests, low, high)

pub not_within : (first count place : ℕ) → (first ≤ place → place < first + count → ⊥) → is_place_within first count place ≡ false
not_within first count place none = elim (cases_Bool (is_place_within first count place)) [
  | inl is ↦ let p = within_parts first count place is in absurd (none p.0 p.1)
  | inr is ↦ is
]

filled_is : (f : Fill) (place old its : ℕ) → (place < f.size → old ≡ its) → (f.size ≤ place → its ≡ 0) → (place < f.size) ⊎ (place < f.start + f.count) → filled_byte f place old ≡ (if is_place_within f.start f.count place then f.byte else its)
filled_is f place old its before past reach = elim (cases_Bool (is_place_within f.start f.count place)) [
  | inl put ↦
      ap (λ (b : Bool). if b then f.byte else if is_place_within f.size (f.start - f.size) place then 0 else old) put
      ∙ sym (ap (λ (b : Bool). if b then f.byte else its) put)
  | inr beside ↦
      ap (λ (b : Bool). if b then f.byte else if is_place_within f.size (f.start - f.size) place then 0 else old) beside
      ∙ gap beside
      ∙ sym (ap (λ (b : Bool). if b then f.byte else its) beside)
]
  where
    gap : is_place_within f.start f.count place ≡ false → (if is_place_within f.size (f.start - f.size) place then 0 else old) ≡ its
    gap beside = elim (cases_Bool (is_place_within f.size (f.start - f.size) place)) [
      | inl in_gap ↦
          let p = within_parts f.size (f.start - f.size) place in_gap in
          ap (λ (b : Bool). if b then 0 else old) in_gap ∙ sym (past p.0)
      | inr no_gap ↦
          ap (λ (b : Bool). if b then 0 else old) no_gap
          ∙ (elim (cases_lt place f.size) [
            | inl inside ↦ before inside
            | inr outside ↦ elim reach [
              | inl inside ↦ absurd (omega (arith, inside, outside))
              | inr below ↦ elim (cases_lt place f.start) [
                | inl low ↦ absurd (true≢false (sym (within_from f.size (f.start - f.size) place (omega (arith, outside)) (omega (arith, low, outside))) ∙ no_gap))
                | inr high ↦ absurd (true≢false (sym (within_from f.start f.count place (omega (arith, high)) below) ∙ beside))
              ]
            ]
          ])
    ]

get_filled : (f : Fill) (place : ℕ) (bytes : List ℕ) (i : ℕ) → i < length bytes → get_or (filled_from f place bytes) i 0 ≡ filled_byte f (place + i) (get_or bytes i 0)
get_filled f place [] i low = absurd (omega (arith, low))
get_filled f place (b ∷ bytes) zero low = let same : place ≡ place + 0 = omega arith in ap (λ n. filled_byte f n b) same
get_filled f place (b ∷ bytes) (suc i) low =
    let same : suc place + i ≡ place + suc i = omega arith in
    get_filled f (suc place) bytes i (omega (arith, low)) ∙ ap (λ n. filled_byte f n (get_or bytes i 0)) same

-- A file is filled

-- the file has grown from one size to another, or has the same; of the tree nothing else has changed
pub record HasGrown (tree after : Tree) (p : Path) (size to : ℕ) (old blocks : List ℕ) : Type 0 where
  pub was : at tree p ≡ Some (File size old)
  pub is : at after p ≡ Some (File to blocks)
  pub up : size ≤ to
  pub same : (k : ℕ) → k < block_count size → get_or blocks k 0 ≡ get_or old k 0
  pub others : (q : Path) → q ≢ p → at after q ≡ at tree q

-- its bytes are the old ones and those of the fill, and no other file's change
pub record ArePut (c now : Contents) (p : Path) (f : Fill) (to : ℕ) : Type 0 where
  pub bytes : (place : ℕ) → place < to → now p place ≡ (if is_place_within f.start f.count place then f.byte else c p place)
  pub past : (place : ℕ) → to ≤ place → now p place ≡ 0
  pub others : (q : Path) → q ≢ p → (place : ℕ) → now q place ≡ c q place

module _ (v : Extent) (d : Data) (t : Tables) (tree after : Tree) (stands : TablesStandFor d t after) (c now : Contents) (p : Path) (size to : ℕ) (old blocks : List ℕ) (grown : HasGrown tree after p size to old blocks) (f : Fill) (inode : f.inode ≡ found t p) (from : f.size ≡ size)
    (ends : f.start + f.count ≤ to) (reach : (place : ℕ) → place < to → (place < size) ⊎ (place < f.start + f.count)) (put : ArePut c now p f to) where
  its : IsFile t p to blocks
  its = file_there d t after stands p to blocks grown.is

  pub within_file : (k : ℕ) → k < end_of_fill f → k < block_count to
  within_file k low = omega (arith, low, ends)

  -- blocks of one index alone
  pub apart : (k other : ℕ) → k < end_of_fill f → other < end_of_fill f → block_at t f.inode k ≡ block_at t f.inode other → k ≡ other
  apart k other low below same =
      let here : block_at t (found t p) k ≡ block_at t (found t p) other = ap (λ i. block_at t i k) (sym inode) ∙ same ∙ ap (λ i. block_at t i other) inode in
      (one_index d t after stands p p to to blocks blocks k other its its (within_file k low) (within_file other below) here).1

  module _ (s stored : Stored) (held : AreHeld v s tree c) (whole : (block : ℕ) → length (block_bytes v stored block) ≡ 4096)
      (each : (k : ℕ) → first_of_fill f ≤ k → k < end_of_fill f → block_bytes v stored (block_at t f.inode k) ≡ filled_block f k (if is_new f k then replicate 4096 0 else block_bytes v s (block_at t f.inode k)))
      (rest : (b : ℕ) → ((k : ℕ) → first_of_fill f ≤ k → k < end_of_fill f → b ≡ block_at t f.inode k → ⊥) → block_bytes v stored b ≡ block_bytes v s b) where
    -- the block at a place of the file
    here : (place : ℕ) → place < to → get_or blocks (place / 4096) 0 ≡ block_at t f.inode (place / 4096)
    here place low = its_block d t after stands p to blocks its (place / 4096) (omega (arith, low)) ∙ ap (λ i. block_at t i (place / 4096)) (sym inode)

    -- a byte that was there
    was_held : (place : ℕ) → place < size → get_or (block_bytes v s (get_or blocks (place / 4096) 0)) (place % 4096) 0 ≡ c p place
    was_held place low =
        ap (λ b. get_or (block_bytes v s b) (place % 4096) 0) (grown.same (place / 4096) (omega (arith, low)))
        ∙ held.bytes p size old grown.was place low

    -- a place in a block that is not touched
    untouched : (place : ℕ) → place < to → ((place / 4096 < first_of_fill f) ⊎ (end_of_fill f ≤ place / 4096)) → byte_at v stored blocks place ≡ now p place
    untouched place low beside =
        let same : block_bytes v stored (block_at t f.inode (place / 4096)) ≡ block_bytes v s (block_at t f.inode (place / 4096)) =
        rest (block_at t f.inode (place / 4096)) (λ k above below is.
        let file : place / 4096 < block_count to = omega (arith, low) in
        let as_found : block_at t (found t p) (place / 4096) ≡ block_at t (found t p) k = ap (λ i. block_at t i (place / 4096)) (sym inode) ∙ is ∙ ap (λ i. block_at t i k) inode in
        let one = (one_index d t after stands p p to to blocks blocks (place / 4096) k its its file (within_file k below) as_found).1 in
        elim beside [
          | inl before ↦ omega (arith, before, above, one)
          | inr behind ↦ omega (arith, behind, below, one)
        ]) in
        ap (λ b. get_or (block_bytes v stored b) (place % 4096) 0) (here place low)
        ∙ ap (λ bs. get_or bs (place % 4096) 0) same
        ∙ ap (λ b. get_or (block_bytes v s b) (place % 4096) 0) (sym (here place low))
        ∙ was_held place (inside beside)
        ∙ sym (put.bytes place low ∙ ap (λ (b : Bool). if b then f.byte else c p place) (not_within f.start f.count place (beyond beside)))
      where
        inside : (place / 4096 < first_of_fill f) ⊎ (end_of_fill f ≤ place / 4096) → place < size
        inside (inl before) = omega (arith, before, from)
        inside (inr behind) = elim (reach place low) [
          | inl is ↦ is
          | inr is ↦ absurd (omega (arith, is, behind))
        ]

        beyond : (place / 4096 < first_of_fill f) ⊎ (end_of_fill f ≤ place / 4096) → f.start ≤ place → place < f.start + f.count → ⊥
        beyond (inl before) low high = omega (arith, before, low)
        beyond (inr behind) low high = omega (arith, behind, high)

    -- the old byte, as a fill takes it
    old_byte : (place : ℕ) → place < to → place < size → get_or (if is_new f (place / 4096) then replicate 4096 0 else block_bytes v s (block_at t f.inode (place / 4096))) (place % 4096) 0 ≡ c p place
    old_byte place low inside = elim (cases_Bool (is_new f (place / 4096))) [
      | inl new ↦
          let high : block_count f.size ≤ place / 4096 = grind (arith, nat_tests, new) in
          absurd (omega (arith, high, inside, from))
      | inr kept ↦
          ap (λ (b : Bool). get_or (if b then replicate 4096 0 else block_bytes v s (block_at t f.inode (place / 4096))) (place % 4096) 0) kept
          ∙ ap (λ b. get_or (block_bytes v s b) (place % 4096) 0) (sym (here place low))
          ∙ was_held place inside
    ]

    old_length : (k : ℕ) → length (if is_new f k then replicate 4096 0 else block_bytes v s (block_at t f.inode k)) ≡ 4096
    old_length k = elim (cases_Bool (is_new f k)) [
      | inl new ↦ ap (λ (b : Bool). length (if b then replicate 4096 0 else block_bytes v s (block_at t f.inode k))) new
      | inr kept ↦ ap (λ (b : Bool). length (if b then replicate 4096 0 else block_bytes v s (block_at t f.inode k))) kept ∙ held.whole (block_at t f.inode k)
    ]

    touched : (place : ℕ) → place < to → first_of_fill f ≤ place / 4096 → place / 4096 < end_of_fill f → byte_at v stored blocks place ≡ now p place
    touched place low above below =
        let k = place / 4096 in
        let olds : List ℕ = if is_new f (place / 4096) then replicate 4096 0 else block_bytes v s (block_at t f.inode (place / 4096)) in
        let size_is = old_length (place / 4096) in
        let low_byte : place % 4096 < length (if is_new f (place / 4096) then replicate 4096 0 else block_bytes v s (block_at t f.inode (place / 4096))) = omega (arith, size_is) in
        let same : 4096 * (place / 4096) + place % 4096 ≡ place = omega arith in
        ap (λ b. get_or (block_bytes v stored b) (place % 4096) 0) (here place low)
        ∙ ap (λ bs. get_or bs (place % 4096) 0) (each (place / 4096) above below)
        ∙ get_filled f (4096 * (place / 4096)) (if is_new f (place / 4096) then replicate 4096 0 else block_bytes v s (block_at t f.inode (place / 4096))) (place % 4096) low_byte
        ∙ ap (λ n. filled_byte f n (get_or (if is_new f (place / 4096) then replicate 4096 0 else block_bytes v s (block_at t f.inode (place / 4096))) (place % 4096) 0)) same
        ∙ filled_is f place (get_or (if is_new f (place / 4096) then replicate 4096 0 else block_bytes v s (block_at t f.inode (place / 4096))) (place % 4096) 0) (c p place)
        (λ inside. old_byte place low (omega (arith, inside, from)))
        (λ outside. held.past p size old grown.was place (omega (arith, outside, from)))
        (reaches place low)
        ∙ sym (put.bytes place low)
      where
        reaches : (place : ℕ) → place < to → (place < f.size) ⊎ (place < f.start + f.count)
        reaches place low = elim (reach place low) [
          | inl inside ↦ inl (omega (arith, inside, from))
          | inr below ↦ inr below
        ]

    of_file : (place : ℕ) → place < to → byte_at v stored blocks place ≡ now p place
    of_file place low = elim (cases_lt (place / 4096) (first_of_fill f)) [
      | inl before ↦ untouched place low (inl before)
      | inr above ↦ elim (cases_lt (place / 4096) (end_of_fill f)) [
        | inl below ↦ touched place low (omega (arith, above)) below
        | inr behind ↦ untouched place low (inr (omega (arith, behind)))
      ]
    ]

    -- another file's blocks are not touched
    of_other : (q : Path) (its_size : ℕ) (its_blocks : List ℕ) → q ≢ p → at after q ≡ Some (File its_size its_blocks) → (place : ℕ) → place < its_size → byte_at v stored its_blocks place ≡ now q place
    of_other q its_size its_blocks other is place low =
        let g = file_there d t after stands q its_size its_blocks is in
        let k_low : place / 4096 < block_count its_size = omega (arith, low) in
        let block = its_block d t after stands q its_size its_blocks g (place / 4096) k_low in
        let same : block_bytes v stored (block_at t (found t q) (place / 4096)) ≡ block_bytes v s (block_at t (found t q) (place / 4096)) =
        rest (block_at t (found t q) (place / 4096)) (λ k above below one.
        other (one_index d t after stands q p its_size to its_blocks blocks (place / 4096) k g its k_low (within_file k below) (one ∙ ap (λ i. block_at t i k) inode)).0) in
        ap (λ b. get_or (block_bytes v stored b) (place % 4096) 0) block
        ∙ ap (λ bs. get_or bs (place % 4096) 0) same
        ∙ ap (λ b. get_or (block_bytes v s b) (place % 4096) 0) (sym block)
        ∙ held.bytes q its_size its_blocks (sym (grown.others q other) ∙ is) place low
        ∙ sym (put.others q other place)

    -- the size and the blocks at the path
    file_is : (q : Path) (its_size : ℕ) (its_blocks : List ℕ) → q ≡ p → at after q ≡ Some (File its_size its_blocks) → (its_size ≡ to) × (its_blocks ≡ blocks)
    file_is q its_size its_blocks same is =
        let one = sym is ∙ ap (at after) same ∙ grown.is in
        (ap size_at one, ap blocks_at one)

    pub held_filled : AreHeld v stored after now
    held_filled = record {
      whole = whole;
      bytes = λ q its_size its_blocks is place low. elim (cases_path q p) [
        | inl same ↦
            let e = file_is q its_size its_blocks same is in
            ap (λ bs. byte_at v stored bs place) e.1 ∙ of_file place (let z = e.0 in omega (arith, low, z)) ∙ ap (λ r. now r place) (sym same)
        | inr other ↦ of_other q its_size its_blocks other is place low
      ];
      past = λ q its_size its_blocks is place high. elim (cases_path q p) [
        | inl same ↦ let e = file_is q its_size its_blocks same is in ap (λ r. now r place) same ∙ put.past place (let z = e.0 in omega (arith, high, z))
        | inr other ↦ put.others q other place ∙ held.past q its_size its_blocks (sym (grown.others q other) ∙ is) place high
      ];
    }
