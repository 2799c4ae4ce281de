-- Steps of file data, as the code takes them.
use Rattle.std.proofs.Common.{◌≡◌, ℕ, suc, ◌+◌, ◌<◌, true, if◌then◌else◌, List, Result, Ok, Err, IfOk, replicate, sym, ap, ◌∙◌, add-one, arith}
use Rattle.std.proofs.lemmas.Bool.{lt-ltb, ne_eqb}
use Rattle.pf_volume.specs.Volumes.{Extent}
use Rattle.pf_base.specs.declared.calls.Call.TheVariants.{Write, Truncate}
use Rattle.pf_tree_tables.specs.Names.{Path}
use Rattle.pf_tree_tables.specs.Tables.{Tables}
use Rattle.pf_tree.specs.Plans.{found}
use Rattle.pf_file_calls.specs.declared.answers.CallAnswer.TheVariants.{Fine}
use Rattle.pf_file_calls.specs.declared.filling.Fill.{Fill}
use Rattle.pf_file_calls.specs.declared.moving.Moved.TheVariants.{Asks, Ends}
use Rattle.pf_file_calls.specs.declared.moving.DataMoving.TheVariants.{Fetches}
use Rattle.pf_file_calls.specs.Blocks.{reads_block}
use Rattle.pf_file_calls.specs.Filling.{first_of_fill, is_new}
use Rattle.pf_file_calls.specs.Moving.{stores, fills_block, fills, fills_file, gathers, data_moves}

-- what is equal to one thing is equal to another
pub ok_along : {A E : Type 0} (result : Result A E) (x y : A) → x ≡ y → IfOk result (λ a. a ≡ x) → IfOk result (λ a. a ≡ y)
ok_along (Ok a) x y e is = is ∙ e
ok_along (Err f) x y e is = tt

pub fills_new : (v : Extent) (block : ℕ) (f : Fill) (index : ℕ) (bytes : List ℕ) → bytes ≡ replicate 4096 0 → is_new f index ≡ true → stores v block f index bytes ≡ fills_block v block f index
fills_new v block f index bytes zeros new =
    ap (λ b. stores v block f index b) zeros
    ∙ sym (ap (λ b. if b then stores v block f index (replicate 4096 0) else Asks (reads_block v block) (Fetches f index)) new)

pub fills_first : (v : Extent) (t : Tables) (f : Fill) (first : ℕ) → first ≡ first_of_fill f → fills v t f first ≡ fills_file v t f
fills_first v t f first is = ap (λ n. fills v t f n) is

pub fills_more : (v : Extent) (t : Tables) (f : Fill) (index : ℕ) → fills v t f (index + 1) ≡ fills v t f (suc index)
fills_more v t f index = ap (λ n. fills v t f n) (add-one index)

pub gathers_more : (v : Extent) (t : Tables) (inode offset to index : ℕ) (bytes : List ℕ) → gathers v t inode offset to (index + 1) bytes ≡ gathers v t inode offset to (suc index) bytes
gathers_more v t inode offset to index bytes = ap (λ n. gathers v t inode offset to n bytes) (add-one index)

-- a write of some bytes, and a truncate that grows
pub write_moves : (v : Extent) (t : Tables) (size : ℕ) (p : Path) (offset byte count inode : ℕ) → 0 < count → inode ≡ found t p → fills_file v t (record { inode = inode; size = size; start = offset; byte = byte; count = count }) ≡ data_moves v t size (Write p offset byte count)
write_moves v t size p offset byte count inode some is =
    ap (λ i. fills_file v t (record { inode = i; size = size; start = offset; byte = byte; count = count })) is
    ∙ sym (ap (λ b. if b then Ends Fine else fills_file v t (record { inode = found t p; size = size; start = offset; byte = byte; count = count })) (ne_eqb count 0 (λ e. omega (arith, e, some))))

pub truncate_moves : (v : Extent) (t : Tables) (size : ℕ) (p : Path) (to inode : ℕ) → size < to → inode ≡ found t p → fills_file v t (record { inode = inode; size = size; start = to; byte = 0; count = 0 }) ≡ data_moves v t size (Truncate p to)
truncate_moves v t size p to inode grows is =
    ap (λ i. fills_file v t (record { inode = i; size = size; start = to; byte = 0; count = 0 })) is
    ∙ sym (ap (λ b. if b then fills_file v t (record { inode = found t p; size = size; start = to; byte = 0; count = 0 }) else Ends Fine) (lt-ltb _ _ grows))
