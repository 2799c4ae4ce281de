-- What a write, or a truncate that grows a file, does to the bytes of the file, block by block; and which bytes a read gives.
use Rattle.std.specs.Prelude.{ℕ, suc, ◌+◌, ◌-◌, ◌*◌, ◌/◌, ◌%◌, Bool, ◌&&◌, nat_lt, nat_le, min, if◌then◌else◌, List, [], ◌∷◌, take, drop}
use Rattle.pf_tree.specs.Trees.{block_count}
use Rattle.pf_file_calls.specs.declared.filling.Fill.{Fill}

-- From the old size up to the start the bytes of a fill become zeros, then come so many bytes of one value. A truncate that grows
-- starts at the new size and has none

abbrev pub is_place_within : (first count place : ℕ) → Bool
is_place_within first count place = nat_le first place && nat_lt place (first + count)

-- the byte at this place of the file
abbrev pub filled_byte : Fill → (place old : ℕ) → ℕ
filled_byte f place old =
    if is_place_within f.start f.count place then f.byte
    else if is_place_within f.size (f.start - f.size) place then 0
    else old

abbrev pub filled_from : Fill → (place : ℕ) → List ℕ → List ℕ
filled_from f place [] = []
filled_from f place (old ∷ olds) = filled_byte f place old ∷ filled_from f (suc place) olds

-- the bytes of the block of this index
abbrev pub filled_block : Fill → (index : ℕ) → List ℕ → List ℕ
filled_block f index bytes = filled_from f (4096 * index) bytes

-- it touches the blocks from one index on and before another
abbrev pub first_of_fill : Fill → ℕ
first_of_fill f = min f.size f.start / 4096

abbrev pub end_of_fill : Fill → ℕ
end_of_fill f = block_count (f.start + f.count)

-- the file did not have the block of this index before
abbrev pub is_new : Fill → (index : ℕ) → Bool
is_new f index = nat_le (block_count f.size) index

-- a read of so many bytes ends at the file's end
abbrev pub read_end : (size offset count : ℕ) → ℕ
read_end size offset count = min size (offset + count)

-- what a read gives, of the bytes of the blocks that hold what is wanted
abbrev pub bytes_wanted : (offset to : ℕ) → List ℕ → List ℕ
bytes_wanted offset to bytes = take (to - offset) (drop (offset % 4096) bytes)
