-- What is in files: of each path the byte at each place of its file, and zeros past its end.
use Rattle.std.specs.Prelude.{ℕ, ◌-◌, cond, nat_lt, if◌then◌else◌, List, map}
use Rattle.std.specs.List.{fold, range_with_len}
use Rattle.pf_tree_tables.specs.Names.{Path}
use Rattle.pf_tree.specs.Paths.{is_same}
use Rattle.pf_tree.specs.Trees.{path_moved}
use Rattle.pf_tree.specs.Calls.{FileCall}
use Rattle.pf_base.specs.declared.calls.Call.TheVariants.{Mkdir, Create, Write, Read, Truncate, Rename, Unlink, Rmdir, Stat, List as Lists}
use Rattle.pf_file_calls.specs.Filling.{is_place_within}

abbrev pub Contents : Type 0
Contents = Path → (place : ℕ) → ℕ

-- a new volume has no file
abbrev pub no_contents : Contents
no_contents p place = 0

-- other bytes in the file at a path
abbrev pub put_in : Contents → Path → (ℕ → ℕ) → Contents
put_in c p bytes q place = cond (is_same p q) (bytes place) (c q place)

-- After a call that is not refused. A new file is empty. A write puts its bytes at their places, and what lies between the old end and the first of
-- them is zeros. A truncate cuts, or adds zeros. A renamed file, and all below a renamed directory, keep their bytes. No other call changes any
abbrev pub contents_with : FileCall → Contents → Contents
contents_with (Create p) c = put_in c p (λ place. 0)
contents_with (Write p offset byte count) c = put_in c p (λ place. if is_place_within offset count place then byte else c p place)
contents_with (Truncate p size) c = put_in c p (λ place. if nat_lt place size then c p place else 0)
contents_with (Rename from to) c = λ q. c (path_moved to from q)
contents_with (Mkdir p) c = c
contents_with (Unlink p) c = c
contents_with (Rmdir p) c = c
contents_with (Read p offset count) c = c
contents_with (Stat p) c = c
contents_with (Lists p) c = c

-- after calls that were not refused, one after another, on a new volume
abbrev pub contents_after : List FileCall → Contents
contents_after calls = fold (λ c call. contents_with call c) no_contents calls

-- the bytes of a file from one place up to another
abbrev pub bytes_between : Contents → Path → (offset to : ℕ) → List ℕ
bytes_between c p offset to = map (c p) (range_with_len offset (to - offset))
