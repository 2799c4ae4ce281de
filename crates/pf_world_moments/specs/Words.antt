-- The call that words make, as a function of them.
use Rattle.std.specs.Prelude.{ℕ, Bool, not, ◌&&◌, ◌==◌, nat_le, if◌then◌else◌, List, [], ◌∷◌, ◌++◌, length, codes, Option, Some, None}
use Rattle.std.specs.List.{list_all}
use Rattle.std.specs.Option.{option_map}
use Rattle.std.specs.Str.{bytes_eq}
use Rattle.pf_base.specs.declared.calls.Call.{Call}
use Rattle.pf_base.specs.declared.calls.Call.TheVariants as calls
use Rattle.pf_tree_tables.specs.Names.{Name, Path}
use Rattle.pf_tree.specs.Calls.{FileCall}
use Rattle.pf_tree.specs.Paths.{path_bytes}
use Rattle.pf_layout.specs.Paths.{is_name_byte}

-- 1 to 24 bytes of those that a name may have, and neither `.` nor `..`
abbrev pub is_name : Name → Bool
is_name name =
    nat_le 1 (length name) && nat_le (length name) 24 && list_all is_name_byte name && not (bytes_eq name (codes ".")) && not (bytes_eq name (codes ".."))

-- at most 16 names, and 255 bytes
abbrev pub is_path : Path → Bool
is_path path = nat_le (length path) 16 && list_all is_name path && nat_le (length (path_bytes path)) 255

-- one byte more of the last name
abbrev pub longer_by : (byte : ℕ) → Path → Path
longer_by byte [] = []
longer_by byte (name ∷ names) = (name ++ byte ∷ []) ∷ names

-- a word is split at its slashes, each of which begins a name
abbrev pub split_on : (names : Path) → (word : List ℕ) → Path
split_on names [] = names
split_on names (byte ∷ word) = split_on (if byte == 47 then [] ∷ names else longer_by byte names) word

abbrev pub spelled_by : (word : List ℕ) → Path → Option Path
spelled_by word path = if is_path path && bytes_eq (path_bytes path) word then Some path else None

-- the path that the word spells, if it spells one: the root is `/` alone
abbrev pub path_in : (word : List ℕ) → Option Path
path_in word = if bytes_eq word (path_bytes []) then Some [] else spelled_by word (split_on [] word)

abbrev pub path_placed : Option Path → Option Path
path_placed None = None
path_placed (Some []) = None
path_placed (Some (name ∷ path)) = Some (name ∷ path)

-- the path that it spells, where that is not `/`
abbrev pub place_in : (word : List ℕ) → Option Path
place_in word = path_placed (path_in word)

abbrev pub renaming : (from to : Option Path) → Option FileCall
renaming None to = None
renaming (Some from) to = option_map (λ q. calls.Rename from q) to

-- the call with its paths read, where each of its words spells one that it may have
abbrev pub read_call : Call (List ℕ) → Option FileCall
read_call (calls.Mkdir word) = option_map (λ p. calls.Mkdir p) (path_in word)
read_call (calls.Create word) = option_map (λ p. calls.Create p) (path_in word)
read_call (calls.Write word offset byte count) = option_map (λ p. calls.Write p offset byte count) (path_in word)
read_call (calls.Read word offset count) = option_map (λ p. calls.Read p offset count) (path_in word)
read_call (calls.Truncate word size) = option_map (λ p. calls.Truncate p size) (path_in word)
read_call (calls.Rename from to) = renaming (place_in from) (place_in to)
read_call (calls.Unlink word) = option_map (λ p. calls.Unlink p) (path_in word)
read_call (calls.Rmdir word) = option_map (λ p. calls.Rmdir p) (place_in word)
read_call (calls.Stat word) = option_map (λ p. calls.Stat p) (path_in word)
read_call (calls.List word) = option_map (λ p. calls.List p) (path_in word)
