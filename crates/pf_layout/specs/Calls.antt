-- Calls with their paths read.
use Rattle.std.specs.Prelude.{◌≡◌, ◌≢◌, ℕ, List, [], Result, Ok, Err}
use Rattle.pf_base.specs.declared.calls.Call.{Call}
use Rattle.pf_base.specs.declared.calls.Call.TheVariants as calls
use Rattle.pf_tree_tables.specs.Names.{Path}
use Rattle.pf_tree.specs.Calls.{FileCall}
use Rattle.pf_tree.specs.Paths.{path_bytes}
use Rattle.pf_layout.specs.declared.faults.PathFault.{PathFault}
use Rattle.pf_layout.specs.declared.faults.PathFault.TheVariants.{NoMemory, BadName}
use Rattle.pf_layout.specs.Paths.{IsPath}

-- the word spells the path
abbrev pub SpellsPath : (word : List ℕ) → Path → Type 0
SpellsPath word path = IsPath path × (path_bytes path ≡ word)

-- it spells a path that is not `/`, as those are that a call removes or renames
abbrev pub SpellsPlace : (word : List ℕ) → Path → Type 0
SpellsPlace word path = SpellsPath word path × (path ≢ [])

-- the second call is the first one with its paths read
abbrev pub IsReadAs : Call (List ℕ) → FileCall → Type 0
IsReadAs (calls.Mkdir w) (calls.Mkdir p) = SpellsPath w p
IsReadAs (calls.Create w) (calls.Create p) = SpellsPath w p
IsReadAs (calls.Write w at byte count) (calls.Write p offset value many) = SpellsPath w p × (at ≡ offset) × (byte ≡ value) × (count ≡ many)
IsReadAs (calls.Read w at count) (calls.Read p offset many) = SpellsPath w p × (at ≡ offset) × (count ≡ many)
IsReadAs (calls.Truncate w size) (calls.Truncate p to) = SpellsPath w p × (size ≡ to)
IsReadAs (calls.Rename from to) (calls.Rename p q) = SpellsPlace from p × SpellsPlace to q
IsReadAs (calls.Unlink w) (calls.Unlink p) = SpellsPath w p
IsReadAs (calls.Rmdir w) (calls.Rmdir p) = SpellsPlace w p
IsReadAs (calls.Stat w) (calls.Stat p) = SpellsPath w p
IsReadAs (calls.List w) (calls.List p) = SpellsPath w p
IsReadAs words_call paths_call = ⊥

-- a word is read as the place that it spells, and refused exactly where it spells none
abbrev pub ReadsPlace : List ℕ → Result Path PathFault → Type 0
ReadsPlace word (Ok path) = SpellsPlace word path
ReadsPlace word (Err BadName) = (path : Path) → SpellsPlace word path → ⊥
ReadsPlace word (Err NoMemory) = Unit {0}

-- a call is read with the paths that its words spell, and refused exactly where a word of it spells none
abbrev pub ReadsCall : Call (List ℕ) → Result FileCall PathFault → Type 0
ReadsCall call (Ok file) = IsReadAs call file
ReadsCall call (Err BadName) = (file : FileCall) → IsReadAs call file → ⊥
ReadsCall call (Err NoMemory) = Unit {0}
