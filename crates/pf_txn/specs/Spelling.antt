-- The bytes of a transaction, numbers with the highest byte first.
use Rattle.std.specs.Prelude.{◌≡◌, ℕ, ◌≤◌, List, [], ◌∷◌, ◌++◌, length}
use Rattle.std.specs.Int.{w16, w32, to_be_bytes}
use Rattle.pf_tree_tables.specs.declared.changes.Change.{Change}
use Rattle.pf_tree_tables.specs.declared.changes.Change.TheVariants.{SetInode, AddEntry, DeleteEntry, SetTag}
use Rattle.pf_tree_tables.specs.declared.changes.Txn.{Txn}
use Rattle.pf_tree.specs.Calls.{FileCall}
use Rattle.pf_base.specs.declared.calls.Call.TheVariants.{Mkdir, Create, Rename, Unlink, Rmdir}

abbrev pub two : ℕ → List ℕ
two n = to_be_bytes w16 n

abbrev pub four : ℕ → List ℕ
four n = to_be_bytes w32 n

abbrev pub spell_change : Change → List ℕ
spell_change (SetInode i kind size) = 1 ∷ [] ++ two i ++ kind ∷ [] ++ four size
spell_change (AddEntry d i name) = 2 ∷ [] ++ two d ++ two i ++ length name ∷ [] ++ name
spell_change (DeleteEntry d name) = 3 ∷ [] ++ two d ++ length name ∷ [] ++ name
spell_change (SetTag b i k) = 4 ∷ [] ++ two b ++ two i ++ k ∷ []

abbrev pub spell_changes : List Change → List ℕ
spell_changes [] = []
spell_changes (c ∷ cs) = spell_change c ++ spell_changes cs

abbrev pub spell_txn : Txn → List ℕ
spell_txn t = t.mount ∷ [] ++ four t.number ++ length t.changes ∷ [] ++ spell_changes t.changes

-- a change that has a spelling: a kind is 0 to 2, a name has at most 255 bytes, a tag that is freed has index 0
abbrev pub FitsChange : Change → Type 0
FitsChange (SetInode i kind size) = kind ≤ 2
FitsChange (AddEntry d i name) = length name ≤ 255
FitsChange (DeleteEntry d name) = length name ≤ 255
FitsChange (SetTag b i k) = i ≡ 65535 → k ≡ 0

abbrev pub FitChanges : List Change → Type 0
FitChanges [] = Unit {0}
FitChanges (c ∷ cs) = FitsChange c × FitChanges cs

-- a transaction that has a spelling, of at most 400 bytes
pub record CanSpell (t : Txn) : Type 0 where
  pub changes : FitChanges t.changes
  pub count : length t.changes ≤ 255
  pub few : length (spell_txn t) ≤ 400

-- the last name of a path has at most 24 bytes, as each name of a call has
abbrev pub NameIsShort : List (List ℕ) → Type 0
NameIsShort [] = Unit {0}
NameIsShort (n ∷ p) = length n ≤ 24

-- each path of a call whose last name its changes have is such a one
abbrev pub NamesAre : (List (List ℕ) → Type 0) → FileCall → Type 0
NamesAre IsSuch (Mkdir p) = IsSuch p
NamesAre IsSuch (Create p) = IsSuch p
NamesAre IsSuch (Rename from to) = IsSuch from × IsSuch to
NamesAre IsSuch (Unlink p) = IsSuch p
NamesAre IsSuch (Rmdir p) = IsSuch p
NamesAre IsSuch call = Unit {0}

abbrev pub IsShortCall : FileCall → Type 0
IsShortCall call = NamesAre NameIsShort call
