-- Transactions that are the whole of some bytes.
use Rattle.std.specs.Prelude.{◌≡◌, ℕ, Bool, true, ◌&&◌, ◌||◌, not, ◌==◌, nat_lt, nat_le, List, length, Option, Some, None, if◌then◌else◌}
use Rattle.std.specs.Int.{w16, w32}
use Rattle.std.specs.List.{list_all}
use Rattle.pf_codec.specs.Parsers.{Parser, and_then, ◌>>=◌, checked, byte_at, number_at, row_at}
use Rattle.pf_tree_tables.specs.declared.changes.Change.{Change}
use Rattle.pf_tree_tables.specs.declared.changes.Change.TheVariants.{SetInode, AddEntry, DeleteEntry, SetTag}
use Rattle.pf_tree_tables.specs.declared.changes.Txn.{Txn}
use Rattle.pf_txn.specs.Spelling.{CanSpell, spell_txn}
use Rattle.pf_txn.specs.Fields.{IsTyped}

-- these bytes are the spelling of the transaction
pub record IsTxnSpelling (t : Txn) (bytes : List ℕ) : Type 0 where
  pub has : CanSpell t
  pub typed : IsTyped t
  pub spelled : spell_txn t ≡ bytes

-- what is read of bytes: the transaction whose spelling they are, and nothing exactly where they are the spelling of none
abbrev pub ReadsTxn : List ℕ → Option Txn → Type 0
ReadsTxn bytes (Some t) = IsTxnSpelling t bytes
ReadsTxn bytes None = (t : Txn) → IsTxnSpelling t bytes → ⊥

-- a length, and as many bytes
unfoldable pub name_at : Parser (List ℕ)
name_at = do
  count ← byte_at
  row_at byte_at count

unfoldable pub set_inode_at : Parser Change
set_inode_at = do
  inode ← number_at w16
  kind ← byte_at
  size ← number_at w32
  checked (nat_le kind 2) (SetInode inode kind size)

unfoldable pub add_entry_at : Parser Change
add_entry_at = do
  directory ← number_at w16
  inode ← number_at w16
  name ← name_at
  checked true (AddEntry directory inode name)

unfoldable pub delete_entry_at : Parser Change
delete_entry_at = do
  directory ← number_at w16
  name ← name_at
  checked true (DeleteEntry directory name)

-- a tag that is freed has index 0
unfoldable pub set_tag_at : Parser Change
set_tag_at = do
  block ← number_at w16
  inode ← number_at w16
  index ← byte_at
  checked (not (inode == 65535) || index == 0) (SetTag block inode index)

unfoldable pub change_tagged : ℕ → Parser Change
change_tagged tag =
    if tag == 1 then set_inode_at
    else if tag == 2 then add_entry_at
    else if tag == 3 then delete_entry_at
    else if tag == 4 then set_tag_at
    else λ bytes. None

unfoldable pub change_at : Parser Change
change_at = do
  tag ← byte_at
  change_tagged tag

unfoldable pub txn_at : Parser Txn
txn_at = do
  mount ← byte_at
  number ← number_at w32
  count ← byte_at
  changes ← row_at change_at count
  checked true (record { mount = mount; number = number; changes = changes })

-- nothing follows the last change
unfoldable pub txn_of : List ℕ → Option Txn
txn_of bytes = and_then (txn_at bytes) (λ t. if length t.1 == 0 then Some t.0 else None)

abbrev pub is_byte : ℕ → Bool
is_byte n = nat_lt n 256

-- the transaction whose spelling a list is, if it is that of one
unfoldable pub txn_in : List ℕ → Option Txn
txn_in bytes = if list_all is_byte bytes && nat_le (length bytes) 400 then txn_of bytes else None
