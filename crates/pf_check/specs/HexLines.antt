-- Transactions as lines of hexadecimal digits.
use Rattle.std.specs.Prelude.{◌≡◌, ℕ, List, Option, Some, None, Result, Ok, Err}
use Rattle.hex.specs.Hex.{decode_of}
use Rattle.hex.specs.declared.error.FromHexError.{FromHexError}
use Rattle.pf_tree_tables.specs.declared.changes.Txn.{Txn}
use Rattle.pf_txn.specs.Reading.{IsTxnSpelling, txn_in}

-- the line is bytes in hexadecimal digits, of either case, and these bytes are the spelling of the transaction
pub record SpellsInHex (line : List ℕ) (txn : Txn) : Type 0 where
  pub bytes : List ℕ
  pub digits : decode_of line ≡ Ok bytes
  pub spells : IsTxnSpelling txn bytes

-- what is read of a line: the transaction that it spells, and nothing exactly where it spells none
abbrev pub ReadsHex : List ℕ → Option Txn → Type 0
ReadsHex line (Some txn) = SpellsInHex line txn
ReadsHex line None = (txn : Txn) → SpellsInHex line txn → ⊥

abbrev pub txn_of_bytes : Result (List ℕ) FromHexError → Option Txn
txn_of_bytes (Ok bytes) = txn_in bytes
txn_of_bytes (Err error) = None

-- the transaction that a line spells, if it spells one
abbrev pub txn_in_hex : List ℕ → Option Txn
txn_in_hex line = txn_of_bytes (decode_of line)
