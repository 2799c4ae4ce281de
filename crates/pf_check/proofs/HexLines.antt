-- A line of hexadecimal digits is read exactly.
use Rattle.std.proofs.Common.{◌≡◌, ℕ, ◌<◌, List, length, Option, Some, None, Result, Ok, Err, refl, ap, sym, subst, arith}
use Rattle.hex.specs.Hex.{decode_of}
use Rattle.hex.specs.declared.error.FromHexError.{FromHexError}
use Rattle.hex.proofs.HexLemmas.{decode_of-same}
use Rattle.pf_tree_tables.specs.declared.changes.Txn.{Txn}
use Rattle.pf_txn.specs.Reading.{IsTxnSpelling, ReadsTxn, txn_in}
use Rattle.pf_txn.proofs.TxnLaws.{txn_reads}
use Rattle.pf_check.specs.HexLines.{ReadsHex, txn_in_hex, txn_of_bytes}

reads_as : (line bytes : List ℕ) (found : Option Txn) → decode_of line ≡ Ok bytes → ReadsTxn bytes found → ReadsHex line found
reads_as line bytes (Some txn) digits spells = record { bytes = bytes; digits = digits; spells = spells }
reads_as line bytes None digits none = λ txn s. none txn (subst (IsTxnSpelling txn) (decode_of-same line s.bytes bytes s.digits digits) s.spells)

reads_of : (line : List ℕ) (decoded : Result (List ℕ) FromHexError) → decode_of line ≡ decoded → ReadsHex line (txn_of_bytes decoded)
reads_of line (Ok bytes) is = reads_as line bytes (txn_in bytes) is (txn_reads bytes)
reads_of line (Err error) is = λ txn s. let digits = s.digits in absurd (cc)

-- what is read is the transaction that the line spells
pub hex_reads : (line : List ℕ) (found : Option Txn) → found ≡ txn_in_hex line → ReadsHex line found
hex_reads line found is = subst (ReadsHex line) (sym is) (reads_of line (decode_of line) refl)

long_as : (bytes : List ℕ) (found : Option Txn) → ReadsTxn bytes found → 400 < length bytes → found ≡ None
long_as bytes (Some txn) reads long = absurd (omega (arith, reads.has.few, ap length reads.spelled, long))
long_as bytes None reads long = refl

-- no transaction has more than 400 bytes
pub long_none : (bytes : List ℕ) → 400 < length bytes → txn_in bytes ≡ None
long_none bytes long = long_as bytes (txn_in bytes) (txn_reads bytes) long
