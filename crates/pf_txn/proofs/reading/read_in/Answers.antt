use Rattle.std.proofs.Common.{◌≡◌, List, Option, Some, None, sym, subst, ◌∙◌, arith, ℕ}
use Rattle.pf_tree_tables.specs.declared.changes.Txn.{Txn}
use Rattle.pf_codec.specs.Parsers.{Fails}
use Rattle.pf_txn.specs.Reading.{ReadsTxn, txn_of, txn_in}
use Rattle.pf_txn.proofs.TxnLaws.{tested_bytes, txn_in_is, txn_reads}
use Rattle.pf_txn.proofs.reading.read_in.Goals as goal

reads_it : (bytes : List ℕ) (found : Option Txn) → found ≡ txn_in bytes → ReadsTxn bytes found
reads_it bytes found is = subst (ReadsTxn bytes) (sym is) (txn_reads bytes)

one_read : goal.returns-in-Ok-clause-txn
one_read c = sym c.in-Ok.ensures ∙ sym (txn_in_is c.args.bytes.now (tested_bytes c.args.bytes.now (λ i. omega (arith, c.type_inv.bytes i))) c.requires)

none_read : goal.returns-in-Err-Malformed-clause-txn
none_read c =
    sym (subst (λ f. Fails f (txn_of c.args.bytes.now)) c.in-Err-Malformed.field-0-is c.in-Err-Malformed.ensures)
    ∙ sym (txn_in_is c.args.bytes.now (tested_bytes c.args.bytes.now (λ i. omega (arith, c.type_inv.bytes i))) c.requires)

pub returns-in-Ok-clause-reads : goal.returns-in-Ok-clause-reads
returns-in-Ok-clause-reads c = reads_it c.args.bytes.now (Some c.in-Ok.txn) (one_read c)

pub returns-in-Ok-clause-txn : goal.returns-in-Ok-clause-txn
returns-in-Ok-clause-txn c = one_read c

pub returns-in-Err-Malformed-clause-reads : goal.returns-in-Err-Malformed-clause-reads
returns-in-Err-Malformed-clause-reads c = reads_it c.args.bytes.now None (none_read c)

pub returns-in-Err-Malformed-clause-txn : goal.returns-in-Err-Malformed-clause-txn
returns-in-Err-Malformed-clause-txn c = none_read c
