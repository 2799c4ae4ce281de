use Rattle.pf_txn.proofs.TxnLaws.{txn_again, txn_found, txn_reads}
use Rattle.pf_txn.proofs.laws.spelled_transactions_are_read.Goals as goal

pub returns-clause-spelled : goal.returns-clause-spelled
returns-clause-spelled c = txn_again

pub returns-clause-found : goal.returns-clause-found
returns-clause-found c = txn_found

pub returns-clause-reads : goal.returns-clause-reads
returns-clause-reads c = txn_reads
