use Rattle.pf_txn.proofs.TxnLaws.{txns_apart}
use Rattle.pf_txn.proofs.laws.transactions_tell_themselves.Goals as goal

pub returns : goal.returns
returns c = txns_apart
