use Rattle.std.proofs.Common.{◌<◌, length, ap, sym, ◌∙◌, arith}
use Rattle.pf_check.specs.HexLines.{txn_of_bytes}
use Rattle.pf_check.proofs.HexLines.{hex_reads, long_none}
use Rattle.pf_check.proofs.hex_line.read_hex.Goals as goal

long_is : goal.returns-then-len-gt-MOST_BYTES-clause-txn
long_is c =
    let long : 400 < length c.in-Ok.bytes.items = omega (arith, c.if-len-gt-MOST_BYTES.true, c.len.ensures) in
    sym (ap txn_of_bytes c.in-Ok.ensures.ok ∙ long_none c.in-Ok.bytes.items long)

pub returns-then-len-gt-MOST_BYTES-clause-txn : goal.returns-then-len-gt-MOST_BYTES-clause-txn
returns-then-len-gt-MOST_BYTES-clause-txn c = long_is c

pub returns-then-len-gt-MOST_BYTES-clause-reads : goal.returns-then-len-gt-MOST_BYTES-clause-reads
returns-then-len-gt-MOST_BYTES-clause-reads c = hex_reads c.args.line.now _ (long_is c)
