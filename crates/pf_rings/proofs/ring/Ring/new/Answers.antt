use Rattle.std.proofs.Common.{rules, ap}
use Rattle.pf_rings.proofs.Counts.{opens, parts}
use Rattle.pf_rings.proofs.Relays.{starts, forks}
use Rattle.pf_rings.proofs.ring.Ring.new.Goals as goal

pub ruled-requires-clause-rule : goal.ruled-requires-clause-rule
ruled-requires-clause-rule c = starts

pub another-takes-requires-clause-rule : goal.another-takes-requires-clause-rule
another-takes-requires-clause-rule c = forks _ _ (search rules) (search rules)

pub of_words-requires : goal.of_words-requires
of_words-requires c = opens (Unit {0})

pub split_seat-server_seat-requires : goal.split_seat-server_seat-requires
split_seat-server_seat-requires c = let e = c.in_ok-count.ensures.4 in (search rules, search rules, parts _ _ (ap (λ m. m.0.puts) e) (ap (λ m. m.0.takes) e))
