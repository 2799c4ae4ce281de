use Rattle.std.proofs.Common.{◌≡◌, ◌≤◌, length, vec_len, vec_capacity}
use Rattle.pf_entry.specs.Lists.{Every}
use Rattle.pf_live_line.specs.Meeting.{AreMet}
use Rattle.pf_live_line.specs.Opening.{ServedIsNew}
use Rattle.pf_live_line.proofs.opening.Rings.new.Given as goal

abbrev pub invariant-loop-host : goal.invariant-loop-host
invariant-loop-host l = AreMet l.plan l.made.rings.items l.host 0 l.made.hosts.items l.made.served.items × Every ServedIsNew l.made.served.items × (length l.made.rings.items ≡ l.host)
    × (vec_len l.made.rings ≡ l.host) × (vec_len l.made.hosts ≡ l.host) × (vec_len l.made.served ≡ l.host)
    × (l.plan.hosts ≤ vec_capacity l.made.rings) × (l.plan.hosts ≤ vec_capacity l.made.hosts) × (l.plan.hosts ≤ vec_capacity l.made.served)
