-- What an entry meets at a server.
use Rattle.std.specs.Prelude.{ℕ, ◌+◌, Option, nat_lt, nat_le, if◌then◌else◌}
use Rattle.pf_entry.specs.declared.entries.Entry.{Entry}
use Rattle.pf_entry.specs.Records.{has_term}
use Rattle.pf_server_follower.specs.declared.accepts.AcceptCase.{AcceptCase}
use Rattle.pf_server_follower.specs.declared.accepts.AcceptCase.TheVariants.{Stale, Below, Beyond, Held, New}

-- by the server's term, its checkpoint and what its log has in the entry's slot
abbrev pub case_at : (term base : ℕ) → Option Entry → Entry → AcceptCase
case_at term base there e =
    if nat_lt e.term term then Stale
    else (if nat_le e.slot base then Below
    else (if nat_lt (base + 4096) e.slot then Beyond
    else (if has_term e.term there then Held
    else New)))
