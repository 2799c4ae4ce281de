-- Steps of a server in memory alone.
use Rattle.std.specs.Prelude.{◌≡◌}
use Rattle.pf_entry.specs.Records.{Durable}
use Rattle.pf_protocol.specs.declared.answers.Answer.{Answer}
use Rattle.pf_protocol.specs.Servers.{Server}
use Rattle.pf_protocol.specs.Outcomes.{Outcome}
use Rattle.pf_server_memory.specs.declared.running.Running.{Running}
use Rattle.pf_server_memory.specs.Standing.{server_of, setup_of, IsCached}

-- memory stands for this server, over the same records
pub record IsAfter (d : Durable) (me new : Running) (s : Server) : Type 0 where
  pub server_is : server_of d new ≡ s
  pub setup_same : setup_of new ≡ setup_of me
  pub cached : IsCached d new

-- the rule was carried out in memory
pub record IsTurn (d : Durable) (me new : Running) (o : Outcome) (answer : Answer) : Type 0 where
  pub answered : answer ≡ o.answer
  pub after : IsAfter d me new o.server
