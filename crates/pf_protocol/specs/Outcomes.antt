-- What a step of one server leaves and sends.
use Rattle.std.specs.Prelude.{ℕ, List, [], ◌∷◌, map, not, Option, None, ◌==◌}
use Rattle.std.specs.List.{filter}
use Rattle.pf_entry.specs.declared.packets.Packet.{Packet}
use Rattle.pf_entry.specs.declared.packets.Body.{Body}
use Rattle.pf_entry.specs.Records.{stored}
use Rattle.pf_entry.specs.declared.records.Record.{Record}
use Rattle.pf_entry.specs.declared.records.Record.TheVariants.{Term as TermRecord}
use Rattle.pf_protocol.specs.Servers.{Server, Follower}
use Rattle.pf_protocol.specs.declared.answers.Answer.{Answer}
use Rattle.pf_protocol.specs.declared.answers.Answer.TheVariants.{Done}

pub record Outcome : Type 0 where
  pub server : Server
  pub packets : List Packet
  pub answer : Answer
  pub acked : Option ℕ  -- the slot that is acknowledged to the host

abbrev pub to_one : Server → ℕ → Body → Packet
to_one s to body = record { from = s.number; to = to; term = s.durable.term; body = body }

-- the two other servers, in ascending order
abbrev pub other_servers : ℕ → List ℕ
other_servers me = filter (λ i. not (i == me)) (0 ∷ 1 ∷ 2 ∷ [])

abbrev pub to_others : Server → Body → List Packet
to_others s body = map (λ i. to_one s i body) (other_servers s.number)

abbrev pub sends : Server → List Packet → Outcome
sends s packets = record { server = s; packets = packets; answer = Done; acked = None }

-- nothing happens
abbrev pub nothing : Server → Outcome
nothing s = sends s []

abbrev pub only_answers : Server → Answer → Outcome
only_answers s answer = record { server = s; packets = []; answer = answer; acked = None }

-- one more record
abbrev pub store : Server → Record → Server
store s r = record s { durable = stored s.durable r }

-- a follower has no reads that wait
abbrev pub step_down : Server → Server
step_down s = record s { role = Follower; reads = [] }

abbrev pub raise_term : Server → ℕ → Server
raise_term s term = step_down (store s (TermRecord term))
