-- A candidate of a term.
use Rattle.std.specs.Prelude.{ℕ, None}
use Rattle.pf_entry.specs.declared.packets.Body.TheVariants.{RequestVote}
use Rattle.pf_entry.specs.Records.{vote_of}
use Rattle.pf_protocol.specs.Servers.{Server, Candidate}
use Rattle.pf_protocol.specs.Outcomes.{Outcome, raise_term, to_others}
use Rattle.pf_protocol.specs.declared.answers.Answer.TheVariants.{Term as TermIs}

abbrev pub candidate : Server → ℕ → Server
candidate s term = record (raise_term s term) { role = Candidate (vote_of s.durable) }

-- the rule of a candidate of this term
abbrev pub elected : Server → ℕ → Outcome
elected s term = record { server = candidate s term; packets = to_others (candidate s term) (RequestVote s.durable.base); answer = TermIs term; acked = None }
