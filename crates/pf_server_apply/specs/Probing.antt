-- A leader hears of another server.
use Rattle.std.specs.Prelude.{◌≡◌, ℕ, ◌≤◌, Bool, true, false, map, if◌then◌else◌}
use Rattle.std.specs.FinMap
use Rattle.pf_election.specs.Reads.{confirm_by_number}
use Rattle.pf_server_memory.specs.Replying.{Replying}
use Rattle.pf_server_memory.specs.declared.running.Role.{Role}
use Rattle.pf_server_memory.specs.declared.running.Role.TheVariants.{Follower, Candidate, Merging, Serving}
use Rattle.pf_server_memory.specs.declared.running.Running.{Running}

abbrev pub is_serving_here : Role → Bool
is_serving_here Follower = false
is_serving_here (Candidate c) = false
is_serving_here (Merging l) = false
is_serving_here (Serving l) = true

-- a leader keeps what the server has applied
abbrev pub knowing : Role → (from upto : ℕ) → Role
knowing Follower from upto = Follower
knowing (Candidate c) from upto = Candidate c
knowing (Merging l) from upto = Merging l
knowing (Serving l) from upto = Serving (record l { known = FinMap.insert l.known from upto })

abbrev pub probe_heard : Running → (from number upto : ℕ) → Running
probe_heard me from number upto = record me {
  role = knowing me.role from upto;
  reads = if is_serving_here me.role then map (confirm_by_number number) me.reads else me.reads;
}

-- the answers are the same, and there is memory for no fewer to come
pub record HasNoFewerRooms (old new : Replying) : Type 0 where
  pub same : new.answers ≡ old.answers
  pub rooms : old.rooms ≤ new.rooms
