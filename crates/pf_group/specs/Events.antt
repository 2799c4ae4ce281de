-- What may be asked of a group.
use Rattle.std.specs.Prelude.{◌≡◌, ℕ, Bool, false, List, [], Some, slice_get}
use Rattle.pf_base.specs.declared.filled.Filled.{Filled}
use Rattle.pf_entry.specs.declared.ops.Op.{Op}
use Rattle.pf_entry.specs.declared.ops.Op.TheVariants.{Write, Mark}
use Rattle.pf_server_apply.specs.Jobs.{IsFilledFor}
use Rattle.pf_protocol.specs.declared.events.Event.{Event}
use Rattle.pf_protocol.specs.declared.events.Event.TheVariants.{Submit, Fetch, Deliver, Lose, Elect, Resend, Stop, Restart, Claim, Finish, Checkpoint}
use Rattle.pf_protocol.specs.Answers.{Claimed, MayHappen, claims_of}
use Rattle.pf_group.specs.declared.event.GroupEvent.{GroupEvent}
use Rattle.pf_group.specs.declared.event.GroupEvent.TheVariants as asked
use Rattle.pf_group.specs.GroupIs.{GroupIs}

-- the event of the rules; of a restart, whether it finds the record of a step that was cut off
abbrev pub rule_event : GroupEvent → (found : Bool) → Event
rule_event (asked.Submit server range payload) found = Submit server (Write range payload)
rule_event (asked.Mark server) found = Submit server Mark
rule_event (asked.Fetch server range) found = Fetch server range
rule_event (asked.Deliver k) found = Deliver k
rule_event (asked.Lose k) found = Lose k
rule_event (asked.Elect server) found = Elect server
rule_event (asked.Resend server) found = Resend server
rule_event (asked.Stop server) found = Stop server
rule_event (asked.Restart server) found = Restart server found
rule_event asked.Claim found = Claim
rule_event (asked.Finish filled) found = Finish filled.server filled.life filled.slot
rule_event (asked.Checkpoint server) found = Checkpoint server

-- the job of an open claim, with the sectors of its op
pub record Brings (claims : List Claimed) (filled : Filled) : Type 0 where
  pub op : Op
  pub k : ℕ
  pub claim : slice_get claims k ≡ Some (record { server = filled.server; life = filled.life; slot = filled.slot; op = op })
  pub brought : IsFilledFor op filled

abbrev pub GroupMayAsk : List Claimed → GroupEvent → Type 0
GroupMayAsk claims (asked.Finish filled) = Brings claims filled
GroupMayAsk claims event = MayHappen claims (rule_event event false)

-- what a caller of a step has to keep
abbrev pub MayStep : GroupIs → GroupEvent → Type 0
MayStep g event = GroupMayAsk (claims_of [] g.history) event

-- the events that may want memory: all but a finish
abbrev pub MayWant : GroupEvent → Type 0
MayWant (asked.Finish filled) = ⊥
MayWant event = Unit {0}
