-- What happened to a group, with a place for what can't be refused.
use Rattle.std.specs.Prelude.{◌≡◌, ℕ, ◌+◌, ◌-◌, ◌≤◌, ◌^◌, [], length}
use Rattle.pf_protocol.specs.declared.answers.Answer.{Answer}
use Rattle.pf_protocol.specs.declared.answers.Answer.TheVariants.{Job as JobIs}
use Rattle.pf_protocol.specs.declared.events.Event.{Event}
use Rattle.pf_protocol.specs.declared.events.Event.TheVariants.{Claim, Finish, GiveBack}
use Rattle.pf_protocol.specs.declared.events.Happening.{Happening}
use Rattle.pf_protocol.specs.Answers.{MayHappen, claims_of}
use Rattle.pf_group.specs.declared.event.GroupEvent.{GroupEvent}
use Rattle.pf_group.specs.declared.event.GroupEvent.TheVariants as asked
use Rattle.pf_group.specs.declared.past.Past.{Past}
use Rattle.pf_group.specs.Applied.{applied_on_each}

-- a claim that was answered opens one, and an end closes at least one
abbrev pub open_by : ℕ → Event → Answer → ℕ
open_by n Claim (JobIs job) = n + 1
open_by n (Finish server life slot) answer = n - 1
open_by n (GiveBack server life slot) answer = n - 1
open_by n event answer = n

abbrev pub open_after : ℕ → Happening → ℕ
open_after n h = open_by n h.event h.answer

-- it counts what happened, and there is a place for the end of each open claim
pub record PastIsSound (past : Past) : Type 0 where
  pub counted : past.count ≡ length past.happenings
  pub applied : past.applied ≡ applied_on_each past.happenings
  pub claims : length (claims_of [] past.happenings) ≤ past.open_ends
  pub few : past.count + past.open_ends ≤ 2 ^ 32

-- and for one more happening, and its end
abbrev pub HasPlaces : Past → Type 0
HasPlaces past = past.count + past.open_ends + 2 ≤ 2 ^ 32

-- an end has its place
abbrev pub HasRoomForEnd : GroupEvent → Past → Type 0
HasRoomForEnd (asked.Finish filled) past = Unit {0}
HasRoomForEnd event past = HasPlaces past

abbrev pub HasPlaceFor : Past → Event → Type 0
HasPlaceFor past (Finish server life slot) = Unit {0}
HasPlaceFor past (GiveBack server life slot) = Unit {0}
HasPlaceFor past event = HasPlaces past

-- what may happen, and has its place
pub record IsKeepable (past : Past) (event : Event) : Type 0 where
  pub may : MayHappen (claims_of [] past.happenings) event
  pub room : HasPlaceFor past event
