-- What one call of a seat does to the list that it has seen.
use Rattle.std.specs.Prelude.{◌≡◌, ℕ, Bool, IsTrue, List, [], ◌∷◌, ◌++◌, None}
use Rattle.pf_turn.specs.declared.log.Stamped.{Stamped}
use Rattle.pf_turn.specs.Lists.{Begins, entries_of}
use Rattle.pf_base.specs.declared.filled.Filled.{Filled}
use Rattle.pf_entry.specs.declared.ops.Op.{Op}
use Rattle.pf_entry.specs.declared.ops.Job.{Job}
use Rattle.pf_server_apply.specs.Jobs.{IsFilledFor}
use Rattle.pf_protocol.specs.declared.answers.Answer.{Answer}
use Rattle.pf_protocol.specs.declared.answers.Answer.TheVariants.{Job as JobIs}
use Rattle.pf_protocol.specs.declared.events.Event.{Event}
use Rattle.pf_protocol.specs.Answers.{IsLegal}
use Rattle.pf_group_rounds.specs.pf_group.specs.declared.event.GroupEvent.{GroupEvent}
use Rattle.pf_group_rounds.specs.pf_group.specs.Events.{rule_event}
use Rattle.pf_group_rounds.specs.pf_group.specs.GroupIs.{GroupIs}
use Rattle.pf_group_rounds.specs.pf_group.specs.Sound.{IsSound}
use Rattle.pf_shared.specs.declared.moment.SeatMoment.{SeatMoment}
use Rattle.pf_shared.specs.declared.moment.SeatMoment.TheVariants.{Happened}
use Rattle.pf_shared.specs.Answering.{EventIsAnswered}
use Rattle.pf_shared.specs.Moments.{entry, handed_out}
use Rattle.pf_shared.specs.Since.{whole_history}
use Rattle.pf_shared.specs.Hands.{HasInHand, hand_of, key}

-- The laws hold of what happened. It is one legal history of the group, where its disks tell their content
pub record IsHistory (root : GroupIs) (list : List (Stamped SeatMoment)) : Type 0 where
  pub legal : IsTrue root.told → IsLegal root.setup (whole_history root list)
  pub sound : IsSound root.setup (whole_history root list)

-- the list that seat n finds: others may have added entries, but none of its own; none did where it is alone
pub record Finds (n : ℕ) (alone : Type 0) (seen found : List (Stamped SeatMoment)) : Type 0 where
  pub begins : Begins seen found
  pub own : entries_of n found ≡ entries_of n seen
  pub exact : alone → found ≡ seen

-- the list that it found has one more entry of its own
pub record Adds (n : ℕ) (alone : Type 0) (seen : List (Stamped SeatMoment)) (what : SeatMoment) (new : List (Stamped SeatMoment)) : Type 0 where
  pub found : List (Stamped SeatMoment)
  pub finds : Finds n alone seen found
  pub listed : new ≡ found ++ entry n what ∷ []
  pub own : entries_of n new ≡ entries_of n seen ++ entry n what ∷ []

-- the event was answered, where it stands in the list
pub record SeatSteps (root : GroupIs) (n : ℕ) (alone : Type 0) (seen : List (Stamped SeatMoment)) (event : Event) (answer : Answer)
    (new : List (Stamped SeatMoment)) : Type 0 where
  pub adds : Adds n alone seen (Happened (record { event = event; answer = answer })) new
  pub answered : EventIsAnswered root.told root.setup (handed_out root.taken adds.found) (whole_history root adds.found) event answer

-- where a server begins again, it finds the record of a step that was cut off, or not
pub record SeatHasStepped (root : GroupIs) (n : ℕ) (alone : Type 0) (seen : List (Stamped SeatMoment)) (event : GroupEvent) (answer : Answer)
    (new : List (Stamped SeatMoment)) : Type 0 where
  pub found : Bool
  pub steps : SeatSteps root n alone seen (rule_event event found) answer new

-- the seat's own entries hold a claim of the job, and no finish or return of it since; the sectors are those of its op
pub record SeatHasClaimed (n : ℕ) (seen : List (Stamped SeatMoment)) (filled : Filled) : Type 0 where
  pub op : Op
  pub in_hand : HasInHand n (key filled.server filled.life filled.slot) op seen
  pub brought : IsFilledFor op filled

-- what is told of an answer that is a job
abbrev pub OnJob : Answer → (Job → Type 0) → Type 0
OnJob (JobIs job) P = P job
OnJob answer P = Unit {0}

-- the job is in the hand of seat n, in which it was not before
pub record JobIsTaken (n : ℕ) (seen new : List (Stamped SeatMoment)) (job : Job) : Type 0 where
  pub free : hand_of (key job.server job.life job.slot) None (entries_of n seen) ≡ None
  pub in_hand : HasInHand n (key job.server job.life job.slot) job.op new
