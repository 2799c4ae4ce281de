-- The worker that submits, and what it keeps.
use Rattle.std.specs.Prelude.{◌≡◌, ◌≢◌, ◌⊎◌, ℕ, ◌+◌, ◌<◌, ◌≤◌, Bool, true, false, IsTrue, List, [], ◌∷◌, ◌++◌, length, Option, None, Some, Result, Ok, slice_get}
use Rattle.pf_base.specs.Span.{IsWritable}
use Rattle.pf_base.specs.declared.errors.NoMemory.{NoMemory}
use Rattle.pf_entry.specs.Lists.{Every}
use Rattle.pf_turn.specs.Lists.{Begins, entries_of}
use Rattle.pf_turn.specs.Own.{EachOf}
use Rattle.pf_disk.specs.declared.disk.Disk.{Ghosts}
use Rattle.pf_protocol.specs.Groups.{Acked}
use Rattle.pf_protocol.specs.declared.answers.Answer.{Answer}
use Rattle.pf_protocol.specs.declared.answers.Answer.TheVariants.{Refused, Slot as SlotIs}
use Rattle.pf_protocol.specs.declared.answers.Refusal.{Refusal}
use Rattle.pf_protocol.specs.declared.events.Event.{Event}
use Rattle.pf_protocol.specs.declared.events.Event.TheVariants.{Submit}
use Rattle.pf_shared.specs.pf_group.specs.declared.errors.Down.{Down}
use Rattle.pf_shared.specs.pf_group.specs.GroupIs.{GroupIs}
use Rattle.pf_shared.specs.pf_group_network.specs.Shown.{is_acked}
use Rattle.pf_leadercell.specs.Passes as cells
use Rattle.pf_leadercell.specs.Passes.{IsPassOf}
use Rattle.pf_leadercell.specs.Published.{last_of}
use Rattle.pf_leadercell.specs.declared.cell.LeaderPass.{LeaderPass}
use Rattle.pf_leadercell.specs.declared.cell.LeaderCell.{LeaderCell}
use Rattle.pf_rings.specs.Counted.{Called}
use Rattle.pf_rings.specs.Passes.{IsHostOf, IsServerOf, put_by, seen_by_host, taken_by}
use Rattle.pf_rings.specs.declared.count.RingCall.TheVariants.{Full}
use Rattle.pf_rings.specs.declared.view.Request.{Request}
use Rattle.pf_shared.specs.declared.moment.SeatMoment.{SeatMoment}
use Rattle.pf_shared.specs.declared.moment.SeatMoment.TheVariants.{Happened, Look}
use Rattle.pf_shared.specs.declared.parts.SharedGroup.{SharedGroup}
use Rattle.pf_shared.specs.Moments.{entry}
use Rattle.pf_shared.specs.Calls.{Adds}
use Rattle.pf_shared.specs.Looks.{Looks}
use Rattle.pf_shared.specs.Seats.{IsSameSeat, IsSeatOf, number_of, root_in, seen_by}
use Rattle.pf_shared.specs.Since.{rest_after, state_by_now}
use Rattle.pf_live_seats.specs.declared.line.HostRings.{HostRings}
use Rattle.pf_live_seats.specs.declared.plan.LinePlan.{LinePlan}
use Rattle.pf_live_seats.specs.declared.serving.Served.{Served}
use Rattle.pf_live_seats.specs.declared.serving.Standing.{Standing}
use Rattle.pf_live_seats.specs.declared.serving.Standing.TheVariants.{Asked, Placed, Settled}
use Rattle.pf_live_seats.specs.declared.submitting.Submitter.{Submitter}
use Rattle.pf_live_seats.specs.Deliveries.{LiveTrace}
use Rattle.pf_live_seats.specs.Submissions.{IsNextWrite, is_told, write_numbers, slots_of_host}
use Rattle.pf_live_seats.specs.Writes.{first_requests, write_for}

abbrev pub is_submit : Event → Bool
is_submit (Submit server op) = true
is_submit event = false

abbrev pub moment_submits : SeatMoment → Bool
moment_submits (Happened h) = is_submit h.event
moment_submits (Look read) = false

-- since this list began, no other seat has submitted
abbrev pub SubmitsAlone : (n : ℕ) (begun list : LiveTrace) → Type 0
SubmitsAlone n begun list = Every (λ e. e.seat ≢ n → moment_submits e.what ≡ false) (rest_after begun list)

-- a write of a host is submitted. Looks take no answer
abbrev pub Submits : LinePlan → GroupIs → LiveTrace → SeatMoment → Type 0
Submits plan root before (Happened h) = IsNextWrite plan root before h.event
Submits plan root before (Look read) = read ≡ None

-- each of these slots is acknowledged
abbrev pub AllTold : GroupIs → LiveTrace → List Acked → Type 0
AllTold root list slots = Every (λ a. is_told (state_by_now root list) a ≡ true) slots

-- each write of the host that the list submits is one of its first so many
abbrev pub AreWithin : GroupIs → (h : ℕ) → LiveTrace → (taken : ℕ) → Type 0
AreWithin root h list taken = Every (λ j. j < taken) (write_numbers root h list)

-- how the last one stands of so many requests of the host that were taken
abbrev pub SubmitterStands : GroupIs → (h : ℕ) → LiveTrace → (taken : ℕ) → Standing → Type 0
SubmitterStands root h list taken Settled = (length (slots_of_host root h list) ≡ taken) × AllTold root list (slots_of_host root h list)
    × AreWithin root h list taken
SubmitterStands root h list taken (Asked request) = (length (slots_of_host root h list) + 1 ≡ taken) × AllTold root list (slots_of_host root h list)
    × AreWithin root h list taken
SubmitterStands root h list taken (Placed term slot request) = (length (slots_of_host root h list) ≡ taken) × (front : List Acked)
    × (front ++ record { term = term; slot = slot } ∷ [] ≡ slots_of_host root h list) × AllTold root list front × AreWithin root h list taken

-- the list went on with no submission of a write of the host
pub record SubmitsNone (root : GroupIs) (h : ℕ) (seen later : LiveTrace) : Type 0 where
  pub slots : slots_of_host root h later ≡ slots_of_host root h seen
  pub numbers : write_numbers root h later ≡ write_numbers root h seen

-- how a request stands once it was handed to a server that had this term
abbrev pub standing_after : Result ℕ Down → Answer → Request → Standing
standing_after (Ok term) (SlotIs slot) request = Placed term slot request
standing_after told answer request = Asked request

-- The request was handed to a server, which gave this answer: the submission is an entry of the seat. Without an answer its range is none that
-- may be written, and there is no entry
abbrev pub RequestIsHanded : (n : ℕ) (alone : Type 0) (seen : LiveTrace) (server : ℕ) → Request → Option Answer → (new : LiveTrace) → Type 0
RequestIsHanded n alone seen server request (Some answer) new = Adds n alone seen
    (Happened (record { event = Submit server (write_for request); answer = answer })) new
RequestIsHanded n alone seen server request None new = (IsWritable request.range.first request.range.count → ⊥) × (new ≡ seen)

-- the server that was published last as the leader, as far as the pass has seen
abbrev pub published_leader : LeaderPass → ℕ
published_leader pass = (last_of (cells.seen_by pass)).1

-- the request was handed to that server
abbrev pub IsHandedToLeader : (n : ℕ) (alone : Type 0) (seen : LiveTrace) → LeaderPass → Request → (new : LiveTrace) → Type 0
IsHandedToLeader n alone seen pass request new = (told : Option Answer) × RequestIsHanded n alone seen (published_leader pass) request told new

-- the seat has no entry more, or looked
abbrev pub OnlyLooks : (n : ℕ) (seen new : LiveTrace) → Type 0
OnlyLooks n seen new = (entries_of n new ≡ entries_of n seen) ⊎ ((read : Option ℕ) × (entries_of n new ≡ entries_of n seen ++ entry n (Look read) ∷ []))

-- or it handed a request to the server that the pass has seen published last
abbrev pub HasTurned : (n : ℕ) → LeaderPass → (seen new : LiveTrace) → Type 0
HasTurned n pass seen new = OnlyLooks n seen new ⊎ ((request : Request) × (answer : Answer)
    × (entries_of n new ≡ entries_of n seen ++ entry n (Happened (record { event = Submit (published_leader pass) (write_for request); answer = answer })) ∷
    []))

-- it was refused, or has a slot now
abbrev pub IsSettledBy : Answer → Standing → Type 0
IsSettledBy answer standing = ((refusal : Refusal) × (answer ≡ Refused refusal))
    ⊎ ((term slot : ℕ) × (request : Request) × (standing ≡ Placed term slot request))

-- the requests that were taken are the host's first ones
abbrev pub IsFed : (sectors h : ℕ) → Served → Type 0
IsFed sectors h a = taken_by a.pass ≡ first_requests sectors h a.taken

-- the host was answered each request that was taken, in order, but the last one where that is not settled
abbrev pub AreAnswered : (answered taken : List Request) → Standing → Type 0
AreAnswered answered taken Settled = answered ≡ taken
AreAnswered answered taken (Asked request) = answered ++ request ∷ [] ≡ taken
AreAnswered answered taken (Placed term slot request) = answered ++ request ∷ [] ≡ taken

pub record IsServedCounted (plan : LinePlan) (a : Served) : Type 0 where
  pub count : length (taken_by a.pass) ≡ a.taken
  pub few : a.taken ≤ plan.writes
  pub answered : AreAnswered (put_by a.answers) (taken_by a.pass) a.standing

pub record HostIsServed (plan : LinePlan) (rings : HostRings) (a : Served) : Type 0 where
  pub pass : IsServerOf rings.requests a.pass
  pub answers : IsHostOf rings.answers a.answers
  pub counted : IsServedCounted plan a

-- its rings are those of its number
pub record IsServedIn (plan : LinePlan) (rings : List HostRings) (h : ℕ) (a : Served) : Type 0 where
  pub pair : HostRings
  pub there : slice_get rings h ≡ Some pair
  pub is : HostIsServed plan pair a

-- the host was answered this request, and no other
abbrev pub AnswersOne : Served → Request → Served → Type 0
AnswersOne a request b = put_by b.answers ≡ put_by a.answers ++ request ∷ []

abbrev pub AnswersNone : Served → Served → Type 0
AnswersNone a b = put_by b.answers ≡ put_by a.answers

-- it was not, since eight answers stood in its ring
abbrev pub FindsFull : Served → Served → Type 0
FindsFull a b = AnswersNone a b × Called true (seen_by_host a.answers) Full (seen_by_host b.answers)

-- The host is answered exactly where its last request has a slot, the group told that this is acknowledged, and there is room for the answer,
-- which is that request. The group is asked unless it was changed as often as when it was asked last
abbrev pub RequestIsAnswered : GroupIs → (n : ℕ) → (alone : Type 0) → (seen : LiveTrace) → (moves : ℕ) → Standing → (a b : Served) → Result Bool NoMemory
    → (later : LiveTrace) → Type 0
RequestIsAnswered root n alone seen moves (Placed term slot request) a b (Ok true) later =
    Looks root n alone seen (λ g. true ≡ is_acked g term slot) later × AnswersOne a request b
RequestIsAnswered root n alone seen moves (Placed term slot request) a b (Ok false) later =
    AnswersNone a b × ((moves ≡ a.moves) ⊎ (Looks root n alone seen (λ g. false ≡ is_acked g term slot) later ⊎ FindsFull a b))
RequestIsAnswered root n alone seen moves standing a b result later = AnswersNone a b

-- What became of host h, as the seat went on from what it had seen. Where no other seat submitted, and the requests are the host's first
-- ones, what was submitted was a write of the host each time: the next one, where the disks tell their content
pub record ServesHost (plan : LinePlan) (root : GroupIs) (n : ℕ) (begun : LiveTrace) (h : ℕ) (a : Served) (seen : LiveTrace) (b : Served)
    (later : LiveTrace) : Type 0 where
  pub begins : Begins seen later
  pub fed : IsFed plan.sectors h b → IsFed plan.sectors h a
  pub steps : SubmitsAlone n begun later → IsFed plan.sectors h b → EachOf n (Submits plan root) seen
      → (IsTrue root.told → SubmitterStands root h seen a.taken a.standing) → EachOf n (Submits plan root) later
  pub stands : IsTrue root.told → SubmitsAlone n begun later → IsFed plan.sectors h b → SubmitterStands root h seen a.taken a.standing
      → SubmitterStands root h later b.taken b.standing
  pub others : IsTrue root.told → SubmitsAlone n begun later → IsFed plan.sectors h b → SubmitterStands root h seen a.taken a.standing → (k : ℕ) → k ≢ h
      → SubmitsNone root k seen later

-- whatever the list was from which on it submits alone
abbrev pub ServesOn : LinePlan → GroupIs → (n h : ℕ) → Served → (seen : LiveTrace) → Served → (later : LiveTrace) → Type 0
ServesOn plan root n h a seen b later = (begun : LiveTrace) → Begins begun seen → ServesHost plan root n begun h a seen b later

abbrev pub AllFed : LinePlan → List Served → Type 0
AllFed plan served = (h : ℕ) (a : Served) → slice_get served h ≡ Some a → IsFed plan.sectors h a

abbrev pub AllStand : GroupIs → LiveTrace → List Served → Type 0
AllStand root list served = (h : ℕ) (a : Served) → slice_get served h ≡ Some a → SubmitterStands root h list a.taken a.standing

module _ {D : Type 0} {disk : Ghosts D} where
  pub record IsSubmitter (group : SharedGroup D disk) (cell : LeaderCell) (plan : LinePlan) (rings : List HostRings) (a : Submitter D disk) : Type 0 where
    pub seat : IsSeatOf group a.seat
    pub pass : IsPassOf cell a.pass
    pub since : Begins (seen_by a.begun.value) (seen_by a.seat)
    pub hosts : length a.served.items ≡ plan.hosts
    pub each : (h : ℕ) (s : Served) → slice_get a.served.items h ≡ Some s → IsServedIn plan rings h s
    pub steps : SubmitsAlone (number_of a.seat) (seen_by a.begun.value) (seen_by a.seat) → AllFed plan a.served.items
        → EachOf (number_of a.seat) (Submits plan (root_in group)) (seen_by a.seat)
    pub stand : IsTrue (root_in group).told → SubmitsAlone (number_of a.seat) (seen_by a.begun.value) (seen_by a.seat) → AllFed plan a.served.items
        → AllStand (root_in group) (seen_by a.seat) a.served.items

  -- nothing changes but what it has seen and done
  abbrev pub IsSameSubmitter : Submitter D disk → Submitter D disk → Type 0
  IsSameSubmitter x y = IsSameSeat x.seat y.seat × (y.begun ≡ x.begun)
