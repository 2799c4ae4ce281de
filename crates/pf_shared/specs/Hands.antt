-- Which seat has a job in hand.
use Rattle.std.specs.Prelude.{◌≡◌, ℕ, ◌+◌, Bool, true, false, ◌==◌, ◌&&◌, if◌then◌else◌, List, [], ◌∷◌, Option, Some, None}
use Rattle.pf_turn.specs.declared.log.Stamped.{Stamped}
use Rattle.pf_turn.specs.Lists.{entries_of}
use Rattle.pf_entry.specs.declared.ops.Op.{Op}
use Rattle.pf_protocol.specs.declared.answers.Answer.{Answer}
use Rattle.pf_protocol.specs.declared.answers.Answer.TheVariants.{Job as JobIs}
use Rattle.pf_protocol.specs.declared.events.Event.{Event}
use Rattle.pf_protocol.specs.declared.events.Event.TheVariants.{Claim, Finish, GiveBack}
use Rattle.pf_shared.specs.declared.moment.SeatMoment.{SeatMoment}
use Rattle.pf_shared.specs.declared.moment.SeatMoment.TheVariants.{Happened, Look}

-- a job by its server, that server's life and its slot
pub record Key : Type 0 where
  pub server : ℕ
  pub life : ℕ
  pub slot : ℕ

abbrev pub key : ℕ → ℕ → ℕ → Key
key server life slot = record { server = server; life = life; slot = slot }

abbrev pub is_key_of : Key → (server life slot : ℕ) → Bool
is_key_of k server life slot = k.server == server && k.life == life && k.slot == slot

-- who claimed a job, and which op it has
pub record Hand : Type 0 where
  pub seat : ℕ
  pub op : Op

abbrev pub hand : ℕ → Op → Hand
hand seat op = record { seat = seat; op = op }

-- a claim that was answered takes the job in hand; a finish or a return ends that
abbrev pub hand_by : Key → Option Hand → (seat : ℕ) → Event → Answer → Option Hand
hand_by k o seat Claim (JobIs job) = if is_key_of k job.server job.life job.slot then Some (hand seat job.op) else o
hand_by k o seat (Finish server life slot) answer = if is_key_of k server life slot then None else o
hand_by k o seat (GiveBack server life slot) answer = if is_key_of k server life slot then None else o
hand_by k o seat event answer = o

abbrev pub hand_after : Key → Option Hand → (seat : ℕ) → SeatMoment → Option Hand
hand_after k o seat (Happened h) = hand_by k o seat h.event h.answer
hand_after k o seat (Look read) = o

-- whose hand the job is in after the list, where it was in o before
abbrev pub hand_of : Key → Option Hand → List (Stamped SeatMoment) → Option Hand
hand_of k o [] = o
hand_of k o (e ∷ es) = hand_of k (hand_after k o e.seat e.what) es

-- the seat's own entries hold a claim of the job, with this op, and no finish or return of it since
abbrev pub HasInHand : ℕ → Key → Op → List (Stamped SeatMoment) → Type 0
HasInHand seat k op list = hand_of k None (entries_of seat list) ≡ Some (hand seat op)

abbrev pub is_hand_free : Option Hand → Bool
is_hand_free None = true
is_hand_free (Some h) = false

abbrev pub is_held_by : ℕ → Option Hand → Bool
is_held_by seat None = false
is_held_by seat (Some h) = h.seat == seat

-- a job is claimed only while nobody has it in hand, and brought back only by the seat that has
abbrev pub may_by : Key → Option Hand → (seat : ℕ) → Event → Answer → Bool
may_by k o seat Claim (JobIs job) = if is_key_of k job.server job.life job.slot then is_hand_free o else true
may_by k o seat (Finish server life slot) answer = if is_key_of k server life slot then is_held_by seat o else true
may_by k o seat (GiveBack server life slot) answer = if is_key_of k server life slot then is_held_by seat o else true
may_by k o seat event answer = true

abbrev pub may_do : Key → Option Hand → (seat : ℕ) → SeatMoment → Bool
may_do k o seat (Happened h) = may_by k o seat h.event h.answer
may_do k o seat (Look read) = true

abbrev pub is_tidy : Key → Option Hand → List (Stamped SeatMoment) → Bool
is_tidy k o [] = true
is_tidy k o (e ∷ es) = may_do k o e.seat e.what && is_tidy k (hand_after k o e.seat e.what) es

-- a claim that is answered with a job opens one
abbrev pub ends_after : ℕ → Answer → ℕ
ends_after ends (JobIs job) = ends + 1
ends_after ends answer = ends
