-- What the seats of a live line do.
use Rattle.std.specs.Prelude.{◌≡◌, ℕ, Bool, true, false, List, [], ◌∷◌, ◌++◌}
use Rattle.pf_entry.specs.Lists.{Every}
use Rattle.pf_turn.specs.declared.log.Stamped.{Stamped}
use Rattle.pf_protocol.specs.declared.answers.Answer.TheVariants.{Refused}
use Rattle.pf_protocol.specs.declared.answers.Refusal.TheVariants.{NoneFree}
use Rattle.pf_protocol.specs.declared.events.Event.{Event}
use Rattle.pf_protocol.specs.declared.events.Event.TheVariants.{Claim, Finish, GiveBack}
use Rattle.pf_shared.specs.declared.moment.SeatMoment.{SeatMoment}
use Rattle.pf_shared.specs.declared.moment.SeatMoment.TheVariants.{Happened, Look}
use Rattle.pf_shared.specs.Moments.{entry}

abbrev pub List' : Type 0
List' = List (Stamped SeatMoment)

-- an apply seat claims, finishes and gives back
abbrev pub is_applying : Event → Bool
is_applying Claim = true
is_applying (Finish server life slot) = true
is_applying (GiveBack server life slot) = true
is_applying event = false

abbrev pub Applies : List' → SeatMoment → Type 0
Applies before (Happened h) = is_applying h.event ≡ true
Applies before (Look read) = ⊥

-- the list ends with this entry
abbrev pub EndsWith : List' → Stamped SeatMoment → Type 0
EndsWith list e = (rest : List') × (rest ++ e ∷ [] ≡ list)

-- a claim of the seat found nothing
abbrev pub nothing_free : ℕ → Stamped SeatMoment
nothing_free n = entry n (Happened (record { event = Claim; answer = Refused NoneFree }))

abbrev pub is_give_back : Event → Bool
is_give_back (GiveBack server life slot) = true
is_give_back event = false

abbrev pub gives_back : SeatMoment → Bool
gives_back (Happened h) = is_give_back h.event
gives_back (Look read) = false

-- no job is given back in the list
abbrev pub GivesNoneBack : List' → Type 0
GivesNoneBack list = Every (λ e. gives_back e.what ≡ false) list

-- These are all entries of an apply seat that is done: the last one is a claim that found nothing, and no job was given back
pub record HasRunOut (n : ℕ) (own : List') : Type 0 where
  pub last : EndsWith own (nothing_free n)
  pub kept : GivesNoneBack own
