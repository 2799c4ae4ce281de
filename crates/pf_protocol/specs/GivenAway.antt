-- A slot that nobody of a new leader's majority has is given to another op, and a late packet of the old one does nothing.
use Rattle.std.specs.Prelude.{◌≡◌, [], ◌∷◌, ◌++◌, true, false}
use Rattle.pf_entry.specs.Ops.{Sector}
use Rattle.pf_protocol.specs.declared.answers.Answer.TheVariants.{Done, Refused, Slot as SlotIs, Term as TermIs}
use Rattle.pf_protocol.specs.declared.answers.Refusal.TheVariants.{NoneFree}
use Rattle.pf_protocol.specs.Answers.{answer_to}
use Rattle.pf_protocol.specs.declared.events.Event.TheVariants.{Claim, Elect, Restart, Stop, Submit}
use Rattle.pf_protocol.specs.Histories.{History, replay}
use Rattle.pf_protocol.specs.Shown.{ServerShows, small_group, write_at, line, so, application, arrivals}

-- slot 1 reaches nobody. The next leader gives it to another op and commits that; the old leader comes back with the old op
abbrev pub until_the_restart : (first second : Sector) → History
until_the_restart first second =
    so (Submit 0 (write_at 0 first)) (SlotIs 1)
    ∷ so (Stop 0) Done
    ∷ so (Elect 1) (TermIs 2)
    ∷ arrivals (3 ∷ 4 ∷ [])
    ++ so (Submit 1 (write_at 1 second)) (SlotIs 1)
    ∷ arrivals (6 ∷ 7 ∷ [])
    ++ application 1 1 (write_at 1 second)
    ++ so (Restart 0 false) Done
    ∷ []

-- then the old leader hears its own packet late, and takes the new entry
abbrev pub lost_slot : (first second : Sector) → History
lost_slot first second =
    until_the_restart first second ++
    arrivals (0 ∷ 5 ∷ [])

-- the old leader came back with the old op, which is replaced: each server that ran on holds the new op; the host was told of it alone. Nothing more
-- can be applied
pub record GivesAway (first second : Sector) : Type 0 where
  pub acked : (replay small_group (lost_slot first second)).acked ≡ record { term = 2; slot = 1 } ∷ []
  pub before : ServerShows (replay small_group (until_the_restart first second)) 0 1 0 (line 1 1 (write_at 0 first) false ∷ []) ([])
  pub calm : answer_to small_group (replay small_group (lost_slot first second)) Claim ≡ Refused NoneFree
  pub shown_0 : ServerShows (replay small_group (lost_slot first second)) 0 2 0 (line 1 2 (write_at 1 second) false ∷ []) ([])
  pub shown_1 : ServerShows (replay small_group (lost_slot first second)) 1 2 0 (line 1 2 (write_at 1 second) true ∷ []) (1 ∷ [])
