-- What a later term has passed over is void: a merge does not take it.
use Rattle.std.specs.Prelude.{◌≡◌, [], ◌∷◌, ◌++◌, true, false}
use Rattle.pf_entry.specs.Ops.{Sector}
use Rattle.pf_protocol.specs.declared.answers.Answer.TheVariants.{Done, Refused, Slot as SlotIs, Term as TermIs}
use Rattle.pf_protocol.specs.declared.answers.Refusal.TheVariants.{NoneFree}
use Rattle.pf_protocol.specs.Answers.{answer_to}
use Rattle.pf_protocol.specs.declared.events.Event.TheVariants.{Claim, Elect, Restart, Stop, Submit}
use Rattle.pf_protocol.specs.Histories.{History, replay}
use Rattle.pf_protocol.specs.Shown.{ServerShows, small_group, write_at, line, so, application, arrivals}

-- server 0 alone holds slots 2 to 4 of term 1 as a new leader passes them over; its vote brings them to the merge of term 3
abbrev pub until_the_merge : (first second third fourth fifth sixth : Sector) → History
until_the_merge first second third fourth fifth sixth =
    so (Submit 0 (write_at 0 first)) (SlotIs 1)
    ∷ so (Submit 0 (write_at 1 second)) (SlotIs 2)
    ∷ so (Submit 0 (write_at 2 third)) (SlotIs 3)
    ∷ so (Submit 0 (write_at 3 fourth)) (SlotIs 4)
    ∷ arrivals (0 ∷ 1 ∷ [])
    ++ so (Stop 0) Done
    ∷ so (Elect 1) (TermIs 2)
    ∷ arrivals (11 ∷ 12 ∷ 14 ∷ 15 ∷ [])
    ++ application 1 1 (write_at 0 first)
    ++ so (Submit 1 (write_at 5 fifth)) (SlotIs 2)
    ∷ arrivals (18 ∷ 19 ∷ [])
    ++ application 1 2 (write_at 5 fifth)
    ++ so (Restart 0 false) Done
    ∷ so (Elect 1) (TermIs 3)
    ∷ arrivals (21 ∷ 23 ∷ [])

-- then the merged slots reach server 0, and the leader goes on in slot 3
abbrev pub ghost_slots : (first second third fourth fifth sixth : Sector) → History
ghost_slots first second third fourth fifth sixth =
    until_the_merge first second third fourth fifth sixth ++
    arrivals (24 ∷ 26 ∷ 28 ∷ 29 ∷ [])
    ++ so (Submit 1 (write_at 6 sixth)) (SlotIs 3)
    ∷ []

-- after the merge and after all, slot 2 is the op of term 2, which was committed; the ghosts in slots 3 and 4 stay uncommitted at server 0. Nothing
-- more can be applied
pub record PassesOver (first second third fourth fifth sixth : Sector) : Type 0 where
  pub acked : (replay small_group (ghost_slots first second third fourth fifth sixth)).acked ≡ record { term = 2; slot = 2 } ∷ []
  pub before : ServerShows (replay small_group (until_the_merge first second third fourth fifth sixth)) 1 3 0
      (line 1 3 (write_at 0 first) true ∷ line 2 3 (write_at 5 fifth) true ∷ []) (1 ∷ 2 ∷ [])
  pub calm : answer_to small_group (replay small_group (ghost_slots first second third fourth fifth sixth)) Claim ≡ Refused NoneFree
  pub shown_0 : ServerShows (replay small_group (ghost_slots first second third fourth fifth sixth)) 0 3 0
      (line 1 3 (write_at 0 first) false ∷ line 2 3 (write_at 5 fifth) false ∷ line 3 1 (write_at 2 third) false ∷ line 4 1 (write_at 3 fourth) false ∷ []) ([])
