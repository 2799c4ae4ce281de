-- An entry lets pass only slots that its look-behind list has room to name.
use Rattle.std.specs.Prelude.{◌≡◌, [], ◌∷◌, ◌++◌, true}
use Rattle.pf_entry.specs.Ops.{Sector}
use Rattle.pf_protocol.specs.declared.answers.Answer.TheVariants.{Refused, Slot as SlotIs}
use Rattle.pf_protocol.specs.declared.answers.Refusal.TheVariants.{NoneFree}
use Rattle.pf_protocol.specs.Answers.{answer_to}
use Rattle.pf_protocol.specs.declared.events.Event.TheVariants.{Claim, Submit}
use Rattle.pf_protocol.specs.Histories.{History, replay}
use Rattle.pf_protocol.specs.Shown.{ServerShows, small_group, write_at, line, so, application, arrivals}

-- four slots write four sectors. Slot 1 never comes to server 1, and the others are committed there
abbrev pub past_the_names : (first second third fourth : Sector) → History
past_the_names first second third fourth =
    so (Submit 0 (write_at 0 first)) (SlotIs 1)
    ∷ so (Submit 0 (write_at 1 second)) (SlotIs 2)
    ∷ so (Submit 0 (write_at 2 third)) (SlotIs 3)
    ∷ so (Submit 0 (write_at 3 fourth)) (SlotIs 4)
    ∷ arrivals (2 ∷ 4 ∷ 6 ∷ 8 ∷ [])
    ++ application 0 2 (write_at 1 second)
    ++ arrivals (9 ∷ [])
    ++ application 0 3 (write_at 2 third)
    ++ arrivals (10 ∷ 11 ∷ [])
    ++ application 1 2 (write_at 1 second)
    ++ arrivals (12 ∷ [])
    ++ application 1 3 (write_at 2 third)
    ++ arrivals (13 ∷ [])

-- server 1 has applied slots 2 and 3, which name slot 1, and not slot 4, which does not. Nothing more can be applied
pub record WaitsPastTheNames (first second third fourth : Sector) : Type 0 where
  pub acked : (replay small_group (past_the_names first second third fourth)).acked
      ≡ record { term = 1; slot = 2 } ∷ record { term = 1; slot = 3 } ∷ record { term = 1; slot = 4 } ∷ []
  pub calm : answer_to small_group (replay small_group (past_the_names first second third fourth)) Claim ≡ Refused NoneFree
  pub shown_1 : ServerShows (replay small_group (past_the_names first second third fourth)) 1 1 0
      (line 2 1 (write_at 1 second) true ∷ line 3 1 (write_at 2 third) true ∷ line 4 1 (write_at 3 fourth) true ∷ []) (2 ∷ 3 ∷ [])
