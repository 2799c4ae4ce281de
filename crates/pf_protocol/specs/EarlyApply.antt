-- A follower applies a slot before a missing one that shares no sector with it, and not the slot that shares one.
use Rattle.std.specs.Prelude.{◌≡◌, [], ◌∷◌, ◌++◌, true}
use Rattle.pf_entry.specs.Ops.{Sector}
use Rattle.pf_protocol.specs.declared.answers.Answer.TheVariants.{Refused, Slot as SlotIs}
use Rattle.pf_protocol.specs.declared.answers.Refusal.TheVariants.{NoneFree}
use Rattle.pf_protocol.specs.Answers.{answer_to}
use Rattle.pf_protocol.specs.declared.events.Event.TheVariants.{Claim, Submit}
use Rattle.pf_protocol.specs.Histories.{History, replay}
use Rattle.pf_protocol.specs.Shown.{ServerShows, small_group, write_at, line, so, application, arrivals}

-- slots 1 and 3 write one sector. Slot 1 never comes to server 1, which stores and acknowledges slots 2 and 3; the leader commits them
abbrev pub early_apply : (first second third : Sector) → History
early_apply first second third =
    so (Submit 0 (write_at 0 first)) (SlotIs 1)
    ∷ so (Submit 0 (write_at 4 second)) (SlotIs 2)
    ∷ so (Submit 0 (write_at 0 third)) (SlotIs 3)
    ∷ arrivals (2 ∷ 4 ∷ 6 ∷ [])
    ++ application 0 2 (write_at 4 second)
    ++ arrivals (7 ∷ 8 ∷ [])
    ++ application 1 2 (write_at 4 second)
    ++ arrivals (9 ∷ [])

-- server 1 has applied slot 2 alone, and the host was told of slots 2 and 3. Nothing more can be applied
pub record AppliesEarly (first second third : Sector) : Type 0 where
  pub acked : (replay small_group (early_apply first second third)).acked ≡ record { term = 1; slot = 2 } ∷ record { term = 1; slot = 3 } ∷ []
  pub calm : answer_to small_group (replay small_group (early_apply first second third)) Claim ≡ Refused NoneFree
  pub shown_1 : ServerShows (replay small_group (early_apply first second third)) 1 1 0
      (line 2 1 (write_at 4 second) true ∷ line 3 1 (write_at 0 third) true ∷ []) (2 ∷ [])
