-- Slots are committed as they are acknowledged, and not in their order.
use Rattle.std.specs.Prelude.{◌≡◌, [], ◌∷◌, ◌++◌, true}
use Rattle.pf_entry.specs.Ops.{Sector}
use Rattle.pf_protocol.specs.declared.answers.Answer.TheVariants.{Refused, Slot as SlotIs}
use Rattle.pf_protocol.specs.declared.answers.Refusal.TheVariants.{NoneFree}
use Rattle.pf_protocol.specs.Answers.{answer_to}
use Rattle.pf_protocol.specs.declared.events.Event.TheVariants.{Claim, Submit}
use Rattle.pf_protocol.specs.Histories.{History, replay}
use Rattle.pf_protocol.specs.Shown.{ServerShows, small_group, write_at, line, so, application, arrivals}

-- slot 2 is acknowledged by both followers before slot 1 comes to any
abbrev pub out_of_order : (first second : Sector) → History
out_of_order first second =
    so (Submit 0 (write_at 0 first)) (SlotIs 1)
    ∷ so (Submit 0 (write_at 1 second)) (SlotIs 2)
    ∷ arrivals (2 ∷ 3 ∷ 4 ∷ [])
    ++ application 0 2 (write_at 1 second)
    ++ arrivals (5 ∷ 0 ∷ 8 ∷ [])
    ++ application 0 1 (write_at 0 first)

-- the host was told of slot 2, and then of slot 1. Nothing more can be applied
pub record CommitsOutOfOrder (first second : Sector) : Type 0 where
  pub acked : (replay small_group (out_of_order first second)).acked ≡ record { term = 1; slot = 2 } ∷ record { term = 1; slot = 1 } ∷ []
  pub calm : answer_to small_group (replay small_group (out_of_order first second)) Claim ≡ Refused NoneFree
  pub shown_0 : ServerShows (replay small_group (out_of_order first second)) 0 1 0 (line 1 1 (write_at 0 first) true ∷ line 2 1 (write_at 1 second) true ∷ [])
      (1 ∷ 2 ∷ [])
