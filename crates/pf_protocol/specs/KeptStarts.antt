-- The start of a term stays known where every entry of that term is gone, so what it passed over stays void.
use Rattle.std.specs.Prelude.{◌≡◌, [], ◌∷◌, ◌++◌, false}
use Rattle.pf_entry.specs.Ops.{Sector}
use Rattle.pf_entry.specs.declared.ops.Op.TheVariants.{Noop}
use Rattle.pf_protocol.specs.declared.answers.Answer.TheVariants.{Done, Refused, Slot as SlotIs, Term as TermIs}
use Rattle.pf_protocol.specs.declared.answers.Refusal.TheVariants.{NoneFree}
use Rattle.pf_protocol.specs.Answers.{answer_to}
use Rattle.pf_protocol.specs.declared.events.Event.TheVariants.{Claim, Elect, Restart, Stop, Submit}
use Rattle.pf_protocol.specs.Histories.{History, replay}
use Rattle.pf_protocol.specs.Shown.{ServerShows, small_group, write_at, line, so, application, arrivals}

-- server 2 held an entry of term 2, then one of term 3 in its place; it merges with the vote of server 0, which holds an entry of term 1 that term 2
-- passed over
abbrev pub kept_start : (first second third fourth : Sector) → History
kept_start first second third fourth =
    so (Submit 0 (write_at 0 first)) (SlotIs 1)
    ∷ so (Submit 0 (write_at 5 second)) (SlotIs 2)
    ∷ arrivals (1 ∷ [])
    ++ so (Stop 0) Done
    ∷ so (Elect 1) (TermIs 2)
    ∷ arrivals (6 ∷ 7 ∷ 9 ∷ 10 ∷ [])
    ++ application 1 1 (write_at 0 first)
    ++ so (Submit 1 (write_at 6 third)) (SlotIs 2)
    ∷ so (Submit 1 (write_at 5 fourth)) (SlotIs 3)
    ∷ arrivals (15 ∷ 16 ∷ [])
    ++ application 1 3 (write_at 5 fourth)
    ++ so (Elect 1) (TermIs 3)
    ∷ arrivals (19 ∷ 20 ∷ 22 ∷ 26 ∷ [])
    ++ so (Stop 1) Done
    ∷ so (Restart 0 false) Done
    ∷ so (Elect 2) (TermIs 4)
    ∷ arrivals (29 ∷ 31 ∷ [])

-- slot 2 is a no-op, and not the op of term 1 that was passed over. Nothing more can be applied
pub record KeepsStart (first second third fourth : Sector) : Type 0 where
  pub acked : (replay small_group (kept_start first second third fourth)).acked ≡ record { term = 2; slot = 3 } ∷ []
  pub calm : answer_to small_group (replay small_group (kept_start first second third fourth)) Claim ≡ Refused NoneFree
  pub shown_2 : ServerShows (replay small_group (kept_start first second third fourth)) 2 4 0
      (line 1 4 (write_at 0 first) false ∷ line 2 4 Noop false ∷ line 3 4 (write_at 5 fourth) false ∷ []) ([])
