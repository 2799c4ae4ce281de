-- An uncommitted slot that one of a new leader's majority holds is kept, and until it is committed the leader does not serve.
use Rattle.std.specs.Prelude.{◌≡◌, [], ◌∷◌, ◌++◌, true, false}
use Rattle.pf_entry.specs.Ops.{Sector}
use Rattle.pf_protocol.specs.declared.answers.Answer.TheVariants.{Done, Refused, Slot as SlotIs, Term as TermIs}
use Rattle.pf_protocol.specs.declared.answers.Refusal.TheVariants.{NotLeader, NoneFree}
use Rattle.pf_protocol.specs.Answers.{answer_to}
use Rattle.pf_protocol.specs.declared.events.Event.TheVariants.{Claim, Elect, Stop, Submit}
use Rattle.pf_protocol.specs.Histories.{History, replay}
use Rattle.pf_protocol.specs.Shown.{ServerShows, small_group, write_at, line, so, application, arrivals}

-- slot 1 reaches server 1 alone, which becomes leader, merges it and refuses a submission until it is committed
abbrev pub kept_slot : (first second : Sector) → History
kept_slot first second =
    so (Submit 0 (write_at 0 first)) (SlotIs 1)
    ∷ arrivals (0 ∷ [])
    ++ so (Stop 0) Done
    ∷ so (Elect 1) (TermIs 2)
    ∷ arrivals (4 ∷ 5 ∷ [])
    ++ so (Submit 1 (write_at 1 second)) (Refused NotLeader)
    ∷ arrivals (7 ∷ 8 ∷ [])
    ++ application 1 1 (write_at 0 first)
    ++ so (Submit 1 (write_at 1 second)) (SlotIs 2)
    ∷ []

-- slot 1 is committed in the new term, and the next submission has slot 2. Nothing more can be applied
pub record KeepsSlot (first second : Sector) : Type 0 where
  pub acked : (replay small_group (kept_slot first second)).acked ≡ []
  pub calm : answer_to small_group (replay small_group (kept_slot first second)) Claim ≡ Refused NoneFree
  pub shown_1 : ServerShows (replay small_group (kept_slot first second)) 1 2 0 (line 1 2 (write_at 0 first) true ∷ line 2 2 (write_at 1 second) false ∷ [])
      (1 ∷ [])
