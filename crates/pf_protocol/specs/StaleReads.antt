-- A leader that was deposed takes up a read and answers none; the new leader answers the bytes that it committed.
use Rattle.std.specs.Prelude.{◌≡◌, [], ◌∷◌, ◌++◌}
use Rattle.pf_entry.specs.Ops.{Sector}
use Rattle.pf_protocol.specs.declared.answers.Answer.TheVariants.{Read as ReadIs, Refused, Slot as SlotIs, Term as TermIs}
use Rattle.pf_protocol.specs.declared.answers.Refusal.TheVariants.{NotLeader, NoneFree}
use Rattle.pf_protocol.specs.Answers.{answer_to}
use Rattle.pf_protocol.specs.declared.events.Event.TheVariants.{Claim, Elect, Fetch, Submit}
use Rattle.pf_entry.specs.Sets
use Rattle.pf_protocol.specs.Histories.{History, replay}
use Rattle.pf_protocol.specs.Shown.{small_group, write_at, so, application, arrivals}

-- server 1 takes over and commits slot 1. Server 0 still takes up a read, learns of the new term, and refuses the next
abbrev pub before_read : (first : Sector) → History
before_read first =
    so (Elect 1) (TermIs 2)
    ∷ arrivals (1 ∷ 2 ∷ [])
    ++ so (Submit 1 (write_at 0 first)) (SlotIs 1)
    ∷ arrivals (4 ∷ 5 ∷ [])
    ++ application 1 1 (write_at 0 first)
    ++ so (Fetch 0 (record { first = 0; count = 1 })) (ReadIs 0)
    ∷ arrivals (7 ∷ 8 ∷ 9 ∷ [])
    ++ so (Fetch 0 (record { first = 0; count = 1 })) (Refused NotLeader)
    ∷ []

-- server 1 then takes up a read and answers it
abbrev pub stale_read : (first : Sector) → History
stale_read first =
    before_read first
    ++ so (Fetch 1 (record { first = 0; count = 1 })) (ReadIs 1)
    ∷ arrivals (12 ∷ 13 ∷ [])

-- one read was answered, by the new leader, with what it wrote. Nothing more can be applied
pub record ReadsAtTheLeader (first : Sector) : Type 0 where
  pub acked : (replay small_group (stale_read first)).acked ≡ record { term = 2; slot = 1 } ∷ []
  pub acked_before : (replay small_group (before_read first)).acked ≡ record { term = 2; slot = 1 } ∷ []
  pub answered : (replay small_group (stale_read first)).answered ≡ record
      { number = 1; server = 1; term = 2; range = record { first = 0; count = 1 }; base = 0; applied = Sets.from_items (1 ∷ []); bytes = first ∷ [] } ∷ []
  pub calm : answer_to small_group (replay small_group (stale_read first)) Claim ≡ Refused NoneFree
