-- A beginning of what a run does to a group.
use Rattle.std.specs.Prelude.{◌≡◌, List, ◌++◌}
use Rattle.pf_entry.specs.Lists.{Every}
use Rattle.pf_protocol.specs.declared.events.Event.{Event}
use Rattle.pf_protocol.specs.declared.events.Event.TheVariants.{Claim, GiveBack}
use Rattle.pf_protocol.specs.Histories.{History, IsPrefix, replay}
use Rattle.pf_group.specs.GroupIs.{GroupIs, state_of}
use Rattle.pf_group_rounds.specs.Halts.{Halt}
use Rattle.pf_group_rounds.specs.Chunks.{Chunk}
use Rattle.pf_group_rounds.specs.Agreeing.{told_history}

abbrev pub IsClaimOrReturn : Event → Type 0
IsClaimOrReturn Claim = Unit {0}
IsClaimOrReturn (GiveBack server life slot) = Unit {0}
IsClaimOrReturn _ = ⊥

-- The group stands after some first events of a run that began at an earlier one and would have led to this chunk. Jobs that were claimed
-- then and given back, for want of memory, stand in its history and changed nothing.
pub record GroupHasBegun (halts : List Halt) (old : GroupIs) (would : Chunk) (new : GroupIs) : Type 0 where
  pub done : History
  pub undone : History
  pub later : IsPrefix (told_history halts old) done
  pub part : IsPrefix done would.history
  pub recorded : told_history halts new ≡ done ++ undone
  pub returned : Every (λ h. IsClaimOrReturn h.event) undone
  pub state : state_of new ≡ replay new.setup done
