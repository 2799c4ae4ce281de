-- The blocks of the anchors are registers, by the chunks that groups serve, whatever else lies in these chunks.
use Rattle.std.proofs.Common.{ℕ, inl, inr, List, sym, subst}
use Rattle.std.proofs.lemmas.Bool.{cases_lt}
use Rattle.pf_volume.specs.Volumes.{Extent, IsVolume}
use Rattle.pf_paxos.specs.Registers.{AreRegisters}
use Rattle.pf_journal.specs.declared.layouts.Layout.{Layout}
use Rattle.pf_journal.specs.Layouts.{VolumeHasRoom, layout_of}
use Rattle.pf_journal.proofs.LaidOut.{fits}
use Rattle.pf_law_lists.specs.Journals.{AreAllRegistersAt}
use Rattle.pf_law_calls.proofs.Layouts.{anchors_in}
use Rattle.pf_law_homes.specs.Chunks.{ChunkGroups}
use Rattle.pf_law_homes.specs.Routed.{AreRoutedChunks}
use Rattle.pf_law_homes.proofs.Blocks.{positions_registers}
use Rattle.pf_law_events.specs.Events.{MountsAreServed, Happening, doings_of, port_events}
use Rattle.pf_law_events.proofs.Behind.{behind_registers}
use Rattle.pf_law_events.proofs.Room.{positions_in}
use Rattle.pf_law_events.proofs.EventTurns.{events_can, events_turn}

pub anchors_registers : (layout : Layout) (v : Extent) (hs : List Happening) (groups : (chunk : ℕ) → ChunkGroups) → VolumeHasRoom layout v → IsVolume v → MountsAreServed layout v hs → AreRoutedChunks v groups (port_events layout v hs)
    → AreAllRegistersAt (anchors_in layout) (layout_of layout).quorum (doings_of layout v hs)
anchors_registers layout v hs groups room volume are routed q a low = elim (cases_lt q (positions_in layout)) [
  | inl low_q ↦
      subst AreRegisters (sym (events_turn layout v hs a q are low))
      (positions_registers (layout_of layout) v (port_events layout v hs) groups (fits layout v volume room) volume (events_can layout v hs are) routed a q low low_q)
  | inr past ↦ behind_registers layout v hs a q past
]
