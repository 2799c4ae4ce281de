-- The blocks of a position at an anchor are registers.
use Rattle.std.proofs.Common.{◌≡◌, ℕ, zero, suc, ◌*◌, ◌<◌, List, length, arith}
use Rattle.std.proofs.lemmas.Option.{none-some}
use Rattle.pf_volume.specs.Volumes.{Extent}
use Rattle.pf_paxos.specs.Registers.{AreRegisters, Turn}
use Rattle.pf_law_halves.specs.Halves.{AreAnsweredThere, IsOfHalves}
use Rattle.pf_law_halves.proofs.Beside.{halves_registers}
use Rattle.pf_journal.specs.Sectors.{block_in}
use Rattle.pf_journal.specs.Layouts.{IsLayout, LayoutIs, home_on}
use Rattle.pf_law_homes.specs.Chunks.{ChunkGroups, IsRoutedOver}
use Rattle.pf_law_homes.specs.Ports.{AreEvents, PortEvent, deeds_on, nothing_pending, port_turns_on}
use Rattle.pf_law_homes.proofs.HalfAnswers.{answered_there}
use Rattle.pf_law_homes.proofs.Half.{half_registers}
use Rattle.pf_law_homes.proofs.PortPending.{AreOwed, deeds_there}
use Rattle.pf_law_homes.proofs.Turns.{events_beside, events_of_half, half_turns}

nothing_owed : (l : LayoutIs) (v : Extent) → AreOwed l v nothing_pending
nothing_owed l v m p owed is = absurd (none-some owed is)

module _ (l : LayoutIs) (v : Extent) (is : IsLayout l v) (k : ℕ) (eight : v.sectors ≡ 8 * k) (some : 0 < k) (a q : ℕ) (low_a : a < length l.anchors) (low_q : q < l.positions) (events : List PortEvent) (can : AreEvents l v events) where
  abbrev half_of : (half : ℕ) → List Turn
  half_of half = half_turns l v is k eight some a q low_a low_q half nothing_pending events

  there : AreAnsweredThere (port_turns_on a q events) (half_of 0) (half_of 1)
  there zero client asked answered ask reply low of x =
      answered_there l v is k eight some a q low_a low_q 0 (omega arith) events asked answered nothing_pending x.turn x.next ask reply client (nothing_owed l v) can x.at x.its x.asks of x.at_next x.its_next x.gives x.later
      (λ j other after before at. x.no_other j other after before at)
  there (suc zero) client asked answered ask reply low of x =
      answered_there l v is k eight some a q low_a low_q 1 (omega arith) events asked answered nothing_pending x.turn x.next ask reply client (nothing_owed l v) can x.at x.its x.asks of x.at_next x.its_next x.gives x.later
      (λ j other after before at. x.no_other j other after before at)
  there (suc (suc half)) client asked answered ask reply low of x = absurd (omega (arith, low))

  of_halves : IsOfHalves (port_turns_on a q events) (half_of 0) (half_of 1)
  of_halves = record {
    of_low = events_of_half l v is k eight some a q low_a low_q 0 (omega arith) events nothing_pending (nothing_owed l v) can;
    of_high = events_of_half l v is k eight some a q low_a low_q 1 (omega arith) events nothing_pending (nothing_owed l v) can;
    beside = events_beside l v is k eight some a q low_a low_q events nothing_pending (nothing_owed l v) can;
    answered = there;
  }

  pub position_is : (groups : (chunk : ℕ) → ChunkGroups) → IsRoutedOver groups block_in (home_on l v.sectors a q) (deeds_on events) → AreRegisters (port_turns_on a q events)
  position_is groups routed =
      let home = home_on l v.sectors a q in
      halves_registers (port_turns_on a q events) (half_of 0) (half_of 1) of_halves
      (half_registers (groups (home.chunk 0)) block_in home 0 (deeds_on events (home.chunk 0)) (omega arith) (deeds_there (home.chunk 0) events nothing_pending) routed.zeros (routed.each 0 (omega arith)))
      (half_registers (groups (home.chunk 1)) block_in home 1 (deeds_on events (home.chunk 1)) (omega arith) (deeds_there (home.chunk 1) events nothing_pending) routed.zeros (routed.each 1 (omega arith)))
