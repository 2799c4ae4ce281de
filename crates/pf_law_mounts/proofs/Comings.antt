-- What came to mounts, without what their ports handed on: the journal's registers are the same.
use Rattle.std.proofs.Common.{◌≡◌, ◌≢◌, ℕ, inl, inr, ◌<◌, List, [], ◌∷◌, Option, Some, None, arith, refl, sym, ap, subst}
use Rattle.pf_entry.specs.Lists.{Every}
use Rattle.pf_volume.specs.Volumes.{Extent, IsVolume}
use Rattle.pf_paxos.specs.Registers.{AreRegisters, Ask, Reply}
use Rattle.pf_paxos.specs.Quorums.{turns_on}
use Rattle.pf_journal.specs.declared.layouts.Layout.{Layout}
use Rattle.pf_journal.specs.Layouts.{VolumeHasRoom, LayoutIs, layout_of}
use Rattle.pf_law_positions.specs.Homes.{turn_or_idle}
use Rattle.pf_law_lists.specs.Journals.{Doing, history_at}
use Rattle.pf_law_calls.specs.Doings.{HaveRegisters, at_anchor, began, doings_from}
use Rattle.pf_law_calls.specs.Lives.{CanBe, Life, MountTold, all_opened, lived, mount_after}
use Rattle.pf_law_calls.proofs.Layouts.{anchors_in}
use Rattle.pf_law_homes.specs.Chunks.{ChunkGroups}
use Rattle.pf_law_homes.specs.Ports.{AreEventsFrom, CanHappen, Comes, Goes, Hands, IsClientOf, PortOwed, Passes, Pending, PortEvent, nothing_pending, pending_after, port_turn_answered, turn_of_event, port_turns_from, port_turns_on as port_turns}
use Rattle.pf_law_homes.specs.Routed.{AreRoutedChunks}
use Rattle.pf_law_events.specs.Events.{MountsAreServed, AreServedFrom, Brings, HandsOn, Happening, doings_with, port_event, port_events, events_with, mounts_told}
use Rattle.pf_law_events.proofs.SharedChunks.{anchors_registers}
use Rattle.pf_law_events.proofs.EventTurns.{events_can, events_turn}
use Rattle.pf_law_mounts.proofs.IdleTurns.{Drops, Ends, IsSomebody, Keeps, Thins, thinned}

-- the inputs alone
comings : List Happening → List Happening
comings [] = []
comings (Brings t epoch by answer ∷ hs) = Brings t epoch by answer ∷ comings hs
comings (HandsOn mount port epoch place ∷ hs) = comings hs

same_told : (hs : List Happening) → mounts_told (comings hs) ≡ mounts_told hs
unfolding comings
same_told [] = refl
same_told (Brings t epoch by answer ∷ hs) = ap (λ (told : List MountTold). t ∷ told) (same_told hs)
same_told (HandsOn mount port epoch place ∷ hs) = same_told hs

-- No client has nobody's number

turn_of_one : (client : ℕ) (reply : Option Reply) (ask : Option Ask) → (client ≡ 16 → ask ≡ None) → IsSomebody (turn_or_idle client reply ask)
turn_of_one client None None is = λ same. refl
turn_of_one client None (Some ask) is = is
turn_of_one client (Some reply) ask is = is

client_apart : (mount client : ℕ) → mount < 16 → IsClientOf mount client → client ≢ 16
client_apart mount client low (inl own) = λ same. omega (arith, same, own, low)
client_apart mount client low (inr reads) = λ same. omega (arith, same, reads)

module _ (a q : ℕ) where
  answered_one : (port : ℕ) (o : Option PortOwed) (reply : _) → IsSomebody (port_turn_answered a q port o reply)
  answered_one port None reply = λ same. refl
  answered_one port (Some owed) reply = turn_of_one owed.client _ None (λ same. refl)

  event_one : (l : LayoutIs) (v : Extent) (pending : Pending) (event : PortEvent) → CanHappen l v pending event → IsSomebody (turn_of_event a q pending event)
  event_one l v pending (Goes mount port owed) can = turn_of_one owed.client None _ (λ same. absurd (client_apart mount owed.client can.1.mount_low can.1.client same))
  event_one l v pending (Comes mount port reply epoch by answer) can = answered_one port (pending mount port) reply
  event_one l v pending (Hands mount port epoch place) can = λ same. refl
  event_one l v pending Passes can = λ same. refl

  all_one : (l : LayoutIs) (v : Extent) (pending : Pending) (events : List PortEvent) → AreEventsFrom l v pending events → Every IsSomebody (port_turns_from a q pending events)
  all_one l v pending [] are = tt
  all_one l v pending (event ∷ events) are = (event_one l v pending event are.0, all_one l v (pending_after pending event) events are.1)

  -- what is handed on is nobody's turn
  events_thin : (ls : ℕ → Life) (pending : Pending) (hs : List Happening) → Thins (port_turns_from a q pending (events_with ls hs)) (port_turns_from a q pending (events_with ls (comings hs)))
  unfolding comings
  events_thin ls pending [] = Ends
  events_thin ls pending (Brings t epoch by answer ∷ hs) = Keeps _ _ _ (Keeps _ _ _ (events_thin (lived ls t) (pending_after pending (port_event t.mount (ls t.mount).mount epoch by answer t.input)) hs))
  events_thin ls pending (HandsOn mount port epoch place ∷ hs) = Drops _ _ _ refl (events_thin ls pending hs)

module _ (layout : Layout) (v : Extent) where
  same_doings : (ls : ℕ → Life) (hs : List Happening) → doings_with layout ls (comings hs) ≡ doings_from ls (mounts_told hs)
  unfolding comings
  same_doings ls [] = refl
  same_doings ls (Brings t epoch by answer ∷ hs) =
      ap (λ (ds : List Doing). at_anchor (ls t.mount) t.input ∷ began (ls t.mount).mount (mount_after (ls t.mount).mount t.input) ∷ ds) (same_doings (lived ls t) hs)
  same_doings ls (HandsOn mount port epoch place ∷ hs) = same_doings ls hs

  served_from : (ls : ℕ → Life) (pending : Pending) (hs : List Happening) → AreServedFrom layout v ls pending hs → AreServedFrom layout v ls pending (comings hs)
  unfolding comings
  served_from ls pending [] are = are
  served_from ls pending (Brings t epoch by answer ∷ hs) are = (are.0, served_from (lived ls t) (pending_after pending (port_event t.mount (ls t.mount).mount epoch by answer t.input)) hs are.1)
  served_from ls pending (HandsOn mount port epoch place ∷ hs) are = served_from ls pending hs are

  served_comings : (hs : List Happening) → MountsAreServed layout v hs → MountsAreServed layout v (comings hs)
  served_comings hs are = record {
    can_be = subst (λ (told : List MountTold). CanBe layout v told) (sym (same_told hs)) are.can_be;
    served = served_from (all_opened layout v) nothing_pending hs are.served;
  }

  -- so the anchors are registers of the journal of inputs
  pub told_registers : (hs : List Happening) (groups : (chunk : ℕ) → ChunkGroups) → VolumeHasRoom layout v → IsVolume v → MountsAreServed layout v hs → AreRoutedChunks v groups (port_events layout v hs) → HaveRegisters layout v (mounts_told hs)
  told_registers hs groups room volume are routed position anchor low =
      let alone = served_comings hs are in
      subst (λ (ds : List Doing). AreRegisters (turns_on anchor (history_at (anchors_in layout) (layout_of layout).quorum position ds))) (same_doings (all_opened layout v) hs)
      (subst AreRegisters (sym (events_turn layout v (comings hs) anchor position alone low))
      (thinned (port_turns anchor position (port_events layout v hs)) (port_turns anchor position (port_events layout v (comings hs))) (events_thin anchor position (all_opened layout v) nothing_pending hs)
      (all_one anchor position (layout_of layout) v nothing_pending (port_events layout v (comings hs)) (events_can layout v (comings hs) alone))
      (subst AreRegisters (events_turn layout v hs anchor position are low) (anchors_registers layout v hs groups room volume are routed position anchor low))))
