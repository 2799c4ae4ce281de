-- All that is written where file data lie is blocks, and groups serve them.
use Rattle.std.proofs.Common.{◌≡◌, ◌≢◌, ◌⊎◌, inl, inr, ℕ, zero, suc, ◌+◌, ◌*◌, ◌<◌, ◌≤◌, true, List, [], ◌∷◌, ◌++◌, drop, length, take, Option, Some, None, slice_get, arith, refl, sym, ap, subst, ◌∙◌}
use Rattle.std.proofs.lemmas.Bool.{cases_eq}
use Rattle.std.proofs.lemmas.List.{take-append-drop}
use Rattle.std.proofs.lemmas.Option.{none-some, same_Some}
use Rattle.pf_base.specs.declared.asks.Ask.{Ask}
use Rattle.pf_base.specs.declared.asks.Ask.TheVariants.{Write, Read}
use Rattle.pf_entry.specs.Ops.{Sector}
use Rattle.pf_entry.specs.declared.ops.Op.{Op}
use Rattle.pf_entry.specs.declared.ops.Op.TheVariants as ops
use Rattle.pf_law_registers.specs.Orders.{given}
use Rattle.pf_law_positions.specs.Deeds.{Puts}
use Rattle.pf_law_positions.specs.PortDeeds.{port_ask}
use Rattle.pf_law_epochs.specs.InTurn.{AreWhole, eight_in}
use Rattle.pf_volume.specs.Volumes.{Extent, IsVolume}
use Rattle.pf_tree_tables.specs.Tables.{Tables}
use Rattle.pf_journal.specs.declared.layouts.Layout.{Layout}
use Rattle.pf_journal.specs.Layouts.{VolumeHasRoom, IsLayout, LayoutIs, layout_of}
use Rattle.pf_journal.proofs.LaidOut.{fits}
use Rattle.pf_mount_errands.specs.Positions.{anchors_of}
use Rattle.pf_mount.specs.Mounts.{MountIs, tables_held}
use Rattle.pf_law_contents.specs.Serial.{AreServed as AreServedBlocks}
use Rattle.pf_law_calls.specs.Doings.{HaveRegisters, IsListOf}
use Rattle.pf_law_calls.specs.Lives.{Asks, Begins, CanBe, CanComeFrom, CanTake, Hears, Input, Life, MountTold, all_opened, lived, lives, lives_from}
use Rattle.pf_law_calls.proofs.Layouts.{anchors_in}
use Rattle.pf_law_calls.proofs.Journals.{is_lived}
use Rattle.pf_law_calls.proofs.CallNumbers.{its_calls}
use Rattle.pf_law_calls.proofs.Parts.{can_until}
use Rattle.pf_law_calls.specs.Exchanges.{pends_in}
use Rattle.pf_law_calls.specs.Going.{GoesAt}
use Rattle.pf_law_calls.specs.Since.{exchanges_since, pends, pends_from}
use Rattle.pf_law_calls.proofs.DataByMoment.{far_before}
use Rattle.pf_law_homes.specs.Chunks.{ChunkGroups, groups_in}
use Rattle.pf_law_homes.specs.Ports.{Goes, Hands, IsOwed, OfData, PortOwed, Passes, PortEvent, deeds_on, nothing_pending}
use Rattle.pf_law_homes.specs.Routed.{AreRoutedChunks}
use Rattle.pf_protocol.specs.Groups.{Answered}
use Rattle.pf_law_events.specs.Events.{MountsAreServed, Brings, HandsOn, Happening, client_of, port_event, port_events, events_with, goes, owed_now, owed_to, mounts_told}
use Rattle.pf_law_events.proofs.Supers.{went_out}
use Rattle.pf_law_events.proofs.EventTurns.{AllOf, IfGoes, events_go, opened_of, told_of_all}
use Rattle.pf_law_files.specs.Blocks.{is_data_piece}
use Rattle.pf_law_files.proofs.MountAsks.{IsFar, IsOther, anchor_other, data_now, far_is, next_data}
use Rattle.pf_law_files.proofs.Blocks.{IsBefore, IsOfBlock, before_gives, data_past, data_piece, other_before, tree_from, whole_block}

-- How far file data are, of each mount and at each moment, from a moment on
abbrev pub FarThrough : Extent → (ℕ → Life) → (last : ℕ → Option Ask) → List MountTold → Type 0
FarThrough v lives last told = (k m : ℕ) → m < 16 → IsFar v (pends_from lives m (last m) (take k told)) (lives_from lives (take k told) m).mount

module _ (layout : Layout) (v : Extent) (volume : IsVolume v) where
  pub far_through : (told : List MountTold) (list : List (List ℕ)) → CanBe layout v told → HaveRegisters layout v told → IsListOf layout v told list → FarThrough v (all_opened layout v) (λ m. None) told
  far_through told list can registers is k m low =
      let before = take k told in
      let same : told ≡ before ++ drop k told = sym (take-append-drop k told) in
      let x = (lives layout v before m).mount in
      let named = its_calls layout v m before in
      let lived = is_lived layout v before m (can_until (all_opened layout v) before (drop k told) (subst (CanBe layout v) same can)) low in
      let its = exchanges_since layout v before m in
      let last = pends layout v before m in
      far_is list x.files.mount v volume its last x.task.ask x.upto (tables_held x.files) (ap (λ (t : Tables). length t.tags) lived.tables ∙ tree_from v (lives layout v before m).decided) x.files.pending x.task.work
      (subst (λ w. GoesAt list x.files.mount w its last x.task.ask x.upto (tables_held x.files) x.files.pending x.task.work) named.volume (far_before layout v told can registers list is m before (drop k told) same))

  -- What goes out

  abbrev l : LayoutIs
  l = layout_of layout

  -- it is for something else, at an anchor, or it is of a block
  abbrev pub IsElsewhere : (port : ℕ) → PortOwed → Type 0
  IsElsewhere port owed = (port < anchors_in layout) × (owed.matter ≢ OfData)

  abbrev Fits : PortEvent → Type 0
  Fits (Goes m port owed) = IsElsewhere port owed ⊎ IsOfBlock v owed.ask
  Fits event = Unit {0}

  module _ (x : MountIs) (same : anchors_of x.position ≡ anchors_in layout) (last : Option Ask) (far : IsFar v last x) (n port : ℕ) (low : port ≤ anchors_of x.position) where
    goes_data : (o : Option Ask) → x.task.ask ≡ o → Fits (goes n port (owed_to (client_of x.files.mount x.task.work) OfData o))
    goes_data None is = tt
    goes_data (Some ask) is = inr (next_data v last x ask is far).block

    goes_other : port < anchors_of x.position → (o : Option PortOwed) → IsOther o → Fits (goes n port o)
    goes_other low_port None other = tt
    goes_other low_port (Some owed) other = inl (omega (arith, low_port, same), other)

    asks_fit : Fits (goes n port (owed_now x port))
    asks_fit = elim (cases_eq port (anchors_of x.position)) [
      | inl here ↦ subst (λ o. Fits (goes n port o)) (sym (data_now x port here)) (goes_data x.task.ask refl)
      | inr apart ↦
          let low_port : port < anchors_of x.position = omega (arith, low, apart) in
          goes_other low_port (owed_now x port) (anchor_other x port low_port)
    ]

  input_fits : (x : MountIs) → anchors_of x.position ≡ anchors_in layout → (last : Option Ask) → IsFar v last x → (n epoch by : ℕ) (answer : Answered) (input : Input) → CanTake x input → Fits (port_event n x epoch by answer input)
  input_fits x same last far n epoch by answer (Begins call) can = tt
  input_fits x same last far n epoch by answer (Asks port) can = asks_fit x same last far n port can
  input_fits x same last far n epoch by answer (Hears port reply) can = tt

  all_fit : (hs : List Happening) (lives : ℕ → Life) (last : ℕ → Option Ask) → FarThrough v lives last (mounts_told hs) → AllOf layout v lives → CanComeFrom lives (mounts_told hs) → (moment : ℕ) (event : PortEvent) → slice_get (events_with lives hs) moment ≡ Some event → Fits event
  all_fit [] lives last far of can moment event at = absurd (none-some event at)
  all_fit (Brings t epoch by answer ∷ hs) lives last far of can zero event at =
      let x = (lives t.mount).mount in
      subst Fits (same_Some (port_event t.mount x epoch by answer t.input) event at)
      (input_fits x (ap anchors_in (of t.mount).lies.lies) (last t.mount) (far 0 t.mount can.0.number) t.mount epoch by answer t.input can.0.takes)
  all_fit (Brings t epoch by answer ∷ hs) lives last far of can (suc zero) event at = subst Fits (same_Some Passes event at) tt
  all_fit (Brings t epoch by answer ∷ hs) lives last far of can (suc (suc moment)) event at =
      all_fit hs (lived lives t) (λ m. pends_in m (lives m).mount (last m) t) (λ k. far (suc k)) (told_of_all layout v lives t of) can.1 moment event at
  all_fit (HandsOn m port epoch place ∷ hs) lives last far of can zero event at = subst Fits (same_Some (Hands m port epoch place) event at) tt
  all_fit (HandsOn m port epoch place ∷ hs) lives last far of can (suc moment) event at = all_fit hs lives last far of can moment event at

  -- What gives a sector of a piece

  module _ (room : VolumeHasRoom layout v) where
    pub laid_out : IsLayout l v
    laid_out = fits layout v volume room

    -- nothing that is elsewhere
    pub elsewhere_none : (m port : ℕ) (owed : PortOwed) → IsOwed l v m port owed → IsElsewhere port owed → (chunk piece nth : ℕ) (op : Op) (bytes : Sector) → is_data_piece layout v chunk piece ≡ true → port_ask owed.ask ≡ Puts chunk op → given op (8 * piece + nth) ≡ Some bytes → ⊥
    elsewhere_none m port owed its other chunk piece nth op bytes is asks gives = by owed.ask refl
      where
        by : (ask : Ask) → owed.ask ≡ ask → ⊥
        by (Read from span) same = absurd (cc)
        by (Write to span sectors) same =
            let e : Puts to (ops.Write span sectors) ≡ Puts chunk op = sym (ap port_ask same) ∙ asks in
            let chunk_is : to ≡ chunk = cc in
            let op_is : ops.Write span sectors ≡ op = cc in
            let before = subst (IsBefore l v) same (other_before l v laid_out (data_past layout) m port owed.client owed.matter owed.ask its.mount_low other.0 other.1 its.ask) in
            let behind = (data_piece layout v volume chunk piece is).behind in
            none-some bytes (sym (before_gives l v laid_out (data_past layout) to span sectors (8 * piece + nth) before (subst (λ c. 8 * l.first ≤ v.sectors * c + (8 * piece + nth)) (sym chunk_is) (omega (arith, behind)))) ∙ ap (λ o. given o (8 * piece + nth)) op_is ∙ gives)

    -- and where it is of a block, it is exactly that piece
    block_whole : (ask : Ask) → IsOfBlock v ask → (chunk piece nth : ℕ) (op : Op) (bytes : Sector) → nth < 8 → port_ask ask ≡ Puts chunk op → given op (8 * piece + nth) ≡ Some bytes → (sectors : List Sector) × (eight_in (8 * piece) op ≡ Some sectors)
    block_whole (Read from span) of chunk piece nth op bytes low asks gives = absurd (cc)
    block_whole (Write to span sectors) of chunk piece nth op bytes low asks gives =
        let op_is : ops.Write span sectors ≡ op = cc in
        (sectors, ap (eight_in (8 * piece)) (sym op_is) ∙ whole_block layout v volume volume.blocks.0 volume.blocks.1 to piece nth span sectors bytes low of (ap (λ o. given o (8 * piece + nth)) op_is ∙ gives))

    module _ (hs : List Happening) (list : List (List ℕ)) (are : MountsAreServed layout v hs) (registers : HaveRegisters layout v (mounts_told hs)) (is : IsListOf layout v (mounts_told hs) list) where
      abbrev events : List PortEvent
      events = port_events layout v hs

      is_whole : (chunk piece : ℕ) → is_data_piece layout v chunk piece ≡ true → AreWhole (deeds_on events chunk) chunk (8 * piece)
      is_whole chunk piece of_data client asked nth bytes low a =
          let w = went_out chunk (Puts chunk a.op) events nothing_pending asked client a.reply a.at in
          let out = w.2 in
          let owed = subst (IfGoes layout v) out.is (events_go layout v hs are asked w.0 w.1) in
          let its = subst Fits out.is (all_fit hs (all_opened layout v) (λ m. None) (far_through (mounts_told hs) list are.can_be registers is) (opened_of layout v) are.can_be asked w.0 w.1) in
          elim its [
            | inl other ↦ absurd (elsewhere_none out.mount out.port out.owed owed.0 other chunk piece nth a.op bytes of_data out.same a.gives)
            | inr block ↦ block_whole out.owed.ask block chunk piece nth a.op bytes low out.same a.gives
          ]

      pub blocks_served : (groups : (chunk : ℕ) → ChunkGroups) → AreRoutedChunks v groups events → AreServedBlocks (is_data_piece layout v) (λ chunk. groups_in (groups chunk)) (deeds_on events)
      blocks_served groups routed = record {
        routed = λ chunk piece of_data. (let its = data_piece layout v volume chunk piece of_data in routed chunk piece its.chunk_low its.piece_low);
        whole = is_whole;
      }
