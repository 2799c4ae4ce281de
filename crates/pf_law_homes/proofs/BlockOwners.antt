-- Nobody but its own mount hands on a write of a block, whatever else is written in its chunk.
use Rattle.std.proofs.Common.{◌≡◌, ℕ, zero, suc, ◌+◌, ◌*◌, ◌/◌, ◌%◌, ◌<◌, ◌≤◌, inl, inr, ◌==◌, true, cond, nat_le, nat_lt, List, [], ◌∷◌, length, Option, Some, None, slice_get, arith, refl, sym, ap, ◌∙◌}
use Rattle.std.proofs.lemmas.Bool.{and_parts, cases_Bool, eqb-true, leb-true, ltb-true}
use Rattle.std.proofs.lemmas.Option.{none-some, same_Some}
use Rattle.std.proofs.lemmas.Nat.{div_below}
use Rattle.pf_base.specs.Asks.{chunk_of}
use Rattle.pf_base.specs.Span.{Span, is_in}
use Rattle.pf_base.specs.declared.asks.Ask.{Ask}
use Rattle.pf_base.specs.declared.asks.Ask.TheVariants.{Write, Read}
use Rattle.pf_base.specs.declared.asks.Reply.{Reply}
use Rattle.pf_entry.specs.Ops.{Sector}
use Rattle.pf_entry.specs.declared.ops.Op.{Op}
use Rattle.pf_entry.specs.declared.ops.Op.TheVariants as ops
use Rattle.pf_entry.proofs.Cases.{by_test}
use Rattle.pf_protocol.specs.Groups.{Answered}
use Rattle.pf_protocol.specs.Ports.{Submission}
use Rattle.pf_law_registers.specs.Orders.{given}
use Rattle.pf_volume.specs.Volumes.{Extent}
use Rattle.pf_law_positions.specs.Deeds.{Deed, Gets, PortAsk, PortReply, Puts, Submits, Takes}
use Rattle.pf_law_positions.specs.Homes.{PositionHome, sector_of}
use Rattle.pf_law_positions.specs.PortDeeds.{no_deed, port_ask, port_reply}
use Rattle.pf_law_epochs.specs.Routed.{IsRouted}
use Rattle.pf_journal.specs.Sectors.{block_bytes}
use Rattle.pf_journal.specs.Layouts.{IsLayout, LayoutIs, home_on, place_on}
use Rattle.pf_law_homes.specs.Halves.{half_on}
use Rattle.pf_law_homes.specs.Chunks.{ChunkGroups, IsRoutedHalf, groups_in}
use Rattle.pf_law_homes.specs.Ports.{AreEvents, AreEventsFrom, CanHappen, Comes, Goes, Hands, IsAskFor, IsOwed, Matter, OfBlock, OfData, OfHalf, OfPause, OfSuper, PortOwed, Passes, Pending, PortEvent, deed_answered, deed_at, deed_handed, deed_of, deeds_from, deeds_on, nothing_pending, pending_after}
use Rattle.pf_law_homes.proofs.Apart.{half_eight, one_place, one_sector, place_before, whole_piece}
use Rattle.pf_law_homes.proofs.Asks.{block_chunk, block_place, data_given, super_given}
use Rattle.pf_law_homes.proofs.HalfChunks.{given_none}

-- A deed that asks something is an ask of a port

abbrev client_in : Deed → ℕ
client_in (Takes client reply ask) = client
client_in (Submits client chunk epoch place) = client

abbrev ask_in : Deed → Option PortAsk
ask_in (Takes client reply ask) = ask
ask_in (Submits client chunk epoch place) = None

record WasAsked (l : LayoutIs) (v : Extent) (c client : ℕ) (asks : PortAsk) : Type 0 where
  mount : ℕ
  port : ℕ
  owed : PortOwed
  is : IsOwed l v mount port owed
  at : chunk_of owed.ask ≡ c
  its : owed.client ≡ client
  same : port_ask owed.ask ≡ asks

asks_at : (c : ℕ) (owed : PortOwed) (deed : Deed) (asks : PortAsk) → ask_in deed ≡ None → ask_in (deed_at c owed deed) ≡ Some asks → ⊥
asks_at c owed deed asks none = by_test (chunk_of owed.ask == c) (λ b. ask_in (cond b deed no_deed) ≡ Some asks → ⊥) (λ same is. none-some asks (sym none ∙ is)) (λ other is. none-some asks is)

none_answered : (c epoch by : ℕ) (answer : Answered) (owed : Option PortOwed) (reply : Reply) (asks : PortAsk) → ask_in (deed_answered c epoch by answer owed reply) ≡ Some asks → ⊥
none_answered c epoch by answer None reply asks is = none-some asks is
none_answered c epoch by answer (Some owed) reply asks is = asks_at c owed (Takes owed.client (port_reply owed.ask epoch by answer reply) None) asks refl is

none_handed : (c epoch place : ℕ) (owed : Option PortOwed) (asks : PortAsk) → ask_in (deed_handed c epoch place owed) ≡ Some asks → ⊥
none_handed c epoch place None asks is = none-some asks is
none_handed c epoch place (Some owed) asks is = asks_at c owed (Submits owed.client (chunk_of owed.ask) epoch place) asks refl is

module _ (l : LayoutIs) (v : Extent) (c client : ℕ) (asks : PortAsk) where
  event_asks : (pending : Pending) (event : PortEvent) → CanHappen l v pending event → client_in (deed_of c pending event) ≡ client → ask_in (deed_of c pending event) ≡ Some asks → WasAsked l v c client asks
  event_asks pending (Goes m p owed) can its is =
      let deed = Takes owed.client None (Some (port_ask owed.ask)) in
      by_test (chunk_of owed.ask == c) (λ b. client_in (cond b deed no_deed) ≡ client → ask_in (cond b deed no_deed) ≡ Some asks → WasAsked l v c client asks)
      (λ same its is. record { mount = m; port = p; owed = owed; is = can.1; at = eqb-true (chunk_of owed.ask) c same; its = its; same = same_Some (port_ask owed.ask) asks is })
      (λ other its is. absurd (none-some asks is))
      its is
  event_asks pending (Comes m p reply epoch by answer) can its is = absurd (none_answered c epoch by answer (pending m p) reply asks is)
  event_asks pending (Hands m p epoch place) can its is = absurd (none_handed c epoch place (pending m p) asks is)
  event_asks pending Passes can its is = absurd (none-some asks is)

  was_asked : (events : List PortEvent) (pending : Pending) (moment : ℕ) (reply : Option PortReply) → AreEventsFrom l v pending events → slice_get (deeds_from c pending events) moment ≡ Some (Takes client reply (Some asks)) → WasAsked l v c client asks
  was_asked [] pending moment reply can at = absurd (none-some (Takes client reply (Some asks)) at)
  was_asked (event ∷ events) pending zero reply can at =
      let is = same_Some (deed_of c pending event) (Takes client reply (Some asks)) at in
      event_asks pending event can.0 (ap client_in is) (ap ask_in is)
  was_asked (event ∷ events) pending (suc moment) reply can at = was_asked events (pending_after pending event) moment reply can.1 at

abbrev op_in : PortAsk → Option Op
op_in (Puts chunk op) = Some op
op_in (Gets chunk range) = None

module _ (l : LayoutIs) (v : Extent) (is : IsLayout l v) (k : ℕ) (eight : v.sectors ≡ 8 * k) (some : 0 < k) (a q half : ℕ) (low_a : a < length l.anchors) (low_q : q < l.positions) (low : half < 2) where
  abbrev home : PositionHome
  home = home_on l v.sectors a q

  abbrev x : ℕ
  x = half_on l a q half

  module _ (block : ℕ) (small : block < 16) (of : block / 8 ≡ half) where
    sector : sector_of home block ≡ x % v.sectors + block % 8
    sector = ap (λ h. home.first h + block % 8) of

    -- what writes the block is the block's own
    own_write : (m p client : ℕ) (matter : Matter) (ask : Ask) (op : Op) (bytes : Sector) → m < 16 → IsAskFor l v m p client matter ask → chunk_of ask ≡ x / v.sectors → op_in (port_ask ask) ≡ Some op → given op (x % v.sectors + block % 8) ≡ Some bytes → client ≡ block
    own_write m p client (OfBlock u b) ask op bytes low_m its here same gives =
        let w = place_on l p u m in
        let range : Span = record { first = w % v.sectors; count = 1 } in
        let wrote : ops.Write range (block_bytes b ∷ []) ≡ op = same_Some (ops.Write range (block_bytes b ∷ [])) op (ap (λ (o : Ask). op_in (port_ask o)) (sym its.4) ∙ same) in
        let chunk : w / v.sectors ≡ x / v.sectors = ap chunk_of (sym its.4) ∙ here in
        elim (cases_Bool (is_in range (x % v.sectors + block % 8))) [
          | inr never ↦ absurd (none-some bytes (sym (given_none range (block_bytes b ∷ []) (x % v.sectors + block % 8) never) ∙ ap (λ o. given o (x % v.sectors + block % 8)) wrote ∙ gives))
          | inl within ↦
              let y = place_on l a q block in
              let place : w % v.sectors ≡ y % v.sectors = at_it w within ∙ sym (block_place l v is k eight some a q half low_a low_q low block of) in
              let one = one_sector v.sectors w y (chunk ∙ sym (block_chunk l v is k eight some a q half low_a low_q low block of)) place in
              its.2 ∙ (one_place l v is p a u q m block its.0 low_a its.1 low_q low_m small one).mount
        ]
      where
        at_it : (w : ℕ) → is_in (record { first = w % v.sectors; count = 1 }) (x % v.sectors + block % 8) ≡ true → w % v.sectors ≡ x % v.sectors + block % 8
        at_it w within =
            let p = and_parts (nat_le (w % v.sectors) (x % v.sectors + block % 8)) (nat_lt (x % v.sectors + block % 8) (w % v.sectors + 1)) within in
            let least = leb-true (w % v.sectors) (x % v.sectors + block % 8) p.0 in
            let most = ltb-true (x % v.sectors + block % 8) (w % v.sectors + 1) p.1 in
            omega (arith, least, most)
    own_write m p client (OfHalf u other) ask op bytes low_m its here same gives = absurd (none-some op (ap (λ (o : Ask). op_in (port_ask o)) (sym its.3) ∙ same))
    own_write m p client (OfPause u) ask op bytes low_m its here same gives = absurd (none-some op (ap (λ (o : Ask). op_in (port_ask o)) (sym its.1) ∙ same))
    own_write m p client OfSuper (Read chunk span) op bytes low_m its here same gives = absurd (none-some op same)
    own_write m p client OfSuper (Write chunk span sectors) op bytes low_m its here same gives =
        absurd (none-some bytes (sym (super_given l v is k eight some a q half low_a low_q low chunk span sectors (block % 8) its here) ∙ ap (λ o. given o (x % v.sectors + block % 8)) (same_Some (ops.Write span sectors) op same) ∙ gives))
    own_write m p client OfData (Read chunk span) op bytes low_m its here same gives = absurd (none-some op same)
    own_write m p client OfData (Write chunk span sectors) op bytes low_m its here same gives =
        absurd (none-some bytes (sym (data_given l v is k eight some a q half low_a low_q low chunk span sectors (block % 8) (omega arith) its here) ∙ ap (λ o. given o (x % v.sectors + block % 8)) (same_Some (ops.Write span sectors) op same) ∙ gives))

  module _ (events : List PortEvent) (can : AreEvents l v events) (groups : ChunkGroups) (routed : IsRouted (groups_in groups) (deeds_on events (home.chunk half)) (home.chunk half) ((x / 8) % k)) where
    own : (block epoch client n : ℕ) (s : Submission) (bytes : Sector) → block < 16 → block / 8 ≡ half → epoch ≤ groups.moves → slice_get (groups.writes epoch client) n ≡ Some s → given s.op (sector_of home block) ≡ Some bytes → client ≡ block
    own block epoch client n s bytes small of le there gives =
        let handed = (routed.fits.port epoch client le).handed n s there in
        let w = was_asked l v (home.chunk half) client (Puts (home.chunk half) s.op) events nothing_pending s.write handed.pending.reply can handed.pending.at in
        sym w.its ∙ own_write block small of w.mount w.port w.owed.client w.owed.matter w.owed.ask s.op bytes w.is.mount_low w.is.ask w.at (ap op_in w.same) (ap (given s.op) (sym (sector block small of)) ∙ gives)

    pub half_routed : IsRoutedHalf groups home half (deeds_on events (home.chunk half))
    half_routed = record {
      piece = (x / 8) % k;
      at_piece = whole_piece v.sectors k eight some x (half_eight l v is a q half low_a) 0 (omega arith);
      routed = routed;
      own = own;
    }

  -- the half lies in the volume

  pub half_within : x / v.sectors < v.chunks
  half_within =
      let before = place_before l v is a q (8 * half) low_a low_q (omega (arith, low)) in
      let size = is.left in
      div_below x v.sectors v.chunks (omega (arith, eight, some)) (omega (arith, before, size))

  pub piece_within : 8 * ((x / 8) % k) < v.sectors
  piece_within = let below : (x / 8) % k < k = omega (arith, some) in omega (arith, below, eight)
