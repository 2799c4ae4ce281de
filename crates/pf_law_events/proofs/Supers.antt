-- Sector 0 of the volume has zeros or the volume's superblock, whoever reads it.
use Rattle.std.proofs.Common.{◌≡◌, ℕ, zero, suc, ◌*◌, ◌/◌, ◌%◌, ◌<◌, ◌≤◌, ◌⊎◌, inl, inr, ◌==◌, false, cond, List, [], ◌∷◌, Option, Some, None, slice_get, arith, refl, sym, ap, subst, ◌∙◌}
use Rattle.std.proofs.Math.Nat.{zero-mod}
use Rattle.std.proofs.lemmas.Bool.{eqb-true}
use Rattle.std.proofs.lemmas.Nat.{div-add-mod'}
use Rattle.std.proofs.lemmas.Option.{none-some, same_Some}
use Rattle.pf_base.specs.Asks.{chunk_of}
use Rattle.pf_base.specs.Span.{Span, is_in}
use Rattle.pf_base.specs.declared.asks.Ask.{Ask}
use Rattle.pf_base.specs.declared.asks.Ask.TheVariants.{Write, Read}
use Rattle.pf_base.specs.declared.asks.Reply.{Reply}
use Rattle.pf_entry.specs.Ops.{Sector, writes as writes_at, zero_sector}
use Rattle.pf_entry.specs.declared.ops.Op.{Op}
use Rattle.pf_entry.specs.declared.ops.Op.TheVariants as ops
use Rattle.pf_entry.proofs.Cases.{by_test}
use Rattle.pf_layout.specs.Supers.{super_block}
use Rattle.pf_protocol.specs.Groups.{Answered}
use Rattle.pf_protocol.specs.LastWriters.{bytes_for}
use Rattle.pf_law_registers.specs.Orders.{given}
use Rattle.pf_law_registers.specs.Sectors.{ReadGives}
use Rattle.pf_law_registers.proofs.AnswersKept.{answered_stays}
use Rattle.pf_volume.specs.Volumes.{Extent, IsVolume}
use Rattle.pf_law_positions.specs.Deeds.{Deed, Gets, Got, PortAsk, PortReply, Puts, Submits, Takes}
use Rattle.pf_law_positions.specs.PortDeeds.{no_deed, port_ask, port_reply}
use Rattle.pf_law_positions.proofs.Answers.{prefix_taken}
use Rattle.pf_journal.specs.declared.layouts.Layout.{Layout}
use Rattle.pf_journal.specs.declared.layouts.Layout.TheVariants.{Plain, Three}
use Rattle.pf_journal.specs.Layouts.{VolumeHasRoom, IsLayout, layout_of, place_on}
use Rattle.pf_journal.specs.Sectors.{block_bytes}
use Rattle.pf_journal.proofs.LaidOut.{fits}
use Rattle.pf_law_homes.specs.Chunks.{ChunkGroups, groups_in}
use Rattle.pf_law_homes.specs.Ports.{Comes, Goes, Hands, IsAskFor, Matter, OfBlock, OfData, OfHalf, OfPause, OfSuper, PortOwed, Passes, Pending, PortEvent, deed_answered, deed_at, deed_handed, deed_of, deeds_from, deeds_on, nothing_pending, pending_after}
use Rattle.pf_law_homes.specs.Routed.{AreRoutedChunks}
use Rattle.pf_law_homes.proofs.HalfChunks.{given_none, not_within}
use Rattle.pf_law_events.specs.Events.{MountsAreServed, Happening, port_events}
use Rattle.pf_law_events.proofs.Given.{given_asked}
use Rattle.pf_law_events.proofs.LayoutAsks.{IsOwn}
use Rattle.pf_law_events.proofs.EventTurns.{IfGoes, events_go}

-- A deed that asks something is an ask that went out

abbrev ask_in : Deed → Option PortAsk
ask_in (Takes client reply ask) = ask
ask_in (Submits client chunk epoch place) = None

pub record WentOut (c : ℕ) (asks : PortAsk) (event : PortEvent) : Type 0 where
  pub mount : ℕ
  pub port : ℕ
  pub owed : PortOwed
  pub is : event ≡ Goes mount port owed
  pub at : chunk_of owed.ask ≡ c
  pub same : port_ask owed.ask ≡ asks

module _ (c : ℕ) (asks : PortAsk) where
  none_at : (owed : PortOwed) (deed : Deed) → ask_in deed ≡ None → ask_in (deed_at c owed deed) ≡ Some asks → ⊥
  none_at owed deed none = by_test (chunk_of owed.ask == c) (λ b. ask_in (cond b deed no_deed) ≡ Some asks → ⊥) (λ _ is. none-some asks (sym none ∙ is)) (λ _ is. none-some asks is)

  none_answered : (epoch by : ℕ) (answer : Answered) (owed : Option PortOwed) (reply : Reply) → ask_in (deed_answered c epoch by answer owed reply) ≡ Some asks → ⊥
  none_answered epoch by answer None reply is = none-some asks is
  none_answered epoch by answer (Some owed) reply is = none_at owed (Takes owed.client (port_reply owed.ask epoch by answer reply) None) refl is

  none_handed : (epoch place : ℕ) (owed : Option PortOwed) → ask_in (deed_handed c epoch place owed) ≡ Some asks → ⊥
  none_handed epoch place None is = none-some asks is
  none_handed epoch place (Some owed) is = none_at owed (Submits owed.client (chunk_of owed.ask) epoch place) refl is

  event_asks : (pending : Pending) (event : PortEvent) → ask_in (deed_of c pending event) ≡ Some asks → WentOut c asks event
  event_asks pending (Goes m p owed) is =
      by_test (chunk_of owed.ask == c) (λ b. ask_in (cond b (Takes owed.client None (Some (port_ask owed.ask))) no_deed) ≡ Some asks → WentOut c asks (Goes m p owed))
      (λ same its. record { mount = m; port = p; owed = owed; is = refl; at = eqb-true (chunk_of owed.ask) c same; same = same_Some (port_ask owed.ask) asks its })
      (λ _ its. absurd (none-some asks its))
      is
  event_asks pending (Comes m p reply epoch by answer) is = absurd (none_answered epoch by answer (pending m p) reply is)
  event_asks pending (Hands m p epoch place) is = absurd (none_handed epoch place (pending m p) is)
  event_asks pending Passes is = absurd (none-some asks is)

  pub went_out : (events : List PortEvent) (pending : Pending) (moment client : ℕ) (reply : Option PortReply) → slice_get (deeds_from c pending events) moment ≡ Some (Takes client reply (Some asks)) → (event : PortEvent) × (slice_get events moment ≡ Some event) × WentOut c asks event
  went_out [] pending moment client reply at = absurd (none-some _ at)
  went_out (event ∷ events) pending zero client reply at = (event, refl, event_asks pending event (ap ask_in (same_Some _ _ at)))
  went_out (event ∷ events) pending (suc moment) client reply at = went_out events (pending_after pending event) moment client reply at

-- What writes sector 0

abbrev op_in : PortAsk → Option Op
op_in (Puts chunk op) = Some op
op_in (Gets chunk range) = None

first_given : (bytes : Sector) → given (ops.Write (record { first = 0; count = 1 }) (bytes ∷ [])) 0 ≡ Some bytes
unfolding given writes_at bytes_for
first_given bytes = refl

data_past : (layout : Layout) → 0 < (layout_of layout).first
data_past Plain = omega arith
data_past Three = omega arith

module _ (layout : Layout) (v : Extent) (is : IsLayout (layout_of layout) v) where
  abbrev super : List ℕ
  super = super_block v.chunks v.sectors

  -- a range of one sector of chunk 0 that is another sector of the volume
  not_first : (place : ℕ) → 8 ≤ place → place / v.sectors ≡ 0 → is_in (record { first = place % v.sectors; count = 1 }) 0 ≡ false
  not_first place past chunk =
      let whole = div-add-mod' place v.sectors in
      let none = ap (λ c. c * v.sectors) chunk in
      not_within (record { first = place % v.sectors; count = 1 }) 0 (omega arith) (λ low high. omega (arith, low, whole, none, past))

  its_own : (m p client : ℕ) (matter : Matter) (ask : Ask) (op : Op) (bytes : Sector) → IsAskFor (layout_of layout) v m p client matter ask → IsOwn v matter ask → chunk_of ask ≡ 0 → op_in (port_ask ask) ≡ Some op → given op 0 ≡ Some bytes → bytes ≡ super
  its_own m p client (OfBlock u b) ask op bytes its own here same gives =
      let place = place_on (layout_of layout) p u m in
      let range : Span = record { first = place % v.sectors; count = 1 } in
      let wrote : ops.Write range (block_bytes b ∷ []) ≡ op = same_Some _ op (ap (λ (o : Ask). op_in (port_ask o)) (sym its.4) ∙ same) in
      absurd (none-some bytes (sym (given_none range (block_bytes b ∷ []) 0 (not_first place (is.past_super p u m) (ap chunk_of (sym its.4) ∙ here))) ∙ ap (λ o. given o 0) wrote ∙ gives))
  its_own m p client (OfHalf u half) ask op bytes its own here same gives = absurd (none-some op (ap (λ (o : Ask). op_in (port_ask o)) (sym its.3) ∙ same))
  its_own m p client (OfPause u) ask op bytes its own here same gives = absurd (none-some op (ap (λ (o : Ask). op_in (port_ask o)) (sym its.1) ∙ same))
  its_own m p client OfSuper ask op bytes its (inl reads) here same gives = absurd (none-some op (ap (λ (o : Ask). op_in (port_ask o)) (sym reads) ∙ same))
  its_own m p client OfSuper ask op bytes its (inr writes) here same gives =
      let wrote = same_Some _ op (ap (λ (o : Ask). op_in (port_ask o)) (sym writes) ∙ same) in
      let first : ops.Write (record { first = 0; count = 1 }) (super ∷ []) ≡ op = ap (λ first. ops.Write (record { first = first; count = 1 }) (super ∷ [])) (sym (zero-mod v.sectors)) ∙ wrote in
      sym (same_Some super bytes (sym (first_given super) ∙ ap (λ o. given o 0) first ∙ gives))
  its_own m p client OfData (Read chunk span) op bytes its own here same gives = absurd (none-some op same)
  its_own m p client OfData (Write chunk span sectors) op bytes its own here same gives =
      let past = data_past layout in
      let none = ap (λ c. v.sectors * c) here in
      let behind = its.behind in
      absurd (none-some bytes (sym (given_none span sectors 0 (not_within span 0 its.few (λ low high. omega (arith, low, none, behind, past)))) ∙ ap (λ o. given o 0) (same_Some (ops.Write span sectors) op same) ∙ gives))

-- a read of sector 0 that was answered, by a group of whichever epoch
pub record ReadsFirst (deeds : List Deed) (bytes : Sector) : Type 0 where
  pub client : ℕ
  pub moment : ℕ
  pub epoch : ℕ
  pub by : ℕ
  pub read : Answered
  pub next : Option PortAsk
  pub at : slice_get deeds moment ≡ Some (Takes client (Some (Got 0 epoch by read)) next)
  pub first : read.range.first ≡ 0
  pub gives : slice_get read.bytes 0 ≡ Some bytes

pub first_sector : (layout : Layout) (v : Extent) (hs : List Happening) (groups : (chunk : ℕ) → ChunkGroups) → VolumeHasRoom layout v → IsVolume v → MountsAreServed layout v hs → AreRoutedChunks v groups (port_events layout v hs)
    → (bytes : Sector) → ReadsFirst (deeds_on (port_events layout v hs) 0) bytes → (bytes ≡ super_block v.chunks v.sectors) ⊎ (bytes ≡ zero_sector)
first_sector layout v hs groups room volume are chunks bytes r =
    let events = port_events layout v hs in
    let deeds = deeds_on events 0 in
    let routed = chunks 0 0 (omega (arith, volume.some_chunks)) (omega (arith, volume.some_sectors)) in
    let got = routed.fits.got r.client r.moment r.epoch r.by r.read r.next r.at in
    let its = groups 0 in
    let gives : ReadGives (its.setup r.epoch) (its.history r.epoch) 0 r.read bytes = record {
      k = got.k;
      answered = answered_stays (its.setup r.epoch) _ (its.history r.epoch) got.k r.read (prefix_taken r.by (its.history r.epoch)) got.answered;
      nth = 0;
      is_sector = omega (arith, r.first);
      has = r.gives;
    } in
    elim (given_asked (groups_in its) deeds 0 0 0 routed (omega arith) (record { client = r.client; answered = r.moment; epoch = r.epoch; by = r.by; read = r.read; next = r.next; at = r.at; got = got; covers = (bytes, gives) }) bytes gives) [
      | inl zeros ↦ inr zeros
      | inr asked ↦
          let w = went_out 0 (Puts 0 asked.asks.op) events nothing_pending asked.write asked.client asked.asks.reply asked.asks.at in
          let goes = subst (λ e. IfGoes layout v e) w.2.is (events_go layout v hs are asked.write w.0 w.1) in
          inl (its_own layout v (fits layout v volume room) w.2.mount w.2.port w.2.owed.client w.2.owed.matter w.2.owed.ask asked.asks.op bytes goes.0.ask goes.1 w.2.at (ap op_in w.2.same) asked.asks.gives)
    ]
