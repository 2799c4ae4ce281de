-- Each read shows the first writes of a sector: those that its server had applied.
use Rattle.std.proofs.Common.{◌≡◌, ℕ, zero, suc, ◌+◌, ◌<◌, ◌≤◌, ◌↔◌, inl, inr, true, List, length, Some, slice_get, arith, refl, sym, ap, subst, ◌∙◌}
use Rattle.std.proofs.lemmas.Bool.{cases_Bool, cases_lt, false≢true}
use Rattle.std.proofs.lemmas.Option.{same_Some}
use Rattle.pf_base.specs.Span.{is_in, overlaps}
use Rattle.pf_entry.specs.declared.ops.Op.{Op}
use Rattle.pf_entry.specs.Ops.{Sector, range_of, zero_sector}
use Rattle.pf_entry.specs.Applying.{fold_to}
use Rattle.pf_protocol.specs.Servers.{Setup}
use Rattle.pf_protocol.specs.Groups.{Answered}
use Rattle.pf_protocol.specs.Histories.{History, replay, IsChosen}
use Rattle.pf_protocol.specs.Fresh.{shows_slot, ReadIsFresh}
use Rattle.pf_entry.proofs.Folds.{applied_bound}
use Rattle.pf_protocol.proofs.ForMoments.{whole_prefix}
use Rattle.pf_protocol.proofs.ForPorts.{above_zero, passed_apart_later}
use Rattle.pf_protocol.proofs.ForHistories.{fresh}
use Rattle.pf_law_registers.specs.Registers.{left_by_writes}
use Rattle.pf_law_registers.specs.Orders.{Member, given, IsOrder, values_of}
use Rattle.pf_law_registers.specs.Sectors.{ReadGives, IsAnsweredBefore, IsAckedBefore}
use Rattle.pf_law_registers.proofs.Lists.{something_there, lead, lead_within, lead_passes, lead_reaches, left_at}
use Rattle.pf_law_registers.proofs.ChosenOps.{op_in, op_is, op_chosen}
use Rattle.pf_law_registers.proofs.Orders.{some_or_none, chosen_at}
use Rattle.pf_law_registers.proofs.Folds.{given_in, meet, Idle, fold_idle, fold_last, range_get, in_range}
use Rattle.pf_law_registers.proofs.Fetches.{same_fetch}

module _ (setup : Setup) (history : History) (x : ℕ) (order : List Member) (is : IsOrder setup history x order) where
  -- how many writes the read shows
  pub shown : Answered → ℕ
  shown a = lead (λ m. shows_slot a m.slot) order

  pub shown_within : (a : Answered) → shown a ≤ length order
  unfolding shown
  shown_within a = lead_within (λ m. shows_slot a m.slot) order

  -- its server had applied them
  pub had : (a : Answered) (place : ℕ) (m : Member) → slice_get order place ≡ Some m → place < shown a → shows_slot a m.slot ≡ true
  unfolding shown
  had a place m at lt = lead_passes (λ m. shows_slot a m.slot) order place m lt at

  module _ (a : Answered) (f : ReadIsFresh setup history a) where
    -- where a write was applied, each earlier one was
    pub shows_earlier : (j k : ℕ) (m n : Member) → slice_get order j ≡ Some m → slice_get order k ≡ Some n → j < k → shows_slot a n.slot ≡ true → shows_slot a m.slot ≡ true
    shows_earlier j k m n at there less has =
        let v = is.each j m at in
        let w = is.each k n there in
        elim (cases_Bool (shows_slot a m.slot)) [
          | inl does ↦ does
          | inr doesnt ↦
              let passed = f.covered.passed n.slot m.slot (above_zero setup history m.slot v.term v.op v.chosen) (is.ascends j k m n at there less) has doesnt in
              absurd (false≢true (sym (passed_apart_later setup history history (whole_prefix history) n.slot m.slot w.term v.term w.op v.op passed w.chosen v.chosen) ∙ meet (range_of v.op) (range_of w.op) x (given_in v.op x m.bytes v.gives) (given_in w.op x n.bytes w.gives)))
        ]

    pub shown_from : (place : ℕ) (m : Member) → slice_get order place ≡ Some m → shows_slot a m.slot ≡ true → place < shown a
    unfolding shown
    shown_from place m at has = lead_reaches (λ m. shows_slot a m.slot) order place m at (λ j y low there. elim (cases_lt j place) [
      | inl before ↦ shows_earlier j place y m there at before has
      | inr not_before ↦ subst (λ z. shows_slot a z.slot ≡ true) (same_Some m y (sym at ∙ ap (slice_get order) (omega (arith, low, not_before)) ∙ there)) has
    ])

    -- the sector lies in the range
    module _ (nth : ℕ) (bytes : Sector) (sector : x ≡ a.range.first + nth) (has : slice_get a.bytes nth ≡ Some bytes) where
      part : (nth < a.range.count) × (slice_get f.server.sectors (a.range.first + nth) ≡ Some bytes)
      part = range_get f.server.sectors a.range.first a.range.count nth bytes (ap (λ l. slice_get l nth) (sym f.bytes) ∙ has)

      pub covers : is_in a.range x ≡ true
      covers = ap (is_in a.range) sector ∙ in_range a.range nth (range_get f.server.sectors a.range.first a.range.count nth bytes (ap (λ l. slice_get l nth) (sym f.bytes) ∙ has)).0

      are_chosen : (slot : ℕ) → 0 < slot → shows_slot a slot ≡ true → (op : Op) × (op_in setup history slot ≡ Some op) × ((t : ℕ) × IsChosen setup history slot t op)
      are_chosen slot above did = let c = f.covered.chosen slot above did in (c.0, op_is setup history slot c.1.0 c.0 c.1.2, (c.1.0, c.1.2))

      bound : (n : ℕ) × ((slot : ℕ) → shows_slot a slot ≡ true → slot ≤ n)
      bound = applied_bound a.base a.applied

      folded : (n : ℕ) → ((slot : ℕ) → shows_slot a slot ≡ true → slot ≤ n) → bytes ≡ fold_to (op_in setup history) (shows_slot a) x zero_sector n
      folded n bounded =
          f.covered.folded x n bytes (op_in setup history)
          (ap (slice_get f.server.sectors) sector ∙ (range_get f.server.sectors a.range.first a.range.count nth bytes (ap (λ l. slice_get l nth) (sym f.bytes) ∙ has)).1)
          bounded are_chosen

      -- a slot above the last shown write gives the sector nothing
      idle_above : (slot : ℕ) → ((place : ℕ) (m : Member) → slice_get order place ≡ Some m → slot < m.slot → shows_slot a m.slot ≡ true → ⊥) → (b : ℕ) → slot < b → shows_slot a b ≡ true → Idle (op_in setup history) x b
      idle_above slot none b above did op chosen =
          elim (some_or_none (given op x)) [
            | inr nothing ↦ nothing
            | inl some ↦
                let c = op_chosen setup history b op chosen in
                let m : Member = record { slot = b; bytes = some.0 } in
                let there = is.all (record { slot = b; bytes = some.0 }) (record { term = c.0; op = op; chosen = c.1; gives = some.1 }) in
                absurd (none there.0 (record { slot = b; bytes = some.0 }) there.1 above did)
          ]

      by_count : (n : ℕ) → shown a ≡ n → bytes ≡ left_by_writes zero_sector (values_of order) n
      by_count zero none =
          let b = applied_bound a.base a.applied in
          folded b.0 b.1
          ∙ fold_idle (op_in setup history) (shows_slot a) x zero_sector 0
          (idle_above 0 (λ place m at above did. omega (arith, shown_from place m at did, none))) b.0 (omega arith)
      by_count (suc k) some =
          let b = applied_bound a.base a.applied in
          let found = something_there order k (omega (arith, shown_within a, some)) in
          let w = is.each k found.0 found.1 in
          let did = had a k found.0 found.1 (omega (arith, some)) in
          folded b.0 b.1
          ∙ fold_last (op_in setup history) (shows_slot a) x zero_sector found.0.slot b.0 w.op found.0.bytes (above_zero setup history found.0.slot w.term w.op w.chosen) (b.1 found.0.slot did) did (op_is setup history found.0.slot w.term w.op w.chosen) w.gives
          (idle_above found.0.slot (λ place m at above does.
          let low = shown_from place m at does in
          elim (cases_lt place k) [
            | inl before ↦ omega (arith, is.ascends place k m found.0 at found.1 before, above)
            | inr not_before ↦
                let same : place ≡ k = omega (arith, not_before, low, some) in
                let one : found.0 ≡ m = same_Some found.0 m (sym found.1 ∙ ap (slice_get order) (sym same) ∙ at) in
                omega (arith, ap (λ z. z.slot) one, above)
          ]))
          ∙ sym (left_at (λ m. m.bytes) order k found.0 zero_sector found.1)

      pub value : bytes ≡ left_by_writes zero_sector (values_of order) (shown a)
      value = by_count (shown a) refl

      -- a slot that overlaps the range and that the read must have
      pub must_show : (place : ℕ) (m : Member) → slice_get order place ≡ Some m → ((t : ℕ) (op : Op) → IsChosen setup history m.slot t op → overlaps (range_of op) a.range ≡ true → shows_slot a m.slot ≡ true) → place < shown a
      must_show place m at must =
          let w = is.each place m at in
          shown_from place m at (must w.term w.op w.chosen (meet (range_of w.op) a.range x (given_in w.op x m.bytes w.gives) covers))

  pub gives : (a : Answered) (bytes : Sector) → ReadGives setup history x a bytes → bytes ≡ left_by_writes zero_sector (values_of order) (shown a)
  gives a bytes g = value a (fresh setup history g.k a g.answered) g.nth bytes g.is_sector g.has

  pub has_acked : (a : Answered) (place : ℕ) → IsAckedBefore setup history x order place a → place < shown a
  has_acked a place r =
      let g = r.taken.gives in
      let f = fresh setup history g.k a g.answered in
      let same = same_fetch setup history a.number a.server a.server a.range a.range r.taken.before f.before r.taken.fetched f.fetched in
      must_show a f g.nth r.taken.bytes g.is_sector g.has place r.member r.there (λ t op c touches.
      subst (λ slot. shows_slot a slot ≡ true) r.in_slot
      (f.acknowledged r.k r.acked (ap (λ h. slice_get (replay setup h).acked r.k) (sym same) ∙ r.was_acked) t op (chosen_at setup history x r.member.slot r.acked.slot t op (sym r.in_slot) c) touches))

  pub grows : (a later : Answered) → IsAnsweredBefore setup history x a later → shown a ≤ shown later
  unfolding shown
  grows a later r =
      elim (cases_lt (shown later) (shown a)) [
        | inr not_less ↦ not_less
        | inl less ↦ absurd (contradiction less)
      ]
    where
      contradiction : shown later < shown a → ⊥
      contradiction less =
          let g = r.taken.gives in
          let f = fresh setup history g.k later g.answered in
          let same = same_fetch setup history later.number later.server later.server later.range later.range r.taken.before f.before r.taken.fetched f.fetched in
          let found = something_there order (shown later) (omega (arith, shown_within a, less)) in
          let w = is.each (shown later) found.0 found.1 in
          let had = lead_passes (λ m. shows_slot a m.slot) order (shown later) found.0 less found.1 in
          let again = must_show later f g.nth r.taken.bytes g.is_sector g.has (shown later) found.0 found.1 (λ t op c touches.
          f.answered r.k a found.0.slot (ap (λ h. slice_get (replay setup h).answered r.k) (sym same) ∙ r.answered) (above_zero setup history found.0.slot w.term w.op w.chosen) had t op c touches) in
          omega (arith, again)

  pub had_applied : (k : ℕ) (a : Answered) (place : ℕ) (m : Member) → slice_get (replay setup history).answered k ≡ Some a → slice_get order place ≡ Some m → (place < shown a) ↔ (shows_slot a m.slot ≡ true)
  had_applied k a place m at there =
      let f = fresh setup history k a at in
      (λ lt. had a place m there lt, λ has. shown_from a f place m there has)
