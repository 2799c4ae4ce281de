-- Whatever a port is asked, it is an ask of a half of a position where it was asked for it, and none elsewhere.
use Rattle.std.proofs.Common.{◌≡◌, ℕ, ◌+◌, ◌-◌, ◌*◌, ◌/◌, ◌%◌, ◌<◌, ◌≤◌, inl, inr, ◌==◌, Bool, true, false, cond, ◌&&◌, nat_le, nat_lt, List, [], ◌∷◌, length, Option, Some, None, slice_get, arith, refl, sym, ap, ap₂, subst, ◌∙◌}
use Rattle.std.proofs.lemmas.Bool.{and_from, and_left, and_right, cases_eq, cond-false, cond-true, eq-eqb, eqb-true, le-leb, lt-ltb, ne_eqb}
use Rattle.std.proofs.lemmas.Nat.{div-add-mod'}
use Rattle.pf_base.specs.Asks.{chunk_of}
use Rattle.pf_base.specs.Span.{Span}
use Rattle.pf_base.specs.declared.asks.Ask.{Ask}
use Rattle.pf_base.specs.declared.asks.Ask.TheVariants.{Write, Read}
use Rattle.pf_entry.specs.Ops.{Sector, writes as writes_at}
use Rattle.pf_protocol.specs.LastWriters.{bytes_for}
use Rattle.pf_entry.specs.declared.ops.Op.{Op}
use Rattle.pf_entry.specs.declared.ops.Op.TheVariants as ops
use Rattle.pf_law_registers.specs.Orders.{given}
use Rattle.pf_volume.specs.Volumes.{Extent}
use Rattle.pf_paxos.specs.declared.block.Block.{Block}
use Rattle.pf_paxos.specs.Registers.{Ask as BlockAsk, AsksRead, AsksWrite}
use Rattle.pf_law_positions.specs.Deeds.{Gets, Puts}
use Rattle.pf_law_positions.specs.Homes.{PositionHome, ask_in, asks_write}
use Rattle.pf_law_positions.specs.PortDeeds.{port_ask}
use Rattle.pf_journal.specs.Sectors.{HasSpelling, block_bytes, block_in}
use Rattle.pf_journal.proofs.BlockSpellings.{back}
use Rattle.pf_journal.specs.Layouts.{IsLayout, LayoutIs, home_on, place_on}
use Rattle.pf_law_homes.specs.Halves.{half_on}
use Rattle.pf_law_homes.specs.Chunks.{only_half}
use Rattle.pf_law_homes.specs.Ports.{IsAskFor, IsBehindJournal, IsSuper, Matter, OfBlock, OfData, OfHalf, OfPause, OfSuper, ask_on, half_writes}
use Rattle.pf_law_homes.proofs.Apart.{next_place, one_place, one_sector, place_before, half_eight, same_chunk}
use Rattle.pf_law_homes.proofs.HalfChunks.{given_none, not_within, reads_only, writes_only}

-- of which half an ask is
abbrev pub in_half : (half client : ℕ) → Matter → Bool
in_half half client (OfBlock position block) = client / 8 == half
in_half half client (OfHalf position other) = other == half
in_half half client matter = false

abbrev pub half_ask : (half client : ℕ) → Matter → Option BlockAsk → Option BlockAsk
half_ask half client matter ask = cond (in_half half client matter) ask None

abbrev no_ask : Option BlockAsk
no_ask = None

none_if : (b : Bool) → cond b no_ask no_ask ≡ None
none_if true = refl
none_if false = refl

-- not of this half, at another anchor, or in another position
nested : (b c d : Bool) (ask : BlockAsk) → (b ≡ true → c ≡ true → d ≡ true → ⊥) → cond b (cond c (cond d (Some ask) None) None) None ≡ None
nested true true true ask never = absurd (never refl refl refl)
nested true true false ask never = refl
nested true false d ask never = refl
nested false c d ask never = refl

given_own : (first : ℕ) (bytes : Sector) → given (ops.Write (record { first = first; count = 1 }) (bytes ∷ [])) first ≡ Some bytes
unfolding given writes_at bytes_for
given_own first bytes =
    cond-true (nat_le first first && nat_lt first (first + 1)) (slice_get (bytes ∷ []) (first - first)) None (and_from _ _ (le-leb first first (omega arith)) (lt-ltb first (first + 1) (omega arith)))
    ∙ ap (slice_get (bytes ∷ [])) (sub-self first)
  where
    sub-self : (n : ℕ) → n - n ≡ 0
    sub-self n = omega arith

module _ (l : LayoutIs) (v : Extent) (is : IsLayout l v) (k : ℕ) (eight : v.sectors ≡ 8 * k) (some : 0 < k) (a q half : ℕ) (low_a : a < length l.anchors) (low_q : q < l.positions) (low : half < 2) where
  abbrev pub s : ℕ
  s = v.sectors

  abbrev pub home : PositionHome
  home = home_on l v.sectors a q

  -- where the half begins
  abbrev pub x : ℕ
  x = half_on l a q half

  -- a block of the half
  block_at : (m : ℕ) → m / 8 ≡ half → place_on l a q m ≡ x + m % 8
  block_at m same = omega (arith, same)

  pub block_chunk : (m : ℕ) → m / 8 ≡ half → place_on l a q m / s ≡ x / s
  block_chunk m same = ap (λ n. n / s) (block_at m same) ∙ same_chunk s k eight some x (half_eight l v is a q half low_a) (m % 8) (omega arith)

  pub block_place : (m : ℕ) → m / 8 ≡ half → place_on l a q m % s ≡ x % s + m % 8
  block_place m same = ap (λ n. n % s) (block_at m same) ∙ next_place s k eight some x (half_eight l v is a q half low_a) (m % 8) (omega arith)

  -- Reads

  module _ (p u other client : ℕ) (low_p : p < length l.anchors) (low_u : u < l.positions) (low_other : other < 2) where
    abbrev y : ℕ
    y = half_on l p u other

    half_is : y / s ≡ x / s → ask_in block_in (only_half home half) client (Gets (y / s) (record { first = y % s; count = 8 })) ≡ half_ask half client (OfHalf u other) (ask_on a q p (OfHalf u other))
    half_is chunk =
        ap (λ n. ask_in block_in (only_half home half) client (Gets n (record { first = y % s; count = 8 }))) chunk
        ∙ reads_only home half low client (record { first = y % s; count = 8 })
        ∙ elim (cases_eq y x) [
          | inl same ↦
              let its = one_place l v is p a u q (8 * other) (8 * half) low_p low_a low_u low_q (omega (arith, low_other)) (omega (arith, low)) same in
              let anchor = its.anchor in
              let position = its.position in
              let mount = its.mount in
              let halves : other ≡ half = omega (arith, mount) in
              cond-true _ _ _ (and_from (y % s == x % s) true (eq-eqb (y % s) (x % s) (ap (λ n. n % s) same)) refl)
              ∙ ap (λ n. Some (AsksRead n)) (sym halves)
              ∙ sym (cond-true (other == half) _ _ (eq-eqb other half halves) ∙ cond-true (p == a) _ _ (eq-eqb p a anchor) ∙ cond-true (q == u) _ _ (eq-eqb q u (sym position)))
          | inr apart ↦
              cond-false _ _ _ (and_left (y % s == x % s) true (ne_eqb (y % s) (x % s) (λ place. absurd (apart (one_sector s y x chunk place)))))
              ∙ sym (nested (other == half) (p == a) (q == u) (AsksRead other) (λ b c d. apart (ap₂ (λ i j. half_on l i j other) (eqb-true p a c) (sym (eqb-true q u d)) ∙ ap (half_on l a q) (eqb-true other half b))))
        ]

    half_other : (y / s ≡ x / s → ⊥) → half_ask half client (OfHalf u other) (ask_on a q p (OfHalf u other)) ≡ None
    half_other never = nested (other == half) (p == a) (q == u) (AsksRead other) (λ b c d. never (ap (λ n. n / s) (ap₂ (λ i j. half_on l i j other) (eqb-true p a c) (sym (eqb-true q u d)) ∙ ap (half_on l a q) (eqb-true other half b))))

  pause_is : (y client : ℕ) → y / s ≡ x / s → ask_in block_in (only_half home half) client (Gets (y / s) (record { first = y % s; count = 1 })) ≡ None
  pause_is y client chunk =
      ap (λ n. ask_in block_in (only_half home half) client (Gets n (record { first = y % s; count = 1 }))) chunk
      ∙ reads_only home half low client (record { first = y % s; count = 1 })
      ∙ cond-false _ _ _ (and_right (y % s == x % s) false refl)

  -- Writes

  module _ (p u m : ℕ) (block : Block) (low_p : p < length l.anchors) (low_u : u < l.positions) (low_m : m < 16) (has : HasSpelling block) where
    abbrev w : ℕ
    w = place_on l p u m

    abbrev op : Op
    op = ops.Write (record { first = w % s; count = 1 }) (block_bytes block ∷ [])

    wrote : w / s ≡ x / s → m / 8 ≡ half → asks_write block_in (given op (x % s + m % 8)) ≡ cond (p == a) (cond (q == u) (Some (AsksWrite block)) None) None
    wrote chunk same = elim (cases_eq w (place_on l a q m)) [
      | inl place ↦
          let its = one_place l v is p a u q m m low_p low_a low_u low_q low_m low_m place in
          ap (λ n. asks_write block_in (given op n)) (sym (block_place m same) ∙ ap (λ n. n % s) (sym place))
          ∙ ap (asks_write block_in) (given_own (w % s) (block_bytes block))
          ∙ ap (λ b. Some (AsksWrite b)) (back block has)
          ∙ sym (cond-true (p == a) _ _ (eq-eqb p a its.anchor) ∙ cond-true (q == u) _ _ (eq-eqb q u (sym its.position)))
      | inr apart ↦
          ap (asks_write block_in) (given_none (record { first = w % s; count = 1 }) (block_bytes block ∷ []) (x % s + m % 8)
          (not_within (record { first = w % s; count = 1 }) (x % s + m % 8) (omega arith) (λ least most.
          apart (one_sector s w (place_on l a q m) (chunk ∙ sym (block_chunk m same)) (let place = block_place m same in omega (arith, least, most, place))))))
          ∙ sym (nested true (p == a) (q == u) (AsksWrite block) (λ b c d. apart (ap₂ (λ i j. place_on l i j m) (eqb-true p a c) (sym (eqb-true q u d)))))
    ]

    block_is : w / s ≡ x / s → ask_in block_in (only_half home half) m (Puts (w / s) op) ≡ half_ask half m (OfBlock u block) (ask_on a q p (OfBlock u block))
    block_is chunk =
        ap (λ n. ask_in block_in (only_half home half) m (Puts n op)) chunk
        ∙ writes_only home half low m op
        ∙ elim (cases_eq (m / 8) half) [
          | inl same ↦
              cond-true _ _ _ (and_from (nat_lt m 16) (m / 8 == half) (lt-ltb m 16 low_m) (eq-eqb (m / 8) half same))
              ∙ wrote chunk same
              ∙ sym (cond-true (m / 8 == half) _ _ (eq-eqb (m / 8) half same))
          | inr other ↦
              cond-false _ _ _ (and_right (nat_lt m 16) (m / 8 == half) (ne_eqb (m / 8) half other))
              ∙ sym (cond-false (m / 8 == half) _ _ (ne_eqb (m / 8) half other))
        ]

    block_other : (w / s ≡ x / s → ⊥) → half_ask half m (OfBlock u block) (ask_on a q p (OfBlock u block)) ≡ None
    block_other never = nested (m / 8 == half) (p == a) (q == u) (AsksWrite block) (λ b c d. never (ap (λ n. n / s) (ap₂ (λ i j. place_on l i j m) (eqb-true p a c) (sym (eqb-true q u d))) ∙ block_chunk m (eqb-true (m / 8) half b)))

  -- File data lie behind the half

  before_data : (i : ℕ) → i < 8 → x + i < 8 * l.first
  before_data i few = let before = place_before l v is a q (8 * half + i) low_a low_q (omega (arith, low, few)) in omega (arith, before)

  in_volume : (y : ℕ) → s * (y / s) + y % s ≡ y
  in_volume y = let whole = div-add-mod' y s in grind (arith, whole)

  pub data_given : (chunk : ℕ) (span : Span) (sectors : List Sector) (i : ℕ) → i < 8 → IsBehindJournal l v (Write chunk span sectors) → chunk ≡ x / s → given (ops.Write span sectors) (x % s + i) ≡ None
  data_given chunk span sectors i few is_data here =
      given_none span sectors (x % s + i) (not_within span (x % s + i) is_data.few (λ least most.
      let before = before_data i few in
      let whole = in_volume x in
      let behind : 8 * l.first ≤ s * (x / s) + span.first = subst (λ n. 8 * l.first ≤ s * n + span.first) here is_data.behind in
      absurd (omega (arith, least, before, whole, behind))))

  data_is : (client : ℕ) (ask : Ask) → IsBehindJournal l v ask → chunk_of ask ≡ x / s → ask_in block_in (only_half home half) client (port_ask ask) ≡ None
  data_is client (Write chunk span sectors) is_data here =
      ap (λ n. ask_in block_in (only_half home half) client (Puts n (ops.Write span sectors))) here
      ∙ writes_only home half low client (ops.Write span sectors)
      ∙ ap (λ o. cond (nat_lt client 16 && client / 8 == half) (asks_write block_in o) None) (data_given chunk span sectors (client % 8) (omega arith) is_data here)
      ∙ none_if (nat_lt client 16 && client / 8 == half)
  data_is client (Read chunk span) is_data here =
      ap (λ n. ask_in block_in (only_half home half) client (Gets n span)) here
      ∙ reads_only home half low client span
      ∙ cond-false _ _ _ (and_left (span.first == x % s) (span.count == 8) (ne_eqb span.first (x % s) (λ first.
      let before = before_data 0 (omega arith) in
      let whole = in_volume x in
      let behind : 8 * l.first ≤ s * (x / s) + span.first = subst (λ n. 8 * l.first ≤ s * n + span.first) here is_data.behind in
      absurd (omega (arith, first, before, whole, behind)))))

  -- The superblock lies before it

  pub super_given : (chunk : ℕ) (span : Span) (sectors : List Sector) (i : ℕ) → IsSuper (Write chunk span sectors) → chunk ≡ x / s → given (ops.Write span sectors) (x % s + i) ≡ None
  super_given chunk span sectors i is_super here =
      given_none span sectors (x % s + i) (not_within span (x % s + i) (let one = is_super.one in omega (arith, one)) (λ least most.
      let whole = in_volume x in
      let none : s * (x / s) ≡ s * 0 = ap (λ n. s * n) (sym here ∙ is_super.chunk) in
      let first = is_super.first in
      let one = is_super.one in
      absurd (omega (arith, most, whole, none, first, one))))

  super_is : (client : ℕ) (ask : Ask) → IsSuper ask → chunk_of ask ≡ x / s → ask_in block_in (only_half home half) client (port_ask ask) ≡ None
  super_is client (Write chunk span sectors) is_super here =
      ap (λ n. ask_in block_in (only_half home half) client (Puts n (ops.Write span sectors))) here
      ∙ writes_only home half low client (ops.Write span sectors)
      ∙ ap (λ o. cond (nat_lt client 16 && client / 8 == half) (asks_write block_in o) None) (super_given chunk span sectors (client % 8) is_super here)
      ∙ none_if (nat_lt client 16 && client / 8 == half)
  super_is client (Read chunk span) is_super here =
      ap (λ n. ask_in block_in (only_half home half) client (Gets n span)) here
      ∙ reads_only home half low client span
      ∙ cond-false _ _ _ (and_right (span.first == x % s) (span.count == 8) (ne_eqb span.count 8 (λ e. let one = is_super.one in absurd (omega (arith, e, one)))))

  -- Whatever was asked

  module _ (m p : ℕ) (low_m : m < 16) where
    -- at the half's chunk
    pub ask_is : (client : ℕ) (matter : Matter) (ask : Ask) → IsAskFor l v m p client matter ask → chunk_of ask ≡ x / s → ask_in block_in (only_half home half) client (port_ask ask) ≡ half_ask half client matter (ask_on a q p matter)
    ask_is client (OfBlock u block) ask its =
        subst (λ (o : Ask). chunk_of o ≡ x / s → ask_in block_in (only_half home half) client (port_ask o) ≡ half_ask half client (OfBlock u block) (ask_on a q p (OfBlock u block))) (sym its.4)
        (subst (λ n. w p u m block its.0 its.1 low_m its.3 / s ≡ x / s → ask_in block_in (only_half home half) n (port_ask (half_writes v (place_on l p u m) (block_bytes block ∷ []))) ≡ half_ask half n (OfBlock u block) (ask_on a q p (OfBlock u block))) (sym its.2)
        (block_is p u m block its.0 its.1 low_m its.3))
    ask_is client (OfHalf u other) ask its =
        subst (λ (o : Ask). chunk_of o ≡ x / s → ask_in block_in (only_half home half) client (port_ask o) ≡ half_ask half client (OfHalf u other) (ask_on a q p (OfHalf u other))) (sym its.3)
        (half_is p u other client its.0 its.1 its.2)
    ask_is client (OfPause u) ask its =
        subst (λ (o : Ask). chunk_of o ≡ x / s → ask_in block_in (only_half home half) client (port_ask o) ≡ None) (sym its.1) (pause_is (place_on l p u 0) client)
    ask_is client OfSuper ask its = super_is client ask its
    ask_is client OfData ask its = data_is client ask its

    -- at another chunk
    pub ask_other : (client : ℕ) (matter : Matter) (ask : Ask) → IsAskFor l v m p client matter ask → (chunk_of ask ≡ x / s → ⊥) → half_ask half client matter (ask_on a q p matter) ≡ None
    ask_other client (OfBlock u block) ask its never =
        subst (λ n. half_ask half n (OfBlock u block) (ask_on a q p (OfBlock u block)) ≡ None) (sym its.2)
        (block_other p u m block its.0 its.1 low_m its.3 (λ same. never (ap chunk_of its.4 ∙ same)))
    ask_other client (OfHalf u other) ask its never = half_other p u other client its.0 its.1 its.2 (λ same. never (ap chunk_of its.3 ∙ same))
    ask_other client (OfPause u) ask its never = refl
    ask_other client OfSuper ask its never = refl
    ask_other client OfData ask its never = refl
