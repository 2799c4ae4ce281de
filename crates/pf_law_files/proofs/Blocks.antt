-- File data are asked for in whole blocks of the volume, and nothing else is asked for where they lie.
use Rattle.std.proofs.Common.{◌≡◌, ◌≢◌, ◌⊎◌, inl, inr, ℕ, suc, ◌+◌, ◌*◌, ◌/◌, ◌%◌, ◌<◌, ◌≤◌, ◌&&◌, ◌==◌, Bool, true, false, if◌then◌else◌, nat_le, nat_lt, List, [], ◌∷◌, ◌++◌, length, replicate, Option, Some, None, arith, refl, sym, ap, subst, ◌∙◌}
use Rattle.std.proofs.lemmas.Bool.{and_from, and_parts, cond-true, eq-eqb, cases_eq, le-leb, leb-true, lt-ltb, ltb-true}
use Rattle.std.proofs.lemmas.List.{length-replicate}
use Rattle.std.proofs.lemmas.Nat.{div-add-mod', div_below}
use Rattle.std.proofs.lemmas.Option.{none-some}
use Rattle.pf_base.specs.Asks.{chunk_of, span_of}
use Rattle.pf_base.specs.Span.{Span}
use Rattle.pf_base.specs.declared.asks.Ask.{Ask}
use Rattle.pf_base.specs.declared.asks.Ask.TheVariants.{Write, Read}
use Rattle.pf_base.specs.declared.asks.Reply.{Reply}
use Rattle.pf_base.specs.declared.asks.Reply.TheVariants.{Written, Bytes}
use Rattle.pf_base.specs.declared.calls.Call.TheVariants as calls
use Rattle.pf_entry.specs.Ops.{Sector}
use Rattle.pf_entry.specs.declared.ops.Op.TheVariants as ops
use Rattle.pf_law_registers.specs.Orders.{given}
use Rattle.pf_law_epochs.specs.InTurn.{eight_in}
use Rattle.pf_volume.specs.Volumes.{Extent, IsVolume, size_of}
use Rattle.pf_tree_tables.specs.declared.changes.Txn.{Txn}
use Rattle.pf_tree_tables.specs.Tables.{Tables, new_tables}
use Rattle.pf_tree_tables.proofs.Shelves.{applied_length}
use Rattle.pf_tree.specs.Plans.{found}
use Rattle.pf_tree.specs.Trees.{block_count}
use Rattle.pf_tree.specs.Calls.{FileCall}
use Rattle.pf_txn.specs.Reading.{txn_in}
use Rattle.pf_file_calls.specs.declared.answers.CallAnswer.TheVariants as answers
use Rattle.pf_file_calls.specs.declared.filling.Fill.{Fill}
use Rattle.pf_file_calls.specs.declared.moving.DataMoving.{DataMoving}
use Rattle.pf_file_calls.specs.declared.moving.DataMoving.TheVariants.{Fetches, Stores, Gathers}
use Rattle.pf_file_calls.specs.declared.moving.Moved.{Moved}
use Rattle.pf_file_calls.specs.declared.moving.Moved.TheVariants.{Asks, Ends}
use Rattle.pf_file_calls.specs.Blocks.{bytes_of, reads_block, sectors_of, writes_block}
use Rattle.pf_file_calls.specs.Calls.{value_applied}
use Rattle.pf_file_calls.specs.Filling.{end_of_fill, filled_block, first_of_fill, is_new, read_end, bytes_wanted}
use Rattle.pf_file_calls.specs.Moving.{IsTreeOf, block_at, fills, fills_block, fills_file, gathers, data_moves, moves_on, stores}
use Rattle.pf_file_calls.proofs.Cut.{length_cut}
use Rattle.pf_file_calls.proofs.Insides.{block_low}
use Rattle.pf_law_plans.specs.Exchanges.{Exchange}
use Rattle.pf_law_contents.specs.Serial.{IsOfPiece}
use Rattle.pf_law_contents.specs.Stored.{DataGoesTo}
use Rattle.pf_journal.specs.declared.layouts.Layout.{Layout}
use Rattle.pf_journal.specs.declared.layouts.Layout.TheVariants.{Plain, Three}
use Rattle.pf_journal.specs.Layouts.{IsLayout, LayoutIs, layout_of, place_on}
use Rattle.pf_law_homes.specs.Halves.{half_on}
use Rattle.pf_law_homes.specs.Ports.{IsAskFor, IsBehindJournal, Matter, OfBlock, OfData, OfHalf, OfPause, OfSuper, half_reads}
use Rattle.pf_law_homes.proofs.Apart.{half_eight, place_before, whole_piece}
use Rattle.pf_law_homes.proofs.HalfChunks.{given_none, not_within}
use Rattle.pf_law_calls.specs.Lives.{after_values, tables_from}
use Rattle.pf_law_files.specs.Blocks.{is_data_piece}

-- Blocks

-- an ask of a whole block of the volume
abbrev pub IsOfBlock : Extent → Ask → Type 0
IsOfBlock v ask = (block : ℕ) × (block < size_of v / 8) × ((ask ≡ reads_block v block) ⊎ ((bytes : List ℕ) × (ask ≡ writes_block v block bytes)))

abbrev pub AsksBlock : Extent → Moved → Type 0
AsksBlock v (Asks ask moving) = IsOfBlock v ask
AsksBlock v (Ends answer) = Unit {0}

either : (P : Moved → Type 0) (b : Bool) (x y : Moved) → P x → P y → P (if b then x else y)
either P true x y px py = px
either P false x y px py = py

-- the count of blocks stays
tags_after : (values : List (List ℕ)) (t : Tables) → length (after_values t values).tags ≡ length t.tags
tags_after [] t = refl
tags_after (value ∷ values) t = tags_after values (value_applied t (txn_in value)) ∙ one (txn_in value)
  where
    one : (o : Option Txn) → length (value_applied t o).tags ≡ length t.tags
    one None = refl
    one (Some txn) = (applied_length t txn.changes).2

pub tree_from : (v : Extent) (values : List (List ℕ)) → IsTreeOf v (tables_from v values)
tree_from v values = tags_after values (new_tables (size_of v / 8)) ∙ length-replicate (size_of v / 8) None

module _ (v : Extent) (volume : IsVolume v) (t : Tables) (tree : IsTreeOf v t) where
  stores_block : (block : ℕ) (f : Fill) (index : ℕ) (bytes : List ℕ) → block < size_of v / 8 → AsksBlock v (stores v block f index bytes)
  stores_block block f index bytes low = (block, low, inr (filled_block f index bytes, refl))

  fills_a_block : (f : Fill) (index : ℕ) → AsksBlock v (fills v t f index)
  fills_a_block f index =
      let block = block_at t f.inode index in
      let low = block_low v t volume tree f.inode index in
      either (AsksBlock v) (nat_lt index (end_of_fill f)) (fills_block v block f index) (Ends answers.Fine)
      (either (AsksBlock v) (is_new f index) (stores v block f index (replicate 4096 0)) (Asks (reads_block v block) (Fetches f index)) (stores_block block f index (replicate 4096 0) low) (block, low, inl refl)) tt

  gathers_block : (inode offset to index : ℕ) (bytes : List ℕ) → AsksBlock v (gathers v t inode offset to index bytes)
  gathers_block inode offset to index bytes =
      let block = block_at t inode index in
      either (AsksBlock v) (nat_lt index (block_count to)) (Asks (reads_block v block) (Gathers inode offset to index bytes)) (Ends (answers.Bytes (bytes_wanted offset to bytes)))
      (block, block_low v t volume tree inode index, inl refl) tt

  pub moves_block : (size : ℕ) (call : FileCall) → AsksBlock v (data_moves v t size call)
  moves_block size (calls.Write p offset byte count) =
      let f : Fill = record { inode = found t p; size = size; start = offset; byte = byte; count = count } in
      either (AsksBlock v) (count == 0) (Ends answers.Fine) (fills_file v t f) tt (fills_a_block f (first_of_fill f))
  moves_block size (calls.Truncate p to) =
      let f : Fill = record { inode = found t p; size = size; start = to; byte = 0; count = 0 } in
      either (AsksBlock v) (nat_lt size to) (fills_file v t f) (Ends answers.Fine) (fills_a_block f (first_of_fill f)) tt
  moves_block size (calls.Read p offset count) =
      let to = read_end size offset count in
      either (AsksBlock v) (nat_lt offset to) (gathers v t (found t p) offset to (offset / 4096) []) (Ends (answers.Bytes [])) (gathers_block (found t p) offset to (offset / 4096) []) tt
  moves_block size call = tt

  moves_on_block : (moving : DataMoving) (reply : Reply) → AsksBlock v (moves_on v t moving reply)
  moves_on_block (Fetches f index) (Bytes sectors) = stores_block (block_at t f.inode index) f index (bytes_of sectors) (block_low v t volume tree f.inode index)
  moves_on_block (Fetches f index) Written = tt
  moves_on_block (Stores f index) Written = fills_a_block f (suc index)
  moves_on_block (Stores f index) (Bytes sectors) = tt
  moves_on_block (Gathers inode offset to index bytes) (Bytes sectors) = gathers_block inode offset to (suc index) (bytes ++ bytes_of sectors)
  moves_on_block (Gathers inode offset to index bytes) Written = tt

  pub goes_block : (first : Moved) (its : List Exchange) (now : Moved) → AsksBlock v first → DataGoesTo v t first its now → AsksBlock v now
  goes_block first [] now of goes = subst (AsksBlock v) goes of
  goes_block (Ends answer) (e ∷ its) now of goes = absurd goes
  goes_block (Asks ask moving) (e ∷ its) now of goes = goes_block (moves_on v t moving e.1) its now (moves_on_block moving e.1) goes.2

-- Places

-- it ends before the file data
pub record IsBefore (l : LayoutIs) (v : Extent) (ask : Ask) : Type 0 where
  pub few : (span_of ask).count ≤ 8
  pub before : v.sectors * chunk_of ask + (span_of ask).first + (span_of ask).count ≤ 8 * l.first

pub data_past : (layout : Layout) → 0 < (layout_of layout).first
data_past Plain = omega arith
data_past Three = omega arith

whole_place : (s place : ℕ) → s * (place / s) + place % s ≡ place
whole_place s place = let whole = div-add-mod' place s in grind (arith, whole)

module _ (l : LayoutIs) (v : Extent) (is : IsLayout l v) (past : 0 < l.first) where
  read_before : (place count : ℕ) → count ≤ 8 → place + count ≤ 8 * l.first → IsBefore l v (half_reads v place count)
  read_before place count few before = record { few = few; before = (let whole = whole_place v.sectors place in omega (arith, whole, before)) }

  -- what is asked for anything else
  pub other_before : (m port client : ℕ) (matter : Matter) (ask : Ask) → m < 16 → port < length l.anchors → matter ≢ OfData → IsAskFor l v m port client matter ask → IsBefore l v ask
  other_before m port client (OfBlock position block) ask low low_port other its =
      let place = place_on l port position m in
      let before = place_before l v is port position m its.0 its.1 low in
      let whole = whole_place v.sectors place in
      subst (IsBefore l v) (sym its.4) (record { few = omega arith; before = omega (arith, whole, before) })
  other_before m port client (OfHalf position half) ask low low_port other its =
      let place = half_on l port position half in
      let inside = its.2 in
      let before = place_before l v is port position (8 * half) its.0 its.1 (omega (arith, inside)) in
      let eight = half_eight l v is port position half its.0 in
      subst (IsBefore l v) (sym its.3) (read_before place 8 (omega arith) (omega (arith, before, eight)))
  other_before m port client (OfPause position) ask low low_port other its =
      let before = place_before l v is port position 0 low_port its.0 (omega arith) in
      subst (IsBefore l v) (sym its.1) (read_before (place_on l port position 0) 1 (omega arith) (omega (arith, before)))
  other_before m port client OfSuper ask low low_port other its =
      let chunk : v.sectors * chunk_of ask ≡ v.sectors * 0 = ap (λ c. v.sectors * c) its.chunk in
      let first = its.first in
      let one = its.one in
      record { few = omega (arith, one); before = omega (arith, chunk, first, one, past) }
  other_before m port client OfData ask low low_port other its = absurd (other refl)

  -- gives nothing that lies behind
  pub before_gives : (chunk : ℕ) (span : Span) (sectors : List Sector) (x : ℕ) → IsBefore l v (Write chunk span sectors) → 8 * l.first ≤ v.sectors * chunk + x → given (ops.Write span sectors) x ≡ None
  before_gives chunk span sectors x is_before behind =
      given_none span sectors x (not_within span x is_before.few (λ least most. let before = is_before.before in absurd (omega (arith, most, before, behind))))

-- a piece of file data
pub record IsDataPiece (layout : Layout) (v : Extent) (chunk piece : ℕ) : Type 0 where
  pub chunk_low : chunk < v.chunks
  pub piece_low : 8 * piece < v.sectors
  pub behind : 8 * (layout_of layout).first ≤ v.sectors * chunk + 8 * piece

module _ (layout : Layout) (v : Extent) (volume : IsVolume v) where
  pub data_piece : (chunk piece : ℕ) → is_data_piece layout v chunk piece ≡ true → IsDataPiece layout v chunk piece
  data_piece chunk piece is =
      let outer = and_parts (nat_lt chunk v.chunks && nat_lt (8 * piece) v.sectors) (nat_le (8 * (layout_of layout).first) (v.sectors * chunk + 8 * piece)) is in
      let inner = and_parts (nat_lt chunk v.chunks) (nat_lt (8 * piece) v.sectors) outer.0 in record {
        chunk_low = ltb-true chunk v.chunks inner.0;
        piece_low = ltb-true (8 * piece) v.sectors inner.1;
        behind = leb-true (8 * (layout_of layout).first) (v.sectors * chunk + 8 * piece) outer.1;
      }

  module _ (k : ℕ) (eight : v.sectors ≡ 8 * k) where
    some : 0 < k
    some = let most = volume.some_sectors in omega (arith, most, eight)

    -- the piece of a block
    block_piece : (block : ℕ) → (8 * block) % v.sectors ≡ 8 * (((8 * block) / 8) % k)
    block_piece block = whole_piece v.sectors k eight some (8 * block) (omega arith) 0 (omega arith)

    piece_is : (block first : ℕ) → block < size_of v / 8 → first ≡ (8 * block) % v.sectors → 8 * (layout_of layout).first ≤ v.sectors * ((8 * block) / v.sectors) + first
        → is_data_piece layout v ((8 * block) / v.sectors) (((8 * block) / 8) % k) ≡ true
    piece_is block first low at behind =
        let piece = ((8 * block) / 8) % k in
        let here = block_piece block in
        let below : piece < k = (let s = some in omega (arith, s)) in
        let most = volume.some_sectors in
        let chunk : (8 * block) / v.sectors < v.chunks = div_below (8 * block) v.sectors v.chunks (omega (arith, most)) (omega (arith, low)) in
        and_from _ _ (and_from _ _ (lt-ltb ((8 * block) / v.sectors) v.chunks chunk) (lt-ltb (8 * piece) v.sectors (omega (arith, below, eight))))
        (le-leb (8 * (layout_of layout).first) (v.sectors * ((8 * block) / v.sectors) + 8 * piece) (omega (arith, here, at, behind)))

    -- an ask for file data is one of a piece
    pub of_piece : (ask : Ask) → IsOfBlock v ask → IsBehindJournal (layout_of layout) v ask → IsOfPiece (is_data_piece layout v) ask
    of_piece ask of behind = by of.2
      where
        block : ℕ
        block = of.0

        at_block : (8 * block) % v.sectors ≡ 8 * (((8 * block) / 8) % k)
        at_block = block_piece block

        by : (ask ≡ reads_block v block) ⊎ ((bytes : List ℕ) × (ask ≡ writes_block v block bytes)) → IsOfPiece (is_data_piece layout v) ask
        by (inl is) =
            let its = subst (IsBehindJournal (layout_of layout) v) is behind in
            subst (IsOfPiece (is_data_piece layout v)) (sym is)
            (((8 * block) / 8) % k, piece_is block ((8 * block) % v.sectors) of.1 refl its.behind, ap (λ n. record { first = n; count = 8 }) at_block)
        by (inr is) =
            let its = subst (IsBehindJournal (layout_of layout) v) is.1 behind in
            let count = length_cut 8 is.0 in
            subst (IsOfPiece (is_data_piece layout v)) (sym is.1)
            (((8 * block) / 8) % k, piece_is block ((8 * block) % v.sectors) of.1 refl its.behind, (λ i. record { first = at_block i; count = count i }), count)

    -- a write of a block that gives a sector of a piece is one of exactly this piece
    pub whole_block : (chunk piece nth : ℕ) (span : Span) (sectors : List Sector) (bytes : Sector) → nth < 8 → IsOfBlock v (Write chunk span sectors) → given (ops.Write span sectors) (8 * piece + nth) ≡ Some bytes
        → eight_in (8 * piece) (ops.Write span sectors) ≡ Some sectors
    whole_block chunk piece nth span sectors bytes low of gives = by of.2
      where
        block : ℕ
        block = of.0

        by : (Write chunk span sectors ≡ reads_block v block) ⊎ ((bytes : List ℕ) × (Write chunk span sectors ≡ writes_block v block bytes)) → eight_in (8 * piece) (ops.Write span sectors) ≡ Some sectors
        by (inl is) = absurd (cc)
        by (inr is) =
            let same : span ≡ record { first = (8 * block) % v.sectors; count = length (sectors_of 8 is.0) } = ap span_of is.1 in
            let its : sectors ≡ sectors_of 8 is.0 = cc in
            let cut = length_cut 8 is.0 in
            let first = ap (λ (s : Span). s.first) same in
            let count : span.count ≡ 8 = ap (λ (s : Span). s.count) same ∙ cut in
            let size : length sectors ≡ 8 = ap length its ∙ cut in
            let at = block_piece block in
            elim (cases_eq span.first (8 * piece)) [
              | inl here ↦ cond-true _ _ _ (and_from _ _ (and_from _ _ (eq-eqb span.first (8 * piece) here) (eq-eqb span.count 8 count)) (eq-eqb (length sectors) 8 size))
              | inr apart ↦
                  absurd (none-some bytes (sym (given_none span sectors (8 * piece + nth) (not_within span (8 * piece + nth) (omega (arith, count)) (λ least most.
                  absurd (apart (omega (arith, least, most, count, first, at, low)))))) ∙ gives))
            ]

    pub block_eight : (ask : Ask) → IsOfBlock v ask → (span_of ask).count ≡ 8
    block_eight ask of = by of.2
      where
        by : (ask ≡ reads_block v of.0) ⊎ ((bytes : List ℕ) × (ask ≡ writes_block v of.0 bytes)) → (span_of ask).count ≡ 8
        by (inl is) = ap (λ (a : Ask). (span_of a).count) is
        by (inr is) = ap (λ (a : Ask). (span_of a).count) is.1 ∙ length_cut 8 is.0

    -- it lies in a chunk of the volume
    pub of_chunk : (ask : Ask) → IsOfPiece (is_data_piece layout v) ask → chunk_of ask < v.chunks
    of_chunk (Write chunk span sectors) of = (data_piece chunk of.0 of.1).chunk_low
    of_chunk (Read chunk span) of = (data_piece chunk of.0 of.1).chunk_low
