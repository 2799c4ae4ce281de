-- What a call's file data leave at one place of a chunk, which hangs only on what was there before, and what they ask for it.
use Rattle.std.proofs.Common.{◌≡◌, ℕ, zero, suc, ◌+◌, ◌*◌, ◌/◌, ◌%◌, ◌<◌, ◌≤◌, ◌==◌, ◌&&◌, inl, inr, Bool, true, false, nat_lt, if◌then◌else◌, replicate, List, [], ◌∷◌, ◌++◌, Option, Some, None, arith, refl, sym, ap, subst, ◌∙◌, max, unwrap_or}
use Rattle.std.proofs.lemmas.Bool.{and_from, and_parts, cases_Bool, cases_eq, eq-eqb, eqb-true, lt-ltb, ltb-true, true≢false, cond-false}
use Rattle.std.proofs.lemmas.Option.{none-some, same_Some}
use Rattle.pf_base.specs.Asks.{chunk_of, span_of}
use Rattle.pf_base.specs.declared.asks.Ask.{Ask}
use Rattle.pf_base.specs.declared.asks.Ask.TheVariants.{Write, Read}
use Rattle.pf_base.specs.declared.asks.Reply.{Reply}
use Rattle.pf_base.specs.declared.asks.Reply.TheVariants.{Written, Bytes}
use Rattle.pf_base.specs.declared.calls.Call.TheVariants as calls
use Rattle.pf_entry.specs.Lists.{Every}
use Rattle.pf_entry.specs.Ops.{Sector}
use Rattle.pf_entry.proofs.Lists.{every_more}
use Rattle.pf_volume.specs.Volumes.{Extent}
use Rattle.pf_tree_tables.specs.Names.{Path}
use Rattle.pf_tree_tables.specs.Tables.{Tables}
use Rattle.pf_tree.specs.Plans.{found}
use Rattle.pf_tree.specs.Standing.{TablesStandFor}
use Rattle.pf_tree.specs.Trees.{Data, File, Tree, at, block_count, size_at, sized, written_size}
use Rattle.pf_tree.specs.Calls.{FileCall}
use Rattle.pf_file_calls.specs.Blocks.{bytes_of, reads_block, sectors_of, writes_block}
use Rattle.pf_file_calls.specs.Calls.{file_of_call}
use Rattle.pf_file_calls.specs.Filling.{end_of_fill, filled_block, first_of_fill, is_new, read_end, bytes_wanted}
use Rattle.pf_file_calls.specs.Moving.{block_at, fills, fills_block, fills_file, gathers, data_moves, moves_on, stores}
use Rattle.pf_file_calls.specs.declared.answers.CallAnswer.{CallAnswer}
use Rattle.pf_file_calls.specs.declared.answers.CallAnswer.TheVariants.{Fine, Bytes as BytesRead}
use Rattle.pf_file_calls.specs.declared.filling.Fill.{Fill}
use Rattle.pf_file_calls.specs.declared.moving.DataMoving.TheVariants.{Fetches, Stores, Gathers}
use Rattle.pf_file_calls.specs.declared.moving.Moved.{Moved}
use Rattle.pf_file_calls.specs.declared.moving.Moved.TheVariants.{Asks, Ends}
use Rattle.pf_law_plans.specs.Exchanges.{Exchange}
use Rattle.pf_law_plans.specs.Numbered.{tree_with}
use Rattle.pf_law_contents.specs.Stored.{GoesSo, Stored, TellStored, TellStoredAt, TellsStored, TellsStoredAt, stored_after, stored_by}
use Rattle.pf_law_contents.proofs.Calls.{sized_so}
use Rattle.pf_law_contents.proofs.Files.{file_there, one_index}
use Rattle.pf_law_contents.proofs.FilledBlocks.{chosen, is_written}
use Rattle.pf_law_contents.proofs.StoredBlocks.{one_block}

-- One place

-- where a block begins
abbrev pub IsPlaceOf : Extent → (block chunk first : ℕ) → Type 0
IsPlaceOf v block chunk first = (chunk ≡ 8 * block / v.sectors) × (first ≡ 8 * block % v.sectors)

abbrev pub IsRead : Ask → Type 0
IsRead (Read from span) = Unit {0}
IsRead (Write to span sectors) = ⊥

module _ (chunk first : ℕ) where
  -- what is stored at other places makes no difference
  stored_by_same : (s r : Stored) (ask : Ask) → s chunk first ≡ r chunk first → stored_by s ask chunk first ≡ stored_by r ask chunk first
  stored_by_same s r (Write to span sectors) same = ap (λ (xs : List Sector). if (chunk == to) && (first == span.first) then sectors else xs) same
  stored_by_same s r (Read from span) same = same

  pub stored_at_same : (s r : Stored) (came : List Exchange) → s chunk first ≡ r chunk first → stored_after s came chunk first ≡ stored_after r came chunk first
  stored_at_same s r [] same = same
  stored_at_same s r (e ∷ came) same = stored_at_same (stored_by s e.0) (stored_by r e.0) came (stored_by_same s r e.0 same)

  tells_at_same : (s r : Stored) (ask : Ask) (reply : Reply) → s chunk first ≡ r chunk first → TellsStoredAt chunk first s ask reply → TellsStoredAt chunk first r ask reply
  tells_at_same s r (Read from span) (Bytes sectors) same tells = λ here too. tells here too ∙ same
  tells_at_same s r (Read from span) Written same tells = tt
  tells_at_same s r (Write to span sectors) reply same tells = tt

  pub told_at_same : (s r : Stored) (came : List Exchange) → s chunk first ≡ r chunk first → TellStoredAt chunk first s came → TellStoredAt chunk first r came
  told_at_same s r [] same tells = tt
  told_at_same s r (e ∷ came) same tells = (
    tells_at_same s r e.0 e.1 same tells.0,
    told_at_same (stored_by s e.0) (stored_by r e.0) came (stored_by_same s r e.0 same) tells.1,
  )

  tells_at : (s : Stored) (ask : Ask) (reply : Reply) → TellsStored s ask reply → TellsStoredAt chunk first s ask reply
  tells_at s (Read from span) (Bytes sectors) tells = λ here too. tells ∙ ap (λ c. s c span.first) here ∙ ap (s chunk) too
  tells_at s (Read from span) Written tells = tt
  tells_at s (Write to span sectors) reply tells = tt

  -- where all reads are answered what is stored, those of the place are
  pub told_at : (s : Stored) (came : List Exchange) → TellStored s came → TellStoredAt chunk first s came
  told_at s [] tells = tt
  told_at s (e ∷ came) tells = (tells_at s e.0 e.1 tells.0, told_at (stored_by s e.0) came tells.1)

  pub told_at_parts : (xs ys : List Exchange) (s : Stored) → TellStoredAt chunk first s (xs ++ ys) → TellStoredAt chunk first s xs × TellStoredAt chunk first (stored_after s xs) ys
  told_at_parts [] ys s tells = (tt, tells)
  told_at_parts (e ∷ xs) ys s tells = let rest = told_at_parts xs ys (stored_by s e.0) tells.1 in ((tells.0, rest.0), rest.1)

  pub told_at_on : (xs ys : List Exchange) (s : Stored) → TellStoredAt chunk first s xs → TellStoredAt chunk first (stored_after s xs) ys → TellStoredAt chunk first s (xs ++ ys)
  told_at_on [] ys s first_told rest = rest
  told_at_on (e ∷ xs) ys s first_told rest = (first_told.0, told_at_on xs ys (stored_by s e.0) first_told.1 rest)

  -- an ask that is of another place, or that is no read of this one
  abbrev pub IsElsewhere : Ask → Type 0
  IsElsewhere ask = chunk ≡ chunk_of ask → first ≡ (span_of ask).first → ⊥

  abbrev pub IsUnread : Ask → Type 0
  IsUnread (Read from span) = chunk ≡ from → first ≡ span.first → ⊥
  IsUnread (Write to span sectors) = Unit {0}

  stays_by : (s : Stored) (ask : Ask) → IsElsewhere ask → stored_by s ask chunk first ≡ s chunk first
  stays_by s (Read from span) other = refl
  stays_by s (Write to span sectors) other = elim (cases_Bool ((chunk == to) && (first == span.first))) [
    | inl here ↦ let p = and_parts _ _ here in absurd (other (eqb-true _ _ p.0) (eqb-true _ _ p.1))
    | inr not_here ↦ ap (λ (b : Bool). if b then sectors else s chunk first) not_here
  ]

  pub stays_after : (s : Stored) (came : List Exchange) → Every (λ (e : Exchange). IsElsewhere e.0) came → stored_after s came chunk first ≡ s chunk first
  stays_after s [] others = refl
  stays_after s (e ∷ came) others = stays_after (stored_by s e.0) came others.1 ∙ stays_by s e.0 others.0

  tells_unread : (s : Stored) (ask : Ask) (reply : Reply) → IsUnread ask → TellsStoredAt chunk first s ask reply
  tells_unread s (Read from span) (Bytes sectors) other = λ here too. absurd (other (sym here) (sym too))
  tells_unread s (Read from span) Written other = tt
  tells_unread s (Write to span sectors) reply other = tt

  pub told_unread : (s : Stored) (came : List Exchange) → Every (λ (e : Exchange). IsUnread e.0) came → TellStoredAt chunk first s came
  told_unread s [] others = tt
  told_unread s (e ∷ came) others = (tells_unread s e.0 e.1 others.0, told_unread (stored_by s e.0) came others.1)

  stored_read : (s : Stored) (ask : Ask) → IsRead ask → stored_by s ask chunk first ≡ s chunk first
  stored_read s (Read from span) read = refl
  stored_read s (Write to span sectors) read = absurd read

  pub only_reads : (s : Stored) (came : List Exchange) → Every (λ (e : Exchange). IsRead e.0) came → stored_after s came chunk first ≡ s chunk first
  only_reads s [] reads = refl
  only_reads s (e ∷ came) reads = only_reads (stored_by s e.0) came reads.1 ∙ stored_read s e.0 reads.0

-- Fills

-- a fill writes its blocks, and reads those of them that are not new
pub data IsAskOf (v : Extent) (t : Tables) (f : Fill) : Ask → Type 0 where
  Puts : (k : ℕ) → first_of_fill f ≤ k → k < end_of_fill f → (bytes : List ℕ) → IsAskOf v t f (writes_block v (block_at t f.inode k) (filled_block f k bytes))
  Gets : (k : ℕ) → first_of_fill f ≤ k → k < end_of_fill f → is_new f k ≡ false → IsAskOf v t f (reads_block v (block_at t f.inode k))

module _ (v : Extent) (t : Tables) (f : Fill) where
  -- what is filled, where this was stored
  abbrev pub old_of : (k : ℕ) → List Sector → List ℕ
  old_of k xs = if is_new f k then replicate 4096 0 else bytes_of xs

  abbrev pub is_here : (chunk first k : ℕ) → Bool
  is_here chunk first k = (chunk == 8 * block_at t f.inode k / v.sectors) && (first == 8 * block_at t f.inode k % v.sectors)

  -- what one index leaves at the place, and all from one on
  abbrev pub left_by : (chunk first k : ℕ) → List Sector → List Sector
  left_by chunk first k xs = if is_here chunk first k then sectors_of 8 (filled_block f k (old_of k xs)) else xs

  abbrev pub leaves : (chunk first n index : ℕ) → List Sector → List Sector
  leaves chunk first zero index xs = xs
  leaves chunk first (suc n) index xs = if nat_lt index (end_of_fill f) then leaves chunk first n (suc index) (left_by chunk first index xs) else xs

  -- the blocks from an index on were filled
  record HasGone (n index : ℕ) (came : List Exchange) (answer : CallAnswer) : Type 0 where
    asks : Every (λ (e : Exchange). IsAskOf v t f e.0) came
    fine : answer ≡ Fine
    left : (chunk first : ℕ) (s : Stored) → TellStoredAt chunk first s came → stored_after s came chunk first ≡ leaves chunk first n index (s chunk first)

  -- that of this index was, with these old bytes, and then those behind it
  record HasStored (n index : ℕ) (bytes : List ℕ) (came : List Exchange) (answer : CallAnswer) : Type 0 where
    asks : Every (λ (e : Exchange). IsAskOf v t f e.0) came
    fine : answer ≡ Fine
    left : (chunk first : ℕ) (s : Stored) → (is_here chunk first index ≡ true → bytes ≡ old_of index (s chunk first)) → TellStoredAt chunk first s came → stored_after s came chunk first ≡ leaves chunk first n (suc index) (left_by chunk first index (s chunk first))

  abbrev GoesFrom : (n index : ℕ) → Type 0
  GoesFrom n index = (came : List Exchange) (answer : CallAnswer) → GoesSo v t (fills v t f index) came answer → HasGone n index came answer

  put_here : (chunk first index : ℕ) (s : Stored) (bytes : List ℕ) → (is_here chunk first index ≡ true → bytes ≡ old_of index (s chunk first))
      → stored_by s (writes_block v (block_at t f.inode index) (filled_block f index bytes)) chunk first ≡ left_by chunk first index (s chunk first)
  put_here chunk first index s bytes are = elim (cases_Bool (is_here chunk first index)) [
    | inl here ↦
        ap (λ (b : Bool). if b then sectors_of 8 (filled_block f index bytes) else s chunk first) here
        ∙ ap (λ its. sectors_of 8 (filled_block f index its)) (are here)
        ∙ sym (ap (λ (b : Bool). if b then sectors_of 8 (filled_block f index (old_of index (s chunk first))) else s chunk first) here)
    | inr not_here ↦
        ap (λ (b : Bool). if b then sectors_of 8 (filled_block f index bytes) else s chunk first) not_here
        ∙ sym (ap (λ (b : Bool). if b then sectors_of 8 (filled_block f index (old_of index (s chunk first))) else s chunk first) not_here)
  ]

  store_goes : (n index : ℕ) → GoesFrom n (suc index) → first_of_fill f ≤ index → index < end_of_fill f → (bytes : List ℕ) (came : List Exchange) (answer : CallAnswer) → GoesSo v t (stores v (block_at t f.inode index) f index bytes) came answer → HasStored n index bytes came answer
  store_goes n index next low high bytes [] answer goes = absurd goes
  store_goes n index next low high bytes (e ∷ came) answer goes =
      let written = is_written v (block_at t f.inode index) (filled_block f index bytes) e.1 goes.1 in
      let rest = next came answer (subst (λ (r : Reply). GoesSo v t (moves_on v t (Stores f index) r) came answer) written goes.2) in
      record {
        asks = (subst (λ (a : Ask). IsAskOf v t f a) (sym goes.0) (Puts index low high bytes), rest.asks);
        fine = rest.fine;
        left = λ chunk first s are tells.
            subst (λ (a : Ask). stored_after (stored_by s a) came chunk first ≡ leaves chunk first n (suc index) (left_by chunk first index (s chunk first))) (sym goes.0)
            (rest.left chunk first (stored_by s (writes_block v (block_at t f.inode index) (filled_block f index bytes))) (subst (λ (a : Ask). TellStoredAt chunk first (stored_by s a) came) goes.0 tells.1)
            ∙ ap (leaves chunk first n (suc index)) (put_here chunk first index s bytes are));
      }

  -- a block that is not new was read before
  fetch_goes : (n index : ℕ) → GoesFrom n (suc index) → first_of_fill f ≤ index → index < end_of_fill f → is_new f index ≡ false → (came : List Exchange) (answer : CallAnswer) → GoesSo v t (Asks (reads_block v (block_at t f.inode index)) (Fetches f index)) came answer
      → Every (λ (e : Exchange). IsAskOf v t f e.0) came × (answer ≡ Fine)
      × ((chunk first : ℕ) (s : Stored) → TellStoredAt chunk first s came → stored_after s came chunk first ≡ leaves chunk first n (suc index) (left_by chunk first index (s chunk first)))
  fetch_goes n index next low high old [] answer goes = absurd goes
  fetch_goes n index next low high old ((ask, Written) ∷ came) answer goes = absurd goes.1
  fetch_goes n index next low high old ((ask, Bytes sectors) ∷ came) answer goes =
      let stored = store_goes n index next low high (bytes_of sectors) came answer goes.2 in (
        (subst (λ (a : Ask). IsAskOf v t f a) (sym goes.0) (Gets index low high old), stored.asks),
        stored.fine,
        λ chunk first s tells.
            subst (λ (a : Ask). stored_after (stored_by s a) came chunk first ≡ leaves chunk first n (suc index) (left_by chunk first index (s chunk first))) (sym goes.0)
            (stored.left chunk first s (λ here.
            let p = and_parts _ _ here in
            let told = subst (λ (a : Ask). TellsStoredAt chunk first s a (Bytes sectors)) goes.0 tells.0 in
            ap bytes_of (told (sym (eqb-true _ _ p.0)) (sym (eqb-true _ _ p.1))) ∙ sym (ap (λ (b : Bool). if b then replicate 4096 0 else bytes_of (s chunk first)) old))
            (subst (λ (a : Ask). TellStoredAt chunk first (stored_by s a) came) goes.0 tells.1)),
      )

  none_left : (n index : ℕ) (came : List Exchange) (answer : CallAnswer) → nat_lt index (end_of_fill f) ≡ false → GoesSo v t (Ends Fine) came answer → HasGone n index came answer
  none_left n index (e ∷ came) answer past goes = absurd goes
  none_left n index [] answer past goes = record { asks = tt; fine = sym goes; left = λ chunk first s tells. by chunk first n (s chunk first) }
    where
      by : (chunk first n : ℕ) (xs : List Sector) → xs ≡ leaves chunk first n index xs
      by chunk first zero xs = refl
      by chunk first (suc n) xs = sym (ap (λ (b : Bool). if b then leaves chunk first n (suc index) (left_by chunk first index xs) else xs) past)

  fill_goes : (n index : ℕ) → end_of_fill f ≤ index + n → first_of_fill f ≤ index → GoesFrom n index
  fill_goes zero index most low came answer goes =
      chosen v t came answer (nat_lt index (end_of_fill f)) (fills_block v (block_at t f.inode index) f index) (Ends Fine) goes
      (λ below _. absurd (let lt = ltb-true index (end_of_fill f) below in omega (arith, lt, most)))
      (λ past rest. none_left zero index came answer past rest)
  fill_goes (suc n) index most low came answer goes =
      chosen v t came answer (nat_lt index (end_of_fill f)) (fills_block v (block_at t f.inode index) f index) (Ends Fine) goes
      (λ below block.
      let high = ltb-true index (end_of_fill f) below in
      let next = fill_goes n (suc index) (omega (arith, most)) (omega (arith, low)) in
      chosen v t came answer (is_new f index) (stores v (block_at t f.inode index) f index (replicate 4096 0)) (Asks (reads_block v (block_at t f.inode index)) (Fetches f index)) block
      (λ new rest.
      let stored = store_goes n index next low high (replicate 4096 0) came answer rest in
      record {
        asks = stored.asks;
        fine = stored.fine;
        left = λ chunk first s tells.
            stored.left chunk first s (λ here. sym (ap (λ (b : Bool). if b then replicate 4096 0 else bytes_of (s chunk first)) new)) tells
            ∙ sym (ap (λ (b : Bool). if b then leaves chunk first n (suc index) (left_by chunk first index (s chunk first)) else s chunk first) below);
      })
      (λ old rest.
      let fetched = fetch_goes n index next low high old came answer rest in
      record {
        asks = fetched.0;
        fine = fetched.1;
        left = λ chunk first s tells.
            fetched.2 chunk first s tells
            ∙ sym (ap (λ (b : Bool). if b then leaves chunk first n (suc index) (left_by chunk first index (s chunk first)) else s chunk first) below);
      }))
      (λ past rest. none_left (suc n) index came answer past rest)

  -- the block at which it asks is that of one of its indices
  pub asks_its_block : 0 < v.sectors → (ask : Ask) → IsAskOf v t f ask → (block : ℕ) → IsPlaceOf v block (chunk_of ask) (span_of ask).first → (k : ℕ) × (first_of_fill f ≤ k) × (k < end_of_fill f) × (block_at t f.inode k ≡ block)
  asks_its_block some _ (Puts k low high bytes) block place = (k, low, high, one_block v some (block_at t f.inode k) block place.0 place.1)
  asks_its_block some _ (Gets k low high old) block place = (k, low, high, one_block v some (block_at t f.inode k) block place.0 place.1)

  module _ (came : List Exchange) (answer : CallAnswer) (goes : GoesSo v t (fills_file v t f) came answer) where
    gone : HasGone (end_of_fill f) (first_of_fill f) came answer
    gone = fill_goes (end_of_fill f) (first_of_fill f) (omega arith) (omega arith) came answer goes

    -- it asks for no other blocks
    pub fill_asks : Every (λ (e : Exchange). IsAskOf v t f e.0) came
    fill_asks = gone.asks

    pub fill_fine : answer ≡ Fine
    fill_fine = gone.fine

    pub fill_left : (chunk first : ℕ) (s : Stored) → TellStoredAt chunk first s came → stored_after s came chunk first ≡ leaves chunk first (end_of_fill f) (first_of_fill f) (s chunk first)
    fill_left = gone.left

    -- a place of none of its blocks
    module _ (chunk first : ℕ) (other : (k : ℕ) → first_of_fill f ≤ k → k < end_of_fill f → IsPlaceOf v (block_at t f.inode k) chunk first → ⊥) where
      ask_elsewhere : (ask : Ask) → IsAskOf v t f ask → IsElsewhere chunk first ask
      ask_elsewhere _ (Puts k low high bytes) = λ here too. other k low high (here, too)
      ask_elsewhere _ (Gets k low high old) = λ here too. other k low high (here, too)

      pub fill_elsewhere : (s : Stored) → stored_after s came chunk first ≡ s chunk first
      fill_elsewhere s = stays_after chunk first s came (every_more _ _ (λ e is. ask_elsewhere e.0 is) came fill_asks)

    -- the place of a block that is of one index alone
    module _ (some : 0 < v.sectors) (k : ℕ) (low : first_of_fill f ≤ k) (high : k < end_of_fill f) (alone : (j : ℕ) → first_of_fill f ≤ j → j < end_of_fill f → block_at t f.inode j ≡ block_at t f.inode k → j ≡ k) (chunk first : ℕ) (place : IsPlaceOf v (block_at t f.inode k) chunk first) where
      its_index : (j : ℕ) → first_of_fill f ≤ j → j < end_of_fill f → chunk ≡ 8 * block_at t f.inode j / v.sectors → first ≡ 8 * block_at t f.inode j % v.sectors → j ≡ k
      its_index j from below here too = alone j from below (one_block v some (block_at t f.inode j) (block_at t f.inode k) (sym here ∙ place.0) (sym too ∙ place.1))

      -- another index leaves what was there
      left_other : (j : ℕ) (xs : List Sector) → first_of_fill f ≤ j → j < end_of_fill f → (j ≡ k → ⊥) → left_by chunk first j xs ≡ xs
      left_other j xs from below other = elim (cases_Bool (is_here chunk first j)) [
        | inl here ↦ let p = and_parts _ _ here in absurd (other (its_index j from below (eqb-true _ _ p.0) (eqb-true _ _ p.1)))
        | inr not_here ↦ ap (λ (b : Bool). if b then sectors_of 8 (filled_block f j (old_of j xs)) else xs) not_here
      ]

      left_its : (xs : List Sector) → left_by chunk first k xs ≡ sectors_of 8 (filled_block f k (old_of k xs))
      left_its xs = ap (λ (b : Bool). if b then sectors_of 8 (filled_block f k (old_of k xs)) else xs) (and_from _ _ (eq-eqb _ _ place.0) (eq-eqb _ _ place.1))

      behind : (n index : ℕ) (xs : List Sector) → k < index → leaves chunk first n index xs ≡ xs
      behind zero index xs above = refl
      behind (suc n) index xs above = elim (cases_Bool (nat_lt index (end_of_fill f))) [
        | inl below ↦
            ap (λ (b : Bool). if b then leaves chunk first n (suc index) (left_by chunk first index xs) else xs) below
            ∙ behind n (suc index) (left_by chunk first index xs) (omega (arith, above))
            ∙ left_other index xs (omega (arith, low, above)) (ltb-true index (end_of_fill f) below) (λ same. omega (arith, same, above))
        | inr past ↦ ap (λ (b : Bool). if b then leaves chunk first n (suc index) (left_by chunk first index xs) else xs) past
      ]

      up_to : (n index : ℕ) (xs : List Sector) → first_of_fill f ≤ index → index ≤ k → k < index + n → leaves chunk first n index xs ≡ sectors_of 8 (filled_block f k (old_of k xs))
      up_to zero index xs from most few = absurd (omega (arith, most, few))
      up_to (suc n) index xs from most few =
          ap (λ (b : Bool). if b then leaves chunk first n (suc index) (left_by chunk first index xs) else xs) (lt-ltb index (end_of_fill f) (omega (arith, most, high)))
          ∙ (elim (cases_eq index k) [
            | inl same ↦ behind n (suc index) (left_by chunk first index xs) (omega (arith, same)) ∙ ap (λ j. left_by chunk first j xs) same ∙ left_its xs
            | inr other ↦
                up_to n (suc index) (left_by chunk first index xs) (omega (arith, from)) (omega (arith, most, other)) (omega (arith, few))
                ∙ ap (λ ys. sectors_of 8 (filled_block f k (old_of k ys))) (left_other index xs from (omega (arith, most, high)) other)
          ])

      -- it is filled
      pub fill_left_at : (s : Stored) → TellStoredAt chunk first s came → stored_after s came chunk first ≡ sectors_of 8 (filled_block f k (old_of k (s chunk first)))
      fill_left_at s tells = fill_left chunk first s tells ∙ up_to (end_of_fill f) (first_of_fill f) (s chunk first) (omega arith) low (omega (arith, high))

      -- a new block is not read
      unread : is_new f k ≡ true → (ask : Ask) → IsAskOf v t f ask → IsUnread chunk first ask
      unread new _ (Puts j from below bytes) = tt
      unread new _ (Gets j from below old) = λ here too. absurd (true≢false (sym new ∙ ap (λ n. is_new f n) (sym (its_index j from below here too)) ∙ old))

      -- and is zeros before, whatever was there
      pub fill_left_new : (s : Stored) → is_new f k ≡ true → stored_after s came chunk first ≡ sectors_of 8 (filled_block f k (replicate 4096 0))
      fill_left_new s new =
          fill_left_at s (told_unread chunk first s came (every_more _ _ (λ e is. unread new e.0 is) came fill_asks))
          ∙ ap (λ (b : Bool). sectors_of 8 (filled_block f k (if b then replicate 4096 0 else bytes_of (s chunk first)))) new

-- Reads

-- A read asks for the blocks from that of its first byte on up to that of its last one
pub record IsAskOfRead (v : Extent) (t : Tables) (inode offset to : ℕ) (ask : Ask) : Type 0 where
  pub k : ℕ
  pub low : offset / 4096 ≤ k
  pub high : k < block_count to
  pub is : ask ≡ reads_block v (block_at t inode k)

-- Reads of a block were answered the same in two goings: each what was stored there, of which that at the beginning was the same
pub record AreToldAlike (v : Extent) (block : ℕ) (came its : List Exchange) : Type 0 where
  pub s : Stored
  pub r : Stored
  pub here : TellStoredAt (8 * block / v.sectors) (8 * block % v.sectors) s came
  pub there : TellStoredAt (8 * block / v.sectors) (8 * block % v.sectors) r its
  pub same : s (8 * block / v.sectors) (8 * block % v.sectors) ≡ r (8 * block / v.sectors) (8 * block % v.sectors)

both_chosen : {R : Type 0} → (v : Extent) (t : Tables) (came its : List Exchange) (answer other : CallAnswer) (b : Bool) (x y : Moved) → GoesSo v t (if b then x else y) came answer → GoesSo v t (if b then x else y) its other → (b ≡ true → GoesSo v t x came answer → GoesSo v t x its other → R)
    → (b ≡ false → GoesSo v t y came answer → GoesSo v t y its other → R) → R
both_chosen v t came its answer other true x y goes too of_x of_y = of_x refl goes too
both_chosen v t came its answer other false x y goes too of_x of_y = of_y refl goes too

ended_as : (v : Extent) (t : Tables) (is answer : CallAnswer) (came : List Exchange) → GoesSo v t (Ends is) came answer → is ≡ answer
ended_as v t is answer [] goes = goes
ended_as v t is answer (e ∷ came) goes = absurd goes

both_end : (v : Extent) (t : Tables) (is answer other : CallAnswer) (came its : List Exchange) → GoesSo v t (Ends is) came answer → GoesSo v t (Ends is) its other → answer ≡ other
both_end v t is answer other came its goes too = sym (ended_as v t is answer came goes) ∙ ended_as v t is other its too

none_asked : (P : Exchange → Type 0) (v : Extent) (t : Tables) (is answer : CallAnswer) (came : List Exchange) → GoesSo v t (Ends is) came answer → Every P came
none_asked P v t is answer [] goes = tt
none_asked P v t is answer (e ∷ came) goes = absurd goes

module _ (v : Extent) (t : Tables) (inode offset to : ℕ) where
  abbrev AreAsks : List Exchange → Type 0
  AreAsks came = Every (λ (e : Exchange). IsAskOfRead v t inode offset to e.0) came

  gather_asks : (n index : ℕ) → block_count to ≤ index + n → offset / 4096 ≤ index → (bytes : List ℕ) (came : List Exchange) (answer : CallAnswer) → GoesSo v t (gathers v t inode offset to index bytes) came answer → AreAsks came
  gather_asks zero index most low bytes came answer goes =
      chosen v t came answer (nat_lt index (block_count to)) (Asks (reads_block v (block_at t inode index)) (Gathers inode offset to index bytes)) (Ends (BytesRead (bytes_wanted offset to bytes))) goes
      (λ below rest. absurd (let lt = ltb-true index (block_count to) below in omega (arith, lt, most)))
      (λ past rest. none_asked _ v t (BytesRead (bytes_wanted offset to bytes)) answer came rest)
  gather_asks (suc n) index most low bytes came answer goes =
      chosen v t came answer (nat_lt index (block_count to)) (Asks (reads_block v (block_at t inode index)) (Gathers inode offset to index bytes)) (Ends (BytesRead (bytes_wanted offset to bytes))) goes
      (λ below rest. one_more (λ its came rest. gather_asks n (suc index) (omega (arith, most)) (omega (arith, low)) its came answer rest) came (ltb-true index (block_count to) below) rest)
      (λ past rest. none_asked _ v t (BytesRead (bytes_wanted offset to bytes)) answer came rest)
    where
      one_more : ((bytes : List ℕ) (came : List Exchange) → GoesSo v t (gathers v t inode offset to (suc index) bytes) came answer → AreAsks came) → (came : List Exchange) → index < block_count to
          → GoesSo v t (Asks (reads_block v (block_at t inode index)) (Gathers inode offset to index bytes)) came answer → AreAsks came
      one_more next [] high rest = absurd rest
      one_more next ((ask, Written) ∷ came) high rest = absurd rest.1
      one_more next ((ask, Bytes sectors) ∷ came) high rest = (
        record { k = index; low = low; high = high; is = rest.0 },
        next (bytes ++ bytes_of sectors) came rest.2,
      )

  -- told the same of the blocks from an index on, both have one answer
  abbrev SameFrom : (index : ℕ) (answer other : CallAnswer) → Type 0
  SameFrom index answer other = (bytes : List ℕ) (came its : List Exchange) → GoesSo v t (gathers v t inode offset to index bytes) came answer → GoesSo v t (gathers v t inode offset to index bytes) its other
      → ((k : ℕ) → index ≤ k → k < block_count to → AreToldAlike v (block_at t inode k) came its) → answer ≡ other

  gather_same : (n index : ℕ) → block_count to ≤ index + n → (answer other : CallAnswer) → SameFrom index answer other
  gather_same zero index most answer other bytes came its goes too told =
      both_chosen v t came its answer other (nat_lt index (block_count to)) (Asks (reads_block v (block_at t inode index)) (Gathers inode offset to index bytes)) (Ends (BytesRead (bytes_wanted offset to bytes))) goes too
      (λ below a b. absurd (let lt = ltb-true index (block_count to) below in omega (arith, lt, most)))
      (λ past a b. both_end v t (BytesRead (bytes_wanted offset to bytes)) answer other came its a b)
  gather_same (suc n) index most answer other bytes came its goes too told =
      both_chosen v t came its answer other (nat_lt index (block_count to)) (Asks (reads_block v (block_at t inode index)) (Gathers inode offset to index bytes)) (Ends (BytesRead (bytes_wanted offset to bytes))) goes too
      (λ below a b. one_more (gather_same n (suc index) (omega (arith, most)) answer other) came its (ltb-true index (block_count to) below) a b told)
      (λ past a b. both_end v t (BytesRead (bytes_wanted offset to bytes)) answer other came its a b)
    where
      one_more : SameFrom (suc index) answer other → (came its : List Exchange) → index < block_count to → GoesSo v t (Asks (reads_block v (block_at t inode index)) (Gathers inode offset to index bytes)) came answer → GoesSo v t (Asks (reads_block v (block_at t inode index)) (Gathers inode offset to index bytes)) its other
          → ((k : ℕ) → index ≤ k → k < block_count to → AreToldAlike v (block_at t inode k) came its) → answer ≡ other
      one_more next [] its high a b told = absurd a
      one_more next (e ∷ came) [] high a b told = absurd b
      one_more next ((ask, Written) ∷ came) (e ∷ its) high a b told = absurd a.1
      one_more next ((ask, Bytes sectors) ∷ came) ((too, Written) ∷ its) high a b told = absurd b.1
      one_more next ((ask, Bytes sectors) ∷ came) ((too, Bytes others) ∷ its) high a b told =
          let first = told index (omega arith) high in
          let mine = subst (λ (x : Ask). TellsStoredAt (8 * block_at t inode index / v.sectors) (8 * block_at t inode index % v.sectors) first.s x (Bytes sectors)) a.0 first.here.0 refl refl in
          let other_one = subst (λ (x : Ask). TellsStoredAt (8 * block_at t inode index / v.sectors) (8 * block_at t inode index % v.sectors) first.r x (Bytes others)) b.0 first.there.0 refl refl in
          let one : sectors ≡ others = mine ∙ first.same ∙ sym other_one in
          next (bytes ++ bytes_of sectors) came its a.2 (subst (λ (xs : List Sector). GoesSo v t (gathers v t inode offset to (suc index) (bytes ++ bytes_of xs)) its other) (sym one) b.2)
          (λ k above below.
          let was = told k (omega (arith, above)) below in
          record {
            s = stored_by was.s ask;
            r = stored_by was.r too;
            here = was.here.1;
            there = was.there.1;
            same =
                ap (λ (x : Ask). stored_by was.s x (8 * block_at t inode k / v.sectors) (8 * block_at t inode k % v.sectors)) a.0
                ∙ was.same
                ∙ sym (ap (λ (x : Ask). stored_by was.r x (8 * block_at t inode k / v.sectors) (8 * block_at t inode k % v.sectors)) b.0);
          })

-- Calls

-- what a call fills, of a file that had this size before
abbrev pub fill_in : Tables → (size : ℕ) → FileCall → Option Fill
fill_in t size (calls.Write p offset byte count) = if count == 0 then None else Some (record { inode = found t p; size = size; start = offset; byte = byte; count = count })
fill_in t size (calls.Truncate p to) = if nat_lt size to then Some (record { inode = found t p; size = size; start = to; byte = 0; count = 0 }) else None
fill_in t size call = None

-- what a call leaves where this was stored
abbrev pub call_leaves : Extent → Tables → Option Fill → (chunk first : ℕ) → List Sector → List Sector
call_leaves v t None chunk first xs = xs
call_leaves v t (Some f) chunk first xs = leaves v t f chunk first (end_of_fill f) (first_of_fill f) xs

module _ (v : Extent) (t : Tables) (size : ℕ) where
  is_fill_of : (b : Bool) (g f : Fill) (x : Moved) → ◌≡◌ {A = Option Fill} (if b then Some g else None) (Some f) → (if b then fills_file v t g else x) ≡ fills_file v t f
  is_fill_of true g f x is = ap (fills_file v t) (same_Some _ _ is)
  is_fill_of false g f x is = absurd (none-some f is)

  is_fill_else : (b : Bool) (g f : Fill) (x : Moved) → ◌≡◌ {A = Option Fill} (if b then None else Some g) (Some f) → (if b then x else fills_file v t g) ≡ fills_file v t f
  is_fill_else true g f x is = absurd (none-some f is)
  is_fill_else false g f x is = ap (fills_file v t) (same_Some _ _ is)

  -- the file data of a call that fills are those of its fill
  pub fills_so : (call : FileCall) (f : Fill) → fill_in t size call ≡ Some f → data_moves v t size call ≡ fills_file v t f
  fills_so (calls.Write p offset byte count) f is = is_fill_else (count == 0) (record { inode = found t p; size = size; start = offset; byte = byte; count = count }) f (Ends Fine) is
  fills_so (calls.Truncate p to) f is = is_fill_of (nat_lt size to) (record { inode = found t p; size = size; start = to; byte = 0; count = 0 }) f (Ends Fine) is
  fills_so call f is = absurd (none-some f is)

  -- and any other call only reads
  no_fill_else : (b : Bool) (g : Fill) (came : List Exchange) (answer : CallAnswer) → ◌≡◌ {A = Option Fill} (if b then None else Some g) None → GoesSo v t (if b then Ends Fine else fills_file v t g) came answer → Every (λ (e : Exchange). IsRead e.0) came
  no_fill_else true g came answer none goes = none_asked _ v t Fine answer came goes
  no_fill_else false g came answer none goes = absurd (none-some g (sym none))

  no_fill_of : (b : Bool) (g : Fill) (came : List Exchange) (answer : CallAnswer) → ◌≡◌ {A = Option Fill} (if b then Some g else None) None → GoesSo v t (if b then fills_file v t g else Ends Fine) came answer → Every (λ (e : Exchange). IsRead e.0) came
  no_fill_of true g came answer none goes = absurd (none-some g (sym none))
  no_fill_of false g came answer none goes = none_asked _ v t Fine answer came goes

  -- the asks of a read
  pub read_asks : (p : Path) (offset count : ℕ) (came : List Exchange) (answer : CallAnswer) → GoesSo v t (data_moves v t size (calls.Read p offset count)) came answer → Every (λ (e : Exchange). IsAskOfRead v t (found t p) offset (read_end size offset count) e.0) came
  read_asks p offset count came answer goes =
      chosen v t came answer (nat_lt offset (read_end size offset count)) (gathers v t (found t p) offset (read_end size offset count) (offset / 4096) []) (Ends (BytesRead [])) goes
      (λ some rest. gather_asks v t (found t p) offset (read_end size offset count) (block_count (read_end size offset count)) (offset / 4096) (omega arith) (omega arith) [] came answer rest)
      (λ none rest. none_asked _ v t (BytesRead []) answer came rest)

  pub only_looks : (call : FileCall) → fill_in t size call ≡ None → (came : List Exchange) (answer : CallAnswer) → GoesSo v t (data_moves v t size call) came answer → Every (λ (e : Exchange). IsRead e.0) came
  only_looks (calls.Write p offset byte count) none came answer goes = no_fill_else (count == 0) (record { inode = found t p; size = size; start = offset; byte = byte; count = count }) came answer none goes
  only_looks (calls.Truncate p to) none came answer goes = no_fill_of (nat_lt size to) (record { inode = found t p; size = size; start = to; byte = 0; count = 0 }) came answer none goes
  only_looks (calls.Read p offset count) none came answer goes = every_more _ _ (λ e asked. subst IsRead (sym asked.is) tt) came (read_asks p offset count came answer goes)
  only_looks call none came answer goes = none_asked _ v t _ answer came goes

  module _ (call : FileCall) (came : List Exchange) (answer : CallAnswer) (goes : GoesSo v t (data_moves v t size call) came answer) where
    -- what a call leaves at a place hangs only on what was there
    pub call_left : (chunk first : ℕ) (s : Stored) → TellStoredAt chunk first s came → stored_after s came chunk first ≡ call_leaves v t (fill_in t size call) chunk first (s chunk first)
    call_left chunk first s tells = by (fill_in t size call) refl
      where
        by : (o : Option Fill) → fill_in t size call ≡ o → stored_after s came chunk first ≡ call_leaves v t o chunk first (s chunk first)
        by None none = only_reads chunk first s came (only_looks call none came answer goes)
        by (Some f) is = fill_left v t f came answer (subst (λ (x : Moved). GoesSo v t x came answer) (fills_so call f is) goes) chunk first s tells

module _ (v : Extent) (t : Tables) (size : ℕ) (call : FileCall) (came its : List Exchange) (answer other : CallAnswer) (goes : GoesSo v t (data_moves v t size call) came answer) (too : GoesSo v t (data_moves v t size call) its other) where
  -- so it leaves the same where the same was
  pub same_left : (chunk first : ℕ) (s r : Stored) → TellStoredAt chunk first s came → TellStoredAt chunk first r its → s chunk first ≡ r chunk first → stored_after s came chunk first ≡ stored_after r its chunk first
  same_left chunk first s r tells its_tells same =
      call_left v t size call came answer goes chunk first s tells
      ∙ ap (call_leaves v t (fill_in t size call) chunk first) same
      ∙ sym (call_left v t size call its other too chunk first r its_tells)

-- Where the tables stand for the tree after a call, each index of its fill has a block of its own

module _ (d : Data) (before t : Tables) (tree : Tree) (stood : TablesStandFor d before tree) (size : ℕ) (old : List ℕ) where
  alone_in : (p : Path) (to : ℕ) → at tree p ≡ Some (File size old) → TablesStandFor d t (unwrap_or (sized d tree p to) tree) → (k other : ℕ) → k < block_count to → other < block_count to → block_at t (found t p) k ≡ block_at t (found t p) other → k ≡ other
  alone_in p to there stands k other low below same =
      let sized_to = sized_so d before tree stood p size to old there in
      let its = file_there d t (unwrap_or (sized d tree p to) tree) stands p to sized_to.blocks sized_to.is in
      (one_index d t (unwrap_or (sized d tree p to) tree) stands p p to to sized_to.blocks sized_to.blocks k other its its low below same).1

  abbrev AreAlone : Fill → Type 0
  AreAlone f = (k other : ℕ) → k < end_of_fill f → other < end_of_fill f → block_at t f.inode k ≡ block_at t f.inode other → k ≡ other

  by_write : (b : Bool) (g f : Fill) → ◌≡◌ {A = Option Fill} (if b then None else Some g) (Some f) → (b ≡ false → AreAlone g) → AreAlone f
  by_write true g f is alone = absurd (none-some f is)
  by_write false g f is alone = subst AreAlone (same_Some _ _ is) (alone refl)

  by_truncate : (b : Bool) (g f : Fill) → ◌≡◌ {A = Option Fill} (if b then Some g else None) (Some f) → AreAlone g → AreAlone f
  by_truncate true g f is alone = subst AreAlone (same_Some _ _ is) alone
  by_truncate false g f is alone = absurd (none-some f is)

  pub fill_alone : (call : FileCall) → at tree (file_of_call call) ≡ Some (File size old) → TablesStandFor d t (tree_with d tree (Some call)) → (f : Fill) → fill_in t size call ≡ Some f → AreAlone f
  fill_alone (calls.Write p offset byte count) there stands f is =
      by_write (count == 0) (record { inode = found t p; size = size; start = offset; byte = byte; count = count }) f is (λ some k other low below same.
      let grown : written_size (size_at (at tree p)) offset count ≡ max (size_at (at tree p)) (offset + count) = cond-false _ _ _ some in
      alone_in p (written_size (size_at (at tree p)) offset count) there stands k other (omega (arith, low, grown)) (omega (arith, below, grown)) same)
  fill_alone (calls.Truncate p to) there stands f is =
      by_truncate (nat_lt size to) (record { inode = found t p; size = size; start = to; byte = 0; count = 0 }) f is (λ k other low below same. alone_in p to there stands k other (omega (arith, low)) (omega (arith, below)) same)
  fill_alone call there stands f is = absurd (none-some f is)

-- two goings of a read were answered the same of each of its blocks
abbrev pub AreReadAlike : Extent → Tables → (size : ℕ) → FileCall → (came its : List Exchange) → Type 0
AreReadAlike v t size (calls.Read p offset count) came its = (k : ℕ) → offset / 4096 ≤ k → k < block_count (read_end size offset count) → AreToldAlike v (block_at t (found t p) k) came its
AreReadAlike v t size call came its = Unit {0}

module _ (v : Extent) (t : Tables) (size : ℕ) (came its : List Exchange) (answer other : CallAnswer) where
  same_fill : (f : Fill) → GoesSo v t (fills_file v t f) came answer → GoesSo v t (fills_file v t f) its other → answer ≡ other
  same_fill f goes too = fill_fine v t f came answer goes ∙ sym (fill_fine v t f its other too)

  -- then the call has one answer
  pub same_answer : (call : FileCall) → GoesSo v t (data_moves v t size call) came answer → GoesSo v t (data_moves v t size call) its other → AreReadAlike v t size call came its → answer ≡ other
  same_answer (calls.Write p offset byte count) goes too alike =
      let f : Fill = record { inode = found t p; size = size; start = offset; byte = byte; count = count } in
      both_chosen v t came its answer other (count == 0) (Ends Fine) (fills_file v t f) goes too (λ none a b. both_end v t Fine answer other came its a b) (λ some a b. same_fill f a b)
  same_answer (calls.Truncate p to) goes too alike =
      let f : Fill = record { inode = found t p; size = size; start = to; byte = 0; count = 0 } in
      both_chosen v t came its answer other (nat_lt size to) (fills_file v t f) (Ends Fine) goes too (λ grows a b. same_fill f a b) (λ down a b. both_end v t Fine answer other came its a b)
  same_answer (calls.Read p offset count) goes too alike =
      both_chosen v t came its answer other (nat_lt offset (read_end size offset count)) (gathers v t (found t p) offset (read_end size offset count) (offset / 4096) []) (Ends (BytesRead [])) goes too
      (λ some a b. gather_same v t (found t p) offset (read_end size offset count) (block_count (read_end size offset count)) (offset / 4096) (omega arith) answer other [] came its a b alike)
      (λ none a b. both_end v t (BytesRead []) answer other came its a b)
  same_answer call goes too alike = both_end v t _ answer other came its goes too
