-- The file data of a read gather the bytes of its blocks.
use Rattle.std.proofs.Common.{◌≡◌, ℕ, zero, suc, ◌+◌, ◌-◌, ◌*◌, ◌/◌, ◌%◌, ◌<◌, ◌≤◌, inl, inr, nat_lt, List, [], ◌∷◌, ◌++◌, length, map, drop, get_or, arith, refl, sym, ap, subst, ◌∙◌}
use Rattle.std.specs.List.{range_with_len}
use Rattle.std.proofs.lemmas.Bool.{cases_lt, ltb-true, ltb-false}
use Rattle.std.proofs.lemmas.List.{ext_get_or, get_or-append_right, get_or-drop, get_or-take, get_or_append_left, length-append, length-drop, length-take-le}
use Rattle.std.proofs.lemmas.List.FromFn.{get_or-map-range_with_len, length-map-range_with_len}
use Rattle.pf_base.specs.Asks.{Answers}
use Rattle.pf_base.specs.declared.asks.Ask.{Ask}
use Rattle.pf_base.specs.declared.asks.Reply.{Reply}
use Rattle.pf_base.specs.declared.asks.Reply.TheVariants.{Written, Bytes}
use Rattle.pf_volume.specs.Volumes.{Extent}
use Rattle.pf_tree_tables.specs.Tables.{Tables}
use Rattle.pf_tree.specs.Trees.{block_count}
use Rattle.pf_file_calls.specs.Blocks.{bytes_of, reads_block}
use Rattle.pf_file_calls.specs.Filling.{bytes_wanted}
use Rattle.pf_file_calls.specs.Moving.{block_at, gathers, moves_on}
use Rattle.pf_file_calls.specs.declared.answers.CallAnswer.{CallAnswer}
use Rattle.pf_file_calls.specs.declared.answers.CallAnswer.TheVariants.{Bytes as BytesRead}
use Rattle.pf_file_calls.specs.declared.moving.DataMoving.TheVariants.{Gathers}
use Rattle.pf_file_calls.specs.declared.moving.Moved.TheVariants.{Asks, Ends}
use Rattle.pf_law_plans.specs.Exchanges.{Exchange}
use Rattle.pf_law_contents.specs.Stored.{Stored, GoesSo, TellStored, TellsStored, block_bytes, stored_after, stored_by}
use Rattle.pf_law_contents.proofs.FilledBlocks.{chosen}

module _ (v : Extent) (t : Tables) (inode offset to : ℕ) (some : offset < to) (c : ℕ → ℕ) where
  -- the bytes of the file, as far as it goes, are stored in these blocks
  abbrev pub IsStored : Stored → Type 0
  IsStored s = (place : ℕ) → place < to → get_or (block_bytes v s (block_at t inode (place / 4096))) (place % 4096) 0 ≡ c place

  abbrev pub IsWhole : Stored → Type 0
  IsWhole s = (block : ℕ) → length (block_bytes v s block) ≡ 4096

  -- these bytes came so far
  record HaveCome (index : ℕ) (bytes : List ℕ) : Type 0 where
    from : offset / 4096 ≤ index
    size : length bytes ≡ 4096 * (index - offset / 4096)
    are : (j : ℕ) → j < length bytes → 4096 * (offset / 4096) + j < to → get_or bytes j 0 ≡ c (4096 * (offset / 4096) + j)

  -- a block more
  one_more : (s : Stored) (index : ℕ) (bytes : List ℕ) → IsWhole s → IsStored s → HaveCome index bytes → HaveCome (suc index) (bytes ++ block_bytes v s (block_at t inode index))
  one_more s index bytes whole stored have =
      let block = block_bytes v s (block_at t inode index) in
      let longer = length-append bytes (block_bytes v s (block_at t inode index)) in
      let size = have.size in
      let from = have.from in
      let its = whole (block_at t inode index) in
      record {
        from = omega (arith, from);
        size = omega (arith, longer, size, its, from);
        are = λ j below inside. elim (cases_lt j (length bytes)) [
          | inl old ↦ get_or_append_left bytes (block_bytes v s (block_at t inode index)) 0 j old ∙ have.are j old inside
          | inr new ↦
              let place = 4096 * (offset / 4096) + j in
              let div : (4096 * (offset / 4096) + j) / 4096 ≡ index = omega (arith, new, below, longer, size, its, from) in
              let rest : (4096 * (offset / 4096) + j) % 4096 ≡ j - length bytes = omega (arith, new, below, longer, size, its, from) in
              get_or-append_right bytes (block_bytes v s (block_at t inode index)) (length bytes) j 0 refl new
              ∙ ap (λ n. get_or (block_bytes v s (block_at t inode index)) n 0) (sym rest)
              ∙ ap (λ n. get_or (block_bytes v s (block_at t inode n)) ((4096 * (offset / 4096) + j) % 4096) 0) (sym div)
              ∙ stored (4096 * (offset / 4096) + j) inside
        ];
      }

  -- at the end what is wanted is there
  at_end : (index : ℕ) (bytes : List ℕ) → block_count to ≤ index → HaveCome index bytes → bytes_wanted offset to bytes ≡ map c (range_with_len offset (to - offset))
  at_end index bytes past have =
      let size = have.size in
      let from = have.from in
      let dropped = length-drop (offset % 4096) bytes in
      let within : to - offset ≤ length (drop (offset % 4096) bytes) = omega (arith, dropped, size, from, past, some) in
      let taken = length-take-le (to - offset) (drop (offset % 4096) bytes) within in
      let mapped = length-map-range_with_len c offset (to - offset) in
      ext_get_or 0 (bytes_wanted offset to bytes) (map c (range_with_len offset (to - offset))) (taken ∙ sym mapped)
      (λ i low.
      let below : i < to - offset = omega (arith, low, taken) in
      let place : 4096 * (offset / 4096) + (offset % 4096 + i) ≡ offset + i = omega arith in
      get_or-take (to - offset) (drop (offset % 4096) bytes) i 0 below
      ∙ get_or-drop (offset % 4096) bytes i 0
      ∙ have.are (offset % 4096 + i) (omega (arith, within, dropped, below)) (omega (arith, below))
      ∙ ap c place
      ∙ sym (get_or-map-range_with_len c offset (to - offset) i (offset + i) 0 below refl))

  abbrev GoesFrom : (index : ℕ) → Type 0
  GoesFrom index = (bytes : List ℕ) (s : Stored) (came : List Exchange) (answer : CallAnswer) → IsWhole s → IsStored s → HaveCome index bytes → TellStored s came
      → GoesSo v t (gathers v t inode offset to index bytes) came answer → (answer ≡ BytesRead (map c (range_with_len offset (to - offset)))) × (stored_after s came ≡ s)

  ends : (index : ℕ) (bytes : List ℕ) (s : Stored) (came : List Exchange) (answer : CallAnswer) → block_count to ≤ index → HaveCome index bytes → GoesSo v t (Ends (BytesRead (bytes_wanted offset to bytes))) came answer → (answer ≡ BytesRead (map c (range_with_len offset (to - offset)))) × (stored_after s came ≡ s)
  ends index bytes s [] answer past have goes = (sym goes ∙ ap BytesRead (at_end index bytes past have), refl)
  ends index bytes s (e ∷ came) answer past have goes = absurd goes

  goes_on : (index : ℕ) → GoesFrom (suc index) → (bytes : List ℕ) (s : Stored) (came : List Exchange) (answer : CallAnswer) → IsWhole s → IsStored s → HaveCome index bytes → TellStored s came
      → GoesSo v t (Asks (reads_block v (block_at t inode index)) (Gathers inode offset to index bytes)) came answer → (answer ≡ BytesRead (map c (range_with_len offset (to - offset)))) × (stored_after s came ≡ s)
  goes_on index next bytes s [] answer whole stored have tells goes = absurd goes
  goes_on index next bytes s (e ∷ came) answer whole stored have tells goes =
      by e.1 goes.1 (subst (λ (a : Ask). TellsStored s a e.1) goes.0 tells.0) goes.2
    where
      by : (reply : Reply) → Answers (reads_block v (block_at t inode index)) reply → TellsStored s (reads_block v (block_at t inode index)) reply → GoesSo v t (moves_on v t (Gathers inode offset to index bytes) reply) came answer → (answer ≡ BytesRead (map c (range_with_len offset (to - offset)))) × (stored_after (stored_by s e.0) came ≡ s)
      by Written kind is more = absurd kind
      by (Bytes sectors) kind is more =
          let told = subst (λ (a : Ask). TellStored (stored_by s a) came) goes.0 tells.1 in
          let done = next (bytes ++ bytes_of sectors) s came answer whole stored
          (subst (λ (its : List ℕ). HaveCome (suc index) (bytes ++ its)) (sym (ap bytes_of is)) (one_more s index bytes whole stored have)) told more in
          (done.0, subst (λ (a : Ask). stored_after (stored_by s a) came ≡ s) (sym goes.0) done.1)

  gather_goes : (n index : ℕ) → block_count to ≤ index + n → GoesFrom index
  gather_goes zero index most bytes s came answer whole stored have tells goes =
      chosen v t came answer (nat_lt index (block_count to)) (Asks (reads_block v (block_at t inode index)) (Gathers inode offset to index bytes)) (Ends (BytesRead (bytes_wanted offset to bytes))) goes
      (λ below rest. absurd (let lt = ltb-true index (block_count to) below in omega (arith, lt, most)))
      (λ past rest. ends index bytes s came answer (ltb-false index (block_count to) past) have rest)
  gather_goes (suc n) index most bytes s came answer whole stored have tells goes =
      chosen v t came answer (nat_lt index (block_count to)) (Asks (reads_block v (block_at t inode index)) (Gathers inode offset to index bytes)) (Ends (BytesRead (bytes_wanted offset to bytes))) goes
      (λ below rest. goes_on index (gather_goes n (suc index) (omega (arith, most))) bytes s came answer whole stored have tells rest)
      (λ past rest. ends index bytes s came answer (ltb-false index (block_count to) past) have rest)

  pub file_read : (s : Stored) (came : List Exchange) (answer : CallAnswer) → IsWhole s → IsStored s → TellStored s came → GoesSo v t (gathers v t inode offset to (offset / 4096) []) came answer → (answer ≡ BytesRead (map c (range_with_len offset (to - offset)))) × (stored_after s came ≡ s)
  file_read s came answer whole stored tells goes =
      gather_goes (block_count to) (offset / 4096) (omega arith) [] s came answer whole stored
      (record { from = omega arith; size = omega arith; are = λ j below inside. absurd (omega (arith, below)) }) tells goes
