-- The file data of a call that fills blocks leaves them filled.
use Rattle.std.proofs.Common.{◌≡◌, ℕ, zero, suc, ◌+◌, ◌*◌, ◌<◌, ◌≤◌, inl, inr, Bool, true, false, nat_lt, if◌then◌else◌, replicate, List, [], ◌∷◌, length, arith, refl, sym, ap, subst, ◌∙◌}
use Rattle.std.proofs.lemmas.Bool.{cases_eq, cases_lt, ltb-true, ltb-false}
use Rattle.pf_base.specs.Asks.{Answers}
use Rattle.pf_base.specs.declared.asks.Ask.{Ask}
use Rattle.pf_base.specs.declared.asks.Reply.{Reply}
use Rattle.pf_base.specs.declared.asks.Reply.TheVariants.{Written, Bytes}
use Rattle.pf_volume.specs.Volumes.{Extent}
use Rattle.pf_tree_tables.specs.Tables.{Tables}
use Rattle.pf_file_calls.specs.Blocks.{bytes_of, reads_block, writes_block}
use Rattle.pf_file_calls.specs.Filling.{end_of_fill, filled_block, first_of_fill, is_new}
use Rattle.pf_file_calls.specs.Moving.{block_at, fills, fills_block, moves_on, stores}
use Rattle.pf_file_calls.specs.declared.answers.CallAnswer.{CallAnswer}
use Rattle.pf_file_calls.specs.declared.answers.CallAnswer.TheVariants.{Fine}
use Rattle.pf_file_calls.specs.declared.filling.Fill.{Fill}
use Rattle.pf_file_calls.specs.declared.moving.DataMoving.TheVariants.{Fetches, Stores}
use Rattle.pf_file_calls.specs.declared.moving.Moved.{Moved}
use Rattle.pf_file_calls.specs.declared.moving.Moved.TheVariants.{Asks, Ends}
use Rattle.pf_file_calls.proofs.FilledBlocks.{length_filled}
use Rattle.pf_law_plans.specs.Exchanges.{Exchange}
use Rattle.pf_law_contents.specs.Stored.{Stored, GoesSo, TellStored, TellsStored, block_bytes, stored_after, stored_by}
use Rattle.pf_law_contents.proofs.StoredBlocks.{other_block, written_block}

-- what is under a choice
pub chosen : {R : Type 0} → (v : Extent) (t : Tables) (came : List Exchange) (answer : CallAnswer) (b : Bool) (x y : Moved) → GoesSo v t (if b then x else y) came answer → (b ≡ true → GoesSo v t x came answer → R) → (b ≡ false → GoesSo v t y came answer → R) → R
chosen v t came answer true x y goes of_x of_y = of_x refl goes
chosen v t came answer false x y goes of_x of_y = of_y refl goes

pub is_written : (v : Extent) (block : ℕ) (bytes : List ℕ) (reply : Reply) → Answers (writes_block v block bytes) reply → reply ≡ Written
is_written v block bytes Written kind = refl
is_written v block bytes (Bytes sectors) kind = absurd kind

module _ (v : Extent) (t : Tables) (f : Fill) (some : 0 < v.sectors) (apart : (k other : ℕ) → k < end_of_fill f → other < end_of_fill f → first_of_fill f ≤ k → first_of_fill f ≤ other → block_at t f.inode k ≡ block_at t f.inode other → k ≡ other) where
  abbrev at : ℕ → ℕ
  at k = block_at t f.inode k

  -- what is filled: zeros where the block is new
  abbrev pub old_bytes : Stored → ℕ → List ℕ
  old_bytes s k = if is_new f k then replicate 4096 0 else block_bytes v s (block_at t f.inode k)

  abbrev IsWhole : Stored → Type 0
  IsWhole s = (block : ℕ) → length (block_bytes v s block) ≡ 4096

  -- the blocks from an index on are filled, and no others change
  pub record AreFilled (s after : Stored) (index : ℕ) : Type 0 where
    pub whole : (block : ℕ) → length (block_bytes v after block) ≡ 4096
    pub each : (k : ℕ) → index ≤ k → k < end_of_fill f → block_bytes v after (block_at t f.inode k) ≡ filled_block f k (old_bytes s k)
    pub others : (b : ℕ) → ((k : ℕ) → index ≤ k → k < end_of_fill f → b ≡ block_at t f.inode k → ⊥) → block_bytes v after b ≡ block_bytes v s b

  filled_length : (k : ℕ) (bytes : List ℕ) → length bytes ≡ 4096 → length (filled_block f k bytes) ≡ 4096
  filled_length k bytes size = length_filled f (4096 * k) bytes ∙ size

  -- one block is stored, and then those behind it
  joined : (s : Stored) (after : Stored) (index : ℕ) (bytes : List ℕ) → first_of_fill f ≤ index → index < end_of_fill f → length bytes ≡ 4096 → bytes ≡ old_bytes s index → IsWhole s
      → AreFilled (stored_by s (writes_block v (block_at t f.inode index) (filled_block f index bytes))) after (suc index) → AreFilled s after index
  joined s after index bytes low high size are whole rest = record { whole = rest.whole; each = each; others = others }
    where
      its_length : length (filled_block f index bytes) ≡ 4096
      its_length = filled_length index bytes size

      -- a block of another index is as it was
      stays : (k : ℕ) → index < k → k < end_of_fill f → block_bytes v (stored_by s (writes_block v (block_at t f.inode index) (filled_block f index bytes))) (block_at t f.inode k) ≡ block_bytes v s (block_at t f.inode k)
      stays k above below = other_block v some s (block_at t f.inode index) (filled_block f index bytes) its_length (block_at t f.inode k) (λ same. absurd (let one = apart k index below high (omega (arith, low, above)) low same in omega (arith, one, above)))

      each : (k : ℕ) → index ≤ k → k < end_of_fill f → block_bytes v after (block_at t f.inode k) ≡ filled_block f k (old_bytes s k)
      each k from below = elim (cases_lt index k) [
        | inl above ↦ rest.each k above below ∙ ap (λ (bs : List ℕ). filled_block f k (if is_new f k then replicate 4096 0 else bs)) (stays k above below)
        | inr not_above ↦
            let same : k ≡ index = omega (arith, from, not_above) in
            let mine : block_bytes v after (block_at t f.inode index) ≡ filled_block f index (old_bytes s index) =
            rest.others (block_at t f.inode index) (λ other from_next low_end one. absurd (let e = apart index other high low_end low (omega (arith, low, from_next)) one in omega (arith, e, from_next)))
            ∙ written_block v some s (block_at t f.inode index) (filled_block f index bytes) its_length ∙ ap (filled_block f index) are in
            subst (λ n. block_bytes v after (block_at t f.inode n) ≡ filled_block f n (old_bytes s n)) (sym same) mine
      ]

      others : (b : ℕ) → ((k : ℕ) → index ≤ k → k < end_of_fill f → b ≡ block_at t f.inode k → ⊥) → block_bytes v after b ≡ block_bytes v s b
      others b none =
          rest.others b (λ k from below is. none k (omega (arith, from)) below is)
          ∙ other_block v some s (block_at t f.inode index) (filled_block f index bytes) its_length b (λ is. none index (omega arith) high is)

  -- how the data go on from a block on
  abbrev GoesFrom : (index : ℕ) → Type 0
  GoesFrom index = (s : Stored) (came : List Exchange) (answer : CallAnswer) → IsWhole s → TellStored s came → GoesSo v t (fills v t f index) came answer → (answer ≡ Fine) × AreFilled s (stored_after s came) index

  -- a block is written, and the data go on behind it
  store_goes : (index : ℕ) → GoesFrom (suc index) → first_of_fill f ≤ index → index < end_of_fill f → (s : Stored) (bytes : List ℕ) (came : List Exchange) (answer : CallAnswer) → length bytes ≡ 4096 → bytes ≡ old_bytes s index → IsWhole s → TellStored s came
      → GoesSo v t (stores v (block_at t f.inode index) f index bytes) came answer → (answer ≡ Fine) × AreFilled s (stored_after s came) index
  store_goes index next low high s bytes [] answer size are whole tells goes = absurd goes
  store_goes index next low high s bytes (e ∷ came) answer size are whole tells goes =
      let written = is_written v (block_at t f.inode index) (filled_block f index bytes) e.1 goes.1 in
      let rest = subst (λ (r : Reply). GoesSo v t (moves_on v t (Stores f index) r) came answer) written goes.2 in
      let told = subst (λ (a : Ask). TellStored (stored_by s a) came) goes.0 tells.1 in
      let its_length = filled_length index bytes size in
      let now : Stored = stored_by s (writes_block v (block_at t f.inode index) (filled_block f index bytes)) in
      let whole_now = whole_after s (block_at t f.inode index) (filled_block f index bytes) its_length whole in
      let done = next (stored_by s (writes_block v (block_at t f.inode index) (filled_block f index bytes))) came answer whole_now told rest in (
        done.0,
        subst (λ (a : Ask). AreFilled s (stored_after (stored_by s a) came) index) (sym goes.0)
            (joined s (stored_after (stored_by s (writes_block v (block_at t f.inode index) (filled_block f index bytes))) came) index bytes low high size are whole done.1),
      )
    where
      whole_after : (s : Stored) (block : ℕ) (bytes : List ℕ) → length bytes ≡ 4096 → IsWhole s → IsWhole (stored_by s (writes_block v block bytes))
      whole_after s block bytes size whole b = elim (cases_eq b block) [
        | inl same ↦ ap (λ n. length (block_bytes v (stored_by s (writes_block v block bytes)) n)) same ∙ ap length (written_block v some s block bytes size) ∙ size
        | inr other ↦ ap length (other_block v some s block bytes size b other) ∙ whole b
      ]

  -- an old block is read before
  fetch_goes : (index : ℕ) → GoesFrom (suc index) → first_of_fill f ≤ index → index < end_of_fill f → is_new f index ≡ false → (s : Stored) (came : List Exchange) (answer : CallAnswer) → IsWhole s → TellStored s came
      → GoesSo v t (Asks (reads_block v (block_at t f.inode index)) (Fetches f index)) came answer → (answer ≡ Fine) × AreFilled s (stored_after s came) index
  fetch_goes index next low high old s [] answer whole tells goes = absurd goes
  fetch_goes index next low high old s (e ∷ came) answer whole tells goes =
      by e.1 goes.1 (subst (λ (a : Ask). TellsStored s a e.1) goes.0 tells.0) goes.2
    where
      by : (reply : Reply) → Answers (reads_block v (block_at t f.inode index)) reply → TellsStored s (reads_block v (block_at t f.inode index)) reply → GoesSo v t (moves_on v t (Fetches f index) reply) came answer → (answer ≡ Fine) × AreFilled s (stored_after (stored_by s e.0) came) index
      by Written kind is rest = absurd kind
      by (Bytes sectors) kind is rest =
          let bytes : bytes_of sectors ≡ block_bytes v s (block_at t f.inode index) = ap bytes_of is in
          let are : bytes_of sectors ≡ old_bytes s index = bytes ∙ sym (ap (λ (b : Bool). if b then replicate 4096 0 else block_bytes v s (block_at t f.inode index)) old) in
          let told = subst (λ (a : Ask). TellStored (stored_by s a) came) goes.0 tells.1 in
          let done = store_goes index next low high s (bytes_of sectors) came answer (ap length bytes ∙ whole (block_at t f.inode index)) are whole told rest in
          (done.0, subst (λ (a : Ask). AreFilled s (stored_after (stored_by s a) came) index) (sym goes.0) done.1)

  none_left : (index : ℕ) (s : Stored) (came : List Exchange) (answer : CallAnswer) → end_of_fill f ≤ index → IsWhole s → GoesSo v t (Ends Fine) came answer → (answer ≡ Fine) × AreFilled s (stored_after s came) index
  none_left index s [] answer past whole goes = (
    sym goes,
    record { whole = whole; each = λ k from below. absurd (omega (arith, past, from, below)); others = λ b none. refl },
  )
  none_left index s (e ∷ came) answer past whole goes = absurd goes

  fill_goes : (n index : ℕ) → end_of_fill f ≤ index + n → first_of_fill f ≤ index → GoesFrom index
  fill_goes zero index most low s came answer whole tells goes =
      chosen v t came answer (nat_lt index (end_of_fill f)) (fills_block v (block_at t f.inode index) f index) (Ends Fine) goes
      (λ below _. absurd (let lt = ltb-true index (end_of_fill f) below in omega (arith, lt, most)))
      (λ past rest. none_left index s came answer (ltb-false index (end_of_fill f) past) whole rest)
  fill_goes (suc n) index most low s came answer whole tells goes =
      chosen v t came answer (nat_lt index (end_of_fill f)) (fills_block v (block_at t f.inode index) f index) (Ends Fine) goes
      (λ below block.
      let high = ltb-true index (end_of_fill f) below in
      let next = fill_goes n (suc index) (omega (arith, most)) (omega (arith, low)) in
      chosen v t came answer (is_new f index) (stores v (block_at t f.inode index) f index (replicate 4096 0)) (Asks (reads_block v (block_at t f.inode index)) (Fetches f index)) block
      (λ new rest. store_goes index next low high s (replicate 4096 0) came answer refl (sym (ap (λ (b : Bool). if b then replicate 4096 0 else block_bytes v s (block_at t f.inode index)) new)) whole tells rest)
      (λ old rest. fetch_goes index next low high old s came answer whole tells rest))
      (λ past rest. none_left index s came answer (ltb-false index (end_of_fill f) past) whole rest)

  -- the whole of a fill
  pub file_filled : (s : Stored) (came : List Exchange) (answer : CallAnswer) → IsWhole s → TellStored s came → GoesSo v t (fills v t f (first_of_fill f)) came answer → (answer ≡ Fine) × AreFilled s (stored_after s came) (first_of_fill f)
  file_filled s came answer whole tells goes = fill_goes (end_of_fill f) (first_of_fill f) (omega arith) (omega arith) s came answer whole tells goes
