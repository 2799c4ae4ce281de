-- Planned calls go one by one in a run of their own, where each read of a block is answered what is stored.
use Rattle.std.proofs.Common.{◌≡◌, ℕ, zero, suc, ◌+◌, ◌*◌, ◌/◌, ◌%◌, ◌≤◌, ◌==◌, Bool, true, false, nat_lt, if◌then◌else◌, replicate, List, [], ◌∷◌, ◌++◌, length, map, Some, arith, refl, ap, subst, ◌∙◌}
use Rattle.std.specs.List.{cons_option}
use Rattle.std.proofs.lemmas.Bool.{ltb-true}
use Rattle.pf_base.specs.declared.asks.Reply.TheVariants.{Written, Bytes}
use Rattle.pf_base.specs.declared.calls.Call.TheVariants.{Mkdir, Create, Write, Read, Truncate, Rename, Unlink, Rmdir, Stat, List as Lists}
use Rattle.pf_entry.specs.Ops.{Sector}
use Rattle.pf_volume.specs.Volumes.{Extent}
use Rattle.pf_tree_tables.specs.Tables.{Tables, applied, new_tables}
use Rattle.pf_tree.specs.Plans.{found}
use Rattle.pf_tree.specs.Trees.{Data, block_count}
use Rattle.pf_tree.specs.Calls.{FileCall}
use Rattle.pf_file_calls.specs.Blocks.{bytes_of, reads_block, sectors_of, writes_block}
use Rattle.pf_file_calls.specs.Calls.{size_in}
use Rattle.pf_file_calls.specs.Filling.{end_of_fill, filled_block, first_of_fill, is_new, read_end, bytes_wanted}
use Rattle.pf_file_calls.specs.Moving.{block_at, fills, fills_block, fills_file, gathers, data_moves, stores}
use Rattle.pf_file_calls.specs.declared.answers.CallAnswer.{CallAnswer}
use Rattle.pf_file_calls.specs.declared.answers.CallAnswer.TheVariants.{Fine, Bytes as BytesRead}
use Rattle.pf_file_calls.specs.declared.calls.Pending.{Pending}
use Rattle.pf_file_calls.specs.declared.filling.Fill.{Fill}
use Rattle.pf_file_calls.specs.declared.moving.DataMoving.TheVariants.{Fetches, Gathers}
use Rattle.pf_file_calls.specs.declared.moving.Moved.{Moved}
use Rattle.pf_file_calls.specs.declared.moving.Moved.TheVariants.{Asks, Ends}
use Rattle.pf_law_plans.specs.Exchanges.{Exchange}
use Rattle.pf_law_contents.specs.Going.{CallAsks, IsLookedUp, IsDone, AreCalls, GoOneByOne, Went, all_zeros, call_done, done_of, exchanges_of}
use Rattle.pf_law_contents.specs.Planned.{IsPlannedSo, Stays, Changes, PlannedCall, ArePlannedInTurn, AreAllCalls, IsVirtualRun, call_that_went}
use Rattle.pf_law_contents.specs.Stored.{GoesSo, Stored, TellStored, stored_after, stored_by}
use Rattle.pf_law_contents.proofs.SerialCalls.{all_well, begins_well, step_is}

-- pieces of eight sectors are stored
abbrev AreEight : Stored → Type 0
AreEight s = (chunk first : ℕ) → length (s chunk first) ≡ 8

eight_chosen : (b : Bool) (xs ys : List Sector) → length xs ≡ 8 → length ys ≡ 8 → length (if b then xs else ys) ≡ 8
eight_chosen true xs ys of_xs of_ys = of_xs
eight_chosen false xs ys of_xs of_ys = of_ys

eight_cut : (bytes : List ℕ) → length (sectors_of 8 bytes) ≡ 8
unfolding sectors_of
eight_cut bytes = refl

eight_written : (v : Extent) (s : Stored) (block : ℕ) (bytes : List ℕ) → AreEight s → AreEight (stored_by s (writes_block v block bytes))
eight_written v s block bytes eight chunk first = eight_chosen _ (sectors_of 8 bytes) (s chunk first) (eight_cut bytes) (eight chunk first)

-- the file data of a call go to an end from a step on, told what is stored
record Ended (v : Extent) (t : Tables) (s : Stored) (moved : Moved) : Type 0 where
  came : List Exchange
  answer : CallAnswer
  goes : GoesSo v t moved came answer
  tells : TellStored s came
  eight : AreEight (stored_after s came)

either_ends : (v : Extent) (t : Tables) (s : Stored) (b : Bool) (x y : Moved) → (b ≡ true → Ended v t s x) → (b ≡ false → Ended v t s y) → Ended v t s (if b then x else y)
either_ends v t s true x y of_x of_y = of_x refl
either_ends v t s false x y of_x of_y = of_y refl

at_once : (v : Extent) (t : Tables) (s : Stored) (answer : CallAnswer) → AreEight s → Ended v t s (Ends answer)
at_once v t s answer eight = record { came = []; answer = answer; goes = refl; tells = tt; eight = eight }

module _ (v : Extent) (t : Tables) (f : Fill) where
  abbrev EndsFrom : ℕ → Type 0
  EndsFrom index = (s : Stored) → AreEight s → Ended v t s (fills v t f index)

  store_ends : (index : ℕ) → EndsFrom (suc index) → (s : Stored) (bytes : List ℕ) → AreEight s → Ended v t s (stores v (block_at t f.inode index) f index bytes)
  store_ends index next s bytes eight =
      let rest = next (stored_by s (writes_block v (block_at t f.inode index) (filled_block f index bytes))) (eight_written v s (block_at t f.inode index) (filled_block f index bytes) eight) in
      record {
        came = (writes_block v (block_at t f.inode index) (filled_block f index bytes), Written) ∷ rest.came;
        answer = rest.answer;
        goes = (refl, tt, rest.goes);
        tells = (tt, rest.tells);
        eight = rest.eight;
      }

  fetch_ends : (index : ℕ) → EndsFrom (suc index) → (s : Stored) → AreEight s → Ended v t s (Asks (reads_block v (block_at t f.inode index)) (Fetches f index))
  fetch_ends index next s eight =
      let rest = store_ends index next s (bytes_of (s (8 * block_at t f.inode index / v.sectors) (8 * block_at t f.inode index % v.sectors))) eight in
      record {
        came = (reads_block v (block_at t f.inode index), Bytes (s (8 * block_at t f.inode index / v.sectors) (8 * block_at t f.inode index % v.sectors))) ∷ rest.came;
        answer = rest.answer;
        goes = (refl, eight _ _, rest.goes);
        tells = (refl, rest.tells);
        eight = rest.eight;
      }

  fill_ends : (n index : ℕ) → end_of_fill f ≤ index + n → EndsFrom index
  fill_ends zero index most s eight =
      either_ends v t s (nat_lt index (end_of_fill f)) _ (Ends Fine) (λ below. absurd (let lt = ltb-true index (end_of_fill f) below in omega (arith, lt, most))) (λ past. at_once v t s Fine eight)
  fill_ends (suc n) index most s eight =
      let next = fill_ends n (suc index) (omega (arith, most)) in
      either_ends v t s (nat_lt index (end_of_fill f)) (fills_block v (block_at t f.inode index) f index) (Ends Fine)
      (λ below. either_ends v t s (is_new f index) (stores v (block_at t f.inode index) f index (replicate 4096 0)) (Asks (reads_block v (block_at t f.inode index)) (Fetches f index))
      (λ new. store_ends index next s (replicate 4096 0) eight) (λ old. fetch_ends index next s eight))
      (λ past. at_once v t s Fine eight)

  file_ends : EndsFrom (first_of_fill f)
  file_ends s eight = fill_ends (end_of_fill f) (first_of_fill f) (omega arith) s eight

module _ (v : Extent) (t : Tables) (inode offset to : ℕ) where
  read_ends : (n index : ℕ) → block_count to ≤ index + n → (bytes : List ℕ) (s : Stored) → AreEight s → Ended v t s (gathers v t inode offset to index bytes)
  read_ends zero index most bytes s eight =
      either_ends v t s (nat_lt index (block_count to)) _ (Ends (BytesRead (bytes_wanted offset to bytes)))
      (λ below. absurd (let lt = ltb-true index (block_count to) below in omega (arith, lt, most))) (λ past. at_once v t s (BytesRead (bytes_wanted offset to bytes)) eight)
  read_ends (suc n) index most bytes s eight =
      either_ends v t s (nat_lt index (block_count to)) (Asks (reads_block v (block_at t inode index)) (Gathers inode offset to index bytes)) (Ends (BytesRead (bytes_wanted offset to bytes)))
      (λ below. asks (s (8 * block_at t inode index / v.sectors) (8 * block_at t inode index % v.sectors)) refl (read_ends n (suc index) (omega (arith, most)) (bytes ++ bytes_of (s (8 * block_at t inode index / v.sectors) (8 * block_at t inode index % v.sectors))) s eight))
      (λ past. at_once v t s (BytesRead (bytes_wanted offset to bytes)) eight)
    where
      asks : (sectors : List Sector) → sectors ≡ s (8 * block_at t inode index / v.sectors) (8 * block_at t inode index % v.sectors) → Ended v t s (gathers v t inode offset to (suc index) (bytes ++ bytes_of sectors)) → Ended v t s (Asks (reads_block v (block_at t inode index)) (Gathers inode offset to index bytes))
      asks sectors are rest = record {
        came = (reads_block v (block_at t inode index), Bytes sectors) ∷ rest.came;
        answer = rest.answer;
        goes = (refl, ap length are ∙ eight _ _, rest.goes);
        tells = (are, rest.tells);
        eight = rest.eight;
      }

-- a call's file data
call_ends : (v : Extent) (t : Tables) (size : ℕ) (call : FileCall) (s : Stored) → AreEight s → Ended v t s (data_moves v t size call)
call_ends v t size (Write p offset byte count) s eight =
    let f : Fill = record { inode = found t p; size = size; start = offset; byte = byte; count = count } in
    either_ends v t s (count == 0) (Ends Fine) (fills_file v t f) (λ none. at_once v t s Fine eight) (λ some. file_ends v t f s eight)
call_ends v t size (Truncate p to) s eight =
    let f : Fill = record { inode = found t p; size = size; start = to; byte = 0; count = 0 } in
    either_ends v t s (nat_lt size to) (fills_file v t f) (Ends Fine) (λ grows. file_ends v t f s eight) (λ down. at_once v t s Fine eight)
call_ends v t size (Read p offset count) s eight =
    either_ends v t s (nat_lt offset (read_end size offset count)) (gathers v t (found t p) offset (read_end size offset count) (offset / 4096) []) (Ends (BytesRead []))
    (λ some. read_ends v t (found t p) offset (read_end size offset count) (block_count (read_end size offset count)) (offset / 4096) (omega arith) [] s eight) (λ none. at_once v t s (BytesRead []) eight)
call_ends v t size (Stat p) s eight = at_once v t s _ eight
call_ends v t size (Lists p) s eight = at_once v t s _ eight
call_ends v t size (Mkdir p) s eight = at_once v t s Fine eight
call_ends v t size (Create p) s eight = at_once v t s Fine eight
call_ends v t size (Rename from to) s eight = at_once v t s Fine eight
call_ends v t size (Unlink p) s eight = at_once v t s Fine eight
call_ends v t size (Rmdir p) s eight = at_once v t s Fine eight

told_on : (xs ys : List Exchange) (s : Stored) → TellStored s xs → TellStored (stored_after s xs) ys → TellStored s (xs ++ ys)
told_on [] ys s first rest = rest
told_on (e ∷ xs) ys s first rest = (first.0, told_on xs ys (stored_by s e.0) first.1 rest)

module _ (v : Extent) (d : Data) where
  -- one call, as it is planned
  record CallEnded (m : ℕ) (p : Pending) (t next : Tables) (s : Stored) : Type 0 where
    came : List Exchange
    answer : CallAnswer
    asks : CallAsks v d m p t next came answer
    well : call_done p.call answer ≡ Some p.call
    tells : TellStored s came
    eight : AreEight (stored_after s came)

  planned_ends : (m : ℕ) (p : Pending) (t next : Tables) (s : Stored) → AreEight s → IsPlannedSo v d m p t next → CallEnded m p t next s
  planned_ends m p t _ s eight (Stays step plan) =
      let ended = call_ends v t (size_in t p.call) p.call s eight in
      let goes : GoesSo v t step ended.came ended.answer = subst (λ (x : Moved). GoesSo v t x ended.came ended.answer) (step_is m v d t p step plan) ended.goes in
      record {
        came = ended.came;
        answer = ended.answer;
        asks = IsLookedUp step ended.came ended.answer plan goes;
        well = all_well v t p.call (data_moves v t (size_in t p.call) p.call) ended.came ended.answer (begins_well v t (size_in t p.call) p.call p.call) ended.goes;
        tells = ended.tells;
        eight = ended.eight;
      }
  planned_ends m p t _ s eight (Changes txn plan) =
      let ended = call_ends v (applied t txn.changes) (size_in t p.call) p.call s eight in
      record {
        came = ended.came;
        answer = ended.answer;
        asks = IsDone txn ended.came ended.answer plan ended.goes;
        well = all_well v (applied t txn.changes) p.call (data_moves v (applied t txn.changes) (size_in t p.call) p.call) ended.came ended.answer (begins_well v (applied t txn.changes) (size_in t p.call) p.call p.call) ended.goes;
        tells = ended.tells;
        eight = ended.eight;
      }

  -- the calls from some tables on
  record RunEnds (calls : List PlannedCall) (t after : Tables) (s : Stored) : Type 0 where
    wents : List Went
    goes : GoOneByOne v d t wents after
    are_calls : AreCalls wents
    same : map call_that_went wents ≡ calls
    done : done_of wents ≡ map (λ (c : PlannedCall). c.call.call) calls
    tells : TellStored s (exchanges_of wents)

  run_ends : (calls : List PlannedCall) (t after : Tables) (s : Stored) → AreEight s → AreAllCalls calls → ArePlannedInTurn v d t calls after → RunEnds calls t after s
  run_ends [] t after s eight are turns = record { wents = []; goes = turns; are_calls = tt; same = refl; done = refl; tells = tt }
  run_ends (c ∷ calls) t after s eight are turns =
      let first = planned_ends c.mount c.call t turns.0 s eight turns.1 in
      let rest = run_ends calls turns.0 after (stored_after s first.came) first.eight are.1 turns.2 in
      record {
        wents = record { mount = c.mount; call = c.call; came = first.came; answer = first.answer } ∷ rest.wents;
        goes = (turns.0, first.asks, rest.goes);
        are_calls = (are.0, rest.are_calls);
        same = ap (λ (cs : List PlannedCall). c ∷ cs) rest.same;
        done = ap (λ o. cons_option o (done_of rest.wents)) first.well ∙ ap (λ cs. c.call.call ∷ cs) rest.done;
        tells = told_on first.came (exchanges_of rest.wents) s first.tells rest.tells;
      }

  pub planned_run : (calls : List PlannedCall) (t : Tables) → AreAllCalls calls → ArePlannedInTurn v d (new_tables d.blocks) calls t → IsVirtualRun v d calls t
  planned_run calls t are turns =
      let run = run_ends calls (new_tables d.blocks) t all_zeros (λ chunk first. refl) are turns in
      record { wents = run.wents; goes = run.goes; are_calls = run.are_calls; same = run.same; done = run.done; tells = run.tells }
