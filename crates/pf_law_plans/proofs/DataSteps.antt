-- Steps of a call's file data, and what they answer at their end: from the tables, or the bytes of the blocks that came last.
use Rattle.std.proofs.Common.{◌≡◌, ℕ, zero, suc, ◌+◌, ◌-◌, ◌/◌, ◌%◌, ◌<◌, ◌≤◌, Bool, true, false, ◌==◌, nat_lt, if◌then◌else◌, replicate, List, [], ◌∷◌, ◌++◌, take, drop, length, Option, Some, None, arith, refl, sym, ap, subst, ◌∙◌, append-nil, length-append}
use Rattle.std.specs.List.{flat_map}
use Rattle.std.proofs.lemmas.Bool.{ltb-true, ltb-false}
use Rattle.std.proofs.lemmas.List.{append_assoc}
use Rattle.std.proofs.lemmas.List.Concat.{flat_map-append}
use Rattle.pf_base.specs.declared.asks.Ask.{Ask}
use Rattle.pf_base.specs.declared.asks.Reply.{Reply}
use Rattle.pf_base.specs.declared.asks.Reply.TheVariants.{Written, Bytes}
use Rattle.pf_base.specs.declared.calls.Call.TheVariants.{Mkdir, Create, Write, Read, Truncate, Rename, Unlink, Rmdir, Stat, List as Lists}
use Rattle.pf_entry.specs.Ops.{Sector}
use Rattle.pf_volume.specs.Volumes.{Extent}
use Rattle.pf_tree_tables.specs.declared.changes.Change.{Change}
use Rattle.pf_tree_tables.specs.Names.{Path}
use Rattle.pf_tree_tables.specs.Tables.{Tables}
use Rattle.pf_tree.specs.Calls.{FileCall}
use Rattle.pf_tree.specs.Plans.{changes, found, node_at, tables_sight}
use Rattle.pf_tree.specs.Trees.{Data, block_count, refusal}
use Rattle.pf_file_calls.specs.Blocks.{bytes_of, reads_block}
use Rattle.pf_file_calls.specs.Calls.{planned, planned_by, planned_with, size_in}
use Rattle.pf_file_calls.specs.Filling.{end_of_fill, first_of_fill, is_new, read_end, bytes_wanted}
use Rattle.pf_file_calls.specs.Moving.{block_at, fills, fills_block, gathers, data_moves, moves_on, names_of, stat_of, stores}
use Rattle.pf_file_calls.specs.declared.answers.CallAnswer.{CallAnswer}
use Rattle.pf_file_calls.specs.declared.answers.CallAnswer.TheVariants.{Fine, Bytes as BytesRead, Names}
use Rattle.pf_file_calls.specs.declared.calls.Pending.{Pending}
use Rattle.pf_file_calls.specs.declared.calls.Planned.TheVariants.{Goes}
use Rattle.pf_file_calls.specs.declared.filling.Fill.{Fill}
use Rattle.pf_file_calls.specs.declared.moving.DataMoving.{DataMoving}
use Rattle.pf_file_calls.specs.declared.moving.DataMoving.TheVariants.{Fetches, Stores, Gathers}
use Rattle.pf_file_calls.specs.declared.moving.Moved.{Moved}
use Rattle.pf_file_calls.specs.declared.moving.Moved.TheVariants.{Asks as AsksFor, Ends}
use Rattle.pf_law_plans.specs.Exchanges.{AreBytesOf, Exchange, reads_of}

-- Answers, on tables

-- a call that is not refused is answered so, of a file of this size
abbrev pub AnswersOn : Extent → Tables → (size : ℕ) → (came : List Exchange) → FileCall → CallAnswer → Type 0
AnswersOn v tables size came (Stat p) answer = answer ≡ stat_of (node_at tables p)
AnswersOn v tables size came (Lists p) answer = answer ≡ Names (names_of tables p)
AnswersOn v tables size came (Read p offset count) answer = (bytes : List ℕ) × (answer ≡ BytesRead bytes) × AreBytesOf v tables came (found tables p) offset (read_end size offset count) bytes
AnswersOn v tables size came call answer = answer ≡ Fine

-- so far these blocks came, and more are wanted
pub record HasGathered (v : Extent) (tables : Tables) (came : List Exchange) (inode offset to its_inode its_offset its_to index : ℕ) (bytes : List ℕ) : Type 0 where
  pub same_inode : its_inode ≡ inode
  pub same_offset : its_offset ≡ offset
  pub same_to : its_to ≡ to
  pub some : nat_lt offset to ≡ true
  pub blocks : List (List Sector)
  pub earlier : List Exchange
  pub last : came ≡ earlier ++ reads_of v tables inode (offset / 4096) blocks
  pub index_is : index ≡ offset / 4096 + length blocks
  pub more : index < block_count to
  pub are : bytes ≡ flat_map bytes_of blocks

abbrev pub IsGathering : Extent → Tables → (came : List Exchange) → (inode offset to : ℕ) → DataMoving → Type 0
IsGathering v tables came inode offset to (Gathers its_inode its_offset its_to index bytes) = HasGathered v tables came inode offset to its_inode its_offset its_to index bytes
IsGathering v tables came inode offset to moving = ⊥

abbrev pub IsFilling : DataMoving → Type 0
IsFilling (Gathers inode offset to index bytes) = ⊥
IsFilling moving = Unit {0}

-- what the call's ask is for
abbrev pub FitsMoving : Extent → Tables → (size : ℕ) → (came : List Exchange) → FileCall → DataMoving → Type 0
FitsMoving v tables size came (Read p offset count) moving = IsGathering v tables came (found tables p) offset (read_end size offset count) moving
FitsMoving v tables size came (Write p offset byte count) moving = IsFilling moving
FitsMoving v tables size came (Truncate p to) moving = IsFilling moving
FitsMoving v tables size came call moving = ⊥

-- the next block is read
abbrev pub AsksFitly : Extent → Tables → DataMoving → Ask → Type 0
AsksFitly v tables (Gathers inode offset to index bytes) ask = ask ≡ reads_block v (block_at tables inode index)
AsksFitly v tables moving ask = Unit {0}

abbrev pub FitsMoved : Extent → Tables → (size : ℕ) → (came : List Exchange) → FileCall → Moved → Type 0
FitsMoved v tables size came call (AsksFor ask moving) = FitsMoving v tables size came call moving × AsksFitly v tables moving ask
FitsMoved v tables size came call (Ends answer) = AnswersOn v tables size came call answer

-- a block more
reads_one_more : (v : Extent) (tables : Tables) (inode index : ℕ) (blocks : List (List Sector)) (block : List Sector)
    → reads_of v tables inode index (blocks ++ block ∷ []) ≡ reads_of v tables inode index blocks ++ (reads_block v (block_at tables inode (index + length blocks)), Bytes block) ∷ []
reads_one_more v tables inode index [] block = ap (λ i. (reads_block v (block_at tables inode i), Bytes block) ∷ []) (omega arith)
reads_one_more v tables inode index (first ∷ blocks) block =
    ap (λ more. (reads_block v (block_at tables inode index), Bytes first) ∷ more) (reads_one_more v tables inode (suc index) blocks block)
    ∙ ap (λ i. (reads_block v (block_at tables inode index), Bytes first) ∷ (reads_of v tables inode (suc index) blocks ++ (reads_block v (block_at tables inode i), Bytes block) ∷ [])) (omega arith)

-- Steps of file data

fits_if : (v : Extent) (tables : Tables) (size : ℕ) (came : List Exchange) (call : FileCall) (b : Bool) (x y : Moved) → (b ≡ true → FitsMoved v tables size came call x) → (b ≡ false → FitsMoved v tables size came call y)
    → FitsMoved v tables size came call (if b then x else y)
fits_if v tables size came call true x y of_x of_y = of_x refl
fits_if v tables size came call false x y of_x of_y = of_y refl

-- of calls that fill
abbrev Fills : FileCall → Type 0
Fills (Write p offset byte count) = Unit {0}
Fills (Truncate p size) = Unit {0}
Fills call = ⊥

abbrev no_bytes : List ℕ
no_bytes = []

none_dropped : (k : ℕ) → drop k no_bytes ≡ no_bytes
none_dropped zero = refl
none_dropped (suc k) = refl

none_taken : (k : ℕ) → take k no_bytes ≡ no_bytes
none_taken zero = refl
none_taken (suc k) = refl

none_wanted : (offset to : ℕ) → no_bytes ≡ bytes_wanted offset to no_bytes
none_wanted offset to = sym (ap (take (to - offset)) (none_dropped (offset % 4096)) ∙ none_taken (to - offset))

module _ (v : Extent) (tables : Tables) (size : ℕ) (came : List Exchange) where
  filling : (call : FileCall) (f : Fill) (index : ℕ) → Fills call → FitsMoving v tables size came call (Stores f index) × FitsMoving v tables size came call (Fetches f index)
  filling (Write p offset byte count) f index is = (tt, tt)
  filling (Truncate p to) f index is = (tt, tt)
  filling (Mkdir p) f index is = absurd is
  filling (Create p) f index is = absurd is
  filling (Read p offset count) f index is = absurd is
  filling (Rename from to) f index is = absurd is
  filling (Unlink p) f index is = absurd is
  filling (Rmdir p) f index is = absurd is
  filling (Stat p) f index is = absurd is
  filling (Lists p) f index is = absurd is

  filled_fine : (call : FileCall) → Fills call → AnswersOn v tables size came call Fine
  filled_fine (Write p offset byte count) is = refl
  filled_fine (Truncate p to) is = refl
  filled_fine (Mkdir p) is = absurd is
  filled_fine (Create p) is = absurd is
  filled_fine (Read p offset count) is = absurd is
  filled_fine (Rename from to) is = absurd is
  filled_fine (Unlink p) is = absurd is
  filled_fine (Rmdir p) is = absurd is
  filled_fine (Stat p) is = absurd is
  filled_fine (Lists p) is = absurd is

  fills_fit : (call : FileCall) (f : Fill) (index : ℕ) → Fills call → FitsMoved v tables size came call (fills v tables f index)
  fills_fit call f index is =
      let block = block_at tables f.inode index in
      fits_if v tables size came call (nat_lt index (end_of_fill f)) (fills_block v block f index) (Ends Fine)
      (λ _. fits_if v tables size came call (is_new f index) (stores v block f index (replicate 4096 0)) _ (λ _. ((filling call f index is).0, tt)) (λ _. ((filling call f index is).1, tt)))
      (λ _. filled_fine call is)

  -- a read goes on behind these blocks
  module _ (p : Path) (offset count : ℕ) (some : nat_lt offset (read_end size offset count) ≡ true) (earlier : List Exchange) (blocks : List (List Sector)) where
    abbrev read_to : ℕ
    read_to = read_end size offset count

    abbrev read_inode : ℕ
    read_inode = found tables p

    gathers_fit : came ≡ earlier ++ reads_of v tables read_inode (offset / 4096) blocks → length blocks ≤ block_count read_to - offset / 4096 → (index : ℕ) → index ≡ offset / 4096 + length blocks
        → (bytes : List ℕ) → bytes ≡ flat_map bytes_of blocks → FitsMoved v tables size came (Read p offset count) (gathers v tables read_inode offset read_to index bytes)
    gathers_fit last within index index_is bytes are =
        fits_if v tables size came (Read p offset count) (nat_lt index (block_count read_to)) (AsksFor (reads_block v (block_at tables read_inode index)) (Gathers read_inode offset read_to index bytes)) (Ends (BytesRead (bytes_wanted offset read_to bytes)))
        (λ low. (
          record {
            same_inode = refl;
            same_offset = refl;
            same_to = refl;
            some = some;
            blocks = blocks;
            earlier = earlier;
            last = last;
            index_is = index_is;
            more = ltb-true index (block_count read_to) low;
            are = are;
          },
          refl,
        ))
        (λ high. (
          bytes_wanted offset read_to bytes,
          refl,
          record {
            blocks = blocks;
            earlier = earlier;
            last = last;
            all = let low = ltb-false index (block_count read_to) high in
                let count : length blocks ≡ block_count read_to - offset / 4096 = omega (arith, low, within, index_is) in
                count ∙ sym (ap (λ b. if b then block_count read_to - offset / 4096 else 0) some);
            are = ap (bytes_wanted offset read_to) are;
          },
        ))

  pub moves_fit : (call : FileCall) → FitsMoved v tables size came call (data_moves v tables size call)
  moves_fit (Write p offset byte count) =
      let f : Fill = record { inode = found tables p; size = size; start = offset; byte = byte; count = count } in
      fits_if v tables size came (Write p offset byte count) (count == 0) (Ends Fine) (fills v tables f (first_of_fill f)) (λ _. refl) (λ _. fills_fit (Write p offset byte count) f (first_of_fill f) tt)
  moves_fit (Truncate p to) =
      let f : Fill = record { inode = found tables p; size = size; start = to; byte = 0; count = 0 } in
      fits_if v tables size came (Truncate p to) (nat_lt size to) (fills v tables f (first_of_fill f)) (Ends Fine) (λ _. fills_fit (Truncate p to) f (first_of_fill f) tt) (λ _. refl)
  moves_fit (Read p offset count) =
      let to = read_end size offset count in
      fits_if v tables size came (Read p offset count) (nat_lt offset to) (gathers v tables (found tables p) offset to (offset / 4096) []) (Ends (BytesRead []))
      (λ some. gathers_fit p offset count some came [] (sym (append-nil came)) (omega arith) (offset / 4096) (omega arith) [] refl)
      (λ none. (
        [],
        refl,
        record {
          blocks = [];
          earlier = came;
          last = sym (append-nil came);
          all = sym (ap (λ b. if b then block_count to - offset / 4096 else 0) none);
          are = none_wanted offset to;
        },
      ))
  moves_fit (Stat p) = refl
  moves_fit (Lists p) = refl
  moves_fit (Mkdir p) = refl
  moves_fit (Create p) = refl
  moves_fit (Rename from to) = refl
  moves_fit (Unlink p) = refl
  moves_fit (Rmdir p) = refl

abbrev pub RepliesFitly : DataMoving → Reply → Type 0
RepliesFitly (Gathers inode offset to index bytes) Written = ⊥
RepliesFitly moving reply = Unit {0}

module _ (v : Extent) (tables : Tables) (size : ℕ) (was : List Exchange) (ask : Ask) (reply : Reply) where
  abbrev now : List Exchange
  now = was ++ (ask, reply) ∷ []

  fill_goes_on : (call : FileCall) (moving : DataMoving) (its : Reply) → Fills call → IsFilling moving → FitsMoved v tables size now call (moves_on v tables moving its)
  fill_goes_on call (Fetches f index) (Bytes sectors) is fits = ((filling v tables size now call f index is).0, tt)
  fill_goes_on call (Fetches f index) Written is fits = filled_fine v tables size now call is
  fill_goes_on call (Stores f index) Written is fits = fills_fit v tables size now call f (suc index) is
  fill_goes_on call (Stores f index) (Bytes sectors) is fits = filled_fine v tables size now call is
  fill_goes_on call (Gathers inode offset to index bytes) its is fits = absurd fits

  -- one block more came
  gathers_on : (p : Path) (offset count : ℕ) (sectors : List Sector) (its_inode its_offset its_to index : ℕ) (bytes : List ℕ)
      → HasGathered v tables was (found tables p) offset (read_end size offset count) its_inode its_offset its_to index bytes
      → ask ≡ reads_block v (block_at tables its_inode index) → reply ≡ Bytes sectors
      → FitsMoved v tables size now (Read p offset count) (gathers v tables its_inode its_offset its_to (suc index) (bytes ++ bytes_of sectors))
  gathers_on p offset count sectors its_inode its_offset its_to index bytes so_far asked came =
      let inode = found tables p in
      let to = read_end size offset count in
      let blocks = so_far.blocks ++ sectors ∷ [] in
      let block : Ask = reads_block v (block_at tables inode (offset / 4096 + length so_far.blocks)) in
      let same_block : ask ≡ block = asked ∙ ap (λ i. reads_block v (block_at tables i index)) so_far.same_inode ∙ ap (λ i. reads_block v (block_at tables inode i)) so_far.index_is in
      let last : now ≡ so_far.earlier ++ reads_of v tables inode (offset / 4096) blocks =
      ap (λ xs. xs ++ (ask, reply) ∷ []) so_far.last
      ∙ append_assoc so_far.earlier (reads_of v tables inode (offset / 4096) so_far.blocks) ((ask, reply) ∷ [])
      ∙ ap (λ (a : Ask). so_far.earlier ++ (reads_of v tables inode (offset / 4096) so_far.blocks ++ (a, reply) ∷ [])) same_block
      ∙ ap (λ (r : Reply). so_far.earlier ++ (reads_of v tables inode (offset / 4096) so_far.blocks ++ (block, r) ∷ [])) came
      ∙ ap (λ more. so_far.earlier ++ more) (sym (reads_one_more v tables inode (offset / 4096) so_far.blocks sectors)) in
      let longer : length blocks ≡ suc (length so_far.blocks) = length-append so_far.blocks (sectors ∷ []) ∙ (omega arith) in
      let index_is = so_far.index_is in
      let more = so_far.more in
      let are : bytes ++ bytes_of sectors ≡ flat_map bytes_of blocks =
      ap (λ xs. xs ++ bytes_of sectors) so_far.are ∙ ap (λ xs. flat_map bytes_of so_far.blocks ++ xs) (sym (append-nil (bytes_of sectors))) ∙ sym (flat_map-append bytes_of so_far.blocks (sectors ∷ [])) in
      let fits = gathers_fit v tables size now p offset count so_far.some so_far.earlier blocks last (omega (arith, longer, index_is, more)) (suc index) (omega (arith, longer, index_is)) (bytes ++ bytes_of sectors) are in
      subst (λ i. FitsMoved v tables size now (Read p offset count) (gathers v tables i its_offset its_to (suc index) (bytes ++ bytes_of sectors))) (sym so_far.same_inode)
      (subst (λ o. FitsMoved v tables size now (Read p offset count) (gathers v tables inode o its_to (suc index) (bytes ++ bytes_of sectors))) (sym so_far.same_offset)
      (subst (λ t. FitsMoved v tables size now (Read p offset count) (gathers v tables inode offset t (suc index) (bytes ++ bytes_of sectors))) (sym so_far.same_to) fits))

  pub moves_on_fit : (call : FileCall) (moving : DataMoving) (its : Reply) → reply ≡ its → FitsMoving v tables size was call moving → AsksFitly v tables moving ask → RepliesFitly moving its
      → FitsMoved v tables size now call (moves_on v tables moving its)
  moves_on_fit (Write p offset byte count) moving its is fits asked kind = fill_goes_on (Write p offset byte count) moving its tt fits
  moves_on_fit (Truncate p to) moving its is fits asked kind = fill_goes_on (Truncate p to) moving its tt fits
  moves_on_fit (Read p offset count) (Gathers inode at to index bytes) (Bytes sectors) is fits asked kind = gathers_on p offset count sectors inode at to index bytes fits asked is
  moves_on_fit (Read p offset count) (Gathers inode at to index bytes) Written is fits asked kind = absurd kind
  moves_on_fit (Read p offset count) (Fetches f index) its is fits asked kind = absurd fits
  moves_on_fit (Read p offset count) (Stores f index) its is fits asked kind = absurd fits
  moves_on_fit (Mkdir p) moving its is fits asked kind = absurd fits
  moves_on_fit (Create p) moving its is fits asked kind = absurd fits
  moves_on_fit (Rename from to) moving its is fits asked kind = absurd fits
  moves_on_fit (Unlink p) moving its is fits asked kind = absurd fits
  moves_on_fit (Rmdir p) moving its is fits asked kind = absurd fits
  moves_on_fit (Stat p) moving its is fits asked kind = absurd fits
  moves_on_fit (Lists p) moving its is fits asked kind = absurd fits

-- a plan that goes on is a step of the call's file data
module _ (m : ℕ) (v : Extent) (d : Data) (tables : Tables) (came : List Exchange) (p : Pending) (step : Moved) where
  abbrev Fits : Type 0
  Fits = FitsMoved v tables (size_in tables p.call) came p.call step

  with_goes : (cs : List Change) → planned_with m v tables p cs ≡ Goes step → Fits
  with_goes [] e =
      let same : data_moves v tables (size_in tables p.call) p.call ≡ step = cc in
      subst (FitsMoved v tables (size_in tables p.call) came p.call) same (moves_fit v tables (size_in tables p.call) came p.call)
  with_goes (c ∷ cs) e = cc

  by_goes : (r : Option ℕ) → planned_by m v d tables p r ≡ Goes step → Fits
  by_goes (Some refused) e = cc
  by_goes None e = with_goes (changes d tables p.call) e

  pub plan_goes : planned m v d tables p ≡ Goes step → Fits
  plan_goes e = by_goes (refusal (tables_sight d tables) p.call) e
