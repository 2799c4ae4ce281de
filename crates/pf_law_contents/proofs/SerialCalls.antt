-- Calls that go one at a time keep the contents of files, and reads give them.
use Rattle.std.proofs.Common.{◌≡◌, ◌⊎◌, inl, inr, ℕ, zero, suc, ◌*◌, ◌/◌, ◌<◌, ◌==◌, Bool, true, false, nat_lt, if◌then◌else◌, replicate, List, [], ◌∷◌, ◌++◌, length, unwrap_or, Option, Some, None, arith, refl, sym, ap, subst, ◌∙◌}
use Rattle.std.specs.List.{cons_option, fold}
use Rattle.std.proofs.lemmas.Bool.{cases_Bool, cond-true, cond-false, true≢false}
use Rattle.std.proofs.lemmas.List.{length-append}
use Rattle.std.proofs.lemmas.Option.{none-some}
use Rattle.pf_base.specs.declared.asks.Reply.{Reply}
use Rattle.pf_base.specs.declared.asks.Reply.TheVariants.{Written, Bytes}
use Rattle.pf_base.specs.declared.calls.Call.TheVariants.{Mkdir, Create, Write, Read, Truncate, Rename, Unlink, Rmdir, Stat, List as Lists}
use Rattle.pf_entry.specs.Ops.{zero_sector}
use Rattle.pf_law_positions.specs.Deeds.{Deed, Groups}
use Rattle.pf_volume.specs.Volumes.{Extent}
use Rattle.pf_tree_tables.specs.Names.{Path}
use Rattle.pf_tree_tables.specs.Tables.{Tables, applied, new_tables}
use Rattle.pf_tree_tables.specs.declared.changes.Change.{Change}
use Rattle.pf_tree.specs.Paths.{is_same}
use Rattle.pf_tree.specs.Plans.{changes, found, node_at, tables_sight}
use Rattle.pf_tree.specs.Standing.{IsCall, TablesStandFor}
use Rattle.pf_tree.specs.Trees.{Data, Dir, File, Node, Tree, at, changed, is_dir, new_tree, refusal, size_at, tree_sight}
use Rattle.pf_tree.specs.Calls.{FileCall}
use Rattle.pf_tree.proofs.New.{new_stands}
use Rattle.pf_file_calls.specs.Blocks.{bytes_of}
use Rattle.pf_file_calls.specs.Calls.{file_of_call, planned, planned_by, planned_with, size_in}
use Rattle.pf_file_calls.specs.Filling.{end_of_fill, first_of_fill, is_new, read_end}
use Rattle.pf_file_calls.specs.Moving.{block_at, fills, fills_block, gathers, data_moves, moves_on, stat_of, stores}
use Rattle.pf_file_calls.specs.declared.answers.CallAnswer.{CallAnswer}
use Rattle.pf_file_calls.specs.declared.answers.CallAnswer.TheVariants.{Fine, Bytes as BytesRead}
use Rattle.pf_file_calls.specs.declared.answers.CallFault.TheVariants.{JournalFull}
use Rattle.pf_file_calls.specs.declared.calls.Pending.{Pending}
use Rattle.pf_file_calls.specs.declared.calls.Planned.TheVariants.{Goes}
use Rattle.pf_file_calls.specs.declared.filling.Fill.{Fill}
use Rattle.pf_file_calls.specs.declared.moving.DataMoving.{DataMoving}
use Rattle.pf_file_calls.specs.declared.moving.DataMoving.TheVariants.{Fetches, Stores, Gathers}
use Rattle.pf_file_calls.specs.declared.moving.Moved.{Moved}
use Rattle.pf_file_calls.specs.declared.moving.Moved.TheVariants.{Asks, Ends}
use Rattle.pf_law_plans.specs.Exchanges.{Exchange}
use Rattle.pf_law_plans.specs.Numbered.{tree_with}
use Rattle.pf_law_plans.proofs.TableAnswers.{goes_so, proposes_so}
use Rattle.pf_law_plans.proofs.PlannedTransactions.{call_followed}
use Rattle.pf_law_contents.specs.Contents.{Contents, contents_after, contents_with, no_contents}
use Rattle.pf_law_contents.specs.Going.{AreCalls, CallAsks, IsReadOf, IsRefusal, IsRefused, HasNoRoom, IsLookedUp, IsDone, GoOneByOne, Went, all_zeros, call_done, done_of, exchanges_of, tree_of}
use Rattle.pf_law_contents.specs.Serial.{AreSerial, AreServed}
use Rattle.pf_law_contents.specs.Stored.{AreSo, GoesSo, Stored, TellStored, stored_after, stored_by}
use Rattle.pf_law_contents.proofs.Calls.{file_at, kept, read_so}
use Rattle.pf_law_contents.proofs.Serial.{all_serial}

-- Exchanges in two parts

pub told_apart : (xs ys : List Exchange) (s : Stored) → TellStored s (xs ++ ys) → TellStored s xs × TellStored (stored_after s xs) ys
told_apart [] ys s tells = (tt, tells)
told_apart (e ∷ xs) ys s tells = let rest = told_apart xs ys (stored_by s e.0) tells.1 in ((tells.0, rest.0), rest.1)

pub stored_on : (xs ys : List Exchange) (s : Stored) → stored_after s (xs ++ ys) ≡ stored_after (stored_after s xs) ys
stored_on [] ys s = refl
stored_on (e ∷ xs) ys s = stored_on xs ys (stored_by s e.0)

-- A call whose file data go is not refused

abbrev EndsWell : FileCall → Moved → Type 0
EndsWell call (Ends answer) = call_done call answer ≡ Some call
EndsWell call (Asks ask moving) = Unit {0}

either_well : (call : FileCall) (b : Bool) (x y : Moved) → EndsWell call x → EndsWell call y → EndsWell call (if b then x else y)
either_well call true x y of_x of_y = of_x
either_well call false x y of_x of_y = of_y

module _ (v : Extent) (t : Tables) (call : FileCall) where
  fills_well : (f : Fill) (index : ℕ) → EndsWell call (fills v t f index)
  fills_well f index =
      either_well call (nat_lt index (end_of_fill f)) (fills_block v (block_at t f.inode index) f index) (Ends Fine)
      (either_well call (is_new f index) (stores v (block_at t f.inode index) f index (replicate 4096 0)) _ tt tt) refl

  gathers_well : (inode offset to index : ℕ) (bytes : List ℕ) → EndsWell call (gathers v t inode offset to index bytes)
  gathers_well inode offset to index bytes = either_well call (nat_lt index _) _ (Ends (BytesRead _)) tt refl

  goes_well : (moving : DataMoving) (reply : Reply) → EndsWell call (moves_on v t moving reply)
  goes_well (Fetches f index) (Bytes sectors) = tt
  goes_well (Stores f index) Written = fills_well f (suc index)
  goes_well (Gathers inode offset to index bytes) (Bytes sectors) = gathers_well inode offset to (suc index) _
  goes_well (Fetches f index) Written = refl
  goes_well (Stores f index) (Bytes sectors) = refl
  goes_well (Gathers inode offset to index bytes) Written = refl

  stat_well : (o : Option Node) → call_done call (stat_of o) ≡ Some call
  stat_well None = refl
  stat_well (Some Dir) = refl
  stat_well (Some (File size blocks)) = refl

  pub all_well : (moved : Moved) (came : List Exchange) (answer : CallAnswer) → EndsWell call moved → GoesSo v t moved came answer → call_done call answer ≡ Some call
  all_well (Ends is) [] answer well goes = ap (call_done call) (sym goes) ∙ well
  all_well (Ends is) (e ∷ came) answer well goes = absurd goes
  all_well (Asks ask moving) [] answer well goes = absurd goes
  all_well (Asks ask moving) (e ∷ came) answer well goes = all_well (moves_on v t moving e.1) came answer (goes_well moving e.1) goes.2

pub begins_well : (v : Extent) (t : Tables) (size : ℕ) (call its : FileCall) → EndsWell its (data_moves v t size call)
begins_well v t size (Write p offset byte count) its =
    let f : Fill = record { inode = found t p; size = size; start = offset; byte = byte; count = count } in
    either_well its (count == 0) (Ends Fine) (fills v t f (first_of_fill f)) refl (fills_well v t its f (first_of_fill f))
begins_well v t size (Truncate p to) its =
    let f : Fill = record { inode = found t p; size = size; start = to; byte = 0; count = 0 } in
    either_well its (nat_lt size to) (fills v t f (first_of_fill f)) (Ends Fine) (fills_well v t its f (first_of_fill f)) refl
begins_well v t size (Read p offset count) its =
    either_well its (nat_lt offset (read_end size offset count)) (gathers v t (found t p) offset (read_end size offset count) (offset / 4096) []) (Ends (BytesRead [])) (gathers_well v t its (found t p) offset (read_end size offset count) (offset / 4096) []) refl
begins_well v t size (Stat p) its = stat_well v t its (node_at t p)
begins_well v t size (Lists p) its = refl
begins_well v t size (Mkdir p) its = refl
begins_well v t size (Create p) its = refl
begins_well v t size (Rename from to) its = refl
begins_well v t size (Unlink p) its = refl
begins_well v t size (Rmdir p) its = refl

-- a plan that goes on is the call's file data
module _ (m : ℕ) (v : Extent) (d : Data) (t : Tables) (p : Pending) (step : Moved) where
  with_step : (cs : List Change) → planned_with m v t p cs ≡ Goes step → data_moves v t (size_in t p.call) p.call ≡ step
  with_step [] e = cc
  with_step (c ∷ cs) e = cc

  by_step : (r : Option ℕ) → planned_by m v d t p r ≡ Goes step → data_moves v t (size_in t p.call) p.call ≡ step
  by_step (Some refused) e = cc
  by_step None e = with_step (changes d t p.call) e

  pub step_is : planned m v d t p ≡ Goes step → data_moves v t (size_in t p.call) p.call ≡ step
  step_is e = by_step (refusal (tables_sight d t) p.call) e

abbrev pub contents_on : Option FileCall → Contents → Contents
contents_on None c = c
contents_on (Some call) c = contents_with call c

module _ (v : Extent) (some : 0 < v.sectors) (d : Data) where
  -- one call
  one_call : (m : ℕ) (p : Pending) (t next : Tables) (s : Stored) (came : List Exchange) (answer : CallAnswer) (tree : Tree) (c : Contents) → IsCall p.call → AreSo v d t s tree c → CallAsks v d m p t next came answer → TellStored s came
      → AreSo v d next (stored_after s came) (tree_with d tree (call_done p.call answer)) (contents_on (call_done p.call answer) c)
  one_call m p t next s _ answer tree c is so (IsRefused fault refused) tells = so
  one_call m p t next s _ answer tree c is so (HasNoRoom txn plan) tells = so
  one_call m p t next s _ answer tree c is so (IsLookedUp step came _ plan goes) tells =
      let moved = step_is m v d t p step plan in
      let goes_there : GoesSo v t (data_moves v t (size_in t p.call) p.call) came answer = subst (λ (x : Moved). GoesSo v t x came answer) (sym moved) goes in
      let well = all_well v t p.call (data_moves v t (size_in t p.call) p.call) came answer (begins_well v t (size_in t p.call) p.call p.call) goes_there in
      let fine = goes_so m v d t p tree so.stands is step plan in
      let stays : tree_with d tree (Some p.call) ≡ tree = ap (λ o. unwrap_or o tree) fine.1 in
      let stands = subst (λ x. TablesStandFor d t x) (sym stays) so.stands in
      let size : size_in t p.call ≡ size_at (at tree (file_of_call p.call)) = ap size_at (sym (so.stands.nodes (file_of_call p.call))) in
      let held = kept v some d t t tree s c so.stands so.held came answer tells p.call fine.0 stands (subst (λ n. GoesSo v t (data_moves v t n p.call) came answer) size goes_there) in
      subst (λ (o : Option FileCall). AreSo v d t (stored_after s came) (tree_with d tree o) (contents_on o c)) (sym well) (record { stands = stands; held = held })
  one_call m p t _ s _ answer tree c is so (IsDone txn came _ plan goes) tells =
      let well = all_well v (applied t txn.changes) p.call (data_moves v (applied t txn.changes) (size_in t p.call) p.call) came answer (begins_well v (applied t txn.changes) (size_in t p.call) p.call p.call) goes in
      let fine = proposes_so m v d t p tree so.stands is txn plan in
      let stands = call_followed m v d t p txn tree so.stands is plan in
      let size : size_in t p.call ≡ size_at (at tree (file_of_call p.call)) = ap size_at (sym (so.stands.nodes (file_of_call p.call))) in
      let held = kept v some d t (applied t txn.changes) tree s c so.stands so.held came answer tells p.call fine.0 stands (subst (λ n. GoesSo v (applied t txn.changes) (data_moves v (applied t txn.changes) n p.call) came answer) size goes) in
      subst (λ (o : Option FileCall). AreSo v d (applied t txn.changes) (stored_after s came) (tree_with d tree o) (contents_on o c)) (sym well) (record { stands = stands; held = held })

  abbrev tree_from : Tree → List FileCall → Tree
  tree_from tree calls = fold (λ tree call. tree_with d tree (Some call)) tree calls

  abbrev contents_from : Contents → List FileCall → Contents
  contents_from c calls = fold (λ c call. contents_with call c) c calls

  all_calls : (wents : List Went) (t after : Tables) (s : Stored) (tree : Tree) (c : Contents) → AreCalls wents → AreSo v d t s tree c → GoOneByOne v d t wents after → TellStored s (exchanges_of wents)
      → AreSo v d after (stored_after s (exchanges_of wents)) (tree_from tree (done_of wents)) (contents_from c (done_of wents))
  all_calls [] t after s tree c are so goes tells = subst (λ (x : Tables). AreSo v d x s tree c) goes so
  all_calls (went ∷ wents) t after s tree c are so goes tells =
      let parts = told_apart went.came (exchanges_of wents) s tells in
      let first = one_call went.mount went.call t goes.0 s went.came went.answer tree c are.0 so goes.1 parts.0 in
      subst (λ (x : Stored). AreSo v d after x (tree_from tree (done_of (went ∷ wents))) (contents_from c (done_of (went ∷ wents)))) (sym (stored_on went.came (exchanges_of wents) s))
      (by (call_done went.call.call went.answer) (λ its its_c so_far. all_calls wents goes.0 after (stored_after s went.came) its its_c are.1 so_far goes.2 parts.1) first)
    where
      by : (o : Option FileCall) → ((its : Tree) (its_c : Contents) → AreSo v d goes.0 (stored_after s went.came) its its_c → AreSo v d after (stored_after (stored_after s went.came) (exchanges_of wents)) (tree_from its (done_of wents)) (contents_from its_c (done_of wents)))
          → AreSo v d goes.0 (stored_after s went.came) (tree_with d tree o) (contents_on o c)
          → AreSo v d after (stored_after (stored_after s went.came) (exchanges_of wents)) (tree_from tree (cons_option o (done_of wents))) (contents_from c (cons_option o (done_of wents)))
      by None rest first = rest tree c first
      by (Some call) rest first = rest (tree_with d tree (Some call)) (contents_with call c) first

  -- a new volume has no file
  no_file : (p : Path) (size : ℕ) (blocks : List ℕ) → at new_tree p ≡ Some (File size blocks) → ⊥
  no_file p size blocks is = elim (cases_Bool (is_same p [])) [
    | inl root ↦ let e : ◌≡◌ {A = Option Node} (Some Dir) (Some (File size blocks)) = sym (cond-true _ _ _ root) ∙ is in true≢false (ap is_dir e)
    | inr other ↦ none-some (File size blocks) (sym (cond-false _ _ _ other) ∙ is)
  ]

  sector_length : length zero_sector ≡ 512
  unfolding zero_sector
  sector_length = refl

  zeros_length : (n : ℕ) → length (bytes_of (replicate n zero_sector)) ≡ 512 * n
  zeros_length zero = refl
  zeros_length (suc n) = length-append zero_sector (bytes_of (replicate n zero_sector)) ∙ (let one = sector_length in let rest = zeros_length n in omega (arith, one, rest))

  new_so : AreSo v d (new_tables d.blocks) all_zeros new_tree no_contents
  new_so = record {
    stands = new_stands d.first d.blocks;
    held = record {
      whole = λ block. zeros_length 8;
      bytes = λ p size blocks is place low. absurd (no_file p size blocks is);
      past = λ p size blocks is place high. refl;
    };
  }

  pub calls_go : (wents : List Went) (t : Tables) → AreCalls wents → GoOneByOne v d (new_tables d.blocks) wents t → TellStored all_zeros (exchanges_of wents) → AreSo v d t (stored_after all_zeros (exchanges_of wents)) (tree_of d (done_of wents)) (contents_after (done_of wents))
  calls_go wents t are goes tells = all_calls wents (new_tables d.blocks) t all_zeros new_tree no_contents are new_so goes tells

  -- one read more
  read_goes : (t next : Tables) (s : Stored) (tree : Tree) (c : Contents) → AreSo v d t s tree c → (m : ℕ) (p : Pending) (q : Path) (offset count : ℕ) (came : List Exchange) (answer : CallAnswer) → p.call ≡ Read q offset count → CallAsks v d m p t next came answer → TellStored s came
      → IsRefusal answer ⊎ IsReadOf tree c q offset count answer
  read_goes t next s tree c so m p q offset count _ answer is (IsRefused fault refused) tells = inl (fault, refl)
  read_goes t next s tree c so m p q offset count _ answer is (HasNoRoom txn plan) tells = inl (JournalFull, refl)
  read_goes t next s tree c so m p q offset count _ answer is (IsLookedUp step came _ plan goes) tells =
      let place : IsCall p.call = subst IsCall (sym is) tt in
      let fine = goes_so m v d t p tree so.stands place step plan in
      let refusal_none : refusal (tree_sight d tree) (Read q offset count) ≡ None = subst (λ call. refusal (tree_sight d tree) call ≡ None) is fine.0 in
      let file = file_at d t tree so.stands q refusal_none in
      let moved = step_is m v d t p step plan in
      let here : GoesSo v t (data_moves v t (size_in t (Read q offset count)) (Read q offset count)) came answer = subst (λ call. GoesSo v t (data_moves v t (size_in t call) call) came answer) is (subst (λ (x : Moved). GoesSo v t x came answer) (sym moved) goes) in
      let size : size_in t (Read q offset count) ≡ file.0 = ap size_at (sym (so.stands.nodes q) ∙ file.2) in
      inr (read_so v d t tree s c so.stands so.held q file.0 file.1 file.2 offset count came answer tells (subst (λ n. GoesSo v t (data_moves v t n (Read q offset count)) came answer) size here)).0
  read_goes t _ s tree c so m p q offset count _ answer is (IsDone txn came _ plan goes) tells =
      let place : IsCall p.call = subst IsCall (sym is) tt in
      let some_tree = proposes_so m v d t p tree so.stands place txn plan in
      absurd (none-some some_tree.1 (subst (λ call. changed d tree call ≡ Some some_tree.1) is some_tree.2))

  pub reads_go : (wents : List Went) (t next : Tables) → AreCalls wents → GoOneByOne v d (new_tables d.blocks) wents t → (m : ℕ) (p : Pending) (q : Path) (offset count : ℕ) (came : List Exchange) (answer : CallAnswer) → p.call ≡ Read q offset count → CallAsks v d m p t next came answer → TellStored all_zeros (exchanges_of wents ++ came)
      → IsRefusal answer ⊎ IsReadOf (tree_of d (done_of wents)) (contents_after (done_of wents)) q offset count answer
  reads_go wents t next are goes m p q offset count came answer is asks tells =
      let parts = told_apart (exchanges_of wents) came all_zeros tells in
      read_goes t next (stored_after all_zeros (exchanges_of wents)) (tree_of d (done_of wents)) (contents_after (done_of wents)) (calls_go wents t are goes parts.0) m p q offset count came answer is asks parts.1

  -- over ports
  pub reads_go_over_ports : (is_data : (chunk piece : ℕ) → Bool) (groups : (chunk : ℕ) → Groups) (deeds : (chunk : ℕ) → List Deed) → AreServed is_data groups deeds → (wents : List Went) (t next : Tables) → AreCalls wents → GoOneByOne v d (new_tables d.blocks) wents t
      → (m : ℕ) (p : Pending) (q : Path) (offset count : ℕ) (came : List Exchange) (answer : CallAnswer) → p.call ≡ Read q offset count → CallAsks v d m p t next came answer → (end : ℕ) → AreSerial is_data deeds 0 (exchanges_of wents ++ came) end
      → IsRefusal answer ⊎ IsReadOf (tree_of d (done_of wents)) (contents_after (done_of wents)) q offset count answer
  reads_go_over_ports is_data groups deeds served wents t next are goes m p q offset count came answer is asks end serial =
      reads_go wents t next are goes m p q offset count came answer is asks (all_serial is_data deeds groups served (exchanges_of wents ++ came) end serial).0
