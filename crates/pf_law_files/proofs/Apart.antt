-- Reads of files whose blocks are touched by calls that are apart in time give the files' contents.
use Rattle.std.proofs.Common.{◌≡◌, ◌⊎◌, inl, inr, ℕ, suc, ◌*◌, ◌/◌, ◌%◌, ◌<◌, ◌≤◌, List, [], ◌∷◌, ◌++◌, drop, length, map, take, Some, None, slice_get, arith, sym, ap, subst, ◌∙◌}
use Rattle.std.specs.List.{Contains}
use Rattle.std.proofs.lemmas.List.{append_assoc, length-append, take-append-drop}
use Rattle.std.proofs.lemmas.List.Elements.{Contains-get_or}
use Rattle.std.proofs.lemmas.Option.{none-some, slice_get_within}
use Rattle.pf_base.specs.Asks.{chunk_of, span_of}
use Rattle.pf_base.specs.Span.{Span}
use Rattle.pf_base.specs.declared.asks.Ask.{Ask}
use Rattle.pf_base.specs.declared.calls.Call.TheVariants.{Read}
use Rattle.pf_entry.specs.Lists.{Every}
use Rattle.pf_entry.proofs.Lists.{every_map, every_more}
use Rattle.pf_volume.specs.Volumes.{Extent, IsVolume}
use Rattle.pf_tree_tables.specs.Names.{Path}
use Rattle.pf_tree_tables.specs.Tables.{Tables}
use Rattle.pf_tree.specs.Plans.{found}
use Rattle.pf_tree.specs.Standing.{IsCall, TablesStandFor}
use Rattle.pf_tree.specs.Trees.{Data, File, Tree, at, block_count, changed, refusal, size_at, tree_sight}
use Rattle.pf_file_calls.specs.Blocks.{reads_block}
use Rattle.pf_file_calls.specs.Calls.{planned, size_in}
use Rattle.pf_file_calls.specs.Filling.{read_end}
use Rattle.pf_file_calls.specs.Moving.{block_at, data_moves}
use Rattle.pf_file_calls.specs.declared.answers.CallAnswer.{CallAnswer}
use Rattle.pf_file_calls.specs.declared.answers.CallAnswer.TheVariants.{Bytes as BytesRead}
use Rattle.pf_file_calls.specs.declared.calls.Pending.{Pending}
use Rattle.pf_file_calls.specs.declared.calls.Planned.TheVariants.{Goes}
use Rattle.pf_law_plans.specs.Exchanges.{Exchange}
use Rattle.pf_law_plans.proofs.TableAnswers.{goes_so, proposes_so}
use Rattle.pf_law_contents.specs.Contents.{bytes_between, contents_after}
use Rattle.pf_law_contents.specs.Going.{CallAsks, IsLookedUp as LooksUp, IsReadOf, IsRefusal, Went, all_zeros, done_of, exchanges_of, tree_of}
use Rattle.pf_law_contents.specs.Planned.{IsVirtualRun, PlannedCall}
use Rattle.pf_law_contents.specs.Serial.{IsOfPiece}
use Rattle.pf_law_contents.specs.Stored.{GoesSo, Stored, TellStored, TellStoredAt, stored_after}
use Rattle.pf_law_contents.proofs.Calls.{file_at}
use Rattle.pf_law_contents.proofs.Files.{blocks_length, file_there, its_block}
use Rattle.pf_law_contents.proofs.SerialCalls.{calls_go, reads_go}
use Rattle.pf_law_contents.proofs.PlacesLeft.{IsAskOfRead, read_asks}
use Rattle.pf_law_contents.proofs.PlannedRuns.{planned_run}
use Rattle.pf_journal.specs.declared.layouts.Layout.{Layout}
use Rattle.pf_journal.specs.Layouts.{VolumeHasRoom, layout_of}
use Rattle.pf_mount.specs.declared.work.MountNext.TheVariants.{Done}
use Rattle.pf_mount.specs.Mounts.{MountIs}
use Rattle.pf_mount.specs.declared.work.MountWork.TheVariants.{Rests}
use Rattle.pf_law_calls.specs.Late.{IsPlanned as IsPlannedWork}
use Rattle.pf_law_calls.proofs.Behind.{call_late}
use Rattle.pf_law_calls.specs.Answering.{next_by}
use Rattle.pf_law_calls.specs.Going.{IsLookedUp, held_at}
use Rattle.pf_law_calls.specs.Since.{called}
use Rattle.pf_law_calls.specs.Doings.{HaveRegisters, IsListOf}
use Rattle.pf_law_calls.specs.Lives.{Begins, Input, MountTold, lives}
use Rattle.pf_law_calls.specs.Spelled.{CanAllBeSpelled}
use Rattle.pf_law_calls.specs.Trees.{AreFewCalls, call_named, calls_of, data_blocks}
use Rattle.pf_law_calls.proofs.CallWords.{named_spelled}
use Rattle.pf_law_calls.proofs.TablesByList.{mounts_stand, stands_at, tree_at}
use Rattle.pf_law_homes.specs.Chunks.{ChunkGroups}
use Rattle.pf_law_homes.specs.Routed.{AreRoutedChunks}
use Rattle.pf_law_events.specs.Events.{MountsAreServed, Happening, port_events, mounts_told}
use Rattle.pf_law_files.specs.Blocks.{is_data_piece}
use Rattle.pf_law_files.specs.Ordered.{CallsAreApart, ReadsGiveContentsInOrder, calls_up_to}
use Rattle.pf_law_files.proofs.CallProgress.{Ends, EndsPlain}
use Rattle.pf_law_files.proofs.PlannedChains.{CallList, data_is, in_turn, list_up_to, plan_of, planned_of}
use Rattle.pf_law_files.proofs.Effects.{GoesIn, Lasts, ended_number, lasts}
use Rattle.pf_law_files.proofs.BlockReads.{AsListed, map_size, map_twice, named_told, run_listed, tell_all, tell_on, well}
use Rattle.pf_law_files.proofs.CallTimes.{EndsThen, at_time, prefix_is, stands_there, take_more}
use Rattle.pf_law_files.proofs.ListedCalls.{InPlace, Named, Stands, Stood}
use Rattle.pf_law_files.proofs.Positions.{IsOf, begun_by_then, calls_count, mount_at, tables_at}
use Rattle.pf_law_files.proofs.ApartReads.{told_stored}
use Rattle.pf_law_files.proofs.SerialAsks.{IsDataAsk, piece_of}
use Rattle.pf_law_files.proofs.BlockTimes.{came_data, its_at, mount_low}
use Rattle.pf_law_files.proofs.TouchOrder.{over_rests}
use Rattle.pf_law_plans.proofs.Lists.{take_one_more}

pub both_every : {X : Type 0} → (P Q R : X → Type 0) → ((x : X) → P x → Q x → R x) → (xs : List X) → Every P xs → Every Q xs → Every R xs
both_every P Q R both [] a b = tt
both_every P Q R both (x ∷ xs) a b = (both x a.0 b.0, both_every P Q R both xs a.1 b.1)

module _ (layout : Layout) (v : Extent) (volume : IsVolume v) (room : VolumeHasRoom layout v) (list : List (List ℕ)) (groups : (chunk : ℕ) → ChunkGroups) (hs : List Happening) (are : MountsAreServed layout v hs) (registers : HaveRegisters layout v (mounts_told hs))
    (is : IsListOf layout v (mounts_told hs) list) (all_routed : AreRoutedChunks v groups (port_events layout v hs)) (spelled : CanAllBeSpelled (mounts_told hs)) (few : AreFewCalls (mounts_told hs)) where
  abbrev told : List MountTold
  told = mounts_told hs

  abbrev d : Data
  d = data_blocks layout v

  module _ (before after : List MountTold) (m : ℕ) (input : Input) (call : Pending) (p : Path) (offset count : ℕ) (answer : CallAnswer) (same : told ≡ before ++ record { mount = m; input = input } ∷ after)
      (ends : next_by (lives layout v before m).mount input ≡ Some (Done answer)) (was : called (lives layout v before m).mount input ≡ Some call) (reads : call.call ≡ Read p offset count) where
    abbrev t : MountTold
    t = record { mount = m; input = input }

    abbrev now : List MountTold
    now = before ++ t ∷ []

    abbrev x : MountIs
    x = (lives layout v now m).mount

    abbrev u : ℕ
    u = x.upto

    abbrev time : ℕ
    time = length before

    same_now : told ≡ now ++ after
    same_now = same ∙ sym (append_assoc before (t ∷ []) after)

    there : slice_get told time ≡ Some t
    there = stands_there told before t after same

    first_is : take time told ≡ before
    first_is = prefix_is told before (t ∷ after) same

    next_is : take (suc time) told ≡ now
    next_is = take_one_more told time t there ∙ ap (λ us. us ++ t ∷ []) first_is

    over : EndsThen layout v told time m x.files.calls call answer
    over = record {
      input = input;
      there = there;
      ends = ap (λ us. next_by (lives layout v us m).mount input) first_is ∙ ends;
      was = ap (λ us. called (lives layout v us m).mount input) first_is ∙ was;
      number_is = ap (λ us. length (calls_of us m)) next_is ∙ sym (calls_count layout v now m);
    }

    small : m < 16
    small = mount_low layout v volume room list groups hs are registers is all_routed time t there

    l : Lasts layout v volume room list groups hs are registers is all_routed spelled few now after same_now m x.files.calls time call answer
    l = lasts layout v volume room list groups hs are registers is all_routed spelled few now after same_now m x.files.calls time call answer over

    within : u ≤ length list
    within = (mounts_stand layout v told are.can_be registers list is volume spelled few now after same_now m small).within

    begun_by : (k n number : ℕ) → k < u → IsOf list k n number → number ≤ length (calls_of now n)
    begun_by k n number below of = begun_by_then layout v told are.can_be registers list is few k n number of now after m small same_now below

    calls : CallList layout v told are.can_be registers list is volume spelled few now after same_now u within begun_by (λ k. k ≤ u) u (calls_up_to layout v now list u)
    calls = list_up_to layout v told are.can_be registers list is volume spelled few now after same_now u within begun_by

    upto_is : (at_time layout v told (suc time) m).upto ≡ u
    upto_is = ap (λ us. (lives layout v us m).mount.upto) next_is

    run : IsVirtualRun v d (map planned_of calls.stood) (tables_at list v u)
    run =
        planned_run v d (map planned_of calls.stood) (tables_at list v u)
        (every_map (λ (c : PlannedCall). IsCall c.call.call) planned_of calls.stood
        (every_more (Stands layout v list now) (λ (s : Stood). IsCall s.call.call) (λ s st. (named_spelled told s.mount s.call.number s.call.call spelled (named_told layout v told are.can_be registers list is volume spelled few now after same_now s st)).place) calls.stood calls.each))
        (in_turn layout v told are.can_be registers list is volume spelled few now after same_now u within begun_by calls.stood (tables_at list v 0) (tables_at list v u) calls.chain)

    done_is : done_of run.wents ≡ calls_up_to layout v now list u
    done_is = run.done ∙ map_twice (λ (c : PlannedCall). c.call.call) planned_of calls.stood ∙ calls.are

    well_done : done_of run.wents ≡ map (λ (w : Went). w.call.call) run.wents
    well_done = run.done ∙ ap (map (λ (c : PlannedCall). c.call.call)) (sym run.same) ∙ map_twice (λ (c : PlannedCall). c.call.call) _ run.wents

    size_is : length run.wents ≡ length calls.stood
    size_is = sym (map_size _ run.wents) ∙ ap (λ (cs : List PlannedCall). length cs) run.same ∙ map_size planned_of calls.stood

    as_goes : (s : Stood) (st : Stands layout v list now s) (came : List Exchange) (a : CallAnswer) → AsListed layout v told are.can_be registers list is volume spelled few now after same_now s st came a → GoesIn layout v volume room list groups hs are registers is all_routed spelled few now after same_now s st came a
    as_goes s (InPlace e) came a goes = goes
    as_goes s (Named of named_so end) came a goes = goes

    goes : (k : ℕ) (w : Went) → slice_get run.wents k ≡ Some w → (s : Stood) × (slice_get calls.stood k ≡ Some s) × (st : Stands layout v list now s) × GoesIn layout v volume room list groups hs are registers is all_routed spelled few now after same_now s st w.came w.answer
    goes k w at_k =
        let its =
        run_listed layout v told are.can_be registers list is volume spelled few now after same_now u within begun_by calls.stood run.wents (tables_at list v 0) (tables_at list v u) (tables_at list v u) calls.chain run.goes run.same
        (well run.wents well_done) calls.each k w at_k in
        (its.0, its.1, its.2, as_goes its.0 its.2 w.came w.answer its.3)

    abbrev its : List Exchange
    its = its_at layout v volume room list groups hs are registers is all_routed (suc time) m

    module _ (apart : (size : ℕ) (blocks : List ℕ) (block : ℕ) → at (tree_at layout v told are.can_be registers list is volume spelled few u) p ≡ Some (File size blocks) → Contains blocks block → CallsAreApart layout v now list u block m x.files.calls)
        (late : (n : ℕ) → n < 16 → (at_time layout v told l.began n).upto ≤ u) (plain : EndsPlain list v m call (layout_of layout).first u its answer) where
      result : IsRefusal answer ⊎ IsReadOf (tree_at layout v told are.can_be registers list is volume spelled few u) (contents_after (calls_up_to layout v now list u)) p offset count answer
      result = elim plain.how [ inl refused ↦ inl (refused.0, refused.1) | inr looked ↦ gives looked ]
        where
          tu : Tables
          tu = tables_at list v u

          tree : Tree
          tree = tree_at layout v told are.can_be registers list is volume spelled few u

          stand : TablesStandFor d (tables_at list v u) (tree_at layout v told are.can_be registers list is volume spelled few u)
          stand = stands_at layout v told are.can_be registers list is volume spelled few u within

          store : Stored
          store = stored_after all_zeros (exchanges_of run.wents)

          place : IsCall call.call
          place = subst IsCall (sym reads) tt

          last_is : length now ≡ suc time
          last_is = (let size = length-append before (t ∷ []) in omega (arith, size))

          one : (size : ℕ) (blocks : List ℕ) → at (tree_at layout v told are.can_be registers list is volume spelled few u) p ≡ Some (File size blocks) → (its_size : ℕ) → its_size ≡ size → (ask : Ask) → IsAskOfRead v (tables_at list v u) (found (tables_at list v u) p) offset (read_end its_size offset count) ask → IsDataAsk layout v volume room ask
              → (chunk first : ℕ) → chunk_of ask ≡ chunk → (span_of ask).first ≡ first → TellStoredAt chunk first (stored_after all_zeros (exchanges_of run.wents)) its
          one size blocks file its_size same_size ask is_read its_data chunk first here too =
              let b = block_at (tables_at list v u) (found (tables_at list v u) p) is_read.k in
              let of : IsOfPiece (is_data_piece layout v) (reads_block v b) = piece_of layout v volume room (reads_block v b) (subst (IsDataAsk layout v volume room) is_read.is its_data) in
              let first_of_it : 8 * of.0 ≡ 8 * b % v.sectors = sym (ap (λ (x : Span). x.first) of.2) in
              let high = is_read.high in
              let low_k : is_read.k < block_count size = omega (arith, high, same_size) in
              let f = file_there d (tables_at list v u) (tree_at layout v told are.can_be registers list is volume spelled few u) stand p size blocks file in
              let block_is = its_block d (tables_at list v u) (tree_at layout v told are.can_be registers list is volume spelled few u) stand p size blocks f is_read.k low_k in
              let long = blocks_length d (tables_at list v u) (tree_at layout v told are.can_be registers list is volume spelled few u) stand p size blocks f in
              let contains : Contains blocks b = subst (Contains blocks) block_is (Contains-get_or blocks is_read.k 0 (omega (arith, low_k, long))) in
              let stored =
              told_stored layout v volume room list groups hs are registers is all_routed spelled few now after same_now u within begun_by calls run.wents size_is goes run.tells m x.files.calls time call answer over last_is l.began l.begun l.order late b of.0 of.1 first_of_it (apart size blocks b file contains) in
              subst (λ n. TellStoredAt n first (stored_after all_zeros (exchanges_of run.wents)) its) (sym (ap chunk_of is_read.is) ∙ here)
              (subst (λ n. TellStoredAt (8 * b / v.sectors) n (stored_after all_zeros (exchanges_of run.wents)) its) (sym (ap (λ a. (span_of a).first) is_read.is) ∙ too) stored)

          gives : (IsLookedUp list m v (held_at list v (layout_of layout).first u) call plain.size × GoesSo v (tables_at list v u) (data_moves v (tables_at list v u) plain.size call.call) its answer) → IsRefusal answer ⊎ IsReadOf (tree_at layout v told are.can_be registers list is volume spelled few u) (contents_after (calls_up_to layout v now list u)) p offset count answer
          gives looked =
              let plan : planned m v d (tables_at list v u) call ≡ Goes (data_moves v (tables_at list v u) plain.size call.call) = ap (λ (of : Data). planned m v of (tables_at list v u) call) (sym (data_is layout v told are.can_be registers list is volume spelled few u within)) ∙ looked.0.plan in
              let asks : CallAsks v d m call (tables_at list v u) (tables_at list v u) its answer = LooksUp (data_moves v (tables_at list v u) plain.size call.call) its answer plan looked.1 in
              let fine = goes_so m v d (tables_at list v u) call (tree_at layout v told are.can_be registers list is volume spelled few u) stand place (data_moves v (tables_at list v u) plain.size call.call) plan in
              let none : refusal (tree_sight d (tree_at layout v told are.can_be registers list is volume spelled few u)) (Read p offset count) ≡ None = subst (λ c. refusal (tree_sight d (tree_at layout v told are.can_be registers list is volume spelled few u)) c ≡ None) reads fine.0 in
              let file = file_at d (tables_at list v u) (tree_at layout v told are.can_be registers list is volume spelled few u) stand p none in
              let goes_read : GoesSo v (tables_at list v u) (data_moves v (tables_at list v u) plain.size (Read p offset count)) its answer = subst (λ c. GoesSo v (tables_at list v u) (data_moves v (tables_at list v u) plain.size c) its answer) reads looked.1 in
              let size : plain.size ≡ file.0 = looked.0.size_is ∙ ap (size_in (tables_at list v u)) reads ∙ ap size_at (sym (stand.nodes p) ∙ file.2) in
              let asks_all = read_asks v (tables_at list v u) plain.size p offset count its answer goes_read in
              let within_told = slice_get_within told time t there in
              let all_data = came_data layout v volume room list groups hs are registers is all_routed (suc time) m small (omega (arith, within_told)) in
              let tells_its : TellStored (stored_after all_zeros (exchanges_of run.wents)) its =
              tell_all its (stored_after all_zeros (exchanges_of run.wents)) (λ chunk first. both_every _ _ _ (λ e is_read its_data here too. one file.0 file.1 file.2 plain.size size e.0 is_read its_data chunk first here too) its asks_all all_data) in
              let tells = tell_on (exchanges_of run.wents) its all_zeros run.tells tells_its in
              let some : 0 < v.sectors = (let e = volume.some_sectors in omega (arith, e)) in
              let kept = calls_go v some d run.wents (tables_at list v u) run.are_calls run.goes run.tells in
              elim (reads_go v some d run.wents (tables_at list v u) (tables_at list v u) run.are_calls run.goes m call p offset count its answer reads asks tells) [
                | inl refused ↦ inl refused
                | inr is_read ↦
                    let nodes : at (tree_of d (done_of run.wents)) p ≡ at (tree_at layout v told are.can_be registers list is volume spelled few u) p = kept.stands.nodes p ∙ sym (stand.nodes p) in
                    inr (subst (λ cs. IsReadOf (tree_at layout v told are.can_be registers list is volume spelled few u) (contents_after cs) p offset count answer) done_is
                    (is_read ∙ ap (λ n. BytesRead (bytes_between (contents_after (done_of run.wents)) p offset (read_end (size_at n) offset count))) nodes))
              ]

    -- the read is planned no lower than any mount stood as it began
    late_then : (n : ℕ) → n < 16 → (at_time layout v told l.began n).upto ≤ u
    late_then n low_n =
        let b = l.begun in
        let order = l.order in
        let start : MountTold = record { mount = m; input = Begins b.call } in
        let more = take_more told (suc l.began) (suc time) (omega (arith, order)) in
        let whole : take (suc time) told ≡ take l.began told ++ start ∷ more.0 = more.1 ∙ ap (λ us. us ++ more.0) (take_one_more told l.began start b.there) ∙ append_assoc (take l.began told) (start ∷ []) more.0 in
        let all : told ≡ take l.began told ++ start ∷ (more.0 ++ drop (suc time) told) =
        sym (take-append-drop (suc time) told) ∙ ap (λ us. us ++ drop (suc time) told) whole ∙ append_assoc (take l.began told) (start ∷ more.0) (drop (suc time) told) in
        let its_number = ended_number layout v volume room list groups hs are registers is all_routed spelled few now after same_now time m x.files.calls call answer over in
        let rests = over_rests layout v volume room list groups hs are registers is all_routed spelled few now after same_now time m x.files.calls call answer over its_number.1 in
        let work : (mount_at layout v (take l.began told ++ start ∷ more.0) m).task.work ≡ Rests = ap (λ us. (mount_at layout v us m).task.work) (sym whole) ∙ rests in
        let late = call_late layout v told are.can_be registers (take l.began told) more.0 (drop (suc time) told) m b.call all n low_n (subst IsPlannedWork (sym work) tt) in
        let at_end = ap (λ us. (mount_at layout v us m).upto) whole in
        let here = upto_is in
        omega (arith, late, at_end, here)

    pub read_gives : ((size : ℕ) (blocks : List ℕ) (block : ℕ) → at (tree_at layout v told are.can_be registers list is volume spelled few u) p ≡ Some (File size blocks) → Contains blocks block → CallsAreApart layout v now list u block m x.files.calls)
        → IsRefusal answer ⊎ IsReadOf (tree_at layout v told are.can_be registers list is volume spelled few u) (contents_after (calls_up_to layout v now list u)) p offset count answer
    read_gives apart = by (subst (λ k. Ends list v m call (layout_of layout).first k its answer) upto_is l.goes)
      where
        by : Ends list v m call (layout_of layout).first u its answer → IsRefusal answer ⊎ IsReadOf (tree_at layout v told are.can_be registers list is volume spelled few u) (contents_after (calls_up_to layout v now list u)) p offset count answer
        by (inl plain) = result apart late_then plain
        by (inr own) =
            let its_number = ended_number layout v volume room list groups hs are registers is all_routed spelled few now after same_now time m x.files.calls call answer over in
            let k = own.position in
            let below = slice_get_within list own.position own.own.value own.own.there in
            let plan = plan_of layout v told are.can_be registers list is volume spelled few own.position m call.number own.own call.call (ap (call_named told m) its_number.0 ∙ its_number.2) in
            let some_tree = proposes_so m v d (tables_at list v own.position) call (tree_at layout v told are.can_be registers list is volume spelled few own.position) (stands_at layout v told are.can_be registers list is volume spelled few own.position (omega (arith, below))) (subst IsCall (sym reads) tt) own.own.its.txn plan in
            absurd (none-some some_tree.1 (subst (λ c. changed d (tree_at layout v told are.can_be registers list is volume spelled few own.position) c ≡ Some some_tree.1) reads some_tree.2))

  pub reads_in_order : ReadsGiveContentsInOrder layout v list told
  reads_in_order before after m input call p offset count answer same ends was reads apart = read_gives before after m input call p offset count answer same ends was reads apart
