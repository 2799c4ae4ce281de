-- What a read gives that a run tells as answered, where calls are one at a time, or those that touch its blocks.
use Rattle.std.proofs.Common.{◌≡◌, ◌⊎◌, ℕ, suc, List, [], ◌∷◌, ◌++◌, length, Option, Some, None, arith, refl, sym, ap, subst, ◌∙◌, append-nil, length-append}
use Rattle.std.specs.List.{cons_option}
use Rattle.std.specs.Option.{option_to_list}
use Rattle.std.proofs.lemmas.List.Sums.{fold-append}
use Rattle.std.proofs.lemmas.Option.{same_Some}
use Rattle.pf_volume.specs.Volumes.{Extent, IsVolume}
use Rattle.pf_tree_tables.specs.Names.{Path}
use Rattle.pf_tree.specs.Trees.{Data, Tree, new_tree}
use Rattle.pf_tree.specs.Calls.{FileCall}
use Rattle.pf_base.specs.declared.calls.Call.TheVariants.{Read}
use Rattle.pf_file_calls.specs.declared.answers.CallAnswer.{CallAnswer}
use Rattle.pf_file_calls.specs.declared.answers.CallAnswer.TheVariants as answers
use Rattle.pf_file_calls.specs.declared.calls.Pending.{Pending}
use Rattle.pf_law_plans.specs.Numbered.{call_numbered, tree_with}
use Rattle.pf_law_contents.specs.Contents.{Contents, contents_after, contents_with, no_contents}
use Rattle.pf_law_contents.specs.Going.{IsReadOf, IsRefusal, call_done, tree_of}
use Rattle.pf_journal.specs.declared.layouts.Layout.{Layout}
use Rattle.pf_journal.specs.Layouts.{VolumeHasRoom}
use Rattle.pf_law_homes.specs.Chunks.{ChunkGroups}
use Rattle.pf_law_homes.specs.Routed.{AreRoutedChunks}
use Rattle.pf_mount.specs.declared.work.MountNext.{MountNext}
use Rattle.pf_mount.specs.declared.work.MountNext.TheVariants.{Done}
use Rattle.pf_law_calls.specs.Doings.{HaveRegisters, IsListOf}
use Rattle.pf_law_calls.specs.Lives.{Asks, Begins, CanBe, CanComeFrom, Hears, Input, Life, MountTold, all_opened, lived, lives}
use Rattle.pf_law_calls.specs.Spelled.{CanAllBeSpelled}
use Rattle.pf_law_calls.specs.Trees.{AreFewCalls, call_in_input, call_named, calls_of, data_blocks}
use Rattle.pf_law_calls.proofs.Lists.{at_end}
use Rattle.pf_law_calls.proofs.CallNumbers.{IsLastOf, OfPending, calls_on, its_calls}
use Rattle.pf_law_calls.specs.Answering.{next_by}
use Rattle.pf_law_calls.specs.Since.{called}
use Rattle.pf_law_calls.proofs.DataByMoment.{data_ended}
use Rattle.pf_law_events.specs.Events.{MountsAreServed, Happening, port_events, mounts_told}
use Rattle.pf_law_movers.proofs.Lives.{its_own}
use Rattle.pf_law_files.specs.Calls.{AreOfOneMount, AreOneAtATime, GivesContents, done_by, done_calls}
use Rattle.pf_law_files.specs.Ordered.{GivesContentsInOrder, ReadsGiveContentsInOrder}
use Rattle.pf_law_files.proofs.Alone.{one_mount}
use Rattle.pf_law_files.proofs.MomentCounts.{done_more}
use Rattle.pf_law_files.proofs.OneByOne.{went_one_by_one}
use Rattle.pf_law_files.proofs.SerialReads.{reads_contents}

-- The last call

numbered_end : (calls : List FileCall) (call : FileCall) → call_numbered (calls ++ call ∷ []) (length (calls ++ call ∷ [])) ≡ Some call
numbered_end calls call =
    let more = length-append calls (call ∷ []) in
    let count : length (calls ++ call ∷ []) ≡ suc (length calls) = omega (arith, more) in
    ap (call_numbered (calls ++ call ∷ [])) count ∙ at_end calls call

begun_here : (m : ℕ) (input : Input) → calls_of (record { mount = m; input = input } ∷ []) m ≡ cons_option (call_in_input input) []
begun_here m input = ap (λ (o : Option FileCall). cons_option o []) (its_own m m (call_in_input input) None refl)

-- it is the one that is pending as an input comes, and has the count of the mount's calls behind it
call_last : (layout : Layout) (v : Extent) (first : List MountTold) (m : ℕ) (input : Input) (call : Pending) → called (lives layout v first m).mount input ≡ Some call
    → (let now = first ++ record { mount = m; input = input } ∷ [] in call_named now m (lives layout v now m).mount.files.calls ≡ Some call.call)
call_last layout v first m input call is =
    let t : MountTold = record { mount = m; input = input } in
    let now = first ++ t ∷ [] in
    let all : calls_of now m ≡ calls_of first m ++ cons_option (call_in_input input) [] = calls_on first (t ∷ []) m ∙ ap (λ more. calls_of first m ++ more) (begun_here m input) in
    ap (call_named now m) (its_calls layout v m now).count ∙ ap (λ calls. call_numbered calls (length calls)) all ∙ by input is
  where
    last_pending : (lives layout v first m).mount.files.pending ≡ Some call → call_numbered (calls_of first m ++ []) (length (calls_of first m ++ [])) ≡ Some call.call
    last_pending is =
        let its : IsLastOf (calls_of first m) call = subst (OfPending (IsLastOf (calls_of first m))) is (its_calls layout v m first).call in
        ap (λ calls. call_numbered calls (length calls)) (append-nil (calls_of first m)) ∙ ap (call_numbered (calls_of first m)) (sym its.last) ∙ its.named

    by : (input : Input) → called (lives layout v first m).mount input ≡ Some call
        → (let calls = calls_of first m ++ cons_option (call_in_input input) [] in call_numbered calls (length calls) ≡ Some call.call)
    by (Begins begun) is = numbered_end (calls_of first m) begun ∙ ap Some (ap (λ (p : Pending). p.call) (same_Some _ call is))
    by (Asks port) is = last_pending is
    by (Hears port reply) is = last_pending is

-- A read leaves tree and contents as they are

read_over : (d : Data) (done : List FileCall) (p : Path) (offset count : ℕ) (answer : CallAnswer) → GivesContents d done p offset count answer
    → GivesContents d (done ++ option_to_list (call_done (Read p offset count) answer)) p offset count answer
read_over d done p offset count answer gives = by answer gives
  where
    behind : (answer : CallAnswer) → GivesContents d done p offset count answer → GivesContents d (done ++ Read p offset count ∷ []) p offset count answer
    behind answer gives =
        let tree : tree_of d (done ++ Read p offset count ∷ []) ≡ tree_of d done = fold-append (λ tree call. tree_with d tree (Some call)) new_tree done (Read p offset count ∷ []) in
        let bytes : contents_after (done ++ Read p offset count ∷ []) ≡ contents_after done = fold-append (λ c call. contents_with call c) no_contents done (Read p offset count ∷ []) in
        subst (λ (its : Tree). IsRefusal answer ⊎ IsReadOf its (contents_after (done ++ Read p offset count ∷ [])) p offset count answer) (sym tree)
        (subst (λ (c : Contents). IsRefusal answer ⊎ IsReadOf (tree_of d done) c p offset count answer) (sym bytes) gives)

    by : (answer : CallAnswer) → GivesContents d done p offset count answer → GivesContents d (done ++ option_to_list (call_done (Read p offset count) answer)) p offset count answer
    by (answers.Refused fault) gives = subst (λ calls. GivesContents d calls p offset count (answers.Refused fault)) (sym (append-nil done)) gives
    by answers.Fine gives = behind answers.Fine gives
    by (answers.Bytes bytes) gives = behind (answers.Bytes bytes) gives
    by answers.Directory gives = behind answers.Directory gives
    by (answers.File size) gives = behind (answers.File size) gives
    by (answers.Names names) gives = behind (answers.Names names) gives

-- Where an answer was told, an input came last with which the call ended so

pub read_told : (layout : Layout) (v : Extent) (hs : List Happening) (list : List (List ℕ)) (groups : (chunk : ℕ) → ChunkGroups) → IsVolume v → VolumeHasRoom layout v → MountsAreServed layout v hs
    → HaveRegisters layout v (mounts_told hs) → IsListOf layout v (mounts_told hs) list → CanAllBeSpelled (mounts_told hs) → AreFewCalls (mounts_told hs) → AreRoutedChunks v groups (port_events layout v hs)
    → (first after : List MountTold) (m : ℕ) (input : Input) (answer : CallAnswer) → mounts_told hs ≡ first ++ record { mount = m; input = input } ∷ after → next_by (lives layout v first m).mount input ≡ Some (Done answer)
    → (p : Path) (offset count : ℕ) (before : List MountTold) → before ≡ first ++ record { mount = m; input = input } ∷ []
    → call_named before m (lives layout v before m).mount.files.calls ≡ Some (Read p offset count) → AreOneAtATime layout v before
    → GivesContents (data_blocks layout v) (done_calls layout v before) p offset count answer
read_told layout v hs list groups volume room are registers is spelled few routed first after m input answer same ends p offset count before last named ones =
    let t : MountTold = record { mount = m; input = input } in
    let now = first ++ t ∷ [] in
    let d = data_blocks layout v in
    let x = (lives layout v first m).mount in
    let ones_now = subst (AreOneAtATime layout v) last ones in
    let goes = went_one_by_one layout v (mounts_told hs) are.can_be registers list is volume spelled few in
    let went = goes first after m input answer same ends ones_now in
    let call = went.call in
    let its : call_named now m (lives layout v now m).mount.files.calls ≡ Some (Read p offset count) = subst (λ told. call_named told m (lives layout v told m).mount.files.calls ≡ Some (Read p offset count)) last named in
    let reads : call.call ≡ Read p offset count = same_Some call.call (Read p offset count) (sym (call_last layout v first m input call went.was) ∙ its) in
    let gives = reads_contents layout v hs list groups volume room are registers is routed goes first after m input call p offset count answer same ends went.was reads ones_now in
    let done : done_calls layout v before ≡ done_calls layout v first ++ option_to_list (call_done (Read p offset count) answer) =
    ap (done_calls layout v) last ∙ done_more layout v first t
    ∙ ap (λ (q : Option Pending). done_calls layout v first ++ option_to_list (done_by q (next_by x input))) went.was
    ∙ ap (λ (next : Option MountNext). done_calls layout v first ++ option_to_list (done_by (Some call) next)) ends
    ∙ ap (λ its. done_calls layout v first ++ option_to_list (call_done its answer)) reads in
    subst (λ calls. GivesContents d calls p offset count answer) (sym done) (read_over d (done_calls layout v first) p offset count answer gives)

-- And where calls go beside each other

-- the call that ended so has the count of the mount's calls
pub call_then : (layout : Layout) (v : Extent) (told : List MountTold) → CanBe layout v told → HaveRegisters layout v told → (list : List (List ℕ)) → IsListOf layout v told list
    → (first after : List MountTold) (m : ℕ) (input : Input) (answer : CallAnswer) → told ≡ first ++ record { mount = m; input = input } ∷ after → next_by (lives layout v first m).mount input ≡ Some (Done answer)
    → (let now = first ++ record { mount = m; input = input } ∷ [] in
    (call : Pending) × (called (lives layout v first m).mount input ≡ Some call) × (call_named now m (lives layout v now m).mount.files.calls ≡ Some call.call))
call_then layout v told can registers list is first after m input answer same ends =
    let ended = data_ended layout v told can registers list is m first after input answer same ends in
    (ended.call, ended.was, call_last layout v first m input ended.call ended.was)

pub read_in_order : (layout : Layout) (v : Extent) (told : List MountTold) → CanBe layout v told → HaveRegisters layout v told → (list : List (List ℕ)) → IsListOf layout v told list → ReadsGiveContentsInOrder layout v list told
    → (first after : List MountTold) (m : ℕ) (input : Input) (answer : CallAnswer) → told ≡ first ++ record { mount = m; input = input } ∷ after → next_by (lives layout v first m).mount input ≡ Some (Done answer)
    → (p : Path) (offset count : ℕ) (before : List MountTold) → before ≡ first ++ record { mount = m; input = input } ∷ []
    → call_named before m (lives layout v before m).mount.files.calls ≡ Some (Read p offset count)
    → GivesContentsInOrder layout v list told before m p offset count answer
read_in_order layout v told can registers list is gives first after m input answer same ends p offset count before last named =
    let t : MountTold = record { mount = m; input = input } in
    let ended = call_then layout v told can registers list is first after m input answer same ends in
    let its = subst (λ now. call_named now m (lives layout v now m).mount.files.calls ≡ Some (Read p offset count)) last named in
    let reads : ended.0.call ≡ Read p offset count = same_Some ended.0.call (Read p offset count) (sym ended.2 ∙ its) in
    subst (λ now. GivesContentsInOrder layout v list told now m p offset count answer) (sym last) (gives first after m input ended.0 p offset count answer same ends ended.1 reads)

-- What came first can be, where all can

first_can : (ls : ℕ → Life) (first more : List MountTold) → CanComeFrom ls (first ++ more) → CanComeFrom ls first
first_can ls [] more can = tt
first_can ls (t ∷ first) more can = (can.0, first_can (lived ls t) first more can.1)

pub alone_through : (layout : Layout) (v : Extent) (first more : List MountTold) (m : ℕ) → CanBe layout v (first ++ more) → AreOfOneMount first m → AreOneAtATime layout v first
alone_through layout v first more m can one = one_mount layout v first m (first_can (all_opened layout v) first more can) one
