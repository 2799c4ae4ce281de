-- By induction over what was told: the file data of each mount's call have gone as planned at every moment, and so they are where it ends.
use Rattle.std.proofs.Common.{◌≡◌, ℕ, ◌<◌, ◌==◌, if◌then◌else◌, List, [], ◌∷◌, ◌++◌, length, take, Option, Some, None, slice_get, refl, sym, ap, subst, ◌∙◌, append-nil}
use Rattle.std.proofs.lemmas.Bool.{cond-true, eq-eqb, eqb-true}
use Rattle.std.proofs.lemmas.List.{append_assoc, take_at}
use Rattle.pf_base.specs.declared.asks.Ask.{Ask}
use Rattle.pf_entry.proofs.Cases.{by_test}
use Rattle.pf_volume.specs.Volumes.{Extent}
use Rattle.pf_file_calls.specs.declared.answers.CallAnswer.{CallAnswer}
use Rattle.pf_file_calls.specs.declared.calls.Pending.{Pending}
use Rattle.pf_law_plans.specs.Exchanges.{Exchange}
use Rattle.pf_law_plans.proofs.Lists.{at_front}
use Rattle.pf_tree_tables.specs.Tables.{Tables}
use Rattle.pf_journal.specs.declared.layouts.Layout.{Layout}
use Rattle.pf_journal.specs.Layouts.{layout_of}
use Rattle.pf_journal.specs.declared.layouts.Layout.TheVariants.{Plain, Three}
use Rattle.pf_mount_errands.specs.Errands.{errand_at}
use Rattle.pf_mount_errands.specs.Positions.{anchors_of}
use Rattle.pf_mount.specs.declared.work.MountNext.TheVariants.{Done}
use Rattle.pf_mount.specs.declared.work.MountWork.{MountWork}
use Rattle.pf_mount.specs.declared.work.MountWork.TheVariants.{Ballots, Fails, Moves, Pauses, ReadsSuper, Rests, Syncs, WritesSuper}
use Rattle.pf_mount.specs.Mounts.{MountIs, Worked, anchor_hands, asked_anchor, asked_data, data_answered, errand_answered, having_started, tables_held, mount_opening, stand_of, syncs, takes_work}
use Rattle.pf_tree.specs.Held.{Held}
use Rattle.pf_law_calls.specs.Doings.{HaveRegisters, IsListOf}
use Rattle.pf_law_calls.specs.Lives.{Asks, Begins, CanBe, CanComeFrom, CanTake, Hears, Input, Life, MountTold, all_opened, decided_by, decided_in, lived, lives, lives_from, lives_on as goes, mount_after, tables_from, with_value}
use Rattle.pf_law_calls.proofs.Journals.{is_lived}
use Rattle.pf_law_calls.proofs.Lists.{at_end}
use Rattle.pf_law_calls.proofs.CallNumbers.{its_calls}
use Rattle.pf_law_calls.proofs.Parts.{can_after, can_until, lives_on}
use Rattle.pf_law_calls.proofs.TablesByList.{begins, stands_behind}
use Rattle.pf_law_calls.specs.Answering.{next_by}
use Rattle.pf_law_calls.specs.Exchanges.{exchange, pends_after, pends_in, pends_with}
use Rattle.pf_law_calls.specs.Going.{EndsBy, EndsIn, GoOnSo, GoesAt, HasEndedSo, HaveGoneSoFar, held_at}
use Rattle.pf_law_calls.specs.Since.{called, exchanges_since, pends, pends_from, since_after, since_from, since_in}
use Rattle.pf_law_calls.proofs.DataSteps.{Leads, data_to, errand_to, none_yet, syncs_to}

-- Inputs

module _ (list : List (List ℕ)) where
  taken : (its : List Exchange) (last : Option Ask) (x : MountIs) (w : Worked) → Leads list x.files.mount x.files.volume its last x.task x.files.first x.files.pending w
      → GoOnSo list its last x.files.pending (takes_work x w).mount (takes_work x w).next
  taken its last x w leads = record { far = leads.far; ends = leads.ends }

  -- what is next is put, if anything is
  hands_out : (m : ℕ) (v : Extent) (its : List Exchange) (last next : Option Ask) (upto : ℕ) (h : Held) (q : Option Pending) (work : MountWork) → GoesAt list m v its last next upto h q work → GoesAt list m v its (pends_with last next) None upto h q work
  hands_out m v its last (Some ask) upto h (Some p) (Moves moving) far = (far.0, ap Some far.1.1, far.2)
  hands_out m v its last None upto h (Some p) (Moves moving) far = far
  hands_out m v its last next upto h None (Moves moving) far = absurd far
  hands_out m v its last next upto h q Rests far = (ap (pends_with last) far.1 ∙ far.0, refl, far.2)
  hands_out m v its last next upto h q Fails far = (ap (pends_with last) far.1 ∙ far.0, refl, far.2)
  hands_out m v its last next upto h q ReadsSuper far = (ap (pends_with last) far.1 ∙ far.0, refl, far.2)
  hands_out m v its last next upto h q WritesSuper far = (ap (pends_with last) far.1 ∙ far.0, refl, far.2)
  hands_out m v its last next upto h q (Syncs looks) far = (ap (pends_with last) far.1 ∙ far.0, refl, far.2)
  hands_out m v its last next upto h q (Ballots input) far = (ap (pends_with last) far.1 ∙ far.0, refl, far.2)
  hands_out m v its last next upto h q (Pauses input left) far = (ap (pends_with last) far.1 ∙ far.0, refl, far.2)

  pub input_goes : (its : List Exchange) (last : Option Ask) (x : MountIs) (input : Input) → CanTake x input → x.files.tables ≡ tables_from x.files.volume (take x.upto list) → ((value : List ℕ) → decided_by x input ≡ Some value → slice_get list x.upto ≡ Some value) → HaveGoneSoFar list its last x
      → GoOnSo list (since_after x last its input) (pends_after x last input) (called x input) (mount_after x input) (next_by x input)
  input_goes its last x (Begins call) can stood decides far =
      let n : MountIs = having_started x call in
      let none = none_yet list x.files.mount x.files.volume its last x.task x (tables_held x.files) x.files.pending x.upto far Rests can tt in
      taken [] last n (record { step = syncs (stand_of n) (tables_held n.files) n.files.pending; tables = n.files.tables })
      (syncs_to list n.files.mount n.files.volume [] last n.task n n.upto n.position n.errands (tables_held n.files) n.files.pending (none.0, refl, refl))
  input_goes its last x (Asks port) can stood decides far =
      by_test (port == anchors_of x.position) (λ b. GoOnSo list its (if b then pends_with last (if b then x.task.ask else (anchor_hands (stand_of x) x.task.work port).ask) else last) x.files.pending (if b then asked_data x else asked_anchor x port) None)
      (λ _. record { far = hands_out x.files.mount x.files.volume its last x.task.ask x.upto (tables_held x.files) x.files.pending x.task.work far; ends = tt })
      (λ _. record { far = far; ends = tt })
  input_goes its last x (Hears port reply) can stood decides far =
      let h = tables_held x.files in
      let q = x.files.pending in
      by_test (port == anchors_of x.position)
      (λ b.
      ((value : List ℕ) → (if b then None else decided_in (errand_at x.errands port) reply x.task.work x.position.ballot port) ≡ Some value → slice_get list x.upto ≡ Some value)
      → GoOnSo list (its ++ (if b then exchange last reply else [])) (if b then None else last) q
      (takes_work x (if b then record { step = data_answered (stand_of x) h x.task.work reply; tables = h.tables } else errand_answered (errand_at x.errands port) (stand_of x) h q x.task.work port reply)).mount
      (takes_work x (if b then record { step = data_answered (stand_of x) h x.task.work reply; tables = h.tables } else errand_answered (errand_at x.errands port) (stand_of x) h q x.task.work port reply)).next)
      (λ is _.
      taken (its ++ exchange last reply) None x (record { step = data_answered (stand_of x) h x.task.work reply; tables = h.tables })
      (data_to list x.files.mount x.files.volume its last x.task x x.upto x.position x.errands h q x.task.work x.task.ask reply (can.data_port (eqb-true port (anchors_of x.position) is)) far))
      (λ _ decides_here.
      let w : Worked = errand_answered (errand_at x.errands port) (stand_of x) h q x.task.work port reply in
      subst (λ all. GoOnSo list all last q (takes_work x w).mount (takes_work x w).next) (sym (append-nil its))
      (taken its last x w
      (errand_to list x.files.mount x.files.volume its last x.task x h q x.upto far stood x.position x.errands port x.task.work (errand_at x.errands port) reply refl decides_here)))
      decides

  new_far : (layout : Layout) (v : Extent) (m : ℕ) → HaveGoneSoFar list [] None (mount_opening layout m v)
  new_far Plain v m = (refl, refl, tt)
  new_far Three v m = (refl, refl, tt)

-- What was told in two parts

pub pends_on : (ls : ℕ → Life) (m : ℕ) (last : Option Ask) (xs ys : List MountTold) → pends_from ls m last (xs ++ ys) ≡ pends_from (lives_from ls xs) m (pends_from ls m last xs) ys
pends_on ls m last [] ys = refl
pends_on ls m last (t ∷ xs) ys = pends_on (lived ls t) m (pends_in m (ls m).mount last t) xs ys

pub since_on : (ls : ℕ → Life) (m : ℕ) (last : Option Ask) (its : List Exchange) (xs ys : List MountTold) → since_from ls m last its (xs ++ ys) ≡ since_from (lives_from ls xs) m (pends_from ls m last xs) (since_from ls m last its xs) ys
since_on ls m last its [] ys = refl
since_on ls m last its (t ∷ xs) ys = since_on (lived ls t) m (pends_in m (ls m).mount last t) (since_in m (ls m).mount last its t) xs ys

-- Lives

module _ (layout : Layout) (v : Extent) (told : List MountTold) (can : CanBe layout v told) (registers : HaveRegisters layout v told) (list : List (List ℕ)) (is : IsListOf layout v told list) (m : ℕ) where
  abbrev its_in : List MountTold → List Exchange
  its_in before = exchanges_since layout v before m

  abbrev last_in : List MountTold → Option Ask
  last_in before = pends layout v before m

  abbrev Far : List MountTold → Type 0
  Far before = HaveGoneSoFar list (its_in before) (last_in before) (lives layout v before m).mount

  -- its tables are those below its position
  tables_below : (before after : List MountTold) → told ≡ before ++ after → m < 16 → (let x = (lives layout v before m).mount in x.files.tables ≡ tables_from v (take x.upto list))
  tables_below before after same low =
      let l = lives layout v before m in
      let front = begins layout v told can registers list is before after same m low in
      let behind = stands_behind layout v told can registers list is before after same m low in
      let first : take l.mount.upto list ≡ l.decided = ap (take l.mount.upto) (sym front.1) ∙ take_at l.decided front.0 l.mount.upto (sym behind) in
      (is_lived layout v before m (can_until (all_opened layout v) before after (subst (CanBe layout v) same can)) low).tables ∙ ap (tables_from v) (sym first)

  -- an input of the mount
  module _ (before after : List MountTold) (input : Input) (same : told ≡ before ++ record { mount = m; input = input } ∷ after) where
    abbrev t : MountTold
    t = record { mount = m; input = input }

    abbrev now : List MountTold
    now = before ++ t ∷ []

    abbrev l : Life
    l = lives layout v before m

    abbrev x : MountIs
    x = l.mount

    now_same : told ≡ now ++ after
    now_same = same ∙ sym (append_assoc before (t ∷ []) after)

    rest : CanComeFrom (lives layout v before) (t ∷ after)
    rest = can_after (all_opened layout v) before (t ∷ after) (subst (CanBe layout v) same can)

    low : m < 16
    low = rest.0.number

    its_life : lives layout v now m ≡ goes l input
    its_life = ap (λ (ls : ℕ → Life). ls m) (lives_on (all_opened layout v) before (t ∷ [])) ∙ cond-true (m == m) (goes l input) l (eq-eqb m m refl)

    behind : x.upto ≡ length l.decided
    behind = stands_behind layout v told can registers list is before (t ∷ after) same m low

    -- what its ballot decides is in the list
    decides_in_list : (value : List ℕ) → decided_by x input ≡ Some value → slice_get list x.upto ≡ Some value
    decides_in_list value decides =
        let front = begins layout v told can registers list is now after now_same m low in
        let all : (lives layout v now m).decided ≡ l.decided ++ value ∷ [] = ap (λ (y : Life). y.decided) its_life ∙ ap (with_value l.decided) decides in
        let there : slice_get (lives layout v now m).decided (length l.decided) ≡ Some value = subst (λ values. slice_get values (length l.decided) ≡ Some value) (sym all) (at_end l.decided value) in
        let in_list : slice_get list (length l.decided) ≡ Some value =
        subst (λ values. slice_get values (length l.decided) ≡ Some value) front.1 (at_front (lives layout v now m).decided front.0 (length l.decided) value there) in
        subst (λ n. slice_get list n ≡ Some value) (sym behind) in_list

    stood : x.files.tables ≡ tables_from x.files.volume (take x.upto list)
    stood = tables_below before (t ∷ after) same low ∙ ap (λ w. tables_from w (take x.upto list)) (sym (its_calls layout v m before).volume)

    goes_here : Far before → GoOnSo list (since_after x (last_in before) (its_in before) input) (pends_after x (last_in before) input) (called x input) (mount_after x input) (next_by x input)
    goes_here far = input_goes list (its_in before) (last_in before) x input rest.0.takes stood decides_in_list far

  told_far : (before : List MountTold) (t : MountTold) (after : List MountTold) → told ≡ before ++ t ∷ after → Far before → Far (before ++ t ∷ [])
  told_far before t after same far =
      let l = lives layout v before m in
      let last = last_in before in
      let its = its_in before in
      let here : HaveGoneSoFar list (since_in m l.mount last its t) (pends_in m l.mount last t) (lived (lives layout v before) t m).mount =
      by_test (m == t.mount)
      (λ b. HaveGoneSoFar list (if b then since_after l.mount last its t.input else its) (if b then pends_after l.mount last t.input else last) (if b then goes l t.input else l).mount)
      (λ own. (goes_here before after t.input (subst (λ k. told ≡ before ++ record { mount = k; input = t.input } ∷ after) (sym (eqb-true m t.mount own)) same) far).far)
      (λ _. far) in
      subst (λ all. HaveGoneSoFar list all (last_in (before ++ t ∷ [])) (lives layout v (before ++ t ∷ []) m).mount) (sym (since_on (all_opened layout v) m None [] before (t ∷ [])))
      (subst (λ ask. HaveGoneSoFar list (since_in m l.mount last its t) ask (lives layout v (before ++ t ∷ []) m).mount) (sym (pends_on (all_opened layout v) m None before (t ∷ [])))
      (subst (λ (ls : ℕ → Life). HaveGoneSoFar list (since_in m l.mount last its t) (pends_in m l.mount last t) (ls m).mount) (sym (lives_on (all_opened layout v) before (t ∷ []))) here))

  all_far : (more before after : List MountTold) → told ≡ before ++ (more ++ after) → Far before → Far (before ++ more)
  all_far [] before after same far = subst Far (sym (append-nil before)) far
  all_far (t ∷ more) before after same far =
      subst Far (append_assoc before (t ∷ []) more)
      (all_far more (before ++ t ∷ []) after (same ∙ sym (append_assoc before (t ∷ []) (more ++ after))) (told_far before t (more ++ after) same far))

  pub far_before : (before after : List MountTold) → told ≡ before ++ after → Far before
  far_before before after same = all_far before [] after same (new_far list layout v m)

  -- Where a call ends

  ended_so : (first upto : ℕ) (its : List Exchange) (answer : CallAnswer) (q : Option Pending) → EndsIn list m v its upto (held_at list v first upto) q answer → HasEndedSo list m v first upto its q answer
  ended_so first upto its answer None ends = absurd ends
  ended_so first upto its answer (Some p) ends = record { call = p; was = refl; is = ends }

  pub data_ended : (before after : List MountTold) (input : Input) (answer : CallAnswer) → told ≡ before ++ record { mount = m; input = input } ∷ after → next_by (lives layout v before m).mount input ≡ Some (Done answer)
      → (let now = before ++ record { mount = m; input = input } ∷ [] in HasEndedSo list m v (layout_of layout).first (lives layout v now m).mount.upto (exchanges_since layout v now m) (called (lives layout v before m).mount input) answer)
  data_ended before after input answer same ends =
      let t : MountTold = record { mount = m; input = input } in
      let now : List MountTold = before ++ t ∷ [] in
      let x = (lives layout v before m).mount in
      let y = mount_after x input in
      let z = (lives layout v now m).mount in
      let its = exchanges_since layout v now m in
      let came = since_after x (last_in before) (its_in before) input in
      let q = called x input in
      let on = goes_here before after input same (far_before before (t ∷ after) same) in
      let all : its ≡ came = since_on (all_opened layout v) m None [] before (t ∷ []) ∙ cond-true (m == m) came (its_in before) (eq-eqb m m refl) in
      let there : EndsIn list y.files.mount y.files.volume came y.upto (tables_held y.files) q answer =
      subst (λ next. EndsBy list y.files.mount y.files.volume came y.upto (tables_held y.files) q next) ends on.ends in
      let here : EndsIn list z.files.mount z.files.volume its z.upto (tables_held z.files) q answer =
      subst (λ (l : Life). EndsIn list l.mount.files.mount l.mount.files.volume its l.mount.upto (tables_held l.mount.files) q answer) (sym (its_life before after input same))
      (subst (λ es. EndsIn list y.files.mount y.files.volume es y.upto (tables_held y.files) q answer) (sym all) there) in
      let named = its_calls layout v m now in
      let first = (layout_of layout).first in
      let with_first : ℕ → Held = λ k. record { first = k; tables = z.files.tables } in
      let with_tables : Tables → Held = λ tables. record { first = first; tables = tables } in
      let held : tables_held z.files ≡ held_at list v first z.upto = ap with_first named.first ∙ ap with_tables (tables_below now after (now_same before after input same) (low before after input same)) in
      ended_so first z.upto its answer q
      (subst (λ h. EndsIn list m v its z.upto h q answer) held
      (subst (λ w. EndsIn list m w its z.upto (tables_held z.files) q answer) named.volume (subst (λ k. EndsIn list k z.files.volume its z.upto (tables_held z.files) q answer) named.number here)))
