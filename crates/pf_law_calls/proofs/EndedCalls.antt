-- The call that ends with an input of its mount is the mount's last one, and it ends as it was planned.
use Rattle.std.proofs.Common.{◌≡◌, ℕ, suc, ◌<◌, ◌==◌, if◌then◌else◌, List, [], ◌∷◌, ◌++◌, length, Option, Some, None, slice_get, refl, sym, ap, subst, ◌∙◌, append-nil}
use Rattle.std.specs.List.{cons_option}
use Rattle.std.proofs.lemmas.Bool.{cond-true, eq-eqb, eqb-true}
use Rattle.std.proofs.lemmas.List.{append_assoc}
use Rattle.std.proofs.lemmas.Option.{none-some}
use Rattle.pf_base.specs.declared.asks.Ask.{Ask}
use Rattle.pf_entry.proofs.Cases.{by_test}
use Rattle.pf_volume.specs.Volumes.{Extent}
use Rattle.pf_tree.specs.Calls.{FileCall}
use Rattle.pf_file_calls.specs.declared.answers.CallAnswer.{CallAnswer}
use Rattle.pf_file_calls.specs.declared.calls.Pending.{Pending}
use Rattle.pf_journal.specs.declared.layouts.Layout.{Layout}
use Rattle.pf_journal.specs.declared.layouts.Layout.TheVariants.{Plain, Three}
use Rattle.pf_mount_errands.specs.Errands.{errand_at}
use Rattle.pf_mount_errands.specs.Positions.{anchors_of}
use Rattle.pf_mount.specs.declared.work.MountNext.{MountNext}
use Rattle.pf_mount.specs.declared.work.MountNext.TheVariants.{Done}
use Rattle.pf_mount.specs.declared.work.MountWork.{MountWork}
use Rattle.pf_mount.specs.declared.work.MountWork.TheVariants.{Moves}
use Rattle.pf_mount.specs.Mounts.{MountIs, Worked, anchor_hands, asked_anchor, asked_data, data_answered, errand_answered, having_started, tables_held, mount_opening, stand_of, syncs, takes_work}
use Rattle.pf_law_calls.specs.Doings.{HaveRegisters, IsListOf}
use Rattle.pf_law_calls.specs.Lives.{Asks, Begins, CanBe, CanComeFrom, CanTake, Hears, Input, Life, MountTold, all_opened, decided_by, decided_in, lived, lives, lives_from, lives_on as goes, mount_after, with_value}
use Rattle.pf_law_calls.proofs.Layouts.{mounts_lie}
use Rattle.pf_law_calls.specs.Trees.{call_named, calls_of}
use Rattle.pf_law_plans.proofs.Lists.{at_front}
use Rattle.pf_law_calls.proofs.Lists.{at_end}
use Rattle.pf_law_calls.proofs.CallNumbers.{IsLastOf, OfPending, calls_on, its_calls, named_on}
use Rattle.pf_law_calls.proofs.Parts.{can_after, lives_on}
use Rattle.pf_law_calls.proofs.TablesByList.{begins, stands_behind}
use Rattle.pf_law_calls.specs.Answering.{next_by}
use Rattle.pf_law_plans.specs.Exchanges.{Exchange}
use Rattle.pf_law_calls.specs.Exchanges.{exchange, exchanged, exchanged_in, exchanges, exchanges_from, pends_after, pends_in, pends_with}
use Rattle.pf_law_calls.proofs.CallEnds.{EndsBy, EndsIn, FitsAsk, IsEnd, Leads, Underway, data_to, errand_to, syncs_to}

-- Inputs

-- the call that is pending as the input comes
abbrev called : MountIs → Input → Option Pending
called x (Begins call) = Some (record { number = suc x.files.calls; call = call })
called x (Asks port) = x.files.pending
called x (Hears port reply) = x.files.pending

module _ (layout : Layout) (Is : ℕ → List ℕ → Type 0) where
  -- of a mount to which this came, with this ask pending at its port for file data
  record HasCome (came : List Exchange) (last : Option Ask) (x : MountIs) : Type 0 where
    asks : FitsAsk x.files.volume x.files.tables last x.task.work x.task.ask
    under : Underway layout Is x.files.mount x.files.volume came x.upto (tables_held x.files) x.files.pending x.task.work

  -- after an input of a mount with this call
  record Comes (came : List Exchange) (last : Option Ask) (q : Option Pending) (x : MountIs) (next : Option MountNext) : Type 0 where
    come : HasCome came last x
    ends : EndsBy layout Is x.files.mount x.files.volume came x.upto (tables_held x.files) q next

  taken : (came : List Exchange) (last : Option Ask) (x : MountIs) (w : Worked) → Leads layout Is x.files.mount x.files.volume came last x.task x.files.first x.files.pending w
      → Comes came last x.files.pending (takes_work x w).mount (takes_work x w).next
  taken came last x w leads = record { come = record { asks = leads.asks; under = leads.under }; ends = leads.ends }

  hands_out : (v : Extent) (x : MountIs) (last : Option Ask) (work : MountWork) (next : Option Ask) → FitsAsk v x.files.tables last work next → FitsAsk v x.files.tables (pends_with last next) work None
  hands_out v x last (Moves moving) None fits = fits
  hands_out v x last (Moves moving) (Some ask) fits = (ask, refl, fits)
  hands_out v x last work next fits = tt

  input_comes : (came : List Exchange) (last : Option Ask) (x : MountIs) (lie : x.position.layout ≡ layout) (input : Input) → HasCome came last x → CanTake x input → ((value : List ℕ) → decided_by x input ≡ Some value → Is x.upto value)
      → Comes (came ++ exchanged x last input) (pends_after x last input) (called x input) (mount_after x input) (next_by x input)
  input_comes came last x lie (Begins call) come can decides =
      let n : MountIs = having_started x call in
      subst (λ all. Comes all last (called x (Begins call)) (mount_after x (Begins call)) (next_by x (Begins call))) (sym (append-nil came))
      (taken came last n (record { step = syncs (stand_of n) (tables_held n.files) n.files.pending; tables = n.files.tables })
      (syncs_to layout Is n.files.mount n.files.volume came last n.task n n.upto n.position lie n.errands (tables_held n.files) n.files.pending))
  input_comes came last x lie (Asks port) come can decides =
      subst (λ all. Comes all (pends_after x last (Asks port)) x.files.pending (mount_after x (Asks port)) None) (sym (append-nil came))
      (by_test (port == anchors_of x.position) (λ b. Comes came (if b then pends_with last (if b then x.task.ask else (anchor_hands (stand_of x) x.task.work port).ask) else last) x.files.pending (if b then asked_data x else asked_anchor x port) None)
      (λ _. record { come = record { asks = hands_out x.files.volume x last x.task.work x.task.ask come.asks; under = come.under }; ends = tt })
      (λ _. record { come = record { asks = come.asks; under = come.under }; ends = tt }))
  input_comes came last x lie (Hears port reply) come can decides =
      let h = tables_held x.files in
      let q = x.files.pending in
      by_test (port == anchors_of x.position)
      (λ b.
      ((value : List ℕ) → (if b then None else decided_in (errand_at x.errands port) reply x.task.work x.position.ballot port) ≡ Some value → Is x.upto value)
      → Comes (came ++ (if b then exchange last reply else [])) (if b then None else last) q
      (takes_work x (if b then record { step = data_answered (stand_of x) h x.task.work reply; tables = h.tables } else errand_answered (errand_at x.errands port) (stand_of x) h q x.task.work port reply)).mount
      (takes_work x (if b then record { step = data_answered (stand_of x) h x.task.work reply; tables = h.tables } else errand_answered (errand_at x.errands port) (stand_of x) h q x.task.work port reply)).next)
      (λ is _.
      taken (came ++ exchange last reply) None x (record { step = data_answered (stand_of x) h x.task.work reply; tables = h.tables })
      (data_to layout Is x.files.mount x.files.volume came last x.task x x.upto x.position lie x.errands h q x.task.work x.task.ask reply (can.data_port (eqb-true port (anchors_of x.position) is)) come.asks come.under))
      (λ _ its.
      let w : Worked = errand_answered (errand_at x.errands port) (stand_of x) h q x.task.work port reply in
      subst (λ all. Comes all last q (takes_work x w).mount (takes_work x w).next) (sym (append-nil came))
      (taken came last x w
      (errand_to layout Is x.files.mount x.files.volume came last x.task x h q x.upto come.asks come.under x.position lie x.errands port x.task.work (errand_at x.errands port) reply its)))
      decides

new_comes : (layout : Layout) (Is : ℕ → List ℕ → Type 0) (v : Extent) (m : ℕ) → HasCome layout Is [] None (mount_opening layout m v)
new_comes Plain Is v m = record { asks = tt; under = tt }
new_comes Three Is v m = record { asks = tt; under = tt }

-- What came

-- the ask that is pending then
abbrev pends_from : (ℕ → Life) → (m : ℕ) → (last : Option Ask) → List MountTold → Option Ask
pends_from ls m last [] = last
pends_from ls m last (t ∷ told) = pends_from (lived ls t) m (pends_in m (ls m).mount last t) told

pends_on : (ls : ℕ → Life) (m : ℕ) (last : Option Ask) (xs ys : List MountTold) → pends_from ls m last (xs ++ ys) ≡ pends_from (lives_from ls xs) m (pends_from ls m last xs) ys
pends_on ls m last [] ys = refl
pends_on ls m last (t ∷ xs) ys = pends_on (lived ls t) m (pends_in m (ls m).mount last t) xs ys

exchanges_on : (ls : ℕ → Life) (m : ℕ) (last : Option Ask) (xs ys : List MountTold)
    → exchanges_from ls m last (xs ++ ys) ≡ exchanges_from ls m last xs ++ exchanges_from (lives_from ls xs) m (pends_from ls m last xs) ys
exchanges_on ls m last [] ys = refl
exchanges_on ls m last (t ∷ xs) ys =
    let now = pends_in m (ls m).mount last t in
    ap (λ more. exchanged_in m (ls m).mount last t ++ more) (exchanges_on (lived ls t) m now xs ys)
    ∙ sym (append_assoc (exchanged_in m (ls m).mount last t) (exchanges_from (lived ls t) m now xs) (exchanges_from (lives_from (lived ls t) xs) m (pends_from (lived ls t) m now xs) ys))

-- Lives

module _ (layout : Layout) (v : Extent) (told : List MountTold) (can : CanBe layout v told) (registers : HaveRegisters layout v told) (list : List (List ℕ)) (is : IsListOf layout v told list) (m : ℕ) where
  -- the list has this value at the position
  abbrev pub IsIn : ℕ → List ℕ → Type 0
  IsIn position value = slice_get list position ≡ Some value

  -- the mount's last call ends so, when this had come
  pub record HasEnded (came : List Exchange) (x : MountIs) (answer : CallAnswer) : Type 0 where
    pub call : Pending
    pub number : call.number ≡ x.files.calls
    pub named : call_named told m call.number ≡ Some call.call
    pub end : IsEnd layout IsIn x.files.mount x.files.volume came x.upto (tables_held x.files) call answer

  -- the call is the last, and its number names it
  abbrev NamedIn : Option Pending → (calls : ℕ) → Type 0
  NamedIn None calls = Unit {0}
  NamedIn (Some p) calls = (p.number ≡ calls) × (call_named told m p.number ≡ Some p.call)

  ended_so : (came : List Exchange) (x : MountIs) (answer : CallAnswer) (q : Option Pending) → NamedIn q x.files.calls → EndsIn layout IsIn x.files.mount x.files.volume came x.upto (tables_held x.files) q answer → HasEnded came x answer
  ended_so came x answer None named end = absurd end
  ended_so came x answer (Some p) named end = record { call = p; number = named.0; named = named.1; end = end }

  abbrev came_in : List MountTold → List Exchange
  came_in before = exchanges layout v before m

  abbrev last_in : List MountTold → Option Ask
  last_in before = pends_from (all_opened layout v) m None before

  abbrev Come : List MountTold → Type 0
  Come before = HasCome layout IsIn (came_in before) (last_in before) (lives layout v before m).mount

  -- an input of the mount
  module _ (before after : List MountTold) (input : Input) (same : told ≡ before ++ record { mount = m; input = input } ∷ after) where
    abbrev t : MountTold
    t = record { mount = m; input = input }

    abbrev now : List MountTold
    now = before ++ t ∷ []

    abbrev l : Life
    l = lives layout v before m

    abbrev x : MountIs
    x = l.mount

    pub now_same : told ≡ now ++ after
    now_same = same ∙ sym (append_assoc before (t ∷ []) after)

    rest : CanComeFrom (lives layout v before) (t ∷ after)
    rest = can_after (all_opened layout v) before (t ∷ after) (subst (CanBe layout v) same can)

    pub low : m < 16
    low = rest.0.number

    pub its_life : lives layout v now m ≡ goes l input
    its_life = ap (λ (ls : ℕ → Life). ls m) (lives_on (all_opened layout v) before (t ∷ [])) ∙ cond-true (m == m) (goes l input) l (eq-eqb m m refl)

    -- what its ballot decides is in the list
    pub decides_in_list : (value : List ℕ) → decided_by x input ≡ Some value → IsIn x.upto value
    decides_in_list value decides =
        let front = begins layout v told can registers list is now after now_same m low in
        let all : (lives layout v now m).decided ≡ l.decided ++ value ∷ [] = ap (λ (y : Life). y.decided) its_life ∙ ap (with_value l.decided) decides in
        let there : slice_get (lives layout v now m).decided (length l.decided) ≡ Some value = subst (λ values. slice_get values (length l.decided) ≡ Some value) (sym all) (at_end l.decided value) in
        let in_list : slice_get list (length l.decided) ≡ Some value =
        subst (λ values. slice_get values (length l.decided) ≡ Some value) front.1 (at_front (lives layout v now m).decided front.0 (length l.decided) value there) in
        subst (λ n. IsIn n value) (sym (stands_behind layout v told can registers list is before (t ∷ after) same m low)) in_list

    comes_here : Come before → Comes layout IsIn (came_in before ++ exchanged x (last_in before) input) (pends_after x (last_in before) input) (called x input) (mount_after x input) (next_by x input)
    comes_here come = input_comes layout IsIn (came_in before) (last_in before) x (mounts_lie layout v before m).lies input come rest.0.takes decides_in_list

  told_come : (before : List MountTold) (t : MountTold) (after : List MountTold) → told ≡ before ++ t ∷ after → Come before → Come (before ++ t ∷ [])
  told_come before t after same come =
      let l = lives layout v before m in
      let last = last_in before in
      let here : HasCome layout IsIn (came_in before ++ exchanged_in m l.mount last t) (pends_in m l.mount last t) (lived (lives layout v before) t m).mount =
      by_test (m == t.mount)
      (λ b. HasCome layout IsIn (came_in before ++ (if b then exchanged l.mount last t.input else [])) (if b then pends_after l.mount last t.input else last) (if b then goes l t.input else l).mount)
      (λ own. (comes_here before after t.input (subst (λ k. told ≡ before ++ record { mount = k; input = t.input } ∷ after) (sym (eqb-true m t.mount own)) same) come).come)
      (λ _. subst (λ all. HasCome layout IsIn all last l.mount) (sym (append-nil (came_in before))) come) in
      let came : came_in (before ++ t ∷ []) ≡ came_in before ++ exchanged_in m l.mount last t =
      exchanges_on (all_opened layout v) m None before (t ∷ []) ∙ ap (λ more. came_in before ++ more) (append-nil (exchanged_in m l.mount last t)) in
      subst (λ all. HasCome layout IsIn all (last_in (before ++ t ∷ [])) (lives layout v (before ++ t ∷ []) m).mount) (sym came)
      (subst (λ ask. HasCome layout IsIn (came_in before ++ exchanged_in m l.mount last t) ask (lives layout v (before ++ t ∷ []) m).mount) (sym (pends_on (all_opened layout v) m None before (t ∷ [])))
      (subst (λ (ls : ℕ → Life). HasCome layout IsIn (came_in before ++ exchanged_in m l.mount last t) (pends_in m l.mount last t) (ls m).mount) (sym (lives_on (all_opened layout v) before (t ∷ []))) here))

  all_come : (more before after : List MountTold) → told ≡ before ++ (more ++ after) → Come before → Come (before ++ more)
  all_come [] before after same come = subst Come (sym (append-nil before)) come
  all_come (t ∷ more) before after same come =
      subst Come (append_assoc before (t ∷ []) more)
      (all_come more (before ++ t ∷ []) after (same ∙ sym (append_assoc before (t ∷ []) (more ++ after))) (told_come before t (more ++ after) same come))

  come_before : (before after : List MountTold) → told ≡ before ++ after → Come before
  come_before before after same = all_come before [] after same (new_comes layout IsIn v m)

  -- the call

  module _ (before after : List MountTold) (same : told ≡ before ++ after) where
    abbrev calls : List FileCall
    calls = calls_of before m

    named_of : (count : ℕ) → count ≡ length calls → (q : Option Pending) → OfPending (IsLastOf calls) q → NamedIn q count
    named_of count is_count None of = tt
    named_of count is_count (Some p) of =
        (of.last ∙ sym is_count, subst (λ all. call_named all m p.number ≡ Some p.call) (sym same) (named_on before after m p.number p.call of.named))

    pending_named : NamedIn (lives layout v before m).mount.files.pending (lives layout v before m).mount.files.calls
    pending_named = let its = its_calls layout v m before in named_of (lives layout v before m).mount.files.calls its.count (lives layout v before m).mount.files.pending its.call

  pub begun_named : (before after : List MountTold) (call : FileCall) → told ≡ before ++ record { mount = m; input = Begins call } ∷ after → call_named told m (suc (lives layout v before m).mount.files.calls) ≡ Some call
  begun_named before after call same =
      let t : MountTold = record { mount = m; input = Begins call } in
      let now : List MountTold = before ++ t ∷ [] in
      let calls = calls_of before m in
      let one : calls_of (t ∷ []) m ≡ call ∷ [] = ap (λ b. cons_option (if b then Some call else None) []) (eq-eqb m m refl) in
      let all : calls_of now m ≡ calls ++ call ∷ [] = calls_on before (t ∷ []) m ∙ ap (λ more. calls ++ more) one in
      let its : call_named now m (suc (length calls)) ≡ Some call = subst (λ cs. slice_get cs (length calls) ≡ Some call) (sym all) (at_end calls call) in
      let there : call_named told m (suc (length calls)) ≡ Some call =
      subst (λ cs. call_named cs m (suc (length calls)) ≡ Some call) (append_assoc before (t ∷ []) after ∙ sym same) (named_on now after m (suc (length calls)) call its) in
      subst (λ n. call_named told m (suc n) ≡ Some call) (sym (its_calls layout v m before).count) there

  -- where it ends
  ends_so : (before after : List MountTold) (input : Input) (answer : CallAnswer) → told ≡ before ++ record { mount = m; input = input } ∷ after → next_by (lives layout v before m).mount input ≡ Some (Done answer)
      → HasEnded (came_in before ++ exchanged (lives layout v before m).mount (last_in before) input) (mount_after (lives layout v before m).mount input) answer
  ends_so before after (Asks port) answer same ends = absurd (none-some (Done answer) ends)
  ends_so before after (Begins call) answer same ends =
      let x = (lives layout v before m).mount in
      let o = mount_after x (Begins call) in
      let came = came_in before ++ exchanged x (last_in before) (Begins call) in
      let q : Option Pending = called x (Begins call) in
      let comes = comes_here before after (Begins call) same (come_before before (record { mount = m; input = Begins call } ∷ after) same) in
      ended_so came o answer q (refl, begun_named before after call same)
      (subst (λ next. EndsBy layout IsIn o.files.mount o.files.volume came o.upto (tables_held o.files) q next) ends comes.ends)
  ends_so before after (Hears port reply) answer same ends =
      let x = (lives layout v before m).mount in
      let o = mount_after x (Hears port reply) in
      let came = came_in before ++ exchanged x (last_in before) (Hears port reply) in
      let t : MountTold = record { mount = m; input = Hears port reply } in
      let comes = comes_here before after (Hears port reply) same (come_before before (t ∷ after) same) in
      ended_so came o answer x.files.pending (pending_named before (t ∷ after) same)
      (subst (λ next. EndsBy layout IsIn o.files.mount o.files.volume came o.upto (tables_held o.files) x.files.pending next) ends comes.ends)

  pub has_ended : (before after : List MountTold) (input : Input) (answer : CallAnswer) → told ≡ before ++ record { mount = m; input = input } ∷ after → next_by (lives layout v before m).mount input ≡ Some (Done answer)
      → let now = before ++ record { mount = m; input = input } ∷ [] in HasEnded (exchanges layout v now m) (lives layout v now m).mount answer
  has_ended before after input answer same ends =
      let t : MountTold = record { mount = m; input = input } in
      let now : List MountTold = before ++ t ∷ [] in
      let last = last_in before in
      let l = lives layout v before m in
      let came : came_in now ≡ came_in before ++ exchanged l.mount last input =
      exchanges_on (all_opened layout v) m None before (t ∷ []) ∙ ap (λ more. came_in before ++ more) (append-nil (exchanged_in m l.mount last t) ∙ cond-true (m == m) (exchanged l.mount last input) [] (eq-eqb m m refl)) in
      subst (λ all. HasEnded all (lives layout v now m).mount answer) (sym came)
      (subst (λ (y : Life). HasEnded (came_in before ++ exchanged l.mount last input) y.mount answer) (sym (its_life before after input same)) (ends_so before after input answer same ends))
