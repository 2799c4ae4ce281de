-- What came at a mount's port for file data, call by call.
use Rattle.std.proofs.Common.{◌≡◌, ℕ, ◌==◌, Bool, true, false, if◌then◌else◌, List, [], ◌∷◌, ◌++◌, Option, Some, None, refl, sym, ap, subst, ◌∙◌, append-nil}
use Rattle.std.specs.List.{cons_option}
use Rattle.std.proofs.lemmas.Bool.{cond-true, eq-eqb, eqb-true}
use Rattle.std.proofs.lemmas.List.{append_assoc}
use Rattle.std.proofs.lemmas.Option.{none-some}
use Rattle.pf_base.specs.declared.asks.Ask.{Ask}
use Rattle.pf_base.specs.declared.asks.Reply.{Reply}
use Rattle.pf_entry.proofs.Cases.{by_test}
use Rattle.pf_volume.specs.Volumes.{Extent}
use Rattle.pf_tree.specs.Held.{Held}
use Rattle.pf_tree.specs.Calls.{FileCall}
use Rattle.pf_file_calls.specs.declared.calls.Pending.{Pending}
use Rattle.pf_law_plans.specs.Exchanges.{Exchange}
use Rattle.pf_journal.specs.declared.layouts.Layout.{Layout}
use Rattle.pf_mount_errands.specs.Positions.{anchors_of}
use Rattle.pf_mount.specs.declared.work.MountWork.{MountWork}
use Rattle.pf_mount.specs.declared.work.MountWork.TheVariants.{Moves}
use Rattle.pf_mount.specs.Mounts.{MountIs, asked_anchor, asked_data, tables_held}
use Rattle.pf_mount.specs.Standing.{AnswersData}
use Rattle.pf_law_calls.specs.Doings.{HaveRegisters, IsListOf}
use Rattle.pf_law_calls.specs.Lives.{Asks, Begins, CanBe, CanComeFrom, CanTake, Hears, Input, Life, MountTold, all_opened, lived, lives, lives_from, lives_on as goes, mount_after}
use Rattle.pf_law_calls.specs.Trees.{call_begun, call_in_input, calls_of}
use Rattle.pf_law_calls.proofs.Parts.{can_after, lives_on}
use Rattle.pf_law_calls.specs.Exchanges.{exchange, exchanged, exchanged_in, exchanges, exchanges_from, pends_in}
use Rattle.pf_law_calls.specs.Going.{GoesAt, HaveGoneSoFar, MovesAt}
use Rattle.pf_law_calls.specs.Since.{exchanges_since, pends, pends_from, since_after, since_from, since_in}
use Rattle.pf_law_calls.proofs.DataByMoment.{far_before, pends_on, since_on}

none_in : (o : Option FileCall) (calls : List FileCall) → cons_option o calls ≡ [] → (o ≡ None) × (calls ≡ [])
none_in None calls none = (refl, none)
none_in (Some call) calls none = absurd (cc)

exchanges_on : (ls : ℕ → Life) (m : ℕ) (last : Option Ask) (xs ys : List MountTold)
    → exchanges_from ls m last (xs ++ ys) ≡ exchanges_from ls m last xs ++ exchanges_from (lives_from ls xs) m (pends_from ls m last xs) ys
exchanges_on ls m last [] ys = refl
exchanges_on ls m last (t ∷ xs) ys =
    let now = pends_in m (ls m).mount last t in
    ap (λ more. exchanged_in m (ls m).mount last t ++ more) (exchanges_on (lived ls t) m now xs ys)
    ∙ sym (append_assoc (exchanged_in m (ls m).mount last t) (exchanges_from (lived ls t) m now xs) (exchanges_from (lives_from (lived ls t) xs) m (pends_from (lived ls t) m now xs) ys))

-- While no call begins

since_one : (x : MountIs) (last : Option Ask) (its : List Exchange) (b : Bool) (input : Input) → (if b then call_in_input input else None) ≡ None
    → (if b then since_after x last its input else its) ≡ its ++ (if b then exchanged x last input else [])
since_one x last its true (Begins call) none = absurd (none-some call (sym none))
since_one x last its true (Asks port) none = sym (append-nil its)
since_one x last its true (Hears port reply) none = refl
since_one x last its false input none = sym (append-nil its)

since_more : (mid : List MountTold) (ls : ℕ → Life) (m : ℕ) (last : Option Ask) (its : List Exchange) → calls_of mid m ≡ [] → since_from ls m last its mid ≡ its ++ exchanges_from ls m last mid
since_more [] ls m last its none = sym (append-nil its)
since_more (t ∷ mid) ls m last its none =
    let x = (ls m).mount in
    let now = pends_in m x last t in
    let parts = none_in (call_begun m t) (calls_of mid m) none in
    since_more mid (lived ls t) m now (since_in m x last its t) parts.1
    ∙ ap (λ came. came ++ exchanges_from (lived ls t) m now mid) (since_one x last its (m == t.mount) t.input parts.0)
    ∙ append_assoc its (exchanged_in m x last t) (exchanges_from (lived ls t) m now mid)

pub since_begun : (layout : Layout) (v : Extent) (before mid : List MountTold) (m : ℕ) (call : FileCall) → calls_of mid m ≡ []
    → (let all = before ++ record { mount = m; input = Begins call } ∷ mid in exchanges layout v all m ≡ exchanges layout v before m ++ exchanges_since layout v all m)
since_begun layout v before mid m call none =
    let t : MountTold = record { mount = m; input = Begins call } in
    let ls = lives layout v before in
    let last = pends layout v before m in
    let x = (ls m).mount in
    let now = pends_in m x last t in
    let its = exchanges_since layout v before m in
    let own = eq-eqb m m refl in
    let later = exchanges_from (lived ls t) m now mid in
    let nothing : exchanged_in m x last t ≡ [] = cond-true (m == m) (exchanged x last (Begins call)) [] own in
    let anew : since_in m x last its t ≡ [] = cond-true (m == m) (since_after x last its (Begins call)) its own in
    let since : exchanges_since layout v (before ++ t ∷ mid) m ≡ later =
    since_on (all_opened layout v) m None [] before (t ∷ mid) ∙ since_more mid (lived ls t) m now (since_in m x last its t) none ∙ ap (λ came. came ++ later) anew in
    exchanges_on (all_opened layout v) m None before (t ∷ mid) ∙ ap (λ came. exchanges layout v before m ++ came) (ap (λ came. came ++ later) nothing ∙ sym since)

-- While no call is pending

no_data : (list : List (List ℕ)) (m : ℕ) (v : Extent) (its : List Exchange) (last next : Option Ask) (upto : ℕ) (h : Held) (q : Option Pending) (work : MountWork) (reply : Reply) → q ≡ None → GoesAt list m v its last next upto h q work → AnswersData work next reply → ⊥
no_data list m v its last next upto h q (Moves moving) reply none far kind = subst (λ q. MovesAt list m v its last next upto h q moving) none far
no_data list m v its last next upto h q work reply none far kind = kind

still_none : (b : Bool) (q : Option Pending) → q ≡ None → (if b then None else q) ≡ None
still_none true q none = refl
still_none false q none = none

module _ (layout : Layout) (v : Extent) (told : List MountTold) (can : CanBe layout v told) (registers : HaveRegisters layout v told) (list : List (List ℕ)) (is : IsListOf layout v told list) (m : ℕ) where
  abbrev IsQuiet : List Exchange → MountIs → Type 0
  IsQuiet came x = (came ≡ []) × (x.files.pending ≡ None)

  quiet_input : (its : List Exchange) (last : Option Ask) (x : MountIs) (input : Input) → HaveGoneSoFar list its last x → CanTake x input → call_in_input input ≡ None → x.files.pending ≡ None → IsQuiet (exchanged x last input) (mount_after x input)
  quiet_input its last x (Begins call) far can none rests = absurd (none-some call (sym none))
  quiet_input its last x (Asks port) far can none rests =
      (refl, by_test (port == anchors_of x.position) (λ b. (if b then asked_data x else asked_anchor x port).files.pending ≡ None) (λ _. rests) (λ _. rests))
  quiet_input its last x (Hears port reply) far can none rests = (
    by_test (port == anchors_of x.position) (λ b. (if b then exchange last reply else []) ≡ [])
        (λ is. absurd (no_data list x.files.mount x.files.volume its last x.task.ask x.upto (tables_held x.files) x.files.pending x.task.work reply rests far (can.data_port (eqb-true port (anchors_of x.position) is))))
        (λ _. refl),
    still_none _ x.files.pending rests,
  )

  pub quiet_told : (before : List MountTold) (t : MountTold) (after : List MountTold) → told ≡ before ++ t ∷ after → (lives layout v before m).mount.files.pending ≡ None → call_begun m t ≡ None
      → IsQuiet (exchanged_in m (lives layout v before m).mount (pends layout v before m) t) (lived (lives layout v before) t m).mount
  quiet_told before t after same rests none =
      let l = lives layout v before m in
      let last = pends layout v before m in
      let can_come : CanComeFrom (lives layout v before) (t ∷ after) = can_after (all_opened layout v) before (t ∷ after) (subst (CanBe layout v) same can) in
      by_test (m == t.mount)
      (λ b. (if b then call_in_input t.input else None) ≡ None → IsQuiet (if b then exchanged l.mount last t.input else []) (if b then goes l t.input else l).mount)
      (λ own none.
      quiet_input (exchanges_since layout v before m) last l.mount t.input (far_before layout v told can registers list is m before (t ∷ after) same)
      (subst (λ n. CanTake (lives layout v before n).mount t.input) (sym (eqb-true m t.mount own)) can_come.0.takes) none rests)
      (λ _ none. (refl, rests))
      none

  quiet_all : (mid before after : List MountTold) → told ≡ before ++ (mid ++ after) → (lives layout v before m).mount.files.pending ≡ None → calls_of mid m ≡ []
      → exchanges_from (lives layout v before) m (pends layout v before m) mid ≡ []
  quiet_all [] before after same rests none = refl
  quiet_all (t ∷ mid) before after same rests none =
      let x = (lives layout v before m).mount in
      let last = pends layout v before m in
      let parts = none_in (call_begun m t) (calls_of mid m) none in
      let quiet = quiet_told before t (mid ++ after) same rests parts.0 in
      let on = lives_on (all_opened layout v) before (t ∷ []) in
      let later =
      quiet_all mid (before ++ t ∷ []) after (same ∙ sym (append_assoc before (t ∷ []) (mid ++ after)))
      (subst (λ (ls : ℕ → Life). (ls m).mount.files.pending ≡ None) (sym on) quiet.1) parts.1 in
      let later_here : exchanges_from (lived (lives layout v before) t) m (pends_in m x last t) mid ≡ [] =
      subst (λ ask. exchanges_from (lived (lives layout v before) t) m ask mid ≡ []) (pends_on (all_opened layout v) m None before (t ∷ []))
      (subst (λ (ls : ℕ → Life). exchanges_from ls m (pends layout v (before ++ t ∷ []) m) mid ≡ []) on later) in
      ap (λ came. came ++ exchanges_from (lived (lives layout v before) t) m (pends_in m x last t) mid) quiet.0 ∙ later_here

  pub none_come : (before mid after : List MountTold) → told ≡ before ++ (mid ++ after) → (lives layout v before m).mount.files.pending ≡ None → calls_of mid m ≡ []
      → (exchanges layout v (before ++ mid) m ≡ exchanges layout v before m) × (exchanges_since layout v (before ++ mid) m ≡ exchanges_since layout v before m)
  none_come before mid after same rests none =
      let all = exchanges layout v before m in
      let its = exchanges_since layout v before m in
      let nothing = quiet_all mid before after same rests none in (
        exchanges_on (all_opened layout v) m None before mid ∙ ap (λ came. all ++ came) nothing ∙ append-nil all,
        since_on (all_opened layout v) m None [] before mid ∙ since_more mid (lives layout v before) m (pends layout v before m) its none ∙ ap (λ came. its ++ came) nothing ∙ append-nil its,
      )
