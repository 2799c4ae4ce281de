-- The pending call of a mount is its last one, which its number names, whatever is told later.
use Rattle.std.proofs.Common.{◌≡◌, ℕ, suc, ◌==◌, Bool, true, false, if◌then◌else◌, List, [], ◌∷◌, ◌++◌, length, Option, Some, None, slice_get, arith, refl, sym, ap, subst, ◌∙◌, append-nil, length-append}
use Rattle.std.specs.List.{cons_option}
use Rattle.std.proofs.lemmas.List.{append_assoc}
use Rattle.std.proofs.lemmas.List.Elements.{filter_map-append}
use Rattle.pf_entry.proofs.Cases.{by_test}
use Rattle.pf_volume.specs.Volumes.{Extent}
use Rattle.pf_tree.specs.Calls.{FileCall}
use Rattle.pf_tree.specs.Held.{data_of}
use Rattle.pf_file_calls.specs.Calls.{planned}
use Rattle.pf_file_calls.specs.declared.calls.Pending.{Pending}
use Rattle.pf_law_plans.specs.Numbered.{call_numbered}
use Rattle.pf_law_plans.proofs.Numbers.{numbered_on}
use Rattle.pf_journal.specs.declared.layouts.Layout.{Layout}
use Rattle.pf_journal.specs.declared.layouts.Layout.TheVariants.{Plain, Three}
use Rattle.pf_journal.specs.Layouts.{layout_of}
use Rattle.pf_mount_errands.specs.Positions.{anchors_of}
use Rattle.pf_mount.specs.Mounts.{MountIs, mount_answered, mount_asked, asked_anchor, asked_data, tables_held, mount_opening}
use Rattle.pf_mount.specs.declared.work.MountWork.{MountWork}
use Rattle.pf_law_calls.specs.Lives.{Asks, Begins, Hears, Input, Life, MountTold, all_opened, lived, lives, lives_from, lives_on, mount_after}
use Rattle.pf_law_calls.specs.Lists.{IsPlanned}
use Rattle.pf_law_calls.specs.Trees.{call_begun, call_in_input, call_named, calls_of}
use Rattle.pf_law_calls.proofs.Lists.{at_end}
use Rattle.pf_law_calls.proofs.PlannedInputs.{GoesOn, IsOfPlan, PlansIn, PutsInPlan, answered_on, asked_on, starting_on}

-- Numbers

pub calls_on : (told more : List MountTold) (m : ℕ) → calls_of (told ++ more) m ≡ calls_of told m ++ calls_of more m
calls_on told more m = filter_map-append (call_begun m) told more

-- a call has its number for good
pub named_on : (told more : List MountTold) (m number : ℕ) (call : FileCall) → call_named told m number ≡ Some call → call_named (told ++ more) m number ≡ Some call
named_on told more m number call is = subst (λ calls. call_numbered calls number ≡ Some call) (sym (calls_on told more m)) (numbered_on (calls_of told m) (calls_of more m) number call is)

-- Mounts

-- of the call that is pending, if one is
abbrev pub OfPending : (Pending → Type 0) → Option Pending → Type 0
OfPending P None = Unit {0}
OfPending P (Some p) = P p

-- it is the last of these, and its number names it
pub record IsLastOf (calls : List FileCall) (p : Pending) : Type 0 where
  pub last : p.number ≡ length calls
  pub named : call_numbered calls p.number ≡ Some p.call

still_pending : (P : Pending → Type 0) (b : Bool) (p : Option Pending) → OfPending P p → OfPending P (if b then None else p)
still_pending P true p is = tt
still_pending P false p is = is

pub input_on : (x : MountIs) (input : Input) → PlansIn x → GoesOn x (mount_after x input)
input_on x (Begins call) plans = starting_on x call
input_on x (Asks port) plans = asked_on x port plans
input_on x (Hears port reply) plans = answered_on x port reply plans

module _ (layout : Layout) (v : Extent) (m : ℕ) where
  -- a mount of this number of the volume, after these calls of it
  pub record IsNamed (calls : List FileCall) (x : MountIs) : Type 0 where
    pub number : x.files.mount ≡ m
    pub volume : x.files.volume ≡ v
    pub first : x.files.first ≡ (layout_of layout).first
    pub count : x.files.calls ≡ length calls
    pub call : OfPending (IsLastOf calls) x.files.pending
    pub plans : PlansIn x

  input_named : (calls : List FileCall) (x : MountIs) (input : Input) → IsNamed calls x → IsNamed (calls ++ cons_option (call_in_input input) []) (mount_after x input)
  input_named calls x (Begins call) is =
      let more = length-append calls (call ∷ []) in
      let count : suc x.files.calls ≡ length (calls ++ call ∷ []) = omega (arith, is.count, more) in
      let named = ap (λ n. slice_get (calls ++ call ∷ []) n) is.count ∙ at_end calls call in record {
        number = is.number;
        volume = is.volume;
        first = is.first;
        count = count;
        call = still_pending (IsLastOf (calls ++ call ∷ [])) _ (Some (record { number = suc x.files.calls; call = call })) (record { last = count; named = named });
        plans = (starting_on x call).plans;
      }
  input_named calls x (Asks port) is =
      subst (λ all. IsNamed all (mount_asked x port)) (sym (append-nil calls))
      (by_test (port == anchors_of x.position) (λ b. PlansIn (if b then asked_data x else asked_anchor x port) → IsNamed calls (if b then asked_data x else asked_anchor x port))
      (λ _ plans. record { number = is.number; volume = is.volume; first = is.first; count = is.count; call = is.call; plans = plans })
      (λ _ plans. record { number = is.number; volume = is.volume; first = is.first; count = is.count; call = is.call; plans = plans })
      (asked_on x port is.plans).plans)
  input_named calls x (Hears port reply) is = subst (λ all. IsNamed all (mount_answered x port reply).mount) (sym (append-nil calls)) (record {
    number = is.number;
    volume = is.volume;
    first = is.first;
    count = is.count;
    call = still_pending (IsLastOf calls) _ x.files.pending is.call;
    plans = (answered_on x port reply is.plans).plans;
  })

  -- Lives

  pub told_named : (calls : List FileCall) (ls : ℕ → Life) (t : MountTold) → IsNamed calls (ls m).mount → IsNamed (calls ++ calls_of (t ∷ []) m) (lived ls t m).mount
  told_named calls ls t is =
      by_test (m == t.mount) (λ b. IsNamed (calls ++ cons_option (if b then call_in_input t.input else None) []) (if b then lives_on (ls m) t.input else ls m).mount)
      (λ _. input_named calls (ls m).mount t.input is) (λ _. subst (λ all. IsNamed all (ls m).mount) (sym (append-nil calls)) is)

  all_named : (more : List MountTold) (calls : List FileCall) (ls : ℕ → Life) → IsNamed calls (ls m).mount → IsNamed (calls ++ calls_of more m) (lives_from ls more m).mount
  all_named [] calls ls is = subst (λ all. IsNamed all (ls m).mount) (sym (append-nil calls)) is
  all_named (t ∷ more) calls ls is =
      let first : List FileCall = calls_of (t ∷ []) m in
      let joined : (calls ++ first) ++ calls_of more m ≡ calls ++ calls_of (t ∷ more) m = append_assoc calls first (calls_of more m) ∙ ap (λ all. calls ++ all) (sym (calls_on (t ∷ []) more m)) in
      subst (λ all. IsNamed all (lives_from (lived ls t) more m).mount) joined (all_named more (calls ++ first) (lived ls t) (told_named calls ls t is))

  -- a new mount puts in nothing
  new_plans : (l : Layout) → PlansIn (mount_opening l m v)
  new_plans Plain = tt
  new_plans Three = tt

  pub its_calls : (told : List MountTold) → IsNamed (calls_of told m) (lives layout v told m).mount
  its_calls told = all_named told [] (all_opened layout v) (record { number = refl; volume = refl; first = refl; count = refl; call = tt; plans = new_plans layout })

  -- what it puts in is the plan of its last call
  planned_by_plan : (told : List MountTold) (x : MountIs) (value : List ℕ) → IsNamed (calls_of told m) x → IsOfPlan x.files.mount x.files.volume (tables_held x.files) x.files.pending value → IsPlanned told m x.files value
  planned_by_plan told x value is plan =
      let its : IsLastOf (calls_of told m) plan.call = subst (OfPending (IsLastOf (calls_of told m))) plan.pends is.call in record {
        call = plan.call;
        pends = plan.pends;
        last = its.last ∙ sym is.count;
        named = its.named;
        txn = plan.txn;
        plan = ap (λ k. planned k x.files.volume (data_of x.files.first x.files.tables) x.files.tables plan.call) (sym is.number) ∙ plan.plan;
        spells = plan.spells;
      }

  pub its_planned : (told : List MountTold) (value : List ℕ) (work : MountWork) → (lives layout v told m).mount.task.work ≡ work
      → (let x = (lives layout v told m).mount in PutsInPlan x.files.mount x.files.volume (tables_held x.files) x.files.pending work → IsOfPlan x.files.mount x.files.volume (tables_held x.files) x.files.pending value)
      → IsPlanned told m (lives layout v told m).mount.files value
  its_planned told value work at plan =
      let x = (lives layout v told m).mount in
      let is = its_calls told in
      planned_by_plan told x value is (plan (subst (PutsInPlan x.files.mount x.files.volume (tables_held x.files) x.files.pending) at is.plans))
