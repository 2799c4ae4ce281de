-- A mount has a call pending exactly while it is at work on one.
use Rattle.std.proofs.Common.{◌≡◌, inl, inr, ℕ, suc, ◌<◌, ◌==◌, if◌then◌else◌, List, [], ◌∷◌, ◌++◌, Option, Some, None, arith, refl, sym, ap, subst, ◌∙◌}
use Rattle.std.proofs.lemmas.List.{append_assoc}
use Rattle.std.proofs.lemmas.Option.{none-some}
use Rattle.pf_entry.proofs.Cases.{by_test}
use Rattle.pf_volume.specs.Volumes.{Extent}
use Rattle.pf_file_calls.specs.declared.calls.Pending.{Pending}
use Rattle.pf_law_plans.specs.Numbered.{call_numbered}
use Rattle.pf_journal.specs.declared.layouts.Layout.{Layout}
use Rattle.pf_mount_errands.specs.Positions.{anchors_of}
use Rattle.pf_mount.specs.declared.work.MountNext.{MountNext}
use Rattle.pf_mount.specs.declared.work.MountNext.TheVariants.{Done, Failed, Ready}
use Rattle.pf_mount.specs.declared.work.MountWork.TheVariants.{Rests}
use Rattle.pf_mount.specs.Lives.{CallsOn, FailsOn, MountHasFailed, IsAtCall, MountIsAtRest, IsCallWork, IsMounting, IsMountingWork, MountsOn, RestsOn}
use Rattle.pf_mount.specs.Mounts.{MountIs, mount_answered, mount_asked, asked_anchor, asked_data, starting}
use Rattle.pf_mount.proofs.CallsEndOnce.{calling_goes_on, failing_stays, mounting_goes_on, opening_mounts, resting_stays, starting_goes_on}
use Rattle.pf_law_calls.specs.Lives.{Asks, Begins, CanBe, CanComeFrom, Hears, Input, Life, MountTold, all_opened, lived, lives, lives_from, lives_on as goes, mount_after}
use Rattle.pf_law_calls.specs.Answering.{next_by}
use Rattle.pf_law_calls.specs.Trees.{call_in_input}
use Rattle.pf_law_calls.proofs.CallNumbers.{IsLastOf, OfPending, its_calls}
use Rattle.pf_law_calls.proofs.Parts.{can_after}
use Rattle.pf_law_files.specs.Calls.{AreOfOneMount, AreOneAtATime}
use Rattle.pf_law_files.proofs.MomentCounts.{first_call}

-- it has not been ready yet, or never is; or it rests, or is at work on a call
pub data Status (x : MountIs) : Type 0 where
  Opens : IsMounting x → x.files.calls ≡ 0 → Status x
  HasNone : MountHasFailed x → x.files.calls ≡ 0 → Status x
  Idles : MountIsAtRest x → Status x
  Works : (p : Pending) → IsAtCall p x → Status x

opens_on : (y : MountIs) (next : Option MountNext) → y.files.calls ≡ 0 → MountsOn y next → Status y
opens_on y None count is = Opens is count
opens_on y (Some Ready) count is = Idles is
opens_on y (Some Failed) count is = HasNone is count
opens_on y (Some (Done answer)) count is = absurd is

works_on : (p : Pending) (y : MountIs) (next : Option MountNext) → CallsOn p y next → Status y
works_on p y None is = Works p is
works_on p y (Some Ready) is = absurd is
works_on p y (Some Failed) is = absurd is
works_on p y (Some (Done answer)) is = Idles is

idles_on : (y : MountIs) (next : Option MountNext) → RestsOn y next → Status y
idles_on y None is = Idles is
idles_on y (Some next) is = absurd is

fails_on : (y : MountIs) (next : Option MountNext) → y.files.calls ≡ 0 → FailsOn y next → Status y
fails_on y None count is = HasNone is count
fails_on y (Some next) count is = absurd is

-- where its work, its call and their count stay
same_status : (x y : MountIs) → y.task.work ≡ x.task.work → y.files.pending ≡ x.files.pending → y.files.calls ≡ x.files.calls → Status x → Status y
same_status x y work call count (Opens is none) = Opens (record { call = call ∙ is.call; work = subst IsMountingWork (sym work) is.work }) (count ∙ none)
same_status x y work call count (HasNone is none) = HasNone (record { call = call ∙ is.call; work = work ∙ is.work }) (count ∙ none)
same_status x y work call count (Idles is) = Idles (record { call = call ∙ is.call; work = work ∙ is.work })
same_status x y work call count (Works p is) = Works p (record { call = call ∙ is.call; work = subst IsCallWork (sym work) is.work })

asked_status : (x : MountIs) (port : ℕ) → Status x → Status (mount_asked x port)
asked_status x port is =
    by_test (port == anchors_of x.position) (λ b. Status (if b then asked_data x else asked_anchor x port))
    (λ _. same_status x (asked_data x) refl refl refl is) (λ _. same_status x (asked_anchor x port) refl refl refl is)

input_status : (x : MountIs) (input : Input) → Status x → Status (mount_after x input)
input_status x (Begins call) is = works_on (record { number = suc x.files.calls; call = call }) (starting x call).mount (starting x call).next (starting_goes_on x call)
input_status x (Asks port) is = asked_status x port is
input_status x (Hears port reply) (Opens is count) = opens_on (mount_answered x port reply).mount (mount_answered x port reply).next count (mounting_goes_on x port reply is)
input_status x (Hears port reply) (HasNone is count) = fails_on (mount_answered x port reply).mount (mount_answered x port reply).next count (failing_stays x port reply is)
input_status x (Hears port reply) (Idles is) = idles_on (mount_answered x port reply).mount (mount_answered x port reply).next (resting_stays x port reply is)
input_status x (Hears port reply) (Works p is) = works_on p (mount_answered x port reply).mount (mount_answered x port reply).next (calling_goes_on x port reply p is)

all_status : (told : List MountTold) (ls : ℕ → Life) (m : ℕ) → Status (ls m).mount → Status (lives_from ls told m).mount
all_status [] ls m is = is
all_status (t ∷ told) ls m is =
    all_status told (lived ls t) m
    (by_test (m == t.mount) (λ b. Status (if b then goes (ls m) t.input else ls m).mount) (λ _. input_status (ls m).mount t.input is) (λ _. is))

pub its_status : (layout : Layout) (v : Extent) (told : List MountTold) (m : ℕ) → Status (lives layout v told m).mount
its_status layout v told m = all_status told (all_opened layout v) m (Opens (opening_mounts layout m v) refl)

-- a mount that rests has no call pending
rests_none : (x : MountIs) → Status x → x.task.work ≡ Rests → x.files.pending ≡ None
rests_none x (Opens is count) rests = is.call
rests_none x (HasNone is count) rests = is.call
rests_none x (Idles is) rests = is.call
rests_none x (Works p is) rests = absurd (subst IsCallWork rests is.work)

-- and one that has begun a call and has none pending rests
pub ended_rests : (x : MountIs) → Status x → x.files.pending ≡ None → 0 < x.files.calls → x.task.work ≡ Rests
ended_rests x (Opens is count) none some = absurd (omega (arith, count, some))
ended_rests x (HasNone is count) none some = absurd (omega (arith, count, some))
ended_rests x (Idles is) none some = is.work
ended_rests x (Works p is) none some = absurd (none-some p (sym none ∙ is.call))

pub is_at_call : (x : MountIs) (p : Pending) → Status x → x.files.pending ≡ Some p → IsAtCall p x
is_at_call x p (Opens is count) pends = absurd (none-some p (sym is.call ∙ pends))
is_at_call x p (HasNone is count) pends = absurd (none-some p (sym is.call ∙ pends))
is_at_call x p (Idles is) pends = absurd (none-some p (sym is.call ∙ pends))
is_at_call x p (Works q is) pends = record { call = pends; work = is.work }

-- a call goes on, or it ends
pub input_calls : (x : MountIs) (p : Pending) (input : Input) → call_in_input input ≡ None → IsAtCall p x → CallsOn p (mount_after x input) (next_by x input)
input_calls x p (Begins call) none is = absurd (none-some call (sym none))
input_calls x p (Asks port) none is =
    by_test (port == anchors_of x.position) (λ b. IsAtCall p (if b then asked_data x else asked_anchor x port)) (λ _. record { call = is.call; work = is.work }) (λ _. record { call = is.call; work = is.work })
input_calls x p (Hears port reply) none is = calling_goes_on x port reply p is

-- Calls of one mount

none_of_none : (q : Option Pending) → OfPending (IsLastOf []) q → q ≡ None
none_of_none None is = refl
none_of_none (Some p) is = absurd (none-some p.call (ap (call_numbered []) (sym is.last) ∙ is.named))

pub one_mount : (layout : Layout) (v : Extent) (told : List MountTold) (m : ℕ) → CanBe layout v told → AreOfOneMount told m → AreOneAtATime layout v told
one_mount layout v told m can one before after k call same n low =
    let t : MountTold = record { mount = k; input = Begins call } in
    let own : k ≡ m = one before after k call same in
    elim (first_call before n) [
      | inl none ↦ none_of_none (lives layout v before n).mount.files.pending (subst (λ calls. OfPending (IsLastOf calls) (lives layout v before n).mount.files.pending) none (its_calls layout v n before).call)
      | inr found ↦
          let its : MountTold = record { mount = n; input = Begins found.1 } in
          let there : told ≡ found.0 ++ its ∷ (found.2 ++ t ∷ after) = same ∙ ap (λ us. us ++ t ∷ after) found.3 ∙ append_assoc found.0 (its ∷ found.2) (t ∷ after) in
          let number : n ≡ k = one found.0 (found.2 ++ t ∷ after) n found.1 there ∙ sym own in
          let rest : CanComeFrom (lives layout v before) (t ∷ after) = can_after (all_opened layout v) before (t ∷ after) (subst (CanBe layout v) same can) in
          subst (λ i. (lives layout v before i).mount.files.pending ≡ None) (sym number) (rests_none (lives layout v before k).mount (its_status layout v before k) rest.0.takes)
    ]
