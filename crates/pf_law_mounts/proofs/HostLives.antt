-- Hosts come, begin calls and go.
use Rattle.std.proofs.Common.{◌≡◌, ℕ, zero, suc, ◌<◌, nat_le, nat_lt, true, false, inl, inr, List, [], ◌∷◌, ◌++◌, length, Some, None, slice_set, arith, refl, sym, ap, subst, ◌∙◌, append-nil, length-append}
use Rattle.pf_volume.specs.Volumes.{Extent, size_of}
use Rattle.pf_journal.specs.declared.layouts.Layout.{Layout}
use Rattle.pf_journal.specs.declared.layouts.Layout.TheVariants.{Plain, Three}
use Rattle.pf_journal.specs.Layouts.{VolumeHasRoom}
use Rattle.std.proofs.lemmas.Bool.{false≢true, leb-false, ltb-false}
use Rattle.std.proofs.lemmas.Option.{none-some, same_Some, slice_get_within}
use Rattle.pf_entry.proofs.Lists.{set_cases}
use Rattle.pf_law_runs.specs.pf_group_network.proofs.Lists.{end_cases, set_length}
use Rattle.pf_tree.specs.Calls.{FileCall}
use Rattle.pf_mount.specs.declared.work.MountWork.{MountWork}
use Rattle.pf_mount.specs.declared.work.MountWork.TheVariants.{Rests}
use Rattle.pf_mount.specs.Mounts.{MountIs, starting}
use Rattle.pf_law_calls.specs.Lives.{Begins, Life, MountTold, lives}
use Rattle.pf_law_calls.proofs.Layouts.{new_lies}
use Rattle.pf_law_events.specs.Events.{MountsAreServed, Brings, Happening, mounts_told}
use Rattle.pf_law_plans.specs.Spelled.{CanBeSpelled}
use Rattle.pf_law_runs.specs.pf_world.specs.pf_world_moments.specs.Moments.{Calls, Moment}
use Rattle.pf_law_runs.specs.pf_world.specs.pf_mount_host.specs.Hosts.{HostIs, call_begun, call_ended, made_host, mount_number, pending_at}
use Rattle.pf_law_runs.specs.pf_world.specs.pf_world_hosts.specs.Volumes.{Hosts, VolumeRun, begins, host_at, killed, mounts}
use Rattle.pf_law_runs.specs.pf_world.specs.pf_world_hosts.specs.Volumes as volumes
use Rattle.pf_law_runs.specs.pf_world.specs.Lines.{rests}
use Rattle.pf_law_mounts.proofs.Causes.{act_inputs, ended_causes}
use Rattle.pf_law_mounts.proofs.Ends.{answered_comes, begins_comes, life_comes, other_life, other_owed, owed_comes, spelled_comes}
use Rattle.pf_law_mounts.proofs.HostReplies.{act_hands_nothing, ended_hands_nothing, ended_still}
use Rattle.pf_law_mounts.proofs.HostMounts.{host_begins}
use Rattle.pf_law_mounts.proofs.Nexts.{IsBy, KnownThen, KnownWith, its_host, its_mount, number_low, known_idly}
use Rattle.pf_law_mounts.proofs.Known.{IsHostOf, IsKnown, owed_of}
use Rattle.pf_law_mounts.proofs.Places.{host_there, known_with}
use Rattle.pf_law_mounts.proofs.ServiceSteps.{any_answer}
use Rattle.pf_law_mounts.proofs.MomentTells.{Tells}

-- Nothing is told

told_nothing : {calls : ℕ} (v : VolumeRun) (told : List Moment) → IsKnown calls v told → IsKnown calls v (told ++ [])
told_nothing {calls} v told is = subst (λ (all : List Moment). IsKnown calls v all) (sym (append-nil told)) is

-- A mount comes

none_pends : (layout : Layout) (number port chunk : ℕ) (v : VolumeRun) → pending_at (made_host layout number v.extent) port ≡ Some chunk → ⊥
none_pends layout number zero chunk v at = none-some chunk at
none_pends layout number (suc zero) chunk v at = none-some chunk at
none_pends layout number (suc (suc zero)) chunk v at = none-some chunk at
none_pends layout number (suc (suc (suc zero))) chunk v at = none-some chunk at
none_pends layout number (suc (suc (suc (suc port)))) chunk v at = none-some chunk at

-- by the test of the line, and by that of the line before it that put the journal on anchors
room_for : (layout : Layout) (e : Extent) → nat_lt (size_of e) 4112 ≡ false → (layout ≡ Three → VolumeHasRoom Three e) → VolumeHasRoom layout e
room_for Plain e large anchors = ltb-false (size_of e) 4112 large
room_for Three e large anchors = anchors refl

module _ {calls : ℕ} (v : VolumeRun) (told : List Moment) (known : IsKnown calls v told) where
  abbrev count : ℕ
  count = length v.hosts

  abbrev new : HostIs
  new = made_host v.layout count v.extent

  abbrev IsHost : (m : ℕ) → HostIs → Type 0
  IsHost m host = IsHostOf v.layout v.extent known.service (owed_of v.layout v.extent known.happenings m) (lives v.layout v.extent (mounts_told known.happenings) m) m host

  new_host : IsHost count new
  new_host = record {
    number = refl;
    volume = refl;
    laid = new_lies v.layout count v.extent;
    first = refl;
    waits = tt;
    mount = ap (λ (l : Life). l.mount) (sym (known.fresh count (omega arith)));
    four = refl;
    low = λ port chunk at. absurd (none_pends v.layout count port chunk v at);
    one = λ port other chunk at there. absurd (none_pends v.layout count port chunk v at);
    awaits = λ port its owes. absurd (none-some its (sym (known.unowed count port (omega arith)) ∙ owes));
    asks = λ port chunk small at. absurd (none_pends v.layout count port chunk v at);
    quiet = λ chunk small none. known.unasked count chunk (omega arith) small;
  }

  abbrev all : Hosts
  all = v.hosts ++ Some new ∷ []

  all_hosts : (m : ℕ) (host : HostIs) → host_at all m ≡ Some host → IsHost m host
  all_hosts m host at = elim (end_cases v.hosts (Some new) m (Some host) (host_there all m host at)) [
    | inl before ↦ known.host_so m host (ap volumes.there before)
    | inr last ↦
        let one : new ≡ host = same_Some new host last.1 in
        subst (λ i. IsHost i host) (sym last.0) (subst (IsHost count) one new_host)
  ]

  joined : nat_lt (size_of v.extent) 4112 ≡ false → nat_le 16 count ≡ false → IsKnown calls (record v { hosts = all }) told
  joined large few =
      let longer : length all ≡ suc count = let more = length-append v.hosts (Some new ∷ []) in omega (arith, more) in record {
        happenings = known.happenings;
        service = known.service;
        deeds = known.deeds;
        few = let low = leb-false 16 count few in omega (arith, low, longer);
        room = λ _. room_for v.layout v.extent large known.anchors;
        anchors = known.anchors;
        none_yet = λ none. absurd (omega (arith, none, longer));
        told_are = known.told_are;
        causes = known.causes;
        spelled = known.spelled;
        few_calls = known.few_calls;
        apart = known.apart;
        served = known.served;
        same = known.same;
        serving_so = known.serving_so;
        host_so = all_hosts;
        fresh = λ m low. known.fresh m (omega (arith, low, longer));
        unasked = λ m chunk low. known.unasked m chunk (omega (arith, low, longer));
        unowed = λ m port low. known.unowed m port (omega (arith, low, longer));
        answered = known.answered;
      }

pub known_mounting : {calls : ℕ} (v : VolumeRun) (told : List Moment) → nat_lt (size_of v.extent) 4112 ≡ false → nat_le 16 (length v.hosts) ≡ false → IsKnown calls v told → IsKnown calls (mounts v).volume (told ++ (mounts v).told)
known_mounting v told large few known = told_nothing (mounts v).volume told (joined v told known large few)

-- A host goes. What pends in its ports stays there

pub known_killing : {calls : ℕ} (v : VolumeRun) (told : List Moment) (m : ℕ) → IsKnown calls v told → IsKnown calls (killed m v) told
known_killing v told m known =
    let same = set_length v.hosts m None in
    let few = known.few in record {
      happenings = known.happenings;
      service = known.service;
      deeds = known.deeds;
      few = omega (arith, few, same);
      room = λ some. known.room (omega (arith, some, same));
      anchors = known.anchors;
      none_yet = λ none. known.none_yet (omega (arith, none, same));
      told_are = known.told_are;
      causes = known.causes;
      spelled = known.spelled;
      few_calls = known.few_calls;
      apart = known.apart;
      served = known.served;
      same = known.same;
      serving_so = known.serving_so;
      host_so = λ n host at. elim (set_cases v.hosts m None n (Some host) (host_there (slice_set v.hosts m None) n host at)) [
        | inl gone ↦ absurd (none-some host gone.1)
        | inr away ↦ known.host_so n host (ap volumes.there away.1)
      ];
      fresh = λ n low. known.fresh n (omega (arith, low, same));
      unasked = λ n chunk low. known.unasked n chunk (omega (arith, low, same));
      unowed = λ n port low. known.unowed n port (omega (arith, low, same));
      answered = known.answered;
    }

-- A call begins

at_rest : (work : MountWork) → rests work ≡ true → work ≡ Rests
at_rest Rests is = refl
at_rest work is = absurd (false≢true is)

module _ (calls : ℕ) (v : VolumeRun) (m : ℕ) (inside : m < length v.hosts) (host : HostIs) (told : List Moment) (call : FileCall) (words : CanBeSpelled call) (resting : host.mount.task.work ≡ Rests) (known : KnownWith calls v m inside v.chunks host told) where
  abbrev input : MountTold
  input = record { mount = m; input = Begins call }

  abbrev x : Happening
  x = Brings input 0 0 any_answer

  abbrev its : IsHostOf v.layout v.extent known.service (owed_of v.layout v.extent known.happenings m) (lives v.layout v.extent (mounts_told known.happenings) m) m host
  its = its_host calls v m inside v.chunks host told known

  by_it : IsBy v.layout v.extent known.happenings m x 1
  by_it = record {
    life = λ n apart. other_life v.layout v.extent known.happenings input 0 0 any_answer n apart;
    owed = λ n port apart. other_owed v.layout v.extent known.happenings input 0 0 any_answer n port apart;
    spelled = spelled_comes v.layout v.extent known.happenings input 0 0 any_answer words;
    begins = begins_comes v.layout v.extent known.happenings input 0 0 any_answer;
  }

  tells : Tells v.layout v.extent told x (call_begun v.chunks host call).told
  tells =
      let who = mount_number host.mount in
      let next = (starting host.mount call).next in record {
        inputs = act_inputs v.layout v.extent told who (Calls call) (Begins call) refl (Some call) next ∙ ap (λ n. record { mount = n; input = Begins call } ∷ []) its.number;
        causes = (tt, ended_causes v.layout v.extent told who (Calls call) (Begins call) refl (Some call) refl next (ap (λ (a : MountIs). (starting a call).next) (its_mount calls v m inside v.chunks host told known)));
      }

  answered_so : MountsAreServed v.layout v.extent known.happenings → MountsAreServed v.layout v.extent (known.happenings ++ x ∷ [])
  answered_so are =
      answered_comes v.layout v.extent known.happenings input 0 0 any_answer are
      (record { number = number_low calls v m inside v.chunks host told known; takes = subst (λ (a : MountIs). a.task.work ≡ Rests) its.mount resting }) tt

  begins_so : KnownThen calls v m inside (suc calls) v.chunks (call_begun v.chunks host call).host (told ++ (call_begun v.chunks host call).told)
  begins_so =
      known_idly calls v m inside v.chunks host told known x 1 by_it (suc calls) (omega arith) (call_begun v.chunks host call).host (call_begun v.chunks host call).told
      (tt, ended_still host.mount.files.mount (Some call) (starting host.mount call).next) tells
      (act_hands_nothing host.mount.files.mount (Calls call) (call_ended host.mount.files.mount (Some call) (starting host.mount call).next) (ended_hands_nothing host.mount.files.mount (Some call) (starting host.mount call).next))
      (host_begins v.layout v.extent known.service (owed_of v.layout v.extent known.happenings m) (lives v.layout v.extent (mounts_told known.happenings) m) m host its call resting
      (owed_of v.layout v.extent (known.happenings ++ x ∷ []) m) (λ port. owed_comes v.layout v.extent known.happenings input 0 0 any_answer port) (lives v.layout v.extent (mounts_told (known.happenings ++ x ∷ [])) m) (life_comes v.layout v.extent known.happenings input 0 0 any_answer))
      (λ chunk small. refl) (λ legal are. answered_so are)

pub known_beginning : {calls : ℕ} (v : VolumeRun) (told : List Moment) (m : ℕ) (host : HostIs) (call : FileCall) → CanBeSpelled call → host_at v.hosts m ≡ Some host → rests host.mount.task.work ≡ true → IsKnown calls v told
    → IsKnown (suc calls) (begins m host call v).volume (told ++ (begins m host call v).told)
known_beginning {calls} v told m host call words at resting known =
    let place = host_there v.hosts m host at in
    begins_so calls v m (slice_get_within v.hosts m (Some host) place) host told call words (at_rest host.mount.task.work resting) (known_with v m host told place known)
