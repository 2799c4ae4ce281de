-- What a crash left since the last step of a group began that may have touched disks.
use Rattle.std.proofs.Common.{◌≡◌, ◌⊎◌, inl, inr, ℕ, ◌<◌, ◌≤◌, ◌^◌, Bool, true, false, IsTrue, if◌then◌else◌, is_some, List, [], ◌∷◌, ◌++◌, length, Option, Some, None, option_map, slice_get, append_assoc, arith, refl, sym, ap, subst, ◌∙◌}
use Rattle.std.proofs.lemmas.Bool.{and_from}
use Rattle.std.proofs.lemmas.Option.{none-some, same_Some, slice_get_within}
use Rattle.pf_disk.specs.Crashes.{Images}
use Rattle.pf_entry.proofs.Lists.{every_append}
use Rattle.pf_entry.specs.Records.{Durable}
use Rattle.pf_protocol.specs.declared.events.Happening.{Happening}
use Rattle.pf_protocol.specs.Groups.{Group}
use Rattle.pf_protocol.specs.Histories.{History, replay}
use Rattle.pf_protocol.specs.Servers.{Setup}
use Rattle.pf_disk_store.specs.Kept.{LeavesStates}
use Rattle.pf_disk_store.specs.declared.kept.Kept.{Kept}
use Rattle.pf_group_network.specs.pf_server.specs.declared.server.Server.{Server}
use Rattle.pf_group_network.specs.declared.network.Network.{Network}
use Rattle.pf_group_network.specs.Going.{KeepsOthers, Passes, Touches, WasTouched, is_quiet_event, store_at}
use Rattle.pf_group_network.specs.Showing.{Shows}
use Rattle.pf_group_network.proofs.Lists.{something_there}
use Rattle.pf_server_format.specs.Opening.{head_of}
use Rattle.pf_disk_store.specs.Model.{kept_model}
use Rattle.pf_group.specs.declared.group.Group.TheInside.{Inside}
use Rattle.pf_group.specs.declared.began.Began.{Began}
use Rattle.pf_group.specs.declared.event.GroupEvent.{GroupEvent}
use Rattle.pf_group.specs.Beginning.{IsBegun, IsBegunIf}
use Rattle.pf_group.specs.Crashing.{AllLeaveAtCrash, LeavesAtCrash, WasLeft, WereTouched}
use Rattle.pf_group.specs.GroupIs.{GroupIs, IsLastStep}
use Rattle.pf_group.specs.Halves.{told_in, was_in}
use Rattle.pf_group.specs.Inside.{HaveHeads, IsGroup, IsSince, group_of, setup_in}
use Rattle.pf_group.specs.Leaving.{head_in}
use Rattle.pf_group.specs.Reacting.{RestartIsTold}
use Rattle.pf_group.specs.Standing.{AllTell, NetworkStandsFor}
use Rattle.pf_group.proofs.NetworkStands.{is_told}
use Rattle.pf_group.proofs.Faults.{at_own, faults_at, some_mapped}
use Rattle.pf_group.proofs.Quiet.{held_since}

-- one more quiet event
pub quiet_more : (earlier after history later : History) (h : Happening) → IsLastStep earlier after history → is_quiet_event h.event ≡ true → later ≡ history ++ h ∷ [] → IsLastStep earlier after later
quiet_more earlier after history later h last quiet is = record {
  step = last.step;
  since = last.since ++ h ∷ [];
  quiet = every_append (λ h. is_quiet_event h.event ≡ true) last.since (h ∷ []) last.quiet (quiet, tt);
  whole = is ∙ ap (λ l. l ++ h ∷ []) last.whole ∙ append_assoc after last.since (h ∷ []);
}

module _ {D : Type 0} where
  abbrev store_of : Server (Kept D) → Kept D
  store_of server = server.store

  abbrev halves : Kept D → D × D
  halves kept = (kept.pair.zero.disk, kept.pair.one.disk)

  -- a store that another network has in this place too
  kept_at : (old new : Network (Kept D)) (i : ℕ) (server next : Server (Kept D)) → store_at new i ≡ store_at old i → slice_get old.servers.items i ≡ Some server → slice_get new.servers.items i ≡ Some next → next.store ≡ server.store
  kept_at old new i server next same there now = same_Some next.store server.store (sym (ap (option_map store_of) now) ∙ same ∙ ap (option_map store_of) there)

  -- the beginning that was kept
  pub begun_if : (network : Network (Kept D)) (history : History) (old now new : Began D) (touches may_touch : Bool) → may_touch ≡ touches → new ≡ (if may_touch then now else old) → IsBegun network history now → IsBegunIf touches network history old new
  begun_if network history old now new false may_touch may is begun = is ∙ ap (λ b. if b then now else old) may
  begun_if network history old now new true may_touch may is begun = subst (IsBegun network history) (sym (is ∙ ap (λ b. if b then now else old) may)) begun

module _ {D : Type 0} (seen : D → Option (List ℕ)) (may_leave : D → Images) (faults moment : D → ℕ) (left_since : D → ℕ → Images) (tells tells_moments : Bool) where
  abbrev Was : Kept D → Kept D → Durable → Durable → Type 0
  Was = was_in seen faults moment left_since tells_moments

  abbrev Stands : Setup → Network (Kept D) → Group → Type 0
  Stands setup network g = Shows (kept_model seen may_leave faults moment left_since tells_moments) setup network g

  abbrev Since : (before after : Group) (began network : Network (Kept D)) → Type 0
  Since before after began network = IsSince seen faults moment left_since tells_moments before after began network

  untouched : (before after : Group) (i : ℕ) (old new : Kept D) → new ≡ old → WasTouched Was before after i old new
  untouched before after i old new same = record { between = old; first = inl refl; second = inl same }

  -- a step that touched no disks but those of its own server
  pub since_step : (setup : Setup) (before after : Group) (own : Option ℕ) (old new : Network (Kept D)) → Stands setup old before → AllTell (told_in seen) old → Touches Was before after own old new → KeepsOthers own old new → Since before after old new
  since_step setup before after own old new shows tell crash others = record {
    three = shows.three;
    told = tell;
    touched = λ i server next there now. elim (at_own own i) [
      | inl is ↦ crash i server next is there now
      | inr apart ↦ untouched before after i server.store next.store (kept_at old new i server next (others i apart) there now)
    ];
  }

  -- a step that begins now
  pub since_now : (setup : Setup) (shown g h : Group) (began network : Network (Kept D)) → began ≡ network → Stands setup network shown → AllTell (told_in seen) network → Since g h began network
  since_now setup shown g h began network is shows tell = subst (λ (b : Network (Kept D)). Since g h b network) (sym is) (record {
    three = shows.three;
    told = tell;
    touched = λ i server next there now. untouched g h i server.store next.store (kept_at network network i server next refl there now);
  })

  -- a step that began so
  pub since_as : (setup : Setup) (history earlier now : History) (after : Group) (old new began : Network (Kept D)) → began ≡ old → earlier ≡ history → replay setup now ≡ after → Since (replay setup history) after old new → Since (replay setup earlier) (replay setup now) began new
  since_as setup history earlier now after old new began same_network same_history same_state since =
      subst (λ h. Since (replay setup h) (replay setup now) began new) (sym same_history)
      (subst (λ g. Since (replay setup history) g began new) (sym same_state)
      (subst (λ (b : Network (Kept D)). Since (replay setup history) after b new) (sym same_network) since))

  -- no disk was touched since
  pub since_still : (before after : Group) (began old new : Network (Kept D)) → KeepsOthers None old new → Since before after began old → Since before after began new
  since_still before after began old new keeps since = record {
    three = since.three;
    told = since.told;
    touched = λ i server next there now.
        let at = some_mapped store_of (slice_get old.servers.items i) next.store (sym (keeps i (none-some i)) ∙ ap (option_map store_of) now) in
        subst (λ (x : Kept D). WasTouched Was before after i server.store x) at.2 (since.touched i server at.0 there at.1);
  }

  module _ (before after : Group) (i : ℕ) (head : List ℕ) where
    abbrev Left : D × D → D × D → Type 0
    Left = WasLeft seen moment left_since tells_moments head before after i

    abbrev head_at : Kept D → List ℕ
    head_at kept = kept.pair.head

    head_kept : (old new : Kept D) → (new ≡ old) ⊎ Passes Was before after i old new → head_at new ≡ head_at old
    head_kept old new went = elim went [ inl same ↦ ap head_at same | inr passes ↦ passes.left.head ]

    passed : (old new : Kept D) → head_at old ≡ head → (new ≡ old) ⊎ Passes Was before after i old new → (halves new ≡ halves old) ⊎ Left (halves old) (halves new)
    passed old new is went = elim went [
      | inl same ↦ inl (ap halves same)
      | inr passes ↦ inr (record {
        x = passes.x;
        y = passes.y;
        first = passes.first;
        second = passes.second;
        left = λ moments tell. subst (λ h. LeavesStates h (left_since new.pair.zero.disk (moment old.pair.zero.disk)) (left_since new.pair.one.disk (moment old.pair.one.disk)) passes.x passes.y) is (passes.left.left moments tell);
      })
    ]

    were_touched : (old new : Kept D) → head_at new ≡ head → WasTouched Was before after i old new → WereTouched seen moment left_since tells_moments head before after i (halves old) (halves new)
    were_touched old new is was =
        let between = sym (head_kept was.between new was.second) ∙ is in
        record {
          between = halves was.between;
          first = passed old was.between (sym (head_kept old was.between was.first) ∙ between) was.first;
          second = passed was.between new between was.second;
        }

  -- where disks of this type tell their content, those of each server do
  abbrev pub Law : Type 0
  Law = IsTrue tells → (disk : D) → IsTrue (is_some (seen disk))

  pub tell_all : Law → IsTrue tells → (network : Network (Kept D)) → AllTell (told_in seen) network
  tell_all law is network i server at = and_from _ _ (law is server.store.pair.zero.disk) (law is server.store.pair.one.disk)

  -- what holds of the fields of a group, but for the room of its past
  pub record Stood (number : ℕ) (setup : Setup) (earlier : History) (began : Network (Kept D)) (history : History) (network : Network (Kept D)) : Type 0 where
    pub stands : NetworkStandsFor (kept_model seen may_leave faults moment left_since tells_moments) tells setup history network
    pub heads : IsTrue tells → HaveHeads number network
    pub after : History
    pub last : IsLastStep earlier after history
    pub since : IsTrue tells → Since (replay setup earlier) (replay setup after) began network

  pub stood : (g : Inside D) → IsGroup seen may_leave faults moment left_since tells tells_moments g → Stood g.number (setup_in g) g.began.happenings.value g.began.network.value g.past.happenings g.network
  stood g is = record { stands = is.stands; heads = is.heads; after = is.after; last = is.last; since = is.since }

  -- an event may be carried out by the rules
  pub told_now : (g : Inside D) (is : IsGroup seen may_leave faults moment left_since tells tells_moments g) → Law → IsTrue tells → (event : GroupEvent) → RestartIsTold (told_in seen) (setup_in g) is.stands.past.group g.network event
  told_now g is law tell event =
      let few : length g.past.happenings ≤ 2 ^ 32 = omega (arith, is.past.few, is.past.counted) in
      is_told (kept_model seen may_leave faults moment left_since tells_moments) tells (setup_in g) g.past.happenings g.network is.stands tell (tell_all law tell g.network) few event

  module _ (number : ℕ) (setup : Setup) (earlier : History) (began : Network (Kept D)) (history : History) (network : Network (Kept D)) (is : Stood number setup earlier began history network) (told : Bool) (tell : IsTrue tells) where
    abbrev Now : GroupIs
    Now = group_of told faults moment number setup earlier began history network

    abbrev Leaves : (i : ℕ) → (zero one : D) → Type 0
    Leaves = LeavesAtCrash seen moment left_since tells_moments Now

    own_head : (i : ℕ) (next : Server (Kept D)) → slice_get network.servers.items i ≡ Some next → next.store.pair.head ≡ head_in Now i
    own_head i next now = is.heads tell i next now ∙ ap (head_of number) (is.stands.reached.shows.members i next now).2.seat

    its_crash : (i : ℕ) (next : Server (Kept D)) → slice_get network.servers.items i ≡ Some next → Leaves i next.store.pair.zero.disk next.store.pair.one.disk
    its_crash i next now =
        let since = is.since tell in
        let within : i < length began.servers.items = omega (arith, slice_get_within network.servers.items i next now, since.three, is.stands.reached.shows.three) in
        let there = something_there began.servers.items i within in
        record {
          old = halves there.0.store;
          told = since.told i there.0 there.1;
          began = faults_at moment began i there.0 there.1;
          now = faults_at moment network i next now;
          after = is.after;
          step = is.last;
          touched = were_touched (replay setup earlier) (replay setup is.after) i (head_in Now i) there.0.store next.store (own_head i next now) (since.touched i there.0 next there.1 now);
          same = held_since setup earlier is.after history is.last i;
        }

    -- of a server whose disks were taken out
    pub crash_leaves : (i : ℕ) (next : Server (Kept D)) → slice_get network.servers.items i ≡ Some next → (zero one : D) → zero ≡ next.store.pair.zero.disk → one ≡ next.store.pair.one.disk → Leaves i zero one
    crash_leaves i next now zero one zero_is one_is = subst (λ d. Leaves i d one) (sym zero_is) (subst (λ d. Leaves i next.store.pair.zero.disk d) (sym one_is) (its_crash i next now))

    pub all_leave : AllLeaveAtCrash seen moment left_since tells_moments Now
    all_leave i low =
        let within : i < length network.servers.items = omega (arith, low, is.stands.reached.shows.three) in
        let at = something_there network.servers.items i within in
        (at.0.store.pair.zero.disk, (at.0.store.pair.one.disk, its_crash i at.0 at.1))
