-- What a group shows is what its network does.
use Rattle.std.proofs.Common.{◌≡◌, ◌≢◌, Bor, ℕ, ◌<◌, ◌≤◌, ◌↔◌, Bool, true, false, not, ◌||◌, IfNone, IfSome, IsTrue, MatchOption, List, length, map, Option, Some, None, Result, Ok, Err, option_copied, ok_or, option_map, nat_lt, slice_get, slice_set, refl, sym, ap, subst, ◌∙◌}
use Rattle.std.proofs.lemmas.Bool.{true≢false}
use Rattle.std.proofs.lemmas.Option.{none-some, same_Some, slice_get-map, slice_get_within}
use Rattle.std.specs.Result.{result_ok}
use Rattle.pf_entry.specs.declared.entries.Entry.{Entry}
use Rattle.pf_entry.specs.Maps.{Map, Numbers}
use Rattle.pf_entry.specs.Ops.{Sector}
use Rattle.pf_entry.specs.Sets
use Rattle.pf_holes.specs.HoleLogs.{Holes}
use Rattle.pf_protocol.specs.Groups.{Group, Sent}
use Rattle.pf_protocol.specs.Histories.{History, replay}
use Rattle.pf_protocol.specs.Servers.{Setup, Server as ServerIs, has_applied}
use Rattle.pf_server_memory.specs.declared.running.Running.{Running}
use Rattle.pf_server_memory.specs.Standing.{server_of}
use Rattle.pf_server_memory.proofs.AppliedSlots.{is_applied_here}
use Rattle.pf_disk_store.specs.declared.kept.Kept.{Kept}
use Rattle.pf_group_network.specs.declared.network.Network.{Network}
use Rattle.pf_group_network.specs.declared.kept.Parcel.{Parcel}
use Rattle.pf_group_network.specs.Showing.{HasAnswer, parcel_of, taken_of}
use Rattle.pf_entry.specs.Lists.{Every}
use Rattle.pf_group_network.specs.Shown.{Idles, IsLeader, IsMemoryOf, IsRunningAt, TakesRead}
use Rattle.pf_group.specs.declared.errors.Down.{Down}
use Rattle.pf_group.specs.GroupIs.{GroupIs}
use Rattle.pf_group.specs.Halves.{all_counts}
use Rattle.pf_group.specs.Inside.{group_of}
use Rattle.pf_group.specs.Readers.{GroupHasTaken, IsAppliedOf, LacksAnswer, OfRunning, ServerTells, holes_of, is_left}

abbrev IsLeftIn : List Parcel → ℕ → Type 0
IsLeftIn parcels k = (parcel : Parcel) × (slice_get parcels k ≡ Some parcel) × (parcel.delivered ≡ false) × (parcel.lost ≡ false)

-- a packet is left where its parcel is
pub left_is : (packets : List Sent) (parcels : List Parcel) (k : ℕ) (result : Bool) → parcels ≡ map parcel_of packets → (IsTrue result ↔ IsLeftIn parcels k) → result ≡ is_left (slice_get packets k)
left_is packets parcels k result are told = by result (slice_get packets k) (ap (λ xs. slice_get xs k) are ∙ slice_get-map parcel_of packets k) told
  where
    neither : (a b : Bool) → a ≡ false → b ≡ false → true ≡ not (a || b)
    neither true b first second = absurd (true≢false first)
    neither false true first second = absurd (true≢false second)
    neither false false first second = refl

    some : (a b : Bool) → (a ≡ false → b ≡ false → false ≡ true) → false ≡ not (a || b)
    some true b not_both = refl
    some false true not_both = refl
    some false false not_both = not_both refl refl

    by : (result : Bool) (o : Option Sent) → slice_get parcels k ≡ option_map parcel_of o → (IsTrue result ↔ IsLeftIn parcels k) → result ≡ is_left o
    by true (Some sent) at told =
        let there = told.0 refl in
        let same : there.0 ≡ parcel_of sent = same_Some there.0 (parcel_of sent) (sym there.1 ∙ at) in
        neither sent.delivered sent.lost (ap (λ (p : Parcel). p.delivered) (sym same) ∙ there.2) (ap (λ (p : Parcel). p.lost) (sym same) ∙ there.3)
    by true None at told = let there = told.0 refl in absurd (none-some there.0 (sym at ∙ there.1))
    by false (Some sent) at told = some sent.delivered sent.lost (λ first second. told.1 (parcel_of sent, at, first, second))
    by false None at told = refl

-- and it was sent
pub left_there : (parcels : List Parcel) (k : ℕ) (result : Bool) → (IsTrue result ↔ IsLeftIn parcels k) → IsTrue result → k < length parcels
left_there parcels k result told is = let there = told.0 is in slice_get_within parcels k there.0 there.1

-- whoever serves is one of the three
pub leader_low : (g : Group) (o : Option (ℕ × ℕ)) → IsLeader g o → IfSome o (λ served. served.1 < 3)
leader_low g (Some (term, i)) is = is.0.low
leader_low g None is = tt

-- what a server has in memory, if it runs
pub memory_told : {X : Type 0} → (running : X → Running) (g : Group) (i : ℕ) (o : Option X) (down : Down) → MatchOption o (Idles g i) (λ x. IsRunningAt g i (running x)) → ServerTells g i (ok_or o down) (λ x s. IsMemoryOf (running x) s)
memory_told running g i (Some x) down at = (at.s, at.runs, at.memory)
memory_told running g i None down idles = idles

-- an entry or a snapshot that was looked up
pub copied_is : {X : Type 0} → (found : Option (Bor X)) (there : Option X) → MatchOption found (there ≡ None) (λ x. there ≡ Some x.now) → option_copied found ≡ there
copied_is (Some x) there is = sym is
copied_is None there is = sym is

abbrev holes_with : (base : ℕ) → Map Entry → (committed : Numbers) → Holes
holes_with base entries committed = record { base = base; entries = entries; committed = committed }

-- what stands in memory is what the rules have
module _ (me : Running) (s : ServerIs) (is : IsMemoryOf me s) where
  pub its_committed : me.log.committed ≡ s.committed
  unfolding server_of
  its_committed = ap (λ (x : ServerIs). x.committed) is.server_is

  pub its_holes : me.log ≡ holes_of s
  its_holes = ap (λ base. holes_with base me.log.entries me.log.committed) is.cached.base ∙ ap (λ log. holes_with s.durable.base log me.log.committed) is.cached.log ∙ ap (holes_with s.durable.base s.durable.log) its_committed

  applied_above : Sets.retain me.applied.slots (nat_lt me.log.base) ≡ s.applied
  unfolding server_of
  applied_above = ap (λ (x : ServerIs). x.applied) is.server_is

  pub its_applied : IsAppliedOf me.applied.slots s
  its_applied =
      let above : Sets.retain me.applied.slots (nat_lt s.durable.base) ≡ s.applied = ap (λ base. Sets.retain me.applied.slots (nat_lt base)) (sym is.cached.base) ∙ applied_above in
      record {
        above = above;
        each = λ slot some. is_applied_here me.applied.slots s.durable.base slot some (λ q low high. is.cached.prefix q low (subst (λ base. q ≤ base) (sym is.cached.base) high)) ∙ ap (λ applied. has_applied (record s { applied = applied }) slot) above;
      }

  pub its_sectors : me.sectors ≡ s.sectors
  unfolding server_of
  its_sectors = ap (λ (x : ServerIs). x.sectors) is.server_is

  pub its_snapshots : me.snapshots ≡ s.snapshots
  unfolding server_of
  its_snapshots = ap (λ (x : ServerIs). x.snapshots) is.server_is

-- what was told of a server that runs
pub ok_told : {X : Type 0} → (P : X → ServerIs → Type 0) (g : Group) (i : ℕ) (told : Result X Down) (x : X) → Some x ≡ result_ok told → ServerTells g i told P → OfRunning g i (P x)
ok_told P g i (Ok y) x is at = subst (λ z. OfRunning g i (P z)) (sym (same_Some x y is)) at
ok_told P g i (Err down) x is at = absurd (none-some x (sym is))

-- what follows where there is nothing
pub if_none : {X A B : Type 0} → (o : Option X) → (A → B) → IfNone o A → IfNone o B
if_none None then is = then is
if_none (Some x) then is = tt

module _ {D : Type 0} (tells : Bool) (faults moment : D → ℕ) (number : ℕ) (setup : Setup) (earlier : History) (began : Network (Kept D)) (history : History) (old new : Network (Kept D)) where
  abbrev before : GroupIs
  before = group_of tells faults moment number setup earlier began history old

  abbrev after : GroupIs
  after = group_of tells faults moment number setup earlier began history new

  -- of the network, its reads alone have changed
  pub now_taken : (taken : List Bool) → new ≡ record old { readings = new.readings } → taken_of new ≡ taken → after ≡ record before { taken = taken }
  now_taken taken same is =
      ap (λ taken. record after { taken = taken }) is
      ∙ ap (λ (servers : Network (Kept D)). record before { taken = taken; faults = all_counts faults servers; time = record before.time { now = all_counts moment servers } }) same

  -- where its disks tell their content, the group is the state after the history
  module _ (g : Group) (is : IsTrue tells → g ≡ replay setup history) (read : ℕ) (same : new ≡ record old { readings = new.readings }) where
    pub has_taken : (o : Option (List Sector)) → TakesRead g read (taken_of old) (taken_of new) o → IfSome o (λ bytes. GroupHasTaken before read bytes after)
    has_taken (Some bytes) takes = record { first = takes.0; answer = λ tell. subst (λ (x : Group). HasAnswer x.answered read bytes) (is tell) takes.1; is = now_taken (slice_set before.taken read true) same takes.2 }
    has_taken None takes = tt

    pub lacks_answer : (o : Option (List Sector)) → TakesRead g read (taken_of old) (taken_of new) o → IfNone o (LacksAnswer before read)
    lacks_answer (Some bytes) takes = tt
    lacks_answer None takes = λ tell. subst (λ (x : Group). slice_get (taken_of old) read ≡ Some false → Every (λ a. a.number ≢ read) x.answered) (is tell) takes.0
