-- What a pair of halves keeps.
use Rattle.std.proofs.Common.{◌≡◌, ◌≢◌, ◌⊎◌, inl, inr, ⊎_elim, ℕ, ◌+◌, ◌≤◌, IsTrue, List, [], ◌∷◌, ◌++◌, Bool, Option, Some, IfSome, length, is_some, slice_index, refl, sym, ◌∙◌, ap, subst, arith}
use Rattle.std.proofs.lemmas.Bool.{and_parts}
use Rattle.pf_disk.specs.Causes.{Rose}
use Rattle.pf_disk.specs.Crashes.{Images}
use Rattle.pf_chunklog.specs.Records.{HalfHolds, Raw, blocks}
use Rattle.pf_chunklog.specs.Logs.{LogIsAtRest, IsOnlyRead, LeavesOnly}
use Rattle.pf_chunklog.specs.declared.log.ChunkLog.{ChunkLog}
use Rattle.pf_chunklog.proofs.Steps.{if_some, told}
use Rattle.pf_entry.specs.Records.{Durable, stored}
use Rattle.pf_entry.specs.declared.records.Record.{Record}
use Rattle.pf_server_store.specs.Stores.{IsImageOf, IsSpelledAs}
use Rattle.pf_image.specs.Halves.{half_head, of_half, other}
use Rattle.pf_image.specs.Recovery.{Content, FindsIn, IsLaterImage, IsRecoverable}
use Rattle.pf_image.specs.Current.{IsCurrent, LogIsReady}
use Rattle.pf_image.specs.Pairs.{AreLater, PairIsWhole, Leaves, current_of, format_of, pair_moved_to, place_of_pair}
use Rattle.pf_image.specs.declared.halves.Half.{Half}
use Rattle.pf_image.specs.declared.halves.Half.TheVariants.{Zero, One}
use Rattle.pf_image.specs.declared.pair.Pair.{Pair}
use Rattle.pf_image.proofs.Files.{one_content}
use Rattle.pf_image.proofs.Logs as logs
use Rattle.pf_disk_store.specs.Kept.{FindsState, HasState, IsBetween, IsKept, IsReread, IsStateIn, LeavesStates, OneRose, PairWentOn, tells}
use Rattle.pf_disk_store.proofs.States.{is_next, one_more, raw_of, saved_state, told_of}

-- a doubt between two contents is one between the states that they stand for
pub states_left : (head : List ℕ) (zero one : Images) (first last : Content) (before after : Durable) → Leaves head zero one first last → IsStateIn first before → IsStateIn last after → LeavesStates head zero one before after
states_left head on_zero on_one first last before after leaves is_first is_last = λ a b left_a left_b.
    ⊎_elim (λ found. inl (record { content = first; found = found; state = is_first })) (λ found. inr (record { content = last; found = found; state = is_last })) (leaves a b left_a left_b)

-- a restart finds one content
same_content : (head a b : List ℕ) (content : Content) (d : Durable) → FindsIn head a b content → FindsState head a b d → IsStateIn content d
same_content head a b content d mine found =
    let half = mine.found.0 in
    let taken = mine.found.1 in
    let same = one_content head a b half (half_head head taken.recoverable.format half) content.1 found.content (record { known = taken.recoverable.known; is = refl }) taken.recoverable.held taken found.found in
    subst (λ (f : ℕ). IsStateIn (f, content.1) d) (sym same.1 ∙ mine.format_is) (subst (λ (l : List Raw). IsStateIn (found.content.0, l) d) (sym same.0) found.state)

-- a crash that leaves one state leaves it or another
pub or_another : (head : List ℕ) (zero one : Images) (d another : Durable) → LeavesStates head zero one d d → LeavesStates head zero one d another
or_another head on_zero on_one d another leaves = λ a b left_a left_b. inl (⊎_elim (λ found. found) (λ found. found) (leaves a b left_a left_b))

module _ {D : Type 0} (seen : D → Option (List ℕ)) (may_leave : D → Images) where
  found_in : (head : List ℕ) (half : Half) (first second : ChunkLog D) (records : List Raw) → IsCurrent seen may_leave head half (of_half half first second) (of_half (other half) first second) records
      → (a b : List ℕ) → may_leave first.disk a → may_leave second.disk b → FindsIn head a b (slice_index (of_half half first second).head 4, records)
  found_in head Zero first second records whole a b left_a left_b =
      let takes = logs.takes seen may_leave head Zero first second records whole a b left_a left_b in
      record { found = (Zero, takes.taken); format_is = takes.format_is }
  found_in head One first second records whole a b left_a left_b =
      let takes = logs.takes seen may_leave head One second first records whole b a left_b left_a in
      record { found = (One, takes.taken); format_is = takes.format_is }

  pub whole_found : (pair : Pair D) (records : List Raw) → PairIsWhole seen may_leave pair records → (a b : List ℕ) → may_leave pair.zero.disk a → may_leave pair.one.disk b → FindsIn pair.head a b (format_of pair, records)
  whole_found pair records whole = found_in pair.head pair.current pair.zero pair.one records whole

  -- what a crash leaves
  pub left_now : (pair : Pair D) (before after : Durable) → IsKept seen may_leave pair before after → IsTrue (tells seen pair) → LeavesStates pair.head (may_leave pair.zero.disk) (may_leave pair.one.disk) before after
  left_now pair before after kept tells_it = λ a b left_a left_b. ⊎_elim
      (λ has. inl (record { content = (format_of pair, has.1.records); found = whole_found pair has.1.records has.1.whole a b left_a left_b; state = has.1.state }))
      (λ between. between.leaves a b left_a left_b)
      (kept.known tells_it)

  -- a store in one state
  pub has_one : (pair : Pair D) (d : Durable) → IsKept seen may_leave pair d d → IsTrue (tells seen pair) → HasState seen may_leave pair d
  has_one pair d kept tells_it = ⊎_elim (λ has. has.1) (λ between. absurd (between.apart refl)) (kept.known tells_it)

  -- its used bytes and its format
  pub used_is : (pair : Pair D) (d : Durable) → HasState seen may_leave pair d → (current_of pair).used ≡ d.used
  used_is pair d has = omega (arith, has.whole.rest.size, ap length has.whole.head_is, (told_of (format_of pair) has.records d has.state).used)

  pub format_is : (pair : Pair D) (d : Durable) → HasState seen may_leave pair d → format_of pair ≡ d.format
  format_is pair d has = sym (told_of (format_of pair) has.records d has.state).half

  pub tells_same : (old new : Pair D) → IsReread seen may_leave old new → tells seen new ≡ tells seen old
  tells_same old new read = let a = read.on_zero.same in let b = read.on_one.same in cc

  pub still_between : (old new : Pair D) (before after : Durable) → IsReread seen may_leave old new → IsBetween seen may_leave old before after → IsBetween seen may_leave new before after
  still_between old new before after read between = record {
    apart = between.apart;
    leaves = λ a b left_a left_b. subst (λ (h : List ℕ). FindsState h a b before ⊎ FindsState h a b after) (sym read.head) (between.leaves a b (read.on_zero.keeps a left_a) (read.on_one.keeps b left_b));
  }

  -- after an append and a save
  pub appended : (old new : Pair D) (d : Durable) (r : Record) (body : List ℕ) → format_of new ≡ format_of old → HasState seen may_leave old d → IsSpelledAs (format_of old) r body
      → ((records : List Raw) → PairIsWhole seen may_leave old records → PairIsWhole seen may_leave new (records ++ raw_of r ∷ [])) → HasState seen may_leave new (stored d r)
  appended old new d r body format has is whole = record {
    records = has.records ++ raw_of r ∷ [];
    whole = whole has.records has.whole;
    state = subst (λ (f : ℕ). IsStateIn (f, has.records ++ raw_of r ∷ []) (stored d r)) (sym format) (one_more (format_of old) has.records d r body has.state is);
  }

  pub saved : (old new : Pair D) (d : Durable) (r : Record) (body : List ℕ) → format_of new ≡ 2 → HasState seen may_leave old d → IsImageOf d r body
      → ((records : List Raw) → IsLaterImage records (raw_of r) → PairIsWhole seen may_leave old records → PairIsWhole seen may_leave new (raw_of r ∷ [])) → HasState seen may_leave new (stored d r)
  saved old new d r body format has is whole = record {
    records = raw_of r ∷ [];
    whole = whole has.records (is_next (format_of old) has.records d r body has.state is) has.whole;
    state = subst (λ (f : ℕ). IsStateIn (f, raw_of r ∷ []) (stored d r)) (sym format) (saved_state d r body is);
  }

  -- what a crash leaves inside an append and a save
  pub append_leaves : (old : Pair D) (d : Durable) (r : Record) (body head : List ℕ) (on_zero on_one : Images) → HasState seen may_leave old d → IsSpelledAs (format_of old) r body
      → ((records : List Raw) → PairIsWhole seen may_leave old records → Leaves head on_zero on_one (format_of old, records) (format_of old, records ++ raw_of r ∷ [])) → LeavesStates head on_zero on_one d (stored d r)
  append_leaves old d r body head on_zero on_one has is leaves =
      states_left head on_zero on_one (format_of old, has.records) (format_of old, has.records ++ raw_of r ∷ []) d (stored d r) (leaves has.records has.whole) has.state (one_more (format_of old) has.records d r body has.state is)

  pub save_leaves : (old : Pair D) (d : Durable) (r : Record) (body head : List ℕ) (on_zero on_one : Images) → HasState seen may_leave old d → IsImageOf d r body
      → ((records : List Raw) → IsLaterImage records (raw_of r) → PairIsWhole seen may_leave old records → Leaves head on_zero on_one (format_of old, records) (2, raw_of r ∷ [])) → LeavesStates head on_zero on_one d (stored d r)
  save_leaves old d r body head on_zero on_one has is leaves =
      states_left head on_zero on_one (format_of old, has.records) (2, raw_of r ∷ []) d (stored d r) (leaves has.records (is_next (format_of old) has.records d r body has.state is) has.whole) has.state (saved_state d r body is)

  pub in_doubt : (pair : Pair D) (before after : Durable) → before ≢ after → (IsTrue (tells seen pair) → LeavesStates pair.head (may_leave pair.zero.disk) (may_leave pair.one.disk) before after) → IsKept seen may_leave pair before after
  in_doubt pair before after apart leaves = record { ready = λ same. absurd (apart same); known = λ tells_it. inr (record { apart = apart; leaves = leaves tells_it }) }

  pub tells_as : (old new : Pair D) → is_some (seen new.zero.disk) ≡ is_some (seen old.zero.disk) → is_some (seen new.one.disk) ≡ is_some (seen old.one.disk) → tells seen new ≡ tells seen old
  tells_as old new a b = cc

  -- and answered with no records
  pub kept_err : (old new : Pair D) (before after : Durable) → IsReread seen may_leave old new → ((records : List Raw) → PairIsWhole seen may_leave old records → PairIsWhole seen may_leave new records) → format_of new ≡ format_of old
      → (LogIsReady seen may_leave (current_of old) → LogIsReady seen may_leave (current_of new)) → IsKept seen may_leave old before after → IsKept seen may_leave new before after
  kept_err old new before after read whole format ready kept = record {
    ready = λ same. ready (kept.ready same);
    known = λ tells_it. ⊎_elim
        (λ has. inl (has.0, record { records = has.1.records; whole = whole has.1.records has.1.whole; state = subst (λ (f : ℕ). IsStateIn (f, has.1.records) before) (sym format) has.1.state }))
        (λ between. inr (still_between old new before after read between))
        (kept.known (sym (tells_same old new read) ∙ tells_it));
  }

  -- the records that a reload answered are those of this state
  pub record IsSettled (pair : Pair D) (records : List Raw) (d : Durable) : Type 0 where
    pub whole : PairIsWhole seen may_leave pair records
    pub state : IsStateIn (format_of pair, records) d

  pub has_state : (pair : Pair D) (records : List Raw) (d : Durable) → IsSettled pair records d → HasState seen may_leave pair d
  has_state pair records d settled = record { records = records; whole = settled.whole; state = settled.state }

  -- what a crash left while the disks were only read
  pub read_leaves : (moment : D → ℕ) (left_since : D → ℕ → Images) (old new : Pair D) (before after : Durable) → IsKept seen may_leave old before after → IsTrue (tells seen old)
      → LeavesOnly moment left_since old.zero.disk new.zero.disk (may_leave old.zero.disk) → LeavesOnly moment left_since old.one.disk new.one.disk (may_leave old.one.disk)
      → LeavesStates old.head (left_since new.zero.disk (moment old.zero.disk)) (left_since new.one.disk (moment old.one.disk)) before after
  read_leaves moment left_since old new before after kept tells_it on_zero on_one = λ a b left_a left_b. left_now old before after kept tells_it a b (on_zero.each a left_a) (on_one.each b left_b)

  module _ (among : (disk : D) → IfSome (seen disk) (may_leave disk)) where
    -- what the disks read is what a crash may leave
    pub found_now : (pair : Pair D) (before after : Durable) → IsKept seen may_leave pair before after → IsTrue (tells seen pair) → (a b : List ℕ) → seen pair.zero.disk ≡ Some a → seen pair.one.disk ≡ Some b
        → FindsState pair.head a b before ⊎ FindsState pair.head a b after
    found_now pair before after kept tells_it a b is_a is_b =
        left_now pair before after kept tells_it a b (told (seen pair.zero.disk) a (may_leave pair.zero.disk) is_a (among pair.zero.disk)) (told (seen pair.one.disk) b (may_leave pair.one.disk) is_b (among pair.one.disk))

    -- a half is recoverable
    pub one_recovers : (pair : Pair D) (before after : Durable) → IsKept seen may_leave pair before after → IsTrue (tells seen pair) → (a b : List ℕ) → seen pair.zero.disk ≡ Some a → seen pair.one.disk ≡ Some b
        → (half : Half) × (records : List Raw) × IsRecoverable pair.head half (of_half half a b) records
    one_recovers pair before after kept tells_it a b is_a is_b =
        let recovers : (d : Durable) → FindsState pair.head a b d → (half : Half) × (records : List Raw) × IsRecoverable pair.head half (of_half half a b) records =
        λ d found. (found.found.found.0, found.content.1, found.found.found.1.recoverable) in
        ⊎_elim (recovers before) (recovers after) (found_now pair before after kept tells_it a b is_a is_b)

    module _ (old new : Pair D) (records : List Raw) (read : IsReread seen may_leave old new) (whole : IfSome (seen old.zero.disk) (λ _. IfSome (seen old.one.disk) (λ _. PairIsWhole seen may_leave new records))) where
      settled : (d : Durable) (a b : List ℕ) → seen old.zero.disk ≡ Some a → seen old.one.disk ≡ Some b → FindsState old.head a b d → IsSettled new records d
      settled d a b is_a is_b found =
          let now : PairIsWhole seen may_leave new records = told (seen old.one.disk) b _ is_b (told (seen old.zero.disk) a _ is_a whole) in
          let left_a = told (seen new.zero.disk) a (may_leave new.zero.disk) (read.on_zero.same ∙ is_a) (among new.zero.disk) in
          let left_b = told (seen new.one.disk) b (may_leave new.one.disk) (read.on_one.same ∙ is_b) (among new.one.disk) in
          record {
            whole = now;
            state = same_content new.head a b (format_of new, records) d (whole_found new records now a b left_a left_b) (subst (λ (h : List ℕ). FindsState h a b d) (sym read.head) found);
          }

      -- after a reload one of the two states is there
      pub one_settled : (before after : Durable) → IsKept seen may_leave old before after → IsTrue (tells seen old) → (d : Durable) × (d ≡ before ⊎ d ≡ after) × IsSettled new records d
      one_settled before after kept tells_it =
          let both = and_parts (is_some (seen old.zero.disk)) (is_some (seen old.one.disk)) tells_it in
          let a = logs.told_file (seen old.zero.disk) both.0 in
          let b = logs.told_file (seen old.one.disk) both.1 in
          ⊎_elim (λ found. (before, inl refl, settled before a.0 b.0 a.1 b.1 found)) (λ found. (after, inr refl, settled after a.0 b.0 a.1 b.1 found)) (found_now old before after kept tells_it a.0 b.0 a.1 b.1)

      pub whole_now : IsTrue (tells seen new) → PairIsWhole seen may_leave new records
      whole_now tells_it =
          let both = and_parts (is_some (seen old.zero.disk)) (is_some (seen old.one.disk)) (sym (tells_same old new read) ∙ tells_it) in
          let a = logs.told_file (seen old.zero.disk) both.0 in
          let b = logs.told_file (seen old.one.disk) both.1 in
          told (seen old.one.disk) b.0 _ b.1 (told (seen old.zero.disk) a.0 _ a.1 whole)

      -- a state that was there is there still
      pub same_state : (d : Durable) → IsKept seen may_leave old d d → IsTrue (tells seen old) → HasState seen may_leave new d
      same_state d kept tells_it =
          let settled_in = one_settled d d kept tells_it in
          subst (λ (x : Durable). HasState seen may_leave new x) (⊎_elim (λ is. is) (λ is. is) settled_in.1) (has_state new records settled_in.0 settled_in.2)

      pub kept_ok : (before after : Durable) → LogIsReady seen may_leave (current_of new) → IsKept seen may_leave old before after → IsKept seen may_leave new before after
      kept_ok before after ready kept = record {
        ready = λ same. ready;
        known = λ tells_it.
            let told_it = sym (tells_same old new read) ∙ tells_it in
            ⊎_elim (λ has. inl (has.0, same_state before (subst (λ (x : Durable). IsKept seen may_leave old before x) (sym has.0) kept) told_it)) (λ between. inr (still_between old new before after read between)) (kept.known told_it);
      }

-- a store in one state, for which more can be appended
pub kept_in : {D : Type 0} (seen : D → Option (List ℕ)) (may_leave : D → Images) (pair : Pair D) (d : Durable) → LogIsReady seen may_leave (current_of pair) → (IsTrue (tells seen pair) → HasState seen may_leave pair d)
    → IsKept seen may_leave pair d d
kept_in seen may_leave pair d ready has = record { ready = λ same. ready; known = λ tells_it. inl (refl, has tells_it) }

rose_later : (before now next : ℕ) → before ≤ now → Rose now next → Rose before next
rose_later before now next le rose = omega (arith, le, rose)

-- a count that rises after a reading has risen since before it
pub one_rose_later : {D : Type 0} (faults : D → ℕ) (old new next : Pair D) → AreLater faults old new → OneRose faults new next → OneRose faults old next
one_rose_later faults old new next le rose = ⊎_elim (λ zero. inl (rose_later _ _ _ le.zero zero)) (λ one. inr (rose_later _ _ _ le.one one)) rose

-- a pair that went back to where it stood, after calls that only read its disks
module _ {D : Type 0} (seen : D → Option (List ℕ)) (may_leave : D → Images) (old read : Pair D) (only : IsReread seen may_leave old read) where
  abbrev pub back : Pair D
  back = pair_moved_to read (place_of_pair old)

  whole_in : (h : Half) (records : List Raw) → IsCurrent seen may_leave old.head h (of_half h old.zero old.one) (of_half (other h) old.zero old.one) records
      → IsCurrent seen may_leave old.head h (of_half h back.zero back.one) (of_half (other h) back.zero back.one) records
  whole_in Zero records whole = logs.only_read seen may_leave old.head Zero old.zero old.one records whole back.zero back.one refl refl only.on_zero.same only.on_zero.keeps only.on_one.same only.on_one.keeps
  whole_in One records whole = logs.only_read seen may_leave old.head One old.one old.zero records whole back.one back.zero refl refl only.on_one.same only.on_one.keeps only.on_zero.same only.on_zero.keeps

  whole_back : (records : List Raw) → PairIsWhole seen may_leave old records → PairIsWhole seen may_leave back records
  whole_back records whole = subst (λ (h : List ℕ). IsCurrent seen may_leave h old.current (of_half old.current back.zero back.one) (of_half (other old.current) back.zero back.one) records) (sym only.head) (whole_in old.current records whole)

  ready_log : (log new : ChunkLog D) → new.head ≡ log.head → new.used ≡ log.used → IsOnlyRead seen may_leave log.disk new.disk → LogIsReady seen may_leave log → LogIsReady seen may_leave new
  ready_log log new head used its ready =
      if_some (seen new.disk) (λ file. (records : List Raw) × LogIsAtRest new.head new.used (may_leave new.disk) records file) (λ file is.
      let had = told (seen log.disk) file (λ (f : List ℕ). (records : List Raw) × LogIsAtRest log.head log.used (may_leave log.disk) records f) (sym its.same ∙ is) ready in (
        had.0,
        record {
          held = subst (λ (h : List ℕ). HalfHolds h had.0 file) (sym head) had.1.held;
          size = used ∙ had.1.size ∙ ap (λ (h : List ℕ). length h + length (blocks had.0) + 1) (sym head);
          durable = λ c left. had.1.durable c (its.keeps c left);
        },
      ))

  ready_in : (h : Half) → LogIsReady seen may_leave (of_half h old.zero old.one) → LogIsReady seen may_leave (of_half h back.zero back.one)
  ready_in Zero ready = ready_log old.zero back.zero refl refl only.on_zero ready
  ready_in One ready = ready_log old.one back.one refl refl only.on_one ready

  head_in : (h : Half) → (of_half h back.zero back.one).head ≡ (of_half h old.zero old.one).head
  head_in Zero = refl
  head_in One = refl

  used_in : (h : Half) → (of_half h back.zero back.one).used ≡ (of_half h old.zero old.one).used
  used_in Zero = refl
  used_in One = refl

  pub format_back : format_of back ≡ format_of old
  format_back = ap (λ (l : List ℕ). slice_index l 4) (head_in old.current)

  pub used_back : (current_of back).used ≡ (current_of old).used
  used_back = used_in old.current

  reread_back : IsReread seen may_leave old back
  reread_back = record { head = only.head; on_zero = only.on_zero; on_one = only.on_one }

  pub kept_back : (before after : Durable) → IsKept seen may_leave old before after → IsKept seen may_leave back before after
  kept_back before after kept = kept_err seen may_leave old back before after reread_back whole_back format_back (ready_in old.current) kept

  pub went_back : (faults moment : D → ℕ) (left_since : D → ℕ → Images) (tells_moments : Bool) (before after : Durable) → PairWentOn seen faults moment left_since tells_moments old read before after → PairWentOn seen faults moment left_since tells_moments old back before after
  went_back faults moment left_since tells_moments before after went = record { head = went.head; later = record { zero = went.later.zero; one = went.later.one }; left = went.left }
