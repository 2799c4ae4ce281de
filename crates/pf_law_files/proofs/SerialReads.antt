-- Where calls are one at a time, a read of a file gives what the calls before it have left.
use Rattle.std.proofs.Common.{◌≡◌, ◌≢◌, ◌⊎◌, inl, inr, ℕ, suc, ◌<◌, ◌==◌, if◌then◌else◌, List, [], ◌∷◌, ◌++◌, length, Option, Some, None, arith, refl, sym, ap, subst, ◌∙◌}
use Rattle.std.proofs.lemmas.Bool.{cases_eq, cond-false, cond-true, eq-eqb, ne_eqb}
use Rattle.std.proofs.lemmas.List.{append_assoc}
use Rattle.std.proofs.lemmas.Option.{none-some, same_Some}
use Rattle.pf_entry.proofs.Cases.{by_test}
use Rattle.pf_volume.specs.Volumes.{Extent, IsVolume}
use Rattle.pf_file_calls.specs.declared.answers.CallAnswer.{CallAnswer}
use Rattle.pf_file_calls.specs.declared.calls.Pending.{Pending}
use Rattle.pf_law_contents.specs.Contents.{contents_after}
use Rattle.pf_law_contents.specs.Going.{IsReadOf, IsRefusal, tree_of}
use Rattle.pf_law_contents.specs.Serial.{AreSerial}
use Rattle.pf_law_contents.proofs.SerialCalls.{reads_go_over_ports}
use Rattle.pf_journal.specs.declared.layouts.Layout.{Layout}
use Rattle.pf_journal.specs.Layouts.{VolumeHasRoom}
use Rattle.pf_mount_errands.specs.Positions.{anchors_of}
use Rattle.pf_mount.specs.declared.work.MountNext.{MountNext}
use Rattle.pf_mount.specs.declared.work.MountNext.TheVariants.{Done, Failed, Ready}
use Rattle.pf_mount.specs.Lives.{CallsOn, IsAtCall}
use Rattle.pf_mount.specs.Mounts.{MountIs, mount_answered, asked_anchor, asked_data, starting}
use Rattle.pf_mount.proofs.CallsEndOnce.{calling_goes_on, starting_goes_on}
use Rattle.pf_law_homes.specs.Chunks.{ChunkGroups, groups_in}
use Rattle.pf_law_homes.specs.Ports.{deeds_on}
use Rattle.pf_law_homes.specs.Routed.{AreRoutedChunks}
use Rattle.pf_law_calls.specs.Doings.{HaveRegisters, IsListOf}
use Rattle.pf_law_calls.specs.Lives.{Asks, Begins, CanBe, Hears, Input, Life, MountTold, all_opened, lived, lives, lives_from, lives_on as goes, mount_after}
use Rattle.pf_law_calls.specs.Trees.{data_blocks}
use Rattle.pf_law_calls.proofs.Parts.{can_after, lives_on}
use Rattle.pf_law_calls.specs.Answering.{next_by}
use Rattle.pf_law_calls.specs.Since.{called}
use Rattle.pf_law_events.specs.Events.{MountsAreServed, Brings, HandsOn, Happening, port_events, mounts_told}
use Rattle.pf_law_files.specs.Blocks.{is_data_piece}
use Rattle.pf_law_files.specs.Calls.{AreOneAtATime, HaveEnded, ReadsGiveContents, WentOneByOne, data_in, done_calls}
use Rattle.pf_law_files.proofs.MountAsks.{still_rests}
use Rattle.pf_law_files.proofs.SerialAsks.{AreOneThrough, HaveOne, data_serial, one_on, one_through}

-- A mount has no call pending, or it is at work on one

abbrev HasCall : MountIs → Type 0
HasCall x = (x.files.pending ≡ None) ⊎ ((p : Pending) × IsAtCall p x)

calls_then : (p : Pending) (y : MountIs) (next : Option MountNext) → CallsOn p y next → HasCall y
calls_then p y None is = inr (p, is)
calls_then p y (Some Ready) is = absurd is
calls_then p y (Some Failed) is = absurd is
calls_then p y (Some (Done answer)) is = inl is.call

input_has : (x : MountIs) (input : Input) → HasCall x → HasCall (mount_after x input)
input_has x (Begins call) has = calls_then (record { number = suc x.files.calls; call = call }) (starting x call).mount (starting x call).next (starting_goes_on x call)
input_has x (Asks port) (inl none) = inl (still_rests x (Asks port) tt none)
input_has x (Asks port) (inr its) =
    by_test (port == anchors_of x.position) (λ b. HasCall (if b then asked_data x else asked_anchor x port))
    (λ _. inr (its.0, record { call = its.1.call; work = its.1.work })) (λ _. inr (its.0, record { call = its.1.call; work = its.1.work }))
input_has x (Hears port reply) (inl none) = inl (still_rests x (Hears port reply) tt none)
input_has x (Hears port reply) (inr its) = calls_then its.0 (mount_answered x port reply).mount (mount_answered x port reply).next (calling_goes_on x port reply its.0 its.1)

all_has : (told : List MountTold) (ls : ℕ → Life) (m : ℕ) → HasCall (ls m).mount → HasCall (lives_from ls told m).mount
all_has [] ls m has = has
all_has (t ∷ told) ls m has = all_has told (lived ls t) m (by_test (m == t.mount) (λ b. HasCall (if b then goes (ls m) t.input else ls m).mount) (λ _. input_has (ls m).mount t.input has) (λ _. has))

-- where its call ends it has none
done_none : (p : Pending) (y : MountIs) (next : Option MountNext) (answer : CallAnswer) → next ≡ Some (Done answer) → CallsOn p y next → y.files.pending ≡ None
done_none p y None answer is goes = absurd (none-some (Done answer) is)
done_none p y (Some Ready) answer is goes = absurd goes
done_none p y (Some Failed) answer is goes = absurd goes
done_none p y (Some (Done its)) answer is goes = goes.call

ends_none : (x : MountIs) (input : Input) (answer : CallAnswer) (call : Pending) → HasCall x → next_by x input ≡ Some (Done answer) → called x input ≡ Some call → (mount_after x input).files.pending ≡ None
ends_none x (Begins call) answer its has ends was = done_none (record { number = suc x.files.calls; call = call }) (starting x call).mount (starting x call).next answer ends (starting_goes_on x call)
ends_none x (Asks port) answer its has ends was = absurd (none-some (Done answer) ends)
ends_none x (Hears port reply) answer its (inl none) ends was = absurd (none-some its (sym none ∙ was))
ends_none x (Hears port reply) answer its (inr has) ends was = done_none has.0 (mount_answered x port reply).mount (mount_answered x port reply).next answer ends (calling_goes_on x port reply has.0 has.1)

-- Where calls are one at a time and one ends, all have ended

all_one : (told : List MountTold) (ls : ℕ → Life) → AreOneThrough ls told → HaveOne ls → HaveOne (lives_from ls told)
all_one [] ls ones one = one
all_one (t ∷ told) ls ones one =
    all_one told (lived ls t) (λ k. ones (suc k)) (one_on ls t one (λ call is. ones 0 t.mount call (ap (λ input. Some (record { mount = t.mount; input = input })) is)))

module _ (layout : Layout) (v : Extent) (before : List MountTold) (m : ℕ) (input : Input) where
  abbrev t : MountTold
  t = record { mount = m; input = input }

  abbrev now : List MountTold
  now = before ++ t ∷ []

  abbrev x : MountIs
  x = (lives layout v before m).mount

  module _ (ones : AreOneAtATime layout v now) where
    ones_before : AreOneAtATime layout v before
    ones_before first rest n call same = ones first (rest ++ t ∷ []) n call (ap (λ told. told ++ t ∷ []) same ∙ append_assoc first (record { mount = n; input = Begins call } ∷ rest) (t ∷ []))

    one_before : HaveOne (lives layout v before)
    one_before = all_one before (all_opened layout v) (one_through layout v before ones_before) (record { mount = 0; only = λ k small other. refl })

    -- none of the other mounts has a call pending, where this one is at one
    others_rest : m < 16 → (call : Pending) → x.files.pending ≡ Some call → (n : ℕ) → n < 16 → n ≢ m → (lives layout v before n).mount.files.pending ≡ None
    others_rest low call was n small other = elim (cases_eq m one_before.mount) [
      | inl here ↦ one_before.only n small (λ same. other (same ∙ sym here))
      | inr apart ↦ absurd (none-some call (sym (one_before.only m low apart) ∙ was))
    ]

    others_none : m < 16 → (its : Input) → input ≡ its → (call : Pending) → called x its ≡ Some call → (n : ℕ) → n < 16 → n ≢ m → (lives layout v before n).mount.files.pending ≡ None
    others_none low (Begins its) is call was n small other = ones before [] m its (ap (λ i. before ++ record { mount = m; input = i } ∷ []) is) n small
    others_none low (Asks port) is call was n small other = others_rest low call was n small other
    others_none low (Hears port reply) is call was n small other = others_rest low call was n small other

    have_ended : m < 16 → (answer : CallAnswer) (call : Pending) → next_by x input ≡ Some (Done answer) → called x input ≡ Some call → HaveEnded layout v now
    have_ended low answer call ends was n small =
        let on : lives layout v now n ≡ lived (lives layout v before) t n = ap (λ (ls : ℕ → Life). ls n) (lives_on (all_opened layout v) before (t ∷ [])) in
        ap (λ (life : Life). life.mount.files.pending) on ∙ elim (cases_eq n m) [
          | inl here ↦
              ap (λ k. (lived (lives layout v before) t k).mount.files.pending) here
              ∙ ap (λ (life : Life). life.mount.files.pending) (cond-true (m == m) (goes (lives layout v before m) input) (lives layout v before m) (eq-eqb m m refl))
              ∙ ends_none x input answer call (all_has before (all_opened layout v) m (inl refl)) ends was
          | inr other ↦
              ap (λ (life : Life). life.mount.files.pending) (cond-false (n == m) (goes (lives layout v before n) input) (lives layout v before n) (ne_eqb n m other))
              ∙ others_none low input refl call was n small other
        ]

-- Happenings up to something that was told

same_told : (t u : MountTold) (told us : List MountTold) → t ≡ u → told ≡ us → t ∷ told ≡ u ∷ us
same_told t u told us one rest = cc

same_whole : (h : Happening) (hs first rest : List Happening) → hs ≡ first ++ rest → h ∷ hs ≡ h ∷ (first ++ rest)
same_whole h hs first rest same = cc

record IsCut (hs : List Happening) (told : List MountTold) : Type 0 where
  first : List Happening
  rest : List Happening
  whole : hs ≡ first ++ rest
  told_is : mounts_told first ≡ told

cut : (hs : List Happening) (told more : List MountTold) → mounts_told hs ≡ told ++ more → IsCut hs told
cut hs [] more same = record { first = []; rest = hs; whole = refl; told_is = refl }
cut [] (t ∷ told) more same = absurd (cc)
cut (HandsOn m port epoch place ∷ hs) (t ∷ told) more same =
    let c = cut hs (t ∷ told) more same in
    record { first = HandsOn m port epoch place ∷ c.first; rest = c.rest; whole = same_whole (HandsOn m port epoch place) hs c.first c.rest c.whole; told_is = c.told_is }
cut (Brings u epoch by answer ∷ hs) (t ∷ told) more same =
    let one : u ≡ t = cc in
    let rest : mounts_told hs ≡ told ++ more = cc in
    let c = cut hs told more rest in
    record { first = Brings u epoch by answer ∷ c.first; rest = c.rest; whole = same_whole (Brings u epoch by answer) hs c.first c.rest c.whole; told_is = same_told u t (mounts_told c.first) told one c.told_is }

-- The law

-- each call that ends went so, after those before it
abbrev pub GoOneByOneIn : Layout → Extent → List MountTold → Type 0
GoOneByOneIn layout v told =
    (before after : List MountTold) (m : ℕ) (input : Input) (answer : CallAnswer) → told ≡ before ++ record { mount = m; input = input } ∷ after → next_by (lives layout v before m).mount input ≡ Some (Done answer)
    → (let now = before ++ record { mount = m; input = input } ∷ [] in AreOneAtATime layout v now → WentOneByOne v (data_blocks layout v) m (done_calls layout v before) (called (lives layout v before m).mount input) (data_in layout v now) answer)

pub reads_contents : (layout : Layout) (v : Extent) (hs : List Happening) (list : List (List ℕ)) (groups : (chunk : ℕ) → ChunkGroups) → IsVolume v → VolumeHasRoom layout v → MountsAreServed layout v hs → HaveRegisters layout v (mounts_told hs) → IsListOf layout v (mounts_told hs) list
    → AreRoutedChunks v groups (port_events layout v hs) → GoOneByOneIn layout v (mounts_told hs) → ReadsGiveContents layout v (mounts_told hs)
reads_contents layout v hs list groups volume room are registers is routed go before after m input call p offset count answer same ends was reads ones =
    let t : MountTold = record { mount = m; input = input } in
    let now = before ++ t ∷ [] in
    let d = data_blocks layout v in
    let done = done_calls layout v before in
    let went = go before after m input answer same ends ones in
    let c = cut hs now after (same ∙ sym (append_assoc before (t ∷ []) after)) in
    let low : m < 16 = (can_after (all_opened layout v) before (t ∷ after) (subst (CanBe layout v) same are.can_be)).0.number in
    let ended = have_ended layout v before m input ones low answer call ends was in
    let served = data_serial layout v volume room list groups hs are registers is routed c.first c.rest c.whole (subst (AreOneAtATime layout v) (sym c.told_is) ones) (subst (HaveEnded layout v) (sym c.told_is) ended) in
    let deeds = deeds_on (port_events layout v hs) in
    let serial = subst (λ came. AreSerial (is_data_piece layout v) deeds 0 came (length (port_events layout v c.first))) (ap (data_in layout v) c.told_is ∙ sym went.data_are) served.1 in
    let own : went.call ≡ call = same_Some went.call call (sym went.was ∙ was) in
    subst (λ calls. IsRefusal answer ⊎ IsReadOf (tree_of d calls) (contents_after calls) p offset count answer) went.done_are
    (reads_go_over_ports v (let some = volume.some_sectors in omega (arith, some)) d (is_data_piece layout v) (λ chunk. groups_in (groups chunk)) deeds served.0 went.calls went.left went.next went.are went.go m went.call p offset count went.came answer
    (ap (λ (x : Pending). x.call) own ∙ reads) went.asks (length (port_events layout v c.first)) serial)
