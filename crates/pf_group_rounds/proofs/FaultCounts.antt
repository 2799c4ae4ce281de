-- As many faults of the disks of a server as steps of it that were cut off.
use Rattle.std.proofs.Common.{◌≡◌, ◌⊎◌, inl, inr, ℕ, suc, ◌+◌, ◌≤◌, Bool, true, false, ◌==◌, nat_lt, List, [], ◌∷◌, ◌++◌, length, count_by, Some, slice_get, arith, refl, sym, ap, subst, ◌∙◌}
use Rattle.std.specs.Prelude.{IsTrue}
use Rattle.std.proofs.lemmas.Bool.{and_parts, eqb-false, eqb-true, ltb-false, ltb-true, ne_eqb}
use Rattle.std.proofs.lemmas.List.Sums.{sum_by-cons}
use Rattle.std.proofs.lemmas.Option.{none-some, same_Some, slice_get_cases, slice_get_past}
use Rattle.pf_disk.specs.Causes.{Rose}
use Rattle.pf_entry.specs.Lists.{Every}
use Rattle.pf_entry.specs.Tables.{ascends, ascends_from}
use Rattle.pf_protocol.specs.declared.answers.Answer.{Answer}
use Rattle.pf_protocol.specs.declared.answers.Answer.TheVariants.{Refused}
use Rattle.pf_protocol.specs.declared.answers.Refusal.TheVariants.{Halted}
use Rattle.pf_protocol.specs.declared.events.Event.{Event}
use Rattle.pf_protocol.specs.declared.events.Happening.{Happening}
use Rattle.pf_protocol.specs.Groups.{opening}
use Rattle.pf_group.specs.pf_group_network.specs.Going.{acts_at}
use Rattle.pf_group.specs.declared.event.GroupEvent.{GroupEvent}
use Rattle.pf_group.specs.declared.event.GroupEvent.TheVariants as asked
use Rattle.pf_group.specs.GroupIs.{GroupIs, state_of}
use Rattle.pf_group.specs.Halves.{AreLater, EitherRose, HasRisen}
use Rattle.pf_group.specs.Making.{GroupIsMade}
use Rattle.pf_group.specs.Steps.{IsLeftWithoutMemory, IsNoRestart, GroupSteps}
use Rattle.pf_group_rounds.specs.Agreeing.{is_halted}
use Rattle.pf_group_rounds.specs.Growing.{ArePaid, HasGrown, IsLastCount, IsPaid, IsPaidSince, Pays, halts_in}
use Rattle.pf_group_rounds.specs.Telling.{halted_at, one_if}
use Rattle.pf_group_rounds.proofs.FollowedHistories.{halted_is}
use Rattle.pf_group_rounds.proofs.HaltCounts.{halts_counted, halts_elsewhere, halts_rise, halts_stay}

-- the two disks of one server: no halt more
paid_still : (n m : ℕ) (x y : ℕ × ℕ) → m ≡ n → (x.0 ≤ y.0) × (x.1 ≤ y.1) → IsPaid n m x y
paid_still n m x y same le = record { zero = le.0; one = le.1; enough = inl (omega (arith, same, le.0, le.1)) }

-- a count rose, or stands at its last value
rose_or_last : (before now : ℕ) → Rose before now → (before + 1 ≤ now) ⊎ IsLastCount now
rose_or_last before now rose = by (nat_lt before now) refl
  where
    by : (b : Bool) → nat_lt before now ≡ b → (before + 1 ≤ now) ⊎ IsLastCount now
    by true above = let lt = ltb-true before now above in inl (omega (arith, lt))
    by false still = let low = ltb-false before now still in inr (omega (arith, rose, low))

-- one halt more, and one fault more
paid_risen : (n m : ℕ) (x y : ℕ × ℕ) → m ≡ suc n → (x.0 ≤ y.0) × (x.1 ≤ y.1) → EitherRose x y → IsPaid n m x y
paid_risen n m x y same le rose = record {
  zero = le.0;
  one = le.1;
  enough = elim rose [
    | inl zero ↦ elim (rose_or_last x.0 y.0 zero) [ inl more ↦ inl (omega (arith, same, more, le.1)) | inr last ↦ inr (inl last) ]
    | inr one ↦ elim (rose_or_last x.1 y.1 one) [ inl more ↦ inl (omega (arith, same, more, le.0)) | inr last ↦ inr (inr last) ]
  ];
}

paid_on : (n m k : ℕ) (x y z : ℕ × ℕ) → IsPaid n m x y → IsPaid m k y z → IsPaid n k x z
paid_on n m k x y z first second = record {
  zero = omega (arith, first.zero, second.zero);
  one = omega (arith, first.one, second.one);
  enough = elim first.enough [
    | inl some ↦ elim second.enough [ inl more ↦ inl (omega (arith, some, more)) | inr last ↦ inr last ]
    | inr last ↦ inr (elim last [ inl zero ↦ inl (omega (arith, zero, second.zero)) | inr one ↦ inr (omega (arith, one, second.one)) ])
  ];
}

-- those of all servers
are_paid_still : (n m : ℕ → ℕ) (a b : List (ℕ × ℕ)) → ((i : ℕ) → m i ≡ n i) → AreLater a b → ArePaid n m a b
are_paid_still n m a b same later = record { servers = later.servers; each = λ i x y was is. paid_still (n i) (m i) x y (same i) (later.each i x y was is) }

same_later : (a b : List (ℕ × ℕ)) → b ≡ a → AreLater a b
same_later a b same = record {
  servers = ap length same;
  each = λ i x y was is.
      let one = same_Some x y (sym was ∙ (ap (λ faults. slice_get faults i) (sym same) ∙ is)) in
      (subst (λ (z : ℕ × ℕ). x.0 ≤ z.0) one (omega arith), subst (λ (z : ℕ × ℕ). x.1 ≤ z.1) one (omega arith));
}

-- the counts of a server of which one rose
risen_there : (i : ℕ) (a b : List (ℕ × ℕ)) (x y : ℕ × ℕ) → slice_get a i ≡ Some x → slice_get b i ≡ Some y → HasRisen i a b → EitherRose x y
risen_there i a b x y was is rose =
    subst (EitherRose x) (same_Some rose.is y (sym rose.now_is ∙ is)) (subst (λ (z : ℕ × ℕ). EitherRose z rose.is) (same_Some rose.was x (sym rose.then_is ∙ was)) rose.risen)

are_paid_on : (n m k : ℕ → ℕ) (a b c : List (ℕ × ℕ)) → ArePaid n m a b → ArePaid m k b c → ArePaid n k a c
are_paid_on n m k a b c first second = record {
  servers = second.servers ∙ first.servers;
  each = λ i x z was is. elim (slice_get_cases b i).1 [
    | inl there ↦ paid_on (n i) (m i) (k i) x there.0 z (first.each i x there.0 was there.2) (second.each i there.0 z there.2 is)
    | inr past ↦ absurd (none-some x (sym (slice_get_past a i (omega (arith, past.0, first.servers))) ∙ was))
  ];
}

-- groups of one history, number and setup
pub pays_alike : (old new : GroupIs) → ((i : ℕ) → halts_in new i ≡ halts_in old i) → new.faults ≡ old.faults → Pays old new
pays_alike old new halts faults = are_paid_still (halts_in old) (halts_in new) old.faults new.faults halts (same_later old.faults new.faults faults)

pub pays_refl : (g : GroupIs) → Pays g g
pays_refl g = pays_alike g g (λ i. refl) refl

pub pays_trans : (a b c : GroupIs) → Pays a b → Pays b c → Pays a c
pays_trans a b c = are_paid_on (halts_in a) (halts_in b) (halts_in c) a.faults b.faults c.faults

pub pays_same : (old new : GroupIs) → new ≡ record old { taken = new.taken } → Pays old new
pays_same old new is = pays_alike old new (λ i. ap (λ (g : GroupIs). halts_in g i) is) (ap (λ (g : GroupIs). g.faults) is)

pub since_grown : (before : List (ℕ × ℕ)) (old new : GroupIs) → IsTrue old.told → IsPaidSince before old → HasGrown old new → IsPaidSince before new
since_grown before old new told since grown = are_paid_on (λ i. 0) (halts_in old) (halts_in new) before old.faults new.faults since (grown.paid told)

-- only what it tells of its disks may be another
abbrev pub OnlyFaults : (old new : GroupIs) → Type 0
OnlyFaults old new = new ≡ record old { faults = new.faults; time = new.time }

record HasOnlyFaults (old new : GroupIs) : Type 0 where
  only : OnlyFaults old new
  later : IsTrue old.told → AreLater old.faults new.faults

not_even : (old new : GroupIs) → new ≡ old → HasOnlyFaults old new
not_even old new is = record {
  only = is ∙ ap (λ (g : GroupIs). record old { faults = g.faults; time = g.time }) (sym is);
  later = λ told. same_later old.faults new.faults (ap (λ (g : GroupIs). g.faults) is);
}

-- there was no memory for an event
left_alone : (old : GroupIs) (event : GroupEvent) (new : GroupIs) → IsLeftWithoutMemory old event new → HasOnlyFaults old new
left_alone old (asked.Submit server range payload) new left = not_even old new left
left_alone old (asked.Mark server) new left = not_even old new left
left_alone old (asked.Fetch server range) new left = not_even old new left
left_alone old (asked.Deliver k) new left = not_even old new left
left_alone old (asked.Lose k) new left = not_even old new left
left_alone old (asked.Elect server) new left = not_even old new left
left_alone old (asked.Resend server) new left = not_even old new left
left_alone old (asked.Stop server) new left = not_even old new left
left_alone old (asked.Restart server) new left = elim left [ inl same ↦ not_even old new same | inr tried ↦ record { only = tried.is; later = tried.later } ]
left_alone old asked.Claim new left = not_even old new left
left_alone old (asked.Finish filled) new left = not_even old new left
left_alone old (asked.Checkpoint server) new left = not_even old new left

pub only_faults : (old : GroupIs) (event : GroupEvent) (new : GroupIs) → IsLeftWithoutMemory old event new → OnlyFaults old new
only_faults old event new left = (left_alone old event new left).only

pub left_pays : (old : GroupIs) (event : GroupEvent) (new : GroupIs) → IsTrue old.told → IsLeftWithoutMemory old event new → Pays old new
left_pays old event new told left =
    let alone = left_alone old event new left in
    are_paid_still (halts_in old) (halts_in new) old.faults new.faults (λ i. ap (λ (g : GroupIs). halts_in g i) alone.only) (alone.later told)

module _ (old new : GroupIs) (event : Event) (answer : Answer) (steps : GroupSteps old event answer new) where
  abbrev happened : Happening
  happened = record { event = event; answer = answer }

  counted : (i n : ℕ) → halts_in (record old { history = old.history ++ happened ∷ [] }) i ≡ n → halts_in new i ≡ n
  counted i n is = ap (λ (g : GroupIs). halts_in g i) steps.recorded ∙ is

  -- an event that was not cut off, over any disks
  pub whole_pays : IsNoRestart event → is_halted answer ≡ false → Pays old new
  whole_pays no_restart whole =
      are_paid_still (halts_in old) (halts_in new) old.faults new.faults (λ i. counted i (halts_in old i) (halts_stay old happened i whole)) (steps.later (inr no_restart))

  -- an event that was answered
  pub step_pays : IsTrue old.told → Pays old new
  step_pays told = record { servers = later.servers; each = λ i x y was is. by i x y was is (is_halted answer) refl }
    where
      later : AreLater old.faults new.faults
      later = steps.later (inl told)

      cut_off : (i : ℕ) (x y : ℕ × ℕ) → slice_get old.faults i ≡ Some x → slice_get new.faults i ≡ Some y → answer ≡ Refused Halted → (k : ℕ) → acts_at (state_of old) event ≡ Some k → HasRisen k old.faults new.faults → (b : Bool) → (k == i) ≡ b → IsPaid (halts_in old i) (halts_in new i) x y
      cut_off i x y was is halted k there rose true here =
          let same = eqb-true k i here in
          paid_risen (halts_in old i) (halts_in new i) x y (counted i (suc (halts_in old i)) (halts_rise old happened i halted (there ∙ ap Some same))) (later.each i x y was is)
          (risen_there i old.faults new.faults x y was is (subst (λ j. HasRisen j old.faults new.faults) same rose))
      cut_off i x y was is halted k there rose false apart =
          paid_still (halts_in old i) (halts_in new i) x y (counted i (halts_in old i) (halts_elsewhere old happened i k there (eqb-false k i apart))) (later.each i x y was is)

      by : (i : ℕ) (x y : ℕ × ℕ) → slice_get old.faults i ≡ Some x → slice_get new.faults i ≡ Some y → (b : Bool) → is_halted answer ≡ b → IsPaid (halts_in old i) (halts_in new i) x y
      by i x y was is false whole = paid_still (halts_in old i) (halts_in new i) x y (counted i (halts_in old i) (halts_stay old happened i whole)) (later.each i x y was is)
      by i x y was is true cut =
          let halted = halted_is answer cut in let cause = steps.cause halted in
          cut_off i x y was is halted cause.0 (ap (λ g. acts_at g event) (sym (steps.same told)) ∙ cause.1) cause.2 (cause.0 == i) refl

-- the servers whose disks failed in the making ascend, so that each is counted once
module _ (P : ℕ → Type 0) (i : ℕ) where
  abbrev count : List ℕ → ℕ
  count failed = count_by (λ j. j == i) failed

  count_first : (j : ℕ) (js : List ℕ) (b : Bool) → (j == i) ≡ b → count (j ∷ js) ≡ one_if b + count js
  count_first j js b is = sum_by-cons (λ k. one_if (k == i)) j js ∙ ap (λ c. one_if c + count js) is

  none_above : (n : ℕ) (js : List ℕ) → i ≤ n → ascends_from n js ≡ true → count js ≡ 0
  none_above n [] le up = refl
  none_above n (j ∷ js) le up =
      let parts = and_parts (nat_lt n j) (ascends_from j js) up in
      let above = ltb-true n j parts.0 in
      omega (arith, count_first j js false (ne_eqb j i (λ same. omega (arith, above, le, same))), none_above j js (omega (arith, above, le)) parts.1)

  rest_ascends : (j : ℕ) (js : List ℕ) → ascends_from j js ≡ true → ascends js ≡ true
  rest_ascends j [] up = refl
  rest_ascends j (k ∷ ks) up = (and_parts (nat_lt j k) (ascends_from k ks) up).1

  abbrev CountsOnce : List ℕ → Type 0
  CountsOnce failed = (count failed ≡ 0) ⊎ ((count failed ≡ 1) × P i)

  one_more : (j : ℕ) (js : List ℕ) (b : Bool) → (j == i) ≡ b → ascends_from j js ≡ true → P j → CountsOnce js → CountsOnce (j ∷ js)
  one_more j js true is up here rest =
      let same = eqb-true j i is in
      inr (omega (arith, count_first j js true is, none_above j js (omega (arith, same)) up), subst P same here)
  one_more j js false is up here rest = elim rest [
    | inl none ↦ inl (omega (arith, count_first j js false is, none))
    | inr once ↦ inr (omega (arith, count_first j js false is, once.0), once.1)
  ]

  counted_once : (failed : List ℕ) → ascends failed ≡ true → Every P failed → CountsOnce failed
  counted_once [] up all = inl refl
  counted_once (j ∷ js) up all = one_more j js (j == i) refl up all.0 (counted_once js (rest_ascends j js up) all.1)

-- a new group
pub made_paid : (number sectors names format : ℕ) (told : Bool) (before : List (ℕ × ℕ)) (g : GroupIs) (answer : Answer) → GroupIsMade number sectors names format told before g answer → IsPaidSince before g
made_paid number sectors names format told before g answer made = record { servers = made.later.servers; each = by }
  where
    halts : (i : ℕ) → halts_in g i ≡ count_by (λ j. j == i) made.failed + 0
    halts i = halts_counted g i ∙ ap (λ (x : GroupIs). count_by (λ j. j == i) x.setup.failed + halted_at i x.setup (opening x.setup) x.history) made.is

    by : (i : ℕ) (x y : ℕ × ℕ) → slice_get before i ≡ Some x → slice_get g.faults i ≡ Some y → IsPaid 0 (halts_in g i) x y
    by i x y was is = elim (counted_once (λ j. HasRisen j before g.faults) i made.failed made.once made.cause) [
      | inl none ↦ paid_still 0 (halts_in g i) x y (halts i ∙ ap (λ n. n + 0) none) (made.later.each i x y was is)
      | inr once ↦
          paid_risen 0 (halts_in g i) x y (halts i ∙ ap (λ n. n + 0) once.0) (made.later.each i x y was is) (risen_there i before g.faults x y was is once.1)
    ]
