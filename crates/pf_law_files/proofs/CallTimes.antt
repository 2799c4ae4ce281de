-- The calls of mounts in time: when each began and ended, by how many had begun, and how each that ended went.
use Rattle.std.proofs.Common.{◌≡◌, ◌≢◌, ◌⊎◌, inl, inr, ℕ, zero, suc, ◌+◌, ◌-◌, ◌<◌, ◌≤◌, ◌==◌, List, [], ◌∷◌, ◌++◌, drop, length, take, Option, Some, None, slice_get, arith, refl, sym, ap, subst, ◌∙◌, append-nil}
use Rattle.std.specs.List.{cons_option}
use Rattle.std.proofs.lemmas.Bool.{cases_eq, cases_lt, cond-false, cond-true, eq-eqb, ne_eqb}
use Rattle.std.proofs.lemmas.List.{length-append}
use Rattle.std.proofs.lemmas.Option.{none-some, same_Some, slice_get_within}
use Rattle.pf_volume.specs.Volumes.{Extent, IsVolume}
use Rattle.pf_tree.specs.Calls.{FileCall}
use Rattle.pf_file_calls.specs.declared.answers.CallAnswer.{CallAnswer}
use Rattle.pf_file_calls.specs.declared.calls.Pending.{Pending}
use Rattle.pf_law_plans.proofs.Lists.{take_one_more}
use Rattle.pf_journal.specs.declared.layouts.Layout.{Layout}
use Rattle.pf_journal.specs.Layouts.{layout_of}
use Rattle.pf_mount.specs.declared.work.MountNext.{MountNext}
use Rattle.pf_mount.specs.declared.work.MountNext.TheVariants.{Done, Failed, Ready}
use Rattle.pf_mount.specs.Lives.{CallsOn}
use Rattle.pf_mount.specs.Mounts.{MountIs}
use Rattle.pf_mount.proofs.CallsEndOnce.{starting_goes_on}
use Rattle.pf_law_calls.specs.Answering.{next_by}
use Rattle.pf_law_calls.proofs.EndedCalls.{its_life}
use Rattle.pf_law_calls.specs.Since.{called, exchanges_since, pends}
use Rattle.pf_law_calls.proofs.DataByCall.{quiet_told}
use Rattle.pf_law_calls.proofs.DataByMoment.{pends_on, since_on}
use Rattle.pf_law_calls.specs.Doings.{HaveRegisters, IsListOf}
use Rattle.pf_law_calls.specs.Lives.{Asks, Begins, CanBe, Hears, Input, Life, MountTold, all_opened, lives, mount_after}
use Rattle.pf_law_calls.specs.Spelled.{CanAllBeSpelled}
use Rattle.pf_law_calls.specs.Trees.{AreFewCalls, call_begun, call_in_input, calls_of}
use Rattle.pf_law_calls.proofs.Lists.{something_there}
use Rattle.pf_law_calls.proofs.CallNumbers.{IsLastOf, OfPending, calls_on, its_calls}
use Rattle.pf_law_calls.proofs.Parts.{lives_on}
use Rattle.pf_law_files.proofs.Alone.{input_calls, is_at_call, its_status}
use Rattle.pf_law_files.proofs.CallProgress.{Ends, GoesOn, HasNoneBelow, Phase, phase_on, plain_on, stays}
use Rattle.pf_law_files.proofs.MomentCounts.{called_still}
use Rattle.pf_law_files.proofs.Positions.{begun_by_then, calls_count, more_calls, mount_at}
use Rattle.pf_law_files.proofs.SerialAsks.{at_place}

-- parts of lists

pub prefix_is : {X : Type 0} → (all xs ys : List X) → all ≡ xs ++ ys → take (length xs) all ≡ xs
prefix_is all xs ys same = ap (take (length xs)) same ∙ front xs ys
  where
    front : {X : Type 0} → (xs ys : List X) → take (length xs) (xs ++ ys) ≡ xs
    front [] ys = refl
    front (x ∷ xs) ys = ap (λ zs. x ∷ zs) (front xs ys)

pub stands_there : {X : Type 0} → (all xs : List X) (x : X) (ys : List X) → all ≡ xs ++ x ∷ ys → slice_get all (length xs) ≡ Some x
stands_there all xs x ys same = ap (λ zs. slice_get zs (length xs)) same ∙ there xs x ys
  where
    there : {X : Type 0} → (xs : List X) (x : X) (ys : List X) → slice_get (xs ++ x ∷ ys) (length xs) ≡ Some x
    there [] x ys = refl
    there (z ∷ xs) x ys = there xs x ys

pub take_more : {X : Type 0} → (xs : List X) (k other : ℕ) → k ≤ other → (more : List X) × (take other xs ≡ take k xs ++ more)
take_more [] zero other le = (take other [], refl)
take_more [] (suc k) other le = (take other [], refl)
take_more (x ∷ xs) zero other le = (take other (x ∷ xs), refl)
take_more (x ∷ xs) (suc k) zero le = absurd (omega (arith, le))
take_more (x ∷ xs) (suc k) (suc other) le = (let more = take_more xs k other (omega (arith, le)) in (more.0, ap (λ ys. x ∷ ys) more.1))

-- after the input with which a call ends, none is pending

done_none : (p : Pending) (y : MountIs) (next : Option MountNext) (answer : CallAnswer) → next ≡ Some (Done answer) → CallsOn p y next → y.files.pending ≡ None
done_none p y None answer is goes = absurd (none-some (Done answer) is)
done_none p y (Some Ready) answer is goes = absurd goes
done_none p y (Some Failed) answer is goes = absurd goes
done_none p y (Some (Done its)) answer is goes = goes.call

module _ (layout : Layout) (v : Extent) (told : List MountTold) where
  abbrev pub count : (k m : ℕ) → ℕ
  count k m = length (calls_of (take k told) m)

  abbrev pub at_time : (k m : ℕ) → MountIs
  at_time k m = (lives layout v (take k told) m).mount

  pub ends_none : (k m : ℕ) (input : Input) (p : Pending) (answer : CallAnswer) → next_by (at_time k m) input ≡ Some (Done answer) → called (at_time k m) input ≡ Some p → (mount_after (at_time k m) input).files.pending ≡ None
  ends_none k m (Begins call) p answer ends was =
      let x = at_time k m in
      done_none (record { number = suc x.files.calls; call = call }) (mount_after x (Begins call)) (next_by x (Begins call)) answer ends (starting_goes_on x call)
  ends_none k m (Asks port) p answer ends was = absurd (none-some (Done answer) ends)
  ends_none k m (Hears port reply) p answer ends was =
      let x = at_time k m in
      done_none p (mount_after x (Hears port reply)) (next_by x (Hears port reply)) answer ends (input_calls x p (Hears port reply) refl (is_at_call x p (its_status layout v (take k told) m) was))

  -- Counts

  pub count_grows : (k other m : ℕ) → k ≤ other → count k m ≤ count other m
  count_grows k other m le =
      let more = take_more told k other le in
      let grows = more_calls (take k told) more.0 m in
      let same = ap (λ us. length (calls_of us m)) more.1 in
      omega (arith, grows, same)

  calls_next : (k m : ℕ) (t : MountTold) → slice_get told k ≡ Some t → calls_of (take (suc k) told) m ≡ calls_of (take k told) m ++ cons_option (call_begun m t) []
  calls_next k m t at = ap (λ us. calls_of us m) (take_one_more told k t at) ∙ calls_on (take k told) (t ∷ []) m

  pub count_begun : (k m : ℕ) (call : FileCall) → slice_get told k ≡ Some (record { mount = m; input = Begins call }) → count (suc k) m ≡ suc (count k m)
  count_begun k m call at =
      let t : MountTold = record { mount = m; input = Begins call } in
      let one : call_begun m t ≡ Some call = cond-true (m == m) (Some call) None (eq-eqb m m refl) in
      let all = ap (λ (calls : List FileCall). length calls) (calls_next k m t at ∙ ap (λ o. calls_of (take k told) m ++ cons_option o []) one) in
      let parts = length-append (calls_of (take k told) m) (call ∷ []) in
      omega (arith, all, parts)

  pub count_still : (k m : ℕ) (t : MountTold) → slice_get told k ≡ Some t → call_begun m t ≡ None → count (suc k) m ≡ count k m
  count_still k m t at none = ap (λ (calls : List FileCall). length calls) (calls_next k m t at ∙ ap (λ o. calls_of (take k told) m ++ cons_option o []) none ∙ append-nil (calls_of (take k told) m))

  -- what was told is that a call of the mount begins, or not
  begins_or_not : (m : ℕ) (t : MountTold) → ((call : FileCall) × (t ≡ record { mount = m; input = Begins call })) ⊎ (call_begun m t ≡ None)
  begins_or_not m t = elim (cases_eq m t.mount) [
    | inr apart ↦ inr (cond-false (m == t.mount) (call_in_input t.input) None (ne_eqb m t.mount apart))
    | inl own ↦ by t.input refl own
  ]
    where
      of : (k : ℕ) → Input → MountTold
      of k input = record { mount = k; input = input }

      by : (input : Input) → t.input ≡ input → m ≡ t.mount → ((call : FileCall) × (t ≡ record { mount = m; input = Begins call })) ⊎ (call_begun m t ≡ None)
      by (Begins call) is own = inl (call, ap (λ k. of k t.input) (sym own) ∙ ap (of m) is)
      by (Asks port) is own = inr (cond-true (m == t.mount) (call_in_input t.input) None (eq-eqb m t.mount own) ∙ ap call_in_input is)
      by (Hears port reply) is own = inr (cond-true (m == t.mount) (call_in_input t.input) None (eq-eqb m t.mount own) ∙ ap call_in_input is)

  -- while the count stays no call begins
  pub none_begins : (k m : ℕ) (t : MountTold) → slice_get told k ≡ Some t → count (suc k) m ≤ count k m → call_begun m t ≡ None
  none_begins k m t at stay = elim (begins_or_not m t) [
    | inr none ↦ none
    | inl is ↦ absurd (let more = count_begun k m is.0 (at ∙ ap Some is.1) in omega (arith, more, stay))
  ]

  -- the call of mount m with this number began then
  pub record BeginsThen (time m number : ℕ) : Type 0 where
    pub call : FileCall
    pub there : slice_get told time ≡ Some (record { mount = m; input = Begins call })
    pub number_is : suc (count time m) ≡ number

  -- and ended then with this answer
  pub record EndsThen (time m number : ℕ) (p : Pending) (answer : CallAnswer) : Type 0 where
    pub input : Input
    pub there : slice_get told time ≡ Some (record { mount = m; input = input })
    pub ends : next_by (at_time time m) input ≡ Some (Done answer)
    pub was : called (at_time time m) input ≡ Some p
    pub number_is : count (suc time) m ≡ number

  pub begins_once : (time other m number : ℕ) → BeginsThen time m number → BeginsThen other m number → time ≡ other
  begins_once time other m number a b =
      let one = a.number_is in
      let two = b.number_is in
      elim (cases_lt time other) [
        | inl sooner ↦ absurd (let more = count_begun time m a.call a.there in let grows = count_grows (suc time) other m (omega (arith, sooner)) in omega (arith, more, grows, one, two))
        | inr not_sooner ↦ elim (cases_lt other time) [
          | inl later ↦ absurd (let more = count_begun other m b.call b.there in let grows = count_grows (suc other) time m (omega (arith, later)) in omega (arith, more, grows, one, two))
          | inr not_later ↦ omega (arith, not_sooner, not_later)
        ]
      ]

  -- where so many had begun, the call began before
  pub begun_before : (time k m number : ℕ) → BeginsThen time m number → number ≤ count k m → time < k
  begun_before time k m number b begun = elim (cases_lt time k) [
    | inl sooner ↦ sooner
    | inr not_sooner ↦ absurd (let one = b.number_is in let grows = count_grows k time m not_sooner in omega (arith, grows, one, begun))
  ]

  pub begun_then : (k m number : ℕ) → 0 < number → number ≤ count k m → (time : ℕ) × BeginsThen time m number
  begun_then zero m number some begun = absurd (omega (arith, some, begun))
  begun_then (suc k) m number some begun = elim (cases_lt (count k m) number) [
    | inr not_last ↦ begun_then k m number some (omega (arith, not_last))
    | inl last ↦ by (slice_get told k) refl last begun
  ]
    where
      past : slice_get told k ≡ None → count (suc k) m ≡ count k m
      past none = ap (λ us. length (calls_of us m)) (all_same told k none)
        where
          all_same : (us : List MountTold) (i : ℕ) → slice_get us i ≡ None → take (suc i) us ≡ take i us
          all_same [] zero none = refl
          all_same [] (suc i) none = refl
          all_same (u ∷ us) zero none = absurd (none-some u (sym none))
          all_same (u ∷ us) (suc i) none = ap (λ zs. u ∷ zs) (all_same us i none)

      by : (o : Option MountTold) → slice_get told k ≡ o → count k m < number → number ≤ count (suc k) m → (time : ℕ) × BeginsThen time m number
      by None none last begun = absurd (let same = past none in omega (arith, same, last, begun))
      by (Some t) at last begun = elim (begins_or_not m t) [
        | inr none ↦ absurd (let same = count_still k m t at none in omega (arith, same, last, begun))
        | inl is ↦
            let there = at ∙ ap Some is.1 in
            let more = count_begun k m is.0 there in
            (k, record { call = is.0; there = there; number_is = omega (arith, more, last, begun) })
      ]

  module _ (can : CanBe layout v told) (registers : HaveRegisters layout v told) (list : List (List ℕ)) (is : IsListOf layout v told list) where
    pub same_place : (k : ℕ) (t : MountTold) → slice_get told k ≡ Some t → told ≡ take k told ++ t ∷ drop (suc k) told
    same_place k t at = at_place told k t at

    pub life_next : (k m : ℕ) (input : Input) → slice_get told k ≡ Some (record { mount = m; input = input }) → at_time (suc k) m ≡ mount_after (at_time k m) input
    life_next k m input at =
        ap (λ us. (lives layout v us m).mount) (take_one_more told k (record { mount = m; input = input }) at)
        ∙ ap (λ (l : Life). l.mount) (its_life layout v told can registers list is m (take k told) (drop (suc k) told) input (same_place k (record { mount = m; input = input }) at))

    pub life_other : (k m : ℕ) (t : MountTold) → slice_get told k ≡ Some t → m ≢ t.mount → lives layout v (take (suc k) told) m ≡ lives layout v (take k told) m
    life_other k m t at apart =
        ap (λ us. lives layout v us m) (take_one_more told k t at) ∙ ap (λ (ls : ℕ → Life). ls m) (lives_on (all_opened layout v) (take k told) (t ∷ []))
        ∙ cond-false (m == t.mount) _ (lives layout v (take k told) m) (ne_eqb m t.mount apart)

    -- no call is pending until one begins
    pub quiet_until : (n k m : ℕ) → (at_time k m).files.pending ≡ None → count (k + n) m ≤ count k m → k + n ≤ length told → (at_time (k + n) m).files.pending ≡ None
    quiet_until zero k m none stay most = ap (λ i. (at_time i m).files.pending) (let same : k + 0 ≡ k = omega arith in same) ∙ none
    quiet_until (suc n) k m none stay most =
        let it = something_there told k (omega (arith, most)) in
        let next : suc k + n ≡ k + suc n = omega arith in
        let grows = count_grows (suc k) (suc k + n) m (omega arith) in
        let at_end = ap (λ i. count i m) next in
        let begins_none = none_begins k m it.0 it.1 (omega (arith, stay, grows, at_end)) in
        let quiet = (quiet_told layout v told can registers list is m (take k told) it.0 (drop (suc k) told) (same_place k it.0 it.1) none begins_none).1 in
        let one : (at_time (suc k) m).files.pending ≡ None =
        ap (λ us. (lives layout v us m).mount.files.pending) (take_one_more told k it.0 it.1) ∙ ap (λ (ls : ℕ → Life). (ls m).mount.files.pending) (lives_on (all_opened layout v) (take k told) (it.0 ∷ [])) ∙ quiet in
        let same_count = count_still k m it.0 it.1 begins_none in
        subst (λ i. (at_time i m).files.pending ≡ None) next (quiet_until n (suc k) m one (omega (arith, stay, at_end, same_count)) (omega (arith, most)))

    -- nor after a call has ended
    pub quiet_after : (time m number : ℕ) (p : Pending) (answer : CallAnswer) → EndsThen time m number p answer → (k : ℕ) → time < k → k ≤ length told → count k m ≤ number → (at_time k m).files.pending ≡ None
    quiet_after time m number p answer e k later most few_begun =
        let ended : (at_time (suc time) m).files.pending ≡ None = ap (λ (x : MountIs). x.files.pending) (life_next time m e.input e.there) ∙ ends_none time m e.input p answer e.ends e.was in
        let gap : suc time + (k - suc time) ≡ k = omega (arith, later) in
        let number_is = e.number_is in
        let at_end = ap (λ i. count i m) gap in
        subst (λ i. (at_time i m).files.pending ≡ None) gap (quiet_until (k - suc time) (suc time) m ended (omega (arith, few_begun, number_is, at_end)) (omega (arith, gap, most)))

    -- How it goes

    module _ (volume : IsVolume v) (spelled : CanAllBeSpelled told) (few : AreFewCalls told) (m : ℕ) (small : m < 16) (p : Pending) where
      abbrev first : ℕ
      first = (layout_of layout).first

      abbrev Runs : ℕ → Type 0
      Runs k = ((at_time k m).files.pending ≡ Some p) × Phase list v m p (at_time k m).upto (exchanges_since layout v (take k told) m) (pends layout v (take k told) m) (at_time k m).task

      abbrev RunsOrNot : ℕ → Type 0
      RunsOrNot k = ((at_time k m).files.pending ≡ None) ⊎ Runs k

      abbrev After : (us : List MountTold) → Option MountNext → Type 0
      After us next = GoesOn list v m p first (mount_at layout v us m).upto (exchanges_since layout v us m) (pends layout v us m) (mount_at layout v us m).task next

      -- by what is next
      after_input : (k : ℕ) (input : Input) (at : slice_get told k ≡ Some (record { mount = m; input = input })) (next : Option MountNext) → next_by (at_time k m) input ≡ next → CallsOn p (mount_after (at_time k m) input) next → After (take (suc k) told) next → RunsOrNot (suc k)
      after_input k input at None is_next on goes = inr (ap (λ (x : MountIs). x.files.pending) (life_next k m input at) ∙ on.call, goes)
      after_input k input at (Some Ready) is_next on goes = absurd on
      after_input k input at (Some Failed) is_next on goes = absurd on
      after_input k input at (Some (Done answer)) is_next on goes = inl (ap (λ (x : MountIs). x.files.pending) (life_next k m input at) ∙ on.call)

      phase_next : (k : ℕ) (input : Input) (at : slice_get told k ≡ Some (record { mount = m; input = input })) → call_in_input input ≡ None → Runs k → After (take (suc k) told) (next_by (at_time k m) input)
      phase_next k input at none runs =
          let named = its_calls layout v m (take k told) in
          let its_last : IsLastOf (calls_of (take k told) m) p = subst (OfPending (IsLastOf (calls_of (take k told) m))) runs.0 named.call in
          subst (λ us. After us (next_by (at_time k m) input)) (sym (take_one_more told k (record { mount = m; input = input }) at))
          (phase_on layout v told can registers list is volume spelled few (take k told) (drop (suc k) told) m input (same_place k (record { mount = m; input = input }) at) p runs.0 (its_last.last ∙ sym named.count) runs.1 (called_still (at_time k m) input none ∙ runs.0))

      one_next : (k : ℕ) (t : MountTold) → slice_get told k ≡ Some t → call_begun m t ≡ None → RunsOrNot k → RunsOrNot (suc k)
      one_next k t at none (inl rests) =
          inl (ap (λ us. (lives layout v us m).mount.files.pending) (take_one_more told k t at) ∙ ap (λ (ls : ℕ → Life). (ls m).mount.files.pending) (lives_on (all_opened layout v) (take k told) (t ∷ []))
          ∙ (quiet_told layout v told can registers list is m (take k told) t (drop (suc k) told) (same_place k t at) rests none).1)
      one_next k t at none (inr runs) = elim (cases_eq m t.mount) [
        | inl own ↦
            let of : ℕ → MountTold = λ i. record { mount = i; input = t.input } in
            let there : slice_get told k ≡ Some (record { mount = m; input = t.input }) = at ∙ ap (λ i. Some (of i)) (sym own) in
            let no_call : call_in_input t.input ≡ None = sym (cond-true (m == t.mount) (call_in_input t.input) None (eq-eqb m t.mount own)) ∙ none in
            after_input k t.input there (next_by (at_time k m) t.input) refl (input_calls (at_time k m) p t.input no_call (is_at_call (at_time k m) p (its_status layout v (take k told) m) runs.0)) (phase_next k t.input there no_call runs)
        | inr apart ↦
            let b = ne_eqb m t.mount apart in
            let life = life_other k m t at apart in
            let since : exchanges_since layout v (take (suc k) told) m ≡ exchanges_since layout v (take k told) m =
            ap (λ us. exchanges_since layout v us m) (take_one_more told k t at) ∙ since_on (all_opened layout v) m None [] (take k told) (t ∷ []) ∙ cond-false (m == t.mount) _ (exchanges_since layout v (take k told) m) b in
            let last : pends layout v (take (suc k) told) m ≡ pends layout v (take k told) m =
            ap (λ us. pends layout v us m) (take_one_more told k t at) ∙ pends_on (all_opened layout v) m None (take k told) (t ∷ []) ∙ cond-false (m == t.mount) _ (pends layout v (take k told) m) b in
            inr (
              ap (λ (l : Life). l.mount.files.pending) life ∙ runs.0,
              subst (λ came. Phase list v m p (at_time (suc k) m).upto came (pends layout v (take (suc k) told) m) (at_time (suc k) m).task) (sym since)
                  (subst (λ ask. Phase list v m p (at_time (suc k) m).upto (exchanges_since layout v (take k told) m) ask (at_time (suc k) m).task) (sym last)
                  (subst (λ (l : Life). Phase list v m p l.mount.upto (exchanges_since layout v (take k told) m) (pends layout v (take k told) m) l.mount.task) (sym life) runs.1)),
            )
      ]

      run_on : (n k : ℕ) → k + n ≤ length told → count (k + n) m ≤ count k m → RunsOrNot k → RunsOrNot (k + n)
      run_on zero k most stay runs = subst RunsOrNot (let same : k ≡ k + 0 = omega arith in same) runs
      run_on (suc n) k most stay runs =
          let it = something_there told k (omega (arith, most)) in
          let next : suc k + n ≡ k + suc n = omega arith in
          let grows = count_grows (suc k) (suc k + n) m (omega arith) in
          let at_end = ap (λ i. count i m) next in
          let none = none_begins k m it.0 it.1 (omega (arith, stay, grows, at_end)) in
          let same_count = count_still k m it.0 it.1 none in
          subst RunsOrNot next (run_on n (suc k) (omega (arith, most)) (omega (arith, stay, at_end, same_count)) (one_next k it.0 it.1 none runs))

      -- as it begins
      module _ (time : ℕ) (b : BeginsThen time m p.number) (call_is : b.call ≡ p.call) where
        its_pending : record { number = suc (at_time time m).files.calls; call = b.call } ≡ p
        its_pending =
            let of : ℕ → FileCall → Pending = λ number call. record { number = number; call = call } in
            let count_is = calls_count layout v (take time told) m in
            let number_is = b.number_is in
            let same : suc (at_time time m).files.calls ≡ p.number = omega (arith, count_is, number_is) in
            ap (λ n. of n b.call) same ∙ ap (of p.number) call_is

        none_below : HasNoneBelow list v m p (mount_at layout v (take time told ++ record { mount = m; input = Begins b.call } ∷ []) m).upto
        none_below k less of_it =
            let t : MountTold = record { mount = m; input = Begins b.call } in
            let same = same_place time t b.there in
            let stood = stays layout v told can registers list is volume spelled few (take time told) (drop (suc time) told) m (Begins b.call) same refl in
            let begun = begun_by_then layout v told can registers list is few k m p.number of_it (take time told) (t ∷ drop (suc time) told) m small same (omega (arith, less, stood)) in
            let number_is = b.number_is in
            omega (arith, begun, number_is)

        begins_so : (answer_is : Option MountNext) → next_by (at_time time m) (Begins b.call) ≡ answer_is → After (take (suc time) told) answer_is
        begins_so next is_next =
            let t : MountTold = record { mount = m; input = Begins b.call } in
            subst (λ us. After us next) (sym (take_one_more told time t b.there))
            (plain_on layout v told can registers list is volume spelled few (take time told) (drop (suc time) told) m (Begins b.call) (same_place time t b.there) p next is_next (ap Some its_pending) none_below)

        runs_then : RunsOrNot (suc time)
        runs_then =
            after_input time (Begins b.call) b.there (next_by (at_time time m) (Begins b.call)) refl
            (subst (λ q. CallsOn q (mount_after (at_time time m) (Begins b.call)) (next_by (at_time time m) (Begins b.call))) its_pending (starting_goes_on (at_time time m) b.call))
            (begins_so (next_by (at_time time m) (Begins b.call)) refl)

        -- the call ends as its transaction stands, or as it is planned
        pub ends_so : (ended : ℕ) (answer : CallAnswer) → time ≤ ended → (e : EndsThen ended m p.number p answer)
            → Ends list v m p first (at_time (suc ended) m).upto (exchanges_since layout v (take (suc ended) told) m) answer
        ends_so ended answer le e = elim (cases_eq time ended) [
          | inl same ↦
              let input_is : e.input ≡ Begins b.call = ap (λ (t : MountTold). t.input) (same_Some _ _ (sym e.there ∙ ap (slice_get told) (sym same) ∙ b.there)) in
              let ends : next_by (at_time time m) (Begins b.call) ≡ Some (Done answer) = ap (next_by (at_time time m)) (sym input_is) ∙ ap (λ k. next_by (at_time k m) e.input) same ∙ e.ends in
              subst (λ k. Ends list v m p first (at_time (suc k) m).upto (exchanges_since layout v (take (suc k) told) m) answer) same (begins_so (Some (Done answer)) ends)
          | inr apart ↦ by (run_on (ended - suc time) (suc time) (omega (arith, gap apart, within)) (stay apart) runs_then) apart
        ]
          where
            within : ended < length told
            within = slice_get_within told ended (record { mount = m; input = e.input }) e.there

            gap : time ≢ ended → suc time + (ended - suc time) ≡ ended
            gap apart = omega (arith, le, apart)

            stay : time ≢ ended → count (suc time + (ended - suc time)) m ≤ count (suc time) m
            stay apart =
                let at_end = ap (λ k. count k m) (gap apart) in
                let grows = count_grows ended (suc ended) m (omega arith) in
                let end = e.number_is in
                let begun = count_begun time m b.call b.there in
                let number_is = b.number_is in
                omega (arith, at_end, grows, end, begun, number_is)

            no_call : time ≢ ended → call_begun m (record { mount = m; input = e.input }) ≡ None
            no_call apart =
                none_begins ended m (record { mount = m; input = e.input }) e.there
                (let at_end = e.number_is in let begun = count_begun time m b.call b.there in let number_is = b.number_is in let grows = count_grows (suc time) ended m (omega (arith, le, apart)) in omega (arith, at_end, begun, number_is, grows))

            by : RunsOrNot (suc time + (ended - suc time)) → time ≢ ended → Ends list v m p first (at_time (suc ended) m).upto (exchanges_since layout v (take (suc ended) told) m) answer
            by runs apart = go (subst RunsOrNot (gap apart) runs)
              where
                none : call_in_input e.input ≡ None
                none = sym (cond-true (m == m) (call_in_input e.input) None (eq-eqb m m refl)) ∙ no_call apart

                go : RunsOrNot ended → Ends list v m p first (at_time (suc ended) m).upto (exchanges_since layout v (take (suc ended) told) m) answer
                go (inl rests) = absurd (none-some p (sym rests ∙ sym (called_still (at_time ended m) e.input none) ∙ e.was))
                go (inr running) = subst (λ next. After (take (suc ended) told) next) e.ends (phase_next ended e.input e.there none running)
