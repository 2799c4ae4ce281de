-- Calls that are one at a time go one after another, input by input.
use Rattle.std.proofs.Common.{◌≡◌, ◌⊎◌, inl, inr, ℕ, ◌<◌, ◌≤◌, ◌==◌, if◌then◌else◌, List, [], ◌∷◌, ◌++◌, length, Option, Some, None, arith, refl, sym, ap, subst, ◌∙◌, append-nil}
use Rattle.std.specs.List.{cons_option}
use Rattle.std.specs.Option.{option_to_list}
use Rattle.std.proofs.lemmas.Bool.{cases_eq, cond-false, cond-true, eq-eqb, ne_eqb}
use Rattle.std.proofs.lemmas.Grind.{flat_map-append}
use Rattle.std.proofs.lemmas.List.{append_assoc}
use Rattle.std.proofs.lemmas.List.Elements.{filter_map-append}
use Rattle.std.proofs.lemmas.Option.{none-some, same_Some}
use Rattle.pf_entry.proofs.Cases.{by_test}
use Rattle.pf_volume.specs.Volumes.{Extent, IsVolume}
use Rattle.pf_tree_tables.specs.Tables.{Tables, new_tables}
use Rattle.pf_tree.specs.Standing.{IsCall}
use Rattle.pf_tree.specs.Trees.{Data}
use Rattle.pf_tree.specs.Calls.{FileCall}
use Rattle.pf_file_calls.specs.declared.answers.CallAnswer.{CallAnswer}
use Rattle.pf_file_calls.specs.declared.calls.Pending.{Pending}
use Rattle.pf_law_plans.specs.Exchanges.{Exchange}
use Rattle.pf_law_contents.specs.Going.{AreCalls, CallAsks, GoOneByOne, Went, call_done, done_of, exchanges_of}
use Rattle.pf_journal.specs.declared.layouts.Layout.{Layout}
use Rattle.pf_journal.specs.Layouts.{layout_of}
use Rattle.pf_mount.specs.declared.work.MountNext.{MountNext}
use Rattle.pf_mount.specs.declared.work.MountNext.TheVariants.{Done, Failed, Ready}
use Rattle.pf_mount.specs.Lives.{CallsOn}
use Rattle.pf_mount.specs.Mounts.{MountIs}
use Rattle.pf_mount.proofs.CallsEndOnce.{starting_goes_on}
use Rattle.pf_law_calls.specs.Answering.{next_by}
use Rattle.pf_law_calls.specs.Exchanges.{exchanged}
use Rattle.pf_law_calls.proofs.EndedCalls.{begun_named, its_life, low, now_same}
use Rattle.pf_law_calls.specs.Since.{called, exchanges_since, pends}
use Rattle.pf_law_calls.proofs.DataByCall.{quiet_told}
use Rattle.pf_law_calls.proofs.DataByMoment.{data_ended, pends_on, since_on}
use Rattle.pf_law_calls.specs.Doings.{HaveRegisters, IsListOf}
use Rattle.pf_law_calls.specs.Lives.{Asks, Begins, CanBe, Hears, Input, Life, MountTold, all_opened, lives, mount_after}
use Rattle.pf_law_calls.specs.Spelled.{CanAllBeSpelled}
use Rattle.pf_law_calls.specs.Trees.{AreFewCalls, call_begun, call_in_input, calls_of, data_blocks}
use Rattle.pf_law_calls.proofs.CallNumbers.{IsLastOf, OfPending, calls_on, its_calls}
use Rattle.pf_law_calls.proofs.Parts.{lives_on}
use Rattle.pf_law_calls.proofs.CallWords.{named_spelled}
use Rattle.pf_law_files.specs.Calls.{AreOneAtATime, HaveEnded, WentOneByOne, data_in, done_by, done_calls}
use Rattle.pf_law_files.proofs.Alone.{input_calls, is_at_call, its_status}
use Rattle.pf_law_files.proofs.CallProgress.{Ends, GoesOn, HasNoneBelow, Phase, phase_on, plain_on, since_is, stays}
use Rattle.pf_law_files.proofs.MomentCounts.{called_still, data_more, done_more, since_still}
use Rattle.pf_law_files.proofs.ListGrowth.{AreBelow, Grows, grows, next_call}
use Rattle.pf_law_files.proofs.Positions.{begun_by_then, calls_count, mount_at, some_number, tables_at}

-- One call more

goes_end : (v : Extent) (d : Data) (calls : List Went) (t left next : Tables) (w : Went) → GoOneByOne v d t calls left → CallAsks v d w.mount w.call left next w.came w.answer → GoOneByOne v d t (calls ++ w ∷ []) next
goes_end v d [] t left next w goes asks = (next, subst (λ (from : Tables). CallAsks v d w.mount w.call from next w.came w.answer) (sym goes) asks, refl)
goes_end v d (c ∷ calls) t left next w goes asks = (goes.0, goes.1, goes_end v d calls goes.0 left next w goes.2 asks)

are_end : (calls : List Went) (w : Went) → AreCalls calls → IsCall w.call.call → AreCalls (calls ++ w ∷ [])
are_end [] w are is = (is, tt)
are_end (c ∷ calls) w are is = (are.0, are_end calls w are.1 is)

one_option : {X : Type 0} → (o : Option X) → cons_option o [] ≡ option_to_list o
one_option None = refl
one_option (Some x) = refl

none_done : (q : Option Pending) → done_by q None ≡ None
none_done None = refl
none_done (Some p) = refl

no_call_done : (next : Option MountNext) → done_by None next ≡ None
no_call_done None = refl
no_call_done (Some Ready) = refl
no_call_done (Some Failed) = refl
no_call_done (Some (Done answer)) = refl

module _ (layout : Layout) (v : Extent) (told : List MountTold) (can : CanBe layout v told) (registers : HaveRegisters layout v told) (list : List (List ℕ)) (is : IsListOf layout v told list) (volume : IsVolume v)
    (spelled : CanAllBeSpelled told) (few : AreFewCalls told) where
  abbrev d : Data
  d = data_blocks layout v

  abbrev first : ℕ
  first = (layout_of layout).first

  -- all calls that have begun went so
  record AllWent (done : List MountTold) : Type 0 where
    calls : List Went
    are : AreCalls calls
    upto : ℕ
    go : GoOneByOne v d (new_tables d.blocks) calls (tables_at list v upto)
    done_are : done_of calls ≡ done_calls layout v done
    data_are : exchanges_of calls ≡ data_in layout v done
    below : AreBelow list done upto

  -- all but the last one, of mount m, which has not ended
  record Runs (m : ℕ) (done : List MountTold) : Type 0 where
    small : m < 16
    earlier : List MountTold
    mid : List MountTold
    call : FileCall
    same : done ≡ earlier ++ record { mount = m; input = Begins call } ∷ mid
    quiet : (n : ℕ) → calls_of mid n ≡ []
    rested : HaveEnded layout v earlier
    went : AllWent earlier
    pending : (mount_at layout v done m).files.pending ≡ Some (next_call layout v earlier m call)
    others : (n : ℕ) → n < 16 → (n ≡ m → ⊥) → (mount_at layout v done n).files.pending ≡ None
    done_are : done_calls layout v done ≡ done_calls layout v earlier
    data_are : data_in layout v done ≡ data_in layout v earlier ++ exchanges_since layout v done m
    phase : Phase list v m (next_call layout v earlier m call) (mount_at layout v done m).upto (exchanges_since layout v done m) (pends layout v done m) (mount_at layout v done m).task

  abbrev State : List MountTold → Type 0
  State done = (AllWent done × HaveEnded layout v done) ⊎ ((m : ℕ) × Runs m done)

  -- An input

  module _ (before : List MountTold) (m : ℕ) (input : Input) (after : List MountTold) (same : told ≡ before ++ record { mount = m; input = input } ∷ after) where
    abbrev t : MountTold
    t = record { mount = m; input = input }

    abbrev now : List MountTold
    now = before ++ t ∷ []

    abbrev x : MountIs
    x = mount_at layout v before m

    abbrev y : MountIs
    y = mount_at layout v now m

    abbrev its : List Exchange
    its = exchanges_since layout v now m

    small : m < 16
    small = low layout v told can registers list is m before after input same

    -- it leads to a state, and where a call ends, it went so
    record Leads : Type 0 where
      state : State now
      ends : (answer : CallAnswer) → next_by x input ≡ Some (Done answer) → WentOneByOne v d m (done_calls layout v before) (called x input) (data_in layout v now) answer

    -- a mount at which no call begins and none is pending
    module _ (n : ℕ) (none : call_begun n t ≡ None) (rests : (mount_at layout v before n).files.pending ≡ None) where
      quiet_now : (mount_at layout v now n).files.pending ≡ None
      quiet_now =
          subst (λ (ls : ℕ → Life). (ls n).mount.files.pending ≡ None) (sym (lives_on (all_opened layout v) before (t ∷ [])))
          (quiet_told layout v told can registers list is n before t after same rests none).1

    none_other : (n : ℕ) → (n ≡ m → ⊥) → call_begun n t ≡ None
    none_other n apart = cond-false (n == m) (call_in_input input) None (ne_eqb n m apart)

    -- of the call that is pending

    module _ (earlier mid : List MountTold) (call : FileCall) (now_is : now ≡ earlier ++ record { mount = m; input = Begins call } ∷ mid) (quiet : (n : ℕ) → calls_of mid n ≡ []) (rested : HaveEnded layout v earlier) (went : AllWent earlier)
        (others : (n : ℕ) → n < 16 → (n ≡ m → ⊥) → (mount_at layout v now n).files.pending ≡ None) (done_before : done_calls layout v before ≡ done_calls layout v earlier) (data_now : data_in layout v now ≡ data_in layout v earlier ++ its)
        (calls : called x input ≡ Some (next_call layout v earlier m call)) where
      abbrev p : Pending
      p = next_call layout v earlier m call

      abbrev begins : MountTold
      begins = record { mount = m; input = Begins call }

      there : told ≡ earlier ++ begins ∷ (mid ++ after)
      there = now_same layout v told can registers list is m before after input same ∙ ap (λ us. us ++ after) now_is ∙ append_assoc earlier (begins ∷ mid) after

      is_call : IsCall call
      is_call = (named_spelled told m p.number call spelled (begun_named layout v told can registers list is m earlier (mid ++ after) call there)).place

      module _ (answer : CallAnswer) (is_next : next_by x input ≡ Some (Done answer)) (ended : HaveEnded layout v now) (end : Ends list v m p first y.upto its answer) where
        abbrev w : Went
        w = record { mount = m; call = p; came = its; answer = answer }

        grown : Grows list v d (earlier ++ begins ∷ mid) m p its answer went.upto
        grown =
            grows layout v told can registers list is volume spelled few earlier mid after m call there quiet rested went.upto went.below (subst (HaveEnded layout v) now_is ended) its answer
            (subst (λ us. Ends list v m p first (mount_at layout v us m).upto its answer) now_is end)

        done_now : done_calls layout v now ≡ done_calls layout v earlier ++ option_to_list (call_done call answer)
        done_now =
            done_more layout v before t ∙ ap (λ q. done_calls layout v before ++ option_to_list (done_by q (next_by x input))) calls
            ∙ ap (λ next. done_calls layout v before ++ option_to_list (done_by (Some p) next)) is_next ∙ ap (λ all. all ++ option_to_list (call_done call answer)) done_before

        done_end : done_of (went.calls ++ w ∷ []) ≡ done_calls layout v now
        done_end =
            filter_map-append (λ (c : Went). call_done c.call.call c.answer) went.calls (w ∷ []) ∙ ap (λ all. all ++ cons_option (call_done call answer) []) went.done_are
            ∙ ap (λ more. done_calls layout v earlier ++ more) (one_option (call_done call answer)) ∙ sym done_now

        data_end : exchanges_of went.calls ++ its ≡ data_in layout v now
        data_end = ap (λ all. all ++ its) went.data_are ∙ sym data_now

        all_end : exchanges_of (went.calls ++ w ∷ []) ≡ data_in layout v now
        all_end = flat_map-append (λ (c : Went). c.came) went.calls (w ∷ []) ∙ ap (λ more. exchanges_of went.calls ++ more) (append-nil its) ∙ data_end

        one_more : AllWent now
        one_more = record {
          calls = went.calls ++ w ∷ [];
          are = are_end went.calls w went.are is_call;
          upto = grown.upto;
          go = goes_end v d went.calls (new_tables d.blocks) (tables_at list v went.upto) (tables_at list v grown.upto) w went.go grown.asks;
          done_are = done_end;
          data_are = all_end;
          below = subst (λ us. AreBelow list us grown.upto) (sym now_is) grown.are;
        }

        its_end : WentOneByOne v d m (done_calls layout v before) (called x input) (data_in layout v now) answer
        its_end = record {
          calls = went.calls;
          are = went.are;
          left = tables_at list v went.upto;
          go = went.go;
          done_are = went.done_are ∙ sym done_before;
          call = p;
          was = calls;
          next = tables_at list v grown.upto;
          came = its;
          asks = grown.asks;
          data_are = data_end;
        }

      leads_by : (next : Option MountNext) → next_by x input ≡ next → CallsOn p y next → GoesOn list v m p first y.upto its (pends layout v now m) y.task next → Leads
      leads_by None is_next on goes = record {
        state =
            inr (
              m,
              record {
                small = small;
                earlier = earlier;
                mid = mid;
                call = call;
                same = now_is;
                quiet = quiet;
                rested = rested;
                went = went;
                pending = on.call;
                others = others;
                done_are =
                    done_more layout v before t ∙ ap (λ (next : Option MountNext). done_calls layout v before ++ option_to_list (done_by (called x input) next)) is_next
                    ∙ ap (λ (o : Option FileCall). done_calls layout v before ++ option_to_list o) (none_done (called x input)) ∙ append-nil (done_calls layout v before) ∙ done_before;
                data_are = data_now;
                phase = goes;
              },
            );
        ends = λ answer ends. absurd (none-some (Done answer) (sym is_next ∙ ends));
      }
      leads_by (Some Ready) is_next on goes = absurd on
      leads_by (Some Failed) is_next on goes = absurd on
      leads_by (Some (Done answer)) is_next on goes =
          let ended : HaveEnded layout v now = λ n low_n. elim (cases_eq n m) [
            | inl own ↦ subst (λ i. (mount_at layout v now i).files.pending ≡ None) (sym own) on.call
            | inr apart ↦ others n low_n apart
          ] in record {
            state = inl (one_more answer is_next ended goes, ended);
            ends = λ other ends. subst (WentOneByOne v d m (done_calls layout v before) (called x input) (data_in layout v now)) (same_done answer other (same_Some (Done answer) (Done other) (sym is_next ∙ ends))) (its_end answer is_next ended goes);
          }
        where
          same_done : (answer other : CallAnswer) → ◌≡◌ {A = MountNext} (Done answer) (Done other) → answer ≡ other
          same_done answer other same = cc

      leads : CallsOn p (mount_after x input) (next_by x input) → GoesOn list v m p first y.upto its (pends layout v now m) y.task (next_by x input) → Leads
      leads on goes =
          leads_by (next_by x input) refl
          (subst (λ (of : Life). CallsOn p of.mount (next_by x input)) (sym (its_life layout v told can registers list is m before after input same)) on) goes

    -- no call begins

    module _ (none : call_in_input input ≡ None) where
      none_begins : (n : ℕ) → call_begun n t ≡ None
      none_begins n = by_test (n == m) (λ b. (if b then call_in_input input else None) ≡ None) (λ _. none) (λ _. refl)

      calls_same : (n : ℕ) → calls_of now n ≡ calls_of before n
      calls_same n = calls_on before (t ∷ []) n ∙ ap (λ o. calls_of before n ++ cons_option o []) (none_begins n) ∙ append-nil (calls_of before n)

      quiet_more : (mid : List MountTold) (n : ℕ) → calls_of mid n ≡ [] → calls_of (mid ++ t ∷ []) n ≡ []
      quiet_more mid n quiet = calls_on mid (t ∷ []) n ∙ ap (λ calls. calls ++ calls_of (t ∷ []) n) quiet ∙ ap (λ o. cons_option o []) (none_begins n)

      -- at a mount that has none pending

      module _ (rests : x.files.pending ≡ None) where
        none_called : called x input ≡ None
        none_called = called_still x input none ∙ rests

        done_same : done_calls layout v now ≡ done_calls layout v before
        done_same =
            done_more layout v before t ∙ ap (λ (q : Option Pending). done_calls layout v before ++ option_to_list (done_by q (next_by x input))) none_called
            ∙ ap (λ (o : Option FileCall). done_calls layout v before ++ option_to_list o) (no_call_done (next_by x input)) ∙ append-nil (done_calls layout v before)

        data_same : data_in layout v now ≡ data_in layout v before
        data_same =
            let came = exchanged x (pends layout v before m) input in
            let nothing : came ≡ [] = sym (cond-true (m == m) came [] (eq-eqb m m refl)) ∙ (quiet_told layout v told can registers list is m before t after same rests (none_begins m)).0 in
            data_more layout v before t ∙ ap (λ more. data_in layout v before ++ more) nothing ∙ append-nil (data_in layout v before)

        no_end : (answer : CallAnswer) → next_by x input ≡ Some (Done answer) → WentOneByOne v d m (done_calls layout v before) (called x input) (data_in layout v now) answer
        no_end answer ends =
            let ended = data_ended layout v told can registers list is m before after input answer same ends in
            absurd (none-some ended.call (sym none_called ∙ ended.was))

        still_went : AllWent before → AllWent now
        still_went went = record {
          calls = went.calls;
          are = went.are;
          upto = went.upto;
          go = went.go;
          done_are = went.done_are ∙ sym done_same;
          data_are = went.data_are ∙ sym data_same;
          below = record {
            below = λ k n number of begun. went.below.below k n number of (subst (λ calls. number ≤ length calls) (calls_same n) begun);
            last = λ k end. let last = went.below.last k end in (last.0, last.1, last.2, subst (λ calls. last.1 ≤ length calls) (sym (calls_same last.0)) last.3);
          };
        }

        -- while the call of another one goes on
        still_runs : (k : ℕ) → (k ≡ m → ⊥) → Runs k before → Runs k now
        still_runs k apart runs =
            let b = ne_eqb k m apart in
            let p = next_call layout v runs.earlier k runs.call in
            let life : lives layout v now k ≡ lives layout v before k = ap (λ (ls : ℕ → Life). ls k) (lives_on (all_opened layout v) before (t ∷ [])) ∙ cond-false (k == m) _ (lives layout v before k) b in
            let since : exchanges_since layout v now k ≡ exchanges_since layout v before k = since_on (all_opened layout v) k None [] before (t ∷ []) ∙ cond-false (k == m) _ (exchanges_since layout v before k) b in
            let last : pends layout v now k ≡ pends layout v before k = pends_on (all_opened layout v) k None before (t ∷ []) ∙ cond-false (k == m) _ (pends layout v before k) b in record {
              small = runs.small;
              earlier = runs.earlier;
              mid = runs.mid ++ t ∷ [];
              call = runs.call;
              same = ap (λ us. us ++ t ∷ []) runs.same ∙ append_assoc runs.earlier (record { mount = k; input = Begins runs.call } ∷ runs.mid) (t ∷ []);
              quiet = λ n. quiet_more runs.mid n (runs.quiet n);
              rested = runs.rested;
              went = runs.went;
              pending = ap (λ (of : Life). of.mount.files.pending) life ∙ runs.pending;
              others = λ n low_n other. quiet_now n (none_begins n) (runs.others n low_n other);
              done_are = done_same ∙ runs.done_are;
              data_are = data_same ∙ runs.data_are ∙ ap (λ came. data_in layout v runs.earlier ++ came) (sym since);
              phase =
                  subst (λ came. Phase list v k p (mount_at layout v now k).upto came (pends layout v now k) (mount_at layout v now k).task) (sym since)
                  (subst (λ ask. Phase list v k p (mount_at layout v now k).upto (exchanges_since layout v before k) ask (mount_at layout v now k).task) (sym last)
                  (subst (λ (of : Life). Phase list v k p of.mount.upto (exchanges_since layout v before k) (pends layout v before k) of.mount.task) (sym life) runs.phase));
            }

      -- at the mount whose call goes on
      own_leads : Runs m before → Leads
      own_leads runs =
          let p = next_call layout v runs.earlier m runs.call in
          let last = pends layout v before m in
          let begins : MountTold = record { mount = m; input = Begins runs.call } in
          let calls : called x input ≡ Some p = called_still x input none ∙ runs.pending in
          let since = since_is layout v told can registers list is volume spelled few before after m input same ∙ since_still x last (exchanges_since layout v before m) input none in
          let data_now : data_in layout v now ≡ data_in layout v runs.earlier ++ its =
          data_more layout v before t ∙ ap (λ all. all ++ exchanged x last input) runs.data_are
          ∙ append_assoc (data_in layout v runs.earlier) (exchanges_since layout v before m) (exchanged x last input) ∙ ap (λ came. data_in layout v runs.earlier ++ came) (sym since) in
          let named = its_calls layout v m before in
          let its_last : IsLastOf (calls_of before m) p = subst (OfPending (IsLastOf (calls_of before m))) runs.pending named.call in
          leads runs.earlier (runs.mid ++ t ∷ []) runs.call (ap (λ us. us ++ t ∷ []) runs.same ∙ append_assoc runs.earlier (begins ∷ runs.mid) (t ∷ []))
          (λ n. quiet_more runs.mid n (runs.quiet n)) runs.rested runs.went (λ n low_n other. quiet_now n (none_begins n) (runs.others n low_n other)) runs.done_are data_now calls
          (input_calls x p input none (is_at_call x p (its_status layout v before m) runs.pending))
          (phase_on layout v told can registers list is volume spelled few before after m input same p runs.pending (its_last.last ∙ sym named.count) runs.phase calls)

      other_leads : State before → Leads
      other_leads (inl all) = record {
        state = inl (still_went (all.1 m small) all.0, λ n low_n. quiet_now n (none_begins n) (all.1 n low_n));
        ends = no_end (all.1 m small);
      }
      other_leads (inr runs) = elim (cases_eq runs.0 m) [
        | inl own ↦ own_leads (subst (λ k. Runs k before) own runs.1)
        | inr apart ↦
            let rests = runs.1.others m small (λ own. apart (sym own)) in
            record { state = inr (runs.0, still_runs rests runs.0 apart runs.1); ends = no_end rests }
      ]

  -- a call begins where all have ended

  rested_went : (before : List MountTold) → HaveEnded layout v before → State before → AllWent before
  rested_went before ended (inl all) = all.0
  rested_went before ended (inr runs) = absurd (none-some _ (sym (ended runs.0 runs.1.small) ∙ runs.1.pending))

  begins_leads : (before : List MountTold) (m : ℕ) (call : FileCall) (after : List MountTold) (same : told ≡ before ++ record { mount = m; input = Begins call } ∷ after) → HaveEnded layout v before → AllWent before → Leads before m (Begins call) after same
  begins_leads before m call after same ended went =
      let t : MountTold = record { mount = m; input = Begins call } in
      let now : List MountTold = before ++ t ∷ [] in
      let x = mount_at layout v before m in
      let p = next_call layout v before m call in
      let low_m = small before m (Begins call) after same in
      let none : HasNoneBelow list v m p (mount_at layout v now m).upto = λ k less of.
      let stood = stays layout v told can registers list is volume spelled few before after m (Begins call) same refl in
      let begun = begun_by_then layout v told can registers list is few k m p.number of before (t ∷ after) m low_m same (omega (arith, less, stood)) in
      let count = calls_count layout v before m in
      omega (arith, begun, count) in
      leads before m (Begins call) after same before [] call refl (λ n. refl) ended went (λ n low_n apart. quiet_now before m (Begins call) after same n (none_other before m (Begins call) after same n apart) (ended n low_n)) refl
      (data_more layout v before t ∙ ap (λ came. data_in layout v before ++ came) (sym (since_is layout v told can registers list is volume spelled few before after m (Begins call) same)))
      refl (starting_goes_on x call) (plain_on layout v told can registers list is volume spelled few before after m (Begins call) same p (next_by x (Begins call)) refl refl none)

  input_leads : (before : List MountTold) (m : ℕ) (input : Input) (after : List MountTold) (same : told ≡ before ++ record { mount = m; input = input } ∷ after) → ((call : FileCall) → input ≡ Begins call → HaveEnded layout v before) → State before → Leads before m input after same
  input_leads before m (Begins call) after same alone state = let ended = alone call refl in begins_leads before m call after same ended (rested_went before ended state)
  input_leads before m (Asks port) after same alone state = other_leads before m (Asks port) after same refl state
  input_leads before m (Hears port reply) after same alone state = other_leads before m (Hears port reply) after same refl state

  -- All that was told

  new_state : State []
  new_state = inl (
    record {
      calls = [];
      are = tt;
      upto = 0;
      go = refl;
      done_are = refl;
      data_are = refl;
      below = record {
        below = λ k n number of begun. let some = some_number layout v told can registers list is few k n number of in absurd (omega (arith, some, begun));
        last = λ k end. absurd (omega (arith, end));
      };
    },
    λ m low_m. refl,
  )

  module _ (whole after : List MountTold) (same : told ≡ whole ++ after) (alone : AreOneAtATime layout v whole) where
    begins_ended : (before : List MountTold) (m : ℕ) (input : Input) (rest : List MountTold) → whole ≡ before ++ record { mount = m; input = input } ∷ rest → (call : FileCall) → input ≡ Begins call → HaveEnded layout v before
    begins_ended before m input rest same_whole call is_call =
        let of : Input → List MountTold = λ i. before ++ record { mount = m; input = i } ∷ rest in
        alone before rest m call (same_whole ∙ ap of is_call)

    told_there : (before : List MountTold) (t : MountTold) (rest : List MountTold) → whole ≡ before ++ t ∷ rest → told ≡ before ++ t ∷ (rest ++ after)
    told_there before t rest same_whole = same ∙ ap (λ us. us ++ after) same_whole ∙ append_assoc before (t ∷ rest) after

    all_lead : (more before rest : List MountTold) → whole ≡ before ++ (more ++ rest) → State before → State (before ++ more)
    all_lead [] before rest same_whole state = subst State (sym (append-nil before)) state
    all_lead (t ∷ more) before rest same_whole state =
        subst State (append_assoc before (t ∷ []) more)
        (all_lead more (before ++ t ∷ []) rest (same_whole ∙ sym (append_assoc before (t ∷ []) (more ++ rest)))
        (input_leads before t.mount t.input ((more ++ rest) ++ after) (told_there before t (more ++ rest) same_whole) (begins_ended before t.mount t.input (more ++ rest) same_whole) state).state)

  pub went_one_by_one : (before after : List MountTold) (m : ℕ) (input : Input) (answer : CallAnswer) → told ≡ before ++ record { mount = m; input = input } ∷ after → next_by (lives layout v before m).mount input ≡ Some (Done answer)
      → (let now = before ++ record { mount = m; input = input } ∷ [] in AreOneAtATime layout v now
      → WentOneByOne v (data_blocks layout v) m (done_calls layout v before) (called (lives layout v before m).mount input) (data_in layout v now) answer)
  went_one_by_one before after m input answer same ends alone =
      let t : MountTold = record { mount = m; input = input } in
      let now : List MountTold = before ++ t ∷ [] in
      let whole = now_same layout v told can registers list is m before after input same in
      let state = all_lead now after whole alone before [] (t ∷ []) refl new_state in
      (input_leads before m input after same (begins_ended now after whole alone before m input [] refl) state).ends answer ends
