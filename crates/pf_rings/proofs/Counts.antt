-- Each step on the word of a ring keeps its rule.
use Rattle.std.proofs.Common.{◌≡◌, ◌≢◌, ℕ, zero, suc, ◌+◌, ◌-◌, ◌%◌, ◌^◌, ◌<◌, ◌≤◌, Bool, true, false, true≢false, List, [], ◌∷◌, ◌++◌, length, set, sym, refl, ap, ◌∙◌, subst, ⊎_elim, cond, arith}
use Rattle.std.specs.Prelude.{◌==◌, slice_set, slice_index}
use Rattle.std.proofs.lemmas.Bool.Decides.{nat_tests}
use mathlib.Core.Option.{none, some, some-injective, some-ne-none}
use lib.ListN.{get_elem?}
use Rattle.atomic_table.specs.Table.{State, Me, Step, Act, step, keeps, Valid, homes_after, carried_after, Allows, Splits, Joins, opening}
use Rattle.atomic_table.proofs.Lists.{at_set, at_snoc}
use Rattle.pf_rings.specs.declared.count.RingCall.{RingCall}
use Rattle.pf_rings.specs.declared.count.RingCall.TheVariants.{Put, Full, Take, Empty}
use Rattle.pf_rings.specs.declared.count.RingSight.{RingSight}
use Rattle.pf_rings.specs.Counted.{Counted, CountFollows, CallsLead, CallsWentOn, finds_place, finds_request, lowers, raises, sees_all, sight_of}
use Rattle.pf_rings.proofs.Histories.{leads_on, stand_fewer, stand_more, went_further, went_nowhere, went_one}

abbrev Each : (ℕ → RingSight → Type 0) → List RingSight → Type 0
Each F views = (j : ℕ) (v : RingSight) → get_elem? views j ≡ some v → F j v

each_set : (F : ℕ → RingSight → Type 0) (views : List RingSight) (i : ℕ) (w : RingSight) → F i w → ((j : ℕ) (u : RingSight) → j ≢ i → get_elem? views j ≡ some u → F j u) → Each F (set views i w)
each_set F views i w mine others j u e = ⊎_elim (λ (x : (j ≡ i) × (w ≡ u)). subst (λ (y : ℕ × RingSight). F y.0 y.1) (λ k. (sym x.0 k, x.1 k)) mine)
    (λ (x : (j ≢ i) × (get_elem? views j ≡ some u)). others j u x.0 x.1) (at_set views i j w u e)

module _ (writer reader : ℕ) (log : List RingCall) (views : List RingSight) (i : ℕ) (v : RingSight) (each : Each (CountFollows writer reader log) views) (at : get_elem? views i ≡ some v) where
  -- the host's seat has seen the history, to which it added
  host_each : (log' : List RingCall) → CallsWentOn false log log' → v.puts ≡ true → Each (CountFollows writer reader log') (set views i (sight_of v.puts v.takes log' v.server))
  host_each log' went may = each_set (CountFollows writer reader log') views i (sight_of v.puts v.takes log' v.server)
      ((λ _. ((mine.0 may).0, went_nowhere true log')), λ t. let m = mine.1 t in (m.0, went_further false v.server log log' m.1 went))
      (λ j u other e. let theirs = each j u e in ((λ p. absurd (other ((theirs.0 p).0 ∙ sym (mine.0 may).0))), λ t. let m = theirs.1 t in (m.0, went_further false u.server log log' m.1 went)))
    where
      mine : CountFollows writer reader log i v
      mine = each i v at

  -- the server thread's seat has
  server_each : (log' : List RingCall) → CallsWentOn true log log' → v.takes ≡ true → Each (CountFollows writer reader log') (set views i (sight_of v.puts v.takes v.host log'))
  server_each log' went may = each_set (CountFollows writer reader log') views i (sight_of v.puts v.takes v.host log')
      ((λ p. let m = mine.0 p in (m.0, went_further true v.host log log' m.1 went)), λ _. ((mine.1 may).0, went_nowhere false log'))
      (λ j u other e. let theirs = each j u e in ((λ p. let m = theirs.0 p in (m.0, went_further true u.host log log' m.1 went)), λ t. absurd (other ((theirs.1 t).0 ∙ sym (mine.1 may).0))))
    where
      mine : CountFollows writer reader log i v
      mine = each i v at

at_end : (l : List RingSight) (a b : RingSight) (j : ℕ) → get_elem? l j ≢ some b → get_elem? (l ++ a ∷ []) j ≡ some b → j ≡ length l
at_end [] a b zero n e = refl
at_end [] a b (suc j) n e = absurd (some-ne-none b (sym e))
at_end (x ∷ xs) a b zero n e = absurd (n e)
at_end (x ∷ xs) a b (suc j) n e = ap suc (at_end xs a b j n e)

pub opens : (S : Type 0) → Counted {S = S} (opening (0 ∷ []) [] (sight_of true true [] []))
opens S = (0, 0, 0, [], refl, refl, only)
  where
    only : Each (CountFollows 0 0 []) (sight_of true true [] [] ∷ [])
    only zero v e = subst (CountFollows 0 0 [] 0) (some-injective (sight_of true true [] []) v e) ((λ _. (refl, went_nowhere true [])), λ _. (refl, went_nowhere false []))
    only (suc j) v e = absurd (some-ne-none v (sym e))

module _ {S : Type 0} where
  -- what a step tells says nothing of how it was called
  abbrev pub any : Step S
  any = step 0 0 0 0 none

  -- a step that keeps all slots
  abbrev Ends : State S RingSight → ℕ → Me S RingSight → (ℕ → ℕ) → (ℕ → Me S RingSight → Type 0) → List ℕ → Type 0
  Ends s i m f then words = (w : RingSight) × (a : Act S) × Valid s.homes m.1 a
      × Counted record { words = slice_set words 0 (f (slice_index words 0)); homes = homes_after s.homes m.1 a; views = slice_set s.views i w }
      × then (slice_index words 0) (w, carried_after m.1 a)

  pub looks_for_place : (slots i : ℕ) (m : Me S RingSight) → m.0.puts ≡ true → Allows Counted slots i m 0 (λ n. n) (finds_place any m)
  looks_for_place slots i m may s h size at fits = subst (Ends s i m (λ n. n) (finds_place any m)) (sym h.4) (by (n == 8) refl)
    where
      n : ℕ
      n = h.2

      log : List RingCall
      log = h.3

      went : CallsWentOn true m.0.host log
      went = ((h.6 i m.0 at).0 may).1

      told : Bool → RingSight → Act S → Type 0
      told b w a = (carried_after m.1 a ≡ m.1) × (l : List RingCall) × CallsWentOn true m.0.host l × CallsLead 0 l n × (w ≡ sight_of m.0.puts m.0.takes (cond b (l ++ Full ∷ []) l) m.0.server)

      goal : Bool → Type 0
      goal b = (w : RingSight) × (a : Act S) × Valid s.homes m.1 a × Counted record { words = n ∷ []; homes = homes_after s.homes m.1 a; views = slice_set s.views i w } × told b w a

      by : (b : Bool) → (n == 8) ≡ b → goal (n == 8)
      by true is = let eight : n ≡ 8 = grind (arith, nat_tests) in subst goal (sym is) (
        sight_of m.0.puts m.0.takes (log ++ Full ∷ []) m.0.server,
        keeps,
        tt,
        (h.0, h.1, n, log ++ Full ∷ [], refl, leads_on 0 n n log (Full ∷ []) h.5 (eight, refl), host_each h.0 h.1 log s.views i m.0 h.6 at (log ++ Full ∷ []) (went_one false log Full refl) may),
        (refl, log, went, h.5, refl),
      )
      by false is = subst goal (sym is) (
        sight_of m.0.puts m.0.takes log m.0.server,
        keeps,
        tt,
        (h.0, h.1, n, log, refl, h.5, host_each h.0 h.1 log s.views i m.0 h.6 at log (went_nowhere false log) may),
        (refl, log, went, h.5, refl),
      )

  pub looks_for_request : (slots i : ℕ) (m : Me S RingSight) → m.0.takes ≡ true → Allows Counted slots i m 0 (λ n. n) (finds_request any m)
  looks_for_request slots i m may s h size at fits = subst (Ends s i m (λ n. n) (finds_request any m)) (sym h.4) (by (n == 0) refl)
    where
      n : ℕ
      n = h.2

      log : List RingCall
      log = h.3

      went : CallsWentOn false m.0.server log
      went = ((h.6 i m.0 at).1 may).1

      told : Bool → RingSight → Act S → Type 0
      told b w a = (carried_after m.1 a ≡ m.1) × (l : List RingCall) × CallsWentOn false m.0.server l × CallsLead 0 l n × (w ≡ sight_of m.0.puts m.0.takes m.0.host (cond b (l ++ Empty ∷ []) l))

      goal : Bool → Type 0
      goal b = (w : RingSight) × (a : Act S) × Valid s.homes m.1 a × Counted record { words = n ∷ []; homes = homes_after s.homes m.1 a; views = slice_set s.views i w } × told b w a

      by : (b : Bool) → (n == 0) ≡ b → goal (n == 0)
      by true is = let none : n ≡ 0 = grind (arith, nat_tests) in subst goal (sym is) (
        sight_of m.0.puts m.0.takes m.0.host (log ++ Empty ∷ []),
        keeps,
        tt,
        (h.0, h.1, n, log ++ Empty ∷ [], refl, leads_on 0 n n log (Empty ∷ []) h.5 (none, refl), server_each h.0 h.1 log s.views i m.0 h.6 at (log ++ Empty ∷ []) (went_one true log Empty refl) may),
        (refl, log, went, h.5, refl),
      )
      by false is = subst goal (sym is) (
        sight_of m.0.puts m.0.takes m.0.host log,
        keeps,
        tt,
        (h.0, h.1, n, log, refl, h.5, server_each h.0 h.1 log s.views i m.0 h.6 at log (went_nowhere true log) may),
        (refl, log, went, h.5, refl),
      )

  pub raise : (slots i : ℕ) (m : Me S RingSight) (k : ℕ) → m.0.puts ≡ true → CallsLead 0 m.0.host k → k < 8 → Allows Counted slots i m 0 (λ n. (n + 1) % 2 ^ 64) (raises any m)
  raise slots i m k may before low s h size at fits =
      let n = h.2 in
      let log = h.3 in
      let went = ((h.6 i m.0 at).0 may).1 in
      let fewer : n ≤ k = stand_fewer m.0.host log k n went before h.5 in
      let small : n < 8 = omega arith in
      let up : (n + 1) % 2 ^ 64 ≡ suc n = omega arith in
      let leads = leads_on 0 n (suc n) log (Put ∷ []) h.5 (small, refl) in
      subst (Ends s i m (λ n. (n + 1) % 2 ^ 64) (raises any m)) (sym h.4) (
        sight_of m.0.puts m.0.takes (log ++ Put ∷ []) m.0.server,
        keeps,
        tt,
        (h.0, h.1, suc n, log ++ Put ∷ [], ap (λ x. x ∷ []) up, leads, host_each h.0 h.1 log s.views i m.0 h.6 at (log ++ Put ∷ []) (went_one false log Put refl) may),
        (refl, log, went, leads, refl),
      )

  pub lower : (slots i : ℕ) (m : Me S RingSight) (k : ℕ) → m.0.takes ≡ true → CallsLead 0 m.0.server k → 0 < k → Allows Counted slots i m 0 (λ n. (n + (2 ^ 64 - 1)) % 2 ^ 64) (lowers any m)
  lower slots i m k may before above s h size at fits = by h.2 refl
    where
      log : List RingCall
      log = h.3

      went : CallsWentOn false m.0.server log
      went = ((h.6 i m.0 at).1 may).1

      more : k ≤ h.2
      more = stand_more m.0.server log k h.2 went before h.5

      few : h.2 < 2 ^ 64
      few = subst (λ ws. slice_index ws 0 < 2 ^ 64) h.4 fits

      by : (n : ℕ) → n ≡ h.2 → Ends s i m (λ n. (n + (2 ^ 64 - 1)) % 2 ^ 64) (lowers any m) s.words
      by zero is = absurd (omega (arith, more))
      by (suc j) is =
          let down : (suc j + (2 ^ 64 - 1)) % 2 ^ 64 ≡ j = omega (arith, few) in
          let leads = leads_on 0 (suc j) j log (Take ∷ []) (subst (CallsLead 0 log) (sym is) h.5) (j, refl, refl) in
          subst (Ends s i m (λ n. (n + (2 ^ 64 - 1)) % 2 ^ 64) (lowers any m)) (sym (h.4 ∙ ap (λ x. x ∷ []) (sym is))) (
            sight_of m.0.puts m.0.takes m.0.host (log ++ Take ∷ []),
            keeps,
            tt,
            (h.0, h.1, j, log ++ Take ∷ [], ap (λ x. x ∷ []) down, leads, server_each h.0 h.1 log s.views i m.0 h.6 at (log ++ Take ∷ []) (went_one true log Take refl) may),
            (refl, log, went, j, refl, leads, refl),
          )

  pub see_all : (slots i : ℕ) (m : Me S RingSight) → m.0.puts ≡ true → m.0.takes ≡ true → Allows Counted slots i m 0 (λ n. n) (sees_all any m)
  see_all slots i m puts takes s h size at fits =
      let log = h.3 in
      let mine = h.6 i m.0 at in
      let w = sight_of m.0.puts m.0.takes log log in
      subst (Ends s i m (λ n. n) (sees_all any m)) (sym h.4) (
        w,
        keeps,
        tt,
        (h.0, h.1, h.2, log, refl, h.5, each_set (CountFollows h.0 h.1 log) s.views i w ((λ _. ((mine.0 puts).0, went_nowhere true log)), λ _. ((mine.1 takes).0, went_nowhere false log)) (λ j u other e. h.6 j u e)),
        (refl, log, (mine.0 puts).1, (mine.1 takes).1, h.5, refl),
      )

  pub parts : (i : ℕ) (v : RingSight) → v.puts ≡ true → v.takes ≡ true → Splits {S = S} Counted i v (sight_of true false v.host v.server) (sight_of false true v.host v.server)
  parts i v puts takes s h at =
      let log = h.3 in
      let l = sight_of true false v.host v.server in
      let r = sight_of false true v.host v.server in
      let mine = h.6 i v at in
      let vs : List RingSight = set s.views i l in
      let p = mine.0 puts in
      let t = mine.1 takes in
      let Old : ℕ → RingSight → Type 0 = λ j u. (u.puts ≡ true → (j ≡ h.0) × CallsWentOn true u.host log) × (u.takes ≢ true) in
      let old : Each Old vs = each_set Old s.views i l ((λ _. p), λ e. true≢false (sym e)) (λ j u other e. let theirs = h.6 j u e in (theirs.0, λ e'. other ((theirs.1 e').0 ∙ sym t.0))) in (
        h.0,
        length vs,
        h.2,
        log,
        h.4,
        h.5,
        λ j u e. ⊎_elim (λ x. ((old j u x).0, λ e'. absurd ((old j u x).1 e')))
            (λ (is : r ≡ u). (
              (λ e'. absurd (true≢false (sym (ap (λ (y : RingSight). y.puts) is ∙ e')))),
              λ e'. (at_end vs r u j (λ x. (old j u x).1 e') e, subst (λ c. CallsWentOn false c log) (ap (λ (y : RingSight). y.server) is) t.1),
            )) (at_snoc vs r u j e),
      )

  pub join : (i : ℕ) (v : RingSight) (other : ℕ) (u : RingSight) → v.puts ≡ true → u.takes ≡ true → Joins {S = S} Counted i v other u (sight_of true true v.host u.server) (sight_of false false [] [])
  join i v other u puts takes s h at apart there =
      let log = h.3 in
      let both = sight_of true true v.host u.server in
      let mine = (h.6 i v at).0 puts in
      let vs : List RingSight = set s.views i both in
      let was : get_elem? s.views other ≡ some u = ⊎_elim (λ x. absurd (apart x.0)) (λ x. x.1) (at_set s.views i other both u there) in
      let theirs = (h.6 other u was).1 takes in
      let F : ℕ → RingSight → Type 0 = CountFollows h.0 i log in
      let Now : ℕ → RingSight → Type 0 = λ j y. j ≢ other → F j y in
      let now : Each Now vs = each_set Now s.views i both (λ _. ((λ _. (mine.0, mine.1)), λ _. (refl, theirs.1)))
      (λ j y _ e two. let k = h.6 j y e in (k.0, λ t. absurd (two ((k.1 t).0 ∙ sym theirs.0)))) in
      (h.0, i, h.2, log, h.4, h.5, each_set F vs other (sight_of false false [] []) ((λ p. absurd (true≢false (sym p))), λ p. absurd (true≢false (sym p))) (λ j y two e. now j y e two))
