-- No slot is claimed twice while jobs are only claimed and finished, so there are few claims that get a job.
use Rattle.std.proofs.Common.{◌≡◌, ℕ, zero, suc, ◌+◌, ◌<◌, ◌≤◌, ◌⊎◌, inl, inr, Bool, true, false, cond, not, ◌&&◌, ◌||◌, ◌==◌, if◌then◌else◌, List, [], ◌∷◌, ◌++◌, Option, Some, None, is_some, nat_le, find, slice_get, slice_set, sum_by, arith, refl, sym, ap, subst, ◌∙◌}
use Rattle.std.specs.List.{count_by, range_with_len}
use Rattle.std.specs.FinMap
use Rattle.std.specs.FinMap.{get-remove}
use Rattle.std.specs.Cmp.{nat_cmp_total}
use Rattle.std.specs.Ordering.{nat_cmp, eq_by_cmp}
use Rattle.std.proofs.lemmas.Bool.{and_parts, and_from, or_parts, not-true, false≢true, true≢false, cases_eq, cases_Bool, cond-true, cond-false}
use Rattle.std.proofs.lemmas.Option.{same_Some, none-some}
use Rattle.std.proofs.lemmas.List.FromFn.{length-range_with_len}
use Rattle.std.proofs.lemmas.List.Sums.{sum_by-cons, count_by-le-length}
use Rattle.pf_entry.specs.Maps.{Map}
use Rattle.pf_entry.specs.Sets
use Rattle.pf_entry.specs.Lists.{Every}
use Rattle.pf_entry.specs.Applying.{is_free}
use Rattle.pf_entry.specs.declared.ops.Op.{Op}
use Rattle.pf_entry.specs.declared.entries.Entry.{Entry}
use Rattle.pf_entry.proofs.Lists.{found_passes}
use Rattle.pf_entry.proofs.Maps.{get_inserted, get_apart}
use Rattle.pf_entry.proofs.Sets.{contains-insert}
use Rattle.pf_protocol.specs.declared.answers.Answer.{Answer}
use Rattle.pf_protocol.specs.declared.answers.Answer.TheVariants.{Refused}
use Rattle.pf_protocol.specs.declared.answers.Refusal.TheVariants.{Halted, Stale}
use Rattle.pf_protocol.specs.declared.events.Event.{Event}
use Rattle.pf_protocol.specs.declared.events.Event.TheVariants.{Submit, Fetch, Deliver, Lose, Elect, Resend, Stop, Restart, Claim, Finish, GiveBack, Checkpoint}
use Rattle.pf_protocol.specs.Servers.{Setup, Server, Condition, Running, Stopped, Unformatted, has_applied}
use Rattle.pf_protocol.specs.Outcomes.{sends, only_answers}
use Rattle.pf_protocol.specs.Leading.{op_at}
use Rattle.pf_protocol.specs.Rows.{settled}
use Rattle.pf_protocol.specs.Saving.{claimable, claimed, is_claimable, applied_op, on_finish}
use Rattle.pf_protocol.specs.Groups.{Group, Ending, Whole, CutOff, Missed, Untouched, acted, cut_off, server_step_of, least_claim, claim_at, claim_or, first_claim, only_whole, ending, happens, opening}
use Rattle.pf_protocol.specs.Histories.{History, run, replay}
use Rattle.pf_protocol.specs.Answers.{Claimed, claims_after, claims_of, claim_answer, claim_answer_at, finish_answer, answer_to, may_halt, IsAnswer, IsLegalFrom, IsLegal}
use Rattle.pf_entry.proofs.Cases.{by_test}
use Rattle.pf_protocol.proofs.ForHistories.{legal_fits}
use Rattle.pf_protocol.proofs.ForMoments.{legal_before}
use Rattle.pf_group_rounds.specs.Jobs.{IsClaimOrFinish, IsOfRound, is_job, jobs_in}

module _ {X : Type 0} (before after : X → Bool) (fewer : (x : X) → after x ≡ true → before x ≡ true) where
  one_less : (x : X) → cond (after x) 1 0 ≤ cond (before x) 1 0
  one_less x = by_test (after x) (λ c. after x ≡ c → cond c 1 0 ≤ cond (before x) 1 0)
      (λ _ is. subst (λ c. 1 ≤ cond c 1 0) (sym (fewer x is)) (omega arith)) (λ _ _. omega arith) refl

  count_less : (xs : List X) → count_by after xs ≤ count_by before xs
  count_less [] = omega arith
  count_less (x ∷ xs) =
      omega (arith, one_less x, count_less xs, sum_by-cons (λ y. cond (after y) 1 0) x xs, sum_by-cons (λ y. cond (before y) 1 0) x xs)

  -- one that was found counts no more
  count_fewer : (test : X → Bool) (xs : List X) (x : X) → find test xs ≡ Some x → before x ≡ true → after x ≡ false → count_by after xs < count_by before xs
  count_fewer test [] x found was is = absurd (none-some x found)
  count_fewer test (y ∷ ys) x found was is =
      elim (cases_Bool (test y)) [
        | inl passes ↦
            let same : y ≡ x = same_Some y x (sym (cond-true (test y) _ _ passes) ∙ found) in
            let old : ◌≡◌ {A = ℕ} (cond (before y) 1 0) 1 = ap (λ c. cond c 1 0) (ap before same ∙ was) in
            let new : ◌≡◌ {A = ℕ} (cond (after y) 1 0) 0 = ap (λ c. cond c 1 0) (ap after same ∙ is) in
            omega (arith, old, new, count_less ys, sum_by-cons (λ z. cond (after z) 1 0) y ys, sum_by-cons (λ z. cond (before z) 1 0) y ys)
        | inr fails ↦
            let rest = count_fewer test ys x (sym (cond-false (test y) _ _ fails) ∙ found) was is in
            omega (arith, one_less y, rest, sum_by-cons (λ z. cond (after z) 1 0) y ys, sum_by-cons (λ z. cond (before z) 1 0) y ys)
      ]

-- the slot is neither applied nor in hand
abbrev is_left : Server → ℕ → Bool
is_left s slot = not (has_applied s slot) && not (FinMap.contains_key s.in_hand slot)

-- the slots of the window above the checkpoint that are left
slots_left : (window : ℕ) → Server → ℕ
slots_left window s = count_by (is_left s) (range_with_len (suc s.durable.base) window)

abbrev left_at : (window : ℕ) → Condition → ℕ
left_at window (Running s) = slots_left window s
left_at window _ = 0

abbrev left_in : (window : ℕ) → Group → ℕ
left_in window g = sum_by (left_at window) g.servers

-- what is not in hand after an insert was not in hand before
not_inserted : (m : Map Op) (slot : ℕ) (op : Op) (x : ℕ) → FinMap.contains_key (FinMap.insert m slot op) x ≡ false → FinMap.contains_key m x ≡ false
not_inserted m slot op x is =
    elim (cases_eq x slot) [
      | inl same ↦ absurd (true≢false (sym (ap is_some (ap (FinMap.get (FinMap.insert m slot op)) same ∙ get_inserted m slot op)) ∙ is))
      | inr apart ↦ ap is_some (sym (get_apart m slot op x apart)) ∙ is
    ]

claimed_less : (s : Server) (slot x : ℕ) → is_left (claimed s slot) x ≡ true → is_left s x ≡ true
unfolding claimed
claimed_less s slot x is =
    let both = and_parts _ _ is in
    and_from _ _ both.0 (ap not (not_inserted s.in_hand slot (op_at s.durable.log slot) x (not-true _ both.1)))

claimable_left : (s : Server) (slot : ℕ) (o : Option Entry) → is_claimable s o slot ≡ true → is_left s slot ≡ true
claimable_left s slot None is = absurd (false≢true is)
claimable_left s slot (Some e) is =
    let both = and_parts (Sets.contains s.committed slot && not (has_applied s slot) && not (FinMap.contains_key s.in_hand slot)) (is_free (has_applied s) e) is in
    let first = and_parts (Sets.contains s.committed slot && not (has_applied s slot)) (not (FinMap.contains_key s.in_hand slot)) both.0 in
    and_from _ _ (and_parts (Sets.contains s.committed slot) (not (has_applied s slot)) first.0).1 first.1

claimed_not_left : (s : Server) (slot : ℕ) → is_left (claimed s slot) slot ≡ false
unfolding claimed
claimed_not_left s slot =
    ap (λ o. not (has_applied s slot) && not (is_some o)) (get_inserted s.in_hand slot (op_at s.durable.log slot)) ∙ and_false (not (has_applied s slot))
  where
    and_false : (c : Bool) → (c && false) ≡ false
    and_false true = refl
    and_false false = refl

claimed_window : (s : Server) (slot : ℕ) → (claimed s slot).durable ≡ s.durable
unfolding claimed
claimed_window s slot = refl

claim_fewer : (window : ℕ) (s : Server) (slot : ℕ) → claimable window s ≡ Some slot → slots_left window (claimed s slot) < slots_left window s
unfolding slots_left claimable
claim_fewer window s slot is =
    let slots = range_with_len (suc s.durable.base) window in
    let test : ℕ → Bool = λ k. is_claimable s (FinMap.get s.durable.log k) k in
    let fewer : count_by (is_left (claimed s slot)) slots < count_by (is_left s) slots =
    count_fewer (is_left s) (is_left (claimed s slot)) (claimed_less s slot) test slots slot is (claimable_left s slot (FinMap.get s.durable.log slot) (found_passes test slots slot is)) (claimed_not_left s slot) in
    subst (λ d. count_by (is_left (claimed s slot)) (range_with_len (suc d.base) window) < count_by (is_left s) slots) (sym (claimed_window s slot)) fewer

-- an applied slot is not left
applied_less : (s : Server) (slot : ℕ) (o : Option Op) (x : ℕ) → is_left (applied_op s slot o) x ≡ true → is_left s x ≡ true
unfolding applied_op
applied_less s slot None x is = is
applied_less s slot (Some op) x is =
    let both = and_parts _ _ is in
    let unapplied = or_parts (nat_le x s.durable.base) (Sets.contains (Sets.insert s.applied slot) x) (not-true _ both.0) in
    let apart = or_parts (eq_by_cmp nat_cmp x slot) (Sets.contains s.applied x) (sym (contains-insert s.applied slot x) ∙ unapplied.1) in
    let not_applied : has_applied s x ≡ false = ap (λ c. c || Sets.contains s.applied x) unapplied.0 ∙ apart.1 in
    let there : FinMap.get (FinMap.remove s.in_hand slot) x ≡ FinMap.get s.in_hand x = get-remove nat_cmp_total s.in_hand slot x ∙ cond-false _ None (FinMap.get s.in_hand x) apart.0 in
    and_from _ _ (ap not not_applied) (ap not (ap is_some (sym there) ∙ not-true _ both.1))

applied_window : (s : Server) (slot : ℕ) (o : Option Op) → (applied_op s slot o).durable ≡ s.durable
unfolding applied_op
applied_window s slot None = refl
applied_window s slot (Some op) = refl

applied_left : (window : ℕ) (s : Server) (slot : ℕ) (o : Option Op) → slots_left window (applied_op s slot o) ≤ slots_left window s
unfolding slots_left
applied_left window s slot o =
    let less : count_by (is_left (applied_op s slot o)) (range_with_len (suc s.durable.base) window) ≤ slots_left window s =
    count_less (is_left s) (is_left (applied_op s slot o)) (applied_less s slot o) (range_with_len (suc s.durable.base) window) in
    subst (λ d. count_by (is_left (applied_op s slot o)) (range_with_len (suc d.base) window) ≤ slots_left window s) (sym (applied_window s slot o)) less

finish_left : (window : ℕ) (s : Server) (life slot : ℕ) → slots_left window (settled (on_finish s life slot).server) ≤ slots_left window s
unfolding on_finish settled slots_left
finish_left window s life slot =
    by_test (life == s.life) (λ c. slots_left window (if c then sends (applied_op s slot (FinMap.get s.in_hand slot)) [] else only_answers s (Refused (Stale s.life))).server ≤ slots_left window s)
    (λ _. applied_left window s slot (FinMap.get s.in_hand slot)) (λ _. omega arith)

-- a place of a list after a write
set_sum : {X : Type 0} → (f : X → ℕ) (xs : List X) (i : ℕ) (y x : X) → slice_get xs i ≡ Some y → sum_by f (slice_set xs i x) + f y ≡ sum_by f xs + f x
set_sum f [] i y x at = absurd (none-some y at)
set_sum f (z ∷ zs) zero y x at = let same : f z ≡ f y = ap f (same_Some z y at) in omega (arith, same, sum_by-cons f z zs, sum_by-cons f x zs)
set_sum f (z ∷ zs) (suc i) y x at = omega (arith, set_sum f zs i y x at, sum_by-cons f z zs, sum_by-cons f z (slice_set zs i x))

module _ (window : ℕ) (g : Group) where
  -- what a happening costs
  abbrev Pays : Answer → Group → Type 0
  Pays answer after = cond (is_job answer) 1 0 + left_in window after ≤ left_in window g

  runs_on : (i : ℕ) (s z : Server) → slice_get g.servers i ≡ Some (Running s) → sum_by (left_at window) (slice_set g.servers i (Running z)) + slots_left window s ≡ left_in window g + slots_left window z
  runs_on i s z at = set_sum (left_at window) g.servers i (Running s) (Running z) at

  claim_pays : (i : ℕ) (rest : Answer) (later : Group) (c : Option Condition) (slot : Option ℕ) → slice_get g.servers i ≡ c → least_claim window c ≡ slot → Pays rest (only_whole (ending rest) g later) → Pays (claim_answer_at i c slot rest) (only_whole (ending (claim_answer_at i c slot rest)) g (claim_or g i slot later))
  claim_pays i rest later (Some (Running s)) (Some slot) at is before =
      subst (λ c. 1 + left_in window (claim_at g i c (Some slot)) ≤ left_in window g) (sym at) (omega (arith, claim_fewer window s slot is, runs_on i s (claimed s slot) at))
  claim_pays i rest later (Some (Running s)) None at is before = before
  claim_pays i rest later (Some (Stopped life b a)) (Some slot) at is before = absurd (none-some slot is)
  claim_pays i rest later (Some (Stopped life b a)) None at is before = before
  claim_pays i rest later (Some Unformatted) (Some slot) at is before = absurd (none-some slot is)
  claim_pays i rest later (Some Unformatted) None at is before = before
  claim_pays i rest later None (Some slot) at is before = absurd (none-some slot is)
  claim_pays i rest later None None at is before = before

  claims_pay : (is : List ℕ) → Pays (claim_answer window g is) (only_whole (ending (claim_answer window g is)) g (first_claim window g is))
  claims_pay [] = omega arith
  claims_pay (i ∷ is) = claim_pays i (claim_answer window g is) (first_claim window g is) (slice_get g.servers i) (least_claim window (slice_get g.servers i)) refl refl (claims_pay is)

  finish_pays : (how : Ending) (i life slot : ℕ) (c : Option Condition) → slice_get g.servers i ≡ c → left_in window (server_step_of how g i c (λ s. on_finish s life slot)) ≤ left_in window g
  unfolding acted cut_off
  finish_pays Whole i life slot (Some (Running s)) at = omega (arith, finish_left window s life slot, runs_on i s (settled (on_finish s life slot).server) at)
  finish_pays CutOff i life slot (Some (Running s)) at =
      omega (arith, set_sum (left_at window) g.servers i (Running s) (Stopped (suc s.life) s.durable (on_finish s life slot).server.durable) at)
  finish_pays Missed i life slot (Some (Running s)) at = omega arith
  finish_pays Untouched i life slot (Some (Running s)) at = omega arith
  finish_pays how i life slot (Some (Stopped l b a)) at = omega arith
  finish_pays how i life slot (Some Unformatted) at = omega arith
  finish_pays how i life slot None at = omega arith

-- a finish is not answered with a job
no_job : (c : Option Condition) (life slot : ℕ) → is_job (finish_answer c life slot) ≡ false
unfolding on_finish
no_job (Some (Running s)) life slot =
    by_test (life == s.life) (λ c. is_job (if c then sends (applied_op s slot (FinMap.get s.in_hand slot)) [] else only_answers s (Refused (Stale s.life))).answer ≡ false) (λ _. refl) (λ _. refl)
no_job (Some (Stopped now before after)) life slot = refl
no_job (Some Unformatted) life slot = refl
no_job None life slot = refl

-- the answer of an event that no disk can cut off
pub answer_is : (answer right : Answer) → (answer ≡ right) ⊎ ((false ≡ true) × (answer ≡ Refused Halted)) → answer ≡ right
answer_is answer right is = elim is [ inl same ↦ same | inr cut ↦ absurd (false≢true cut.0) ]

happening_pays : (setup : Setup) (g : Group) (event : Event) (answer : Answer) → IsClaimOrFinish event → IsAnswer setup g event answer → Pays setup.window g answer (happens setup g event (ending answer))
unfolding happens answer_to may_halt
happening_pays setup g Claim answer round is =
    subst (λ a. Pays setup.window g a (only_whole (ending a) g (first_claim setup.window g (0 ∷ 1 ∷ 2 ∷ [])))) (sym (answer_is answer _ is)) (claims_pay setup.window g (0 ∷ 1 ∷ 2 ∷ []))
happening_pays setup g (Finish i life slot) answer round is =
    let none : ◌≡◌ {A = ℕ} (cond (is_job answer) 1 0) 0 = ap (λ c. cond c 1 0) (ap is_job (answer_is answer _ is) ∙ no_job (slice_get g.servers i) life slot) in
    omega (arith, none, finish_pays setup.window g (ending answer) i life slot (slice_get g.servers i) refl)
happening_pays setup g (Submit i op) answer round is = absurd round
happening_pays setup g (Fetch i range) answer round is = absurd round
happening_pays setup g (Deliver k) answer round is = absurd round
happening_pays setup g (Lose k) answer round is = absurd round
happening_pays setup g (Elect i) answer round is = absurd round
happening_pays setup g (Resend i) answer round is = absurd round
happening_pays setup g (Stop i) answer round is = absurd round
happening_pays setup g (Restart i found) answer round is = absurd round
happening_pays setup g (GiveBack i life slot) answer round is = absurd round
happening_pays setup g (Checkpoint i) answer round is = absurd round

jobs_left : (setup : Setup) (more : History) (g : Group) (claims : List Claimed) → IsLegalFrom setup g claims more → Every IsOfRound more → jobs_in more + left_in setup.window (run setup g more) ≤ left_in setup.window g
jobs_left setup [] g claims legal round = omega arith
jobs_left setup (h ∷ hs) g claims legal round =
    let next = happens setup g h.event (ending h.answer) in
    omega (arith, happening_pays setup g h.event h.answer round.0 legal.0.answered, jobs_left setup hs next (claims_after claims h.event h.answer) legal.1 round.1, sum_by-cons (λ x. cond (is_job x.answer) 1 0) h hs)

-- a server has no more left than the window is long
left_low : (window : ℕ) (c : Condition) → left_at window c ≤ window
unfolding slots_left
left_low window (Running s) = omega (arith, count_by-le-length (is_left s) (range_with_len (suc s.durable.base) window), length-range_with_len (suc s.durable.base) window)
left_low window (Stopped life before after) = omega arith
left_low window Unformatted = omega arith

three_left : (window : ℕ) (servers : List Condition) → ((i : ℕ) (c : Condition) → slice_get servers i ≡ Some c → i < 3) → sum_by (left_at window) servers ≤ window + window + window
three_left window [] few = omega arith
three_left window (a ∷ []) few = omega (arith, left_low window a)
three_left window (a ∷ b ∷ []) few = omega (arith, left_low window a, left_low window b)
three_left window (a ∷ b ∷ c ∷ []) few = omega (arith, left_low window a, left_low window b, left_low window c)
three_left window (a ∷ b ∷ c ∷ d ∷ rest) few = absurd (omega (arith, few 3 d refl))

pub legal_rest : (setup : Setup) (history more : History) (g : Group) (claims : List Claimed) → IsLegalFrom setup g claims (history ++ more) → IsLegalFrom setup (run setup g history) (claims_of claims history) more
legal_rest setup [] more g claims legal = legal
legal_rest setup (h ∷ hs) more g claims legal = legal_rest setup hs more (happens setup g h.event (ending h.answer)) (claims_after claims h.event h.answer) legal.1

pub few_jobs : (setup : Setup) (history more : History) → setup.window ≡ 4096 → IsLegal setup (history ++ more) → Every IsOfRound more → jobs_in more ≤ 12288
few_jobs setup history more window is round =
    let before = legal_before setup history (history ++ more) (record { rest = more; whole = refl }) is in
    let fits = legal_fits setup history before in
    let jobs = jobs_left setup more (replay setup history) (claims_of [] history) (legal_rest setup history more (opening setup) [] is.legal) round in
    let low = three_left setup.window (replay setup history).servers (λ i c at. (fits.servers i c at).0) in
    omega (arith, jobs, low, window)
