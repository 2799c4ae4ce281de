-- Where no claim gets a job and none is in hand, each running server has applied all that its look-behind lists allow.
use Rattle.std.proofs.Common.{◌≡◌, ℕ, zero, suc, ◌+◌, ◌-◌, ◌<◌, ◌≤◌, inl, inr, Bool, true, false, not, ◌||◌, List, [], ◌∷◌, Option, Some, None, is_some, nat_le, find, slice_get, arith, refl, sym, ap, subst, ◌∙◌}
use Rattle.std.specs.List.{list_all, range_with_len}
use Rattle.std.specs.FinMap
use Rattle.std.proofs.lemmas.Bool.{and_from, or_left, or_right, or_parts, leb-false, cases_eq, cases_Bool, cond-true, cond-false, false≢true}
use Rattle.std.proofs.lemmas.Option.{none-some}
use Rattle.pf_entry.specs.Sets
use Rattle.pf_entry.specs.Lists.{Every}
use Rattle.pf_entry.specs.Applying.{IsFree, is_free, passes}
use Rattle.pf_entry.specs.Ops.{range_of}
use Rattle.pf_entry.specs.declared.entries.Entry.{Entry}
use Rattle.pf_protocol.specs.declared.answers.Answer.{Answer}
use Rattle.pf_protocol.specs.declared.answers.Answer.TheVariants.{Refused}
use Rattle.pf_protocol.specs.declared.answers.Refusal.TheVariants.{NoneFree}
use Rattle.pf_protocol.specs.declared.events.Event.TheVariants.{Claim}
use Rattle.pf_protocol.specs.Servers.{Setup, Server, Condition, Running, Stopped, Unformatted, has_applied}
use Rattle.pf_protocol.specs.Saving.{claimable, is_claimable}
use Rattle.pf_protocol.specs.Groups.{Group, least_claim}
use Rattle.pf_protocol.specs.Histories.{History, RunsAs, replay}
use Rattle.pf_protocol.specs.Answers.{claims_of, claim_answer, claim_answer_at, answer_to, IsLegal}
use Rattle.pf_protocol.proofs.ForHistories.{legal_fits}
use Rattle.pf_group_rounds.specs.Closed.{IsClosed}
use Rattle.pf_group_rounds.proofs.InHand.{none_in_hand}

all_pass : (f : ℕ → Bool) (n a : ℕ) → ((k : ℕ) → a ≤ k → k < a + n → f k ≡ true) → list_all f (range_with_len a n) ≡ true
all_pass f zero a each = refl
all_pass f (suc n) a each = and_from _ _ (each a (omega arith) (omega arith)) (all_pass f n (a + 1) (λ k low high. each k (omega arith) (omega arith)))

free_passes : (done : ℕ → Bool) (e : Entry) → IsFree done e → is_free done e ≡ true
unfolding is_free
free_passes done e free = all_pass (λ p. done p || passes e.look p (range_of e.op)) (e.slot - 1) 1 (λ p low high. elim (cases_Bool (done p)) [
  | inl is ↦ or_left _ _ is
  | inr isnt ↦ or_right _ _ (free p (omega arith) (omega arith) isnt)
])

none_found : (f : ℕ → Bool) (n a k : ℕ) → find f (range_with_len a n) ≡ None → a ≤ k → k < a + n → f k ≡ false
none_found f zero a k none low high = absurd (omega arith)
none_found f (suc n) a k none low high =
    elim (cases_Bool (f a)) [
      | inl passes ↦ absurd (none-some a (sym none ∙ cond-true (f a) _ _ passes))
      | inr fails ↦ elim (cases_eq k a) [
        | inl same ↦ ap f same ∙ fails
        | inr apart ↦ none_found f n (a + 1) k (sym (cond-false (f a) _ _ fails) ∙ none) (omega arith) (omega arith)
      ]
    ]

-- a running server has no slot that can be claimed
abbrev HasNone : (window : ℕ) → Option Condition → Type 0
HasNone window c = (s : Server) → c ≡ Some (Running s) → claimable window s ≡ None

passed_on : (window i : ℕ) (c : Option Condition) (slot : Option ℕ) (rest : Answer) → least_claim window c ≡ slot → claim_answer_at i c slot rest ≡ Refused NoneFree → HasNone window c × (rest ≡ Refused NoneFree)
passed_on window i (Some (Running s)) (Some slot) rest is answer = absurd (grind (arith, answer))
passed_on window i (Some (Running s)) None rest is answer = (λ z same. subst (λ x. claimable window x ≡ None) (same_running s z same) is, answer)
  where
    same_running : (s z : Server) → Some (Running s) ≡ Some (Running z) → s ≡ z
    same_running s z same = cc
passed_on window i (Some (Stopped life before after)) slot rest is answer = (λ z same. absurd (grind (arith, same)), answer)
passed_on window i (Some Unformatted) slot rest is answer = (λ z same. absurd (grind (arith, same)), answer)
passed_on window i None slot rest is answer = (λ z same. absurd (grind (arith, same)), answer)

none_at : (window : ℕ) (g : Group) (is : List ℕ) → claim_answer window g is ≡ Refused NoneFree → Every (λ i. HasNone window (slice_get g.servers i)) is
none_at window g [] answer = tt
none_at window g (i ∷ is) answer =
    let both = passed_on window i (slice_get g.servers i) (least_claim window (slice_get g.servers i)) (claim_answer window g is) refl answer in
    (both.0, none_at window g is both.1)

none_claimable : (setup : Setup) (g : Group) (i : ℕ) (s : Server) → i < 3 → RunsAs g i s → answer_to setup g Claim ≡ Refused NoneFree → claimable setup.window s ≡ None
unfolding answer_to
none_claimable setup g zero s low runs answer = (none_at setup.window g (0 ∷ 1 ∷ 2 ∷ []) answer).0 s runs
none_claimable setup g (suc zero) s low runs answer = (none_at setup.window g (0 ∷ 1 ∷ 2 ∷ []) answer).1.0 s runs
none_claimable setup g (suc (suc zero)) s low runs answer = (none_at setup.window g (0 ∷ 1 ∷ 2 ∷ []) answer).1.1.0 s runs
none_claimable setup g (suc (suc (suc i))) s low runs answer = absurd (omega arith)

-- a free committed slot is applied, or can be claimed
applied_or_claimable : (s : Server) (e : Entry) → ((slot : ℕ) → FinMap.get s.in_hand slot ≡ None) → FinMap.get s.durable.log e.slot ≡ Some e → Sets.contains s.committed e.slot ≡ true → IsFree (has_applied s) e → has_applied s e.slot ≡ false → is_claimable s (FinMap.get s.durable.log e.slot) e.slot ≡ true
applied_or_claimable s e idle held committed free unapplied =
    ap (λ o. is_claimable s o e.slot) held
    ∙ and_from _ _ (and_from _ _ (and_from _ _ committed (ap not unapplied)) (ap (λ o. not (is_some o)) (idle e.slot))) (free_passes (has_applied s) e free)

-- the log lies in the window above the checkpoint
abbrev pub IsWithin : (window : ℕ) → Server → Type 0
IsWithin window s = (slot : ℕ) (e : Entry) → FinMap.get s.durable.log slot ≡ Some e → slot ≤ s.durable.base + window

all_applied : (window : ℕ) (s : Server) → claimable window s ≡ None → ((slot : ℕ) → FinMap.get s.in_hand slot ≡ None) → IsWithin window s → (e : Entry) → FinMap.get s.durable.log e.slot ≡ Some e → Sets.contains s.committed e.slot ≡ true → IsFree (has_applied s) e → has_applied s e.slot ≡ true
unfolding claimable
all_applied window s none idle within e held committed free =
    elim (cases_Bool (has_applied s e.slot)) [
      | inl is ↦ is
      | inr isnt ↦
          let above : s.durable.base < e.slot = leb-false e.slot s.durable.base (or_parts (nat_le e.slot s.durable.base) (Sets.contains s.applied e.slot) isnt).0 in
          let low : e.slot ≤ s.durable.base + window = within e.slot e held in
          let fails = none_found (λ k. is_claimable s (FinMap.get s.durable.log k) k) window (suc s.durable.base) e.slot none (omega (arith, above)) (omega (arith, low)) in
          absurd (false≢true (sym fails ∙ applied_or_claimable s e idle held committed free isnt))
    ]

pub closed_at : (setup : Setup) (g : Group) (i : ℕ) (s : Server) → i < 3 → RunsAs g i s → ((slot : ℕ) → FinMap.get s.in_hand slot ≡ None) → IsWithin setup.window s → answer_to setup g Claim ≡ Refused NoneFree → IsClosed s
closed_at setup g i s low runs idle within answer slot = (
  λ is done begins closed. begins slot is,
  λ each. each (has_applied s) (λ p is. is) (all_applied setup.window s (none_claimable setup g i s low runs answer) idle within),
)

-- in every legal history with no open claim
pub legal_closed : (setup : Setup) (history : History) (i : ℕ) (s : Server) → IsLegal setup history → claims_of [] history ≡ [] → answer_to setup (replay setup history) Claim ≡ Refused NoneFree → RunsAs (replay setup history) i s → IsClosed s
legal_closed setup history i s is none answer runs =
    let fits = (legal_fits setup history is).servers i (Running s) runs in
    closed_at setup (replay setup history) i s fits.0 runs (none_in_hand setup history i s is none runs) (λ slot e held. (fits.1.durable.vote.log slot e held).within) answer
