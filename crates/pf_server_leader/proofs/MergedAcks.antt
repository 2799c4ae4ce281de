-- Who acknowledged what is merged.
use Rattle.std.proofs.Common.{◌≡◌, ◌≢◌, ◌⊎◌, inl, inr, ℕ, zero, suc, ◌+◌, ◌-◌, ◌<◌, ◌≤◌, Bool, true, false, not, cond, ◌==◌, List, [], ◌∷◌, nat_le, arith, refl, sym, ap, subst, ◌∙◌, lit<}
use Rattle.std.specs.List.{filter, list_any, list_all, range_with_len}
use Rattle.std.specs.FinMap
use Rattle.std.proofs.lemmas.Bool.{leb-true, leb-false, cases_eq, false≢true, or_cases, or_left, or_right, and_from, and_parts, ne_eqb, eq-eqb, cond-true, cond-false}
use Rattle.pf_entry.specs.Sets
use Rattle.pf_entry.specs.Lists.{Every}
use Rattle.pf_entry.proofs.Cases.{by_test}
use Rattle.pf_protocol.proofs.ForRows.{acknowledged_more}
use Rattle.pf_protocol.specs.Servers.{Serving, Merging}
use Rattle.pf_protocol.specs.Outcomes.{other_servers}
use Rattle.pf_protocol.specs.Leading.{members, counted, is_own, other_acked, acknowledged}
use Rattle.pf_server_memory.specs.declared.running.Leader.{Leader as LeaderHere}
use Rattle.pf_server_memory.specs.declared.running.Role.{Role as RoleHere}
use Rattle.pf_server_memory.specs.declared.running.Role.TheVariants.{Merging as MergingHere, Serving as ServingHere}
use Rattle.pf_server_memory.specs.Standing.{leader_in_memory, role_in_memory, IsLeaderKept, IsRoleKept}
use Rattle.pf_server_leader.specs.Acking.{AckIsCounted, IsSettled, after_ack, served}

-- another server
found : (f : ℕ → Bool) (me : ℕ) (xs : List ℕ) → Every (λ j. j < 3) xs → list_any f (filter (λ i. not (i == me)) xs) ≡ true → (i : ℕ) × (i ≢ me) × (i < 3) × (f i ≡ true)
found f me [] below is = absurd (false≢true is)
found f me (x ∷ xs) below is =
    by_test (not (x == me)) (λ c. not (x == me) ≡ c → list_any f (cond c (x ∷ filter (λ i. not (i == me)) xs) (filter (λ i. not (i == me)) xs)) ≡ true → (i : ℕ) × (i ≢ me) × (i < 3) × (f i ≡ true))
    (λ _ other any. elim (or_cases (f x) _ any) [
      | inl here ↦ (x, (λ same. false≢true (sym (ap not (eq-eqb x me same)) ∙ other)), below.0, here)
      | inr later ↦ found f me xs below.1 later
    ])
    (λ _ _ any. found f me xs below.1 any) refl is

module _ (f : ℕ → Bool) (me : ℕ) where
  any_here : (x : ℕ) (xs : List ℕ) → x ≢ me → f x ≡ true → list_any f (filter (λ i. not (i == me)) (x ∷ xs)) ≡ true
  any_here x xs apart is = ap (λ c. list_any f (cond c (x ∷ filter (λ i. not (i == me)) xs) (filter (λ i. not (i == me)) xs))) (ap not (ne_eqb x me apart)) ∙ or_left _ _ is

  any_later : (x : ℕ) (xs : List ℕ) → list_any f (filter (λ i. not (i == me)) xs) ≡ true → list_any f (filter (λ i. not (i == me)) (x ∷ xs)) ≡ true
  any_later x xs is = by_test (not (x == me)) (λ c. list_any f (cond c (x ∷ filter (λ i. not (i == me)) xs) (filter (λ i. not (i == me)) xs)) ≡ true) (λ _. or_right _ _ is) (λ _. is)

  any_other : (i : ℕ) → i < 3 → i ≢ me → f i ≡ true → list_any f (other_servers me) ≡ true
  any_other zero below apart is = any_here 0 (1 ∷ 2 ∷ []) apart is
  any_other (suc zero) below apart is = any_later 0 (1 ∷ 2 ∷ []) (any_here 1 (2 ∷ []) apart is)
  any_other (suc (suc zero)) below apart is = any_later 0 (1 ∷ 2 ∷ []) (any_later 1 (2 ∷ []) (any_here 2 [] apart is))
  any_other (suc (suc (suc n))) below apart is = absurd (omega (arith, below))

-- all of a range
all_of : (f : ℕ → Bool) (n a : ℕ) → ((slot : ℕ) → a ≤ slot → slot < a + n → f slot ≡ true) → list_all f (range_with_len a n) ≡ true
all_of f zero a each = refl
all_of f (suc n) a each = and_from _ _ (each a (omega arith) (omega arith)) (all_of f n (a + 1) (λ slot low high. each slot (omega (arith, low)) (omega (arith, high))))

in_all : (f : ℕ → Bool) (n a slot : ℕ) → list_all f (range_with_len a n) ≡ true → a ≤ slot → slot < a + n → f slot ≡ true
in_all f zero a slot all low high = absurd (omega (arith, low, high))
in_all f (suc n) a slot all low high =
    let p = and_parts (f a) (list_all f (range_with_len (a + 1) n)) all in
    elim (cases_eq slot a) [
      | inl same ↦ ap f same ∙ p.0
      | inr apart ↦ in_all f n (a + 1) slot p.1 (omega (arith, low, apart)) (omega (arith, high))
    ]

not_all : (f : ℕ → Bool) (n a slot : ℕ) → a ≤ slot → slot < a + n → f slot ≡ false → list_all f (range_with_len a n) ≡ false
not_all f n a slot low high is =
    by_test (list_all f (range_with_len a n)) (λ c. list_all f (range_with_len a n) ≡ c → c ≡ false) (λ _ all. absurd (false≢true (sym is ∙ in_all f n a slot all low high))) (λ _ _. refl) refl

-- a leader that has looked further
module _ (me : ℕ) (l : LeaderHere) (kept : IsLeaderKept me l) (upto : ℕ) (settled : IsSettled me l upto) where
  abbrev pub further : LeaderHere
  further = record l { settled = upto }

  heard_upto : (slot : ℕ) → l.acks.base < slot → slot ≤ upto → other_acked (leader_in_memory l) me slot ≡ true
  heard_upto slot low high = by_place (nat_le slot l.settled) refl
    where
      by_place : (c : Bool) → nat_le slot l.settled ≡ c → other_acked (leader_in_memory l) me slot ≡ true
      by_place true is =
          let was = kept.heard slot low (leb-true _ _ is) in
          any_other (λ i. Sets.contains (members (FinMap.get l.acks.acks slot)) i) me was.0 was.2 was.1 was.3
      by_place false is = settled.heard slot (leb-false _ _ is) high

  pub further_kept : IsLeaderKept me further
  further_kept = record {
    counted = kept.counted;
    low = omega (arith, kept.low, settled.low);
    high = settled.high;
    heard = λ slot low high. found (λ i. Sets.contains (members (FinMap.get l.acks.acks slot)) i) me (0 ∷ 1 ∷ 2 ∷ []) (lit< tt, (lit< tt, (lit< tt, tt))) (heard_upto slot low high);
  }

  pub serves_now : upto + 1 ≡ l.first → Serving (leader_in_memory l) ≡ served me (leader_in_memory l)
  serves_now last = sym (cond-true _ _ _ (all_of (other_acked (leader_in_memory l) me) (l.first - suc l.acks.base) (suc l.acks.base) (λ slot low high. heard_upto slot low (omega (arith, high, low, last)))))

  next_unheard : (upto + 1 ≡ l.first → ⊥) → (upto + 1 ≡ l.first) ⊎ (other_acked (leader_in_memory l) me (upto + 1) ≡ false) → other_acked (leader_in_memory l) me (upto + 1) ≡ false
  next_unheard more (inl last) = absurd (more last)
  next_unheard more (inr none) = none

  pub merges_still : (upto + 1 ≡ l.first → ⊥) → Merging (leader_in_memory l) ≡ served me (leader_in_memory l)
  merges_still more =
      let low : suc l.acks.base ≤ upto + 1 = omega (arith, kept.low, settled.low) in
      let high : upto + 1 < suc l.acks.base + (l.first - suc l.acks.base) = omega (arith, settled.high, more, kept.low, settled.low) in
      sym (cond-false _ _ _ (not_all (other_acked (leader_in_memory l) me) (l.first - suc l.acks.base) (suc l.acks.base) (upto + 1) low high (next_unheard more settled.ended)))

-- a leader that has counted
pub counted_leader : (from slot upto : ℕ) (l k : LeaderHere) → AckIsCounted from slot upto l k → leader_in_memory k ≡ counted (leader_in_memory l) from slot upto
unfolding counted
counted_leader from slot upto l k x = λ i. record {
  first = (ap (λ (y : LeaderHere). y.first) x.is) i;
  next = (ap (λ (y : LeaderHere). y.next) x.is) i;
  b0 = x.base i;
  acks = x.acks i;
  known = x.known i;
}

pub counted_kept : (me from slot upto : ℕ) (l k : LeaderHere) → IsLeaderKept me l → AckIsCounted from slot upto l k → IsLeaderKept me k
counted_kept me from slot upto l k kept x =
    let settled : k.settled ≡ l.settled = ap (λ (y : LeaderHere). y.settled) x.is in
    let first : k.first ≡ l.first = ap (λ (y : LeaderHere). y.first) x.is in
    let next : k.next ≡ l.next = ap (λ (y : LeaderHere). y.next) x.is in
    record {
      counted = omega (arith, kept.counted, x.base, x.count, next);
      low = omega (arith, kept.low, x.base, settled);
      high = omega (arith, kept.high, settled, first);
      heard = λ q low high.
          let was = kept.heard q (omega (arith, low, x.base)) (omega (arith, high, settled)) in (
            was.0,
            was.1,
            was.2,
            ap (λ m. Sets.contains (members (FinMap.get m q)) was.0) x.acks
                ∙ by_test (is_own (leader_in_memory l) slot) (λ c. Sets.contains (members (FinMap.get (cond c (acknowledged l.acks.acks from slot) l.acks.acks) q)) was.0 ≡ true) (λ _. acknowledged_more l.acks.acks from slot was.0 q was.3) (λ _. was.3),
          );
    }

-- the role
serving_kept : (me : ℕ) (role : RoleHere) (l : LeaderHere) → role ≡ ServingHere l → IsRoleKept me role → IsLeaderKept me l
serving_kept me role l is kept = subst (IsRoleKept me) is kept

merging_kept : (me : ℕ) (role : RoleHere) (l : LeaderHere) → role ≡ MergingHere l → IsRoleKept me role → IsLeaderKept me l
merging_kept me role l is kept = subst (IsRoleKept me) is kept

module _ (me from slot upto : ℕ) (role : RoleHere) (l k : LeaderHere) (kept : IsRoleKept me role) (x : AckIsCounted from slot upto l k) where
  pub counted_serving : role ≡ ServingHere l → (Serving (leader_in_memory k) ≡ after_ack me from slot upto (role_in_memory role)) × IsLeaderKept me k
  counted_serving is =
      (ap Serving (counted_leader from slot upto l k x) ∙ sym (ap (λ r. after_ack me from slot upto (role_in_memory r)) is), counted_kept me from slot upto l k (serving_kept me role l is kept) x)

  pub counted_merging : role ≡ MergingHere l → (served me (leader_in_memory k) ≡ after_ack me from slot upto (role_in_memory role)) × IsLeaderKept me k
  counted_merging is =
      (ap (served me) (counted_leader from slot upto l k x) ∙ sym (ap (λ r. after_ack me from slot upto (role_in_memory r)) is), counted_kept me from slot upto l k (merging_kept me role l is kept) x)
