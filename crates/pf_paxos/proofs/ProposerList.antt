-- One list of transactions.
use Rattle.std.proofs.Common.{◌≡◌, ℕ, zero, suc, ◌<◌, ◌≤◌, ◌≢◌, ◌⊎◌, inl, inr, ◌==◌, nat_lt, List, [], ◌∷◌, ◌++◌, length, take, Option, Some, None, slice_get, arith, refl, sym, ap, subst, ◌∙◌, eq-or-lt_of_le}
use Rattle.std.proofs.lemmas.Bool.{cases_lt, cases_eq, cases_order, cond-true, cond-false, eq-eqb, ne_eqb, lt-ltb, le-ltb}
use Rattle.std.proofs.lemmas.Option.{same_Some, none-some, slice_get_within}
use Rattle.pf_paxos.specs.Registers.{Turn}
use Rattle.pf_paxos.specs.Runs.{ProposerCall, Starts, ProposerEvent, Calls, Otherwise, Move, proposers_opening, proposer_move, run_proposers, idle_turn, turn_of_move, proposer_turn}
use Rattle.pf_paxos.specs.Deciding.{Decides}
use Rattle.pf_paxos.specs.Syncs.{FindsNothing}
use Rattle.pf_paxos.specs.Journals.{ProposerDoing, Does, Reads, new_proposer_journal, proposer_stands, proposer_journal_before, proposer_event_at, proposer_events_at, turns_at, AreAllRegisters, IsProposedDecidedAt, IsProposedDecidedBefore, Begins, IsProposedList, ProposersPutInNew}
use Rattle.pf_paxos.proofs.Moments.{turn_at, turn_past}
use Rattle.pf_paxos.proofs.RegisterAgreement.{one_decision}
use Rattle.pf_paxos.proofs.SyncReads.{undecided}
use Rattle.pf_paxos.proofs.PuttingIn.{was_put_in}
use Rattle.pf_paxos.proofs.JournalPositions.{position_event, position_past, list_at, lists_decided}

-- an element below the length
element : {X : Type 0} (xs : List X) (k : ℕ) → k < length xs → (x : X) × (slice_get xs k ≡ Some x)
element [] k less = absurd (omega (arith, less))
element (x ∷ xs) zero less = (x, refl)
element (x ∷ xs) (suc k) less = element xs k (omega (arith, less))

-- a list whose elements stand in another begins it
begins : {X : Type 0} (xs ys : List X) → ((k : ℕ) (x : X) → slice_get xs k ≡ Some x → slice_get ys k ≡ Some x) → Begins xs ys
begins [] ys there = (ys, refl)
begins (x ∷ xs) [] there = absurd (none-some x (there 0 x refl))
begins (x ∷ xs) (y ∷ ys) there =
    let rest = begins xs ys (λ k. there (suc k)) in
    (rest.0, ap (λ z. z ∷ (xs ++ rest.0)) (sym (same_Some y x (there 0 x refl))) ∙ ap (λ zs. y ∷ zs) rest.1)

module _ (ds : List ProposerDoing) where
  -- a turn of a mount in a position is a call of the mount that stands there
  pub record IsThere (n m t : ℕ) : Type 0 where
    pub call : ProposerCall
    pub doing : slice_get ds t ≡ Some (Does m call)
    pub there : proposer_stands (proposer_journal_before ds t) m ≡ n

  module _ (n t : ℕ) where
    -- a call that happens in the position is one of a mount that stands there
    event_there : (d : ProposerDoing) (k : ℕ) (call : ProposerCall) → slice_get ds t ≡ Some d → proposer_event_at n (proposer_journal_before ds t) d ≡ Calls k call → (slice_get ds t ≡ Some (Does k call)) × (proposer_stands (proposer_journal_before ds t) k ≡ n)
    event_there (Does l other) k call at is = by (cases_eq n (proposer_stands (proposer_journal_before ds t) l))
      where
        by : (n ≡ proposer_stands (proposer_journal_before ds t) l) ⊎ (n ≡ proposer_stands (proposer_journal_before ds t) l → ⊥) → (slice_get ds t ≡ Some (Does k call)) × (proposer_stands (proposer_journal_before ds t) k ≡ n)
        by (inl here) =
            let same : Calls l other ≡ Calls k call = sym (cond-true (n == proposer_stands (proposer_journal_before ds t) l) (Calls l other) (Otherwise idle_turn) (eq-eqb n (proposer_stands (proposer_journal_before ds t) l) here)) ∙ is in
            let same_mount : l ≡ k = cc in
            let same_call : other ≡ call = cc in
            (at ∙ ap (λ i. Some (Does i other)) same_mount ∙ ap (λ c. Some (Does k c)) same_call, ap (proposer_stands (proposer_journal_before ds t)) (sym same_mount) ∙ sym here)
        by (inr apart) =
            let none : Otherwise idle_turn ≡ Calls k call = sym (cond-false (n == proposer_stands (proposer_journal_before ds t) l) (Calls l other) (Otherwise idle_turn) (ne_eqb n (proposer_stands (proposer_journal_before ds t) l) apart)) ∙ is in
            absurd (cc)
    event_there (Reads p turn) k call at is = by (cases_eq n p)
      where
        by : (n ≡ p) ⊎ (n ≡ p → ⊥) → (slice_get ds t ≡ Some (Does k call)) × (proposer_stands (proposer_journal_before ds t) k ≡ n)
        by (inl here) =
            let none : Otherwise turn ≡ Calls k call = sym (cond-true (n == p) (Otherwise turn) (Otherwise idle_turn) (eq-eqb n p here)) ∙ is in
            absurd (cc)
        by (inr apart) =
            let none : Otherwise idle_turn ≡ Calls k call = sym (cond-false (n == p) (Otherwise turn) (Otherwise idle_turn) (ne_eqb n p apart)) ∙ is in
            absurd (cc)

    pub call_there : (m : ℕ) (call : ProposerCall) → slice_get (proposer_events_at n ds) t ≡ Some (Calls m call) → (slice_get ds t ≡ Some (Does m call)) × (proposer_stands (proposer_journal_before ds t) m ≡ n)
    call_there m call at = by (slice_get ds t) refl
      where
        by : (o : Option ProposerDoing) → slice_get ds t ≡ o → (slice_get ds t ≡ Some (Does m call)) × (proposer_stands (proposer_journal_before ds t) m ≡ n)
        by None none = absurd (none-some (Calls m call) (sym (position_past n t new_proposer_journal ds none) ∙ at))
        by (Some d) doing = event_there d m call doing (same_Some _ _ (sym (position_event n t new_proposer_journal ds d doing) ∙ at))

    -- only calls give turns of mounts
    of_event : (m : ℕ) (x : Turn) (e : ProposerEvent) → m < 16 → x.client ≡ m → proposer_turn (run_proposers proposers_opening (take t (proposer_events_at n ds))) e ≡ x → (call : ProposerCall) × (e ≡ Calls m call)
    of_event m x (Calls k call) low its is = of_move (proposer_move (run_proposers proposers_opening (take t (proposer_events_at n ds))) (Calls k call)) refl
      where
        of_move : (o : Option Move) → proposer_move (run_proposers proposers_opening (take t (proposer_events_at n ds))) (Calls k call) ≡ o → (call2 : ProposerCall) × (Calls k call ≡ Calls m call2)
        of_move None none = absurd (omega (arith, low, its, ap (λ (y : Turn). y.client) is, ap (λ o. (turn_of_move k o).client) none))
        of_move (Some move) made =
            let same : k ≡ m = sym (ap (λ o. (turn_of_move k o).client) made) ∙ ap (λ (y : Turn). y.client) is ∙ its in
            (call, ap (λ i. Calls i call) same)
    of_event m x (Otherwise turn) low its is = by (cases_lt turn.client 16)
      where
        by : (turn.client < 16) ⊎ (16 ≤ turn.client) → (call : ProposerCall) × (Otherwise turn ≡ Calls m call)
        by (inl less) = absurd (omega (arith, low, its, ap (λ (y : Turn). y.client) (sym is ∙ cond-true (nat_lt turn.client 16) idle_turn turn (lt-ltb turn.client 16 less))))
        by (inr high) = absurd (omega (arith, low, high, its, ap (λ (y : Turn). y.client) (sym is ∙ cond-false (nat_lt turn.client 16) idle_turn turn (le-ltb turn.client 16 high))))

    stands_there : (m : ℕ) (x : Turn) → m < 16 → slice_get (turns_at n ds) t ≡ Some x → x.client ≡ m → IsThere n m t
    stands_there m x low at its = by (slice_get ds t) refl
      where
        by : (o : Option ProposerDoing) → slice_get ds t ≡ o → IsThere n m t
        by None none = absurd (none-some x (sym (turn_past proposers_opening t (proposer_events_at n ds) (position_past n t new_proposer_journal ds none)) ∙ at))
        by (Some d) doing =
            let event = position_event n t new_proposer_journal ds d doing in
            let c = of_event m x (proposer_event_at n (proposer_journal_before ds t) d) low its (same_Some _ _ (sym (turn_at proposers_opening t (proposer_events_at n ds) (proposer_event_at n (proposer_journal_before ds t) d) event) ∙ at)) in
            let f = event_there d m c.0 doing c.1 in
            record { call = c.0; doing = f.0; there = f.1 }

  -- each value of a list
  pub list_decided : (m t k : ℕ) (v : List ℕ) → slice_get (list_at ds m t) k ≡ Some v → IsProposedDecidedBefore ds k t v
  list_decided m t k v at = let d = lists_decided ds m t k v at in record { last = d.0; earlier = d.1; decided = d.2 }

  decided_at : (m t k : ℕ) (v : List ℕ) → slice_get (list_at ds m t) k ≡ Some v → IsProposedDecidedAt ds k v
  decided_at m t k v at = let d = lists_decided ds m t k v at in record { ballot = d.2.ballot; decides = d.2.decides }

  -- a position below one that is decided
  pub decided_below : (n k b : ℕ) (v : List ℕ) → (d : Decides (turns_at n ds) b v) → k < n → (w : List ℕ) × IsProposedDecidedBefore ds k d.asked w
  decided_below n k b v d less =
      let s = stands_there n d.asked d.mount d.wrote.turn d.is_mount d.wrote.at d.wrote.its in
      let x = element (list_at ds d.mount d.asked) k (omega (arith, s.there, less)) in
      (x.0, list_decided d.mount d.asked k x.0 x.1)

  module _ (registers : AreAllRegisters ds) where
    one_value : (n : ℕ) (v w : List ℕ) → IsProposedDecidedAt ds n v → IsProposedDecidedAt ds n w → v ≡ w
    one_value n v w x y = one_decision (proposer_events_at n ds) (registers n) x.ballot y.ballot v w x.decides y.decides

    -- of two lists the shorter one begins the other
    pub begins_other : (m l t u : ℕ) → length (list_at ds m t) ≤ length (list_at ds l u) → Begins (list_at ds m t) (list_at ds l u)
    begins_other m l t u le = begins (list_at ds m t) (list_at ds l u) there
      where
        there : (k : ℕ) (v : List ℕ) → slice_get (list_at ds m t) k ≡ Some v → slice_get (list_at ds l u) k ≡ Some v
        there k v at =
            let x = element (list_at ds l u) k (omega (arith, slice_get_within (list_at ds m t) k v at, le)) in
            x.1 ∙ ap (λ (w : List ℕ). Some w) (one_value k x.0 v (decided_at l u k x.0 x.1) (decided_at m t k v at))

    pub begins_list : (list : List (List ℕ)) → IsProposedList ds list → (m t : ℕ) → Begins (list_at ds m t) list
    begins_list list is m t = begins (list_at ds m t) list there
      where
        there : (k : ℕ) (v : List ℕ) → slice_get (list_at ds m t) k ≡ Some v → slice_get list k ≡ Some v
        there k v at =
            elim (cases_lt k (length list)) [
              | inl inside ↦
                  let x = element list k inside in
                  x.1 ∙ ap (λ (w : List ℕ). Some w) (one_value k x.0 v (is.decided k x.0 x.1) (decided_at m t k v at))
              | inr past ↦
                  let last = element (list_at ds m t) (length list) (omega (arith, past, slice_get_within (list_at ds m t) k v at)) in
                  absurd (is.ends last.0 (decided_at m t (length list) last.0 last.1))
            ]

    pub missed_nothing : (n from k b : ℕ) (v : List ℕ) → FindsNothing (turns_at n ds) from → n ≤ k → (d : Decides (turns_at k ds) b v) → from < d.answered
    missed_nothing n from k b v s le d =
        elim (eq-or-lt_of_le le) [
          | inl same ↦ undecided (proposer_events_at k ds) (registers k) from b v (subst (λ i. FindsNothing (turns_at i ds) from) same s) d
          | inr less ↦
              let below = decided_below k n b v d less in
              let e = below.1.decided.decides in
              let first = undecided (proposer_events_at n ds) (registers n) from below.1.decided.ballot below.0 s e in
              omega (arith, first, e.low.after, e.low.read.later, below.1.decided.low_by, below.1.earlier, d.wrote.later)
        ]

    pub stood_below : (n from m : ℕ) → FindsNothing (turns_at n ds) from → proposer_stands (proposer_journal_before ds from) m ≤ n
    stood_below n from m s =
        elim (cases_lt n (proposer_stands (proposer_journal_before ds from) m)) [
          | inl above ↦
              let x = element (list_at ds m from) n above in
              let b = list_decided m from n x.0 x.1 in
              let first = missed_nothing n from n b.decided.ballot x.0 s (omega arith) b.decided.decides in
              absurd (omega (arith, first, b.decided.decides.low.after, b.decided.decides.low.read.later, b.decided.low_by, b.earlier))
          | inr not_above ↦ not_above
        ]

    module _ (new : ProposersPutInNew ds) where
      not_again : (k n : ℕ) (v : List ℕ) → v ≢ [] → IsProposedDecidedAt ds k v → IsProposedDecidedAt ds n v → k < n → ⊥
      not_again k n v some x y less =
          let put = was_put_in (proposer_events_at n ds) (registers n) y.ballot v y.decides some in
          let f = call_there n put.moment put.mount (Starts put.above (Some v)) put.at in
          let w = element (list_at ds put.mount put.moment) k (omega (arith, f.1, less)) in
          let same : w.0 ≡ v = one_value k w.0 v (decided_at put.mount put.moment k w.0 w.1) x in
          new put.moment put.mount put.above k v f.0 (w.1 ∙ ap (λ (z : List ℕ). Some z) same)

      pub decided_once : (k n : ℕ) (v : List ℕ) → v ≢ [] → IsProposedDecidedAt ds k v → IsProposedDecidedAt ds n v → k ≡ n
      decided_once k n v some x y =
          elim (cases_order k n) [
            | inl same ↦ same
            | inr apart ↦ elim apart [
              | inl less ↦ absurd (not_again k n v some x y less)
              | inr more ↦ absurd (not_again n k v some y x more)
            ]
          ]
