-- One list of transactions.
use Rattle.std.proofs.Common.{◌≡◌, ℕ, zero, suc, ◌*◌, ◌<◌, ◌≤◌, ◌≢◌, inl, inr, List, [], ◌∷◌, ◌++◌, length, Some, slice_get, arith, refl, sym, ap, ◌∙◌}
use Rattle.std.proofs.lemmas.Bool.{cases_order}
use Rattle.std.proofs.lemmas.Option.{same_Some, none-some, slice_get_within}
use Rattle.pf_paxos.specs.Deciding.{Decides}
use Rattle.pf_paxos.specs.Journals.{Begins}
use Rattle.pf_paxos.specs.Quorums.{turns_on, DecidesOver}
use Rattle.pf_paxos.proofs.BallotAgreement.{one_decision}
use Rattle.pf_paxos.proofs.BallotInputs.{was_put_in}
use Rattle.pf_law_lists.specs.Journals.{position_of, AreAllRegistersAt, IsTransactionList, PutsInNew}
use Rattle.pf_law_lists.proofs.JournalPositions.{list_at, lists_decided, Case, before, events, past, Decided, DecidedBefore}
use Rattle.pf_law_lists.proofs.ListGrowth.{end_longer}
use Rattle.pf_law_lists.proofs.FirstTurns.{starts_there, turn_there}

-- an element below the length
pub element : {X : Type 0} (xs : List X) (k : ℕ) → k < length xs → (x : X) × (slice_get xs k ≡ Some x)
element [] k less = absurd (omega (arith, less))
element (x ∷ xs) zero less = (x, refl)
element (x ∷ xs) (suc k) less = element xs k (omega (arith, less))

-- a list whose elements stand in another begins it
begins : {X : Type 0} (xs ys : List X) → ((k : ℕ) (x : X) → slice_get xs k ≡ Some x → slice_get ys k ≡ Some x) → Begins xs ys
begins [] ys there = (ys, refl)
begins (x ∷ xs) [] there = absurd (none-some x (there 0 x refl))
begins (x ∷ xs) (y ∷ ys) there =
    let rest = begins xs ys (λ k. there (suc k)) in
    (rest.0, ap (λ z. z ∷ (xs ++ rest.0)) (sym (same_Some y x (there 0 x refl))) ∙ ap (λ zs. y ∷ zs) rest.1)

module _ (ds : Case) where
  -- each value of a list
  pub list_decided : (m t k : ℕ) (v : List ℕ) → slice_get (list_at ds m t) k ≡ Some v → DecidedBefore ds k t v
  list_decided m t k v at = let d = lists_decided ds m t k v at in record { last = d.0; earlier = d.1; decided = d.2 }

  decided_at : (m t k : ℕ) (v : List ℕ) → slice_get (list_at ds m t) k ≡ Some v → Decided ds k v
  decided_at m t k v at = let d = lists_decided ds m t k v at in record { ballot = d.2.ballot; decides = d.2.decides }

  -- the mount of a ballot that decides stood at the position when it asked its write, or had left it
  pub stood_there : (n a b : ℕ) (v : List ℕ) → (d : Decides (turns_on a (past ds n)) b v) → n ≤ position_of (before ds d.asked) d.mount
  stood_there n a b v d = turn_there ds n d.mount d.asked a d.wrote.turn d.is_mount d.wrote.at d.wrote.its

  -- a position below one that is decided
  decided_below : (n k a b : ℕ) (v : List ℕ) → (d : Decides (turns_on a (past ds n)) b v) → k < n → (w : List ℕ) × DecidedBefore ds k d.asked w
  decided_below n k a b v d less =
      let x = element (list_at ds d.mount d.asked) k (omega (arith, stood_there n a b v d, less)) in
      (x.0, list_decided d.mount d.asked k x.0 x.1)

  pub below_each : (n k b : ℕ) (v : List ℕ) → (d : DecidesOver ds.anchors ds.quorum (past ds n) b v) → k < n → (place a : ℕ) (at : slice_get d.used place ≡ Some a) → (w : List ℕ) × DecidedBefore ds k (d.each place a at).asked w
  below_each n k b v d less place a at = decided_below n k a b v (d.each place a at) less

  module _ (meets : ds.anchors < 2 * ds.quorum) (registers : AreAllRegistersAt ds.anchors ds.quorum ds.doings) where
    one_value : (n : ℕ) (v w : List ℕ) → Decided ds n v → Decided ds n w → v ≡ w
    one_value n v w x y = one_decision ds.anchors ds.quorum meets (events ds n) (registers n) x.ballot y.ballot v w x.decides y.decides

    -- a list of decided values that is not shorter goes on from a mount's
    begins_decided : (list : List (List ℕ)) → ((k : ℕ) (v : List ℕ) → slice_get list k ≡ Some v → Decided ds k v) → (m t : ℕ) → length (list_at ds m t) ≤ length list → Begins (list_at ds m t) list
    begins_decided list are m t le = begins (list_at ds m t) list there
      where
        there : (k : ℕ) (v : List ℕ) → slice_get (list_at ds m t) k ≡ Some v → slice_get list k ≡ Some v
        there k v at =
            let x = element list k (omega (arith, slice_get_within (list_at ds m t) k v at, le)) in
            x.1 ∙ ap (λ (w : List ℕ). Some w) (one_value k x.0 v (are k x.0 x.1) (decided_at m t k v at))

    -- of two lists the shorter one begins the other
    pub begins_other : (m l t u : ℕ) → length (list_at ds m t) ≤ length (list_at ds l u) → Begins (list_at ds m t) (list_at ds l u)
    begins_other m l t u le = begins_decided (list_at ds l u) (decided_at l u) m t le

    pub begins_list : (list : List (List ℕ)) → IsTransactionList ds.anchors ds.quorum ds.doings list → (m t : ℕ) → Begins (list_at ds m t) list
    begins_list list is m t = begins_decided list is.decided m t (omega (arith, end_longer ds m t, is.longest m))

    module _ (new : PutsInNew ds.anchors ds.quorum ds.doings) where
      not_again : (k n : ℕ) (v : List ℕ) → v ≢ [] → Decided ds k v → Decided ds n v → k < n → ⊥
      not_again k n v some x y less =
          let put = was_put_in ds.anchors ds.quorum (omega (arith, meets)) (events ds n) (registers n) y.ballot v y.decides some in
          let s = starts_there ds n put.moment put.mount put.above (Some v) put.at in
          let w = element (list_at ds put.mount put.moment) k (omega (arith, s.1, less)) in
          let same : w.0 ≡ v = one_value k w.0 v (decided_at put.mount put.moment k w.0 w.1) x in
          new put.moment put.mount put.above k v s.0 (w.1 ∙ ap (λ (z : List ℕ). Some z) same)

      pub decided_once : (k n : ℕ) (v : List ℕ) → v ≢ [] → Decided ds k v → Decided ds n v → k ≡ n
      decided_once k n v some x y =
          elim (cases_order k n) [
            | inl same ↦ same
            | inr apart ↦ elim apart [
              | inl less ↦ absurd (not_again k n v some x y less)
              | inr more ↦ absurd (not_again n k v some y x more)
            ]
          ]
