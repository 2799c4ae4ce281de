-- Journals: each position by itself, and what a mount's list tells.
use Rattle.std.proofs.Common.{◌≡◌, ℕ, zero, suc, ◌<◌, ◌⊎◌, inl, inr, ◌==◌, cond, List, [], ◌∷◌, ◌++◌, length, take, Option, Some, None, slice_get, arith, refl, sym, ap, subst, ◌∙◌}
use Rattle.std.proofs.lemmas.Bool.{cases_eq, cond-true, cond-false, eq-eqb, ne_eqb}
use Rattle.std.proofs.lemmas.Option.{same_Some, none-some}
use Rattle.pf_paxos.specs.declared.proposer.Next.{Next}
use Rattle.pf_paxos.specs.declared.proposer.Next.TheVariants.{Write, Read, Abort, Decided}
use Rattle.pf_paxos.specs.Runs.{ProposerCall, ProposerEvent, Calls, Otherwise, Move, proposer_move, proposer_put, proposers_after, run_proposers, idle_turn}
use Rattle.pf_paxos.specs.Deciding.{IsDecided}
use Rattle.pf_paxos.specs.Journals.{ProposerDoing, Does, Reads, ProposerJournal, new_proposer_journal, proposer_stands, proposer_told, proposer_told_by, move_at, proposer_goes_on, proposer_journal_from, proposer_journal_before, proposer_event_at, proposer_events_from, proposer_events_at, turns_at}
use Rattle.pf_paxos.proofs.SyncReads.{told as told_decided}

-- the proposers of a position go on by what happens there
position_goes : (n : ℕ) (j : ProposerJournal) (d : ProposerDoing) → proposers_after (j.proposers n) (proposer_event_at n j d) ≡ (proposer_goes_on j d).proposers n
position_goes n j (Does m call) = by (cases_eq n (proposer_stands j m))
  where
    by : (n ≡ proposer_stands j m) ⊎ (n ≡ proposer_stands j m → ⊥) → proposers_after (j.proposers n) (cond (n == proposer_stands j m) (Calls m call) (Otherwise idle_turn)) ≡ cond (n == proposer_stands j m) (proposer_put (j.proposers n) m (move_at j m call)) (j.proposers n)
    by (inl here) =
        ap (proposers_after (j.proposers n)) (cond-true (n == proposer_stands j m) (Calls m call) (Otherwise idle_turn) (eq-eqb n (proposer_stands j m) here))
        ∙ ap (λ k. proposer_put (j.proposers n) m (proposer_move (j.proposers k) (Calls m call))) here
        ∙ sym (cond-true (n == proposer_stands j m) (proposer_put (j.proposers n) m (move_at j m call)) (j.proposers n) (eq-eqb n (proposer_stands j m) here))
    by (inr apart) =
        ap (proposers_after (j.proposers n)) (cond-false (n == proposer_stands j m) (Calls m call) (Otherwise idle_turn) (ne_eqb n (proposer_stands j m) apart))
        ∙ sym (cond-false (n == proposer_stands j m) (proposer_put (j.proposers n) m (move_at j m call)) (j.proposers n) (ne_eqb n (proposer_stands j m) apart))
position_goes n j (Reads p turn) = by (cases_eq n p)
  where
    by : (n ≡ p) ⊎ (n ≡ p → ⊥) → proposers_after (j.proposers n) (cond (n == p) (Otherwise turn) (Otherwise idle_turn)) ≡ j.proposers n
    by (inl here) = ap (proposers_after (j.proposers n)) (cond-true (n == p) (Otherwise turn) (Otherwise idle_turn) (eq-eqb n p here))
    by (inr apart) = ap (proposers_after (j.proposers n)) (cond-false (n == p) (Otherwise turn) (Otherwise idle_turn) (ne_eqb n p apart))

-- so its proposers are those of its own events
pub position_run : (n t : ℕ) (j : ProposerJournal) (ds : List ProposerDoing) → run_proposers (j.proposers n) (take t (proposer_events_from n j ds)) ≡ (proposer_journal_from j (take t ds)).proposers n
position_run n zero j [] = refl
position_run n (suc t) j [] = refl
position_run n zero j (d ∷ ds) = refl
position_run n (suc t) j (d ∷ ds) = ap (λ ps. run_proposers ps (take t (proposer_events_from n (proposer_goes_on j d) ds))) (position_goes n j d) ∙ position_run n t (proposer_goes_on j d) ds

pub position_event : (n t : ℕ) (j : ProposerJournal) (ds : List ProposerDoing) (d : ProposerDoing) → slice_get ds t ≡ Some d → slice_get (proposer_events_from n j ds) t ≡ Some (proposer_event_at n (proposer_journal_from j (take t ds)) d)
position_event n t j [] d is = absurd (none-some d is)
position_event n zero j (x ∷ xs) d is = ap (λ y. Some (proposer_event_at n j y)) (same_Some x d is)
position_event n (suc t) j (x ∷ xs) d is = position_event n t (proposer_goes_on j x) xs d is

pub position_past : (n t : ℕ) (j : ProposerJournal) (ds : List ProposerDoing) → slice_get ds t ≡ None → slice_get (proposer_events_from n j ds) t ≡ None
position_past n t j [] is = refl
position_past n zero j (x ∷ xs) is = absurd (none-some x (sym is))
position_past n (suc t) j (x ∷ xs) is = position_past n t (proposer_goes_on j x) xs is

pub journal_next : (t : ℕ) (j : ProposerJournal) (ds : List ProposerDoing) (d : ProposerDoing) → slice_get ds t ≡ Some d → proposer_journal_from j (take (suc t) ds) ≡ proposer_goes_on (proposer_journal_from j (take t ds)) d
journal_next t j [] d is = absurd (none-some d is)
journal_next zero j (x ∷ xs) d is = ap (proposer_goes_on j) (same_Some x d is)
journal_next (suc t) j (x ∷ xs) d is = journal_next t (proposer_goes_on j x) xs d is

pub journal_past : (t : ℕ) (j : ProposerJournal) (ds : List ProposerDoing) → slice_get ds t ≡ None → proposer_journal_from j (take (suc t) ds) ≡ proposer_journal_from j (take t ds)
journal_past zero j [] is = refl
journal_past (suc t) j [] is = refl
journal_past zero j (x ∷ xs) is = absurd (none-some x (sym is))
journal_past (suc t) j (x ∷ xs) is = journal_past t (proposer_goes_on j x) xs is

-- an element of a list with one more
get_more : {X : Type 0} (xs : List X) (x : X) (k : ℕ) (y : X) → slice_get (xs ++ x ∷ []) k ≡ Some y → (slice_get xs k ≡ Some y) ⊎ ((k ≡ length xs) × (y ≡ x))
get_more [] x zero y is = inr (refl, sym (same_Some x y is))
get_more [] x (suc k) y is = absurd (none-some y is)
get_more (z ∷ zs) x zero y is = inl is
get_more (z ∷ zs) x (suc k) y is = elim (get_more zs x k y is) [ inl there ↦ inl there | inr last ↦ inr (ap suc last.0, last.1) ]

module _ (ds : List ProposerDoing) where
  abbrev pub list_at : (mount moment : ℕ) → List (List ℕ)
  list_at m t = (proposer_journal_before ds t).list m

  -- each value of a list is decided in its position, before a moment
  abbrev pub AreDecided : List (List ℕ) → (moment : ℕ) → Type 0
  AreDecided list t = (k : ℕ) (v : List ℕ) → slice_get list k ≡ Some v → (moment : ℕ) × (moment < t) × IsDecided (turns_at k ds) moment v

  longer : (list : List (List ℕ)) (t : ℕ) → AreDecided list t → AreDecided list (suc t)
  longer list t are k v at = let d = are k v at in (d.0, omega (arith, d.1), d.2)

  -- a call of the mount: where it tells a value, that is decided in the position where the mount stands
  module _ (m t : ℕ) (call : ProposerCall) (at : slice_get ds t ≡ Some (Does m call)) (are : AreDecided (list_at m t) t) where
    here : ℕ
    here = proposer_stands (proposer_journal_before ds t) m

    event_here : slice_get (proposer_events_at (proposer_stands (proposer_journal_before ds t) m) ds) t ≡ Some (Calls m call)
    event_here =
        position_event (proposer_stands (proposer_journal_before ds t) m) t new_proposer_journal ds (Does m call) at
        ∙ ap (λ (e : ProposerEvent). Some e) (cond-true (proposer_stands (proposer_journal_before ds t) m == proposer_stands (proposer_journal_before ds t) m) (Calls m call) (Otherwise idle_turn) (eq-eqb (proposer_stands (proposer_journal_before ds t) m) (proposer_stands (proposer_journal_before ds t) m) refl))

    by_move : (o : Option Move) → move_at (proposer_journal_before ds t) m call ≡ o → AreDecided (proposer_told_by (list_at m t) o) (suc t)
    by_move None is = longer (list_at m t) t are
    by_move (Some move) is = by_next move.outcome.next refl
      where
        by_next : (next : Next) → move.outcome.next ≡ next → AreDecided (proposer_told (list_at m t) next) (suc t)
        by_next (Write b) tells = longer (list_at m t) t are
        by_next (Read half) tells = longer (list_at m t) t are
        by_next (Abort mbal) tells = longer (list_at m t) t are
        by_next (Decided w) tells = λ k v there.
            elim (get_more (list_at m t) w k v there) [
              | inl old ↦ longer (list_at m t) t are k v old
              | inr new ↦
                  let run_is = position_run (proposer_stands (proposer_journal_before ds t) m) t new_proposer_journal ds in
                  let d : IsDecided (turns_at (proposer_stands (proposer_journal_before ds t) m) ds) t w = told_decided (proposer_events_at (proposer_stands (proposer_journal_before ds t) m) ds) t m call move w event_here (ap (λ ps. proposer_move ps (Calls m call)) run_is ∙ is) tells in
                  (t, omega arith, subst (λ n. IsDecided (turns_at n ds) t v) (sym new.0) (subst (IsDecided (turns_at (proposer_stands (proposer_journal_before ds t) m) ds) t) (sym new.1) d))
            ]

  list_next : (m t : ℕ) (d : ProposerDoing) → slice_get ds t ≡ Some d → AreDecided (list_at m t) t → AreDecided ((proposer_goes_on (proposer_journal_before ds t) d).list m) (suc t)
  list_next m t (Reads p turn) at are = longer (list_at m t) t are
  list_next m t (Does k call) at are =
      elim (cases_eq m k) [
        | inl same ↦
            subst (λ l. AreDecided l (suc t)) (sym (cond-true (m == k) (proposer_told_by (list_at m t) (move_at (proposer_journal_before ds t) k call)) (list_at m t) (eq-eqb m k same)))
            (subst (λ i. AreDecided (proposer_told_by (list_at m t) (move_at (proposer_journal_before ds t) i call)) (suc t)) same
            (by_move m t call (at ∙ ap (λ i. Some (Does i call)) (sym same)) are (move_at (proposer_journal_before ds t) m call) refl))
        | inr apart ↦
            subst (λ l. AreDecided l (suc t)) (sym (cond-false (m == k) (proposer_told_by (list_at m t) (move_at (proposer_journal_before ds t) k call)) (list_at m t) (ne_eqb m k apart)))
            (longer (list_at m t) t are)
      ]

  list_then : (m t : ℕ) → AreDecided (list_at m t) t → (o : Option ProposerDoing) → slice_get ds t ≡ o → AreDecided (list_at m (suc t)) (suc t)
  list_then m t are None at = subst (λ (j : ProposerJournal). AreDecided (j.list m) (suc t)) (sym (journal_past t new_proposer_journal ds at)) (longer (list_at m t) t are)
  list_then m t are (Some d) at = subst (λ (j : ProposerJournal). AreDecided (j.list m) (suc t)) (sym (journal_next t new_proposer_journal ds d at)) (list_next m t d at are)

  pub lists_decided : (m t : ℕ) → AreDecided (list_at m t) t
  lists_decided m zero = λ k v at. absurd (none-some v at)
  lists_decided m (suc t) = list_then m t (lists_decided m t) (slice_get ds t) refl
