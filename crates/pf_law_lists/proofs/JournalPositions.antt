-- Journals: each position by itself, and what a mount's list tells.
use Rattle.std.proofs.Common.{◌≡◌, ℕ, zero, suc, ◌<◌, ◌⊎◌, inl, inr, ◌==◌, cond, List, [], ◌∷◌, ◌++◌, length, take, Option, Some, None, slice_get, arith, refl, sym, ap, subst, ◌∙◌}
use Rattle.std.proofs.lemmas.Bool.{cases_eq, cond-true, cond-false, eq-eqb, ne_eqb}
use Rattle.std.proofs.lemmas.Option.{same_Some, none-some}
use Rattle.pf_paxos.specs.declared.ballot.BallotStep.{BallotStep}
use Rattle.pf_paxos.specs.declared.ballot.BallotStep.TheVariants.{Go, Abort, NoValue, Decided as Tells}
use Rattle.pf_paxos.specs.Quorums.{AnchorTurn, IsDecidedOver}
use Rattle.pf_paxos.specs.BallotRuns.{Act, At, BallotEvent, Calls, Otherwise, Move, ballot_move, run_ballots, no_turn}
use Rattle.pf_paxos.proofs.BallotTold.{told as told_decided}
use Rattle.pf_law_lists.specs.Journals.{Doing, Ballots, Acts, Looks, BallotJournal, new_journal, position_of, list_told, told_by, journal_goes_on, journal_from, journal_before, event_at, events_from, events_at, history_at, IsDecidedAt, IsDecidedBefore}

-- what the mounts have in a position is what its own events make of it
pub position_run : (n t : ℕ) (j : BallotJournal) (ds : List Doing) → run_ballots (j.mounts n) (take t (events_from n j ds)) ≡ (journal_from j (take t ds)).mounts n
position_run n zero j [] = refl
position_run n (suc t) j [] = refl
position_run n zero j (d ∷ ds) = refl
position_run n (suc t) j (d ∷ ds) = position_run n t (journal_goes_on j d) ds

pub position_event : (n t : ℕ) (j : BallotJournal) (ds : List Doing) (d : Doing) → slice_get ds t ≡ Some d → slice_get (events_from n j ds) t ≡ Some (event_at n (journal_from j (take t ds)) d)
position_event n t j [] d is = absurd (none-some d is)
position_event n zero j (x ∷ xs) d is = ap (λ y. Some (event_at n j y)) (same_Some x d is)
position_event n (suc t) j (x ∷ xs) d is = position_event n t (journal_goes_on j x) xs d is

pub position_past : (n t : ℕ) (j : BallotJournal) (ds : List Doing) → slice_get ds t ≡ None → slice_get (events_from n j ds) t ≡ None
position_past n t j [] is = refl
position_past n zero j (x ∷ xs) is = absurd (none-some x (sym is))
position_past n (suc t) j (x ∷ xs) is = position_past n t (journal_goes_on j x) xs is

pub journal_next : (t : ℕ) (j : BallotJournal) (ds : List Doing) (d : Doing) → slice_get ds t ≡ Some d → journal_from j (take (suc t) ds) ≡ journal_goes_on (journal_from j (take t ds)) d
journal_next t j [] d is = absurd (none-some d is)
journal_next zero j (x ∷ xs) d is = ap (journal_goes_on j) (same_Some x d is)
journal_next (suc t) j (x ∷ xs) d is = journal_next t (journal_goes_on j x) xs d is

journal_past : (t : ℕ) (j : BallotJournal) (ds : List Doing) → slice_get ds t ≡ None → journal_from j (take (suc t) ds) ≡ journal_from j (take t ds)
journal_past zero j [] is = refl
journal_past (suc t) j [] is = refl
journal_past zero j (x ∷ xs) is = absurd (none-some x (sym is))
journal_past (suc t) j (x ∷ xs) is = journal_past t (journal_goes_on j x) xs is

-- the mount tells a value as decided in its own position
pub record Learns (j : BallotJournal) (d : Doing) (m : ℕ) : Type 0 where
  pub anchor : ℕ
  pub act : Act
  pub move : Move
  pub value : List ℕ
  pub doing : d ≡ Acts m (position_of j m) anchor act
  pub is : ballot_move (j.mounts (position_of j m)) (Calls m (At anchor act)) ≡ Some move
  pub tells : move.step ≡ Tells value
  pub becomes : (journal_goes_on j d).list m ≡ j.list m ++ value ∷ []

-- its list stays, or goes on with this value
abbrev pub ListGoes : BallotJournal → Doing → (m : ℕ) → Type 0
ListGoes j d m = ((journal_goes_on j d).list m ≡ j.list m) ⊎ Learns j d m

-- a call of the mount in its own position
module _ (j : BallotJournal) (m n a : ℕ) (act : Act) (here : n ≡ position_of j m) where
  abbrev moved : Option Move
  moved = ballot_move (j.mounts n) (Calls m (At a act))

  goes_by : (journal_goes_on j (Acts m n a act)).list m ≡ told_by (j.list m) moved
  goes_by =
      cond-true (m == m) (cond (n == position_of j m) (told_by (j.list m) moved) (j.list m)) (j.list m) (eq-eqb m m refl)
      ∙ cond-true (n == position_of j m) (told_by (j.list m) moved) (j.list m) (eq-eqb n (position_of j m) here)

  goes_here : (o : Option Move) → moved ≡ o → ListGoes j (Acts m n a act) m
  goes_here None is = inl (goes_by ∙ ap (told_by (j.list m)) is)
  goes_here (Some move) is = by move.step refl
    where
      by : (step : BallotStep) → move.step ≡ step → ListGoes j (Acts m n a act) m
      by Go tells = inl (goes_by ∙ ap (told_by (j.list m)) is ∙ ap (list_told (j.list m)) tells)
      by (Abort mbal) tells = inl (goes_by ∙ ap (told_by (j.list m)) is ∙ ap (list_told (j.list m)) tells)
      by NoValue tells = inl (goes_by ∙ ap (told_by (j.list m)) is ∙ ap (list_told (j.list m)) tells)
      by (Tells v) tells = inr (record {
        anchor = a;
        act = act;
        move = move;
        value = v;
        doing = ap (λ i. Acts m i a act) here;
        is = ap (λ i. ballot_move (j.mounts i) (Calls m (At a act))) (sym here) ∙ is;
        tells = tells;
        becomes = goes_by ∙ ap (told_by (j.list m)) is ∙ ap (list_told (j.list m)) tells;
      })

-- a call of the mount in any position
goes_own : (j : BallotJournal) (m n a : ℕ) (act : Act) → ListGoes j (Acts m n a act) m
goes_own j m n a act = by (cases_eq n (position_of j m))
  where
    by : (n ≡ position_of j m) ⊎ (n ≡ position_of j m → ⊥) → ListGoes j (Acts m n a act) m
    by (inl here) = goes_here j m n a act here (ballot_move (j.mounts n) (Calls m (At a act))) refl
    by (inr apart) = inl (
        cond-true (m == m) (cond (n == position_of j m) (told_by (j.list m) (ballot_move (j.mounts n) (Calls m (At a act)))) (j.list m)) (j.list m) (eq-eqb m m refl)
        ∙ cond-false (n == position_of j m) (told_by (j.list m) (ballot_move (j.mounts n) (Calls m (At a act)))) (j.list m) (ne_eqb n (position_of j m) apart)
        )

pub list_goes : (j : BallotJournal) (d : Doing) (m : ℕ) → ListGoes j d m
list_goes j (Ballots k above input) m = inl refl
list_goes j (Looks n turn) m = inl refl
list_goes j (Acts k n a act) m = by (cases_eq m k)
  where
    by : (m ≡ k) ⊎ (m ≡ k → ⊥) → ListGoes j (Acts k n a act) m
    by (inl same) = subst (λ i. ListGoes j (Acts i n a act) m) same (goes_own j m n a act)
    by (inr apart) = inl (cond-false (m == k) (cond (n == position_of j k) (told_by (j.list k) (ballot_move (j.mounts n) (Calls k (At a act)))) (j.list k)) (j.list m) (ne_eqb m k apart))

-- an element of a list with one more
get_more : {X : Type 0} (xs : List X) (x : X) (k : ℕ) (y : X) → slice_get (xs ++ x ∷ []) k ≡ Some y → (slice_get xs k ≡ Some y) ⊎ ((k ≡ length xs) × (y ≡ x))
get_more [] x zero y is = inr (refl, sym (same_Some x y is))
get_more [] x (suc k) y is = absurd (none-some y is)
get_more (z ∷ zs) x zero y is = inl is
get_more (z ∷ zs) x (suc k) y is = elim (get_more zs x k y is) [ inl there ↦ inl there | inr last ↦ inr (ap suc last.0, last.1) ]

-- doings over so many anchors, of which a ballot needs so many
pub record Case : Type 0 where
  pub anchors : ℕ
  pub quorum : ℕ
  pub doings : List Doing

abbrev pub start : Case → BallotJournal
start ds = new_journal ds.anchors ds.quorum

abbrev pub before : Case → (moment : ℕ) → BallotJournal
before ds t = journal_before ds.anchors ds.quorum ds.doings t

abbrev pub at_end : Case → BallotJournal
at_end ds = journal_from (start ds) ds.doings

abbrev pub events : Case → (position : ℕ) → List BallotEvent
events ds n = events_at ds.anchors ds.quorum n ds.doings

abbrev pub past : Case → (position : ℕ) → List AnchorTurn
past ds n = history_at ds.anchors ds.quorum n ds.doings

abbrev pub Decided : Case → (position : ℕ) → List ℕ → Type 0
Decided ds n v = IsDecidedAt ds.anchors ds.quorum ds.doings n v

abbrev pub DecidedBefore : Case → (position moment : ℕ) → List ℕ → Type 0
DecidedBefore ds n t v = IsDecidedBefore ds.anchors ds.quorum ds.doings n t v

module _ (ds : Case) where
  abbrev pub list_at : (mount moment : ℕ) → List (List ℕ)
  list_at m t = (before ds t).list m

  -- what a call makes, in the position in which it comes
  call_event : (t m n a : ℕ) (act : Act) → slice_get ds.doings t ≡ Some (Acts m n a act) → slice_get (events ds n) t ≡ Some (Calls m (At a act))
  call_event t m n a act at =
      position_event n t (start ds) ds.doings (Acts m n a act) at
      ∙ ap (λ e. Some e) (cond-true (n == n) (Calls m (At a act)) (Otherwise no_turn) (eq-eqb n n refl))

  -- a value that is told is decided in the position where the mount stands
  learnt : (m t : ℕ) (d : Doing) → slice_get ds.doings t ≡ Some d → (l : Learns (before ds t) d m) → IsDecidedOver ds.anchors ds.quorum (past ds (position_of (before ds t) m)) t l.value
  learnt m t d at l =
      let n = position_of (before ds t) m in
      told_decided ds.anchors ds.quorum (events ds n) t m (At l.anchor l.act) l.move l.value
      (call_event t m n l.anchor l.act (at ∙ ap (λ e. Some e) l.doing))
      (ap (λ ps. ballot_move ps (Calls m (At l.anchor l.act))) (position_run n t (start ds) ds.doings) ∙ l.is)
      l.tells

  -- each value of a list is decided in its position, before a moment
  abbrev pub AreDecided : List (List ℕ) → (moment : ℕ) → Type 0
  AreDecided list t = (k : ℕ) (v : List ℕ) → slice_get list k ≡ Some v → (moment : ℕ) × (moment < t) × IsDecidedOver ds.anchors ds.quorum (past ds k) moment v

  longer : (list : List (List ℕ)) (t : ℕ) → AreDecided list t → AreDecided list (suc t)
  longer list t are k v at = let d = are k v at in (d.0, omega (arith, d.1), d.2)

  list_next : (m t : ℕ) (d : Doing) → slice_get ds.doings t ≡ Some d → AreDecided (list_at m t) t → ListGoes (before ds t) d m → AreDecided ((journal_goes_on (before ds t) d).list m) (suc t)
  list_next m t d at are (inl stays) = subst (λ l. AreDecided l (suc t)) (sym stays) (longer (list_at m t) t are)
  list_next m t d at are (inr l) = subst (λ l. AreDecided l (suc t)) (sym l.becomes) by
    where
      by : AreDecided (list_at m t ++ l.value ∷ []) (suc t)
      by k v there =
          elim (get_more (list_at m t) l.value k v there) [
            | inl old ↦ longer (list_at m t) t are k v old
            | inr new ↦
                let decided = subst (λ w. IsDecidedOver ds.anchors ds.quorum (past ds (position_of (before ds t) m)) t w) (sym new.1) (learnt m t d at l) in
                (t, omega arith, subst (λ n. IsDecidedOver ds.anchors ds.quorum (past ds n) t v) (sym new.0) decided)
          ]

  list_then : (m t : ℕ) → AreDecided (list_at m t) t → (o : Option Doing) → slice_get ds.doings t ≡ o → AreDecided (list_at m (suc t)) (suc t)
  list_then m t are None at = subst (λ (j : BallotJournal). AreDecided (j.list m) (suc t)) (sym (journal_past t (start ds) ds.doings at)) (longer (list_at m t) t are)
  list_then m t are (Some d) at = subst (λ (j : BallotJournal). AreDecided (j.list m) (suc t)) (sym (journal_next t (start ds) ds.doings d at)) (list_next m t d at are (list_goes (before ds t) d m))

  pub lists_decided : (m t : ℕ) → AreDecided (list_at m t) t
  lists_decided m zero = λ k v at. absurd (none-some v at)
  lists_decided m (suc t) = list_then m t (lists_decided m t) (slice_get ds.doings t) refl
