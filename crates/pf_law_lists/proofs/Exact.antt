-- Where a ballot needs all anchors, each position that is decided is in the list of a mount.
use Rattle.std.proofs.Common.{◌≡◌, ℕ, zero, suc, ◌+◌, ◌<◌, ◌≤◌, ◌⊎◌, inl, inr, Bool, true, false, cond, nat_lt, ◌==◌, List, [], ◌∷◌, ◌++◌, length, Option, Some, None, slice_get, arith, refl, sym, ap, subst, ◌∙◌, length-append}
use Rattle.std.proofs.lemmas.Bool.{cases_lt, cond-true, eq-eqb, eqb-true, lt-ltb}
use Rattle.std.proofs.lemmas.Option.{none-some, same_Some}
use Rattle.pf_paxos.specs.Deciding.{Decides}
use Rattle.pf_paxos.specs.Quorums.{AnchorTurn, AreOtherAnchors, DecidesOver}
use Rattle.pf_paxos.specs.declared.ballot.Phase.TheVariants.{Resting}
use Rattle.pf_paxos.specs.BallotRuns.{Act, At, Calls, Mounts, Move, Otherwise, Starts, move_in, ballot_move, no_turn}
use Rattle.pf_paxos.proofs.ProposerAgreement.{one_mount}
use Rattle.pf_paxos.proofs.BallotKept.{turns}
use Rattle.pf_paxos.proofs.BallotMoments.{Run, state}
use Rattle.pf_paxos.proofs.QuorumLists.{Has, Quorum, share}
use Rattle.pf_law_lists.specs.Journals.{Acts, AreAllRegistersAt, Ballots, BeginsAtRest, Doing, IsTransactionList, BallotJournal, Looks, event_at, journal_goes_on, position_of, list_told, told_by}
use Rattle.pf_law_lists.proofs.ListGrowth.{end_longer}
use Rattle.pf_law_lists.proofs.JournalPositions.{Case, Decided, at_end, before, events, journal_next, past, position_event, position_past, position_run, start}
use Rattle.pf_law_lists.proofs.FirstTurns.{starts_there, turn_there}
use Rattle.pf_law_lists.proofs.Told.{Tells, told_by as decided_told}
use Rattle.pf_law_lists.proofs.AwaitedParts.{Seen}

-- A list of as many different anchors as there are has each of them

-- so many numbers from one on
numbers : (from count : ℕ) → List ℕ
numbers from zero = []
numbers from (suc count) = from ∷ numbers (suc from) count

number_at : (from count place a : ℕ) → slice_get (numbers from count) place ≡ Some a → (a ≡ from + place) × (place < count)
unfolding numbers
number_at from zero place a at = absurd (none-some a at)
number_at from (suc count) zero a at = (let is = same_Some from a at in omega (arith, is), omega arith)
number_at from (suc count) (suc place) a at = let rest = number_at (suc from) count place a at in (omega (arith, rest.0), omega (arith, rest.1))

count_is : (from count : ℕ) → length (numbers from count) ≡ count
unfolding numbers
count_is from zero = refl
count_is from (suc count) = ap suc (count_is (suc from) count)

module _ (n a : ℕ) (low : a < suc n) where
  -- this one, and others behind all
  others : List ℕ
  others = a ∷ numbers (suc n) n

  other_at : (place x : ℕ) → slice_get others place ≡ Some x → ((place ≡ 0) × (x ≡ a)) ⊎ ((0 < place) × (x ≡ n + place) × (place < suc n))
  unfolding others
  other_at zero x at = inl (refl, sym (same_Some a x at))
  other_at (suc place) x at = let it = number_at (suc n) n place x at in inr (omega arith, omega (arith, it.0), omega (arith, it.1))

  others_apart : AreOtherAnchors others
  others_apart i j x at_i at_j = by (other_at i x at_i) (other_at j x at_j)
    where
      by : ((i ≡ 0) × (x ≡ a)) ⊎ ((0 < i) × (x ≡ n + i) × (i < suc n)) → ((j ≡ 0) × (x ≡ a)) ⊎ ((0 < j) × (x ≡ n + j) × (j < suc n)) → i ≡ j
      by (inl p) (inl q) = omega (arith, p.0, q.0)
      by (inl p) (inr q) = absurd (omega (arith, p.1, q.0, q.1, low))
      by (inr p) (inl q) = absurd (omega (arith, q.1, p.0, p.1, low))
      by (inr p) (inr q) = omega (arith, p.1, q.1)

  others_low : (place x : ℕ) → slice_get others place ≡ Some x → x < suc (n + n)
  others_low place x at = elim (other_at place x at) [
    | inl first ↦ omega (arith, first.1, low)
    | inr rest ↦ omega (arith, rest.1, rest.2)
  ]

  long : suc n ≤ length others
  unfolding others
  long = let rest = count_is (suc n) n in omega (arith, rest)

  pub has_all : (used : List ℕ) → AreOtherAnchors used → ((place x : ℕ) → slice_get used place ≡ Some x → x < suc n) → suc n ≤ length used → Has used a
  has_all used apart below many =
      let one : Quorum (suc (n + n)) (suc n) = record { used = used; is = record { apart = apart; many = many; low = λ place x at. let it = below place x at in omega (arith, it) } } in
      let two : Quorum (suc (n + n)) (suc n) = record { used = others; is = record { apart = others_apart; many = long; low = others_low } } in
      let both = share (suc (n + n)) (suc n) (omega arith) one two in
      let low_it = below both.1.0.place both.0 both.1.0.at in
      elim (other_at both.1.1.place both.0 both.1.1.at) [
        | inl first ↦ subst (Has used) first.1 both.1.0
        | inr rest ↦ absurd (omega (arith, rest.0, rest.1, low_it))
      ]

-- Where ballots need all

module _ (c : Case) (all : c.quorum ≡ c.anchors) (some : 0 < c.anchors) (registers : AreAllRegistersAt c.anchors c.quorum c.doings) (rests : BeginsAtRest c.anchors c.quorum c.doings) where
  abbrev run_at : (n : ℕ) → Run
  run_at n = record { anchors = c.anchors; quorum = c.quorum; events = events c n }

  module _ (n ballot : ℕ) (value : List ℕ) (d : DecidesOver c.anchors c.quorum (past c n) ballot value) where
    there : (a : ℕ) → a < c.anchors → Has d.used a
    there a low = of c.anchors some (λ place x at. d.is_quorum.low place x at) (subst (λ k. k ≤ length d.used) all d.is_quorum.many) low
      where
        of : (k : ℕ) → 0 < k → ((place x : ℕ) → slice_get d.used place ≡ Some x → x < k) → k ≤ length d.used → a < k → Has d.used a
        of zero none below many less = absurd (omega (arith, none))
        of (suc k) none below many less = has_all k a less d.used d.is_quorum.apart below many

    its : (a : ℕ) → a < c.anchors → Decides (turns (run_at n) a) ballot value
    its a low = let h = there a low in d.each h.place a h.at

    -- one mount's
    abbrev m : ℕ
    m = (its 0 some).mount

    seen : (a : ℕ) → a < c.anchors → Seen (turns (run_at n) a) (its 0 some).mount ballot value
    seen a low =
        let x = its a low in
        subst (λ k. Seen (turns (run_at n) a) k ballot value) (one_mount x.mount (its 0 some).mount ballot x.is_mount (its 0 some).is_mount x.is_ballot (its 0 some).is_ballot)
        (record { asked = x.asked; answered = x.answered; wrote = x.wrote; low = x.low; high = x.high })

    at_rest : (t above : ℕ) (input : Option (List ℕ)) → slice_get (events c n) t ≡ Some (Calls m (Starts above input)) → (state (run_at n) m t).phase ≡ Resting
    at_rest t above input at =
        let s = starts_there c n t m above input at in
        ap (λ ps. (ps m).phase) (position_run n t (start c) c.doings)
        ∙ subst (λ k. ((before c t).mounts k m).phase ≡ Resting) s.1 (rests t m above input s.0)

    tells : Tells (run_at n) m value
    tells = decided_told (run_at n) m (its 0 some).is_mount ballot (let x = (its 0 some).is_ballot in let is = x.is in let first = x.not_first in omega (arith, is, first)) value all some (registers n) seen at_rest

    -- where the mount stands as it tells it
    abbrev t : ℕ
    t = tells.moment

    reached : n ≤ position_of (before c t) m
    reached = turn_there c n m t tells.anchor tells.turn (its 0 some).is_mount tells.at tells.its

    abbrev j : BallotJournal
    j = before c t

    -- which call it is
    act_is : (k q a : ℕ) (act : Act) → event_at n j (Acts k q a act) ≡ Calls m tells.call → (k ≡ m) × (tells.call ≡ At a act) × (n ≡ q)
    act_is k q a act is = of (n == q) refl is
      where
        of : (b : Bool) → (n == q) ≡ b → cond b (Calls k (At a act)) (Otherwise no_turn) ≡ Calls m tells.call → (k ≡ m) × (tells.call ≡ At a act) × (n ≡ q)
        of true here same = let mount : k ≡ m = cc in let call : At a act ≡ tells.call = cc in (mount, sym call, eqb-true n q here)
        of false other same = absurd (grind (arith, same))

    no_start : (above : ℕ) (input : Option (List ℕ)) → tells.call ≡ Starts above input → ⊥
    no_start above input is =
        let move = same_Some _ _ (sym (ap (move_in m (state (run_at n) m t)) is) ∙ tells.is) in
        let step = ap (λ (y : Move). y.step) move ∙ tells.tells in
        absurd (grind (arith, step))

    start_is : (k above : ℕ) (input : Option (List ℕ)) → event_at n j (Ballots k above input) ≡ Calls m tells.call → ⊥
    start_is k above input is = of (n == position_of j k) is
      where
        of : (b : Bool) → cond b (Calls k (Starts above input)) (Otherwise no_turn) ≡ Calls m tells.call → ⊥
        of true same = let call : Starts above input ≡ tells.call = cc in no_start above input (sym call)
        of false same = absurd (grind (arith, same))

    look_is : (q : ℕ) (turn : AnchorTurn) → event_at n j (Looks q turn) ≡ Calls m tells.call → ⊥
    look_is q turn is = of (n == q) is
      where
        of : (b : Bool) → cond b (Otherwise turn) (Otherwise no_turn) ≡ Calls m tells.call → ⊥
        of true same = absurd (grind (arith, same))
        of false same = absurd (grind (arith, same))

    -- its list goes on
    list_goes_on : (a : ℕ) (act : Act) → tells.call ≡ At a act → n ≡ position_of j m → (journal_goes_on j (Acts m n a act)).list m ≡ j.list m ++ value ∷ []
    list_goes_on a act call here =
        let move : ballot_move (j.mounts n) (Calls m (At a act)) ≡ Some tells.move =
        cond-true (nat_lt m 16) (move_in m (j.mounts n m) (At a act)) None (lt-ltb m 16 (its 0 some).is_mount)
        ∙ ap (λ (ps : Mounts). move_in m (ps m) (At a act)) (sym (position_run n t (start c) c.doings))
        ∙ ap (move_in m (state (run_at n) m t)) (sym call) ∙ tells.is in
        cond-true (m == m) (cond (n == position_of j m) (told_by (j.list m) (ballot_move (j.mounts n) (Calls m (At a act)))) (j.list m)) (j.list m) (eq-eqb m m refl)
        ∙ cond-true (n == position_of j m) (told_by (j.list m) (ballot_move (j.mounts n) (Calls m (At a act)))) (j.list m) (eq-eqb n (position_of j m) here)
        ∙ ap (told_by (j.list m)) move ∙ ap (list_told (j.list m)) tells.tells

    next_stands : (a : ℕ) (act : Act) → slice_get c.doings t ≡ Some (Acts m n a act) → tells.call ≡ At a act → n ≡ position_of j m → n < position_of (before c (suc t)) m
    next_stands a act at call here =
        let next = ap (λ (y : BallotJournal). length (y.list m)) (journal_next t (start c) c.doings (Acts m n a act) at) in
        let list = ap (λ (xs : List (List ℕ)). length xs) (list_goes_on a act call here) in
        let more = length-append (j.list m) (value ∷ []) in
        omega (arith, next, list, more, here)

    goes_past : n ≡ position_of j m → (doing : Doing) → slice_get c.doings t ≡ Some doing → event_at n j doing ≡ Calls m tells.call → n < position_of (before c (suc t)) m
    goes_past here (Ballots k above input) at is = absurd (start_is k above input is)
    goes_past here (Looks q turn) at is = absurd (look_is q turn is)
    goes_past here (Acts k q a act) at is =
        let it = act_is k q a act is in
        next_stands a act (at ∙ ap (λ i. Some (Acts i q a act)) it.0 ∙ ap (λ i. Some (Acts m i a act)) (sym it.2)) it.1 here

    there_is : (o : Option Doing) → slice_get c.doings t ≡ o → n ≡ position_of j m → n < position_of (before c (suc t)) m
    there_is None none here = absurd (none-some (Calls m tells.call) (sym (position_past n t (start c) c.doings none) ∙ tells.event))
    there_is (Some doing) at here = goes_past here doing at (same_Some _ _ (sym (position_event n t (start c) c.doings doing at) ∙ tells.event))

    in_list : n < position_of (at_end c) m
    in_list = elim (cases_lt n (position_of j m)) [
      | inl past ↦ let longer = end_longer c m t in omega (arith, past, longer)
      | inr not_past ↦
          let here : n ≡ position_of j m = omega (arith, not_past, reached) in
          let next = there_is (slice_get c.doings t) refl here in
          let longer = end_longer c m (suc t) in
          omega (arith, next, longer)
    ]

  -- no position from the end of a transaction list on is decided
  pub exact_end : (list : List (List ℕ)) → IsTransactionList c.anchors c.quorum c.doings list → (position : ℕ) (value : List ℕ) → length list ≤ position → Decided c position value → ⊥
  exact_end list is position value past x =
      let there_in = in_list position x.ballot value x.decides in
      let longest = is.longest (its position x.ballot value x.decides 0 some).mount in
      omega (arith, there_in, longest, past)
