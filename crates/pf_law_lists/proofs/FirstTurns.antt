-- A mount has a turn in a position only once it stood there.
use Rattle.std.proofs.Common.{◌≡◌, ℕ, zero, suc, ◌<◌, ◌≤◌, ◌⊎◌, inl, inr, ◌==◌, Bool, true, false, cond, nat_lt, List, length, Option, Some, None, slice_get, arith, refl, sym, ap, subst, ◌∙◌}
use Rattle.std.proofs.lemmas.Bool.{cases_eq, cond-true, cond-false, eq-eqb, ne_eqb, ltb-true}
use Rattle.std.proofs.lemmas.Option.{same_Some, none-some}
use Rattle.pf_paxos.specs.Blocks.{zero_block}
use Rattle.pf_paxos.specs.Registers.{Turn}
use Rattle.pf_paxos.specs.Runs.{idle_turn}
use Rattle.pf_paxos.specs.declared.parts.AnchorNext.TheVariants.{Idle}
use Rattle.pf_paxos.specs.declared.ballot.BallotStep.TheVariants.{Go}
use Rattle.pf_paxos.specs.declared.ballot.Phase.TheVariants.{Resting}
use Rattle.pf_paxos.specs.declared.parts.AnchorAsk.TheVariants.{Nothing}
use Rattle.pf_paxos.specs.Parts.{part_at, fresh, part_takes}
use Rattle.pf_paxos.specs.Ballots.{BallotIs, next_at_anchor, next_in_phase, asked_next}
use Rattle.pf_paxos.proofs.BallotForms.{at_new}
use Rattle.pf_paxos.specs.Quorums.{turn_on, turns_on}
use Rattle.pf_paxos.specs.BallotRuns.{Act, Asks, IsWritten, GetsRead, BallotCall, Starts, At, Calls, Otherwise, Move, move_at, move_in, no_turn, turn_asking}
use Rattle.pf_paxos.proofs.BallotMoments.{Run, state, Moves, Changes, changes}
use Rattle.pf_paxos.proofs.BallotKept.{one_changed}
use Rattle.pf_law_lists.specs.Journals.{Doing, Ballots, Acts, Looks, position_of, event_at}
use Rattle.pf_law_lists.proofs.JournalPositions.{position_event, position_past, Case, start, before, events, past}
use Rattle.pf_law_lists.proofs.ListGrowth.{next_longer}

-- no ballot runs and nothing is asked
record IsUnbegun (p : BallotIs) : Type 0 where
  resting : p.phase ≡ Resting
  nothing : (a : ℕ) → (part_at p.parts a).asked ≡ Nothing

-- then a call that concerns an anchor does nothing
record DoesNothing (move : Move) : Type 0 where
  turn : move.turn ≡ no_turn
  still : IsUnbegun move.ballot

module _ (m : ℕ) (p : BallotIs) (u : IsUnbegun p) where
  next_idle : (a : ℕ) → next_at_anchor p a ≡ Idle
  next_idle a = ap (λ ph. next_in_phase ph (part_at p.parts a) p.own) u.resting

  asks_nothing : (a : ℕ) → a < length p.parts → DoesNothing (record { ballot = asked_next p a; turn = turn_asking m a (next_at_anchor p a); step = Go })
  asks_nothing a la = record {
    turn = ap (turn_asking m a) (next_idle a);
    still = record {
      resting = u.resting;
      nothing = one_changed (λ b part. part.asked ≡ Nothing) p.parts a la (part_takes (part_at p.parts a) (next_at_anchor p a)) (subst (λ n. (part_takes (part_at p.parts a) n).asked ≡ Nothing) (sym (next_idle a)) (u.nothing a)) (λ b apart. u.nothing b);
    };
  }

  at_idle : (a : ℕ) → a < length p.parts → (act : Act) (move : Move) → move_at m a p act Nothing ≡ Some move → DoesNothing move
  at_idle a la Asks move is = subst DoesNothing (same_Some _ _ is) (asks_nothing a la)
  at_idle a la IsWritten move is = absurd (none-some move is)
  at_idle a la (GetsRead blocks) move is = absurd (none-some move is)

  does_nothing : (a : ℕ) (act : Act) (move : Move) → move_in m p (At a act) ≡ Some move → DoesNothing move
  does_nothing a act move is = by (nat_lt a (length p.parts)) refl is
    where
      by : (b : Bool) → nat_lt a (length p.parts) ≡ b → cond b (move_at m a p act (part_at p.parts a).asked) None ≡ Some move → DoesNothing move
      by true low same = at_idle a (ltb-true a (length p.parts) low) act move (ap (move_at m a p act) (sym (u.nothing a)) ∙ same)
      by false high same = absurd (none-some move same)

module _ (ds : Case) where
  abbrev run_at : (position : ℕ) → Run
  run_at n = record { anchors = ds.anchors; quorum = ds.quorum; events = events ds n }

  module _ (n t : ℕ) where
    -- a ballot begins in a position only by a mount that stands there
    abbrev pub StartsThere : (m above : ℕ) (input : Option (List ℕ)) → Type 0
    StartsThere m above input = (slice_get ds.doings t ≡ Some (Ballots m above input)) × (position_of (before ds t) m ≡ n)

    of_event : (d : Doing) (m above : ℕ) (input : Option (List ℕ)) → slice_get ds.doings t ≡ Some d → event_at n (before ds t) d ≡ Calls m (Starts above input) → StartsThere m above input
    of_event (Ballots k over other) m above input at is = by (cases_eq n (position_of (before ds t) k))
      where
        by : (n ≡ position_of (before ds t) k) ⊎ (n ≡ position_of (before ds t) k → ⊥) → StartsThere m above input
        by (inl here) =
            let same : Calls k (Starts over other) ≡ Calls m (Starts above input) = sym (cond-true (n == position_of (before ds t) k) (Calls k (Starts over other)) (Otherwise no_turn) (eq-eqb n (position_of (before ds t) k) here)) ∙ is in
            let same_mount : k ≡ m = cc in
            let same_above : over ≡ above = cc in
            let same_input : other ≡ input = cc in (
              at ∙ ap (λ i. Some (Ballots i over other)) same_mount ∙ ap (λ i. Some (Ballots m i other)) same_above ∙ ap (λ i. Some (Ballots m above i)) same_input,
              ap (position_of (before ds t)) (sym same_mount) ∙ sym here,
            )
        by (inr apart) =
            let none : Otherwise no_turn ≡ Calls m (Starts above input) = sym (cond-false (n == position_of (before ds t) k) (Calls k (Starts over other)) (Otherwise no_turn) (ne_eqb n (position_of (before ds t) k) apart)) ∙ is in
            absurd (cc)
    of_event (Acts k p a act) m above input at is = by (n == p) is
      where
        by : (b : Bool) → cond b (Calls k (At a act)) (Otherwise no_turn) ≡ Calls m (Starts above input) → StartsThere m above input
        by true same = absurd (grind (arith, same))
        by false same = absurd (grind (arith, same))
    of_event (Looks p turn) m above input at is = by (n == p) is
      where
        by : (b : Bool) → cond b (Otherwise turn) (Otherwise no_turn) ≡ Calls m (Starts above input) → StartsThere m above input
        by true same = absurd (grind (arith, same))
        by false same = absurd (grind (arith, same))

    pub starts_there : (m above : ℕ) (input : Option (List ℕ)) → slice_get (events ds n) t ≡ Some (Calls m (Starts above input)) → StartsThere m above input
    starts_there m above input at = by (slice_get ds.doings t) refl
      where
        by : (o : Option Doing) → slice_get ds.doings t ≡ o → StartsThere m above input
        by None none = absurd (none-some (Calls m (Starts above input)) (sym (position_past n t (start ds) ds.doings none) ∙ at))
        by (Some d) doing = of_event d m above input doing (same_Some _ _ (sym (position_event n t (start ds) ds.doings d doing) ∙ at))

  -- a mount has begun nothing in a position, or stands there or above
  abbrev Reaches : (n m t : ℕ) → Type 0
  Reaches n m t = IsUnbegun (state (run_at n) m t) ⊎ (n ≤ position_of (before ds t) m)

  module _ (n m t : ℕ) (u : IsUnbegun (state (run_at n) m t)) (mv : Moves (run_at n) m t) where
    -- its move begins a ballot there or does nothing
    reaches_move : (n ≤ position_of (before ds t) m) ⊎ DoesNothing mv.move
    reaches_move = by mv.call refl
      where
        by : (call : BallotCall) → mv.call ≡ call → (n ≤ position_of (before ds t) m) ⊎ DoesNothing mv.move
        by (Starts above input) is = let s = starts_there n t m above input (mv.event ∙ ap (λ c. Some (Calls m c)) is) in inl (omega (arith, s.1))
        by (At a act) is = inr (does_nothing m (state (run_at n) m t) u a act mv.move (ap (move_in m (state (run_at n) m t)) (sym is) ∙ mv.is))

  reaches_then : (n m t : ℕ) → Reaches n m t → Changes (run_at n) m t → Reaches n m (suc t)
  reaches_then n m t (inr there) c = inr (omega (arith, there, next_longer ds m t))
  reaches_then n m t (inl u) (inl stays) = inl (subst IsUnbegun (sym stays.same) u)
  reaches_then n m t (inl u) (inr mv) =
      elim (reaches_move n m t u mv) [
        | inl there ↦ inr (omega (arith, there, next_longer ds m t))
        | inr none ↦ inl (subst IsUnbegun (sym mv.becomes) none.still)
      ]

  new_unbegun : (n m : ℕ) → IsUnbegun (state (run_at n) m 0)
  new_unbegun n m = record { resting = refl; nothing = λ a. at_new (λ part. part.asked ≡ Nothing) ds.anchors (fresh zero_block) a refl refl }

  reaches_at : (n m t : ℕ) → m < 16 → Reaches n m t
  reaches_at n m zero lm = inl (new_unbegun n m)
  reaches_at n m (suc t) lm = reaches_then n m t (reaches_at n m t lm) (changes (run_at n) m t lm)

  no_client : (a : ℕ) → (turn_on a no_turn).client ≡ 16
  no_client a = by (0 == a)
    where
      by : (b : Bool) → (cond b idle_turn idle_turn).client ≡ 16
      by true = refl
      by false = refl

  pub turn_there : (n m t a : ℕ) (x : Turn) → m < 16 → slice_get (turns_on a (past ds n)) t ≡ Some x → x.client ≡ m → n ≤ position_of (before ds t) m
  turn_there n m t a x lm at its = by (reaches_at n m t lm) (changes (run_at n) m t lm)
    where
      by : Reaches n m t → Changes (run_at n) m t → n ≤ position_of (before ds t) m
      by (inr there) c = there
      by (inl u) (inl stays) = absurd (stays.quiet a x at its)
      by (inl u) (inr mv) =
          elim (reaches_move n m t u mv) [
            | inl there ↦ there
            | inr none ↦
                let client : x.client ≡ 16 = ap (λ (y : Turn). y.client) (same_Some _ _ (sym at ∙ mv.turn a)) ∙ ap (λ y. (turn_on a y).client) none.turn ∙ no_client a in
                absurd (omega (arith, client, its, lm))
          ]
