-- A history at its moments.
use Rattle.std.proofs.Common.{◌≡◌, ℕ, zero, suc, ◌<◌, ◌≤◌, ◌≢◌, ◌⊎◌, inl, inr, true, false, Bool, cond, nat_lt, ◌==◌, List, [], ◌∷◌, length, take, Option, Some, None, slice_get, arith, refl, sym, ap, subst, ◌∙◌}
use Rattle.std.proofs.lemmas.Bool.{cases_lt, cases_eq, cond-true, cond-false, lt-ltb, le-ltb, eq-eqb, ne_eqb}
use Rattle.std.proofs.lemmas.Option.{same_Some}
use Rattle.pf_paxos.specs.Registers.{Turn}
use Rattle.pf_paxos.specs.Runs.{idle_turn}
use Rattle.pf_paxos.specs.Parts.{part_at}
use Rattle.pf_paxos.specs.Ballots.{BallotIs, next_at_anchor}
use Rattle.pf_paxos.specs.Quorums.{AnchorTurn, turn_on, turns_on}
use Rattle.pf_paxos.specs.declared.parts.AnchorAsk.{AnchorAsk}
use Rattle.pf_paxos.specs.declared.parts.AnchorAsk.TheVariants.{Nothing, OwnBlock, Half}
use Rattle.pf_paxos.specs.declared.parts.AnchorNext.{AnchorNext}
use Rattle.pf_paxos.specs.declared.parts.AnchorNext.TheVariants.{Write, Read, Idle}
use Rattle.pf_paxos.specs.BallotRuns.{BallotCall, Starts, At, Act, Asks, IsWritten, GetsRead, turn_asking, move_at, BallotEvent, Calls, Otherwise, Move, move_in, Mounts, ballots_opening, ballot_move, ballot_put, ballots_after, run_ballots, no_turn, turn_of_move, ballot_turn, history_from, anchor_history}

pub run_next : (ps : Mounts) (t : ℕ) (es : List BallotEvent) (e : BallotEvent) → slice_get es t ≡ Some e → run_ballots ps (take (suc t) es) ≡ ballots_after (run_ballots ps (take t es)) e
run_next ps t [] e is = absurd (grind (arith, is))
run_next ps zero (x ∷ xs) e is = ap (ballots_after ps) (same_Some x e is)
run_next ps (suc t) (x ∷ xs) e is = run_next (ballots_after ps x) t xs e is

pub run_past : (ps : Mounts) (t : ℕ) (es : List BallotEvent) → slice_get es t ≡ None → run_ballots ps (take (suc t) es) ≡ run_ballots ps (take t es)
run_past ps zero [] is = refl
run_past ps (suc t) [] is = refl
run_past ps zero (x ∷ xs) is = absurd (grind (arith, is))
run_past ps (suc t) (x ∷ xs) is = run_past (ballots_after ps x) t xs is

pub turn_at : (a : ℕ) (ps : Mounts) (t : ℕ) (es : List BallotEvent) (e : BallotEvent) → slice_get es t ≡ Some e → slice_get (turns_on a (history_from ps es)) t ≡ Some (turn_on a (ballot_turn (run_ballots ps (take t es)) e))
turn_at a ps t [] e is = absurd (grind (arith, is))
turn_at a ps zero (x ∷ xs) e is = ap (λ y. Some (turn_on a (ballot_turn ps y))) (same_Some x e is)
turn_at a ps (suc t) (x ∷ xs) e is = turn_at a (ballots_after ps x) t xs e is

pub turn_past : (a : ℕ) (ps : Mounts) (t : ℕ) (es : List BallotEvent) → slice_get es t ≡ None → slice_get (turns_on a (history_from ps es)) t ≡ None
turn_past a ps t [] is = refl
turn_past a ps zero (x ∷ xs) is = absurd (grind (arith, is))
turn_past a ps (suc t) (x ∷ xs) is = turn_past a (ballots_after ps x) t xs is

-- a history over so many anchors, of which a ballot needs so many
pub record Run : Type 0 where
  pub anchors : ℕ
  pub quorum : ℕ
  pub events : List BallotEvent

-- what was answered and asked in it
abbrev pub past : Run → List AnchorTurn
past es = anchor_history es.anchors es.quorum es.events

abbrev opens : Run → Mounts
opens es = ballots_opening es.anchors es.quorum

-- what the mounts have before a moment
abbrev pub before : Run → (moment : ℕ) → Mounts
before es t = run_ballots (opens es) (take t es.events)

abbrev pub state : Run → (mount moment : ℕ) → BallotIs
state es m t = before es t m

-- the mount has no turn at this anchor at this moment
abbrev pub IsQuiet : Run → (m a t : ℕ) → Type 0
IsQuiet es m a t = (x : Turn) → slice_get (turns_on a (past es)) t ≡ Some x → x.client ≢ m

pub record Stays (es : Run) (m t : ℕ) : Type 0 where
  pub same : state es m (suc t) ≡ state es m t
  pub quiet : (a : ℕ) → IsQuiet es m a t

pub record Moves (es : Run) (m t : ℕ) : Type 0 where
  pub call : BallotCall
  pub event : slice_get es.events t ≡ Some (Calls m call)
  pub move : Move
  pub is : move_in m (state es m t) call ≡ Some move
  pub becomes : state es m (suc t) ≡ move.ballot
  pub turn : (a : ℕ) → slice_get (turns_on a (past es)) t ≡ Some (turn_on a move.turn)

abbrev pub Changes : Run → (m t : ℕ) → Type 0
Changes es m t = Stays es m t ⊎ Moves es m t

-- a turn of no client of 0 to 15 or of another
apart_on : (a m : ℕ) (x : AnchorTurn) → m < 16 → x.turn.client ≢ m → (turn_on a x).client ≢ m
apart_on a m x is_mount apart = by (x.anchor == a)
  where
    by : (b : Bool) → (cond b x.turn idle_turn).client ≢ m
    by true = apart
    by false = λ e. absurd (omega (arith, e, is_mount))

module _ (m k : ℕ) (is_mount : m < 16) (apart : k ≢ m) where
  asks_client : (a : ℕ) (n : AnchorNext) → (turn_asking k a n).turn.client ≢ m
  asks_client a (Write b) = apart
  asks_client a (Read h) = apart
  asks_client a Idle = λ e. absurd (omega (arith, e, is_mount))

  at_client : (a : ℕ) (p : BallotIs) (act : Act) (asked : AnchorAsk) → (turn_of_move (move_at k a p act asked)).turn.client ≢ m
  at_client a p Asks asked = asks_client a (next_at_anchor p a)
  at_client a p IsWritten OwnBlock = apart
  at_client a p IsWritten (Half h) = λ e. absurd (omega (arith, e, is_mount))
  at_client a p IsWritten Nothing = λ e. absurd (omega (arith, e, is_mount))
  at_client a p (GetsRead bs) OwnBlock = λ e. absurd (omega (arith, e, is_mount))
  at_client a p (GetsRead bs) (Half h) = apart
  at_client a p (GetsRead bs) Nothing = λ e. absurd (omega (arith, e, is_mount))

  in_client : (p : BallotIs) (call : BallotCall) → (turn_of_move (move_in k p call)).turn.client ≢ m
  in_client p (Starts above input) = λ e. absurd (omega (arith, e, is_mount))
  in_client p (At a act) = by (nat_lt a (length p.parts))
    where
      by : (b : Bool) → (turn_of_move (cond b (move_at k a p act (part_at p.parts a).asked) None)).turn.client ≢ m
      by true = at_client a p act (part_at p.parts a).asked
      by false = λ e. absurd (omega (arith, e, is_mount))

  of_client : (ps : Mounts) (call : BallotCall) → (turn_of_move (ballot_move ps (Calls k call))).turn.client ≢ m
  of_client ps call = by (nat_lt k 16)
    where
      by : (b : Bool) → (turn_of_move (cond b (move_in k (ps k) call) None)).turn.client ≢ m
      by true = in_client (ps k) call
      by false = λ e. absurd (omega (arith, e, is_mount))

module _ (es : Run) (m t : ℕ) (is_mount : m < 16) where
  stays_by : (e : BallotEvent) → slice_get es.events t ≡ Some e → ballots_after (before es t) e m ≡ state es m t → (ballot_turn (before es t) e).turn.client ≢ m → Stays es m t
  stays_by e at same apart = record {
    same = ap (λ ps. ps m) (run_next (opens es) t es.events e at) ∙ same;
    quiet = λ a x there. subst (λ y. y.client ≢ m) (same_Some _ _ (sym (turn_at a (opens es) t es.events e at) ∙ there)) (apart_on a m (ballot_turn (before es t) e) is_mount apart);
  }

  stays_past : slice_get es.events t ≡ None → Stays es m t
  stays_past past = record {
    same = ap (λ ps. ps m) (run_past (opens es) t es.events past);
    quiet = λ a x there. absurd (grind (arith, sym (turn_past a (opens es) t es.events past) ∙ there));
  }

  otherwise : (turn : AnchorTurn) → slice_get es.events t ≡ Some (Otherwise turn) → Stays es m t
  otherwise turn at = stays_by (Otherwise turn) at refl (apart (cases_lt turn.turn.client 16))
    where
      apart : (turn.turn.client < 16) ⊎ (16 ≤ turn.turn.client) → (ballot_turn (before es t) (Otherwise turn)).turn.client ≢ m
      apart (inl low) e = absurd (omega (arith, sym e ∙ ap (λ (x : AnchorTurn). x.turn.client) (cond-true (nat_lt turn.turn.client 16) no_turn turn (lt-ltb turn.turn.client 16 low)), is_mount))
      apart (inr high) e = absurd (omega (arith, sym e ∙ ap (λ (x : AnchorTurn). x.turn.client) (cond-false (nat_lt turn.turn.client 16) no_turn turn (le-ltb turn.turn.client 16 high)), is_mount, high))

  -- each turn of a move is the mount's or nobody's
  called : (k : ℕ) (call : BallotCall) → slice_get es.events t ≡ Some (Calls k call) → (o : Option Move) → ballot_move (before es t) (Calls k call) ≡ o → (k ≡ m → o ≡ move_in m (state es m t) call) → (k ≢ m → (turn_of_move o).turn.client ≢ m) → (k ≡ m) ⊎ (k ≢ m) → Changes es m t
  called k call at None is own other which =
      inl (stays_by (Calls k call) at (ap (λ o. ballot_put (before es t) k o m) is)
      (λ e. absurd (omega (arith, is_mount, sym e ∙ ap (λ o. (turn_of_move o).turn.client) is))))
  called k call at (Some move) is own other (inr apart) =
      inl (stays_by (Calls k call) at
      (ap (λ o. ballot_put (before es t) k o m) is ∙ cond-false (m == k) move.ballot (before es t m) (ne_eqb m k (λ e. apart (sym e))))
      (λ e. other apart (sym (ap (λ o. (turn_of_move o).turn.client) is) ∙ e)))
  called k call at (Some move) is own other (inl same) =
      inr (record {
        call = call;
        event = at ∙ ap (λ j. Some (Calls j call)) same;
        move = move;
        is = sym (own same);
        becomes = ap (λ ps. ps m) (run_next (opens es) t es.events (Calls k call) at) ∙ ap (λ o. ballot_put (before es t) k o m) is ∙ cond-true (m == k) move.ballot (before es t m) (eq-eqb m k (sym same));
        turn = λ a. turn_at a (opens es) t es.events (Calls k call) at ∙ ap (λ o. Some (turn_on a (turn_of_move o))) is;
      })

  pub changes : Changes es m t
  changes = by (slice_get es.events t) refl
    where
      by : (o : Option BallotEvent) → slice_get es.events t ≡ o → Changes es m t
      by None at = inl (stays_past at)
      by (Some (Otherwise turn)) at = inl (otherwise turn at)
      by (Some (Calls k call)) at =
          called k call at (ballot_move (before es t) (Calls k call)) refl
          (λ same. cond-true (nat_lt k 16) (move_in k (before es t k) call) None (lt-ltb k 16 (subst (λ j. j < 16) (sym same) is_mount)) ∙ ap (λ j. move_in j (before es t j) call) same)
          (λ apart. of_client m k is_mount apart (before es t) call)
          (cases_eq k m)
