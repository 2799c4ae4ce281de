-- The calls of a mover that were told are calls that its conditions allow, where it was answered in kind.
use Rattle.std.proofs.Common.{◌≡◌, ◌≢◌, ℕ, zero, suc, ◌+◌, ◌<◌, ◌≤◌, ◌==◌, Bool, true, false, cond, inl, inr, List, [], ◌∷◌, ◌++◌, Option, Some, None, slice_get, arith, refl, sym, ap, subst, ◌∙◌, append-nil}
use Rattle.std.proofs.lemmas.Bool.{cases_eq, eqb-false}
use Rattle.std.proofs.lemmas.Grind.{fold-append}
use Rattle.std.proofs.lemmas.List.{append_assoc}
use Rattle.std.proofs.lemmas.Option.{none-some, same_Some}
use Rattle.pf_base.specs.Asks.{Answers}
use Rattle.pf_base.specs.declared.asks.Ask.{Ask}
use Rattle.pf_base.specs.declared.asks.Ask.TheVariants as asks
use Rattle.pf_base.specs.declared.asks.Reply.{Reply}
use Rattle.pf_base.specs.declared.asks.Reply.TheVariants.{Bytes, Written}
use Rattle.pf_move.specs.declared.mover.MoverAsk.TheVariants.{Reading, Writing}
use Rattle.pf_move.specs.declared.mover.MoveNext.{MoveNext}
use Rattle.pf_move.specs.declared.mover.MoveNext.TheVariants.{Read, Switch, Write}
use Rattle.pf_move.specs.Movers.{ReplyFits, MoverIs, MoverStep, is_zero, new_mover, piece, reads_on, step}
use Rattle.pf_move.specs.Turns.{MoverTurn, Turns as AreTurns}
use Rattle.pf_world.specs.pf_world_moments.specs.Moments.{Carries, Hands, Heard, Moment, Moves as MovesTo, Writes, Acts}
use Rattle.pf_law_movers.specs.Carrying.{carried, moves_of, reply_of_heard, with_turn}
use Rattle.pf_law_movers.specs.Movers.{ask_to_carry, asked_to_carry, carried_ask}
use Rattle.pf_law_movers.proofs.Each.{AreEach, each_at}
use Rattle.pf_law_movers.proofs.Lives.{its_own, not_its_own}
use Rattle.pf_law_runs.proofs.MoverTurns.{IsStepOf, mover_of, mover_on, stepped_by}

-- Lists of calls

turns_on : (old : MoverIs) (ts : List MoverTurn) (m : MoverIs) (turn : MoverTurn) (mid : MoverIs) → AreTurns old ts m → m.done < m.pieces → ReplyFits m.asked turn.reply → step m turn.reply ≡ record { next = turn.next; mover = mid } → AreTurns old (ts ++ turn ∷ []) mid
turns_on old [] m turn mid is going fits steps =
    subst (λ (x : MoverIs). AreTurns x (turn ∷ []) mid) is (going, fits, mid, steps, refl)
turns_on old (t ∷ ts) m turn mid is going fits steps = (is.0, is.1, is.2, is.3, turns_on is.2 ts m turn mid is.4 going fits steps)

-- each list is of calls of a new mover, and the last leads to this one
abbrev AreGood : (new : MoverIs) → List (List MoverTurn) → MoverIs → Type 0
AreGood new [] m = Unit {0}
AreGood new (ts ∷ []) m = AreTurns new ts m
AreGood new (ts ∷ us ∷ more) m = ((its : MoverIs) × AreTurns new ts its) × AreGood new (us ∷ more) m

good_new : (new : MoverIs) (lists : List (List MoverTurn)) (m : MoverIs) → AreGood new lists m → AreGood new (lists ++ [] ∷ []) new
good_new new [] m good = refl
good_new new (ts ∷ []) m good = ((m, good), refl)
good_new new (ts ∷ us ∷ more) m good = (good.0, good_new new (us ∷ more) m good.1)

module _ (new m : MoverIs) (turn : MoverTurn) (mid : MoverIs) (going : m.done < m.pieces) (fits : ReplyFits m.asked turn.reply) (steps : step m turn.reply ≡ record { next = turn.next; mover = mid }) where
  good_turn : (lists : List (List MoverTurn)) → AreGood new lists m → AreGood new (with_turn lists turn) mid
  good_turn [] good = tt
  good_turn (ts ∷ []) good = turns_on new ts m turn mid good going fits steps
  good_turn (ts ∷ us ∷ []) good = (good.0, turns_on new us m turn mid good.1 going fits steps)
  good_turn (ts ∷ us ∷ vs ∷ more) good = (good.0, good_turn (us ∷ vs ∷ more) good.1)

good_at : (new : MoverIs) (lists : List (List MoverTurn)) (m : MoverIs) → AreGood new lists m → (k : ℕ) (ts : List MoverTurn) → slice_get lists k ≡ Some ts → (its : MoverIs) × AreTurns new ts its
good_at new [] m good k ts at = absurd (none-some ts at)
good_at new (us ∷ []) m good zero ts at = (m, subst (λ x. AreTurns new x m) (same_Some us ts at) good)
good_at new (us ∷ []) m good (suc k) ts at = absurd (none-some ts at)
good_at new (us ∷ vs ∷ more) m good zero ts at = (good.0.0, subst (λ x. AreTurns new x good.0.0) (same_Some us ts at) good.0.1)
good_at new (us ∷ vs ∷ more) m good (suc k) ts at = good_at new (vs ∷ more) m good.1 k ts at

-- What the mover waits for

abbrev IsWaiting : MoverIs → Option Ask → Type 0
IsWaiting m None = Unit {0}
IsWaiting m (Some (asks.Read c span)) = (m.asked ≡ Some Reading) × (span.count ≡ 8) × (m.done < m.pieces)
IsWaiting m (Some (asks.Write c span sectors)) = (m.asked ≡ Some Writing) × (m.done < m.pieces)

abbrev Waits : (chunk : ℕ) → MoverStep → Type 0
Waits chunk s = IsWaiting s.mover (ask_to_carry chunk s.next)

reads_wait : (chunk : ℕ) (m : MoverIs) → m.done ≤ m.pieces → Waits chunk (reads_on m)
reads_wait chunk m le = by (m.done == m.pieces) refl
  where
    by : (b : Bool) → (m.done == m.pieces) ≡ b → Waits chunk (cond b (record { next = Switch; mover = record m { asked = None } }) (record { next = Read (piece m.done); mover = record m { asked = Some Reading } }))
    by true same = tt
    by false other = (refl, refl, let apart = eqb-false m.done m.pieces other in below apart)
      where
        below : m.done ≢ m.pieces → m.done < m.pieces
        below apart = omega (arith, le, apart)

step_waits : (chunk : ℕ) (m : MoverIs) (reply : Option Reply) → m.done < m.pieces → Waits chunk (step m reply)
step_waits chunk m None going = reads_wait chunk m (omega (arith, going))
step_waits chunk m (Some Written) going = reads_wait chunk (record m { done = m.done + 1 }) (omega (arith, going))
step_waits chunk m (Some (Bytes sectors)) going = by (is_zero sectors)
  where
    by : (b : Bool) → Waits chunk (cond b (reads_on (record m { done = m.done + 1 })) (record { next = Write (piece m.done) sectors; mover = record m { asked = Some Writing } }))
    by true = reads_wait chunk (record m { done = m.done + 1 }) (omega (arith, going))
    by false = (refl, going)

-- a reply in kind fits
in_kind_fits : (m : MoverIs) (ask : Ask) (reply : Reply) → IsWaiting m (Some ask) → Answers ask reply → (m.done < m.pieces) × ReplyFits m.asked (Some reply)
in_kind_fits m (asks.Read c span) (Bytes sectors) waits answers = (waits.2, subst (λ a. ReplyFits a (Some (Bytes sectors))) (sym waits.0) (answers ∙ waits.1))
in_kind_fits m (asks.Read c span) Written waits answers = absurd answers
in_kind_fits m (asks.Write c span sectors) Written waits answers = (waits.1, subst (λ a. ReplyFits a (Some Written)) (sym waits.0) tt)
in_kind_fits m (asks.Write c span sectors) (Bytes bytes) waits answers = absurd answers

-- What was told

module _ (pieces : ℕ) (some : 0 < pieces) (told : List Moment) (each : AreEach (IsStepOf pieces) told)
    (back : (before after : List Moment) (chunk : ℕ) (heard : Heard) (next : MoveNext) → told ≡ before ++ Carries chunk (Some heard) next ∷ after → (ask : Ask) × (carried_ask before chunk ≡ Some ask) × Answers ask heard.reply) (chunk : ℕ) where
  abbrev new : MoverIs
  new = new_mover chunk pieces

  -- after so much
  record IsWell (before : List Moment) : Type 0 where
    good : AreGood new (moves_of before chunk) (mover_of pieces before chunk)
    waits : IsWaiting (mover_of pieces before chunk) (carried_ask before chunk)

  moves_more : (before : List Moment) (y : Moment) → moves_of (before ++ y ∷ []) chunk ≡ carried chunk (moves_of before chunk) y
  moves_more before y = fold-append (carried chunk) [] before (y ∷ [])

  asked_more : (before : List Moment) (y : Moment) → carried_ask (before ++ y ∷ []) chunk ≡ asked_to_carry chunk (carried_ask before chunk) y
  asked_more before y = fold-append (asked_to_carry chunk) None before (y ∷ [])

  well_on : (before : List Moment) (y : Moment) → AreGood new (carried chunk (moves_of before chunk) y) (stepped_by pieces chunk (mover_of pieces before chunk) y) → IsWaiting (stepped_by pieces chunk (mover_of pieces before chunk) y) (asked_to_carry chunk (carried_ask before chunk) y)
      → IsWell (before ++ y ∷ [])
  well_on before y good waits = record {
    good = subst (λ ls. AreGood new ls (mover_of pieces (before ++ y ∷ []) chunk)) (sym (moves_more before y)) (subst (AreGood new (carried chunk (moves_of before chunk) y)) (sym (mover_on pieces before (y ∷ []) chunk)) good);
    waits = subst (IsWaiting (mover_of pieces (before ++ y ∷ []) chunk)) (sym (asked_more before y)) (subst (λ m. IsWaiting m (asked_to_carry chunk (carried_ask before chunk) y)) (sym (mover_on pieces before (y ∷ []) chunk)) waits);
  }

  -- nothing of this chunk
  passes : (before : List Moment) (y : Moment) → carried chunk (moves_of before chunk) y ≡ moves_of before chunk → stepped_by pieces chunk (mover_of pieces before chunk) y ≡ mover_of pieces before chunk → asked_to_carry chunk (carried_ask before chunk) y ≡ carried_ask before chunk
      → IsWell before → IsWell (before ++ y ∷ [])
  passes before y lists mover ask well =
      well_on before y (subst (λ ls. AreGood new ls (stepped_by pieces chunk (mover_of pieces before chunk) y)) (sym lists) (subst (AreGood new (moves_of before chunk)) (sym mover) well.good))
      (subst (IsWaiting (stepped_by pieces chunk (mover_of pieces before chunk) y)) (sym ask) (subst (λ m. IsWaiting m (carried_ask before chunk)) (sym mover) well.waits))

  -- a call of its mover
  called : (before : List Moment) (heard : Option Heard) (next : MoveNext) → let m = mover_of pieces before chunk in m.done < m.pieces → ReplyFits m.asked (reply_of_heard heard) → next ≡ (step m (reply_of_heard heard)).next → IsWell before → IsWell (before ++ Carries chunk heard next ∷ [])
  called before heard next going fits is well =
      let m = mover_of pieces before chunk in
      let s : MoverStep = step m (reply_of_heard heard) in
      let y : Moment = Carries chunk heard next in
      let turn : MoverTurn = record { reply = reply_of_heard heard; next = next } in
      let steps : s ≡ record { next = next; mover = s.mover } = ap (λ x. let z : MoverStep = record { next = x; mover = s.mover } in z) (sym is) in
      let mover : stepped_by pieces chunk m y ≡ s.mover = its_own chunk chunk s.mover m refl in
      let lists : carried chunk (moves_of before chunk) y ≡ with_turn (moves_of before chunk) turn = its_own chunk chunk (with_turn (moves_of before chunk) turn) (moves_of before chunk) refl in
      let asked : asked_to_carry chunk (carried_ask before chunk) y ≡ ask_to_carry chunk s.next = its_own chunk chunk (ask_to_carry chunk next) (carried_ask before chunk) refl ∙ ap (ask_to_carry chunk) is in
      well_on before y
      (subst (λ ls. AreGood new ls (stepped_by pieces chunk m y)) (sym lists) (subst (AreGood new (with_turn (moves_of before chunk) turn)) (sym mover) (good_turn new m turn s.mover going fits steps (moves_of before chunk) well.good)))
      (subst (IsWaiting (stepped_by pieces chunk m y)) (sym asked) (subst (λ x. IsWaiting x (ask_to_carry chunk s.next)) (sym mover) (step_waits chunk m (reply_of_heard heard) going)))

  one_more : (before after : List Moment) (y : Moment) → told ≡ before ++ y ∷ after → IsStepOf pieces before y → IsWell before → IsWell (before ++ y ∷ [])
  one_more before after (MovesTo c to) same so well = elim (cases_eq c chunk) [
    | inl own ↦
        well_on before (MovesTo c to)
        (subst (λ ls. AreGood new ls (stepped_by pieces chunk (mover_of pieces before chunk) (MovesTo c to))) (sym (its_own c chunk (moves_of before chunk ++ [] ∷ []) (moves_of before chunk) own))
        (subst (AreGood new (moves_of before chunk ++ [] ∷ [])) (sym (its_own c chunk new (mover_of pieces before chunk) own)) (good_new new (moves_of before chunk) (mover_of pieces before chunk) well.good)))
        (subst (IsWaiting (stepped_by pieces chunk (mover_of pieces before chunk) (MovesTo c to))) (sym (its_own c chunk None (carried_ask before chunk) own)) tt)
    | inr other ↦
        passes before (MovesTo c to) (not_its_own c chunk (moves_of before chunk ++ [] ∷ []) (moves_of before chunk) other) (not_its_own c chunk new (mover_of pieces before chunk) other) (not_its_own c chunk None (carried_ask before chunk) other) well
  ]
  one_more before after (Carries c heard next) same so well = elim (cases_eq c chunk) [
    | inl own ↦
        subst (λ i. IsWell (before ++ Carries i heard next ∷ [])) (sym own)
        (own_call heard (subst (λ i. told ≡ before ++ Carries i heard next ∷ after) own same) (subst (λ i. IsStepOf pieces before (Carries i heard next)) own so))
    | inr other ↦
        let m = mover_of pieces before chunk in
        passes before (Carries c heard next) (not_its_own c chunk (with_turn (moves_of before chunk) (record { reply = reply_of_heard heard; next = next })) (moves_of before chunk) other)
        (not_its_own c chunk (step m (reply_of_heard heard)).mover m other) (not_its_own c chunk (ask_to_carry chunk next) (carried_ask before chunk) other) well
  ]
    where
      own_call : (heard : Option Heard) → told ≡ before ++ Carries chunk heard next ∷ after → IsStepOf pieces before (Carries chunk heard next) → IsWell (before ++ Carries chunk heard next ∷ [])
      own_call None is steps =
          let first = steps.0 in
          let fresh : mover_of pieces before chunk ≡ new =
          ap (λ (x : List Moment). mover_of pieces x chunk) first.is ∙ mover_on pieces first.earlier (MovesTo chunk first.to ∷ []) chunk ∙ its_own chunk chunk new (mover_of pieces first.earlier chunk) refl in
          called before None next (subst (λ (m : MoverIs). m.done < m.pieces) (sym fresh) some) (subst (λ (m : MoverIs). ReplyFits m.asked None) (sym fresh) tt) steps.1 well
      own_call (Some heard) is steps =
          let b = back before after chunk heard next is in
          let f = in_kind_fits (mover_of pieces before chunk) b.0 heard.reply (subst (IsWaiting (mover_of pieces before chunk)) b.1 well.waits) b.2 in
          called before (Some heard) next f.0 f.1 steps well
  one_more before after (Writes text) same so well = passes before (Writes text) refl refl refl well
  one_more before after (Acts who act) same so well = passes before (Acts who act) refl refl refl well
  one_more before after (Hands m k place) same so well = passes before (Hands m k place) refl refl refl well

  from_here : (before rest : List Moment) → told ≡ before ++ rest → IsWell before → IsWell (before ++ rest)
  from_here before [] same well = subst IsWell (sym (append-nil before)) well
  from_here before (y ∷ rest) same well =
      subst IsWell (append_assoc before (y ∷ []) rest)
      (from_here (before ++ y ∷ []) rest (same ∙ sym (append_assoc before (y ∷ []) rest)) (one_more before rest y same (each_at (IsStepOf pieces) told before y rest each same) well))

  -- the calls of each move follow each other
  pub calls_follow : (epoch : ℕ) (turns : List MoverTurn) → slice_get (moves_of told chunk) epoch ≡ Some turns → (mover : MoverIs) × AreTurns new turns mover
  calls_follow epoch turns at = let well = from_here [] told refl (record { good = tt; waits = tt }) in good_at new (moves_of told chunk) (mover_of pieces told chunk) well.good epoch turns at
