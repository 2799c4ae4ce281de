-- The calls of a mover: what it waits for after each, and the moments that tell them.
use Rattle.std.proofs.Common.{◌≡◌, ℕ, zero, suc, ◌+◌, ◌<◌, inl, inr, ◌==◌, ◌||◌, Bool, true, false, cond, if◌then◌else◌, List, [], ◌∷◌, ◌++◌, length, take, Option, Some, None, slice_get, arith, refl, sym, ap, subst, ◌∙◌, length-append, append-nil}
use Rattle.std.specs.List.{fold}
use Rattle.std.proofs.lemmas.Bool.{cases_eq, cases_lt, eq-eqb, eqb-true, false≢true, ne_eqb}
use Rattle.std.proofs.lemmas.Grind.{fold-append}
use Rattle.std.proofs.lemmas.List.{append_assoc, take-append-le}
use Rattle.std.proofs.lemmas.Option.{none-some, same_Some}
use Rattle.std.proofs.Math.Seq.{take-append_seam}
use Rattle.pf_base.specs.declared.asks.Ask.{Ask}
use Rattle.pf_base.specs.declared.asks.Ask.TheVariants as asks
use Rattle.pf_base.specs.declared.asks.Reply.{Reply}
use Rattle.pf_base.specs.declared.asks.Reply.TheVariants.{Written, Bytes}
use Rattle.pf_entry.proofs.Cases.{by_test}
use Rattle.pf_move.specs.declared.mover.MoverAsk.{MoverAsk}
use Rattle.pf_move.specs.declared.mover.MoverAsk.TheVariants.{Reading, Writing}
use Rattle.pf_move.specs.declared.mover.MoveNext.{MoveNext}
use Rattle.pf_move.specs.declared.mover.MoveNext.TheVariants.{Read, Write, Switch}
use Rattle.pf_move.specs.Movers.{ReplyFits, MoverIs, MoverStep, is_zero, new_mover, piece, reads_on, step}
use Rattle.pf_move.specs.Turns.{Copy, MoverTurn, Turns as AreTurns, answers, answers_in, pieces_given, given_by, is_switch, is_switched, pieces_written, copies_after}
use Rattle.pf_law_movers.specs.pf_world_moments.specs.Moments.{Carries, Hands, Heard, Moment, Moves, Writes, Acts}
use Rattle.pf_law_movers.specs.Carrying.{carried, moves_of, reply_of_heard, with_turn}
use Rattle.pf_law_movers.specs.Epochs.{epoch_of}
use Rattle.pf_law_movers.specs.Movers.{IsOnTheMove, ask_to_carry}
use Rattle.pf_law_movers.proofs.ChunkEpochs.{AreBegun, begun_until, epoch_on}
use Rattle.pf_law_movers.proofs.Lives.{its_own, not_its_own}
use Rattle.pf_law_movers.proofs.ListPlaces.{at_seam, by_ends, get_either, get_first, only_one, some_within}
use Rattle.pf_law_movers.proofs.RunningMoves.{IsUnderWay, is_called, moves_on, under_way, wanted, wanted_last}

-- Lists of calls

pub given_both : (a b : List MoverTurn) → pieces_given (a ++ b) ≡ pieces_given a ++ pieces_given b
given_both [] b = refl
given_both (t ∷ a) b = by t.reply (given_both a b)
  where
    by : (reply : Option Reply) → pieces_given (a ++ b) ≡ pieces_given a ++ pieces_given b → given_by reply (pieces_given (a ++ b)) ≡ given_by reply (pieces_given a) ++ pieces_given b
    by None rest = rest
    by (Some Written) rest = rest
    by (Some (Bytes sectors)) rest = ap (λ all. sectors ∷ all) rest

pub written_both : (a b : List MoverTurn) → pieces_written (a ++ b) ≡ pieces_written a ++ pieces_written b
written_both [] b = refl
written_both (t ∷ a) b = by t.next (written_both a b)
  where
    by : (next : MoveNext) → pieces_written (a ++ b) ≡ pieces_written a ++ pieces_written b → copies_after next (pieces_written (a ++ b)) ≡ copies_after next (pieces_written a) ++ pieces_written b
    by (Read span) rest = rest
    by Switch rest = rest
    by (Write span sectors) rest = let copy : Copy = record { span = span; sectors = sectors } in ap (λ all. copy ∷ all) rest

pub answers_both : (a b : List MoverTurn) → answers (a ++ b) ≡ answers a + answers b
answers_both [] b = omega arith
answers_both (t ∷ a) b = let rest = answers_both a b in omega (arith, rest)

switched_last : (a : List MoverTurn) (t : MoverTurn) → is_switch t.next ≡ true → is_switched (a ++ t ∷ []) ≡ true
switched_last [] t is = ap (λ b. b || false) is
switched_last (u ∷ a) t is = ap (λ b. is_switch u.next || b) (switched_last a t is) ∙ or_true (is_switch u.next)
  where
    or_true : (b : Bool) → (b || true) ≡ true
    or_true true = refl
    or_true false = refl

-- Calls by what they brought

-- so many reads had given something before this call
pub record IsGiven (turns : List MoverTurn) (n : ℕ) (sectors : List (List ℕ)) : Type 0 where
  pub i : ℕ
  pub turn : MoverTurn
  pub at : slice_get turns i ≡ Some turn
  pub reply : turn.reply ≡ Some (Bytes sectors)
  pub count : length (pieces_given (take i turns)) ≡ n

pub is_given : (turns : List MoverTurn) (n : ℕ) (sectors : List (List ℕ)) → slice_get (pieces_given turns) n ≡ Some sectors → IsGiven turns n sectors
is_given [] n sectors at = absurd (none-some sectors at)
is_given (t ∷ turns) n sectors at = by t.reply refl n at (is_given turns)
  where
    passed : (n : ℕ) → ((rest : List MoverTurn) → given_by t.reply (pieces_given rest) ≡ pieces_given rest) → IsGiven turns n sectors → IsGiven (t ∷ turns) n sectors
    passed n same g = record { i = suc g.i; turn = g.turn; at = g.at; reply = g.reply; count = ap length (same (take g.i turns)) ∙ g.count }

    by : (reply : Option Reply) → t.reply ≡ reply → (n : ℕ) → slice_get (given_by reply (pieces_given turns)) n ≡ Some sectors → ((j : ℕ) (its : List (List ℕ)) → slice_get (pieces_given turns) j ≡ Some its → IsGiven turns j its) → IsGiven (t ∷ turns) n sectors
    by None is n at later = passed n (λ rest. ap (λ r. given_by r (pieces_given rest)) is) (later n sectors at)
    by (Some Written) is n at later = passed n (λ rest. ap (λ r. given_by r (pieces_given rest)) is) (later n sectors at)
    by (Some (Bytes its)) is zero at later = record { i = 0; turn = t; at = refl; reply = is ∙ ap (λ s. Some (Bytes s)) (same_Some its sectors at); count = refl }
    by (Some (Bytes its)) is (suc n) at later =
        let g = later n sectors at in
        let more = ap (λ r. length (given_by r (pieces_given (take g.i turns)))) is in
        let counted = g.count in
        record { i = suc g.i; turn = g.turn; at = g.at; reply = g.reply; count = omega (arith, more, counted) }

-- so many writes had been answered before this call
pub record IsAnswerTo (turns : List MoverTurn) (write : ℕ) : Type 0 where
  pub i : ℕ
  pub turn : MoverTurn
  pub at : slice_get turns i ≡ Some turn
  pub reply : turn.reply ≡ Some Written
  pub count : answers (take i turns) ≡ write

pub is_answer : (turns : List MoverTurn) (write : ℕ) → write < answers turns → IsAnswerTo turns write
is_answer [] write low = absurd (omega (arith, low))
is_answer (t ∷ turns) write low = by t.reply refl write low (is_answer turns)
  where
    passed : (n : ℕ) → answers_in t.reply ≡ 0 → IsAnswerTo turns n → IsAnswerTo (t ∷ turns) n
    passed n none a = let counted = a.count in record { i = suc a.i; turn = a.turn; at = a.at; reply = a.reply; count = omega (arith, none, counted) }

    by : (reply : Option Reply) → t.reply ≡ reply → (n : ℕ) → n < answers_in reply + answers turns → ((j : ℕ) → j < answers turns → IsAnswerTo turns j) → IsAnswerTo (t ∷ turns) n
    by None is n low later = passed n (ap answers_in is) (later n (omega (arith, low)))
    by (Some (Bytes its)) is n low later = passed n (ap answers_in is) (later n (omega (arith, low)))
    by (Some Written) is zero low later = record { i = 0; turn = t; at = refl; reply = is; count = refl }
    by (Some Written) is (suc n) low later =
        let a = later n (omega (arith, low)) in
        let one = ap answers_in is in
        let counted = a.count in
        record { i = suc a.i; turn = a.turn; at = a.at; reply = a.reply; count = omega (arith, one, counted) }

-- What a mover waits for

abbrev pub extra : Option MoverAsk → ℕ
extra (Some Writing) = 1
extra asked = 0

abbrev pub IsWanting : (chunk done : ℕ) → Option MoverAsk → Option Ask → Type 0
IsWanting chunk done None ask = Unit {0}
IsWanting chunk done (Some Reading) ask = ask ≡ Some (asks.Read chunk (piece done))
IsWanting chunk done (Some Writing) ask = (sectors : List (List ℕ)) × (ask ≡ Some (asks.Write chunk (piece done) sectors))

pub record IsAfter (chunk pieces : ℕ) (turns : List MoverTurn) (m : MoverIs) : Type 0 where
  pub pieces_are : m.pieces ≡ pieces
  pub switch : is_switched turns ≡ true → (m.done ≡ pieces) × (m.asked ≡ None)
  pub gave : length (pieces_given turns) ≡ m.done + extra m.asked
  pub wrote : length (pieces_written turns) ≡ answers turns + extra m.asked
  pub wants : IsWanting chunk m.done m.asked (wanted chunk turns)

record IsSplit (ts : List MoverTurn) (t : MoverTurn) (old new : MoverIs) : Type 0 where
  mid : MoverIs
  before : AreTurns old ts mid
  going : mid.done < mid.pieces
  fits : ReplyFits mid.asked t.reply
  steps : step mid t.reply ≡ record { next = t.next; mover = new }

split : (ts : List MoverTurn) (t : MoverTurn) (old new : MoverIs) → AreTurns old (ts ++ t ∷ []) new → IsSplit ts t old new
split [] t old new are = record { mid = old; before = refl; going = are.0; fits = are.1; steps = are.3 ∙ ap (λ (m : MoverIs). let s : MoverStep = record { next = t.next; mover = m } in s) (sym are.4) }
split (u ∷ ts) t old new are =
    let rest = split ts t are.2 new are.4 in
    record { mid = rest.mid; before = (are.0, are.1, are.2, are.3, rest.before); going = rest.going; fits = rest.fits; steps = rest.steps }

module _ (chunk pieces : ℕ) (ts : List MoverTurn) (none : is_switched ts ≡ true → ⊥) where
  abbrev with_reply : Option Reply → MoveNext → List MoverTurn
  with_reply reply next = ts ++ record { reply = reply; next = next } ∷ []

  gave_more : (reply : Option Reply) (next : MoveNext) → length (pieces_given (with_reply reply next)) ≡ length (pieces_given ts) + length (given_by reply [])
  gave_more reply next = ap length (given_both ts (record { reply = reply; next = next } ∷ [])) ∙ length-append (pieces_given ts) (given_by reply [])

  wrote_more : (reply : Option Reply) (next : MoveNext) → length (pieces_written (with_reply reply next)) ≡ length (pieces_written ts) + length (copies_after next [])
  wrote_more reply next = ap length (written_both ts (record { reply = reply; next = next } ∷ [])) ∙ length-append (pieces_written ts) (copies_after next [])

  answered_more : (reply : Option Reply) (next : MoveNext) → answers (with_reply reply next) ≡ answers ts + answers_in reply
  answered_more reply next = let both = answers_both ts (record { reply = reply; next = next } ∷ []) in omega (arith, both)

  not_yet : (reply : Option Reply) (next : MoveNext) → is_switch next ≡ false → is_switched (with_reply reply next) ≡ true → ⊥
  not_yet reply next is switched = none (before ts switched)
    where
      before : (list : List MoverTurn) → is_switched (list ++ record { reply = reply; next = next } ∷ []) ≡ true → is_switched list ≡ true
      before [] all = absurd (false≢true (sym (ap (λ b. b || false) is) ∙ all))
      before (t ∷ list) all = by (is_switch t.next) (before list) all
        where
          by : (c : Bool) → (is_switched (list ++ record { reply = reply; next = next } ∷ []) ≡ true → is_switched list ≡ true) → (c || is_switched (list ++ record { reply = reply; next = next } ∷ [])) ≡ true → (c || is_switched list) ≡ true
          by true later _ = refl
          by false later rest = later rest

  -- it reads on, where all that was asked was answered
  reads_after : (reply : Option Reply) (m : MoverIs) → m.pieces ≡ pieces → length (pieces_given ts) + length (given_by reply []) ≡ m.done → length (pieces_written ts) ≡ answers ts + answers_in reply → IsAfter chunk pieces (with_reply reply (reads_on m).next) (reads_on m).mover
  reads_after reply m pieces_are gave wrote =
      let switches : MoverStep = record { next = Switch; mover = record m { asked = None } } in
      let reads : MoverStep = record { next = Read (piece m.done); mover = record m { asked = Some Reading } } in
      by_test (m.done == m.pieces) (λ b. IsAfter chunk pieces (with_reply reply (cond b switches reads).next) (cond b switches reads).mover)
      (λ all. let more = gave_more reply Switch in let more_written = wrote_more reply Switch in let more_answers = answered_more reply Switch in
      record { pieces_are = pieces_are; switch = λ _. (eqb-true m.done m.pieces all ∙ pieces_are, refl); gave = omega (arith, more, gave); wrote = omega (arith, more_written, more_answers, wrote); wants = tt })
      (λ _. let next : MoveNext = Read (piece m.done) in
      let more = gave_more reply next in let more_written = wrote_more reply next in let more_answers = answered_more reply next in
      record { pieces_are = pieces_are; switch = λ is. absurd (not_yet reply next refl is); gave = omega (arith, more, gave); wrote = omega (arith, more_written, more_answers, wrote); wants = wanted_last chunk ts (record { reply = reply; next = next }) })

  was_read : (m : MoverIs) (sectors : List (List ℕ)) → m.pieces ≡ pieces → length (pieces_given ts) ≡ m.done → length (pieces_written ts) ≡ answers ts → IsAfter chunk pieces (with_reply (Some (Bytes sectors)) (step m (Some (Bytes sectors))).next) (step m (Some (Bytes sectors))).mover
  was_read m sectors pieces_are gave wrote =
      let reply : Option Reply = Some (Bytes sectors) in
      let on : MoverStep = reads_on (record m { done = m.done + 1 }) in
      let writes : MoverStep = record { next = Write (piece m.done) sectors; mover = record m { asked = Some Writing } } in
      by_test (is_zero sectors) (λ b. IsAfter chunk pieces (with_reply reply (cond b on writes).next) (cond b on writes).mover)
      (λ _. reads_after reply (record m { done = m.done + 1 }) pieces_are (omega (arith, gave)) (omega (arith, wrote)))
      (λ _. let next : MoveNext = Write (piece m.done) sectors in
      let more = gave_more reply next in let more_written = wrote_more reply next in let more_answers = answered_more reply next in
      record { pieces_are = pieces_are; switch = λ is. absurd (not_yet reply next refl is); gave = omega (arith, more, gave); wrote = omega (arith, more_written, more_answers, wrote); wants = (sectors, wanted_last chunk ts (record { reply = reply; next = next })) })

  stepped : (asked : Option MoverAsk) (m : MoverIs) (reply : Option Reply) → m.pieces ≡ pieces → ReplyFits asked reply → length (pieces_given ts) ≡ m.done + extra asked → length (pieces_written ts) ≡ answers ts + extra asked
      → IsAfter chunk pieces (with_reply reply (step m reply).next) (step m reply).mover
  stepped None m None pieces_are fits gave wrote = reads_after None m pieces_are (omega (arith, gave)) (omega (arith, wrote))
  stepped (Some Reading) m (Some (Bytes sectors)) pieces_are fits gave wrote = was_read m sectors pieces_are (omega (arith, gave)) (omega (arith, wrote))
  stepped (Some Writing) m (Some Written) pieces_are fits gave wrote = reads_after (Some Written) (record m { done = m.done + 1 }) pieces_are (omega (arith, gave)) (omega (arith, wrote))
  stepped None m (Some reply) pieces_are fits gave wrote = absurd fits
  stepped (Some Reading) m None pieces_are fits gave wrote = absurd fits
  stepped (Some Reading) m (Some Written) pieces_are fits gave wrote = absurd fits
  stepped (Some Writing) m None pieces_are fits gave wrote = absurd fits
  stepped (Some Writing) m (Some (Bytes sectors)) pieces_are fits gave wrote = absurd fits

pub is_after : (chunk pieces : ℕ) (turns : List MoverTurn) (m : MoverIs) → AreTurns (new_mover chunk pieces) turns m → IsAfter chunk pieces turns m
is_after chunk pieces turns = by_ends (λ (ts : List MoverTurn). (m : MoverIs) → AreTurns (new_mover chunk pieces) ts m → IsAfter chunk pieces ts m)
    (λ m are. subst (IsAfter chunk pieces []) (sym are) (record { pieces_are = refl; switch = λ is. absurd (false≢true is); gave = refl; wrote = refl; wants = tt }))
    (λ ts t so_far m are.
    let s = split ts t (new_mover chunk pieces) m are in
    let before = so_far s.mid s.before in
    let pieces_are = before.pieces_are in
    let going = s.going in
    let after = stepped chunk pieces ts (λ is. let all = (before.switch is).0 in absurd (omega (arith, all, going, pieces_are))) s.mid.asked s.mid t.reply pieces_are s.fits before.gave before.wrote in
    subst (λ (x : MoverStep). IsAfter chunk pieces (ts ++ record { reply = t.reply; next = x.next } ∷ []) x.mover) s.steps after)
    turns

-- what comes before a call
pub turns_before : (turns rest : List MoverTurn) (old new : MoverIs) → AreTurns old (turns ++ rest) new → (mid : MoverIs) × AreTurns old turns mid
turns_before [] rest old new are = (old, refl)
turns_before (t ∷ turns) rest old new are = let more = turns_before turns rest are.2 new are.4 in (more.0, (are.0, are.1, are.2, are.3, more.1))

-- what a reply of the mover's answers
pub record Answered (chunk pieces : ℕ) (ts : List MoverTurn) (reply : Option Reply) : Type 0 where
  pub mid : MoverIs
  pub after : IsAfter chunk pieces ts mid
  pub fits : ReplyFits mid.asked reply

pub answered_at : (chunk pieces : ℕ) (ts : List MoverTurn) (t : MoverTurn) (rest : List MoverTurn) (m : MoverIs) → AreTurns (new_mover chunk pieces) (ts ++ t ∷ rest) m → Answered chunk pieces ts t.reply
answered_at chunk pieces ts t rest m are =
    let part = turns_before (ts ++ t ∷ []) rest (new_mover chunk pieces) m (subst (λ all. AreTurns (new_mover chunk pieces) all m) (sym (append_assoc ts (t ∷ []) rest)) are) in
    let s = split ts t (new_mover chunk pieces) part.0 part.1 in
    record { mid = s.mid; after = is_after chunk pieces ts s.mid s.before; fits = s.fits }

-- bytes are of the next piece
pub bytes_of : (chunk pieces : ℕ) (ts : List MoverTurn) (sectors : List (List ℕ)) → Answered chunk pieces ts (Some (Bytes sectors)) → wanted chunk ts ≡ Some (asks.Read chunk (piece (length (pieces_given ts))))
bytes_of chunk pieces ts sectors a = by a.mid.asked a.fits a.after.gave a.after.wants
  where
    by : (asked : Option MoverAsk) → ReplyFits asked (Some (Bytes sectors)) → length (pieces_given ts) ≡ a.mid.done + extra asked → IsWanting chunk a.mid.done asked (wanted chunk ts) → wanted chunk ts ≡ Some (asks.Read chunk (piece (length (pieces_given ts))))
    by None fits gave wants = absurd fits
    by (Some Writing) fits gave wants = absurd fits
    by (Some Reading) fits gave wants = wants ∙ ap (λ n. Some (asks.Read chunk (piece n))) (let same : a.mid.done ≡ length (pieces_given ts) = omega (arith, gave) in same)

-- an answer to a write is to the last that was asked
pub record IsLastWrite (chunk : ℕ) (ts : List MoverTurn) : Type 0 where
  pub copy : Copy
  pub wants : wanted chunk ts ≡ Some (asks.Write chunk copy.span copy.sectors)
  pub count : length (pieces_written ts) ≡ answers ts + 1

pub written_of : (chunk pieces : ℕ) (ts : List MoverTurn) → Answered chunk pieces ts (Some Written) → IsLastWrite chunk ts
written_of chunk pieces ts a = by a.mid.asked a.fits a.after.wrote a.after.wants
  where
    by : (asked : Option MoverAsk) → ReplyFits asked (Some Written) → length (pieces_written ts) ≡ answers ts + extra asked → IsWanting chunk a.mid.done asked (wanted chunk ts) → IsLastWrite chunk ts
    by None fits wrote wants = absurd fits
    by (Some Reading) fits wrote wants = absurd fits
    by (Some Writing) fits wrote wants = record { copy = record { span = piece a.mid.done; sectors = wants.0 }; wants = wants.1; count = wrote }

-- what a mover wants last that writes was asked in the last call
pub record IsAskedLast (turns : List MoverTurn) (next : MoveNext) : Type 0 where
  pub first : List MoverTurn
  pub reply : Option Reply
  pub whole : turns ≡ first ++ record { reply = reply; next = next } ∷ []

carries_write : (chunk its : ℕ) (next : MoveNext) (copy : Copy) → ask_to_carry chunk next ≡ Some (asks.Write its copy.span copy.sectors) → next ≡ Write copy.span copy.sectors
carries_write chunk its (Write span sectors) copy is =
    let same : asks.Write chunk span sectors ≡ asks.Write its copy.span copy.sectors = same_Some _ _ is in
    let spans : span ≡ copy.span = cc in
    let bytes : sectors ≡ copy.sectors = cc in ap (λ s. Write s sectors) spans ∙ ap (Write copy.span) bytes
carries_write chunk its (Read span) copy is = absurd (let same : asks.Read chunk span ≡ asks.Write its copy.span copy.sectors = same_Some _ _ is in cc)
carries_write chunk its Switch copy is = absurd (none-some _ is)

pub last_asked : (chunk its : ℕ) (turns : List MoverTurn) (copy : Copy) → wanted chunk turns ≡ Some (asks.Write its copy.span copy.sectors) → IsAskedLast turns (Write copy.span copy.sectors)
last_asked chunk its [] copy is = absurd (none-some _ is)
last_asked chunk its (t ∷ []) copy is = record { first = []; reply = t.reply; whole = ap (λ n. let u : MoverTurn = record { reply = t.reply; next = n } in u ∷ []) (carries_write chunk its t.next copy is) }
last_asked chunk its (t ∷ u ∷ turns) copy is =
    let rest = last_asked chunk its (u ∷ turns) copy is in record { first = t ∷ rest.first; reply = rest.reply; whole = ap (λ ts. t ∷ ts) rest.whole }

-- The moments of calls

turn_stays : (moves : List (List MoverTurn)) (turn : MoverTurn) (e : ℕ) (turns : List MoverTurn) → slice_get moves e ≡ Some turns → (more : List MoverTurn) × (slice_get (with_turn moves turn) e ≡ Some (turns ++ more))
turn_stays [] turn e turns at = absurd (none-some turns at)
turn_stays (m ∷ []) turn zero turns at = (turn ∷ [], ap (λ l. Some (l ++ turn ∷ [])) (same_Some m turns at))
turn_stays (m ∷ []) turn (suc e) turns at = absurd (none-some turns at)
turn_stays (m ∷ n ∷ moves) turn zero turns at = ([], at ∙ ap (λ l. Some l) (sym (append-nil turns)))
turn_stays (m ∷ n ∷ moves) turn (suc e) turns at = turn_stays (n ∷ moves) turn e turns at

module _ (chunk e : ℕ) where
  moment_stays : (moves : List (List MoverTurn)) (x : Moment) (turns : List MoverTurn) → slice_get moves e ≡ Some turns → (more : List MoverTurn) × (slice_get (carried chunk moves x) e ≡ Some (turns ++ more))
  moment_stays moves (Moves c to) turns at =
      by_test (c == chunk) (λ b. (more : List MoverTurn) × (slice_get (if b then moves ++ [] ∷ [] else moves) e ≡ Some (turns ++ more)))
      (λ _. ([], get_first moves ([] ∷ []) e turns at ∙ ap (λ l. Some l) (sym (append-nil turns)))) (λ _. ([], at ∙ ap (λ l. Some l) (sym (append-nil turns))))
  moment_stays moves (Carries c heard next) turns at =
      let turn : MoverTurn = record { reply = reply_of_heard heard; next = next } in
      by_test (c == chunk) (λ b. (more : List MoverTurn) × (slice_get (if b then with_turn moves turn else moves) e ≡ Some (turns ++ more)))
      (λ _. turn_stays moves turn e turns at) (λ _. ([], at ∙ ap (λ l. Some l) (sym (append-nil turns))))
  moment_stays moves (Writes text) turns at = ([], at ∙ ap (λ l. Some l) (sym (append-nil turns)))
  moment_stays moves (Acts who act) turns at = ([], at ∙ ap (λ l. Some l) (sym (append-nil turns)))
  moment_stays moves (Hands m k place) turns at = ([], at ∙ ap (λ l. Some l) (sym (append-nil turns)))

  turns_from : (more : List Moment) (moves : List (List MoverTurn)) (turns : List MoverTurn) → slice_get moves e ≡ Some turns → (rest : List MoverTurn) × (slice_get (fold (carried chunk) moves more) e ≡ Some (turns ++ rest))
  turns_from [] moves turns at = ([], at ∙ ap (λ l. Some l) (sym (append-nil turns)))
  turns_from (x ∷ more) moves turns at =
      let here = moment_stays moves x turns at in
      let rest = turns_from more (carried chunk moves x) (turns ++ here.0) here.1 in
      (here.0 ++ rest.0, rest.1 ∙ ap (λ l. Some l) (append_assoc turns here.0 rest.0))

  pub turns_stay : (told more : List Moment) (turns : List MoverTurn) → slice_get (moves_of told chunk) e ≡ Some turns → (rest : List MoverTurn) × (slice_get (moves_of (told ++ more) chunk) e ≡ Some (turns ++ rest))
  turns_stay told more turns at =
      let rest = turns_from more (moves_of told chunk) turns at in (rest.0, ap (λ ms. slice_get ms e) (fold-append (carried chunk) [] told more) ∙ rest.1)

-- the calls that a chunk's mover has made now are the last of its moves
pub last_move : (count : ℕ) (told : List Moment) (chunk : ℕ) (goes : IsUnderWay count told chunk) → slice_get (moves_of told chunk) (epoch_of told chunk) ≡ Some goes.turns
last_move count told chunk goes = ap (λ ms. slice_get ms (epoch_of told chunk)) goes.moves ∙ at_seam goes.first [] goes.turns (epoch_of told chunk) (sym goes.ended)

switched_front : (a b : List MoverTurn) → is_switched a ≡ true → is_switched (a ++ b) ≡ true
switched_front [] b is = absurd (false≢true is)
switched_front (t ∷ a) b is = by (is_switch t.next) (switched_front a b) is
  where
    by : (c : Bool) → (is_switched a ≡ true → is_switched (a ++ b) ≡ true) → (c || is_switched a) ≡ true → (c || is_switched (a ++ b)) ≡ true
    by true later _ = refl
    by false later is_later = later is_later

module _ (count chunk : ℕ) (small : chunk < count) where
  -- the call was told by this moment, when so many had been made before
  pub record IsCallAt (told : List Moment) (e : ℕ) (ts : List MoverTurn) (t : MoverTurn) : Type 0 where
    pub moment : ℕ
    pub heard : Option Heard
    pub next : MoveNext
    pub at : slice_get told moment ≡ Some (Carries chunk heard next)
    pub is : t ≡ record { reply = reply_of_heard heard; next = next }
    pub moving : IsOnTheMove count (take moment told) chunk
    pub turns : slice_get (moves_of (take moment told) chunk) e ≡ Some ts
    pub now : epoch_of (take moment told) chunk ≡ e

  call_still : (told : List Moment) (x : Moment) (e : ℕ) (ts : List MoverTurn) (t : MoverTurn) → IsCallAt told e ts t → IsCallAt (told ++ x ∷ []) e ts t
  call_still told x e ts t c =
      let low = some_within told c.moment (Carries chunk c.heard c.next) c.at in
      let part : take c.moment (told ++ x ∷ []) ≡ take c.moment told = take-append-le c.moment told (x ∷ []) (omega (arith, low)) in record {
        moment = c.moment;
        heard = c.heard;
        next = c.next;
        at = get_first told (x ∷ []) c.moment (Carries chunk c.heard c.next) c.at;
        is = c.is;
        moving = subst (λ (b : List Moment). IsOnTheMove count b chunk) (sym part) c.moving;
        turns = ap (λ (b : List Moment). slice_get (moves_of b chunk) e) part ∙ c.turns;
        now = ap (λ (b : List Moment). epoch_of b chunk) part ∙ c.now;
      }

  abbrev AreCalls : List Moment → Type 0
  AreCalls told = (e : ℕ) (turns : List MoverTurn) (i : ℕ) (t : MoverTurn) → slice_get (moves_of told chunk) e ≡ Some turns → slice_get turns i ≡ Some t → IsCallAt told e (take i turns) t

  same_calls : (told : List Moment) (x : Moment) → moves_of (told ++ x ∷ []) chunk ≡ moves_of told chunk → AreCalls told → AreCalls (told ++ x ∷ [])
  same_calls told x same so_far e turns i t at there = call_still told x e (take i turns) t (so_far e turns i t (ap (λ ms. slice_get ms e) (sym same) ∙ at) there)

  begins_calls : (told : List Moment) (to : ℕ) → AreCalls told → AreCalls (told ++ Moves chunk to ∷ [])
  begins_calls told to so_far e turns i t at there =
      let grown = moves_on told (Moves chunk to) chunk ∙ its_own chunk chunk (moves_of told chunk ++ [] ∷ []) (moves_of told chunk) refl in
      elim (get_either (moves_of told chunk) ([] ∷ []) e turns (ap (λ ms. slice_get ms e) (sym grown) ∙ at)) [
        | inl old ↦ call_still told (Moves chunk to) e (take i turns) t (so_far e turns i t old there)
        | inr new ↦ absurd (none-some t (ap (λ l. slice_get l i) (only_one [] turns new.0 new.1).0 ∙ there))
      ]

  carries_calls : (told : List Moment) (heard : Option Heard) (next : MoveNext) (goes : IsUnderWay count told chunk) → AreCalls told → AreCalls (told ++ Carries chunk heard next ∷ [])
  carries_calls told heard next goes so_far e turns i t at there =
      let x : Moment = Carries chunk heard next in
      let turn : MoverTurn = record { reply = reply_of_heard heard; next = next } in
      let called = is_called count told chunk heard next goes in
      elim (get_either goes.first ((goes.turns ++ turn ∷ []) ∷ []) e turns (ap (λ ms. slice_get ms e) (sym called.moves) ∙ at)) [
        | inl old ↦ call_still told x e (take i turns) t (so_far e turns i t (ap (λ ms. slice_get ms e) goes.moves ∙ get_first goes.first (goes.turns ∷ []) e turns old) there)
        | inr new ↦
            let is = only_one (goes.turns ++ turn ∷ []) turns new.0 new.1 in
            let zero_is = is.1 in
            let ended = goes.ended in
            let now : epoch_of told chunk ≡ e = omega (arith, new.2, zero_is, ended) in
            subst (λ l. IsCallAt (told ++ x ∷ []) e (take i l) t) is.0
            (last_list told x turn goes heard next refl refl e now (last_move count told chunk goes) so_far i t (ap (λ l. slice_get l i) is.0 ∙ there))
      ]
    where
      last_list : (told : List Moment) (x : Moment) (turn : MoverTurn) (goes : IsUnderWay count told chunk) (heard : Option Heard) (next : MoveNext) → x ≡ Carries chunk heard next → turn ≡ record { reply = reply_of_heard heard; next = next }
          → (e : ℕ) → epoch_of told chunk ≡ e → slice_get (moves_of told chunk) (epoch_of told chunk) ≡ Some goes.turns → AreCalls told → (i : ℕ) (t : MoverTurn) → slice_get (goes.turns ++ turn ∷ []) i ≡ Some t → IsCallAt (told ++ x ∷ []) e (take i (goes.turns ++ turn ∷ [])) t
      last_list told x turn goes heard next x_is turn_is e now last so_far i t there =
          let at_e : slice_get (moves_of told chunk) e ≡ Some goes.turns = ap (slice_get (moves_of told chunk)) (sym now) ∙ last in
          elim (get_either goes.turns (turn ∷ []) i t there) [
            | inl old ↦
                let low = some_within goes.turns i t old in
                subst (λ l. IsCallAt (told ++ x ∷ []) e l t) (sym (take-append-le i goes.turns (turn ∷ []) (omega (arith, low)))) (call_still told x e (take i goes.turns) t (so_far e goes.turns i t at_e old))
            | inr new ↦
                let one = only_one turn t new.0 new.1 in
                let zero_is = one.1 in
                let place : i ≡ length goes.turns = omega (arith, new.2, zero_is) in
                let front : take i (goes.turns ++ turn ∷ []) ≡ goes.turns = ap (λ n. take n (goes.turns ++ turn ∷ [])) place ∙ take-append_seam goes.turns (turn ∷ []) in
                let part : take (length told) (told ++ x ∷ []) ≡ told = take-append_seam told (x ∷ []) in
                record {
                  moment = length told;
                  heard = heard;
                  next = next;
                  at = at_seam told [] x (length told) refl ∙ ap (λ y. Some y) x_is;
                  is = sym one.0 ∙ turn_is;
                  moving = subst (λ (b : List Moment). IsOnTheMove count b chunk) (sym part) goes.moving;
                  turns = ap (λ (b : List Moment). slice_get (moves_of b chunk) e) part ∙ at_e ∙ ap (λ l. Some l) (sym front);
                  now = ap (λ (b : List Moment). epoch_of b chunk) part ∙ now;
                }
          ]

  calls_more : (told : List Moment) (x : Moment) → AreBegun count (told ++ x ∷ []) → AreCalls told → AreCalls (told ++ x ∷ [])
  calls_more told (Moves c to) begun so_far = elim (cases_eq c chunk) [
    | inl same ↦ subst (λ i. AreCalls (told ++ Moves i to ∷ [])) (sym same) (begins_calls told to so_far)
    | inr other ↦ same_calls told (Moves c to) (moves_on told (Moves c to) chunk ∙ not_its_own c chunk (moves_of told chunk ++ [] ∷ []) (moves_of told chunk) other) so_far
  ]
  calls_more told (Carries c heard next) begun so_far = elim (cases_eq c chunk) [
    | inl same ↦
        let moving = subst (IsOnTheMove count told) same (begun.carries told [] c heard next refl) in
        subst (λ i. AreCalls (told ++ Carries i heard next ∷ [])) (sym same) (carries_calls told heard next (under_way count told (begun_until count told (Carries c heard next ∷ []) begun) chunk moving) so_far)
    | inr other ↦ same_calls told (Carries c heard next) (moves_on told (Carries c heard next) chunk ∙ not_its_own c chunk (with_turn (moves_of told chunk) (record { reply = reply_of_heard heard; next = next })) (moves_of told chunk) other) so_far
  ]
  calls_more told (Writes text) begun so_far = same_calls told (Writes text) (moves_on told (Writes text) chunk) so_far
  calls_more told (Acts who act) begun so_far = same_calls told (Acts who act) (moves_on told (Acts who act) chunk) so_far
  calls_more told (Hands m k place) begun so_far = same_calls told (Hands m k place) (moves_on told (Hands m k place) chunk) so_far

  pub each_call : (told : List Moment) → AreBegun count told → AreCalls told
  each_call = by_ends (λ (all : List Moment). AreBegun count all → AreCalls all) (λ _ e turns i t at there. absurd (none-some turns at))
      (λ all x so_far begun. calls_more all x begun (so_far (begun_until count all (x ∷ []) begun)))

  -- A move that has ended was switched

  pub record IsEnded (told : List Moment) (e : ℕ) : Type 0 where
    pub turns : List MoverTurn
    pub at : slice_get (moves_of told chunk) e ≡ Some turns
    pub switched : is_switched turns ≡ true

  ended_still : (told : List Moment) (x : Moment) (e : ℕ) → IsEnded told e → IsEnded (told ++ x ∷ []) e
  ended_still told x e ended =
      let rest = turns_stay chunk e told (x ∷ []) ended.turns ended.at in record { turns = ended.turns ++ rest.0; at = rest.1; switched = switched_front ended.turns rest.0 ended.switched }

  still_ended : (told : List Moment) (x : Moment) → epoch_of (x ∷ []) chunk ≡ 0 → ((e : ℕ) → e < epoch_of told chunk → IsEnded told e) → (e : ℕ) → e < epoch_of (told ++ x ∷ []) chunk → IsEnded (told ++ x ∷ []) e
  still_ended told x none so_far e low = let on = epoch_on told (x ∷ []) chunk in ended_still told x e (so_far e (omega (arith, on, none, low)))

  switch_ended : (told : List Moment) (heard : Option Heard) (goes : IsUnderWay count told chunk) → ((e : ℕ) → e < epoch_of told chunk → IsEnded told e) → (e : ℕ) → e < epoch_of (told ++ Carries chunk heard Switch ∷ []) chunk → IsEnded (told ++ Carries chunk heard Switch ∷ []) e
  switch_ended told heard goes so_far e low =
      let x : Moment = Carries chunk heard Switch in
      let on = epoch_on told (x ∷ []) chunk in
      let one : epoch_of (x ∷ []) chunk ≡ 1 = ap (λ b. 0 + cond b 1 0) (eq-eqb chunk chunk refl) in
      elim (cases_lt e (epoch_of told chunk)) [
        | inl earlier ↦ ended_still told x e (so_far e earlier)
        | inr not_earlier ↦
            let turn : MoverTurn = record { reply = reply_of_heard heard; next = Switch } in
            let ended = goes.ended in
            let place : e ≡ length goes.first = omega (arith, not_earlier, low, on, one, ended) in
            record {
              turns = goes.turns ++ turn ∷ [];
              at = ap (λ ms. slice_get ms e) (is_called count told chunk heard Switch goes).moves ∙ at_seam goes.first [] (goes.turns ++ turn ∷ []) e place;
              switched = switched_last goes.turns turn refl;
            }
      ]

  ended_more : (told : List Moment) (x : Moment) → AreBegun count (told ++ x ∷ []) → ((e : ℕ) → e < epoch_of told chunk → IsEnded told e) → (e : ℕ) → e < epoch_of (told ++ x ∷ []) chunk → IsEnded (told ++ x ∷ []) e
  ended_more told (Carries c heard Switch) begun so_far = elim (cases_eq c chunk) [
    | inl same ↦
        let moving = subst (IsOnTheMove count told) same (begun.carries told [] c heard Switch refl) in
        subst (λ i. (e : ℕ) → e < epoch_of (told ++ Carries i heard Switch ∷ []) chunk → IsEnded (told ++ Carries i heard Switch ∷ []) e) (sym same)
        (switch_ended told heard (under_way count told (begun_until count told (Carries c heard Switch ∷ []) begun) chunk moving) so_far)
    | inr other ↦ still_ended told (Carries c heard Switch) (ap (λ b. 0 + cond b 1 0) (ne_eqb c chunk other)) so_far
  ]
  ended_more told (Carries c heard (Read span)) begun so_far = still_ended told (Carries c heard (Read span)) refl so_far
  ended_more told (Carries c heard (Write span sectors)) begun so_far = still_ended told (Carries c heard (Write span sectors)) refl so_far
  ended_more told (Moves c to) begun so_far = still_ended told (Moves c to) refl so_far
  ended_more told (Writes text) begun so_far = still_ended told (Writes text) refl so_far
  ended_more told (Acts who act) begun so_far = still_ended told (Acts who act) refl so_far
  ended_more told (Hands m k place) begun so_far = still_ended told (Hands m k place) refl so_far

  pub is_ended : (told : List Moment) → AreBegun count told → (e : ℕ) → e < epoch_of told chunk → IsEnded told e
  is_ended = by_ends (λ (all : List Moment). AreBegun count all → (e : ℕ) → e < epoch_of all chunk → IsEnded all e) (λ _ e low. absurd (omega (arith, low)))
      (λ all x so_far begun. ended_more all x begun (so_far (begun_until count all (x ∷ []) begun)))
