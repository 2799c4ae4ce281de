-- A chunk on the move: what its mover has asked so far, and its ports into the two groups.
use Rattle.std.proofs.Common.{◌≡◌, ◌≢◌, ℕ, suc, ◌+◌, ◌<◌, ◌⊎◌, inl, inr, ◌==◌, ◌&&◌, cond, if◌then◌else◌, List, [], ◌∷◌, ◌++◌, length, take, Option, Some, None, slice_get, arith, refl, sym, ap, subst, ◌∙◌, length-append, append-nil}
use Rattle.std.specs.List.{flat_map}
use Rattle.std.proofs.lemmas.Bool.{cases_eq, eq-eqb, ne_eqb}
use Rattle.std.proofs.lemmas.Grind.{fold-append}
use Rattle.std.proofs.lemmas.Option.{none-some, same_Some}
use Rattle.pf_base.specs.declared.asks.Ask.{Ask}
use Rattle.pf_base.specs.declared.asks.Ask.TheVariants as asks
use Rattle.pf_entry.proofs.Cases.{by_test}
use Rattle.pf_protocol.specs.declared.events.Happening.{Happening}
use Rattle.pf_protocol.specs.Histories.{History}
use Rattle.pf_move.specs.declared.mover.MoverAsk.{MoverAsk}
use Rattle.pf_move.specs.declared.mover.MoverAsk.TheVariants.{Reading, Writing}
use Rattle.pf_move.specs.declared.mover.MoveNext.{MoveNext}
use Rattle.pf_move.specs.declared.mover.MoveNext.TheVariants.{Read, Write, Switch}
use Rattle.pf_move.specs.Turns.{MoverTurn}
use Rattle.pf_law_movers.specs.pf_chunk.specs.Runs.{mover_port}
use Rattle.pf_law_movers.specs.pf_world_moments.specs.Moments.{Carries, Hands, Heard, Moment, Moves, Writes, Acts}
use Rattle.pf_law_movers.specs.Carrying.{carried, moves_of, reply_of_heard, with_turn}
use Rattle.pf_law_movers.specs.Epochs.{epoch_of, group_of_epoch, groups_in_turn, groups_moved_to}
use Rattle.pf_law_movers.specs.Movers.{ChunkIsAtRest, IsOnTheMove, ask_to_carry, asked_to_carry, carried_ask, role_of_ask}
use Rattle.pf_law_movers.specs.Pasts.{MoverTrace, at_carry, carrying, handed_at, is_some_of, moves_into, no_trace, mover_numbered, trace_in, with_trace_of_port}
use Rattle.pf_law_movers.proofs.AskGroups.{has_asks}
use Rattle.pf_law_movers.proofs.ChunkEpochs.{AreBegun, begun_until, epoch_on, groups_on, next_group}
use Rattle.pf_law_movers.proofs.Lives.{its_own, not_its_own}
use Rattle.pf_law_movers.proofs.ListPlaces.{by_ends, get_either}
use Rattle.pf_law_movers.proofs.PortTraces.{handed_asks, is_hauled, moves_more}

-- what a mover wants after these calls
abbrev pub wanted : (chunk : ℕ) → List MoverTurn → Option Ask
wanted chunk [] = None
wanted chunk (turn ∷ []) = ask_to_carry chunk turn.next
wanted chunk (turn ∷ turns) = wanted chunk turns

pub wanted_last : (chunk : ℕ) (turns : List MoverTurn) (turn : MoverTurn) → wanted chunk (turns ++ turn ∷ []) ≡ ask_to_carry chunk turn.next
wanted_last chunk [] turn = refl
wanted_last chunk (t ∷ []) turn = refl
wanted_last chunk (t ∷ u ∷ turns) turn = wanted_last chunk (u ∷ turns) turn

with_last : (first : List (List MoverTurn)) (turns : List MoverTurn) (turn : MoverTurn) → with_turn (first ++ turns ∷ []) turn ≡ first ++ (turns ++ turn ∷ []) ∷ []
with_last [] turns turn = refl
with_last (f ∷ []) turns turn = refl
with_last (f ∷ g ∷ first) turns turn = ap (λ rest. f ∷ rest) (with_last (g ∷ first) turns turn)

pub moves_on : (told : List Moment) (x : Moment) (chunk : ℕ) → moves_of (told ++ x ∷ []) chunk ≡ carried chunk (moves_of told chunk) x
moves_on told x chunk = fold-append (carried chunk) [] told (x ∷ [])

ask_on : (told : List Moment) (x : Moment) (chunk : ℕ) → carried_ask (told ++ x ∷ []) chunk ≡ asked_to_carry chunk (carried_ask told chunk) x
ask_on told x chunk = fold-append (asked_to_carry chunk) None told (x ∷ [])

-- the port of the mover into a group, after these calls of the chunk's mover, which it asks in this role
pub record IsInUse (chunk : ℕ) (role : MoverAsk) (turns : List MoverTurn) (t : MoverTrace) : Type 0 where
  pub role_is : t.role ≡ Some role
  pub chunk_is : t.chunk ≡ chunk
  pub count_is : t.count ≡ length turns
  pub asks_are : (ask : Ask) → wanted chunk turns ≡ Some ask → role_of_ask ask ≡ role → (trace_in t role).asks ≡ length turns

pub record IsUnderWay (count : ℕ) (told : List Moment) (chunk : ℕ) : Type 0 where
  pub moving : IsOnTheMove count told chunk
  pub first : List (List MoverTurn)
  pub turns : List MoverTurn
  pub moves : moves_of told chunk ≡ first ++ turns ∷ []
  pub ended : length first ≡ epoch_of told chunk
  pub asked : carried_ask told chunk ≡ wanted chunk turns
  pub old : (history : History) (k : ℕ) → group_of_epoch told chunk (epoch_of told chunk) ≡ Some k → IsInUse chunk Reading turns (moves_into history k count told)
  pub new : (history : History) (k : ℕ) → group_of_epoch told chunk (suc (epoch_of told chunk)) ≡ Some k → IsInUse chunk Writing turns (moves_into history k count told)

pub record IsResting (count : ℕ) (told : List Moment) (chunk : ℕ) : Type 0 where
  pub rests : ChunkIsAtRest count told chunk
  pub ended : length (moves_of told chunk) ≡ epoch_of told chunk

abbrev pub RestsOrGoes : (count : ℕ) → List Moment → (chunk : ℕ) → Type 0
RestsOrGoes count told chunk = IsResting count told chunk ⊎ IsUnderWay count told chunk

-- Ports in used

reading_asks : (count : ℕ) (next : MoveNext) (t : MoverTrace) → ((mover_numbered count (Some Reading) next t).role ≡ t.role) × ((mover_numbered count (Some Reading) next t).chunk ≡ t.chunk) × ((mover_numbered count (Some Reading) next t).count ≡ t.count)
reading_asks count (Read span) t = (refl, refl, refl)
reading_asks count (Write span sectors) t = (refl, refl, refl)
reading_asks count Switch t = (refl, refl, refl)

writing_asks : (count : ℕ) (next : MoveNext) (t : MoverTrace) → ((mover_numbered count (Some Writing) next t).role ≡ t.role) × ((mover_numbered count (Some Writing) next t).chunk ≡ t.chunk) × ((mover_numbered count (Some Writing) next t).count ≡ t.count)
writing_asks count (Read span) t = (refl, refl, refl)
writing_asks count (Write span sectors) t = (refl, refl, refl)
writing_asks count Switch t = (refl, refl, refl)

reads_so : (count chunk : ℕ) (next : MoveNext) (t : MoverTrace) (ask : Ask) → ask_to_carry chunk next ≡ Some ask → role_of_ask ask ≡ Reading → (mover_numbered count (Some Reading) next t).read.asks ≡ count
reads_so count chunk (Read span) t ask is role = refl
reads_so count chunk (Write span sectors) t ask is role = absurd (let same : role_of_ask (asks.Write chunk span sectors) ≡ Reading = ap role_of_ask (same_Some (asks.Write chunk span sectors) ask is) ∙ role in cc)
reads_so count chunk Switch t ask is role = absurd (none-some ask is)

writes_so : (count chunk : ℕ) (next : MoveNext) (t : MoverTrace) (ask : Ask) → ask_to_carry chunk next ≡ Some ask → role_of_ask ask ≡ Writing → (mover_numbered count (Some Writing) next t).written.asks ≡ count
writes_so count chunk (Write span sectors) t ask is role = refl
writes_so count chunk (Read span) t ask is role = absurd (let same : role_of_ask (asks.Read chunk span) ≡ Writing = ap role_of_ask (same_Some (asks.Read chunk span) ask is) ∙ role in cc)
writes_so count chunk Switch t ask is role = absurd (none-some ask is)

module _ (history : History) (k : ℕ) where
  -- a call of the chunk's mover
  reads_on : (chunk : ℕ) (turns : List MoverTurn) (turn : MoverTurn) (more : MoverTrace) → more.count ≡ length (turns ++ turn ∷ []) → more.role ≡ Some Reading → more.chunk ≡ chunk → IsInUse chunk Reading (turns ++ turn ∷ []) (mover_numbered more.count (Some Reading) turn.next more)
  reads_on chunk turns turn more long in_role of_chunk =
      let same = reading_asks more.count turn.next more in record {
        role_is = same.0 ∙ in_role;
        chunk_is = same.1 ∙ of_chunk;
        count_is = same.2 ∙ long;
        asks_are = λ ask is role. reads_so more.count chunk turn.next more ask (sym (wanted_last chunk turns turn) ∙ is) role ∙ long;
      }

  writes_on : (chunk : ℕ) (turns : List MoverTurn) (turn : MoverTurn) (more : MoverTrace) → more.count ≡ length (turns ++ turn ∷ []) → more.role ≡ Some Writing → more.chunk ≡ chunk → IsInUse chunk Writing (turns ++ turn ∷ []) (mover_numbered more.count (Some Writing) turn.next more)
  writes_on chunk turns turn more long in_role of_chunk =
      let same = writing_asks more.count turn.next more in record {
        role_is = same.0 ∙ in_role;
        chunk_is = same.1 ∙ of_chunk;
        count_is = same.2 ∙ long;
        asks_are = λ ask is role. writes_so more.count chunk turn.next more ask (sym (wanted_last chunk turns turn) ∙ is) role ∙ long;
      }

  by_role : (role : MoverAsk) (chunk : ℕ) (turns : List MoverTurn) (turn : MoverTurn) (more : MoverTrace) → more.count ≡ length (turns ++ turn ∷ []) → more.role ≡ Some role → more.chunk ≡ chunk → IsInUse chunk role (turns ++ turn ∷ []) (mover_numbered more.count (Some role) turn.next more)
  by_role Reading chunk turns turn more long in_role of_chunk = reads_on chunk turns turn more long in_role of_chunk
  by_role Writing chunk turns turn more long in_role of_chunk = writes_on chunk turns turn more long in_role of_chunk

  called : (role : MoverAsk) (chunk c : ℕ) (turns : List MoverTurn) (turn : MoverTurn) (t : MoverTrace) → c ≡ chunk → IsInUse chunk role turns t → IsInUse chunk role (turns ++ turn ∷ []) (carrying t c turn.next)
  called role chunk c turns turn t same used =
      let more : MoverTrace = record t { count = suc t.count } in
      let counted = used.count_is in
      let long : suc t.count ≡ length (turns ++ turn ∷ []) = omega (arith, counted, length-append turns (turn ∷ [])) in
      let at : carrying t c turn.next ≡ mover_numbered (suc t.count) (Some role) turn.next more =
      its_own c t.chunk (mover_numbered (suc t.count) t.role turn.next more) t (same ∙ sym used.chunk_is) ∙ ap (λ r. mover_numbered (suc t.count) r turn.next more) used.role_is in
      subst (IsInUse chunk role (turns ++ turn ∷ [])) (sym at) (by_role role chunk turns turn more long used.role_is used.chunk_is)

  others_call : (role : MoverAsk) (chunk c : ℕ) (turns : List MoverTurn) (next : MoveNext) (t : MoverTrace) → c ≢ chunk → IsInUse chunk role turns t → IsInUse chunk role turns (carrying t c next)
  others_call role chunk c turns next t other used =
      let more : MoverTrace = record t { count = suc t.count } in
      subst (IsInUse chunk role turns) (sym (not_its_own c t.chunk (mover_numbered (suc t.count) t.role next more) t (λ same. other (same ∙ used.chunk_is)))) used

  -- what is handed on changes no number
  handed_use : (role : MoverAsk) (chunk : ℕ) (turns : List MoverTurn) (before : History) (h : Option Happening) (t : MoverTrace) → IsInUse chunk role turns t → IsInUse chunk role turns (with_trace_of_port (handed_at before h) (Some role) t)
  handed_use Reading chunk turns before h t used = record { role_is = used.role_is; chunk_is = used.chunk_is; count_is = used.count_is; asks_are = λ ask is role. handed_asks before h t.read ∙ used.asks_are ask is role }
  handed_use Writing chunk turns before h t used = record { role_is = used.role_is; chunk_is = used.chunk_is; count_is = used.count_is; asks_are = λ ask is role. handed_asks before h t.written ∙ used.asks_are ask is role }

  hands_use : (role : MoverAsk) (chunk : ℕ) (turns : List MoverTurn) (n group place : ℕ) (t : MoverTrace) → IsInUse chunk role turns t → IsInUse chunk role turns (at_carry history k t (Hands n group place))
  hands_use role chunk turns n group place t used =
      let change = handed_at (take place history) (slice_get history place) in
      by_test (n == mover_port && group == k) (λ b. IsInUse chunk role turns (if b then with_trace_of_port change t.role t else t))
      (λ _. subst (λ r. IsInUse chunk role turns (with_trace_of_port change r t)) (sym used.role_is) (handed_use role chunk turns (take place history) (slice_get history place) t used)) (λ _. used)

module _ (count : ℕ) where
  -- a moment in which nobody moves and no mover is called
  pub record IsStill (x : Moment) : Type 0 where
    pub moved : (chunk : ℕ) → flat_map (groups_moved_to chunk) (x ∷ []) ≡ []
    pub epoch : (chunk : ℕ) → epoch_of (x ∷ []) chunk ≡ 0
    pub turns : (chunk : ℕ) (moves : List (List MoverTurn)) → carried chunk moves x ≡ moves
    pub asks : (chunk : ℕ) (ask : Option Ask) → asked_to_carry chunk ask x ≡ ask
    pub ports : (history : History) (k chunk : ℕ) (role : MoverAsk) (turns : List MoverTurn) (t : MoverTrace) → IsInUse chunk role turns t → IsInUse chunk role turns (at_carry history k t x)

  -- what is so of one chunk
  record IsSame (told : List Moment) (x : Moment) (chunk : ℕ) : Type 0 where
    groups : groups_in_turn (told ++ x ∷ []) chunk ≡ groups_in_turn told chunk
    epoch : epoch_of (told ++ x ∷ []) chunk ≡ epoch_of told chunk
    turns : moves_of (told ++ x ∷ []) chunk ≡ moves_of told chunk
    asks : carried_ask (told ++ x ∷ []) chunk ≡ carried_ask told chunk
    ports : (history : History) (k : ℕ) (role : MoverAsk) (turns : List MoverTurn) (t : MoverTrace) → IsInUse chunk role turns t → IsInUse chunk role turns (at_carry history k t x)

  same_goes : (told : List Moment) (x : Moment) (chunk : ℕ) → IsSame told x chunk → RestsOrGoes count told chunk → RestsOrGoes count (told ++ x ∷ []) chunk
  same_goes told x chunk same (inl rests) =
      inl (record {
        rests = record { small = rests.rests.small; groups = ap length same.groups ∙ rests.rests.groups ∙ ap suc (sym same.epoch) };
        ended = ap length same.turns ∙ rests.ended ∙ sym same.epoch;
      })
  same_goes told x chunk same (inr goes) =
      inr (record {
        moving = record { small = goes.moving.small; groups = ap length same.groups ∙ goes.moving.groups ∙ ap (λ e. suc (suc e)) (sym same.epoch) };
        first = goes.first;
        turns = goes.turns;
        moves = same.turns ∙ goes.moves;
        ended = goes.ended ∙ sym same.epoch;
        asked = same.asks ∙ goes.asked;
        old = λ history k at.
            subst (IsInUse chunk Reading goes.turns) (sym (moves_more history k count told x))
            (same.ports history k Reading goes.turns (moves_into history k count told) (goes.old history k (ap (λ gs. slice_get gs (epoch_of told chunk)) (sym same.groups) ∙ ap (group_of_epoch (told ++ x ∷ []) chunk) (sym same.epoch) ∙ at)));
        new = λ history k at.
            subst (IsInUse chunk Writing goes.turns) (sym (moves_more history k count told x))
            (same.ports history k Writing goes.turns (moves_into history k count told) (goes.new history k (ap (λ gs. slice_get gs (suc (epoch_of told chunk))) (sym same.groups) ∙ ap (λ e. group_of_epoch (told ++ x ∷ []) chunk (suc e)) (sym same.epoch) ∙ at)));
      })

  still_same : (told : List Moment) (x : Moment) (chunk : ℕ) → IsStill x → IsSame told x chunk
  still_same told x chunk still =
      let on = epoch_on told (x ∷ []) chunk in
      let none = still.epoch chunk in record {
        groups = groups_on told (x ∷ []) chunk ∙ ap (λ gs. groups_in_turn told chunk ++ gs) (still.moved chunk) ∙ append-nil (groups_in_turn told chunk);
        epoch = omega (arith, on, none);
        turns = moves_on told x chunk ∙ still.turns chunk (moves_of told chunk);
        asks = ask_on told x chunk ∙ still.asks chunk (carried_ask told chunk);
        ports = λ history k role turns t used. still.ports history k chunk role turns t used;
      }

  -- A move begins

  begins_here : (told : List Moment) (chunk to : ℕ) → AreBegun count (told ++ Moves chunk to ∷ []) → RestsOrGoes count told chunk → RestsOrGoes count (told ++ Moves chunk to ∷ []) chunk
  begins_here told chunk to begun (inr goes) =
      let its = begun.begins told [] chunk to refl in
      let rests = (its.rests chunk its.small).groups in
      let moves = goes.moving.groups in absurd (omega (arith, rests, moves))
  begins_here told chunk to begun (inl resting) =
      let x : Moment = Moves chunk to in
      let its = begun.begins told [] chunk to refl in
      let on = epoch_on told (x ∷ []) chunk in
      let epoch : epoch_of (told ++ x ∷ []) chunk ≡ epoch_of told chunk = omega (arith, on) in
      let grown : groups_in_turn (told ++ x ∷ []) chunk ≡ groups_in_turn told chunk ++ (to ∷ []) = groups_on told (x ∷ []) chunk ∙ ap (λ gs. groups_in_turn told chunk ++ (gs ++ [])) (its_own chunk chunk (to ∷ []) [] refl) in
      let long = ap length grown ∙ length-append (groups_in_turn told chunk) (to ∷ []) in
      let groups = resting.rests.groups in
      let small = resting.rests.small in
      inr (record {
        moving = record { small = small; groups = omega (arith, long, groups, epoch) };
        first = moves_of told chunk;
        turns = [];
        moves = moves_on told x chunk ∙ its_own chunk chunk (moves_of told chunk ++ [] ∷ []) (moves_of told chunk) refl;
        ended = resting.ended ∙ sym epoch;
        asked = ask_on told x chunk ∙ its_own chunk chunk None (carried_ask told chunk) refl;
        old = λ history k at. subst (IsInUse chunk Reading []) (sym (moves_more history k count told x)) (left history k its.fresh small groups (old_group k grown long groups (ap (group_of_epoch (told ++ x ∷ []) chunk) (sym epoch) ∙ at)));
        new = λ history k at. subst (IsInUse chunk Writing []) (sym (moves_more history k count told x)) (made history k
            (same_Some to k (sym (next_group told chunk to) ∙ ap (group_of_epoch (told ++ x ∷ []) chunk) (groups ∙ ap suc (sym epoch)) ∙ at)));
      })
    where
      old_group : (k : ℕ) → groups_in_turn (told ++ Moves chunk to ∷ []) chunk ≡ groups_in_turn told chunk ++ (to ∷ []) → length (groups_in_turn (told ++ Moves chunk to ∷ []) chunk) ≡ length (groups_in_turn told chunk) + 1 → length (groups_in_turn told chunk) ≡ suc (epoch_of told chunk)
          → group_of_epoch (told ++ Moves chunk to ∷ []) chunk (epoch_of told chunk) ≡ Some k → group_of_epoch told chunk (epoch_of told chunk) ≡ Some k
      old_group k grown long groups at = elim (get_either (groups_in_turn told chunk) (to ∷ []) (epoch_of told chunk) k (ap (λ gs. slice_get gs (epoch_of told chunk)) (sym grown) ∙ at)) [
        | inl old ↦ old
        | inr new ↦ absurd (omega (arith, new.2, groups))
      ]

      made : (history : History) (k : ℕ) → to ≡ k → IsInUse chunk Writing [] (at_carry history k (moves_into history k count told) (Moves chunk to))
      made history k same =
          let t = moves_into history k count told in
          let now : MoverTrace = record t { of = Some chunk; chunk = chunk; role = Some Writing; count = 0; written = no_trace } in
          let left_it : MoverTrace = record t { of = None; chunk = chunk; role = Some Reading; count = 0; read = no_trace } in
          let other : MoverTrace = record t { role = None } in
          subst (IsInUse chunk Writing []) (sym (its_own to k now (if is_some_of t.of chunk then left_it else other) same))
          (record { role_is = refl; chunk_is = refl; count_is = refl; asks_are = λ ask is role. absurd (none-some ask is) })

      left : (history : History) (k : ℕ) → ((other by : ℕ) → other < count → group_of_epoch told other by ≡ Some to → ⊥) → chunk < count → length (groups_in_turn told chunk) ≡ suc (epoch_of told chunk) → group_of_epoch told chunk (epoch_of told chunk) ≡ Some k
          → IsInUse chunk Reading [] (at_carry history k (moves_into history k count told) (Moves chunk to))
      left history k fresh small groups at =
          let t = moves_into history k count told in
          let now : MoverTrace = record t { of = Some chunk; chunk = chunk; role = Some Writing; count = 0; written = no_trace } in
          let left_it : MoverTrace = record t { of = None; chunk = chunk; role = Some Reading; count = 0; read = no_trace } in
          let other : MoverTrace = record t { role = None } in
          let has : t.of ≡ Some chunk = (is_hauled history k count told).of ∙ has_asks count told (begun_until count told (Moves chunk to ∷ []) begun) chunk (epoch_of told chunk) k small at groups in
          let is : at_carry history k t (Moves chunk to) ≡ left_it =
          not_its_own to k now (if is_some_of t.of chunk then left_it else other) (λ same. fresh chunk (epoch_of told chunk) small (at ∙ ap (λ i. Some i) (sym same)))
          ∙ ap (λ o. if is_some_of o chunk then left_it else other) has ∙ ap (λ b. if b then left_it else other) (eq-eqb chunk chunk refl) in
          subst (IsInUse chunk Reading []) (sym is) (record { role_is = refl; chunk_is = refl; count_is = refl; asks_are = λ ask is role. absurd (none-some ask is) })

  begins_elsewhere : (told : List Moment) (c to chunk : ℕ) → c ≢ chunk → chunk < count → AreBegun count (told ++ Moves c to ∷ []) → RestsOrGoes count told chunk → RestsOrGoes count (told ++ Moves c to ∷ []) chunk
  begins_elsewhere told c to chunk other small begun (inr goes) =
      let its = begun.begins told [] c to refl in
      let rests = (its.rests chunk small).groups in
      let moves = goes.moving.groups in absurd (omega (arith, rests, moves))
  begins_elsewhere told c to chunk other small begun (inl resting) =
      let x : Moment = Moves c to in
      let on = epoch_on told (x ∷ []) chunk in
      let kept : groups_in_turn (told ++ x ∷ []) chunk ≡ groups_in_turn told chunk ++ [] = groups_on told (x ∷ []) chunk ∙ ap (λ gs. groups_in_turn told chunk ++ (gs ++ [])) (not_its_own c chunk (to ∷ []) [] other) in
      let long = ap length kept ∙ length-append (groups_in_turn told chunk) [] in
      let groups = resting.rests.groups in
      let turns = ap length (moves_on told x chunk ∙ not_its_own c chunk (moves_of told chunk ++ [] ∷ []) (moves_of told chunk) other) in
      let ended = resting.ended in
      inl (record { rests = record { small = small; groups = omega (arith, on, long, groups) }; ended = omega (arith, on, turns, ended) })

  -- The mover is called

  carries_elsewhere : (told : List Moment) (c : ℕ) (heard : Option Heard) (next : MoveNext) (chunk : ℕ) → c ≢ chunk → epoch_of (Carries c heard next ∷ []) chunk ≡ 0 → IsSame told (Carries c heard next) chunk
  carries_elsewhere told c heard next chunk other none =
      let x : Moment = Carries c heard next in
      let on = epoch_on told (x ∷ []) chunk in
      let turn : MoverTurn = record { reply = reply_of_heard heard; next = next } in record {
        groups = groups_on told (x ∷ []) chunk ∙ append-nil (groups_in_turn told chunk);
        epoch = omega (arith, on, none);
        turns = moves_on told x chunk ∙ not_its_own c chunk (with_turn (moves_of told chunk) turn) (moves_of told chunk) other;
        asks = ask_on told x chunk ∙ not_its_own c chunk (ask_to_carry chunk next) (carried_ask told chunk) other;
        ports = λ history k role turns t used. others_call history k role chunk c turns next t other used;
      }

  -- the turns after the call
  pub record IsCalled (told : List Moment) (chunk : ℕ) (heard : Option Heard) (next : MoveNext) (goes : IsUnderWay count told chunk) : Type 0 where
    pub moves : moves_of (told ++ Carries chunk heard next ∷ []) chunk ≡ goes.first ++ (goes.turns ++ record { reply = reply_of_heard heard; next = next } ∷ []) ∷ []
    pub groups : groups_in_turn (told ++ Carries chunk heard next ∷ []) chunk ≡ groups_in_turn told chunk

  pub is_called : (told : List Moment) (chunk : ℕ) (heard : Option Heard) (next : MoveNext) (goes : IsUnderWay count told chunk) → IsCalled told chunk heard next goes
  is_called told chunk heard next goes =
      let x : Moment = Carries chunk heard next in
      let turn : MoverTurn = record { reply = reply_of_heard heard; next = next } in record {
        moves = moves_on told x chunk ∙ its_own chunk chunk (with_turn (moves_of told chunk) turn) (moves_of told chunk) refl ∙ ap (λ ms. with_turn ms turn) goes.moves ∙ with_last goes.first goes.turns turn;
        groups = groups_on told (x ∷ []) chunk ∙ append-nil (groups_in_turn told chunk);
      }

  goes_on : (told : List Moment) (chunk : ℕ) (heard : Option Heard) (next : MoveNext) → epoch_of (Carries chunk heard next ∷ []) chunk ≡ 0 → IsUnderWay count told chunk → IsUnderWay count (told ++ Carries chunk heard next ∷ []) chunk
  goes_on told chunk heard next none goes =
      let x : Moment = Carries chunk heard next in
      let turn : MoverTurn = record { reply = reply_of_heard heard; next = next } in
      let on = epoch_on told (x ∷ []) chunk in
      let epoch : epoch_of (told ++ x ∷ []) chunk ≡ epoch_of told chunk = omega (arith, on, none) in
      let is = is_called told chunk heard next goes in record {
        moving = record { small = goes.moving.small; groups = ap length is.groups ∙ goes.moving.groups ∙ ap (λ e. suc (suc e)) (sym epoch) };
        first = goes.first;
        turns = goes.turns ++ turn ∷ [];
        moves = is.moves;
        ended = goes.ended ∙ sym epoch;
        asked = ask_on told x chunk ∙ its_own chunk chunk (ask_to_carry chunk next) (carried_ask told chunk) refl ∙ sym (wanted_last chunk goes.turns turn);
        old = λ history k at.
            subst (IsInUse chunk Reading (goes.turns ++ turn ∷ [])) (sym (moves_more history k count told x))
            (called history k Reading chunk chunk goes.turns turn (moves_into history k count told) refl (goes.old history k (ap (λ gs. slice_get gs (epoch_of told chunk)) (sym is.groups) ∙ ap (group_of_epoch (told ++ x ∷ []) chunk) (sym epoch) ∙ at)));
        new = λ history k at.
            subst (IsInUse chunk Writing (goes.turns ++ turn ∷ [])) (sym (moves_more history k count told x))
            (called history k Writing chunk chunk goes.turns turn (moves_into history k count told) refl (goes.new history k (ap (λ gs. slice_get gs (suc (epoch_of told chunk))) (sym is.groups) ∙ ap (λ e. group_of_epoch (told ++ x ∷ []) chunk (suc e)) (sym epoch) ∙ at)));
      }

  switches : (told : List Moment) (chunk : ℕ) (heard : Option Heard) → IsUnderWay count told chunk → IsResting count (told ++ Carries chunk heard Switch ∷ []) chunk
  switches told chunk heard goes =
      let x : Moment = Carries chunk heard Switch in
      let on = epoch_on told (x ∷ []) chunk in
      let one : epoch_of (x ∷ []) chunk ≡ 1 = ap (λ b. 0 + cond b 1 0) (eq-eqb chunk chunk refl) in
      let is = is_called told chunk heard Switch goes in
      let groups = ap length is.groups in
      let moving = goes.moving.groups in
      let moves = ap length is.moves ∙ length-append goes.first ((goes.turns ++ record { reply = reply_of_heard heard; next = Switch } ∷ []) ∷ []) in
      let ended = goes.ended in
      record { rests = record { small = goes.moving.small; groups = omega (arith, groups, moving, on, one) }; ended = omega (arith, moves, ended, on, one) }

  carries_here : (told : List Moment) (chunk : ℕ) (heard : Option Heard) (next : MoveNext) → AreBegun count (told ++ Carries chunk heard next ∷ []) → RestsOrGoes count told chunk → RestsOrGoes count (told ++ Carries chunk heard next ∷ []) chunk
  carries_here told chunk heard next begun (inl resting) =
      let moves = (begun.carries told [] chunk heard next refl).groups in
      let rests = resting.rests.groups in absurd (omega (arith, moves, rests))
  carries_here told chunk heard Switch begun (inr goes) = inl (switches told chunk heard goes)
  carries_here told chunk heard (Read span) begun (inr goes) = inr (goes_on told chunk heard (Read span) refl goes)
  carries_here told chunk heard (Write span sectors) begun (inr goes) = inr (goes_on told chunk heard (Write span sectors) refl goes)

  switch_elsewhere : (c : ℕ) (heard : Option Heard) (next : MoveNext) (chunk : ℕ) → c ≢ chunk → epoch_of (Carries c heard next ∷ []) chunk ≡ 0
  switch_elsewhere c heard Switch chunk other = ap (λ b. 0 + cond b 1 0) (ne_eqb c chunk other)
  switch_elsewhere c heard (Read span) chunk other = refl
  switch_elsewhere c heard (Write span sectors) chunk other = refl

  one_more : (told : List Moment) (x : Moment) (chunk : ℕ) → chunk < count → AreBegun count (told ++ x ∷ []) → RestsOrGoes count told chunk → RestsOrGoes count (told ++ x ∷ []) chunk
  one_more told (Moves c to) chunk small begun so_far = elim (cases_eq c chunk) [
    | inl same ↦ subst (λ i. RestsOrGoes count (told ++ Moves i to ∷ []) chunk) (sym same) (begins_here told chunk to (subst (λ i. AreBegun count (told ++ Moves i to ∷ [])) same begun) so_far)
    | inr other ↦ begins_elsewhere told c to chunk other small begun so_far
  ]
  one_more told (Carries c heard next) chunk small begun so_far = elim (cases_eq c chunk) [
    | inl same ↦ subst (λ i. RestsOrGoes count (told ++ Carries i heard next ∷ []) chunk) (sym same) (carries_here told chunk heard next (subst (λ i. AreBegun count (told ++ Carries i heard next ∷ [])) same begun) so_far)
    | inr other ↦ same_goes told (Carries c heard next) chunk (carries_elsewhere told c heard next chunk other (switch_elsewhere c heard next chunk other)) so_far
  ]
  one_more told (Hands n group place) chunk small begun so_far =
      same_goes told (Hands n group place) chunk (still_same told (Hands n group place) chunk (record { moved = λ c. refl; epoch = λ c. refl; turns = λ c moves. refl; asks = λ c ask. refl; ports = λ history k c role turns t used. hands_use history k role c turns n group place t used })) so_far
  one_more told (Writes text) chunk small begun so_far =
      same_goes told (Writes text) chunk (still_same told (Writes text) chunk (record { moved = λ c. refl; epoch = λ c. refl; turns = λ c moves. refl; asks = λ c ask. refl; ports = λ history k c role turns t used. used })) so_far
  one_more told (Acts who act) chunk small begun so_far =
      same_goes told (Acts who act) chunk (still_same told (Acts who act) chunk (record { moved = λ c. refl; epoch = λ c. refl; turns = λ c moves. refl; asks = λ c ask. refl; ports = λ history k c role turns t used. used })) so_far

  pub rests_or_goes : (told : List Moment) → AreBegun count told → (chunk : ℕ) → chunk < count → RestsOrGoes count told chunk
  rests_or_goes told begun chunk small = by_ends (λ (all : List Moment). AreBegun count all → RestsOrGoes count all chunk)
      (λ _. inl (record { rests = record { small = small; groups = refl }; ended = refl }))
      (λ all x so_far its. one_more all x chunk small its (so_far (begun_until count all (x ∷ []) its))) told begun

  -- a chunk that is on the move
  pub under_way : (told : List Moment) → AreBegun count told → (chunk : ℕ) → IsOnTheMove count told chunk → IsUnderWay count told chunk
  under_way told begun chunk moving = elim (rests_or_goes told begun chunk moving.small) [
    | inl resting ↦ let moves = moving.groups in let rests = resting.rests.groups in absurd (omega (arith, moves, rests))
    | inr goes ↦ goes
  ]
