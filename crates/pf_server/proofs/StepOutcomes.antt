-- What a step of a server comes to, from what its row says.
use Rattle.std.proofs.Common.{◌≡◌, ◌⊎◌, inl, inr, ℕ, suc, ◌+◌, ◌≤◌, true, not, ◌&&◌, ◌==◌, length, Some, None, Option, Result, Ok, Err, IfOk, arith, refl, sym, ap, subst, ◌∙◌}
use Rattle.std.proofs.lemmas.Bool.{ltb-false, not-false}
use Rattle.pf_base.specs.declared.errors.NoMemory.{NoMemory as NoMemoryIs}
use Rattle.pf_base.specs.Span.{Span, fits_in}
use Rattle.pf_entry.specs.Ops.{range_of}
use Rattle.pf_entry.specs.declared.ops.Op.{Op}
use Rattle.pf_entry.specs.Records.{Durable}
use Rattle.pf_protocol.specs.Answers.{is_mark, is_serving, window_full}
use Rattle.pf_protocol.specs.Asked.{AreAsked}
use Rattle.pf_protocol.specs.Leading.{on_fetch, on_submit}
use Rattle.pf_protocol.specs.Outcomes.{Outcome}
use Rattle.pf_protocol.specs.Servers.{Server, Setup, Stopped as StoppedIs}
use Rattle.pf_protocol.specs.declared.answers.Answer.{Answer}
use Rattle.pf_protocol.specs.declared.answers.Answer.TheVariants.{Refused}
use Rattle.pf_protocol.specs.declared.answers.Refusal.{Refusal}
use Rattle.pf_protocol.specs.declared.answers.Refusal.TheVariants.{BadRange, Halted, NotLeader, OldFormat, WindowFull}
use Rattle.pf_protocol.proofs.ForRows.{refuse_none}
use Rattle.pf_server_store.specs.Stores.{StoreModel}
use Rattle.pf_server_memory.specs.declared.faults.StepFault.{StepFault}
use Rattle.pf_server_memory.specs.declared.faults.StepFault.TheVariants.{NoMemory as WantsMemory, Refused as IsRefused, Halted as IsHalted}
use Rattle.pf_server_memory.specs.declared.running.Running.{Running}
use Rattle.pf_server_memory.specs.Outgoing.{Outgoing}
use Rattle.pf_server_memory.specs.Standing.{server_of, setup_of, IsDone, IsUntouched, IsHalted as HaltsIn, Stands, Steps, room_refusal}
use Rattle.pf_server_leader.specs.Submitting.{refused_first, submit_refusal}
use Rattle.pf_server_apply.specs.Fetching.{fetch_refusal}
use Rattle.pf_server_restart.specs.Beginning.{setup_of_seat}
use Rattle.pf_server_restart.specs.declared.seat.Seat.{Seat}
use Rattle.pf_server.specs.declared.ends.Before.{Before}
use Rattle.pf_server.specs.declared.state.Doubt.TheVariants.{Open}
use Rattle.pf_server.specs.declared.state.State.{State}
use Rattle.pf_server.specs.declared.state.State.TheVariants.{Runs, Stopped}
use Rattle.pf_server.specs.Conditions.{IsInHalf, IsRunning, IsStopped, Meets}
use Rattle.pf_server.specs.Ending.{CanAnswer, StepEnds, StepIsAnswered, WasAnswered, quieted}
use Rattle.pf_server.specs.Turns.{Comes, IsAsBefore, IsSettled, WasCarriedOut, WasCutOff, WasSpared}
use Rattle.pf_server.proofs.Bounds.{same_chunk, same_life}
use Rattle.pf_server.proofs.StepEnds.{asked_now}
use Rattle.pf_server.proofs.ServerStands.{in_half, quieted_runs, settles}

-- where there is room for a step, its record fits a half
abbrev pub IsRoomy : Option Refusal → Outcome → Type 0
IsRoomy judged o = judged ≡ None → o.server.durable.used ≤ 67108864

module _ {S : Type 0} (model : StoreModel S) (seat : Seat) (store store' : S) (me me' : Running) (out out' : Outgoing) where
  module _ (before : Before) (noted : before ≡ record { life = me.life; used = model.used store; generation = me.generation }) (state' : State) (s : Server) (runs : IsRunning model seat store me s) (judged : Option Refusal) (o : Outcome) where
    abbrev ComesTo : Option Refusal → Result Answer NoMemoryIs → Type 0
    ComesTo j r = Comes model seat store store' state' s out out' j o r

    carried_out : (answer : Answer) → IsDone model s.durable store me out store' me' out' judged o answer → StepIsAnswered me' state' → WasCarriedOut model seat store store' state' s out out' o answer
    carried_out answer x end = record {
      settles = subst (λ z. IsSettled model seat store' z s o answer) (sym end.runs)
          (settles model seat store' o.server.durable me' end.next s o answer x.stands (x.setup_same ∙ runs.setup)
          (subst (WasAnswered o.server.durable me' end.next) x.server_is (end.answered o.server.durable x.stands.cached)) x.answered);
      sent = x.sent;
      crash = x.crash;
    }

    as_it_was : IsUntouched model s.durable store me out store' me' out' → state' ≡ Runs (quieted me') → IsAsBefore model seat store' state' s
    as_it_was x is = subst (λ z. IsAsBefore model seat store' z s) (sym is)
        (quieted_runs model seat store' me' s (record { stands = x.stands; is = x.server_same ∙ runs.is; setup = x.setup_same ∙ runs.setup }))

    same_format : o.server.durable.format ≡ s.durable.format → (o.server.durable.format ≡ 2) ⊎ (o.server.durable.format ≡ seat.format)
    same_format same = elim (in_half model seat store me s runs).format [ inl second ↦ inl (same ∙ second) | inr first ↦ inr (same ∙ first) ]

    other_half : HaltsIn model s.durable store me out store' me' out' judged o → IsRoomy judged o → IsInHalf seat o.server.durable
    other_half x roomy = record {
      format = elim x.half [ inl second ↦ inl second | inr same ↦ same_format same ];
      within = roomy x.may;
    }

    in_doubt : HaltsIn model s.durable store me out store' me' out' judged o → IsRoomy judged o → IsStopped model seat (before.life + 1) (Open before.used before.generation) (suc s.life) s.durable o.server.durable store'
    in_doubt x roomy = record {
      life_is = omega (arith, ap (λ (b : Before). b.life) noted, same_life model seat store me s runs);
      left = record {
        x = s.durable;
        y = o.server.durable;
        has = x.in_doubt;
        first = inl refl;
        second = inr refl;
        used_is = sym (ap (λ (b : Before). b.used) noted ∙ runs.stands.used_is);
        generation_is = sym (ap (λ (b : Before). b.generation) noted ∙ runs.stands.cached.generation);
        apart = x.stores;
      };
      first = in_half model seat store me s runs;
      second = other_half x roomy;
    }

    cut_off : HaltsIn model s.durable store me out store' me' out' judged o → IsRoomy judged o → state' ≡ Stopped (before.life + 1) (Open before.used before.generation) → WasCutOff model seat store store' state' s o (Refused Halted)
    cut_off x roomy is = record {
      answered = refl;
      stores = x.stores;
      meets = subst (λ z. Meets model seat store' z (StoppedIs (suc s.life) s.durable o.server.durable)) (sym is) (in_doubt x roomy);
      crash = x.crash;
      cause = x.cause;
    }

    no_memory : (j : Option Refusal) (e : NoMemoryIs) → WasSpared model seat store store' state' s → ComesTo j (Err e)
    no_memory None e spared = spared
    no_memory (Some refusal) e spared = spared

    pub comes : (ended : Result Answer StepFault) (result : Result Answer NoMemoryIs) → IsRoomy judged o → Steps model s.durable store me out store' me' out' judged o ended → StepEnds before (Runs me') state' ended result → ComesTo judged result
    comes (Ok answer) result roomy x end = subst (ComesTo judged) (sym end.0) (subst (λ j. ComesTo j (Ok answer)) (sym x.may) (inl (carried_out answer x end.1)))
    comes (Err WantsMemory) result roomy x end = subst (ComesTo judged) (sym end.0) (no_memory judged (record {}) (record { kept = as_it_was x end.1; store_same = x.store_same }))
    comes (Err (IsRefused refusal)) result roomy x end = subst (ComesTo judged) (sym end.0) (subst (λ j. ComesTo j (Ok (Refused refusal))) (sym x.judged_so) (record { answered = refl; kept = as_it_was x.untouched end.1 }, x.untouched.store_same))
    comes (Err IsHalted) result roomy x end = subst (ComesTo judged) (sym end.0) (subst (λ j. ComesTo j (Ok (Refused Halted))) (sym x.may) (inr (cut_off x roomy end.1)))

  module _ (d : Durable) (judged : Option Refusal) (o : Outcome) where
    told_after : (ended : Result Answer StepFault) → Steps model d store me out store' me' out' judged o ended → model.told store' ≡ model.told store
    told_after (Ok answer) x = x.told_same
    told_after (Err WantsMemory) x = ap model.told x.store_same
    told_after (Err (IsRefused refusal)) x = ap model.told x.untouched.store_same
    told_after (Err IsHalted) x = x.told_same

    answerable : (ended : Result Answer StepFault) → Steps model d store me out store' me' out' judged o ended → (judged ≡ None → AreAsked (length me.sectors) o.server.reads) → IfOk ended (λ answer. CanAnswer me')
    answerable (Ok answer) x asked = record { d = o.server.durable; cached = x.stands.cached; asked = asked_now o.server.durable me me' o.server x.server_is x.setup_same (asked x.may) }
    answerable (Err e) x asked = tt

  -- a row, whatever the records are
  module _ (judge : Setup → Server → Option Refusal) (rule : Setup → Server → Outcome) (ended : Result Answer StepFault) where
    abbrev StepsAt : Durable → Setup → Server → Type 0
    StepsAt d u z = Steps model d store me out store' me' out' (judge u z) (rule u z) ended

    abbrev pub IsRow : Type 0
    IsRow = (d : Durable) → Stands model d store me → StepsAt d (setup_of me) (server_of d me)

    module _ (row : IsRow) (s : Server) (runs : IsRunning model seat store me s) where
      at_server : StepsAt s.durable (setup_of_seat seat) s
      at_server = subst (λ u. StepsAt s.durable u s) runs.setup (subst (StepsAt s.durable (setup_of me)) runs.is (row s.durable runs.stands))

      pub row_comes : (before : Before) → before ≡ record { life = me.life; used = model.used store; generation = me.generation } → (state' : State) (result : Result Answer NoMemoryIs) → IsRoomy (judge (setup_of_seat seat) s) (rule (setup_of_seat seat) s) → StepEnds before (Runs me') state' ended result
          → Comes model seat store store' state' s out out' (judge (setup_of_seat seat) s) (rule (setup_of_seat seat) s) result
      row_comes before noted state' result roomy end = comes before noted state' s runs (judge (setup_of_seat seat) s) (rule (setup_of_seat seat) s) ended result roomy at_server end

      pub row_told : model.told store' ≡ model.told store
      row_told = told_after s.durable (judge (setup_of_seat seat) s) (rule (setup_of_seat seat) s) ended at_server

      -- the step can end
      pub row_ends : (judge (setup_of_seat seat) s ≡ None → AreAsked seat.sectors (rule (setup_of_seat seat) s).server.reads) → IfOk ended (λ answer. CanAnswer me')
      row_ends asked = answerable s.durable (judge (setup_of_seat seat) s) (rule (setup_of_seat seat) s) ended at_server
          (λ none. subst (λ n. AreAsked n (rule (setup_of_seat seat) s).server.reads) (sym (same_chunk model seat store me s runs)) (asked none))

-- a step is judged by its room last
pub room_roomy : (out : Outgoing) (o : Outcome) → IsRoomy (room_refusal out o) o
unfolding room_refusal
room_roomy out o none = ltb-false 67108864 o.server.durable.used (refuse_none _ _ _ (refuse_none _ _ _ none).1).0

pub submit_roomy : (setup : Setup) (out : Outgoing) (op : Op) (s : Server) → IsRoomy (submit_refusal setup out op s) (on_submit setup s op s.role)
unfolding submit_refusal refused_first
submit_roomy setup out op s none =
    let in_format = refuse_none (is_mark op && setup.format == 1) OldFormat _ none in
    let fits = refuse_none (not (fits_in (range_of op) setup.chunk)) BadRange _ in_format.1 in
    let serves = refuse_none (not (is_serving s.role)) NotLeader _ fits.1 in
    room_roomy out (on_submit setup s op s.role) (refuse_none (window_full setup s s.role) WindowFull _ serves.1).1

pub fetch_roomy : (setup : Setup) (out : Outgoing) (range : Span) (number : ℕ) (s : Server) → IsRoomy (fetch_refusal setup out range number s) (on_fetch s range number s.role)
unfolding fetch_refusal
fetch_roomy setup out range number s none =
    let fits = refuse_none (not (fits_in range setup.chunk)) BadRange _ none in
    room_roomy out (on_fetch s range number s.role) (refuse_none (not (is_serving s.role)) NotLeader _ fits.1).1

-- a read that is taken up is of the chunk
pub fetch_fits : (setup : Setup) (out : Outgoing) (range : Span) (number : ℕ) (s : Server) → fetch_refusal setup out range number s ≡ None → fits_in range setup.chunk ≡ true
unfolding fetch_refusal
fetch_fits setup out range number s none = not-false (fits_in range setup.chunk) (refuse_none (not (fits_in range setup.chunk)) BadRange _ none).0
