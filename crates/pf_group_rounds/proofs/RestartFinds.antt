-- What a restart finds, the last halt of its server tells.
use Rattle.std.proofs.Common.{◌≡◌, ◌≢◌, ◌⊎◌, inl, inr, ℕ, zero, suc, ◌+◌, ◌<◌, ◌≤◌, Bool, true, false, ◌&&◌, ◌==◌, cond, if◌then◌else◌, List, [], ◌∷◌, ◌++◌, length, filter, nat_lt, Option, Some, None, slice_get, unwrap_or, arith, refl, sym, ap, subst, ◌∙◌}
use Rattle.std.specs.List.{last_or}
use Rattle.std.proofs.Math.Bool.{and-true}
use Rattle.std.proofs.lemmas.Bool.{cond-true, eqb-true, le-ltb, lt-ltb, true≢false}
use Rattle.std.proofs.lemmas.List.Elements.{filter-append}
use Rattle.std.proofs.lemmas.Option.{none-some}
use Rattle.pf_entry.specs.Records.{Durable}
use Rattle.pf_protocol.specs.declared.answers.Answer.{Answer}
use Rattle.pf_protocol.specs.declared.answers.Answer.TheVariants as answers
use Rattle.pf_protocol.specs.declared.answers.Refusal.{Refusal}
use Rattle.pf_protocol.specs.declared.answers.Refusal.TheVariants as refusals
use Rattle.pf_protocol.specs.declared.events.Event.{Event}
use Rattle.pf_protocol.specs.declared.events.Event.TheVariants.{Restart}
use Rattle.pf_protocol.specs.declared.events.Happening.{Happening}
use Rattle.pf_protocol.specs.Servers.{Setup, Server, Condition, Running, Stopped, Unformatted}
use Rattle.pf_protocol.specs.Groups.{Group, Ending, Whole, CutOff, Missed, Untouched, server_begun, ending, ending_of, happens, opening, restart}
use Rattle.pf_protocol.specs.Histories.{History, run, replay}
use Rattle.pf_protocol.specs.Answers.{IsAnswer, answer_to, restart_answer}
use Rattle.pf_entry.proofs.Cases.{by_test}
use Rattle.pf_group_rounds.specs.Halts.{Halt, is_before_place, last_halt, tells_found}
use Rattle.pf_group_rounds.specs.Chunks.{listed_at}
use Rattle.pf_group_rounds.specs.Agreeing.{is_halt, is_halted}
use Rattle.pf_group_rounds.specs.Telling.{restart_found, halts_from, halts_of_event, making_halts, next_found, server_at}
use Rattle.pf_group_rounds.proofs.Filters.{filter_none, last_or_append}
use Rattle.pf_group_rounds.proofs.HaltPlaces.{and_false, halt_of, made, next_of, placed, same_number}
use Rattle.pf_group_rounds.proofs.StoppedServers.{AsOne, Cut, IsStopped, Still, stopped_after}

abbrev is_cut_off : Ending → Bool
is_cut_off CutOff = true
is_cut_off Whole = false
is_cut_off Missed = false
is_cut_off Untouched = false

refused_as : (refusal : Refusal) → is_halt refusal ≡ is_cut_off (ending_of refusal)
refused_as refusals.Halted = refl
refused_as refusals.BadRange = refl
refused_as refusals.WindowFull = refl
refused_as refusals.LogFull = refl
refused_as refusals.NotOurs = refl
refused_as refusals.NotLeader = refl
refused_as refusals.Down = refl
refused_as refusals.NoPacket = refl
refused_as refusals.LostPacket = refl
refused_as refusals.PacketsFull = refl
refused_as refusals.ElectionsFull = refl
refused_as refusals.NoneFree = refl
refused_as (refusals.Stale life) = refl
refused_as refusals.OldFormat = refl

-- what was cut off was answered so
pub halted_as : (answer : Answer) → is_halted answer ≡ is_cut_off (ending answer)
halted_as (answers.Refused refusal) = refused_as refusal
halted_as answers.Done = refl
halted_as (answers.Slot slot) = refl
halted_as (answers.Term term) = refl
halted_as (answers.Read number) = refl
halted_as (answers.Base base) = refl
halted_as (answers.Job job) = refl

-- where server i is stopped with two states, the last halt tells what its next restart finds
abbrev pub Agrees : (i : ℕ) → Group → Option Halt → History → Type 0
Agrees i g last rest = (life : ℕ) (before after : Durable) → slice_get g.servers i ≡ Some (Stopped life before after) → (before ≡ after) ⊎ (tells_found last ≡ next_found i rest)

-- no server is stopped at the beginning
pub opening_agrees : (setup : Setup) (i : ℕ) (rest : History) → Agrees i (opening setup) None rest
unfolding opening
opening_agrees setup i rest life before after at = absurd (never i at)
  where
    not_so : (failed : Bool) (s : Server) → Some (if failed then Unformatted else Running s) ≡ Some (Stopped life before after) → ⊥
    not_so true s e = cc
    not_so false s e = cc

    never : (i : ℕ) → slice_get (opening setup).servers i ≡ Some (Stopped life before after) → ⊥
    never zero is = not_so _ _ is
    never (suc zero) is = not_so _ _ is
    never (suc (suc zero)) is = not_so _ _ is
    never (suc (suc (suc i))) is = none-some (Stopped life before after) is

module _ (number : ℕ) (setup : Setup) (i : ℕ) where
  -- an event at which the server was not cut off
  kept_on : (g : Group) (last : Option Halt) (h : Happening) (rest : History) → Agrees i g last (h ∷ rest) → (is_halted h.answer ≡ true → server_at g h.event ≢ i) → Agrees i (next_of number setup g h) last rest
  kept_on g last h rest agrees apart life before after at = of (stopped_after setup g h.answer i life before after h.event at)
    where
      of : IsStopped g h.event h.answer i before after → (before ≡ after) ⊎ (tells_found last ≡ next_found i rest)
      of (AsOne same) = inl same
      of (Cut cut acts) = absurd (apart (halted_as h.answer ∙ ap is_cut_off cut) (ap (λ o. unwrap_or o 0) acts))
      of (Still other stands finds) = elim (agrees other before after stands) [ inl same ↦ inl same | inr tells ↦ inr (tells ∙ finds (next_found i rest)) ]

  module _ (n : ℕ) where
    abbrev is_its : Halt → Bool
    is_its h = h.group == number && h.server == i && is_before_place n h.place

    goes_on : (m : ℕ) → m < n → (g : Group) (last : Option Halt) (h : Happening) (rest : History) → Agrees i g last (h ∷ rest) → Agrees i (next_of number setup g h) (last_or last (filter is_its (halts_of_event number g m h rest))) rest
    goes_on m low g last h rest agrees = by_answer (is_halted h.answer) refl
      where
        passes : is_its (halt_of number setup g m h rest) ≡ (server_at g h.event == i)
        passes = ap (λ b. b && server_at g h.event == i && nat_lt m n) (same_number number) ∙ ap (λ b. (server_at g h.event == i) && b) (lt-ltb m n low) ∙ and-true (server_at g h.event == i)

        told : (b : Bool) → Type 0
        told b = Agrees i (next_of number setup g h) (last_or last (cond b (halt_of number setup g m h rest ∷ []) [])) rest

        here : told (server_at g h.event == i)
        here = by_test (server_at g h.event == i) told
            (λ same. λ life before after at. inr (ap (λ j. next_found j rest) (eqb-true (server_at g h.event) i same)))
            (λ apart. kept_on g last h rest agrees (λ _ same. true≢false (sym (same_place same) ∙ apart)))
          where
            same_place : server_at g h.event ≡ i → (server_at g h.event == i) ≡ true
            same_place e = subst (λ j. (server_at g h.event == j) ≡ true) e (same_number (server_at g h.event))

        by_answer : (b : Bool) → is_halted h.answer ≡ b → Agrees i (next_of number setup g h) (last_or last (filter is_its (if b then halt_of number setup g m h rest ∷ [] else []))) rest
        by_answer true is = subst told (sym passes) here
        by_answer false is = kept_on g last h rest agrees (λ yes _. true≢false (sym yes ∙ is))

    none_early : (m : ℕ) → n ≤ m → (rest : History) (g : Group) → filter is_its (halts_from number setup g m rest) ≡ []
    none_early m late rest g = filter_none is_its _ (placed number setup (λ h. is_its h ≡ false) m (λ k server found le. and_false (number == number && server == i) (nat_lt k n) (le-ltb k n (omega arith))) rest g)

    walks : (m : ℕ) (earlier rest : History) (h : Happening) (g : Group) (last : Option Halt) → n ≡ m + length earlier → Agrees i g last (earlier ++ h ∷ rest)
        → Agrees i (run setup g earlier) (last_or last (filter is_its (halts_from number setup g m (earlier ++ h ∷ rest)))) (h ∷ rest)
    walks m [] rest h g last is agrees = subst (λ xs. Agrees i g (last_or last xs) (h ∷ rest)) (sym (none_early m (omega arith) (h ∷ rest) g)) agrees
    walks m (x ∷ xs) rest h g last is agrees =
        let first = halts_of_event number g m x (xs ++ h ∷ rest) in
        let others = halts_from number setup (next_of number setup g x) (suc m) (xs ++ h ∷ rest) in
        let parts : last_or last (filter is_its (first ++ others)) ≡ last_or (last_or last (filter is_its first)) (filter is_its others) = ap (last_or last) (filter-append is_its first others) ∙ last_or_append last (filter is_its first) (filter is_its others) in
        subst (λ o. Agrees i (run setup (next_of number setup g x) xs) o (h ∷ rest)) (sym parts)
        (walks (suc m) xs rest h (next_of number setup g x) (last_or last (filter is_its first)) (omega arith) (goes_on m (omega arith) g last x (xs ++ h ∷ rest) agrees))

  -- the last halt before an event tells what the next restart from there finds
  pub last_tells : (earlier rest : History) (h : Happening) → Agrees i (replay setup earlier) (last_halt (making_halts number setup.failed ++ halts_from number setup (opening setup) 0 (earlier ++ h ∷ rest)) number (length earlier) i) (h ∷ rest)
  last_tells earlier rest h =
      let n = length earlier in
      let ofs = making_halts number setup.failed in
      let events = halts_from number setup (opening setup) 0 (earlier ++ h ∷ rest) in
      let none : filter (is_its n) ofs ≡ [] = filter_none (is_its n) ofs (made number setup (λ x. is_its n x ≡ false) (λ server. and_false (number == number && server == i) false refl) setup.failed) in
      let parts : last_or None (filter (is_its n) (ofs ++ events)) ≡ last_or None (filter (is_its n) events) = ap (last_or None) (filter-append (is_its n) ofs events ∙ ap (λ xs. xs ++ filter (is_its n) events) none) in
      subst (λ o. Agrees i (replay setup earlier) o (h ∷ rest)) (sym parts) (walks n 0 earlier rest h (opening setup) None (omega arith) (opening_agrees setup i (earlier ++ h ∷ rest)))

-- a restart comes to the same state with either flag, where it asks for none, and with the same one
module _ (setup : Setup) (g : Group) (i : ℕ) where
  same_begun : (how : Ending) (life : ℕ) (d e before after : Durable) → (how ≡ Whole → d ≡ e) → server_begun how g i life d before after ≡ server_begun how g i life e before after
  same_begun Whole life d e before after same = ap (λ x. server_begun Whole g i life x before after) (same refl)
  same_begun CutOff life d e before after same = refl
  same_begun Missed life d e before after same = refl
  same_begun Untouched life d e before after same = refl

  same_choice : (x found : Bool) (before after : Durable) → before ≡ after → cond x after before ≡ cond found after before
  same_choice true true before after same = refl
  same_choice true false before after same = sym same
  same_choice false true before after same = same
  same_choice false false before after same = refl

  not_whole : CutOff ≡ Whole → ⊥
  not_whole e = cc

  restart_done : (found : Bool) (answer : Answer) (life : ℕ) (before after : Durable) → IsAnswer setup g (Restart i found) answer → slice_get g.servers i ≡ Some (Stopped life before after) → ending answer ≡ Whole → answer ≡ answers.Done
  unfolding answer_to
  restart_done found answer life before after is at whole = elim is [
    | inl right ↦ right ∙ ap restart_answer at
    | inr cut ↦ absurd (not_whole (sym (ap ending cut.1) ∙ whole))
  ]

  pub restart_same : (found : Bool) (answer : Answer) (last : Option Halt) (rest : History) → IsAnswer setup g (Restart i found) answer → Agrees i g last (record { event = Restart i found; answer = answer } ∷ rest) → happens setup g (Restart i (tells_found last)) (ending answer) ≡ happens setup g (Restart i found) (ending answer)
  unfolding happens
  restart_same found answer last rest is agrees = at_condition (slice_get g.servers i) refl
    where
      flags : (life : ℕ) (before after : Durable) → slice_get g.servers i ≡ Some (Stopped life before after) → ending answer ≡ Whole → cond (tells_found last) after before ≡ cond found after before
      flags life before after at whole = elim (agrees life before after at) [
        | inl same ↦ same_choice (tells_found last) found before after same
        | inr tells ↦ ap (λ b. cond b after before) (
            tells
            ∙ ap (λ a. restart_found i (Restart i found) a (next_found i rest)) (restart_done found answer life before after is at whole)
            ∙ cond-true (i == i) found (next_found i rest) (same_number i)
            )
      ]

      at_condition : (c : Option Condition) → slice_get g.servers i ≡ c → restart (ending answer) g i (tells_found last) c ≡ restart (ending answer) g i found c
      at_condition (Some (Running s)) at = refl
      at_condition (Some (Stopped life before after)) at = same_begun (ending answer) life _ _ before after (flags life before after at)
      at_condition (Some Unformatted) at = refl
      at_condition None at = refl

-- an event comes to the same state with what the list tells
module _ (halts : List Halt) (setup : Setup) (number n : ℕ) (g : Group) (answer : Answer) (rest : History) where
  abbrev AllAgree : Event → Type 0
  AllAgree event = (i : ℕ) → Agrees i g (last_halt halts number n i) (record { event = event; answer = answer } ∷ rest)

  pub listed_same : (event : Event) → IsAnswer setup g event answer → AllAgree event → happens setup g (listed_at halts number n event) (ending answer) ≡ happens setup g event (ending answer)
  listed_same (Restart i found) is agrees = restart_same setup g i found answer (last_halt halts number n i) rest is (agrees i)
  listed_same event is agrees = refl
