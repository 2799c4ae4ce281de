-- The list behind the turn grows by one entry at a time, and its happenings are the group's history.
use Rattle.std.proofs.Common.{◌≡◌, ℕ, ◌+◌, List, [], ◌∷◌, ◌++◌, length, sym, refl, ap, ◌∙◌, subst, arith}
use Rattle.pf_turn.specs.declared.log.Stamped.{Stamped}
use Rattle.pf_protocol.specs.declared.events.Happening.{Happening}
use Rattle.pf_protocol.specs.Histories.{History}
use Rattle.pf_shared.specs.declared.moment.SeatMoment.TheVariants.{Happened, Look}
use Rattle.pf_shared.specs.declared.moment.Did.{Did}
use Rattle.pf_shared.specs.declared.moment.Did.TheVariants.{Acted, Looked}
use Rattle.pf_shared.specs.Moments.{entry, happenings}
use Rattle.pf_shared.specs.Woven.{next_entry, rest_of_history, woven, step_count, steps_in}

abbrev pub did : ℕ → Did → Stamped Did
did seat what = record { seat = seat; what = what }

pub steps-append : (ds : List (Stamped Did)) (seat : ℕ) (what : Did) → steps_in (ds ++ did seat what ∷ []) ≡ steps_in ds + step_count what
steps-append [] seat what = omega arith
steps-append (d ∷ ds) seat what = let ih = steps-append ds seat what in omega arith

-- an event is one more entry, with what happened
abbrev Grows : ℕ → Happening → List (Stamped Did) → History → Type 0
Grows n h ds hs = woven (ds ++ did n Acted ∷ []) (hs ++ h ∷ []) ≡ woven ds hs ++ entry n (Happened h) ∷ []

event_first : (n : ℕ) (h : Happening) (seat : ℕ) (what : Did) (ds : List (Stamped Did)) → ((hs : History) → steps_in ds ≡ length hs → Grows n h ds hs) → (hs : History) → step_count what + steps_in ds ≡ length hs → Grows n h (did seat what ∷ ds) hs
event_first n h seat (Looked read) ds ih hs count = ap (λ l. entry seat (Look read) ∷ l) (ih hs (omega arith))
event_first n h seat Acted ds ih [] count = absurd (omega arith)
event_first n h seat Acted ds ih (x ∷ xs) count = ap (λ l. entry seat (Happened x) ∷ l) (ih xs (omega arith))

pub woven-event : (n : ℕ) (h : Happening) (ds : List (Stamped Did)) (hs : History) → steps_in ds ≡ length hs → Grows n h ds hs
woven-event n h [] [] count = refl
woven-event n h [] (x ∷ xs) count = absurd (omega arith)
woven-event n h (d ∷ ds) hs count = event_first n h d.seat d.what ds (λ l c. woven-event n h ds l c) hs count

-- a look is one more entry
abbrev Looks : ℕ → Did → List (Stamped Did) → History → Type 0
Looks n what ds hs = woven (ds ++ did n what ∷ []) hs ≡ woven ds hs ++ next_entry n what []

pub woven-look : (n : ℕ) (what : Did) (ds : List (Stamped Did)) (hs : History) → step_count what ≡ 0 → woven (ds ++ did n what ∷ []) hs ≡ woven ds hs ++ next_entry n what []
woven-look n (Looked read) [] hs looks = refl
woven-look n Acted [] hs looks = absurd (omega arith)
woven-look n what (d ∷ ds) hs looks = ap (λ l. next_entry d.seat d.what hs ++ l) (woven-look n what ds (rest_of_history d.what hs) looks) ∙ sym (Rattle.std.proofs.Common.append_assoc (next_entry d.seat d.what hs) (woven ds (rest_of_history d.what hs)) (next_entry n what []))

happened_first : (seat : ℕ) (what : Did) (ds : List (Stamped Did)) → ((hs : History) → steps_in ds ≡ length hs → happenings (woven ds hs) ≡ hs) → (hs : History) → step_count what + steps_in ds ≡ length hs → happenings (woven (did seat what ∷ ds) hs) ≡ hs
happened_first seat (Looked read) ds ih hs count = ih hs (omega arith)
happened_first seat Acted ds ih [] count = absurd (omega arith)
happened_first seat Acted ds ih (x ∷ xs) count = ap (λ l. x ∷ l) (ih xs (omega arith))

pub happenings-woven : (ds : List (Stamped Did)) (hs : History) → steps_in ds ≡ length hs → happenings (woven ds hs) ≡ hs
happenings-woven [] [] count = refl
happenings-woven [] (x ∷ xs) count = absurd (omega arith)
happenings-woven (d ∷ ds) hs count = happened_first d.seat d.what ds (λ l c. happenings-woven ds l c) hs count
