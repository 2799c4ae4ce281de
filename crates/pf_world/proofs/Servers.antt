-- What is cut off is one of three servers.
use Rattle.std.proofs.Common.{◌≡◌, ℕ, suc, ◌+◌, ◌<◌, ◌≤◌, Bool, true, false, if◌then◌else◌, List, [], ◌∷◌, ◌++◌, length, unwrap_or, arith, refl, sym, subst}
use Rattle.pf_entry.specs.Lists.{Every}
use Rattle.pf_entry.proofs.Lists.{every_append, every_map, every_more}
use Rattle.pf_protocol.specs.declared.events.Happening.{Happening}
use Rattle.pf_protocol.specs.Servers.{Setup}
use Rattle.pf_protocol.specs.Groups.{Group, ending, happens, opening}
use Rattle.pf_protocol.specs.Histories.{History, replay}
use Rattle.pf_protocol.specs.Answers.{Claimed, IsAnswer, IsLegal, IsLegalFrom, claims_after}
use Rattle.pf_protocol.proofs.ForMoments.{replay_goes_on}
use Rattle.pf_protocol.proofs.ForHistories.{is_member}
use Rattle.pf_live_session.specs.pf_group.specs.GroupIs.{GroupIs}
use Rattle.pf_live_session.specs.pf_group_rounds.specs.Halts.{At, Halt}
use Rattle.pf_live_session.specs.pf_group_rounds.specs.Agreeing.{is_halted}
use Rattle.pf_live_session.specs.pf_group_rounds.specs.Telling.{halts_from, halts_of_event, halts_of_group, making_halts, next_found, server_at}
use Rattle.pf_live_session.specs.pf_group_rounds.proofs.CutOffEvents.{halted_there}
use Rattle.pf_live_session.specs.pf_group_rounds.proofs.FollowedHistories.{halted_is}
use Rattle.pf_world.specs.Headline.{IsHaltPlaceOf}

-- a halt of one of the servers of this group
abbrev pub IsOwn : (number : ℕ) → Halt → Type 0
IsOwn number h = (h.group ≡ number) × (h.server < 3)

module _ (number : ℕ) (setup : Setup) where
  abbrev server_of : History → Happening → ℕ
  server_of earlier h = server_at (replay setup earlier) h.event

  server_low : (earlier : History) (h : Happening) → IsAnswer setup (replay setup earlier) h.event h.answer → is_halted h.answer ≡ true → server_of earlier h < 3
  server_low earlier h is cut =
      let g = replay setup earlier in
      let acts = halted_there setup g h.event (subst (IsAnswer setup g h.event) (halted_is h.answer cut) is) in
      subst (λ o. unwrap_or o 0 < 3) (sym acts.1) (is_member setup earlier acts.0 acts.2.0 acts.2.1)

  event_own : (earlier rest : History) (n : ℕ) (h : Happening) → IsAnswer setup (replay setup earlier) h.event h.answer → Every (IsOwn number) (halts_of_event number (replay setup earlier) n h rest)
  event_own earlier rest n h is = by (is_halted h.answer) refl
    where
      by : (b : Bool) → is_halted h.answer ≡ b → Every (IsOwn number) (if b then record { group = number; place = At n; server = server_of earlier h; found = next_found (server_of earlier h) rest } ∷ [] else [])
      by true cut = ((refl, server_low earlier h is cut), tt)
      by false whole = tt

  events_own : (rest earlier : History) (n : ℕ) (claims : List Claimed) → IsLegalFrom setup (replay setup earlier) claims rest → Every (IsOwn number) (halts_from number setup (replay setup earlier) n rest)
  events_own [] earlier n claims legal = tt
  events_own (h ∷ hs) earlier n claims legal =
      let on = replay_goes_on setup earlier h in
      every_append (IsOwn number) (halts_of_event number (replay setup earlier) n h hs) _
      (event_own earlier hs n h legal.0.answered)
      (subst (λ g. Every (IsOwn number) (halts_from number setup g (suc n) hs)) on
      (events_own hs (earlier ++ h ∷ []) (suc n) (claims_after claims h.event h.answer)
      (subst (λ g. IsLegalFrom setup g (claims_after claims h.event h.answer) hs) (sym on) legal.1)))

  made_own : (failed : List ℕ) → Every (λ i. i < 3) failed → Every (IsOwn number) (making_halts number failed)
  made_own failed few = every_map (IsOwn number) _ failed (every_more (λ i. i < 3) _ (λ i low. (refl, low)) failed few)

pub halts_own : (g : GroupIs) → IsLegal g.setup g.history → Every (λ i. i < 3) g.setup.failed → Every (IsOwn g.number) (halts_of_group g)
halts_own g legal few =
    every_append (IsOwn g.number) (making_halts g.number g.setup.failed) _ (made_own g.number g.setup g.setup.failed few) (events_own g.number g.setup g.history [] 0 [] legal.legal)

-- a halt of this group stands in its making, or in its history
abbrev pub IsPlaced : GroupIs → Halt → Type 0
IsPlaced g h = (h.group ≡ g.number) × IsHaltPlaceOf g h.place

events_placed : (of : GroupIs) (hs : History) (g : Group) (m : ℕ) → m + length hs ≤ length of.history → Every (IsPlaced of) (halts_from of.number of.setup g m hs)
events_placed of [] g m low = tt
events_placed of (h ∷ hs) g m low =
    every_append (IsPlaced of) (halts_of_event of.number g m h hs) _ (by (is_halted h.answer)) (events_placed of hs (happens of.setup g h.event (ending h.answer)) (suc m) (omega (arith, low)))
  where
    by : (b : Bool) → Every (IsPlaced of) (if b then record { group = of.number; place = At m; server = server_at g h.event; found = next_found (server_at g h.event) hs } ∷ [] else [])
    by true = ((refl, omega (arith, low)), tt)
    by false = tt

made_placed : (of : GroupIs) (failed : List ℕ) → Every (IsPlaced of) (making_halts of.number failed)
made_placed of [] = tt
made_placed of (i ∷ failed) = ((refl, tt), made_placed of failed)

pub halts_placed : (g : GroupIs) → Every (IsPlaced g) (halts_of_group g)
halts_placed g = every_append (IsPlaced g) (making_halts g.number g.setup.failed) _ (made_placed g g.setup.failed) (events_placed g g.history (opening g.setup) 0 (omega arith))
