-- The halts of a group tell of it.
use Rattle.std.proofs.Common.{◌≡◌, ℕ, suc, ◌<◌, Bool, true, ◌&&◌, ◌==◌, List, [], ◌∷◌, ◌++◌, length, map, Some, None, refl, sym, ap, subst, ◌∙◌, append_assoc}
use Rattle.std.specs.List.{last_or}
use Rattle.std.specs.Prelude.{IsTrue}
use Rattle.std.proofs.lemmas.Bool.{false≢true}
use Rattle.pf_entry.specs.Lists.{Every}
use Rattle.pf_protocol.specs.Answers.{Claimed, IsAnswer, IsLegal, IsLegalFrom, claims_after}
use Rattle.pf_protocol.specs.Groups.{Group, ending, happens, opening}
use Rattle.pf_protocol.specs.Histories.{History, IsPrefix, replay, run}
use Rattle.pf_protocol.specs.Servers.{Setup}
use Rattle.pf_protocol.specs.declared.events.Event.{Event}
use Rattle.pf_protocol.specs.declared.events.Event.TheVariants.{Restart}
use Rattle.pf_protocol.specs.declared.events.Happening.{Happening}
use Rattle.pf_protocol.proofs.ForMoments.{legal_before}
use Rattle.pf_protocol.proofs.ForHistories.{legal_fits}
use Rattle.pf_group.specs.pf_group_network.specs.Going.{acts_at}
use Rattle.pf_group.specs.GroupIs.{GroupIs}
use Rattle.pf_group_rounds.specs.Halts.{Halt, failed_by, restart_finds, is_place_of_event, is_before_place, is_cut, is_making, tells_found}
use Rattle.pf_group_rounds.specs.Chunks.{Chunk, listed_at}
use Rattle.pf_group_rounds.specs.Agreeing.{HaltsTellOf, TellsOfGroup, at_moment, is_halted, is_halt_of, told_from}
use Rattle.pf_group_rounds.specs.Telling.{halts_of_group, of_group}
use Rattle.pf_group_rounds.proofs.Filters.{any_within, every_within, filter_within}
use Rattle.pf_group_rounds.proofs.RestartFinds.{last_tells, listed_same}
use Rattle.pf_group_rounds.proofs.HaltPlaces.{cut_in, made_in, own_in}
use Rattle.pf_group_rounds.proofs.CutOffEvents.{halted_at_own}
use Rattle.pf_group_rounds.proofs.Told.{told_length}

-- each event of a legal history has its answer
answered_from : (setup : Setup) (earlier : History) (h : Happening) (g : Group) (claims : List Claimed) → IsLegalFrom setup g claims (earlier ++ h ∷ []) → IsAnswer setup (run setup g earlier) h.event h.answer
answered_from setup [] h g claims legal = legal.0.answered
answered_from setup (x ∷ xs) h g claims legal = answered_from setup xs h (happens setup g x.event (ending x.answer)) (claims_after claims x.event x.answer) legal.1

answered_in : (setup : Setup) (history earlier : History) (h : Happening) → IsLegal setup history → IsPrefix (earlier ++ h ∷ []) history → IsAnswer setup (replay setup earlier) h.event h.answer
answered_in setup history earlier h legal before = answered_from setup earlier h (opening setup) [] (legal_before setup (earlier ++ h ∷ []) history before legal).legal

-- what a list tells of the event at this place
tells_in : (halts : List Halt) (c : Chunk) (h : Happening) (n : ℕ) → n ≡ length c.history → is_cut halts c.number n ≡ is_halted h.answer → Every (λ x. (x.group == c.number && is_place_of_event n x.place) ≡ true → (acts_at c.state h.event ≡ Some x.server) × (x.server < 3)) halts → happens c.setup c.state (listed_at halts c.number n h.event) (ending h.answer) ≡ happens c.setup c.state h.event (ending h.answer) → HaltsTellOf halts c h
tells_in halts c h n here cut own found = record {
  cut = subst (λ k. is_cut halts c.number k ≡ is_halted h.answer) here cut;
  own = subst (λ k. Every (λ x. (x.group == c.number && is_place_of_event k x.place) ≡ true → (acts_at c.state h.event ≡ Some x.server) × (x.server < 3)) halts) here own;
  found = subst (λ k. happens c.setup c.state (listed_at halts c.number k h.event) (ending h.answer) ≡ happens c.setup c.state h.event (ending h.answer)) here found;
}

module _ (g : GroupIs) where
  abbrev halts_after : History → List Halt
  halts_after history = halts_of_group (record g { history = history })

  tells_here : (earlier rest : History) (h : Happening) → IsLegal g.setup earlier → IsAnswer g.setup (replay g.setup earlier) h.event h.answer → HaltsTellOf (halts_after (earlier ++ h ∷ rest)) (at_moment (halts_after (earlier ++ h ∷ rest)) g earlier) h
  tells_here earlier rest h legal is =
      let halts = halts_after (earlier ++ h ∷ rest) in
      let state = replay g.setup earlier in
      tells_in halts (at_moment halts g earlier) h (length earlier) (sym (told_length halts g.number 0 earlier))
      (cut_in g.number g.setup earlier rest h)
      (own_in g.number g.setup (λ i. (acts_at state h.event ≡ Some i) × (i < 3)) earlier rest h (halted_at_own g.setup state (length earlier) h.event h.answer (legal_fits g.setup earlier legal) is))
      (listed_same halts g.setup g.number (length earlier) state h.answer rest h.event is (λ i. last_tells g.number g.setup i earlier rest h))

  tells_at : (earlier : History) (h : Happening) → IsLegal g.setup g.history → IsPrefix (earlier ++ h ∷ []) g.history → HaltsTellOf (halts_of_group g) (at_moment (halts_of_group g) g earlier) h
  tells_at earlier h legal before =
      let whole : earlier ++ h ∷ before.rest ≡ g.history = sym (append_assoc earlier (h ∷ []) before.rest) ∙ before.whole in
      let was = legal_before g.setup earlier g.history (record { rest = h ∷ before.rest; whole = whole }) legal in
      subst (λ history. HaltsTellOf (halts_after history) (at_moment (halts_after history) g earlier) h) whole (tells_here earlier before.rest h was (answered_in g.setup g.history earlier h legal before))

  -- some list tells of every group
  pub tells_of_group : IsTrue g.told → Every (λ i. i < 3) g.setup.failed → IsLegal g.setup g.history → TellsOfGroup (halts_of_group g) g
  tells_of_group told few legal = record { told = told; making = made_in g.number g.setup g.history; few = few; events = λ earlier h before. tells_at earlier h legal before }

-- a group is told of by the halts that are of it
module _ (halts : List Halt) (number : ℕ) where
  abbrev is_its : Halt → Bool
  is_its h = h.group == number

  own_failed : failed_by (of_group halts number) number ≡ failed_by halts number
  own_failed = ap (map (λ (h : Halt). h.server)) (filter_within is_its (λ h. h.group == number && is_making h.place) (λ h other. ap (λ b. b && is_making h.place) other) halts)

  own_cut : (n : ℕ) → is_cut (of_group halts number) number n ≡ is_cut halts number n
  own_cut n = any_within is_its (λ h. h.group == number && is_place_of_event n h.place) (λ h other. ap (λ b. b && is_place_of_event n h.place) other) halts

  own_found : (n i : ℕ) → restart_finds (of_group halts number) number n i ≡ restart_finds halts number n i
  own_found n i = ap (λ xs. tells_found (last_or None xs)) (filter_within is_its (λ h. h.group == number && h.server == i && is_before_place n h.place) (λ h other. ap (λ b. b && h.server == i && is_before_place n h.place) other) halts)

  own_listed : (n : ℕ) (event : Event) → listed_at (of_group halts number) number n event ≡ listed_at halts number n event
  own_listed n (Restart i found) = ap (Restart i) (own_found n i)
  own_listed n event = refl

  own_told : (n : ℕ) (hs : History) → told_from (of_group halts number) number n hs ≡ told_from halts number n hs
  own_told n [] = refl
  own_told n (h ∷ hs) = ap (λ event. record h { event = event } ∷ told_from (of_group halts number) number (suc n) hs) (own_listed n h.event) ∙ ap (λ rest. record h { event = listed_at halts number n h.event } ∷ rest) (own_told (suc n) hs)

own_event : (halts : List Halt) (c : Chunk) (h : Happening) → HaltsTellOf (of_group halts c.number) c h → HaltsTellOf halts c h
own_event halts c h tells = record {
  cut = sym (own_cut halts c.number (length c.history)) ∙ tells.cut;
  own = every_within (λ x. x.group == c.number) (λ x. is_halt_of c x ≡ true → (acts_at c.state h.event ≡ Some x.server) × (x.server < 3)) (λ x other cut. absurd (false≢true (sym (ap (λ b. b && is_place_of_event (length c.history) x.place) other) ∙ cut))) halts tells.own;
  found = ap (λ event. happens c.setup c.state event (ending h.answer)) (sym (own_listed halts c.number (length c.history) h.event)) ∙ tells.found;
}

pub own_tells : (halts : List Halt) (g : GroupIs) → TellsOfGroup (of_group halts g.number) g → TellsOfGroup halts g
own_tells halts g tells = record {
  told = tells.told;
  making = sym (own_failed halts g.number) ∙ tells.making;
  few = tells.few;
  events = λ earlier h before.
      let here = ap (λ history. record (at_moment halts g earlier) { history = history }) (own_told halts g.number 0 earlier) in
      own_event halts (at_moment halts g earlier) h (subst (λ c. HaltsTellOf (of_group halts g.number) c h) here (tells.events earlier h before));
}

-- a list in which the halts of a group are those of its history tells of it
pub tells_among : (halts : List Halt) (g : GroupIs) → of_group halts g.number ≡ halts_of_group g → IsTrue g.told → Every (λ i. i < 3) g.setup.failed → IsLegal g.setup g.history → TellsOfGroup halts g
tells_among halts g same told few legal = own_tells halts g (subst (λ xs. TellsOfGroup xs g) (sym same) (tells_of_group g told few legal))
