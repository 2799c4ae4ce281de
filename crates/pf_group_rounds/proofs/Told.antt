-- A history as a run has it: as long, of the same answers and states, and as legal.
use Rattle.std.proofs.Common.{◌≡◌, ℕ, suc, ◌+◌, List, [], ◌∷◌, ◌++◌, length, refl, sym, ap, subst, ◌∙◌, append_assoc, arith}
use Rattle.std.proofs.lemmas.List.{length-append}
use Rattle.pf_protocol.specs.declared.answers.Answer.{Answer}
use Rattle.pf_protocol.specs.declared.events.Event.{Event}
use Rattle.pf_protocol.specs.declared.events.Event.TheVariants.{Restart}
use Rattle.pf_protocol.specs.Servers.{Setup}
use Rattle.pf_protocol.specs.Groups.{Group, ending, happens, opening}
use Rattle.pf_protocol.specs.Histories.{History, replay, run}
use Rattle.pf_protocol.specs.Answers.{Claimed, IsAnswer, IsLegal, IsLegalFrom, MayHappen, answer_to, claims_after, may_halt}
use Rattle.pf_protocol.proofs.ForMoments.{replay_goes_on}
use Rattle.pf_group.specs.GroupIs.{GroupIs, state_of}
use Rattle.pf_group_rounds.specs.Halts.{Halt}
use Rattle.pf_group_rounds.specs.Chunks.{listed_at}
use Rattle.pf_group_rounds.specs.Agreeing.{TellsOfGroup, told_from, told_history}

-- two events that are answered alike, wherever they may happen
record AreAlike (e f : Event) : Type 0 where
  asked : (claims : List Claimed) → MayHappen claims e → MayHappen claims f
  answered : (setup : Setup) (g : Group) (answer : Answer) → IsAnswer setup g e answer → IsAnswer setup g f answer
  claimed : (claims : List Claimed) (answer : Answer) → claims_after claims e answer ≡ claims_after claims f answer

itself : (e : Event) → AreAlike e e
itself e = record { asked = λ claims may. may; answered = λ setup g answer is. is; claimed = λ claims answer. refl }

module _ (halts : List Halt) (number : ℕ) where
  pub told_length : (n : ℕ) (xs : History) → length (told_from halts number n xs) ≡ length xs
  told_length n [] = refl
  told_length n (x ∷ xs) = ap suc (told_length (suc n) xs)

  pub told_longer : (n : ℕ) (xs ys : History) → told_from halts number n (xs ++ ys) ≡ told_from halts number n xs ++ told_from halts number (n + length xs) ys
  told_longer n [] ys = let same : n ≡ n + 0 = omega arith in ap (λ k. told_from halts number k ys) same
  told_longer n (x ∷ xs) ys =
      let same : suc n + length xs ≡ n + length (x ∷ xs) = omega arith in
      ap (λ rest. record x { event = listed_at halts number n x.event } ∷ rest) (told_longer (suc n) xs ys ∙ ap (λ k. told_from halts number (suc n) xs ++ told_from halts number k ys) same)

  -- what a restart finds is not asked
  listed_alike : (n : ℕ) (event : Event) → AreAlike event (listed_at halts number n event)
  unfolding answer_to may_halt
  listed_alike n (Restart i found) = record { asked = λ claims may. may; answered = λ setup g answer is. is; claimed = λ claims answer. refl }
  listed_alike n event = itself event

  module _ (setup : Setup) where
    -- with what the list tells, each event comes to the same state
    abbrev AreFound : (n : ℕ) → Group → History → Type 0
    AreFound n g [] = Unit {0}
    AreFound n g (h ∷ hs) = (happens setup g (listed_at halts number n h.event) (ending h.answer) ≡ happens setup g h.event (ending h.answer)) × AreFound (suc n) (happens setup g h.event (ending h.answer)) hs

    told_run : (n : ℕ) (g : Group) (hs : History) → AreFound n g hs → run setup g (told_from halts number n hs) ≡ run setup g hs
    told_run n g [] found = refl
    told_run n g (h ∷ hs) found =
        ap (λ x. run setup x (told_from halts number (suc n) hs)) found.0 ∙ told_run (suc n) (happens setup g h.event (ending h.answer)) hs found.1

    legal_told : (n : ℕ) (g : Group) (claims : List Claimed) (hs : History) → AreFound n g hs → IsLegalFrom setup g claims hs → IsLegalFrom setup g claims (told_from halts number n hs)
    legal_told n g claims [] found legal = tt
    legal_told n g claims (h ∷ hs) found legal =
        let alike = listed_alike n h.event in
        let rest = legal_told (suc n) (happens setup g h.event (ending h.answer)) (claims_after claims h.event h.answer) hs found.1 legal.1 in (
          record { asked = alike.asked claims legal.0.asked; answered = alike.answered setup g h.answer legal.0.answered },
          subst (λ x. IsLegalFrom setup x (claims_after claims (listed_at halts number n h.event) h.answer) (told_from halts number (suc n) hs)) (sym found.0)
              (subst (λ cs. IsLegalFrom setup (happens setup g h.event (ending h.answer)) cs (told_from halts number (suc n) hs)) (alike.claimed claims h.answer) rest),
        )

module _ (halts : List Halt) (g : GroupIs) (tells : TellsOfGroup halts g) where
  found_from : (earlier rest : History) → earlier ++ rest ≡ g.history → AreFound halts g.number g.setup (length earlier) (replay g.setup earlier) rest
  found_from earlier [] whole = tt
  found_from earlier (h ∷ hs) whole =
      let longer = append_assoc earlier (h ∷ []) hs ∙ whole in
      let more : length (earlier ++ h ∷ []) ≡ suc (length earlier) = length-append earlier (h ∷ []) ∙ omega arith in
      let here = (tells.events earlier h (record { rest = hs; whole = longer })).found in
      let next = found_from (earlier ++ h ∷ []) hs longer in (
        subst (λ n. happens g.setup (replay g.setup earlier) (listed_at halts g.number n h.event) (ending h.answer) ≡ happens g.setup (replay g.setup earlier) h.event (ending h.answer)) (told_length halts g.number 0 earlier) here,
        subst (λ state. AreFound halts g.number g.setup (suc (length earlier)) state hs) (replay_goes_on g.setup earlier h)
            (subst (λ n. AreFound halts g.number g.setup n (replay g.setup (earlier ++ h ∷ [])) hs) more next),
      )

  -- it comes to the same state
  pub told_replays : replay g.setup (told_history halts g) ≡ state_of g
  told_replays = told_run halts g.number g.setup 0 (opening g.setup) g.history (found_from [] g.history refl)

  -- and is as legal
  pub told_legal : IsLegal g.setup g.history → IsLegal g.setup (told_history halts g)
  told_legal legal = record { is_setup = legal.is_setup; legal = legal_told halts g.number g.setup 0 (opening g.setup) [] g.history (found_from [] g.history refl) legal.legal }
