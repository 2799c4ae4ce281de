-- Moments of a history: what begins it, what goes on from there, and what is legal up to it.
use Rattle.std.proofs.Common.{◌≡◌, ℕ, zero, suc, ◌≤◌, ◌⊎◌, inl, inr, ◌==◌, if◌then◌else◌, List, [], ◌∷◌, ◌++◌, Some, arith, refl, sym, ap, subst, ◌∙◌, le_refl}
use Rattle.std.specs.List.{list_any}
use Rattle.std.proofs.lemmas.List.{append_assoc, append-nil}
use Rattle.std.proofs.lemmas.Option.{same_Some, none-some}
use Rattle.pf_entry.proofs.Cases.{by_test}
use Rattle.pf_protocol.specs.declared.events.Happening.{Happening}
use Rattle.pf_protocol.specs.Servers.{Setup, Server, Running, Unformatted}
use Rattle.pf_protocol.specs.Saving.{restarted}
use Rattle.pf_protocol.specs.Groups.{Group, ending, happens, opening, unless_failed, first_leader, opening_disk}
use Rattle.pf_protocol.specs.Histories.{History, IsPrefix, run, replay, RunsAs}
use Rattle.pf_protocol.specs.Answers.{Claimed, claims_after, claims_of, IsAnswer, IsLegalNext, IsLegalFrom, IsLegal}
use Rattle.pf_protocol.proofs.EventChanges.{goes}

pub whole_prefix : (history : History) → IsPrefix history history
whole_prefix history = record { rest = []; whole = append-nil history }

pub next_prefix : (history : History) (h : Happening) → IsPrefix history (history ++ h ∷ [])
next_prefix history h = record { rest = h ∷ []; whole = refl }

pub prefix_of : (a b c : History) → IsPrefix a b → IsPrefix b c → IsPrefix a c
prefix_of a b c p q = record { rest = p.rest ++ q.rest; whole = sym (append_assoc a p.rest q.rest) ∙ ap (λ hs. hs ++ q.rest) p.whole ∙ q.whole }

pub begins_with : (earlier history : History) (h : Happening) → IsPrefix (earlier ++ h ∷ []) history → IsPrefix earlier history
begins_with earlier history h p = prefix_of earlier (earlier ++ h ∷ []) history (record { rest = h ∷ []; whole = refl }) p

-- of two moments of a history one comes first
pub comparable : (a rest b other : History) → a ++ rest ≡ b ++ other → IsPrefix a b ⊎ IsPrefix b a
comparable [] rest b other is = inl (record { rest = b; whole = refl })
comparable (x ∷ a) rest [] other is = inr (record { rest = x ∷ a; whole = refl })
comparable (x ∷ a) rest (y ∷ b) other is =
    let p : x ∷ (a ++ rest) ≡ y ∷ (b ++ other) = is in
    let head : x ≡ y = cc in
    let tail : a ++ rest ≡ b ++ other = cc in
    elim (comparable a rest b other tail) [
      | inl first ↦ inl (record { rest = first.rest; whole = ap (λ z. z ∷ (a ++ first.rest)) head ∙ ap (λ hs. y ∷ hs) first.whole })
      | inr second ↦ inr (record { rest = second.rest; whole = ap (λ z. z ∷ (b ++ second.rest)) (sym head) ∙ ap (λ hs. x ∷ hs) second.whole })
    ]

-- a property of histories that begins, and goes on by each event
pub by_events : (P : History → Type 0) → P [] → ((history : History) (h : Happening) → P history → P (history ++ h ∷ [])) → (history : History) → P history
by_events P start next history = go [] history start
  where
    go : (done rest : History) → P done → P (done ++ rest)
    go done [] is = subst P (sym (append-nil done)) is
    go done (h ∷ hs) is = subst P (append_assoc done (h ∷ []) hs) (go (done ++ h ∷ []) hs (next done h is))

-- a history in two parts
pub run_parts : (setup : Setup) (g : Group) (earlier rest : History) → run setup g (earlier ++ rest) ≡ run setup (run setup g earlier) rest
run_parts setup g [] rest = refl
run_parts setup g (h ∷ hs) rest = run_parts setup (happens setup g h.event (ending h.answer)) hs rest

pub run_longer : (setup : Setup) (g : Group) (history : History) (h : Happening) → run setup g (history ++ h ∷ []) ≡ happens setup (run setup g history) h.event (ending h.answer)
run_longer setup g [] h = refl
run_longer setup g (x ∷ xs) h = run_longer setup (happens setup g x.event (ending x.answer)) xs h

pub replay_goes_on : (setup : Setup) (history : History) (h : Happening) → replay setup (history ++ h ∷ []) ≡ happens setup (replay setup history) h.event (ending h.answer)
replay_goes_on setup history h = run_longer setup (opening setup) history h

-- the servers that run at the beginning
pub opened : (setup : Setup) (P : Server → Type 0) → P (first_leader setup) → ((i : ℕ) → P (restarted i 0 (opening_disk setup))) → (i : ℕ) (s : Server) → RunsAs (opening setup) i s → P s
unfolding opening
opened setup P first others i s runs = at_place i runs
  where
    of_running : (x y : Server) → Some (Running x) ≡ Some (Running y) → P x → P y
    of_running x y e is = subst P (same_server (same_Some (Running x) (Running y) e)) is
      where
        same_server : Running x ≡ Running y → x ≡ y
        same_server e = cc

    formatted : (k : ℕ) (x : Server) → P x → Some (unless_failed setup k x) ≡ Some (Running s) → P s
    formatted k x is = by_test (list_any (λ j. j == k) setup.failed) (λ c. Some (if c then Unformatted else Running x) ≡ Some (Running s) → P s) (λ _ e. absurd (grind (arith, e))) (λ _ e. of_running x s e is)

    at_place : (i : ℕ) → RunsAs (opening setup) i s → P s
    at_place zero at = formatted 0 (first_leader setup) first at
    at_place (suc zero) at = formatted 1 (restarted 1 0 (opening_disk setup)) (others 1) at
    at_place (suc (suc zero)) at = formatted 2 (restarted 2 0 (opening_disk setup)) (others 2) at
    at_place (suc (suc (suc i))) at = absurd (none-some (Running s) at)

-- no event takes a read's number back
reads_rise : (setup : Setup) (g : Group) (rest : History) → g.reads ≤ (run setup g rest).reads
reads_rise setup g [] = le_refl _
reads_rise setup g (h ∷ hs) = omega (arith, (goes setup g h.event (ending h.answer)).reads, reads_rise setup (happens setup g h.event (ending h.answer)) hs)

pub reads_before : (setup : Setup) (earlier history : History) → IsPrefix earlier history → (replay setup earlier).reads ≤ (replay setup history).reads
reads_before setup earlier history p = subst (λ g. (replay setup earlier).reads ≤ g.reads) (sym (run_parts setup (opening setup) earlier p.rest) ∙ ap (replay setup) p.whole) (reads_rise setup (replay setup earlier) p.rest)

-- one more legal event
legal_from_longer : (setup : Setup) (history : History) (g : Group) (claims : List Claimed) (h : Happening) → IsLegalFrom setup g claims history → IsLegalNext setup (run setup g history) (claims_of claims history) h → IsLegalFrom setup g claims (history ++ h ∷ [])
legal_from_longer setup [] g claims h legal next = (next, tt)
legal_from_longer setup (x ∷ xs) g claims h legal next = (legal.0, legal_from_longer setup xs (happens setup g x.event (ending x.answer)) (claims_after claims x.event x.answer) h legal.1 next)

pub legal_goes_on : (setup : Setup) (history : History) (h : Happening) → IsLegal setup history → IsLegalNext setup (replay setup history) (claims_of [] history) h → IsLegal setup (history ++ h ∷ [])
legal_goes_on setup history h is next = record { is_setup = is.is_setup; legal = legal_from_longer setup history (opening setup) [] h is.legal next }

legal_from_part : (setup : Setup) (earlier rest : History) (g : Group) (claims : List Claimed) → IsLegalFrom setup g claims (earlier ++ rest) → IsLegalFrom setup g claims earlier
legal_from_part setup [] rest g claims legal = tt
legal_from_part setup (x ∷ xs) rest g claims legal = (legal.0, legal_from_part setup xs rest (happens setup g x.event (ending x.answer)) (claims_after claims x.event x.answer) legal.1)

pub legal_before : (setup : Setup) (earlier history : History) → IsPrefix earlier history → IsLegal setup history → IsLegal setup earlier
legal_before setup earlier history p is = record { is_setup = is.is_setup; legal = legal_from_part setup earlier p.rest (opening setup) [] (subst (IsLegalFrom setup (opening setup) []) (sym p.whole) is.legal) }

-- an event of a legal history has its answer
pub legal_at : (setup : Setup) (g : Group) (claims : List Claimed) (before : History) (h : Happening) (rest : History) → IsLegalFrom setup g claims (before ++ h ∷ rest) → IsAnswer setup (run setup g before) h.event h.answer
legal_at setup g claims [] h rest is = is.0.answered
legal_at setup g claims (x ∷ xs) h rest is = legal_at setup (happens setup g x.event (ending x.answer)) (claims_after claims x.event x.answer) xs h rest is.1

-- what each legal event keeps holds after a legal history
pub legal_keeps : (setup : Setup) (P : Group → Type 0) → ((g : Group) (claims : List Claimed) (h : Happening) → IsLegalNext setup g claims h → P g → P (happens setup g h.event (ending h.answer))) → (history : History) (g : Group) (claims : List Claimed) → IsLegalFrom setup g claims history → P g → P (run setup g history)
legal_keeps setup P next [] g claims legal now = now
legal_keeps setup P next (h ∷ hs) g claims legal now =
    legal_keeps setup P next hs (happens setup g h.event (ending h.answer)) (claims_after claims h.event h.answer) legal.1 (next g claims h legal.0 now)
