-- How often the disks of a server failed.
use Rattle.std.proofs.Common.{◌≡◌, ◌≢◌, ℕ, suc, ◌+◌, Bool, true, false, ◌&&◌, ◌==◌, if◌then◌else◌, List, [], ◌∷◌, ◌++◌, Some, count_by, unwrap_or, arith, refl, sym, ap, ◌∙◌}
use Rattle.std.proofs.lemmas.Bool.{ne_eqb}
use Rattle.std.proofs.lemmas.List.Sums.{sum_by-append, sum_by-cons}
use Rattle.pf_protocol.specs.declared.answers.Answer.TheVariants.{Refused}
use Rattle.pf_protocol.specs.declared.answers.Refusal.TheVariants.{Halted}
use Rattle.pf_protocol.specs.declared.events.Happening.{Happening}
use Rattle.pf_protocol.specs.Servers.{Setup}
use Rattle.pf_protocol.specs.Groups.{Group, ending, happens, opening}
use Rattle.pf_protocol.specs.Histories.{History, run}
use Rattle.pf_group.specs.pf_group_network.specs.Going.{acts_at}
use Rattle.pf_group.specs.GroupIs.{GroupIs, state_of}
use Rattle.pf_group_rounds.specs.Halts.{Halt, Making}
use Rattle.pf_group_rounds.specs.Agreeing.{is_halted}
use Rattle.pf_group_rounds.specs.Telling.{halted_at, halt_count, halts_from, halts_of_event, halts_of_group, making_halts, one_if, server_at}
use Rattle.pf_group_rounds.proofs.HaltPlaces.{and_false, halt_of, next_of, same_number}

module _ (number server : ℕ) (setup : Setup) where
  abbrev is_its : Halt → Bool
  is_its h = h.group == number && h.server == server

  made_count : (failed : List ℕ) → count_by is_its (making_halts number failed) ≡ count_by (λ i. i == server) failed
  made_count [] = refl
  made_count (i ∷ is) =
      sum_by-cons (λ h. one_if (is_its h)) (record { group = number; place = Making; server = i; found = false }) (making_halts number is)
      ∙ ap (λ b. one_if (b && i == server) + count_by is_its (making_halts number is)) (same_number number)
      ∙ ap (λ n. one_if (i == server) + n) (made_count is)
      ∙ sym (sum_by-cons (λ j. one_if (j == server)) i is)

  event_count : (g : Group) (n : ℕ) (h : Happening) (rest : History) → count_by is_its (halts_of_event number g n h rest) ≡ one_if (is_halted h.answer && server_at g h.event == server)
  event_count g n h rest = by_answer (is_halted h.answer)
    where
      by_answer : (b : Bool) → count_by is_its (if b then halt_of number setup g n h rest ∷ [] else []) ≡ one_if (b && server_at g h.event == server)
      by_answer true =
          let one : one_if (number == number && server_at g h.event == server) ≡ one_if (server_at g h.event == server) = ap (λ b. one_if (b && server_at g h.event == server)) (same_number number) in
          omega (arith, one)
      by_answer false = refl

  events_count : (g : Group) (n : ℕ) (history : History) → count_by is_its (halts_from number setup g n history) ≡ halted_at server setup g history
  events_count g n [] = refl
  events_count g n (h ∷ hs) =
      sum_by-append (λ x. one_if (is_its x)) (halts_of_event number g n h hs) (halts_from number setup (next_of number setup g h) (suc n) hs)
      ∙ ap (λ k. k + count_by is_its (halts_from number setup (next_of number setup g h) (suc n) hs)) (event_count g n h hs)
      ∙ ap (λ k. one_if (is_halted h.answer && server_at g h.event == server) + k) (events_count (next_of number setup g h) (suc n) hs)

-- the making's, and those of the events
pub halts_counted : (g : GroupIs) (server : ℕ) → halt_count (halts_of_group g) g.number server ≡ count_by (λ i. i == server) g.setup.failed + halted_at server g.setup (opening g.setup) g.history
halts_counted g server =
    let made = making_halts g.number g.setup.failed in
    let events = halts_from g.number g.setup (opening g.setup) 0 g.history in
    sum_by-append (λ h. one_if (h.group == g.number && h.server == server)) made events
    ∙ ap (λ n. n + halt_count events g.number server) (made_count g.number server g.setup g.setup.failed)
    ∙ ap (λ n. count_by (λ i. i == server) g.setup.failed + n) (events_count g.number server g.setup (opening g.setup) 0 g.history)

-- one more event
halted_longer : (server : ℕ) (setup : Setup) (g : Group) (history : History) (h : Happening) → halted_at server setup g (history ++ h ∷ []) ≡ halted_at server setup g history + one_if (is_halted h.answer && server_at (run setup g history) h.event == server)
halted_longer server setup g [] h = omega arith
halted_longer server setup g (x ∷ xs) h = omega (arith, halted_longer server setup (happens setup g x.event (ending x.answer)) xs h)

module _ (g : GroupIs) (h : Happening) (server : ℕ) where
  abbrev halts_of : GroupIs → ℕ
  halts_of x = halt_count (halts_of_group x) x.number server

  abbrev longer : GroupIs
  longer = record g { history = g.history ++ h ∷ [] }

  pub halts_grow : halts_of longer ≡ halts_of g + one_if (is_halted h.answer && server_at (state_of g) h.event == server)
  halts_grow = omega (arith, halts_counted longer server, halts_counted g server, halted_longer server g.setup (opening g.setup) g.history h)

  -- that was not halted
  pub halts_stay : is_halted h.answer ≡ false → halts_of longer ≡ halts_of g
  halts_stay whole = omega (arith, halts_grow, ap (λ b. one_if (b && server_at (state_of g) h.event == server)) whole)

  -- that was halted at this server
  pub halts_rise : h.answer ≡ Refused Halted → acts_at (state_of g) h.event ≡ Some server → halts_of longer ≡ suc (halts_of g)
  halts_rise halted here =
      let one : one_if (is_halted h.answer && server_at (state_of g) h.event == server) ≡ 1 =
      ap (λ answer. one_if (is_halted answer && server_at (state_of g) h.event == server)) halted
      ∙ ap (λ o. one_if (unwrap_or o 0 == server)) here
      ∙ ap one_if (same_number server) in
      omega (arith, halts_grow, one)

  -- that took place at another one
  pub halts_elsewhere : (i : ℕ) → acts_at (state_of g) h.event ≡ Some i → i ≢ server → halts_of longer ≡ halts_of g
  halts_elsewhere i there apart =
      let none : one_if (is_halted h.answer && server_at (state_of g) h.event == server) ≡ 0 = ap one_if (and_false (is_halted h.answer) (server_at (state_of g) h.event == server) (ap (λ o. unwrap_or o 0 == server) there ∙ ne_eqb i server apart)) in
      omega (arith, halts_grow, none)
