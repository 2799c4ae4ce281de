-- Reads that wait, and what is known of them without going through them.
use Rattle.std.specs.Prelude.{◌≡◌, ◌≢◌, ℕ, Bool, true, false, not, ◌&&◌, ◌==◌, List, map, filter, Option, Some, None, slice_get}
use Rattle.std.specs.List.{list_all, list_any}
use Rattle.pf_entry.specs.Lists.{Every}
use Rattle.pf_chunk_waiting.specs.declared.waiting.Waiting.{Waiting}

pub record WaitingAre : Type 0 where
  pub items : List Waiting
  pub places : ℕ  -- for more

abbrev pub waiting_numbers : List Waiting → List ℕ
waiting_numbers waiting = map (λ w. w.number) waiting

abbrev pub is_term : Option (Option ℕ) → (term : ℕ) → Bool
is_term (Some (Some here)) term = here == term
is_term (Some None) term = false
is_term None term = false

-- its server runs in its term
abbrev pub is_in_term : (terms : List (Option ℕ)) → Waiting → Bool
is_in_term terms w = is_term (slice_get terms w.server) w.term

abbrev pub are_in_terms : (terms : List (Option ℕ)) → List Waiting → Bool
are_in_terms terms waiting = list_all (is_in_term terms) waiting

-- none has this number
abbrev pub HaveNot : List Waiting → ℕ → Type 0
HaveNot waiting number = Every (λ w. w.number ≢ number) waiting

-- one of these numbers is this one
abbrev pub has : List ℕ → ℕ → Bool
has numbers number = list_any (λ n. n == number) numbers

-- all but the one of this number
abbrev pub without_read : ℕ → List Waiting → List Waiting
without_read number waiting = filter (λ w. not (w.number == number)) waiting

-- its server runs in its term, and none of these numbers is its own
abbrev pub is_quiet_read : (terms : List (Option ℕ)) (numbers : List ℕ) → Waiting → Bool
is_quiet_read terms numbers w = is_in_term terms w && not (has numbers w.number)

-- Of the reads that wait some, in their order: all that are not quiet are among them
pub record AreChosen (terms : List (Option ℕ)) (numbers : List ℕ) (waiting chosen : List Waiting) : Type 0 where
  pub test : Waiting → Bool
  pub are : chosen ≡ filter test waiting
  pub others : Every (λ w. test w ≡ false → is_quiet_read terms numbers w ≡ true) waiting
