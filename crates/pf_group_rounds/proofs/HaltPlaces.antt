-- Where the halts of a history stand.
use Rattle.std.proofs.Common.{◌≡◌, ℕ, suc, ◌+◌, ◌<◌, ◌≤◌, Bool, true, false, ◌&&◌, ◌||◌, ◌==◌, if◌then◌else◌, List, [], ◌∷◌, ◌++◌, length, map, filter, arith, refl, sym, ap, ◌∙◌}
use Rattle.std.specs.List.{list_any}
use Rattle.std.proofs.lemmas.Bool.{eq-eqb, false≢true, ne_eqb}
use Rattle.std.proofs.lemmas.List.{append-nil}
use Rattle.std.proofs.lemmas.List.Elements.{filter-append}
use Rattle.std.proofs.lemmas.List.Folds.{list_any-append}
use Rattle.pf_entry.specs.Lists.{Every}
use Rattle.pf_entry.proofs.Lists.{every_append, every_map, every_of_all}
use Rattle.pf_protocol.specs.declared.events.Happening.{Happening}
use Rattle.pf_protocol.specs.Servers.{Setup}
use Rattle.pf_protocol.specs.Groups.{Group, ending, happens, opening}
use Rattle.pf_protocol.specs.Histories.{History, run}
use Rattle.pf_group_rounds.specs.Halts.{At, Halt, Making, failed_by, is_place_of_event, is_cut, is_making}
use Rattle.pf_group_rounds.specs.Agreeing.{is_halted}
use Rattle.pf_group_rounds.specs.Telling.{halts_from, halts_of_event, making_halts, next_found, server_at}
use Rattle.pf_group_rounds.proofs.Filters.{any_none, filter_all, filter_none}

pub same_number : (n : ℕ) → (n == n) ≡ true
same_number n = eq-eqb n n refl

pub and_false : (a b : Bool) → b ≡ false → (a && b) ≡ false
and_false true b is = is
and_false false b is = refl

module _ (number : ℕ) (setup : Setup) where
  abbrev pub next_of : Group → Happening → Group
  next_of g h = happens setup g h.event (ending h.answer)

  abbrev pub halt_at : (n server : ℕ) → Bool → Halt
  halt_at n server found = record { group = number; place = At n; server = server; found = found }

  abbrev pub halt_of : Group → (n : ℕ) → Happening → History → Halt
  halt_of g n h rest = halt_at n (server_at g h.event) (next_found (server_at g h.event) rest)

  -- the halts of the events from event m on stand from place m on
  pub placed : (P : Halt → Type 0) (m : ℕ) → ((n server : ℕ) (found : Bool) → m ≤ n → P (halt_at n server found)) → (hs : History) (g : Group) → Every P (halts_from number setup g m hs)
  placed P m holds [] g = tt
  placed P m holds (h ∷ hs) g = every_append P (halts_of_event number g m h hs) _ (here (is_halted h.answer)) (placed P (suc m) (λ n server found le. holds n server found (omega arith)) hs (next_of g h))
    where
      here : (b : Bool) → Every P (if b then halt_of g m h hs ∷ [] else [])
      here true = (holds m _ _ (omega arith), tt)
      here false = tt

  -- those of the making stand there
  pub made : (P : Halt → Type 0) → ((server : ℕ) → P (record { group = number; place = Making; server = server; found = false })) → (failed : List ℕ) → Every P (making_halts number failed)
  made P holds failed = every_map P _ failed (every_of_all _ failed holds)

  abbrev is_cut_at : ℕ → Halt → Bool
  is_cut_at n h = h.group == number && is_place_of_event n h.place

  none_before : (n m : ℕ) → n < m → (hs : History) (g : Group) → list_any (is_cut_at n) (halts_from number setup g m hs) ≡ false
  none_before n m low hs g = any_none (is_cut_at n) _ (placed (λ h. is_cut_at n h ≡ false) m (λ k server found le. and_false (number == number) (k == n) (ne_eqb k n (λ e. omega (arith, e, low, le)))) hs g)

  -- an event is cut off where it was answered so
  cut_from : (n m : ℕ) (earlier rest : History) (h : Happening) (g : Group) → n ≡ m + length earlier → list_any (is_cut_at n) (halts_from number setup g m (earlier ++ h ∷ rest)) ≡ is_halted h.answer
  cut_from n m [] rest h g is =
      list_any-append (is_cut_at n) (halts_of_event number g m h rest) _
      ∙ ap (λ b. list_any (is_cut_at n) (halts_of_event number g m h rest) || b) (none_before n (suc m) (omega arith) rest (next_of g h))
      ∙ here (is_halted h.answer)
    where
      passes : is_cut_at n (halt_of g m h rest) ≡ true
      passes = ap (λ b. b && m == n) (same_number number) ∙ eq-eqb m n (omega arith)

      here : (b : Bool) → (list_any (is_cut_at n) (if b then halt_of g m h rest ∷ [] else []) || false) ≡ b
      here true = ap (λ b. (b || false) || false) passes
      here false = refl
  cut_from n m (x ∷ xs) rest h g is =
      list_any-append (is_cut_at n) (halts_of_event number g m x (xs ++ h ∷ rest)) _
      ∙ ap (λ b. b || list_any (is_cut_at n) (halts_from number setup (next_of g x) (suc m) (xs ++ h ∷ rest))) (here (is_halted x.answer))
      ∙ cut_from n (suc m) xs rest h (next_of g x) (omega arith)
    where
      here : (b : Bool) → list_any (is_cut_at n) (if b then halt_of g m x (xs ++ h ∷ rest) ∷ [] else []) ≡ false
      here true = ap (λ b. b || false) (and_false (number == number) (m == n) (ne_eqb m n (λ e. omega arith)))
      here false = refl

  pub cut_in : (earlier rest : History) (h : Happening) → is_cut (making_halts number setup.failed ++ halts_from number setup (opening setup) 0 (earlier ++ h ∷ rest)) number (length earlier) ≡ is_halted h.answer
  cut_in earlier rest h =
      let n = length earlier in
      list_any-append (is_cut_at n) (making_halts number setup.failed) _
      ∙ ap (λ b. b || list_any (is_cut_at n) (halts_from number setup (opening setup) 0 (earlier ++ h ∷ rest))) (any_none (is_cut_at n) _ (made (λ h. is_cut_at n h ≡ false) (λ server. and_false (number == number) false refl) setup.failed))
      ∙ cut_from n 0 earlier rest h (opening setup) (omega arith)

  -- it is cut off by halts at the server at which it takes place
  module _ (P : ℕ → Type 0) where
    abbrev IsAt : ℕ → Halt → Type 0
    IsAt n x = is_cut_at n x ≡ true → P x.server

    not_at : (k n : ℕ) → (k == n) ≡ false → (number == number && k == n) ≡ true → ⊥
    not_at k n apart cut = false≢true (sym (and_false (number == number) (k == n) apart) ∙ cut)

    own_from : (n m : ℕ) (earlier rest : History) (h : Happening) (g : Group) → n ≡ m + length earlier → (is_halted h.answer ≡ true → P (server_at (run setup g earlier) h.event)) → Every (IsAt n) (halts_from number setup g m (earlier ++ h ∷ rest))
    own_from n m [] rest h g is at =
        every_append (IsAt n) (halts_of_event number g m h rest) _ (here (is_halted h.answer) at)
        (placed (IsAt n) (suc m) (λ k server found le cut. absurd (not_at k n (ne_eqb k n (λ e. omega arith)) cut)) rest (next_of g h))
      where
        here : (b : Bool) → (b ≡ true → P (server_at g h.event)) → Every (IsAt n) (if b then halt_of g m h rest ∷ [] else [])
        here true its = (λ cut. its refl, tt)
        here false its = tt
    own_from n m (x ∷ xs) rest h g is at =
        every_append (IsAt n) (halts_of_event number g m x (xs ++ h ∷ rest)) _ (before (is_halted x.answer)) (own_from n (suc m) xs rest h (next_of g x) (omega arith) at)
      where
        before : (b : Bool) → Every (IsAt n) (if b then halt_of g m x (xs ++ h ∷ rest) ∷ [] else [])
        before true = (λ cut. absurd (not_at m n (ne_eqb m n (λ e. omega arith)) cut), tt)
        before false = tt

    pub own_in : (earlier rest : History) (h : Happening) → (is_halted h.answer ≡ true → P (server_at (run setup (opening setup) earlier) h.event)) → Every (IsAt (length earlier)) (making_halts number setup.failed ++ halts_from number setup (opening setup) 0 (earlier ++ h ∷ rest))
    own_in earlier rest h at =
        let n = length earlier in
        every_append (IsAt n) (making_halts number setup.failed) _
        (made (IsAt n) (λ server cut. absurd (false≢true (sym (and_false (number == number) false refl) ∙ cut))) setup.failed)
        (own_from n 0 earlier rest h (opening setup) (omega arith) at)

  abbrev is_made : Halt → Bool
  is_made h = h.group == number && is_making h.place

  servers_made : (failed : List ℕ) → map (λ h. h.server) (making_halts number failed) ≡ failed
  servers_made [] = refl
  servers_made (i ∷ is) = ap (λ rest. i ∷ rest) (servers_made is)

  -- the making failed at the servers of the setup
  pub made_in : (history : History) → failed_by (making_halts number setup.failed ++ halts_from number setup (opening setup) 0 history) number ≡ setup.failed
  made_in history =
      let ofs = making_halts number setup.failed in
      let events = halts_from number setup (opening setup) 0 history in
      let all : filter is_made ofs ≡ ofs = filter_all is_made ofs (made (λ h. is_made h ≡ true) (λ server. ap (λ b. b && true) (same_number number)) setup.failed) in
      let none : filter is_made events ≡ [] = filter_none is_made events (placed (λ h. is_made h ≡ false) 0 (λ n server found le. and_false (number == number) false refl) history (opening setup)) in
      ap (map (λ (h : Halt). h.server)) (filter-append is_made ofs events ∙ ap (λ xs. xs ++ filter is_made events) all ∙ ap (λ xs. ofs ++ xs) none ∙ append-nil ofs) ∙ servers_made setup.failed
