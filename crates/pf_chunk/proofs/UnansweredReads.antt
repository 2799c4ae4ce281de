-- Reads of which nothing is to be told.
use Rattle.std.proofs.Common.{◌≡◌, ℕ, zero, suc, Bool, true, false, not, ◌&&◌, ◌==◌, List, [], ◌∷◌, Option, Some, Result, Ok, Err, slice_get, slice_set, refl, sym, ap, ◌∙◌}
use Rattle.std.specs.Result.{result_ok}
use Rattle.std.specs.List.{flat_map}
use Rattle.std.proofs.lemmas.Bool.{and_parts, cond-false, eq-eqb, not-true, true≢false}
use Rattle.std.proofs.lemmas.Map.Keys.{any_passes_from_place}
use Rattle.pf_entry.specs.Lists.{Every}
use Rattle.pf_entry.proofs.Lists.{every_get}
use Rattle.pf_law_ports.specs.pf_group_network.specs.Shown.{ListsUnread}
use Rattle.pf_protocol.specs.Groups.{Group}
use Rattle.pf_group_rounds.specs.pf_group.specs.declared.errors.Down.{Down}
use Rattle.pf_group_rounds.specs.pf_group.specs.GroupIs.{GroupIs, state_of}
use Rattle.pf_group_rounds.specs.pf_group.specs.Readers.{ServerTells}
use Rattle.pf_chunk_waiting.specs.declared.waiting.Waiting.{Waiting}
use Rattle.pf_chunk_waiting.specs.Waiters.{has, is_in_term, is_quiet_read, is_term}
use Rattle.pf_chunk_waiting.proofs.Filters.{every_place}
use Rattle.pf_chunk.specs.Telling.{AreTermsOf, is_answered, is_some_of, read_line, runs_in}
use Rattle.pf_chunk.specs.Waiting.{answers_of_read}
use Rattle.pf_chunk.proofs.Answers.{no_answers}
use Rattle.pf_chunk.proofs.Told.{Untouched}

-- a server of which a term was told runs in it
term_runs : (g : Group) (i : ℕ) (told : Result ℕ Down) (o : Option ℕ) → o ≡ result_ok told → ServerTells g i told (λ term s. term ≡ s.durable.term) → (term : ℕ) → is_term (Some o) term ≡ true → runs_in (slice_get g.servers i) term ≡ true
term_runs g i (Ok here) o same at term is = ap (λ c. runs_in c term) at.1 ∙ ap (λ t. t == term) (sym at.2) ∙ ap (λ x. is_term (Some x) term) (sym same) ∙ is
term_runs g i (Err down) o same at term is = absurd (true≢false (sym (ap (λ x. is_term (Some x) term) (sym same) ∙ is)))

pub terms_run : (g : Group) (a b c : Result ℕ Down) (x y z : Option ℕ) → x ≡ result_ok a → y ≡ result_ok b → z ≡ result_ok c
    → ServerTells g 0 a (λ term s. term ≡ s.durable.term) → ServerTells g 1 b (λ term s. term ≡ s.durable.term) → ServerTells g 2 c (λ term s. term ≡ s.durable.term) → AreTermsOf g (x ∷ y ∷ z ∷ [])
terms_run g a b c x y z p q r at0 at1 at2 zero term is = term_runs g 0 a x p at0 term is
terms_run g a b c x y z p q r at0 at1 at2 (suc zero) term is = term_runs g 1 b y q at1 term is
terms_run g a b c x y z p q r at0 at1 at2 (suc (suc zero)) term is = term_runs g 2 c z r at2 term is
terms_run g a b c x y z p q r at0 at1 at2 (suc (suc (suc n))) term is = absurd (true≢false (sym is))

module _ (chunk : ℕ) (g : GroupIs) (terms : List (Option ℕ)) (numbers : List ℕ) (are : AreTermsOf (state_of g) terms) (lists : ListsUnread (state_of g) g.taken numbers) where
  abbrev now : Group
  now = state_of g

  -- one that is in its server's term, and whose answer cannot be handed out
  quiet_untouched : (w : Waiting) → slice_get g.taken w.number ≡ Some false → is_quiet_read terms numbers w ≡ true → Untouched now chunk w
  quiet_untouched w pending quiet =
      let parts = and_parts (is_in_term terms w) (not (has numbers w.number)) quiet in
      let none : answers_of_read now w.number ≡ [] = no_answers now w.number (λ x.
      let unread = lists w.number x.answer.bytes pending (record { k = x.place; answer = x.answer; there = x.there; numbered = x.numbered; sectors = refl }) in
      true≢false (sym (any_passes_from_place (λ n. n == w.number) numbers unread.0 w.number unread.1 (eq-eqb w.number w.number refl)) ∙ not-true (has numbers w.number) parts.1)) in
      record {
        handed = λ taken. cond-false (is_answered now w.number) (slice_set taken w.number true) taken (ap is_some_of none);
        untold = ap (λ answers. flat_map (read_line chunk) answers) none;
        waits = ap (λ answers. not (is_some_of answers) && runs_in (slice_get now.servers w.server) w.term) none ∙ are w.server w.term parts.0;
      }

  pub each_untouched : (ws : List Waiting) → Every (λ w. slice_get g.taken w.number ≡ Some false) ws → (test : Waiting → Bool) → Every (λ w. test w ≡ false → is_quiet_read terms numbers w ≡ true) ws
      → Every (λ w. test w ≡ false → Untouched now chunk w) ws
  each_untouched ws pending test quiet =
      every_place (λ w. test w ≡ false → Untouched now chunk w) ws (λ k w at passed_over.
      quiet_untouched w (every_get (λ w. slice_get g.taken w.number ≡ Some false) ws k w pending at) (every_get (λ w. test w ≡ false → is_quiet_read terms numbers w ≡ true) ws k w quiet at passed_over))
