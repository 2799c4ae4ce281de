-- The reads that wait were gone through: all, or those of which something was to tell.
use Rattle.std.proofs.Common.{◌≡◌, ◌≢◌, ℕ, ◌<◌, ◌+◌, Bool, true, false, cond, not, List, [], ◌∷◌, ◌++◌, drop, length, take, Some, slice_get, slice_set, refl, sym, ap, subst, ◌∙◌, append_assoc, append-nil}
use Rattle.std.specs.List.{filter}
use Rattle.std.specs.Prelude.{IsTrue}
use Rattle.std.proofs.Math.Seq.{drop-append_seam}
use Rattle.std.proofs.lemmas.List.{length-set}
use Rattle.pf_entry.specs.Lists.{Every}
use Rattle.pf_entry.specs.Tables.{ascends}
use Rattle.pf_entry.proofs.Cases.{by_test}
use Rattle.pf_entry.proofs.Lists.{every_get}
use Rattle.pf_protocol.specs.Groups.{Group}
use Rattle.pf_group_rounds.specs.pf_group.specs.GroupIs.{GroupIs, state_of}
use Rattle.pf_chunk_waiting.specs.declared.waiting.Waiting.{Waiting}
use Rattle.pf_chunk_waiting.specs.Waiters.{waiting_numbers, without_read}
use Rattle.pf_chunk_waiting.proofs.Filters.{every_passed, fewer_ascend}
use Rattle.pf_chunk_waiting.proofs.ReadWalks.{AreTold, GoesThrough, IsUntouched, all_handed, all_left, all_put, begins_through, goes_through, goes_told, left_ascends, none_told, pending_at, stays_through, stays_told}
use Rattle.pf_chunk.specs.Steps.{AreGoneThrough, ReadsAreTold}
use Rattle.pf_chunk.specs.Telling.{is_answered, lines_of, may_wait, now_taken, taken_all, answer_taken_with, reads_told}
use Rattle.pf_chunk.specs.Views.{IsListed}

module _ (g : Group) where
  length_with : (taken : List Bool) (w : Waiting) → length (answer_taken_with g taken w) ≡ length taken
  length_with taken w = by_test (is_answered g w.number) (λ c. length (cond c (slice_set taken w.number true) taken) ≡ length taken) (λ _. length-set taken w.number true) (λ _. refl)

  pub length_all : (taken : List Bool) (ws : List Waiting) → length (taken_all g taken ws) ≡ length taken
  length_all taken [] = refl
  length_all taken (w ∷ ws) = length_all (answer_taken_with g taken w) ws ∙ length_with taken w

  -- what is told of a read, and what that leaves
  abbrev pub Told : (chunk : ℕ) (first : List Bool) (before : List ℕ) (chosen : List Waiting) (place : ℕ) (now : List Bool) (out gone : List ℕ) → Type 0
  Told chunk = AreTold (answer_taken_with g) (λ w. lines_of chunk g w.number) (may_wait g)

  abbrev pub Untouched : (chunk : ℕ) → Waiting → Type 0
  Untouched chunk = IsUntouched (answer_taken_with g) (λ w. lines_of chunk g w.number) (may_wait g)

-- the chosen reads before a place were gone through
pub record AreGone (chunk : ℕ) (first : GroupIs) (ws chosen : List Waiting) (before : List ℕ) (place : ℕ) (now : GroupIs) (left : List Waiting) (out : List ℕ) : Type 0 where
  pub gone : List ℕ
  pub through : GoesThrough first.taken ws chosen place now.taken left gone
  pub told : IsTrue first.told → Told (state_of first) chunk first.taken before chosen place now.taken out gone
  pub same : now ≡ now_taken first now.taken
  pub text : List ℕ
  pub put : out ≡ before ++ text

-- nothing but what was handed out is different
pub then_taken : (first now after : GroupIs) → now ≡ now_taken first now.taken → after ≡ now_taken now after.taken → after ≡ now_taken first after.taken
then_taken first now after was is = is ∙ ap (λ (g : GroupIs). now_taken g after.taken) was

module _ (chunk : ℕ) (first : GroupIs) (ws chosen : List Waiting) (before : List ℕ) where
  abbrev hand : List Bool → Waiting → List Bool
  hand = answer_taken_with (state_of first)

  abbrev line : Waiting → List ℕ
  line w = lines_of chunk (state_of first) w.number

  abbrev stays : Waiting → Bool
  stays = may_wait (state_of first)

  pub none_gone : Every (λ w. slice_get first.taken w.number ≡ Some false) ws → AreGone chunk first ws chosen before 0 first ws before
  none_gone pending = record {
    gone = [];
    through = begins_through first.taken ws chosen pending;
    told = λ told. none_told hand line stays first.taken before chosen;
    same = refl;
    text = [];
    put = sym (append-nil before);
  }

  -- one more, which was handed out at most
  module _ (place : ℕ) (now : GroupIs) (left : List Waiting) (out : List ℕ) (are : AreGone chunk first ws chosen before place now left out) (w : Waiting) (at : slice_get chosen place ≡ Some w) (after : GroupIs) (same : after ≡ now_taken now after.taken) where
    module _ (others : (n : ℕ) → w.number ≢ n → slice_get after.taken n ≡ slice_get now.taken n) (taken : IsTrue now.told → after.taken ≡ answer_taken_with (state_of now) now.taken w)
        (out_after text : List ℕ) (put : out_after ≡ out ++ text) (told : IsTrue now.told → out_after ≡ out ++ lines_of chunk (state_of now) w.number)
        (kept : Bool) (waits : IsTrue now.told → kept ≡ may_wait (state_of now) w) where
      now_told : IsTrue first.told → IsTrue now.told
      now_told is = subst (λ (g : GroupIs). IsTrue g.told) (sym are.same) is

      state : state_of now ≡ state_of first
      state = ap (λ (g : GroupIs). state_of g) are.same

      taken_by : IsTrue first.told → after.taken ≡ hand now.taken w
      taken_by is = taken (now_told is) ∙ ap (λ s. answer_taken_with s now.taken w) state

      put_by : IsTrue first.told → out_after ≡ out ++ line w
      put_by is = told (now_told is) ∙ ap (λ s. out ++ lines_of chunk s w.number) state

      waits_by : IsTrue first.told → stays w ≡ kept
      waits_by is = ap (λ s. may_wait s w) (sym state) ∙ sym (waits (now_told is))

      put_on : out_after ≡ before ++ (are.text ++ text)
      put_on = put ∙ ap (λ xs. xs ++ text) are.put ∙ append_assoc before are.text text

      -- it waits on
      pub one_stays : kept ≡ true → after.taken ≡ now.taken → AreGone chunk first ws chosen before (place + 1) after left out_after
      one_stays is still = record {
        gone = are.gone;
        through = stays_through first.taken ws chosen place now.taken left are.gone are.through w at after.taken others still;
        told = λ told. stays_told hand line stays first.taken before chosen place now.taken out are.gone (are.told told) w at after.taken (taken_by told) out_after (put_by told) (waits_by told ∙ is);
        same = then_taken first now after are.same same;
        text = are.text ++ text;
        put = put_on;
      }

      -- it waits no more
      pub one_goes : kept ≡ false → AreGone chunk first ws chosen before (place + 1) after (without_read w.number left) out_after
      one_goes is = record {
        gone = are.gone ++ w.number ∷ [];
        through = goes_through first.taken ws chosen place now.taken left are.gone are.through w at after.taken others;
        told = λ told. goes_told hand line stays first.taken before chosen place now.taken out are.gone (are.told told) w at after.taken (taken_by told) out_after (put_by told) (waits_by told ∙ is);
        same = then_taken first now after are.same same;
        text = are.text ++ text;
        put = put_on;
      }

  module _ (test : Waiting → Bool) (picked : chosen ≡ filter test ws) (listed : IsListed first.taken ws) where
    -- what holds of all that wait holds of those that were chosen
    each_chosen : (P : Waiting → Type 0) → Every P ws → Every P chosen
    each_chosen P all = subst (Every P) (sym picked) (every_passed P test ws all)

    -- the next one is listed too
    module _ (place : ℕ) (now : GroupIs) (left : List Waiting) (out : List ℕ) (are : AreGone chunk first ws chosen before place now left out) where
      pub next_serves : (w : Waiting) → slice_get chosen place ≡ Some w → w.server < 3
      next_serves w at = every_get (λ w. w.server < 3) chosen place w (each_chosen (λ w. w.server < 3) listed.servers) at

      pub next_pends : (w : Waiting) → slice_get chosen place ≡ Some w → slice_get now.taken w.number ≡ Some false
      next_pends w at =
          pending_at first.taken ws chosen place now.taken left are.gone are.through w at
          (ap (λ xs. ascends (waiting_numbers xs)) picked ∙ fewer_ascend (λ (w : Waiting). w.number) test ws listed.ascending)
          (each_chosen (λ w. slice_get first.taken w.number ≡ Some false) listed.pending)

      pub left_ascend : ascends (waiting_numbers left) ≡ true
      left_ascend = left_ascends first.taken ws chosen place now.taken left are.gone are.through listed.ascending

      -- all were gone through
      module _ (whole : take place chosen ≡ chosen) where
        each_left : (P : Waiting → Type 0) → Every P ws → Every P left
        each_left P all = subst (Every P) (sym are.through.left_is) (every_passed P _ ws all)

        pub all_through : AreGoneThrough first.taken ws now.taken left
        all_through = record {
          listed = record { ascending = left_ascend; servers = each_left (λ w. w.server < 3) listed.servers; pending = are.through.pending };
          some = λ n apart. each_left (λ w. w.number ≢ n) apart;
          others = λ n apart. are.through.others n (subst (Every (λ w. w.number ≢ n)) (sym whole) (each_chosen (λ w. w.number ≢ n) apart));
        }

        pub all_told : IsTrue first.told → Every (λ w. test w ≡ false → Untouched (state_of first) chunk w) ws → ReadsAreTold chunk (state_of first) first.taken ws now.taken left are.text
        all_told is untouched =
            let told = are.told is in
            record {
              taken_is = told.handed ∙ ap (taken_all (state_of first) first.taken) whole ∙ all_handed hand line stays ws chosen test picked listed.ascending untouched first.taken;
              left_is = are.through.left_is ∙ all_left hand line stays ws chosen test picked listed.ascending untouched are.gone
                  (told.gone_are ∙ ap (λ xs. waiting_numbers (filter (λ (w : Waiting). not (stays w)) xs)) whole);
              text_is =
                  let same = sym are.put ∙ told.put ∙ ap (λ xs. before ++ reads_told chunk (state_of first) xs) whole ∙ ap (λ lines. before ++ lines) (all_put hand line stays ws chosen test picked listed.ascending untouched) in
                  sym (drop-append_seam before are.text) ∙ ap (drop (length before)) same ∙ drop-append_seam before (reads_told chunk (state_of first) ws);
            }
