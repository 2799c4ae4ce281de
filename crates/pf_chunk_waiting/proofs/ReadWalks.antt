-- Some of the reads that wait are gone through one after another, and those that wait no more are left out.
use Rattle.std.proofs.Common.{◌≡◌, ◌≢◌, ℕ, zero, suc, ◌+◌, ◌<◌, Bool, true, false, not, ◌&&◌, ◌||◌, ◌==◌, List, [], ◌∷◌, ◌++◌, take, Some, slice_get, arith, refl, sym, ap, subst, ◌∙◌, append_assoc, append-nil, add-one}
use Rattle.std.specs.List.{filter, flat_map, fold}
use Rattle.std.proofs.Math.Seq.{take-suc}
use Rattle.std.proofs.lemmas.Bool.{cond-true, cond-false, eqb-false, ne_eqb, eq-eqb, eqb-true, not-true}
use Rattle.std.proofs.lemmas.Grind.{flat_map-append}
use Rattle.std.proofs.lemmas.List.{map-append}
use Rattle.std.proofs.lemmas.List.Elements.{filter-append}
use Rattle.std.proofs.lemmas.List.Folds.{list_any-append}
use Rattle.std.proofs.lemmas.List.Sums.{fold-append}
use Rattle.std.proofs.lemmas.Option.{get_or_from_slice_get, slice_get_within}
use Rattle.pf_entry.specs.Lists.{Every}
use Rattle.pf_entry.specs.Tables.{ascends}
use Rattle.pf_entry.proofs.Ascents.{rest_ascends}
use Rattle.pf_entry.proofs.Cases.{by_test}
use Rattle.pf_entry.proofs.Lists.{every_filter, every_get, every_more}
use Rattle.pf_chunk_waiting.specs.declared.waiting.Waiting.{Waiting}
use Rattle.pf_chunk_waiting.specs.Waiters.{has, waiting_numbers, without_read}
use Rattle.pf_chunk_waiting.proofs.Filters.{above_first, every_place, fewer_ascend, filter_all, filter_same, filter_twice, flat_map_passed, fold_passed}
use Rattle.pf_chunk_waiting.proofs.Numbers.{each_by_number}

-- one more element
pub take_more : {X : Type 0} → (xs : List X) (k : ℕ) (x : X) → slice_get xs k ≡ Some x → take (k + 1) xs ≡ take k xs ++ x ∷ []
take_more xs k x at =
    ap (λ n. take n xs) (add-one k) ∙ take-suc xs k x (slice_get_within xs k x at) ∙ ap (λ y. take k xs ++ y ∷ []) (get_or_from_slice_get xs k x x at)

every_parts : {X : Type 0} → (P : X → Type 0) (xs : List X) (x : X) → Every P (xs ++ x ∷ []) → Every P xs × P x
every_parts P [] x all = (tt, all.0)
every_parts P (y ∷ ys) x all = let rest = every_parts P ys x all.1 in ((all.0, rest.0), rest.1)

same_test : (a b : ℕ) → (a == b) ≡ (b == a)
same_test a b = by_test (b == a) (λ c. (b == a) ≡ c → (a == b) ≡ c) (λ _ is. eq-eqb a b (sym (eqb-true b a is))) (λ _ is. ne_eqb a b (λ same. eqb-false b a is (sym same))) refl

-- all but those of these numbers
abbrev pub left_of : List ℕ → List Waiting → List Waiting
left_of gone ws = filter (λ w. not (has gone w.number)) ws

one_more_gone : (gone : List ℕ) (n : ℕ) (ws : List Waiting) → without_read n (left_of gone ws) ≡ left_of (gone ++ n ∷ []) ws
one_more_gone gone n ws =
    filter_twice (λ (w : Waiting). not (has gone w.number)) (λ (w : Waiting). not (w.number == n)) ws
    ∙ filter_same (λ (w : Waiting). not (has gone w.number) && not (w.number == n)) (λ (w : Waiting). not (has (gone ++ n ∷ []) w.number)) ws
    (every_place (λ (w : Waiting). (not (has gone w.number) && not (w.number == n)) ≡ not (has (gone ++ n ∷ []) w.number)) ws (λ k w at.
    ap (λ c. not (has gone w.number) && not c) (same_test w.number n) ∙ both (has gone w.number) (n == w.number) ∙ ap not (sym (list_any-append (λ m. m == w.number) gone (n ∷ [])))))
  where
    both : (a b : Bool) → (not a && not b) ≡ not (a || (b || false))
    both true b = refl
    both false true = refl
    both false false = refl

-- the chosen reads before a place were gone through, and those of the numbers in `gone` wait no more
pub record GoesThrough (first : List Bool) (ws chosen : List Waiting) (place : ℕ) (now : List Bool) (left : List Waiting) (gone : List ℕ) : Type 0 where
  pub left_is : left ≡ left_of gone ws
  pub pending : Every (λ w. slice_get now w.number ≡ Some false) left
  pub others : (n : ℕ) → Every (λ w. w.number ≢ n) (take place chosen) → slice_get now n ≡ slice_get first n

pub begins_through : (first : List Bool) (ws chosen : List Waiting) → Every (λ w. slice_get first w.number ≡ Some false) ws → GoesThrough first ws chosen 0 first ws []
begins_through first ws chosen pending = record {
  left_is = filter_all (λ w. true) ws (every_place (λ w. true ≡ true) ws (λ k w at. refl));
  pending = pending;
  others = λ n apart. refl;
}

module _ (first : List Bool) (ws chosen : List Waiting) (place : ℕ) (now : List Bool) (left : List Waiting) (gone : List ℕ) (is : GoesThrough first ws chosen place now left gone) where
  -- what waits on ascends
  pub left_ascends : ascends (waiting_numbers ws) ≡ true → ascends (waiting_numbers left) ≡ true
  left_ascends up = ap (λ xs. ascends (waiting_numbers xs)) is.left_is ∙ fewer_ascend (λ (w : Waiting). w.number) (λ w. not (has gone w.number)) ws up

  module _ (w : Waiting) (at : slice_get chosen place ≡ Some w) where
    -- the next one was not handed out
    pub pending_at : ascends (waiting_numbers chosen) ≡ true → Every (λ x. slice_get first x.number ≡ Some false) chosen → slice_get now w.number ≡ Some false
    pending_at up pending =
        is.others w.number (earlier_apart chosen place w up at)
        ∙ every_get (λ x. slice_get first x.number ≡ Some false) chosen place w pending at
      where
        earlier_apart : (xs : List Waiting) (k : ℕ) (x : Waiting) → ascends (waiting_numbers xs) ≡ true → slice_get xs k ≡ Some x → Every (λ y. y.number ≢ x.number) (take k xs)
        earlier_apart [] zero x up at = tt
        earlier_apart [] (suc k) x up at = tt
        earlier_apart (y ∷ ys) zero x up at = tt
        earlier_apart (y ∷ ys) (suc k) x up at = (
          (λ same. let low = every_get (λ (z : Waiting). y.number < z.number) ys k x (above_first (λ (z : Waiting). z.number) y.number ys up) at in omega (arith, low, same)),
          earlier_apart ys k x (rest_ascends y.number (waiting_numbers ys) up) at,
        )

    -- no other is handed out
    module _ (after : List Bool) (others : (n : ℕ) → w.number ≢ n → slice_get after n ≡ slice_get now n) where
      others_on : (n : ℕ) → Every (λ x. x.number ≢ n) (take (place + 1) chosen) → slice_get after n ≡ slice_get first n
      others_on n apart =
          let parts = every_parts (λ (x : Waiting). x.number ≢ n) (take place chosen) w (subst (Every (λ x. x.number ≢ n)) (take_more chosen place w at) apart) in
          others n parts.1 ∙ is.others n parts.0

      -- it waits on
      pub stays_through : after ≡ now → GoesThrough first ws chosen (place + 1) after left gone
      stays_through same = record {
        left_is = is.left_is;
        pending = subst (λ t. Every (λ x. slice_get t x.number ≡ Some false) left) (sym same) is.pending;
        others = others_on;
      }

      -- it waits no more
      pub goes_through : GoesThrough first ws chosen (place + 1) after (without_read w.number left) (gone ++ w.number ∷ [])
      goes_through = record {
        left_is = ap (without_read w.number) is.left_is ∙ one_more_gone gone w.number ws;
        pending = every_filter (λ x. slice_get after x.number ≡ Some false) (λ x. not (x.number == w.number)) left
            (every_more (λ x. slice_get now x.number ≡ Some false) (λ x. not (x.number == w.number) ≡ true → slice_get after x.number ≡ Some false)
            (λ x pending other. others x.number (λ same. eqb-false x.number w.number (not-true (x.number == w.number) other) (sym same)) ∙ pending) left is.pending);
        others = others_on;
      }

-- what an answer is told by, and what is left of a state as it is handed out
module _ {T : Type 0} (hand : T → Waiting → T) (line : Waiting → List ℕ) (stays : Waiting → Bool) where
  -- the chosen reads before a place were told, and those of them that wait no more have the numbers in `gone`
  pub record AreTold (first : T) (before : List ℕ) (chosen : List Waiting) (place : ℕ) (now : T) (out : List ℕ) (gone : List ℕ) : Type 0 where
    pub handed : now ≡ fold hand first (take place chosen)
    pub put : out ≡ before ++ flat_map line (take place chosen)
    pub gone_are : gone ≡ waiting_numbers (filter (λ w. not (stays w)) (take place chosen))

  pub none_told : (first : T) (before : List ℕ) (chosen : List Waiting) → AreTold first before chosen 0 first before []
  none_told first before chosen = record { handed = refl; put = sym (append-nil before); gone_are = refl }

  module _ (first : T) (before : List ℕ) (chosen : List Waiting) (place : ℕ) (now : T) (out : List ℕ) (gone : List ℕ) (is : AreTold first before chosen place now out gone) (w : Waiting) (at : slice_get chosen place ≡ Some w) (after : T) (handed : after ≡ hand now w) (text : List ℕ) (put : text ≡ out ++ line w) where
    abbrev done : List Waiting
    done = take place chosen

    handed_on : after ≡ fold hand first (take (place + 1) chosen)
    handed_on = handed ∙ ap (λ t. hand t w) is.handed ∙ sym (fold-append hand first done (w ∷ [])) ∙ ap (fold hand first) (sym (take_more chosen place w at))

    put_on : text ≡ before ++ flat_map line (take (place + 1) chosen)
    put_on =
        put
        ∙ ap (λ xs. xs ++ line w) is.put
        ∙ append_assoc before (flat_map line done) (line w)
        ∙ ap (λ xs. before ++ xs)
        (ap (λ xs. flat_map line done ++ xs) (sym (append-nil (line w))) ∙ sym (flat_map-append line done (w ∷ [])) ∙ ap (flat_map line) (sym (take_more chosen place w at)))

    gone_with : (one : List Waiting) → filter (λ x. not (stays x)) (w ∷ []) ≡ one → waiting_numbers (filter (λ x. not (stays x)) (take (place + 1) chosen)) ≡ gone ++ waiting_numbers one
    gone_with one are =
        ap (λ xs. waiting_numbers (filter (λ (x : Waiting). not (stays x)) xs)) (take_more chosen place w at)
        ∙ ap waiting_numbers (filter-append (λ x. not (stays x)) done (w ∷ []) ∙ ap (λ xs. filter (λ x. not (stays x)) done ++ xs) are)
        ∙ map-append (λ (x : Waiting). x.number) (filter (λ x. not (stays x)) done) one
        ∙ ap (λ ns. ns ++ waiting_numbers one) (sym is.gone_are)

    -- it waits on
    pub stays_told : stays w ≡ true → AreTold first before chosen (place + 1) after text gone
    stays_told still = record {
      handed = handed_on;
      put = put_on;
      gone_are = sym (gone_with [] (cond-false (not (stays w)) _ _ (ap not still)) ∙ append-nil gone);
    }

    -- it waits no more
    pub goes_told : stays w ≡ false → AreTold first before chosen (place + 1) after text (gone ++ w.number ∷ [])
    goes_told no_more = record { handed = handed_on; put = put_on; gone_are = sym (gone_with (w ∷ []) (cond-true (not (stays w)) _ _ (ap not no_more))) }

  -- nothing is to be told of it, and it waits on
  pub record IsUntouched (w : Waiting) : Type 0 where
    pub handed : (state : T) → hand state w ≡ state
    pub untold : line w ≡ []
    pub waits : stays w ≡ true

  -- All were gone through of which something was to tell
  module _ (ws chosen : List Waiting) (test : Waiting → Bool) (are : chosen ≡ filter test ws) (up : ascends (waiting_numbers ws) ≡ true) (untouched : Every (λ w. test w ≡ false → IsUntouched w) ws) where
    pub all_handed : (first : T) → fold hand first chosen ≡ fold hand first ws
    all_handed first =
        ap (fold hand first) are
        ∙ fold_passed hand test ws (every_more (λ w. test w ≡ false → IsUntouched w) (λ w. test w ≡ false → (t : T) → hand t w ≡ t) (λ w is passed_over. (is passed_over).handed) ws untouched) first

    pub all_put : flat_map line chosen ≡ flat_map line ws
    all_put =
        ap (flat_map line) are
        ∙ flat_map_passed line test ws (every_more (λ w. test w ≡ false → IsUntouched w) (λ w. test w ≡ false → line w ≡ []) (λ w is passed_over. (is passed_over).untold) ws untouched)

    pub all_left : (gone : List ℕ) → gone ≡ waiting_numbers (filter (λ w. not (stays w)) chosen) → left_of gone ws ≡ filter stays ws
    all_left gone is =
        let leaves : Waiting → Bool = λ w. test w && not (stays w) in
        let gone_are : gone ≡ waiting_numbers (filter leaves ws) = is ∙ ap (λ xs. waiting_numbers (filter (λ (w : Waiting). not (stays w)) xs)) are ∙ ap waiting_numbers (filter_twice test (λ w. not (stays w)) ws) in
        ap (λ ns. left_of ns ws) gone_are
        ∙ filter_same (λ w. not (has (waiting_numbers (filter leaves ws)) w.number)) stays ws (each_so ws (each_by_number (λ (w : Waiting). w.number) leaves ws up) untouched)
      where
        each_so : (xs : List Waiting) → Every (λ w. has (waiting_numbers (filter (λ v. test v && not (stays v)) ws)) w.number ≡ (test w && not (stays w))) xs → Every (λ w. test w ≡ false → IsUntouched w) xs
            → Every (λ w. not (has (waiting_numbers (filter (λ v. test v && not (stays v)) ws)) w.number) ≡ stays w) xs
        each_so [] are untouched = tt
        each_so (w ∷ xs) are untouched = (
          ap not are.0 ∙ by_test (test w) (λ c. (c ≡ false → IsUntouched w) → not (c && not (stays w)) ≡ stays w)
              (λ _ _. by_test (stays w) (λ c. not (not c) ≡ c) (λ _. refl) (λ _. refl)) (λ _ so. sym (so refl).waits) untouched.0,
          each_so xs are.1 untouched.1,
        )
