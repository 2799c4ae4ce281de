-- The calls up to a position of the list, as calls that are planned one after another: what each of them is, and in which order they stand.
use Rattle.std.proofs.Common.{◌≡◌, ◌⊎◌, inl, inr, ℕ, zero, suc, ◌+◌, ◌<◌, ◌≤◌, ◌==◌, ◌&&◌, true, if◌then◌else◌, List, [], ◌∷◌, ◌++◌, length, map, Option, Some, None, slice_get, arith, refl, sym, ap, subst, ◌∙◌, append-nil}
use Rattle.std.specs.Option.{option_to_list}
use Rattle.std.proofs.lemmas.Bool.{and_from, and_parts, cases_lt, eq-eqb, eqb-true, false≢true}
use Rattle.std.proofs.lemmas.List.{append_assoc, length-append, map-append}
use Rattle.std.proofs.lemmas.Option.{none-some, same_Some}
use Rattle.pf_entry.specs.Lists.{Every}
use Rattle.pf_entry.proofs.Cases.{by_test}
use Rattle.pf_entry.proofs.Lists.{every_append, every_more}
use Rattle.pf_volume.specs.Volumes.{Extent}
use Rattle.pf_tree.specs.Calls.{FileCall}
use Rattle.pf_file_calls.specs.declared.answers.CallAnswer.{CallAnswer}
use Rattle.pf_file_calls.specs.declared.answers.CallAnswer.TheVariants as answers
use Rattle.pf_file_calls.specs.declared.calls.Pending.{Pending}
use Rattle.pf_law_plans.specs.Numbered.{call_numbered}
use Rattle.pf_law_plans.proofs.Lists.{at_front}
use Rattle.pf_law_contents.specs.Going.{call_done}
use Rattle.pf_journal.specs.declared.layouts.Layout.{Layout}
use Rattle.pf_mount.specs.declared.work.MountNext.{MountNext}
use Rattle.pf_mount.specs.declared.work.MountNext.TheVariants.{Done, Failed, Ready}
use Rattle.pf_mount.specs.Mounts.{MountIs}
use Rattle.pf_law_calls.specs.Answering.{next_by}
use Rattle.pf_law_calls.specs.Since.{called}
use Rattle.pf_law_calls.specs.Lives.{Input, MountTold, all_opened, lived, lives, mount_after}
use Rattle.pf_law_calls.specs.Trees.{calls_of}
use Rattle.pf_law_calls.proofs.Parts.{lives_on}
use Rattle.pf_law_files.specs.Calls.{done_by}
use Rattle.pf_law_files.specs.Ordered.{has_no_call, in_place, in_place_from}
use Rattle.pf_law_files.proofs.Positions.{IsOf}

-- A call that stands at a position: where it is in place, with the time at which it ended; where its transaction stands there, with a time behind all
pub record Stood : Type 0 where
  pub mount : ℕ
  pub call : Pending
  pub position : ℕ
  pub ended : ℕ

abbrev pub call_in_list : Stood → FileCall
call_in_list s = s.call.call

abbrev pub IsBefore : Stood → Stood → Type 0
IsBefore s r = (s.position < r.position) ⊎ ((s.position ≡ r.position) × (s.ended < r.ended))

-- each stands before all behind it
abbrev pub AreInOrder : List Stood → Type 0
AreInOrder [] = Unit {0}
AreInOrder (s ∷ ss) = Every (IsBefore s) ss × AreInOrder ss

abbrev pub Has : List Stood → Stood → Type 0
Has ss s = (k : ℕ) × (slice_get ss k ≡ Some s)

pub order_append : (xs ys : List Stood) → AreInOrder xs → AreInOrder ys → Every (λ x. Every (IsBefore x) ys) xs → AreInOrder (xs ++ ys)
order_append [] ys a b all = b
order_append (x ∷ xs) ys a b all = (every_append (IsBefore x) xs ys a.0 all.0, order_append xs ys a.1 b all.1)

pub in_every : {X : Type 0} → (P : X → Type 0) (xs : List X) (k : ℕ) (x : X) → Every P xs → slice_get xs k ≡ Some x → P x
in_every P [] k x each at = absurd (none-some x at)
in_every P (y ∷ xs) zero x each at = subst P (same_Some y x at) each.0
in_every P (y ∷ xs) (suc k) x each at = in_every P xs k x each.1 at

-- of two, that at the lower place stands before the other
pub in_order : (ss : List Stood) (i j : ℕ) (s r : Stood) → AreInOrder ss → i < j → slice_get ss i ≡ Some s → slice_get ss j ≡ Some r → IsBefore s r
in_order [] i j s r order below at there = absurd (none-some s at)
in_order (x ∷ ss) zero zero s r order below at there = absurd (omega (arith, below))
in_order (x ∷ ss) zero (suc j) s r order below at there = subst (λ y. IsBefore y r) (same_Some x s at) (in_every (IsBefore x) ss j r order.0 there)
in_order (x ∷ ss) (suc i) zero s r order below at there = absurd (omega (arith, below))
in_order (x ∷ ss) (suc i) (suc j) s r order below at there = in_order ss i j s r order.1 (omega (arith, below)) at there

at_back : {X : Type 0} → (xs ys : List X) (k : ℕ) (x : X) → slice_get ys k ≡ Some x → slice_get (xs ++ ys) (length xs + k) ≡ Some x
at_back [] ys k x at = ap (slice_get ys) (let same : 0 + k ≡ k = omega arith in same) ∙ at
at_back (y ∷ xs) ys k x at = ap (slice_get (y ∷ (xs ++ ys))) (let same : suc (length xs) + k ≡ suc (length xs + k) = omega arith in same) ∙ at_back xs ys k x at

pub has_front : (xs ys : List Stood) (s : Stood) → Has xs s → Has (xs ++ ys) s
has_front xs ys s has = (has.0, at_front xs ys has.0 s has.1)

pub has_back : (xs ys : List Stood) (s : Stood) → Has ys s → Has (xs ++ ys) s
has_back xs ys s has = (length xs + has.0, at_back xs ys has.0 s has.1)

-- all for all
every_all : {X : Type 0} → (P : X → Type 0) → ((x : X) → P x) → (xs : List X) → Every P xs
every_all P each [] = tt
every_all P each (x ∷ xs) = (each x, every_all P each xs)

-- one list in two parts of the same lengths
pub same_cut : (xs zs : List MountTold) (x z : MountTold) (ys ws : List MountTold) → xs ++ x ∷ ys ≡ zs ++ z ∷ ws → length xs ≡ length zs → (xs ≡ zs) × (x ≡ z)
same_cut [] [] x z ys ws same size = (let here : x ≡ z = cc in (refl, here))
same_cut [] (w ∷ zs) x z ys ws same size = absurd (omega (arith, size))
same_cut (w ∷ xs) [] x z ys ws same size = absurd (omega (arith, size))
same_cut (w ∷ xs) (u ∷ zs) x z ys ws same size =
    let here : w ≡ u = cc in
    let rest : xs ++ x ∷ ys ≡ zs ++ z ∷ ws = cc in
    let cut = same_cut xs zs x z ys ws rest (omega (arith, size)) in
    (ap (λ us. w ∷ us) cut.0 ∙ ap (λ (y : MountTold). y ∷ zs) here, cut.1)

-- a call that ends is refused, or it is done
pub done_or_not : (call : FileCall) (answer : CallAnswer) → (call_done call answer ≡ None) ⊎ (call_done call answer ≡ Some call)
done_or_not call answer = by answer
  where
    by : (a : CallAnswer) → (call_done call a ≡ None) ⊎ (call_done call a ≡ Some call)
    by (answers.Refused fault) = inl refl
    by answers.Fine = inr refl
    by (answers.Bytes bytes) = inr refl
    by answers.Directory = inr refl
    by (answers.File size) = inr refl
    by (answers.Names names) = inr refl

module _ (layout : Layout) (v : Extent) (list : List (List ℕ)) (now : List MountTold) where
  abbrev moves_to : MountTold → List MountTold → MountIs
  moves_to t first = mount_after (lives layout v first t.mount).mount t.input

  -- at this time the call p of mount m ends with this answer
  pub record EndsAt (time m : ℕ) (p : Pending) (answer : CallAnswer) : Type 0 where
    pub first : List MountTold
    pub input : Input
    pub rest : List MountTold
    pub now_is : now ≡ first ++ record { mount = m; input = input } ∷ rest
    pub time_is : length first ≡ time
    pub ends : next_by (lives layout v first m).mount input ≡ Some (Done answer)
    pub was : called (lives layout v first m).mount input ≡ Some p

  -- it ends in place: its mount stands at this position then, and no transaction is its
  pub record EndsInPlace (position time m : ℕ) (p : Pending) : Type 0 where
    pub answer : CallAnswer
    pub at : EndsAt time m p answer
    pub upto : (mount_after (lives layout v at.first m).mount at.input).upto ≡ position
    pub none : has_no_call list m (mount_after (lives layout v at.first m).mount at.input).files.calls ≡ true
    pub done : call_done p.call answer ≡ Some p.call

  pub data Stands (s : Stood) : Type 0 where
    InPlace : EndsInPlace s.position s.ended s.mount s.call → Stands s
    Named : IsOf list s.position s.mount s.call.number → call_numbered (calls_of now s.mount) s.call.number ≡ Some s.call.call → s.ended ≡ length now → Stands s

  -- In place, from a time on

  pub record IsPlace (position from : ℕ) (s : Stood) : Type 0 where
    pub its : EndsInPlace s.position s.ended s.mount s.call
    pub there : s.position ≡ position
    pub late : from ≤ s.ended
    pub low : s.ended < length now

  pub record PlaceList (position from : ℕ) (calls : List FileCall) : Type 0 where
    pub stood : List Stood
    pub are : map call_in_list stood ≡ calls
    pub each : Every (IsPlace position from) stood
    pub order : AreInOrder stood
    pub all : (time m : ℕ) (p : Pending) → from ≤ time → EndsInPlace position time m p → Has stood (record { mount = m; call = p; position = position; ended = time })

  place_later : (position from later : ℕ) (s : Stood) → from ≤ later → IsPlace position later s → IsPlace position from s
  place_later position from later s le is = record { its = is.its; there = is.there; late = (let late = is.late in omega (arith, le, late)); low = is.low }

  -- one time
  module _ (position : ℕ) (first : List MountTold) (t : MountTold) (rest : List MountTold) (now_is : now ≡ first ++ t ∷ rest) where
    abbrev x : MountIs
    x = (lives layout v first t.mount).mount

    abbrev y : MountIs
    y = mount_after x t.input

    abbrev time : ℕ
    time = length first

    abbrev One : List FileCall → Type 0
    One calls = (stood : List Stood) × (map call_in_list stood ≡ calls) × Every (IsPlace position time) stood × Every (λ s. s.ended ≡ time) stood × AreInOrder stood
        × ((m : ℕ) (p : Pending) → EndsInPlace position time m p → Has stood (record { mount = m; call = p; position = position; ended = time }))

    time_low : time < length now
    time_low = (let size = ap (λ (us : List MountTold). length us) now_is ∙ length-append first (t ∷ rest) in omega (arith, size))

    -- what ends there ends with this
    its_own : (m : ℕ) (p : Pending) (e : EndsInPlace position time m p) → (first ≡ e.at.first) × (t ≡ record { mount = m; input = e.at.input })
    its_own m p e = same_cut first e.at.first t (record { mount = m; input = e.at.input }) rest e.at.rest (sym now_is ∙ e.at.now_is) (sym e.at.time_is)

    record Same (m : ℕ) (p : Pending) (answer : CallAnswer) : Type 0 where
      mount : t.mount ≡ m
      next : next_by x t.input ≡ Some (Done answer)
      was : called x t.input ≡ Some p
      upto : y.upto ≡ position
      none : has_no_call list t.mount y.files.calls ≡ true
      done : call_done p.call answer ≡ Some p.call

    same_end : (m : ℕ) (p : Pending) (e : EndsInPlace position time m p) → Same m p e.answer
    same_end m p e =
        let own = its_own m p e in
        let t_is = own.1 in
        let mount = ap (λ (u : MountTold). u.mount) t_is in
        let of : MountTold → List MountTold → MountIs = λ u us. (lives layout v us u.mount).mount in
        let next : MountTold → List MountTold → Option MountNext = λ u us. next_by (of u us) u.input in
        let was : MountTold → List MountTold → Option Pending = λ u us. called (of u us) u.input in
        record {
          mount = mount;
          next = ap (next t) own.0 ∙ ap (λ u. next u e.at.first) t_is ∙ e.at.ends;
          was = ap (was t) own.0 ∙ ap (λ u. was u e.at.first) t_is ∙ e.at.was;
          upto = ap (λ us. (moves_to t us).upto) own.0 ∙ ap (λ u. (moves_to u e.at.first).upto) t_is ∙ e.upto;
          none = ap (λ us. has_no_call list t.mount (moves_to t us).files.calls) own.0 ∙ ap (λ (u : MountTold). has_no_call list u.mount (moves_to u e.at.first).files.calls) t_is ∙ e.none;
          done = e.done;
        }

    nothing_there : ((m : ℕ) (p : Pending) (answer : CallAnswer) → Same m p answer → ⊥) → One []
    nothing_there none = ([], refl, tt, tt, tt, λ m p e. absurd (none m p e.answer (same_end m p e)))

    one_there : (p : Pending) (answer : CallAnswer) → Same t.mount p answer → One (p.call ∷ [])
    one_there p answer is =
        let s : Stood = record { mount = t.mount; call = p; position = position; ended = time } in (
          s ∷ [],
          refl,
          (
            record {
              its = record {
                answer = answer;
                at = record { first = first; input = t.input; rest = rest; now_is = now_is; time_is = refl; ends = is.next; was = is.was };
                upto = is.upto;
                none = is.none;
                done = is.done;
              };
              there = refl;
              late = omega arith;
              low = time_low;
            },
            tt,
          ),
          (refl, tt),
          (tt, tt),
          λ m q e.
              let same = same_end m q e in
              let call : p ≡ q = same_Some p q (sym is.was ∙ same.was) in
              let of : ℕ → Pending → Stood = λ n r. record { mount = n; call = r; position = position; ended = time } in
              (0, ap Some (ap (λ n. of n p) same.mount ∙ ap (of m) call)),
        )

    by_end : y.upto ≡ position → has_no_call list t.mount y.files.calls ≡ true → (q : Option Pending) → called x t.input ≡ q → (next : Option MountNext) → next_by x t.input ≡ next → One (option_to_list (done_by q next))
    by_end upto none None was next ends = nothing_there (λ m p answer is. none-some p (sym was ∙ is.was))
    by_end upto none (Some p) was None ends = nothing_there (λ m q answer is. none-some (Done answer) (sym ends ∙ is.next))
    by_end upto none (Some p) was (Some Ready) ends = nothing_there (λ m q answer is. (let e : ◌≡◌ {A = Option MountNext} (Some Ready) (Some (Done answer)) = sym ends ∙ is.next in absurd (cc)))
    by_end upto none (Some p) was (Some Failed) ends = nothing_there (λ m q answer is. (let e : ◌≡◌ {A = Option MountNext} (Some Failed) (Some (Done answer)) = sym ends ∙ is.next in absurd (cc)))
    by_end upto none (Some p) was (Some (Done answer)) ends = elim (done_or_not p.call answer) [
      | inr done ↦
          subst (λ o. One (option_to_list o)) (sym done)
          (one_there p answer (record { mount = refl; next = ends; was = was; upto = upto; none = none; done = done }))
      | inl refused ↦
          subst (λ o. One (option_to_list o)) (sym refused)
          (nothing_there (λ m q other is.
          let e : ◌≡◌ {A = Option MountNext} (Some (Done answer)) (Some (Done other)) = sym ends ∙ is.next in
          let same : answer ≡ other = cc in
          let call : p ≡ q = same_Some p q (sym was ∙ is.was) in
          none-some q.call (sym refused ∙ ap (λ (r : Pending). call_done r.call answer) call ∙ ap (call_done q.call) same ∙ is.done)))
    ]

    one_time : One (in_place list position (lives layout v first) t)
    one_time =
        by_test ((y.upto == position) && has_no_call list t.mount y.files.calls)
        (λ b. One (if b then option_to_list (done_by (called x t.input) (next_by x t.input)) else []))
        (λ both. let parts = and_parts (y.upto == position) (has_no_call list t.mount y.files.calls) both in by_end (eqb-true y.upto position parts.0) parts.1 (called x t.input) refl (next_by x t.input) refl)
        (λ other. nothing_there (λ m p answer is. false≢true (sym other ∙ and_from (y.upto == position) (has_no_call list t.mount y.files.calls) (eq-eqb y.upto position is.upto) is.none)))

  places_from : (position : ℕ) (first rest : List MountTold) → now ≡ first ++ rest → PlaceList position (length first) (in_place_from list position (lives layout v first) rest)
  places_from position first [] now_is = record {
    stood = [];
    are = refl;
    each = tt;
    order = tt;
    all = λ time m p late e.
        let size = ap (λ (us : List MountTold). length us) (now_is ∙ append-nil first) in
        let its = ap (λ (us : List MountTold). length us) e.at.now_is ∙ length-append e.at.first (record { mount = m; input = e.at.input } ∷ e.at.rest) in
        let at = e.at.time_is in
        absurd (omega (arith, size, its, at, late));
  }
  places_from position first (t ∷ rest) now_is =
      let here : List MountTold = first ++ t ∷ [] in
      let one = one_time position first t rest now_is in
      let more = places_from position here rest (now_is ∙ sym (append_assoc first (t ∷ []) rest)) in
      let size : length here ≡ suc (length first) = (let parts = length-append first (t ∷ []) in omega (arith, parts)) in
      let ls : lives layout v here ≡ lived (lives layout v first) t = lives_on (all_opened layout v) first (t ∷ []) in
      record {
        stood = one.0 ++ more.stood;
        are = map-append call_in_list one.0 more.stood ∙ ap (λ calls. calls ++ map call_in_list more.stood) one.1 ∙ ap (λ calls. in_place list position (lives layout v first) t ++ calls) (more.are ∙ ap (λ of. in_place_from list position of rest) ls);
        each = every_append (IsPlace position (length first)) one.0 more.stood one.2 (every_more (IsPlace position (length here)) (IsPlace position (length first)) (λ s is. place_later position (length first) (length here) s (omega (arith, size)) is) more.stood more.each);
        order =
            order_append one.0 more.stood one.4 more.order
            (both_before one.0 more.stood (length first) one.2 one.3 (every_more (IsPlace position (length here)) (λ s. (s.position ≡ position) × (length first < s.ended)) (λ s is. (is.there, (let late = is.late in omega (arith, late, size)))) more.stood more.each));
        all = λ time m p late e. elim (cases_lt (length first) time) [
          | inl later ↦ has_back one.0 more.stood (record { mount = m; call = p; position = position; ended = time }) (more.all time m p (omega (arith, later, size)) e)
          | inr not_later ↦
              let at : length first ≡ time = omega (arith, late, not_later) in
              has_front one.0 more.stood (record { mount = m; call = p; position = position; ended = time })
              (subst (λ k. Has one.0 (record { mount = m; call = p; position = position; ended = k })) at (one.5 m p (subst (λ k. EndsInPlace position k m p) (sym at) e)))
        ];
      }
    where
      one_before : (s : Stood) (ss : List Stood) (from : ℕ) → s.position ≡ position → s.ended ≡ from → Every (λ (r : Stood). (r.position ≡ position) × (from < r.ended)) ss → Every (IsBefore s) ss
      one_before s [] from at end each = tt
      one_before s (r ∷ ss) from at end each = (inr (at ∙ sym each.0.0, (let later = each.0.1 in omega (arith, later, end))), one_before s ss from at end each.1)

      both_before : (xs ys : List Stood) (from : ℕ) → Every (IsPlace position from) xs → Every (λ (s : Stood). s.ended ≡ from) xs → Every (λ (r : Stood). (r.position ≡ position) × (from < r.ended)) ys → Every (λ s. Every (IsBefore s) ys) xs
      both_before [] ys from are at each = tt
      both_before (s ∷ xs) ys from are at each = (one_before s ys from are.0.there at.0 each, both_before xs ys from are.1 at.1 each)

  pub places : (position : ℕ) → PlaceList position 0 (in_place_from list position (all_opened layout v) now)
  places position = places_from position [] now refl
