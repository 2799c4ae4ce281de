-- Where numbers stand by their values: what an index has when one number has another value, and what is found in it.
use Rattle.std.proofs.Common.{◌≡◌, ◌≢◌, ℕ, ◌+◌, ◌-◌, ◌<◌, ◌≤◌, inl, inr, ◌⊎◌, Bool, true, false, List, [], length, get_or, set, replicate, Option, None, Some, refl, sym, ap, ◌∙◌, subst, arith}
use Rattle.std.specs.Bool.{MatchBool}
use Rattle.std.specs.Cmp.{IsTotalOrder}
use Rattle.std.specs.List.{Contains}
use Rattle.std.specs.Option.{MatchOption}
use Rattle.std.specs.Ordering.{MatchOrdering, is_eq, is_lt, nat_cmp, ordering_then}
use Rattle.std.specs.declared.cmp.Ordering.{Ordering}
use Rattle.std.specs.declared.cmp.Ordering.TheVariants.{Less, Equal, Greater}
use Rattle.std.specs.declared.cmp.Reverse.{Reverse}
use Rattle.std.proofs.lemmas.Bool.{cases_eq, false_from_ne_true, true≢false}
use Rattle.std.proofs.lemmas.Cmp.{alike_right, ranked, tied_itself}
use Rattle.std.proofs.lemmas.List.{get_or_default, get_or-set_same, get_or-set_other, get_or-replicate, length-set, length-replicate}
use Rattle.pf_tree_tables.specs.declared.index.Index.{Index}
use Rattle.pf_tree_tables.specs.declared.index.Row.{Row}
use Rattle.pf_tree_tables.specs.Index.{HasValue, IsFreeNumber, IndexIsInOrder, IsInUse, IsIndexOf, IsLeastWith, IsNowhere, PutsIn, TakesOut, free_cmp, row_cmp}
use Rattle.pf_tree_tables.specs.Ordered.{TiesWithNone, AreAscending, AreBefore, IsLeastOf, Puts, TakesItem}
use Rattle.pf_tree_tables.specs.Places.{IsLeastFrom, IsNoneFrom}
use Rattle.pf_tree_tables.proofs.OrderedLists.{forth}

-- orderings
pub is_equal : (o : Ordering) → is_eq o ≡ true → o ≡ Equal
is_equal Less e = cc
is_equal Equal e = refl
is_equal Greater e = cc

then_equal : (a b : Ordering) → ordering_then a b ≡ Equal → b ≡ Equal
then_equal Less b e = cc
then_equal Equal b e = e
then_equal Greater b e = cc

then_not_less : (a b : Ordering) → is_lt (ordering_then a b) ≡ false → is_eq a ≡ false → a ≡ Greater
then_not_less Less b e other = cc
then_not_less Equal b e other = cc
then_not_less Greater b e other = refl

nat_ranks : (a b : ℕ) (o : Ordering) → nat_cmp a b ≡ o → MatchOrdering o (a < b) (a ≡ b) (b < a)
nat_ranks a b o e = ranked a b o (sym e)

nat_not_less : (a b : ℕ) (o : Ordering) → nat_cmp a b ≡ o → is_lt o ≡ false → b ≤ a
nat_not_less a b Less e low = cc
nat_not_less a b Equal e low = let m : a ≡ b = nat_ranks a b Equal e in omega arith
nat_not_less a b Greater e low = let m : b < a = nat_ranks a b Greater e in omega arith

nat_up : (a b : ℕ) (o : Ordering) → nat_cmp a b ≡ o → a < b → o ≡ Less
nat_up a b Less e low = refl
nat_up a b Equal e low = let m : a ≡ b = nat_ranks a b Equal e in absurd (omega arith)
nat_up a b Greater e low = let m : b < a = nat_ranks a b Greater e in absurd (omega arith)

nat_behind : (a b : ℕ) (o : Ordering) → nat_cmp a b ≡ o → b ≤ a → is_lt o ≡ false
nat_behind a b Less e high = let m : a < b = nat_ranks a b Less e in absurd (omega arith)
nat_behind a b Equal e high = refl
nat_behind a b Greater e high = refl

same_row : {T : Type 0} (a b : Row T) → a.value ≡ b.value → a.number ≡ b.number → a ≡ b
same_row a b e f = ap (λ v. record { value = v; number = a.number }) e ∙ ap (λ (n : ℕ). record { value = b.value; number = n }) f

same_number : (a : Reverse ℕ) (b : ℕ) → a.0 ≡ b → a ≡ record { 0 = b }
same_number a b e = ap (λ (n : ℕ). record { 0 = n }) e

-- a number that is nowhere ties with none
pub apart_rows : {T : Type 0} (R : T → T → Ordering) (index : Index T) (row : Row T) → IsNowhere row.number index → TiesWithNone (row_cmp R) index.rows.items row
apart_rows R index row nowhere other c tie =
    nowhere.used other c (let n : other.number ≡ row.number = nat_ranks other.number row.number Equal (then_equal (R other.value row.value) (nat_cmp other.number row.number) tie) in n)

pub apart_free : {T : Type 0} (index : Index T) (number : ℕ) → IsNowhere number index → TiesWithNone free_cmp index.free.items (record { 0 = number })
apart_free index number nowhere other c tie =
    nowhere.free other c (let n : number ≡ other.0 = nat_ranks number other.0 Equal tie in sym n)

module _ {T : Type 0} {R : T → T → Ordering} (o : IsTotalOrder R) where
  module _ (values : List T) (old : Index T) (is : IsIndexOf R values old) (row : Row T) (low : row.number < length values) (row_is : row.value ≡ get_or values row.number old.blank) where
    -- a number is taken out
    module _ (mid : Index T) (takes : TakesOut R old row mid) where
      abbrev Taken : Bool → Type 0
      Taken t =
          MatchBool t (TakesItem free_cmp old.free.items (record { 0 = row.number }) mid.free.items × (mid.rows.items ≡ old.rows.items))
          (TakesItem (row_cmp R) old.rows.items row mid.rows.items × (mid.free.items ≡ old.free.items))

      kept_used : (other : Row T) → Contains old.rows.items other → other.number ≢ row.number → Contains mid.rows.items other
      kept_used other c apart = by (is_eq (R row.value old.blank)) takes
        where
          by : (t : Bool) → Taken t → Contains mid.rows.items other
          by true m = subst (λ (rs : List (Row T)). Contains rs other) (sym m.1) c
          by false m = m.0.kept other c (λ e. apart (ap (λ (r : Row T). r.number) e))

      kept_free : (other : Reverse ℕ) → Contains old.free.items other → other.0 ≢ row.number → Contains mid.free.items other
      kept_free other c apart = by (is_eq (R row.value old.blank)) takes
        where
          by : (t : Bool) → Taken t → Contains mid.free.items other
          by true m = m.0.kept other c (λ e. apart (ap (λ (r : Reverse ℕ). r.0) e))
          by false m = subst (λ (ns : List (Reverse ℕ)). Contains ns other) (sym m.1) c

      left_used : (other : Row T) → Contains mid.rows.items other → Contains old.rows.items other × (other.number ≢ row.number)
      left_used other c = by (is_eq (R row.value old.blank)) refl takes
        where
          value_same : Contains old.rows.items other → other.number ≡ row.number → other.value ≡ row.value
          value_same there e = (is.only_used other there).value ∙ ap (λ (n : ℕ). get_or values n old.blank) e ∙ sym row_is

          by : (t : Bool) → is_eq (R row.value old.blank) ≡ t → Taken t → Contains old.rows.items other × (other.number ≢ row.number)
          by true blank m =
              let there : Contains old.rows.items other = subst (λ (rs : List (Row T)). Contains rs other) m.1 c in
              (there, λ e. true≢false (sym blank ∙ ap (λ (x : T). is_eq (R x old.blank)) (sym (value_same there e)) ∙ (is.only_used other there).used))
          by false used m = let at = m.0.only other c in (at.0, λ e. at.1 (same_row other row (value_same at.0 e) e))

      left_free : (other : Reverse ℕ) → Contains mid.free.items other → Contains old.free.items other × (other.0 ≢ row.number)
      left_free other c = by (is_eq (R row.value old.blank)) refl takes
        where
          by : (t : Bool) → is_eq (R row.value old.blank) ≡ t → Taken t → Contains old.free.items other × (other.0 ≢ row.number)
          by true blank m = let at = m.0.only other c in (at.0, λ e. at.1 (same_number other row.number e))
          by false used m =
              let there : Contains old.free.items other = subst (λ (ns : List (Reverse ℕ)). Contains ns other) m.1 c in
              (there, λ e. true≢false (sym (is.only_free other there).free ∙ ap (λ (n : ℕ). is_eq (R (get_or values n old.blank) old.blank)) e ∙ ap (λ (x : T). is_eq (R x old.blank)) (sym row_is) ∙ used))

      pub nowhere : IsNowhere row.number mid
      nowhere = record { used = λ other c. (left_used other c).1; free = λ other c. (left_free other c).1 }

      pub in_order : IndexIsInOrder R mid
      in_order = by (is_eq (R row.value old.blank)) takes
        where
          by : (t : Bool) → Taken t → IndexIsInOrder R mid
          by true m = record { ascend = subst (λ (rs : List (Row T)). AreAscending (row_cmp R) rs) (sym m.1) is.order.ascend; descend = m.0.ascend }
          by false m = record { ascend = m.0.ascend; descend = subst (λ (ns : List (Reverse ℕ)). AreAscending free_cmp ns) (sym m.1) is.order.descend }

      pub fewer : length mid.rows.items + length mid.free.items + 1 ≡ length values
      fewer = by (is_eq (R row.value old.blank)) takes
        where
          by : (t : Bool) → Taken t → length mid.rows.items + length mid.free.items + 1 ≡ length values
          by true m = let f = m.0.fewer in let l = ap (λ (rs : List (Row T)). length rs) m.1 in let n = is.count in omega (arith, f, l, n)
          by false m = let f = m.0.fewer in let l = ap (λ (ns : List (Reverse ℕ)). length ns) m.1 in let n = is.count in omega (arith, f, l, n)

      -- and put in with another value
      module _ (new : Index T) (put : Row T) (number : put.number ≡ row.number) (mid_blank : mid.blank ≡ old.blank) (new_blank : new.blank ≡ mid.blank) (puts : PutsIn R mid put new) where
        abbrev Put : Bool → Type 0
        Put t =
            MatchBool t (Puts free_cmp mid.free.items (record { 0 = put.number }) new.free.items × (new.rows.items ≡ mid.rows.items))
            (Puts (row_cmp R) mid.rows.items put new.rows.items × (new.free.items ≡ mid.free.items))

        puts_by : Put (is_eq (R put.value old.blank))
        puts_by = subst (λ (x : T). Put (is_eq (R put.value x))) mid_blank puts

        stays_used : (other : Row T) → Contains mid.rows.items other → Contains new.rows.items other
        stays_used other c = by (is_eq (R put.value old.blank)) puts_by
          where
            by : (t : Bool) → Put t → Contains new.rows.items other
            by true m = subst (λ (rs : List (Row T)). Contains rs other) (sym m.1) c
            by false m = m.0.kept other c

        stays_free : (other : Reverse ℕ) → Contains mid.free.items other → Contains new.free.items other
        stays_free other c = by (is_eq (R put.value old.blank)) puts_by
          where
            by : (t : Bool) → Put t → Contains new.free.items other
            by true m = m.0.kept other c
            by false m = subst (λ (ns : List (Reverse ℕ)). Contains ns other) (sym m.1) c

        now_used : is_eq (R put.value old.blank) ≡ false → Contains new.rows.items put
        now_used e = let m = subst Put e puts_by in m.0.there

        now_free : is_eq (R put.value old.blank) ≡ true → Contains new.free.items (record { 0 = put.number })
        now_free e = let m = subst Put e puts_by in m.0.there

        from_used : (other : Row T) → Contains new.rows.items other → ((other ≡ put) × (is_eq (R put.value old.blank) ≡ false)) ⊎ Contains mid.rows.items other
        from_used other c = by (is_eq (R put.value old.blank)) refl puts_by
          where
            by : (t : Bool) → is_eq (R put.value old.blank) ≡ t → Put t → ((other ≡ put) × (is_eq (R put.value old.blank) ≡ false)) ⊎ Contains mid.rows.items other
            by true e m = inr (subst (λ (rs : List (Row T)). Contains rs other) m.1 c)
            by false e m = elim (m.0.only other c) [ inl new_one ↦ inl (new_one, e) | inr earlier ↦ inr earlier ]

        from_free : (other : Reverse ℕ) → Contains new.free.items other → ((other.0 ≡ put.number) × (is_eq (R put.value old.blank) ≡ true)) ⊎ Contains mid.free.items other
        from_free other c = by (is_eq (R put.value old.blank)) refl puts_by
          where
            by : (t : Bool) → is_eq (R put.value old.blank) ≡ t → Put t → ((other.0 ≡ put.number) × (is_eq (R put.value old.blank) ≡ true)) ⊎ Contains mid.free.items other
            by true e m = elim (m.0.only other c) [ inl new_one ↦ inl (ap (λ (n : Reverse ℕ). n.0) new_one, e) | inr earlier ↦ inr earlier ]
            by false e m = inr (subst (λ (ns : List (Reverse ℕ)). Contains ns other) m.1 c)

        -- the number's value, and those of the others
        here : (k : ℕ) → k ≡ row.number → get_or (set values row.number put.value) k old.blank ≡ put.value
        here k e = ap (λ (n : ℕ). get_or (set values row.number put.value) n old.blank) e ∙ get_or-set_same values row.number put.value old.blank low

        there : (k : ℕ) → k ≢ row.number → get_or (set values row.number put.value) k old.blank ≡ get_or values k old.blank
        there k e = get_or-set_other values row.number k put.value old.blank e

        long : length (set values row.number put.value) ≡ length values
        long = length-set values row.number put.value

        used : (other : Row T) → IsInUse R (set values row.number put.value) old.blank other → Contains new.rows.items other
        used other u =
            elim (cases_eq other.number row.number) [
              | inl same ↦
                  let value_is : other.value ≡ put.value = u.value ∙ here other.number same in
                  let used_now : is_eq (R put.value old.blank) ≡ false = ap (λ (x : T). is_eq (R x old.blank)) (sym value_is) ∙ u.used in
                  subst (λ (r : Row T). Contains new.rows.items r) (sym (same_row other put value_is (same ∙ sym number))) (now_used used_now)
              | inr apart ↦
                  let short : other.number < length values = let w = u.within in let l = long in omega (arith, w, l) in
                  stays_used other (kept_used other (is.used other (record { within = short; value = u.value ∙ there other.number apart; used = u.used })) apart)
            ]

        only_used : (other : Row T) → Contains new.rows.items other → IsInUse R (set values row.number put.value) old.blank other
        only_used other c =
            elim (from_used other c) [
              | inl (same, in_use) ↦
                  subst (λ (r : Row T). IsInUse R (set values row.number put.value) old.blank r) (sym same)
                  (record { within = let l = long in omega (arith, l, number, low); value = sym (here put.number number); used = in_use })
              | inr earlier ↦
                  let c0 = left_used other earlier in
                  let u = is.only_used other c0.0 in
                  record { within = let w = u.within in let l = long in omega (arith, w, l); value = u.value ∙ sym (there other.number c0.1); used = u.used }
            ]

        free : (other : Reverse ℕ) → IsFreeNumber R (set values row.number put.value) old.blank other.0 → Contains new.free.items other
        free other f =
            elim (cases_eq other.0 row.number) [
              | inl same ↦
                  let blank_now : is_eq (R put.value old.blank) ≡ true = ap (λ (x : T). is_eq (R x old.blank)) (sym (here other.0 same)) ∙ f.free in
                  subst (λ (n : Reverse ℕ). Contains new.free.items n) (sym (same_number other put.number (same ∙ sym number))) (now_free blank_now)
              | inr apart ↦
                  let short : other.0 < length values = let w = f.within in let l = long in omega (arith, w, l) in
                  let blank : is_eq (R (get_or values other.0 old.blank) old.blank) ≡ true = ap (λ (x : T). is_eq (R x old.blank)) (sym (there other.0 apart)) ∙ f.free in
                  stays_free other (kept_free other (is.free other (record { within = short; free = blank })) apart)
            ]

        only_free : (other : Reverse ℕ) → Contains new.free.items other → IsFreeNumber R (set values row.number put.value) old.blank other.0
        only_free other c =
            elim (from_free other c) [
              | inl (same, blank) ↦
                  record { within = let l = long in omega (arith, l, same, number, low); free = ap (λ (x : T). is_eq (R x old.blank)) (here other.0 (same ∙ number)) ∙ blank }
              | inr earlier ↦
                  let c0 = left_free other earlier in
                  let f = is.only_free other c0.0 in
                  record { within = let w = f.within in let l = long in omega (arith, w, l); free = ap (λ (x : T). is_eq (R x old.blank)) (there other.0 c0.1) ∙ f.free }
            ]

        order : IndexIsInOrder R new
        order = by (is_eq (R put.value old.blank)) puts_by
          where
            by : (t : Bool) → Put t → IndexIsInOrder R new
            by true m = record { ascend = subst (λ (rs : List (Row T)). AreAscending (row_cmp R) rs) (sym m.1) in_order.ascend; descend = m.0.ascend }
            by false m = record { ascend = m.0.ascend; descend = subst (λ (ns : List (Reverse ℕ)). AreAscending free_cmp ns) (sym m.1) in_order.descend }

        count : length new.rows.items + length new.free.items ≡ length values
        count = by (is_eq (R put.value old.blank)) puts_by
          where
            by : (t : Bool) → Put t → length new.rows.items + length new.free.items ≡ length values
            by true m = let f = m.0.more in let l = ap (λ (rs : List (Row T)). length rs) m.1 in let n = fewer in omega (arith, f, l, n)
            by false m = let f = m.0.more in let l = ap (λ (ns : List (Reverse ℕ)). length ns) m.1 in let n = fewer in omega (arith, f, l, n)

        pub put_back : IsIndexOf R (set values row.number put.value) new
        put_back =
            let blank : old.blank ≡ new.blank = sym (new_blank ∙ mid_blank) in
            record {
              order = order;
              used = λ other u. used other (subst (λ (x : T). IsInUse R (set values row.number put.value) x other) (sym blank) u);
              only_used = λ other c. subst (λ (x : T). IsInUse R (set values row.number put.value) x other) blank (only_used other c);
              free = λ other f. free other (subst (λ (x : T). IsFreeNumber R (set values row.number put.value) x other.0) (sym blank) f);
              only_free = λ other c. subst (λ (x : T). IsFreeNumber R (set values row.number put.value) x other.0) blank (only_free other c);
              count = count ∙ sym long;
            }

  -- what is found in an index
  module _ (index : Index T) (value : T) (first : ℕ) where
    abbrev Has : Bool → ℕ → Type 0
    Has t number =
        MatchBool t (Contains index.free.items (record { 0 = number }))
        ((row : Row T) × Contains index.rows.items row × (row.number ≡ number) × (is_eq (R row.value value) ≡ true))

    module _ (blank : is_eq (R value index.blank) ≡ true) where
      free_has : (k : ℕ) → HasValue R index value k → Contains index.free.items (record { 0 = k })
      free_has k has = subst (λ (t : Bool). Has t k) blank has

      pub none_free : AreBefore (λ a b. free_cmp b a) index.free.items (record { 0 = first }) → (k : ℕ) → first ≤ k → HasValue R index value k → ⊥
      none_free before k high has = let low : k < first = nat_ranks k first Less (before (record { 0 = k }) (free_has k has)) in omega (arith, high, low)

      pub least_free : (number : Reverse ℕ) → IsLeastOf (λ a b. free_cmp b a) index.free.items (record { 0 = first }) number → IsLeastWith R index value first number.0
      least_free number least = record {
        low = nat_not_less number.0 first (nat_cmp number.0 first) refl least.behind;
        there = subst (λ (t : Bool). Has t number.0) (sym blank) least.there;
        least =
            λ other high has.
            nat_not_less other number.0 (nat_cmp other number.0) refl
            (least.least (record { 0 = other }) (free_has other has) (nat_behind other first (nat_cmp other first) refl high));
      }

    module _ (used : is_eq (R value index.blank) ≡ false) where
      row_has : (k : ℕ) → HasValue R index value k → (row : Row T) × Contains index.rows.items row × (row.number ≡ k) × (is_eq (R row.value value) ≡ true)
      row_has k has = subst (λ (t : Bool). Has t k) used has

      -- how rows with the value follow others
      tied_order : (a b : Row T) → R a.value b.value ≡ Equal → row_cmp R a b ≡ nat_cmp a.number b.number
      tied_order a b tie = ap (λ (r : Ordering). ordering_then r (nat_cmp a.number b.number)) tie

      module _ (row : Row T) (least : IsLeastOf (row_cmp R) index.rows.items (record { value = value; number = first }) row) where
        not_before : (other : Row T) (k : ℕ) → first ≤ k → Contains index.rows.items other → other.number ≡ k → R other.value value ≡ Equal → is_lt (row_cmp R other row) ≡ false
        not_before other k high c n tie =
            least.least other c
            (ap is_lt (tied_order other (record { value = value; number = first }) tie) ∙ nat_behind other.number first (nat_cmp other.number first) refl (omega (arith, high, n)))

        pub least_used : is_eq (R row.value value) ≡ true → IsLeastWith R index value first row.number
        least_used tied =
            let tie = is_equal _ tied in record {
              low = nat_not_less row.number first (nat_cmp row.number first) refl (ap is_lt (sym (tied_order row (record { value = value; number = first }) tie)) ∙ least.behind);
              there = subst (λ (t : Bool). Has t row.number) (sym used) (row, least.there, refl, tied);
              least =
                  λ other high has.
                  let (at, c, n, same) = row_has other has in
                  let both : R at.value row.value ≡ Equal = alike_right o row.value value at.value tie ∙ is_equal _ same in
                  let low = nat_not_less at.number row.number (nat_cmp at.number row.number) refl (ap is_lt (sym (tied_order at row both)) ∙ not_before at other high c n (is_equal _ same)) in
                  omega (arith, low, n);
            }

        pub other_used : is_eq (R row.value value) ≡ false → (k : ℕ) → first ≤ k → HasValue R index value k → ⊥
        other_used other k high has =
            let (at, c, n, same) = row_has k has in
            let above : R row.value value ≡ Greater = then_not_less (R row.value value) (nat_cmp row.number first) least.behind other in
            let below : R at.value row.value ≡ Less = forth o row.value at.value (alike_right o at.value value row.value (is_equal _ same) ∙ above) in
            let less : row_cmp R at row ≡ Less = ap (λ (r : Ordering). ordering_then r (nat_cmp at.number row.number)) below in
            let not = not_before at k high c n (is_equal _ same) in
            true≢false (sym (ap is_lt less) ∙ not)

  -- and so among the values
  module _ (values : List T) (index : Index T) (is : IsIndexOf R values index) (value : T) where
    has : (k : ℕ) → k < length values → is_eq (R (get_or values k index.blank) value) ≡ true → HasValue R index value k
    has k low tied = by (is_eq (R value index.blank)) refl
      where
        x : T
        x = get_or values k index.blank

        by : (t : Bool) → is_eq (R value index.blank) ≡ t → Has index value 0 t k
        by true blank = is.free (record { 0 = k }) (record { within = low; free = ap is_eq (sym (alike_right o value index.blank x (is_equal _ blank))) ∙ tied })
        by false used = (
          record { value = x; number = k },
          is.used (record { value = x; number = k }) (record { within = low; value = refl; used = ap is_eq (o.congr x value index.blank (is_equal _ tied)) ∙ used }),
          refl,
          tied,
        )

    had : (k : ℕ) → HasValue R index value k → (k < length values) × (is_eq (R (get_or values k index.blank) value) ≡ true)
    had k there = by (is_eq (R value index.blank)) refl there
      where
        by : (t : Bool) → is_eq (R value index.blank) ≡ t → Has index value 0 t k → (k < length values) × (is_eq (R (get_or values k index.blank) value) ≡ true)
        by true blank c =
            let f = is.only_free (record { 0 = k }) c in
            (f.within, ap is_eq (alike_right o value index.blank (get_or values k index.blank) (is_equal _ blank)) ∙ f.free)
        by false used (row, c, n, tie) =
            let u = is.only_used row c in
            (let w = u.within in omega (arith, w, n), ap (λ (m : ℕ). is_eq (R (get_or values m index.blank) value)) (sym n) ∙ ap (λ (v : T). is_eq (R v value)) (sym u.value) ∙ tie)

    none_from : (first : ℕ) → ((k : ℕ) → first ≤ k → HasValue R index value k → ⊥) → IsNoneFrom (λ x. is_eq (R x value)) values first
    none_from first none k d high low =
        false_from_ne_true _ (λ e. none k high (has k low (ap (λ (x : T). is_eq (R x value)) (get_or_default values k index.blank d low) ∙ e)))

    least_from : (first number : ℕ) → IsLeastWith R index value first number → IsLeastFrom (λ x. is_eq (R x value)) values first number
    least_from first number least =
        let at = had number least.there in record {
          low = least.low;
          within = at.0;
          passes = λ d. ap (λ (x : T). is_eq (R x value)) (get_or_default values number d index.blank at.0) ∙ at.1;
          before =
              λ k d high low.
              let short : k < length values = let w = at.0 in omega (arith, w, low) in
              false_from_ne_true _ (λ e.
              let back = least.least k high (has k short (ap (λ (x : T). is_eq (R x value)) (get_or_default values k index.blank d short) ∙ e)) in
              omega (arith, back, low));
        }

    pub found : (first : ℕ) (r : Option ℕ) → MatchOption r ((k : ℕ) → first ≤ k → HasValue R index value k → ⊥) (IsLeastWith R index value first) → MatchOption r (IsNoneFrom (λ x. is_eq (R x value)) values first) (IsLeastFrom (λ x. is_eq (R x value)) values first)
    found first None none = none_from first none
    found first (Some number) least = least_from first number least

  -- an index with the same rows and free numbers
  pub same_index : (values : List T) (index copy : Index T) → IsIndexOf R values index → copy.blank ≡ index.blank → copy.rows.items ≡ index.rows.items → copy.free.items ≡ index.free.items → IsIndexOf R values copy
  same_index values index copy is blank rows free = record {
    order = record {
      ascend = subst (λ (rs : List (Row T)). AreAscending (row_cmp R) rs) (sym rows) is.order.ascend;
      descend = subst (λ (ns : List (Reverse ℕ)). AreAscending free_cmp ns) (sym free) is.order.descend;
    };
    used = λ row u. subst (λ (rs : List (Row T)). Contains rs row) (sym rows) (is.used row (subst (λ (x : T). IsInUse R values x row) blank u));
    only_used = λ row c. subst (λ (x : T). IsInUse R values x row) (sym blank) (is.only_used row (subst (λ (rs : List (Row T)). Contains rs row) rows c));
    free = λ number f. subst (λ (ns : List (Reverse ℕ)). Contains ns number) (sym free) (is.free number (subst (λ (x : T). IsFreeNumber R values x number.0) blank f));
    only_free =
        λ number c. subst (λ (x : T). IsFreeNumber R values x number.0) (sym blank) (is.only_free number (subst (λ (ns : List (Reverse ℕ)). Contains ns number) free c));
    count = ap (λ (rs : List (Row T)). length rs + length copy.free.items) rows ∙ ap (λ (ns : List (Reverse ℕ)). length index.rows.items + length ns) free ∙ is.count;
  }

  -- an index of blank values alone
  pub all_free : (n : ℕ) (v : T) (index : Index T) → index.blank ≡ v → index.rows.items ≡ [] → length index.free.items ≡ n → ((k : ℕ) (d : Reverse ℕ) → k < n → get_or index.free.items k d ≡ record { 0 = n - (k + 1) }) → IsIndexOf R (replicate n v) index
  all_free n v index blank none long each = record {
    order = record {
      ascend = subst (λ (rs : List (Row T)). AreAscending (row_cmp R) rs) (sym none) (λ i j d low short. absurd (omega (arith, short)));
      descend =
          λ i j d low short.
          ap (λ (a : Reverse ℕ). free_cmp a (get_or index.free.items j d)) (each i d (omega (arith, low, short, long)))
          ∙ ap (λ (b : Reverse ℕ). free_cmp (record { 0 = n - (i + 1) }) b) (each j d (omega (arith, short, long)))
          ∙ nat_up (n - (j + 1)) (n - (i + 1)) (nat_cmp (n - (j + 1)) (n - (i + 1))) refl (omega (arith, low, short, long));
    };
    used =
        λ row u.
        let low : row.number < n = let w = u.within in omega (arith, w, length-replicate n v) in
        let value_is : row.value ≡ v = u.value ∙ get_or-replicate n row.number v index.blank low in
        absurd (true≢false (sym (is_blank row.value value_is) ∙ u.used));
    only_used =
        λ row c.
        let short : c.0 < length index.rows.items = c.1 in
        let zero = ap (λ (rs : List (Row T)). length rs) none in
        absurd (omega (arith, short, zero));
    free =
        λ number f.
        let low : number.0 < n = let w = f.within in omega (arith, w, length-replicate n v) in
        (n - (number.0 + 1), omega (arith, low, long), each (n - (number.0 + 1)) number (omega (arith, low)) ∙ ap (λ (m : ℕ). record { 0 = m }) (omega (arith, low)));
    only_free =
        λ number c.
        let short : c.0 < n = let w = c.1 in omega (arith, w, long) in
        let number_is : number.0 ≡ n - (c.0 + 1) = ap (λ (a : Reverse ℕ). a.0) (sym c.2 ∙ each c.0 number short) in
        let low : number.0 < n = omega (arith, short, number_is) in
        record { within = omega (arith, low, length-replicate n v); free = is_blank (get_or (replicate n v) number.0 index.blank) (get_or-replicate n number.0 v index.blank low) };
    count = let zero = ap (λ (rs : List (Row T)). length rs) none in omega (arith, zero, long, length-replicate n v);
  }
    where
      is_blank : (x : T) → x ≡ v → is_eq (R x index.blank) ≡ true
      is_blank x e = ap (λ (y : T). is_eq (R y index.blank)) (e ∙ sym blank) ∙ ap is_eq (tied_itself o index.blank)
