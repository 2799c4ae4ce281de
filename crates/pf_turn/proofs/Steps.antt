-- Each step of a turn lock keeps its rule.
use Rattle.std.proofs.Common.{◌≡◌, ◌≢◌, ℕ, zero, suc, ◌+◌, ◌-◌, ◌%◌, ◌^◌, ◌≤◌, ◌<◌, Bool, true, false, cond, List, [], ◌∷◌, ◌++◌, length, length-append, get_or, set, sym, refl, ap, ◌∙◌, subst, ⊎_elim, inl, inr, arith, mod-eq_of_lt, length-set, true≢false, Option as Maybe, Some, None}
use mathlib.Core.Logic.{dite}
use mathlib.Core.Option.{Option, none, some, some-injective, some-ne-none}
use native.Mathlib.Decide.{ℕ_discrete}
use lib.ListN.{get_elem?}
use lib.Seq.{set-get_or}
use Rattle.std.proofs.Math.Nat.{mod-add-mod}
use Rattle.atomic_table.specs.Table.{State, Me, step, keeps, takes, gives, stepped, Allows, Splits, Joins, opening, Final, Seen}
use Rattle.atomic_table.proofs.Lists.{at_set, set_again, set_else, at_longer, one_turn, at_snoc}
use Rattle.pf_turn.specs.declared.log.Stamped.{Stamped}
use Rattle.pf_turn.specs.declared.sight.Sight.{Sight}
use Rattle.pf_turn.specs.declared.sight.SightStage.{SightStage}
use Rattle.pf_turn.specs.declared.sight.SightStage.TheVariants.{Idle, Waiting, Called}
use Rattle.pf_turn.specs.Lists.{Begins, Every, SameOf, tally, Unique, entries_of, GrewBy}
use Rattle.pf_turn.specs.Rule.{ticket_in, weight, opener, spent, ticket_of, number_of, has_ticket, is_live, Staged, Knows, IsCalled, IsSeen, Kept, Ruled, staged_at, holding, drawing, cut_left, cut_right, glued, drew, numbered, told, AreApart, AreRooted, IsGone, Found, looked, served_next}
use Rattle.pf_turn.proofs.Lists.{begins_refl, begins_trans, longer_begins, begins_antisym, none_begun, entries_between, entries_stay, each_map, each_both, each_is}
use Rattle.pf_turn.proofs.Views.{same_at, at_inside, set_at, each_set, tally-set, tally-snoc, tally_le, tally_two, unique_set, unique_same, unique_none, unique_snoc}

number_is : (b : Bool) (m n : ℕ) → cond b (some m) none ≡ some n → (b ≡ true) × (m ≡ n)
number_is true m n e = (refl, some-injective m n e)
number_is false m n e = absurd (some-ne-none n (sym e))

weight_one : (o : Option ℕ) → weight o ≤ 1
weight_one none = omega arith
weight_one (some n) = omega arith

module _ {A : Type 0} where
  pub not_none : (a : A) → None ≡ Some a → ⊥
  not_none a e = cc

  pub value_of_some : (a b : A) → Some a ≡ Some b → a ≡ b
  value_of_some a b e = cc

module _ {E K : Type 0} where
  live_weight : (v : Sight E K) → v.live ≡ true → is_live v ≡ 1
  live_weight v l = ap (λ b. weight (cond b (some v.number) none)) l

  live_number : (v : Sight E K) → v.live ≡ true → number_of v ≡ some v.number
  live_number v l = ap (λ b. cond b (some v.number) none) l

  stage_weight : (v : Sight E K) (st : SightStage) → v.stage ≡ st → has_ticket v ≡ weight (ticket_in st)
  stage_weight v st e = ap (λ z. weight (ticket_in z)) e

  -- a seat whose number is that of a live seat of the same number is that seat
  same_number : (vs : List (Sight E K)) (i j : ℕ) (u v : Sight E K) → Unique number_of vs → get_elem? vs i ≡ some u → get_elem? vs j ≡ some v → u.live ≡ true → v.live ≡ true → u.number ≡ v.number → i ≡ j
  same_number vs i j u v one p q l m e = one i j v.number u v p q (live_number u l ∙ ap some e) (live_number v m)

  called_set : (vs : List (Sight E K)) (i : ℕ) (v w : Sight E K) → get_elem? vs i ≡ some v → ((t : ℕ) → v.stage ≡ Called t → w.stage ≡ Called t) → IsCalled vs → IsCalled (set vs i w)
  called_set vs i v w at keep c = let j = c.0 in let t = c.1 in let u = c.2 in dite (ℕ_discrete j i)
      (λ e. let here : get_elem? vs i ≡ some u = subst (λ k. get_elem? vs k ≡ some u) e c.3 in (i, t, w, set_at vs i v w at, keep t (ap (λ (z : Sight E K). z.stage) (same_at vs i v u at here) ∙ c.4)))
      (λ other. (j, t, u, set_else vs i j w other ∙ c.3, c.4))

  seen_set : (vs : List (Sight E K)) (i : ℕ) (v w : Sight E K) (h : List (Stamped E)) → get_elem? vs i ≡ some v → (v.live ≡ true → v.seen ≡ h → (w.live ≡ true) × (w.seen ≡ h)) → IsSeen vs h → IsSeen (set vs i w) h
  seen_set vs i v w h at keep c = let j = c.0 in let u = c.1 in dite (ℕ_discrete j i)
      (λ e. let here : get_elem? vs i ≡ some u = subst (λ k. get_elem? vs k ≡ some u) e c.2 in let same : v ≡ u = same_at vs i v u at here in
      let k = keep (ap (λ (z : Sight E K). z.live) same ∙ c.3) (ap (λ (z : Sight E K). z.seen) same ∙ c.4) in (i, w, set_at vs i v w at, k.0, k.1))
      (λ other. (j, u, set_else vs i j w other ∙ c.2, c.3, c.4))

module _ {X E K : Type 0} (log : X → List (Stamped E)) (root : X → K) (about : K) where
  abbrev V : Type 0
  V = Sight E K

  abbrev St : Type 0
  St = State (Maybe X) V

  abbrev M : Type 0
  M = Me (Maybe X) V

  abbrev Rule : St → Type 0
  Rule = Ruled log root about

  -- a live seat of the rule has the root, and the seat that changes keeps its own
  rooted_set : (s : St) (r : Rule s) (id : ℕ) (v w : V) → get_elem? s.views id ≡ some v → v.live ≡ w.live → v.root ≡ w.root → AreRooted about (set s.views id w)
  rooted_set s r id v w at lives roots = each_set (λ (u : V). u.live ≡ true → u.root ≡ Some about) s.views id w (λ l. sym roots ∙ r.rooted id v at (lives ∙ l)) (λ j d _ e. r.rooted j d e)

  -- a view was there before, perhaps in another stage
  from_set : (s : St) (id : ℕ) (v w : V) → get_elem? s.views id ≡ some v → v.live ≡ w.live → v.number ≡ w.number → (j : ℕ) (d : V) → get_elem? (set s.views id w) j ≡ some d
      → (x : V) × (get_elem? s.views j ≡ some x) × (x.live ≡ d.live) × (x.number ≡ d.number)
  from_set s id v w at lives numbers j d e = ⊎_elim
      (λ (t : (j ≡ id) × (w ≡ d)). (v, subst (λ i. get_elem? s.views i ≡ some v) (sym t.0) at, lives ∙ ap (λ (z : V). z.live) t.1, numbers ∙ ap (λ (z : V). z.number) t.1))
      (λ (t : (j ≢ id) × (get_elem? s.views j ≡ some d)). (d, t.1, refl, refl)) (at_set s.views id j w d e)

  -- what a live seat had taken in before, where the seat that changes takes in none
  gone_set : (s : St) (id : ℕ) (v w : V) → get_elem? s.views id ≡ some v → v.live ≡ w.live → v.gone ≡ w.gone → (j : ℕ) (d : V) → get_elem? (set s.views id w) j ≡ some d
      → (x : V) × (get_elem? s.views j ≡ some x) × (x.live ≡ d.live) × (x.gone ≡ d.gone)
  gone_set s id v w at lives goes j d e = ⊎_elim
      (λ (t : (j ≡ id) × (w ≡ d)). (v, subst (λ i. get_elem? s.views i ≡ some v) (sym t.0) at, lives ∙ ap (λ (z : V). z.live) t.1, goes ∙ ap (λ (z : V). z.gone) t.1))
      (λ (t : (j ≢ id) × (get_elem? s.views j ≡ some d)). (d, t.1, refl, refl)) (at_set s.views id j w d e)

  apart_set : (s : St) (r : Rule s) (id : ℕ) (v w : V) → get_elem? s.views id ≡ some v → v.live ≡ w.live → v.number ≡ w.number → v.gone ≡ w.gone → AreApart (set s.views id w)
  apart_set s r id v w at lives numbers goes i j u d e e' l l' = let x = gone_set s id v w at lives goes i u e in let y = from_set s id v w at lives numbers j d e' in
      let was : Every (λ n. y.0.number ≢ n) x.0.gone = r.apart i j x.0 y.0 x.1 y.1 (x.2 ∙ l) (y.2 ∙ l') in
      subst (λ g. Every (λ n. d.number ≢ n) g) x.3 (subst (λ m. Every (λ n. m ≢ n) x.0.gone) y.3 was)

  -- fewer tickets are out than the words can tell apart
  few_tickets : (s : St) (r : Rule s) → r.next < r.served + 2 ^ 64
  few_tickets s r = let a : tally has_ticket s.views ≤ length s.views = tally_le has_ticket (λ v. weight_one (ticket_of v)) s.views in let b = r.tickets_count in let c = r.seats_count in let d : r.splits ≤ 2 ^ 32 = r.few.1 in omega arith

  pub draws : (slots id : ℕ) (me : M) → me.0.stage ≡ Idle → me.0.live ≡ true → Allows Rule slots id me 0 (λ n. (n + 1) % 2 ^ 64) (drew (step slots 0 1 0 none) me)
  draws slots id me idle live s r _ at _ = let v : V = me.0 in let t : ℕ = r.next in let w : V = staged_at (Waiting t) v in let k = r.each id v at in let few = r.tickets_count in
      let th : tally has_ticket (set s.views id w) + has_ticket v ≡ tally has_ticket s.views + 1 = tally-set has_ticket s.views id v w at in
      let tl : tally is_live (set s.views id w) + is_live v ≡ tally is_live s.views + is_live v = tally-set is_live s.views id v w at in
      let none_was : has_ticket v ≡ 0 = stage_weight v Idle idle in let live_was = r.live_count in (
        w,
        keeps,
        tt,
        record {
          next = r.next + 1;
          served = r.served;
          drawn = r.drawn;
          splits = r.splits;
          out = r.out;
          history = r.history;
          words = ap (λ ws. set ws 0 ((get_or ws 0 0 + 1) % 2 ^ 64)) r.words ∙ ap (λ n. n ∷ (r.served % 2 ^ 64) ∷ (r.drawn + 1) ∷ []) (mod-add-mod r.next (2 ^ 64) 1);
          tickets_count = omega arith;
          live_count = omega arith;
          seats_count = length-set s.views id w ∙ r.seats_count;
          few = r.few;
          fresh = r.fresh;
          kept = ⊎_elim (λ h. inl h) (λ h. inr (h.0, called_set s.views id v w at (λ c is. absurd (some-ne-none c (sym (ap ticket_in is) ∙ ap ticket_in idle))) h.1)) r.kept;
          seen = seen_set s.views id v w r.history at (λ l h. (l, h)) r.seen;
          each = each_set (Knows (r.next + 1) r.served r.drawn r.splits r.out r.history) s.views id w
              record { staged = (omega arith, omega arith, live); lives = λ l. record { begins = (k.lives l).begins; numbered = (k.lives l).numbered; own = (k.lives l).own; before = (k.lives l).before; brought = (k.lives l).brought; own_before = (k.lives l).own_before; own_brought = (k.lives l).own_brought; counts = (k.lives l).counts; one_more = (k.lives l).one_more; gone = (k.lives l).gone; was_gone = (k.lives l).was_gone } }
              (λ j d _ e. let o = r.each j d e in record { staged = later r.next r.served r.history d d.stage o.staged; lives = o.lives });
          rooted = rooted_set s r id v w at refl refl;
          apart = apart_set s r id v w at refl refl refl;
          numbers = unique_same number_of s.views id v w at r.numbers refl;
          tickets = unique_set ticket_of s.views id w r.tickets (λ j n u _ e p q. let b = ticket_below r.next r.served r.history u u.stage n (r.each j u e).staged p in let same : t ≡ n = some-injective t n q in omega arith);
        },
        (t, ap (λ ws. get_or ws 0 0) r.words, refl, refl),
      )
    where
      later : (next served : ℕ) (h : List (Stamped E)) (d : V) (st : SightStage) → Staged next served h d st → Staged (next + 1) served h d st
      later next served h d Idle k = tt
      later next served h d (Waiting t) k = let a = k.0 in let b = k.1 in (a, omega arith, k.2)
      later next served h d (Called t) k = let b = k.1 in (k.0, omega arith, k.2, k.3)

      ticket_below : (next served : ℕ) (h : List (Stamped E)) (d : V) (st : SightStage) (n : ℕ) → Staged next served h d st → ticket_in st ≡ some n → n < next
      ticket_below next served h d Idle n k e = absurd (some-ne-none n (sym e))
      ticket_below next served h d (Waiting t) n k e = let b = k.1 in let same : t ≡ n = some-injective t n e in omega arith
      ticket_below next served h d (Called t) n k e = let b = k.1 in let same : t ≡ n = some-injective t n e in omega arith

  -- a step that changes no word, no slot and no view
  stays : (s : St) (r : Rule s) (i id : ℕ) (me : M) → get_elem? s.views id ≡ some me.0 → Rule (stepped s i (get_or s.words i 0) id me.1 me.0 keeps)
  stays s r i id me at = subst (λ (ws : List ℕ). Rule record { words = ws; homes = s.homes; views = set s.views id me.0 }) (sym (set-get_or s.words i 0))
      (subst (λ (vs : List V). Rule record { words = s.words; homes = s.homes; views = vs }) (sym (set_again s.views id me.0 at)) r)

  -- what the seat finds that is called, where the value is at home
  finds : (s : St) (r : Rule s) (id : ℕ) (v : V) (y : X) → get_elem? s.views id ≡ some v → v.live ≡ true → log y ≡ r.history → root y ≡ about → Found log root v y
  finds s r id v y at live is roots = let l = (r.each id v at).lives live in (
    subst (Begins v.seen) (sym is) l.begins,
    ap (entries_of v.number) is ∙ l.own,
    λ first none_out. is ∙ sym (let j = r.seen.0 in let u = r.seen.1 in let whole = r.seen.4 in dite (ℕ_discrete j id)
        (λ e. ap (λ (z : V). z.seen) (same_at s.views id v u at (subst (λ k. get_elem? s.views k ≡ some u) e r.seen.2)) ∙ whole)
        (λ other. let two = tally_two is_live s.views j id u v r.seen.2 at other in let a = live_weight u r.seen.3 in let b = live_weight v live in let c = r.live_count in
        let d : v.out ≡ r.out = (l.counts first).2 in absurd (omega arith))),
    r.rooted id v at live ∙ ap Some (sym roots),
  )

  taken : (s : St) (r : Rule s) (id : ℕ) (me : M) (t : ℕ) (y : X) → me.0.stage ≡ Waiting t → get_elem? s.views id ≡ some me.0 → r.served ≡ t → s.homes ≡ some (Some y) ∷ [] → log y ≡ r.history
      → Rule (stepped s 1 (get_or s.words 1 0) id me.1 (holding (Called t) (log y) me.0) (takes 0 (Some y)))
  taken s r id me t y is at now homes logs = let v : V = me.0 in let w : V = holding (Called t) (log y) v in let k = r.each id v at in
      let st : Staged r.next r.served r.history v (Waiting t) = subst (Staged r.next r.served r.history v) is k.staged in
      let th : tally has_ticket (set s.views id w) + has_ticket v ≡ tally has_ticket s.views + 1 = tally-set has_ticket s.views id v w at in
      let tl : tally is_live (set s.views id w) + is_live v ≡ tally is_live s.views + is_live v = tally-set is_live s.views id v w at in
      let one_was : has_ticket v ≡ 1 = stage_weight v (Waiting t) is in let live_was = r.live_count in let few = r.tickets_count in record {
        next = r.next;
        served = r.served;
        drawn = r.drawn;
        splits = r.splits;
        out = r.out;
        history = r.history;
        words = set-get_or s.words 1 0 ∙ r.words;
        tickets_count = omega arith;
        live_count = omega arith;
        seats_count = length-set s.views id w ∙ r.seats_count;
        few = r.few;
        fresh = r.fresh;
        kept = inr (ap (λ hs. set hs 0 none) homes, (id, t, w, set_at s.views id v w at, refl));
        seen = (id, w, set_at s.views id v w at, st.2, logs);
        each = each_set (Knows r.next r.served r.drawn r.splits r.out r.history) s.views id w
            record {
              staged = (sym now, st.1, st.2, logs);
              lives = λ l. let o = k.lives l in record {
                begins = subst (λ h. Begins (log y) h) logs (begins_refl (log y));
                numbered = o.numbered;
                own = ap (entries_of v.number) (sym logs);
                before = begins_refl (log y);
                brought = begins_refl (log y);
                own_before = refl;
                own_brought = refl;
                counts = o.counts;
                one_more = o.one_more;
                gone = each_map (IsGone r.splits r.history v.seen) (IsGone r.splits r.history (log y)) v.gone (λ n p. record { below = p.below; own = ap (entries_of n) (sym logs) }) o.gone;
                was_gone = each_is (SameOf (log y) (log y)) v.was_gone (λ n. refl);
              };
            }
            (λ j d _ e. r.each j d e);
        rooted = rooted_set s r id v w at refl refl;
        apart = apart_set s r id v w at refl refl refl;
        numbers = unique_same number_of s.views id v w at r.numbers refl;
        tickets = unique_same ticket_of s.views id v w at r.tickets (sym (ap ticket_in is));
      }

  pub looks : (slots id : ℕ) (me : M) (t : ℕ) → me.0.stage ≡ Waiting t → me.0.live ≡ true → me.1 ≡ [] → Allows Rule slots id me 1 (λ n. n) (looked log root (step slots 1 0 0 none) me)
  looks slots id me t is live bare s r _ at _ = let v : V = me.0 in let n : ℕ = get_or s.words 1 0 in let k = r.each id v at in
      let st : Staged r.next r.served r.history v (Waiting t) = subst (Staged r.next r.served r.history v) is k.staged in
      let found : n ≡ r.served % 2 ^ 64 = ap (λ ws. get_or ws 1 0) r.words in
      let own : (t' : ℕ) → v.stage ≡ Waiting t' → t ≡ t' = λ t' is'. some-injective t t' (ap ticket_in (sym is ∙ is')) in dite (ℕ_discrete n (t % 2 ^ 64))
      (λ hit. let few = few_tickets s r in let low : r.served ≤ t = st.0 in let high : t < r.next = st.1 in let now : r.served ≡ t = one_turn r.served t (2 ^ 64) low (omega arith) (sym found ∙ hit) in ⊎_elim
      (λ (h : (y : X) × (s.homes ≡ some (Some y) ∷ []) × (log y ≡ r.history) × (root y ≡ about)). let y : X = h.0 in (
        holding (Called t) (log y) v,
        takes 0 (Some y),
        ap (λ hs. get_elem? hs 0) h.1,
        taken s r id me t y is at now h.1 h.2,
        λ t' is'. (
          (λ _. (y, ap (λ cs. (0, Some y) ∷ cs) bare, ap (λ (a : ℕ). holding (Called a) (log y) v) (own t' is'), finds s r id v y at live h.2 h.3)),
          λ miss. absurd (miss (hit ∙ ap (λ a. a % 2 ^ 64) (own t' is'))),
        ),
      ))
      (λ (h : (s.homes ≡ none ∷ []) × IsCalled s.views). let j = h.1.0 in let t' = h.1.1 in let u = h.1.2 in
      let su : Staged r.next r.served r.history u (Called t') = subst (Staged r.next r.served r.history u) h.1.4 (r.each j u h.1.3).staged in
      let same : j ≡ id = r.tickets j id t u v h.1.3 at (ap ticket_in h.1.4 ∙ ap some (su.0 ∙ now)) (ap ticket_in is) in
      let is_me : v ≡ u = same_at s.views id v u at (subst (λ i. get_elem? s.views i ≡ some u) same h.1.3) in
      absurd (waits_not_called t t' (sym is ∙ (ap (λ (z : V). z.stage) is_me ∙ h.1.4)))) r.kept)
      (λ miss. (v, keeps, tt, stays s r 1 id me at, λ t' is'. ((λ hit. absurd (miss (hit ∙ ap (λ a. a % 2 ^ 64) (sym (own t' is'))))), λ _. (refl, bare))))
    where
      waits_not_called : (a b : ℕ) → Waiting a ≡ Called b → ⊥
      waits_not_called a b e = cc

  -- the seat with the turn gives back a list that grew by its own entries
  pub serves : (slots id : ℕ) (me : M) (t : ℕ) (y : X) → me.0.stage ≡ Called t → me.0.live ≡ true → me.1 ≡ (0, Some y) ∷ [] → GrewBy me.0.number me.0.seen (log y) → me.0.root ≡ Some (root y)
      → Allows Rule slots id me 1 (λ n. (n + 1) % 2 ^ 64) (served_next log (step slots 1 1 0 none) me)
  serves slots id me t y is live out grew roots s r _ at _ = let v : V = me.0 in let h : List (Stamped E) = log y in let w : V = holding Idle h v in let k = r.each id v at in
      let st : Staged r.next r.served r.history v (Called t) = subst (Staged r.next r.served r.history v) is k.staged in let mine = k.lives live in
      let th : tally has_ticket (set s.views id w) + has_ticket v ≡ tally has_ticket s.views + 0 = tally-set has_ticket s.views id v w at in
      let tl : tally is_live (set s.views id w) + is_live v ≡ tally is_live s.views + is_live v = tally-set is_live s.views id v w at in
      let one_was : has_ticket v ≡ 1 = stage_weight v (Called t) is in let live_was = r.live_count in let few = r.tickets_count in
      let grown : GrewBy v.number r.history h = subst (λ o. GrewBy v.number o h) st.3 grew in let on : Begins r.history h = (grown.0, grown.1) in
      let at_served : ticket_of v ≡ some r.served = ap ticket_in is ∙ ap some st.0 in (
        w,
        gives,
        tt,
        record {
          next = r.next;
          served = r.served + 1;
          drawn = r.drawn;
          splits = r.splits;
          out = r.out;
          history = h;
          words = ap (λ ws. set ws 1 ((get_or ws 1 0 + 1) % 2 ^ 64)) r.words ∙ ap (λ n. (r.next % 2 ^ 64) ∷ n ∷ (r.drawn + 1) ∷ []) (mod-add-mod r.served (2 ^ 64) 1);
          tickets_count = omega arith;
          live_count = omega arith;
          seats_count = length-set s.views id w ∙ r.seats_count;
          few = r.few;
          fresh = λ n above. let low : v.number ≤ r.splits = mine.numbered in entries_stay v.number n r.history h grown (λ e. omega arith) ∙ r.fresh n above;
          kept = inl (y, ap (λ cs. Rattle.atomic_table.specs.Table.put_back s.homes cs) out ∙ back s.homes (Some y) r.kept, refl, value_of_some (root y) about (sym roots ∙ r.rooted id v at live));
          seen = (id, w, set_at s.views id v w at, live, refl);
          each = each_set (Knows r.next (r.served + 1) r.drawn r.splits r.out h) s.views id w
              record {
                staged = tt;
                lives = λ _. record { begins = begins_refl h; numbered = mine.numbered; own = refl; before = begins_refl h; brought = begins_refl h; own_before = refl; own_brought = refl; counts = mine.counts; one_more = mine.one_more; gone = each_map (IsGone r.splits r.history v.seen) (IsGone r.splits h h) v.gone (λ n p. record { below = p.below; own = refl }) mine.gone; was_gone = each_is (SameOf h h) v.was_gone (λ n. refl) };
              }
              (λ j d other e. let o = r.each j d e in record {
                staged = others d j other e d.stage refl o.staged;
                lives = λ l. let p = o.lives l in record {
                  begins = begins_trans d.seen r.history h p.begins on;
                  numbered = p.numbered;
                  own = entries_stay v.number d.number r.history h grown (λ same. other (same_number s.views j id d v r.numbers e at l live same)) ∙ p.own;
                  before = p.before;
                  brought = p.brought;
                  own_before = p.own_before;
                  own_brought = p.own_brought;
                  counts = p.counts;
                  one_more = p.one_more;
                  gone = each_both (IsGone r.splits r.history d.seen) (λ n. v.number ≢ n) (IsGone r.splits h d.seen) d.gone
                      (λ n q far. record { below = q.below; own = entries_stay v.number n r.history h grown (λ is. far (sym is)) ∙ q.own }) p.gone (r.apart j id d v e at l live);
                  was_gone = p.was_gone;
                };
              });
          rooted = rooted_set s r id v w at refl refl;
          apart = apart_set s r id v w at refl refl refl;
          numbers = unique_same number_of s.views id v w at r.numbers refl;
          tickets = unique_none ticket_of s.views id w r.tickets refl;
        },
        λ y' out'. (ap (λ cs. holding Idle (log (in_hand y cs)) v) (sym out ∙ out'), ap Rattle.atomic_table.specs.Table.rest out),
      )
    where
      in_hand : X → List (ℕ × Maybe X) → X
      in_hand d [] = d
      in_hand d (c ∷ cs) = elim c.1 [ None ↦ d | Some x ↦ x ]

      back : (hs : List (Option (Maybe X))) (z : Maybe X) → Kept log root about hs s.views r.history → set hs 0 (some z) ≡ some z ∷ []
      back hs z c = ⊎_elim (λ a. ap (λ l. set l 0 (some z)) a.1) (λ a. ap (λ l. set l 0 (some z)) a.0) c

      not_served : (d : V) (j a : ℕ) → j ≢ id → get_elem? s.views j ≡ some d → ticket_of d ≡ some a → a ≢ r.served
      not_served d j a other e has same = let st : Staged r.next r.served r.history me.0 (Called t) = subst (Staged r.next r.served r.history me.0) is (r.each id me.0 at).staged in
          other (r.tickets j id a d me.0 e at has (ap ticket_in is ∙ ap some (st.0 ∙ sym same)))

      others : (d : V) (j : ℕ) → j ≢ id → get_elem? s.views j ≡ some d → (z : SightStage) → ticket_of d ≡ ticket_in z → Staged r.next r.served r.history d z → Staged r.next (r.served + 1) (log y) d z
      others d j other e Idle zs c = tt
      others d j other e (Waiting a) zs c = let low : r.served ≤ a = c.0 in let n = not_served d j a other e zs in (omega arith, c.1, c.2)
      others d j other e (Called a) zs c = absurd (not_served d j a other e zs c.0)

  -- a seat that has number 0 is the first one, and the others do not count the seats
  not_first : (s : St) (r : Rule s) (id j : ℕ) (v d : V) → get_elem? s.views id ≡ some v → get_elem? s.views j ≡ some d → v.live ≡ true → d.live ≡ true → v.number ≡ 0 → j ≢ id → d.number ≢ 0
  not_first s r id j v d at e live l first other is = other (same_number s.views j id d v r.numbers e at l live (is ∙ sym first))

  -- the first seat draws the number of the next seat
  pub draws_number : (slots id : ℕ) (me : M) → me.0.live ≡ true → me.0.number ≡ 0 → me.0.drawn < 2 ^ 32 → Allows Rule slots id me 2 (λ n. (n + 1) % 2 ^ 64) (numbered (step slots 2 1 0 none) me)
  draws_number slots id me live first room s r _ at _ = let v : V = me.0 in let w : V = drawing v in let k = r.each id v at in let mine = k.lives live in let same : v.drawn ≡ r.drawn = (mine.counts first).0 in
      let th : tally has_ticket (set s.views id w) + has_ticket v ≡ tally has_ticket s.views + has_ticket v = tally-set has_ticket s.views id v w at in
      let tl : tally is_live (set s.views id w) + is_live v ≡ tally is_live s.views + is_live v = tally-set is_live s.views id v w at in
      let live_was = r.live_count in let few = r.tickets_count in let small : r.drawn + 1 + 1 < 2 ^ 64 = omega arith in (
        w,
        keeps,
        tt,
        record {
          next = r.next;
          served = r.served;
          drawn = r.drawn + 1;
          splits = r.splits;
          out = r.out;
          history = r.history;
          words = ap (λ ws. set ws 2 ((get_or ws 2 0 + 1) % 2 ^ 64)) r.words ∙ ap (λ n. (r.next % 2 ^ 64) ∷ (r.served % 2 ^ 64) ∷ n ∷ []) (mod-eq_of_lt small);
          tickets_count = omega arith;
          live_count = omega arith;
          seats_count = length-set s.views id w ∙ r.seats_count;
          few = (omega arith, r.few.1);
          fresh = r.fresh;
          kept = ⊎_elim (λ h. inl h) (λ h. inr (h.0, called_set s.views id v w at (λ c is. is) h.1)) r.kept;
          seen = seen_set s.views id v w r.history at (λ l h. (l, h)) r.seen;
          each = each_set (Knows r.next r.served (r.drawn + 1) r.splits r.out r.history) s.views id w
              record {
                staged = restaged v.stage k.staged;
                lives = λ l. record { begins = mine.begins; numbered = mine.numbered; own = mine.own; before = mine.before; brought = mine.brought; own_before = mine.own_before; own_brought = mine.own_brought; counts = λ z. (ap (λ n. n + 1) same, (mine.counts z).1, (mine.counts z).2); one_more = mine.one_more; gone = mine.gone; was_gone = mine.was_gone };
              }
              (λ j d other e. let o = r.each j d e in record {
                staged = o.staged;
                lives = λ l. let p = o.lives l in record {
                  begins = p.begins;
                  numbered = p.numbered;
                  own = p.own;
                  before = p.before;
                  brought = p.brought;
                  own_before = p.own_before;
                  own_brought = p.own_brought;
                  counts = λ z. absurd (not_first s r id j v d at e live l first other z);
                  one_more = p.one_more;
                  gone = p.gone;
                  was_gone = p.was_gone;
                };
              });
          rooted = rooted_set s r id v w at refl refl;
          apart = apart_set s r id v w at refl refl refl;
          numbers = unique_same number_of s.views id v w at r.numbers refl;
          tickets = unique_same ticket_of s.views id v w at r.tickets refl;
        },
        (
          ap (λ ws. get_or ws 2 0) r.words ∙ ap (λ n. n + 1) (sym same),
          refl,
          refl,
          λ none_waits. let here : v.splits ≡ r.splits = (mine.counts first).1 in none_begun (v.drawn + 1) v.seen r.history mine.begins (r.fresh (v.drawn + 1) (omega arith)),
        ),
      )
    where
      restaged : (z : SightStage) → Staged r.next r.served r.history me.0 z → Staged r.next r.served r.history (drawing me.0) z
      restaged Idle c = tt
      restaged (Waiting a) c = c
      restaged (Called a) c = c

  -- the seat with the number that was drawn is split off
  pub splits_off : (id : ℕ) (v : V) → v.live ≡ true → v.number ≡ 0 → v.stage ≡ Idle → v.drawn ≡ v.splits + 1 → Splits Rule id v (cut_left v) (cut_right v)
  splits_off id v live first idle drew s r at = let a : V = cut_left v in let b : V = cut_right v in let vs : List V = set s.views id a in let k = r.each id v at in let mine = k.lives live in
      let same : v.drawn ≡ r.drawn = (mine.counts first).0 in let split : v.splits ≡ r.splits = (mine.counts first).1 in let outs : v.out ≡ r.out = (mine.counts first).2 in
      let number : v.drawn ≡ r.splits + 1 = omega arith in let wider : (n : ℕ) → n ≤ r.splits → n ≤ v.drawn = λ n low. omega arith in let top : r.drawn ≤ 2 ^ 32 = r.few.0 in
      let th : tally has_ticket vs + has_ticket v ≡ tally has_ticket s.views + has_ticket v = tally-set has_ticket s.views id v a at in
      let tl : tally is_live vs + is_live v ≡ tally is_live s.views + is_live v = tally-set is_live s.views id v a at in
      let sh : tally has_ticket (vs ++ b ∷ []) ≡ tally has_ticket vs + 0 = tally-snoc has_ticket vs b in
      let sl : tally is_live (vs ++ b ∷ []) ≡ tally is_live vs + 1 = tally-snoc is_live vs b in
      let live_was = r.live_count in let few = r.tickets_count in let wide : length s.views ≡ r.splits + 1 = r.seats_count in let kept_length = length-set s.views id a in let longer_by = length-append vs (b ∷ []) in
      let K : V → Type 0 = Knows r.next r.served r.drawn v.drawn (r.out + 1) r.history in
      let older : (j : ℕ) (d : V) → get_elem? vs j ≡ some d → K d = each_set K s.views id a
      record {
        staged = subst (Staged r.next r.served r.history a) (sym idle) tt;
        lives = λ l. record { begins = mine.begins; numbered = omega arith; own = mine.own; before = mine.before; brought = mine.brought; own_before = mine.own_before; own_brought = mine.own_brought; counts = λ z. (same, refl, ap (λ n. n + 1) outs); one_more = ap (λ n. n + 1) mine.one_more; gone = each_map (IsGone r.splits r.history v.seen) (IsGone v.drawn r.history v.seen) v.gone (λ n p. record { below = wider n p.below; own = p.own }) mine.gone; was_gone = mine.was_gone };
      }
      (λ j d other e. let o = r.each j d e in record {
        staged = o.staged;
        lives = λ l. let p = o.lives l in let low : d.number ≤ r.splits = p.numbered in record {
          begins = p.begins;
          numbered = omega arith;
          own = p.own;
          before = p.before;
          brought = p.brought;
          own_before = p.own_before;
          own_brought = p.own_brought;
          counts = λ z. absurd (not_first s r id j v d at e live l first other z);
          one_more = p.one_more;
          gone = each_map (IsGone r.splits r.history d.seen) (IsGone v.drawn r.history d.seen) d.gone (λ n p. record { below = wider n p.below; own = p.own }) p.gone;
          was_gone = p.was_gone;
        };
      }) in
      let numbers : Unique number_of vs = unique_same number_of s.views id v a at r.numbers refl in
      let tickets : Unique ticket_of vs = unique_same ticket_of s.views id v a at r.tickets refl in record {
        next = r.next;
        served = r.served;
        drawn = r.drawn;
        splits = v.drawn;
        out = r.out + 1;
        history = r.history;
        words = r.words;
        tickets_count = omega arith;
        live_count = omega arith;
        seats_count = omega arith;
        few = (top, omega arith);
        fresh = λ n above. r.fresh n (omega arith);
        kept = ⊎_elim (λ h. inl h) (λ h. let c = called_set s.views id v a at (λ c is. is) h.1 in inr (h.0, (c.0, c.1, c.2, at_longer vs (b ∷ []) c.0 c.2 c.3, c.4))) r.kept;
        seen = let c = seen_set s.views id v a r.history at (λ l h. (l, h)) r.seen in (c.0, c.1, at_longer vs (b ∷ []) c.0 c.1 c.2, c.3, c.4);
        each = λ j d e. ⊎_elim (older j d) (λ (z : b ≡ d). subst K z record {
          staged = tt;
          lives = λ _. record {
            begins = mine.begins;
            numbered = omega arith;
            own = r.fresh v.drawn (omega arith) ∙ sym (none_begun v.drawn v.seen r.history mine.begins (r.fresh v.drawn (omega arith)));
            before = begins_refl v.seen;
            brought = begins_refl v.seen;
            own_before = refl;
            own_brought = refl;
            counts = λ z. absurd (omega arith);
            one_more = refl;
            gone = tt;
            was_gone = tt;
          };
        }) (at_snoc vs b d j e);
        rooted = λ j d e l. ⊎_elim (λ (z : get_elem? vs j ≡ some d). rooted_set s r id v a at refl refl j d z l)
            (λ (z : b ≡ d). ap (λ (x : V). x.root) (sym z) ∙ r.rooted id v at live) (at_snoc vs b d j e);
        apart = λ i j x y e e' l l'. ⊎_elim
            (λ (p : get_elem? vs i ≡ some x). ⊎_elim (λ (q : get_elem? vs j ≡ some y). apart_set s r id v a at refl refl refl i j x y p q l l')
            (λ (q : b ≡ y). let z = gone_set s id v a at refl refl i x p in let low = ((r.each i z.0 z.1).lives (z.2 ∙ l)).gone in
            let far : Every (λ n. v.drawn ≢ n) z.0.gone = each_map (IsGone r.splits r.history z.0.seen) (λ n. v.drawn ≢ n) z.0.gone (λ n g is. let low : n ≤ r.splits = g.below in omega arith) low in
            subst (λ g. Every (λ n. y.number ≢ n) g) z.3 (subst (λ (c : V). Every (λ n. c.number ≢ n) z.0.gone) q far)) (at_snoc vs b y j e'))
            (λ (p : b ≡ x). subst (λ (c : V). Every (λ n. y.number ≢ n) c.gone) p tt) (at_snoc vs b x i e);
        numbers = unique_snoc number_of vs b numbers (λ j n u e p q. let there = older j u e in let same_n : v.drawn ≡ n = some-injective v.drawn n q in too_low j n u e p same_n);
        tickets = unique_snoc ticket_of vs b tickets (λ j n u e p q. some-ne-none n (sym q));
      }
    where
      too_low : (j n : ℕ) (u : V) → get_elem? (set s.views id (cut_left v)) j ≡ some u → number_of u ≡ some n → v.drawn ≡ n → ⊥
      too_low j n u e p same_n = let is = number_is u.live u.number n p in let split : v.splits ≡ r.splits = (((r.each id v at).lives live).counts first).1 in
          ⊎_elim (λ (t : (j ≡ id) × (cut_left v ≡ u)). let m : v.number ≡ u.number = ap (λ (z : V). z.number) t.1 in let c = is.1 in omega arith)
          (λ (t : (j ≢ id) × (get_elem? s.views j ≡ some u)). let low : u.number ≤ r.splits = ((r.each j u t.1).lives is.0).numbered in let c = is.1 in omega arith)
          (at_set s.views id j (cut_left v) u e)

  -- the first seat takes in another, and has then seen what both had
  pub joins_in : (id : ℕ) (v : V) (other : ℕ) (u : V) → v.live ≡ true → u.live ≡ true → v.number ≡ 0 → v.stage ≡ Idle → u.stage ≡ Idle → Joins Rule id v other u (glued v u) spent
  joins_in id v other u live live' first idle idle' s r at apart there = let w : V = glued v u in let vs : List V = set s.views id w in let ws : List V = set vs other spent in
      let k = r.each id v at in let mine = k.lives live in let was : get_elem? s.views other ≡ some u = sym (set_else s.views id other w apart) ∙ there in let ku = r.each other u was in let yours = ku.lives live' in
      let outs : v.out ≡ r.out = (mine.counts first).2 in let two = tally_two is_live s.views other id u v was at apart in let one = live_weight v live in let one' = live_weight u live' in
      let th : tally has_ticket vs + has_ticket v ≡ tally has_ticket s.views + has_ticket v = tally-set has_ticket s.views id v w at in
      let tl : tally is_live vs + is_live v ≡ tally is_live s.views + is_live v = tally-set is_live s.views id v w at in
      let uh : tally has_ticket ws + has_ticket u ≡ tally has_ticket vs + 0 = tally-set has_ticket vs other u spent there in
      let ul : tally is_live ws + is_live u ≡ tally is_live vs + 0 = tally-set is_live vs other u spent there in
      let none_u : has_ticket u ≡ 0 = stage_weight u Idle idle' in let live_was = r.live_count in let few = r.tickets_count in
      let both = longer_begins v.seen u.seen r.history mine.begins yours.begins in
      let home : get_elem? ws id ≡ some w = set_else vs other id spent (λ e. apart (sym e)) ∙ set_at s.views id v w at in
      let whole : IsSeen ws r.history = let j = r.seen.0 in let z = r.seen.1 in let there : get_elem? s.views j ≡ some z = r.seen.2 in dite (ℕ_discrete j id)
      (λ e. let same : v ≡ z = same_at s.views id v z at (subst (λ i. get_elem? s.views i ≡ some z) e there) in let all : v.seen ≡ r.history = ap (λ (x : V). x.seen) same ∙ r.seen.4 in
      (id, w, home, live, begins_antisym w.seen r.history both.2 (subst (λ h. Begins h w.seen) all both.0)))
      (λ not_me. dite (ℕ_discrete j other)
      (λ e. let same : u ≡ z = same_at s.views other u z was (subst (λ i. get_elem? s.views i ≡ some z) e there) in let all : u.seen ≡ r.history = ap (λ (x : V). x.seen) same ∙ r.seen.4 in
      (id, w, home, live, begins_antisym w.seen r.history both.2 (subst (λ h. Begins h w.seen) all both.1)))
      (λ not_it. (j, z, set_else vs other j spent not_it ∙ (set_else s.views id j w not_me ∙ there), r.seen.3, r.seen.4))) in
      let own_now = entries_between v.number v.seen w.seen r.history both.0 both.2 mine.own in
      let K : V → Type 0 = Knows r.next r.served r.drawn r.splits (r.out - 1) r.history in
      let met : (j : ℕ) (d : V) → get_elem? vs j ≡ some d → K d = each_set K s.views id w
      record {
        staged = subst (Staged r.next r.served r.history w) (sym idle) tt;
        lives = λ l. record {
          begins = both.2;
          numbered = mine.numbered;
          own = own_now;
          before = both.0;
          brought = both.1;
          own_before = sym own_now ∙ mine.own;
          own_brought = sym (entries_between u.number u.seen w.seen r.history both.1 both.2 yours.own) ∙ yours.own;
          counts = λ z. ((mine.counts z).0, (mine.counts z).1, ap (λ n. n - 1) outs);
          one_more = omega arith;
          gone = (
            record { below = yours.numbered; own = entries_between u.number u.seen w.seen r.history both.1 both.2 yours.own },
            each_map (IsGone r.splits r.history v.seen) (IsGone r.splits r.history w.seen) v.gone
                (λ n p. record { below = p.below; own = entries_between n v.seen w.seen r.history both.0 both.2 p.own }) mine.gone,
          );
          was_gone = each_map (IsGone r.splits r.history v.seen) (SameOf w.seen v.seen) v.gone (λ n p. sym (entries_between n v.seen w.seen r.history both.0 both.2 p.own) ∙ p.own) mine.gone;
        };
      }
      (λ j d not_me e. let o = r.each j d e in record {
        staged = o.staged;
        lives = λ l. let p = o.lives l in record {
          begins = p.begins;
          numbered = p.numbered;
          own = p.own;
          before = p.before;
          brought = p.brought;
          own_before = p.own_before;
          own_brought = p.own_brought;
          counts = λ z. absurd (not_first s r id j v d at e live l first not_me z);
          one_more = p.one_more;
          gone = p.gone;
          was_gone = p.was_gone;
        };
      }) in record {
        next = r.next;
        served = r.served;
        drawn = r.drawn;
        splits = r.splits;
        out = r.out - 1;
        history = r.history;
        words = r.words;
        tickets_count = omega arith;
        live_count = omega arith;
        seats_count = length-set vs other spent ∙ (length-set s.views id w ∙ r.seats_count);
        few = r.few;
        fresh = r.fresh;
        kept = ⊎_elim (λ h. inl h)
            (λ h. inr (h.0, called_set vs other u spent there (λ c is. absurd (some-ne-none c (sym (ap ticket_in is) ∙ ap ticket_in idle'))) (called_set s.views id v w at (λ c is. is) h.1))) r.kept;
        seen = whole;
        each = each_set K vs other spent record { staged = tt; lives = λ l. absurd (true≢false (sym l)) } (λ j d _ e. met j d e);
        rooted = each_set (λ (x : V). x.live ≡ true → x.root ≡ Some about) vs other spent (λ l. absurd (true≢false (sym l))) (λ j d _ e. rooted_set s r id v w at refl refl j d e);
        apart = λ i j x y e e' l l'. let p = not_spent vs other i x e l in let q = not_spent vs other j y e' l' in let from = from_set s id v w at refl refl j y q.1 in
            let gone_from : (x : V) → Every (λ n. from.0.number ≢ n) x.gone → Every (λ n. y.number ≢ n) x.gone = λ x h. subst (λ m. Every (λ n. m ≢ n) x.gone) from.3 h in ⊎_elim
            (λ (t : (i ≡ id) × (w ≡ x)). subst (λ (c : V). Every (λ n. y.number ≢ n) c.gone) t.1
            ((λ is. q.0 (same_number s.views j other from.0 u r.numbers from.1 was (from.2 ∙ l') live' (from.3 ∙ is))), gone_from v (r.apart id j v from.0 at from.1 live (from.2 ∙ l'))))
            (λ (t : (i ≢ id) × (get_elem? s.views i ≡ some x)). gone_from x (r.apart i j x from.0 t.1 from.1 l (from.2 ∙ l'))) (at_set s.views id i w x p.1);
        numbers = unique_none number_of vs other spent (unique_same number_of s.views id v w at r.numbers refl) refl;
        tickets = unique_none ticket_of vs other spent (unique_same ticket_of s.views id v w at r.tickets refl) refl;
      }
    where
      not_spent : (vs : List V) (other i : ℕ) (x : V) → get_elem? (set vs other spent) i ≡ some x → x.live ≡ true → (i ≢ other) × (get_elem? vs i ≡ some x)
      not_spent vs other i x e l = ⊎_elim (λ (t : (i ≡ other) × (spent ≡ x)). absurd (true≢false (sym l ∙ ap (λ (z : V). z.live) (sym t.1)))) (λ (t : (i ≢ other) × (get_elem? vs i ≡ some x)). t) (at_set vs other i spent x e)

  pub tells : (slots id : ℕ) (me : M) → me.0.live ≡ true → Allows Rule slots id me 1 (λ n. n) (told (step slots 1 0 0 none) me)
  tells slots id me live s r _ at _ = let l = (r.each id me.0 at).lives live in (me.0, keeps, tt, stays s r 1 id me at, (refl, refl, l.before, l.brought, l.own_before, l.own_brought, l.was_gone, l.one_more, λ first n above. let split : me.0.splits ≡ r.splits = (l.counts first).1 in none_begun n me.0.seen r.history l.begins (r.fresh n (omega arith))))

  -- a new lock
  pub opens : (y : X) → log y ≡ [] → root y ≡ about → Rule (opening (0 ∷ 0 ∷ 1 ∷ []) (Some y ∷ []) (opener about))
  opens y bare roots = record {
    next = 0;
    served = 0;
    drawn = 0;
    splits = 0;
    out = 0;
    history = [];
    words = refl;
    tickets_count = refl;
    live_count = refl;
    seats_count = refl;
    few = (omega arith, omega arith);
    fresh = λ n _. refl;
    kept = inl (y, refl, bare, roots);
    seen = (0, opener about, refl, refl, refl);
    each = λ j v e. let is : opener about ≡ v = only j v e in subst (Knows 0 0 0 0 0 []) is record { staged = tt; lives = λ _. record { begins = begins_refl []; numbered = omega arith; own = refl; before = begins_refl []; brought = begins_refl []; own_before = refl; own_brought = refl; counts = λ _. (refl, refl, refl); one_more = refl; gone = tt; was_gone = tt } };
    rooted = λ j v e _. ap (λ (z : V). z.root) (sym (only j v e));
    apart = λ i j u v e e' l l'. subst (λ (z : V). Every (λ n. v.number ≢ n) z.gone) (only i u e) tt;
    numbers = λ i j n u v p q _ _. alone i u p ∙ sym (alone j v q);
    tickets = λ i j n u v p q _ _. alone i u p ∙ sym (alone j v q);
  }
    where
      only : (j : ℕ) (v : V) → get_elem? (opener about ∷ []) j ≡ some v → opener about ≡ v
      only zero v e = some-injective (opener about) v e
      only (suc j) v e = absurd (some-ne-none v (sym e))

      alone : (j : ℕ) (v : V) → get_elem? (opener about ∷ []) j ≡ some v → j ≡ 0
      alone j v e = let h = at_inside (opener about ∷ []) j v e in omega arith

  -- the value of a lock whose seats are all joined
  pub closes : (s : St) (id : ℕ) (v : V) → Rule s → get_elem? s.views id ≡ some v → v.live ≡ true → v.stage ≡ Idle → v.number ≡ 0 → v.out ≡ 0 → (y : X) × (get_elem? s.homes 0 ≡ some (some (Some y))) × (log y ≡ v.seen) × (v.root ≡ Some (root y))
  closes s id v r at live idle first none_out = ⊎_elim
      (λ (h : (y : X) × (s.homes ≡ some (Some y) ∷ []) × (log y ≡ r.history) × (root y ≡ about)). let f = finds s r id v h.0 at live h.2 h.3 in (h.0, ap (λ hs. get_elem? hs 0) h.1, f.2 first none_out, f.3))
      (λ (h : (s.homes ≡ none ∷ []) × IsCalled s.views). let j = h.1.0 in let u = h.1.2 in
      let su : Staged r.next r.served r.history u (Called h.1.1) = subst (Staged r.next r.served r.history u) h.1.4 (r.each j u h.1.3).staged in
      let apart : j ≢ id = λ e. let same : v ≡ u = same_at s.views id v u at (subst (λ i. get_elem? s.views i ≡ some u) e h.1.3) in
      some-ne-none h.1.1 (sym (ap ticket_in (sym idle ∙ (ap (λ (z : V). z.stage) same ∙ h.1.4)))) in
      let two = tally_two is_live s.views j id u v h.1.3 at apart in let a = live_weight u su.2 in let b = live_weight v live in let c = r.live_count in
      let d : v.out ≡ r.out = ((((r.each id v at).lives live).counts first)).2 in absurd (omega arith)) r.kept

  -- what lies in slot 0 of a table that was closed
  pub closed_with : (ws : List ℕ) (xs : List (Maybe X)) (z : Maybe X) (id : ℕ) (v : V) → Final (Seen Rule id v) ws xs → get_elem? xs 0 ≡ some z → v.live ≡ true → v.stage ≡ Idle → v.number ≡ 0 → v.out ≡ 0
      → (y : X) × (z ≡ Some y) × (log y ≡ v.seen) × ((n : ℕ) → v.splits < n → entries_of n (log y) ≡ []) × (v.root ≡ Some (root y))
  closed_with ws xs z id v end here live idle first none_out = let s = end.0 in let r = end.1.0 in let at = end.1.1 in let c = closes s id v r at live idle first none_out in let mine = (r.each id v at).lives live in (
    c.0,
    some-injective z (Some c.0) (sym here ∙ end.4 0 (Some c.0) c.1),
    c.2,
    λ n above. let split : v.splits ≡ r.splits = (mine.counts first).1 in ap (entries_of n) c.2 ∙ none_begun n v.seen r.history mine.begins (r.fresh n (omega arith)),
    c.3,
  )
