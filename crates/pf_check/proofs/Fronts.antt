-- The inodes that are seen are reached from inode 0; once no queued one is left, no other one is.
use Rattle.std.proofs.Common.{◌≡◌, ℕ, zero, suc, ◌+◌, ◌<◌, ◌≤◌, ◌⊎◌, inl, inr, Bool, true, false, cond, not, List, [], ◌∷◌, ◌++◌, length, take, set, replicate, get_or, Some, refl, sym, ap, ◌∙◌, subst, arith}
use Rattle.std.specs.Bool.{MatchBool}
use Rattle.std.specs.List.{count_by}
use Rattle.std.specs.Option.{option_and_then}
use Rattle.std.proofs.lemmas.Bool.{cases_Bool, cases_eq, cases_lt, cond-true, cond-false, false≢true}
use Rattle.std.proofs.lemmas.Option.{same_Some}
use Rattle.std.proofs.lemmas.List.{get_or-replicate, get_or_past, get_or-set_same, get_or-set_other, length-set, length-append, length-replicate, get_or_append_left, take_more}
use Rattle.std.proofs.Math.Seq.{get_or-append_seam}
use Rattle.std.proofs.lemmas.List.Sums.{sum_by-set, sum_by-cons}
use Rattle.pf_tree_tables.specs.declared.tables.DirectoryEntry.{DirectoryEntry}
use Rattle.pf_tree_tables.specs.Names.{Name, Path}
use Rattle.pf_tree_tables.specs.Tables.{names_in, entry_at, walk}
use Rattle.pf_tree.proofs.Walks.{walk_parts}
use Rattle.pf_check.specs.Raw.{RawTables, AreDistinct}
use Rattle.pf_check.specs.Kinds.{IsReached}
use Rattle.pf_check.specs.Walks.{Front, front_of, is_seen, front_reaches, reach_all, IsSeen}
use Rattle.pf_check.proofs.Namings.{row_stands, row_of}

-- an inode waits in the queue, at this place or a later one
pub record Waits (f : Front) (passed i : ℕ) : Type 0 where
  pub place : ℕ
  pub after : passed ≤ place
  pub within : place < length f.queue
  pub is : get_or f.queue place 0 ≡ i

-- every inode that an entry of the directory names is seen
abbrev pub IsPassed : RawTables → Front → ℕ → Type 0
IsPassed t f d = (n : Name) (i : ℕ) → entry_at t.entries d n ≡ Some i → is_seen f.seen i ≡ true

pub record IsFront (t : RawTables) (f : Front) (passed : ℕ) : Type 0 where
  pub places : length f.seen ≡ 65536
  pub balance : count_by not f.seen + length f.queue ≡ 65536
  pub sound : (i : ℕ) → is_seen f.seen i ≡ true → IsReached t i
  pub queued : (j : ℕ) → j < length f.queue → is_seen f.seen (get_or f.queue j 0) ≡ true
  pub closed : (i : ℕ) → is_seen f.seen i ≡ true → Waits f passed i ⊎ IsPassed t f i

-- more seen, and a queue that goes on
pub record Grows (f g : Front) : Type 0 where
  pub seen : (i : ℕ) → is_seen f.seen i ≡ true → is_seen g.seen i ≡ true
  pub longer : length f.queue ≤ length g.queue
  pub same : (j : ℕ) → j < length f.queue → get_or g.queue j 0 ≡ get_or f.queue j 0

grows_itself : (f : Front) → Grows f f
grows_itself f = record { seen = λ i e. e; longer = omega arith; same = λ j low. refl }

grows_on : (f g h : Front) → Grows f g → Grows g h → Grows f h
grows_on f g h a b = record {
  seen = λ i e. b.seen i (a.seen i e);
  longer = let x = a.longer in let y = b.longer in omega (arith, x, y);
  same = λ j low. b.same j (let x = a.longer in omega (arith, x, low)) ∙ a.same j low;
}

module _ (f : Front) (x : ℕ) where
  pub stays : is_seen f.seen x ≡ true → front_reaches f x ≡ f
  stays e = cond-true (is_seen f.seen x) f (front_of (set f.seen x true) (f.queue ++ x ∷ [])) e

  pub grown : is_seen f.seen x ≡ false → front_reaches f x ≡ front_of (set f.seen x true) (f.queue ++ x ∷ [])
  grown e = cond-false (is_seen f.seen x) f (front_of (set f.seen x true) (f.queue ++ x ∷ [])) e

  longer_by : length (f.queue ++ x ∷ []) ≡ length f.queue + 1
  longer_by = length-append f.queue (x ∷ [])

  set_seen : (i : ℕ) → is_seen f.seen i ≡ true → is_seen (set f.seen x true) i ≡ true
  set_seen i e =
      elim (cases_eq i x) [
        | inl same ↦
            elim (cases_lt x (length f.seen)) [
              | inl low ↦ ap (is_seen (set f.seen x true)) same ∙ get_or-set_same f.seen x true false low
              | inr far ↦ absurd (false≢true (sym (get_or_past f.seen i false (omega (arith, far, same))) ∙ e))
            ]
        | inr apart ↦ get_or-set_other f.seen x i true false apart ∙ e
      ]

  grows_set : Grows f (front_of (set f.seen x true) (f.queue ++ x ∷ []))
  grows_set = record {
    seen = set_seen;
    longer = let l = longer_by in omega (arith, l);
    same = λ j low. get_or_append_left f.queue (x ∷ []) 0 j low;
  }

  pub reach_grows : Grows f (front_reaches f x)
  reach_grows =
      elim (cases_Bool (is_seen f.seen x)) [
        | inl is ↦ subst (λ (g : Front). Grows f g) (sym (stays is)) (grows_itself f)
        | inr isnt ↦ subst (λ (g : Front). Grows f g) (sym (grown isnt)) grows_set
      ]

  pub reach_seen : x < length f.seen → is_seen (front_reaches f x).seen x ≡ true
  reach_seen low =
      elim (cases_Bool (is_seen f.seen x)) [
        | inl is ↦ ap (λ (g : Front). is_seen g.seen x) (stays is) ∙ is
        | inr isnt ↦ ap (λ (g : Front). is_seen g.seen x) (grown isnt) ∙ get_or-set_same f.seen x true false low
      ]

  -- one inode more is seen and queued
  module _ (t : RawTables) (passed : ℕ) (is_front : IsFront t f passed) (inside : passed ≤ length f.queue) (low : x < 65536) (reached : IsReached t x) (isnt : is_seen f.seen x ≡ false) where
    fewer : count_by not (set f.seen x true) + 1 ≡ count_by not f.seen
    fewer =
        let p = is_front.places in
        let s = sum_by-set (λ (b : Bool). cond (not b) 1 0) f.seen x true false (omega (arith, p, low)) in
        let one : ◌≡◌ {A = ℕ} (cond (not (is_seen f.seen x)) 1 0) 1 = ap (λ (b : Bool). cond (not b) 1 0) isnt in
        omega (arith, s, one)

    set_sound : (i : ℕ) → is_seen (set f.seen x true) i ≡ true → IsReached t i
    set_sound i e =
        elim (cases_eq i x) [
          | inl same ↦ subst (IsReached t) (sym same) reached
          | inr apart ↦ is_front.sound i (sym (get_or-set_other f.seen x i true false apart) ∙ e)
        ]

    set_queued : (j : ℕ) → j < length (f.queue ++ x ∷ []) → is_seen (set f.seen x true) (get_or (f.queue ++ x ∷ []) j 0) ≡ true
    set_queued j within =
        let l = longer_by in
        elim (cases_lt j (length f.queue)) [
          | inl old ↦
              ap (is_seen (set f.seen x true)) (get_or_append_left f.queue (x ∷ []) 0 j old)
              ∙ set_seen (get_or f.queue j 0) (is_front.queued j old)
          | inr new ↦
              let p = is_front.places in
              ap (is_seen (set f.seen x true)) (ap (λ (k : ℕ). get_or (f.queue ++ x ∷ []) k 0) (omega (arith, l, within, new)) ∙ get_or-append_seam f.queue x [] 0)
              ∙ get_or-set_same f.seen x true false (omega (arith, p, low))
        ]

    set_closed : (i : ℕ) → is_seen (set f.seen x true) i ≡ true → Waits (front_of (set f.seen x true) (f.queue ++ x ∷ [])) passed i ⊎ IsPassed t (front_of (set f.seen x true) (f.queue ++ x ∷ [])) i
    set_closed i e =
        let l = longer_by in
        elim (cases_eq i x) [
          | inl same ↦ let w : Waits (front_of (set f.seen x true) (f.queue ++ x ∷ [])) passed i = record { place = length f.queue; after = inside; within = omega (arith, l); is = get_or-append_seam f.queue x [] 0 ∙ sym same } in inl w
          | inr apart ↦
              elim (is_front.closed i (sym (get_or-set_other f.seen x i true false apart) ∙ e)) [
                | inl w ↦
                    let h = w.within in
                    let v : Waits (front_of (set f.seen x true) (f.queue ++ x ∷ [])) passed i = record { place = w.place; after = w.after; within = omega (arith, l, h); is = get_or_append_left f.queue (x ∷ []) 0 w.place h ∙ w.is } in
                    inl v
                | inr p ↦ inr (λ n k stands. set_seen k (p n k stands))
              ]
        ]

    pub set_front : IsFront t (front_of (set f.seen x true) (f.queue ++ x ∷ [])) passed
    set_front = record {
      places = length-set f.seen x true ∙ is_front.places;
      balance = let a = fewer in let b = longer_by in let c = is_front.balance in omega (arith, a, b, c);
      sound = set_sound;
      queued = set_queued;
      closed = set_closed;
    }

pub reach_front : (f : Front) (x : ℕ) (t : RawTables) (passed : ℕ) → IsFront t f passed → passed ≤ length f.queue → x < 65536 → IsReached t x → IsFront t (front_reaches f x) passed
reach_front f x t passed is_front inside low reached =
    elim (cases_Bool (is_seen f.seen x)) [
      | inl is ↦ subst (λ (g : Front). IsFront t g passed) (sym (stays f x is)) is_front
      | inr isnt ↦ subst (λ (g : Front). IsFront t g passed) (sym (grown f x isnt)) (set_front f x t passed is_front inside low reached isnt)
    ]

pub record Reached (t : RawTables) (f : Front) (passed : ℕ) (rows : List DirectoryEntry) : Type 0 where
  pub front : IsFront t (reach_all f rows) passed
  pub grows : Grows f (reach_all f rows)
  pub seen : (k : ℕ) → k < length rows → (x : DirectoryEntry) → is_seen (reach_all f rows).seen (get_or rows k x).inode ≡ true

pub reach_rows : (rows : List DirectoryEntry) (t : RawTables) (f : Front) (passed : ℕ) → IsFront t f passed → passed ≤ length f.queue → ((k : ℕ) (x : DirectoryEntry) → k < length rows → ((get_or rows k x).inode < 65536) × IsReached t (get_or rows k x).inode) → Reached t f passed rows
reach_rows [] t f passed is_front inside all = record { front = is_front; grows = grows_itself f; seen = λ k low. absurd (omega (arith, low)) }
reach_rows (row ∷ rows) t f passed is_front inside all =
    let one = all 0 row (omega arith) in
    let more = reach_grows f row.inode in
    let longer = more.longer in
    let places = is_front.places in
    let low = one.0 in
    let rest = reach_rows rows t (front_reaches f row.inode) passed (reach_front f row.inode t passed is_front inside one.0 one.1) (omega (arith, inside, longer)) (λ k x within. all (suc k) x (omega (arith, within))) in
    record {
      front = rest.front;
      grows = grows_on f (front_reaches f row.inode) (reach_all (front_reaches f row.inode) rows) more rest.grows;
      seen = seen_all rest (reach_seen f row.inode (omega (arith, places, low)));
    }
  where
    seen_all : Reached t (front_reaches f row.inode) passed rows → is_seen (front_reaches f row.inode).seen row.inode ≡ true → (k : ℕ) → k < length (row ∷ rows) → (x : DirectoryEntry) → is_seen (reach_all (front_reaches f row.inode) rows).seen (get_or (row ∷ rows) k x).inode ≡ true
    seen_all rest first zero within x = rest.grows.seen row.inode first
    seen_all rest first (suc k) within x = rest.seen k (omega (arith, within)) x

-- one directory more is gone through
module _ (t : RawTables) (f : Front) (passed d : ℕ) (distinct : AreDistinct (names_in t.entries d)) (is_front : IsFront t f passed) (within : passed < length f.queue) (is : d ≡ get_or f.queue passed 0) (few : (k : ℕ) (x : DirectoryEntry) → k < length (names_in t.entries d) → (get_or (names_in t.entries d) k x).inode < 65536) where
  d_reached : IsReached t d
  d_reached = is_front.sound d (ap (is_seen f.seen) is ∙ is_front.queued passed within)

  row_reached : (k : ℕ) (x : DirectoryEntry) → k < length (names_in t.entries d) → IsReached t (get_or (names_in t.entries d) k x).inode
  row_reached k x low =
      let n = (get_or (names_in t.entries d) k x).name in
      (n ∷ d_reached.0, ap (option_and_then (λ i. entry_at t.entries i n)) d_reached.1 ∙ row_stands (names_in t.entries d) k x distinct low)

  all_reached : Reached t f passed (names_in t.entries d)
  all_reached = reach_rows (names_in t.entries d) t f passed is_front (omega (arith, within)) (λ k x low. (few k x low, row_reached k x low))

  d_passed : IsPassed t (reach_all f (names_in t.entries d)) d
  d_passed n i e =
      let r = row_of (names_in t.entries d) n i e in
      let x : DirectoryEntry = record { inode = 0; name = n } in
      ap (is_seen (reach_all f (names_in t.entries d)).seen) (sym (r.inode x)) ∙ all_reached.seen r.place r.within x

  passed_closed : (i : ℕ) → Waits (reach_all f (names_in t.entries d)) passed i → Waits (reach_all f (names_in t.entries d)) (passed + 1) i ⊎ IsPassed t (reach_all f (names_in t.entries d)) i
  passed_closed i w =
      let a = w.after in
      elim (cases_eq w.place passed) [
        | inl same ↦
            let here : d ≡ i = is ∙ sym (all_reached.grows.same passed within) ∙ ap (λ (k : ℕ). get_or (reach_all f (names_in t.entries d)).queue k 0) (sym same) ∙ w.is in
            inr (subst (IsPassed t (reach_all f (names_in t.entries d))) here d_passed)
        | inr apart ↦
            let v : Waits (reach_all f (names_in t.entries d)) (passed + 1) i = record { place = w.place; after = omega (arith, a, apart); within = w.within; is = w.is } in
            inl v
      ]

  pub next_front : IsFront t (reach_all f (names_in t.entries d)) (passed + 1)
  next_front =
      let r = all_reached.front in
      record {
        places = r.places;
        balance = r.balance;
        sound = r.sound;
        queued = r.queued;
        closed = λ i e. elim (r.closed i e) [ inl w ↦ passed_closed i w | inr p ↦ inr p ];
      }

  pub next_root : is_seen f.seen 0 ≡ true → is_seen (reach_all f (names_in t.entries d)).seen 0 ≡ true
  next_root e = all_reached.grows.seen 0 e

-- the beginning
count_none : (n : ℕ) → count_by not (replicate n false) ≡ n
count_none zero = refl
count_none (suc n) = let s = sum_by-cons (λ (b : Bool). cond (not b) 1 0) false (replicate n false) in let r = count_none n in omega (arith, s, r)

none_seen : (n i : ℕ) → is_seen (replicate n false) i ≡ false
none_seen n i =
    elim (cases_lt i n) [
      | inl low ↦ get_or-replicate n i false false low
      | inr far ↦ get_or_past (replicate n false) i false (let l = length-replicate n false in omega (arith, l, far))
    ]

bare_front : (t : RawTables) (n : ℕ) → n ≡ 65536 → IsFront t (front_of (replicate n false) []) 0
bare_front t n e = record {
  places = length-replicate n false ∙ e;
  balance = let c = count_none n in omega (arith, c, e);
  sound = λ i m. absurd (false≢true (sym (none_seen n i) ∙ m));
  queued = λ j low. absurd (omega (arith, low));
  closed = λ i m. absurd (false≢true (sym (none_seen n i) ∙ m));
}

pub record Begins (t : RawTables) (f : Front) : Type 0 where
  pub front : IsFront t f 0
  pub root : is_seen f.seen 0 ≡ true

begins_with : (t : RawTables) (n : ℕ) → n ≡ 65536 → Begins t (front_reaches (front_of (replicate n false) []) 0)
begins_with t n e =
    let bare = bare_front t n e in
    let l = bare.places in
    record {
      front = reach_front (front_of (replicate n false) []) 0 t 0 bare (omega arith) (omega arith) ([], refl);
      root = reach_seen (front_of (replicate n false) []) 0 (omega (arith, l));
    }

pub begins : (t : RawTables) (seen : List Bool) → seen ≡ replicate 65536 false → Begins t (front_reaches (front_of seen []) 0)
begins t seen e = subst (λ (ms : List Bool). Begins t (front_reaches (front_of ms []) 0)) (sym e) (begins_with t 65536 refl)

-- the end
module _ (t : RawTables) (f : Front) (passed : ℕ) (is_front : IsFront t f passed) (over : length f.queue ≤ passed) (root : is_seen f.seen 0 ≡ true) where
  all_seen : (p : Path) (i : ℕ) → walk t.entries p ≡ Some i → is_seen f.seen i ≡ true
  all_seen [] i w = ap (is_seen f.seen) (sym (same_Some 0 i w)) ∙ root
  all_seen (n ∷ p) i w =
      let s = walk_parts t.entries n p i w in
      elim (is_front.closed s.directory (all_seen p s.directory s.before)) [
        | inl waits ↦ let a = waits.after in let b = waits.within in absurd (omega (arith, a, b, over))
        | inr is_passed ↦ is_passed n i s.last
      ]

  by_seen : (i : ℕ) (b : Bool) → is_seen f.seen i ≡ b → MatchBool b (IsReached t i) (IsReached t i → ⊥)
  by_seen i true e = is_front.sound i e
  by_seen i false e = λ r. false≢true (sym e ∙ all_seen r.0 i r.1)

  pub end_seen : IsSeen t f.seen
  end_seen = record { places = is_front.places; each = λ i low. by_seen i (is_seen f.seen i) refl }

pub reach_append : (rows more : List DirectoryEntry) (f : Front) → reach_all f (rows ++ more) ≡ reach_all (reach_all f rows) more
reach_append [] more f = refl
reach_append (row ∷ rows) more f = reach_append rows more (front_reaches f row.inode)

pub reach_more : (f : Front) (rows : List DirectoryEntry) (k : ℕ) (x : DirectoryEntry) → k < length rows → reach_all f (take (k + 1) rows) ≡ front_reaches (reach_all f (take k rows)) (get_or rows k x).inode
reach_more f rows k x low = ap (reach_all f) (take_more rows k x low) ∙ reach_append (take k rows) (get_or rows k x ∷ []) f
