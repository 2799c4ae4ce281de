-- What the tests of a state come to.
use Rattle.std.proofs.Common.{◌≡◌, ◌↔◌, ℕ, suc, ◌+◌, ◌<◌, ◌≤◌, inl, inr, Bool, true, false, List, [], ◌∷◌, length, get_or, drop, Option, Some, None, Result, Ok, Err, IfOk, IsTrue, is_some, add-one, arith, refl, sym, ap, subst, ◌∙◌}
use Rattle.std.proofs.lemmas.Bool.{cases_eq, false≢true, or_cases, or_left, or_right}
use Rattle.std.proofs.Math.Seq.{drop-cons}
use Rattle.std.proofs.lemmas.List.{drop_all}
use Rattle.std.specs.Ordering.{nat_cmp, eq_by_cmp}
use Rattle.std.proofs.lemmas.Bool.Decides.{nat_tests}
use Rattle.std.specs.List.{list_any}
use Rattle.std.specs.FinMap
use Rattle.pf_entry.specs.Lists.{Every}
use Rattle.pf_entry.specs.Maps.{Map, Numbers}
use Rattle.pf_entry.specs.Sets
use Rattle.pf_entry.proofs.Sets.{contains-items}
use Rattle.pf_entry.specs.Records.{Durable}
use Rattle.pf_entry.specs.StartMaps.{start_rows}
use Rattle.pf_entry.specs.declared.entries.Entry.{Entry}
use Rattle.pf_entry.specs.declared.tables.Start.{Start}
use Rattle.pf_holes.specs.Windows.{SlotsAreWithin}
use Rattle.pf_codec.proofs.MapLaws.{every_of_gets, get_of_every}
use Rattle.pf_protocol.specs.Servers.{Setup}
use Rattle.pf_server_restart.specs.Beginning.{ServerHasBegun, MayBegin, setup_of_seat}
use Rattle.pf_server_restart.specs.Recovering.{HasWindow, SlotIsPlaced}
use Rattle.pf_server_restart.specs.Testing.{AreApplied, AreInPlace, AreNumbers, AreStarts, IsContent, StatePasses, EntryIsInPlace, TermIsLow, IsSoundAt, JudgesState}
use Rattle.pf_server_restart.specs.declared.seat.Seat.{Seat}

-- slots of a list
listed : (q : ℕ) (ns : List ℕ) (P : ℕ → Type 0) → Every P ns → list_any (eq_by_cmp nat_cmp q) ns ≡ true → P q
listed q [] P each has = absurd (false≢true has)
listed q (n ∷ ns) P each has = elim (or_cases (eq_by_cmp nat_cmp q n) (list_any (eq_by_cmp nat_cmp q) ns) has) [
  | inl here ↦ subst P (sym (tied q n here)) each.0
  | inr there ↦ listed q ns P each.1 there
]
  where
    tied : (q n : ℕ) → eq_by_cmp nat_cmp q n ≡ true → q ≡ n
    tied q n is = grind (arith, nat_tests)

all_listed : (ns : List ℕ) (P : ℕ → Type 0) → ((q : ℕ) → list_any (eq_by_cmp nat_cmp q) ns ≡ true → P q) → Every P ns
all_listed [] P f = tt
all_listed (n ∷ ns) P f = (f n (or_left _ _ (same n)), all_listed ns P (λ q has. f q (or_right _ _ has)))
  where
    same : (n : ℕ) → eq_by_cmp nat_cmp n n ≡ true
    same n = grind (arith, nat_tests)

pub applied_here : (base : ℕ) (slots : Numbers) (ns : List ℕ) → Sets.items slots ≡ ns → Every (SlotIsPlaced base) ns ↔ AreApplied base slots
applied_here base slots ns is = (
  λ each slot has. listed slot ns (SlotIsPlaced base) each (ap (list_any (eq_by_cmp nat_cmp slot)) (sym is) ∙ sym (contains-items slots slot) ∙ has),
  λ all. all_listed ns (SlotIsPlaced base) (λ q has. all q (contains-items slots q ∙ ap (list_any (eq_by_cmp nat_cmp q)) is ∙ has)),
)

-- starts of a list
each_row : (rows : List Start) → Every (λ row. TermIsLow row.term row.first) rows → Every (λ (row : ℕ × ℕ). TermIsLow row.0 row.1) (start_rows rows)
each_row [] each = tt
each_row (row ∷ rows) each = (each.0, each_row rows each.1)

each_start : (rows : List Start) → Every (λ (row : ℕ × ℕ). TermIsLow row.0 row.1) (start_rows rows) → Every (λ row. TermIsLow row.term row.first) rows
each_start [] each = tt
each_start (row ∷ rows) each = (each.0, each_start rows each.1)

pub starts_here : (starts : Map ℕ) (rows : List Start) → FinMap.entries starts ≡ start_rows rows → FinMap.len starts ≤ 65 → Every (λ row. TermIsLow row.term row.first) rows ↔ AreStarts starts
starts_here starts rows is few = (
  λ each. record { few = few; low = λ term first at. get_of_every TermIsLow starts term first (subst (Every (λ (row : ℕ × ℕ). TermIsLow row.0 row.1)) (sym is) (each_row rows each)) at },
  λ all. each_start rows (subst (Every (λ (row : ℕ × ℕ). TermIsLow row.0 row.1)) is (every_of_gets TermIsLow starts all.low)),
)

-- entries of a log
module _ (setup : Setup) (base : ℕ) (log : Map Entry) (within : SlotsAreWithin base log) where
  pub sound_to : (passed : ℕ) → ((slot : ℕ) (e : Entry) → slot ≤ base + passed → FinMap.get log slot ≡ Some e → EntryIsInPlace setup base slot e) → IsSoundAt setup (base + passed + 1) (FinMap.get log (base + passed + 1))
      → (slot : ℕ) (e : Entry) → slot ≤ base + (passed + 1) → FinMap.get log slot ≡ Some e → EntryIsInPlace setup base slot e
  sound_to passed before here slot e le at =
      elim (cases_eq slot (base + passed + 1)) [
        | inl same ↦
            let sound : IsSoundAt setup slot (Some e) = subst (IsSoundAt setup slot) at (subst (λ q. IsSoundAt setup q (FinMap.get log q)) (sym same) here) in
            record { in_slot = sound.0; placed = within slot (ap is_some at); sound = sound.1 }
        | inr apart ↦ before slot e (omega (arith, le, apart)) at
      ]

  pub sound_none : (slot : ℕ) (e : Entry) → slot ≤ base + 0 → FinMap.get log slot ≡ Some e → EntryIsInPlace setup base slot e
  sound_none slot e le at = absurd (omega (arith, le, (within slot (ap is_some at)).0))

  pub all_sound : ((slot : ℕ) (e : Entry) → slot ≤ base + 4096 → FinMap.get log slot ≡ Some e → EntryIsInPlace setup base slot e) → AreInPlace setup base log
  all_sound each slot e at = each slot e (within slot (ap is_some at)).1 at

pub sound_there : (setup : Setup) (base slot : ℕ) (log : Map Entry) → AreInPlace setup base log → IsSoundAt setup slot (FinMap.get log slot)
sound_there setup base slot log all = by (FinMap.get log slot) refl
  where
    by : (o : Option Entry) → FinMap.get log slot ≡ o → IsSoundAt setup slot o
    by None at = tt
    by (Some e) at = let x = all slot e at in (x.in_slot, x.sound)

-- the whole
module _ (seat : Seat) (d : Durable) where
  abbrev setup : Setup
  setup = setup_of_seat seat

  begun : AreNumbers setup d → IsContent setup d → AreStarts d.starts → ServerHasBegun setup d
  begun numbers content starts = record {
    fits = record {
      generation = omega (arith, numbers.generation);
      term = numbers.term;
      term_low = omega (arith, numbers.term_low);
      vote = record {
        base = omega (arith, numbers.base);
        log = λ slot e at.
            let x = content.log slot e at in
            record {
              fits = record {
                slot = omega (arith, x.in_slot, x.placed.0);
                slot_low = omega (arith, x.in_slot, x.placed.1, numbers.base);
                term = x.sound.low.term_is;
                term_low = omega (arith, x.sound.low.term_low);
                first = x.sound.low.first_is;
                first_low = omega (arith, x.sound.low.first_low);
                few = x.sound.look.few;
                ascending = x.sound.look.ascending;
                named = x.sound.look.named;
                merged = x.sound.merged;
                op = x.sound.op;
              };
              in_slot = x.in_slot;
              is_above = x.placed.0;
              within = x.placed.1;
            };
        starts = λ term first at. let x = starts.low term first at in record { term_is = x.term_is; term_low = omega (arith, x.term_low); first_is = x.first_is; first_low = omega (arith, x.first_low) };
      };
      saved = λ slot has. let x = content.saved slot has in (x.0, x.1, omega (arith, x.1, numbers.base));
      sectors = content.sectors;
    };
    half = record { format = numbers.format; few = starts.few; within = numbers.within };
  }

  numbers_of : MayBegin setup d → AreNumbers setup d
  numbers_of may = record {
    format = may.half.format;
    within = may.half.within;
    generation = omega (arith, may.fits.generation, may.low);
    term = may.fits.term;
    term_low = omega (arith, may.fits.term_low, may.t_low);
    base = omega (arith, may.fits.vote.base, may.low);
  }

  content_of : MayBegin setup d → IsContent setup d
  content_of may = record {
    log = λ slot e at.
        let x = may.fits.vote.log slot e at in
        record {
          in_slot = x.in_slot;
          placed = (x.is_above, x.within);
          sound = record {
            low = record { term_is = x.fits.term; term_low = omega (arith, x.fits.term_low, may.t_low); first_is = x.fits.first; first_low = omega (arith, x.fits.first_low, may.low) };
            merged = x.fits.merged;
            look = record { few = x.fits.few; named = x.fits.named; ascending = x.fits.ascending };
            op = x.fits.op;
          };
        };
    saved = λ slot has. let x = may.fits.saved slot has in (x.0, x.1);
    sectors = may.fits.sectors;
  }

  starts_of : MayBegin setup d → AreStarts d.starts
  starts_of may = record {
    few = may.half.few;
    low = λ term first at. let x = may.fits.vote.starts term first at in record { term_is = x.term_is; term_low = omega (arith, x.term_low, may.t_low); first_is = x.first_is; first_low = omega (arith, x.first_low, may.low) };
  }

  pub passed : (b : Bool) → AreNumbers setup d → IsContent setup d → IsTrue b ↔ AreStarts d.starts → JudgesState setup d b
  passed b numbers content starts = record { fits = λ is. (begun numbers content (starts.0 is), numbers.generation); ours = λ may. starts.1 (starts_of may); unfit = λ fails fit. false≢true (sym fails ∙ starts.1 fit.starts) }

  pub not_numbers : (AreNumbers setup d → ⊥) → JudgesState setup d false
  not_numbers none = record { fits = λ is. absurd (false≢true is); ours = λ may. absurd (none (numbers_of may)); unfit = λ _ fit. none fit.numbers }

  pub not_content : (IsContent setup d → ⊥) → JudgesState setup d false
  not_content none = record { fits = λ is. absurd (false≢true is); ours = λ may. absurd (none (content_of may)); unfit = λ _ fit. none fit.content }

  pub all_judged : {E : Type 0} → (r : Result Bool E) → AreNumbers setup d → IsContent setup d → IfOk r (λ b. IsTrue b ↔ AreStarts d.starts) → IfOk r (JudgesState setup d)
  all_judged (Ok b) numbers content starts = passed b numbers content starts
  all_judged (Err e) numbers content starts = tt

pub refuted : {P : Type 0} → {b : Bool} → (IsTrue b ↔ P) → b ≡ false → P → ⊥
refuted same fails p = false≢true (sym fails ∙ same.1 p)

pub either_way : {P Q R : Type 0} → (P ↔ Q) → (Q ↔ R) → P ↔ R
either_way f g = (λ p. g.0 (f.0 p), λ r. f.1 (g.1 r))

pub within_here : (base there : ℕ) (log : Map Entry) → there ≡ base → SlotsAreWithin base log → SlotsAreWithin there log
within_here base there log same within = subst (λ b. SlotsAreWithin b log) (sym same) within

-- a list, item by item
module _ {X : Type 0} (P : X → Type 0) where
  cut_at : (xs : List X) (i : ℕ) (x : X) → i < length xs → x ≡ get_or xs i x → drop i xs ≡ x ∷ drop (i + 1) xs
  cut_at xs i x lt at = drop-cons xs i x lt ∙ ap (λ y. y ∷ drop (suc i) xs) (sym at) ∙ ap (λ k. x ∷ drop k xs) (sym (add-one i))

  pub split_each : (xs : List X) (i : ℕ) (x : X) → i < length xs → x ≡ get_or xs i x → Every P (drop i xs) → P x × Every P (drop (i + 1) xs)
  split_each xs i x lt at each = subst (Every P) (cut_at xs i x lt at) each

  pub rest_each : (xs : List X) (i : ℕ) (x : X) → i < length xs → x ≡ get_or xs i x → P x → (Every P (drop i xs) ↔ Every P xs) → Every P (drop (i + 1) xs) ↔ Every P xs
  rest_each xs i x lt at here before = (
    λ rest. before.0 (subst (Every P) (sym (cut_at xs i x lt at)) (here, rest)),
    λ each. (split_each xs i x lt at (before.1 each)).1,
  )

  none_left : (xs : List X) → xs ≡ [] → Every P xs
  none_left xs none = subst (Every P) (sym none) tt

  pub each_after : (xs : List X) (i : ℕ) → length xs ≤ i → Every P (drop i xs)
  each_after xs i past = none_left (drop i xs) (drop_all i xs past)

-- where a server may begin, each entry has a place
pub may_window : (seat : Seat) (d : Durable) → MayBegin (setup_of_seat seat) d → HasWindow d
may_window seat d may q has = by (FinMap.get d.log q) refl has
  where
    by : (o : Option Entry) → FinMap.get d.log q ≡ o → is_some o ≡ true → SlotIsPlaced d.base q
    by None at has = absurd (false≢true has)
    by (Some e) at has = let x = may.fits.vote.log q e at in (x.is_above, x.within)

-- each entry of a state that passes has a place
pub fit_window : (volume : Setup) (d : Durable) → StatePasses volume d → HasWindow d
fit_window volume d fit q has = by (FinMap.get d.log q) refl has
  where
    by : (o : Option Entry) → FinMap.get d.log q ≡ o → is_some o ≡ true → SlotIsPlaced d.base q
    by None at has = absurd (false≢true has)
    by (Some e) at has = (fit.content.log q e at).placed
