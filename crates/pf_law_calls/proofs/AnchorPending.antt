-- What is pending at the anchors is what was asked there.
use Rattle.std.proofs.Common.{◌≡◌, ◌≢◌, ℕ, zero, suc, ◌<◌, ◌≤◌, inl, inr, Bool, true, false, cond, ◌==◌, List, Option, Some, None, arith, refl, sym, subst, ◌∙◌}
use Rattle.std.proofs.lemmas.Bool.{cases_eq, cond-false, cond-true, eq-eqb, eqb-false, eqb-true, ne_eqb}
use Rattle.pf_paxos.specs.declared.parts.AnchorAsk.{AnchorAsk}
use Rattle.pf_paxos.specs.declared.parts.AnchorAsk.TheVariants.{Nothing, OwnBlock, Half}
use Rattle.pf_paxos.specs.declared.parts.Part.{Part}
use Rattle.pf_paxos.specs.Parts.{part_at}
use Rattle.pf_journal.specs.declared.layouts.Layout.{Layout}
use Rattle.pf_mount_errands.specs.declared.errands.Errand.{Errand}
use Rattle.pf_mount_errands.specs.declared.errands.Errand.TheVariants.{Free, OfSync as SyncErrand, OfPause as PauseErrand, OfSuper as SuperErrand, FillsSuper, LateWrite, LateRead}
use Rattle.pf_mount_errands.specs.declared.errands.Errands.{Errands}
use Rattle.pf_mount_errands.specs.Errands.{all_late, all_left, errand_at, is_free_of, late, left_behind, with_errand}
use Rattle.pf_law_calls.specs.Lives.{OfBallot, OfPause, OfSuper, OfSync, Waiting, waits_with}
use Rattle.pf_law_calls.proofs.Layouts.{anchors_in, few_anchors, new_idle, new_in}

-- an errand of earlier work is an ask of a ballot that asked this
abbrev pub IsLate : Errand → (asked : AnchorAsk) → Type 0
IsLate LateWrite OwnBlock = Unit {0}
IsLate (LateRead count) (Half half) = count ≡ 8
IsLate errand asked = ⊥

abbrev pub IsLook : Errand → Type 0
IsLook SyncErrand = Unit {0}
IsLook (LateRead count) = count ≡ 8
IsLook errand = ⊥

abbrev pub IsOfPause : Errand → Type 0
IsOfPause PauseErrand = Unit {0}
IsOfPause (LateRead count) = count ≡ 1
IsOfPause errand = ⊥

abbrev pub IsOfSuper : Errand → Type 0
IsOfSuper SuperErrand = Unit {0}
IsOfSuper FillsSuper = Unit {0}
IsOfSuper LateWrite = Unit {0}
IsOfSuper (LateRead count) = count ≡ 1
IsOfSuper errand = ⊥

-- What waits is what the errand is of. What a ballot asked was asked at a position that the mount has left, and is asked there still
abbrev pub IsOwed : (upto : ℕ) → Errand → Option Waiting → (old : ℕ → AnchorAsk) → Type 0
IsOwed upto errand None old = ⊥
IsOwed upto errand (Some (OfBallot q)) old = (q < upto) × IsLate errand (old q)
IsOwed upto errand (Some (OfSync q half)) old = IsLook errand
IsOwed upto errand (Some OfPause) old = IsOfPause errand
IsOwed upto errand (Some OfSuper) old = IsOfSuper errand

-- What waits at an anchor, where a ballot of the position has asked this there and those of older positions that. Where nothing is pending
-- it does not matter
abbrev pub WaitsAs : (upto : ℕ) → Errand → (asked : AnchorAsk) → Option Waiting → (old : ℕ → AnchorAsk) → Type 0
WaitsAs upto Free Nothing w old = Unit {0}
WaitsAs upto Free asked w old = w ≡ Some (OfBallot upto)
WaitsAs upto errand asked w old = (asked ≡ Nothing) × IsOwed upto errand w old

pub owed_below : (upto : ℕ) (e : Errand) (w : Option Waiting) (old : ℕ → AnchorAsk) → IsOwed upto e w old → (q : ℕ) → w ≡ Some (OfBallot q) → q < upto
owed_below upto e None old is q same = absurd is
owed_below upto e (Some (OfBallot r)) old is q same = let equal : r ≡ q = cc in omega (arith, equal, is.0)
owed_below upto e (Some (OfSync r half)) old is q same = absurd (cc)
owed_below upto e (Some OfPause) old is q same = absurd (cc)
owed_below upto e (Some OfSuper) old is q same = absurd (cc)

-- A sync begins

late_owed : (upto : ℕ) (e : Errand) (w : Option Waiting) (old : ℕ → AnchorAsk) → IsOwed upto e w old → IsOwed upto (late e) w old
late_owed upto Free w old is = is
late_owed upto SyncErrand None old is = absurd is
late_owed upto SyncErrand (Some (OfBallot q)) old is = absurd is.1
late_owed upto SyncErrand (Some (OfSync q half)) old is = refl
late_owed upto SyncErrand (Some OfPause) old is = absurd is
late_owed upto SyncErrand (Some OfSuper) old is = absurd is
late_owed upto PauseErrand None old is = absurd is
late_owed upto PauseErrand (Some (OfBallot q)) old is = absurd is.1
late_owed upto PauseErrand (Some (OfSync q half)) old is = absurd is
late_owed upto PauseErrand (Some OfPause) old is = refl
late_owed upto PauseErrand (Some OfSuper) old is = absurd is
late_owed upto SuperErrand None old is = absurd is
late_owed upto SuperErrand (Some (OfBallot q)) old is = absurd is.1
late_owed upto SuperErrand (Some (OfSync q half)) old is = absurd is
late_owed upto SuperErrand (Some OfPause) old is = absurd is
late_owed upto SuperErrand (Some OfSuper) old is = refl
late_owed upto FillsSuper None old is = absurd is
late_owed upto FillsSuper (Some (OfBallot q)) old is = absurd is.1
late_owed upto FillsSuper (Some (OfSync q half)) old is = absurd is
late_owed upto FillsSuper (Some OfPause) old is = absurd is
late_owed upto FillsSuper (Some OfSuper) old is = tt
late_owed upto LateWrite w old is = is
late_owed upto (LateRead count) w old is = is

late_waits : (upto : ℕ) (e : Errand) (n : AnchorAsk) (w : Option Waiting) (old : ℕ → AnchorAsk) → WaitsAs upto e n w old → WaitsAs upto (late e) n w old
late_waits upto Free n w old is = is
late_waits upto SyncErrand n w old is = (is.0, late_owed upto SyncErrand w old is.1)
late_waits upto PauseErrand n w old is = (is.0, late_owed upto PauseErrand w old is.1)
late_waits upto SuperErrand n w old is = (is.0, late_owed upto SuperErrand w old is.1)
late_waits upto FillsSuper n w old is = (is.0, late_owed upto FillsSuper w old is.1)
late_waits upto LateWrite n w old is = is
late_waits upto (LateRead count) n w old is = is

-- The position is left

owed_more : (upto : ℕ) (e : Errand) (w : Option Waiting) (old : ℕ → AnchorAsk) → IsOwed upto e w old → IsOwed (suc upto) e w old
owed_more upto e None old is = is
owed_more upto e (Some (OfBallot q)) old is = (omega (arith, is.0), is.1)
owed_more upto e (Some (OfSync q half)) old is = is
owed_more upto e (Some OfPause) old is = is
owed_more upto e (Some OfSuper) old is = is

ballot_owed : (upto : ℕ) (e : Errand) (n : AnchorAsk) (w : Option Waiting) (old : ℕ → AnchorAsk) → n ≡ old upto → w ≡ Some (OfBallot upto) → IsLate e n → IsOwed (suc upto) e w old
ballot_owed upto e n w old same is late =
    subst (λ (x : Option Waiting). IsOwed (suc upto) e x old) (sym is) (omega arith, subst (IsLate e) same late)

left_waits : (upto : ℕ) (e : Errand) (n : AnchorAsk) (w : Option Waiting) (old : ℕ → AnchorAsk) → WaitsAs upto e n w old → n ≡ old upto → WaitsAs (suc upto) (left_behind e n) Nothing w old
left_waits upto Free OwnBlock w old is same = (refl, ballot_owed upto LateWrite OwnBlock w old same is tt)
left_waits upto Free (Half half) w old is same = (refl, ballot_owed upto (LateRead 8) (Half half) w old same is refl)
left_waits upto Free Nothing w old is same = tt
left_waits upto SyncErrand n w old is same = (refl, owed_more upto (late SyncErrand) w old (late_owed upto SyncErrand w old is.1))
left_waits upto PauseErrand n w old is same = (refl, owed_more upto (late PauseErrand) w old (late_owed upto PauseErrand w old is.1))
left_waits upto SuperErrand n w old is same = (refl, owed_more upto (late SuperErrand) w old (late_owed upto SuperErrand w old is.1))
left_waits upto FillsSuper n w old is same = (refl, owed_more upto (late FillsSuper) w old (late_owed upto FillsSuper w old is.1))
left_waits upto LateWrite n w old is same = (refl, owed_more upto LateWrite w old is.1)
left_waits upto (LateRead count) n w old is same = (refl, owed_more upto (LateRead count) w old is.1)

-- At older positions the same is asked

module _ (upto : ℕ) (old new : ℕ → AnchorAsk) (same : (q : ℕ) → q < upto → new q ≡ old q) where
  owed_still : (e : Errand) (w : Option Waiting) → IsOwed upto e w old → IsOwed upto e w new
  owed_still e None is = is
  owed_still e (Some (OfBallot q)) is = (is.0, subst (IsLate e) (sym (same q is.0)) is.1)
  owed_still e (Some (OfSync q half)) is = is
  owed_still e (Some OfPause) is = is
  owed_still e (Some OfSuper) is = is

  waits_still : (e : Errand) (n : AnchorAsk) (w : Option Waiting) → WaitsAs upto e n w old → WaitsAs upto e n w new
  waits_still Free Nothing w is = is
  waits_still Free OwnBlock w is = is
  waits_still Free (Half half) w is = is
  waits_still SyncErrand n w is = (is.0, owed_still SyncErrand w is.1)
  waits_still PauseErrand n w is = (is.0, owed_still PauseErrand w is.1)
  waits_still SuperErrand n w is = (is.0, owed_still SuperErrand w is.1)
  waits_still FillsSuper n w is = (is.0, owed_still FillsSuper w is.1)
  waits_still LateWrite n w is = (is.0, owed_still LateWrite w is.1)
  waits_still (LateRead count) n w is = (is.0, owed_still (LateRead count) w is.1)

-- at each anchor
abbrev pub AreWaits : Layout → (upto : ℕ) → Errands → List Part → (ℕ → Option Waiting) → (olds : (anchor position : ℕ) → AnchorAsk) → Type 0
AreWaits layout upto e ps waits olds = (a : ℕ) → a < anchors_in layout → WaitsAs upto (errand_at e a) (part_at ps a).asked (waits a) (olds a)

module _ (layout : Layout) (upto : ℕ) (e : Errands) (ps : List Part) (waits : ℕ → Option Waiting) (olds : (anchor position : ℕ) → AnchorAsk) (are : AreWaits layout upto e ps waits olds) where
  pub all_late_waits : AreWaits layout upto (all_late e) ps waits olds
  all_late_waits a low = by (a == 0) (a == 1) (are a low)
    where
      by : (b c : Bool) → (let n = (part_at ps a).asked in WaitsAs upto (cond b e.errand_0 (cond c e.errand_1 e.errand_2)) n (waits a) (olds a) → WaitsAs upto (cond b (late e.errand_0) (cond c (late e.errand_1) (late e.errand_2))) n (waits a) (olds a))
      by true c = late_waits upto e.errand_0 (part_at ps a).asked (waits a) (olds a)
      by false true = late_waits upto e.errand_1 (part_at ps a).asked (waits a) (olds a)
      by false false = late_waits upto e.errand_2 (part_at ps a).asked (waits a) (olds a)

  pub all_left_waits : (mount : ℕ) → ((a : ℕ) → (part_at ps a).asked ≡ olds a upto) → AreWaits layout (suc upto) (all_left e ps) (new_in layout mount).parts waits olds
  all_left_waits mount same a low =
      subst (λ (n : AnchorAsk). WaitsAs (suc upto) (errand_at (all_left e ps) a) n (waits a) (olds a)) (sym (new_idle layout mount a)) (by a low)
    where
      by : (a : ℕ) → a < anchors_in layout → WaitsAs (suc upto) (errand_at (all_left e ps) a) Nothing (waits a) (olds a)
      by zero low = left_waits upto e.errand_0 (part_at ps 0).asked (waits 0) (olds 0) (are 0 low) (same 0)
      by (suc zero) low = left_waits upto e.errand_1 (part_at ps 1).asked (waits 1) (olds 1) (are 1 low) (same 1)
      by (suc (suc zero)) low = left_waits upto e.errand_2 (part_at ps 2).asked (waits 2) (olds 2) (are 2 low) (same 2)
      by (suc (suc (suc a))) low = let few = few_anchors layout in absurd (omega (arith, low, few))

  module _ (news : (anchor position : ℕ) → AnchorAsk) where
    -- the same is asked everywhere
    pub same_waits : (qs : List Part) → ((a : ℕ) → (part_at qs a).asked ≡ (part_at ps a).asked) → ((a q : ℕ) → q < upto → news a q ≡ olds a q) → AreWaits layout upto e qs waits news
    same_waits qs same still a low =
        subst (λ (n : AnchorAsk). WaitsAs upto (errand_at e a) n (waits a) (news a)) (sym (same a))
        (waits_still upto (olds a) (news a) (still a) (errand_at e a) (part_at ps a).asked (waits a) (are a low))

    -- past the anchors nothing waits
    pub past_waits : (k : ℕ) → anchors_in layout ≤ k → (w : Option Waiting) → ((a q : ℕ) → q < upto → news a q ≡ olds a q) → AreWaits layout upto e ps (waits_with waits k w) news
    past_waits k past w still a low =
        subst (λ (x : Option Waiting). WaitsAs upto (errand_at e a) (part_at ps a).asked x (news a)) (sym (cond-false (a == k) w (waits a) (ne_eqb a k (λ is. absurd (omega (arith, is, past, low))))))
        (waits_still upto (olds a) (news a) (still a) (errand_at e a) (part_at ps a).asked (waits a) (are a low))

    -- something else at one anchor
    pub changed_waits : (f : Errands) (qs : List Part) (a : ℕ) (w : Option Waiting) → WaitsAs upto (errand_at f a) (part_at qs a).asked w (news a)
        → ((b : ℕ) → b < anchors_in layout → b ≢ a → (errand_at f b ≡ errand_at e b) × ((part_at qs b).asked ≡ (part_at ps b).asked) × ((q : ℕ) → q < upto → news b q ≡ olds b q)) → AreWaits layout upto f qs (waits_with waits a w) news
    changed_waits f qs a w here others b low =
        elim (cases_eq b a) [
          | inl same ↦
              subst (λ (x : Option Waiting). WaitsAs upto (errand_at f b) (part_at qs b).asked x (news b)) (sym (cond-true (b == a) w (waits b) (eq-eqb b a same)))
              (subst (λ (k : ℕ). WaitsAs upto (errand_at f k) (part_at qs k).asked w (news k)) (sym same) here)
          | inr apart ↦
              subst (λ (x : Option Waiting). WaitsAs upto (errand_at f b) (part_at qs b).asked x (news b)) (sym (cond-false (b == a) w (waits b) (ne_eqb b a apart)))
              (subst (λ (x : Errand). WaitsAs upto x (part_at qs b).asked (waits b) (news b)) (sym (others b low apart).0)
              (subst (λ (n : AnchorAsk). WaitsAs upto (errand_at e b) n (waits b) (news b)) (sym (others b low apart).1)
              (waits_still upto (olds b) (news b) (others b low apart).2 (errand_at e b) (part_at ps b).asked (waits b) (are b low))))
        ]

-- Errands

pub errand_same : (e : Errands) (a : ℕ) (x : Errand) → errand_at (with_errand e a x) a ≡ x
errand_same e a x = by (a == 0) (a == 1)
  where
    by : (b c : Bool) → (let r = cond b (record e { errand_0 = x }) (cond c (record e { errand_1 = x }) (record e { errand_2 = x })) in cond b r.errand_0 (cond c r.errand_1 r.errand_2)) ≡ x
    by true c = refl
    by false true = refl
    by false false = refl

pub errand_other : (e : Errands) (a b : ℕ) (x : Errand) → a < 3 → b < 3 → b ≢ a → errand_at (with_errand e a x) b ≡ errand_at e b
errand_other e a b x low_a low_b apart = by (a == 0) refl (a == 1) refl (b == 0) refl (b == 1) refl
  where
    by : (i : Bool) → (a == 0) ≡ i → (j : Bool) → (a == 1) ≡ j → (k : Bool) → (b == 0) ≡ k → (l : Bool) → (b == 1) ≡ l → (let r = cond i (record e { errand_0 = x }) (cond j (record e { errand_1 = x }) (record e { errand_2 = x })) in cond k r.errand_0 (cond l r.errand_1 r.errand_2)) ≡ cond k e.errand_0 (cond l e.errand_1 e.errand_2)
    by true is_i j is_j true is_k l is_l = absurd (apart (eqb-true b 0 is_k ∙ sym (eqb-true a 0 is_i)))
    by true is_i j is_j false is_k true is_l = refl
    by true is_i j is_j false is_k false is_l = refl
    by false is_i true is_j true is_k l is_l = refl
    by false is_i true is_j false is_k true is_l = absurd (apart (eqb-true b 1 is_l ∙ sym (eqb-true a 1 is_j)))
    by false is_i true is_j false is_k false is_l = refl
    by false is_i false is_j true is_k l is_l = refl
    by false is_i false is_j false is_k true is_l = refl
    by false is_i false is_j false is_k false is_l = absurd (omega (arith, apart, low_a, low_b, eqb-false a 0 is_i, eqb-false a 1 is_j, eqb-false b 0 is_k, eqb-false b 1 is_l))

-- nothing is pending
pub free_errand : (x : Errand) (n : AnchorAsk) → is_free_of x n ≡ true → x ≡ Free
free_errand Free n is = refl
free_errand SyncErrand n is = absurd (grind (arith, is))
free_errand PauseErrand n is = absurd (grind (arith, is))
free_errand SuperErrand n is = absurd (grind (arith, is))
free_errand FillsSuper n is = absurd (grind (arith, is))
free_errand LateWrite n is = absurd (grind (arith, is))
free_errand (LateRead count) n is = absurd (grind (arith, is))

pub free_idle : (x : Errand) (n : AnchorAsk) → is_free_of x n ≡ true → n ≡ Nothing
free_idle Free Nothing is = refl
free_idle Free OwnBlock is = absurd (grind (arith, is))
free_idle Free (Half half) is = absurd (grind (arith, is))
free_idle SyncErrand n is = absurd (grind (arith, is))
free_idle PauseErrand n is = absurd (grind (arith, is))
free_idle SuperErrand n is = absurd (grind (arith, is))
free_idle FillsSuper n is = absurd (grind (arith, is))
free_idle LateWrite n is = absurd (grind (arith, is))
free_idle (LateRead count) n is = absurd (grind (arith, is))
