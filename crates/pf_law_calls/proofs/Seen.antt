-- What a running sync has read since a moment, anchor by anchor; where it found nothing on a quorum.
use Rattle.std.proofs.Common.{◌≡◌, ◌≢◌, inl, inr, ℕ, zero, suc, ◌<◌, ◌≤◌, ◌==◌, Bool, true, false, ◌||◌, ◌&&◌, if◌then◌else◌, List, [], ◌∷◌, Option, Some, slice_get, arith, refl, sym, ap, subst, ◌∙◌}
use Rattle.std.proofs.lemmas.Bool.{cases_lt, eqb-false, eqb-true}
use Rattle.pf_paxos.specs.declared.block.Block.{Block}
use Rattle.pf_paxos.specs.declared.parts.AnchorNext.TheVariants.{Read}
use Rattle.pf_paxos.specs.declared.parts.Part.{Part}
use Rattle.pf_paxos.specs.declared.parts.Stage.{Stage}
use Rattle.pf_paxos.specs.declared.parts.Stage.TheVariants.{Done, ReadsHigh, ReadsLow, Writes}
use Rattle.pf_paxos.specs.BallotRuns.{anchor_turn_answered, turn_asking}
use Rattle.pf_paxos.specs.Parts.{is_done, no_part, part_at, stage_after}
use Rattle.pf_paxos.specs.Quorums.{FindsNothingOver}
use Rattle.pf_paxos.specs.Registers.{Gives}
use Rattle.pf_paxos.specs.Syncs.{FindsNoBal, FindsNothing}
use Rattle.pf_paxos.proofs.BallotPicks.{over_quorum}
use Rattle.pf_journal.specs.declared.layouts.Layout.{Layout}
use Rattle.pf_law_lists.specs.Journals.{Doing, Looks as LooksAt}
use Rattle.pf_law_lists.proofs.JournalPositions.{Case, past}
use Rattle.pf_mount_errands.specs.Blocks.{has_bal}
use Rattle.pf_mount_errands.specs.declared.errands.Errand.{Errand}
use Rattle.pf_mount_errands.specs.declared.errands.Errand.TheVariants.{FillsSuper, Free, LateRead, LateWrite, OfPause, OfSuper, OfSync}
use Rattle.pf_mount_errands.specs.declared.errands.Errands.{Errands}
use Rattle.pf_mount_errands.specs.declared.looks.AnchorLook.{AnchorLook}
use Rattle.pf_mount_errands.specs.declared.looks.Looks.{Looks}
use Rattle.pf_mount_errands.specs.Errands.{all_late, errand_at, late}
use Rattle.pf_mount_errands.specs.Looks.{are_looked, finds, have_found, look_at, new_look, new_looks, with_look}
use Rattle.pf_law_calls.specs.Lives.{Waiting}
use Rattle.pf_law_calls.specs.Lives.{OfSync as SyncWaits}
use Rattle.pf_law_calls.proofs.Layouts.{anchors_in}
use Rattle.pf_law_calls.proofs.SyncReads.{IsApart, IsAskedSince, neither, quiet_answer, since_asked, since_still, turns_in}

-- Looks at the anchors

pub look_same : (l : Looks) (a : ℕ) (x : AnchorLook) → look_at (with_look l a x) a ≡ x
look_same l a x = by (a == 0) (a == 1)
  where
    by : (b c : Bool) → (let r : Looks = if b then record l { look_0 = x } else if c then record l { look_1 = x } else record l { look_2 = x } in if b then r.look_0 else if c then r.look_1 else r.look_2) ≡ x
    by true c = refl
    by false true = refl
    by false false = refl

pub look_other : (l : Looks) (a b : ℕ) (x : AnchorLook) → a < 3 → b < 3 → b ≢ a → look_at (with_look l a x) b ≡ look_at l b
look_other l a b x low_a low_b apart = by (a == 0) refl (a == 1) refl (b == 0) refl (b == 1) refl
  where
    by : (i : Bool) → (a == 0) ≡ i → (j : Bool) → (a == 1) ≡ j → (k : Bool) → (b == 0) ≡ k → (e : Bool) → (b == 1) ≡ e
        → (let r : Looks = if i then record l { look_0 = x } else if j then record l { look_1 = x } else record l { look_2 = x } in if k then r.look_0 else if e then r.look_1 else r.look_2) ≡ (if k then l.look_0 else if e then l.look_1 else l.look_2)
    by true is_i j is_j true is_k e is_e = absurd (apart (eqb-true b 0 is_k ∙ sym (eqb-true a 0 is_i)))
    by true is_i j is_j false is_k true is_e = refl
    by true is_i j is_j false is_k false is_e = refl
    by false is_i true is_j true is_k e is_e = refl
    by false is_i true is_j false is_k true is_e = absurd (apart (eqb-true b 1 is_e ∙ sym (eqb-true a 1 is_j)))
    by false is_i true is_j false is_k false is_e = refl
    by false is_i false is_j true is_k e is_e = refl
    by false is_i false is_j false is_k true is_e = refl
    by false is_i false is_j false is_k false is_e = absurd (omega (arith, apart, low_a, low_b, eqb-false a 0 is_i, eqb-false a 1 is_j, eqb-false b 0 is_k, eqb-false b 1 is_e))

new_at : (a : ℕ) → look_at new_looks a ≡ new_look
new_at a = by (a == 0) (a == 1)
  where
    by : (b c : Bool) → (if b then new_looks.look_0 else if c then new_looks.look_1 else new_looks.look_2) ≡ new_look
    by true c = refl
    by false true = refl
    by false false = refl

-- What is read

module _ (layout : Layout) (c : Case) (from client : ℕ) (above : 16 < client) where
  -- a half whose read is pending was asked since
  abbrev pub Pends : (t q a half : ℕ) → Errand → Option Waiting → Type 0
  Pends t q a half OfSync w = (w ≡ Some (SyncWaits q half)) × IsAskedSince c from client above q a t half
  Pends t q a half errand w = Unit {0}

  abbrev pub Low : (q a : ℕ) → Type 0
  Low q a = FindsNoBal (turns_in c from client above q a) 0 from

  abbrev pub All : (q a : ℕ) → Type 0
  All q a = FindsNothing (turns_in c from client above q a) from

  abbrev pub HasSeen : (t q a : ℕ) → Stage → (found : Bool) → Errand → Option Waiting → Type 0
  HasSeen t q a Writes found e w = ⊥
  HasSeen t q a ReadsLow found e w = Pends t q a 0 e w
  HasSeen t q a ReadsHigh found e w = (found ≡ false → Low q a) × Pends t q a 1 e w
  HasSeen t q a Done found e w = found ≡ false → All q a

  abbrev pub SeenAt : (t q a : ℕ) → AnchorLook → Errand → Option Waiting → Type 0
  SeenAt t q a look e w = HasSeen t q a look.stage look.found e w

  -- past the anchors nothing is read
  pub record AreSeen (t : ℕ) (waits : ℕ → Option Waiting) (q : ℕ) (e : Errands) (looks : Looks) : Type 0 where
    pub there : (a : ℕ) → a < anchors_in layout → SeenAt t q a (look_at looks a) (errand_at e a) (waits a)
    pub past : (a : ℕ) → anchors_in layout ≤ a → a < 3 → (look_at looks a).stage ≡ ReadsLow

  -- a sync begins
  not_sync : (t q a half : ℕ) (e : Errand) (w : Option Waiting) → Pends t q a half (late e) w
  not_sync t q a half Free w = tt
  not_sync t q a half OfSync w = tt
  not_sync t q a half OfPause w = tt
  not_sync t q a half OfSuper w = tt
  not_sync t q a half FillsSuper w = tt
  not_sync t q a half LateWrite w = tt
  not_sync t q a half (LateRead count) w = tt

  late_at : (t q a half : ℕ) (e : Errands) (w : Option Waiting) → Pends t q a half (errand_at (all_late e) a) w
  late_at t q a half e w = by (a == 0) (a == 1)
    where
      by : (b d : Bool) → Pends t q a half (if b then late e.errand_0 else if d then late e.errand_1 else late e.errand_2) w
      by true d = not_sync t q a half e.errand_0 w
      by false true = not_sync t q a half e.errand_1 w
      by false false = not_sync t q a half e.errand_2 w

  pub new_seen : (t : ℕ) (waits : ℕ → Option Waiting) (q : ℕ) (e : Errands) → AreSeen t waits q (all_late e) new_looks
  new_seen t waits q e = record {
    there = λ a low. subst (λ (look : AnchorLook). SeenAt t q a look (errand_at (all_late e) a) (waits a)) (sym (new_at a)) (late_at t q a 0 e (waits a));
    past = λ a past low. ap (λ (look : AnchorLook). look.stage) (new_at a);
  }

  -- At one anchor

  module _ (t q a : ℕ) where
    pends_still : (d : Doing) → slice_get c.doings t ≡ Some d → IsApart c from client above a d → (half : ℕ) (e : Errand) (w : Option Waiting) → Pends t q a half e w → Pends (suc t) q a half e w
    pends_still d at apart half OfSync w is = (is.0, since_still c from client above q a t half d at apart is.1)
    pends_still d at apart half e w is = tt

    -- something else happens
    pub seen_still : (d : Doing) → slice_get c.doings t ≡ Some d → IsApart c from client above a d → (stage : Stage) (found : Bool) (e : Errand) (w : Option Waiting) → HasSeen t q a stage found e w → HasSeen (suc t) q a stage found e w
    seen_still d at apart Writes found e w is = is
    seen_still d at apart ReadsLow found e w is = pends_still d at apart 0 e w is
    seen_still d at apart ReadsHigh found e w is = (is.0, pends_still d at apart 1 e w is.1)
    seen_still d at apart Done found e w is = is

    -- no read is pending any more
    pub seen_freed : (later : ℕ) (stage : Stage) (found : Bool) (e : Errand) (w v : Option Waiting) → HasSeen t q a stage found e w → HasSeen later q a stage found Free v
    seen_freed later Writes found e w v is = is
    seen_freed later ReadsLow found e w v is = tt
    seen_freed later ReadsHigh found e w v is = (is.0, tt)
    seen_freed later Done found e w v is = is

    -- the next half is asked
    module _ (late : from ≤ t) where
      pub asked_low : slice_get c.doings t ≡ Some (LooksAt q (turn_asking client a (Read 0))) → (found : Bool) → HasSeen (suc t) q a ReadsLow found OfSync (Some (SyncWaits q 0))
      asked_low at found = (refl, since_asked c from client above q a t 0 at late)

      pub asked_high : slice_get c.doings t ≡ Some (LooksAt q (turn_asking client a (Read 1))) → (found : Bool) → (found ≡ false → Low q a) → HasSeen (suc t) q a ReadsHigh found OfSync (Some (SyncWaits q 1))
      asked_high at found low = (low, (refl, since_asked c from client above q a t 1 at late))

    -- it is answered
    module _ (blocks : List Block) (w : Option Waiting) (at : (half : ℕ) → w ≡ Some (SyncWaits q half) → slice_get c.doings t ≡ Some (LooksAt q (anchor_turn_answered client a (Gives blocks)))) (later : ℕ) (v : Option Waiting) where
      pub answered_seen : (stage : Stage) (found : Bool) → HasSeen t q a stage found OfSync w → HasSeen later q a (stage_after stage) (found || has_bal blocks) Free v
      answered_seen Writes found is = absurd is
      answered_seen ReadsLow found is = (λ none. quiet_answer c from client above q a t 0 blocks (at 0 is.0) is.1 (neither found (has_bal blocks) none).1, tt)
      answered_seen ReadsHigh found is = λ none.
          let parts = neither found (has_bal blocks) none in
          record { low = is.0 parts.0; high = quiet_answer c from client above q a t 1 blocks (at 1 is.1.0) is.1.1 parts.1 }
      answered_seen Done found is = λ none. is (neither found (has_bal blocks) none).0

  -- Where nothing is found on a quorum

  as_part : AnchorLook → Part
  as_part look = record no_part { stage = look.stage }

  abbrev parts_of : Looks → List Part
  parts_of l = as_part l.look_0 ∷ as_part l.look_1 ∷ as_part l.look_2 ∷ []

  none_found : (stage : Stage) (found : Bool) → stage ≡ Done → (is_done stage && found) ≡ false → found ≡ false
  none_found Done found is none = none
  none_found Writes found is none = absurd (grind (arith, is))
  none_found ReadsLow found is none = absurd (grind (arith, is))
  none_found ReadsHigh found is none = absurd (grind (arith, is))

  quiet_at : (l : Looks) → have_found l ≡ false → (a : ℕ) → a < 3 → (part_at (parts_of l) a).stage ≡ Done → ((look_at l a).stage ≡ Done) × ((look_at l a).found ≡ false)
  unfolding as_part
  quiet_at l none zero low is = (is, none_found l.look_0.stage l.look_0.found is (neither (finds l.look_0) (finds l.look_1 || finds l.look_2) none).0)
  quiet_at l none (suc zero) low is =
      let rest = (neither (finds l.look_0) (finds l.look_1 || finds l.look_2) none).1 in
      (is, none_found l.look_1.stage l.look_1.found is (neither (finds l.look_1) (finds l.look_2) rest).0)
  quiet_at l none (suc (suc zero)) low is =
      let rest = (neither (finds l.look_0) (finds l.look_1 || finds l.look_2) none).1 in
      (is, none_found l.look_2.stage l.look_2.found is (neither (finds l.look_1) (finds l.look_2) rest).1)
  quiet_at l none (suc (suc (suc a))) low is = absurd (omega (arith, low))

  seen_all : (t q a : ℕ) (e : Errand) (w : Option Waiting) (stage : Stage) (found : Bool) → stage ≡ Done → found ≡ false → HasSeen t q a stage found e w → All q a
  seen_all t q a e w Done found done none is = is none
  seen_all t q a e w Writes found done none is = absurd is
  seen_all t q a e w ReadsLow found done none is = absurd (grind (arith, done))
  seen_all t q a e w ReadsHigh found done none is = absurd (grind (arith, done))

  pub quiet_sync : (quorum t : ℕ) (waits : ℕ → Option Waiting) (q : ℕ) (e : Errands) (l : Looks) → AreSeen t waits q e l → are_looked quorum l ≡ true → have_found l ≡ false → FindsNothingOver (anchors_in layout) quorum (past c q) from
  unfolding as_part
  quiet_sync quorum t waits q e l seen all none =
      let done = over_quorum 3 quorum (parts_of l) refl all in
      let used = done.all.used in
      let low_there : (place a : ℕ) → slice_get used place ≡ Some a → a < anchors_in layout = λ place a at.
      let few = done.all.is.low place a at in
      elim (cases_lt a (anchors_in layout)) [
        | inl low ↦ low
        | inr past ↦
            let read = (quiet_at l none a few (done.done a (record { place = place; at = at }))).0 in
            let unread = seen.past a past few in
            let both : ReadsLow ≡ Done = sym unread ∙ read in
            absurd (grind (arith, both))
      ] in record {
        used = used;
        is_quorum = record { apart = done.all.is.apart; many = done.all.is.many; low = low_there };
        each = λ place a at.
            let few = done.all.is.low place a at in
            let read = quiet_at l none a few (done.done a (record { place = place; at = at })) in
            seen_all t q a (errand_at e a) (waits a) (look_at l a).stage (look_at l a).found read.0 read.1 (seen.there a (low_there place a at));
      }
