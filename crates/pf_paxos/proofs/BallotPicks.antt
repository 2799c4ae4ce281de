-- Each value of phase 2 was picked by what phase 1 read on a quorum of the anchors.
use Rattle.std.proofs.Common.{◌≡◌, ℕ, zero, suc, ◌+◌, ◌<◌, ◌≤◌, ◌⊎◌, inl, inr, Bool, true, false, cond, ◌==◌, nat_lt, List, [], ◌∷◌, length, Some, slice_get, arith, refl, sym, ap, subst, ◌∙◌}
use Rattle.std.specs.Prelude.{unwrap_or}
use Rattle.std.proofs.lemmas.Bool.{cond-false, cond-true, eq-eqb, ne_eqb, ltb-true, ltb-false, leb-true}
use Rattle.std.proofs.lemmas.List.{length-set}
use Rattle.std.proofs.lemmas.Option.{same_Some}
use Rattle.pf_paxos.specs.declared.block.Block.{Block}
use Rattle.pf_paxos.specs.Blocks.{greatest_mbal}
use Rattle.pf_paxos.specs.Proposers.{value_of}
use Rattle.pf_paxos.specs.Registers.{Gives}
use Rattle.pf_paxos.specs.declared.parts.AnchorAsk.TheVariants.{Half}
use Rattle.pf_paxos.specs.declared.ballot.Phase.TheVariants.{Claiming}
use Rattle.pf_paxos.specs.declared.parts.Stage.{Stage}
use Rattle.pf_paxos.specs.declared.parts.Stage.TheVariants.{Writes, ReadsLow, ReadsHigh, Done}
use Rattle.pf_paxos.specs.declared.parts.Part.{Part}
use Rattle.pf_paxos.specs.Parts.{part_at, is_done, parts_done, best_with_done, best_done}
use Rattle.pf_paxos.specs.Ballots.{BallotIs, BallotOutcome, is_phase_over}
use Rattle.pf_paxos.specs.Quorums.{turn_on, AreAllRegisters, AreOtherAnchors}
use Rattle.pf_paxos.specs.BallotRuns.{Move, anchor_turn_answered}
use Rattle.pf_paxos.proofs.BallotMoments.{Run, past, state, Changes, changes}
use Rattle.pf_paxos.proofs.BallotSteps.{advanced_at, IsReading, Late, Aborts, Goes, Proposes, Lacks, Decides as DecidesNow, IsStep, ByStart, ByAsk, ByWritten, ByRead, is_step}
use Rattle.pf_paxos.proofs.BallotSteady.{own, IsSteady, steady_at, first_less, IsOver, over_at}
use Rattle.pf_paxos.proofs.BallotParts.{Kept, AllDone, kept_done}
use Rattle.pf_paxos.proofs.BallotKept.{turns, PartKept, AllKept, all_at, all_advanced}
use Rattle.pf_paxos.proofs.BallotSeen.{SeenLow, AllSeen, seen_at, all_seen}
use Rattle.pf_paxos.proofs.Quorums.{Gathers, Picks}
use Rattle.pf_paxos.proofs.QuorumLists.{Has, Quorum}

-- an anchor of a quorum
abbrev pub IsOf : (n q : ℕ) → Quorum n q → ℕ → Type 0
IsOf n q x a = Has x.used a

pub within : (n q : ℕ) (x : Quorum n q) (a : ℕ) → IsOf n q x a → a < n
within n q x a of = x.is.low of.place a of.at

done_is : (stage : Stage) → is_done stage ≡ true → stage ≡ Done
done_is Writes is = absurd (grind (arith, is))
done_is ReadsLow is = absurd (grind (arith, is))
done_is ReadsHigh is = absurd (grind (arith, is))
done_is Done is = refl

-- the anchors that have done their part, numbered from here on
abbrev done_from : ℕ → List Part → List ℕ
done_from k [] = []
done_from k (part ∷ parts) = cond (is_done part.stage) (k ∷ done_from (suc k) parts) (done_from (suc k) parts)

as_many : (k : ℕ) (parts : List Part) → length (done_from k parts) ≡ parts_done parts
as_many k [] = refl
as_many k (part ∷ parts) = by (as_many (suc k) parts) (is_done part.stage)
  where
    by : length (done_from (suc k) parts) ≡ parts_done parts → (b : Bool) → length (cond b (k ∷ done_from (suc k) parts) (done_from (suc k) parts)) ≡ cond b (suc (parts_done parts)) (parts_done parts)
    by rest true = ap suc rest
    by rest false = rest

-- one of them
record IsDoneAt (k : ℕ) (parts : List Part) (a : ℕ) : Type 0 where
  at : ℕ
  is : a ≡ k + at
  inside : at < length parts
  done : (part_at parts at).stage ≡ Done

done_later : (k : ℕ) (part : Part) (parts : List Part) (a : ℕ) → IsDoneAt (suc k) parts a → IsDoneAt k (part ∷ parts) a
done_later k part parts a d = record { at = suc d.at; is = omega (arith, d.is); inside = omega (arith, d.inside); done = d.done }

done_at : (k : ℕ) (parts : List Part) (place a : ℕ) → slice_get (done_from k parts) place ≡ Some a → IsDoneAt k parts a
done_at k [] place a at = absurd (grind (arith, at))
done_at k (part ∷ parts) place a at = by (λ place at. done_at (suc k) parts place a at) (is_done part.stage) refl place at
  where
    by : ((place : ℕ) → slice_get (done_from (suc k) parts) place ≡ Some a → IsDoneAt (suc k) parts a) → (b : Bool) → is_done part.stage ≡ b → (place : ℕ) → slice_get (cond b (k ∷ done_from (suc k) parts) (done_from (suc k) parts)) place ≡ Some a → IsDoneAt k (part ∷ parts) a
    by rest true is zero same = record { at = 0; is = omega (arith, same_Some _ _ same); inside = omega arith; done = done_is part.stage is }
    by rest true is (suc place) same = done_later k part parts a (rest place same)
    by rest false is place same = done_later k part parts a (rest place same)

done_apart : (k : ℕ) (parts : List Part) → AreOtherAnchors (done_from k parts)
done_apart k [] i j a at other = absurd (grind (arith, at))
done_apart k (part ∷ parts) i j a at other = by (done_apart (suc k) parts) (is_done part.stage) i j at other
  where
    by : AreOtherAnchors (done_from (suc k) parts) → (b : Bool) (i j : ℕ) → slice_get (cond b (k ∷ done_from (suc k) parts) (done_from (suc k) parts)) i ≡ Some a → slice_get (cond b (k ∷ done_from (suc k) parts) (done_from (suc k) parts)) j ≡ Some a → i ≡ j
    by rest true zero zero x y = refl
    by rest true zero (suc j) x y = let d = done_at (suc k) parts j a y in absurd (omega (arith, same_Some _ _ x, d.is))
    by rest true (suc i) zero x y = let d = done_at (suc k) parts i a x in absurd (omega (arith, same_Some _ _ y, d.is))
    by rest true (suc i) (suc j) x y = ap suc (rest i j a x y)
    by rest false i j x y = rest i j a x y

-- a quorum of them
pub record QuorumDone (n q : ℕ) (parts : List Part) : Type 0 where
  pub all : Quorum n q
  pub done : (a : ℕ) → IsOf n q all a → (part_at parts a).stage ≡ Done

pub over_quorum : (n q : ℕ) (parts : List Part) → length parts ≡ n → is_phase_over q parts ≡ true → QuorumDone n q parts
over_quorum n q parts count over = record {
  all = record {
    used = done_from 0 parts;
    is = record {
      apart = done_apart 0 parts;
      many = let many = as_many 0 parts in let least = leb-true q (parts_done parts) over in omega (arith, many, least);
      low = λ place a at. let d = done_at 0 parts place a at in omega (arith, d.is, d.inside, count);
    };
  };
  done = λ a of. let d = done_at 0 parts of.place a of.at in let is : a ≡ d.at = omega (arith, d.is) in subst (λ k. (part_at parts k).stage ≡ Done) (sym is) d.done;
}

-- the best of those that are done
pub record IsWithDone (best : Block) (part : Part) (r : Block) : Type 0 where
  pub not_below : best.bal ≤ r.bal
  pub covers : part.stage ≡ Done → part.best.bal ≤ r.bal
  pub one : (r ≡ best) ⊎ (r ≡ part.best)

with_done_is : (best : Block) (part : Part) → IsWithDone best part (best_with_done best part)
with_done_is best part = by (is_done part.stage) refl (nat_lt best.bal part.best.bal) refl
  where
    by : (x : Bool) → is_done part.stage ≡ x → (y : Bool) → nat_lt best.bal part.best.bal ≡ y → IsWithDone best part (cond x (cond y part.best best) best)
    by true dx true less = let l = ltb-true best.bal part.best.bal less in record { not_below = omega (arith, l); covers = λ _. omega arith; one = inr refl }
    by true dx false less = let l = ltb-false best.bal part.best.bal less in record { not_below = omega arith; covers = λ _. l; one = inl refl }
    by false dx y less = record { not_below = omega arith; covers = λ is. absurd (grind (arith, sym dx ∙ ap is_done is)); one = inl refl }

pub record IsBestDone (parts : List Part) (mine r : Block) : Type 0 where
  pub not_below : mine.bal ≤ r.bal
  pub covers : (a : ℕ) → (part_at parts a).stage ≡ Done → (part_at parts a).best.bal ≤ r.bal
  pub one : (r ≡ mine) ⊎ ((a : ℕ) × (r ≡ (part_at parts a).best))

pub best_done_is : (parts : List Part) (mine : Block) → IsBestDone parts mine (best_done parts mine)
best_done_is [] mine = record { not_below = omega arith; covers = λ a is. absurd (grind (arith, is)); one = inl refl }
best_done_is (part ∷ parts) mine =
    let x = with_done_is mine part in
    let y = best_done_is parts (best_with_done mine part) in
    record {
      not_below = omega (arith, x.not_below, y.not_below);
      covers = λ a is. covers_at a x y is;
      one = elim y.one [
        | inr there ↦ inr (suc there.0, there.1)
        | inl same ↦ elim x.one [
          | inr here ↦ inr (0, same ∙ here)
          | inl mine_is ↦ inl (same ∙ mine_is)
        ]
      ];
    }
  where
    covers_at : (a : ℕ) → IsWithDone mine part (best_with_done mine part) → IsBestDone parts (best_with_done mine part) (best_done (part ∷ parts) mine) → (part_at (part ∷ parts) a).stage ≡ Done → (part_at (part ∷ parts) a).best.bal ≤ (best_done (part ∷ parts) mine).bal
    covers_at zero x y is = omega (arith, x.covers is, y.not_below)
    covers_at (suc a) x y is = y.covers a is

module _ (es : Run) where
  -- how a ballot's value was picked: where phase 1 saw none, it is the own input
  pub record PicksBy (m ballot : ℕ) (value : List ℕ) : Type 0 where
    pub picks : Picks (turns es) (own es) (Quorum es.anchors es.quorum) (IsOf es.anchors es.quorum) m ballot value
    pub otherwise : (own es picks.picked.best picks.picked.at).bal ≡ 0 → value ≡ unwrap_or (state es m picks.picked.moment).input []

  abbrev pub PicksIfAny : ℕ → Block → Type 0
  PicksIfAny m b = 0 < b.bal → PicksBy m b.bal b.value

  -- a part that is done says what was read
  pub part_done : (m a t : ℕ) (mine : Block) (part : Part) → part.stage ≡ Done → PartKept es m a t mine part → AllDone (turns es a) m t mine part.best.bal
  part_done m a t mine part is k = kept_done (turns es a) m t mine part.best.bal part.is_late part.asked (subst (λ s. Kept (turns es a) m part.is_late s part.asked t mine part.best.bal) is k.kept)

  gathers_done : (m a t best : ℕ) (mine : Block) (part : Part) → part.best.bal ≤ best → AllDone (turns es a) m t mine part.best.bal → Gathers (turns es) (own es) m mine.mbal best a
  gathers_done m a t best mine part le d = record {
    claimed = record { asked = d.wrote.asked; answered = d.wrote.answered; block = mine; wrote = d.wrote.wrote; is = refl };
    low = record { asked = d.low.asked; answered = d.low.answered; blocks = d.low.blocks; read = d.low.read; after = d.low.after; not_above = λ k b at. omega (arith, d.low.not_above k b at, le) };
    high = record { asked = d.high.asked; answered = d.high.answered; blocks = d.high.blocks; read = d.high.read; after = d.high.after; not_above = λ k b at. omega (arith, d.high.not_above k b at, le) };
  }

  module _ (registers : AreAllRegisters es.anchors (past es)) (m t : ℕ) (lm : m < 16) (p : BallotIs) (there : state es m t ≡ p) (steady : IsSteady m p) (kept : AllKept es m t p) (over : IsOver es p) (seen : AllSeen es t p) where
    here : own es m t ≡ p.own
    here = ap (λ (q : BallotIs). q.own) there

    module _ (a : ℕ) (la : a < length p.parts) (half : ℕ) (is : (part_at p.parts a).asked ≡ Half half) (blocks : List Block) (on_time : (part_at p.parts a).is_late ≡ false) (none : greatest_mbal blocks ≤ p.own.mbal) (now : (b : ℕ) → slice_get (turns es b) t ≡ Some (turn_on b (anchor_turn_answered m a (Gives blocks)))) where
      abbrev q : BallotIs
      q = advanced_at p a blocks

      abbrev best : Block
      best = best_done q.parts p.own

      seen_best : SeenLow es t p.own.mbal best
      seen_best = elim (best_done_is q.parts p.own).one [
        | inl same ↦ record {
          seen = record { mount = m; is_mount = lm; at = t; earlier = omega arith; bal = ap (λ (b : Block). b.bal) (same ∙ sym here); value = ap (λ (b : Block). b.value) (same ∙ sym here) };
          low = omega (arith, ap (λ (b : Block). b.bal) same, steady.low);
        }
        | inr x ↦ subst (SeenLow es t p.own.mbal) (sym x.1) (all_seen es m t lm p seen registers kept over a la half is blocks on_time none now x.0)
      ]

      pub picked_now : is_phase_over p.quorum q.parts ≡ true → p.phase ≡ Claiming → PicksBy m p.own.mbal (value_of best p.input)
      picked_now ends first =
          let done = over_quorum es.anchors es.quorum q.parts (length-set p.parts a _ ∙ over.count) (subst (λ k. is_phase_over k q.parts ≡ true) over.quorum ends) in
          let s = seen_best in
          let less = first_less m lm p steady first in
          record {
            picks = record {
              picked = record {
                moment = t;
                before = omega (arith, less, ap (λ (b : Block). b.bal) here);
                best = s.seen.mount;
                is_mount = s.seen.is_mount;
                at = s.seen.at;
                earlier = s.seen.earlier;
                not_above = omega (arith, s.low, s.seen.bal);
                takes = λ some. cond-false (best.bal == 0) (unwrap_or p.input []) best.value (ne_eqb best.bal 0 (λ e. absurd (omega (arith, e, some, s.seen.bal)))) ∙ s.seen.value;
              };
              quorum = done.all;
              gathers = λ b of.
                  let k = all_advanced es m t lm p kept a la half is blocks on_time none now b in
                  let covers = (best_done_is q.parts p.own).covers b (done.done b of) in
                  gathers_done m b (suc t) (own es s.seen.mount s.seen.at).bal p.own (part_at q.parts b) (omega (arith, covers, s.seen.bal)) (part_done m b (suc t) p.own (part_at q.parts b) (done.done b of) k);
            };
            otherwise = λ none_seen.
                cond-true (best.bal == 0) (unwrap_or p.input []) best.value (eq-eqb best.bal 0 (omega (arith, none_seen, s.seen.bal)))
                ∙ ap (λ (x : BallotIs). unwrap_or x.input []) (sym there);
          }

    picks_read : PicksIfAny m p.own → (a : ℕ) → a < length p.parts → (half : ℕ) → (part_at p.parts a).asked ≡ Half half → (blocks : List Block) → ((b : ℕ) → slice_get (turns es b) t ≡ Some (turn_on b (anchor_turn_answered m a (Gives blocks)))) → (o : BallotOutcome) → IsReading p a blocks o → PicksIfAny m o.ballot.own
    picks_read k a la half is blocks now o (Late late) = k
    picks_read k a la half is blocks now o (Aborts on_time) = k
    picks_read k a la half is blocks now o (Goes on_time none) = k
    picks_read k a la half is blocks now o (Proposes on_time none ends first) = λ _. picked_now a la half is blocks on_time none now ends first
    picks_read k a la half is blocks now o (Lacks on_time) = k
    picks_read k a la half is blocks now o (DecidesNow on_time none ends second) = k

    pub picks_next : PicksIfAny m p.own → (move : Move) → IsStep m p move → ((b : ℕ) → slice_get (turns es b) t ≡ Some (turn_on b move.turn)) → PicksIfAny m move.ballot.own
    picks_next k move (ByStart above input) now = k
    picks_next k move (ByAsk a la) now = k
    picks_next k move (ByWritten a la is) now = k
    picks_next k move (ByRead a la half is blocks o reading) now = picks_read k a la half is blocks now o reading

  module _ (registers : AreAllRegisters es.anchors (past es)) where
    picks_then : (m t : ℕ) → m < 16 → PicksIfAny m (own es m t) → Changes es m t → PicksIfAny m (own es m (suc t))
    picks_then m t lm k (inl stays) = subst (λ (q : BallotIs). PicksIfAny m q.own) (sym stays.same) k
    picks_then m t lm k (inr mv) = subst (λ (q : BallotIs). PicksIfAny m q.own) (sym mv.becomes) (picks_next registers m t lm (state es m t) refl (steady_at es m t lm) (all_at es m t lm) (over_at es m t lm) (seen_at es registers m t lm) k mv.move (is_step m (state es m t) mv.call mv.move mv.is) mv.turn)

    pub picks_at : (m t : ℕ) → m < 16 → PicksIfAny m (own es m t)
    picks_at m zero lm = λ some. absurd (omega (arith, some))
    picks_at m (suc t) lm = picks_then m t lm (picks_at m t lm) (changes es m t lm)
