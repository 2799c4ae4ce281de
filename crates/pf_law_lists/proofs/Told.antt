-- Where a ballot needs all anchors, what decides is told: each part of its second phase was done in time, unless a read found a greater mbal,
-- and then no later read of that half finds none.
use Rattle.std.proofs.Common.{◌≡◌, ◌≢◌, ℕ, zero, suc, ◌<◌, ◌≤◌, ◌⊎◌, inl, inr, ◌==◌, Bool, true, false, cond, List, [], ◌∷◌, length, Option, Some, None, slice_get, arith, refl, sym, ap, subst, ◌∙◌}
use Rattle.std.proofs.lemmas.Bool.{cases_eq, cases_lt, leb-false}
use Rattle.std.proofs.lemmas.List.{length-set}
use Rattle.std.proofs.lemmas.Option.{none-some, same_Some, slice_get_past, slice_get_within}
use Rattle.pf_paxos.specs.declared.block.Block.{Block}
use Rattle.pf_paxos.specs.Blocks.{greatest_mbal}
use Rattle.pf_paxos.specs.Registers.{AreRegisters, AsksRead, Gives, ClientHasRead, Reply, Turn, Written, member}
use Rattle.pf_paxos.specs.Runs.{idle_turn}
use Rattle.pf_paxos.specs.Deciding.{FindsNoneAbove}
use Rattle.pf_paxos.specs.declared.parts.AnchorAsk.TheVariants.{OwnBlock, Half}
use Rattle.pf_paxos.specs.declared.parts.AnchorNext.{AnchorNext}
use Rattle.pf_paxos.specs.declared.parts.AnchorNext.TheVariants.{Write, Read, Idle}
use Rattle.pf_paxos.specs.declared.parts.Part.{Part}
use Rattle.pf_paxos.specs.declared.parts.Stage.{Stage}
use Rattle.pf_paxos.specs.declared.parts.Stage.TheVariants.{Writes, ReadsLow, ReadsHigh, Done}
use Rattle.pf_paxos.specs.declared.ballot.BallotStep.TheVariants.{Decided, NoValue}
use Rattle.pf_paxos.specs.declared.ballot.Phase.{Phase}
use Rattle.pf_paxos.specs.declared.ballot.Phase.TheVariants.{Resting, Claiming, Proposing}
use Rattle.pf_paxos.specs.Parts.{part_advanced, phase_begun, best_done, parts_done, part_freed, is_done, next_where, part_at, part_takes, with_part, part_written}
use Rattle.pf_paxos.specs.Ballots.{BallotIs, BallotOutcome, chosen, ballot_ended, is_phase_over, next_in_phase, next_at_anchor, phase_ended, ballot_proposed}
use Rattle.pf_paxos.specs.Quorums.{turn_on}
use Rattle.pf_paxos.specs.BallotRuns.{At, BallotCall, Calls, Move, Starts, move_in, ballots_opening, anchor_turn_answered, turn_asking}
use Rattle.pf_paxos.proofs.ProposerAgreement.{Grows, bal_grows}
use Rattle.pf_paxos.proofs.ClientAsks.{answered_now}
use Rattle.pf_paxos.proofs.BallotForms.{at_all}
use Rattle.pf_paxos.proofs.BallotKept.{all_at, here_turn, kept_in_time, one_changed, turns}
use Rattle.pf_paxos.proofs.BallotMoments.{Changes, Moves, Run, changes, past, state, turn_past}
use Rattle.pf_paxos.proofs.BallotParts.{Kept}
use Rattle.pf_paxos.proofs.BallotSteady.{lags_at, over_at, own, own_grows, there, there_grows}
use Rattle.pf_paxos.proofs.BallotSteps.{advanced_at, freed_at}
use Rattle.pf_paxos.proofs.CrossingPhases.{written_block}
use Rattle.pf_law_lists.proofs.AwaitedParts.{AtStage, Behind, Seen, asked_behind, asks_elsewhere, elsewhere_is, late_behind, quiet_behind, read_behind, written_behind}
use Rattle.pf_law_lists.proofs.MountMoves.{ActsAs, AsksAt, EndsPhase, GoesOn, IsLate, IsOutrun, ReadAt, ReadsAs, WrittenAt, acts_as}

-- a read finds a greater mbal somewhere
greater_at : (blocks : List Block) (b : ℕ) → b < greatest_mbal blocks → (k : ℕ) × (x : Block) × (slice_get blocks k ≡ Some x) × (b < x.mbal)
greater_at [] b more = absurd (omega (arith, more))
greater_at (x ∷ xs) b more = elim (cases_lt b x.mbal) [
  | inl here ↦ (0, x, refl, here)
  | inr not_here ↦ let rest = greater_at xs b (omega (arith, more, not_here)) in (suc rest.0, rest.1, rest.2, rest.3)
]

-- some part is not done, where not so many are as there are parts
open_part : (parts : List Part) → parts_done parts < length parts → (a : ℕ) × (a < length parts) × ((part_at parts a).stage ≢ Done)
open_part [] less = absurd (omega (arith, less))
open_part (part ∷ parts) less = by (λ more. open_part parts more) part.stage refl
  where
    later : (parts_done parts < length parts → (a : ℕ) × (a < length parts) × ((part_at parts a).stage ≢ Done)) → parts_done parts < length parts → (a : ℕ) × (a < length (part ∷ parts)) × ((part_at (part ∷ parts) a).stage ≢ Done)
    later of more = let rest = of more in (suc rest.0, omega (arith, rest.1), rest.2)

    by : (parts_done parts < length parts → (a : ℕ) × (a < length parts) × ((part_at parts a).stage ≢ Done)) → (stage : Stage) → part.stage ≡ stage → (a : ℕ) × (a < length (part ∷ parts)) × ((part_at (part ∷ parts) a).stage ≢ Done)
    by of Writes is = (0, omega arith, λ e. absurd (grind (arith, sym is ∙ e)))
    by of ReadsLow is = (0, omega arith, λ e. absurd (grind (arith, sym is ∙ e)))
    by of ReadsHigh is = (0, omega arith, λ e. absurd (grind (arith, sym is ∙ e)))
    by of Done is = later of (subst (λ (s : Stage). cond (is_done s) (suc (parts_done parts)) (parts_done parts) < suc (length parts) → parts_done parts < length parts) (sym is) (λ le. omega (arith, le)) less)

-- the phase's end in a step of a mount
pub record Tells (es : Run) (m : ℕ) (v : List ℕ) : Type 0 where
  pub moment : ℕ
  pub call : BallotCall
  pub event : slice_get es.events moment ≡ Some (Calls m call)
  pub move : Move
  pub is : move_in m (state es m moment) call ≡ Some move
  pub tells : move.step ≡ Decided v
  pub anchor : ℕ
  pub turn : Turn
  pub at : slice_get (turns es anchor) moment ≡ Some turn
  pub its : turn.client ≡ m

-- What comes of the end of a phase

ended_phase : (ph : Phase) (q : BallotIs) → ((phase_ended ph q).ballot.own ≡ q.own) ⊎ ((best : Block) × (phase_ended ph q ≡ ballot_proposed q best))
ended_phase Resting q = inl refl
ended_phase Proposing q = inl refl
ended_phase Claiming q = by q.input
  where
    by : (input : Option (List ℕ)) → ((chosen input q (best_done q.parts q.own)).ballot.own ≡ q.own) ⊎ ((best : Block) × (chosen input q (best_done q.parts q.own) ≡ ballot_proposed q best))
    by (Some value) = inr (best_done q.parts q.own, refl)
    by None = of ((best_done q.parts q.own).bal == 0)
      where
        of : (c : Bool) → (let o : BallotOutcome = cond c (ballot_ended q NoValue) (ballot_proposed q (best_done q.parts q.own)) in (o.ballot.own ≡ q.own) ⊎ ((best : Block) × (o ≡ ballot_proposed q best)))
        of true = inl refl
        of false = inr (best_done q.parts q.own, refl)

same_stage : (part : Part) (n : AnchorNext) → part.stage ≢ Done → (part_takes part n).stage ≢ Done
same_stage part (Write x) undone = undone
same_stage part (Read half) undone = undone
same_stage part Idle undone = undone

written_open : (part : Part) → part.stage ≢ Done → (part_written part).stage ≢ Done
written_open part undone = by part.is_late
  where
    by : (c : Bool) → (let q : Part = cond c (part_freed part) (record (part_freed part) { stage = ReadsLow }) in q.stage) ≢ Done
    by true = undone
    by false = λ e. absurd (grind (arith, e))

same_blocks : {x y : List Block} → Some (Gives x) ≡ Some (Gives y) → x ≡ y
same_blocks e = cc

module _ (es : Run) (m : ℕ) (lm : m < 16) (b : ℕ) (ballot : 0 < b) (v : List ℕ) (all : es.quorum ≡ es.anchors) (some : 0 < es.anchors)
    (registers : (a : ℕ) → a < es.anchors → AreRegisters (turns es a))
    (of : (a : ℕ) → a < es.anchors → Seen (turns es a) m b v)
    (at_rest : (t above : ℕ) (input : Option (List ℕ)) → slice_get es.events t ≡ Some (Calls m (Starts above input)) → (state es m t).phase ≡ Resting) where
  abbrev p : ℕ → BallotIs
  p t = state es m t

  count : (t : ℕ) → length (p t).parts ≡ es.anchors
  count t = (over_at es m t lm).count

  -- some part is not done
  abbrev IsOpen : List Part → Type 0
  IsOpen parts = (a : ℕ) × (a < es.anchors) × ((part_at parts a).stage ≢ Done)

  -- in the second phase of the ballot
  record IsIn (q : BallotIs) (t : ℕ) : Type 0 where
    phase : q.phase ≡ Proposing
    mbal : q.own.mbal ≡ b
    value : q.own.value ≡ v
    parts : (a : ℕ) (la : a < es.anchors) → Behind es m b v a (of a la) t (part_at q.parts a)
    undone : IsOpen q.parts

  open_with : (parts : List Part) (a : ℕ) → a < length parts → (part : Part) → ((part_at parts a).stage ≢ Done → part.stage ≢ Done) → IsOpen parts → IsOpen (with_part parts a part)
  open_with parts a la part same undone =
      (undone.0, undone.1, one_changed (λ c x. c ≡ undone.0 → x.stage ≢ Done) parts a la part (λ e. same (subst (λ c. (part_at parts c).stage ≢ Done) (sym e) undone.2)) (λ c apart e. subst (λ i. (part_at parts i).stage ≢ Done) (sym e) undone.2) undone.0 refl)

  module _ (t : ℕ) (x : IsIn (p t) t) where
    -- what is there at the moment
    is_there : (c : ℕ) (y z : Turn) → slice_get (turns es c) t ≡ Some y → slice_get (turns es c) t ≡ Some z → z ≡ idle_turn → y.client ≢ m
    is_there c y z at now idle e = absurd (omega (arith, lm, e, ap (λ (w : Turn). w.client) (same_Some _ _ (sym at ∙ now) ∙ idle)))

    -- one part changes
    one_behind : (a : ℕ) → a < length (p t).parts → (part : Part) → ((la : a < es.anchors) → Behind es m b v a (of a la) (suc t) part) → ((c : ℕ) → a ≢ c → (y : Turn) → slice_get (turns es c) t ≡ Some y → y.client ≢ m)
        → (c : ℕ) (lc : c < es.anchors) → Behind es m b v c (of c lc) (suc t) (part_at (with_part (p t).parts a part) c)
    one_behind a la part new quiet =
        one_changed (λ c y. (lc : c < es.anchors) → Behind es m b v c (of c lc) (suc t) y) (p t).parts a la part new
        (λ c apart lc. quiet_behind es m b v c (of c lc) t (quiet c apart) (part_at (p t).parts c) (x.parts c lc))

    module _ (a : ℕ) (la : a < length (p t).parts) where
      abbrev part : Part
      part = part_at (p t).parts a

      next_is : next_at_anchor (p t) a ≡ next_where part.asked part.stage (p t).own
      next_is = ap (λ ph. next_in_phase ph part (p t).own) x.phase

      asks_on : ((c : ℕ) → slice_get (turns es c) t ≡ Some (turn_on c (turn_asking m a (next_at_anchor (p t) a)))) → IsIn (record (p t) { parts = with_part (p t).parts a (part_takes part (next_at_anchor (p t) a)) }) (suc t)
      asks_on now = record {
        phase = x.phase;
        mbal = x.mbal;
        value = x.value;
        parts = one_behind a la (part_takes part (next_at_anchor (p t) a))
            (λ lc. subst (λ n. Behind es m b v a (of a lc) (suc t) (part_takes part n)) (sym next_is)
            (asked_behind es m b v a (of a lc) t part (p t).own (now a ∙ ap (λ n. Some (turn_on a (turn_asking m a n))) next_is) (x.parts a lc)))
            (λ c apart y at. is_there c y _ at (now c) (asks_elsewhere m a c (next_at_anchor (p t) a) apart));
        undone = open_with (p t).parts a la (part_takes part (next_at_anchor (p t) a)) (same_stage part (next_at_anchor (p t) a)) x.undone;
      }

      module _ (reply : Reply) (now : (c : ℕ) → slice_get (turns es c) t ≡ Some (turn_on c (anchor_turn_answered m a reply))) where
        quiet_else : (c : ℕ) → a ≢ c → (y : Turn) → slice_get (turns es c) t ≡ Some y → y.client ≢ m
        quiet_else c apart y at = is_there c y _ at (now c) (elsewhere_is a c _ apart)

        written_on : part.asked ≡ OwnBlock → IsIn (record (p t) { parts = with_part (p t).parts a (part_written part) }) (suc t)
        written_on is = record {
          phase = x.phase;
          mbal = x.mbal;
          value = x.value;
          parts = one_behind a la (part_written part) (λ lc. written_behind es m b v a (of a lc) t part reply (now a) (x.parts a lc) is (p t).own (all_at es m t lm a)) quiet_else;
          undone = open_with (p t).parts a la (part_written part) (written_open part) x.undone;
        }

        late_on : part.is_late ≡ true → IsIn (freed_at (p t) a) (suc t)
        late_on late = record {
          phase = x.phase;
          mbal = x.mbal;
          value = x.value;
          parts = one_behind a la (part_freed part) (λ lc. late_behind es m b v a (of a lc) t part reply (now a) (x.parts a lc) late) quiet_else;
          undone = open_with (p t).parts a la (part_freed part) (λ undone. undone) x.undone;
        }

      module _ (half : ℕ) (is : part.asked ≡ Half half) (blocks : List Block) (on_time : part.is_late ≡ false) (now : (c : ℕ) → slice_get (turns es c) t ≡ Some (turn_on c (anchor_turn_answered m a (Gives blocks)))) where
        kept : Kept (turns es a) m false part.stage (Half half) t (p t).own part.best.bal
        kept = kept_in_time es m t lm (p t) (all_at es m t lm) a la half is blocks on_time

        read_on : is_phase_over (p t).quorum (advanced_at (p t) a blocks).parts ≡ false → IsIn (advanced_at (p t) a blocks) (suc t)
        read_on few = record {
          phase = x.phase;
          mbal = x.mbal;
          value = x.value;
          parts = one_behind a la (part_advanced part blocks) (λ lc. read_behind es m b v a (of a lc) t part (Gives blocks) (now a) (x.parts a lc) half blocks part.stage refl on_time (p t).own kept) (quiet_else (Gives blocks) now);
          undone =
              let parts = (advanced_at (p t) a blocks).parts in
              let long : length parts ≡ es.anchors = length-set (p t).parts a _ ∙ count t in
              let less = leb-false (p t).quorum (parts_done parts) few in
              let quorum = (over_at es m t lm).quorum in
              let it = open_part parts (omega (arith, less, long, quorum, all)) in
              (it.0, omega (arith, it.1, long), it.2);
        }

        -- a greater mbal, which no later read of the half misses
        module _ (la' : a < es.anchors) (more : b < greatest_mbal blocks) where
          misses : (h last : ℕ) → h < 2 → ClientHasRead (turns es a) m h last t blocks → (from : ℕ) (f : FindsNoneAbove (turns es a) m h from b) → t ≤ f.answered → ⊥
          misses h last low r from f le = elim (cases_lt f.asked t) [
            | inr past ↦
                let g = greater_at blocks b more in
                let reg = registers a la' in
                let inside : g.0 < 8 = omega (arith, slice_get_within blocks g.0 g.1 g.2, reg.whole m h last t blocks r) in
                let k = member h g.0 in
                let rises = reg.rising m h f.asked f.answered g.0 f.blocks f.read inside m last t blocks r past in
                let was = same_Some _ _ (sym g.2 ∙ reg.gives m h last t g.0 blocks r inside) in
                let grown = (there_grows es a k (reg.seen t k) (reg.seen f.answered k) (omega (arith, inside, low)) rises).mbal in
                let none = f.none_above g.0 _ (reg.gives m h f.asked f.answered g.0 f.blocks f.read inside) in
                absurd (omega (arith, g.3, ap (λ (y : Block). y.mbal) was, grown, none))
            | inl before ↦ elim (cases_lt f.asked last) [
              | inl less ↦ absurd (f.read.no_other last r.turn less (omega (arith, r.later, le)) r.at r.its)
              | inr not_less ↦ elim (cases_lt last f.asked) [
                | inl between ↦ absurd (r.no_other f.asked f.read.turn between before f.read.at f.read.its)
                | inr not_between ↦ elim (cases_lt t f.answered) [
                  | inl early ↦ absurd (f.read.no_other t r.next before early r.at_next r.its_next)
                  | inr at_once ↦
                      let same : f.answered ≡ t = omega (arith, le, at_once) in
                      let next = same_Some _ _ (sym r.at_next ∙ subst (λ i. slice_get (turns es a) i ≡ Some f.read.next) same f.read.at_next) in
                      let blocks_are : blocks ≡ f.blocks = same_blocks (sym r.gives ∙ ap (λ (y : Turn). y.reply) next ∙ f.read.gives) in
                      let g = greater_at blocks b more in
                      let none = f.none_above g.0 g.1 (subst (λ bs. slice_get bs g.0 ≡ Some g.1) blocks_are g.2) in
                      absurd (omega (arith, g.3, none))
                ]
              ]
            ]
          ]

          outrun : (stage : Stage) → part.stage ≡ stage → Kept (turns es a) m false stage (Half half) t (p t).own part.best.bal → ⊥
          outrun Writes same k = k
          outrun Done same k = k
          outrun ReadsLow same k =
              let d = of a la' in
              let r = answered_now (turns es a) m t _ (AsksRead half) (Gives blocks) k.asked (now a ∙ ap (λ (y : Turn). Some y) (here_turn a _)) refl refl in
              misses 0 k.asked.last (omega arith) (subst (λ h. ClientHasRead (turns es a) m h k.asked.last t blocks) k.is r) d.answered d.low (elim (cases_lt d.asked t) [
                | inl phase_begun ↦ (subst (λ s. AtStage es m b v a d s t) same (x.parts a la' phase_begun).1).0
                | inr not_begun ↦ let w = d.wrote.later in let l = d.low.read.later in let f = d.low.after in omega (arith, not_begun, w, l, f)
              ])
          outrun ReadsHigh same k =
              let d = of a la' in
              let r = answered_now (turns es a) m t _ (AsksRead half) (Gives blocks) k.asked (now a ∙ ap (λ (y : Turn). Some y) (here_turn a _)) refl refl in
              misses 1 k.asked.last (omega arith) (subst (λ h. ClientHasRead (turns es a) m h k.asked.last t blocks) k.is r) d.answered d.high (elim (cases_lt d.asked t) [
                | inl phase_begun ↦ subst (λ s. AtStage es m b v a d s t) same (x.parts a la' phase_begun).1
                | inr not_begun ↦ let w = d.wrote.later in let l = d.high.read.later in let f = d.high.after in omega (arith, not_begun, w, l, f)
              ])

      read_acts : (half : ℕ) → part.asked ≡ Half half → (blocks : List Block) → ((c : ℕ) → slice_get (turns es c) t ≡ Some (turn_on c (anchor_turn_answered m a (Gives blocks)))) → (o : BallotOutcome) → ReadsAs (p t) a blocks o → (o.step ≡ Decided v → Tells es m v) → IsIn o.ballot (suc t) ⊎ Tells es m v
      read_acts half is blocks now o (IsLate late) tells = inl (late_on (Gives blocks) now late)
      read_acts half is blocks now o (IsOutrun time more) tells = absurd (outrun half is blocks time now (omega (arith, la, count t)) (let mbal = x.mbal in omega (arith, more, mbal)) part.stage refl (kept half is blocks time now))
      read_acts half is blocks now o (GoesOn time few) tells = inl (read_on half is blocks time now few)
      read_acts half is blocks now o (EndsPhase time) tells = inr (tells (ap (λ ph. (phase_ended ph (advanced_at (p t) a blocks)).step) x.phase ∙ ap (λ w. Decided w) x.value))

    acts : (call : BallotCall) → slice_get es.events t ≡ Some (Calls m call) → (move : Move) → move_in m (p t) call ≡ Some move → ((c : ℕ) → slice_get (turns es c) t ≡ Some (turn_on c move.turn)) → ActsAs m (p t) move → IsIn move.ballot (suc t) ⊎ Tells es m v
    acts call event move is now (AsksAt a la) = inl (asks_on a la now)
    acts call event move is now (WrittenAt a la asked) = inl (written_on a la Written now asked)
    acts call event move is now (ReadAt a la half asked blocks o reading) = read_acts a la half asked blocks now o reading (λ tells. record {
      moment = t;
      call = call;
      event = event;
      move = move;
      is = is;
      tells = tells;
      anchor = a;
      turn = record { client = m; reply = Some (Gives blocks); ask = None };
      at = now a ∙ ap (λ (y : Turn). Some y) (here_turn a _);
      its = refl;
    })

    moved : (mv : Moves es m t) → (call : BallotCall) → mv.call ≡ call → IsIn mv.move.ballot (suc t) ⊎ Tells es m v
    moved mv (Starts above input) is = absurd (grind (arith, sym (at_rest t above input (mv.event ∙ ap (λ c. Some (Calls m c)) is)) ∙ x.phase))
    moved mv (At a act) is = acts mv.call mv.event mv.move mv.is mv.turn (acts_as m (p t) a act mv.move (ap (move_in m (p t)) (sym is) ∙ mv.is))

    in_next : Changes es m t → IsIn (p (suc t)) (suc t) ⊎ Tells es m v
    in_next (inl stays) = inl (subst (λ (q : BallotIs). IsIn q (suc t)) (sym stays.same) (record {
      phase = x.phase;
      mbal = x.mbal;
      value = x.value;
      parts = λ a la. quiet_behind es m b v a (of a la) t (stays.quiet a) (part_at (p t).parts a) (x.parts a la);
      undone = x.undone;
    }))
    in_next (inr mv) = elim (moved mv mv.call refl) [
      | inl there ↦ inl (subst (λ (q : BallotIs). IsIn q (suc t)) (sym mv.becomes) there)
      | inr tells ↦ inr tells
    ]

  -- Before it

  -- what decides was the own block at some moment
  record WasOwn (a : ℕ) (la : a < es.anchors) : Type 0 where
    at : ℕ
    soon : at ≤ suc (of a la).asked
    is : own es m at ≡ record { mbal = b; bal = b; value = v }

  was_own : (a : ℕ) (la : a < es.anchors) → WasOwn a la
  was_own a la =
      let d = of a la in
      let l = lags_at es a m (suc d.asked) lm in
      record { at = l.at; soon = l.earlier; is = sym l.is ∙ written_block (turns es a) m d.asked d.answered _ d.wrote }

  module _ (t : ℕ) (before : (own es m t).bal < b) where
    -- at a later one
    not_then : (a : ℕ) (la : a < es.anchors) → t < (was_own a la).at
    not_then a la = elim (cases_lt t (was_own a la).at) [
      | inl past ↦ past
      | inr not_past ↦
          let w = was_own a la in
          let grown = bal_grows _ _ (own_grows es m w.at t lm not_past) in
          absurd (omega (arith, before, grown, ap (λ (y : Block). y.bal) w.is))
    ]

    not_asked : (a : ℕ) (la : a < es.anchors) → ((y : Turn) → slice_get (turns es a) t ≡ Some y → y.ask ≡ None) → (of a la).asked < suc t → ⊥
    not_asked a la none less = elim (cases_eq t (of a la).asked) [
      | inl same ↦
          let d = of a la in
          none-some _ (sym (none d.wrote.turn (subst (λ i. slice_get (turns es a) i ≡ Some d.wrote.turn) (sym same) d.wrote.at)) ∙ d.wrote.asks)
      | inr apart ↦ let w = not_then a la in let s = (was_own a la).soon in absurd (omega (arith, w, s, less, apart))
    ]

    -- the second phase begins
    module _ (a : ℕ) (blocks : List Block) (best : Block) (reaches : b ≤ (own es m (suc t)).bal) (is : p (suc t) ≡ (ballot_proposed (advanced_at (p t) a blocks) best).ballot) (now : (c : ℕ) → slice_get (turns es c) t ≡ Some (turn_on c (anchor_turn_answered m a (Gives blocks)))) where
      abbrev q : BallotIs
      q = (ballot_proposed (advanced_at (p t) a blocks) best).ballot

      its_own : q.own ≡ own es m (suc t)
      its_own = ap (λ (r : BallotIs). r.own) (sym is)

      grows_to : Grows (own es m (suc t)) (own es m (was_own 0 some).at)
      grows_to = own_grows es m (suc t) (was_own 0 some).at lm (let past = not_then 0 some in omega (arith, past))

      bal_is : (own es m (suc t)).bal ≡ b
      bal_is = let up = bal_grows _ _ grows_to in let w = ap (λ (y : Block). y.bal) (was_own 0 some).is in omega (arith, up, w, reaches)

      value_is : (own es m (suc t)).value ≡ v
      value_is = elim grows_to.bal [
        | inl less ↦ let w = ap (λ (y : Block). y.bal) (was_own 0 some).is in let at = bal_is in absurd (omega (arith, less, w, at))
        | inr same ↦ same.1 ∙ ap (λ (y : Block). y.value) (was_own 0 some).is
      ]

      no_ask_now : (c : ℕ) (y : Turn) → slice_get (turns es c) t ≡ Some y → y.ask ≡ None
      no_ask_now c y at = ap (λ (z : Turn). z.ask) (same_Some _ _ (sym at ∙ now c)) ∙ by (a == c)
        where
          by : (d : Bool) → (cond d (record { client = m; reply = Some (Gives blocks); ask = None }) idle_turn).ask ≡ None
          by true = refl
          by false = refl

      begins_in : IsIn (p (suc t)) (suc t)
      begins_in = subst (λ (r : BallotIs). IsIn r (suc t)) (sym is) (record {
        phase = refl;
        mbal = ap (λ (y : Block). y.bal) its_own ∙ bal_is;
        value = ap (λ (y : Block). y.value) its_own ∙ value_is;
        parts = λ c lc less. absurd (not_asked c lc (no_ask_now c) less);
        undone = (0, some, at_all (λ part. part.stage ≢ Done) (phase_begun q.own) (advanced_at (p t) a blocks).parts 0 (λ _ e. absurd (grind (arith, e))) (λ e. absurd (grind (arith, e))));
      })

    -- the own block stays, or the phase begins
    not_same : b ≤ (own es m (suc t)).bal → own es m (suc t) ≡ own es m t → ⊥
    not_same reaches same = absurd (omega (arith, reaches, before, ap (λ (y : Block). y.bal) same))

    reads_before : (reaches : b ≤ (own es m (suc t)).bal) (a : ℕ) (blocks : List Block) (o : BallotOutcome) → ReadsAs (p t) a blocks o → p (suc t) ≡ o.ballot → ((c : ℕ) → slice_get (turns es c) t ≡ Some (turn_on c (anchor_turn_answered m a (Gives blocks)))) → IsIn (p (suc t)) (suc t)
    reads_before reaches a blocks o (IsLate late) is now = absurd (not_same reaches (ap (λ (r : BallotIs). r.own) is))
    reads_before reaches a blocks o (IsOutrun time more) is now = absurd (not_same reaches (ap (λ (r : BallotIs). r.own) is))
    reads_before reaches a blocks o (GoesOn time few) is now = absurd (not_same reaches (ap (λ (r : BallotIs). r.own) is))
    reads_before reaches a blocks o (EndsPhase time) is now = elim (ended_phase (p t).phase (advanced_at (p t) a blocks)) [
      | inl same ↦ absurd (not_same reaches (ap (λ (r : BallotIs). r.own) is ∙ same))
      | inr proposes ↦ begins_in a blocks proposes.0 reaches (is ∙ ap (λ (r : BallotOutcome). r.ballot) proposes.1) now
    ]

    acts_before : b ≤ (own es m (suc t)).bal → (move : Move) → ActsAs m (p t) move → p (suc t) ≡ move.ballot → ((c : ℕ) → slice_get (turns es c) t ≡ Some (turn_on c move.turn)) → IsIn (p (suc t)) (suc t)
    acts_before reaches move (AsksAt a la) is now = absurd (not_same reaches (ap (λ (r : BallotIs). r.own) is))
    acts_before reaches move (WrittenAt a la asked) is now = absurd (not_same reaches (ap (λ (r : BallotIs). r.own) is))
    acts_before reaches move (ReadAt a la half asked blocks o reading) is now = reads_before reaches a blocks o reading is now

    before_next : b ≤ (own es m (suc t)).bal → Changes es m t → IsIn (p (suc t)) (suc t)
    before_next reaches (inl stays) = absurd (not_same reaches (ap (λ (r : BallotIs). r.own) stays.same))
    before_next reaches (inr mv) = by mv.call refl
      where
        by : (call : BallotCall) → mv.call ≡ call → IsIn (p (suc t)) (suc t)
        by (Starts above input) is =
            let move = same_Some _ _ (sym (ap (move_in m (p t)) is) ∙ mv.is) in
            let bal : (own es m (suc t)).bal ≡ (own es m t).bal = ap (λ (r : BallotIs). r.own.bal) mv.becomes ∙ ap (λ (y : Move). y.ballot.own.bal) (sym move) in
            absurd (omega (arith, reaches, before, bal))
        by (At a act) is = acts_before reaches mv.move (acts_as m (p t) a act mv.move (ap (move_in m (p t)) (sym is) ∙ mv.is)) mv.becomes mv.turn

  -- All along

  abbrev Stood : ℕ → Type 0
  Stood t = ((own es m t).bal < b) ⊎ (IsIn (p t) t ⊎ Tells es m v)

  stood_next : (t : ℕ) → Stood t → Stood (suc t)
  stood_next t (inl before) = elim (cases_lt (own es m (suc t)).bal b) [
    | inl still ↦ inl still
    | inr reaches ↦ inr (inl (before_next t before reaches (changes es m t lm)))
  ]
  stood_next t (inr (inl x)) = inr (in_next t x (changes es m t lm))
  stood_next t (inr (inr tells)) = inr (inr tells)

  stood : (t : ℕ) → Stood t
  stood zero = inl ballot
  stood (suc t) = stood_next t (stood t)

  -- at the end all was answered
  within : (a k : ℕ) (y : Turn) → slice_get (turns es a) k ≡ Some y → k < length es.events
  within a k y at = elim (cases_lt k (length es.events)) [
    | inl less ↦ less
    | inr past ↦ absurd (none-some y (sym (turn_past a (ballots_opening es.anchors es.quorum) k es.events (slice_get_past es.events k past)) ∙ at))
  ]

  pub told_by : Tells es m v
  told_by = by (stood (length es.events))
    where
      closed : (a : ℕ) (la : a < es.anchors) → (x : IsIn (p (length es.events)) (length es.events)) → (stage : Stage) → (part_at (p (length es.events)).parts a).stage ≡ stage → stage ≢ Done → ⊥
      closed a la x stage is undone =
          let d = of a la in
          let w = within a d.answered d.wrote.next d.wrote.at_next in
          let begun = d.wrote.later in
          let its = subst (λ s. AtStage es m b v a d s (length es.events)) is (x.parts a la (omega (arith, w, begun))).1 in
          at stage undone its
        where
          at : (s : Stage) → s ≢ Done → AtStage es m b v a (of a la) s (length es.events) → ⊥
          at Writes undone its = let w = within a (of a la).answered (of a la).wrote.next (of a la).wrote.at_next in absurd (omega (arith, its, w))
          at ReadsLow undone its = let w = within a (of a la).low.answered (of a la).low.read.next (of a la).low.read.at_next in absurd (omega (arith, its.0, w))
          at ReadsHigh undone its = let w = within a (of a la).high.answered (of a la).high.read.next (of a la).high.read.at_next in absurd (omega (arith, its, w))
          at Done undone its = undone refl

      by : Stood (length es.events) → Tells es m v
      by (inr (inr tells)) = tells
      by (inr (inl x)) = absurd (closed x.undone.0 x.undone.1 x (part_at (p (length es.events)).parts x.undone.0).stage refl x.undone.2)
      by (inl before) =
          let w = was_own 0 some in
          let d = of 0 some in
          let past = not_then (length es.events) before 0 some in
          let asked = within 0 d.asked d.wrote.turn d.wrote.at in
          let soon = w.soon in
          absurd (omega (arith, past, soon, asked))
