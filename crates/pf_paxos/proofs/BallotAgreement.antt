-- Agreement over anchors whose blocks are registers, and what a sync misses.
use Rattle.std.proofs.Common.{◌≡◌, ℕ, suc, ◌*◌, ◌<◌, ◌≤◌, ◌⊎◌, inl, inr, List, Some, slice_get, arith, refl, sym, subst, ◌∙◌}
use Rattle.std.proofs.lemmas.Bool.{cases_lt}
use Rattle.pf_paxos.specs.declared.block.Block.{Block}
use Rattle.pf_paxos.specs.Registers.{AsksWrite, Turn, AreRegisters, block_before}
use Rattle.pf_paxos.specs.Deciding.{Decides}
use Rattle.pf_paxos.specs.Syncs.{FindsNoBal, FindsNothing}
use Rattle.pf_paxos.specs.Quorums.{turns_on, AreAllRegisters, DecidesOver, FindsNothingOver, IsOpenAt}
use Rattle.pf_paxos.specs.BallotRuns.{BallotEvent, anchor_history}
use Rattle.pf_paxos.proofs.BallotMoments.{Run, past}
use Rattle.pf_paxos.proofs.BallotSteady.{own, lags_at, there_grows, own_sound}
use Rattle.pf_paxos.proofs.BallotKept.{turns}
use Rattle.pf_paxos.proofs.BallotPicks.{IsOf, picks_at, within}
use Rattle.pf_paxos.proofs.ProposerAgreement.{Grows, bal_grows}
use Rattle.pf_paxos.proofs.CrossingPhases.{asked_block, placed, reads_new, bal_is}
use Rattle.pf_paxos.proofs.Quorums.{DecidesOn, value_kept, one_value_decided}
use Rattle.pf_paxos.proofs.QuorumLists.{Quorum, share}

module _ (es : Run) where
  decides_on : (ballot : ℕ) (value : List ℕ) → DecidesOver es.anchors es.quorum (past es) ballot value → DecidesOn (turns es) (own es) (Quorum es.anchors es.quorum) (IsOf es.anchors es.quorum) ballot value
  decides_on ballot value d = record {
    quorum = record { used = d.used; is = d.is_quorum };
    decides = λ a of. d.each of.place a of.at;
  }

  -- once a ballot decides, each own block with such a bal or a greater one has its value
  stays_in : es.anchors < 2 * es.quorum → AreAllRegisters es.anchors (past es) → (ballot : ℕ) (value : List ℕ) → DecidesOver es.anchors es.quorum (past es) ballot value → (m t : ℕ) → m < 16 → ballot ≤ (own es m t).bal → (own es m t).value ≡ value
  stays_in meets registers ballot value d =
      value_kept (turns es) (own es) (Quorum es.anchors es.quorum) (IsOf es.anchors es.quorum) (share es.anchors es.quorum meets)
      (λ q k of. registers k (within es.anchors es.quorum q k of))
      (there_grows es)
      (λ k m t lm. let l = lags_at es k m t lm in record { at = l.at; is = l.is })
      (own_sound es)
      (λ m t lm some. (picks_at es registers m t lm some).picks)
      ballot value (decides_on ballot value d)

  -- and so each write
  later_in : es.anchors < 2 * es.quorum → AreAllRegisters es.anchors (past es) → (ballot : ℕ) (value : List ℕ) → DecidesOver es.anchors es.quorum (past es) ballot value → (a t : ℕ) (x : Turn) (b : Block) → slice_get (turns es a) t ≡ Some x → x.client < 16 → x.ask ≡ Some (AsksWrite b) → ballot ≤ b.bal → b.value ≡ value
  later_in meets registers ballot value d a t x b at is_mount asks low =
      let l = lags_at es a x.client (suc t) is_mount in
      let same : own es x.client l.at ≡ b = sym l.is ∙ asked_block (turns es a) x.client t x b at refl asks in
      subst (λ (y : Block). ballot ≤ y.bal → y.value ≡ value) same (stays_in meets registers ballot value d x.client l.at is_mount) low

  one_decision_in : es.anchors < 2 * es.quorum → AreAllRegisters es.anchors (past es) → (a b : ℕ) (v w : List ℕ) → DecidesOver es.anchors es.quorum (past es) a v → DecidesOver es.anchors es.quorum (past es) b w → v ≡ w
  one_decision_in meets registers a b v w x y =
      one_value_decided (turns es) (own es) (Quorum es.anchors es.quorum) (IsOf es.anchors es.quorum) (share es.anchors es.quorum meets)
      (λ q k of. registers k (within es.anchors es.quorum q k of))
      (there_grows es)
      (λ k m t lm. let l = lags_at es k m t lm in record { at = l.at; is = l.is })
      (own_sound es)
      (λ m t lm some. (picks_at es registers m t lm some).picks)
      a b v w (decides_on a v x) (decides_on b w y)

pub one_decision : (anchors quorum : ℕ) → anchors < 2 * quorum → (events : List BallotEvent) → AreAllRegisters anchors (anchor_history anchors quorum events) → (a b : ℕ) (v w : List ℕ) → DecidesOver anchors quorum (anchor_history anchors quorum events) a v → DecidesOver anchors quorum (anchor_history anchors quorum events) b w → v ≡ w
one_decision anchors quorum meets events = one_decision_in (record { anchors = anchors; quorum = quorum; events = events }) meets

pub later_value : (anchors quorum : ℕ) → anchors < 2 * quorum → (events : List BallotEvent) → AreAllRegisters anchors (anchor_history anchors quorum events) → (ballot : ℕ) (value : List ℕ) → DecidesOver anchors quorum (anchor_history anchors quorum events) ballot value → (anchor moment : ℕ) (turn : Turn) (block : Block) → slice_get (turns_on anchor (anchor_history anchors quorum events)) moment ≡ Some turn → turn.client < 16 → turn.ask ≡ Some (AsksWrite block) → ballot ≤ block.bal → block.value ≡ value
later_value anchors quorum meets events = later_in (record { anchors = anchors; quorum = quorum; events = events }) meets

-- at one anchor a sync misses no write that was answered before
module _ (h : List Turn) (registers : AreRegisters h) (grows : (m s t : ℕ) → m < 16 → s ≤ t → Grows (block_before h m s) (block_before h m t)) where
  half_of : (from half : ℕ) → (half ≡ 0) ⊎ (half ≡ 1) → FindsNothing h from → FindsNoBal h half from
  half_of from half (inl low) s = subst (λ k. FindsNoBal h k from) (sym low) s.low
  half_of from half (inr high) s = subst (λ k. FindsNoBal h k from) (sym high) s.high

  undecided_at : (from ballot : ℕ) (value : List ℕ) → FindsNothing h from → (d : Decides h ballot value) → from < d.answered
  undecided_at from ballot value s d =
      let its = placed d.mount d.is_mount in
      let f = half_of from its.half its.is_half s in
      elim (cases_lt f.asked d.answered) [
        | inl before ↦ omega (arith, before, f.after)
        | inr not_before ↦
            let r = reads_new h registers grows d.mount f.client its.half its.place f.asked f.answered f.blocks its.is its.is_place f.read d.asked d.answered _ d.wrote not_before in
            let none : (block_before h d.mount r.at).bal ≡ 0 = f.none its.place (block_before h d.mount r.at) r.given in
            let grown : (block_before h d.mount (suc d.asked)).bal ≤ (block_before h d.mount r.at).bal = bal_grows _ _ (grows d.mount (suc d.asked) r.at d.is_mount (omega (arith, r.after))) in
            absurd (omega (arith, none, grown, bal_is h registers grows ballot value d, d.is_ballot.is, d.is_ballot.not_first))
      ]

-- and the quorums of a sync and of a ballot that decides share an anchor
undecided_in : (es : Run) → es.anchors < 2 * es.quorum → AreAllRegisters es.anchors (past es) → (from ballot : ℕ) (value : List ℕ) → FindsNothingOver es.anchors es.quorum (past es) from → (d : DecidesOver es.anchors es.quorum (past es) ballot value) → IsOpenAt d from
undecided_in es meets registers from ballot value s d =
    let both = share es.anchors es.quorum meets (record { used = s.used; is = s.is_quorum }) (record { used = d.used; is = d.is_quorum }) in
    let a = both.0 in
    let in_sync = both.1.0 in
    let in_ballot = both.1.1 in
    record {
      place = in_ballot.place;
      anchor = a;
      at = in_ballot.at;
      later = undecided_at (turns es a) (registers a (s.is_quorum.low in_sync.place a in_sync.at)) (there_grows es a) from ballot value (s.each in_sync.place a in_sync.at) (d.each in_ballot.place a in_ballot.at);
    }

pub undecided : (anchors quorum : ℕ) → anchors < 2 * quorum → (events : List BallotEvent) → AreAllRegisters anchors (anchor_history anchors quorum events) → (from ballot : ℕ) (value : List ℕ) → FindsNothingOver anchors quorum (anchor_history anchors quorum events) from → (d : DecidesOver anchors quorum (anchor_history anchors quorum events) ballot value) → IsOpenAt d from
undecided anchors quorum meets events = undecided_in (record { anchors = anchors; quorum = quorum; events = events }) meets
