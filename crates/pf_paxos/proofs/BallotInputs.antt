-- Where values come from.
use Rattle.std.proofs.Common.{◌≡◌, ℕ, zero, suc, ◌<◌, ◌≢◌, ◌⊎◌, inl, inr, Bool, true, false, cond, nat_lt, List, [], length, Option, Some, None, slice_index_or, arith, refl, sym, ap, subst, ◌∙◌}
use Rattle.std.specs.Prelude.{unwrap_or}
use Rattle.std.proofs.lemmas.Bool.{cases_eq}
use Rattle.std.proofs.lemmas.Option.{same_Some, none-some, slice_get-get_or}
use Rattle.pf_paxos.specs.declared.block.Block.{Block}
use Rattle.pf_paxos.proofs.ProposerAgreement.{picks_earlier}
use Rattle.pf_paxos.proofs.CrossingPhases.{written_block}
use Rattle.pf_paxos.specs.declared.parts.AnchorAsk.{AnchorAsk}
use Rattle.pf_paxos.specs.declared.parts.AnchorAsk.TheVariants.{OwnBlock, Half}
use Rattle.pf_paxos.specs.Parts.{part_at}
use Rattle.pf_paxos.specs.Ballots.{BallotIs, BallotOutcome, read_at}
use Rattle.pf_paxos.specs.Quorums.{AreAllRegisters, DecidesOver}
use Rattle.pf_paxos.specs.BallotRuns.{Act, Asks, IsWritten, GetsRead, BallotCall, Starts, At, BallotEvent, Calls, Move, move_at, move_in, anchor_history, WasPutIn}
use Rattle.pf_paxos.proofs.BallotMoments.{Run, past, state, Changes, changes}
use Rattle.pf_paxos.proofs.BallotSteps.{IsReading, Late, Aborts, Goes, Proposes, Lacks, Decides as DecidesNow, is_reading}
use Rattle.pf_paxos.proofs.BallotSteady.{own, lags_at, own_sound}
use Rattle.pf_paxos.proofs.BallotPicks.{picks_at}
use Rattle.pf_paxos.proofs.BallotKept.{turns}

-- a call keeps the input, or begins a ballot with it
abbrev KeepsInput : BallotIs → BallotCall → Move → Type 0
KeepsInput p call move = (move.ballot.input ≡ p.input) ⊎ ((above : ℕ) × (call ≡ Starts above move.ballot.input))

read_keeps : (p : BallotIs) (a : ℕ) (blocks : List Block) (o : BallotOutcome) → IsReading p a blocks o → o.ballot.input ≡ p.input
read_keeps p a blocks o (Late late) = refl
read_keeps p a blocks o (Aborts on_time) = refl
read_keeps p a blocks o (Goes on_time none) = refl
read_keeps p a blocks o (Proposes on_time none over first) = refl
read_keeps p a blocks o (Lacks on_time) = refl
read_keeps p a blocks o (DecidesNow on_time none over second) = refl

at_keeps : (m a : ℕ) (p : BallotIs) (act : Act) (asked : AnchorAsk) (move : Move) → move_at m a p act asked ≡ Some move → move.ballot.input ≡ p.input
at_keeps m a p Asks asked move is = sym (ap (λ (v : Move). v.ballot.input) (same_Some _ _ is))
at_keeps m a p IsWritten OwnBlock move is = sym (ap (λ (v : Move). v.ballot.input) (same_Some _ _ is))
at_keeps m a p (GetsRead blocks) (Half half) move is = sym (ap (λ (v : Move). v.ballot.input) (same_Some _ _ is)) ∙ read_keeps p a blocks (read_at p a blocks) (is_reading p a blocks)
at_keeps m a p act asked move is = absurd (grind (arith, is))

keeps_input : (m : ℕ) (p : BallotIs) (call : BallotCall) (move : Move) → move_in m p call ≡ Some move → KeepsInput p call move
keeps_input m p (Starts above input) move is = inr (above, ap (λ (v : Move). Starts above v.ballot.input) (same_Some _ _ is))
keeps_input m p (At a act) move is = inl (by (nat_lt a (length p.parts)) is)
  where
    by : (low : Bool) → cond low (move_at m a p act (part_at p.parts a).asked) None ≡ Some move → move.ballot.input ≡ p.input
    by true same = at_keeps m a p act (part_at p.parts a).asked move same
    by false same = absurd (grind (arith, same))

module _ (es : Run) where
  abbrev IsKnown : Option (List ℕ) → Type 0
  IsKnown input = (v : List ℕ) → input ≡ Some v → WasPutIn es.events v

  known_then : (m t : ℕ) → IsKnown (state es m t).input → Changes es m t → IsKnown (state es m (suc t)).input
  known_then m t known (inl s) = subst (λ (p : BallotIs). IsKnown p.input) (sym s.same) known
  known_then m t known (inr mv) = subst (λ (p : BallotIs). IsKnown p.input) (sym mv.becomes) (of_move (keeps_input m (state es m t) mv.call mv.move mv.is))
    where
      of_move : KeepsInput (state es m t) mv.call mv.move → IsKnown mv.move.ballot.input
      of_move (inl same) = subst IsKnown (sym same) known
      of_move (inr began) = λ v is. record { moment = t; mount = m; above = began.0; at = mv.event ∙ ap (λ call. Some (Calls m call)) (began.1 ∙ ap (Starts began.0) is) }

  known_at : (m t : ℕ) → m < 16 → IsKnown (state es m t).input
  known_at m zero lm = λ v is. absurd (none-some v is)
  known_at m (suc t) lm = known_then m t (known_at m t lm) (changes es m t lm)

  from_input : (input : Option (List ℕ)) → IsKnown input → (v : List ℕ) → v ≡ unwrap_or input [] → v ≢ [] → WasPutIn es.events v
  from_input None known v is some = absurd (some is)
  from_input (Some w) known v is some = subst (WasPutIn es.events) (sym is) (known w refl)

  module _ (registers : AreAllRegisters es.anchors (past es)) where
    put_in : (n m t : ℕ) → m < 16 → 0 < (own es m t).bal → (own es m t).bal < n → (own es m t).value ≢ [] → WasPutIn es.events (own es m t).value
    put_in zero m t lm some less not_empty = absurd (omega (arith, less))
    put_in (suc n) m t lm some less not_empty =
        let p = picks_at es registers m t lm some in
        let picked = p.picks.picked in
        elim (cases_eq (own es picked.best picked.at).bal 0) [
          | inl none ↦ from_input (state es m picked.moment).input (known_at m picked.moment lm) (own es m t).value (p.otherwise none) not_empty
          | inr seen ↦
              let there : 0 < (own es picked.best picked.at).bal = omega (arith, seen) in
              let earlier = picks_earlier (own es) (own_sound es) m (own es m t).bal (own es m t).value lm ((own_sound es).ballots m t lm some) picked in
              let same = picked.takes there in
              subst (WasPutIn es.events) (sym same) (put_in n picked.best picked.at picked.is_mount there (omega (arith, earlier, less)) (λ empty. not_empty (same ∙ empty)))
        ]

  was_put_in_by : 0 < es.quorum → AreAllRegisters es.anchors (past es) → (ballot : ℕ) (value : List ℕ) → DecidesOver es.anchors es.quorum (past es) ballot value → value ≢ [] → WasPutIn es.events value
  was_put_in_by some registers ballot value d not_empty =
      let a : ℕ = slice_index_or d.used 0 0 in
      let x = d.each 0 a (slice_get-get_or d.used 0 0 (omega (arith, some, d.is_quorum.many))) in
      let l = lags_at es a x.mount (suc x.asked) x.is_mount in
      let is : own es x.mount l.at ≡ record { mbal = ballot; bal = ballot; value = value } = sym l.is ∙ written_block (turns es a) x.mount x.asked x.answered _ x.wrote in
      let bal : (own es x.mount l.at).bal ≡ ballot = ap (λ (b : Block). b.bal) is in
      let same : (own es x.mount l.at).value ≡ value = ap (λ (b : Block). b.value) is in
      subst (WasPutIn es.events) same
      (put_in registers (suc (own es x.mount l.at).bal) x.mount l.at x.is_mount (omega (arith, bal, x.is_ballot.is, x.is_ballot.not_first)) (omega arith) (λ empty. not_empty (sym same ∙ empty)))

pub was_put_in : (anchors quorum : ℕ) → 0 < quorum → (events : List BallotEvent) → AreAllRegisters anchors (anchor_history anchors quorum events) → (ballot : ℕ) (value : List ℕ) → DecidesOver anchors quorum (anchor_history anchors quorum events) ballot value → value ≢ [] → WasPutIn events value
was_put_in anchors quorum some events = was_put_in_by (record { anchors = anchors; quorum = quorum; events = events }) some
