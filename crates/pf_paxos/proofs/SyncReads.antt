-- What reads outside of ballots tell.
use Rattle.std.proofs.Common.{◌≡◌, ℕ, zero, suc, ◌<◌, ◌≤◌, ◌⊎◌, inl, inr, List, Some, slice_get, take, arith, refl, sym, ap, subst, ◌∙◌}
use Rattle.std.proofs.lemmas.Bool.{cases_lt, cond-true, cond-false, lt-ltb, le-ltb}
use Rattle.std.proofs.lemmas.Option.{same_Some, slice_get_within}
use Rattle.pf_paxos.specs.declared.block.Block.{Block}
use Rattle.pf_paxos.specs.declared.proposer.Next.TheVariants.{Decided}
use Rattle.pf_paxos.specs.declared.proposer.ProposerPhase.TheVariants.{Idle, GatheringHigh}
use Rattle.pf_paxos.specs.Blocks.{best_of}
use Rattle.pf_paxos.specs.Standing.{FindsValue}
use Rattle.pf_paxos.specs.Registers.{AsksRead, Gives, Turn, ClientHasRead, member, AreRegisters}
use Rattle.pf_paxos.specs.Runs.{ProposerEvent, Calls, ProposerCall, IsRead, Move, move_in, proposer_move, proposers_opening, run_proposers, turn_of_move, turns_of}
use Rattle.pf_paxos.specs.Deciding.{Decides, IsDecided}
use Rattle.pf_paxos.specs.Syncs.{FindsNoBal, FindsNothing, FindsBal}
use Rattle.pf_paxos.proofs.ProposerAgreement.{bal_grows}
use Rattle.pf_paxos.proofs.Moments.{state, turn_at}
use Rattle.pf_paxos.proofs.ProposerMoves.{IsFirst, best_is}
use Rattle.pf_paxos.proofs.Steady.{block, block_grows}
use Rattle.pf_paxos.proofs.PickedValues.{InHigh, in_high}
use Rattle.pf_paxos.proofs.ClientAsks.{answered_now}
use Rattle.pf_paxos.proofs.RegisterAgreement.{bal_is}
use Rattle.pf_paxos.proofs.CrossingPhases.{placed, reads_new}
use Rattle.pf_paxos.proofs.ConfirmedValues.{told_decided}

module _ (es : List ProposerEvent) (registers : AreRegisters (turns_of es)) where
  half_of : (from half : ℕ) → (half ≡ 0) ⊎ (half ≡ 1) → FindsNothing (turns_of es) from → FindsNoBal (turns_of es) half from
  half_of from half (inl low) s = subst (λ h. FindsNoBal (turns_of es) h from) (sym low) s.low
  half_of from half (inr high) s = subst (λ h. FindsNoBal (turns_of es) h from) (sym high) s.high

  pub undecided : (from ballot : ℕ) (value : List ℕ) → FindsNothing (turns_of es) from → (d : Decides (turns_of es) ballot value) → from < d.answered
  undecided from ballot value s d =
      let its = placed d.mount d.is_mount in
      let f = half_of from its.half its.is_half s in
      elim (cases_lt f.asked d.answered) [
        | inl before ↦ omega (arith, before, f.after)
        | inr not_before ↦
            let r = reads_new (turns_of es) registers (block_grows es) d.mount f.client its.half its.place f.asked f.answered f.blocks its.is its.is_place f.read d.asked d.answered _ d.wrote not_before in
            let none : (block es d.mount r.at).bal ≡ 0 = f.none its.place (block es d.mount r.at) r.given in
            let grown : (block es d.mount (suc d.asked)).bal ≤ (block es d.mount r.at).bal = bal_grows _ _ (block_grows es d.mount (suc d.asked) r.at d.is_mount (omega (arith, r.after))) in
            absurd (omega (arith, none, grown, bal_is es ballot value d, d.is_ballot.is, d.is_ballot.not_first))
      ]

  -- a later read of the half finds a nonzero bal too
  still_there : (from : ℕ) (f : FindsBal (turns_of es) from) (client asked answered best : ℕ) (blocks : List Block) → ClientHasRead (turns_of es) client f.half asked answered blocks → from ≤ asked → ((k : ℕ) (b : Block) → slice_get blocks k ≡ Some b → b.bal ≤ best) → 0 < best
  still_there from f client asked answered best blocks read after not_above =
      let inside : f.place < 8 = omega (arith, slice_get_within f.blocks f.place f.block f.at, registers.whole f.client f.half f.asked f.answered f.blocks f.read) in
      let m = member f.half f.place in
      let is_mount : member f.half f.place < 16 = omega (arith, inside, f.is_half) in
      let old : f.block ≡ block es m (registers.seen f.answered m) = same_Some _ _ (sym f.at ∙ registers.gives f.client f.half f.asked f.answered f.place f.blocks f.read inside) in
      let later : registers.seen f.answered m ≤ registers.seen answered m = registers.rising client f.half asked answered f.place blocks read inside f.client f.asked f.answered f.blocks f.read (omega (arith, f.before, after)) in
      let grown : (block es m (registers.seen f.answered m)).bal ≤ (block es m (registers.seen answered m)).bal = bal_grows _ _ (block_grows es m (registers.seen f.answered m) (registers.seen answered m) is_mount later) in
      let low : (block es m (registers.seen answered m)).bal ≤ best = not_above f.place (block es m (registers.seen answered m)) (registers.gives client f.half asked answered f.place blocks read inside) in
      omega (arith, f.some, ap (λ (b : Block). b.bal) old, grown, low)

  module _ (from t m : ℕ) (blocks : List Block) (is_mount : m < 16) (f : FindsBal (turns_of es) from) (le : from ≤ t) (idle : (state es m from).phase ≡ Idle) (at : slice_get es t ≡ Some (Calls m (IsRead blocks))) where
    -- this moment brings phase 1's last read
    now : (state es m t).phase ≡ GatheringHigh → (turn : Turn) × (slice_get (turns_of es) t ≡ Some turn) × (turn.client ≡ m) × (turn.reply ≡ Some (Gives blocks))
    now is =
        let move : proposer_move (run_proposers proposers_opening (take t es)) (Calls m (IsRead blocks)) ≡ move_in GatheringHigh (state es m t) (IsRead blocks) = cond-true _ _ _ (lt-ltb m 16 is_mount) ∙ ap (λ ph. move_in ph (state es m t) (IsRead blocks)) is in
        (_, turn_at proposers_opening t es (Calls m (IsRead blocks)) at ∙ ap (λ o. Some (turn_of_move m o)) move, refl, refl)

    by_half : (is : (state es m t).phase ≡ GatheringHigh) → (half : ℕ) → f.half ≡ half → half < 2 → 0 < (best_of (state es m t).best blocks).bal
    by_half is zero same low =
        let x : InHigh es m t (state es m t) = in_high es registers m t is_mount is in
        let late = began x in
        let best = best_is (state es m t).best blocks in
        let some : 0 < (state es m t).best.bal = still_there from f m x.gathered.asked x.gathered.answered (state es m t).best.bal x.gathered.blocks (subst (λ h. ClientHasRead (turns_of es) m h x.gathered.asked x.gathered.answered x.gathered.blocks) (sym same) x.gathered.read) (omega (arith, late, x.claimed.wrote.later, x.gathered.after)) x.gathered.not_above in
        omega (arith, some, best.not_below)
      where
        began : (x : InHigh es m t (state es m t)) → from ≤ x.claimed.asked
        began x = elim (cases_lt x.claimed.asked from) [ inl before ↦ absurd (subst IsFirst idle (x.runs from before le)) | inr not_before ↦ not_before ]
    by_half is (suc zero) same low =
        let x : InHigh es m t (state es m t) = in_high es registers m t is_mount is in
        let late = began x in
        let n = now is in
        let read : ClientHasRead (turns_of es) m 1 x.asked.last t blocks = answered_now (turns_of es) m t n.0 (AsksRead 1) (Gives blocks) x.asked n.1 n.2 n.3 in
        let best = best_is (state es m t).best blocks in
        still_there from f m x.asked.last t (best_of (state es m t).best blocks).bal blocks (subst (λ h. ClientHasRead (turns_of es) m h x.asked.last t blocks) (sym same) read) (omega (arith, late, x.claimed.wrote.later, x.after)) best.not_below_these
      where
        began : (x : InHigh es m t (state es m t)) → from ≤ x.claimed.asked
        began x = elim (cases_lt x.claimed.asked from) [ inl before ↦ absurd (subst IsFirst idle (x.runs from before le)) | inr not_before ↦ not_before ]
    by_half is (suc (suc n)) same low = absurd (omega (arith, low))

    finds : FindsValue (run_proposers proposers_opening (take t es) m) blocks
    finds is none = by_half is f.half refl f.is_half

  pub finds_value : (from t m : ℕ) (blocks : List Block) → m < 16 → FindsBal (turns_of es) from → from ≤ t → (run_proposers proposers_opening (take from es) m).phase ≡ Idle → slice_get es t ≡ Some (Calls m (IsRead blocks)) → FindsValue (run_proposers proposers_opening (take t es) m) blocks
  finds_value from t m blocks is_mount f le idle at = finds from t m blocks is_mount f le idle at

-- what a proposer tells as decided
pub told : (es : List ProposerEvent) (t m : ℕ) (call : ProposerCall) (move : Move) (v : List ℕ) → slice_get es t ≡ Some (Calls m call) → proposer_move (run_proposers proposers_opening (take t es)) (Calls m call) ≡ Some move → move.outcome.next ≡ Decided v → IsDecided (turns_of es) t v
told es t m call move v at is decides =
    elim (cases_lt m 16) [
      | inl low ↦
          told_decided es m t move call v low (turn_at proposers_opening t es (Calls m call) at ∙ ap (λ o. Some (turn_of_move m o)) is)
          (sym (cond-true _ _ _ (lt-ltb m 16 low)) ∙ is) decides
      | inr high ↦ absurd (grind (arith, sym (cond-false _ _ _ (le-ltb m 16 high)) ∙ is))
    ]
