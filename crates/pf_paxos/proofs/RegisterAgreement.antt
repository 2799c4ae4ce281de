-- Agreement, over registers.
use Rattle.std.proofs.Common.{◌≡◌, ℕ, suc, ◌<◌, ◌≤◌, inl, inr, List, Some, slice_get, arith, refl, sym, ap, subst}
use Rattle.std.proofs.lemmas.Bool.{cases_lt}
use Rattle.pf_paxos.specs.declared.block.Block.{Block}
use Rattle.pf_paxos.specs.Registers.{AsksWrite, Turn, AreRegisters}
use Rattle.pf_paxos.specs.Runs.{ProposerEvent, turns_of}
use Rattle.pf_paxos.specs.Deciding.{Decides}
use Rattle.pf_paxos.proofs.Steady.{block, block_grows, blocks_sound}
use Rattle.pf_paxos.proofs.PickedValues.{picks_at}
use Rattle.pf_paxos.proofs.CrossingPhases.{asked_block, written_block}
use Rattle.pf_paxos.proofs.Quorums.{value_kept}

-- what decides was written
pub decided_block : (es : List ProposerEvent) (ballot : ℕ) (value : List ℕ) (d : Decides (turns_of es) ballot value) → block es d.mount (suc d.asked) ≡ record { mbal = ballot; bal = ballot; value = value }
decided_block es ballot value d = written_block (turns_of es) d.mount d.asked d.answered _ d.wrote

pub bal_is : (es : List ProposerEvent) (ballot : ℕ) (value : List ℕ) (d : Decides (turns_of es) ballot value) → (block es d.mount (suc d.asked)).bal ≡ ballot
bal_is es ballot value d = ap (λ (b : Block). b.bal) (decided_block es ballot value d)

module _ (es : List ProposerEvent) (registers : AreRegisters (turns_of es)) where
  -- the plain journal has one anchor, which is the one quorum
  pub decided_stays : (ballot : ℕ) (value : List ℕ) → Decides (turns_of es) ballot value → (m t : ℕ) → m < 16 → ballot ≤ (block es m t).bal → (block es m t).value ≡ value
  decided_stays ballot value d =
      value_kept (λ a. turns_of es) (block es) (Unit {0}) (λ q a. Unit {0})
      (λ q r. (0, (tt, tt)))
      (λ q a of. registers)
      (λ a. block_grows es)
      (λ a m t is_mount. record { at = t; is = refl })
      (blocks_sound es)
      (λ m t is_mount some. let p = picks_at es registers m t is_mount some in record { picked = p.picked; quorum = tt; gathers = λ a of. record { claimed = p.claimed; low = p.low; high = p.high } })
      ballot value (record { quorum = tt; decides = λ a of. d })

  pub later_value : (ballot : ℕ) (value : List ℕ) → Decides (turns_of es) ballot value → (t : ℕ) (x : Turn) (b : Block) → slice_get (turns_of es) t ≡ Some x → x.client < 16 → x.ask ≡ Some (AsksWrite b) → ballot ≤ b.bal → b.value ≡ value
  later_value ballot value d t x b at is_mount asks low =
      let same = asked_block (turns_of es) x.client t x b at refl asks in
      subst (λ (y : Block). ballot ≤ y.bal → y.value ≡ value) same (decided_stays ballot value d x.client (suc t) is_mount) low

  first_decides : (a b : ℕ) (v w : List ℕ) → Decides (turns_of es) a v → Decides (turns_of es) b w → a ≤ b → v ≡ w
  first_decides a b v w x y le = sym (later_value a v x y.asked y.wrote.turn _ y.wrote.at (subst (λ k. k < 16) (sym y.wrote.its) y.is_mount) y.wrote.asks le)

  pub one_decision : (a b : ℕ) (v w : List ℕ) → Decides (turns_of es) a v → Decides (turns_of es) b w → v ≡ w
  one_decision a b v w x y =
      elim (cases_lt a b) [
        | inl less ↦ first_decides a b v w x y (omega (arith, less))
        | inr not_less ↦ sym (first_decides b a w v y x not_less)
      ]
