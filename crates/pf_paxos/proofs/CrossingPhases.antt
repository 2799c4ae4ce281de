-- Where a ballot decides, phase 1 of each later one reads what it wrote, or something newer: of one memory of registers.
use Rattle.std.proofs.Common.{◌≡◌, ℕ, suc, ◌-◌, ◌<◌, ◌≤◌, ◌⊎◌, inl, inr, List, Some, slice_get, arith, refl, sym, ap, subst, ◌∙◌}
use Rattle.std.proofs.lemmas.Bool.{cases_lt}
use Rattle.pf_paxos.specs.declared.block.Block.{Block}
use Rattle.pf_paxos.specs.Blocks.{zero_block}
use Rattle.pf_paxos.specs.Registers.{AsksWrite, Turn, HasWritten, ClientHasRead, member, block_before, asked_or, AreRegisters}
use Rattle.pf_paxos.specs.Deciding.{Decides, FindsNoneAbove}
use Rattle.pf_paxos.proofs.ProposerAgreement.{Grows, bal_grows}
use Rattle.pf_paxos.proofs.ClientAsks.{HasClaimed, HasGathered}
use Rattle.pf_paxos.proofs.Moments.{block_next, own_block}

-- the half and the place of a mount's block
pub record IsPlaced (m : ℕ) : Type 0 where
  pub half : ℕ
  pub place : ℕ
  pub is_half : (half ≡ 0) ⊎ (half ≡ 1)
  pub is_place : place < 8
  pub is : member half place ≡ m

pub placed : (m : ℕ) → m < 16 → IsPlaced m
placed m low =
    elim (cases_lt m 8) [
      | inl below ↦ record { half = 0; place = m; is_half = inl refl; is_place = below; is = omega arith }
      | inr above ↦ record { half = 1; place = m - 8; is_half = inr refl; is_place = omega (arith, low, above); is = omega (arith, above) }
    ]

-- what was asked to be written is the block from then on
pub asked_block : (history : List Turn) (m t : ℕ) (x : Turn) (b : Block) → slice_get history t ≡ Some x → x.client ≡ m → x.ask ≡ Some (AsksWrite b) → block_before history m (suc t) ≡ b
asked_block history m t x b at its asks = block_next m t zero_block history x at ∙ own_block m (block_before history m t) x its ∙ ap (asked_or (block_before history m t)) asks

pub written_block : (history : List Turn) (m asked answered : ℕ) (b : Block) → HasWritten history m asked answered b → block_before history m (suc asked) ≡ b
written_block history m asked answered b w = asked_block history m asked w.turn b w.at w.its w.asks

module _ (history : List Turn) (registers : AreRegisters history) (grows : (m s t : ℕ) → m < 16 → s ≤ t → Grows (block_before history m s) (block_before history m t)) where
  -- a read that was asked after a write was answered gives a block that is not older
  pub record NotOlder (m w half place answered : ℕ) (blocks : List Block) : Type 0 where
    pub at : ℕ
    pub after : w < at
    pub given : slice_get blocks place ≡ Some (block_before history m at)

  pub reads_new : (m reader half place asked answered : ℕ) (blocks : List Block) → member half place ≡ m → place < 8 → ClientHasRead history reader half asked answered blocks → (w done : ℕ) (b : Block) → HasWritten history m w done b → done ≤ asked → NotOlder m w half place answered blocks
  reads_new m reader half place asked answered blocks is inside read w done b wrote first =
      subst (λ k. HasWritten history k w done b → NotOlder k w half place answered blocks) is (λ same. record {
        at = registers.seen answered (member half place);
        after = registers.fresh reader half asked answered place blocks read inside w done b same first;
        given = registers.gives reader half asked answered place blocks read inside;
      }) wrote

  module _ (ballot : ℕ) (value : List ℕ) (d : Decides history ballot value) where
    pub decided_block : block_before history d.mount (suc d.asked) ≡ record { mbal = ballot; bal = ballot; value = value }
    decided_block = written_block history d.mount d.asked d.answered _ d.wrote

    pub bal_is : (block_before history d.mount (suc d.asked)).bal ≡ ballot
    bal_is = ap (λ (b : Block). b.bal) decided_block

    looks : (half : ℕ) → (half ≡ 0) ⊎ (half ≡ 1) → FindsNoneAbove history d.mount half d.answered ballot
    looks half (inl low) = subst (λ h. FindsNoneAbove history d.mount h d.answered ballot) (sym low) d.low
    looks half (inr high) = subst (λ h. FindsNoneAbove history d.mount h d.answered ballot) (sym high) d.high

    gathered : (m best from half : ℕ) → (half ≡ 0) ⊎ (half ≡ 1) → HasGathered history m 0 from best → HasGathered history m 1 from best → HasGathered history m half from best
    gathered m best from half (inl low) x y = subst (λ h. HasGathered history m h from best) (sym low) x
    gathered m best from half (inr high) x y = subst (λ h. HasGathered history m h from best) (sym high) y

    -- the claim of a later ballot was not answered when its block was read for the decision
    claimed_after : (m later : ℕ) → m < 16 → ballot < later → (c : HasClaimed history m later) → (half place : ℕ) → member half place ≡ m → place < 8 → (f : FindsNoneAbove history d.mount half d.answered ballot) → f.asked < c.answered
    claimed_after m later is_mount above c half place is inside f =
        elim (cases_lt f.asked c.answered) [
          | inl before ↦ before
          | inr not_before ↦
              let r = reads_new m d.mount half place f.asked f.answered f.blocks is inside f.read c.asked c.answered c.block c.wrote not_before in
              let low : (block_before history m r.at).mbal ≤ ballot = f.none_above place (block_before history m r.at) r.given in
              let claim : (block_before history m (suc c.asked)).mbal ≡ c.block.mbal = ap (λ (b : Block). b.mbal) (written_block history m c.asked c.answered c.block c.wrote) in
              let grown : (block_before history m (suc c.asked)).mbal ≤ (block_before history m r.at).mbal = (grows m (suc c.asked) r.at is_mount (omega (arith, r.after))).mbal in
              absurd (omega (arith, low, claim, grown, c.is, above))
        ]

    -- so phase 1 of the later ballot read what decided, or something newer
    pub crosses : (m later best : ℕ) → m < 16 → ballot < later → (c : HasClaimed history m later) → HasGathered history m 0 c.answered best → HasGathered history m 1 c.answered best → ballot ≤ best
    crosses m later best is_mount above c low high =
        let its = placed m is_mount in
        let late = claimed_after m later is_mount above c its.half its.place its.is its.is_place (looks its.half its.is_half) in
        let own = placed d.mount d.is_mount in
        let g = gathered m best c.answered own.half own.is_half low high in
        let r = reads_new d.mount m own.half own.place g.asked g.answered g.blocks own.is own.is_place g.read d.asked d.answered _ d.wrote (omega (arith, late, (looks its.half its.is_half).after, g.after)) in
        let seen : (block_before history d.mount r.at).bal ≤ best = g.not_above own.place (block_before history d.mount r.at) r.given in
        let grown : (block_before history d.mount (suc d.asked)).bal ≤ (block_before history d.mount r.at).bal = bal_grows _ _ (grows d.mount (suc d.asked) r.at d.is_mount (omega (arith, r.after))) in
        omega (arith, seen, grown, bal_is)
