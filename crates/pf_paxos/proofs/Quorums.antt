-- The law of Disk Paxos over a family of anchors with quorums, of which any two share an anchor.
use Rattle.std.proofs.Common.{◌≡◌, ℕ, suc, ◌<◌, ◌≤◌, inl, inr, List, arith, sym, ap, ◌∙◌, le_trans}
use Rattle.std.proofs.lemmas.Bool.{cases_lt}
use Rattle.pf_paxos.specs.declared.block.Block.{Block}
use Rattle.pf_paxos.specs.Registers.{Turn, block_before, AreRegisters}
use Rattle.pf_paxos.specs.Deciding.{Decides}
use Rattle.pf_paxos.proofs.ProposerAgreement.{Grows, IsPicked, AreSound, value_stays}
use Rattle.pf_paxos.proofs.ClientAsks.{HasClaimed, HasGathered}
use Rattle.pf_paxos.proofs.CrossingPhases.{written_block, crosses}

module _ (history : ℕ → List Turn) (block : ℕ → ℕ → Block) where
  -- phase 1 of a ballot wrote at the anchor and read both halves there, and saw no greater bal than this
  pub record Gathers (m ballot best a : ℕ) : Type 0 where
    pub claimed : HasClaimed (history a) m ballot
    pub low : HasGathered (history a) m 0 claimed.answered best
    pub high : HasGathered (history a) m 1 claimed.answered best

  module _ (Quorum : Type 0) (Has : Quorum → ℕ → Type 0) where
    -- a ballot's value was picked by what phase 1 read on a quorum
    pub record Picks (m ballot : ℕ) (value : List ℕ) : Type 0 where
      pub picked : IsPicked block m ballot value
      pub quorum : Quorum
      pub gathers : (a : ℕ) → Has quorum a → Gathers m ballot (block picked.best picked.at).bal a

    pub record DecidesOn (ballot : ℕ) (value : List ℕ) : Type 0 where
      pub quorum : Quorum
      pub decides : (a : ℕ) → Has quorum a → Decides (history a) ballot value

    -- the block of a mount at an anchor is the mount's own block of some moment
    pub record IsOwn (a m t : ℕ) : Type 0 where
      pub at : ℕ
      pub is : block_before (history a) m t ≡ block m at

    module _
        (share : (q r : Quorum) → (a : ℕ) × (Has q a × Has r a))
        (registers : (q : Quorum) (a : ℕ) → Has q a → AreRegisters (history a))
        (grows : (a m s t : ℕ) → m < 16 → s ≤ t → Grows (block_before (history a) m s) (block_before (history a) m t))
        (owns : (a m t : ℕ) → m < 16 → IsOwn a m t)
        (sound : AreSound block)
        (picks : (m t : ℕ) → m < 16 → 0 < (block m t).bal → Picks m (block m t).bal (block m t).value) where
      module _ (ballot : ℕ) (value : List ℕ) (d : DecidesOn ballot value) where
        -- once a ballot decides, each own block with such a bal or a greater one has its value
        pub value_kept : (m t : ℕ) → m < 16 → ballot ≤ (block m t).bal → (block m t).value ≡ value
        value_kept m t is_mount low =
            let one = share d.quorum d.quorum in
            let x = d.decides one.0 one.1.0 in
            let o = owns one.0 x.mount (suc x.asked) x.is_mount in
            let is : block x.mount o.at ≡ record { mbal = ballot; bal = ballot; value = value } = sym o.is ∙ written_block (history one.0) x.mount x.asked x.answered _ x.wrote in
            let bal : (block x.mount o.at).bal ≡ ballot = ap (λ (b : Block). b.bal) is in
            value_stays block sound x.mount o.at x.is_mount (omega (arith, bal, x.is_ballot.is, x.is_ballot.not_first))
            (λ n s lower later.
            let p = picks n s lower (omega (arith, later)) in
            let both = share d.quorum p.quorum in
            let g = p.gathers both.0 both.1.1 in
            (p.picked, le_trans (omega (arith, bal)) (crosses (history both.0) (registers d.quorum both.0 both.1.0) (grows both.0) ballot value (d.decides both.0 both.1.0) n (block n s).bal (block p.picked.best p.picked.at).bal lower (omega (arith, later, bal)) g.claimed g.low g.high)))
            m t is_mount (omega (arith, bal, low)) ∙ ap (λ (b : Block). b.value) is

      first_decides : (a b : ℕ) (v w : List ℕ) → DecidesOn a v → DecidesOn b w → a ≤ b → v ≡ w
      first_decides a b v w x y le =
          let one = share y.quorum y.quorum in
          let d = y.decides one.0 one.1.0 in
          let o = owns one.0 d.mount (suc d.asked) d.is_mount in
          let is : block d.mount o.at ≡ record { mbal = b; bal = b; value = w } = sym o.is ∙ written_block (history one.0) d.mount d.asked d.answered _ d.wrote in
          let bal : (block d.mount o.at).bal ≡ b = ap (λ (c : Block). c.bal) is in
          sym (value_kept a v x d.mount o.at d.is_mount (omega (arith, bal, le))) ∙ ap (λ (c : Block). c.value) is

      pub one_value_decided : (a b : ℕ) (v w : List ℕ) → DecidesOn a v → DecidesOn b w → v ≡ w
      one_value_decided a b v w x y =
          elim (cases_lt a b) [
            | inl less ↦ first_decides a b v w x y (omega (arith, less))
            | inr not_less ↦ sym (first_decides b a w v y x not_less)
          ]
