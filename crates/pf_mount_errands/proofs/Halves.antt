-- A position has two halves.
use Rattle.std.proofs.Common.{◌≡◌, ℕ, ◌<◌, Bool, arith}
use Rattle.pf_paxos.specs.declared.block.Block.{Block}
use Rattle.pf_paxos.specs.declared.parts.AnchorNext.TheVariants.{Read}
use Rattle.pf_paxos.specs.declared.parts.AnchorAsk.{AnchorAsk}
use Rattle.pf_paxos.specs.declared.parts.AnchorAsk.TheVariants.{Nothing, OwnBlock, Half}
use Rattle.pf_paxos.specs.declared.ballot.Phase.{Phase}
use Rattle.pf_paxos.specs.declared.ballot.Phase.TheVariants.{Resting, Claiming, Proposing}
use Rattle.pf_paxos.specs.declared.parts.Stage.{Stage}
use Rattle.pf_paxos.specs.declared.parts.Stage.TheVariants.{Writes, ReadsLow, ReadsHigh, Done}
use Rattle.pf_paxos.specs.Parts.{next_where, part_at}
use Rattle.pf_paxos.specs.Ballots.{BallotIs, next_at_anchor, next_in_phase}

of_stage : (stage : Stage) (own : Block) (h : ℕ) → next_where Nothing stage own ≡ Read h → h < 2
of_stage Writes own h is = absurd (grind (arith, is))
of_stage ReadsLow own h is = let same : 0 ≡ h = (cc) in omega (arith, same)
of_stage ReadsHigh own h is = let same : 1 ≡ h = (cc) in omega (arith, same)
of_stage Done own h is = absurd (grind (arith, is))

of_asked : (asked : AnchorAsk) (stage : Stage) (own : Block) (h : ℕ) → next_where asked stage own ≡ Read h → h < 2
of_asked Nothing stage own h is = of_stage stage own h is
of_asked OwnBlock stage own h is = absurd (grind (arith, is))
of_asked (Half k) stage own h is = absurd (grind (arith, is))

of_phase : (ph : Phase) (asked : AnchorAsk) (stage : Stage) (late : Bool) (best own : Block) (h : ℕ) → next_in_phase ph (record { stage = stage; asked = asked; is_late = late; best = best }) own ≡ Read h → h < 2
of_phase Resting asked stage late best own h is = absurd (grind (arith, is))
of_phase Claiming asked stage late best own h is = of_asked asked stage own h is
of_phase Proposing asked stage late best own h is = of_asked asked stage own h is

pub half_low : (p : BallotIs) (a h : ℕ) → next_at_anchor p a ≡ Read h → h < 2
half_low p a h is = let part = part_at p.parts a in of_phase p.phase part.asked part.stage part.is_late part.best p.own h is
