use Rattle.std.proofs.Common.{◌≡◌, Bool, true, false, if◌then◌else◌, [], ◌∷◌, nat_lt, refl, sym, ap₂, ◌∙◌}
use Rattle.pf_entry.specs.Sets
use Rattle.pf_entry.specs.declared.packets.Body.TheVariants.{Image}
use Rattle.pf_server_memory.specs.Packets.{packet}
use Rattle.pf_server_leader.specs.declared.ways.SubmitPlan.{SubmitPlan}
use Rattle.pf_server_leader.specs.declared.ways.SubmitPlan.TheVariants as plans
use Rattle.pf_server_leader.proofs.CountedAcks.{none_to_send}
use Rattle.pf_server_leader.proofs.resends.send_image.Goals as goal

-- to one that is not sent the sectors nothing is lacking below the checkpoint
streamed : (lacks : Bool) (way : SubmitPlan) → way ≡ (if lacks then plans.Image else plans.Stream) → (way ≡ plans.Image → ⊥) → lacks ≡ false
streamed true way is other = absurd (other is)
streamed false way is other = refl

pub returns-in_default : goal.returns-in_default
returns-in_default c =
    let me = c.args.me.now in
    none_to_send c.args.out.now _ (packet me.number c.args.to me.term (Image me.log.base (Sets.retain me.applied.slots (nat_lt me.log.base)) me.sectors) ∷ [])
    (sym (ap₂ nat_lt c.get.ensures c.base-base.ensures.base) ∙ streamed _ c.plan.result c.plan.ensures c.in_default.not-Image)
