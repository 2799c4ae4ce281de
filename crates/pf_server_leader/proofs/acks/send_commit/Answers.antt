use Rattle.std.proofs.Common.{[], ◌∷◌, sym, ◌∙◌}
use Rattle.pf_entry.specs.declared.packets.Body.TheVariants.{Commit}
use Rattle.pf_server_memory.specs.Packets.{packet}
use Rattle.pf_server_leader.proofs.CountedAcks.{none_to_send}
use Rattle.pf_server_leader.proofs.acks.send_commit.Goals as goal

pub returns-then-not-owns : goal.returns-then-not-owns
returns-then-not-owns c = none_to_send c.args.out.now _ (packet c.args.me.now.number c.args.to c.args.me.now.term (Commit c.args.slot) ∷ []) (sym c.owns.ensures ∙ c.if-not-owns.true)
