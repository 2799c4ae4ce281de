-- A history in which something is chosen, so that the laws speak of something.
use Rattle.std.proofs.Common.{◌≡◌, [], ◌∷◌}
use Rattle.std.specs.FinMap.{gets}
use Rattle.pf_entry.specs.declared.ops.Op.TheVariants.{Noop}
use Rattle.pf_entry.specs.Records.{stored, put_entry, add_start, holds}
use Rattle.pf_protocol.specs.Servers.{Setup, upto}
use Rattle.pf_protocol.specs.declared.answers.Answer.TheVariants.{Slot as SlotIs, Done}
use Rattle.pf_protocol.specs.Leading.{on_submit, submitted, new_entry, look_behind, acknowledged, on_ack, counted, commit_own, op_at}
use Rattle.pf_protocol.specs.Following.{on_accept, accepted}
use Rattle.pf_protocol.specs.Rows.{on_message, on_packet, settled}
use Rattle.pf_protocol.specs.Saving.{restarted}
use Rattle.pf_protocol.specs.Groups.{opening, first_leader, opening_disk, happens, acted}
use Rattle.pf_protocol.specs.declared.events.Event.TheVariants.{Submit, Deliver}
use Rattle.pf_protocol.specs.Histories.{History, replay}

setup : Setup
setup = record { names = 2; window = 4096; chunk = 16; format = 2; failed = [] }

one_write : History
one_write = record { event = Submit 0 Noop; answer = SlotIs 1 } ∷ record { event = Deliver 0; answer = Done } ∷ record { event = Deliver 2; answer = Done } ∷ []

acknowledges : (replay setup one_write).acked ≡ record { term = 1; slot = 1 } ∷ []
unfolding setup one_write opening first_leader opening_disk restarted happens acted settled on_submit submitted new_entry look_behind op_at on_packet on_message on_accept accepted on_ack counted commit_own acknowledged upto stored put_entry add_start holds
acknowledges = simp gets
