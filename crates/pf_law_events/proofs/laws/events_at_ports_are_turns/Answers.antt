use Rattle.pf_law_events.proofs.EventTurns.{events_can, events_turn}
use Rattle.pf_law_events.proofs.laws.events_at_ports_are_turns.Goals as goal

pub returns : goal.returns
returns c = record { events = events_can; turns = events_turn }
