-- What lines ask of one chunk.
use Rattle.std.specs.Prelude.{◌≡◌, ℕ, Option, Some, None}
use Rattle.pf_script.specs.declared.command.Command.{Command}
use Rattle.pf_script.specs.declared.command.Command.TheVariants as commands
use Rattle.pf_live_session.specs.pf_group.specs.declared.event.GroupEvent.TheVariants as events
use Rattle.pf_live_session.specs.pf_chunk.specs.declared.asked.LineAsk.{LineAsk}
use Rattle.pf_live_session.specs.pf_chunk.specs.declared.asked.LineAsk.TheVariants.{Event}
use Rattle.pf_live_session.specs.pf_chunk.specs.Asked.{fetch_ask, submit_ask}
use Rattle.pf_world.specs.declared.kind.Kind.{Kind}
use Rattle.pf_world.specs.declared.kind.Kind.TheVariants.{Raw}

-- what a line asks of a group, with the group's number
abbrev pub asked_by_line : Command → Option (ℕ × LineAsk)
asked_by_line (commands.Submit g i s b n) = Some (g, submit_ask i s b n)
asked_by_line (commands.Fetch g i s n) = Some (g, fetch_ask i s n)
asked_by_line (commands.Elect g i) = Some (g, Event (events.Elect i))
asked_by_line (commands.Resend g i) = Some (g, Event (events.Resend i))
asked_by_line (commands.Stop g i) = Some (g, Event (events.Stop i))
asked_by_line (commands.Restart g i) = Some (g, Event (events.Restart i))
asked_by_line (commands.Checkpoint g i) = Some (g, Event (events.Checkpoint i))
asked_by_line (commands.Deliver g k) = Some (g, Event (events.Deliver k))
asked_by_line (commands.Lose g k) = Some (g, Event (events.Lose k))
asked_by_line (commands.Mark g i) = Some (g, Event (events.Mark i))
asked_by_line command = None

abbrev pub IsSubmit : Command → Type 0
IsSubmit (commands.Submit g i s b n) = Unit {0}
IsSubmit command = ⊥

-- in a raw run alone lines submit
abbrev pub IsAllowed : Option Kind → Command → Type 0
IsAllowed kind (commands.Submit g i s b n) = kind ≡ Some Raw
IsAllowed kind command = Unit {0}

-- a line that shows a group
abbrev pub IsShow : Command → Type 0
IsShow (commands.ShowLog g i) = Unit {0}
IsShow (commands.ShowApplied g i) = Unit {0}
IsShow (commands.ShowSectors g i) = Unit {0}
IsShow (commands.ShowAcked g) = Unit {0}
IsShow (commands.ShowMark g i s) = Unit {0}
IsShow command = ⊥
