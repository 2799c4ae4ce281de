use Rattle.pf_mount.proofs.AnchorChunks.{asks_the_anchor}
use Rattle.pf_mount.proofs.AwaitedStays.{answered_awaits, asked_awaits, awaiting_is_silent, silent_stays, starting_awaits}
use Rattle.pf_mount.proofs.laws.pending_asks_stay.Goals as goal

pub returns-clause-answered : goal.returns-clause-answered
returns-clause-answered c = λ m port other reply low apart. answered_awaits m port other reply low apart

pub returns-clause-asked : goal.returns-clause-asked
returns-clause-asked c = λ m port other low apart. asked_awaits m port other low apart

pub returns-clause-starting : goal.returns-clause-starting
returns-clause-starting c = λ m call port rests. starting_awaits m call port rests

pub returns-clause-silent : goal.returns-clause-silent
returns-clause-silent c = λ m port ask awaits. awaiting_is_silent m port ask awaits

pub returns-clause-none : goal.returns-clause-none
returns-clause-none c = λ m port nothing. silent_stays m port nothing

pub returns-clause-of_anchors : goal.returns-clause-of_anchors
returns-clause-of_anchors c = λ m port ask is layout low e. asks_the_anchor m is layout port low ask e
