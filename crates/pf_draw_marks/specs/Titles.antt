-- The title of each mark.
use Rattle.std.specs.Prelude.{ℕ, List, ◌++◌, codes}
use Rattle.pf_draw_marks.specs.Labels.{named, passage_text}
use Rattle.pf_draw_marks.specs.declared.marks.Content.{Content}
use Rattle.pf_draw_marks.specs.declared.marks.Content.TheVariants as contents
use Rattle.pf_draw_marks.specs.declared.marks.Passage.{Passage}
use Rattle.pf_draw_marks.specs.declared.marks.ServerMark.{ServerMark}
use Rattle.pf_draw_marks.specs.declared.marks.ServerMark.TheVariants.{Sends, Takes, Refuses, Misses, Awaits, Stores, Commits, Applies, Acknowledges, Stands, Leads, Serves, Follows, Stops, Halts, Restarts, Checkpoint, Image, Snapshot, IsDown, Ends}
use Rattle.pf_draw_marks.specs.declared.marks.MountMark.{MountMark}
use Rattle.pf_draw_marks.specs.declared.marks.MountMark.TheVariants as mounts

-- what is done to a packet, and the server at its other end
abbrev pub packet_deed : (does : List ℕ) → Passage → (end : List ℕ) → (server : ℕ) → List ℕ
packet_deed does p end server = does ++ passage_text p ++ named (codes " of term ") p.term ++ named end server

abbrev pub sectors_text : (first count : ℕ) → List ℕ
sectors_text first count = named (codes ": ") count ++ named (codes " sectors from ") first

abbrev pub content_text : Content → List ℕ
content_text (contents.Sectors first count) = sectors_text first count
content_text contents.Mark = codes ": a mark"
content_text contents.Noop = codes ": nothing"

abbrev pub store_deed : (slot term : ℕ) → Content → List ℕ
store_deed slot term content = named (codes " stores slot ") slot ++ named (codes " of term ") term ++ content_text content

abbrev pub end_deed : (base upto : ℕ) → List ℕ
end_deed base upto = named (codes " ends with checkpoint ") base ++ named (codes " and all slots applied up to ") upto

-- what a server does
abbrev pub deed_text : ServerMark → List ℕ
deed_text (Sends p) = packet_deed (codes " sends packet ") p (codes " to server ") p.to
deed_text (Takes p) = packet_deed (codes " takes packet ") p (codes " from server ") p.from
deed_text (Refuses p) = packet_deed (codes " refuses packet ") p (codes " from server ") p.from
deed_text (Misses p) = packet_deed (codes " misses packet ") p (codes " from server ") p.from
deed_text (Awaits p) = packet_deed (codes " awaits packet ") p (codes " from server ") p.from
deed_text (Stores slot term content) = store_deed slot term content
deed_text (Commits slot) = named (codes " knows that the entry is chosen of slot ") slot
deed_text (Applies slot) = named (codes " applies slot ") slot
deed_text (Acknowledges slot) = named (codes " tells a host of slot ") slot
deed_text (Stands term) = named (codes " stands for election in term ") term
deed_text (Leads term) = named (codes " merges logs as the leader of term ") term
deed_text (Serves term) = named (codes " serves hosts in term ") term
deed_text (Follows term) = named (codes " follows in term ") term
deed_text Stops = codes " stops"
deed_text Halts = codes " halts, as a disk failed"
deed_text Restarts = codes " restarts from its disks"
deed_text (Checkpoint slot) = named (codes " has its checkpoint at slot ") slot
deed_text (Image slot) = named (codes " takes a leader's sectors up to slot ") slot
deed_text (Snapshot slot) = named (codes " has a snapshot at the mark in slot ") slot
deed_text IsDown = codes " does not run as the picture ends"
deed_text (Ends base upto) = end_deed base upto

abbrev pub server_title : (group server : ℕ) → ServerMark → List ℕ
server_title group server mark = named (codes "server ") server ++ named (codes " of group ") group ++ deed_text mark

-- what a mount does
abbrev pub mount_deed : MountMark → List ℕ
mount_deed mounts.Mounts = codes " is made"
mount_deed mounts.Ends = codes " is no more"
mount_deed (mounts.Begins call) = codes " begins " ++ call
mount_deed (mounts.Answers answer) = codes " answers " ++ answer
mount_deed (mounts.Ballot position) = named (codes " asks for a ballot on position ") position
mount_deed (mounts.Decides position) = named (codes " knows what is decided at position ") position

abbrev pub mount_title : (mount : ℕ) → MountMark → List ℕ
mount_title mount mark = named (codes "mount ") mount ++ mount_deed mark
