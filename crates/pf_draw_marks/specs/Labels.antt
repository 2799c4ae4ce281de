-- The label of each mark.
use Rattle.std.specs.Prelude.{ℕ, List, ◌++◌, codes}
use Rattle.std.specs.Fmt.{decimal}
use Rattle.pf_draw_marks.specs.declared.marks.Passage.{Passage}
use Rattle.pf_draw_marks.specs.declared.marks.PacketKind.{PacketKind}
use Rattle.pf_draw_marks.specs.declared.marks.PacketKind.TheVariants as kinds
use Rattle.pf_draw_marks.specs.declared.marks.ServerMark.{ServerMark}
use Rattle.pf_draw_marks.specs.declared.marks.ServerMark.TheVariants.{Sends, Takes, Refuses, Misses, Awaits, Stores, Commits, Applies, Acknowledges, Stands, Leads, Serves, Follows, Stops, Halts, Restarts, Checkpoint, Image, Snapshot, IsDown, Ends}
use Rattle.pf_draw_marks.specs.declared.marks.MountMark.{MountMark}
use Rattle.pf_draw_marks.specs.declared.marks.MountMark.TheVariants as mounts

-- words, and a number behind them
abbrev pub named : (words : List ℕ) → (number : ℕ) → List ℕ
named words number = words ++ decimal number

abbrev pub kind_text : PacketKind → List ℕ
kind_text kinds.RequestVote = codes "vote?"
kind_text kinds.Vote = codes "vote"
kind_text (kinds.Accept slot) = named (codes "accept ") slot
kind_text (kinds.Ack slot) = named (codes "ack ") slot
kind_text kinds.Nack = codes "nack"
kind_text (kinds.Commit slot) = named (codes "commit ") slot
kind_text (kinds.Probe number) = named (codes "probe ") number
kind_text (kinds.ProbeOk number) = named (codes "probe ok ") number
kind_text (kinds.Image slot) = named (codes "image ") slot

-- the number of a packet, and its kind
abbrev pub passage_text : Passage → List ℕ
passage_text p = decimal p.packet ++ codes " " ++ kind_text p.kind

abbrev pub server_label : ServerMark → List ℕ
server_label (Sends p) = passage_text p ++ named (codes " to ") p.to
server_label (Takes p) = passage_text p
server_label (Refuses p) = passage_text p ++ codes " refused"
server_label (Misses p) = passage_text p ++ codes " lost"
server_label (Awaits p) = passage_text p ++ codes " left"
server_label (Stores slot term content) = named (codes "store ") slot
server_label (Commits slot) = named (codes "commit ") slot
server_label (Applies slot) = named (codes "apply ") slot
server_label (Acknowledges slot) = named (codes "tell ") slot
server_label (Stands term) = named (codes "stands ") term
server_label (Leads term) = named (codes "leads ") term
server_label (Serves term) = named (codes "serves ") term
server_label (Follows term) = named (codes "follows ") term
server_label Stops = codes "stops"
server_label Halts = codes "halts"
server_label Restarts = codes "restarts"
server_label (Checkpoint slot) = named (codes "checkpoint ") slot
server_label (Image slot) = named (codes "image ") slot
server_label (Snapshot slot) = named (codes "snapshot ") slot
server_label IsDown = codes "down"
server_label (Ends base upto) = named (codes "base ") base ++ named (codes ", applied ") upto

abbrev pub mount_label : MountMark → List ℕ
mount_label mounts.Mounts = codes "mounts"
mount_label mounts.Ends = codes "killed"
mount_label (mounts.Begins call) = call
mount_label (mounts.Answers answer) = answer
mount_label (mounts.Ballot position) = named (codes "ballot ") position
mount_label (mounts.Decides position) = named (codes "decided ") position
