-- The symbol of each mark.
use Rattle.pf_draw_shapes.specs.declared.symbols.Symbol.{Symbol}
use Rattle.pf_draw_shapes.specs.declared.symbols.Symbol.TheVariants as symbols
use Rattle.pf_draw_marks.specs.declared.marks.ServerMark.{ServerMark}
use Rattle.pf_draw_marks.specs.declared.marks.ServerMark.TheVariants.{Sends, Takes, Refuses, Misses, Awaits, Stores, Commits, Applies, Acknowledges, Stands, Leads, Serves, Follows, Stops, Halts, Restarts, Checkpoint, Image, Snapshot, IsDown, Ends}
use Rattle.pf_draw_marks.specs.declared.marks.MountMark.{MountMark}
use Rattle.pf_draw_marks.specs.declared.marks.MountMark.TheVariants as mounts

abbrev pub server_symbol : ServerMark → Symbol
server_symbol (Sends passage) = symbols.Sent
server_symbol (Takes passage) = symbols.Taken
server_symbol (Refuses passage) = symbols.Refused
server_symbol (Misses passage) = symbols.Lost
server_symbol (Awaits passage) = symbols.Left
server_symbol (Stores slot term content) = symbols.Stored
server_symbol (Commits slot) = symbols.Chosen
server_symbol (Applies slot) = symbols.Applied
server_symbol (Acknowledges slot) = symbols.Told
server_symbol (Stands term) = symbols.Asks
server_symbol (Leads term) = symbols.Leads
server_symbol (Serves term) = symbols.Serves
server_symbol (Follows term) = symbols.Follows
server_symbol Stops = symbols.Stops
server_symbol Halts = symbols.Fails
server_symbol Restarts = symbols.Starts
server_symbol (Checkpoint slot) = symbols.Kept
server_symbol (Image slot) = symbols.Image
server_symbol (Snapshot slot) = symbols.Kept
server_symbol IsDown = symbols.Stops
server_symbol (Ends base upto) = symbols.Applied

abbrev pub mount_symbol : MountMark → Symbol
mount_symbol mounts.Mounts = symbols.Starts
mount_symbol mounts.Ends = symbols.Stops
mount_symbol (mounts.Begins call) = symbols.Sent
mount_symbol (mounts.Answers answer) = symbols.Told
mount_symbol (mounts.Ballot position) = symbols.Asks
mount_symbol (mounts.Decides position) = symbols.Chosen
