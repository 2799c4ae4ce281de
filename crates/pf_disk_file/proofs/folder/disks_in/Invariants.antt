use Rattle.std.proofs.Common.{◌≡◌, length}
use Rattle.pf_disk_file.specs.Files.{AreFilesOf}
use Rattle.pf_disk_file.proofs.DiskLists.{AreSound}
use Rattle.pf_disk_file.proofs.folder.disks_in.Given as goal

abbrev pub invariant-loop-disk : goal.invariant-loop-disk
invariant-loop-disk g l = record {
  count : length l.disks.items ≡ l.disk;
  sound : AreSound l.disks.items;
  files : AreFilesOf g.O.Opener.opens l.folder l.disks.items;
}
