use Rattle.std.proofs.Common.{◌∙◌, rules, subst, sym}
use Rattle.pf_disk_file.specs.Files.{AreFilesOf}
use Rattle.pf_disk_file.proofs.DiskLists.{AreSound, files_more, sound_more}
use Rattle.pf_disk_file.proofs.folder.disks_in.Goals as goal

pub loop-disk-preserved : goal.loop-disk-preserved
loop-disk-preserved g c = record {
  count = search rules;
  sound = subst AreSound (sym c.in_ok-push.ensures.items) (sound_more c.loop-disk.disks.items c.at.result c.at.ensures.sound c.loop-disk.invariant.sound);
  files = subst (AreFilesOf g.O.Opener.opens c.args.folder.now) (sym c.in_ok-push.ensures.items)
      (files_more g.O.Opener.opens c.args.folder.now _ c.loop-disk.disks.items c.at.result c.loop-disk.disk c.loop-disk.invariant.count (c.as_str.ensures ∙ c.in_ok-path.ensures) c.at.ensures.file c.loop-disk.invariant.files);
}
