use Rattle.std.proofs.Common.{◌≡◌, ◌∙◌, ap, List, Option, None, length, replicate, arith}
use Rattle.std.proofs.lemmas.List.{length-replicate}
use Rattle.pf_check.specs.declared.tables.RawInode.{RawInode}
use Rattle.pf_check.proofs.MadeTables.{new_raw, new_empty}
use Rattle.pf_check.proofs.tables.Tables.new.Goals as goal

free : Option RawInode
free = None

count : (v : List (Option RawInode)) → v ≡ replicate 65536 None → length v ≡ 65536
unfolding free
count v e = ap length e ∙ length-replicate 65536 free

pub index_mut-requires : goal.index_mut-requires
index_mut-requires c = let n = count c.in_ok-inodes.inodes.items c.in_ok-inodes.ensures in omega (arith, n)

pub invariant_of-result : goal.invariant_of-result
invariant_of-result c = new_raw c.in_ok-inodes.inodes.items c.in_ok-directories.directories.items c.in_ok-tags.tags.items c.in_ok-inodes.ensures c.in_ok-directories.ensures c.in_ok-tags.ensures

pub returns : goal.returns
returns c = new_empty c.in_ok-inodes.inodes.items c.in_ok-directories.directories.items c.in_ok-tags.tags.items c.in_ok-inodes.ensures c.in_ok-directories.ensures c.in_ok-tags.ensures
