use Rattle.std.proofs.Common.{◌≡◌, ◌∙◌, ap, ℕ, List, Option, None, replicate, arith}
use Rattle.pf_tree.specs.declared.listing.Uplink.{Uplink}
use Rattle.pf_tree.proofs.listing.no_uplinks.Goals as goal

places : ℕ → List (Option Uplink)
places n = replicate n None

all_made : (links : List (Option Uplink)) (n : ℕ) → links ≡ replicate n None → n ≡ 1024 → links ≡ replicate 1024 None
unfolding places
all_made links n made e = made ∙ ap places e

pub returns : goal.returns
returns c = all_made c.loop-inode.links.items c.loop-inode.inode c.loop-inode.invariant (omega arith)
