use Rattle.std.proofs.Common.{◌≡◌, ◌<◌, ◌≤◌, ℕ, Option, length, subst, sym, le_of_eq}
use Rattle.std.specs.List.{position_or_len}
use Rattle.std.specs.Option.{MatchOption, is_none}
use Rattle.pf_tree_tables.proofs.Looks.{least_free_is, none_free}
use Rattle.pf_tree_tables.proofs.look.least_free.Goals as goal

pub returns-in_err-inode : goal.returns-in_err-inode
returns-in_err-inode c =
    let inodes = c.args.inodes.now in
    let P : Option ℕ → Type 0 = λ r. MatchOption r (length inodes ≤ position_or_len is_none inodes) (λ i. (i ≡ position_or_len is_none inodes) × (i < length inodes)) in
    subst P (sym c.from_residual.ensures) (le_of_eq (none_free _ inodes c.in_err-inode.ensures))

pub returns : goal.returns
returns c = (least_free_is _ c.args.inodes.now c.in_ok-inode.inode c.in_ok-inode.ensures, c.in_ok-inode.ensures.within)
