-- What a sync has read on the anchors.
use Rattle.std.specs.Prelude.{ℕ, zero, suc, Bool, ◌||◌, ◌&&◌, ◌==◌, nat_le, false, if◌then◌else◌, List}
use Rattle.pf_paxos.specs.declared.block.Block.{Block}
use Rattle.pf_paxos.specs.declared.parts.Stage.TheVariants.{ReadsLow}
use Rattle.pf_paxos.specs.Parts.{is_done, stage_after}
use Rattle.pf_mount_errands.specs.Blocks.{has_bal}
use Rattle.pf_mount_errands.specs.declared.looks.AnchorLook.{AnchorLook}
use Rattle.pf_mount_errands.specs.declared.looks.Looks.{Looks}

abbrev pub look_at : Looks → (anchor : ℕ) → AnchorLook
look_at l anchor = if anchor == 0 then l.look_0 else if anchor == 1 then l.look_1 else l.look_2

abbrev pub with_look : Looks → (anchor : ℕ) → AnchorLook → Looks
with_look l anchor look =
    if anchor == 0
    then record l { look_0 = look }
    else if anchor == 1 then record l { look_1 = look } else record l { look_2 = look }

abbrev pub new_look : AnchorLook
new_look = record { stage = ReadsLow; found = false }

abbrev pub new_looks : Looks
new_looks = record { look_0 = new_look; look_1 = new_look; look_2 = new_look }

-- a half was read: the low one, and then the high one
abbrev pub looked : AnchorLook → List Block → AnchorLook
looked look blocks = record { stage = stage_after look.stage; found = look.found || has_bal blocks }

abbrev pub having_looked : Looks → (anchor : ℕ) → List Block → Looks
having_looked l anchor blocks = with_look l anchor (looked (look_at l anchor) blocks)

-- one more, where both halves are read there
abbrev pub count_with_done : AnchorLook → (count : ℕ) → ℕ
count_with_done look count = if is_done look.stage then suc count else count

-- so many anchors are read
abbrev pub looked_on : Looks → ℕ
looked_on l = count_with_done l.look_0 (count_with_done l.look_1 (count_with_done l.look_2 zero))

-- as many as a sync needs
abbrev pub are_looked : (quorum : ℕ) → Looks → Bool
are_looked quorum l = nat_le quorum (looked_on l)

abbrev pub finds : AnchorLook → Bool
finds look = is_done look.stage && look.found

-- on an anchor that is read, some block has a nonzero bal
abbrev pub have_found : Looks → Bool
have_found l = finds l.look_0 || (finds l.look_1 || finds l.look_2)
