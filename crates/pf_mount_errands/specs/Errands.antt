-- What is pending at the anchors beside the asks of the position's ballots.
use Rattle.std.specs.Prelude.{ℕ, Bool, true, false, ◌||◌, ◌==◌, if◌then◌else◌, List}
use Rattle.pf_paxos.specs.declared.parts.AnchorAsk.{AnchorAsk}
use Rattle.pf_paxos.specs.declared.parts.AnchorAsk.TheVariants.{Nothing, OwnBlock, Half}
use Rattle.pf_paxos.specs.declared.parts.Part.{Part}
use Rattle.pf_paxos.specs.Parts.{part_at}
use Rattle.pf_mount_errands.specs.declared.errands.Errand.{Errand}
use Rattle.pf_mount_errands.specs.declared.errands.Errand.TheVariants.{Free, OfSync, OfPause, OfSuper, FillsSuper, LateWrite, LateRead}
use Rattle.pf_mount_errands.specs.declared.errands.Errands.{Errands}

abbrev pub errand_at : Errands → (anchor : ℕ) → Errand
errand_at e anchor = if anchor == 0 then e.errand_0 else if anchor == 1 then e.errand_1 else e.errand_2

abbrev pub with_errand : Errands → (anchor : ℕ) → Errand → Errands
with_errand e anchor errand =
    if anchor == 0
    then record e { errand_0 = errand }
    else if anchor == 1 then record e { errand_1 = errand } else record e { errand_2 = errand }

abbrev pub no_errands : Errands
no_errands = record { errand_0 = Free; errand_1 = Free; errand_2 = Free }

-- a sync begins: what is pending is of earlier work from then on
abbrev pub late : Errand → Errand
late OfSync = LateRead 8
late OfPause = LateRead 1
late OfSuper = LateRead 1
late FillsSuper = LateWrite
late errand = errand

abbrev pub all_late : Errands → Errands
all_late e = record { errand_0 = late e.errand_0; errand_1 = late e.errand_1; errand_2 = late e.errand_2 }

-- the position is left: what its ballots asked is of earlier work too
abbrev pub left_behind : Errand → (asked : AnchorAsk) → Errand
left_behind Free OwnBlock = LateWrite
left_behind Free (Half half) = LateRead 8
left_behind errand asked = late errand

abbrev pub all_left : Errands → List Part → Errands
all_left e parts = record {
  errand_0 = left_behind e.errand_0 (part_at parts 0).asked;
  errand_1 = left_behind e.errand_1 (part_at parts 1).asked;
  errand_2 = left_behind e.errand_2 (part_at parts 2).asked;
}

abbrev pub is_free_of : Errand → (asked : AnchorAsk) → Bool
is_free_of Free Nothing = true
is_free_of errand asked = false

-- nothing is pending at the anchor
abbrev pub is_anchor_free : Errands → List Part → (anchor : ℕ) → Bool
is_anchor_free e parts anchor = is_free_of (errand_at e anchor) (part_at parts anchor).asked

-- the least anchor at which nothing is pending; 2 where there is none
abbrev pub least_free_anchor : Errands → List Part → ℕ
least_free_anchor e parts = if is_anchor_free e parts 0 then 0 else if is_anchor_free e parts 1 then 1 else 2

abbrev pub is_of_pause : Errand → Bool
is_of_pause OfPause = true
is_of_pause errand = false

-- a pause's read is pending
abbrev pub is_pausing : Errands → Bool
is_pausing e = is_of_pause e.errand_0 || (is_of_pause e.errand_1 || is_of_pause e.errand_2)
