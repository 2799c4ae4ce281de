-- What moments tell of what comes to mounts.
use Rattle.std.proofs.Common.{◌≡◌, List, [], ◌∷◌, ◌++◌, refl, ap, ◌∙◌, append-nil}
use Rattle.pf_journal.specs.declared.layouts.Layout.{Layout}
use Rattle.pf_entry.specs.Lists.{Every}
use Rattle.pf_volume.specs.Volumes.{Extent}
use Rattle.pf_law_calls.specs.Lives.{MountTold}
use Rattle.pf_law_events.specs.Events.{Happening, mounts_told}
use Rattle.pf_law_runs.specs.pf_world.specs.pf_world_moments.specs.Moments.{Acts, Carries, Hands, Moment, Moves, Writes}
use Rattle.pf_law_mounts.specs.Told.{inputs_in, inputs_of}
use Rattle.pf_law_mounts.proofs.Causes.{HasCause, HaveCauses, causes_on, inputs_on}

-- With one happening

-- the inputs that are told now are those of this happening, and each answer has its cause
pub record Tells (layout : Layout) (e : Extent) (told : List Moment) (x : Happening) (more : List Moment) : Type 0 where
  pub inputs : inputs_in more ≡ mounts_told (x ∷ [])
  pub causes : HaveCauses layout e told more

-- With none

-- it is nothing that a host does
abbrev pub IsIdle : Moment → Type 0
IsIdle (Acts m act) = ⊥
IsIdle moment = Unit {0}

idle_of : (y : Moment) → IsIdle y → inputs_of y ≡ []
idle_of (Acts m act) idle = absurd idle
idle_of (Writes text) idle = refl
idle_of (Hands m k place) idle = refl
idle_of (Moves chunk to) idle = refl
idle_of (Carries chunk heard next) idle = refl

idle_in : (more : List Moment) → Every IsIdle more → inputs_in more ≡ []
idle_in [] idle = refl
idle_in (y ∷ more) idle = ap (λ (its : List MountTold). its ++ inputs_in more) (idle_of y idle.0) ∙ idle_in more idle.1

no_cause : (layout : Layout) (e : Extent) (told : List Moment) (y : Moment) (after : List Moment) → IsIdle y → HasCause layout e told y after
no_cause layout e told (Acts m act) after idle = absurd idle
no_cause layout e told (Writes text) after idle = tt
no_cause layout e told (Hands m k place) after idle = tt
no_cause layout e told (Moves chunk to) after idle = tt
no_cause layout e told (Carries chunk heard next) after idle = tt

no_causes : (layout : Layout) (e : Extent) (told more : List Moment) → Every IsIdle more → HaveCauses layout e told more
no_causes layout e told [] idle = tt
no_causes layout e told (y ∷ more) idle = (no_cause layout e told y more idle.0, no_causes layout e (told ++ y ∷ []) more idle.1)

-- the same came to mounts, and answers have their causes still
pub record IsAsTold (told all : List Moment) : Type 0 where
  pub inputs : inputs_in all ≡ inputs_in told
  pub causes : (layout : Layout) (e : Extent) → HaveCauses layout e [] told → HaveCauses layout e [] all

pub as_told : (told : List Moment) → IsAsTold told told
as_told told = record { inputs = refl; causes = λ layout e causes. causes }

pub told_idly : (told more : List Moment) → Every IsIdle more → IsAsTold told (told ++ more)
told_idly told more idle = record {
  inputs = inputs_on told more ∙ ap (λ (its : List MountTold). inputs_in told ++ its) (idle_in more idle) ∙ append-nil (inputs_in told);
  causes = λ layout e causes. causes_on layout e [] told more causes (no_causes layout e told more idle);
}
