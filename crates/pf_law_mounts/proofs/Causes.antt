-- Each answer that a run tells is that of a call of its mount, which ended by what came to the mount last; and its line is told next.
use Rattle.std.proofs.Common.{◌≡◌, ℕ, List, [], ◌∷◌, ◌++◌, Option, Some, None, refl, sym, ap, subst, ◌∙◌, append-nil}
use Rattle.std.proofs.lemmas.Grind.{flat_map-append}
use Rattle.std.proofs.lemmas.List.{append_assoc}
use Rattle.pf_journal.specs.declared.layouts.Layout.{Layout}
use Rattle.pf_tree.specs.Calls.{FileCall}
use Rattle.pf_volume.specs.Volumes.{Extent}
use Rattle.pf_file_calls.specs.declared.answers.CallAnswer.{CallAnswer}
use Rattle.pf_mount.specs.declared.work.MountNext.{MountNext}
use Rattle.pf_mount.specs.declared.work.MountNext.TheVariants.{Done, Failed, Ready}
use Rattle.pf_law_calls.specs.Answering.{next_by}
use Rattle.pf_law_calls.specs.Lives.{Input, MountTold, lives}
use Rattle.pf_law_calls.specs.Since.{called}
use Rattle.pf_law_runs.specs.pf_world.specs.pf_world_moments.specs.Hosts.{pending_call, ended_line}
use Rattle.pf_law_runs.specs.pf_world.specs.pf_world_moments.specs.Moments.{Acts, Answers, HostAct, Moment, Writes}
use Rattle.pf_law_runs.specs.pf_world.specs.pf_mount_host.specs.Hosts.{call_ended}
use Rattle.pf_law_mounts.specs.Told.{inputs_in, inputs_of}

pub inputs_on : (told more : List Moment) → inputs_in (told ++ more) ≡ inputs_in told ++ inputs_in more
inputs_on told more = flat_map-append inputs_of told more

-- the last that came before was an input of this mount, with which its call ended so; and the line of this call is told next
pub record IsCaused (layout : Layout) (e : Extent) (before : List Moment) (m : ℕ) (answer : CallAnswer) (after : List Moment) : Type 0 where
  pub earlier : List Moment
  pub input : Input
  pub last : inputs_in before ≡ inputs_in earlier ++ record { mount = m; input = input } ∷ []
  pub done : next_by (lives layout e (inputs_in earlier) m).mount input ≡ Some (Done answer)
  pub rest : List Moment
  pub line : after ≡ Writes (ended_line m (pending_call (called (lives layout e (inputs_in earlier) m).mount input)) answer) ∷ rest

-- if the moment tells an answer, it has its cause in what was told before, and its line in what is told after
abbrev pub HasCause : Layout → Extent → (before : List Moment) → Moment → (after : List Moment) → Type 0
HasCause layout e before (Acts m (Answers answer)) after = IsCaused layout e before m answer after
HasCause layout e before moment after = Unit {0}

-- so each one that is told behind this
abbrev pub HaveCauses : Layout → Extent → (before more : List Moment) → Type 0
HaveCauses layout e before [] = Unit {0}
HaveCauses layout e before (y ∷ more) = HasCause layout e before y more × HaveCauses layout e (before ++ y ∷ []) more

cause_on : (layout : Layout) (e : Extent) (before : List Moment) (y : Moment) (after more : List Moment) → HasCause layout e before y after → HasCause layout e before y (after ++ more)
cause_on layout e before (Acts m (Answers answer)) after more c = record {
  earlier = c.earlier;
  input = c.input;
  last = c.last;
  done = c.done;
  rest = c.rest ++ more;
  line = ap (λ (all : List Moment). all ++ more) c.line;
}
cause_on layout e before y after more c = tt

pub causes_on : (layout : Layout) (e : Extent) (before told more : List Moment) → HaveCauses layout e before told → HaveCauses layout e (before ++ told) more → HaveCauses layout e before (told ++ more)
causes_on layout e before [] more first second = subst (λ (all : List Moment). HaveCauses layout e all more) (append-nil before) second
causes_on layout e before (y ∷ told) more first second = (
  cause_on layout e before y told more first.0,
  causes_on layout e (before ++ y ∷ []) told more first.1 (subst (λ (all : List Moment). HaveCauses layout e all more) (sym (append_assoc before (y ∷ []) told)) second),
)

pub cause_at : (layout : Layout) (e : Extent) (before told : List Moment) (y : Moment) (after : List Moment) → HaveCauses layout e before (told ++ y ∷ after) → HasCause layout e (before ++ told) y after
cause_at layout e before [] y after causes = subst (λ (all : List Moment). HasCause layout e all y after) (sym (append-nil before)) causes.0
cause_at layout e before (x ∷ told) y after causes =
    subst (λ (all : List Moment). HasCause layout e all y after) (append_assoc before (x ∷ []) told) (cause_at layout e (before ++ x ∷ []) told y after causes.1)

-- An act of a host that is an input of its mount, and what ends by it

module _ (layout : Layout) (e : Extent) (told : List Moment) (m : ℕ) (act : HostAct) (input : Input) (is : inputs_of (Acts m act) ≡ record { mount = m; input = input } ∷ []) (call : Option FileCall) where
  pub act_inputs : (next : Option MountNext) → inputs_in (Acts m act ∷ call_ended m call next) ≡ record { mount = m; input = input } ∷ []
  act_inputs next = ap (λ (its : List MountTold). its ++ inputs_in (call_ended m call next)) is ∙ ap (λ (its : List MountTold). record { mount = m; input = input } ∷ its) (nothing next)
    where
      nothing : (next : Option MountNext) → inputs_in (call_ended m call next) ≡ []
      nothing None = refl
      nothing (Some Ready) = refl
      nothing (Some (Done answer)) = refl
      nothing (Some Failed) = refl

  pub ended_causes : pending_call (called (lives layout e (inputs_in told) m).mount input) ≡ call → (next : Option MountNext) → next_by (lives layout e (inputs_in told) m).mount input ≡ next
      → HaveCauses layout e (told ++ Acts m act ∷ []) (call_ended m call next)
  ended_causes was None by = tt
  ended_causes was (Some Ready) by = (tt, tt)
  ended_causes was (Some (Done answer)) by =
      let last = inputs_on told (Acts m act ∷ []) ∙ ap (λ (its : List MountTold). inputs_in told ++ (its ++ [])) is in
      let line = ap (λ (its : Option FileCall). Writes (ended_line m its answer) ∷ []) (sym was) in
      (record { earlier = told; input = input; last = last; done = by; rest = []; line = line }, (tt, tt))
  ended_causes was (Some Failed) by = tt
