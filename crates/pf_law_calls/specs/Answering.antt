-- What the answer of the call of a mount over a layout says of the user's tree.
use Rattle.std.specs.Prelude.{ℕ, List, Option, None}
use Rattle.pf_volume.specs.Volumes.{Extent}
use Rattle.pf_file_calls.specs.declared.answers.CallAnswer.{CallAnswer}
use Rattle.pf_law_plans.specs.Answering as plans
use Rattle.pf_law_plans.specs.Exchanges.{Exchange}
use Rattle.pf_journal.specs.declared.layouts.Layout.{Layout}
use Rattle.pf_journal.specs.Layouts.{layout_of}
use Rattle.pf_mount.specs.declared.work.MountNext.{MountNext}
use Rattle.pf_mount.specs.Mounts.{MountIs, mount_answered, starting}
use Rattle.pf_law_calls.specs.Lives.{Asks, Begins, Hears, Input, MountTold, tables_from}
use Rattle.pf_law_calls.specs.Trees.{calls_of, data_blocks}

-- what ends with an input: the mount is ready, or it has failed, or its call is done
abbrev pub next_by : MountIs → Input → Option MountNext
next_by x (Begins call) = (starting x call).next
next_by x (Asks port) = None
next_by x (Hears port reply) = (mount_answered x port reply).next

-- the answer of this call, the mount's with this number, of a mount that stands at this position of the list and to which this came
abbrev pub CallIsAnswered : Layout → Extent → List MountTold → (list : List (List ℕ)) → (came : List Exchange) → (m number upto : ℕ) → CallAnswer → Type 0
CallIsAnswered layout v told list came m number upto answer =
    plans.PlannedIsAnswered (layout_of layout).positions v (data_blocks layout v) (calls_of told) (tables_from v) list came m number upto answer

-- it is that of the last call of the mount, as it stands
abbrev pub IsCallAnsweredBy : Layout → Extent → List MountTold → List (List ℕ) → List Exchange → (m : ℕ) → MountIs → CallAnswer → Type 0
IsCallAnsweredBy layout v told list came m x answer = CallIsAnswered layout v told list came m x.files.calls x.upto answer
