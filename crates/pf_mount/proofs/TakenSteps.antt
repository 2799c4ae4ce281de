-- A mount that takes over a step is as every mount is.
use Rattle.std.proofs.Common.{◌≡◌, ℕ, ◌<◌, Bool, true, false, if◌then◌else◌, length, Option, None, refl, sym, ap, subst, ◌∙◌}
use Rattle.pf_base.specs.declared.asks.Reply.{Reply}
use Rattle.pf_volume.specs.Volumes.{Extent, IsVolume}
use Rattle.pf_tree_tables.specs.Tables.{Tables}
use Rattle.pf_tree.specs.Calls.{FileCall}
use Rattle.pf_file_calls.specs.declared.calls.Pending.{Pending}
use Rattle.pf_file_calls.specs.declared.moving.DataMoving.{DataMoving}
use Rattle.pf_file_calls.specs.Calls.{FilesIs}
use Rattle.pf_file_calls.specs.Moving.{AsksInside, IsTreeOf, data_moves, moves_on}
use Rattle.pf_mount.specs.Filing.{IsShortFor}
use Rattle.pf_mount.specs.declared.stand.Stand.{Stand}
use Rattle.pf_mount.specs.declared.stand.MountStep.{MountStep}
use Rattle.pf_mount.specs.declared.work.MountTask.{MountTask}
use Rattle.pf_journal.specs.declared.layouts.Layout.{Layout}
use Rattle.pf_journal.specs.Layouts.{VolumeHasRoom, layout_of}
use Rattle.pf_mount_errands.specs.Positions.{IsOverAnchors, PositionIs, journal_of}
use Rattle.pf_mount.specs.Mounts.{MountIs, MountOutcome, Worked, mount_answered, port_answered, stand_of, taken, takes_work}
use Rattle.pf_mount.specs.Mounts.{tables_held}
use Rattle.pf_mount.specs.Standing.{IsMount, IsTask}
use Rattle.pf_mount.proofs.LaidOut.{Laid, port_laid}
use Rattle.pf_mount.proofs.MountKept.{IsStep, IsWorked, port_worked, task_after}

short_if : (ends : Bool) (p : Option Pending) → IsShortFor p → IsShortFor (if ends then None else p)
short_if true p is = tt
short_if false p is = is

-- by the layout of the position before
pub taken_is_mount : (files : FilesIs) (task : MountTask) (before : ℕ) (p : PositionIs) (step : MountStep) → files.mount < 16 → VolumeHasRoom p.layout files.volume → files.first ≡ (journal_of p).first → IsOverAnchors p → Laid p step.stand.position → length files.tables.inodes ≡ 1024 → IsShortFor files.pending → IsTask files.volume (journal_of p).positions before task → IsStep files.volume (journal_of p).positions before step → IsMount (taken files task step).mount
taken_is_mount files task before p step number room first over laid inodes call was is =
    let P : Layout → Type 0 = λ l. VolumeHasRoom l files.volume → files.first ≡ (layout_of l).first → IsTask files.volume (layout_of l).positions before task → IsStep files.volume (layout_of l).positions before step → IsMount (taken files task step).mount in
    subst P laid.layout
    (λ room first was is. record {
      number = number;
      room = room;
      over = laid.over over;
      first = first;
      upto = is.upto;
      inodes = inodes;
      call = short_if step.ends files.pending call;
      task = task_after files.volume (journal_of step.stand.position).positions before step.stand.upto step.task task was is.task;
    })
    room first was is

-- the tables of a mount are other ones
pub mount_with : (m : MountIs) (tables : Tables) → IsMount m → length tables.inodes ≡ 1024 → IsMount (record m { files = record m.files { tables = tables } })
mount_with m tables is inodes = record { number = is.number; room = is.room; over = is.over; first = is.first; upto = is.upto; inodes = inodes; call = is.call; task = is.task }

-- what is worked out of an answer is taken over
pub taken_as : (m : MountIs) (files : FilesIs) (port : ℕ) (reply : Reply) (step : MountStep) (o : MountOutcome) → files ≡ record m.files { tables = files.tables } → record { step = step; tables = files.tables } ≡ port_answered (stand_of m) (tables_held m.files) m.files.pending m.task.work port reply → o ≡ taken files m.task step → o ≡ mount_answered m port reply
taken_as m files port reply step o kept made is =
    is
    ∙ ap (λ (f : FilesIs). taken f m.task step) kept
    ∙ ap (λ (w : Worked). takes_work m w) made

module _ (first : (v : Extent) (tables : Tables) (size : ℕ) (call : FileCall) → IsVolume v → IsTreeOf v tables → AsksInside v (data_moves v tables size call)) (next : (v : Extent) (tables : Tables) (moving : DataMoving) (reply : Reply) → IsVolume v → IsTreeOf v tables → AsksInside v (moves_on v tables moving reply)) (m : MountIs) (is : IsMount m) (volume : IsVolume m.files.volume) (tree : IsTreeOf m.files.volume m.files.tables) where
  pub answer_worked : (port : ℕ) (reply : Reply) (w : Worked) → w ≡ port_answered (stand_of m) (tables_held m.files) m.files.pending m.task.work port reply → IsWorked m.files.volume (journal_of m.position).positions m.upto w
  answer_worked port reply w made =
      let P : Worked → Type 0 = IsWorked m.files.volume (journal_of m.position).positions m.upto in
      subst P (sym made) (port_worked (journal_of m.position).positions m.upto first (stand_of m) (tables_held m.files) m.files.pending refl is.upto refl volume tree is.inodes next m.task.work is.task.work port reply)

-- the fields of a mount are its value
pub answer_as : (m n : MountIs) (s : Stand) (files : FilesIs) (port : ℕ) (reply : Reply) (step : MountStep) (o : MountOutcome) → m ≡ n → s ≡ stand_of n → files ≡ record m.files { tables = files.tables } → record { step = step; tables = files.tables } ≡ port_answered s (tables_held m.files) m.files.pending m.task.work port reply → o ≡ taken files m.task step → o ≡ mount_answered n port reply
answer_as m n s files port reply step o same s_is kept made is =
    let P : MountIs → Type 0 = λ x. s ≡ stand_of x → o ≡ mount_answered x port reply in
    subst P same
    (λ here. taken_as m files port reply step o kept (made ∙ ap (λ (x : Stand). port_answered x (tables_held m.files) m.files.pending m.task.work port reply) here) is)
    s_is

module _ (first : (v : Extent) (tables : Tables) (size : ℕ) (call : FileCall) → IsVolume v → IsTreeOf v tables → AsksInside v (data_moves v tables size call)) (next : (v : Extent) (tables : Tables) (moving : DataMoving) (reply : Reply) → IsVolume v → IsTreeOf v tables → AsksInside v (moves_on v tables moving reply)) (m n : MountIs) (same : m ≡ n) (is : IsMount n) (volume : IsVolume n.files.volume) (tree : IsTreeOf n.files.volume n.files.tables) (s : Stand) (s_is : s ≡ stand_of n) (files : FilesIs) (port : ℕ) (reply : Reply) (step : MountStep) (kept : files ≡ record m.files { tables = files.tables }) (made : record { step = step; tables = files.tables } ≡ port_answered s (tables_held m.files) m.files.pending m.task.work port reply) where
  is_mount : IsMount m
  is_mount = subst IsMount (sym same) is

  worked : IsWorked m.files.volume (journal_of m.position).positions m.upto (record { step = step; tables = files.tables })
  worked =
      let V : MountIs → Type 0 = λ x. IsVolume x.files.volume in
      let T : MountIs → Type 0 = λ x. IsTreeOf x.files.volume x.files.tables in
      let here : s ≡ stand_of m = s_is ∙ ap stand_of (sym same) in
      answer_worked first next m is_mount (subst V (sym same) volume) (subst T (sym same) tree) port reply (record { step = step; tables = files.tables })
      (made ∙ ap (λ (x : Stand). port_answered x (tables_held m.files) m.files.pending m.task.work port reply) here)

  laid : Laid m.position step.stand.position
  laid =
      let P : Worked → Type 0 = λ w. Laid m.position w.step.stand.position in
      let here : s ≡ stand_of m = s_is ∙ ap stand_of (sym same) in
      subst P (sym (made ∙ ap (λ (x : Stand). port_answered x (tables_held m.files) m.files.pending m.task.work port reply) here)) (port_laid (stand_of m) (tables_held m.files) m.files.pending m.task.work port reply)

  -- with the tables that were decided, before the step is taken over
  pub mount_between : IsMount (record m { files = files })
  mount_between =
      let P : FilesIs → Type 0 = λ f. IsMount (record m { files = f }) in
      subst P (sym kept) (mount_with m files.tables is_mount worked.inodes)

  pub mount_after : IsMount (taken files m.task step).mount
  mount_after =
      let P : FilesIs → Type 0 = λ f. IsMount (taken f m.task step).mount in
      subst P (sym kept) (taken_is_mount (record m.files { tables = files.tables }) m.task m.upto m.position step is_mount.number is_mount.room is_mount.first is_mount.over laid worked.inodes is_mount.call is_mount.task worked.step)
