-- A mount that begins a call is as every mount is, and what the machine makes it.
use Rattle.std.proofs.Common.{◌≡◌, ℕ, suc, Option, Some, None, refl, sym, ap, subst, ◌∙◌}
use Rattle.pf_volume.specs.Volumes.{Extent, IsVolume}
use Rattle.pf_tree_tables.specs.Tables.{Tables}
use Rattle.pf_tree.specs.Held.{Held}
use Rattle.pf_tree.specs.Calls.{FileCall}
use Rattle.pf_txn.specs.Spelling.{IsShortCall}
use Rattle.pf_file_calls.specs.declared.calls.Pending.{Pending}
use Rattle.pf_file_calls.specs.Calls.{FilesIs}
use Rattle.pf_file_calls.specs.Moving.{AsksInside, IsTreeOf, data_moves}
use Rattle.pf_mount.specs.declared.stand.Stand.{Stand}
use Rattle.pf_mount.specs.declared.stand.MountStep.{MountStep}
use Rattle.pf_mount.specs.Mounts.{MountIs, MountOutcome, having_started, stand_of, starting, syncs, taken}
use Rattle.pf_mount.specs.Mounts.{tables_held}
use Rattle.pf_mount.specs.Standing.{IsMount}
use Rattle.pf_mount_errands.specs.Positions.{journal_of}
use Rattle.pf_mount.proofs.LaidOut.{Laid, syncs_laid}
use Rattle.pf_mount.proofs.MountKept.{IsStep, syncs_step}
use Rattle.pf_mount.proofs.TakenSteps.{taken_is_mount}

abbrev call_or : FileCall → Option Pending → FileCall
call_or d None = d
call_or d (Some p) = p.call

pub same_call : (number : ℕ) (call : FileCall) (p : Pending) → Some (record { number = number; call = call }) ≡ Some p → p.call ≡ call
same_call number call p e = sym (ap (call_or call) e)

-- the first step of a call
pub begun_step : (m : MountIs) (s : Stand) (h : Held) (number : ℕ) (call : FileCall) (step : MountStep) → s ≡ stand_of m → h ≡ tables_held m.files → number ≡ suc m.files.calls → step ≡ syncs s h (Some (record { number = number; call = call })) → step ≡ syncs (stand_of m) (tables_held m.files) (Some (record { number = suc m.files.calls; call = call }))
begun_step m s h number call step s_is h_is number_is step_is =
    step_is
    ∙ ap (λ (x : Stand). syncs x h (Some (record { number = number; call = call }))) s_is
    ∙ ap (λ (x : Held). syncs (stand_of m) x (Some (record { number = number; call = call }))) h_is
    ∙ ap (λ (k : ℕ). syncs (stand_of m) (tables_held m.files) (Some (record { number = k; call = call }))) number_is

pub begun_as : (m n : MountIs) (call other : FileCall) (files : FilesIs) (step : MountStep) (o : MountOutcome) → m ≡ n → step ≡ syncs (stand_of m) (tables_held m.files) (Some (record { number = suc m.files.calls; call = call })) → other ≡ call → files ≡ (having_started m other).files → o ≡ taken files m.task step → o ≡ starting n call
begun_as m n call other files step o same step_is other_is files_are is =
    let P : MountIs → Type 0 = λ x. o ≡ starting x call in
    subst P same
    (is
    ∙ ap (λ (f : FilesIs). taken f m.task step) files_are
    ∙ ap (λ (k : FileCall). taken (having_started m k).files m.task step) other_is
    ∙ ap (λ (x : MountStep). taken (having_started m call).files m.task x) step_is)

module _ (first : (v : Extent) (tables : Tables) (size : ℕ) (call : FileCall) → IsVolume v → IsTreeOf v tables → AsksInside v (data_moves v tables size call)) (m n : MountIs) (same : m ≡ n) (is : IsMount n) (volume : IsVolume n.files.volume) (tree : IsTreeOf n.files.volume n.files.tables) (call other : FileCall) (short : IsShortCall call) (files : FilesIs) (other_is : other ≡ call) (files_are : files ≡ (having_started m other).files) where
  is_mount : IsMount m
  is_mount = subst IsMount (sym same) is

  begun_files : files ≡ (having_started m call).files
  begun_files = files_are ∙ ap (λ (k : FileCall). (having_started m k).files) other_is

  pub begun_after : (step : MountStep) → step ≡ syncs (stand_of m) (tables_held m.files) (Some (record { number = suc m.files.calls; call = call })) → IsMount (taken files m.task step).mount
  begun_after step step_is =
      let P : FilesIs → Type 0 = λ f. IsMount (taken f m.task step).mount in
      let S : MountStep → Type 0 = IsStep m.files.volume (journal_of m.position).positions m.upto in
      let L : MountStep → Type 0 = λ x. Laid m.position x.stand.position in
      let V : MountIs → Type 0 = λ x. IsVolume x.files.volume in
      let T : MountIs → Type 0 = λ x. IsTreeOf x.files.volume x.files.tables in
      let made = syncs_step (journal_of m.position).positions m.upto first (stand_of m) (tables_held m.files) (Some (record { number = suc m.files.calls; call = call })) refl is_mount.upto (subst V (sym same) volume) (subst T (sym same) tree) in
      let laid = subst L (sym step_is) (syncs_laid (stand_of m) (tables_held m.files) (Some (record { number = suc m.files.calls; call = call }))) in
      subst P (sym begun_files) (taken_is_mount (having_started m call).files m.task m.upto m.position step is_mount.number is_mount.room is_mount.first is_mount.over laid is_mount.inodes short is_mount.task (subst S (sym step_is) made))
