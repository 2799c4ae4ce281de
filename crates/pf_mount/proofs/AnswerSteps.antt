-- What the machine makes of an answer, along equations.
use Rattle.std.proofs.Common.{◌≡◌, ◌≢◌, ℕ, ◌==◌, List, length, Option, Some, None, Result, IfOk, slice_get, sym, ap, subst, ◌∙◌}
use Rattle.std.proofs.lemmas.Bool.{cond-false, cond-true, eq-eqb, ne_eqb}
use Rattle.std.proofs.lemmas.Result.{IfOk-weaker}
use Rattle.pf_base.specs.declared.asks.Reply.{Reply}
use Rattle.pf_base.specs.declared.asks.Reply.TheVariants.{Written, Bytes}
use Rattle.pf_file_calls.specs.declared.moving.DataMoving.{DataMoving}
use Rattle.pf_file_calls.specs.declared.moving.DataMoving.TheVariants.{Fetches, Stores, Gathers}
use Rattle.pf_file_calls.specs.Moving.{HasBlock}
use Rattle.pf_mount.specs.Filing.{AnswersMoving}
use Rattle.pf_tree.specs.Held.{Held}
use Rattle.pf_file_calls.specs.declared.calls.Pending.{Pending}
use Rattle.pf_mount.proofs.DataAsks.{one_sector}
use Rattle.pf_mount_errands.specs.declared.errands.Errand.{Errand}
use Rattle.pf_mount_errands.specs.declared.errands.Errand.TheVariants.{FillsSuper}
use Rattle.pf_mount_errands.specs.Errands.{errand_at}
use Rattle.pf_mount_errands.specs.Positions.{anchors_of}
use Rattle.pf_mount.specs.declared.stand.Stand.{Stand}
use Rattle.pf_mount.specs.declared.stand.MountStep.{MountStep}
use Rattle.pf_mount.specs.declared.work.MountWork.{MountWork}
use Rattle.pf_mount.specs.declared.work.MountWork.TheVariants.{ReadsSuper, Moves}
use Rattle.pf_mount.specs.Mounts.{Worked, data_answered, errand_answered, errand_freed, port_answered, super_answered, super_filled, super_read}
use Rattle.pf_mount.specs.Standing.{AnswersData, HasSectors}

of_moving : (moving : DataMoving) (reply : Reply) → AnswersMoving moving reply → HasBlock reply
of_moving (Stores f index) Written is = tt
of_moving (Stores f index) (Bytes sectors) is = absurd is
of_moving (Fetches f index) Written is = tt
of_moving (Fetches f index) (Bytes sectors) is = is
of_moving (Gathers inode offset to index bytes) Written is = tt
of_moving (Gathers inode offset to index bytes) (Bytes sectors) is = is

pub has_block : (work : MountWork) (moving : DataMoving) (reply : Reply) → work ≡ Moves moving → AnswersData work None reply → HasBlock reply
has_block work moving reply e is = let P : MountWork → Type 0 = λ w. AnswersData w None reply in of_moving moving reply (subst P e is)

-- the superblock was read
pub super_from : {E : Type 0} (r : Result MountStep E) (s : Stand) (h : Held) (p : Option Pending) (work : MountWork) (reply : Reply) (sectors : List (List ℕ)) (sector : List ℕ) → work ≡ ReadsSuper → reply ≡ Bytes sectors → HasSectors 1 reply → slice_get sectors 0 ≡ Some sector → IfOk r (λ step. step ≡ super_read s h p sector) → IfOk r (λ step. step ≡ super_answered s h p work reply)
super_from r s h p work reply sectors sector work_is reply_is one its made =
    let few : length sectors ≡ 1 = subst (HasSectors 1) reply_is one in
    IfOk-weaker r (λ step. step ≡ super_read s h p sector) (λ step. step ≡ super_answered s h p work reply)
    (λ step is.
    is
    ∙ ap (λ (bytes : List ℕ). super_read s h p bytes) (one_sector sectors sector few its)
    ∙ ap (λ (x : Reply). super_answered s h p ReadsSuper x) (sym reply_is)
    ∙ ap (λ (x : MountWork). super_answered s h p x reply) (sym work_is))
    made

module _ {E : Type 0} (r : Result MountStep E) (s : Stand) (h : Held) (p : Option Pending) (work : MountWork) (port : ℕ) (reply : Reply) where
  abbrev Makes : MountStep → Type 0
  Makes step = record { step = step; tables = h.tables } ≡ port_answered s h p work port reply

  -- at the port for file data
  pub data_from : port ≡ anchors_of s.position → IfOk r (λ step. step ≡ data_answered s h work reply) → IfOk r Makes
  data_from last = IfOk-weaker r (λ step. step ≡ data_answered s h work reply) Makes
      (λ step is.
      let w : Worked = record { step = data_answered s h work reply; tables = h.tables } in
      ap (λ (x : MountStep). record { step = x; tables = h.tables }) is
      ∙ sym (cond-true (port == anchors_of s.position) w (errand_answered (errand_at s.errands port) s h p work port reply) (eq-eqb port (anchors_of s.position) last)))

  -- the superblock was written
  pub filled_from : port ≢ anchors_of s.position → errand_at s.errands port ≡ FillsSuper → IfOk r (λ step. step ≡ super_filled (errand_freed s port) h p work) → IfOk r Makes
  filled_from apart fills = IfOk-weaker r (λ step. step ≡ super_filled (errand_freed s port) h p work) Makes
      (λ step is.
      let w : Worked = record { step = data_answered s h work reply; tables = h.tables } in
      ap (λ (x : MountStep). record { step = x; tables = h.tables }) is
      ∙ ap (λ (x : Errand). errand_answered x s h p work port reply) (sym fills)
      ∙ sym (cond-false (port == anchors_of s.position) w (errand_answered (errand_at s.errands port) s h p work port reply) (ne_eqb port (anchors_of s.position) apart)))
