use Rattle.std.proofs.Common.{◌≡◌, ◌∙◌, Some, length, sym, ap, subst}
use Rattle.pf_entry.specs.declared.ops.Op.{Op}
use Rattle.pf_protocol.specs.Saving.{changed, snapshots_after}
use Rattle.pf_server_apply.specs.Jobs.{HasRoomForMark, IsFilledFor, OpIsInside}
use Rattle.pf_server_apply.proofs.SectorChanges.{changed_by_write, changed_by_noop, changed_by_mark, within_chunk}
use Rattle.pf_server_apply.proofs.jobs.carry_out.Goals as goal
use Rattle.pf_server_apply.proofs.jobs.carry_out.Goals.{in-Write+in-Some-1, in-Write+in-None-1, in-Noop+in-Some-1, in-Noop+in-None-1, in-Mark+in-Some, in-Mark+in_default}

pub returns-clause-sectors : goal.returns-clause-sectors
returns-clause-sectors c =
    let sectors = c.args.sectors.now in
    elim c.match-op.branch [
      | in-Write+in-Some-1 w ↦
          let inside = subst (OpIsInside (length sectors)) w.in-Write.is c.requires.inside in
          w.sectors-is ∙ w.swap_in.ensures.table
          ∙ changed_by_write w.in-Write.range w.in-Write.payload c.args.filled.now.sectors sectors inside.0.few inside.1 (within_chunk w.in-Write.range (length sectors) inside.0.few inside.2)
          (subst (λ o. IsFilledFor o c.args.filled.now) w.in-Write.is c.requires.filled)
          ∙ ap (λ o. changed o sectors) (sym w.in-Write.is)
      | in-Write+in-None-1 w ↦
          let inside = subst (OpIsInside (length sectors)) w.in-Write.is c.requires.inside in
          w.sectors-is ∙ w.swap_in.ensures.table
          ∙ changed_by_write w.in-Write.range w.in-Write.payload c.args.filled.now.sectors sectors inside.0.few inside.1 (within_chunk w.in-Write.range (length sectors) inside.0.few inside.2)
          (subst (λ o. IsFilledFor o c.args.filled.now) w.in-Write.is c.requires.filled)
          ∙ ap (λ o. changed o sectors) (sym w.in-Write.is)
      | in-Noop+in-Some-1 w ↦ w.sectors-is ∙ changed_by_noop sectors ∙ ap (λ o. changed o sectors) (sym w.in-Noop.is)
      | in-Noop+in-None-1 w ↦ w.sectors-is ∙ changed_by_noop sectors ∙ ap (λ o. changed o sectors) (sym w.in-Noop.is)
      | in-Mark+in-Some w ↦ w.sectors-is ∙ changed_by_mark sectors ∙ ap (λ o. changed o sectors) (sym w.in-Mark.is)
      | in-Mark+in_default w ↦ w.sectors-is ∙ changed_by_mark sectors ∙ ap (λ o. changed o sectors) (sym w.in-Mark.is)
    ]

pub returns-clause-snapshots : goal.returns-clause-snapshots
unfolding snapshots_after
returns-clause-snapshots c =
    let after = λ (o : Op). snapshots_after o c.args.filled.now.slot c.args.sectors.now c.args.snapshots.now in
    elim c.match-op.branch [
      | in-Write+in-Some-1 w ↦ w.snapshots-is ∙ ap after (sym w.in-Write.is)
      | in-Write+in-None-1 w ↦ w.snapshots-is ∙ ap after (sym w.in-Write.is)
      | in-Noop+in-Some-1 w ↦ w.snapshots-is ∙ ap after (sym w.in-Noop.is)
      | in-Noop+in-None-1 w ↦ w.snapshots-is ∙ ap after (sym w.in-Noop.is)
      | in-Mark+in-Some w ↦ w.snapshots-is ∙ w.keep_snapshot.ensures ∙ ap after (sym w.in-Mark.is)
      | in-Mark+in_default w ↦ let room : c.args.room ≡ Some (length c.args.sectors.now) = subst (λ o. HasRoomForMark o c.args.room (length c.args.sectors.now)) w.in-Mark.is c.requires.room in let none = w.in_default.is in absurd (cc)
    ]
