-- Where there was no memory for a whole session, some of it happened, and a beginning of what follows on that.
use Rattle.std.proofs.Common.{◌≡◌, ℕ, inl, inr, List, [], ◌∷◌, ◌++◌, refl, sym, ap, subst, ◌∙◌}
use Rattle.std.specs.Prelude.{IsTrue}
use Rattle.pf_protocol.specs.declared.answers.Answer.TheVariants.{Done}
use Rattle.pf_protocol.specs.Histories.{IsPrefix}
use Rattle.pf_protocol.specs.Answers.{IsLegal}
use Rattle.pf_protocol.proofs.ForMoments.{legal_before, prefix_of}
use Rattle.pf_chunk.specs.pf_group.specs.GroupIs.{GroupIs}
use Rattle.pf_chunk.specs.pf_group_rounds.specs.Agreeing.{TellsOfGroup, chunk_standing, told_history}
use Rattle.pf_chunk.specs.pf_group_rounds.specs.Begun.{GroupHasBegun}
use Rattle.pf_chunk.specs.pf_group_rounds.specs.Chunks.{Chunk}
use Rattle.pf_chunk.specs.pf_group_rounds.specs.Growing.{HasGrown}
use Rattle.pf_chunk.specs.pf_group_rounds.specs.Halts.{Halt}
use Rattle.pf_chunk.specs.pf_group_rounds.specs.Rounds.{applied}
use Rattle.pf_chunk.specs.pf_group_rounds.proofs.RunHistories.{applied_extends}
use Rattle.pf_chunk.specs.pf_group_rounds.proofs.GroupGrowth.{grown_tells, grown_trans}
use Rattle.pf_live_session.specs.pf_shared.specs.Moments.{happenings}
use Rattle.pf_live_session.specs.pf_live_seats.specs.declared.plan.LinePlan.{LinePlan}
use Rattle.pf_live_session.specs.pf_live_seats.specs.Deliveries.{LiveTrace}
use Rattle.pf_live_session.specs.declared.session.Lived.{Lived}
use Rattle.pf_live_session.specs.GroupSessions.{HasList, HasLived, LineHasStopped}
use Rattle.pf_chunk.specs.Lending.{after_all, all_happened}
use Rattle.pf_chunk.specs.Steps.{EventHasFailed}
use Rattle.pf_chunk.specs.Telling.{now_taken}
use Rattle.pf_chunk.specs.Views.{ChunkIs, run_of}
use Rattle.pf_chunk.proofs.Begun.{apply_of, filled_group, not_told, nothing_failed, told_later}
use Rattle.pf_live_session.specs.Steps.{ChunkHasNotLived}
use Rattle.pf_live_session.proofs.Sessions.{comes_to, events_in, part}

module _ (plan : LinePlan) (old new : ChunkIs) (legal : IsTrue new.group.told → IsLegal new.group.setup new.group.history) where
  -- what its seats did is not all followed up
  module _ (mid : GroupIs) (list : LiveTrace) (listed : HasList plan old.group list mid) (f : EventHasFailed (apply_of mid) mid new.group) where
    mid_legal : IsTrue old.group.told → IsLegal mid.setup mid.history
    mid_legal is =
        let there = subst IsTrue (sym (f.grown.told ∙ listed.grown.told)) is in
        legal_before mid.setup mid.history new.group.history f.grown.later (subst (λ setup. IsLegal setup new.group.history) f.grown.setup (legal there))

    would_be : (halts : List Halt) → TellsOfGroup halts mid → (all_happened halts (events_in (happenings list)) (run_of halts old)).chunk.group ≡ applied halts (chunk_standing halts mid)
    would_be halts tells =
        filled_group halts (record (run_of halts old) { group = after_all halts (chunk_standing halts old.group) (events_in (happenings list)) }) Done
        ∙ ap (applied halts) (comes_to plan old.group mid list listed mid_legal halts tells)

    pub not_held : ChunkHasNotLived plan old new
    not_held = record {
      events = events_in (happenings list);
      failed = record {
        grown = grown_trans old.group mid new.group listed.grown f.grown;
        begun = λ halts tells.
            let b = f.begun halts tells in
            let same = would_be halts (grown_tells halts mid new.group f.grown tells) in record {
              done = b.done;
              undone = b.undone;
              later = prefix_of (told_history halts old.group) (told_history halts mid) b.done (told_later halts old.group mid listed.grown) b.later;
              part = subst (λ (x : Chunk). IsPrefix b.done x.history) (sym same) b.part;
              recorded = b.recorded;
              returned = b.returned;
              state = b.state;
            };
      };
      is_part = λ halts tells. part plan old.group mid list listed mid_legal halts (grown_tells halts mid new.group f.grown tells);
    }

  -- its seats stopped
  pub stopped_so : LineHasStopped plan old.group new.group → ChunkHasNotLived plan old new
  stopped_so s = not_held s.then s.list s.listed (elim s.part [
    | inl same ↦ subst (EventHasFailed (apply_of s.then) s.then) (sym same) (nothing_failed (apply_of s.then) s.then (λ halts. applied_extends halts (chunk_standing halts s.then)))
    | inr begun ↦ record { grown = s.grown; begun = begun }
  ])

  -- the reads that were answered are not all told
  pub untold_so : (its : Lived) (g : GroupIs) → HasLived plan old.group its g → new.group ≡ now_taken g new.group.taken → ChunkHasNotLived plan old new
  untold_so its g lived same =
      not_held lived.then lived.list lived.listed (not_told lived.then g new.group lived.applied_then.grown lived.applied_then.run same)
