-- Lines that lay the journal on three anchors.
use Rattle.std.proofs.Common.{◌≡◌, ◌↔◌, ℕ, nat_lt, Bool, true, false, not, ◌||◌, if◌then◌else◌, IsTrue, List, [], ◌++◌, Option, Some, None, refl, sym, ap, arith, append-nil}
use Rattle.std.proofs.lemmas.Bool.{false≢true}
use Rattle.std.proofs.lemmas.Bool.Decides.{nat_tests}
use Rattle.pf_journal.specs.Layouts.{HasAnchors}
use Rattle.pf_volume.specs.Volumes.{Extent, IsVolume}
use Rattle.pf_report.specs.declared.refusals.LineRefusal.{LineRefusal}
use Rattle.pf_report.specs.Refusals.{line_refusal_text}
use Rattle.pf_script.specs.declared.command.Command.TheVariants as commands
use Rattle.pf_protocol.specs.declared.answers.Answer.TheVariants.{Done}
use Rattle.pf_report.specs.Texts.{report_line}
use Rattle.pf_live_session.specs.pf_chunk.specs.Saying.{said}
use Rattle.pf_world_hosts.specs.Calls.{HasAnchored}
use Rattle.pf_world_hosts.specs.Steps.{FleetIs, FleetPart}
use Rattle.pf_world_hosts.specs.Steps as fleets
use Rattle.pf_world_hosts.specs.Volumes.{anchors, volume_quietly}
use Rattle.pf_world.specs.Lines.{anchors_unless, keeps_from_anchors, lacks_anchors}
use Rattle.pf_world.specs.Steps.{LineHasFailed, HasRun}
use Rattle.pf_world.specs.Views.{IsWorld, WorldIs, world_stands_at}
use Rattle.pf_world.specs.Worlds.{World}
use Rattle.pf_world.proofs.LineFailures.{said_fails}
use Rattle.pf_world.proofs.VolumeEvents.{becomes, gone_runs, said_runs}
use Rattle.pf_world.proofs.Shown.{still_gone}

-- what keeps a world's journal from three anchors
abbrev pub kept_from : WorldIs → Option LineRefusal
kept_from w = keeps_from_anchors w.kind w.fleet.layout w.fleet.hosts w.fleet.volume

module _ (old : WorldIs) (number : ℕ) where
  module _ (world : IsWorld old) (before after : List ℕ) where
    pub anchored_runs : (next : FleetIs) → HasAnchored old.fleet next → kept_from old ≡ None → after ≡ before ++ report_line number (said Done) → HasRun old number commands.Anchors before after (becomes old old.chunks next old.kind)
    anchored_runs next anchored free put =
        let part : FleetPart = λ halts v. volume_quietly (anchors v) in
        let calls : next.calls ≡ old.fleet.calls = ap (λ (f : FleetIs). f.calls) anchored.is in
        gone_runs old number commands.Anchors world refl refl part old.kind old.chunks next before before after (said Done)
        (still_gone old world part next (anchored.still old.chunks world.is_fleet) [] before before (sym (append-nil before)) (λ halts. ap (λ f. volume_quietly (fleets.volume_stands_at halts old.chunks f)) (sym anchored.is)))
        put (ap (λ (f : FleetIs). f.volume) anchored.is) (omega (arith, calls)) (λ halts tells. ap (anchors_unless (world_stands_at halts [] old) number) free) (λ halts tells made. tt)

    pub kept_runs : (refusal : LineRefusal) → kept_from old ≡ Some refusal → after ≡ before ++ report_line number (line_refusal_text refusal) → HasRun old number commands.Anchors before after (becomes old old.chunks old.fleet old.kind)
    kept_runs refusal kept put =
        said_runs old number commands.Anchors world refl refl old.kind before after (line_refusal_text refusal) (λ halts v. volume_quietly v) (λ halts. refl) put (λ halts tells. ap (anchors_unless (world_stands_at halts [] old) number) kept) (λ halts made. tt)

  same_chunks : (w : World) (o : Option LineRefusal) → (anchors_unless w number o).world.volume.chunks ≡ w.volume.chunks
  same_chunks w None = refl
  same_chunks w (Some refusal) = refl

  pub anchors_fail : (next : FleetIs) → LineHasFailed old number commands.Anchors (becomes old old.chunks next old.kind)
  anchors_fail next = said_fails old number commands.Anchors (λ new within. within) refl old.kind next (λ halts. same_chunks (world_stands_at halts [] old) (kept_from old))

-- a volume lacks anchors where it does not have them
lacks_by : (v : Extent) → IsVolume v → (HasAnchors v → ⊥) → (few small : Bool) → nat_lt v.chunks 4 ≡ few → nat_lt v.sectors 4096 ≡ small → true ≡ (few || small)
lacks_by v volume none true small few_is small_is = refl
lacks_by v volume none false true few_is small_is = refl
lacks_by v volume none false false few_is small_is =
    let low = volume.few_sectors in
    absurd (none (record { chunks = grind (arith, nat_tests); sectors = grind (arith, nat_tests, low) }))

has_by : (v : Extent) → HasAnchors v → false ≡ lacks_anchors v
has_by v has = let chunks = has.chunks in let sectors = has.sectors in grind (arith, nat_tests, chunks, sectors)

pub lacks_is : (has : Bool) (v : Extent) → IsVolume v → (IsTrue has ↔ HasAnchors v) → not has ≡ lacks_anchors v
lacks_is true v volume both = has_by v (both.0 refl)
lacks_is false v volume both = lacks_by v volume (λ has. false≢true (both.1 has)) (nat_lt v.chunks 4) (nat_lt v.sectors 4096) refl refl
