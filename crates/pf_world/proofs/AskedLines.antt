-- Lines that write and read sectors.
use Rattle.std.proofs.Common.{[], ◌≡◌, ℕ, ◌<◌, length, true, false, IfSome, IsSome, IsTrue, List, ◌++◌, Option, Some, None, slice_get, refl, sym, ap, subst, ◌∙◌}
use Rattle.std.proofs.lemmas.Bool.{false≢true}
use Rattle.std.proofs.lemmas.List.{length-map}
use Rattle.pf_script.specs.declared.command.Command.{Command}
use Rattle.pf_script.specs.declared.command.Command.TheVariants as commands
use Rattle.pf_protocol.specs.declared.answers.Answer.{Answer}
use Rattle.pf_live_session.specs.pf_group.specs.GroupIs.{state_of}
use Rattle.pf_report.specs.Refusals.{line_refusal_text}
use Rattle.pf_report.specs.declared.refusals.LineRefusal.TheVariants as refusals
use Rattle.pf_report.specs.Texts.{answer_text, report_line}
use Rattle.pf_live_session.specs.pf_group_rounds.specs.Halts.{Halt}
use Rattle.pf_live_session.specs.pf_chunk.specs.declared.asked.LineAsk.{LineAsk}
use Rattle.pf_live_session.specs.pf_chunk.specs.Asked.{submit_ask}
use Rattle.pf_live_session.specs.pf_chunk.specs.Asking.{no_range_answer}
use Rattle.pf_live_session.specs.pf_chunk.specs.Saying.{said}
use Rattle.pf_live_session.specs.pf_chunk.specs.Views.{ChunkIs, run_of}
use Rattle.pf_world_hosts.specs.pf_world_moments.specs.Steps.{HaveBegun}
use Rattle.pf_world_hosts.specs.pf_world_moments.proofs.Groups.{run_there}
use Rattle.pf_world_hosts.specs.Volumes.{volume_quietly}
use Rattle.pf_live_session.specs.Sessions.{Session}
use Rattle.pf_world.specs.declared.kind.Kind.{Kind}
use Rattle.pf_world.specs.declared.kind.Kind.TheVariants.{Mounted, Raw}
use Rattle.pf_world.specs.Asked.{IsAllowed, IsSubmit, asked_by_line}
use Rattle.pf_world.specs.Worlds.{WorldTold, World, said_only}
use Rattle.pf_world.specs.Lines.{kind_decided, is_made, is_mounted, line_told, no_event_of, submit_told, submits_as, with_kind}
use Rattle.pf_world.specs.Headline.{is_live}
use Rattle.pf_world.specs.Steps.{LineEnds, WorldGoesOn, LineHasFailed, HasRun, IsOfMade, LineIsWithin, StopsIn, moves_after}
use Rattle.pf_world.specs.Views.{IsWorld, WorldIs, world_stands_at}
use Rattle.pf_script.specs.Lines.{group_named}
use Rattle.pf_world.proofs.ChunkAsks.{low_made, made_told}
use Rattle.pf_world.proofs.LineFailures.{said_fails}
use Rattle.pf_world.proofs.VolumeEvents.{answer_put, said_runs}

-- a line whose numbers are no range
module _ (old : WorldIs) (number chunk server : ℕ) (command : Command) (c : ChunkIs) (there : slice_get old.chunks chunk ≡ Some c) (line : (halts : List Halt) → line_told halts (world_stands_at halts [] old) number command ≡ no_event_of (world_stands_at halts [] old) number server (slice_get (world_stands_at halts [] old).volume.chunks chunk)) where
  abbrev pub refusal : Answer
  refusal = no_range_answer (slice_get (state_of c.group).servers server)

  tells : (halts : List Halt) → line_told halts (world_stands_at halts [] old) number command ≡ said_only (world_stands_at halts [] old) number (said refusal)
  tells halts = line halts ∙ ap (no_event_of (world_stands_at halts [] old) number server) (run_there halts old.chunks chunk c there)

  pub no_range_runs : IsWorld old → is_live command ≡ false → moves_after old.moves command ≡ old.moves → (before after : List ℕ) (answer : Answer) → IsSome (answer_text answer) → (IsTrue c.group.told → answer ≡ refusal) → IfSome (answer_text answer) (λ text. after ≡ before ++ report_line number text)
      → ((halts : List Halt) → LineEnds halts (world_stands_at halts [] old) command) → HasRun old number command before after old
  no_range_runs world plain stays before after answer some is put ends =
      said_runs old number command world plain stays old.kind before after (said answer) (λ halts v. volume_quietly v) (λ halts. refl) (answer_put (answer_text answer) number before after some put)
      (λ halts all. tells halts ∙ ap (λ a. said_only (world_stands_at halts [] old) number (said a)) (sym (is (all chunk c there).told))) ends

  pub no_range_fails : ((new : WorldIs) → LineIsWithin old [] number command new → StopsIn old number command new) → moves_after old.moves command ≡ old.moves → LineHasFailed old number command old
  no_range_fails within stays = said_fails old number command within stays old.kind old.fleet (λ halts. ap (λ (t : WorldTold). t.world.volume.chunks) (tells halts))

-- The kind of a run

pub mounted_kind : (kind : Kind) → is_mounted kind ≡ true → kind ≡ Mounted
mounted_kind Mounted is = refl
mounted_kind Raw is = absurd (false≢true is)

pub raw_kind : (kind : Kind) → is_mounted kind ≡ false → kind ≡ Raw
raw_kind Mounted is = absurd (false≢true (sym is))
raw_kind Raw is = refl

module _ (halts : List Halt) (w : World) (number chunk server first byte count : ℕ) (kind : Kind) (is : kind ≡ kind_decided w.kind Raw) where
  told_as : submit_told halts w number chunk server first byte count ≡ submits_as kind halts (with_kind w kind) number chunk server first byte count
  told_as = ap (λ k. submits_as k halts (with_kind w k) number chunk server first byte count) (sym is)

  -- no line submits in a run with mounts
  pub mounted_told : kind ≡ Mounted → submit_told halts w number chunk server first byte count ≡ said_only (record w { kind = Some kind }) number (line_refusal_text refusals.Mounted)
  mounted_told mounted = told_as ∙ ap (λ k. submits_as k halts (with_kind w kind) number chunk server first byte count) mounted

-- a line that submits, in a run with mounts
pub submit_mounted : (command : Command) → IsSubmit command → (halts : List Halt) (w : World) (number : ℕ) (kind : Kind) → is_made w (group_named command) ≡ true → kind ≡ kind_decided w.kind Raw → kind ≡ Mounted → line_told halts w number command ≡ said_only (record w { kind = Some kind }) number (line_refusal_text refusals.Mounted)
submit_mounted (commands.Submit g i s b n) submits halts w number kind made is mounted = made_told halts w number (commands.Submit g i s b n) made ∙ mounted_told halts w number g i s b n kind is mounted
submit_mounted command submits halts w number kind made is mounted = absurd submits

pub submit_plain : (command : Command) → IsSubmit command → is_live command ≡ false
submit_plain (commands.Submit g i s b n) submits = refl
submit_plain command submits = absurd submits

pub submit_within : (command : Command) → IsSubmit command → (old : WorldIs) (number : ℕ) (new : WorldIs) → LineIsWithin old [] number command new → StopsIn old number command new
submit_within (commands.Submit g i s b n) submits old number new within = within
submit_within command submits old number new within = absurd submits

pub submit_ends : (command : Command) → IsSubmit command → (halts : List Halt) (w : World) → LineEnds halts w command
submit_ends (commands.Submit g i s b n) submits halts w = λ made. tt
submit_ends command submits halts w = absurd submits

pub submit_stays : (command : Command) → IsSubmit command → (n : ℕ) → moves_after n command ≡ n
submit_stays (commands.Submit g i s b n) submits moves = refl
submit_stays command submits moves = absurd submits

pub submit_asks : (command : Command) → IsSubmit command → asked_by_line command ≡ None → ⊥
submit_asks (commands.Submit g i s b n) submits none = none_asked (g, submit_ask i s b n) none
  where
    none_asked : (p : ℕ × LineAsk) → Some p ≡ None → ⊥
    none_asked p is = cc
submit_asks command submits none = absurd submits

pub allowed_raw : (command : Command) (kind : Kind) → kind ≡ Raw → IsAllowed (Some kind) command
allowed_raw (commands.Submit g i s b n) kind raw = ap Some raw
allowed_raw command kind raw = tt

-- once the kind is decided
pub kind_world : (w : WorldIs) (kind : Option Kind) → IsWorld w → IsWorld (record w { kind = kind })
kind_world w kind world = record {
  volume = world.volume;
  each = λ k c there. let its = world.each k c there in record { number = its.number; failed = its.failed; setup = its.setup; ready = its.ready };
  is_fleet = world.is_fleet;
  sectors_are = world.sectors_are;
  made = world.made;
  few = world.few;
}

on_from : (old new : WorldIs) (kind : Option Kind) → WorldGoesOn (record old { kind = kind }) new → WorldGoesOn old new
on_from old new kind on = record { sectors = on.sectors; names = on.names; format = on.format; at_least = on.at_least; grown = on.grown }

-- where its group is made
made_in : (halts : List Halt) (sessions : List Session) (w : WorldIs) (g : ℕ) → g < length w.chunks → is_made (world_stands_at halts sessions w) (Some g) ≡ true
made_in halts sessions w g low = low_made (world_stands_at halts sessions w) (Some g) g refl (subst (λ n. g < n) (sym (length-map w.chunks (run_of halts))) low)

submit_same : (halts : List Halt) (sessions : List Session) (old : WorldIs) (number g i s b n : ℕ) (kind : Kind) → g < length old.chunks → kind ≡ kind_decided old.kind Raw
    → line_told halts (world_stands_at halts sessions (record old { kind = Some kind })) number (commands.Submit g i s b n) ≡ line_told halts (world_stands_at halts sessions old) number (commands.Submit g i s b n)
submit_same halts sessions old number g i s b n kind low is =
    made_told halts (world_stands_at halts sessions (record old { kind = Some kind })) number (commands.Submit g i s b n) (made_in halts sessions (record old { kind = Some kind }) g low)
    ∙ ap (λ k. submits_as k halts (with_kind (world_stands_at halts sessions old) k) number g i s b n) is
    ∙ sym (made_told halts (world_stands_at halts sessions old) number (commands.Submit g i s b n) (made_in halts sessions old g low))

pub submit_runs : (command : Command) → IsSubmit command → (old : WorldIs) (number : ℕ) (kind : Kind) → IsOfMade old command → kind ≡ kind_decided old.kind Raw → (before after : List ℕ) (new : WorldIs) → HasRun (record old { kind = Some kind }) number command before after new → HasRun old number command before after new
submit_runs (commands.Submit g i s b n) submits old number kind low is before after new ran = record {
  told = ran.told;
  put = ran.put;
  runs = record {
    is_world = ran.runs.is_world;
    goes_on = on_from old new (Some kind) ran.runs.goes_on;
    groups = ran.runs.groups;
    volume = ran.runs.volume;
    calls = ran.runs.calls;
    moves = ran.runs.moves;
    sessions = ran.runs.sessions;
    takes = ran.runs.takes;
    run = λ halts rest tells. sym (submit_same halts (ran.runs.sessions ++ rest) old number g i s b n kind low is) ∙ ran.runs.run halts rest tells;
    ends = λ halts rest tells made. tt;
    keeps = ran.runs.keeps;
  };
}
submit_runs command submits old number kind low is before after new ran = absurd submits

pub submit_fails : (command : Command) → IsSubmit command → (old : WorldIs) (number : ℕ) (kind : Kind) → IsOfMade old command → kind ≡ kind_decided old.kind Raw → (new : WorldIs) → LineHasFailed (record old { kind = Some kind }) number command new → LineHasFailed old number command new
submit_fails (commands.Submit g i s b n) submits old number kind low is new failed = record {
  goes_on = on_from old new (Some kind) failed.goes_on;
  groups = failed.groups;
  passes = failed.passes;
  stopped = λ halts tells. subst (λ (t : WorldTold). HaveBegun halts old.chunks t.world.volume.chunks new.chunks) (submit_same halts [] old number g i s b n kind low is) (failed.stopped halts tells);
}
submit_fails command submits old number kind low is new failed = absurd submits

-- the same of any line that names one
pub made_of : (halts : List Halt) (sessions : List Session) (w : WorldIs) (command : Command) → IsOfMade w command → is_made (world_stands_at halts sessions w) (group_named command) ≡ true
made_of halts sessions w command made = by_name (group_named command) made where
  by_name : (o : Option ℕ) → IfSome o (λ g. g < length w.chunks) → is_made (world_stands_at halts sessions w) o ≡ true
  by_name None low = refl
  by_name (Some g) low = made_in halts sessions w g low

-- a line that does not submit may be run in a run of any kind
pub not_submit : (command : Command) (kind : Option Kind) → ((g i s b n : ℕ) → command ≡ commands.Submit g i s b n → ⊥) → IsAllowed kind command
not_submit (commands.Submit g i s b n) kind not = absurd (not g i s b n refl)
not_submit command kind not = tt
