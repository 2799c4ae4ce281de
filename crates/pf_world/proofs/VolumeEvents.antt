-- What happens to a volume and its hosts makes a line.
use Rattle.std.proofs.Common.{◌≡◌, ℕ, suc, min, length, ◌+◌, ◌<◌, ◌≤◌, Bool, false, IsSome, IfSome, List, [], ◌∷◌, ◌++◌, Option, Some, None, unwrap_or, refl, sym, ap, subst, ◌∙◌, arith}
use Rattle.std.proofs.lemmas.Bool.{false≢true}
use Rattle.std.proofs.lemmas.List.{append_assoc, append-nil}
use Rattle.std.proofs.lemmas.Grind.{flat_map-append}
use Rattle.std.proofs.lemmas.Option.{same_Some, slice_get_within}
use Rattle.pf_script.specs.Lines.{is_volume}
use Rattle.pf_script.specs.declared.command.Command.{Command}
use Rattle.pf_script.specs.declared.command.Command.TheVariants as commands
use Rattle.pf_script.specs.declared.command.Command.TheVariants.{Settle}
use Rattle.pf_protocol.specs.declared.answers.Answer.{Answer}
use Rattle.pf_live_session.specs.pf_group_network.proofs.Lists.{something_there}
use Rattle.pf_report.specs.Texts.{answer_text, report_line, settle_text}
use Rattle.pf_live_session.specs.pf_group_rounds.specs.Halts.{Halt}
use Rattle.pf_live_session.specs.pf_group_rounds.specs.Growing.{HasGrown}
use Rattle.pf_live_session.specs.pf_group_rounds.proofs.GroupGrowth.{grown_refl}
use Rattle.pf_live_session.specs.pf_chunk.specs.Saying.{said}
use Rattle.pf_live_session.specs.pf_chunk.specs.Steps.{ChunkEvent}
use Rattle.pf_live_session.specs.pf_chunk.specs.Views.{ChunkIs, run_of}
use Rattle.pf_world_hosts.specs.pf_world_moments.specs.Moments.{Moment, Writes, lines_in, moments_text}
use Rattle.pf_world_hosts.specs.pf_world_moments.specs.Steps.{AreReady, HaveGrown, TellsAll}
use Rattle.pf_world_hosts.specs.pf_world_moments.proofs.Groups.{run_there}
use Rattle.pf_world_hosts.specs.Settled.{HasSettled, settling}
use Rattle.pf_world_hosts.specs.Steps.{FleetIs, FleetHasAnswered, FleetHasGone, IsFleetOf, FleetPart}
use Rattle.pf_world_hosts.specs.Steps as fleets
use Rattle.pf_world_hosts.specs.Volumes.{volume_happens}
use Rattle.pf_world.specs.declared.kind.Kind.{Kind}
use Rattle.pf_world.specs.Worlds.{at_chunk, line_ended, event_told}
use Rattle.pf_world.specs.Lines.{line_told}
use Rattle.pf_volume.specs.Volumes.{Extent}
use Rattle.pf_world.specs.Views.{IsWorld, WorldIs, named_in, world_stands_at}
use Rattle.pf_world.specs.Headline.{is_live}
use Rattle.pf_live_session.specs.pf_live_line.specs.declared.opening.Passes.{Passes}
use Rattle.pf_live_session.specs.Sessions.{Session}
use Rattle.pf_world.specs.Steps.{LineEnds, WorldGoesOn, HasRun, KeepsPasses, MakesGroups, TakesSessions, moves_after}
use Rattle.pf_world.proofs.Others.{ends_other, keeps_none, line_other, takes_none, told_with}

pub same_world : (w : WorldIs) → WorldGoesOn w w
same_world w = record {
  sectors = refl;
  names = refl;
  format = refl;
  at_least = omega arith;
  grown = λ k was is there now. subst (λ (c : ChunkIs). HasGrown was.group c.group) (same_Some was is (sym there ∙ now)) (grown_refl was.group);
}

-- a line that moves no chunk makes no group
pub same_groups : (n : ℕ) (command : Command) → moves_after n command ≡ n → (was is : ℕ) → is ≡ was → MakesGroups command was is
same_groups n (commands.Move chunk) stays was is same = absurd (omega (arith, stays))
same_groups n command stays was is same = same

-- the world with other chunks and hosts
abbrev pub becomes : WorldIs → List ChunkIs → FleetIs → Option Kind → WorldIs
becomes w chunks fleet kind = record w { chunks = chunks; fleet = fleet; kind = kind }

pub all_grew : (old : WorldIs) (chunks : List ChunkIs) (fleet : FleetIs) (kind : Option Kind) → HaveGrown old.chunks chunks → WorldGoesOn old (becomes old chunks fleet kind)
all_grew old chunks fleet kind grown = record { sectors = refl; names = refl; format = refl; at_least = omega (arith, grown.count); grown = grown.each }

-- each chunk of a world stands between two events
pub chunks_ready : (w : WorldIs) → IsWorld w → AreReady w.chunks
chunks_ready w world k c there = let is = world.each k c there in (is.number, is.ready)

pub still_world : (old : WorldIs) (chunks : List ChunkIs) (fleet : FleetIs) (kind : Option Kind) → IsWorld old → AreReady chunks → IsFleetOf chunks fleet → HaveGrown old.chunks chunks → fleet.volume ≡ old.fleet.volume
    → IsWorld (becomes old chunks fleet kind)
still_world old chunks fleet kind world ready is_fleet grown volume = record {
  volume = ap (λ (v : Extent). is_volume v.chunks old.sectors old.names old.format) volume ∙ world.volume;
  each = λ k c there.
      let was = something_there old.chunks k (subst (λ n. k < n) grown.count (slice_get_within chunks k c there)) in
      let its = world.each k was.0 was.1 in
      record { number = (ready k c there).0; failed = its.failed; setup = (grown.each k was.0 c was.1 there).setup ∙ its.setup; ready = (ready k c there).1 };
  is_fleet = is_fleet;
  sectors_are = ap (λ (v : Extent). v.sectors) volume ∙ world.sectors_are;
  made = omega (arith, ap (λ (v : Extent). v.chunks) volume, grown.count, world.made);
  few = subst (λ (v : Extent). length chunks ≤ min (v.chunks + old.moves) 8) (sym volume) (subst (λ n. n ≤ (named_in old).groups) (sym grown.count) world.few);
}

-- and other passes
pub passed_world : (w : WorldIs) (passes : Option Passes) → IsWorld w → IsWorld (record w { passes = passes })
passed_world w passes world = record {
  volume = world.volume;
  each = λ k c there. let its = world.each k c there in record { number = its.number; failed = its.failed; setup = its.setup; ready = its.ready };
  is_fleet = world.is_fleet;
  sectors_are = world.sectors_are;
  made = world.made;
  few = world.few;
}

pub passed_on : (old new : WorldIs) (passes : Option Passes) → WorldGoesOn old new → WorldGoesOn old (record new { passes = passes })
passed_on old new passes on = record { sectors = on.sectors; names = on.names; format = on.format; at_least = on.at_least; grown = on.grown }

-- the line's own text comes behind what was told
text_after : (told : List Moment) (text : List ℕ) → moments_text (told ++ Writes text ∷ []) ≡ moments_text told ++ text
text_after told text = flat_map-append lines_in told (Writes text ∷ []) ∙ ap (λ xs. moments_text told ++ xs) (append-nil text)

pub answer_put : (o : Option (List ℕ)) (number : ℕ) (middle after : List ℕ) → IsSome o → IfSome o (λ text. after ≡ middle ++ report_line number text) → after ≡ middle ++ report_line number (unwrap_or o [])
answer_put (Some text) number middle after is put = put
answer_put None number middle after is put = absurd (false≢true is)

pub le_suc : (n : ℕ) → n ≤ suc n
le_suc n = omega arith

module _ (old : WorldIs) (number : ℕ) (command : Command) (world : IsWorld old) (stays : moves_after old.moves command ≡ old.moves) where
  -- the chunks and the hosts went through a part with these sessions, and then the line's text was put
  pub went_runs : (sessions : List Session) (part : FleetPart) (kind : Option Kind) (passes : Option Passes) (chunks : List ChunkIs) (fleet : FleetIs) (before middle after text : List ℕ) → TakesSessions command sessions → FleetHasGone part old.chunks old.fleet before chunks fleet middle
      → after ≡ middle ++ report_line number text → fleet.volume ≡ old.fleet.volume → fleet.calls ≤ suc old.fleet.calls
      → ((halts : List Halt) (rest : List Session) → TellsAll halts chunks → line_told halts (world_stands_at halts (sessions ++ rest) old) number command ≡ line_ended (record (world_stands_at halts rest old) { kind = kind }) number (part halts (fleets.volume_stands_at halts old.chunks old.fleet)) text)
      → ((halts : List Halt) (rest : List Session) → TellsAll halts chunks → LineEnds halts (world_stands_at halts (sessions ++ rest) old) command) → KeepsPasses old sessions command (record (becomes old chunks fleet kind) { passes = passes })
      → HasRun old number command before after (record (becomes old chunks fleet kind) { passes = passes })
  went_runs sessions part kind passes chunks fleet before middle after text takes went put volume calls line ends keeps = record {
    told = went.told ++ Writes (report_line number text) ∷ [];
    put = put ∙ ap (λ xs. xs ++ report_line number text) went.put ∙ append_assoc before (moments_text went.told) (report_line number text) ∙ ap (λ xs. before ++ xs) (sym (text_after went.told (report_line number text)));
    runs = record {
      is_world = passed_world (becomes old chunks fleet kind) passes (still_world old chunks fleet kind world went.ready went.is_fleet went.grown volume);
      goes_on = passed_on old (becomes old chunks fleet kind) passes (all_grew old chunks fleet kind went.grown);
      groups = same_groups old.moves command stays (length old.chunks) (length chunks) went.grown.count;
      volume = volume;
      calls = calls;
      moves = sym stays;
      sessions = sessions;
      takes = takes;
      run = λ halts rest tells. line halts rest tells ∙ ap (λ t. line_ended (record (world_stands_at halts rest old) { kind = kind }) number t text) (went.run halts tells);
      ends = ends;
      keeps = keeps;
    };
  }

module _ (old : WorldIs) (number : ℕ) (command : Command) (world : IsWorld old) (plain : is_live command ≡ false) (stays : moves_after old.moves command ≡ old.moves) where
  -- and without one
  pub gone_runs : (part : FleetPart) (kind : Option Kind) (chunks : List ChunkIs) (fleet : FleetIs) (before middle after text : List ℕ) → FleetHasGone part old.chunks old.fleet before chunks fleet middle → after ≡ middle ++ report_line number text
      → fleet.volume ≡ old.fleet.volume → fleet.calls ≤ suc old.fleet.calls
      → ((halts : List Halt) → TellsAll halts chunks → line_told halts (world_stands_at halts [] old) number command ≡ line_ended (record (world_stands_at halts [] old) { kind = kind }) number (part halts (fleets.volume_stands_at halts old.chunks old.fleet)) text)
      → ((halts : List Halt) → TellsAll halts chunks → LineEnds halts (world_stands_at halts [] old) command) → HasRun old number command before after (becomes old chunks fleet kind)
  gone_runs part kind chunks fleet before middle after text went put volume calls line ends =
      went_runs old number command world stays [] part kind old.passes chunks fleet before middle after text (takes_none command plain) went put volume calls
      (λ halts rest tells. line_other halts rest (world_stands_at halts [] old) number command plain ∙ ap (told_with halts rest) (line halts tells))
      (λ halts rest tells. ends_other halts rest (world_stands_at halts [] old) command plain (ends halts tells))
      (keeps_none old (becomes old chunks fleet kind) command plain refl)

  -- nothing happened, and the line's text was put
  pub said_runs : (kind : Option Kind) (before after text : List ℕ) (part : FleetPart) → ((halts : List Halt) → part halts (fleets.volume_stands_at halts old.chunks old.fleet) ≡ record { volume = fleets.volume_stands_at halts old.chunks old.fleet; told = [] }) → after ≡ before ++ report_line number text
      → ((halts : List Halt) → TellsAll halts old.chunks → line_told halts (world_stands_at halts [] old) number command ≡ line_ended (record (world_stands_at halts [] old) { kind = kind }) number (part halts (fleets.volume_stands_at halts old.chunks old.fleet)) text)
      → ((halts : List Halt) → LineEnds halts (world_stands_at halts [] old) command) → HasRun old number command before after (becomes old old.chunks old.fleet kind)
  said_runs kind before after text part none put line ends =
      gone_runs part kind old.chunks old.fleet before before after text (record {
        ready = chunks_ready old world;
        is_fleet = world.is_fleet;
        grown = record { count = refl; each = (same_world old).grown };
        told = [];
        put = sym (append-nil before);
        run = λ halts tells. none halts;
      }) put refl (le_suc old.fleet.calls) line (λ halts tells. ends halts)

  -- an event was answered, and the answer was put
  pub answered_runs : (event : ChunkEvent) (k : ℕ) (kind : Option Kind) (chunks : List ChunkIs) (fleet : FleetIs) (before middle after : List ℕ) (answer : Answer) → FleetHasAnswered event k old.chunks old.fleet before answer chunks fleet middle
      → IfSome (answer_text answer) (λ text. after ≡ middle ++ report_line number text) → fleet.volume ≡ old.fleet.volume → fleet.calls ≡ old.fleet.calls
      → ((halts : List Halt) → line_told halts (world_stands_at halts [] old) number command ≡ at_chunk halts (record (world_stands_at halts [] old) { kind = kind }) number k (event halts))
      → ((halts : List Halt) → LineEnds halts (world_stands_at halts [] old) command) → HasRun old number command before after (becomes old chunks fleet kind)
  answered_runs event k kind chunks fleet before middle after answer a put volume calls line ends =
      gone_runs (λ halts v. volume_happens halts v (event halts (run_of halts a.was))) kind chunks fleet before middle after (said answer) a.went (answer_put (answer_text answer) number middle after a.said put) volume
      (subst (λ n. n ≤ suc old.fleet.calls) (sym calls) (le_suc old.fleet.calls))
      (λ halts tells.
      line halts ∙ ap (λ c. event_told halts (record (world_stands_at halts [] old) { kind = kind }) number c (event halts)) (run_there halts old.chunks k a.was a.there)
      ∙ ap (λ x. line_ended (record (world_stands_at halts [] old) { kind = kind }) number (volume_happens halts (fleets.volume_stands_at halts old.chunks old.fleet) (event halts (run_of halts a.was))) (said x)) (a.answered halts tells))
      (λ halts tells. ends halts)

-- a settling ended, and its line was put
pub settled_runs : (old : WorldIs) (number limit : ℕ) → IsWorld old → (chunks : List ChunkIs) (fleet : FleetIs) (before middle after : List ℕ) (stopped : Bool) → HasSettled limit old.chunks old.fleet before stopped chunks fleet middle → after ≡ middle ++ report_line number (settle_text stopped)
    → HasRun old number (Settle limit) before after (becomes old chunks fleet old.kind)
settled_runs old number limit world chunks fleet before middle after stopped s put =
    gone_runs old number (Settle limit) world refl refl (settling limit) old.kind chunks fleet before middle after (settle_text stopped) s.went put s.same.volume (subst (λ n. n ≤ suc old.fleet.calls) (sym s.same.calls) (le_suc old.fleet.calls))
    (λ halts tells. ap (λ b. line_ended (world_stands_at halts [] old) number (settling limit halts (fleets.volume_stands_at halts old.chunks old.fleet)) (settle_text b)) (s.answered halts tells))
    (λ halts tells made. s.ends halts tells)
