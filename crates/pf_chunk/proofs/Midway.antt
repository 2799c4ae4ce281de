-- A chunk after an event, before what it made free is applied.
use Rattle.std.proofs.Common.{◌≡◌, ℕ, ◌<◌, Bool, IsSome, List, [], ◌∷◌, ◌++◌, length, Option, Some, None, slice_get, refl, sym, ap, subst, ◌∙◌, append-nil}
use Rattle.std.specs.Option.{option_to_list}
use Rattle.std.specs.Prelude.{IfSome, IsTrue}
use Rattle.pf_base.specs.Span.{Span}
use Rattle.pf_protocol.specs.declared.answers.Answer.{Answer}
use Rattle.pf_protocol.specs.declared.answers.Answer.TheVariants.{Read as ReadIs}
use Rattle.pf_protocol.specs.declared.events.Event.{Event}
use Rattle.pf_protocol.specs.declared.events.Event.TheVariants.{Fetch}
use Rattle.pf_protocol.specs.Groups.{ending, happens}
use Rattle.pf_protocol.specs.Answers.{claims_after, claims_of}
use Rattle.pf_protocol.proofs.ForMoments.{replay_goes_on}
use Rattle.pf_asks.specs.Ports.{PortIs}
use Rattle.pf_group_rounds.specs.pf_group.specs.declared.event.GroupEvent.{GroupEvent}
use Rattle.pf_group_rounds.specs.pf_group.specs.declared.event.GroupEvent.TheVariants as asked
use Rattle.pf_group_rounds.specs.pf_group.specs.Events.{rule_event}
use Rattle.pf_group_rounds.specs.pf_group.specs.GroupIs.{GroupIs, state_of}
use Rattle.pf_group_rounds.specs.pf_group.specs.Steps.{GroupHasStepped, AnswerIsNew as IsFresh, GroupSteps}
use Rattle.pf_group_rounds.specs.pf_group.proofs.Claims.{claims_more}
use Rattle.pf_report.specs.Texts.{answer_text}
use Rattle.pf_group_rounds.specs.Agreeing.{chunk_standing}
use Rattle.pf_group_rounds.proofs.RoundSteps.{answered_now}
use Rattle.pf_chunk_waiting.specs.declared.waiting.Waiting.{Waiting}
use Rattle.pf_chunk.specs.Events.{IsChunkStep}
use Rattle.pf_chunk.specs.Runs.{ChunkRun}
use Rattle.pf_chunk.specs.Telling.{read_taken_up}
use Rattle.pf_chunk.specs.Views.{ChunkIs, ChunkIsKept, ChunkIsReady}
use Rattle.pf_chunk.specs.Waiting.{StepsReads}
use Rattle.pf_chunk.proofs.EventRuns.{Fills, IsMidway}
use Rattle.pf_chunk.proofs.Ready.{IsNew, kept_on}
use Rattle.pf_chunk.proofs.AnswerTexts.{HasText, IsAsked, said_somehow}
use Rattle.pf_chunk.proofs.WaitingSteps.{steps_reads}

module _ (old mid : GroupIs) (event : Event) (answer : Answer) (steps : GroupSteps old event answer mid) where
  state_mid : happens old.setup (state_of old) event (ending answer) ≡ state_of mid
  state_mid = sym (replay_goes_on old.setup old.history (record { event = event; answer = answer })) ∙ ap (λ (g : GroupIs). state_of g) (sym steps.recorded)

  pub reads : IsTrue old.told → StepsReads (state_of old) event answer (state_of mid)
  reads told = subst (StepsReads (state_of old) event answer) state_mid (steps_reads old.setup (state_of old) event answer (answered_now old mid event answer steps told))

  pub claims : claims_of [] old.history ≡ [] → claims_after [] event answer ≡ [] → claims_of [] mid.history ≡ []
  claims before none =
      ap (λ (g : GroupIs). claims_of [] g.history) steps.recorded
      ∙ claims_more old.history [] (record { event = event; answer = answer })
      ∙ ap (λ cs. claims_after cs event answer) before
      ∙ none

  kept_so : (waiting more : List Waiting) (ports : List PortIs) → ChunkIsKept old waiting ports → IsNew (length old.taken) answer more → ChunkIsKept mid (waiting ++ more) ports
  kept_so waiting more ports kept new =
      kept_on old mid waiting more ports kept answer new (record { event = event; answer = answer } ∷ []) (ap (λ (g : GroupIs). g.taken) steps.recorded) (ap (λ (g : GroupIs). g.history) steps.recorded) (ap (λ (g : GroupIs). g.told) steps.recorded) (λ told. (reads told).reads)

  pub kept_quietly : (waiting : List Waiting) (ports : List PortIs) → ChunkIsKept old waiting ports → ChunkIsKept mid waiting ports
  kept_quietly waiting ports kept = subst (λ ws. ChunkIsKept mid ws ports) (append-nil waiting) (kept_so waiting [] ports kept tt)

  -- a read that is taken up has the next number
  pub next_read : (n : ℕ) → answer ≡ ReadIs n → n ≡ length old.taken
  next_read n told = subst (IsFresh (claims_of [] old.history) (length old.taken)) told steps.fresh

  new_read : (i : ℕ) → i < 3 → (read : Option Waiting) → IfSome read (λ one. (one.server ≡ i) × (answer ≡ ReadIs one.number)) → IsNew (length old.taken) answer (option_to_list read)
  new_read i low None is = tt
  new_read i low (Some one) is = (next_read one.number is.1, is.1, subst (λ server. server < 3) (sym is.0) low)

  kept_fetched : (waiting : List Waiting) (ports : List PortIs) → ChunkIsKept old waiting ports → (i : ℕ) → i < 3 → (read : Option Waiting) → IfSome read (λ one. (one.server ≡ i) × (answer ≡ ReadIs one.number)) → ChunkIsKept mid (waiting ++ option_to_list read) ports
  kept_fetched waiting ports kept i low read is = kept_so waiting _ ports kept (new_read i low read is)

  texts : IsAsked event → HasText answer
  texts asks = said_somehow old.setup steps.before old.told event answer asks steps.answered steps.ends

-- no job is in hand after a line's event
no_claim : (asked : GroupEvent) (found : Bool) (answer : Answer) → IsChunkStep asked → claims_after [] (rule_event asked found) answer ≡ []
no_claim (asked.Submit server range payload) found answer is = refl
no_claim (asked.Mark server) found answer is = refl
no_claim (asked.Fetch server range) found answer is = absurd is
no_claim (asked.Deliver k) found answer is = refl
no_claim (asked.Lose k) found answer is = refl
no_claim (asked.Elect server) found answer is = refl
no_claim (asked.Resend server) found answer is = refl
no_claim (asked.Stop server) found answer is = refl
no_claim (asked.Restart server) found answer is = refl
no_claim asked.Claim found answer is = absurd is
no_claim (asked.Finish filled) found answer is = absurd is
no_claim (asked.Checkpoint server) found answer is = refl

is_asked : (asked : GroupEvent) (found : Bool) → IsChunkStep asked → IsAsked (rule_event asked found)
is_asked (asked.Submit server range payload) found is = tt
is_asked (asked.Mark server) found is = tt
is_asked (asked.Fetch server range) found is = absurd is
is_asked (asked.Deliver k) found is = tt
is_asked (asked.Lose k) found is = tt
is_asked (asked.Elect server) found is = tt
is_asked (asked.Resend server) found is = tt
is_asked (asked.Stop server) found is = tt
is_asked (asked.Restart server) found is = tt
is_asked asked.Claim found is = absurd is
is_asked (asked.Finish filled) found is = absurd is
is_asked (asked.Checkpoint server) found is = tt

-- no read of a line is taken up
abbrev pub plain : Fills
plain c m answer = record c { group = m }

-- any event but a fetch
module _ (old : ChunkIs) (asked : GroupEvent) (answer : Answer) (mid : ChunkIs) (ready : ChunkIsReady old) (is : IsChunkStep asked) (stepped : GroupHasStepped old.group asked answer mid.group) where
  pub midway : mid.first_left ≡ old.first_left → mid.waiting ≡ old.waiting → mid.ports ≡ old.ports → IsMidway plain old asked answer mid
  midway first waiting ports = record {
    found = stepped.found;
    steps = stepped.steps;
    first = first;
    kept = subst (λ ws. ChunkIsKept mid.group ws mid.ports) (sym waiting) (subst (λ ps. ChunkIsKept mid.group old.waiting ps) (sym ports)
        (kept_quietly old.group mid.group (rule_event asked stepped.found) answer stepped.steps old.waiting old.ports ready.kept));
    none = claims old.group mid.group (rule_event asked stepped.found) answer stepped.steps ready.claims (no_claim asked stepped.found answer is);
    fills = λ told halts.
        ap (λ ws. let c : ChunkRun = record { group = chunk_standing halts mid.group; waiting = ws; ports = old.ports } in c) (sym waiting)
        ∙ ap (λ ps. let c : ChunkRun = record { group = chunk_standing halts mid.group; waiting = mid.waiting; ports = ps } in c) (sym ports);
  }

  pub said : IsSome (answer_text answer)
  said = texts old.group mid.group (rule_event asked stepped.found) answer stepped.steps (is_asked asked stepped.found is)

-- a read that a line takes up waits
abbrev pub waits : (server : ℕ) → Fills
waits server c m answer = record c { group = m; waiting = c.waiting ++ option_to_list (read_taken_up (slice_get m.state.servers server) server answer) }

module _ (old : ChunkIs) (i : ℕ) (range : Span) (answer : Answer) (mid : ChunkIs) (ready : ChunkIsReady old) (low : i < 3) (stepped : GroupHasStepped old.group (asked.Fetch i range) answer mid.group) where
  pub midway_fetch : (read : Option Waiting) → IfSome read (λ one. (one.server ≡ i) × (answer ≡ ReadIs one.number)) → (IsTrue mid.group.told → read ≡ read_taken_up (slice_get (state_of mid.group).servers i) i answer)
      → mid.first_left ≡ old.first_left → mid.waiting ≡ old.waiting ++ option_to_list read → mid.ports ≡ old.ports → IsMidway (waits i) old (asked.Fetch i range) answer mid
  midway_fetch read is_its is_read first waiting ports = record {
    found = stepped.found;
    steps = stepped.steps;
    first = first;
    kept = subst (λ ws. ChunkIsKept mid.group ws mid.ports) (sym waiting) (subst (ChunkIsKept mid.group _) (sym ports) (kept_fetched old.group mid.group (Fetch i range) answer stepped.steps old.waiting old.ports ready.kept i low read is_its));
    none = claims old.group mid.group (Fetch i range) answer stepped.steps ready.claims refl;
    fills = λ told halts.
        ap (λ ws. let c : ChunkRun = record { group = chunk_standing halts mid.group; waiting = ws; ports = old.ports } in c) (ap (λ o. old.waiting ++ option_to_list o) (sym (is_read told)) ∙ sym waiting)
        ∙ ap (λ ps. let c : ChunkRun = record { group = chunk_standing halts mid.group; waiting = mid.waiting; ports = ps } in c) (sym ports);
  }

  pub said_fetch : IsSome (answer_text answer)
  said_fetch = texts old.group mid.group (Fetch i range) answer stepped.steps tt
