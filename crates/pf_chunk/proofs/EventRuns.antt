-- One event of a chunk is what the run makes of it.
use Rattle.std.proofs.Common.{◌≡◌, ℕ, ◌<◌, ◌≤◌, inl, inr, Bool, true, false, IsSome, List, [], ◌∷◌, ◌++◌, length, arith, refl, sym, ap, subst, ◌∙◌}
use Rattle.std.proofs.Math.Logic.{∥∥₁_map}
use Rattle.std.specs.List.{filter}
use Rattle.std.specs.Prelude.{IsTrue}
use Rattle.std.proofs.lemmas.List.{append-nil}
use Rattle.pf_protocol.specs.declared.answers.Answer.{Answer}
use Rattle.pf_protocol.specs.declared.events.Event.{Event}
use Rattle.pf_protocol.specs.declared.events.Happening.{Happening}
use Rattle.pf_protocol.specs.Histories.{replay}
use Rattle.pf_protocol.specs.Answers.{IsLegal, claims_of}
use Rattle.pf_group_rounds.specs.pf_group.specs.declared.event.GroupEvent.{GroupEvent}
use Rattle.pf_group_rounds.specs.pf_group.specs.declared.event.GroupEvent.TheVariants as asked
use Rattle.pf_group_rounds.specs.pf_group.specs.Events.{rule_event}
use Rattle.pf_group_rounds.specs.pf_group.specs.Going.{Goes, Takes}
use Rattle.pf_group_rounds.specs.pf_group.specs.GroupIs.{GroupIs, state_of}
use Rattle.pf_group_rounds.specs.pf_group.specs.Packets.{NoneComesBack, is_left_in}
use Rattle.pf_group_rounds.specs.pf_group.specs.Steps.{GroupSteps}
use Rattle.pf_report.specs.Texts.{answer_text}
use Rattle.pf_group_rounds.specs.Agreeing.{TellsOfGroup, chunk_standing}
use Rattle.pf_group_rounds.specs.Growing.{HasGrown}
use Rattle.pf_group_rounds.specs.Chunks.{Chunk, after, event_answered}
use Rattle.pf_group_rounds.specs.Halts.{Halt}
use Rattle.pf_group_rounds.specs.Rounds.{applied}
use Rattle.pf_group_rounds.proofs.FollowedHistories.{restart_answer_is, restart_is, step_is}
use Rattle.pf_group_rounds.proofs.RoundSteps.{answered_now}
use Rattle.pf_group_rounds.proofs.GroupGrowth.{grown_tells, grown_trans, later_tells, step_grows}
use Rattle.pf_chunk.specs.Happenings.{Happened, followed}
use Rattle.pf_chunk.specs.Runs.{ChunkRun}
use Rattle.pf_chunk.specs.Steps.{AreGoneThrough, HasFollowed, HasHappened}
use Rattle.pf_chunk.specs.Telling.{may_wait, now_taken, reads_told}
use Rattle.pf_chunk.specs.Views.{ChunkIs, ChunkIsKept, ChunkIsReady, run_of}
use Rattle.pf_chunk.proofs.FollowUps.{Follows, follows}
use Rattle.pf_chunk.proofs.Ready.{kept_after}
use Rattle.pf_chunk.proofs.Told.{length_all}

same_answer : (halts : List Halt) (c : Chunk) (asked : GroupEvent) (found : Bool) → event_answered halts c (rule_event asked found) ≡ event_answered halts c (rule_event asked false)
same_answer halts c (asked.Submit server range payload) found = refl
same_answer halts c (asked.Mark server) found = refl
same_answer halts c (asked.Fetch server range) found = refl
same_answer halts c (asked.Deliver k) found = refl
same_answer halts c (asked.Lose k) found = refl
same_answer halts c (asked.Elect server) found = refl
same_answer halts c (asked.Resend server) found = refl
same_answer halts c (asked.Stop server) found = refl
same_answer halts c (asked.Restart server) found = restart_answer_is halts c server found
same_answer halts c asked.Claim found = refl
same_answer halts c (asked.Finish filled) found = refl
same_answer halts c (asked.Checkpoint server) found = refl

-- what a restart found is not asked
same_after : (halts : List Halt) (c : Chunk) (asked : GroupEvent) (found : Bool) → after halts c (rule_event asked found) ≡ after halts c (rule_event asked false)
same_after halts c (asked.Submit server range payload) found = refl
same_after halts c (asked.Mark server) found = refl
same_after halts c (asked.Fetch server range) found = refl
same_after halts c (asked.Deliver k) found = refl
same_after halts c (asked.Lose k) found = refl
same_after halts c (asked.Elect server) found = refl
same_after halts c (asked.Resend server) found = refl
same_after halts c (asked.Stop server) found = refl
same_after halts c (asked.Restart server) found = restart_is halts c server found
same_after halts c asked.Claim found = refl
same_after halts c (asked.Finish filled) found = refl
same_after halts c (asked.Checkpoint server) found = refl

run_followed : (halts : List Halt) (c : ChunkRun) (answer : Answer) (next : Chunk) → applied halts c.group ≡ next
    → followed halts c answer ≡ record { chunk = record c { group = next; waiting = filter (may_wait next.state) c.waiting }; answer = answer; text = reads_told c.group.number next.state c.waiting }
unfolding followed
run_followed halts c answer next ends =
    ap (λ (x : Chunk). let h : Happened = record { chunk = record c { group = x; waiting = filter (may_wait x.state) c.waiting }; answer = answer; text = reads_told c.group.number x.state c.waiting } in h) ends

-- lists of halts look at no more than this
tells_same : (halts : List Halt) (a b : GroupIs) → b.number ≡ a.number → b.told ≡ a.told → b.setup ≡ a.setup → b.history ≡ a.history → TellsOfGroup halts b → TellsOfGroup halts a
tells_same halts a b number told setup history tells = later_tells halts a b number told setup (record { rest = []; whole = append-nil a.history ∙ sym history }) tells

-- the run gives the event its answer, and comes to the group after it
pub event_is : (old mid : GroupIs) (asked : GroupEvent) (found : Bool) (answer : Answer) → GroupSteps old (rule_event asked found) answer mid → (halts : List Halt) → TellsOfGroup halts mid
    → (event_answered halts (chunk_standing halts old) (rule_event asked false) ≡ answer) × (after halts (chunk_standing halts old) (rule_event asked false) ≡ chunk_standing halts mid)
event_is old mid asked found answer steps halts tells =
    let c = chunk_standing halts old in
    let h : Happening = record { event = rule_event asked found; answer = answer } in
    let longer = tells_same halts (record old { history = old.history ++ h ∷ [] }) mid (ap (λ (g : GroupIs). g.number) steps.recorded) (ap (λ (g : GroupIs). g.told) steps.recorded) (ap (λ (g : GroupIs). g.setup) steps.recorded) (ap (λ (g : GroupIs). g.history) steps.recorded) tells in
    let one = step_is halts old h (answered_now old mid (rule_event asked found) answer steps longer.told) longer in (
      sym (same_answer halts c asked found) ∙ one.0,
      sym (same_after halts c asked found) ∙ one.1 ∙ ap (chunk_standing halts) (sym steps.recorded),
    )

-- where a chunk stands after an event, before it is followed up: the group after it, and how it was answered
abbrev pub Fills : Type 0
Fills = ChunkRun → Chunk → Answer → ChunkRun

-- the event happens, what is kept beside the group is filled in, and all is followed up
abbrev pub filled_up : Fills → Event → List Halt → ChunkRun → Happened
filled_up fill event halts c = followed halts (fill c (after halts c.group event) (event_answered halts c.group event)) (event_answered halts c.group event)

-- an event of a run was answered, and what is kept beside the group goes on
pub record IsMidway (fill : Fills) (old : ChunkIs) (asked : GroupEvent) (answer : Answer) (mid : ChunkIs) : Type 0 where
  pub found : Bool
  pub steps : GroupSteps old.group (rule_event asked found) answer mid.group
  pub first : mid.first_left ≡ old.first_left
  pub kept : ChunkIsKept mid.group mid.waiting mid.ports
  pub none : claims_of [] mid.group.history ≡ []
  pub fills : IsTrue mid.group.told → (halts : List Halt) → fill (run_of halts old) (chunk_standing halts mid.group) answer ≡ run_of halts mid

-- what comes of it when it is followed up
pub record Comes (fill : Fills) (old : ChunkIs) (asked : GroupEvent) (answer : Answer) (mid : ChunkIs) (out put : List ℕ) (new : ChunkIs) : Type 0 where
  pub grown : HasGrown old.group new.group
  pub ready : ChunkIsReady new
  pub left : IsTrue old.group.told → NoneComesBack (state_of old.group) (state_of new.group)
  pub first : new.first_left ≡ old.first_left
  pub ports : new.ports ≡ mid.ports
  pub text : List ℕ
  pub put_is : put ≡ out ++ text
  pub run : (halts : List Halt) → TellsOfGroup halts new.group → filled_up fill (rule_event asked false) halts (run_of halts old) ≡ record { chunk = run_of halts new; answer = answer; text = text }

module _ (fill : Fills) (old mid new : ChunkIs) (asked : GroupEvent) (answer : Answer) (is : IsMidway fill old asked answer mid) (out put : List ℕ) (f : HasFollowed mid out put new) (ready : ChunkIsReady old) where
  abbrev event : Event
  event = rule_event asked is.found

  abbrev h : Happening
  h = record { event = event; answer = answer }

  mid_history : mid.group.history ≡ old.group.history ++ h ∷ []
  mid_history = ap (λ (g : GroupIs). g.history) is.steps.recorded

  mid_setup : mid.group.setup ≡ old.group.setup
  mid_setup = ap (λ (g : GroupIs). g.setup) is.steps.recorded

  more_history : f.then.history ≡ mid.group.history ++ f.adds.more
  more_history = ap (λ (g : GroupIs). g.history) f.adds.recorded

  then_history : f.then.history ≡ (old.group.history ++ h ∷ []) ++ f.adds.more
  then_history = more_history ∙ ap (λ l. l ++ f.adds.more) mid_history

  then_setup : f.then.setup ≡ old.group.setup
  then_setup = ap (λ (g : GroupIs). g.setup) f.adds.recorded ∙ mid_setup

  state_mid : replay old.group.setup (old.group.history ++ h ∷ []) ≡ state_of mid.group
  state_mid = ap (replay old.group.setup) (sym mid_history) ∙ ap (λ setup. replay setup mid.group.history) (sym mid_setup)

  state_then : replay old.group.setup ((old.group.history ++ h ∷ []) ++ f.adds.more) ≡ state_of f.then
  state_then = ap (replay old.group.setup) (sym then_history) ∙ ap (λ setup. replay setup f.then.history) (sym then_setup)

  mid_told : mid.group.told ≡ old.group.told
  mid_told = ap (λ (g : GroupIs). g.told) is.steps.recorded

  then_told : f.then.told ≡ old.group.told
  then_told = f.grown.told ∙ mid_told

  was_told : IsTrue f.then.told → IsTrue old.group.told
  was_told told = subst IsTrue then_told told

  they_follow : IsTrue old.group.told → Follows (state_of old.group) event answer (state_of mid.group) (state_of f.then)
  they_follow told =
      let legal = subst (λ l. IsLegal old.group.setup l) then_history (subst (λ setup. IsLegal setup f.then.history) then_setup (f.legal (subst IsTrue (sym then_told) told))) in
      subst (λ g. Follows (state_of old.group) event answer g (state_of f.then)) state_mid
      (subst (λ g. Follows (state_of old.group) event answer (replay old.group.setup (old.group.history ++ h ∷ [])) g) state_then
      (follows old.group.setup old.group.history event answer f.adds.more legal f.adds.round (answered_now old.group mid.group event answer is.steps told)))

  by_left : IsTrue old.group.told → (b : Bool) (k : ℕ) → is_left_in (state_of f.then) k ≡ b → k < old.first_left → b ≡ false
  by_left told false k at low = refl
  by_left told true k at low = elim ((they_follow told).sent.none k at) [
    | inl was ↦ sym was ∙ ready.none_left told k low
    | inr high ↦ absurd (omega (arith, high, low, ready.first_sent told))
  ]

  -- the group with what was handed out
  abbrev all_told : GroupIs
  all_told = now_taken f.then new.group.taken

  count_told : IsTrue f.then.told → length new.group.taken ≡ (state_of f.then).reads
  count_told told =
      let was = was_told told in
      ap length (f.told told).taken_is
      ∙ length_all (state_of f.then) f.then.taken mid.waiting
      ∙ ap length f.taken
      ∙ is.kept.numbered (subst IsTrue (sym mid_told) was)
      ∙ sym (they_follow was).quiet.reads

  ready_group : ChunkIsReady new
  ready_group = subst ChunkIsReady (sym f.is) (record {
    claims = f.none;
    applied = f.applied_all;
    kept = kept_after mid.group all_told mid.waiting new.waiting mid.ports is.kept f.adds.more more_history (subst (λ t. AreGoneThrough t mid.waiting new.group.taken new.waiting) f.taken f.through) count_told;
    few = subst (λ n. n ≤ 65536) (sym is.first) ready.few;
    first_sent = λ told. omega (arith, is.first, ready.first_sent (was_told told), (they_follow (was_told told)).sent.longer);
    none_left = λ told k low. by_left (was_told told) (is_left_in (state_of f.then) k) k refl (omega (arith, low, is.first));
  })

  run_is : (halts : List Halt) → TellsOfGroup halts f.then → filled_up fill (rule_event asked false) halts (run_of halts old) ≡ record { chunk = run_of halts (record mid { group = all_told; waiting = new.waiting }); answer = answer; text = f.text }
  run_is halts tells =
      let one = event_is old.group mid.group asked is.found answer is.steps halts (grown_tells halts mid.group f.then f.grown tells) in
      let read = f.told tells.told in
      ap (λ m. followed halts (fill (run_of halts old) m (event_answered halts (chunk_standing halts old.group) (rule_event asked false))) (event_answered halts (chunk_standing halts old.group) (rule_event asked false))) one.1
      ∙ ap (λ a. followed halts (fill (run_of halts old) (chunk_standing halts mid.group) a) a) one.0
      ∙ ap (λ c. followed halts c answer) (is.fills (subst IsTrue (f.grown.told) tells.told) halts)
      ∙ run_followed halts (run_of halts mid) answer (chunk_standing halts f.then) (f.run halts tells)
      ∙ ap (λ ws. let x : Happened = record { chunk = record { group = chunk_standing halts f.then; waiting = ws; ports = mid.ports }; answer = answer; text = reads_told mid.group.number (state_of f.then) mid.waiting } in x) (sym read.left_is)
      ∙ ap (λ text. let x : Happened = record { chunk = record { group = chunk_standing halts f.then; waiting = new.waiting; ports = mid.ports }; answer = answer; text = text } in x) (sym read.text_is)

  pub comes : Comes fill old asked answer mid out put new
  comes =
      let to_then = grown_trans old.group mid.group f.then (step_grows old.group mid.group event answer is.steps) f.grown in record {
        grown = subst (λ (c : ChunkIs). HasGrown old.group c.group) (sym f.is) (record { number = to_then.number; told = to_then.told; setup = to_then.setup; later = to_then.later; paid = to_then.paid; by = ∥∥₁_map to_then.by (λ way. Goes f.then all_told way (Takes refl)) });
        ready = ready_group;
        left = subst (λ (c : ChunkIs). IsTrue old.group.told → NoneComesBack (state_of old.group) (state_of c.group)) (sym f.is) (λ told k at. (they_follow told).sent.none k at);
        first = ap (λ (c : ChunkIs). c.first_left) f.is ∙ is.first;
        ports = ap (λ (c : ChunkIs). c.ports) f.is;
        text = f.text;
        put_is = f.put;
        run = λ halts tells.
            run_is halts (tells_same halts f.then new.group (ap (λ (c : ChunkIs). c.group.number) f.is) (ap (λ (c : ChunkIs). c.group.told) f.is) (ap (λ (c : ChunkIs). c.group.setup) f.is) (ap (λ (c : ChunkIs). c.group.history) f.is) tells)
            ∙ ap (λ (c : ChunkIs). let x : Happened = record { chunk = run_of halts c; answer = answer; text = f.text } in x) (sym f.is);
      }

-- a line
pub has_happened : (fill : Fills) (old mid new : ChunkIs) (asked : GroupEvent) (answer : Answer) (out put : List ℕ) → Comes fill old asked answer mid out put new → mid.ports ≡ old.ports → IsSome (answer_text answer) → HasHappened (filled_up fill (rule_event asked false)) old out answer put new
has_happened fill old mid new asked answer out put comes same said = record {
  grown = comes.grown;
  ready = comes.ready;
  left = comes.left;
  first = comes.first;
  ports = comes.ports ∙ same;
  said = said;
  text = comes.text;
  put = comes.put_is;
  run = comes.run;
}
