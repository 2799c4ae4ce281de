-- A session over a chunk is what the run makes of it.
use Rattle.std.proofs.Common.{◌≡◌, ℕ, ◌-◌, ◌<◌, ◌≤◌, ◌⊎◌, inl, inr, Bool, true, false, List, [], ◌∷◌, ◌++◌, drop, length, append-nil, append_assoc, arith, refl, sym, ap, subst, ◌∙◌}
use Rattle.std.specs.List.{filter}
use Rattle.std.specs.Prelude.{IsTrue}
use Rattle.pf_entry.proofs.Lists.{every_append}
use Rattle.pf_protocol.specs.declared.answers.Answer.{Answer}
use Rattle.pf_protocol.specs.declared.answers.Answer.TheVariants.{Done, Read as ReadIs}
use Rattle.pf_protocol.specs.Groups.{Group, opening}
use Rattle.pf_protocol.specs.Histories.{History, replay, run}
use Rattle.pf_protocol.specs.Answers.{IsLegal, IsLegalFrom, claims_of}
use Rattle.pf_protocol.proofs.ForMoments.{legal_before}
use Rattle.pf_chunk.specs.pf_group.specs.Applied.{applied_on_each}
use Rattle.pf_chunk.specs.pf_group.specs.GroupIs.{GroupIs, state_of}
use Rattle.pf_chunk.specs.pf_group.specs.Packets.{is_left_in}
use Rattle.pf_chunk.specs.pf_group.proofs.SentPackets.{run_sent}
use Rattle.pf_chunk.specs.pf_group_rounds.specs.Agreeing.{TellsOfGroup, chunk_standing}
use Rattle.pf_chunk.specs.pf_group_rounds.specs.Chunks.{Chunk}
use Rattle.pf_chunk.specs.pf_group_rounds.specs.Growing.{HasGrown}
use Rattle.pf_chunk.specs.pf_group_rounds.specs.Halts.{Halt}
use Rattle.pf_chunk.specs.pf_group_rounds.specs.Rounds.{applied}
use Rattle.pf_chunk.specs.pf_group_rounds.proofs.GroupGrowth.{grown_tells, grown_trans, taken_grows}
use Rattle.pf_live_session.specs.pf_shared.specs.Moments.{happenings}
use Rattle.pf_live_session.specs.pf_live_seats.specs.declared.plan.LinePlan.{LinePlan}
use Rattle.pf_live_session.specs.declared.session.Lived.{Lived}
use Rattle.pf_live_session.specs.GroupSessions.{HasLived}
use Rattle.pf_chunk.specs.Happenings.{Happened, followed}
use Rattle.pf_chunk.specs.Lending.{HasTold, after_all}
use Rattle.pf_chunk.specs.Runs.{ChunkRun}
use Rattle.pf_chunk.specs.Telling.{may_wait, now_taken, reads_told}
use Rattle.pf_chunk.specs.Views.{ChunkIs, IsFetched, ChunkIsKept, ChunkIsReady, run_of}
use Rattle.pf_chunk.specs.Waiting.{GoesQuietly}
use Rattle.pf_chunk.proofs.FollowUps.{legal_rest, run_on}
use Rattle.pf_chunk.proofs.Ready.{fetched_still, kept_after}
use Rattle.pf_chunk.proofs.WaitingSteps.{legal_goes_quietly}
use Rattle.pf_chunk.proofs.Told.{length_all}
use Rattle.pf_live_session.specs.Sessions.{Session}
use Rattle.pf_live_session.specs.Steps.{HasHeld}
use Rattle.pf_live_session.proofs.Events.{IsOfLine, TakeNone, of_line, of_rounds, take_none}
use Rattle.pf_live_session.proofs.Sessions.{comes_to, events_in, whole_session}
use Rattle.pf_live_session.proofs.Taken.{begin_none, listed_back, none_handed, still, taken_is}

-- what is applied is told
run_followed : (halts : List Halt) (c : ChunkRun) (next : Chunk) → applied halts c.group ≡ next
    → followed halts c Done ≡ record { chunk = record c { group = next; waiting = filter (may_wait next.state) c.waiting }; answer = Done; text = reads_told c.group.number next.state c.waiting }
unfolding followed
run_followed halts c next ends =
    ap (λ (x : Chunk). let h : Happened = record { chunk = record c { group = x; waiting = filter (may_wait x.state) c.waiting }; answer = Done; text = reads_told c.group.number x.state c.waiting } in h) ends

module _ (plan : LinePlan) (old new : ChunkIs) (its : Lived) (g : GroupIs) (lived : HasLived plan old.group its g) (out put : List ℕ) (told : HasTold (record old { group = g }) out put new)
    (same : new ≡ record old { group = now_taken g new.group.taken; waiting = new.waiting }) (ready : ChunkIsReady old) (legal : IsTrue g.told → IsLegal g.setup g.history) where
  abbrev mid : GroupIs
  mid = lived.then

  abbrev more : History
  more = happenings lived.list

  abbrev rounds : History
  rounds = lived.applied_then.adds.more

  abbrev session : Session
  session = record { events = events_in more; ended = its.end }

  g_history : g.history ≡ old.group.history ++ (more ++ rounds)
  g_history =
      ap (λ (x : GroupIs). x.history) lived.applied_then.adds.recorded ∙ ap (λ history. history ++ rounds) lived.listed.history
      ∙ append_assoc old.group.history more rounds

  grown : HasGrown old.group g
  grown = grown_trans old.group mid g lived.listed.grown lived.applied_then.grown

  was_told : IsTrue g.told → IsTrue old.group.told
  was_told is = subst IsTrue grown.told is

  is_told : IsTrue old.group.told → IsTrue g.told
  is_told is = subst IsTrue (sym grown.told) is

  lawful : IsTrue old.group.told → IsLegal old.group.setup (old.group.history ++ (more ++ rounds))
  lawful is = subst (IsLegal old.group.setup) g_history (subst (λ setup. IsLegal setup g.history) grown.setup (legal (is_told is)))

  -- the group before is legal too
  mid_legal : IsTrue old.group.told → IsLegal mid.setup mid.history
  mid_legal is =
      legal_before mid.setup mid.history g.history lived.applied_then.grown.later (subst (λ setup. IsLegal setup g.history) lived.applied_then.grown.setup (legal (is_told is)))

  state_is : state_of g ≡ run old.group.setup (state_of old.group) (more ++ rounds)
  state_is =
      ap (λ setup. replay setup g.history) grown.setup ∙ ap (replay old.group.setup) g_history
      ∙ run_on old.group.setup old.group.history (more ++ rounds) (opening old.group.setup)

  -- no read is taken up
  rest_legal : IsTrue old.group.told → IsLegalFrom old.group.setup (state_of old.group) (claims_of [] old.group.history) (more ++ rounds)
  rest_legal is = legal_rest old.group.setup old.group.history (more ++ rounds) (opening old.group.setup) [] (lawful is).legal

  takes_none : IsTrue old.group.told → TakeNone (more ++ rounds)
  takes_none is =
      let all = every_append (λ h. IsOfLine h.event) more rounds (of_line plan old.group lived.list lived.listed.live) (of_rounds rounds lived.applied_then.adds.round) in
      take_none old.group.setup (more ++ rounds) (state_of old.group) (claims_of [] old.group.history) (rest_legal is) all

  quietly : IsTrue old.group.told → GoesQuietly (state_of old.group) (state_of g)
  quietly is =
      subst (GoesQuietly (state_of old.group)) (sym state_is)
      (legal_goes_quietly old.group.setup (more ++ rounds) (state_of old.group) (claims_of [] old.group.history) (rest_legal is) (takes_none is))

  packets_left : (k : ℕ) → is_left_in (state_of g) k ≡ true → (is_left_in (state_of old.group) k ≡ true) ⊎ (length (state_of old.group).packets ≤ k)
  packets_left k is = (run_sent old.group.setup (more ++ rounds) (state_of old.group)).none k (subst (λ (x : Group). is_left_in x k ≡ true) state_is is)

  packets_longer : length (state_of old.group).packets ≤ length (state_of g).packets
  packets_longer = subst (λ (x : Group). length (state_of old.group).packets ≤ length x.packets) (sym state_is) (run_sent old.group.setup (more ++ rounds) (state_of old.group)).longer

  by_left : IsTrue old.group.told → (b : Bool) (k : ℕ) → is_left_in (state_of g) k ≡ b → k < old.first_left → b ≡ false
  by_left is false k at low = refl
  by_left is true k at low = elim (packets_left k at) [
    | inl was ↦ sym was ∙ ready.none_left is k low
    | inr high ↦ absurd (omega (arith, high, low, ready.first_sent is))
  ]

  -- and none is taken up
  no_more : IsTrue old.group.told → g.taken ≡ old.group.taken
  no_more is =
      taken_is plan old.group g its lived
      ∙ none_handed plan old.group [] lived.list lived.listed.live old.group.taken (begin_none more rounds (takes_none is))

  -- what is kept fits the group that came back
  kept_back : ChunkIsKept g old.waiting old.ports
  kept_back = record {
    numbered = λ is. ap length (no_more (was_told is)) ∙ ready.kept.numbered (was_told is) ∙ sym (quietly (was_told is)).reads;
    listed = listed_back plan old.group g its lived old.waiting ready.kept.listed;
    ports_fit = record {
      count = ready.kept.ports_fit.count;
      reads = λ m p n at sent.
          let r = ready.kept.ports_fit.reads m p n at sent in record {
            pending = still plan old.group g its lived n r.pending;
            no_line = r.no_line;
            alone = r.alone;
            asked = λ chunk range ask. subst (λ history. IsFetched history n range) (sym g_history) (fetched_still old.group.history (more ++ rounds) n range (r.asked chunk range ask));
          };
    };
  }

  abbrev all_told : GroupIs
  all_told = now_taken g new.group.taken

  count_told : IsTrue g.told → length new.group.taken ≡ (state_of g).reads
  count_told is = ap length (told.told is).taken_is ∙ length_all (state_of g) g.taken old.waiting ∙ kept_back.numbered is

  ready_chunk : ChunkIsReady new
  ready_chunk = subst ChunkIsReady (sym same) (record {
    claims = lived.applied_then.none;
    applied = lived.applied_then.applied_all;
    kept = kept_after g all_told old.waiting new.waiting old.ports kept_back [] (sym (append-nil g.history)) told.through count_told;
    few = ready.few;
    first_sent = λ is. omega (arith, ready.first_sent (was_told is), packets_longer);
    none_left = λ is k low. by_left (was_told is) (is_left_in (state_of g) k) k refl low;
  })

  run_is : (halts : List Halt) → TellsOfGroup halts g
      → followed halts (record (run_of halts old) { group = after_all halts (chunk_standing halts old.group) session.events }) Done ≡ record { chunk = run_of halts (record old { group = all_told; waiting = new.waiting }); answer = Done; text = told.text }
  run_is halts tells =
      let read = told.told tells.told in
      let c = run_of halts (record old { group = mid }) in
      ap (λ m. followed halts (record (run_of halts old) { group = m }) Done) (comes_to plan old.group mid lived.list lived.listed mid_legal halts (grown_tells halts mid g lived.applied_then.grown tells))
      ∙ run_followed halts c (chunk_standing halts g) (lived.applied_then.run halts tells)
      ∙ ap (λ n. let x : Happened = record { chunk = record { group = chunk_standing halts g; waiting = filter (may_wait (state_of g)) old.waiting; ports = old.ports }; answer = Done; text = reads_told n (state_of g) old.waiting } in x) (sym lived.applied_then.grown.number)
      ∙ ap (λ ws. let x : Happened = record { chunk = record { group = chunk_standing halts g; waiting = ws; ports = old.ports }; answer = Done; text = reads_told g.number (state_of g) old.waiting } in x) (sym read.left_is)
      ∙ ap (λ text. let x : Happened = record { chunk = record { group = chunk_standing halts g; waiting = new.waiting; ports = old.ports }; answer = Done; text = text } in x) (sym read.text_is)

  new_grown : HasGrown g new.group
  new_grown = taken_grows g new.group (ap (λ (c : ChunkIs). c.group) same)

  pub has_held : HasHeld plan old out its put new
  has_held = record {
    session = session;
    went = record {
      grown = grown_trans old.group g new.group grown new_grown;
      ready = ready_chunk;
      left = λ is k at. packets_left k (subst (λ (x : GroupIs). is_left_in (state_of x) k ≡ true) (ap (λ (c : ChunkIs). c.group) same) at);
      first = ap (λ (c : ChunkIs). c.first_left) same;
      ports = ap (λ (c : ChunkIs). c.ports) same;
      said = refl;
      text = told.text;
      put = told.put;
      run = λ halts tells.
          run_is halts (grown_tells halts g new.group new_grown tells)
          ∙ ap (λ (c : ChunkIs). let x : Happened = record { chunk = run_of halts c; answer = Done; text = told.text } in x) (sym same);
    };
    next = ap (λ (c : ChunkIs). c.next) same;
    list = lived.list;
    is_session = λ halts tells.
        let back = grown_tells halts g new.group new_grown tells in
        let before = grown_tells halts mid g lived.applied_then.grown back in
        whole_session plan old.group mid lived.list lived.listed mid_legal halts before its.end lived.out (lived.end (was_told back.told));
    kept = lived.kept;
    ended = refl;
    totals = record {
      acked = λ is. lived.totals.acked is ∙ ap (λ (x : GroupIs). length (state_of x).acked - length (state_of old.group).acked) (sym (ap (λ (c : ChunkIs). c.group) same));
      applied = lived.totals.applied ∙ ap (λ (x : GroupIs). applied_on_each (drop (length old.group.history) x.history)) (sym (ap (λ (c : ChunkIs). c.group) same));
    };
  }
