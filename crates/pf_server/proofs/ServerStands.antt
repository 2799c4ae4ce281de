-- A server that stands before a step, and after it.
use Rattle.std.proofs.Common.{◌≡◌, inl, inr, ℕ, suc, ◌+◌, arith, refl, sym, ap, subst, ◌∙◌, map}
use Rattle.pf_entry.specs.Records.{Durable}
use Rattle.pf_protocol.specs.Asked.{AreBelow}
use Rattle.pf_protocol.specs.Rows.{settled}
use Rattle.pf_protocol.specs.Outcomes.{Outcome}
use Rattle.pf_protocol.specs.Servers.{Server, Setup, Condition, Running as RunningIs, Stopped as StoppedIs, Unformatted as UnformattedIs}
use Rattle.pf_protocol.specs.declared.answers.Answer.{Answer}
use Rattle.pf_server_store.specs.Stores.{StoreModel}
use Rattle.pf_server_memory.specs.declared.running.Running.{Running}
use Rattle.pf_server_memory.specs.Standing.{server_of, setup_of, read_in_memory, IsCached, Stands}
use Rattle.pf_server_memory.specs.Replying.{Replying}
use Rattle.pf_server_memory.specs.Turns.{IsAfter}
use Rattle.pf_server_memory.proofs.StepEnds.{stands_after}
use Rattle.pf_server_restart.specs.Beginning.{setup_of_seat}
use Rattle.pf_server_restart.specs.declared.seat.Seat.{Seat}
use Rattle.pf_server_apply.specs.Jobs.{IsJobOf}
use Rattle.pf_base.specs.declared.filled.Filled.{Filled}
use Rattle.pf_server.specs.declared.state.Doubt.TheVariants.{Settled}
use Rattle.pf_server.specs.declared.state.State.{State}
use Rattle.pf_server.specs.declared.state.State.TheVariants.{Runs, Stopped, Unformatted}
use Rattle.pf_server.specs.Conditions.{BringsBack, IsInHalf, ServerIsInOrder, IsKnown, IsNextRead, IsRunning, ServerIsSound, IsStopped, Meets}
use Rattle.pf_server.specs.Ending.{WasAnswered, quieted, forgotten}
use Rattle.pf_server.specs.Turns.{IsSettled, IsAsBefore}
use Rattle.pf_server.proofs.Bounds.{job_here, same_life, same_reads}
use Rattle.pf_server.proofs.StepEnds.{quieted_after}

-- other answers, in as many rooms
pub same_rooms : (d : Durable) (me : Running) (replies : Replying) → replies.rooms ≡ me.replies.rooms → IsCached d me → (let next : Running = record me { replies = replies } in IsCached d next)
same_rooms d me replies rooms c = record {
  number = c.number;
  term = c.term;
  generation = c.generation;
  base = c.base;
  starts = c.starts;
  log = c.log;
  format = c.format;
  prefix = c.prefix;
  role = c.role;
  jobs = c.jobs;
  places = c.places;
  rooms = c.rooms;
  near = c.near;
  replies = omega (arith, rooms, c.replies);
}

-- memory stands for a server with the same records
same_records : (d : Durable) (new : Running) (s : Server) → server_of d new ≡ s → d ≡ s.durable
unfolding server_of
same_records d new s is = ap (λ (x : Server). x.durable) is

module _ {S : Type 0} (model : StoreModel S) (seat : Seat) (store : S) where
  -- memory has followed a step over these records
  pub stands_then : (d : Durable) (me new : Running) (s : Server) → Stands model d store me → setup_of me ≡ setup_of_seat seat → IsAfter d me new s → IsRunning model seat store new s
  stands_then d me new s stands setup after =
      let same = same_records d new s after.server_is in
      record {
        stands = subst (λ e. Stands model e store new) same (stands_after model d store me new stands s after);
        is = sym (ap (λ e. server_of e new) same) ∙ after.server_is;
        setup = after.setup_same ∙ setup;
      }

  -- and the reads that were ready were answered
  pub settles : (d : Durable) (me new : Running) (before : Server) (o : Outcome) (answer : Answer) → Stands model d store me → setup_of me ≡ setup_of_seat seat → WasAnswered d me new o.server → answer ≡ o.answer
      → IsSettled model seat store (Runs new) before o answer
  settles d me new before o answer stands setup x is = record {
    answered = is;
    meets = stands_then d me new (settled o.server) stands setup x.after;
    answers = x.answers;
    sized = x.sized;
  }

  pub quieted_runs : (me : Running) (s : Server) → IsRunning model seat store me s → IsAsBefore model seat store (Runs (quieted me)) s
  quieted_runs me s runs = record {
    meets = stands_then s.durable me (quieted me) s runs.stands runs.setup (subst (IsAfter s.durable me (quieted me)) runs.is (quieted_after s.durable me runs.stands.cached));
    none = refl;
  }

  forgotten_by : (state : State) (s : Server) → Meets model seat store state (RunningIs s) → IsAsBefore model seat store (forgotten state) s
  forgotten_by (Runs me) s meets = quieted_runs me s meets
  forgotten_by (Stopped life doubt) s meets = absurd meets
  forgotten_by Unformatted s meets = absurd meets

  -- the server is as it was, but for answers that nobody took
  pub as_before : (state state' : State) (s : Server) → state' ≡ forgotten state → Meets model seat store state (RunningIs s) → IsAsBefore model seat store state' s
  as_before state state' s is meets = subst (λ x. IsAsBefore model seat store x s) (sym is) (forgotten_by state s meets)

  -- a server that runs is one that a group knows of
  known_by : (me : Running) (c : Condition) → Meets model seat store (Runs me) c → IsKnown seat c → (s : Server) × IsRunning model seat store me s × ServerIsSound seat s
  known_by me (RunningIs s) meets known = (s, meets, known)
  known_by me (StoppedIs life before after) meets known = absurd meets
  known_by me UnformattedIs meets known = absurd meets

  pub known_here : (state : State) (me : Running) → state ≡ Runs me → ServerIsInOrder model seat store state → (s : Server) × IsRunning model seat store me s × ServerIsSound seat s
  known_here state me is order = known_by me order.condition (subst (λ x. Meets model seat store x order.condition) is order.meets) order.known

  brings_by : (me : Running) (c : Condition) (filled : Filled) → Meets model seat store (Runs me) c → BringsBack c filled → filled.life ≡ me.life → IsJobOf me filled
  brings_by me (RunningIs s) filled meets brings = job_here model seat store me s meets filled brings
  brings_by me (StoppedIs life before after) filled meets brings = absurd meets
  brings_by me UnformattedIs filled meets brings = absurd meets

  pub brings_here : (state : State) (me : Running) (filled : Filled) → state ≡ Runs me → (c : Condition) × Meets model seat store state c × BringsBack c filled → filled.life ≡ me.life → IsJobOf me filled
  brings_here state me filled is job = brings_by me job.0 filled (subst (λ x. Meets model seat store x job.0) is job.1) job.2

  -- a server that runs still runs, with other answers
  pub meets_here : (state : State) (me : Running) (s : Server) → state ≡ Runs me → Meets model seat store state (RunningIs s) → IsRunning model seat store me s
  meets_here state me s is meets = subst (λ x. Meets model seat store x (RunningIs s)) is meets

  pub with_answers : (me : Running) (replies : Replying) (s : Server) → replies.rooms ≡ me.replies.rooms → IsRunning model seat store me s → (let next : Running = record me { replies = replies } in IsRunning model seat store next s)
  unfolding server_of setup_of
  with_answers me replies s rooms runs = record {
    stands = record {
      recorded = runs.stands.recorded;
      used_is = runs.stands.used_is;
      within = runs.stands.within;
      half = runs.stands.half;
      cached = same_rooms s.durable me replies rooms runs.stands.cached;
    };
    is = runs.is;
    setup = runs.setup;
  }

  -- a half that a running server has
  pub in_half : (me : Running) (s : Server) → IsRunning model seat store me s → IsInHalf seat s.durable
  unfolding setup_of
  in_half me s runs = record {
    format = elim runs.stands.cached.format [ inl second ↦ inl second | inr same ↦ inr (same ∙ ap (λ (x : Setup). x.format) runs.setup) ];
    within = runs.stands.within;
  }

  pub stopped_so : (me : Running) (s : Server) → IsRunning model seat store me s → IsStopped model seat (me.life + 1) Settled (suc s.life) s.durable s.durable store
  stopped_so me s runs = record {
    life_is = omega (arith, same_life model seat store me s runs);
    left = (refl, record { x = s.durable; y = s.durable; has = runs.stands.recorded; first = inl refl; second = inl refl });
    first = in_half me s runs;
    second = in_half me s runs;
  }

  next_by : (me : Running) (c : Condition) (number : ℕ) → Meets model seat store (Runs me) c → IsNextRead c number → AreBelow number (map read_in_memory me.reads)
  next_by me (RunningIs s) number meets next = subst (AreBelow number) (same_reads model seat store me s meets) next
  next_by me (StoppedIs life before after) number meets next = absurd meets
  next_by me UnformattedIs number meets next = absurd meets

  -- the reads of the server ask for numbers below this one
  pub next_here : (state : State) (me : Running) (number : ℕ) (s : Server) → state ≡ Runs me → ((c : Condition) × Meets model seat store state c × IsNextRead c number) → IsRunning model seat store me s → AreBelow number s.reads
  next_here state me number s is next runs =
      subst (AreBelow number) (sym (same_reads model seat store me s runs)) (next_by me next.0 number (subst (λ x. Meets model seat store x next.0) is next.1) next.2)
