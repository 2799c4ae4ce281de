-- What a step of a server comes to.
use Rattle.std.specs.Prelude.{◌≡◌, ◌⊎◌, ℕ, suc, Bool, cond, not, true, false, List, [], map, Option, Some, None, Result, Ok, Err, ◌==◌}
use Rattle.pf_base.specs.declared.errors.NoMemory.{NoMemory}
use Rattle.pf_entry.specs.Ops.{Sector}
use Rattle.pf_entry.specs.Records.{Durable}
use Rattle.pf_entry.specs.declared.ops.Job.{Job}
use Rattle.pf_server_store.specs.Stores.{StoreModel}
use Rattle.pf_protocol.specs.Servers.{Server, Condition, Running as RunningIs, Stopped as StoppedIs, Unformatted as UnformattedIs}
use Rattle.pf_protocol.specs.Leading.{op_at}
use Rattle.pf_protocol.specs.Saving.{claimable, claimed, renewed, restarted}
use Rattle.pf_protocol.specs.Outcomes.{Outcome}
use Rattle.pf_protocol.specs.Rows.{ready_reads, settled}
use Rattle.pf_protocol.specs.Answers.{refuse, has_stored}
use Rattle.pf_protocol.specs.Groups.{answer_of}
use Rattle.pf_protocol.specs.declared.answers.Answer.{Answer}
use Rattle.pf_protocol.specs.declared.answers.Answer.TheVariants.{Done, Refused}
use Rattle.pf_protocol.specs.declared.answers.Refusal.{Refusal}
use Rattle.pf_protocol.specs.declared.answers.Refusal.TheVariants.{Down, Halted, NotOurs, Stale}
use Rattle.pf_server_memory.specs.Outgoing.{Outgoing, sent_by}
use Rattle.pf_server_restart.specs.Beginning.{ServerHasBegun, WasBegun, setup_of_seat}
use Rattle.pf_server_restart.specs.declared.seat.Seat.{Seat}
use Rattle.pf_server.specs.declared.server.Server.{Server as ServerHere}
use Rattle.pf_server.specs.declared.state.State.{State}
use Rattle.pf_server.specs.Conditions.{AreSized, Meets, untaken_answers, state_runs}

-- the answers of the reads that a step made ready
abbrev pub answers_after : Server → List (ℕ × List Sector)
answers_after s = map (λ r. (let a = answer_of s r in (a.number, a.bytes))) (ready_reads s)

module _ {S : Type 0} (model : StoreModel S) (seat : Seat) (store' : S) (state' : State) (s : Server) where
  -- the rule was carried out, and the reads that are ready were answered
  pub record IsSettled (o : Outcome) (answer : Answer) : Type 0 where
    pub answered : answer ≡ o.answer
    pub meets : Meets model seat store' state' (RunningIs (settled o.server))
    pub answers : untaken_answers state' ≡ answers_after o.server
    pub sized : AreSized (untaken_answers state')

  -- the server is as it was, but for answers that nobody took
  pub record IsAsBefore : Type 0 where
    pub meets : Meets model seat store' state' (RunningIs s)
    pub none : untaken_answers state' ≡ []

  pub record WasRefused (refusal : Refusal) (answer : Answer) : Type 0 where
    pub answered : answer ≡ Refused refusal
    pub kept : IsAsBefore

  -- what a step in memory alone comes to, of which this refusal comes first
  abbrev pub ComesInMemory : Option Refusal → Outcome → Answer → Type 0
  ComesInMemory None o answer = IsSettled o answer
  ComesInMemory (Some refusal) o answer = WasRefused refusal answer

  -- the job of the least slot that can be claimed, which is in hand then
  pub record IsClaimed (job : Job) : Type 0 where
    pub least : claimable 4096 s ≡ Some job.slot
    pub job_is : job ≡ record { server = s.number; life = s.life; slot = job.slot; op = op_at s.durable.log job.slot }
    pub meets : Meets model seat store' state' (RunningIs (claimed s job.slot))
    pub none : untaken_answers state' ≡ []

  abbrev pub Claims : Result (Option Job) NoMemory → Type 0
  Claims (Ok (Some job)) = IsClaimed job
  Claims (Ok None) = (claimable 4096 s ≡ None) × IsAsBefore
  Claims (Err e) = IsAsBefore

module _ {S : Type 0} (model : StoreModel S) (seat : Seat) (store store' : S) (state' : State) (s : Server) where
  -- the step was carried out, and its packets were sent
  pub record WasCarriedOut (out out' : Outgoing) (o : Outcome) (answer : Answer) : Type 0 where
    pub settles : IsSettled model seat store' state' s o answer
    pub sent : out' ≡ record (sent_by out o.packets) { acked = o.acked }
    pub crash : (store' ≡ store) ⊎ model.was store store' s.durable o.server.durable

  -- a disk failed as the step was stored, and the server is stopped
  pub record WasCutOff (o : Outcome) (answer : Answer) : Type 0 where
    pub answered : answer ≡ Refused Halted
    pub stores : has_stored s.durable o.server.durable ≡ true
    pub meets : Meets model seat store' state' (StoppedIs (suc s.life) s.durable o.server.durable)
    pub crash : model.was store store' s.durable o.server.durable
    pub cause : model.rose store store'

  -- there was no memory for the step: the server and its disks are as they were
  pub record WasSpared : Type 0 where
    pub kept : IsAsBefore model seat store' state' s
    pub store_same : store' ≡ store

  -- what a step comes to, of which this refusal comes first
  abbrev pub Comes : Outgoing → Outgoing → Option Refusal → Outcome → Result Answer NoMemory → Type 0
  Comes out out' None o (Ok answer) = WasCarriedOut out out' o answer ⊎ WasCutOff o answer
  Comes out out' (Some refusal) o (Ok answer) = WasRefused model seat store' state' s refusal answer × (store' ≡ store)
  Comes out out' judged o (Err e) = WasSpared

-- at a server that runs this rule was carried out where nothing so judged spoke against it
abbrev pub TurnsBy : {S : Type 0} → StoreModel S → (judged : Server → Option Refusal) (rule : Server → Outcome) → (old new : ServerHere S) (out out' : Outgoing)
    → Result Answer NoMemory → Type 0
TurnsBy model judged rule old new out out' result =
    (s : Server) → Meets model old.seat old.store old.state (RunningIs s)
    → Comes model old.seat old.store new.store new.state s out out' (judged s) (rule s) result

-- a server that does not run refuses, and stays as it is
abbrev pub RefusesDown : {S : Type 0} → (old new : ServerHere S) → Result Answer NoMemory → Type 0
RefusesDown old new result = state_runs old.state ≡ false → (result ≡ Ok (Refused Down)) × (new ≡ old)

-- a job of another life is refused
abbrev pub finish_refusal : Server → (life : ℕ) → Option Refusal
finish_refusal s life = refuse (not (life == s.life)) (Stale s.life) None

module _ {S : Type 0} (model : StoreModel S) (seat : Seat) (store store' : S) (state' : State) where
  -- what a restart comes to that found the record of the last step, or not
  abbrev pub Begins : (life : ℕ) → (before after : Durable) → (found : Bool) → Answer → Type 0
  Begins life before after found Done = Meets model seat store' state' (RunningIs (restarted seat.number (suc life) (renewed (cond found after before))))
  Begins life before after found (Refused Halted) = Meets model seat store' state' (StoppedIs (suc life) before after) × model.rose store store'
  Begins life before after found _ = ⊥

  abbrev pub BeginsAgain : Condition → Result (Answer × Bool) NoMemory → Type 0
  BeginsAgain (RunningIs s) (Ok (answer, found)) = Begins s.life s.durable s.durable found answer
  BeginsAgain (StoppedIs life before after) (Ok (answer, found)) = Begins life before after found answer
  BeginsAgain UnformattedIs (Ok (answer, found)) = (answer ≡ Refused NotOurs) × Meets model seat store' state' UnformattedIs
  BeginsAgain c (Err e) = Meets model seat store' state' c

-- the life that begins after this condition
abbrev pub next_life : Condition → ℕ
next_life (RunningIs s) = suc s.life
next_life (StoppedIs life before after) = suc life
next_life UnformattedIs = 0

-- a running server in this condition, stopped
abbrev pub stopped_in : Condition → Condition
stopped_in (RunningIs s) = StoppedIs (suc s.life) s.durable s.durable
stopped_in (StoppedIs life before after) = StoppedIs life before after
stopped_in UnformattedIs = UnformattedIs

module _ {S : Type 0} (model : StoreModel S) (seat : Seat) (store' : S) (state' : State) (c : Condition) where
  -- the next life over some state that fits, whatever it is
  pub record BeginsOver : Type 0 where
    pub life : ℕ
    pub next : suc life ≡ next_life c
    pub d : Durable
    pub fits : ServerHasBegun (setup_of_seat seat) d
    pub meets : Meets model seat store' state' (RunningIs (restarted seat.number (next_life c) d))

  -- cut off over some state that fits
  pub record StopsOver : Type 0 where
    pub life : ℕ
    pub next : suc life ≡ next_life c
    pub d : Durable
    pub fits : ServerHasBegun (setup_of_seat seat) d
    pub meets : Meets model seat store' state' (StoppedIs (next_life c) d d)

  -- cut off as it read
  abbrev pub StopsUnread : Condition → Type 0
  StopsUnread (RunningIs s) = Meets model seat store' state' (StoppedIs (suc s.life) s.durable s.durable)
  StopsUnread (StoppedIs life before after) = Meets model seat store' state' (StoppedIs (suc life) before after)
  StopsUnread UnformattedIs = ⊥

  -- what a restart comes to over any disks
  abbrev pub BeginsSomehow : Result (Answer × Bool) NoMemory → Type 0
  BeginsSomehow (Ok (Done, found)) = BeginsOver
  BeginsSomehow (Ok (Refused Halted, found)) = StopsOver ⊎ StopsUnread c
  BeginsSomehow (Ok (answer, found)) = (answer ≡ Refused NotOurs) × Meets model seat store' state' (stopped_in c)
  BeginsSomehow (Err e) = Meets model seat store' state' c

-- the state itself, or saved anew in the second format
abbrev pub IsSavedOf : Durable → Durable → Type 0
IsSavedOf d x = (x ≡ d) ⊎ (x ≡ renewed d)

module _ {S : Type 0} (was : S → S → Durable → Durable → Type 0) (store store' : S) where
  -- a restart began from the state without the last step's record or from that with it, perhaps saved anew before
  pub record WasBegunFrom (before after : Durable) : Type 0 where
    pub x : Durable
    pub y : Durable
    pub first : IsSavedOf before x ⊎ IsSavedOf after x
    pub second : IsSavedOf before y ⊎ IsSavedOf after y
    pub begun : WasBegun was x y store store'

  -- what became of the disks of a server in this condition; of one that never ran nothing
  abbrev pub WasBegunIn : Condition → Type 0
  WasBegunIn (RunningIs s) = WasBegunFrom s.durable s.durable
  WasBegunIn (StoppedIs life before after) = WasBegunFrom before after
  WasBegunIn UnformattedIs = store' ≡ store
