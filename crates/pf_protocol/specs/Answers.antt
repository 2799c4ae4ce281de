-- What each event is answered, and which histories a group can have.
use Rattle.std.specs.Prelude.{◌≡◌, ℕ, ◌+◌, ◌<◌, ◌≤◌, ◌*◌, ◌⊎◌, Bool, true, false, not, ◌&&◌, ◌||◌, ◌==◌, List, [], ◌∷◌, length, Option, Some, None, is_none, if◌then◌else◌, nat_lt, nat_le, slice_get, filter, sum_by}
use Rattle.std.specs.List.{list_any}
use Rattle.std.specs.FinMap
use Rattle.pf_base.specs.Sizes.{half_bytes}
use Rattle.pf_base.specs.Span.{Span, IsWritable, fits_in}
use Rattle.pf_entry.specs.Lists.{Every}
use Rattle.pf_entry.specs.Ops.{range_of}
use Rattle.pf_entry.specs.Sizes.{packet_size}
use Rattle.pf_entry.specs.Records.{Durable}
use Rattle.pf_entry.specs.declared.ops.Op.{Op}
use Rattle.pf_entry.specs.declared.ops.Op.TheVariants.{Write, Noop, Mark}
use Rattle.pf_entry.specs.declared.packets.Packet.{Packet}
use Rattle.pf_protocol.specs.declared.answers.Answer.{Answer}
use Rattle.pf_protocol.specs.declared.answers.Answer.TheVariants.{Done, Job as JobIs, Refused}
use Rattle.pf_protocol.specs.declared.answers.Refusal.{Refusal}
use Rattle.pf_protocol.specs.declared.answers.Refusal.TheVariants.{BadRange, WindowFull, LogFull, NotOurs, NotLeader, Down, Halted, NoPacket, LostPacket, PacketsFull, ElectionsFull, NoneFree, Stale, OldFormat}
use Rattle.pf_protocol.specs.declared.events.Event.{Event}
use Rattle.pf_protocol.specs.declared.events.Event.TheVariants.{Submit, Fetch, Deliver, Lose, Elect, Resend, Stop, Restart, Claim, Finish, GiveBack, Checkpoint}
use Rattle.pf_protocol.specs.declared.events.Happening.{Happening}
use Rattle.pf_protocol.specs.Servers.{Setup, Role, Serving, Server, Condition, Running, Stopped}
use Rattle.pf_protocol.specs.Outcomes.{Outcome}
use Rattle.pf_protocol.specs.Leading.{op_at, on_submit, on_fetch, on_elect, on_resend}
use Rattle.pf_protocol.specs.Saving.{on_checkpoint, on_finish}
use Rattle.pf_protocol.specs.Rows.{on_packet}
use Rattle.pf_protocol.specs.Groups.{Group, Sent, least_claim, ending, happens, opening}
use Rattle.pf_protocol.specs.Histories.{History}

-- what a group and a half of a log have room for
unfoldable pub most_packets : ℕ
most_packets = 65536

unfoldable pub most_packet_bytes : ℕ
most_packet_bytes = 134217728

unfoldable pub most_elections : ℕ
most_elections = 64

unfoldable pub half_size : ℕ
half_size = half_bytes

-- the refusal, where there is a reason for it, and else what comes after it
abbrev pub refuse : Bool → Refusal → Option Refusal → Option Refusal
refuse fault refusal rest = if fault then Some refusal else rest

abbrev pub packets_full : Group → List Packet → Bool
packets_full g packets =
    nat_lt most_packets (length g.packets + length packets)
    || nat_lt most_packet_bytes (sum_by (λ sent. packet_size sent.packet) g.packets + sum_by packet_size packets)

-- the packets of a step have to fit, and its record
unfoldable pub room_refusal : Group → Outcome → Option Refusal
room_refusal g o = refuse (packets_full g o.packets) PacketsFull (refuse (nat_lt half_size o.server.durable.used) LogFull None)

abbrev pub is_serving : Role → Bool
is_serving (Serving l) = true
is_serving _ = false

abbrev pub window_full : Setup → Server → Role → Bool
window_full setup s (Serving l) = nat_lt (s.durable.base + setup.window) l.next
window_full setup s _ = false

abbrev pub is_mark : Op → Bool
is_mark Mark = true
is_mark _ = false

unfoldable pub submit_refusal : Setup → Group → Op → Server → Option Refusal
submit_refusal setup g op s =
    refuse (is_mark op && setup.format == 1) OldFormat
    (refuse (not (fits_in (range_of op) setup.chunk)) BadRange
    (refuse (not (is_serving s.role)) NotLeader
    (refuse (window_full setup s s.role) WindowFull (room_refusal g (on_submit setup s op s.role)))))

unfoldable pub fetch_refusal : Setup → Group → Span → Server → Option Refusal
fetch_refusal setup g range s =
    refuse (not (fits_in range setup.chunk)) BadRange
    (refuse (not (is_serving s.role)) NotLeader (room_refusal g (on_fetch s range g.reads s.role)))

unfoldable pub elect_refusal : Group → Server → Option Refusal
elect_refusal g s = refuse (nat_le most_elections g.elections) ElectionsFull (room_refusal g (on_elect s))

-- an event at one server: its rule, and which refusal comes first
pub record ServerTurn : Type 0 where
  pub rule : Server → Outcome
  pub refusal : Server → Option Refusal

abbrev pub plain_turn : Group → (Server → Outcome) → ServerTurn
plain_turn g rule = record { rule = rule; refusal = λ s. room_refusal g (rule s) }

abbrev pub submit_turn : Setup → Group → Op → ServerTurn
submit_turn setup g op = record { rule = λ s. on_submit setup s op s.role; refusal = submit_refusal setup g op }

abbrev pub fetch_turn : Setup → Group → Span → ServerTurn
fetch_turn setup g range = record { rule = λ s. on_fetch s range g.reads s.role; refusal = fetch_refusal setup g range }

abbrev pub elect_turn : Group → ServerTurn
elect_turn g = record { rule = on_elect; refusal = elect_refusal g }

abbrev pub deliver_turn : Setup → Group → Sent → ServerTurn
deliver_turn setup g sent = plain_turn g (λ s. on_packet setup s sent.packet)

abbrev pub answer_by : Option Refusal → Answer → Answer
answer_by None answer = answer
answer_by (Some refusal) answer = Refused refusal

-- the answer of a server that has to run for it
abbrev pub answer_at : Option Condition → ServerTurn → Answer
answer_at (Some (Running s)) turn = answer_by (turn.refusal s) (turn.rule s).answer
answer_at _ turn = Refused Down

-- whether the step adds a record or saves a half
abbrev pub has_stored : Durable → Durable → Bool
has_stored before after = not (after.used == before.used && after.generation == before.generation)

-- whether a disk can fail during the step: only where nothing refuses it, and where it stores something
abbrev pub can_halt : Option Condition → ServerTurn → Bool
can_halt (Some (Running s)) turn = is_none (turn.refusal s) && has_stored s.durable (turn.rule s).server.durable
can_halt _ turn = false

abbrev pub delivery_answer : Setup → Group → Option Sent → Answer
delivery_answer setup g None = Refused NoPacket
delivery_answer setup g (Some sent) =
    if sent.lost then Refused LostPacket else answer_at (slice_get g.servers sent.packet.to) (deliver_turn setup g sent)

abbrev pub delivery_halts : Setup → Group → Option Sent → Bool
delivery_halts setup g None = false
delivery_halts setup g (Some sent) = not sent.lost && can_halt (slice_get g.servers sent.packet.to) (deliver_turn setup g sent)

abbrev pub loss_answer : Option Sent → Answer
loss_answer None = Refused NoPacket
loss_answer (Some sent) = if sent.lost then Refused LostPacket else Done

abbrev pub stop_answer : Option Condition → Answer
stop_answer (Some (Running s)) = Done
stop_answer _ = Refused Down

abbrev pub is_formatted : Option Condition → Bool
is_formatted (Some (Running s)) = true
is_formatted (Some (Stopped life before after)) = true
is_formatted _ = false

-- a server that was never formatted has no state to begin from
abbrev pub restart_answer : Option Condition → Answer
restart_answer c = if is_formatted c then Done else Refused NotOurs

abbrev pub claim_answer_at : ℕ → Option Condition → Option ℕ → Answer → Answer
claim_answer_at i (Some (Running s)) (Some slot) rest = JobIs (record { server = i; life = s.life; slot = slot; op = op_at s.durable.log slot })
claim_answer_at i _ _ rest = rest

-- the job of the least server that has one
abbrev pub claim_answer : (window : ℕ) → Group → List ℕ → Answer
claim_answer window g [] = Refused NoneFree
claim_answer window g (i ∷ is) = claim_answer_at i (slice_get g.servers i) (least_claim window (slice_get g.servers i)) (claim_answer window g is)

-- a job is stale where its server began another life, also while that is stopped
abbrev pub finish_answer : Option Condition → (life slot : ℕ) → Answer
finish_answer (Some (Running s)) life slot = (on_finish s life slot).answer
finish_answer (Some (Stopped now before after)) life slot = Refused (Stale now)
finish_answer _ life slot = Refused Down

-- the answer, where no disk fails
unfoldable pub answer_to : Setup → Group → Event → Answer
answer_to setup g (Submit i op) = answer_at (slice_get g.servers i) (submit_turn setup g op)
answer_to setup g (Fetch i range) = answer_at (slice_get g.servers i) (fetch_turn setup g range)
answer_to setup g (Deliver k) = delivery_answer setup g (slice_get g.packets k)
answer_to setup g (Lose k) = loss_answer (slice_get g.packets k)
answer_to setup g (Elect i) = answer_at (slice_get g.servers i) (elect_turn g)
answer_to setup g (Resend i) = answer_at (slice_get g.servers i) (plain_turn g (λ s. on_resend s s.role))
answer_to setup g (Stop i) = stop_answer (slice_get g.servers i)
answer_to setup g (Restart i found) = restart_answer (slice_get g.servers i)
answer_to setup g Claim = claim_answer setup.window g (0 ∷ 1 ∷ 2 ∷ [])
answer_to setup g (Finish i life slot) = finish_answer (slice_get g.servers i) life slot
answer_to setup g (GiveBack i life slot) = Done
answer_to setup g (Checkpoint i) = answer_at (slice_get g.servers i) (plain_turn g on_checkpoint)

-- whether a disk can fail during the event
unfoldable pub may_halt : Setup → Group → Event → Bool
may_halt setup g (Submit i op) = can_halt (slice_get g.servers i) (submit_turn setup g op)
may_halt setup g (Fetch i range) = false
may_halt setup g (Deliver k) = delivery_halts setup g (slice_get g.packets k)
may_halt setup g (Lose k) = false
may_halt setup g (Elect i) = can_halt (slice_get g.servers i) (elect_turn g)
may_halt setup g (Resend i) = false
may_halt setup g (Stop i) = false
may_halt setup g (Restart i found) = is_formatted (slice_get g.servers i)
may_halt setup g Claim = false
may_halt setup g (Finish i life slot) = false
may_halt setup g (GiveBack i life slot) = false
may_halt setup g (Checkpoint i) = can_halt (slice_get g.servers i) (plain_turn g on_checkpoint)

abbrev pub IsAnswer : Setup → Group → Event → Answer → Type 0
IsAnswer setup g event answer =
    (answer ≡ answer_to setup g event) ⊎ ((may_halt setup g event ≡ true) × (answer ≡ Refused Halted))

-- a claim that was neither finished nor given back
pub record Claimed : Type 0 where
  pub server : ℕ
  pub life : ℕ
  pub slot : ℕ
  pub op : Op

abbrev pub is_claim : (server life slot : ℕ) → Claimed → Bool
is_claim server life slot c = c.server == server && c.life == life && c.slot == slot

abbrev pub claims_with : Answer → List Claimed → List Claimed
claims_with (JobIs job) claims = record { server = job.server; life = job.life; slot = job.slot; op = job.op } ∷ claims
claims_with _ claims = claims

abbrev pub claims_without : (server life slot : ℕ) → List Claimed → List Claimed
claims_without server life slot claims = filter (λ c. not (is_claim server life slot c)) claims

-- the claims that are open after one more event
abbrev pub claims_after : List Claimed → Event → Answer → List Claimed
claims_after claims Claim answer = claims_with answer claims
claims_after claims (Finish server life slot) answer = claims_without server life slot claims
claims_after claims (GiveBack server life slot) answer = claims_without server life slot claims
claims_after claims _ answer = claims

-- the claims that are open after a history
abbrev pub claims_of : List Claimed → History → List Claimed
claims_of claims [] = claims
claims_of claims (h ∷ hs) = claims_of (claims_after claims h.event h.answer) hs

-- what an open claim says of its server: its job is in hand while its life lasts, and no life is over that has not begun
pub record ClaimIsOpen (servers : List Condition) (c : Claimed) : Type 0 where
  pub running : (s : Server) → slice_get servers c.server ≡ Some (Running s) → (c.life ≤ s.life) × (c.life ≡ s.life → FinMap.get s.in_hand c.slot ≡ Some c.op)
  pub stopped : (life : ℕ) (before after : Durable) → slice_get servers c.server ≡ Some (Stopped life before after) → c.life < life

-- a host submits whole sectors, or a mark
abbrev pub IsSubmitted : Op → Type 0
IsSubmitted (Write range payload) = IsWritable range.first range.count × (length payload ≡ range.count) × Every (λ bytes. length bytes ≡ 512) payload
IsSubmitted Mark = Unit {0}
IsSubmitted Noop = ⊥

-- what may be asked of a group: of its three servers, and a job is brought back once
abbrev pub MayHappen : List Claimed → Event → Type 0
MayHappen claims (Submit i op) = (i < 3) × IsSubmitted op
MayHappen claims (Fetch i range) = (i < 3) × IsWritable range.first range.count
MayHappen claims (Deliver k) = Unit {0}
MayHappen claims (Lose k) = Unit {0}
MayHappen claims (Elect i) = i < 3
MayHappen claims (Resend i) = i < 3
MayHappen claims (Stop i) = i < 3
MayHappen claims (Restart i found) = i < 3
MayHappen claims Claim = Unit {0}
MayHappen claims (Finish i life slot) = list_any (is_claim i life slot) claims ≡ true
MayHappen claims (GiveBack i life slot) = list_any (is_claim i life slot) claims ≡ true
MayHappen claims (Checkpoint i) = i < 3

pub record IsLegalNext (setup : Setup) (g : Group) (claims : List Claimed) (h : Happening) : Type 0 where
  pub asked : MayHappen claims h.event
  pub answered : IsAnswer setup g h.event h.answer

-- each event could be asked for, and has its answer
abbrev pub IsLegalFrom : Setup → Group → List Claimed → History → Type 0
IsLegalFrom setup g claims [] = Unit {0}
IsLegalFrom setup g claims (h ∷ hs) = IsLegalNext setup g claims h × IsLegalFrom setup (happens setup g h.event (ending h.answer))
    (claims_after claims h.event h.answer) hs

-- a chunk of whole blocks, lists that the format has room for
pub record IsSetup (setup : Setup) : Type 0 where
  pub few_names : setup.names ≤ 16
  pub some_sectors : 16 ≤ setup.chunk
  pub few_sectors : setup.chunk ≤ 4096
  pub blocks : (k : ℕ) × (setup.chunk ≡ 8 * k)
  pub format : ((setup.format ≡ 1) × (setup.names ≤ 2)) ⊎ (setup.format ≡ 2)
  pub window : setup.window ≡ 4096

-- the histories of groups
pub record IsLegal (setup : Setup) (history : History) : Type 0 where
  pub is_setup : IsSetup setup
  pub legal : IsLegalFrom setup (opening setup) [] history
