-- A group: three servers and every packet that was ever sent.
use Rattle.std.specs.Prelude.{ℕ, suc, ◌+◌, Bool, true, false, cond, List, [], ◌∷◌, ◌++◌, map, replicate, Option, Some, None, ◌==◌, if◌then◌else◌, slice_get, slice_set, slice_range}
use Rattle.std.specs.List.{list_any}
use Rattle.std.specs.Option.{option_to_list}
use Rattle.std.specs.FinMap
use Rattle.pf_entry.specs.Sets
use Rattle.pf_entry.specs.Maps.{Numbers}
use Rattle.pf_base.specs.Span.{Span}
use Rattle.pf_entry.specs.Ops.{Sector}
use Rattle.pf_entry.specs.Ops.{zero_sector}
use Rattle.pf_entry.specs.declared.packets.Packet.{Packet}
use Rattle.pf_entry.specs.Records.{Durable, image_of}
use Rattle.pf_entry.specs.Sizes.{body_size, empty_half}
use Rattle.pf_protocol.specs.Servers.{Setup, Read, Serving, Server, Condition, Running, Stopped, Unformatted}
use Rattle.pf_protocol.specs.Outcomes.{Outcome}
use Rattle.pf_protocol.specs.declared.answers.Answer.{Answer}
use Rattle.pf_protocol.specs.declared.answers.Answer.TheVariants.{Read as ReadIs, Refused}
use Rattle.pf_protocol.specs.declared.answers.Refusal.{Refusal}
use Rattle.pf_protocol.specs.declared.answers.Refusal.TheVariants.{Down, Halted}
use Rattle.pf_protocol.specs.declared.events.Event.{Event}
use Rattle.pf_protocol.specs.declared.events.Event.TheVariants.{Submit, Fetch, Deliver, Lose, Elect, Resend, Stop, Restart, Claim, Finish, GiveBack, Checkpoint}
use Rattle.pf_protocol.specs.Leading.{on_submit, on_fetch, on_elect, on_resend}
use Rattle.pf_protocol.specs.Saving.{on_checkpoint, restarted, renewed, claimable, claimed, on_finish, on_give_back}
use Rattle.pf_protocol.specs.Rows.{on_packet, ready_reads, settled}

pub record Sent : Type 0 where
  pub packet : Packet
  pub delivered : Bool
  pub lost : Bool

-- the leader of this term told the host that the slot is committed
pub record Acked : Type 0 where
  pub term : ℕ
  pub slot : ℕ

-- a read's answer: the bytes of its range, and what its server had applied
pub record Answered : Type 0 where
  pub number : ℕ
  pub server : ℕ
  pub term : ℕ
  pub range : Span
  pub base : ℕ
  pub applied : Numbers
  pub bytes : List Sector

pub record Group : Type 0 where
  pub servers : List Condition
  pub packets : List Sent
  pub acked : List Acked
  pub answered : List Answered
  pub elections : ℕ
  pub reads : ℕ

-- how a step ended: whole, cut off by a disk's fault, at a stopped server, or refused
pub data Ending : Type 0 where
  Whole : Ending
  CutOff : Ending
  Missed : Ending
  Untouched : Ending

-- a step that was refused, or met a stopped server, did not take place. One that was cut off may have left its record
abbrev pub TookPlace : Ending → Type 0
TookPlace Whole = Unit {0}
TookPlace CutOff = Unit {0}
TookPlace _ = ⊥

abbrev pub ending_of : Refusal → Ending
ending_of Halted = CutOff
ending_of Down = Missed
ending_of _ = Untouched

abbrev pub ending : Answer → Ending
ending (Refused refusal) = ending_of refusal
ending _ = Whole

abbrev pub send : List Packet → List Sent
send packets = map (λ p. record { packet = p; delivered = false; lost = false }) packets

abbrev pub answer_of : Server → Read → Answered
answer_of s r = record {
  number = r.number;
  server = s.number;
  term = s.durable.term;
  range = r.range;
  base = s.durable.base;
  applied = s.applied;
  bytes = slice_range s.sectors r.range.first (r.range.first + r.range.count);
}

-- only a read that is taken up has a number
abbrev pub reads_after : ℕ → Answer → ℕ
reads_after reads (ReadIs number) = suc reads
reads_after reads _ = reads

-- the server after its step
unfoldable pub acted : Group → ℕ → Outcome → Group
acted g i o = record g {
  servers = slice_set g.servers i (Running (settled o.server));
  packets = g.packets ++ send o.packets;
  acked = g.acked ++ map (λ slot. record { term = o.server.durable.term; slot = slot }) (option_to_list o.acked);
  answered = g.answered ++ map (answer_of o.server) (ready_reads o.server);
  reads = reads_after g.reads o.answer;
}

-- a step that the disk cut off: its record is there or not, and nothing was sent
unfoldable pub cut_off : Group → ℕ → Server → Outcome → Group
cut_off g i s o = record g { servers = slice_set g.servers i (Stopped (suc s.life) s.durable o.server.durable) }

abbrev pub step_ended : Ending → Group → ℕ → Server → Outcome → Group
step_ended Whole g i s o = acted g i o
step_ended CutOff g i s o = cut_off g i s o
step_ended Missed g i s o = g
step_ended Untouched g i s o = g

-- a step of a server, if it runs
abbrev pub server_step_of : Ending → Group → ℕ → Option Condition → (Server → Outcome) → Group
server_step_of how g i (Some (Running s)) rule = step_ended how g i s (rule s)
server_step_of how g i (Some (Stopped life before after)) rule = g
server_step_of how g i (Some Unformatted) rule = g
server_step_of how g i None rule = g

abbrev pub at_server : Ending → Group → ℕ → (Server → Outcome) → Group
at_server how g i rule = server_step_of how g i (slice_get g.servers i) rule

abbrev pub with_sent : Group → ℕ → Sent → Group
with_sent g k p = record g { packets = slice_set g.packets k p }

-- a delivery that was refused does not count; after every other one its packet was delivered, also at a stopped server
abbrev pub delivered_in : Ending → Group → ℕ → Sent → Group
delivered_in Untouched g k p = g
delivered_in _ g k p = with_sent g k (record p { delivered = true })

-- the packet of this number comes, unless it was lost
abbrev pub packet_delivered : Setup → Ending → Group → ℕ → Option Sent → Group
packet_delivered setup how g k None = g
packet_delivered setup how g k (Some p) =
    if p.lost then g else at_server how (delivered_in how g k p) p.packet.to (λ s. on_packet setup s p.packet)

abbrev pub lost : Group → ℕ → Option Sent → Group
lost g k None = g
lost g k (Some p) = with_sent g k (record p { lost = true })

abbrev pub stopped : Group → ℕ → Option Condition → Group
stopped g i (Some (Running s)) = record g { servers = slice_set g.servers i (Stopped (suc s.life) s.durable s.durable) }
stopped g i _ = g

-- a restart reads the records, or is itself cut off, which counts as a stop. It saves a half of format 1 anew; where that was
-- cut off, the next restart reads either the old half or the new one, and comes to the same state
abbrev pub server_begun : Ending → Group → ℕ → (life : ℕ) → (found_state : Durable) → (before after : Durable) → Group
server_begun Whole g i life d before after = record g { servers = slice_set g.servers i (Running (restarted i (suc life) (renewed d))) }
server_begun CutOff g i life d before after = record g { servers = slice_set g.servers i (Stopped (suc life) before after) }
server_begun _ g i life d before after = g

abbrev pub restart : Ending → Group → ℕ → Bool → Option Condition → Group
restart how g i found (Some (Running s)) = server_begun how g i s.life s.durable s.durable s.durable
restart how g i found (Some (Stopped life before after)) = server_begun how g i life (cond found after before) before after
restart how g i found (Some Unformatted) = g
restart how g i found None = g

-- the least server that has a slot to apply claims the least one
abbrev pub least_claim : (window : ℕ) → Option Condition → Option ℕ
least_claim window (Some (Running s)) = claimable window s
least_claim window _ = None

abbrev pub claim_at : Group → ℕ → Option Condition → Option ℕ → Group
claim_at g i (Some (Running s)) (Some slot) = record g { servers = slice_set g.servers i (Running (claimed s slot)) }
claim_at g i _ _ = g

abbrev pub claim_or : Group → ℕ → Option ℕ → Group → Group
claim_or g i None rest = rest
claim_or g i (Some slot) rest = claim_at g i (slice_get g.servers i) (Some slot)

abbrev pub first_claim : (window : ℕ) → Group → List ℕ → Group
first_claim window g [] = g
first_claim window g (i ∷ is) = claim_or g i (least_claim window (slice_get g.servers i)) (first_claim window g is)

abbrev pub only_whole : Ending → Group → Group → Group
only_whole Whole g after = after
only_whole _ g after = g

abbrev pub counted_election : Ending → Group → Group
counted_election Whole g = record g { elections = suc g.elections }
counted_election CutOff g = record g { elections = suc g.elections }
counted_election _ g = g

-- the group after one event
unfoldable pub happens : Setup → Group → Event → Ending → Group
happens setup g (Submit i op) how = at_server how g i (λ s. on_submit setup s op s.role)
happens setup g (Fetch i range) how = at_server how g i (λ s. on_fetch s range g.reads s.role)
happens setup g (Deliver k) how = packet_delivered setup how g k (slice_get g.packets k)
happens setup g (Lose k) how = only_whole how g (lost g k (slice_get g.packets k))
happens setup g (Elect i) how = at_server how (counted_election how g) i on_elect
happens setup g (Resend i) how = at_server how g i (λ s. on_resend s s.role)
happens setup g (Stop i) how = only_whole how g (stopped g i (slice_get g.servers i))
happens setup g (Restart i found) how = restart how g i found (slice_get g.servers i)
happens setup g Claim how = only_whole how g (first_claim setup.window g (0 ∷ 1 ∷ 2 ∷ []))
happens setup g (Finish i life slot) how = at_server how g i (λ s. on_finish s life slot)
happens setup g (GiveBack i life slot) how = at_server how g i (λ s. on_give_back s life slot)
happens setup g (Checkpoint i) how = at_server how g i on_checkpoint

-- the opening state: server 0 serves in term 1
unfoldable pub opening_disk : Setup → Durable
opening_disk setup =
    let formatted : Durable = record {
      format = setup.format;
      used = 0;
      generation = 0;
      term = 1;
      base = 0;
      starts = FinMap.empty;
      log = FinMap.empty;
      saved = Sets.empty;
      sectors = replicate setup.chunk zero_sector;
    } in
    record formatted { used = empty_half + body_size (image_of formatted) }

unfoldable pub first_leader : Setup → Server
first_leader setup = record (restarted 0 0 (opening_disk setup)) {
  role = Serving (record { first = 1; next = 1; b0 = 0; acks = FinMap.empty; known = FinMap.empty });
}

-- each runs whose disks could be formatted
abbrev pub unless_failed : Setup → ℕ → Server → Condition
unless_failed setup i s = if list_any (λ j. j == i) setup.failed then Unformatted else Running s

unfoldable pub opening : Setup → Group
opening setup = record {
  servers =
      unless_failed setup 0 (first_leader setup)
      ∷ unless_failed setup 1 (restarted 1 0 (opening_disk setup))
      ∷ unless_failed setup 2 (restarted 2 0 (opening_disk setup))
      ∷ [];
  packets = [];
  acked = [];
  answered = [];
  elections = 0;
  reads = 0;
}
