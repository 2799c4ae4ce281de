-- Reads are as their servers need them.
use Rattle.std.proofs.Common.{◌≡◌, ℕ, zero, suc, ◌<◌, ◌≤◌, inl, inr, Bool, true, false, cond, not, ◌&&◌, ◌==◌, if◌then◌else◌, List, [], ◌∷◌, ◌++◌, map, nat_lt, arith, refl, sym, ap, subst, ◌∙◌, le_refl}
use Rattle.std.specs.FinMap.{nat_cmp-IsAntisymmetric}
use Rattle.std.specs.List.{filter}
use Rattle.std.proofs.lemmas.Bool.{and_parts, and_from, or_left, ltb-true, lt-ltb, le-leb, not-false, false≢true}
use Rattle.pf_base.specs.Span.{Span, fits_in, overlaps, IsWritable}
use Rattle.pf_entry.specs.Lists.{Every}
use Rattle.pf_entry.proofs.Lists.{every_append, every_more, every_map, every_filter}
use Rattle.pf_entry.specs.Sets
use Rattle.pf_entry.proofs.Sets.{contains-retain}
use Rattle.pf_entry.specs.Tables.{ascends, ascends_from}
use Rattle.pf_entry.specs.Records.{Durable}
use Rattle.pf_entry.specs.Ops.{range_of}
use Rattle.pf_entry.specs.declared.ops.Op.{Op}
use Rattle.pf_entry.specs.declared.packets.Packet.{Packet}
use Rattle.pf_entry.specs.declared.packets.Body.{Body}
use Rattle.pf_protocol.specs.declared.answers.Answer.{Answer}
use Rattle.pf_protocol.specs.declared.answers.Refusal.TheVariants.{BadRange, NotLeader}
use Rattle.pf_protocol.specs.declared.events.Event.{Event}
use Rattle.pf_protocol.specs.declared.events.Event.TheVariants.{Submit, Fetch, Deliver, Elect, Resend, Finish, GiveBack, Checkpoint}
use Rattle.pf_protocol.specs.declared.events.Happening.{Happening}
use Rattle.pf_protocol.specs.Servers.{Setup, Role, Follower, Candidate, Merging, Serving, Read, Server, has_applied}
use Rattle.pf_protocol.specs.Outcomes.{Outcome}
use Rattle.pf_protocol.specs.Leading.{op_at, on_submit, on_fetch, on_elect, on_resend, confirm}
use Rattle.pf_protocol.specs.Saving.{restarted, claimed, on_checkpoint, on_finish, on_give_back}
use Rattle.pf_protocol.specs.Rows.{on_message, on_packet, is_ready, ready_reads, settled}
use Rattle.pf_protocol.specs.Groups.{Sent, Answered, Group, Untouched, answer_of, reads_after, server_step_of, at_server, ending, happens, opening, first_leader, opening_disk}
use Rattle.pf_protocol.specs.Histories.{History, replay, RunsAs}
use Rattle.pf_protocol.specs.Answers.{refuse, fetch_refusal, is_serving, room_refusal, fetch_turn, answer_at, answer_to, may_halt, MayHappen, IsAnswer, Claimed, IsLegalNext, IsLegal}
use Rattle.pf_protocol.specs.Asked.{IsReadAsked, AreAsked, AreBelow, Asks}
use Rattle.pf_entry.proofs.Cases.{by_test}
use Rattle.pf_protocol.proofs.Legal.{IsSilent, refuse_silent, room_silent, refuse_none, stands_or_silent, reads_low}
use Rattle.pf_protocol.proofs.EventChanges.{IsRule, BySubmit, ByPacket, ByElect, ByResend, ByFinish, ByGiveBack, ByCheckpoint, Steps, Came, Stays, Stepped, Begins, Claims, goes, adds_every, answers_of}
use Rattle.pf_protocol.proofs.StepLeavings.{new_read, TakesUp, ReadsFrom, NoReads, SameReads, Takes, Confirms, does}
use Rattle.pf_protocol.proofs.Moments.{opened, legal_keeps}
use Rattle.pf_entry.proofs.Ascents.{from_lower, rest_ascends}

abbrev numbers : List Read → List ℕ
numbers reads = map (λ r. r.number) reads

fewer_from : (test : Read → Bool) (n : ℕ) (reads : List Read) → ascends_from n (numbers reads) ≡ true → ascends_from n (numbers (filter test reads)) ≡ true
fewer_from test n [] is = refl
fewer_from test n (r ∷ rs) is =
    let parts = and_parts (nat_lt n r.number) (ascends_from r.number (numbers rs)) is in
    by_test (test r) (λ c. ascends_from n (numbers (cond c (r ∷ filter test rs) (filter test rs))) ≡ true)
    (λ _. and_from _ _ parts.0 (fewer_from test r.number rs parts.1))
    (λ _. let low = ltb-true n r.number parts.0 in fewer_from test n rs (from_lower n r.number (numbers rs) (omega (arith, low)) parts.1))

fewer_ascend : (test : Read → Bool) (reads : List Read) → ascends (numbers reads) ≡ true → ascends (numbers (filter test reads)) ≡ true
fewer_ascend test [] is = refl
fewer_ascend test (r ∷ rs) is =
    by_test (test r) (λ c. ascends (numbers (cond c (r ∷ filter test rs) (filter test rs))) ≡ true)
    (λ _. fewer_from test r.number rs is)
    (λ _. rest_ascends r.number (numbers (filter test rs)) (fewer_from test r.number rs is))

last_from : (n : ℕ) (reads : List Read) (r : Read) → ascends_from n (numbers reads) ≡ true → n < r.number → AreBelow r.number reads → ascends_from n (numbers (reads ++ r ∷ [])) ≡ true
last_from n [] r is lt below = and_from _ _ (lt-ltb n r.number lt) refl
last_from n (x ∷ xs) r is lt below =
    let parts = and_parts (nat_lt n x.number) (ascends_from x.number (numbers xs)) is in
    and_from _ _ parts.0 (last_from x.number xs r parts.1 below.0 below.1)

last_ascends : (reads : List Read) (r : Read) → ascends (numbers reads) ≡ true → AreBelow r.number reads → ascends (numbers (reads ++ r ∷ [])) ≡ true
last_ascends [] r is below = refl
last_ascends (x ∷ xs) r is below = last_from x.number xs r is below.0 below.1

-- a read that is confirmed keeps its number
same_number : (number : ℕ) (r : Read) → (confirm number r).number ≡ r.number
same_number number r = by_test (r.number == number) (λ c. (if c then record r { confirmed = true } else r).number ≡ r.number) (λ _. refl) (λ _. refl)

same_numbers : (number : ℕ) (reads : List Read) → numbers (map (confirm number) reads) ≡ numbers reads
same_numbers number [] = refl
same_numbers number (r ∷ rs) = ap (λ n. n ∷ numbers (map (confirm number) rs)) (same_number number r) ∙ ap (λ ns. r.number ∷ ns) (same_numbers number rs)

confirmed_asked : (chunk number : ℕ) (r : Read) → IsReadAsked chunk r → IsReadAsked chunk (confirm number r)
confirmed_asked chunk number r a =
    by_test (r.number == number) (λ c. IsReadAsked chunk (if c then record r { confirmed = true } else r)) (λ _. record { range = a.range; fits = a.fits; slots = a.slots }) (λ _. a)

-- slot 0 is below every checkpoint, so no read waits for it
waits_above : (s : Server) (range : Span) (number slot : ℕ) → Sets.contains (new_read s range number).waits_for slot ≡ true → 0 < slot
waits_above s range number (suc slot) is = omega arith
waits_above s range number zero is =
    let waits : ℕ → Bool = λ q. not (has_applied s q) && overlaps (range_of (op_at s.durable.log q)) range in
    let applied : has_applied s 0 ≡ true = or_left _ _ (le-leb 0 s.durable.base (omega arith)) in
    let both = and_parts _ _ (sym (contains-retain s.committed waits 0 (λ q tied. ap waits (sym (nat_cmp-IsAntisymmetric 0 q tied)))) ∙ is) in
    absurd (false≢true (sym (ap not applied) ∙ (and_parts _ _ both.1).0))

module _ (chunk : ℕ) where
  none_ask : (now : ℕ) (z : Server) → z.reads ≡ [] → Asks chunk now z
  none_ask now z none = record {
    asked = subst (AreAsked chunk) (sym none) (record { ascending = refl; each = tt });
    below = subst (AreBelow now) (sym none) tt;
  }

  same_ask : (next now : ℕ) → next ≤ now → (s z : Server) → z.reads ≡ s.reads → Asks chunk next s → Asks chunk now z
  same_ask next now le s z same a = record {
    asked = subst (AreAsked chunk) (sym same) a.asked;
    below = subst (AreBelow now) (sym same) (every_more (λ r. r.number < next) (λ r. r.number < now) (λ r low. omega (arith, low, le)) s.reads a.below);
  }

  taken_ask : (next now : ℕ) → suc next ≤ now → (s z : Server) (range : Span) → IsWritable range.first range.count → fits_in range chunk ≡ true → z.reads ≡ s.reads ++ new_read s range next ∷ [] → Asks chunk next s → Asks chunk now z
  taken_ask next now lt s z range writable fits is a = record {
    asked = subst (AreAsked chunk) (sym is) (record {
      ascending = last_ascends s.reads (new_read s range next) a.asked.ascending a.below;
      each = every_append (IsReadAsked chunk) s.reads _ a.asked.each (record { range = writable; fits = fits; slots = waits_above s range next }, tt);
    });
    below = subst (AreBelow now) (sym is)
        (every_append (λ r. r.number < now) s.reads _ (every_more (λ r. r.number < next) (λ r. r.number < now) (λ r low. omega (arith, low, lt)) s.reads a.below) (omega (arith, lt), tt));
  }

  confirmed_ask : (next now : ℕ) → next ≤ now → (s z : Server) (number : ℕ) → z.reads ≡ map (confirm number) s.reads → Asks chunk next s → Asks chunk now z
  confirmed_ask next now le s z number is a = record {
    asked = subst (AreAsked chunk) (sym is) (record {
      ascending = ap ascends (same_numbers number s.reads) ∙ a.asked.ascending;
      each = every_map (IsReadAsked chunk) (confirm number) s.reads (every_more (IsReadAsked chunk) (λ r. IsReadAsked chunk (confirm number r)) (confirmed_asked chunk number) s.reads a.asked.each);
    });
    below = subst (AreBelow now) (sym is)
        (every_map (λ r. r.number < now) (confirm number) s.reads (every_more (λ r. r.number < next) (λ r. (confirm number r).number < now) (λ r low. omega (arith, low, le, same_number number r)) s.reads a.below));
  }

  -- a step leaves the reads of its server so, where a read that it takes up is of the chunk and is counted
  pub step_asks : (g : Group) (i : ℕ) (s : Server) (event : Event) (o : Outcome) (now : ℕ) → g.reads ≤ now → ((range : Span) → event ≡ Fetch i range → TakesUp s range g.reads o → IsWritable range.first range.count × (fits_in range chunk ≡ true) × (suc g.reads ≤ now)) → ReadsFrom g i s event o → Asks chunk g.reads s → Asks chunk now o.server
  step_asks g i s event o now le fetch (NoReads none) a = none_ask now o.server none
  step_asks g i s event o now le fetch (SameReads same) a = same_ask g.reads now le s o.server same a
  step_asks g i s event o now le fetch (Takes range is takes) a = let f = fetch range is takes in taken_ask g.reads now f.2 s o.server range f.0 f.1 takes.reads a
  step_asks g i s event o now le fetch (Confirms k sent number upto_there at to_it body in_term is) a = confirmed_ask g.reads now le s o.server number is a

  -- the next read's number may be greater
  pub more_ask : (next now : ℕ) → next ≤ now → (s : Server) → Asks chunk next s → Asks chunk now s
  more_ask next now le s a = same_ask next now le s s refl a

  pub restarted_asks : (next i life : ℕ) (d : Durable) → Asks chunk next (restarted i life d)
  unfolding restarted
  restarted_asks next i life d = none_ask next (restarted i life d) refl

  pub claimed_asks : (next : ℕ) (s : Server) (slot : ℕ) → Asks chunk next s → Asks chunk next (claimed s slot)
  unfolding claimed
  claimed_asks next s slot a = same_ask next next (le_refl next) s (claimed s slot) refl a

  -- without the reads that are answered
  pub settled_asks : (next : ℕ) (s : Server) → Asks chunk next s → Asks chunk next (settled s)
  unfolding settled
  settled_asks next s a = record {
    asked = record {
      ascending = fewer_ascend (λ r. not (is_ready s r)) s.reads a.asked.ascending;
      each = every_filter (IsReadAsked chunk) _ s.reads (every_more (IsReadAsked chunk) _ (λ r is _. is) s.reads a.asked.each);
    };
    below = every_filter (λ r. r.number < next) _ s.reads (every_more (λ r. r.number < next) _ (λ r low _. low) s.reads a.below);
  }

-- each rule keeps the reads so; only a read that is taken up counts
module _ (setup : Setup) (chunk next : ℕ) (s : Server) (asks : Asks chunk next s) where
  -- a group that has counted as many reads, with these packets
  abbrev group_of : List Sent → Group
  group_of packets = record { servers = []; packets = packets; acked = []; answered = []; elections = 0; reads = next }

  keeps : (packets : List Sent) (i : ℕ) (event : Event) (o : Outcome) → ((range : Span) → event ≡ Fetch i range → ⊥) → IsRule setup (group_of packets) i s event o → Asks chunk next o.server
  keeps packets i event o other rule = step_asks chunk (group_of packets) i s event o next (le_refl next) (λ range is takes. absurd (other range is)) (does setup (group_of packets) i s event o rule).reads asks

  pub submit_asks : (op : Op) → Asks chunk next (on_submit setup s op s.role).server
  submit_asks op = keeps [] 0 (Submit 0 op) _ (λ range e. grind (arith, e)) (BySubmit op)

  pub elect_asks : Asks chunk next (on_elect s).server
  elect_asks = keeps [] 0 (Elect 0) _ (λ range e. grind (arith, e)) ByElect

  pub resend_asks : Asks chunk next (on_resend s s.role).server
  resend_asks = keeps [] 0 (Resend 0) _ (λ range e. grind (arith, e)) ByResend

  pub packet_asks : (p : Packet) → Asks chunk next (on_packet setup s p).server
  packet_asks p = keeps (record { packet = p; delivered = false; lost = false } ∷ []) p.to (Deliver 0) _ (λ range e. grind (arith, e)) (ByPacket 0 _ refl refl)

  -- whichever of the nine messages it is
  pub message_asks : (from term : ℕ) (body : Body) → Asks chunk next (on_message setup s from term body).server
  unfolding on_packet
  message_asks from term body = packet_asks (record { from = from; to = 0; term = term; body = body })

  pub checkpoint_asks : Asks chunk next (on_checkpoint s).server
  checkpoint_asks = keeps [] 0 (Checkpoint 0) _ (λ range e. grind (arith, e)) ByCheckpoint

  pub finish_asks : (life slot : ℕ) → Asks chunk next (on_finish s life slot).server
  finish_asks life slot = keeps [] 0 (Finish 0 life slot) _ (λ range e. grind (arith, e)) (ByFinish life slot)

  pub give_back_asks : (life slot : ℕ) → Asks chunk next (on_give_back s life slot).server
  give_back_asks life slot = keeps [] 0 (GiveBack 0 life slot) _ (λ range e. grind (arith, e)) (ByGiveBack life slot)

  fetched_asks : (range : Span) → IsWritable range.first range.count → fits_in range chunk ≡ true → (now : ℕ) (role : Role) → reads_after next (on_fetch s range next role).answer ≤ now → Asks chunk now (on_fetch s range next role).server
  unfolding on_fetch
  fetched_asks range writable fits now Follower le = more_ask chunk next now le s asks
  fetched_asks range writable fits now (Candidate own) le = more_ask chunk next now le s asks
  fetched_asks range writable fits now (Merging l) le = more_ask chunk next now le s asks
  fetched_asks range writable fits now (Serving l) le = taken_ask chunk next now le s _ range writable fits refl asks

  -- the count of reads after it
  pub fetch_asks : (range : Span) → IsWritable range.first range.count → fits_in range chunk ≡ true → Asks chunk (reads_after next (on_fetch s range next s.role).answer) (on_fetch s range next s.role).server
  fetch_asks range writable fits = fetched_asks range writable fits _ s.role (le_refl _)

  pub fetch_asks_next : (range : Span) → IsWritable range.first range.count → fits_in range chunk ≡ true → Asks chunk (suc next) (on_fetch s range next s.role).server
  fetch_asks_next range writable fits = fetched_asks range writable fits (suc next) s.role (reads_low next next (on_fetch s range next s.role).answer (le_refl next))

pub fetch_silent : (setup : Setup) (g : Group) (range : Span) (s : Server) → IsSilent (fetch_refusal setup g range s)
unfolding fetch_refusal
fetch_silent setup g range s =
    let room = room_refusal g (on_fetch s range g.reads s.role) in
    refuse_silent _ BadRange (refuse (not (is_serving s.role)) NotLeader room) refl (refuse_silent _ NotLeader room refl (room_silent g (on_fetch s range g.reads s.role)))

module _ (setup : Setup) (g : Group) where
  -- a read that is refused does not count
  not_counted : (i : ℕ) (range : Span) (answer : Answer) (s : Server) → RunsAs g i s → ending answer ≡ Untouched → (happens setup g (Fetch i range) (ending answer)).reads ≡ g.reads
  unfolding happens
  not_counted i range answer s at quiet =
      let rule : Server → Outcome = λ z. on_fetch z range g.reads z.role in
      ap (λ how. (at_server how g i rule).reads) quiet ∙ ap (λ c. (server_step_of Untouched g i c rule).reads) at

  -- a read that counts is of the chunk
  counted_fits : (i : ℕ) (range : Span) (answer : Answer) (s : Server) → IsAnswer setup g (Fetch i range) answer → RunsAs g i s → (happens setup g (Fetch i range) (ending answer)).reads ≡ suc g.reads → fits_in range setup.chunk ≡ true
  unfolding answer_to may_halt fetch_refusal
  counted_fits i range answer s legal at counts =
      let turn = fetch_turn setup g range in
      elim legal [
        | inl right ↦ elim (stands_or_silent turn s answer (fetch_silent setup g range s) (inl (right ∙ ap (λ c. answer_at c turn) at))) [
          | inl none ↦ not-false _ (refuse_none (not (fits_in range setup.chunk)) BadRange _ none).0
          | inr quiet ↦ absurd (omega (arith, counts, not_counted i range answer s at quiet))
        ]
        | inr cut ↦ absurd (false≢true cut.0)
      ]

  took_legally : (claims : List Claimed) (event : Event) (answer : Answer) → MayHappen claims event → IsAnswer setup g event answer → (i : ℕ) (range : Span) (s : Server) → event ≡ Fetch i range → RunsAs g i s → (happens setup g event (ending answer)).reads ≡ suc g.reads → IsWritable range.first range.count × (fits_in range setup.chunk ≡ true)
  took_legally claims event answer asked legal i range s is at counts = (
    (subst (MayHappen claims) is asked).1,
    counted_fits i range answer s (subst (λ e. IsAnswer setup g e answer) is legal) at (ap (λ e. (happens setup g e (ending answer)).reads) (sym is) ∙ counts),
  )

abbrev pub AllAsk : Setup → Group → Type 0
AllAsk setup g = (i : ℕ) (s : Server) → RunsAs g i s → Asks setup.chunk g.reads s

module _ (setup : Setup) (g : Group) (claims : List Claimed) (h : Happening) (legal : IsLegalNext setup g claims h) (all : AllAsk setup g) where
  abbrev after : Group
  after = happens setup g h.event (ending h.answer)

  reads_rise : g.reads ≤ after.reads
  reads_rise = (goes setup g h.event (ending h.answer)).reads

  taken : (i : ℕ) (s : Server) (o : Outcome) → Steps setup g h.event after i s o → (range : Span) → h.event ≡ Fetch i range → TakesUp s range g.reads o → IsWritable range.first range.count × (fits_in range setup.chunk ≡ true) × (suc g.reads ≤ after.reads)
  taken i s o step range is takes =
      let counts : after.reads ≡ suc g.reads = step.counts ∙ ap (reads_after g.reads) takes.answer in
      let asked = took_legally setup g claims h.event h.answer legal.asked legal.answered i range s is step.runs counts in
      (asked.0, asked.1, omega (arith, counts))

  came_asks : (i : ℕ) (z : Server) → Came setup g h.event after i z → Asks setup.chunk after.reads z
  came_asks i _ (Stays s runs) = more_ask setup.chunk g.reads after.reads reads_rise s (all i s runs)
  came_asks i _ (Stepped s o step) = settled_asks setup.chunk after.reads o.server
      (step_asks setup.chunk g i s h.event o after.reads reads_rise (taken i s o step) (does setup g i s h.event o step.rule).reads (all i s step.runs))
  came_asks i _ (Begins life d) = restarted_asks setup.chunk after.reads i life d
  came_asks i _ (Claims s slot runs) = claimed_asks setup.chunk after.reads s slot (more_ask setup.chunk g.reads after.reads reads_rise s (all i s runs))

  pub next_asks : AllAsk setup after
  next_asks i z at = came_asks i z ((goes setup g h.event (ending h.answer)).servers i z at)

  -- a read that is answered was taken up
  pub next_answered : Every (λ a. a.number < g.reads) g.answered → Every (λ a. a.number < after.reads) after.answered
  next_answered below =
      let low = λ (a : Answered). a.number < after.reads in
      adds_every setup g h.event after answers_of g.answered after.answered low
      (every_more (λ a. a.number < g.reads) low (λ a is. omega (arith, is, reads_rise)) g.answered below)
      (λ i s o step.
      let asks = step_asks setup.chunk g i s h.event o after.reads reads_rise (taken i s o step) (does setup g i s h.event o step.rule).reads (all i s step.runs) in
      every_map low (answer_of o.server) (ready_reads o.server) (every_filter (λ r. low (answer_of o.server r)) (is_ready o.server) o.server.reads (every_more (λ r. r.number < after.reads) _ (λ r is _. is) o.server.reads asks.below)))
      (goes setup g h.event (ending h.answer)).answered

pub opening_asks : (setup : Setup) → AllAsk setup (opening setup)
unfolding first_leader restarted
opening_asks setup = opened setup (Asks setup.chunk (opening setup).reads)
    (none_ask setup.chunk (opening setup).reads (first_leader setup) refl)
    (λ i. restarted_asks setup.chunk (opening setup).reads i 0 (opening_disk setup))

-- in every legal history
pub legal_asks : (setup : Setup) (history : History) → IsLegal setup history → (i : ℕ) (s : Server) → RunsAs (replay setup history) i s → Asks setup.chunk (replay setup history).reads s
legal_asks setup history is = legal_keeps setup (AllAsk setup) (next_asks setup) history (opening setup) [] is.legal (opening_asks setup)
