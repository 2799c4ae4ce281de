-- Reads that wait, from the moment at which they were taken up.
use Rattle.std.proofs.Common.{◌≡◌, ℕ, suc, ◌+◌, ◌<◌, ◌≤◌, ◌≢◌, inl, inr, Bool, true, false, not, ◌==◌, if◌then◌else◌, List, [], ◌∷◌, ◌++◌, length, map, Some, slice_get, slice_range, arith, refl, sym, ap, subst, ◌∙◌, le_refl}
use Rattle.std.specs.List.{filter}
use Rattle.std.proofs.lemmas.Bool.{eqb-true, false≢true}
use Rattle.std.proofs.lemmas.Option.{same_Some, none-some}
use Rattle.pf_entry.specs.Lists.{Every}
use Rattle.pf_entry.proofs.Lists.{every_append, every_more, every_map, every_filter, every_get}
use Rattle.pf_entry.specs.Applying.{is_applied}
use Rattle.pf_entry.specs.declared.packets.Packet.{Packet}
use Rattle.pf_entry.specs.declared.packets.Body.{Body}
use Rattle.pf_entry.specs.declared.packets.Body.TheVariants.{RequestVote, Vote, Accept, Ack, Nack, Commit, Probe, ProbeOk, Image}
use Rattle.pf_protocol.specs.declared.answers.Answer.TheVariants.{Read as ReadIs}
use Rattle.pf_protocol.specs.declared.events.Event.TheVariants.{Fetch}
use Rattle.pf_protocol.specs.declared.events.Happening.{Happening}
use Rattle.pf_protocol.specs.Servers.{Setup, Leader, Role, Follower, Candidate, Merging, Serving, Read, Server, Running, has_applied}
use Rattle.pf_protocol.specs.Outcomes.{Outcome}
use Rattle.pf_protocol.specs.Leading.{has_acked, is_own, confirm}
use Rattle.pf_protocol.specs.Rows.{is_ready, ready_reads, settled}
use Rattle.pf_protocol.specs.Saving.{restarted, claimed}
use Rattle.pf_protocol.specs.Groups.{Acked, Answered, Sent, Group, answer_of, reads_after, ending, happens, opening, first_leader}
use Rattle.pf_protocol.specs.Histories.{History, IsPrefix, run, replay, RunsAs}
use Rattle.pf_protocol.proofs.Moments.{run_longer, whole_prefix, by_events, opened, run_parts, reads_before}
use Rattle.pf_protocol.proofs.EntryMakers.{longer}
use Rattle.pf_protocol.proofs.Histories.{Told, told, tell}
use Rattle.pf_protocol.proofs.Follows.{PacketIs}
use Rattle.pf_protocol.proofs.EventChanges.{Steps, Came, Stays, Stepped, Begins, Claims, answers_of, adds_at, packets_every, acked_every, Goes, goes}
use Rattle.pf_protocol.proofs.StepLeavings.{More, AcksGrow, RoleStep, RoleReads, IsReadless, new_read, Speaks, Plainly, Asks, AsksAgain, Replies, Requests, Grants, ReadsFrom, NoReads, SameReads, Takes, Confirms, Does, does}

-- the ballots of a moment go on to those of a later one
pub told_on : (setup : Setup) (earlier history : History) (p : IsPrefix earlier history) → Told setup (replay setup earlier) (told setup earlier).ballots p.rest
told_on setup earlier history p = tell setup p.rest (replay setup earlier) (told setup earlier).ballots (told setup earlier).sound (told setup earlier).served (told setup earlier).follows

pub runs_there : (setup : Setup) (earlier history : History) (p : IsPrefix earlier history) (i : ℕ) (s : Server) → RunsAs (replay setup history) i s → RunsAs (run setup (replay setup earlier) p.rest) i s
runs_there setup earlier history p i s at = ap (λ g. slice_get g.servers i) (sym (run_parts setup (opening setup) earlier p.rest) ∙ ap (replay setup) p.whole) ∙ at

-- no term falls
pub disk_term_low : (setup : Setup) (earlier history : History) → IsPrefix earlier history → (i : ℕ) (s : Server) → RunsAs (replay setup history) i s → ((told setup earlier).ballots.disk i).term ≤ s.durable.term
disk_term_low setup earlier history p i s at =
    let z = told_on setup earlier history p in
    let is = (z.follows.servers i (Running s) (runs_there setup earlier history p i s at)).1 in
    omega (arith, z.persists.terms i, ap (λ d. d.term) is.disk)

pub term_low : (setup : Setup) (earlier history : History) → IsPrefix earlier history → (i : ℕ) (x s : Server) → RunsAs (replay setup earlier) i x → RunsAs (replay setup history) i s → x.durable.term ≤ s.durable.term
term_low setup earlier history p i x s before at =
    let is = ((told setup earlier).follows.servers i (Running x) before).1 in
    omega (arith, disk_term_low setup earlier history p i s at, ap (λ d. d.term) is.disk)

-- another server answered for the read's leader while its own term was not above the leader's
pub record Confirmed (setup : Setup) (history : History) (i term number : ℕ) : Type 0 where
  pub earlier : History
  pub reply : Happening
  pub is_part : IsPrefix (earlier ++ reply ∷ []) history
  pub other : ℕ
  pub apart : other ≢ i
  pub server : Server
  pub runs : RunsAs (replay setup earlier) other server
  pub low : server.durable.term ≤ term
  pub asked : number < (replay setup earlier).reads

-- a read that waits, and the moment at which it was taken up
pub record Waits (setup : Setup) (history : History) (i : ℕ) (s : Server) (r : Read) : Type 0 where
  pub earlier : History
  pub fetch : Happening
  pub is_earlier : IsPrefix (earlier ++ fetch ∷ []) history
  pub event : fetch.event ≡ Fetch i r.range
  pub number : r.number ≡ (replay setup earlier).reads
  pub counts : (replay setup (earlier ++ fetch ∷ [])).reads ≡ suc r.number
  pub server : Server
  pub leader : Leader
  pub runs : RunsAs (replay setup earlier) i server
  pub serves : server.role ≡ Serving leader
  pub same_term : s.durable.term ≡ server.durable.term
  pub waits : r.waits_for ≡ (new_read server r.range r.number).waits_for
  pub more : More server s
  pub sure : r.confirmed ≡ true → Confirmed setup history i s.durable.term r.number

-- a server had risen to the term
pub record Rose (setup : Setup) (history : History) (i term : ℕ) : Type 0 where
  pub earlier : History
  pub is_earlier : IsPrefix earlier history
  pub server : Server
  pub runs : RunsAs (replay setup earlier) i server
  pub high : term ≤ server.durable.term

-- a server of a lower term voted, for one that had risen to the term by then
pub record Granted (setup : Setup) (history : History) (from to term : ℕ) : Type 0 where
  pub earlier : History
  pub is_earlier : IsPrefix earlier history
  pub server : Server
  pub runs : RunsAs (replay setup earlier) from server
  pub lower : server.durable.term < term
  pub rose : Rose setup earlier to term

abbrev pub Says : Setup → History → (from to term : ℕ) → Body → Type 0
Says setup history from to term (Probe number) = number < (replay setup history).reads
Says setup history from to term (ProbeOk number upto_there) = Confirmed setup history to term number
Says setup history from to term (RequestVote base) = Rose setup history from term
Says setup history from to term (Vote v) = Granted setup history from to term
Says setup history from to term _ = Unit {0}

-- a server that once led in a term serves there or is a follower
abbrev pub StaysIn : ((ℕ → Bool) → Leader → Type 0) → (ℕ → Bool) → Role → Type 0
StaysIn P done Follower = Unit {0}
StaysIn P done (Candidate own) = ⊥
StaysIn P done (Merging l) = ⊥
StaysIn P done (Serving l) = P done l

abbrev pub HeardOf : (i slot : ℕ) → (ℕ → Bool) → Leader → Type 0
HeardOf i slot done l = (j : ℕ) × (j ≢ i) × (has_acked l j slot ≡ true)

abbrev pub HasAll : (ℕ → Bool) → (ℕ → Bool) → Leader → Type 0
HasAll shown done l = (slot : ℕ) → shown slot ≡ true → done slot ≡ true

-- who told a host that the slot is committed
pub record AckedBy (setup : Setup) (history : History) (a : Acked) : Type 0 where
  pub earlier : History
  pub is_earlier : IsPrefix earlier history
  pub i : ℕ
  pub server : Server
  pub leader : Leader
  pub runs : RunsAs (replay setup earlier) i server
  pub serves : server.role ≡ Serving leader
  pub in_term : server.durable.term ≡ a.term
  pub own : is_own leader a.slot ≡ true
  pub stays : (z : Server) → RunsAs (replay setup history) i z → z.durable.term ≡ a.term → StaysIn (HeardOf i a.slot) (has_applied z) z.role

-- the event at which a read was answered, and what its server had then. Its answer stands in place k
pub record WasRead (setup : Setup) (history : History) (k : ℕ) (a : Answered) : Type 0 where
  pub earlier : History
  pub answering : Happening
  pub is_part : IsPrefix (earlier ++ answering ∷ []) history
  pub not_yet : length (replay setup earlier).answered ≤ k
  pub there : slice_get (replay setup (earlier ++ answering ∷ [])).answered k ≡ Some a
  pub server : Server
  pub read : Read
  pub runs : RunsAs (replay setup (earlier ++ answering ∷ [])) a.server server
  pub waits : Waits setup (earlier ++ answering ∷ []) a.server server read
  pub ready : is_ready server read ≡ true
  pub number : a.number ≡ read.number
  pub range : a.range ≡ read.range
  pub term : a.term ≡ server.durable.term
  pub base : a.base ≡ server.durable.base
  pub applied : a.applied ≡ server.applied
  pub bytes : a.bytes ≡ slice_range server.sectors read.range.first (read.range.first + read.range.count)
  pub stays : (z : Server) → RunsAs (replay setup history) a.server z → z.durable.term ≡ a.term → StaysIn (HasAll (is_applied a.base a.applied)) (has_applied z) z.role

pub record Traced (setup : Setup) (history : History) : Type 0 where
  pub waits : (i : ℕ) (s : Server) → RunsAs (replay setup history) i s → Every (Waits setup history i s) s.reads
  pub idle : (i : ℕ) (s : Server) → RunsAs (replay setup history) i s → RoleReads s.role s.reads
  pub says : Every (λ p. Says setup history p.packet.from p.packet.to p.packet.term p.packet.body) (replay setup history).packets
  pub acked : Every (AckedBy setup history) (replay setup history).acked
  pub answered : (k : ℕ) (a : Answered) → slice_get (replay setup history).answered k ≡ Some a → WasRead setup history k a

readless_says : (setup : Setup) (history : History) (from to term : ℕ) (body : Body) → IsReadless body → Says setup history from to term body
readless_says setup history from to term (RequestVote base) is = absurd is
readless_says setup history from to term (Vote v) is = absurd is
readless_says setup history from to term (Accept e) is = tt
readless_says setup history from to term (Ack slot upto_there) is = tt
readless_says setup history from to term Nack is = tt
readless_says setup history from to term (Commit slot) is = tt
readless_says setup history from to term (Probe number) is = absurd is
readless_says setup history from to term (ProbeOk number upto_there) is = absurd is
readless_says setup history from to term (Image base applied sectors) is = tt

-- without the reads that are answered
fewer_reads : (f : Read → Bool) (role : Role) (reads : List Read) → RoleReads role reads → RoleReads role (filter f reads)
fewer_reads f Follower reads is = ap (filter f) is
fewer_reads f (Candidate own) reads is = ap (filter f) is
fewer_reads f (Merging l) reads is = ap (filter f) is
fewer_reads f (Serving l) reads is = tt

stays_step : (P : (ℕ → Bool) → Leader → Type 0) → ((l l2 : Leader) (done more : ℕ → Bool) → AcksGrow l l2 → ((slot : ℕ) → done slot ≡ true → more slot ≡ true) → P done l → P more l2) → (s z : Server) → z.durable.term ≡ s.durable.term → (role : Role) → RoleStep s z role → StaysIn P (has_applied s) role → StaysIn P (has_applied z) z.role
stays_step P mono s z term Follower step is = elim step [
  | inl falls ↦ subst (StaysIn P (has_applied z)) (sym falls) tt
  | inr rises ↦ absurd (omega (arith, term, rises))
]
stays_step P mono s z term (Candidate own) step is = absurd is
stays_step P mono s z term (Merging l) step is = absurd is
stays_step P mono s z term (Serving l) step is = elim step [
  | inl out ↦ elim out [
    | inl falls ↦ subst (StaysIn P (has_applied z)) (sym falls) tt
    | inr rises ↦ absurd (omega (arith, term, rises))
  ]
  | inr on ↦ subst (StaysIn P (has_applied z)) (sym on.1) (mono l on.0 (has_applied s) (has_applied z) on.2 on.3 is)
]

heard_grows : (i slot : ℕ) (l l2 : Leader) (done more : ℕ → Bool) → AcksGrow l l2 → ((slot : ℕ) → done slot ≡ true → more slot ≡ true) → HeardOf i slot done l → HeardOf i slot more l2
heard_grows i slot l l2 done more acks grow h = (h.0, h.1, acks h.0 slot h.2)

all_grows : (shown : ℕ → Bool) (l l2 : Leader) (done more : ℕ → Bool) → AcksGrow l l2 → ((slot : ℕ) → done slot ≡ true → more slot ≡ true) → HasAll shown done l → HasAll shown more l2
all_grows shown l l2 done more acks grow h slot is = grow slot (h slot is)

module _ (setup : Setup) (history : History) (h : Happening) (t : Traced setup history) where
  abbrev next : History
  next = history ++ h ∷ []

  abbrev now : Group
  now = happens setup (replay setup history) h.event (ending h.answer)

  same : replay setup next ≡ now
  same = run_longer setup (opening setup) history h

  pub to_now : (i : ℕ) (z : Server) → RunsAs (replay setup next) i z → RunsAs now i z
  to_now i z at = ap (λ g. slice_get g.servers i) (sym same) ∙ at

  from_now : (i : ℕ) (z : Server) → RunsAs now i z → RunsAs (replay setup next) i z
  from_now i z at = ap (λ g. slice_get g.servers i) same ∙ at

  pub gone : Goes setup (replay setup history) h.event now
  gone = goes setup (replay setup history) h.event (ending h.answer)

  step_does : (i : ℕ) (s : Server) (o : Outcome) → Steps setup (replay setup history) h.event now i s o → Does (replay setup history) i s h.event o
  step_does i s o step = does setup (replay setup history) i s h.event o step.rule

  one_more : IsPrefix history next
  one_more = record { rest = h ∷ []; whole = refl }

  reads_now : (replay setup history).reads ≤ (replay setup next).reads
  reads_now = reads_before setup history next one_more

  counted : (i : ℕ) (s : Server) (o : Outcome) → Steps setup (replay setup history) h.event now i s o → o.answer ≡ ReadIs (replay setup history).reads → (replay setup next).reads ≡ suc (replay setup history).reads
  counted i s o step is = ap (λ g. g.reads) same ∙ step.counts ∙ ap (reads_after (replay setup history).reads) is

  confirmed_longer : (i term number : ℕ) → Confirmed setup history i term number → Confirmed setup next i term number
  confirmed_longer i term number c = record { earlier = c.earlier; reply = c.reply; is_part = longer setup history h (c.earlier ++ c.reply ∷ []) c.is_part; other = c.other; apart = c.apart; server = c.server; runs = c.runs; low = c.low; asked = c.asked }

  -- a read waits on
  waits_on : (i : ℕ) (s z : Server) → z.durable.term ≡ s.durable.term → More s z → (r : Read) → Waits setup history i s r → Waits setup next i z r
  waits_on i s z term more r w = record {
    earlier = w.earlier;
    fetch = w.fetch;
    is_earlier = longer setup history h (w.earlier ++ w.fetch ∷ []) w.is_earlier;
    event = w.event;
    number = w.number;
    counts = w.counts;
    server = w.server;
    leader = w.leader;
    runs = w.runs;
    serves = w.serves;
    same_term = term ∙ w.same_term;
    waits = w.waits;
    more = λ slot is. more slot (w.more slot is);
    sure = λ is. subst (λ u. Confirmed setup next i u r.number) (sym term) (confirmed_longer i s.durable.term r.number (w.sure is));
  }

  confirms_on : (i : ℕ) (s z : Server) (n : ℕ) → z.durable.term ≡ s.durable.term → More s z → Confirmed setup next i z.durable.term n → (r : Read) → Waits setup history i s r → Waits setup next i z (confirm n r)
  confirms_on i s z n term more sure r w = by_number (r.number == n) refl
    where
      by_number : (c : Bool) → (r.number == n) ≡ c → Waits setup next i z (if c then record r { confirmed = true } else r)
      by_number true is = let on = waits_on i s z term more r w in record {
        earlier = on.earlier;
        fetch = on.fetch;
        is_earlier = on.is_earlier;
        event = on.event;
        number = on.number;
        counts = on.counts;
        server = on.server;
        leader = on.leader;
        runs = on.runs;
        serves = on.serves;
        same_term = on.same_term;
        waits = on.waits;
        more = on.more;
        sure = λ _. subst (Confirmed setup next i z.durable.term) (sym (eqb-true r.number n is)) sure;
      }
      by_number false is = waits_on i s z term more r w

  said : (k : ℕ) (sent : Sent) (body : Body) → slice_get (replay setup history).packets k ≡ Some sent → sent.packet.body ≡ body → Says setup history sent.packet.from sent.packet.to sent.packet.term body
  said k sent body at is = subst (Says setup history sent.packet.from sent.packet.to sent.packet.term) is (every_get (λ p. Says setup history p.packet.from p.packet.to p.packet.term p.packet.body) (replay setup history).packets k sent t.says at)

  apart_packet : (k : ℕ) (sent : Sent) → slice_get (replay setup history).packets k ≡ Some sent → sent.packet.from ≢ sent.packet.to
  apart_packet k sent at = (every_get (λ p. PacketIs (told setup history).ballots p.packet) (replay setup history).packets k sent (told setup history).follows.packets at).apart

  stepped_waits : (i : ℕ) (s : Server) (o : Outcome) → Steps setup (replay setup history) h.event now i s o → Every (Waits setup next i o.server) o.server.reads
  stepped_waits i s o step =
      elim ((step_does i s o step).moves.reads) [
        | inl none ↦ subst (Every (Waits setup next i o.server)) (sym none) tt
        | inr on ↦ by_reads on.0 on.1 (step_does i s o step).reads
      ]
    where
      by_reads : o.server.durable.term ≡ s.durable.term → More s o.server → ReadsFrom (replay setup history) i s h.event o → Every (Waits setup next i o.server) o.server.reads
      by_reads term more (NoReads none) = subst (Every (Waits setup next i o.server)) (sym none) tt
      by_reads term more (SameReads is) = subst (Every (Waits setup next i o.server)) (sym is) (every_more (Waits setup history i s) (Waits setup next i o.server) (waits_on i s o.server term more) s.reads (t.waits i s step.runs))
      by_reads term more (Takes range event takes) = subst (Every (Waits setup next i o.server)) (sym takes.reads)
          (every_append (Waits setup next i o.server) s.reads (new_read s range (replay setup history).reads ∷ [])
          (every_more (Waits setup history i s) (Waits setup next i o.server) (waits_on i s o.server term more) s.reads (t.waits i s step.runs)) (
            record {
              earlier = history;
              fetch = h;
              is_earlier = whole_prefix next;
              event = event;
              number = refl;
              counts = counted i s o step takes.answer;
              server = s;
              leader = takes.leader;
              runs = step.runs;
              serves = takes.serves;
              same_term = term;
              waits = refl;
              more = more;
              sure = λ is. absurd (false≢true is);
            },
            tt,
          ))
      by_reads term more (Confirms k sent n upto_there at to_it body in_term is) = subst (Every (Waits setup next i o.server)) (sym is)
          (every_map (Waits setup next i o.server) (confirm n) s.reads
          (every_more (Waits setup history i s) (λ r. Waits setup next i o.server (confirm n r)) (confirms_on i s o.server n term more
          (subst (λ u. Confirmed setup next i u n) (in_term ∙ sym term) (subst (λ j. Confirmed setup next j sent.packet.term n) to_it (confirmed_longer sent.packet.to sent.packet.term n (said k sent (ProbeOk n upto_there) at body))))) s.reads (t.waits i s step.runs)))

  settled_waits : (i : ℕ) (z : Server) (reads : List Read) → Every (Waits setup next i z) reads → Every (Waits setup next i (settled z)) reads
  unfolding settled
  settled_waits i z reads all = every_more (Waits setup next i z) (Waits setup next i (settled z)) (λ r w. record { earlier = w.earlier; fetch = w.fetch; is_earlier = w.is_earlier; event = w.event; number = w.number; counts = w.counts; server = w.server; leader = w.leader; runs = w.runs; serves = w.serves; same_term = w.same_term; waits = w.waits; more = w.more; sure = w.sure }) reads all

  came_waits : (i : ℕ) (z : Server) → Came setup (replay setup history) h.event now i z → Every (Waits setup next i z) z.reads
  unfolding settled restarted claimed
  came_waits i _ (Stays s runs) = every_more (Waits setup history i s) (Waits setup next i s) (waits_on i s s refl (λ slot is. is)) s.reads (t.waits i s runs)
  came_waits i _ (Stepped s o step) = every_filter (Waits setup next i (settled o.server)) (λ r. not (is_ready o.server r)) o.server.reads (every_more (Waits setup next i (settled o.server)) (λ r. not (is_ready o.server r) ≡ true → Waits setup next i (settled o.server) r) (λ r w _. w) o.server.reads (settled_waits i o.server o.server.reads (stepped_waits i s o step)))
  came_waits i _ (Begins life d) = tt
  came_waits i _ (Claims s slot runs) = every_more (Waits setup history i s) (Waits setup next i (claimed s slot)) (waits_on i s (claimed s slot) refl (λ slot is. is)) s.reads (t.waits i s runs)

  came_idle : (i : ℕ) (z : Server) → Came setup (replay setup history) h.event now i z → RoleReads z.role z.reads
  unfolding settled restarted claimed
  came_idle i _ (Stays s runs) = t.idle i s runs
  came_idle i _ (Stepped s o step) = fewer_reads (λ r. not (is_ready o.server r)) o.server.role o.server.reads ((step_does i s o step).moves.idle (t.idle i s step.runs))
  came_idle i _ (Begins life d) = refl
  came_idle i _ (Claims s slot runs) = t.idle i s runs

  rose_longer : (i term : ℕ) → Rose setup history i term → Rose setup next i term
  rose_longer i term r = record { earlier = r.earlier; is_earlier = longer setup history h r.earlier r.is_earlier; server = r.server; runs = r.runs; high = r.high }

  says_longer : (from to term : ℕ) (body : Body) → Says setup history from to term body → Says setup next from to term body
  says_longer from to term (RequestVote base) is = rose_longer from term is
  says_longer from to term (Vote v) is = record { earlier = is.earlier; is_earlier = longer setup history h is.earlier is.is_earlier; server = is.server; runs = is.runs; lower = is.lower; rose = is.rose }
  says_longer from to term (Accept e) is = tt
  says_longer from to term (Ack slot upto_there) is = tt
  says_longer from to term Nack is = tt
  says_longer from to term (Commit slot) is = tt
  says_longer from to term (Probe number) is = omega (arith, is, reads_now)
  says_longer from to term (ProbeOk number upto_there) is = confirmed_longer to term number is
  says_longer from to term (Image base applied sectors) is = tt

  numbers_low : (i : ℕ) (s : Server) → RunsAs (replay setup history) i s → Every (λ r. r.number < (replay setup history).reads) s.reads
  numbers_low i s runs = every_more (Waits setup history i s) (λ r. r.number < (replay setup history).reads) (λ r w. omega (arith, w.counts, reads_before setup (w.earlier ++ w.fetch ∷ []) history w.is_earlier)) s.reads (t.waits i s runs)

  stepper_number : (i : ℕ) (s : Server) → RunsAs (replay setup history) i s → s.number ≡ i
  stepper_number i s runs = ((told setup history).follows.servers i (Running s) runs).1.number

  rose_now : (i : ℕ) (s : Server) (o : Outcome) → Steps setup (replay setup history) h.event now i s o → (from term : ℕ) → from ≡ i → term ≤ o.server.durable.term → Rose setup next from term
  unfolding settled
  rose_now i s o step from term same le = record { earlier = next; is_earlier = whole_prefix next; server = settled o.server; runs = ap (slice_get (replay setup next).servers) same ∙ from_now i (settled o.server) step.runs_on; high = le }

  speaks : (i : ℕ) (s : Server) (o : Outcome) → Steps setup (replay setup history) h.event now i s o → (p : Packet) → Speaks (λ n. n < (replay setup history).reads) (replay setup history) i s h.event o.answer o.server.durable.term p → Says setup next p.from p.to p.term p.body
  speaks i s o step p (Plainly is) = readless_says setup next p.from p.to p.term p.body is
  speaks i s o step p (Asks body answer) = subst (Says setup next p.from p.to p.term) (sym body) (omega (arith, counted i s o step answer))
  speaks i s o step p (AsksAgain n body low) = subst (Says setup next p.from p.to p.term) (sym body) (omega (arith, low, reads_now))
  speaks i s o step p (Replies k sent n upto_there at to_it probe body to term low) = subst (Says setup next p.from p.to p.term) (sym body) (record {
    earlier = history;
    reply = h;
    is_part = whole_prefix next;
    other = i;
    apart = λ is. apart_packet k sent at (sym to ∙ sym is ∙ sym to_it);
    server = s;
    runs = step.runs;
    low = omega (arith, low, term);
    asked = said k sent (Probe n) at probe;
  })
  speaks i s o step p (Requests base body from le) = subst (Says setup next p.from p.to p.term) (sym body) (rose_now i s o step p.from p.term (from ∙ stepper_number i s step.runs) le)
  speaks i s o step p (Grants k sent base at to_it request body from to term lower) = subst (Says setup next p.from p.to p.term) (sym body) (record {
    earlier = history;
    is_earlier = one_more;
    server = s;
    runs = ap (slice_get (replay setup history).servers) (from ∙ stepper_number i s step.runs) ∙ step.runs;
    lower = lower;
    rose = subst (λ j. Rose setup history j p.term) (sym to) (subst (Rose setup history sent.packet.from) (sym term) (said k sent (RequestVote base) at request));
  })

  next_says : Every (λ p. Says setup next p.packet.from p.packet.to p.packet.term p.packet.body) now.packets
  next_says = packets_every setup (replay setup history) h.event now gone (λ p. Says setup next p.from p.to p.term p.body)
      (every_more (λ p. Says setup history p.packet.from p.packet.to p.packet.term p.packet.body) (λ p. Says setup next p.packet.from p.packet.to p.packet.term p.packet.body) (λ p is. says_longer p.packet.from p.packet.to p.packet.term p.packet.body is) (replay setup history).packets t.says)
      (λ i s o step. every_more (Speaks (λ n. n < (replay setup history).reads) (replay setup history) i s h.event o.answer o.server.durable.term) (λ p. Says setup next p.from p.to p.term p.body) (speaks i s o step) o.packets
      ((step_does i s o step).packets (λ n. n < (replay setup history).reads) (numbers_low i s step.runs)))

  -- whoever once led in a term
  pub came_stays : (P : (ℕ → Bool) → Leader → Type 0) → ((l l2 : Leader) (done more : ℕ → Bool) → AcksGrow l l2 → ((slot : ℕ) → done slot ≡ true → more slot ≡ true) → P done l → P more l2) → (i term : ℕ) → ((s : Server) → RunsAs (replay setup history) i s → term ≤ s.durable.term) → ((s : Server) → RunsAs (replay setup history) i s → s.durable.term ≡ term → StaysIn P (has_applied s) s.role) → (z : Server) → Came setup (replay setup history) h.event now i z → z.durable.term ≡ term → StaysIn P (has_applied z) z.role
  unfolding settled restarted claimed
  came_stays P mono i term low old _ (Stays s runs) in_term = old s runs in_term
  came_stays P mono i term low old _ (Stepped s o step) in_term =
      let moves = (step_does i s o step).moves in
      let before : s.durable.term ≡ term = omega (arith, moves.term, low s step.runs, in_term) in
      stays_step P mono s o.server (in_term ∙ sym before) s.role moves.role (old s step.runs before)
  came_stays P mono i term low old _ (Begins life d) in_term = tt
  came_stays P mono i term low old _ (Claims s slot runs) in_term = old s runs in_term

  acked_on : (a : Acked) → AckedBy setup history a → AckedBy setup next a
  acked_on a x = record {
    earlier = x.earlier;
    is_earlier = longer setup history h x.earlier x.is_earlier;
    i = x.i;
    server = x.server;
    leader = x.leader;
    runs = x.runs;
    serves = x.serves;
    in_term = x.in_term;
    own = x.own;
    stays = λ z at. came_stays (HeardOf x.i a.slot) (heard_grows x.i a.slot) x.i a.term (λ s runs. omega (arith, term_low setup x.earlier history x.is_earlier x.i x.server s x.runs runs, x.in_term)) x.stays z (gone.servers x.i z (to_now x.i z at));
  }

  same_server : (i : ℕ) (x z : Server) → RunsAs now i x → RunsAs now i z → x ≡ z
  same_server i x z a b = unwrapped (same_Some (Running x) (Running z) (sym a ∙ b))
    where
      unwrapped : Running x ≡ Running z → x ≡ z
      unwrapped e = cc

  acked_new : (i : ℕ) (s : Server) (o : Outcome) (slot : ℕ) → Steps setup (replay setup history) h.event now i s o → o.acked ≡ Some slot → AckedBy setup next (record { term = o.server.durable.term; slot = slot })
  unfolding settled
  acked_new i s o slot step is =
      let by = (step_does i s o step).acked slot is in
      record {
        earlier = history;
        is_earlier = one_more;
        i = i;
        server = s;
        leader = by.tells.leader;
        runs = step.runs;
        serves = by.tells.served;
        in_term = sym by.tells.same_term;
        own = by.tells.own;
        stays = λ z at in_term. subst (λ x. StaysIn (HeardOf i slot) (has_applied x) x.role) (same_server i (settled o.server) z step.runs_on (to_now i z at))
            (subst (StaysIn (HeardOf i slot) (has_applied o.server)) (sym by.tells.serves) (by.sent.packet.from, (λ from. apart_packet by.k by.sent by.at (from ∙ sym by.to_it)), by.tells.counts));
      }

  next_acked : Every (AckedBy setup next) now.acked
  next_acked = acked_every setup (replay setup history) h.event now gone (AckedBy setup next) (every_more (AckedBy setup history) (AckedBy setup next) acked_on (replay setup history).acked t.acked) acked_new

  read_on : (k : ℕ) (a : Answered) → WasRead setup history k a → WasRead setup next k a
  read_on k a x = record {
    earlier = x.earlier;
    answering = x.answering;
    is_part = longer setup history h (x.earlier ++ x.answering ∷ []) x.is_part;
    not_yet = x.not_yet;
    there = x.there;
    server = x.server;
    read = x.read;
    runs = x.runs;
    waits = x.waits;
    ready = x.ready;
    number = x.number;
    range = x.range;
    term = x.term;
    base = x.base;
    applied = x.applied;
    bytes = x.bytes;
    stays = λ z at. came_stays (HasAll (is_applied a.base a.applied)) (all_grows (is_applied a.base a.applied)) a.server a.term (λ s runs. omega (arith, term_low setup (x.earlier ++ x.answering ∷ []) history x.is_part a.server x.server s x.runs runs, x.term)) x.stays z (gone.servers a.server z (to_now a.server z at));
  }

  number_is : (i : ℕ) (s : Server) (o : Outcome) → Steps setup (replay setup history) h.event now i s o → o.server.number ≡ i
  unfolding settled
  number_is i s o step = ((told setup next).follows.servers i (Running (settled o.server)) (from_now i (settled o.server) step.runs_on)).1.number

  -- the answer, in the next place
  abbrev IsNew : ℕ → Answered → Type 0
  IsNew k a = (length (replay setup history).answered ≤ k) × (slice_get now.answered k ≡ Some a)

  read_new : (k i : ℕ) (s : Server) (o : Outcome) → Steps setup (replay setup history) h.event now i s o → (l : Leader) → o.server.role ≡ Serving l → (r : Read) → is_ready o.server r ≡ true → Waits setup next i (settled o.server) r → IsNew k (answer_of o.server r) → WasRead setup next k (answer_of o.server r)
  unfolding settled
  read_new k i s o step l serves r ready w new =
      let number = number_is i s o step in
      record {
        earlier = history;
        answering = h;
        is_part = whole_prefix next;
        not_yet = new.0;
        there = ap (λ g. slice_get g.answered k) same ∙ new.1;
        server = settled o.server;
        read = r;
        runs = from_now o.server.number (settled o.server) (subst (λ k. RunsAs now k (settled o.server)) (sym number) step.runs_on);
        waits = subst (λ k. Waits setup next k (settled o.server) r) (sym number) w;
        ready = ready;
        number = refl;
        range = refl;
        term = refl;
        base = refl;
        applied = refl;
        bytes = refl;
        stays = λ z at in_term. subst (λ x. StaysIn (HasAll (has_applied o.server)) (has_applied x) x.role) (same_server i (settled o.server) z step.runs_on (subst (λ k. RunsAs now k z) number (to_now o.server.number z at)))
            (subst (StaysIn (HasAll (has_applied o.server)) (has_applied o.server)) (sym serves) (λ slot is. is));
      }

  abbrev NewlyRead : ℕ → Answered → Type 0
  NewlyRead k a = IsNew k a → WasRead setup next k a

  reads_new : (k i : ℕ) (s : Server) (o : Outcome) → Steps setup (replay setup history) h.event now i s o → Every (NewlyRead k) (answers_of o)
  reads_new k i s o step = by_role o.server.role refl ((step_does i s o step).moves.idle (t.idle i s step.runs))
    where
      none : o.server.reads ≡ [] → Every (NewlyRead k) (answers_of o)
      none is = subst (λ rs. Every (NewlyRead k) (map (answer_of o.server) (filter (is_ready o.server) rs))) (sym is) tt

      by_role : (role : Role) → o.server.role ≡ role → RoleReads role o.server.reads → Every (NewlyRead k) (answers_of o)
      by_role Follower serves is = none is
      by_role (Candidate own) serves is = none is
      by_role (Merging l) serves is = none is
      by_role (Serving l) serves is = every_map (NewlyRead k) (answer_of o.server) (ready_reads o.server)
          (every_filter (λ r. NewlyRead k (answer_of o.server r)) (is_ready o.server) o.server.reads
          (every_more (Waits setup next i (settled o.server)) (λ r. is_ready o.server r ≡ true → NewlyRead k (answer_of o.server r)) (λ r w ready. read_new k i s o step l serves r ready w) o.server.reads (settled_waits i o.server o.server.reads (stepped_waits i s o step))))

  next_answered : (k : ℕ) (a : Answered) → slice_get now.answered k ≡ Some a → WasRead setup next k a
  next_answered k a at =
      elim (adds_at setup (replay setup history) h.event now answers_of (replay setup history).answered now.answered k a at gone.answered) [
        | inl old ↦ read_on k a (t.answered k a old)
        | inr new ↦ every_get (NewlyRead k) (answers_of new.outcome) new.place a (reads_new k new.i new.server new.outcome new.step) new.there (new.behind, at)
      ]

  next_traced : Traced setup next
  next_traced = record {
    waits = λ i z at. came_waits i z (gone.servers i z (to_now i z at));
    idle = λ i z at. came_idle i z (gone.servers i z (to_now i z at));
    says = subst (λ g. Every (λ p. Says setup next p.packet.from p.packet.to p.packet.term p.packet.body) g.packets) (sym same) next_says;
    acked = subst (λ g. Every (AckedBy setup next) g.acked) (sym same) next_acked;
    answered = λ k a at. next_answered k a (ap (λ g. slice_get g.answered k) (sym same) ∙ at);
  }

opening_reads : (setup : Setup) (i : ℕ) (s : Server) → RunsAs (opening setup) i s → (s.reads ≡ []) × RoleReads s.role s.reads
unfolding first_leader restarted
opening_reads setup i s at = opened setup (λ x. (x.reads ≡ []) × RoleReads x.role x.reads) (refl, tt) (λ k. (refl, refl)) i s at

none_traced : (setup : Setup) → Traced setup []
unfolding opening
none_traced setup = record {
  waits = λ i s at. subst (Every (Waits setup [] i s)) (sym (opening_reads setup i s at).0) tt;
  idle = λ i s at. (opening_reads setup i s at).1;
  says = tt;
  acked = tt;
  answered = λ k a at. absurd (none-some a at);
}

pub traced : (setup : Setup) (history : History) → Traced setup history
traced setup = by_events (Traced setup) (none_traced setup) (next_traced setup)
