-- What one event changes: one server by its rule, or one that begins again, or nothing.
use Rattle.std.proofs.Common.{◌≡◌, ℕ, zero, suc, ◌≤◌, ◌⊎◌, inl, inr, Bool, true, false, cond, if◌then◌else◌, List, [], ◌∷◌, ◌++◌, length, map, Option, Some, None, slice_get, slice_set, arith, refl, sym, ap, subst, ◌∙◌, le_refl}
use Rattle.std.specs.Option.{option_to_list}
use Rattle.std.proofs.lemmas.Option.{same_Some, none-some}
use Rattle.std.proofs.lemmas.List.{map-append}
use Rattle.pf_base.specs.Span.{Span}
use Rattle.pf_entry.specs.Lists.{Every}
use Rattle.pf_entry.proofs.Lists.{every_append, every_map, set_cases, set_there}
use Rattle.pf_entry.specs.declared.ops.Op.{Op}
use Rattle.pf_entry.specs.declared.packets.Packet.{Packet}
use Rattle.pf_entry.specs.Records.{Durable}
use Rattle.pf_protocol.specs.declared.answers.Answer.{Answer}
use Rattle.pf_protocol.specs.declared.answers.Answer.TheVariants.{Done, Slot as SlotIs, Term as TermIs, Read as ReadIs, Base as BaseIs, Job as JobIs, Refused}
use Rattle.pf_protocol.specs.declared.events.Event.{Event}
use Rattle.pf_protocol.specs.declared.events.Event.TheVariants.{Submit, Fetch, Deliver, Lose, Elect, Resend, Stop, Restart, Claim, Finish, GiveBack, Checkpoint}
use Rattle.pf_protocol.specs.Servers.{Setup, Server, Condition, Running, Stopped, Unformatted}
use Rattle.pf_protocol.specs.Outcomes.{Outcome}
use Rattle.pf_protocol.specs.Leading.{on_submit, on_fetch, on_elect, on_resend}
use Rattle.pf_protocol.specs.Saving.{on_checkpoint, restarted, renewed, claimed, on_finish, on_give_back}
use Rattle.pf_protocol.specs.Rows.{on_packet, settled, ready_reads}
use Rattle.pf_protocol.specs.Groups.{Acked, Answered, Sent, Group, Ending, Whole, CutOff, Missed, Untouched, send, answer_of, reads_after, acted, cut_off, step_ended, server_step_of, at_server, with_sent, delivered_in, packet_delivered, lost, stopped, server_begun, restart, least_claim, claim_at, claim_or, first_claim, only_whole, counted_election, happens}
use Rattle.pf_protocol.specs.Histories.{RunsAs}

-- the rule that an event follows at a running server
pub data IsRule (setup : Setup) (g : Group) (i : ℕ) (s : Server) : Event → Outcome → Type 0 where
  BySubmit : (op : Op) → IsRule setup g i s (Submit i op) (on_submit setup s op s.role)
  ByFetch : (range : Span) → IsRule setup g i s (Fetch i range) (on_fetch s range g.reads s.role)
  ByPacket : (k : ℕ) (p : Sent) → slice_get g.packets k ≡ Some p → p.packet.to ≡ i → IsRule setup g i s (Deliver k) (on_packet setup s p.packet)
  ByElect : IsRule setup g i s (Elect i) (on_elect s)
  ByResend : IsRule setup g i s (Resend i) (on_resend s s.role)
  ByFinish : (life slot : ℕ) → IsRule setup g i s (Finish i life slot) (on_finish s life slot)
  ByGiveBack : (life slot : ℕ) → IsRule setup g i s (GiveBack i life slot) (on_give_back s life slot)
  ByCheckpoint : IsRule setup g i s (Checkpoint i) (on_checkpoint s)

-- a whole step of a server
pub record Steps (setup : Setup) (g : Group) (event : Event) (after : Group) (i : ℕ) (s : Server) (o : Outcome) : Type 0 where
  pub runs : RunsAs g i s
  pub rule : IsRule setup g i s event o
  pub runs_on : RunsAs after i (settled o.server)
  pub counts : after.reads ≡ reads_after g.reads o.answer

-- where a server comes from that runs after an event
pub data Came (setup : Setup) (g : Group) (event : Event) (after : Group) (i : ℕ) : Server → Type 0 where
  Stays : (s : Server) → RunsAs g i s → Came setup g event after i s
  Stepped : (s : Server) (o : Outcome) → Steps setup g event after i s o → Came setup g event after i (settled o.server)
  Begins : (life : ℕ) (d : Durable) → Came setup g event after i (restarted i life d)
  Claims : (s : Server) (slot : ℕ) → RunsAs g i s → Came setup g event after i (claimed s slot)

-- what an event adds at the end of a list of the group: nothing, or what a step of a server gives
pub data Adds {X : Type 0} (setup : Setup) (g : Group) (event : Event) (after : Group) (gives : Outcome → List X) (old new : List X) : Type 0 where
  Nothing : new ≡ old → Adds setup g event after gives old new
  Gives : (i : ℕ) (s : Server) (o : Outcome) → Steps setup g event after i s o → new ≡ old ++ gives o → Adds setup g event after gives old new

-- without their marks
abbrev pub packets_of : List Sent → List Packet
packets_of sent = map (λ one. one.packet) sent

abbrev pub acks_of : Outcome → List Acked
acks_of o = map (λ slot. record { term = o.server.durable.term; slot = slot }) (option_to_list o.acked)

abbrev pub answers_of : Outcome → List Answered
answers_of o = map (answer_of o.server) (ready_reads o.server)

pub record Goes (setup : Setup) (g : Group) (event : Event) (after : Group) : Type 0 where
  pub servers : (i : ℕ) (z : Server) → RunsAs after i z → Came setup g event after i z
  pub packets : Adds setup g event after (λ o. o.packets) (packets_of g.packets) (packets_of after.packets)
  pub acked : Adds setup g event after acks_of g.acked after.acked
  pub answered : Adds setup g event after answers_of g.answered after.answered
  pub reads : g.reads ≤ after.reads

pub at_front : {X : Type 0} → (xs ys : List X) (k : ℕ) (x : X) → slice_get xs k ≡ Some x → slice_get (xs ++ ys) k ≡ Some x
at_front [] ys k x is = absurd (none-some x is)
at_front (z ∷ zs) ys zero x is = is
at_front (z ∷ zs) ys (suc k) x is = at_front zs ys k x is

-- an element of two lists in a row is of the first one, or of the second one behind it
front_or_after : {X : Type 0} → (xs ys : List X) (k : ℕ) (x : X) → slice_get (xs ++ ys) k ≡ Some x → (slice_get xs k ≡ Some x) ⊎ ((length xs ≤ k) × ((j : ℕ) × (slice_get ys j ≡ Some x)))
front_or_after [] ys k x is = inr (omega arith, (k, is))
front_or_after (z ∷ zs) ys zero x is = inl is
front_or_after (z ∷ zs) ys (suc k) x is = elim (front_or_after zs ys k x is) [ inl before ↦ inl before | inr behind ↦ inr (omega (arith, behind.0), behind.1) ]

every_unmapped : {X Y : Type 0} → (P : Y → Type 0) (f : X → Y) (xs : List X) → Every P (map f xs) → Every (λ x. P (f x)) xs
every_unmapped P f [] is = tt
every_unmapped P f (x ∷ xs) is = (is.0, every_unmapped P f xs is.1)

-- a step of this event gave the element, behind the old ones
pub record IsGiven {X : Type 0} (setup : Setup) (g : Group) (event : Event) (after : Group) (gives : Outcome → List X) (old : List X) (k : ℕ) (x : X) : Type 0 where
  pub behind : length old ≤ k
  pub i : ℕ
  pub server : Server
  pub outcome : Outcome
  pub step : Steps setup g event after i server outcome
  pub place : ℕ
  pub there : slice_get (gives outcome) place ≡ Some x

module _ {X : Type 0} (setup : Setup) (g : Group) (event : Event) (after : Group) (gives : Outcome → List X) (old new : List X) where
  pub adds_every : (P : X → Type 0) → Every P old → ((i : ℕ) (s : Server) (o : Outcome) → Steps setup g event after i s o → Every P (gives o)) → Adds setup g event after gives old new → Every P new
  adds_every P had each (Nothing is) = subst (Every P) (sym is) had
  adds_every P had each (Gives i s o step is) = subst (Every P) (sym is) (every_append P old (gives o) had (each i s o step))

  pub adds_at : (k : ℕ) (x : X) → slice_get new k ≡ Some x → Adds setup g event after gives old new → (slice_get old k ≡ Some x) ⊎ IsGiven setup g event after gives old k x
  adds_at k x at (Nothing is) = inl (ap (λ xs. slice_get xs k) (sym is) ∙ at)
  adds_at k x at (Gives i s o step is) =
      elim (front_or_after old (gives o) k x (ap (λ xs. slice_get xs k) (sym is) ∙ at)) [
        | inl before ↦ inl before
        | inr behind ↦ inr (record { behind = behind.0; i = i; server = s; outcome = o; step = step; place = behind.1.0; there = behind.1.1 })
      ]

  pub adds_stay : (k : ℕ) (x : X) → slice_get old k ≡ Some x → Adds setup g event after gives old new → slice_get new k ≡ Some x
  adds_stay k x at (Nothing is) = ap (λ xs. slice_get xs k) is ∙ at
  adds_stay k x at (Gives i s o step is) = ap (λ xs. slice_get xs k) is ∙ at_front old (gives o) k x at

pub packets_every : (setup : Setup) (g : Group) (event : Event) (after : Group) → Goes setup g event after → (P : Packet → Type 0) → Every (λ p. P p.packet) g.packets → ((i : ℕ) (s : Server) (o : Outcome) → Steps setup g event after i s o → Every P o.packets) → Every (λ p. P p.packet) after.packets
packets_every setup g event after goes P had each =
    every_unmapped P (λ one. one.packet) after.packets (adds_every setup g event after (λ o. o.packets) (packets_of g.packets) (packets_of after.packets) P (every_map P (λ one. one.packet) g.packets had) each goes.packets)

pub acked_every : (setup : Setup) (g : Group) (event : Event) (after : Group) → Goes setup g event after → (P : Acked → Type 0) → Every P g.acked → ((i : ℕ) (s : Server) (o : Outcome) (slot : ℕ) → Steps setup g event after i s o → o.acked ≡ Some slot → P (record { term = o.server.durable.term; slot = slot })) → Every P after.acked
acked_every setup g event after goes P had each = adds_every setup g event after acks_of g.acked after.acked P had (λ i s o step. now o.server.durable.term o.acked (λ slot has. each i s o slot step has)) goes.acked
  where
    now : (term : ℕ) (o : Option ℕ) → ((slot : ℕ) → o ≡ Some slot → P (record { term = term; slot = slot })) → Every P (map (λ slot. record { term = term; slot = slot }) (option_to_list o))
    now term None h = tt
    now term (Some slot) h = (h slot refl, tt)

rises : (n : ℕ) (answer : Answer) → n ≤ reads_after n answer
rises n (ReadIs number) = omega arith
rises n Done = le_refl _
rises n (SlotIs slot) = le_refl _
rises n (TermIs term) = le_refl _
rises n (BaseIs base) = le_refl _
rises n (JobIs job) = le_refl _
rises n (Refused refusal) = le_refl _

-- two groups that differ in marks of packets and in the count of elections at most
pub record Alike (g mid : Group) : Type 0 where
  pub servers : mid.servers ≡ g.servers
  pub packets : packets_of mid.packets ≡ packets_of g.packets
  pub acked : mid.acked ≡ g.acked
  pub answered : mid.answered ≡ g.answered
  pub reads : mid.reads ≡ g.reads

itself : (g : Group) → Alike g g
itself g = record { servers = refl; packets = refl; acked = refl; answered = refl; reads = refl }

module _ (setup : Setup) (g : Group) (event : Event) where
  still : (mid : Group) → Alike g mid → Goes setup g event mid
  still mid a = record {
    servers = λ i z at. Stays z (ap (λ x. slice_get x i) (sym a.servers) ∙ at);
    packets = Nothing a.packets;
    acked = Nothing a.acked;
    answered = Nothing a.answered;
    reads = omega (arith, a.reads);
  }

  came_set : (mid after : Group) → Alike g mid → (i : ℕ) (c : Condition) → ((z : Server) → c ≡ Running z → Came setup g event after i z) → (j : ℕ) (z : Server) → slice_get (slice_set mid.servers i c) j ≡ Some (Running z) → Came setup g event after j z
  came_set mid after a i c here j z at =
      elim (set_cases mid.servers i c j (Running z) at) [
        | inl new ↦ subst (λ k. Came setup g event after k z) (sym new.0) (here z new.1)
        | inr old ↦ Stays z (ap (λ x. slice_get x j) (sym a.servers) ∙ old.1)
      ]

  changed : (mid : Group) → Alike g mid → (i : ℕ) (c : Condition) → ((z : Server) → c ≡ Running z → Came setup g event (record mid { servers = slice_set mid.servers i c }) i z) → Goes setup g event (record mid { servers = slice_set mid.servers i c })
  changed mid a i c here = record {
    servers = came_set mid (record mid { servers = slice_set mid.servers i c }) a i c here;
    packets = Nothing a.packets;
    acked = Nothing a.acked;
    answered = Nothing a.answered;
    reads = omega (arith, a.reads);
  }

  same_running : (x y : Server) → Running x ≡ Running y → x ≡ y
  same_running x y e = cc

  step_at : (mid : Group) → Alike g mid → (i : ℕ) (s : Server) (o : Outcome) → RunsAs g i s → IsRule setup g i s event o → Steps setup g event (acted mid i o) i s o
  unfolding acted
  step_at mid a i s o runs rule = record {
    runs = runs;
    rule = rule;
    runs_on = set_there mid.servers i (Running s) (Running (settled o.server)) (ap (λ x. slice_get x i) a.servers ∙ runs);
    counts = ap (λ n. reads_after n o.answer) a.reads;
  }

  unsent : (packets : List Packet) → packets_of (send packets) ≡ packets
  unsent [] = refl
  unsent (p ∷ ps) = ap (λ rest. p ∷ rest) (unsent ps)

  acts_by : (mid : Group) → Alike g mid → (i : ℕ) (s : Server) (o : Outcome) → Steps setup g event (acted mid i o) i s o → Goes setup g event (acted mid i o)
  unfolding acted
  acts_by mid a i s o step = record {
    servers = came_set mid (acted mid i o) a i (Running (settled o.server)) (λ z same. subst (Came setup g event (acted mid i o) i) (same_running (settled o.server) z same) (Stepped s o step));
    packets = Gives i s o step (map-append (λ (one : Sent). one.packet) mid.packets (send o.packets) ∙ ap (λ ps. ps ++ packets_of (send o.packets)) a.packets ∙ ap (λ ps. packets_of g.packets ++ ps) (unsent o.packets));
    acked = Gives i s o step (ap (λ xs. xs ++ acks_of o) a.acked);
    answered = Gives i s o step (ap (λ xs. xs ++ answers_of o) a.answered);
    reads = subst (λ n. n ≤ reads_after mid.reads o.answer) a.reads (rises mid.reads o.answer);
  }

  acts : (mid : Group) → Alike g mid → (i : ℕ) (s : Server) (o : Outcome) → RunsAs g i s → IsRule setup g i s event o → Goes setup g event (acted mid i o)
  acts mid a i s o runs rule = acts_by mid a i s o (step_at mid a i s o runs rule)

  not_running : (life : ℕ) (before after : Durable) (z : Server) → Stopped life before after ≡ Running z → ⊥
  not_running life before after z e = grind (arith, e)

  ends : (how : Ending) (mid : Group) → Alike g mid → (i : ℕ) (s : Server) (o : Outcome) → RunsAs g i s → IsRule setup g i s event o → Goes setup g event (step_ended how mid i s o)
  unfolding cut_off
  ends Whole mid a i s o runs rule = acts mid a i s o runs rule
  ends CutOff mid a i s o runs rule = changed mid a i (Stopped (suc s.life) s.durable o.server.durable) (λ z e. absurd (not_running _ _ _ z e))
  ends Missed mid a i s o runs rule = still mid a
  ends Untouched mid a i s o runs rule = still mid a

  steps : (how : Ending) (mid : Group) → Alike g mid → (i : ℕ) (c : Option Condition) (rule : Server → Outcome) → slice_get g.servers i ≡ c → ((s : Server) → IsRule setup g i s event (rule s)) → Goes setup g event (server_step_of how mid i c rule)
  steps how mid a i (Some (Running s)) rule at is = ends how mid a i s (rule s) at (is s)
  steps how mid a i (Some (Stopped life before after)) rule at is = still mid a
  steps how mid a i (Some Unformatted) rule at is = still mid a
  steps how mid a i None rule at is = still mid a

  server_goes : (how : Ending) (mid : Group) → Alike g mid → (i : ℕ) (rule : Server → Outcome) → ((s : Server) → IsRule setup g i s event (rule s)) → Goes setup g event (at_server how mid i rule)
  server_goes how mid a i rule is = steps how mid a i (slice_get mid.servers i) rule (ap (λ x. slice_get x i) (sym a.servers)) is

  begins : (how : Ending) (i life : ℕ) (d before after : Durable) → Goes setup g event (server_begun how g i life d before after)
  begins Whole i life d before after = changed g (itself g) i (Running (restarted i (suc life) (renewed d))) (λ z e. subst (Came setup g event _ i) (same_running _ z e) (Begins (suc life) (renewed d)))
  begins CutOff i life d before after = changed g (itself g) i (Stopped (suc life) before after) (λ z e. absurd (not_running _ _ _ z e))
  begins Missed i life d before after = still g (itself g)
  begins Untouched i life d before after = still g (itself g)

  restarts : (how : Ending) (i : ℕ) (found : Bool) (c : Option Condition) → Goes setup g event (restart how g i found c)
  restarts how i found (Some (Running s)) = begins how i s.life s.durable s.durable s.durable
  restarts how i found (Some (Stopped life before after)) = begins how i life (cond found after before) before after
  restarts how i found (Some Unformatted) = still g (itself g)
  restarts how i found None = still g (itself g)

  stops : (i : ℕ) (c : Option Condition) → Goes setup g event (stopped g i c)
  stops i (Some (Running s)) = changed g (itself g) i (Stopped (suc s.life) s.durable s.durable) (λ z e. absurd (not_running _ _ _ z e))
  stops i (Some (Stopped life before after)) = still g (itself g)
  stops i (Some Unformatted) = still g (itself g)
  stops i None = still g (itself g)

  onlys : (how : Ending) (later : Group) → Goes setup g event later → Goes setup g event (only_whole how g later)
  onlys Whole later h = h
  onlys CutOff later h = still g (itself g)
  onlys Missed later h = still g (itself g)
  onlys Untouched later h = still g (itself g)

  claims_at : (i : ℕ) (c : Option Condition) (slot : ℕ) → slice_get g.servers i ≡ c → Goes setup g event (claim_at g i c (Some slot))
  claims_at i (Some (Running s)) slot at = changed g (itself g) i (Running (claimed s slot)) (λ z e. subst (Came setup g event _ i) (same_running _ z e) (Claims s slot at))
  claims_at i (Some (Stopped life before after)) slot at = still g (itself g)
  claims_at i (Some Unformatted) slot at = still g (itself g)
  claims_at i None slot at = still g (itself g)

  claims_or : (i : ℕ) (o : Option ℕ) (rest : Group) → Goes setup g event rest → Goes setup g event (claim_or g i o rest)
  claims_or i None rest h = h
  claims_or i (Some slot) rest h = claims_at i (slice_get g.servers i) slot refl

  claims : (window : ℕ) (is : List ℕ) → Goes setup g event (first_claim window g is)
  claims window [] = still g (itself g)
  claims window (i ∷ is) = claims_or i (least_claim window (slice_get g.servers i)) (first_claim window g is) (claims window is)

  same_packets : (packets : List Sent) (k : ℕ) (p q : Sent) → slice_get packets k ≡ Some p → q.packet ≡ p.packet → packets_of (slice_set packets k q) ≡ packets_of packets
  same_packets [] k p q at same = refl
  same_packets (x ∷ xs) zero p q at same = ap (λ one. one ∷ packets_of xs) (same ∙ ap (λ one. one.packet) (sym (same_Some x p at)))
  same_packets (x ∷ xs) (suc k) p q at same = ap (λ rest. x.packet ∷ rest) (same_packets xs k p q at same)

  marks_alike : (k : ℕ) (p q : Sent) → slice_get g.packets k ≡ Some p → q.packet ≡ p.packet → Alike g (with_sent g k q)
  marks_alike k p q at same = record {
    servers = refl;
    packets = same_packets g.packets k p q at same;
    acked = refl;
    answered = refl;
    reads = refl;
  }

  delivery_alike : (how : Ending) (k : ℕ) (p : Sent) → slice_get g.packets k ≡ Some p → Alike g (delivered_in how g k p)
  delivery_alike Whole k p at = marks_alike k p _ at refl
  delivery_alike CutOff k p at = marks_alike k p _ at refl
  delivery_alike Missed k p at = marks_alike k p _ at refl
  delivery_alike Untouched k p at = itself g

  loses : (k : ℕ) (o : Option Sent) → slice_get g.packets k ≡ o → Goes setup g event (lost g k o)
  loses k None at = still g (itself g)
  loses k (Some p) at = still _ (marks_alike k p _ at refl)

  elections_alike : (how : Ending) → Alike g (counted_election how g)
  elections_alike Whole = record { servers = refl; packets = refl; acked = refl; answered = refl; reads = refl }
  elections_alike CutOff = record { servers = refl; packets = refl; acked = refl; answered = refl; reads = refl }
  elections_alike Missed = itself g
  elections_alike Untouched = itself g

delivers : (setup : Setup) (g : Group) (how : Ending) (k : ℕ) (o : Option Sent) → slice_get g.packets k ≡ o → Goes setup g (Deliver k) (packet_delivered setup how g k o)
delivers setup g how k None at = still setup g (Deliver k) g (itself g)
delivers setup g how k (Some p) at =
    by_end p.lost
  where
    by_end : (c : Bool) → Goes setup g (Deliver k) (if c then g else at_server how (delivered_in how g k p) p.packet.to (λ s. on_packet setup s p.packet))
    by_end true = still setup g (Deliver k) g (itself g)
    by_end false = server_goes setup g (Deliver k) how (delivered_in how g k p) (delivery_alike setup g (Deliver k) how k p at) p.packet.to (λ s. on_packet setup s p.packet) (λ s. ByPacket k p at refl)

-- every event
pub goes : (setup : Setup) (g : Group) (event : Event) (how : Ending) → Goes setup g event (happens setup g event how)
unfolding happens
goes setup g (Submit i op) how = server_goes setup g (Submit i op) how g (itself g) i _ (λ s. BySubmit op)
goes setup g (Fetch i range) how = server_goes setup g (Fetch i range) how g (itself g) i _ (λ s. ByFetch range)
goes setup g (Deliver k) how = delivers setup g how k (slice_get g.packets k) refl
goes setup g (Lose k) how = onlys setup g (Lose k) how _ (loses setup g (Lose k) k (slice_get g.packets k) refl)
goes setup g (Elect i) how = server_goes setup g (Elect i) how (counted_election how g) (elections_alike setup g (Elect i) how) i _ (λ s. ByElect)
goes setup g (Resend i) how = server_goes setup g (Resend i) how g (itself g) i _ (λ s. ByResend)
goes setup g (Stop i) how = onlys setup g (Stop i) how _ (stops setup g (Stop i) i (slice_get g.servers i))
goes setup g (Restart i found) how = restarts setup g (Restart i found) how i found (slice_get g.servers i)
goes setup g Claim how = onlys setup g Claim how _ (claims setup g Claim setup.window (0 ∷ 1 ∷ 2 ∷ []))
goes setup g (Finish i life slot) how = server_goes setup g (Finish i life slot) how g (itself g) i _ (λ s. ByFinish life slot)
goes setup g (GiveBack i life slot) how = server_goes setup g (GiveBack i life slot) how g (itself g) i _ (λ s. ByGiveBack life slot)
goes setup g (Checkpoint i) how = server_goes setup g (Checkpoint i) how g (itself g) i _ (λ s. ByCheckpoint)
