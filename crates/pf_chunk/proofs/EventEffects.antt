-- What one event makes of the servers, the answers and the count of reads.
use Rattle.std.proofs.Common.{◌≡◌, ℕ, suc, ◌⊎◌, inl, inr, Bool, true, false, cond, if◌then◌else◌, List, [], ◌∷◌, ◌++◌, map, Option, Some, None, ◌==◌, slice_get, slice_set, arith, refl, sym, ap, subst, ◌∙◌}
use Rattle.std.specs.FinMap
use Rattle.pf_entry.specs.Records.{Durable}
use Rattle.pf_entry.proofs.Lists.{set_cases}
use Rattle.pf_protocol.specs.declared.answers.Answer.{Answer}
use Rattle.pf_protocol.specs.declared.answers.Answer.TheVariants.{Done, Refused}
use Rattle.pf_protocol.specs.declared.answers.Refusal.{Refusal}
use Rattle.pf_protocol.specs.declared.answers.Refusal.TheVariants.{BadRange, WindowFull, LogFull, NotOurs, NotLeader, Down, Halted, NoPacket, LostPacket, PacketsFull, ElectionsFull, NoneFree, Stale, OldFormat}
use Rattle.pf_protocol.specs.declared.events.Event.{Event}
use Rattle.pf_protocol.specs.declared.events.Event.TheVariants.{Submit, Fetch, Deliver, Lose, Elect, Resend, Stop, Restart, Claim, Finish, GiveBack, Checkpoint}
use Rattle.pf_protocol.specs.Servers.{Setup, Server, Condition, Running, Stopped, Unformatted}
use Rattle.pf_protocol.specs.Outcomes.{Outcome, sends}
use Rattle.pf_protocol.specs.Leading.{on_submit, on_fetch, on_elect, on_resend}
use Rattle.pf_protocol.specs.Saving.{on_checkpoint, restarted, renewed, claimed, on_finish, on_give_back}
use Rattle.pf_protocol.specs.Rows.{on_packet, settled, ready_reads}
use Rattle.pf_protocol.specs.Groups.{Sent, Group, Ending, Whole, CutOff, Missed, Untouched, answer_of, reads_after, acted, cut_off, step_ended, ending, ending_of, server_step_of, at_server, with_sent, delivered_in, packet_delivered, lost, stopped, server_begun, restart, least_claim, claim_at, claim_or, first_claim, only_whole, counted_election, happens}
use Rattle.pf_protocol.specs.Histories.{RunsAs}
use Rattle.pf_protocol.specs.Answers.{ServerTurn, submit_turn, fetch_turn, elect_turn, deliver_turn, plain_turn, answer_by, answer_at, delivery_answer, loss_answer, stop_answer, is_formatted, restart_answer, claim_answer_at, claim_answer, finish_answer, answer_to, IsAnswer}
use Rattle.pf_entry.proofs.Cases.{by_test}
use Rattle.pf_chunk.proofs.ReadNumbers.{NoRead, refused_reads, done_reads}
use Rattle.pf_protocol.proofs.ForMoments.{IsRule, BySubmit, ByFetch, ByPacket, ByElect, ByResend, ByFinish, ByGiveBack, ByCheckpoint}

-- one server took its step
pub record Acted (setup : Setup) (g : Group) (event : Event) (answer : Answer) (after : Group) (i : ℕ) (s : Server) (o : Outcome) : Type 0 where
  pub runs : RunsAs g i s
  pub rule : IsRule setup g i s event o
  pub told : answer ≡ o.answer
  pub servers : after.servers ≡ slice_set g.servers i (Running (settled o.server))
  pub answered : after.answered ≡ g.answered ++ map (answer_of o.server) (ready_reads o.server)
  pub reads : after.reads ≡ reads_after g.reads o.answer

-- the server has no reads that wait, or the same ones in the same term
abbrev pub HasOld : Group → ℕ → Server → Type 0
HasOld g i z = (z.reads ≡ []) ⊎ ((s : Server) × (RunsAs g i s) × (z.reads ≡ s.reads) × (z.durable.term ≡ s.durable.term))

-- no server took a step
pub record Rested (g after : Group) : Type 0 where
  pub servers : (i : ℕ) (z : Server) → RunsAs after i z → HasOld g i z
  pub answered : after.answered ≡ g.answered
  pub reads : after.reads ≡ g.reads

pub data Went (setup : Setup) (g : Group) (event : Event) (answer : Answer) (after : Group) : Type 0 where
  Acts : (i : ℕ) (s : Server) (o : Outcome) → Acted setup g event answer after i s o → Went setup g event answer after
  Rests : Rested g after → NoRead answer → Went setup g event answer after

-- two groups that differ in packets and in the count of elections at most
record Alike (g mid : Group) : Type 0 where
  servers : mid.servers ≡ g.servers
  answered : mid.answered ≡ g.answered
  reads : mid.reads ≡ g.reads

itself : (g : Group) → Alike g g
itself g = record { servers = refl; answered = refl; reads = refl }

same_running : (x y : Server) → Running x ≡ Running y → x ≡ y
same_running x y e = cc

not_running : (life : ℕ) (before later : Durable) (z : Server) → Stopped life before later ≡ Running z → ⊥
not_running life before later z e = grind (arith, e)

refusals_end : (r : Refusal) → ending_of r ≡ Whole → ⊥
refusals_end BadRange e = grind (arith, e)
refusals_end WindowFull e = grind (arith, e)
refusals_end LogFull e = grind (arith, e)
refusals_end NotOurs e = grind (arith, e)
refusals_end NotLeader e = grind (arith, e)
refusals_end Down e = grind (arith, e)
refusals_end Halted e = grind (arith, e)
refusals_end NoPacket e = grind (arith, e)
refusals_end LostPacket e = grind (arith, e)
refusals_end PacketsFull e = grind (arith, e)
refusals_end ElectionsFull e = grind (arith, e)
refusals_end NoneFree e = grind (arith, e)
refusals_end (Stale life) e = grind (arith, e)
refusals_end OldFormat e = grind (arith, e)

-- a step that was not whole took up no read
cut_reads : (answer : Answer) (how : Ending) → ending answer ≡ how → (Whole ≡ how → ⊥) → NoRead answer
cut_reads answer how is apart n e = apart (sym (ap ending e) ∙ is)

module _ (g : Group) where
  still : (mid : Group) → Alike g mid → Rested g mid
  still mid a = record {
    servers = λ i z at. inr (z, ap (λ x. slice_get x i) (sym a.servers) ∙ at, refl, refl);
    answered = a.answered;
    reads = a.reads;
  }

  changed : (i : ℕ) (c : Condition) → ((z : Server) → c ≡ Running z → HasOld g i z) → Rested g (record g { servers = slice_set g.servers i c })
  changed i c here = record { servers = at_place; answered = refl; reads = refl }
    where
      at_place : (j : ℕ) (z : Server) → slice_get (slice_set g.servers i c) j ≡ Some (Running z) → HasOld g j z
      at_place j z at = elim (set_cases g.servers i c j (Running z) at) [
        | inl new ↦ subst (λ k. HasOld g k z) (sym new.0) (here z new.1)
        | inr old ↦ inr (z, old.1, refl, refl)
      ]

  stops_at : (mid : Group) → Alike g mid → (i life : ℕ) (before later : Durable) → Rested g (record mid { servers = slice_set mid.servers i (Stopped life before later) })
  stops_at mid a i life before later = record { servers = at_place; answered = a.answered; reads = a.reads }
    where
      at_place : (j : ℕ) (z : Server) → slice_get (slice_set mid.servers i (Stopped life before later)) j ≡ Some (Running z) → HasOld g j z
      at_place j z at = elim (set_cases mid.servers i (Stopped life before later) j (Running z) at) [
        | inl new ↦ absurd (not_running life before later z new.1)
        | inr old ↦ inr (z, ap (λ x. slice_get x j) (sym a.servers) ∙ old.1, refl, refl)
      ]

  begins : (how : Ending) (i life : ℕ) (d before later : Durable) → Rested g (server_begun how g i life d before later)
  unfolding restarted
  begins Whole i life d before later = changed i (Running (restarted i (suc life) (renewed d))) (λ z e. inl (ap (λ x. x.reads) (sym (same_running _ z e))))
  begins CutOff i life d before later = stops_at g (itself g) i (suc life) before later
  begins Missed i life d before later = still g (itself g)
  begins Untouched i life d before later = still g (itself g)

  restarts : (how : Ending) (i : ℕ) (found : Bool) (c : Option Condition) → Rested g (restart how g i found c)
  restarts how i found (Some (Running s)) = begins how i s.life s.durable s.durable s.durable
  restarts how i found (Some (Stopped life before later)) = begins how i life (cond found later before) before later
  restarts how i found (Some Unformatted) = still g (itself g)
  restarts how i found None = still g (itself g)

  stops : (i : ℕ) (c : Option Condition) → Rested g (stopped g i c)
  stops i (Some (Running s)) = stops_at g (itself g) i (suc s.life) s.durable s.durable
  stops i (Some (Stopped life before later)) = still g (itself g)
  stops i (Some Unformatted) = still g (itself g)
  stops i None = still g (itself g)

  onlys : (how : Ending) (later : Group) → Rested g later → Rested g (only_whole how g later)
  onlys Whole later h = h
  onlys CutOff later h = still g (itself g)
  onlys Missed later h = still g (itself g)
  onlys Untouched later h = still g (itself g)

  claims_at : (i : ℕ) (c : Option Condition) (slot : ℕ) → slice_get g.servers i ≡ c → Rested g (claim_at g i c (Some slot))
  unfolding claimed
  claims_at i (Some (Running s)) slot at = changed i (Running (claimed s slot)) (λ z e. let same = same_running (claimed s slot) z e in inr (s, at, ap (λ x. x.reads) (sym same), ap (λ x. x.durable.term) (sym same)))
  claims_at i (Some (Stopped life before later)) slot at = still g (itself g)
  claims_at i (Some Unformatted) slot at = still g (itself g)
  claims_at i None slot at = still g (itself g)

  claims_or : (i : ℕ) (o : Option ℕ) (rest : Group) → Rested g rest → Rested g (claim_or g i o rest)
  claims_or i None rest h = h
  claims_or i (Some slot) rest h = claims_at i (slice_get g.servers i) slot refl

  claims : (window : ℕ) (is : List ℕ) → Rested g (first_claim window g is)
  claims window [] = still g (itself g)
  claims window (i ∷ is) = claims_or i (least_claim window (slice_get g.servers i)) (first_claim window g is) (claims window is)

  loses : (k : ℕ) (o : Option Sent) → Rested g (lost g k o)
  loses k None = still g (itself g)
  loses k (Some p) = still (with_sent g k (record p { lost = true })) (record { servers = refl; answered = refl; reads = refl })

  delivery_alike : (how : Ending) (k : ℕ) (p : Sent) → Alike g (delivered_in how g k p)
  delivery_alike Whole k p = record { servers = refl; answered = refl; reads = refl }
  delivery_alike CutOff k p = record { servers = refl; answered = refl; reads = refl }
  delivery_alike Missed k p = record { servers = refl; answered = refl; reads = refl }
  delivery_alike Untouched k p = itself g

  elections_alike : (how : Ending) → Alike g (counted_election how g)
  elections_alike Whole = record { servers = refl; answered = refl; reads = refl }
  elections_alike CutOff = record { servers = refl; answered = refl; reads = refl }
  elections_alike Missed = itself g
  elections_alike Untouched = itself g

-- the answer of a server's step: its rule's, where it was whole, and of no read where the server does not run
abbrev IsFrom : Option Condition → (Server → Outcome) → Answer → Type 0
IsFrom (Some (Running s)) rule answer = ending answer ≡ Whole → answer ≡ (rule s).answer
IsFrom (Some (Stopped life before later)) rule answer = NoRead answer
IsFrom (Some Unformatted) rule answer = NoRead answer
IsFrom None rule answer = NoRead answer

abbrev Judged : Answer → Answer → Type 0
Judged right answer = (answer ≡ right) ⊎ (answer ≡ Refused Halted)

no_read : (right answer : Answer) → NoRead right → Judged right answer → NoRead answer
no_read right answer none (inl same) n e = none n (sym same ∙ e)
no_read right answer none (inr cut) n e = refused_reads Halted n (sym cut ∙ e)

refused_from : (r : Refusal) (answer : Answer) (c : Option Condition) (rule : Server → Outcome) → answer ≡ Refused r → IsFrom c rule answer
refused_from r answer (Some (Running s)) rule is = λ whole. absurd (refusals_end r (sym (ap ending is) ∙ whole))
refused_from r answer (Some (Stopped life before later)) rule is = λ n e. refused_reads r n (sym is ∙ e)
refused_from r answer (Some Unformatted) rule is = λ n e. refused_reads r n (sym is ∙ e)
refused_from r answer None rule is = λ n e. refused_reads r n (sym is ∙ e)

turn_from : (c : Option Condition) (turn : ServerTurn) (answer : Answer) → Judged (answer_at c turn) answer → IsFrom c turn.rule answer
turn_from c turn answer (inr cut) = refused_from Halted answer c turn.rule cut
turn_from (Some (Running s)) turn answer (inl is) = by_refusal (turn.refusal s) is
  where
    by_refusal : (o : Option Refusal) → answer ≡ answer_by o (turn.rule s).answer → ending answer ≡ Whole → answer ≡ (turn.rule s).answer
    by_refusal None is whole = is
    by_refusal (Some r) is whole = refused_from r answer (Some (Running s)) turn.rule is whole
turn_from (Some (Stopped life before later)) turn answer (inl is) = refused_from Down answer (Some (Stopped life before later)) turn.rule is
turn_from (Some Unformatted) turn answer (inl is) = refused_from Down answer (Some Unformatted) turn.rule is
turn_from None turn answer (inl is) = refused_from Down answer None turn.rule is

finish_from : (life slot : ℕ) (c : Option Condition) (answer : Answer) → Judged (finish_answer c life slot) answer → IsFrom c (λ s. on_finish s life slot) answer
finish_from life slot c answer (inr cut) = refused_from Halted answer c (λ s. on_finish s life slot) cut
finish_from life slot (Some (Running s)) answer (inl is) = λ whole. is
finish_from life slot (Some (Stopped now before later)) answer (inl is) = refused_from (Stale now) answer (Some (Stopped now before later)) (λ s. on_finish s life slot) is
finish_from life slot (Some Unformatted) answer (inl is) = refused_from Down answer (Some Unformatted) (λ s. on_finish s life slot) is
finish_from life slot None answer (inl is) = refused_from Down answer None (λ s. on_finish s life slot) is

back_done : (s : Server) (life slot : ℕ) → (on_give_back s life slot).answer ≡ Done
unfolding on_give_back
back_done s life slot = by_test (life == s.life) (λ c. (if c then sends (record s { in_hand = FinMap.remove s.in_hand slot }) [] else sends s []).answer ≡ Done) (λ _. refl) (λ _. refl)

give_back_from : (life slot : ℕ) (c : Option Condition) (answer : Answer) → Judged Done answer → IsFrom c (λ s. on_give_back s life slot) answer
give_back_from life slot c answer (inr cut) = refused_from Halted answer c (λ s. on_give_back s life slot) cut
give_back_from life slot (Some (Running s)) answer (inl is) = λ whole. is ∙ sym (back_done s life slot)
give_back_from life slot (Some (Stopped now before later)) answer (inl is) = no_read Done answer done_reads (inl is)
give_back_from life slot (Some Unformatted) answer (inl is) = no_read Done answer done_reads (inl is)
give_back_from life slot None answer (inl is) = no_read Done answer done_reads (inl is)

module _ (setup : Setup) (g : Group) (event : Event) (answer : Answer) where
  rested : (after : Group) → Rested g after → NoRead answer → Went setup g event answer after
  rested after h none = Rests h none

  acts : (mid : Group) → Alike g mid → (i : ℕ) (s : Server) (o : Outcome) → RunsAs g i s → IsRule setup g i s event o → answer ≡ o.answer → Went setup g event answer (acted mid i o)
  unfolding acted
  acts mid a i s o runs rule told = Acts i s o (record {
    runs = runs;
    rule = rule;
    told = told;
    servers = ap (λ x. slice_set x i (Running (settled o.server))) a.servers;
    answered = ap (λ x. x ++ map (answer_of o.server) (ready_reads o.server)) a.answered;
    reads = ap (λ n. reads_after n o.answer) a.reads;
  })

  ends : (how : Ending) → ending answer ≡ how → (mid : Group) → Alike g mid → (i : ℕ) (s : Server) (o : Outcome) → RunsAs g i s → IsRule setup g i s event o → (ending answer ≡ Whole → answer ≡ o.answer) → Went setup g event answer (step_ended how mid i s o)
  unfolding cut_off
  ends Whole is mid a i s o runs rule told = acts mid a i s o runs rule (told is)
  ends CutOff is mid a i s o runs rule told = Rests (stops_at g mid a i (suc s.life) s.durable o.server.durable) (cut_reads answer CutOff is (λ e. grind (arith, e)))
  ends Missed is mid a i s o runs rule told = Rests (still g mid a) (cut_reads answer Missed is (λ e. grind (arith, e)))
  ends Untouched is mid a i s o runs rule told = Rests (still g mid a) (cut_reads answer Untouched is (λ e. grind (arith, e)))

  steps : (mid : Group) → Alike g mid → (i : ℕ) (c : Option Condition) (rule : Server → Outcome) → slice_get g.servers i ≡ c → ((s : Server) → IsRule setup g i s event (rule s)) → IsFrom c rule answer → Went setup g event answer (server_step_of (ending answer) mid i c rule)
  steps mid a i (Some (Running s)) rule at is told = ends (ending answer) refl mid a i s (rule s) at (is s) told
  steps mid a i (Some (Stopped life before later)) rule at is told = Rests (still g mid a) told
  steps mid a i (Some Unformatted) rule at is told = Rests (still g mid a) told
  steps mid a i None rule at is told = Rests (still g mid a) told

  server_goes : (mid : Group) → Alike g mid → (i : ℕ) (rule : Server → Outcome) → ((s : Server) → IsRule setup g i s event (rule s)) → IsFrom (slice_get g.servers i) rule answer → Went setup g event answer (at_server (ending answer) mid i rule)
  server_goes mid a i rule is told = steps mid a i (slice_get mid.servers i) rule (sym same) is (subst (λ c. IsFrom c rule answer) (sym same) told)
    where
      same : slice_get mid.servers i ≡ slice_get g.servers i
      same = ap (λ x. slice_get x i) a.servers

module _ (setup : Setup) (g : Group) (answer : Answer) where
  delivers : (k : ℕ) (o : Option Sent) → slice_get g.packets k ≡ o → Judged (delivery_answer setup g o) answer → Went setup g (Deliver k) answer (packet_delivered setup (ending answer) g k o)
  delivers k None at judged = Rests (still g g (itself g)) (no_read (Refused NoPacket) answer (refused_reads NoPacket) judged)
  delivers k (Some p) at judged = by_loss p.lost judged
    where
      by_loss : (c : Bool) → Judged (if c then Refused LostPacket else answer_at (slice_get g.servers p.packet.to) (deliver_turn setup g p)) answer → Went setup g (Deliver k) answer (if c then g else at_server (ending answer) (delivered_in (ending answer) g k p) p.packet.to (λ s. on_packet setup s p.packet))
      by_loss true judged = Rests (still g g (itself g)) (no_read (Refused LostPacket) answer (refused_reads LostPacket) judged)
      by_loss false judged = server_goes setup g (Deliver k) answer (delivered_in (ending answer) g k p) (delivery_alike g (ending answer) k p) p.packet.to (λ s. on_packet setup s p.packet) (λ s. ByPacket k p at refl)
          (turn_from (slice_get g.servers p.packet.to) (deliver_turn setup g p) answer judged)

loss_reads : (o : Option Sent) → NoRead (loss_answer o)
loss_reads None = refused_reads NoPacket
loss_reads (Some p) = by_test p.lost (λ c. NoRead (if c then Refused LostPacket else Done)) (λ _. refused_reads LostPacket) (λ _. done_reads)

stop_reads : (c : Option Condition) → NoRead (stop_answer c)
stop_reads (Some (Running s)) = done_reads
stop_reads (Some (Stopped life before later)) = refused_reads Down
stop_reads (Some Unformatted) = refused_reads Down
stop_reads None = refused_reads Down

restart_reads : (c : Option Condition) → NoRead (restart_answer c)
restart_reads c = by_test (is_formatted c) (λ b. NoRead (if b then Done else Refused NotOurs)) (λ _. done_reads) (λ _. refused_reads NotOurs)

claim_reads_at : (i : ℕ) (c : Option Condition) (o : Option ℕ) (rest : Answer) → NoRead rest → NoRead (claim_answer_at i c o rest)
claim_reads_at i (Some (Running s)) (Some slot) rest none = λ n e. grind (arith, e)
claim_reads_at i (Some (Running s)) None rest none = none
claim_reads_at i (Some (Stopped life before later)) o rest none = none
claim_reads_at i (Some Unformatted) o rest none = none
claim_reads_at i None o rest none = none

claim_reads : (window : ℕ) (g : Group) (is : List ℕ) → NoRead (claim_answer window g is)
claim_reads window g [] = refused_reads NoneFree
claim_reads window g (i ∷ is) = claim_reads_at i (slice_get g.servers i) (least_claim window (slice_get g.servers i)) (claim_answer window g is) (claim_reads window g is)

judged_of : (setup : Setup) (g : Group) (event : Event) (answer : Answer) → IsAnswer setup g event answer → Judged (answer_to setup g event) answer
judged_of setup g event answer is = elim is [ inl right ↦ inl right | inr cut ↦ inr cut.1 ]

by_event : (setup : Setup) (g : Group) (event : Event) (answer : Answer) → Judged (answer_to setup g event) answer → Went setup g event answer (happens setup g event (ending answer))
unfolding happens answer_to
by_event setup g (Submit i op) answer j = server_goes setup g (Submit i op) answer g (itself g) i (λ s. on_submit setup s op s.role) (λ s. BySubmit op) (turn_from (slice_get g.servers i) (submit_turn setup g op) answer j)
by_event setup g (Fetch i range) answer j = server_goes setup g (Fetch i range) answer g (itself g) i (λ s. on_fetch s range g.reads s.role) (λ s. ByFetch range) (turn_from (slice_get g.servers i) (fetch_turn setup g range) answer j)
by_event setup g (Deliver k) answer j = delivers setup g answer k (slice_get g.packets k) refl j
by_event setup g (Lose k) answer j = Rests (onlys g (ending answer) _ (loses g k (slice_get g.packets k))) (no_read _ answer (loss_reads (slice_get g.packets k)) j)
by_event setup g (Elect i) answer j = server_goes setup g (Elect i) answer (counted_election (ending answer) g) (elections_alike g (ending answer)) i on_elect (λ s. ByElect) (turn_from (slice_get g.servers i) (elect_turn g) answer j)
by_event setup g (Resend i) answer j = server_goes setup g (Resend i) answer g (itself g) i (λ s. on_resend s s.role) (λ s. ByResend) (turn_from (slice_get g.servers i) (plain_turn g (λ s. on_resend s s.role)) answer j)
by_event setup g (Stop i) answer j = Rests (onlys g (ending answer) _ (stops g i (slice_get g.servers i))) (no_read _ answer (stop_reads (slice_get g.servers i)) j)
by_event setup g (Restart i found) answer j = Rests (restarts g (ending answer) i found (slice_get g.servers i)) (no_read _ answer (restart_reads (slice_get g.servers i)) j)
by_event setup g Claim answer j = Rests (onlys g (ending answer) _ (claims g setup.window (0 ∷ 1 ∷ 2 ∷ []))) (no_read _ answer (claim_reads setup.window g (0 ∷ 1 ∷ 2 ∷ [])) j)
by_event setup g (Finish i life slot) answer j = server_goes setup g (Finish i life slot) answer g (itself g) i (λ s. on_finish s life slot) (λ s. ByFinish life slot) (finish_from life slot (slice_get g.servers i) answer j)
by_event setup g (GiveBack i life slot) answer j = server_goes setup g (GiveBack i life slot) answer g (itself g) i (λ s. on_give_back s life slot) (λ s. ByGiveBack life slot) (give_back_from life slot (slice_get g.servers i) answer j)
by_event setup g (Checkpoint i) answer j = server_goes setup g (Checkpoint i) answer g (itself g) i on_checkpoint (λ s. ByCheckpoint) (turn_from (slice_get g.servers i) (plain_turn g on_checkpoint) answer j)

-- every event that has its answer
pub went : (setup : Setup) (g : Group) (event : Event) (answer : Answer) → IsAnswer setup g event answer → Went setup g event answer (happens setup g event (ending answer))
went setup g event answer is = by_event setup g event answer (judged_of setup g event answer is)
