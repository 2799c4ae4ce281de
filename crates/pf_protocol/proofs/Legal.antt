-- What fits at the start of a legal history fits all along.
use Rattle.std.proofs.Common.{◌≡◌, ℕ, zero, suc, ◌+◌, ◌<◌, ◌≤◌, ◌⊎◌, inl, inr, Bool, true, false, cond, not, ◌&&◌, ◌==◌, if◌then◌else◌, List, [], ◌∷◌, ◌++◌, length, replicate, Option, Some, None, is_none, nat_lt, nat_le, slice_get, slice_set, arith, refl, sym, ap, subst, ◌∙◌, le_refl}
use Rattle.std.specs.List.{list_any, range_with_len}
use Rattle.std.specs.FinMap
use Rattle.std.specs.FinMap.{get-empty}
use Rattle.std.specs.Ordering.{nat_cmp}
use Rattle.std.proofs.lemmas.Bool.{leb-false, eqb-false, and_parts, false≢true, true≢false}
use Rattle.std.proofs.lemmas.Option.{same_Some, none-some}
use Rattle.std.proofs.lemmas.List.{append_assoc, append-nil, length-append}
use Rattle.pf_base.specs.Span.{fits_in}
use Rattle.pf_entry.proofs.Sets.{contains-empty}
use Rattle.pf_entry.specs.Lists.{Every}
use Rattle.pf_entry.proofs.Lists.{every_append, every_more, every_map, every_filter, every_get, every_set, set_cases, found_passes}
use Rattle.pf_entry.proofs.Maps.{insert_cases}
use Rattle.pf_entry.specs.Ops.{range_of, zero_sector}
use Rattle.pf_entry.specs.declared.ops.Op.{Op}
use Rattle.pf_entry.specs.declared.ops.Op.TheVariants.{Write, Noop, Mark}
use Rattle.pf_entry.specs.declared.entries.Entry.{Entry}
use Rattle.pf_entry.specs.Records.{Durable, image_of, stored}
use Rattle.pf_protocol.specs.declared.answers.Answer.{Answer}
use Rattle.pf_protocol.specs.declared.answers.Answer.TheVariants.{Done, Slot as SlotIs, Term as TermIs, Read as ReadIs, Base as BaseIs, Job as JobIs, Refused}
use Rattle.pf_protocol.specs.declared.answers.Refusal.{Refusal}
use Rattle.pf_protocol.specs.declared.answers.Refusal.TheVariants.{BadRange, WindowFull, LogFull, NotLeader, Down, Halted, PacketsFull, ElectionsFull, OldFormat}
use Rattle.pf_protocol.specs.declared.events.Event.{Event}
use Rattle.pf_protocol.specs.declared.events.Event.TheVariants.{Submit, Fetch, Deliver, Lose, Elect, Resend, Stop, Restart, Claim, Finish, GiveBack, Checkpoint}
use Rattle.pf_protocol.specs.Servers.{Setup, Leader, Merging, Serving, Server, Condition, Running, Stopped, Unformatted, has_applied}
use Rattle.pf_protocol.specs.Outcomes.{Outcome}
use Rattle.pf_protocol.specs.Leading.{on_submit, on_fetch, on_elect, on_resend, op_at, op_of}
use Rattle.pf_protocol.specs.Saving.{renewed, restarted, claimed, claimable, is_claimable, on_checkpoint, on_finish, on_give_back}
use Rattle.pf_protocol.specs.Rows.{on_packet, settled}
use Rattle.pf_protocol.specs.Groups.{Sent, Group, Ending, Whole, CutOff, Missed, Untouched, send, acted, cut_off, step_ended, server_step_of, at_server, with_sent, delivered_in, packet_delivered, lost, stopped, server_begun, restart, least_claim, claim_at, claim_or, first_claim, only_whole, counted_election, ending, ending_of, reads_after, happens, opening, unless_failed, first_leader, opening_disk}
use Rattle.pf_protocol.specs.Histories.{History, replay}
use Rattle.pf_protocol.specs.Answers.{refuse, room_refusal, half_size, most_elections, is_serving, window_full, is_mark, submit_refusal, elect_refusal, ServerTurn, submit_turn, elect_turn, answer_by, answer_at, can_halt, answer_to, may_halt, IsAnswer, Claimed, claims_after, IsSubmitted, MayHappen, IsLegalFrom, IsSetup, IsLegal}
use Rattle.pf_protocol.specs.Fitting.{OpFits, SlotFits, DurableFits, ServerFits, ConditionFits, PacketFits, GroupFits, FitsFrom}
use Rattle.pf_entry.proofs.Cases.{by_test}
use Rattle.pf_protocol.proofs.LegalSizes.{Fits, durable_more, condition_more, packet_more, submit_fits, fetch_fits, elect_fits, resend_fits, checkpoint_fits, finish_fits, give_back_fits, message_fits}
use Rattle.pf_protocol.proofs.Follows.{IsLeader, RoleIs}
use Rattle.pf_protocol.proofs.ChosenKnown.{LeaderKnows, RoleKnows}
use Rattle.pf_protocol.proofs.Histories.{Told, told}
use Rattle.pf_protocol.proofs.OpeningBallots.{opening_ballots}
use Rattle.pf_protocol.proofs.Rows.{own_entry}
use Rattle.pf_protocol.proofs.Moments.{run_longer}

-- a refusal of a step leaves the group as it was
abbrev pub IsSilent : Option Refusal → Type 0
IsSilent None = Unit {0}
IsSilent (Some refusal) = ending_of refusal ≡ Untouched

pub refuse_silent : (fault : Bool) (refusal : Refusal) (rest : Option Refusal) → ending_of refusal ≡ Untouched → IsSilent rest → IsSilent (refuse fault refusal rest)
refuse_silent true refusal rest is after = is
refuse_silent false refusal rest is after = after

pub room_silent : (g : Group) (o : Outcome) → IsSilent (room_refusal g o)
unfolding room_refusal
room_silent g o = refuse_silent _ PacketsFull (refuse (nat_lt half_size o.server.durable.used) LogFull None) refl (refuse_silent _ LogFull None refl tt)

pub submit_silent : (setup : Setup) (g : Group) (op : Op) (s : Server) → IsSilent (submit_refusal setup g op s)
unfolding submit_refusal
submit_silent setup g op s =
    let room = room_refusal g (on_submit setup s op s.role) in
    let window = refuse (window_full setup s s.role) WindowFull room in
    let leads = refuse (not (is_serving s.role)) NotLeader window in
    refuse_silent _ OldFormat (refuse (not (fits_in (range_of op) setup.chunk)) BadRange leads) refl
    (refuse_silent _ BadRange leads refl (refuse_silent _ NotLeader window refl (refuse_silent _ WindowFull room refl (room_silent g (on_submit setup s op s.role)))))

pub elect_silent : (g : Group) (s : Server) → IsSilent (elect_refusal g s)
unfolding elect_refusal
elect_silent g s = refuse_silent _ ElectionsFull (room_refusal g (on_elect s)) refl (room_silent g (on_elect s))

pub refuse_none : (fault : Bool) (refusal : Refusal) (rest : Option Refusal) → refuse fault refusal rest ≡ None → (fault ≡ false) × (rest ≡ None)
refuse_none true refusal rest is = absurd (none-some refusal (sym is))
refuse_none false refusal rest is = (refl, is)

none_of : {X : Type 0} → (o : Option X) → is_none o ≡ true → o ≡ None
none_of None is = refl
none_of (Some x) is = absurd (false≢true is)

-- a step of a running server was not refused, or has left the group as it was
pub stands_or_silent : (turn : ServerTurn) (s : Server) (answer : Answer) → IsSilent (turn.refusal s) → (answer ≡ answer_at (Some (Running s)) turn) ⊎ ((can_halt (Some (Running s)) turn ≡ true) × (answer ≡ Refused Halted)) → (turn.refusal s ≡ None) ⊎ (ending answer ≡ Untouched)
stands_or_silent turn s answer silent is =
    elim is [
      | inl right ↦ by_refusal (turn.refusal s) refl silent right
      | inr cut ↦ inl (none_of (turn.refusal s) (and_parts _ _ cut.0).0)
    ]
  where
    by_refusal : (o : Option Refusal) → turn.refusal s ≡ o → IsSilent o → answer ≡ answer_by o (turn.rule s).answer → (turn.refusal s ≡ None) ⊎ (ending answer ≡ Untouched)
    by_refusal None same quiet right = inl same
    by_refusal (Some refusal) same quiet right = inr (ap ending right ∙ quiet)

-- what a host submits, where the server takes it
submitted_op : (setup : Setup) → IsSetup setup → (g : Group) (op : Op) (s : Server) → IsSubmitted op → submit_refusal setup g op s ≡ None → OpFits setup op
unfolding submit_refusal range_of
submitted_op setup is g (Write range payload) s asked none =
    let first = refuse_none (is_mark (Write range payload) && setup.format == 1) OldFormat _ none in
    let second = refuse_none (not (fits_in range setup.chunk)) BadRange _ first.1 in
    (asked.0, asked.1, asked.2, not_from _ second.0)
  where
    not_from : (b : Bool) → not b ≡ false → b ≡ true
    not_from true e = refl
    not_from false e = absurd (true≢false e)
submitted_op setup is g Noop s asked none = absurd asked
submitted_op setup is g Mark s asked none =
    let first = refuse_none (is_mark Mark && setup.format == 1) OldFormat _ none in
    elim is.format [ inl old ↦ absurd (eqb-false setup.format 1 first.0 old.0) | inr new ↦ new ]

-- what a leader holds above its checkpoint and below its next slot is its own
abbrev pub IsOwnOf : Server → Leader → Type 0
IsOwnOf s l = (slot : ℕ) (e : Entry) → s.durable.base < slot → slot < l.next → FinMap.get s.durable.log slot ≡ Some e → e.term ≡ s.durable.term

-- what the ballots tell of running servers
pub record Tells (g : Group) : Type 0 where
  pub number : (i : ℕ) (s : Server) → slice_get g.servers i ≡ Some (Running s) → s.number ≡ i
  pub own : (i : ℕ) (s : Server) (l : Leader) → slice_get g.servers i ≡ Some (Running s) → (s.role ≡ Merging l) ⊎ (s.role ≡ Serving l) → IsOwnOf s l
  pub unapplied : (i : ℕ) (s : Server) (slot : ℕ) (op : Op) → slice_get g.servers i ≡ Some (Running s) → FinMap.get s.in_hand slot ≡ Some op → has_applied s slot ≡ false

tells : (setup : Setup) (history : History) → Tells (replay setup history)
tells setup history = record {
  number = λ i s at. (t.follows.servers i (Running s) at).1.number;
  own = λ i s l at role. leads_own i s l at (lead_of i s l at role).0 (lead_of i s l at role).1;
  unapplied = λ i s slot op at job. ((t.follows.servers i (Running s) at).1.knows.in_hand slot op job).unapplied;
}
  where
    t : Told setup (opening setup) (opening_ballots setup) history
    t = told setup history

    lead_of : (i : ℕ) (s : Server) (l : Leader) → slice_get (replay setup history).servers i ≡ Some (Running s) → (s.role ≡ Merging l) ⊎ (s.role ≡ Serving l) → IsLeader (told setup history).ballots.ballot (told setup history).ballots.next i s.durable l × LeaderKnows (told setup history).ballots i s.durable.term l
    lead_of i s l at role =
        let b = (told setup history).ballots in
        let x = ((told setup history).follows.servers i (Running s) at).1 in
        elim role [
          | inl is ↦ (subst (RoleIs b.vote b.ballot b.next i s.durable) is x.role, subst (RoleKnows b i s.durable.term) is x.knows.role)
          | inr is ↦ (subst (RoleIs b.vote b.ballot b.next i s.durable) is x.role, (subst (RoleKnows b i s.durable.term) is x.knows.role).0)
        ]

    leads_own : (i : ℕ) (s : Server) (l : Leader) → slice_get (replay setup history).servers i ≡ Some (Running s) → IsLeader (told setup history).ballots.ballot (told setup history).ballots.next i s.durable l → LeaderKnows (told setup history).ballots i s.durable.term l → IsOwnOf s l
    leads_own i s l at lead knows slot e low high held =
        let z = told setup history in
        let h = z.follows.servers i (Running s) at in
        let y = own_entry z.ballots z.sound z.served i h.0 s h.1 l lead knows slot low high in
        let same : y.0 ≡ e = same_Some y.0 e (sym y.1 ∙ held) in
        subst (λ x. x.term ≡ s.durable.term) same (z.sound.made slot s.durable.term y.0 y.2).in_term

pub reads_low : (reads n : ℕ) (answer : Answer) → reads ≤ n → reads_after reads answer ≤ suc n
reads_low reads n Done le = omega arith
reads_low reads n (SlotIs slot) le = omega arith
reads_low reads n (TermIs term) le = omega arith
reads_low reads n (ReadIs number) le = omega arith
reads_low reads n (BaseIs base) le = omega arith
reads_low reads n (JobIs job) le = omega arith
reads_low reads n (Refused refusal) le = omega arith

-- the group before a step, with room for the step
record Wide (setup : Setup) (top n : ℕ) (g : Group) : Type 0 where
  servers : (i : ℕ) (c : Condition) → slice_get g.servers i ≡ Some c → (i < 3) × ConditionFits setup (suc n) (suc (top + g.elections)) c
  lives : (i : ℕ) (s : Server) → slice_get g.servers i ≡ Some (Running s) → s.life ≤ n
  packets : Every (λ sent. PacketFits setup (suc n) (suc (top + g.elections)) sent.packet) g.packets
  elections : g.elections ≤ 64
  reads : g.reads ≤ n

widened : (setup : Setup) (top n : ℕ) (g : Group) (elections : ℕ) → g.elections ≤ elections → elections ≤ 64 → FitsFrom setup top n g → Wide setup top n (record g { elections = elections })
widened setup top n g elections more few f = record {
  servers = λ i c at. let x = f.servers i c at in (x.0, condition_more setup n (suc n) (suc (top + g.elections)) (suc (top + elections)) (omega arith) (omega arith) c x.1);
  lives = λ i s at. (f.servers i (Running s) at).1.life;
  packets = every_more (λ sent. PacketFits setup n (suc (top + g.elections)) sent.packet) (λ sent. PacketFits setup (suc n) (suc (top + elections)) sent.packet) (λ sent is. packet_more setup n (suc n) (suc (top + g.elections)) (suc (top + elections)) (omega arith) (omega arith) sent.packet is) g.packets f.packets;
  elections = few;
  reads = f.reads;
}

module _ (setup : Setup) (top n : ℕ) (g : Group) (wide : Wide setup top n g) where
  idle : FitsFrom setup top (suc n) g
  idle = record { servers = wide.servers; packets = wide.packets; elections = wide.elections; reads = omega (arith, wide.reads) }

  changed_server : (i : ℕ) (c : Condition) → i < 3 → ConditionFits setup (suc n) (suc (top + g.elections)) c → (j : ℕ) (d : Condition) → slice_get (slice_set g.servers i c) j ≡ Some d → (j < 3) × ConditionFits setup (suc n) (suc (top + g.elections)) d
  changed_server i c below is j d at =
      elim (set_cases g.servers i c j d at) [
        | inl here ↦ (subst (λ k. k < 3) (sym here.0) below, subst (ConditionFits setup (suc n) (suc (top + g.elections))) here.1 is)
        | inr there ↦ wide.servers j d there.1
      ]

  changed : (i : ℕ) (c : Condition) → i < 3 → ConditionFits setup (suc n) (suc (top + g.elections)) c → FitsFrom setup top (suc n) (record g { servers = slice_set g.servers i c })
  changed i c below is = record { servers = changed_server i c below is; packets = wide.packets; elections = wide.elections; reads = omega (arith, wide.reads) }

  settled_fits : (s : Server) → ServerFits setup (suc n) (suc (top + g.elections)) s → ServerFits setup (suc n) (suc (top + g.elections)) (settled s)
  unfolding settled
  settled_fits s f = record {
    number = f.number;
    life = f.life;
    durable = f.durable;
    applied = f.applied;
    sectors = f.sectors;
    in_hand = f.in_hand;
    reads = every_filter (λ r. r.number ≤ suc n) _ s.reads (every_more (λ r. r.number ≤ suc n) _ (λ r low _. low) s.reads f.reads);
    role = f.role;
  }

  acted_fits : (i : ℕ) (o : Outcome) → i < 3 → Fits setup (suc n) (suc (top + g.elections)) o → FitsFrom setup top (suc n) (acted g i o)
  unfolding acted
  acted_fits i o below f = record {
    servers = changed_server i (Running (settled o.server)) below (settled_fits o.server f.server);
    packets = every_append (λ sent. PacketFits setup (suc n) (suc (top + g.elections)) sent.packet) g.packets (send o.packets) wide.packets (every_map (λ sent. PacketFits setup (suc n) (suc (top + g.elections)) sent.packet) _ o.packets f.packets);
    elections = wide.elections;
    reads = reads_low g.reads n o.answer wide.reads;
  }

  cut_off_fits : (i : ℕ) (s : Server) (o : Outcome) → slice_get g.servers i ≡ Some (Running s) → i < 3 → Fits setup (suc n) (suc (top + g.elections)) o → FitsFrom setup top (suc n) (cut_off g i s o)
  unfolding cut_off
  cut_off_fits i s o at below f = changed i (Stopped (suc s.life) s.durable o.server.durable) below (omega (arith, wide.lives i s at), (wide.servers i (Running s) at).1.durable, f.server.durable)

  ended_fits : (how : Ending) (i : ℕ) (s : Server) (o : Outcome) → slice_get g.servers i ≡ Some (Running s) → i < 3 → Fits setup (suc n) (suc (top + g.elections)) o ⊎ (how ≡ Untouched) → FitsFrom setup top (suc n) (step_ended how g i s o)
  ended_fits Whole i s o at below f = elim f [ inl fits ↦ acted_fits i o below fits | inr not_so ↦ absurd (grind (arith, not_so)) ]
  ended_fits CutOff i s o at below f = elim f [ inl fits ↦ cut_off_fits i s o at below fits | inr not_so ↦ absurd (grind (arith, not_so)) ]
  ended_fits Missed i s o at below f = idle
  ended_fits Untouched i s o at below f = idle

  step_fits : (how : Ending) (i : ℕ) (o : Option Condition) (rule : Server → Outcome) → slice_get g.servers i ≡ o → ((s : Server) → o ≡ Some (Running s) → Fits setup (suc n) (suc (top + g.elections)) (rule s) ⊎ (how ≡ Untouched)) → FitsFrom setup top (suc n) (server_step_of how g i o rule)
  step_fits how i (Some (Running s)) rule at f = ended_fits how i s (rule s) at (wide.servers i (Running s) at).0 (f s refl)
  step_fits how i (Some (Stopped life before after)) rule at f = idle
  step_fits how i (Some Unformatted) rule at f = idle
  step_fits how i None rule at f = idle

  server_fits : (how : Ending) (i : ℕ) (rule : Server → Outcome) → ((s : Server) → slice_get g.servers i ≡ Some (Running s) → Fits setup (suc n) (suc (top + g.elections)) (rule s) ⊎ (how ≡ Untouched)) → FitsFrom setup top (suc n) (at_server how g i rule)
  server_fits how i rule f = step_fits how i (slice_get g.servers i) rule refl f

  only_fits : (how : Ending) (later : Group) → FitsFrom setup top (suc n) later → FitsFrom setup top (suc n) (only_whole how g later)
  only_fits Whole later f = f
  only_fits CutOff later f = idle
  only_fits Missed later f = idle
  only_fits Untouched later f = idle

wide_of : (setup : Setup) (top n : ℕ) (g : Group) → FitsFrom setup top n g → Wide setup top n g
wide_of setup top n g f = widened setup top n g g.elections (le_refl _) f.elections f

module _ (setup : Setup) (top n : ℕ) (g : Group) (fits : FitsFrom setup top n g) where
  wide : Wide setup top n g
  wide = wide_of setup top n g fits

  wider : (d : Durable) → DurableFits setup n (suc (top + g.elections)) d → DurableFits setup (suc n) (suc (top + g.elections)) d
  wider d f = durable_more setup n (suc n) (suc (top + g.elections)) (suc (top + g.elections)) (omega arith) (le_refl _) d f

  -- Restart
  renewed_fits : (d : Durable) → DurableFits setup n (suc (top + g.elections)) d → DurableFits setup (suc n) (suc (top + g.elections)) (renewed d)
  unfolding renewed stored
  renewed_fits d f =
      let more = wider d f in
      by_test (d.format == 1) (λ c. DurableFits setup (suc n) (suc (top + g.elections)) (if c then stored d (image_of (record d { generation = suc d.generation })) else d))
      (λ _. record { generation = omega (arith, f.generation); term = more.term; term_low = more.term_low; vote = more.vote; saved = more.saved; sectors = more.sectors })
      (λ _. more)

  restarted_fits : (i life : ℕ) (d : Durable) → i < 3 → life ≤ suc n → DurableFits setup (suc n) (suc (top + g.elections)) d → ServerFits setup (suc n) (suc (top + g.elections)) (restarted i life d)
  unfolding restarted
  restarted_fits i life d below low f = record {
    number = below;
    life = low;
    durable = f;
    applied = f.saved;
    sectors = f.sectors;
    in_hand = λ slot op at. absurd (none-some op (sym (get-empty nat_cmp slot) ∙ at));
    reads = tt;
    role = tt;
  }

  pub begun_fits : (how : Ending) (i life : ℕ) (d before later : Durable) → i < 3 → life ≤ n → DurableFits setup n (suc (top + g.elections)) d → DurableFits setup n (suc (top + g.elections)) before → DurableFits setup n (suc (top + g.elections)) later → FitsFrom setup top (suc n) (server_begun how g i life d before later)
  begun_fits Whole i life d before later below low f b l = changed setup top n g wide i (Running (restarted i (suc life) (renewed d))) below (restarted_fits i (suc life) (renewed d) below (omega (arith, low)) (renewed_fits d f))
  begun_fits CutOff i life d before later below low f b l = changed setup top n g wide i (Stopped (suc life) before later) below (omega (arith, low), wider before b, wider later l)
  begun_fits Missed i life d before later below low f b l = idle setup top n g wide
  begun_fits Untouched i life d before later below low f b l = idle setup top n g wide

  -- a server that begins over any state that fits
  pub over_fits : (i life : ℕ) (d : Durable) → i < 3 → life ≤ n → DurableFits setup n (suc (top + g.elections)) d → FitsFrom setup top (suc n) (record g { servers = slice_set g.servers i (Running (restarted i (suc life) d)) })
  over_fits i life d below low f = changed setup top n g wide i (Running (restarted i (suc life) d)) below (restarted_fits i (suc life) d below (omega (arith, low)) (wider d f))

  found_fits : (found : Bool) (before later : Durable) → DurableFits setup n (suc (top + g.elections)) before → DurableFits setup n (suc (top + g.elections)) later → DurableFits setup n (suc (top + g.elections)) (cond found later before)
  found_fits true before later b l = l
  found_fits false before later b l = b

  restart_fits : (how : Ending) (i : ℕ) (found : Bool) (o : Option Condition) → slice_get g.servers i ≡ o → FitsFrom setup top (suc n) (restart how g i found o)
  restart_fits how i found (Some (Running s)) at = let x = fits.servers i (Running s) at in begun_fits how i s.life s.durable s.durable s.durable x.0 x.1.life x.1.durable x.1.durable x.1.durable
  restart_fits how i found (Some (Stopped life before later)) at = let x = fits.servers i (Stopped life before later) at in begun_fits how i life (cond found later before) before later x.0 x.1.0 (found_fits found before later x.1.1 x.1.2) x.1.1 x.1.2
  restart_fits how i found (Some Unformatted) at = idle setup top n g wide
  restart_fits how i found None at = idle setup top n g wide

  stop_fits : (i : ℕ) (o : Option Condition) → slice_get g.servers i ≡ o → FitsFrom setup top (suc n) (stopped g i o)
  stop_fits i (Some (Running s)) at =
      let x = fits.servers i (Running s) at in
      changed setup top n g wide i (Stopped (suc s.life) s.durable s.durable) x.0 (omega (arith, x.1.life), wider s.durable x.1.durable, wider s.durable x.1.durable)
  stop_fits i (Some (Stopped life before later)) at = idle setup top n g wide
  stop_fits i (Some Unformatted) at = idle setup top n g wide
  stop_fits i None at = idle setup top n g wide

  -- Claim
  claimed_entry : (s : Server) → ServerFits setup (suc n) (suc (top + g.elections)) s → (slot : ℕ) (o : Option Entry) → FinMap.get s.durable.log slot ≡ o → is_claimable s o slot ≡ true → SlotFits setup (suc n) s.durable.base slot × OpFits setup (op_of o)
  claimed_entry s f slot None at is = absurd (false≢true is)
  claimed_entry s f slot (Some e) at is = let x = f.durable.vote.log slot e at in ((x.is_above, x.within, omega (arith, x.fits.slot_low, x.in_slot)), x.fits.op)

  claimed_fits : (s : Server) → ServerFits setup (suc n) (suc (top + g.elections)) s → (slot : ℕ) → is_claimable s (FinMap.get s.durable.log slot) slot ≡ true → ServerFits setup (suc n) (suc (top + g.elections)) (claimed s slot)
  unfolding claimed op_at
  claimed_fits s f slot is =
      let job = claimed_entry s f slot (FinMap.get s.durable.log slot) refl is in
      record {
        number = f.number;
        life = f.life;
        durable = f.durable;
        applied = f.applied;
        sectors = f.sectors;
        in_hand = λ k op at. elim (insert_cases s.in_hand slot (op_of (FinMap.get s.durable.log slot)) k op at) [
          | inl here ↦ (subst (SlotFits setup (suc n) s.durable.base) (sym here.0) job.0, subst (OpFits setup) here.1 job.1)
          | inr there ↦ f.in_hand k op there.1
        ];
        reads = f.reads;
        role = f.role;
      }

  claimable_there : (window : ℕ) (s : Server) (slot : ℕ) → claimable window s ≡ Some slot → is_claimable s (FinMap.get s.durable.log slot) slot ≡ true
  unfolding claimable
  claimable_there window s slot is = found_passes (λ k. is_claimable s (FinMap.get s.durable.log k) k) (range_with_len (suc s.durable.base) window) slot is

  claim_at_fits : (window i slot : ℕ) (c : Option Condition) → slice_get g.servers i ≡ c → least_claim window c ≡ Some slot → FitsFrom setup top (suc n) (claim_at g i c (Some slot))
  claim_at_fits window i slot (Some (Running s)) at is =
      let x = wide.servers i (Running s) at in
      changed setup top n g wide i (Running (claimed s slot)) x.0 (claimed_fits s x.1 slot (claimable_there window s slot is))
  claim_at_fits window i slot (Some (Stopped life before later)) at is = idle setup top n g wide
  claim_at_fits window i slot (Some Unformatted) at is = idle setup top n g wide
  claim_at_fits window i slot None at is = idle setup top n g wide

  claim_or_fits : (window i : ℕ) (o : Option ℕ) (rest : Group) → least_claim window (slice_get g.servers i) ≡ o → FitsFrom setup top (suc n) rest → FitsFrom setup top (suc n) (claim_or g i o rest)
  claim_or_fits window i None rest is f = f
  claim_or_fits window i (Some slot) rest is f = claim_at_fits window i slot (slice_get g.servers i) refl is

  claim_fits : (window : ℕ) (is : List ℕ) → FitsFrom setup top (suc n) (first_claim window g is)
  claim_fits window [] = idle setup top n g wide
  claim_fits window (i ∷ is) = claim_or_fits window i (least_claim window (slice_get g.servers i)) (first_claim window g is) refl (claim_fits window is)

  -- packets
  with_fits : (k : ℕ) (p q : Sent) → slice_get g.packets k ≡ Some p → q.packet ≡ p.packet → Wide setup top n (with_sent g k q)
  with_fits k p q at same = record {
    servers = wide.servers;
    lives = wide.lives;
    packets = every_set (λ sent. PacketFits setup (suc n) (suc (top + g.elections)) sent.packet) g.packets k q wide.packets
        (subst (PacketFits setup (suc n) (suc (top + g.elections))) (sym same) (every_get (λ sent. PacketFits setup (suc n) (suc (top + g.elections)) sent.packet) g.packets k p wide.packets at));
    elections = wide.elections;
    reads = wide.reads;
  }

  delivery_fits : (how : Ending) (k : ℕ) (p : Sent) → slice_get g.packets k ≡ Some p → Wide setup top n (delivered_in how g k p)
  delivery_fits Whole k p at = with_fits k p _ at refl
  delivery_fits CutOff k p at = with_fits k p _ at refl
  delivery_fits Missed k p at = with_fits k p _ at refl
  delivery_fits Untouched k p at = wide

  delivery_servers : (how : Ending) (k : ℕ) (p : Sent) → (delivered_in how g k p).servers ≡ g.servers
  delivery_servers Whole k p = refl
  delivery_servers CutOff k p = refl
  delivery_servers Missed k p = refl
  delivery_servers Untouched k p = refl

  delivery_elections : (how : Ending) (k : ℕ) (p : Sent) → (delivered_in how g k p).elections ≡ g.elections
  delivery_elections Whole k p = refl
  delivery_elections CutOff k p = refl
  delivery_elections Missed k p = refl
  delivery_elections Untouched k p = refl

  lost_fits : (k : ℕ) (o : Option Sent) → slice_get g.packets k ≡ o → FitsFrom setup top (suc n) (lost g k o)
  lost_fits k None at = idle setup top n g wide
  lost_fits k (Some p) at = idle setup top n (with_sent g k (record p { lost = true })) (with_fits k p _ at refl)

  deliver_fits : Tells g → (how : Ending) (k : ℕ) (o : Option Sent) → slice_get g.packets k ≡ o → FitsFrom setup top (suc n) (packet_delivered setup how g k o)
  unfolding on_packet
  deliver_fits known how k None at = idle setup top n g wide
  deliver_fits known how k (Some p) at =
      let z = delivered_in how g k p in
      let f = every_get (λ sent. PacketFits setup n (suc (top + g.elections)) sent.packet) g.packets k p fits.packets at in
      by_test p.lost (λ c. FitsFrom setup top (suc n) (if c then g else at_server how z p.packet.to (λ s. on_packet setup s p.packet)))
      (λ _. idle setup top n g wide)
      (λ _. server_fits setup top n z (delivery_fits how k p at) how p.packet.to (λ s. on_packet setup s p.packet) (λ s runs.
      let at_s = ap (λ x. slice_get x p.packet.to) (sym (delivery_servers how k p)) ∙ runs in
      inl (subst (λ t. Fits setup (suc n) (suc (top + t)) (on_packet setup s p.packet)) (sym (delivery_elections how k p))
      (message_fits setup n (suc (top + g.elections)) s (fits.servers p.packet.to (Running s) at_s).1 p.packet.from p.packet.term p.packet.body f.from (λ same. f.apart (sym same ∙ known.number p.packet.to s at_s)) f.term f.term_low f.body))))

  at_fits : (i : ℕ) (s : Server) → slice_get g.servers i ≡ Some (Running s) → ServerFits setup n (suc (top + g.elections)) s
  at_fits i s at = (fits.servers i (Running s) at).1

  raised : {o : Outcome} → Fits setup (suc n) (suc (suc (top + g.elections))) o → Fits setup (suc n) (suc (top + suc g.elections)) o
  raised {o} f = let same : suc (suc (top + g.elections)) ≡ suc (top + suc g.elections) = omega arith in subst (λ t. Fits setup (suc n) t o) same f

  -- an election that counts is not beyond the last
  election_next : (how : Ending) (i : ℕ) → ((s : Server) → slice_get g.servers i ≡ Some (Running s) → (suc g.elections ≤ 64) ⊎ (how ≡ Untouched)) → ((how ≡ Whole) ⊎ (how ≡ CutOff) → (s : Server) × (slice_get g.servers i ≡ Some (Running s))) → FitsFrom setup top (suc n) (at_server how (counted_election how g) i on_elect)
  election_next Whole i few runs =
      let s = runs (inl refl) in
      elim (few s.0 s.1) [
        | inl low ↦ server_fits setup top n (record g { elections = suc g.elections }) (widened setup top n g (suc g.elections) (omega arith) low fits) Whole i on_elect (λ z at. inl (raised (elect_fits setup n (suc (top + g.elections)) z (at_fits i z at))))
        | inr not_so ↦ absurd (grind (arith, not_so))
      ]
  election_next CutOff i few runs =
      let s = runs (inr refl) in
      elim (few s.0 s.1) [
        | inl low ↦ server_fits setup top n (record g { elections = suc g.elections }) (widened setup top n g (suc g.elections) (omega arith) low fits) CutOff i on_elect (λ z at. inl (raised (elect_fits setup n (suc (top + g.elections)) z (at_fits i z at))))
        | inr not_so ↦ absurd (grind (arith, not_so))
      ]
  election_next Missed i few runs = missed (slice_get g.servers i)
    where
      missed : (o : Option Condition) → FitsFrom setup top (suc n) (server_step_of Missed g i o on_elect)
      missed (Some (Running s)) = idle setup top n g wide
      missed (Some (Stopped life before later)) = idle setup top n g wide
      missed (Some Unformatted) = idle setup top n g wide
      missed None = idle setup top n g wide
  election_next Untouched i few runs = untouched (slice_get g.servers i)
    where
      untouched : (o : Option Condition) → FitsFrom setup top (suc n) (server_step_of Untouched g i o on_elect)
      untouched (Some (Running s)) = idle setup top n g wide
      untouched (Some (Stopped life before later)) = idle setup top n g wide
      untouched (Some Unformatted) = idle setup top n g wide
      untouched None = idle setup top n g wide

submit_next : (setup : Setup) → IsSetup setup → (top n : ℕ) (g : Group) (fits : FitsFrom setup top n g) (i : ℕ) (op : Op) (answer : Answer) → IsSubmitted op → IsAnswer setup g (Submit i op) answer → (s : Server) → slice_get g.servers i ≡ Some (Running s) → Fits setup (suc n) (suc (top + g.elections)) (on_submit setup s op s.role) ⊎ (ending answer ≡ Untouched)
unfolding answer_to may_halt
submit_next setup is top n g fits i op answer asked legal s at =
    let turn = submit_turn setup g op in
    let here : (answer ≡ answer_at (Some (Running s)) turn) ⊎ ((can_halt (Some (Running s)) turn ≡ true) × (answer ≡ Refused Halted)) =
    subst (λ c. (answer ≡ answer_at c turn) ⊎ ((can_halt c turn ≡ true) × (answer ≡ Refused Halted))) at legal in
    elim (stands_or_silent turn s answer (submit_silent setup g op s) here) [
      | inl none ↦ inl (submit_fits setup n (suc (top + g.elections)) s (fits.servers i (Running s) at).1 op (submitted_op setup is g op s asked none) s.role (fits.servers i (Running s) at).1.role)
      | inr silent ↦ inr silent
    ]

elect_few : (setup : Setup) (n : ℕ) (g : Group) (i : ℕ) (answer : Answer) → IsAnswer setup g (Elect i) answer → (s : Server) → slice_get g.servers i ≡ Some (Running s) → (suc g.elections ≤ 64) ⊎ (ending answer ≡ Untouched)
unfolding answer_to may_halt elect_refusal most_elections
elect_few setup n g i answer legal s at =
    let turn = elect_turn g in
    let here : (answer ≡ answer_at (Some (Running s)) turn) ⊎ ((can_halt (Some (Running s)) turn ≡ true) × (answer ≡ Refused Halted)) =
    subst (λ c. (answer ≡ answer_at c turn) ⊎ ((can_halt c turn ≡ true) × (answer ≡ Refused Halted))) at legal in
    elim (stands_or_silent turn s answer (elect_silent g s) here) [
      | inl none ↦ inl (leb-false 64 g.elections (refuse_none (nat_le 64 g.elections) ElectionsFull (room_refusal g (on_elect s)) none).0)
      | inr silent ↦ inr silent
    ]

-- an answer of a server that does not run
stopped_answer : (turn : ServerTurn) (answer : Answer) → (answer ≡ Refused Down) ⊎ ((false ≡ true) × (answer ≡ Refused Halted)) → (ending answer ≡ Whole) ⊎ (ending answer ≡ CutOff) → ⊥
stopped_answer turn answer is how =
    elim is [
      | inl down ↦ elim how [ inl whole ↦ grind (arith, sym (ap ending down) ∙ whole) | inr cut ↦ grind (arith, sym (ap ending down) ∙ cut) ]
      | inr halted ↦ false≢true halted.0
    ]

elect_runs : (setup : Setup) (g : Group) (i : ℕ) (answer : Answer) → IsAnswer setup g (Elect i) answer → (ending answer ≡ Whole) ⊎ (ending answer ≡ CutOff) → (s : Server) × (slice_get g.servers i ≡ Some (Running s))
unfolding answer_to may_halt
elect_runs setup g i answer legal how = by_condition (slice_get g.servers i) refl legal
  where
    by_condition : (o : Option Condition) → slice_get g.servers i ≡ o → (answer ≡ answer_at o (elect_turn g)) ⊎ ((can_halt o (elect_turn g) ≡ true) × (answer ≡ Refused Halted)) → (s : Server) × (slice_get g.servers i ≡ Some (Running s))
    by_condition (Some (Running s)) at is = (s, at)
    by_condition (Some (Stopped life before later)) at is = absurd (stopped_answer (elect_turn g) answer is how)
    by_condition (Some Unformatted) at is = absurd (stopped_answer (elect_turn g) answer is how)
    by_condition None at is = absurd (stopped_answer (elect_turn g) answer is how)

-- every event
pub happens_fits : (setup : Setup) → IsSetup setup → (top n : ℕ) (g : Group) → Tells g → FitsFrom setup top n g → (claims : List Claimed) (event : Event) (answer : Answer) → MayHappen claims event → IsAnswer setup g event answer → FitsFrom setup top (suc n) (happens setup g event (ending answer))
unfolding happens
happens_fits setup is top n g known fits claims (Submit i op) answer asked legal = server_fits setup top n g (wide_of setup top n g fits) (ending answer) i (λ s. on_submit setup s op s.role) (submit_next setup is top n g fits i op answer asked.1 legal)
happens_fits setup is top n g known fits claims (Fetch i range) answer asked legal = server_fits setup top n g (wide_of setup top n g fits) (ending answer) i (λ s. on_fetch s range g.reads s.role) (λ s at. inl (fetch_fits setup n (suc (top + g.elections)) s (at_fits setup top n g fits i s at) range g.reads fits.reads s.role))
happens_fits setup is top n g known fits claims (Deliver k) answer asked legal = deliver_fits setup top n g fits known (ending answer) k (slice_get g.packets k) refl
happens_fits setup is top n g known fits claims (Lose k) answer asked legal = only_fits setup top n g (wide_of setup top n g fits) (ending answer) _ (lost_fits setup top n g fits k (slice_get g.packets k) refl)
happens_fits setup is top n g known fits claims (Elect i) answer asked legal = election_next setup top n g fits (ending answer) i (elect_few setup n g i answer legal) (elect_runs setup g i answer legal)
happens_fits setup is top n g known fits claims (Resend i) answer asked legal = server_fits setup top n g (wide_of setup top n g fits) (ending answer) i (λ s. on_resend s s.role) (λ s at. inl (resend_fits setup n (suc (top + g.elections)) s (at_fits setup top n g fits i s at) s.role (λ l role. known.own i s l at role)))
happens_fits setup is top n g known fits claims (Stop i) answer asked legal = only_fits setup top n g (wide_of setup top n g fits) (ending answer) _ (stop_fits setup top n g fits i (slice_get g.servers i) refl)
happens_fits setup is top n g known fits claims (Restart i found) answer asked legal = restart_fits setup top n g fits (ending answer) i found (slice_get g.servers i) refl
happens_fits setup is top n g known fits claims Claim answer asked legal = only_fits setup top n g (wide_of setup top n g fits) (ending answer) _ (claim_fits setup top n g fits setup.window (0 ∷ 1 ∷ 2 ∷ []))
happens_fits setup is top n g known fits claims (Finish i life slot) answer asked legal = server_fits setup top n g (wide_of setup top n g fits) (ending answer) i (λ s. on_finish s life slot) (λ s at. inl (finish_fits setup n (suc (top + g.elections)) s (at_fits setup top n g fits i s at) life slot))
happens_fits setup is top n g known fits claims (GiveBack i life slot) answer asked legal = server_fits setup top n g (wide_of setup top n g fits) (ending answer) i (λ s. on_give_back s life slot) (λ s at. inl (give_back_fits setup n (suc (top + g.elections)) s (at_fits setup top n g fits i s at) life slot))
happens_fits setup is top n g known fits claims (Checkpoint i) answer asked legal = server_fits setup top n g (wide_of setup top n g fits) (ending answer) i on_checkpoint (λ s at. inl (checkpoint_fits setup n (suc (top + g.elections)) s (at_fits setup top n g fits i s at) (λ slot op job. known.unapplied i s slot op at job)))

zeros_length : (n : ℕ) → length (replicate n zero_sector) ≡ n
zeros_length zero = refl
zeros_length (suc n) = ap suc (zeros_length n)

bytes_length : {X : Type 0} → (n : ℕ) (x : X) → length (replicate n x) ≡ n
bytes_length zero x = refl
bytes_length (suc n) x = ap suc (bytes_length n x)

zeros_bytes : (n : ℕ) → Every (λ bytes. length bytes ≡ 512) (replicate n zero_sector)
unfolding zero_sector
zeros_bytes zero = tt
zeros_bytes (suc n) = (bytes_length {X = ℕ} 512 0, zeros_bytes n)

opening_disk_fits : (setup : Setup) → DurableFits setup 0 1 (opening_disk setup)
unfolding opening_disk
opening_disk_fits setup = record {
  generation = le_refl 0;
  term = le_refl 1;
  term_low = le_refl 1;
  vote = record { base = le_refl 0; log = λ slot e at. absurd (none-some e (sym (get-empty nat_cmp slot) ∙ at)); starts = λ term first at. absurd (none-some first (sym (get-empty nat_cmp term) ∙ at)) };
  saved = λ slot at. absurd (false≢true (sym (contains-empty slot) ∙ at));
  sectors = (zeros_length setup.chunk, zeros_bytes setup.chunk);
}

restarted_opening : (setup : Setup) (i : ℕ) → i < 3 → ServerFits setup 0 1 (restarted i 0 (opening_disk setup))
unfolding restarted
restarted_opening setup i below =
    let d = opening_disk_fits setup in
    record { number = below; life = le_refl 0; durable = d; applied = d.saved; sectors = d.sectors; in_hand = λ slot op at. absurd (none-some op (sym (get-empty nat_cmp slot) ∙ at)); reads = tt; role = tt }

opening_leader_fits : (setup : Setup) → ServerFits setup 0 1 (first_leader setup)
unfolding first_leader opening_disk restarted
opening_leader_fits setup =
    let f = restarted_opening setup 0 (omega arith) in
    record {
      number = f.number;
      life = f.life;
      durable = f.durable;
      applied = f.applied;
      sectors = f.sectors;
      in_hand = f.in_hand;
      reads = f.reads;
      role = record {
        first = le_refl 1;
        first_low = le_refl 1;
        next_low = le_refl 1;
        above_base = le_refl 1;
        b0_low = le_refl 0;
        acks = λ slot set at. absurd (none-some set (sym (get-empty nat_cmp slot) ∙ at));
        known = λ j k at. absurd (none-some k (sym (get-empty nat_cmp j) ∙ at));
      };
    }

pub opening_fits : (setup : Setup) → FitsFrom setup 0 0 (opening setup)
unfolding opening
opening_fits setup = record { servers = λ i c at. let x = each i c at in (x.0, x.1); packets = tt; elections = omega arith; reads = le_refl 0 }
  where
    starts : (i : ℕ) (s : Server) → ServerFits setup 0 1 s → ConditionFits setup 0 1 (unless_failed setup i s)
    starts i s f = by_test (list_any (λ j. j == i) setup.failed) (λ c. ConditionFits setup 0 1 (if c then Unformatted else Running s)) (λ _. tt) (λ _. f)

    each : (i : ℕ) (c : Condition) → slice_get (opening setup).servers i ≡ Some c → (i < 3) × ConditionFits setup 0 1 c
    each zero c at = (omega arith, subst (ConditionFits setup 0 1) (same_Some _ c at) (starts 0 (first_leader setup) (opening_leader_fits setup)))
    each (suc zero) c at = (omega arith, subst (ConditionFits setup 0 1) (same_Some _ c at) (starts 1 (restarted 1 0 (opening_disk setup)) (restarted_opening setup 1 (omega arith))))
    each (suc (suc zero)) c at = (omega arith, subst (ConditionFits setup 0 1) (same_Some _ c at) (starts 2 (restarted 2 0 (opening_disk setup)) (restarted_opening setup 2 (omega arith))))
    each (suc (suc (suc i))) c at = absurd (none-some c at)

fits_from : (setup : Setup) → IsSetup setup → (rest done : History) (claims : List Claimed) → FitsFrom setup 0 (length done) (replay setup done) → IsLegalFrom setup (replay setup done) claims rest → FitsFrom setup 0 (length (done ++ rest)) (replay setup (done ++ rest))
fits_from setup is [] done claims fits legal = subst (λ hs. FitsFrom setup 0 (length hs) (replay setup hs)) (sym (append-nil done)) fits
fits_from setup is (h ∷ hs) done claims fits legal =
    let longer = run_longer setup (opening setup) done h in
    let more : suc (length done) ≡ length (done ++ h ∷ []) = omega (arith, length-append done (h ∷ [])) in
    let next = happens_fits setup is 0 (length done) (replay setup done) (tells setup done) fits claims h.event h.answer legal.0.asked legal.0.answered in
    let now = subst (λ k. FitsFrom setup 0 k (replay setup (done ++ h ∷ []))) more (subst (FitsFrom setup 0 (suc (length done))) (sym longer) next) in
    let rest = subst (λ g. IsLegalFrom setup g (claims_after claims h.event h.answer) hs) (sym longer) legal.1 in
    subst (λ x. FitsFrom setup 0 (length x) (replay setup x)) (append_assoc done (h ∷ []) hs) (fits_from setup is hs (done ++ h ∷ []) (claims_after claims h.event h.answer) now rest)

-- every legal history
pub legal_fits : (setup : Setup) (history : History) → IsLegal setup history → GroupFits setup (length history) (replay setup history)
legal_fits setup history is = plainly (fits_from setup is.is_setup history [] [] (opening_fits setup) is.legal)
  where
    plainly : {n : ℕ} {g : Group} → FitsFrom setup 0 n g → GroupFits setup n g
    plainly {n} {g} f =
        let same : 0 + g.elections ≡ g.elections = omega arith in
        record {
          servers = λ i c at. let x = f.servers i c at in (x.0, subst (λ e. ConditionFits setup n (suc e) c) same x.1);
          packets = subst (λ e. Every (λ sent. PacketFits setup n (suc e) sent.packet) g.packets) same f.packets;
          elections = f.elections;
          reads = f.reads;
        }
