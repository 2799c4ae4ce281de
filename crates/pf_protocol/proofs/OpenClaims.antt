-- Open claims are in hand.
use Rattle.std.proofs.Common.{◌≡◌, ℕ, suc, ◌+◌, ◌<◌, ◌≤◌, ◌≢◌, ◌⊎◌, inl, inr, Bool, true, false, cond, not, ◌&&◌, ◌||◌, ◌==◌, if◌then◌else◌, List, [], ◌∷◌, Option, Some, None, is_some, nat_lt, nat_le, slice_get, slice_set, arith, refl, sym, ap, subst, ◌∙◌}
use Rattle.std.specs.List.{range_with_len}
use Rattle.std.specs.FinMap
use Rattle.std.specs.FinMap.{get-remove}
use Rattle.std.specs.Cmp.{nat_cmp_total}
use Rattle.std.specs.Ordering.{nat_cmp, eq_by_cmp}
use Rattle.std.proofs.lemmas.Bool.Decides.{nat_tests}
use Rattle.std.proofs.lemmas.Bool.{cond-false, eqb-true, eq-eqb, ne_eqb, and_parts, and_from, not-true, false≢true, true≢false, cases_eq}
use Rattle.std.proofs.lemmas.Option.{same_Some, none-some}
use Rattle.pf_base.specs.Span.{Span}
use Rattle.pf_entry.specs.Maps.{Map}
use Rattle.pf_entry.specs.Lists.{Every}
use Rattle.pf_entry.proofs.Lists.{every_more, every_filter, set_cases, set_there, found_passes}
use Rattle.pf_entry.proofs.Maps.{get_inserted, get_apart}
use Rattle.pf_entry.specs.declared.ops.Op.{Op}
use Rattle.pf_entry.specs.declared.entries.Entry.{Entry}
use Rattle.pf_entry.specs.declared.entries.VoteLog.{VoteLog}
use Rattle.pf_entry.specs.declared.packets.Body.{Body}
use Rattle.pf_entry.specs.declared.packets.Body.TheVariants.{RequestVote, Vote, Accept, Ack, Nack, Commit, Probe, ProbeOk, Image}
use Rattle.pf_entry.specs.Records.{Durable, holds}
use Rattle.pf_entry.proofs.Cases.{by_test}
use Rattle.pf_protocol.specs.declared.answers.Answer.{Answer}
use Rattle.pf_protocol.specs.declared.answers.Answer.TheVariants.{Refused}
use Rattle.pf_protocol.specs.declared.answers.Refusal.TheVariants.{Stale}
use Rattle.pf_protocol.specs.declared.events.Event.{Event}
use Rattle.pf_protocol.specs.declared.events.Event.TheVariants.{Submit, Fetch, Deliver, Lose, Elect, Resend, Stop, Restart, Claim, Finish, GiveBack, Checkpoint}
use Rattle.pf_protocol.specs.Servers.{Setup, Role, Follower, Candidate, Merging, Serving, Server, Condition, Running, Stopped, Unformatted, upto}
use Rattle.pf_protocol.specs.Outcomes.{Outcome, sends, only_answers, raise_term}
use Rattle.pf_protocol.specs.Leading.{submitted, on_submit, on_fetch, on_elect, on_resend, merged, on_vote, commit_own, commit, on_ack, on_probe_ok, op_at}
use Rattle.pf_protocol.specs.Following.{meets_term, on_request_vote, accepted, on_accept, on_nack, on_commit, on_probe, installed, on_image}
use Rattle.pf_protocol.specs.Rows.{on_message, on_packet, settled}
use Rattle.pf_protocol.specs.Saving.{renewed, restarted, is_short_of, trimmed, on_checkpoint, claimed, claimable, is_claimable, applied_op, on_finish, on_give_back}
use Rattle.pf_protocol.specs.Groups.{Sent, Group, Ending, Whole, CutOff, Missed, Untouched, acted, cut_off, step_ended, server_step_of, at_server, delivered_in, packet_delivered, lost, stopped, server_begun, restart, least_claim, claim_at, claim_or, first_claim, only_whole, counted_election, ending, happens, opening}
use Rattle.pf_protocol.specs.Histories.{History, run, replay}
use Rattle.pf_protocol.specs.Answers.{Claimed, is_claim, claims_with, claims_without, claims_after, claims_of, ClaimIsOpen, claim_answer, claim_answer_at, answer_to, may_halt, IsAnswer, IsLegalFrom, IsLegal}

-- a step keeps the jobs in hand, or begins another life
abbrev Keeps : Server → Server → Type 0
Keeps s z = ((z.life ≡ s.life) × (z.in_hand ≡ s.in_hand)) ⊎ (s.life < z.life)

either_keeps : (s : Server) (c : Bool) (x y : Outcome) → Keeps s x.server → Keeps s y.server → Keeps s (if c then x else y).server
either_keeps s true x y f g = f
either_keeps s false x y f g = g

module _ (s : Server) where
  kept : Keeps s s
  kept = inl (refl, refl)

  met : (term : ℕ) → Keeps s (meets_term s term)
  met term = by_test (nat_lt s.durable.term term) (λ c. Keeps s (if c then raise_term s term else s)) (λ _. inl (refl, refl)) (λ _. kept)

  submit_keeps : (setup : Setup) (op : Op) (role : Role) → Keeps s (on_submit setup s op role).server
  unfolding on_submit submitted
  submit_keeps setup op Follower = kept
  submit_keeps setup op (Candidate own) = kept
  submit_keeps setup op (Merging l) = kept
  submit_keeps setup op (Serving l) = either_keeps s (nat_lt (s.durable.base + setup.window) l.next) _ _ kept (inl (refl, refl))

  fetch_keeps : (range : Span) (number : ℕ) (role : Role) → Keeps s (on_fetch s range number role).server
  unfolding on_fetch
  fetch_keeps range number Follower = kept
  fetch_keeps range number (Candidate own) = kept
  fetch_keeps range number (Merging l) = kept
  fetch_keeps range number (Serving l) = inl (refl, refl)

  elect_keeps : Keeps s (on_elect s).server
  unfolding on_elect
  elect_keeps = inl (refl, refl)

  resend_keeps : (role : Role) → Keeps s (on_resend s role).server
  unfolding on_resend
  resend_keeps Follower = kept
  resend_keeps (Candidate own) = kept
  resend_keeps (Merging l) = kept
  resend_keeps (Serving l) = kept

  checkpoint_keeps : Keeps s (on_checkpoint s).server
  unfolding on_checkpoint trimmed
  checkpoint_keeps = either_keeps s (upto s == s.durable.base || is_short_of s.role (upto s)) _ _ kept (inl (refl, refl))

  vote_keeps : (term : ℕ) (vote : VoteLog) (role : Role) → Keeps s (on_vote s term vote role).server
  unfolding on_vote merged
  vote_keeps term vote Follower = kept
  vote_keeps term vote (Candidate own) = either_keeps s (term == s.durable.term && nat_le vote.base s.durable.base) _ _ (inl (refl, refl)) kept
  vote_keeps term vote (Merging l) = kept
  vote_keeps term vote (Serving l) = kept

  ack_keeps : (from term slot upto_there : ℕ) (role : Role) → Keeps s (on_ack s from term slot upto_there role).server
  unfolding on_ack commit_own
  ack_keeps from term slot upto_there Follower = kept
  ack_keeps from term slot upto_there (Candidate own) = kept
  ack_keeps from term slot upto_there (Merging l) = either_keeps s (term == s.durable.term) _ _ (inl (refl, refl)) kept
  ack_keeps from term slot upto_there (Serving l) = either_keeps s (term == s.durable.term) _ _ (inl (refl, refl)) kept

  probe_ok_keeps : (from term number upto_there : ℕ) (role : Role) → Keeps s (on_probe_ok s from term number upto_there role).server
  unfolding on_probe_ok
  probe_ok_keeps from term number upto_there Follower = kept
  probe_ok_keeps from term number upto_there (Candidate own) = kept
  probe_ok_keeps from term number upto_there (Merging l) = kept
  probe_ok_keeps from term number upto_there (Serving l) = either_keeps s (term == s.durable.term) _ _ (inl (refl, refl)) kept

  accept_keeps : (setup : Setup) (from : ℕ) (e : Entry) → Keeps s (on_accept setup s from e).server
  unfolding on_accept accepted
  accept_keeps setup from e =
      either_keeps s (nat_lt e.term s.durable.term) _ _ kept
      (either_keeps s (nat_le e.slot s.durable.base) _ _ (met e.term)
      (either_keeps s (nat_lt (s.durable.base + setup.window) e.slot) _ _ kept
      (either_keeps s (holds s.durable e.slot e.term) _ _ kept (inl (refl, refl)))))

  message_keeps : (setup : Setup) (from term : ℕ) (body : Body) → Keeps s (on_message setup s from term body).server
  unfolding on_message on_request_vote on_nack on_commit commit on_probe on_image installed
  message_keeps setup from term (RequestVote base) = either_keeps s (nat_le term s.durable.term || nat_lt base s.durable.base) _ _ kept (inl (refl, refl))
  message_keeps setup from term (Vote vote) = vote_keeps term vote s.role
  message_keeps setup from term (Accept e) = accept_keeps setup from e
  message_keeps setup from term (Ack slot upto_there) = ack_keeps from term slot upto_there s.role
  message_keeps setup from term Nack = met term
  message_keeps setup from term (Commit slot) = either_keeps s (holds s.durable slot term) _ _ (inl (refl, refl)) kept
  message_keeps setup from term (Probe number) = either_keeps s (nat_lt term s.durable.term) _ _ kept kept
  message_keeps setup from term (ProbeOk number upto_there) = probe_ok_keeps from term number upto_there s.role
  message_keeps setup from term (Image base applied sectors) =
      either_keeps s (nat_lt term s.durable.term) _ _ kept (either_keeps s (nat_le base (upto s)) _ _ (met term) (inr (omega arith)))

-- a claim at a server after its step
open_after : (s z : Server) (c : Claimed) → Keeps s z → (c.life ≤ s.life) × (c.life ≡ s.life → FinMap.get s.in_hand c.slot ≡ Some c.op) → (c.life ≤ z.life) × (c.life ≡ z.life → FinMap.get z.in_hand c.slot ≡ Some c.op)
open_after s z c keeps is =
    elim keeps [
      | inl kept ↦ (omega (arith, is.0, kept.0), λ same. ap (λ m. FinMap.get m c.slot) kept.1 ∙ is.1 (same ∙ kept.0))
      | inr later ↦ (omega (arith, is.0, later), λ same. absurd (omega (arith, is.0, later, same)))
    ]

module _ (servers : List Condition) (claims : List Claimed) (open_now : Every (ClaimIsOpen servers) claims) where
  -- a server runs on
  runs_on : (i : ℕ) (z : Server) (c : Claimed) → ClaimIsOpen servers c → (c.server ≡ i → (c.life ≤ z.life) × (c.life ≡ z.life → FinMap.get z.in_hand c.slot ≡ Some c.op)) → ClaimIsOpen (slice_set servers i (Running z)) c
  runs_on i z c is here = record {
    running = λ y at. elim (set_cases servers i (Running z) c.server (Running y) at) [
      | inl new ↦ let same : z ≡ y = same_running new.1 in subst (λ x. (c.life ≤ x.life) × (c.life ≡ x.life → FinMap.get x.in_hand c.slot ≡ Some c.op)) same (here new.0)
      | inr old ↦ is.running y old.1
    ];
    stopped = λ life before after at. elim (set_cases servers i (Running z) c.server (Stopped life before after) at) [
      | inl new ↦ absurd (grind (arith, new.1))
      | inr old ↦ is.stopped life before after old.1
    ];
  }
    where
      same_running : {x y : Server} → Running x ≡ Running y → x ≡ y
      same_running e = cc

  -- or stops
  stops : (i life : ℕ) (before after : Durable) (c : Claimed) → ClaimIsOpen servers c → (c.server ≡ i → c.life < life) → ClaimIsOpen (slice_set servers i (Stopped life before after)) c
  stops i life before after c is here = record {
    running = λ y at. elim (set_cases servers i (Stopped life before after) c.server (Running y) at) [
      | inl new ↦ absurd (grind (arith, new.1))
      | inr old ↦ is.running y old.1
    ];
    stopped = λ l b a at. elim (set_cases servers i (Stopped life before after) c.server (Stopped l b a) at) [
      | inl new ↦ let same : life ≡ l = same_life new.1 in subst (λ x. c.life < x) same (here new.0)
      | inr old ↦ is.stopped l b a old.1
    ];
  }
    where
      same_life : {l k : ℕ} {b a x y : Durable} → Stopped l b a ≡ Stopped k x y → l ≡ k
      same_life e = cc

  all_run_on : (i : ℕ) (s z : Server) → slice_get servers i ≡ Some (Running s) → Keeps s z → Every (ClaimIsOpen (slice_set servers i (Running z))) claims
  all_run_on i s z at keeps = every_more (ClaimIsOpen servers) (ClaimIsOpen (slice_set servers i (Running z)))
      (λ c is. runs_on i z c is (λ same. open_after s z c keeps (is.running s (ap (slice_get servers) same ∙ at)))) claims open_now

  all_stop : (i life : ℕ) (before after : Durable) → ((c : Claimed) → ClaimIsOpen servers c → c.server ≡ i → c.life < life) → Every (ClaimIsOpen (slice_set servers i (Stopped life before after))) claims
  all_stop i life before after low = every_more (ClaimIsOpen servers) (ClaimIsOpen (slice_set servers i (Stopped life before after))) (λ c is. stops i life before after c is (low c is)) claims open_now

  open_at : (i : ℕ) (s : Server) (c : Claimed) → slice_get servers i ≡ Some (Running s) → ClaimIsOpen servers c → c.server ≡ i → (c.life ≤ s.life) × (c.life ≡ s.life → FinMap.get s.in_hand c.slot ≡ Some c.op)
  open_at i s c at is same = is.running s (ap (slice_get servers) same ∙ at)

  ended_open : (how : Ending) (g : Group) (i : ℕ) (s : Server) (o : Outcome) → g.servers ≡ servers → slice_get servers i ≡ Some (Running s) → Keeps s o.server → Every (ClaimIsOpen (step_ended how g i s o).servers) claims
  unfolding acted settled cut_off
  ended_open Whole g i s o same at keeps = subst (λ x. Every (ClaimIsOpen (slice_set x i (Running (settled o.server)))) claims) (sym same) (all_run_on i s (settled o.server) at keeps)
  ended_open CutOff g i s o same at keeps = subst (λ x. Every (ClaimIsOpen (slice_set x i (Stopped (suc s.life) s.durable o.server.durable))) claims) (sym same)
      (all_stop i (suc s.life) s.durable o.server.durable (λ c is same_server. let x = open_at i s c at is same_server in omega (arith, x.0)))
  ended_open Missed g i s o same at keeps = subst (λ x. Every (ClaimIsOpen x) claims) (sym same) open_now
  ended_open Untouched g i s o same at keeps = subst (λ x. Every (ClaimIsOpen x) claims) (sym same) open_now

  step_open : (how : Ending) (g : Group) (i : ℕ) (c : Option Condition) (rule : Server → Outcome) → g.servers ≡ servers → slice_get servers i ≡ c → ((s : Server) → Keeps s (rule s).server) → Every (ClaimIsOpen (server_step_of how g i c rule).servers) claims
  step_open how g i (Some (Running s)) rule same at keeps = ended_open how g i s (rule s) same at (keeps s)
  step_open how g i (Some (Stopped life before after)) rule same at keeps = subst (λ x. Every (ClaimIsOpen x) claims) (sym same) open_now
  step_open how g i (Some Unformatted) rule same at keeps = subst (λ x. Every (ClaimIsOpen x) claims) (sym same) open_now
  step_open how g i None rule same at keeps = subst (λ x. Every (ClaimIsOpen x) claims) (sym same) open_now

  server_open : (how : Ending) (g : Group) (i : ℕ) (rule : Server → Outcome) → g.servers ≡ servers → ((s : Server) → Keeps s (rule s).server) → Every (ClaimIsOpen (at_server how g i rule).servers) claims
  server_open how g i rule same keeps = step_open how g i (slice_get g.servers i) rule same (ap (λ x. slice_get x i) (sym same)) keeps

  pub begun_open : (how : Ending) (g : Group) (i life : ℕ) (d before after : Durable) → g.servers ≡ servers → ((c : Claimed) → ClaimIsOpen servers c → c.server ≡ i → c.life ≤ life) → Every (ClaimIsOpen (server_begun how g i life d before after).servers) claims
  unfolding restarted
  begun_open Whole g i life d before after same low =
      subst (λ x. Every (ClaimIsOpen (slice_set x i (Running (restarted i (suc life) (renewed d))))) claims) (sym same)
      (every_more (ClaimIsOpen servers) (ClaimIsOpen (slice_set servers i (Running (restarted i (suc life) (renewed d))))) (λ c is. runs_on i (restarted i (suc life) (renewed d)) c is (λ same_server.
      let le = low c is same_server in
      (omega (arith, le), λ now. absurd (omega (arith, le, now))))) claims open_now)
  begun_open CutOff g i life d before after same low =
      subst (λ x. Every (ClaimIsOpen (slice_set x i (Stopped (suc life) before after))) claims) (sym same) (all_stop i (suc life) before after (λ c is same_server. let le = low c is same_server in omega (arith, le)))
  begun_open Missed g i life d before after same low = subst (λ x. Every (ClaimIsOpen x) claims) (sym same) open_now
  begun_open Untouched g i life d before after same low = subst (λ x. Every (ClaimIsOpen x) claims) (sym same) open_now

  -- over any state
  pub over_open : (g : Group) (i life : ℕ) (d : Durable) → g.servers ≡ servers → ((c : Claimed) → ClaimIsOpen servers c → c.server ≡ i → c.life ≤ life) → Every (ClaimIsOpen (slice_set g.servers i (Running (restarted i (suc life) d)))) claims
  unfolding restarted
  over_open g i life d same low =
      subst (λ x. Every (ClaimIsOpen (slice_set x i (Running (restarted i (suc life) d)))) claims) (sym same)
      (every_more (ClaimIsOpen servers) (ClaimIsOpen (slice_set servers i (Running (restarted i (suc life) d)))) (λ c is. runs_on i (restarted i (suc life) d) c is (λ same_server.
      let le = low c is same_server in
      (omega (arith, le), λ now. absurd (omega (arith, le, now))))) claims open_now)

  restart_open : (how : Ending) (g : Group) (i : ℕ) (found : Bool) (c : Option Condition) → g.servers ≡ servers → slice_get servers i ≡ c → Every (ClaimIsOpen (restart how g i found c).servers) claims
  restart_open how g i found (Some (Running s)) same at = begun_open how g i s.life s.durable s.durable s.durable same (λ c is same_server. (open_at i s c at is same_server).0)
  restart_open how g i found (Some (Stopped life before after)) same at = begun_open how g i life (cond found after before) before after same (λ c is same_server. let lt = is.stopped life before after (ap (slice_get servers) same_server ∙ at) in omega (arith, lt))
  restart_open how g i found (Some Unformatted) same at = subst (λ x. Every (ClaimIsOpen x) claims) (sym same) open_now
  restart_open how g i found None same at = subst (λ x. Every (ClaimIsOpen x) claims) (sym same) open_now

  stop_open : (g : Group) (i : ℕ) (c : Option Condition) → g.servers ≡ servers → slice_get servers i ≡ c → Every (ClaimIsOpen (stopped g i c).servers) claims
  stop_open g i (Some (Running s)) same at =
      subst (λ x. Every (ClaimIsOpen (slice_set x i (Stopped (suc s.life) s.durable s.durable))) claims) (sym same) (all_stop i (suc s.life) s.durable s.durable (λ c is same_server. let x = open_at i s c at is same_server in omega (arith, x.0)))
  stop_open g i (Some (Stopped life before after)) same at = subst (λ x. Every (ClaimIsOpen x) claims) (sym same) open_now
  stop_open g i (Some Unformatted) same at = subst (λ x. Every (ClaimIsOpen x) claims) (sym same) open_now
  stop_open g i None same at = subst (λ x. Every (ClaimIsOpen x) claims) (sym same) open_now

  only_open : (how : Ending) (g later : Group) → g.servers ≡ servers → Every (ClaimIsOpen later.servers) claims → Every (ClaimIsOpen (only_whole how g later).servers) claims
  only_open Whole g later same is = is
  only_open CutOff g later same is = subst (λ x. Every (ClaimIsOpen x) claims) (sym same) open_now
  only_open Missed g later same is = subst (λ x. Every (ClaimIsOpen x) claims) (sym same) open_now
  only_open Untouched g later same is = subst (λ x. Every (ClaimIsOpen x) claims) (sym same) open_now

removed_apart : {X : Type 0} → (m : Map X) (k q : ℕ) → q ≢ k → FinMap.get (FinMap.remove m k) q ≡ FinMap.get m q
removed_apart m k q apart = get-remove nat_cmp_total m k q ∙ cond-false _ None (FinMap.get m q) (tied q k ∙ ne_eqb q k apart)
  where
    tied : (q k : ℕ) → eq_by_cmp nat_cmp q k ≡ (q == k)
    tied q k = grind (arith, nat_tests)

-- a slot that can be claimed has no job in hand
not_in_hand : (window : ℕ) (s : Server) (slot : ℕ) → claimable window s ≡ Some slot → FinMap.contains_key s.in_hand slot ≡ false
unfolding claimable
not_in_hand window s slot is = by_entry (FinMap.get s.durable.log slot) (found_passes (λ k. is_claimable s (FinMap.get s.durable.log k) k) (range_with_len (suc s.durable.base) window) slot is)
  where
    by_entry : (o : Option Entry) → is_claimable s o slot ≡ true → FinMap.contains_key s.in_hand slot ≡ false
    by_entry None passes = absurd (false≢true passes)
    by_entry (Some e) passes = not-true _ (and_parts _ _ (and_parts _ _ passes).0).1

claimed_job : (s : Server) (slot : ℕ) → FinMap.get (claimed s slot).in_hand slot ≡ Some (op_at s.durable.log slot)
unfolding claimed
claimed_job s slot = get_inserted s.in_hand slot (op_at s.durable.log slot)

claimed_other : (s : Server) (slot k : ℕ) → k ≢ slot → FinMap.get (claimed s slot).in_hand k ≡ FinMap.get s.in_hand k
unfolding claimed
claimed_other s slot k apart = get_apart s.in_hand slot (op_at s.durable.log slot) k apart

claimed_life : (s : Server) (slot : ℕ) → (claimed s slot).life ≡ s.life
unfolding claimed
claimed_life s slot = refl

module _ (g : Group) (claims : List Claimed) (open_now : Every (ClaimIsOpen g.servers) claims) where
  new_claim : (i slot : ℕ) (s : Server) → slice_get g.servers i ≡ Some (Running s) → FinMap.contains_key s.in_hand slot ≡ false → Every (ClaimIsOpen (slice_set g.servers i (Running (claimed s slot)))) (record { server = i; life = s.life; slot = slot; op = op_at s.durable.log slot } ∷ claims)
  new_claim i slot s at free = (
    record {
      running = λ y there. subst (λ x. (s.life ≤ x.life) × (s.life ≡ x.life → FinMap.get x.in_hand slot ≡ Some (op_at s.durable.log slot))) (same_running (claimed s slot) y (same_Some _ _ (sym (set_there g.servers i (Running s) (Running (claimed s slot)) at) ∙ there)))
          (omega (arith, claimed_life s slot), λ _. claimed_job s slot);
      stopped = λ life before after there. absurd (not_stopped (claimed s slot) life before after (same_Some _ _ (sym (set_there g.servers i (Running s) (Running (claimed s slot)) at) ∙ there)));
    },
    every_more (ClaimIsOpen g.servers) (ClaimIsOpen (slice_set g.servers i (Running (claimed s slot)))) (λ c is. runs_on g.servers claims open_now i (claimed s slot) c is (λ same.
        let x = open_at g.servers claims open_now i s c at is same in
        (omega (arith, x.0, claimed_life s slot), λ now. others c (x.1 (now ∙ claimed_life s slot))))) claims open_now,
  )
    where
      same_running : (x y : Server) → Running x ≡ Running y → x ≡ y
      same_running x y e = cc

      not_stopped : (x : Server) (life : ℕ) (before after : Durable) → Running x ≡ Stopped life before after → ⊥
      not_stopped x life before after e = grind (arith, e)

      others : (c : Claimed) → FinMap.get s.in_hand c.slot ≡ Some c.op → FinMap.get (claimed s slot).in_hand c.slot ≡ Some c.op
      others c has = elim (cases_eq c.slot slot) [
        | inl same ↦ absurd (true≢false (sym (ap is_some (ap (FinMap.get s.in_hand) (sym same) ∙ has)) ∙ free))
        | inr apart ↦ claimed_other s slot c.slot apart ∙ has
      ]

  claim_step : (window i : ℕ) (rest : Answer) (later : Group) (c : Option Condition) (slot : Option ℕ) → slice_get g.servers i ≡ c → least_claim window c ≡ slot → Every (ClaimIsOpen (only_whole (ending rest) g later).servers) (claims_with rest claims) → Every (ClaimIsOpen (only_whole (ending (claim_answer_at i c slot rest)) g (claim_or g i slot later)).servers) (claims_with (claim_answer_at i c slot rest) claims)
  claim_step window i rest later (Some (Running s)) (Some slot) at is before =
      subst (λ c. Every (ClaimIsOpen (claim_at g i c (Some slot)).servers) (record { server = i; life = s.life; slot = slot; op = op_at s.durable.log slot } ∷ claims)) (sym at) (new_claim i slot s at (not_in_hand window s slot is))
  claim_step window i rest later (Some (Running s)) None at is before = before
  claim_step window i rest later (Some (Stopped life b a)) (Some slot) at is before = absurd (none-some slot is)
  claim_step window i rest later (Some (Stopped life b a)) None at is before = before
  claim_step window i rest later (Some Unformatted) (Some slot) at is before = absurd (none-some slot is)
  claim_step window i rest later (Some Unformatted) None at is before = before
  claim_step window i rest later None (Some slot) at is before = absurd (none-some slot is)
  claim_step window i rest later None None at is before = before

  claim_open : (window : ℕ) (is : List ℕ) → Every (ClaimIsOpen (only_whole (ending (claim_answer window g is)) g (first_claim window g is)).servers) (claims_with (claim_answer window g is) claims)
  claim_open window [] = open_now
  claim_open window (i ∷ is) = claim_step window i (claim_answer window g is) (first_claim window g is) (slice_get g.servers i) (least_claim window (slice_get g.servers i)) refl refl (claim_open window is)

  -- a job is brought back
  brought_back : (i life slot : ℕ) (rule : Server → Outcome) → ((s : Server) → (rule s).server.life ≡ s.life) → ((s : Server) (k : ℕ) (op : Op) → (s.life ≡ life → k ≡ slot → ⊥) → FinMap.get s.in_hand k ≡ Some op → FinMap.get (rule s).server.in_hand k ≡ Some op) → (how : Ending) → Every (ClaimIsOpen (at_server how g i rule).servers) (claims_without i life slot claims)
  unfolding acted settled cut_off
  brought_back i life slot rule lives jobs how = at_condition how (slice_get g.servers i) refl
    where
      left : (servers : List Condition) → ((c : Claimed) → ClaimIsOpen g.servers c → is_claim i life slot c ≡ false → ClaimIsOpen servers c) → Every (ClaimIsOpen servers) (claims_without i life slot claims)
      left servers f = every_filter (ClaimIsOpen servers) (λ c. not (is_claim i life slot c)) claims (every_more (ClaimIsOpen g.servers) (λ c. not (is_claim i life slot c) ≡ true → ClaimIsOpen servers c) (λ c is isnt. f c is (not-true _ isnt)) claims open_now)

      as_it_was : Every (ClaimIsOpen g.servers) (claims_without i life slot claims)
      as_it_was = left g.servers (λ c is isnt. is)

      not_this : (s : Server) (c : Claimed) → is_claim i life slot c ≡ false → c.server ≡ i → c.life ≡ s.life → s.life ≡ life → c.slot ≡ slot → ⊥
      not_this s c isnt server now this_life this_slot =
          true≢false (sym (and_from _ _ (and_from _ _ (eq-eqb c.server i server) (eq-eqb c.life life (now ∙ this_life))) (eq-eqb c.slot slot this_slot)) ∙ isnt)

      at_condition : (how : Ending) (o : Option Condition) → slice_get g.servers i ≡ o → Every (ClaimIsOpen (server_step_of how g i o rule).servers) (claims_without i life slot claims)
      at_condition Whole (Some (Running s)) at = left (slice_set g.servers i (Running (settled (rule s).server))) (λ c is isnt. runs_on g.servers claims open_now i (settled (rule s).server) c is (λ same.
          let x = open_at g.servers claims open_now i s c at is same in
          (omega (arith, x.0, lives s), λ now. jobs s c.slot c.op (not_this s c isnt same (now ∙ lives s)) (x.1 (now ∙ lives s)))))
      at_condition CutOff (Some (Running s)) at = left (slice_set g.servers i (Stopped (suc s.life) s.durable (rule s).server.durable)) (λ c is isnt. stops g.servers claims open_now i (suc s.life) s.durable (rule s).server.durable c is (λ same. let x = open_at g.servers claims open_now i s c at is same in omega (arith, x.0)))
      at_condition Missed (Some (Running s)) at = as_it_was
      at_condition Untouched (Some (Running s)) at = as_it_was
      at_condition how (Some (Stopped l b a)) at = as_it_was
      at_condition how (Some Unformatted) at = as_it_was
      at_condition how None at = as_it_was

finish_life : (life slot : ℕ) (s : Server) → (on_finish s life slot).server.life ≡ s.life
unfolding on_finish applied_op
finish_life life slot s = by_test (life == s.life) (λ c. (if c then sends (applied_op s slot (FinMap.get s.in_hand slot)) [] else only_answers s (Refused (Stale s.life))).server.life ≡ s.life) (λ _. by_op (FinMap.get s.in_hand slot)) (λ _. refl)
  where
    by_op : (o : Option Op) → (applied_op s slot o).life ≡ s.life
    by_op None = refl
    by_op (Some op) = refl

finish_jobs : (life slot : ℕ) (s : Server) (k : ℕ) (op : Op) → (s.life ≡ life → k ≡ slot → ⊥) → FinMap.get s.in_hand k ≡ Some op → FinMap.get (on_finish s life slot).server.in_hand k ≡ Some op
unfolding on_finish applied_op
finish_jobs life slot s k op apart has =
    by_test (life == s.life) (λ c. (life == s.life) ≡ c → FinMap.get (if c then sends (applied_op s slot (FinMap.get s.in_hand slot)) [] else only_answers s (Refused (Stale s.life))).server.in_hand k ≡ Some op)
    (λ _ now. by_op (apart (sym (eqb-true life s.life now))) (FinMap.get s.in_hand slot)) (λ _ _. has) refl
  where
    by_op : (k ≡ slot → ⊥) → (o : Option Op) → FinMap.get (applied_op s slot o).in_hand k ≡ Some op
    by_op other None = has
    by_op other (Some x) = removed_apart s.in_hand slot k other ∙ has

give_back_life : (life slot : ℕ) (s : Server) → (on_give_back s life slot).server.life ≡ s.life
unfolding on_give_back
give_back_life life slot s = by_test (life == s.life) (λ c. (if c then sends (record s { in_hand = FinMap.remove s.in_hand slot }) [] else sends s []).server.life ≡ s.life) (λ _. refl) (λ _. refl)

give_back_jobs : (life slot : ℕ) (s : Server) (k : ℕ) (op : Op) → (s.life ≡ life → k ≡ slot → ⊥) → FinMap.get s.in_hand k ≡ Some op → FinMap.get (on_give_back s life slot).server.in_hand k ≡ Some op
unfolding on_give_back
give_back_jobs life slot s k op apart has =
    by_test (life == s.life) (λ c. (life == s.life) ≡ c → FinMap.get (if c then sends (record s { in_hand = FinMap.remove s.in_hand slot }) [] else sends s []).server.in_hand k ≡ Some op)
    (λ _ now. removed_apart s.in_hand slot k (apart (sym (eqb-true life s.life now))) ∙ has) (λ _ _. has) refl

election_servers : (how : Ending) (g : Group) → (counted_election how g).servers ≡ g.servers
election_servers Whole g = refl
election_servers CutOff g = refl
election_servers Missed g = refl
election_servers Untouched g = refl

delivery_servers : (how : Ending) (g : Group) (k : ℕ) (p : Sent) → (delivered_in how g k p).servers ≡ g.servers
delivery_servers Whole g k p = refl
delivery_servers CutOff g k p = refl
delivery_servers Missed g k p = refl
delivery_servers Untouched g k p = refl

lost_servers : (g : Group) (k : ℕ) (o : Option Sent) → (lost g k o).servers ≡ g.servers
lost_servers g k None = refl
lost_servers g k (Some p) = refl

deliver_open : (setup : Setup) (g : Group) (claims : List Claimed) → Every (ClaimIsOpen g.servers) claims → (how : Ending) (k : ℕ) (o : Option Sent) → Every (ClaimIsOpen (packet_delivered setup how g k o).servers) claims
unfolding on_packet
deliver_open setup g claims open_now how k None = open_now
deliver_open setup g claims open_now how k (Some p) =
    by_test p.lost (λ c. Every (ClaimIsOpen (if c then g else at_server how (delivered_in how g k p) p.packet.to (λ s. on_packet setup s p.packet)).servers) claims) (λ _. open_now)
    (λ _. server_open g.servers claims open_now how (delivered_in how g k p) p.packet.to (λ s. on_packet setup s p.packet) (delivery_servers how g k p) (λ s. message_keeps s setup p.packet.from p.packet.term p.packet.body))

-- every event
pub happens_open : (setup : Setup) (g : Group) (claims : List Claimed) → Every (ClaimIsOpen g.servers) claims → (event : Event) (answer : Answer) → IsAnswer setup g event answer → Every (ClaimIsOpen (happens setup g event (ending answer)).servers) (claims_after claims event answer)
unfolding happens answer_to may_halt
happens_open setup g claims open_now (Submit i op) answer legal = server_open g.servers claims open_now (ending answer) g i _ refl (λ s. submit_keeps s setup op s.role)
happens_open setup g claims open_now (Fetch i range) answer legal = server_open g.servers claims open_now (ending answer) g i _ refl (λ s. fetch_keeps s range g.reads s.role)
happens_open setup g claims open_now (Deliver k) answer legal = deliver_open setup g claims open_now (ending answer) k (slice_get g.packets k)
happens_open setup g claims open_now (Lose k) answer legal = only_open g.servers claims open_now (ending answer) g _ refl (subst (λ x. Every (ClaimIsOpen x) claims) (sym (lost_servers g k (slice_get g.packets k))) open_now)
happens_open setup g claims open_now (Elect i) answer legal = server_open g.servers claims open_now (ending answer) (counted_election (ending answer) g) i on_elect (election_servers (ending answer) g) elect_keeps
happens_open setup g claims open_now (Resend i) answer legal = server_open g.servers claims open_now (ending answer) g i _ refl (λ s. resend_keeps s s.role)
happens_open setup g claims open_now (Stop i) answer legal = only_open g.servers claims open_now (ending answer) g _ refl (stop_open g.servers claims open_now g i (slice_get g.servers i) refl refl)
happens_open setup g claims open_now (Restart i found) answer legal = restart_open g.servers claims open_now (ending answer) g i found (slice_get g.servers i) refl refl
happens_open setup g claims open_now Claim answer legal =
    elim legal [
      | inl right ↦ subst (λ a. Every (ClaimIsOpen (only_whole (ending a) g (first_claim setup.window g (0 ∷ 1 ∷ 2 ∷ []))).servers) (claims_with a claims)) (sym right) (claim_open g claims open_now setup.window (0 ∷ 1 ∷ 2 ∷ []))
      | inr cut ↦ absurd (false≢true cut.0)
    ]
happens_open setup g claims open_now (Finish i life slot) answer legal = brought_back g claims open_now i life slot (λ s. on_finish s life slot) (finish_life life slot) (finish_jobs life slot) (ending answer)
happens_open setup g claims open_now (GiveBack i life slot) answer legal = brought_back g claims open_now i life slot (λ s. on_give_back s life slot) (give_back_life life slot) (give_back_jobs life slot) (ending answer)
happens_open setup g claims open_now (Checkpoint i) answer legal = server_open g.servers claims open_now (ending answer) g i on_checkpoint refl checkpoint_keeps

open_from : (setup : Setup) (history : History) (g : Group) (claims : List Claimed) → Every (ClaimIsOpen g.servers) claims → IsLegalFrom setup g claims history → Every (ClaimIsOpen (run setup g history).servers) (claims_of claims history)
open_from setup [] g claims open_now legal = open_now
open_from setup (h ∷ hs) g claims open_now legal =
    open_from setup hs (happens setup g h.event (ending h.answer)) (claims_after claims h.event h.answer) (happens_open setup g claims open_now h.event h.answer legal.0.answered) legal.1

-- in every legal history
pub legal_open : (setup : Setup) (history : History) → IsLegal setup history → Every (ClaimIsOpen (replay setup history).servers) (claims_of [] history)
legal_open setup history is = open_from setup history (opening setup) [] tt is.legal
